-- The premises of the guarantee, read off a list of events one by one.
use Rattle.std.proofs.Common.{◌≡◌, ℕ, zero, suc, true, List, [], ◌∷◌, sym, refl, subst, ⊎_elim, arith}
use Rattle.std.proofs.lemmas.Bool.{cases_order}
use Rattle.codes.specs.Places.{AllBelow}
use Rattle.protocol.specs.Plan.{with_side}
use Rattle.protocol.specs.Calls.{Call, Reply, open_call, say_call, hear_call, turn_call, key_call, close_call, begins, turns}
use Rattle.protocol.specs.Runs.{Event}
use Rattle.protocol.specs.Reading.{Among, here, there, event, is_begin, Wrote, Delivered}
use Rattle.protocol.specs.Guarantee.{Block, OpensAs, TurnsWith}

-- one proof after another
infixl 20 ◌then◌
abbrev pub ◌then◌ : {A B : Type 0} → A → B → A × B
a then b = (a, b)

-- what holds at each place below a numeral, place by place
abbrev pub Each : (ℕ → Type 0) → ℕ → Type 0
Each P zero = Unit {0}
Each P (suc n) = Each P n × P n

pub each : (P : ℕ → Type 0) (n : ℕ) → Each P n → AllBelow P n
each P zero all k h = absurd (omega arith)
each P (suc n) all k h =
    ⊎_elim (λ same. subst P (sym same) all.1)
    (⊎_elim (λ less. each P n all.0 k less) (λ more. absurd (omega arith))) (cases_order k n)

-- what holds of each event, the oldest first
abbrev pub Every : (Event → Type 0) → List Event → Type 0
Every P [] = Unit {0}
Every P (e ∷ log) = Every P log × P e

pub every : (P : Event → Type 0) (e : Event) (log : List Event) → Every P log → Among e log → P e
every P e [] all among = elim among [ ]
every P e (f ∷ log) all here = all.1
every P e (f ∷ log) all (there among) = every P e log all.0 among

module _ (block : Block) (h side : ℕ) (key : List ℕ) where
  abbrev pub opens_soundly : ℕ → Call → Reply → Type 0
  opens_soundly handle (open_call p c k memory) reply =
      is_begin reply ≡ true → handle ≡ h → (p ≡ with_side side block.plan) × (c ≡ block.code) × (k ≡ key)
  opens_soundly handle (say_call r buffer) reply = Unit {0}
  opens_soundly handle (hear_call bytes) reply = Unit {0}
  opens_soundly handle (turn_call c room p f w) reply = Unit {0}
  opens_soundly handle (key_call buffer) reply = Unit {0}
  opens_soundly handle close_call reply = Unit {0}

  abbrev pub OpensSoundly : Event → Type 0
  OpensSoundly e = opens_soundly e.handle e.call e.reply

  pub opens_as : (log : List Event) → Every OpensSoundly log → OpensAs block h side key log
  opens_as log all p c k memory among = every OpensSoundly (event h (open_call p c k memory) begins) log all among refl refl

module _ (block : Block) where
  abbrev pub turns_soundly : Call → Type 0
  turns_soundly (open_call p c k memory) = Unit {0}
  turns_soundly (say_call r buffer) = Unit {0}
  turns_soundly (hear_call bytes) = Unit {0}
  turns_soundly (turn_call c room p f w) = c ≡ block.code
  turns_soundly (key_call buffer) = Unit {0}
  turns_soundly close_call = Unit {0}

  abbrev pub TurnsSoundly : Event → Type 0
  TurnsSoundly e = turns_soundly e.call

  pub turns_with : (h : ℕ) (log : List Event) → Every TurnsSoundly log → TurnsWith block h log
  turns_with h log all c room p f w v p' f' among =
      every TurnsSoundly (event h (turn_call c room p f w) (turns v p' f')) log all among

module _ (h other : ℕ) where
  abbrev pub hears_soundly : ℕ → List Event → Call → Type 0
  hears_soundly handle log (open_call p c k memory) = Unit {0}
  hears_soundly handle log (say_call r buffer) = Unit {0}
  hears_soundly handle log (hear_call bytes) = handle ≡ h → Wrote other bytes log
  hears_soundly handle log (turn_call c room p f w) = Unit {0}
  hears_soundly handle log (key_call buffer) = Unit {0}
  hears_soundly handle log close_call = Unit {0}

  abbrev pub HearsSoundly : List Event → Type 0
  HearsSoundly [] = Unit {0}
  HearsSoundly (e ∷ log) = HearsSoundly log × hears_soundly e.handle log e.call

  pub delivered : (log : List Event) → HearsSoundly log → Delivered h other log
  delivered [] all = tt
  delivered (e ∷ log) all = (
    λ bytes what same. subst (λ (f : Event). hears_soundly f.handle log f.call) same all.1 refl,
    delivered log all.0,
  )
