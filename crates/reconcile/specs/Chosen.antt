-- A decoder of one of the kinds that a script names.
use Rattle.std.specs.Prelude.{ℕ, min, List, [], ◌∷◌, Option, Some, None}
use Rattle.decoders.specs.Decoding.{Rule, Room, Formed}
use Rattle.decoders.specs.Pile.{pile_rule, pile_room}
use Rattle.check_rules.specs.Offset.{offset_rule}
use Rattle.check_rules.specs.Table.{table_rule}
use Rattle.check_rules.specs.Sound.{offset_sound, table_sound}
use Rattle.propagation.specs.Course.{propagated, propagation_room}
use Rattle.propagation.specs.Bounds.{propagated_formed}
use Rattle.flipping.specs.Flips.{flipping_rule, flipping_room}
use Rattle.flipping.specs.Formed.{flipping_formed}
use Rattle.check_rules.specs.declared.table.TableRule.{TableRule}
use Rattle.reconcile.specs.declared.command.Choice.{Choice}
use Rattle.reconcile.specs.declared.command.Kind.{Kind}
use Rattle.reconcile.specs.declared.decoding.Chosen.{Chosen}
use Rattle.reconcile.specs.declared.decoding.Chosen.TheVariants.{Offset, Table, Flipping}

abbrev pub chosen_rule : Chosen → Rule
chosen_rule (Offset p) = propagated offset_rule p.limit
chosen_rule (Table p) = propagated (table_rule p.rule.f2a.now p.rule.a2f.now p.rule.raw.now) p.limit
chosen_rule (Flipping f) = flipping_rule f.limit

abbrev pub chosen_room : Chosen → Room
chosen_room (Offset _) = propagation_room
chosen_room (Table _) = propagation_room
chosen_room (Flipping _) = flipping_room

-- what a decoder means
pub record Meaning : Type 0 where
  pub rule : Rule
  pub room : Room

abbrev pub chosen_meaning : Chosen → Meaning
chosen_meaning d = record { rule = chosen_rule d; room = chosen_room d }

abbrev pub named_kind : Kind → ℕ → Option TableRule → Option Meaning
named_kind Kind.Offset limit tables = Some (record { rule = propagated offset_rule (min limit 255); room = propagation_room })
named_kind Kind.Table limit None = None
named_kind Kind.Table limit (Some t) =
    Some (record { rule = propagated (table_rule t.f2a.now t.a2f.now t.raw.now) (min limit 255); room = propagation_room })
named_kind Kind.Flipping limit tables = Some (record { rule = flipping_rule (min limit 65535); room = flipping_room })

-- what a choice names: a table decoder wants tables, and a limit past what its type holds is the most that it holds
abbrev pub named : Choice → Option TableRule → Option Meaning
named c tables = named_kind c.kind c.limit tables

-- the first's answer if that fits, otherwise the second's
abbrev pub piled : Option Meaning → Option Meaning → Option Meaning
piled (Some a) (Some b) = Some (record { rule = pile_rule a.rule b.rule; room = pile_room a.room b.room })
piled (Some a) None = None
piled None b = None

-- the first asked first; before any choice it is offset 64
abbrev pub all_named : List Choice → Option TableRule → Option Meaning
all_named [] tables = named_kind Kind.Offset 64 tables
all_named (a ∷ []) tables = named a tables
all_named (a ∷ b ∷ []) tables = piled (named a tables) (named b tables)
all_named (a ∷ b ∷ c ∷ _) tables = piled (piled (named a tables) (named b tables)) (named c tables)

-- the law of a decoder
pub chosen_formed : (d : Chosen) → Formed (chosen_rule d)
chosen_formed (Offset p) = propagated_formed offset_rule offset_sound p.limit
chosen_formed (Table p) =
    let t = p.rule in
    propagated_formed (table_rule t.f2a.now t.a2f.now t.raw.now) (table_sound t.f2a.now t.a2f.now t.raw.now t.sound) p.limit
chosen_formed (Flipping f) = flipping_formed f.limit
