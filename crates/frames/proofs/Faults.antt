-- From what the reader finds, part after part, to what the bytes are read as.
use Rattle.std.proofs.Common.{◌≡◌, ℕ, ◌+◌, ◌-◌, ◌<◌, ◌≤◌, max, true, false, cond, ◌||◌, eqb, ltb, List, length, get_or, take, drop, Ok, Err, is_err, Result, sum, sym, refl, ap, ◌∙◌, subst, ⊎_elim, arith, lit<}
use Rattle.std.proofs.lemmas.List.{length-drop}
use Rattle.std.proofs.lemmas.Bool.{cases_lt, both_ways, ltb-true, eqb-true, lt-ltb, le-ltb, eq-eqb, ne_eqb, cond-true, cond-false, or_right, or_left, or_from}
use Rattle.std.proofs.lemmas.Grind.{common_steps}
use Rattle.codes.specs.Places.{AllBelow, FirstFault}
use Rattle.runs.specs.Bits.{bytes_for, unpacked, SoundByte, SoundLast}
use Rattle.runs.proofs.Packed.{long_enough, unpacked-take}
use Rattle.runs.proofs.Bytes.{octal}
use Rattle.frames.specs.declared.side.Side.{Side}
use Rattle.frames.specs.declared.side.Side.TheVariants.{Alice, Bob}
use Rattle.frames.specs.declared.kind.UnknownKind.{UnknownKind}
use Rattle.frames.specs.declared.side.UnknownSide.{UnknownSide}
use Rattle.frames.specs.declared.kind.Kind.{Kind}
use Rattle.frames.specs.declared.kind.Kind.TheVariants.{Syndrome, Disclosure}
use Rattle.frames.specs.Numbers.{kind_number, side_number, KindNumbered, SideNumbered}
use Rattle.frames.specs.Shape.{syndrome_frame, disclosure_frame}
use Rattle.frames.specs.Reading.{Head, HeadThen, kind_in, side_in, round_in, map_in, value_bytes, frame_in, frame_length, head_tests, clear_test, body_test, right_byte, outcome, read_shape}
use Rattle.frames.specs.declared.refusal.FrameRefusal.TheVariants.{WrongByte}
use Rattle.frames.proofs.Firsts.{three, three_parts, none_wrong, first_wrong_is}

pub side-small : (side : Side) → side_number side < 2
side-small Alice = lit< tt
side-small Bob = lit< tt

abbrev pub span : ℕ → ℕ → List ℕ → ℕ
span n m bytes = max (length bytes) (frame_length n m bytes)

abbrev pub Right : ℕ → ℕ → List ℕ → ℕ → Type 0
Right n m bytes k = right_byte n m bytes k ≡ true

module _ (n m : ℕ) (bytes : List ℕ) where
  pub fault_at : (i : ℕ) → i < span n m bytes → (Right n m bytes i → ⊥) → AllBelow (Right n m bytes) i → read_shape n m bytes ≡ Err (WrongByte i)
  unfolding read_shape
  fault_at i l bad good = ap (outcome (frame_in n m bytes)) (first_wrong_is (right_byte n m bytes) (span n m bytes) i (l, bad, good))

  pub all_read : AllBelow (Right n m bytes) (span n m bytes) → read_shape n m bytes ≡ Ok (frame_in n m bytes)
  unfolding read_shape
  all_read good = ap (outcome (frame_in n m bytes)) (none_wrong (right_byte n m bytes) (span n m bytes) good)

  -- a right byte is there, is not extra, and passes its test
  pub right_parts : (k : ℕ) → Right n m bytes k
      → (k < length bytes) × (k < frame_length n m bytes) × (cond (ltb k 8) (get_or (head_tests bytes) k true) (body_test n m bytes (k - 8)) ≡ true)
  unfolding right_byte
  right_parts k r = grind (arith, common_steps, ltb-true, three_parts)

  right_from : (k : ℕ) → k < length bytes → k < frame_length n m bytes
      → cond (ltb k 8) (get_or (head_tests bytes) k true) (body_test n m bytes (k - 8)) ≡ true → Right n m bytes k
  unfolding right_byte
  right_from k l f t = three _ _ _ (lt-ltb k (length bytes) l) (lt-ltb k (frame_length n m bytes) f) t

  -- the head's bytes below L are right
  pub head_right : (L : ℕ) → L ≤ length bytes → (0 < L → get_or (head_tests bytes) 0 true ≡ true) → (1 < L → get_or (head_tests bytes) 1 true ≡ true)
      → (6 < L → get_or (head_tests bytes) 6 true ≡ true) → (k : ℕ) → k < 8 → k < L → Right n m bytes k
  head_right L there kind side round =
      octal (λ k. k < L → Right n m bytes k)
      (λ l. right_from 0 (omega arith) (omega arith) (kind l))
      (λ l. right_from 1 (omega arith) (omega arith) (side l))
      (λ l. right_from 2 (omega arith) (omega arith) refl)
      (λ l. right_from 3 (omega arith) (omega arith) refl)
      (λ l. right_from 4 (omega arith) (omega arith) refl)
      (λ l. right_from 5 (omega arith) (omega arith) refl)
      (λ l. right_from 6 (omega arith) (omega arith) (round l))
      (λ l. right_from 7 (omega arith) (omega arith) refl)

  -- behind the head
  pub body_right : (q : ℕ) → 8 + q < length bytes → 8 + q < frame_length n m bytes → body_test n m bytes q ≡ true → Right n m bytes (8 + q)
  body_right q l f t =
      right_from (8 + q) l f
      (cond-false (ltb (8 + q) 8) _ _ (le-ltb (8 + q) 8 (omega arith))
      ∙ ap (body_test n m bytes) (let e : 8 + q - 8 ≡ q = omega arith in e) ∙ t)

  pub body_parts : (q : ℕ) → Right n m bytes (8 + q) → (8 + q < length bytes) × (8 + q < frame_length n m bytes) × (body_test n m bytes q ≡ true)
  body_parts q r =
      let p = right_parts (8 + q) r in (
        p.0,
        p.1,
        sym (cond-false (ltb (8 + q) 8) _ _ (le-ltb (8 + q) 8 (omega arith))
            ∙ ap (body_test n m bytes) (let e : 8 + q - 8 ≡ q = omega arith in e)) ∙ p.2,
      )

-- the places of the head, and those behind it
split : (P : ℕ → Type 0) (a N : ℕ) → AllBelow P a → ((q : ℕ) → a + q < N → P (a + q)) → AllBelow P N
split P a N front back k l =
    ⊎_elim (front k) (λ h. let e : a + (k - a) ≡ k = omega arith in subst P e (back (k - a) (omega arith))) (cases_lt k a)

-- a syndrome, its head read: the body is to be a run of m bits and nothing more
module _ (n m side block : ℕ) (bytes : List ℕ) (h : Head 1 side block 0 bytes) (s : side < 2) where
  kind_1 : eqb (kind_in bytes) 1 ≡ true
  kind_1 = eq-eqb (kind_in bytes) 1 h.of_kind

  pub head_1 : AllBelow (Right n m bytes) 8
  head_1 k l = grind (arith, common_steps, cond-true, eq-eqb, head_right, kind_1, lt-ltb, or_right)

  pub length_1 : frame_length n m bytes ≡ 8 + bytes_for m
  length_1 = ap (λ (x : ℕ). 8 + x) (cond-true _ _ _ kind_1)

  last_right : (q : ℕ) → SoundLast m (drop 8 bytes) q → Right n m bytes (8 + q)
  last_right q sound = grind (arith, common_steps, body_right, cond-true, eq-eqb, kind_1, length-drop, length_1)

  pub right_last : (q : ℕ) → Right n m bytes (8 + q) → SoundLast m (drop 8 bytes) q
  right_last q r = grind (arith, common_steps, body_parts, cond-true, eqb-true, kind_1, length-drop, length_1)

  pub syndrome_fault : (q : ℕ) → FirstFault (SoundLast m (drop 8 bytes)) (max (length (drop 8 bytes)) (bytes_for m)) q → read_shape n m bytes ≡ Err (WrongByte (8 + q))
  syndrome_fault q f =
      fault_at n m bytes (8 + q) (omega (arith, length_1, length-drop 8 bytes, f.0)) (λ r. f.1 (right_last q r))
      (split (Right n m bytes) 8 (8 + q) head_1 (λ j l. last_right j (f.2 j (omega arith))))

  pub syndrome-read : length (drop 8 bytes) ≡ bytes_for m → AllBelow (SoundByte m (drop 8 bytes)) (bytes_for m)
      → read_shape n m bytes ≡ Ok (syndrome_frame side block (unpacked m (drop 8 bytes)))
  syndrome-read long sound =
      all_read n m bytes
      (split (Right n m bytes) 8 (span n m bytes) head_1
      (λ j l. let w : j < bytes_for m = omega (arith, length_1, length-drop 8 bytes) in last_right j (w, sound j w)))
      ∙ ap Ok (cond-true _ _ _ kind_1 ∙ (let e = h.of_side in let b = h.of_block in cc))

-- the same of the body that stands behind the head
module _ (n m block q : ℕ) (side : Side) (body bytes : List ℕ) (h : HeadThen 1 (side_number side) block 0 body bytes) where
  pub syndrome_fault_behind : FirstFault (SoundLast m body) (max (length body) (bytes_for m)) q → read_shape n m bytes ≡ Err (WrongByte (8 + q))
  syndrome_fault_behind f =
      let same = sym h.behind in
      syndrome_fault n m (side_number side) block bytes h.head (side-small side) q
      (subst (λ (b : List ℕ). FirstFault (SoundLast m b) (max (length b) (bytes_for m)) q) same f)

module _ (n m block : ℕ) (side : Side) (body bytes bits : List ℕ) (h : HeadThen 1 (side_number side) block 0 body bytes) where
  pub syndrome_read_behind : length body ≡ bytes_for m → AllBelow (SoundByte m body) (bytes_for m) → bits ≡ unpacked m body
      → read_shape n m bytes ≡ Ok (syndrome_frame (side_number side) block bits)
  syndrome_read_behind long sound is =
      let run = subst (λ (b : List ℕ). (length b ≡ bytes_for m) × AllBelow (SoundByte m b) (bytes_for m)) (sym h.behind) (long, sound) in
      let read = syndrome-read n m (side_number side) block bytes h.head (side-small side) run.0 run.1 in
      let at = h.behind in
      cc

-- a disclosure, its head read: the body is to begin with the map, and the values are to be the rest
module _ (n m side block round : ℕ) (bytes : List ℕ) (h : Head 2 side block round bytes) (s : side < 2) (later : 1 ≤ round) where
  abbrev ones : ℕ
  ones = sum (map_in n bytes)

  not_1 : eqb (kind_in bytes) 1 ≡ false
  not_1 = ne_eqb (kind_in bytes) 1 (λ e. omega (arith, h.of_kind))

  pub head_2 : AllBelow (Right n m bytes) 8
  head_2 k l = grind (arith, common_steps, cond-false, eq-eqb, head_right, lt-ltb, not_1, or_right)

  pub length_2 : frame_length n m bytes ≡ 8 + (bytes_for n + bytes_for ones)
  length_2 = ap (λ (x : ℕ). 8 + x) (cond-false _ _ _ not_1)

  map_test : (q : ℕ) → q < bytes_for n → body_test n m bytes q ≡ clear_test n (drop 8 bytes) q
  map_test q l = cond-false _ _ _ not_1 ∙ cond-true _ _ _ (lt-ltb q (bytes_for n) l)

  value_test : (j : ℕ) → body_test n m bytes (bytes_for n + j) ≡ clear_test ones (value_bytes n bytes) j
  value_test j =
      cond-false _ _ _ not_1 ∙ cond-false _ _ _ (le-ltb (bytes_for n + j) (bytes_for n) (omega arith))
      ∙ ap (clear_test ones (value_bytes n bytes)) (let e : bytes_for n + j - bytes_for n ≡ j = omega arith in e)

  pub value-length : length (value_bytes n bytes) ≡ length bytes - 8 - bytes_for n
  value-length = length-drop (bytes_for n) (drop 8 bytes) ∙ ap (λ (x : ℕ). x - bytes_for n) (length-drop 8 bytes)

  map_right : (q : ℕ) → q < bytes_for n → SoundByte n (drop 8 bytes) q → Right n m bytes (8 + q)
  map_right q l sound = grind (arith, common_steps, body_right, eq-eqb, length-drop, length_2, map_test)

  pub right_map : (q : ℕ) → q < bytes_for n → Right n m bytes (8 + q) → SoundByte n (drop 8 bytes) q
  right_map q l r = grind (arith, common_steps, body_parts, eqb-true, length-drop, map_test)

  value_right : (j : ℕ) → SoundLast ones (value_bytes n bytes) j → Right n m bytes (8 + (bytes_for n + j))
  value_right j sound = grind (arith, common_steps, body_right, eq-eqb, length_2, value-length, value_test)

  pub right_value : (j : ℕ) → Right n m bytes (8 + (bytes_for n + j)) → SoundLast ones (value_bytes n bytes) j
  right_value j r = grind (arith, common_steps, body_parts, eqb-true, length_2, value-length, value_test)

  pub map_fault : (q : ℕ) → FirstFault (SoundByte n (drop 8 bytes)) (bytes_for n) q → read_shape n m bytes ≡ Err (WrongByte (8 + q))
  map_fault q f =
      fault_at n m bytes (8 + q) (omega (arith, length_2, f.0)) (λ r. f.1 (right_map q f.0 r))
      (split (Right n m bytes) 8 (8 + q) head_2 (λ j l. map_right j (omega (arith, f.0)) (f.2 j (omega arith))))

  -- the head and the map are right
  front : AllBelow (SoundByte n (drop 8 bytes)) (bytes_for n) → AllBelow (Right n m bytes) (8 + bytes_for n)
  front sound = split (Right n m bytes) 8 (8 + bytes_for n) head_2 (λ j l. let w : j < bytes_for n = omega arith in map_right j w (sound j w))

  behind : (j : ℕ) → Right n m bytes (8 + (bytes_for n + j)) → Right n m bytes (8 + bytes_for n + j)
  behind j = let e : 8 + (bytes_for n + j) ≡ 8 + bytes_for n + j = omega arith in subst (Right n m bytes) e

  pub value_fault : (j : ℕ) → AllBelow (SoundByte n (drop 8 bytes)) (bytes_for n)
      → FirstFault (SoundLast ones (value_bytes n bytes)) (max (length (value_bytes n bytes)) (bytes_for ones)) j → read_shape n m bytes ≡ Err (WrongByte (8 + (bytes_for n + j)))
  value_fault j sound f =
      let room = long_enough n (drop 8 bytes) sound in
      fault_at n m bytes (8 + (bytes_for n + j)) (omega (arith, length_2, value-length, length-drop 8 bytes, f.0)) (λ r. f.1 (right_value j r))
      (split (Right n m bytes) (8 + bytes_for n) (8 + (bytes_for n + j)) (front sound) (λ i l. behind i (value_right i (f.2 i (omega arith)))))

  pub disclosure_read : AllBelow (SoundByte n (drop 8 bytes)) (bytes_for n) → length (value_bytes n bytes) ≡ bytes_for ones → AllBelow (SoundByte ones (value_bytes n bytes)) (bytes_for ones)
      → read_shape n m bytes ≡ Ok (disclosure_frame side block round (map_in n bytes) (unpacked ones (value_bytes n bytes)))
  disclosure_read sound long sounds =
      let room = long_enough n (drop 8 bytes) sound in
      all_read n m bytes
      (split (Right n m bytes) (8 + bytes_for n) (span n m bytes) (front sound)
      (λ j l. let w : j < bytes_for ones = omega (arith, length_2, value-length, length-drop 8 bytes) in behind j (value_right j (w, sounds j w))))
      ∙ ap Ok (cond-false _ _ _ not_1 ∙ (let e = h.of_side in let b = h.of_block in let r = h.of_round in cc))

-- the same by the parts that the code cuts the body into
module _ (n m side block round : ℕ) (bytes body front rest named : List ℕ) (k count : ℕ)
    (h : Head 2 side block round bytes) (s : side < 2) (later : 1 ≤ round)
    (is : drop 8 bytes ≡ body) (long : k ≡ bytes_for n) (cut : front ≡ take k body) (after : rest ≡ drop k body)
    (run : named ≡ unpacked n front) (counted : count ≡ sum named) where
  same-named : named ≡ map_in n bytes
  same-named = let t = unpacked-take n k body (omega arith) in cc

  same_count : count ≡ sum (map_in n bytes)
  same_count = let e = same-named in cc

  same_rest : rest ≡ value_bytes n bytes
  same_rest = cc

  sound-map : AllBelow (SoundByte n body) (bytes_for n) → AllBelow (SoundByte n (drop 8 bytes)) (bytes_for n)
  sound-map = subst (λ (b : List ℕ). AllBelow (SoundByte n b) (bytes_for n)) (sym is)

  pub value_fault_cut : (j : ℕ) → AllBelow (SoundByte n body) (bytes_for n)
      → FirstFault (SoundLast count rest) (max (length rest) (bytes_for count)) j → read_shape n m bytes ≡ Err (WrongByte (8 + k + j))
  value_fault_cut j sound f =
      let f₁ = subst (λ (c : ℕ). FirstFault (SoundLast c rest) (max (length rest) (bytes_for c)) j) same_count f in
      let f₂ = subst (λ (r : List ℕ). FirstFault (SoundLast (sum (map_in n bytes)) r) (max (length r) (bytes_for (sum (map_in n bytes)))) j) same_rest f₁ in
      let place : 8 + (bytes_for n + j) ≡ 8 + k + j = omega arith in
      value_fault n m side block round bytes h s later j (sound-map sound) f₂ ∙ ap (λ (i : ℕ). Err (WrongByte i)) place

  pub disclosure_read_cut : AllBelow (SoundByte n body) (bytes_for n) → length rest ≡ bytes_for count → AllBelow (SoundByte count rest) (bytes_for count)
      → read_shape n m bytes ≡ Ok (disclosure_frame side block round named (unpacked count rest))
  disclosure_read_cut sound fits sounds =
      let sounds₁ = subst (λ (c : ℕ). AllBelow (SoundByte c rest) (bytes_for c)) same_count sounds in
      let sounds₂ = subst (λ (r : List ℕ). AllBelow (SoundByte (sum (map_in n bytes)) r) (bytes_for (sum (map_in n bytes)))) same_rest sounds₁ in
      let a = same-named in
      let b = same_count in
      let r = same_rest in
      let fits' : length (value_bytes n bytes) ≡ bytes_for (sum (map_in n bytes)) = cc in
      let read = disclosure_read n m side block round bytes h s later (sound-map sound) fits' sounds₂ in
      cc

-- a head that is cut or wrong
known_kind : (kind : Kind) (k : ℕ) → kind_number kind ≡ k → (eqb k 1 || eqb k 2) ≡ true
known_kind Syndrome k e = grind (arith, common_steps)
known_kind Disclosure k e = grind (arith, common_steps)

no_kind : (k : ℕ) → ((kind : Kind) → kind_number kind ≡ k → ⊥) → (eqb k 1 || eqb k 2) ≡ false
no_kind k none = let one = none Syndrome in let two = none Disclosure in grind (arith, common_steps)

no_side : (s : ℕ) → ((side : Side) → side_number side ≡ s → ⊥) → 2 ≤ s
no_side s none = let zero = none Alice in let one = none Bob in omega arith

module _ (n m : ℕ) (bytes : List ℕ) where
  abbrev Known : Type 0
  Known = (eqb (kind_in bytes) 1 || eqb (kind_in bytes) 2) ≡ true

  pub wrong_kind : ((kind : Kind) → kind_number kind ≡ kind_in bytes → ⊥) → read_shape n m bytes ≡ Err (WrongByte 0)
  wrong_kind none =
      fault_at n m bytes 0 (omega arith) (λ r. both_ways _ (no_kind (kind_in bytes) none) (right_parts n m bytes 0 r).2) (λ k l. absurd (omega arith))

  pub wrong_side : (kind : Kind) → kind_number kind ≡ kind_in bytes → 1 < length bytes
      → ((side : Side) → side_number side ≡ side_in bytes → ⊥) → read_shape n m bytes ≡ Err (WrongByte 1)
  wrong_side kind known there none =
      fault_at n m bytes 1 (omega arith)
      (λ r. both_ways _ (le-ltb (side_in bytes) 2 (no_side (side_in bytes) none)) (right_parts n m bytes 1 r).2)
      (λ i l. head_right n m bytes 1 (omega arith) (λ _. known_kind kind (kind_in bytes) known)
      (λ h. absurd (omega arith)) (λ h. absurd (omega arith)) i (omega arith) l)

  pub wrong_round : 8 ≤ length bytes → Known → side_in bytes < 2
      → cond (eqb (kind_in bytes) 1) (eqb (round_in bytes) 0) (ltb 0 (round_in bytes)) ≡ false → read_shape n m bytes ≡ Err (WrongByte 6)
  wrong_round there k small bad =
      fault_at n m bytes 6 (omega arith)
      (λ r. both_ways _ (or_from _ _ (le-ltb (length bytes) 8 there) bad) (right_parts n m bytes 6 r).2)
      (λ i l. head_right n m bytes 6 (omega arith) (λ _. k) (λ _. lt-ltb (side_in bytes) 2 small) (λ h. absurd (omega arith)) i (omega arith) l)

  pub cut_head : length bytes < 8 → (0 < length bytes → Known) → (1 < length bytes → side_in bytes < 2) → read_shape n m bytes ≡ Err (WrongByte (length bytes))
  cut_head short k small =
      fault_at n m bytes (length bytes) (omega arith)
      (λ r. omega (arith, (right_parts n m bytes (length bytes) r).0))
      (λ i l. head_right n m bytes (length bytes) (omega arith) k (λ h. lt-ltb (side_in bytes) 2 (small h))
      (λ h. or_left _ _ (lt-ltb (length bytes) 8 short)) i (omega arith) l)

  pub cut_at_kind : length bytes ≡ 0 → read_shape n m bytes ≡ Err (WrongByte (length bytes))
  cut_at_kind none = cut_head (omega arith) (λ h. absurd (omega arith)) (λ h. absurd (omega arith))

  pub cut_at_side : (kind : Kind) → kind_number kind ≡ kind_in bytes → length bytes ≡ 1 → read_shape n m bytes ≡ Err (WrongByte (length bytes))
  cut_at_side kind known one = cut_head (omega arith) (λ h. known_kind kind (kind_in bytes) known) (λ h. absurd (omega arith))

  pub cut_behind : (kind : Kind) (side : Side) → kind_number kind ≡ kind_in bytes → side_number side ≡ side_in bytes → length bytes < 8
      → read_shape n m bytes ≡ Err (WrongByte (length bytes))
  cut_behind kind side known end short = grind (arith, common_steps, cut_head, known_kind, side-small)

  pub late_syndrome : (side : Side) → kind_in bytes ≡ 1 → side_number side ≡ side_in bytes → 8 ≤ length bytes → 1 ≤ round_in bytes
      → read_shape n m bytes ≡ Err (WrongByte 6)
  late_syndrome side kind end there late = grind (arith, common_steps, known_kind, side-small, wrong_round)

  pub early_disclosure : (side : Side) → kind_in bytes ≡ 2 → side_number side ≡ side_in bytes → 8 ≤ length bytes → round_in bytes ≡ 0
      → read_shape n m bytes ≡ Err (WrongByte 6)
  early_disclosure side kind end there early = grind (arith, common_steps, known_kind, side-small, wrong_round)

-- what was read of a kind or a side, or that nothing was
pub wrong_side_read : (n m : ℕ) (bytes : List ℕ) (k : Result Kind UnknownKind) (s : Result Side UnknownSide)
    → KindNumbered (kind_in bytes) k → SideNumbered (side_in bytes) s
    → is_err k ≡ false → is_err s ≡ true → 1 < length bytes → read_shape n m bytes ≡ Err (WrongByte 1)
wrong_side_read n m bytes (Ok kind) (Err u) known none is_ok is_wrong there = wrong_side n m bytes kind known there none.1
wrong_side_read n m bytes (Ok kind) (Ok side) known end is_ok is_wrong there = absurd (both_ways false refl is_wrong)
wrong_side_read n m bytes (Err u) s none end is_ok is_wrong there = absurd (both_ways true is_ok refl)

pub cut_at_side_read : (n m : ℕ) (bytes : List ℕ) (k : Result Kind UnknownKind) → KindNumbered (kind_in bytes) k → is_err k ≡ false → length bytes ≡ 1
    → read_shape n m bytes ≡ Err (WrongByte (length bytes))
cut_at_side_read n m bytes (Ok kind) known is_ok one = cut_at_side n m bytes kind known one
cut_at_side_read n m bytes (Err u) none is_ok one = absurd (both_ways true is_ok refl)

pub cut_behind_read : (n m : ℕ) (bytes : List ℕ) (k : Result Kind UnknownKind) (s : Result Side UnknownSide)
    → KindNumbered (kind_in bytes) k → SideNumbered (side_in bytes) s
    → is_err k ≡ false → is_err s ≡ false → length bytes < 8 → read_shape n m bytes ≡ Err (WrongByte (length bytes))
cut_behind_read n m bytes (Ok kind) (Ok side) known end is_ok is_right short = cut_behind n m bytes kind side known end short
cut_behind_read n m bytes (Ok kind) (Err u) known end is_ok is_right short = absurd (both_ways true is_right refl)
cut_behind_read n m bytes (Err u) s none end is_ok is_right short = absurd (both_ways true is_ok refl)

pub ruleset cut = (wrong_kind, wrong_side_read, cut_at_kind, cut_at_side_read, cut_behind_read)

pub ruleset head_faults = (wrong_kind, wrong_side, late_syndrome, early_disclosure)
