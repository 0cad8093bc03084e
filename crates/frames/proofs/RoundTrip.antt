-- What is written is read back, and what is read is what writing gives.
use Rattle.std.proofs.Common.{◌≡◌, ℕ, ◌+◌, ◌*◌, ◌/◌, ◌%◌, ◌^◌, ◌<◌, ◌≤◌, true, false, cond, eqb, ltb, List, [], ◌∷◌, ◌++◌, length, get_or, take, drop, IfOk, Some, None, Ok, Err, sum, Option, Result, sym, refl, ap, ◌∙◌, subst, ⊎_elim, arith}
use Rattle.std.proofs.lemmas.List.{length-drop, length-append, drop_at, get_or_append_left, get_or-drop, get_or-take, get_or_past, length-take, length-take-le, take-append-drop}
use Rattle.std.proofs.lemmas.Bool.{cases_lt, both_ways, ltb-true, eqb-true, le-ltb, eq-eqb, ne_eqb, cond-true, cond-false, or_cases}
use Rattle.std.proofs.lemmas.Nat.{shr-shr}
use Rattle.codes.specs.Places.{AllBelow}
use Rattle.runs.specs.Bits.{bytes_for, unpacked, packed, SoundByte, IsBits, IsBytes, IsRun}
use Rattle.runs.proofs.Packed.{length-unpacked, unpacked-bits, unpacked-packed, packed-unpacked, packed_is_run, unpacked-front, unpacked-take, long_enough}
use Rattle.frames.specs.Shape.{FrameShape, syndrome_frame, disclosure_frame, WellFormed}
use Rattle.frames.specs.Format.{head_bytes, frame_bytes}
use Rattle.frames.specs.Reading.{Head, kind_in, side_in, block_in, round_in, map_in, value_bytes, frame_in, frame_length, first_wrong, right_byte, outcome, read_shape}
use Rattle.frames.specs.Of.{shape_of, reading_of}
use Rattle.frames.specs.declared.frame.Frame.{Frame}
use Rattle.frames.specs.declared.refusal.FrameRefusal.{FrameRefusal}
use Rattle.frames.proofs.Firsts.{all_right}
use Rattle.frames.proofs.Faults.{span, Right, right_parts, syndrome-read, disclosure_read, right_last, right_map, right_value, length_1, length_2, value-length}
use Rattle.std.proofs.lemmas.Grind.{common_steps}

-- four bytes make the number again
four_bytes : (x : ℕ) → x < 2 ^ 32 → x / 2 ^ 24 % 256 * 2 ^ 24 + x / 2 ^ 16 % 256 * 2 ^ 16 + x / 2 ^ 8 % 256 * 2 ^ 8 + x % 256 ≡ x
four_bytes x l =
    let a : x / 256 / 256 ≡ x / 65536 = shr-shr x 8 8 in
    let b : x / 65536 / 256 ≡ x / 16777216 = shr-shr x 16 8 in
    let top : x / 16777216 < 256 = omega arith in
    go (x / 256) (x / 65536) (x / 16777216) (omega arith) (omega arith) (omega arith) top
  where
    go : (p q r : ℕ) → p * 256 + x % 256 ≡ x → q * 256 + p % 256 ≡ p → r * 256 + q % 256 ≡ q → r < 256 → r % 256 * 16777216 + q % 256 * 65536 + p % 256 * 256 + x % 256 ≡ x
    go p q r e₁ e₂ e₃ top = let t : r % 256 ≡ r = omega arith in omega arith

-- a head is read back from its bytes
written_head : (kind side block round : ℕ) (body : List ℕ) → block < 2 ^ 32 → round < 2 ^ 16 → Head kind side block round (head_bytes kind side block round ++ body)
written_head kind side block round body b r = record { whole = omega arith; of_kind = refl; of_side = refl; of_block = four_bytes block b; of_round = omega arith }

syndrome_back : (n side block : ℕ) (bits : List ℕ) → side < 2 → block < 2 ^ 32 → IsBits bits
    → read_shape n (length bits) (head_bytes 1 side block 0 ++ packed bits) ≡ Ok (syndrome_frame side block bits)
syndrome_back n side block bits s b small = grind (arith, common_steps, packed_is_run, syndrome-read, unpacked-packed, written_head)

disclosure_back : (m side block round : ℕ) (named values : List ℕ) → side < 2 → block < 2 ^ 32 → 1 ≤ round → round < 2 ^ 16 → IsBits named → length values ≡ sum named → IsBits values
    → read_shape (length named) m (head_bytes 2 side block round ++ (packed named ++ packed values)) ≡ Ok (disclosure_frame side block round named values)
disclosure_back m side block round named values s b later r small count smalls =
    let n = length named in
    let body = packed named ++ packed values in
    let bytes = head_bytes 2 side block round ++ body in
    let run = packed_is_run named small in
    let more = packed_is_run values smalls in
    let long : length (packed named) ≡ bytes_for n = run.long in
    let front : unpacked n body ≡ named = unpacked-front n (packed named) (packed values) (omega arith) ∙ unpacked-packed named small in
    let rest : drop (bytes_for n) body ≡ packed values = drop_at (packed named) (packed values) (bytes_for n) long in
    let ones : sum (unpacked n body) ≡ length values = ap sum front ∙ sym count in
    let sound : AllBelow (SoundByte n body) (bytes_for n) = λ q l.
    let here : get_or body q 0 ≡ get_or (packed named) q 0 = get_or_append_left (packed named) (packed values) 0 q (omega arith) in
    (omega (arith, length-append (packed named) (packed values)), rw here (run.sound q l).1) in
    let values₁ = subst (λ (xs : List ℕ). (length xs ≡ bytes_for (length values)) × AllBelow (SoundByte (length values) xs) (bytes_for (length values))) (sym rest) (more.long, more.sound) in
    let values₂ = subst (λ (c : ℕ). (length (drop (bytes_for n) body) ≡ bytes_for c) × AllBelow (SoundByte c (drop (bytes_for n) body)) (bytes_for c)) (sym ones) values₁ in
    let read = disclosure_read n m side block round bytes (written_head 2 side block round body b r) s later sound values₂.0 values₂.1 in
    let back = unpacked-packed values smalls in
    cc

pub read_back : (n m : ℕ) (shape : FrameShape) → WellFormed n m shape → read_shape n m (frame_bytes shape) ≡ Ok shape
unfolding frame_bytes
read_back n m (syndrome_frame side block bits) w =
    subst (λ (m : ℕ). read_shape n m (head_bytes 1 side block 0 ++ packed bits) ≡ Ok (syndrome_frame side block bits)) w.2
    (syndrome_back n side block bits w.0 w.1 w.3)
read_back n m (disclosure_frame side block round named values) w =
    subst (λ (n : ℕ). read_shape n m (head_bytes 2 side block round ++ (packed named ++ packed values)) ≡ Ok (disclosure_frame side block round named values)) w.4
    (disclosure_back m side block round named values w.0 w.1 w.2 w.3 w.5 w.6 w.7)

-- bytes are their head and what stands behind it
head_back : (bytes : List ℕ) → 8 ≤ length bytes → IsBytes bytes → head_bytes (kind_in bytes) (side_in bytes) (block_in bytes) (round_in bytes) ++ drop 8 bytes ≡ bytes
head_back [] l small = absurd (omega arith)
head_back (a ∷ []) l small = absurd (omega arith)
head_back (a ∷ b ∷ []) l small = absurd (omega arith)
head_back (a ∷ b ∷ c ∷ []) l small = absurd (omega arith)
head_back (a ∷ b ∷ c ∷ d ∷ []) l small = absurd (omega arith)
head_back (a ∷ b ∷ c ∷ d ∷ e ∷ []) l small = absurd (omega arith)
head_back (a ∷ b ∷ c ∷ d ∷ e ∷ f ∷ []) l small = absurd (omega arith)
head_back (a ∷ b ∷ c ∷ d ∷ e ∷ f ∷ g ∷ []) l small = absurd (omega arith)
head_back (a ∷ b ∷ c ∷ d ∷ e ∷ f ∷ g ∷ h ∷ rest) l small =
    let sc : c < 256 = small 2 in
    let sd : d < 256 = small 3 in
    let se : e < 256 = small 4 in
    let sf : f < 256 = small 5 in
    let sg : g < 256 = small 6 in
    let sh : h < 256 = small 7 in
    let block = c * 2 ^ 24 + d * 2 ^ 16 + e * 2 ^ 8 + f in
    let round = g * 2 ^ 8 + h in
    let ec : block / 2 ^ 24 % 256 ≡ c = omega arith in
    let ed : block / 2 ^ 16 % 256 ≡ d = omega arith in
    let ee : block / 2 ^ 8 % 256 ≡ e = omega arith in
    let ef : block % 256 ≡ f = omega arith in
    let eg : round / 2 ^ 8 % 256 ≡ g = omega arith in
    let eh : round % 256 ≡ h = omega arith in
    rw (ec, ed, ee, ef, eg, eh)

syndrome-same : (m : ℕ) (bytes : List ℕ) → Head 1 (side_in bytes) (block_in bytes) 0 bytes → IsBytes bytes → IsRun m (drop 8 bytes)
    → frame_bytes (syndrome_frame (side_in bytes) (block_in bytes) (unpacked m (drop 8 bytes))) ≡ bytes
unfolding frame_bytes
syndrome-same m bytes h small run =
    ap (λ (x : List ℕ). head_bytes 1 (side_in bytes) (block_in bytes) 0 ++ x) (packed-unpacked m (drop 8 bytes) run)
    ∙ ap (λ (k : ℕ). head_bytes k (side_in bytes) (block_in bytes) 0 ++ drop 8 bytes) (sym h.of_kind)
    ∙ ap (λ (r : ℕ). head_bytes (kind_in bytes) (side_in bytes) (block_in bytes) r ++ drop 8 bytes) (sym h.of_round)
    ∙ head_back bytes h.whole small

-- the first bytes of the body are the map's
map-run : (n : ℕ) (body : List ℕ) → IsBytes body → AllBelow (SoundByte n body) (bytes_for n) → IsRun n (take (bytes_for n) body)
map-run n body small sound = record {
  small = λ q. ⊎_elim (λ l. let e = get_or-take (bytes_for n) body q 0 l in let s = small q in omega arith)
      (λ l. omega (arith, get_or_past (take (bytes_for n) body) q 0 (omega (arith, length-take (bytes_for n) body)))) (cases_lt q (bytes_for n));
  long = length-take-le (bytes_for n) body (long_enough n body sound);
  sound = λ q l. let e = get_or-take (bytes_for n) body q 0 l in
      (omega (arith, length-take-le (bytes_for n) body (long_enough n body sound)), rw e (sound q l).1);
}

disclosure_same : (n : ℕ) (bytes : List ℕ) → Head 2 (side_in bytes) (block_in bytes) (round_in bytes) bytes → IsBytes bytes → IsBytes (drop 8 bytes)
    → AllBelow (SoundByte n (drop 8 bytes)) (bytes_for n) → IsRun (sum (map_in n bytes)) (value_bytes n bytes)
    → frame_bytes (disclosure_frame (side_in bytes) (block_in bytes) (round_in bytes) (map_in n bytes) (unpacked (sum (map_in n bytes)) (value_bytes n bytes))) ≡ bytes
unfolding frame_bytes
disclosure_same n bytes h small smalls sound run =
    let front : packed (unpacked n (drop 8 bytes)) ≡ take (bytes_for n) (drop 8 bytes) =
    ap packed (sym (unpacked-take n (bytes_for n) (drop 8 bytes) (omega arith))) ∙ packed-unpacked n (take (bytes_for n) (drop 8 bytes)) (map-run n (drop 8 bytes) smalls sound) in
    let rest = packed-unpacked (sum (map_in n bytes)) (value_bytes n bytes) run in
    let body : packed (map_in n bytes) ++ packed (unpacked (sum (map_in n bytes)) (value_bytes n bytes)) ≡ drop 8 bytes =
    ap (λ (x : List ℕ). x ++ packed (unpacked (sum (map_in n bytes)) (value_bytes n bytes))) front
    ∙ ap (λ (x : List ℕ). take (bytes_for n) (drop 8 bytes) ++ x) rest
    ∙ take-append-drop (bytes_for n) (drop 8 bytes) in
    ap (λ (x : List ℕ). head_bytes 2 (side_in bytes) (block_in bytes) (round_in bytes) ++ x) body
    ∙ ap (λ (k : ℕ). head_bytes k (side_in bytes) (block_in bytes) (round_in bytes) ++ drop 8 bytes) (sym h.of_kind)
    ∙ head_back bytes h.whole small

-- what an outcome of Ok tells
ok_parts : (frame shape : FrameShape) (o : Option ℕ) → outcome frame o ≡ Ok shape → (o ≡ None) × (frame ≡ shape)
ok_parts frame shape None e = (refl, cc)
ok_parts frame shape (Some i) e = let z : ◌≡◌ {A = ℕ} 0 1 = cc in absurd (omega arith)

-- bytes of which each is right
module _ (n m : ℕ) (bytes : List ℕ) (small : IsBytes bytes) (good : AllBelow (Right n m bytes) (span n m bytes)) where
  whole : length bytes ≡ frame_length n m bytes
  whole = grind (arith, common_steps, cases_lt, right_parts)

  side_right : side_in bytes < 2
  side_right = ltb-true (side_in bytes) 2 (right_parts n m bytes 1 (good 1 (omega arith))).2

  round_right : cond (eqb (kind_in bytes) 1) (eqb (round_in bytes) 0) (ltb 0 (round_in bytes)) ≡ true
  round_right =
      ⊎_elim (λ e. absurd (both_ways _ (le-ltb (length bytes) 8 (omega (arith, whole))) e)) (λ e. e)
      (or_cases _ _ (right_parts n m bytes 6 (good 6 (omega arith))).2)

  block-small : block_in bytes < 2 ^ 32
  block-small = let a = small 2 in let b = small 3 in let c = small 4 in let d = small 5 in omega arith

  body_small : (a : ℕ) → IsBytes (drop a bytes)
  body_small a q = let e = get_or-drop a bytes q 0 in let s = small (a + q) in omega arith

  abbrev Written : FrameShape → Type 0
  Written shape = (frame_bytes shape ≡ bytes) × WellFormed n m shape

  written_1 : kind_in bytes ≡ 1 → Written (frame_in n m bytes)
  written_1 kind =
      subst Written (sym (cond-true _ _ _ is_1)) (syndrome-same m bytes head small run, (side_right, block-small, length-unpacked m (drop 8 bytes), unpacked-bits m (drop 8 bytes)))
    where
      is_1 : eqb (kind_in bytes) 1 ≡ true
      is_1 = eq-eqb (kind_in bytes) 1 kind

      head : Head 1 (side_in bytes) (block_in bytes) 0 bytes
      head = record { whole = omega (arith, whole); of_kind = kind; of_side = refl; of_block = refl; of_round = eqb-true (round_in bytes) 0 (sym (cond-true _ _ _ is_1) ∙ round_right) }

      run : IsRun m (drop 8 bytes)
      run =
          let long = length_1 n m (side_in bytes) (block_in bytes) bytes head side_right in
          record {
            small = body_small 8;
            long = omega (arith, whole, length-drop 8 bytes);
            sound = λ q l. (right_last n m (side_in bytes) (block_in bytes) bytes head side_right q (good (8 + q) (omega (arith, whole)))).1;
          }

  written_2 : kind_in bytes ≡ 2 → Written (frame_in n m bytes)
  written_2 kind =
      subst Written (sym (cond-false _ _ _ not_1)) (
        disclosure_same n bytes head small (body_small 8) sound run,
        (
          side_right,
          block-small,
          later,
          round-small,
          length-unpacked n (drop 8 bytes),
          unpacked-bits n (drop 8 bytes),
          length-unpacked ones (value_bytes n bytes),
          unpacked-bits ones (value_bytes n bytes),
        ),
      )
    where
      ones : ℕ
      ones = sum (map_in n bytes)

      not_1 : eqb (kind_in bytes) 1 ≡ false
      not_1 = ne_eqb (kind_in bytes) 1 (λ e. omega arith)

      later : 1 ≤ round_in bytes
      later = ltb-true 0 (round_in bytes) (sym (cond-false _ _ _ not_1) ∙ round_right)

      round-small : round_in bytes < 2 ^ 16
      round-small = let a = small 6 in let b = small 7 in omega arith

      head : Head 2 (side_in bytes) (block_in bytes) (round_in bytes) bytes
      head = record { whole = omega (arith, whole); of_kind = kind; of_side = refl; of_block = refl; of_round = refl }

      long : frame_length n m bytes ≡ 8 + (bytes_for n + bytes_for (sum (map_in n bytes)))
      long = length_2 n m (side_in bytes) (block_in bytes) (round_in bytes) bytes head side_right later

      sound : AllBelow (SoundByte n (drop 8 bytes)) (bytes_for n)
      sound q l = right_map n m (side_in bytes) (block_in bytes) (round_in bytes) bytes head side_right later q l (good (8 + q) (omega (arith, whole, long)))

      run : IsRun (sum (map_in n bytes)) (value_bytes n bytes)
      run = record {
        small = λ q. let e = get_or-drop (bytes_for n) (drop 8 bytes) q 0 in let s = body_small 8 (bytes_for n + q) in omega arith;
        long = omega (arith, whole, long, value-length n m (side_in bytes) (block_in bytes) (round_in bytes) bytes head side_right later);
        sound = λ q l. (right_value n m (side_in bytes) (block_in bytes) (round_in bytes) bytes head side_right later q (good (8 + (bytes_for n + q)) (omega (arith, whole, long)))).1;
      }

  written : Written (frame_in n m bytes)
  written =
      ⊎_elim (λ e. written_1 (eqb-true (kind_in bytes) 1 e)) (λ e. written_2 (eqb-true (kind_in bytes) 2 e))
      (or_cases _ _ (right_parts n m bytes 0 (good 0 (omega arith))).2)

pub written_back : (n m : ℕ) (bytes : List ℕ) (shape : FrameShape) → IsBytes bytes → read_shape n m bytes ≡ Ok shape → (frame_bytes shape ≡ bytes) × WellFormed n m shape
unfolding read_shape
written_back n m bytes shape small e =
    let p = ok_parts (frame_in n m bytes) shape (first_wrong (right_byte n m bytes) (span n m bytes)) e in
    subst (λ (x : FrameShape). (frame_bytes x ≡ bytes) × WellFormed n m x) p.1 (written n m bytes small (all_right (right_byte n m bytes) (span n m bytes) p.0))

-- the same of a frame in the code
module _ (n m : ℕ) (bytes : List ℕ) (small : IsBytes bytes) where
  pub frame_back : (r : Result Frame FrameRefusal) → reading_of r ≡ read_shape n m bytes → IfOk r (λ frame. frame_bytes (shape_of frame) ≡ bytes)
  frame_back (Ok frame) e = (written_back n m bytes (shape_of frame) small (sym e)).0
  frame_back (Err refusal) e = tt

  pub frame_formed : (r : Result Frame FrameRefusal) → reading_of r ≡ read_shape n m bytes → IfOk r (λ frame. WellFormed n m (shape_of frame))
  frame_formed (Ok frame) e = (written_back n m bytes (shape_of frame) small (sym e)).1
  frame_formed (Err refusal) e = tt
