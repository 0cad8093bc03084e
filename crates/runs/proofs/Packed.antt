-- Packing a run of bits and unpacking it are inverse, and a packed run grows bit by bit.
use Rattle.std.proofs.Common.{◌≡◌, ℕ, ◌+◌, ◌-◌, ◌*◌, ◌/◌, ◌%◌, ◌^◌, ◌<◌, ◌≤◌, ◌⊎◌, List, [], ◌∷◌, ◌++◌, map, length, get_or, take, set, replicate, sum, sym, refl, ap, ◌∙◌, inl, inr, ⊎_elim, arith}
use Rattle.std.specs.List.{range_with_len}
use Rattle.std.proofs.lemmas.List.FromFn.{length-range_with_len, length-map-range_with_len, get_or-map-range_with_len, fill_by_all}
use Rattle.std.proofs.lemmas.List.{ext_get_or, get_or_past, get_or_append_left, get_or_push, length_push, length-set, get_or-set_same, get_or-set_other, length-map, get_or-map, get_or-take, length-replicate, get_or-replicate}
use Rattle.std.proofs.lemmas.Grind.{common_steps}
use Rattle.std.proofs.lemmas.List.Sums.{sum_by-cons}
use Rattle.std.proofs.lemmas.Bool.{cases_lt, cases_eq}
use Rattle.codes.specs.Places.{AllBelow}
use Rattle.runs.specs.Bits.{bit_of, bit_at, bytes_for, unpacked, packed, packed_byte, packed_to, unused, SoundByte, IsBits, IsBytes, IsRun}
use Rattle.runs.proofs.Bytes.{byte_small, bit_of_byte, byte_of_bits, bit_at_split, low_bit, Differ, byte_put, byte_kept, byte_clear}

pub length-unpacked : (w : ℕ) (bytes : List ℕ) → length (unpacked w bytes) ≡ w
unfolding unpacked
length-unpacked w bytes = length-map-range_with_len (bit_at bytes) 0 w

pub get_or-unpacked : (w : ℕ) (bytes : List ℕ) (i : ℕ) → i < w → get_or (unpacked w bytes) i 0 ≡ bit_at bytes i
unfolding unpacked
get_or-unpacked w bytes i l = get_or-map-range_with_len (bit_at bytes) 0 w i i 0 l (omega arith)

pub get_or-unpacked_past : (w : ℕ) (bytes : List ℕ) (i : ℕ) → w ≤ i → get_or (unpacked w bytes) i 0 ≡ 0
get_or-unpacked_past w bytes i l = get_or_past (unpacked w bytes) i 0 (omega (arith, length-unpacked w bytes))

pub unpacked-bits : (w : ℕ) (bytes : List ℕ) → IsBits (unpacked w bytes)
unpacked-bits w bytes i = grind (arith, common_steps, cases_lt, get_or-unpacked, get_or-unpacked_past)

pub length-packed_to : (k : ℕ) (bits : List ℕ) → length (packed_to k bits) ≡ k
unfolding packed_to
length-packed_to k bits = length-map-range_with_len (packed_byte bits) 0 k

pub get_or-packed_to : (k : ℕ) (bits : List ℕ) (q : ℕ) → q < k → get_or (packed_to k bits) q 0 ≡ packed_byte bits q
unfolding packed_to
get_or-packed_to k bits q l = get_or-map-range_with_len (packed_byte bits) 0 k q q 0 l (omega arith)

-- bit i of a packed run is the run's bit i
pub bit_at-packed : (bits : List ℕ) → IsBits bits → (i : ℕ) → i < length bits → bit_at (packed bits) i ≡ get_or bits i 0
bit_at-packed bits small i l =
    let at : get_or (packed bits) (i / 8) 0 ≡ packed_byte bits (i / 8) = get_or-packed_to (bytes_for (length bits)) bits (i / 8) (omega arith) in
    let read : packed_byte bits (i / 8) / 2 ^ (7 - i % 8) % 2 ≡ get_or bits (8 * (i / 8) + i % 8) 0 =
    bit_of_byte (λ i. get_or bits i 0) small (i / 8) (i % 8) (omega arith) in
    let place : 8 * (i / 8) + i % 8 ≡ i = omega arith in
    cc

pub unpacked-packed : (bits : List ℕ) → IsBits bits → unpacked (length bits) (packed bits) ≡ bits
unpacked-packed bits small =
    ext_get_or 0 _ _ (length-unpacked (length bits) (packed bits))
    (λ i l. let h : i < length bits = omega (arith, length-unpacked (length bits) (packed bits)) in
    get_or-unpacked (length bits) (packed bits) i h ∙ bit_at-packed bits small i h)

-- the bits past the run are 0 in its bytes
past_clear : (w : ℕ) (bytes : List ℕ) → IsRun w bytes → (q r : ℕ) → q < bytes_for w → r < 8 → w ≤ 8 * q + r
    → get_or bytes q 0 / 2 ^ (7 - r) % 2 ≡ 0
past_clear w bytes run q r lq lr l =
    low_bit (get_or bytes q 0) (unused w q) (7 - r) (omega arith) (run.sound q lq).1

pub packed-unpacked : (w : ℕ) (bytes : List ℕ) → IsRun w bytes → packed (unpacked w bytes) ≡ bytes
packed-unpacked w bytes run =
    let n = length-unpacked w bytes in
    let long : length (packed (unpacked w bytes)) ≡ length bytes =
    length-packed_to (bytes_for (length (unpacked w bytes))) (unpacked w bytes) ∙ ap bytes_for n ∙ sym run.long in
    ext_get_or 0 _ _ long
    (λ q l. let h : q < bytes_for w = omega (arith, run.long) in
    let h' : q < bytes_for (length (unpacked w bytes)) = omega arith in
    get_or-packed_to (bytes_for (length (unpacked w bytes))) (unpacked w bytes) q h'
    ∙ byte_of_bits (λ i. get_or (unpacked w bytes) i 0) q (get_or bytes q 0) (run.small q)
    (λ r lr. ⊎_elim (λ b. get_or-unpacked w bytes (8 * q + r) b ∙ bit_at_split bytes q r lr)
    (λ b. get_or-unpacked_past w bytes (8 * q + r) b ∙ sym (past_clear w bytes run q r h lr b))
    (cases_lt (8 * q + r) w)))

bits_end : (bits : List ℕ) (i : ℕ) → (i < length bits) ⊎ (get_or bits i 0 ≡ 0)
bits_end bits i = ⊎_elim inl (λ l. inr (get_or_past bits i 0 l)) (cases_lt i (length bits))

pub packed_is_run : (bits : List ℕ) → IsBits bits → IsRun (length bits) (packed bits)
packed_is_run bits small = record { small = bytes; long = length-packed_to (bytes_for (length bits)) bits; sound = sound }
  where
    bytes : IsBytes (packed bits)
    bytes q =
        ⊎_elim (λ l. let is = get_or-packed_to (bytes_for (length bits)) bits q l in omega (arith, byte_small (λ i. get_or bits i 0) small q))
        (λ l. omega (arith, get_or_past (packed bits) q 0 (omega (arith, length-packed_to (bytes_for (length bits)) bits))))
        (cases_lt q (bytes_for (length bits)))

    sound : AllBelow (SoundByte (length bits) (packed bits)) (bytes_for (length bits))
    sound q l =
        let long = length-packed_to (bytes_for (length bits)) bits in
        let is = get_or-packed_to (bytes_for (length bits)) bits q l in
        let clear = byte_clear (λ i. get_or bits i 0) (length bits) (bits_end bits) q (unused (length bits) q) (omega arith) refl in
        (omega arith, rw is clear)

-- bits xs, and one more bit b
module _ (xs : List ℕ) (b : ℕ) where
  differ : (i : ℕ) → Differ (λ i. get_or xs i 0) (λ i. get_or (xs ++ b ∷ []) i 0) (length xs) b i
  differ i = ⊎_elim (λ e. inl (e, get_or_past xs i 0 (omega arith), get_or_push xs b 0 i (sym e))) (λ ne. inr (ne, other ne)) (cases_eq i (length xs))
    where
      other : (i ≡ length xs → ⊥) → get_or (xs ++ b ∷ []) i 0 ≡ get_or xs i 0
      other ne = grind (arith, common_steps, cases_lt, get_or_append_left, get_or_past, length_push)

  pub push_bits : IsBits xs → b < 2 → IsBits (xs ++ b ∷ [])
  push_bits small l i = let d = differ i in let s = small i in omega arith

  -- where the bytes are full, one more bit changes none of them
  pub packed_to_full : (k : ℕ) → 8 * k ≤ length xs → packed_to k xs ≡ packed_to k (xs ++ b ∷ [])
  packed_to_full k full =
      let old = length-packed_to k xs in
      let new = length-packed_to k (xs ++ b ∷ []) in
      ext_get_or 0 _ _ (cc)
      (λ q lq. let lk : q < k = omega arith in
      get_or-packed_to k xs q lk
      ∙ sym (byte_kept (λ i. get_or xs i 0) (λ i. get_or (xs ++ b ∷ []) i 0) (length xs) b differ q (λ e. omega arith))
      ∙ sym (get_or-packed_to k (xs ++ b ∷ []) q lk))

  module _ (k : ℕ) (small : IsBits xs) (l : b < 2) (fit : length xs < 8 * k) where
    -- the bit's weight is added to its byte
    grown_byte : (get_or (packed_to k xs) (length xs / 8) 0 + b * 2 ^ (7 - length xs % 8)) % 256 ≡ packed_byte (xs ++ b ∷ []) (length xs / 8)
    grown_byte =
        let was = get_or-packed_to k xs (length xs / 8) (omega arith) in
        let put = byte_put (λ i. get_or xs i 0) (λ i. get_or (xs ++ b ∷ []) i 0) (length xs) b differ in
        let fits = byte_small (λ i. get_or (xs ++ b ∷ []) i 0) (push_bits small l) (length xs / 8) in
        omega arith

    grown : (v : ℕ) → v ≡ packed_byte (xs ++ b ∷ []) (length xs / 8) → set (packed_to k xs) (length xs / 8) v ≡ packed_to k (xs ++ b ∷ [])
    grown v e =
        let same = length-set (packed_to k xs) (length xs / 8) v in
        let old = length-packed_to k xs in
        let new = length-packed_to k (xs ++ b ∷ []) in
        ext_get_or 0 _ _ (cc)
        (λ q lq. let lk : q < k = omega arith in
        ⊎_elim
        (λ at. let here : get_or (set (packed_to k xs) (length xs / 8) v) (length xs / 8) 0 ≡ v = get_or-set_same (packed_to k xs) (length xs / 8) v 0 (omega arith) in
        let there = get_or-packed_to k (xs ++ b ∷ []) q lk in
        let bytes : packed_byte (xs ++ b ∷ []) q ≡ packed_byte (xs ++ b ∷ []) (length xs / 8) = ap (packed_byte (xs ++ b ∷ [])) at in
        ap (λ q. get_or (set (packed_to k xs) (length xs / 8) v) q 0) at ∙ here ∙ e ∙ sym bytes ∙ sym there)
        (λ ne. get_or-set_other (packed_to k xs) (length xs / 8) q v 0 ne ∙ get_or-packed_to k xs q lk
        ∙ sym (byte_kept (λ i. get_or xs i 0) (λ i. get_or (xs ++ b ∷ []) i 0) (length xs) b differ q ne)
        ∙ sym (get_or-packed_to k (xs ++ b ∷ []) q lk))
        (cases_eq q (length xs / 8)))

    pub packed_to_put : set (packed_to k xs) (length xs / 8) ((get_or (packed_to k xs) (length xs / 8) 0 + b * 2 ^ (7 - length xs % 8)) % 256) ≡ packed_to k (xs ++ b ∷ [])
    packed_to_put = grown _ grown_byte

-- what a run's methods read
pub ruleset read = (length-unpacked, get_or-unpacked, get_or-unpacked_past)

-- the same of bytes that are known to be a packed run, as the code adds the bit
pub put_packed : (k : ℕ) (out bits : List ℕ) (at b : ℕ) → IsBits bits → b < 2 → at < 8 * k → length bits ≡ at → out ≡ packed_to k bits
    → set out (at / 8) ((get_or out (at / 8) 0 + b * 2 ^ (7 - at % 8) % 256) % 256) ≡ packed_to k (bits ++ b ∷ [])
put_packed k out bits at b small l fit e is =
    let put = packed_to_put bits b k small l (omega arith) in
    let was : get_or out (at / 8) 0 ≡ get_or (packed_to k bits) (length bits / 8) 0 = cc in
    let weight : b * 2 ^ (7 - at % 8) ≡ b * 2 ^ (7 - length bits % 8) = cc in
    let sum : (get_or out (at / 8) 0 + b * 2 ^ (7 - at % 8) % 256) % 256 ≡ (get_or (packed_to k bits) (length bits / 8) 0 + b * 2 ^ (7 - length bits % 8)) % 256 = omega arith in
    cc

pub full_kept : (k : ℕ) (out bits : List ℕ) (at b : ℕ) → 8 * k ≤ at → length bits ≡ at → out ≡ packed_to k bits → out ≡ packed_to k (bits ++ b ∷ [])
full_kept k out bits at b full long is = is ∙ packed_to_full bits b k (omega arith)

-- a list of bytes, each for a bit
pub bits_of_bytes : (bytes : List ℕ) → IsBits (map bit_of bytes)
bits_of_bytes bytes i =
    ⊎_elim (λ l. let h : i < length bytes = omega (arith, length-map bytes bit_of) in omega (arith, get_or-map bit_of bytes i 0 0 h))
    (λ l. omega (arith, get_or_past (map bit_of bytes) i 0 l))
    (cases_lt i (length (map bit_of bytes)))

pub cleared : (k : ℕ) → replicate k 0 ≡ packed_to k []
unfolding packed_to
cleared k = fill_by_all (packed_byte []) (replicate k 0) k 0 (length-replicate k 0) (λ q l. get_or-replicate k q 0 0 l)

-- bits add up to no more than there are
pub ones_small : (f : ℕ → ℕ) → ((i : ℕ) → f i < 2) → (xs : List ℕ) → sum (map f xs) ≤ length xs
ones_small f small [] = omega arith
ones_small f small (x ∷ xs) = omega (arith, sum_by-cons (λ (n : ℕ). n) (f x) (map f xs), small x, ones_small f small xs)

pub ones_fit : (f : ℕ → ℕ) → ((i : ℕ) → f i < 2) → (w : ℕ) → sum (map f (range_with_len 0 w)) ≤ w
ones_fit f small w = omega (arith, ones_small f small (range_with_len 0 w), length-range_with_len 0 w)

pub filled : (bits bytes : List ℕ) (w : ℕ) → length bits ≡ w → ((i : ℕ) → i < w → get_or bits i 0 ≡ bit_at bytes i) → bits ≡ unpacked w bytes
unfolding unpacked
filled bits bytes w e all = fill_by_all (bit_at bytes) bits w 0 e all

pub filled_back : (bits bytes : List ℕ) (w : ℕ) → length bits ≡ w → ((i : ℕ) → i < w → get_or bits i 0 ≡ bit_at bytes i) → IsRun w bytes → packed bits ≡ bytes
filled_back bits bytes w e all run = let is = filled bits bytes w e all in rw is (packed-unpacked w bytes run)

pub packed_inverse : (bytes out : List ℕ) (k : ℕ) → k ≡ bytes_for (length bytes) → out ≡ packed_to k (map bit_of bytes) → unpacked (length bytes) out ≡ map bit_of bytes
packed_inverse bytes out k room is = grind (arith, common_steps, bits_of_bytes, length-map, unpacked-packed)

pub long_enough : (w : ℕ) (bytes : List ℕ) → AllBelow (SoundByte w bytes) (bytes_for w) → bytes_for w ≤ length bytes
long_enough w bytes sound = grind (arith, common_steps, cases_lt, sound)

-- a run is read from its own bytes alone
unpacked-same : (w : ℕ) (xs ys : List ℕ) → ((q : ℕ) → q < bytes_for w → get_or xs q 0 ≡ get_or ys q 0) → unpacked w xs ≡ unpacked w ys
unpacked-same w xs ys same =
    let nx = length-unpacked w xs in
    let ny = length-unpacked w ys in
    ext_get_or 0 _ _ (cc)
    (λ i l. let h : i < w = omega arith in
    let e = same (i / 8) (omega arith) in
    let bit : bit_at xs i ≡ bit_at ys i = cc in
    get_or-unpacked w xs i h ∙ bit ∙ sym (get_or-unpacked w ys i h))

pub unpacked-take : (w k : ℕ) (bytes : List ℕ) → bytes_for w ≤ k → unpacked w (take k bytes) ≡ unpacked w bytes
unpacked-take w k bytes fit = unpacked-same w (take k bytes) bytes (λ q l. get_or-take k bytes q 0 (omega arith))

pub unpacked-front : (w : ℕ) (xs ys : List ℕ) → bytes_for w ≤ length xs → unpacked w (xs ++ ys) ≡ unpacked w xs
unpacked-front w xs ys fit = unpacked-same w (xs ++ ys) xs (λ q l. get_or_append_left xs ys 0 q (omega arith))

-- what one bit more comes to
pub ruleset growing = (put_packed, full_kept)
