-- Digits are written by a byte each.
use Rattle.std.proofs.Common.{◌≡◌, ℕ, List, [], ◌∷◌, ◌<◌, map, refl, lit<, length, ◌≢◌, ap, sym, ◌∙◌, arith, Result, Ok, Err, String, Global}
use Rattle.std.specs.Prelude.{◌==◌, if◌then◌else◌, slice_index, IfOk, true, false}
use Rattle.std.specs.Str.{encode_utf8_all}
use Rattle.std.proofs.lemmas.Str.{encode_ascii}
use Rattle.std.specs.String.{string_bytes}
use Rattle.std.specs.List.{range_with_len}
use Rattle.std.proofs.lemmas.List.{ext_get_or, get_or-map, length-map}
use Rattle.std.proofs.lemmas.List.FromFn.{get_or-map-range_with_len, length-map-range_with_len}
use Rattle.reconcile.specs.Spelling.{bit_digit, bit_digits, run_digits}

small : (b : ℕ) → bit_digit b < 128
small b = elim (b == 0) as (λ t. (if t then 48 else 49) < 128) [ true ↦ lit< tt | false ↦ lit< tt ]

pub encode_bits : (bits : List ℕ) → encode_utf8_all (bit_digits bits) ≡ bit_digits bits
encode_bits [] = refl
encode_bits (b ∷ bits) = rw (encode_ascii (bit_digit b) (small b), encode_bits bits)

-- a run read place by place
places : (bits : List ℕ) → map (λ i. bit_digit (slice_index bits i)) (range_with_len 0 (length bits)) ≡ bit_digits bits
places bits =
    let f : ℕ → ℕ = λ i. bit_digit (slice_index bits i) in
    ext_get_or 0 (map f (range_with_len 0 (length bits))) (bit_digits bits)
    (length-map-range_with_len f 0 (length bits) ∙ sym (length-map bits bit_digit))
    (λ i lt. let below : i < length bits = omega (arith, length-map-range_with_len f 0 (length bits)) in
    get_or-map-range_with_len f 0 (length bits) i i 0 below (omega arith) ∙ sym (get_or-map bit_digit bits i 0 0 below))

encode_run : (bits : List ℕ) → length bits ≢ 0 → encode_utf8_all (map (λ i. bit_digit (slice_index bits i)) (range_with_len 0 (length bits))) ≡ run_digits bits
encode_run [] h = absurd (h refl)
encode_run (b ∷ bits) h = ap encode_utf8_all (places (b ∷ bits)) ∙ encode_bits (b ∷ bits)

-- what is collected of them is what is printed of the run
pub spelled_run : {E : Type 0} (bits : List ℕ) → length bits ≢ 0 → (r : Result (String Global) E)
    → IfOk r (λ text. string_bytes text ≡ encode_utf8_all (map (λ i. bit_digit (slice_index bits i)) (range_with_len 0 (length bits))))
    → IfOk r (λ text. string_bytes text ≡ run_digits bits)
spelled_run bits h (Err e) s = tt
spelled_run bits h (Ok text) s = s ∙ encode_run bits h
