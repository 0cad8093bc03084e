-- The bits that beliefs tell are the signs of what they mean.
use Rattle.std.proofs.Common.{◌≡◌, ℕ, ◌<◌, List, [], ◌∷◌, map, length, get_or, ℤ, pos, sym, refl, ap, ◌∙◌}
use Rattle.std.specs.List.{AllByRecursion}
use Rattle.std.proofs.lemmas.List.{get_or-map, length-map}
use Rattle.codes.specs.Tells.{sign_bit}
use Rattle.propagation.specs.Course.{pattern_of}
use Rattle.propagation.proofs.Elements.{read_all, read_map}

module _ {X : Type 0} (exact : X → Type 0) (eighths : X → ℤ) (told : X → ℕ)
    (tells : (x : X) → exact x → told x ≡ sign_bit (eighths x)) where
  pub told_signs : (xs : List X) → AllByRecursion exact xs → map told xs ≡ pattern_of (map eighths xs)
  told_signs [] all = refl
  told_signs (x ∷ xs) (here, all) = let a = tells x here in let b = told_signs xs all in cc

  -- the bit that the belief at place i tells
  pub bit_read : (xs : List X) (i b : ℕ) (x : X)
      → i < length xs
      → x ≡ get_or xs i x
      → AllByRecursion exact xs
      → b ≡ told x
      → b ≡ get_or (pattern_of (map eighths xs)) i 0
  bit_read xs i b x h e all is =
      let near : i < length (map eighths xs) = rw (length-map xs eighths) h in
      let sign : get_or (pattern_of (map eighths xs)) i 0 ≡ sign_bit (eighths x) =
      get_or-map sign_bit (map eighths xs) i (pos 0) 0 near ∙ ap sign_bit (read_map eighths xs i x h e) in
      is ∙ tells x (read_all exact xs i x h e all) ∙ sym sign
