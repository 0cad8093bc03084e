-- What every decoder may rest on: the question that a call asks is sound.
use Rattle.std.proofs.Common.{◌≡◌, ℕ, ◌-◌, ◌<◌, ◌≤◌, List, ◌++◌, map, length, take, drop, ◌∙◌, arith}
use Rattle.std.proofs.lemmas.List.{length-map, length-take-le, get_or-map, take_at, drop_at}
use Rattle.codes.specs.Code.{checks}
use Rattle.codes.specs.Of.{code_of}
use Rattle.codes.specs.Syndrome.{IsKey}
use Rattle.codes.specs.declared.matrix.Matrix.{Matrix}
use Rattle.decoders.specs.Question.{Answer, asked, bit_of, SoundQuestion}
use Rattle.decoders.specs.Decoding.{Answered}
use Rattle.decoders.specs.declared.state.State.{State}

-- the difference bits of a question are bits, one a check
pub asked-difference : (m : ℕ) (difference : List ℕ) → m ≤ length difference → IsKey m (map bit_of (take m difference))
asked-difference m difference h =
    let long : length (take m difference) ≡ m = length-take-le m difference h in
    record {
      long = length-map (take m difference) bit_of ∙ long;
      bits = λ i l.
          let lt : i < length (take m difference) = omega arith in
          let e = get_or-map bit_of (take m difference) i 0 0 lt in
          omega (arith, e);
    }

-- a call with runs that are long enough asks a sound question
pub asked-sound : (x : Matrix) (difference : List ℕ) (states : List State) (q : ℕ)
    → checks (code_of x) ≤ length difference
    → x.width ≤ length states
    → SoundQuestion (asked (code_of x) difference states q)
unfolding asked
asked-sound x difference states q checked stated =
    record {
      matrix = x.sound;
      difference = asked-difference (checks (code_of x)) difference checked;
      states = length-take-le x.width states stated;
      low = omega arith;
      high = omega arith;
    }

-- the front of a run, cut as `&run[0..k]`, is as long as it should be
pub front_long : {A : Type 0} (xs : List A) (k n : ℕ) → k ≡ n → n ≤ length xs → length (take (k - 0) xs) ≡ n
front_long xs k n e h = let whole : k - 0 ≡ n = omega arith in rw whole (length-take-le n xs h)

-- an answer written to the fronts of the buffers, as through `&mut buffer[0..k]`, leaves their rests
pub written : (n k : ℕ) (answer : Answer) (p p' c c' : List ℕ)
    → k ≡ n
    → length p' ≡ n
    → length c' ≡ n
    → p' ≡ answer.pattern
    → c' ≡ answer.confidence
    → Answered n answer p (p' ++ drop (k - 0) p) c (c' ++ drop (k - 0) c)
written n k answer p p' c c' e long-p long-c f h =
    let whole : k - 0 ≡ n = omega arith in
    rw whole
    (record {
      pattern_front = take_at p' (drop n p) n long-p ∙ f;
      pattern_rest = drop_at p' (drop n p) n long-p;
      confidence_front = take_at c' (drop n c) n long-c ∙ h;
      confidence_rest = drop_at c' (drop n c) n long-c;
    })
