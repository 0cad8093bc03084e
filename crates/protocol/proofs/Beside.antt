-- What else holds of the calls.
use Rattle.std.proofs.Common.{◌≡◌, ℕ, List, get_or, sym, refl, ap, ◌∙◌, ⊎_elim, arith}
use Rattle.std.proofs.lemmas.Grind.{common_steps}
use Rattle.std.proofs.lemmas.Bool.{ne_eqb, and_parts}
use Rattle.decoders.specs.Decoding.{Rule}
use Rattle.frames.specs.Format.{frame_bytes}
use Rattle.protocol.specs.Asking.{chosen, share, unknown_at}
use Rattle.protocol.specs.State.{Held, idle, opened}
use Rattle.protocol.specs.Calls.{Call, open_call, say_call, hear_call, turn_call, key_call, close_call, refused, says}
use Rattle.protocol.specs.Steps.{step_of}
use Rattle.protocol.specs.Runs.{Event}
use Rattle.protocol.specs.Reading.{Among, event}
use Rattle.protocol.specs.Theorems.{NamesExactly, RefusalKeeps, OthersKeep, SameFrames}
use Rattle.protocol.specs.Guarantee.{Block}
use Rattle.protocol.proofs.Course.{judged-names, judged-share, map_of_one}
use Rattle.protocol.proofs.CourseFrames.{course_frame}
use Rattle.protocol.proofs.Hiding.{open_cases}
use Rattle.protocol.proofs.Listen.{hear_heeds}
use Rattle.protocol.proofs.Tracking.{say_cases, turn_cases, key_cases}
use Rattle.protocol.proofs.Follow.{Seat}
use Rattle.protocol.proofs.Track.{Track}
use Rattle.protocol.proofs.Together.{together}

pub names_exactly : NamesExactly
names_exactly rule step left q m e =
    let is = judged-names rule step left q m e in
    let s = judged-share rule step left q m e in (
      s,
      omega arith,
      λ i one.
          let at = map_of_one (chosen q (rule q).confidence (share step left q)) q.code.width i (ap (λ xs. get_or xs i 0) (sym is.0) ∙ one) in
          (and_parts (unknown_at q i) _ at.1).0,
    )

pub others_keep : OthersKeep
others_keep rule a asks h ne = rw (ne_eqb a.handle h ne)

keeps : (rule : Rule) (x : Held) (call : Call) (number place : ℕ) → (step_of rule x call).reply ≡ refused number place → (step_of rule x call).held ≡ x
keeps rule idle (open_call p c k m) number place e = grind (arith, common_steps, open_cases)
keeps rule idle (say_call r b) number place e = refl
keeps rule idle (hear_call bs) number place e = refl
keeps rule idle (turn_call c room p f w) number place e = refl
keeps rule idle (key_call b) number place e = refl
keeps rule idle close_call number place e = refl
keeps rule (opened s) (open_call p c k m) number place e = refl
keeps rule (opened s) (say_call r b) number place e = grind (arith, common_steps, say_cases)
keeps rule (opened s) (hear_call bs) number place e = grind (arith, common_steps, hear_heeds)
keeps rule (opened s) (turn_call c room p f w) number place e = grind (arith, common_steps, turn_cases)
keeps rule (opened s) (key_call b) number place e = grind (arith, common_steps, key_cases)
keeps rule (opened s) close_call number place e = cc

pub refusal_keeps : RefusalKeeps
refusal_keeps rule x call number place e = grind (arith, common_steps, keeps)

same_frame : (rule : Rule) (block : Block) (h o : ℕ) (seat other : Seat) (x : Held) (log : List Event)
    → Track rule block h o seat other x log
    → (r : ℕ) (first first' second second' bytes again : List ℕ)
    → Among (event h (say_call r first) (says bytes first')) log
    → Among (event h (say_call r second) (says again second')) log
    → bytes ≡ again
same_frame rule block h o seat other x log t r first first' second second' bytes again a b =
    let one = t.facts.frames bytes (r, first, first', a) in
    let two = t.facts.frames again (r, second, second', b) in
    one.2 ∙ ap (λ j. frame_bytes (course_frame rule block seat j)) (one.4 ∙ sym two.4) ∙ sym two.2

pub same-frames : SameFrames
same-frames rule block asks p h who r first first' second second' bytes again a b =
    let both = together rule block asks p in
    ⊎_elim
    (λ is. same_frame rule block _ _ _ _ _ _ both.alice_on r first first' second second' bytes again (rw is at a) (rw is at b))
    (λ is. same_frame rule block _ _ _ _ _ _ both.bob_on r first first' second second' bytes again (rw is at a) (rw is at b))
    who
