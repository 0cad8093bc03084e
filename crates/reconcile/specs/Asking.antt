-- What a decode line prints of a decoder's answer.
use Rattle.std.specs.Prelude.{ℕ, ◌≤◌, min, List, ◌∷◌, ◌++◌, length, codes}
use Rattle.codes.specs.Code.{Code, checks}
use Rattle.decoders.specs.Decoding.{Room, room_for}
use Rattle.decoders.specs.Question.{Answer, Question, asked}
use Rattle.reconcile.specs.declared.command.Asked.{Asked}
use Rattle.reconcile.specs.Spelling.{bit_digits, spaced}

-- every run and buffer of the line is long enough for a decoder of this need
pub record Suffices (room : Room) (code : Code) (line : Asked) : Type 0 where
  pub checked : checks code ≤ length line.difference.items
  pub stated : code.width ≤ length line.states.items
  pub patterned : code.width ≤ line.pattern
  pub trusted : code.width ≤ line.confidence
  pub working : room_for room code ≤ line.work

-- a class over a byte counts as the most that a byte holds
abbrev pub line_question : Code → Asked → Question
line_question code line = asked code line.difference.items line.states.items (min line.q 255)

-- two lines
abbrev pub answer_text : Answer → List ℕ
answer_text a = codes "pattern " ++ bit_digits a.pattern ++ 10 ∷ codes "confidence" ++ spaced a.confidence
