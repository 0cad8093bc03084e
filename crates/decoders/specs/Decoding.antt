-- What a decoder promises of a call.
use Rattle.std.specs.Prelude.{◌≡◌, ℕ, ◌≤◌, List, length, take, drop, ℤ}
use Rattle.codes.specs.Code.{Code, checks}
use Rattle.codes.specs.Of.{code_of}
use Rattle.decoders.specs.Question.{Question, Answer, SoundQuestion, SoundAnswer}
use Rattle.decoders.specs.declared.inquiry.Inquiry.{Inquiry}

-- a rule from questions to answers, and a need of working words from positions, checks and entries
abbrev pub Rule : Type 0
Rule = Question → Answer

abbrev pub Room : Type 0
Room = ℕ → ℕ → ℕ → ℕ

abbrev pub room_for : Room → Code → ℕ
room_for room code = room code.width (checks code) (length code.positions)

abbrev pub words : Room → Inquiry → ℕ
words room i = room_for room (code_of i.matrix.now)

-- every run and buffer that is handed in is long enough, the working memory for so many words
pub record Enough (words : ℕ) (i : Inquiry) (pattern confidence : List ℕ) (work : List ℤ) : Type 0 where
  pub checked : checks (code_of i.matrix.now) ≤ length i.difference.now
  pub stated : i.matrix.now.width ≤ length i.states.now
  pub patterned : i.matrix.now.width ≤ length pattern
  pub trusted : i.matrix.now.width ≤ length confidence
  pub working : words ≤ length work

-- the first n places hold the answer, and the rest what it held
pub record Answered (n : ℕ) (answer : Answer) (pattern pattern' confidence confidence' : List ℕ) : Type 0 where
  pub pattern_front : take n pattern' ≡ answer.pattern
  pub pattern_rest : drop n pattern' ≡ drop n pattern
  pub confidence_front : take n confidence' ≡ answer.confidence
  pub confidence_rest : drop n confidence' ≡ drop n confidence

-- every sound question gets a well-formed answer
abbrev pub Formed : Rule → Type 0
Formed rule = (q : Question) → SoundQuestion q → SoundAnswer q.code.width (rule q)
