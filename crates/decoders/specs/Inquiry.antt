-- The question that a call asks.
use Rattle.codes.specs.Of.{code_of}
use Rattle.decoders.specs.Question.{Question, asked}
use Rattle.decoders.specs.declared.inquiry.Inquiry.{Inquiry}

abbrev pub question : Inquiry → Question
question i = asked (code_of i.matrix.now) i.difference.now i.states.now i.q
