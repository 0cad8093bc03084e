-- The bits that a borrowed run stands for.
use Rattle.std.specs.Prelude.{ℕ, List}
use Rattle.runs.specs.Bits.{unpacked}
use Rattle.runs.specs.declared.run.Run.{Run}

abbrev pub bits_of : Run → List ℕ
bits_of run = unpacked run.width run.bytes.now
