-- The code that an admitted matrix stands for.
use Rattle.std.specs.Prelude.{vec_items}
use Rattle.codes.specs.Code.{Code}
use Rattle.codes.specs.Lent.{lent}
use Rattle.codes.specs.declared.lent.Lent.{Lent}
use Rattle.codes.specs.declared.matrix.Matrix.{Matrix}

abbrev pub code_of : Matrix → Code
code_of m = record { number = m.number; width = m.width; positions = vec_items m.positions; ends = vec_items m.ends }

-- and the one that lent runs stand for
abbrev pub lent_of : Lent → Code
lent_of m = lent m.width m.positions.now m.ends.now
