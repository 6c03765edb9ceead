-- `numbers::le::get1` meets its contract: the byte at an offset is the number in that one byte.
-- Assumes nothing.
use mathlib.Core.Path.{sym}
use native.Mathlib.Omega.{arith}
use Rattle.numbers.proofs.NumberLaws.{le_value_one}
use Rattle.numbers.proofs.le.get1.Goals as goal

pub returns : goal.returns
returns c = sym (le_value_one c.args.s.now c.args.at (omega arith))
