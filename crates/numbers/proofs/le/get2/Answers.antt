-- `numbers::le::get2` meets its contract: std's number of the bytes is ours.
-- Assumes nothing.
use mathlib.Core.Path.{ap}
use native.Mathlib.Omega.{arith}
use Rattle.numbers.specs.Numbers.{le_value}
use Rattle.numbers.proofs.NumberLaws.{part_read}
use Rattle.numbers.proofs.le.get2.Goals as goal

pub returns : goal.returns
unfolding le_value
returns c =
    let read = ap le_value (part_read c.args.s.now c.args.at 1 (omega arith)) in
    omega (arith, read, c.from_le_bytes.ensures)
