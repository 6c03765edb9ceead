-- `numbers::le::get8` meets its contract: std's number of the bytes is ours. Assumes nothing.
use Rattle.std.proofs.Common.{◌≡◌, ◌+◌, ◌-◌, ap, arith}
use Rattle.numbers.specs.Lists.{part}
use Rattle.numbers.specs.Numbers.{le_value}
use Rattle.numbers.proofs.ListLaws.{length_part}
use Rattle.numbers.proofs.NumberLaws.{all_read}
use Rattle.numbers.proofs.le.get8.Goals as goal

pub returns : goal.returns
unfolding le_value
returns c =
    let s = c.args.s.now in
    let at = c.args.at in
    let n : at + 8 - at ≡ 8 = omega arith in
    let read = ap le_value (all_read (part s at 8) 7 (length_part s at 8 (omega arith))) in
    omega (arith, read, rw n at c.from_le_bytes.ensures)
