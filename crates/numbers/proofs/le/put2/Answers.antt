-- `numbers::le::put2` meets its contract: std's bytes of the number are ours.
-- Assumes nothing.
use Rattle.std.proofs.Common.{◌≡◌, ◌+◌, ◌-◌, ap, ◌∙◌, arith}
use borrow.Rule.Slice.PartMut.{put_mid}
use Rattle.numbers.specs.Numbers.Order.{least_first}
use Rattle.numbers.proofs.NumberLaws.{bytes_are, length-bytes_in}
use Rattle.numbers.proofs.SpliceLaws.{mid_is_splice}
use Rattle.numbers.proofs.le.put2.Goals as goal

pub returns : goal.returns
returns c =
    let a = c.args in
    let n : a.at + 2 - a.at ≡ 2 = omega arith in
    rw (n, c.copy_from_slice.ensures.after, c.to_le_bytes.ensures)
    (ap (put_mid a.at 2 a.out.now) (bytes_are 2 a.value) ∙ mid_is_splice a.out.now a.at 2 _ (length-bytes_in least_first 2 a.value))
