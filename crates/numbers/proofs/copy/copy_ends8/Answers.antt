-- `numbers::copy::copy_ends8` meets its contract, by the law of ends at width 8. Assumes nothing.
use Rattle.std.proofs.Common.{arith}
use Rattle.numbers.proofs.NumberLaws.{splice-ends}
use Rattle.numbers.proofs.copy.copy_ends8.Goals as goal

pub returns : goal.returns
returns c =
    let a = c.args in
    rw (c.put8-2.ensures, c.put8.ensures, c.get8-2.ensures, c.get8.ensures)
    (splice-ends a.out.now a.at a.s.now 8 (λ i. (c.type_inv.s i).fits) (omega arith) (omega arith) (omega arith))
