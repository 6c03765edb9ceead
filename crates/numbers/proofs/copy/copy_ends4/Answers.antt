-- `numbers::copy::copy_ends4` meets its contract, by the law of ends at width 4. Assumes nothing.
use Rattle.std.proofs.Common.{arith}
use Rattle.numbers.proofs.NumberLaws.{splice-ends}
use Rattle.numbers.proofs.copy.copy_ends4.Goals as goal

pub returns : goal.returns
returns c =
    let a = c.args in
    rw (c.put4-2.ensures, c.put4.ensures, c.get4-2.ensures, c.get4.ensures)
    (splice-ends a.out.now a.at a.s.now 4 (λ i. (c.type_inv.s i).fits) (omega arith) (omega arith) (omega arith))
