-- `numbers::copy::copy_few` meets its contract. Assumes nothing.
use Rattle.std.proofs.Common.{arith}
use Rattle.numbers.proofs.SpliceLaws.{set-few}
use Rattle.numbers.proofs.copy.copy_few.Goals as goal

pub returns : goal.returns
returns c = set-few c.args.out.now c.args.at c.args.s.now (omega arith) (omega arith) (omega arith)
