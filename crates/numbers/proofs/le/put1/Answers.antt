-- `numbers::le::put1` meets its contract: one byte stored is the number in one byte.
-- Assumes nothing.
use native.Mathlib.Omega.{arith}
use Rattle.numbers.proofs.NumberLaws.{set_is_le_bytes}
use Rattle.numbers.proofs.le.put1.Goals as goal

pub returns : goal.returns
returns c = set_is_le_bytes c.args.out.now c.args.at c.args.value (omega arith) (omega arith)
