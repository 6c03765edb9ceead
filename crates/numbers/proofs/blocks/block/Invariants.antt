-- `numbers::blocks::block`: whether the bytes of the block before offset i fit. Assumes nothing.
use Rattle.std.proofs.Common.{◌≡◌, ◌-◌}
use Rattle.numbers.specs.Inner.{all_fit}
use Rattle.numbers.proofs.blocks.block.Given as goal

abbrev pub invariant-loop-i : goal.invariant-loop-i
invariant-loop-i l = l.all ≡ all_fit l.s l.at (l.i - l.at)
