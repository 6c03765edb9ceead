-- `numbers::blocks::long`: all bytes before the block fit, and so does the end. Assumes nothing.
use Rattle.std.proofs.Common.{◌≡◌, ◌-◌, length, true}
use Rattle.numbers.specs.Inner.{fits_at}
use Rattle.numbers.proofs.BlockLaws.{Fit}
use Rattle.numbers.proofs.blocks.long.Given as goal

abbrev pub invariant-loop-at : goal.invariant-loop-at
invariant-loop-at l = (fits_at l.s (length l.s) ≡ true) × Fit l.s l.at

abbrev pub decreases-loop-at : goal.decreases-loop-at
decreases-loop-at l = l.last - l.at
