-- `vectors::strings::lines` ends: each string takes bytes from the input.
-- Assumes nothing.
use Rattle.std.proofs.Common.{length}
use Rattle.vectors.proofs.strings.lines.Given as goal

abbrev pub decreases-loop-n : goal.decreases-loop-n
decreases-loop-n l = length l.rest
