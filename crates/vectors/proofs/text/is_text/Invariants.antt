-- `vectors::text::is_text` ends: each character takes bytes from the slice.
-- Assumes nothing.
use Rattle.std.proofs.Common.{length}
use Rattle.vectors.proofs.text.is_text.Given as goal

abbrev pub decreases-loop-after : goal.decreases-loop-after
decreases-loop-after l = length l.rest
