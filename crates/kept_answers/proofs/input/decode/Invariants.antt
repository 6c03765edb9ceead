-- `kept_answers::input::decode` is safe and ends: what is held fits the buffer, and each turn takes bytes from the line.
-- Assumes nothing.
use Rattle.std.proofs.Common.{length, ◌≤◌}
use Rattle.kept_answers.proofs.input.decode.Given as goal

abbrev pub invariant-loop-first : goal.invariant-loop-first
invariant-loop-first l = l.held ≤ length l.out

abbrev pub decreases-loop-first : goal.decreases-loop-first
decreases-loop-first l = length l.rest
