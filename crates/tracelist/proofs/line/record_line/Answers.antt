-- `tracelist::line::record_line` meets its contract: the kind is that of the byte where the record starts.
-- Assumes nothing.
use Rattle.tracelist.specs.Listing.{record_line}
use Rattle.tracelist.proofs.line.record_line.Goals as goal

pub returns : goal.returns
unfolding record_line
returns c = rw c.kind.ensures
