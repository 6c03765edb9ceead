-- `tracelist::listing::list`: after the bytes that were written, the listing goes on with what is listed from the offset on. Each piece
-- leaves less to list, so the number of bytes does not overflow.
-- Assumes nothing.
use mathlib.Core.Path.{◌≡◌}
use Prim.Native.Nat.{◌+◌, ◌*◌, ◌≤◌}
use lib.ListN.{length, drop}
use Rattle.tracelist.specs.Listing.{listing}
use Rattle.tracelist.specs.Inner.{rest, left, Within}
use Rattle.tracelist.proofs.listing.list.Given as goal

abbrev pub invariant-loop-next : goal.invariant-loop-next
invariant-loop-next l =
    record {
      goes_on : drop l.written (listing l.s) ≡ rest l.s l.next;
      within : Within l.s l.next;
      inside : l.written ≤ length (listing l.s);
      few : l.written + 65536 * left l.s l.next ≤ 65536 * (1 + length l.s);
    }

abbrev pub decreases-loop-next : goal.decreases-loop-next
decreases-loop-next l = left l.s l.next
