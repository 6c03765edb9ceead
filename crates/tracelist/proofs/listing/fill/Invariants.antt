-- `tracelist::listing::fill`: the text and what is listed after it are what is listed from the first offset on, and less is left to list.
-- Assumes nothing.
use Rattle.std.specs.Prelude.{Some}
use mathlib.Core.Path.{◌≡◌}
use mathlib.Core.List.{◌++◌}
use Prim.Native.Nat.{◌<◌}
use Rattle.tracelist.specs.Inner.{listed_from, rest, left, Within}
use Rattle.tracelist.proofs.listing.fill.Given as goal

abbrev pub invariant-loop-next : goal.invariant-loop-next
invariant-loop-next l =
    record {
      goes_on : l.text ++ rest l.s l.next ≡ listed_from l.s l.from;
      within : Within l.s l.next;
      less : left l.s l.next < left l.s (Some l.from);
    }

abbrev pub decreases-loop-next : goal.decreases-loop-next
decreases-loop-next l = left l.s l.next
