-- `tracelist::listing::list` meets its contract: each piece takes the place of what is left of the listing.
-- Assumes nothing.
use mathlib.Core.Path.{◌≡◌, sym, ◌∙◌}
use native.Mathlib.Omega.{arith}
use Rattle.tracelist.specs.Listing.{listing}
use Rattle.tracelist.proofs.LineLaws.{listed_first}
use Rattle.tracelist.proofs.PieceLaws.{piece_rest, piece_within, piece_last}
use Rattle.tracelist.proofs.listing.list.Goals as goal

pub loop-next-init : goal.loop-next-init
loop-next-init c = record { goes_on = listed_first _; within = omega arith; inside = omega arith; few = omega arith }

pub loop-next-preserved : goal.loop-next-preserved
loop-next-preserved c =
    let f = c.fill-next.ensures in
    let i = rw c.in-Some.is at c.loop-next.invariant in
    let e = i.goes_on ∙ sym f.more_after in
    let text = listing c.args.s.now in
    let w = c.loop-next.written in
    let n = c.len-written.ensures in
    record {
      goes_on = rw n.value (piece_rest text _ _ w e);
      within = f.next.0;
      inside = rw n.value (piece_within text _ _ w e i.inside);
      few = omega (arith, f.next.1, n.fits, i.few);
    }

pub returns : goal.returns
returns c =
    let i = rw c.in_default.is at c.loop-next.invariant in
    λ n e. let w : c.loop-next.written ≡ n = cc in sym w ∙ piece_last _ _ i.inside i.goes_on
