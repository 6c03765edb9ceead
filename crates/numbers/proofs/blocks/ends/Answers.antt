-- `numbers::blocks::ends` meets its contract. Assumes nothing.
use mathlib.Core.Path.{ap}
use mathlib.Core.Bool.{Bool, ◌&&◌}
use Prim.Native.Nat.{◌≤◌}
use native.Mathlib.Omega.{arith}
use lib.ListN.{length, get_or-eq_default}
use Rattle.numbers.specs.Inner.{before, fits_at, all_fit}
use Rattle.numbers.proofs.BlockLaws.{fits_at_lem}
use Rattle.numbers.proofs.blocks.ends.Goals as goal

pub returns : goal.returns
unfolding before fits_at all_fit
returns c =
    let s = c.args.s.now in
    let long : 3 ≤ length s = omega arith in
    let past : length s ≤ length s = omega arith in
    rw (
      c.fits.ensures,
      c.fits-2.ensures,
      c.fits-3.ensures,
      c.fits-4.ensures,
    )
    (ap (λ (t : Bool). all_fit s 0 3 && t) (fits_at_lem s (length s) long 0 (get_or-eq_default s 0 past)))
