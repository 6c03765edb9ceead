-- `tracelist::text::put_kind` meets its contract: two digits hold a byte.
-- Assumes nothing.
use mathlib.Core.Path.{◌≡◌, ap, ◌∙◌}
use native.Mathlib.Omega.{arith}
use lib.ListN.{length, take}
use Rattle.tracelist.specs.Listing.{two_digits}
use Rattle.tracelist.proofs.DigitLaws.{digits_byte}
use Rattle.tracelist.proofs.text.put_kind.Goals as goal
use Rattle.tracelist.proofs.text.put_kind.Goals.{After-hex-k}

-- the digits that the kit puts
spelled : (c : After-hex-k) → take c.hex-k.result c.hex-k.new.out ≡ two_digits c.args.kind
spelled c = c.hex-k.ensures.digits ∙ digits_byte c.args.kind c.hex-k.result (omega arith) c.hex-k.ensures.len

pub put_field-requires : goal.put_field-requires
unfolding two_digits
put_field-requires c =
    let e = ap length (spelled (goal.at.put_field-requires c).After-hex-k) in
    omega (arith, e, c.requires)

pub returns : goal.returns
unfolding two_digits
returns c =
    let p = rw (spelled (goal.at.returns c).After-hex-k) at c.put_field.ensures in
    record {
      value = p.value;
      out_after = p.out_after;
    }
