-- `tracelist::text::put_number` meets its contract: the digits that the kit puts are those of the definition.
-- Assumes nothing.
use mathlib.Core.Path.{◌∙◌}
use mathlib.Core.List.{[], ◌∷◌}
use native.Mathlib.Omega.{arith}
use lib.ListN.{length-append}
use Rattle.tracelist.specs.Listing.{decimal}
use Rattle.tracelist.proofs.DigitLaws.{digits_decimal, length-decimal}
use Rattle.tracelist.proofs.text.put_number.Goals as goal

pub returns : goal.returns
returns c =
    let k = c.decimal-k in
    let p = rw (k.ensures.digits ∙ digits_decimal c.args.n k.result k.ensures.len) at c.put_field.ensures in
    let few = length-decimal c.args.n (omega arith) in
    record {
      value = (p.value, omega (arith, p.value, few, length-append (decimal c.args.n) (c.args.after ∷ [])));
      out_after = p.out_after;
    }
