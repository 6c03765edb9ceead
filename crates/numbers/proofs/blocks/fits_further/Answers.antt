-- `numbers::blocks::fits_further` meets its contract. Assumes nothing.
use Rattle.std.proofs.Common.{◌≡◌, ◌∙◌, Bool, true, false, cond, ltb, leb, Option, Some, None, is_some, inl, inr, refl, ap, arith}
use mathlib.Core.Bool.{or-true}
use borrow.Author.Tests.{le-leb, lt-leb}
use Rattle.numbers.specs.Inner.{lead_in, lead, fits_in}
use Rattle.numbers.specs.Text.{class_of, asks}
use Rattle.numbers.specs.declared.lead.Lead.{Lead}
use Rattle.numbers.proofs.blocks.fits_further.Goals as goal

pub returns-then-b-ge224 : goal.returns-then-b-ge224
unfolding fits_in
returns-then-b-ge224 c = elim c.then-b-ge224.either [
  | inl h ↦ rw (le-leb 0xe0 c.args.b h) c.within.ensures
  | inr h ↦ rw (le-leb 0xf0 c.args.c h.1, or-true (leb 0xe0 c.args.b)) c.within.ensures
]

leads : (u : Bool) (l : Lead) → is_some (cond u (Some l) None) ≡ u
leads true l = refl
leads false l = refl

pub returns : goal.returns
unfolding fits_in lead
returns c =
    rw (lt-leb 0xe0 c.args.b (omega arith), lt-leb 0xf0 c.args.c (omega arith))
    (c.is_some.ensures ∙ ap (λ (o : Option Lead). is_some o) c.lead_of.ensures ∙ leads (ltb (class_of c.args.x) 9) (lead_in (asks (class_of c.args.x))))
