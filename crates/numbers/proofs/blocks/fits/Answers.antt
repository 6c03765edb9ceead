-- `numbers::blocks::fits` meets its contract: what the byte before x asks for, or an earlier one, or else x leads.
-- Assumes nothing.
use Rattle.std.proofs.Common.{◌≡◌, ◌||◌, ◌∙◌, ℕ, List, [], ◌∷◌, Bool, true, false, cond, ltb, leb, Option, Some, None, refl, ap, rules}
use Rattle.numbers.specs.Inner.{lead_in, lead, after, fits_in, fits_after}
use Rattle.numbers.specs.Text.{Range, ◌to◌, within, class_of, asks}
use Rattle.numbers.specs.declared.lead.Lead.{Lead}
use Rattle.numbers.specs.declared.lead.Lead.TheVariants.{Alone, Second}
use Rattle.numbers.proofs.blocks.fits.Goals as goal
use Rattle.numbers.proofs.blocks.fits.Goals.{in-Some+in-Alone-1, in-None-1}

-- by what is handed back of the byte before x
abbrev by_lead : Option Lead → Bool → ℕ → Bool
by_lead None t x = fits_in [] t x
by_lead (Some Alone) t x = fits_in [] t x
by_lead (Some (Second low high)) t x = within (low to high) x

by_class : (k : ℕ) (t : Bool) (x : ℕ) → by_lead (lead k) t x ≡ fits_in (after k) t x
unfolding lead after fits_in
by_class k t x = cases (ltb k 9) (asks k)
  where
    cases : (u : Bool) (rs : List Range) → by_lead (cond u (Some (lead_in rs)) None) t x ≡ fits_in (cond u rs []) t x
    cases false rs = refl
    cases true [] = refl
    cases true (r ∷ rs) = refl

-- what is handed back of a decides
decided : (c b a x : ℕ) (o : Option Lead) → o ≡ lead (class_of a) → by_lead o (leb 0xe0 b || leb 0xf0 c) x ≡ fits_after c b a x
unfolding fits_after
decided c b a x o e =
    let t : Bool = leb 0xe0 b || leb 0xf0 c in
    ap (λ (o : Option Lead). by_lead o t x) e ∙ by_class (class_of a) t x

pub returns-in-Some-Second : goal.returns-in-Some-Second
returns-in-Some-Second c =
    let g = c.args in
    let r = c.in-Some-Second in
    c.within.ensures ∙ decided g.c g.b g.a g.x (Some (Second r.low r.high)) (search rules)

pub returns-in-Some-Alone : goal.returns-in-Some-Alone
returns-in-Some-Alone c =
    let g = c.args in
    elim c.in-Some-Alone-1.branch [
      | in-Some+in-Alone-1 w ↦ c.fits_further.ensures ∙ decided g.c g.b g.a g.x (Some Alone) (search rules)
      | in-None-1 w ↦ c.fits_further.ensures ∙ decided g.c g.b g.a g.x None (search rules)
    ]
