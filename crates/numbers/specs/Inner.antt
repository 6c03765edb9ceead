-- What the contracts of inner functions cite: nothing that a reader of the public ones must believe. Assumes nothing.
use Rattle.std.specs.Prelude.{Option, Some, None, Bool, true, cond, ◌&&◌, ◌||◌, List, [], ◌∷◌, ℕ, zero, suc, ◌+◌, leb, ltb, get_or}
use Rattle.numbers.specs.declared.lead.Lead.{Lead}
use Rattle.numbers.specs.declared.lead.Lead.TheVariants.{Alone, Second}
use Rattle.numbers.specs.Text.{Range, tail, within, class_of, asks}

-- the ranges after a lead byte of a class; none where no line has it
unfoldable pub after : ℕ → List Range
unfolding asks
after k = cond (ltb k 9) (asks k) []

-- what the code hands back of a class: the first of its ranges, where it has any
abbrev pub lead_in : List Range → Lead
lead_in [] = Alone
lead_in (r ∷ rs) = Second r.low r.high

unfoldable pub lead : ℕ → Option Lead
unfolding asks
lead k = cond (ltb k 9) (Some (lead_in (asks k))) None

-- ---- a byte and the three before it

-- whether x may come, with the ranges after the byte before it, and whether an earlier one still asks for a tail
unfoldable pub fits_in : List Range → Bool → ℕ → Bool
fits_in [] t x = cond t (within tail x) (ltb (class_of x) 9)
fits_in (r ∷ rs) t x = within r x

-- after the bytes c, b and a
unfoldable pub fits_after : ℕ → ℕ → ℕ → ℕ → Bool
unfolding fits_in
fits_after c b a x = fits_in (after (class_of a)) (leb 0xe0 b || leb 0xf0 c) x

-- the byte three offsets before i, with zero bytes before s and after it
unfoldable pub before : List ℕ → ℕ → ℕ
before s i = get_or (0 ∷ 0 ∷ 0 ∷ s) i 0

-- at offset i of s
unfoldable pub fits_at : List ℕ → ℕ → Bool
unfolding fits_after before
fits_at s i = fits_after (before s i) (before s (suc i)) (before s (suc (suc i))) (before s (suc (suc (suc i))))

-- at n offsets, from i on
unfoldable pub all_fit : List ℕ → ℕ → ℕ → Bool
unfolding fits_at
all_fit s i zero = true
all_fit s i (suc n) = all_fit s i n && fits_at s (i + n)
