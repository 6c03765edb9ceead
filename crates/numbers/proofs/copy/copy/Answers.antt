-- `numbers::copy::copy` meets its contract: where there are no bytes, there is nothing to copy. Assumes nothing.
use Rattle.std.proofs.Common.{◌≡◌, ◌+◌, ◌-◌, ℕ, List, [], ◌∷◌, length, sym, refl, arith}
use Rattle.numbers.specs.Lists.{splice}
use Rattle.numbers.proofs.SpliceLaws.{splice-nil, mid_is_splice}
use Rattle.numbers.proofs.copy.copy.Goals as goal

nothing : (d : List ℕ) (at : ℕ) (s : List ℕ) → length s ≡ 0 → d ≡ splice d at s
nothing d at [] h = sym (splice-nil d at)
nothing d at (x ∷ s) h = absurd (omega arith)

pub returns-else-s-ge1 : goal.returns-else-s-ge1
returns-else-s-ge1 c = nothing c.args.out.now c.args.at c.args.s.now (omega arith)

pub returns-then-s-ge17 : goal.returns-then-s-ge17
returns-then-s-ge17 c =
    let a = c.args in
    let n : a.at + length a.s.now - a.at ≡ length a.s.now = omega arith in
    rw (n, c.copy_from_slice.ensures.after) (mid_is_splice a.out.now a.at (length a.s.now) a.s.now refl)
