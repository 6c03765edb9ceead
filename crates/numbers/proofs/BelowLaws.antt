-- A test of all numbers below n, computed at once. Assumes nothing.
use mathlib.Core.Path.{sym, subst}
use mathlib.Core.Logic.{inl, inr}
use mathlib.Core.Bool.{Bool, true, ◌&&◌}
use Prim.Native.Nat.{ℕ, zero, suc, ◌<◌}
use native.Mathlib.Nat.{le_of_suc-le-suc, eq-or-lt_of_le}
use native.Mathlib.Omega.{arith}
use mir.Facts.{and_yes}
use lib.Dec.{T}

abbrev pub all_below : (ℕ → Bool) → ℕ → Bool
all_below f zero = true
all_below f (suc n) = f n && all_below f n

pub each_below : (f : ℕ → Bool) (n : ℕ) → T (all_below f n) → (k : ℕ) → k < n → T (f k)
each_below f zero t k h = absurd (omega arith)
each_below f (suc n) t k h =
    let p = and_yes (f n) (all_below f n) t in
    elim (eq-or-lt_of_le (le_of_suc-le-suc h)) [ inl e ↦ subst (λ (m : ℕ). T (f m)) (sym e) p.0 | inr l ↦ each_below f n p.1 k l ]
