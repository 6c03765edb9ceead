-- The digits of a number: the kit's are those of the listing's definition, whose bound leaves none out, and 20 decimal digits hold a number
-- of 64 bits. Assumes nothing.
use mathlib.Core.Path.{◌≡◌, ap}
use mathlib.Core.List.{List, [], ◌∷◌, ◌++◌}
use Prim.Native.Nat.{ℕ, zero, suc, ◌+◌, ◌*◌, ◌-◌, ◌/◌, ◌%◌, ◌^◌, ◌≤◌, ◌<◌}
use native.Mathlib.Decide.{dec_le, dec_lt}
use native.Mathlib.Nat.{pow-le-pow_right, pow-succ', one-le-pow, mod-eq_of_lt}
use native.Mathlib.Numerals.{unary_clauses}
use native.Mathlib.Omega.{arith}
use borrow.Author.Tests.{lt-ltb, le-ltb}
use lib.ListN.{length, length-append}
use Rattle.io.specs.Digits.{hex_digit_ascii, last_digits, IsDigitCount}
use Rattle.tracelist.specs.Listing.{leading, decimal_in, decimal, two_digits}

-- a number below b ^ m takes at most m digits in base b
digits_most : (b least n k m : ℕ) → 0 < b → least ≤ m → n < b ^ m → IsDigitCount b least n k → k ≤ m
digits_most b least n k m some h less f =
    elim (dec_le k m) [
      | yes e ↦ e
      | no e ↦
          let p = f.2 (omega (arith, h, e)) in
          let q = pow-le-pow_right {n = b} some {i = m} {j = k - 1} (omega (arith, e)) in
          absurd (omega (arith, p, q, less))
    ]

-- a tenth of a number of two digits or more takes one digit less
tenth_fewest : (n k : ℕ) → IsDigitCount 10 1 n (suc (suc k)) → IsDigitCount 10 1 (n / 10) (suc k)
tenth_fewest n k f =
    let high : 10 ^ k * 10 ≤ n = simp unary_clauses at (f.2 (omega arith)) in
    let p : 10 ^ (suc (suc k)) ≡ 10 * 10 ^ (suc k) = pow-succ' 10 (suc k) in
    let low : 10 ^ k ≤ n / 10 = omega (arith, high) in
    (omega arith, omega (arith, f.1, p), λ some. simp unary_clauses low)

-- the fewest digits that hold a number are its decimal digits, if the bound is above the number
decimal_in_lem : (m n k : ℕ) → n < m → IsDigitCount 10 1 n k → last_digits 10 k n ≡ decimal_in m n
unfolding leading decimal_in
decimal_in_lem zero n k h f = absurd (omega (arith, h))
decimal_in_lem (suc m) n zero h f = absurd (omega (arith, f.0))
decimal_in_lem (suc m) n (suc zero) h f =
    let small : n < 10 = omega (arith, f.1) in
    rw (lt-ltb n 10 small)
decimal_in_lem (suc m) n (suc (suc k)) h f =
    let high : 10 ^ k * 10 ≤ n = simp unary_clauses at (f.2 (omega arith)) in
    let some = one-le-pow k 10 (omega arith) in
    let large : 10 ≤ n = omega (arith, high, some) in
    rw (le-ltb n 10 large) (ap (λ (r : List ℕ). r ++ (hex_digit_ascii (n % 10) ∷ [])) (decimal_in_lem m (n / 10) (suc k) (omega (arith, h, large)) (tenth_fewest n k f)))

pub digits_decimal : (n k : ℕ) → IsDigitCount 10 1 n k → last_digits 10 k n ≡ decimal n
unfolding decimal
digits_decimal n k f = decimal_in_lem (suc n) n k (omega arith) f

-- two bounds above the number give the same digits
more_in : (m m' n : ℕ) → n < m → n < m' → decimal_in m n ≡ decimal_in m' n
unfolding leading decimal_in
more_in zero m' n h h' = absurd (omega (arith, h))
more_in (suc m) zero n h h' = absurd (omega (arith, h'))
more_in (suc m) (suc m') n h h' =
    elim (dec_lt n 10) [
      | yes e ↦ rw (lt-ltb n 10 e)
      | no e ↦
          let large : 10 ≤ n = omega (arith, e) in
          rw (le-ltb n 10 large) (ap (λ (r : List ℕ). r ++ (hex_digit_ascii (n % 10) ∷ [])) (more_in m m' (n / 10) (omega (arith, large, h)) (omega (arith, large, h'))))
    ]

-- the bound of the definition leaves no digit out
pub decimal_complete : (n more : ℕ) → decimal_in (suc n + more) n ≡ decimal n
unfolding decimal
decimal_complete n more = more_in (suc n + more) (suc n) n (omega arith) (omega arith)

-- a number below 10 ^ (suc k) has at most suc k decimal digits
most_in : (m n k : ℕ) → n < 10 ^ (suc k) → length (decimal_in m n) ≤ suc k
unfolding leading decimal_in
most_in zero n k h = omega arith
most_in (suc m) n zero h = rw (lt-ltb n 10 h) (omega arith)
most_in (suc m) n (suc k) h =
    elim (dec_lt n 10) [
      | yes e ↦ rw (lt-ltb n 10 e) (omega arith)
      | no e ↦
          let p : 10 ^ (suc (suc k)) ≡ 10 * 10 ^ (suc k) = pow-succ' 10 (suc k) in
          let q = most_in m (n / 10) k (omega (arith, h, p)) in
          let large : 10 ≤ n = omega (arith, e) in
          rw (le-ltb n 10 large) (simp length-append (omega (arith, q)))
    ]

pub length-decimal : (n : ℕ) → n < 2 ^ 64 → length (decimal n) ≤ 20
unfolding decimal
length-decimal n h = most_in (suc n) n 19 (omega arith)

-- two hexadecimal digits hold a byte
pub digits_byte : (n k : ℕ) → n < 256 → IsDigitCount 16 2 n k → last_digits 16 k n ≡ two_digits n
unfolding two_digits
digits_byte n k h f =
    let most = digits_most 16 2 n k 2 (omega arith) (omega arith) h f in
    let two : k ≡ 2 = omega (arith, most, f.0) in
    let high : n / 16 % 16 ≡ n / 16 = mod-eq_of_lt (omega arith) in
    rw (two, high)
