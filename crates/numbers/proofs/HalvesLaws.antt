-- A number of two halves: its bytes turned round, and read and written at an offset. Assumes nothing.
use mathlib.Core.Path.{◌≡◌, refl, sym, ap, ap₂, ◌∙◌}
use mathlib.Core.List.{List, [], ◌∷◌, ◌++◌, reverse, reverse-append}
use Prim.Native.Nat.{ℕ, zero, suc, ◌+◌, ◌*◌, ◌/◌, ◌%◌, ◌^◌, ◌≤◌}
use native.Mathlib.Nat.{zero-add, suc-add, one-mul, mul_assoc, pow-zero, pow-succ', div-one, div-div-eq-div-mul}
use native.Mathlib.Omega.{arith}
use lib.ListN.{length}
use Rattle.numbers.specs.Lists.{part, splice}
use Rattle.numbers.specs.Numbers.Order.{least_first, most_first}
use Rattle.numbers.specs.Numbers.{le_value, le_bytes, bytes_in}
use Rattle.numbers.proofs.ListLaws.{length_part, part-add}
use Rattle.numbers.proofs.NumberLaws.{length-bytes_in, le_bytes-mod}
use Rattle.numbers.proofs.SpliceLaws.{wrote, put_put}

pub le_value-append : (xs ys : List ℕ) → le_value (xs ++ ys) ≡ le_value xs + 256 ^ length xs * le_value ys
unfolding le_value
le_value-append [] ys = rw (pow-zero, one-mul, zero-add)
le_value-append (x ∷ xs) ys =
    let ih : le_value (xs ++ ys) ≡ le_value xs + 256 ^ length xs * le_value ys = le_value-append xs ys in
    rw (ih, pow-succ', mul_assoc) (omega arith)

pub le_bytes-add : (m n v : ℕ) → le_bytes (m + n) v ≡ le_bytes m v ++ le_bytes n (v / 256 ^ m)
unfolding le_bytes
le_bytes-add zero n v = rw (zero-add, pow-zero, div-one)
le_bytes-add (suc m) n v =
    rw (suc-add, pow-succ', ← div-div-eq-div-mul) (ap (◌∷◌ (v % 256)) (le_bytes-add m n (v / 256)))

-- the halves change places, and each is turned round
pub turned_halves : (m n v : ℕ)
    → le_value (bytes_in most_first (m + n) v)
    ≡ le_value (bytes_in most_first n (v / 256 ^ m)) + 256 ^ n * le_value (bytes_in most_first m (v % 256 ^ m))
turned_halves m n v =
    let low : List ℕ = bytes_in most_first m v in
    let high : List ℕ = bytes_in most_first n (v / 256 ^ m) in
    ap (λ (bs : List ℕ). le_value (reverse bs)) (le_bytes-add m n v)
    ∙ ap le_value (reverse-append (le_bytes m v) (le_bytes n (v / 256 ^ m)))
    ∙ le_value-append high low
    ∙ ap₂ (λ (k : ℕ) (bs : List ℕ). le_value high + 256 ^ k * le_value (reverse bs)) (length-bytes_in most_first n (v / 256 ^ m)) (sym (le_bytes-mod m v))

-- ---- read and written by halves, at an offset
pub le_value_halves : (s : List ℕ) (at m n : ℕ) → at + m ≤ length s
    → le_value (part s at (m + n)) ≡ le_value (part s at m) + 256 ^ m * le_value (part s (at + m) n)
le_value_halves s at m n h =
    ap le_value (part-add s at m n)
    ∙ le_value-append (part s at m) (part s (at + m) n)
    ∙ ap (λ (k : ℕ). le_value (part s at m) + 256 ^ k * le_value (part s (at + m) n)) (length_part s at m h)

pub splice_halves : (d : List ℕ) (at m n v : ℕ) → at ≤ length d
    → splice (splice d at (le_bytes m (v % 256 ^ m))) (at + m) (le_bytes n (v / 256 ^ m)) ≡ splice d at (le_bytes (m + n) v)
splice_halves d at m n v h =
    (put_put h (wrote (length-bytes_in least_first m v) (ap (splice d at) (le_bytes-mod m v))) (wrote (length-bytes_in least_first n (v / 256 ^ m)) refl)).is
    ∙ ap (splice d at) (sym (le_bytes-add m n v))
