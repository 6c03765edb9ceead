-- Laws on lists that every crate above cites: the rest of a slice, parts, and lists of bytes. Assumes nothing.
use mathlib.Core.Path.{◌≡◌, refl, sym, ap, ◌∙◌}
use mathlib.Core.List.{List, [], ◌∷◌, ◌++◌}
use Prim.Native.Nat.{ℕ, zero, suc, ◌+◌, ◌-◌, ◌≤◌}
use native.Mathlib.Omega.{arith}
use lib.ListN.{length, take, drop, length-drop, length-take}
use lib.Seq.{length-take-le, take_all, take-add, take-take, drop-drop, get_or-drop, take_at, drop_at}
use Rattle.numbers.specs.Lists.{Bytes, part}

-- the rest of a slice, `&s[at..]`, is its `drop`
pub rest_is_drop : (s : List ℕ) (at : ℕ) → take (length s - at) (drop at s) ≡ drop at s
rest_is_drop s at = take_all (length s - at) (drop at s) (simp length-drop (omega arith))

-- to drop more is to drop again
pub drop_past : (l : List ℕ) (e k : ℕ) → e ≤ k → drop k l ≡ drop (k - e) (drop e l)
drop_past l e k h =
    let past : e + (k - e) ≡ k = omega arith in
    sym (drop-drop (k - e) e l ∙ ap (λ (n : ℕ). drop n l) past)

pub length_part : (s : List ℕ) (at n : ℕ) → at + n ≤ length s → length (part s at n) ≡ n
length_part s at n h = simp (length-take, length-drop) (omega arith)

-- a part is two adjacent parts, split at any offset
pub part-add : (s : List ℕ) (at m n : ℕ) → part s at (m + n) ≡ part s at m ++ part s (at + m) n
part-add s at m n = take-add m n (drop at s) ∙ ap (λ (r : List ℕ). part s at m ++ take n r) (drop-drop m at s)

-- of three lists in a row, the second is a part
pub part_at : (p q r : List ℕ) (at n : ℕ) → length p ≡ at → length q ≡ n → part (p ++ (q ++ r)) at n ≡ q
part_at p q r at n e f = ap (take n) (drop_at p (q ++ r) at e) ∙ take_at q r n f

-- a part of the first m elements, and of a part
pub part-take : (d : List ℕ) (k n m : ℕ) → k + n ≤ m → part (take m d) k n ≡ part d k n
part-take d zero n m h = take-take n m d (omega arith)
part-take [] (suc k) n zero h = refl
part-take [] (suc k) n (suc m) h = refl
part-take (x ∷ d) (suc k) n zero h = absurd (omega arith)
part-take (x ∷ d) (suc k) n (suc m) h = part-take d k n m (omega arith)

-- the rest of the first m elements is a part
pub drop-take : (s : List ℕ) (n m : ℕ) → n ≤ m → m ≤ length s → drop n (take m s) ≡ part s n (m - n)
drop-take s n m h k =
    sym (rest_is_drop (take m s) n) ∙ ap (λ (l : ℕ). take (l - n) (drop n (take m s))) (length-take-le m s k) ∙ part-take s n (m - n) m (omega arith)

pub part-part : (s : List ℕ) (at m k n : ℕ) → k + n ≤ m → part (part s at m) k n ≡ part s (at + k) n
part-part s at m k n h = part-take (drop at s) k n m h ∙ ap (take n) (drop-drop k at s)

-- ---- lists of bytes
pub bytes_drop : (s : List ℕ) (at : ℕ) → Bytes s → Bytes (drop at s)
bytes_drop s at h i = rw get_or-drop (h (at + i))

pub bytes_take : (s : List ℕ) (n : ℕ) → Bytes s → Bytes (take n s)
bytes_take s zero h i = omega arith
bytes_take [] (suc n) h i = omega arith
bytes_take (x ∷ s) (suc n) h zero = h 0
bytes_take (x ∷ s) (suc n) h (suc i) = bytes_take s n (λ j. h (suc j)) i

pub bytes-part : (s : List ℕ) (at n : ℕ) → Bytes s → Bytes (part s at n)
bytes-part s at n h = bytes_take (drop at s) n (bytes_drop s at h)
