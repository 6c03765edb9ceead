-- The laws of numbers in bytes, each once over the width and the order of the bytes. Assumes nothing.
use mathlib.Core.Path.{◌≡◌, refl, sym, ap, ap₂, ◌∙◌}
use mathlib.Core.List.{List, [], ◌∷◌, append-nil, reverse, reverse_aux, reverse-reverse}
use Prim.Native.Nat.{ℕ, zero, suc, ◌+◌, ◌-◌, ◌*◌, ◌/◌, ◌%◌, ◌^◌, ◌≤◌, ◌<◌}
use native.Mathlib.Nat.{zero-add, add-zero, pow-zero, pow-suc, pow-succ', div-one, mod-eq_of_lt, div-div-eq-div-mul, div-lt_iff_lt-mul, one-le-pow}
use native.Mathlib.Omega.{arith}
use lib.Arith.{mod-mul}
use lib.Dec.{lit<}
use lib.ListN.{length, take, get_or, set, length-reverse, drop_of_length-le}
use lib.Seq.{take_all, drop-cons}
use Rattle.std.specs.Int.{byte_at, bytes_low_first}
use Rattle.numbers.specs.Lists.{Bytes, part, splice}
use Rattle.numbers.specs.Numbers.Order.{least_first, most_first}
use Rattle.numbers.specs.Numbers.{Order, le_value, le_bytes, ordered, value_in, bytes_in}
use Rattle.numbers.proofs.ListLaws.{rest_is_drop, length_part, bytes-part}
use Rattle.numbers.proofs.SpliceLaws.{set_is_splice, splice-splice, splice-rest}

-- ---- bytes in an order

bytes-turned : (xs ys : List ℕ) → Bytes xs → Bytes ys → Bytes (reverse_aux xs ys)
bytes-turned [] ys f g = g
bytes-turned (x ∷ xs) ys f g = bytes-turned xs (x ∷ ys) (λ i. f (suc i)) first
  where
    first : Bytes (x ∷ ys)
    first zero = f 0
    first (suc i) = g i

module _ (o : Order) where
  length-ordered : (bs : List ℕ) → length (ordered o bs) ≡ length bs
  length-ordered = by o
    where
      by : (o : Order) (bs : List ℕ) → length (ordered o bs) ≡ length bs
      by least_first bs = refl
      by most_first bs = length-reverse bs

  bytes-ordered : (bs : List ℕ) → Bytes bs → Bytes (ordered o bs)
  bytes-ordered = by o
    where
      by : (o : Order) (bs : List ℕ) → Bytes bs → Bytes (ordered o bs)
      by least_first bs h = h
      by most_first bs h = bytes-turned bs [] h (λ i. omega arith)

  ordered_twice : (bs : List ℕ) → ordered o (ordered o bs) ≡ bs
  ordered_twice = by o
    where
      by : (o : Order) (bs : List ℕ) → ordered o (ordered o bs) ≡ bs
      by least_first bs = refl
      by most_first bs = reverse-reverse bs

-- ---- a number's bytes and the number

length-le : (w n : ℕ) → length (le_bytes w n) ≡ w
unfolding le_bytes
length-le zero n = refl
length-le (suc w) n = ap suc (length-le w (n / 256))

bytes_le : (w n : ℕ) → Bytes (le_bytes w n)
unfolding le_bytes
bytes_le zero n i = omega arith
bytes_le (suc w) n zero = omega arith
bytes_le (suc w) n (suc i) = bytes_le w (n / 256) i

value_le : (w n : ℕ) → n < 256 ^ w → le_value (le_bytes w n) ≡ n
unfolding le_value le_bytes
value_le zero n h = let p : 256 ^ 0 ≡ 1 = pow-zero 256 in omega arith
value_le (suc w) n h =
    let small : n / 256 < 256 ^ w = (div-lt_iff_lt-mul (lit< tt)).1 (rw pow-suc at h) in
    let ih : le_value (le_bytes w (n / 256)) ≡ n / 256 = value_le w (n / 256) small in
    omega arith

le_value_lem : (bs : List ℕ) → Bytes bs → le_bytes (length bs) (le_value bs) ≡ bs
unfolding le_value le_bytes
le_value_lem [] h = refl
le_value_lem (b ∷ bs) h =
    let small : b < 256 = h 0 in
    let first : (b + 256 * le_value bs) % 256 ≡ b = omega arith in
    let others : (b + 256 * le_value bs) / 256 ≡ le_value bs = omega arith in
    rw (first, others) (ap (◌∷◌ b) (le_value_lem bs (λ i. h (suc i))))

bound_le : (bs : List ℕ) → Bytes bs → le_value bs < 256 ^ length bs
unfolding le_value
bound_le [] h = let p : 256 ^ 0 ≡ 1 = pow-zero 256 in omega arith
bound_le (b ∷ bs) h =
    let small : b < 256 = h 0 in
    let ih : le_value bs < 256 ^ length bs = bound_le bs (λ i. h (suc i)) in
    rw pow-succ' (omega arith)

module _ (o : Order) where
  pub length-bytes_in : (w n : ℕ) → length (bytes_in o w n) ≡ w
  length-bytes_in w n = length-ordered o (le_bytes w n) ∙ length-le w n

  pub bytes-bytes_in : (w n : ℕ) → Bytes (bytes_in o w n)
  bytes-bytes_in w n = bytes-ordered o (le_bytes w n) (bytes_le w n)

  pub value_in-bytes_in : (w n : ℕ) → n < 256 ^ w → value_in o (bytes_in o w n) ≡ n
  value_in-bytes_in w n h = ap le_value (ordered_twice o (le_bytes w n)) ∙ value_le w n h

  pub bytes_in-value_in : (bs : List ℕ) → Bytes bs → bytes_in o (length bs) (value_in o bs) ≡ bs
  bytes_in-value_in bs h =
      ap (λ (w : ℕ). bytes_in o w (value_in o bs)) (sym (length-ordered o bs))
      ∙ ap (ordered o) (le_value_lem (ordered o bs) (bytes-ordered o bs h))
      ∙ ordered_twice o bs

  pub value_in_bound : (bs : List ℕ) → Bytes bs → value_in o bs < 256 ^ length bs
  value_in_bound bs h = rw (length-ordered o bs) at (bound_le (ordered o bs) (bytes-ordered o bs h))

-- what is above the width is left out
pub le_bytes-mod : (w v : ℕ) → le_bytes w (v % 256 ^ w) ≡ le_bytes w v
unfolding le_bytes
le_bytes-mod zero v = refl
le_bytes-mod (suc w) v =
    let e : v % 256 ^ suc w ≡ (v / 256 % 256 ^ w) * 256 + v % 256 = rw pow-suc (mod-mul v (one-le-pow w 256 (lit< tt)) (lit< tt)) in
    let first : v % 256 ^ suc w % 256 ≡ v % 256 = omega arith in
    let others : v % 256 ^ suc w / 256 ≡ v / 256 % 256 ^ w = omega arith in
    rw (first, others) (ap (◌∷◌ (v % 256)) (le_bytes-mod w (v / 256)))

-- ---- one byte
pub le_value_one : (s : List ℕ) (at : ℕ) → at < length s → le_value (part s at 1) ≡ get_or s at 0
unfolding le_value
le_value_one s at h = ap (λ (r : List ℕ). le_value (take 1 r)) (drop-cons s at 0 h) ∙ add-zero (get_or s at 0)

pub set_is_le_bytes : (d : List ℕ) (at v : ℕ) → at < length d → v < 256 → set d at v ≡ splice d at (le_bytes 1 v)
unfolding le_bytes
set_is_le_bytes d at v h small = set_is_splice d at v h ∙ ap (λ (b : ℕ). splice d at (b ∷ [])) (sym (mod-eq_of_lt small))

-- a store and then the bytes above it
pub splice_step : (d : List ℕ) (at n v : ℕ) → at < length d
    → splice (set d at (v % 256)) (at + 1) (le_bytes n (v / 256)) ≡ splice d at (le_bytes (suc n) v)
unfolding le_bytes
splice_step d at n v h =
    ap (λ (e : List ℕ). splice e (at + 1) (le_bytes n (v / 256))) (set_is_splice d at (v % 256) h)
    ∙ splice-splice d at (v % 256 ∷ []) (le_bytes n (v / 256)) (omega arith)

-- ---- std's numbers in bytes

-- the n bytes of s from offset at + k on, as they are read
abbrev reads : List ℕ → ℕ → ℕ → ℕ → List ℕ
reads s at k zero = []
reads s at k (suc n) = get_or s (at + k) 0 ∷ reads s at (suc k) n

part_reads : (s : List ℕ) (at k n : ℕ) → at + k + n ≤ length s → part s (at + k) n ≡ reads s at k n
part_reads s at k zero h = refl
part_reads s at k (suc n) h =
    let e : suc (at + k) ≡ at + suc k = omega arith in
    ap (take (suc n)) (drop-cons s (at + k) 0 (omega arith))
    ∙ ap (◌∷◌ (get_or s (at + k) 0)) (ap (λ (j : ℕ). part s j n) e ∙ part_reads s at (suc k) n (omega arith))

pub part_read : (s : List ℕ) (at n : ℕ) → at + suc n ≤ length s → part s at (suc n) ≡ get_or s at 0 ∷ reads s at 1 n
part_read s at n h =
    let e : suc at ≡ at + 1 = omega arith in
    ap (take (suc n)) (drop-cons s at 0 (omega arith))
    ∙ ap (◌∷◌ (get_or s at 0)) (ap (λ (j : ℕ). part s j n) e ∙ part_reads s at 1 n (omega arith))

pub all_read : (bs : List ℕ) (n : ℕ) → length bs ≡ suc n → bs ≡ get_or bs 0 0 ∷ reads bs 0 1 n
all_read bs n h = sym (take_all (suc n) bs (omega arith)) ∙ part_read bs 0 n (omega arith)

-- std's bytes of a number are ours
bytes_from : (i w v : ℕ) → bytes_low_first i w v ≡ le_bytes w (v / 256 ^ i)
unfolding le_bytes
bytes_from i zero v = refl
bytes_from i (suc w) v =
    ap₂ ◌∷◌ (byte i) (bytes_from (suc i) w v ∙ ap (le_bytes w) further)
  where
    byte : (i : ℕ) → byte_at i v ≡ v / 256 ^ i % 256
    byte zero = rw (pow-zero, div-one)
    byte (suc i) = refl

    further : v / 256 ^ suc i ≡ v / 256 ^ i / 256
    further = rw pow-suc (sym (div-div-eq-div-mul v (256 ^ i) 256))

pub bytes_are : (w v : ℕ) → bytes_low_first 0 w v ≡ le_bytes w v
bytes_are w v = bytes_from 0 w v ∙ ap (le_bytes w) (rw (pow-zero, div-one) refl)

-- a number's bytes, written over as many
pub splice_all : (d : List ℕ) (w v : ℕ) → length d ≡ w → splice d 0 (le_bytes w v) ≡ le_bytes w v
unfolding splice
splice_all d w v h =
    let end : length d ≤ w = omega arith in
    rw (length-le w v, zero-add w, drop_of_length-le d end) (append-nil (le_bytes w v))

-- ---- bytes moved as a number
pub le_bytes-part : (s : List ℕ) (at w : ℕ) → Bytes s → at + w ≤ length s → le_bytes w (le_value (part s at w)) ≡ part s at w
le_bytes-part s at w h inside =
    ap (λ (k : ℕ). le_bytes k (le_value (part s at w))) (sym (length_part s at w inside))
    ∙ bytes_in-value_in least_first (part s at w) (bytes-part s at w h)

-- the bytes at an offset turned round, by their number
pub turned-part : (s : List ℕ) (at w : ℕ) → Bytes s → at + w ≤ length s
    → le_value (bytes_in most_first w (le_value (part s at w))) ≡ value_in most_first (part s at w)
turned-part s at w h inside = ap (λ (bs : List ℕ). le_value (reverse bs)) (le_bytes-part s at w h inside)

-- the first w bytes of s and its last w, moved as numbers, are all of s if it has at most 2 w bytes
pub splice-ends : (d : List ℕ) (at : ℕ) (s : List ℕ) (w : ℕ) → Bytes s → w ≤ length s → length s ≤ w + w → at + length s ≤ length d
    → splice (splice d at (le_bytes w (le_value (part s 0 w)))) (at + (length s - w)) (le_bytes w (le_value (part s (length s - w) w)))
    ≡ splice d at s
splice-ends d at s w h low high inside =
    let k : ℕ = length s - w in
    let all : w ≡ length s - k = omega arith in
    rw (le_bytes-part s 0 w h (omega arith), le_bytes-part s k w h (omega arith))
    (ap (λ (n : ℕ). splice (splice d at (take w s)) (at + k) (part s k n)) all
    ∙ ap (splice (splice d at (take w s)) (at + k)) (rest_is_drop s k)
    ∙ splice-rest d at s w low k (omega arith) (omega arith))
