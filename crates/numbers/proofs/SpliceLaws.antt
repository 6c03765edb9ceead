-- Laws of `splice`: what it keeps, what is at the offset, and how adjacent writes compose. Assumes nothing.
use mathlib.Core.Path.{◌≡◌, refl, sym, ap, ap₂, ◌∙◌}
use mathlib.Core.List.{List, [], ◌∷◌, ◌++◌, append_assoc}
use Prim.Native.Nat.{ℕ, suc, ◌+◌, ◌-◌, ◌/◌, ◌≤◌, ◌<◌}
use native.Mathlib.Nat.{le_refl, add-zero, add_assoc}
use native.Mathlib.Numerals.{add-one}
use native.Mathlib.Omega.{arith}
use lib.ListN.{length, take, drop, get_or, set, length-append, length-drop, take-append-drop}
use borrow.Rule.Slice.PartMut.{put_mid}
use lib.Seq.{length-take-le, take-length, take-take, take-suc, take-append-le, take-append-add, drop_at, drop-drop, set_split}
use Rattle.numbers.specs.Lists.{splice}
use Rattle.numbers.proofs.ListLaws.{drop_past}

module _ (d : List ℕ) (at : ℕ) (ys : List ℕ) where
  pub length-splice : at + length ys ≤ length d → length (splice d at ys) ≡ length d
  unfolding splice
  length-splice h =
      let inside : at ≤ length d = omega arith in
      simp (length-append, length-take-le, length-drop) (omega arith)

  -- up to an offset within what was written, and up to its end
  pub take-splice_in : (k : ℕ) → k ≤ length ys → at ≤ length d → take (at + k) (splice d at ys) ≡ take at d ++ take k ys
  unfolding splice
  take-splice_in k h inside =
      let e : length (take at d) ≡ at = length-take-le at d inside in
      ap (λ (n : ℕ). take (n + k) (splice d at ys)) (sym e)
      ∙ take-append-add (take at d) (ys ++ drop (at + length ys) d) k
      ∙ ap (λ (r : List ℕ). take at d ++ r) (take-append-le k ys (drop (at + length ys) d) h)

  pub take-splice-end : at ≤ length d → take (at + length ys) (splice d at ys) ≡ take at d ++ ys
  take-splice-end inside = take-splice_in (length ys) (le_refl (length ys)) inside ∙ ap (λ (r : List ℕ). take at d ++ r) (take-length ys)

  -- after what was written
  pub drop-splice-end : at ≤ length d → drop (at + length ys) (splice d at ys) ≡ drop (at + length ys) d
  unfolding splice
  drop-splice-end inside =
      rw (← append_assoc (take at d) ys (drop (at + length ys) d))
      (drop_at (take at d ++ ys) (drop (at + length ys) d) (at + length ys) (simp (length-append, length-take-le at d inside)))

  pub drop-splice : (k : ℕ) → at + length ys ≤ k → at ≤ length d → drop k (splice d at ys) ≡ drop k d
  drop-splice k h inside =
      let e : ℕ = at + length ys in
      drop_past (splice d at ys) e k h ∙ ap (drop (k - e)) (drop-splice-end inside) ∙ sym (drop_past d e k h)

  -- a write that begins within the one before or at its end, and reaches at least to its end
  pub splice_over : (k : ℕ) (zs : List ℕ) → k ≤ length ys → length ys ≤ k + length zs → at ≤ length d
      → splice (splice d at ys) (at + k) zs ≡ splice d at (take k ys ++ zs)
  unfolding splice
  splice_over k zs h reach inside =
      let e : at + length ys ≤ at + k + length zs = omega arith in
      let f : length (take k ys) ≡ k = length-take-le k ys h in
      ap₂ (λ (p q : List ℕ). p ++ (zs ++ q)) (take-splice_in k h inside) (drop-splice (at + k + length zs) e inside)
      ∙ simp (append_assoc, length-append, f, add_assoc)

  -- two adjacent writes make one
  pub splice-splice : (zs : List ℕ) → at ≤ length d → splice (splice d at ys) (at + length ys) zs ≡ splice d at (ys ++ zs)
  splice-splice zs inside =
      splice_over (length ys) zs (le_refl (length ys)) (omega arith) inside
      ∙ ap (λ (r : List ℕ). splice d at (r ++ zs)) (take-length ys)

-- nothing written
pub splice-nil : (d : List ℕ) (at : ℕ) → splice d at [] ≡ d
unfolding splice
splice-nil d at = rw add-zero (take-append-drop at d)

-- one element stored
pub set_is_splice : (d : List ℕ) (at v : ℕ) → at < length d → set d at v ≡ splice d at (v ∷ [])
unfolding splice
set_is_splice d at v h = set_split d at v h ∙ rw add-one refl

-- ys written over the part of a buffer that was lent as `&mut d[at..at + n]`
pub mid_is_splice : (d : List ℕ) (at n : ℕ) (ys : List ℕ) → length ys ≡ n → put_mid at n d ys ≡ splice d at ys
unfolding splice
mid_is_splice d at n ys e = rw (e, drop-drop)

-- ---- s written in pieces, of which the first k elements are there already

module _ (d : List ℕ) (at : ℕ) (s : List ℕ) (k : ℕ) (low : k ≤ length s) where
  -- a piece from offset j on
  splice-piece : (j : ℕ) (zs : List ℕ) → j ≤ k → k ≤ j + length zs → at ≤ length d
      → splice (splice d at (take k s)) (at + j) zs ≡ splice d at (take j s ++ zs)
  splice-piece j zs h reach inside =
      let e : length (take k s) ≡ k = length-take-le k s low in
      splice_over d at (take k s) j zs (omega arith) (omega arith) inside
      ∙ ap (λ (r : List ℕ). splice d at (r ++ zs)) (take-take j k s h)

  -- all that is left
  pub splice-rest : (j : ℕ) → j ≤ k → at ≤ length d → splice (splice d at (take k s)) (at + j) (drop j s) ≡ splice d at s
  splice-rest j h inside =
      splice-piece j (drop j s) h (simp length-drop (omega arith)) inside
      ∙ ap (splice d at) (take-append-drop j s)

  -- one element
  pub set-piece : (j : ℕ) → j ≤ k → k ≤ suc j → j < length s → at + length s ≤ length d
      → set (splice d at (take k s)) (at + j) (get_or s j 0) ≡ splice d at (take (suc j) s)
  set-piece j h reach inside room =
      let size : length (splice d at (take k s)) ≡ length d = length-splice d at (take k s) (omega (arith, length-take-le k s low)) in
      let x : ℕ = get_or s j 0 in
      set_is_splice (splice d at (take k s)) (at + j) x (omega arith)
      ∙ splice-piece j (x ∷ []) h (omega arith) (omega arith)
      ∙ ap (splice d at) (sym (take-suc s j 0 inside))

-- at most three elements: the first, the middle one and the last
pub set-few : (d : List ℕ) (at : ℕ) (s : List ℕ) → 1 ≤ length s → length s ≤ 3 → at + length s ≤ length d
    → set (set (set d at (get_or s 0 0)) (at + length s / 2) (get_or s (length s / 2) 0)) (at + (length s - 1)) (get_or s (length s - 1) 0)
    ≡ splice d at s
set-few d at s low high room =
    let m : ℕ = length s / 2 in
    let l : ℕ = length s - 1 in
    let whole : suc l ≡ length s = omega arith in
    ap (λ (e : List ℕ). set (set e (at + m) (get_or s m 0)) (at + l) (get_or s l 0)) (set_is_splice d at (get_or s 0 0) (omega arith) ∙ ap (splice d at) (sym (take-suc s 0 0 low)))
    ∙ ap (λ (e : List ℕ). set e (at + l) (get_or s l 0)) (set-piece d at s 1 low m (omega arith) (omega arith) (omega arith) room)
    ∙ set-piece d at s (suc m) (omega arith) l (omega arith) (omega arith) (omega arith) room
    ∙ ap (λ (n : ℕ). splice d at (take n s)) whole
    ∙ ap (splice d at) (take-length s)

-- ---- adjacent writes, one after the other: the bytes ys were written into d at offset at, which left d' and the next offset
pub record Put (d : List ℕ) (at : ℕ) (ys : List ℕ) (d' : List ℕ) (next : ℕ) : Type 0 where
  pub ends : next ≡ at + length ys
  pub is : d' ≡ splice d at ys

pub wrote : {d d' ys : List ℕ} {at n : ℕ} → length ys ≡ n → d' ≡ splice d at ys → Put d at ys d' (at + n)
wrote {at = at} e i = record { ends = ap (◌+◌ at) (sym e); is = i }

pub put_put : {d d' d'' ys zs : List ℕ} {at m n : ℕ} → at ≤ length d → Put d at ys d' m → Put d' m zs d'' n → Put d at (ys ++ zs) d'' n
put_put {d} {d'} {d''} {ys} {zs} {at} {m} {n} inside p q =
    record {
      ends = simp length-append (omega arith);
      is =
          q.is
          ∙ ap₂ (λ (e : List ℕ) (k : ℕ). splice e k zs) p.is p.ends
          ∙ splice-splice d at ys zs inside;
    }
