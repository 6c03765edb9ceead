-- Laws of lead bytes: the class of a byte is the index of the line whose range holds it, and what the class asks for. Assumes nothing.
use mathlib.Core.Path.{◌≡◌, refl, ap, ◌∙◌}
use mathlib.Core.Bool.{Bool, true, false, cond, ◌&&◌, and-false}
use mathlib.Core.List.{List, [], ◌∷◌}
use Prim.Native.Nat.{ℕ, zero, suc, ◌≤◌, ◌<◌}
use native.Mathlib.Omega.{arith}
use borrow.Author.Tests.{lt-ltb, lt-leb}
use mir.Facts.{and_yes}
use lib.Dec.{T, leb, ltb, eqb, leb→le, ltb→lt, eqb→eq, leb-zero, leb-suc-zero}
use lib.Ieee.Bits.{is_true}
use lib.ListN.{length}
use Rattle.numbers.specs.Inner.{after}
use Rattle.numbers.proofs.BelowLaws.{all_below, each_below}
use Rattle.numbers.specs.Text.{Range, Line, ◌to◌, within, tail, nothing, lines, class_in, asks_in, class_of, asks, utf8_from}

-- ---- the class of a byte

-- whether the line at index k holds b
abbrev pub holds : List Line → ℕ → ℕ → Bool
holds [] k b = false
holds (l ∷ ls) zero b = within l.lead b
holds (l ∷ ls) (suc k) b = holds ls k b

-- each lead range lies above those of the lines before
abbrev above : Range → List Line → Bool
above r [] = true
above r (l ∷ ls) = ltb r.high l.lead.low && above r ls

abbrev ascending : List Line → Bool
ascending [] = true
ascending (l ∷ ls) = above l.lead ls && ascending ls

over : (r : Range) (ls : List Line) (k b : ℕ) → T (above r ls) → T (holds ls k b) → r.high < b
over r [] k b a h = absurd h
over r (l ∷ ls) zero b a h =
    let p : r.high < l.lead.low = ltb→lt _ _ (and_yes (ltb r.high l.lead.low) (above r ls) a).0 in
    let q : l.lead.low ≤ b = leb→le _ _ (and_yes (leb l.lead.low b) (leb b l.lead.high) h).0 in
    omega arith
over r (l ∷ ls) (suc k) b a h = over r ls k b (and_yes (ltb r.high l.lead.low) (above r ls) a).1 h

class_is : (ls : List Line) (k b : ℕ) → T (ascending ls) → T (holds ls k b) → class_in ls b ≡ k
unfolding class_in
class_is [] k b a h = absurd h
class_is (l ∷ ls) zero b a h = ap (λ (t : Bool). cond t 0 (suc (class_in ls b))) (is_true (within l.lead b) h)
class_is (l ∷ ls) (suc k) b a h =
    let p = and_yes (above l.lead ls) (ascending ls) a in
    let past : leb b l.lead.high ≡ false = lt-leb b l.lead.high (over l.lead ls k b p.0 h) in
    ap (λ (t : Bool). cond t 0 (suc (class_in ls b))) (ap (λ (t : Bool). leb l.lead.low b && t) past ∙ and-false (leb l.lead.low b))
    ∙ ap suc (class_is ls k b p.1 h)

pub leads : (k b : ℕ) → T (holds lines k b) → class_of b ≡ k
unfolding class_of
leads k b h = class_is lines k b tt h

-- the bytes that no line holds
pub between : (b : ℕ) → 0x7f < b → b < 0xc2 → class_of b ≡ 9
unfolding class_of
between b h k =
    rw (lt-leb b 0x7f h, leb-zero b, lt-leb 0xc2 b k, lt-leb 0xe0 b (omega arith), lt-leb 0xe1 b (omega arith), lt-leb 0xed b (omega arith), lt-leb 0xee b (omega arith), lt-leb 0xf0 b (omega arith), lt-leb 0xf1 b (omega arith), lt-leb 0xf4 b (omega arith))

-- no lead range reaches above m
abbrev capped : ℕ → List Line → Bool
capped m [] = true
capped m (l ∷ ls) = leb l.lead.high m && capped m ls

above_all : (m : ℕ) (ls : List Line) (b : ℕ) → T (capped m ls) → m < b → class_in ls b ≡ length ls
unfolding class_in
above_all m [] b c h = refl
above_all m (l ∷ ls) b c h =
    let p = and_yes (leb l.lead.high m) (capped m ls) c in
    let q : l.lead.high ≤ m = leb→le _ _ p.0 in
    ap (λ (t : Bool). cond t 0 (suc (class_in ls b))) (ap (λ (t : Bool). leb l.lead.low b && t) (lt-leb b l.lead.high (omega arith)) ∙ and-false (leb l.lead.low b))
    ∙ ap suc (above_all m ls b p.1 h)

pub beyond : (b : ℕ) → 0xf4 < b → class_of b ≡ 9
unfolding class_of
beyond b h = above_all 0xf4 lines b tt h

-- ---- what a class asks for

pub after_is : (k : ℕ) → k < 9 → after k ≡ asks k
unfolding after
after_is k h = rw (lt-ltb k 9 h)

-- a class after that of the last line asks for what no byte is
past : (ls : List Line) (k : ℕ) → length ls ≤ k → asks_in ls k ≡ nothing ∷ []
unfolding asks_in
past [] k h = refl
past (l ∷ ls) zero h = absurd (omega arith)
past (l ∷ ls) (suc k) h = past ls k (omega arith)

none : (s : List ℕ) → utf8_from (nothing ∷ []) s ≡ false
unfolding utf8_from
none [] = refl
none (zero ∷ s) = refl
none (suc b ∷ s) = rw (leb-suc-zero b, and-false)

pub no_lead : (k : ℕ) (s : List ℕ) → 9 ≤ k → utf8_from (asks k) s ≡ false
unfolding asks
no_lead k s h = ap (λ (rs : List Range). utf8_from rs s) (past lines k h) ∙ none s

-- ---- tails

-- two lists of ranges, compared
same : List Range → List Range → Bool
same [] [] = true
same [] (r ∷ rs) = false
same (q ∷ qs) [] = false
same (q ∷ qs) (r ∷ rs) = eqb q.low r.low && (eqb q.high r.high && same qs rs)

same_is : (qs rs : List Range) → T (same qs rs) → qs ≡ rs
unfolding same
same_is [] [] h = refl
same_is [] (r ∷ rs) h = absurd h
same_is (q ∷ qs) [] h = absurd h
same_is (q ∷ qs) (r ∷ rs) h =
    let p = and_yes (eqb q.low r.low) (eqb q.high r.high && same qs rs) h in
    let p' = and_yes (eqb q.high r.high) (same qs rs) p.1 in
    ap (λ (n : ℕ). (n to q.high) ∷ qs) (eqb→eq q.low r.low p.0)
    ∙ ap (λ (n : ℕ). (r.low to n) ∷ qs) (eqb→eq q.high r.high p'.0)
    ∙ ap (◌∷◌ r) (same_is qs rs p'.1)

-- all but the first
abbrev pub rest : List Range → List Range
rest [] = []
rest (r ∷ rs) = rs

-- the tails after the second byte of a character, by whether its lead byte is e0 or above, and f0 or above
abbrev pub tails : Bool → Bool → List Range
tails e f = cond e (tail ∷ cond f (tail ∷ []) []) []

-- the first range, where there is one, holds tails alone
abbrev pub inside : List Range → Bool
inside [] = true
inside (r ∷ rs) = leb 0x80 r.low && leb r.high 0xbf

-- what a byte asks for
abbrev pub follow : ℕ → List Range
follow b = after (class_of b)

sound : ℕ → Bool
unfolding same after
sound b = same (rest (follow b)) (tails (leb 0xe0 b) (leb 0xf0 b)) && inside (follow b)

-- one test, computed over the bytes up to f4
sound_all : T (all_below sound 0xf5)
unfolding sound class_of
sound_all = tt

module _ (b : ℕ) (h : b ≤ 0xf4) where
  tested : T (same (rest (follow b)) (tails (leb 0xe0 b) (leb 0xf0 b))) × T (inside (follow b))
  unfolding sound
  tested = and_yes (same (rest (follow b)) (tails (leb 0xe0 b) (leb 0xf0 b))) (inside (follow b)) (each_below sound 0xf5 sound_all b (omega arith))

  pub rest_is : rest (follow b) ≡ tails (leb 0xe0 b) (leb 0xf0 b)
  rest_is = same_is _ _ tested.0

  pub inside_is : T (inside (follow b))
  inside_is = tested.1
