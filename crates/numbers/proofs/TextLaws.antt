-- Laws of text: ASCII leads alone, and zero bytes after text change nothing. Assumes nothing.
use mathlib.Core.Path.{◌≡◌, refl, ap, ◌∙◌}
use mathlib.Core.Bool.{Bool, true, ◌&&◌}
use mathlib.Core.List.{List, [], ◌∷◌, ◌++◌}
use Prim.Native.Nat.{ℕ, zero, suc, ◌≤◌, ◌<◌}
use native.Mathlib.Nat.{zero-add}
use native.Mathlib.Omega.{arith}
use borrow.Author.Tests.{le-leb, lt-leb}
use mir.Facts.{and_yes}
use lib.Dec.{T, leb, eqb, leb-zero, leb→le, eqb→eq}
use lib.ListN.{length, drop, length-drop}
use Rattle.numbers.specs.Lists.{splice}
use Rattle.numbers.specs.Text.{Range, Line, within, lines, class_of, asks_in, asks, utf8_from, utf8}

pub ascii-asks : (b : ℕ) → b < 128 → asks (class_of b) ≡ []
unfolding asks class_of
ascii-asks b h = let e : leb b 127 ≡ true = le-leb b 127 (omega arith) in rw (leb-zero, e)

-- ---- zero bytes

-- ranges that do not hold the zero byte
abbrev positive : List Range → Bool
positive [] = true
positive (r ∷ rs) = leb 1 r.low && positive rs

abbrev all_positive : List Line → Bool
all_positive [] = true
all_positive (l ∷ ls) = positive l.behind && all_positive ls

positive_in : (ls : List Line) (k : ℕ) → T (all_positive ls) → T (positive (asks_in ls k))
unfolding asks_in
positive_in [] k h = tt
positive_in (l ∷ ls) zero h = (and_yes (positive l.behind) (all_positive ls) h).0
positive_in (l ∷ ls) (suc k) h = positive_in ls k (and_yes (positive l.behind) (all_positive ls) h).1

positive_asks : (k : ℕ) → T (positive (asks k))
unfolding asks
positive_asks k = positive_in lines k tt

abbrev zeros : List ℕ → Bool
zeros [] = true
zeros (b ∷ z) = eqb b 0 && zeros z

zeros_drop : (k : ℕ) (z : List ℕ) → T (zeros z) → T (zeros (drop k z))
zeros_drop zero z h = h
zeros_drop (suc k) [] h = tt
zeros_drop (suc k) (b ∷ z) h = zeros_drop k z (and_yes (eqb b 0) (zeros z) h).1

zeros_text : (z : List ℕ) → T (zeros z) → utf8_from [] z ≡ true
unfolding utf8_from
zeros_text [] h = refl
zeros_text (b ∷ z) h =
    let p = and_yes (eqb b 0) (zeros z) h in
    let e : b ≡ 0 = eqb→eq b 0 p.0 in
    ap (λ (rs : List Range). utf8_from rs z) (ascii-asks b (omega arith)) ∙ zeros_text z p.1

zeros_after : (rs : List Range) (s z : List ℕ) → T (positive rs) → T (zeros z) → 0 < length z → utf8_from rs (s ++ z) ≡ utf8_from rs s
unfolding utf8_from
zeros_after [] [] z p h l = zeros_text z h
zeros_after (r ∷ rs) [] [] p h l = absurd (omega arith)
zeros_after (r ∷ rs) [] (b ∷ z) p h l =
    let e : b ≡ 0 = eqb→eq b 0 (and_yes (eqb b 0) (zeros z) h).0 in
    let low : 1 ≤ r.low = leb→le 1 r.low (and_yes (leb 1 r.low) (positive rs) p).0 in
    rw (lt-leb r.low b (omega arith))
zeros_after [] (b ∷ s) z p h l = zeros_after (asks (class_of b)) s z (positive_asks (class_of b)) h l
zeros_after (r ∷ rs) (b ∷ s) z p h l = ap (λ (t : Bool). within r b && t) (zeros_after rs s z (and_yes (leb 1 r.low) (positive rs) p).1 h l)

-- text filled up with zero bytes
pub filled_up : (s z : List ℕ) → T (zeros z) → length s < length z → utf8 (splice z 0 s) ≡ utf8 s
unfolding utf8 splice
filled_up s z h l =
    rw (zero-add (length s)) (zeros_after [] s (drop (length s) z) tt (zeros_drop (length s) z h) (omega (arith, length-drop (length s) z)))
