-- `utf8` holds exactly of the octets of RFC 3629's grammar. Assumes nothing.
use mathlib.Core.Path.{◌≡◌, refl, sym, ap, subst, ◌∙◌}
use mathlib.Core.Bool.{Bool, true, false, cond}
use mathlib.Core.List.{List, [], ◌∷◌, ◌++◌, Memᴰ}
use Prim.Native.Nat.{ℕ, suc, ◌≤◌}
use native.Mathlib.Omega.{arith}
use mir.Facts.{and_yes, yes_and}
use lib.Dec.{T, leb, leb→le}
use Rattle.numbers.specs.Grammar.Lies.{all, next}
use Rattle.numbers.specs.Grammar.Octets.{empty, char}
use Rattle.numbers.specs.Grammar.{Lies, Octets}
use Rattle.numbers.proofs.LeadLaws.{holds, leads}
use Rattle.numbers.specs.Text.{Range, Line, within, nothing, lines, class_in, asks_in, class_of, asks, utf8_from, utf8}

-- ---- text is octets

-- the bytes that make a character of one of the lines after its lead byte b
record Led (ls : List Line) (b : ℕ) (c : List ℕ) : Type 0 where
  of : Line
  among : Memᴰ of ls
  lies : Lies (of.lead ∷ of.behind) (b ∷ c)

none_lies : {c : List ℕ} → Lies (nothing ∷ []) c → ⊥
none_lies (next {b = b} t h) =
    let p : T (leb 1 b) × T (leb b 0) = and_yes (leb 1 b) (leb b 0) t in
    let low : 1 ≤ b = leb→le 1 b p.0 in
    let high : b ≤ 0 = leb→le b 0 p.1 in
    omega arith

led_here : (l : Line) (ls : List Line) (b : ℕ) (c : List ℕ) (t : Bool) → within l.lead b ≡ t
    → (Lies (asks_in ls (class_in ls b)) c → Led ls b c)
    → Lies (asks_in (l ∷ ls) (cond t 0 (suc (class_in ls b)))) c → Led (l ∷ ls) b c
unfolding asks_in
led_here l ls b c true e further h =
    record { of = l; among = Memᴰ.head refl; lies = next (subst T (sym e) tt) h }
led_here l ls b c false e further h =
    let q = further h in
    record { of = q.of; among = Memᴰ.tail q.among; lies = q.lies }

led : (ls : List Line) (b : ℕ) (c : List ℕ) → Lies (asks_in ls (class_in ls b)) c → Led ls b c
unfolding asks_in class_in
led [] b c h = absurd (none_lies h)
led (l ∷ ls) b c h = led_here l ls b c (within l.lead b) refl (led ls b c) h

-- text with ranges given is bytes that lie in them, and then octets
record Falls (rs : List Range) (s : List ℕ) : Type 0 where
  first : List ℕ
  rest : List ℕ
  is : s ≡ first ++ rest
  lies : Lies rs first
  octets : Octets rest

falls : (rs : List Range) (s : List ℕ) → T (utf8_from rs s) → Falls rs s
unfolding utf8_from asks class_of
falls [] [] h = record { first = []; rest = []; is = refl; lies = all; octets = empty }
falls [] (b ∷ s) h =
    let p = falls (asks (class_of b)) s h in
    let q = led lines b p.first p.lies in
    record {
      first = [];
      rest = b ∷ s;
      is = refl;
      lies = all;
      octets = char q.of q.among q.lies p.octets (ap (◌∷◌ b) p.is);
    }
falls (r ∷ rs) [] h = absurd h
falls (r ∷ rs) (b ∷ s) h =
    let t = and_yes (within r b) (utf8_from rs s) h in
    let p = falls rs s t.1 in
    record {
      first = b ∷ p.first;
      rest = p.rest;
      is = ap (◌∷◌ b) p.is;
      lies = next t.0 p.lies;
      octets = p.octets;
    }

nothing-first : {c : List ℕ} → Lies [] c → c ≡ []
nothing-first all = refl

pub utf8_octets : (s : List ℕ) → T (utf8 s) → Octets s
unfolding utf8
utf8_octets s h =
    let p = falls [] s h in
    subst Octets (sym (p.is ∙ ap (λ (c : List ℕ). c ++ p.rest) (nothing-first p.lies))) p.octets

-- ---- octets are text

goes_on : {rs : List Range} {c : List ℕ} (t : List ℕ) → Lies rs c → T (utf8_from [] t) → T (utf8_from rs (c ++ t))
unfolding utf8_from
goes_on t all h = h
goes_on t (next {r = r} {rs = rs} {b = b} {s = s} w l) h = yes_and (within r b) (utf8_from rs (s ++ t)) w (goes_on t l h)

-- a line that holds b as lead byte, by its index
record Found (ls : List Line) (l : Line) (b : ℕ) : Type 0 where
  index : ℕ
  there : T (holds ls index b)
  asked : asks_in ls index ≡ l.behind

found : (b : ℕ) (l : Line) {ls : List Line} → Memᴰ l ls → T (within l.lead b) → Found ls l b
unfolding asks_in
found b l (Memᴰ.head {x = x} e) w =
    record { index = 0; there = subst (λ (m : Line). T (within m.lead b)) e w; asked = ap (λ (m : Line). m.behind) (sym e) }
found b l (Memᴰ.tail m) w = let p = found b l m w in record { index = suc p.index; there = p.there; asked = p.asked }

-- what the class of b asks for is what follows the lead range that holds b
behind_is : (b : ℕ) (l : Line) → Memᴰ l lines → T (within l.lead b) → asks (class_of b) ≡ l.behind
unfolding asks
behind_is b l m w = let p = found b l m w in ap asks (leads p.index b p.there) ∙ p.asked

pub octets_utf8 : {s : List ℕ} → Octets s → T (utf8 s)
unfolding utf8 utf8_from
octets_utf8 empty = tt
octets_utf8 (char {t = t} l m (next {b = b} {s = c} w h) o e) =
    subst (λ (r : List ℕ). T (utf8_from [] r)) (sym e)
    (subst (λ (rs : List Range). T (utf8_from rs (c ++ t))) (sym (behind_is b l m w)) (goes_on t h (octets_utf8 o)))
