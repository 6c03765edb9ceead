-- Text by each byte and the three before it: bytes are text if and only if each fits where it stands, and a zero byte fits at the end.
-- Assumes nothing.
use mathlib.Core.Path.{◌≡◌, refl, sym, ap, subst, ◌∙◌}
use mathlib.Core.Logic.{◌⊎◌, inl, inr, ⊎_elim}
use mathlib.Core.Bool.{Bool, true, false, cond, ◌&&◌, ◌||◌, true≢false, or-true}
use mathlib.Core.List.{List, [], ◌∷◌}
use Prim.Native.Nat.{ℕ, zero, suc, ◌+◌, ◌-◌, ◌≤◌, ◌<◌}
use native.Mathlib.Nat.{eq-or-lt_of_le}
use native.Mathlib.Numerals.{add-one}
use native.Mathlib.Omega.{arith}
use borrow.Author.Tests.{leb-true, leb-false, le-leb, lt-leb, ltb-true, ltb-false}
use mir.Facts.{and_yes}
use lib.Dec.{T, leb, ltb, leb→le}
use lib.Ieee.Bits.{is_true}
use lib.ListN.{length, drop, get_or, drop_of_length-le, get_or-eq_default}
use lib.Seq.{drop-cons}
use Rattle.numbers.specs.Inner.{after, fits_in, fits_after, before, fits_at, all_fit}
use Rattle.numbers.specs.Text.{Range, within, tail, class_of, asks, utf8_from, utf8}
use Rattle.numbers.proofs.LeadLaws.{rest, tails, inside, follow, rest_is, inside_is, between, beyond, after_is, no_lead}

-- ---- what is awaited

-- the first list, or the second where it is empty
abbrev or_else : List Range → List Range → List Range
or_else [] qs = qs
or_else (r ∷ rs) qs = r ∷ rs

or_else_none : (rs : List Range) → or_else rs [] ≡ rs
or_else_none [] = refl
or_else_none (r ∷ rs) = refl

-- after the bytes c, b and a: what a asks for, or what is left of what b asks for, or c
abbrev due : ℕ → ℕ → ℕ → List Range
due c b a = or_else (follow a) (or_else (rest (follow b)) (rest (rest (follow c))))

-- whether x is the next byte, and what is awaited after it, where it asks for qs
abbrev takes : List Range → ℕ → Bool
takes [] x = ltb (class_of x) 9
takes (r ∷ rs) x = within r x

abbrev next : List Range → List Range → List Range
next [] qs = qs
next (r ∷ rs) qs = rs

-- `utf8_from`, a byte at a time
utf8_byte : (rs : List Range) (x : ℕ) (s : List ℕ) → utf8_from rs (x ∷ s) ≡ takes rs x && utf8_from (next rs (follow x)) s
unfolding utf8_from
utf8_byte (r ∷ rs) x s = refl
utf8_byte [] x s = leads (ltb (class_of x) 9) refl
  where
    leads : (t : Bool) → ltb (class_of x) 9 ≡ t → utf8_from (asks (class_of x)) s ≡ ltb (class_of x) 9 && utf8_from (follow x) s
    leads true e = rw e (ap (λ (rs : List Range). utf8_from rs s) (sym (after_is (class_of x) (ltb-true _ _ e))))
    leads false e = rw e (no_lead (class_of x) s (ltb-false _ _ e))

-- the end: nothing may be awaited, so a zero byte fits
utf8-end : (rs : List Range) → T (inside rs) → utf8_from rs [] ≡ takes rs 0
unfolding utf8_from class_of
utf8-end [] h = refl
utf8-end (r ∷ rs) h =
    let low : 0x80 ≤ r.low = leb→le _ _ (and_yes (leb 0x80 r.low) (leb r.high 0xbf) h).0 in
    rw (lt-leb r.low 0 (omega arith))

-- ---- three bytes that were accepted

abbrev none : List Range → Bool
none [] = true
none (r ∷ rs) = false

-- they are bytes of text, and a and b do not both lead
record Reached (c b a : ℕ) : Type 0 where
  far : c ≤ 0xf4
  mid : b ≤ 0xf4
  near : a ≤ 0xf4
  apart : T (none (follow a) || none (follow b))

-- the third byte of a character and the fourth are asked for by the lead byte's value alone
third : (e f : Bool) (qs : List Range) (x : ℕ) → takes (or_else (tails e f) qs) x ≡ cond e (within tail x) (takes qs x)
third true f qs x = refl
third false f qs x = refl

fourth : (e f : Bool) (x : ℕ) → (f ≡ true → e ≡ true) → takes (rest (tails e f)) x ≡ cond f (within tail x) (ltb (class_of x) 9)
fourth true true x h = refl
fourth true false x h = refl
fourth false true x h = absurd (true≢false (sym (h refl)))
fourth false false x h = refl

either : (s t : Bool) (u v : Bool) → cond (s || t) u v ≡ cond s u (cond t u v)
either true t u v = refl
either false t u v = refl

high : (n : ℕ) → leb 0xf0 n ≡ true → leb 0xe0 n ≡ true
high n e = let h : 0xf0 ≤ n = leb-true _ _ e in le-leb 0xe0 n (omega arith)

module _ (c b a x : ℕ) (p : Reached c b a) where
  agree : fits_after c b a x ≡ takes (due c b a) x
  unfolding fits_after fits_in
  agree = among (follow a)
    where
      among : (rs : List Range) → fits_in rs (leb 0xe0 b || leb 0xf0 c) x ≡ takes (or_else rs (or_else (rest (follow b)) (rest (rest (follow c))))) x
      among (r ∷ rs) = refl
      among [] =
          either (leb 0xe0 b) (leb 0xf0 c) (within tail x) (ltb (class_of x) 9)
          ∙ ap (cond (leb 0xe0 b) (within tail x)) (sym (ap (λ (qs : List Range). takes (rest qs) x) (rest_is c p.far) ∙ fourth (leb 0xe0 c) (leb 0xf0 c) x (high c)))
          ∙ sym (third (leb 0xe0 b) (leb 0xf0 b) (rest (rest (follow c))) x)
          ∙ ap (λ (qs : List Range). takes (or_else qs (rest (rest (follow c)))) x) (sym (rest_is b p.mid))

-- the last that c can ask for
last : (ds xs : List Range) → rest ds ≡ [] → (none ds ≡ false → xs ≡ []) → or_else xs [] ≡ next ds xs
last [] xs few quiet = or_else_none xs
last (d ∷ ds) xs few quiet = or_else_none xs ∙ quiet refl ∙ sym few

-- what is awaited after x, where x is a tail if something was awaited before it
carries : (ra rb rc rx : List Range) → T (none ra || none rb) → rest (rest (rest rc)) ≡ []
    → (none (or_else ra (or_else (rest rb) (rest (rest rc)))) ≡ false → rx ≡ [])
    → or_else rx (or_else (rest ra) (rest (rest rb))) ≡ next (or_else ra (or_else (rest rb) (rest (rest rc)))) rx
carries (r ∷ rs) [] rc rx apart few quiet = ap (λ (qs : List Range). or_else qs (or_else rs [])) (quiet refl) ∙ or_else_none rs
carries (r ∷ rs) (q ∷ qs) rc rx apart few quiet = absurd apart
carries [] (q ∷ r ∷ rs) rc rx apart few quiet = ap (λ (qs : List Range). or_else qs rs) (quiet refl)
carries [] [] rc rx apart few quiet = last (rest (rest rc)) rx few quiet
carries [] (q ∷ []) rc rx apart few quiet = last (rest (rest rc)) rx few quiet

-- ---- one more byte

inside_else : (ps qs : List Range) → T (inside ps) → T (inside qs) → T (inside (or_else ps qs))
inside_else [] qs p q = q
inside_else (r ∷ rs) qs p q = p

inside_tails : (e f : Bool) → T (inside (tails e f)) × (T (inside (rest (tails e f))) × (rest (rest (tails e f)) ≡ []))
inside_tails true true = (tt, (tt, refl))
inside_tails true false = (tt, (tt, refl))
inside_tails false f = (tt, (tt, refl))

-- what is taken where something is awaited is a tail
is_tail : (rs : List Range) (x : ℕ) → T (inside rs) → takes rs x ≡ true → none rs ≡ false → (0x7f < x) × (x < 0xc0)
is_tail [] x i t e = absurd (true≢false e)
is_tail (r ∷ rs) x i t e =
    let p = and_yes (leb 0x80 r.low) (leb r.high 0xbf) i in
    let q = and_yes (leb r.low x) (leb x r.high) (subst T (sym t) tt) in
    let low : 0x80 ≤ r.low = leb→le _ _ p.0 in
    let high : r.high ≤ 0xbf = leb→le _ _ p.1 in
    let over : r.low ≤ x = leb→le _ _ q.0 in
    let under : x ≤ r.high = leb→le _ _ q.1 in
    (omega arith, omega arith)

-- what is taken is a byte of text
is_byte : (rs : List Range) (x : ℕ) → T (inside rs) → takes rs x ≡ true → x ≤ 0xf4
is_byte [] x i t = at (leb x 0xf4) refl
  where
    at : (u : Bool) → leb x 0xf4 ≡ u → x ≤ 0xf4
    at true e = leb-true _ _ e
    at false e = absurd (omega (arith, ltb-true (class_of x) 9 t, beyond x (leb-false x 0xf4 e)))
is_byte (r ∷ rs) x i t = let p = is_tail (r ∷ rs) x i t refl in omega (arith, p.1)

none_first : (ps qs : List Range) → none (or_else ps qs) ≡ true → none ps ≡ true
none_first [] qs e = refl
none_first (r ∷ rs) qs e = e

module _ (c b a : ℕ) (p : Reached c b a) where
  inside_due : T (inside (due c b a))
  inside_due =
      inside_else (follow a) _ (inside_is a p.near)
      (inside_else (rest (follow b)) _
      (subst (λ (rs : List Range). T (inside rs)) (sym (rest_is b p.mid)) (inside_tails (leb 0xe0 b) (leb 0xf0 b)).0)
      (subst (λ (rs : List Range). T (inside (rest rs))) (sym (rest_is c p.far)) (inside_tails (leb 0xe0 c) (leb 0xf0 c)).1.0))

  few : rest (rest (rest (follow c))) ≡ []
  few = ap (λ (rs : List Range). rest (rest rs)) (rest_is c p.far) ∙ (inside_tails (leb 0xe0 c) (leb 0xf0 c)).1.1

  module _ (x : ℕ) (fit : takes (due c b a) x ≡ true) where
    -- x is a tail, which asks for nothing
    quiet : none (due c b a) ≡ false → follow x ≡ []
    unfolding after
    quiet e = let t = is_tail (due c b a) x inside_due fit e in ap after (between x t.0 (omega (arith, t.1)))

    apart : (t : Bool) → none (due c b a) ≡ t → T (none (follow x) || none (follow a))
    apart false e = subst (λ (rs : List Range). T (none rs || none (follow a))) (sym (quiet e)) tt
    apart true e = subst T (sym (ap (λ (t : Bool). none (follow x) || t) (none_first (follow a) _ e) ∙ or-true (none (follow x)))) tt

    reached : Reached b a x
    reached = record { far = p.mid; mid = p.near; near = is_byte (due c b a) x inside_due fit; apart = apart (none (due c b a)) refl }

    due_next : due b a x ≡ next (due c b a) (follow x)
    due_next = carries (follow a) (follow b) (follow c) (follow x) p.apart few quiet

-- ---- all of a slice

pub and_fails : (t u : Bool) → t && u ≡ false → (t ≡ false) ⊎ (u ≡ false)
and_fails true u e = inr e
and_fails false u e = inl refl

module _ (s : List ℕ) where
  -- what is awaited at offset i
  abbrev due_at : ℕ → List Range
  due_at i = due (before s i) (before s (suc i)) (before s (suc (suc i)))

  -- the bytes before offset i fit: those after it decide
  record At (i : ℕ) : Type 0 where
    reached : Reached (before s i) (before s (suc i)) (before s (suc (suc i)))
    is : utf8_from (due_at i) (drop i s) ≡ utf8 s

  start : At 0
  unfolding utf8 before class_of after
  start = record { reached = record { far = omega arith; mid = omega arith; near = omega arith; apart = tt }; is = refl }

  module _ (i : ℕ) (p : At i) where
    fit : fits_at s i ≡ takes (due_at i) (before s (suc (suc (suc i))))
    unfolding fits_at
    fit = agree _ _ _ _ p.reached

    byte : i < length s → utf8 s ≡ fits_at s i && utf8_from (next (due_at i) (follow (before s (suc (suc (suc i)))))) (drop (suc i) s)
    unfolding before
    byte h =
        sym p.is ∙ ap (utf8_from (due_at i)) (drop-cons s i 0 h)
        ∙ utf8_byte (due_at i) (get_or s i 0) (drop (suc i) s)
        ∙ ap (λ (t : Bool). t && utf8_from (next (due_at i) (follow (get_or s i 0))) (drop (suc i) s)) (sym fit)

    step : i < length s → fits_at s i ≡ true → At (suc i)
    step h e =
        let t = sym fit ∙ e in
        let x = before s (suc (suc (suc i))) in
        record {
          reached = reached _ _ _ p.reached x t;
          is =
              ap (λ (rs : List Range). utf8_from rs (drop (suc i) s)) (due_next _ _ _ p.reached x t)
              ∙ ap (λ (u : Bool). u && utf8_from (next (due_at i) (follow x)) (drop (suc i) s)) (sym e)
              ∙ sym (byte h);
        }

    end : i ≡ length s → utf8 s ≡ fits_at s i
    unfolding before
    end e =
        let past : length s ≤ i = omega arith in
        sym p.is ∙ ap (utf8_from (due_at i)) (drop_of_length-le s past) ∙ utf8-end (due_at i) (inside_due _ _ _ p.reached)
        ∙ ap (takes (due_at i)) (sym (get_or-eq_default s 0 past)) ∙ sym fit

    stop : i ≤ length s → fits_at s i ≡ false → utf8 s ≡ false
    stop h e = elim (eq-or-lt_of_le h) [ inl l ↦ end l ∙ e | inr l ↦ rw e at (byte l) ]

  -- ---- the offsets one after the other

  reach : (i : ℕ) → i ≤ length s → At i ⊎ (utf8 s ≡ false)
  reach zero h = inl start
  reach (suc i) h = ⊎_elim (λ p. more p (fits_at s i) refl) (λ f. inr f) (reach i (omega arith))
    where
      more : At i → (t : Bool) → fits_at s i ≡ t → At (suc i) ⊎ (utf8 s ≡ false)
      more p true e = inl (step i p h e)
      more p false e = inr (stop i p (omega arith) e)

  -- one byte that does not fit, and all that do
  pub unfit : (i : ℕ) → i ≤ length s → fits_at s i ≡ false → utf8 s ≡ false
  unfit i h e = ⊎_elim (λ p. stop i p h e) (λ f. f) (reach i h)

  walk : ((i : ℕ) → i ≤ length s → fits_at s i ≡ true) → (i : ℕ) → i ≤ length s → At i
  walk all zero h = start
  walk all (suc i) h = step i (walk all i (omega arith)) h (all i (omega arith))

  all_fit_lem : ((i : ℕ) → i ≤ length s → fits_at s i ≡ true) → utf8 s ≡ true
  all_fit_lem all = let n = length s in end n (walk all n (omega arith)) refl ∙ all n (omega arith)

  pub some_unfit : (i n : ℕ) → i + n ≤ suc (length s) → all_fit s i n ≡ false → utf8 s ≡ false
  unfolding all_fit
  some_unfit i zero h e = absurd (true≢false e)
  some_unfit i (suc n) h e = ⊎_elim (some_unfit i n (omega arith)) (unfit (i + n) (omega arith)) (and_fails (all_fit s i n) (fits_at s (i + n)) e)

  each_fits : (i n j : ℕ) → all_fit s i n ≡ true → i ≤ j → j < i + n → fits_at s j ≡ true
  unfolding all_fit
  each_fits i zero j e l h = absurd (omega arith)
  each_fits i (suc n) j e l h =
      let p = and_yes (all_fit s i n) (fits_at s (i + n)) (subst T (sym e) tt) in
      let under : j ≤ i + n = omega arith in
      elim (eq-or-lt_of_le under)
      [ inl q ↦ ap (fits_at s) q ∙ is_true (fits_at s (i + n)) p.1 | inr q ↦ each_fits i n j (is_true (all_fit s i n) p.0) l q ]

  -- ---- blocks

  -- all bytes before an offset fit
  abbrev pub Fit : ℕ → Type 0
  Fit at = (i : ℕ) → i < at → fits_at s i ≡ true

  -- with a block that begins there or before
  pub fit_more : (at from n : ℕ) → Fit at → from ≤ at → all_fit s from n ≡ true → Fit (from + n)
  fit_more at from n fit h e i l = which (ltb i at) refl
    where
      which : (t : Bool) → ltb i at ≡ t → fits_at s i ≡ true
      which true f = fit i (ltb-true i at f)
      which false f = each_fits from n i e (omega (arith, ltb-false i at f)) l

  -- the last block decides
  pub last_block : (at from n : ℕ) → Fit at → fits_at s (length s) ≡ true → from ≤ at → from + n ≡ length s → utf8 s ≡ all_fit s from n
  last_block at from n fit e h w = which (all_fit s from n) refl
    where
      which : (t : Bool) → all_fit s from n ≡ t → utf8 s ≡ t
      which false f = some_unfit from n (omega arith) f
      which true f = all_fit_lem (λ i l. elim (eq-or-lt_of_le l) [ inl q ↦ ap (fits_at s) q ∙ e | inr q ↦ fit_more at from n fit h f i (omega arith) ])

  pub all_more : (i n : ℕ) → all_fit s i (n + 1) ≡ all_fit s i n && fits_at s (i + n)
  unfolding all_fit
  all_more i n = rw (add-one n)

  -- ---- the bytes as they are read

  before_is : (i k : ℕ) → i ≡ suc (suc (suc k)) → before s i ≡ get_or s k 0
  unfolding before
  before_is i k e = ap (before s) e

  module _ (i : ℕ) (h : 3 ≤ i) where
    pub fits_at_lem : (x : ℕ) → get_or s i 0 ≡ x → fits_after (get_or s (i - 3) 0) (get_or s (i - 2) 0) (get_or s (i - 1) 0) x ≡ fits_at s i
    unfolding fits_at before
    fits_at_lem x e =
        ap (fits_after (get_or s (i - 3) 0) (get_or s (i - 2) 0) (get_or s (i - 1) 0)) (sym e)
        ∙ ap (λ (c : ℕ). fits_after c (get_or s (i - 2) 0) (get_or s (i - 1) 0) (get_or s i 0)) (sym (before_is i (i - 3) (omega arith)))
        ∙ ap (λ (b : ℕ). fits_after (before s i) b (get_or s (i - 1) 0) (get_or s i 0)) (sym (before_is (suc i) (i - 2) (omega arith)))
        ∙ ap (λ (a : ℕ). fits_after (before s i) (before s (suc i)) a (get_or s i 0)) (sym (before_is (suc (suc i)) (i - 1) (omega arith)))
