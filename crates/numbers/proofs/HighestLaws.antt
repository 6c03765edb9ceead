-- Bytes whose highest is ASCII are text. Assumes nothing.
use mathlib.Core.Path.{◌≡◌, refl, ap, ◌∙◌}
use mathlib.Core.Bool.{true}
use mathlib.Core.List.{List, [], ◌∷◌}
use Prim.Native.Nat.{ℕ, ◌≤◌, ◌<◌}
use native.Mathlib.Omega.{arith}
use Rattle.std.specs.Prelude.{fold, max}
use Rattle.numbers.specs.Text.{Range, utf8_from, utf8}
use Rattle.numbers.proofs.TextLaws.{ascii-asks}

-- it is below none of those before
least : (s : List ℕ) (top : ℕ) → top ≤ fold max top s
least [] top = omega arith
least (b ∷ s) top = omega (arith, least s (max top b))

ascii : (s : List ℕ) (top : ℕ) → fold max top s < 128 → utf8_from [] s ≡ true
unfolding utf8_from
ascii [] top h = refl
ascii (b ∷ s) top h =
    ap (λ (rs : List Range). utf8_from rs s) (ascii-asks b (omega (arith, h, least s (max top b)))) ∙ ascii s (max top b) h

pub highest_ascii : (s : List ℕ) → fold max 0 s < 128 → utf8 s ≡ true
unfolding utf8
highest_ascii s h = ascii s 0 h
