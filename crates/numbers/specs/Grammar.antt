-- RFC 3629, section 4, as its grammar reads: UTF8-octets = *( UTF8-char ), and a UTF8-char is bytes of one of the lines.
-- `proofs/GrammarLaws.antt` shows that `utf8` decides it. Assumes nothing.
use Rattle.std.specs.Prelude.{◌≡◌, ℕ, T}
use mathlib.Core.List.{List, [], ◌∷◌, ◌++◌, Memᴰ}
use Rattle.numbers.specs.Text.{Range, Line, within, lines}

-- bytes that lie in the ranges, one in each
pub data Lies : List Range → List ℕ → Type 0 where
  all : Lies [] []
  next : {r : Range} {rs : List Range} {b : ℕ} {s : List ℕ} → T (within r b) → Lies rs s → Lies (r ∷ rs) (b ∷ s)

pub data Octets : List ℕ → Type 0 where
  empty : Octets []
  char : {s c t : List ℕ} (l : Line) → Memᴰ l lines → Lies (l.lead ∷ l.behind) c → Octets t → s ≡ c ++ t → Octets s
