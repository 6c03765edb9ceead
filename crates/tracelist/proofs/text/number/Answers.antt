-- `tracelist::text::number` meets its contract: 0 where there is no refusal, as `map_or` says.
-- Assumes nothing.
use Rattle.std.specs.Prelude.{Option, Some, None, MatchOption}
use mathlib.Core.Path.{◌≡◌}
use Prim.Native.Nat.{ℕ}
use Rattle.frames.specs.Refusals.{number_of}
use Rattle.frames.specs.declared.refusal.Refusal.{Refusal}
use Rattle.walk.specs.Walks.{number_in}
use Rattle.tracelist.proofs.text.number.Goals as goal

either : (o : Option Refusal) (n : ℕ) → MatchOption o (n ≡ 0) (λ r. n ≡ number_of r) → n ≡ number_in o
unfolding number_in
either None n e = e
either (Some r) n e = e

pub returns : goal.returns
returns c = either _ _ c.map_or.ensures
