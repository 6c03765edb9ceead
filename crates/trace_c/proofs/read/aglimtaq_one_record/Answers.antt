-- `trace_c::read::aglimtaq_one_record` meets its contract: whole or not, a frame's number is the number needed.
-- Assumes nothing.
use Rattle.std.specs.Prelude.{Result, Ok, Err}
use mathlib.Core.Path.{◌≡◌, refl, sym, ap, ◌∙◌}
use mathlib.Core.Bool.{Bool, true, false, cond}
use mathlib.Core.List.{List}
use Prim.Native.Nat.{ℕ}
use lib.Dec.{leb}
use lib.ListN.{length}
use Rattle.frames.specs.Frames.{needed, one_record}
use Rattle.trace_c.proofs.read.aglimtaq_one_record.Goals as goal

-- the number of a frame, whole or not, is the number needed
unfoldable number : Result ℕ ℕ → ℕ
number (Ok n) = n
number (Err n) = n

either : (b : Bool) (n : ℕ) → number (cond b (Ok n) (Err n)) ≡ n
unfolding number
either true n = refl
either false n = refl

number-needed : (s : List ℕ) (f : Result ℕ ℕ) → one_record s ≡ f → number f ≡ needed s
unfolding one_record
number-needed s f e = ap number (sym e) ∙ either (leb (needed s) (length s)) (needed s)

pub returns-in-Ok : goal.returns-in-Ok
unfolding number
returns-in-Ok c = number-needed _ _ (sym c.one_record.ensures ∙ c.in-Ok.is)

pub returns-in-Err : goal.returns-in-Err
unfolding number
returns-in-Err c = number-needed _ _ (sym c.one_record.ensures ∙ c.in-Err.is)
