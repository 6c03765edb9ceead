-- `trace_c::place::put_place` meets its contract: after a refusal the numbers are as they came, else those of the position handed back.
-- Assumes nothing.
use Rattle.std.specs.Prelude.{◌≡◌, List, [], ◌∷◌, ℕ, get_or, Option, Some, None}
use mathlib.Core.Path.{refl, ap}
use Rattle.records.specs.declared.position.Open.{Open}
use Rattle.records.specs.Positions.{by_verdict}
use Rattle.trace_c.specs.Forms.{open_numbers, left_as}
use Rattle.trace_c.specs.Writing.{verdict_number}
use Rattle.trace_c.proofs.place.put_place.Goals as goal

-- the four numbers, one by one
four : (o : Option Open) → get_or (open_numbers o) 0 0 ∷ get_or (open_numbers o) 1 0 ∷ get_or (open_numbers o) 2 0 ∷ get_or (open_numbers o) 3 0 ∷ [] ≡ open_numbers o
unfolding open_numbers
four (Some o) = refl
four None = refl

pub returns-in-Ok : goal.returns-in-Ok
unfolding verdict_number left_as by_verdict
returns-in-Ok c =
    let e = c.in-Ok.is in
    let q = c.args.written.position in
    record {
      value = rw e;
      position_after = rw (c.open_numbers.ensures, e) (ap (λ (xs : List ℕ). q.at ∷ get_or c.args.position.now 1 0 ∷ xs) (four q.pending));
    }

pub returns-in-Err : goal.returns-in-Err
unfolding verdict_number left_as by_verdict
returns-in-Err c = record { value = rw (c.in-Err.is, c.number.ensures); position_after = rw c.in-Err.is }
