-- `trace_c::place::open_numbers` meets its contract, case by case.
-- Assumes nothing.
use Rattle.trace_c.specs.Forms.{open_numbers}
use Rattle.trace_c.proofs.place.open_numbers.Goals as goal

pub returns-in-Some : goal.returns-in-Some
unfolding open_numbers
returns-in-Some c = rw c.in-Some.is

pub returns-in-None : goal.returns-in-None
unfolding open_numbers
returns-in-None c = rw c.in-None.is
