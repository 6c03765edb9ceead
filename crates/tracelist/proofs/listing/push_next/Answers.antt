-- `tracelist::listing::push_next` meets its contract: the line and what is listed after it are what is listed from the offset on.
-- Assumes nothing.
use native.Mathlib.Omega.{arith}
use Rattle.tracelist.proofs.LineLaws.{Runs, line_is, last_line, put_listed}
use Rattle.tracelist.proofs.listing.push_next.Goals as goal

pub overflow_add-result : goal.overflow_add-result
unfolding Runs
overflow_add-result c =
    let l = line_is c.args.s.now c.args.at c.line_at-line.ensures c.in-Record.is in
    omega (arith, l.2)

pub returns-in-Record : goal.returns-in-Record
unfolding Runs
returns-in-Record c =
    let l = line_is c.args.s.now c.args.at c.line_at-line.ensures c.in-Record.is in
    let p = rw c.in-Record.is at c.push_line.ensures.text in
    record { more_after = put_listed _ _ _ p l.3; next = (l.2, omega (arith, l.0, l.1, l.2)) }

pub returns-in-End : goal.returns-in-End
returns-in-End c =
    record {
      more_after = put_listed _ _ _ c.push_line.ensures.text (last_line c.args.s.now c.args.at c.line_at-line.ensures c.in-End.is);
      next = (tt, omega arith);
    }
