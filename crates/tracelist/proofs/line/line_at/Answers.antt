-- `tracelist::line::line_at` meets its contract: a line for each answer, one for the two that end the listing; a framed record lies in the trace.
-- Assumes nothing.
use mathlib.Core.Path.{◌∙◌}
use mathlib.Core.Logic.{inl, inr}
use native.Mathlib.Omega.{arith}
use Rattle.records.proofs.AheadLaws.{Ahead}
use Rattle.tracelist.specs.Listing.{line_as}
use Rattle.tracelist.proofs.LineLaws.{line_found, part_found}
use Rattle.tracelist.proofs.line.line_at.Goals as goal

pub record_line-requires : goal.record_line-requires
unfolding Ahead
record_line-requires c =
    let q = part_found c.args.s.now c.args.at _ c.next_at.ensures _ c.in-Shown.is in
    (omega (arith, q.0, q.1), q.2)

pub record_line-requires-in-RefusedAt : goal.record_line-requires-in-RefusedAt
unfolding Ahead
record_line-requires-in-RefusedAt c =
    let q = part_found c.args.s.now c.args.at _ c.next_at.ensures _ c.in-RefusedAt.is in
    (omega (arith, q.0, q.1), q.2)

pub returns-in-Shown : goal.returns-in-Shown
unfolding line_as
returns-in-Shown c = c.record_line.ensures ∙ line_found c.args.s.now c.args.at _ c.next_at.ensures _ c.in-Shown.is

pub returns-in-RefusedAt : goal.returns-in-RefusedAt
unfolding line_as
returns-in-RefusedAt c = c.record_line-in-RefusedAt.ensures ∙ line_found c.args.s.now c.args.at _ c.next_at.ensures _ c.in-RefusedAt.is

pub returns-in-Refused : goal.returns-in-Refused
unfolding line_as
returns-in-Refused c =
    elim c.in-Refused.is [
      | inl r ↦ line_found c.args.s.now c.args.at _ c.next_at.ensures _ r.1
      | inr e ↦ line_found c.args.s.now c.args.at _ c.next_at.ensures _ e
    ]

pub returns-in-Unfinished : goal.returns-in-Unfinished
unfolding line_as
returns-in-Unfinished c = line_found c.args.s.now c.args.at _ c.next_at.ensures _ c.in-Unfinished.is
