-- `trace_c::whole::aglimtaq_walk_back` meets its contract: the walk backwards, and its end as numbers; or that the form is none of the four.
-- Assumes nothing.
use mathlib.Core.Path.{sym, ap, ◌∙◌}
use Rattle.trace_c.specs.Reading.{counts_by, sizes_by, flat_end, end_by}
use Rattle.trace_c.proofs.whole.aglimtaq_walk_back.Goals as goal

pub returns-in-Some : goal.returns-in-Some
unfolding counts_by sizes_by end_by
returns-in-Some c =
    let w = c.walk_back.ensures in
    let is = sym c.form_of.ensures ∙ c.in-Some.is in
    record { counts_after = rw is w.counts_after; sizes_after = rw is w.sizes_after; end_after = rw is (c.of_end.ensures ∙ ap flat_end w.value) }

pub returns-in-None : goal.returns-in-None
unfolding counts_by sizes_by end_by
returns-in-None c =
    let is = sym c.form_of.ensures ∙ c.in-None.is in
    record { counts_after = rw is; sizes_after = rw is; end_after = rw is }
