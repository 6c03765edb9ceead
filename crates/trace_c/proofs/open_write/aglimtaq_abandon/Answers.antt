-- `trace_c::open_write::aglimtaq_abandon` meets its contract: what an abandoning says, as numbers; or that the form is none of the four.
-- Assumes nothing.
use mathlib.Core.Path.{sym, ◌∙◌}
use Rattle.records.specs.Openings.{abandoned}
use Rattle.trace_c.proofs.OpeningLaws.{called_told, none_told}
use Rattle.trace_c.proofs.open_write.aglimtaq_abandon.Goals as goal

pub returns : goal.returns
returns c =
    let form = sym c.form_of.ensures ∙ c.in-Some.is in
    let put = c.put_place.ensures in
    let is = called_told c.args.position.now _ form c.place_of.ensures abandoned c.abandon-written.ensures (put.value, put.position_after) in
    record { value = is.0; position_after = is.1 }

pub returns-in_default : goal.returns-in_default
returns-in_default c =
    let is = none_told c.args.position.now (sym c.form_of.ensures ∙ c.in_default.is) abandoned in
    record { value = is.0; position_after = is.1 }
