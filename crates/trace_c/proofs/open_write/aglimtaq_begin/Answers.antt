-- `trace_c::open_write::aglimtaq_begin` meets its contract: what an opening says and leaves, as numbers; or that the form is none of the four.
-- Assumes nothing.
use mathlib.Core.Path.{sym, ◌∙◌}
use lib.ListN.{length}
use Rattle.frames.specs.Demand.Every.{none, also}
use Rattle.records.specs.Openings.{begun, bytes_begun}
use Rattle.trace_c.specs.Openings.{begin_by}
use Rattle.trace_c.proofs.OpeningLaws.{called_told, bytes_told, none_told, none-bytes}
use Rattle.trace_c.proofs.open_write.aglimtaq_begin.Goals as goal

pub returns : goal.returns
unfolding begin_by
returns c =
    let a = c.args in
    let form = sym c.form_of.ensures ∙ c.in-Some.is in
    let place = c.place_of.ensures in
    let said = c.begin-written.ensures in
    let put = c.put_place.ensures in
    let is = called_told a.position.now _ form place (λ q. begun (length a.out.now) q a.address a.stated) said.value (put.value, put.position_after) in
    let left = bytes_told a.position.now _ form place (λ q. bytes_begun a.out.now q a.address a.stated) a.out.now said.out_after in
    record { value = is.0; position_after = is.1; out_after = left; every = rw form (also said.fits none) }

pub returns-in_default : goal.returns-in_default
unfolding begin_by
returns-in_default c =
    let a = c.args in
    let form = sym c.form_of.ensures ∙ c.in_default.is in
    let is = none_told a.position.now form (λ q. begun (length a.out.now) q a.address a.stated) in
    let left = none-bytes a.position.now form (λ q. bytes_begun a.out.now q a.address a.stated) a.out.now in
    record { value = is.0; position_after = is.1; out_after = left; every = rw form none }
