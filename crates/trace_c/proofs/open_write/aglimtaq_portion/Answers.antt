-- `trace_c::open_write::aglimtaq_portion` meets its contract: what a portion says and leaves, as numbers; or that the form is none of the four.
-- Assumes nothing.
use mathlib.Core.Path.{sym, ◌∙◌}
use lib.ListN.{length}
use Rattle.records.specs.Openings.{portioned, bytes_portioned}
use Rattle.trace_c.proofs.OpeningLaws.{called_told, bytes_told, none_told, none-bytes}
use Rattle.trace_c.proofs.open_write.aglimtaq_portion.Goals as goal

pub returns : goal.returns
returns c =
    let a = c.args in
    let form = sym c.form_of.ensures ∙ c.in-Some.is in
    let place = c.place_of.ensures in
    let said = c.portion-written.ensures in
    let put = c.put_place.ensures in
    let is = called_told a.position.now _ form place (λ q. portioned (length a.out.now) q (length a.bytes.now)) said.value (put.value, put.position_after) in
    record { value = is.0; position_after = is.1; out_after = bytes_told a.position.now _ form place (λ q. bytes_portioned a.out.now q a.bytes.now) a.out.now said.out_after }

pub returns-in_default : goal.returns-in_default
returns-in_default c =
    let a = c.args in
    let form = sym c.form_of.ensures ∙ c.in_default.is in
    let is = none_told a.position.now form (λ q. portioned (length a.out.now) q (length a.bytes.now)) in
    record { value = is.0; position_after = is.1; out_after = none-bytes a.position.now form (λ q. bytes_portioned a.out.now q a.bytes.now) a.out.now }
