-- `trace_c::gauge::aglimtaq_house_write` meets its contract: the plain write of a Meta of tag 200, or why the bytes are refused.
-- Assumes nothing.
use mathlib.Core.Path.{sym, ◌∙◌}
use lib.ListN.{length}
use Rattle.trace_c.specs.Forms.{form_in}
use Rattle.trace_c.proofs.GaugeLaws.{plain_told, refusal_told}
use Rattle.trace_c.proofs.gauge.aglimtaq_house_write.Goals as goal

pub returns-in-Ok : goal.returns-in-Ok
returns-in-Ok c =
    let w = c.aglimtaq_write.ensures in
    let a = c.args in
    let is = sym c.gauge_of.ensures ∙ c.in-Ok.is in
    let law = plain_told (length a.out.now) a.out.now a.position.now a.bytes.now _ is (form_in a.position.now) in
    record { value = w.value ∙ law.0; position_after = w.position_after ∙ law.1.0; out_after = w.out_after ∙ law.1.1 }

pub returns-in-Err : goal.returns-in-Err
returns-in-Err c =
    let a = c.args in
    let is = sym c.gauge_of.ensures ∙ c.in-Err.is in
    let law = refusal_told (length a.out.now) a.out.now a.position.now a.bytes.now _ is (form_in a.position.now) in
    record { value = c.refusal_by.ensures ∙ law.0; position_after = law.1.0; out_after = law.1.1 }
