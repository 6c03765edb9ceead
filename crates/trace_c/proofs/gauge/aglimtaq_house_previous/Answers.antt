-- `trace_c::gauge::aglimtaq_house_previous` meets its contract: the plain reading, with a Meta of tag 200 told anew.
-- Assumes nothing.
use mathlib.Core.Path.{ap, ◌∙◌}
use Rattle.trace_c.specs.Forms.{form_in}
use Rattle.trace_c.specs.InnerGauges.{told_of}
use Rattle.trace_c.proofs.GaugeLaws.{previous_told}
use Rattle.trace_c.proofs.gauge.aglimtaq_house_previous.Goals as goal

pub returns : goal.returns
returns c =
    let read = c.aglimtaq_read_previous.ensures in
    let a = c.args in
    let law = previous_told a.bytes.now a.position.now (form_in a.position.now) in
    record {
      position_after = read.position_after ∙ law.0;
      reading_after = c.tell.ensures ∙ ap (told_of a.bytes.now) read.reading_after ∙ law.1;
    }
