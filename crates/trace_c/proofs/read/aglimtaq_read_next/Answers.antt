-- `trace_c::read::aglimtaq_read_next` meets its contract: what read_next gives, as numbers; or that the form is none of the four.
-- Assumes nothing.
use mathlib.Core.Path.{sym, ap, ◌∙◌}
use Rattle.records.specs.declared.position.Position.{Position}
use Rattle.records.specs.declared.position.Reading.{Reading}
use Rattle.records.specs.Positions.{visible, read_next}
use Rattle.trace_c.specs.Forms.{moved_to}
use Rattle.trace_c.specs.Fields.{flat_answer}
use Rattle.trace_c.specs.Reading.{place_by, reading_by}
use Rattle.trace_c.proofs.read.aglimtaq_read_next.Goals as goal

pub returns : goal.returns
unfolding place_by reading_by
returns c =
    let a = c.args in
    let is = sym c.form_of.ensures ∙ c.in-Some.is in
    let said = c.read_next-next.ensures ∙ ap (λ (q : Position). read_next (visible a.bytes.now q.pending) q) c.place_of.ensures in
    record {
      position_after = rw is (ap (λ (r : Reading). moved_to a.position.now r.position.at) said);
      reading_after = rw is (c.of_answer.ensures ∙ ap (λ (r : Reading). flat_answer r.answer) said);
    }

pub returns-in_default : goal.returns-in_default
unfolding place_by reading_by
returns-in_default c =
    let is = sym c.form_of.ensures ∙ c.in_default.is in
    record {
      position_after = rw is;
      reading_after = rw is;
    }
