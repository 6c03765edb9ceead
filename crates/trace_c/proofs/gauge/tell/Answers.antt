-- `trace_c::gauge::tell` meets its contract: of a Meta of tag 200 its fields or the refusal; else the reading as it came.
-- Assumes nothing.
use mathlib.Core.Path.{sym, ap, ◌∙◌}
use Rattle.trace_c.specs.Fields.{shown}
use Rattle.trace_c.proofs.GaugeLaws.{part, other_type, other_tag, fields_told, refused_told}
use Rattle.trace_c.proofs.gauge.tell.Goals as goal

pub returns-then-reading-ne-UNKNOWN_META : goal.returns-then-reading-ne-UNKNOWN_META
returns-then-reading-ne-UNKNOWN_META c =
    let a = c.args in
    other_type a.bytes.now a.reading.now c.if-reading-ne-UNKNOWN_META.true

pub returns-then-reading-ne-HOUSE_TAG : goal.returns-then-reading-ne-HOUSE_TAG
returns-then-reading-ne-HOUSE_TAG c =
    let a = c.args in
    other_tag a.bytes.now a.reading.now c.if-reading-ne-UNKNOWN_META.false c.if-reading-ne-HOUSE_TAG.true

pub returns-in-Ok : goal.returns-in-Ok
returns-in-Ok c =
    let a = c.args in
    c.shown.ensures ∙ ap (shown (part a.bytes.now a.reading.now)) c.of_gauge.ensures
    ∙ fields_told a.bytes.now a.reading.now c.if-reading-ne-UNKNOWN_META.false c.if-reading-ne-HOUSE_TAG.false c.bytes.ensures _ (sym c.in-Ok.is ∙ c.gauge_of.ensures)

pub returns-in-Err : goal.returns-in-Err
returns-in-Err c =
    let a = c.args in
    rw c.number.ensures (refused_told a.bytes.now a.reading.now c.if-reading-ne-UNKNOWN_META.false c.if-reading-ne-HOUSE_TAG.false c.bytes.ensures _ (sym c.in-Err.is ∙ c.gauge_of.ensures))
