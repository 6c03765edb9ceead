-- `trace_c::gauge::aglimtaq_house_write_gauge` meets its contract: the house write of its bytes; or that no house reading was given.
-- Assumes nothing.
use mathlib.Core.Path.{refl, sym, ap, ◌∙◌}
use lib.ListN.{length}
use Rattle.house.proofs.FieldLaws.{gauge_within, gauge_taken}
use Rattle.trace_c.specs.Gauges.{gauge_from, gauge_number, gauge_left, gauge_out}
use Rattle.trace_c.proofs.gauge.aglimtaq_house_write_gauge.Goals as goal

pub slice_bounds-bytes-end : goal.slice_bounds-bytes-end
slice_bounds-bytes-end c =
    gauge_within _ _ _ _ refl c.put_gauge-n.ensures.value c.put_gauge-n.ensures.out_after

pub slice_bounds-aglimtaq_house_write-end : goal.slice_bounds-aglimtaq_house_write-end
slice_bounds-aglimtaq_house_write-end c =
    c.put_gauge-n.ensures.value ∙ ap length (sym (gauge_taken _ _ _ _ refl c.put_gauge-n.ensures.value c.put_gauge-n.ensures.out_after))

pub returns-in-Some : goal.returns-in-Some
unfolding gauge_from gauge_number gauge_left gauge_out
returns-in-Some c =
    let is = sym c.gauge_given.ensures ∙ c.in-Some.is in
    let bytes = gauge_taken _ _ _ _ refl c.put_gauge-n.ensures.value c.put_gauge-n.ensures.out_after in
    let w = c.aglimtaq_house_write.ensures in
    record { value = rw (is, sym bytes) w.value; position_after = rw (is, sym bytes) w.position_after; out_after = rw (is, sym bytes) w.out_after }

pub returns-in-None : goal.returns-in-None
unfolding gauge_from gauge_number gauge_left gauge_out
returns-in-None c =
    let is = sym c.gauge_given.ensures ∙ c.in-None.is in
    record { value = rw is c.no_gauge.ensures; position_after = rw is; out_after = rw is }
