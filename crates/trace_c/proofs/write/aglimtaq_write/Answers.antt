-- `trace_c::write::aglimtaq_write` meets its contract: what write says and leaves, as numbers; or that no record was given, or no form.
-- Assumes nothing.
use mathlib.Core.Path.{◌≡◌, sym, ap, ◌∙◌}
use mathlib.Core.List.{List}
use Prim.Native.Nat.{ℕ}
use lib.ListN.{length, get_or}
use Rattle.std.specs.Prelude.{Some}
use Rattle.frames.specs.Demand.Every.{none, also}
use Rattle.records.specs.declared.position.Position.{Position}
use Rattle.records.specs.declared.position.Written.{Written}
use Rattle.records.specs.Contents.{Rec}
use Rattle.records.specs.Positions.{bytes_after, written}
use Rattle.trace_c.specs.Forms.{moved_to}
use Rattle.trace_c.specs.Writing.{given, call_as, call_by, verdict_number, number_at, place_at, bytes_at, written_number, written_place, written_bytes}
use Rattle.trace_c.proofs.DirectLaws.{said, next_of, direct_told, direct_left}
use Rattle.trace_c.proofs.PlaceLaws.{unmoved}
use Rattle.trace_c.proofs.write.aglimtaq_write.Goals as goal

-- what is written on bytes and from a position, said of equal ones
of-same : (d e : List ℕ) (p q : Position) (r : Rec) {w : Written} {d' : List ℕ} → e ≡ d → q ≡ p
    → (w ≡ written (length e) q r) × (d' ≡ bytes_after e q r) → (w ≡ written (length d) p r) × (d' ≡ bytes_after d p r)
of-same d e p q r h k x = rw (sym h, sym k) x

pub returns-in_default : goal.returns-in_default
unfolding written_number written_place written_bytes call_by
returns-in_default c =
    let form = sym c.form_of.ensures ∙ c.in_default.is in
    record { value = rw form; position_after = rw form; out_after = rw form; every = rw form none }

pub returns-in-Ok : goal.returns-in-Ok
unfolding given written_number written_place written_bytes call_by said next_of
returns-in-Ok c =
    let a = c.args in
    let form = sym c.form_of.ensures ∙ c.in-Some.is in
    let is = direct_told _ a.out.now a.bytes.now a.position.now _ _ (get_or a.«record».now 2 0) (get_or a.«record».now 3 0) _ c.write_direct-direct.ensures (c.in-Some-direct.is ∙ ap Some c.in-Ok.is) in
    record { value = rw form is.0; position_after = rw form is.1.0; out_after = rw form is.1.1.0; every = rw form is.1.1.1 }

pub returns-in-Err : goal.returns-in-Err
unfolding given written_number written_place written_bytes call_by said next_of
returns-in-Err c =
    let a = c.args in
    let form = sym c.form_of.ensures ∙ c.in-Some.is in
    let is = direct_told _ a.out.now a.bytes.now a.position.now _ _ (get_or a.«record».now 2 0) (get_or a.«record».now 3 0) _ c.write_direct-direct.ensures (c.in-Some-direct.is ∙ ap Some c.in-Err.is) in
    record {
      value = rw form (c.number.ensures ∙ is.0);
      position_after = rw form (sym (unmoved a.position.now) ∙ is.1.0);
      out_after = rw form is.1.1.0;
      every = rw form is.1.1.1;
    }

pub returns-in_default-new_of : goal.returns-in_default-new_of
unfolding given written_number written_place written_bytes number_at place_at bytes_at call_as call_by
returns-in_default-new_of c =
    let a = c.args in
    let form = sym c.form_of.ensures ∙ c.in-Some.is in
    let is = sym c.new_of.ensures ∙ c.in_default-new_of.is in
    let same = direct_left _ a.out.now a.bytes.now a.position.now _ _ c.write_direct-direct.ensures c.in_default-direct.is in
    record { value = rw (form, is); position_after = rw (form, is); out_after = rw (form, is) same; every = rw (form, is) none }

pub returns : goal.returns
unfolding given written_number written_place written_bytes number_at place_at bytes_at call_as call_by
returns c =
    let a = c.args in
    let form = sym c.form_of.ensures ∙ c.in-Some.is in
    let is = sym c.new_of.ensures ∙ c.in-Some-new_of.is in
    let said = c.write-written.ensures in
    let same = direct_left _ a.out.now a.bytes.now a.position.now _ _ c.write_direct-direct.ensures c.in_default-direct.is in
    let says = of-same a.out.now _ _ _ _ same c.place_of.ensures (said.value, said.out_after) in
    record {
      value = rw (form, is) (c.number_of.ensures ∙ ap (λ (w : Written). verdict_number w.verdict) says.0);
      position_after = rw (form, is) (ap (λ (w : Written). moved_to a.position.now w.position.at) says.0);
      out_after = rw (form, is) says.1;
      every = rw (form, is) (also said.fits none);
    }
