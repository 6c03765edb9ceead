-- `trace_c::gauge::refusal_by` meets its contract.
-- Assumes nothing.
use mathlib.Core.Path.{sym, ap, ◌∙◌}
use mathlib.Core.Bool.{cond}
use Prim.Native.Nat.{ℕ}
use lib.Dec.{ltb}
use Rattle.records.specs.Positions.{by_open}
use Rattle.house.specs.declared.write.RefusedCall.{RefusedCall}
use Rattle.trace_c.specs.InnerGauges.{refusal_by}
use Rattle.trace_c.proofs.GaugeLaws.{refused_number}
use Rattle.trace_c.proofs.gauge.refusal_by.Goals as goal

pub returns-in-Some : goal.returns-in-Some
unfolding refusal_by
returns-in-Some c =
    let q = c.place_of.result in
    let form = sym c.form_of.ensures ∙ c.in-Some.is in
    let number = ap (λ (n : ℕ). by_open q.pending (cond (ltb c.args.lent q.at) 8 n) (λ o. 18)) c.number.ensures in
    let told = refused_number q.pending (ltb c.args.lent q.at) c.args.refusal in
    rw (form, ← c.place_of.ensures) (ap (λ (x : RefusedCall). x.number) c.refused-call.ensures ∙ number ∙ told)

pub returns-in-None : goal.returns-in-None
unfolding refusal_by
returns-in-None c = rw (sym c.form_of.ensures ∙ c.in-None.is)
