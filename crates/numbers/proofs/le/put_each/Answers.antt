-- `numbers::le::put_each` meets its contract. Assumes nothing.
use Rattle.std.proofs.Common.{◌≡◌, ◌+◌, ◌-◌, ℕ, suc, sym, ap, ◌∙◌, arith}
use lib.ListN.{length-take, length-drop}
use Rattle.numbers.specs.Lists.{splice}
use Rattle.numbers.specs.Numbers.{le_bytes}
use Rattle.numbers.specs.Numbers.Order.{least_first}
use Rattle.numbers.proofs.NumberLaws.{splice_step, splice_all, length-bytes_in}
use Rattle.numbers.proofs.SpliceLaws.{splice-nil, mid_is_splice}
use Rattle.numbers.proofs.le.put_each.Goals as goal

pub loop-byte-init : goal.loop-byte-init
loop-byte-init c =
    let w = c.args.width in
    let e : w - 0 ≡ w = omega arith in
    rw e (splice_all _ w c.args.value (simp (length-take, length-drop) (omega arith)))

pub loop-byte-preserved : goal.loop-byte-preserved
loop-byte-preserved c =
    let l = c.loop-byte in
    let k = l.byte-index in
    let n : ℕ = c.args.width - (k + 1) in
    let e : suc n ≡ c.args.width - k = omega arith in
    splice_step l.byte-items k n l.rest (omega arith) ∙ ap (λ (m : ℕ). splice l.byte-items k (le_bytes m l.rest)) e ∙ l.invariant

pub returns : goal.returns
unfolding le_bytes
returns c =
    let l = c.loop-byte in
    let k = l.byte-index in
    let a = c.args in
    let none : a.width - k ≡ 0 = omega arith in
    let n : a.at + a.width - a.at ≡ a.width = omega arith in
    let all = sym (splice-nil l.byte-items k) ∙ ap (λ (m : ℕ). splice l.byte-items k (le_bytes m l.rest)) (sym none) ∙ l.invariant in
    rw (n, all) (mid_is_splice a.out.now a.at a.width _ (length-bytes_in least_first a.width a.value))
