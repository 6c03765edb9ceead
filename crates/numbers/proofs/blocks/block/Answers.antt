-- `numbers::blocks::block` meets its contract. Assumes nothing.
use Rattle.std.proofs.Common.{◌≡◌, ◌&&◌, ◌+◌, ◌-◌, Bool, refl, sym, ap, ◌∙◌, arith}
use Rattle.numbers.specs.Inner.{fits_at, all_fit}
use Rattle.numbers.proofs.BlockLaws.{all_more, fits_at_lem}
use Rattle.numbers.proofs.blocks.block.Goals as goal

pub loop-i-init : goal.loop-i-init
unfolding all_fit
loop-i-init c =
    let e : c.args.at - c.args.at ≡ 0 = omega arith in
    rw e refl

pub loop-i-preserved : goal.loop-i-preserved
loop-i-preserved c =
    let l = c.loop-i in
    let at = c.args.at in
    let s = c.args.s.now in
    let e : l.i ≡ at + (l.i - at) = omega arith in
    let next : l.i - at + 1 ≡ l.i + 1 - at = omega arith in
    ap (λ (t : Bool). t && c.fits-all.result) l.invariant
    ∙ ap (λ (t : Bool). all_fit s at (l.i - at) && t) (c.fits-all.ensures ∙ fits_at_lem s l.i (omega arith) _ refl ∙ ap (fits_at s) e)
    ∙ sym (all_more s at (l.i - at))
    ∙ ap (all_fit s at) next
