-- `numbers::blocks::long` meets its contract. Assumes nothing.
use Rattle.std.proofs.Common.{◌∙◌, ◌+◌, ◌-◌, length, sym, subst, arith}
use mathlib.Core.Logic.{⊎_elim}
use mir.Facts.{and_yes}
use lib.Dec.{T}
use lib.Ieee.Bits.{is_true}
use Rattle.numbers.specs.Inner.{fits_at, all_fit}
use Rattle.numbers.proofs.BlockLaws.{and_fails, unfit, some_unfit, fit_more, last_block}
use Rattle.numbers.proofs.blocks.long.Goals as goal
use Rattle.numbers.proofs.blocks.long.Goals.{else-loop-at-test, then-loop-at-test+else-not-block+else-last-at-gt16}

pub returns-then-not-ends : goal.returns-then-not-ends
returns-then-not-ends c =
    let s = c.args.s.now in
    sym (⊎_elim (some_unfit s 0 3 (omega arith)) (unfit s (length s) (omega arith)) (and_fails (all_fit s 0 3) (fits_at s (length s)) (sym c.ends.ensures ∙ c.if-not-ends.true)))

pub loop-at-init : goal.loop-at-init
loop-at-init c =
    let s = c.args.s.now in
    let p = and_yes (all_fit s 0 3) (fits_at s (length s)) (subst T (sym (sym c.ends.ensures ∙ c.if-not-ends.false)) tt) in
    (is_true _ p.1, fit_more s 0 0 3 (λ i h. absurd (omega arith)) (omega arith) (is_true _ p.0))

pub returns-then-not-block : goal.returns-then-not-block
returns-then-not-block c =
    let s = c.args.s.now in
    sym (some_unfit s c.loop-at.at 16 (omega arith) (sym c.block.ensures ∙ c.if-not-block.true))

pub loop-at-preserved : goal.loop-at-preserved
loop-at-preserved c =
    let l = c.loop-at in
    let s = c.args.s.now in
    (l.invariant.0, fit_more s l.at l.at 16 l.invariant.1 (omega arith) (sym c.block.ensures ∙ c.if-not-block.false))

-- the loop ends before a block that does not lie below the last, or after one that reaches it
pub returns : goal.returns
returns c =
    let l = c.loop-at in
    let s = c.args.s.now in
    c.block-2.ensures
    ∙ sym (elim c.loop-at-test.branch [
      | else-loop-at-test w ↦ last_block s l.at (length s - 16) 16 l.invariant.1 l.invariant.0 (omega arith) (omega arith)
      | then-loop-at-test+else-not-block+else-last-at-gt16 w ↦
          last_block s (l.at + 16) (length s - 16) 16 (fit_more s l.at l.at 16 l.invariant.1 (omega arith) (sym w.block.ensures ∙ w.if-not-block.false)) l.invariant.0 (omega arith) (omega arith)
    ])
