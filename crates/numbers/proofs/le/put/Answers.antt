-- `numbers::le::put` meets its contract: each arm calls the writer of its width, with the number cut to that width.
-- Assumes nothing.
use mathlib.Core.Path.{ap, ◌∙◌}
use Rattle.numbers.specs.Lists.{splice}
use Rattle.numbers.proofs.NumberLaws.{le_bytes-mod}
use Rattle.numbers.proofs.le.put.Goals as goal

pub returns-in-1 : goal.returns-in-1
returns-in-1 c =
    let call = c in
    let arm = call in
    let a = arm.args in
    rw arm.in-1.is (call.put1.ensures ∙ ap (splice a.out.now a.at) (le_bytes-mod 1 a.value))

pub returns-in-2 : goal.returns-in-2
returns-in-2 c =
    let call = c in
    let arm = call in
    let a = arm.args in
    rw arm.in-2.is (call.put2.ensures ∙ ap (splice a.out.now a.at) (le_bytes-mod 2 a.value))

pub returns-in-4 : goal.returns-in-4
returns-in-4 c =
    let call = c in
    let arm = call in
    let a = arm.args in
    rw arm.in-4.is (call.put4.ensures ∙ ap (splice a.out.now a.at) (le_bytes-mod 4 a.value))
