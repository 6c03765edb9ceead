-- `tracelist::text::Text::push_line` meets its contract: the line stands after the text.
-- Assumes nothing.
use mathlib.Core.Path.{ap, ap₂, ◌∙◌}
use mathlib.Core.List.{List, ◌++◌}
use Prim.Native.Nat.{ℕ}
use native.Mathlib.Omega.{arith}
use lib.ListN.{take}
use Rattle.numbers.proofs.SpliceLaws.{take-splice-end}
use Rattle.tracelist.specs.Listing.{line_text}
use Rattle.tracelist.proofs.text.Text.push_line.Goals as goal

pub returns-clause-text : goal.returns-clause-text
returns-clause-text c =
    let t = c.self.inside in
    let p = c.put_line-self-inside.ensures in
    let line : List ℕ = line_text c.args.line in
    ap₂ take p.value.0 p.out_after
    ∙ take-splice-end t.bytes t.len line (omega arith)
    ∙ ap (λ (x : List ℕ). x ++ line) c.self.view_is
