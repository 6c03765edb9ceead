-- `numbers::blocks::by_blocks` meets its contract: bytes filled up with zero bytes are text if they were.
-- Assumes nothing.
use Rattle.std.proofs.Common.{◌∙◌, ap, arith}
use lib.ListN.{replicate}
use Rattle.numbers.specs.Text.{utf8}
use Rattle.numbers.proofs.TextLaws.{filled_up}
use Rattle.numbers.proofs.blocks.by_blocks.Goals as goal

pub returns-then-s-lt19 : goal.returns-then-s-lt19
returns-then-s-lt19 c =
    c.long.ensures ∙ ap utf8 c.copy.ensures ∙ filled_up c.args.s.now (replicate 19 0) tt (omega arith)
