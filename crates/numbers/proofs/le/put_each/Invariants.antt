-- `numbers::le::put_each`: with the bytes of what is left, those written are the number's. Assumes nothing.
use Rattle.std.proofs.Common.{◌≡◌, ◌-◌}
use Rattle.numbers.specs.Lists.{splice}
use Rattle.numbers.specs.Numbers.{le_bytes}
use Rattle.numbers.proofs.le.put_each.Given as goal

abbrev pub invariant-loop-byte : goal.invariant-loop-byte
invariant-loop-byte l = splice l.byte-items l.byte-index (le_bytes (l.width - l.byte-index) l.rest) ≡ le_bytes l.width l.value
