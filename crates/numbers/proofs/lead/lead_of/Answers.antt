-- `numbers::lead::lead_of` meets its contract: each arm is a line of the grammar, and one law gives the class from the line.
-- Assumes nothing.
use Rattle.std.proofs.Common.{◌≡◌, ◌∙◌, ◌≤◌, ◌&&◌, ℕ, ap, sym, arith}
use mir.Facts.{yes_and}
use lib.Dec.{T, leb, le→leb}
use Rattle.numbers.specs.Text.{lines, class_of}
use Rattle.numbers.specs.Inner.{lead}
use Rattle.numbers.proofs.LeadLaws.{holds, leads, between, beyond}
use Rattle.numbers.proofs.lead.lead_of.Goals as goal

-- a byte in the lead range of a line
ranged : (k b low high : ℕ) → (T (leb low b && leb b high) → T (holds lines k b)) → low ≤ b → b ≤ high → lead k ≡ lead (class_of b)
ranged k b low high line l h = ap lead (sym (leads k b (line (yes_and (leb low b) (leb b high) (le→leb low b l) (le→leb b high h)))))

pub returns-in-224 : goal.returns-in-224
unfolding lead
returns-in-224 c = c.second.ensures ∙ ranged 2 _ 0xe0 0xe0 (λ t. t) (omega arith) (omega arith)

pub returns-in-237 : goal.returns-in-237
unfolding lead
returns-in-237 c = c.second-in-237.ensures ∙ ranged 4 _ 0xed 0xed (λ t. t) (omega arith) (omega arith)

pub returns-in-240 : goal.returns-in-240
unfolding lead
returns-in-240 c = c.second-in-240.ensures ∙ ranged 6 _ 0xf0 0xf0 (λ t. t) (omega arith) (omega arith)

pub returns-in-244 : goal.returns-in-244
unfolding lead
returns-in-244 c = c.second-in-244.ensures ∙ ranged 8 _ 0xf4 0xf4 (λ t. t) (omega arith) (omega arith)

pub returns-in-0-to-127 : goal.returns-in-0-to-127
unfolding lead
returns-in-0-to-127 c = ranged 0 _ 0x00 0x7f (λ t. t) (omega arith) (omega arith)

pub returns-in-194-to-223 : goal.returns-in-194-to-223
unfolding lead
returns-in-194-to-223 c = c.second-in-194-to-223.ensures ∙ ranged 1 _ 0xc2 0xdf (λ t. t) (omega arith) (omega arith)

pub returns-in-225-to-236 : goal.returns-in-225-to-236
unfolding lead
returns-in-225-to-236 c = c.second-in-225-to-236.ensures ∙ ranged 3 _ 0xe1 0xec (λ t. t) (omega arith) (omega arith)

pub returns-in-238-to-239 : goal.returns-in-238-to-239
unfolding lead
returns-in-238-to-239 c = c.second-in-238-to-239.ensures ∙ ranged 5 _ 0xee 0xef (λ t. t) (omega arith) (omega arith)

pub returns-in-241-to-243 : goal.returns-in-241-to-243
unfolding lead
returns-in-241-to-243 c = c.second-in-241-to-243.ensures ∙ ranged 7 _ 0xf1 0xf3 (λ t. t) (omega arith) (omega arith)

pub returns-in_default : goal.returns-in_default
unfolding lead
returns-in_default c = ap lead (sym (between c.args.b (omega arith) (omega arith)))

pub returns-in_default-2 : goal.returns-in_default-2
unfolding lead
returns-in_default-2 c = ap lead (sym (beyond c.args.b (omega arith)))
