-- `tracelist::text::put_line` meets its contract: the fields of the line, one after the other.
-- Assumes nothing.
use mathlib.Core.Path.{ap}
use mathlib.Core.List.{[]}
use Prim.Native.Nat.{◌≤◌}
use native.Mathlib.Omega.{arith}
use lib.ListN.{length, length-append}
use Rattle.numbers.proofs.SpliceLaws.{Put, put_put}
use Rattle.tracelist.specs.Listing.{ascii, decimal, two_digits}
use Rattle.tracelist.proofs.TextLaws.{spaced, ended, record_text, end_text, unfinished_text}
use Rattle.tracelist.proofs.text.put_line.Goals as goal

-- ---- where the text ends

pub returns-in-Record-clause-value : goal.returns-in-Record-clause-value
unfolding two_digits
returns-in-Record-clause-value c =
    let l = c.in-Record in
    let start = c.put_number-a.ensures.value in
    let size = c.put_number-b.ensures.value in
    let kind = c.put_kind-c.ensures.value in
    let number = c.put_number.ensures.value in
    let all = ap length (record_text [] l.start l.length l.kind c.number-number.result l.refusal c.number-number.ensures) in
    rw (l.is, ← all, length-append, length-append, length-append)
    (omega (arith, start.0, size.0, kind, number.0), omega (arith, start.1, size.1, kind, number.1))

pub returns-in-End-clause-value : goal.returns-in-End-clause-value
returns-in-End-clause-value c =
    let word = c.put_word-a.ensures.value in
    let number = c.put_number-in-End.ensures.value in
    let all = ap length (end_text [] c.in-End.end) in
    rw (c.in-End.is, ← all) (omega (arith, word, number.0), omega (arith, word, number.1))

pub returns-in-Unfinished-clause-value : goal.returns-in-Unfinished-clause-value
returns-in-Unfinished-clause-value c =
    let l = c.in-Unfinished in
    let word = c.put_word-a-in-Unfinished.ensures.value in
    let start = c.put_number-b-in-Unfinished.ensures.value in
    let wanted = c.put_number-in-Unfinished.ensures.value in
    let all = ap length (unfinished_text [] l.start l.wanted) in
    rw (l.is, ← all, length-append) (omega (arith, word, start.0, wanted.0), omega (arith, word, start.1, wanted.1))

-- ---- what the buffer holds

pub returns-in-Record-clause-out_after : goal.returns-in-Record-clause-out_after
unfolding two_digits
returns-in-Record-clause-out_after c =
    let a = c in
    let l = a.in-Record in
    let start = c.put_number-a.ensures in
    let size = c.put_number-b.ensures in
    let kind = c.put_kind-c.ensures in
    let number = c.put_number.ensures in
    let inside : a.args.at ≤ length a.args.out.now = omega (arith, a.requires) in
    let first : Put a.args.out.now a.args.at (spaced (decimal l.start)) _ _ = record { ends = start.value.0; is = start.out_after } in
    let second : Put _ _ (spaced (decimal l.length)) _ _ = record { ends = size.value.0; is = size.out_after } in
    let third : Put _ _ (spaced (two_digits l.kind)) _ _ = record { ends = kind.value; is = kind.out_after } in
    let fourth : Put _ _ (ended (decimal c.number-number.result)) _ _ = record { ends = number.value.0; is = number.out_after } in
    let text = record_text [] l.start l.length l.kind c.number-number.result l.refusal c.number-number.ensures in
    let all = rw text at (put_put inside (put_put inside (put_put inside first second) third) fourth) in
    rw l.is all.is

pub returns-in-End-clause-out_after : goal.returns-in-End-clause-out_after
returns-in-End-clause-out_after c =
    let a = c in
    let l = a.in-End in
    let word = c.put_word-a.ensures in
    let number = c.put_number-in-End.ensures in
    let inside : a.args.at ≤ length a.args.out.now = omega (arith, a.requires) in
    let first : Put a.args.out.now a.args.at (spaced (ascii "end")) _ _ = record { ends = word.value; is = word.out_after } in
    let second : Put _ _ (ended (decimal l.end)) _ _ = record { ends = number.value.0; is = number.out_after } in
    let all = rw (end_text []) at (put_put inside first second) in
    rw l.is all.is

pub returns-in-Unfinished-clause-out_after : goal.returns-in-Unfinished-clause-out_after
returns-in-Unfinished-clause-out_after c =
    let a = c in
    let l = a.in-Unfinished in
    let word = c.put_word-a-in-Unfinished.ensures in
    let start = c.put_number-b-in-Unfinished.ensures in
    let wanted = c.put_number-in-Unfinished.ensures in
    let inside : a.args.at ≤ length a.args.out.now = omega (arith, a.requires) in
    let first : Put a.args.out.now a.args.at (spaced (ascii "unfinished")) _ _ = record { ends = word.value; is = word.out_after } in
    let second : Put _ _ (spaced (decimal l.start)) _ _ = record { ends = start.value.0; is = start.out_after } in
    let third : Put _ _ (ended (decimal l.wanted)) _ _ = record { ends = wanted.value.0; is = wanted.out_after } in
    let all = rw (unfinished_text []) at (put_put inside (put_put inside first second) third) in
    rw l.is all.is
