-- `tracelist::text::put_field` meets its contract: the word, then the byte.
-- Assumes nothing.
use mathlib.Core.Path.{refl}
use mathlib.Core.List.{[], ◌∷◌}
use Prim.Native.Nat.{◌+◌}
use native.Mathlib.Omega.{arith}
use Rattle.numbers.proofs.SpliceLaws.{Put, wrote, put_put, set_is_splice}
use Rattle.tracelist.proofs.text.put_field.Goals as goal

pub returns : goal.returns
returns c =
    let a = c.args in
    let w = c.put_word-end in
    let first : Put a.out.now a.at a.word.now w.new.out w.result = record { ends = w.ensures.value; is = w.ensures.out_after } in
    let byte = set_is_splice w.new.out w.result a.after (omega arith) in
    let second : Put _ _ (a.after ∷ []) _ (w.result + 1) = wrote refl byte in
    let all = put_put (omega arith) first second in
    record {
      value = all.ends;
      out_after = all.is;
    }
