-- A piece of a text: bytes that a text goes on with after its first w bytes. Assumes nothing.
use mathlib.Core.Path.{◌≡◌, refl, sym, ap, ◌∙◌}
use mathlib.Core.List.{List, [], ◌++◌}
use Prim.Native.Nat.{ℕ, ◌+◌, ◌≤◌}
use native.Mathlib.Omega.{arith}
use lib.ListN.{length, drop, length-append, length-drop}
use lib.Seq.{drop_at, drop-drop}

module _ (text piece after : List ℕ) (w : ℕ) (e : drop w text ≡ piece ++ after) where
  -- the text goes on after the piece
  pub piece_rest : drop (w + length piece) text ≡ after
  piece_rest = sym (drop-drop (length piece) w text) ∙ ap (drop (length piece)) e ∙ drop_at piece after (length piece) refl

  -- and does not end before it does
  pub piece_within : w ≤ length text → w + length piece ≤ length text
  piece_within i =
      let sum : length (drop w text) ≡ length (piece ++ after) = ap length e in
      omega (arith, sum, length-drop w text, length-append piece after)

-- after the last piece nothing is left
pub piece_last : (text : List ℕ) (w : ℕ) → w ≤ length text → drop w text ≡ [] → w ≡ length text
piece_last text w i e =
    let none : length (drop w text) ≡ 0 = ap length e in
    omega (arith, none, length-drop w text)
