-- The pieces of a line as the program puts them after a text, each field with the byte after it, make the line's text. Assumes nothing.
use Rattle.std.specs.Prelude.{Option}
use mathlib.Core.Path.{◌≡◌}
use mathlib.Core.List.{List, ◌++◌, append_assoc}
use Prim.Native.Nat.{ℕ}
use Rattle.frames.specs.declared.refusal.Refusal.{Refusal}
use Rattle.walk.specs.Walks.{number_in}
use Rattle.tracelist.specs.declared.line.Line.{Line}
use Rattle.tracelist.specs.Listing.{decimal, two_digits, fields, ascii, line_text}

-- a field, and a space or a line end after it
abbrev pub spaced : List ℕ → List ℕ
spaced f = f ++ ascii " "

abbrev pub ended : List ℕ → List ℕ
ended f = f ++ ascii "\n"

module _ (text : List ℕ) where
  pub record_text : (start size kind number : ℕ) (refusal : Option Refusal) → number ≡ number_in refusal
      → (((text ++ spaced (decimal start)) ++ spaced (decimal size)) ++ spaced (two_digits kind)) ++ ended (decimal number)
      ≡ text ++ line_text (Line.Record start size kind refusal)
  unfolding line_text fields
  record_text start size kind number refusal e = rw e (simp append_assoc)

  pub end_text : (at : ℕ) → (text ++ spaced (ascii "end")) ++ ended (decimal at) ≡ text ++ line_text (Line.End at)
  unfolding line_text fields
  end_text at = simp append_assoc

  pub unfinished_text : (at wanted : ℕ)
      → ((text ++ spaced (ascii "unfinished")) ++ spaced (decimal at)) ++ ended (decimal wanted) ≡ text ++ line_text (Line.Unfinished at wanted)
  unfolding line_text fields
  unfinished_text at wanted = simp append_assoc
