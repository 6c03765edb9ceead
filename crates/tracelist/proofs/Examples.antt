-- Texts computed from the definitions: numbers, and listings of small traces. What is due comes from document 01: the listing that it
-- prints, and the number, length and kind of each record from "Bench examples". Assumes nothing.
use Rattle.std.specs.Prelude.{Some}
use mathlib.Core.Path.{◌≡◌, refl}
use mathlib.Core.List.{List, [], ◌∷◌, ◌++◌, map}
use Prim.Native.Nat.{ℕ}
use Prim.Native.String.{String}
use lib.ListN.{replicate}
use Rattle.frames.specs.declared.refusal.Refusal.{Refusal}
use Rattle.records.proofs.Opened.{opened}
use Rattle.walk.specs.Walks.{frames, readings, number_in, forth}
use Rattle.tracelist.specs.declared.line.Line.{Line}
use Rattle.tracelist.specs.Listing.{record_line, line_as, line_of, ascii, leading, decimal_in, decimal, two_digits, fields, line_text, lines_text, listing}

pub record Example : Type 0 where
  pub gives : List ℕ
  pub due : List ℕ

abbrev row : List ℕ → String → Example
row g d = record { gives = g; due = ascii d }

-- ---- numbers, and lines

abbrev pub numbers : List Example
numbers =
    row (decimal 0) "0"
    ∷ row (decimal 9) "9"
    ∷ row (decimal 10) "10"
    ∷ row (decimal 305) "305"
    ∷ row (decimal 65536) "65536"
    ∷ row (decimal 18446744073709551615) "18446744073709551615"
    ∷ row (two_digits 0x08) "08"
    ∷ row (two_digits 0xf0) "f0"
    ∷ row (line_text (Line.Record 65530 6 0x08 (Some Refusal.UnknownKind))) "65530 6 08 7\n"
    ∷ row (line_text (Line.Unfinished 40 65540)) "unfinished 40 65540\n"
    ∷ []

pub numbers_hold : map (λ (e : Example). e.gives) numbers ≡ map (λ (e : Example). e.due) numbers
unfolding number_in leading decimal_in decimal two_digits fields line_text
numbers_hold = refl

-- ---- traces

abbrev pub traces : List Example
traces =
    -- "For the magic bytes followed by 31 06 01 05 00 00 00 07 all of it is"
    row
    (listing (0xf1 ∷ 0x06 ∷ 0x65 ∷ 0x78 ∷ 0x00 ∷ 0x3c ∷ 0x7f ∷ 0x07 ∷ 0x31 ∷ 0x06 ∷ 0x01 ∷ 0x05 ∷ 0x00 ∷ 0x00 ∷ 0x00 ∷ 0x07 ∷ []))
    "0 8 f0 0\n8 8 30 0\nend 16\n"
    ∷ row (listing []) "end 0\n"
    ∷ row (listing (0x20 ∷ 0x21 ∷ [])) "0 1 20 1\nunfinished 1 2\n"  -- "20: one byte, 1", then "21: wants 2"
    ∷ row (listing (0x21 ∷ [])) "unfinished 0 2\n"  -- "21: wants 2"
    ∷ row (listing (0x21 ∷ 0x09 ∷ 0x00 ∷ [])) "unfinished 0 11\n"  -- "21 09 00: wants 11"
    ∷ row (listing (0x09 ∷ 0x02 ∷ 0xaa ∷ 0x03 ∷ [])) "0 4 08 7\nend 4\n"  -- "09 02 aa 03: 7"
    -- "Map at 2000 (hexadecimal), empty", 18 bytes, and after it "55 02 07 03: 4"
    ∷ row
    (listing (0x13 ∷ 0x0d ∷ 0x00 ∷ 0x00 ∷ 0x00 ∷ 0x00 ∷ 0x20 ∷ replicate 6 0x00 ++ (0x0d ∷ 0x00 ∷ 0x00 ∷ 0x00 ∷ 0x00 ∷ 0x55 ∷ 0x02 ∷ 0x07 ∷ 0x03 ∷ [])))
    "0 18 10 0\n18 4 54 4\nend 22\n"
    ∷ row (listing (0x25 ∷ 0x05 ∷ 0x00 ∷ 0x10 ∷ 0x00 ∷ 0x00 ∷ 0x06 ∷ [])) "0 7 24 4\nend 7\n"  -- "keeps eight": an address in four bytes
    ∷ []

pub traces_hold : map (λ (e : Example). e.gives) traces ≡ map (λ (e : Example). e.due) traces
unfolding opened frames readings number_in forth record_line line_as line_of leading decimal_in decimal two_digits fields line_text lines_text listing
traces_hold = refl
