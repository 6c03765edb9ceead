-- Closed tables of the definitions, proved by computing them. What is due comes from RFC 3629, section 4, at both ends of each of its ranges,
-- and from document 01's words. Assumes nothing.
use mathlib.Core.Path.{◌≡◌, refl}
use mathlib.Core.Bool.{Bool, true, false}
use mathlib.Core.List.{List, [], ◌∷◌, map}
use Prim.Native.Nat.{ℕ}
use Rattle.numbers.specs.Lists.{part, splice}
use Rattle.numbers.specs.Numbers.Order.{least_first, most_first}
use Rattle.numbers.specs.Numbers.{le_value, le_bytes, value_in, bytes_in}
use Rattle.numbers.specs.Text.{class_in, asks_in, class_of, asks, utf8_from, utf8}

-- bytes, and whether they are text
pub record Text : Type 0 where
  pub bytes : List ℕ
  pub is : Bool

abbrev text : List ℕ → Bool → Text
text s t = record { bytes = s; is = t }

abbrev pub texts : List Text
texts =
    text ([]) true  -- no bytes
    ∷ text (0x00 ∷ []) true  -- UTF8-1
    ∷ text (0x7f ∷ []) true
    ∷ text (0x80 ∷ []) false  -- a tail leads nothing
    ∷ text (0xbf ∷ []) false
    ∷ text (0x80 ∷ 0x00 ∷ []) false  -- and nothing may follow it
    ∷ text (0x80 ∷ 0x01 ∷ []) false
    ∷ text (0xc1 ∷ 0xbf ∷ []) false  -- UTF8-2
    ∷ text (0xc2 ∷ 0x80 ∷ []) true
    ∷ text (0xdf ∷ 0xbf ∷ []) true
    ∷ text (0xc2 ∷ 0x7f ∷ []) false  -- its tail
    ∷ text (0xdf ∷ 0xc0 ∷ []) false
    ∷ text (0xc2 ∷ []) false  -- cut
    ∷ text (0xe0 ∷ 0x9f ∷ 0xbf ∷ []) false  -- UTF8-3: e0
    ∷ text (0xe0 ∷ 0xa0 ∷ 0x80 ∷ []) true
    ∷ text (0xe0 ∷ 0xbf ∷ 0xbf ∷ []) true
    ∷ text (0xe0 ∷ 0xc0 ∷ 0x80 ∷ []) false
    ∷ text (0xe0 ∷ 0xa0 ∷ 0x7f ∷ []) false  -- its tail
    ∷ text (0xe0 ∷ 0xbf ∷ 0xc0 ∷ []) false
    ∷ text (0xe0 ∷ 0xa0 ∷ []) false  -- cut
    ∷ text (0xe1 ∷ 0x7f ∷ 0x80 ∷ []) false  -- e1 to ec
    ∷ text (0xe1 ∷ 0x80 ∷ 0x80 ∷ []) true
    ∷ text (0xec ∷ 0xbf ∷ 0xbf ∷ []) true
    ∷ text (0xec ∷ 0xc0 ∷ 0x80 ∷ []) false
    ∷ text (0xe1 ∷ 0x80 ∷ 0x7f ∷ []) false
    ∷ text (0xec ∷ 0xbf ∷ 0xc0 ∷ []) false
    ∷ text (0xec ∷ 0xbf ∷ []) false  -- cut
    ∷ text (0xed ∷ 0x7f ∷ 0x80 ∷ []) false  -- ed
    ∷ text (0xed ∷ 0x80 ∷ 0x80 ∷ []) true
    ∷ text (0xed ∷ 0x9f ∷ 0xbf ∷ []) true
    ∷ text (0xed ∷ 0xa0 ∷ 0x80 ∷ []) false
    ∷ text (0xed ∷ 0x80 ∷ 0x7f ∷ []) false  -- its tail
    ∷ text (0xed ∷ 0x9f ∷ 0xc0 ∷ []) false
    ∷ text (0xed ∷ 0x9f ∷ []) false  -- cut
    ∷ text (0xee ∷ 0x7f ∷ 0x80 ∷ []) false  -- ee and ef
    ∷ text (0xee ∷ 0x80 ∷ 0x80 ∷ []) true
    ∷ text (0xef ∷ 0xbf ∷ 0xbf ∷ []) true
    ∷ text (0xef ∷ 0xc0 ∷ 0x80 ∷ []) false
    ∷ text (0xee ∷ 0x80 ∷ 0x7f ∷ []) false
    ∷ text (0xef ∷ 0xbf ∷ 0xc0 ∷ []) false
    ∷ text (0xef ∷ 0xbf ∷ []) false  -- cut
    ∷ text (0xf0 ∷ 0x8f ∷ 0xbf ∷ 0xbf ∷ []) false  -- UTF8-4: f0
    ∷ text (0xf0 ∷ 0x90 ∷ 0x80 ∷ 0x80 ∷ []) true
    ∷ text (0xf0 ∷ 0xbf ∷ 0xbf ∷ 0xbf ∷ []) true
    ∷ text (0xf0 ∷ 0xc0 ∷ 0x80 ∷ 0x80 ∷ []) false
    ∷ text (0xf0 ∷ 0x90 ∷ 0x7f ∷ 0x80 ∷ []) false  -- its tails
    ∷ text (0xf0 ∷ 0x90 ∷ 0x80 ∷ 0xc0 ∷ []) false
    ∷ text (0xf0 ∷ 0x90 ∷ 0x80 ∷ []) false  -- cut
    ∷ text (0xf1 ∷ 0x7f ∷ 0x80 ∷ 0x80 ∷ []) false  -- f1 to f3
    ∷ text (0xf1 ∷ 0x80 ∷ 0x80 ∷ 0x80 ∷ []) true
    ∷ text (0xf3 ∷ 0xbf ∷ 0xbf ∷ 0xbf ∷ []) true
    ∷ text (0xf3 ∷ 0xc0 ∷ 0x80 ∷ 0x80 ∷ []) false
    ∷ text (0xf1 ∷ 0x80 ∷ 0xc0 ∷ 0x80 ∷ []) false
    ∷ text (0xf3 ∷ 0xbf ∷ 0xbf ∷ 0x7f ∷ []) false
    ∷ text (0xf3 ∷ 0xbf ∷ 0xbf ∷ []) false  -- cut
    ∷ text (0xf4 ∷ 0x7f ∷ 0x80 ∷ 0x80 ∷ []) false  -- f4
    ∷ text (0xf4 ∷ 0x80 ∷ 0x80 ∷ 0x80 ∷ []) true
    ∷ text (0xf4 ∷ 0x8f ∷ 0xbf ∷ 0xbf ∷ []) true
    ∷ text (0xf4 ∷ 0x90 ∷ 0x80 ∷ 0x80 ∷ []) false
    ∷ text (0xf4 ∷ 0x80 ∷ 0x7f ∷ 0x80 ∷ []) false  -- its tails
    ∷ text (0xf4 ∷ 0x8f ∷ 0xbf ∷ 0xc0 ∷ []) false
    ∷ text (0xf4 ∷ 0x8f ∷ 0xbf ∷ []) false  -- cut
    ∷ text (0xf5 ∷ 0x80 ∷ 0x80 ∷ 0x80 ∷ []) false  -- no lead byte
    ∷ text (0xff ∷ []) false
    ∷ text (0x61 ∷ 0xe2 ∷ 0x82 ∷ 0xac ∷ 0x62 ∷ []) true  -- characters one after the other
    ∷ text (0x61 ∷ 0x80 ∷ []) false
    ∷ text (0xe2 ∷ 0x82 ∷ 0xac ∷ 0xac ∷ []) false
    ∷ []

pub texts_hold : map (λ (t : Text). utf8 t.bytes) texts ≡ map (λ (t : Text). t.is) texts
unfolding class_in asks_in class_of asks utf8_from utf8
texts_hold = refl

-- 01: "The lead byte's class": the first and the last byte of each line, and bytes that lead nothing
pub classes_hold : map class_of (0x00 ∷ 0x7f ∷ 0xc2 ∷ 0xdf ∷ 0xe0 ∷ 0xe1 ∷ 0xec ∷ 0xed ∷ 0xee ∷ 0xef ∷ 0xf0 ∷ 0xf1 ∷ 0xf3 ∷ 0xf4 ∷ 0x80 ∷ 0xc1 ∷ 0xf5 ∷ 0xff ∷ [])
    ≡ 0 ∷ 0 ∷ 1 ∷ 1 ∷ 2 ∷ 3 ∷ 3 ∷ 4 ∷ 5 ∷ 5 ∷ 6 ∷ 7 ∷ 7 ∷ 8 ∷ 9 ∷ 9 ∷ 9 ∷ 9 ∷ []
unfolding class_in class_of
classes_hold = refl

-- ---- numbers and lists

-- a definition's list, and the list that is due
pub record Example : Type 0 where
  pub gives : List ℕ
  pub due : List ℕ

abbrev row : List ℕ → List ℕ → Example
row g d = record { gives = g; due = d }

abbrev pub lists : List Example
lists =
    row (le_value (0x01 ∷ 0x02 ∷ 0x03 ∷ []) ∷ le_value [] ∷ []) (0x030201 ∷ 0 ∷ [])  -- "least significant byte first"
    ∷ row (le_bytes 2 0x0201) (0x01 ∷ 0x02 ∷ [])
    ∷ row (le_bytes 4 0xff) (0xff ∷ 0x00 ∷ 0x00 ∷ 0x00 ∷ [])
    ∷ row (le_bytes 2 0x030201) (0x01 ∷ 0x02 ∷ [])  -- what does not fit is left out
    ∷ row (value_in least_first (0x01 ∷ 0x02 ∷ 0x03 ∷ []) ∷ value_in most_first (0x01 ∷ 0x02 ∷ 0x03 ∷ []) ∷ []) (0x030201 ∷ 0x010203 ∷ [])  -- "least or most significant first"
    ∷ row (bytes_in least_first 4 0x0102) (0x02 ∷ 0x01 ∷ 0x00 ∷ 0x00 ∷ [])
    ∷ row (bytes_in most_first 4 0x0102) (0x00 ∷ 0x00 ∷ 0x01 ∷ 0x02 ∷ [])
    ∷ row (part (10 ∷ 11 ∷ 12 ∷ 13 ∷ []) 1 2) (11 ∷ 12 ∷ [])
    ∷ row (splice (10 ∷ 11 ∷ 12 ∷ 13 ∷ []) 1 (20 ∷ 21 ∷ [])) (10 ∷ 20 ∷ 21 ∷ 13 ∷ [])
    ∷ []

pub lists_hold : map (λ (e : Example). e.gives) lists ≡ map (λ (e : Example). e.due) lists
unfolding le_value le_bytes splice
lists_hold = refl
