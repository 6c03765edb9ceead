-- Document 01, "Text and numbers": which bytes are text by RFC 3629, written from the lines of its section 4, in their order.
-- Assumes nothing.
use Rattle.std.specs.Prelude.{Bool, true, false, cond, ◌&&◌, List, [], ◌∷◌, ℕ, zero, suc, leb}

infix 80 ◌to◌
pub record Range : Type 0 where
  pub low : ℕ
  pub high : ℕ

-- the bytes from one to another, both included
abbrev pub ◌to◌ : ℕ → ℕ → Range
a to b = record { low = a; high = b }

abbrev pub within : Range → ℕ → Bool
within r b = leb r.low b && leb b r.high

-- "a tail is 80 to bf": UTF8-tail = %x80-BF
abbrev pub tail : Range
tail = 0x80 to 0xbf

-- a range that holds no byte: nothing may follow a byte that leads no character
abbrev pub nothing : Range
nothing = 1 to 0

-- one form of character: the range of its lead byte, and those of the bytes after it
pub record Line : Type 0 where
  pub lead : Range
  pub behind : List Range

abbrev pub line : Range → List Range → Line
line l rs = record { lead = l; behind = rs }

-- UTF8-1, UTF8-2, UTF8-3 and UTF8-4, a line for each of their alternatives. A line's index in this list, counted from 0, is what 01 calls
-- the lead byte's class.
abbrev pub lines : List Line
lines =
    line (0x00 to 0x7f) []  -- UTF8-1 = %x00-7F
    ∷ line (0xc2 to 0xdf) (tail ∷ [])  -- UTF8-2 = %xC2-DF UTF8-tail
    ∷ line (0xe0 to 0xe0) (0xa0 to 0xbf ∷ tail ∷ [])  -- UTF8-3 = %xE0 %xA0-BF UTF8-tail
    ∷ line (0xe1 to 0xec) (tail ∷ tail ∷ [])  -- / %xE1-EC 2( UTF8-tail )
    ∷ line (0xed to 0xed) (0x80 to 0x9f ∷ tail ∷ [])  -- / %xED %x80-9F UTF8-tail
    ∷ line (0xee to 0xef) (tail ∷ tail ∷ [])  -- / %xEE-EF 2( UTF8-tail )
    ∷ line (0xf0 to 0xf0) (0x90 to 0xbf ∷ tail ∷ tail ∷ [])  -- UTF8-4 = %xF0 %x90-BF 2( UTF8-tail )
    ∷ line (0xf1 to 0xf3) (tail ∷ tail ∷ tail ∷ [])  -- / %xF1-F3 3( UTF8-tail )
    ∷ line (0xf4 to 0xf4) (0x80 to 0x8f ∷ tail ∷ tail ∷ [])  -- / %xF4 %x80-8F 2( UTF8-tail )
    ∷ []

-- the index of the first line whose lead range holds b, or the number of lines where none does
unfoldable pub class_in : List Line → ℕ → ℕ
class_in [] b = 0
class_in (l ∷ ls) b = cond (within l.lead b) 0 (suc (class_in ls b))

-- the ranges after the lead byte, by the line's index
unfoldable pub asks_in : List Line → ℕ → List Range
asks_in [] k = nothing ∷ []
asks_in (l ∷ ls) zero = l.behind
asks_in (l ∷ ls) (suc k) = asks_in ls k

-- the class of a lead byte, and the ranges of the bytes after it
unfoldable pub class_of : ℕ → ℕ
unfolding class_in
class_of b = class_in lines b

unfoldable pub asks : ℕ → List Range
unfolding asks_in
asks k = asks_in lines k

-- whether bytes are text, given the ranges of the next ones; where none is given, a character begins
unfoldable pub utf8_from : List Range → List ℕ → Bool
unfolding class_of asks
utf8_from [] [] = true
utf8_from [] (b ∷ s) = utf8_from (asks (class_of b)) s
utf8_from (r ∷ rs) [] = false
utf8_from (r ∷ rs) (b ∷ s) = within r b && utf8_from rs s

-- whole characters, one after the other
unfoldable pub utf8 : List ℕ → Bool
unfolding utf8_from
utf8 s = utf8_from [] s
