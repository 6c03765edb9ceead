-- Parts of lent bytes. Document 01, "From Vec, Cow and callbacks to Rattle": contents are "start and end in the lent bytes, and a
-- handed-back part", output is "a lent buffer". Contracts say with these definitions which bytes are read, which are written, and that no
-- other is altered. Assumes nothing.
use Rattle.std.specs.Prelude.{List, ◌++◌, ℕ, ◌+◌, ◌<◌, length, take, drop, get_or}

-- every element is a byte; an element past the end counts as 0. It is stated by index, as a proof gets it from a slice's type; no contract
-- asks it of a caller
abbrev pub Bytes : List ℕ → Type 0
Bytes xs = (i : ℕ) → get_or xs i 0 < 256

-- the n elements of xs from offset at on
abbrev pub part : List ℕ → ℕ → ℕ → List ℕ
part xs at n = take n (drop at xs)

-- xs with ys written at offset at, and no other element altered
unfoldable pub splice : List ℕ → ℕ → List ℕ → List ℕ
splice xs at ys = take at xs ++ (ys ++ drop (at + length ys) xs)
