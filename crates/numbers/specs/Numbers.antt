-- Document 01, "Frames" and "Contents", and document 02, M-100: a number in w bytes, defined over the width and the order of the bytes.
-- Assumes nothing.
use Rattle.std.specs.Prelude.{List, [], ◌∷◌, reverse, ℕ, zero, suc, ◌+◌, ◌*◌, ◌/◌, ◌%◌}

-- ---- least significant byte first

-- the number that the bytes stand for
unfoldable pub le_value : List ℕ → ℕ
le_value [] = 0
le_value (b ∷ bs) = b + 256 * le_value bs

-- the number n in w bytes; what does not fit into them is left out
unfoldable pub le_bytes : ℕ → ℕ → List ℕ
le_bytes zero n = []
le_bytes (suc w) n = n % 256 ∷ le_bytes w (n / 256)

-- ---- "least or most significant first": the second is the first, reversed

pub data Order : Type 0 where
  least_first : Order
  most_first : Order

abbrev pub ordered : Order → List ℕ → List ℕ
ordered least_first bs = bs
ordered most_first bs = reverse bs

abbrev pub value_in : Order → List ℕ → ℕ
value_in o bs = le_value (ordered o bs)

abbrev pub bytes_in : Order → ℕ → ℕ → List ℕ
bytes_in o w n = ordered o (le_bytes w n)
