-- What the contracts of inner functions cite: nothing that a reader of the listing's definition must believe. Assumes nothing.
use Rattle.std.specs.Prelude.{List, [], ℕ, suc, ◌+◌, ◌-◌, ◌≤◌, length, Option, Some, None}
use Rattle.records.specs.declared.address.AddressForm.{AddressForm}
use Rattle.records.specs.Positions.{here, read_next}
use Rattle.walk.specs.Walks.{readings}
use Rattle.tracelist.specs.Listing.{lines_text}

-- what is listed from an offset on
unfoldable pub listed_from : List ℕ → ℕ → List ℕ
listed_from s at = lines_text s (readings (read_next s) (suc (length s)) (here AddressForm.Le64 at))

-- the same, if the listing goes on
abbrev pub rest : List ℕ → Option ℕ → List ℕ
rest s (Some at) = listed_from s at
rest s None = []

-- how many more lines there can be
abbrev pub left : List ℕ → Option ℕ → ℕ
left s (Some at) = 1 + (length s - at)
left s None = 0

-- it goes on within the trace
abbrev pub Within : List ℕ → Option ℕ → Type 0
Within s (Some at) = at ≤ length s
Within s None = Unit {0}
