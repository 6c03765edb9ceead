-- What the contracts of inner functions of the house calls cite: nothing that a reader of the public ones must believe. Assumes nothing.
use Rattle.frames.specs.declared.refusal.Refusal.{Refusal}
use Rattle.records.specs.declared.address.AddressForm.{AddressForm}
use Rattle.std.specs.Prelude.{cond, ◌&&◌, List, ℕ, ltb, eqb, get_or, Err, Option, Some, None}
use Rattle.frames.specs.declared.read.Part.{Part}
use Rattle.records.specs.Contents.RecordType.{unknown_meta}
use Rattle.records.specs.Reading.{lent_part}
use Rattle.records.specs.Positions.{unless_open}
use Rattle.house.specs.Gauges.{gauge_of}
use Rattle.house.specs.House.{gauge_at}
use Rattle.trace_c.specs.Types.{number}
use Rattle.trace_c.specs.Forms.{placed}
use Rattle.trace_c.specs.Writing.{verdict_number}
use Rattle.trace_c.specs.Gauges.{flat_house}

abbrev pub spanned : ℕ → ℕ → Part
spanned from to = record { start = from; end = to }

-- the plain reading r of the bytes s, where it shows a Meta of tag 200, as the house reader has it
unfoldable pub told_of : List ℕ → List ℕ → List ℕ
told_of s r =
    cond (eqb (get_or r 4 0) (number unknown_meta) && eqb (get_or r 5 0) 200)
    (flat_house (gauge_at (spanned (get_or r 2 0) (get_or r 3 0)) (gauge_of (lent_part s (spanned (get_or r 8 0) (get_or r 9 0))))))
    r

-- what a house write of bytes that are no house reading returns
unfoldable pub refusal_by : ℕ → List ℕ → Refusal → Option AddressForm → ℕ
refusal_by lent p r (Some f) =
    let q = placed p f in
    verdict_number (unless_open q.pending (cond (ltb lent q.at) (Err Refusal.BeyondEnd) (Err r)))
refusal_by lent p r None = 257
