-- What C hands to `aglimtaq_begin`, `aglimtaq_portion`, `aglimtaq_close` and `aglimtaq_abandon`, and what they return and leave (document 02,
-- M-106): as the call of `Position` of the same name; and 257, before all else, where the form is none of the four: then nothing is altered.
-- Assumes nothing.
use Rattle.records.specs.declared.address.AddressForm.{AddressForm}
use Rattle.std.specs.Prelude.{List, [], ◌∷◌, ℕ, Option, Some, None}
use Rattle.records.specs.declared.position.Position.{Position}
use Rattle.records.specs.declared.position.Written.{Written}
use Rattle.records.specs.Traces.Call.{begins}
use Rattle.records.specs.Traces.{Call}
use Rattle.trace_c.specs.Forms.{placed, left_as}
use Rattle.trace_c.specs.Writing.{verdict_number}

unfoldable pub called_number : (Position → Written) → List ℕ → Option AddressForm → ℕ
called_number call p (Some f) = verdict_number (call (placed p f)).verdict
called_number call p None = 257

unfoldable pub called_place : (Position → Written) → List ℕ → Option AddressForm → List ℕ
called_place call p (Some f) = left_as p (call (placed p f))
called_place call p None = p

unfoldable pub called_bytes : (Position → List ℕ) → List ℕ → List ℕ → Option AddressForm → List ℕ
called_bytes left d p (Some f) = left (placed p f)
called_bytes left d p None = d

-- the opening that is made, as demand 3 has it
unfoldable pub begin_by : ℕ → ℕ → Option AddressForm → List Call
begin_by a n (Some f) = begins a n ∷ []
begin_by a n None = []
