-- What the reading functions of include/trace.h hand back: each struct as the list of its numbers, in order. A field that an answer does
-- not use is 0. Assumes nothing.
use Rattle.frames.specs.declared.refusal.Refusal.{Refusal}
use Rattle.frames.specs.Refusals.{number_of}
use Rattle.frames.specs.declared.read.Part.{Part}
use Rattle.records.specs.declared.address.AddressForm.{AddressForm}
use Rattle.std.specs.Prelude.{List, [], ◌∷◌, ℕ, Result, Ok, Err, Option, Some, None}
use Rattle.records.specs.declared.registers.Names.{Names}
use Rattle.records.specs.declared.registers.RegisterName.{RegisterName}
use Rattle.records.specs.declared.position.Position.{Position}
use Rattle.records.specs.declared.position.Reading.{Reading}
use Rattle.records.specs.Reading.{parse_at}
use Rattle.walk.specs.declared.walk.End.{End}
use Rattle.walk.specs.Walks.{counts_of, sizes_of, end_of, wanted_in, refused_in}
use Rattle.trace_c.specs.Forms.{placed, moved_to}
use Rattle.trace_c.specs.Fields.{flat_answer, flat_parsed}

-- ---- struct aglimtaq_reading, and struct aglimtaq_position after the call

-- refused for its form, before all else: 257, and no position is moved
abbrev pub no_form : List ℕ
no_form = 2 ∷ 257 ∷ 0 ∷ 0 ∷ 0 ∷ 0 ∷ 0 ∷ 0 ∷ 0 ∷ 0 ∷ []

unfoldable pub reading_by : (Position → Reading) → List ℕ → Option AddressForm → List ℕ
reading_by read p (Some f) = flat_answer (read (placed p f)).answer
reading_by read p None = no_form

unfoldable pub place_by : (Position → Reading) → List ℕ → Option AddressForm → List ℕ
place_by read p (Some f) = moved_to p (read (placed p f)).position.at
place_by read p None = p

-- one record's bytes, which start at base
unfoldable pub parsed_by : ℕ → List ℕ → Option AddressForm → List ℕ
parsed_by base s (Some f) = flat_parsed (parse_at f base s)
parsed_by base s None = no_form

-- ---- struct aglimtaq_part, and what `aglimtaq_value` returns

unfoldable pub flat_content : Result Part Refusal → List ℕ
flat_content (Ok p) = p.start ∷ p.end ∷ []
flat_content (Err r) = 0 ∷ 0 ∷ []

unfoldable pub content_number : Result Part Refusal → ℕ
content_number (Ok p) = 0
content_number (Err r) = number_of r

-- ---- struct aglimtaq_entry, and what `aglimtaq_next_name` returns

unfoldable pub flat_name : Option (RegisterName × Names) → List ℕ
flat_name (Some (e, q)) = e.number.0 ∷ e.name.start ∷ e.name.end ∷ q.at ∷ []
flat_name None = 0 ∷ 0 ∷ 0 ∷ 0 ∷ []

unfoldable pub name_number : Option (RegisterName × Names) → ℕ
name_number (Some (e, q)) = 1
name_number None = 0

-- ---- a walk, under its form: both tables, which were lent as xs, and struct aglimtaq_end. Where the form is none of the four, the
-- tables are left as they were

unfoldable pub counts_by : (AddressForm → List Reading) → List ℕ → Option AddressForm → List ℕ
counts_by walk xs (Some f) = counts_of (walk f)
counts_by walk xs None = xs

unfoldable pub sizes_by : List ℕ → (AddressForm → List Reading) → List ℕ → Option AddressForm → List ℕ
sizes_by s walk xs (Some f) = sizes_of s (walk f)
sizes_by s walk xs None = xs

unfoldable pub flat_end : End → List ℕ
flat_end e = e.position ∷ wanted_in e.ending ∷ refused_in e.ending ∷ []

unfoldable pub end_by : (AddressForm → List Reading) → Option AddressForm → List ℕ
end_by walk (Some f) = flat_end (end_of (walk f))
end_by walk None = 0 ∷ 0 ∷ 257 ∷ []
