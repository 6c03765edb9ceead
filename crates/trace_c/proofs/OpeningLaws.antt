-- Laws of what the calls of a MemWrite in portions return and leave, by what the position's call says. Assumes nothing.
use Rattle.std.specs.Prelude.{Some, None}
use mathlib.Core.Path.{◌≡◌, ap, ◌∙◌}
use mathlib.Core.List.{List}
use Prim.Native.Nat.{ℕ}
use Rattle.records.specs.declared.address.AddressForm.{AddressForm}
use Rattle.records.specs.declared.position.Position.{Position}
use Rattle.records.specs.declared.position.Written.{Written}
use Rattle.trace_c.specs.Forms.{form_in, placed, left_as}
use Rattle.trace_c.specs.Writing.{verdict_number}
use Rattle.trace_c.specs.Openings.{called_number, called_place, called_bytes}

module _ (p : List ℕ) where
  -- the form is one of the four: what is returned, the struct that is left, and the bytes
  module _ (f : AddressForm) {q : Position} (form : form_in p ≡ Some f) (place : q ≡ placed p f) where
    pub called_told : (call : Position → Written) {w : Written} {n : ℕ} {p' : List ℕ} → w ≡ call q → (n ≡ verdict_number w.verdict) × (p' ≡ left_as p w)
        → (n ≡ called_number call p (form_in p)) × (p' ≡ called_place call p (form_in p))
    unfolding called_number called_place
    called_told call {w} is told =
        let e : w ≡ call (placed p f) = is ∙ ap call place in
        (rw form (told.0 ∙ ap (λ (x : Written). verdict_number x.verdict) e), rw form (told.1 ∙ ap (left_as p) e))

    pub bytes_told : (left : Position → List ℕ) (d : List ℕ) {d' : List ℕ} → d' ≡ left q → d' ≡ called_bytes left d p (form_in p)
    unfolding called_bytes
    bytes_told left d is = rw form (is ∙ ap left place)

  -- it is none of them
  module _ (none : form_in p ≡ None) where
    pub none_told : (call : Position → Written) → (257 ≡ called_number call p (form_in p)) × (p ≡ called_place call p (form_in p))
    unfolding called_number called_place
    none_told call = (rw none, rw none)

    pub none-bytes : (left : Position → List ℕ) (d : List ℕ) → d ≡ called_bytes left d p (form_in p)
    unfolding called_bytes
    none-bytes left d = rw none
