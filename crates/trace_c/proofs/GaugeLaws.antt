-- The house calls for C over the plain ones: a plain reading in which a Meta of tag 200 is told anew is the house reader's, and a house write of bytes that
-- are a house reading is a plain write of that Meta. Assumes nothing.
use Rattle.std.specs.Prelude.{Result, Ok, Err, Option, Some, None}
use Rattle.frames.specs.declared.refusal.Refusal.{Refusal}
use Rattle.frames.specs.Refusals.{number_of}
use Rattle.house.specs.declared.gauge.Gauge.{Gauge}
use Rattle.records.specs.declared.address.AddressForm.{AddressForm}
use mathlib.Core.Path.{◌≡◌, refl, sym, ap, ◌∙◌}
use mathlib.Core.Logic.{◌≢◌}
use mathlib.Core.Bool.{Bool, true, false, cond}
use mathlib.Core.List.{List, [], ◌∷◌}
use Prim.Native.Nat.{ℕ}
use borrow.Author.Tests.{eq-eqb, ne_eqb}
use lib.Dec.{eqb}
use lib.ListN.{get_or}
use Rattle.frames.specs.declared.read.Part.{Part}
use Rattle.records.specs.declared.position.Position.{Position}
use Rattle.records.specs.declared.position.Answer.{Answer}
use Rattle.records.specs.declared.position.Answer.TheVariants as answer
use Rattle.records.specs.declared.position.Reading.{Reading}
use Rattle.records.specs.declared.position.Written.{Written}
use Rattle.records.specs.declared.record.FileMeta.TheVariants as file
use Rattle.records.specs.declared.record.Meta.{Meta}
use Rattle.records.specs.declared.record.Meta.TheVariants as meta
use Rattle.records.specs.declared.record.Record.{Record}
use Rattle.records.specs.declared.record.Record.TheVariants as kind
use Rattle.records.specs.Contents.{layout}
use Rattle.records.specs.Reading.{lent_part}
use Rattle.records.specs.Views.{bytes_of, shown_file_meta, shown_meta, shown_as}
use Rattle.records.specs.declared.position.Open.{Open}
use Rattle.records.specs.Positions.{here, by_open, unless_open, visible, read_next, read_previous}
use Rattle.house.specs.declared.read.HouseAnswer.{HouseAnswer}
use Rattle.house.specs.declared.read.HouseReading.{HouseReading}
use Rattle.house.specs.Gauges.{gauge_of}
use Rattle.house.specs.House.{is_house, gauge_at, house_answer, house_reading, house_next, house_previous}
use Rattle.house.specs.Inner.{Inside, ShowsInside}
use Rattle.house.proofs.InsideLaws.{next-shows-inside, previous_shows-inside}
use Rattle.house.proofs.WriteLaws.{plain-written, plain-bytes, refused-written, refused-bytes}
use Rattle.trace_c.specs.Forms.{at_of, placed, moved_to}
use Rattle.trace_c.specs.Fields.{shown, file_meta_fields, meta_fields, fields_of, numbers_of, flat_answer}
use Rattle.trace_c.specs.Given.{fitting, built_meta, built, new_of}
use Rattle.trace_c.specs.Reading.{reading_by, place_by}
use Rattle.trace_c.specs.Writing.{given, verdict_number, number_at, place_at, bytes_at, written_number, written_place, written_bytes}
use Rattle.trace_c.specs.Gauges.{gauge_fields, flat_house, house_reading_by, house_place_by, house_number, house_left, house_out}
use Rattle.trace_c.specs.InnerGauges.{spanned, told_of, refusal_by}

-- ---- reading

module _ (s : List ℕ) (q : Part) where
  abbrev Told : Record → Type 0
  Told r = told_of s (flat_answer (Answer.Shown r q)) ≡ flat_house (house_answer s (Answer.Shown r q))

  unknown_told : (tag : ℕ) (p : Part) → lent_part s p ≡ bytes_of s p → Told (Record.Meta (Meta.Unknown tag p))
  unfolding told_of flat_answer meta_fields fields_of numbers_of house_answer is_house shown_as shown_meta layout flat_house
  unknown_told tag p inside = rw inside (by (eqb tag 200))
    where
      by : (b : Bool) → cond b (flat_house (gauge_at q (gauge_of (bytes_of s p)))) (flat_answer (Answer.Shown (Record.Meta (Meta.Unknown tag p)) q))
          ≡ flat_house (cond b (gauge_at q (gauge_of (bytes_of s p))) (HouseAnswer.Other (Answer.Shown (Record.Meta (Meta.Unknown tag p)) q)))
      by true = refl
      by false = refl

  meta_told : (m : Meta) → Inside s (Record.Meta m) → Told (Record.Meta m)
  unfolding told_of flat_answer meta_fields fields_of numbers_of house_answer is_house shown_as shown_meta layout flat_house
  meta_told (meta.InstructionCount a) h = refl
  meta_told (meta.ThreadId a) h = refl
  meta_told (meta.ProcessId a) h = refl
  meta_told (meta.CallBegin p a) h = refl
  meta_told meta.CallModeledOpsEnd h = refl
  meta_told (meta.CallEnd a) h = refl
  meta_told meta.OperandUncertain h = refl
  meta_told (meta.AddressDependencyEdge a) h = refl
  meta_told (meta.RegisterDependencyEdge a) h = refl
  meta_told (meta.MemoryAllocated a b) h = refl
  meta_told (meta.MemoryFreed a b) h = refl
  meta_told (meta.MemoryReallocated a b c) h = refl
  meta_told (meta.Unknown tag p) h = unknown_told tag p (h tag p refl)

  record_told : (r : Record) → Inside s r → Told r
  unfolding told_of flat_answer file_meta_fields fields_of numbers_of house_answer is_house shown_as shown_file_meta layout flat_house
  record_told kind.Magic h = refl
  record_told (kind.Arch p) h = refl
  record_told (kind.FileMeta (file.RegisterNameMap a p)) h = refl
  record_told (kind.FileMeta (file.Unknown a p)) h = refl
  record_told (kind.Map a p) h = refl
  record_told (kind.Unmap a b) h = refl
  record_told (kind.Instruction a p) h = refl
  record_told (kind.Pc a) h = refl
  record_told (kind.Meta m) h = meta_told m h
  record_told (kind.Interrupt a b) h = refl
  record_told (kind.RegRead a p) h = refl
  record_told (kind.RegWrite a p) h = refl
  record_told (kind.RegWriteNative a p) h = refl
  record_told (kind.MemRead a p) h = refl
  record_told (kind.MemWrite a p) h = refl

answer_told : (s : List ℕ) (a : Answer) → ShowsInside s a → told_of s (flat_answer a) ≡ flat_house (house_answer s a)
unfolding told_of flat_answer house_answer flat_house
answer_told s (answer.Shown r q) h = record_told s q r (h r q refl)
answer_told s (answer.RefusedAt n q) h = refl
answer_told s (answer.Refused n) h = refl
answer_told s answer.Finished h = refl
answer_told s (answer.Unfinished n) h = refl

module _ (s p : List ℕ) where
  abbrev Same : (Position → Reading) → (Position → HouseReading) → Option AddressForm → Type 0
  Same plain house form = (place_by plain p form ≡ house_place_by house p form) × (told_of s (reading_by plain p form) ≡ house_reading_by house p form)

  same_told : (plain : Position → Reading) → ((q : Position) → ShowsInside s (plain q).answer) → (form : Option AddressForm) → Same plain (λ q. house_reading s (plain q)) form
  unfolding place_by house_place_by reading_by house_reading_by house_reading told_of
  same_told plain inside (Some f) = (refl, answer_told s (plain (placed p f)).answer (inside (placed p f)))
  same_told plain inside None = (refl, refl)

  pub next_told : (form : Option AddressForm) → Same (λ q. read_next (visible s q.pending) q) (house_next s) form
  next_told form = same_told (λ q. read_next (visible s q.pending) q) (next-shows-inside s) form

  pub previous_told : (form : Option AddressForm) → Same (λ q. read_previous (visible s q.pending) q) (house_previous s) form
  previous_told form = same_told (λ q. read_previous (visible s q.pending) q) (previous_shows-inside s) form

-- what `tell` leaves
module _ (s r : List ℕ) where
  pub other_type : get_or r 4 0 ≢ 21 → r ≡ told_of s r
  unfolding told_of
  other_type h = rw (ne_eqb (get_or r 4 0) 21 h)

  pub other_tag : get_or r 4 0 ≡ 21 → get_or r 5 0 ≢ 200 → r ≡ told_of s r
  unfolding told_of
  other_tag h k = rw (eq-eqb (get_or r 4 0) 21 h, ne_eqb (get_or r 5 0) 200 k)

  abbrev pub part : Part
  part = spanned (get_or r 2 0) (get_or r 3 0)

  module _ (t : get_or r 4 0 ≡ 21) (k : get_or r 5 0 ≡ 200) {x : List ℕ} (lent : x ≡ lent_part s (spanned (get_or r 8 0) (get_or r 9 0))) where
    of-family : (v : Result Gauge Refusal) → v ≡ gauge_of x → told_of s r ≡ flat_house (gauge_at part v)
    unfolding told_of
    of-family v e = rw (eq-eqb (get_or r 4 0) 21 t, eq-eqb (get_or r 5 0) 200 k, e, lent)

    pub fields_told : (g : Gauge) → Ok g ≡ gauge_of x → shown part (gauge_fields g) ≡ told_of s r
    unfolding flat_house gauge_at
    fields_told g e = sym (of-family (Ok g) e)

    pub refused_told : (n : Refusal) → Err n ≡ gauge_of x → 1 ∷ number_of n ∷ get_or r 2 0 ∷ get_or r 3 0 ∷ 0 ∷ 0 ∷ 0 ∷ 0 ∷ 0 ∷ 0 ∷ [] ≡ told_of s r
    unfolding flat_house flat_answer gauge_at
    refused_told n e = sym (of-family (Err n) e)

-- ---- writing

-- the record that the house writer has the plain one write
abbrev pub unknown200 : List ℕ
unknown200 = 21 ∷ 200 ∷ 0 ∷ 0 ∷ []

-- a struct whose offset is put back is as it was
moved_same : (p : List ℕ) → p ≡ moved_to p (at_of p)
moved_same [] = refl
moved_same (n ∷ ns) = refl

placed_at : (p : List ℕ) (f : AddressForm) → at_of p ≡ (placed p f).at
unfolding placed
placed_at p f = by (eqb (get_or p 2 0) 0)
  where
    by : (b : Bool) → at_of p ≡ (cond b (here f (at_of p)) (record { at = at_of p; form = f; pending = Some (record { start = get_or p 3 0; stated = get_or p 4 0; filled = get_or p 5 0 }) })).at
    by true = refl
    by false = refl

-- the number of a refused call is that of what a write call says
pub refused_number : (o : Option Open) (b : Bool) (r : Refusal)
    → by_open o (cond b 8 (number_of r)) (λ q. 18) ≡ verdict_number (unless_open o (cond b (Err Refusal.BeyondEnd) (Err r)))
unfolding verdict_number
refused_number None true r = refl
refused_number None false r = refl
refused_number (Some q) b r = refl

module _ (lent : ℕ) (d p bs : List ℕ) where
  pub plain_told : (g : Gauge) → gauge_of bs ≡ Ok g → (form : Option AddressForm)
      → (written_number lent p bs (given unknown200) form ≡ house_number lent p bs form)
      × ((written_place lent p bs (given unknown200) form ≡ house_left lent p bs form) × (written_bytes d p bs (given unknown200) form ≡ house_out d p bs form))
  unfolding given new_of fitting built built_meta written_number number_at written_place place_at written_bytes bytes_at house_number house_left house_out
  plain_told g e (Some f) =
      let w = plain-written (placed p f) bs g e lent in
      (ap (λ (x : Written). verdict_number x.verdict) w, (ap (λ (x : Written). moved_to p x.position.at) w, plain-bytes (placed p f) bs g e d))
  plain_told g e None = (refl, (refl, refl))

  pub refusal_told : (n : Refusal) → gauge_of bs ≡ Err n → (form : Option AddressForm)
      → (refusal_by lent p n form ≡ house_number lent p bs form) × ((p ≡ house_left lent p bs form) × (d ≡ house_out d p bs form))
  unfolding refusal_by house_number house_left house_out
  refusal_told n e (Some f) =
      let w = refused-written (placed p f) bs n e lent in (
        ap (λ (x : Written). verdict_number x.verdict) w,
        (moved_same p ∙ ap (moved_to p) (placed_at p f) ∙ ap (λ (x : Written). moved_to p x.position.at) w, refused-bytes (placed p f) bs n e d),
      )
  refusal_told n e None = (refl, (refl, refl))
