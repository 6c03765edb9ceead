-- Laws of what is listed from an offset on: the line of what is there, and what is listed after it. A record's line is of a record that
-- starts at the offset, has bytes, and ends within the trace. Assumes nothing.
use Rattle.std.specs.Prelude.{Option, Some, None}
use mathlib.Core.Path.{◌≡◌, refl, sym, ap, subst, ◌∙◌}
use mathlib.Core.Logic.{◌⊎◌, inl, inr}
use mathlib.Core.Bool.{Bool, true, false, cond, false≢true}
use mathlib.Core.List.{List, [], ◌++◌, append_assoc}
use Prim.Native.Nat.{ℕ, suc, ◌+◌, ◌-◌, ◌≤◌, ◌<◌}
use native.Mathlib.Omega.{arith}
use lib.ListN.{length}
use Rattle.frames.specs.declared.read.Part.{Part}
use Rattle.frames.specs.declared.refusal.Refusal.{Refusal}
use Rattle.records.specs.declared.address.AddressForm.{AddressForm}
use Rattle.records.specs.declared.position.Answer.{Answer}
use Rattle.records.specs.declared.position.Answer.TheVariants as answer
use Rattle.records.specs.declared.position.Position.{Position}
use Rattle.records.specs.declared.position.Reading.{Reading}
use Rattle.records.specs.declared.position.Found.{Found}
use Rattle.records.specs.Positions.{here, found_in, framed_in, read_next}
use Rattle.records.proofs.AheadLaws.{Ahead, next-ahead}
use Rattle.records.proofs.PlaceLaws.{handed, next_place, next_formed}
use Rattle.walk.specs.Walks.{seen, frames, readings, forth}
use Rattle.walk.proofs.CompleteLaws.{next-same}
use Rattle.tracelist.specs.declared.line.Line.{Line}
use Rattle.tracelist.specs.declared.line.Line.TheVariants as line
use Rattle.tracelist.specs.Listing.{record_line, line_as, line_of, line_text, lines_text, listing}
use Rattle.tracelist.specs.Inner.{listed_from}

-- where a call reads
abbrev from : ℕ → Position
from at = here AddressForm.Le64 at

-- where it leaves the position
abbrev place : ℕ → Answer → ℕ
place at a = (handed (λ (q : Part). q.end) (from at) a).at

-- ---- the line, by the answer

-- where no record is framed, the position that a call hands back is the one that it was handed
kept : (s : List ℕ) (at : ℕ) (a : Answer) → line_as s (place at a) a ≡ line_as s at a
unfolding line_as handed
kept s at (answer.Shown r q) = refl
kept s at (answer.RefusedAt n q) = refl
kept s at (answer.Refused n) = refl
kept s at answer.Finished = refl
kept s at (answer.Unfinished n) = refl

pub line-next : (s : List ℕ) (at : ℕ) → line_of s (read_next s (from at)) ≡ line_as s at (read_next s (from at)).answer
unfolding line_of
line-next s at =
    ap (λ (p : Position). line_as s p.at (read_next s (from at)).answer) (next_place s (from at))
    ∙ kept s at (read_next s (from at)).answer

-- the answer by offsets, as the program gets it
module _ (s : List ℕ) (at : ℕ) (found : Found) (e : found ≡ found_in (read_next s (from at))) (a : Answer) (is : found.answer ≡ a) where
  answer_is : (read_next s (from at)).answer ≡ a
  unfolding found_in
  answer_is = ap (λ (x : Found). x.answer) (sym e) ∙ is

  pub line_found : line_as s at a ≡ line_of s (read_next s (from at))
  line_found = sym (line-next s at ∙ ap (line_as s at) answer_is)

  -- a framed record has bytes, and lies in the trace
  pub part_found : Ahead s at a
  part_found = subst (Ahead s at) answer_is (next-ahead s (from at))

-- ---- what is listed

-- a framed record moves the position on, within the trace
moves_as : (s : List ℕ) (at : ℕ) (a : Answer) → Ahead s at a → frames (framed_in a) ≡ true → (at < place at a) × (place at a ≤ length s)
unfolding Ahead framed_in frames handed
moves_as s at (answer.Shown r q) h e = (h.1, h.2)
moves_as s at (answer.RefusedAt n q) h e = (h.1, h.2)
moves_as s at (answer.Refused n) h e = absurd (false≢true e)
moves_as s at answer.Finished h e = absurd (false≢true e)
moves_as s at (answer.Unfinished n) h e = absurd (false≢true e)

moves : (s : List ℕ) (at : ℕ) → let r = read_next s (from at) in frames (seen r) ≡ true → (at < r.position.at) × (r.position.at ≤ length s)
moves s at e =
    subst (λ (p : Position). (at < p.at) × (p.at ≤ length s)) (sym (next_place s (from at)))
    (moves_as s at (read_next s (from at)).answer (next-ahead s (from at)) e)

-- what is listed after a call, if the listing goes on
abbrev behind : List ℕ → ℕ → Bool → List ℕ
behind s at go = cond go (listed_from s at) []

listed_after : (s : List ℕ) (at : ℕ) (go : Bool)
    → let r = read_next s (from at) in
    frames (seen r) ≡ go
    → lines_text s (cond go (readings (read_next s) (length s) r.position) []) ≡ behind s r.position.at go
unfolding lines_text listed_from
listed_after s at false e = refl
listed_after s at true e =
    let g = moves s at e in
    let to : ℕ = (read_next s (from at)).position.at in
    ap (λ (p : Position). lines_text s (readings (read_next s) (length s) p)) (next_formed s (from at))
    ∙ ap (lines_text s) (next-same AddressForm.Le64 s to (length s) (suc (length s)) g.1 (omega (arith, g.0, g.1)) (omega arith))

-- what is listed is the line of what is at the offset, and what is listed after it
listed_next : (s : List ℕ) (at : ℕ)
    → let r = read_next s (from at) in
    listed_from s at ≡ line_text (line_of s r) ++ behind s r.position.at (frames (seen r))
unfolding listed_from readings lines_text
listed_next s at =
    let r : Reading = read_next s (from at) in
    ap (λ (t : List ℕ). line_text (line_of s r) ++ t) (listed_after s at (frames (seen r)) refl)

-- the whole listing is what is listed from the first byte on
pub listed_first : (s : List ℕ) → listing s ≡ listed_from s 0
unfolding listing forth listed_from
listed_first s = refl

-- ---- by the line

-- a line and what is listed after it are what is listed from the offset on
unfoldable pub Runs : List ℕ → ℕ → Line → Type 0
Runs s at (line.Record start size kind refusal) =
    (start ≡ at) × (0 < size) × (start + size ≤ length s)
    × (listed_from s at ≡ line_text (Line.Record start size kind refusal) ++ listed_from s (start + size))
Runs s at (line.End end) = listed_from s at ≡ line_text (Line.End end) ++ []
Runs s at (line.Unfinished start wanted) = listed_from s at ≡ line_text (Line.Unfinished start wanted) ++ []

-- a record that lies from one offset up to another
runs_record : (s : List ℕ) (at : ℕ) (refusal : Option Refusal) (q : Part) → (q.start ≡ at) × (at < q.end) × (q.end ≤ length s)
    → listed_from s at ≡ line_text (record_line s q refusal) ++ listed_from s q.end
    → Runs s at (record_line s q refusal)
unfolding Runs record_line
runs_record s at refusal q h e =
    let ends : q.end ≡ q.start + (q.end - q.start) = omega (arith, h.0, h.1) in
    (h.0, omega (arith, h.0, h.1), omega (arith, h.0, h.1, h.2), e ∙ ap (λ (n : ℕ). line_text (record_line s q refusal) ++ listed_from s n) ends)

runs_as : (s : List ℕ) (at : ℕ) (a : Answer) → Ahead s at a
    → listed_from s at ≡ line_text (line_as s at a) ++ behind s (place at a) (frames (framed_in a))
    → Runs s at (line_as s at a)
unfolding Runs line_as Ahead framed_in frames handed
runs_as s at (answer.Shown r q) h e = runs_record s at None q h e
runs_as s at (answer.RefusedAt r q) h e = runs_record s at (Some r) q h e
runs_as s at (answer.Refused n) h e = e
runs_as s at answer.Finished h e = e
runs_as s at (answer.Unfinished n) h e = e

line_runs : (s : List ℕ) (at : ℕ) → Runs s at (line_of s (read_next s (from at)))
line_runs s at =
    let r : Reading = read_next s (from at) in
    let e = listed_next s at ∙ ap (λ (p : Position). line_text (line_of s r) ++ behind s p.at (frames (seen r))) (next_place s (from at)) in
    rw line-next (runs_as s at r.answer (next-ahead s (from at)) (rw line-next at e))

-- the same of a line that is known to be the one at the offset
pub line_is : (s : List ℕ) (at : ℕ) {l m : Line} → l ≡ line_of s (read_next s (from at)) → l ≡ m → Runs s at m
line_is s at e f = subst (Runs s at) (sym e ∙ f) (line_runs s at)

-- a line after which nothing is listed
pub last_line : (s : List ℕ) (at : ℕ) {l : Line} → l ≡ line_of s (read_next s (from at))
    → ((x : ℕ) × (l ≡ Line.End x)) ⊎ ((x : ℕ) × (y : ℕ) × (l ≡ Line.Unfinished x y))
    → listed_from s at ≡ line_text l ++ []
unfolding Runs
last_line s at e (inl p) = subst (λ (m : Line). listed_from s at ≡ line_text m ++ []) (sym p.1) (line_is s at e p.1)
last_line s at e (inr p) = subst (λ (m : Line). listed_from s at ≡ line_text m ++ []) (sym p.2) (line_is s at e p.2)

-- a line put after a text is taken from what is left to list
pub put_listed : (text line after : List ℕ) {new whole : List ℕ} → new ≡ text ++ line → whole ≡ line ++ after → new ++ after ≡ text ++ whole
put_listed text line after e w = rw (e, w) (append_assoc text line after)
