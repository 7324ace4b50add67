-- Properties of the picture of every journal.
use Rattle.std.specs.Prelude.{◌≡◌, ◌+◌, ◌<◌, ◌⊎◌, All, ℕ, List, [], ◌∷◌, Bool, true, false, Option, Some, None, cond, count_by, map, slice_get, take, ◌==◌}
use Rattle.run_journal.specs.declared.entry.Entry.{Entry}
use Rattle.run_journal.specs.declared.entry.StepKind.{StepKind}
use Rattle.run_journal.specs.declared.entry.StepKind.TheVariants.{Back, Claim, Copy, Give}
use Rattle.trace_picture.specs.declared.boxes.Ending.{Ending}
use Rattle.trace_picture.specs.declared.boxes.Ending.TheVariants.{Given, TakenBack, Unended}
use Rattle.trace_picture.specs.declared.marks.MarkKind.{MarkKind}
use Rattle.trace_picture.specs.declared.marks.MarkKind.TheVariants as mark
use Rattle.trace_picture.specs.Pictures.{Box, Mark, Step, boxes_from, falls, lanes_of, marks_from, rises, stays, steps_of}

-- ---- kinds

abbrev pub is_claim : StepKind → Bool
is_claim Claim = true
is_claim Copy = false
is_claim Give = false
is_claim Back = false

abbrev pub is_marked : StepKind → Bool
is_marked Claim = false
is_marked Copy = true
is_marked Give = false
is_marked Back = true

abbrev pub is_ending : StepKind → Bool
is_ending Claim = false
is_ending Copy = false
is_ending Give = true
is_ending Back = true

-- one if there is an entry of such a kind, else none
abbrev pub count_at : (StepKind → Bool) → Option Entry → ℕ
count_at P None = 0
count_at P (Some e) = cond (P e.kind) 1 0

-- ---- boxes

-- the number of boxes that begin at a place
abbrev pub begins_at : ℕ → List Box → ℕ
begins_at place bs = count_by (λ b. b.begin == place) bs

-- at the place of a claim one box begins, and none at any other
abbrev pub EachClaimHasOneBox : Type 0
EachClaimHasOneBox = (es : List Entry) (place : ℕ) → begins_at place (boxes_from 0 es) ≡ count_at is_claim (slice_get es place)

-- the places of the claims among entries from a place on, in order
abbrev pub with_place : Bool → ℕ → List ℕ → List ℕ
with_place true place places = place ∷ places
with_place false place places = places

abbrev pub claims_from : ℕ → List Entry → List ℕ
claims_from place [] = []
claims_from place (e ∷ es) = with_place (is_claim e.kind) place (claims_from (place + 1) es)

-- boxes come in the order of their claims
abbrev pub BoxesAreInOrder : Type 0
BoxesAreInOrder = (es : List Entry) → map (λ b. b.begin) (boxes_from 0 es) ≡ claims_from 0 es

-- an entry of this kind, of the box's operation and by its seat
abbrev pub entry_of : StepKind → Box → Entry
entry_of kind b = record { kind = kind; op = record { 0 = b.op }; seat = b.seat }

-- such a give or back is at a place
abbrev pub IsEndAt : List Entry → Box → ℕ → Type 0
IsEndAt es b place = (slice_get es place ≡ Some (entry_of Give b)) ⊎ (slice_get es place ≡ Some (entry_of Back b))

-- an entry of this kind is at a place after the claim, with no give or back in between
pub record IsFirstEnd (es : List Entry) (b : Box) (kind : StepKind) (place : ℕ) : Type 0 where
  pub behind : b.begin < place
  pub there : slice_get es place ≡ Some (entry_of kind b)
  pub first : (n : ℕ) → b.begin < n → n < place → ¬ IsEndAt es b n

abbrev pub EndsSo : List Entry → Box → Ending → Type 0
EndsSo es b (Given place) = IsFirstEnd es b Give place
EndsSo es b (TakenBack place) = IsFirstEnd es b Back place
EndsSo es b Unended = (n : ℕ) → b.begin < n → ¬ IsEndAt es b n

-- a box begins at a claim of its operation by its seat, and ends at the first give or back of these
-- after it
pub record IsBoxOf (es : List Entry) (b : Box) : Type 0 where
  pub claim : slice_get es b.begin ≡ Some (entry_of Claim b)
  pub ending : EndsSo es b b.ending

abbrev pub BoxesTellSegments : Type 0
BoxesTellSegments = (es : List Entry) → All (IsBoxOf es) (boxes_from 0 es)

-- ---- marks

abbrev pub stands_at : ℕ → List Mark → ℕ
stands_at place ms = count_by (λ m. m.place == place) ms

-- at the place of a copy or a back there is one mark, and none at any other
abbrev pub EachMarkedEntryHasOneMark : Type 0
EachMarkedEntryHasOneMark = (es : List Entry) (place : ℕ) →
    stands_at place (marks_from 0 es) ≡ count_at is_marked (slice_get es place)

abbrev pub kind_marked : MarkKind → StepKind
kind_marked mark.Copy = Copy
kind_marked mark.Back = Back

-- a mark has the entry at its place
abbrev pub IsMarkOf : List Entry → Mark → Type 0
IsMarkOf es m = slice_get es m.place ≡ Some (record { kind = kind_marked m.kind; op = record { 0 = m.op }; seat = m.seat })

abbrev pub MarksTellEntries : Type 0
MarksTellEntries = (es : List Entry) → All (IsMarkOf es) (marks_from 0 es)

-- ---- lanes and line

abbrev pub EachBoxHasALane : Type 0
EachBoxHasALane = (es : List Entry) → All (λ b. b.seat < lanes_of es) (boxes_from 0 es)

abbrev pub is_rise : Step → Bool
is_rise rises = true
is_rise stays = false
is_rise falls = false

abbrev pub is_fall : Step → Bool
is_fall rises = false
is_fall stays = false
is_fall falls = true

-- the line rises as often as operations were claimed, and falls as often as they were given or taken back
pub record LineTellsProgress : Type 0 where
  pub up : (es : List Entry) (n : ℕ) → count_by is_rise (take n (steps_of es)) ≡ count_by (λ e. is_claim e.kind) (take n es)
  pub down : (es : List Entry) (n : ℕ) → count_by is_fall (take n (steps_of es)) ≡ count_by (λ e. is_ending e.kind) (take n es)
