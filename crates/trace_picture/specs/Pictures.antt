-- The picture of a journal: a lane for each seat with a box for each segment, marks for copies and
-- for claims that are taken back, and a line that shows the number of operations in progress. Time
-- is the place in the journal, from 0.
use Rattle.std.specs.Prelude.{ℕ, ◌+◌, List, [], ◌∷◌, Bool, Option, Some, None, length, max, ◌==◌, ◌&&◌, if◌then◌else◌}
use Rattle.run_journal.specs.declared.entry.Entry.{Entry}
use Rattle.run_journal.specs.declared.entry.StepKind.{StepKind}
use Rattle.run_journal.specs.declared.entry.StepKind.TheVariants.{Back, Claim, Copy, Give}
use Rattle.trace_picture.specs.declared.boxes.Ending.{Ending}
use Rattle.trace_picture.specs.declared.boxes.Ending.TheVariants.{Given, TakenBack, Unended}
use Rattle.trace_picture.specs.declared.marks.MarkKind.{MarkKind}
use Rattle.trace_picture.specs.declared.marks.MarkKind.TheVariants as mark

-- ---- boxes

-- the segment that a claim begins: its operation and seat, the place of the claim, and how it ends
pub record Box : Type 0 where
  pub op : ℕ
  pub seat : ℕ
  pub begin : ℕ
  pub ending : Ending

-- the entry is of the same operation, by the same seat
abbrev pub is_same : Entry → Entry → Bool
is_same claim e = (e.op.0 == claim.op.0) && (e.seat == claim.seat)

-- an entry of a kind at a place ends the segment of its operation and seat
abbrev pub ending_at : ℕ → StepKind → Option Ending
ending_at place Give = Some (Given place)
ending_at place Back = Some (TakenBack place)
ending_at place Claim = None
ending_at place Copy = None

abbrev pub ended_by : Entry → ℕ → Entry → Option Ending
ended_by claim place e = if is_same claim e then ending_at place e.kind else None

abbrev pub or_else : Option Ending → Ending → Ending
or_else (Some ending) later = ending
or_else None later = later

-- the ending of a claim's segment: the first give or back of its operation and seat among the
-- entries from a place on
abbrev pub ending_of : Entry → ℕ → List Entry → Ending
ending_of claim place [] = Unended
ending_of claim place (e ∷ es) = or_else (ended_by claim place e) (ending_of claim (place + 1) es)

-- a claim has a segment, with this ending
abbrev pub segment_ending : StepKind → Ending → Option Ending
segment_ending Claim ending = Some ending
segment_ending Copy ending = None
segment_ending Give ending = None
segment_ending Back ending = None

abbrev pub with_box : Option Ending → ℕ → Entry → List Box → List Box
with_box None place e bs = bs
with_box (Some ending) place e bs =
    record { op = e.op.0; seat = e.seat; begin = place; ending = ending } ∷ bs

-- the boxes of the entries from a place on, one for each claim
abbrev pub boxes_from : ℕ → List Entry → List Box
boxes_from place [] = []
boxes_from place (e ∷ es) =
    with_box (segment_ending e.kind (ending_of e (place + 1) es)) place e (boxes_from (place + 1) es)

-- ---- marks

pub record Mark : Type 0 where
  pub kind : MarkKind
  pub op : ℕ
  pub seat : ℕ
  pub place : ℕ

abbrev pub mark_kind : StepKind → Option MarkKind
mark_kind Claim = None
mark_kind Copy = Some mark.Copy
mark_kind Give = None
mark_kind Back = Some mark.Back

abbrev pub with_mark : Option MarkKind → ℕ → Entry → List Mark → List Mark
with_mark None place e ms = ms
with_mark (Some kind) place e ms = record { kind = kind; op = e.op.0; seat = e.seat; place = place } ∷ ms

abbrev pub marks_from : ℕ → List Entry → List Mark
marks_from place [] = []
marks_from place (e ∷ es) = with_mark (mark_kind e.kind) place e (marks_from (place + 1) es)

-- ---- the number of operations in progress

-- the effect of an entry on it
pub data Step : Type 0 where
  rises : Step
  stays : Step
  falls : Step

abbrev pub step_of : StepKind → Step
step_of Claim = rises
step_of Copy = stays
step_of Give = falls
step_of Back = falls

abbrev pub steps_of : List Entry → List Step
steps_of [] = []
steps_of (e ∷ es) = step_of e.kind ∷ steps_of es

-- ---- the whole

-- one lane more than the greatest seat
abbrev pub lanes_of : List Entry → ℕ
lanes_of [] = 0
lanes_of (e ∷ es) = max (e.seat + 1) (lanes_of es)

pub record Picture : Type 0 where
  pub entries : ℕ
  pub lanes : ℕ
  pub boxes : List Box
  pub marks : List Mark
  pub steps : List Step

abbrev pub picture_of : List Entry → Picture
picture_of es = record {
  entries = length es;
  lanes = lanes_of es;
  boxes = boxes_from 0 es;
  marks = marks_from 0 es;
  steps = steps_of es;
}
