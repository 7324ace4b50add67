-- Parts of operations in progress: what an operation holds is its own while its children run, and what it is filled with stays.
use Rattle.std.specs.Prelude.{◌≡◌, ◌++◌, ℕ, All, List, Some, false, map}
use Rattle.std.specs.List.{Contains, flat_map}
use Rattle.region_finder.specs.Listings.{Listed}
use Rattle.region_tree.specs.Needs.{requirements_of}
use Rattle.region_tree.specs.Pieces.{Held}
use Rattle.region_tree.specs.Requirements.{Requirement, interfere}
use Rattle.region_tree.specs.declared.piece.Part.{Part}
use Rattle.region_tree.specs.declared.tree.OpNumber.{OpNumber}
use Rattle.logical_map.specs.Fills.{Filling, moved_pieces}
use Rattle.logical_map.specs.Maps.{column_of}
use Rattle.task_code.specs.declared.job.Job.{Job}
use Rattle.run_journal.specs.declared.entry.Entry.{Entry}
use Rattle.board_terms.specs.declared.claim.Claim.{Claim}
use Rattle.board_terms.specs.declared.operation.Activity.{Activity}
use Rattle.board_terms.specs.declared.operation.Activity.TheVariants as activity
use Rattle.board_terms.specs.declared.operation.Operation.{Operation}
use Rattle.board_terms.specs.Claims.{filled_parts, requirements_at}
use Rattle.board_terms.specs.Replays.{replay}
use Rattle.board_terms.specs.Stages.{is_over, stage_at}
use Rattle.board_terms.specs.States.{State, operation_at}
use Rattle.journal_progress.specs.Laws.{IsOfOwn}

-- what a piece of a part is held for
abbrev pub held_for : ℕ → ℕ → Held → Requirement
held_for root field h = record { root = root; points = h.points; field = field; mode = h.mode }

abbrev pub held_in : Part → List Requirement
held_in q = map (held_for q.root.0 q.field) q.pieces

-- the parts that an operation holds, with the one that it is being filled with
abbrev pub parts_with : List Part → Activity → List Part
parts_with qs (activity.Filling claim fill) = qs ++ filled_parts fill
parts_with qs (activity.Out claim before) = before.parts
parts_with qs _ = qs

abbrev pub parts_held : Operation → List Part
parts_held o = parts_with o.parts o.activity

-- Of every job, whatever steps the seats of its board make: what an operation holds, and what it is being filled with, doesn't
-- interfere with the needs with which its children that aren't over were issued, nor with whatever these need of roots that
-- they made themselves.
abbrev pub HeldPartsAreApart : Type 0
HeldPartsAreApart = (job : Job) (journal : List Entry) (s : State) → replay job journal ≡ Some s → (k : ℕ) →
    (x : Listed) → Contains s.waits.listing x → Contains (operation_at s k).children x.op → is_over (stage_at s x.op.0) ≡ false →
    (more : List Requirement) → All (IsOfOwn s x.op.0) more →
    interfere (flat_map held_in (parts_held (operation_at s k))) (requirements_of s.tree x.issued ++ more) ≡ false

-- So it doesn't interfere with what these children need now.
abbrev pub HeldPartsAreApartNow : Type 0
HeldPartsAreApartNow = (job : Job) (journal : List Entry) (s : State) → replay job journal ≡ Some s → (k : ℕ) →
    (c : OpNumber) → Contains (operation_at s k).children c → is_over (stage_at s c.0) ≡ false →
    interfere (flat_map held_in (parts_held (operation_at s k))) (requirements_at s (operation_at s c.0)) ≡ false

-- And while an operation is Filling, what was moved for it so far is what would be moved now: the map's number at each element
-- that is read or written, and the identity at each that is reduced.
abbrev pub MovedFromMap : Type 0
MovedFromMap = (job : Job) (journal : List Entry) (s : State) → replay job journal ≡ Some s →
    (k : ℕ) (claim : Claim) (fill : Filling) → (operation_at s k).activity ≡ activity.Filling claim (Some fill) →
    moved_pieces (column_of s.map fill.root fill.field) 0 fill.moved fill.pieces ≡ fill.pieces
