-- The board's view of frames, parts and what a segment gives: a root is a number that tells its field
-- space and its size, a region has no node, and parts are lists of elements.
use Rattle.std.specs.Prelude.{ℕ, suc, ℤ, pos, List, [], ◌∷◌, ◌++◌, cond, Option, Some, None, get_or, slice_get, replicate, length, map, nat_lt, nat_le, ◌-◌, true, false}
use Rattle.lane_kernels.specs.declared.numbers.Mode.{Mode as FieldMode}
use Rattle.lane_kernels.specs.declared.numbers.Mode.TheVariants.{Read, Reduce, Write}
use Rattle.region_tree.specs.declared.needs.Need.{Need}
use Rattle.region_tree.specs.declared.piece.Part.{Part}
use Rattle.region_tree.specs.declared.tree.RootId.{RootId}
use Rattle.region_tree.specs.Pieces.{Held}
use Rattle.region_tree.specs.Requirements.{Requirement, same_mode}
use Rattle.task_code.specs.declared.code.Code.{Code}
use Rattle.task_code.specs.declared.code.FieldCode.{FieldCode}
use Rattle.task_code.specs.declared.code.NeedCode.{NeedCode}
use Rattle.task_code.specs.declared.code.SpaceCode.{SpaceCode}
use Rattle.task_code.specs.declared.code.TaskCode.{TaskCode}
use Rattle.machine_terms.specs.declared.frame.Before.{Before}
use Rattle.machine_terms.specs.declared.frame.Frame.{Frame}
use Rattle.machine_terms.specs.declared.outcome.After.{After}
use Rattle.machine_terms.specs.declared.outcome.CallOut.{CallOut}
use Rattle.machine_terms.specs.declared.outcome.Made.{Made}
use Rattle.machine_terms.specs.declared.outcome.Made.TheVariants as made
use Rattle.machine_terms.specs.declared.outcome.Yield.{Yield}
use Rattle.machine_terms.specs.declared.outcome.Yield.TheVariants as yield
use Rattle.machine_terms.specs.declared.value.RegionValue.{RegionValue}
use Rattle.machine_terms.specs.declared.value.Value.{Value}
use Rattle.machine_terms.specs.declared.value.Value.TheVariants as value
use Rattle.machine_terms.specs.Parts.{is_part_of}
use Rattle.machine_terms.specs.Segments.{segment}
use Rattle.board_rules.specs.Ground.{Mode, reads, reduces, writes}
use Rattle.board_rules.specs.Running.{After as BoardAfter, Call, Element, Yield as BoardYield, await, calls, ends, make, stops, want}
use Rattle.regent_boards.specs.RegentMachine.{answer_with, kind_of, kinds_of, regent_ground}
use Rattle.regent_boards.specs.Frames.{Spaces}
use Rattle.regent_boards.specs.Frames as board

-- ---- code

-- the kinds of the fields of each field space
abbrev pub spaces_of : Code → Spaces
spaces_of code = map (λ (s : SpaceCode). map (λ (f : FieldCode). f.kind) s.fields) code.spaces

-- ---- frames: into the machine

-- a region has node 0
abbrev pub region_in : board.Region → RegionValue
region_in r = record { root = record { 0 = r.root }; node = record { 0 = 0 }; points = r.points }

abbrev pub value_in : board.Value → Value
value_in (board.a_number z) = value.Number z
value_in (board.a_space n) = value.Space n
value_in (board.a_region r) = value.Region (region_in r)
value_in (board.a_partition p) = value.Partition (record {
  root = record { 0 = p.root };
  disjoint = p.disjoint;
  children = map region_in p.children;
})
value_in (board.pending i) = value.Pending i

abbrev pub need_in : Requirement → Need
need_in r = record { root = record { 0 = r.root }; node = record { 0 = 0 }; field = r.field; mode = r.mode }

-- what is needed of no points isn't needed
abbrev pub needs_in : List Requirement → List Need
needs_in [] = []
needs_in (r ∷ rs) = cond (nat_lt 0 (length r.points)) (need_in r ∷ needs_in rs) (needs_in rs)

abbrev pub root_in : ℕ → RootId
root_in r = record { 0 = r }

abbrev pub frame_in : board.Frame → Frame
frame_in f = record {
  task = f.task;
  pc = f.pc;
  slots = map value_in f.slots;
  stack = map value_in f.stack;
  turns = f.turns;
  depth = f.depth;
  needs = record { items = needs_in f.needs };
  own = map root_in f.own;
  children = f.children;
  later = f.later;
}

-- ---- and back

abbrev pub region_out : RegionValue → board.Region
region_out r = record { root = r.root.0; points = r.points }

abbrev pub value_out : Value → board.Value
value_out (value.Number z) = board.a_number z
value_out (value.Space n) = board.a_space n
value_out (value.Region r) = board.a_region (region_out r)
value_out (value.Partition p) = board.a_partition (record { root = p.root.0; disjoint = p.disjoint; children = map region_out p.children })
value_out (value.Pending i) = board.pending i

-- What a segment never changes is that of the frame from which it ran: a need of the machine tells no
-- points.
abbrev pub frame_out : board.Frame → Frame → board.Frame
frame_out g f = record {
  task = g.task;
  pc = f.pc;
  slots = map value_out f.slots;
  stack = map value_out f.stack;
  turns = f.turns;
  depth = f.depth;
  needs = g.needs;
  own = g.own;
  makings = g.makings;
  children = f.children;
  later = f.later;
}

-- an instance that ended has the frame from which it ran; nothing looks at it
abbrev pub last_frame : board.Frame → Option Frame → board.Frame
last_frame g None = g
last_frame g (Some f) = frame_out g f

abbrev pub made_out : Made → board.Made
made_out (made.Root size space) = board.new_root space size
made_out (made.Partition r sets disjoint) =
    board.new_partition (region_out r) sets disjoint

module _ (code : Code) where
  -- ---- parts

  abbrev pub mode_in : Mode board.OpAt → FieldMode
  mode_in reads = Read
  mode_in writes = Write
  mode_in (reduces o) = Reduce o.op

  abbrev pub piece_with : FieldMode → ℕ → ℤ → Held
  piece_with m p z = record { points = p ∷ []; mode = m; values = z ∷ [] }

  -- Elements that follow one another in one mode are a piece, and those of one field of a root a part.
  abbrev pub onto_pieces : FieldMode → ℕ → ℤ → List Held → List Held
  onto_pieces m p z [] = piece_with m p z ∷ []
  onto_pieces m p z (h ∷ hs) = cond (same_mode m h.mode)
      (record { points = p ∷ h.points; mode = h.mode; values = z ∷ h.values } ∷ hs)
      (piece_with m p z ∷ h ∷ hs)

  abbrev pub part_with : ℕ → ℕ → List Held → Part
  part_with root field hs =
      record { root = record { 0 = root }; field = field; kind = kind_of (spaces_of code) root field; pieces = hs }

  abbrev pub onto_parts : ℕ → ℕ → FieldMode → ℕ → ℤ → List Part → List Part
  onto_parts root field m p z [] = part_with root field (piece_with m p z ∷ []) ∷ []
  onto_parts root field m p z (q ∷ qs) = cond (is_part_of root field q)
      (record { root = q.root; field = q.field; kind = q.kind; pieces = onto_pieces m p z q.pieces } ∷ qs)
      (part_with root field (piece_with m p z ∷ []) ∷ q ∷ qs)

  abbrev pub parts_in : List (Element (regent_ground (spaces_of code))) → List Part
  parts_in [] = []
  parts_in (x ∷ xs) =
      onto_parts x.location.root x.location.field (mode_in x.mode) x.location.point x.number (parts_in xs)

  -- the numbers of parts, in order
  abbrev pub numbers_in_pieces : List Held → List ℤ
  numbers_in_pieces [] = []
  numbers_in_pieces (h ∷ hs) = h.values ++ numbers_in_pieces hs

  abbrev pub numbers_in_parts : List Part → List ℤ
  numbers_in_parts [] = []
  numbers_in_parts (q ∷ qs) = numbers_in_pieces q.pieces ++ numbers_in_parts qs

  -- elements with other numbers
  abbrev pub with_numbers :
      List (Element (regent_ground (spaces_of code))) → List ℤ → List (Element (regent_ground (spaces_of code)))
  with_numbers [] zs = []
  with_numbers (x ∷ xs) [] = x ∷ xs
  with_numbers (x ∷ xs) (z ∷ zs) = record x { number = z } ∷ with_numbers xs zs

  -- ---- calls

  abbrev pub and_all : {A : Type 0} → Option A → Option (List A) → Option (List A)
  and_all (Some a) (Some rest) = Some (a ∷ rest)
  and_all _ _ = None

  -- None where a parameter is no region, or its root has no such field
  abbrev pub required : NeedCode → board.Value → Option Requirement
  required n (board.a_region r) = cond (nat_lt n.field (length (kinds_of (spaces_of code) r.root)))
      (Some (record { root = r.root; points = r.points; field = n.field; mode = n.mode })) None
  required n _ = None

  abbrev pub required_all : List NeedCode → List board.Value → Option (List Requirement)
  required_all [] vs = Some []
  required_all (n ∷ ns) vs =
      and_all (required n (get_or vs n.param (board.a_number (pos 0)))) (required_all ns vs)

  abbrev pub opening_with :
      ℕ → ℕ → ℕ → ℕ → List board.Value → List Requirement → Call (regent_ground (spaces_of code))
  opening_with turns depth task slots vs needs = record {
    may = true;
    needs = needs;
    frame = record {
      task = task;
      pc = 0;
      slots = vs ++ replicate (slots - length vs) (board.a_number (pos 0));
      stack = [];
      turns = turns;
      depth = suc depth;
      needs = needs;
      own = [];
      makings = [];
      children = 0;
      later = None;
    };
  }

  -- a call that can't be made
  abbrev pub refused : Call (regent_ground (spaces_of code))
  refused = record (opening_with 0 0 0 0 [] []) { may = false }

  abbrev pub opened_with :
      ℕ → ℕ → ℕ → ℕ → List board.Value → Option (List Requirement) → Call (regent_ground (spaces_of code))
  opened_with turns depth task slots vs (Some needs) = opening_with turns depth task slots vs needs
  opened_with turns depth task slots vs None = refused

  abbrev pub called_with :
      ℕ → ℕ → ℕ → List board.Value → Option TaskCode → Call (regent_ground (spaces_of code))
  called_with turns depth task vs None = refused
  called_with turns depth task vs (Some t) = cond (nat_le (length vs) t.slots)
      (opened_with turns depth task t.slots vs (required_all t.needs vs)) refused

  abbrev pub called : ℕ → ℕ → CallOut → Call (regent_ground (spaces_of code))
  called turns depth c =
      called_with turns depth c.task (map value_out c.args) (slice_get code.tasks c.task)

  -- ---- what a segment gives

  -- behind the frame from which it ran
  abbrev pub yield_out : ℕ → board.Frame → Yield → BoardYield (regent_ground (spaces_of code))
  yield_out turns f (yield.Calls cs) = calls (map (called turns f.depth) cs)
  yield_out turns f (yield.Want r k) = want (record { root = r.0; field = k })
  yield_out turns f (yield.Await i) = await i
  yield_out turns f (yield.Make d) = make (made_out d)
  yield_out turns f (yield.End v) = ends (answer_with f v)
  yield_out turns f (yield.Fault x) = stops (board.faults_at x)
  yield_out turns f yield.MachineFault = stops board.broken

  abbrev pub after_out :
      ℕ → board.Frame → List (Element (regent_ground (spaces_of code))) → After → BoardAfter (regent_ground (spaces_of code))
  after_out turns f ps a = record {
    text = a.text;
    frame = last_frame f a.frame;
    parts = with_numbers ps (numbers_in_parts a.parts);
    yields = yield_out turns f a.ends;
  }

  abbrev pub before_in : board.Frame → List (Element (regent_ground (spaces_of code))) → Before
  before_in f ps = record { code = code; frame = frame_in f; parts = parts_in ps }

  -- the segment of the code, as the board sees it; each task instance begins with so many turns
  abbrev pub board_segment :
      ℕ → board.Frame → List (Element (regent_ground (spaces_of code))) → BoardAfter (regent_ground (spaces_of code))
  board_segment turns f ps = after_out turns f ps (segment (before_in f ps))
