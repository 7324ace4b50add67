-- Where code stands, and how an instance agrees with a state of the meaning.
use Rattle.std.specs.Prelude.{◌≡◌, ℕ, suc, ◌+◌, ◌^◌, ◌<◌, ◌≤◌, ℤ, pos, false, true, List, [], ◌∷◌, map, length, Option, None, Some, get_or, nat_le, slice_get, take, Bool}
use Rattle.std.specs.List.{Contains}
use Rattle.plain_values.specs.Points.{IsPoints, has}
use Rattle.lane_kernels.specs.Numbers.{FitsWidth}
use Rattle.lane_kernels.specs.declared.numbers.Width.TheVariants.{W64}
use Rattle.lane_kernels.specs.declared.numbers.Width.{Width}
use Rattle.index_launch.specs.declared.points.LaunchArg.{LaunchArg}
use Rattle.task_code.specs.declared.code.Line.{Line}
use Rattle.task_code.specs.declared.instr.Instr.TheVariants as instr
use Rattle.region_tree.specs.declared.tree.RootId.{RootId}
use Rattle.regent_tree.specs.declared.typing.Bound.{Bound}
use Rattle.regent_tree.specs.declared.typing.StaticType.{StaticType}
use Rattle.regent_tree.specs.declared.typing.StaticType.TheVariants.{Integer as integer_type, Truth as truth_type, Index as index_type, Pointer as pointer_type, Ispace as ispace_type, Region as region_type, Partition as partition_type}
use Rattle.regent_tree.specs.declared.types.Kind.{Kind}
use Rattle.regent_tree.specs.declared.facts.Colour.{Colour}
use Rattle.regent_tree.specs.declared.facts.Term.{Term}
use Rattle.regent_tree.specs.declared.facts.Term.TheVariants as term
use Rattle.regent_tree.specs.StaticTypes.{Reach, spaces_of, task_named}
use Rattle.regent_tree.specs.Store.{Store, Touch, column, no_root}
use Rattle.regent_tree.specs.Values.{Target, Region, Partition, Value, a_number, a_truth, an_index, a_pointer, a_space, a_region, a_partition, kept_number, regions_of}
use Rattle.regent_tree.specs.Running.{State, Here, Called, Calls, Result, broke, came_back, gives, fails}
use Rattle.regent_tree.specs.Execution.{Going, goes_on, returned}
use Rattle.machine_terms.specs.declared.order.Ended.{Ended}
use Rattle.machine_terms.specs.declared.order.Ended.TheVariants.{Broke, CameBack}
use Rattle.machine_terms.specs.declared.order.Instance.{Instance}
use Rattle.machine_terms.specs.declared.value.Value.{Value as MachineValue}
use Rattle.machine_terms.specs.declared.value.Value.TheVariants as machine
use Rattle.machine_terms.specs.declared.order.Contents.{Contents}
use Rattle.machine_terms.specs.Contents.{kinds_of}
use Rattle.machine_terms.specs.Calls.{is_pending}
use Rattle.machine_terms.specs.declared.frame.Frame.{Frame}
use Rattle.machine_terms.specs.Copies.{give_parts}
use Rattle.machine_terms.specs.Jumps.{fetch}
use Rattle.machine_terms.specs.Makes.{region_with}
use Rattle.machine_terms.specs.Orders.{begun, result_of}
use Rattle.value_laws.specs.Shapes.{IsPosition, KeepsNumbers}
use Rattle.code_laws.specs.Pointers.{ArePointed, HasZero, IsCutIn, IsOfName, AllGoToParams}
use Rattle.code_laws.specs.Simple.{IsRegion, IsSimple, term_in}
use Rattle.code_rules.specs.Instructions.{place_of_task, tasks_of}
use Rattle.machine_terms.specs.Opening.{opening, requirements_on}
use Rattle.region_tree.specs.Requirements.{Requirement}
use Rattle.task_code.specs.declared.code.NeedCode.{NeedCode}
use Rattle.regent_tree.specs.Laws.{SameRoots}
use Rattle.regent_tree.specs.Accesses.{space_in}
use Rattle.regent_tree.specs.Scopes.{bound_as, scope_of}
use Rattle.regent_tree.specs.Syntax.{Name, Tree}
use Rattle.regent_tree.specs.Typing.{param_types, reaches_of, result_type}
use Rattle.regent_tree.specs.declared.outcome.Fault.{Fault}
use Rattle.regent_tree.specs.declared.outcome.FaultKind.TheVariants.{Depth}
use Rattle.task_code.specs.declared.code.Code.{Code}
use Rattle.code_rules.specs.Pieces.{Piece, empty, op, ◌⨟◌, over, branch, loop, rounds, past, line_of}
use Rattle.code_rules.specs.Programs.{code_of, space_code, task_code}
use Rattle.code_rules.specs.Slots.{Where, slot, counter, beside, spare}
use Rattle.code_rules.specs.Used.{slots_used}
use Rattle.memory_laws.specs.Closing.{AreOwn}
use Rattle.memory_laws.specs.Covering.{AreCovered}
use Rattle.memory_laws.specs.Memory.{Holds, Memory, StandFor, memory_of}
use Rattle.memory_laws.specs.Places.{number_at, numbers}
use Rattle.run_report.specs.Dumps.{is_of_space}
use Rattle.code_laws.specs.Coloured.{IsPieced}
use Rattle.code_laws.specs.Steps.{Setting, Taking, placed, Leads, Ends}
use Rattle.code_laws.specs.Taking.{AreParts, IsHad, IsSubregion, given_region, is_asked, needs_taken, pairs_in, pairs_taken}

-- a piece stands in a body at a place
abbrev pub Stands : List Line → ℕ → Piece → Type 0
Stands body pc empty = Unit {0}
Stands body pc (op i line) = fetch body pc ≡ Some (line_of i line)
Stands body pc (a ⨟ b) = Stands body pc a × Stands body (past a pc) b
Stands body pc (over k line a) =
    (fetch body pc ≡ Some (line_of (k (past a (suc pc))) line)) × Stands body (suc pc) a
Stands body pc (branch line a b) =
    (fetch body pc ≡ Some (line_of (instr.JumpIfNot (suc (past a (suc pc)))) line))
    × Stands body (suc pc) a
    × (fetch body (past a (suc pc))
    ≡ Some (line_of (instr.Jump (past (branch line a b) pc)) line))
    × Stands body (suc (past a (suc pc))) b
Stands body pc (loop line test a) =
    (fetch body pc ≡ Some (line_of (instr.Jump (past a (suc (suc pc)))) line))
    × (fetch body (suc pc) ≡ Some (line_of instr.Turn line))
    × Stands body (suc (suc pc)) a
    × Stands body (past a (suc (suc pc))) test
    × (fetch body (past test (past a (suc (suc pc))))
    ≡ Some (line_of (instr.JumpIfNot (past (loop line test a) pc)) line))
    × (fetch body (suc (past test (past a (suc (suc pc)))))
    ≡ Some (line_of (instr.Jump (suc pc)) line))
Stands body pc (rounds k line a) =
    (fetch body pc ≡ Some (line_of (k (past (rounds k line a) pc)) line))
    × Stands body (suc pc) a
    × (fetch body (past a (suc pc)) ≡ Some (line_of (instr.Jump pc) line))

-- What the machine has for a value. A root is named by its number, and by its place in the meaning; in a
-- run in order regions have no node.
abbrev pub machine_value : Contents → Value → MachineValue
machine_value contents (a_space n) = machine.Space n
machine_value contents (a_region r) = machine.Region (region_with (number_at contents r.root) r.points)
machine_value contents (a_partition p) = machine.Partition (record {
  root = record { 0 = number_at contents p.root };
  disjoint = p.disjoint;
  children = map (region_with (number_at contents p.root)) p.sets;
})
machine_value contents v = machine.Number (kept_number v)

-- a value is of a static type; numbers and indices fit, and no index space is too large
pub data IsOf : StaticType → Value → Type 0 where
  of_integer : (w : Width) (z : ℤ) → FitsWidth w z → IsOf (integer_type w) (a_number w z)
  of_truth : (b : Bool) → IsOf truth_type (a_truth b)
  of_index : (k : Kind) (z : ℤ) → FitsWidth W64 z → IsOf (index_type k) (an_index z)
  of_pointer : (k : Kind) (sp : ℕ) (args rs : List Reach) (t : Target) (regions : List Region) → IsPosition (length rs) t →
      IsOf (pointer_type k sp args rs) (a_pointer t regions)
  of_space : (k : Kind) (n : ℕ) → n ≤ 4194304 → IsOf (ispace_type k) (a_space n)
  of_region : (k : Kind) (sp : ℕ) (args : List Reach) (r : Term) (q : Region) →
      IsOf (region_type k sp args r) (a_region q)
  of_partition : (d : Bool) (r p : ℕ) (q : Partition) → IsOf (partition_type d r p) (a_partition q)

-- values of each of which something holds by these types
abbrev pub AreTaken : (StaticType → Value → Type 0) → List StaticType → List Value → Type 0
AreTaken Holding [] [] = Unit {0}
AreTaken Holding (t ∷ ts) (v ∷ vs) = Holding t v × AreTaken Holding ts vs
AreTaken Holding _ _ = ⊥

-- a value, and a machine's, where there is none
abbrev pub nothing : Value
nothing = a_truth false

abbrev pub blank : MachineValue
blank = machine.Number (pos 0)

-- each name in scope has the place behind those that were bound before it, and a value of which
-- something holds by its type
abbrev pub AreOf : (StaticType → Value → Type 0) → List Bound → List Value → Type 0
AreOf Holding [] names = Unit {0}
AreOf Holding (b ∷ bs) names = (b.place ≡ length bs) × Holding b.static_type (get_or names b.place nothing)
    × AreOf Holding bs names

-- A region lies in a root of the store: that is of a field space, and each of its fields has a number at each
-- of the region's points, which are a rising list.
pub record LiesIn (code : Code) (store : Store) (space : ℕ) (q : Region) : Type 0 where
  pub there : q.root < length store
  pub of_space : (get_or store q.root no_root).space ≡ space
  pub points : (field n : ℕ) → field < length (kinds_of code space) → has q.points n ≡ true →
      n < length (column store q.root field)
  pub small : (n : ℕ) → has q.points n ≡ true → n < 2 ^ 32
  pub set : IsPoints 4194304 q.points

-- a value stays within the store: regions lie in it and are the task's own or given, and partitions are of its roots
abbrev pub IsInside : Setting → Store → StaticType → Value → Type 0
IsInside x store (region_type k space args r) (a_region q) = LiesIn x.code store space q × IsHad x r q
IsInside x store (partition_type d r p) (a_partition q) = q.root < length store
IsInside x store t v = Unit {0}

abbrev pub where_of : ℕ → Here → Where
where_of params h = record {
  tree = h.tree;
  scope = h.scope;
  result = h.result;
  params = params;
  line = h.line;
}

-- the program, what calls in it give, and the result's type
abbrev pub program_of : Here → Tree × Calls × StaticType
program_of h = (h.tree, h.calls, h.result)

-- The slots when the round of the innermost loop began, how many names were in scope there, their values, and a
-- bound of the turns that were left; and what was put aside in so many spare slots since the statement began.
pub record Aside (deep : ℕ) : Type 0 where
  pub upto : ℕ
  pub slots : List MachineValue
  pub names : List Value
  pub turns : ℕ
  pub held : ℕ → MachineValue

-- a touch of a root that the instance made itself: these come behind those that were there before it
abbrev pub is_own : Setting → Touch → Bool
is_own x t = nat_le (length x.before) t.root

-- What stays while an instance runs: its own roots come behind those that were there before it, each is of one
-- of the field spaces, its needs allow each touch of a point of these, and what is needed of parameters, and the store
-- keeps numbers of its fields' types.
pub record IsFramed (x : Setting) (store : Store) (own : List RootId) (m : Memory) : Type 0 where
  pub own_are : AreOwn x.before own m.contents
  pub none : x.forms.makes ≡ false → own ≡ []
  pub shaped : (place : ℕ) → length x.before ≤ place → place < length store →
      is_of_space x.code.spaces (get_or store place no_root) ≡ true
  pub allows : AreCovered (is_own x) store m
  pub given : (n : NeedCode) → Contains (needs_taken x.forms.takes) n → AreCovered (is_asked x.args n) store m
  pub parts : AreParts x.args (pairs_taken x.forms.takes)
  pub kept : KeepsNumbers x.tree store

-- ---- calls

-- A value that is given to a parameter: a number, a truth, an index or an index space; a pointer with a position of its list; or,
-- where regions are handed over, one that lies in the store, or a partition of one of its roots.
pub data IsTaken (takes : Option Taking) (code : Code) (store : Store) : StaticType → Value → Type 0 where
  takes_value : (t : StaticType) (v : Value) → IsSimple t → IsOf t v → IsTaken takes code store t v
  takes_pointer : (k : Kind) (sp : ℕ) (args rs : List Reach) (t : Target) (qs : List Region) → IsPosition (length rs) t →
      IsTaken takes code store (pointer_type k sp args rs) (a_pointer t qs)
  takes_region : (y : Taking) (k : Kind) (space : ℕ) (args : List Reach) (r : Term) (q : Region) → takes ≡ Some y →
      LiesIn code store space q → IsTaken takes code store (region_type k space args r) (a_region q)
  takes_partition : (y : Taking) (d : Bool) (r p : ℕ) (q : Partition) → takes ≡ Some y → q.root < length store →
      IsTaken takes code store (partition_type d r p) (a_partition q)

-- a partition is one of the region that is given for a parameter
abbrev pub IsOfGiven : List Value → StaticType → Value → Type 0
IsOfGiven vs (partition_type d r p) (a_partition q) = IsCutIn (given_region vs r) q
IsOfGiven vs t v = Unit {0}

-- a task of the program, what it takes, of which its constraints hold, whose pointers go to parameters, a store that keeps numbers of its fields' types, and
-- what the task requires of what it takes
pub record Takes (takes : Option Taking) (code : Code) (tree : Tree) (task : Name) (vs : List Value) (store : Store)
    (c : Contents) : Type 0 where
  pub there : slice_get (tasks_of tree) (place_of_task tree task) ≡ Some (task_named tree task)
  pub taken : AreTaken (IsTaken takes code store) (param_types tree (task_named tree task)) vs
  pub parts : (y : Taking) → takes ≡ Some y → AreParts vs (pairs_in (scope_of tree (task_named tree task)).known)
  pub goals : AllGoToParams (scope_of tree (task_named tree task)).names
  pub divided : AreTaken (IsOfGiven vs) (param_types tree (task_named tree task)) vs
  pub kept : KeepsNumbers tree store
  pub needs : List Requirement
  pub required : requirements_on code c (task_code tree (task_named tree task)).needs (map (machine_value c) vs) ≡ Some needs

-- the value that a task gives is of its result's type, where that is a number's, a truth's or an index's
abbrev pub Returns : Tree → Name → Value → Type 0
Returns tree task v = HasZero (result_type tree (task_named tree task).result) →
    IsOf (result_type tree (task_named tree task).result) v

-- Both come back, with a value and what stands for the store with the call's own roots behind, which keeps numbers of its
-- fields' types; or both end with a fault.
pub data Matches (tree : Tree) (code : Code) (Returned : Value → Type 0) (store : Store) (before : List ℕ) : Called → Ended → Type 0 where
  both_back : (v : Value) (after : Store) (text : List ℕ) (result : Option ℤ) (own : List RootId) (c : Contents) →
      Returned v → result_of result ≡ kept_number v → SameRoots store (take (length store) after) →
      KeepsNumbers tree after → StandFor code c [] after → AreOwn before own c →
      Matches tree code Returned store before (came_back v (take (length store) after) text) (CameBack result own c text)
  both_broke : (f : Fault) (text : List ℕ) → Matches tree code Returned store before (broke f text) (Broke (Some f) text)

-- a task that begins as a call of it
abbrev pub called_with : Tree → ℕ → ℕ → Name → List Value → List Requirement → Contents → Instance
called_with tree turns depth task vs needs c = begun
    (opening turns depth (place_of_task tree task) (task_code tree (task_named tree task)) (map (machine_value c) vs)) needs c

-- behind each launch something stands
abbrev pub AreFollowed : List Line → Type 0
AreFollowed body = (pc task s line loop_line : ℕ) (args : List LaunchArg) →
    fetch body pc ≡ Some (line_of (instr.Launch task s line args) loop_line) → suc pc < 2 ^ 32

-- What calls give, children give; at depth 64 there is none, and the call is a fault.
pub record Answering (x : Setting) (tree : Tree) (calls : Calls) : Type 0 where
  pub code_is : x.code ≡ code_of tree
  pub few : x.turns < 2 ^ 64
  pub followed : AreFollowed x.body
  pub at_end : 64 ≤ x.depth → (line : ℕ) (task : Name) (vs : List Value) (store : Store) →
      calls line task vs store ≡ broke (record { kind = Depth; line = line }) []
  pub below : x.depth < 64 → (line : ℕ) (task : Name) (vs : List Value) (store : Store) (c : Contents) →
      (takes : Takes x.forms.takes x.code tree task vs store c) →
      Holds x.code store (memory_of (called_with tree x.turns (suc x.depth) task vs takes.needs c)) →
      Matches tree x.code (Returns tree task) store (numbers c) (calls line task vs store)
      (x.child (called_with tree x.turns (suc x.depth) task vs takes.needs c))

-- a frame without its slots, stack and place
abbrev pub unplaced : Frame → Frame
unplaced f = record f { pc = 0; slots = []; stack = [] }

-- no child is pending in a slot
abbrev pub AreReady : List MachineValue → Type 0
AreReady slots = (k : ℕ) → is_pending (get_or slots k blank) ≡ false

-- An instance may call as often as it has turns; it has a value of each child that it called, and its depth.
pub record MayCall (x : Setting) (f : Frame) (results : List ℤ) : Type 0 where
  pub few : f.children + f.turns ≤ x.turns
  pub children : f.children ≡ length results
  pub depth : f.depth ≡ x.depth

-- the first values that are regions are so among others too
abbrev pub RegionsStay : ℕ → List Value → List Value → Type 0
RegionsStay n names after = (p : ℕ) (q : Region) → p < n → get_or names p nothing ≡ a_region q → get_or after p nothing ≡ a_region q

-- the region of a pointer into a part, by its type
pub record GoesToPart (t : StaticType) (v : Value) (q : Region) : Type 0 where
  pub partition : ℕ
  pub colour : Colour
  pub into : reaches_of t ≡ Some (term.Child partition colour) ∷ []
  pub regions : regions_of v ≡ q ∷ []

-- it stands beside the pointer, whose place is none of a parameter's; and its root is there
abbrev pub IsBeside : (ℕ → MachineValue) → Contents → ℕ → ℕ → ℕ → StaticType → Value → Type 0
IsBeside at c params roots p t v = (q : Region) → GoesToPart t v q →
    (params ≤ p) × (at p ≡ machine_value c (a_region q)) × (q.root < roots)

-- so it does of each name's value
abbrev pub AreBeside : (ℕ → MachineValue) → Contents → ℕ → ℕ → List Bound → List Value → Type 0
AreBeside at c params roots [] names = Unit {0}
AreBeside at c params roots (b ∷ bs) names = IsBeside at c params roots b.place b.static_type (get_or names b.place nothing)
    × AreBeside at c params roots bs names

-- the region of a name with a number, among the names that were bound before it, within which another lies
pub record IsUnderName (bs : List Bound) (names : List Value) (r : ℕ) (q : Region) : Type 0 where
  pub whole : Region
  pub is : IsOfName (bound_as bs r) (length bs) names (space_in (bound_as bs r).static_type) r whole
  pub named : term_in (bound_as bs r).static_type ≡ term.Name r
  pub within : IsSubregion q whole

abbrev pub IsWithinName : Taking → List Bound → List Value → StaticType → Value → Type 0
IsWithinName y bs names t v = (i r : ℕ) (q : Region) → IsRegion t → term_in t ≡ term.Name i → y.params ≤ i → y.above i ≡ Some r →
    v ≡ a_region q → IsUnderName bs names r q

-- a value that is a region which began as a part lies within such, and is that part
abbrev pub IsUnder : Option Taking → List Bound → List Value → StaticType → Value → Type 0
IsUnder None bs names t v = Unit {0}
IsUnder (Some y) bs names t v = IsWithinName y bs names t v × IsPieced y bs names t v

-- so does each name's value
abbrev pub AreUnder : Option Taking → List Bound → List Value → Type 0
AreUnder takes [] names = Unit {0}
AreUnder takes (b ∷ bs) names = IsUnder takes bs names b.static_type (get_or names b.place nothing) × AreUnder takes bs names

-- An instance agrees with a state: the names stand in their slots, the turns and the text are alike,
-- and what it has of the roots stands for the store. The slots beside those of names that were in scope
-- when the innermost loop's round began are as they were then, and so are the regions that these names had. Beside a
-- pointer into a part stands the part. A region that began as a part lies within the region of which the partition is, and is that part.
-- What was put aside in spare slots is there still.
pub record Agrees {deep : ℕ} (x : Setting) (params slots : ℕ) (o : Aside deep) (h : Here) (s : State) (i : Instance) : Type 0 where
  pub names : (p : ℕ) → p < length s.names →
      get_or i.frame.slots (slot (where_of params h) p) blank
      ≡ machine_value i.contents (get_or s.names p nothing)
  pub hidden : (p : ℕ) → params ≤ p → p < o.upto →
      (get_or i.frame.slots (counter (where_of params h) p) blank
      ≡ get_or o.slots (counter (where_of params h) p) blank)
      × (get_or i.frame.slots (beside (where_of params h) p) blank
      ≡ get_or o.slots (beside (where_of params h) p) blank)
  pub held : (k : ℕ) → k < deep → get_or i.frame.slots (spare (where_of params h) k) blank ≡ o.held k
  pub typed : AreOf IsOf h.scope.names s.names
  pub inside_store : AreOf (IsInside x s.store) h.scope.names s.names
  pub pointed : ArePointed params s.names h.scope.names
  pub steady : RegionsStay o.upto o.names s.names
  pub under : AreUnder x.forms.takes h.scope.names s.names
  pub besides : AreBeside (λ p. get_or i.frame.slots (beside (where_of params h) p) blank) i.contents params (length s.store)
      h.scope.names s.names
  pub count : length s.names ≡ length h.scope.names
  pub inside : o.upto ≤ length s.names
  pub slots_are : length i.frame.slots ≡ slots
  pub turns : i.frame.turns ≡ s.turns
  pub bound : s.turns ≤ o.turns
  pub text : i.text ≡ s.text
  pub ready : AreReady i.frame.slots
  pub calls : MayCall x (unplaced i.frame) i.results
  pub result_is : h.result ≡ x.result
  pub answers : x.forms.calls ≡ true → Answering x h.tree h.calls
  pub spaces : x.code.spaces ≡ map space_code (spaces_of h.tree)
  pub tree_is : h.tree ≡ x.tree
  pub memory : Holds x.code s.store (memory_of i)
  pub framed : IsFramed x s.store i.frame.own (memory_of i)

-- each instruction names slots that are there
abbrev pub SlotsFit : Setting → ℕ → Type 0
SlotsFit x slots = (pc : ℕ) (l : Line) → fetch x.body pc ≡ Some l → slots_used l.instr ≤ slots

-- From an instance the run comes to what a step of the meaning gives, in a shape; or it ends with the
-- fault.
abbrev pub Comes : {A : Type 0} → Setting → Instance → (A → Instance → Instance) →
    (A → State → Instance → Type 0) → Result A → Type 0
Comes x i shape Good (gives a s) =
    (j : Instance) × Leads x i (shape a j) × Good a s j
Comes x i shape Good (fails f s) = Ends x i (Broke (Some f) s.text)

-- an instance that comes back with a value or none
abbrev pub back : Option ℤ → Instance → Ended
back result j = CameBack result j.frame.own (give_parts j.parts j.contents) j.text

-- a value that was returned ends the run
abbrev pub Does : Setting → ℕ → ℕ → Aside 0 → Instance → ℕ → Here → Result Going → Type 0
Does x params slots o i pc h (gives goes_on s) =
    (j : Instance) × Leads x i (placed pc [] j) × Agrees x params slots o h s j
Does x params slots o i pc h (gives (returned v) s) =
    (result : Option ℤ) × (j : Instance) × Ends x i (back result j)
    × (result_of result ≡ kept_number v) × (j.text ≡ s.text) × Holds x.code s.store (memory_of j)
    × IsFramed x s.store j.frame.own (memory_of j)
    × (x.forms.calls ≡ true → HasZero x.result → IsOf x.result v)
Does x params slots o i pc h (fails f s) = Ends x i (Broke (Some f) s.text)
