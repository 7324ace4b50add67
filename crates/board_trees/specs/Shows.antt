-- A state of a board that shows a board of the laws: its table of operations shows the tree, and its map the map.
use Rattle.std.specs.Prelude.{◌≡◌, ◌<◌, ◌++◌, ◌∷◌, ◌-◌, ◌==◌, ◌⊎◌, ℕ, suc, List, [], All, Bool, Some, true, false, filter, get_or, length, map, not, slice_get}
use Rattle.std.specs.List.{Contains}
use Rattle.lane_kernels.specs.Numbers.{FitsWidth, width_of}
use Rattle.plain_values.specs.Points.{counted_from, points, within}
use Rattle.region_finder.specs.Forests.{Upward, above}
use Rattle.region_finder.specs.Listings.{AreRising, Listed, PlacedNeed, listed_ops, needs_in}
use Rattle.region_tree.specs.Needs.{AreNeeds, requirements_of}
use Rattle.region_tree.specs.Requirements.{Requirement}
use Rattle.region_tree.specs.Trees.{RegionTree, is_region, node_at, points_at, root_at, set_at}
use Rattle.region_tree.specs.declared.tree.OpNumber.{OpNumber}
use Rattle.region_tree.specs.declared.tree.RootId.{RootId}
use Rattle.logical_map.specs.Laws.{IsWhole}
use Rattle.logical_map.specs.Maps.{Column, LogicalMap, column_of, columns_of, is_live, number_at}
use Rattle.dependence_graph.specs.Knots.{knot_at, number}
use Rattle.dependence_graph.specs.declared.stage.Stage.TheVariants.{Parked}
use Rattle.task_code.specs.declared.job.Job.{Job}
use Rattle.machine_terms.specs.Contents.{kinds_of}
use Rattle.board_rules.specs.Boards.{Items, Operation as Node, Stage as BoardStage, child_op, closing, dropped, first, idle, no_item, op, over, said}
use Rattle.board_rules.specs.NumberedBoards.{Board, holds_claim, way_of}
use Rattle.board_rules.specs.Processes.{Map}
use Rattle.board_rules.specs.RootNumbers.{made_in}
use Rattle.board_rules.specs.Running.{Element}
use Rattle.regent_boards.specs.Frames as board
use Rattle.regent_boards.specs.RegentMachine.{regent_ground}
use Rattle.code_boards.specs.Laws.{machine_of}
use Rattle.code_boards.specs.Views.{spaces_of}
use Rattle.board_terms.specs.declared.extent.Extent.{Extent}
use Rattle.board_terms.specs.declared.operation.Activity.{Activity}
use Rattle.board_terms.specs.declared.operation.Activity.TheVariants as activity
use Rattle.board_terms.specs.declared.operation.Said.{Said}
use Rattle.board_terms.specs.States.{State, no_extent, operation_at}
use Rattle.board_trees.specs.Frames.{IsSeen}
use Rattle.board_trees.specs.Names.{AreMade, IsNaming, name_of, pointed, requirement_named}
use Rattle.board_trees.specs.Stages.{ChildrenAre, Stands, WaitsWell, was_begun}
use Rattle.board_trees.specs.Waits.{Sibling, all_clear, has_ended, is_written_over}

module _ (job : Job) where
  -- ---- the map

  -- a root that is there has its fields, and on the map its numbers
  pub record HoldsMap (live : LogicalMap) (extents : List Extent) (who : ℕ → ℕ) (m : Map (regent_ground (spaces_of job.code))) (root : ℕ) : Type 0 where
    pub made : root < length extents
    pub kinds : map (λ (c : Column). c.kind) (columns_of live root) ≡ kinds_of job.code (get_or extents root no_extent).space
    pub points_are : All (λ (c : Column). c.points ≡ points (get_or extents root no_extent).count) (columns_of live root)
    pub whole : All IsWhole (columns_of live root)
    pub numbers : (field point : ℕ) → field < length (columns_of live root) → point < (get_or extents root no_extent).count →
        number_at live root field point ≡ m (record { root = name_of extents who root; field = field; point = point })
    pub fit : (field point : ℕ) → FitsWidth (width_of (column_of live root field).kind) (number_at live root field point)

  -- a region's root was made, and has its points; what stands above it has a smaller number, and has them too
  pub record IsWithinRoot (t : RegionTree) (extents : List Extent) (node : ℕ) : Type 0 where
    pub made : root_at t node < length extents
    pub below : All (λ p. p < (get_or extents (root_at t node) no_extent).count) (set_at t node)
    pub higher : (u : Upward) → above t node ≡ Some u → (u.0.0 < node) × (within (points_at t node) (points_at t u.0.0) ≡ true)

  -- ---- the operations

  -- what is printed before, between and behind children, from a place on
  abbrev pub printed : ℕ → List ℕ → List Said → List Said
  printed c [] ps = ps
  printed c (x ∷ xs) ps = record { children = c; text = x ∷ xs } ∷ ps

  abbrev pub said_in : ℕ → Items (regent_ground (spaces_of job.code)) → List Said
  said_in c no_item = []
  said_in c (said t is) = printed c t (said_in c is)
  said_in c (child_op n is) = said_in (suc c) is

  abbrev pub needs_issued : Node (regent_ground (spaces_of job.code)) → List Requirement
  needs_issued (op D N i f ps st is) = D

  -- the children, by their numbers
  abbrev pub siblings : List OpNumber → Items (regent_ground (spaces_of job.code)) → List Sibling
  siblings ks no_item = []
  siblings ks (said t is) = siblings ks is
  siblings [] (child_op n is) = []
  siblings (k ∷ ks) (child_op n is) = record { op = k.0; needs = needs_issued n } ∷ siblings ks is

  -- of one whose own work hasn't ended
  abbrev pub IfRuns : BoardStage (regent_ground (spaces_of job.code)) → Type 0 → Type 0
  IfRuns (closing e) P = Unit {0}
  IfRuns (over e) P = Unit {0}
  IfRuns dropped P = Unit {0}
  IfRuns _ P = P

  -- ---- what the graph lists

  -- a need's region is there, and the regions on the way up from it have its points
  pub record IsUpward (t : RegionTree) (m : PlacedNeed) : Type 0 where
    pub there : m.need.node.0 < length t.nodes
    pub way : All (λ (u : Upward). (u.0.0 < length t.nodes)
        × (is_region (node_at t u.0.0).content ≡ true → within (set_at t m.need.node.0) (set_at t u.0.0) ≡ true)) m.way

  module _ (s : State) (who : ℕ → ℕ) (roots : List RootId) where
    abbrev pub needs_listed : (ℕ → ℕ) → Listed → List Requirement
    needs_listed name e = map (requirement_named name) (requirements_of s.tree (needs_in e))

    -- The graph lists operation k in its caller's context, with all needs with which it was issued; and of these, which have
    -- one name under all namings, it lists as open all but those that a later sibling writes over.
    pub record IsListed (j k : ℕ) (D : List Requirement) (later : List Sibling) : Type 0 where
      pub entry : Listed
      pub there : Contains s.waits.listing entry
      pub op_is : entry.op ≡ number k
      pub context : entry.context ≡ number j
      pub issued : (name : ℕ → ℕ) → IsNaming s.roots who roots name → pointed D ≡ map (requirement_named name) (requirements_of s.tree entry.issued)
      pub placed : AreNeeds s.tree entry.issued
      pub upward : All (IsUpward s.tree) entry.needs
      pub alike : (name other : ℕ → ℕ) → IsNaming s.roots who roots name → IsNaming s.roots who roots other → needs_listed name entry ≡ needs_listed other entry
      pub own : (name : ℕ → ℕ) → IsNaming s.roots who roots name → All (Contains (pointed D)) (needs_listed name entry)
      pub others : (name : ℕ → ℕ) → IsNaming s.roots who roots name →
          All (λ (r : Requirement). Contains (needs_listed name entry) r ⊎ (is_written_over later r ≡ true)) (pointed D)

    -- so it lists each of these children that hasn't ended
    abbrev pub AreListed : ℕ → List Sibling → Type 0
    AreListed j [] = Unit {0}
    AreListed j (x ∷ xs) = (has_ended s.waits.knots x.op ≡ false → IsListed j x.op x.needs xs) × AreListed j xs

  module _ (s : State) (who : ℕ → ℕ) (ways : List (List ℕ)) where
    -- operation k is the one at a way, whose earlier siblings are these, and these roots are its callers' and its own
    pub record Row (way : List ℕ) (k : ℕ) (earlier : List Sibling) (roots : List RootId) (D N : List Requirement) (f : board.Frame)
        (ps : List (Element (regent_ground (spaces_of job.code)))) (st : BoardStage (regent_ground (spaces_of job.code)))
        (is : Items (regent_ground (spaces_of job.code))) : Type 0 where
      pub within : k < length s.operations
      pub knot : k < length s.waits.knots
      pub way_is : way_of (regent_ground (spaces_of job.code)) (machine_of job) ways k ≡ Some way
      pub own : (name : ℕ → ℕ) → IsNaming s.roots who roots name → f.own ≡ map (λ (r : RootId). name r.0) (operation_at s k).frame.own
      pub seen : IfRuns st (IsSeen job.code s.tree s.map s.roots who roots (operation_at s k) N f ps)
      pub said_is : said_in 0 is ≡ (operation_at s k).said
      pub stands : Stands job.code s.roots who roots s (knot_at s.waits.knots k).stage (operation_at s k) N st
      -- one whose claim was taken back before it began waits for no sibling
      pub free : (knot_at s.waits.knots k).stage ≡ Parked → st ≡ idle first → (knot_at s.waits.knots k).on ≡ []
      pub waits : WaitsWell job.code s.waits.knots D N earlier (siblings (operation_at s k).children is) (knot_at s.waits.knots k).on st
      -- when it began, each sibling before it that interferes with it had ended
      pub begun : was_begun (knot_at s.waits.knots k).stage ≡ true → all_clear s.waits.knots D earlier ≡ true
      pub listed : AreListed s who roots k (siblings (operation_at s k).children is)
      pub children_are : ChildrenAre job.code s (operation_at s k).children st

    -- operation k is a child of operation j
    pub record IsChild (j k : ℕ) : Type 0 where
      pub parent : (operation_at s k).parent ≡ number j
      pub later : j < k

    abbrev mutual
      pub Shows : List ℕ → ℕ → List Sibling → List RootId → Node (regent_ground (spaces_of job.code)) → Type 0
      Shows way k earlier above (op D N i f ps st is) =
          Row way k earlier (above ++ (operation_at s k).frame.own) D N f ps st is
          × ShowsChildren way k 0 [] (above ++ (operation_at s k).frame.own) (operation_at s k).children is

      pub ShowsChildren : List ℕ → ℕ → ℕ → List Sibling → List RootId → List OpNumber → Items (regent_ground (spaces_of job.code)) → Type 0
      ShowsChildren way j c earlier roots ks no_item = ks ≡ []
      ShowsChildren way j c earlier roots ks (said t is) = ShowsChildren way j c earlier roots ks is
      ShowsChildren way j c earlier roots [] (child_op n is) = ⊥
      ShowsChildren way j c earlier roots (k ∷ ks) (child_op n is) =
          IsChild j k.0
          × Shows (way ++ c ∷ []) k.0 earlier roots n
          × ShowsChildren way j (suc c) (earlier ++ record { op = k.0; needs = needs_issued n } ∷ []) roots ks is

  -- a way leads from one operation to another
  abbrev pub Leads : State → ℕ → List ℕ → ℕ → Type 0
  Leads s j [] k = j ≡ k
  Leads s j (c ∷ way) k = (i : ℕ) × (slice_get (operation_at s j).children c ≡ Some (number i)) × Leads s i way k

  -- ---- the board

  abbrev pub is_claimed : ℕ → Activity → Bool
  is_claimed seat (activity.Filling c fill) = c.seat == seat
  is_claimed seat (activity.Out c before) = c.seat == seat
  is_claimed seat _ = false

  pub record ShowsBoard (s : State) (b : Board (regent_ground (spaces_of job.code))) : Type 0 where
    pub who : ℕ → ℕ
    pub extents : length s.roots ≡ s.tree.roots
    pub made : AreMade (length s.roots) who (made_in (regent_ground (spaces_of job.code)) (machine_of job) b.state.tree)
    pub regions : (node : ℕ) → node < length s.tree.nodes → IsWithinRoot s.tree s.roots node
    pub held : (root : ℕ) → is_live s.map root ≡ true → HoldsMap s.map s.roots who b.state.map root
    pub rising : (k : ℕ) → AreRising (operation_at s k).children
    -- the first task's roots stay
    pub first : All (λ (r : RootId). is_live s.map r.0 ≡ true) (operation_at s 0).frame.own
    -- no root was made by two
    pub own_made : (k : ℕ) → All (λ (r : RootId). r.0 < length s.roots) (operation_at s k).frame.own
    pub own_apart : (j k : ℕ) → ¬ (j ≡ k) →
        All (λ (r : RootId). All (λ (q : RootId). ¬ (r ≡ q)) (operation_at s k).frame.own) (operation_at s j).frame.own
    pub shows : Shows s who b.ways [] 0 [] [] b.state.tree
    pub leads : (k : ℕ) (way : List ℕ) → way_of (regent_ground (spaces_of job.code)) (machine_of job) b.ways k ≡ Some way → Leads s 0 way k
    pub ways : length b.ways ≡ length s.operations
    pub knots : length s.waits.knots ≡ length s.operations
    -- the graph lists all but main that haven't ended
    pub listed : listed_ops s.waits.listing
        ≡ map number (filter (λ k. not (has_ended s.waits.knots k)) (counted_from 1 (length s.operations - 1)))
    pub claims : (k seat : ℕ) → holds_claim (regent_ground (spaces_of job.code)) (machine_of job) k seat b.claims ≡ is_claimed seat (operation_at s k).activity
    pub turns : b.turns ≡ s.turns
