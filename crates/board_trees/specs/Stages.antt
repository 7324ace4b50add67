-- Where an operation stands: in the table by the graph, its wait and its activity, and in the tree by its stage.
use Rattle.std.specs.Prelude.{◌≡◌, ◌≤◌, ◌⊎◌, ℕ, Bool, List, [], All, Option, Some, None, true, false, drop, filter, length, map, take}
use Rattle.region_tree.specs.Pieces.{Held}
use Rattle.region_tree.specs.Requirements.{Requirement, is_of, part_of}
use Rattle.region_tree.specs.declared.needs.Need.{Need}
use Rattle.region_tree.specs.declared.piece.Part.{Part}
use Rattle.region_tree.specs.declared.tree.OpNumber.{OpNumber}
use Rattle.region_tree.specs.declared.tree.RootId.{RootId}
use Rattle.logical_map.specs.Fills.{Filling, elements_of}
use Rattle.dependence_graph.specs.Entries.{Knot}
use Rattle.dependence_graph.specs.Knots.{all_done, some_failed}
use Rattle.dependence_graph.specs.declared.stage.Stage.{Stage as Knotted}
use Rattle.dependence_graph.specs.declared.stage.Stage.TheVariants as knot
use Rattle.task_code.specs.declared.code.Code.{Code}
use Rattle.machine_terms.specs.Parts.{is_needed, part_of as held_part}
use Rattle.board_rules.specs.Boards.{Ending as BoardEnding, Stage as BoardStage, Wait as BoardWait, at_fault, by, child, closing, dropped, filling, first, idle, nothing, out, over, part, stopped}
use Rattle.board_rules.specs.Running.{Element, Spot, spots}
use Rattle.regent_boards.specs.Frames.{Key, broken, faults_at}
use Rattle.regent_boards.specs.RegentMachine.{kind_of, regent_ground}
use Rattle.code_boards.specs.Pieces.{all_elements}
use Rattle.code_boards.specs.Views.{spaces_of}
use Rattle.board_terms.specs.declared.claim.Claim.{Claim}
use Rattle.board_terms.specs.declared.extent.Extent.{Extent}
use Rattle.board_terms.specs.declared.operation.Activity.{Activity}
use Rattle.board_terms.specs.declared.operation.Activity.TheVariants as activity
use Rattle.board_terms.specs.declared.operation.Ending.{Ending}
use Rattle.board_terms.specs.declared.operation.Ending.TheVariants as ending
use Rattle.board_terms.specs.declared.operation.Operation.{Operation}
use Rattle.board_terms.specs.declared.operation.Wait.{Wait}
use Rattle.board_terms.specs.declared.operation.Wait.TheVariants as wait
use Rattle.board_terms.specs.Claims.{before_of, part_filled}
use Rattle.board_terms.specs.Closings.{all_over}
use Rattle.board_terms.specs.States.{State}
use Rattle.board_trees.specs.Frames.{HasFitting}
use Rattle.board_trees.specs.Names.{IsNaming}
use Rattle.board_trees.specs.Waits.{Sibling, WaitsFor, WaitsForChild}

-- it has begun, be it that it is over by now
abbrev pub was_begun : Knotted → Bool
was_begun knot.Waiting = false
was_begun knot.Dropped = false
was_begun _ = true

module _ (code : Code) where
  -- ---- how work ends

  abbrev pub IsEnding : Ending → BoardEnding (regent_ground (spaces_of code)) → Type 0
  IsEnding (ending.Value v) (by u) = u.value ≡ v
  IsEnding (ending.Fault x) (at_fault (faults_at y)) = y ≡ x
  IsEnding ending.Broken (at_fault broken) = Unit {0}
  IsEnding _ _ = ⊥

  -- one that came to its end has failed by its children, and one that is idle was stopped
  abbrev pub MayFail : Activity → Type 0
  MayFail activity.Idle = Unit {0}
  MayFail (activity.Closing (ending.Value v)) = Unit {0}
  MayFail _ = ⊥

  pub record IsClosing (o : Operation) (e : BoardEnding (regent_ground (spaces_of code))) : Type 0 where
    pub own : Ending
    pub activity_is : o.activity ≡ activity.Closing own
    pub ends : IsEnding own e

  abbrev pub HasFailed : Operation → BoardEnding (regent_ground (spaces_of code)) → Type 0
  HasFailed o (by v) = ⊥
  HasFailed o (at_fault x) = IsClosing o (at_fault x)
  HasFailed o stopped = MayFail o.activity

  -- it came to its end with this value
  abbrev pub HasValue : Operation → BoardEnding (regent_ground (spaces_of code)) → Type 0
  HasValue o (by v) = o.activity ≡ activity.Closing (ending.Value v.value)
  HasValue o _ = ⊥

  -- ---- claims

  module _ (extents : List Extent) (who : ℕ → ℕ) (roots : List RootId) where
    abbrev pub IsKey : ℕ → ℕ → Key → Type 0
    IsKey root field k = (field ≡ k.field) × ((name : ℕ → ℕ) → IsNaming extents who roots name → name root ≡ k.root)

    -- One that waits for its beginning has no children. What is wanted is needed, and isn't held.
    abbrev pub IsWait : List Need → List Part → List OpNumber → Wait → BoardWait (regent_ground (spaces_of code)) → Type 0
    IsWait needs parts children wait.Beginning first = children ≡ []
    IsWait needs parts children wait.Nothing nothing = Unit {0}
    IsWait needs parts children (wait.Part root field) (part k) =
        (is_needed needs root.0 field ≡ true) × (held_part parts root.0 field ≡ None) × IsKey root.0 field k
    IsWait needs parts children (wait.Child n) (child c) = n ≡ c
    IsWait _ _ _ _ _ = ⊥

    abbrev pub HasWait : Operation → BoardWait (regent_ground (spaces_of code)) → Type 0
    HasWait o w = IsWait o.frame.needs.items o.parts o.children o.wait w

    -- what is filled of a wanted part, and what is left
    pub record IsFilled (N : List Requirement) (k : Key) (f : Filling) (d : List (Element (regent_ground (spaces_of code))))
        (l : List (Spot (regent_ground (spaces_of code)))) : Type 0 where
      pub key : IsKey f.root f.field k
      pub kind : f.kind ≡ kind_of (spaces_of code) k.root k.field
      pub wanted : map (λ (h : Held). (h.points, h.mode)) f.pieces ≡ part_of N k.root k.field
      pub sized : All (λ (h : Held). length h.values ≡ length h.points) f.pieces
      pub fitting : HasFitting (part_filled f)
      pub moved : f.moved ≤ elements_of f.pieces
      pub filled : d ≡ take f.moved (all_elements code k.root k.field f.pieces)
      pub left : l ≡ spots (regent_ground (spaces_of code)) (drop f.moved (all_elements code k.root k.field f.pieces))

    abbrev pub Fills : List Requirement → BoardWait (regent_ground (spaces_of code)) → Option Filling →
        List (Element (regent_ground (spaces_of code))) → List (Spot (regent_ground (spaces_of code))) → Type 0
    Fills N (part k) (Some f) d l = IsFilled N k f d l
    Fills N (part k) None d l = ⊥
    Fills N w (Some f) d l = ⊥
    Fills N w None d l = (d ≡ []) × (l ≡ [])

    pub record IsFilling (N : List Requirement) (o : Operation) (w : BoardWait (regent_ground (spaces_of code)))
        (d : List (Element (regent_ground (spaces_of code)))) (l : List (Spot (regent_ground (spaces_of code)))) : Type 0 where
      pub waits : HasWait o w
      pub claim : Claim
      pub fill : Option Filling
      pub activity_is : o.activity ≡ activity.Filling claim fill
      pub fills : Fills N w fill d l

    -- nothing is left to be filled
    pub record IsOut (s : State) (N : List Requirement) (o : Operation) (w : BoardWait (regent_ground (spaces_of code)))
        (d : List (Element (regent_ground (spaces_of code)))) : Type 0 where
      pub waits : HasWait o w
      pub claim : Claim
      pub fill : Option Filling
      pub activity_is : o.activity ≡ activity.Out claim (before_of code s o fill)
      pub fills : Fills N w fill d []

    -- ---- stages

    abbrev pub IsIdle : Operation → BoardWait (regent_ground (spaces_of code)) → Type 0
    IsIdle o w = (o.activity ≡ activity.Idle) × HasWait o w

    -- One that waits for its beginning is parked where its claim was taken back.
    abbrev pub MayIdle : Knotted → BoardWait (regent_ground (spaces_of code)) → Type 0
    MayIdle kn first = (kn ≡ knot.Waiting) ⊎ (kn ≡ knot.Parked)
    MayIdle kn _ = kn ≡ knot.Parked

    abbrev pub WasStopped : Operation → BoardEnding (regent_ground (spaces_of code)) → Type 0
    WasStopped o stopped = o.activity ≡ activity.Idle
    WasStopped o _ = ⊥

    abbrev pub Stands : State → Knotted → Operation → List Requirement → BoardStage (regent_ground (spaces_of code)) → Type 0
    Stands s kn o N (idle w) = MayIdle kn w × IsIdle o w
    Stands s kn o N (filling w d l) = (kn ≡ knot.Begun) × IsFilling N o w d l
    Stands s kn o N (out w d) = (kn ≡ knot.Begun) × IsOut s N o w d
    Stands s kn o N (closing e) = ((kn ≡ knot.Begun) × IsClosing o e) ⊎ ((kn ≡ knot.Stopped) × WasStopped o e)
    Stands s kn o N (over e) = ((kn ≡ knot.Done) × HasValue o e) ⊎ ((kn ≡ knot.Failed) × HasFailed o e)
    Stands s kn o N dropped = (kn ≡ knot.Dropped) × IsIdle o first

  -- ---- what is waited for

  module _ (knots : List Knot) (D N : List Requirement) (earlier children : List Sibling) where
    abbrev pub AwaitsOn : BoardWait (regent_ground (spaces_of code)) → List OpNumber → Type 0
    AwaitsOn first on = WaitsFor knots D earlier on
    AwaitsOn nothing on = on ≡ []
    AwaitsOn (part k) on = WaitsFor knots (filter (is_of k.root k.field) N) children on
    AwaitsOn (child c) on = WaitsForChild knots c children on

    -- what an idle operation waits for can still come, and what a claimed one waited for has come
    abbrev pub WaitsWell : List OpNumber → BoardStage (regent_ground (spaces_of code)) → Type 0
    WaitsWell on (idle w) = AwaitsOn w on × (some_failed knots on ≡ false)
    WaitsWell on (filling w d l) = AwaitsOn w on × (all_done knots on ≡ true)
    WaitsWell on (out w d) = AwaitsOn w on × (all_done knots on ≡ true)
    WaitsWell on _ = Unit {0}

  -- children of what is closing aren't all over, and those of what is over are
  abbrev pub ChildrenAre : State → List OpNumber → BoardStage (regent_ground (spaces_of code)) → Type 0
  ChildrenAre s ks (closing e) = all_over s ks ≡ false
  ChildrenAre s ks (over e) = all_over s ks ≡ true
  ChildrenAre s ks dropped = ks ≡ []
  ChildrenAre s ks _ = Unit {0}
