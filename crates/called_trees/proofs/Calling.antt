-- An operation that calls, behind its segment: it waits for nothing, what it has called shows, and it goes on to call others.
use Rattle.std.proofs.Common.{◌≡◌, ◌<◌, ◌++◌, ◌∷◌, ℕ, suc, Bool, List, [], cond, length, map, subst, sym}
use Rattle.std.specs.Prelude.{All, set}
use Rattle.region_finder.specs.Listings.{Listed, earlier, listed}
use Rattle.region_tree.specs.Needs.{AreNeeds, requirements_of}
use Rattle.region_tree.specs.Requirements.{Requirement}
use Rattle.region_tree.specs.declared.needs.Need.{Need}
use Rattle.region_tree.specs.declared.tree.OpNumber.{OpNumber}
use Rattle.region_tree.specs.declared.tree.RootId.{RootId}
use Rattle.dependence_graph.specs.Entries.{Knot}
use Rattle.dependence_graph.specs.Graphs.{issued_one, knot_on}
use Rattle.dependence_graph.specs.Knots.{number}
use Rattle.dependence_graph.specs.declared.stage.Stage.TheVariants as knot
use Rattle.task_code.specs.declared.code.TaskCode.{TaskCode}
use Rattle.task_code.specs.declared.job.Job.{Job}
use Rattle.machine_terms.specs.declared.frame.Frame.{Frame}
use Rattle.machine_terms.specs.declared.outcome.CallOut.{CallOut}
use Rattle.machine_terms.specs.Opening.{opening}
use Rattle.board_rules.specs.Boards.{◌+++◌, Items, Operation as Node, Stage as BoardStage, child_op, dropped, first, idle, no_item, nothing, op}
use Rattle.board_rules.specs.Ground.{Ground}
use Rattle.board_rules.specs.Running.{Element}
use Rattle.regent_boards.specs.Frames as board
use Rattle.regent_boards.specs.RegentMachine.{regent_ground}
use Rattle.segment_renaming.specs.Renaming.{value_to}
use Rattle.code_boards.specs.Views.{opening_with, spaces_of, value_out}
use Rattle.order_boards.proofs.Calls.{values}
use Rattle.board_terms.specs.declared.operation.Operation.{Operation}
use Rattle.board_terms.specs.declared.operation.Wait.{Wait}
use Rattle.board_terms.specs.declared.operation.Wait.TheVariants as wait
use Rattle.board_terms.specs.States.{State, called_by, operation_at}
use Rattle.board_trees.specs.Names.{IsNaming, named, pointed, requirement_named}
use Rattle.board_trees.specs.Shows.{Shows}
use Rattle.board_trees.specs.Shows as shows
use Rattle.board_trees.specs.Stages.{IsWait}
use Rattle.board_trees.specs.Waits.{Sibling}
use Rattle.changed_trees.specs.Open.{Asked}
use Rattle.called_trees.proofs.Opens.{requires}

-- ---- on the table

-- a child is issued that begins in a frame: it comes behind all, and waits for what is listed and interferes
abbrev pub child_on : State → ℕ → Frame → List OpNumber
child_on s k f = earlier s.tree s.waits.listing k f.needs.items

abbrev pub child_knot : State → ℕ → Frame → Knot
child_knot s k f = knot_on s.waits.knots (number k) (child_on s k f) knot.Waiting knot.Dropped

abbrev pub entry : State → ℕ → Frame → Listed
entry s k f = listed s.tree (number k) (number (length s.waits.knots)) f.needs.items

abbrev pub caller : State → ℕ → Operation
caller s k = record (operation_at s k) { children = (operation_at s k).children ++ number (length s.operations) ∷ [] }

abbrev pub with_child : State → ℕ → Frame → State
with_child s k f = record s {
  operations = set s.operations k (caller s k) ++ called_by (number k) f ∷ [];
  waits = issued_one s.tree s.waits (number k) f.needs.items;
}

-- ---- what is called

-- a call with the code of its task
pub record NewCall : Type 0 where
  pub out : CallOut
  pub task : TaskCode

-- and the number of the operation that is issued for it
pub record NewChild : Type 0 where
  pub number : ℕ
  pub call : NewCall

module _ (job : Job) where
  abbrev G : Ground
  G = regent_ground (spaces_of job.code)

  -- the frame in which it begins, and what it needs, at the depth of its caller
  abbrev pub frame_of : ℕ → NewCall → Frame
  frame_of depth c = opening job.turns (suc depth) c.out.task c.task c.out.args

  abbrev pub items_of : ℕ → NewCall → List Need
  items_of depth c = (frame_of depth c).needs.items

  module _ (name : ℕ → ℕ) where
    abbrev pub needs_of : NewCall → List Requirement
    needs_of c = map (requirement_named name) (requires c.task.needs c.out.args)

    abbrev pub sibling_of : NewChild → Sibling
    sibling_of d = record { op = d.number; needs = needs_of d.call }

    abbrev pub tree_frame : ℕ → NewCall → board.Frame
    tree_frame depth c = (opening_with job.code job.turns depth c.out.task c.task.slots (map value_out (values job.code name c.out.args)) (needs_of c)).frame

    -- in the tree it waits, or is dropped
    abbrev pub stage_by : Bool → BoardStage G
    stage_by bad = cond bad dropped (idle first)

    abbrev pub node_of : ℕ → Bool → NewCall → Node G
    node_of depth bad c = op (needs_of c) (needs_of c) 0 (tree_frame depth c) [] (stage_by bad) no_item

  -- one child more
  abbrev pub child_more : Node G → Node G → Node G
  child_more x (op D N i f ps st is) = op D N i f ps st (◌+++◌ G is (child_op x no_item))

  -- one that waits for nothing still does, with other roots and children
  pub still_waits : (s : State) (who : ℕ → ℕ) (o : Operation) (w : Wait) (roots wide : List RootId) (ks : List OpNumber) →
      IsWait job.code s.roots who roots o.frame.needs.items o.parts o.children w nothing → IsWait job.code s.roots who wide o.frame.needs.items o.parts ks w nothing
  still_waits s who o wait.Beginning roots wide ks x = absurd x
  still_waits s who o wait.Nothing roots wide ks x = tt
  still_waits s who o (wait.Part root field) roots wide ks x = absurd x
  still_waits s who o (wait.Child m) roots wide ks x = absurd x

  -- ---- what is known of the caller

  module _ (s : State) (who : ℕ → ℕ) (ways : List (List ℕ)) (k : ℕ) (v : List ℕ) (name : ℕ → ℕ) (depth : ℕ) where
    -- arguments speak of none but these roots
    abbrev pub IsAlike : List RootId → NewCall → Type 0
    IsAlike roots c = (one other : ℕ → ℕ) → IsNaming s.roots who roots one → IsNaming s.roots who roots other → map (value_to (named other)) c.out.args ≡ map (value_to (named one)) c.out.args

    -- a child was issued behind others, with its needs
    pub record IsAmong (roots : List RootId) (xs : List Sibling) (d : NewChild) : Type 0 where
      pub before : List Sibling
      pub after : List Sibling
      pub split : xs ≡ before ++ sibling_of name d ∷ after
      pub later : All (λ (y : Sibling). ¬ (y.op < d.number)) after
      pub required : (one : ℕ → ℕ) → IsNaming s.roots who roots one → pointed (needs_of name d.call) ≡ map (requirement_named one) (requirements_of s.tree (items_of depth d.call))
      pub placed : AreNeeds s.tree (items_of depth d.call)

    pub record IsCalling (calls : List NewCall) (children : List NewChild) (earlier : List Sibling) (above : List RootId) (D N : List Requirement) (i : ℕ) (f : board.Frame)
        (ps : List (Element G)) (st : BoardStage G) (is : Items G) : Type 0 where
      pub below : All (λ (r : RootId). r.0 < length s.roots) above
      pub stage_is : st ≡ idle nothing
      pub shown : Shows job s who ways v k earlier above (op D N i f ps st is)
      pub alike : All (IsAlike (above ++ (operation_at s k).frame.own)) calls
      pub among : All (IsAmong (above ++ (operation_at s k).frame.own) (shows.siblings job (operation_at s k).children is)) children

    -- it has called these, and goes on to call those
    abbrev pub Calling : List NewCall → List NewChild → Asked job
    Calling calls children w j earlier above (op D N i f ps st is) = (v ≡ w) × (j ≡ k) × IsCalling calls children earlier above D N i f ps st is

    module _ (calls : List NewCall) (children : List NewChild) where
      pub by_calling : (P : Asked job) →
          ((earlier : List Sibling) (above : List RootId) (D N : List Requirement) (i : ℕ) (f : board.Frame) (ps : List (Element G)) (is : Items G) →
          IsCalling calls children earlier above D N i f ps (idle nothing) is → P v k earlier above (op D N i f ps (idle nothing) is)) →
          (w : List ℕ) (j : ℕ) (earlier : List Sibling) (above : List RootId) (n : Node G) → Calling calls children w j earlier above n → P w j earlier above n
      by_calling P own w j earlier above (op D N i f ps st is) x =
          subst (λ w. P w j earlier above (op D N i f ps st is)) x.0
          (subst (λ j. P v j earlier above (op D N i f ps st is)) (sym x.1)
          (subst (λ st. P v k earlier above (op D N i f ps st is)) (sym x.2.stage_is)
          (own earlier above D N i f ps is (subst (λ st. IsCalling calls children earlier above D N i f ps st is) x.2.stage_is x.2))))

      pub calling_shows : (w : List ℕ) (j : ℕ) (earlier : List Sibling) (above : List RootId) (n : Node G) → Calling calls children w j earlier above n → Shows job s who ways w j earlier above n
      calling_shows = by_calling (λ w j earlier above n. Shows job s who ways w j earlier above n) (λ earlier above D N i f ps is x. x.shown)
