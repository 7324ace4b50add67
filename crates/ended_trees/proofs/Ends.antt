-- An end, a fault, or what no compiled program does.
use Rattle.std.proofs.Common.{◌≡◌, ◌<◌, ◌++◌, ◌∙◌, ℕ, ℤ, List, None, Option, [], ap, length, refl, subst, sym}
use Rattle.std.specs.Prelude.{All, set}
use Rattle.std.proofs.lemmas.List.{get_or-set_same, set-get_or}
use Rattle.std.proofs.lemmas.List.Elements.{All-append}
use Rattle.regent_tree.specs.declared.outcome.Fault.{Fault}
use Rattle.region_tree.specs.Requirements.{Requirement}
use Rattle.region_tree.specs.declared.tree.RootId.{RootId}
use Rattle.logical_map.specs.Maps.{LogicalMap}
use Rattle.dependence_graph.specs.Knots.{knot_at, no_knot}
use Rattle.task_code.specs.declared.job.Job.{Job}
use Rattle.machine_terms.specs.declared.frame.Before.{Before}
use Rattle.machine_terms.specs.declared.outcome.After.{After}
use Rattle.machine_terms.specs.declared.outcome.Yield.{Yield}
use Rattle.machine_terms.specs.declared.outcome.Yield.TheVariants as yield
use Rattle.machine_terms.specs.Segments.{frame_after, segment, stop_of}
use Rattle.board_rules.specs.Boards.{Items, Wait as BoardWait, at_fault, awaited, by, met_by, op, out}
use Rattle.board_rules.specs.Ground.{Ground}
use Rattle.board_rules.specs.NumberedBoards.{Board}
use Rattle.board_rules.specs.Running.{Element, Machine, puts}
use Rattle.regent_boards.specs.Frames as board
use Rattle.regent_boards.specs.RegentMachine.{answer_with}
use Rattle.regent_boards.specs.RegentMachine.{regent_ground}
use Rattle.code_boards.specs.Laws.{machine_of}
use Rattle.code_boards.specs.Views.{spaces_of}
use Rattle.board_terms.specs.declared.claim.Claim.{Claim}
use Rattle.board_terms.specs.declared.operation.Activity.TheVariants as activity
use Rattle.board_terms.specs.declared.operation.Ending.{Ending}
use Rattle.board_terms.specs.declared.operation.Ending.TheVariants as ending
use Rattle.board_terms.specs.declared.operation.Operation.{Operation}
use Rattle.board_terms.specs.Gives.{behind_segment, ended_by, frame_left, parts_given, with_parts, yielded}
use Rattle.board_terms.specs.States.{State, no_operation, operation_at, with_operation}
use Rattle.board_facts.proofs.Lists.{set_twice}
use Rattle.board_trees.specs.Shows.{Shows, ShowsBoard}
use Rattle.board_trees.specs.Waits.{Sibling}
use Rattle.given_trees.specs.Segments.{AreLeft}
use Rattle.given_trees.proofs.Maps.{fields_same, parts_live, parts_shapes}
use Rattle.given_trees.proofs.Parts.{parts_show}
use Rattle.given_trees.proofs.Segments.{segments_show}
use Rattle.changed_trees.specs.Changes.{IsAt}
use Rattle.changed_trees.specs.Given.{Opens, makings_before}
use Rattle.changed_trees.proofs.One.{one_changed}
use Rattle.yielded_trees.proofs.Out.{given_is, has_begun}
use Rattle.ended_trees.specs.Laws.{EndsOpen, FaultsOpen, MachineFaultsOpen}
use Rattle.ended_trees.proofs.Ending.{EndsSo, IsEnded, ended_opens}

-- ---- on the table

-- a row that is changed twice, and a knot that stays
pub changed_again : (s : State) (live : LogicalMap) (k : ℕ) (q : Operation) (e : Ending) → k < length s.operations →
    ended_by (record (with_operation s k q) { map = live }) k e ≡ one_changed s s.tree s.roots live k (record q { parts = []; activity = activity.Closing e }) (knot_at s.waits.knots k)
changed_again s live k q e l =
    (λ i. record s { operations = set (set s.operations k q) k (record (get_or-set_same s.operations k q no_operation l i) { parts = []; activity = activity.Closing e }); map = live })
    ∙ (λ i. record s { operations = set_twice s.operations k q (record q { parts = []; activity = activity.Closing e }) i; map = live })
    ∙ ap (λ ks. record s {
      operations = set s.operations k (record q { parts = []; activity = activity.Closing e });
      map = live;
      waits = record { knots = ks; listing = s.waits.listing };
    }) (sym (set-get_or s.waits.knots k no_knot))

given_back : (s : State) (k : ℕ) (q : Operation) → k < length s.operations →
    parts_given (with_operation s k q) k ≡ record (with_operation s k (record q { parts = [] })) { map = with_parts q.parts s.map }
given_back s k q l =
    (λ i. record (with_operation (with_operation s k q) k (record (get_or-set_same s.operations k q no_operation l i) { parts = [] })) {
      map = with_parts (get_or-set_same s.operations k q no_operation l i).parts s.map;
    })
    ∙ (λ i. record s { operations = set_twice s.operations k q (record q { parts = [] }) i; map = with_parts q.parts s.map })

module _ (job : Job) (s : State) (b : Board (regent_ground (spaces_of job.code))) (h : ShowsBoard job s b) (k : ℕ) (v : List ℕ) (at : IsAt job b.ways k v)
    (claim : Claim) (before : Before) (act : (operation_at s k).activity ≡ activity.Out claim before) where
  abbrev G : Ground
  G = regent_ground (spaces_of job.code)

  abbrev makings : ℕ
  makings = makings_before job b k v

  abbrev M : Machine G
  M = machine_of job makings

  abbrev o : Operation
  o = operation_at s k

  abbrev a : After
  a = segment before

  within : k < length s.operations
  within = (has_begun job s b h k v at claim before act).within

  abbrev row : Ending → Operation
  row e = record (behind_segment o a) { parts = []; activity = activity.Closing e }

  row_ended : (e : Ending) (live : LogicalMap) → a.frame ≡ None → IsEnded job s b h k v at claim before act e live (row e)
  row_ended e live none = record {
    activity_is = refl;
    own = ap (λ x. (frame_left o.frame x).own) none;
    said_is = refl;
    children = refl;
    parent = refl;
  }

  -- ---- what is yielded, in the tree

  module _ (earlier : List Sibling) (above : List RootId) (D N : List Requirement) (i : ℕ) (f : board.Frame) (ps : List (Element G)) (w : BoardWait G) (d : List (Element G)) (is : Items G)
      (below : All (λ (r : RootId). r.0 < length s.roots) above) (shown : Shows job s h.who b.ways v k earlier above (op D N i f ps (out w d) is)) where
    abbrev met : board.Frame
    met = met_by G M w f (awaited G M w is)

    abbrev roots : List RootId
    roots = above ++ o.frame.own

    under : All (λ (r : RootId). r.0 < length s.roots) roots
    under = All-append (λ (r : RootId). r.0 < length s.roots) above o.frame.own below (h.own_made k)

    left : AreLeft job s h.who roots o N met a (M.segment met (ps ++ d))
    left = segments_show job s b h v k earlier above D N i f ps d w is shown below claim before act makings

    by_end : (x : Option ℤ) → a.ends ≡ yield.End x → EndsSo job s b h k v at claim before act (ending.Value x) (with_parts a.parts s.map) (row (ending.Value x)) D N i f ps w d is
    by_end x e = record {
      ending = by (answer_with met x);
      effects = puts G M (M.segment met (ps ++ d)).parts;
      behind_is = given_is job s b h k v at claim before act earlier above D N i f ps w d is below shown (yield.End x) e;
      ends = refl;
      held = parts_show job s.roots h.who makings s.map b.state.map roots (M.segment met (ps ++ d)).parts a.parts h.made under h.held left.parts left.held left.fitting left.once;
    }

    by_fault : (x : Fault) → a.ends ≡ yield.Fault x → EndsSo job s b h k v at claim before act (ending.Fault x) s.map (row (ending.Fault x)) D N i f ps w d is
    by_fault x e = record {
      ending = at_fault (board.faults_at x);
      effects = [];
      behind_is = given_is job s b h k v at claim before act earlier above D N i f ps w d is below shown (yield.Fault x) e;
      ends = refl;
      held = h.held;
    }

    by_machine : a.ends ≡ yield.MachineFault → EndsSo job s b h k v at claim before act ending.Broken s.map (row ending.Broken) D N i f ps w d is
    by_machine e = record {
      ending = at_fault board.broken;
      effects = [];
      behind_is = given_is job s b h k v at claim before act earlier above D N i f ps w d is below shown yield.MachineFault e;
      ends = tt;
      held = h.held;
    }

  -- ---- both

  abbrev y : Yield → State
  y e = yielded job.code job.turns (with_operation s k (behind_segment o a)) k e

  pub end_opens : (x : Option ℤ) → a.ends ≡ yield.End x → Opens job b k v s before
  end_opens x e = ended_opens job s b h k v at claim before act (ending.Value x) (with_parts a.parts s.map) (row (ending.Value x))
      (row_ended (ending.Value x) (with_parts a.parts s.map) (ap (λ y. frame_after y (stop_of before).machine.frame) e))
      (record {
        live_stays = λ r l. parts_live a.parts s.map r ∙ l;
        fields_stay = λ r field l. subst (λ x. field < x) (sym (fields_same (with_parts a.parts s.map) s.map r (parts_shapes a.parts s.map r))) l;
      })
      (λ earlier above D N i f ps w d is below shown. by_end earlier above D N i f ps w d is below shown x e)
      (ap y e ∙ ap (λ t. ended_by t k (ending.Value x)) (given_back s k (behind_segment o a) within)
      ∙ changed_again s (with_parts a.parts s.map) k (record (behind_segment o a) { parts = [] }) (ending.Value x) within)

  pub fault_opens : (x : Fault) → a.ends ≡ yield.Fault x → Opens job b k v s before
  fault_opens x e = ended_opens job s b h k v at claim before act (ending.Fault x) s.map (row (ending.Fault x))
      (row_ended (ending.Fault x) s.map (ap (λ y. frame_after y (stop_of before).machine.frame) e))
      (record { live_stays = λ r l. l; fields_stay = λ r field l. l })
      (λ earlier above D N i f ps w d is below shown. by_fault earlier above D N i f ps w d is below shown x e)
      (ap y e ∙ changed_again s s.map k (behind_segment o a) (ending.Fault x) within)

  pub machine_opens : a.ends ≡ yield.MachineFault → Opens job b k v s before
  machine_opens e = ended_opens job s b h k v at claim before act ending.Broken s.map (row ending.Broken)
      (row_ended ending.Broken s.map (ap (λ y. frame_after y (stop_of before).machine.frame) e))
      (record { live_stays = λ r l. l; fields_stay = λ r field l. l })
      (λ earlier above D N i f ps w d is below shown. by_machine earlier above D N i f ps w d is below shown e)
      (ap y e ∙ changed_again s s.map k (behind_segment o a) ending.Broken within)

pub ends_open : EndsOpen
ends_open job s b h k v at claim before act is = end_opens job s b h k v at claim before act is.0 is.1

pub faults_open : FaultsOpen
faults_open job s b h k v at claim before act is = fault_opens job s b h k v at claim before act is.0 is.1

pub machine_faults_open : MachineFaultsOpen
machine_faults_open job s b h k v at claim before act is = machine_opens job s b h k v at claim before act is
