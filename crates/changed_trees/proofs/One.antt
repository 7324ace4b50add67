-- One row changes, of an operation that hasn't ended, and maybe regions, roots and what they hold.
use Rattle.std.proofs.Common.{◌≡◌, ◌<◌, ◌∷◌, ◌∙◌, ◌||◌, ◌&&◌, ℕ, List, None, Some, [], ap, cond, false, length, refl, set, subst, sym, true}
use Rattle.std.specs.Prelude.{nat_lt}
use Rattle.std.proofs.lemmas.Bool.{false≢true}
use Rattle.std.proofs.lemmas.List.{get_or-set_other, get_or-set_same, length-set}
use Rattle.region_tree.specs.Trees.{RegionTree, node_at}
use Rattle.region_tree.specs.declared.tree.OpNumber.{OpNumber}
use Rattle.logical_map.specs.Maps.{LogicalMap, columns_of, is_live}
use Rattle.dependence_graph.specs.Entries.{Knot}
use Rattle.dependence_graph.specs.Knots.{has_failed, is_done, knot_at, no_knot, some_failed, stage_at}
use Rattle.task_code.specs.declared.job.Job.{Job}
use Rattle.board_rules.specs.NumberedBoards.{way_of}
use Rattle.regent_boards.specs.RegentMachine.{regent_ground}
use Rattle.code_boards.specs.Laws.{machine_of}
use Rattle.code_boards.specs.Views.{spaces_of}
use Rattle.board_terms.specs.declared.extent.Extent.{Extent}
use Rattle.board_terms.specs.declared.operation.Operation.{Operation}
use Rattle.board_terms.specs.Closings.{all_over}
use Rattle.board_terms.specs.Stages.{is_over, stage_of}
use Rattle.board_terms.specs.Stages as table
use Rattle.board_terms.specs.States.{State, no_operation, operation_at}
use Rattle.board_trees.specs.Names.{name_of}
use Rattle.board_trees.proofs.Kept.{by_number}
use Rattle.board_trees.proofs.Told.{stage_there}
use Rattle.changed_trees.specs.Changes.{Change, IsAt}

module _ (s : State) (tree : RegionTree) (roots : List Extent) (live : LogicalMap) (k : ℕ) (o : Operation) (x : Knot) where
  -- the state with this row, and maybe other regions, roots and numbers
  abbrev pub one_changed : State
  one_changed = record {
    tree = tree;
    roots = roots;
    map = live;
    operations = set s.operations k o;
    waits = record { knots = set s.waits.knots k x; listing = s.waits.listing };
    turns = s.turns;
  }

  pub others : (j : ℕ) → ¬ (j ≡ k) → operation_at one_changed j ≡ operation_at s j
  others j n = get_or-set_other s.operations k j o no_operation n

  pub other_knots : (j : ℕ) → ¬ (j ≡ k) → knot_at one_changed.waits.knots j ≡ knot_at s.waits.knots j
  other_knots j n = get_or-set_other s.waits.knots k j x no_knot n

  stage_else : (j : ℕ) → ¬ (j ≡ k) → stage_at one_changed.waits.knots j ≡ stage_at s.waits.knots j
  stage_else j n = λ i. cond (nat_lt j (length-set s.waits.knots k x i)) (Some (other_knots j n i).stage) None

  module _ (within : k < length s.operations) (there : k < length s.waits.knots) where
    pub row_is : operation_at one_changed k ≡ o
    row_is = get_or-set_same s.operations k o no_operation within

    pub knot_is : knot_at one_changed.waits.knots k ≡ x
    knot_is = get_or-set_same s.waits.knots k x no_knot there

    pub knot_within : k < length one_changed.waits.knots
    knot_within = subst (λ n. k < n) (sym (length-set s.waits.knots k x)) there

    stage_here : stage_at one_changed.waits.knots k ≡ Some x.stage
    stage_here = stage_there one_changed.waits.knots k knot_within ∙ ap (λ (y : Knot). Some y.stage) knot_is

    -- it hadn't ended, and hasn't, nor failed, nor is it over
    pub record IsOngoing : Type 0 where
      pub before : is_done (stage_at s.waits.knots k) ≡ false
      pub unfailed : has_failed (stage_at s.waits.knots k) ≡ false
      pub runs : is_over (table.stage_at s k) ≡ false
      pub now : is_done (Some x.stage) ≡ false
      pub fails : has_failed (Some x.stage) ≡ false
      pub open_now : is_over (stage_of x.stage o.wait o.activity) ≡ false

    module _ (ongoing : IsOngoing) where
      pub same_ended : (j : ℕ) → is_done (stage_at one_changed.waits.knots j) ≡ is_done (stage_at s.waits.knots j)
      same_ended = by_number k (λ j. is_done (stage_at one_changed.waits.knots j) ≡ is_done (stage_at s.waits.knots j))
          (ap is_done stage_here ∙ ongoing.now ∙ sym ongoing.before) (λ j n. ap is_done (stage_else j n))

      pub same_failed : (j : ℕ) → has_failed (stage_at one_changed.waits.knots j) ≡ has_failed (stage_at s.waits.knots j)
      same_failed = by_number k (λ j. has_failed (stage_at one_changed.waits.knots j) ≡ has_failed (stage_at s.waits.knots j))
          (ap has_failed stage_here ∙ ongoing.fails ∙ sym ongoing.unfailed) (λ j n. ap has_failed (stage_else j n))

      pub same_over : (j : ℕ) → is_over (table.stage_at one_changed j) ≡ is_over (table.stage_at s j)
      same_over = by_number k (λ j. is_over (table.stage_at one_changed j) ≡ is_over (table.stage_at s j))
          ((λ i. is_over (stage_of (knot_is i).stage (row_is i).wait (row_is i).activity)) ∙ ongoing.open_now ∙ sym ongoing.runs)
          (λ j n i. is_over (stage_of (other_knots j n i).stage (others j n i).wait (others j n i).activity))

      pub some_failed_same : (on : List OpNumber) → some_failed one_changed.waits.knots on ≡ some_failed s.waits.knots on
      some_failed_same [] = refl
      some_failed_same (y ∷ on) = λ i. same_failed y.0 i || some_failed_same on i

      pub all_over_same : (on : List OpNumber) → all_over one_changed on ≡ all_over s on
      all_over_same [] = refl
      all_over_same (y ∷ on) = λ i. same_over y.0 i && all_over_same on i

      module _ (job : Job) (who now : ℕ → ℕ) (ways : List (List ℕ)) (v : List ℕ) (at : IsAt job ways k v) (parent : o.parent ≡ (operation_at s k).parent)
          (nodes : (n : ℕ) → n < length s.tree.nodes → (n < length tree.nodes) × (node_at tree n ≡ node_at s.tree n))
          (names : (r : ℕ) → r < length s.roots → name_of roots now r ≡ name_of s.roots who r)
          (stay : (r : ℕ) → is_live s.map r ≡ true → is_live live r ≡ true)
          (fields : (r field : ℕ) → field < length (columns_of s.map r) → field < length (columns_of live r)) where
        elsewhere : (j : ℕ) (w : List ℕ) → IsAt job ways j w → ¬ (v ≡ w) → ¬ (j ≡ k)
        elsewhere j w e n q = n (same_way v w (sym at ∙ ap (λ y. way_of (regent_ground (spaces_of job.code)) (machine_of job) ways y) (sym q) ∙ e))
          where
            same_way : (v w : List ℕ) → Some v ≡ Some w → v ≡ w
            same_way v w e = cc

        clash : {A : Type 0} → is_done (stage_at s.waits.knots k) ≡ true → A
        clash t = absurd (false≢true (sym ongoing.before ∙ t))

        pub one_change : Change job s one_changed who now ways ways (λ w. v ≡ w)
        one_change = record {
          size = λ j l. subst (λ n. j < n) (sym (length-set s.operations k o)) l;
          knots = λ j l. subst (λ n. j < n) (sym (length-set s.waits.knots k x)) l;
          way = λ j w e. e;
          row = λ j w e n. others j (elsewhere j w e n);
          knot = λ j w e n. other_knots j (elsewhere j w e n);
          ended = λ j e. same_ended j ∙ e;
          answers = by_number k (λ j. is_done (stage_at s.waits.knots j) ≡ true → (operation_at one_changed j).activity ≡ (operation_at s j).activity)
              clash (λ j n e. ap (λ (y : Operation). y.activity) (others j n));
          failed = λ j w e n i q. some_failed_same (knot_at s.waits.knots j).on ∙ q;
          over = λ j w e n. all_over_same (operation_at s j).children;
          parent = λ j l. by_number k (λ j. (operation_at one_changed j).parent ≡ (operation_at s j).parent)
              (ap (λ (y : Operation). y.parent) row_is ∙ parent) (λ j n. ap (λ (y : Operation). y.parent) (others j n)) j;
          nodes = nodes;
          names = names;
          there = stay;
          fields = fields;
          entries = λ j w e n l q f c. c;
        }
