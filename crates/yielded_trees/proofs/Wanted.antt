-- A part that is wanted: the operation waits for the children that interfere with it.
use Rattle.std.proofs.Common.{◌≡◌, ◌<◌, ◌++◌, ◌∷◌, ◌∙◌, ℕ, Bool, List, Some, [], ap, cond, filter, length, map, refl, set, sym, true, false}
use Rattle.std.specs.Prelude.{All}
use Rattle.std.proofs.lemmas.List.{get_or-set_same, set-set}
use Rattle.region_finder.specs.Listings.{earlier}
use Rattle.region_tree.specs.Needs.{requirement_of, requirements_of}
use Rattle.region_tree.specs.Requirements.{Requirement, is_of}
use Rattle.region_tree.specs.Trees.{RegionTree}
use Rattle.region_tree.specs.declared.needs.Need.{Need}
use Rattle.region_tree.specs.declared.needs.Needs.{Needs}
use Rattle.region_tree.specs.declared.tree.OpNumber.{OpNumber}
use Rattle.region_tree.specs.declared.tree.RootId.{RootId}
use Rattle.dependence_graph.specs.declared.stage.Waiting.TheVariants as graph
use Rattle.task_code.specs.declared.job.Job.{Job}
use Rattle.machine_terms.specs.Opening.{with_points}
use Rattle.machine_terms.specs.Segments.{frame_after, segment, stop_of}
use Rattle.machine_terms.specs.declared.frame.Before.{Before}
use Rattle.machine_terms.specs.declared.frame.Frame.{Frame}
use Rattle.machine_terms.specs.declared.outcome.Yield.{Yield}
use Rattle.machine_terms.specs.declared.outcome.Yield.TheVariants as yield
use Rattle.board_rules.specs.Boards.{Items, Wait as BoardWait, first, op, out, part}
use Rattle.board_rules.specs.Boards as tree
use Rattle.board_rules.specs.Ground.{Ground}
use Rattle.board_rules.specs.NumberedBoards.{Board}
use Rattle.board_rules.specs.Running.{Element, Machine}
use Rattle.regent_boards.specs.Frames as board
use Rattle.regent_boards.specs.RegentMachine.{regent_ground}
use Rattle.regent_boards.proofs.NeedRenaming.{filter_to}
use Rattle.segment_renaming.specs.Renaming.{yield_to}
use Rattle.segment_renaming.proofs.Alike.{same_root}
use Rattle.segment_regions.proofs.Wants.{wants_are_needed}
use Rattle.code_boards.specs.Laws.{machine_of}
use Rattle.code_boards.specs.Views.{spaces_of}
use Rattle.board_terms.specs.declared.claim.Claim.{Claim}
use Rattle.board_terms.specs.declared.operation.Activity.TheVariants as activity
use Rattle.board_terms.specs.declared.operation.Operation.{Operation}
use Rattle.board_terms.specs.declared.operation.Wait.TheVariants as wait
use Rattle.board_terms.specs.Gives.{behind_segment, frame_left, is_on, needs_on, parked_for, yielded}
use Rattle.board_terms.specs.States.{State, no_operation, operation_at, with_operation}
use Rattle.board_trees.specs.Names.{IsNaming, named, pointed, requirement_named}
use Rattle.board_trees.specs.Shows.{Shows, ShowsBoard, siblings}
use Rattle.board_trees.proofs.Ordered.{children_ordered}
use Rattle.board_trees.specs.Waits.{Sibling, WaitsFor}
use Rattle.board_trees.proofs.Named.{named_all}
use Rattle.board_trees.proofs.Settled.{children_bad}
use Rattle.board_trees.proofs.Told.{waits_are_told}
use Rattle.given_trees.specs.Segments.{AreLeft}
use Rattle.given_trees.proofs.Segments.{segments_show}
use Rattle.changed_trees.specs.Changes.{IsAt}
use Rattle.changed_trees.specs.Given.{Opens, makings_before, yielded_by}
use Rattle.changed_trees.proofs.Listed.{waits_are_listed}
use Rattle.yielded_trees.proofs.Out.{given_is, has_begun, names_below}
use Rattle.yielded_trees.proofs.Paused.{Pauses, pauses_open, u}
use Rattle.yielded_trees.specs.Laws.{WantsOpen}

-- ---- needs of a field

pointed_filter : (p : Requirement → Bool) (N : List Requirement) → pointed (filter p N) ≡ filter p (pointed N)
pointed_filter p [] = refl
pointed_filter p (r ∷ rs) = chosen (p r) refl (pointed_filter p rs)
  where
    kept : (xs : List ℕ) → p r ≡ true → with_points xs r (filter p (pointed rs)) ≡ filter p (with_points xs r (pointed rs))
    kept [] e = refl
    kept (x ∷ xs) e = ap (λ b. cond b (r ∷ filter p (pointed rs)) (filter p (pointed rs))) (sym e)

    dropped : (xs : List ℕ) → p r ≡ false → filter p (pointed rs) ≡ filter p (with_points xs r (pointed rs))
    dropped [] e = refl
    dropped (x ∷ xs) e = ap (λ b. cond b (r ∷ filter p (pointed rs)) (filter p (pointed rs))) (sym e)

    chosen : (b : Bool) → p r ≡ b → pointed (filter p rs) ≡ filter p (pointed rs) → pointed (cond b (r ∷ filter p rs) (filter p rs)) ≡ filter p (with_points r.points r (pointed rs))
    chosen true e more = ap (with_points r.points r) more ∙ kept r.points e
    chosen false e more = more ∙ dropped r.points e

required_filter : (t : RegionTree) (root field : ℕ) (ns : List Need) → filter (is_of root field) (requirements_of t ns) ≡ requirements_of t (filter (is_on root field) ns)
required_filter t root field [] = refl
required_filter t root field (n ∷ ns) = chosen (is_on root field n) (required_filter t root field ns)
  where
    chosen : (b : Bool) → filter (is_of root field) (requirements_of t ns) ≡ requirements_of t (filter (is_on root field) ns) →
        cond b (requirement_of t n ∷ filter (is_of root field) (requirements_of t ns)) (filter (is_of root field) (requirements_of t ns))
        ≡ requirements_of t (cond b (n ∷ filter (is_on root field) ns) (filter (is_on root field) ns))
    chosen true more = ap (λ rs. requirement_of t n ∷ rs) more
    chosen false more = more

abbrev wanted_root : Yield → ℕ
wanted_root (yield.Want root field) = root.0
wanted_root _ = 0

module _ (job : Job) (s : State) (b : Board (regent_ground (spaces_of job.code))) (h : ShowsBoard job s b) (k : ℕ) (v : List ℕ) (at : IsAt job b.ways k v)
    (claim : Claim) (before : Before) (act : (operation_at s k).activity ≡ activity.Out claim before) (root : RootId) (field : ℕ) (wants : (segment before).ends ≡ yield.Want root field) where
  abbrev G : Ground
  G = regent_ground (spaces_of job.code)

  abbrev M : Machine G
  M = machine_of job (makings_before job b k v)

  abbrev g : Frame
  g = (stop_of before).machine.frame

  goes : (segment before).frame ≡ Some g
  goes = ap (λ y. frame_after y g) wants

  abbrev name : ℕ → ℕ
  name = named_all s.roots h.who (makings_before job b k v) h.made 0

  abbrev K : board.Key
  K = record { root = name root.0; field = field }

  abbrev waited : BoardWait G
  waited = part K

  no_beginning : waited ≡ first → ⊥
  no_beginning e = absurd cc

  abbrev on : List OpNumber
  on = earlier s.tree s.waits.listing k (needs_on g root.0 field).items

  module _ (before_it : List Sibling) (above : List RootId) (D N : List Requirement) (i : ℕ) (f : board.Frame) (ps : List (Element G)) (w : BoardWait G) (d : List (Element G)) (is : Items G)
      (below : All (λ (r : RootId). r.0 < length s.roots) above) (x : Shows job s h.who b.ways v k before_it above (op D N i f ps (out w d) is)) where
    abbrev roots : List RootId
    roots = above ++ (operation_at s k).frame.own

    naming : IsNaming s.roots h.who roots name
    naming = names_below job s b h k v at claim before act above below

    abbrev met : board.Frame
    met = tree.met_by G M w f (tree.awaited G M w is)

    left_alike : AreLeft job s h.who roots (operation_at s k) N met (segment before) (M.segment met (ps ++ d))
    left_alike = segments_show job s b h v k before_it above D N i f ps d w is x below claim before act (makings_before job b k v)

    -- the root has one name
    same_name : (other : ℕ → ℕ) → IsNaming s.roots h.who roots other → other root.0 ≡ name root.0
    same_name other n = ap (λ y. wanted_root (yield_to (named other) y)) (sym wants) ∙ ap wanted_root (left_alike.alike other name n naming)
        ∙ ap (λ y. wanted_root (yield_to (named name) y)) wants

    required : (other : ℕ → ℕ) → IsNaming s.roots h.who roots other →
        pointed (filter (is_of K.root K.field) N) ≡ map (requirement_named other) (requirements_of s.tree (needs_on g root.0 field).items)
    required other n =
        pointed_filter (is_of K.root K.field) N
        ∙ (λ j. filter (is_of (sym (same_name other n) j) field) (x.0.seen.required other n j))
        ∙ filter_to other (same_root (named other) n.one) root.0 field (requirements_of s.tree (operation_at s k).frame.needs.items)
        ∙ ap (map (requirement_named other)) (required_filter s.tree root.0 field (operation_at s k).frame.needs.items)
        ∙ ap (λ (ns : Needs). map (requirement_named other) (requirements_of s.tree (filter (is_on root.0 field) ns.items))) (sym (left_alike.kept g goes).0)

    waits_for : WaitsFor s.waits.knots (filter (is_of K.root K.field) N) (siblings job (operation_at s k).children is) on
    waits_for = waits_are_listed job s b h v k before_it above D N i f ps (out w d) is x below (needs_on g root.0 field).items (filter (is_of K.root K.field) N) required

    pauses : Pauses job s b h k v at claim before act g goes (wait.Part root field) waited on no_beginning refl before_it above D N i f ps w d is
    pauses = record {
      given = given_is job s b h k v at claim before act before_it above D N i f ps w d is below x (yield.Want root field) wants;
      waits = ((wants_are_needed before root field wants).needed g goes, (wants_are_needed before root field wants).none, (refl, λ other n. same_name other n));
      awaits = waits_for;
      fails = sym (children_bad job s h.who b.ways (makings_before job b k v) (filter (is_of K.root K.field) N) v k 0 [] roots (operation_at s k).children is x.1)
          ∙ sym (waits_are_told s.waits.knots (filter (is_of K.root K.field) N) (siblings job (operation_at s k).children is) on
          (children_ordered job s h.who b.ways v k 0 [] roots (operation_at s k).children is x.1 tt) waits_for).failed;
    }

  abbrev then : State
  then = u job s b h k v at claim before act g goes (wait.Part root field) waited on no_beginning refl pauses

  yields : yielded_by job s k before ≡ then
  yields =
      let o = behind_segment (operation_at s k) (segment before) in
      let row : operation_at (with_operation s k o) k ≡ o = get_or-set_same s.operations k o no_operation
      (has_begun job s b h k v at claim before act).within in
      ap (yielded job.code job.turns (with_operation s k o) k) wants
      ∙ (λ j. parked_for (with_operation s k o) k (wait.Part root field) (graph.Part (needs_on (row j).frame root.0 field)))
      ∙ (λ j. parked_for (with_operation s k o) k (wait.Part root field) (graph.Part (needs_on (frame_left (operation_at s k).frame (goes j)) root.0 field)))
      ∙ (λ j. record then {
        operations = (ap (λ (q : Operation). set (set s.operations k o) k (record q { wait = wait.Part root field })) row
            ∙ set-set s.operations k o (record o { wait = wait.Part root field })) j;
      })

  wants_here : Opens job b k v s before
  wants_here = pauses_open job s b h k v at claim before act g goes (wait.Part root field) waited on no_beginning refl pauses yields

pub wants_open : WantsOpen
wants_open job s b h k v at claim before act is = wants_here job s b h k v at claim before act is.0 is.1 is.2
