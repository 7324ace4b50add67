-- Operations in progress, of a state that shows a board of the laws.
use Rattle.std.proofs.Common.{◌≡◌, ◌++◌, ◌∙◌, ⊎_elim, ℕ, List, [], ap, false, length, not, refl, subst, sym, true}
use Rattle.std.specs.Prelude.{All}
use Rattle.std.specs.List.{Contains}
use Rattle.std.proofs.lemmas.Bool.{and_from, false≢true}
use Rattle.region_finder.specs.Listings.{Listed}
use Rattle.region_tree.specs.Needs.{requirements_of}
use Rattle.region_tree.specs.Requirements.{Requirement, interfere}
use Rattle.region_tree.specs.declared.needs.Need.{Need}
use Rattle.region_tree.specs.declared.piece.Part.{Part}
use Rattle.region_tree.specs.declared.tree.OpNumber.{OpNumber}
use Rattle.region_tree.specs.declared.tree.RootId.{RootId}
use Rattle.dependence_graph.specs.Knots.{knot_at}
use Rattle.dependence_graph.specs.declared.stage.Stage.{Stage as Knotted}
use Rattle.task_code.specs.declared.job.Job.{Job}
use Rattle.board_rules.specs.Apart.{begins, in_progress, needs_now}
use Rattle.board_rules.specs.Boards.{Operation as Node, Stage as BoardStage, child, closing, dropped, filling, first, idle, is_over as tree_over, is_waiting, needs_of, nothing, op, out, over, part}
use Rattle.board_rules.specs.Ground.{Ground}
use Rattle.board_rules.specs.NumberedBoards.{Board}
use Rattle.board_rules.specs.Processes.{Apart}
use Rattle.board_laws.proofs.Good.{apart_turned}
use Rattle.board_laws.proofs.Reaching.{apart_inside, by_test}
use Rattle.progress_laws.specs.Progress.{IssuedIsNeeded, ProgressIsApart}
use Rattle.regent_boards.specs.Frames.{Location}
use Rattle.regent_boards.specs.RegentMachine.{regent_ground}
use Rattle.regent_boards.proofs.NeedRenaming.{interfere_to}
use Rattle.segment_renaming.proofs.Alike.{same_root}
use Rattle.code_boards.specs.Views.{spaces_of}
use Rattle.board_terms.specs.declared.extent.Extent.{Extent}
use Rattle.board_terms.specs.declared.operation.Operation.{Operation}
use Rattle.board_terms.specs.declared.operation.Wait.{Wait}
use Rattle.board_terms.specs.declared.operation.Wait.TheVariants as wait
use Rattle.board_terms.specs.Stages as table
use Rattle.board_terms.specs.Stages.{by_wait, is_in_progress, is_over, stage_at, stage_of}
use Rattle.board_terms.specs.States.{State, operation_at}
use Rattle.board_trees.specs.Names.{named}
use Rattle.board_trees.specs.Shows.{Shows, ShowsBoard}
use Rattle.board_trees.specs.Stages.{IsWait, Stands}
use Rattle.board_trees.proofs.Settled.{node_told}
use Rattle.changed_trees.proofs.Interfere.{interfere_pointed}
use Rattle.journal_progress.specs.Laws.{IsAbove, IsOfOwn}
use Rattle.journal_progress.proofs.Callers.{begins_above, climbs}
use Rattle.journal_progress.proofs.Needs.{apart_needs}
use Rattle.journal_progress.proofs.Own.{needs_above, with_own_apart}
use Rattle.journal_progress.proofs.Places.{Placed, is_there, listed_needs, name, naming, placed}

-- ---- what is in progress

pub not_over : (st : table.Stage) → is_in_progress st ≡ true → is_over st ≡ false
not_over table.waiting e = refl
not_over table.filling e = refl
not_over table.out e = refl
not_over table.parked e = refl
not_over table.closing e = refl
not_over table.ended e = absurd (false≢true e)
not_over table.failed e = absurd (false≢true e)
not_over table.dropped e = absurd (false≢true e)

module _ (job : Job) where
  abbrev G : Ground
  G = regent_ground (spaces_of job.code)

  module _ (extents : List Extent) (who : ℕ → ℕ) (roots : List RootId) (s : State) (kn : Knotted) (o : Operation) (N : List Requirement) where
    no_beginning : (needs : List Need) (parts : List Part) (children : List OpNumber) (w : Wait) → IsWait job.code extents who roots needs parts children w first → is_in_progress (by_wait w) ≡ true → ⊥
    no_beginning needs parts children wait.Beginning h e = false≢true e
    no_beginning needs parts children wait.Nothing h e = h
    no_beginning needs parts children (wait.Part root field) h e = h
    no_beginning needs parts children (wait.Child n) h e = h

    has_begun : (st : BoardStage G) → Stands job.code extents who roots s kn o N st → is_in_progress (stage_of kn o.wait o.activity) ≡ true → is_waiting G st ≡ false
    has_begun (idle first) h e = absurd (⊎_elim
        (λ q. false≢true (ap (λ x. is_in_progress (stage_of x o.wait o.activity)) (sym q) ∙ e))
        (λ q. no_beginning o.frame.needs.items o.parts o.children o.wait h.1.1 (ap (λ x. is_in_progress (stage_of x o.wait o.activity)) (sym q) ∙ e)) h.0)
    has_begun (idle nothing) h e = refl
    has_begun (idle (part k)) h e = refl
    has_begun (idle (child c)) h e = refl
    has_begun (filling w d l) h e = refl
    has_begun (out w d) h e = refl
    has_begun (closing x) h e = refl
    has_begun (over x) h e = refl
    has_begun dropped h e = refl

  module _ (s : State) (b : Board G) (h : ShowsBoard job s b) where
    abbrev At : ℕ → Type 0
    At k = Placed job s b h k

    goes : (k : ℕ) (g : At k) → is_in_progress (stage_at s k) ≡ true → in_progress G g.there.node ≡ true
    goes k g e = by_node g.there.node g.there.shows
      where
        by_node : (n : Node G) → Shows job s h.who b.ways g.there.at k g.there.earlier g.there.above n → in_progress G n ≡ true
        by_node (op D N i f ps st is) r = and_from (not (is_waiting G st)) (not (tree_over G st))
            (ap not (has_begun s.roots h.who (g.there.above ++ (operation_at s k).frame.own) s (knot_at s.waits.knots k).stage (operation_at s k) N st r.0.stands e))
            (ap not (sym (node_told job s h.who b.ways g.there.at k g.there.earlier g.there.above (op D N i f ps st is) r).is_over ∙ not_over (stage_at s k) e))

    -- main is above all
    pub main_above : (k : ℕ) → At k → IsAbove s 0 k
    main_above k g = (length g.way, climbs job s h.who b.ways g.way [] 0 k [] [] b.state.tree h.shows g.leads)

    -- where the one isn't above the other, its way doesn't begin the other's
    apart_ways : (j k : ℕ) (v : At j) (w : At k) → ¬ IsAbove s j k → begins G v.way w.way ≡ false
    apart_ways j k v w below = by_test (begins G v.way w.way) (λ t. begins G v.way w.way ≡ t → begins G v.way w.way ≡ false)
        (λ e q. absurd (below (begins_above job s h.who b.ways v.way w.way [] 0 j k [] [] b.state.tree h.shows v.leads w.leads e))) (λ e q. e) refl

    module _ (apart : ProgressIsApart G b) (issued : IssuedIsNeeded G b) where
      issued_apart : (j k : ℕ) (v : At j) (w : At k) → is_in_progress (stage_at s j) ≡ true → is_in_progress (stage_at s k) ≡ true → ¬ IsAbove s j k → ¬ IsAbove s k j →
          (l : Location) → Apart G (G.at (needs_of G v.there.node) l) (G.at (needs_of G w.there.node) l)
      issued_apart j k v w ej ek jk kj l =
          let now = apart v.way w.way v.there.node w.there.node v.there.found w.there.found (apart_ways j k v w jk) (apart_ways k j w v kj) (goes j v ej) (goes k w ek) l in
          let later = apart_inside G (G.at (needs_now G v.there.node) l) (G.at (needs_of G w.there.node) l) (G.at (needs_now G w.there.node) l) now (issued w.way w.there.node w.there.found l) in
          apart_turned G (G.at (needs_of G w.there.node) l) (G.at (needs_of G v.there.node) l)
          (apart_inside G (G.at (needs_of G w.there.node) l) (G.at (needs_of G v.there.node) l) (G.at (needs_now G v.there.node) l)
          (apart_turned G (G.at (needs_now G v.there.node) l) (G.at (needs_of G w.there.node) l) later) (issued v.way v.there.node v.there.found l))

      pub none_interfere : (x y : Listed) → Contains s.waits.listing x → Contains s.waits.listing y → is_in_progress (stage_at s x.op.0) ≡ true → is_in_progress (stage_at s y.op.0) ≡ true →
          ¬ IsAbove s x.op.0 y.op.0 → ¬ IsAbove s y.op.0 x.op.0 → interfere (requirements_of s.tree x.issued) (requirements_of s.tree y.issued) ≡ false
      none_interfere x y c d ex ey xy yx =
          let ox = not_over (stage_at s x.op.0) ex in
          let oy = not_over (stage_at s y.op.0) ey in
          let v = placed job s b h x.op.0 (is_there job s b h x.op.0 ox) in
          let w = placed job s b h y.op.0 (is_there job s b h y.op.0 oy) in
          let first_needs = listed_needs job s b h x c ox v (λ q. xy (subst (λ z. IsAbove s z y.op.0) (sym q) (main_above y.op.0 w))) in
          let second_needs = listed_needs job s b h y d oy w (λ q. yx (subst (λ z. IsAbove s z x.op.0) (sym q) (main_above x.op.0 v))) in
          let to = name job s b h in
          sym (interfere_to to (same_root (named to) (naming job s b h v.there.above v.there.made).one) (requirements_of s.tree x.issued) (requirements_of s.tree y.issued))
          ∙ (λ i. interfere (sym first_needs i) (sym second_needs i)) ∙ interfere_pointed (needs_of G v.there.node) (needs_of G w.there.node)
          ∙ apart_needs (spaces_of job.code) (needs_of G v.there.node) (needs_of G w.there.node) (issued_apart x.op.0 y.op.0 v w ex ey xy yx)

    module _ (apart : ProgressIsApart G b) (issued : IssuedIsNeeded G b) where
      -- with roots that they made themselves
      pub none_with_own : (x y : Listed) → Contains s.waits.listing x → Contains s.waits.listing y → is_in_progress (stage_at s x.op.0) ≡ true → is_in_progress (stage_at s y.op.0) ≡ true →
          ¬ IsAbove s x.op.0 y.op.0 → ¬ IsAbove s y.op.0 x.op.0 → (own_first own_second : List Requirement) → All (IsOfOwn s x.op.0) own_first → All (IsOfOwn s y.op.0) own_second →
          interfere (requirements_of s.tree x.issued ++ own_first) (requirements_of s.tree y.issued ++ own_second) ≡ false
      none_with_own x y c d ex ey xy yx own_first own_second f g =
          let ox = not_over (stage_at s x.op.0) ex in
          let oy = not_over (stage_at s y.op.0) ey in
          let v = placed job s b h x.op.0 (is_there job s b h x.op.0 ox) in
          let w = placed job s b h y.op.0 (is_there job s b h y.op.0 oy) in
          with_own_apart job s b h x y xy yx
          (needs_above job s b h x c ox v (λ q. xy (subst (λ z. IsAbove s z y.op.0) (sym q) (main_above y.op.0 w))))
          (needs_above job s b h y d oy w (λ q. yx (subst (λ z. IsAbove s z x.op.0) (sym q) (main_above x.op.0 v))))
          (none_interfere apart issued x y c d ex ey xy yx) own_first own_second f g
