-- What a board's state shows that the steps take for granted.
use Rattle.std.proofs.Common.{◌≡◌, ⊎_elim, ℕ, zero, suc, ◌<◌, ◌≤◌, ◌++◌, ◌==◌, ◌&&◌, ◌||◌, List, [], ◌∷◌, Bool, true, false, Some, refl, sym, ap, ◌∙◌, subst, length, eqb-true}
use Rattle.std.specs.Prelude.{All}
use Rattle.std.proofs.lemmas.Bool.{and_parts, cases_lt, false≢true}
use Rattle.std.proofs.lemmas.List.{get_or_past}
use Rattle.std.proofs.lemmas.List.Elements.{All-head, All-tail}
use Rattle.std.proofs.lemmas.Option.{none-some, same_Some}
use Rattle.region_tree.specs.Trees.{RegionTree, points_of_content, set_at}
use Rattle.region_tree.specs.declared.needs.Need.{Need}
use Rattle.region_tree.specs.declared.tree.RootId.{RootId}
use Rattle.logical_map.specs.Maps.{LogicalMap, columns_of}
use Rattle.dependence_graph.specs.Entries.{Knot}
use Rattle.dependence_graph.specs.Knots.{all_done, is_idle, knot_at, no_knot}
use Rattle.dependence_graph.specs.declared.stage.Stage.{Stage as Knotted}
use Rattle.dependence_graph.specs.declared.stage.Stage.TheVariants as knot
use Rattle.task_code.specs.declared.job.Job.{Job}
use Rattle.machine_terms.specs.declared.frame.Before.{Before}
use Rattle.machine_terms.specs.declared.outcome.CallOut.{CallOut}
use Rattle.machine_terms.specs.declared.outcome.Yield.TheVariants as yield
use Rattle.machine_terms.specs.declared.value.RegionValue.{RegionValue}
use Rattle.machine_terms.specs.declared.value.Value.{Value}
use Rattle.machine_terms.specs.declared.value.Value.TheVariants as value
use Rattle.machine_terms.specs.Parts.{is_needed}
use Rattle.machine_terms.specs.Pointers.{region_in}
use Rattle.machine_terms.specs.Segments.{segment}
use Rattle.board_rules.specs.Boards.{Ending, Operation as Node, at_fault, by, closing, dropped, filling, idle, op, out, over, stopped}
use Rattle.board_rules.specs.Ground.{Ground}
use Rattle.board_rules.specs.NumberedBoards.{Board}
use Rattle.regent_boards.specs.RegentMachine.{regent_ground}
use Rattle.segment_regions.specs.Values.{YieldHas}
use Rattle.code_boards.specs.Views.{spaces_of}
use Rattle.board_terms.specs.declared.claim.Claim.{Claim}
use Rattle.board_terms.specs.declared.operation.Activity.{Activity}
use Rattle.board_terms.specs.declared.operation.Activity.TheVariants as activity
use Rattle.board_terms.specs.declared.operation.Operation.{Operation}
use Rattle.board_terms.specs.Stages.{may_be_claimed}
use Rattle.board_terms.specs.States.{State, operation_at}
use Rattle.board_trees.specs.Frames.{HasPlaces}
use Rattle.board_trees.specs.Places.{LeavesPlaces}
use Rattle.board_trees.specs.Shows.{Shows, ShowsBoard}
use Rattle.board_trees.specs.Stages.{HasFailed, HasValue, MayFail, WasStopped}
use Rattle.board_trees.specs.Waits.{Sibling}
use Rattle.board_trees.proofs.Found.{Found, found}
use Rattle.changed_trees.specs.Changes.{IsAt}
use Rattle.changed_trees.proofs.Listed.{way_found}
use Rattle.yielded_trees.proofs.Found.{known_out}
use Rattle.yielded_trees.proofs.Out.{leaves_places}
use Rattle.fit_rules.specs.Shapes.{Each}
use Rattle.fit_boards.specs.Boards.{ShownIsKnown}
use Rattle.fit_boards.specs.Steps.{ArePlaced, IsFilling}
use Rattle.fit_boards.proofs.Rows.{IsBusy, within_by}

-- ---- regions that are handed on

placed_args : (t : RegionTree) (vs : List Value) → All (HasPlaces t) vs → ArePlaced t vs
placed_args t [] h i r e = absurd (none-some r e)
placed_args t (v ∷ vs) h (suc i) r e = placed_args t vs (All-tail (HasPlaces t) v vs h) i r e
placed_args t (v ∷ vs) h zero r e = of v (All-head (HasPlaces t) v vs h) e
  where
    of : (v : Value) → HasPlaces t v → region_in (Some v) ≡ Some r → (r.node.0 < length t.nodes) × (set_at t r.node.0 ≡ r.points)
    of (value.Region q) p e = subst (λ (z : RegionValue). (z.node.0 < length t.nodes) × (set_at t z.node.0 ≡ z.points)) (same_Some q r e) (p.there, ap points_of_content p.points)
    of (value.Number z) p e = absurd (none-some r e)
    of (value.Space n) p e = absurd (none-some r e)
    of (value.Partition q) p e = absurd (none-some r e)
    of (value.Pending n) p e = absurd (none-some r e)

placed_calls : (t : RegionTree) (cs : List CallOut) → All (λ (c : CallOut). All (HasPlaces t) c.args) cs → Each (λ (c : CallOut). ArePlaced t c.args) cs
placed_calls t [] h = tt
placed_calls t (c ∷ cs) h =
    (placed_args t c.args (All-head (λ (c : CallOut). All (HasPlaces t) c.args) c cs h), placed_calls t cs (All-tail (λ (c : CallOut). All (HasPlaces t) c.args) c cs h))

-- ---- fields that are there

abbrev AreFields : LogicalMap → List Need → Type 0
AreFields live ns = All (λ (n : Need). n.field < length (columns_of live n.root.0)) ns

field_there : (live : LogicalMap) (root field : ℕ) (ns : List Need) → AreFields live ns → is_needed ns root field ≡ true → field < length (columns_of live root)
field_there live root field [] h e = absurd cc
field_there live root field (n ∷ ns) h e = of ((n.root.0 == root) && (n.field == field)) refl (field_there live root field ns (All-tail (λ (n : Need). n.field < length (columns_of live n.root.0)) n ns h)) e
  where
    of : (b : Bool) → (n.root.0 == root) && (n.field == field) ≡ b → (is_needed ns root field ≡ true → field < length (columns_of live root)) → (b || is_needed ns root field) ≡ true →
        field < length (columns_of live root)
    of true q more e =
        let a = and_parts (n.root.0 == root) (n.field == field) q in
        subst (λ f. f < length (columns_of live root)) (eqb-true n.field field a.1)
        (subst (λ r. n.field < length (columns_of live r)) (eqb-true n.root.0 root a.0) (All-head (λ (n : Need). n.field < length (columns_of live n.root.0)) n ns h))
    of false q more e = more e

module _ (job : Job) (s : State) (b : Board (regent_ground (spaces_of job.code))) (h : ShowsBoard job s b) (k : ℕ) where
  abbrev G : Ground
  G = regent_ground (spaces_of job.code)

  abbrev o : Operation
  o = operation_at s k

  abbrev stage : Knotted
  stage = (knot_at s.waits.knots k).stage

  -- ---- where it stands in the tree

  way_of : k < length s.operations → (v : List ℕ) × IsAt job b.ways k v
  way_of l = way_found job b.ways k (subst (λ n. k < n) (sym h.ways) l)

  place : k < length s.operations → Found job s h.who b.ways k
  place l = let w = way_of l in found job s h.who b.ways k w.0 [] 0 [] [] b.state.tree h.shows (h.leads k w.0 w.1)

  never : {A : Type 0} (x : Knotted) → stage ≡ x → is_idle x ≡ false → is_idle stage ≡ true → A
  never x e f t = absurd (false≢true (sym (ap is_idle e ∙ f) ∙ t))

  -- one that the graph calls idle does nothing, and its fields are there
  when_idle : (w : List ℕ) (earlier : List Sibling) (above : List RootId) (n : Node G) → Shows job s h.who b.ways w k earlier above n → is_idle stage ≡ true →
      (o.activity ≡ activity.Idle) × AreFields s.map o.frame.needs.items
  when_idle w earlier above (op D N i f ps (idle x) is) g t = (g.0.stands.1.0, g.0.seen.fields)
  when_idle w earlier above (op D N i f ps (filling x d l) is) g t = never knot.Begun g.0.stands.0 refl t
  when_idle w earlier above (op D N i f ps (out x d) is) g t = never knot.Begun g.0.stands.0 refl t
  when_idle w earlier above (op D N i f ps (closing x) is) g t = ⊎_elim (λ c. never knot.Begun c.0 refl t) (λ c. never knot.Stopped c.0 refl t) g.0.stands
  when_idle w earlier above (op D N i f ps (over x) is) g t = ⊎_elim (λ c. never knot.Done c.0 refl t) (λ c. never knot.Failed c.0 refl t) g.0.stands
  when_idle w earlier above (op D N i f ps dropped is) g t = never knot.Dropped g.0.stands.0 refl t

  -- ---- one that is being filled

  module _ (fills : IsFilling o.activity) where
    other : {A : Type 0} (a : Activity) → o.activity ≡ a → (IsFilling a → ⊥) → A
    other a e f = absurd (f (subst IsFilling e fills))

    not_stopped : {A : Type 0} (roots : List RootId) (x : Ending G) → WasStopped job.code s.roots h.who roots o x → A
    not_stopped roots (by v) g = absurd g
    not_stopped roots (at_fault y) g = absurd g
    not_stopped roots stopped g = other activity.Idle g (λ z. z)

    not_valued : {A : Type 0} (x : Ending G) → HasValue job.code o x → A
    not_valued (by v) g = other _ g (λ z. z)
    not_valued (at_fault y) g = absurd g
    not_valued stopped g = absurd g

    not_failed : {A : Type 0} (x : Ending G) → HasFailed job.code o x → A
    not_failed (by v) g = absurd g
    not_failed (at_fault y) g = other (activity.Closing g.own) g.activity_is (λ z. z)
    not_failed stopped g = of o.activity fills g
      where
        of : {B : Type 0} (a : Activity) → IsFilling a → MayFail job.code a → B
        of activity.Idle f m = absurd f
        of (activity.Filling c x) f m = absurd m
        of (activity.Out c x) f m = absurd f
        of (activity.Closing x) f m = absurd f

    when_filling : (w : List ℕ) (earlier : List Sibling) (above : List RootId) (n : Node G) → Shows job s h.who b.ways w k earlier above n → AreFields s.map o.frame.needs.items
    when_filling w earlier above (op D N i f ps (idle x) is) g = other activity.Idle g.0.stands.1.0 (λ z. z)
    when_filling w earlier above (op D N i f ps (filling x d l) is) g = g.0.seen.fields
    when_filling w earlier above (op D N i f ps (out x d) is) g = g.0.seen.fields
    when_filling w earlier above (op D N i f ps (closing x) is) g =
        ⊎_elim (λ c. other (activity.Closing c.1.own) c.1.activity_is (λ z. z)) (λ c. not_stopped (above ++ o.frame.own) x c.1) g.0.stands
    when_filling w earlier above (op D N i f ps (over x) is) g = ⊎_elim (λ c. not_valued x c.1) (λ c. not_failed x c.1) g.0.stands
    when_filling w earlier above (op D N i f ps dropped is) g = other activity.Idle g.0.stands.1.0 (λ z. z)

    filling_fields : AreFields s.map o.frame.needs.items
    filling_fields = let p = place (within_by s k (busy o.activity fills)) in when_filling p.way p.earlier p.above p.node p.shows
      where
        busy : (a : Activity) → IsFilling a → IsBusy a
        busy activity.Idle f = f
        busy (activity.Filling c x) f = tt
        busy (activity.Out c x) f = tt
        busy (activity.Closing x) f = tt

  -- ---- one that may be claimed

  module _ (ready : may_be_claimed s k ≡ true) where
    is_idle_there : is_idle stage ≡ true
    is_idle_there = (and_parts (is_idle stage) (all_done s.waits.knots (knot_at s.waits.knots k).on) ready).0

    claim_there : k < length s.operations
    claim_there = ⊎_elim (λ l. l)
        (λ m. absurd (false≢true (ap (λ (x : Knot). is_idle x.stage) (sym (get_or_past s.waits.knots k no_knot (subst (λ n. n ≤ k) (sym h.knots) m))) ∙ is_idle_there)))
        (cases_lt k (length s.operations))

    claim_known : (o.activity ≡ activity.Idle) × AreFields s.map o.frame.needs.items
    claim_known = let p = place claim_there in when_idle p.way p.earlier p.above p.node p.shows is_idle_there

  -- ---- one that is out

  module _ (c : Claim) (before : Before) (act : o.activity ≡ activity.Out c before) where
    pub out_places : LeavesPlaces s.tree (segment before)
    out_places =
        let w = way_of (within_by s k (subst IsBusy (sym act) tt)) in
        known_out job s b h k w.0 w.1 c before act (λ earlier above D N i f ps x d is below g. leaves_places job s b h k w.0 w.1 c before act earlier above D N i f ps x d is below g)

    pub out_calls : (cs : List CallOut) → (segment before).ends ≡ yield.Calls cs → Each (λ (q : CallOut). ArePlaced s.tree q.args) cs
    out_calls cs e = placed_calls s.tree cs (subst (YieldHas (HasPlaces s.tree)) e out_places.yields)

pub shown_is_known : ShownIsKnown
shown_is_known job s b h = record {
  idle = λ k ready. (claim_there job s b h k ready, (claim_known job s b h k ready).0);
  fields = λ k which root field needed. field_there s.map root field (operation_at s k).frame.needs.items
      (⊎_elim (λ ready. (claim_known job s b h k ready).1) (λ fills. filling_fields job s b h k fills) which) needed;
  regions = λ k c before act cs e. out_calls job s b h k c before act cs e;
}
