-- Operations of a state that shows a board of the laws: their places in the tree, and their entries in the graph's list.
use Rattle.std.proofs.Common.{◌≡◌, ◌<◌, ◌≤◌, ◌⊎◌, ◌++◌, ◌∙◌, ◌-◌, ⊎_elim, ℕ, List, Some, [], ap, arith, false, inl, inr, length, map, not, refl, subst, sym}
use Rattle.std.specs.List.{Contains}
use Rattle.std.proofs.lemmas.Bool.{cases_lt, false≢true}
use Rattle.std.proofs.lemmas.List.{get_or_past}
use Rattle.std.proofs.lemmas.List.Elements.{All-nil}
use Rattle.region_finder.specs.Listings.{Listed}
use Rattle.region_tree.specs.Needs.{AreNeeds, requirements_of}
use Rattle.region_tree.specs.declared.tree.OpNumber.{OpNumber}
use Rattle.region_tree.specs.declared.tree.RootId.{RootId}
use Rattle.dependence_graph.specs.Entries.{Knot}
use Rattle.dependence_graph.specs.Knots.{is_done, knot_at, no_knot, number}
use Rattle.dependence_graph.specs.declared.stage.Stage.{Stage as Knotted}
use Rattle.dependence_graph.specs.declared.stage.Stage.TheVariants as knot
use Rattle.task_code.specs.declared.job.Job.{Job}
use Rattle.board_rules.specs.Apart.{find}
use Rattle.board_rules.specs.Boards.{Operation as Node, needs_of, op}
use Rattle.board_rules.specs.Ground.{Ground}
use Rattle.board_rules.specs.NumberedBoards.{Board}
use Rattle.board_rules.specs.RootNumbers.{made_in}
use Rattle.regent_boards.specs.RegentMachine.{regent_ground}
use Rattle.code_boards.specs.Laws.{machine_of}
use Rattle.code_boards.specs.Views.{spaces_of}
use Rattle.board_terms.specs.declared.operation.Activity.{Activity}
use Rattle.board_terms.specs.declared.operation.Operation.{Operation}
use Rattle.board_terms.specs.declared.operation.Wait.{Wait}
use Rattle.board_terms.specs.Stages.{is_over, stage_at, stage_of}
use Rattle.board_terms.specs.States.{State, no_operation, operation_at}
use Rattle.board_trees.specs.Names.{IsNaming, pointed, requirement_named}
use Rattle.board_trees.specs.Shows.{IsListed, Leads, Shows, ShowsBoard, needs_issued}
use Rattle.board_trees.specs.Waits.{Sibling, has_ended}
use Rattle.board_trees.proofs.Named.{is_naming, named_all}
use Rattle.board_trees.proofs.Told.{stage_there}
use Rattle.changed_trees.proofs.Listed.{way_found}
use Rattle.journal_progress.proofs.Callers.{IsOwned, Reached, WereMade, child_at, place_of, reached}
use Rattle.journal_progress.proofs.Listings.{one_entry}

unended : (kn : Knotted) (w : Wait) (a : Activity) → is_over (stage_of kn w a) ≡ false → is_done (Some kn) ≡ false
unended knot.Waiting w a e = refl
unended knot.Begun w a e = refl
unended knot.Parked w a e = refl
unended knot.Stopped w a e = refl
unended knot.Done w a e = absurd (false≢true (sym e))
unended knot.Failed w a e = refl
unended knot.Dropped w a e = refl

module _ (job : Job) where
  abbrev G : Ground
  G = regent_ground (spaces_of job.code)

  issued_is : (n : Node G) → needs_issued job n ≡ needs_of G n
  issued_is (op D N i f ps st is) = refl

  module _ (s : State) (b : Board G) (h : ShowsBoard job s b) where
    -- ---- places

    abbrev There : ℕ → List ℕ → Type 0
    There k way = Reached job s h.who b.ways k (find G way b.state.tree)

    pub record Placed (k : ℕ) : Type 0 where
      pub way : List ℕ
      pub leads : Leads job s 0 way k
      pub there : There k way

    pub placed : (k : ℕ) → k < length s.operations → Placed k
    placed k l =
        let w = way_found job b.ways k (subst (λ n. k < n) (sym h.ways) l) in
        let leads = h.leads k w.0 w.1 in
        record {
          way = w.0;
          leads = leads;
          there = reached job s h.who b.ways h.own_made w.0 [] 0 k [] [] b.state.tree h.shows (All-nil (λ (r : RootId). r.0 < length s.roots))
              (All-nil (IsOwned job s h.who b.ways k)) (inl refl) leads;
        }

    -- one that has children was issued
    pub has_children : (k : ℕ) (o : OpNumber) → Contains (operation_at s k).children o → k < length s.operations
    has_children k o c = ⊎_elim (λ l. l) (λ l. absurd (none (subst (λ (x : Operation). Contains x.children o) (get_or_past s.operations k no_operation l) c))) (cases_lt k (length s.operations))
      where
        none : Contains [] o → ⊥
        none c = omega (arith, c.1)

    shown_within : (way : List ℕ) (k : ℕ) (earlier : List Sibling) (above : List RootId) (n : Node G) → Shows job s h.who b.ways way k earlier above n → k < length s.operations
    shown_within way k earlier above (op D N i f ps st is) r = r.0.within

    -- and so were its children, later
    pub issued_child : (k : ℕ) (o : OpNumber) → Contains (operation_at s k).children o → (k < o.0) × (o.0 < length s.operations)
    issued_child k o c = by_node at.there.node at.there.shows
      where
        at : Placed k
        at = placed k (has_children k o c)

        by_node : (n : Node G) → Shows job s h.who b.ways at.there.at k at.there.earlier at.there.above n → (k < o.0) × (o.0 < length s.operations)
        by_node (op D N i f ps st is) r =
            let place = place_of job s h.who b.ways (operation_at s k).children o c in
            let kid = child_at job s h.who b.ways place.0 at.there.at k 0 [] (at.there.above ++ (operation_at s k).frame.own) (operation_at s k).children is o.0 r.1 r.0.listed place.1 in
            (kid.child.later, shown_within kid.at o.0 kid.earlier (at.there.above ++ (operation_at s k).frame.own) kid.node kid.shows)

    -- what isn't over was issued
    pub is_there : (k : ℕ) → is_over (stage_at s k) ≡ false → k < length s.operations
    is_there k e = ⊎_elim (λ l. l) (λ l. absurd (false≢true (sym e ∙ ap (λ (x : Knot). is_over (stage_of x.stage (operation_at s k).wait (operation_at s k).activity))
        (get_or_past s.waits.knots k no_knot (subst (λ n. n ≤ k) (sym h.knots) l))))) (cases_lt k (length s.operations))

    -- ---- entries

    pub still_listed : (k : ℕ) → is_over (stage_at s k) ≡ false → has_ended s.waits.knots k ≡ false
    still_listed k e = ap is_done (stage_there s.waits.knots k (subst (λ n. k < n) (sym h.knots) (is_there k e)))
        ∙ unended (knot_at s.waits.knots k).stage (operation_at s k).wait (operation_at s k).activity e

    pub entry_of : (k : ℕ) → has_ended s.waits.knots k ≡ false → (g : Placed k) → (k ≡ 0) ⊎ ((j : ℕ) × (later : List Sibling) × IsListed job s h.who g.there.above j k (needs_issued job g.there.node) later)
    entry_of k e g = ⊎_elim inl (λ q. inr (q.0, q.1, q.3 e)) g.there.called

    pub is_listed : (k : ℕ) → is_over (stage_at s k) ≡ false → (k ≡ 0) ⊎ ((x : Listed) × Contains s.waits.listing x × (x.op ≡ number k))
    is_listed k e = ⊎_elim inl (λ q. inr (q.2.entry, q.2.there, q.2.op_is)) (entry_of k (still_listed k e) (placed k (is_there k e)))

    abbrev pub name : ℕ → ℕ
    name = named_all s.roots h.who (made_in G (machine_of job) b.state.tree) h.made 0

    pub naming : (roots : List RootId) → WereMade job s h.who b.ways roots → IsNaming s.roots h.who roots name
    naming roots made = is_naming s.roots h.who (made_in G (machine_of job) b.state.tree) h.made 0 roots made

    -- it has no other entry
    pub entry_here : (x : Listed) → Contains s.waits.listing x → (j : ℕ) (roots : List RootId) (n : Node G) (later : List Sibling) (l : IsListed job s h.who roots j x.op.0 (needs_issued job n) later) → l.entry ≡ x
    entry_here x c j roots n later l = one_entry s.waits.listing (λ k. not (has_ended s.waits.knots k)) (length s.operations - 1) h.listed l.entry x l.there c (ap (λ (k : OpNumber). k.0) l.op_is)

    -- the entry of an operation has the needs with which it was issued, which are of regions
    pub entry_needs : (x : Listed) → Contains s.waits.listing x → (j : ℕ) (roots : List RootId) (n : Node G) (later : List Sibling) → WereMade job s h.who b.ways roots →
        IsListed job s h.who roots j x.op.0 (needs_issued job n) later → pointed (needs_of G n) ≡ map (requirement_named name) (requirements_of s.tree x.issued)
    entry_needs x c j roots n later made l = ap pointed (sym (issued_is n)) ∙ l.issued name (naming roots made)
        ∙ ap (λ (y : Listed). map (requirement_named name) (requirements_of s.tree y.issued)) (entry_here x c j roots n later l)

    pub listed_needs : (x : Listed) → Contains s.waits.listing x → is_over (stage_at s x.op.0) ≡ false → (g : Placed x.op.0) → ¬ (x.op.0 ≡ 0) →
        pointed (needs_of G g.there.node) ≡ map (requirement_named name) (requirements_of s.tree x.issued)
    listed_needs x c e g called = ⊎_elim (λ q. absurd (called q)) (λ q. entry_needs x c q.0 g.there.above g.there.node q.1 g.there.made q.2) (entry_of x.op.0 (still_listed x.op.0 e) g)

    pub listed_placed : (x : Listed) → Contains s.waits.listing x → is_over (stage_at s x.op.0) ≡ false → (g : Placed x.op.0) → ¬ (x.op.0 ≡ 0) → AreNeeds s.tree x.issued
    listed_placed x c e g called = ⊎_elim (λ q. absurd (called q))
        (λ q. subst (λ (y : Listed). AreNeeds s.tree y.issued) (entry_here x c q.0 g.there.above g.there.node q.1 q.2) q.2.placed) (entry_of x.op.0 (still_listed x.op.0 e) g)
