-- What an operation waits for, of a state that shows a board of the laws: by the graph's list, and by what hasn't ended.
use Rattle.std.proofs.Common.{◌≡◌, ◌<◌, ◌++◌, ◌∷◌, ◌∙◌, ◌&&◌, ◌||◌, ⊎_elim, ℕ, zero, suc, Bool, List, Some, [], ap, cond, false, filter, length, map, not, refl, subst, sym, true}
use Rattle.std.specs.Prelude.{All, slice_get}
use Rattle.std.specs.List.{Contains, list_all, list_any}
use Rattle.std.proofs.lemmas.Bool.{and_from, and_parts, cases_Bool, false≢true, or_left, or_right}
use Rattle.std.proofs.lemmas.List.Elements.{All-cons, All-contains, All-contains_itself, All-head, All-nil, All-tail, All-weaker}
use Rattle.std.proofs.lemmas.Option.{none-some}
use Rattle.region_finder.specs.Listings.{Listed}
use Rattle.region_tree.specs.Needs.{requirement_of, requirements_of}
use Rattle.region_tree.specs.Requirements.{Requirement, interfere, is_of}
use Rattle.region_tree.specs.Trees.{RegionTree}
use Rattle.region_tree.specs.declared.needs.Need.{Need}
use Rattle.region_tree.specs.declared.tree.OpNumber.{OpNumber}
use Rattle.region_tree.specs.declared.tree.RootId.{RootId}
use Rattle.dependence_graph.specs.Knots as graph
use Rattle.dependence_graph.specs.Knots.{all_done, has_failed, is_done, knot_at, no_knot, number, some_failed}
use Rattle.dependence_graph.specs.declared.stage.Stage.{Stage as Knotted}
use Rattle.dependence_graph.specs.declared.stage.Stage.TheVariants as knot
use Rattle.task_code.specs.declared.job.Job.{Job}
use Rattle.machine_terms.specs.Opening.{with_points}
use Rattle.board_rules.specs.Boards.{Items, child_op, no_item, said}
use Rattle.board_rules.specs.Ground.{Ground}
use Rattle.board_rules.specs.NumberedBoards.{Board}
use Rattle.regent_boards.specs.RegentMachine.{regent_ground}
use Rattle.regent_boards.proofs.NeedRenaming.{interfere_to}
use Rattle.segment_renaming.proofs.Alike.{same_root}
use Rattle.code_boards.specs.Views.{spaces_of}
use Rattle.board_terms.specs.declared.operation.Activity.{Activity}
use Rattle.board_terms.specs.declared.operation.Activity.TheVariants as activity
use Rattle.board_terms.specs.declared.operation.Wait.{Wait}
use Rattle.board_terms.specs.declared.operation.Wait.TheVariants as wait
use Rattle.board_terms.specs.Gives.{is_on}
use Rattle.board_terms.specs.Stages.{is_good, is_over, stage_at, stage_of}
use Rattle.board_terms.specs.States.{State, operation_at}
use Rattle.board_trees.specs.Names.{named, pointed, requirement_named}
use Rattle.board_trees.specs.Shows.{ShowsBoard, ShowsChildren, needs_issued, siblings}
use Rattle.board_trees.specs.Told.{some_bad}
use Rattle.board_trees.specs.Waits.{Sibling, WaitsForChild, all_clear, has_ended}
use Rattle.board_trees.proofs.Along.{some_same}
use Rattle.board_trees.proofs.Told.{stage_there}
use Rattle.changed_trees.proofs.Contained.{contains_first, contains_later}
use Rattle.changed_trees.proofs.Interfere.{interfere_pointed}
use Rattle.journal_progress.specs.Ready.{NoneInterferes, NoneOverInterferes}
use Rattle.journal_progress.proofs.Callers.{WereMade}
use Rattle.journal_progress.proofs.Places.{name, naming}
use Rattle.journal_progress.proofs.Siblings.{IsKnown, IsOf, is_open, one}

-- ---- stages

good_is : (kn : Knotted) (w : Wait) (a : Activity) → is_good (stage_of kn w a) ≡ is_done (Some kn)
good_is knot.Waiting w a = refl
good_is knot.Begun w activity.Idle = refl
good_is knot.Begun w (activity.Filling c f) = refl
good_is knot.Begun w (activity.Out c f) = refl
good_is knot.Begun w (activity.Closing e) = refl
good_is knot.Parked wait.Beginning a = refl
good_is knot.Parked wait.Nothing a = refl
good_is knot.Parked (wait.Part root field) a = refl
good_is knot.Parked (wait.Child n) a = refl
good_is knot.Stopped w a = refl
good_is knot.Done w a = refl
good_is knot.Failed w a = refl
good_is knot.Dropped w a = refl

-- what is over has ended, or failed
over_failed : (kn : Knotted) (w : Wait) (a : Activity) → is_over (stage_of kn w a) ≡ true → is_done (Some kn) ≡ false → has_failed (Some kn) ≡ true
over_failed knot.Waiting w a e f = absurd (false≢true e)
over_failed knot.Begun w activity.Idle e f = absurd (false≢true e)
over_failed knot.Begun w (activity.Filling c g) e f = absurd (false≢true e)
over_failed knot.Begun w (activity.Out c g) e f = absurd (false≢true e)
over_failed knot.Begun w (activity.Closing x) e f = absurd (false≢true e)
over_failed knot.Parked wait.Beginning a e f = absurd (false≢true e)
over_failed knot.Parked wait.Nothing a e f = absurd (false≢true e)
over_failed knot.Parked (wait.Part root field) a e f = absurd (false≢true e)
over_failed knot.Parked (wait.Child n) a e f = absurd (false≢true e)
over_failed knot.Stopped w a e f = absurd (false≢true e)
over_failed knot.Done w a e f = absurd (false≢true (sym f))
over_failed knot.Failed w a e f = refl
over_failed knot.Dropped w a e f = refl

module _ (s : State) where
  pub ended_is : (k : ℕ) → k < length s.waits.knots → has_ended s.waits.knots k ≡ is_good (stage_at s k)
  ended_is k l = ap is_done (stage_there s.waits.knots k l) ∙ sym (good_is (knot_at s.waits.knots k).stage (operation_at s k).wait (operation_at s k).activity)

  pub failed_there : (k : ℕ) → k < length s.waits.knots → is_over (stage_at s k) ≡ true → has_ended s.waits.knots k ≡ false → has_failed (graph.stage_at s.waits.knots k) ≡ true
  failed_there k l e f = ap has_failed (stage_there s.waits.knots k l)
      ∙ over_failed (knot_at s.waits.knots k).stage (operation_at s k).wait (operation_at s k).activity e (sym (ap is_done (stage_there s.waits.knots k l)) ∙ f)

-- ---- lists

module _ {X : Type 0} (p : X → Bool) where
  all_from : (xs : List X) → All (λ x. p x ≡ true) xs → list_all p xs ≡ true
  all_from [] h = refl
  all_from (x ∷ xs) h = and_from (p x) (list_all p xs) (All-head (λ x. p x ≡ true) x xs h) (all_from xs (All-tail (λ x. p x ≡ true) x xs h))

  all_to : (xs : List X) → list_all p xs ≡ true → All (λ x. p x ≡ true) xs
  all_to [] e = All-nil (λ x. p x ≡ true)
  all_to (x ∷ xs) e = let parts = and_parts (p x) (list_all p xs) e in All-cons (λ x. p x ≡ true) x xs parts.0 (all_to xs parts.1)

  none_to : (xs : List X) → list_any p xs ≡ false → All (λ x. p x ≡ false) xs
  none_to [] e = All-nil (λ x. p x ≡ false)
  none_to (x ∷ xs) e = let parts = or_none (p x) (list_any p xs) e in All-cons (λ x. p x ≡ false) x xs parts.0 (none_to xs parts.1)
    where
      or_none : (a c : Bool) → (a || c) ≡ false → (a ≡ false) × (c ≡ false)
      or_none true c q = absurd (false≢true (sym q))
      or_none false c q = (refl, q)

-- ---- needs of a field

pointed_filter : (p : Requirement → Bool) (N : List Requirement) → pointed (filter p N) ≡ filter p (pointed N)
pointed_filter p [] = refl
pointed_filter p (r ∷ rs) = chosen (p r) refl (pointed_filter p rs)
  where
    kept : (xs : List ℕ) → p r ≡ true → with_points xs r (filter p (pointed rs)) ≡ filter p (with_points xs r (pointed rs))
    kept [] e = refl
    kept (x ∷ xs) e = ap (λ b. cond b (r ∷ filter p (pointed rs)) (filter p (pointed rs))) (sym e)

    dropped : (xs : List ℕ) → p r ≡ false → filter p (pointed rs) ≡ filter p (with_points xs r (pointed rs))
    dropped [] e = refl
    dropped (x ∷ xs) e = ap (λ b. cond b (r ∷ filter p (pointed rs)) (filter p (pointed rs))) (sym e)

    chosen : (b : Bool) → p r ≡ b → pointed (filter p rs) ≡ filter p (pointed rs) → pointed (cond b (r ∷ filter p rs) (filter p rs)) ≡ filter p (with_points r.points r (pointed rs))
    chosen true e more = ap (with_points r.points r) more ∙ kept r.points e
    chosen false e more = more ∙ dropped r.points e

pub pointed_of : (root field : ℕ) (N : List Requirement) → pointed (filter (is_of root field) N) ≡ filter (is_of root field) (pointed N)
pointed_of root field N = pointed_filter (is_of root field) N

pub required_filter : (t : RegionTree) (root field : ℕ) (ns : List Need) → filter (is_of root field) (requirements_of t ns) ≡ requirements_of t (filter (is_on root field) ns)
required_filter t root field [] = refl
required_filter t root field (n ∷ ns) = chosen (is_on root field n) (required_filter t root field ns)
  where
    chosen : (b : Bool) → filter (is_of root field) (requirements_of t ns) ≡ requirements_of t (filter (is_on root field) ns) →
        cond b (requirement_of t n ∷ filter (is_of root field) (requirements_of t ns)) (filter (is_of root field) (requirements_of t ns))
        ≡ requirements_of t (cond b (n ∷ filter (is_on root field) ns) (filter (is_on root field) ns))
    chosen true e = ap (λ rs. requirement_of t n ∷ rs) e
    chosen false e = e

module _ (job : Job) (s : State) (b : Board (regent_ground (spaces_of job.code))) (h : ShowsBoard job s b) where
  abbrev G : Ground
  G = regent_ground (spaces_of job.code)

  abbrev to : ℕ → ℕ
  to = name job s b h

  pub knots_there : (k : ℕ) → k < length s.operations → k < length s.waits.knots
  knots_there k l = subst (λ n. k < n) (sym h.knots) l

  -- ---- among some children of an operation: those that haven't ended are those with entries

  module _ (roots : List RootId) (made : WereMade job s h.who b.ways roots) (j : ℕ) (xs : List Sibling) (known : All (IsKnown job s b h j) xs)
      (Q T : List Requirement) (named_is : pointed Q ≡ map (requirement_named to) T) (Among : Listed → Type 0)
      (of_each : (z : Sibling) → Contains xs z → (y : Listed) → IsOf job s b h j z y → Among y)
      (each_of : (y : Listed) → Contains s.waits.listing y → Among y → (z : Sibling) × Contains xs z × (z.op ≡ y.op.0)) where
    abbrev Of : Sibling → Listed → Type 0
    Of z y = IsOf job s b h j z y

    alike : (z : Sibling) (y : Listed) → Of z y → interfere z.needs Q ≡ interfere (requirements_of s.tree y.issued) T
    alike z y o = sym (interfere_pointed z.needs Q) ∙ (λ i. interfere (o.needs i) (named_is i))
        ∙ interfere_to to (same_root (named to) (naming job s b h roots made).one) (requirements_of s.tree y.issued) T

    entry_of : (y : Listed) → Contains s.waits.listing y → (z : Sibling) → Contains xs z → z.op ≡ y.op.0 → Of z y
    entry_of y c z d e =
        let known_z = All-contains (IsKnown job s b h j) xs z known d in
        let f = known_z.entry (ap (has_ended s.waits.knots) e ∙ (is_open job s b h y c).unended) in
        subst (Of z) (one job s b h f.0 y f.1.there c (f.1.op_is ∙ ap number e)) f.1

    pub none_left : all_clear s.waits.knots Q xs ≡ true → NoneInterferes s Among T
    none_left clear y c a =
        let z = each_of y c a in
        let free = All-contains (λ (x : Sibling). (has_ended s.waits.knots x.op || not (interfere x.needs Q)) ≡ true) xs z.0
        (all_to (λ (x : Sibling). has_ended s.waits.knots x.op || not (interfere x.needs Q)) xs clear) z.1 in
        sym (alike z.0 y (entry_of y c z.0 z.1 z.2))
        ∙ off (has_ended s.waits.knots z.0.op) (interfere z.0.needs Q) free (ap (has_ended s.waits.knots) z.2 ∙ (is_open job s b h y c).unended)
      where
        off : (e m : Bool) → (e || not m) ≡ true → e ≡ false → m ≡ false
        off true m p q = absurd (false≢true (sym q))
        off false true p q = absurd (false≢true p)
        off false false p q = refl

    pub all_left : NoneInterferes s Among T → all_clear s.waits.knots Q xs ≡ true
    all_left none = all_from (λ (x : Sibling). has_ended s.waits.knots x.op || not (interfere x.needs Q)) xs
        (All-weaker (Contains xs) (λ (x : Sibling). (has_ended s.waits.knots x.op || not (interfere x.needs Q)) ≡ true) each xs (All-contains_itself xs))
      where
        each : (z : Sibling) → Contains xs z → (has_ended s.waits.knots z.op || not (interfere z.needs Q)) ≡ true
        each z c = ⊎_elim (λ e. or_left (has_ended s.waits.knots z.op) (not (interfere z.needs Q)) e)
            (λ e. let f = (All-contains (IsKnown job s b h j) xs z known c).entry e in
            or_right (has_ended s.waits.knots z.op) (not (interfere z.needs Q)) (ap not (alike z f.0 f.1 ∙ none f.0 f.1.there (of_each z c f.0 f.1))))
            (cases_Bool (has_ended s.waits.knots z.op))

    pub none_in_vain : some_bad s.waits.knots Q xs ≡ false → NoneOverInterferes s Among T
    none_in_vain good y c a =
        let z = each_of y c a.0 in
        let open_y = is_open job s b h y c in
        let fine = All-contains (λ (x : Sibling). (has_failed (graph.stage_at s.waits.knots x.op) && interfere x.needs Q) ≡ false) xs z.0
        (none_to (λ (x : Sibling). has_failed (graph.stage_at s.waits.knots x.op) && interfere x.needs Q) xs good) z.1 in
        let failed = failed_there s y.op.0 (knots_there y.op.0 open_y.within) a.1 open_y.unended in
        sym (alike z.0 y (entry_of y c z.0 z.1 z.2))
        ∙ sym (ap (λ f. f && interfere z.0.needs Q) (ap (λ k. has_failed (graph.stage_at s.waits.knots k)) z.2 ∙ failed)) ∙ fine

  -- ---- a child at a place

  module _ (roots : List RootId) where
    abbrev IsEnded : List OpNumber → ℕ → Type 0
    IsEnded ks place = (c : OpNumber) → slice_get ks place ≡ Some c → is_good (stage_at s c.0) ≡ true

    done_one : (k : ℕ) → all_done s.waits.knots (number k ∷ []) ≡ has_ended s.waits.knots k
    done_one k = off (has_ended s.waits.knots k)
      where
        off : (a : Bool) → (a && true) ≡ a
        off true = refl
        off false = refl

    pub child_told : (place : ℕ) (on : List OpNumber) (w : List ℕ) (j d : ℕ) (earlier : List Sibling) (ks : List OpNumber) (is : Items G) → ((o : OpNumber) → Contains ks o → o.0 < length s.operations) →
        ShowsChildren job s h.who b.ways w j d earlier roots ks is → WaitsForChild s.waits.knots place (siblings job ks is) on →
        (all_done s.waits.knots on ≡ true → IsEnded ks place) × (IsEnded ks place → all_done s.waits.knots on ≡ true)
    child_told place on w j d earlier ks no_item there g e =
        (λ t c q. absurd (none-some c (ap (λ os. slice_get os place) (sym g) ∙ q)), λ f. ap (all_done s.waits.knots) e)
    child_told place on w j d earlier ks (said t is) there g e = child_told place on w j d earlier ks is there g e
    child_told place on w j d earlier [] (child_op n is) there g e = absurd g
    child_told zero on w j d earlier (k ∷ ks) (child_op n is) there g e =
        let l = there k (contains_first k ks) in
        let same = ended_is s k.0 (knots_there k.0 l) in
        let done : (has_ended s.waits.knots k.0 ≡ true → all_done s.waits.knots on ≡ true) × (all_done s.waits.knots on ≡ true → has_ended s.waits.knots k.0 ≡ true) =
        ⊎_elim (λ q. (λ t. ap (all_done s.waits.knots) q ∙ done_one k.0 ∙ t, λ t. sym (ap (all_done s.waits.knots) q ∙ done_one k.0) ∙ t))
        (λ q. (λ t. ap (all_done s.waits.knots) q.0, λ t. q.1)) e in (
          λ t c q. subst (λ (o : OpNumber). is_good (stage_at s o.0) ≡ true) (some_same k c q) (sym same ∙ done.1 t),
          λ f. done.0 (same ∙ f k refl),
        )
    child_told (suc place) on w j d earlier (k ∷ ks) (child_op n is) there g e =
        child_told place on w j (suc d) (earlier ++ record { op = k.0; needs = needs_issued job n } ∷ []) ks is (λ o c. there o (contains_later k ks o c)) g.2 e

    -- where none of those that are waited for has failed, neither has the child
    pub child_open : (place : ℕ) (on : List OpNumber) (w : List ℕ) (j d : ℕ) (earlier : List Sibling) (ks : List OpNumber) (is : Items G) → ((o : OpNumber) → Contains ks o → o.0 < length s.operations) →
        ShowsChildren job s h.who b.ways w j d earlier roots ks is → WaitsForChild s.waits.knots place (siblings job ks is) on → some_failed s.waits.knots on ≡ false →
        (c : OpNumber) → slice_get ks place ≡ Some c → is_over (stage_at s c.0) ≡ true → is_good (stage_at s c.0) ≡ true
    child_open place on w j d earlier ks no_item there g e f c q o = absurd (none-some c (ap (λ os. slice_get os place) (sym g) ∙ q))
    child_open place on w j d earlier ks (said t is) there g e f c q o = child_open place on w j d earlier ks is there g e f c q o
    child_open place on w j d earlier [] (child_op n is) there g e f c q o = absurd g
    child_open zero on w j d earlier (k ∷ ks) (child_op n is) there g e f c q o =
        let l = knots_there k.0 (there k (contains_first k ks)) in
        subst (λ (x : OpNumber). is_good (stage_at s x.0) ≡ true) (some_same k c q)
        (sym (ended_is s k.0 l) ∙ ⊎_elim (λ p. by_failed p (subst (λ (x : OpNumber). is_over (stage_at s x.0) ≡ true) (sym (some_same k c q)) o) l) (λ p. p.1) e)
      where
        by_failed : on ≡ number k.0 ∷ [] → is_over (stage_at s k.0) ≡ true → k.0 < length s.waits.knots → has_ended s.waits.knots k.0 ≡ true
        by_failed p o l = ⊎_elim (λ t. t)
            (λ t. absurd (false≢true (sym f ∙ ap (some_failed s.waits.knots) p ∙ ap (λ x. x || false) (failed_there s k.0 l o t)))) (cases_Bool (has_ended s.waits.knots k.0))
    child_open (suc place) on w j d earlier (k ∷ ks) (child_op n is) there g e f c q o =
        child_open place on w j (suc d) (earlier ++ record { op = k.0; needs = needs_issued job n } ∷ []) ks is (λ x p. there x (contains_later k ks x p)) g.2 e f c q o
