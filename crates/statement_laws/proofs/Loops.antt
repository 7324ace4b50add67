-- Loops keep what is so at a place: later bindings stand for nothing before each turn.
use Rattle.std.proofs.Common.{arith, List, [], ◌∷◌, ◌++◌, None, Option, Some, false, true, refl, ap, subst, ℕ, ℤ, zero, suc, ◌≡◌, ◌∙◌, ◌≤◌, ◌||◌, length, cond}
use Rattle.std.proofs.lemmas.List.{length-append}
use Rattle.regent_tree.specs.Evaluation.{value}
use Rattle.regent_tree.specs.Execution.{Going, goes_on, going_on, leaving, returned, turning}
use Rattle.regent_tree.specs.Running.{Called, Calls, broke, came_back, Here, Result, Run, State, and_then, fails, fault, given, gives, if_true, pay, pay_from, ◌>>=◌}
use Rattle.regent_tree.specs.Scopes.{Scope, past}
use Rattle.regent_tree.specs.StaticTypes.{task_named}
use Rattle.regent_tree.specs.Syntax.{Expression, Name, TaskTree, Tree}
use Rattle.regent_tree.specs.Typing.{result_type}
use Rattle.regent_tree.specs.Values.{Value, truth_of}
use Rattle.regent_tree.specs.declared.outcome.FaultKind.TheVariants.{Turns}
use Rattle.regent_tree.specs.declared.types.TypeTerm.{TypeTerm}
use Rattle.check_rules.specs.first.FirstInExpressions.{first_in_expression}
use Rattle.check_rules.specs.types.Declarations.{is_no_result_type}
use Rattle.regent_tree.specs.declared.types.NumberTerm.TheVariants as number
use Rattle.regent_tree.specs.declared.types.TypeTerm.TheVariants as typed_as
use Rattle.check_laws.specs.SoundScopes.{IsSoundScope}
use Rattle.expression_laws.specs.Kinds.{IsOfType, TypeBelow}
use Rattle.fact_laws.specs.Regions.{Interpretation}
use Rattle.expression_laws.specs.Sound.{IsNoCollection, IsOfParent, AreSoundAnswers, IsValueOf, Instance, IsSoundAnswer, IsSoundPlace, IsSoundState, KeepsSound}
use Rattle.statement_laws.specs.Steady.{GoesOnSound, KnowsMore, IsStaticPlace}
use Rattle.expression_laws.specs.Writing.{IsWritten}
use Rattle.statement_laws.proofs.Agree.{agree_back, agree_then, emptied, parents_with, place_too}
use Rattle.std.proofs.Common.{inl, inr, pos, ◌+ℤ◌}
use Rattle.lane_kernels.specs.declared.numbers.Width.{Width}
use Rattle.plain_values.specs.Points.{points}
use Rattle.regent_tree.specs.Execution.{counting, items_of, round, rounds}
use Rattle.regent_tree.specs.Scopes.{bound_as, with_name}
use Rattle.regent_tree.specs.declared.facts.Known.{Known}
use Rattle.regent_tree.specs.Typing.{taken_from}
use Rattle.regent_tree.specs.Values.{a_number, a_pointer, an_index, point_target}
use Rattle.regent_tree.specs.declared.typing.StaticType.{StaticType}
use Rattle.regent_tree.specs.declared.typing.StaticType.TheVariants.{Index as index_type, Integer as integer_type, Ispace as ispace_type, Nothing as no_type, Partition as partition_type, Pointer as pointer_type, Region as region_type, Truth as truth_type, Unknown as unknown_type}
use Rattle.regent_tree.proofs.Members.{Has, Has-map_cases}
use Rattle.check_rules.specs.types.Sorts.{is_region, is_space}
use Rattle.expression_laws.specs.Kinds.{IsWellScoped, is_index, is_pointer, is_region_of, is_space as is_space_of}
use Rattle.statement_laws.proofs.Agree.{fact_up}
use Rattle.check_laws.proofs.Scopes.{differ}
use Rattle.statement_laws.proofs.States.{bound_fits, put, put_agrees, plain_children, plain_region, put_in_store}
use Rattle.statement_laws.proofs.Scopes.{IsMore}
use Rattle.statement_laws.proofs.States.{is_of_too, skipped}
use Rattle.expression_laws.proofs.Values.{value_is}
use Rattle.statement_laws.specs.Places.{IsReady}
use Rattle.statement_laws.proofs.Going.{then_goes, either_goes, rebased, in_order, leaves, back_again}

module _ (task : TaskTree) (args : List Value) (roots : ℕ) where
  abbrev inst : Here → Instance
  inst h = record { tree = h.tree; calls = h.calls; task = task; args = args; roots = roots }

  abbrev Reads : (h : Here) (m : Interpretation) → Expression → State → Type 0
  Reads h m e u = KeepsSound (inst h) m h.scope (IsValueOf m h.tree h.scope e) (value h e u)

  pub evaluates : (h : Here) (m : Interpretation) (e : Expression) → IsReady task args roots m h → IsWritten e → first_in_expression h.tree task h.scope e ≡ None →
      (u : State) → IsSoundState (inst h) m h.scope u → Reads h m e u
  evaluates h m e r wr told u st = value_is task args roots m h r.sound r.sound_task r.scope r.static.well_scoped r.place r.answers e wr told u st

  -- what calls give is the same wherever bindings stand
  answers_too : (tree : Tree) (calls : Calls) (a b : Interpretation) → ((name : Name) → TypeBelow 0 (result_type tree (task_named tree name).result)) → AreSoundAnswers a tree calls → AreSoundAnswers b tree calls
  answers_too tree calls a b bare are line name vs store there fit = by (calls line name vs store) (are line name vs store there fit)
    where
      by : (c : Called) → IsSoundAnswer a tree name store c → IsSoundAnswer b tree name store c
      by (came_back v after text) is = (is_of_too 0 a b (record { regions = λ i l. absurd (omega (arith, l)); partitions = λ i l. absurd (omega (arith, l)); numbers = λ i l. absurd (omega (arith, l)) }) _ v (bare name) is.0, is.1)
      by (broke f text) is = tt

  result_bare : (tree : Tree) (r : Option TypeTerm) → is_no_result_type r ≡ false → TypeBelow 0 (result_type tree r)
  result_bare tree None e = tt
  result_bare tree (Some (typed_as.Number number.Int32)) e = tt
  result_bare tree (Some (typed_as.Number number.Int64)) e = tt
  result_bare tree (Some (typed_as.Number (number.Index k))) e = tt
  result_bare tree (Some typed_as.Truth) e = tt
  result_bare tree (Some (typed_as.Pointer p)) e = absurd cc
  result_bare tree (Some (typed_as.Ispace k)) e = absurd cc
  result_bare tree (Some (typed_as.Region k u)) e = absurd cc
  result_bare tree (Some (typed_as.Partition d r c)) e = absurd cc

  -- the same place, where bindings stand for something else, or in another scope
  pub moved_on : (h : Here) (m b : Interpretation) (t : Scope) (line : ℕ) → IsReady task args roots m h → IsSoundScope t → IsStaticPlace (inst h) t → IsSoundPlace (inst h) b t →
      IsReady task args roots b (record { tree = h.tree; calls = h.calls; scope = t; result = h.result; line = line })
  moved_on h m b t line r scope static place = record {
    sound = r.sound;
    sound_task = r.sound_task;
    scope = scope;
    static = static;
    place = place;
    answers = answers_too h.tree h.calls m b (λ name. result_bare h.tree (task_named h.tree name).result (r.sound.results name)) r.answers;
    result = r.result;
  }

  -- a loop with a test, where later bindings stand for nothing before each turn
  pub turning_goes : (h : Here) (m : Interpretation) (t : Scope) → IsReady task args roots (emptied h.scope.next m) h → KnowsMore h.scope (past h.scope t) → (test : Run Value) (body : Run Going) →
      ((w : State) → IsSoundState (inst h) (emptied h.scope.next m) h.scope w → KeepsSound (inst h) (emptied h.scope.next m) h.scope (λ v. Unit {0}) (test w)) →
      ((w : State) → IsSoundState (inst h) (emptied h.scope.next m) h.scope w → GoesOnSound (inst h) (emptied h.scope.next m) h.scope.next (past h.scope t) (body w)) →
      (k : ℕ) (w : State) → IsSoundState (inst h) (emptied h.scope.next m) h.scope w →
      GoesOnSound (inst h) (emptied h.scope.next m) h.scope.next (past h.scope t) (turning h k test body w)
  turning_goes h m t r grows test body tests bodies zero w st =
      let n = h.scope.next in
      let m0 = emptied n m in
      then_goes (inst h) m0 h.scope n (past h.scope t) (test w) (λ v. if_true (truth_of v) (fault h Turns) (given goes_on)) (tests w st) (λ v w st is.
      either_goes (inst h) m0 h.scope n (past h.scope t) (truth_of v) (fault h Turns) (given goes_on) w (record { covered = st.covered; depth = λ e. absurd cc })
      (skipped (inst h) m0 h.scope (past h.scope t) w r.scope r.static grows refl r.place st))
  turning_goes h m t r grows test body tests bodies (suc k) w st =
      let n = h.scope.next in
      let m0 = emptied n m in
      let again = turning h k test body in
      then_goes (inst h) m0 h.scope n (past h.scope t) (test w) (λ v. if_true (truth_of v) (pay h >>= λ _. body >>= λ g. going_on again g) (given goes_on)) (tests w st) (λ v w st is.
      either_goes (inst h) m0 h.scope n (past h.scope t) (truth_of v) (pay h >>= λ _. body >>= λ g. going_on again g) (given goes_on) w
      (paid w st w.turns (λ u st. in_order (inst h) m0 n n (past h.scope t) (past h.scope t) (body u) again (omega (arith)) (bodies u st) (λ u b.
      rebased (inst h) b.meant m0 n n (past h.scope t) (again u) (agree_back n m0 b.meant b.agree) (omega (arith))
      (turning_goes h m t r grows test body tests bodies k u (back_again (inst h) m h.scope t u r.scope r.static b)))))
      (skipped (inst h) m0 h.scope (past h.scope t) w r.scope r.static grows refl r.place st))
    where
      paid : (w : State) → IsSoundState (inst h) (emptied h.scope.next m) h.scope w → (turns : ℕ) →
          ((u : State) → IsSoundState (inst h) (emptied h.scope.next m) h.scope u →
          GoesOnSound (inst h) (emptied h.scope.next m) h.scope.next (past h.scope t) (and_then (body u) (λ g. going_on (turning h k test body) g))) →
          GoesOnSound (inst h) (emptied h.scope.next m) h.scope.next (past h.scope t)
          (and_then (pay_from turns h w) (λ _ u. and_then (body u) (λ g. going_on (turning h k test body) g)))
      paid w st zero next = record { covered = st.covered; depth = λ e. absurd cc }
      paid w st (suc turns) next = next (record w { turns = turns }) (record { names = st.names; counted = st.counted; rooted = st.rooted; grown = st.grown; covered = st.covered })

  -- ---- loops over values

  -- one turn of a loop with a variable, where later bindings stand for nothing before each turn
  module _ (h : Here) (m : Interpretation) (r : IsReady task args roots (emptied h.scope.next m) h) (n : Name) (ty : StaticType) (below : TypeBelow h.scope.next ty) (unparted : (b : Interpretation) → IsOfParent b h.scope.known ty)
      (t : Scope) (more : IsMore (with_name h.scope n ty true) t) (grows : KnowsMore h.scope (past h.scope t)) (body : Run Going)
      (bodies : (b : Interpretation) → IsSoundPlace (inst h) b (with_name h.scope n ty true) → (w : State) → IsSoundState (inst h) b (with_name h.scope n ty true) w →
      GoesOnSound (inst h) b (suc h.scope.next) t (body w)) where
    abbrev m0 : Interpretation
    m0 = emptied h.scope.next m

    abbrev Turns_go : Result Going → Type 0
    Turns_go q = GoesOnSound (inst h) m0 h.scope.next (past h.scope t) q

    more_names : IsMore h.scope t
    more_names = let l = more.longer in record {
      extends = λ i l. more.extends i (omega (arith, l)) ∙ ap (λ c. cond c (record { name = n; number = h.scope.next; place = length h.scope.names; static_type = ty; by_loop = true }) (bound_as h.scope.names i)) (differ h.scope.next i l);
      longer = omega (arith, l);
      placed = λ p. more.placed (refl, p);
    }

    round_goes : (v : Value) → IsOfType m0 ty v → IsNoCollection v → (u : State) → IsSoundState (inst h) m0 h.scope u → Turns_go (round h v body u)
    round_goes v is none u st = paid u st u.turns
      where
        bound_turn : (w : State) → IsSoundState (inst h) m0 h.scope w → Turns_go (leaving (length w.names) (body (record w { names = w.names ++ v ∷ [] })))
        bound_turn w st =
            let b = put h.scope.next v m0 in
            let e = put_agrees h.scope.next v m0 in
            let place = place_too h.scope.next m0 b e (inst h) h.scope r.static refl r.place in
            let count = st.counted in
            let inner : IsSoundState (inst h) b (with_name h.scope n ty true) (record w { names = w.names ++ v ∷ [] }) = record {
              names = bound_fits h.scope n ty true m0 w.names v r.scope r.static.well_scoped r.static.placed st.counted st.names (is_of_too h.scope.next m0 b e ty v below is);
              counted = length-append w.names (v ∷ []) ∙ omega (arith, count);
              rooted = put_in_store h.scope.next v m0 (length w.store) st.rooted (plain_region (length w.store) v none) (plain_children (length w.store) v none);
              grown = st.grown;
              covered = st.covered;
            } in
            leaves (inst h) m0 h.scope t (length w.names) h.scope.next (body (record w { names = w.names ++ v ∷ [] })) r.scope r.static more_names st.counted
            (rebased (inst h) m0 b h.scope.next (suc h.scope.next) t (body (record w { names = w.names ++ v ∷ [] })) e (omega (arith))
            (bodies b (record { holds = place.holds; own = place.own; params = place.params; parents = parents_with b h.scope.known h.scope n ty true (unparted b) place.parents }) (record w { names = w.names ++ v ∷ [] }) inner))

        paid : (w : State) → IsSoundState (inst h) m0 h.scope w → (turns : ℕ) → Turns_go (and_then (pay_from turns h w) (λ _ u. leaving (length u.names) (body (record u { names = u.names ++ v ∷ [] }))))
        paid w st zero = record { covered = st.covered; depth = λ e. absurd cc }
        paid w st (suc turns) = bound_turn (record w { turns = turns }) (record { names = st.names; counted = st.counted; rooted = st.rooted; grown = st.grown; covered = st.covered })

    -- behind a turn the next begins as the first
    next_turn : (q : Result Going) (again : Run Going) → Turns_go q → ((u : State) → IsSoundState (inst h) m0 h.scope u → Turns_go (again u)) → Turns_go (and_then q (λ g. going_on again g))
    next_turn q again first next =
        in_order (inst h) m0 h.scope.next h.scope.next (past h.scope t) (past h.scope t) q again (omega (arith)) first (λ u b.
        rebased (inst h) b.meant m0 h.scope.next h.scope.next (past h.scope t) (again u) (agree_back h.scope.next m0 b.meant b.agree) (omega (arith))
        (next u (back_again (inst h) m h.scope t u r.scope r.static b)))

    no_turn : (u : State) → IsSoundState (inst h) m0 h.scope u → Turns_go (gives goes_on u)
    no_turn u st = skipped (inst h) m0 h.scope (past h.scope t) u r.scope r.static grows refl r.place st

    pub rounds_go : (vs : List Value) → ((v : Value) → Has vs v → IsOfType m0 ty v × (IsNoCollection v)) → (u : State) → IsSoundState (inst h) m0 h.scope u → Turns_go (rounds h vs body u)
    rounds_go [] are u st = no_turn u st
    rounds_go (v ∷ vs) are u st =
        let is = are v (inl refl) in
        next_turn (round h v body u) (rounds h vs body) (round_goes v is.0 is.1 u st) (rounds_go vs (λ w g. are w (inr g)))

    pub counting_goes : (w : Width) → ((z : ℤ) → IsOfType m0 ty (a_number w z)) → (k : ℕ) (i : ℤ) (u : State) → IsSoundState (inst h) m0 h.scope u → Turns_go (counting h k w i body u)
    counting_goes w is zero i u st = no_turn u st
    counting_goes w is (suc k) i u st =
        next_turn (round h (a_number w i) body u) (counting h k w (i +ℤ pos 1) body) (round_goes (a_number w i) (is i) (refl, refl) u st) (counting_goes w is k (i +ℤ pos 1))

  -- what a loop over a region or space takes
  pub items_are : (m : Interpretation) (t : StaticType) (v : Value) → (is_region t || is_space t) ≡ true → IsOfType m t v → (w : Value) → Has (items_of v) w →
      IsOfType m (taken_from t) w × IsNoCollection w
  items_are m (region_type k sp types t) v e (is_region_of {r = q} stands) w g =
      let n = Has-map_cases (λ n. a_pointer (point_target n 1) (q ∷ [])) q.points w g in
      subst (λ z. IsOfType m (pointer_type k sp types (Some t ∷ [])) z × IsNoCollection z) n.2 (is_pointer (stands, tt), (refl, refl))
  items_are m (ispace_type k) v e (is_space_of {n = q}) w g =
      let n = Has-map_cases (λ i. an_index (pos i)) (points q) w g in
      subst (λ z. IsOfType m (index_type k) z × IsNoCollection z) n.2 (is_index, (refl, refl))
  items_are m (integer_type y) v e is w g = absurd cc
  items_are m truth_type v e is w g = absurd cc
  items_are m (index_type k) v e is w g = absurd cc
  items_are m (pointer_type k sp types terms) v e is w g = absurd cc
  items_are m (partition_type d q p) v e is w g = absurd cc
  items_are m no_type v e is w g = absurd cc
  items_are m unknown_type v e is w g = absurd cc

  -- and is no partition
  pub taken_unparted : (b : Interpretation) (known : List Known) (t : StaticType) → IsOfParent b known (taken_from t)
  taken_unparted b known (region_type k sp types t) = tt
  taken_unparted b known (ispace_type k) = tt
  taken_unparted b known (integer_type y) = tt
  taken_unparted b known truth_type = tt
  taken_unparted b known (index_type k) = tt
  taken_unparted b known (pointer_type k sp types terms) = tt
  taken_unparted b known (partition_type d q p) = tt
  taken_unparted b known no_type = tt
  taken_unparted b known unknown_type = tt

  pub taken_below : (n : ℕ) (t : StaticType) → TypeBelow n t → TypeBelow n (taken_from t)
  taken_below n (region_type k sp types t) l = (l, tt)
  taken_below n (ispace_type k) l = tt
  taken_below n (integer_type y) l = tt
  taken_below n truth_type l = tt
  taken_below n (index_type k) l = tt
  taken_below n (pointer_type k sp types terms) l = tt
  taken_below n (partition_type d q p) l = tt
  taken_below n no_type l = tt
  taken_below n unknown_type l = tt

  pub static_bound : (x : Instance) (s : Scope) (n : Name) (ty : StaticType) → IsStaticPlace x s → IsWellScoped (with_name s n ty true) → IsStaticPlace x (with_name s n ty true)
  static_bound x s n ty static well_scoped = record {
    well_scoped = well_scoped;
    below = λ k c. fact_up s.next (suc s.next) k (omega (arith)) (static.below k c);
    placed = (refl, static.placed);
    params = λ i is. let l = static.params i is in omega (arith, l);
  }

  -- behind more statements that weren't run
  pub further : (x : Instance) (m : Interpretation) (n : ℕ) (s t : Scope) (r : Result Going) → n ≤ s.next → IsSoundScope s → IsStaticPlace x s → KnowsMore s t → t.names ≡ s.names → GoesOnSound x m n s r → GoesOnSound x m n t r
  further x m n s t (gives goes_on u) less scope static grows same goes =
      let b = skipped x goes.meant s t u scope static grows same goes.place goes.state in
      record { meant = b.meant; agree = agree_then n s.next m goes.meant b.meant less goes.agree b.agree; place = b.place; state = b.state }
  further x m n s t (gives (returned v) u) less scope static grows same goes = goes
  further x m n s t (fails f u) less scope static grows same goes = goes
