-- All arguments of a call of which nothing is told fit the called task.
use Rattle.check_rules.proofs.Written.{told_soundly}
use Rattle.plain_values.proofs.Plain.{option_or_parts}
use Rattle.std.proofs.Common.{arith, Bool, List, [], ◌∷◌, None, false, true, refl, ap, sym, subst, ℕ, ℤ, zero, suc, ◌≡◌, ◌∙◌, ◌<◌, ◌≤◌, ◌==◌, ◌&&◌, inl, inr, get_or, length, map, not}
use Rattle.std.proofs.lemmas.Bool.{cases_lt, eqb-true, not-false, or_parts}
use Rattle.std.proofs.lemmas.List.{get_or_past}
use Rattle.std.specs.List.{list_any}
use Rattle.regent_tree.proofs.Members.{Contains-from_Has, Has, Has-append_cases, Has-append_left, Has-from_Contains}
use Rattle.regent_tree.specs.Evaluation.{other_types}
use Rattle.regent_tree.specs.Facts.{is_name}
use Rattle.regent_tree.specs.Lookup.{has_task}
use Rattle.regent_tree.specs.Running.{Here, State}
use Rattle.regent_tree.specs.Scopes.{bound_as, bound_params, known_of_clause, known_of_clauses, known_of_params, known_of_type, scope_of, unbound}
use Rattle.regent_tree.specs.StaticTypes.{place_in, task_named}
use Rattle.regent_tree.specs.Syntax.{Expressions, ItemTree, Name, TaskTree, an_expr, no_expr, task_item}
use Rattle.regent_tree.specs.Typing.{param_types, params_at, put_in, types_of}
use Rattle.regent_tree.specs.Values.{Partition, Region, Value, a_truth, partition_of, region_of}
use Rattle.regent_tree.specs.declared.facts.Known.{Known}
use Rattle.regent_tree.specs.declared.facts.Known.TheVariants.{PartOf}
use Rattle.regent_tree.specs.declared.facts.Term.{Term}
use Rattle.regent_tree.specs.declared.facts.Term.TheVariants.{Child, Name as term_name}
use Rattle.regent_tree.specs.declared.program.Clause.{Clause}
use Rattle.regent_tree.specs.declared.program.Clause.TheVariants as clause
use Rattle.regent_tree.specs.declared.types.Param.{Param}
use Rattle.regent_tree.specs.declared.typing.Bound.{Bound}
use Rattle.regent_tree.specs.declared.typing.StaticType.{StaticType}
use Rattle.regent_tree.specs.declared.typing.StaticType.TheVariants.{Index as index_type, Integer as integer_type, Ispace as ispace_type, Nothing as no_type, Partition as partition_type, Pointer as pointer_type, Region as region_type, Truth as truth_type, Unknown as unknown_type}
use Rattle.check_rules.specs.first.FirstInExpressions.{first_in_args, first_in_expression, first_of_call}
use Rattle.check_rules.specs.rules.Clauses.{is_no_region, misdeclares}
use Rattle.check_rules.specs.rules.Constraints.{are_not_apart, breaks_clause, is_not_within}
use Rattle.check_rules.specs.rules.Partitions.{is_parent, mispartition_in}
use Rattle.check_rules.specs.rules.Standing.{stand_at, stands}
use Rattle.check_rules.specs.rules.Types.{is_ill_typed_at_place}
use Rattle.check_rules.specs.scopes.Sound.{IsSound, IsSoundTask}
use Rattle.check_rules.specs.types.Declarations.{params_of}
use Rattle.check_rules.specs.types.KnownTypes.{known_types}
use Rattle.check_rules.specs.types.Params.{types_in_order}
use Rattle.check_rules.specs.types.Sorts.{is_region, is_unknown_type, type_at}
use Rattle.check_rules.specs.types.TypedForms.{calling}
use Rattle.check_laws.proofs.Parameters.{AreWrittenParams, region_placed}
use Rattle.check_laws.proofs.Parts.{contrary}
use Rattle.check_laws.proofs.Sounding.{params_written}
use Rattle.check_laws.specs.SoundScopes.{IsSoundScope}
use Rattle.fact_laws.proofs.Facts.{are_disjoint_holds, is_subregion_holds}
use Rattle.fact_laws.specs.Regions.{AllHold, Holds, Interpretation, IsPartitionOf, LiesWithin, SharesNoPoint, StandsFor, child_at}
use Rattle.expression_laws.proofs.Calls.{IsFlawless, call_parts, params_long, types_known}
use Rattle.expression_laws.proofs.Fitting.{IsGiven, IsRegionGiven, call_named, given_at, given_value, partition_given, region_given, standing_task, stored_passed}
use Rattle.expression_laws.proofs.Params.{known_clause, known_param, none_has, numbered, numbered_has, numbered_member, numbered_past, own_numbered, param_as, param_known, param_type, parent_region}
use Rattle.expression_laws.proofs.Parents.{type_parent}
use Rattle.expression_laws.proofs.Stores.{child_in_store, none_in_store}
use Rattle.expression_laws.specs.Kinds.{IsNamedByOwnNumber, IsOfType, is_unknown}
use Rattle.expression_laws.specs.Sound.{AreFitting, ArePassed, Instance, IsInStore, IsOfParent, IsPassed, IsSoundPlace, IsSoundState, of_arguments}
use Rattle.expression_laws.specs.Writing.{AreWritten}

module _ (task : TaskTree) (args : List Value) (roots : ℕ) (m : Interpretation) (h : Here) (sound : IsSound h.tree) (sound_task : IsSoundTask h.tree task)
    (scope : IsSoundScope h.scope) (place : IsSoundPlace (record { tree = h.tree; calls = h.calls; task = task; args = args; roots = roots }) m h.scope) where
  abbrev x : Instance
  x = record { tree = h.tree; calls = h.calls; task = task; args = args; roots = roots }

  -- ---- values and types by their numbers

  passed_value : (ts params : List StaticType) (es : Expressions) (vs : List Value) (i : ℕ) → i < length params → length (types_of h.tree h.scope es) ≡ length params →
      ArePassed m h.tree h.scope (map (put_in ts) params) es vs → IsPassed m (type_at (types_of h.tree h.scope es) i) (put_in ts (type_at params i)) (get_or vs i (a_truth false))
  passed_value ts [] es vs i l len passed = absurd (omega (arith, l))
  passed_value ts (p ∷ params) no_expr vs i l len passed = absurd (omega (arith, len))
  passed_value ts (p ∷ params) (an_expr y es) [] i l len passed = absurd passed
  passed_value ts (p ∷ params) (an_expr y es) (v ∷ vs) zero l len passed = passed.0
  passed_value ts (p ∷ params) (an_expr y es) (v ∷ vs) (suc i) l len passed = passed_value ts params es vs i (omega (arith, l)) (omega (arith, len)) passed.1

  passed_long : (ts : List StaticType) (es : Expressions) (vs : List Value) → ArePassed m h.tree h.scope ts es vs → length vs ≡ length (types_of h.tree h.scope es)
  passed_long ts no_expr [] passed = refl
  passed_long ts no_expr (v ∷ vs) passed = absurd passed
  passed_long ts (an_expr y es) [] passed = absurd passed
  passed_long ts (an_expr y es) (v ∷ vs) passed = ap suc (passed_long (other_types ts) es vs passed.1)

  arg_parent : (es : Expressions) → AreWritten es → first_in_args h.tree task h.scope es ≡ None → (i : ℕ) → IsOfParent m h.scope.known (type_at (types_of h.tree h.scope es) i)
  arg_parent no_expr wr told zero = tt
  arg_parent no_expr wr told (suc i) = tt
  arg_parent (an_expr y es) wr told zero = type_parent h.tree task h.scope sound scope m place.parents y wr.0 (option_or_parts (first_in_expression h.tree task h.scope y) _ told).0
  arg_parent (an_expr y es) wr told (suc i) = arg_parent es wr.1 (option_or_parts (first_in_expression h.tree task h.scope y) _ told).1 i

  module _ (name : Name) (es : Expressions) (vs : List Value) (u : State) (wr : AreWritten es) (told : first_in_args h.tree task h.scope es ≡ None)
      (call : first_of_call h.tree task h.scope (calling name (known_types h.tree h.scope es)) ≡ None)
      (passed : ArePassed m h.tree h.scope (params_at h.tree h.scope (task_named h.tree name) es) es vs) (st : IsSoundState x m h.scope u) where
    abbrev callee : TaskTree
    callee = task_named h.tree name

    abbrev all : List Param
    all = callee.params

    abbrev names : List Bound
    names = bound_params h.tree all 0 all

    abbrev ts : List StaticType
    ts = types_of h.tree h.scope es

    abbrev params : List StaticType
    params = param_types h.tree callee

    abbrev b : Interpretation
    b = of_arguments vs

    written : AreWrittenParams h.tree all
    written =
        let there = standing_task h.tree name (call_named h.tree task h.scope (calling name (known_types h.tree h.scope es)) call) in
        params_written h.tree callee (sound.tasks callee (Contains-from_Has (map (λ (i : ItemTree). i.form) h.tree) (task_item callee) there))

    -- what isn't told of the call, by the types that the meaning gives
    parts : IsFlawless h.tree task h.scope (calling name ts)
    parts = subst (λ types. IsFlawless h.tree task h.scope (calling name types)) (types_known task args roots m h sound sound_task scope place es told).0
        (call_parts h.tree task h.scope (calling name (known_types h.tree h.scope es)) call)

    params_same : params_of h.tree name ≡ params
    params_same = ap types_in_order (sound.params name)

    long : length params ≡ length all
    long = ap length (sym params_same) ∙ params_long task args roots m h sound sound_task scope place name

    types_long : length ts ≡ length all
    types_long =
        eqb-true (length ts) (length all) (not-false _ (sym (λ j. not-false (has_task h.tree name) parts.named j && not (length ts == length all)) ∙ parts.counted))

    given : (i : ℕ) → i < length all → IsGiven h.scope.known ts (type_at params i) (type_at ts i)
    given i l =
        given_at h.scope.known ts params ts i (omega (arith, l, long)) (types_long ∙ sym long)
        (subst (λ types. list_any is_unknown_type types ≡ false) (types_known task args roots m h sound sound_task scope place es told).0 (types_known task args roots m h sound sound_task scope place es told).1)
        (subst (λ ps. list_any (is_ill_typed_at_place h.scope.known) (stand_at ts ps ts) ≡ false) params_same parts.stand)
        (subst (λ ps. mispartition_in ts ps ts ≡ false) params_same parts.parted)

    value_passed : (i : ℕ) → i < length all → IsPassed m (type_at ts i) (put_in ts (type_at params i)) (get_or vs i (a_truth false))
    value_passed i l = passed_value ts params es vs i (omega (arith, l, long)) (types_long ∙ sym long) passed

    counted : length vs ≡ length all
    counted = passed_long (params_at h.tree h.scope callee es) es vs passed ∙ types_long

    -- ---- types and places

    no_value : (i : ℕ) → length all ≤ i → get_or vs i (a_truth false) ≡ a_truth false
    no_value i l = get_or_past vs i (a_truth false) (omega (arith, l, counted))

    no_param : (i : ℕ) → length all ≤ i → type_at params i ≡ unknown_type
    no_param i l = sym (param_type h.tree callee i) ∙ ap (λ (c : Bound). c.static_type) (param_as h.tree all i ∙ numbered_past h.tree all 0 all i l)

    own_type : (i : ℕ) → IsNamedByOwnNumber i (type_at params i)
    own_type i = subst (IsNamedByOwnNumber i) (ap (λ (c : Bound). c.static_type) (sym (param_as h.tree all i)) ∙ param_type h.tree callee i) (own_numbered h.tree all 0 all i i (omega (arith)))

    types_fit : (i : ℕ) → IsOfType b (type_at params i) (get_or vs i (a_truth false))
    types_fit i = elim (cases_lt i (length all)) [
      | inl l ↦ given_value m b h.scope.known ts i (type_at params i) (type_at ts i) (get_or vs i (a_truth false)) (given i l) (own_type i) refl refl (value_passed i l)
      | inr g ↦ subst (λ t. IsOfType b t (get_or vs i (a_truth false))) (sym (no_param i g)) is_unknown
    ]

    stored : (i : ℕ) → IsInStore (length u.store) (b.region i) × ((c : ℤ) → IsInStore (length u.store) (child_at (b.partition i) c))
    stored i = elim (cases_lt i (length all)) [
      | inl l ↦ stored_passed m ts (type_at params i) (type_at ts i) (get_or vs i (a_truth false)) (length u.store) (given i l).known_type (value_passed i l) st.rooted
      | inr g ↦ subst (λ v. IsInStore (length u.store) (region_of v) × ((c : ℤ) → IsInStore (length u.store) (child_at (partition_of v) c))) (sym (no_value i g))
          (none_in_store (length u.store), λ c. child_in_store (length u.store) c)
    ]

    -- ---- regions and partitions

    region_at : (i : ℕ) → i < length all → is_region (bound_as names i).static_type ≡ true → IsRegionGiven m (type_at ts i) (get_or vs i (a_truth false))
    region_at i l e = region_given m h.scope.known ts (type_at params i) (type_at ts i) (get_or vs i (a_truth false)) (ap is_region (sym (param_type h.tree callee i)) ∙ e) (given i l) (value_passed i l)

    -- the parent of a partition is the parameter's argument
    parent_stands : (parent r : ℕ) (is : IsRegionGiven m (type_at ts r) (get_or vs r (a_truth false))) → is_parent parent (type_at ts r) ≡ true → m.region parent ≡ b.region r
    parent_stands parent r is e =
        let named : is_name parent is.term ≡ true = subst (λ t. is_parent parent t ≡ true) is.is e in
        named_stands is.term named is.stands
      where
        named_stands : (t : Term) → is_name parent t ≡ true → StandsFor m t (b.region r) → m.region parent ≡ b.region r
        named_stands (term_name i) e stands = ap m.region (eqb-true parent i e) ∙ stands
        named_stands (Child p c) e stands = absurd cc

    part_at : (i : ℕ) (d : Bool) (r : ℕ) → i < length all → type_at params i ≡ partition_type d r i → IsPartitionOf b i r d × ((b.partition i).root ≡ (b.region r).root)
    part_at i d r l e =
        let v = get_or vs i (a_truth false) in
        let is = partition_given m h.scope.known ts d r i (type_at ts i) v (subst (λ p. IsGiven h.scope.known ts p (type_at ts i)) e (given i l))
        (subst (λ p. IsPassed m (type_at ts i) (put_in ts p) v) e (value_passed i l)) in
        let region = parent_region h.tree all written i d r i (param_type h.tree callee i ∙ e) in
        let parent = parent_stands is.parent r (region_at r region.1 region.0) is.beside in
        let of_parent = subst (IsOfParent m h.scope.known) is.is (arg_parent es wr told i) in
        let holds = place.holds (PartOf is.own is.parent is.disjoint) of_parent.0 in (
          record {
            within = λ c. subst (λ q. LiesWithin (child_at q c) (b.region r)) is.same (subst (LiesWithin (child_at (m.partition is.own) c)) parent (holds.within c));
            apart = λ k c f ne. subst (λ q. SharesNoPoint (child_at q c) (child_at q f)) is.same (holds.apart (is.less k) c f ne);
          },
          ap (λ (q : Partition). q.root) (sym is.same) ∙ of_parent.1 ∙ ap (λ (q : Region). q.root) parent,
        )

    -- ---- what the called task asks

    clause_region : (n : Name) → is_no_region names n ≡ false → IsRegionGiven m (type_at ts (place_in all n)) (get_or vs (place_in all n) (a_truth false))
    clause_region n e =
        let is = region_placed h.tree all (scope_of h.tree callee) refl refl written.once written.named n e in
        region_at (place_in all n) is.1 is.0

    clause_holds : (c : Clause) (k : Known) → misdeclares h.tree names c ≡ false → breaks_clause h.scope.known all ts c ≡ false → Has (known_of_clause all c) k → Holds b k
    clause_holds (clause.Within a d) k e f (inl same) =
        let both = or_parts (is_no_region names a) _ e in
        let one = clause_region a both.0 in
        let two = clause_region d both.1 in
        let is = not-false _ (sym (λ j. is_not_within h.scope.known (one.is j) (two.is j)) ∙ f) in
        let lies = is_subregion_holds m h.scope.known place.holds one.term two.term is (b.region (place_in all a)) (b.region (place_in all d)) one.stands two.stands in
        subst (Holds b) same (λ r stands. record { outer = b.region (place_in all d); stands = refl; lies = subst (λ q. LiesWithin q (b.region (place_in all d))) stands lies })
    clause_holds (clause.Within a d) k e f (inr g) = absurd g
    clause_holds (clause.Apart a d) k e f (inl same) =
        let both = or_parts (is_no_region names a) _ e in
        let one = clause_region a both.0 in
        let two = clause_region d both.1 in
        let is = not-false _ (sym (λ j. are_not_apart h.scope.known (one.is j) (two.is j)) ∙ f) in
        let apart = are_disjoint_holds m h.scope.known place.holds one.term two.term is (b.region (place_in all a)) (b.region (place_in all d)) one.stands two.stands in
        subst (Holds b) same (λ r t stands other. subst (λ q. SharesNoPoint q t) stands (subst (SharesNoPoint (b.region (place_in all a))) other apart))
    clause_holds (clause.Apart a d) k e f (inr g) = absurd g
    clause_holds (clause.Grants grants places) k e f g = absurd g

    type_holds : (i : ℕ) (t : StaticType) (k : Known) → i < length all → type_at params i ≡ t → Has (known_of_type t) k → Holds b k
    type_holds i (partition_type d r p) k l e (inl same) =
        let own : p ≡ i = subst (IsNamedByOwnNumber i) e (own_type i) in
        subst (Holds b) same (subst (λ q. IsPartitionOf b q r d) (sym own) (part_at i d r l (e ∙ ap (partition_type d r) own)).0)
    type_holds i (partition_type d r p) k l e (inr g) = absurd g
    type_holds i (integer_type w) k l e g = absurd g
    type_holds i truth_type k l e g = absurd g
    type_holds i (index_type j) k l e g = absurd g
    type_holds i (pointer_type j sp others terms) k l e g = absurd g
    type_holds i (ispace_type j) k l e g = absurd g
    type_holds i (region_type j sp others q) k l e g = absurd g
    type_holds i no_type k l e g = absurd g
    type_holds i unknown_type k l e g = absurd g

    hold : AllHold b (scope_of h.tree callee).known
    hold k c = elim (Has-append_cases (known_of_params names) (known_of_clauses all callee.clauses) k (Has-from_Contains (scope_of h.tree callee).known k c)) [
      | inl g ↦
          let of = known_param names k g in
          let j = numbered_member h.tree all 0 all of.0 of.1 in
          type_holds j.0 of.0.static_type k j.1 (sym (param_type h.tree callee j.0) ∙ ap (λ (c : Bound). c.static_type) (param_as h.tree all j.0 ∙ j.2)) of.2
      | inr g ↦
          let of = known_clause all callee.clauses k g in
          let right = subst (λ ns. list_any (misdeclares h.tree ns) callee.clauses ≡ false) (sound.params name) (sound.clauses name) in
          let kept = subst (λ cs. list_any (breaks_clause h.scope.known all ts) cs ≡ false) (told_soundly h.tree callee (sound.clauses name)) parts.constrained in
          clause_holds of.0 k (none_has (misdeclares h.tree names) callee.clauses of.0 right of.1) (none_has (breaks_clause h.scope.known all ts) callee.clauses of.0 kept of.1) of.2
    ]

    parent_fits : (i : ℕ) (t : StaticType) → type_at params i ≡ t → IsOfParent b (scope_of h.tree callee).known t
    parent_fits i (partition_type d r p) e = elim (cases_lt i (length all)) [
      | inl l ↦
          let own : p ≡ i = subst (IsNamedByOwnNumber i) e (own_type i) in
          let is = part_at i d r l (e ∙ ap (partition_type d r) own) in
          let member = numbered_has h.tree all 0 all i l in
          let k = PartOf p r d in (
            Contains-from_Has (scope_of h.tree callee).known k (Has-append_left (known_of_params names) (known_of_clauses all callee.clauses) k
                (param_known names (get_or (numbered h.tree all 0 all) i unbound) k member
                (subst (λ t. Has (known_of_type t) k) (sym (ap (λ (c : Bound). c.static_type) (sym (param_as h.tree all i)) ∙ param_type h.tree callee i ∙ e)) (inl refl)))),
            subst (λ q. (b.partition q).root ≡ (b.region r).root) (sym own) is.1,
          )
      | inr g ↦ absurd (contrary (ap is_unknown_type (sym (no_param i g) ∙ e)))
    ]
    parent_fits i (integer_type w) e = tt
    parent_fits i truth_type e = tt
    parent_fits i (index_type j) e = tt
    parent_fits i (pointer_type j sp others terms) e = tt
    parent_fits i (ispace_type j) e = tt
    parent_fits i (region_type j sp others q) e = tt
    parent_fits i no_type e = tt
    parent_fits i unknown_type e = tt

    pub call_fits : AreFitting h.tree (task_named h.tree name) vs (length u.store)
    call_fits = record {
      counted = counted;
      types = types_fit;
      holds = hold;
      stored = record { regions = λ i. (stored i).0; children = λ i c. (stored i).1 c };
      parents = λ i. parent_fits i (type_at params i) refl;
    }
