-- A variable that begins with a partition operation, a difference among them, is bound to what is cut.
use Rattle.check_rules.proofs.Untold.{rule_none}
use Rattle.plain_values.proofs.Plain.{option_or_parts}
use Rattle.std.proofs.Common.{Bool, List, [], ◌∷◌, ◌++◌, None, Option, Some, false, true, refl, ap, sym, subst, ℕ, ◌≡◌, ◌∙◌, ◌<◌, inl, inr, cond, length, not}
use Rattle.std.proofs.lemmas.Bool.{and_parts, not-false, or_parts}
use Rattle.std.proofs.lemmas.List.Folds.{list_any-append}
use Rattle.std.specs.List.{list_any}
use Rattle.regent_tree.proofs.Members.{Contains-from_Has, Has-from_Contains}
use Rattle.regent_tree.specs.Accesses.{converted, regions_reached}
use Rattle.regent_tree.specs.Evaluation.{linked, typed, value}
use Rattle.regent_tree.specs.Execution.{bind, exec}
use Rattle.regent_tree.specs.Initializers.{initialized}
use Rattle.regent_tree.specs.Lookup.{is_bound, type_named}
use Rattle.regent_tree.specs.Operators.{combined}
use Rattle.regent_tree.specs.Accesses.{standing}
use Rattle.regent_tree.specs.Running.{Here, Result, Run, State, and_then, fails, gives, ◌>>=◌}
use Rattle.regent_tree.specs.Scopes.{known_of_type}
use Rattle.regent_tree.specs.Syntax.{Expression, Initializer, Name, TaskTree, a_link, access_expr, chain_expr, no_link, no_step, plain_initializer, var_form}
use Rattle.regent_tree.specs.Typing.{arithmetic_type, counting_as, initializer_type, known_of_child, known_of_initializer, operated, owned, reaches_of, scope_after, var_type}
use Rattle.regent_tree.specs.Values.{Partition, Value, a_partition, partition_of}
use Rattle.regent_tree.specs.declared.expression.Arithmetic.TheVariants.{Subtract}
use Rattle.regent_tree.specs.declared.expression.Operator.TheVariants.{Compute}
use Rattle.regent_tree.specs.declared.facts.Known.TheVariants.{Made, PartOf}
use Rattle.regent_tree.specs.declared.types.TypeTerm.{TypeTerm}
use Rattle.regent_tree.specs.declared.typing.StaticType.{StaticType}
use Rattle.regent_tree.specs.declared.typing.StaticType.TheVariants.{Index as index_type, Integer as integer_type, Ispace as ispace_type, Nothing as no_type, Partition as partition_type, Pointer as pointer_type, Region as region_type, Truth as truth_type, Unknown as unknown_type}
use Rattle.check_rules.specs.first.FirstInExpressions.{first_in_expression}
use Rattle.check_rules.specs.first.FirstInStatements.{first_of_form}
use Rattle.check_rules.specs.first.Rules.{first_in, rule_if}
use Rattle.check_rules.specs.rules.Partitions.{is_difference}
use Rattle.check_rules.specs.rules.Standing.{stands, typed_spot}
use Rattle.check_rules.specs.rules.Types.{is_ill_typed_at_place}
use Rattle.check_rules.specs.scopes.Variables.{is_flawed_initializer, known_initializer, members_of, standing_in_initializer, stands_declared, variable_type}
use Rattle.check_rules.specs.types.Fitting.{fits}
use Rattle.check_rules.specs.types.Sorts.{is_collection, is_partition, may_be}
use Rattle.check_rules.specs.declared.rule.Rule.TheVariants as rule
use Rattle.check_laws.proofs.Parts.{surely, unless_false}
use Rattle.check_laws.proofs.Variables.{begun_sound, parts_of_form, variable_known}
use Rattle.fact_laws.specs.Regions.{Holds, Interpretation}
use Rattle.expression_laws.specs.Kinds.{IsOfType, is_partition_of}
use Rattle.expression_laws.specs.Sound.{Instance, IsInStore, IsSoundState, KeepsSound}
use Rattle.statement_laws.specs.Places.{IsReady}
use Rattle.statement_laws.specs.Steady.{GoesOnSound}
use Rattle.statement_laws.proofs.Agree.{none_in_store}
use Rattle.statement_laws.proofs.Cuttings.{Cuts, IsAsked, IsCutValue, IsFlawless, IsPartitionName, asked_of, bound_partition, had}
use Rattle.statement_laws.proofs.Going.{then_goes}
use Rattle.statement_laws.proofs.Parts.{IsCut, cut_apart, cut_in_store, cut_weaker, cut_within, minus_cut}
use Rattle.statement_laws.proofs.States.{put, put_agrees, put_partition}
use Rattle.statement_laws.proofs.TypedVariables.{unless_both}
use Rattle.statement_laws.proofs.Variables.{Begins, begun}
use Rattle.statement_laws.proofs.VariableTypes.{var_said}

-- the difference of two partitions, as it is written
abbrev pub minus : Name → Name → Expression
minus p q = chain_expr (access_expr p no_step) (a_link (Compute Subtract) (access_expr q no_step) no_link)

module _ (task : TaskTree) (args : List Value) (roots : ℕ) where
  abbrev inst : Here → Instance
  inst h = record { tree = h.tree; calls = h.calls; task = task; args = args; roots = roots }

  -- ---- differences

  -- a name that isn't told of, and that may be a partition, is one
  minus_name : (h : Here) (m : Interpretation) → IsReady task args roots m h → (n : Name) → first_in_expression h.tree task h.scope (access_expr n no_step) ≡ None →
      may_be is_partition (type_named h.scope.names n) ≡ true → IsPartitionName task args roots h m n
  minus_name h m r n e is =
      let parts = option_or_parts (rule_if (not (is_bound h.scope.names n)) rule.Name) _ e in
      let bound = not-false (is_bound h.scope.names n) (rule_none _ rule.Name parts.0) in
      bound_partition task args roots h m r n bound (surely is_partition (type_named h.scope.names n) (r.scope.types n bound).known is)

  -- the rest of the difference, from its first partition on
  abbrev less_it : Here → Name → Name → Value → Value → Run Value
  less_it h p q x y = combined h (Compute Subtract) x y >>= λ c. linked h (operated (Compute Subtract) (typed h (access_expr p no_step)) (typed h (access_expr q no_step))) c no_link

  minus_second : (h : Here) (m : Interpretation) (p q : Name) (d e : Bool) (a b j : ℕ) (x : Partition) (w : Value) (u : State) → IsSoundState (inst h) m h.scope u →
      IsOfType m (partition_type e b j) w → IsCut (m.region a) d x →
      KeepsSound (inst h) m h.scope (IsCutValue task args roots (m.region a) d) (and_then (standing h w u) (less_it h p q (a_partition x)))
  minus_second h m p q d e a b j x w u st (is_partition_of {q = y} same) cut = (st, (_, refl, minus_cut (m.region a) d x y cut))

  minus_gives : (h : Here) (m : Interpretation) (p q : Name) (d e : Bool) (a b i j : ℕ) (v : Value) (u : State) → IsSoundState (inst h) m h.scope u →
      IsOfType m (partition_type d a i) v → IsOfType m (partition_type e b j) (had task args roots h q u) → IsCut (m.region a) d (partition_of v) →
      KeepsSound (inst h) m h.scope (IsCutValue task args roots (m.region a) d)
      (and_then (standing h v u) (λ x. λ z. and_then (standing h (had task args roots h q z) z) (less_it h p q x)))
  minus_gives h m p q d e a b i j v u st (is_partition_of {q = x} same) second cut = minus_second h m p q d e a b j x (had task args roots h q u) u st second cut

  -- what a difference gives is cut of the first one's parent
  pub minus_cuts : (h : Here) (m : Interpretation) → IsReady task args roots m h → (wanted : StaticType) (p q : Name) → IsFlawless task args roots h (plain_initializer (minus p q)) → is_difference h.scope.names (minus p q) ≡ true → Cuts task args roots h m None wanted (plain_initializer (minus p q))
  minus_cuts h m r wanted p q is whole =
      let s = h.scope in
      let both = and_parts (may_be is_partition (type_named s.names p)) (may_be is_partition (type_named s.names q)) whole in
      let heads = option_or_parts (first_in_expression h.tree task s (access_expr p no_step)) _ (subst (λ b. first_in (first_in_expression h.tree task s) (cond b (members_of (minus p q)) (minus p q ∷ [])) ≡ None) whole is.heads) in
      let first = minus_name h m r p heads.0 both.0 in
      let second = minus_name h m r q (option_or_parts (first_in_expression h.tree task s (access_expr q no_step)) _ heads.1).0 both.1 in
      let typed_as = ap (λ x. arithmetic_type (counting_as x) (counting_as (type_named s.names q))) first.is in record {
        parent = first.parent;
        disjoint = first.disjoint;
        type = ap (owned s.next) typed_as;
        less = first.less;
        told = ap (known_of_child s.next) typed_as;
        gives_cut = λ u st. minus_gives h m p q first.disjoint second.disjoint first.parent second.parent _ _ _ u st (first.value u st) (second.value u st) (first.cut u st);
      }

  -- the same with a type that is written, which leaves a partition as it is
  pub typed_cuts : (h : Here) (m : Interpretation) (t : TypeTerm) (wanted other : StaticType) (e : Expression) → IsReady task args roots m h → is_partition wanted ≡ true →
      Cuts task args roots h m None other (plain_initializer e) → Cuts task args roots h m (Some t) wanted (plain_initializer e)
  typed_cuts h m t wanted other e r is cut = record {
    parent = cut.parent;
    disjoint = cut.disjoint;
    type = cut.type;
    less = cut.less;
    told = cut.told;
    gives_cut = λ u st. passed wanted is (value h e u) (cut.gives_cut u st);
  }
    where
      passed : (wanted : StaticType) → is_partition wanted ≡ true → (q : Result Value) → KeepsSound (inst h) m h.scope (IsCutValue task args roots (m.region cut.parent) cut.disjoint) q →
          KeepsSound (inst h) m h.scope (IsCutValue task args roots (m.region cut.parent) cut.disjoint)
          (and_then q (λ v. λ z. converted h (typed h e) wanted (regions_reached h.scope z.names (reaches_of wanted)) v z))
      passed (partition_type d a i) is (gives v u) keeps = keeps
      passed (partition_type d a i) is (fails f u) keeps = keeps
      passed (integer_type w) is q keeps = absurd cc
      passed truth_type is q keeps = absurd cc
      passed (index_type k) is q keeps = absurd cc
      passed (pointer_type k s z terms) is q keeps = absurd cc
      passed (ispace_type k) is q keeps = absurd cc
      passed (region_type k s z y) is q keeps = absurd cc
      passed no_type is q keeps = absurd cc
      passed unknown_type is q keeps = absurd cc

  -- ---- what is bound

  cut_begins : (h : Here) (m : Interpretation) (r : ℕ) (d : Bool) (q : Partition) (count : ℕ) → r < h.scope.next → IsInStore count (m.region r) → IsCut (m.region r) d q →
      Begins task args roots h m (partition_type d r h.scope.next) (PartOf h.scope.next r d ∷ []) (a_partition q) count
  cut_begins h m r d q count less are cut =
      let n = h.scope.next in
      let b = put n (a_partition q) m in
      let same : b.partition n ≡ q = put_partition n (a_partition q) m in
      let parent : b.region r ≡ m.region r = sym ((put_agrees n (a_partition q) m).regions r less) in
      let there : IsCut (b.region r) d (b.partition n) = subst (IsCut (b.region r) d) (sym same) (subst (λ a. IsCut a d q) (sym parent) cut) in record {
        is_of = is_partition_of same;
        holds = λ k c. elim (Has-from_Contains (PartOf n r d ∷ []) k c) [
          | inl e ↦ subst (Holds b) e (record { within = λ c. cut_within (b.region r) d (b.partition n) there c; apart = λ e c f ne. cut_apart (b.region r) d (b.partition n) there e c f ne })
          | inr g ↦ absurd g
        ];
        own = λ i c. elim (Has-from_Contains (PartOf n r d ∷ []) (Made i) c) [
          | inl e ↦ absurd cc
          | inr g ↦ absurd g
        ];
        kept = none_in_store count;
        children = λ c. cut_in_store (m.region r) d q cut count are c;
        parent = (Contains-from_Has (PartOf n r d ∷ []) (PartOf n r d) (inl refl), there.root);
      }

  -- the type that is written asks for no more than is given
  pub declared_fits : (h : Here) (m : Interpretation) → IsReady task args roots m h → (n : Name) (t : TypeTerm) (i : Initializer) → first_of_form h.tree task h.scope (var_form n (Some t) (Some i)) ≡ None →
      fits h.scope.known (initializer_type h.tree h.scope h.scope.next i) (var_type h.tree h.scope (Some t) (Some i)) ≡ true
  declared_fits h m r n t i told =
      let s = h.scope in
      let parts = parts_of_form h.tree task s r.sound r.scope (var_form n (Some t) (Some i)) told in
      let b = begun_sound h.tree task s r.sound r.scope n (Some t) i told in
      let vt = variable_type h.tree s (Some t) (Some i) in
      let is_begun : known_initializer h.tree s i ≡ initializer_type h.tree s s.next i = unless_false (is_flawed_initializer h.tree s i) (initializer_type h.tree s s.next i) b.0 in
      let is_wanted : vt ≡ var_type h.tree s (Some t) (Some i) = sym (unless_both (is_collection vt) _ vt b.2) ∙ (variable_known h.tree task s r.sound r.scope n (Some t) (Some i) told).0 in
      let stand = or_parts (list_any (is_ill_typed_at_place s.known) (standing_in_initializer h.tree s i)) (list_any (is_ill_typed_at_place s.known) (stands_declared (known_initializer h.tree s i) (Some t) vt))
      (sym (list_any-append (is_ill_typed_at_place s.known) (standing_in_initializer h.tree s i) (stands_declared (known_initializer h.tree s i) (Some t) vt)) ∙ parts.4) in
      let fit = not-false _ (or_parts (is_ill_typed_at_place s.known (stands (known_initializer h.tree s i) (typed_spot vt))) false stand.1).0 in
      sym (λ j. fits s.known (is_begun j) (is_wanted j)) ∙ fit

  -- a variable whose type is what the initializer gives, or what is asked of it
  asked_type : (h : Here) (m : Interpretation) → IsReady task args roots m h → (n : Name) (t : Option TypeTerm) (i : Initializer) (c : Cuts task args roots h m t (var_type h.tree h.scope t (Some i)) i) →
      first_of_form h.tree task h.scope (var_form n t (Some i)) ≡ None → IsAsked c.disjoint c.parent h.scope.next (var_type h.tree h.scope t (Some i))
  asked_type h m r n None i c told = record { asked = c.disjoint; is = c.type; less = λ e. e }
  asked_type h m r n (Some t) i c told =
      let s = h.scope in
      asked_of s.known c.disjoint c.parent s.next (var_type h.tree s (Some t) (Some i)) (variable_known h.tree task s r.sound r.scope n (Some t) (Some i) told).1.known
      (subst (λ ty. fits s.known ty (var_type h.tree s (Some t) (Some i)) ≡ true) c.type (declared_fits h m r n t i told))
      (var_said h.tree task s r.sound r.scope r.static.well_scoped n (Some t) (Some i) told).1

  pub cut_goes : (n : Name) (t : Option TypeTerm) (i : Initializer) (h : Here) (m : Interpretation) → IsReady task args roots m h → Cuts task args roots h m t (var_type h.tree h.scope t (Some i)) i →
      first_of_form h.tree task h.scope (var_form n t (Some i)) ≡ None → (u : State) → IsSoundState (inst h) m h.scope u →
      GoesOnSound (inst h) m h.scope.next (scope_after h.tree h.scope (var_form n t (Some i))) (exec h (var_form n t (Some i)) u)
  cut_goes n t i h m r c told u st =
      let s = h.scope in
      let ty = var_type h.tree s t (Some i) in
      let asked = asked_type h m r n t i c told in
      let tells : PartOf s.next c.parent asked.asked ∷ [] ≡ known_of_initializer h.tree s s.next (Some i) ++ known_of_type ty = sym (λ j. c.told j ++ known_of_type (asked.is j)) in
      then_goes (inst h) m s s.next (scope_after h.tree s (var_form n t (Some i))) (initialized h t ty i u) (λ v. bind v) (c.gives_cut u st) (λ v z st is.
      begun task args roots h m n t (Some i) r v z st
      (subst (λ w. Begins task args roots h m ty (known_of_initializer h.tree s s.next (Some i) ++ known_of_type ty) w (length z.store)) is.1
      (subst (λ ks. Begins task args roots h m ty ks (a_partition is.0) (length z.store)) tells
      (subst (λ y. Begins task args roots h m y (PartOf s.next c.parent asked.asked ∷ []) (a_partition is.0) (length z.store)) (sym asked.is)
      (cut_begins h m c.parent asked.asked is.0 (length z.store) c.less (st.rooted.regions c.parent) (cut_weaker (m.region c.parent) c.disjoint asked.asked is.0 asked.less is.2))))))
