-- Variables that begin with a partition operation.
use Rattle.std.proofs.Common.{List, Bool, None, Option, Some, false, true, refl, ap, sym, subst, ℕ, ◌≡◌, ◌∙◌, ◌≤◌, ◌&&◌, ◌||◌, not, get_or}
use Rattle.std.proofs.lemmas.Bool.{and_parts, eqb-true, leb-true, not-false, or_parts}
use Rattle.std.specs.List.{All}
use Rattle.std.specs.Prelude.{nat_le}
use Rattle.plain_values.proofs.Plain.{option_or_parts}
use Rattle.regent_tree.specs.Accesses.{space_in, standing}
use Rattle.regent_tree.specs.Evaluation.{linked, value}
use Rattle.regent_tree.specs.Execution.{bind}
use Rattle.regent_tree.specs.Initializers.{colours, initialized, partitioned, read_all, region_named}
use Rattle.regent_tree.specs.Laws.{Shape}
use Rattle.regent_tree.specs.Limits.{KeepsLimit, parts_of_expression, parts_of_form}
use Rattle.regent_tree.specs.Lookup.{is_bound, type_named}
use Rattle.regent_tree.specs.Operators.{arithmetic}
use Rattle.regent_tree.specs.Partitions.{by_field_sets, equal_sets}
use Rattle.regent_tree.specs.Running.{Here, Result, Run, State, and_then, fault, given, if_true, ◌>>=◌}
use Rattle.regent_tree.specs.Scopes.{bound_to}
use Rattle.regent_tree.specs.Syntax.{Expression, Initializer, Name, TaskTree, a_link, access_expr, both_initializer, by_field_initializer, chain_expr, either_initializer, equal_initializer, image_initializer, no_link, no_step, plain_initializer, preimage_initializer, region_initializer, var_form}
use Rattle.regent_tree.specs.Typing.{arithmetic_type, counting_as, initializer_type, is_disjoint, parent_of, scope_after, var_type}
use Rattle.regent_tree.specs.Values.{Partition, Region, Value, a_partition, a_truth, partition_of, region_of, size_of}
use Rattle.regent_tree.specs.declared.expression.Arithmetic.TheVariants.{Subtract}
use Rattle.regent_tree.specs.declared.expression.Operator.TheVariants.{Compute}
use Rattle.regent_tree.specs.declared.outcome.FaultKind.TheVariants.{BadSize}
use Rattle.regent_tree.specs.declared.types.TypeTerm.{TypeTerm}
use Rattle.regent_tree.specs.declared.typing.Bound.{Bound}
use Rattle.regent_tree.specs.declared.typing.StaticType.{StaticType}
use Rattle.regent_tree.specs.declared.typing.StaticType.TheVariants.{Index as index_type, Integer as integer_type, Ispace as ispace_type, Nothing as no_type, Partition as partition_type, Pointer as pointer_type, Region as region_type, Truth as truth_type, Unknown as unknown_type}
use Rattle.check_rules.proofs.Untold.{rule_none}
use Rattle.check_rules.specs.first.FirstInExpressions.{first_in_expression, first_in_type}
use Rattle.check_rules.specs.first.FirstInStatements.{first_of_form, first_of_initializer}
use Rattle.check_rules.specs.first.Rules.{first_in, rule_if}
use Rattle.check_rules.specs.rules.Names.{unbound_name_in_initializer}
use Rattle.check_rules.specs.rules.Partitions.{have_other_parents, is_difference, mispartitions_initializer}
use Rattle.check_rules.specs.scopes.Variables.{expressions_in_initializer, members_of, written_in_initializer}
use Rattle.check_rules.specs.types.Fitting.{fits_known}
use Rattle.check_rules.specs.types.Lookup.{names_a}
use Rattle.check_rules.specs.types.Sorts.{is_partition, is_region, may_be}
use Rattle.check_rules.specs.declared.rule.Rule.TheVariants as rule
use Rattle.check_laws.proofs.Parts.{contrary, surely}
use Rattle.check_laws.proofs.Scopes.{found_by_number}
use Rattle.check_laws.proofs.Variables.{named, parts_of_form as parts_told}
use Rattle.expression_laws.specs.Writing.{IsWritten}
use Rattle.state_laws.specs.Going.{GoesOnFit, IsPlaceOfRun}
use Rattle.state_laws.proofs.Leaves.{evaluates}
use Rattle.state_laws.proofs.Operations.{both_is, difference_is, equal_is, field_is, image_is, preimage_is, union_is}
use Rattle.state_laws.proofs.Rooted.{EndsOfParent, IsOfParent, ends_named, then_ends, wanted_ends}
use Rattle.state_laws.proofs.Variables.{Evaluates, IsRooted, start_told, started}
use Rattle.state_laws.proofs.VariableTypes.{variable_begins}
use Rattle.value_laws.specs.Fitting.{Fits, HasRootOfName, fits_partition, root_bound, space_bound}
use Rattle.value_laws.specs.Keeping.{KeepsFit, StateFits}
use Rattle.value_laws.specs.Shapes.{IsPartitionOf, IsRegionOf, most_colours}
use Rattle.value_laws.proofs.Conversions.{asked_partition}
use Rattle.value_laws.proofs.Ends.{after, weaker}
use Rattle.value_laws.proofs.Regions.{region_fits}
use Rattle.value_laws.proofs.Roots.{Gives}
use Rattle.value_laws.proofs.SameNames.{value_same}

module _ (task : TaskTree) (roots : List Shape) (h : Here) (r : IsPlaceOfRun task roots h) where
  abbrev names : List Bound
  names = h.scope.names

  abbrev State_fits : State → Type 0
  State_fits u = StateFits h.tree roots h.scope.names u

  abbrev value_at : Name → State → Value
  value_at n u = get_or u.names (bound_to h.scope.names n).place (a_truth false)

  name_fits : (n : Name) → is_bound h.scope.names n ≡ true → (u : State) → State_fits u → Fits roots h.scope.names (type_named h.scope.names n) (value_at n u)
  name_fits n b u st = subst (λ (c : Bound). Fits roots h.scope.names c.static_type (get_or u.names c.place (a_truth false)))
      (found_by_number h.scope.next h.scope.names n r.place.scope.numbers b).0 (st.names (bound_to h.scope.names n).number)

  -- what a name of a region or a partition has
  region_value : (n : Name) → not (names_a is_region h.scope.names n) ≡ false → (u : State) → State_fits u →
      IsRegionOf roots (space_bound h.scope.names (bound_to h.scope.names n).number) (region_of (value_at n u))
  region_value n e u st =
      let is = named h.tree task h.scope r.place.sound r.place.scope is_region n e in
      subst (λ (c : Bound). IsRegionOf roots (space_in c.static_type) (region_of (value_at n u))) (sym (found_by_number h.scope.next h.scope.names n r.place.scope.numbers is.0).0)
      (region_fits roots h.scope.names (type_named h.scope.names n) (value_at n u) is.1 (name_fits n is.0 u st))

  partition_of_type : (t : StaticType) (v : Value) → is_partition t ≡ true → Fits roots h.scope.names t v → IsPartitionOf roots (space_bound h.scope.names (parent_of t)) (is_disjoint t) (partition_of v)
  partition_of_type (partition_type d q o) v e (fits_partition is) = is
  partition_of_type (integer_type w) v e is = absurd cc
  partition_of_type truth_type v e is = absurd cc
  partition_of_type (index_type j) v e is = absurd cc
  partition_of_type (pointer_type j other others terms) v e is = absurd cc
  partition_of_type (ispace_type k) v e is = absurd cc
  partition_of_type (region_type j other others p) v e is = absurd cc
  partition_of_type no_type v e is = absurd cc
  partition_of_type unknown_type v e is = absurd cc

  partition_value : (n : Name) → not (names_a is_partition h.scope.names n) ≡ false → (u : State) → State_fits u →
      IsPartitionOf roots (space_bound h.scope.names (parent_of (type_named h.scope.names n))) (is_disjoint (type_named h.scope.names n)) (partition_of (value_at n u))
  partition_value n e u st =
      let is = named h.tree task h.scope r.place.sound r.place.scope is_partition n e in
      partition_of_type (type_named h.scope.names n) (value_at n u) is.1 (name_fits n is.0 u st)

  few_colours : (v : Value) (u : State) → State_fits u → KeepsFit h.tree roots h.scope.names (λ n. n ≤ most_colours) (colours h v u)
  few_colours v u st = by (nat_le (size_of v) 65536) refl
    where
      by : (b : Bool) → nat_le (size_of v) 65536 ≡ b → KeepsFit h.tree roots h.scope.names (λ n. n ≤ most_colours) (if_true b (given (size_of v)) (fault h BadSize) u)
      by true e = (st, leb-true (size_of v) 65536 e)
      by false e = st.store

  touched : (more : _) (u : State) → State_fits u → State_fits (record u { touches = more })
  touched more u st = record { names = st.names; counted = st.counted; agree = st.agree; store = st.store }

  both_named : (a b : Bool) → not (a && b) ≡ false → (not a ≡ false) × (not b ≡ false)
  both_named true true e = (refl, refl)
  both_named true false e = absurd cc
  both_named false b e = absurd cc

  -- ---- roots

  named_sort : (sort : StaticType → Bool) (n : Name) → not (names_a sort h.scope.names n) ≡ false → sort (type_named h.scope.names n) ≡ true
  named_sort sort n e = (named h.tree task h.scope r.place.sound r.place.scope sort n e).1

  one_parent : (t o : StaticType) → is_partition t ≡ true → is_partition o ≡ true → have_other_parents t o ≡ false → parent_of t ≡ parent_of o
  one_parent (partition_type d p own) (partition_type f q other) e g same = eqb-true p q (not-false _ same)
  one_parent (partition_type d p own) (integer_type w) e g same = absurd cc
  one_parent (partition_type d p own) truth_type e g same = absurd cc
  one_parent (partition_type d p own) (index_type j) e g same = absurd cc
  one_parent (partition_type d p own) (pointer_type j other others terms) e g same = absurd cc
  one_parent (partition_type d p own) (ispace_type k) e g same = absurd cc
  one_parent (partition_type d p own) (region_type j other others q) e g same = absurd cc
  one_parent (partition_type d p own) no_type e g same = absurd cc
  one_parent (partition_type d p own) unknown_type e g same = absurd cc
  one_parent (integer_type w) o e g same = absurd cc
  one_parent truth_type o e g same = absurd cc
  one_parent (index_type j) o e g same = absurd cc
  one_parent (pointer_type j other others terms) o e g same = absurd cc
  one_parent (ispace_type k) o e g same = absurd cc
  one_parent (region_type j other others q) o e g same = absurd cc
  one_parent no_type o e g same = absurd cc
  one_parent unknown_type o e g same = absurd cc

  root_of_parent : (t : StaticType) (v : Value) (vs : List Value) → is_partition t ≡ true → HasRootOfName h.scope.names vs t v → (partition_of v).root ≡ root_bound h.scope.names vs (parent_of t)
  root_of_parent (partition_type d p own) v vs e root = root
  root_of_parent (integer_type w) v vs e root = absurd cc
  root_of_parent truth_type v vs e root = absurd cc
  root_of_parent (index_type j) v vs e root = absurd cc
  root_of_parent (pointer_type j other others terms) v vs e root = absurd cc
  root_of_parent (ispace_type k) v vs e root = absurd cc
  root_of_parent (region_type j other others q) v vs e root = absurd cc
  root_of_parent no_type v vs e root = absurd cc
  root_of_parent unknown_type v vs e root = absurd cc

  name_root : (n : Name) → is_bound h.scope.names n ≡ true → (u : State) → State_fits u → HasRootOfName h.scope.names u.names (type_named h.scope.names n) (value_at n u)
  name_root n b u st = subst (λ (c : Bound). HasRootOfName h.scope.names u.names c.static_type (get_or u.names c.place (a_truth false)))
      (found_by_number h.scope.next h.scope.names n r.place.scope.numbers b).0 (st.agree (bound_to h.scope.names n).number)

  -- a partition that is named is of its parent's root
  partition_root : (n : Name) → not (names_a is_partition h.scope.names n) ≡ false → (u : State) → State_fits u →
      (partition_of (value_at n u)).root ≡ root_bound h.scope.names u.names (parent_of (type_named h.scope.names n))
  partition_root n e u st =
      let is = named h.tree task h.scope r.place.sound r.place.scope is_partition n e in
      root_of_parent (type_named h.scope.names n) (value_at n u) u.names is.1 (name_root n is.0 u st)

  region_root : (n : Name) → not (names_a is_region h.scope.names n) ≡ false → (vs : List Value) →
      (region_of (get_or vs (bound_to h.scope.names n).place (a_truth false))).root ≡ root_bound h.scope.names vs (bound_to h.scope.names n).number
  region_root n e vs =
      let is = named h.tree task h.scope r.place.sound r.place.scope is_region n e in
      sym (ap (λ (c : Bound). (region_of (get_or vs c.place (a_truth false))).root) (found_by_number h.scope.next h.scope.names n r.place.scope.numbers is.0).0)

  -- ---- the operations

  abbrev pub IsOperation : Initializer → Type 0
  IsOperation (equal_initializer q e) = IsWritten e × All KeepsLimit (parts_of_expression e)
  IsOperation (by_field_initializer q f e) = IsWritten e × All KeepsLimit (parts_of_expression e)
  IsOperation (image_initializer parent p q f) = Unit {0}
  IsOperation (preimage_initializer parent p q f) = Unit {0}
  IsOperation (both_initializer p q) = Unit {0}
  IsOperation (either_initializer p q) = Unit {0}
  IsOperation i = ⊥

  operated_fits : (i : Initializer) (t : Option TypeTerm) (wanted : StaticType) → IsOperation i → first_in (first_in_expression h.tree task h.scope) (expressions_in_initializer h.scope.names i) ≡ None →
      unbound_name_in_initializer h.tree h.scope.names i ≡ false → mispartitions_initializer h.tree h.scope i ≡ false → (u : State) → State_fits u →
      KeepsFit h.tree roots h.scope.names (Fits roots h.scope.names (initializer_type h.tree h.scope h.scope.next i)) (initialized h t wanted i u)
  operated_fits (equal_initializer q e) t wanted wr heads unbound parted u st =
      let result = Fits roots h.scope.names (initializer_type h.tree h.scope h.scope.next (equal_initializer q e)) in
      after result (value h e u) (λ v. colours h v >>= λ n. region_named h q >>= λ a. given (partitioned a.root true (equal_sets a.points n)))
      (evaluates task roots h r e wr.0 wr.1 (option_or_parts (first_in_expression h.tree task h.scope e) _ heads).0 u st) (λ v w st is.
      after result (colours h v w) (λ n. region_named h q >>= λ a. given (partitioned a.root true (equal_sets a.points n))) (few_colours v w st) (λ n w st few.
      (st, fits_partition (equal_is h.tree roots r.place.rooted _ (region_of (value_at q w)) n (region_value q unbound w st) few))))
  operated_fits (by_field_initializer q f e) t wanted wr heads unbound parted u st =
      let result = Fits roots h.scope.names (initializer_type h.tree h.scope h.scope.next (by_field_initializer q f e)) in
      let region = (or_parts (not (names_a is_region h.scope.names q)) _ unbound).0 in
      let last : ℕ → Region → Run Value = λ n a. read_all h (type_named h.scope.names q) a f >>= λ c. given (partitioned a.root true (by_field_sets a.points c.numbers n)) in
      after result (value h e u) (λ v. colours h v >>= λ n. region_named h q >>= λ a. last n a)
      (evaluates task roots h r e wr.0 wr.1 (option_or_parts (first_in_expression h.tree task h.scope e) _ heads).0 u st) (λ v w st is.
      after result (colours h v w) (λ n. region_named h q >>= λ a. last n a) (few_colours v w st) (λ n w st few.
      (touched _ w st, fits_partition (field_is h.tree roots r.place.rooted _ (region_of (value_at q w)) _ n (region_value q region w st) few))))
  operated_fits (image_initializer parent p q f) t wanted wr heads unbound parted u st =
      let first = or_parts (not (names_a is_region h.scope.names parent) || not (names_a is_partition h.scope.names p)) _ unbound in
      let both = or_parts (not (names_a is_region h.scope.names parent)) _ first.0 in
      let old = partition_value p both.1 u st in
      (touched _ u st, fits_partition (image_is h.tree roots r.place.rooted _ (region_of (value_at parent u)) _ _ _ _ (region_value parent both.0 u st) old.few))
  operated_fits (preimage_initializer parent p q f) t wanted wr heads unbound parted u st =
      let first = or_parts (not (names_a is_region h.scope.names parent) || not (names_a is_partition h.scope.names p)) _ unbound in
      let both = or_parts (not (names_a is_region h.scope.names parent)) _ first.0 in
      let field = (or_parts (not (names_a is_region h.scope.names q)) _ first.1).0 in (
        touched _ u st,
        fits_partition (preimage_is h.tree roots r.place.rooted _ (region_of (value_at parent u)) (partition_of (value_at p u)) _ _ (region_of (value_at q u)) _ _ _
            (region_value parent both.0 u st) (partition_value p both.1 u st) (region_value q field u st)),
      )
  operated_fits (both_initializer p q) t wanted wr heads unbound parted u st =
      let both = both_named (names_a is_partition h.scope.names p) (names_a is_partition h.scope.names q) unbound in
      (st, fits_partition (both_is h.tree roots r.place.rooted _ (partition_of (value_at p u)) (partition_of (value_at q u)) _ _ _ (partition_value p both.0 u st) (partition_value q both.1 u st)))
  operated_fits (either_initializer p q) t wanted wr heads unbound parted u st =
      let both = both_named (names_a is_partition h.scope.names p) (names_a is_partition h.scope.names q) unbound in
      let other = (or_parts (have_other_parents (type_named h.scope.names p) (type_named h.scope.names q)) false parted).0 in
      let same = one_parent (type_named h.scope.names p) (type_named h.scope.names q) (named_sort is_partition p both.0) (named_sort is_partition q both.1) other in
      let root = partition_root p both.0 u st ∙ ap (root_bound h.scope.names u.names) same ∙ sym (partition_root q both.1 u st) in
      (st, fits_partition (union_is h.tree roots r.place.rooted _ (partition_of (value_at p u)) (partition_of (value_at q u)) _ _ _ (partition_value p both.0 u st) (partition_value q both.1 u st) root))
  operated_fits (region_initializer e s) t wanted wr heads unbound parted u st = absurd wr
  operated_fits (plain_initializer e) t wanted wr heads unbound parted u st = absurd wr

  -- what an operation gives is of its parent's root
  operated_root : (i : Initializer) (t : Option TypeTerm) (wanted : StaticType) → IsOperation i → unbound_name_in_initializer h.tree h.scope.names i ≡ false → (u : State) → State_fits u →
      EndsOfParent h.scope.names (initializer_type h.tree h.scope h.scope.next i) (initialized h t wanted i u)
  operated_root (equal_initializer q e) t wanted wr unbound u st =
      then_ends (λ v w. IsOfParent h.scope.names w.names (initializer_type h.tree h.scope h.scope.next (equal_initializer q e)) v) (value h e u) (λ v. colours h v >>= λ n. region_named h q >>= λ a. given (partitioned a.root true (equal_sets a.points n))) (λ v w.
      then_ends (λ v w. IsOfParent h.scope.names w.names (initializer_type h.tree h.scope h.scope.next (equal_initializer q e)) v) (colours h v w) (λ n. region_named h q >>= λ a. given (partitioned a.root true (equal_sets a.points n))) (λ n w. region_root q unbound w.names))
  operated_root (by_field_initializer q f e) t wanted wr unbound u st =
      let region = (or_parts (not (names_a is_region h.scope.names q)) _ unbound).0 in
      let last : ℕ → Region → Run Value = λ n a. read_all h (type_named h.scope.names q) a f >>= λ c. given (partitioned a.root true (by_field_sets a.points c.numbers n)) in
      then_ends (λ v w. IsOfParent h.scope.names w.names (initializer_type h.tree h.scope h.scope.next (by_field_initializer q f e)) v) (value h e u) (λ v. colours h v >>= λ n. region_named h q >>= λ a. last n a) (λ v w.
      then_ends (λ v w. IsOfParent h.scope.names w.names (initializer_type h.tree h.scope h.scope.next (by_field_initializer q f e)) v) (colours h v w) (λ n. region_named h q >>= λ a. last n a) (λ n w. region_root q region w.names))
  operated_root (image_initializer parent p q f) t wanted wr unbound u st =
      region_root parent (or_parts (not (names_a is_region h.scope.names parent)) _ (or_parts (not (names_a is_region h.scope.names parent) || not (names_a is_partition h.scope.names p)) _ unbound).0).0 u.names
  operated_root (preimage_initializer parent p q f) t wanted wr unbound u st =
      region_root parent (or_parts (not (names_a is_region h.scope.names parent)) _ (or_parts (not (names_a is_region h.scope.names parent) || not (names_a is_partition h.scope.names p)) _ unbound).0).0 u.names
  operated_root (both_initializer p q) t wanted wr unbound u st =
      partition_root p (both_named (names_a is_partition h.scope.names p) (names_a is_partition h.scope.names q) unbound).0 u st
  operated_root (either_initializer p q) t wanted wr unbound u st =
      partition_root p (both_named (names_a is_partition h.scope.names p) (names_a is_partition h.scope.names q) unbound).0 u st
  operated_root (region_initializer e s) t wanted wr unbound u st = absurd wr
  operated_root (plain_initializer e) t wanted wr unbound u st = absurd wr

  -- ---- a difference

  difference_root : (t o : StaticType) (v : Value) (q : Name) (u : State) (vs : List Value) → is_partition t ≡ true → Fits roots h.scope.names t v → HasRootOfName h.scope.names vs t v →
      Gives (IsOfParent h.scope.names vs (arithmetic_type (counting_as t) (counting_as o))) (linked h t v (a_link (Compute Subtract) (access_expr q no_step) no_link) u)
  difference_root (partition_type d s p) o v q u vs e (fits_partition {p = first} is) root =
      then_ends (λ v w. IsOfParent h.scope.names vs (partition_type d s p) v) (standing h (value_at q u) u) (λ b. arithmetic h Subtract (a_partition first) b >>= λ c. given c) (λ b w. root)
  difference_root (integer_type w) o v q u vs e is root = absurd cc
  difference_root truth_type o v q u vs e is root = absurd cc
  difference_root (index_type j) o v q u vs e is root = absurd cc
  difference_root (pointer_type j other others terms) o v q u vs e is root = absurd cc
  difference_root (ispace_type k) o v q u vs e is root = absurd cc
  difference_root (region_type j other others p) o v q u vs e is root = absurd cc
  difference_root no_type o v q u vs e is root = absurd cc
  difference_root unknown_type o v q u vs e is root = absurd cc

  pub difference_rooted : (y : Expression) (is : Bool) → is_difference h.scope.names y ≡ is → is ≡ true →
      first_in (first_in_expression h.tree task h.scope) (members_of y) ≡ None → IsRooted task roots h y
  difference_rooted y false d t heads u st = absurd (contrary (sym t))
  difference_rooted (chain_expr (access_expr p no_step) (a_link (Compute Subtract) (access_expr q no_step) no_link)) true d t heads u st =
      let y = chain_expr (access_expr p no_step) (a_link (Compute Subtract) (access_expr q no_step) no_link) in
      let parts = option_or_parts (first_in_expression h.tree task h.scope (access_expr p no_step)) _ heads in
      let one = not-false (is_bound h.scope.names p) (rule_none _ rule.Name (option_or_parts (rule_if (not (is_bound h.scope.names p)) rule.Name) _ parts.0).0) in
      let both = and_parts (may_be is_partition (type_named h.scope.names p)) _ d in
      ends_named h.scope.names u.names _ (value h y u)
      (difference_root (type_named h.scope.names p) (type_named h.scope.names q) (value_at p u) q u u.names (surely is_partition (type_named h.scope.names p) (r.place.scope.types p one).known both.0)
      (name_fits p one u st) (name_root p one u st)) (value_same h u.names y u refl)
  difference_rooted y true d t heads u st = absurd (contrary (sym d))

  second : (d : Bool) (q o : ℕ) (first : Partition) (t : StaticType) (v : Value) (u : State) → is_partition t ≡ true → Fits roots h.scope.names t v → IsPartitionOf roots (space_bound h.scope.names q) d first → State_fits u →
      KeepsFit h.tree roots h.scope.names (Fits roots h.scope.names (partition_type d q o)) (and_then (standing h v u) (λ b. arithmetic h Subtract (a_partition first) b >>= λ c. given c))
  second d q o first (partition_type f s p) v u e (fits_partition {p = other} is) a st = (st, fits_partition (difference_is h.tree roots r.place.rooted _ first other d a))
  second d q o first (integer_type w) v u e is a st = absurd cc
  second d q o first truth_type v u e is a st = absurd cc
  second d q o first (index_type j) v u e is a st = absurd cc
  second d q o first (pointer_type j other others terms) v u e is a st = absurd cc
  second d q o first (ispace_type k) v u e is a st = absurd cc
  second d q o first (region_type j other others p) v u e is a st = absurd cc
  second d q o first no_type v u e is a st = absurd cc
  second d q o first unknown_type v u e is a st = absurd cc

  first_of_two : (t : StaticType) (v : Value) (q : Name) (u : State) → is_partition t ≡ true → Fits roots h.scope.names t v → is_partition (type_named h.scope.names q) ≡ true → is_bound h.scope.names q ≡ true → State_fits u →
      KeepsFit h.tree roots h.scope.names (Fits roots h.scope.names (arithmetic_type (counting_as t) (counting_as (type_named h.scope.names q))))
      (linked h t v (a_link (Compute Subtract) (access_expr q no_step) no_link) u)
  first_of_two (partition_type d s p) v q u e (fits_partition {p = first} is) f b st =
      second d s p first (type_named h.scope.names q) (value_at q u) u f (name_fits q b u st) is st
  first_of_two (integer_type w) v q u e is f b st = absurd cc
  first_of_two truth_type v q u e is f b st = absurd cc
  first_of_two (index_type j) v q u e is f b st = absurd cc
  first_of_two (pointer_type j other others terms) v q u e is f b st = absurd cc
  first_of_two (ispace_type k) v q u e is f b st = absurd cc
  first_of_two (region_type j other others p) v q u e is f b st = absurd cc
  first_of_two no_type v q u e is f b st = absurd cc
  first_of_two unknown_type v q u e is f b st = absurd cc

  pub difference_evaluates : (y : Expression) (is : Bool) → is_difference h.scope.names y ≡ is → is ≡ true →
      first_in (first_in_expression h.tree task h.scope) (members_of y) ≡ None → Evaluates task roots h y
  difference_evaluates y false d t heads u st = absurd (contrary (sym t))
  difference_evaluates (chain_expr (access_expr p no_step) (a_link (Compute Subtract) (access_expr q no_step) no_link)) true d t heads u st =
      let parts = option_or_parts (first_in_expression h.tree task h.scope (access_expr p no_step)) _ heads in
      let more = option_or_parts (first_in_expression h.tree task h.scope (access_expr q no_step)) _ parts.1 in
      let one = not-false (is_bound h.scope.names p) (rule_none _ rule.Name (option_or_parts (rule_if (not (is_bound h.scope.names p)) rule.Name) _ parts.0).0) in
      let two = not-false (is_bound h.scope.names q) (rule_none _ rule.Name (option_or_parts (rule_if (not (is_bound h.scope.names q)) rule.Name) _ more.0).0) in
      let both = and_parts (may_be is_partition (type_named h.scope.names p)) _ d in
      first_of_two (type_named h.scope.names p) (value_at p u) q u (surely is_partition (type_named h.scope.names p) (r.place.scope.types p one).known both.0) (name_fits p one u st)
      (surely is_partition (type_named h.scope.names q) (r.place.scope.types q two).known both.1) two st
  difference_evaluates y true d t heads u st = absurd (contrary (sym d))

  -- ---- the variables

  partition_settles : (known : _) (t wanted : StaticType) (v : Value) → is_partition t ≡ true → fits_known known t wanted ≡ true → Fits roots h.scope.names t v → Fits roots h.scope.names wanted v
  partition_settles known (partition_type d q o) (partition_type asked parent own) v p e (fits_partition {p = old} is) =
      let parts = and_parts (d || not asked) _ e in
      fits_partition (subst (λ n. IsPartitionOf roots (space_bound h.scope.names n) asked old) (eqb-true q parent parts.1) (asked_partition roots (space_bound h.scope.names q) d asked old parts.0 is))
  partition_settles known (partition_type d q o) (integer_type w) v p e is = absurd cc
  partition_settles known (partition_type d q o) truth_type v p e is = absurd cc
  partition_settles known (partition_type d q o) (index_type j) v p e is = absurd cc
  partition_settles known (partition_type d q o) (pointer_type j other others terms) v p e is = absurd cc
  partition_settles known (partition_type d q o) (ispace_type k) v p e is = absurd cc
  partition_settles known (partition_type d q o) (region_type j other others s) v p e is = absurd cc
  partition_settles known (partition_type d q o) no_type v p e is = absurd cc
  partition_settles known (partition_type d q o) unknown_type v p e is = absurd cc
  partition_settles known (integer_type w) wanted v p e is = absurd cc
  partition_settles known truth_type wanted v p e is = absurd cc
  partition_settles known (index_type j) wanted v p e is = absurd cc
  partition_settles known (pointer_type j other others terms) wanted v p e is = absurd cc
  partition_settles known (ispace_type k) wanted v p e is = absurd cc
  partition_settles known (region_type j other others s) wanted v p e is = absurd cc
  partition_settles known no_type wanted v p e is = absurd cc
  partition_settles known unknown_type wanted v p e is = absurd cc

  declared : (n : Name) (t : Option TypeTerm) (i : Initializer) → is_partition (initializer_type h.tree h.scope h.scope.next i) ≡ true → first_of_form h.tree task h.scope (var_form n t (Some i)) ≡ None → (v : Value) →
      Fits roots h.scope.names (initializer_type h.tree h.scope h.scope.next i) v → Fits roots h.scope.names (var_type h.tree h.scope t (Some i)) v
  declared n None i p e v is = is
  declared n (Some t) i p e v is = partition_settles h.scope.known (initializer_type h.tree h.scope h.scope.next i) (var_type h.tree h.scope (Some t) (Some i)) v p (start_told task roots h r n t i e).fit is

  declared_root : (n : Name) (t : Option TypeTerm) (i : Initializer) → is_partition (initializer_type h.tree h.scope h.scope.next i) ≡ true → first_of_form h.tree task h.scope (var_form n t (Some i)) ≡ None → (q : Result Value) →
      EndsOfParent h.scope.names (initializer_type h.tree h.scope h.scope.next i) q → EndsOfParent h.scope.names (var_type h.tree h.scope t (Some i)) q
  declared_root n None i p e q is = is
  declared_root n (Some t) i p e q is =
      let start = start_told task roots h r n t i e in
      wanted_ends h.scope.names h.scope.known (initializer_type h.tree h.scope h.scope.next i) (var_type h.tree h.scope (Some t) (Some i)) q start.known start.fit is

  pub operation_fits : (n : Name) (t : Option TypeTerm) (i : Initializer) → IsOperation i → is_partition (initializer_type h.tree h.scope h.scope.next i) ≡ true →
      first_of_form h.tree task h.scope (var_form n t (Some i)) ≡ None → All KeepsLimit (parts_of_form (var_form n t (Some i))) → (u : State) → State_fits u →
      GoesOnFit h.tree roots (scope_after h.tree h.scope (var_form n t (Some i))).names h.result
      (and_then (initialized h t (var_type h.tree h.scope t (Some i)) i u) (λ v. bind v))
  operation_fits n t i wr partition e limits u st =
      let wanted = var_type h.tree h.scope t (Some i) in
      let parts = parts_told h.tree task h.scope r.place.sound r.place.scope (var_form n t (Some i)) e in
      let told = (option_or_parts (first_of_initializer h.tree task h.scope i) _ parts.3).0 in
      let unbound = rule_none (unbound_name_in_initializer h.tree h.scope.names i) rule.Name (option_or_parts (rule_if (unbound_name_in_initializer h.tree h.scope.names i) rule.Name) _
      (option_or_parts (first_in (first_in_type h.tree h.scope.names) (written_in_initializer i)) _ told).1).0 in
      let parted = rule_none (mispartitions_initializer h.tree h.scope i) rule.Partition (option_or_parts (rule_if (mispartitions_initializer h.tree h.scope i) rule.Partition) _
      (option_or_parts (rule_if (unbound_name_in_initializer h.tree h.scope.names i) rule.Name) _ (option_or_parts (first_in (first_in_type h.tree h.scope.names) (written_in_initializer i)) _ told).1).1).0 in
      started task roots h r n wanted (variable_begins task roots h r n t (Some i) e limits) (initialized h t wanted i u)
      (weaker h.tree roots h.scope.names (initialized h t wanted i u) (operated_fits i t wanted wr parts.2 unbound parted u st) (λ v is. declared n t i partition e v is))
      (declared_root n t i partition e (initialized h t wanted i u) (operated_root i t wanted wr unbound u st))
