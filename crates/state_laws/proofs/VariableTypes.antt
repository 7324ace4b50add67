-- The types of new variables: their field space arguments are as declared, and a partition's parent is a region.
use Rattle.std.proofs.Common.{List, [], ◌∷◌, Bool, None, Option, Some, false, true, refl, ap, sym, subst, ◌≡◌, ◌≤◌, ◌&&◌, not, get_or, map, cond, arith}
use Rattle.std.proofs.lemmas.Bool.{and_parts, eq-eqb, not-false, or_parts}
use Rattle.std.proofs.lemmas.List.Elements.{All-nil}
use Rattle.std.specs.List.{All}
use Rattle.std.specs.Prelude.{length}
use Rattle.plain_values.proofs.Plain.{option_or_parts}
use Rattle.regent_tree.specs.Accesses.{args_in, space_in}
use Rattle.regent_tree.specs.Laws.{Shape}
use Rattle.regent_tree.specs.Limits.{KeepsLimit, most, parts_of_expression, parts_of_form, parts_of_init, parts_of_initializer, parts_of_term}
use Rattle.regent_tree.specs.Lookup.{is_bound, type_named}
use Rattle.regent_tree.specs.Running.{Here}
use Rattle.regent_tree.specs.Scopes.{Scope, bound_as, bound_to, in_scope}
use Rattle.regent_tree.specs.StaticTypes.{looked_up, place_of_space, type_said}
use Rattle.regent_tree.specs.Syntax.{Expression, Initializer, Name, TaskTree, Tree, both_initializer, by_field_initializer, a_link, access_expr, chain_expr, either_initializer, equal_initializer, image_initializer, no_link, no_step, plain_initializer, preimage_initializer, region_initializer, var_form}
use Rattle.regent_tree.specs.Typing.{arithmetic_type, counting_as, initializer_type, is_disjoint, owned, parent_of, reaches_of, scope_after, type_of, var_type}
use Rattle.regent_tree.specs.Partitions.{both_flag, by_field_flag, either_flag, equal_flag, image_flag, preimage_flag}
use Rattle.regent_tree.specs.declared.expression.Arithmetic.TheVariants.{Subtract}
use Rattle.regent_tree.specs.declared.expression.Operator.TheVariants.{Compute}
use Rattle.regent_tree.specs.declared.types.Kind.TheVariants.{Int1d}
use Rattle.regent_tree.specs.declared.facts.Term.TheVariants as term
use Rattle.regent_tree.specs.declared.limits.Counted.TheVariants.{Regions}
use Rattle.regent_tree.specs.declared.types.NumberTerm.TheVariants as number
use Rattle.regent_tree.specs.declared.types.SpaceUse.{SpaceUse}
use Rattle.regent_tree.specs.declared.types.TypeTerm.{TypeTerm}
use Rattle.regent_tree.specs.declared.types.TypeTerm.TheVariants as typed_as
use Rattle.regent_tree.specs.declared.typing.Bound.{Bound}
use Rattle.regent_tree.specs.declared.typing.StaticType.{StaticType}
use Rattle.regent_tree.specs.declared.typing.StaticType.TheVariants.{Index as index_type, Integer as integer_type, Ispace as ispace_type, Nothing as no_type, Partition as partition_type, Pointer as pointer_type, Region as region_type, Truth as truth_type, Unknown as unknown_type}
use Rattle.check_rules.proofs.Untold.{rule_none}
use Rattle.check_rules.specs.first.FirstInExpressions.{first_in_expression, first_in_type}
use Rattle.check_rules.specs.first.FirstInStatements.{first_of_form, first_of_initializer}
use Rattle.check_rules.specs.first.Rules.{first_in, rule_if}
use Rattle.check_rules.specs.rules.Counts.{miscounts_in_type}
use Rattle.check_rules.specs.rules.Names.{unbound_name_in_initializer, unbound_name_in_type, unbound_name_in_use}
use Rattle.check_rules.specs.rules.Pointers.{wrong_region_in_type}
use Rattle.check_rules.specs.rules.Spaces.{misfits_in_type, misfits_use}
use Rattle.check_rules.specs.scopes.Variables.{expressions_in_initializer, members_of, written_in_initializer}
use Rattle.check_rules.specs.rules.Partitions.{is_difference}
use Rattle.check_rules.specs.types.Lookup.{names_a}
use Rattle.check_rules.specs.types.Sorts.{is_partition, is_region, is_unknown_type, may_be}
use Rattle.check_rules.specs.declared.rule.Rule.TheVariants as rule
use Rattle.check_laws.proofs.Parts.{contrary}
use Rattle.check_laws.proofs.Variables.{named, parts_of_form as parts_told}
use Rattle.check_laws.specs.SoundScopes.{IsSoundScope}
use Rattle.expression_laws.specs.Kinds.{IsNamedByOwnNumber}
use Rattle.state_laws.specs.Going.{IsPlaceOfRun}
use Rattle.state_laws.proofs.Growing.{named_stays, parent_stays, spaced_new, stays_bound}
use Rattle.value_laws.specs.Spaces.{AreArgumentsOf, AreSpaced, HasParent, HasSpaceOfName, IsRegionTypeOf, IsSpaced}
use Rattle.value_laws.proofs.Limits.{all_left}
use Rattle.value_laws.proofs.Spaced.{by_number, no_arguments, use_arguments, written_spaced}
use Rattle.value_laws.proofs.Types.{name_spaced, type_spaced}

-- a type that a new variable may have in a scope
pub record BeginsSpaced (tree : Tree) (s : Scope) (t : StaticType) : Type 0 where
  pub args : AreArgumentsOf tree s.names (space_in t) (args_in t)
  pub parent : HasParent s.names t
  pub few : length (reaches_of t) ≤ most Regions
  pub own : IsNamedByOwnNumber s.next t

-- the type of the new binding is spaced behind it
module _ (tree : Tree) (s : Scope) (n : Name) (ty : StaticType) (by_loop : Bool) (scope : IsSoundScope s) where
  abbrev bound : Bound
  bound = record { name = n; number = s.next; place = length s.names; static_type = ty; by_loop = by_loop }

  found : bound_as (bound ∷ s.names) s.next ≡ bound
  found = ap (λ c. cond c bound (bound_as s.names s.next)) (eq-eqb s.next s.next refl)

  own_space : (t : StaticType) → t ≡ ty → IsNamedByOwnNumber s.next t → HasSpaceOfName (bound ∷ s.names) t
  own_space (region_type k space args q) same own = subst (λ q. HasSpaceOfName (bound ∷ s.names) (region_type k space args q)) (sym own)
      (subst (λ (b : Bound). IsRegionTypeOf space b.static_type) (sym found) (subst (IsRegionTypeOf space) same (record { region = refl; of_space = refl })))
  own_space (integer_type w) same own = tt
  own_space truth_type same own = tt
  own_space (index_type k) same own = tt
  own_space (pointer_type k space args terms) same own = tt
  own_space (ispace_type k) same own = tt
  own_space (partition_type d r p) same own = tt
  own_space no_type same own = tt
  own_space unknown_type same own = tt

  pub spaced_begun : BeginsSpaced tree s ty → IsSpaced tree (bound ∷ s.names) ty
  spaced_begun is =
      let stays = stays_bound s.next s.names bound scope.numbers refl in record {
        args = λ i k e. named_stays s.names (bound ∷ s.names) stays k (get_or (args_in ty) i None) (is.args i k e);
        named = own_space ty refl is.own;
        parent = parent_stays s.names (bound ∷ s.names) stays ty is.parent;
        few = is.few;
      }

plain_begins : (tree : Tree) (s : Scope) (t : StaticType) → IsSpaced tree s.names t → IsNamedByOwnNumber s.next t → BeginsSpaced tree s t
plain_begins tree s t is own = record { args = is.args; parent = is.parent; few = is.few; own = own }

-- what an expression begins is named by its own number
owned_begins : (tree : Tree) (s : Scope) (t : StaticType) → IsSpaced tree s.names t → BeginsSpaced tree s (owned s.next t)
owned_begins tree s (region_type k space args q) is = record { args = is.args; parent = tt; few = is.few; own = refl }
owned_begins tree s (partition_type d r p) is = record { args = is.args; parent = is.parent; few = is.few; own = refl }
owned_begins tree s (integer_type w) is = plain_begins tree s (integer_type w) is tt
owned_begins tree s truth_type is = plain_begins tree s truth_type is tt
owned_begins tree s (index_type k) is = plain_begins tree s (index_type k) is tt
owned_begins tree s (pointer_type k space args terms) is = plain_begins tree s (pointer_type k space args terms) is tt
owned_begins tree s (ispace_type k) is = plain_begins tree s (ispace_type k) is tt
owned_begins tree s no_type is = plain_begins tree s no_type is tt
owned_begins tree s unknown_type is = plain_begins tree s unknown_type is tt

module _ (task : TaskTree) (roots : List Shape) (h : Here) (r : IsPlaceOfRun task roots h) where
  abbrev Begins : StaticType → Type 0
  Begins t = BeginsSpaced h.tree h.scope t

  region_begins : (k : _) (u : SpaceUse) → unbound_name_in_use h.tree h.scope.names u ≡ false → misfits_use h.tree h.scope.names u ≡ false →
      Begins (region_type k (place_of_space h.tree u.name) (map (looked_up (in_scope h.scope)) u.args) (term.Name h.scope.next))
  region_begins k u unbound misfit = record {
    args = use_arguments h.tree h.scope r.place.scope u r.place.declared.params unbound misfit;
    parent = tt;
    few = omega (arith);
    own = refl;
  }

  partition_begins : (d : Bool) (n : Name) → not (names_a is_region h.scope.names n) ≡ false → Begins (partition_type d (bound_to h.scope.names n).number h.scope.next)
  partition_begins d n e =
      let is = named h.tree task h.scope r.place.sound r.place.scope is_region n e in record {
        args = λ i k e. tt;
        parent = by_number h.tree h.scope r.place.scope (λ t. is_region t ≡ true) n is.0 is.1;
        few = omega (arith);
        own = refl;
      }

  -- a type that is written
  pub written_begins : (t : TypeTerm) → first_in_type h.tree h.scope.names t ≡ None → All KeepsLimit (parts_of_term t) → Begins (type_said h.tree (in_scope h.scope) h.scope.next t)
  written_begins (typed_as.Number number.Int32) told l = plain_begins h.tree h.scope _ (no_arguments h.tree h.scope.names _ tt) tt
  written_begins (typed_as.Number number.Int64) told l = plain_begins h.tree h.scope _ (no_arguments h.tree h.scope.names _ tt) tt
  written_begins (typed_as.Number (number.Index k)) told l = plain_begins h.tree h.scope _ (no_arguments h.tree h.scope.names _ tt) tt
  written_begins typed_as.Truth told l = plain_begins h.tree h.scope _ (no_arguments h.tree h.scope.names _ tt) tt
  written_begins (typed_as.Pointer p) told l = plain_begins h.tree h.scope _ (written_spaced h.tree h.scope r.place.scope p r.place.declared l told).spaced tt
  written_begins (typed_as.Ispace k) told l = plain_begins h.tree h.scope _ (no_arguments h.tree h.scope.names _ tt) tt
  written_begins (typed_as.Region k u) told l =
      let a = option_or_parts _ _ told in
      let b = option_or_parts (rule_if (miscounts_in_type h.tree (typed_as.Region k u)) rule.Count) _ a.1 in
      let c = option_or_parts (rule_if (wrong_region_in_type h.tree h.scope.names (typed_as.Region k u)) rule.Pointer) _ b.1 in
      let d = option_or_parts (rule_if (misfits_in_type h.tree h.scope.names (typed_as.Region k u)) rule.Spaces) _ c.1 in
      let unbound = rule_none (unbound_name_in_type h.tree h.scope.names (typed_as.Region k u)) rule.Name a.0 in
      let misfit = rule_none (misfits_in_type h.tree h.scope.names (typed_as.Region k u)) rule.Spaces d.0 in
      region_begins k u unbound (or_parts _ _ misfit).0
  written_begins (typed_as.Partition d n c) told l =
      let a = option_or_parts _ _ told in
      let unbound = rule_none (unbound_name_in_type h.tree h.scope.names (typed_as.Partition d n c)) rule.Name a.0 in
      partition_begins d n (or_parts (not (names_a is_region h.scope.names n)) _ unbound).0

  -- a partition of the parent of another
  same_parent_begins : (d : Bool) (t : StaticType) → is_partition t ≡ true → IsSpaced h.tree h.scope.names t → Begins (partition_type d (parent_of t) h.scope.next)
  same_parent_begins d (partition_type f q p) e is = record { args = λ i k e. tt; parent = is.parent; few = omega (arith); own = refl }
  same_parent_begins d (integer_type w) e is = absurd cc
  same_parent_begins d truth_type e is = absurd cc
  same_parent_begins d (index_type k) e is = absurd cc
  same_parent_begins d (pointer_type k space args terms) e is = absurd cc
  same_parent_begins d (ispace_type k) e is = absurd cc
  same_parent_begins d (region_type k space args t) e is = absurd cc
  same_parent_begins d no_type e is = absurd cc
  same_parent_begins d unknown_type e is = absurd cc

  same_parent : (d : Bool) (p : Name) → not (names_a is_partition h.scope.names p) ≡ false → Begins (partition_type d (parent_of (type_named h.scope.names p)) h.scope.next)
  same_parent d p e =
      let is = named h.tree task h.scope r.place.sound r.place.scope is_partition p e in
      same_parent_begins d (type_named h.scope.names p) is.1 (name_spaced task roots h r.place p is.0)

  both_named : (a b : Bool) → not (a && b) ≡ false → not a ≡ false
  both_named true b e = refl
  both_named false b e = absurd cc

  difference_begins : (t u : StaticType) → may_be is_partition t ≡ true → is_unknown_type t ≡ false → IsSpaced h.tree h.scope.names t →
      Begins (owned h.scope.next (arithmetic_type (counting_as t) (counting_as u)))
  difference_begins (partition_type d q p) u e k is = owned_begins h.tree h.scope (partition_type d q p) is
  difference_begins (integer_type w) u e k is = absurd cc
  difference_begins truth_type u e k is = absurd cc
  difference_begins (index_type j) u e k is = absurd cc
  difference_begins (pointer_type j space args terms) u e k is = absurd cc
  difference_begins (ispace_type j) u e k is = absurd cc
  difference_begins (region_type j space args t) u e k is = absurd cc
  difference_begins no_type u e k is = absurd cc
  difference_begins unknown_type u e k is = absurd cc

  plain_begun : (e : Expression) (is : Bool) → is_difference h.scope.names e ≡ is →
      first_in (first_in_expression h.tree task h.scope) (cond is (members_of e) (e ∷ [])) ≡ None → All KeepsLimit (parts_of_expression e) → Begins (owned h.scope.next (type_of h.tree h.scope e))
  plain_begun e false d heads l =
      owned_begins h.tree h.scope (type_of h.tree h.scope e) (type_spaced task roots h r.place e l (option_or_parts (first_in_expression h.tree task h.scope e) _ heads).0)
  plain_begun (chain_expr (access_expr p no_step) (a_link (Compute Subtract) (access_expr q no_step) no_link)) true d heads l =
      let parts = option_or_parts (first_in_expression h.tree task h.scope (access_expr p no_step)) _ heads in
      let bound = not-false (is_bound h.scope.names p) (rule_none _ rule.Name (option_or_parts (rule_if (not (is_bound h.scope.names p)) rule.Name) _ parts.0).0) in
      difference_begins (type_named h.scope.names p) (type_named h.scope.names q) (and_parts (may_be is_partition (type_named h.scope.names p)) _ d).0
      (r.place.scope.types p bound).known (name_spaced task roots h r.place p bound)
  plain_begun e true d heads l = absurd (contrary (sym d))

  -- the type that an initializer gives
  pub initializer_begins : (i : Initializer) → first_in (first_in_expression h.tree task h.scope) (expressions_in_initializer h.scope.names i) ≡ None →
      first_of_initializer h.tree task h.scope i ≡ None → All KeepsLimit (parts_of_initializer i) → Begins (initializer_type h.tree h.scope h.scope.next i)
  initializer_begins i heads told l = by i heads (option_or_parts (first_in (first_in_type h.tree h.scope.names) (written_in_initializer i)) _ told).0
      (rule_none (unbound_name_in_initializer h.tree h.scope.names i) rule.Name (option_or_parts (rule_if (unbound_name_in_initializer h.tree h.scope.names i) rule.Name) _
      (option_or_parts (first_in (first_in_type h.tree h.scope.names) (written_in_initializer i)) _ told).1).0) l
    where
      by : (i : Initializer) → first_in (first_in_expression h.tree task h.scope) (expressions_in_initializer h.scope.names i) ≡ None →
          first_in (first_in_type h.tree h.scope.names) (written_in_initializer i) ≡ None → unbound_name_in_initializer h.tree h.scope.names i ≡ false →
          All KeepsLimit (parts_of_initializer i) → Begins (initializer_type h.tree h.scope h.scope.next i)
      by (region_initializer e u) heads written unbound l =
          let begun = written_begins (typed_as.Region Int1d u) (option_or_parts (first_in_type h.tree h.scope.names (typed_as.Region Int1d u)) _ written).0 (All-nil KeepsLimit) in
          record { args = begun.args; parent = tt; few = begun.few; own = refl }
      by (equal_initializer q e) heads written unbound l = partition_begins equal_flag q unbound
      by (by_field_initializer q f e) heads written unbound l = partition_begins by_field_flag q (or_parts (not (names_a is_region h.scope.names q)) _ unbound).0
      by (image_initializer parent p q f) heads written unbound l = partition_begins image_flag parent (or_parts (not (names_a is_region h.scope.names parent)) _ (or_parts _ _ unbound).0).0
      by (preimage_initializer parent p q f) heads written unbound l =
          partition_begins (preimage_flag (is_disjoint (type_named h.scope.names p))) parent (or_parts (not (names_a is_region h.scope.names parent)) _ (or_parts _ _ unbound).0).0
      by (both_initializer p q) heads written unbound l =
          same_parent (both_flag (is_disjoint (type_named h.scope.names p)) (is_disjoint (type_named h.scope.names q))) p (both_named (names_a is_partition h.scope.names p) _ unbound)
      by (either_initializer p q) heads written unbound l = same_parent either_flag p (both_named (names_a is_partition h.scope.names p) _ unbound)
      by (plain_initializer e) heads written unbound l = plain_begun e (is_difference h.scope.names e) refl heads l

  -- the type of a new variable
  pub variable_begins : (n : Name) (t : Option TypeTerm) (start : Option Initializer) → first_of_form h.tree task h.scope (var_form n t start) ≡ None →
      All KeepsLimit (parts_of_form (var_form n t start)) → Begins (var_type h.tree h.scope t start)
  variable_begins n (Some t) start e l =
      written_begins t (option_or_parts (first_in_type h.tree h.scope.names t) _ (parts_told h.tree task h.scope r.place.sound r.place.scope (var_form n (Some t) start) e).0).0
      (all_left KeepsLimit (parts_of_term t) (parts_of_init start) l)
  variable_begins n None (Some i) e l =
      let parts = parts_told h.tree task h.scope r.place.sound r.place.scope (var_form n None (Some i)) e in
      initializer_begins i parts.2 (option_or_parts (first_of_initializer h.tree task h.scope i) _ parts.3).0 l
  variable_begins n None None e l = absurd (contrary (parts_told h.tree task h.scope r.place.sound r.place.scope (var_form n None None) e).1)

  pub variable_spaced : (n : Name) (t : Option TypeTerm) (start : Option Initializer) → first_of_form h.tree task h.scope (var_form n t start) ≡ None →
      All KeepsLimit (parts_of_form (var_form n t start)) → AreSpaced h.tree (scope_after h.tree h.scope (var_form n t start)).names
  variable_spaced n t start e l =
      let ty = var_type h.tree h.scope t start in
      spaced_new h.tree h.scope.next h.scope.names (record { name = n; number = h.scope.next; place = length h.scope.names; static_type = ty; by_loop = false }) r.place.scope.numbers refl r.place.spaced
      (spaced_begun h.tree h.scope n ty false r.place.scope (variable_begins n t start e l))
