-- Variables of which nothing is told.
use Rattle.std.proofs.Common.{Bool, List, None, Option, Some, [], ◌∷◌, ◌&&◌, ◌||◌, ◌≡◌, ◌<◌, ap, cond, false, inl, inr, map, not, refl, subst, sym, true, ◌∙◌, ◌⊎◌}
use Rattle.std.proofs.lemmas.Bool.{and_parts, or_parts}
use Rattle.std.specs.List.{list_any}
use Rattle.std.proofs.lemmas.List.Folds.{list_any-append}
use Rattle.regent_tree.specs.Lookup.{is_bound, type_named}
use Rattle.regent_tree.specs.Scopes.{Scope, bound_as, bound_to, in_scope}
use Rattle.regent_tree.specs.StaticTypes.{type_said}
use Rattle.regent_tree.specs.Syntax.{Expression, Form, Name, Initializer, TaskTree, Tree, a_link, access_expr, both_initializer, by_field_initializer, chain_expr, either_initializer, equal_initializer, image_initializer, no_link, no_step, plain_initializer, preimage_initializer, region_initializer, var_form}
use Rattle.regent_tree.specs.Typing.{arithmetic_type, counting_as, known_of_initializer, owned, parent_of, initializer_type, type_of, var_type}
use Rattle.regent_tree.specs.declared.expression.Arithmetic.TheVariants.{Subtract}
use Rattle.regent_tree.specs.declared.expression.Operator.TheVariants.{Compute}
use Rattle.regent_tree.specs.declared.types.TypeTerm.{TypeTerm}
use Rattle.regent_tree.specs.declared.types.TypeTerm.TheVariants as typed
use Rattle.regent_tree.specs.declared.typing.Bound.{Bound}
use Rattle.regent_tree.specs.declared.typing.StaticType.{StaticType}
use Rattle.regent_tree.specs.declared.typing.StaticType.TheVariants.{Integer as integer_type, Truth as truth_type, Index as index_type, Pointer as pointer_type, Ispace as ispace_type, Region as region_type, Partition as partition_type, Nothing as no_type, Unknown as unknown_type}
use Rattle.check_rules.specs.Breaches.{has_no_type, wrong_initializer_at}
use Rattle.check_rules.specs.rules.Counts.{miscounts_in_type}
use Rattle.check_rules.specs.types.Declarations.{is_flawed_type}
use Rattle.check_rules.specs.first.FirstInExpressions.{first_in_expression, first_in_type, first_of_call, first_of_standing}
use Rattle.check_rules.specs.first.FirstInStatements.{first_in_targets, first_of_form, first_of_initializer}
use Rattle.check_rules.specs.types.KnownTypes.{known_type}
use Rattle.check_rules.specs.types.Lookup.{names_a}
use Rattle.check_rules.specs.rules.Names.{are_partitions, unbound_name_in_form, unbound_name_in_type, is_unknown_region_field, unbound_name_in_initializer, misses_space}
use Rattle.check_rules.specs.rules.Partitions.{is_difference, miscolours_initializer, mispartitions_initializer}
use Rattle.check_rules.specs.rules.Places.{has_wrong_initializer}
use Rattle.check_rules.specs.rules.Pointers.{wrong_region_in_type}
use Rattle.check_rules.specs.first.Rules.{first_in, rule_if}
use Rattle.check_rules.specs.types.Sorts.{is_collection, is_partition, is_region, is_unknown_type, may_be}
use Rattle.check_rules.specs.scopes.Sound.{IsSound}
use Rattle.check_rules.specs.rules.Spaces.{misfits_in_type}
use Rattle.check_rules.specs.rules.Statements.{standing_in_form}
use Rattle.check_rules.specs.rules.Types.{is_ill_typed_at_place}
use Rattle.check_rules.specs.scopes.Variables.{begins_unsoundly, bound_type, declared_type, expressions_in_initializer, is_flawed_initializer, known_of_known_initializer, known_initializer, members_of, origins_of, standing_in_initializer, stands_declared, types_in_initializer, variable_type, written_in_initializer}
use Rattle.check_rules.specs.scopes.Visits.{call_of_form, declared_at, heads_of, initializer_at}
use Rattle.check_rules.specs.declared.rule.Rule.TheVariants as rule
use Rattle.check_rules.proofs.Laws.{types_as_meant}
use Rattle.check_rules.proofs.Written.{names_known}
use Rattle.check_laws.specs.SoundScopes.{IsKnown, IsSoundScope}
use Rattle.check_laws.proofs.Expressions.{known_expression, meant}
use Rattle.check_laws.proofs.Parts.{contrary, number_known, surely, unless_false, value_known}
use Rattle.check_laws.proofs.Scopes.{found_by_number}
use Rattle.plain_values.proofs.Plain.{option_or_parts}
use Rattle.check_rules.proofs.Untold.{rule_none, stand_none}
use Rattle.std.proofs.lemmas.Bool.{not-false}

and_false : (b : Bool) → (b && false) ≡ false
and_false true = refl
and_false false = refl

module _ (tree : Tree) (task : TaskTree) (s : Scope) (sound : IsSound tree) (scope : IsSoundScope s) where
  -- ---- names

  -- a name that is bound to a thing of a sort, as far as is known, is bound to one
  pub named : (sort : StaticType → Bool) (n : Name) → not (names_a sort s.names n) ≡ false →
      (is_bound s.names n ≡ true) × (sort (type_named s.names n) ≡ true)
  named sort n e =
      let both = and_parts (is_bound s.names n) (may_be sort (type_named s.names n)) (not-false _ e) in
      (both.0, surely sort (type_named s.names n) (scope.types n both.0).known both.1)

  -- a region's name, by the number of its binding
  region_placed : (n : Name) → not (names_a is_region s.names n) ≡ false →
      (is_region (bound_as s.names (bound_to s.names n).number).static_type ≡ true) × ((bound_to s.names n).number < s.next)
  region_placed n e =
      let is = named is_region n e in
      let found = found_by_number s.next s.names n scope.numbers is.0 in
      (ap (λ (b : Bound). is_region b.static_type) found.0 ∙ is.1, found.1)

  -- ---- written types

  type_sound : (t : TypeTerm) → first_in_type tree s.names t ≡ None → is_flawed_type tree s.names t ≡ false
  type_sound t e =
      let a = option_or_parts _ _ e in
      let b = option_or_parts _ _ a.1 in
      let c = option_or_parts _ _ b.1 in
      let d = option_or_parts _ _ c.1 in
      let named = rule_none (unbound_name_in_type tree s.names t) rule.Name a.0 in
      let counted = rule_none (miscounts_in_type tree t) rule.Count b.0 in
      let points = rule_none (wrong_region_in_type tree s.names t) rule.Pointer c.0 in
      let fits = rule_none (misfits_in_type tree s.names t) rule.Spaces d.0 in
      let known = names_known tree s.names (λ n b. (scope.types n b).known) t named in
      λ j. named j || counted j || points j || fits j || known j

  types_sound : (ts : List TypeTerm) → first_in (first_in_type tree s.names) ts ≡ None → list_any (is_flawed_type tree s.names) ts ≡ false
  types_sound [] e = refl
  types_sound (t ∷ ts) e =
      let parts = option_or_parts (first_in_type tree s.names t) _ e in
      λ j. type_sound t parts.0 j || types_sound ts parts.1 j

  said_known : (t : TypeTerm) → unbound_name_in_type tree s.names t ≡ false → IsKnown s (type_said tree (in_scope s) s.next t)
  said_known (typed.Number t) e = number_known s t
  said_known typed.Truth e = value_known s _ refl tt
  said_known (typed.Pointer p) e = value_known s _ refl tt
  said_known (typed.Ispace k) e = value_known s _ refl tt
  said_known (typed.Region k u) e = value_known s _ refl tt
  said_known (typed.Partition d r c) e = record {
    known = refl;
    placed = region_placed r (or_parts (not (names_a is_region s.names r)) (misses_space s.names c) e).0;
  }

  -- ---- initializers

  heads_known : (es : List Expression) → first_in (first_in_expression tree task s) es ≡ None →
      list_any is_unknown_type (map (known_type tree s) es) ≡ false
  heads_known [] e = refl
  heads_known (x ∷ xs) e =
      let parts = option_or_parts (first_in_expression tree task s x) _ e in
      λ j. (known_expression tree task s sound scope x parts.0).known j || heads_known xs parts.1 j

  origin : (sort : StaticType → Bool) (n : Name) → not (names_a sort s.names n) ≡ false → is_unknown_type (type_named s.names n) ≡ false
  origin sort n e = (scope.types n (named sort n e).0).known

  pub both_named : (p q : Name) → not (are_partitions s.names p q) ≡ false →
      (not (names_a is_partition s.names p) ≡ false) × (not (names_a is_partition s.names q) ≡ false)
  both_named p q e =
      let both = and_parts (names_a is_partition s.names p) (names_a is_partition s.names q) (not-false _ e) in
      (ap not both.0, ap not both.1)

  origins_known : (i : Initializer) → unbound_name_in_initializer tree s.names i ≡ false →
      list_any (λ n. is_unknown_type (type_named s.names n)) (origins_of i) ≡ false
  origins_known (region_initializer e u) m = refl
  origins_known (equal_initializer r e) m = λ j. origin is_region r m j || false
  origins_known (by_field_initializer r f e) m =
      λ j. origin is_region r (or_parts (not (names_a is_region s.names r)) _ m).0 j || false
  origins_known (image_initializer parent p r f) m =
      let a = or_parts (not (names_a is_region s.names parent) || not (names_a is_partition s.names p)) (is_unknown_region_field tree s.names r f) m in
      let b = or_parts (not (names_a is_region s.names parent)) (not (names_a is_partition s.names p)) a.0 in
      λ j. origin is_region parent b.0 j || false
  origins_known (preimage_initializer parent p r f) m =
      let a = or_parts (not (names_a is_region s.names parent) || not (names_a is_partition s.names p)) (is_unknown_region_field tree s.names r f) m in
      let b = or_parts (not (names_a is_region s.names parent)) (not (names_a is_partition s.names p)) a.0 in
      λ j. origin is_region parent b.0 j || (origin is_partition p b.1 j || false)
  origins_known (both_initializer p q) m =
      let b = both_named p q m in λ j. origin is_partition p b.0 j || (origin is_partition q b.1 j || false)
  origins_known (either_initializer p q) m =
      let b = both_named p q m in λ j. origin is_partition p b.0 j || (origin is_partition q b.1 j || false)
  origins_known (plain_initializer e) m = refl

  -- an initializer of which nothing is told
  pub initializer_sound : (i : Initializer) → first_in (first_in_expression tree task s) (expressions_in_initializer s.names i) ≡ None →
      first_of_initializer tree task s i ≡ None → list_any (is_ill_typed_at_place s.known) (standing_in_initializer tree s i) ≡ false →
      is_flawed_initializer tree s i ≡ false
  initializer_sound i heads initializer stand =
      let a = option_or_parts _ _ initializer in
      let b = option_or_parts _ _ a.1 in
      let c = option_or_parts _ _ b.1 in
      let d = option_or_parts _ _ c.1 in
      let written = types_sound (written_in_initializer i) a.0 in
      let names = rule_none (unbound_name_in_initializer tree s.names i) rule.Name b.0 in
      let parts = rule_none (mispartitions_initializer tree s i) rule.Partition c.0 in
      let colours = rule_none (miscolours_initializer i (types_in_initializer tree s i)) rule.Partition d.0 in
      let types = heads_known (expressions_in_initializer s.names i) heads in
      let origins = origins_known i names in
      λ j. types j || colours j || stand j || written j || names j || parts j || origins j

  owned_known : (t : StaticType) → IsKnown s t → IsKnown s (owned s.next t)
  owned_known (region_type k sp args r) h = value_known s _ refl tt
  owned_known (partition_type d r p) h = record { known = refl; placed = h.placed }
  owned_known (integer_type w) h = h
  owned_known truth_type h = h
  owned_known (index_type k) h = h
  owned_known (pointer_type k sp args regions) h = h
  owned_known (ispace_type k) h = h
  owned_known no_type h = h
  owned_known unknown_type h = h

  parent_placed : (flag : Bool) (t : StaticType) → is_partition t ≡ true → IsKnown s t → IsKnown s (partition_type flag (parent_of t) s.next)
  parent_placed flag (partition_type d r p) is h = record { known = refl; placed = h.placed }
  parent_placed flag (region_type k sp args r) is h = absurd (contrary (sym is))
  parent_placed flag (integer_type w) is h = absurd (contrary (sym is))
  parent_placed flag truth_type is h = absurd (contrary (sym is))
  parent_placed flag (index_type k) is h = absurd (contrary (sym is))
  parent_placed flag (pointer_type k sp args regions) is h = absurd (contrary (sym is))
  parent_placed flag (ispace_type k) is h = absurd (contrary (sym is))
  parent_placed flag no_type is h = absurd (contrary (sym is))
  parent_placed flag unknown_type is h = absurd (contrary (sym is))

  difference_known : (t u : StaticType) → is_partition t ≡ true → IsKnown s t → IsKnown s (owned s.next (arithmetic_type (counting_as t) (counting_as u)))
  difference_known (partition_type d r p) u is h = record { known = refl; placed = h.placed }
  difference_known (region_type k sp args r) u is h = absurd (contrary (sym is))
  difference_known (integer_type w) u is h = absurd (contrary (sym is))
  difference_known truth_type u is h = absurd (contrary (sym is))
  difference_known (index_type k) u is h = absurd (contrary (sym is))
  difference_known (pointer_type k sp args regions) u is h = absurd (contrary (sym is))
  difference_known (ispace_type k) u is h = absurd (contrary (sym is))
  difference_known no_type u is h = absurd (contrary (sym is))
  difference_known unknown_type u is h = absurd (contrary (sym is))

  plain_type : (e : Expression) (is : Bool) → is_difference s.names e ≡ is →
      first_in (first_in_expression tree task s) (cond is (members_of e) (e ∷ [])) ≡ None → IsKnown s (owned s.next (type_of tree s e))
  plain_type e false d heads =
      let known = known_expression tree task s sound scope e (option_or_parts (first_in_expression tree task s e) _ heads).0 in
      owned_known (type_of tree s e)
      (subst (IsKnown s) (meant (known_type tree s e) (type_of tree s e) known.known (types_as_meant tree s e)) known)
  plain_type (chain_expr (access_expr p no_step) (a_link (Compute Subtract) (access_expr q no_step) no_link)) true d heads =
      let first = option_or_parts (first_in_expression tree task s (access_expr p no_step)) _ heads in
      let known = known_expression tree task s sound scope (access_expr p no_step) first.0 in
      let is = and_parts (may_be is_partition (type_named s.names p)) (may_be is_partition (type_named s.names q)) d in
      difference_known (type_named s.names p) (type_named s.names q)
      (surely is_partition (type_named s.names p) known.known is.0) known
  plain_type e true d heads = absurd (contrary (sym d))

  initializer_known : (i : Initializer) → first_in (first_in_expression tree task s) (expressions_in_initializer s.names i) ≡ None →
      unbound_name_in_initializer tree s.names i ≡ false → IsKnown s (initializer_type tree s s.next i)
  initializer_known (region_initializer e u) heads m = value_known s _ refl tt
  initializer_known (equal_initializer r e) heads m = record { known = refl; placed = region_placed r m }
  initializer_known (by_field_initializer r f e) heads m = record {
    known = refl;
    placed = region_placed r (or_parts (not (names_a is_region s.names r)) _ m).0;
  }
  initializer_known (image_initializer parent p r f) heads m =
      let a = or_parts (not (names_a is_region s.names parent) || not (names_a is_partition s.names p)) (is_unknown_region_field tree s.names r f) m in
      let b = or_parts (not (names_a is_region s.names parent)) (not (names_a is_partition s.names p)) a.0 in
      record { known = refl; placed = region_placed parent b.0 }
  initializer_known (preimage_initializer parent p r f) heads m =
      let a = or_parts (not (names_a is_region s.names parent) || not (names_a is_partition s.names p)) (is_unknown_region_field tree s.names r f) m in
      let b = or_parts (not (names_a is_region s.names parent)) (not (names_a is_partition s.names p)) a.0 in
      record { known = refl; placed = region_placed parent b.0 }
  initializer_known (both_initializer p q) heads m =
      let is = named is_partition p (both_named p q m).0 in
      parent_placed _ (type_named s.names p) is.1 (scope.types p is.0)
  initializer_known (either_initializer p q) heads m =
      let is = named is_partition p (both_named p q m).0 in
      parent_placed _ (type_named s.names p) is.1 (scope.types p is.0)
  initializer_known (plain_initializer e) heads m = plain_type e (is_difference s.names e) refl heads

  -- ---- statements

  pub parts_of_form : (form : Form) → first_of_form tree task s form ≡ None →
      (first_in (first_in_type tree s.names) (declared_at form) ≡ None)
      × (has_no_type form ≡ false)
      × (first_in (first_in_expression tree task s) (heads_of s.names form) ≡ None)
      × (first_in (first_of_initializer tree task s) (initializer_at form) ≡ None)
      × (list_any (is_ill_typed_at_place s.known) (standing_in_form tree task s form) ≡ false)
      × (wrong_initializer_at tree s form ≡ false)
  parts_of_form form e =
      let a = option_or_parts (first_in (first_in_type tree s.names) (declared_at form)) _ e in
      let b = option_or_parts (rule_if (has_no_type form) rule.Type) _ a.1 in
      let c = option_or_parts (first_in (first_in_expression tree task s) (heads_of s.names form)) _ b.1 in
      let d = option_or_parts (first_in_targets tree task s form) _ c.1 in
      let f = option_or_parts (rule_if (unbound_name_in_form tree s.names form) rule.Name) _ d.1 in
      let g = option_or_parts (first_in (first_of_initializer tree task s) (initializer_at form)) _ f.1 in
      let h = option_or_parts (first_in (first_of_call tree task s) (call_of_form tree s form)) _ g.1 in
      let i = option_or_parts (first_in (first_of_standing s.known) (standing_in_form tree task s form)) _ h.1 in
      let k = option_or_parts (rule_if (wrong_initializer_at tree s form) rule.Place) _ i.1 in (
        a.0,
        rule_none (has_no_type form) rule.Type b.0,
        c.0,
        g.0,
        stand_none s.known (standing_in_form tree task s form) i.0,
        rule_none (wrong_initializer_at tree s form) rule.Place k.0,
      )

  pub target_of_form : (form : Form) → first_of_form tree task s form ≡ None → first_in_targets tree task s form ≡ None
  target_of_form form e =
      let a = option_or_parts (first_in (first_in_type tree s.names) (declared_at form)) _ e in
      let b = option_or_parts (rule_if (has_no_type form) rule.Type) _ a.1 in
      let c = option_or_parts (first_in (first_in_expression tree task s) (heads_of s.names form)) _ b.1 in
      (option_or_parts (first_in_targets tree task s form) _ c.1).0

  -- what begins soundly is bound with its type
  bound_soundly : (t : Option TypeTerm) (initializer : Option Initializer) →
      (is_collection (variable_type tree s t initializer) ≡ false) ⊎ (begins_unsoundly tree s t initializer ≡ false) →
      bound_type tree s t initializer ≡ variable_type tree s t initializer
  bound_soundly t initializer (inl e) = unless_false _ (variable_type tree s t initializer) (ap (λ b. b && begins_unsoundly tree s t initializer) e)
  bound_soundly t initializer (inr e) =
      unless_false _ (variable_type tree s t initializer)
      (ap (λ b. is_collection (variable_type tree s t initializer) && b) e ∙ and_false (is_collection (variable_type tree s t initializer)))

  -- a variable is what the meaning of programs says
  abbrev IsMeantVariable : Option TypeTerm → Option Initializer → Type 0
  IsMeantVariable t initializer = (bound_type tree s t initializer ≡ var_type tree s t initializer) × IsKnown s (var_type tree s t initializer)
      × (known_of_known_initializer tree s initializer ≡ known_of_initializer tree s s.next initializer)

  -- an initializer, in a variable
  pub begun_sound : (n : Name) (t : Option TypeTerm) (i : Initializer) → first_of_form tree task s (var_form n t (Some i)) ≡ None →
      (is_flawed_initializer tree s i ≡ false) × IsKnown s (initializer_type tree s s.next i) × (begins_unsoundly tree s t (Some i) ≡ false)
  begun_sound n t i e =
      let parts = parts_of_form (var_form n t (Some i)) e in
      let initializer = (option_or_parts (first_of_initializer tree task s i) _ parts.3).0 in
      let begun = known_initializer tree s i in
      let wanted = variable_type tree s t (Some i) in
      let stand = or_parts (list_any (is_ill_typed_at_place s.known) (standing_in_initializer tree s i)) (list_any (is_ill_typed_at_place s.known) (stands_declared begun t wanted))
      (sym (list_any-append (is_ill_typed_at_place s.known) (standing_in_initializer tree s i) (stands_declared begun t wanted)) ∙ parts.4) in
      let flawless = initializer_sound i parts.2 initializer stand.0 in
      let names = rule_none (unbound_name_in_initializer tree s.names i) rule.Name (option_or_parts _ _ (option_or_parts _ _ initializer).1).0 in
      let known = initializer_known i parts.2 names in
      let is = unless_false (is_flawed_initializer tree s i) (initializer_type tree s s.next i) flawless in
      let begins = or_parts (has_wrong_initializer s.names wanted begun i) false parts.5 in
      (flawless, known, λ j. (ap is_unknown_type is ∙ known.known) j || stand.1 j || begins.0 j)

  pub variable_known : (n : Name) (t : Option TypeTerm) (initializer : Option Initializer) → first_of_form tree task s (var_form n t initializer) ≡ None →
      IsMeantVariable t initializer
  variable_known n None None e = absurd (contrary (parts_of_form (var_form n None None) e).1)
  variable_known n None (Some i) e =
      let b = begun_sound n None i e in
      let is = unless_false (is_flawed_initializer tree s i) (initializer_type tree s s.next i) b.0 in
      (bound_soundly None (Some i) (inr b.2) ∙ is, b.1, ap (λ x. cond x [] (known_of_initializer tree s s.next (Some i))) b.0)
  variable_known n (Some t) None e =
      let parts = parts_of_form (var_form n (Some t) None) e in
      let typed_none = (option_or_parts (first_in_type tree s.names t) _ parts.0).0 in
      let is = unless_false (is_flawed_type tree s.names t) (type_said tree (in_scope s) s.next t) (type_sound t typed_none) in
      let names = rule_none (unbound_name_in_type tree s.names t) rule.Name (option_or_parts _ _ typed_none).0 in
      (bound_soundly (Some t) None (inl (or_parts (is_collection (declared_type tree s t)) false parts.5).0) ∙ is, said_known t names, refl)
  variable_known n (Some t) (Some i) e =
      let parts = parts_of_form (var_form n (Some t) (Some i)) e in
      let b = begun_sound n (Some t) i e in
      let typed_none = (option_or_parts (first_in_type tree s.names t) _ parts.0).0 in
      let is = unless_false (is_flawed_type tree s.names t) (type_said tree (in_scope s) s.next t) (type_sound t typed_none) in
      let names = rule_none (unbound_name_in_type tree s.names t) rule.Name (option_or_parts _ _ typed_none).0 in
      (bound_soundly (Some t) (Some i) (inr b.2) ∙ is, said_known t names, ap (λ x. cond x [] (known_of_initializer tree s s.next (Some i))) b.0)
