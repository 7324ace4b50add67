-- Types of variables speak of what is in scope, and what a variable tells is of its own number.
use Rattle.check_rules.proofs.Untold.{rule_none}
use Rattle.plain_values.proofs.Plain.{option_or_parts}
use Rattle.std.proofs.Common.{arith, List, [], ◌∷◌, ◌++◌, None, Option, Some, false, refl, subst, ◌≡◌, map, not, suc, inl, inr}
use Rattle.std.proofs.lemmas.Bool.{or_parts}
use Rattle.regent_tree.specs.Scopes.{Scope, in_scope}
use Rattle.regent_tree.specs.StaticTypes.{looked_up, type_said, written_pointer}
use Rattle.regent_tree.specs.Syntax.{Name, TaskTree, Tree}
use Rattle.regent_tree.specs.Typing.{type_of}
use Rattle.regent_tree.specs.declared.facts.Term.TheVariants as term
use Rattle.regent_tree.specs.declared.types.NumberTerm.TheVariants as number
use Rattle.regent_tree.specs.declared.types.TypeTerm.{TypeTerm}
use Rattle.regent_tree.specs.declared.types.TypeTerm.TheVariants as typed
use Rattle.regent_tree.specs.declared.typing.StaticType.{StaticType}
use Rattle.regent_tree.specs.declared.typing.StaticType.TheVariants.{Index as index_type, Integer as integer_type, Ispace as ispace_type, Nothing as no_type, Partition as partition_type, Pointer as pointer_type, Region as region_type, Truth as truth_type, Unknown as unknown_type}
use Rattle.check_rules.specs.first.FirstInExpressions.{first_in_expression, first_in_type}
use Rattle.check_rules.specs.rules.Names.{unbound_name_in_type}
use Rattle.check_rules.specs.scopes.Sound.{IsSound}
use Rattle.check_rules.specs.declared.rule.Rule.TheVariants as rule
use Rattle.check_laws.specs.SoundScopes.{IsSoundScope}
use Rattle.expression_laws.specs.Kinds.{ArgumentsInScope, AreArguments, IsNamedByOwnNumber, IsWellScoped, TypeBelow}
use Rattle.statement_laws.specs.Steady.{IsTypeInScope}
use Rattle.statement_laws.proofs.Agree.{type_up}
use Rattle.std.specs.List.{Contains}
use Rattle.std.specs.Prelude.{option_to_list}
use Rattle.regent_tree.proofs.Members.{Has, Has-from_Contains}
use Rattle.regent_tree.specs.Lookup.{has_space}
use Rattle.regent_tree.specs.Scopes.{known_of_type}
use Rattle.regent_tree.specs.Syntax.{Initializer, both_initializer, by_field_initializer, either_initializer, equal_initializer, image_initializer, plain_initializer, preimage_initializer, region_initializer, var_form}
use Rattle.regent_tree.specs.Typing.{known_of_child, known_of_initializer, owned, scope_after, initializer_type, var_type}
use Rattle.regent_tree.specs.declared.facts.Known.{Known}
use Rattle.regent_tree.specs.declared.facts.Known.TheVariants.{Made, PartOf, Within}
use Rattle.regent_tree.specs.declared.types.Kind.TheVariants.{Int1d}
use Rattle.regent_tree.specs.declared.types.SpaceUse.{SpaceUse}
use Rattle.check_rules.specs.first.FirstInStatements.{first_of_form, first_of_initializer}
use Rattle.check_rules.specs.rules.Names.{unbound_name_in_use}
use Rattle.check_rules.specs.rules.Partitions.{is_difference}
use Rattle.check_rules.specs.first.Rules.{first_in}
use Rattle.check_rules.specs.scopes.Variables.{expressions_in_initializer}
use Rattle.check_laws.specs.SoundScopes.{IsPlaced}
use Rattle.check_laws.proofs.Variables.{parts_of_form, variable_known}
use Rattle.statement_laws.specs.Steady.{FactBelow, KnowsMore, IsFresh}
use Rattle.statement_laws.proofs.Agree.{in_either, term_up}
use Rattle.expression_laws.proofs.Names.{refs_args, pointer_args}
use Rattle.statement_laws.proofs.Types.{plain_in, args_below}

module _ (tree : Tree) (task : TaskTree) (s : Scope) (sound : IsSound tree) (scope : IsSoundScope s) (well_scoped : IsWellScoped s) where
  -- ---- variables

  abbrev IsOwned : StaticType → Type 0
  IsOwned t = ArgumentsInScope s t × IsNamedByOwnNumber s.next t × TypeBelow (suc s.next) t

  owned_said : (t : StaticType) → IsTypeInScope s t → IsOwned (owned s.next t)
  owned_said (region_type k sp args r) h = (h.args, refl, omega (arith))
  owned_said (partition_type d r p) h = (tt, refl, omega (arith))
  owned_said (integer_type w) h = (tt, tt, tt)
  owned_said truth_type h = (tt, tt, tt)
  owned_said (index_type k) h = (tt, tt, tt)
  owned_said (pointer_type k sp args terms) h = (h.args, tt, type_up s.next (suc s.next) (pointer_type k sp args terms) (omega (arith)) h.below)
  owned_said (ispace_type k) h = (tt, tt, tt)
  owned_said no_type h = (tt, tt, tt)
  owned_said unknown_type h = (tt, tt, tt)

  use_args : (u : SpaceUse) → unbound_name_in_use tree s.names u ≡ false → AreArguments s (map (looked_up (in_scope s)) u.args)
  use_args u e = refs_args s scope u.args (or_parts (not (has_space tree u.name)) _ e).1

  said_said : (t : TypeTerm) → unbound_name_in_type tree s.names t ≡ false →
      IsOwned (type_said tree (in_scope s) s.next t)
  said_said (typed.Number number.Int32) e = (tt, tt, tt)
  said_said (typed.Number number.Int64) e = (tt, tt, tt)
  said_said (typed.Number (number.Index k)) e = (tt, tt, tt)
  said_said typed.Truth e = (tt, tt, tt)
  said_said (typed.Pointer p) e =
      let are = pointer_args s scope tree p e in
      (are.0, tt, type_up s.next (suc s.next) (written_pointer tree (in_scope s) p) (omega (arith)) (args_below s scope (map (looked_up (in_scope s)) p.regions) are.1))
  said_said (typed.Ispace k) e = (tt, tt, tt)
  said_said (typed.Region k u) e = (use_args u e, refl, omega (arith))
  said_said (typed.Partition d r c) e = (tt, refl, omega (arith))

  start_said : (i : Initializer) → first_in (first_in_expression tree task s) (expressions_in_initializer s.names i) ≡ None →
      first_of_initializer tree task s i ≡ None → IsOwned (initializer_type tree s s.next i)
  start_said (region_initializer e u) heads told =
      let written = option_or_parts (first_in_type tree s.names (typed.Region Int1d u)) _ (option_or_parts _ _ told).0 in
      (use_args u (rule_none (unbound_name_in_type tree s.names (typed.Region Int1d u)) rule.Name (option_or_parts _ _ written.0).0), refl, omega (arith))
  start_said (equal_initializer r e) heads told = (tt, refl, omega (arith))
  start_said (by_field_initializer r f e) heads told = (tt, refl, omega (arith))
  start_said (image_initializer parent p r f) heads told = (tt, refl, omega (arith))
  start_said (preimage_initializer parent p r f) heads told = (tt, refl, omega (arith))
  start_said (both_initializer p q) heads told = (tt, refl, omega (arith))
  start_said (either_initializer p q) heads told = (tt, refl, omega (arith))
  start_said (plain_initializer e) heads told = owned_said (type_of tree s e) (plain_in tree task s sound scope well_scoped e (is_difference s.names e) refl heads)

  pub var_said : (n : Name) (t : Option TypeTerm) (start : Option Initializer) → first_of_form tree task s (var_form n t start) ≡ None →
      IsOwned (var_type tree s t start)
  var_said n (Some t) start e =
      let parts = parts_of_form tree task s sound scope (var_form n (Some t) start) e in
      let written = (option_or_parts (first_in_type tree s.names t) _ parts.0).0 in
      said_said t (rule_none (unbound_name_in_type tree s.names t) rule.Name (option_or_parts _ _ written).0)
  var_said n None (Some i) e =
      let parts = parts_of_form tree task s sound scope (var_form n None (Some i)) e in
      start_said i parts.2 (option_or_parts (first_of_initializer tree task s i) _ parts.3).0
  var_said n None None e = (tt, tt, tt)

  -- ---- what a variable tells

  abbrev AreNew : List Known → Type 0
  AreNew ks = (k : Known) → Contains ks k → IsFresh s.next k × FactBelow (suc s.next) k

  none_new : AreNew []
  none_new k c = absurd (Has-from_Contains [] k c)

  one_new : (f : Known) → IsFresh s.next f → FactBelow (suc s.next) f → AreNew (f ∷ [])
  one_new f fresh below k c = elim (Has-from_Contains (f ∷ []) k c) [
    | inl e ↦ (subst (IsFresh s.next) e fresh, subst (FactBelow (suc s.next)) e below)
    | inr h ↦ absurd h
  ]

  type_new : (t : StaticType) → IsPlaced s t → IsNamedByOwnNumber s.next t → AreNew (known_of_type t)
  type_new (partition_type d r p) placed own =
      let l = placed.1 in
      one_new (PartOf p r d) (omega (arith, own)) (omega (arith, own), omega (arith, l))
  type_new (region_type k sp args r) placed own = none_new
  type_new (integer_type w) placed own = none_new
  type_new truth_type placed own = none_new
  type_new (index_type k) placed own = none_new
  type_new (pointer_type k sp args terms) placed own = none_new
  type_new (ispace_type k) placed own = none_new
  type_new no_type placed own = none_new
  type_new unknown_type placed own = none_new

  child_new : (t : StaticType) → TypeBelow s.next t → AreNew (known_of_child s.next t)
  child_new (region_type k sp args (term.Name i)) below = none_new
  child_new (region_type k sp args (term.Child p c)) below =
      one_new (Within (term.Name s.next) (term.Child p c)) (omega (arith)) (omega (arith), term_up s.next (suc s.next) (term.Child p c) (omega (arith)) below)
  child_new (partition_type d r p) below = none_new
  child_new (integer_type w) below = none_new
  child_new truth_type below = none_new
  child_new (index_type k) below = none_new
  child_new (pointer_type k sp args terms) below = none_new
  child_new (ispace_type k) below = none_new
  child_new no_type below = none_new
  child_new unknown_type below = none_new

  start_new : (start : Option Initializer) → ((i : Initializer) → Has (option_to_list start) i → first_in (first_in_expression tree task s) (expressions_in_initializer s.names i) ≡ None) →
      AreNew (known_of_initializer tree s s.next start)
  start_new None heads = none_new
  start_new (Some (region_initializer e u)) heads = one_new (Made s.next) (omega (arith)) (omega (arith))
  start_new (Some (plain_initializer e)) heads = child_new (type_of tree s e) (plain_in tree task s sound scope well_scoped e (is_difference s.names e) refl (heads (plain_initializer e) (inl refl))).below
  start_new (Some (equal_initializer r e)) heads = none_new
  start_new (Some (by_field_initializer r f e)) heads = none_new
  start_new (Some (image_initializer parent p r f)) heads = none_new
  start_new (Some (preimage_initializer parent p r f)) heads = none_new
  start_new (Some (both_initializer p q)) heads = none_new
  start_new (Some (either_initializer p q)) heads = none_new

  pub var_grows : (n : Name) (t : Option TypeTerm) (start : Option Initializer) → first_of_form tree task s (var_form n t start) ≡ None →
      KnowsMore s (scope_after tree s (var_form n t start))
  var_grows n t start e =
      let told = known_of_initializer tree s s.next start in
      let typed = known_of_type (var_type tree s t start) in
      let placed = (variable_known tree task s sound scope n t start e).1.placed in
      let new : AreNew (told ++ typed) = λ k c. elim (in_either told typed k c) [
        | inl h ↦ start_new start (heads start e) k h
        | inr h ↦ type_new (var_type tree s t start) placed (var_said n t start e).1 k h
      ] in record {
        more = told ++ typed;
        known = refl;
        next = omega (arith);
        fresh = λ k c. (new k c).0;
        below = λ k c. (new k c).1;
      }
    where
      heads : (start : Option Initializer) → first_of_form tree task s (var_form n t start) ≡ None →
          (i : Initializer) → Has (option_to_list start) i → first_in (first_in_expression tree task s) (expressions_in_initializer s.names i) ≡ None
      heads None e i h = absurd h
      heads (Some i) e j (inl same) = subst (λ k. first_in (first_in_expression tree task s) (expressions_in_initializer s.names k) ≡ None) same (parts_of_form tree task s sound scope (var_form n t (Some i)) e).2
      heads (Some i) e j (inr h) = absurd h
