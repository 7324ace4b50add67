-- Partitions that are handed over, where nothing is told of the call: one for a parameter that is disjoint is known to be disjoint, and
-- the region of which it is was given for the region of the parameter.
use Rattle.std.proofs.Common.{◌≡◌, inl, inr, ℕ, List, [], ◌∷◌, Bool, true, false, ◌&&◌, None, sym, ap, ◌∙◌, subst, arith}
use Rattle.std.specs.Prelude.{get_or, not}
use Rattle.std.proofs.lemmas.Bool.{not-false, or_parts}
use Rattle.plain_values.proofs.Plain.{option_or_parts}
use Rattle.regent_tree.proofs.Members.{Has}
use Rattle.regent_tree.specs.Scopes.{bound_as, known_of_params, known_of_type, scope_of, unbound}
use Rattle.regent_tree.specs.Syntax.{an_expr, Expressions, no_expr, TaskTree, Tree}
use Rattle.regent_tree.specs.Typing.{is_disjoint, param_types, parent_of}
use Rattle.regent_tree.specs.declared.facts.Known.{Known}
use Rattle.regent_tree.specs.declared.facts.Known.TheVariants.{PartOf}
use Rattle.regent_tree.specs.declared.typing.Bound.{Bound}
use Rattle.regent_tree.specs.declared.typing.StaticType.{StaticType}
use Rattle.regent_tree.specs.declared.typing.StaticType.TheVariants.{Integer as integer_type, Truth as truth_type, Index as index_type, Pointer as pointer_type, Ispace as ispace_type, Region as region_type, Partition as partition_type, Nothing as no_type, Unknown as unknown_type}
use Rattle.check_rules.specs.first.FirstInExpressions.{first_in_args, first_in_expression}
use Rattle.check_rules.specs.rules.Partitions.{is_parent, mispartition_in, mispartitions}
use Rattle.check_rules.specs.scopes.Sound.{IsSound, IsSoundTask}
use Rattle.check_rules.specs.types.KnownTypes.{known_type, known_types}
use Rattle.check_rules.specs.types.Sorts.{is_region, type_at}
use Rattle.check_laws.specs.SoundScopes.{IsSoundScope}
use Rattle.check_laws.proofs.Blocks.{head_known}
use Rattle.check_laws.proofs.Sounding.{params_written}
use Rattle.expression_laws.specs.Kinds.{IsNamedByOwnNumber}
use Rattle.expression_laws.proofs.Params.{known_param, numbered, numbered_member, own_numbered, param_as, param_type, parent_region}
use Rattle.code_rules.specs.Slots.{typed, Where}
use Rattle.code_laws.specs.Simple.{a_partition_type, IsPartition}

-- ---- what is told

pub parent_told : (ts : List StaticType) (p u : StaticType) → IsPartition p → IsPartition u → mispartitions ts p u ≡ false →
    (is_disjoint p ≡ true → is_disjoint u ≡ true) × (is_parent (parent_of u) (type_at ts (parent_of p)) ≡ true)
parent_told ts _ _ (a_partition_type d r own) (a_partition_type e q o) h =
    let parts = or_parts (d && not e) (not (is_parent q (type_at ts r))) h in
    (λ y. not-false e (subst (λ b. (b && not e) ≡ false) y parts.0), not-false (is_parent q (type_at ts r)) parts.1)

abbrev pub IsFlagged : StaticType → StaticType → Type 0
IsFlagged p u = IsPartition p → IsPartition u → is_disjoint p ≡ true → is_disjoint u ≡ true

-- so of each argument for parameters of these types
abbrev pub AreFlagged : Where → List StaticType → Expressions → Type 0
AreFlagged w (p ∷ ps) (an_expr e es) = IsFlagged p (typed w e) × AreFlagged w ps es
AreFlagged w ps es = Unit {0}

pub flags_told : (w : Where) (task : TaskTree) (sound : IsSound w.tree) (scope : IsSoundScope w.scope) (types ps : List StaticType) (es : Expressions) →
    first_in_args w.tree task w.scope es ≡ None → mispartition_in types ps (known_types w.tree w.scope es) ≡ false → AreFlagged w ps es
flags_told w task sound scope types [] es none h = tt
flags_told w task sound scope types (p ∷ ps) no_expr none h = tt
flags_told w task sound scope types (p ∷ ps) (an_expr e es) none h =
    let args = option_or_parts (first_in_expression w.tree task w.scope e) _ none in
    let here = or_parts (mispartitions types p (known_type w.tree w.scope e)) _ h in
    let known = (head_known w.tree task sound w.scope scope e args.0).1 in (
      λ a b. (parent_told types p (typed w e) a b (subst (λ u. mispartitions types p u ≡ false) known here.0)).0,
      flags_told w task sound scope types ps es args.1 here.1,
    )

-- ---- parameters that are partitions

-- the type that is told of
abbrev told_type : Known → StaticType
told_type (PartOf p r d) = partition_type d r p
told_type k = no_type

type_cut : (t : StaticType) (p r : ℕ) (d : Bool) → Has (known_of_type t) (PartOf p r d) → t ≡ partition_type d r p
type_cut (partition_type e s o) p r d (inl q) = ap told_type q
type_cut (partition_type e s o) p r d (inr h) = absurd h
type_cut (integer_type w) p r d h = absurd h
type_cut truth_type p r d h = absurd h
type_cut (index_type k) p r d h = absurd h
type_cut (pointer_type k sp args rs) p r d h = absurd h
type_cut (ispace_type k) p r d h = absurd h
type_cut (region_type k sp args q) p r d h = absurd h
type_cut no_type p r d h = absurd h
type_cut unknown_type p r d h = absurd h

module _ (tree : Tree) (t : TaskTree) (p r : ℕ) (d : Bool) (h : Has (known_of_params (scope_of tree t).names) (PartOf p r d)) where
  -- the one of a number has its type
  bound_cut : (bound_as (scope_of tree t).names p).static_type ≡ partition_type d r p
  bound_cut =
      let b = known_param (scope_of tree t).names (PartOf p r d) h in
      let own = type_cut b.0.static_type p r d b.2 in
      let at = numbered_member tree t.params 0 t.params b.0 b.1 in
      let number : p ≡ at.0 = subst (IsNamedByOwnNumber at.0) (ap (λ (c : Bound). c.static_type) at.2 ∙ own) (own_numbered tree t.params 0 t.params at.0 at.0 (omega arith)) in
      ap (λ (c : Bound). c.static_type) (param_as tree t.params p ∙ ap (λ n. get_or (numbered tree t.params 0 t.params) n unbound) number ∙ at.2) ∙ own

  pub cut_param : type_at (param_types tree t) p ≡ partition_type d r p
  cut_param = sym (param_type tree t p) ∙ bound_cut

  -- and is of a parameter that is a region
  pub cut_region : IsSoundTask tree t → is_region (type_at (param_types tree t) r) ≡ true
  cut_region sound = subst (λ u. is_region u ≡ true) (param_type tree t r) (parent_region tree t.params (params_written tree t sound) p d r p bound_cut).0
