-- In the task that is called, a partition that is given is of the root of the region that is given for its parent.
use Rattle.std.proofs.Common.{List, [], ◌∷◌, None, false, true, refl, sym, subst, ap, ℕ, zero, suc, ◌≡◌, ◌∙◌, ◌<◌, ◌⊎◌, inl, inr, get_or, arith}
use Rattle.std.proofs.lemmas.Bool.{eqb-true}
use Rattle.std.specs.List.{list_any}
use Rattle.std.specs.Prelude.{length}
use Rattle.plain_values.proofs.Plain.{option_or_parts}
use Rattle.regent_tree.specs.Evaluation.{values}
use Rattle.regent_tree.specs.Laws.{Shape}
use Rattle.regent_tree.specs.Running.{Here, Result, State, fails, gives}
use Rattle.regent_tree.specs.Scopes.{bound_as, scope_of, unbound}
use Rattle.regent_tree.specs.StaticTypes.{binding_of_term, task_named}
use Rattle.regent_tree.specs.Syntax.{Expressions, Name, TaskTree, an_expr, no_expr}
use Rattle.regent_tree.specs.Typing.{param_types, params_at, types_of}
use Rattle.regent_tree.specs.Values.{Value, a_truth, region_of}
use Rattle.regent_tree.specs.declared.facts.Term.TheVariants as term
use Rattle.regent_tree.specs.declared.typing.Bound.{Bound}
use Rattle.regent_tree.specs.declared.typing.StaticType.{StaticType}
use Rattle.regent_tree.specs.declared.typing.StaticType.TheVariants.{Index as index_type, Integer as integer_type, Ispace as ispace_type, Nothing as no_type, Partition as partition_type, Pointer as pointer_type, Region as region_type, Truth as truth_type, Unknown as unknown_type}
use Rattle.check_rules.specs.first.FirstInExpressions.{first_in_args, first_in_expression}
use Rattle.check_rules.specs.rules.Partitions.{is_parent, mispartition_in}
use Rattle.check_rules.specs.rules.Standing.{stand_at}
use Rattle.check_rules.specs.rules.Types.{is_ill_typed_at_place}
use Rattle.check_rules.specs.types.Sorts.{is_region, is_unknown_type, type_at}
use Rattle.check_laws.proofs.Parts.{contrary}
use Rattle.check_laws.specs.SoundScopes.{IsPlaced}
use Rattle.expression_laws.proofs.Params.{own_numbered, param_as, param_type}
use Rattle.expression_laws.specs.Kinds.{IsNamedByOwnNumber}
use Rattle.expression_laws.specs.Writing.{AreWritten}
use Rattle.value_laws.proofs.Parameters.{at_place, params_are, params_long}
use Rattle.value_laws.proofs.Roots.{AreGivenRoots, Gives, IsGivenRoot, args_given}
use Rattle.value_laws.proofs.Types.{known_meant}
use Rattle.value_laws.specs.Fitting.{HasRootOfName, RootsAgree, root_bound}
use Rattle.value_laws.specs.Keeping.{AreFit, ArgumentsFit, KeepsFit}
use Rattle.value_laws.specs.Laws.{IsPlaceOfFit}

module _ (task : TaskTree) (roots : List Shape) (h : Here) (place : IsPlaceOfFit roots h) where
  pub arg_known : (es : Expressions) (r : ℕ) → first_in_args h.tree task h.scope es ≡ None → r < length (types_of h.tree h.scope es) →
      is_unknown_type (type_at (types_of h.tree h.scope es) r) ≡ false
  arg_known no_expr r e l = absurd (omega (arith, l))
  arg_known (an_expr y es) zero e l = (known_meant task roots h place y (option_or_parts (first_in_expression h.tree task h.scope y) _ e).0).known
  arg_known (an_expr y es) (suc r) e l = arg_known es r (option_or_parts (first_in_expression h.tree task h.scope y) _ e).1 (omega (arith, l))

  module _ (vs : List Value) (agree : RootsAgree h.scope.names vs) where
    abbrev Given : List StaticType → StaticType → StaticType → Value → Type 0
    Given types p t v = IsGivenRoot task roots h place vs agree types p t v

    abbrev AreGiven : List StaticType → List StaticType → List StaticType → List Value → Type 0
    AreGiven types ps ts us = AreGivenRoots task roots h place vs agree types ps ts us

    given_at : (types ps ts : List StaticType) (us : List Value) → AreGiven types ps ts us → (i : ℕ) → Given types (type_at ps i) (type_at ts i) (get_or us i (a_truth false))
    given_at types [] [] [] are zero = tt
    given_at types [] [] [] are (suc i) = tt
    given_at types [] [] (u ∷ us) are i = absurd are
    given_at types [] (t ∷ ts) us are i = absurd are
    given_at types (p ∷ ps) [] us are i = absurd are
    given_at types (p ∷ ps) (t ∷ ts) [] are i = absurd are
    given_at types (p ∷ ps) (t ∷ ts) (u ∷ us) are zero = are.0
    given_at types (p ∷ ps) (t ∷ ts) (u ∷ us) are (suc i) = given_at types ps ts us are.1 i

    -- a region that is given as a partition's parent is of the root of that name
    named_root : (parent : ℕ) (t : StaticType) (v : Value) → is_parent parent t ≡ true → is_unknown_type t ≡ false → HasRootOfName h.scope.names vs t v →
        (region_of v).root ≡ root_bound h.scope.names vs parent
    named_root parent (region_type k space args (term.Name i)) v e l root = root ∙ ap (root_bound h.scope.names vs) (sym (eqb-true parent i e))
    named_root parent (region_type k space args (term.Child p c)) v e l root = absurd cc
    named_root parent (integer_type w) v e l root = absurd cc
    named_root parent truth_type v e l root = absurd cc
    named_root parent (index_type k) v e l root = absurd cc
    named_root parent (pointer_type k s args terms) v e l root = absurd cc
    named_root parent (ispace_type k) v e l root = absurd cc
    named_root parent (partition_type d r p) v e l root = absurd cc
    named_root parent no_type v e l root = absurd cc
    named_root parent unknown_type v e l root = absurd cc

    parent_root : (types : List StaticType) (parent : ℕ) (p t : StaticType) (v : Value) → is_region p ≡ true → is_parent parent t ≡ true → is_unknown_type t ≡ false → Given types p t v →
        (region_of v).root ≡ root_bound h.scope.names vs parent
    parent_root types parent (region_type k space args q) t v is e l root = named_root parent t v e l root
    parent_root types parent (integer_type w) t v is e l root = absurd cc
    parent_root types parent truth_type t v is e l root = absurd cc
    parent_root types parent (index_type k) t v is e l root = absurd cc
    parent_root types parent (pointer_type k s args terms) t v is e l root = absurd cc
    parent_root types parent (ispace_type k) t v is e l root = absurd cc
    parent_root types parent (partition_type d r p) t v is e l root = absurd cc
    parent_root types parent no_type t v is e l root = absurd cc
    parent_root types parent unknown_type t v is e l root = absurd cc

    module _ (name : Name) (es : Expressions) (e : first_in_args h.tree task h.scope es ≡ None)
        (counted : length (types_of h.tree h.scope es) ≡ length (param_types h.tree (task_named h.tree name))) where
      abbrev t : TaskTree
      t = task_named h.tree name

      abbrev names : List Bound
      names = (scope_of h.tree t).names

      abbrev types : List StaticType
      types = types_of h.tree h.scope es

      abbrev ps : List StaticType
      ps = param_types h.tree t

      root_there : (us : List Value) (r : ℕ) → is_region (bound_as names r).static_type ≡ true → root_bound names us r ≡ (region_of (get_or us r (a_truth false))).root
      root_there us r e = by (at_place names r (params_are h.tree t.params 0 t.params))
        where
          by : (bound_as names r ≡ unbound) ⊎ ((bound_as names r).place ≡ r) → root_bound names us r ≡ (region_of (get_or us r (a_truth false))).root
          by (inl none) = absurd (contrary (sym e ∙ ap (λ (b : Bound). is_region b.static_type) none))
          by (inr same) = ap (λ n. (region_of (get_or us n (a_truth false))).root) same

      agree_type : (us : List Value) → AreGiven types ps types us → (i : ℕ) (q : StaticType) → q ≡ type_at ps i → q ≡ (bound_as names i).static_type → IsNamedByOwnNumber i q →
          HasRootOfName names us q (get_or us i (a_truth false))
      agree_type us are i (partition_type asked r own) same bound named =
          let placed = subst (IsPlaced (scope_of h.tree t)) (sym same) (place.declared.tasks name i) in
          let low = placed.1 in
          let long = params_long h.tree t.params 0 t.params in
          let it = subst (λ q. Given types q (type_at types i) (get_or us i (a_truth false))) (sym same) (given_at types ps types us are i) in
          let region = sym (ap is_region (param_type h.tree t r)) ∙ placed.0 in
          let parent = parent_root types it.0 (type_at ps r) (type_at types r) (get_or us r (a_truth false)) region it.1 (arg_known es r e (omega (arith, low, counted, long))) (given_at types ps types us are r) in
          it.2 ∙ sym parent ∙ sym (root_there us r placed.0)
      agree_type us are i (region_type k space args (term.Name j)) same bound named =
          let own : i ≡ j = sym (ap binding_of_term named) in
          sym (root_there us i (sym (ap is_region bound))) ∙ ap (root_bound names us) own
      agree_type us are i (region_type k space args (term.Child p c)) same bound named = tt
      agree_type us are i (integer_type w) same bound named = tt
      agree_type us are i truth_type same bound named = tt
      agree_type us are i (index_type k) same bound named = tt
      agree_type us are i (pointer_type k s args terms) same bound named = tt
      agree_type us are i (ispace_type k) same bound named = tt
      agree_type us are i no_type same bound named = tt
      agree_type us are i unknown_type same bound named = tt

      given_agree : (us : List Value) → AreGiven types ps types us → RootsAgree names us
      given_agree us are i = by (at_place names i (params_are h.tree t.params 0 t.params))
        where
          named : IsNamedByOwnNumber i (bound_as names i).static_type
          named = subst (λ (b : Bound). IsNamedByOwnNumber i b.static_type) (sym (param_as h.tree t.params i)) (own_numbered h.tree t.params 0 t.params i i (omega (arith)))

          by : (bound_as names i ≡ unbound) ⊎ ((bound_as names i).place ≡ i) → HasRootOfName names us (bound_as names i).static_type (get_or us (bound_as names i).place (a_truth false))
          by (inl none) = subst (λ (b : Bound). HasRootOfName names us b.static_type (get_or us b.place (a_truth false))) (sym none) tt
          by (inr same) = subst (λ n. HasRootOfName names us (bound_as names i).static_type (get_or us n (a_truth false))) (sym same)
              (agree_type us are i (bound_as names i).static_type (param_type h.tree t i) refl named)

      joined : (r : Result (List Value)) → KeepsFit h.tree roots h.scope.names (AreFit roots names ps) r → Gives (AreGiven types ps types) r →
          KeepsFit h.tree roots h.scope.names (ArgumentsFit h.tree roots t) r
      joined (gives us w) fit are = (fit.0, (fit.1, given_agree us are))
      joined (fails f w) fit are = fit

      -- what fits the parameters so fits the task
      pub arguments_fit : list_any (is_ill_typed_at_place h.scope.known) (stand_at types ps types) ≡ false → mispartition_in types ps types ≡ false → AreWritten es → (u : State) → u.names ≡ vs →
          KeepsFit h.tree roots h.scope.names (AreFit roots names ps) (values h (params_at h.tree h.scope t es) es u) →
          KeepsFit h.tree roots h.scope.names (ArgumentsFit h.tree roots t) (values h (params_at h.tree h.scope t es) es u)
      arguments_fit d p wr u same fit =
          joined (values h (params_at h.tree h.scope t es) es u) fit (args_given task roots h place vs agree types ps es wr e counted d p u same)
