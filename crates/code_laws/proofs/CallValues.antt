-- The values of a call's arguments, by their places.
use Rattle.std.proofs.Common.{◌≡◌, ℕ, zero, suc, List, [], ◌∷◌, true, false, Some, refl, sym, ap, ◌∙◌, subst, ⊎_elim}
use Rattle.std.specs.Prelude.{get_or, slice_get}
use Rattle.std.proofs.lemmas.Option.{get_or_from_slice_get, none-some, same_Some}
use Rattle.regent_tree.specs.Lookup.{is_bound}
use Rattle.regent_tree.specs.Running.{Here, State}
use Rattle.regent_tree.specs.Scopes.{bound_to}
use Rattle.regent_tree.specs.Syntax.{Expression, Expressions, Name, an_expr, no_expr}
use Rattle.regent_tree.specs.Values.{Region, Value, a_region, a_truth, region_of}
use Rattle.regent_tree.specs.declared.typing.StaticType.{StaticType}
use Rattle.machine_terms.specs.declared.order.Instance.{Instance}
use Rattle.code_rules.specs.Slots.{typed}
use Rattle.code_laws.specs.Arguments.{IsCutName, name_at, part_at}
use Rattle.code_laws.specs.Simple.{IsPartition, IsRegion, a_region_type, term_in}
use Rattle.code_laws.specs.Standing.{Agrees, Aside, IsInside, IsOf, SlotsFit, nothing, where_of}
use Rattle.code_laws.specs.Steps.{Setting}
use Rattle.code_laws.specs.Taking.{IsHad, given_region}
use Rattle.code_laws.proofs.Arguments.{passes_other, named_typed, no_both, part_other, region_other}
use Rattle.code_laws.proofs.Handing.{AreGivenBy, IsCutGiven, IsHandedAs, IsPartAs}
use Rattle.code_laws.proofs.Parts.{IsColoured}
use Rattle.code_laws.proofs.Reaching.{a_region_there, region_had}
use Rattle.code_laws.proofs.Values.{named}

-- no region is a partition
region_cut : (t : StaticType) → IsRegion t → IsPartition t → ⊥
region_cut _ (a_region_type k sp args r) p = elim p [ ]

module _ (x : Setting) (params slots : ℕ) (fit : SlotsFit x slots) {deep : ℕ} (aside : Aside deep) where
  abbrev AreGiven : Here → List StaticType → Expressions → List Value → List Value → Type 0
  AreGiven h ps es vs names = AreGivenBy x params slots fit aside h ps es vs names

  -- the value of an argument that is a region's name
  pub value_at : (h : Here) (ps : List StaticType) (es : Expressions) (vs names : List Value) (k : ℕ) (n : Name) → AreGiven h ps es vs names →
      name_at es k ≡ Some n → IsRegion (bound_to h.scope.names n).static_type →
      slice_get vs k ≡ Some (get_or names (bound_to h.scope.names n).place nothing)
  value_at h ps no_expr vs names k n a e r = absurd (none-some n e)
  value_at h (p ∷ ps) (an_expr e es) (v ∷ vs) names (suc k) n a at r = value_at h ps es vs names k n a.1 at r
  value_at h (p ∷ ps) (an_expr e es) (v ∷ vs) names zero n a at r =
      ⊎_elim
      (λ scalar. absurd (region_other (typed (where_of params h) e)
      (subst IsRegion (sym (named_typed (where_of params h) e n at)) r) (passes_other (typed (where_of params h) e) scalar.0 p scalar.1)))
      (λ given. ⊎_elim
      (λ (is : IsHandedAs x params slots fit aside h p e v names).
      let same : is.name ≡ n = same_Some is.name n (sym is.stands ∙ at) in
      ap (λ u. Some u) (is.is ∙ ap (λ m. get_or names (bound_to h.scope.names m).place nothing) same))
      (⊎_elim
      (λ (is : IsPartAs x params slots fit aside h p e v names). absurd (no_both e n (is.name, is.index) at is.stands))
      (λ (is : IsCutGiven x params slots fit aside h p e v names). absurd (region_cut (bound_to h.scope.names n).static_type r
      (subst (λ m. IsPartition (bound_to h.scope.names m).static_type) (same_Some is.name n (sym is.stands ∙ at)) is.cut.partition)))) given) a.0
  value_at h [] (an_expr e es) vs names k n a at r = absurd a
  value_at h (p ∷ ps) (an_expr e es) [] names k n a at r = absurd a

  -- and of one that is a part
  pub record ByPart (h : Here) (vs : List Value) (k : ℕ) (p : Name × Expression) (names : List Value) : Type 0 where
    pub value : Value
    pub at : slice_get vs k ≡ Some value
    pub coloured : IsColoured h p.0 p.1 value names

  pub by_part : (h : Here) (ps : List StaticType) (es : Expressions) (vs names : List Value) (k : ℕ) (q : Name × Expression) → AreGiven h ps es vs names →
      part_at es k ≡ Some q → IsCutName (where_of params h) q.0 → ByPart h vs k q names
  by_part h ps no_expr vs names k q a e cut = absurd (none-some q e)
  by_part h (p ∷ ps) (an_expr e es) (v ∷ vs) names (suc k) q a at cut =
      let r = by_part h ps es vs names k q a.1 at cut in record { value = r.value; at = r.at; coloured = r.coloured }
  by_part h (p ∷ ps) (an_expr e es) (v ∷ vs) names zero q a at cut =
      ⊎_elim
      (λ scalar. absurd (part_other (where_of params h) e scalar.0 p q at cut scalar.1))
      (λ given. ⊎_elim
      (λ (is : IsHandedAs x params slots fit aside h p e v names). absurd (no_both e is.name q is.stands at))
      (⊎_elim
      (λ (is : IsPartAs x params slots fit aside h p e v names). record {
        value = v;
        at = refl;
        coloured = subst (λ (q : Name × Expression). IsColoured h q.0 q.1 v names) (same_Some (is.name, is.index) q (sym is.stands ∙ at)) is.coloured;
      })
      (λ (is : IsCutGiven x params slots fit aside h p e v names). absurd (no_both e is.name q is.stands at))) given) a.0
  by_part h [] (an_expr e es) vs names k q a at cut = absurd a
  by_part h (p ∷ ps) (an_expr e es) [] names k q a at cut = absurd a

  -- the region of a name that stands as an argument
  pub record ByName (h : Here) (s : State) (vs : List Value) (k : ℕ) (n : Name) : Type 0 where
    pub region : Region
    pub is : given_region vs k ≡ region
    pub value : get_or s.names (bound_to h.scope.names n).place nothing ≡ a_region region
    pub had : IsHad x (term_in (bound_to h.scope.names n).static_type) region

  pub by_name : (h : Here) (s : State) (i : Instance) (ps : List StaticType) (es : Expressions) (vs : List Value) (k : ℕ) (n : Name) →
      name_at es k ≡ Some n → is_bound h.scope.names n ≡ true → IsRegion (bound_to h.scope.names n).static_type →
      AreGiven h ps es vs s.names → Agrees x params slots aside h s i → ByName h s vs k n
  by_name h s i ps es vs k n at there region a g =
      let b = bound_to h.scope.names n in
      let v = get_or s.names b.place nothing in
      let q = a_region_there b.static_type v region (named IsOf h.scope.names s.names n g.typed there).holding in record {
        region = q.0;
        is = ap region_of (get_or_from_slice_get vs k v (a_truth false) (value_at h ps es vs s.names k n a at region)) ∙ q.1;
        value = q.2;
        had = region_had x s.store b.static_type q.0 region
            (subst (IsInside x s.store b.static_type) q.2 (named (IsInside x s.store) h.scope.names s.names n g.inside_store there).holding);
      }
