-- Partitions that are handed over: each is of the region that is handed over for its parent.
use Rattle.std.proofs.Common.{◌≡◌, ℕ, suc, ◌<◌, List, [], ◌∷◌, inl, inr, Option, Some, None, refl, sym, ap, ◌∙◌, subst, arith, ◌+◌}
use Rattle.std.specs.Prelude.{get_or, length}
use Rattle.std.proofs.lemmas.Option.{same_Some}
use Rattle.regent_tree.specs.Running.{Here, State}
use Rattle.regent_tree.specs.Scopes.{bound_to}
use Rattle.regent_tree.specs.Store.{Store}
use Rattle.regent_tree.specs.Syntax.{Expression, Expressions, Name, an_expr, no_expr}
use Rattle.regent_tree.specs.Values.{Partition, Value, a_partition, region_of}
use Rattle.regent_tree.specs.declared.typing.StaticType.{StaticType}
use Rattle.regent_tree.specs.declared.typing.StaticType.TheVariants.{Index as index_type, Integer as integer_type, Ispace as ispace_type, Nothing as no_type, Partition as partition_type, Pointer as pointer_type, Region as region_type, Truth as truth_type, Unknown as unknown_type}
use Rattle.machine_terms.specs.declared.order.Instance.{Instance}
use Rattle.code_rules.specs.Slots.{typed}
use Rattle.code_laws.specs.Arguments.{AreDivided, IsDivided, IsDividedBy, name_of, name_at}
use Rattle.code_laws.specs.Pointers.{IsCutIn, Passes, passes_plain, passes_pointer}
use Rattle.code_laws.specs.Simple.{AreRegions, IsPartition, IsSimple, a_partition_type, two_regions}
use Rattle.code_laws.specs.Standing.{Agrees, AreTaken, Aside, IsInside, IsOf, IsOfGiven, SlotsFit, nothing, of_partition, where_of}
use Rattle.code_laws.specs.Steps.{Setting}
use Rattle.code_laws.specs.Taking.{given_region}
use Rattle.code_laws.proofs.CallValues.{by_name}
use Rattle.code_laws.proofs.Handing.{AreGivenBy, IsCutGiven, IsGivenBy}
use Rattle.code_laws.proofs.Parts.{cut_of}
use Rattle.code_laws.proofs.Values.{named}
use Rattle.code_laws.proofs.Wider.{into_simple}

-- ---- partitions

pub partition_there : (t : StaticType) (v : Value) → IsPartition t → IsOf t v → (q : Partition) × (v ≡ a_partition q)
partition_there _ _ (a_partition_type d r own) (of_partition _ _ _ q) = (q, refl)

pub partition_inside : (x : Setting) (store : Store) (t : StaticType) (q : Partition) → IsPartition t → IsInside x store t (a_partition q) →
    q.root < length store
partition_inside x store _ q (a_partition_type d r own) low = low

no_simple : (t : StaticType) → IsSimple t → IsPartition t → ⊥
no_simple _ s (a_partition_type d r own) = elim s [ ]

pub passes_no_cut : (t u p : StaticType) → Passes t u p → IsPartition p → ⊥
passes_no_cut t _ _ (passes_plain _ u goes) c = no_simple u (into_simple t u goes) c
passes_no_cut _ _ _ (passes_pointer _ k sp args brgs rs qs n e) c = elim c [ ]

pub regions_no_cut : (t p : StaticType) → AreRegions t p → IsPartition p → ⊥
regions_no_cut _ _ (two_regions k l sp args brgs r u) c = elim c [ ]

module _ (x : Setting) (params slots : ℕ) (fit : SlotsFit x slots) {deep : ℕ} (aside : Aside deep) where
  abbrev AreGiven : Here → List StaticType → Expressions → List Value → List Value → Type 0
  AreGiven h ps es vs names = AreGivenBy x params slots fit aside h ps es vs names

  -- one of these is a name's
  pub cut_given : (h : Here) (p : StaticType) (e : Expression) (v : Value) (names : List Value) → IsPartition p →
      IsGivenBy x params slots fit aside h p e v names → IsCutGiven x params slots fit aside h p e v names
  cut_given h p e v names c (inl is) = absurd (passes_no_cut (typed (where_of params h) e) is.0 p is.1 c)
  cut_given h p e v names c (inr (inl is)) = absurd (regions_no_cut (bound_to h.scope.names is.name).static_type p is.regions c)
  cut_given h p e v names c (inr (inr (inl is))) = absurd (regions_no_cut (typed (where_of params h) e) p is.regions c)
  cut_given h p e v names c (inr (inr (inr is))) = is

  module _ (h : Here) (s : State) (i : Instance) (all : List StaticType) (args : Expressions) (given : List Value)
      (are : AreGiven h all args given s.names) (g : Agrees x params slots aside h s i) where
    of_parent : (p : StaticType) (e : Expression) (v : Value) (r : ℕ) (q : Partition) (o u : Option Name) → IsCutGiven x params slots fit aside h p e v s.names →
        v ≡ a_partition q → name_of e ≡ o → name_at args r ≡ u → IsDividedBy (where_of params h) o u → IsCutIn (given_region given r) q
    of_parent p e v r q None u is same at there m = absurd m
    of_parent p e v r q (Some c) None is same at there m = absurd m
    of_parent p e v r q (Some c) (Some w) is same at there m =
        let names : is.name ≡ c = same_Some is.name c (sym is.stands ∙ at) in
        let has : get_or s.names (bound_to h.scope.names c).place nothing ≡ a_partition q =
        ap (λ n. get_or s.names (bound_to h.scope.names n).place nothing) (sym names) ∙ sym is.is ∙ same in
        let cut = cut_of x params slots fit aside h s i c q m.0 has g in
        let whole = by_name x params slots fit aside h s i all args given r w there m.1.named m.1.region are g in
        let parent : cut.parent ≡ given_region given r =
        ap region_of (sym cut.is.value ∙ ap (λ k. get_or s.names k nothing) m.2 ∙ whole.value) ∙ sym whole.is in
        subst (λ parent. IsCutIn parent q) parent (record { root = cut.root; sets = cut.sets; apart = cut.apart; few = cut.few })

    divided_one : (k : ℕ) (p : StaticType) (e : Expression) (v : Value) → name_at args k ≡ name_of e →
        IsGivenBy x params slots fit aside h p e v s.names → IsDivided (where_of params h) args k p → IsOfGiven given p v
    divided_one k (partition_type d r own) e v at b m =
        let is = cut_given h (partition_type d r own) e v s.names (a_partition_type d r own) b in
        let name = bound_to h.scope.names is.name in
        let q = partition_there name.static_type (get_or s.names name.place nothing) is.cut.partition
        (named IsOf h.scope.names s.names is.name g.typed is.cut.named).holding in
        let same : v ≡ a_partition q.0 = is.is ∙ q.1 in
        subst (IsOfGiven given (partition_type d r own)) (sym same)
        (of_parent (partition_type d r own) e v r q.0 (name_at args k) (name_at args r) is same (sym at) refl m)
    divided_one k (integer_type w) e v at b m = tt
    divided_one k truth_type e v at b m = tt
    divided_one k (index_type j) e v at b m = tt
    divided_one k (pointer_type j sp brgs rs) e v at b m = tt
    divided_one k (ispace_type j) e v at b m = tt
    divided_one k (region_type j sp brgs r) e v at b m = tt
    divided_one k no_type e v at b m = tt
    divided_one k unknown_type e v at b m = tt

    pub divided_at : (k : ℕ) (ps : List StaticType) (es : Expressions) (vs : List Value) → ((j : ℕ) → name_at args (k + j) ≡ name_at es j) →
        AreGiven h ps es vs s.names → AreDivided (where_of params h) args k ps → AreTaken (IsOfGiven given) ps vs
    divided_at k [] no_expr [] at b m = tt
    divided_at k (p ∷ ps) (an_expr e es) (v ∷ vs) at b m =
        let none_more : k ≡ (k + 0) = omega arith in
        let moved : (j : ℕ) → (suc k + j) ≡ (k + suc j) = λ j. omega arith in (
          divided_one k p e v (ap (name_at args) none_more ∙ at 0) b.0 m.0,
          divided_at (suc k) ps es vs (λ j. ap (name_at args) (moved j) ∙ at (suc j)) b.1 m.1,
        )
    divided_at k [] no_expr (v ∷ vs) at b m = absurd b
    divided_at k [] (an_expr e es) vs at b m = absurd b
    divided_at k (p ∷ ps) no_expr vs at b m = absurd b
    divided_at k (p ∷ ps) (an_expr e es) [] at b m = absurd b
