-- The parameters of a task: their bindings by number, and what is known of them where a body begins.
use Rattle.check_laws.proofs.Scopes.{differ, differ_below}
use Rattle.std.proofs.Common.{arith, Bool, List, [], ◌∷◌, ◌++◌, false, true, refl, ap, sym, subst, ℕ, zero, suc, ◌+◌, ◌≡◌, ◌∙◌, ◌<◌, ◌≤◌, ◌==◌, inl, inr, cond, get_or, length, map, not, reverse}
use Rattle.std.proofs.Math.ListN.{get_or-map}
use Rattle.std.proofs.lemmas.Bool.{cond-false, cond-true, eq-eqb, or_parts}
use Rattle.std.proofs.lemmas.List.{reverse-append, reverse-reverse}
use Rattle.std.specs.List.{list_any}
use Rattle.regent_tree.proofs.Members.{Has, Has-append_cases, Has-append_left, Has-append_right}
use Rattle.regent_tree.specs.Scopes.{bound_as, bound_params, known_of_clause, known_of_clauses, known_of_params, known_of_type, scope_of, unbound}
use Rattle.regent_tree.specs.StaticTypes.{among_params, type_said}
use Rattle.regent_tree.specs.Syntax.{TaskTree, Tree}
use Rattle.regent_tree.specs.Typing.{param_types}
use Rattle.regent_tree.specs.declared.facts.Known.{Known}
use Rattle.regent_tree.specs.declared.program.Clause.{Clause}
use Rattle.regent_tree.specs.declared.types.NumberTerm.TheVariants as number
use Rattle.regent_tree.specs.declared.types.Param.{Param}
use Rattle.regent_tree.specs.declared.types.TypeTerm.{TypeTerm}
use Rattle.regent_tree.specs.declared.types.TypeTerm.TheVariants as typed
use Rattle.regent_tree.specs.declared.typing.Bound.{Bound}
use Rattle.regent_tree.specs.declared.typing.StaticType.{StaticType}
use Rattle.regent_tree.specs.declared.typing.StaticType.TheVariants.{Partition as partition_type}
use Rattle.check_rules.specs.types.Sorts.{is_region, type_at}
use Rattle.check_rules.specs.rules.Names.{misses_space, unbound_name_in_type}
use Rattle.check_rules.specs.types.Lookup.{names_a}
use Rattle.check_laws.proofs.Parameters.{AreWrittenParams, bound, region_placed}
use Rattle.expression_laws.specs.Kinds.{IsNamedByOwnNumber}

module _ (tree : Tree) (all : List Param) where
  -- the bindings of parameters in their order
  abbrev pub numbered : ℕ → List Param → List Bound
  numbered i [] = []
  numbered i (p ∷ ps) = bound tree all i p ∷ numbered (suc i) ps

  reversed : (i : ℕ) (ps : List Param) → bound_params tree all i ps ≡ reverse (numbered i ps)
  reversed i [] = refl
  reversed i (p ∷ ps) = ap (λ bs. bs ++ bound tree all i p ∷ []) (reversed (suc i) ps) ∙ sym (reverse-append (bound tree all i p ∷ []) (numbered (suc i) ps))

  -- ---- by their numbers

  abbrev AtLeast : ℕ → List Bound → Type 0
  AtLeast least [] = Unit {0}
  AtLeast least (b ∷ bs) = (least ≤ b.number) × AtLeast least bs

  at_least_less : (a b : ℕ) (bs : List Bound) → a ≤ b → AtLeast b bs → AtLeast a bs
  at_least_less a b [] less are = tt
  at_least_less a b (x ∷ xs) less are = let l = are.0 in (omega (arith, l, less), at_least_less a b xs less are.1)

  at_least_more : (least : ℕ) (bs : List Bound) (b : Bound) → AtLeast least bs → least ≤ b.number → AtLeast least (bs ++ b ∷ [])
  at_least_more least [] b are l = (l, tt)
  at_least_more least (x ∷ xs) b are l = (are.0, at_least_more least xs b are.1 l)

  params_least : (i : ℕ) (ps : List Param) → AtLeast i (bound_params tree all i ps)
  params_least i [] = tt
  params_least i (p ∷ ps) =
      at_least_more i (bound_params tree all (suc i) ps) (bound tree all i p) (at_least_less i (suc i) (bound_params tree all (suc i) ps) (omega (arith)) (params_least (suc i) ps)) (omega (arith))

  skipped : (bs : List Bound) (b : Bound) (k : ℕ) → AtLeast (suc k) bs → bound_as (bs ++ b ∷ []) k ≡ bound_as (b ∷ []) k
  skipped [] b k are = refl
  skipped (x ∷ xs) b k are = let l = are.0 in cond-false (x.number == k) x (bound_as (xs ++ b ∷ []) k) (differ x.number k (omega (arith, l))) ∙ skipped xs b k are.1

  kept : (bs : List Bound) (b : Bound) (k : ℕ) → b.number < k → bound_as (bs ++ b ∷ []) k ≡ bound_as bs k
  kept [] b k less = cond-false (b.number == k) b unbound (differ_below b.number k less)
  kept (x ∷ xs) b k less = ap (λ c. cond (x.number == k) x c) (kept xs b k less)

  numbered_as : (i : ℕ) (ps : List Param) (j k : ℕ) → k ≡ i + j → bound_as (bound_params tree all i ps) k ≡ get_or (numbered i ps) j unbound
  numbered_as i [] zero k e = refl
  numbered_as i [] (suc j) k e = refl
  numbered_as i (p ∷ ps) zero k e =
      let same : k ≡ i = omega (arith, e) in
      skipped (bound_params tree all (suc i) ps) (bound tree all i p) k (subst (λ n. AtLeast (suc n) (bound_params tree all (suc i) ps)) (sym same) (params_least (suc i) ps))
      ∙ cond-true (i == k) (bound tree all i p) unbound (eq-eqb i k (sym same))
  numbered_as i (p ∷ ps) (suc j) k e =
      kept (bound_params tree all (suc i) ps) (bound tree all i p) k (omega (arith, e)) ∙ numbered_as (suc i) ps j k (omega (arith, e))

  -- the binding of a number among all
  pub param_as : (i : ℕ) → bound_as (bound_params tree all 0 all) i ≡ get_or (numbered 0 all) i unbound
  param_as i = numbered_as 0 all i i (omega (arith))

  pub numbered_place : (i : ℕ) (ps : List Param) (j : ℕ) → j < length ps → (get_or (numbered i ps) j unbound).place ≡ i + j
  numbered_place i [] j l = absurd (omega (arith, l))
  numbered_place i (p ∷ ps) zero l = omega (arith)
  numbered_place i (p ∷ ps) (suc j) l = numbered_place (suc i) ps j (omega (arith, l)) ∙ omega (arith)

  pub numbered_by : (i : ℕ) (ps : List Param) (j : ℕ) → (get_or (numbered i ps) j unbound).by_loop ≡ false
  numbered_by i [] zero = refl
  numbered_by i [] (suc j) = refl
  numbered_by i (p ∷ ps) zero = refl
  numbered_by i (p ∷ ps) (suc j) = numbered_by (suc i) ps j

  pub numbered_past : (i : ℕ) (ps : List Param) (j : ℕ) → length ps ≤ j → get_or (numbered i ps) j unbound ≡ unbound
  numbered_past i [] zero l = refl
  numbered_past i [] (suc j) l = refl
  numbered_past i (p ∷ ps) zero l = absurd (omega (arith, l))
  numbered_past i (p ∷ ps) (suc j) l = numbered_past (suc i) ps j (omega (arith, l))

  -- a member has a number
  pub numbered_member : (i : ℕ) (ps : List Param) (b : Bound) → Has (bound_params tree all i ps) b → (j : ℕ) × (j < length ps) × (get_or (numbered i ps) j unbound ≡ b)
  numbered_member i [] b h = absurd h
  numbered_member i (p ∷ ps) b h = elim (Has-append_cases (bound_params tree all (suc i) ps) (bound tree all i p ∷ []) b h) [
    | inl g ↦ let rest = numbered_member (suc i) ps b g in let l = rest.1 in (suc rest.0, omega (arith, l), rest.2)
    | inr (inl e) ↦ (0, omega (arith), e)
    | inr (inr g) ↦ absurd g
  ]

  pub numbered_has : (i : ℕ) (ps : List Param) (j : ℕ) → j < length ps → Has (bound_params tree all i ps) (get_or (numbered i ps) j unbound)
  numbered_has i [] j l = absurd (omega (arith, l))
  numbered_has i (p ∷ ps) zero l = Has-append_right (bound_params tree all (suc i) ps) (bound tree all i p ∷ []) (bound tree all i p) (inl refl)
  numbered_has i (p ∷ ps) (suc j) l = Has-append_left (bound_params tree all (suc i) ps) (bound tree all i p ∷ []) (get_or (numbered (suc i) ps) j unbound) (numbered_has (suc i) ps j (omega (arith, l)))

  -- ---- types of parameters

  said_own : (i : ℕ) (t : TypeTerm) → IsNamedByOwnNumber i (type_said tree (among_params all) i t)
  said_own i (typed.Number number.Int32) = tt
  said_own i (typed.Number number.Int64) = tt
  said_own i (typed.Number (number.Index k)) = tt
  said_own i typed.Truth = tt
  said_own i (typed.Pointer p) = tt
  said_own i (typed.Ispace k) = tt
  said_own i (typed.Region k u) = refl
  said_own i (typed.Partition d r c) = refl

  -- a region or partition is named by its own number
  pub own_numbered : (i : ℕ) (ps : List Param) (j k : ℕ) → k ≡ i + j → IsNamedByOwnNumber k (get_or (numbered i ps) j unbound).static_type
  own_numbered i [] zero k e = tt
  own_numbered i [] (suc j) k e = tt
  own_numbered i (p ∷ ps) zero k e = let is : k ≡ i = omega (arith, e) in subst (λ n. IsNamedByOwnNumber n (bound tree all i p).static_type) (sym is) (said_own i p.term)
  own_numbered i (p ∷ ps) (suc j) k e = own_numbered (suc i) ps j k (omega (arith, e))

  -- the parent of a partition is a parameter of a region
  abbrev HasRegion : StaticType → Type 0
  HasRegion (partition_type d r p) = (is_region (bound_as (bound_params tree all 0 all) r).static_type ≡ true) × (r < length all)
  HasRegion t = Unit {0}

  module _ (written : AreWrittenParams tree all) where
    said_region : (i : ℕ) (t : TypeTerm) → unbound_name_in_type tree (bound_params tree all 0 all) t ≡ false → HasRegion (type_said tree (among_params all) i t)
    said_region i (typed.Number number.Int32) e = tt
    said_region i (typed.Number number.Int64) e = tt
    said_region i (typed.Number (number.Index k)) e = tt
    said_region i typed.Truth e = tt
    said_region i (typed.Pointer p) e = tt
    said_region i (typed.Ispace k) e = tt
    said_region i (typed.Region k u) e = tt
    said_region i (typed.Partition d r c) e =
        region_placed tree all (record { names = bound_params tree all 0 all; known = []; next = length all }) refl refl written.once written.named r
        (or_parts (not (names_a is_region (bound_params tree all 0 all) r)) (misses_space (bound_params tree all 0 all) c) e).0

    numbered_region : (i : ℕ) (ps : List Param) → list_any (λ (p : Param). unbound_name_in_type tree (bound_params tree all 0 all) p.term) ps ≡ false → (j : ℕ) →
        HasRegion (get_or (numbered i ps) j unbound).static_type
    numbered_region i [] e zero = tt
    numbered_region i [] e (suc j) = tt
    numbered_region i (p ∷ ps) e zero = said_region i p.term (or_parts (unbound_name_in_type tree (bound_params tree all 0 all) p.term) _ e).0
    numbered_region i (p ∷ ps) e (suc j) = numbered_region (suc i) ps (or_parts (unbound_name_in_type tree (bound_params tree all 0 all) p.term) _ e).1 j

    pub parent_region : (i : ℕ) (d : Bool) (r p : ℕ) → (bound_as (bound_params tree all 0 all) i).static_type ≡ partition_type d r p →
        (is_region (bound_as (bound_params tree all 0 all) r).static_type ≡ true) × (r < length all)
    parent_region i d r p e = subst HasRegion (ap (λ (b : Bound). b.static_type) (sym (param_as i)) ∙ e) (numbered_region 0 all written.named i)

pub none_has : {A : Type 0} (test : A → Bool) (xs : List A) (x : A) → list_any test xs ≡ false → Has xs x → test x ≡ false
none_has test [] x e h = absurd h
none_has test (y ∷ ys) x e (inl same) = subst (λ z. test z ≡ false) same (or_parts (test y) _ e).0
none_has test (y ∷ ys) x e (inr h) = none_has test ys x (or_parts (test y) _ e).1 h

-- the type of a parameter is that of the binding with its number
pub param_type : (tree : Tree) (t : TaskTree) (i : ℕ) → (bound_as (scope_of tree t).names i).static_type ≡ type_at (param_types tree t) i
param_type tree t i =
    ap (λ (b : Bound). b.static_type) (param_as tree t.params i) ∙ sym (get_or-map (λ (b : Bound). b.static_type) (numbered tree t.params 0 t.params) i unbound)
    ∙ ap (λ bs. type_at (map (λ (b : Bound). b.static_type) bs) i) (sym (reverse-reverse (numbered tree t.params 0 t.params)) ∙ ap reverse (sym (reversed tree t.params 0 t.params)))

-- ---- what is known

-- what is known of parameters comes from their types
pub known_param : (bs : List Bound) (k : Known) → Has (known_of_params bs) k → (b : Bound) × Has bs b × Has (known_of_type b.static_type) k
known_param [] k h = absurd h
known_param (b ∷ bs) k h = elim (Has-append_cases (known_of_params bs) (known_of_type b.static_type) k h) [
  | inl g ↦ let rest = known_param bs k g in (rest.0, inr rest.1, rest.2)
  | inr g ↦ (b, inl refl, g)
]

-- and the other way
pub param_known : (bs : List Bound) (b : Bound) (k : Known) → Has bs b → Has (known_of_type b.static_type) k → Has (known_of_params bs) k
param_known [] b k h g = absurd h
param_known (x ∷ xs) b k (inl e) g = Has-append_right (known_of_params xs) (known_of_type x.static_type) k (subst (λ (c : Bound). Has (known_of_type c.static_type) k) (sym e) g)
param_known (x ∷ xs) b k (inr h) g = Has-append_left (known_of_params xs) (known_of_type x.static_type) k (param_known xs b k h g)

-- what is known by clauses comes from one of them
pub known_clause : (params : List Param) (cs : List Clause) (k : Known) → Has (known_of_clauses params cs) k → (c : Clause) × Has cs c × Has (known_of_clause params c) k
known_clause params [] k h = absurd h
known_clause params (c ∷ cs) k h = elim (Has-append_cases (known_of_clause params c) (known_of_clauses params cs) k h) [
  | inl g ↦ (c, inl refl, g)
  | inr g ↦ let rest = known_clause params cs k g in (rest.0, inr rest.1, rest.2)
]
