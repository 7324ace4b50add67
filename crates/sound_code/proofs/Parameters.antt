-- The types of a task's parameters: that of a region names its place, and no type is unknown.
use Rattle.std.proofs.Common.{◌≡◌, ℕ, zero, suc, ◌<◌, ◌≤◌, ◌+◌, List, [], ◌∷◌, ◌++◌, map, refl, sym, ap, ◌∙◌, subst, arith, Some, cond}
use Rattle.std.specs.Prelude.{length, replicate}
use Rattle.regent_tree.specs.Scopes.{bound_params}
use Rattle.regent_tree.specs.StaticTypes.{Looking, among_params, type_said}
use Rattle.regent_tree.specs.Syntax.{TaskTree, Tree}
use Rattle.regent_tree.specs.Typing.{param_types}
use Rattle.regent_tree.specs.declared.facts.Term.TheVariants as term
use Rattle.regent_tree.specs.declared.types.NumberTerm.TheVariants as number
use Rattle.regent_tree.specs.declared.types.Param.{Param}
use Rattle.regent_tree.specs.declared.types.TypeTerm.{TypeTerm}
use Rattle.regent_tree.specs.declared.types.TypeTerm.TheVariants as typing
use Rattle.regent_tree.specs.declared.typing.Bound.{Bound}
use Rattle.regent_tree.specs.declared.typing.StaticType.{StaticType}
use Rattle.regent_tree.specs.declared.typing.StaticType.TheVariants.{Integer as integer_type, Truth as truth_type, Index as index_type, Pointer as pointer_type, Ispace as ispace_type, Region as region_type, Partition as partition_type, Nothing as no_type, Unknown as unknown_type}
use Rattle.code_laws.proofs.Openings.{types_cons, types_in}
use Rattle.fit_rules.specs.Shapes.{anything, argument, Each, numeric_index, numeric_integer, numeric_pointer, numeric_truth, own_as, region}
use Rattle.fit_rules.specs.Sound.{Settled, settled_number, settled_partition, settled_region, settled_space}
use Rattle.sound_code.specs.Named.{IsNumbered}
use Rattle.sound_code.specs.Ways.{none_begun, origin_behind, Tops, Way, all_made, by_rules, shape_in}
use Rattle.sound_code.proofs.Calling.{types_many}
use Rattle.sound_code.proofs.Interpreting.{not_below}

-- each type of a list, with its place
abbrev pub AreAt : (ℕ → StaticType → Type 0) → ℕ → List StaticType → Type 0
AreAt P k [] = Unit {0}
AreAt P k (t ∷ ts) = P k t × AreAt P (suc k) ts

types_first : (bs : List Bound) (b : Bound) → types_in (bs ++ b ∷ []) ≡ b.static_type ∷ types_in bs
types_first [] b = refl
types_first (c ∷ bs) b = types_cons c (bs ++ b ∷ []) ∙ ap (λ ts. ts ++ c.static_type ∷ []) (types_first bs b)
    ∙ ap (λ ts. b.static_type ∷ ts) (sym (types_cons c bs))

module _ (P : ℕ → StaticType → Type 0) (tree : Tree) (all : List Param) (said : (i : ℕ) (t : TypeTerm) → P i (type_said tree (among_params all) i t)) where
  names_at : (i : ℕ) (ps : List Param) → AreAt P i (types_in (bound_params tree all i ps))
  names_at i [] = tt
  names_at i (p ∷ ps) = subst (AreAt P i) (sym (types_first (bound_params tree all (suc i) ps) _)) (said i p.term, names_at (suc i) ps)

-- ---- regions name their places

abbrev pub IsOwnAt : ℕ → StaticType → Type 0
IsOwnAt k (region_type c sp args (term.Name i)) = i ≡ k
IsOwnAt k (region_type c sp args (term.Child p q)) = ⊥
IsOwnAt k t = Unit {0}

type_own : (tree : Tree) (look : Looking) (i : ℕ) (t : TypeTerm) → IsOwnAt i (type_said tree look i t)
type_own tree look i (typing.Number number.Int32) = tt
type_own tree look i (typing.Number number.Int64) = tt
type_own tree look i (typing.Number (number.Index k)) = tt
type_own tree look i typing.Truth = tt
type_own tree look i (typing.Pointer p) = tt
type_own tree look i (typing.Ispace k) = tt
type_own tree look i (typing.Region k u) = refl
type_own tree look i (typing.Partition d r c) = tt

pub params_own : (tree : Tree) (u : TaskTree) → AreAt IsOwnAt 0 (param_types tree u)
params_own tree u = names_at IsOwnAt tree u.params (type_own tree (among_params u.params)) 0 u.params

-- so they name parameters
abbrev pub IsLow : ℕ → StaticType → Type 0
IsLow n (region_type k sp args (term.Name i)) = i < n
IsLow n (region_type k sp args (term.Child p c)) = ⊥
IsLow n t = Unit {0}

own_low : (n k : ℕ) (t : StaticType) → IsOwnAt k t → k < n → IsLow n t
own_low n k (region_type c sp args (term.Name i)) o l = omega (arith, o, l)
own_low n k (region_type c sp args (term.Child p q)) o l = absurd o
own_low n k (integer_type w) o l = tt
own_low n k truth_type o l = tt
own_low n k (index_type c) o l = tt
own_low n k (pointer_type c sp args rs) o l = tt
own_low n k (ispace_type c) o l = tt
own_low n k (partition_type d r p) o l = tt
own_low n k no_type o l = tt
own_low n k unknown_type o l = tt

own_all_low : (n k : ℕ) (ts : List StaticType) → AreAt IsOwnAt k ts → k + length ts ≤ n → Each (IsLow n) ts
own_all_low n k [] o l = tt
own_all_low n k (t ∷ ts) o l = (own_low n k t o.0 (omega (arith, l)), own_all_low n (suc k) ts o.1 (omega (arith, l)))

pub params_low : (tree : Tree) (u : TaskTree) → Each (IsLow (length u.params)) (param_types tree u)
params_low tree u = own_all_low (length u.params) 0 (param_types tree u) (params_own tree u) (omega (arith, types_many tree u))

-- ---- shapes where a body begins

module _ (way : Way) (n : ℕ) where
  low_numbered : (bs : List Bound) (t : StaticType) → IsLow n t → IsNumbered bs (shape_in way n t)
  low_numbered bs (region_type c sp args (term.Name i)) l = by way
    where
      by : (way : Way) → IsNumbered bs (shape_in way n (region_type c sp args (term.Name i)))
      by all_made = tt
      by (by_rules tops task) = subst (λ b. IsNumbered bs (region (Some sp) (cond b (origin_behind n i (tops task i)) (argument i)))) (sym (not_below n i l)) tt
  low_numbered bs (region_type c sp args (term.Child p q)) l = absurd l
  low_numbered bs (integer_type w) l = tt
  low_numbered bs truth_type l = tt
  low_numbered bs (index_type c) l = tt
  low_numbered bs (pointer_type c sp args rs) l = tt
  low_numbered bs (ispace_type c) l = tt
  low_numbered bs (partition_type d r p) l = tt
  low_numbered bs no_type l = tt
  low_numbered bs unknown_type l = tt

  -- no root was made under a number yet
  pub opening_numbered : (bs : List Bound) (ts : List StaticType) (blanks : ℕ) → Each (IsLow n) ts →
      Each (IsNumbered bs) (map (shape_in way n) ts ++ replicate blanks anything)
  opening_numbered bs [] zero l = tt
  opening_numbered bs [] (suc k) l = (tt, opening_numbered bs [] k l)
  opening_numbered bs (t ∷ ts) blanks l = (low_numbered bs t l.0, opening_numbered bs ts blanks l.1)

  -- and nothing is pending
  type_settled : (tree : Tree) (look : Looking) (i : ℕ) (t : TypeTerm) → Settled (shape_in way n (type_said tree look i t))
  type_settled tree look i (typing.Number number.Int32) = settled_number _ (numeric_integer _)
  type_settled tree look i (typing.Number number.Int64) = settled_number _ (numeric_integer _)
  type_settled tree look i (typing.Number (number.Index k)) = settled_number _ numeric_index
  type_settled tree look i typing.Truth = settled_number _ numeric_truth
  type_settled tree look i (typing.Pointer p) = settled_number _ (numeric_pointer _)
  type_settled tree look i (typing.Ispace k) = settled_space
  type_settled tree look i (typing.Region k u) = settled_region _ _
  type_settled tree look i (typing.Partition d r c) = settled_partition _ _

  all_settled : (k : ℕ) (ts : List StaticType) → AreAt (λ i t. Settled (shape_in way n t)) k ts → Each Settled (map (shape_in way n) ts)
  all_settled k [] h = tt
  all_settled k (t ∷ ts) h = (h.0, all_settled (suc k) ts h.1)

  pub params_settled : (tree : Tree) (u : TaskTree) → Each Settled (map (shape_in way n) (param_types tree u))
  params_settled tree u = all_settled 0 (param_types tree u)
      (names_at (λ i t. Settled (shape_in way n t)) tree u.params (type_settled tree (among_params u.params)) 0 u.params)

-- whatever is told of regions that began as parts, since parameters' did not
low_same : (tops : Tops) (task : TaskTree) (n : ℕ) (t : StaticType) → IsLow n t → shape_in (by_rules none_begun task) n t ≡ shape_in (by_rules tops task) n t
low_same tops task n (region_type c sp args (term.Name i)) l =
    ap (λ b. region (Some sp) (cond b (own_as i) (argument i))) (not_below n i l)
    ∙ sym (ap (λ b. region (Some sp) (cond b (origin_behind n i (tops task i)) (argument i))) (not_below n i l))
low_same tops task n (region_type c sp args (term.Child p q)) l = absurd l
low_same tops task n (integer_type w) l = refl
low_same tops task n truth_type l = refl
low_same tops task n (index_type c) l = refl
low_same tops task n (pointer_type c sp args rs) l = refl
low_same tops task n (ispace_type c) l = refl
low_same tops task n (partition_type d r p) l = refl
low_same tops task n no_type l = refl
low_same tops task n unknown_type l = refl

pub lows_same : (tops : Tops) (task : TaskTree) (n : ℕ) (ts : List StaticType) → Each (IsLow n) ts →
    map (shape_in (by_rules none_begun task) n) ts ≡ map (shape_in (by_rules tops task) n) ts
lows_same tops task n [] l = refl
lows_same tops task n (t ∷ ts) l = ap (λ s. s ∷ map (shape_in (by_rules none_begun task) n) ts) (low_same tops task n t l.0)
    ∙ ap (λ ss. shape_in (by_rules tops task) n t ∷ ss) (lows_same tops task n ts l.1)
