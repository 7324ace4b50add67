-- Numbers, truths, indices and index spaces where nothing is told of their types.
use Rattle.std.proofs.Common.{◌≡◌, Bool, List, false, true, refl, sym, subst, map, ℕ, not, inl, inr, ◌⊎◌, ⊎_elim}
use Rattle.std.specs.Prelude.{◌||◌, ◌&&◌, ◌==◌}
use Rattle.std.proofs.lemmas.Bool.{and_parts, eqb-true, not-false}
use Rattle.regent_tree.specs.StaticTypes.{Reach, Looking, kind_said, type_said}
use Rattle.regent_tree.specs.Syntax.{Tree}
use Rattle.regent_tree.specs.Typing.{are_pointers, counting_as, operated, owned, put}
use Rattle.regent_tree.specs.declared.expression.Arithmetic.{Arithmetic}
use Rattle.regent_tree.specs.declared.expression.Comparison.{Comparison}
use Rattle.regent_tree.specs.declared.expression.Comparison.TheVariants as comparison
use Rattle.regent_tree.specs.declared.expression.Operator.TheVariants.{Compute}
use Rattle.regent_tree.specs.declared.facts.Known.{Known}
use Rattle.regent_tree.specs.declared.types.Kind.{Kind}
use Rattle.regent_tree.specs.declared.types.NumberTerm.TheVariants as number
use Rattle.regent_tree.specs.declared.types.TypeTerm.{TypeTerm}
use Rattle.regent_tree.specs.declared.types.TypeTerm.TheVariants as term
use Rattle.regent_tree.specs.declared.typing.StaticType.{StaticType}
use Rattle.regent_tree.specs.declared.typing.StaticType.TheVariants.{Index as index_type, Region as region_type, Ispace as ispace_type, Pointer as pointer_type, Partition as partition_type}
use Rattle.check_rules.specs.rules.Standing.{param_spot, stands}
use Rattle.check_rules.specs.rules.Types.{compares_with, computes_with, has_equality_with, has_order_with, may_stand}
use Rattle.check_rules.specs.rules.Spaces.{differs}
use Rattle.check_rules.specs.types.Fitting.{fits, is_region_like}
use Rattle.check_rules.specs.types.Sorts.{is_integer, is_number, is_partition, is_region, is_space, is_truth, is_unknown_type, may_be, same_kind}
use Rattle.code_laws.specs.Simple.{AreAlike, AreComparable, AreRegions, FieldFits, IsInteger, IsNumber, IsRegion, IsScalar, IsSimple, IsSpace, IsTruth, a_region_type, a_space_type, a_truth_type, an_integer, compare_numbers, compare_truths, fits_32, fits_64, fits_truth, number_index, number_integer, scalar_integer, scalar_truth, simple_index, simple_integer, simple_space, simple_truth, two_integers, two_regions, two_truths}
use Rattle.scalar_form.specs.ScalarForm.{is_scalar_term}
use Rattle.code_laws.proofs.Typing.{no_way_back}

-- ---- what may be of a sort is of it

pub simple_as_integer : (t : StaticType) → IsSimple t → may_be is_integer t ≡ true → IsInteger t
simple_as_integer _ (simple_integer w) e = an_integer w
simple_as_integer _ simple_truth e = absurd (no_way_back e)
simple_as_integer _ (simple_space k) e = absurd (no_way_back e)
simple_as_integer _ (simple_index k) e = absurd (no_way_back e)

pub simple_as_truth : (t : StaticType) → IsSimple t → may_be is_truth t ≡ true → IsTruth t
simple_as_truth _ (simple_integer w) e = absurd (no_way_back e)
simple_as_truth _ simple_truth e = a_truth_type
simple_as_truth _ (simple_space k) e = absurd (no_way_back e)
simple_as_truth _ (simple_index k) e = absurd (no_way_back e)

pub simple_as_number : (t : StaticType) → IsSimple t → may_be is_number t ≡ true → IsNumber t
simple_as_number _ (simple_integer w) e = number_integer w
simple_as_number _ simple_truth e = absurd (no_way_back e)
simple_as_number _ (simple_space k) e = absurd (no_way_back e)
simple_as_number _ (simple_index k) e = number_index k

pub simple_as_space : (t : StaticType) → IsSimple t → may_be is_space t ≡ true → IsSpace t
simple_as_space _ (simple_integer w) e = absurd (no_way_back e)
simple_as_space _ simple_truth e = absurd (no_way_back e)
simple_as_space _ (simple_space k) e = a_space_type k
simple_as_space _ (simple_index k) e = absurd (no_way_back e)

pub simple_as_domain : (t : StaticType) → IsSimple t → may_be (λ u. is_region u || is_space u) t ≡ true → IsSpace t
simple_as_domain _ (simple_integer w) e = absurd (no_way_back e)
simple_as_domain _ simple_truth e = absurd (no_way_back e)
simple_as_domain _ (simple_space k) e = a_space_type k
simple_as_domain _ (simple_index k) e = absurd (no_way_back e)

pub number_is : (t : StaticType) → IsNumber t → is_number t ≡ true
number_is _ (number_integer w) = refl
number_is _ (number_index k) = refl

pub simple_known : (t : StaticType) → IsSimple t → is_unknown_type t ≡ false
simple_known _ (simple_integer w) = refl
simple_known _ simple_truth = refl
simple_known _ (simple_space k) = refl
simple_known _ (simple_index k) = refl

pub owned_simple : (n : ℕ) (t : StaticType) → IsSimple t → owned n t ≡ t
owned_simple n _ (simple_integer w) = refl
owned_simple n _ simple_truth = refl
owned_simple n _ (simple_space k) = refl
owned_simple n _ (simple_index k) = refl

pub simple_no_partition : (t : StaticType) → IsSimple t → may_be is_partition t ≡ false
simple_no_partition _ (simple_integer w) = refl
simple_no_partition _ simple_truth = refl
simple_no_partition _ (simple_space k) = refl
simple_no_partition _ (simple_index k) = refl

pub simple_is_no_region : (t : StaticType) → IsSimple t → may_be is_region t ≡ false
simple_is_no_region _ (simple_integer w) = refl
simple_is_no_region _ simple_truth = refl
simple_is_no_region _ (simple_space k) = refl
simple_is_no_region _ (simple_index k) = refl

-- ---- what fits a number or truth

pub simple_fitting : (known : List Known) (t wanted : StaticType) → IsSimple t → IsScalar wanted → fits known t wanted ≡ true → AreAlike t wanted
simple_fitting known _ _ (simple_integer v) (scalar_integer w) e = two_integers v w
simple_fitting known _ _ (simple_integer v) scalar_truth e = absurd (no_way_back e)
simple_fitting known _ _ simple_truth (scalar_integer w) e = absurd (no_way_back e)
simple_fitting known _ _ simple_truth scalar_truth e = two_truths
simple_fitting known _ _ (simple_space k) (scalar_integer w) e = absurd (no_way_back e)
simple_fitting known _ _ (simple_space k) scalar_truth e = absurd (no_way_back e)
simple_fitting known _ _ (simple_index k) (scalar_integer w) e = absurd (no_way_back e)
simple_fitting known _ _ (simple_index k) scalar_truth e = absurd (no_way_back e)

pub param_fitting : (known : List Known) (t wanted : StaticType) → IsSimple t → IsScalar wanted →
    may_stand known (stands t (param_spot wanted)) ≡ true → AreAlike t wanted
param_fitting known _ _ (simple_integer v) (scalar_integer w) e = two_integers v w
param_fitting known _ _ (simple_integer v) scalar_truth e = absurd (no_way_back e)
param_fitting known _ _ simple_truth (scalar_integer w) e = absurd (no_way_back e)
param_fitting known _ _ simple_truth scalar_truth e = two_truths
param_fitting known _ _ (simple_space k) (scalar_integer w) e = absurd (no_way_back e)
param_fitting known _ _ (simple_space k) scalar_truth e = absurd (no_way_back e)
param_fitting known _ _ (simple_index k) (scalar_integer w) e = absurd (no_way_back e)
param_fitting known _ _ (simple_index k) scalar_truth e = absurd (no_way_back e)

-- a number or truth, or a region, is taken by a parameter, and an index, an index space, a pointer or a partition where these are kept
pub data IsTakable (keeping : Bool) : StaticType → Type 0 where
  takable_scalar : (t : StaticType) → IsScalar t → IsTakable keeping t
  takable_region : (t : StaticType) → IsRegion t → IsTakable keeping t
  takable_index : (k : Kind) → keeping ≡ true → IsTakable keeping (index_type k)
  takable_space : (k : Kind) → keeping ≡ true → IsTakable keeping (ispace_type k)
  takable_pointer : (k : Kind) (sp : ℕ) (args rs : List Reach) → keeping ≡ true → IsTakable keeping (pointer_type k sp args rs)
  takable_partition : (d : Bool) (r p : ℕ) → keeping ≡ true → IsTakable keeping (partition_type d r p)

-- neither fits where the other is wanted
pub simple_for_region : (known : List Known) (t wanted : StaticType) → IsSimple t → IsRegion wanted →
    may_stand known (stands t (param_spot wanted)) ≡ true → ⊥
simple_for_region known _ _ (simple_integer v) (a_region_type k sp args r) e = no_way_back e
simple_for_region known _ _ simple_truth (a_region_type k sp args r) e = no_way_back e
simple_for_region known _ _ (simple_space j) (a_region_type k sp args r) e = no_way_back e
simple_for_region known _ _ (simple_index j) (a_region_type k sp args r) e = no_way_back e

-- a region of a parameter's kind and field space
pub regions_alike : (types : List StaticType) (p t : StaticType) → IsRegion p → IsRegion t → (is_region p && differs types p t) ≡ false →
    AreRegions t p
regions_alike types _ _ (a_region_type k sp args r) (a_region_type j u others q) e =
    let same = and_parts (same_kind k j && (sp == u)) _ (not-false (is_region_like k sp (map (put types) args) (region_type j u others q)) e) in
    let space : sp ≡ u = eqb-true sp u (and_parts (same_kind k j) (sp == u) same.0).1 in
    subst (λ n. AreRegions (region_type j u others q) (region_type k n args r)) (sym space) (two_regions j k u others args q r)

-- ---- written numbers and truths

pub term_scalar : (t : TypeTerm) → is_scalar_term t ≡ true → (tree : Tree) (look : Looking) (own : ℕ) → IsScalar (type_said tree look own t)
term_scalar (term.Number number.Int32) e tree look own = scalar_integer _
term_scalar (term.Number number.Int64) e tree look own = scalar_integer _
term_scalar (term.Number (number.Index k)) e tree look own = absurd (no_way_back e)
term_scalar term.Truth e tree look own = scalar_truth
term_scalar (term.Pointer p) e tree look own = absurd (no_way_back e)
term_scalar (term.Ispace k) e tree look own = absurd (no_way_back e)
term_scalar (term.Region k u) e tree look own = absurd (no_way_back e)
term_scalar (term.Partition d r c) e tree look own = absurd (no_way_back e)

-- a field keeps what its type says
pub term_fits : (t : TypeTerm) → is_scalar_term t ≡ true → (tree : Tree) (look : Looking) (own : ℕ) → FieldFits (kind_said t) (type_said tree look own t)
term_fits (term.Number number.Int32) e tree look own = fits_32
term_fits (term.Number number.Int64) e tree look own = fits_64
term_fits (term.Number (number.Index k)) e tree look own = absurd (no_way_back e)
term_fits term.Truth e tree look own = fits_truth
term_fits (term.Pointer p) e tree look own = absurd (no_way_back e)
term_fits (term.Ispace k) e tree look own = absurd (no_way_back e)
term_fits (term.Region k u) e tree look own = absurd (no_way_back e)
term_fits (term.Partition d r c) e tree look own = absurd (no_way_back e)

-- ---- operators

simple_truths : (t u : StaticType) → IsSimple t → IsSimple u → (may_be is_truth t && may_be is_truth u) ≡ true → IsTruth t × IsTruth u
simple_truths t u a b e =
    let p = and_parts (may_be is_truth t) (may_be is_truth u) e in
    (simple_as_truth t a p.0, simple_as_truth u b p.1)

compare_both : (t u : StaticType) → IsTruth t → IsTruth u → AreComparable t u
compare_both _ _ a_truth_type a_truth_type = compare_truths

-- of two truths one is
pub either : (x y : Bool) → (x || y) ≡ true → (x ≡ true) ⊎ (y ≡ true)
either true y e = inl refl
either false y e = inr e

simple_ordered : (t u : StaticType) → IsSimple t → IsSimple u → has_order_with t u ≡ true → AreComparable t u
simple_ordered t u a b e =
    let p = and_parts (may_be is_number t) (may_be is_number u) (and_parts (may_be is_number t && may_be is_number u) (not (are_pointers t u)) e).0 in
    compare_numbers t u (simple_as_number t a p.0) (simple_as_number u b p.1)

simple_equal : (t u : StaticType) → IsSimple t → IsSimple u → has_equality_with t u ≡ true → AreComparable t u
simple_equal t u a b e = ⊎_elim
    (λ h. let p = and_parts (may_be is_number t) (may_be is_number u) h in
    compare_numbers t u (simple_as_number t a p.0) (simple_as_number u b p.1))
    (λ h. let p = simple_truths t u a b h in compare_both t u p.0 p.1)
    (either (may_be is_number t && may_be is_number u) (may_be is_truth t && may_be is_truth u) e)

pub simple_compared : (c : Comparison) (t u : StaticType) → IsSimple t → IsSimple u → compares_with c t u ≡ true → AreComparable t u
simple_compared comparison.Equal t u a b e = simple_equal t u a b e
simple_compared comparison.NotEqual t u a b e = simple_equal t u a b e
simple_compared comparison.Less t u a b e = simple_ordered t u a b e
simple_compared comparison.AtMost t u a b e = simple_ordered t u a b e
simple_compared comparison.Greater t u a b e = simple_ordered t u a b e
simple_compared comparison.AtLeast t u a b e = simple_ordered t u a b e

pub simple_computed : (t u : StaticType) → IsSimple t → IsSimple u → computes_with (counting_as t) (counting_as u) ≡ true → IsNumber t × IsNumber u
simple_computed _ _ (simple_integer v) (simple_integer w) e = (number_integer v, number_integer w)
simple_computed _ _ (simple_integer v) (simple_index k) e = (number_integer v, number_index k)
simple_computed _ _ (simple_integer v) simple_truth e = absurd (no_way_back e)
simple_computed _ _ (simple_integer v) (simple_space k) e = absurd (no_way_back e)
simple_computed _ _ (simple_index j) (simple_integer w) e = (number_index j, number_integer w)
simple_computed _ _ (simple_index j) (simple_index k) e = (number_index j, number_index k)
simple_computed _ _ (simple_index j) simple_truth e = absurd (no_way_back e)
simple_computed _ _ (simple_index j) (simple_space k) e = absurd (no_way_back e)
simple_computed _ u simple_truth b e = absurd (no_way_back e)
simple_computed _ u (simple_space k) b e = absurd (no_way_back e)

pub operated_simple : (o : Arithmetic) (t u : StaticType) → IsNumber t → IsNumber u → IsSimple (operated (Compute o) t u)
operated_simple o _ _ (number_integer v) (number_integer w) = simple_integer _
operated_simple o _ _ (number_integer v) (number_index k) = simple_index k
operated_simple o _ u (number_index k) b = simple_index k
