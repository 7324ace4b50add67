-- What a loop's variable, an element, a conversion and a partition are not, and the slots of two lists.
use Rattle.std.proofs.Common.{◌≡◌, ℕ, suc, ◌≤◌, List, [], ◌∷◌, ◌++◌, true, false, refl, arith}
use Rattle.std.proofs.lemmas.Bool.{false≢true}
use Rattle.regent_tree.specs.Syntax.{Expression, Name, Steps, access_expr, at_step, convert_expr, no_step}
use Rattle.regent_tree.specs.declared.types.Kind.{Kind}
use Rattle.regent_tree.specs.declared.types.NumberTerm.{NumberTerm}
use Rattle.regent_tree.specs.declared.typing.StaticType.{StaticType}
use Rattle.regent_tree.specs.declared.typing.StaticType.TheVariants as typing
use Rattle.regent_tree.specs.declared.typing.StaticType.TheVariants.{Index as index_type}
use Rattle.check_rules.specs.types.Sorts.{is_partition, is_region, is_unknown_type}
use Rattle.code_rules.specs.Used.{above_all}
use Rattle.code_laws.specs.Simple.{AreRegions, IsPartition, IsRegion, a_partition_type, a_region_type}
use Rattle.code_laws.proofs.Rows.{greatest_least, least_greatest}

pub no_region : (k : Kind) (p : StaticType) → AreRegions (index_type k) p → ⊥
no_region k p a = absurd (elim a [ ])

pub no_cut : (k : Kind) → IsPartition (index_type k) → ⊥
no_cut k a = absurd (elim a [ ])

pub cut_no_region : (t : StaticType) → is_partition t ≡ true → is_region t ≡ false
cut_no_region (typing.Region k sp args r) e = absurd (false≢true e)
cut_no_region _ e = refl

pub unknown_no_region : (t : StaticType) → is_unknown_type t ≡ true → is_region t ≡ false
unknown_no_region (typing.Region k sp args r) e = absurd (false≢true e)
unknown_no_region _ e = refl

pub a_region_is : (t : StaticType) → IsRegion t → is_region t ≡ true
a_region_is _ (a_region_type k sp args r) = refl

pub no_region_type : (k : Kind) → IsRegion (index_type k) → ⊥
no_region_type k a = absurd (elim a [ ])

pub cut_known : (t : StaticType) → IsPartition t → is_unknown_type t ≡ false
cut_known _ (a_partition_type d r own) = refl

-- an element is no name
pub step_no_name : (n : Name) (e : Expression) (m : Name) → access_expr n (at_step e no_step) ≡ access_expr m no_step → ⊥
step_no_name n e m q = absurd cc

pub name_no_step : (n m : Name) (e : Expression) → access_expr n no_step ≡ access_expr m (at_step e no_step) → ⊥
name_no_step n m e q = absurd cc

pub conversion_no_access : (t : NumberTerm) (e : Expression) (m : Name) (steps : Steps) → convert_expr t e ≡ access_expr m steps → ⊥
conversion_no_access t e m steps q = absurd cc

-- the slots of two lists
pub above_parts : (xs ys : List ℕ) (n : ℕ) → above_all (xs ++ ys) ≤ n → (above_all xs ≤ n) × (above_all ys ≤ n)
above_parts [] ys n l = (omega arith, l)
above_parts (a ∷ xs) ys n l =
    let p = greatest_least (suc a) (above_all (xs ++ ys)) n l in
    let q = above_parts xs ys n p.1 in
    (least_greatest (suc a) (above_all xs) n p.0 q.0, q.1)
