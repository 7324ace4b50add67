-- Parts of expressions and statements.
use Rattle.std.proofs.Common.{◌≡◌, Bool, List, [], ◌∷◌, ◌++◌, None, Option, Some, false, true, ap, sym, subst, ◌∙◌, inl, refl}
use Rattle.std.proofs.lemmas.Bool.{and_parts}
use Rattle.std.specs.List.{list_all}
use Rattle.std.specs.Prelude.{cond, is_some, ◌||◌, is_none, ◌&&◌}
use Rattle.lane_kernels.specs.declared.numbers.Width.TheVariants.{W32, W64}
use Rattle.regent_tree.proofs.Members.{Has}
use Rattle.regent_tree.specs.Accesses.{space_in}
use Rattle.regent_tree.specs.StaticTypes.{field_place}
use Rattle.regent_tree.specs.Syntax.{Expression, Name, Tree, access_expr, cast_expr, null_expr}
use Rattle.regent_tree.specs.Typing.{result_type, put_in}
use Rattle.regent_tree.specs.declared.types.NumberTerm.TheVariants as number
use Rattle.regent_tree.specs.declared.types.TypeTerm.{TypeTerm}
use Rattle.regent_tree.specs.declared.types.TypeTerm.TheVariants as term
use Rattle.regent_tree.specs.declared.typing.StaticType.TheVariants.{Nothing as no_type}
use Rattle.regent_tree.specs.declared.typing.StaticType.{StaticType}
use Rattle.regent_tree.specs.declared.rights.Access.{Access}
use Rattle.check_rules.specs.rules.Privileges.{wanted_of_region, wanting}
use Rattle.check_rules.specs.types.Lookup.{region_has}
use Rattle.check_rules.specs.types.Sorts.{is_number, is_truth}
use Rattle.code_laws.proofs.Typing.{no_way, no_way_back}
use Rattle.code_laws.specs.Pointers.{HasZero, zero_index, zero_scalar}
use Rattle.code_laws.specs.Simple.{IsRegion, IsScalar, a_region_type, scalar_integer, scalar_truth, term_in}
use Rattle.check_rules.specs.types.Declarations.{is_no_result_type}

-- a result that is there
pub given_result : (tree : Tree) (r : Option TypeTerm) → is_no_result_type r ≡ false → is_none r ≡ false → HasZero (result_type tree r)
given_result tree None s e = absurd (no_way e)
given_result tree (Some (term.Number number.Int32)) s e = zero_scalar _ (scalar_integer W32)
given_result tree (Some (term.Number number.Int64)) s e = zero_scalar _ (scalar_integer W64)
given_result tree (Some (term.Number (number.Index k))) s e = zero_index k
given_result tree (Some term.Truth) s e = zero_scalar _ scalar_truth
given_result tree (Some (term.Pointer p)) s e = absurd (no_way s)
given_result tree (Some (term.Ispace k)) s e = absurd (no_way s)
given_result tree (Some (term.Region k u)) s e = absurd (no_way s)
given_result tree (Some (term.Partition d r c)) s e = absurd (no_way s)

-- of two that aren't both so, the second where the first is
pub and_then : (a b : Bool) → a ≡ true → (a && b) ≡ false → b ≡ false
and_then a b h e = sym (ap (λ x. x && b) h) ∙ e

-- a number or truth parameter is the same with all arguments
pub put_scalar : (types : List StaticType) (p : StaticType) → IsScalar p → put_in types p ≡ p
put_scalar types _ (scalar_integer w) = refl
put_scalar types _ scalar_truth = refl

-- an access, null, or what is cast
abbrev pub is_pointing : Expression → Bool
is_pointing (access_expr n steps) = true
is_pointing (null_expr t) = true
is_pointing (cast_expr t e) = true
is_pointing e = false

-- a region's type is the same with all arguments
pub put_region : (types : List StaticType) (p : StaticType) → IsRegion p → put_in types p ≡ p
put_region types _ (a_region_type k sp args r) = refl

-- a task without a result gives no number, truth or index
zero_there : (t : StaticType) → HasZero t → (is_number t || is_truth t) ≡ true
zero_there _ (zero_scalar _ (scalar_integer w)) = refl
zero_there _ (zero_scalar _ scalar_truth) = refl
zero_there _ (zero_index k) = refl

pub none_given : (tree : Tree) (r : Option TypeTerm) → is_some r ≡ false → HasZero (result_type tree r) → ⊥
none_given tree None e s = no_way_back (zero_there no_type s)
none_given tree (Some t) e s = no_way e

-- what is wanted of a region's field
pub region_wants : (tree : Tree) (a : Access) (u : StaticType) (f : Name) → IsRegion u → region_has tree u f ≡ true →
    Has (wanted_of_region tree a u f) (wanting (field_place tree (space_in u) f) a (term_in u))
region_wants tree a _ f (a_region_type k sp args r) has =
    subst (λ b. Has (cond b (wanting (field_place tree sp f) a r ∷ []) []) (wanting (field_place tree sp f) a r)) (sym has) (inl refl)

-- what holds of all of two lists holds of the second
pub all_behind : {A : Type 0} (test : A → Bool) (xs ys : List A) → list_all test (xs ++ ys) ≡ true → list_all test ys ≡ true
all_behind test [] ys e = e
all_behind test (x ∷ xs) ys e = all_behind test xs ys (and_parts (test x) (list_all test (xs ++ ys)) e).1
