-- What is told of no breach of literals, prefixes and operators, and the limits of parts.
use Rattle.std.proofs.Common.{◌≡◌, Bool, List, [], ◌∷◌, ◌++◌, None, false, true, refl, ap, subst, inr, not, cond, suc, ◌+◌, ◌<◌, length, arith}
use Rattle.std.specs.Prelude.{◌||◌}
use Rattle.std.specs.List.{list_any, position_or_len}
use Rattle.regent_tree.specs.StaticTypes.{number_type}
use Rattle.regent_tree.specs.declared.expression.Operator.{Operator}
use Rattle.regent_tree.specs.declared.facts.Known.{Known}
use Rattle.std.proofs.lemmas.Bool.{not-false}
use Rattle.lane_kernels.specs.declared.numbers.Width.TheVariants.{W32, W64}
use Rattle.plain_values.proofs.Plain.{option_or_parts}
use Rattle.regent_tree.specs.Limits.{KeepsLimit, Part}
use Rattle.regent_tree.specs.Typing.{signed_type}
use Rattle.regent_tree.specs.declared.expression.Sign.{Sign}
use Rattle.regent_tree.specs.declared.expression.Sign.TheVariants.{Minus, Not}
use Rattle.regent_tree.specs.declared.types.NumberTerm.{NumberTerm}
use Rattle.regent_tree.specs.declared.types.NumberTerm.TheVariants as number
use Rattle.regent_tree.specs.declared.typing.Bound.{Bound}
use Rattle.regent_tree.specs.declared.typing.StaticType.{StaticType}
use Rattle.regent_tree.specs.declared.typing.StaticType.TheVariants.{Integer as integer_type, Truth as truth_type}
use Rattle.regent_tree.proofs.Members.{Has, Has-append_left, Has-append_right}
use Rattle.check_rules.specs.first.FirstInExpressions.{first_of_operator, first_of_signs, first_of_standing}
use Rattle.check_rules.specs.rules.Standing.{Spot, number_spot, spot_of_sign, stands, truth_spot}
use Rattle.check_rules.specs.rules.Types.{is_ill_typed_operation, may_stand, operates_on}
use Rattle.check_rules.specs.types.KnownTypes.{known_type_after_sign, known_type_after_signs}
use Rattle.check_rules.specs.types.TypedForms.{computing}
use Rattle.check_rules.specs.declared.rule.Rule.TheVariants as rule
use Rattle.check_rules.proofs.Untold.{rule_none, standing_none}
use Rattle.code_laws.specs.Simple.{IsIntegerTerm, IsScalar, SignsFit, minus_before, not_before, of_a_truth, of_an_integer, scalar_integer, scalar_truth, term_32, term_64}
use Rattle.scalar_form.specs.ScalarForm.{is_scalar_number}

-- ---- types

pub no_way : true ≡ false → ⊥
no_way e = absurd cc

pub no_way_back : false ≡ true → ⊥
no_way_back e = absurd cc

-- ---- names

abbrev pub AllScalar : List Bound → Type 0
AllScalar [] = Unit {0}
AllScalar (b ∷ bs) = IsScalar b.static_type × AllScalar bs

-- ---- literals

-- each part keeps its limit
abbrev pub AreKept : List Part → Type 0
AreKept ps = (p : Part) → Has ps p → KeepsLimit p

pub kept_left : (ps qs : List Part) → AreKept (ps ++ qs) → AreKept ps
kept_left ps qs k p h = k p (Has-append_left ps qs p h)

pub kept_right : (ps qs : List Part) → AreKept (ps ++ qs) → AreKept qs
kept_right ps qs k p h = k p (Has-append_right ps qs p h)

pub kept_behind : (p : Part) (ps : List Part) → AreKept (p ∷ ps) → AreKept ps
kept_behind p ps k q h = k q (inr h)

-- ---- what stands somewhere

-- where nothing is told of a type at a place, it may stand there
pub stands_well : (known : List Known) (t : StaticType) (p : Spot) → first_of_standing known (stands t p) ≡ None →
    may_stand known (stands t p) ≡ true
stands_well known t p e = not-false _ (standing_none known (stands t p) e).1

-- ---- prefixes

signs_same : (t : StaticType) (signs : List Sign) → SignsFit t signs → known_type_after_signs signs t ≡ t
signs_same _ _ of_a_truth = refl
signs_same _ _ (of_an_integer w) = refl
signs_same _ _ (not_before ss fit) = ap (known_type_after_sign Not) (signs_same truth_type ss fit)
signs_same _ _ (minus_before w ss fit) = ap (known_type_after_sign Minus) (signs_same (integer_type w) ss fit)

no_signs : (t : StaticType) → IsScalar t → SignsFit t []
no_signs _ (scalar_integer w) = of_an_integer w
no_signs _ scalar_truth = of_a_truth

one_sign : (t : StaticType) (sign : Sign) (signs : List Sign) → IsScalar t → SignsFit t signs →
    first_of_standing [] (stands t (spot_of_sign sign)) ≡ None → SignsFit t (sign ∷ signs)
one_sign _ Not signs (scalar_integer w) fit e = absurd (no_way_back (stands_well [] (integer_type w) truth_spot e))
one_sign _ Not signs scalar_truth fit e = not_before signs fit
one_sign _ Minus signs (scalar_integer w) fit e = minus_before w signs fit
one_sign _ Minus signs scalar_truth fit e = absurd (no_way_back (stands_well [] truth_type number_spot e))

pub signs_fit : (t : StaticType) (signs : List Sign) → IsScalar t → first_of_signs signs t ≡ None → SignsFit t signs
signs_fit t [] scalar e = no_signs t scalar
signs_fit t (sign ∷ signs) scalar e =
    let told = option_or_parts (first_of_signs signs t) _ e in
    let fit = signs_fit t signs scalar told.0 in
    one_sign t sign signs scalar fit
    (subst (λ u. first_of_standing [] (stands u (spot_of_sign sign)) ≡ None) (signs_same t signs fit) told.1)

pub signed_scalar : (t : StaticType) (signs : List Sign) → SignsFit t signs → IsScalar (signed_type signs t)
signed_scalar _ _ of_a_truth = scalar_truth
signed_scalar _ _ (of_an_integer w) = scalar_integer w
signed_scalar _ _ (not_before ss fit) = scalar_truth
signed_scalar _ _ (minus_before w ss fit) = scalar_integer w

-- ---- conversions and operators

pub integer_term : (t : NumberTerm) → is_scalar_number t ≡ true → IsIntegerTerm t
integer_term number.Int32 e = term_32
integer_term number.Int64 e = term_64
integer_term (number.Index k) e = absurd (no_way_back e)

pub number_scalar : (t : NumberTerm) → IsIntegerTerm t → IsScalar (number_type t)
number_scalar _ term_32 = scalar_integer W32
number_scalar _ term_64 = scalar_integer W64

pub operates : (o : Operator) (t u : StaticType) → first_of_operator (computing o t u) ≡ None →
    operates_on o t u ≡ true
operates o t u e =
    let told = option_or_parts _ _ e in
    let ill = rule_none (is_ill_typed_operation (computing o t u)) rule.Type (option_or_parts _ _ told.1).0 in
    not-false (operates_on o t u) ill

-- ---- lists

-- the first that passes is one of them
pub first_below : {A : Type 0} (p : A → Bool) (xs : List A) → list_any p xs ≡ true → position_or_len p xs < length xs
first_below p [] e = absurd (no_way_back e)
first_below p (x ∷ xs) e = chosen (p x) e (first_below p xs)
  where
    chosen : (b : Bool) → (b || list_any p xs) ≡ true → (list_any p xs ≡ true → position_or_len p xs < length xs) →
        cond (not b) (1 + position_or_len p xs) 0 < suc (length xs)
    chosen true e more = omega (arith)
    chosen false e more = omega (arith, more e)
