-- Prefixes before numbers and truths, and before what counts as a number, of which no breach is told.
use Rattle.std.proofs.Common.{◌≡◌, Bool, List, [], ◌∷◌, None, false, true, refl, sym, subst, ℕ}
use Rattle.plain_values.proofs.Plain.{option_or_parts}
use Rattle.regent_tree.specs.StaticTypes.{Reach}
use Rattle.regent_tree.specs.Syntax.{Expression, TaskTree, prefix_expr}
use Rattle.regent_tree.specs.Typing.{counting_as, signed_type}
use Rattle.regent_tree.specs.declared.expression.Sign.{Sign}
use Rattle.regent_tree.specs.declared.expression.Sign.TheVariants.{Minus, Not}
use Rattle.regent_tree.specs.declared.types.Kind.{Kind}
use Rattle.regent_tree.specs.declared.typing.Bound.{Bound}
use Rattle.regent_tree.specs.declared.typing.StaticType.{StaticType}
use Rattle.regent_tree.specs.declared.typing.StaticType.TheVariants.{Index as index_type, Ispace as ispace_type, Pointer as pointer_type}
use Rattle.check_laws.specs.SoundScopes.{IsSoundScope}
use Rattle.check_rules.specs.first.FirstInExpressions.{first_of_signs, first_of_standing}
use Rattle.check_rules.specs.rules.Standing.{number_spot, spot_of_sign, stands, truth_spot}
use Rattle.check_rules.specs.scopes.Sound.{IsSound, IsSoundTask}
use Rattle.check_rules.specs.types.KnownTypes.{known_type_after_sign, known_type_after_signs}
use Rattle.code_rules.specs.Slots.{Where, typed}
use Rattle.code_laws.specs.WrittenForms.{has_sign}
use Rattle.code_laws.specs.Pointers.{AllMinus, HasSigns, IsCounting, SignedAs, counts_number, counts_pointer, signs_counted, signs_plain}
use Rattle.code_laws.specs.Simple.{IsScalar, IsSimple, number_index, scalar_integer, scalar_truth, simple_index, simple_integer, simple_space, simple_truth}
use Rattle.code_laws.proofs.KnownHeads.{KnowsHead}
use Rattle.code_laws.proofs.LocalNames.{AllKept, IsLocalTree}
use Rattle.code_laws.proofs.LocalPoints.{IsWell, simple_well}
use Rattle.code_laws.proofs.LocalValues.{IsValue, value_pointer, value_simple}
use Rattle.code_laws.proofs.Typing.{no_way_back, signed_scalar, signs_fit, stands_well}
use Rattle.code_laws.proofs.Values.{scalar_simple}
use Rattle.code_laws.proofs.LocalTaken.{IsCollection, collected_number, collected_truth}

-- ---- what counts as an index

data CountsAsIndex (k : Kind) : StaticType → Type 0 where
  counts_index : CountsAsIndex k (index_type k)
  counts_pointed : (sp : ℕ) (args rs : List Reach) → CountsAsIndex k (pointer_type k sp args rs)

one_minus : (k : Kind) (sign : Sign) (signs : List Sign) (u : StaticType) → CountsAsIndex k u → AllMinus signs →
    first_of_standing [] (stands u (spot_of_sign sign)) ≡ None → AllMinus (sign ∷ signs) × CountsAsIndex k (known_type_after_sign sign u)
one_minus k Minus signs _ counts_index a e = (a, counts_index)
one_minus k Minus signs _ (counts_pointed sp args rs) a e = (a, counts_index)
one_minus k Not signs _ counts_index a e = absurd (no_way_back (stands_well [] (index_type k) truth_spot e))
one_minus k Not signs _ (counts_pointed sp args rs) a e = absurd (no_way_back (stands_well [] (pointer_type k sp args rs) truth_spot e))

-- no other prefix than a minus stands before it
minus_alone : (k : Kind) (t : StaticType) → CountsAsIndex k t → (signs : List Sign) → first_of_signs signs t ≡ None →
    AllMinus signs × CountsAsIndex k (known_type_after_signs signs t)
minus_alone k t c [] e = (tt, c)
minus_alone k t c (sign ∷ signs) e =
    let told = option_or_parts (first_of_signs signs t) _ e in
    let more = minus_alone k t c signs told.0 in
    one_minus k sign signs (known_type_after_signs signs t) more.1 more.0 told.1

counted_type : (k : Kind) (t : StaticType) → CountsAsIndex k t → counting_as t ≡ index_type k
counted_type k _ counts_index = refl
counted_type k _ (counts_pointed sp args rs) = refl

counted_signs : (k : Kind) (t : StaticType) → CountsAsIndex k t → IsCounting t → (signs : List Sign) → has_sign signs ≡ true →
    first_of_signs signs t ≡ None → HasSigns t signs × (signed_type signs t ≡ index_type k)
counted_signs k t c n [] some e = absurd (no_way_back some)
counted_signs k t c n (Minus ∷ ss) some e = (signs_counted t ss n (minus_alone k t c (Minus ∷ ss) e).0, counted_type k t c)
counted_signs k t c n (Not ∷ ss) some e = absurd (minus_alone k t c (Not ∷ ss) e).0

-- none stands before an index space
one_space : (k : Kind) (sign : Sign) → first_of_standing [] (stands (ispace_type k) (spot_of_sign sign)) ≡ None → ⊥
one_space k Minus e = no_way_back (stands_well [] (ispace_type k) number_spot e)
one_space k Not e = no_way_back (stands_well [] (ispace_type k) truth_spot e)

no_space : (k : Kind) (signs : List Sign) → has_sign signs ≡ true → first_of_signs signs (ispace_type k) ≡ None → ⊥
no_space k [] some e = no_way_back some
no_space k (sign ∷ []) some e = one_space k sign (option_or_parts (first_of_signs [] (ispace_type k)) _ e).1
no_space k (sign ∷ (s ∷ ss)) some e = no_space k (s ∷ ss) refl (option_or_parts (first_of_signs (s ∷ ss) (ispace_type k)) _ e).0

-- nor before a region or a partition
one_collected : (t : StaticType) (sign : Sign) → IsCollection t → first_of_standing [] (stands t (spot_of_sign sign)) ≡ None → ⊥
one_collected t Minus c e = collected_number t c (stands_well [] t number_spot e)
one_collected t Not c e = collected_truth t c (stands_well [] t truth_spot e)

pub none_collected : (t : StaticType) → IsCollection t → (signs : List Sign) → has_sign signs ≡ true → first_of_signs signs t ≡ None → ⊥
none_collected t c [] some e = no_way_back some
none_collected t c (sign ∷ []) some e = one_collected t sign c (option_or_parts (first_of_signs [] t) _ e).1
none_collected t c (sign ∷ (s ∷ ss)) some e = none_collected t c (s ∷ ss) refl (option_or_parts (first_of_signs (s ∷ ss) t) _ e).0

-- ---- values

record IsSigned (b : Bool) (t : StaticType) (signs : List Sign) : Type 0 where
  fits : SignedAs b t signs
  simple : IsSimple (signed_type signs t)

scalar_signed : (t : StaticType) (signs : List Sign) → IsScalar t → first_of_signs signs t ≡ None → IsSigned true t signs
scalar_signed t signs a e =
    let fit = signs_fit t signs a e in
    record { fits = signs_plain t signs fit; simple = scalar_simple (signed_type signs t) (signed_scalar t signs fit) }

value_signed : (b : Bool) (bs : List Bound) (t : StaticType) (signs : List Sign) → b ≡ true → has_sign signs ≡ true → IsValue b bs t →
    first_of_signs signs t ≡ None → IsSigned b t signs
value_signed false bs t signs q some a e = absurd (no_way_back q)
value_signed true bs _ signs q some (value_simple _ (simple_integer v)) e = scalar_signed _ signs (scalar_integer v) e
value_signed true bs _ signs q some (value_simple _ simple_truth) e = scalar_signed _ signs scalar_truth e
value_signed true bs _ signs q some (value_simple _ (simple_space k)) e = absurd (no_space k signs some e)
value_signed true bs _ signs q some (value_simple _ (simple_index k)) e =
    let is = counted_signs k (index_type k) counts_index (counts_number _ (number_index k)) signs some e in
    record { fits = is.0; simple = subst IsSimple (sym is.1) (simple_index k) }
value_signed true bs _ signs q some (value_pointer k sp args i h r) e =
    let is = counted_signs k (pointer_type k sp args i) (counts_pointed sp args i) (counts_pointer k sp args i) signs some e in
    record { fits = is.0; simple = subst IsSimple (sym is.1) (simple_index k) }

-- ---- expressions

module _ (task : TaskTree) (w : Where) (sound : IsSound w.tree) (sound_task : IsSoundTask w.tree task)
    (local : IsLocalTree w.tree) (scope : IsSoundScope w.scope) (names : AllKept true w.scope.names) (head : KnowsHead w.tree task w.scope) where
  abbrev Well : Expression → Type 0
  Well e = IsWell task w sound sound_task local scope names head e

  pub signed_well : (signs : List Sign) (e : Expression) → Well e → has_sign signs ≡ true → first_of_signs signs (typed w e) ≡ None →
      Well (prefix_expr signs e)
  signed_well signs e a some told =
      let is = value_signed true w.scope.names (typed w e) signs refl some a.value told in
      simple_well task w sound sound_task local scope names head (prefix_expr signs e) (a.is, is.fits) is.simple
