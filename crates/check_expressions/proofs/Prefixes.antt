-- Prefixes, the innermost first.
use Rattle.std.proofs.Common.{◌≡◌, ◌<◌, ◌+◌, ℕ, zero, suc, List, [], ◌∷◌, drop, length, get_or, None, refl}
use Rattle.std.proofs.lemmas.List.{drop_more}
use Rattle.regent_tree.specs.declared.expression.Sign.{Sign}
use Rattle.regent_tree.specs.declared.typing.StaticType.{StaticType}
use Rattle.check_rules.specs.first.FirstInExpressions.{first_of_signs, first_of_standing}
use Rattle.check_rules.specs.types.KnownTypes.{known_type_after_sign, known_type_after_signs}
use Rattle.check_rules.specs.rules.Standing.{spot_of_sign, stands}
use Rattle.static_types.specs.declared.stop.Stop.{Stop}
use Rattle.static_types.specs.Telling.{IsTold}
use Rattle.static_types.proofs.Telling.{told_here}

-- one more prefix, outwards
pub none_on : (signs : List Sign) (i : ℕ) (d : Sign) (t inner : StaticType) → i < length signs →
    t ≡ known_type_after_signs (drop (i + 1) signs) inner →
    first_of_signs (drop (i + 1) signs) inner ≡ None →
    first_of_standing [] (stands t (spot_of_sign (get_or signs i d))) ≡ None →
    first_of_signs (drop i signs) inner ≡ None
none_on signs i d t inner lt known none stands_well =
    rw (drop_more signs i d lt, none, ← known) stands_well

pub after_on : (signs : List Sign) (i : ℕ) (d : Sign) (t inner : StaticType) → i < length signs →
    t ≡ known_type_after_signs (drop (i + 1) signs) inner →
    known_type_after_sign (get_or signs i d) t ≡ known_type_after_signs (drop i signs) inner
after_on signs i d t inner lt known = rw (drop_more signs i d lt, known) refl

-- what is told of the inner ones is told of all
told_inside : (signs : List Sign) (i : ℕ) (inner : StaticType) (stop : Stop) →
    IsTold stop (first_of_signs (drop i signs) inner) → IsTold stop (first_of_signs signs inner)
told_inside signs zero inner stop h = h
told_inside [] (suc i) inner stop h = h
told_inside (x ∷ signs) (suc i) inner stop h =
    told_here stop (first_of_signs signs inner) _ (told_inside signs i inner stop h)

pub told_on : (signs : List Sign) (i : ℕ) (d : Sign) (t inner : StaticType) (stop : Stop) →
    i < length signs → t ≡ known_type_after_signs (drop (i + 1) signs) inner →
    first_of_signs (drop (i + 1) signs) inner ≡ None →
    IsTold stop (first_of_standing [] (stands t (spot_of_sign (get_or signs i d)))) →
    IsTold stop (first_of_signs signs inner)
told_on signs i d t inner stop lt known none told = told_inside signs i inner stop
    (rw (drop_more signs i d lt, none, ← known) told)
