-- What is asked where pointers aren't kept is asked where they are.
use Rattle.std.proofs.Common.{◌≡◌, ◌⊎◌, Bool, List, true, false, inl, inr, subst}
use Rattle.regent_tree.specs.Syntax.{Name}
use Rattle.regent_tree.specs.Typing.{counting_as}
use Rattle.regent_tree.specs.declared.expression.Comparison.{Comparison}
use Rattle.regent_tree.specs.declared.expression.Sign.{Sign}
use Rattle.regent_tree.specs.declared.typing.Bound.{Bound}
use Rattle.regent_tree.specs.declared.types.NumberTerm.{NumberTerm}
use Rattle.regent_tree.specs.declared.typing.StaticType.{StaticType}
use Rattle.code_rules.specs.Slots.{Where}
use Rattle.code_laws.specs.Pointers.{AreCompared, Assigned, Begins, BeginsAs, BeginsItself, BeginsWith, ConvertsTo, CountsAs, Filled, FillsInto, GoesInto, Passes, PassesInto, passes_plain, HasSigns, HasZero, SignedAs, signs_plain, IsAssigned, IsCompared, IsCounting, IsNumberTerm, IsPointer, assigned_plain, begins_plain, compared_plain, counts_number, counts_pointer, filled_plain, fills_alike, fills_index, into_index, into_plain, into_space, itself_plain, keeps_plain, term_integer, zero_index, zero_scalar}
use Rattle.code_laws.specs.Simple.{IsNumber, IsSimple, IsSpace, number_index, number_integer, scalar_integer, scalar_truth, simple_index, simple_integer, simple_space, simple_truth, two_integers, two_truths}
use Rattle.regent_tree.specs.Syntax.{Expression}
use Rattle.code_rules.specs.Slots.{typed}
use Rattle.code_laws.specs.Typed.{IsAnyField, IsBegun, IsDifference, IsFieldOf, IsKeepable, IsNamedRegion, IsPartElement, IsPointing, LoopsOver, IsLooped, IsSaid, LoopsOverPart}
use Rattle.code_laws.proofs.Values.{not_true}

pub counting : (b : Bool) (t : StaticType) → CountsAs b t → IsCounting t
counting false t p = counts_number t p
counting true t p = p

pub filling : (b : Bool) (t u : StaticType) → FillsInto b t u → Filled t u
filling false t u p = filled_plain t u (fills_alike t u p)
filling true t u p = p

pub passing : (b : Bool) (t u p : StaticType) → PassesInto b t u p → Passes t u p
passing false t u p a = subst (Passes t u) a.1 (passes_plain t u (into_plain t u (fills_alike t u a.0)))
passing true t u p a = a

pub zeroed : (b : Bool) (bs : List Bound) (t : StaticType) → BeginsAs b bs t → BeginsItself bs t
zeroed false bs t p = itself_plain t (zero_scalar t p)
zeroed true bs t p = p

pub beginning : (b : Bool) (bs : List Bound) (t u : StaticType) → BeginsWith b bs t u → Begins bs t u
beginning false bs t u p = begins_plain t u (into_plain t u (fills_alike t u p))
beginning true bs t u p = p

pub assigned : (b : Bool) (t u : StaticType) → IsAssigned b t u → Assigned t u
assigned false t u p = assigned_plain t u (into_plain t u (fills_alike t u p))
assigned true t u p = p

pub signed_as : (b : Bool) (t : StaticType) (ss : List Sign) → SignedAs b t ss → HasSigns t ss
signed_as false t ss p = signs_plain t ss p
signed_as true t ss p = p

pub compared : (b : Bool) (c : Comparison) (t u : StaticType) → IsCompared b c t u → AreCompared c t u
compared false c t u p = compared_plain c t u p
compared true c t u p = p

pub converting : (b : Bool) (t : NumberTerm) → ConvertsTo b t → IsNumberTerm t
converting false t p = term_integer t p
converting true t p = p

pub any_field : (b : Bool) (w : Where) (n f : Name) (t : StaticType) → IsFieldOf b w n f t → IsAnyField w n f t
any_field false w n f t p = record { named = p.named; region = p.region; field = p.field; keeps = keeps_plain _ _ _ p.keeps }
any_field true w n f t p = p

-- what counts as a number is one where it stands for it
pub counted : (t : StaticType) → IsCounting t → IsNumber (counting_as t)
counted _ (counts_number _ (number_integer w)) = number_integer w
counted _ (counts_number _ (number_index k)) = number_index k
counted _ (counts_pointer k sp args rs) = number_index k

-- how a variable begins, and over what a loop goes
pub keepable : (b : Bool) (w : Where) (e : Expression) → IsKeepable b w e →
    IsSimple (typed w e) ⊎ (IsPointer (typed w e) × (IsPointing w e ⊎ IsPartElement e))
keepable false w e p = inl p
keepable true w e p = p

pub begun : (b : Bool) (w : Where) (e : Expression) (B Part : Type 0) → IsBegun b w e B Part → B ⊎ (IsDifference w e ⊎ Part)
begun false w e B Part p = inl p
begun true w e B Part p = p

pub begun_so : (b : Bool) (w : Where) (e : Expression) (B Part : Type 0) → B → IsBegun b w e B Part
begun_so false w e B Part p = p
begun_so true w e B Part p = inl p

pub begun_apart : (b : Bool) (w : Where) (e : Expression) (B Part : Type 0) → b ≡ true → IsDifference w e ⊎ Part → IsBegun b w e B Part
begun_apart false w e B Part q d = absurd (not_true q)
begun_apart true w e B Part q d = inr d

pub said_plainly : (b : Bool) (w : Where) (e : Expression) (B Part Like : Type 0) → B → IsSaid b w e B Part Like
said_plainly false w e B Part Like p = p
said_plainly true w e B Part Like p = inl p

pub said_apart : (b : Bool) (w : Where) (e : Expression) (B Part Like : Type 0) → b ≡ true → (IsDifference w e ⊎ Part) × Like → IsSaid b w e B Part Like
said_apart false w e B Part Like q d = absurd (not_true q)
said_apart true w e B Part Like q d = inr d

pub said_either : (b : Bool) (w : Where) (e : Expression) (B Part Like : Type 0) → IsSaid b w e B Part Like → B ⊎ ((IsDifference w e ⊎ Part) × Like)
said_either false w e B Part Like p = inl p
said_either true w e B Part Like p = p

pub loops_over : (b : Bool) (w : Where) (e : Expression) → LoopsOver b w e → IsSpace (typed w e) ⊎ IsNamedRegion w e
loops_over false w e p = inl p
loops_over true w e p = p

pub looped_over : (b : Bool) (w : Where) (e : Expression) (Typed Part Body : Type 0) → IsLooped b w e Typed Part Body →
    (LoopsOver b w e × Typed × Body) ⊎ (LoopsOverPart w e Part × Body)
looped_over false w e Typed Part Body p = inl p
looped_over true w e Typed Part Body p = p

-- what goes into it is no pointer
pub into_simple : (t u : StaticType) → GoesInto t u → IsSimple u
into_simple _ _ (into_plain _ _ (fills_alike _ _ (two_integers v w))) = simple_integer w
into_simple _ _ (into_plain _ _ (fills_alike _ _ two_truths)) = simple_truth
into_simple _ _ (into_plain _ _ (fills_index _ k n)) = simple_index k
into_simple _ _ (into_index k sp args rs j) = simple_index j
into_simple _ _ (into_space j k) = simple_space k

pub zero_simple : (t : StaticType) → HasZero t → IsSimple t
zero_simple _ (zero_scalar _ (scalar_integer w)) = simple_integer w
zero_simple _ (zero_scalar _ scalar_truth) = simple_truth
zero_simple _ (zero_index k) = simple_index k
