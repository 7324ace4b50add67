-- Expressions that keep no pointer and no partition are typed also where none are kept.
use Rattle.std.proofs.Common.{◌≡◌, ◌⊎◌, inl, inr, List, [], ◌∷◌, None, Option, Some, true, false, refl, subst, ℕ, zero, suc, ⊎_elim}
use Rattle.std.specs.Prelude.{slice_get, ◌||◌}
use Rattle.std.proofs.lemmas.Bool.{and_parts}
use Rattle.regent_tree.specs.StaticTypes.{task_named}
use Rattle.regent_tree.specs.Syntax.{Expression, Expressions, Links, Name, TaskTree, Tree, a_link, access_expr, an_expr, at_step, call_expr, cast_expr, chain_expr, convert_expr, field_step, is_null_expr, no_expr, no_link, no_step, null_expr, number_expr, prefix_expr, space_expr, truth_expr}
use Rattle.regent_tree.specs.Typing.{linked_type, operated, param_types, signed_type}
use Rattle.regent_tree.specs.declared.expression.Comparison.{Comparison}
use Rattle.regent_tree.specs.declared.expression.Operator.TheVariants.{And, Compare, Compute, Or}
use Rattle.regent_tree.specs.declared.expression.Sign.{Sign}
use Rattle.regent_tree.specs.declared.expression.Sign.TheVariants.{Minus, Not}
use Rattle.regent_tree.specs.declared.typing.StaticType.{StaticType}
use Rattle.regent_tree.specs.declared.typing.StaticType.TheVariants.{Index as index_type, Integer as integer_type, Ispace as ispace_type, Nothing as no_type, Partition as partition_type, Pointer as pointer_type, Region as region_type, Truth as truth_type, Unknown as unknown_type}
use Rattle.task_code.specs.declared.code.NeedCode.{NeedCode}
use Rattle.code_rules.specs.Instructions.{place_of_task, tasks_of}
use Rattle.code_rules.specs.Programs.{task_code}
use Rattle.code_rules.specs.Slots.{Where, bound, typed}
use Rattle.code_laws.specs.Arguments.{AreMet, AreParted, IsHandedPart, IsMetAt, IsPartBelow, IsPartedAt, IsPieceBelow, name_at, part_at, part_of, IsMetPart}
use Rattle.code_laws.specs.Handing.{forms_by, taking_of}
use Rattle.code_laws.specs.PlainBodies.{are_plain, are_plain_args, are_plain_links, is_plain, is_plain_type, is_scalar_type, stands_alone}
use Rattle.code_laws.specs.Pointers.{AllMinus, AreCompared, GoesInto, HasSigns, IsCounting, KeepsAs, Passes, compared_different, compared_equal, compared_left, compared_plain, compared_right, counts_number, counts_pointer, fills_alike, fills_index, into_index, into_plain, into_space, keeps_index, keeps_plain, keeps_pointer, passes_plain, passes_pointer, signs_counted, signs_plain, IsPointer, a_pointer_type}
use Rattle.code_laws.specs.Simple.{AreAlike, AreComparable, FieldFits, IsNumber, IsPartition, IsRegion, IsScalar, IsSimple, SignsFit, minus_before, of_an_integer, scalar_integer, scalar_truth, simple_index, simple_integer, simple_space, simple_truth, two_integers, two_truths, a_partition_type, a_region_type}
use Rattle.code_laws.specs.Steps.{Forms, Taking}
use Rattle.code_laws.specs.Typed.{AreNumbers, ArePassed, AreTypedLinks, IsAnyField, IsField, IsIndexed, IsPassed, IsTyped, element_field, IsCallable}
use Rattle.code_laws.proofs.LocalTypes.{either, operated_simple}
use Rattle.code_laws.proofs.Typing.{integer_term, no_way_back, number_scalar, signed_scalar}
use Rattle.code_laws.proofs.Values.{scalar_simple}
use Rattle.code_laws.proofs.Wider.{zero_simple, into_simple}
use Rattle.scalar_form.specs.ScalarForm.{is_scalar_number}
use Rattle.lane_kernels.specs.declared.numbers.FieldKind.{FieldKind}
use Rattle.lane_kernels.specs.declared.numbers.Width.{Width}
use Rattle.code_laws.specs.Taking.{pairs_in}
use Rattle.regent_tree.specs.Scopes.{scope_of}

-- ---- types

pub scalar_is : (t : StaticType) → is_scalar_type t ≡ true → IsScalar t
scalar_is (integer_type w) e = scalar_integer w
scalar_is truth_type e = scalar_truth
scalar_is (index_type k) e = absurd (no_way_back e)
scalar_is (pointer_type k sp args rs) e = absurd (no_way_back e)
scalar_is (ispace_type k) e = absurd (no_way_back e)
scalar_is (region_type k sp args r) e = absurd (no_way_back e)
scalar_is (partition_type d r p) e = absurd (no_way_back e)
scalar_is no_type e = absurd (no_way_back e)
scalar_is unknown_type e = absurd (no_way_back e)

pub plain_is : (t : StaticType) → is_plain_type t ≡ true → IsSimple t
plain_is (integer_type w) e = simple_integer w
plain_is truth_type e = simple_truth
plain_is (index_type k) e = simple_index k
plain_is (ispace_type k) e = simple_space k
plain_is (pointer_type k sp args rs) e = absurd (no_way_back e)
plain_is (region_type k sp args r) e = absurd (no_way_back e)
plain_is (partition_type d r p) e = absurd (no_way_back e)
plain_is no_type e = absurd (no_way_back e)
plain_is unknown_type e = absurd (no_way_back e)

pub number_there : (t : StaticType) → IsSimple t → IsCounting t → IsNumber t
number_there t s (counts_number _ n) = n
number_there _ s (counts_pointer k sp args rs) = absurd (elim s [ ])

no_pointer : (t : StaticType) → IsSimple t → IsPointer t → ⊥
no_pointer _ s (a_pointer_type k sp args rs a) = elim s [ ]

no_region : (t : StaticType) → IsSimple t → IsRegion t → ⊥
no_region _ s (a_region_type k sp args r) = elim s [ ]

compared_there : (c : Comparison) (t u : StaticType) → IsSimple t → IsSimple u → AreCompared c t u → AreComparable t u
compared_there c t u a b (compared_plain _ _ _ p) = p
compared_there c _ u a b (compared_left _ k sp args rs _ n) = absurd (elim a [ ])
compared_there c t _ a b (compared_right _ _ k sp args rs n) = absurd (elim b [ ])
compared_there c t u a b (compared_equal _ _ p q) = absurd (no_pointer t a p)
compared_there c t u a b (compared_different _ _ p q) = absurd (no_pointer t a p)

minus_there : (w : Width) (ss : List Sign) → AllMinus ss → SignsFit (integer_type w) ss
minus_there w [] a = of_an_integer w
minus_there w (Minus ∷ ss) a = minus_before w ss (minus_there w ss a)
minus_there w (Not ∷ ss) a = absurd a

signed_there : (t : StaticType) (ss : List Sign) → IsScalar t → HasSigns t ss → SignsFit t ss
signed_there t ss s (signs_plain _ _ p) = p
signed_there _ _ (scalar_integer w) (signs_counted _ ss n a) = minus_before w ss (minus_there w ss a)
signed_there _ _ scalar_truth (signs_counted _ ss (counts_number _ n) a) = absurd (elim n [ ])

kept_there : (k : FieldKind) (n : ℕ) (t : StaticType) → IsScalar t → KeepsAs k n t → FieldFits k t
kept_there k n t s (keeps_plain _ _ _ p) = p
kept_there _ n _ s (keeps_index _ k) = absurd (elim s [ ])
kept_there _ _ _ s (keeps_pointer k sp args rs names few) = absurd (elim s [ ])

pub field_there : (w : Where) (n f : Name) (t : StaticType) → IsScalar t → IsAnyField w n f t → IsField w n f t
field_there w n f t s p = record { named = p.named; region = p.region; field = p.field; keeps = kept_there _ _ t s p.keeps }

-- what goes into a number or truth is like it
pub into_there : (t u : StaticType) → IsScalar u → GoesInto t u → AreAlike t u
into_there t u s (into_plain _ _ (fills_alike _ _ a)) = a
into_there t _ s (into_plain _ _ (fills_index _ k n)) = absurd (elim s [ ])
into_there _ _ s (into_index k sp args rs j) = absurd (elim s [ ])
into_there _ _ s (into_space j k) = absurd (elim s [ ])

alike_simple : (t u : StaticType) → AreAlike t u → IsSimple t
alike_simple _ _ (two_integers v w) = simple_integer v
alike_simple _ _ two_truths = simple_truth

-- a parameter is a number, a truth or a region
abbrev pub IsPlainParam : StaticType → Type 0
IsPlainParam p = IsScalar p ⊎ IsRegion p

abbrev pub ArePlainParams : List StaticType → Type 0
ArePlainParams [] = Unit {0}
ArePlainParams (p ∷ ps) = IsPlainParam p × ArePlainParams ps

passes_there : (t u p : StaticType) → IsPlainParam p → Passes t u p → AreAlike t u × (u ≡ p)
passes_there t _ _ (inl s) (passes_plain _ u goes) = (into_there t u s goes, refl)
passes_there t _ _ (inr r) (passes_plain _ u goes) = absurd (no_region u (into_simple t u goes) r)
passes_there t _ _ (inl s) (passes_pointer _ k sp args brgs rs qs n e) = absurd (elim s [ ])
passes_there t _ _ (inr r) (passes_pointer _ k sp args brgs rs qs n e) = absurd (elim r [ ])

no_plain_cut : (p : StaticType) → IsPlainParam p → IsPartition p → ⊥
no_plain_cut _ (inl s) (a_partition_type d r q) = elim s [ ]
no_plain_cut _ (inr r) (a_partition_type d u q) = elim r [ ]

-- ---- arguments

module _ (w : Where) where
  abbrev IsArg : Expression → Type 0
  IsArg e = (stands_alone e || is_plain w e) ≡ true

  -- none is a part
  no_part : (e : Expression) → IsArg e → part_of e ≡ None
  no_part (access_expr n no_step) h = refl
  no_part (access_expr n (field_step _ _)) h = refl
  no_part (access_expr n (at_step e no_step)) h = absurd (no_way_back h)
  no_part (access_expr n (at_step _ (field_step _ _))) h = refl
  no_part (access_expr n (at_step _ (at_step _ _))) h = refl
  no_part (number_expr _ _) h = refl
  no_part (truth_expr _) h = refl
  no_part (chain_expr _ _) h = refl
  no_part (prefix_expr _ _) h = refl
  no_part (call_expr _ _) h = refl
  no_part (convert_expr _ _) h = refl
  no_part (is_null_expr _) h = refl
  no_part (null_expr _) h = refl
  no_part (cast_expr _ _) h = refl
  no_part (space_expr _ _) h = refl

  no_part_at : (es : Expressions) → are_plain_args w es ≡ true → (k : ℕ) → part_at es k ≡ None
  no_part_at no_expr h k = refl
  no_part_at (an_expr e es) h zero = no_part e (and_parts (stands_alone e || is_plain w e) (are_plain_args w es) h).0
  no_part_at (an_expr e es) h (suc k) = no_part_at es (and_parts (stands_alone e || is_plain w e) (are_plain_args w es) h).1 k

  -- nor is one handed over, nor a partition
  none_handed : (y : Taking) (t p : StaticType) (e : Expression) (Part : Type 0) → IsArg e → IsPlainParam p → IsHandedPart true (Some y) w t p e Part → ⊥
  none_handed y t p (access_expr n no_step) Part h plain a = no_plain_cut p plain a.2
  none_handed y t p (access_expr n (field_step _ _)) Part h plain a = a
  none_handed y t p (access_expr n (at_step e no_step)) Part h plain a = no_way_back h
  none_handed y t p (access_expr n (at_step _ (field_step _ _))) Part h plain a = a
  none_handed y t p (access_expr n (at_step _ (at_step _ _))) Part h plain a = a
  none_handed y t p (number_expr _ _) Part h plain a = a
  none_handed y t p (truth_expr _) Part h plain a = a
  none_handed y t p (chain_expr _ _) Part h plain a = a
  none_handed y t p (prefix_expr _ _) Part h plain a = a
  none_handed y t p (call_expr _ _) Part h plain a = a
  none_handed y t p (convert_expr _ _) Part h plain a = a
  none_handed y t p (is_null_expr _) Part h plain a = a
  none_handed y t p (null_expr _) Part h plain a = a
  none_handed y t p (cast_expr _ _) Part h plain a = a
  none_handed y t p (space_expr _ _) Part h plain a = a

  -- so needs are met of names, and constraints hold of these
  met_there : (y : Taking) (args : Expressions) → are_plain_args w args ≡ true → (ns : List NeedCode) → AreMet true (Some y) w args ns → AreMet false (Some y) w args ns
  met_there y args h [] a = tt
  met_there y args h (n ∷ ns) a = (one a.0, met_there y args h ns a.1)
    where
      one : IsMetAt true (Some y) w args n → IsMetAt false (Some y) w args n
      one (inl m) = m
      one (inr m) = absurd (subst (λ o. IsMetPart (Some y) w n o) (no_part_at args h n.param) m)

  no_piece : (y : Taking) (a : Option Name) (b : Option (Name × Expression)) → IsPieceBelow y w a b None → ⊥
  no_piece y (Some m) b p = p
  no_piece y None (Some q) p = p
  no_piece y None None p = p

  parted_there : (y : Taking) (args : Expressions) → are_plain_args w args ≡ true → (ps : List (ℕ × ℕ)) → AreParted true (Some y) w args ps → AreParted false (Some y) w args ps
  parted_there y args h [] a = tt
  parted_there y args h (p ∷ ps) a = (one a.0, parted_there y args h ps a.1)
    where
      one : IsPartedAt true y w args p → IsPartedAt false y w args p
      one (inl m) = m
      one (inr (inl m)) = absurd (subst (λ o. IsPartBelow y w o (name_at args p.1) (part_at args p.1)) (no_part_at args h p.0) m)
      one (inr (inr m)) = absurd (no_piece y (name_at args p.0) (part_at args p.0)
          (subst (λ o. IsPieceBelow y w (name_at args p.0) (part_at args p.0) o) (no_part_at args h p.1) m))

-- ---- expressions

module _ (tree : Tree) (task : TaskTree) (w : Where)
    (params : (n : Name) → slice_get (tasks_of w.tree) (place_of_task w.tree n) ≡ Some (task_named w.tree n) → ArePlainParams (param_types w.tree (task_named w.tree n))) where
  abbrev pub from : Forms
  from = forms_by true true tree task

  abbrev pub to : Forms
  to = forms_by true false tree task

  abbrev pub IsThere : Expression → Type 0
  IsThere e = IsTyped to w e × IsSimple (typed w e)

  callable : (n : Name) (args : Expressions) → are_plain_args w args ≡ true → IsCallable from w n args → IsCallable to w n args
  callable n args h a = (
    a.0,
    met_there w (taking_of tree task) args h (task_code w.tree (task_named w.tree n)).needs a.1,
    parted_there w (taking_of tree task) args h (pairs_in (scope_of w.tree (task_named w.tree n)).known) a.2,
    a.3,
    a.4,
  )

  -- a name that stands alone
  alone_there : (e : Expression) → stands_alone e ≡ true → IsSimple (typed w e) → IsTyped from w e → IsTyped to w e
  alone_there (access_expr n no_step) h s a = (a.0, s)
  alone_there (access_expr n (field_step _ _)) h s a = absurd (no_way_back h)
  alone_there (access_expr n (at_step _ _)) h s a = absurd (no_way_back h)
  alone_there (number_expr _ _) h s a = absurd (no_way_back h)
  alone_there (truth_expr _) h s a = absurd (no_way_back h)
  alone_there (chain_expr _ _) h s a = absurd (no_way_back h)
  alone_there (prefix_expr _ _) h s a = absurd (no_way_back h)
  alone_there (call_expr _ _) h s a = absurd (no_way_back h)
  alone_there (convert_expr _ _) h s a = absurd (no_way_back h)
  alone_there (is_null_expr _) h s a = absurd (no_way_back h)
  alone_there (null_expr _) h s a = absurd (no_way_back h)
  alone_there (cast_expr _ _) h s a = absurd (no_way_back h)
  alone_there (space_expr _ _) h s a = absurd (no_way_back h)

  one_passed : (t p : StaticType) (e : Expression) → (stands_alone e || is_plain w e) ≡ true → IsPlainParam p →
      (is_plain w e ≡ true → IsTyped from w e → IsTyped to w e) →
      IsPassed from w t p e (IsTyped from w e) (IsIndexed from w e) → IsPassed to w t p e (IsTyped to w e) (IsIndexed to w e)
  one_passed t p e h plain own (inl a) =
      let alike = passes_there (typed w e) t p plain a.0 in inl (
        alike,
        ⊎_elim (λ alone. alone_there e alone (alike_simple (typed w e) t alike.0) a.1) (λ is. own is a.1) (either (stands_alone e) (is_plain w e) h),
      )
  one_passed t p e h plain own (inr (inl a)) = inr (inl a)
  one_passed t p e h plain own (inr (inr a)) = absurd (none_handed w (taking_of tree task) t p e (IsIndexed from w e) h plain a)

  mutual
    pub there : (e : Expression) → is_plain w e ≡ true → IsTyped from w e → IsThere e
    there (number_expr z v) h a = (a, simple_integer v)
    there (truth_expr b) h a = (tt, simple_truth)
    there (chain_expr first rest) h a =
        let s = and_parts (is_plain w first) (are_plain_links w rest) h in
        let f = there first s.0 a.0 in
        let l = links_there (typed w first) rest s.1 f.1 a.1 in ((f.0, l.0), l.1)
    there (prefix_expr signs e) h a =
        let s = and_parts (is_plain w e) (is_scalar_type (typed w e)) h in
        let fit = signed_there (typed w e) signs (scalar_is (typed w e) s.1) a.1 in
        (((there e s.0 a.0).0, fit), scalar_simple (signed_type signs (typed w e)) (signed_scalar (typed w e) signs fit))
    there (access_expr n no_step) h a = let s = plain_is (bound w n).static_type h in ((a.0, s), s)
    there (access_expr n (at_step e (field_step f no_step))) h a =
        let s = and_parts (is_plain w e) (is_scalar_type (element_field w n e f)) h in
        let i = there e s.0 a.0 in
        let t = element_field w n e f in
        let scalar = scalar_is t s.1 in
        ((i.0, number_there (typed w e) i.1 a.1, a.2, field_there w n f t scalar a.3, a.4), scalar_simple t scalar)
    there (call_expr n args) h a =
        let p = params n a.2.0 in
        ((refl, a.1, callable n args h a.2, passed_there _ (param_types w.tree (task_named w.tree n)) args h p a.3), zero_simple _ a.1)
    there (convert_expr t e) h a =
        let s = and_parts (is_scalar_number t) (is_plain w e) h in
        let i = there e s.1 a.0 in
        let term = integer_term t s.0 in
        ((i.0, number_there (typed w e) i.1 a.1, term), scalar_simple _ (number_scalar t term))
    there (space_expr k e) h a = (((there e h a.0).0, a.1), simple_space k)
    there (access_expr n (field_step _ _)) h a = absurd (no_way_back h)
    there (access_expr n (at_step _ no_step)) h a = absurd (no_way_back h)
    there (access_expr n (at_step _ (at_step _ _))) h a = absurd (no_way_back h)
    there (access_expr n (at_step _ (field_step _ (field_step _ _)))) h a = absurd (no_way_back h)
    there (access_expr n (at_step _ (field_step _ (at_step _ _)))) h a = absurd (no_way_back h)
    there (is_null_expr _) h a = absurd (no_way_back h)
    there (null_expr _) h a = absurd (no_way_back h)
    there (cast_expr _ _) h a = absurd (no_way_back h)

    links_there : (t : StaticType) (ls : Links) → are_plain_links w ls ≡ true → IsSimple t → AreTypedLinks from w t ls →
        AreTypedLinks to w t ls × IsSimple (linked_type w.tree w.scope t ls)
    links_there t no_link h s a = (tt, s)
    links_there t (a_link Or e rest) h s a =
        let p = and_parts (is_plain w e) (are_plain_links w rest) h in
        let r = links_there truth_type rest p.1 simple_truth a.3 in
        ((a.0, a.1, (there e p.0 a.2).0, r.0), r.1)
    links_there t (a_link And e rest) h s a =
        let p = and_parts (is_plain w e) (are_plain_links w rest) h in
        let r = links_there truth_type rest p.1 simple_truth a.3 in
        ((a.0, a.1, (there e p.0 a.2).0, r.0), r.1)
    links_there t (a_link (Compare c) e rest) h s a =
        let p = and_parts (is_plain w e) (are_plain_links w rest) h in
        let i = there e p.0 a.1 in
        let r = links_there (operated (Compare c) t (typed w e)) rest p.1 simple_truth a.2 in
        ((compared_there c t (typed w e) s i.1 a.0, i.0, r.0), r.1)
    links_there t (a_link (Compute o) e rest) h s a =
        let p = and_parts (is_plain w e) (are_plain_links w rest) h in
        let i = there e p.0 a.2 in
        let m = number_there t s a.0 in
        let n = number_there (typed w e) i.1 a.1 in
        let r = links_there (operated (Compute o) t (typed w e)) rest p.1 (operated_simple o t (typed w e) m n) a.3 in
        ((m, n, i.0, r.0), r.1)

    passed_there : (ts ps : List StaticType) (es : Expressions) → are_plain_args w es ≡ true → ArePlainParams ps → ArePassed from w ts ps es → ArePassed to w ts ps es
    passed_there [] [] no_expr h plain a = tt
    passed_there (t ∷ ts) (p ∷ ps) (an_expr e es) h plain a =
        let s = and_parts (stands_alone e || is_plain w e) (are_plain_args w es) h in
        (one_passed t p e s.0 plain.0 (λ own b. (there e own b).0) a.0, passed_there ts ps es s.1 plain.1 a.1)
    passed_there [] (p ∷ ps) es h plain a = absurd a
    passed_there [] [] (an_expr e es) h plain a = absurd a
    passed_there (t ∷ ts) [] es h plain a = absurd a
    passed_there (t ∷ ts) (p ∷ ps) no_expr h plain a = absurd a

  pub call_there : (n : Name) (args : Expressions) → are_plain_args w args ≡ true → IsCallable from w n args → IsCallable to w n args
  call_there n args h a = callable n args h a

  pub passes_all : (ts ps : List StaticType) (es : Expressions) → are_plain_args w es ≡ true → ArePlainParams ps → ArePassed from w ts ps es → ArePassed to w ts ps es
  passes_all ts ps es h plain a = passed_there ts ps es h plain a

  -- numbers that are printed
  pub numbers_there : (es : Expressions) → are_plain w es ≡ true → AreNumbers from w es → AreNumbers to w es
  numbers_there no_expr h a = tt
  numbers_there (an_expr e es) h a =
      let s = and_parts (is_plain w e) (are_plain w es) h in (a.0, (there e s.0 a.1).0, numbers_there es s.1 a.2)
