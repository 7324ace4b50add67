-- How a variable of a written type begins, where pointers may be kept: with a value, with a difference of partitions, or as a part.
use Rattle.std.proofs.Common.{◌≡◌, ◌⊎◌, inl, inr, ℕ, Bool, true, false, ◌&&◌, ◌||◌, List, Option, refl, ⊎_elim}
use Rattle.std.proofs.lemmas.Bool.{and_parts, false≢true, or_cases}
use Rattle.regent_tree.specs.Syntax.{access_expr, at_step, Expression, no_step}
use Rattle.regent_tree.specs.Scopes.{bound_as}
use Rattle.regent_tree.specs.Typing.{child_type, owned, type_of_element}
use Rattle.regent_tree.specs.declared.facts.Term.{Term}
use Rattle.regent_tree.specs.declared.typing.Bound.{Bound}
use Rattle.regent_tree.specs.declared.typing.StaticType.{StaticType}
use Rattle.regent_tree.specs.declared.typing.StaticType.TheVariants.{Integer as integer_type, Truth as truth_type, Index as index_type, Pointer as pointer_type, Ispace as ispace_type, Region as region_type, Partition as partition_type, Nothing as no_type, Unknown as unknown_type}
use Rattle.check_rules.specs.types.Sorts.{is_partition}
use Rattle.code_rules.specs.Slots.{bound, typed, Where}
use Rattle.code_laws.specs.Pointers.{a_pointer_type, Begins, begins_plain, begins_pointer, BeginsWith, fills_alike, fills_index, into_index, into_plain, into_space, IsLike, like_region}
use Rattle.code_laws.specs.Simple.{a_region_type, IsRegion, number_index, number_integer, two_integers, two_truths}
use Rattle.code_laws.specs.Steps.{Taking}
use Rattle.code_laws.specs.Typed.{BeginsAsPart, IsDifference, IsSaid}
use Rattle.sound_code.proofs.WholeTasks.{is_value, takes_part}
use Rattle.sound_code.proofs.Wholes.{Asks, not_kept}

-- no value is a partition
begins_no_cut : (bs : List Bound) (t u : StaticType) → Begins bs t u → is_partition t ≡ true → ⊥
begins_no_cut bs _ _ (begins_plain _ _ (into_plain _ _ (fills_alike _ _ (two_integers v w)))) e = false≢true e
begins_no_cut bs _ _ (begins_plain _ _ (into_plain _ _ (fills_alike _ _ two_truths))) e = false≢true e
begins_no_cut bs _ _ (begins_plain _ _ (into_plain _ _ (fills_index _ k (number_integer w)))) e = false≢true e
begins_no_cut bs _ _ (begins_plain _ _ (into_plain _ _ (fills_index _ k (number_index j)))) e = false≢true e
begins_no_cut bs _ _ (begins_plain _ _ (into_index k sp args rs j)) e = false≢true e
begins_no_cut bs _ _ (begins_plain _ _ (into_space j k)) e = false≢true e
begins_no_cut bs _ _ (begins_pointer _ u (a_pointer_type k sp args rs names) wr) e = false≢true e

-- nor a part, whose type is a region's where it is known
abbrev is_child : StaticType → Bool
is_child (region_type k sp args r) = true
is_child unknown_type = true
is_child t = false

begins_no_child : (bs : List Bound) (t u : StaticType) → Begins bs t u → is_child t ≡ true → ⊥
begins_no_child bs _ _ (begins_plain _ _ (into_plain _ _ (fills_alike _ _ (two_integers v w)))) e = false≢true e
begins_no_child bs _ _ (begins_plain _ _ (into_plain _ _ (fills_alike _ _ two_truths))) e = false≢true e
begins_no_child bs _ _ (begins_plain _ _ (into_plain _ _ (fills_index _ k (number_integer w)))) e = false≢true e
begins_no_child bs _ _ (begins_plain _ _ (into_plain _ _ (fills_index _ k (number_index j)))) e = false≢true e
begins_no_child bs _ _ (begins_plain _ _ (into_index k sp args rs j)) e = false≢true e
begins_no_child bs _ _ (begins_plain _ _ (into_space j k)) e = false≢true e
begins_no_child bs _ _ (begins_pointer _ u (a_pointer_type k sp args rs names) wr) e = false≢true e

child_is : (u : StaticType) (t : Term) → is_child (child_type u t) ≡ true
child_is (region_type k sp args r) t = refl
child_is (integer_type w) t = refl
child_is truth_type t = refl
child_is (index_type c) t = refl
child_is (pointer_type c sp args rs) t = refl
child_is (ispace_type c) t = refl
child_is (partition_type d r p) t = refl
child_is no_type t = refl
child_is unknown_type t = refl

part_is_child : (w : Where) (e : Expression) → takes_part true w e ≡ true → is_child (typed w e) ≡ true
part_is_child w (access_expr n (at_step e no_step)) h = of (bound w n).static_type (and_parts _ _ h).0
  where
    of : (u : StaticType) → is_partition u ≡ true → is_child (type_of_element w.scope u e) ≡ true
    of (partition_type d r p) q = child_is (bound_as w.scope.names r).static_type _
    of _ q = absurd (false≢true q)
part_is_child w _ h = absurd (false≢true h)

-- a part is no value of a written type like its own
like_no_value : (n : ℕ) (v : Bool) (t u : StaticType) → IsRegion t → IsLike u (owned n t) → (is_partition t ≡ true) ⊎ ((is_value true u && v) ≡ true) → ⊥
like_no_value n v _ _ (a_region_type k sp args r) like (inl e) = false≢true e
like_no_value n v _ _ (a_region_type k sp args r) (like_region j _ _ brgs _ _) (inr e) = false≢true e

part_said : (o : Option Taking) (w : Where) (e : Expression) (u : StaticType) (v : Bool) (Part : Type 0) → BeginsAsPart o w e Part →
    IsLike u (owned w.scope.next (typed w e)) → (is_partition (typed w e) || (takes_part true w e || (is_value true u && v))) ≡ true → takes_part true w e ≡ true
part_said o w (access_expr n (at_step e no_step)) u v Part d like h =
    let y = access_expr n (at_step e no_step) in
    ⊎_elim (λ c. absurd (like_no_value w.scope.next v (typed w y) u d.0.2 like (inl c)))
    (λ q. ⊎_elim (λ c. c) (λ c. absurd (like_no_value w.scope.next v (typed w y) u d.0.2 like (inr c))) (or_cases (takes_part true w y) _ q))
    (or_cases (is_partition (typed w y)) _ h)
part_said o w _ u v Part d like h = absurd d

-- how one of a written type begins: with such a value, a difference of partitions, or as a part
pub said_whole : (b : Bool) (o : Option Taking) (w : Where) (e : Expression) (u : StaticType) (v : Bool) (Typed Part : Type 0) →
    IsSaid b w e (BeginsWith b w.scope.names (typed w e) u × Typed) (BeginsAsPart o w e Part) (IsLike u (owned w.scope.next (typed w e))) →
    Asks b (is_partition (typed w e) || (takes_part true w e || (is_value true u && v))) →
    ((BeginsWith b w.scope.names (typed w e) u × Typed) × Asks b (is_value true u && v))
    ⊎ ((b ≡ true) × (IsDifference w e ⊎ (BeginsAsPart o w e Part × (takes_part true w e ≡ true))) × IsLike u (owned w.scope.next (typed w e)))
said_whole false o w e u v Typed Part p h = inl (p, not_kept false (is_value true u && v) refl)
said_whole true o w e u v Typed Part (inl p) h =
    inl (
      p,
      λ q. ⊎_elim (λ c. absurd (begins_no_cut w.scope.names (typed w e) u p.0 c))
          (λ y. ⊎_elim (λ c. absurd (begins_no_child w.scope.names (typed w e) u p.0 (part_is_child w e c))) (λ y. y) (or_cases (takes_part true w e) _ y))
          (or_cases (is_partition (typed w e)) _ (h q)),
    )
said_whole true o w e u v Typed Part (inr (inl d, like)) h = inr (refl, inl d, like)
said_whole true o w e u v Typed Part (inr (inr d, like)) h = inr (refl, inr (d, part_said o w e u v Part d like (h refl)), like)
