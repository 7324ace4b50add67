-- What is asked of a task where it may keep pointers: what it reads, keeps, assigns and fills in is a number, a truth, an index, an index
-- space or a pointer of few regions, and so is what it hands over, but for regions, parts and partitions.
use Rattle.std.proofs.Common.{◌≡◌, ◌⊎◌, inl, inr, ℕ, ◌≤◌, Bool, true, false, ◌&&◌, ◌||◌, List, None, Option, Some, refl, sym, ap, ◌∙◌, subst, arith, ⊎_elim}
use Rattle.std.specs.Prelude.{length}
use Rattle.std.proofs.lemmas.Bool.{and_parts, false≢true, leb-true, or_cases}
use Rattle.regent_tree.specs.Syntax.{access_expr, at_step, Expression, field_step, Name, no_step, Steps}
use Rattle.regent_tree.specs.Scopes.{bound_as}
use Rattle.regent_tree.specs.Typing.{child_type, owned, reaches_of, stepped_type, type_of_element, type_of_field}
use Rattle.regent_tree.specs.declared.facts.Term.{Term}
use Rattle.regent_tree.specs.declared.types.Kind.{Kind}
use Rattle.regent_tree.specs.declared.typing.Bound.{Bound}
use Rattle.regent_tree.specs.declared.typing.StaticType.{StaticType}
use Rattle.regent_tree.specs.declared.typing.StaticType.TheVariants.{Integer as integer_type, Truth as truth_type, Index as index_type, Pointer as pointer_type, Ispace as ispace_type, Region as region_type, Partition as partition_type, Nothing as no_type, Unknown as unknown_type}
use Rattle.regent_tree.specs.StaticTypes.{Reach}
use Rattle.check_rules.specs.types.Sorts.{is_partition, is_region}
use Rattle.code_rules.specs.Slots.{bound, typed, Where}
use Rattle.code_laws.specs.Arguments.{IsHanded, IsHandedPart}
use Rattle.code_laws.specs.Pointers.{a_pointer_type, Assigned, assigned_plain, assigned_pointer, Begins, begins_plain, begins_pointer, Filled, filled_index, filled_plain, filled_pointer, fills_alike, fills_index, GoesInto, into_index, into_plain, BeginsAs, BeginsWith, IsAssigned, KeepsAs, keeps_index, keeps_plain, keeps_pointer, zero_scalar, IsPointer, IsRead, Passes, passes_plain, passes_pointer, PassesInto}
use Rattle.code_laws.specs.Simple.{a_partition_type, a_region_type, AreAlike, AreRegions, IsPartition, IsRegion, fits_32, fits_64, fits_truth, IsSimple, number_index, number_integer, simple_index, simple_integer, simple_space, simple_truth, two_integers, two_regions, two_truths}
use Rattle.code_laws.specs.Steps.{Forms, Taking}
use Rattle.code_laws.specs.Typed.{AreFurther, BeginsAsPart, IsBegun, IsDifference, IsKeepable}
use Rattle.code_laws.proofs.Arguments.{alike_other, given_by, goes_other, IsCutArgument, IsNoRegion, IsPartArgument, passes_other}
use Rattle.code_laws.proofs.Wider.{into_simple, keepable, zero_simple}
use Rattle.lane_kernels.specs.declared.numbers.FieldKind.{FieldKind}
use Rattle.fit_rules.specs.Shapes.{pointer, numeric_index, numeric_integer, numeric_pointer, numeric_truth}
use Rattle.fit_rules.specs.Sound.{Settled, settled_number, settled_space}
use Rattle.sound_code.specs.Named.{IsNumbered}
use Rattle.sound_code.proofs.WholeTasks.{is_value, is_whole_expression, names_region, takes_part}
use Rattle.sound_code.specs.Ways.{shape_in, shape_of, Way}

-- where pointers may be kept, it is so
abbrev pub Asks : Bool → Bool → Type 0
Asks keeps b = keeps ≡ true → b ≡ true

-- nothing is asked where they are not
pub not_kept : (keeps b : Bool) → keeps ≡ false → Asks keeps b
not_kept keeps b e q = absurd (false≢true (sym e ∙ q))

pub asks_first : (keeps a b : Bool) → Asks keeps (a && b) → Asks keeps a
asks_first keeps a b h q = (and_parts a b (h q)).0

pub asks_second : (keeps a b : Bool) → Asks keeps (a && b) → Asks keeps b
asks_second keeps a b h q = (and_parts a b (h q)).1

-- ---- types

pub data IsWorth : StaticType → Type 0 where
  worth_simple : (t : StaticType) → IsSimple t → IsWorth t
  worth_pointer : (k : Kind) (sp : ℕ) (args rs : List Reach) → length rs ≤ 4 → IsWorth (pointer_type k sp args rs)

-- a pointer's type names few regions
abbrev pub HasFew : StaticType → Type 0
HasFew t = length (reaches_of t) ≤ 4

pub value_worth : (t : StaticType) → is_value true t ≡ true → IsWorth t
value_worth (integer_type w) e = worth_simple _ (simple_integer w)
value_worth truth_type e = worth_simple _ simple_truth
value_worth (index_type k) e = worth_simple _ (simple_index k)
value_worth (ispace_type k) e = worth_simple _ (simple_space k)
value_worth (pointer_type k sp args rs) e = worth_pointer k sp args rs (leb-true (length rs) 4 e)
value_worth (region_type k sp args r) e = absurd (false≢true e)
value_worth (partition_type d r p) e = absurd (false≢true e)
value_worth no_type e = absurd (false≢true e)
value_worth unknown_type e = absurd (false≢true e)

pub alike_simple : (t u : StaticType) → AreAlike t u → IsSimple u
alike_simple _ _ (two_integers v w) = simple_integer w
alike_simple _ _ two_truths = simple_truth

pub simple_few : (t : StaticType) → IsSimple t → HasFew t
simple_few _ (simple_integer w) = omega arith
simple_few _ simple_truth = omega arith
simple_few _ (simple_index k) = omega arith
simple_few _ (simple_space k) = omega arith

pub worth_few : (t : StaticType) → IsWorth t → HasFew t
worth_few t (worth_simple _ s) = simple_few t s
worth_few _ (worth_pointer k sp args rs few) = few

partition_no_value : (t : StaticType) → IsPartition t → is_value true t ≡ true → ⊥
partition_no_value _ (a_partition_type d r p) e = false≢true e

pub partition_no_region : (t : StaticType) → IsPartition t → is_region t ≡ true → ⊥
partition_no_region _ (a_partition_type d r p) e = false≢true e

region_no_value : (t : StaticType) → IsRegion t → is_value true t ≡ true → ⊥
region_no_value _ (a_region_type k sp args r) e = false≢true e

-- ---- shapes

pub worth_settled : (u : StaticType) → IsWorth u → Settled (shape_of u)
worth_settled _ (worth_simple _ (simple_integer w)) = settled_number _ (numeric_integer w)
worth_settled _ (worth_simple _ simple_truth) = settled_number _ numeric_truth
worth_settled _ (worth_simple _ (simple_space c)) = settled_space
worth_settled _ (worth_simple _ (simple_index c)) = settled_number _ numeric_index
worth_settled _ (worth_pointer k sp args rs few) = settled_number _ (numeric_pointer _)

pub worth_named : (way : Way) (params : ℕ) (u : StaticType) → IsWorth u → shape_in way params u ≡ shape_of u
worth_named way params _ (worth_simple _ (simple_integer w)) = refl
worth_named way params _ (worth_simple _ simple_truth) = refl
worth_named way params _ (worth_simple _ (simple_space c)) = refl
worth_named way params _ (worth_simple _ (simple_index c)) = refl
worth_named way params _ (worth_pointer k sp args rs few) = refl

pub worth_numbered : (way : Way) (params : ℕ) (bs : List Bound) (u : StaticType) → IsWorth u → IsNumbered bs (shape_in way params u)
worth_numbered way params bs _ (worth_simple _ (simple_integer w)) = tt
worth_numbered way params bs _ (worth_simple _ simple_truth) = tt
worth_numbered way params bs _ (worth_simple _ (simple_space c)) = tt
worth_numbered way params bs _ (worth_simple _ (simple_index c)) = tt
worth_numbered way params bs _ (worth_pointer k sp args rs few) = tt

-- ---- what is read and kept

-- what a name has that is read
pub read_worth : (b : Bool) (t : StaticType) → IsRead b t → Asks b (is_value true t) → IsWorth t
read_worth false t p h = worth_simple t p
read_worth true t p h = value_worth t (h refl)

-- ---- what goes into something

-- a value of a type becomes one of another: it goes into it, or both are pointers
pub data Becomes : StaticType → StaticType → Type 0 where
  becomes_plain : (t u : StaticType) → GoesInto t u → Becomes t u
  becomes_pointer : (t : StaticType) (k : Kind) (sp : ℕ) (args rs : List Reach) → IsPointer t → Becomes t (pointer_type k sp args rs)

to_pointer : (t u : StaticType) → IsPointer t → IsPointer u → Becomes t u
to_pointer t _ p (a_pointer_type k sp args rs names) = becomes_pointer t k sp args rs p

pub assigned_becomes : (t u : StaticType) → Assigned t u → Becomes t u
assigned_becomes t u (assigned_plain _ _ g) = becomes_plain t u g
assigned_becomes t u (assigned_pointer _ _ p q) = to_pointer t u p q

pub begins_becomes : (bs : List Bound) (t u : StaticType) → Begins bs t u → Becomes t u
begins_becomes bs t u (begins_plain _ _ g) = becomes_plain t u g
begins_becomes bs t u (begins_pointer _ _ p q) = to_pointer t u p q.0

pub filled_becomes : (t u : StaticType) → Filled t u → Becomes t u
filled_becomes t u (filled_plain _ _ g) = becomes_plain t u (into_plain t u g)
filled_becomes _ _ (filled_index k sp args rs j) = becomes_plain _ _ (into_index k sp args rs j)
filled_becomes t u (filled_pointer _ _ p q) = to_pointer t u p q

pub alike_becomes : (t u : StaticType) → AreAlike t u → Becomes t u
alike_becomes t u a = becomes_plain t u (into_plain t u (fills_alike t u a))

-- ---- arguments

-- what is given to a parameter: it becomes the type at the call, which has the parameter's shape
pub record Enters (from t p : StaticType) : Type 0 where
  pub goes : Becomes from t
  pub few : HasFew t
  pub same : shape_of t ≡ shape_of p
  pub worth : IsWorth p
  pub other : IsNoRegion from

abbrev pub AsksArgument : Bool → Where → StaticType → Expression → Type 0
AsksArgument b w p e =
    Asks b (is_partition p || ((is_region p || is_value true p) && (names_region w e || (takes_part true w e || is_whole_expression true w e))))

-- of what is given for a parameter that is no partition
simple_asked : (p : StaticType) (x : Bool) → IsSimple p → (is_partition p || x) ≡ true → x ≡ true
simple_asked _ x (simple_integer w) h = h
simple_asked _ x simple_truth h = h
simple_asked _ x (simple_index k) h = h
simple_asked _ x (simple_space k) h = h

passed_asked : (from t p : StaticType) (x : Bool) → Passes from t p → (is_partition p || x) ≡ true → x ≡ true
passed_asked from _ _ x (passes_plain _ p g) h = simple_asked p x (into_simple from p g) h
passed_asked from _ _ x (passes_pointer _ k sp args brgs rs qs is same) h = h

worth_asked : (p : StaticType) (x : Bool) → IsWorth p → (is_partition p || x) ≡ true → x ≡ true
worth_asked p x (worth_simple _ s) h = simple_asked p x s h
worth_asked _ x (worth_pointer k sp args rs few) h = h

pub regions_asked : (t p : StaticType) (x : Bool) → AreRegions t p → (is_partition p || x) ≡ true → x ≡ true
regions_asked _ _ x (two_regions c d sp args brgs r q) h = h

entered : (from t p : StaticType) → Passes from t p → (is_region p || is_value true p) ≡ true → Enters from t p
entered from _ _ (passes_plain _ p g) h =
    let s = into_simple from p g in
    record { goes = becomes_plain from p g; few = simple_few p s; same = refl; worth = worth_simple p s; other = goes_other from p g }
entered from _ _ (passes_pointer _ k sp args brgs rs qs is same) h =
    let l = leb-true (length rs) 4 h in record {
      goes = becomes_pointer from k sp brgs qs is;
      few = omega (arith, l, same);
      same = ap pointer same;
      worth = worth_pointer k sp args rs l;
      other = passes_other from _ _ (passes_pointer from k sp args brgs rs qs is same);
    }

-- what is given is a value that enters the parameter, a region's name, a part, or a partition's name
pub given_whole : (b : Bool) (o : Option Taking) (w : Where) (t p : StaticType) (e : Expression) (Typed Part Goal : Type 0) → AsksArgument b w p e →
    (Enters (typed w e) t p → Typed → Goal) → ((y : Taking) → o ≡ Some y → IsHanded (Some y) w t p e → Goal) →
    (b ≡ true → IsPartArgument o w t p e Part → Goal) → (b ≡ true → IsCutArgument o w t p e → Goal) → (PassesInto b (typed w e) t p × Typed) ⊎ (IsHanded o w t p e ⊎ IsHandedPart b o w t p e Part) → Goal
given_whole false o w t p e Typed Part Goal asks this that part cut (inl a) =
    let s = alike_simple (typed w e) t a.0.0 in
    this (record {
      goes = alike_becomes (typed w e) t a.0.0;
      few = simple_few t s;
      same = ap shape_of a.0.1;
      worth = subst IsWorth a.0.1 (worth_simple t s);
      other = alike_other (typed w e) t a.0.0;
    }) a.1
given_whole false None w t p e Typed Part Goal asks this that part cut (inr (inl h)) = absurd h
given_whole false (Some y) w t p e Typed Part Goal asks this that part cut (inr (inl h)) = that y refl h
given_whole false o w t p e Typed Part Goal asks this that part cut (inr (inr h)) = absurd h
given_whole true o w t p e Typed Part Goal asks this that part cut g = given_by true o w t p e Typed Part Goal
    (λ q. this (entered (typed w e) t p q (and_parts _ _ (passed_asked (typed w e) t p _ q (asks refl))).0)) that (part refl) (cut refl) g

-- a value that is no region's is no region's name
pub whole_argument : (b : Bool) (w : Where) (p : StaticType) (e : Expression) → AsksArgument b w p e → IsWorth p → IsNoRegion (typed w e) →
    (takes_part true w e ≡ true → ⊥) → Asks b (is_whole_expression true w e)
whole_argument b w p e h worth other none q = ⊎_elim (λ r. absurd (of_region e r other)) (λ s. ⊎_elim (λ c. absurd (none c)) (λ y. y) (or_cases (takes_part true w e) _ s))
    (or_cases (names_region w e) _ (and_parts _ _ (worth_asked p _ worth (h q))).1)
  where
    no_other : (u : StaticType) → is_region u ≡ true → IsNoRegion u → ⊥
    no_other (region_type k sp args r) e h = h
    no_other _ e h = false≢true e

    of_region : (e : Expression) → names_region w e ≡ true → IsNoRegion (typed w e) → ⊥
    of_region (access_expr n no_step) r h = no_other _ r h
    of_region _ r h = false≢true r

-- a region of which an element is taken is no partition
pub region_no_partition : (t : StaticType) → IsRegion t → is_partition t ≡ true → ⊥
region_no_partition _ (a_region_type k sp args r) e = false≢true e

-- what a part's colour is asked
pub index_whole : (w : Where) (n : Name) (e : Expression) → (takes_part true w (access_expr n (at_step e no_step)) || is_whole_expression true w (access_expr n (at_step e no_step))) ≡ true →
    is_whole_expression true w e ≡ true
index_whole w n e h = ⊎_elim (λ p. (and_parts (is_partition (bound w n).static_type) _ p).1) (λ p. (and_parts (is_region (bound w n).static_type) _ p).1)
    (or_cases (takes_part true w (access_expr n (at_step e no_step))) _ h)

-- ---- variables

-- a simple value, or a pointer into regions that have names
pub data IsKept : StaticType → Type 0 where
  kept_simple : (u : StaticType) → IsSimple u → IsKept u
  kept_pointer : (u : StaticType) → IsPointer u → IsKept u

pub owned_same : (n : ℕ) (u : StaticType) → IsKept u → owned n u ≡ u
owned_same n _ (kept_simple _ (simple_integer v)) = refl
owned_same n _ (kept_simple _ simple_truth) = refl
owned_same n _ (kept_simple _ (simple_space c)) = refl
owned_same n _ (kept_simple _ (simple_index c)) = refl
owned_same n _ (kept_pointer _ (a_pointer_type k sp args rs names)) = refl

pub kept_of : (b : Bool) (w : Where) (e : Expression) → IsKeepable b w e → IsKept (typed w e)
kept_of b w e h = ⊎_elim (λ s. kept_simple (typed w e) s) (λ p. kept_pointer (typed w e) p.0) (keepable b w e h)

kept_no_cut : (t : StaticType) → IsKept t → is_partition t ≡ true → ⊥
kept_no_cut _ (kept_simple _ (simple_integer w)) e = false≢true e
kept_no_cut _ (kept_simple _ simple_truth) e = false≢true e
kept_no_cut _ (kept_simple _ (simple_index k)) e = false≢true e
kept_no_cut _ (kept_simple _ (simple_space k)) e = false≢true e
kept_no_cut _ (kept_pointer _ (a_pointer_type k sp args rs names)) e = false≢true e

-- a part is no such value, nor a partition
no_region_kept : (n : ℕ) (v : Bool) (t : StaticType) → IsRegion t → (is_partition t ≡ true) ⊎ ((is_value true (owned n t) && v) ≡ true) → ⊥
no_region_kept n v _ (a_region_type k sp args r) (inl e) = false≢true e
no_region_kept n v _ (a_region_type k sp args r) (inr e) = false≢true e

unknown_no_kept : IsKept unknown_type → ⊥
unknown_no_kept (kept_simple _ s) = elim s [ ]
unknown_no_kept (kept_pointer _ s) = elim s [ ]

child_no_kept : (u : StaticType) (t : Term) → IsKept (child_type u t) → ⊥
child_no_kept (region_type k sp args r) t (kept_simple _ s) = elim s [ ]
child_no_kept (region_type k sp args r) t (kept_pointer _ s) = elim s [ ]
child_no_kept (integer_type w) t k = unknown_no_kept k
child_no_kept truth_type t k = unknown_no_kept k
child_no_kept (index_type c) t k = unknown_no_kept k
child_no_kept (pointer_type c sp args rs) t k = unknown_no_kept k
child_no_kept (ispace_type c) t k = unknown_no_kept k
child_no_kept (partition_type d r p) t k = unknown_no_kept k
child_no_kept no_type t k = unknown_no_kept k
child_no_kept unknown_type t k = unknown_no_kept k

part_no_kept : (w : Where) (e : Expression) → takes_part true w e ≡ true → IsKept (typed w e) → ⊥
part_no_kept w (access_expr n (at_step e no_step)) h k = of (bound w n).static_type (and_parts _ _ h).0 k
  where
    of : (u : StaticType) → is_partition u ≡ true → IsKept (type_of_element w.scope u e) → ⊥
    of (partition_type d r p) q k = child_no_kept (bound_as w.scope.names r).static_type _ k
    of _ q k = absurd (false≢true q)
part_no_kept w _ h k = absurd (false≢true h)

part_begins : (o : Option Taking) (w : Where) (e : Expression) (v : Bool) (Part : Type 0) → BeginsAsPart o w e Part →
    (is_partition (typed w e) || (takes_part true w e || (is_value true (owned w.scope.next (typed w e)) && v))) ≡ true → takes_part true w e ≡ true
part_begins o w (access_expr n (at_step e no_step)) v Part d h =
    let y = access_expr n (at_step e no_step) in
    ⊎_elim (λ c. absurd (no_region_kept w.scope.next v (typed w y) d.0.2 (inl c)))
    (λ q. ⊎_elim (λ c. c) (λ c. absurd (no_region_kept w.scope.next v (typed w y) d.0.2 (inr c))) (or_cases (takes_part true w y) _ q))
    (or_cases (is_partition (typed w y)) _ h)
part_begins o w _ v Part d h = absurd d

-- how a variable begins: with such a value, a difference of partitions, or as a part
pub begun_whole : (b : Bool) (o : Option Taking) (w : Where) (e : Expression) (v : Bool) (Typed Part : Type 0) →
    IsBegun b w e (IsKeepable b w e × Typed) (BeginsAsPart o w e Part) →
    Asks b (is_partition (typed w e) || (takes_part true w e || (is_value true (owned w.scope.next (typed w e)) && v))) →
    ((IsKeepable b w e × Typed) × Asks b (is_value true (owned w.scope.next (typed w e)) && v))
    ⊎ ((b ≡ true) × (IsDifference w e ⊎ (BeginsAsPart o w e Part × (takes_part true w e ≡ true))))
begun_whole false o w e v Typed Part p h = inl (p, not_kept false (is_value true (owned w.scope.next (typed w e)) && v) refl)
begun_whole true o w e v Typed Part (inl p) h =
    inl (
      p,
      λ q. ⊎_elim (λ c. absurd (kept_no_cut (typed w e) (kept_of true w e p.0) c))
          (λ y. ⊎_elim (λ c. absurd (part_no_kept w e c (kept_of true w e p.0))) (λ y. y) (or_cases (takes_part true w e) _ y))
          (or_cases (is_partition (typed w e)) _ (h q)),
    )
begun_whole true o w e v Typed Part (inr (inl d)) h = inr (refl, inl d)
begun_whole true o w e v Typed Part (inr (inr d)) h = inr (refl, inr (d, part_begins o w e v Part d (h refl)))

-- a part that a variable begins as
region_few : (t : StaticType) → IsRegion t → HasFew t
region_few _ (a_region_type k sp args r) = omega arith

pub begun_part_few : (o : Option Taking) (w : Where) (e : Expression) (Part : Type 0) → BeginsAsPart o w e Part → HasFew (typed w e)
begun_part_few o w (access_expr n (at_step e no_step)) Part d = region_few (typed w (access_expr n (at_step e no_step))) d.0.2
begun_part_few o w _ Part d = absurd d

-- a variable of its value's type is worth it
pub begun_worth : (b : Bool) (w : Where) (e : Expression) (n : ℕ) → IsKeepable b w e → Asks b (is_value true (owned n (typed w e))) → IsWorth (typed w e)
begun_worth false w e n k h = worth_simple _ k
begun_worth true w e n k h = subst IsWorth (owned_same n (typed w e) (kept_of true w e k)) (value_worth (owned n (typed w e)) (h refl))

-- of a written type
pub said_worth : (b : Bool) (bs : List Bound) (t u : StaticType) → BeginsWith b bs t u → Asks b (is_value true u) → IsWorth u
said_worth false bs t u p h = worth_simple u (alike_simple t u p)
said_worth true bs t u p h = value_worth u (h refl)

pub zero_worth : (b : Bool) (bs : List Bound) (u : StaticType) → BeginsAs b bs u → Asks b (is_value true u) → IsWorth u
zero_worth false bs u p h = worth_simple u (zero_simple u (zero_scalar u p))
zero_worth true bs u p h = value_worth u (h refl)

pub set_worth : (b : Bool) (t u : StaticType) → IsAssigned b t u → Asks b (is_value true u) → IsWorth u
set_worth false t u p h = worth_simple u (alike_simple t u p)
set_worth true t u p h = value_worth u (h refl)

-- what a field keeps
pub field_few : (k : FieldKind) (n : ℕ) (t : StaticType) → KeepsAs k n t → HasFew t
field_few _ _ _ (keeps_plain _ _ _ fits_32) = omega arith
field_few _ _ _ (keeps_plain _ _ _ fits_64) = omega arith
field_few _ _ _ (keeps_plain _ _ _ fits_truth) = omega arith
field_few _ _ _ (keeps_index _ k) = omega arith
field_few _ _ _ (keeps_pointer k sp args rs names few) = few

-- what the last field keeps of those that stand one behind the other
pub further_few : (forms : Forms) (w : Where) (rest : Steps) (t : StaticType) (f : Name) → AreFurther forms w t (field_step f rest) →
    HasFew (stepped_type w.tree w.scope t (field_step f rest))
further_few forms w no_step t f fine = field_few _ _ _ fine.0.keeps
further_few forms w (field_step g rest) t f fine = further_few forms w rest (type_of_field w.tree t f) g fine.1
further_few forms w (at_step e rest) t f fine = absurd fine.1

-- with what a field is filled
pub filled_settled : (t u : StaticType) → Filled t u → Settled (shape_of t)
filled_settled _ _ (filled_plain _ _ (fills_alike _ _ (two_integers v w))) = settled_number _ (numeric_integer v)
filled_settled _ _ (filled_plain _ _ (fills_alike _ _ two_truths)) = settled_number _ numeric_truth
filled_settled _ _ (filled_plain _ _ (fills_index _ k (number_integer v))) = settled_number _ (numeric_integer v)
filled_settled _ _ (filled_plain _ _ (fills_index _ k (number_index i))) = settled_number _ numeric_index
filled_settled _ _ (filled_index k sp args rs j) = settled_number _ (numeric_pointer _)
filled_settled _ _ (filled_pointer _ _ (a_pointer_type k sp args rs names) q) = settled_number _ (numeric_pointer _)
