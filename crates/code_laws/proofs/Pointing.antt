-- The regions of the pointers that names have: where more names come, some go, or one has another value.
use Rattle.std.proofs.Common.{◌≡◌, ℕ, ◌<◌, ◌≤◌, List, [], ◌∷◌, ◌++◌, Bool, true, false, Some, None, refl, sym, ap, ◌∙◌, subst, arith}
use Rattle.std.specs.Prelude.{bytes_eq, cond, get_or, length, slice_set, take, ◌==◌, ◌||◌}
use Rattle.std.proofs.lemmas.Bool.{eqb-false, eqb-true, ne_eqb}
use Rattle.std.proofs.lemmas.List.{get_or-set_other, get_or-set_same, get_or-take, length-append}
use Rattle.std.proofs.Math.ListN.{get_or-append}
use Rattle.std.proofs.Math.Seq.{get_or-append_seam}
use Rattle.check_laws.specs.SoundScopes.{Falls}
use Rattle.regent_tree.specs.Accesses.{space_in}
use Rattle.regent_tree.specs.Lookup.{is_bound}
use Rattle.regent_tree.specs.Scopes.{bound_as, bound_to}
use Rattle.regent_tree.specs.StaticTypes.{Reach}
use Rattle.regent_tree.specs.Syntax.{Name}
use Rattle.regent_tree.specs.Typing.{parent_of, reaches_of, taken_from}
use Rattle.regent_tree.specs.Values.{Partition, Region, Value, a_number, a_partition, a_pointer, a_region, a_space, a_truth, an_index}
use Rattle.regent_tree.specs.declared.facts.Term.TheVariants as term
use Rattle.regent_tree.specs.declared.typing.Bound.{Bound}
use Rattle.regent_tree.specs.declared.typing.StaticType.{StaticType}
use Rattle.regent_tree.specs.declared.typing.StaticType.TheVariants.{Unknown as unknown_type}
use Rattle.code_laws.specs.Pointers.{ArePointed, ArePointedIn, AreReached, IsCut, IsCutAs, IsOfName, IsOfPart, IsPointed, given_pointed, more_pointed}
use Rattle.code_laws.specs.Simple.{IsPartition, IsRegion, IsSimple, a_region_type, simple_index, simple_integer, simple_space, simple_truth}
use Rattle.code_laws.specs.Standing.{AreOf, IsOf, RegionsStay, nothing, of_index, of_integer, of_region, of_space, of_truth}
use Rattle.code_laws.specs.Typed.{IsOwnRegion}
use Rattle.code_rules.specs.Slots.{Where}
use Rattle.code_laws.proofs.Values.{not_true}

-- ---- values that are no pointers, and no partitions

abbrev pub IsPlain : Value → Type 0
IsPlain (a_pointer t rs) = ⊥
IsPlain (a_number w z) = Unit {0}
IsPlain (a_truth b) = Unit {0}
IsPlain (an_index z) = Unit {0}
IsPlain (a_space n) = Unit {0}
IsPlain (a_region q) = Unit {0}
IsPlain (a_partition p) = ⊥

pub plain_pointed : (bs : List Bound) (names : List Value) (t : StaticType) (v : Value) → IsPlain v → IsPointed bs names t v
plain_pointed bs names t (a_pointer target rs) p = absurd p
plain_pointed bs names t (a_number w z) p = tt
plain_pointed bs names t (a_truth b) p = tt
plain_pointed bs names t (an_index z) p = tt
plain_pointed bs names t (a_space n) p = tt
plain_pointed bs names t (a_region q) p = tt
plain_pointed bs names t (a_partition q) p = absurd p

pub simple_plain : (t : StaticType) (v : Value) → IsSimple t → IsOf t v → IsPlain v
simple_plain _ _ (simple_integer w) (of_integer _ z p) = tt
simple_plain _ _ simple_truth (of_truth b) = tt
simple_plain _ _ (simple_space k) (of_space _ n p) = tt
simple_plain _ _ (simple_index k) (of_index _ z p) = tt

pub simple_pointed : (bs : List Bound) (names : List Value) (t : StaticType) (v : Value) → IsSimple t → IsOf t v → IsPointed bs names t v
simple_pointed bs names t v s o = plain_pointed bs names t v (simple_plain t v s o)

pub region_pointed : (bs : List Bound) (names : List Value) (t : StaticType) (v : Value) → IsRegion t → IsOf t v → IsPointed bs names t v
region_pointed bs names _ _ (a_region_type k sp args r) (of_region _ _ _ _ q) = tt

pub all_plain : (all bs : List Bound) (names : List Value) → AreOf (λ t v. IsPlain v) bs names → ArePointedIn all bs names
all_plain all [] names a = tt
all_plain all (b ∷ bs) names a = (plain_pointed all names b.static_type (get_or names b.place nothing) a.1, all_plain all bs names a.2)

-- ---- other values

pub reached_stays : (bs : List Bound) (names after : List Value) (sp : ℕ) (rs : List Reach) (qs : List Region) →
    RegionsStay (length bs) names after → AreReached bs names sp rs qs → AreReached bs after sp rs qs
reached_stays bs names after sp [] [] stay a = tt
reached_stays bs names after sp (Some (term.Name i) ∷ rs) (q ∷ qs) stay a = (
  record {
    numbered = a.0.numbered;
    region = a.0.region;
    space = a.0.space;
    below = a.0.below;
    value = stay (bound_as bs i).place q a.0.below a.0.value;
  },
  reached_stays bs names after sp rs qs stay a.1,
)
reached_stays bs names after sp (Some (term.Child p c) ∷ rs) (q ∷ qs) stay a = (
  record {
    numbered = a.0.numbered;
    partition = a.0.partition;
    parent = a.0.parent;
    is = record {
      numbered = a.0.is.numbered;
      region = a.0.is.region;
      space = a.0.is.space;
      below = a.0.is.below;
      value = stay (bound_as bs (parent_of (bound_as bs p).static_type)).place a.0.parent a.0.is.below a.0.is.value;
    };
    root = a.0.root;
    within = a.0.within;
  },
  reached_stays bs names after sp rs qs stay a.1,
)
reached_stays bs names after sp (None ∷ rs) (q ∷ qs) stay a = reached_stays bs names after sp rs qs stay a
reached_stays bs names after sp _ _ stay a = absurd a

-- so of a partition's parent
cut_stays : (bs : List Bound) (names after : List Value) (r : ℕ) (q : Partition) → RegionsStay (length bs) names after →
    IsCut bs names r q → IsCut bs after r q
cut_stays bs names after r q stay c = record {
  parent = c.parent;
  is = record {
    numbered = c.is.numbered;
    region = c.is.region;
    space = c.is.space;
    below = c.is.below;
    value = stay (bound_as bs r).place c.parent c.is.below c.is.value;
  };
  root = c.root;
  sets = c.sets;
  apart = c.apart;
  few = c.few;
}

pointed_stays : (bs : List Bound) (names after : List Value) (t : StaticType) (v : Value) → RegionsStay (length bs) names after →
    IsPointed bs names t v → IsPointed bs after t v
pointed_stays bs names after t (a_pointer target qs) stay a = reached_stays bs names after (space_in t) (reaches_of t) qs stay a
pointed_stays bs names after t (a_number w z) stay a = tt
pointed_stays bs names after t (a_truth b) stay a = tt
pointed_stays bs names after t (an_index z) stay a = tt
pointed_stays bs names after t (a_space n) stay a = tt
pointed_stays bs names after t (a_region q) stay a = tt
pointed_stays bs names after t (a_partition q) stay a = cut_stays bs names after (parent_of t) q stay a

-- where the values below a place are the same
below_same : (all : List Bound) (names after : List Value) (n p : ℕ) (t : StaticType) → length all ≤ n → p < n →
    ((p : ℕ) → p < n → get_or after p nothing ≡ get_or names p nothing) → IsPointed all names t (get_or names p nothing) →
    IsPointed all after t (get_or after p nothing)
below_same all names after n p t l low same a =
    subst (IsPointed all after t) (sym (same p low))
    (pointed_stays all names after t (get_or names p nothing) (λ k q less e. same k (omega (arith, less, l)) ∙ e) a)

same_in : (all bs : List Bound) (names after : List Value) (n : ℕ) → length all ≤ n → length bs ≤ n →
    ((p : ℕ) → p < n → get_or after p nothing ≡ get_or names p nothing) → AreOf IsOf bs names → ArePointedIn all bs names → ArePointedIn all bs after
same_in all [] names after n l k same o a = tt
same_in all (b ∷ bs) names after n l k same o a = (
  below_same all names after n b.place b.static_type l (omega (arith, o.0, k)) same a.0,
  same_in all bs names after n l (omega (arith, k)) same o.2 a.1,
)

pointed_same : {params : ℕ} (bs : List Bound) (names after : List Value) (n : ℕ) → length bs ≤ n →
    ((p : ℕ) → p < n → get_or after p nothing ≡ get_or names p nothing) → AreOf IsOf bs names → ArePointed params names bs →
    ArePointed params after bs
pointed_same _ names after n l same o (given_pointed bs e a) = given_pointed bs e (same_in bs bs names after n l l same o a)
pointed_same _ names after n l same o (more_pointed b bs p a) = more_pointed b bs
    (below_same bs names after n b.place b.static_type (omega (arith, l)) (omega (arith, o.0, l)) same p)
    (pointed_same bs names after n (omega (arith, l)) same o.2 a)

-- one more name
pub pointed_more : {params : ℕ} (b : Bound) (bs : List Bound) (names : List Value) (v : Value) → length names ≡ length bs → b.place ≡ length bs →
    AreOf IsOf bs names → IsPointed bs names b.static_type v → ArePointed params names bs → ArePointed params (names ++ v ∷ []) (b ∷ bs)
pointed_more b bs names v long place o p a =
    let last : get_or (names ++ v ∷ []) b.place nothing ≡ v =
    ap (λ k. get_or (names ++ v ∷ []) k nothing) (place ∙ sym long) ∙ get_or-append_seam names v [] nothing in
    more_pointed b bs
    (subst (IsPointed bs (names ++ v ∷ []) b.static_type) (sym last)
    (pointed_stays bs names (names ++ v ∷ []) b.static_type v
    (λ k q low e. get_or-append names (v ∷ []) nothing k (omega (arith, low, long)) ∙ e) p))
    (pointed_same bs names (names ++ v ∷ []) (length names) (omega (arith, long))
    (λ k low. get_or-append names (v ∷ []) nothing k low) o a)

-- fewer names, with all parameters among them
one_fewer : {params : ℕ} (b : Bound) (bs : List Bound) (names : List Value) → params ≤ length bs → ArePointed params names (b ∷ bs) → ArePointed params names bs
one_fewer b bs names low (given_pointed _ e a) = absurd (omega (arith, low, e))
one_fewer b bs names low (more_pointed _ _ p a) = a

pub pointed_fewer : {params : ℕ} (more bs : List Bound) (names : List Value) → params ≤ length bs → ArePointed params names (more ++ bs) →
    ArePointed params names bs
pointed_fewer [] bs names low a = a
pointed_fewer (b ∷ more) bs names low a =
    pointed_fewer more bs names low (one_fewer b (more ++ bs) names (omega (arith, low, length-append more bs)) a)

pub pointed_cut : {params : ℕ} (bs : List Bound) (names : List Value) (n : ℕ) → length bs ≤ n → AreOf IsOf bs names → ArePointed params names bs →
    ArePointed params (take n names) bs
pointed_cut bs names n l o a = pointed_same bs names (take n names) n l (λ k low. get_or-take n names k nothing low) o a

-- another value in the place of one that is no region
abbrev pub IsNoRegion : Value → Type 0
IsNoRegion v = (q : Region) → v ≡ a_region q → ⊥

-- the regions of one pointer are those of another
abbrev pub GoAlike : Value → Value → Type 0
GoAlike old v = (bs : List Bound) (names : List Value) (t : StaticType) → IsPointed bs names t old → IsPointed bs names t v

pub simple_no_region : (t : StaticType) (v : Value) → IsSimple t → IsOf t v → IsNoRegion v
simple_no_region _ _ (simple_integer w) (of_integer _ z p) q e = absurd cc
simple_no_region _ _ simple_truth (of_truth b) q e = absurd cc
simple_no_region _ _ (simple_space k) (of_space _ n p) q e = absurd cc
simple_no_region _ _ (simple_index k) (of_index _ z p) q e = absurd cc

pub simple_alike : (t : StaticType) (old v : Value) → IsSimple t → IsOf t v → GoAlike old v
simple_alike t old v s o bs names u p = plain_pointed bs names u v (simple_plain t v s o)

pub region_kept : (names : List Value) (k : ℕ) (v : Value) → IsNoRegion (get_or names k nothing) → (p : ℕ) (q : Region) →
    get_or names p nothing ≡ a_region q → get_or (slice_set names k v) p nothing ≡ a_region q
region_kept names k v none p q e = by (k == p) refl
  where
    by : (c : Bool) → (k == p) ≡ c → get_or (slice_set names k v) p nothing ≡ a_region q
    by true c = absurd (none q (ap (λ n. get_or names n nothing) (eqb-true k p c) ∙ e))
    by false c = get_or-set_other names k p v nothing (λ d. eqb-false k p c (sym d)) ∙ e

module _ (names : List Value) (k : ℕ) (v : Value) (room : k < length names) (none : IsNoRegion (get_or names k nothing))
    (alike : GoAlike (get_or names k nothing) v) where
  set_at : (all : List Bound) (b : Bound) → IsPointed all names b.static_type (get_or names b.place nothing) →
      IsPointed all (slice_set names k v) b.static_type (get_or (slice_set names k v) b.place nothing)
  set_at all b a =
      pointed_stays all names (slice_set names k v) b.static_type (get_or (slice_set names k v) b.place nothing)
      (λ p q low e. region_kept names k v none p q e) (own (k == b.place) refl)
    where
      own : (c : Bool) → (k == b.place) ≡ c → IsPointed all names b.static_type (get_or (slice_set names k v) b.place nothing)
      own true c = subst (λ p. IsPointed all names b.static_type (get_or (slice_set names k v) p nothing)) (eqb-true k b.place c)
          (subst (IsPointed all names b.static_type) (sym (get_or-set_same names k v nothing room))
          (alike all names b.static_type (subst (λ p. IsPointed all names b.static_type (get_or names p nothing)) (sym (eqb-true k b.place c)) a)))
      own false c = subst (IsPointed all names b.static_type)
          (sym (get_or-set_other names k b.place v nothing (λ d. eqb-false k b.place c (sym d)))) a

  set_in : (all bs : List Bound) → ArePointedIn all bs names → ArePointedIn all bs (slice_set names k v)
  set_in all [] a = tt
  set_in all (b ∷ bs) a = (set_at all b a.0, set_in all bs a.1)

  pub pointed_set : (params : ℕ) (bs : List Bound) → ArePointed params names bs → ArePointed params (slice_set names k v) bs
  pointed_set params _ (given_pointed bs e a) = given_pointed bs e (set_in bs bs a)
  pointed_set params _ (more_pointed b bs p a) = more_pointed b bs (set_at bs b p) (pointed_set params bs a)

-- ---- by numbers

-- a binding that is found by its number has one below those behind it, where something holds of its type
bound_below : (Kind : StaticType → Type 0) → (Kind unknown_type → ⊥) → (next : ℕ) (bs : List Bound) (i : ℕ) → Falls next bs →
    Kind (bound_as bs i).static_type → (bound_as bs i).number < next
bound_below Kind none next [] i f r = absurd (none r)
bound_below Kind none next (b ∷ bs) i f r = chosen (b.number == i) (λ r. omega (arith, f.0, bound_below Kind none b.number bs i f.1 r)) r
  where
    chosen : (c : Bool) → (Kind (bound_as bs i).static_type → (bound_as bs i).number < next) →
        Kind (cond c b (bound_as bs i)).static_type → (cond c b (bound_as bs i)).number < next
    chosen true more r = f.0
    chosen false more r = more r

pub found_below : (next : ℕ) (bs : List Bound) (i : ℕ) → Falls next bs → IsRegion (bound_as bs i).static_type → (bound_as bs i).number < next
found_below next bs i f r = bound_below IsRegion (λ r. elim r [ ]) next bs i f r

cut_below : (next : ℕ) (bs : List Bound) (i : ℕ) → Falls next bs → IsPartition (bound_as bs i).static_type → (bound_as bs i).number < next
cut_below next bs i f r = bound_below IsPartition (λ r. elim r [ ]) next bs i f r

-- the region of a number, where another name comes
name_wider : (b : Bound) (bs : List Bound) (names : List Value) (sp i : ℕ) (q : Region) → Falls b.number bs →
    IsOfName (bound_as bs i) (length bs) names sp i q → IsOfName (bound_as (b ∷ bs) i) (length (b ∷ bs)) names sp i q
name_wider b bs names sp i q f a = wider (b.number == i) (ne_eqb b.number i (λ e. omega (arith, e, a.numbered, found_below b.number bs i f a.region)))
  where
    wider : (c : Bool) → c ≡ false → IsOfName (cond c b (bound_as bs i)) (length (b ∷ bs)) names sp i q
    wider c e = subst (λ c. IsOfName (cond c b (bound_as bs i)) (length (b ∷ bs)) names sp i q) (sym e) (record {
      numbered = a.numbered;
      region = a.region;
      space = a.space;
      below = omega (arith, a.below);
      value = a.value;
    })

reached_wider : (b : Bound) (bs : List Bound) (names : List Value) (sp : ℕ) (rs : List Reach) (qs : List Region) → Falls b.number bs →
    AreReached bs names sp rs qs → AreReached (b ∷ bs) names sp rs qs
reached_wider b bs names sp [] [] f a = tt
reached_wider b bs names sp (Some (term.Name i) ∷ rs) (q ∷ qs) f a = (name_wider b bs names sp i q f a.0, reached_wider b bs names sp rs qs f a.1)
reached_wider b bs names sp (Some (term.Child p c) ∷ rs) (q ∷ qs) f a = (
  wider (b.number == p) (ne_eqb b.number p (λ e. omega (arith, e, a.0.numbered, cut_below b.number bs p f a.0.partition))),
  reached_wider b bs names sp rs qs f a.1,
)
  where
    wider : (d : Bool) → d ≡ false → IsOfPart (b ∷ bs) (cond d b (bound_as bs p)) (length (b ∷ bs)) names sp p q
    wider d e = subst (λ d. IsOfPart (b ∷ bs) (cond d b (bound_as bs p)) (length (b ∷ bs)) names sp p q) (sym e) (record {
      numbered = a.0.numbered;
      partition = a.0.partition;
      parent = a.0.parent;
      is = name_wider b bs names sp (parent_of (bound_as bs p).static_type) a.0.parent f a.0.is;
      root = a.0.root;
      within = a.0.within;
    })
reached_wider b bs names sp (None ∷ rs) (q ∷ qs) f a = reached_wider b bs names sp rs qs f a
reached_wider b bs names sp _ _ f a = absurd a

-- so of a partition's parent
cut_wider : (b : Bound) (bs : List Bound) (names : List Value) (r : ℕ) (q : Partition) → Falls b.number bs → IsCut bs names r q →
    IsCut (b ∷ bs) names r q
cut_wider b bs names r q f c =
    wider (b.number == r) (ne_eqb b.number r (λ e. omega (arith, e, c.is.numbered, found_below b.number bs r f c.is.region)))
  where
    wider : (d : Bool) → d ≡ false → IsCutAs (cond d b (bound_as bs r)) (length (b ∷ bs)) names r q
    wider d e = subst (λ d. IsCutAs (cond d b (bound_as bs r)) (length (b ∷ bs)) names r q) (sym e) (record {
      parent = c.parent;
      is = record {
        numbered = c.is.numbered;
        region = c.is.region;
        space = c.is.space;
        below = omega (arith, c.is.below);
        value = c.is.value;
      };
      root = c.root;
      sets = c.sets;
      apart = c.apart;
      few = c.few;
    })

pointed_wider : (b : Bound) (bs : List Bound) (names : List Value) (t : StaticType) (v : Value) → Falls b.number bs →
    IsPointed bs names t v → IsPointed (b ∷ bs) names t v
pointed_wider b bs names t (a_pointer target qs) f a = reached_wider b bs names (space_in t) (reaches_of t) qs f a
pointed_wider b bs names t (a_number w z) f a = tt
pointed_wider b bs names t (a_truth c) f a = tt
pointed_wider b bs names t (an_index z) f a = tt
pointed_wider b bs names t (a_space n) f a = tt
pointed_wider b bs names t (a_region q) f a = tt
pointed_wider b bs names t (a_partition q) f a = cut_wider b bs names (parent_of t) q f a

-- the pointer of a name goes to regions of names in scope
named_in : (all bs : List Bound) (names : List Value) (n : Name) → ArePointedIn all bs names → is_bound bs n ≡ true →
    IsPointed all names (bound_to bs n).static_type (get_or names (bound_to bs n).place nothing)
named_in all [] names n a h = absurd (not_true h)
named_in all (b ∷ bs) names n a h = chosen (bytes_eq b.name n) (named_in all bs names n a.1) h
  where
    chosen : (c : Bool) → (is_bound bs n ≡ true → IsPointed all names (bound_to bs n).static_type (get_or names (bound_to bs n).place nothing)) →
        (c || is_bound bs n) ≡ true → IsPointed all names (cond c b (bound_to bs n)).static_type (get_or names (cond c b (bound_to bs n)).place nothing)
    chosen true more e = a.0
    chosen false more e = more e

pub named_pointed : {params : ℕ} (next : ℕ) (bs : List Bound) (names : List Value) (n : Name) → Falls next bs → ArePointed params names bs →
    is_bound bs n ≡ true → IsPointed bs names (bound_to bs n).static_type (get_or names (bound_to bs n).place nothing)
named_pointed next _ names n f (given_pointed bs e a) h = named_in bs bs names n a h
named_pointed next _ names n f (more_pointed b bs p a) h = chosen (bytes_eq b.name n) (named_pointed b.number bs names n f.1 a) h
  where
    chosen : (c : Bool) → (is_bound bs n ≡ true →
        IsPointed bs names (bound_to bs n).static_type (get_or names (bound_to bs n).place nothing)) → (c || is_bound bs n) ≡ true →
        IsPointed (b ∷ bs) names (cond c b (bound_to bs n)).static_type (get_or names (cond c b (bound_to bs n)).place nothing)
    chosen true more e = pointed_wider b bs names b.static_type (get_or names b.place nothing) f.1 p
    chosen false more e = pointed_wider b bs names (bound_to bs n).static_type (get_or names (bound_to bs n).place nothing) f.1 (more e)

-- what holds of the value that a region's name has
pub numbered : (Holding : StaticType → Value → Type 0) (bs : List Bound) (names : List Value) (i : ℕ) → AreOf Holding bs names →
    IsRegion (bound_as bs i).static_type →
    Holding (bound_as bs i).static_type (get_or names (bound_as bs i).place nothing) × ((bound_as bs i).place < length bs)
numbered Holding [] names i a r = absurd (elim r [ ])
numbered Holding (b ∷ bs) names i a r = chosen (b.number == i) (numbered Holding bs names i a.2) r
  where
    chosen : (c : Bool) → (IsRegion (bound_as bs i).static_type →
        Holding (bound_as bs i).static_type (get_or names (bound_as bs i).place nothing) × ((bound_as bs i).place < length bs)) →
        IsRegion (cond c b (bound_as bs i)).static_type →
        Holding (cond c b (bound_as bs i)).static_type (get_or names (cond c b (bound_as bs i)).place nothing)
        × ((cond c b (bound_as bs i)).place < length (b ∷ bs))
    chosen true more r = (a.1, omega (arith, a.0))
    chosen false more r = let m = more r in (m.0, omega (arith, m.1))

-- a region's name goes to the region that it has
pub own_reached : (w : Where) (b : Bound) (t : StaticType) (names : List Value) (q : Region) → IsOwnRegion w b t → AreOf IsOf w.scope.names names →
    get_or names b.place nothing ≡ a_region q → AreReached w.scope.names names (space_in t) (reaches_of (taken_from t)) (q ∷ [])
own_reached w b t names q own o e = subst (λ rs. AreReached w.scope.names names (space_in t) rs (q ∷ [])) (sym own.is) (
  record {
    numbered = own.numbered;
    region = own.typed;
    space = own.space;
    below = (numbered IsOf w.scope.names names own.number o own.typed).1;
    value = ap (λ k. get_or names k nothing) own.place ∙ e;
  },
  tt,
)
