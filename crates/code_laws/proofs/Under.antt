-- Regions that began as parts lie within the regions of which the partitions are: where more names come, some go, or one has
-- another value.
use Rattle.std.proofs.Common.{◌≡◌, ℕ, ◌<◌, ◌≤◌, List, [], ◌∷◌, ◌++◌, Bool, true, false, Option, Some, None, refl, sym, ap, ◌∙◌, subst, arith, ◌⊎◌, inl, inr}
use Rattle.std.specs.Prelude.{bytes_eq, cond, get_or, length, slice_set, take, ◌==◌, ◌||◌}
use Rattle.std.proofs.lemmas.Bool.{eqb-false, eqb-true, ne_eqb}
use Rattle.std.proofs.lemmas.List.{get_or-set_other, get_or-set_same, get_or-take}
use Rattle.std.proofs.Math.ListN.{get_or-append}
use Rattle.std.proofs.Math.Seq.{get_or-append_seam}
use Rattle.check_laws.specs.SoundScopes.{Falls}
use Rattle.regent_tree.specs.Accesses.{space_in}
use Rattle.regent_tree.specs.Lookup.{is_bound}
use Rattle.regent_tree.specs.Scopes.{bound_as, bound_to}
use Rattle.regent_tree.specs.Syntax.{Name}
use Rattle.regent_tree.specs.Values.{Region, Value, a_region, Partition, a_partition}
use Rattle.regent_tree.specs.declared.facts.Term.{Term}
use Rattle.regent_tree.specs.declared.facts.Term.TheVariants as term
use Rattle.regent_tree.specs.declared.types.Kind.{Kind}
use Rattle.regent_tree.specs.StaticTypes.{Reach}
use Rattle.regent_tree.specs.declared.typing.Bound.{Bound}
use Rattle.regent_tree.specs.declared.typing.StaticType.{StaticType}
use Rattle.regent_tree.specs.declared.typing.StaticType.TheVariants.{Region as region_type}
use Rattle.code_laws.specs.Pointers.{IsOfName, IsPointer, a_pointer_type}
use Rattle.code_laws.specs.Simple.{IsPartition, IsRegion, IsSimple, a_partition_type, simple_index, simple_integer, simple_space, simple_truth, term_in}
use Rattle.code_laws.specs.Standing.{AreOf, AreUnder, IsOf, IsUnder, IsUnderName, RegionsStay, nothing, of_index, of_integer, of_partition, of_pointer, of_region, of_space, of_truth}
use Rattle.code_laws.specs.Steps.{Taking}
use Rattle.code_laws.specs.Taking.{BeginsWhole, IsSubregion, LiesUp, MayDo, is_need, up_itself, up_part}
use Rattle.lane_kernels.specs.declared.numbers.Mode.{Mode}
use Rattle.std.specs.List.{list_any}
use Rattle.code_laws.proofs.Pointing.{IsNoRegion, found_below, region_kept}
use Rattle.std.proofs.lemmas.Option.{none-some}
use Rattle.code_laws.proofs.Values.{not_true}
use Rattle.regent_tree.specs.declared.facts.Colour.{Colour}
use Rattle.regent_tree.specs.declared.facts.Colour.TheVariants.{Constant, Loop, Unknown}
use Rattle.code_laws.specs.Coloured.{IsBoundIn, IsColour, IsPartOf, point_of}

-- ---- values that are no regions

pub type_under : (takes : Option Taking) (bs : List Bound) (names : List Value) (t : StaticType) (v : Value) → (IsRegion t → ⊥) → IsUnder takes bs names t v
type_under None bs names t v none = tt
type_under (Some y) bs names t v none = (λ i r q region named behind above is. absurd (none region), λ i k q region named behind piece is. absurd (none region))

pub value_under : (takes : Option Taking) (bs : List Bound) (names : List Value) (t : StaticType) (v : Value) → IsNoRegion v → IsUnder takes bs names t v
value_under None bs names t v none = tt
value_under (Some y) bs names t v none = (λ i r q region named behind above is. absurd (none q is), λ i k q region named behind piece is. absurd (none q is))

pub none_under : (takes : Option Taking) (bs : List Bound) (names : List Value) → AreOf (λ t v. IsNoRegion v) bs names → AreUnder takes bs names
none_under takes [] names a = tt
none_under takes (b ∷ bs) names a = (value_under takes bs names b.static_type (get_or names b.place nothing) a.1, none_under takes bs names a.2)

pub simple_not_region : (t : StaticType) → IsSimple t → IsRegion t → ⊥
simple_not_region _ (simple_integer w) r = elim r [ ]
simple_not_region _ simple_truth r = elim r [ ]
simple_not_region _ (simple_space k) r = elim r [ ]
simple_not_region _ (simple_index k) r = elim r [ ]

pub pointer_not_region : (t : StaticType) → IsPointer t → IsRegion t → ⊥
pointer_not_region _ (a_pointer_type k sp args rs names) r = elim r [ ]

pub partition_not_region : (t : StaticType) → IsPartition t → IsRegion t → ⊥
partition_not_region _ (a_partition_type d r p) q = elim q [ ]

-- a region that was made began as no part
abbrev name_in : Term → ℕ
name_in (term.Name i) = i
name_in (term.Child p c) = 0

pub whole_under : (takes : Option Taking) (bs : List Bound) (names : List Value) (k : Kind) (sp : ℕ) (args : List Reach) (own : ℕ) (v : Value) → BeginsWhole takes own →
    IsUnder takes bs names (region_type k sp args (term.Name own)) v
whole_under None bs names k sp args own v w = tt
whole_under (Some y) bs names k sp args own v w = (
  λ i r q region named behind above is. absurd (none-some r (sym w.1 ∙ ap y.above (ap name_in named) ∙ above)),
  λ i c q region named behind piece is. absurd (none-some c (sym w.2 ∙ ap y.piece (ap name_in named) ∙ piece)),
)

-- a value in the place of one that is no region is none, where both are of one type
pub alike_no_region : (t : StaticType) (old v : Value) → IsOf t old → IsOf t v → IsNoRegion old → IsNoRegion v
alike_no_region _ _ _ (of_region _ _ _ _ p) (of_region k sp args r q) none = absurd (none p refl)
alike_no_region _ old _ o (of_integer w z f) none = λ q e. absurd cc
alike_no_region _ old _ o (of_truth b) none = λ q e. absurd cc
alike_no_region _ old _ o (of_index k z f) none = λ q e. absurd cc
alike_no_region _ old _ o (of_pointer k sp args rs tg qs f) none = λ q e. absurd cc
alike_no_region _ old _ o (of_space k n f) none = λ q e. absurd cc
alike_no_region _ old _ o (of_partition d r p u) none = λ q e. absurd cc

-- ---- other values

name_stays : (bs : List Bound) (names after : List Value) (r : ℕ) (q : Region) → RegionsStay (length bs) names after → IsUnderName bs names r q →
    IsUnderName bs after r q
name_stays bs names after r q stay u = record {
  whole = u.whole;
  is = record {
    numbered = u.is.numbered;
    region = u.is.region;
    space = u.is.space;
    below = u.is.below;
    value = stay (bound_as bs r).place u.whole u.is.below u.is.value;
  };
  named = u.named;
  within = u.within;
}

-- a partition and the variable of a loop have the values that they had
abbrev pub IsFixed : Bound → Value → Type 0
IsFixed b v = (b.by_loop ≡ true) ⊎ ((q : Partition) × (v ≡ a_partition q))

abbrev pub FixedStay : List Bound → List Value → List Value → Type 0
FixedStay bs names after = (b : Bound) → IsBoundIn bs b → IsFixed b (get_or names b.place nothing) → get_or after b.place nothing ≡ get_or names b.place nothing

colour_stays : (bs : List Bound) (names after : List Value) (k : Colour) (c : ℕ) → FixedStay bs names after → IsColour bs names k c → IsColour bs after k c
colour_stays bs names after (Constant z) c fixed h = h
colour_stays bs names after (Loop i) c fixed h = record {
  variable = h.variable;
  there = h.there;
  number = h.number;
  by_loop = h.by_loop;
  is = ap point_of (fixed h.variable h.there (inl h.by_loop)) ∙ h.is;
}
colour_stays bs names after Unknown c fixed h = tt

part_stays : (bs : List Bound) (names after : List Value) (p : ℕ) (k : Colour) (q : Region) → FixedStay bs names after → IsPartOf bs names p k q → IsPartOf bs after p k q
part_stays bs names after p k q fixed u = record {
  cut = u.cut;
  there = u.there;
  number = u.number;
  partition = u.partition;
  has_it = fixed u.cut u.there (inr (u.partition, u.has_it)) ∙ u.has_it;
  colour = u.colour;
  is_colour = colour_stays bs names after k u.colour fixed u.is_colour;
  is = u.is;
}

under_stays : (takes : Option Taking) (bs : List Bound) (names after : List Value) (t : StaticType) (v w : Value) → RegionsStay (length bs) names after →
    FixedStay bs names after → ((q : Region) → w ≡ a_region q → v ≡ a_region q) → IsUnder takes bs names t v → IsUnder takes bs after t w
under_stays None bs names after t v w stay fixed same u = tt
under_stays (Some y) bs names after t v w stay fixed same u = (
  λ i r q region named behind above is. name_stays bs names after r q stay (u.0 i r q region named behind above (same q is)),
  λ i k q region named behind piece is. part_stays bs names after k.0 k.1 q fixed (u.1 i k q region named behind piece (same q is)),
)

-- where the regions below a place are the same
under_same : (takes : Option Taking) (bs : List Bound) (names after : List Value) (n : ℕ) → length bs ≤ n → RegionsStay n names after → RegionsStay n after names →
    FixedStay bs names after → AreOf IsOf bs names → AreUnder takes bs names → AreUnder takes bs after
under_same takes [] names after n l stay same fixed o u = tt
under_same takes (b ∷ bs) names after n l stay same fixed o u = (
  under_stays takes bs names after b.static_type (get_or names b.place nothing) (get_or after b.place nothing)
      (λ p q low e. stay p q (omega (arith, low, l)) e) (λ c h f. fixed c (inr h) f) (λ q e. same b.place q (omega (arith, o.0, l)) e) u.0,
  under_same takes bs names after n (omega (arith, l)) stay same (λ c h f. fixed c (inr h) f) o.2 u.1,
)

-- each name has its place below those that come
pub place_below : (bs : List Bound) (names : List Value) (b : Bound) → AreOf IsOf bs names → IsBoundIn bs b → b.place < length bs
place_below [] names b o h = absurd h
place_below (c ∷ bs) names b o (inl e) = subst (λ (b : Bound). b.place < length (c ∷ bs)) e (omega (arith, o.0))
place_below (c ∷ bs) names b o (inr h) = let l = place_below bs names b o.2 h in omega (arith, l)

-- one more name
pub under_more : (takes : Option Taking) (b : Bound) (bs : List Bound) (names : List Value) (v : Value) → length names ≡ length bs → b.place ≡ length bs →
    AreOf IsOf bs names → IsUnder takes bs names b.static_type v → AreUnder takes bs names → AreUnder takes (b ∷ bs) (names ++ v ∷ [])
under_more takes b bs names v long place o u us =
    let last : get_or (names ++ v ∷ []) b.place nothing ≡ v =
    ap (λ k. get_or (names ++ v ∷ []) k nothing) (place ∙ sym long) ∙ get_or-append_seam names v [] nothing in
    let fixed : FixedStay bs names (names ++ v ∷ []) =
    λ c h f. let low = place_below bs names c o h in get_or-append names (v ∷ []) nothing c.place (omega (arith, low, long)) in (
      under_stays takes bs names (names ++ v ∷ []) b.static_type v (get_or (names ++ v ∷ []) b.place nothing)
          (λ k q low e. get_or-append names (v ∷ []) nothing k (omega (arith, low, long)) ∙ e) fixed (λ q e. sym last ∙ e) u,
      under_same takes bs names (names ++ v ∷ []) (length bs) (omega arith)
          (λ k q low e. get_or-append names (v ∷ []) nothing k (omega (arith, low, long)) ∙ e)
          (λ k q low e. sym (get_or-append names (v ∷ []) nothing k (omega (arith, low, long))) ∙ e) fixed o us,
    )

-- fewer names
pub under_fewer : (takes : Option Taking) (more bs : List Bound) (names : List Value) → AreUnder takes (more ++ bs) names → AreUnder takes bs names
under_fewer takes [] bs names u = u
under_fewer takes (b ∷ more) bs names u = under_fewer takes more bs names u.1

pub under_cut : (takes : Option Taking) (bs : List Bound) (names : List Value) (n : ℕ) → length bs ≤ n → AreOf IsOf bs names → AreUnder takes bs names →
    AreUnder takes bs (take n names)
under_cut takes bs names n l o u =
    under_same takes bs names (take n names) n l (λ k q low e. get_or-take n names k nothing low ∙ e) (λ k q low e. sym (get_or-take n names k nothing low) ∙ e)
    (λ c h f. let low = place_below bs names c o h in get_or-take n names c.place nothing (omega (arith, low, l))) o u

-- another value in the place of one, where neither is a region
pub under_set : (takes : Option Taking) (bs : List Bound) (names : List Value) (k : ℕ) (v : Value) → k < length names →
    IsNoRegion (get_or names k nothing) → IsNoRegion v → ((b : Bound) → IsBoundIn bs b → IsFixed b (get_or names b.place nothing) → b.place ≡ k → ⊥) →
    AreOf IsOf bs names → AreUnder takes bs names → AreUnder takes bs (slice_set names k v)
under_set takes bs names k v room none new other o u =
    under_same takes bs names (slice_set names k v) (length bs) (omega arith) (λ p q low e. region_kept names k v none p q e) (λ p q low e. back p q e)
    (λ c h f. get_or-set_other names k c.place v nothing (λ d. other c h f (omega (arith, d)))) o u
  where
    back : (p : ℕ) (q : Region) → get_or (slice_set names k v) p nothing ≡ a_region q → get_or names p nothing ≡ a_region q
    back p q e = by (k == p) refl
      where
        by : (c : Bool) → (k == p) ≡ c → get_or names p nothing ≡ a_region q
        by true c = absurd (new q (sym (get_or-set_same names k v nothing room) ∙ ap (λ n. get_or (slice_set names k v) n nothing) (eqb-true k p c) ∙ e))
        by false c = sym (get_or-set_other names k p v nothing (λ d. eqb-false k p c (sym d))) ∙ e

-- ---- that of a name

name_wider : (b : Bound) (bs : List Bound) (names : List Value) (r : ℕ) (q : Region) → Falls b.number bs → IsUnderName bs names r q →
    IsUnderName (b ∷ bs) names r q
name_wider b bs names r q f u =
    let w = wider (b.number == r) (ne_eqb b.number r (λ e. omega (arith, e, u.is.numbered, found_below b.number bs r f u.is.region))) in
    record { whole = u.whole; is = w.0; named = w.1; within = u.within }
  where
    wider : (d : Bool) → d ≡ false → IsOfName (cond d b (bound_as bs r)) (length (b ∷ bs)) names (space_in (cond d b (bound_as bs r)).static_type) r u.whole
        × (term_in (cond d b (bound_as bs r)).static_type ≡ term.Name r)
    wider d e = subst (λ d. IsOfName (cond d b (bound_as bs r)) (length (b ∷ bs)) names (space_in (cond d b (bound_as bs r)).static_type) r u.whole
        × (term_in (cond d b (bound_as bs r)).static_type ≡ term.Name r)) (sym e) (
          record {
            numbered = u.is.numbered;
            region = u.is.region;
            space = u.is.space;
            below = omega (arith, u.is.below);
            value = u.is.value;
          },
          u.named,
        )

part_wider : (b : Bound) (bs : List Bound) (names : List Value) (p : ℕ) (k : Colour) (q : Region) → IsPartOf bs names p k q → IsPartOf (b ∷ bs) names p k q
part_wider b bs names p k q u = record {
  cut = u.cut;
  there = inr u.there;
  number = u.number;
  partition = u.partition;
  has_it = u.has_it;
  colour = u.colour;
  is_colour = wider k u.is_colour;
  is = u.is;
}
  where
    wider : (k : Colour) → IsColour bs names k u.colour → IsColour (b ∷ bs) names k u.colour
    wider (Constant z) h = h
    wider (Loop i) h = record { variable = h.variable; there = inr h.there; number = h.number; by_loop = h.by_loop; is = h.is }
    wider Unknown h = tt

under_wider : (takes : Option Taking) (b : Bound) (bs : List Bound) (names : List Value) (t : StaticType) (v : Value) → Falls b.number bs →
    IsUnder takes bs names t v → IsUnder takes (b ∷ bs) names t v
under_wider None b bs names t v f u = tt
under_wider (Some y) b bs names t v f u = (
  λ i r q region named behind above is. name_wider b bs names r q f (u.0 i r q region named behind above is),
  λ i k q region named behind piece is. part_wider b bs names k.0 k.1 q (u.1 i k q region named behind piece is),
)

-- among all names in scope
pub under_named : (takes : Option Taking) (next : ℕ) (bs : List Bound) (names : List Value) (n : Name) → Falls next bs → AreUnder takes bs names →
    is_bound bs n ≡ true → IsUnder takes bs names (bound_to bs n).static_type (get_or names (bound_to bs n).place nothing)
under_named takes next [] names n f u h = absurd (not_true h)
under_named takes next (b ∷ bs) names n f u h = chosen (bytes_eq b.name n) (under_named takes b.number bs names n f.1 u.1) h
  where
    chosen : (c : Bool) → (is_bound bs n ≡ true →
        IsUnder takes bs names (bound_to bs n).static_type (get_or names (bound_to bs n).place nothing)) → (c || is_bound bs n) ≡ true →
        IsUnder takes (b ∷ bs) names (cond c b (bound_to bs n)).static_type (get_or names (cond c b (bound_to bs n)).place nothing)
    chosen true more e = under_wider takes b bs names b.static_type (get_or names b.place nothing) f.1 u.0
    chosen false more e = under_wider takes b bs names (bound_to bs n).static_type (get_or names (bound_to bs n).place nothing) f.1 (more e)

-- so by its number
pub under_numbered : (takes : Option Taking) (next : ℕ) (bs : List Bound) (names : List Value) (i : ℕ) → Falls next bs → AreUnder takes bs names →
    IsRegion (bound_as bs i).static_type → IsUnder takes bs names (bound_as bs i).static_type (get_or names (bound_as bs i).place nothing)
under_numbered takes next [] names i f u r = absurd (elim r [ ])
under_numbered takes next (b ∷ bs) names i f u r = chosen (b.number == i) (under_numbered takes b.number bs names i f.1 u.1) r
  where
    chosen : (c : Bool) → (IsRegion (bound_as bs i).static_type →
        IsUnder takes bs names (bound_as bs i).static_type (get_or names (bound_as bs i).place nothing)) → IsRegion (cond c b (bound_as bs i)).static_type →
        IsUnder takes (b ∷ bs) names (cond c b (bound_as bs i)).static_type (get_or names (cond c b (bound_as bs i)).place nothing)
    chosen true more r = under_wider takes b bs names b.static_type (get_or names b.place nothing) f.1 u.0
    chosen false more r = under_wider takes b bs names (bound_as bs i).static_type (get_or names (bound_as bs i).place nothing) f.1 (more r)

-- ---- up to the regions of which the partitions are

-- a parameter's region began as none: so an access to it may be made where it is needed so; and each to one that was made
low_itself : (y : Taking) (i j : ℕ) → LiesUp y i j → i < y.params → j ≡ i
low_itself y i _ (up_itself _) low = refl
low_itself y i j (up_part _ r _ high above more) low = absurd (omega (arith, high, low))

whole_itself : (y : Taking) (i j : ℕ) → LiesUp y i j → y.above i ≡ None → j ≡ i
whole_itself y i _ (up_itself _) none = refl
whole_itself y i j (up_part _ r _ high above more) none = absurd (none-some r (sym none ∙ above))

pub made_may : (y : Taking) (i field : ℕ) (a : Mode) → y.params ≤ i → y.above i ≡ None → MayDo (Some y) (term.Name i) field a
made_may y i field a high none j up low = let same = whole_itself y i j up none in absurd (omega (arith, low, high, same))

pub taken_may : (y : Taking) (i field : ℕ) (a : Mode) → i < y.params → list_any (is_need y i field a) y.needs ≡ true → MayDo (Some y) (term.Name i) field a
taken_may y i field a l e j up low = subst (λ j. list_any (is_need y j field a) y.needs ≡ true) (sym (low_itself y i j up l)) e

pub sub_itself : (q : Region) → IsSubregion q q
sub_itself q = (refl, λ root point e. e)

pub sub_through : (q p o : Region) → IsSubregion q p → IsSubregion p o → IsSubregion q o
sub_through q p o a b = (a.0 ∙ b.0, λ root point e. b.1 root point (a.1 root point e))

-- the region of a name that is found by its number, which names it
pub record IsOfNumber (bs : List Bound) (names : List Value) (i : ℕ) (q : Region) : Type 0 where
  pub is : IsOfName (bound_as bs i) (length bs) names (space_in (bound_as bs i).static_type) i q
  pub named : term_in (bound_as bs i).static_type ≡ term.Name i

pub lies_up : (y : Taking) (next : ℕ) (bs : List Bound) (names : List Value) → Falls next bs → AreUnder (Some y) bs names → (i j : ℕ) → LiesUp y i j →
    (q : Region) → IsOfNumber bs names i q → (p : Region) × IsOfNumber bs names j p × IsSubregion q p
lies_up y next bs names f u i _ (up_itself _) q is = (q, is, sub_itself q)
lies_up y next bs names f u i j (up_part _ r _ behind above up) q is =
    let n = (under_numbered (Some y) next bs names i f u is.is.region).0 i r q is.is.region is.named behind above is.is.value in
    let more = lies_up y next bs names f u r j up n.whole (record { is = n.is; named = n.named }) in
    (more.0, more.1, sub_through q n.whole more.0 n.within more.2)
