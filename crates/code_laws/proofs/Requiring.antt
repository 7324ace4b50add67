-- What a call requires: it lies within the caller's needs where each need is covered there, and it covers what the
-- called task may do.
use Rattle.std.proofs.Common.{◌≡◌, ℕ, zero, suc, ◌<◌, List, [], ◌∷◌, ◌⊎◌, inl, inr, Bool, true, false, Option, Some, None, refl, sym, ap, ◌∙◌, subst, ⊎_elim}
use Rattle.std.specs.Prelude.{cond, length, map, nat_lt, slice_get, ◌==◌}
use Rattle.std.specs.List.{list_all}
use Rattle.std.proofs.lemmas.Bool.{and_from, and_parts, eq-eqb, eqb-true, lt-ltb, or_cases}
use Rattle.std.proofs.lemmas.Option.{none-some, same_Some}
use Rattle.plain_values.specs.Points.{has}
use Rattle.lane_kernels.specs.declared.numbers.Mode.{Mode}
use Rattle.lane_kernels.specs.declared.numbers.Mode.TheVariants as mode
use Rattle.region_tree.specs.Requirements.{Requirement, is_at, is_of, is_within, join_from, mode_at, modes_at, same_mode}
use Rattle.region_tree.proofs.Covering.{within_tells}
use Rattle.region_tree.proofs.Joins.{from_Some, modes_at-cons, same_mode-itself, same_mode-tells}
use Rattle.regent_tree.proofs.Members.{Has}
use Rattle.regent_tree.specs.Store.{Store}
use Rattle.regent_tree.specs.Values.{Value, a_number, a_partition, a_pointer, a_region, a_space, a_truth, an_index}
use Rattle.task_code.specs.declared.code.Code.{Code}
use Rattle.task_code.specs.declared.code.NeedCode.{NeedCode}
use Rattle.machine_terms.specs.declared.order.Contents.{Contents}
use Rattle.machine_terms.specs.declared.value.RegionValue.{RegionValue}
use Rattle.machine_terms.specs.declared.value.Value.{Value as MachineValue}
use Rattle.machine_terms.specs.Contents.{image_of, kinds_of}
use Rattle.machine_terms.specs.Makes.{region_with}
use Rattle.machine_terms.specs.Opening.{required_before, required_on, requirements_on, with_points}
use Rattle.machine_terms.specs.Pointers.{region_in}
use Rattle.memory_laws.specs.Covering.{AreCovered}
use Rattle.memory_laws.specs.Memory.{Memory}
use Rattle.memory_laws.specs.Places.{number_at}
use Rattle.memory_laws.specs.Touches.{Covers}
use Rattle.code_laws.specs.Standing.{machine_value}
use Rattle.code_laws.specs.Taking.{allows, given_region, is_asked}
use Rattle.code_laws.proofs.Values.{not_true}

-- ---- joins of modes

covers_tells : (m : Mode) (o : Option Mode) → Covers m o → (o ≡ Some m) ⊎ (o ≡ Some mode.Write)
covers_tells mode.Read o e = e
covers_tells mode.Write o e = inl e
covers_tells (mode.Reduce p) o (inl e) = inr e
covers_tells (mode.Reduce p) o (inr e) = inl e

covers_from : (m : Mode) (o : Option Mode) → (o ≡ Some m) ⊎ (o ≡ Some mode.Write) → Covers m o
covers_from mode.Read o e = e
covers_from mode.Write o (inl e) = e
covers_from mode.Write o (inr e) = e
covers_from (mode.Reduce p) o (inl e) = inr e
covers_from (mode.Reduce p) o (inr e) = inl e

-- all the same, or all are covered by writing
all_same : (m : Mode) (ms : List Mode) (o : Option Mode) → o ≡ Some m → ((k : Mode) → Has ms k → Covers k o) →
    (list_all (same_mode m) ms ≡ true) ⊎ (o ≡ Some mode.Write)
all_same m [] o e h = inl refl
all_same m (k ∷ ms) o e h =
    ⊎_elim
    (λ d. let same : m ≡ k = same_Some m k (sym e ∙ d) in
    ⊎_elim (λ more. inl (and_from (same_mode m k) (list_all (same_mode m) ms)
    (subst (λ n. same_mode m n ≡ true) same (same_mode-itself m)) more)) (λ w. inr w) (all_same m ms o e (λ j g. h j (inr g))))
    (λ w. inr w) (covers_tells k o (h k (inl refl)))

-- modes that are covered each join to one that is within
joined_within : (ms : List Mode) (o : Option Mode) → ((m : Mode) → Has ms m → Covers m o) →
    (join_from None ms ≡ None) ⊎ ((join_from None ms ≡ o) ⊎ (o ≡ Some mode.Write))
joined_within [] o h = inl refl
joined_within (m ∷ ms) o h =
    ⊎_elim
    (λ e. ⊎_elim
    (λ same. inr (inl (from_Some m ms ∙ ap (λ b. Some (cond b m mode.Write)) same ∙ sym e)))
    (λ w. inr (inr w)) (all_same m ms o e (λ k g. h k (inr g))))
    (λ w. inr (inr w)) (covers_tells m o (h m (inl refl)))

all_at : (p : Mode → Bool) (ms : List Mode) (m : Mode) → list_all p ms ≡ true → Has ms m → p m ≡ true
all_at p [] m e h = absurd h
all_at p (k ∷ ms) m e (inl d) = subst (λ n. p n ≡ true) d (and_parts (p k) (list_all p ms) e).0
all_at p (k ∷ ms) m e (inr h) = all_at p ms m (and_parts (p k) (list_all p ms) e).1 h

-- a mode is the join of those it is among, or that is Write
mode_among : (ms : List Mode) (m : Mode) → Has ms m → (join_from None ms ≡ Some m) ⊎ (join_from None ms ≡ Some mode.Write)
mode_among [] m h = absurd h
mode_among (k ∷ ms) m h = chosen (list_all (same_mode k) ms) refl h
  where
    chosen : (b : Bool) → list_all (same_mode k) ms ≡ b → Has (k ∷ ms) m →
        (join_from (Some k) ms ≡ Some m) ⊎ (join_from (Some k) ms ≡ Some mode.Write)
    chosen false e h = inr (from_Some k ms ∙ ap (λ b. Some (cond b k mode.Write)) e)
    chosen true e (inl d) = inl (from_Some k ms ∙ ap (λ b. Some (cond b k mode.Write)) e ∙ ap (λ n. Some n) d)
    chosen true e (inr g) = inl (from_Some k ms ∙ ap (λ b. Some (cond b k mode.Write)) e
        ∙ ap (λ n. Some n) (same_mode-tells k m (all_at (same_mode k) ms m e g)))

-- ---- requirements

-- one more in front, where its region has points
more_modes : (r : Requirement) (xs : List ℕ) (rs : List Requirement) (root field point : ℕ) (m : Mode) →
    Has (modes_at rs root field point) m → Has (modes_at (with_points xs r rs) root field point) m
more_modes r [] rs root field point m h = h
more_modes r (x ∷ xs) rs root field point m h =
    subst (λ ms. Has ms m) (sym (modes_at-cons r rs root field point)) (chosen (is_at root field point r))
  where
    chosen : (b : Bool) → Has (cond b (r.mode ∷ modes_at rs root field point) (modes_at rs root field point)) m
    chosen true = inr h
    chosen false = h

own_mode : (r : Requirement) (xs : List ℕ) (rs : List Requirement) (root field point : ℕ) → has xs point ≡ true →
    is_at root field point r ≡ true → Has (modes_at (with_points xs r rs) root field point) r.mode
own_mode r [] rs root field point some at = absurd (not_true some)
own_mode r (x ∷ xs) rs root field point some at =
    subst (λ ms. Has ms r.mode) (sym (modes_at-cons r rs root field point
    ∙ ap (λ b. cond b (r.mode ∷ modes_at rs root field point) (modes_at rs root field point)) at)) (inl refl)

fewer_modes : (r : Requirement) (xs : List ℕ) (rs : List Requirement) (root field point : ℕ) (m : Mode) →
    Has (modes_at (with_points xs r rs) root field point) m →
    ((is_at root field point r ≡ true) × (r.mode ≡ m)) ⊎ Has (modes_at rs root field point) m
fewer_modes r [] rs root field point m h = inr h
fewer_modes r (x ∷ xs) rs root field point m h =
    chosen (is_at root field point r) refl (subst (λ ms. Has ms m) (modes_at-cons r rs root field point) h)
  where
    chosen : (b : Bool) → is_at root field point r ≡ b → Has (cond b (r.mode ∷ modes_at rs root field point) (modes_at rs root field point)) m →
        ((is_at root field point r ≡ true) × (r.mode ≡ m)) ⊎ Has (modes_at rs root field point) m
    chosen true e (inl d) = inl (e, d)
    chosen true e (inr g) = inr g
    chosen false e g = inr g

-- what a list of requirements is made of
record Split (a : Option Requirement) (o : Option (List Requirement)) (rs : List Requirement) : Type 0 where
  one : Requirement
  rest : List Requirement
  first : a ≡ Some one
  others : o ≡ Some rest
  are : with_points one.points one rest ≡ rs

split : (a : Option Requirement) (o : Option (List Requirement)) (rs : List Requirement) → required_before a o ≡ Some rs → Split a o rs
split None o rs e = absurd (none-some rs e)
split (Some r) None rs e = absurd (none-some rs e)
split (Some r) (Some more) rs e = record { one = r; rest = more; first = refl; others = refl; are = same_Some _ rs e }

-- the requirement of a need on a region
abbrev requires : NeedCode → RegionValue → Requirement
requires n v = record { root = v.root.0; points = v.points; field = n.field; mode = n.mode }

module _ (code : Code) (c : Contents) (args : List MachineValue) where
  -- a need is of a region, of whose root the field is
  pub record IsOnRegion (n : NeedCode) : Type 0 where
    pub region : RegionValue
    pub at : region_in (slice_get args n.param) ≡ Some region
    pub field : n.field < length (kinds_of code (image_of c region.root.0).space)

  on_region : (n : NeedCode) (o : Option RegionValue) (r : Requirement) → required_on code c n o ≡ Some r →
      (v : RegionValue) × (o ≡ Some v) × (requires n v ≡ r)
  on_region n None r e = absurd (none-some r e)
  on_region n (Some v) r e = chosen (nat_lt n.field (length (kinds_of code (image_of c v.root.0).space))) e
    where
      chosen : (b : Bool) → cond b (Some (requires n v)) None ≡ Some r → (u : RegionValue) × (Some v ≡ Some u) × (requires n u ≡ r)
      chosen true e = (v, refl, same_Some (requires n v) r e)
      chosen false e = absurd (none-some r e)

  -- what is required of arguments is there
  pub requirements_there : (ns : List NeedCode) → ((n : NeedCode) → Has ns n → IsOnRegion n) →
      (rs : List Requirement) × (requirements_on code c ns args ≡ Some rs)
  requirements_there [] h = ([], refl)
  requirements_there (n ∷ ns) h =
      let is = h n (inl refl) in
      let more = requirements_there ns (λ k g. h k (inr g)) in (
        with_points is.region.points (requires n is.region) more.0,
        ap (λ o. required_before (required_on code c n o) (requirements_on code c ns args)) is.at
            ∙ ap (λ b. required_before (cond b (Some (requires n is.region)) None) (requirements_on code c ns args))
            (lt-ltb n.field (length (kinds_of code (image_of c is.region.root.0).space)) is.field)
            ∙ ap (required_before (Some (requires n is.region))) more.1,
      )

  -- a mode that is required at a point is that of a need
  pub record IsNeeded (ns : List NeedCode) (root field point : ℕ) (m : Mode) : Type 0 where
    pub need : NeedCode
    pub among : Has ns need
    pub region : RegionValue
    pub at : region_in (slice_get args need.param) ≡ Some region
    pub root_is : region.root.0 ≡ root
    pub field_is : need.field ≡ field
    pub has_it : has region.points point ≡ true
    pub mode_is : need.mode ≡ m

  pub modes_from : (ns : List NeedCode) (rs : List Requirement) → requirements_on code c ns args ≡ Some rs →
      (root field point : ℕ) (m : Mode) → Has (modes_at rs root field point) m → IsNeeded ns root field point m
  modes_from [] rs e root field point m h =
      absurd (subst (λ qs. Has (modes_at qs root field point) m) (sym (same_Some [] rs e)) h)
  modes_from (n ∷ ns) rs e root field point m h =
      let s = split (required_on code c n (region_in (slice_get args n.param))) (requirements_on code c ns args) rs e in
      let one = on_region n (region_in (slice_get args n.param)) s.one s.first in
      ⊎_elim
      (λ here. let at = subst (λ r. is_at root field point r ≡ true) (sym one.2) here.0 in
      let parts = and_parts (is_of root field (requires n one.0)) (has one.0.points point) at in
      let both = and_parts (one.0.root.0 == root) (n.field == field) parts.0 in record {
        need = n;
        among = inl refl;
        region = one.0;
        at = one.1;
        root_is = eqb-true one.0.root.0 root both.0;
        field_is = eqb-true n.field field both.1;
        has_it = parts.1;
        mode_is = ap (λ (r : Requirement). r.mode) one.2 ∙ here.1;
      })
      (λ more. let is = modes_from ns s.rest s.others root field point m more in record {
        need = is.need;
        among = inr is.among;
        region = is.region;
        at = is.at;
        root_is = is.root_is;
        field_is = is.field_is;
        has_it = is.has_it;
        mode_is = is.mode_is;
      })
      (fewer_modes s.one s.one.points s.rest root field point m
      (subst (λ qs. Has (modes_at qs root field point) m) (sym s.are) h))

  -- the mode of a need is required at each point of its region
  pub modes_to : (ns : List NeedCode) (rs : List Requirement) → requirements_on code c ns args ≡ Some rs →
      (n : NeedCode) → Has ns n → (v : RegionValue) → region_in (slice_get args n.param) ≡ Some v →
      (point : ℕ) → has v.points point ≡ true → Has (modes_at rs v.root.0 n.field point) n.mode
  modes_to [] rs e n h v at point some = absurd h
  modes_to (k ∷ ns) rs e n h v at point some =
      let s = split (required_on code c k (region_in (slice_get args k.param))) (requirements_on code c ns args) rs e in
      let one = on_region k (region_in (slice_get args k.param)) s.one s.first in
      subst (λ qs. Has (modes_at qs v.root.0 n.field point) n.mode) s.are
      (⊎_elim
      (λ (d : k ≡ n).
      let same : one.0 ≡ v = same_Some one.0 v (sym one.1 ∙ ap (λ (q : NeedCode). region_in (slice_get args q.param)) d ∙ at) in
      let is : s.one ≡ requires n v = sym one.2 ∙ ap (requires k) same ∙ ap (λ q. requires q v) d in
      subst (λ r. Has (modes_at (with_points r.points r s.rest) v.root.0 n.field point) n.mode) (sym is)
      (own_mode (requires n v) v.points s.rest v.root.0 n.field point some
      (and_from (is_of v.root.0 n.field (requires n v)) (has v.points point)
      (and_from (v.root.0 == v.root.0) (n.field == n.field) (eq-eqb v.root.0 v.root.0 refl) (eq-eqb n.field n.field refl)) some)))
      (λ g. more_modes s.one s.one.points s.rest v.root.0 n.field point n.mode
      (modes_to ns s.rest s.others n g v at point some)) h)

-- ---- what the called task may do

-- the region of an argument that has points
region_given : (c : Contents) (vs : List Value) (k point : ℕ) → has (given_region vs k).points point ≡ true →
    region_in (slice_get (map (machine_value c) vs) k)
    ≡ Some (region_with (number_at c (given_region vs k).root) (given_region vs k).points)
region_given c [] k point e = absurd (not_true e)
region_given c (v ∷ vs) (suc k) point e = region_given c vs k point e
region_given c (a_region q ∷ vs) zero point e = refl
region_given c (a_number w z ∷ vs) zero point e = absurd (not_true e)
region_given c (a_truth b ∷ vs) zero point e = absurd (not_true e)
region_given c (an_index z ∷ vs) zero point e = absurd (not_true e)
region_given c (a_pointer t rs ∷ vs) zero point e = absurd (not_true e)
region_given c (a_space n ∷ vs) zero point e = absurd (not_true e)
region_given c (a_partition p ∷ vs) zero point e = absurd (not_true e)

-- a mode that a need allows is covered where the need's is required
allowed_covers : (m a : Mode) (ms : List Mode) → allows m a ≡ true → Has ms m → Covers a (join_from None ms)
allowed_covers m a ms e h =
    covers_from a (join_from None ms)
    (⊎_elim
    (λ same. ⊎_elim (λ d. inl (d ∙ ap (λ n. Some n) (same_mode-tells m a same))) (λ w. inr w) (mode_among ms m h))
    (λ writes. ⊎_elim (λ d. inr (d ∙ ap (λ n. Some n) (same_mode-tells m mode.Write writes))) (λ w. inr w) (mode_among ms m h))
    (or_cases (same_mode m a) (same_mode m mode.Write) e))

pub asked_covered : (code : Code) (c : Contents) (vs : List Value) (ns : List NeedCode) (store : Store) (m : Memory) →
    m.contents ≡ c → requirements_on code c ns (map (machine_value c) vs) ≡ Some m.needs →
    (n : NeedCode) → Has ns n → AreCovered (is_asked vs n) store m
asked_covered code c vs ns store m same e n h t asked low =
    let one = and_parts (n.field == t.field) _ asked in
    let two = and_parts (allows n.mode t.access) _ one.1 in
    let three = and_parts ((given_region vs n.param).root == t.root) _ two.1 in
    let q = given_region vs n.param in
    let v = region_with (number_at c q.root) q.points in
    let there = modes_to code c (map (machine_value c) vs) ns m.needs e n h v (region_given c vs n.param t.point three.1) t.point three.1 in
    let covers : Covers t.access (mode_at m.needs (number_at c q.root) n.field t.point) =
    allowed_covers n.mode t.access (modes_at m.needs (number_at c q.root) n.field t.point) two.0 there in
    subst (λ d. Covers t.access (mode_at m.needs (number_at d t.root) t.field t.point)) (sym same)
    (subst (λ r. Covers t.access (mode_at m.needs (number_at c r) t.field t.point)) (eqb-true q.root t.root three.0)
    (subst (λ f. Covers t.access (mode_at m.needs (number_at c q.root) f t.point)) (eqb-true n.field t.field one.0) covers))

-- ---- what the caller has

-- requirements each of whose modes is covered are within
pub covered_within : (code : Code) (c : Contents) (args : List MachineValue) (ns : List NeedCode) (rs theirs : List Requirement) →
    requirements_on code c ns args ≡ Some rs →
    ((root field point : ℕ) (m : Mode) → IsNeeded code c args ns root field point m → Covers m (mode_at theirs root field point)) →
    is_within rs theirs ≡ true
covered_within code c args ns rs theirs e covers =
    (within_tells rs theirs).1 (λ root field point. joined_within (modes_at rs root field point) (mode_at theirs root field point)
    (λ m h. covers root field point m (modes_from code c args ns rs e root field point m h)))
