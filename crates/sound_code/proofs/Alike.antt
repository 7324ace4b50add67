-- Values that are alike: the same, or regions of one root with the same points. A task may be called with what is alike.
use Rattle.std.proofs.Common.{◌≡◌, ℕ, zero, suc, ◌+◌, ◌<◌, List, [], ◌∷◌, ◌++◌, map, Bool, true, false, ◌&&◌, cond, None, Option, Some, refl, sym, ap, ◌∙◌, subst, arith}
use Rattle.std.specs.Prelude.{flat_map, length, nat_lt, slice_get}
use Rattle.std.proofs.lemmas.Option.{none-some, same_Some}
use Rattle.plain_values.specs.Points.{has, IsPoints}
use Rattle.regent_tree.specs.Scopes.{scope_of}
use Rattle.regent_tree.specs.Syntax.{TaskTree, Tree}
use Rattle.regent_tree.specs.declared.facts.Known.{Known}
use Rattle.regent_tree.specs.declared.facts.Known.TheVariants.{Within, Apart, PartOf}
use Rattle.regent_tree.specs.declared.facts.Term.TheVariants.{Name, Child}
use Rattle.regent_tree.specs.declared.typing.StaticType.{StaticType}
use Rattle.regent_tree.specs.declared.typing.StaticType.TheVariants.{Integer as integer_type, Truth as truth_type, Index as index_type, Pointer as pointer_type, Ispace as ispace_type, Region as region_type, Partition as partition_type, Nothing as no_type, Unknown as unknown_type}
use Rattle.task_code.specs.declared.code.NeedCode.{NeedCode}
use Rattle.machine_terms.specs.declared.value.RegionValue.{RegionValue}
use Rattle.machine_terms.specs.declared.value.Value.{Value}
use Rattle.machine_terms.specs.declared.value.Value.TheVariants as value
use Rattle.machine_terms.specs.Opening.{with_points}
use Rattle.machine_terms.specs.Pointers.{region_in}
use Rattle.machine_terms.specs.Regions.{partition_in}
use Rattle.fit_rules.specs.Shapes.{argument, Are, are_more, are_none, Each, Is, is_anything, is_number, is_partition, is_region, is_space, IsRegion, Numeric, numeric_index, numeric_integer, numeric_pointer, numeric_truth, Origin, partition, region, Shape, space, World}
use Rattle.fit_rules.specs.Marks.{apart, Fact, Holds, in_slot, lies, parted}
use Rattle.fit_rules.specs.Fits.{claim_on, count_at, declared_claims, Program, requires}
use Rattle.fit_rules.specs.Ends.{called, IsNeeded}
use Rattle.sound_code.specs.Ways.{by_rules, opening_facts, origin_behind, shape_in, told_by, Tops}
use Rattle.sound_code.proofs.Interpreting.{not_below}
use Rattle.sound_code.proofs.Parameters.{AreAt, IsLow, IsOwnAt}

pub data Alike : Value → Value → Type 0 where
  alike_same : (v : Value) → Alike v v
  alike_regions : (r q : RegionValue) → r.root.0 ≡ q.root.0 → r.points ≡ q.points → Alike (value.Region r) (value.Region q)

pub data AllAlike : List Value → List Value → Type 0 where
  none_alike : AllAlike [] []
  more_alike : (v u : Value) (vs us : List Value) → Alike v u → AllAlike vs us → AllAlike (v ∷ vs) (u ∷ us)

-- ---- regions at a place

data LikeRegions : Option RegionValue → Option RegionValue → Type 0 where
  no_regions : LikeRegions None None
  like_regions : (r q : RegionValue) → r.root.0 ≡ q.root.0 → r.points ≡ q.points → LikeRegions (Some r) (Some q)

like_itself : (o : Option RegionValue) → LikeRegions o o
like_itself None = no_regions
like_itself (Some r) = like_regions r r refl refl

like_one : (v u : Value) → Alike v u → LikeRegions (region_in (Some v)) (region_in (Some u))
like_one _ _ (alike_same v) = like_itself (region_in (Some v))
like_one _ _ (alike_regions r q e p) = like_regions r q e p

like_at : (vs us : List Value) → AllAlike vs us → (i : ℕ) → LikeRegions (region_in (slice_get vs i)) (region_in (slice_get us i))
like_at _ _ none_alike i = no_regions
like_at _ _ (more_alike v u vs us h a) zero = like_one v u h
like_at _ _ (more_alike v u vs us h a) (suc i) = like_at vs us a i

same_partition : (v u : Value) → Alike v u → partition_in (Some v) ≡ partition_in (Some u)
same_partition _ _ (alike_same v) = refl
same_partition _ _ (alike_regions r q e p) = refl

partition_at : (vs us : List Value) → AllAlike vs us → (i : ℕ) → partition_in (slice_get vs i) ≡ partition_in (slice_get us i)
partition_at _ _ none_alike i = refl
partition_at _ _ (more_alike v u vs us h a) zero = same_partition v u h
partition_at _ _ (more_alike v u vs us h a) (suc i) = partition_at vs us a i

pub as_many : (vs us : List Value) → AllAlike vs us → length vs ≡ length us
as_many _ _ none_alike = refl
as_many _ _ (more_alike v u vs us h a) = ap suc (as_many vs us a)

-- the one that is like another
record Like (o : Option RegionValue) (r : RegionValue) : Type 0 where
  it : RegionValue
  at : o ≡ Some it
  root : it.root.0 ≡ r.root.0
  points : it.points ≡ r.points

like_back : (o p : Option RegionValue) (r : RegionValue) → LikeRegions o p → p ≡ Some r → Like o r
like_back _ _ r no_regions e = absurd (none-some r e)
like_back _ _ r (like_regions d q root points) e = subst (Like (Some d)) (same_Some q r e) (record { it = d; at = refl; root = root; points = points })

like_there : (o p : Option RegionValue) (r : RegionValue) → LikeRegions o p → o ≡ Some r → Like p r
like_there _ _ r no_regions e = absurd (none-some r e)
like_there _ _ r (like_regions d q root points) e = subst (Like (Some q)) (same_Some d r e) (record { it = q; at = refl; root = sym root; points = sym points })

-- ---- facts of regions and partitions in slots

abbrev IsOfSlots : Fact → Type 0
IsOfSlots (lies (in_slot a) (in_slot b)) = Unit {0}
IsOfSlots (apart (in_slot a) (in_slot b)) = Unit {0}
IsOfSlots (parted p s) = Unit {0}
IsOfSlots k = ⊥

module _ (vs us : List Value) (like : AllAlike vs us) where
  back : (i : ℕ) (r : RegionValue) → region_in (slice_get us i) ≡ Some r → Like (region_in (slice_get vs i)) r
  back i r e = like_back _ _ r (like_at vs us like i) e

  there : (i : ℕ) (r : RegionValue) → region_in (slice_get vs i) ≡ Some r → Like (region_in (slice_get us i)) r
  there i r e = like_there _ _ r (like_at vs us like i) e

  holds_like : (k : Fact) → IsOfSlots k → Holds k vs → Holds k us
  holds_like (lies (in_slot a) (in_slot b)) so h = λ r e.
      let d = back a r e in
      let w = h d.it d.at in
      let q = there b w.other w.at in
      record {
        other = q.it;
        at = q.at;
        inside = (
          sym d.root ∙ w.inside.0 ∙ sym q.root,
          λ p ip. subst (λ ps. has ps p ≡ true) (sym q.points) (w.inside.1 p (subst (λ ps. has ps p ≡ true) (sym d.points) ip)),
        );
      }
  holds_like (apart (in_slot a) (in_slot b)) so h = λ r q e f root p ip.
      let d = back a r e in
      let c = back b q f in
      subst (λ ps. has ps p ≡ false) c.points
      (h d.it c.it d.at c.at (d.root ∙ root ∙ sym c.root) p (subst (λ ps. has ps p ≡ true) (sym d.points) ip))
  holds_like (parted p s) so h = λ q e.
      let w = h q (partition_at vs us like p ∙ e) in
      let d = there s w.parent w.at in
      record {
        parent = d.it;
        at = d.at;
        root = w.root ∙ sym d.root;
        inside = λ r a.
            let i = w.inside r a in (i.0 ∙ sym d.root, λ z iz. subst (λ ps. has ps z ≡ true) (sym d.points) (i.1 z iz));
      }
  holds_like _ so h = absurd so

  each_like : (ks : List Fact) → Each IsOfSlots ks → Each (λ k. Holds k vs) ks → Each (λ k. Holds k us) ks
  each_like [] so h = tt
  each_like (k ∷ ks) so h = (holds_like k so.0 h.0, each_like ks so.1 h.1)

-- what clauses tell is of such
chosen_so : (c : Bool) (k : Fact) → IsOfSlots k → Each IsOfSlots (cond c (k ∷ []) [])
chosen_so true k so = (so, tt)
chosen_so false k so = tt

told_so : (params : ℕ) (k : Known) → Each IsOfSlots (told_by params k)
told_so params (Within (Name a) (Name b)) = chosen_so (nat_lt a params && nat_lt b params) (lies (in_slot a) (in_slot b)) tt
told_so params (Apart (Name a) (Name b)) = chosen_so (nat_lt a params && nat_lt b params) (apart (in_slot a) (in_slot b)) tt
told_so params (PartOf p r d) = chosen_so (nat_lt p params && nat_lt r params) (parted p r) tt
told_so params _ = tt

both_so : (ks ls : List Fact) → Each IsOfSlots ks → Each IsOfSlots ls → Each IsOfSlots (ks ++ ls)
both_so [] ls a b = b
both_so (k ∷ ks) ls a b = (a.0, both_so ks ls a.1 b)

all_so : (params : ℕ) (ks : List Known) → Each IsOfSlots (flat_map (told_by params) ks)
all_so params [] = tt
all_so params (k ∷ ks) = both_so (told_by params k) (flat_map (told_by params) ks) (told_so params k) (all_so params ks)

pub told_like : (tops : Tops) (tree : Tree) (u : TaskTree) (vs us : List Value) → AllAlike vs us →
    Each (λ k. Holds k vs) (opening_facts (by_rules tops u) tree u) → Each (λ k. Holds k us) (opening_facts (by_rules tops u) tree u)
told_like tops tree u vs us like h = each_like vs us like (opening_facts (by_rules tops u) tree u) (all_so (length u.params) (scope_of tree u).known) h

-- ---- values of the parameters' types

module _ (x y : World) where
  like_number : (s : Shape) (v u : Value) → Numeric s → Is x s v → Alike v u → Is y s u
  like_number _ _ _ (numeric_integer w) (is_number _ z h) (alike_same _) = is_number _ z h
  like_number _ _ _ numeric_truth (is_number _ z h) (alike_same _) = is_number _ z h
  like_number _ _ _ numeric_index (is_number _ z h) (alike_same _) = is_number _ z h
  like_number _ _ _ (numeric_pointer n) (is_number _ z h) (alike_same _) = is_number _ z h

  like_space : (v u : Value) → Is x space v → Alike v u → Is y space u
  like_space _ _ (is_space n l) (alike_same _) = is_space n l
  like_space _ _ (is_number _ z h) a = absurd h

module _ (x : World) (vs us : List Value) where
  like_partition : (d : Bool) (v u : Value) → Is (called x vs) (partition None d) v → Alike v u → Is (called x us) (partition None d) u
  like_partition d _ _ (is_partition _ _ q h) (alike_same _) = is_partition None d q (record {
    flag = h.flag;
    apart = h.apart;
    there = h.there;
    space = h.space;
    count = h.count;
    regions = λ r a.
        let i = (h.regions r a).1 in
        ((h.regions r a).0, record { there = i.there; space = i.space; set = i.set; points = i.points; origin = tt });
  })
  like_partition d _ _ (is_number _ z h) a = absurd h

  region_of : (sp k : ℕ) (o : Origin) (r q : RegionValue) → IsRegion (called x vs) (Some sp) o r → r.root.0 ≡ q.root.0 → r.points ≡ q.points →
      region_in (slice_get us k) ≡ Some q → IsRegion (called x us) (Some sp) (argument k) q
  region_of sp k o r q i root points at = record {
    there = subst (λ n. x.there n ≡ true) root i.there;
    space = subst (λ n. x.spaces n ≡ sp) root i.space;
    set = subst (IsPoints 4194304) points i.set;
    points = λ p ip. subst (λ n. has (x.points n) p ≡ true) root (i.points p (subst (λ ps. has ps p ≡ true) (sym points) ip));
    origin = at;
  }

  like_region : (sp k : ℕ) (o : Origin) (v u : Value) → Is (called x vs) (region (Some sp) o) v → Alike v u → slice_get us k ≡ Some u →
      Is (called x us) (region (Some sp) (argument k)) u
  like_region sp k o _ _ (is_region _ _ r i) (alike_same _) at = is_region (Some sp) (argument k) r (region_of sp k o r r i refl refl (ap region_in at))
  like_region sp k o _ _ (is_region _ _ r i) (alike_regions _ q root points) at = is_region (Some sp) (argument k) q (region_of sp k o r q i root points (ap region_in at))
  like_region sp k o _ _ (is_number _ z h) a at = absurd h

  module _ (tops : Tops) (callee : TaskTree) (n : ℕ) where
    abbrev shape : StaticType → Shape
    shape p = shape_in (by_rules tops callee) n p

    taken_like : (p : StaticType) (k : ℕ) (v u : Value) → IsLow n p → IsOwnAt k p → Alike v u → slice_get us k ≡ Some u → Is (called x vs) (shape p) v → Is (called x us) (shape p) u
    taken_like (region_type c sp args (Name i)) k v u low own a at h =
        subst (λ o. Is (called x us) (region (Some sp) o) u)
        (ap argument (sym own) ∙ sym (ap (λ b. cond b (origin_behind n i (tops callee i)) (argument i)) (not_below n i low)))
        (like_region sp k _ v u h a at)
    taken_like (region_type c sp args (Child q e)) k v u low own a at h = absurd low
    taken_like (integer_type w) k v u low own a at h = like_number (called x vs) (called x us) _ v u (numeric_integer w) h a
    taken_like truth_type k v u low own a at h = like_number (called x vs) (called x us) _ v u numeric_truth h a
    taken_like (index_type c) k v u low own a at h = like_number (called x vs) (called x us) _ v u numeric_index h a
    taken_like (pointer_type c sp args rs) k v u low own a at h = like_number (called x vs) (called x us) _ v u (numeric_pointer (length rs)) h a
    taken_like (ispace_type c) k v u low own a at h = like_space (called x vs) (called x us) v u h a
    taken_like (partition_type d r p) k v u low own a at h = like_partition d v u h a
    taken_like no_type k v u low own a at h = is_anything u
    taken_like unknown_type k v u low own a at h = is_anything u

    pub all_taken : (k : ℕ) (ps : List StaticType) (ws zs : List Value) → Each (IsLow n) ps → AreAt IsOwnAt k ps →
        ((i : ℕ) (v : Value) → slice_get zs i ≡ Some v → slice_get us (k + i) ≡ Some v) → AllAlike ws zs → Are (called x vs) (map shape ps) ws → Are (called x us) (map shape ps) zs
    all_taken k [] _ _ low own at none_alike are_none = are_none
    all_taken k (p ∷ ps) _ _ low own at (more_alike v u ws zs a more) (are_more _ _ _ _ h b) =
        let here : k + 0 ≡ k = omega arith in
        are_more (shape p) u (map shape ps) zs (taken_like p k v u low.0 own.0 a (subst (λ j. slice_get us j ≡ Some u) here (at 0 u refl)) h)
        (all_taken (suc k) ps ws zs low.1 own.1 (λ i z e. let next : k + suc i ≡ suc k + i = omega arith in subst (λ j. slice_get us j ≡ Some z) next (at (suc i) z e)) more b)
    all_taken k [] _ _ low own at (more_alike v u ws zs a more) b = elim b [ ]
    all_taken k (p ∷ ps) _ _ low own at none_alike b = elim b [ ]

-- ---- needs

pub needed_like : (g : Program) (x : World) (vs us : List Value) → AllAlike vs us → (ns : List NeedCode) → Each (IsNeeded g x vs) ns → Each (IsNeeded g x us) ns
needed_like g x vs us like [] h = tt
needed_like g x vs us like (n ∷ ns) h = (one h.0, needed_like g x vs us like ns h.1)
  where
    one : IsNeeded g x vs n → IsNeeded g x us n
    one i =
        let q = like_there _ _ i.region (like_at vs us like n.param) i.argument in record {
          region = q.it;
          argument = q.at;
          there = subst (λ r. x.there r ≡ true) (sym q.root) i.there;
          field = subst (λ r. n.field < count_at g (x.spaces r)) (sym q.root) i.field;
        }

claim_like : (n : NeedCode) (o p : Option RegionValue) (rest : List _) → LikeRegions o p → claim_on n o rest ≡ claim_on n p rest
claim_like n _ _ rest no_regions = refl
claim_like n _ _ rest (like_regions r q root points) =
    ap (λ a. with_points r.points (requires a r.points n.mode n.field) rest) root
    ∙ ap (λ ps. with_points ps (requires q.root.0 ps n.mode n.field) rest) points

pub claims_like : (vs us : List Value) → AllAlike vs us → (ns : List NeedCode) → declared_claims ns vs ≡ declared_claims ns us
claims_like vs us like [] = refl
claims_like vs us like (n ∷ ns) =
    claim_like n _ _ (declared_claims ns vs) (like_at vs us like n.param)
    ∙ ap (claim_on n (region_in (slice_get us n.param))) (claims_like vs us like ns)
