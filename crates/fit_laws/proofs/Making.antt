-- Partitions that are made: their sets are parts of the region, and the partition fits.
use Rattle.std.proofs.Common.{◌≡◌, inl, inr, ℕ, zero, suc, ◌<◌, ◌≤◌, ◌^◌, List, [], ◌∷◌, All, map, ⊎_elim, Bool, true, false, ◌&&◌, ◌||◌, Option, Some, None, refl, sym, ap, ◌∙◌, subst, arith}
use Rattle.std.proofs.lemmas.Option.{same_Some}
use Rattle.std.specs.Prelude.{get_or, length, nat_le}
use Rattle.std.specs.List.{list_all}
use Rattle.std.proofs.lemmas.Bool.{lt-ltb, leb-true, false≢true, or_cases}
use Rattle.std.proofs.lemmas.List.{length-map}
use Rattle.std.proofs.lemmas.List.Elements.{All-head, All-tail, All-map, All-from_get_or}
use Rattle.plain_values.specs.Points.{IsPoints, has, within, meet_of, minus_of, union_of}
use Rattle.point_sets.proofs.Rising.{has_get_or, within_each, within_from_each}
use Rattle.partitions.proofs.Apart.{equal_apart}
use Rattle.partitions.proofs.Colours.{length_made}
use Rattle.partitions.proofs.Inside.{IsPartOf, equal_parts}
use Rattle.partitions.proofs.Pairs.{each_made, both_apart, without_apart, both_parts, either_parts, without_parts}
use Rattle.partitions.specs.Laws.{ArePartsOf, colour}
use Rattle.regent_tree.specs.declared.outcome.FaultKind.TheVariants.{BadSize}
use Rattle.regent_tree.specs.Partitions.{each_with, equal_part, equal_sets, equal_flag, both_sets, both_flag, either_sets, either_flag, minus_sets, minus_flag}
use Rattle.task_code.specs.declared.code.TaskCode.{TaskCode}
use Rattle.machine_terms.specs.declared.outcome.Made.TheVariants as made
use Rattle.machine_terms.specs.declared.outcome.Yield.TheVariants as yield
use Rattle.machine_terms.specs.declared.value.PartitionValue.{PartitionValue}
use Rattle.machine_terms.specs.declared.value.RegionValue.{RegionValue}
use Rattle.machine_terms.specs.declared.value.Value.{Value}
use Rattle.machine_terms.specs.declared.value.Value.TheVariants as value
use Rattle.machine_terms.specs.Machine.{Machine, Stepped, stops, when, at, faults, broken}
use Rattle.machine_terms.specs.Pointers.{region_slot}
use Rattle.machine_terms.specs.Regions.{partition_slot, sets_of, with_region, with_partition, on_region, on_partition, on_space, on_colours, partition as makes, equal, meet, join, minus}
use Rattle.fit_rules.specs.Shapes.{Among, OfSpace, Shape, space, partition, World, IsRegion, IsPartition, is_number, is_space, is_partition, Are, are_more, Origin}
use Rattle.fit_rules.specs.Marks.{LiesIn, parted, Holds, top_parted, topped}
use Rattle.fit_rules.specs.Fits.{Program, Fits}
use Rattle.fit_rules.specs.Sound.{HasRegion, HasPartition, To}
use Rattle.fit_rules.specs.Ends.{SetsFit, IsMadeOf, Safe, safe_stops}
use Rattle.fit_rules.proofs.Points.{has_below}
use Rattle.fit_laws.proofs.Held.{over}
use Rattle.fit_laws.proofs.Straight.{fits_topped}
use Rattle.fit_laws.proofs.Access.{region_at}
use Rattle.fit_laws.proofs.Pointers.{partition_at}

-- ---- the sets of a partition

among_mapped : (rs : List RegionValue) (r : RegionValue) → Among rs r →
    Among (map (λ (y : RegionValue). y.points) rs) r.points
among_mapped [] r h = absurd h
among_mapped (q ∷ rs) r (inl e) = inl (ap (λ (y : RegionValue). y.points) e)
among_mapped (q ∷ rs) r (inr h) = inr (among_mapped rs r h)

among_at : {A : Type 0} (xs : List A) (k : ℕ) (d : A) → k < length xs → Among xs (get_or xs k d)
among_at [] k d l = absurd (omega (arith, l))
among_at (x ∷ xs) zero d l = inl refl
among_at (x ∷ xs) (suc k) d l = inr (among_at xs k d (omega (arith, l)))

all_among : {A : Type 0} (P : A → Type 0) (xs : List A) (a : A) → All P xs → Among xs a → P a
all_among P [] a h i = absurd i
all_among P (x ∷ xs) a h (inl e) = subst P e (All-head P x xs h)
all_among P (x ∷ xs) a h (inr i) = all_among P xs a (All-tail P x xs h) i

-- parts of a region's points are sets of points below its bound
part_points : (b : ℕ) (parent set : List ℕ) → IsPoints b parent → IsPartOf parent set → IsPoints b set
part_points b parent set p h = record {
  rising = h.0;
  below = All-from_get_or (λ y. y < b) set 0 (λ c l.
      has_below b parent (get_or set c 0) p.below (within_each set parent h.1 (get_or set c 0) (has_get_or set c l)));
}

-- the regions of a partition of a region are parts of its points
pub children_parts : (x : World) (sp : Option ℕ) (d : Bool) (q : PartitionValue) (r : RegionValue) → IsPartition x sp d q →
    ((c : RegionValue) → Among q.children c → LiesIn c r) → ArePartsOf r.points (sets_of q)
children_parts x sp d q r ip inside = All-map (IsPartOf r.points) (λ (y : RegionValue). y.points) q.children
    (λ k e l. let among = among_at q.children k e l in (
      (ip.regions (get_or q.children k e) among).1.set.rising,
      within_from_each (get_or q.children k e).points r.points (inside (get_or q.children k e) among).1,
    ))

pub all_within : (parent : List ℕ) (sets : List (List ℕ)) → ArePartsOf parent sets →
    list_all (λ s. within s parent) sets ≡ true
all_within parent [] h = refl
all_within parent (s ∷ sets) h =
    ap (λ b. b && list_all (λ s. within s parent) sets) (All-head (IsPartOf parent) s sets h).1
    ∙ all_within parent sets (All-tail (IsPartOf parent) s sets h)

each_long : (f : List ℕ → List ℕ → List ℕ) (ps qs : List (List ℕ)) → length (each_with f ps qs) ≡ length ps
each_long f ps qs = ap length (each_made f ps qs) ∙ length_made (λ c. f (colour ps c) (colour qs c)) (length ps)

pub sets_long : (q : PartitionValue) → length (sets_of q) ≡ length q.children
sets_long q = length-map q.children (λ (y : RegionValue). y.points)

module _ (g : Program) (x : World) (t : TaskCode) (k : ℕ) (m : Machine) (fit : Fits g x t k m) where
  -- the partition that was made of such sets fits
  made_fits : (s : ℕ) (sp : Option ℕ) (d flag : Bool) (c : Origin) (r : RegionValue) (sets : List (List ℕ)) (ss : List Shape)
      (st : List Value) → region_slot m s ≡ Some r → IsRegion x sp c r → (d ≡ true → flag ≡ true) →
      SetsFit r.points flag sets → To g t k (topped (g.marks k m.frame.pc) (partition sp d ∷ ss) (top_parted s)) (suc m.frame.pc) →
      Are (over g x k m) ss st → (q : PartitionValue) → IsMadeOf r.root.0 flag sets q →
      Fits g x t k (at (suc m.frame.pc) (value.Partition q ∷ st) m)
  made_fits s sp d flag c r sets ss st er ir fl sf to a q h =
      let part : (y : RegionValue) → Among q.children y → IsPartOf r.points y.points =
      λ y l. all_among (IsPartOf r.points) sets y.points sf.parts
      (subst (λ u. Among u y.points) h.made (among_mapped q.children y l)) in
      let inside : (y : RegionValue) → Among q.children y → (p : ℕ) → has y.points p ≡ true → has r.points p ≡ true =
      λ y l p e. within_each y.points r.points (part y l).1 p e in
      fits_topped g x t k m fit (suc m.frame.pc) (partition sp d ∷ ss) (value.Partition q ∷ st) (top_parted s) to
      (are_more _ _ ss st (is_partition sp d q (record {
        flag = λ e. h.flagged ∙ fl e;
        apart = λ e. rw h.made (sf.apart (sym h.flagged ∙ e));
        there = subst (λ u. x.there u ≡ true) (sym h.of_root) ir.there;
        space = space_same sp q.root.0 r.root.0 h.of_root ir.space;
        count = omega (arith, sf.few, ap length h.made, sets_long q);
        regions = λ y l. (
          h.roots y l ∙ sym h.of_root,
          record {
            there = subst (λ u. x.there u ≡ true) (sym (h.roots y l)) ir.there;
            space = space_same sp y.root.0 r.root.0 (h.roots y l) ir.space;
            set = part_points 4194304 r.points y.points ir.set (part y l);
            points = λ p e. subst (λ u. has (x.points u) p ≡ true) (sym (h.roots y l)) (ir.points p (inside y l p e));
            origin = tt;
          },
        );
      })) a)
      (record { parent = r; at = er; root = h.of_root; inside = λ y l. (h.roots y l, λ p e. inside y l p e) })
    where
      space_same : (sp : Option ℕ) (a b : ℕ) → a ≡ b → OfSpace sp (x.spaces b) →
          OfSpace sp (x.spaces a)
      space_same None a b e h = tt
      space_same (Some n) a b e h = ap x.spaces e ∙ h

  pub partition_safe : length t.body ≤ 2 ^ 32 → (s : ℕ) (sp : Option ℕ) (d flag : Bool) (c : Origin) (r : RegionValue)
      (sets : List (List ℕ)) (ss : List Shape) (st : List Value) → region_slot m s ≡ Some r → IsRegion x sp c r →
      (d ≡ true → flag ≡ true) → SetsFit r.points flag sets →
      To g t k (topped (g.marks k m.frame.pc) (partition sp d ∷ ss) (top_parted s)) (suc m.frame.pc) →
      Are (over g x k m) ss st → Safe g x t k (makes r sets flag st m)
  partition_safe short s sp d flag c r sets ss st er ir fl sf to a =
      subst (λ b. Safe g x t k (when b (stops (yield.Make (made.Partition r sets flag)) (at (suc m.frame.pc) st m))
      (broken (at (suc m.frame.pc) st m)))) (sym (lt-ltb (suc m.frame.pc) (2 ^ 32) (omega (arith, to.0, short))))
      (safe_stops _ _ (fit.beside.parts, (sf, λ q h. made_fits s sp d flag c r sets ss st er ir fl sf to a q h)))

  -- ---- regions and partitions in slots

  pub on_region_safe : (sp : Option ℕ) (s : ℕ) (more : RegionValue → Stepped) →
      HasRegion (g.marks k m.frame.pc) sp s →
      ((o : Origin) (r : RegionValue) → region_slot m s ≡ Some r → IsRegion x sp o r → Safe g x t k (more r)) →
      Safe g x t k (on_region m s more)
  on_region_safe sp s more h f =
      let w = region_at g x t k m fit sp h.origin s h.shape in
      subst (λ o. Safe g x t k (with_region o m more)) (sym w.there) (f h.origin w.region_there w.there w.is_region_there)

  pub on_partition_safe : (sp : Option ℕ) (p : ℕ) (more : PartitionValue → Stepped) →
      (h : HasPartition (g.marks k m.frame.pc) sp p) →
      ((q : PartitionValue) → partition_slot m p ≡ Some q → IsPartition x sp h.disjoint q → Safe g x t k (more q)) →
      Safe g x t k (on_partition m p more)
  on_partition_safe sp p more h f =
      let w = partition_at g x t k m fit sp p h in
      subst (λ o. Safe g x t k (with_partition o m more)) (sym w.there) (f w.partition_there w.there w.is_partition_there)

  -- a partition that is known to be of the region in a slot
  pub parted_in : (sp : Option ℕ) (d : Bool) (p s : ℕ) (q : PartitionValue) (r : RegionValue) →
      Holds (parted p s) m.frame.slots → partition_slot m p ≡ Some q → region_slot m s ≡ Some r → IsPartition x sp d q →
      (q.root.0 ≡ r.root.0) × ArePartsOf r.points (sets_of q)
  parted_in sp d p s q r f eq er ip =
      let w = f q eq in
      let same : w.parent ≡ r = same_Some _ _ (sym w.at ∙ er) in (
        w.root ∙ ap (λ (y : RegionValue). y.root.0) same,
        children_parts x sp d q r ip (λ c l. subst (LiesIn c) same (w.inside c l)),
      )

  -- ---- equal

  sized : (b : Bool) (line : ℕ) (a : Stepped) → (b ≡ true → Safe g x t k a) → Safe g x t k (when b a (faults BadSize line m))
  sized true line a h = h refl
  sized false line a h = safe_stops _ _ (fit.beside.parts, tt)

  pub equal_on : (st : List Value) (ss : List Shape) (line : ℕ) (more : ℕ → List Value → Stepped) → Are (over g x k m) (space ∷ ss) st →
      ((n : ℕ) (rest : List Value) → n ≤ 65536 → Are (over g x k m) ss rest → Safe g x t k (more n rest)) →
      Safe g x t k (on_space st m (λ n rest. when (nat_le n 65536) (more n rest) (faults BadSize line m)))
  equal_on _ ss line more (are_more _ _ _ st (is_space n h) b) f =
      sized (nat_le n 65536) line (more n st) (λ e. f n st (leb-true n 65536 e) b)
  equal_on _ ss line more (are_more _ _ _ st (is_number _ z h) b) f = absurd h

  pub equal_safe : length t.body ≤ 2 ^ 32 → (s line : ℕ) (sp : Option ℕ) (ss : List Shape) →
      Are (over g x k m) (space ∷ ss) m.frame.stack → HasRegion (g.marks k m.frame.pc) sp s →
      To g t k (topped (g.marks k m.frame.pc) (partition sp true ∷ ss) (top_parted s)) (suc m.frame.pc) →
      Safe g x t k (equal s line m)
  equal_safe short s line sp ss a h to = on_region_safe sp s
      (λ r. on_colours line m (λ n st. makes r (equal_sets r.points n) equal_flag st m)) h
      (λ c r er ir. equal_on m.frame.stack ss line (λ n st. makes r (equal_sets r.points n) equal_flag st m) a
      (λ n st l b. partition_safe short s sp true equal_flag c r (equal_sets r.points n) ss st er ir (λ e. refl)
      (record {
        parts = equal_parts r.points n ir.set;
        apart = λ e. equal_apart r.points n ir.set.rising;
        few = omega (arith, l, length_made (equal_part r.points n) n);
      }) to b))

  -- ---- set operations

  abbrev pub Parted : ℕ → ℕ → Type 0
  Parted p s = Holds (parted p s) m.frame.slots

  abbrev pub Makes : Option ℕ → Bool → ℕ → Type 0
  Makes sp d s = To g t k (topped (g.marks k m.frame.pc) (partition sp d ∷ (g.marks k m.frame.pc).stack) (top_parted s))
      (suc m.frame.pc)

  pub minus_safe : length t.body ≤ 2 ^ 32 → (p q s : ℕ) (sp sq so : Option ℕ) (hp : HasPartition (g.marks k m.frame.pc) sp p) →
      HasPartition (g.marks k m.frame.pc) sq q → HasRegion (g.marks k m.frame.pc) so s → Parted p s →
      Makes so hp.disjoint s → Safe g x t k (minus p q s m)
  minus_safe short p q s sp sq so hp hq hs f to =
      on_partition_safe sp p (λ a. on_partition m q (λ b. on_region m s (λ r. makes r (minus_sets (sets_of a) (sets_of b))
      (minus_flag a.disjoint) m.frame.stack m))) hp (λ a ea ia.
      on_partition_safe sq q (λ b. on_region m s (λ r. makes r (minus_sets (sets_of a) (sets_of b))
      (minus_flag a.disjoint) m.frame.stack m)) hq (λ b eb ib.
      on_region_safe so s (λ r. makes r (minus_sets (sets_of a) (sets_of b)) (minus_flag a.disjoint)
      m.frame.stack m) hs (λ c r er ir.
      partition_safe short s so hp.disjoint (minus_flag a.disjoint) c r (minus_sets (sets_of a) (sets_of b)) _
      m.frame.stack er ir ia.flag
      (record {
        parts = without_parts r.points (sets_of a) (sets_of b) (parted_in sp hp.disjoint p s a r f ea er ia).1;
        apart = λ e. without_apart (sets_of a) (sets_of b) (ia.apart e);
        few = omega (arith, each_long minus_of (sets_of a) (sets_of b), sets_long a, ia.count);
      }) to fit.suits.stack)))

  pub meet_safe : length t.body ≤ 2 ^ 32 → (p q s : ℕ) (sp sq so : Option ℕ) (hp : HasPartition (g.marks k m.frame.pc) sp p)
      (hq : HasPartition (g.marks k m.frame.pc) sq q) → HasRegion (g.marks k m.frame.pc) so s → Parted p s →
      Makes so (hp.disjoint || hq.disjoint) s → Safe g x t k (meet p q s m)
  meet_safe short p q s sp sq so hp hq hs f to =
      on_partition_safe sp p (λ a. on_partition m q (λ b. on_region m s (λ r. makes r (both_sets (sets_of a) (sets_of b))
      (both_flag a.disjoint b.disjoint) m.frame.stack m))) hp (λ a ea ia.
      on_partition_safe sq q (λ b. on_region m s (λ r. makes r (both_sets (sets_of a) (sets_of b))
      (both_flag a.disjoint b.disjoint) m.frame.stack m)) hq (λ b eb ib.
      on_region_safe so s (λ r. makes r (both_sets (sets_of a) (sets_of b)) (both_flag a.disjoint b.disjoint)
      m.frame.stack m) hs (λ c r er ir.
      partition_safe short s so (hp.disjoint || hq.disjoint) (both_flag a.disjoint b.disjoint) c r
      (both_sets (sets_of a) (sets_of b)) _ m.frame.stack er ir
      (either_flagged hp.disjoint hq.disjoint a.disjoint b.disjoint ia.flag ib.flag)
      (record {
        parts = both_parts r.points (sets_of a) (sets_of b) (parted_in sp hp.disjoint p s a r f ea er ia).1;
        apart = λ e. both_apart (sets_of a) (sets_of b) (⊎_elim (λ h. inl (ia.apart h)) (λ h. inr (ib.apart h))
            (or_cases a.disjoint b.disjoint e));
        few = omega (arith, each_long meet_of (sets_of a) (sets_of b), sets_long a, ia.count);
      }) to fit.suits.stack)))
    where
      either_flagged : (c d a b : Bool) → (c ≡ true → a ≡ true) → (d ≡ true → b ≡ true) → (c || d) ≡ true →
          (a || b) ≡ true
      either_flagged true d a b h k e = ap (λ y. y || b) (h refl)
      either_flagged false d true b h k e = refl
      either_flagged false d false b h k e = k e

  pub join_safe : length t.body ≤ 2 ^ 32 → (p q s : ℕ) (sp sq so : Option ℕ) → HasPartition (g.marks k m.frame.pc) sp p →
      HasPartition (g.marks k m.frame.pc) sq q → HasRegion (g.marks k m.frame.pc) so s → Parted p s → Parted q s →
      Makes so false s → Safe g x t k (join p q s m)
  join_safe short p q s sp sq so hp hq hs f h to =
      on_partition_safe sp p (λ a. on_partition m q (λ b. on_region m s (λ r. makes r (either_sets (sets_of a) (sets_of b))
      either_flag m.frame.stack m))) hp (λ a ea ia.
      on_partition_safe sq q (λ b. on_region m s (λ r. makes r (either_sets (sets_of a) (sets_of b))
      either_flag m.frame.stack m)) hq (λ b eb ib.
      on_region_safe so s (λ r. makes r (either_sets (sets_of a) (sets_of b)) either_flag m.frame.stack m) hs
      (λ c r er ir.
      partition_safe short s so false either_flag c r (either_sets (sets_of a) (sets_of b)) _ m.frame.stack er ir
      (λ e. e)
      (record {
        parts = either_parts r.points (sets_of a) (sets_of b) (parted_in sp hp.disjoint p s a r f ea er ia).1
            (parted_in sq hq.disjoint q s b r h eb er ib).1;
        apart = λ e. absurd (false≢true e);
        few = omega (arith, each_long union_of (sets_of a) (sets_of b), sets_long a, ia.count);
      }) to fit.suits.stack)))
