-- A field is read at each point of a region, and a partition is made of what is read.
use Rattle.std.proofs.Common.{◌≡◌, inl, inr, ℕ, suc, ◌≤◌, ◌^◌, ℤ, List, [], ◌∷◌, filter, Bool, true, false, ◌&&◌, Option, Some, refl, sym, ap, ◌∙◌, subst, arith}
use Rattle.std.proofs.lemmas.Option.{none-some, same_Some}
use Rattle.std.specs.Prelude.{length, ◌==◌}
use Rattle.std.specs.List.{list_any, list_all}
use Rattle.std.proofs.lemmas.Bool.{eq-eqb, false≢true}
use Rattle.std.proofs.lemmas.List.{length-map}
use Rattle.lane_kernels.specs.declared.numbers.Mode.{Mode}
use Rattle.lane_kernels.specs.declared.numbers.Mode.TheVariants as mode
use Rattle.partitions.proofs.Apart.{field_apart, preimage_apart}
use Rattle.partitions.proofs.Colours.{length_made}
use Rattle.partitions.proofs.Inside.{field_parts, filtered_parts}
use Rattle.partitions.specs.Laws.{ArePartsOf}
use Rattle.plain_values.specs.Points.{has, within}
use Rattle.point_sets.proofs.Rising.{within_from_each}
use Rattle.region_tree.specs.declared.piece.Part.{Part}
use Rattle.regent_tree.specs.Partitions.{point_named, is_point, is_among, points_where, numbers_at, by_field_sets, by_field_flag, image_sets, image_flag, preimage_sets, preimage_flag}
use Rattle.task_code.specs.declared.code.TaskCode.{TaskCode}
use Rattle.machine_terms.specs.declared.value.PartitionValue.{PartitionValue}
use Rattle.machine_terms.specs.declared.value.RegionValue.{RegionValue}
use Rattle.machine_terms.specs.Machine.{Machine, Stepped, when, broken}
use Rattle.machine_terms.specs.Parts.{Found, cell_at, part_of, is_needed}
use Rattle.machine_terms.specs.Regions.{readable, readable_in, and_number, numbers_in, column_of_numbers, column_in, column_found, column_of, with_column, on_column, on_region, on_partition, on_colours, sets_of, lie_in, partition as makes, by_field, image, preimage}
use Rattle.fit_rules.specs.Shapes.{Among, Shape, space, partition, World, Are}
use Rattle.fit_rules.specs.Marks.{LiesIn, Holds, lies, in_slot, top_parted, topped}
use Rattle.fit_rules.specs.Fits.{Program, Covers, Fits}
use Rattle.fit_rules.specs.Sound.{HasRegion, HasPartition, Allowed, To}
use Rattle.fit_rules.specs.Ends.{Safe, safe_stops}
use Rattle.fit_laws.proofs.Held.{over}
use Rattle.fit_laws.proofs.Cover.{Permits, read_reads, write_reads}
use Rattle.fit_laws.proofs.Access.{FoundWell, missing_well, found_well, find_well, needed, wants_well}
use Rattle.fit_laws.proofs.Fills.{points_had}
use Rattle.fit_laws.proofs.Making.{Parted, Makes, all_within, sets_long, partition_safe, on_region_safe, on_partition_safe, parted_in, equal_on}

module _ (g : Program) (x : World) (t : TaskCode) (k : ℕ) (m : Machine) (fit : Fits g x t k m) where
  allowed_region : (sp f s : ℕ) → Allowed g t (g.marks k m.frame.pc) sp f mode.Read s →
      HasRegion (g.marks k m.frame.pc) (Some sp) s
  allowed_region sp f s h = record { origin = h.origin; shape = h.shape }

  -- numbers that are read
  pub record NumbersIn (q : Part) (xs : List ℕ) : Type 0 where
    pub numbers : List ℤ
    pub are : numbers_in q xs ≡ Some numbers

  readable_well : (md : Mode) (z : ℤ) → Permits mode.Read md → readable_in md z ≡ Some z
  readable_well _ z read_reads = refl
  readable_well _ z write_reads = refl

  -- what is found at a covered point is a number that may be read
  number_at : (root f p : ℕ) (q : Part) (o : Found) → part_of m.parts root f ≡ Some q →
      FoundWell g x t k m fit root f p mode.Read o → (z : ℤ) × (readable (cell_at q.pieces p) ≡ Some z)
  number_at root f p q _ e (missing_well none) = absurd (none-some q (sym none ∙ e))
  number_at root f p q _ e (found_well y c r ek pm n er ec) =
      let same : r ≡ q = same_Some _ _ (sym er ∙ e) in
      (c.value, ap readable (ap (λ (u : Part). cell_at u.pieces p) (sym same) ∙ ec) ∙ readable_well c.mode c.value pm)

  numbers_well : (root f : ℕ) (q : Part) (xs : List ℕ) → part_of m.parts root f ≡ Some q →
      ((p : ℕ) → Among xs p → Covers g x t root f p mode.Read) → NumbersIn q xs
  numbers_well root f q [] e c = record { numbers = []; are = refl }
  numbers_well root f q (p ∷ xs) e c =
      let z = number_at root f p q _ e (find_well g x t k m fit root f p mode.Read (c p (inl refl))) in
      let more = numbers_well root f q xs e (λ y l. c y (inr l)) in
      record {
        numbers = z.0 ∷ more.numbers;
        are = ap (λ o. and_number o (numbers_in q xs)) z.1 ∙ ap (and_number (Some z.0)) more.are;
      }

  -- a column is read, or its part is wanted
  columned : (r : RegionValue) (f p : ℕ) (xs : List ℕ) (o : Found) (more : List ℤ → Bool → Stepped) →
      FoundWell g x t k m fit r.root.0 f p mode.Read o → is_needed m.frame.needs.items r.root.0 f ≡ true →
      ((y : ℕ) → Among xs y → Covers g x t r.root.0 f y mode.Read) →
      ((zs : List ℤ) (b : Bool) → Safe g x t k (more zs b)) →
      Safe g x t k (with_column (column_found o (part_of m.parts r.root.0 f) xs) r.root.0 f m more)
  columned r f p xs _ more (missing_well none) e c h = safe_stops _ _ (wants_well g x t k m fit r.root.0 f e none)
  columned r f p xs _ more (found_well y cell q ek pm n ep ec) e c h =
      let w = numbers_well r.root.0 f q xs ep c in
      subst (λ o. Safe g x t k (with_column (column_in o xs) r.root.0 f m more)) (sym ep)
      (subst (λ o. Safe g x t k (with_column (column_of_numbers o q.kind) r.root.0 f m more)) (sym w.are) (h w.numbers _))

  column_on : (r : RegionValue) (f : ℕ) (xs : List ℕ) (more : List ℤ → Bool → Stepped) →
      ((y : ℕ) → Among xs y → Covers g x t r.root.0 f y mode.Read) →
      ((zs : List ℤ) (b : Bool) → Safe g x t k (more zs b)) →
      Safe g x t k (with_column (column_of m r f xs) r.root.0 f m more)
  column_on r f [] more c h = h [] false
  column_on r f (p ∷ xs) more c h = columned r f p (p ∷ xs) _ more
      (find_well g x t k m fit r.root.0 f p mode.Read (c p (inl refl)))
      (needed g x t k m fit r.root.0 f p mode.Read (c p (inl refl))) c h

  pub by_field_safe : length t.body ≤ 2 ^ 32 → (s f line sp : ℕ) (ss : List Shape) →
      Are (over g x k m) (space ∷ ss) m.frame.stack → Allowed g t (g.marks k m.frame.pc) sp f mode.Read s →
      To g t k (topped (g.marks k m.frame.pc) (partition (Some sp) true ∷ ss) (top_parted s)) (suc m.frame.pc) →
      Safe g x t k (by_field s f line m)
  by_field_safe short s f line sp ss a h to = on_region_safe g x t k m fit (Some sp) s
      (λ r. on_colours line m (λ n st. on_column m r f (λ zs b.
      makes r (by_field_sets r.points zs n) by_field_flag st m))) (allowed_region sp f s h)
      (λ c r er ir. equal_on g x t k m fit m.frame.stack ss line _ a (λ n st l b. column_on r f r.points _
      (λ p q. h.covers x _ _ fit.suits r er p (points_had r.points p q))
      (λ zs pointers. partition_safe g x t k m fit short s (Some sp) true by_field_flag c r (by_field_sets r.points zs n) ss st er ir
      (λ e. refl)
      (record {
        parts = field_parts r.points zs n ir.set.rising;
        apart = λ e. field_apart r.points zs n ir.set.rising;
        few = omega (arith, l, length_made (λ c. points_where (λ z. is_point c (point_named false z)) r.points zs) n);
      }) to b)))

  -- ---- images and preimages

  lying : (root other : ℕ) (parent : List ℕ) (sets : List (List ℕ)) → root ≡ other → ArePartsOf parent sets →
      ((root == other) && list_all (λ s. within s parent) sets) ≡ true
  lying root other parent sets e h =
      ap (λ b. b && list_all (λ s. within s parent) sets) (eq-eqb root other e) ∙ all_within parent sets h

  when_true : (b : Bool) (more : Stepped) → b ≡ true → Safe g x t k more → Safe g x t k (when b more (broken m))
  when_true b more e h = subst (λ c. Safe g x t k (when c more (broken m))) (sym e) h

  pub image_safe : length t.body ≤ 2 ^ 32 → (s p r f sp : ℕ) (sq so : Option ℕ) → HasRegion (g.marks k m.frame.pc) so s →
      HasPartition (g.marks k m.frame.pc) sq p → Allowed g t (g.marks k m.frame.pc) sp f mode.Read r →
      Parted g x t k m fit p r → Makes g x t k m fit so false s → Safe g x t k (image s p r f m)
  image_safe short s p r f sp sq so hs hp h parted to =
      on_region_safe g x t k m fit so s (λ a. on_partition m p (λ q. on_region m r (λ b. looked a q b))) hs (λ c a ea ia.
      on_partition_safe g x t k m fit sq p (λ q. on_region m r (λ b. looked a q b)) hp (λ q eq iq.
      on_region_safe g x t k m fit (Some sp) r (λ b. looked a q b) (allowed_region sp f r h) (λ d b eb ib.
      let w = parted_in g x t k m fit sq hp.disjoint p r q b parted eq eb iq in
      when_true (lie_in q.root.0 (sets_of q) b) _ (lying q.root.0 b.root.0 b.points (sets_of q) w.0 w.1)
      (column_on b f b.points _ (λ y l. h.covers x _ _ fit.suits b eb y (points_had b.points y l))
      (λ zs pointers. partition_safe g x t k m fit short s so false image_flag c a
      (image_sets a.points (sets_of q) b.points zs pointers) _ m.frame.stack ea ia (λ e. e)
      (record {
        parts = filtered_parts a.points (λ set y. list_any (λ z. is_point y (point_named pointers z)) (numbers_at set b.points zs))
            (sets_of q) ia.set.rising;
        apart = λ e. absurd (false≢true e);
        few = omega (
          arith,
          length-map (sets_of q) (λ set. filter (λ y. list_any (λ z. is_point y (point_named pointers z))
              (numbers_at set b.points zs)) a.points),
          sets_long q,
          iq.count,
        );
      }) to fit.suits.stack)))))
    where
      looked : RegionValue → PartitionValue → RegionValue → Stepped
      looked a q b = when (lie_in q.root.0 (sets_of q) b) (on_column m b f (λ zs pointers.
          makes a (image_sets a.points (sets_of q) b.points zs pointers) image_flag m.frame.stack m))
          (broken m)

  pub preimage_safe : length t.body ≤ 2 ^ 32 → (s p r f sp : ℕ) (sq so : Option ℕ) → HasRegion (g.marks k m.frame.pc) so s →
      (hp : HasPartition (g.marks k m.frame.pc) sq p) → Allowed g t (g.marks k m.frame.pc) sp f mode.Read r →
      Holds (lies (in_slot s) (in_slot r)) m.frame.slots → Makes g x t k m fit so hp.disjoint s →
      Safe g x t k (preimage s p r f m)
  preimage_safe short s p r f sp sq so hs hp h within_read to =
      on_region_safe g x t k m fit so s (λ a. on_partition m p (λ q. on_region m r (λ b. looked a q b))) hs (λ c a ea ia.
      on_partition_safe g x t k m fit sq p (λ q. on_region m r (λ b. looked a q b)) hp (λ q eq iq.
      on_region_safe g x t k m fit (Some sp) r (λ b. looked a q b) (allowed_region sp f r h) (λ d b eb ib.
      let w = within_read a ea in
      let same : w.other ≡ b = same_Some _ _ (sym w.at ∙ eb) in
      let inside : LiesIn a b = subst (LiesIn a) same w.inside in
      when_true (lie_in a.root.0 (a.points ∷ []) b) _
      (ap (λ y. y && (within a.points b.points && true)) (eq-eqb a.root.0 b.root.0 inside.0)
      ∙ ap (λ y. y && true) (within_from_each a.points b.points inside.1))
      (column_on b f b.points _ (λ y l. h.covers x _ _ fit.suits b eb y (points_had b.points y l))
      (λ zs pointers. partition_safe g x t k m fit short s so hp.disjoint (preimage_flag q.disjoint) c a
      (preimage_sets a.points (sets_of q) b.points zs pointers) _ m.frame.stack ea ia iq.flag
      (record {
        parts = filtered_parts a.points (λ set. has (points_where (λ z. is_among set (point_named pointers z)) b.points zs))
            (sets_of q) ia.set.rising;
        apart = λ e. preimage_apart a.points (sets_of q) b.points zs pointers ib.set.rising (iq.apart e);
        few = omega (
          arith,
          length-map (sets_of q) (λ set. filter (has (points_where (λ z. is_among set (point_named pointers z))
              b.points zs)) a.points),
          sets_long q,
          iq.count,
        );
      }) to fit.suits.stack)))))
    where
      looked : RegionValue → PartitionValue → RegionValue → Stepped
      looked a q b = when (lie_in a.root.0 (a.points ∷ []) b) (on_column m b f (λ zs pointers.
          makes a (preimage_sets a.points (sets_of q) b.points zs pointers) (preimage_flag q.disjoint) m.frame.stack m))
          (broken m)
