-- How instructions on pointers, regions and partitions go on.
use Rattle.std.proofs.Common.{◌≡◌, ℕ, zero, suc, ℤ, pos, negsuc, List, [], ◌∷◌, Bool, true, false, Option, Some, None, refl, sym, ap, ◌∙◌, subst}
use Rattle.std.specs.Prelude.{slice_get, length, nat_le}
use Rattle.lane_kernels.specs.declared.numbers.FieldKind.{FieldKind}
use Rattle.lane_kernels.specs.declared.numbers.Mode.{Mode}
use Rattle.lane_kernels.specs.declared.numbers.Mode.TheVariants as mode
use Rattle.lane_kernels.specs.declared.numbers.Width.{Width}
use Rattle.lane_kernels.specs.Numbers.{FitsWidth, width_of, wrapped}
use Rattle.plain_values.specs.Points.{has}
use Rattle.machine_terms.specs.declared.outcome.Made.TheVariants as made
use Rattle.regent_tree.specs.Values.{Target, null_target, point_target, Region as PlainRegion}
use Rattle.task_code.specs.declared.code.SpaceCode.{SpaceCode}
use Rattle.machine_terms.specs.declared.frame.Frame.{Frame}
use Rattle.region_tree.specs.declared.piece.Part.{Part}
use Rattle.region_tree.specs.declared.tree.RootId.{RootId}
use Rattle.machine_terms.specs.declared.value.PartitionValue.{PartitionValue}
use Rattle.machine_terms.specs.declared.value.RegionValue.{RegionValue}
use Rattle.machine_terms.specs.declared.value.Value.{Value}
use Rattle.machine_terms.specs.Machine.{Machine, Stepped, broken, when}
use Rattle.machine_terms.specs.Parts.{Cell, Found, refused, missing, found, find, is_needed, part_of, set_part}
use Rattle.machine_terms.specs.Pointers.{region_slot, point, move, moved_to, cast, cast_pointer, element, Aimed, aims, fails, nowhere, read_in, read_cell, read_at, set_found, set_cell, set_at, written, same_width}
use Rattle.machine_terms.specs.Regions.{partition_slot, on_region, on_partition, space, root_of_space, partition, child_at, filled, fill_cell, fill_points}
use Rattle.machine_terms.proofs.FitParts.{FitsPart, found_fits, set_part_fits, width_is, wrapped_fits, written_fits}
use Rattle.machine_terms.proofs.KeptParts.{IsMissing, missing_alike, missing_is, set_part_bare}
use Rattle.machine_terms.proofs.StepKinds.{aimed_key, Asking, Kind, Fixed, Filling, fixed, filling_fixed, over, wants, nexted, when_kind, stops_kind, next_kind, yields_kind, region_kind, partition_kind}

-- numbers of the width that a touch finds fit the part in which it finds it
abbrev pub AreOfPart : Found → Option Part → Type 0
AreOfPart o q = (k : FieldKind) (c : Cell) (z : ℤ) → o ≡ found k c → FitsWidth (width_of k) z → FitsPart q z

module _ (ask : Asking) where
  pub pointer_kind : (t : Target) (line : ℕ) (st : List Value) (m : Machine) → Kind ask m (point t line st m)
  pointer_kind null_target line st m = stops_kind ask _ m tt
  pointer_kind (point_target n i) line st m = next_kind ask _ m

  pub moved_kind : (n : ℕ) (o : Option ℕ) (st : List Value) (m : Machine) → Kind ask m (moved_to n o st m)
  moved_kind n (Some j) st m = next_kind ask _ m
  moved_kind n None st m = stops_kind ask _ m tt

  pub move_kind : (js : List ℕ) (t : Target) (st : List Value) (m : Machine) → Kind ask m (move js t st m)
  move_kind js null_target st m = next_kind ask _ m
  move_kind js (point_target n zero) st m = next_kind ask _ m
  move_kind js (point_target n (suc i)) st m = moved_kind n (slice_get js i) st m

  pub cast_kind : (o : Option (List PlainRegion)) (z : ℤ) (st : List Value) (m : Machine) →
      Kind ask m (cast o z st m)
  cast_kind None z st m = stops_kind ask _ m tt
  cast_kind (Some rs) z st m = next_kind ask _ m

  pub cast_pointer_kind : (o : Option (List PlainRegion)) (t : Target) (st : List Value) (m : Machine) →
      Kind ask m (cast_pointer o t st m)
  cast_pointer_kind None t st m = stops_kind ask _ m tt
  cast_pointer_kind (Some rs) null_target st m = next_kind ask _ m
  cast_pointer_kind (Some rs) (point_target n i) st m = next_kind ask _ m

  pub element_kind : (o : Option RegionValue) (z : ℤ) (line : ℕ) (st : List Value) (m : Machine) →
      Kind ask m (element o z line st m)
  element_kind None z line st m = stops_kind ask _ m tt
  element_kind (Some r) (negsuc n) line st m = stops_kind ask _ m tt
  element_kind (Some r) (pos n) line st m =
      when_kind ask m (has r.points n) _ _ (next_kind ask _ m) (stops_kind ask _ m tt)

  pub read_in_kind : (a : Mode) (z : ℤ) (st : List Value) (m : Machine) → Kind ask m (read_in a z st m)
  read_in_kind (mode.Reduce o) z st m = stops_kind ask _ m tt
  read_in_kind mode.Read z st m = next_kind ask _ m
  read_in_kind mode.Write z st m = next_kind ask _ m

  pub read_cell_kind : (root : RootId) (f : ℕ) (o : Found) (st : List Value) (m : Machine) → ask.key ≡ Some (root.0, f) →
      (o ≡ missing → IsMissing m root.0 f) → Kind ask m (read_cell root.0 f o st m)
  read_cell_kind root f refused st m e h = stops_kind ask _ m tt
  read_cell_kind root f missing st m e h = wants root f m (fixed m) refl e (h refl)
  read_cell_kind root f (found k c) st m e h = read_in_kind c.mode c.value st m

  pub read_kind : (f line : ℕ) (a : Aimed) (st : List Value) (m : Machine) → ask.key ≡ aimed_key f a →
      Kind ask m (read_at f line a st m)
  read_kind f line nowhere st m e = stops_kind ask _ m tt
  read_kind f line (fails k) st m e = stops_kind ask _ m tt
  read_kind f line (aims root n) st m e = read_cell_kind (record { 0 = root }) f (find m.frame.needs.items m.parts root f n) st m e
      (λ h. missing_is m root f n h)

  pub set_found_kind : (root f n : ℕ) (o : Option ℤ) (st : List Value) (m : Machine) →
      ((z : ℤ) → o ≡ Some z → FitsPart (part_of m.parts root f) z) → Kind ask m (set_found root f n o st m)
  set_found_kind root f n None st m fits = stops_kind ask _ m tt
  set_found_kind root f n (Some z) st m fits = nexted _ (record {
    task = refl;
    slots = refl;
    later = refl;
    depth = refl;
    own = refl;
    needs = refl;
    parts = set_part_bare m.parts root f n z;
    fits = set_part_fits m.parts root f n z (fits z refl);
  }) refl refl

  pub set_cell_kind : (a : Mode) (w : Width) (root : RootId) (f n : ℕ) (z : ℤ) (o : Found) (st : List Value) (m : Machine) →
      ask.key ≡ Some (root.0, f) → (o ≡ missing → IsMissing m root.0 f) → AreOfPart o (part_of m.parts root.0 f) →
      Kind ask m (set_cell a w root.0 f n z o st m)
  set_cell_kind a w root f n z refused st m e h p = stops_kind ask _ m tt
  set_cell_kind a w root f n z missing st m e h p = wants root f m (fixed m) refl e (h refl)
  set_cell_kind a w root f n z (found k c) st m e h p = by_width (same_width (width_of k) w) refl
    where
      by_width : (b : Bool) → same_width (width_of k) w ≡ b →
          Kind ask m (when b (set_found root.0 f n (written a c.mode w c.value z) st m) (broken m))
      by_width true same = set_found_kind root.0 f n (written a c.mode w c.value z) st m
          (λ y d. p k c y refl (subst (λ v. FitsWidth v y) (sym (width_is (width_of k) w same)) (written_fits a c.mode w c.value z y d)))
      by_width false same = stops_kind ask _ m tt

  pub set_kind : (a : Mode) (w : Width) (f line : ℕ) (z : ℤ) (o : Aimed) (st : List Value) (m : Machine) → ask.key ≡ aimed_key f o →
      Kind ask m (set_at a w f line z o st m)
  set_kind a w f line z nowhere st m e = stops_kind ask _ m tt
  set_kind a w f line z (fails k) st m e = stops_kind ask _ m tt
  set_kind a w f line z (aims root n) st m e =
      set_cell_kind a w (record { 0 = root }) f n z (find m.frame.needs.items m.parts root f n) st m e
      (λ h. missing_is m root f n h)
      (λ k c y d fits. found_fits (is_needed m.frame.needs.items root f) (part_of m.parts root f) n k c y d fits)

  pub space_of_kind : (z : ℤ) (line : ℕ) (st : List Value) (m : Machine) → Kind ask m (space z line st m)
  space_of_kind (pos n) line st m = when_kind ask m (nat_le n 4194304) _ _ (next_kind ask _ m) (stops_kind ask _ m tt)
  space_of_kind (negsuc n) line st m = stops_kind ask _ m tt

  pub root_kind : (o : Option SpaceCode) (n size : ℕ) (st : List Value) (m : Machine) →
      Kind ask m (root_of_space o n size st m)
  root_kind None n size st m = stops_kind ask _ m tt
  root_kind (Some s) n size st m = when_kind ask m (nat_le (length s.fields) 256) _ _
      (yields_kind ask (made.Root size n) st m) (stops_kind ask _ m tt)

  pub child_kind : (o : Option RegionValue) (line : ℕ) (st : List Value) (m : Machine) →
      Kind ask m (child_at o line st m)
  child_kind (Some r) line st m = next_kind ask _ m
  child_kind None line st m = stops_kind ask _ m tt

  pub filled_kind : (f : Machine) (b : Bool) (a : Mode) (old new : Machine) (more : Machine → Stepped) → Fixed f old →
      Kind ask f (more new) → Kind ask f (filled b a old new more)
  filled_kind f true mode.Write old new more e k = k
  filled_kind f true mode.Read old new more e k = over _ old tt e
  filled_kind f true (mode.Reduce o) old new more e k = over _ old tt e
  filled_kind f false a old new more e k = over _ old tt e

  pub fill_cell_kind : (f : Machine) (root : RootId) (g : ℕ) (w : Width) (x : ℕ) (z : ℤ) (o : Found) (m : Machine) (more : Machine → Stepped) →
      Filling f m → ask.key ≡ Some (root.0, g) → (o ≡ missing → IsMissing m root.0 g) → AreOfPart o (part_of m.parts root.0 g) →
      ((n : Machine) → Filling f n → Kind ask f (more n)) →
      Kind ask f (fill_cell root.0 g w x z o m more)
  fill_cell_kind f root g w x z refused m more e d h p k = over _ m tt (filling_fixed f m e)
  fill_cell_kind f root g w x z missing m more e d h p k =
      wants root g m (filling_fixed f m e) e.frame d
      (missing_alike m f root.0 g e.frame e.parts (h refl))
  fill_cell_kind f root g w x z (found kind c) m more e d h p k = by_width (same_width (width_of kind) w) refl
    where
      new : Machine
      new = record m { parts = set_part m.parts root.0 g x (wrapped w z) }

      by_width : (b : Bool) → same_width (width_of kind) w ≡ b → Kind ask f (filled b c.mode m new more)
      by_width true same = filled_kind f true c.mode m new more (filling_fixed f m e) (k new (record {
        frame = e.frame;
        parts = set_part_bare m.parts root.0 g x (wrapped w z) ∙ e.parts;
        fits = λ q. set_part_fits m.parts root.0 g x (wrapped w z)
            (p kind c (wrapped w z) refl (subst (λ v. FitsWidth v (wrapped w z)) (sym (width_is (width_of kind) w same)) (wrapped_fits w z)))
            (e.fits q);
      }))
      by_width false same = over _ m tt (filling_fixed f m e)

  -- ---- fills

  pub fill_kind : (f : Machine) (root : RootId) (g : ℕ) (w : Width) (z : ℤ) (xs : List ℕ) (st : List Value) (m : Machine) →
      ask.key ≡ Some (root.0, g) → Filling f m → Kind ask f (fill_points root.0 g w z xs st m)
  fill_kind f root g w z [] st m d e =
      let k = filling_fixed f m e in
      nexted _ (record { task = k.task; slots = k.slots; later = ap (λ (x : Frame). x.later) e.frame; depth = k.depth; own = k.own; needs = k.needs; parts = k.parts; fits = k.fits }) (ap (λ (x : Frame). x.turns) e.frame) (ap (λ (x : Frame). suc x.pc) e.frame)
  fill_kind f root g w z (x ∷ xs) st m d e =
      fill_cell_kind f root g w x z (find m.frame.needs.items m.parts root.0 g x) m (fill_points root.0 g w z xs st) e d
      (λ h. missing_is m root.0 g x h)
      (λ j c y q fits. found_fits (is_needed m.frame.needs.items root.0 g) (part_of m.parts root.0 g) x j c y q fits)
      (λ n c. fill_kind f root g w z xs st n d c)

  pub made_kind : (r : RegionValue) (sets : List (List ℕ)) (d : Bool) (st : List Value) (m : Machine) →
      Kind ask m (partition r sets d st m)
  made_kind r sets d st m = yields_kind ask (made.Partition r sets d) st m

  pub over_three : (m : Machine) (s p r : ℕ) (more : RegionValue → PartitionValue → RegionValue → Stepped) →
      ((a : RegionValue) (q : PartitionValue) (b : RegionValue) → region_slot m r ≡ Some b → Kind ask m (more a q b)) →
      Kind ask m (on_region m s (λ a. on_partition m p (λ q. on_region m r (λ b. more a q b))))
  over_three m s p r more k = region_kind ask m (region_slot m s) m _ (fixed _)
      (λ a e. partition_kind ask m (partition_slot m p) m _ (fixed _)
      (λ q. region_kind ask m (region_slot m r) m _ (fixed _) (λ b d. k a q b d)))

  pub over_sets : (m : Machine) (p q s : ℕ) (more : PartitionValue → PartitionValue → RegionValue → Stepped) →
      ((a b : PartitionValue) (r : RegionValue) → Kind ask m (more a b r)) →
      Kind ask m (on_partition m p (λ a. on_partition m q (λ b. on_region m s (λ r. more a b r))))
  over_sets m p q s more k = partition_kind ask m (partition_slot m p) m _ (fixed _)
      (λ a. partition_kind ask m (partition_slot m q) m _ (fixed _)
      (λ b. region_kind ask m (region_slot m s) m _ (fixed _) (λ r e. k a b r)))
