-- Images and preimages: partitions by where a field leads.
use Rattle.std.proofs.Common.{◌≡◌, ℕ, suc, ◌<◌, ◌^◌, ℤ, List, [], ◌∷◌, ◌++◌, Bool, false, true, refl, sym, ap, ◌∙◌, subst, arith}
use Rattle.std.specs.Prelude.{get_or, length, map, slice_get, ◌&&◌, ◌==◌}
use Rattle.std.specs.List.{list_all, list_any}
use Rattle.std.specs.List.Sorted.{IsStrictlyIncreasing}
use Rattle.std.proofs.lemmas.Bool.{and_from, eq-eqb}
use Rattle.std.proofs.lemmas.List.{length-map}
use Rattle.plain_values.specs.Points.{has, within}
use Rattle.point_sets.proofs.Rising.{has_head, within_each, within_from_each}
use Rattle.partitions.proofs.Apart.{preimage_apart}
use Rattle.partitions.proofs.Inside.{filtered_parts}
use Rattle.partitions.specs.Laws.{ArePartsOf, NoneShared}
use Rattle.lane_kernels.specs.declared.numbers.FieldKind.{FieldKind}
use Rattle.lane_kernels.specs.declared.numbers.Mode.TheVariants as mode
use Rattle.region_tree.specs.declared.piece.Part.{Part}
use Rattle.regent_tree.specs.Accesses.{space_in}
use Rattle.regent_tree.specs.Evaluation.{static_type_of}
use Rattle.regent_tree.specs.Initializers.{keeps_pointers, partition_named, partitioned, read_all, region_named}
use Rattle.regent_tree.specs.Partitions.{image_flag, image_sets, is_among, is_point, numbers_at, point_named, points_where, preimage_flag, preimage_sets}
use Rattle.regent_tree.specs.Running.{Here, Result, State, and_then, given}
use Rattle.regent_tree.specs.Scopes.{bound_as, bound_to}
use Rattle.regent_tree.specs.StaticTypes.{field_kind, field_place}
use Rattle.regent_tree.specs.Store.{read_at, touch_all}
use Rattle.regent_tree.specs.Syntax.{Name}
use Rattle.regent_tree.specs.Typing.{parent_of}
use Rattle.regent_tree.specs.Values.{Partition, Region, Value, partition_of, region_of}
use Rattle.regent_tree.specs.declared.typing.Bound.{Bound}
use Rattle.regent_tree.specs.declared.typing.StaticType.{StaticType}
use Rattle.regent_tree.specs.declared.typing.StaticType.TheVariants.{Partition as partition_type}
use Rattle.task_code.specs.declared.instr.Instr.{Instr}
use Rattle.task_code.specs.declared.instr.Instr.TheVariants as instr
use Rattle.machine_terms.specs.Contents.{kind_of}
use Rattle.machine_terms.specs.Machine.{Machine, broken, when}
use Rattle.machine_terms.specs.Makes.{region_with}
use Rattle.machine_terms.specs.Pointers.{region_in}
use Rattle.machine_terms.specs.Regions.{lie_in, on_column, partition as makes, partition_in, sets_of, with_partition, with_region}
use Rattle.machine_terms.specs.Segments.{act}
use Rattle.machine_terms.specs.declared.order.Instance.{Instance}
use Rattle.machine_terms.specs.declared.value.PartitionValue.{PartitionValue}
use Rattle.machine_terms.specs.declared.value.RegionValue.{RegionValue}
use Rattle.memory_laws.specs.Memory.{Holds, memory_of}
use Rattle.memory_laws.specs.Places.{number_at}
use Rattle.code_rules.specs.Initializers.{field_of}
use Rattle.code_rules.specs.Pieces.{op}
use Rattle.code_rules.specs.Slots.{slot_named}
use Rattle.code_laws.specs.Steps.{is_issue}
use Rattle.code_laws.specs.Arguments.{IsCutName, IsParent, LiesBelow, parent_bound}
use Rattle.code_laws.specs.Standing.{Agrees, Aside, Comes, SlotsFit, Stands, nothing, of_partition, where_of}
use Rattle.code_laws.specs.Steps.{Setting, machine_of, on_step, placed}
use Rattle.code_laws.specs.Taking.{IsSubregion}
use Rattle.code_laws.specs.Typed.{IsScanned}
use Rattle.code_laws.proofs.Columns.{are_pointers, columns}
use Rattle.code_laws.proofs.Cuts.{GoodCut, NamedRegion, all_within, cut_is, made_runs, region_named_there, sound_by}
use Rattle.code_laws.proofs.Good.{valued}
use Rattle.code_laws.proofs.PairCuts.{NamedPartition, partition_named_there, sets_there}
use Rattle.code_laws.proofs.Parts.{parent_inside}
use Rattle.code_laws.proofs.Reaching.{kept_here, Reached, reached, region_had, rewritten}
use Rattle.code_laws.proofs.Rows.{three_least}
use Rattle.code_laws.proofs.Runs.{comes_before, leads_alone}
use Rattle.code_laws.proofs.Touching.{parted}
use Rattle.code_laws.proofs.Began.{lies_below}
use Rattle.code_laws.proofs.Under.{under_named, under_numbered}
use Rattle.code_laws.proofs.Values.{not_true}

-- ---- sets by where a field leads

-- what holds of such an operation, by the field's numbers at a region's points
pub record IsMapping (sets : List ℕ → List (List ℕ) → List ℕ → List ℤ → Bool → List (List ℕ)) (flag : Bool → Bool) : Type 0 where
  pub parts : (parent : List ℕ) (ps : List (List ℕ)) (r : List ℕ) (zs : List ℤ) (p : Bool) → IsStrictlyIncreasing parent →
      ArePartsOf parent (sets parent ps r zs p)
  pub apart : (parent : List ℕ) (ps : List (List ℕ)) (r : List ℕ) (zs : List ℤ) (p d : Bool) → IsStrictlyIncreasing r →
      (d ≡ true → NoneShared ps) → flag d ≡ true → NoneShared (sets parent ps r zs p)
  pub long : (parent : List ℕ) (ps : List (List ℕ)) (r : List ℕ) (zs : List ℤ) (p : Bool) → length (sets parent ps r zs p) ≡ length ps
  pub none : (parent : List ℕ) (ps : List (List ℕ)) (zs : List ℤ) (p q : Bool) → sets parent ps [] zs p ≡ sets parent ps [] zs q

image_mapping : IsMapping image_sets (λ d. image_flag)
image_mapping = record {
  parts = λ parent ps r zs p up. filtered_parts parent (λ set x. list_any (λ z. is_point x (point_named p z)) (numbers_at set r zs)) ps up;
  apart = λ parent ps r zs p d up h e. absurd (not_true e);
  long = λ parent ps r zs p. length-map ps _;
  none = λ parent ps zs p q. refl;
}

preimage_mapping : IsMapping preimage_sets preimage_flag
preimage_mapping = record {
  parts = λ parent ps r zs p up. filtered_parts parent (λ set. has (points_where (λ z. is_among set (point_named p z)) r zs)) ps up;
  apart = λ parent ps r zs p d up h e. preimage_apart parent ps r zs p up (h e);
  long = λ parent ps r zs p. length-map ps _;
  none = λ parent ps zs p q. refl;
}

-- ---- a region within another

-- the points of the one are the other's
points_within : (q p : Region) → IsSubregion q p → (x : ℕ) → has q.points x ≡ true → has p.points x ≡ true
points_within q p sub x e = (sub.1 q.root x (refl, e)).1

-- so are those of parts
parts_wider : (q p : Region) (sets : List (List ℕ)) → IsSubregion q p → ArePartsOf q.points sets → ArePartsOf p.points sets
parts_wider q p sets sub parts k d l =
    let part = parts k d l in
    (part.0, within_from_each (get_or sets k d) p.points (λ x m. points_within q p sub x (within_each (get_or sets k d) q.points part.1 x m)))

module _ (x : Setting) (params slots : ℕ) (fit : SlotsFit x slots) {deep : ℕ} (aside : Aside deep) where
  -- what the machine has for a region and a partition
  abbrev value_of : Instance → Region → RegionValue
  value_of i q = region_with (number_at i.contents q.root) q.points

  abbrev seen : Instance → Partition → PartitionValue
  seen i q = record {
    root = record { 0 = number_at i.contents q.root };
    disjoint = q.disjoint;
    children = map (region_with (number_at i.contents q.root)) q.sets;
  }

  -- where the operation's instruction takes the region that is divided, the partition, and the field's region
  mapped_runs : (sets : List ℕ → List (List ℕ) → List ℕ → List ℤ → Bool → List (List ℕ)) (flag : Bool → Bool) → IsMapping sets flag →
      (asks : RegionValue → PartitionValue → RegionValue → Bool) (ins : Instr) → is_issue ins ≡ false → (e : Bool) (h : Here) (n p r f : Name) (own : ℕ) (s : State) (pc : ℕ)
      (i : Instance) → IsParent (where_of params h) n → IsScanned x.forms (where_of params h) r f →
      (a : NamedRegion x params slots fit aside h (bound_to h.scope.names n) s i) (q : NamedPartition x params slots fit aside h p s i)
      (b : NamedRegion x params slots fit aside h (bound_to h.scope.names r) s i) → Agrees x params slots aside h s i →
      Stands x.body pc (op ins h.line) → suc pc < 2 ^ 32 → asks (value_of i a.region) (seen i q.partition) (value_of i b.region) ≡ true →
      ((m : Machine) → act x.code x.body ins h.line m
      ≡ with_region (region_in (slice_get m.frame.slots (slot_named (where_of params h) n))) m
      (λ u. with_partition (partition_in (slice_get m.frame.slots (slot_named (where_of params h) p))) m
      (λ v. with_region (region_in (slice_get m.frame.slots (slot_named (where_of params h) r))) m
      (λ y. when (asks u v y) (on_column m y (field_of (where_of params h) r f)
      (λ zs pointers. makes u (sets u.points (sets_of v) y.points zs pointers) (flag v.disjoint) m.frame.stack m)) (broken m))))) →
      Comes x (placed pc [] i) (valued (suc pc) []) (GoodCut x params slots fit aside h (partition_type e (bound_to h.scope.names n).number own))
      (and_then (read_all h (static_type_of h r) b.region f s)
      (λ c. given (partitioned a.region.root (flag q.partition.disjoint) (sets a.region.points q.partition.sets b.region.points c.numbers c.pointers))))
  mapped_runs sets flag mapping asks ins alone e h n p r f own s pc i parent scanned a q b g stands near asked is =
      columns x i b.region.root place s.store pc h.line [] ins b.region.points
      (λ j. Comes x j (valued (suc pc) []) (GoodCut x params slots fit aside h t) meant)
      (λ m zs pointers. makes (value_of i a.region) (sets a.region.points (sets_of (seen i q.partition)) b.region.points zs pointers) d [] m) alone g.memory
      (λ p e. (known p e).covers)
      stands acts (λ j k l c. comes_before x (valued (suc pc) []) (GoodCut x params slots fit aside h t) j k meant l c) made
    where
      c : Bound
      c = bound_to h.scope.names r

      t : StaticType
      t = partition_type e (bound_to h.scope.names n).number own

      place : ℕ
      place = field_place h.tree (space_in c.static_type) f

      kind : FieldKind
      kind = kind_of x.code i.contents (number_at i.contents b.region.root) place

      d : Bool
      d = flag q.partition.disjoint

      known : (p : ℕ) → has b.region.points p ≡ true → Reached x h.tree i s.store b.region (space_in c.static_type) place p mode.Read
      known p e = reached x params slots aside h s i b.region c.static_type scanned.parent.region place p mode.Read g b.inside scanned.may scanned.field e

      zs : List ℤ
      zs = map (read_at s.store b.region.root place) b.region.points

      pointers : Bool
      pointers = keeps_pointers (field_kind h.tree (space_in c.static_type) place)

      new : List (List ℕ)
      new = sets a.region.points q.partition.sets b.region.points zs pointers

      meant : Result Value
      meant = and_then (read_all h (static_type_of h r) b.region f s)
          (λ c. given (partitioned a.region.root d (sets a.region.points q.partition.sets b.region.points c.numbers c.pointers)))

      acts : (ps : List Part) → act x.code x.body ins h.line (machine_of (placed pc [] (parted ps i)))
          ≡ on_column (machine_of (placed pc [] (parted ps i))) (value_of i b.region) place
          (λ zs pointers. makes (value_of i a.region) (sets a.region.points (sets_of (seen i q.partition)) b.region.points zs pointers) d [] (machine_of (placed pc [] (parted ps i))))
      acts ps =
          let m = machine_of (placed pc [] (parted ps i)) in
          is m
          ∙ ap (λ o. with_region (region_in o) m
          (λ u. with_partition (partition_in (slice_get m.frame.slots (slot_named (where_of params h) p))) m
          (λ v. with_region (region_in (slice_get m.frame.slots (slot_named (where_of params h) r))) m
          (λ y. when (asks u v y) (on_column m y place (λ zs pointers. makes u (sets u.points (sets_of v) y.points zs pointers) (flag v.disjoint) [] m)) (broken m))))) a.there
          ∙ ap (λ o. with_partition (partition_in o) m
          (λ v. with_region (region_in (slice_get m.frame.slots (slot_named (where_of params h) r))) m
          (λ y. when (asks (value_of i a.region) v y) (on_column m y place
          (λ zs pointers. makes (value_of i a.region) (sets a.region.points (sets_of v) y.points zs pointers) (flag v.disjoint) [] m)) (broken m)))) q.there
          ∙ ap (λ o. with_region (region_in o) m
          (λ y. when (asks (value_of i a.region) (seen i q.partition) y) (on_column m y place
          (λ zs pointers. makes (value_of i a.region) (sets a.region.points (sets_of (seen i q.partition)) y.points zs pointers) d [] m)) (broken m))) b.there
          ∙ ap (λ k. when k (on_column m (value_of i b.region) place
          (λ zs pointers. makes (value_of i a.region) (sets a.region.points (sets_of (seen i q.partition)) b.region.points zs pointers) d [] m)) (broken m)) asked

      -- whether the numbers are pointers, the machine knows where there is one
      pointers_seen : (xs : List ℕ) → b.region.points ≡ xs →
          sets a.region.points q.partition.sets xs zs (are_pointers kind xs) ≡ sets a.region.points q.partition.sets xs zs pointers
      pointers_seen [] e = mapping.none a.region.points q.partition.sets zs false pointers
      pointers_seen (n ∷ xs) e = ap (λ k. sets a.region.points q.partition.sets (n ∷ xs) zs (keeps_pointers k))
          (known n (ap (λ ys. has ys n) e ∙ has_head n xs)).kind_is

      made : (ps : List Part) → Holds x.code s.store (memory_of (parted ps i)) →
          act x.code x.body ins h.line (machine_of (placed pc [] (parted ps i)))
          ≡ makes (value_of i a.region) (sets a.region.points (sets_of (seen i q.partition)) b.region.points zs (are_pointers kind b.region.points)) d []
          (machine_of (placed pc [] (parted ps i))) →
          Comes x (placed pc [] (parted ps i)) (valued (suc pc) []) (GoodCut x params slots fit aside h t) meant
      made ps holds does =
          let j = placed pc [] (parted ps i) in
          let m = machine_of j in
          let parts = mapping.parts a.region.points q.partition.sets b.region.points zs pointers a.lies.set.rising in
          let apart = mapping.apart a.region.points q.partition.sets b.region.points zs pointers q.partition.disjoint b.lies.set.rising q.cut.apart in (
            parted ps i,
            leads_alone x j _ ins h.line alone stands
                (ap (on_step x j) (does
                ∙ ap (λ y. makes (value_of i a.region) (sets a.region.points y b.region.points zs (are_pointers kind b.region.points)) d [] m)
                (sets_there (number_at i.contents q.partition.root) q.partition.sets)
                ∙ ap (λ y. makes (value_of i a.region) y d [] m) (pointers_seen b.region.points refl))
                ∙ made_runs x params slots fit aside (value_of i a.region) new d [] [] pc (parted ps i) (sound_by a.region.points new d parts apart) near),
            (
              of_partition e (bound_to h.scope.names n).number own _,
              a.lies.there,
              cut_is x params slots fit aside h n s i a new d parent parts apart
                  (omega (arith, q.cut.few, mapping.long a.region.points q.partition.sets b.region.points zs pointers)) g,
              rewritten x params slots aside h s i ps (s.touches ++ touch_all b.region.root place mode.Read b.region.points) s.store refl (kept_here x params slots aside h s i g) g holds,
            ),
          )

  -- what holds of the region, the partition and the field's region holds of what their names have
  three_named : (h : Here) (n p r : Name) (s : State) (i : Instance) (a : NamedRegion x params slots fit aside h (bound_to h.scope.names n) s i)
      (q : NamedPartition x params slots fit aside h p s i) (b : NamedRegion x params slots fit aside h (bound_to h.scope.names r) s i)
      (P : Region → Partition → Region → Type 0) → P a.region q.partition b.region →
      P (region_of (get_or s.names (bound_to h.scope.names n).place nothing)) (partition_of (get_or s.names (bound_to h.scope.names p).place nothing))
      (region_of (get_or s.names (bound_to h.scope.names r).place nothing))
  three_named h n p r s i a q b P y =
      subst (λ u. P (region_of u) (partition_of (get_or s.names (bound_to h.scope.names p).place nothing)) (region_of (get_or s.names (bound_to h.scope.names r).place nothing))) (sym a.is)
      (subst (λ u. P a.region (partition_of u) (region_of (get_or s.names (bound_to h.scope.names r).place nothing))) (sym q.is)
      (subst (λ u. P a.region q.partition (region_of u)) (sym b.is) y))

  -- `image(n, p, r.f)`
  pub image_runs : (h : Here) (n p r f : Name) (own : ℕ) (s : State) (pc : ℕ) (i : Instance) → IsParent (where_of params h) n →
      IsCutName (where_of params h) p → IsScanned x.forms (where_of params h) r f →
      LiesBelow x.forms.takes (where_of params h) (parent_bound (where_of params h) p) (bound_to h.scope.names r) → Agrees x params slots aside h s i →
      Stands x.body pc (op (instr.Image (slot_named (where_of params h) n) (slot_named (where_of params h) p) (slot_named (where_of params h) r)
      (field_of (where_of params h) r f)) h.line) → suc pc < 2 ^ 32 →
      Comes x (placed pc [] i) (valued (suc pc) []) (GoodCut x params slots fit aside h (partition_type image_flag (bound_to h.scope.names n).number own))
      (and_then (region_named h n s) (λ a. λ s1. and_then (partition_named h p s1) (λ q. λ s2. and_then (region_named h r s2)
      (λ b. λ s3. and_then (read_all h (static_type_of h r) b f s3)
      (λ c. given (partitioned a.root image_flag (image_sets a.points q.sets b.points c.numbers c.pointers)))))))
  image_runs h n p r f own s pc i parent cut scanned below g stands near =
      let w = where_of params h in
      let t = partition_type image_flag (bound_to h.scope.names n).number own in
      let ins = instr.Image (slot_named w n) (slot_named w p) (slot_named w r) (field_of w r f) in
      let room = three_least (slot_named w n) (slot_named w p) (slot_named w r) slots (fit pc _ stands) in
      let a = region_named_there x params slots fit aside h n s i parent room.0 g in
      let q = partition_named_there x params slots fit aside h p s i cut room.1 g in
      let b = region_named_there x params slots fit aside h r s i scanned.parent room.2 g in
      let k = parent_of (bound_to h.scope.names p).static_type in
      let o = bound_as h.scope.names k in
      let sub = lies_below x params slots fit aside h s i o (bound_to h.scope.names r) q.cut.parent b.region q.cut.is.value b.is q.cut.is.region
      (region_had x s.store o.static_type q.cut.parent q.cut.is.region (parent_inside x params slots fit aside h s i k q.partition q.cut g))
      (region_had x s.store (bound_to h.scope.names r).static_type b.region scanned.parent.region b.inside)
      (under_numbered x.forms.takes h.scope.next h.scope.names s.names k cut.numbers g.under q.cut.is.region) below g in
      let asked : lie_in (seen i q.partition).root.0 (sets_of (seen i q.partition)) (value_of i b.region) ≡ true =
      and_from (number_at i.contents q.partition.root == number_at i.contents b.region.root) (list_all (λ s. within s b.region.points) (sets_of (seen i q.partition)))
      (eq-eqb (number_at i.contents q.partition.root) (number_at i.contents b.region.root) (ap (number_at i.contents) (q.cut.root ∙ sub.0)))
      (ap (list_all (λ s. within s b.region.points)) (sets_there (number_at i.contents q.partition.root) q.partition.sets)
      ∙ all_within b.region.points q.partition.sets (parts_wider q.cut.parent b.region q.partition.sets sub q.cut.sets)) in
      three_named h n p r s i a q b (λ a q b. Comes x (placed pc [] i) (valued (suc pc) []) (GoodCut x params slots fit aside h t)
      (and_then (read_all h (static_type_of h r) b f s)
      (λ c. given (partitioned a.root image_flag (image_sets a.points q.sets b.points c.numbers c.pointers)))))
      (mapped_runs image_sets (λ d. image_flag) image_mapping (λ u v y. lie_in v.root.0 (sets_of v) y) ins refl image_flag h n p r f own s pc i parent scanned a q b g
      stands near asked (λ m. refl))

  -- `preimage(n, p, r.f)`
  pub preimage_runs : (h : Here) (n p r f : Name) (e : Bool) (own : ℕ) (s : State) (pc : ℕ) (i : Instance) → IsParent (where_of params h) n →
      IsCutName (where_of params h) p → IsScanned x.forms (where_of params h) r f →
      LiesBelow x.forms.takes (where_of params h) (bound_to h.scope.names n) (bound_to h.scope.names r) → Agrees x params slots aside h s i →
      Stands x.body pc (op (instr.Preimage (slot_named (where_of params h) n) (slot_named (where_of params h) p) (slot_named (where_of params h) r)
      (field_of (where_of params h) r f)) h.line) → suc pc < 2 ^ 32 →
      Comes x (placed pc [] i) (valued (suc pc) []) (GoodCut x params slots fit aside h (partition_type e (bound_to h.scope.names n).number own))
      (and_then (region_named h n s) (λ a. λ s1. and_then (partition_named h p s1) (λ q. λ s2. and_then (region_named h r s2)
      (λ b. λ s3. and_then (read_all h (static_type_of h r) b f s3)
      (λ c. given (partitioned a.root (preimage_flag q.disjoint) (preimage_sets a.points q.sets b.points c.numbers c.pointers)))))))
  preimage_runs h n p r f e own s pc i parent cut scanned below g stands near =
      let w = where_of params h in
      let t = partition_type e (bound_to h.scope.names n).number own in
      let ins = instr.Preimage (slot_named w n) (slot_named w p) (slot_named w r) (field_of w r f) in
      let room = three_least (slot_named w n) (slot_named w p) (slot_named w r) slots (fit pc _ stands) in
      let a = region_named_there x params slots fit aside h n s i parent room.0 g in
      let q = partition_named_there x params slots fit aside h p s i cut room.1 g in
      let b = region_named_there x params slots fit aside h r s i scanned.parent room.2 g in
      let sub = lies_below x params slots fit aside h s i (bound_to h.scope.names n) (bound_to h.scope.names r) a.region b.region a.is b.is parent.region
      (region_had x s.store (bound_to h.scope.names n).static_type a.region parent.region a.inside)
      (region_had x s.store (bound_to h.scope.names r).static_type b.region scanned.parent.region b.inside)
      (under_named x.forms.takes h.scope.next h.scope.names s.names n parent.numbers g.under parent.named) below g in
      let asked : lie_in (value_of i a.region).root.0 (a.region.points ∷ []) (value_of i b.region) ≡ true =
      and_from (number_at i.contents a.region.root == number_at i.contents b.region.root) (within a.region.points b.region.points && true)
      (eq-eqb (number_at i.contents a.region.root) (number_at i.contents b.region.root) (ap (number_at i.contents) sub.0))
      (and_from (within a.region.points b.region.points) true
      (within_from_each a.region.points b.region.points (points_within a.region b.region sub)) refl) in
      three_named h n p r s i a q b (λ a q b. Comes x (placed pc [] i) (valued (suc pc) []) (GoodCut x params slots fit aside h t)
      (and_then (read_all h (static_type_of h r) b f s)
      (λ c. given (partitioned a.root (preimage_flag q.disjoint) (preimage_sets a.points q.sets b.points c.numbers c.pointers)))))
      (mapped_runs preimage_sets preimage_flag preimage_mapping (λ u v y. lie_in u.root.0 (u.points ∷ []) y) ins refl e h n p r f own s pc i parent scanned a q b g
      stands near asked (λ m. refl))
