-- Partitions of two others of one region: the points that both have, or either, or the first alone, colour by colour.
use Rattle.std.proofs.Common.{◌≡◌, inl, inr, ℕ, suc, ◌<◌, ◌≤◌, ◌^◌, List, [], ◌∷◌, Bool, true, false, Some, refl, sym, ap, ◌∙◌, subst, arith, ⊎_elim}
use Rattle.std.specs.Prelude.{get_or, length, map, slice_get}
use Rattle.std.proofs.lemmas.Bool.{or_cases}
use Rattle.plain_values.specs.Points.{meet_of, minus_of, union_of}
use Rattle.partitions.proofs.Pairs.{both_apart, both_parts, each_made, either_parts, without_apart, without_parts}
use Rattle.partitions.proofs.Colours.{length_made}
use Rattle.partitions.specs.Laws.{ArePartsOf, NoneShared, colour}
use Rattle.regent_tree.specs.Accesses.{standing}
use Rattle.regent_tree.specs.Evaluation.{linked, static_type_of, value}
use Rattle.regent_tree.specs.Initializers.{partition_named, partitioned}
use Rattle.regent_tree.specs.Operators.{combined, difference}
use Rattle.regent_tree.specs.Partitions.{both_flag, both_sets, each_with, either_flag, either_sets, minus_flag, minus_sets}
use Rattle.regent_tree.specs.Running.{Here, Result, State, and_then, given, gives}
use Rattle.regent_tree.specs.Scopes.{bound_as, bound_to}
use Rattle.regent_tree.specs.Syntax.{Name, a_link, access_expr, chain_expr, no_link, no_step}
use Rattle.regent_tree.specs.Typing.{parent_of}
use Rattle.regent_tree.specs.Values.{Partition, Region, Value, a_partition, a_region, partition_of, region_of}
use Rattle.regent_tree.specs.declared.expression.Arithmetic.TheVariants.{Subtract}
use Rattle.regent_tree.specs.declared.expression.Operator.TheVariants.{Compute}
use Rattle.regent_tree.specs.declared.typing.StaticType.{StaticType}
use Rattle.regent_tree.specs.declared.typing.StaticType.TheVariants.{Partition as partition_type}
use Rattle.task_code.specs.declared.instr.Instr.{Instr}
use Rattle.task_code.specs.declared.instr.Instr.TheVariants as instr
use Rattle.machine_terms.specs.Machine.{Machine}
use Rattle.machine_terms.specs.Makes.{region_with}
use Rattle.machine_terms.specs.Pointers.{region_in}
use Rattle.machine_terms.specs.Regions.{partition as makes, partition_in, sets_of, with_partition, with_region}
use Rattle.machine_terms.specs.Segments.{act}
use Rattle.machine_terms.specs.declared.order.Instance.{Instance}
use Rattle.machine_terms.specs.declared.order.Resumed.TheVariants.{GoesOn}
use Rattle.machine_terms.specs.declared.value.PartitionValue.{PartitionValue}
use Rattle.machine_terms.specs.declared.value.RegionValue.{RegionValue}
use Rattle.memory_laws.specs.Places.{number_at}
use Rattle.code_rules.specs.Pieces.{op}
use Rattle.code_rules.specs.Slots.{slot_bound, slot_named}
use Rattle.code_laws.specs.Steps.{is_issue}
use Rattle.code_laws.specs.Arguments.{ArePaired, IsCutName}
use Rattle.code_laws.specs.Pointers.{IsCut}
use Rattle.code_laws.specs.Simple.{IsPartition, a_partition_type}
use Rattle.code_laws.specs.Standing.{Agrees, Aside, Comes, IsInside, IsOf, SlotsFit, Stands, machine_value, nothing, of_partition, where_of}
use Rattle.code_laws.specs.Steps.{Setting, machine_of, on_step, placed}
use Rattle.code_laws.proofs.Accesses.{region_there}
use Rattle.code_laws.proofs.Cuts.{GoodCut, made_runs, sound_by, value_there}
use Rattle.code_laws.proofs.Good.{valued}
use Rattle.code_laws.proofs.Parts.{cut_of}
use Rattle.code_laws.proofs.Rows.{three_least}
use Rattle.code_laws.proofs.Runs.{leads_alone}
use Rattle.code_laws.proofs.Values.{named, not_true}

-- ---- sets of two partitions

-- the points of each colour that the machine has
pub sets_there : (n : ℕ) (sets : List (List ℕ)) → map (λ (r : RegionValue). r.points) (map (region_with n) sets) ≡ sets
sets_there n [] = refl
sets_there n (s ∷ sets) = ap (λ t. s ∷ t) (sets_there n sets)

length_each : (f : List ℕ → List ℕ → List ℕ) (ps qs : List (List ℕ)) → length (each_with f ps qs) ≡ length ps
length_each f ps qs = ap length (each_made f ps qs) ∙ length_made (λ c. f (colour ps c) (colour qs c)) (length ps)

-- what holds of a set operation on partitions of one region
pub record IsSetOperation (sets : List (List ℕ) → List (List ℕ) → List (List ℕ)) (flag : Bool → Bool → Bool) : Type 0 where
  pub parts : (parent : List ℕ) (ps qs : List (List ℕ)) → ArePartsOf parent ps → ArePartsOf parent qs → ArePartsOf parent (sets ps qs)
  pub apart : (ps qs : List (List ℕ)) (c d : Bool) → (c ≡ true → NoneShared ps) → (d ≡ true → NoneShared qs) → flag c d ≡ true →
      NoneShared (sets ps qs)
  pub long : (ps qs : List (List ℕ)) → length (sets ps qs) ≡ length ps

both_operation : IsSetOperation both_sets both_flag
both_operation = record {
  parts = λ parent ps qs p q. both_parts parent ps qs p;
  apart = λ ps qs c d p q e. both_apart ps qs (⊎_elim (λ h. inl (p h)) (λ h. inr (q h)) (or_cases c d e));
  long = λ ps qs. length_each meet_of ps qs;
}

either_operation : IsSetOperation either_sets (λ c d. either_flag)
either_operation = record {
  parts = λ parent ps qs p q. either_parts parent ps qs p q;
  apart = λ ps qs c d p q e. absurd (not_true e);
  long = λ ps qs. length_each union_of ps qs;
}

minus_operation : IsSetOperation minus_sets (λ c d. minus_flag c)
minus_operation = record {
  parts = λ parent ps qs p q. without_parts parent ps qs p;
  apart = λ ps qs c d p q e. without_apart ps qs (p e);
  long = λ ps qs. length_each minus_of ps qs;
}

-- what a difference means
difference_means : (h : Here) (p q : Name) (s : State) (a b : Partition) → get_or s.names (bound_to h.scope.names p).place nothing ≡ a_partition a →
    get_or s.names (bound_to h.scope.names q).place nothing ≡ a_partition b →
    value h (chain_expr (access_expr p no_step) (a_link (Compute Subtract) (access_expr q no_step) no_link)) s ≡ gives (difference a b) s
difference_means h p q s a b first second =
    ap (λ v. linked h (static_type_of h p) v (a_link (Compute Subtract) (access_expr q no_step) no_link) s) first
    ∙ ap (λ v. and_then (standing h v s) (λ c. combined h (Compute Subtract) (a_partition a) c)) second

-- what comes of the two partitions comes of the values that they are
two_named : (makes : Partition → Partition → Result Value) (u v : Value) (a b : Partition) → u ≡ a_partition a → v ≡ a_partition b →
    makes (partition_of u) (partition_of v) ≡ makes a b
two_named makes u v a b first second = ap (λ y. makes (partition_of y) (partition_of v)) first ∙ ap (λ y. makes a (partition_of y)) second

module _ (x : Setting) (params slots : ℕ) (fit : SlotsFit x slots) {deep : ℕ} (aside : Aside deep) where
  -- ---- what a name has

  -- a partition, in the slot of the name, and the region of which it is
  pub record NamedPartition (h : Here) (n : Name) (s : State) (i : Instance) : Type 0 where
    pub partition : Partition
    pub is : get_or s.names (bound_to h.scope.names n).place nothing ≡ a_partition partition
    pub inside : partition.root < length s.store
    pub cut : IsCut h.scope.names s.names (parent_of (bound_to h.scope.names n).static_type) partition
    pub there : slice_get i.frame.slots (slot_named (where_of params h) n) ≡ Some (machine_value i.contents (a_partition partition))

  a_partition_there : (t : StaticType) (v : Value) → IsPartition t → IsOf t v → (q : Partition) × (v ≡ a_partition q)
  a_partition_there _ _ (a_partition_type d r p) (of_partition _ _ _ q) = (q, refl)

  lies_there : (s : State) (t : StaticType) (q : Partition) → IsPartition t → IsInside x s.store t (a_partition q) → q.root < length s.store
  lies_there s _ q (a_partition_type d r p) l = l

  pub partition_named_there : (h : Here) (n : Name) (s : State) (i : Instance) → IsCutName (where_of params h) n →
      slot_named (where_of params h) n < slots → Agrees x params slots aside h s i → NamedPartition h n s i
  partition_named_there h n s i p room g =
      let b = bound_to h.scope.names n in
      let v = get_or s.names b.place nothing in
      let m = named IsOf h.scope.names s.names n g.typed p.named in
      let q = a_partition_there b.static_type v p.partition m.holding in record {
        partition = q.0;
        is = q.1;
        inside = lies_there s b.static_type q.0 p.partition
            (subst (IsInside x s.store b.static_type) q.1 (named (IsInside x s.store) h.scope.names s.names n g.inside_store p.named).holding);
        cut = cut_of x params slots fit aside h s i n q.0 p q.1 g;
        there = value_there x params slots fit aside h s i b.place v refl (omega (arith, m.below, g.count)) room g
            ∙ ap (λ v. Some (machine_value i.contents v)) q.1;
      }

  -- ---- two of one region

  -- where the operation's instruction takes the two, and the region
  pair_runs : (sets : List (List ℕ) → List (List ℕ) → List (List ℕ)) (flag : Bool → Bool → Bool) → IsSetOperation sets flag →
      (ins : Instr) → is_issue ins ≡ false → (e : Bool) (h : Here) (p q : Name) (own : ℕ) (s : State) (pc : ℕ) (i : Instance) → ArePaired (where_of params h) p q →
      Agrees x params slots aside h s i → Stands x.body pc (op ins h.line) → suc pc < 2 ^ 32 →
      (slot_named (where_of params h) p < slots) × (slot_named (where_of params h) q < slots)
      × (slot_bound (where_of params h) (parent_of (bound_to h.scope.names p).static_type) < slots) →
      ((m : Machine) → act x.code x.body ins h.line m ≡
      with_partition (partition_in (slice_get m.frame.slots (slot_named (where_of params h) p))) m
      (λ a. with_partition (partition_in (slice_get m.frame.slots (slot_named (where_of params h) q))) m
      (λ b. with_region (region_in (slice_get m.frame.slots (slot_bound (where_of params h) (parent_of (bound_to h.scope.names p).static_type)))) m
      (λ r. makes r (sets (sets_of a) (sets_of b)) (flag a.disjoint b.disjoint) m.frame.stack m)))) →
      (meant : Result Value) → ((a b : Partition) → get_or s.names (bound_to h.scope.names p).place nothing ≡ a_partition a →
      get_or s.names (bound_to h.scope.names q).place nothing ≡ a_partition b →
      meant ≡ gives (partitioned a.root (flag a.disjoint b.disjoint) (sets a.sets b.sets)) s) →
      Comes x (placed pc [] i) (valued (suc pc) [])
      (GoodCut x params slots fit aside h (partition_type e (parent_of (bound_to h.scope.names p).static_type) own)) meant
  pair_runs sets flag operation ins alone e h p q own s pc i pair g stands near room is meant means =
      subst (Comes x j (valued (suc pc) []) (GoodCut x params slots fit aside h (partition_type e r own))) (sym (means a.partition b.partition a.is b.is)) (
        i,
        leads_alone x j _ ins h.line alone stands
            (ap (on_step x j) acts ∙ made_runs x params slots fit aside value made (flag a.partition.disjoint b.partition.disjoint) [] [] pc i
            (sound_by parent.points made (flag a.partition.disjoint b.partition.disjoint) parts apart) near
            ∙ ap (λ n. GoesOn (valued (suc pc) [] (partitioned n (flag a.partition.disjoint b.partition.disjoint) made) i)) (sym a.cut.root)),
        (
          of_partition e r own _,
          a.inside,
          record { parent = parent; is = a.cut.is; root = a.cut.root; sets = parts; apart = apart; few = few },
          g,
        ),
      )
    where
      r : ℕ
      r = parent_of (bound_to h.scope.names p).static_type

      j : Instance
      j = placed pc [] i

      a : NamedPartition h p s i
      a = partition_named_there h p s i pair.first room.0 g

      b : NamedPartition h q s i
      b = partition_named_there h q s i pair.second room.1 g

      parent : Region
      parent = a.cut.parent

      same : a_region b.cut.parent ≡ a_region parent
      same = sym b.cut.is.value ∙ ap (λ k. get_or s.names (bound_as h.scope.names k).place nothing) (sym pair.parents) ∙ a.cut.is.value

      made : List (List ℕ)
      made = sets a.partition.sets b.partition.sets

      parts : ArePartsOf parent.points made
      parts = operation.parts parent.points a.partition.sets b.partition.sets a.cut.sets
          (subst (λ v. ArePartsOf (region_of v).points b.partition.sets) same b.cut.sets)

      apart : flag a.partition.disjoint b.partition.disjoint ≡ true → NoneShared made
      apart = operation.apart a.partition.sets b.partition.sets a.partition.disjoint b.partition.disjoint a.cut.apart b.cut.apart

      few : length made ≤ 65536
      few = omega (arith, a.cut.few, operation.long a.partition.sets b.partition.sets)

      value : RegionValue
      value = region_with (number_at i.contents parent.root) parent.points

      there : slice_get i.frame.slots (slot_bound (where_of params h) r) ≡ Some (machine_value i.contents (a_region parent))
      there = region_there x params slots fit aside h s i (bound_as h.scope.names r).place parent a.cut.is.value
          (omega (arith, a.cut.is.below, g.count)) room.2 g

      -- the sets that the machine has
      seen : Partition → PartitionValue
      seen c = record {
        root = record { 0 = number_at i.contents c.root };
        disjoint = c.disjoint;
        children = map (region_with (number_at i.contents c.root)) c.sets;
      }

      acts : act x.code x.body ins h.line (machine_of j)
          ≡ makes value made (flag a.partition.disjoint b.partition.disjoint) [] (machine_of j)
      acts =
          let m = machine_of j in
          let f = flag a.partition.disjoint b.partition.disjoint in
          is m
          ∙ ap (λ o. with_partition (partition_in o) m
          (λ a. with_partition (partition_in (slice_get m.frame.slots (slot_named (where_of params h) q))) m
          (λ b. with_region (region_in (slice_get m.frame.slots (slot_bound (where_of params h) r))) m
          (λ u. makes u (sets (sets_of a) (sets_of b)) (flag a.disjoint b.disjoint) [] m)))) a.there
          ∙ ap (λ o. with_partition (partition_in o) m
          (λ b. with_region (region_in (slice_get m.frame.slots (slot_bound (where_of params h) r))) m
          (λ u. makes u (sets (sets_of (seen a.partition)) (sets_of b)) (flag a.partition.disjoint b.disjoint) [] m))) b.there
          ∙ ap (λ o. with_region (region_in o) m
          (λ u. makes u (sets (sets_of (seen a.partition)) (sets_of (seen b.partition))) f [] m)) there
          ∙ ap (λ y. makes value (sets y (sets_of (seen b.partition))) f [] m) (sets_there (number_at i.contents a.partition.root) a.partition.sets)
          ∙ ap (λ y. makes value (sets a.partition.sets y) f [] m) (sets_there (number_at i.contents b.partition.root) b.partition.sets)

  -- `p & q`
  pub both_runs : (h : Here) (p q : Name) (e : Bool) (own : ℕ) (s : State) (pc : ℕ) (i : Instance) → ArePaired (where_of params h) p q →
      Agrees x params slots aside h s i →
      Stands x.body pc (op (instr.Meet (slot_named (where_of params h) p) (slot_named (where_of params h) q)
      (slot_bound (where_of params h) (parent_of (bound_to h.scope.names p).static_type))) h.line) → suc pc < 2 ^ 32 →
      Comes x (placed pc [] i) (valued (suc pc) [])
      (GoodCut x params slots fit aside h (partition_type e (parent_of (bound_to h.scope.names p).static_type) own))
      (and_then (partition_named h p s) (λ a. λ s1. and_then (partition_named h q s1)
      (λ b. given (partitioned a.root (both_flag a.disjoint b.disjoint) (both_sets a.sets b.sets)))))
  both_runs h p q e own s pc i pair g stands near =
      let w = where_of params h in
      let r = slot_bound w (parent_of (bound_to h.scope.names p).static_type) in
      pair_runs both_sets both_flag both_operation (instr.Meet (slot_named w p) (slot_named w q) r) refl e h p q own s pc i pair g stands near
      (three_least (slot_named w p) (slot_named w q) r slots (fit pc _ stands)) (λ m. refl) _
      (λ a b. two_named (λ a b. gives (partitioned a.root (both_flag a.disjoint b.disjoint) (both_sets a.sets b.sets)) s) _ _ a b)

  -- `p | q`
  pub either_runs : (h : Here) (p q : Name) (e : Bool) (own : ℕ) (s : State) (pc : ℕ) (i : Instance) → ArePaired (where_of params h) p q →
      Agrees x params slots aside h s i →
      Stands x.body pc (op (instr.Join (slot_named (where_of params h) p) (slot_named (where_of params h) q)
      (slot_bound (where_of params h) (parent_of (bound_to h.scope.names p).static_type))) h.line) → suc pc < 2 ^ 32 →
      Comes x (placed pc [] i) (valued (suc pc) [])
      (GoodCut x params slots fit aside h (partition_type e (parent_of (bound_to h.scope.names p).static_type) own))
      (and_then (partition_named h p s) (λ a. λ s1. and_then (partition_named h q s1)
      (λ b. given (partitioned a.root either_flag (either_sets a.sets b.sets)))))
  either_runs h p q e own s pc i pair g stands near =
      let w = where_of params h in
      let r = slot_bound w (parent_of (bound_to h.scope.names p).static_type) in
      pair_runs either_sets (λ c d. either_flag) either_operation (instr.Join (slot_named w p) (slot_named w q) r) refl e h p q own s pc i pair g stands near
      (three_least (slot_named w p) (slot_named w q) r slots (fit pc _ stands)) (λ m. refl) _
      (λ a b. two_named (λ a b. gives (partitioned a.root either_flag (either_sets a.sets b.sets)) s) _ _ a b)

  -- `p - q`
  pub minus_runs : (h : Here) (p q : Name) (e : Bool) (own : ℕ) (s : State) (pc : ℕ) (i : Instance) → ArePaired (where_of params h) p q →
      Agrees x params slots aside h s i →
      Stands x.body pc (op (instr.Minus (slot_named (where_of params h) p) (slot_named (where_of params h) q)
      (slot_bound (where_of params h) (parent_of (bound_to h.scope.names p).static_type))) h.line) → suc pc < 2 ^ 32 →
      Comes x (placed pc [] i) (valued (suc pc) [])
      (GoodCut x params slots fit aside h (partition_type e (parent_of (bound_to h.scope.names p).static_type) own))
      (value h (chain_expr (access_expr p no_step) (a_link (Compute Subtract) (access_expr q no_step) no_link)) s)
  minus_runs h p q e own s pc i pair g stands near =
      let w = where_of params h in
      let r = slot_bound w (parent_of (bound_to h.scope.names p).static_type) in
      pair_runs minus_sets (λ c d. minus_flag c) minus_operation (instr.Minus (slot_named w p) (slot_named w q) r) refl e h p q own s pc i pair g stands near
      (three_least (slot_named w p) (slot_named w q) r slots (fit pc _ stands)) (λ m. refl) _
      (difference_means h p q s)
