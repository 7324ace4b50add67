-- Partitions: one that is made of a region with a colour space, and its colours.
use Rattle.std.proofs.Common.{◌≡◌, ℕ, suc, ◌<◌, ◌≤◌, ◌^◌, List, [], ◌∷◌, Bool, true, false, Some, refl, sym, ap, ◌∙◌, subst, arith}
use Rattle.std.specs.Prelude.{cond, get_or, length, map, nat_le, not, slice_get, ◌&&◌}
use Rattle.std.specs.List.{list_all}
use Rattle.std.proofs.lemmas.Bool.{le-leb, leb-true, lt-ltb}
use Rattle.std.proofs.lemmas.List.{length-map}
use Rattle.std.proofs.lemmas.List.Elements.{All-head, All-tail}
use Rattle.std.proofs.lemmas.Option.{slice_get-get_or}
use Rattle.plain_values.specs.Points.{meets, within}
use Rattle.partitions.proofs.Apart.{equal_apart}
use Rattle.partitions.proofs.Colours.{length_made}
use Rattle.partitions.proofs.Inside.{IsPartOf, equal_parts}
use Rattle.partitions.specs.Laws.{ArePartsOf, NoneShared}
use Rattle.region_tree.specs.declared.piece.Part.{Part}
use Rattle.regent_tree.specs.Evaluation.{stepped}
use Rattle.regent_tree.specs.Initializers.{colours, partitioned, region_named}
use Rattle.regent_tree.specs.Partitions.{equal_flag, equal_part, equal_sets}
use Rattle.regent_tree.specs.Accesses.{space_in}
use Rattle.regent_tree.specs.Running.{Here, Run, State, and_then, fault, given, if_true}
use Rattle.regent_tree.specs.Scopes.{bound_as, bound_to}
use Rattle.regent_tree.specs.Syntax.{Name, field_step, no_step}
use Rattle.regent_tree.specs.Typing.{type_of_field}
use Rattle.regent_tree.specs.Values.{Region, Value, a_partition, a_region, a_space, region_of}
use Rattle.regent_tree.specs.declared.outcome.FaultKind.TheVariants.{BadSize}
use Rattle.regent_tree.specs.declared.types.Kind.TheVariants.{Int1d}
use Rattle.regent_tree.specs.declared.typing.Bound.{Bound}
use Rattle.regent_tree.specs.declared.typing.StaticType.{StaticType}
use Rattle.regent_tree.specs.declared.typing.StaticType.TheVariants.{Ispace as ispace_type, Partition as partition_type}
use Rattle.task_code.specs.declared.instr.Instr.{Instr}
use Rattle.task_code.specs.declared.instr.Instr.TheVariants as instr
use Rattle.machine_terms.specs.Machine.{Machine, Stepped, at, broken, faults, next, stops, when}
use Rattle.machine_terms.specs.Makes.{are_apart, is_sound, make_partition, region_with}
use Rattle.machine_terms.specs.Orders.{breaks}
use Rattle.machine_terms.specs.Pointers.{region_in}
use Rattle.machine_terms.specs.Regions.{on_colours, partition as makes, partition_in, with_partition, with_region}
use Rattle.machine_terms.specs.Segments.{act}
use Rattle.machine_terms.specs.declared.order.Ended.TheVariants.{Broke}
use Rattle.machine_terms.specs.declared.order.Instance.{Instance}
use Rattle.machine_terms.specs.declared.order.Resumed.TheVariants.{GoesOn, IsOver}
use Rattle.machine_terms.specs.declared.outcome.Made.TheVariants as made
use Rattle.machine_terms.specs.declared.outcome.Yield.TheVariants as yield
use Rattle.machine_terms.specs.declared.value.PartitionValue.{PartitionValue}
use Rattle.machine_terms.specs.declared.value.RegionValue.{RegionValue}
use Rattle.machine_terms.specs.declared.value.Value.{Value as MachineValue}
use Rattle.machine_terms.specs.declared.value.Value.TheVariants as machine
use Rattle.memory_laws.specs.Places.{number_at}
use Rattle.check_laws.proofs.Scopes.{found_by_number}
use Rattle.code_rules.specs.Expressions.{steps_code}
use Rattle.code_rules.specs.Instructions.{load_code}
use Rattle.code_rules.specs.Pieces.{op, ◌⨟◌}
use Rattle.code_rules.specs.Slots.{own_slot, slot, slot_named}
use Rattle.code_laws.specs.Steps.{is_issue}
use Rattle.code_laws.specs.Arguments.{IsParent}
use Rattle.code_laws.specs.Pointers.{IsCut, IsPointed}
use Rattle.code_laws.specs.Simple.{IsPartition, IsRegion, IsSpace, a_partition_type, a_space_type}
use Rattle.code_laws.specs.Standing.{Agrees, Aside, Comes, IsInside, IsOf, LiesIn, SlotsFit, Stands, blank, machine_value, nothing, of_partition, of_space, where_of}
use Rattle.code_laws.specs.Steps.{Setting, machine_of, on_step, placed}
use Rattle.code_laws.proofs.Accesses.{region_there}
use Rattle.code_laws.proofs.Good.{Gives, pushes, valued}
use Rattle.code_laws.proofs.Reaching.{a_region_there, region_lies_in}
use Rattle.code_laws.proofs.Runs.{ends_alone, leads_by}
use Rattle.code_laws.proofs.Touching.{parted}
use Rattle.code_laws.proofs.Values.{named}

-- ---- what is tested where a partition is made

pub all_within : (parent : List ℕ) (sets : List (List ℕ)) → ArePartsOf parent sets → list_all (λ s. within s parent) sets ≡ true
all_within parent [] h = refl
all_within parent (s ∷ sets) h =
    ap (λ b. b && list_all (λ s. within s parent) sets) (All-head (IsPartOf parent) s sets h).1
    ∙ all_within parent sets (All-tail (IsPartOf parent) s sets h)

none_met : (s : List ℕ) (sets : List (List ℕ)) → ((d : ℕ) → d < length sets → meets s (get_or sets d []) ≡ false) →
    list_all (λ u. not (meets s u)) sets ≡ true
none_met s [] h = refl
none_met s (u ∷ sets) h = ap (λ b. not b && list_all (λ u. not (meets s u)) sets) (h 0 (omega arith))
    ∙ none_met s sets (λ d l. h (suc d) (omega (arith, l)))

all_apart : (sets : List (List ℕ)) → NoneShared sets → are_apart sets ≡ true
all_apart [] h = refl
all_apart (s ∷ sets) h =
    ap (λ b. b && are_apart sets) (none_met s sets (λ d l. h 0 (suc d) (omega arith) (omega (arith, l))))
    ∙ all_apart sets (λ c d l k. h (suc c) (suc d) (omega (arith, l)) (omega (arith, k)))

-- sets that lie in a region, and share no point where they are said to share none
pub sound_by : (points : List ℕ) (sets : List (List ℕ)) (d : Bool) → ArePartsOf points sets → (d ≡ true → NoneShared sets) →
    is_sound points sets d ≡ true
sound_by points sets true parts apart =
    ap (λ b. b && are_apart sets) (all_within points sets parts) ∙ all_apart sets (apart refl)
sound_by points sets false parts apart = ap (λ b. b && true) (all_within points sets parts)

module _ (x : Setting) (params slots : ℕ) (fit : SlotsFit x slots) {deep : ℕ} (aside : Aside deep) where
  -- ---- what a name has

  -- a region, which lies in the store, in the slot of the name
  pub record NamedRegion (h : Here) (b : Bound) (s : State) (i : Instance) : Type 0 where
    pub region : Region
    pub is : get_or s.names b.place nothing ≡ a_region region
    pub inside : IsInside x s.store b.static_type (a_region region)
    pub lies : LiesIn x.code s.store (space_in b.static_type) region
    pub there : slice_get i.frame.slots (slot (where_of params h) b.place) ≡ Some (machine.Region (region_with (number_at i.contents region.root) region.points))

  pub region_named_there : (h : Here) (n : Name) (s : State) (i : Instance) → IsParent (where_of params h) n → slot_named (where_of params h) n < slots →
      Agrees x params slots aside h s i → NamedRegion h (bound_to h.scope.names n) s i
  region_named_there h n s i p room g =
      let b = bound_to h.scope.names n in
      let v = get_or s.names b.place nothing in
      let m = named IsOf h.scope.names s.names n g.typed p.named in
      let q = a_region_there b.static_type v p.region m.holding in
      let inside = subst (IsInside x s.store b.static_type) q.2 (named (IsInside x s.store) h.scope.names s.names n g.inside_store p.named).holding in record {
        region = q.0;
        is = q.2;
        inside = inside;
        lies = region_lies_in x s.store b.static_type q.0 p.region inside;
        there = region_there x params slots fit aside h s i b.place q.0 q.2 (omega (arith, m.below, g.count)) room g;
      }

  -- ---- a partition that is made

  -- a value of its type, which lies in the store; of a partition it is known of which region it is
  abbrev pub GoodCut : Here → StaticType → Value → State → Instance → Type 0
  GoodCut h t v s j = IsOf t v × IsInside x s.store t v × IsPointed h.scope.names s.names t v × Agrees x params slots aside h s j

  -- sets in a region are made a partition
  pub made_runs : (r : RegionValue) (sets : List (List ℕ)) (d : Bool) (before st : List MachineValue) (pc : ℕ) (i : Instance) →
      is_sound r.points sets d ≡ true → suc pc < 2 ^ 32 →
      on_step x (placed pc before i) (makes r sets d st (machine_of (placed pc before i))) ≡ GoesOn (make_partition r sets d (placed (suc pc) st i))
  made_runs r sets d before st pc i sound near =
      let j = placed pc before i in
      ap (λ c. on_step x j (when c (stops (yield.Make (made.Partition r sets d)) (at (suc pc) st (machine_of j))) (broken (at (suc pc) st (machine_of j)))))
      (lt-ltb (suc pc) (2 ^ 32) near)
      ∙ ap (λ c. cond c (GoesOn (make_partition r sets d (placed (suc pc) st i))) (breaks (placed (suc pc) st i))) sound

  -- sets in the region of a name are a partition of it
  pub cut_is : (h : Here) (r : Name) (s : State) (i : Instance) (q : NamedRegion h (bound_to h.scope.names r) s i) (sets : List (List ℕ)) (d : Bool) →
      IsParent (where_of params h) r → ArePartsOf q.region.points sets → (d ≡ true → NoneShared sets) → length sets ≤ 65536 →
      Agrees x params slots aside h s i →
      IsCut h.scope.names s.names (bound_to h.scope.names r).number (record { root = q.region.root; disjoint = d; sets = sets })
  cut_is h r s i q sets d p parts apart few g =
      let b = bound_to h.scope.names r in
      let found : bound_as h.scope.names b.number ≡ b = (found_by_number h.scope.next h.scope.names r p.numbers p.named).0 in
      let m = named IsOf h.scope.names s.names r g.typed p.named in record {
        parent = q.region;
        is = record {
          numbered = ap (λ (c : Bound). c.number) found;
          region = subst (λ (c : Bound). IsRegion c.static_type) (sym found) p.region;
          space = refl;
          below = subst (λ (c : Bound). c.place < length h.scope.names) (sym found) m.below;
          value = ap (λ (c : Bound). get_or s.names c.place nothing) found ∙ q.is;
        };
        root = refl;
        sets = parts;
        apart = apart;
        few = few;
      }

  -- ---- with a colour space on the stack

  -- of the region of a name; too large a colour space is a fault
  pub coloured_runs : (h : Here) (from : StaticType) (v : Value) (r : Name) (t : StaticType) (ins : Instr) → is_issue ins ≡ false →
      (acts : Machine → RegionValue → ℕ → List MachineValue → Stepped) (makes : ℕ → Region → Run Value) (s : State) (pc : ℕ) (i : Instance) →
      IsSpace from → IsOf from v → (q : NamedRegion h (bound_to h.scope.names r) s i) → Agrees x params slots aside h s i →
      Stands x.body pc (op ins h.line) →
      ((m : Machine) → act x.code x.body ins h.line m
      ≡ with_region (region_in (slice_get m.frame.slots (slot_named (where_of params h) r))) m (λ u. on_colours h.line m (λ n st. acts m u n st))) →
      ((n : ℕ) → n < 65537 → ((ps : List Part) → act x.code x.body ins h.line (machine_of (placed pc (machine.Space n ∷ []) (parted ps i)))
      ≡ acts (machine_of (placed pc (machine.Space n ∷ []) (parted ps i))) (region_with (number_at i.contents q.region.root) q.region.points) n []) →
      Comes x (placed pc (machine.Space n ∷ []) i) (valued (suc pc) []) (GoodCut h t) (makes n q.region s)) →
      Comes x (valued pc [] v i) (valued (suc pc) []) (GoodCut h t)
      (and_then (colours h v s) (λ n. λ s1. and_then (region_named h r s1) (λ a. makes n a)))
  coloured_runs h _ _ r t ins alone acts makes s pc i (a_space_type kind) (of_space _ size small) q g f is more = by (nat_le size 65536) refl
    where
      j : Instance
      j = placed pc (machine.Space size ∷ []) i

      value : RegionValue
      value = region_with (number_at i.contents q.region.root) q.region.points

      step : (ps : List Part) (c : Bool) → nat_le size 65536 ≡ c →
          act x.code x.body ins h.line (machine_of (placed pc (machine.Space size ∷ []) (parted ps i)))
          ≡ when c (acts (machine_of (placed pc (machine.Space size ∷ []) (parted ps i))) value size [])
          (faults BadSize h.line (machine_of (placed pc (machine.Space size ∷ []) (parted ps i))))
      step ps c e =
          let m = machine_of (placed pc (machine.Space size ∷ []) (parted ps i)) in
          is m ∙ ap (λ o. with_region (region_in o) m (λ u. on_colours h.line m (λ n st. acts m u n st))) q.there
          ∙ ap (λ c. when c (acts m value size []) (faults BadSize h.line m)) e

      by : (c : Bool) → nat_le size 65536 ≡ c →
          Comes x j (valued (suc pc) []) (GoodCut h t)
          (and_then (if_true c (given size) (fault h BadSize) s) (λ n. λ s1. and_then (region_named h r s1) (λ a. makes n a)))
      by true e = subst (λ u. Comes x j (valued (suc pc) []) (GoodCut h t) (makes size (region_of u) s)) (sym q.is)
          (more size (omega (arith, leb-true size 65536 e)) (λ ps. step ps true e))
      by false e = ends_alone x j _ ins h.line alone f
          (ap (on_step x j) (step i.parts false e) ∙ ap (λ t. IsOver (Broke (Some (record { kind = BadSize; line = h.line })) t)) g.text)

  -- equal parts
  pub equal_runs : (h : Here) (from : StaticType) (v : Value) (r : Name) (own : ℕ) (s : State) (pc : ℕ) (i : Instance) → IsSpace from →
      IsParent (where_of params h) r → IsOf from v → Agrees x params slots aside h s i →
      Stands x.body pc (op (instr.Equal (slot_named (where_of params h) r)) h.line) → suc pc < 2 ^ 32 →
      Comes x (valued pc [] v i) (valued (suc pc) []) (GoodCut h (partition_type equal_flag (bound_to h.scope.names r).number own))
      (and_then (colours h v s) (λ n. λ s1. and_then (region_named h r s1) (λ a. given (partitioned a.root equal_flag (equal_sets a.points n)))))
  equal_runs h from v r own s pc i space p o g f near =
      let ins = instr.Equal (slot_named (where_of params h) r) in
      let q = region_named_there h r s i p (omega (arith, fit pc _ f)) g in
      coloured_runs h from v r (partition_type equal_flag (bound_to h.scope.names r).number own) ins refl
      (λ m u n st. makes u (equal_sets u.points n) equal_flag st m) (λ n a. given (partitioned a.root equal_flag (equal_sets a.points n)))
      s pc i space o q g f (λ m. refl)
      (λ n few acts.
      let sets = equal_sets q.region.points n in
      let parts = equal_parts q.region.points n q.lies.set in
      let apart = equal_apart q.region.points n q.lies.set.rising in (
        i,
        leads_by x (placed pc (machine.Space n ∷ []) i) _ ins h.line f (ap (on_step x (placed pc (machine.Space n ∷ []) i)) (acts i.parts)
            ∙ made_runs (region_with (number_at i.contents q.region.root) q.region.points) sets equal_flag (machine.Space n ∷ []) [] pc i
            (sound_by q.region.points sets equal_flag parts (λ e. apart)) near),
        (
          of_partition equal_flag (bound_to h.scope.names r).number own _,
          q.lies.there,
          cut_is h r s i q sets equal_flag p parts (λ e. apart) (omega (arith, few, length_made (equal_part q.region.points n) n)) g,
          g,
        ),
      ))

  -- ---- colours

  pub value_there : (h : Here) (s : State) (j : Instance) (p : ℕ) (v : Value) → get_or s.names p nothing ≡ v → p < length s.names →
      slot (where_of params h) p < slots → Agrees x params slots aside h s j →
      slice_get j.frame.slots (slot (where_of params h) p) ≡ Some (machine_value j.contents v)
  value_there h s j p v is low room g =
      slice_get-get_or j.frame.slots (slot (where_of params h) p) blank (omega (arith, room, g.slots_are))
      ∙ ap (λ v. Some v) (g.names p low ∙ ap (machine_value j.contents) is)

  -- the colour space of a name's partition
  pub colours_run : (h : Here) (d : ℕ) (t : StaticType) (p : ℕ) (v : Value) (f : Name) (s : State) (pc : ℕ) (st : List MachineValue) (i : Instance) →
      IsPartition t → IsOf t v → IsPointed h.scope.names s.names t v → get_or s.names p nothing ≡ v → p < length s.names →
      Agrees x params slots aside h s i →
      Stands x.body pc (load_code (where_of params h) t (slot (where_of params h) p) (field_step f no_step)
      ⨟ steps_code (where_of params h) d t (own_slot (where_of params h) t p) (field_step f no_step)) →
      Gives x params slots fit aside h (type_of_field h.tree t f)
      (load_code (where_of params h) t (slot (where_of params h) p) (field_step f no_step)
      ⨟ steps_code (where_of params h) d t (own_slot (where_of params h) t p) (field_step f no_step)) pc st st i
      (stepped h t v (field_step f no_step) s)
  colours_run h d _ p _ f s pc st i (a_partition_type e r own) (of_partition _ _ _ q) cut is low g stands =
      let sl = slot (where_of params h) p in
      let j = placed pc st i in
      let m = machine_of j in
      let children = map (region_with (number_at i.contents q.root)) q.sets in
      let long : length children ≡ length q.sets = length-map q.sets (region_with (number_at i.contents q.root)) in
      pushes x params slots fit aside h (ispace_type Int1d) (a_space (length q.sets)) s pc st st i (instr.Colors sl) h.line stands.1.0
      (of_space Int1d (length q.sets) (omega (arith, cut.few))) g
      (ap (λ o. on_step x j (with_partition (partition_in o) m (λ (p : PartitionValue). when (nat_le (length p.children) 4194304)
      (next (machine.Space (length p.children) ∷ st) m) (broken m)))) (value_there h s i p (a_partition q) is low (omega (arith, fit _ _ stands.1.0)) g)
      ∙ ap (λ c. on_step x j (when c (next (machine.Space (length children) ∷ st) m) (broken m))) (le-leb (length children) 4194304 (omega (arith, long, cut.few)))
      ∙ ap (λ n. GoesOn (placed (suc pc) (machine.Space n ∷ st) i)) long)
