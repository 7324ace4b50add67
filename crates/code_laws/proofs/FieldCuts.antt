-- A partition by a field: the colour of a point is the number that the field has there.
use Rattle.std.proofs.Common.{◌≡◌, ℕ, suc, ◌<◌, ◌^◌, ℤ, List, [], ◌∷◌, ◌++◌, false, refl, ap, ◌∙◌, arith}
use Rattle.std.specs.Prelude.{map}
use Rattle.partitions.proofs.Apart.{field_apart}
use Rattle.partitions.proofs.Colours.{length_made}
use Rattle.partitions.proofs.Inside.{field_parts}
use Rattle.lane_kernels.specs.declared.numbers.Mode.TheVariants as mode
use Rattle.regent_tree.specs.Accesses.{space_in}
use Rattle.regent_tree.specs.Evaluation.{static_type_of}
use Rattle.regent_tree.specs.Initializers.{colours, partitioned, read_all, region_named}
use Rattle.regent_tree.specs.Partitions.{by_field_flag, by_field_sets, is_point, point_named, points_where}
use Rattle.region_tree.specs.declared.piece.Part.{Part}
use Rattle.regent_tree.specs.Running.{Here, Run, State, and_then, given}
use Rattle.regent_tree.specs.Scopes.{bound_to}
use Rattle.regent_tree.specs.StaticTypes.{field_place}
use Rattle.regent_tree.specs.Store.{read_at, touch_all}
use Rattle.regent_tree.specs.Syntax.{Name}
use Rattle.regent_tree.specs.Values.{Region, Value}
use Rattle.regent_tree.specs.declared.typing.Bound.{Bound}
use Rattle.regent_tree.specs.declared.typing.StaticType.{StaticType}
use Rattle.regent_tree.specs.declared.typing.StaticType.TheVariants.{Partition as partition_type}
use Rattle.task_code.specs.declared.instr.Instr.{Instr}
use Rattle.task_code.specs.declared.instr.Instr.TheVariants as instr
use Rattle.machine_terms.specs.Makes.{region_with}
use Rattle.machine_terms.specs.Regions.{on_column, partition as makes}
use Rattle.machine_terms.specs.Segments.{act}
use Rattle.memory_laws.specs.Memory.{Holds, memory_of}
use Rattle.machine_terms.specs.declared.order.Instance.{Instance}
use Rattle.machine_terms.specs.declared.value.RegionValue.{RegionValue}
use Rattle.machine_terms.specs.declared.value.Value.TheVariants as machine
use Rattle.memory_laws.specs.Places.{number_at}
use Rattle.code_rules.specs.Initializers.{field_of}
use Rattle.code_rules.specs.Pieces.{op}
use Rattle.code_rules.specs.Slots.{slot_named}
use Rattle.code_laws.specs.Simple.{IsSpace}
use Rattle.code_laws.specs.Standing.{Agrees, Aside, Comes, IsOf, SlotsFit, Stands, of_partition, where_of}
use Rattle.code_laws.specs.Steps.{Setting, machine_of, on_step, placed}
use Rattle.code_laws.specs.Typed.{IsScanned}
use Rattle.code_laws.proofs.Columns.{columns}
use Rattle.code_laws.proofs.Cuts.{GoodCut, NamedRegion, coloured_runs, cut_is, made_runs, region_named_there, sound_by}
use Rattle.code_laws.proofs.Good.{valued}
use Rattle.code_laws.proofs.Reaching.{kept_here, reached, rewritten}
use Rattle.code_laws.proofs.Runs.{comes_before, leads_by}
use Rattle.code_laws.proofs.Touching.{parted}

module _ (x : Setting) (params slots : ℕ) (fit : SlotsFit x slots) {deep : ℕ} (aside : Aside deep) where
  -- of the region of a name, with a colour space on the stack
  pub by_field_runs : (h : Here) (from : StaticType) (v : Value) (r f : Name) (own : ℕ) (s : State) (pc : ℕ) (i : Instance) → IsSpace from →
      IsScanned x.forms (where_of params h) r f → IsOf from v → Agrees x params slots aside h s i →
      Stands x.body pc (op (instr.ByField (slot_named (where_of params h) r) (field_of (where_of params h) r f)) h.line) → suc pc < 2 ^ 32 →
      Comes x (valued pc [] v i) (valued (suc pc) []) (GoodCut x params slots fit aside h (partition_type by_field_flag (bound_to h.scope.names r).number own))
      (and_then (colours h v s) (λ n. λ s1. and_then (region_named h r s1) (λ a. λ s2. and_then (read_all h (static_type_of h r) a f s2)
      (λ c. given (partitioned a.root by_field_flag (by_field_sets a.points c.numbers n))))))
  by_field_runs h from v r f own s pc i space scanned o g stands near =
      coloured_runs x params slots fit aside h from v r t ins refl
      (λ m u n st. on_column m u place (λ zs pointers. makes u (by_field_sets u.points zs n) by_field_flag st m)) meant
      s pc i space o q g stands (λ m. refl)
      (λ n few acts. columns x i q.region.root place s.store pc h.line (machine.Space n ∷ []) ins q.region.points
      (λ j. Comes x j (valued (suc pc) []) (GoodCut x params slots fit aside h t) (meant n q.region s))
      (λ m zs pointers. makes value (by_field_sets q.region.points zs n) by_field_flag [] m) refl g.memory
      (λ p e. (reached x params slots aside h s i q.region b.static_type scanned.parent.region place p mode.Read g q.inside scanned.may scanned.field e).covers)
      stands acts (λ j k l c. comes_before x (valued (suc pc) []) (GoodCut x params slots fit aside h t) j k (meant n q.region s) l c)
      (λ ps holds is. made n few ps holds (ap (on_step x (placed pc (machine.Space n ∷ []) (parted ps i))) is)))
    where
      b : Bound
      b = bound_to h.scope.names r

      t : StaticType
      t = partition_type by_field_flag b.number own

      place : ℕ
      place = field_place h.tree (space_in b.static_type) f

      ins : Instr
      ins = instr.ByField (slot_named (where_of params h) r) place

      meant : ℕ → Region → Run Value
      meant n a s2 = and_then (read_all h (static_type_of h r) a f s2) (λ c. given (partitioned a.root by_field_flag (by_field_sets a.points c.numbers n)))

      q : NamedRegion x params slots fit aside h b s i
      q = region_named_there x params slots fit aside h r s i scanned.parent (omega (arith, fit pc _ stands)) g

      value : RegionValue
      value = region_with (number_at i.contents q.region.root) q.region.points

      zs : List ℤ
      zs = map (read_at s.store q.region.root place) q.region.points

      made : (n : ℕ) → n < 65537 → (ps : List Part) → Holds x.code s.store (memory_of (parted ps i)) →
          on_step x (placed pc (machine.Space n ∷ []) (parted ps i)) (act x.code x.body ins h.line (machine_of (placed pc (machine.Space n ∷ []) (parted ps i))))
          ≡ on_step x (placed pc (machine.Space n ∷ []) (parted ps i)) (makes value (by_field_sets q.region.points zs n) by_field_flag [] (machine_of (placed pc (machine.Space n ∷ []) (parted ps i)))) →
          Comes x (placed pc (machine.Space n ∷ []) (parted ps i)) (valued (suc pc) []) (GoodCut x params slots fit aside h t) (meant n q.region s)
      made n few ps holds is =
          let sets = by_field_sets q.region.points zs n in
          let parts = field_parts q.region.points zs n q.lies.set.rising in
          let apart = field_apart q.region.points zs n q.lies.set.rising in (
            parted ps i,
            leads_by x (placed pc (machine.Space n ∷ []) (parted ps i)) _ ins h.line stands
                (is ∙ made_runs x params slots fit aside value sets by_field_flag (machine.Space n ∷ []) [] pc (parted ps i)
                (sound_by q.region.points sets by_field_flag parts (λ e. apart)) near),
            (
              of_partition by_field_flag b.number own _,
              q.lies.there,
              cut_is x params slots fit aside h r s i q sets by_field_flag scanned.parent parts (λ e. apart)
                  (omega (arith, few, length_made (λ c. points_where (λ z. is_point c (point_named false z)) q.region.points zs) n)) g,
              rewritten x params slots aside h s i ps (s.touches ++ touch_all q.region.root place mode.Read q.region.points) s.store refl (kept_here x params slots aside h s i g) g holds,
            ),
          )
