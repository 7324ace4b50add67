-- Reads, writes and reductions at a point of a root: a part that isn't held is fetched, and the
-- instruction runs again.
use Rattle.std.proofs.Common.{◌≡◌, ◌≢◌, inl, inr, ℕ, zero, suc, ℤ, List, [], ◌∷◌, ◌++◌, ◌⊎◌, false, true, Option, Some, None, refl, sym, ap, ◌∙◌, subst}
use Rattle.std.specs.Prelude.{slice_get}
use Rattle.std.proofs.lemmas.Option.{same_Some}
use Rattle.lane_kernels.specs.declared.numbers.Mode.{Mode}
use Rattle.lane_kernels.specs.declared.numbers.Mode.TheVariants as mode
use Rattle.lane_kernels.specs.declared.numbers.Width.{Width}
use Rattle.lane_kernels.specs.declared.numbers.Width.TheVariants.{W32, W64}
use Rattle.lane_kernels.specs.Numbers.{width_of}
use Rattle.region_tree.specs.declared.piece.Part.{Part}
use Rattle.regent_tree.specs.Store.{Store, read_at, write_at}
use Rattle.regent_tree.specs.Values.{Target, null_target, point_target, target_kept}
use Rattle.task_code.specs.declared.instr.Instr.{Instr}
use Rattle.task_code.specs.declared.instr.Instr.TheVariants as instr
use Rattle.machine_terms.specs.declared.order.Instance.{Instance}
use Rattle.machine_terms.specs.declared.order.Resumed.TheVariants.{GoesOn}
use Rattle.machine_terms.specs.declared.value.Value.{Value}
use Rattle.machine_terms.specs.declared.value.Value.TheVariants.{Number}
use Rattle.machine_terms.specs.Contents.{kind_of}
use Rattle.machine_terms.specs.Copies.{part_from}
use Rattle.machine_terms.specs.Machine.{Machine, broken, next, when}
use Rattle.machine_terms.specs.Parts.{find, missing, set_part}
use Rattle.machine_terms.specs.Pointers.{aims, aim, aim_in, slot_at, read_in, read_cell, read_at as machine_reads, same_width, written, set_found, set_cell, set_at, set}
use Rattle.machine_terms.specs.Segments.{act}
use Rattle.code_rules.specs.Pieces.{op}
use Rattle.memory_laws.specs.Finding.{IsFound, IsMissing}
use Rattle.memory_laws.specs.Memory.{IsKept, Holds, memory_of}
use Rattle.memory_laws.specs.Places.{number_at}
use Rattle.memory_laws.specs.Touches.{Covers, IsCovered, changed}
use Rattle.memory_laws.proofs.Fetched.{fetched_holds}
use Rattle.memory_laws.proofs.Finding.{allowed_is_written, covered_is_found, fetched_is_found, root_is_there}
use Rattle.memory_laws.proofs.Touching.{found_is_read, set_cells_hold}
use Rattle.code_laws.specs.Steps.{is_issue}
use Rattle.code_laws.specs.Steps.{Setting, machine_of, placed, on_step, Leads}
use Rattle.code_laws.specs.Standing.{Stands}
use Rattle.code_laws.proofs.Runs.{leads_alone, leads_by, leads_twice}

-- the instance with other parts
abbrev pub parted : List Part → Instance → Instance
parted ps i = record i { parts = ps }

-- what a pointer aims at goes by the slots alone
pub aim_parted : (i : Instance) (pc : ℕ) (st : List Value) (ps : List Part) (rs : List ℕ) (t : Target) →
    aim (machine_of (placed pc st (parted ps i))) rs t ≡ aim (machine_of (placed pc st i)) rs t
aim_parted i pc st ps rs null_target = refl
aim_parted i pc st ps rs (point_target n k) = by_position k
  where
    use_slot : (o : Option ℕ) → aim_in (slot_at (machine_of (placed pc st (parted ps i))).frame.slots o) n
        ≡ aim_in (slot_at (machine_of (placed pc st i)).frame.slots o) n
    use_slot (Some s) = refl
    use_slot None = refl

    by_position : (k : ℕ) → aim (machine_of (placed pc st (parted ps i))) rs (point_target n k)
        ≡ aim (machine_of (placed pc st i)) rs (point_target n k)
    by_position zero = refl
    by_position (suc k) = use_slot (slice_get rs k)

-- a number that is found may be read
found_read : (md : Mode) → Covers mode.Read (Some md) → (z : ℤ) (st : List Value) (m : Machine) →
    read_in md z st m ≡ next (Number z ∷ st) m
found_read md (inl e) z st m = ap (λ k. read_in k z st m) (same_Some md mode.Read e)
found_read md (inr e) z st m = ap (λ k. read_in k z st m) (same_Some md mode.Write e)

pub same_width-itself : (w : Width) → same_width w w ≡ true
same_width-itself W32 = refl
same_width-itself W64 = refl

module _ (x : Setting) where
  -- Where the part is there: a touch is made. An instruction that wants its part runs again behind the
  -- fetch.
  pub touches : (i : Instance) (pc line place f n : ℕ) (st : List Value) (ins : Instr) (a : Mode) (store : Store)
      (T : Instance → Type 0) → is_issue ins ≡ false → Holds x.code store (memory_of i) →
      IsCovered i.contents i.needs (record { root = place; field = f; point = n; access = a }) →
      Stands x.body pc (op ins line) →
      (find i.frame.needs.items i.parts (number_at i.contents place) f n ≡ missing →
      on_step x (placed pc st i) (act x.code x.body ins line (machine_of (placed pc st i)))
      ≡ GoesOn (placed pc st (parted (i.parts ++ part_from x.code i.contents i.needs (number_at i.contents place) f ∷ []) i))) →
      ((j k : Instance) → Leads x j k → T k → T j) →
      ((ps : List Part) → Holds x.code store (memory_of (parted ps i)) →
      IsFound x.code (memory_of (parted ps i)) a (number_at i.contents place) f n → T (placed pc st (parted ps i))) →
      T (placed pc st i)
  touches i pc line place f n st ins a store T alone h covers stands wants before more =
      over (covered_is_found x.code store (memory_of i) (record { root = place; field = f; point = n; access = a }) h covers)
    where
      over : IsMissing (memory_of i) (number_at i.contents place) f n
          ⊎ IsFound x.code (memory_of i) a (number_at i.contents place) f n → T (placed pc st i)
      over (inr found) = more i.parts h found
      over (inl q) =
          let ps = i.parts ++ part_from x.code i.contents i.needs (number_at i.contents place) f ∷ [] in
          before _ _ (leads_alone x _ _ ins line alone stands (wants q.0))
          (more ps (fetched_holds x.code store i place f h (root_is_there x.code store (memory_of i) place f n a h covers) q.1)
          (fetched_is_found x.code store i (record { root = place; field = f; point = n; access = a }) h covers q.1))

  -- ---- reads

  -- the number is on the stack, and the parts stand for the store still
  abbrev pub HasRead : Store → ℕ → ℕ → ℕ → ℕ → List Value → Instance → Instance → Type 0
  HasRead store place f n pc st i k = (ps : List Part)
      × Leads x k (placed (suc pc) (Number (read_at store place f n) ∷ st) (parted ps i))
      × Holds x.code store (memory_of (parted ps i))

  pub reads : (i : Instance) (pc line place f n : ℕ) (z : ℤ) (st : List Value) (rs : List ℕ) (store : Store) →
      Holds x.code store (memory_of i) →
      IsCovered i.contents i.needs (record { root = place; field = f; point = n; access = mode.Read }) →
      Stands x.body pc (op (instr.Read rs f) line) →
      aim (machine_of (placed pc (Number z ∷ st) i)) rs (target_kept z) ≡ aims (number_at i.contents place) n →
      HasRead store place f n pc st i (placed pc (Number z ∷ st) i)
  reads i pc line place f n z st rs store h covers stands to =
      let st2 = Number z ∷ st in
      let root = number_at i.contents place in
      touches i pc line place f n st2 (instr.Read rs f) mode.Read store (HasRead store place f n pc st i) refl h covers stands
      (λ q. ap (λ b. on_step x (placed pc st2 i) (machine_reads f line b st (machine_of (placed pc st2 i)))) to
      ∙ ap (λ b. on_step x (placed pc st2 i) (read_cell root f b st (machine_of (placed pc st2 i)))) q)
      (λ j k l t. (t.0, leads_twice x l t.1, t.2))
      (λ ps h2 t.
      let m = machine_of (placed pc st2 (parted ps i)) in (
        ps,
        leads_by x _ _ (instr.Read rs f) line stands
            (ap (λ b. on_step x (placed pc st2 (parted ps i)) (machine_reads f line b st m))
            (aim_parted i pc st2 ps rs (target_kept z) ∙ to)
            ∙ ap (λ b. on_step x (placed pc st2 (parted ps i)) (read_cell root f b st m)) t.finds
            ∙ ap (on_step x (placed pc st2 (parted ps i))) (found_read t.cell.mode t.allows t.cell.value st m)
            ∙ ap (λ v. GoesOn (placed (suc pc) (Number v ∷ st) (parted ps i)))
            (found_is_read x.code store (memory_of (parted ps i)) place f n t.kind t.cell h2 t.finds t.allows)),
        h2,
      ))

  -- ---- writes and reductions

  -- another number is in the store, and the parts stand for that
  abbrev pub HasSet : Store → ℕ → ℕ → ℕ → ℤ → ℕ → List Value → Instance → Instance → Type 0
  HasSet store place f n z pc st i k = (ps : List Part)
      × Leads x k (placed (suc pc) st (parted ps i))
      × Holds x.code (write_at store place f n z) (memory_of (parted ps i))

  pub sets : (a : Mode) → a ≢ mode.Read → (i : Instance) (pc line place f n : ℕ) (p v : ℤ) (st : List Value) (rs : List ℕ)
      (w : Width) (ins : Instr) (store : Store) → is_issue ins ≡ false →
      ((m : Machine) → act x.code x.body ins line m ≡ set a rs f w line m) →
      w ≡ width_of (kind_of x.code i.contents (number_at i.contents place) f) →
      IsKept (kind_of x.code i.contents (number_at i.contents place) f) (changed a w (read_at store place f n) v) →
      Holds x.code store (memory_of i) →
      IsCovered i.contents i.needs (record { root = place; field = f; point = n; access = a }) →
      Stands x.body pc (op ins line) →
      aim (machine_of (placed pc (Number p ∷ Number v ∷ st) i)) rs (target_kept p) ≡ aims (number_at i.contents place) n →
      HasSet store place f n (changed a w (read_at store place f n) v) pc st i (placed pc (Number p ∷ Number v ∷ st) i)
  sets a ne i pc line place f n p v st rs w ins store alone by wide kept h covers stands to =
      let st2 = Number p ∷ Number v ∷ st in
      let root = number_at i.contents place in
      let new = changed a w (read_at store place f n) v in
      touches i pc line place f n st2 ins a store (HasSet store place f n new pc st i) alone h covers stands
      (λ q. ap (on_step x (placed pc st2 i)) (by (machine_of (placed pc st2 i)))
      ∙ ap (λ b. on_step x (placed pc st2 i) (set_at a w f line v b st (machine_of (placed pc st2 i)))) to
      ∙ ap (λ b. on_step x (placed pc st2 i) (set_cell a w root f n v b st (machine_of (placed pc st2 i)))) q)
      (λ j k l t. (t.0, leads_twice x l t.1, t.2))
      (λ ps h2 t.
      let m = machine_of (placed pc st2 (parted ps i)) in
      let wide2 : w ≡ width_of t.kind = wide ∙ ap width_of (sym t.kind_is) in
      let y = allowed_is_written a t.cell.mode (width_of t.kind) t.cell.value v t.allows ne in
      let same : changed a (width_of t.kind) (read_at store place f n) v ≡ new =
      ap (λ u. changed a u (read_at store place f n) v) (sym wide2) in (
        set_part ps root f n y.0,
        leads_alone x _ _ ins line alone stands
            (ap (on_step x (placed pc st2 (parted ps i))) (by m)
            ∙ ap (λ b. on_step x (placed pc st2 (parted ps i)) (set_at a w f line v b st m))
            (aim_parted i pc st2 ps rs (target_kept p) ∙ to)
            ∙ ap (λ b. on_step x (placed pc st2 (parted ps i)) (set_cell a w root f n v b st m)) t.finds
            ∙ ap (λ b. on_step x (placed pc st2 (parted ps i)) (when (same_width (width_of t.kind) b)
            (set_found root f n (written a t.cell.mode b t.cell.value v) st m) (broken m))) wide2
            ∙ ap (λ b. on_step x (placed pc st2 (parted ps i)) (when b
            (set_found root f n (written a t.cell.mode (width_of t.kind) t.cell.value v) st m) (broken m)))
            (same_width-itself (width_of t.kind))
            ∙ ap (λ b. on_step x (placed pc st2 (parted ps i)) (set_found root f n b st m)) y.1),
        subst (λ u. Holds x.code (write_at store place f n u) (memory_of (parted (set_part ps root f n y.0) i))) same
            (set_cells_hold x.code store (memory_of (parted ps i)) a place f n t.kind t.cell v y.0 h2 t.finds y.1
            (subst (λ k. IsKept k (changed a (width_of t.kind) (read_at store place f n) v)) (sym t.kind_is)
            (subst (IsKept (kind_of x.code i.contents root f)) (sym same) kept))),
      ))
