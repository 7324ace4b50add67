-- A field of a region is read at each of its points.
use Rattle.std.proofs.Common.{◌≡◌, ◌⊎◌, inl, inr, ℕ, ℤ, List, [], ◌∷◌, Bool, false, true, Some, refl, sym, ap, ◌∙◌}
use Rattle.std.specs.Prelude.{map}
use Rattle.std.proofs.lemmas.Option.{none-some, same_Some}
use Rattle.plain_values.specs.Points.{has}
use Rattle.point_sets.proofs.Rising.{has_head, has_tail}
use Rattle.lane_kernels.specs.declared.numbers.FieldKind.{FieldKind}
use Rattle.lane_kernels.specs.declared.numbers.Mode.{Mode}
use Rattle.lane_kernels.specs.declared.numbers.Mode.TheVariants as mode
use Rattle.region_tree.specs.declared.piece.Part.{Part}
use Rattle.regent_tree.specs.Initializers.{keeps_pointers}
use Rattle.regent_tree.specs.Store.{Store, read_at}
use Rattle.task_code.specs.declared.instr.Instr.{Instr}
use Rattle.machine_terms.specs.declared.order.Instance.{Instance}
use Rattle.machine_terms.specs.declared.value.Value.{Value as MachineValue}
use Rattle.machine_terms.specs.Contents.{kind_of}
use Rattle.machine_terms.specs.Machine.{Machine, Stepped}
use Rattle.machine_terms.specs.Makes.{region_with}
use Rattle.machine_terms.specs.Parts.{cell_at, part_of}
use Rattle.machine_terms.specs.Regions.{and_number, column_found, column_in, column_of_numbers, numbers_in, on_column, readable, readable_in, with_column}
use Rattle.machine_terms.specs.Segments.{act}
use Rattle.code_rules.specs.Pieces.{op}
use Rattle.memory_laws.specs.Finding.{IsFound, IsMissing}
use Rattle.memory_laws.specs.Memory.{Holds, memory_of}
use Rattle.memory_laws.specs.Places.{number_at}
use Rattle.memory_laws.specs.Touches.{Covers, IsCovered}
use Rattle.memory_laws.proofs.Finding.{covered_is_found}
use Rattle.memory_laws.proofs.Touching.{found_is_read, found_tells}
use Rattle.code_laws.specs.Steps.{is_issue}
use Rattle.code_laws.specs.Steps.{Leads, Setting, machine_of, on_step, placed}
use Rattle.code_laws.specs.Standing.{Stands}
use Rattle.code_laws.proofs.Touching.{parted, touches}

-- of no points nothing is read, and no number is a pointer
abbrev pub are_pointers : FieldKind → List ℕ → Bool
are_pointers kind [] = false
are_pointers kind (n ∷ xs) = keeps_pointers kind

-- a number that is found may be read
readable_found : (z : ℤ) (md : Mode) → Covers mode.Read (Some md) → readable_in md z ≡ Some z
readable_found z md (inl e) = ap (λ k. readable_in k z) (same_Some md mode.Read e)
readable_found z md (inr e) = ap (λ k. readable_in k z) (same_Some md mode.Write e)

module _ (x : Setting) (i : Instance) (place f : ℕ) (store : Store) where
  abbrev root : ℕ
  root = number_at i.contents place

  abbrev pub MayRead : ℕ → Type 0
  MayRead n = IsCovered i.contents i.needs (record { root = place; field = f; point = n; access = mode.Read })

  -- the number at a point
  number_read : (ps : List Part) (q : Part) (n : ℕ) → Holds x.code store (memory_of (parted ps i)) → part_of ps root f ≡ Some q → MayRead n →
      readable (cell_at q.pieces n) ≡ Some (read_at store place f n)
  number_read ps q n h there covers =
      over (covered_is_found x.code store (memory_of (parted ps i)) (record { root = place; field = f; point = n; access = mode.Read }) h covers)
    where
      over : IsMissing (memory_of (parted ps i)) root f n ⊎ IsFound x.code (memory_of (parted ps i)) mode.Read root f n →
          readable (cell_at q.pieces n) ≡ Some (read_at store place f n)
      over (inl miss) = absurd (none-some q (sym miss.1 ∙ there))
      over (inr t) =
          let told = found_tells (memory_of (parted ps i)) root f n t.kind t.cell t.finds in
          ap (λ (u : Part). readable (cell_at u.pieces n)) (same_Some q told.part (sym there ∙ told.is_part))
          ∙ ap readable told.is_cell ∙ readable_found t.cell.value t.cell.mode t.allows
          ∙ ap (λ v. Some v) (found_is_read x.code store (memory_of (parted ps i)) place f n t.kind t.cell h t.finds t.allows)

  numbers_read : (ps : List Part) (q : Part) (xs : List ℕ) → Holds x.code store (memory_of (parted ps i)) → part_of ps root f ≡ Some q →
      ((p : ℕ) → has xs p ≡ true → MayRead p) → numbers_in q xs ≡ Some (map (read_at store place f) xs)
  numbers_read ps q [] h there e = refl
  numbers_read ps q (n ∷ xs) h there e =
      ap (λ o. and_number o (numbers_in q xs)) (number_read ps q n h there (e n (has_head n xs)))
      ∙ ap (and_number (Some (read_at store place f n))) (numbers_read ps q xs h there (λ p d. e p (has_tail p n xs d)))

  -- an instruction that reads a field at each of these points goes on with the store's numbers
  pub columns : (pc line : ℕ) (st : List MachineValue) (ins : Instr) (xs : List ℕ) (T : Instance → Type 0)
      (k : Machine → List ℤ → Bool → Stepped) → is_issue ins ≡ false → Holds x.code store (memory_of i) → ((p : ℕ) → has xs p ≡ true → MayRead p) →
      Stands x.body pc (op ins line) →
      ((ps : List Part) → act x.code x.body ins line (machine_of (placed pc st (parted ps i)))
      ≡ on_column (machine_of (placed pc st (parted ps i))) (region_with root xs) f (k (machine_of (placed pc st (parted ps i))))) →
      ((a b : Instance) → Leads x a b → T b → T a) →
      ((ps : List Part) → Holds x.code store (memory_of (parted ps i)) →
      act x.code x.body ins line (machine_of (placed pc st (parted ps i)))
      ≡ k (machine_of (placed pc st (parted ps i))) (map (read_at store place f) xs) (are_pointers (kind_of x.code i.contents root f) xs) →
      T (placed pc st (parted ps i))) →
      T (placed pc st i)
  columns pc line st ins [] T k alone h e stands by before more = more i.parts h (by i.parts)
  columns pc line st ins (n ∷ xs) T k alone h e stands by before more =
      touches x i pc line place f n st ins mode.Read store T alone h (e n (has_head n xs)) stands
      (λ miss. let m = machine_of (placed pc st i) in
      ap (on_step x (placed pc st i)) (by i.parts
      ∙ ap (λ b. with_column (column_found b (part_of i.parts root f) (n ∷ xs)) root f m (k m)) miss))
      before
      (λ ps h2 t.
      let m = machine_of (placed pc st (parted ps i)) in
      let told = found_tells (memory_of (parted ps i)) root f n t.kind t.cell t.finds in
      more ps h2 (by ps
      ∙ ap (λ b. with_column (column_found b (part_of ps root f) (n ∷ xs)) root f m (k m)) t.finds
      ∙ ap (λ o. with_column (column_in o (n ∷ xs)) root f m (k m)) told.is_part
      ∙ ap (λ o. with_column (column_of_numbers o told.part.kind) root f m (k m)) (numbers_read ps told.part (n ∷ xs) h2 told.is_part e)
      ∙ ap (λ u. k m (map (read_at store place f) (n ∷ xs)) (keeps_pointers u)) (told.kind_is ∙ t.kind_is)))
