-- A cell that is set: what is held stands for the store with another number.
use Rattle.std.proofs.Common.{◌≡◌, ℕ, ◌<◌, ℤ, Bool, true, false, Some, refl, sym, ap, ◌∙◌, subst}
use Rattle.std.specs.Prelude.{cond, length, ◌==◌, ◌&&◌}
use Rattle.std.proofs.lemmas.Bool.{eqb-true}
use Rattle.std.proofs.lemmas.List.{length-set}
use Rattle.lane_kernels.specs.declared.numbers.Mode.TheVariants as mode
use Rattle.lane_kernels.specs.Numbers.{FitsWidth, width_of}
use Rattle.region_tree.specs.declared.piece.Part.{Part}
use Rattle.regent_tree.specs.Store.{Store, column, read_at, write_at}
use Rattle.regent_tree.proofs.Roots.{shapes_written}
use Rattle.task_code.specs.declared.code.Code.{Code}
use Rattle.machine_terms.specs.Contents.{kept_at, kind_of}
use Rattle.machine_terms.specs.Parts.{Cell, cell_at, part_of, set_part}
use Rattle.memory_laws.specs.Memory.{IsKept, Memory, Holds}
use Rattle.memory_laws.specs.Places.{is_same, number_at}
use Rattle.memory_laws.specs.Seen.{seen_value, seen}
use Rattle.memory_laws.proofs.Cells.{held_set, seen_set}
use Rattle.memory_laws.proofs.Keeping.{length_written, read_written, root_below}
use Rattle.memory_laws.proofs.Placing.{is_number}
use Rattle.memory_laws.proofs.Shapes.{shapes_at}

-- ---- a cell's number, and the store's that is seen by it

module _ (code : Code) (store : Store) (m : Memory) (r f n : ℕ) (y z : ℤ) (q : Part) (k : Cell)
    (h : Holds code store m) (low : n < length (column store r f))
    (e : part_of m.parts (number_at m.contents r) f ≡ Some q) (d : cell_at q.pieces n ≡ Some k)
    (ne : k.mode ≡ mode.Read → ⊥) (fits : FitsWidth (width_of q.kind) y)
    (is : seen_value q.kind k.mode (kept_at m.contents (number_at m.contents r) f n) y ≡ z)
    (kept : IsKept (kind_of code m.contents (number_at m.contents r) f) z) where
  here : r < length m.contents.roots
  here = subst (λ n. r < n) (sym h.stands.count) (root_below store r f n low)

  -- the same point by places and by numbers
  same_point : (s g p : ℕ) → is_same (number_at m.contents r) f n (number_at m.contents s) g p ≡ is_same r f n s g p
  same_point s g p = ap (λ b. b && (f == g) && (n == p)) (is_number m.contents r s h.stands.numbered here)

  there : (s g p : ℕ) (b : Bool) → read_at store s g p ≡ seen m.contents m.parts (number_at m.contents s) g p →
      cond b z (read_at store s g p)
      ≡ cond b (seen_value q.kind k.mode (kept_at m.contents (number_at m.contents r) f n) y)
      (seen m.contents m.parts (number_at m.contents s) g p)
  there s g p true old = sym is
  there s g p false old = old

  at_place : (s g p : ℕ) (a b : Bool) → (r == s) ≡ a → (f == g) ≡ b →
      IsKept (kind_of code m.contents (number_at m.contents s) g) (read_at store s g p) →
      IsKept (kind_of code m.contents (number_at m.contents s) g) (cond (a && b && (n == p)) z (read_at store s g p))
  at_place s g p true true a b old = chosen (n == p)
    where
      chosen : (t : Bool) → IsKept (kind_of code m.contents (number_at m.contents s) g) (cond t z (read_at store s g p))
      chosen true = subst (λ s. IsKept (kind_of code m.contents (number_at m.contents s) g) z) (eqb-true r s a)
          (subst (λ g. IsKept (kind_of code m.contents (number_at m.contents r) g) z) (eqb-true f g b) kept)
      chosen false = old
  at_place s g p true false a b old = old
  at_place s g p false b a _ old = old

  pub holds_set : Holds code (write_at store r f n z) (record m { parts = set_part m.parts (number_at m.contents r) f n y })
  holds_set =
      let c = m.contents in
      let root = number_at c r in
      let st = h.stands in
      let long = λ (s g : ℕ). length_written store r f n z s g low in
      record {
        stands = record {
          count = st.count ∙ sym (length-set store r _);
          numbered = st.numbered;
          shape = λ s. st.shape s ∙ sym (shapes_at store (write_at store r f n z) s (shapes_written store r f n z));
          same = λ s g p l. read_written store r f n z s g p low
              ∙ there s g p (is_same r f n s g p) (st.same s g p (subst (λ b. p < b) (long s g) l))
              ∙ ap (λ b. cond b (seen_value q.kind k.mode (kept_at c root f n) y) (seen c m.parts (number_at c s) g p)) (sym (same_point s g p))
              ∙ sym (seen_set c m.parts root f n y q k (number_at c s) g p e d);
          kept = λ s g p l. subst (IsKept (kind_of code c (number_at c s) g)) (sym (read_written store r f n z s g p low))
              (at_place s g p (r == s) (f == g) refl refl (st.kept s g p (subst (λ b. p < b) (long s g) l)));
          fits = st.fits;
        };
        held = held_set code c m.needs m.parts root f n y q k e d ne fits h.held;
        needed = h.needed;
      }
