-- A covered touch finds its cell or a missing part; behind the fetch it finds its cell.
use Rattle.std.proofs.Common.{◌≡◌, ◌⊎◌, inl, inr, ℕ, ◌<◌, [], ◌∷◌, ◌++◌, Bool, true, false, Option, Some, None, refl, sym, ap, ◌∙◌, subst}
use Rattle.std.specs.Prelude.{cond, length, ◌==◌, ◌&&◌}
use Rattle.std.proofs.lemmas.Bool.{eqb-false}
use Rattle.std.proofs.lemmas.Option.{none-some, same_Some}
use Rattle.lane_kernels.specs.declared.numbers.Mode.{Mode}
use Rattle.lane_kernels.specs.declared.numbers.Mode.TheVariants as mode
use Rattle.lane_kernels.specs.Numbers.{applied, wrapped}
use Rattle.lane_kernels.proofs.SameOps.{same_op-itself}
use Rattle.region_tree.specs.declared.piece.Part.{Part}
use Rattle.region_tree.specs.Requirements.{mode_at}
use Rattle.regent_tree.specs.Store.{Store}
use Rattle.task_code.specs.declared.code.Code.{Code}
use Rattle.machine_terms.specs.declared.order.Instance.{Instance}
use Rattle.machine_terms.specs.Contents.{kind_of}
use Rattle.machine_terms.specs.Copies.{part_from}
use Rattle.machine_terms.specs.Orders.{fetch_part}
use Rattle.machine_terms.specs.Parts.{Cell, cell_at, is_part_of, part_of, refused, found_cell, found_in, find}
use Rattle.machine_terms.specs.Pointers.{written}
use Rattle.memory_laws.specs.Finding.{IsMissing, IsFound, CoveredIsFound, FetchedIsFound, AllowedIsWritten}
use Rattle.memory_laws.specs.Memory.{Memory, memory_of, Holds}
use Rattle.memory_laws.specs.Places.{number_at}
use Rattle.memory_laws.specs.Touches.{Covers}
use Rattle.memory_laws.proofs.Cells.{or_part, part_more}
use Rattle.memory_laws.proofs.Fetched.{fetched_holds}
use Rattle.memory_laws.proofs.Holding.{mode_of_cell, held_mode}
use Rattle.memory_laws.proofs.Keeping.{root_below}
use Rattle.memory_laws.proofs.Shapes.{held_part, length_stored}

-- ---- a mode that covers is there

pub covering : (a : Mode) (o : Option Mode) → Covers a o → (md : Mode) × (o ≡ Some md)
covering mode.Read o (inl e) = (mode.Read, e)
covering mode.Read o (inr e) = (mode.Write, e)
covering mode.Write o e = (mode.Write, e)
covering (mode.Reduce p) o (inl e) = (mode.Write, e)
covering (mode.Reduce p) o (inr e) = (mode.Reduce p, e)

-- ---- in a part that is held, and in any

module _ (code : Code) (store : Store) (m : Memory) (a : Mode) (root f n : ℕ) (h : Holds code store m)
    (covers : Covers a (mode_at m.needs root f n)) where
  finds_by : (o : Option Part) → part_of m.parts root f ≡ o → find m.items m.parts root f n ≡ found_in o n
  finds_by o p =
      let md = covering a (mode_at m.needs root f n) covers in
      ap (λ b. cond b (found_in (part_of m.parts root f) n) refused) (h.needed root f n md.0 md.1).1
      ∙ ap (λ o. found_in o n) p

  pub in_part : (q : Part) → part_of m.parts root f ≡ Some q → IsFound code m a root f n
  in_part q p =
      let is = held_part code m.contents m.needs m.parts root f q h.held p in
      cell (cell_at q.pieces n) refl
      (held_mode code m.contents m.needs q n is.0
      ∙ ap (λ k. mode_at m.needs k q.field n) is.1 ∙ ap (λ k. mode_at m.needs root k n) is.2)
    where
      cell : (o : Option Cell) → cell_at q.pieces n ≡ o → mode_of_cell o ≡ mode_at m.needs root f n →
          IsFound code m a root f n
      cell (Some c) d w =
          let is = held_part code m.contents m.needs m.parts root f q h.held p in
          record {
            kind = q.kind;
            cell = c;
            finds = finds_by (Some q) p ∙ ap (found_cell q.kind) d;
            kind_is = is.0.kind ∙ ap (λ k. kind_of code m.contents k q.field) is.1
                ∙ ap (kind_of code m.contents root) is.2;
            allows = subst (Covers a) (sym w) covers;
          }
      cell None d w =
          let md = covering a (mode_at m.needs root f n) covers in
          absurd (none-some md.0 (w ∙ md.1))

  pub looked_up : IsMissing m root f n ⊎ IsFound code m a root f n
  looked_up = over (part_of m.parts root f) refl
    where
      over : (o : Option Part) → part_of m.parts root f ≡ o → IsMissing m root f n ⊎ IsFound code m a root f n
      over None p = inl (finds_by None p, p)
      over (Some q) p = inr (in_part q p)

pub covered_is_found : CoveredIsFound
covered_is_found code store m t h covered =
    looked_up code store m t.access (number_at m.contents t.root) t.field t.point h covered

-- ---- behind the fetch

fetched_there : (code : Code) (i : Instance) (root f : ℕ) → part_of i.parts root f ≡ None →
    part_of (i.parts ++ part_from code i.contents i.needs root f ∷ []) root f
    ≡ Some (part_from code i.contents i.needs root f)
fetched_there code i root f none =
    let n = part_from code i.contents i.needs root f in
    part_more i.parts n root f
    ∙ ap (λ o. or_part o (cond (is_part_of root f n) (Some n) None)) none
    ∙ ap (λ b. or_part None (cond b (Some n) None)) (both (root == root) (f == f) refl refl)
  where
    both : (a b : Bool) → (root == root) ≡ a → (f == f) ≡ b → (a && b) ≡ true
    both true true a b = refl
    both true false a b = absurd (eqb-false f f b refl)
    both false b a _ = absurd (eqb-false root root a refl)

-- a root with a covered touch is there
pub root_is_there : (code : Code) (store : Store) (m : Memory) (place f n : ℕ) (a : Mode) → Holds code store m →
    Covers a (mode_at m.needs (number_at m.contents place) f n) → place < length store
root_is_there code store m place f n a h covers =
    let md = covering a (mode_at m.needs (number_at m.contents place) f n) covers in
    root_below store place f n
    (subst (λ k. n < k) (sym (length_stored code store m.contents m.parts h.stands place f))
    (h.needed (number_at m.contents place) f n md.0 md.1).0)

pub fetched_is_found : FetchedIsFound
fetched_is_found code store i t h covered none =
    let root = number_at i.contents t.root in
    in_part code store (memory_of (fetch_part code root t.field i)) t.access root t.field t.point
    (fetched_holds code store i t.root t.field h (root_is_there code store (memory_of i) t.root t.field t.point t.access h covered) none)
    covered (part_from code i.contents i.needs root t.field) (fetched_there code i root t.field none)

-- ---- what may be set

pub allowed_is_written : AllowedIsWritten
allowed_is_written mode.Read held w old z covers ne = absurd (ne refl)
allowed_is_written mode.Write held w old z covers ne =
    (wrapped w z, ap (λ k. written mode.Write k w old z) (same_Some held mode.Write covers))
allowed_is_written (mode.Reduce p) held w old z (inl e) ne = (
  applied p w old (wrapped w z),
  ap (λ k. written (mode.Reduce p) k w old z) (same_Some held mode.Write e),
)
allowed_is_written (mode.Reduce p) held w old z (inr e) ne = (
  applied p w old (wrapped w z),
  ap (λ k. written (mode.Reduce p) k w old z) (same_Some held (mode.Reduce p) e)
      ∙ ap (λ b. cond b (Some (applied p w old (wrapped w z))) None) (same_op-itself p),
)
