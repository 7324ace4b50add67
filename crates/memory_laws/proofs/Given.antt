-- Parts that went back: the roots hold what was seen.
use Rattle.std.proofs.Common.{◌≡◌, ℕ, ◌<◌, ℤ, List, Option, Some, None, refl, sym, ap, ◌∙◌, subst}
use Rattle.std.specs.Prelude.{get_or, length}
use Rattle.std.proofs.lemmas.List.{length-map}
use Rattle.plain_values.specs.Points.{IsPoints}
use Rattle.lane_kernels.specs.declared.numbers.FieldKind.{FieldKind}
use Rattle.lane_kernels.specs.declared.numbers.Mode.{Mode}
use Rattle.lane_kernels.specs.declared.numbers.Mode.TheVariants as mode
use Rattle.lane_kernels.specs.Numbers.{FitsWidth, width_of}
use Rattle.lane_kernels.proofs.Operators.{closed}
use Rattle.region_tree.specs.declared.piece.Part.{Part}
use Rattle.region_tree.specs.Requirements.{Requirement}
use Rattle.regent_tree.specs.Laws.{shape_of}
use Rattle.regent_tree.specs.Store.{Store, read_at}
use Rattle.task_code.specs.declared.code.Code.{Code}
use Rattle.machine_terms.specs.declared.order.Contents.{Contents}
use Rattle.machine_terms.specs.declared.order.Root.{Root}
use Rattle.machine_terms.specs.Contents.{image_of, kept_at, kind_of}
use Rattle.machine_terms.specs.Copies.{give_parts}
use Rattle.machine_terms.specs.Parts.{Cell, cell_at, part_of}
use Rattle.memory_laws.specs.Giving.{GivenIsSeen, GivenKeepsNumbers, GivenStands, GivenHolds}
use Rattle.memory_laws.specs.Memory.{IsKept, Memory, memory_of, Holds}
use Rattle.memory_laws.specs.Parts.{IsHeld, AreHeld}
use Rattle.memory_laws.specs.Places.{numbers, number_at}
use Rattle.memory_laws.specs.Seen.{seen_value, seen_cell, seen_part, seen}
use Rattle.memory_laws.proofs.Giving.{given_value, given_cell, given_part, parts_given}
use Rattle.memory_laws.proofs.Holding.{can_give}
use Rattle.memory_laws.proofs.Shapes.{alike_parts, held_part, kind_same, length_same}

-- ---- giving back

given_seen : (code : Code) (c : Contents) (needs : List Requirement) (ps : List Part) (r f p : ℕ) →
    AreHeld code c needs ps → given_part (kept_at c r f p) p (part_of ps r f) ≡ seen c ps r f p
given_seen code c needs ps r f p h = over (part_of ps r f) (λ q e. held_part code c needs ps r f q h e)
  where
    by_mode : (kind : FieldKind) (m : Mode) (z : ℤ) → (m ≡ mode.Read → z ≡ kept_at c r f p) →
        given_value kind m (kept_at c r f p) z ≡ seen_value kind m (kept_at c r f p) z
    by_mode kind mode.Read z e = sym (e refl)
    by_mode kind mode.Write z e = refl
    by_mode kind (mode.Reduce o) z e = refl

    cell : (q : Part) (o : Option Cell) → ((b : Cell) → o ≡ Some b → b.mode ≡ mode.Read → b.value ≡ kept_at c r f p) →
        given_cell q.kind (kept_at c r f p) o ≡ seen_cell q.kind (kept_at c r f p) o
    cell q None reads = refl
    cell q (Some b) reads = by_mode q.kind b.mode b.value (reads b refl)

    over : (o : Option Part) → ((q : Part) → o ≡ Some q → IsHeld code c needs q × (q.root.0 ≡ r) × (q.field ≡ f)) →
        given_part (kept_at c r f p) p o ≡ seen_part (kept_at c r f p) p o
    over None is = refl
    over (Some q) is =
        let a = is q refl in
        cell q (cell_at q.pieces p) (λ b e d. a.0.reads p b e d
        ∙ ap (λ k. kept_at c k q.field p) a.1 ∙ ap (λ k. kept_at c r k p) a.2)

-- All that was held is given back: what the roots hold then stands for the store alone.
pub given_is_seen : GivenIsSeen
given_is_seen code store m h r f p =
    let can = can_give code m.contents m.needs m.parts (λ r f p k e. (h.needed r f p k e).0) h.held in
    parts_given m.parts m.contents r f p can
    ∙ given_seen code m.contents m.needs m.parts r f p h.held

-- it fits, where it is seen by the cells
seen_fits : (code : Code) (store : Store) (m : Memory) → Holds code store m → (r f p : ℕ) →
    FitsWidth (width_of (kind_of code m.contents r f)) (seen m.contents m.parts r f p)
seen_fits code store m h r f p = over (part_of m.parts r f) (λ q e. held_part code m.contents m.needs m.parts r f q h.held e)
  where
    by_mode : (k : FieldKind) (md : Mode) (old z : ℤ) → FitsWidth (width_of k) z →
        FitsWidth (width_of k) (seen_value k md old z)
    by_mode k mode.Read old z fits = fits
    by_mode k mode.Write old z fits = fits
    by_mode k (mode.Reduce o) old z fits = closed o (width_of k) old z

    cell : (q : Part) (o : Option Cell) → FitsWidth (width_of q.kind) (kept_at m.contents r f p) →
        ((b : Cell) → o ≡ Some b → FitsWidth (width_of q.kind) b.value) →
        FitsWidth (width_of q.kind) (seen_cell q.kind (kept_at m.contents r f p) o)
    cell q None old fits = old
    cell q (Some b) old fits = by_mode q.kind b.mode (kept_at m.contents r f p) b.value (fits b refl)

    over : (o : Option Part) → ((q : Part) → o ≡ Some q → IsHeld code m.contents m.needs q × (q.root.0 ≡ r) × (q.field ≡ f)) →
        FitsWidth (width_of (kind_of code m.contents r f)) (seen_part (kept_at m.contents r f p) p o)
    over None is = h.stands.fits r f p
    over (Some q) is =
        let a = is q refl in
        let k : q.kind ≡ kind_of code m.contents r f = a.0.kind
        ∙ ap (λ k. kind_of code m.contents k q.field) a.1 ∙ ap (kind_of code m.contents r) a.2 in
        subst (λ t. FitsWidth (width_of t) (seen_part (kept_at m.contents r f p) p (Some q))) k
        (cell q (cell_at q.pieces p)
        (subst (λ t. FitsWidth (width_of t) (kept_at m.contents r f p)) (sym k) (h.stands.fits r f p)) (a.0.fits p))

pub given_keeps_numbers : GivenKeepsNumbers
given_keeps_numbers ps c = let a = alike_parts ps c in (a.0, a.1)

pub given_stands : GivenStands
given_stands code store m h =
    let c = m.contents in
    let s = h.stands in
    let d = give_parts m.parts c in
    let alike = alike_parts m.parts c in
    let at : (r : ℕ) → number_at d r ≡ number_at c r = λ r. ap (λ ns. get_or ns r d.made) alike.0
    ∙ ap (get_or (numbers c) r) alike.1 in
    let kinds = kind_same code c d alike.2 in
    let here = given_is_seen code store m h in
    record {
      count = sym (length-map d.roots (λ (r : Root). r.id.0)) ∙ ap length alike.0
          ∙ length-map c.roots (λ (r : Root). r.id.0) ∙ s.count;
      numbered = subst (λ n. IsPoints n (numbers d)) (sym alike.1)
          (subst (IsPoints c.made) (sym alike.0) s.numbered);
      shape = λ r. ap (λ n. shape_of (image_of d n)) (at r) ∙ alike.2 (number_at c r) ∙ s.shape r;
      same = λ r f p l. s.same r f p l ∙ sym (here (number_at c r) f p) ∙ ap (λ n. kept_at d n f p) (sym (at r));
      kept = λ r f p l. subst (λ k. IsKept k (read_at store r f p))
          (sym (ap (λ n. kind_of code d n f) (at r) ∙ kinds (number_at c r) f)) (s.kept r f p l);
      fits = λ r f p. subst (λ k. FitsWidth (width_of k) (kept_at d r f p)) (sym (kinds r f))
          (subst (FitsWidth (width_of (kind_of code c r f))) (sym (here r f p)) (seen_fits code store m h r f p));
    }

pub given_holds : GivenHolds
given_holds code store i h =
    let c = i.contents in
    let alike = alike_parts i.parts c in
    record {
      stands = given_stands code store (memory_of i) h;
      held = tt;
      needed = λ r f p k e. (
        subst (λ n. p < n) (sym (length_same c (give_parts i.parts c) alike.2 r f)) (h.needed r f p k e).0,
        (h.needed r f p k e).1,
      );
    }
