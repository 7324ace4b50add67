-- What stays where numbers are kept: roots, their shapes, and so kinds and lengths.
use Rattle.std.proofs.Common.{◌≡◌, ℕ, ℤ, List, [], ◌∷◌, Bool, true, false, Some, refl, sym, ap, ◌∙◌, subst}
use Rattle.std.specs.Prelude.{cond, map, length, get_or, ◌==◌}
use Rattle.std.proofs.lemmas.Bool.{eqb-true, and_parts}
use Rattle.std.proofs.lemmas.Option.{none-some, same_Some}
use Rattle.std.proofs.Math.ListN.{get_or-map}
use Rattle.lane_kernels.specs.declared.numbers.FieldKind.{FieldKind}
use Rattle.lane_kernels.specs.declared.numbers.FieldKind.TheVariants.{Truth}
use Rattle.lane_kernels.specs.declared.numbers.Mode.{Mode}
use Rattle.lane_kernels.specs.declared.numbers.Mode.TheVariants as mode
use Rattle.region_tree.specs.declared.piece.Part.{Part}
use Rattle.region_tree.specs.Pieces.{Held}
use Rattle.region_tree.specs.Requirements.{Requirement}
use Rattle.regent_tree.specs.declared.outcome.RootImage.{RootImage}
use Rattle.regent_tree.specs.Laws.{Shape, SameRoots, shape_of}
use Rattle.regent_tree.specs.Store.{Store, no_root, column}
use Rattle.regent_tree.proofs.Roots as roots
use Rattle.task_code.specs.declared.code.Code.{Code}
use Rattle.machine_terms.specs.declared.order.Contents.{Contents}
use Rattle.machine_terms.specs.declared.order.Root.{Root}
use Rattle.machine_terms.specs.Contents.{image_of, kinds_of, kind_of, with_number, kept_in, keep}
use Rattle.machine_terms.specs.Copies.{give_back, give_points, give_pieces, give_parts}
use Rattle.machine_terms.specs.Parts.{is_part_of, part_of}
use Rattle.memory_laws.specs.Memory.{StandFor}
use Rattle.memory_laws.specs.Parts.{IsHeld, AreHeld}
use Rattle.memory_laws.specs.Places.{column_of, numbers, number_at}
use Rattle.memory_laws.proofs.Keeping.{image_kept}

-- ---- shapes

abbrev pub SameShapes : Contents → Contents → Type 0
SameShapes c d = (r : ℕ) → shape_of (image_of d r) ≡ shape_of (image_of c r)

shape_kept : (c : Contents) (root f x : ℕ) (z : ℤ) → SameShapes c (keep c root f x z)
shape_kept c root f x z r = ap shape_of (image_kept c root f x z r) ∙ chosen (root == r)
  where
    chosen : (b : Bool) →
        shape_of (cond b (with_number (image_of c r) f x z) (image_of c r)) ≡ shape_of (image_of c r)
    chosen true = roots.shape_kept (image_of c r) f x z
    chosen false = refl

numbers_kept : (rs : List Root) (root f x : ℕ) (z : ℤ) →
    map (λ (r : Root). r.id.0) (map (kept_in root f x z) rs) ≡ map (λ (r : Root). r.id.0) rs
numbers_kept [] root f x z = refl
numbers_kept (k ∷ rs) root f x z = chosen (k.id.0 == root) (numbers_kept rs root f x z)
  where
    chosen : (b : Bool) → map (λ (r : Root). r.id.0) (map (kept_in root f x z) rs) ≡ map (λ (r : Root). r.id.0) rs →
        map (λ (r : Root). r.id.0) (cond b (record k { image = with_number k.image f x z }) k ∷ map (kept_in root f x z) rs)
        ≡ map (λ (r : Root). r.id.0) (k ∷ rs)
    chosen true more = ap (λ ns. k.id.0 ∷ ns) more
    chosen false more = ap (λ ns. k.id.0 ∷ ns) more

-- giving back keeps numbers and shapes
abbrev pub Alike : Contents → Contents → Type 0
Alike c d = (numbers d ≡ numbers c) × (d.made ≡ c.made) × SameShapes c d

alike_twice : (c d e : Contents) → Alike c d → Alike d e → Alike c e
alike_twice c d e a b = (b.0 ∙ a.0, b.1 ∙ a.1, λ r. b.2 r ∙ a.2 r)

alike_back : (kind : FieldKind) (m : Mode) (root f x : ℕ) (z : ℤ) (c : Contents) →
    Alike c (give_back kind m root f x z c)
alike_back kind mode.Read root f x z c = (refl, refl, λ r. refl)
alike_back kind mode.Write root f x z c = (numbers_kept c.roots root f x z, refl, shape_kept c root f x z)
alike_back kind (mode.Reduce o) root f x z c = (numbers_kept c.roots root f x _, refl, shape_kept c root f x _)

alike_points : (kind : FieldKind) (m : Mode) (root f : ℕ) (xs : List ℕ) (zs : List ℤ) (c : Contents) →
    Alike c (give_points kind m root f xs zs c)
alike_points kind m root f [] zs c = (refl, refl, λ r. refl)
alike_points kind m root f (x ∷ xs) [] c = (refl, refl, λ r. refl)
alike_points kind m root f (x ∷ xs) (z ∷ zs) c =
    alike_twice c (give_back kind m root f x z c) _ (alike_back kind m root f x z c)
    (alike_points kind m root f xs zs (give_back kind m root f x z c))

alike_pieces : (kind : FieldKind) (root f : ℕ) (hs : List Held) (c : Contents) →
    Alike c (give_pieces kind root f hs c)
alike_pieces kind root f [] c = (refl, refl, λ r. refl)
alike_pieces kind root f (h ∷ hs) c =
    let d = give_points kind h.mode root f h.points h.values c in
    alike_twice c d _ (alike_points kind h.mode root f h.points h.values c) (alike_pieces kind root f hs d)

pub alike_parts : (qs : List Part) (c : Contents) → Alike c (give_parts qs c)
alike_parts [] c = (refl, refl, λ r. refl)
alike_parts (q ∷ qs) c =
    let d = give_pieces q.kind q.root.0 q.field q.pieces c in
    alike_twice c d _ (alike_pieces q.kind q.root.0 q.field q.pieces c) (alike_parts qs d)

-- kinds and lengths go by shapes
pub kind_same : (code : Code) (c d : Contents) → SameShapes c d → (r f : ℕ) →
    kind_of code d r f ≡ kind_of code c r f
kind_same code c d same r f =
    ap (λ (s : Shape). get_or (kinds_of code s.space) f Truth) (same r)

pub length_of : (a b : RootImage) (f : ℕ) → shape_of a ≡ shape_of b →
    length (get_or a.fields f []) ≡ length (get_or b.fields f [])
length_of a b f e = sym (get_or-map length a.fields f []) ∙ ap (λ (s : Shape). get_or s.lengths f 0) e
    ∙ get_or-map length b.fields f []

pub length_same : (c d : Contents) → SameShapes c d → (r f : ℕ) →
    length (column_of d r f) ≡ length (column_of c r f)
length_same c d same r f = length_of (image_of d r) (image_of c r) f (same r)

-- and shapes at a place by those of the store
pub shapes_at : (before after : Store) (r : ℕ) → SameRoots before after →
    shape_of (get_or after r no_root) ≡ shape_of (get_or before r no_root)
shapes_at before after r e = sym (get_or-map shape_of after r no_root)
    ∙ ap (λ ss. get_or ss r (shape_of no_root)) e ∙ get_or-map shape_of before r no_root

-- the store's fields are as long
pub length_stored : (code : Code) (store : Store) (c : Contents) (ps : List Part) → StandFor code c ps store →
    (r f : ℕ) → length (column store r f) ≡ length (column_of c (number_at c r) f)
length_stored code store c ps h r f =
    sym (length_of (image_of c (number_at c r)) (get_or store r no_root) f (h.shape r))

-- ---- the part of a field

pub held_part : (code : Code) (c : Contents) (needs : List Requirement) (ps : List Part) (r f : ℕ) (q : Part) →
    AreHeld code c needs ps → part_of ps r f ≡ Some q →
    IsHeld code c needs q × (q.root.0 ≡ r) × (q.field ≡ f)
held_part code c needs [] r f q h e = absurd (none-some q e)
held_part code c needs (u ∷ ps) r f q h e =
    chosen (is_part_of r f u) refl e (held_part code c needs ps r f q h.2)
  where
    chosen : (b : Bool) → is_part_of r f u ≡ b → cond b (Some u) (part_of ps r f) ≡ Some q →
        (part_of ps r f ≡ Some q → IsHeld code c needs q × (q.root.0 ≡ r) × (q.field ≡ f)) →
        IsHeld code c needs q × (q.root.0 ≡ r) × (q.field ≡ f)
    chosen true d e more =
        let a = and_parts (u.root.0 == r) (u.field == f) d in
        subst (λ (q : Part). IsHeld code c needs q × (q.root.0 ≡ r) × (q.field ≡ f)) (same_Some u q e)
        (h.0, eqb-true u.root.0 r a.0, eqb-true u.field f a.1)
    chosen false d e more = more e
