-- Parts as they are held but for their numbers, which is all that an instruction leaves of them.
use Rattle.std.proofs.Common.{◌≡◌, ℕ, ℤ, pos, List, [], ◌∷◌, Bool, true, false, cond, Option, Some, None, refl, sym, ap, ◌∙◌, map, option_map, ◌==◌}
use Rattle.region_tree.specs.declared.piece.Part.{Part}
use Rattle.region_tree.specs.Pieces.{Held}
use Rattle.machine_terms.specs.declared.frame.Frame.{Frame}
use Rattle.machine_terms.specs.declared.value.RegionValue.{RegionValue}
use Rattle.machine_terms.specs.Machine.{Machine}
use Rattle.machine_terms.specs.Parts.{Cell, cell_at, find, found_cell, found_in, is_needed, missing, part_of, refused, is_part_of, set_beside, set_cell, set_in, set_part, value_beside}
use Rattle.machine_terms.specs.Regions.{awaited, column_found, column_of, column_of_numbers, numbers_in}

abbrev pub zeroed : List ℤ → List ℤ
zeroed zs = map (λ (z : ℤ). pos 0) zs

abbrev pub bare_piece : Held → Held
bare_piece h = record { points = h.points; mode = h.mode; values = zeroed h.values }

abbrev pub bare_pieces : List Held → List Held
bare_pieces hs = map bare_piece hs

abbrev pub bare_part : Part → Part
bare_part q = record { root = q.root; field = q.field; kind = q.kind; pieces = bare_pieces q.pieces }

-- where parts stand and how they are held: 0 for each number
abbrev pub bare : List Part → List Part
bare qs = map bare_part qs

-- ---- a number that is set

beside_bare : (xs : List ℕ) (zs : List ℤ) (p : ℕ) (y : ℤ) → zeroed (set_beside xs zs p y) ≡ zeroed zs
beside_bare [] zs p y = refl
beside_bare (x ∷ xs) [] p y = refl
beside_bare (x ∷ xs) (z ∷ zs) p y = here (x == p) (beside_bare xs zs p y)
  where
    here : (b : Bool) → zeroed (set_beside xs zs p y) ≡ zeroed zs →
        zeroed (cond b (y ∷ zs) (z ∷ set_beside xs zs p y)) ≡ zeroed (z ∷ zs)
    here true e = refl
    here false e = ap (λ ys. pos 0 ∷ ys) e

set_in_bare : (o : Option ℤ) (h : Held) (p : ℕ) (z : ℤ) (hs rest : List Held) → bare_pieces rest ≡ bare_pieces hs →
    bare_pieces (set_in o h p z hs rest) ≡ bare_pieces (h ∷ hs)
set_in_bare (Some old) h p z hs rest e =
    ap (λ zs. record { points = h.points; mode = h.mode; values = zs } ∷ bare_pieces hs) (beside_bare h.points h.values p z)
set_in_bare None h p z hs rest e = ap (λ ys. bare_piece h ∷ ys) e

set_cell_bare : (hs : List Held) (p : ℕ) (z : ℤ) → bare_pieces (set_cell hs p z) ≡ bare_pieces hs
set_cell_bare [] p z = refl
set_cell_bare (h ∷ hs) p z =
    set_in_bare (value_beside h.points h.values p) h p z hs (set_cell hs p z) (set_cell_bare hs p z)

pub set_part_bare : (qs : List Part) (root field p : ℕ) (z : ℤ) → bare (set_part qs root field p z) ≡ bare qs
set_part_bare [] root field p z = refl
set_part_bare (q ∷ qs) root field p z = here (is_part_of root field q) (set_part_bare qs root field p z)
  where
    here : (b : Bool) → bare (set_part qs root field p z) ≡ bare qs → bare (cond b (record q { pieces = set_cell q.pieces p z } ∷ qs) (q ∷ set_part qs root field p z)) ≡ bare (q ∷ qs)
    here true e = ap (λ hs. record { root = q.root; field = q.field; kind = q.kind; pieces = hs } ∷ bare qs) (set_cell_bare q.pieces p z)
    here false e = ap (λ ys. bare_part q ∷ ys) e

-- ---- parts that aren't held

part_of_bare : (qs : List Part) (root field : ℕ) → part_of (bare qs) root field ≡ option_map bare_part (part_of qs root field)
part_of_bare [] root field = refl
part_of_bare (q ∷ qs) root field = here (is_part_of root field q) (part_of_bare qs root field)
  where
    here : (b : Bool) → part_of (bare qs) root field ≡ option_map bare_part (part_of qs root field) →
        cond b (Some (bare_part q)) (part_of (bare qs) root field) ≡ option_map bare_part (cond b (Some q) (part_of qs root field))
    here true e = refl
    here false e = e

none_alike : (qs ps : List Part) (root field : ℕ) → bare qs ≡ bare ps → part_of qs root field ≡ None → part_of ps root field ≡ None
none_alike qs ps root field e d = none (part_of ps root field)
    (sym (part_of_bare ps root field) ∙ ap (λ xs. part_of xs root field) (sym e) ∙ part_of_bare qs root field ∙ ap (option_map bare_part) d)
  where
    none : (o : Option Part) → option_map bare_part o ≡ None → o ≡ None
    none None h = refl
    none (Some q) h = absurd cc

-- a part that is needed and isn't held
pub record IsMissing (m : Machine) (root field : ℕ) : Type 0 where
  pub needed : is_needed m.frame.needs.items root field ≡ true
  pub none : part_of m.parts root field ≡ None

pub missing_alike : (m f : Machine) (root field : ℕ) → m.frame ≡ f.frame → bare m.parts ≡ bare f.parts →
    IsMissing m root field → IsMissing f root field
missing_alike m f root field e d h = record {
  needed = ap (λ (x : Frame). is_needed x.needs.items root field) (sym e) ∙ h.needed;
  none = none_alike m.parts f.parts root field d h.none;
}

missing_when : (b : Bool) (o : Option Part) (p : ℕ) → cond b (found_in o p) refused ≡ missing → (b ≡ true) × (o ≡ None)
missing_when true None p e = (refl, refl)
missing_when true (Some q) p e = cell (cell_at q.pieces p) e
  where
    cell : (c : Option Cell) → found_cell q.kind c ≡ missing → (true ≡ true) × (Some q ≡ None)
    cell None h = absurd cc
    cell (Some c) h = absurd cc
missing_when false o p e = absurd cc

pub missing_is : (m : Machine) (root field p : ℕ) → find m.frame.needs.items m.parts root field p ≡ missing → IsMissing m root field
missing_is m root field p e =
    let h = missing_when (is_needed m.frame.needs.items root field) (part_of m.parts root field) p e in
    record { needed = h.0; none = h.1 }

column_awaits : (b : Bool) (o : Option Part) (p : ℕ) (xs : List ℕ) → column_found (cond b (found_in o p) refused) o xs ≡ awaited →
    (b ≡ true) × (o ≡ None)
column_awaits true None p xs e = (refl, refl)
column_awaits true (Some q) p xs e = cell (cell_at q.pieces p) e
  where
    numbers : (o : Option (List ℤ)) → column_of_numbers o q.kind ≡ awaited → (true ≡ true) × (Some q ≡ None)
    numbers None h = absurd cc
    numbers (Some zs) h = absurd cc

    cell : (c : Option Cell) → column_found (found_cell q.kind c) (Some q) xs ≡ awaited → (true ≡ true) × (Some q ≡ None)
    cell None h = absurd cc
    cell (Some c) h = numbers (numbers_in q xs) h
column_awaits false o p xs e = absurd cc

pub column_none : (m : Machine) (r : RegionValue) (f : ℕ) (xs : List ℕ) → column_of m r f xs ≡ awaited → IsMissing m r.root.0 f
column_none m r f [] e = absurd cc
column_none m r f (x ∷ xs) e =
    let h = column_awaits (is_needed m.frame.needs.items r.root.0 f) (part_of m.parts r.root.0 f) x (x ∷ xs) e in
    record { needed = h.0; none = h.1 }
