-- A part that is needed and that the board fills is held then.
use Rattle.std.proofs.Common.{◌≡◌, ℕ, ℤ, List, [], ◌∷◌, ◌++◌, Bool, true, false, cond, Option, Some, None, refl, ap, ◌∙◌, subst, map, filter, ◌||◌, eq-eqb, ◌⊎◌, inl, inr}
use Rattle.std.specs.Prelude.{length, nat_lt}
use Rattle.std.proofs.lemmas.Bool.{and_from, or_left}
use Rattle.lane_kernels.specs.Modes.{joined}
use Rattle.lane_kernels.specs.declared.numbers.Mode.{Mode as FieldMode}
use Rattle.lane_kernels.specs.declared.numbers.Mode.TheVariants.{Read, Reduce, Write}
use Rattle.lane_kernels.specs.declared.numbers.Op.TheVariants.{Sum, Product, Least, Greatest}
use Rattle.plain_values.specs.Points.{has}
use Rattle.region_tree.specs.declared.piece.Part.{Part}
use Rattle.region_tree.specs.Requirements.{Requirement, all_modes, is_at, is_mode, is_of, join_from, mode_at, modes_at, part_of_mode, parts_of_modes, points_joined, part_of as needed_part}
use Rattle.region_tree.proofs.Dividing.{has-points_joined}
use Rattle.region_tree.proofs.Joins.{same_mode-itself}
use Rattle.task_code.specs.declared.code.Code.{Code}
use Rattle.machine_terms.specs.Parts.{is_needed, is_part_of, part_of}
use Rattle.board_rules.specs.Running.{Element, Machine as BoardMachine, Spot, filled}
use Rattle.regent_boards.specs.RegentMachine.{regent_ground, spots_of}
use Rattle.code_boards.specs.Views.{mode_in, needs_in, onto_parts, onto_pieces, part_with, parts_in, piece_with, spaces_of}

-- ---- a point that is needed in some mode

abbrev IsSome : List FieldMode → Type 0
IsSome [] = ⊥
IsSome (m ∷ ms) = Unit {0}

modes_more : (b : Bool) (r : Requirement) (rs : List Requirement) → IsSome (map (λ (r : Requirement). r.mode) rs) →
    IsSome (map (λ (r : Requirement). r.mode) (cond b (r ∷ rs) rs))
modes_more true r rs h = tt
modes_more false r rs h = h

modes_here : (b : Bool) (r : Requirement) (rs : List Requirement) → b ≡ true →
    IsSome (map (λ (r : Requirement). r.mode) (cond b (r ∷ rs) rs))
modes_here true r rs e = tt
modes_here false r rs e = absurd cc

either_way : {C : Type 0} (a b : Bool) → (a ≡ true → C) → (b ≡ true → C) → (a || b) ≡ true → C
either_way true b f g e = f refl
either_way false b f g e = g e

record Point (N : List Requirement) (root field : ℕ) : Type 0 where
  point : ℕ
  some : IsSome (modes_at N root field point)

needed_later : (r : Requirement) (N : List Requirement) (root field : ℕ) → Point N root field → Point (r ∷ N) root field
needed_later r N root field h = record {
  point = h.point;
  some = modes_more (is_at root field h.point r) r (filter (is_at root field h.point) N) h.some;
}

needed_first : (r : Requirement) (N : List Requirement) (root field : ℕ) (xs : List ℕ) → r.points ≡ xs → nat_lt 0 (length xs) ≡ true →
    is_of root field r ≡ true → Point (r ∷ N) root field
needed_first r N root field [] p l e = absurd cc
needed_first r N root field (x ∷ xs) p l e = record {
  point = x;
  some = modes_here (is_at root field x r) r (filter (is_at root field x) N)
      (and_from _ _ e (ap (λ ys. has ys x) p ∙ or_left _ _ (eq-eqb x x refl)));
}

needed_at : (N : List Requirement) (root field : ℕ) → is_needed (needs_in N) root field ≡ true → Point N root field
needed_at [] root field e = absurd cc
needed_at (r ∷ N) root field e = by_points (nat_lt 0 (length r.points)) refl (needed_at N root field) e
  where
    by_points : (b : Bool) → nat_lt 0 (length r.points) ≡ b → (is_needed (needs_in N) root field ≡ true → Point N root field) →
        is_needed (cond b (Rattle.code_boards.specs.Views.need_in r ∷ needs_in N) (needs_in N)) root field ≡ true → Point (r ∷ N) root field
    by_points true l h k = either_way (is_of root field r) (is_needed (needs_in N) root field)
        (λ q. needed_first r N root field r.points refl l q) (λ q. needed_later r N root field (h q)) k
    by_points false l h k = needed_later r N root field (h k)

record Joined (N : List Requirement) (root field : ℕ) : Type 0 where
  point : ℕ
  mode : FieldMode
  is : is_mode mode (mode_at N root field point) ≡ true

join_some : (m : FieldMode) (ms : List FieldMode) → (k : FieldMode) × (is_mode k (join_from (Some m) ms) ≡ true)
join_some m [] = (m, same_mode-itself m)
join_some m (n ∷ ms) = join_some (joined m n) ms

join_of : (ms : List FieldMode) → IsSome ms → (k : FieldMode) × (is_mode k (join_from None ms) ≡ true)
join_of [] h = absurd h
join_of (m ∷ ms) h = join_some m ms

joined_at : (N : List Requirement) (root field : ℕ) → is_needed (needs_in N) root field ≡ true → Joined N root field
joined_at N root field e =
    let p = needed_at N root field e in
    let j = join_of (modes_at N root field p.point) p.some in
    record { point = p.point; mode = j.0; is = j.1 }

-- one of the modes
abbrev OneOf : List FieldMode → FieldMode → Type 0
OneOf [] n = ⊥
OneOf (m ∷ ms) n = (m ≡ n) ⊎ OneOf ms n

one_of_all : (m : FieldMode) → OneOf all_modes m
one_of_all Read = inl refl
one_of_all Write = inr (inl refl)
one_of_all (Reduce Sum) = inr (inr (inl refl))
one_of_all (Reduce Product) = inr (inr (inr (inl refl)))
one_of_all (Reduce Least) = inr (inr (inr (inr (inl refl))))
one_of_all (Reduce Greatest) = inr (inr (inr (inr (inr (inl refl)))))

module _ (code : Code) where
  -- ---- what is wanted has elements

  abbrev HasSpot : ℕ → ℕ → List (Spot (regent_ground (spaces_of code))) → Type 0
  HasSpot root field [] = ⊥
  HasSpot root field (x ∷ xs) = (x.location.root ≡ root) × (x.location.field ≡ field)

  abbrev Spots : ℕ → ℕ → List (List ℕ × FieldMode) → Type 0
  Spots root field qs = HasSpot root field (spots_of (spaces_of code) root field qs)

  spots_more : (root field : ℕ) (xs : List ℕ) (m : FieldMode) (qs : List (List ℕ × FieldMode)) → Spots root field qs →
      Spots root field (part_of_mode xs m qs)
  spots_more root field [] m qs h = h
  spots_more root field (x ∷ xs) m qs h = (refl, refl)

  spots_here : (root field p : ℕ) (xs : List ℕ) (m : FieldMode) (qs : List (List ℕ × FieldMode)) → has xs p ≡ true →
      Spots root field (part_of_mode xs m qs)
  spots_here root field p [] m qs e = absurd cc
  spots_here root field p (x ∷ xs) m qs e = (refl, refl)

  module _ (N : List Requirement) (root field p : ℕ) where
    in_mode : (m : FieldMode) (ms : List FieldMode) → is_mode m (mode_at N root field p) ≡ true →
        Spots root field (parts_of_modes N root field (m ∷ ms))
    in_mode m ms e = spots_here root field p (points_joined N root field m) m (parts_of_modes N root field ms)
        (has-points_joined N root field m p ∙ e)

    behind : (m : FieldMode) (ms : List FieldMode) → Spots root field (parts_of_modes N root field ms) →
        Spots root field (parts_of_modes N root field (m ∷ ms))
    behind m ms h = spots_more root field (points_joined N root field m) m (parts_of_modes N root field ms) h

    listed : (ms : List FieldMode) (m : FieldMode) → OneOf ms m → is_mode m (mode_at N root field p) ≡ true →
        Spots root field (parts_of_modes N root field ms)
    listed [] m h e = absurd h
    listed (k ∷ ms) m (inl h) e = in_mode k ms (ap (λ k. is_mode k (mode_at N root field p)) h ∙ e)
    listed (k ∷ ms) m (inr h) e = behind k ms (listed ms m h e)

  wanted_some : (N : List Requirement) (root field : ℕ) → is_needed (needs_in N) root field ≡ true →
      Spots root field (needed_part N root field)
  wanted_some N root field e =
      let j = joined_at N root field e in listed N root field j.point all_modes j.mode (one_of_all j.mode) j.is

  -- ---- elements are held

  abbrev IsHeld : ℕ → ℕ → List Part → Type 0
  IsHeld root field qs = part_of qs root field ≡ None → ⊥

  some_chosen : (b : Bool) (q : Part) (o : Option Part) → (o ≡ None → ⊥) → cond b (Some q) o ≡ None → ⊥
  some_chosen true q o h e = absurd cc
  some_chosen false q o h e = h e

  chosen_here : (b : Bool) (q : Part) (o : Option Part) → b ≡ true → cond b (Some q) o ≡ None → ⊥
  chosen_here true q o t e = absurd cc
  chosen_here false q o t e = absurd cc

  part_is : (root field : ℕ) (hs : _) → is_part_of root field (part_with code root field hs) ≡ true
  part_is root field hs = and_from _ _ (eq-eqb root root refl) (eq-eqb field field refl)

  onto_here : (root field : ℕ) (m : FieldMode) (p : ℕ) (z : ℤ) (qs : List Part) → IsHeld root field (onto_parts code root field m p z qs)
  onto_here root field m p z [] = chosen_here _ _ _ (part_is root field (piece_with code m p z ∷ []))
  onto_here root field m p z (q ∷ qs) = by_first (is_part_of root field q) refl
    where
      by_first : (b : Bool) → is_part_of root field q ≡ b → IsHeld root field (cond b
          (record { root = q.root; field = q.field; kind = q.kind; pieces = onto_pieces code m p z q.pieces } ∷ qs)
          (part_with code root field (piece_with code m p z ∷ []) ∷ q ∷ qs))
      by_first true e = chosen_here _ _ _ e
      by_first false e = chosen_here _ _ _ (part_is root field (piece_with code m p z ∷ []))

  onto_other : (a f root field : ℕ) (m : FieldMode) (p : ℕ) (z : ℤ) (qs : List Part) → IsHeld root field qs →
      IsHeld root field (onto_parts code a f m p z qs)
  onto_other a f root field m p z [] h = absurd (h refl)
  onto_other a f root field m p z (q ∷ qs) h = by_first (is_part_of a f q)
    where
      longer : (b : Bool) → (cond b (Some q) (part_of qs root field) ≡ None → ⊥) → (x : Part) → cond b (Some x) (part_of qs root field) ≡ None → ⊥
      longer true h x e = absurd cc
      longer false h x e = h e

      by_first : (b : Bool) → IsHeld root field (cond b
          (record { root = q.root; field = q.field; kind = q.kind; pieces = onto_pieces code m p z q.pieces } ∷ qs)
          (part_with code a f (piece_with code m p z ∷ []) ∷ q ∷ qs))
      by_first true = longer (is_part_of root field q) h _
      by_first false = some_chosen _ _ _ h

  held_behind : (root field : ℕ) (ps xs : List (Element (regent_ground (spaces_of code)))) → IsHeld root field (parts_in code xs) →
      IsHeld root field (parts_in code (ps ++ xs))
  held_behind root field [] xs h = h
  held_behind root field (x ∷ ps) xs h = onto_other x.location.root x.location.field root field (mode_in code x.mode) x.location.point x.number
      (parts_in code (ps ++ xs)) (held_behind root field ps xs h)

  filled_held : (M : BoardMachine (regent_ground (spaces_of code))) (m : _) (root field : ℕ) (ss : List (Spot (regent_ground (spaces_of code)))) →
      HasSpot root field ss → IsHeld root field (parts_in code (filled (regent_ground (spaces_of code)) M ss m))
  filled_held M m root field [] h = absurd h
  filled_held M m root field (s ∷ ss) h =
      subst (λ (k : ℕ × ℕ). IsHeld k.0 k.1 (parts_in code (filled (regent_ground (spaces_of code)) M (s ∷ ss) m))) (λ i. (h.0 i, h.1 i))
      (onto_here s.location.root s.location.field (mode_in code s.mode) s.location.point _ (parts_in code (filled (regent_ground (spaces_of code)) M ss m)))

  -- behind a want the part is held
  pub want_held : (M : BoardMachine (regent_ground (spaces_of code))) (m : _) (N : List Requirement) (root field : ℕ)
      (ps : List (Element (regent_ground (spaces_of code)))) → is_needed (needs_in N) root field ≡ true →
      IsHeld root field (parts_in code (ps ++ filled (regent_ground (spaces_of code)) M (spots_of (spaces_of code) root field (needed_part N root field)) m))
  want_held M m N root field ps e = held_behind root field ps _
      (filled_held M m root field (spots_of (spaces_of code) root field (needed_part N root field)) (wanted_some N root field e))
