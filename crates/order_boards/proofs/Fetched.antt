-- A part that is wanted, as it is copied out of the roots and as the board fills it.
use Rattle.std.proofs.Common.{◌≡◌, ℕ, suc, ℤ, List, [], ◌∷◌, ◌++◌, true, false, None, Some, Option, refl, sym, ap, ◌∙◌, subst, map, zero}
use Rattle.std.specs.Prelude.{length, replicate}
use Rattle.std.proofs.lemmas.Bool.{false≢true}
use Rattle.plain_values.specs.Points.{has}
use Rattle.point_sets.proofs.Rising.{has_head, has_tail}
use Rattle.lane_kernels.specs.declared.numbers.FieldKind.{FieldKind}
use Rattle.lane_kernels.specs.declared.numbers.Mode.{Mode}
use Rattle.lane_kernels.specs.declared.numbers.Mode.TheVariants as mode
use Rattle.lane_kernels.specs.Numbers.{FitsWidth, identity_of, width_of}
use Rattle.lane_kernels.proofs.Operators.{identity}
use Rattle.region_tree.specs.Pieces.{Held}
use Rattle.region_tree.specs.Requirements.{Requirement, all_modes, is_mode, mode_at, part_of, part_of_mode, parts_of_modes, points_joined, same_mode}
use Rattle.region_tree.proofs.Dividing.{has-points_joined}
use Rattle.task_code.specs.declared.code.Code.{Code}
use Rattle.machine_terms.specs.declared.order.Contents.{Contents}
use Rattle.machine_terms.specs.Contents.{kept_at, kind_of as kept_kind}
use Rattle.machine_terms.specs.Copies.{piece_of}
use Rattle.machine_terms.proofs.FitParts.{AllFit, PiecesFit}
use Rattle.board_rules.specs.Ground.{Ground}
use Rattle.board_rules.specs.Processes.{Map}
use Rattle.board_rules.specs.Running.{Machine, Spot, filled}
use Rattle.regent_boards.specs.RegentMachine.{as_held, kind_of, regent_ground, spots_of}
use Rattle.code_boards.specs.Pieces as pieces
use Rattle.code_boards.specs.Views.{mode_in, part_with, parts_in, spaces_of}
use Rattle.code_boards.proofs.Regrouping.{pieces_regroup}
use Rattle.order_boards.proofs.Given.{AreAsHeld}
use Rattle.order_boards.proofs.Stands.{at}

-- of each point of each part
AllHave : (ℕ → Type 0) → List (List ℕ × Mode) → Type 0
AllHave P [] = Unit {0}
AllHave P (q ∷ qs) = ((p : ℕ) → has q.0 p ≡ true → P p) × AllHave P qs

-- no two neighbours are in one mode
Later : Mode → List Mode → Type 0
Later m [] = Unit {0}
Later m (n ∷ ms) = (same_mode m n ≡ false) × Later m ms

Distinct : List Mode → Type 0
Distinct [] = Unit {0}
Distinct (m ∷ ms) = Later m ms × Distinct ms

all_distinct : Distinct all_modes
unfolding Distinct Later
all_distinct = (
  (refl, (refl, (refl, (refl, (refl, tt))))),
  ((refl, (refl, (refl, (refl, tt)))), ((refl, (refl, (refl, tt))), ((refl, (refl, tt)), ((refl, tt), (tt, tt))))),
)

some_mode : (m : Mode) (o : Option Mode) → is_mode m o ≡ true → o ≡ None → ⊥
some_mode m None e d = false≢true e
some_mode m (Some n) e d = absurd cc

module _ (needs : List Requirement) (root field : ℕ) where
  parts_have : (P : ℕ → Type 0) → ((p : ℕ) → (mode_at needs root field p ≡ None → ⊥) → P p) → (ms : List Mode) → AllHave P (parts_of_modes needs root field ms)
  unfolding AllHave
  parts_have P h [] = tt
  parts_have P h (m ∷ ms) = split (points_joined needs root field m) refl (parts_have P h ms)
    where
      split : (xs : List ℕ) → points_joined needs root field m ≡ xs → AllHave P (parts_of_modes needs root field ms) →
          AllHave P (part_of_mode xs m (parts_of_modes needs root field ms))
      split [] e more = more
      split (x ∷ xs) e more = (
        λ p q. h p (some_mode m (mode_at needs root field p)
            (sym (has-points_joined needs root field m p) ∙ subst (λ ys. has ys p ≡ true) (sym e) q)),
        more,
      )

  some_needed : (ms : List Mode) → (parts_of_modes needs root field ms ≡ [] → ⊥) → (p : ℕ) × (mode_at needs root field p ≡ None → ⊥)
  some_needed [] n = absurd (n refl)
  some_needed (m ∷ ms) n = split (points_joined needs root field m) refl n (some_needed ms)
    where
      split : (xs : List ℕ) → points_joined needs root field m ≡ xs → (part_of_mode xs m (parts_of_modes needs root field ms) ≡ [] → ⊥) →
          ((parts_of_modes needs root field ms ≡ [] → ⊥) → (p : ℕ) × (mode_at needs root field p ≡ None → ⊥)) →
          (p : ℕ) × (mode_at needs root field p ≡ None → ⊥)
      split [] e n more = more n
      split (x ∷ xs) e n more = (
        x,
        some_mode m (mode_at needs root field x) (sym (has-points_joined needs root field m x) ∙ ap (λ ys. has ys x) e ∙ has_head x xs),
      )

  -- a part that isn't empty has a point that is needed
  pub some_point : (part_of needs root field ≡ [] → ⊥) → (p : ℕ) × (mode_at needs root field p ≡ None → ⊥)
  some_point n = some_needed all_modes n

module _ (code : Code) where
  abbrev G : Ground
  G = regent_ground (spaces_of code)

  module _ (c : Contents) (needs : List Requirement) (root field R : ℕ) where
    abbrev kind : FieldKind
    kind = kept_kind code c root field

    abbrev pub piece : List ℕ × Mode → Held
    piece q = piece_of kind c root field q.1 q.0

    -- ---- they are pieces

    numbered : (xs : List ℕ) → pieces.AreNumbered code R field xs (map (kept_at c root field) xs)
    numbered [] = tt
    numbered (x ∷ xs) = numbered xs

    as_many : (xs : List ℕ) (z : ℤ) → pieces.AreNumbered code R field xs (replicate (length xs) z)
    as_many [] z = tt
    as_many (x ∷ xs) z = as_many xs z

    is_piece : (m : Mode) (x : ℕ) (xs : List ℕ) → pieces.IsPiece code R field (x ∷ xs) (piece_of kind c root field m (x ∷ xs)).values
    is_piece mode.Read x xs = numbered xs
    is_piece mode.Write x xs = numbered xs
    is_piece (mode.Reduce o) x xs = as_many xs (identity_of o (width_of kind))

    mode_is : (m : Mode) (xs : List ℕ) → (piece_of kind c root field m xs).mode ≡ m
    mode_is mode.Read xs = refl
    mode_is mode.Write xs = refl
    mode_is (mode.Reduce o) xs = refl

    points_are : (m : Mode) (xs : List ℕ) → (piece_of kind c root field m xs).points ≡ xs
    points_are mode.Read xs = refl
    points_are mode.Write xs = refl
    points_are (mode.Reduce o) xs = refl

    differs : (m : Mode) (ms : List Mode) → Later m ms → pieces.Differs code R field m (map piece (parts_of_modes needs root field ms))
    unfolding Later
    differs m [] h = tt
    differs m (n ∷ ms) h = split (points_joined needs root field n) (differs m ms h.1)
      where
        split : (xs : List ℕ) → pieces.Differs code R field m (map piece (parts_of_modes needs root field ms)) →
            pieces.Differs code R field m (map piece (part_of_mode xs n (parts_of_modes needs root field ms)))
        split [] more = more
        split (x ∷ xs) more = ap (same_mode m) (mode_is n (x ∷ xs)) ∙ h.0

    are_pieces : (ms : List Mode) → Distinct ms → pieces.ArePieces code R field (map piece (parts_of_modes needs root field ms))
    unfolding Distinct
    are_pieces [] h = tt
    are_pieces (m ∷ ms) h = split (points_joined needs root field m) (are_pieces ms h.1)
      where
        split : (xs : List ℕ) → pieces.ArePieces code R field (map piece (parts_of_modes needs root field ms)) →
            pieces.ArePieces code R field (map piece (part_of_mode xs m (parts_of_modes needs root field ms)))
        split [] more = more
        split (x ∷ xs) more = (
          subst (λ ys. pieces.IsPiece code R field ys (piece_of kind c root field m (x ∷ xs)).values) (sym (points_are m (x ∷ xs))) (is_piece m x xs),
          subst (λ n. pieces.Differs code R field n (map piece (parts_of_modes needs root field ms))) (sym (mode_is m (x ∷ xs))) (differs m ms h.0),
          more,
        )

    -- ---- they are filled with what the roots hold

    module _ (K : Machine G) (m : Map G) (kinds : kind_of (spaces_of code) R field ≡ kind) where
      abbrev spots_at : Mode → List ℕ → List (Spot G)
      spots_at md xs = map (λ p. record { location = record { root = R; field = field; point = p }; mode = as_held (spaces_of code) R field md }) xs

      IsKept : ℕ → Type 0
      IsKept p = kept_at c root field p ≡ m (at R field p)

      points_filled : (md : Mode) (xs : List ℕ) (rest : List (Spot G)) → ((p : ℕ) → has xs p ≡ true → IsKept p) →
          filled G K (spots_at md xs ++ rest) m
          ≡ pieces.elements code R field md xs (piece_of kind c root field md xs).values ++ filled G K rest m
      unfolding IsKept
      points_filled mode.Read [] rest h = refl
      points_filled mode.Write [] rest h = refl
      points_filled (mode.Reduce o) [] rest h = refl
      points_filled mode.Read (x ∷ xs) rest h = λ i. record {
        location = at R field x;
        mode = as_held (spaces_of code) R field mode.Read;
        number = sym (h x (has_head x xs)) i;
      } ∷ points_filled mode.Read xs rest (λ p e. h p (has_tail p x xs e)) i
      points_filled mode.Write (x ∷ xs) rest h = λ i. record {
        location = at R field x;
        mode = as_held (spaces_of code) R field mode.Write;
        number = sym (h x (has_head x xs)) i;
      } ∷ points_filled mode.Write xs rest (λ p e. h p (has_tail p x xs e)) i
      points_filled (mode.Reduce o) (x ∷ xs) rest h = λ i. record {
        location = at R field x;
        mode = as_held (spaces_of code) R field (mode.Reduce o);
        number = identity_of o (width_of (kinds i));
      } ∷ points_filled (mode.Reduce o) xs rest (λ p e. h p (has_tail p x xs e)) i

      all_filled : (qs : List (List ℕ × Mode)) → AllHave IsKept qs →
          filled G K (spots_of (spaces_of code) R field qs) m ≡ pieces.all_elements code R field (map piece qs)
      unfolding AllHave
      all_filled [] h = refl
      all_filled (q ∷ qs) h = points_filled q.1 q.0 (spots_of (spaces_of code) R field qs) h.0
          ∙ (λ i. pieces.elements code R field (sym (mode_is q.1 q.0) i) (sym (points_are q.1 q.0) i) (piece q).values ++ all_filled qs h.1 i)

      some_grouped : (hs : List Held) → (hs ≡ [] → ⊥) → pieces.grouped code R field hs ≡ part_with code R field hs ∷ []
      some_grouped [] n = absurd (n refl)
      some_grouped (h ∷ hs) n = refl

      pub fetched : ((p : ℕ) → (mode_at needs root field p ≡ None → ⊥) → kept_at c root field p ≡ m (at R field p)) →
          (map piece (part_of needs root field) ≡ [] → ⊥) →
          parts_in code (filled G K (spots_of (spaces_of code) R field (part_of needs root field)) m)
          ≡ part_with code R field (map piece (part_of needs root field)) ∷ []
      unfolding IsKept
      fetched h n = ap (parts_in code) (all_filled (part_of needs root field) (parts_have needs root field IsKept h all_modes))
          ∙ pieces_regroup code R field (map piece (part_of needs root field)) (are_pieces all_modes all_distinct)
          ∙ some_grouped (map piece (part_of needs root field)) n

      -- ---- and held by the modes of their field

      held_again : (md : Mode) → as_held (spaces_of code) R field md ≡ as_held (spaces_of code) R field (mode_in code (as_held (spaces_of code) R field md))
      held_again mode.Read = refl
      held_again mode.Write = refl
      held_again (mode.Reduce o) = refl

      points_held : (md : Mode) (xs : List ℕ) (rest : List (Spot G)) → AreAsHeld code (filled G K rest m) → AreAsHeld code (filled G K (spots_at md xs ++ rest) m)
      points_held md [] rest h = h
      points_held md (x ∷ xs) rest h = (held_again md, points_held md xs rest h)

      pub filled_held : (qs : List (List ℕ × Mode)) → AreAsHeld code (filled G K (spots_of (spaces_of code) R field qs) m)
      filled_held [] = tt
      filled_held (q ∷ qs) = points_held q.1 q.0 (spots_of (spaces_of code) R field qs) (filled_held qs)

    -- ---- their numbers fit

    each_fits : (xs : List ℕ) → ((p : ℕ) → has xs p ≡ true → FitsWidth (width_of kind) (kept_at c root field p)) → AllFit (width_of kind) (map (kept_at c root field) xs)
    each_fits [] h = tt
    each_fits (x ∷ xs) h = (h x (has_head x xs), each_fits xs (λ p e. h p (has_tail p x xs e)))

    same_fits : (n : ℕ) (z : ℤ) → FitsWidth (width_of kind) z → AllFit (width_of kind) (replicate n z)
    same_fits zero z f = tt
    same_fits (suc n) z f = (f, same_fits n z f)

    piece_fits : (md : Mode) (xs : List ℕ) → ((p : ℕ) → has xs p ≡ true → FitsWidth (width_of kind) (kept_at c root field p)) →
        AllFit (width_of kind) (piece_of kind c root field md xs).values
    piece_fits mode.Read xs h = each_fits xs h
    piece_fits mode.Write xs h = each_fits xs h
    piece_fits (mode.Reduce o) xs h = same_fits (length xs) (identity_of o (width_of kind)) (identity o (width_of kind)).0

    pieces_fit : (qs : List (List ℕ × Mode)) → AllHave (λ p. FitsWidth (width_of kind) (kept_at c root field p)) qs → PiecesFit (width_of kind) (map piece qs)
    unfolding AllHave
    pieces_fit [] h = tt
    pieces_fit (q ∷ qs) h = (piece_fits q.1 q.0 h.0, pieces_fit qs h.1)

    pub fetched_fits : ((p : ℕ) → (mode_at needs root field p ≡ None → ⊥) → FitsWidth (width_of kind) (kept_at c root field p)) →
        PiecesFit (width_of kind) (map piece (part_of needs root field))
    fetched_fits h = pieces_fit (part_of needs root field) (parts_have needs root field _ h all_modes)
