-- The elements of a part come back together to its pieces.
use Rattle.std.proofs.Common.{◌≡◌, ℕ, ℤ, List, [], ◌∷◌, ◌++◌, Bool, true, false, cond, refl, ap, ◌∙◌, eq-eqb}
use Rattle.std.proofs.lemmas.Bool.{and_from}
use Rattle.lane_kernels.specs.declared.numbers.Mode.{Mode}
use Rattle.lane_kernels.specs.declared.numbers.Mode.TheVariants.{Read, Reduce, Write}
use Rattle.region_tree.specs.declared.piece.Part.{Part}
use Rattle.region_tree.specs.Pieces.{Held}
use Rattle.region_tree.proofs.Joins.{same_mode-itself}
use Rattle.task_code.specs.declared.code.Code.{Code}
use Rattle.machine_terms.specs.Parts.{is_part_of}
use Rattle.board_rules.specs.Running.{Element}
use Rattle.regent_boards.specs.RegentMachine.{as_held, regent_ground}
use Rattle.code_boards.specs.Views.{mode_in, onto_parts, onto_pieces, part_with, parts_in, piece_with, spaces_of}
use Rattle.code_boards.specs.Pieces as pieces
use Rattle.code_boards.specs.Pieces.{PiecesRegroup}

module _ (code : Code) (root field : ℕ) where
  abbrev elements : Mode → List ℕ → List ℤ → List (Element (regent_ground (spaces_of code)))
  elements = pieces.elements code root field

  abbrev all_elements : List Held → List (Element (regent_ground (spaces_of code)))
  all_elements = pieces.all_elements code root field

  abbrev Differs : Mode → List Held → Type 0
  Differs = pieces.Differs code root field

  abbrev IsPiece : List ℕ → List ℤ → Type 0
  IsPiece = pieces.IsPiece code root field

  abbrev ArePieces : List Held → Type 0
  ArePieces = pieces.ArePieces code root field

  abbrev grouped : List Held → List Part
  grouped = pieces.grouped code root field

  held_mode : (m : Mode) → mode_in code (as_held (spaces_of code) root field m) ≡ m
  held_mode Read = refl
  held_mode Write = refl
  held_mode (Reduce o) = refl

  onto_first : (m : Mode) (p : ℕ) (z : ℤ) (h : Held) (hs : List Held) →
      onto_parts code root field m p z (grouped (h ∷ hs)) ≡ part_with code root field (onto_pieces code m p z (h ∷ hs)) ∷ []
  onto_first m p z h hs = chosen (is_part_of root field (part_with code root field (h ∷ hs)))
      (and_from _ _ (eq-eqb root root refl) (eq-eqb field field refl))
    where
      chosen : (b : Bool) → b ≡ true →
          cond b (part_with code root field (onto_pieces code m p z (h ∷ hs)) ∷ [])
          (part_with code root field (piece_with code m p z ∷ []) ∷ part_with code root field (h ∷ hs) ∷ [])
          ≡ part_with code root field (onto_pieces code m p z (h ∷ hs)) ∷ []
      chosen true e = refl
      chosen false e = absurd cc

  onto_new : (m : Mode) (p : ℕ) (z : ℤ) (hs : List Held) → Differs m hs →
      onto_parts code root field m p z (grouped hs) ≡ grouped (piece_with code m p z ∷ hs)
  onto_new m p z [] d = refl
  onto_new m p z (h ∷ hs) d = onto_first m p z h hs ∙ ap (λ b. part_with code root field (cond b
      (record { points = p ∷ h.points; mode = h.mode; values = z ∷ h.values } ∷ hs) (piece_with code m p z ∷ h ∷ hs)) ∷ []) d

  onto_same : (m : Mode) (p : ℕ) (z : ℤ) (ps : List ℕ) (zs : List ℤ) (hs : List Held) →
      onto_parts code root field m p z (grouped (record { points = ps; mode = m; values = zs } ∷ hs))
      ≡ grouped (record { points = p ∷ ps; mode = m; values = z ∷ zs } ∷ hs)
  onto_same m p z ps zs hs = onto_first m p z (record { points = ps; mode = m; values = zs }) hs
      ∙ ap (λ b. part_with code root field (cond b (record { points = p ∷ ps; mode = m; values = z ∷ zs } ∷ hs)
      (piece_with code m p z ∷ record { points = ps; mode = m; values = zs } ∷ hs)) ∷ []) (same_mode-itself m)

  piece_grouped : (m : Mode) (ps : List ℕ) (zs : List ℤ) (hs : List Held) (rest : List (Element (regent_ground (spaces_of code)))) →
      IsPiece ps zs → Differs m hs → parts_in code rest ≡ grouped hs →
      parts_in code (elements m ps zs ++ rest) ≡ grouped (record { points = ps; mode = m; values = zs } ∷ hs)
  piece_grouped m [] zs hs rest i d e = absurd i
  piece_grouped m (p ∷ ps) [] hs rest i d e = absurd i
  piece_grouped m (p ∷ []) (z ∷ []) hs rest i d e =
      (λ j. onto_parts code root field (held_mode m j) p z (e j)) ∙ onto_new m p z hs d
  piece_grouped m (p ∷ []) (z ∷ y ∷ zs) hs rest i d e = absurd i
  piece_grouped m (p ∷ q ∷ ps) (z ∷ []) hs rest i d e = absurd i
  piece_grouped m (p ∷ q ∷ ps) (z ∷ y ∷ zs) hs rest i d e =
      (λ j. onto_parts code root field (held_mode m j) p z (piece_grouped m (q ∷ ps) (y ∷ zs) hs rest i d e j))
      ∙ onto_same m p z (q ∷ ps) (y ∷ zs) hs

  pub regrouped : (hs : List Held) → ArePieces hs → parts_in code (all_elements hs) ≡ grouped hs
  regrouped [] a = refl
  regrouped (h ∷ hs) a = piece_grouped h.mode h.points h.values hs (all_elements hs) a.0 a.1 (regrouped hs a.2)

pub pieces_regroup : PiecesRegroup
pieces_regroup code root field hs a = regrouped code root field hs a
