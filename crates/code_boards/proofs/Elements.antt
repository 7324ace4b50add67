-- The parts that the machine gets and gives have the elements of the board, in order.
use Rattle.std.proofs.Common.{◌≡◌, ℕ, suc, ◌+◌, ℤ, List, [], ◌∷◌, ◌++◌, Bool, true, false, cond, refl, sym, ap, ◌∙◌, arith}
use Rattle.std.specs.Prelude.{length}
use Rattle.std.proofs.lemmas.List.{length-append, length-map}
use Rattle.lane_kernels.specs.declared.numbers.Mode.{Mode}
use Rattle.region_tree.specs.declared.piece.Part.{Part}
use Rattle.region_tree.specs.Pieces.{Held}
use Rattle.region_tree.specs.Requirements.{same_mode}
use Rattle.task_code.specs.declared.code.Code.{Code}
use Rattle.machine_terms.specs.Parts.{is_part_of}
use Rattle.machine_terms.specs.Segments.{segment}
use Rattle.board_rules.specs.Running.{Element}
use Rattle.regent_boards.specs.RegentMachine.{regent_ground}
use Rattle.machine_terms.proofs.KeptParts.{bare, bare_pieces, zeroed}
use Rattle.code_boards.specs.Laws.{ElementsAreParts, numbers_of}
use Rattle.code_boards.specs.Views.{before_in, mode_in, numbers_in_parts, numbers_in_pieces, onto_parts, onto_pieces, part_with, parts_in, piece_with, spaces_of}
use Rattle.machine_terms.proofs.Kept.{stop_fixed}

module _ (code : Code) where
  pieces_numbers : (m : Mode) (p : ℕ) (z : ℤ) (hs : List Held) → numbers_in_pieces code (onto_pieces code m p z hs) ≡ z ∷ numbers_in_pieces code hs
  pieces_numbers m p z [] = refl
  pieces_numbers m p z (h ∷ hs) = choice (same_mode m h.mode)
    where
      choice : (b : Bool) → numbers_in_pieces code (cond b (record { points = p ∷ h.points; mode = h.mode; values = z ∷ h.values } ∷ hs) (piece_with code m p z ∷ h ∷ hs))
          ≡ z ∷ numbers_in_pieces code (h ∷ hs)
      choice true = refl
      choice false = refl

  onto_numbers : (root field : ℕ) (m : Mode) (p : ℕ) (z : ℤ) (qs : List Part) → numbers_in_parts code (onto_parts code root field m p z qs) ≡ z ∷ numbers_in_parts code qs
  onto_numbers root field m p z [] = refl
  onto_numbers root field m p z (q ∷ qs) = choice (is_part_of root field q)
    where
      choice : (b : Bool) → numbers_in_parts code (cond b
          (record { root = q.root; field = q.field; kind = q.kind; pieces = onto_pieces code m p z q.pieces } ∷ qs)
          (part_with code root field (piece_with code m p z ∷ []) ∷ q ∷ qs)) ≡ z ∷ numbers_in_parts code (q ∷ qs)
      choice true = ap (λ zs. zs ++ numbers_in_parts code qs) (pieces_numbers m p z q.pieces)
      choice false = refl

  pub parts_numbers : (ps : List (Element (regent_ground (spaces_of code)))) → numbers_in_parts code (parts_in code ps) ≡ numbers_of code ps
  parts_numbers [] = refl
  parts_numbers (x ∷ ps) = onto_numbers x.location.root x.location.field (mode_in code x.mode) x.location.point x.number (parts_in code ps)
      ∙ ap (λ zs. x.number ∷ zs) (parts_numbers ps)

  pieces_count : (hs : List Held) → length (numbers_in_pieces code (bare_pieces hs)) ≡ length (numbers_in_pieces code hs)
  pieces_count [] = refl
  pieces_count (h ∷ hs) = omega (
    arith,
    length-append (zeroed h.values) (numbers_in_pieces code (bare_pieces hs)),
    length-append h.values (numbers_in_pieces code hs),
    length-map h.values (λ (z : ℤ). Rattle.std.proofs.Common.pos 0),
    pieces_count hs,
  )

  pub parts_count : (qs : List Part) → length (numbers_in_parts code (bare qs)) ≡ length (numbers_in_parts code qs)
  parts_count [] = refl
  parts_count (q ∷ qs) = omega (
    arith,
    length-append (numbers_in_pieces code (bare_pieces q.pieces)) (numbers_in_parts code (bare qs)),
    length-append (numbers_in_pieces code q.pieces) (numbers_in_parts code qs),
    pieces_count q.pieces,
    parts_count qs,
  )

  pub count_elements : (ps : List (Element (regent_ground (spaces_of code)))) → length (numbers_of code ps) ≡ length ps
  count_elements [] = refl
  count_elements (x ∷ ps) = ap (λ n. suc n) (count_elements ps)

pub elements_are_parts : ElementsAreParts
elements_are_parts code f ps = (
  parts_numbers code ps,
  sym (parts_count code (segment (before_in code f ps)).parts) ∙ ap (λ qs. length (numbers_in_parts code qs)) ((stop_fixed (before_in code f ps)).parts)
      ∙ parts_count code (parts_in code ps) ∙ ap length (parts_numbers code ps) ∙ count_elements code ps,
)
