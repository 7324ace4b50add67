-- Parts that a segment leaves, as the board keeps them: elements with other numbers.
use Rattle.std.proofs.Common.{◌≡◌, ℕ, zero, suc, ℤ, pos, List, [], ◌∷◌, ◌++◌, Bool, true, false, cond, Option, Some, None, refl, sym, ap, ◌∙◌, take, drop, arith, ◌==◌, eq-eqb, eqb-true}
use Rattle.std.specs.Prelude.{length}
use Rattle.std.proofs.lemmas.Bool.{and_from, and_parts}
use Rattle.std.proofs.lemmas.List.{length-map, length-append}
use Rattle.lane_kernels.specs.declared.numbers.Mode.{Mode}
use Rattle.region_tree.specs.declared.piece.Part.{Part}
use Rattle.region_tree.specs.Pieces.{Held}
use Rattle.region_tree.specs.Requirements.{same_mode}
use Rattle.task_code.specs.declared.code.Code.{Code}
use Rattle.machine_terms.specs.Parts.{is_part_of, part_of}
use Rattle.machine_terms.proofs.KeptParts.{bare, bare_pieces, zeroed}
use Rattle.board_rules.specs.Running.{Element}
use Rattle.regent_boards.specs.RegentMachine.{regent_ground}
use Rattle.code_boards.specs.Laws.{numbers_of}
use Rattle.code_boards.specs.Views.{mode_in, numbers_in_parts, numbers_in_pieces, onto_parts, onto_pieces, part_with, parts_in, piece_with, spaces_of, with_numbers}
use Rattle.code_boards.proofs.Elements.{count_elements, parts_count, parts_numbers}

-- ---- lists one behind the other

take_first : (n : ℕ) (xs ys : List ℤ) → n ≡ length xs → take n (xs ++ ys) ≡ xs
take_first n [] ys e = ap (λ k. take k ys) e
take_first zero (x ∷ xs) ys e = absurd (omega (arith, e))
take_first (suc n) (x ∷ xs) ys e = ap (λ zs. x ∷ zs) (take_first n xs ys (omega (arith, e)))

drop_first : (n : ℕ) (xs ys : List ℤ) → n ≡ length xs → drop n (xs ++ ys) ≡ ys
drop_first n [] ys e = ap (λ k. drop k ys) e
drop_first zero (x ∷ xs) ys e = absurd (omega (arith, e))
drop_first (suc n) (x ∷ xs) ys e = drop_first n xs ys (omega (arith, e))

module _ (code : Code) where
  -- ---- parts are told by how they are held, and by their numbers

  refilled_pieces : List Held → List ℤ → List Held
  refilled_pieces [] zs = []
  refilled_pieces (h ∷ hs) zs =
      record { points = h.points; mode = h.mode; values = take (length h.values) zs } ∷ refilled_pieces hs (drop (length h.values) zs)

  count : List Held → ℕ
  count hs = length (numbers_in_pieces code hs)

  refilled : List Part → List ℤ → List Part
  refilled [] zs = []
  refilled (q ∷ qs) zs = record { root = q.root; field = q.field; kind = q.kind; pieces = refilled_pieces q.pieces (take (count q.pieces) zs) }
      ∷ refilled qs (drop (count q.pieces) zs)

  as_many : (zs : List ℤ) → length (zeroed zs) ≡ length zs
  as_many zs = length-map zs (λ (z : ℤ). pos 0)

  pieces_again : (hs : List Held) → refilled_pieces (bare_pieces hs) (numbers_in_pieces code hs) ≡ hs
  unfolding refilled_pieces
  pieces_again [] = refl
  pieces_again (h ∷ hs) = λ i. record {
    points = h.points;
    mode = h.mode;
    values = take_first (length (zeroed h.values)) h.values (numbers_in_pieces code hs) (as_many h.values) i;
  } ∷ (ap (refilled_pieces (bare_pieces hs)) (drop_first (length (zeroed h.values)) h.values (numbers_in_pieces code hs) (as_many h.values))
      ∙ pieces_again hs) i

  count_bare : (hs : List Held) → count (bare_pieces hs) ≡ count hs
  unfolding count
  count_bare [] = refl
  count_bare (h ∷ hs) = omega (
    arith,
    length-append (zeroed h.values) (numbers_in_pieces code (bare_pieces hs)),
    length-append h.values (numbers_in_pieces code hs),
    as_many h.values,
    count_bare hs,
  )

  parts_again : (qs : List Part) → refilled (bare qs) (numbers_in_parts code qs) ≡ qs
  unfolding refilled count
  parts_again [] = refl
  parts_again (q ∷ qs) =
      let n = count_bare q.pieces in
      λ i. record {
        root = q.root;
        field = q.field;
        kind = q.kind;
        pieces = (ap (refilled_pieces (bare_pieces q.pieces))
            (take_first (count (bare_pieces q.pieces)) (numbers_in_pieces code q.pieces) (numbers_in_parts code qs) n)
            ∙ pieces_again q.pieces) i;
      } ∷ (ap (refilled (bare qs)) (drop_first (count (bare_pieces q.pieces)) (numbers_in_pieces code q.pieces) (numbers_in_parts code qs) n)
      ∙ parts_again qs) i

  same_parts : (qs ps : List Part) → bare qs ≡ bare ps → numbers_in_parts code qs ≡ numbers_in_parts code ps → qs ≡ ps
  same_parts qs ps b n = sym (parts_again qs) ∙ (λ i. refilled (b i) (n i)) ∙ parts_again ps

  -- ---- how elements are held doesn't hang on their numbers

  bare_onto_pieces : (m : Mode) (p : ℕ) (z : ℤ) (hs : List Held) →
      bare_pieces (onto_pieces code m p z hs) ≡ onto_pieces code m p (pos 0) (bare_pieces hs)
  bare_onto_pieces m p z [] = refl
  bare_onto_pieces m p z (h ∷ hs) = chosen (same_mode m h.mode)
    where
      chosen : (b : Bool) → bare_pieces (cond b (record { points = p ∷ h.points; mode = h.mode; values = z ∷ h.values } ∷ hs) (piece_with code m p z ∷ h ∷ hs))
          ≡ cond b (record { points = p ∷ h.points; mode = h.mode; values = pos 0 ∷ zeroed h.values } ∷ bare_pieces hs)
          (piece_with code m p (pos 0) ∷ bare_pieces (h ∷ hs))
      chosen true = refl
      chosen false = refl

  bare_onto : (root field : ℕ) (m : Mode) (p : ℕ) (z : ℤ) (qs : List Part) →
      bare (onto_parts code root field m p z qs) ≡ onto_parts code root field m p (pos 0) (bare qs)
  bare_onto root field m p z [] = refl
  bare_onto root field m p z (q ∷ qs) = chosen (is_part_of root field q)
    where
      chosen : (b : Bool) → bare (cond b (record { root = q.root; field = q.field; kind = q.kind; pieces = onto_pieces code m p z q.pieces } ∷ qs)
          (part_with code root field (piece_with code m p z ∷ []) ∷ q ∷ qs))
          ≡ cond b (record { root = q.root; field = q.field; kind = q.kind; pieces = onto_pieces code m p (pos 0) (bare_pieces q.pieces) } ∷ bare qs)
          (part_with code root field (piece_with code m p (pos 0) ∷ []) ∷ bare (q ∷ qs))
      chosen true = ap (λ hs. record { root = q.root; field = q.field; kind = q.kind; pieces = hs } ∷ bare qs) (bare_onto_pieces m p z q.pieces)
      chosen false = refl

  bare_numbers : (ps : List (Element (regent_ground (spaces_of code)))) (zs : List ℤ) →
      bare (parts_in code (with_numbers code ps zs)) ≡ bare (parts_in code ps)
  bare_numbers [] zs = refl
  bare_numbers (x ∷ ps) [] = refl
  bare_numbers (x ∷ ps) (z ∷ zs) =
      let l = x.location in
      bare_onto l.root l.field (mode_in code x.mode) l.point z (parts_in code (with_numbers code ps zs))
      ∙ ap (onto_parts code l.root l.field (mode_in code x.mode) l.point (pos 0)) (bare_numbers ps zs)
      ∙ sym (bare_onto l.root l.field (mode_in code x.mode) l.point x.number (parts_in code ps))

  numbers_taken : (ps : List (Element (regent_ground (spaces_of code)))) (zs : List ℤ) → length zs ≡ length ps →
      numbers_of code (with_numbers code ps zs) ≡ zs
  numbers_taken [] [] e = refl
  numbers_taken [] (z ∷ zs) e = absurd (omega (arith, e))
  numbers_taken (x ∷ ps) [] e = absurd (omega (arith, e))
  numbers_taken (x ∷ ps) (z ∷ zs) e = ap (λ ys. z ∷ ys) (numbers_taken ps zs (omega (arith, e)))

  -- so the board keeps the parts that a segment leaves, which holds what it was given
  pub regained : (ps : List (Element (regent_ground (spaces_of code)))) (qs : List Part) → bare qs ≡ bare (parts_in code ps) →
      parts_in code (with_numbers code ps (numbers_in_parts code qs)) ≡ qs
  regained ps qs e =
      let zs = numbers_in_parts code qs in
      let long : length zs ≡ length ps = sym (parts_count code qs) ∙ ap (λ rs. length (numbers_in_parts code rs)) e
      ∙ parts_count code (parts_in code ps) ∙ ap length (parts_numbers code ps) ∙ count_elements code ps in
      same_parts (parts_in code (with_numbers code ps zs)) qs (bare_numbers ps zs ∙ sym e)
      (parts_numbers code (with_numbers code ps zs) ∙ numbers_taken ps zs long)

  -- ---- a part more

  none_before : (root field r f : ℕ) (m : Mode) (p : ℕ) (z : ℤ) (qs : List Part) → part_of (onto_parts code r f m p z qs) root field ≡ None →
      part_of qs root field ≡ None
  none_before root field r f m p z [] e = refl
  none_before root field r f m p z (q ∷ qs) e = chosen (is_part_of r f q) e
    where
      same : (b : Bool) (x : Part) → cond b (Some x) (part_of qs root field) ≡ None → cond b (Some q) (part_of qs root field) ≡ None
      same true x d = absurd cc
      same false x d = d

      behind : (b : Bool) (x : Part) (o : Option Part) → cond b (Some x) o ≡ None → o ≡ None
      behind true x o d = absurd cc
      behind false x o d = d

      chosen : (b : Bool) → part_of (cond b (record { root = q.root; field = q.field; kind = q.kind; pieces = onto_pieces code m p z q.pieces } ∷ qs)
          (part_with code r f (piece_with code m p z ∷ []) ∷ q ∷ qs)) root field ≡ None → part_of (q ∷ qs) root field ≡ None
      chosen true d = same (is_part_of root field q) _ d
      chosen false d = behind (is_part_of root field (part_with code r f (piece_with code m p z ∷ []))) _ (part_of (q ∷ qs) root field) d

  onto_append : (root field : ℕ) (q : Part) → is_part_of root field q ≡ true → (r f : ℕ) (m : Mode) (p : ℕ) (z : ℤ) (qs : List Part) →
      part_of (onto_parts code r f m p z qs) root field ≡ None →
      onto_parts code r f m p z (qs ++ q ∷ []) ≡ onto_parts code r f m p z qs ++ q ∷ []
  onto_append root field q is r f m p z [] e = chosen (is_part_of r f q) refl
    where
      new : Part
      new = part_with code r f (piece_with code m p z ∷ [])

      here : (b : Bool) → b ≡ true → cond b (Some new) None ≡ None → ⊥
      here true t d = absurd cc
      here false t d = absurd cc

      chosen : (b : Bool) → is_part_of r f q ≡ b → cond b
          (record { root = q.root; field = q.field; kind = q.kind; pieces = onto_pieces code m p z q.pieces } ∷ []) (new ∷ q ∷ []) ≡ new ∷ q ∷ []
      chosen true d =
          let one = and_parts (q.root.0 == root) (q.field == field) is in
          let two = and_parts (q.root.0 == r) (q.field == f) d in
          absurd (here (is_part_of root field new)
          (and_from _ _ (eq-eqb r root (sym (eqb-true q.root.0 r two.0) ∙ eqb-true q.root.0 root one.0))
          (eq-eqb f field (sym (eqb-true q.field f two.1) ∙ eqb-true q.field field one.1))) e)
      chosen false d = refl
  onto_append root field q is r f m p z (x ∷ qs) e = chosen (is_part_of r f x)
    where
      chosen : (b : Bool) → cond b (record { root = x.root; field = x.field; kind = x.kind; pieces = onto_pieces code m p z x.pieces } ∷ qs ++ q ∷ [])
          (part_with code r f (piece_with code m p z ∷ []) ∷ x ∷ qs ++ q ∷ [])
          ≡ cond b (record { root = x.root; field = x.field; kind = x.kind; pieces = onto_pieces code m p z x.pieces } ∷ qs)
          (part_with code r f (piece_with code m p z ∷ []) ∷ x ∷ qs) ++ q ∷ []
      chosen true = refl
      chosen false = refl

  -- elements of a part that isn't held come behind as that part
  pub part_behind : (root field : ℕ) (q : Part) → is_part_of root field q ≡ true → (xs ys : List (Element (regent_ground (spaces_of code)))) →
      parts_in code ys ≡ q ∷ [] → part_of (parts_in code xs) root field ≡ None → parts_in code (xs ++ ys) ≡ parts_in code xs ++ q ∷ []
  part_behind root field q is [] ys e n = e
  part_behind root field q is (x ∷ xs) ys e n =
      let l = x.location in
      ap (onto_parts code l.root l.field (mode_in code x.mode) l.point x.number)
      (part_behind root field q is xs ys e (none_before root field l.root l.field (mode_in code x.mode) l.point x.number (parts_in code xs) n))
      ∙ onto_append root field q is l.root l.field (mode_in code x.mode) l.point x.number (parts_in code xs) n
