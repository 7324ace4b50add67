-- What parts that go back make of one number, element by element and piece by piece.
use Rattle.std.proofs.Common.{◌≡◌, ◌==◌, ◌&&◌, ◌∷◌, ◌∙◌, ⊎_elim, ℕ, suc, ℤ, Bool, List, None, Option, Some, [], ap, arith, cond, eqb, eqb-true, false, filter, map, refl, subst, sym, true}
use Rattle.std.specs.Prelude.{All}
use Rattle.std.specs.List.Sorted.{IsStrictlyIncreasing}
use Rattle.std.proofs.lemmas.Bool.{and_from, and_parts, cases_Bool, eqb-false, false_from_ne_true, false≢true, ne_eqb}
use Rattle.std.proofs.lemmas.List.Elements.{All-cons, All-from_get_or, All-head, All-nil, All-tail}
use Rattle.plain_values.specs.Points.{has, meets}
use Rattle.point_sets.proofs.Rising.{absent, has_head, has_other, meets_at, rising_head, rising_tail}
use Rattle.lane_kernels.specs.Numbers.{FitsWidth, applied, width_of}
use Rattle.lane_kernels.specs.declared.numbers.FieldKind.{FieldKind}
use Rattle.lane_kernels.specs.declared.numbers.Mode.{Mode}
use Rattle.lane_kernels.specs.declared.numbers.Mode.TheVariants as mode
use Rattle.lane_kernels.specs.declared.numbers.Width.{Width}
use Rattle.lane_kernels.proofs.Operators.{closed}
use Rattle.region_tree.specs.Pieces.{Held}
use Rattle.region_tree.specs.Requirements.{PartsAreApart, no_part, same_mode}
use Rattle.region_tree.specs.declared.piece.Part.{Part}
use Rattle.region_tree.proofs.Joins.{same_mode-tells}
use Rattle.logical_map.specs.Gives.{all_given_at, given, is_reduction, is_write}
use Rattle.logical_map.specs.Maps.{number_beside}
use Rattle.logical_map.proofs.Beside.{beside_more, beside_no_number, beside_no_point}
use Rattle.logical_map.proofs.Reading.{lacked_at}
use Rattle.task_code.specs.declared.code.Code.{Code}
use Rattle.machine_terms.specs.Parts.{is_part_of}
use Rattle.board_rules.specs.Ground.{Ground, Mode as BoardMode, reads, reduces, writes}
use Rattle.board_rules.specs.Processes.{Map, run_all}
use Rattle.board_rules.specs.Running.{Element, Machine, back_with, puts}
use Rattle.regent_boards.specs.Folds.{folded}
use Rattle.regent_boards.specs.Frames.{Location, OpAt}
use Rattle.regent_boards.specs.RegentMachine.{as_held, kind_of, regent_ground}
use Rattle.regent_boards.proofs.Folds.{folds_are_applied}
use Rattle.code_boards.specs.Views.{mode_in, onto_parts, onto_pieces, part_with, parts_in, piece_with, spaces_of}
use Rattle.board_trees.specs.Frames.{HasFitting, IsHeld}

cond_same : {A : Type 0} (b : Bool) (a : A) → cond b a a ≡ a
cond_same true a = refl
cond_same false a = refl

abbrev pub held_as : Held → List ℕ × Mode
held_as h = (h.points, h.mode)

-- ---- pieces, point by point

abbrev points_given : Width → Mode → List ℕ → List ℤ → ℕ → ℤ → ℤ
points_given w m (p ∷ ps) (v ∷ vs) q z = points_given w m ps vs q (cond (p == q) (given w m z (Some v)) z)
points_given w m _ _ q z = z

abbrev pub pieces_given : Width → List Held → ℕ → ℤ → ℤ
pieces_given w [] q z = z
pieces_given w (h ∷ hs) q z = pieces_given w hs q (points_given w h.mode h.points h.values q z)

abbrev pub parts_given : List Part → ℕ → ℕ → ℕ → ℤ → ℤ
parts_given [] root field p z = z
parts_given (q ∷ qs) root field p z = parts_given qs root field p (cond (is_part_of root field q) (pieces_given (width_of q.kind) q.pieces p z) z)

-- ---- and as the table has them: reductions first, and the first number beside a point

module _ (w : Width) where
  points_lack : (m : Mode) (ps : List ℕ) (vs : List ℤ) (q : ℕ) (z : ℤ) → has ps q ≡ false → points_given w m ps vs q z ≡ z
  points_lack m [] vs q z e = refl
  points_lack m (p ∷ ps) [] q z e = refl
  points_lack m (p ∷ ps) (v ∷ vs) q z e =
      let other : (p == q) ≡ false = ne_eqb p q (λ same. false≢true (sym e ∙ ap (λ y. has (y ∷ ps) q) same ∙ has_head q ps)) in
      ap (λ b. points_given w m ps vs q (cond b (given w m z (Some v)) z)) other
      ∙ points_lack m ps vs q z (sym (has_other q p ps (λ same. eqb-false p q other (sym same))) ∙ e)

  points_beside : (m : Mode) (ps : List ℕ) (vs : List ℤ) (q : ℕ) (z : ℤ) → IsStrictlyIncreasing ps → points_given w m ps vs q z ≡ given w m z (number_beside ps vs q)
  points_beside m [] vs q z r = ap (given w m z) (sym (beside_no_point vs q))
  points_beside m (p ∷ ps) [] q z r = ap (given w m z) (sym (beside_no_number (p ∷ ps) q))
  points_beside m (p ∷ ps) (v ∷ vs) q z r = by_case (eqb p q) refl (points_beside m ps vs q z (rising_tail p ps r))
      ∙ ap (given w m z) (sym (beside_more p q ps v vs))
    where
      by_case : (b : Bool) → eqb p q ≡ b → points_given w m ps vs q z ≡ given w m z (number_beside ps vs q) →
          points_given w m ps vs q (cond b (given w m z (Some v)) z) ≡ given w m z (cond b (Some v) (number_beside ps vs q))
      by_case true e more = points_lack m ps vs q (given w m z (Some v)) (absent p ps (rising_head p ps r) q (omega (arith, eqb-true p q e)))
      by_case false e more = more

  abbrev AllLack : ℕ → List Held → Type 0
  AllLack q [] = Unit {0}
  AllLack q (h ∷ hs) = (has h.points q ≡ false) × AllLack q hs

  pieces_lack : (hs : List Held) (q : ℕ) (z : ℤ) → AllLack q hs → pieces_given w hs q z ≡ z
  pieces_lack [] q z a = refl
  pieces_lack (h ∷ hs) q z a = ap (pieces_given w hs q) (points_lack h.mode h.points h.values q z a.0) ∙ pieces_lack hs q z a.1

  chosen_lack : (f : Held → Bool) (hs : List Held) (q : ℕ) (z : ℤ) → AllLack q hs → all_given_at w (filter f hs) q z ≡ z
  chosen_lack f [] q z a = refl
  chosen_lack f (h ∷ hs) q z a = skipped (f h) ∙ chosen_lack f hs q z a.1
    where
      skipped : (b : Bool) → all_given_at w (cond b (h ∷ filter f hs) (filter f hs)) q z ≡ all_given_at w (filter f hs) q z
      skipped true = ap (all_given_at w (filter f hs) q) (lacked_at w h q a.0 z)
      skipped false = refl

  abbrev in_table : List Held → ℕ → ℤ → ℤ
  in_table hs q z = all_given_at w (filter is_write hs) q (all_given_at w (filter is_reduction hs) q z)

  -- one piece has the point, and no other
  here : (xs : List ℕ) (m : Mode) (vs : List ℤ) (hs : List Held) (q : ℕ) (z : ℤ) → AllLack q hs →
      given w m z (number_beside xs vs q) ≡ in_table (record { points = xs; mode = m; values = vs } ∷ hs) q z
  here xs mode.Read vs hs q z a = unread (number_beside xs vs q) ∙ sym (chosen_lack is_reduction hs q z a)
      ∙ sym (chosen_lack is_write hs q (all_given_at w (filter is_reduction hs) q z) a)
    where
      unread : (o : Option ℤ) → given w mode.Read z o ≡ z
      unread None = refl
      unread (Some y) = refl
  here xs mode.Write vs hs q z a = ap (λ y. given w mode.Write y (number_beside xs vs q)) (sym (chosen_lack is_reduction hs q z a))
      ∙ sym (chosen_lack is_write hs q (given w mode.Write (all_given_at w (filter is_reduction hs) q z) (number_beside xs vs q)) a)
  here xs (mode.Reduce o) vs hs q z a = sym (chosen_lack is_reduction hs q (given w (mode.Reduce o) z (number_beside xs vs q)) a)
      ∙ sym (chosen_lack is_write hs q (all_given_at w (filter is_reduction hs) q (given w (mode.Reduce o) z (number_beside xs vs q))) a)

  lack_of : (xs : List ℕ) (q : ℕ) → has xs q ≡ true → (hs : List Held) → All (λ (p : List ℕ × Mode). meets xs p.0 ≡ false) (map held_as hs) → AllLack q hs
  lack_of xs q e [] a = tt
  lack_of xs q e (h ∷ hs) a =
      let P = λ (p : List ℕ × Mode). meets xs p.0 ≡ false in (
        false_from_ne_true (has h.points q) (λ g. false≢true (sym (All-head P (held_as h) (map held_as hs) a) ∙ meets_at xs h.points q (and_from _ _ e g))),
        lack_of xs q e hs (All-tail P (held_as h) (map held_as hs) a),
      )

  abbrev Rises : Held → Type 0
  Rises h = IsStrictlyIncreasing h.points

  pub pieces_in_table : (hs : List Held) → PartsAreApart (map held_as hs) → All Rises hs → (q : ℕ) (z : ℤ) → pieces_given w hs q z ≡ in_table hs q z
  pieces_in_table [] a r q z = refl
  pieces_in_table (h ∷ hs) a r q z = ⊎_elim one
      (others (pieces_in_table hs (λ i j l k. a (suc i) (suc j) (omega (arith, l)) (omega (arith, k))) (All-tail Rises h hs r) q z)) (cases_Bool (has h.points q))
    where
      apart : All (λ (p : List ℕ × Mode). meets h.points p.0 ≡ false) (map held_as hs)
      apart = All-from_get_or (λ (p : List ℕ × Mode). meets h.points p.0 ≡ false) (map held_as hs) no_part
          (λ i l. (a 0 (suc i) (omega arith) (omega (arith, l))).0)

      one : has h.points q ≡ true → pieces_given w (h ∷ hs) q z ≡ in_table (h ∷ hs) q z
      one e =
          let lack = lack_of h.points q e hs apart in
          pieces_lack hs q (points_given w h.mode h.points h.values q z) lack
          ∙ points_beside h.mode h.points h.values q z (All-head Rises h hs r)
          ∙ here h.points h.mode h.values hs q z lack

      others : pieces_given w hs q z ≡ in_table hs q z → has h.points q ≡ false → pieces_given w (h ∷ hs) q z ≡ in_table (h ∷ hs) q z
      others more e =
          ap (pieces_given w hs q) (points_lack h.mode h.points h.values q z e)
          ∙ more
          ∙ ap (all_given_at w (filter is_write hs) q) (sym (skip (is_reduction h) (filter is_reduction hs) z))
          ∙ sym (skip (is_write h) (filter is_write hs) (all_given_at w (filter is_reduction (h ∷ hs)) q z))
        where
          skip : (b : Bool) (xs : List Held) (y : ℤ) → all_given_at w (cond b (h ∷ xs) xs) q y ≡ all_given_at w xs q y
          skip true xs y = ap (all_given_at w xs q) (lacked_at w h q e y)
          skip false xs y = refl

-- ---- element by element

abbrev acted : BoardMode OpAt → ℤ → ℤ → ℤ
acted reads v z = z
acted writes v z = v
acted (reduces o) v z = folded o.op o.width z v

nested : (a b c : Bool) (y z : ℤ) → cond (a && b) (cond c y z) z ≡ cond (a && (b && c)) y z
nested true true c y z = refl
nested true false c y z = refl
nested false b c y z = refl

module _ (code : Code) where
  abbrev G : Ground
  G = regent_ground (spaces_of code)

  abbrev pub acts : List (Element G) → Location → ℤ → ℤ
  acts [] l z = z
  acts (x ∷ xs) l z = acts xs l (cond (G.same x.location l) (acted x.mode x.number z) z)

  -- what is put into the map
  pub puts_act : (M : Machine G) (ps : List (Element G)) (m : Map G) (l : Location) → run_all G (puts G M ps) m l ≡ acts ps l (m l)
  puts_act M [] m l = refl
  puts_act M (x ∷ ps) m l = by_mode x.mode (puts_act M ps)
    where
      by_mode : (md : BoardMode OpAt) → ((m : Map G) (l : Location) → run_all G (puts G M ps) m l ≡ acts ps l (m l)) →
          run_all G (back_with G M md x.location x.number (puts G M ps)) m l ≡ acts ps l (cond (G.same x.location l) (acted md x.number (m l)) (m l))
      by_mode reads more = more m l ∙ ap (acts ps l) (sym (cond_same (G.same x.location l) (m l)))
      by_mode writes more = more (λ k. cond (G.same x.location k) x.number (m k)) l
      by_mode (reduces o) more = more (λ k. cond (G.same x.location k) (folded o.op o.width (m k) x.number) (m k)) l

  -- ---- parts have the kinds of their fields

  abbrev pub AreKinds : List Part → Type 0
  AreKinds [] = Unit {0}
  AreKinds (q ∷ qs) = (q.kind ≡ kind_of (spaces_of code) q.root.0 q.field) × AreKinds qs

  onto_kinds : (root field : ℕ) (m : Mode) (p : ℕ) (z : ℤ) (qs : List Part) → AreKinds qs → AreKinds (onto_parts code root field m p z qs)
  onto_kinds root field m p z [] h = (refl, tt)
  onto_kinds root field m p z (q ∷ qs) h = chosen (is_part_of root field q)
    where
      chosen : (b : Bool) → AreKinds (cond b (record { root = q.root; field = q.field; kind = q.kind; pieces = onto_pieces code m p z q.pieces } ∷ qs)
          (part_with code root field (piece_with code m p z ∷ []) ∷ q ∷ qs))
      chosen true = (h.0, h.1)
      chosen false = (refl, h)

  pub are_kinds : (ps : List (Element G)) → AreKinds (parts_in code ps)
  are_kinds [] = tt
  are_kinds (x ∷ ps) = onto_kinds x.location.root x.location.field (mode_in code x.mode) x.location.point x.number (parts_in code ps) (are_kinds ps)

  module _ (root field : ℕ) (m : Mode) (p : ℕ) (v : ℤ) where
    abbrev kind : FieldKind
    kind = kind_of (spaces_of code) root field

    onto_pieces_given : (w : Width) (hs : List Held) (q : ℕ) (z : ℤ) →
        pieces_given w (onto_pieces code m p v hs) q z ≡ pieces_given w hs q (cond (p == q) (given w m z (Some v)) z)
    onto_pieces_given w [] q z = refl
    onto_pieces_given w (h ∷ hs) q z = chosen (same_mode m h.mode) refl
      where
        chosen : (b : Bool) → same_mode m h.mode ≡ b →
            pieces_given w (cond b (record { points = p ∷ h.points; mode = h.mode; values = v ∷ h.values } ∷ hs) (piece_with code m p v ∷ h ∷ hs)) q z
            ≡ pieces_given w (h ∷ hs) q (cond (p == q) (given w m z (Some v)) z)
        chosen true e = ap (λ k. pieces_given w (h ∷ hs) q (cond (p == q) (given w k z (Some v)) z)) (sym (same_mode-tells m h.mode e))
        chosen false e = refl

    abbrev put_on : ℤ → ℤ
    put_on z = given (width_of kind) m z (Some v)

    -- an element goes back before the parts behind it
    onto_given : (qs : List Part) → AreKinds qs → (R f q : ℕ) (z : ℤ) →
        parts_given (onto_parts code root field m p v qs) R f q z
        ≡ parts_given qs R f q (cond ((root == R) && ((field == f) && (p == q))) (given (width_of kind) m z (Some v)) z)
    onto_given [] h R f q z = nested (root == R) (field == f) (p == q) (given (width_of kind) m z (Some v)) z
    onto_given (x ∷ qs) h R f q z = chosen (is_part_of root field x) refl
      where
        chosen : (b : Bool) → is_part_of root field x ≡ b →
            parts_given (cond b (record { root = x.root; field = x.field; kind = x.kind; pieces = onto_pieces code m p v x.pieces } ∷ qs)
            (part_with code root field (piece_with code m p v ∷ []) ∷ x ∷ qs)) R f q z
            ≡ parts_given (x ∷ qs) R f q (cond ((root == R) && ((field == f) && (p == q))) (put_on z) z)
        chosen false e = ap (parts_given (x ∷ qs) R f q) (nested (root == R) (field == f) (p == q) (put_on z) z)
        chosen true e =
            let same = and_parts (x.root.0 == root) (x.field == field) e in
            let r : x.root.0 ≡ root = eqb-true x.root.0 root same.0 in
            let k : x.field ≡ field = eqb-true x.field field same.1 in
            let kinds : x.kind ≡ kind = h.0 ∙ (λ i. kind_of (spaces_of code) (r i) (k i)) in
            ap (parts_given qs R f q)
            ((λ i. cond ((r i == R) && (k i == f)) (onto_pieces_given (width_of x.kind) x.pieces q z i) z)
            ∙ (λ i. cond ((root == R) && (field == f)) (pieces_given (width_of x.kind) x.pieces q (cond (p == q) (given (width_of (kinds i)) m z (Some v)) z)) z)
            ∙ inner (root == R) (field == f) (p == q)
            ∙ (λ i. cond ((sym r i == R) && (sym k i == f)) (pieces_given (width_of x.kind) x.pieces q (cond ((root == R) && ((field == f) && (p == q))) (put_on z) z))
            (cond ((root == R) && ((field == f) && (p == q))) (put_on z) z)))
          where
            inner : (a b c : Bool) → cond (a && b) (pieces_given (width_of x.kind) x.pieces q (cond c (put_on z) z)) z
                ≡ cond (a && b) (pieces_given (width_of x.kind) x.pieces q (cond (a && (b && c)) (put_on z) z)) (cond (a && (b && c)) (put_on z) z)
            inner true true c = refl
            inner true false c = refl
            inner false b c = refl

    -- ---- numbers fit

    abbrev Fit : Width → Held → Type 0
    Fit w h = All (FitsWidth w) h.values

    onto_pieces_fit : (w : Width) (hs : List Held) → All (Fit w) (onto_pieces code m p v hs) → FitsWidth w v × All (Fit w) hs
    onto_pieces_fit w [] a = (All-head (FitsWidth w) v [] (All-head (Fit w) (piece_with code m p v) [] a), All-nil (Fit w))
    onto_pieces_fit w (h ∷ hs) a = chosen (same_mode m h.mode) a
      where
        chosen : (b : Bool) → All (Fit w) (cond b (record { points = p ∷ h.points; mode = h.mode; values = v ∷ h.values } ∷ hs) (piece_with code m p v ∷ h ∷ hs)) →
            FitsWidth w v × All (Fit w) (h ∷ hs)
        chosen true a =
            let first = All-head (Fit w) (record { points = p ∷ h.points; mode = h.mode; values = v ∷ h.values }) hs a in (
              All-head (FitsWidth w) v h.values first,
              All-cons (Fit w) h hs (All-tail (FitsWidth w) v h.values first) (All-tail (Fit w) (record { points = p ∷ h.points; mode = h.mode; values = v ∷ h.values }) hs a),
            )
        chosen false a = (
          All-head (FitsWidth w) v [] (All-head (Fit w) (piece_with code m p v) (h ∷ hs) a),
          All-tail (Fit w) (piece_with code m p v) (h ∷ hs) a,
        )

    onto_fits : (qs : List Part) → AreKinds qs → All HasFitting (onto_parts code root field m p v qs) → FitsWidth (width_of kind) v × All HasFitting qs
    onto_fits [] h a = (
      (onto_pieces_fit (width_of kind) [] (All-head HasFitting (part_with code root field (piece_with code m p v ∷ [])) [] a)).0,
      All-nil HasFitting,
    )
    onto_fits (x ∷ qs) h a = chosen (is_part_of root field x) refl a
      where
        chosen : (b : Bool) → is_part_of root field x ≡ b → All HasFitting (cond b (record { root = x.root; field = x.field; kind = x.kind; pieces = onto_pieces code m p v x.pieces } ∷ qs)
            (part_with code root field (piece_with code m p v ∷ []) ∷ x ∷ qs)) → FitsWidth (width_of kind) v × All HasFitting (x ∷ qs)
        chosen true e a =
            let same = and_parts (x.root.0 == root) (x.field == field) e in
            let kinds : x.kind ≡ kind = h.0 ∙ (λ i. kind_of (spaces_of code) (eqb-true x.root.0 root same.0 i) (eqb-true x.field field same.1 i)) in
            let new : Part = record { root = x.root; field = x.field; kind = x.kind; pieces = onto_pieces code m p v x.pieces } in
            let both = onto_pieces_fit (width_of x.kind) x.pieces (All-head HasFitting new qs a) in (
              subst (λ k. FitsWidth (width_of k) v) kinds both.0,
              All-cons HasFitting x qs both.1 (All-tail HasFitting new qs a),
            )
        chosen false e a = (
          (onto_pieces_fit (width_of kind) [] (All-head HasFitting (part_with code root field (piece_with code m p v ∷ [])) (x ∷ qs) a)).0,
          All-tail HasFitting (part_with code root field (piece_with code m p v ∷ [])) (x ∷ qs) a,
        )

  -- ---- elements and the parts that they are

  module _ (R f q : ℕ) where
    abbrev at : Location
    at = record { root = R; field = f; point = q }

    abbrev W : Width
    W = width_of (kind_of (spaces_of code) R f)

    -- one element
    module _ (root field p : ℕ) (v z : ℤ) (fits_v : FitsWidth (width_of (kind_of (spaces_of code) root field)) v) (fits_z : FitsWidth W z) where
      abbrev w : Width
      w = width_of (kind_of (spaces_of code) root field)

      one_acted : (m : Mode) (b : Bool) → ((root == R) && ((field == f) && (p == q))) ≡ b →
          (cond b (acted (as_held (spaces_of code) root field m) v z) z ≡ cond b (given w m z (Some v)) z) × FitsWidth W (cond b (given w m z (Some v)) z)
      one_acted m false e = (refl, fits_z)
      one_acted m true e =
          let same = and_parts (root == R) ((field == f) && (p == q)) e in
          let below = and_parts (field == f) (p == q) same.1 in
          let widths : w ≡ W = λ i. width_of (kind_of (spaces_of code) (eqb-true root R same.0 i) (eqb-true field f below.0 i)) in
          by_mode m widths
        where
          by_mode : (m : Mode) → w ≡ W → (acted (as_held (spaces_of code) root field m) v z ≡ given w m z (Some v)) × FitsWidth W (given w m z (Some v))
          by_mode mode.Read e = (refl, fits_z)
          by_mode mode.Write e = (refl, subst (λ k. FitsWidth k v) e fits_v)
          by_mode (mode.Reduce o) e = (
            folds_are_applied o w z v (subst (λ k. FitsWidth k z) (sym e) fits_z) fits_v,
            subst (λ k. FitsWidth k (applied o w z v)) e (closed o w z v),
          )

    pub acts_given : (ps : List (Element G)) → All (IsHeld code) ps → All HasFitting (parts_in code ps) → (z : ℤ) → FitsWidth W z →
        (acts ps at z ≡ parts_given (parts_in code ps) R f q z) × FitsWidth W (parts_given (parts_in code ps) R f q z)
    acts_given [] h a z fit = (refl, fit)
    acts_given (x ∷ ps) h a z fit =
        let l = x.location in
        let md = mode_in code x.mode in
        let kinds = are_kinds ps in
        let both = onto_fits l.root l.field md l.point x.number (parts_in code ps) kinds a in
        let one = one_acted l.root l.field l.point x.number z both.0 fit md (G.same l at) refl in
        let more = acts_given ps (All-tail (IsHeld code) x ps h) both.1 (cond (G.same l at) (given (width_of (kind_of (spaces_of code) l.root l.field)) md z (Some x.number)) z) one.1 in
        let onto = onto_given l.root l.field md l.point x.number (parts_in code ps) kinds R f q z in (
          ap (λ k. acts ps at (cond (G.same l at) (acted k x.number z) z)) (All-head (IsHeld code) x ps h) ∙ ap (acts ps at) one.0 ∙ more.0 ∙ sym onto,
          subst (FitsWidth W) (sym onto) more.1,
        )
