-- Parts that go back into the roots, and into the map.
use Rattle.std.proofs.Common.{◌≡◌, ℕ, ◌<◌, ◌≤◌, ℤ, pos, List, [], ◌∷◌, Bool, true, false, cond, refl, sym, ap, ◌∙◌, subst, map, arith, ◌==◌, ◌&&◌, get_or, ⊎_elim, eqb-true, suc, zero}
use Rattle.std.specs.Prelude.{length, slice_set}
use Rattle.std.proofs.lemmas.Bool.{and_parts, cases_lt}
use Rattle.std.proofs.lemmas.List.{set-get_or}
use Rattle.lane_kernels.specs.declared.numbers.FieldKind.{FieldKind}
use Rattle.lane_kernels.specs.declared.numbers.Mode.{Mode}
use Rattle.lane_kernels.specs.declared.numbers.Mode.TheVariants as mode
use Rattle.lane_kernels.specs.Numbers.{FitsWidth, applied, width_of}
use Rattle.lane_kernels.proofs.Operators.{closed}
use Rattle.region_tree.specs.declared.piece.Part.{Part}
use Rattle.region_tree.specs.Pieces.{Held}
use Rattle.region_tree.specs.Requirements.{same_mode}
use Rattle.region_tree.proofs.Joins.{same_mode-tells}
use Rattle.regent_tree.specs.declared.outcome.RootImage.{RootImage}
use Rattle.task_code.specs.declared.code.Code.{Code}
use Rattle.machine_terms.specs.declared.order.Contents.{Contents}
use Rattle.machine_terms.specs.Contents.{image_of, keep, kept_at, with_number}
use Rattle.machine_terms.specs.Copies.{give_back, give_parts, give_pieces}
use Rattle.machine_terms.specs.Parts.{is_part_of}
use Rattle.machine_terms.proofs.FitParts.{PartsFit, PiecesFit}
use Rattle.memory_laws.specs.Places.{column_of, numbers}
use Rattle.memory_laws.proofs.Keeping.{image_kept, kept_set, length_kept}
use Rattle.memory_laws.proofs.Shapes.{alike_parts, length_of, kind_same}
use Rattle.board_rules.specs.Ground.{Ground}
use Rattle.board_rules.specs.Processes.{Map, run_all}
use Rattle.board_rules.specs.Running.{Element, Machine, puts, back_with}
use Rattle.regent_boards.specs.Folds.{folded}
use Rattle.regent_boards.specs.RegentMachine.{as_held, kind_of, regent_ground}
use Rattle.regent_boards.proofs.Folds.{folds_are_applied}
use Rattle.segment_renaming.specs.Renaming.{part_to}
use Rattle.code_boards.specs.Views.{mode_in, onto_parts, onto_pieces, part_with, parts_in, piece_with, spaces_of}
use Rattle.order_boards.proofs.Renumbering.{contents_to, image_to, kept_to, names, parts_given_to}
use Rattle.order_boards.proofs.Stands.{IsLive, Naming, Stands, at, board_root_same, shown_kind, shown_live, IsShaped, board_root}
use Rattle.plain_values.specs.Points.{IsPoints, has}

-- a number set beyond a list changes nothing
set_beyond : (xs : List ℤ) (p : ℕ) (z : ℤ) → length xs ≤ p → slice_set xs p z ≡ xs
set_beyond [] p z k = refl
set_beyond (x ∷ xs) zero z k = absurd (omega (arith, k))
set_beyond (x ∷ xs) (suc p) z k = ap (λ ys. x ∷ ys) (set_beyond xs p z (omega (arith, k)))

module _ (code : Code) where
  abbrev G : Ground
  G = regent_ground (spaces_of code)

  -- ---- the elements of a board's operation

  -- a reduction is at the width of its field
  abbrev pub AreAsHeld : List (Element G) → Type 0
  AreAsHeld [] = Unit {0}
  AreAsHeld (x ∷ xs) = (x.mode ≡ as_held (spaces_of code) x.location.root x.location.field (mode_in code x.mode)) × AreAsHeld xs

  AreKinds : List Part → Type 0
  AreKinds [] = Unit {0}
  AreKinds (q ∷ qs) = (q.kind ≡ kind_of (spaces_of code) q.root.0 q.field) × AreKinds qs

  onto_kinds : (root field : ℕ) (m : Mode) (p : ℕ) (z : ℤ) (qs : List Part) → AreKinds qs → AreKinds (onto_parts code root field m p z qs)
  unfolding AreKinds
  onto_kinds root field m p z [] h = (refl, tt)
  onto_kinds root field m p z (q ∷ qs) h = chosen (is_part_of root field q)
    where
      chosen : (b : Bool) → AreKinds (cond b (record { root = q.root; field = q.field; kind = q.kind; pieces = onto_pieces code m p z q.pieces } ∷ qs)
          (part_with code root field (piece_with code m p z ∷ []) ∷ q ∷ qs))
      chosen true = (h.0, h.1)
      chosen false = (refl, h)

  are_kinds : (ps : List (Element G)) → AreKinds (parts_in code ps)
  unfolding AreKinds
  are_kinds [] = tt
  are_kinds (x ∷ ps) = onto_kinds x.location.root x.location.field (mode_in code x.mode) x.location.point x.number (parts_in code ps) (are_kinds ps)

  module _ (root field : ℕ) (m : Mode) (p : ℕ) (z : ℤ) where
    abbrev kind : FieldKind
    kind = kind_of (spaces_of code) root field

    -- an element goes back before the parts behind it
    onto_pieces_given : (hs : List Held) (c : Contents) →
        give_pieces kind root field (onto_pieces code m p z hs) c ≡ give_pieces kind root field hs (give_back kind m root field p z c)
    onto_pieces_given [] c = refl
    onto_pieces_given (h ∷ hs) c = chosen (same_mode m h.mode) refl
      where
        chosen : (b : Bool) → same_mode m h.mode ≡ b →
            give_pieces kind root field (cond b (record { points = p ∷ h.points; mode = h.mode; values = z ∷ h.values } ∷ hs) (piece_with code m p z ∷ h ∷ hs)) c
            ≡ give_pieces kind root field (h ∷ hs) (give_back kind m root field p z c)
        chosen true e = ap (λ k. give_pieces kind root field (h ∷ hs) (give_back kind k root field p z c)) (sym (same_mode-tells m h.mode e))
        chosen false e = refl

    onto_given : (qs : List Part) (c : Contents) → AreKinds qs →
        give_parts (onto_parts code root field m p z qs) c ≡ give_parts qs (give_back kind m root field p z c)
    unfolding AreKinds
    onto_given [] c h = refl
    onto_given (q ∷ qs) c h = chosen (is_part_of root field q) refl
      where
        chosen : (b : Bool) → is_part_of root field q ≡ b →
            give_parts (cond b (record { root = q.root; field = q.field; kind = q.kind; pieces = onto_pieces code m p z q.pieces } ∷ qs)
            (part_with code root field (piece_with code m p z ∷ []) ∷ q ∷ qs)) c ≡ give_parts (q ∷ qs) (give_back kind m root field p z c)
        chosen true e =
            let same = and_parts (q.root.0 == root) (q.field == field) e in
            let r = eqb-true q.root.0 root same.0 in
            let f = eqb-true q.field field same.1 in
            let k : q.kind ≡ kind = h.0 ∙ (λ i. kind_of (spaces_of code) (r i) (f i)) in
            ap (give_parts qs) ((λ i. give_pieces (k i) (r i) (f i) (onto_pieces code m p z q.pieces) c)
            ∙ onto_pieces_given q.pieces c
            ∙ (λ i. give_pieces (sym k i) (sym r i) (sym f i) q.pieces (give_back kind m root field p z c)))
        chosen false e = refl

    onto_pieces_fit : (hs : List Held) → PiecesFit (width_of kind) (onto_pieces code m p z hs) →
        FitsWidth (width_of kind) z × PiecesFit (width_of kind) hs
    onto_pieces_fit [] f = (f.0.0, tt)
    onto_pieces_fit (h ∷ hs) f = chosen (same_mode m h.mode) f
      where
        chosen : (b : Bool) → PiecesFit (width_of kind) (cond b (record { points = p ∷ h.points; mode = h.mode; values = z ∷ h.values } ∷ hs) (piece_with code m p z ∷ h ∷ hs)) →
            FitsWidth (width_of kind) z × PiecesFit (width_of kind) (h ∷ hs)
        chosen true f = (f.0.0, (f.0.1, f.1))
        chosen false f = (f.0.0, f.1)

    onto_fits : (qs : List Part) → AreKinds qs → PartsFit (onto_parts code root field m p z qs) → FitsWidth (width_of kind) z × PartsFit qs
    unfolding AreKinds
    onto_fits [] h f = (f.0.0.0, tt)
    onto_fits (q ∷ qs) h f = chosen (is_part_of root field q) refl f
      where
        chosen : (b : Bool) → is_part_of root field q ≡ b →
            PartsFit (cond b (record { root = q.root; field = q.field; kind = q.kind; pieces = onto_pieces code m p z q.pieces } ∷ qs)
            (part_with code root field (piece_with code m p z ∷ []) ∷ q ∷ qs)) → FitsWidth (width_of kind) z × PartsFit (q ∷ qs)
        chosen true e f =
            let same = and_parts (q.root.0 == root) (q.field == field) e in
            let k : q.kind ≡ kind = h.0 ∙ (λ i. kind_of (spaces_of code) (eqb-true q.root.0 root same.0 i) (eqb-true q.field field same.1 i)) in
            let both = onto_pieces_fit q.pieces (subst (λ k. PiecesFit (width_of k) (onto_pieces code m p z q.pieces)) k f.0) in
            (both.0, (subst (λ k. PiecesFit (width_of k) q.pieces) (sym k) both.1, f.1))
        chosen false e f = (f.0.0.0, f.1)

  -- ---- what the roots hold, by the board's numbers, and the map

  together : (a b c : Bool) → (a && b && c) ≡ (a && (b && c))
  together true b c = refl
  together false b c = refl

  module _ (s : ℕ → ℕ) where
    abbrev AgreesAt : Contents → Map G → ℕ → ℕ → ℕ → Type 0
    AgreesAt c m r f p = (kept_at c (s r) f p ≡ m (at (s r) f p)) × FitsWidth (width_of (kind_of (spaces_of code) (s r) f)) (kept_at c (s r) f p)

    abbrev Agrees : Contents → Map G → Type 0
    Agrees c m = (r f p : ℕ) → p < length (column_of c (s r) f) → AgreesAt c m r f p

    -- a number that is kept where there is no place for it changes nothing
    kept_beyond : (c : Contents) (root f p : ℕ) (z : ℤ) (r : ℕ) → length (column_of c root f) ≤ p → image_of (keep c root f p z) r ≡ image_of c r
    kept_beyond c root f p z r l = image_kept c root f p z r ∙ chosen (root == r) refl
      where
        unchanged : (i : RootImage) → length (get_or i.fields f []) ≤ p → with_number i f p z ≡ i
        unchanged i k = ap (λ xs. record i { fields = slice_set i.fields f xs }) (set_beyond (get_or i.fields f []) p z k)
            ∙ ap (λ fs. record i { fields = fs }) (set-get_or i.fields f [])

        chosen : (b : Bool) → (root == r) ≡ b → cond b (with_number (image_of c r) f p z) (image_of c r) ≡ image_of c r
        chosen true e = unchanged (image_of c r) (subst (λ k. length (column_of c k f) ≤ p) (eqb-true root r e) l)
        chosen false e = refl

    -- one number is kept, and one of the map changes
    kept_one : (c : Contents) (m : Map G) (R f p : ℕ) (v : ℤ) → Agrees c m → FitsWidth (width_of (kind_of (spaces_of code) R f)) v →
        Agrees (keep c R f p v) (λ l. cond (G.same (at R f p) l) v (m l))
    kept_one c m R f p v a fit r g q l = ⊎_elim within beyond (cases_lt p (length (column_of c R f)))
      where
        chosen : (b : Bool) → ((R == s r) && ((f == g) && (p == q))) ≡ b → kept_at (keep c R f p v) (s r) g q ≡ cond b v (kept_at c (s r) g q) →
            AgreesAt c m r g q →
            (kept_at (keep c R f p v) (s r) g q ≡ cond b v (m (at (s r) g q)))
            × FitsWidth (width_of (kind_of (spaces_of code) (s r) g)) (kept_at (keep c R f p v) (s r) g q)
        chosen true e k h =
            let same = and_parts (R == s r) ((f == g) && (p == q)) e in
            let below = and_parts (f == g) (p == q) same.1 in (
              k,
              subst (FitsWidth (width_of (kind_of (spaces_of code) (s r) g))) (sym k)
                  (subst (λ k. FitsWidth (width_of k) v) (λ i. kind_of (spaces_of code) (eqb-true R (s r) same.0 i) (eqb-true f g below.0 i)) fit),
            )
        chosen false e k h = (
          k ∙ h.0,
          subst (FitsWidth (width_of (kind_of (spaces_of code) (s r) g))) (sym k) h.1,
        )

        within : p < length (column_of c R f) → AgreesAt (keep c R f p v) (λ l. cond (G.same (at R f p) l) v (m l)) r g q
        within k = chosen ((R == s r) && ((f == g) && (p == q))) refl
            (kept_set c R f p v (s r) g q k ∙ ap (λ b. cond b v (kept_at c (s r) g q)) (together (R == s r) (f == g) (p == q)))
            (a r g q (subst (λ n. q < n) (length_kept c R f p v (s r) g k) l))

        -- where nothing is kept, the place isn't shown
        other : (b : Bool) → ((R == s r) && ((f == g) && (p == q))) ≡ b → length (column_of c R f) ≤ p → q < length (column_of c (s r) g) →
            m (at (s r) g q) ≡ cond b v (m (at (s r) g q))
        other true e k l =
            let same = and_parts (R == s r) ((f == g) && (p == q)) e in
            let below = and_parts (f == g) (p == q) same.1 in
            let columns : length (column_of c R f) ≡ length (column_of c (s r) g) =
            λ i. length (column_of c (eqb-true R (s r) same.0 i) (eqb-true f g below.0 i)) in
            absurd (omega (arith, k, l, eqb-true p q below.1, columns))
        other false e k l = refl

        beyond : length (column_of c R f) ≤ p → AgreesAt (keep c R f p v) (λ l. cond (G.same (at R f p) l) v (m l)) r g q
        beyond k =
            let image = kept_beyond c R f p v (s r) k in
            let shown : q < length (column_of c (s r) g) = subst (λ (i : RootImage). q < length (get_or i.fields g [])) image l in
            let number = ap (λ (i : RootImage). get_or (get_or i.fields g []) q (pos 0)) image in
            let h = a r g q shown in (
              number ∙ h.0 ∙ other ((R == s r) && ((f == g) && (p == q))) refl k shown,
              subst (FitsWidth (width_of (kind_of (spaces_of code) (s r) g))) (sym number) h.1,
            )

    -- a map that is the same where the roots are
    on_map : (c : Contents) (m u : Map G) → Agrees c m → ((r f p : ℕ) → p < length (column_of c (s r) f) → m (at (s r) f p) ≡ u (at (s r) f p)) → Agrees c u
    on_map c m u a e r f p l = ((a r f p l).0 ∙ e r f p l, (a r f p l).1)

    fold_is : (c : Contents) (m : Map G) (o : _) (R f p : ℕ) (z : ℤ) → Agrees c m → FitsWidth (width_of (kind_of (spaces_of code) R f)) z →
        (r g q : ℕ) → q < length (column_of c (s r) g) →
        cond ((R == s r) && ((f == g) && (p == q))) (applied o (width_of (kind_of (spaces_of code) R f)) (kept_at c R f p) z) (m (at (s r) g q))
        ≡ cond ((R == s r) && ((f == g) && (p == q))) (folded o (width_of (kind_of (spaces_of code) R f)) (m (at (s r) g q)) z) (m (at (s r) g q))
    fold_is c m o R f p z a fit r g q l = chosen ((R == s r) && ((f == g) && (p == q))) refl
      where
        chosen : (b : Bool) → ((R == s r) && ((f == g) && (p == q))) ≡ b →
            cond b (applied o (width_of (kind_of (spaces_of code) R f)) (kept_at c R f p) z) (m (at (s r) g q))
            ≡ cond b (folded o (width_of (kind_of (spaces_of code) R f)) (m (at (s r) g q)) z) (m (at (s r) g q))
        chosen true e =
            let same = and_parts (R == s r) ((f == g) && (p == q)) e in
            let below = and_parts (f == g) (p == q) same.1 in
            let h = a r g q l in
            let root = eqb-true R (s r) same.0 in
            let field = eqb-true f g below.0 in
            let kept : kept_at c R f p ≡ m (at (s r) g q) = (λ i. kept_at c (root i) (field i) (eqb-true p q below.1 i)) ∙ h.0 in
            ap (λ y. applied o (width_of (kind_of (spaces_of code) R f)) y z) kept
            ∙ sym (folds_are_applied o (width_of (kind_of (spaces_of code) R f)) (m (at (s r) g q)) z
            (subst (λ k. FitsWidth (width_of k) (m (at (s r) g q))) (λ i. kind_of (spaces_of code) (sym root i) (sym field i))
            (subst (FitsWidth (width_of (kind_of (spaces_of code) (s r) g))) h.0 h.1)) fit)
        chosen false e = refl

    module _ (K : Machine G) where
      given_back : (ps : List (Element G)) → AreAsHeld ps → PartsFit (parts_in code ps) → (c : Contents) (m : Map G) → Agrees c m →
          Agrees (give_parts (parts_in code ps) c) (run_all G (puts G K ps) m)
      given_back [] held fit c m a = a
      given_back (x ∷ ps) held fit c m a =
          let l = x.location in
          let both = onto_fits l.root l.field (mode_in code x.mode) l.point x.number (parts_in code ps) (are_kinds ps) fit in
          subst (λ d. Agrees d (run_all G (puts G K (x ∷ ps)) m))
          (sym (onto_given l.root l.field (mode_in code x.mode) l.point x.number (parts_in code ps) c (are_kinds ps)))
          (subst (λ k. Agrees (give_parts (parts_in code ps) (give_back (kind_of (spaces_of code) l.root l.field) (mode_in code x.mode) l.root l.field l.point x.number c))
          (run_all G (back_with G K k l x.number (puts G K ps)) m)) (sym held.0)
          (by_mode (mode_in code x.mode) both.0 (λ d u h. given_back ps held.1 both.1 d u h)))
        where
          by_mode : (md : Mode) → FitsWidth (width_of (kind_of (spaces_of code) x.location.root x.location.field)) x.number →
              ((d : Contents) (u : Map G) → Agrees d u → Agrees (give_parts (parts_in code ps) d) (run_all G (puts G K ps) u)) →
              Agrees (give_parts (parts_in code ps) (give_back (kind_of (spaces_of code) x.location.root x.location.field) md x.location.root x.location.field x.location.point x.number c))
              (run_all G (back_with G K (as_held (spaces_of code) x.location.root x.location.field md) x.location x.number (puts G K ps)) m)
          by_mode mode.Read one more = more c m a
          by_mode mode.Write one more = more (keep c x.location.root x.location.field x.location.point x.number)
              (λ k. cond (G.same x.location k) x.number (m k))
              (kept_one c m x.location.root x.location.field x.location.point x.number a one)
          by_mode (mode.Reduce o) one more =
              let l = x.location in
              let w = width_of (kind_of (spaces_of code) l.root l.field) in
              let v = applied o w (kept_at c l.root l.field l.point) x.number in
              let d = keep c l.root l.field l.point v in
              more d (λ k. cond (G.same l k) (folded o w (m k) x.number) (m k))
              (on_map d (λ k. cond (G.same l k) v (m k)) (λ k. cond (G.same l k) (folded o w (m k) x.number) (m k))
              (kept_one c m l.root l.field l.point v a (closed o w (kept_at c l.root l.field l.point) x.number))
              (λ r f p q. fold_is c m o l.root l.field l.point x.number a one r f p (kept_shown l.root l.field l.point v r f p q)))
            where
              kept_shown : (root field point : ℕ) (v : ℤ) (r f p : ℕ) → p < length (column_of (keep c root field point v) (s r) f) → p < length (column_of c (s r) f)
              kept_shown root field point v r f p q = ⊎_elim
                  (λ k. subst (λ n. p < n) (length_kept c root field point v (s r) f k) q)
                  (λ k. subst (λ (i : RootImage). p < length (get_or i.fields f [])) (kept_beyond c root field point v (s r) k) q)
                  (cases_lt point (length (column_of c root field)))

  -- ---- the roots behind parts that went back

  parts_fit_to : (s : ℕ → ℕ) (qs : List Part) → PartsFit qs → PartsFit (map (part_to (names s)) qs)
  parts_fit_to s [] f = tt
  parts_fit_to s (q ∷ qs) f = (f.0, parts_fit_to s qs f.1)

  pub stands_given : (K : Machine G) (who : ℕ → ℕ) (n : ℕ) (c : Contents) (m : Map G) (s : ℕ → ℕ) → Naming code c who s → Stands code who n c m →
      (ps : List (Element G)) (qs : List Part) → parts_in code ps ≡ map (part_to (names s)) qs → AreAsHeld ps → PartsFit qs →
      Stands code who n (give_parts qs c) (run_all G (puts G K ps) m)
  stands_given K who n c m s names_of st ps qs e held fit =
      let alike = alike_parts qs c in
      let d = give_parts qs c in
      let u = run_all G (puts G K ps) m in
      let one = names_of.one in
      let given : Agrees s (contents_to s one d) u =
      subst (λ x. Agrees s x u) (ap (λ rs. give_parts rs (contents_to s one c)) e ∙ parts_given_to s one qs c)
      (given_back s K ps held (subst PartsFit (sym e) (parts_fit_to s qs fit)) (contents_to s one c) m first) in
      let live : (r : ℕ) → IsLive d r → IsLive c r = λ r l. subst (λ ns. has ns r ≡ true) alike.0 l in
      let shown : (r f p : ℕ) → p < length (column_of d r f) → p < length (column_of c r f) =
      λ r f p l. subst (λ k. p < k) (length_of (image_of d r) (image_of c r) f (alike.2 r)) l in
      let named : (r f p : ℕ) → p < length (column_of d r f) → s r ≡ board_root d who r =
      λ r f p l. names_of.live r (shown_live c r f p (shown r f p l)) ∙ sym (board_root_same c d who r (alike.2 r)) in
      let there : (r f p : ℕ) → p < length (column_of d r f) → p < length (column_of (contents_to s one d) (s r) f) =
      λ r f p l. subst (λ (i : RootImage). p < length (get_or i.fields f [])) (sym (image_to s one d r)) l in record {
        below = λ r l. st.below r (subst (λ k. r < k) alike.1 l);
        rising = λ a b l k. st.rising a b l (subst (λ j. b < j) alike.1 k);
        numbered = subst (λ ns. IsPoints d.made ns) (sym alike.0)
            (subst (λ k. IsPoints k (numbers c)) (sym alike.1) st.numbered);
        shaped = λ r l. subst (IsShaped code) (sym (alike.2 r)) (st.shaped r (live r l));
        same = λ r f p l. sym (kept_to s one d r f p) ∙ (given r f p (there r f p l)).0 ∙ ap (λ R. u (at R f p)) (named r f p l);
        fits = λ r f p l. subst (λ k. FitsWidth (width_of k) (kept_at d r f p))
            (ap (λ R. kind_of (spaces_of code) R f) (names_of.live r (shown_live c r f p (shown r f p l)))
            ∙ shown_kind code who n c m st r f p (shown r f p l)
            ∙ sym (kind_same code c d alike.2 r f))
            (subst (FitsWidth (width_of (kind_of (spaces_of code) (s r) f))) (kept_to s one d r f p) (given r f p (there r f p l)).1);
      }
    where
      first : Agrees s (contents_to s names_of.one c) m
      first r f p l =
          let q : p < length (column_of c r f) = subst (λ (i : RootImage). p < length (get_or i.fields f [])) (image_to s names_of.one c r) l in
          let root = names_of.live r (shown_live c r f p q) in (
            kept_to s names_of.one c r f p ∙ st.same r f p q ∙ ap (λ R. m (at R f p)) (sym root),
            subst (FitsWidth (width_of (kind_of (spaces_of code) (s r) f))) (sym (kept_to s names_of.one c r f p))
                (subst (λ k. FitsWidth (width_of k) (kept_at c r f p))
                (sym (ap (λ R. kind_of (spaces_of code) R f) root ∙ shown_kind code who n c m st r f p q)) (st.fits r f p q)),
          )
