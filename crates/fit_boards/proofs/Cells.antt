-- Pieces that the claims ask for have a cell where the field is claimed, in the mode to which the claims join.
use Rattle.std.proofs.Common.{◌≡◌, ◌⊎◌, inl, inr, ⊎_elim, ℕ, ℤ, List, [], ◌∷◌, Bool, true, false, cond, Option, Some, None, refl, sym, ap, ◌∙◌, subst, arith, length, map}
use Rattle.std.specs.Prelude.{◌==◌}
use Rattle.std.proofs.lemmas.Bool.{eqb-false, false≢true}
use Rattle.lane_kernels.specs.declared.numbers.FieldKind.{FieldKind}
use Rattle.lane_kernels.specs.declared.numbers.Mode.{Mode}
use Rattle.lane_kernels.specs.declared.numbers.Mode.TheVariants as mode
use Rattle.lane_kernels.specs.declared.numbers.Op.TheVariants.{Sum, Product, Least, Greatest}
use Rattle.plain_values.specs.Points.{has}
use Rattle.point_sets.proofs.Rising.{has_other}
use Rattle.region_tree.proofs.Dividing.{has-points_joined}
use Rattle.region_tree.proofs.Joins.{same_mode-tells}
use Rattle.region_tree.specs.Pieces.{Held}
use Rattle.region_tree.specs.Requirements.{Requirement, all_modes, is_mode, mode_at, part_of_mode, parts_of_modes, points_joined}
use Rattle.machine_terms.specs.Parts.{Cell, cell_at, cell_of, value_beside}
use Rattle.fit_rules.specs.Shapes.{Among, Each, Shape}
use Rattle.fit_rules.specs.Fits.{CellFits, CellNumber}
use Rattle.fit_boards.specs.Fitting.{held_as, PieceFits}
use Rattle.fit_boards.proofs.Putting.{value_none}

-- a point of a piece has a number
value_there : (P : ℤ → Type 0) (xs : List ℕ) (zs : List ℤ) (p : ℕ) → length zs ≡ length xs → Each P zs → has xs p ≡ true → (z : ℤ) × (value_beside xs zs p ≡ Some z) × P z
value_there P [] zs p l h e = absurd (false≢true e)
value_there P (x ∷ xs) [] p l h e = absurd (omega (arith, l))
value_there P (x ∷ xs) (z ∷ zs) p l h e = of (x == p) refl (λ i. value_there P xs zs p (omega (arith, l)) h.1 i)
  where
    of : (b : Bool) → x == p ≡ b → (has xs p ≡ true → (y : ℤ) × (value_beside xs zs p ≡ Some y) × P y) → (y : ℤ) × (cond b (Some z) (value_beside xs zs p) ≡ Some y) × P y
    of true q more = (z, refl, h.0)
    of false q more = more (sym (has_other p x xs (λ i. eqb-false x p q (sym i))) ∙ e)

module _ (k : FieldKind) (s : Shape) (rs : List Requirement) (root f p : ℕ) where
  abbrev here : Option Mode
  here = mode_at rs root f p

  -- none of some modes is that of the claims and no cell is there, or one is
  abbrev IsSeen : List Mode → Option Cell → Type 0
  IsSeen ms o = (((m : Mode) → Among ms m → is_mode m here ≡ false) × (o ≡ None))
      ⊎ ((c : Cell) × (here ≡ Some c.mode) × (o ≡ Some c) × CellNumber k s c.mode c.value)

  not_first : (m : Mode) (ms : List Mode) (o : Option Cell) → is_mode m here ≡ false → IsSeen ms o → IsSeen (m ∷ ms) o
  not_first m ms o e (inl h) = inl (λ n i. ⊎_elim (λ q. subst (λ y. is_mode y here ≡ false) q e) (h.0 n) i, h.1)
  not_first m ms o e (inr h) = inr h

  is_told : (m : Mode) (o : Option Mode) → is_mode m o ≡ true → o ≡ Some m
  is_told m None e = absurd (false≢true e)
  is_told m (Some n) e = ap Some (sym (same_mode-tells m n e))

  seen : (ms : List Mode) (hs : List Held) → map held_as hs ≡ parts_of_modes rs root f ms → Each (PieceFits k s) hs → IsSeen ms (cell_at hs p)
  seen [] [] e h = inl (λ m a. absurd a, refl)
  seen [] (x ∷ hs) e h = absurd cc
  seen (m ∷ ms) hs e h = of (points_joined rs root f m) refl e (λ us d a. seen ms us d a)
    where
      Behind : Type 0
      Behind = (us : List Held) → map held_as us ≡ parts_of_modes rs root f ms → Each (PieceFits k s) us → IsSeen ms (cell_at us p)

      joined : (xs : List ℕ) → points_joined rs root f m ≡ xs → is_mode m here ≡ has xs p
      joined xs q = sym (has-points_joined rs root f m p) ∙ ap (λ ys. has ys p) q

      head : (h : Held) (behind : List Held) → PieceFits k s h → (b : Bool) → has h.points p ≡ b → is_mode h.mode here ≡ b → IsSeen ms (cell_at behind p) →
          IsSeen (h.mode ∷ ms) (cell_at (h ∷ behind) p)
      head h behind fit true i q more =
          let v = value_there (CellNumber k s h.mode) h.points h.values p fit.0 fit.1 i in
          inr (record { mode = h.mode; value = v.0 }, is_told h.mode here q, ap (λ o. cell_of h.mode o (cell_at behind p)) v.1, v.2)
      head h behind fit false i q more = subst (IsSeen (h.mode ∷ ms)) (sym (ap (λ o. cell_of h.mode o (cell_at behind p)) (value_none h.points h.values p i)))
          (not_first h.mode ms (cell_at behind p) q more)

      some : (xs : List ℕ) (hs : List Held) → Each (PieceFits k s) hs → is_mode m here ≡ has xs p → map held_as hs ≡ (xs, m) ∷ parts_of_modes rs root f ms →
          Behind → IsSeen (m ∷ ms) (cell_at hs p)
      some xs [] h q e more = absurd cc
      some xs (y ∷ behind) h q e more =
          let rest : map held_as behind ≡ parts_of_modes rs root f ms = cc in
          let same : held_as y ≡ (xs, m) = cc in
          let points : y.points ≡ xs = ap (λ (q : List ℕ × Mode). q.0) same in
          let mode_is : y.mode ≡ m = ap (λ (q : List ℕ × Mode). q.1) same in
          subst (λ n. IsSeen (n ∷ ms) (cell_at (y ∷ behind) p)) mode_is
          (head y behind h.0 (has y.points p) refl (ap (λ n. is_mode n here) mode_is ∙ q ∙ ap (λ ys. has ys p) (sym points)) (more behind rest h.1))

      of : (xs : List ℕ) → points_joined rs root f m ≡ xs → map held_as hs ≡ part_of_mode xs m (parts_of_modes rs root f ms) →
          Behind → IsSeen (m ∷ ms) (cell_at hs p)
      of [] q e more = not_first m ms (cell_at hs p) (joined [] q) (more hs e h)
      of (x ∷ xs) q e more = some (x ∷ xs) hs h (joined (x ∷ xs) q) e more

  -- each mode is among all
  none_of_all : (o : Option Mode) → ((m : Mode) → Among all_modes m → is_mode m o ≡ false) → o ≡ None
  none_of_all None h = refl
  none_of_all (Some mode.Read) h = absurd (false≢true (sym (h mode.Read (inl refl))))
  none_of_all (Some mode.Write) h = absurd (false≢true (sym (h mode.Write (inr (inl refl)))))
  none_of_all (Some (mode.Reduce Sum)) h = absurd (false≢true (sym (h (mode.Reduce Sum) (inr (inr (inl refl))))))
  none_of_all (Some (mode.Reduce Product)) h = absurd (false≢true (sym (h (mode.Reduce Product) (inr (inr (inr (inl refl)))))))
  none_of_all (Some (mode.Reduce Least)) h = absurd (false≢true (sym (h (mode.Reduce Least) (inr (inr (inr (inr (inl refl))))))))
  none_of_all (Some (mode.Reduce Greatest)) h = absurd (false≢true (sym (h (mode.Reduce Greatest) (inr (inr (inr (inr (inr (inl refl)))))))))

  pub cell_fits : (hs : List Held) → map held_as hs ≡ parts_of_modes rs root f all_modes → Each (PieceFits k s) hs → CellFits k s (cell_at hs p) here
  cell_fits hs e h = of (seen all_modes hs e h)
    where
      of : IsSeen all_modes (cell_at hs p) → CellFits k s (cell_at hs p) here
      of (inl q) = subst (λ o. CellFits k s o here) (sym q.1) (subst (CellFits k s None) (sym (none_of_all here q.0)) tt)
      of (inr q) = subst (λ o. CellFits k s o here) (sym q.2) (subst (CellFits k s (Some q.0)) (sym q.1) (refl, q.3))
