-- A part that the run in order fetches has a cell where the field is claimed, in the mode to which the claims join, with
-- the number that is kept, or with the identity of a reduction.
use Rattle.std.proofs.lemmas.Int.{ints}
use Rattle.std.proofs.Common.{◌≡◌, ◌⊎◌, inl, inr, ⊎_elim, ℕ, ℤ, List, [], ◌∷◌, map, Bool, true, false, cond, Option, Some, None, refl, sym, ap, ◌∙◌, subst, arith}
use Rattle.std.specs.Prelude.{length, replicate, get_or, ◌==◌}
use Rattle.std.proofs.lemmas.Bool.{eqb-false, eqb-true, false≢true}
use Rattle.lane_kernels.proofs.Operators.{commutative, identity}
use Rattle.lane_kernels.specs.declared.numbers.FieldKind.{FieldKind}
use Rattle.lane_kernels.specs.declared.numbers.FieldKind.TheVariants as kind
use Rattle.lane_kernels.specs.declared.numbers.Mode.{Mode}
use Rattle.lane_kernels.specs.declared.numbers.Mode.TheVariants as mode
use Rattle.lane_kernels.specs.declared.numbers.Op.TheVariants.{Sum, Product, Least, Greatest}
use Rattle.lane_kernels.specs.Numbers.{FitsWidth, identity_of, width_of}
use Rattle.plain_values.specs.Points.{has}
use Rattle.point_sets.proofs.Rising.{has_head, has_other}
use Rattle.region_tree.proofs.Dividing.{has-points_joined}
use Rattle.region_tree.proofs.Joins.{same_mode-tells}
use Rattle.region_tree.specs.Pieces.{Held}
use Rattle.region_tree.specs.Requirements.{Requirement, all_modes, is_mode, mode_at, part_of_mode, parts_of_modes, points_joined}
use Rattle.machine_terms.specs.declared.order.Contents.{Contents}
use Rattle.machine_terms.specs.Contents.{kept_at, kind_of, kinds_of}
use Rattle.machine_terms.specs.Copies.{piece_of}
use Rattle.machine_terms.specs.Parts.{Cell, cell_at, cell_of, value_beside}
use Rattle.fit_rules.specs.Shapes.{Among, NumberIs, Shape}
use Rattle.fit_rules.specs.Fits.{CellFits, claims, kind_at, shape_at, Folds, kept_as}
use Rattle.fit_laws.specs.Makes.{PartsAreFetched}

-- ---- numbers beside points

module _ (P : ℕ → ℤ → Type 0) where
  abbrev AreBeside : List ℕ → List ℤ → Type 0
  AreBeside [] [] = Unit {0}
  AreBeside (x ∷ xs) (z ∷ zs) = P x z × AreBeside xs zs
  AreBeside _ _ = ⊥

  abbrev IsBeside : Bool → Option ℤ → ℕ → Type 0
  IsBeside true o p = (z : ℤ) × (o ≡ Some z) × P p z
  IsBeside false o p = o ≡ None

  beside : (xs : List ℕ) (zs : List ℤ) (p : ℕ) → AreBeside xs zs → IsBeside (has xs p) (value_beside xs zs p) p
  beside [] [] p h = refl
  beside [] (z ∷ zs) p h = absurd h
  beside (x ∷ xs) [] p h = absurd h
  beside (x ∷ xs) (z ∷ zs) p h = of (x == p) refl (beside xs zs p h.1)
    where
      of : (b : Bool) → (x == p) ≡ b → IsBeside (has xs p) (value_beside xs zs p) p →
          IsBeside (has (x ∷ xs) p) (cond b (Some z) (value_beside xs zs p)) p
      of true e more = subst (λ c. IsBeside c (Some z) p) (sym (subst (λ k. has (x ∷ xs) k ≡ true) (eqb-true x p e) (has_head x xs)))
          (z, refl, subst (λ k. P k z) (eqb-true x p e) h.0)
      of false e more = subst (λ c. IsBeside c (value_beside xs zs p) p) (sym (has_other p x xs (λ q. eqb-false x p e (sym q)))) more

beside_map : (f : ℕ → ℤ) (xs : List ℕ) → AreBeside (λ p z. z ≡ f p) xs (map f xs)
beside_map f [] = tt
beside_map f (x ∷ xs) = (refl, beside_map f xs)

beside_same : (y : ℤ) (xs : List ℕ) → AreBeside (λ p z. z ≡ y) xs (replicate (length xs) y)
beside_same y [] = tt
beside_same y (x ∷ xs) = (refl, beside_same y xs)

-- ---- modes

mode_tells : (m : Mode) (o : Option Mode) → is_mode m o ≡ true → o ≡ Some m
mode_tells m None e = absurd (false≢true e)
mode_tells m (Some n) e = ap Some (sym (same_mode-tells m n e))

-- each mode is among all
none_of_all : (o : Option Mode) → ((m : Mode) → Among all_modes m → is_mode m o ≡ false) → o ≡ None
none_of_all None h = refl
none_of_all (Some mode.Read) h = absurd (false≢true (sym (h mode.Read (inl refl))))
none_of_all (Some mode.Write) h = absurd (false≢true (sym (h mode.Write (inr (inl refl)))))
none_of_all (Some (mode.Reduce Sum)) h = absurd (false≢true (sym (h (mode.Reduce Sum) (inr (inr (inl refl))))))
none_of_all (Some (mode.Reduce Product)) h = absurd (false≢true (sym (h (mode.Reduce Product) (inr (inr (inr (inl refl)))))))
none_of_all (Some (mode.Reduce Least)) h = absurd (false≢true (sym (h (mode.Reduce Least) (inr (inr (inr (inr (inl refl))))))))
none_of_all (Some (mode.Reduce Greatest)) h = absurd (false≢true (sym (h (mode.Reduce Greatest) (inr (inr (inr (inr (inr (inl refl)))))))))

-- ---- cells

module _ (of_field : FieldKind) (c : Contents) (root f : ℕ) where
  -- the number that is fetched at a point
  abbrev pub IsFetched : Mode → ℕ → ℤ → Type 0
  IsFetched (mode.Reduce o) p z = z ≡ identity_of o (width_of of_field)
  IsFetched m p z = z ≡ kept_at c root f p

  abbrev HeadIs : Mode → Bool → Option Cell → Option Cell → ℕ → Type 0
  HeadIs m true k rest p = (z : ℤ) × (k ≡ Some (record { mode = m; value = z })) × IsFetched m p z
  HeadIs m false k rest p = k ≡ rest

  of_value : (m : Mode) (b : Bool) (o : Option ℤ) (rest : Option Cell) (p : ℕ) → IsBeside (IsFetched m) b o p →
      HeadIs m b (cell_of m o rest) rest p
  of_value m true o rest p h = (h.0, ap (λ y. cell_of m y rest) h.1, h.2)
  of_value m false o rest p h = ap (λ y. cell_of m y rest) h

  head_cell : (m : Mode) (xs : List ℕ) (hs : List Held) (p : ℕ) →
      HeadIs m (has xs p) (cell_at (piece_of of_field c root f m xs ∷ hs) p) (cell_at hs p) p
  head_cell mode.Read xs hs p = of_value mode.Read (has xs p) _ (cell_at hs p) p
      (beside (IsFetched mode.Read) xs (map (kept_at c root f) xs) p (beside_map (kept_at c root f) xs))
  head_cell mode.Write xs hs p = of_value mode.Write (has xs p) _ (cell_at hs p) p
      (beside (IsFetched mode.Write) xs (map (kept_at c root f) xs) p (beside_map (kept_at c root f) xs))
  head_cell (mode.Reduce o) xs hs p = of_value (mode.Reduce o) (has xs p) _ (cell_at hs p) p
      (beside (IsFetched (mode.Reduce o)) xs (replicate (length xs) (identity_of o (width_of of_field))) p
      (beside_same (identity_of o (width_of of_field)) xs))

  abbrev pub pieces : List (List ℕ × Mode) → List Held
  pieces qs = map (λ (q : List ℕ × Mode). piece_of of_field c root f q.1 q.0) qs

  module _ (rs : List Requirement) (p : ℕ) where
    abbrev pub here : Option Mode
    here = mode_at rs root f p

    -- none of some modes is that of the claims and no cell is there, or one is
    abbrev pub IsSeen : List Mode → Option Cell → Type 0
    IsSeen ms k = (((m : Mode) → Among ms m → is_mode m here ≡ false) × (k ≡ None))
        ⊎ ((m : Mode) × (z : ℤ) × (here ≡ Some m) × (k ≡ Some (record { mode = m; value = z })) × IsFetched m p z)

    not_first : (m : Mode) (ms : List Mode) (k : Option Cell) → is_mode m here ≡ false → IsSeen ms k → IsSeen (m ∷ ms) k
    not_first m ms k e (inl h) = inl (λ n i. ⊎_elim (λ q. subst (λ y. is_mode y here ≡ false) q e) (h.0 n) i, h.1)
    not_first m ms k e (inr h) = inr h

    pub seen : (ms : List Mode) → IsSeen ms (cell_at (pieces (parts_of_modes rs root f ms)) p)
    seen [] = inl (λ m h. absurd h, refl)
    seen (m ∷ ms) = of (points_joined rs root f m) refl (seen ms)
      where
        parts : List (List ℕ × Mode)
        parts = parts_of_modes rs root f ms

        by : (b : Bool) (x : ℕ) (xs : List ℕ) → is_mode m here ≡ b →
            HeadIs m b (cell_at (piece_of of_field c root f m (x ∷ xs) ∷ pieces parts) p) (cell_at (pieces parts) p) p →
            IsSeen ms (cell_at (pieces parts) p) → IsSeen (m ∷ ms) (cell_at (piece_of of_field c root f m (x ∷ xs) ∷ pieces parts) p)
        by true x xs e h more = inr (m, h.0, mode_tells m here e, h.1, h.2)
        by false x xs e h more = subst (IsSeen (m ∷ ms)) (sym h) (not_first m ms (cell_at (pieces parts) p) e more)

        of : (xs : List ℕ) → points_joined rs root f m ≡ xs → IsSeen ms (cell_at (pieces parts) p) →
            IsSeen (m ∷ ms) (cell_at (pieces (part_of_mode xs m parts)) p)
        of [] e more = not_first m ms (cell_at (pieces parts) p)
            (sym (has-points_joined rs root f m p) ∙ ap (λ ys. has ys p) e) more
        of (x ∷ xs) e more =
            let same : is_mode m here ≡ has (x ∷ xs) p = sym (has-points_joined rs root f m p) ∙ ap (λ ys. has ys p) e in
            by (has (x ∷ xs) p) x xs same (head_cell m (x ∷ xs) (pieces parts) p) more

    cell_fits : (s : Shape) → ((y : ℤ) → NumberIs s y → FitsWidth (width_of of_field) y) →
        ((m : Mode) → here ≡ Some m → NumberIs s (kept_at c root f p)) →
        CellFits of_field s (cell_at (pieces (parts_of_modes rs root f all_modes)) p) here
    cell_fits s narrow fits = of (seen all_modes)
      where
        number : (m : Mode) (z : ℤ) → here ≡ Some m → IsFetched m p z → CellFits of_field s (Some (record { mode = m; value = z })) (Some m)
        number mode.Read z e h = (refl, subst (NumberIs s) (sym h) (fits mode.Read e))
        number mode.Write z e h = (refl, subst (NumberIs s) (sym h) (fits mode.Write e))
        number (mode.Reduce o) z e h = (
          refl,
          subst (Folds of_field s o) (sym h) (
            (identity o (width_of of_field)).0,
            λ y i. subst (NumberIs s) (sym (commutative o (width_of of_field) y (identity_of o (width_of of_field)) (narrow y i) (identity o (width_of of_field)).0
                ∙ (identity o (width_of of_field)).1 y (narrow y i))) i,
          ),
        )

        of : IsSeen all_modes (cell_at (pieces (parts_of_modes rs root f all_modes)) p) →
            CellFits of_field s (cell_at (pieces (parts_of_modes rs root f all_modes)) p) here
        of (inl h) = subst (λ k. CellFits of_field s k here) (sym h.1)
            (subst (CellFits of_field s None) (sym (none_of_all here h.0)) tt)
        of (inr h) = subst (λ k. CellFits of_field s k here) (sym h.3)
            (subst (CellFits of_field s (Some (record { mode = h.0; value = h.1 }))) (sym h.2) (number h.0 h.1 h.2 h.4))

-- what a field of a kind keeps fits its width
pub kept_narrow : (k : FieldKind) (n : ℕ) (y : ℤ) → NumberIs (kept_as k n) y → FitsWidth (width_of k) y
kept_narrow kind.Int32 n y h = h
kept_narrow kind.Int64 n y h = h
kept_narrow kind.Truth n y (inl e) = omega (arith, ints, e)
kept_narrow kind.Truth n y (inr e) = omega (arith, ints, e)
kept_narrow kind.Index n y h = h
kept_narrow kind.Pointer n y h = h.0

pub parts_are_fetched : PartsAreFetched
parts_are_fetched g x t contents root f agrees there fits =
    let same : kind_of g.code contents root f ≡ kind_at g (x.spaces root) f =
    ap (λ s. get_or (kinds_of g.code s) f kind.Truth) (agrees root there) in record {
      there = there;
      kind = same;
      cells = λ p. subst (λ k. CellFits k (shape_at g (x.spaces root) f)
          (cell_at (pieces (kind_of g.code contents root f) contents root f (parts_of_modes (claims g x t) root f all_modes)) p) (mode_at (claims g x t) root f p)) same
          (cell_fits (kind_of g.code contents root f) contents root f (claims g x t) p (shape_at g (x.spaces root) f)
          (λ y i. subst (λ k. FitsWidth (width_of k) y) (sym same) (kept_narrow (kind_at g (x.spaces root) f) (g.positions (x.spaces root) f) y i)) (fits p));
    }
