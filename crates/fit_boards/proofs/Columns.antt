-- What the roots hold fits again where a field changes so that it fits, and where roots come and go.
use Rattle.std.proofs.Common.{◌≡◌, ◌⊎◌, inl, inr, ⊎_elim, ℕ, zero, suc, ℤ, pos, ◌<◌, ◌+◌, List, [], ◌∷◌, ◌++◌, Bool, true, false, cond, not, Some, refl, sym, ap, ◌∙◌, subst, arith, length, map}
use Rattle.std.specs.Prelude.{get_or, replicate, ◌==◌}
use Rattle.std.proofs.lemmas.Bool.{cases_eq, eqb-true}
use Rattle.std.proofs.lemmas.Int.{ints}
use Rattle.std.proofs.lemmas.List.{get_or-map, get_or_append_left, get_or-append-add, length-append, length-map}
use Rattle.lane_kernels.specs.declared.numbers.FieldKind.{FieldKind}
use Rattle.lane_kernels.specs.declared.numbers.FieldKind.TheVariants as kind
use Rattle.plain_values.specs.Points.{points}
use Rattle.region_tree.specs.declared.tree.RootId.{RootId}
use Rattle.logical_map.specs.Maps.{Column, LogicalMap, LiveRoot, closed, column_of, columns_of, is_root, new_column, no_column, number_beside, number_in_column, number_or_zero, on_column, on_field, opened, zero_of}
use Rattle.logical_map.proofs.Beside.{beside_more, beside_no_number}
use Rattle.logical_map.proofs.Deciding.{closed_keeps_others}
use Rattle.logical_map.proofs.Reading.{root_found, root_other}
use Rattle.machine_terms.specs.Contents.{kinds_of}
use Rattle.board_terms.specs.declared.extent.Extent.{Extent}
use Rattle.board_terms.specs.Closings.{closed_all}
use Rattle.board_terms.specs.States.{no_extent}
use Rattle.fit_rules.specs.Shapes.{Each, NumberIs}
use Rattle.fit_rules.specs.Fits.{kept_as, kind_at, Program, shape_at}
use Rattle.fit_boards.specs.Fitting.{ColumnFits, MapFits, points_at, space_at}
use Rattle.fit_boards.proofs.Staying.{RootsStay}

-- ---- numbers of a column

pub zero_is : (k : FieldKind) (n : ℕ) → NumberIs (kept_as k n) (pos 0)
zero_is kind.Int32 n = omega (arith, ints)
zero_is kind.Int64 n = omega (arith, ints)
zero_is kind.Truth n = inl refl
zero_is kind.Index n = omega (arith, ints)
zero_is kind.Pointer n = (omega (arith, ints), omega arith)

first_is : (k : FieldKind) (n : ℕ) → NumberIs (kept_as k n) (zero_of k)
first_is kind.Int32 n = omega (arith, ints)
first_is kind.Int64 n = omega (arith, ints)
first_is kind.Truth n = inl refl
first_is kind.Index n = omega (arith, ints)
first_is kind.Pointer n = (omega (arith, ints), omega arith)

pub each_same : {A : Type 0} (P : A → Type 0) (n : ℕ) (a : A) → P a → Each P (replicate n a)
each_same P zero a h = tt
each_same P (suc n) a h = (h, each_same P n a h)

-- what is so of each number, and of 0, is so of the number at a point
module _ (P : ℤ → Type 0) (none : P (pos 0)) where
  beside_is : (ps : List ℕ) (zs : List ℤ) (p : ℕ) → Each P zs → P (number_or_zero (number_beside ps zs p))
  beside_is [] zs p h = none
  beside_is (q ∷ ps) [] p h = subst (λ o. P (number_or_zero o)) (sym (beside_no_number (q ∷ ps) p)) none
  beside_is (q ∷ ps) (z ∷ zs) p h = subst (λ o. P (number_or_zero o)) (sym (beside_more q p ps z zs)) (of (q == p) (beside_is ps zs p h.1))
    where
      of : (b : Bool) → P (number_or_zero (number_beside ps zs p)) → P (number_or_zero (cond b (Some z) (number_beside ps zs p)))
      of true more = h.0
      of false more = more

pub number_fits : (g : Program) (sp f : ℕ) (c : Column) → ColumnFits g sp f c → (p : ℕ) → NumberIs (shape_at g sp f) (number_in_column c p)
number_fits g sp f c h p = beside_is (NumberIs (shape_at g sp f)) (zero_is (kind_at g sp f) (g.positions sp f)) c.points c.numbers p h.numbers

-- ---- a field that changes

on_fits : (P : ℕ → Column → Type 0) (k : ℕ) (F : Column → Column) (cs : List Column) → ((c : Column) → P k c → P k (F c)) →
    ((j : ℕ) → j < length cs → P j (get_or cs j no_column)) → (j : ℕ) → j < length (on_field k F cs) → P j (get_or (on_field k F cs) j no_column)
on_fits P k F [] h a j l = absurd (omega (arith, l))
on_fits P zero F (c ∷ cs) h a zero l = h c (a 0 (omega arith))
on_fits P zero F (c ∷ cs) h a (suc j) l = a (suc j) l
on_fits P (suc k) F (c ∷ cs) h a zero l = a 0 (omega arith)
on_fits P (suc k) F (c ∷ cs) h a (suc j) l = on_fits (λ n. P (suc n)) k F cs h (λ i m. a (suc i) (omega (arith, m))) j (omega (arith, l))

module _ (g : Program) (extents : List Extent) where
  -- the columns of a root fit
  abbrev pub RootFits : ℕ → List Column → Type 0
  RootFits r cs = (f : ℕ) → f < length cs → (r < length extents) × ColumnFits g (space_at extents r) f (get_or cs f no_column)

  pub column_fits : (root field : ℕ) (F : Column → Column) → ((c : Column) → ColumnFits g (space_at extents root) field c → ColumnFits g (space_at extents root) field (F c)) →
      (m : LogicalMap) → MapFits g extents m → MapFits g extents (on_column root field F m)
  column_fits root field F h m fits r = ⊎_elim
      (λ e. subst (λ n. RootFits n (columns_of (on_column root field F m) n)) (sym e) here)
      (λ n. subst (RootFits r) (sym (root_other m root r (on_field field F) n)) (fits r))
      (cases_eq r root)
    where
      here : RootFits root (columns_of (on_column root field F m) root)
      here = subst (RootFits root) (sym (root_found m root (on_field field F) refl))
          (on_fits (λ f c. (root < length extents) × ColumnFits g (space_at extents root) f c) field F (columns_of m root) (λ c a. (a.0, h c a.1)) (fits root))

  -- ---- roots that go

  gone : (root : ℕ) (m : LogicalMap) → columns_of (closed root m) root ≡ []
  gone root [] = refl
  gone root (r ∷ rs) = by_case (r.root == root) (gone root rs) refl
    where
      by_case : (b : Bool) → columns_of (closed root rs) root ≡ [] → (r.root == root) ≡ b →
          columns_of (cond (not b) (r ∷ closed root rs) (closed root rs)) root ≡ []
      by_case true rest e = rest
      by_case false rest e = ap (λ b. cond b r.columns (columns_of (closed root rs) root)) e ∙ rest

  one_closed : (root : ℕ) (m : LogicalMap) → MapFits g extents m → MapFits g extents (closed root m)
  one_closed root m fits r = ⊎_elim
      (λ e. subst (RootFits r) (sym (ap (columns_of (closed root m)) e ∙ gone root m)) (λ f l. absurd (omega (arith, l))))
      (λ n. subst (RootFits r) (sym (closed_keeps_others root m r n)) (fits r))
      (cases_eq r root)

  pub all_closed : (rs : List RootId) (m : LogicalMap) → MapFits g extents m → MapFits g extents (closed_all rs m)
  all_closed [] m fits = fits
  all_closed (r ∷ rs) m fits = all_closed rs (closed r.0 m) (one_closed r.0 m fits)

-- ---- a root that comes

-- the columns of a root are those that it had, or it is new and had none
abbrev Grown : LiveRoot → ℕ → List Column → List Column → Type 0
Grown n r before after = (after ≡ before) ⊎ ((n.root ≡ r) × (before ≡ []) × (after ≡ n.columns))

columns_more : (m : LogicalMap) (n : LiveRoot) (r : ℕ) → Grown n r (columns_of m r) (columns_of (m ++ n ∷ []) r)
columns_more [] n r = of (is_root r n) refl
  where
    of : (b : Bool) → is_root r n ≡ b → Grown n r [] (columns_of (n ∷ []) r)
    of true e = inr (eqb-true n.root r e, refl, ap (λ b. cond b n.columns []) e)
    of false e = inl (ap (λ b. cond b n.columns []) e)
columns_more (x ∷ m) n r = of (is_root r x) (columns_more m n r)
  where
    of : (b : Bool) → Grown n r (columns_of m r) (columns_of (m ++ n ∷ []) r) →
        Grown n r (cond b x.columns (columns_of m r)) (cond b x.columns (columns_of (m ++ n ∷ []) r))
    of true more = inl refl
    of false more = more

module _ (g : Program) (extents : List Extent) (more : Extent) where
  abbrev behind : List Extent
  behind = extents ++ more ∷ []

  longer : length behind ≡ suc (length extents)
  longer = let e = length-append extents (more ∷ []) in omega (arith, e)

  old_space : (r : ℕ) → r < length extents → space_at behind r ≡ space_at extents r
  old_space r l = ap (λ (e : Extent). e.space) (get_or_append_left extents (more ∷ []) no_extent r l)

  pub new_space : space_at behind (length extents) ≡ more.space
  new_space =
      let last : length extents ≡ length extents + 0 = omega arith in
      ap (space_at behind) last ∙ ap (λ (e : Extent). e.space) (get_or-append-add extents (more ∷ []) 0 no_extent)

  old_points : (r : ℕ) → r < length extents → points_at behind r ≡ points_at extents r
  old_points r l = ap (λ (e : Extent). points e.count) (get_or_append_left extents (more ∷ []) no_extent r l)

  pub new_points : points_at behind (length extents) ≡ points more.count
  new_points =
      let last : length extents ≡ length extents + 0 = omega arith in
      ap (points_at behind) last ∙ ap (λ (e : Extent). points e.count) (get_or-append-add extents (more ∷ []) 0 no_extent)

  pub extents_stay : RootsStay extents behind
  extents_stay r l = (omega (arith, longer, l), old_space r l, old_points r l)

  pub new_root_there : length extents < length behind
  new_root_there = omega (arith, longer)

  -- the new root's fields hold their zeros
  new_columns : (points : List ℕ) → RootFits g behind (length extents) (map (new_column points) (kinds_of g.code more.space))
  new_columns points f l =
      let kinds = kinds_of g.code more.space in
      let low : f < length kinds = omega (arith, l, length-map kinds (new_column points)) in
      let here = get_or-map (new_column points) kinds f kind.Truth no_column low in (
        omega (arith, longer),
        subst (λ sp. ColumnFits g sp f (get_or (map (new_column points) kinds) f no_column)) (sym new_space)
            (subst (ColumnFits g more.space f) (sym here) (record {
              kind = refl;
              numbers = each_same (NumberIs (shape_at g more.space f)) (length points) (zero_of (kind_at g more.space f)) (first_is (kind_at g more.space f) (g.positions more.space f));
            })),
      )

  pub opened_fits : (points : List ℕ) (m : LogicalMap) → MapFits g extents m → MapFits g behind (opened (length extents) points (kinds_of g.code more.space) m)
  opened_fits points m fits r = of (columns_more m new r)
    where
      new : LiveRoot
      new = record { root = length extents; columns = map (new_column points) (kinds_of g.code more.space) }

      of : Grown new r (columns_of m r) (columns_of (m ++ new ∷ []) r) →
          RootFits g behind r (columns_of (m ++ new ∷ []) r)
      of (inl e) = subst (RootFits g behind r) (sym e) (λ f l.
          let old = fits r f l in (
            omega (arith, longer, old.0),
            subst (λ sp. ColumnFits g sp f (column_of m r f)) (sym (old_space r old.0)) old.1,
          ))
      of (inr e) = subst (RootFits g behind r) (sym e.2) (subst (λ n. RootFits g behind n new.columns) e.0 (new_columns points))
