-- A root more: its number, its name, and what it holds.
use Rattle.std.proofs.Common.{◌≡◌, ◌≢◌, ◌<◌, ◌+◌, ◌==◌, ◌||◌, ◌++◌, ◌∷◌, ◌∙◌, ◌⊎◌, ⊎_elim, inl, inr, ℕ, zero, suc, Bool, List, Some, [], ap, arith, cond, eq-eqb, eqb-true, false, get_or, length, map, refl, replicate, subst, sym, true}
use Rattle.std.specs.Prelude.{All, nat_lt, slice_get}
use Rattle.std.proofs.lemmas.Bool.{cases_eq, cases_lt, false_from_ne_true, false≢true, le-ltb, lt-ltb, or_left, or_parts}
use Rattle.std.proofs.lemmas.List.{get_or_append_left, length-append, length-map, length-replicate}
use Rattle.std.proofs.lemmas.List.Elements.{All-cons, All-nil}
use Rattle.std.proofs.lemmas.List.Folds.{list_any-append}
use Rattle.std.proofs.Math.Seq.{get_or-append_seam}
use Rattle.plain_values.specs.Points.{points}
use Rattle.lane_kernels.specs.Numbers.{FitsWidth, width_of}
use Rattle.lane_kernels.specs.declared.numbers.FieldKind.{FieldKind}
use Rattle.lane_kernels.specs.declared.numbers.FieldKind.TheVariants.{Index, Int32, Int64, Pointer, Truth}
use Rattle.lane_kernels.specs.declared.numbers.Op.TheVariants.{Sum}
use Rattle.lane_kernels.proofs.Operators.{identity}
use Rattle.logical_map.specs.Laws.{IsWhole}
use Rattle.logical_map.specs.Maps.{Column, LogicalMap, columns_of, is_live, is_root, new_column, no_column, number_beside, number_in_column, number_or_zero, opened, zero_of}
use Rattle.logical_map.proofs.Beside.{beside_more, beside_no_number, beside_no_point}
use Rattle.logical_map.proofs.Deciding.{opened_holds_zeros, opened_keeps_others}
use Rattle.task_code.specs.declared.job.Job.{Job}
use Rattle.machine_terms.specs.Contents.{kinds_of}
use Rattle.memory_laws.proofs.Made.{zero_kept}
use Rattle.board_rules.specs.Ground.{Ground}
use Rattle.board_rules.specs.Processes.{Map, run_all}
use Rattle.regent_boards.specs.RegentMachine.{fields_of, regent_ground, root_of, who_of, zeros_of}
use Rattle.regent_boards.specs.RegentMachine as regent
use Rattle.code_boards.specs.Views.{spaces_of}
use Rattle.order_boards.proofs.Making.{has_point, zeros_done, zeros_other}
use Rattle.order_boards.proofs.Stands as order
use Rattle.board_terms.specs.declared.extent.Extent.{Extent}
use Rattle.board_terms.specs.States.{no_extent}
use Rattle.board_trees.specs.Names.{AreMade, name_of}
use Rattle.board_trees.specs.Shows.{HoldsMap}
use Rattle.board_trees.proofs.Named.{root_who}

module _ (extents : List Extent) (who : ℕ → ℕ) (makings : ℕ) (made : AreMade (length extents) who makings) (space size : ℕ) where
  abbrev pub R : ℕ
  R = length extents

  abbrev pub extent : Extent
  extent = record { space = space; count = size }

  abbrev pub more : List Extent
  more = extents ++ extent ∷ []

  abbrev pub now : ℕ → ℕ
  now r = cond (nat_lt r (length extents)) (who r) makings

  pub now_old : (r : ℕ) → r < length extents → now r ≡ who r
  now_old r l = ap (λ b. cond b (who r) makings) (lt-ltb r (length extents) l)

  pub now_new : now R ≡ makings
  now_new = ap (λ b. cond b (who R) makings) (le-ltb R (length extents) (omega arith))

  pub extent_old : (r : ℕ) → r < length extents → get_or more r no_extent ≡ get_or extents r no_extent
  extent_old r l = get_or_append_left extents (extent ∷ []) no_extent r l

  pub extent_new : get_or more R no_extent ≡ extent
  extent_new = get_or-append_seam extents extent [] no_extent

  pub names_old : (r : ℕ) → r < length extents → name_of more now r ≡ name_of extents who r
  names_old r l = λ i. root_of (extent_old r l i).space (extent_old r l i).count (now_old r l i)

  pub name_new : name_of more now R ≡ root_of space size makings
  name_new = λ i. root_of (extent_new i).space (extent_new i).count (now_new i)

  pub length_more : length more ≡ length extents + 1
  length_more = length-append extents (extent ∷ [])

  one_of : (r : ℕ) → r < length more → (r < length extents) ⊎ (r ≡ R)
  one_of r l = ⊎_elim (λ e. inl e) (λ e. inr (omega (arith, l, length_more, e))) (cases_lt r (length extents))

  pub made_more : AreMade (length more) now (makings + 1)
  made_more = record {
    below = λ r l. ⊎_elim (λ e. omega (arith, now_old r e, made.below r e)) (λ e. omega (arith, ap now e, now_new)) (one_of r l);
    rising = λ a b l k. ⊎_elim
        (λ e. omega (arith, now_old a (omega (arith, l, e)), now_old b e, made.rising a b l e))
        (λ e. let old : a < length extents = omega (arith, l, e) in omega (arith, now_old a old, made.below a old, ap now e, now_new)) (one_of b k);
  }

  -- ---- what it holds

  module _ (job : Job) (live : LogicalMap) (m : Map (regent_ground (spaces_of job.code))) (held : (root : ℕ) → is_live live root ≡ true → HoldsMap job live extents who m root) where
    abbrev G : Ground
    G = regent_ground (spaces_of job.code)

    abbrev kinds : List FieldKind
    kinds = kinds_of job.code space

    abbrev pub behind : LogicalMap
    behind = opened R (points size) kinds live

    abbrev pub after : Map G
    after = run_all G (zeros_of (spaces_of job.code) (root_of space size makings) size (fields_of (spaces_of job.code) space)) m

    pub not_live : is_live live R ≡ false
    not_live = false_from_ne_true (is_live live R) (λ e. omega (arith, (held R e).made))

    live_is : (r : ℕ) → is_live behind r ≡ (is_live live r || ((R == r) || false))
    live_is r = list_any-append (is_root r) live (record { root = R; columns = map (new_column (points size)) kinds } ∷ [])

    pub live_stays : (r : ℕ) → is_live live r ≡ true → is_live behind r ≡ true
    live_stays r e = live_is r ∙ or_left (is_live live r) ((R == r) || false) e

    pub live_new : is_live behind R ≡ true
    live_new = live_is R ∙ ap (λ b. is_live live R || (b || false)) (eq-eqb R R refl) ∙ always (is_live live R)
      where
        always : (b : Bool) → (b || true) ≡ true
        always true = refl
        always false = refl

    live_one : (r : ℕ) → is_live behind r ≡ true → (is_live live r ≡ true) ⊎ (r ≡ R)
    live_one r e = by_tests (is_live live r) (R == r) refl refl (sym (live_is r) ∙ e)
      where
        by_tests : (b c : Bool) → is_live live r ≡ b → (R == r) ≡ c → (b || (c || false)) ≡ true → (is_live live r ≡ true) ⊎ (r ≡ R)
        by_tests true c p q h = inl p
        by_tests false true p q h = inr (sym (eqb-true R r q))
        by_tests false false p q h = absurd (false≢true h)

    pub columns_old : (r : ℕ) → r ≢ R → columns_of behind r ≡ columns_of live r
    columns_old r n = opened_keeps_others R (points size) kinds live r n

    columns_last : (roots : LogicalMap) → is_live roots R ≡ false → columns_of (opened R (points size) kinds roots) R ≡ map (new_column (points size)) kinds
    columns_last [] e = ap (λ b. cond b (map (new_column (points size)) kinds) []) (eq-eqb R R refl)
    columns_last (x ∷ xs) e =
        let parts = or_parts (is_root R x) (is_live xs R) e in
        ap (λ b. cond b x.columns (columns_of (opened R (points size) kinds xs) R)) parts.0 ∙ columns_last xs parts.1

    columns_none : (roots : LogicalMap) → is_live roots R ≡ false → columns_of roots R ≡ []
    columns_none [] e = refl
    columns_none (x ∷ xs) e =
        let parts = or_parts (is_root R x) (is_live xs R) e in
        ap (λ b. cond b x.columns (columns_of xs R)) parts.0 ∙ columns_none xs parts.1

    pub columns_new : columns_of behind R ≡ map (new_column (points size)) kinds
    columns_new = columns_last live not_live

    pub fields_new : length (columns_of behind R) ≡ length kinds
    fields_new = ap length columns_new ∙ length-map kinds (new_column (points size))

    pub fields_stay : (r field : ℕ) → field < length (columns_of live r) → field < length (columns_of behind r)
    fields_stay r field l = ⊎_elim
        (λ e. absurd (omega (arith, subst (λ k. field < length (columns_of live k)) e l, ap length (columns_none live not_live))))
        (λ n. subst (λ cs. field < length cs) (sym (columns_old r n)) l) (cases_eq r R)

    -- ---- a root that was there

    old_holds : (r : ℕ) → is_live live r ≡ true → HoldsMap job behind more now after r
    old_holds r e =
        let h = held r e in
        let n : r ≢ R = λ q. omega (arith, h.made, q) in
        let cs = columns_old r n in
        let x = extent_old r h.made in
        let other : root_of space size makings ≢ name_of extents who r = λ q. omega (
          arith,
          made.below r h.made,
          sym (root_who space size makings) ∙ ap who_of q ∙ root_who (get_or extents r no_extent).space (get_or extents r no_extent).count (who r),
        ) in
        record {
          made = omega (arith, h.made, length_more);
          kinds = ap (map (λ (c : Column). c.kind)) cs ∙ h.kinds ∙ ap (λ (y : Extent). kinds_of job.code y.space) (sym x);
          points_are = subst (λ ds. All (λ (c : Column). c.points ≡ points (get_or more r no_extent).count) ds) (sym cs)
              (subst (λ (y : Extent). All (λ (c : Column). c.points ≡ points y.count) (columns_of live r)) (sym x) h.points_are);
          whole = subst (All IsWhole) (sym cs) h.whole;
          numbers = λ f p l k.
              ap (λ (ds : List Column). number_in_column (get_or ds f no_column) p) cs
              ∙ h.numbers f p (subst (λ ds. f < length ds) cs l) (subst (λ (y : Extent). p < y.count) x k)
              ∙ sym (zeros_other job.code (root_of space size makings) size (record { root = name_of extents who r; field = f; point = p }) other (fields_of (spaces_of job.code) space) m)
              ∙ ap (λ q. after (record { root = q; field = f; point = p })) (sym (names_old r h.made));
          fit = λ f p. subst (λ (ds : List Column). FitsWidth (width_of (get_or ds f no_column).kind) (number_in_column (get_or ds f no_column) p)) (sym cs) (h.fit f p);
        }

    -- ---- the new one

    zero_alike : (k : FieldKind) → regent.zero_of (spaces_of job.code) k ≡ zero_of k
    zero_alike Int32 = refl
    zero_alike Int64 = refl
    zero_alike Truth = refl
    zero_alike Index = refl
    zero_alike Pointer = refl

    zero_fits : (k : FieldKind) → FitsWidth (width_of k) (zero_of k)
    zero_fits Int32 = (zero_kept Int32).0
    zero_fits Int64 = (zero_kept Int64).0
    zero_fits Truth = (zero_kept Truth).0
    zero_fits Index = (zero_kept Index).0
    zero_fits Pointer = (zero_kept Pointer).0

    new_kinds : (ks : List FieldKind) → map (λ (c : Column). c.kind) (map (new_column (points size)) ks) ≡ ks
    new_kinds [] = refl
    new_kinds (k ∷ ks) = ap (λ xs. k ∷ xs) (new_kinds ks)

    new_points : (ks : List FieldKind) → All (λ (c : Column). c.points ≡ points size) (map (new_column (points size)) ks)
    new_points [] = All-nil (λ (c : Column). c.points ≡ points size)
    new_points (k ∷ ks) = All-cons (λ (c : Column). c.points ≡ points size) (new_column (points size) k) (map (new_column (points size)) ks) refl (new_points ks)

    new_whole : (ks : List FieldKind) → All IsWhole (map (new_column (points size)) ks)
    new_whole [] = All-nil IsWhole
    new_whole (k ∷ ks) = All-cons IsWhole (new_column (points size) k) (map (new_column (points size)) ks) (length-replicate (length (points size)) (zero_of k)) (new_whole ks)

    kind_there : (ks : List FieldKind) (f : ℕ) → f < length ks → slice_get ks f ≡ Some (get_or ks f Truth)
    kind_there [] f l = absurd (omega (arith, l))
    kind_there (k ∷ ks) zero l = refl
    kind_there (k ∷ ks) (suc f) l = kind_there ks f (omega (arith, l))

    beside_fits : (k : FieldKind) (ps : List ℕ) (n : ℕ) (p : ℕ) → FitsWidth (width_of k) (number_or_zero (number_beside ps (replicate n (zero_of k)) p))
    beside_fits k [] n p = subst (λ o. FitsWidth (width_of k) (number_or_zero o)) (sym (beside_no_point (replicate n (zero_of k)) p)) (identity Sum (width_of k)).0
    beside_fits k (q ∷ ps) zero p = subst (λ o. FitsWidth (width_of k) (number_or_zero o)) (sym (beside_no_number (q ∷ ps) p)) (identity Sum (width_of k)).0
    beside_fits k (q ∷ ps) (suc n) p = subst (λ o. FitsWidth (width_of k) (number_or_zero o)) (sym (beside_more q p ps (zero_of k) (replicate n (zero_of k))))
        (chosen (q == p) (beside_fits k ps n p))
      where
        chosen : (b : Bool) → FitsWidth (width_of k) (number_or_zero (number_beside ps (replicate n (zero_of k)) p)) →
            FitsWidth (width_of k) (number_or_zero (cond b (Some (zero_of k)) (number_beside ps (replicate n (zero_of k)) p)))
        chosen true rest = zero_fits k
        chosen false rest = rest

    new_fits : (ks : List FieldKind) (f p : ℕ) → FitsWidth (width_of (get_or (map (new_column (points size)) ks) f no_column).kind) (number_in_column (get_or (map (new_column (points size)) ks) f no_column) p)
    new_fits [] f p = (identity Sum (width_of Truth)).0
    new_fits (k ∷ ks) zero p = beside_fits k (points size) (length (points size)) p
    new_fits (k ∷ ks) (suc f) p = new_fits ks f p

    new_holds : HoldsMap job behind more now after R
    new_holds = record {
      made = omega (arith, length_more);
      kinds = ap (map (λ (c : Column). c.kind)) columns_new ∙ new_kinds kinds ∙ ap (λ (y : Extent). kinds_of job.code y.space) (sym extent_new);
      points_are = subst (λ ds. All (λ (c : Column). c.points ≡ points (get_or more R no_extent).count) ds) (sym columns_new)
          (subst (λ (y : Extent). All (λ (c : Column). c.points ≡ points y.count) (map (new_column (points size)) kinds)) (sym extent_new) (new_points kinds));
      whole = subst (All IsWhole) (sym columns_new) (new_whole kinds);
      numbers = λ f p l k.
          let field : f < length kinds = subst (λ n. f < n) fields_new l in
          let point : p < size = subst (λ (y : Extent). p < y.count) extent_new k in
          (opened_holds_zeros R (points size) kinds live not_live f (get_or kinds f Truth) (kind_there kinds f field)).1 p (has_point size p point)
          ∙ sym (zero_alike (get_or kinds f Truth))
          ∙ ap (regent.zero_of (spaces_of job.code)) (sym (order.kind_same job.code space size makings f field))
          ∙ sym (zeros_done job.code (root_of space size makings) size f p (fields_of (spaces_of job.code) space) m
          (inr (has_point _ f (subst (λ n. f < n) (ap length (sym (order.kinds_same job.code space))) field), has_point size p point)))
          ∙ ap (λ r. after (record { root = r; field = f; point = p })) (sym name_new);
      fit = λ f p. subst (λ (ds : List Column). FitsWidth (width_of (get_or ds f no_column).kind) (number_in_column (get_or ds f no_column) p)) (sym columns_new) (new_fits kinds f p);
    }

    pub holds_more : (root : ℕ) → is_live behind root ≡ true → HoldsMap job behind more now after root
    holds_more root e = ⊎_elim (λ l. old_holds root l) (λ q. subst (λ r. HoldsMap job behind more now after r) (sym q) new_holds) (live_one root e)
