-- Columns that agree at each point, and roots that come and go.
use Rattle.std.proofs.Common.{◌≡◌, ◌⊎◌, ◌∙◌, ◌<◌, ◌==◌, ◌++◌, ◌||◌, inl, inr, Bool, true, false, cond, eqb, not, List, [], ◌∷◌, ap, arith, get_or, length, map, refl, replicate, Some, slice_get, suc, sym, zero, ℕ, ℤ}
use Rattle.std.specs.List.Sorted.{IsStrictlyIncreasing}
use Rattle.std.proofs.lemmas.Option.{same_Some}
use Rattle.std.proofs.lemmas.Bool.{cases_Bool, eqb-false, eqb-true, false≢true, ne_eqb, true≢false}
use Rattle.lane_kernels.specs.declared.numbers.FieldKind.{FieldKind}
use Rattle.plain_values.specs.Points.{has}
use Rattle.point_sets.proofs.Rising.{absent, has_other, rising_head, rising_tail}
use Rattle.logical_map.proofs.Beside.{beside_more}
use Rattle.logical_map.proofs.Reading.{lacked}
use Rattle.logical_map.specs.Laws.{ClosedIsGone, ClosedKeepsOthers, OpenedHoldsZeros, OpenedKeepsOthers, PointsDecide}
use Rattle.logical_map.specs.Maps.{Column, LiveRoot, LogicalMap, closed, columns_of, is_live, new_column, no_column, number_beside, number_in_column, number_or_zero, zero_of}

eqb-same : (n : ℕ) → eqb n n ≡ true
eqb-same n = by_case (cases_Bool (eqb n n))
  where
    by_case : (eqb n n ≡ true) ⊎ (eqb n n ≡ false) → eqb n n ≡ true
    by_case (inl e) = e
    by_case (inr e) = absurd (eqb-false n n e refl)

abbrev Agree : List ℕ → List ℤ → List ℤ → Type 0
Agree ps zs ys = (p : ℕ) → number_or_zero (number_beside ps zs p) ≡ number_or_zero (number_beside ps ys p)

agree_on : (q : ℕ) (ps : List ℕ) (z y : ℤ) (zs ys : List ℤ) → Agree (q ∷ ps) (z ∷ zs) (y ∷ ys) → (p : ℕ) →
    number_or_zero (cond (q == p) (Some z) (number_beside ps zs p))
    ≡ number_or_zero (cond (q == p) (Some y) (number_beside ps ys p))
agree_on q ps z y zs ys a p =
    sym (ap number_or_zero (beside_more q p ps z zs)) ∙ a p ∙ ap number_or_zero (beside_more q p ps y ys)

first_agrees : (q : ℕ) (ps : List ℕ) (z y : ℤ) (zs ys : List ℤ) → Agree (q ∷ ps) (z ∷ zs) (y ∷ ys) → z ≡ y
first_agrees q ps z y zs ys a =
    sym (ap (λ b. number_or_zero (cond b (Some z) (number_beside ps zs q))) (eqb-same q)) ∙
    agree_on q ps z y zs ys a q ∙
    ap (λ b. number_or_zero (cond b (Some y) (number_beside ps ys q))) (eqb-same q)

others_agree : (q : ℕ) (ps : List ℕ) (z y : ℤ) (zs ys : List ℤ) → has ps q ≡ false →
    Agree (q ∷ ps) (z ∷ zs) (y ∷ ys) → Agree ps zs ys
others_agree q ps z y zs ys out a p = by_case (eqb q p) refl
  where
    by_case : (b : Bool) → eqb q p ≡ b →
        number_or_zero (number_beside ps zs p) ≡ number_or_zero (number_beside ps ys p)
    by_case true e =
        let gone : has ps p ≡ false = ap (λ (x : ℕ). has ps x) (sym (eqb-true q p e)) ∙ out in
        ap number_or_zero (lacked ps zs p gone) ∙ sym (ap number_or_zero (lacked ps ys p gone))
    by_case false e =
        sym (ap (λ b. number_or_zero (cond b (Some z) (number_beside ps zs p))) e) ∙
        agree_on q ps z y zs ys a p ∙
        ap (λ b. number_or_zero (cond b (Some y) (number_beside ps ys p))) e

same_numbers : (ps : List ℕ) (zs ys : List ℤ) → length zs ≡ length ps → length ys ≡ length ps →
    IsStrictlyIncreasing ps → Agree ps zs ys → zs ≡ ys
same_numbers [] [] [] l m r a = refl
same_numbers [] (z ∷ zs) ys l m r a = absurd (omega (arith, l))
same_numbers [] [] (y ∷ ys) l m r a = absurd (omega (arith, m))
same_numbers (q ∷ ps) [] ys l m r a = absurd (omega (arith, l))
same_numbers (q ∷ ps) (z ∷ zs) [] l m r a = absurd (omega (arith, m))
same_numbers (q ∷ ps) (z ∷ zs) (y ∷ ys) l m r a =
    let out : has ps q ≡ false = absent q ps (rising_head q ps r) q (omega arith) in
    ap (λ x. x ∷ zs) (first_agrees q ps z y zs ys a) ∙
    ap (λ xs. y ∷ xs) (same_numbers ps zs ys (omega (arith, l)) (omega (arith, m)) (rising_tail q ps r)
    (others_agree q ps z y zs ys out a))

pub points_decide : PointsDecide
points_decide c d whole full rises points kind same =
    let numbers : c.numbers ≡ d.numbers = same_numbers c.points c.numbers d.numbers whole (full ∙ ap length (sym points)) rises
    (λ p. same p ∙ ap (λ (ps : List ℕ). number_or_zero (number_beside ps d.numbers p)) (sym points)) in
    ap (λ (ps : List ℕ). let x : Column = record c { points = ps } in x) points ∙
    ap (λ (k : FieldKind). let x : Column = record { points = d.points; kind = k; numbers = c.numbers } in x) kind ∙
    ap (λ (zs : List ℤ). let x : Column = record { points = d.points; kind = d.kind; numbers = zs } in x) numbers

-- ---- roots that come

zeros_beside : (ps : List ℕ) (z : ℤ) (p : ℕ) → has ps p ≡ true →
    number_or_zero (number_beside ps (replicate (length ps) z) p) ≡ z
zeros_beside [] z p h = absurd (false≢true h)
zeros_beside (q ∷ ps) z p h = ap number_or_zero (beside_more q p ps z (replicate (length ps) z)) ∙
    by_case (eqb q p) (zeros_beside ps z p) refl
  where
    by_case : (b : Bool) → (has ps p ≡ true → number_or_zero (number_beside ps (replicate (length ps) z) p) ≡ z) →
        eqb q p ≡ b → number_or_zero (cond b (Some z) (number_beside ps (replicate (length ps) z) p)) ≡ z
    by_case true rest e = refl
    by_case false rest e = rest (sym (has_other p q ps (λ i. eqb-false q p e (sym i))) ∙ h)

last_columns : (roots : LogicalMap) (r : LiveRoot) (root : ℕ) → is_live roots root ≡ false → r.root ≡ root →
    columns_of (roots ++ r ∷ []) root ≡ r.columns
last_columns [] r root out e =
    ap (λ (n : ℕ). cond (n == root) r.columns []) e ∙ ap (λ b. cond b r.columns []) (eqb-same root)
last_columns (l ∷ ls) r root out e = by_case (l.root == root) (λ h. last_columns ls r root h e) out
  where
    by_case : (b : Bool) → (is_live ls root ≡ false → columns_of (ls ++ r ∷ []) root ≡ r.columns) → (b || is_live ls root) ≡ false →
        cond b l.columns (columns_of (ls ++ r ∷ []) root) ≡ r.columns
    by_case true rest h = absurd (true≢false h)
    by_case false rest h = rest h

new_is_zero : (points : List ℕ) (kinds : List FieldKind) (field point : ℕ) → field < length kinds → has points point ≡ true →
    number_in_column (get_or (map (new_column points) kinds) field no_column) point
    ≡ zero_of (get_or (map (new_column points) kinds) field no_column).kind
new_is_zero points [] field point l h = absurd (omega (arith, l))
new_is_zero points (k ∷ ks) zero point l h = zeros_beside points (zero_of k) point h
new_is_zero points (k ∷ ks) (suc field) point l h = new_is_zero points ks field point (omega (arith, l)) h

field_kind : (points : List ℕ) (kinds : List FieldKind) (field : ℕ) (kind : FieldKind) → slice_get kinds field ≡ Some kind →
    (field < length kinds) × ((get_or (map (new_column points) kinds) field no_column).kind ≡ kind)
field_kind points [] field kind e = absurd cc
field_kind points (k ∷ ks) zero kind e = (omega arith, same_Some k kind e)
field_kind points (k ∷ ks) (suc field) kind e =
    let rest = field_kind points ks field kind e in (omega (arith, rest.0), rest.1)

pub opened_holds_zeros : OpenedHoldsZeros
opened_holds_zeros root points kinds roots out field kind e =
    let made : LiveRoot = record { root = root; columns = map (new_column points) kinds } in
    let cs : columns_of (roots ++ made ∷ []) root ≡ map (new_column points) kinds = last_columns roots made root out refl in
    let known = field_kind points kinds field kind e in (
      ap (λ (ds : List Column). (get_or ds field no_column).kind) cs ∙ known.1,
      λ point h.
          ap (λ (ds : List Column). number_in_column (get_or ds field no_column) point) cs
          ∙ new_is_zero points kinds field point known.0 h ∙ ap zero_of known.1,
    )

kept_behind : (roots : LogicalMap) (r : LiveRoot) (other : ℕ) → (r.root == other) ≡ false →
    columns_of (roots ++ r ∷ []) other ≡ columns_of roots other
kept_behind [] r other n = ap (λ b. cond b r.columns []) n
kept_behind (l ∷ ls) r other n = ap (λ cs. cond (l.root == other) l.columns cs) (kept_behind ls r other n)

pub opened_keeps_others : OpenedKeepsOthers
opened_keeps_others root points kinds roots other n =
    kept_behind roots (record { root = root; columns = map (new_column points) kinds }) other
    (ne_eqb root other (λ e. n (sym e)))

-- ---- and go

pub closed_is_gone : ClosedIsGone
closed_is_gone root [] = refl
closed_is_gone root (r ∷ rs) = by_case (r.root == root) (closed_is_gone root rs) refl
  where
    by_case : (b : Bool) → is_live (closed root rs) root ≡ false → (r.root == root) ≡ b →
        is_live (cond (not b) (r ∷ closed root rs) (closed root rs)) root ≡ false
    by_case true rest e = rest
    by_case false rest e = ap (λ b. b || is_live (closed root rs) root) e ∙ rest

pub closed_keeps_others : ClosedKeepsOthers
closed_keeps_others root [] other n = refl
closed_keeps_others root (r ∷ rs) other n = by_case (r.root == root) (closed_keeps_others root rs other n) refl
  where
    by_case : (b : Bool) → columns_of (closed root rs) other ≡ columns_of rs other → (r.root == root) ≡ b →
        columns_of (cond (not b) (r ∷ closed root rs) (closed root rs)) other
        ≡ cond (r.root == other) r.columns (columns_of rs other)
    by_case true rest e =
        rest ∙
        sym (ap (λ b. cond b r.columns (columns_of rs other))
        (ne_eqb r.root other (λ i. n (sym i ∙ eqb-true r.root root e))))
    by_case false rest e = ap (λ cs. cond (r.root == other) r.columns cs) rest
