-- What is read behind a give, and what stays.
use Rattle.std.proofs.Common.{◌≡◌, ◌≢◌, ◌⊎◌, ◌∙◌, ◌<◌, ◌==◌, inl, inr, Bool, true, false, cond, eqb, List, [], ◌∷◌, None, Some, ap, arith, get_or, length, refl, suc, sym, zero, ℕ, ℤ}
use Rattle.std.proofs.lemmas.Bool.{cases_Bool, eqb-false, eqb-true, false≢true, ne_eqb}
use Rattle.lane_kernels.specs.Numbers.{width_of}
use Rattle.lane_kernels.specs.declared.numbers.Mode.{Mode}
use Rattle.lane_kernels.specs.declared.numbers.Mode.TheVariants.{Read, Write, Reduce}
use Rattle.lane_kernels.specs.declared.numbers.Width.{Width}
use Rattle.plain_values.specs.Points.{has}
use Rattle.point_sets.proofs.Rising.{has_head, has_other}
use Rattle.region_tree.specs.Pieces.{Held}
use Rattle.logical_map.proofs.Beside.{beside_more, beside_no_number, beside_no_point}
use Rattle.logical_map.specs.Gives.{all_given_at, given, given_at, given_beside, give_pieces, with_pieces}
use Rattle.logical_map.specs.Laws.{GivenIsRead, LackedPointStays, OthersStay}
use Rattle.logical_map.specs.Maps.{Column, LogicalMap, column_of, columns_of, no_column, number_beside, number_in_column, number_or_zero, on_column, on_field, on_root}

-- ---- at a column

given_is_read_beside : (w : Width) (hs : List Held) (ps : List ℕ) (zs : List ℤ) (p : ℕ) → length zs ≡ length ps →
    has ps p ≡ true → number_or_zero (number_beside ps (given_beside w hs ps zs) p)
    ≡ all_given_at w hs p (number_or_zero (number_beside ps zs p))
given_is_read_beside w hs [] zs p s h = absurd (false≢true h)
given_is_read_beside w hs (q ∷ ps) [] p s h = absurd (omega (arith, s))
given_is_read_beside w hs (q ∷ ps) (z ∷ zs) p s h =
    ap number_or_zero (beside_more q p ps (all_given_at w hs q z) (given_beside w hs ps zs)) ∙
    by_case (eqb q p) (given_is_read_beside w hs ps zs p (omega (arith, s))) refl ∙
    sym (ap (λ o. all_given_at w hs p (number_or_zero o)) (beside_more q p ps z zs))
  where
    by_case : (b : Bool) → (has ps p ≡ true → number_or_zero (number_beside ps (given_beside w hs ps zs) p)
        ≡ all_given_at w hs p (number_or_zero (number_beside ps zs p))) → eqb q p ≡ b →
        number_or_zero (cond b (Some (all_given_at w hs q z)) (number_beside ps (given_beside w hs ps zs) p))
        ≡ all_given_at w hs p (number_or_zero (cond b (Some z) (number_beside ps zs p)))
    by_case true rest e = ap (λ x. all_given_at w hs x z) (eqb-true q p e)
    by_case false rest e = rest (sym (has_other p q ps (λ i. eqb-false q p e (sym i))) ∙ h)

-- ---- fields and roots

field_found : (cs : List Column) (k : ℕ) (f : Column → Column) (d : Column) → k < length cs →
    get_or (on_field k f cs) k d ≡ f (get_or cs k d)
field_found [] k f d l = absurd (omega (arith, l))
field_found (c ∷ cs) zero f d l = refl
field_found (c ∷ cs) (suc k) f d l = field_found cs k f d (omega (arith, l))

field_other : (cs : List Column) (k j : ℕ) (f : Column → Column) (d : Column) → j ≢ k →
    get_or (on_field k f cs) j d ≡ get_or cs j d
field_other [] k j f d n = refl
field_other (c ∷ cs) zero zero f d n = absurd (n refl)
field_other (c ∷ cs) zero (suc j) f d n = refl
field_other (c ∷ cs) (suc k) zero f d n = refl
field_other (c ∷ cs) (suc k) (suc j) f d n = field_other cs k j f d (λ e. n (ap (λ i. suc i) e))

pub root_found : (roots : LogicalMap) (root : ℕ) (g : List Column → List Column) → g [] ≡ [] →
    columns_of (on_root root g roots) root ≡ g (columns_of roots root)
root_found [] root g e = sym e
root_found (r ∷ rs) root g e = by_case (r.root == root) (root_found rs root g e) refl
  where
    by_case : (b : Bool) → columns_of (on_root root g rs) root ≡ g (columns_of rs root) → (r.root == root) ≡ b →
        columns_of (cond b (record r { columns = g r.columns } ∷ rs) (r ∷ on_root root g rs)) root
        ≡ g (cond b r.columns (columns_of rs root))
    by_case true rest h = ap (λ b. cond b (g r.columns) (columns_of rs root)) h
    by_case false rest h = ap (λ b. cond b r.columns (columns_of (on_root root g rs) root)) h ∙ rest

pub root_other : (roots : LogicalMap) (root other : ℕ) (g : List Column → List Column) → other ≢ root →
    columns_of (on_root root g roots) other ≡ columns_of roots other
root_other [] root other g n = refl
root_other (r ∷ rs) root other g n = by_case (r.root == root) (root_other rs root other g n) refl
  where
    by_case : (b : Bool) → columns_of (on_root root g rs) other ≡ columns_of rs other → (r.root == root) ≡ b →
        columns_of (cond b (record r { columns = g r.columns } ∷ rs) (r ∷ on_root root g rs)) other
        ≡ cond (r.root == other) r.columns (columns_of rs other)
    by_case true rest h =
        let ne : (r.root == other) ≡ false = ne_eqb r.root other (λ i. n (sym i ∙ eqb-true r.root root h)) in
        ap (λ b. cond b (g r.columns) (columns_of rs other)) ne ∙
        sym (ap (λ b. cond b r.columns (columns_of rs other)) ne)
    by_case false rest h = ap (λ cs. cond (r.root == other) r.columns cs) rest

pub differ : (a b c d : ℕ) → (a ≢ b) ⊎ (c ≢ d) → a ≡ b → c ≢ d
differ a b c d (inl n) e = absurd (n e)
differ a b c d (inr n) e = n

pub others_stay : OthersStay
others_stay root field f roots other k apart = by_case (cases_Bool (eqb other root))
  where
    by_case : (eqb other root ≡ true) ⊎ (eqb other root ≡ false) →
        column_of (on_column root field f roots) other k ≡ column_of roots other k
    by_case (inr ne) = ap (λ cs. get_or cs k no_column) (root_other roots root other (on_field field f) (eqb-false other root ne))
    by_case (inl e) =
        let same = eqb-true other root e in
        ap (λ (n : ℕ). get_or (columns_of (on_root root (on_field field f) roots) n) k no_column) same ∙
        ap (λ cs. get_or cs k no_column) (root_found roots root (on_field field f) refl) ∙
        field_other (columns_of roots root) field k f no_column (differ other root k field apart same) ∙
        ap (λ (n : ℕ). get_or (columns_of roots n) k no_column) (sym same)

pub given_is_read : GivenIsRead
given_is_read root field hs roots point there whole in_column =
    let found : column_of (give_pieces root field hs roots) root field ≡ with_pieces hs (column_of roots root field) =
    ap (λ cs. get_or cs field no_column) (root_found roots root (on_field field (with_pieces hs)) refl) ∙
    field_found (columns_of roots root) field (with_pieces hs) no_column there in
    let c = column_of roots root field in
    ap (λ (d : Column). number_in_column d point) found ∙
    given_is_read_beside (width_of c.kind) hs c.points c.numbers point whole in_column

-- ---- points that a piece lacks

pub lacked : (ps : List ℕ) (zs : List ℤ) (p : ℕ) → has ps p ≡ false → number_beside ps zs p ≡ None
lacked [] zs p h = beside_no_point zs p
lacked (q ∷ ps) [] p h = beside_no_number (q ∷ ps) p
lacked (q ∷ ps) (z ∷ zs) p h = beside_more q p ps z zs ∙ by_case (eqb q p) (lacked ps zs p) refl
  where
    by_case : (b : Bool) → (has ps p ≡ false → number_beside ps zs p ≡ None) → eqb q p ≡ b → cond b (Some z) (number_beside ps zs p) ≡ None
    by_case true rest e = absurd (false≢true (sym h ∙ ap (λ (x : ℕ). has (x ∷ ps) p) (eqb-true q p e) ∙ has_head p ps))
    by_case false rest e = rest (sym (has_other p q ps (λ i. eqb-false q p e (sym i))) ∙ h)

nothing_given : (w : Width) (m : Mode) (z : ℤ) → given w m z None ≡ z
nothing_given w Read z = refl
nothing_given w Write z = refl
nothing_given w (Reduce op) z = refl

pub lacked_at : (w : Width) (h : Held) (point : ℕ) → has h.points point ≡ false → (z : ℤ) → given_at w h point z ≡ z
lacked_at w h point out z = ap (given w h.mode z) (lacked h.points h.values point out) ∙ nothing_given w h.mode z

pub lacked_point_stays : LackedPointStays
lacked_point_stays h point out c z = lacked_at (width_of c.kind) h point out z
