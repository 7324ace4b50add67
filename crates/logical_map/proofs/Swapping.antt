-- Gives that swap.
use Rattle.std.proofs.Common.{◌≡◌, ◌≢◌, ◌⊎◌, ◌∙◌, ◌==◌, ◌&&◌, inl, inr, All, Bool, true, false, cond, eqb, List, [], ◌∷◌, None, Option, Some, ap, arith, refl, subst, suc, sym, zero, ℕ, ℤ}
use Rattle.std.specs.Prelude.{slice_get}
use Rattle.std.specs.List.{position}
use Rattle.std.proofs.lemmas.Bool.{cases_Bool, eqb-false, eqb-true, false≢true}
use Rattle.lane_kernels.proofs.Operators.{associative, commutative}
use Rattle.lane_kernels.specs.Numbers.{FitsWidth, applied, width_of}
use Rattle.lane_kernels.specs.declared.numbers.Mode.{Mode}
use Rattle.lane_kernels.specs.declared.numbers.Mode.TheVariants.{Reduce}
use Rattle.lane_kernels.specs.declared.numbers.Op.{Op}
use Rattle.lane_kernels.specs.declared.numbers.Width.{Width}
use Rattle.plain_values.specs.Points.{has, meets}
use Rattle.point_sets.proofs.Rising.{meets_at}
use Rattle.region_tree.specs.Pieces.{Held}
use Rattle.reduction_folds.specs.Folds.{number_in}
use Rattle.logical_map.proofs.Reading.{differ, lacked_at}
use Rattle.logical_map.specs.Gives.{given, given_at, given_beside}
use Rattle.logical_map.specs.Laws.{ApartGivesSwap, FieldsSwap, ReductionsSwap}
use Rattle.logical_map.specs.Maps.{Column, LogicalMap, number_beside, on_column, on_field, on_root}

-- where they swap at each number that stands there
swap_beside : (w : Width) (h g : Held) (P : ℤ → Type 0) →
    ((p : ℕ) (z : ℤ) → P z → given_at w g p (given_at w h p z) ≡ given_at w h p (given_at w g p z)) →
    (ps : List ℕ) (zs : List ℤ) → All P zs →
    given_beside w (g ∷ []) ps (given_beside w (h ∷ []) ps zs) ≡ given_beside w (h ∷ []) ps (given_beside w (g ∷ []) ps zs)
swap_beside w h g P swap [] zs a = refl
swap_beside w h g P swap (p ∷ ps) [] a = refl
swap_beside w h g P swap (p ∷ ps) (z ∷ zs) a =
    ap (λ y. y ∷ given_beside w (g ∷ []) ps (given_beside w (h ∷ []) ps zs)) (swap p z (a 0 z (omega arith))) ∙
    ap (λ ys. given_at w h p (given_at w g p z) ∷ ys)
    (swap_beside w h g P swap ps zs (λ k d l. a (suc k) d (omega (arith, l))))

both_have : (a b : Bool) → a ≡ true → b ≡ true → (a && b) ≡ true
both_have true true e f = refl
both_have true false e f = absurd (false≢true f)
both_have false b e f = absurd (false≢true e)

apart_at : (w : Width) (h g : Held) → meets h.points g.points ≡ false → (p : ℕ) (z : ℤ) →
    given_at w g p (given_at w h p z) ≡ given_at w h p (given_at w g p z)
apart_at w h g apart p z = by_case (cases_Bool (has h.points p)) (cases_Bool (has g.points p))
  where
    by_case : (has h.points p ≡ true) ⊎ (has h.points p ≡ false) → (has g.points p ≡ true) ⊎ (has g.points p ≡ false) →
        given_at w g p (given_at w h p z) ≡ given_at w h p (given_at w g p z)
    by_case (inr out) _ = ap (given_at w g p) (lacked_at w h p out z) ∙ sym (lacked_at w h p out (given_at w g p z))
    by_case (inl here) (inr out) = lacked_at w g p out (given_at w h p z) ∙ sym (ap (given_at w h p) (lacked_at w g p out z))
    by_case (inl here) (inl there) =
        absurd (false≢true (sym apart ∙ meets_at h.points g.points p (both_have (has h.points p) (has g.points p) here there)))

pub apart_gives_swap : ApartGivesSwap
apart_gives_swap h g c apart =
    let w = width_of c.kind in
    ap (λ zs. record c { numbers = zs })
    (swap_beside w h g (λ z. Unit {0}) (λ p z u. apart_at w h g apart p z) c.points c.numbers (λ k d l. tt))

-- ---- reductions

fits_at : (P : ℤ → Type 0) (zs : List ℤ) (k : ℕ) (y : ℤ) → All P zs → slice_get zs k ≡ Some y → P y
fits_at P [] k y a e = absurd (cc)
fits_at P (z ∷ zs) zero y a e = let same : z ≡ y = cc in subst P same (a 0 z (omega arith))
fits_at P (z ∷ zs) (suc k) y a e = fits_at P zs k y (λ j d l. a (suc j) d (omega (arith, l))) e

fits_in : (P : ℤ → Type 0) (zs : List ℤ) (o : Option ℕ) (y : ℤ) → All P zs → number_in zs o ≡ Some y → P y
fits_in P zs None y a e = absurd (cc)
fits_in P zs (Some k) y a e = fits_at P zs k y a e

folds_swap : (op : Op) (w : Width) (z a b : ℤ) → FitsWidth w z → FitsWidth w a → FitsWidth w b →
    applied op w (applied op w z a) b ≡ applied op w (applied op w z b) a
folds_swap op w z a b f g h =
    associative op w z a b f g h ∙
    ap (applied op w z) (commutative op w a b g h) ∙
    sym (associative op w z b a f h g)

given_swap : (op : Op) (w : Width) (z : ℤ) (o q : Option ℤ) → FitsWidth w z →
    ((y : ℤ) → o ≡ Some y → FitsWidth w y) → ((y : ℤ) → q ≡ Some y → FitsWidth w y) →
    given w (Reduce op) (given w (Reduce op) z o) q ≡ given w (Reduce op) (given w (Reduce op) z q) o
given_swap op w z None None f a b = refl
given_swap op w z None (Some y) f a b = refl
given_swap op w z (Some x) None f a b = refl
given_swap op w z (Some x) (Some y) f a b = folds_swap op w z x y f (a x refl) (b y refl)

reductions_at : (op : Op) (w : Width) (h g : Held) → h.mode ≡ Reduce op → g.mode ≡ Reduce op →
    All (FitsWidth w) h.values → All (FitsWidth w) g.values → (p : ℕ) (z : ℤ) → FitsWidth w z →
    given_at w g p (given_at w h p z) ≡ given_at w h p (given_at w g p z)
reductions_at op w h g m n a b p z f =
    let o = number_beside h.points h.values p in
    let q = number_beside g.points g.values p in
    ap (λ (k : Mode). given w k (given w h.mode z o) q) n ∙
    ap (λ (k : Mode). given w (Reduce op) (given w k z o) q) m ∙
    given_swap op w z o q f
    (λ y e. fits_in (FitsWidth w) h.values (position (λ x. x == p) h.points) y a e)
    (λ y e. fits_in (FitsWidth w) g.values (position (λ x. x == p) g.points) y b e) ∙
    sym (ap (λ (k : Mode). given w k (given w g.mode z q) o) m ∙ ap (λ (k : Mode). given w (Reduce op) (given w k z q) o) n)

pub reductions_swap : ReductionsSwap
reductions_swap op h g c m n a b f =
    let w = width_of c.kind in
    ap (λ zs. record c { numbers = zs })
    (swap_beside w h g (FitsWidth w) (λ p z e. reductions_at op w h g m n a b p z e) c.points c.numbers f)

-- ---- changes of two fields

fields_apart : (cs : List Column) (k j : ℕ) (f g : Column → Column) → j ≢ k →
    on_field k f (on_field j g cs) ≡ on_field j g (on_field k f cs)
fields_apart [] k j f g n = refl
fields_apart (c ∷ cs) zero zero f g n = absurd (n refl)
fields_apart (c ∷ cs) zero (suc j) f g n = refl
fields_apart (c ∷ cs) (suc k) zero f g n = refl
fields_apart (c ∷ cs) (suc k) (suc j) f g n = ap (λ ds. c ∷ ds) (fields_apart cs k j f g (λ e. n (ap (λ i. suc i) e)))

one_root : (roots : LogicalMap) (root : ℕ) (f g : List Column → List Column) →
    ((cs : List Column) → f (g cs) ≡ g (f cs)) → on_root root f (on_root root g roots) ≡ on_root root g (on_root root f roots)
one_root [] root f g swap = refl
one_root (r ∷ rs) root f g swap = by_case (r.root == root) (one_root rs root f g swap) refl
  where
    by_case : (b : Bool) → on_root root f (on_root root g rs) ≡ on_root root g (on_root root f rs) → (r.root == root) ≡ b →
        on_root root f (cond b (record r { columns = g r.columns } ∷ rs) (r ∷ on_root root g rs))
        ≡ on_root root g (cond b (record r { columns = f r.columns } ∷ rs) (r ∷ on_root root f rs))
    by_case true rest h =
        ap (λ b. cond b (record r { columns = f (g r.columns) } ∷ rs) (record r { columns = g r.columns } ∷ on_root root f rs)) h ∙
        ap (λ cs. record r { columns = cs } ∷ rs) (swap r.columns) ∙
        sym (ap (λ b. cond b (record r { columns = g (f r.columns) } ∷ rs) (record r { columns = f r.columns } ∷ on_root root g rs)) h)
    by_case false rest h =
        ap (λ b. cond b (record r { columns = f r.columns } ∷ on_root root g rs) (r ∷ on_root root f (on_root root g rs))) h ∙
        ap (λ ls. r ∷ ls) rest ∙
        sym (ap (λ b. cond b (record r { columns = g r.columns } ∷ on_root root f rs) (r ∷ on_root root g (on_root root f rs))) h)

two_roots : (roots : LogicalMap) (root other : ℕ) (f g : List Column → List Column) → other ≢ root →
    on_root root f (on_root other g roots) ≡ on_root other g (on_root root f roots)
two_roots [] root other f g n = refl
two_roots (r ∷ rs) root other f g n =
    by_case (r.root == root) (r.root == other) (two_roots rs root other f g n) refl refl
  where
    by_case : (a b : Bool) → on_root root f (on_root other g rs) ≡ on_root other g (on_root root f rs) → (r.root == root) ≡ a → (r.root == other) ≡ b →
        on_root root f (cond b (record r { columns = g r.columns } ∷ rs) (r ∷ on_root other g rs))
        ≡ on_root other g (cond a (record r { columns = f r.columns } ∷ rs) (r ∷ on_root root f rs))
    by_case true true rest h k = absurd (n (sym (eqb-true r.root other k) ∙ eqb-true r.root root h))
    by_case true false rest h k =
        ap (λ b. cond b (record r { columns = f r.columns } ∷ on_root other g rs) (r ∷ on_root root f (on_root other g rs))) h ∙
        sym (ap (λ b. cond b (record r { columns = g (f r.columns) } ∷ rs) (record r { columns = f r.columns } ∷ on_root other g rs)) k)
    by_case false true rest h k =
        ap (λ b. cond b (record r { columns = f (g r.columns) } ∷ rs) (record r { columns = g r.columns } ∷ on_root root f rs)) h ∙
        sym (ap (λ b. cond b (record r { columns = g r.columns } ∷ on_root root f rs) (r ∷ on_root other g (on_root root f rs))) k)
    by_case false false rest h k =
        ap (λ b. cond b (record r { columns = f r.columns } ∷ on_root other g rs) (r ∷ on_root root f (on_root other g rs))) h ∙
        ap (λ ls. r ∷ ls) rest ∙
        sym (ap (λ b. cond b (record r { columns = g r.columns } ∷ on_root root f rs) (r ∷ on_root other g (on_root root f rs))) k)

pub fields_swap : FieldsSwap
fields_swap root field other k f g roots apart = by_case (cases_Bool (eqb other root))
  where
    by_case : (eqb other root ≡ true) ⊎ (eqb other root ≡ false) →
        on_column root field f (on_column other k g roots) ≡ on_column other k g (on_column root field f roots)
    by_case (inr ne) = two_roots roots root other (on_field field f) (on_field k g) (eqb-false other root ne)
    by_case (inl e) =
        let same = eqb-true other root e in
        ap (λ (n : ℕ). on_column root field f (on_column n k g roots)) same ∙
        one_root roots root (on_field field f) (on_field k g) (λ cs. fields_apart cs field k f g (differ other root k field apart same)) ∙
        sym (ap (λ (n : ℕ). on_column n k g (on_column root field f roots)) same)
