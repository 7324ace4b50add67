-- Own roots that are closed: the roots that were there before are left.
use Rattle.std.proofs.Common.{◌≡◌, true≢false, ℕ, List, [], ◌∷◌, ◌++◌, Bool, true, false, refl, sym, ap, ◌∙◌, subst, arith}
use Rattle.std.specs.Prelude.{cond, drop, filter, length, map, not, take, ◌==◌, ◌||◌}
use Rattle.std.specs.List.Sorted.{IsStrictlyIncreasing}
use Rattle.plain_values.specs.Points.{has}
use Rattle.point_sets.proofs.Rising.{absent, has-append, has_head, has_tail, rising_head, rising_tail}
use Rattle.region_tree.specs.declared.tree.RootId.{RootId}
use Rattle.machine_terms.specs.declared.order.Root.{Root}
use Rattle.machine_terms.specs.Contents.{is_among}

-- ---- the roots that are left

abbrev pub numbers_of : List Root → List ℕ
numbers_of rs = map (λ (r : Root). r.id.0) rs

abbrev pub ids_of : List RootId → List ℕ
ids_of own = map (λ (id : RootId). id.0) own

among_is : (own : List RootId) (r : Root) → is_among own r ≡ has (ids_of own) r.id.0
among_is [] r = refl
among_is (id ∷ own) r = ap (λ b. (r.id.0 == id.0) || b) (among_is own r)

one_more : (own : List RootId) (k : Root) (rs : List Root) (b : Bool) → has (ids_of own) k.id.0 ≡ b →
    filter (λ r. not (is_among own r)) (k ∷ rs)
    ≡ cond (not b) (k ∷ filter (λ r. not (is_among own r)) rs) (filter (λ r. not (is_among own r)) rs)
one_more own k rs b e = ap (λ t. cond (not t) (k ∷ filter (λ r. not (is_among own r)) rs)
    (filter (λ r. not (is_among own r)) rs)) (among_is own k ∙ e)

none_left : (own : List RootId) (rs : List Root) → ((x : ℕ) → has (numbers_of rs) x ≡ true → has (ids_of own) x ≡ true) →
    filter (λ r. not (is_among own r)) rs ≡ []
none_left own [] all = refl
none_left own (k ∷ rs) all =
    one_more own k rs true (all k.id.0 (has_head k.id.0 (numbers_of rs)))
    ∙ none_left own rs (λ x e. all x (has_tail x k.id.0 (numbers_of rs) e))

pub first_left : (own : List RootId) (before : List ℕ) (rs : List Root) →
    numbers_of rs ≡ before ++ ids_of own → IsStrictlyIncreasing (numbers_of rs) →
    filter (λ r. not (is_among own r)) rs ≡ take (length before) rs
first_left own [] rs e up = none_left own rs (λ x h. subst (λ ns. has ns x ≡ true) e h) ∙ refl
first_left own (b ∷ before) [] e up = absurd (omega (arith, ap length e))
first_left own (b ∷ before) (k ∷ rs) e up =
    let more : numbers_of rs ≡ before ++ ids_of own = ap (λ ns. drop 1 ns) e in
    let away : has (before ++ ids_of own) k.id.0 ≡ false =
    subst (λ ns. has ns k.id.0 ≡ false) more (absent k.id.0 (numbers_of rs) (rising_head k.id.0 (numbers_of rs) up) k.id.0 (omega arith)) in
    one_more own k rs false (second (has before k.id.0) (has (ids_of own) k.id.0) (sym (has-append before (ids_of own) k.id.0) ∙ away))
    ∙ ap (λ rs. k ∷ rs) (first_left own before rs more (rising_tail k.id.0 (numbers_of rs) up))
  where
    second : (a b : Bool) → (a || b) ≡ false → b ≡ false
    second true b e = absurd (true≢false e)
    second false b e = e
