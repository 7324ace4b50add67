-- What is needed, of an instance and of an operation on a board, which keeps what it needs of no points.
use Rattle.std.proofs.Common.{◌≡◌, ℕ, ◌<◌, List, [], ◌∷◌, ◌++◌, Bool, true, false, cond, None, Some, refl, sym, ap, ◌∙◌, subst, map, filter, ◌&&◌, eq-eqb, eqb-true, ⊎_elim}
use Rattle.std.specs.List.{list_all}
use Rattle.std.specs.Prelude.{length}
use Rattle.std.proofs.lemmas.Bool.{and_from, and_parts}
use Rattle.std.proofs.lemmas.Option.{none-some}
use Rattle.plain_values.specs.Points.{has, union_of}
use Rattle.lane_kernels.specs.Modes.{joined}
use Rattle.lane_kernels.specs.declared.numbers.Mode.{Mode}
use Rattle.lane_kernels.specs.declared.numbers.Mode.TheVariants.{Write}
use Rattle.region_tree.specs.Requirements.{Requirement, all_modes, covers, is_at, is_mode, is_of, is_subsumed, is_within, join_from, mode_at, modes_at, part_of, part_of_mode, parts_of_modes, points_joined, points_required}
use Rattle.region_tree.proofs.Covering.{within_at}
use Rattle.machine_terms.specs.declared.order.Contents.{Contents}
use Rattle.machine_terms.specs.Opening.{with_points}
use Rattle.memory_laws.specs.Places.{column_of}

-- ---- without what is needed of no points

abbrev pub pointed : List Requirement → List Requirement
pointed [] = []
pointed (r ∷ rs) = with_points r.points r (pointed rs)

pub pointed_append : (a b : List Requirement) → pointed (a ++ b) ≡ pointed a ++ pointed b
pointed_append [] b = refl
pointed_append (r ∷ a) b = ap (with_points r.points r) (pointed_append a b) ∙ behind r.points
  where
    behind : (xs : List ℕ) → with_points xs r (pointed a ++ pointed b) ≡ with_points xs r (pointed a) ++ pointed b
    behind [] = refl
    behind (x ∷ xs) = refl

never : (b : Bool) → (b && false) ≡ false
never true = refl
never false = refl

modes_pointed : (N : List Requirement) (root field p : ℕ) → modes_at (pointed N) root field p ≡ modes_at N root field p
modes_pointed [] root field p = refl
modes_pointed (r ∷ N) root field p = by_points r.points refl (modes_pointed N root field p)
  where
    with_more : Bool → List Requirement → List Mode
    with_more b rs = map (λ (r : Requirement). r.mode) (cond b (r ∷ rs) rs)

    more : (b : Bool) → modes_at (pointed N) root field p ≡ modes_at N root field p →
        with_more b (filter (is_at root field p) (pointed N)) ≡ with_more b (filter (is_at root field p) N)
    more true h = ap (λ ms. r.mode ∷ ms) h
    more false h = h

    by_points : (xs : List ℕ) → r.points ≡ xs → modes_at (pointed N) root field p ≡ modes_at N root field p → modes_at (with_points xs r (pointed N)) root field p ≡ modes_at (r ∷ N) root field p
    by_points [] e h = h
        ∙ ap (λ b. with_more b (filter (is_at root field p) N))
        (sym (ap (λ xs. is_of root field r && has xs p) e ∙ never (is_of root field r)))
    by_points (x ∷ xs) e h = more (is_at root field p r) h

mode_pointed : (N : List Requirement) (root field p : ℕ) → mode_at (pointed N) root field p ≡ mode_at N root field p
mode_pointed N root field p = ap (join_from None) (modes_pointed N root field p)

all_same : (f g : Requirement → Bool) → ((r : Requirement) → f r ≡ g r) → (rs : List Requirement) → list_all f rs ≡ list_all g rs
all_same f g h [] = refl
all_same f g h (r ∷ rs) = λ i. h r i && all_same f g h rs i

all_pointed : (f : Requirement → Bool) → ((r : Requirement) → r.points ≡ [] → f r ≡ true) → (rs : List Requirement) →
    list_all f (pointed rs) ≡ list_all f rs
all_pointed f h [] = refl
all_pointed f h (r ∷ rs) = by_points r.points refl (all_pointed f h rs)
  where
    by_points : (xs : List ℕ) → r.points ≡ xs → list_all f (pointed rs) ≡ list_all f rs →
        list_all f (with_points xs r (pointed rs)) ≡ (f r && list_all f rs)
    by_points [] e more = more ∙ ap (λ b. b && list_all f rs) (sym (h r e))
    by_points (x ∷ xs) e more = ap (λ b. f r && b) more

pub within_pointed : (a b : List Requirement) → is_within (pointed a) (pointed b) ≡ is_within a b
within_pointed a b =
    all_same (covers (pointed a) (pointed b)) (covers a b)
    (λ r i. list_all (λ p. is_subsumed (mode_pointed a r.root r.field p i) (mode_pointed b r.root r.field p i)) r.points) (pointed a)
    ∙ all_pointed (covers a b)
    (λ r e. ap (list_all (λ p. is_subsumed (mode_at a r.root r.field p) (mode_at b r.root r.field p))) e) a

required_pointed : (N : List Requirement) (root field : ℕ) → points_required (pointed N) root field ≡ points_required N root field
required_pointed [] root field = refl
required_pointed (r ∷ N) root field = by_points r.points refl (required_pointed N root field)
  where
    same : (b : Bool) (xs : List ℕ) → xs ≡ cond b xs xs
    same true xs = refl
    same false xs = refl

    by_points : (xs : List ℕ) → r.points ≡ xs → points_required (pointed N) root field ≡ points_required N root field →
        points_required (with_points xs r (pointed N)) root field
        ≡ cond (is_of root field r) (union_of r.points (points_required N root field)) (points_required N root field)
    by_points [] e more = more ∙ same (is_of root field r) (points_required N root field)
        ∙ ap (λ ys. cond (is_of root field r) (union_of ys (points_required N root field)) (points_required N root field)) (sym e)
    by_points (x ∷ xs) e more = ap (λ ys. cond (is_of root field r) (union_of r.points ys) ys) more

joined_pointed : (N : List Requirement) (root field : ℕ) (m : Mode) → points_joined (pointed N) root field m ≡ points_joined N root field m
joined_pointed N root field m = λ i. filter (λ p. is_mode m (mode_pointed N root field p i)) (required_pointed N root field i)

parts_pointed : (N : List Requirement) (root field : ℕ) (ms : List Mode) → parts_of_modes (pointed N) root field ms ≡ parts_of_modes N root field ms
parts_pointed N root field [] = refl
parts_pointed N root field (m ∷ ms) = λ i. part_of_mode (joined_pointed N root field m i) m (parts_pointed N root field ms i)

pub part_pointed : (N : List Requirement) (root field : ℕ) → part_of (pointed N) root field ≡ part_of N root field
part_pointed N root field = parts_pointed N root field all_modes

-- ---- what is needed somewhere

abbrev IsNeeded : List Requirement → ℕ → ℕ → ℕ → Type 0
IsNeeded rs root field p = mode_at rs root field p ≡ None → ⊥

join_some : (m : Mode) (ms : List Mode) → join_from (Some m) ms ≡ None → ⊥
join_some m [] e = absurd cc
join_some m (n ∷ ms) e = join_some (joined m n) ms e

needed_more : (b : Bool) (r : Requirement) (rs : List Requirement) → (b ≡ false → join_from None (map (λ (r : Requirement). r.mode) rs) ≡ None → ⊥) →
    join_from None (map (λ (r : Requirement). r.mode) (cond b (r ∷ rs) rs)) ≡ None → ⊥
needed_more true r rs h e = join_some r.mode (map (λ (r : Requirement). r.mode) rs) e
needed_more false r rs h e = h refl e

needed_here : (r : Requirement) (rs : List Requirement) (p : ℕ) → has r.points p ≡ true → IsNeeded (r ∷ rs) r.root r.field p
needed_here r rs p h = needed_more (is_at r.root r.field p r) r (filter (is_at r.root r.field p) rs)
    (λ e d. absurd (clash (and_from _ _ (and_from _ _ (eq-eqb r.root r.root refl) (eq-eqb r.field r.field refl)) h) e))
  where
    clash : {b : Bool} → b ≡ true → b ≡ false → ⊥
    clash t f = absurd cc

needed_later : (r : Requirement) (rs : List Requirement) (root field p : ℕ) → IsNeeded rs root field p → IsNeeded (r ∷ rs) root field p
needed_later r rs root field p h = needed_more (is_at root field p r) r (filter (is_at root field p) rs) (λ e d. h d)

-- ---- what is needed is there

module _ (c : Contents) where
  -- the points of each requirement are points of its field
  abbrev pub Covered : List Requirement → Type 0
  Covered [] = Unit {0}
  Covered (r ∷ rs) = ((p : ℕ) → has r.points p ≡ true → p < length (column_of c r.root r.field)) × Covered rs

  pub covered_at : (rs : List Requirement) (root field p : ℕ) → Covered rs → (mode_at rs root field p ≡ None → ⊥) →
      p < length (column_of c root field)
  covered_at [] root field p h n = absurd (n refl)
  covered_at (r ∷ rs) root field p h n = chosen (is_at root field p r) refl n (λ k. covered_at rs root field p h.1 k)
    where
      chosen : (b : Bool) → is_at root field p r ≡ b →
          (join_from None (map (λ (r : Requirement). r.mode) (cond b (r ∷ filter (is_at root field p) rs) (filter (is_at root field p) rs))) ≡ None → ⊥) →
          (IsNeeded rs root field p → p < length (column_of c root field)) → p < length (column_of c root field)
      chosen true e n more =
          let at = and_parts (is_of root field r) (has r.points p) e in
          let of = and_parts _ _ at.0 in
          subst (λ k. p < length (column_of c k field)) (eqb-true r.root root of.0)
          (subst (λ k. p < length (column_of c r.root k)) (eqb-true r.field field of.1) (h.0 p at.1))
      chosen false e n more = more n

  covered_by : (rs : List Requirement) → ((root field p : ℕ) → IsNeeded rs root field p → p < length (column_of c root field)) → Covered rs
  covered_by [] h = tt
  covered_by (r ∷ rs) h = (
    λ p e. h r.root r.field p (needed_here r rs p e),
    covered_by rs (λ root field p n. h root field p (needed_later r rs root field p n)),
  )

  pub covered_within : (ours theirs : List Requirement) → is_within ours theirs ≡ true → Covered theirs → Covered ours
  covered_within ours theirs w h = covered_by ours (λ root field p n. covered_at theirs root field p h
      (λ none. ⊎_elim (λ e. n e) (λ more. ⊎_elim (λ e. n (e ∙ none)) (λ e. none-some Write (sym none ∙ e)) more) (within_at ours theirs w root field p)))

  pub covered_append : (a b : List Requirement) → Covered a → Covered b → Covered (a ++ b)
  covered_append [] b h g = g
  covered_append (r ∷ a) b h g = (h.0, covered_append a b h.1 g)

-- and stays so where columns are as long
pub covered_still : (c d : Contents) → ((r f : ℕ) (p : ℕ) → p < length (column_of c r f) → p < length (column_of d r f)) → (rs : List Requirement) →
    Covered c rs → Covered d rs
covered_still c d e [] h = tt
covered_still c d e (r ∷ rs) h = (λ p q. e r.root r.field p (h.0 p q), covered_still c d e rs h.1)
