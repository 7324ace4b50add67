-- A store that is written: the number at one point is another, and all else stays.
use Rattle.std.proofs.Common.{List, [], ◌∷◌, refl, ap, sym, subst, ℕ, ℤ, zero, suc, pos, ◌≡◌, ◌∙◌, ◌⊎◌, inl, inr, get_or}
use Rattle.std.specs.Prelude.{slice_set}
use Rattle.regent_tree.proofs.Roots.{shapes_written}
use Rattle.regent_tree.specs.Laws.{Shape}
use Rattle.regent_tree.specs.StaticTypes.{field_term}
use Rattle.regent_tree.specs.Store.{Store, no_root, write_all, write_at}
use Rattle.regent_tree.specs.Syntax.{Tree}
use Rattle.regent_tree.specs.declared.outcome.RootImage.{RootImage}
use Rattle.value_laws.specs.Shapes.{IsKeptOf, KeepsNumbers, StoreFits}

-- an element of a list in which one was set
pub set_cases : {A : Type 0} (xs : List A) (i j : ℕ) (y d : A) →
    (get_or (slice_set xs i y) j d ≡ get_or xs j d) ⊎ ((i ≡ j) × (get_or (slice_set xs i y) j d ≡ y))
set_cases [] i j y d = inl refl
set_cases (x ∷ xs) zero zero y d = inr (refl, refl)
set_cases (x ∷ xs) zero (suc j) y d = inl refl
set_cases (x ∷ xs) (suc i) zero y d = inl refl
set_cases (x ∷ xs) (suc i) (suc j) y d = elim (set_cases xs i j y d) [ inl e ↦ inl e | inr e ↦ inr (ap suc e.0, e.1) ]

module _ (tree : Tree) (store : Store) (root field point : ℕ) (z : ℤ) where
  -- what is kept at a point of an image that was written
  kept_in_image : (P : ℤ → Type 0) (r : RootImage) (g p : ℕ) → P (get_or (get_or r.fields g []) p (pos 0)) → (field ≡ g → P z) →
      P (get_or (get_or (slice_set r.fields field (slice_set (get_or r.fields field []) point z)) g []) p (pos 0))
  kept_in_image P r g p was now = elim (set_cases r.fields field g (slice_set (get_or r.fields field []) point z) []) [
    | inl e ↦ subst (λ c. P (get_or c p (pos 0))) (sym e) was
    | inr e ↦ subst (λ c. P (get_or c p (pos 0))) (sym e.1) (elim (set_cases (get_or r.fields field []) point p z (pos 0)) [
      | inl same ↦ subst P (sym same) (subst (λ k. P (get_or (get_or r.fields k []) p (pos 0))) (sym e.0) was)
      | inr same ↦ subst P (sym same.1) (now e.0)
    ])
  ]

  abbrev written_image : RootImage
  written_image = let r = get_or store root no_root in
      record r { fields = slice_set r.fields field (slice_set (get_or r.fields field []) point z) }

  pub numbers_written : KeepsNumbers tree store → IsKeptOf (field_term tree (get_or store root no_root).space field) z → KeepsNumbers tree (write_at store root field point z)
  numbers_written kept is r g p = elim (set_cases store root r written_image no_root) [
    | inl e ↦ subst (λ (i : RootImage). IsKeptOf (field_term tree i.space g) (get_or (get_or i.fields g []) p (pos 0))) (sym e) (kept r g p)
    | inr e ↦ subst (λ (i : RootImage). IsKeptOf (field_term tree i.space g) (get_or (get_or i.fields g []) p (pos 0))) (sym e.1)
        (kept_in_image (IsKeptOf (field_term tree (get_or store root no_root).space g)) (get_or store root no_root) g p (kept root g p)
        (λ same. subst (λ k. IsKeptOf (field_term tree (get_or store root no_root).space k) z) same is))
  ]

  pub store_written : (roots : List Shape) → StoreFits tree roots store → IsKeptOf (field_term tree (get_or store root no_root).space field) z →
      StoreFits tree roots (write_at store root field point z)
  store_written roots fit is = record {
    shapes_are = shapes_written store root field point z ∙ fit.shapes_are;
    numbers = numbers_written fit.numbers is;
  }

  -- the field space of a root stays
  pub space_written : (r : ℕ) → (get_or (write_at store root field point z) r no_root).space ≡ (get_or store r no_root).space
  space_written r = elim (set_cases store root r written_image no_root) [
    | inl e ↦ ap (λ (i : RootImage). i.space) e
    | inr e ↦ ap (λ (i : RootImage). i.space) e.1 ∙ ap (λ k. (get_or store k no_root).space) e.0
  ]

pub all_written : (tree : Tree) (roots : List Shape) (store : Store) (root field : ℕ) (xs : List ℕ) (z : ℤ) → StoreFits tree roots store →
    IsKeptOf (field_term tree (get_or store root no_root).space field) z → StoreFits tree roots (write_all store root field xs z)
all_written tree roots store root field [] z fit is = fit
all_written tree roots store root field (x ∷ xs) z fit is =
    all_written tree roots (write_at store root field x z) root field xs z (store_written tree store root field x z roots fit is)
    (subst (λ n. IsKeptOf (field_term tree n field) z) (sym (space_written tree store root field x z root)) is)
