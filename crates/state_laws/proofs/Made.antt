-- A root that is made: its shape is that of its field space, and its zeros are kept.
use Rattle.std.proofs.Common.{List, [], ◌∷◌, ◌++◌, refl, ap, sym, subst, ℕ, ℤ, zero, suc, pos, ◌≡◌, ◌∙◌, ◌≤◌, ◌⊎◌, inl, inr, get_or, map, arith}
use Rattle.std.proofs.lemmas.Int.{ints}
use Rattle.std.proofs.lemmas.List.{length-append, length-map, map_push}
use Rattle.std.proofs.lemmas.List.Elements.{All-push}
use Rattle.std.specs.Prelude.{length, replicate}
use Rattle.plain_values.specs.Points.{IsPoints, points}
use Rattle.point_sets.proofs.Rising.{rising-counted_from}
use Rattle.lane_kernels.specs.declared.numbers.FieldKind.{FieldKind}
use Rattle.regent_tree.specs.Laws.{Extends, Shape, shape_of}
use Rattle.regent_tree.specs.StaticTypes.{field_kinds, field_term, kind_said, space_at}
use Rattle.regent_tree.specs.Store.{Store, new_root, no_root}
use Rattle.regent_tree.specs.Syntax.{Tree}
use Rattle.regent_tree.specs.Values.{kept_zero}
use Rattle.regent_tree.specs.declared.outcome.RootImage.{RootImage}
use Rattle.regent_tree.specs.declared.types.NumberTerm.TheVariants as number
use Rattle.regent_tree.specs.declared.types.Param.{Param}
use Rattle.regent_tree.specs.declared.types.TypeTerm.{TypeTerm}
use Rattle.regent_tree.specs.declared.types.TypeTerm.TheVariants as typed_as
use Rattle.state_laws.proofs.Items.{counted_below}
use Rattle.state_laws.specs.Operations.{RootsAreMade}
use Rattle.value_laws.specs.Shapes.{AreRootsOfSpaces, IsKeptOf, IsRegionOf, IsRootOfSpace, StoreFits, most_points, no_shape}

pub push_cases : {A : Type 0} (xs : List A) (y d : A) (i : ℕ) → (get_or (xs ++ y ∷ []) i d ≡ get_or xs i d) ⊎ ((i ≡ length xs) × (get_or (xs ++ y ∷ []) i d ≡ y))
push_cases [] y d zero = inr (refl, refl)
push_cases [] y d (suc i) = inl refl
push_cases (x ∷ xs) y d zero = inl refl
push_cases (x ∷ xs) y d (suc i) = elim (push_cases xs y d i) [ inl e ↦ inl e | inr e ↦ inr (ap suc e.0, e.1) ]

replicate_cases : (P : ℤ → Type 0) (n : ℕ) (z : ℤ) (i : ℕ) → P z → P (pos 0) → P (get_or (replicate n z) i (pos 0))
replicate_cases P zero z i p q = q
replicate_cases P (suc n) z zero p q = p
replicate_cases P (suc n) z (suc i) p q = replicate_cases P n z i p q

-- ---- zeros

zero_is_kept : (t : TypeTerm) → IsKeptOf t (kept_zero (kind_said t))
zero_is_kept (typed_as.Number number.Int32) = record { fits = omega (arith, ints); same = refl; position = tt }
zero_is_kept (typed_as.Number number.Int64) = record { fits = omega (arith, ints); same = refl; position = tt }
zero_is_kept (typed_as.Number (number.Index k)) = record { fits = omega (arith, ints); same = refl; position = tt }
zero_is_kept typed_as.Truth = record { fits = omega (arith, ints); same = refl; position = tt }
zero_is_kept (typed_as.Pointer p) = record { fits = omega (arith, ints); same = refl; position = tt }
zero_is_kept (typed_as.Ispace k) = record { fits = omega (arith, ints); same = refl; position = tt }
zero_is_kept (typed_as.Region k u) = record { fits = omega (arith, ints); same = refl; position = tt }
zero_is_kept (typed_as.Partition d r c) = record { fits = omega (arith, ints); same = refl; position = tt }

pub none_is_kept : (t : TypeTerm) → IsKeptOf t (pos 0)
none_is_kept (typed_as.Number number.Int32) = record { fits = omega (arith, ints); same = refl; position = tt }
none_is_kept (typed_as.Number number.Int64) = record { fits = omega (arith, ints); same = refl; position = tt }
none_is_kept (typed_as.Number (number.Index k)) = record { fits = omega (arith, ints); same = refl; position = tt }
none_is_kept typed_as.Truth = record { fits = omega (arith, ints); same = refl; position = tt }
none_is_kept (typed_as.Pointer p) = record { fits = omega (arith, ints); same = refl; position = (omega (arith), omega (arith)) }
none_is_kept (typed_as.Ispace k) = record { fits = omega (arith, ints); same = refl; position = tt }
none_is_kept (typed_as.Region k u) = record { fits = omega (arith, ints); same = refl; position = tt }
none_is_kept (typed_as.Partition d r c) = record { fits = omega (arith, ints); same = refl; position = tt }

zeros_are_kept : (count : ℕ) (fields : List Param) (f p : ℕ) →
    IsKeptOf (get_or (map (λ (p : Param). p.term) fields) f typed_as.Truth)
    (get_or (get_or (map (λ k. replicate count (kept_zero k)) (map (λ (p : Param). kind_said p.term) fields)) f []) p (pos 0))
zeros_are_kept count [] f p = none_is_kept typed_as.Truth
zeros_are_kept count (q ∷ fields) zero p = replicate_cases (IsKeptOf q.term) count (kept_zero (kind_said q.term)) p (zero_is_kept q.term) (none_is_kept q.term)
zeros_are_kept count (q ∷ fields) (suc f) p = zeros_are_kept count fields f p

long : (n : ℕ) (z : ℤ) → length (replicate n z) ≡ n
long zero z = refl
long (suc n) z = ap suc (long n z)

columns_long : (count : ℕ) (kinds : List FieldKind) → map length (map (λ k. replicate count (kept_zero k)) kinds) ≡ map (λ k. count) kinds
columns_long count [] = refl
columns_long count (k ∷ kinds) = λ j. long count (kept_zero k) j ∷ columns_long count kinds j

-- ---- the store with one root more

module _ (tree : Tree) (roots : List Shape) (store : Store) (space count : ℕ) (fit : StoreFits tree roots store) (rooted : AreRootsOfSpaces tree roots) (few : count ≤ most_points) where
  abbrev new : RootImage
  new = new_root space count (field_kinds tree space)

  abbrev pub roots_made : List Shape
  roots_made = roots ++ shape_of new ∷ []

  pub made_rooted : AreRootsOfSpaces tree roots_made
  made_rooted = All-push (IsRootOfSpace tree) roots (shape_of new) rooted (record { bounded = few; columns = columns_long count (field_kinds tree space) })

  pub made_fits : StoreFits tree roots_made (store ++ new ∷ [])
  made_fits = record {
    shapes_are = map_push shape_of store new ∙ ap (λ rs. rs ++ shape_of new ∷ []) fit.shapes_are;
    numbers = λ r f p. elim (push_cases store new no_root r) [
      | inl e ↦ subst (λ (i : RootImage). IsKeptOf (field_term tree i.space f) (get_or (get_or i.fields f []) p (pos 0))) (sym e) (fit.numbers r f p)
      | inr e ↦ subst (λ (i : RootImage). IsKeptOf (field_term tree i.space f) (get_or (get_or i.fields f []) p (pos 0))) (sym e.1) (zeros_are_kept count (space_at tree space).fields f p)
    ];
  }

  pub made_extends : Extends roots roots_made
  made_extends = (shape_of new ∷ [], refl)

  there : get_or roots_made (length store) no_shape ≡ shape_of new
  there =
      let len = sym (length-map store shape_of) ∙ ap length fit.shapes_are in
      elim (push_cases roots (shape_of new) no_shape (length store)) [
        | inl e ↦ ap (λ n. get_or roots_made n no_shape) len ∙ at_end roots
        | inr e ↦ e.1
      ]
    where
      at_end : (rs : List Shape) → get_or (rs ++ shape_of new ∷ []) (length rs) no_shape ≡ shape_of new
      at_end [] = refl
      at_end (x ∷ rs) = at_end rs

  -- the region of all its points
  pub made_region : IsRegionOf roots_made space (record { root = length store; points = points count })
  made_region =
      let len = sym (length-map store shape_of) ∙ ap length fit.shapes_are in
      let more = length-append roots (shape_of new ∷ []) in record {
        there = omega (arith, len, more);
        of_space = ap (λ (s : Shape). s.space) there;
        points = subst (λ (s : Shape). IsPoints s.count (points count)) (sym there) (record {
          rising = rising-counted_from 0 count;
          below = counted_below 0 count count (omega (arith));
        });
      }

pub roots_are_made : RootsAreMade
roots_are_made tree roots store space count rooted fit few = record {
  after = roots_made tree roots store space count fit rooted few;
  is = refl;
  rooted = made_rooted tree roots store space count fit rooted few;
  store_fits = made_fits tree roots store space count fit rooted few;
  region = made_region tree roots store space count fit rooted few;
}
