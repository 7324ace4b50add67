-- What fields keep: a kept number means a value that fits the field's type, and the number of one is kept.
use Rattle.std.proofs.Common.{List, [], ◌∷◌, Bool, true, false, refl, ap, sym, subst, ℕ, ℤ, zero, suc, ◌≡◌, ◌∙◌, ◌≤◌, get_or, map, inl, inr, arith}
use Rattle.std.proofs.lemmas.Int.{ints}
use Rattle.std.proofs.lemmas.List.{length-map}
use Rattle.std.proofs.lemmas.List.Elements.{All-head, All-tail}
use Rattle.std.proofs.Math.ListN.{get_or-map}
use Rattle.std.specs.List.{All}
use Rattle.std.specs.Prelude.{length}
use Rattle.plain_values.specs.Points.{has}
use Rattle.regent_tree.specs.Accesses.{space_in}
use Rattle.regent_tree.specs.Laws.{Shape, shape_of, shapes}
use Rattle.regent_tree.specs.Limits.{most}
use Rattle.regent_tree.specs.StaticTypes.{Looking, kind_said, looked_up, type_said}
use Rattle.regent_tree.specs.Store.{Store, no_root}
use Rattle.regent_tree.specs.Syntax.{Tree}
use Rattle.regent_tree.specs.Typing.{reaches_of}
use Rattle.regent_tree.specs.Values.{Region, Value, kept_number, kept_target, kept_truth, meant, no_region, target_kept}
use Rattle.regent_tree.specs.declared.limits.Counted.TheVariants.{Regions}
use Rattle.regent_tree.specs.declared.types.NumberTerm.TheVariants as number
use Rattle.regent_tree.specs.declared.types.TypeTerm.{TypeTerm}
use Rattle.regent_tree.specs.declared.types.TypeTerm.TheVariants as typed
use Rattle.regent_tree.specs.declared.typing.Bound.{Bound}
use Rattle.check_rules.specs.types.Declarations.{is_no_field_type}
use Rattle.check_laws.proofs.Parts.{contrary}
use Rattle.value_laws.specs.Fitting.{Fits, IsGoal, fits_index, fits_integer, fits_pointer, fits_truth}
use Rattle.value_laws.specs.Shapes.{IsKeptOf, IsPosition, IsRegionOf, no_shape}
use Rattle.value_laws.proofs.Numbers.{kept_target_fits, target_kept_back}

-- a root of a store has the field space that its shape has
pub same_space_of_root : (roots : List Shape) (store : Store) (root : ℕ) → shapes store ≡ roots →
    (get_or roots root no_shape).space ≡ (get_or store root no_root).space
same_space_of_root roots store root e =
    ap (λ (rs : List Shape). (get_or rs root no_shape).space) (sym e) ∙ ap (λ (s : Shape). s.space) (get_or-map shape_of store root no_root)

-- a pointer that hits goes into a region of its field space
pub goal_at : (roots : List Shape) (space : ℕ) (rs : List Region) (i n : ℕ) → All (IsGoal roots space) rs →
    has (get_or rs i no_region).points n ≡ true → IsRegionOf roots space (get_or rs i no_region)
goal_at roots space [] i n a e = absurd cc
goal_at roots space (r ∷ rs) zero n a e = elim (All-head (IsGoal roots space) r rs a) [
  | inl same ↦ absurd (contrary (sym (subst (λ (q : Region). has q.points n ≡ true) same e)))
  | inr is ↦ is
]
goal_at roots space (r ∷ rs) (suc i) n a e = goal_at roots space rs i n (All-tail (IsGoal roots space) r rs a) e

module _ (roots : List Shape) (names : List Bound) (tree : Tree) (look : Looking) where
  -- the value that a kept number means fits the field's type
  pub kept_value_fits : (t : TypeTerm) (rs : List Region) (z : ℤ) → is_no_field_type t ≡ false →
      All (IsGoal roots (space_in (type_said tree look 0 t))) rs → IsKeptOf t z → Fits roots names (type_said tree look 0 t) (meant (kind_said t) rs z)
  kept_value_fits (typed.Number number.Int32) rs z e go k = fits_integer k.fits
  kept_value_fits (typed.Number number.Int64) rs z e go k = fits_integer k.fits
  kept_value_fits (typed.Number (number.Index i)) rs z e go k = fits_index k.fits
  kept_value_fits typed.Truth rs z e go k = fits_truth
  kept_value_fits (typed.Pointer p) rs z e go k =
      fits_pointer (subst (λ n. IsPosition n (target_kept z)) (sym (length-map p.regions (looked_up look))) k.position) go
  kept_value_fits (typed.Ispace i) rs z e go k = absurd cc
  kept_value_fits (typed.Region i u) rs z e go k = absurd cc
  kept_value_fits (typed.Partition d r c) rs z e go k = absurd cc

  truth_is_kept : (b : Bool) → IsKeptOf typed.Truth (kept_truth b)
  truth_is_kept true = record { fits = omega (arith, ints); same = refl; position = tt }
  truth_is_kept false = record { fits = omega (arith, ints); same = refl; position = tt }

  -- the number of a value that fits a field's type is kept
  pub kept_number_fits : (t : TypeTerm) (v : Value) → is_no_field_type t ≡ false → length (reaches_of (type_said tree look 0 t)) ≤ most Regions →
      Fits roots names (type_said tree look 0 t) v → IsKeptOf t (kept_number v)
  kept_number_fits (typed.Number number.Int32) v e few (fits_integer f) = record { fits = f; same = refl; position = tt }
  kept_number_fits (typed.Number number.Int64) v e few (fits_integer f) = record { fits = f; same = refl; position = tt }
  kept_number_fits (typed.Number (number.Index i)) v e few (fits_index f) = record { fits = f; same = refl; position = tt }
  kept_number_fits typed.Truth v e few (fits_truth {b = b}) = truth_is_kept b
  kept_number_fits (typed.Pointer p) v e few (fits_pointer {t = t} is go) =
      let count = length (map (looked_up look) p.regions) in
      let back = target_kept_back count t is in record {
        fits = kept_target_fits count t few is;
        same = ap kept_target back;
        position = subst (IsPosition (length p.regions)) (sym back) (subst (λ n. IsPosition n t) (length-map p.regions (looked_up look)) is);
      }
  kept_number_fits (typed.Ispace i) v e few is = absurd cc
  kept_number_fits (typed.Region i u) v e few is = absurd cc
  kept_number_fits (typed.Partition d r c) v e few is = absurd cc
