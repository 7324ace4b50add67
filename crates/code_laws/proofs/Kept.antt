-- The numbers that a store's fields keep: where one is written, a root is made, and the roots of a call are dropped.
use Rattle.std.proofs.Common.{◌≡◌, ⊎_elim, ℕ, zero, suc, ◌≤◌, ℤ, pos, List, [], ◌∷◌, ◌++◌, true, false, refl, sym, ap, subst, arith}
use Rattle.std.specs.Prelude.{get_or, length, take, ◌-◌}
use Rattle.std.proofs.lemmas.Int.{ints}
use Rattle.std.proofs.lemmas.Bool.{cases_lt}
use Rattle.std.proofs.lemmas.List.{get_or-take}
use Rattle.std.proofs.lemmas.List.Elements.{All-nil}
use Rattle.std.proofs.Math.ListN.{get_or-append, get_or-eq_default}
use Rattle.std.proofs.Math.Seq.{get_or-append_right}
use Rattle.lane_kernels.specs.Numbers.{FitsWidth, width_of}
use Rattle.lane_kernels.specs.declared.numbers.FieldKind.{FieldKind}
use Rattle.lane_kernels.specs.declared.numbers.Width.{Width}
use Rattle.regent_tree.specs.Laws.{shapes}
use Rattle.regent_tree.specs.StaticTypes.{field_kinds, field_term, kind_said}
use Rattle.regent_tree.specs.Store.{Store, new_root, no_root, write_all, write_at}
use Rattle.regent_tree.specs.Syntax.{Tree}
use Rattle.regent_tree.specs.Values.{Value, kept_number, kept_target, meant, target_of}
use Rattle.regent_tree.specs.declared.outcome.RootImage.{RootImage}
use Rattle.regent_tree.specs.declared.types.TypeTerm.{TypeTerm}
use Rattle.regent_tree.specs.declared.typing.StaticType.{StaticType}
use Rattle.regent_tree.specs.declared.typing.StaticType.TheVariants.{Integer as integer_type}
use Rattle.memory_laws.specs.Memory.{IsKept}
use Rattle.value_laws.specs.Shapes.{IsKeptOf, IsPosition, IsRootOfSpace, KeepsNumbers, StoreFits, regions_listed}
use Rattle.value_laws.proofs.Numbers.{kept_target_fits, target_kept_back}
use Rattle.state_laws.proofs.Made.{made_fits, none_is_kept}
use Rattle.state_laws.proofs.Written.{all_written, numbers_written}
use Rattle.code_laws.specs.Pointers.{FieldKeeps, KeepsAs, keeps_index, keeps_plain, keeps_pointer}
use Rattle.code_laws.specs.Simple.{fits_32, fits_64, fits_truth}
use Rattle.code_laws.specs.Standing.{IsOf, of_index, of_integer, of_pointer, of_truth}

-- ---- values that fields keep

pub field_kept : (kind : FieldKind) (n : ℕ) (t : StaticType) (v : Value) → KeepsAs kind n t → IsOf t v → IsKept kind (kept_number v)
field_kept _ _ _ _ (keeps_plain _ _ _ fits_32) (of_integer _ z f) = (f, refl)
field_kept _ _ _ _ (keeps_plain _ _ _ fits_64) (of_integer _ z f) = (f, refl)
field_kept _ _ _ _ (keeps_plain _ _ _ fits_truth) (of_truth true) = (omega (arith, ints), refl)
field_kept _ _ _ _ (keeps_plain _ _ _ fits_truth) (of_truth false) = (omega (arith, ints), refl)
field_kept _ _ _ _ (keeps_index n j) (of_index _ z f) = (f, refl)
field_kept _ _ _ _ (keeps_pointer k sp args rs names few) (of_pointer _ _ _ _ tg qs o) =
    (kept_target_fits (length rs) tg few o, ap kept_target (target_kept_back (length rs) tg o))

-- the position of a pointer is one of the field's list
field_position : (kind : FieldKind) (n : ℕ) (t : StaticType) (v : Value) → KeepsAs kind n t → IsOf t v →
    IsPosition n (target_of (meant kind [] (kept_number v)))
field_position _ _ _ _ (keeps_plain _ _ _ fits_32) (of_integer _ z f) = tt
field_position _ _ _ _ (keeps_plain _ _ _ fits_64) (of_integer _ z f) = tt
field_position _ _ _ _ (keeps_plain _ _ _ fits_truth) (of_truth b) = tt
field_position _ _ _ _ (keeps_index n j) (of_index _ z f) = tt
field_position _ _ _ _ (keeps_pointer k sp args rs names few) (of_pointer _ _ _ _ tg qs o) =
    subst (IsPosition (length rs)) (sym (target_kept_back (length rs) tg o)) o

-- the number of a value is one that a field of its type may keep
pub kept_as : (declared : TypeTerm) (t : StaticType) (v : Value) → FieldKeeps declared t → IsOf t v → IsKeptOf declared (kept_number v)
kept_as declared t v fits o =
    let k = field_kept (kind_said declared) (regions_listed declared) t v fits o in record {
      fits = k.0;
      same = k.1;
      position = field_position (kind_said declared) (regions_listed declared) t v fits o;
    }

-- so is each integer that fits, of a field of integers
pub integer_kept : (kind : FieldKind) (n : ℕ) (w : Width) (z : ℤ) → KeepsAs kind n (integer_type w) → FitsWidth (width_of kind) z → IsKept kind z
integer_kept _ _ _ z (keeps_plain _ _ _ fits_32) f = (f, refl)
integer_kept _ _ _ z (keeps_plain _ _ _ fits_64) f = (f, refl)

integer_position : (kind : FieldKind) (n : ℕ) (w : Width) (z : ℤ) → KeepsAs kind n (integer_type w) → IsPosition n (target_of (meant kind [] z))
integer_position _ _ _ z (keeps_plain _ _ _ fits_32) = tt
integer_position _ _ _ z (keeps_plain _ _ _ fits_64) = tt

pub integer_kept_as : (declared : TypeTerm) (w : Width) (z : ℤ) → FieldKeeps declared (integer_type w) → FitsWidth (width_of (kind_said declared)) z →
    IsKeptOf declared z
integer_kept_as declared w z fits f =
    let k = integer_kept (kind_said declared) (regions_listed declared) w z fits f in record {
      fits = k.0;
      same = k.1;
      position = integer_position (kind_said declared) (regions_listed declared) w z fits;
    }

-- ---- stores

take_short : (n : ℕ) (store : Store) → length (take n store) ≤ n
take_short zero store = omega arith
take_short (suc n) [] = omega arith
take_short (suc n) (r ∷ store) = omega (arith, take_short n store)

module _ (tree : Tree) (store : Store) (kept : KeepsNumbers tree store) where
  -- a number is written that a field of the root's field space may keep
  pub numbers_at : (root field point sp : ℕ) (z : ℤ) → (get_or store root no_root).space ≡ sp → IsKeptOf (field_term tree sp field) z →
      KeepsNumbers tree (write_at store root field point z)
  numbers_at root field point sp z is k =
      numbers_written tree store root field point z kept (subst (λ n. IsKeptOf (field_term tree n field) z) (sym is) k)

  pub numbers_at_all : (root field sp : ℕ) (xs : List ℕ) (z : ℤ) → (get_or store root no_root).space ≡ sp → IsKeptOf (field_term tree sp field) z →
      KeepsNumbers tree (write_all store root field xs z)
  numbers_at_all root field sp xs z is k =
      (all_written tree (shapes store) store root field xs z (record { shapes_are = refl; numbers = kept })
      (subst (λ n. IsKeptOf (field_term tree n field) z) (sym is) k)).numbers

  -- the number of a field of a root at a place
  abbrev Keeps : ℕ → ℕ → RootImage → Type 0
  Keeps field point r = IsKeptOf (field_term tree r.space field) (get_or (get_or r.fields field []) point (pos 0))

  no_root_keeps : (field point : ℕ) → Keeps field point no_root
  no_root_keeps field point = none_is_kept (field_term tree 0 field)

  -- with one root more
  pub numbers_made : (sp count : ℕ) → count ≤ 4194304 → KeepsNumbers tree (store ++ new_root sp count (field_kinds tree sp) ∷ [])
  numbers_made sp count few root field point = ⊎_elim
      (λ low. subst (Keeps field point) (sym (get_or-append store (new ∷ []) no_root root low)) (kept root field point))
      (λ high. subst (Keeps field point) (sym (get_or-append_right store (new ∷ []) root no_root high)) (behind (root - length store)))
      (cases_lt root (length store))
    where
      new : RootImage
      new = new_root sp count (field_kinds tree sp)

      empty : StoreFits tree [] []
      empty = record { shapes_are = refl; numbers = λ r f p. none_is_kept (field_term tree 0 f) }

      behind : (n : ℕ) → Keeps field point (get_or (new ∷ []) n no_root)
      behind zero = (made_fits tree [] [] sp count empty (All-nil (IsRootOfSpace tree)) few).numbers 0 field point
      behind (suc n) = no_root_keeps field point

  -- with some dropped
  pub numbers_taken : (n : ℕ) → KeepsNumbers tree (take n store)
  numbers_taken n root field point = ⊎_elim
      (λ low. subst (Keeps field point) (sym (get_or-take n store root no_root low)) (kept root field point))
      (λ high. subst (Keeps field point) (sym (get_or-eq_default (take n store) no_root {n = root} (omega (arith, high, take_short n store))))
      (no_root_keeps field point))
      (cases_lt root n)

-- a store without roots
pub none_kept : (tree : Tree) → KeepsNumbers tree []
none_kept tree root field point = none_is_kept (field_term tree 0 field)
