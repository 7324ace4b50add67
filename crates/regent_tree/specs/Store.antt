-- The store: the roots that were made, with a number for each field and point; and touches of it.
use Rattle.std.specs.Prelude.{ℕ, ℤ, pos, List, [], ◌∷◌, get_or, map, slice_set, replicate}
use Rattle.lane_kernels.specs.declared.numbers.FieldKind.{FieldKind}
use Rattle.lane_kernels.specs.declared.numbers.Mode.{Mode}
use Rattle.regent_tree.specs.declared.outcome.RootImage.{RootImage}
use Rattle.regent_tree.specs.Values.{kept_zero}

-- the roots in order of making; a root is named by its place. Each has the place of its field space
-- among the program's, the count of its points (0 to count - 1), and each field's kept numbers
abbrev pub Store : Type 0
Store = List RootImage

abbrev pub no_root : RootImage
no_root = record { space = 0; count = 0; fields = [] }

-- a new root holds the zeros of its fields' kinds
abbrev pub new_root : ℕ → ℕ → List FieldKind → RootImage
new_root space count kinds = record {
  space = space;
  count = count;
  fields = map (λ k. replicate count (kept_zero k)) kinds;
}

-- the kept numbers of a field
abbrev pub column : Store → ℕ → ℕ → List ℤ
column store root field = get_or (get_or store root no_root).fields field []

-- the kept number of a field at a point
abbrev pub read_at : Store → ℕ → ℕ → ℕ → ℤ
read_at store root field point = get_or (column store root field) point (pos 0)

-- the store where that number is another
abbrev pub write_at : Store → ℕ → ℕ → ℕ → ℤ → Store
write_at store root field point z =
    let r = get_or store root no_root in
    slice_set store root (record r {
      fields = slice_set r.fields field (slice_set (get_or r.fields field []) point z);
    })

-- the store where the number is another at each of these points
abbrev pub write_all : Store → ℕ → ℕ → List ℕ → ℤ → Store
write_all store root field [] z = store
write_all store root field (x ∷ xs) z =
    write_all (write_at store root field x z) root field xs z

-- a read, a write or a reduction of a field at a point
pub record Touch : Type 0 where
  pub root : ℕ
  pub field : ℕ
  pub point : ℕ
  pub access : Mode

-- the same access at each of these points
abbrev pub touch_all : ℕ → ℕ → Mode → List ℕ → List Touch
touch_all root field access xs =
    map (λ x. record { root = root; field = field; point = x; access = access }) xs
