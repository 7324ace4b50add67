-- What the fields of the live roots hold: for each root, field and point a number.
use Rattle.std.specs.Prelude.{◌<◌, ◌==◌, Bool, List, [], ◌∷◌, ◌++◌, Option, Some, None, cond, filter, get_or, length, map, negsuc, not, pos, replicate, suc, zero, ℕ, ℤ}
use Rattle.std.specs.List.{list_any, position}
use Rattle.lane_kernels.specs.declared.numbers.FieldKind.{FieldKind}
use Rattle.lane_kernels.specs.declared.numbers.FieldKind.TheVariants.{Int32, Int64, Truth, Index, Pointer}
use Rattle.reduction_folds.specs.Folds.{number_in}

-- a field of a root: the root's points, the kind of its numbers, and a number beside each point
pub record Column : Type 0 where
  pub points : List ℕ
  pub kind : FieldKind
  pub numbers : List ℤ

-- a root, by its number, with its fields in order
pub record LiveRoot : Type 0 where
  pub root : ℕ
  pub columns : List Column

abbrev pub LogicalMap : Type 0
LogicalMap = List LiveRoot

-- ---- what is found

abbrev pub is_root : ℕ → LiveRoot → Bool
is_root root r = r.root == root

abbrev pub is_live : LogicalMap → ℕ → Bool
is_live roots root = list_any (is_root root) roots

abbrev pub columns_of : LogicalMap → ℕ → List Column
columns_of [] root = []
columns_of (r ∷ rs) root = cond (is_root root r) r.columns (columns_of rs root)

-- the field of a root that isn't live, or lacks it
abbrev pub no_column : Column
no_column = record { points = []; kind = Truth; numbers = [] }

abbrev pub column_of : LogicalMap → ℕ → ℕ → Column
column_of roots root field = get_or (columns_of roots root) field no_column

-- the number beside a point
abbrev pub number_beside : List ℕ → List ℤ → ℕ → Option ℤ
number_beside points numbers point = number_in numbers (position (λ x. x == point) points)

abbrev pub number_or_zero : Option ℤ → ℤ
number_or_zero None = pos 0
number_or_zero (Some z) = z

abbrev pub number_in_column : Column → ℕ → ℤ
number_in_column c point = number_or_zero (number_beside c.points c.numbers point)

abbrev pub number_at : LogicalMap → ℕ → ℕ → ℕ → ℤ
number_at roots root field point = number_in_column (column_of roots root field) point

-- a live root has the field
abbrev pub IsThere : LogicalMap → ℕ → ℕ → Type 0
IsThere roots root field = field < length (columns_of roots root)

-- ---- roots that come and go

-- the number that a new field holds: null of a pointer, else 0
abbrev pub zero_of : FieldKind → ℤ
zero_of Int32 = pos 0
zero_of Int64 = pos 0
zero_of Truth = pos 0
zero_of Index = pos 0
zero_of Pointer = negsuc 0

abbrev pub new_column : List ℕ → FieldKind → Column
new_column points kind =
    record { points = points; kind = kind; numbers = replicate (length points) (zero_of kind) }

abbrev pub opened : ℕ → List ℕ → List FieldKind → LogicalMap → LogicalMap
opened root points kinds roots =
    roots ++ record { root = root; columns = map (new_column points) kinds } ∷ []

abbrev pub closed : ℕ → LogicalMap → LogicalMap
closed root roots = filter (λ r. not (is_root root r)) roots

-- ---- a field that changes

abbrev pub on_field : ℕ → (Column → Column) → List Column → List Column
on_field field f [] = []
on_field zero f (c ∷ cs) = f c ∷ cs
on_field (suc field) f (c ∷ cs) = c ∷ on_field field f cs

abbrev pub on_root : ℕ → (List Column → List Column) → LogicalMap → LogicalMap
on_root root f [] = []
on_root root f (r ∷ rs) =
    cond (is_root root r) (record r { columns = f r.columns } ∷ rs) (r ∷ on_root root f rs)

abbrev pub on_column : ℕ → ℕ → (Column → Column) → LogicalMap → LogicalMap
on_column root field f roots = on_root root (on_field field f) roots
