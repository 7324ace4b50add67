-- What the roots hold: for each root, field and point a number. A root is named by its number.
use Rattle.std.specs.Prelude.{ℕ, suc, Bool, ℤ, pos, List, [], ◌∷◌, ◌++◌, cond, not, get_or, slice_set, map, filter, ◌==◌}
use Rattle.std.specs.List.{list_any}
use Rattle.lane_kernels.specs.declared.numbers.FieldKind.{FieldKind}
use Rattle.lane_kernels.specs.declared.numbers.FieldKind.TheVariants.{Truth}
use Rattle.region_tree.specs.declared.tree.RootId.{RootId}
use Rattle.regent_tree.specs.declared.outcome.RootImage.{RootImage}
use Rattle.regent_tree.specs.Store.{no_root}
use Rattle.task_code.specs.declared.code.Code.{Code}
use Rattle.task_code.specs.declared.code.FieldCode.{FieldCode}
use Rattle.task_code.specs.declared.code.SpaceCode.{SpaceCode}
use Rattle.machine_terms.specs.declared.order.Contents.{Contents}
use Rattle.machine_terms.specs.declared.order.Root.{Root}

-- before anything is made
abbrev pub no_contents : Contents
no_contents = record { made = 0; roots = [] }

-- the root with a number
abbrev pub image_in : List Root → ℕ → RootImage
image_in [] root = no_root
image_in (r ∷ rs) root = cond (r.id.0 == root) r.image (image_in rs root)

abbrev pub image_of : Contents → ℕ → RootImage
image_of contents root = image_in contents.roots root

-- the kept number of a field at a point
abbrev pub kept_at : Contents → ℕ → ℕ → ℕ → ℤ
kept_at contents root field point =
    get_or (get_or (image_of contents root).fields field []) point (pos 0)

-- the root where that number is another
abbrev pub with_number : RootImage → ℕ → ℕ → ℤ → RootImage
with_number r field point z = record r {
  fields = slice_set r.fields field (slice_set (get_or r.fields field []) point z);
}

abbrev pub kept_in : ℕ → ℕ → ℕ → ℤ → Root → Root
kept_in root field point z r = cond (r.id.0 == root)
    (record r { image = with_number r.image field point z }) r

abbrev pub keep : Contents → ℕ → ℕ → ℕ → ℤ → Contents
keep contents root field point z =
    record contents { roots = map (kept_in root field point z) contents.roots }

-- with a new root, whose number is how many were made before it
abbrev pub with_root : RootImage → Contents → Contents
with_root image contents = record {
  made = suc contents.made;
  roots = contents.roots ++ record { id = record { 0 = contents.made }; image = image } ∷ [];
}

-- without these roots; their numbers aren't given again
abbrev pub is_among : List RootId → Root → Bool
is_among ids r = list_any (λ (id : RootId). r.id.0 == id.0) ids

abbrev pub closed : List RootId → Contents → Contents
closed ids contents =
    record contents { roots = filter (λ r. not (is_among ids r)) contents.roots }

-- ---- field spaces

abbrev pub no_space : SpaceCode
no_space = record { name = []; fields = [] }

abbrev pub kinds_of : Code → ℕ → List FieldKind
kinds_of code space =
    map (λ (f : FieldCode). f.kind) (get_or code.spaces space no_space).fields

abbrev pub kind_of : Code → Contents → ℕ → ℕ → FieldKind
kind_of code contents root field =
    get_or (kinds_of code (image_of contents root).space) field Truth
