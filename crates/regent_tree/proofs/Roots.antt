-- Writes keep the shapes of roots.
use Rattle.std.specs.Prelude.{◌≡◌, ℕ, ℤ, List, [], map, get_or, slice_set, length}
use mathlib.Core.Path.{ap}
use Rattle.std.proofs.lemmas.List.{length-set}
use Rattle.std.proofs.Math.Seq.{map-set_same}
use Rattle.regent_tree.specs.declared.outcome.RootImage.{RootImage}
use Rattle.regent_tree.specs.Store.{Store, no_root, write_at}
use Rattle.regent_tree.specs.Laws.{shape_of, shapes}

pub lengths_kept : (columns : List (List ℤ)) (field point : ℕ) (z : ℤ) →
    map length (slice_set columns field (slice_set (get_or columns field []) point z)) ≡ map length
    columns
lengths_kept columns field point z =
    map-set_same length columns field _ [] (length-set (get_or columns field []) point z)

pub shape_kept : (r : RootImage) (field point : ℕ) (z : ℤ) →
    shape_of (record r {
      fields =
          slice_set r.fields field (slice_set (get_or r.fields field []) point z);
    }) ≡ shape_of r
shape_kept r field point z =
    ap (λ ls. record { space = r.space; count = r.count; lengths = ls })
    (lengths_kept r.fields field point z)

pub shapes_written : (store : Store) (root field point : ℕ) (z : ℤ) →
    shapes (write_at store root field point z) ≡ shapes store
shapes_written store root field point z =
    map-set_same shape_of store root _ no_root
    (shape_kept (get_or store root no_root) field point z)
