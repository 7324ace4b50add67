-- Parts that go back leave as many fields as there were.
use Rattle.std.proofs.Common.{◌≡◌, ◌∙◌, ℕ, zero, suc, Bool, true, false, List, [], ◌∷◌, ap, cond, length, refl}
use Rattle.region_tree.specs.declared.piece.Part.{Part}
use Rattle.logical_map.specs.Gives.{add_reduction, is_reduction, is_write, with_pieces}
use Rattle.logical_map.specs.Maps.{Column, LogicalMap, columns_of, is_root, on_column, on_field, on_root}
use Rattle.std.specs.Prelude.{filter}
use Rattle.board_terms.specs.Gives.{with_part, with_parts}

as_many : (field : ℕ) (f : Column → Column) (cs : List Column) → length (on_field field f cs) ≡ length cs
as_many field f [] = refl
as_many zero f (c ∷ cs) = refl
as_many (suc field) f (c ∷ cs) = ap suc (as_many field f cs)

in_either : (b : Bool) (xs ys us vs : List Column) → length xs ≡ length ys → length us ≡ length vs → length (cond b xs us) ≡ length (cond b ys vs)
in_either true xs ys us vs e f = e
in_either false xs ys us vs e f = f

same_columns : (root field other : ℕ) (f : Column → Column) (roots : LogicalMap) →
    length (columns_of (on_column root field f roots) other) ≡ length (columns_of roots other)
same_columns root field other f [] = refl
same_columns root field other f (r ∷ rs) = by (is_root root r) (same_columns root field other f rs)
  where
    by : (b : Bool) → length (columns_of (on_column root field f rs) other) ≡ length (columns_of rs other) →
        length (columns_of (cond b (record r { columns = on_field field f r.columns } ∷ rs) (r ∷ on_root root (on_field field f) rs)) other)
        ≡ length (cond (is_root other r) r.columns (columns_of rs other))
    by true more = in_either (is_root other r) (on_field field f r.columns) r.columns (columns_of rs other) (columns_of rs other) (as_many field f r.columns) refl
    by false more = in_either (is_root other r) r.columns r.columns (columns_of (on_column root field f rs) other) (columns_of rs other) refl more

pub same_fields : (qs : List Part) (roots : LogicalMap) (other : ℕ) →
    length (columns_of (with_parts qs roots) other) ≡ length (columns_of roots other)
same_fields [] roots other = refl
same_fields (q ∷ qs) roots other =
    same_fields qs (with_part q roots) other
    ∙ same_columns q.root.0 q.field other (with_pieces (filter is_write q.pieces)) (add_reduction q roots)
    ∙ same_columns q.root.0 q.field other (with_pieces (filter is_reduction q.pieces)) roots
