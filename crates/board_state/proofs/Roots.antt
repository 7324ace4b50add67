-- Live roots: each has a smaller number than the next one that is made.
use Rattle.std.specs.Prelude.{OnErr, OnOk, Result, Ok, Err, not}
use Rattle.std.proofs.Common.{◌≡◌, ◌≤◌, ◌+◌, ℕ, zero, suc, Bool, true, false, List, [], ◌∷◌, All, arith, cond, filter, map, subst, sym}
use Rattle.std.proofs.lemmas.List.Elements.{All-append, All-cons, All-filter, All-head, All-nil, All-tail, All-weaker}
use Rattle.lane_kernels.specs.declared.numbers.FieldKind.{FieldKind}
use Rattle.region_tree.specs.declared.piece.Part.{Part}
use Rattle.region_tree.specs.declared.tree.RootId.{RootId}
use Rattle.logical_map.specs.Gives.{add_reduction, is_reduction, is_write, with_pieces}
use Rattle.logical_map.specs.Maps.{Column, LiveRoot, LogicalMap, closed, is_root, new_column, on_field, on_root, opened}
use Rattle.board_terms.specs.Closings.{closed_all, map_behind}
use Rattle.board_terms.specs.Gives.{with_part, with_parts}
use Rattle.board_terms.specs.States.{State, operation_at}
use Rattle.board_gives.specs.Makes.{IsRootBelow}

-- ---- roots that come and go

pub live_later : (n m : ℕ) (roots : LogicalMap) → n ≤ m → All (IsRootBelow n) roots → All (IsRootBelow m) roots
live_later n m roots l a = All-weaker (IsRootBelow n) (IsRootBelow m) (λ r b. omega (arith, b, l)) roots a

pub live_opened : (n : ℕ) (points : List ℕ) (kinds : List FieldKind) (roots : LogicalMap) → All (IsRootBelow n) roots →
    All (IsRootBelow (n + 1)) (opened n points kinds roots)
live_opened n points kinds roots a =
    let root : LiveRoot = record { root = n; columns = map (new_column points) kinds } in
    All-append (IsRootBelow (n + 1)) roots (root ∷ []) (live_later n (n + 1) roots (omega arith) a)
    (All-cons (IsRootBelow (n + 1)) root [] (omega arith) (All-nil (IsRootBelow (n + 1))))

pub live_closed : (n : ℕ) (rs : List RootId) (roots : LogicalMap) → All (IsRootBelow n) roots → All (IsRootBelow n) (closed_all rs roots)
live_closed n [] roots a = a
live_closed n (r ∷ rs) roots a =
    live_closed n rs (closed r.0 roots) (All-filter (λ x. not (is_root r.0 x)) (IsRootBelow n) roots a)

pub live_behind : (s : State) (k : ℕ) → All (IsRootBelow s.tree.roots) s.map → All (IsRootBelow s.tree.roots) (map_behind s k)
live_behind s zero a = a
live_behind s (suc k) a = live_closed s.tree.roots (operation_at s (suc k)).frame.own s.map a

-- ---- parts that go back

live_on_root : (n root : ℕ) (f : List Column → List Column) (roots : LogicalMap) → All (IsRootBelow n) roots →
    All (IsRootBelow n) (on_root root f roots)
live_on_root n root f [] a = a
live_on_root n root f (r ∷ rs) a = by (is_root root r) (live_on_root n root f rs (All-tail (IsRootBelow n) r rs a))
  where
    by : (b : Bool) → All (IsRootBelow n) (on_root root f rs) →
        All (IsRootBelow n) (cond b (record r { columns = f r.columns } ∷ rs) (r ∷ on_root root f rs))
    by true more = All-cons (IsRootBelow n) (record r { columns = f r.columns }) rs
        (All-head (IsRootBelow n) r rs a) (All-tail (IsRootBelow n) r rs a)
    by false more = All-cons (IsRootBelow n) r (on_root root f rs) (All-head (IsRootBelow n) r rs a) more

live_with_part : (n : ℕ) (q : Part) (roots : LogicalMap) → All (IsRootBelow n) roots → All (IsRootBelow n) (with_part q roots)
live_with_part n q roots a =
    live_on_root n q.root.0 (on_field q.field (with_pieces (filter is_write q.pieces))) (add_reduction q roots)
    (live_on_root n q.root.0 (on_field q.field (with_pieces (filter is_reduction q.pieces))) roots a)

pub live_with_parts : (n : ℕ) (qs : List Part) (roots : LogicalMap) → All (IsRootBelow n) roots → All (IsRootBelow n) (with_parts qs roots)
live_with_parts n [] roots a = a
live_with_parts n (q ∷ qs) roots a = live_with_parts n qs (with_part q roots) (live_with_part n q roots a)

-- they went back, or nothing changed
pub live_given : {A E : Type 0} (r : Result A E) (n : ℕ) (qs : List Part) (before after : LogicalMap) → OnOk r (after ≡ with_parts qs before) →
    OnErr r (after ≡ before) → All (IsRootBelow n) before → All (IsRootBelow n) after
live_given (Ok a) n qs before after f g l = subst (All (IsRootBelow n)) (sym f) (live_with_parts n qs before l)
live_given (Err e) n qs before after f g l = subst (All (IsRootBelow n)) (sym g) l
