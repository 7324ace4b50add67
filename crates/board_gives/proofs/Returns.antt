-- What parts that go back make of the map, and of the room.
use Rattle.std.specs.Prelude.{◌==◌, ◌&&◌, not}
use Rattle.std.proofs.Common.{◌≡◌, ◌≤◌, ◌<◌, ◌+◌, ◌∙◌, ℕ, zero, suc, Bool, true, false, List, [], ◌∷◌, ap, arith, cond, filter, inl, inr, length, refl, sym, subst}
use Rattle.std.proofs.lemmas.Bool.{false≢true}
use Rattle.std.proofs.lemmas.Bool.Decides.{eqb_tells}
use Rattle.std.proofs.lemmas.List.Sums.{sum_by-cons}
use Rattle.region_tree.specs.Pieces.{Held}
use Rattle.region_tree.specs.declared.piece.Part.{Part}
use Rattle.lane_kernels.specs.declared.numbers.Mode.{Mode}
use Rattle.lane_kernels.specs.declared.numbers.Mode.TheVariants.{Read, Write, Reduce}
use Rattle.logical_map.specs.Gives.{add_reduction, is_reduction, is_write, put_back, reductions_in, reductions_on, with_pieces, without_reductions}
use Rattle.logical_map.specs.Maps.{Column, IsThere, LogicalMap, columns_of, is_root, on_column, on_field, on_root}
use Rattle.physical_instances.specs.Kept.{RootContents, map_of, spare_of}
use Rattle.board_gives.specs.Rooms.{HasRoom}
use Rattle.board_terms.specs.Gives.{with_part}

-- ---- fields that aren't there

past_all : (field : ℕ) (f : Column → Column) (cs : List Column) → (field < length cs → ⊥) → on_field field f cs ≡ cs
past_all field f [] n = refl
past_all zero f (c ∷ cs) n = absurd (n (omega arith))
past_all (suc field) f (c ∷ cs) n = ap (λ (ds : List Column). c ∷ ds) (past_all field f cs (λ b. n (omega (arith, b))))

none_changed : (root field : ℕ) (f : Column → Column) (roots : LogicalMap) → (IsThere roots root field → ⊥) → on_column root field f roots ≡ roots
none_changed root field f [] n = refl
none_changed root field f (r ∷ rs) n = by (is_root root r) refl (none_changed root field f rs)
  where
    by : (b : Bool) → is_root root r ≡ b → ((IsThere rs root field → ⊥) → on_column root field f rs ≡ rs) →
        cond b (record r { columns = on_field field f r.columns } ∷ rs) (r ∷ on_root root (on_field field f) rs) ≡ r ∷ rs
    by true e more = ap (λ (cs : List Column). record r { columns = cs } ∷ rs)
        (past_all field f r.columns (λ h. n (subst (λ (b : Bool). field < length (cond b r.columns (columns_of rs root))) (sym e) h)))
    by false e more = ap (λ (us : LogicalMap). r ∷ us)
        (more (λ h. n (subst (λ (b : Bool). field < length (cond b r.columns (columns_of rs root))) (sym e) h)))

-- no reduction is folded into them
pub fold_absent : (q : Part) (roots : LogicalMap) → (IsThere roots q.root.0 q.field → ⊥) → add_reduction q roots ≡ roots
fold_absent q roots n = none_changed q.root.0 q.field (with_pieces (filter is_reduction q.pieces)) roots n

-- ---- the pieces for writing are as they were

one_write : (h : Held) (m : Mode) → h.mode ≡ m → is_write h ≡ true → not (is_reduction h) ≡ true
one_write h Read e w = ap (λ (x : Mode). not (is_reduction (record h { mode = x }))) e
one_write h Write e w = ap (λ (x : Mode). not (is_reduction (record h { mode = x }))) e
one_write h (Reduce op) e w = absurd (false≢true (sym (ap (λ (x : Mode). is_write (record h { mode = x })) e) ∙ w))

writes_left : (hs : List Held) → filter is_write (filter (λ h. not (is_reduction h)) hs) ≡ filter is_write hs
writes_left [] = refl
writes_left (h ∷ hs) = by (is_write h) (not (is_reduction h)) refl refl (writes_left hs)
  where
    by : (w n : Bool) → is_write h ≡ w → not (is_reduction h) ≡ n →
        filter is_write (filter (λ x. not (is_reduction x)) hs) ≡ filter is_write hs →
        filter is_write (cond n (h ∷ filter (λ (x : Held). not (is_reduction x)) hs) (filter (λ (x : Held). not (is_reduction x)) hs))
        ≡ cond w (h ∷ filter is_write hs) (filter is_write hs)
    by true true e d more = ap (λ (b : Bool). cond b (h ∷ filter is_write (filter (λ (x : Held). not (is_reduction x)) hs)) (filter is_write (filter (λ (x : Held). not (is_reduction x)) hs))) e
        ∙ ap (λ (ks : List Held). h ∷ ks) more
    by true false e d more = absurd (false≢true (sym d ∙ one_write h h.mode refl e))
    by false true e d more = ap (λ (b : Bool). cond b (h ∷ filter is_write (filter (λ (x : Held). not (is_reduction x)) hs)) (filter is_write (filter (λ (x : Held). not (is_reduction x)) hs))) e
        ∙ more
    by false false e d more = more

pub same_writes : (q : Part) (roots : LogicalMap) → put_back (without_reductions q) roots ≡ put_back q roots
same_writes q roots = ap (λ (hs : List Held). on_column q.root.0 q.field (with_pieces hs) roots) (writes_left q.pieces)

-- ---- room

field_stays : (field other : ℕ) (f : Column → Column) (cs : List Column) → other < length (on_field field f cs) → other < length cs
field_stays field other f [] b = b
field_stays zero other f (c ∷ cs) b = b
field_stays (suc field) zero f (c ∷ cs) b = omega arith
field_stays (suc field) (suc other) f (c ∷ cs) b =
    let less : other < length cs = field_stays field other f cs (omega (arith, b)) in omega (arith, less)

columns_stay : (root other field place : ℕ) (f : Column → Column) (roots : LogicalMap) →
    IsThere (on_column root field f roots) other place → IsThere roots other place
columns_stay root other field place f [] h = h
columns_stay root other field place f (r ∷ rs) h = by (is_root root r) (columns_stay root other field place f rs) h
  where
    here : (b : Bool) → place < length (cond b (on_field field f r.columns) (columns_of rs other)) →
        place < length (cond b r.columns (columns_of rs other))
    here true l = field_stays field place f r.columns l
    here false l = l

    behind : (b : Bool) → (IsThere (on_column root field f rs) other place → IsThere rs other place) → place < length (cond b r.columns (columns_of (on_column root field f rs) other)) →
        place < length (cond b r.columns (columns_of rs other))
    behind true more l = l
    behind false more l = more l

    by : (b : Bool) → (IsThere (on_column root field f rs) other place → IsThere rs other place) →
        IsThere (cond b (record r { columns = on_field field f r.columns } ∷ rs) (r ∷ on_root root (on_field field f) rs)) other place →
        place < length (cond (is_root other r) r.columns (columns_of rs other))
    by true more l = here (is_root other r) l
    by false more l = behind (is_root other r) more l

there_before : (q : Part) (roots : LogicalMap) (root field : ℕ) → IsThere (with_part q roots) root field → IsThere roots root field
there_before q roots root field h =
    columns_stay q.root.0 root q.field field (with_pieces (filter is_reduction q.pieces)) roots
    (columns_stay q.root.0 root q.field field (with_pieces (filter is_write q.pieces)) (add_reduction q roots) h)

pub room_behind : (q : Part) (qs : List Part) (before after : List RootContents) → HasRoom before (q ∷ qs) →
    map_of after ≡ with_part q (map_of before) →
    ((root field : ℕ) → spare_of before root field ≤ spare_of after root field + reductions_in root field q) → HasRoom after qs
room_behind q qs before after room m spare root field h =
    let split : reductions_on (q ∷ qs) root field ≡ reductions_in root field q + reductions_on qs root field = sum_by-cons (reductions_in root field) q qs in
    omega (arith, split, room root field (there_before q (map_of before) root field (subst (λ (roots : LogicalMap). IsThere roots root field) m h)), spare root field)

same_number : (n : ℕ) → (n == n) ≡ true
same_number n = elim (eqb_tells n n) [ inl h ↦ h.0 | inr h ↦ absurd (h.1 refl) ]

own_reductions : (q : Part) → reductions_in q.root.0 q.field q ≡ length (filter is_reduction q.pieces)
own_reductions q = ap (λ (b : Bool). cond (b && (q.field == q.field)) (length (filter is_reduction q.pieces)) 0) (same_number q.root.0)
    ∙ ap (λ (b : Bool). cond (true && b) (length (filter is_reduction q.pieces)) 0) (same_number q.field)

first_part : (n m k : ℕ) (q : Part) (qs : List Part) → n ≡ length (filter is_reduction q.pieces) → m ≡ n + k → length (filter is_reduction q.pieces) ≤ m
first_part n m k q qs e f = omega (arith, e, f)

pub room_for_first : (q : Part) (qs : List Part) (roots : List RootContents) → HasRoom roots (q ∷ qs) →
    IsThere (map_of roots) q.root.0 q.field → length (filter is_reduction q.pieces) ≤ spare_of roots q.root.0 q.field
room_for_first q qs roots room h =
    let some = first_part (reductions_in q.root.0 q.field q) (reductions_on (q ∷ qs) q.root.0 q.field) (reductions_on qs q.root.0 q.field) q qs
    (own_reductions q) (sum_by-cons (reductions_in q.root.0 q.field) q qs) in
    omega (arith, some, room q.root.0 q.field h)
