-- Roots that are kept, and the logical map that they stand for.
use Rattle.std.proofs.Common.{◌≡◌, ◌≢◌, ◌∙◌, ◌≤◌, ◌<◌, ◌+◌, ◌==◌, ◌++◌, ◌||◌, ◌&&◌, ◌⊎◌, inl, inr, Bool, true, false, cond, not, List, [], ◌∷◌, None, Option, Some, ap, arith, filter, get_or, length, map, refl, slice_get, subst, suc, sym, zero, ℕ}
use Rattle.std.specs.Prelude.{slice_set}
use Rattle.std.specs.List.{list_any, position, position_from}
use Rattle.std.specs.Borrow.{Bor}
use Rattle.std.specs.Option.{IfNone, IfSome, option_copied}
use Rattle.std.specs.Prelude.{Err, Ok, Result}
use Rattle.std.specs.Result.{OnOk}
use Rattle.std.proofs.Math.ListN.{get_or-map}
use Rattle.std.proofs.lemmas.Bool.{cases_Bool, eqb-true, ne_eqb}
use Rattle.std.proofs.lemmas.Iterator.Adapters.{position_from-zero}
use Rattle.std.proofs.lemmas.List.{length-map, map-append}
use Rattle.std.proofs.lemmas.List.Quantifiers.{position-Some}
use Rattle.std.proofs.lemmas.Option.{get_or_from_slice_get, slice_get_within}
use Rattle.lane_kernels.specs.declared.numbers.FieldKind.{FieldKind}
use Rattle.logical_map.specs.Maps.{Column, IsThere, LiveRoot, closed, column_of, columns_of, new_column, no_column, on_column, on_field, opened}
use Rattle.physical_instances.specs.Fields.{KeepsRoom, LowersRoom, LowersSpare, column_if, with_field}
use Rattle.physical_instances.specs.Kept.{FieldContents, KeepsSpare, RootContents, column_in, field_of, fields_of, is_kept, live_root, map_of, no_field, spare_of}

-- ---- fields of a root

pub field_given : (fields : List FieldContents) (k : ℕ) (f : Column → Column) (old new : FieldContents) → k < length fields →
    old ≡ get_or fields k old → new.column ≡ f old.column →
    map column_in (slice_set fields k new) ≡ on_field k f (map column_in fields)
field_given [] k f old new l e is = absurd (omega (arith, l))
field_given (g ∷ fs) zero f old new l e is = ap (λ c. c ∷ map column_in fs) (is ∙ ap (λ (x : FieldContents). f x.column) e)
field_given (g ∷ fs) (suc k) f old new l e is =
    ap (λ cs. g.column ∷ cs) (field_given fs k f old new (omega (arith, l)) e is)

pub field_lacked : (fields : List FieldContents) (k : ℕ) (f : Column → Column) → length fields ≤ k →
    on_field k f (map column_in fields) ≡ map column_in fields
field_lacked [] k f l = refl
field_lacked (g ∷ fs) zero f l = absurd (omega (arith, l))
field_lacked (g ∷ fs) (suc k) f l = ap (λ cs. g.column ∷ cs) (field_lacked fs k f (omega (arith, l)))

pub field_same : (fields : List FieldContents) (k : ℕ) (old new : FieldContents) → k < length fields →
    old ≡ get_or fields k old → new.column ≡ old.column → map column_in (slice_set fields k new) ≡ map column_in fields
field_same [] k old new l e is = absurd (omega (arith, l))
field_same (g ∷ fs) zero old new l e is = ap (λ c. c ∷ map column_in fs) (is ∙ ap (λ (x : FieldContents). x.column) e)
field_same (g ∷ fs) (suc k) old new l e is = ap (λ cs. g.column ∷ cs) (field_same fs k old new (omega (arith, l)) e is)

-- ---- the first root with a number

abbrev no_root : RootContents
no_root = record { root = 0; fields = [] }

-- it stands at a place
pub record IsAt (roots : List RootContents) (root place : ℕ) (r : RootContents) : Type 0 where
  pub below : place < length roots
  pub here : r ≡ get_or roots place r
  pub kept : is_kept root r ≡ true
  pub before : (k : ℕ) → k < place → is_kept root (get_or roots k no_root) ≡ false

pub column_given : (roots : List RootContents) (root field place : ℕ) (f : Column → Column) (r x : RootContents) →
    IsAt roots root place r → live_root x ≡ with_field field f (live_root r) →
    map_of (slice_set roots place x) ≡ on_column root field f (map_of roots)
column_given [] root field place f r x at is = absurd (omega (arith, at.below))
column_given (q ∷ qs) root field zero f r x at is =
    ap (λ y. y ∷ map_of qs) (is ∙ ap (λ (s : RootContents). with_field field f (live_root s)) at.here) ∙
    sym (ap (λ b. cond b (with_field field f (live_root q) ∷ map_of qs) (live_root q ∷ on_column root field f (map_of qs)))
    (sym (ap (λ (s : RootContents). is_kept root s) at.here) ∙ at.kept))
column_given (q ∷ qs) root field (suc place) f r x at is =
    let rest : IsAt qs root place r = record {
      below = omega (arith, at.below);
      here = at.here;
      kept = at.kept;
      before = λ k l. at.before (suc k) (omega (arith, l));
    } in
    ap (λ ys. live_root q ∷ ys) (column_given qs root field place f r x rest is) ∙
    sym (ap (λ b. cond b (with_field field f (live_root q) ∷ map_of qs) (live_root q ∷ on_column root field f (map_of qs)))
    (at.before zero (omega arith)))

pub columns_same : (roots : List RootContents) (place : ℕ) (r x : RootContents) → place < length roots →
    r ≡ get_or roots place r → live_root x ≡ live_root r → map_of (slice_set roots place x) ≡ map_of roots
columns_same [] place r x l e is = absurd (omega (arith, l))
columns_same (q ∷ qs) zero r x l e is = ap (λ y. y ∷ map_of qs) (is ∙ ap live_root e)
columns_same (q ∷ qs) (suc place) r x l e is =
    ap (λ ys. live_root q ∷ ys) (columns_same qs place r x (omega (arith, l)) e is)

pub spare_kept : (roots : List RootContents) (place : ℕ) (r x : RootContents) → place < length roots →
    r ≡ get_or roots place r → x.root ≡ r.root → KeepsRoom r.fields x.fields → KeepsSpare roots (slice_set roots place x)
spare_kept [] place r x l e same room root field = absurd (omega (arith, l))
spare_kept (q ∷ qs) zero r x l e same room root field =
    by_case (q.root == root) (ap (λ (n : ℕ). n == root) (same ∙ ap (λ (s : RootContents). s.root) e))
  where
    by_case : (b : Bool) → (x.root == root) ≡ b → (get_or (cond b q.fields (fields_of qs root)) field no_field).spare
        ≤ (get_or (cond (x.root == root) x.fields (fields_of qs root)) field no_field).spare
    by_case true h =
        let old : (get_or r.fields field no_field).spare ≡ (get_or q.fields field no_field).spare =
        ap (λ (s : RootContents). (get_or s.fields field no_field).spare) e in
        let new : (get_or (cond (x.root == root) x.fields (fields_of qs root)) field no_field).spare ≡ (get_or x.fields field no_field).spare =
        ap (λ b. (get_or (cond b x.fields (fields_of qs root)) field no_field).spare) h in
        let more : (get_or r.fields field no_field).spare ≤ (get_or x.fields field no_field).spare = room field in
        omega (arith, old, new, more)
    by_case false h =
        let new : (get_or (cond (x.root == root) x.fields (fields_of qs root)) field no_field).spare ≡ (get_or (fields_of qs root) field no_field).spare =
        ap (λ b. (get_or (cond b x.fields (fields_of qs root)) field no_field).spare) h in
        omega (arith, new)
spare_kept (q ∷ qs) (suc place) r x l e same room root field =
    by_case (q.root == root) (spare_kept qs place r x (omega (arith, l)) e same room root field)
  where
    by_case : (b : Bool) → spare_of qs root field ≤ spare_of (slice_set qs place x) root field →
        (get_or (cond b q.fields (fields_of qs root)) field no_field).spare
        ≤ (get_or (cond b q.fields (fields_of (slice_set qs place x) root)) field no_field).spare
    by_case true rest = omega arith
    by_case false rest = rest

-- the first root with a number takes fewer reductions on one field
pub spare_lowered : (roots : List RootContents) (root field place less : ℕ) (r x : RootContents) → IsAt roots root place r → x.root ≡ r.root →
    LowersRoom field less r.fields x.fields → LowersSpare root field less roots (slice_set roots place x)
spare_lowered [] root field place less r x at same room n f = absurd (omega (arith, at.below))
spare_lowered (q ∷ qs) root field zero less r x at same room n f =
    by_case (q.root == n) (cases_Bool (q.root == n)) (ap (λ (k : ℕ). k == n) (same ∙ ap (λ (s : RootContents). s.root) at.here))
  where
    by_case : (b : Bool) → ((q.root == n) ≡ true) ⊎ ((q.root == n) ≡ false) → (x.root == n) ≡ (q.root == n) →
        spare_of (q ∷ qs) n f ≤ spare_of (x ∷ qs) n f + cond ((root == n) && (field == f)) less 0
    by_case b (inl h) e =
        let is : (root == n) ≡ true = ap (λ (k : ℕ). k == n) (sym (eqb-true r.root root at.kept) ∙ ap (λ (s : RootContents). s.root) at.here) ∙ h in
        let before : spare_of (q ∷ qs) n f ≡ (get_or r.fields f no_field).spare =
        ap (λ t. (get_or (cond t q.fields (fields_of qs n)) f no_field).spare) h ∙ sym (ap (λ (s : RootContents). (get_or s.fields f no_field).spare) at.here) in
        let after : spare_of (x ∷ qs) n f ≡ (get_or x.fields f no_field).spare =
        ap (λ t. (get_or (cond t x.fields (fields_of qs n)) f no_field).spare) (e ∙ h) in
        let much : cond ((root == n) && (field == f)) less 0 ≡ cond (field == f) less 0 = ap (λ t. cond (t && (field == f)) less 0) is in
        let most : (get_or r.fields f no_field).spare ≤ (get_or x.fields f no_field).spare + cond (field == f) less 0 = room f in
        omega (arith, before, after, much, most)
    by_case b (inr h) e =
        let before : spare_of (q ∷ qs) n f ≡ spare_of qs n f = ap (λ t. (get_or (cond t q.fields (fields_of qs n)) f no_field).spare) h in
        let after : spare_of (x ∷ qs) n f ≡ spare_of qs n f = ap (λ t. (get_or (cond t x.fields (fields_of qs n)) f no_field).spare) (e ∙ h) in
        omega (arith, before, after)
spare_lowered (q ∷ qs) root field (suc place) less r x at same room n f =
    let rest : IsAt qs root place r = record {
      below = omega (arith, at.below);
      here = at.here;
      kept = at.kept;
      before = λ k l. at.before (suc k) (omega (arith, l));
    } in
    by_case (q.root == n) (spare_lowered qs root field place less r x rest same room n f)
  where
    by_case : (b : Bool) → spare_of qs n f ≤ spare_of (slice_set qs place x) n f + cond ((root == n) && (field == f)) less 0 →
        (get_or (cond b q.fields (fields_of qs n)) f no_field).spare
        ≤ (get_or (cond b q.fields (fields_of (slice_set qs place x) n)) f no_field).spare + cond ((root == n) && (field == f)) less 0
    by_case true rest = omega arith
    by_case false rest = rest

-- ---- what is found

pub fields_found : (roots : List RootContents) (root place : ℕ) (r : RootContents) → IsAt roots root place r →
    fields_of roots root ≡ r.fields
fields_found [] root place r at = absurd (omega (arith, at.below))
fields_found (q ∷ qs) root zero r at =
    ap (λ b. cond b q.fields (fields_of qs root)) (sym (ap (λ (s : RootContents). is_kept root s) at.here) ∙ at.kept) ∙
    sym (ap (λ (s : RootContents). s.fields) at.here)
fields_found (q ∷ qs) root (suc place) r at =
    let rest : IsAt qs root place r = record {
      below = omega (arith, at.below);
      here = at.here;
      kept = at.kept;
      before = λ k l. at.before (suc k) (omega (arith, l));
    } in
    ap (λ b. cond b q.fields (fields_of qs root)) (at.before zero (omega arith)) ∙ fields_found qs root place r rest

none_from : (root i : ℕ) (roots : List RootContents) → position_from (is_kept root) i roots ≡ None →
    list_any (is_kept root) roots ≡ false
none_from root i [] e = refl
none_from root i (q ∷ qs) e = by_case (is_kept root q) (none_from root (i + 1) qs) e
  where
    by_case : (b : Bool) → (position_from (is_kept root) (i + 1) qs ≡ None → list_any (is_kept root) qs ≡ false) →
        cond b (Some i) (position_from (is_kept root) (i + 1) qs) ≡ None → (b || list_any (is_kept root) qs) ≡ false
    by_case true rest h = absurd cc
    by_case false rest h = rest h

pub none_kept : (root : ℕ) (roots : List RootContents) → position (is_kept root) roots ≡ None →
    list_any (is_kept root) roots ≡ false
none_kept root roots e = none_from root 0 roots (sym (position_from-zero (is_kept root) roots) ∙ e)

pub fields_absent : (roots : List RootContents) (root : ℕ) → list_any (is_kept root) roots ≡ false → fields_of roots root ≡ []
fields_absent [] root e = refl
fields_absent (q ∷ qs) root e = by_case (q.root == root) (fields_absent qs root) e
  where
    by_case : (b : Bool) → (list_any (is_kept root) qs ≡ false → fields_of qs root ≡ []) →
        (b || list_any (is_kept root) qs) ≡ false → cond b q.fields (fields_of qs root) ≡ []
    by_case true rest h = absurd cc
    by_case false rest h = rest h

pub column_absent : (roots : List RootContents) (root field : ℕ) (f : Column → Column) →
    list_any (is_kept root) roots ≡ false → on_column root field f (map_of roots) ≡ map_of roots
column_absent [] root field f e = refl
column_absent (q ∷ qs) root field f e = by_case (q.root == root) (column_absent qs root field f) e
  where
    by_case : (b : Bool) → (list_any (is_kept root) qs ≡ false → on_column root field f (map_of qs) ≡ map_of qs) →
        (b || list_any (is_kept root) qs) ≡ false →
        cond b (with_field field f (live_root q) ∷ map_of qs) (live_root q ∷ on_column root field f (map_of qs)) ≡ map_of (q ∷ qs)
    by_case true rest h = absurd cc
    by_case false rest h = ap (λ ys. live_root q ∷ ys) (rest h)

pub columns_are : (roots : List RootContents) (root : ℕ) → columns_of (map_of roots) root ≡ map column_in (fields_of roots root)
columns_are [] root = refl
columns_are (q ∷ qs) root = by_case (q.root == root) (columns_are qs root)
  where
    by_case : (b : Bool) → columns_of (map_of qs) root ≡ map column_in (fields_of qs root) →
        cond b (map column_in q.fields) (columns_of (map_of qs) root) ≡ map column_in (cond b q.fields (fields_of qs root))
    by_case true rest = refl
    by_case false rest = rest

pub column_is : (roots : List RootContents) (root field : ℕ) → column_of (map_of roots) root field ≡ (field_of roots root field).column
column_is roots root field =
    ap (λ cs. get_or cs field no_column) (columns_are roots root) ∙ get_or-map column_in (fields_of roots root) field no_field

-- ---- roots that come and go

pub root_opened : (roots : List RootContents) (root : ℕ) (points : List ℕ) (kinds : List FieldKind) (r : RootContents) →
    r.root ≡ root → map column_in r.fields ≡ map (new_column points) kinds →
    map_of (roots ++ r ∷ []) ≡ opened root points kinds (map_of roots)
root_opened roots root points kinds r e is =
    map-append live_root roots (r ∷ []) ∙
    ap (λ (n : ℕ). map_of roots ++ (let l : LiveRoot = record { root = n; columns = map column_in r.fields } in l) ∷ []) e ∙
    ap (λ cs. map_of roots ++ (let l : LiveRoot = record { root = root; columns = cs } in l) ∷ []) is

pub spare_behind : (roots : List RootContents) (r : RootContents) → KeepsSpare roots (roots ++ r ∷ [])
spare_behind [] r root field = omega arith
spare_behind (q ∷ qs) r root field = by_case (q.root == root) (spare_behind qs r root field)
  where
    by_case : (b : Bool) → spare_of qs root field ≤ spare_of (qs ++ r ∷ []) root field →
        (get_or (cond b q.fields (fields_of qs root)) field no_field).spare
        ≤ (get_or (cond b q.fields (fields_of (qs ++ r ∷ []) root)) field no_field).spare
    by_case true rest = omega arith
    by_case false rest = rest

pub root_closed : (roots : List RootContents) (root : ℕ) →
    map_of (filter (λ r. not (is_kept root r)) roots) ≡ closed root (map_of roots)
root_closed [] root = refl
root_closed (q ∷ qs) root = by_case (q.root == root) (root_closed qs root)
  where
    by_case : (b : Bool) → map_of (filter (λ r. not (is_kept root r)) qs) ≡ closed root (map_of qs) →
        map_of (cond (not b) (q ∷ filter (λ r. not (is_kept root r)) qs) (filter (λ r. not (is_kept root r)) qs))
        ≡ cond (not b) (live_root q ∷ closed root (map_of qs)) (closed root (map_of qs))
    by_case true rest = rest
    by_case false rest = ap (λ ys. live_root q ∷ ys) rest

pub others_stay : (roots : List RootContents) (root other : ℕ) → other ≢ root →
    fields_of (filter (λ r. not (is_kept root r)) roots) other ≡ fields_of roots other
others_stay [] root other n = refl
others_stay (q ∷ qs) root other n = by_case (q.root == root) (others_stay qs root other n) refl
  where
    by_case : (b : Bool) → fields_of (filter (λ r. not (is_kept root r)) qs) other ≡ fields_of qs other → (q.root == root) ≡ b →
        fields_of (cond (not b) (q ∷ filter (λ r. not (is_kept root r)) qs) (filter (λ r. not (is_kept root r)) qs)) other
        ≡ cond (q.root == other) q.fields (fields_of qs other)
    by_case true rest e =
        rest ∙
        sym (ap (λ b. cond b q.fields (fields_of qs other))
        (ne_eqb q.root other (λ i. n (sym i ∙ eqb-true q.root root e))))
    by_case false rest e = ap (λ fs. cond (q.root == other) q.fields fs) rest

-- ---- as code finds them

none_past : (fs : List FieldContents) (k : ℕ) → slice_get fs k ≡ None → length fs ≤ k
none_past [] k e = omega arith
none_past (f ∷ fs) zero e = absurd cc
none_past (f ∷ fs) (suc k) e = let l = none_past fs k e in omega (arith, l)

get_or-past : (fs : List FieldContents) (k : ℕ) (d : FieldContents) → length fs ≤ k → get_or fs k d ≡ d
get_or-past [] k d l = refl
get_or-past (f ∷ fs) zero d l = absurd (omega (arith, l))
get_or-past (f ∷ fs) (suc k) d l = get_or-past fs k d (omega (arith, l))

pub at_place : (roots : List RootContents) (root place : ℕ) (r : RootContents) → position (is_kept root) roots ≡ Some place →
    r ≡ get_or roots place r → IsAt roots root place r
at_place roots root place r e here =
    let found = position-Some (is_kept root) roots place r e in
    let before = position-Some (is_kept root) roots place no_root e in record {
      below = found.0;
      here = here;
      kept = ap (λ (s : RootContents). is_kept root s) here ∙ found.1;
      before = before.2;
    }

pub field_found : (roots : List RootContents) (root field place : ℕ) (r : RootContents) (f : FieldContents) →
    position (is_kept root) roots ≡ Some place → r ≡ get_or roots place r → slice_get r.fields field ≡ Some f →
    field_of roots root field ≡ f
field_found roots root field place r f e here is =
    ap (λ fs. get_or fs field no_field) (fields_found roots root place r (at_place roots root place r e here)) ∙
    get_or_from_slice_get r.fields field f no_field is

pub column_found : (roots : List RootContents) (root field place : ℕ) (r : RootContents) (f : FieldContents) →
    position (is_kept root) roots ≡ Some place → r ≡ get_or roots place r → slice_get r.fields field ≡ Some f →
    column_of (map_of roots) root field ≡ f.column
column_found roots root field place r f e here is =
    column_is roots root field ∙ ap (λ (x : FieldContents). x.column) (field_found roots root field place r f e here is)

pub there_found : (roots : List RootContents) (root field place : ℕ) (r : RootContents) (f : FieldContents) →
    position (is_kept root) roots ≡ Some place → r ≡ get_or roots place r → slice_get r.fields field ≡ Some f →
    IsThere (map_of roots) root field
there_found roots root field place r f e here is =
    let count : length (columns_of (map_of roots) root) ≡ length r.fields =
    ap length (columns_are roots root) ∙ length-map (fields_of roots root) column_in ∙
    ap length (fields_found roots root place r (at_place roots root place r e here)) in
    let below : field < length r.fields = slice_get_within r.fields field f is in
    omega (arith, count, below)

no_fields_there : (roots : List RootContents) (root field : ℕ) (fs : List FieldContents) → fields_of roots root ≡ fs →
    length fs ≤ field → (IsThere (map_of roots) root field → ⊥) × (column_of (map_of roots) root field ≡ no_column)
no_fields_there roots root field fs is l =
    let count : length (columns_of (map_of roots) root) ≡ length fs =
    ap length (columns_are roots root) ∙ length-map (fields_of roots root) column_in ∙ ap length is in (
      λ below. let b : field < length (columns_of (map_of roots) root) = below in absurd (omega (arith, b, count, l)),
      column_is roots root field ∙
          ap (λ (gs : List FieldContents). (get_or gs field no_field).column) is ∙
          ap (λ (x : FieldContents). x.column) (get_or-past fs field no_field l),
    )

pub field_missing : (roots : List RootContents) (root field place : ℕ) (r : RootContents) →
    position (is_kept root) roots ≡ Some place → r ≡ get_or roots place r → slice_get r.fields field ≡ None →
    (IsThere (map_of roots) root field → ⊥) × (column_of (map_of roots) root field ≡ no_column)
field_missing roots root field place r e here is =
    no_fields_there roots root field r.fields (fields_found roots root place r (at_place roots root place r e here))
    (none_past r.fields field is)

pub root_missing : (roots : List RootContents) (root field : ℕ) → position (is_kept root) roots ≡ None →
    (IsThere (map_of roots) root field → ⊥) × (column_of (map_of roots) root field ≡ no_column)
root_missing roots root field e =
    no_fields_there roots root field [] (fields_absent roots root (none_kept root roots e)) (omega arith)

pub given_at_place : (roots : List RootContents) (root field place : ℕ) (f : Column → Column) (r x : RootContents) →
    position (is_kept root) roots ≡ Some place → r ≡ get_or roots place r → live_root x ≡ with_field field f (live_root r) →
    map_of (slice_set roots place x) ≡ on_column root field f (map_of roots)
given_at_place roots root field place f r x e here is =
    column_given roots root field place f r x (at_place roots root place r e here) is

-- a root that keeps its fields and their room
pub map_at_place : (kept roots : List RootContents) (root place : ℕ) (r x : RootContents) → kept ≡ roots → position (is_kept root) roots ≡ Some place →
    r ≡ get_or roots place r → live_root x ≡ live_root r → map_of (slice_set kept place x) ≡ map_of roots
map_at_place kept roots root place r x same e here is =
    ap (λ (rs : List RootContents). map_of (slice_set rs place x)) same ∙ columns_same roots place r x (at_place roots root place r e here).below here is

pub spare_at_place : (kept roots : List RootContents) (root place : ℕ) (r x : RootContents) → kept ≡ roots → position (is_kept root) roots ≡ Some place →
    r ≡ get_or roots place r → x.root ≡ r.root → KeepsRoom r.fields x.fields → KeepsSpare roots (slice_set kept place x)
spare_at_place kept roots root place r x same e here is room =
    subst (λ (rs : List RootContents). KeepsSpare roots (slice_set rs place x)) (sym same) (spare_kept roots place r x (at_place roots root place r e here).below here is room)

pub given_nowhere : (roots : List RootContents) (root field : ℕ) (f : Column → Column) → position (is_kept root) roots ≡ None →
    on_column root field f (map_of roots) ≡ map_of roots
given_nowhere roots root field f e = column_absent roots root field f (none_kept root roots e)

pub IfNone_then : {X : Type 0} (o : Option X) {P Q : Type 0} → IfNone o P → (P → Q) → IfNone o Q
IfNone_then None p f = f p
IfNone_then (Some x) p f = p

pub OnOk_then : {T E P Q : Type 0} (r : Result T E) → OnOk r P → (P → Q) → OnOk r Q
OnOk_then (Ok x) p f = f p
OnOk_then (Err e) p f = tt

-- what is found of a field, and nothing else where it isn't there
pub column_if_found : (c : Column) (o : Option (Bor FieldContents)) → IfSome o (λ f. c ≡ f.now.column) → IfNone o (c ≡ no_column) →
    c ≡ column_if (option_copied o)
column_if_found c None found none = none
column_if_found c (Some f) found none = found

-- ---- room that was made

fields_set : (roots : List RootContents) (root place : ℕ) (r x : RootContents) → IsAt roots root place r → x.root ≡ r.root →
    fields_of (slice_set roots place x) root ≡ x.fields
fields_set [] root place r x at same = absurd (omega (arith, at.below))
fields_set (q ∷ qs) root zero r x at same =
    ap (λ b. cond b x.fields (fields_of qs root)) (ap (λ (n : ℕ). n == root) same ∙ at.kept)
fields_set (q ∷ qs) root (suc place) r x at same =
    let rest : IsAt qs root place r = record {
      below = omega (arith, at.below);
      here = at.here;
      kept = at.kept;
      before = λ k l. at.before (suc k) (omega (arith, l));
    } in
    ap (λ b. cond b q.fields (fields_of (slice_set qs place x) root)) (at.before zero (omega arith)) ∙
    fields_set qs root place r x rest same

pub room_made : (roots : List RootContents) (root field place more : ℕ) (r x : RootContents) →
    position (is_kept root) roots ≡ Some place → r ≡ get_or roots place r → live_root x ≡ live_root r →
    (field < length x.fields → more ≤ (get_or x.fields field no_field).spare) →
    IsThere (map_of roots) root field → more ≤ spare_of (slice_set roots place x) root field
room_made roots root field place more r x e here same room there =
    let at = at_place roots root place r e here in
    let below : field < length (columns_of (map_of roots) root) = there in
    let count : length (columns_of (map_of roots) root) ≡ length r.fields =
    ap length (columns_are roots root) ∙ length-map (fields_of roots root) column_in ∙ ap length (fields_found roots root place r at) in
    let alike : length x.fields ≡ length r.fields =
    sym (length-map x.fields column_in) ∙ ap (λ (l : LiveRoot). length l.columns) same ∙ length-map r.fields column_in in
    let has : more ≤ (get_or x.fields field no_field).spare = room (omega (arith, below, count, alike)) in
    let set : spare_of (slice_set roots place x) root field ≡ (get_or x.fields field no_field).spare =
    ap (λ fs. (get_or fs field no_field).spare) (fields_set roots root place r x at (ap (λ (l : LiveRoot). l.root) same)) in
    omega (arith, has, set)
