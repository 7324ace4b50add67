-- What clauses list: fields, places and needs.
use Rattle.std.proofs.Common.{◌≡◌, ℕ, zero, suc, ◌+◌, ◌<◌, List, [], ◌∷◌, inl, inr, true, false, Option, Some, None, refl, sym, subst, arith}
use Rattle.std.specs.Prelude.{Bool, bytes_eq, cond, filter, length, map}
use Rattle.std.specs.List.{list_any}
use Rattle.std.proofs.lemmas.Slice.Eq.{bytes_eq-Decides}
use Rattle.lane_kernels.specs.declared.numbers.Mode.{Mode}
use Rattle.plain_values.specs.Points.{counted_from, points}
use Rattle.regent_tree.proofs.Members.{Has, Has-append_left, Has-append_right, Has-map, Has-map_cases, list_any-from_Has}
use Rattle.regent_tree.specs.Lookup.{has_field}
use Rattle.regent_tree.specs.StaticTypes.{field_place, space_at}
use Rattle.regent_tree.specs.Syntax.{Name, TaskTree, Tree}
use Rattle.regent_tree.specs.declared.program.Clause.{Clause}
use Rattle.regent_tree.specs.declared.program.Grant.{Grant}
use Rattle.regent_tree.specs.declared.program.Place.{Place}
use Rattle.regent_tree.specs.declared.types.Param.{Param}
use Rattle.check_rules.specs.rules.Privileges.{fields_named}
use Rattle.task_code.specs.declared.code.NeedCode.{NeedCode}
use Rattle.code_rules.specs.Needs.{fields_said, mode_of, needs_of_clause, needs_of_clauses, needs_of_grants, needs_of_place, needs_of_places}
use Rattle.code_laws.proofs.Typing.{first_below}

-- numbers in a row
pub has_points : (first n k : ℕ) → k < n → Has (counted_from first n) (first + k)
has_points first zero k l = absurd (omega (arith, l))
has_points first (suc n) zero l = inl (omega arith)
has_points first (suc n) (suc k) l =
    inr (subst (Has (counted_from (suc first) n)) (omega arith) (has_points (suc first) n k (omega (arith, l))))

pub zero_more : (n : ℕ) → 0 + n ≡ n
zero_more n = omega arith

-- a name is one of those of the params that have it
pub named_below : (ps : List Param) (p : Param) → Has ps p → list_any (λ (q : Param). bytes_eq q.name p.name) ps ≡ true
named_below ps p h = list_any-from_Has (λ (q : Param). bytes_eq q.name p.name) ps p h ((bytes_eq-Decides p.name p.name).1 refl)

pub filtered : {A : Type 0} (test : A → Bool) (xs : List A) (y : A) → Has (filter test xs) y → Has xs y
filtered test [] y h = h
filtered test (x ∷ xs) y h = chosen (test x) (filtered test xs y) h
  where
    chosen : (b : Bool) → (Has (filter test xs) y → Has xs y) → Has (cond b (x ∷ filter test xs) (filter test xs)) y → Has (x ∷ xs) y
    chosen true more (inl e) = inl e
    chosen true more (inr g) = inr (more g)
    chosen false more g = inr (more g)

-- the fields that a clause names are those that its needs are of
pub fields_are : (tree : Tree) (sp : ℕ) (o : Option (List Name)) (f : ℕ) → Has (fields_named tree sp o) f → Has (fields_said tree sp o) f
fields_are tree sp None f h =
    let ps = (space_at tree sp).fields in
    let p = Has-map_cases (λ (p : Param). field_place tree sp p.name) ps f h in
    subst (Has (points (length ps))) p.2
    (subst (Has (points (length ps))) (zero_more (field_place tree sp p.0.name))
    (has_points 0 (length ps) (field_place tree sp p.0.name)
    (first_below (λ (q : Param). bytes_eq q.name p.0.name) ps (named_below ps p.0 p.1))))
fields_are tree sp (Some fs) f h =
    let n = Has-map_cases (field_place tree sp) (filter (has_field tree sp) fs) f h in
    subst (Has (map (field_place tree sp) fs)) n.2 (Has-map (field_place tree sp) fs n.0 (filtered (has_field tree sp) fs n.0 n.1))

pub places_have : (tree : Tree) (t : TaskTree) (m : Mode) (ps : List Place) (p : Place) (n : NeedCode) → Has ps p → Has (needs_of_place tree t m p) n →
    Has (needs_of_places tree t m ps) n
places_have tree t m [] p n h g = absurd h
places_have tree t m (q ∷ ps) p n (inl e) g =
    Has-append_left (needs_of_place tree t m q) (needs_of_places tree t m ps) n (subst (λ q. Has (needs_of_place tree t m q) n) (sym e) g)
places_have tree t m (q ∷ ps) p n (inr h) g =
    Has-append_right (needs_of_place tree t m q) (needs_of_places tree t m ps) n (places_have tree t m ps p n h g)

pub grants_have : (tree : Tree) (t : TaskTree) (gs : List Grant) (places : List Place) (g : Grant) (n : NeedCode) → Has gs g →
    Has (needs_of_places tree t (mode_of g) places) n → Has (needs_of_grants tree t gs places) n
grants_have tree t [] places g n h k = absurd h
grants_have tree t (f ∷ gs) places g n (inl e) k =
    Has-append_left (needs_of_places tree t (mode_of f) places) (needs_of_grants tree t gs places) n
    (subst (λ f. Has (needs_of_places tree t (mode_of f) places) n) (sym e) k)
grants_have tree t (f ∷ gs) places g n (inr h) k =
    Has-append_right (needs_of_places tree t (mode_of f) places) (needs_of_grants tree t gs places) n (grants_have tree t gs places g n h k)

pub clauses_have : (tree : Tree) (t : TaskTree) (cs : List Clause) (c : Clause) (n : NeedCode) → Has cs c → Has (needs_of_clause tree t c) n →
    Has (needs_of_clauses tree t cs) n
clauses_have tree t [] c n h k = absurd h
clauses_have tree t (d ∷ cs) c n (inl e) k =
    Has-append_left (needs_of_clause tree t d) (needs_of_clauses tree t cs) n (subst (λ d. Has (needs_of_clause tree t d) n) (sym e) k)
clauses_have tree t (d ∷ cs) c n (inr h) k =
    Has-append_right (needs_of_clause tree t d) (needs_of_clauses tree t cs) n (clauses_have tree t cs c n h k)
