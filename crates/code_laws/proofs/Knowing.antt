-- What is known of the value that an expression gives: the regions of a pointer are those that its type names.
use Rattle.std.proofs.Common.{◌≡◌, ◌⊎◌, ⊎_elim, inl, inr, ℕ, List, [], ◌∷◌, Bool, true, false, ℤ, pos, negsuc, Some, refl, sym, ap, ◌∙◌, subst}
use Rattle.std.specs.Prelude.{get_or, length, nat_lt}
use Rattle.plain_values.specs.Points.{has}
use Rattle.lane_kernels.specs.declared.numbers.FieldKind.{FieldKind}
use Rattle.lane_kernels.specs.declared.numbers.FieldKind.TheVariants.{Index, Int32, Int64, Pointer, Truth}
use Rattle.lane_kernels.specs.declared.numbers.Mode.TheVariants as mode
use Rattle.regent_tree.specs.Accesses.{Aim, aimed_through, converted, hits, misses, read_field, regions_reached, regions_written, space_in, standing, take_element, take_field}
use Rattle.regent_tree.specs.Evaluation.{stepped, value}
use Rattle.regent_tree.specs.Laws.{Leaves, SameNames}
use Rattle.regent_tree.specs.Operators.{cast_to}
use Rattle.regent_tree.specs.Running.{Here, Result, Run, State, and_then, fails, fault, given, gives, if_true}
use Rattle.regent_tree.specs.Scopes.{bound_to}
use Rattle.regent_tree.specs.StaticTypes.{Reach, field_kind, field_place, field_type}
use Rattle.regent_tree.specs.Syntax.{Expression, Name, Steps, number_expr, truth_expr, chain_expr, prefix_expr, call_expr, access_expr, convert_expr, is_null_expr, null_expr, cast_expr, space_expr, no_step, field_step, at_step}
use Rattle.regent_tree.specs.Typing.{reaches_of, stepped_type, taken_from, type_of_element, type_of_field}
use Rattle.regent_tree.specs.Values.{Region, Value, a_number, a_partition, a_pointer, a_region, a_space, a_truth, an_index, meant, null_target, number_of, point_target}
use Rattle.regent_tree.specs.declared.outcome.FaultKind.{FaultKind}
use Rattle.regent_tree.specs.declared.outcome.FaultKind.TheVariants.{OutOfRegion}
use Rattle.regent_tree.specs.declared.types.Kind.{Kind}
use Rattle.regent_tree.specs.declared.typing.Bound.{Bound}
use Rattle.regent_tree.specs.declared.typing.StaticType.{StaticType}
use Rattle.regent_tree.specs.declared.typing.StaticType.TheVariants.{Pointer as pointer_type, Region as region_type}
use Rattle.regent_tree.proofs.Laws.{expressions_keep_names}
use Rattle.machine_terms.specs.declared.order.Instance.{Instance}
use Rattle.code_rules.specs.Slots.{typed}
use Rattle.code_laws.specs.Arguments.{IsCutName}
use Rattle.code_laws.specs.Pointers.{ArePointed, AreReached, AreThere, IsPointed, IsPointer, IsWritten, a_pointer_type}
use Rattle.code_laws.specs.Simple.{IsPartition, IsRegion, a_partition_type, a_region_type}
use Rattle.code_laws.specs.Standing.{AreOf, Comes, IsOf, nothing, of_partition, of_pointer, of_region, where_of}
use Rattle.code_laws.specs.Steps.{Forms, Setting}
use Rattle.code_laws.specs.Typed.{AreFurther, IsBehind, IsPointing, IsTyped, MayGo, element_field, field_behind}
use Rattle.code_laws.proofs.PartTypes.{is_pointer_type, part_pointer}
use Rattle.code_laws.proofs.Pointing.{named_pointed, own_reached}
use Rattle.code_laws.proofs.PointerValues.{there_reached}
use Rattle.code_laws.proofs.Runs.{Said}
use Rattle.code_laws.proofs.Values.{named}
use Rattle.code_laws.proofs.Wider.{any_field}

-- what a result gives, if anything
abbrev pub GivesOnly : {A : Type 0} → (A → State → Type 0) → Result A → Type 0
GivesOnly P (gives a s) = P a s
GivesOnly P (fails f s) = Unit {0}

-- and it is known where the run goes on
pub then_known : (x : Setting) {A B : Type 0} (T : Instance → Result B → Type 0) → Said x T → (P : A → State → Type 0)
    (shape : A → Instance → Instance) (G : A → State → Instance → Type 0) (i : Instance) (r : Result A) (K : A → Run B) → GivesOnly P r →
    Comes x i shape G r → ((a : A) (s : State) (j : Instance) → P a s → G a s j → T (shape a j) (K a s)) → T i (and_then r K)
then_known x T said P shape G i (gives a s) K p c more = said.before i (shape a c.0) (K a s) c.1 (more a s c.0 p c.2)
then_known x T said P shape G i (fails f s) K p c more = said.failing i f s c

-- ---- elements

module _ (h : Here) (P : Value → State → Type 0) (q : Region) (K : Value → Run Value) where
  taken : (z : ℤ) (s : State) → ((n : ℕ) → GivesOnly P (K (a_pointer (point_target n 1) (q ∷ [])) s)) →
      GivesOnly P (and_then (take_element h z (a_region q) s) K)
  taken (negsuc n) s p = tt
  taken (pos n) s p = by (has q.points n)
    where
      by : (b : Bool) → GivesOnly P (and_then (if_true b (given (a_pointer (point_target n 1) (q ∷ []))) (fault h OutOfRegion) s) K)
      by true = p n
      by false = tt

  -- whatever stands for the index
  element_only : (r : Result Value) (s : State) → Leaves SameNames s r →
      ((s1 : State) (n : ℕ) → s1.names ≡ s.names → GivesOnly P (K (a_pointer (point_target n 1) (q ∷ [])) s1)) →
      GivesOnly P (and_then r (λ w s1. and_then (standing h w s1) (λ z. λ s2. and_then (take_element h (number_of z) (a_region q) s2) K)))
  element_only (fails f s1) s same p = tt
  element_only (gives (a_number w z) s1) s same p = taken z s1 (λ n. p s1 n same)
  element_only (gives (a_truth b) s1) s same p = taken (pos 0) s1 (λ n. p s1 n same)
  element_only (gives (an_index z) s1) s same p = taken z s1 (λ n. p s1 n same)
  element_only (gives (a_pointer null_target rs) s1) s same p = tt
  element_only (gives (a_pointer (point_target m i) rs) s1) s same p = taken (pos m) s1 (λ n. p s1 n same)
  element_only (gives (a_space n) s1) s same p = taken (pos 0) s1 (λ n. p s1 n same)
  element_only (gives (a_region r) s1) s same p = taken (pos 0) s1 (λ n. p s1 n same)
  element_only (gives (a_partition r) s1) s same p = taken (pos 0) s1 (λ n. p s1 n same)

-- `r[e]`, for a name that has a region
element_pointed : (h : Here) (t : StaticType) (v : Value) (e : Expression) (s : State) → IsRegion t → IsOf t v →
    ((q : Region) → v ≡ a_region q → AreReached h.scope.names s.names (space_in t) (reaches_of (taken_from t)) (q ∷ [])) →
    GivesOnly (λ u s1. IsPointed h.scope.names s1.names (type_of_element h.scope t e) u) (stepped h t v (at_step e no_step) s)
element_pointed h _ _ e s (a_region_type k sp args r) (of_region _ _ _ _ q) reach =
    element_only h (λ u s1. IsPointed h.scope.names s1.names (type_of_element h.scope (region_type k sp args r) e) u) q (λ v. given v) (value h e s) s
    (expressions_keep_names h e s)
    (λ s1 n names. subst (λ ns. AreReached h.scope.names ns sp (Some r ∷ []) (q ∷ [])) (sym names) (reach q refl))

-- ---- fields

-- a pointer that a field keeps goes to the regions that the field's type names
meant_pointed : (bs : List Bound) (names : List Value) (t : StaticType) (kind : FieldKind) (rs : List Region) (z : ℤ) →
    AreReached bs names (space_in t) (reaches_of t) rs → IsPointed bs names t (meant kind rs z)
meant_pointed bs names t Int32 rs z a = tt
meant_pointed bs names t Int64 rs z a = tt
meant_pointed bs names t Truth rs z a = tt
meant_pointed bs names t Index rs z a = tt
meant_pointed bs names t Pointer rs z a = a

-- where these are in scope
abbrev AreInScope : Here → State → StaticType → Type 0
AreInScope h s t = AreOf IsOf h.scope.names s.names × (length s.names ≡ length h.scope.names) × AreThere h.scope.names (space_in t) (reaches_of t)

read_pointed : (h : Here) (k : Kind) (sp : ℕ) (args rs : List Reach) (f : Name) (aim : Aim) (s : State) → AreInScope h s (field_type h.tree sp args f) →
    GivesOnly (λ u s1. IsPointed h.scope.names s1.names (field_type h.tree sp args f) u)
    (and_then (read_field h (pointer_type k sp args rs) f aim s) (λ v. given v))
read_pointed h k sp args rs f (misses fault) s a = tt
read_pointed h k sp args rs f (hits root n) s a =
    let t = field_type h.tree sp args f in
    meant_pointed h.scope.names s.names t (field_kind h.tree sp (field_place h.tree sp f)) (regions_reached h.scope s.names (reaches_of t)) _
    (there_reached h.scope s.names (space_in t) (reaches_of t) a.0 a.1 a.2)

-- `p.f`, for a name that has a pointer or a partition
pub behind_pointed : (h : Here) (t : StaticType) (f : Name) (v : Value) (s : State) → IsPointer t ⊎ IsPartition t → IsOf t v →
    AreInScope h s (type_of_field h.tree t f) →
    GivesOnly (λ u s1. IsPointed h.scope.names s1.names (type_of_field h.tree t f) u) (stepped h t v (field_step f no_step) s)
behind_pointed h _ f _ s (inl (a_pointer_type k sp args rs ns)) (of_pointer _ _ _ _ tg qs o) a = read_pointed h k sp args rs f (aimed_through qs tg) s a
behind_pointed h _ f _ s (inr (a_partition_type d r p)) (of_partition _ _ _ q) a = tt

-- `r[e].f`, for a name that has a region
pub field_pointed : (h : Here) (t : StaticType) (v : Value) (e : Expression) (f : Name) (s : State) → IsRegion t → IsOf t v →
    AreInScope h s (type_of_field h.tree (type_of_element h.scope t e) f) →
    GivesOnly (λ u s1. IsPointed h.scope.names s1.names (type_of_field h.tree (type_of_element h.scope t e) f) u)
    (stepped h t v (at_step e (field_step f no_step)) s)
field_pointed h _ _ e f s (a_region_type k sp args r) (of_region _ _ _ _ q) a =
    element_only h (λ u s1. IsPointed h.scope.names s1.names (field_type h.tree sp args f) u) q
    (λ v. stepped h (type_of_element h.scope (region_type k sp args r) e) v (field_step f no_step)) (value h e s) s
    (expressions_keep_names h e s)
    (λ s1 n names. read_pointed h k sp args (Some r ∷ []) f (aimed_through (q ∷ []) (point_target n 1)) s1
    (subst (λ ns. AreOf IsOf h.scope.names ns) (sym names) a.0, ap length names ∙ a.1, a.2))

-- ---- fields of what fields go to

pub only_given : (P : Value → State → Type 0) (r : Result Value) → GivesOnly P (and_then r (λ v. given v)) → GivesOnly P r
only_given P (gives v s) p = p
only_given P (fails f s) p = tt

-- of any value
pub taken_pointed : (h : Here) (t : StaticType) (f : Name) (v : Value) (s : State) → IsPointer t → AreInScope h s (type_of_field h.tree t f) →
    GivesOnly (λ u s1. IsPointed h.scope.names s1.names (type_of_field h.tree t f) u) (and_then (take_field h t f v s) (λ u. given u))
taken_pointed h _ f (a_pointer tg qs) s (a_pointer_type k sp args rs ns) a = read_pointed h k sp args rs f (aimed_through qs tg) s a
taken_pointed h _ f (a_partition q) s (a_pointer_type k sp args rs ns) a = tt
taken_pointed h _ f (a_number w z) s (a_pointer_type k sp args rs ns) a = tt
taken_pointed h _ f (a_truth b) s (a_pointer_type k sp args rs ns) a = tt
taken_pointed h _ f (an_index z) s (a_pointer_type k sp args rs ns) a = tt
taken_pointed h _ f (a_space n) s (a_pointer_type k sp args rs ns) a = tt
taken_pointed h _ f (a_region q) s (a_pointer_type k sp args rs ns) a = tt

-- what is read leaves the names
module _ (h : Here) (P : Value → State → Type 0) (K : Value → Run Value) where
  read_only : (t : StaticType) (f : Name) (aim : Aim) (s : State) → ((u : Value) (s1 : State) → s1.names ≡ s.names → GivesOnly P (K u s1)) →
      GivesOnly P (and_then (read_field h t f aim s) K)
  read_only t f (misses fault) s p = tt
  read_only t f (hits root n) s p = p _ _ refl

  taken_only : (t : StaticType) (f : Name) (v : Value) (s : State) → ((u : Value) (s1 : State) → s1.names ≡ s.names → GivesOnly P (K u s1)) →
      GivesOnly P (and_then (take_field h t f v s) K)
  taken_only t f (a_pointer tg qs) s p = read_only t f (aimed_through qs tg) s p
  taken_only t f (a_partition q) s p = p _ s refl
  taken_only t f (a_number w z) s p = tt
  taken_only t f (a_truth b) s p = tt
  taken_only t f (an_index z) s p = tt
  taken_only t f (a_space n) s p = tt
  taken_only t f (a_region q) s p = tt

scope_stays : (h : Here) (s s1 : State) (t : StaticType) → s1.names ≡ s.names → AreInScope h s t → AreInScope h s1 t
scope_stays h s s1 t names a = (subst (λ ns. AreOf IsOf h.scope.names ns) (sym names) a.0, ap length names ∙ a.1, a.2)

module _ (forms : Forms) (params : ℕ) (h : Here) where
  further_pointed : (rest : Steps) (t : StaticType) (f : Name) (v : Value) (s : State) → AreFurther forms (where_of params h) t (field_step f rest) →
      AreInScope h s (stepped_type h.tree h.scope t (field_step f rest)) →
      GivesOnly (λ u s1. IsPointed h.scope.names s1.names (stepped_type h.tree h.scope t (field_step f rest)) u) (stepped h t v (field_step f rest) s)
  further_pointed no_step t f v s fine a = taken_pointed h t f v s fine.0.pointer a
  further_pointed (field_step g rest) t f v s fine a =
      taken_only h (λ u s1. IsPointed h.scope.names s1.names (stepped_type h.tree h.scope t (field_step f (field_step g rest))) u)
      (λ u. stepped h (type_of_field h.tree t f) u (field_step g rest)) t f v s
      (λ u s1 names. further_pointed rest (type_of_field h.tree t f) g u s1 fine.1
      (scope_stays h s s1 (stepped_type h.tree h.scope t (field_step f (field_step g rest))) names a))
  further_pointed (at_step e rest) t f v s fine a = absurd fine.1

  -- `p.f.g`
  behind_further : (rest : Steps) (t : StaticType) (f g : Name) (v : Value) (s : State) →
      AreFurther forms (where_of params h) (type_of_field h.tree t f) (field_step g rest) →
      AreInScope h s (stepped_type h.tree h.scope t (field_step f (field_step g rest))) →
      GivesOnly (λ u s1. IsPointed h.scope.names s1.names (stepped_type h.tree h.scope t (field_step f (field_step g rest))) u)
      (stepped h t v (field_step f (field_step g rest)) s)
  behind_further rest t f g v s fine a =
      taken_only h (λ u s1. IsPointed h.scope.names s1.names (stepped_type h.tree h.scope t (field_step f (field_step g rest))) u)
      (λ u. stepped h (type_of_field h.tree t f) u (field_step g rest)) t f v s
      (λ u s1 names. further_pointed rest (type_of_field h.tree t f) g u s1 fine
      (scope_stays h s s1 (stepped_type h.tree h.scope t (field_step f (field_step g rest))) names a))

  -- `r[e].f.g`
  field_further : (rest : Steps) (t : StaticType) (e : Expression) (f g : Name) (v : Value) (s : State) → IsRegion t → IsOf t v →
      AreFurther forms (where_of params h) (type_of_field h.tree (type_of_element h.scope t e) f) (field_step g rest) →
      AreInScope h s (stepped_type h.tree h.scope t (at_step e (field_step f (field_step g rest)))) →
      GivesOnly (λ u s1. IsPointed h.scope.names s1.names (stepped_type h.tree h.scope t (at_step e (field_step f (field_step g rest)))) u)
      (stepped h t v (at_step e (field_step f (field_step g rest))) s)
  field_further rest _ e f g _ s (a_region_type k sp args r) (of_region _ _ _ _ q) fine a =
      let t = region_type k sp args r in
      let out = stepped_type h.tree h.scope t (at_step e (field_step f (field_step g rest))) in
      element_only h (λ u s1. IsPointed h.scope.names s1.names out u) q
      (λ v. stepped h (type_of_element h.scope t e) v (field_step f (field_step g rest))) (value h e s) s (expressions_keep_names h e s)
      (λ s1 n names. behind_further rest (type_of_element h.scope t e) f g (a_pointer (point_target n 1) (q ∷ [])) s1 fine (scope_stays h s s1 out names a))

-- ---- fields of elements of parts that have no name

-- whatever is taken at an index, the names stay
module _ (h : Here) (P : Value → State → Type 0) (K : Value → Run Value) where
  chosen_only : (b : Bool) (v : Value) (k : FaultKind) (s : State) → ((u : Value) (s1 : State) → s1.names ≡ s.names → GivesOnly P (K u s1)) →
      GivesOnly P (and_then (if_true b (given v) (fault h k) s) K)
  chosen_only true v k s p = p v s refl
  chosen_only false v k s p = tt

  point_only : (v : Value) (z : ℤ) (s : State) → ((u : Value) (s1 : State) → s1.names ≡ s.names → GivesOnly P (K u s1)) →
      GivesOnly P (and_then (take_element h z v s) K)
  point_only (a_region r) (pos n) s p = chosen_only (has r.points n) _ _ s p
  point_only (a_region r) (negsuc n) s p = tt
  point_only (a_partition q) (pos n) s p = chosen_only (nat_lt n (length q.sets)) _ _ s p
  point_only (a_partition q) (negsuc n) s p = tt
  point_only (a_pointer tg qs) z s p = p _ s refl
  point_only (a_number w y) z s p = p _ s refl
  point_only (a_truth b) z s p = p _ s refl
  point_only (an_index y) z s p = p _ s refl
  point_only (a_space n) z s p = p _ s refl

  index_only : (v : Value) (r : Result Value) (s : State) → Leaves SameNames s r → ((u : Value) (s1 : State) → s1.names ≡ s.names → GivesOnly P (K u s1)) →
      GivesOnly P (and_then r (λ w s1. and_then (standing h w s1) (λ z. λ s2. and_then (take_element h (number_of z) v s2) K)))
  index_only v (fails f s1) s same p = tt
  index_only v (gives (a_number w z) s1) s same p = point_only v z s1 (λ u s2 e. p u s2 (e ∙ same))
  index_only v (gives (a_truth b) s1) s same p = point_only v (pos 0) s1 (λ u s2 e. p u s2 (e ∙ same))
  index_only v (gives (an_index z) s1) s same p = point_only v z s1 (λ u s2 e. p u s2 (e ∙ same))
  index_only v (gives (a_pointer null_target rs) s1) s same p = tt
  index_only v (gives (a_pointer (point_target m i) rs) s1) s same p = point_only v (pos m) s1 (λ u s2 e. p u s2 (e ∙ same))
  index_only v (gives (a_space n) s1) s same p = point_only v (pos 0) s1 (λ u s2 e. p u s2 (e ∙ same))
  index_only v (gives (a_region r) s1) s same p = point_only v (pos 0) s1 (λ u s2 e. p u s2 (e ∙ same))
  index_only v (gives (a_partition r) s1) s same p = point_only v (pos 0) s1 (λ u s2 e. p u s2 (e ∙ same))

module _ (forms : Forms) (params : ℕ) (h : Here) where
  -- one field after the other, from a pointer's type on
  fields_pointed : (rest : Steps) (t : StaticType) (f : Name) (v : Value) (s : State) → IsPointer t →
      AreFurther forms (where_of params h) (type_of_field h.tree t f) rest → AreInScope h s (stepped_type h.tree h.scope t (field_step f rest)) →
      GivesOnly (λ u s1. IsPointed h.scope.names s1.names (stepped_type h.tree h.scope t (field_step f rest)) u) (stepped h t v (field_step f rest) s)
  fields_pointed no_step t f v s pointer fine a = taken_pointed h t f v s pointer a
  fields_pointed (field_step g rest) t f v s pointer fine a = behind_further forms params h rest t f g v s fine a
  fields_pointed (at_step e rest) t f v s pointer fine a = absurd fine

  -- `p[e][i].f`, and what comes behind it
  part_further : (rest : Steps) (t : StaticType) (e i : Expression) (f : Name) (v : Value) (s : State) →
      IsPointer (type_of_element h.scope (type_of_element h.scope t e) i) →
      AreFurther forms (where_of params h) (type_of_field h.tree (type_of_element h.scope (type_of_element h.scope t e) i) f) rest →
      AreInScope h s (stepped_type h.tree h.scope t (at_step e (at_step i (field_step f rest)))) →
      GivesOnly (λ u s1. IsPointed h.scope.names s1.names (stepped_type h.tree h.scope t (at_step e (at_step i (field_step f rest)))) u)
      (stepped h t v (at_step e (at_step i (field_step f rest))) s)
  part_further rest t e i f v s pointer fine a =
      let out = stepped_type h.tree h.scope t (at_step e (at_step i (field_step f rest))) in
      let rt = type_of_element h.scope t e in
      let P : Value → State → Type 0 = λ u s1. IsPointed h.scope.names s1.names out u in
      index_only h P (λ u. stepped h rt u (at_step i (field_step f rest))) v (value h e s) s (expressions_keep_names h e s)
      (λ u s1 names. index_only h P (λ u. stepped h (type_of_element h.scope rt i) u (field_step f rest)) u (value h i s1) s1 (expressions_keep_names h i s1)
      (λ u2 s2 names2. fields_pointed rest (type_of_element h.scope rt i) f u2 s2 pointer fine (scope_stays h s s2 out (names2 ∙ names) a)))

-- ---- written types

cast_pointed : (h : Here) (names : List Value) (t : StaticType) (v : Value) (qs : List Region) →
    AreReached h.scope.names names (space_in t) (reaches_of t) qs → IsPointed h.scope.names names t (cast_to qs v)
cast_pointed h names t (a_number w z) qs a = a
cast_pointed h names t (a_truth b) qs a = a
cast_pointed h names t (an_index z) qs a = a
cast_pointed h names t (a_pointer target rs) qs a = a
cast_pointed h names t (a_space n) qs a = a
cast_pointed h names t (a_region r) qs a = a
cast_pointed h names t (a_partition r) qs a = a

-- the regions that a written type names, in a state with the same names
written_reached : (h : Here) (t : StaticType) (s s1 : State) → IsWritten h.scope.names t → AreOf IsOf h.scope.names s.names →
    length s.names ≡ length h.scope.names → s1.names ≡ s.names →
    AreReached h.scope.names s1.names (space_in t) (reaches_of t) (regions_reached h.scope s1.names (reaches_of t))
written_reached h t s s1 w o long same =
    subst (λ ns. AreReached h.scope.names ns (space_in t) (reaches_of t) (regions_reached h.scope ns (reaches_of t))) (sym same)
    (there_reached h.scope s.names (space_in t) (reaches_of t) o long w.1)

-- ---- expressions

-- the regions of the pointer that such an expression gives
pub pointing : (forms : Forms) (params : ℕ) (h : Here) (e : Expression) (s : State) → IsTyped forms (where_of params h) e →
    IsPointing (where_of params h) e → ArePointed params s.names h.scope.names → AreOf IsOf h.scope.names s.names →
    length s.names ≡ length h.scope.names →
    GivesOnly (λ v s1. IsPointed h.scope.names s1.names (typed (where_of params h) e) v) (value h e s)
pointing forms params h (access_expr n no_step) s fine p a o long = named_pointed h.scope.next h.scope.names s.names n p a fine.0
pointing forms params h (access_expr n (at_step e no_step)) s fine p a o long =
    let b = bound_to h.scope.names n in
    let m = named IsOf h.scope.names s.names n o fine.3 in
    element_pointed h b.static_type (get_or s.names b.place nothing) e s fine.4 m.holding
    (λ q d. own_reached (where_of params h) b b.static_type s.names q fine.5 o d)
pointing forms params h (null_expr t) s fine p a o long =
    written_reached h (typed (where_of params h) (null_expr t)) s s fine.1 o long refl
pointing forms params h (cast_expr t e) s fine p a o long = by (value h e s) (expressions_keep_names h e s)
  where
    by : (r : Result Value) → Leaves SameNames s r →
        GivesOnly (λ v s1. IsPointed h.scope.names s1.names (typed (where_of params h) (cast_expr t e)) v)
        (and_then r (λ v. λ s1. and_then (regions_written h t s1) (λ qs. given (cast_to qs v))))
    by (gives v s1) same = cast_pointed h s1.names (typed (where_of params h) (cast_expr t e)) v _
        (written_reached h (typed (where_of params h) (cast_expr t e)) s s1 fine.1 o long same)
    by (fails f s1) same = tt
pointing forms params h (access_expr n (field_step f no_step)) s fine p a o long =
    let b = bound_to h.scope.names n in
    ⊎_elim
    (λ (c : IsBehind (where_of params h) n f (field_behind (where_of params h) n f) × MayGo forms (where_of params h) n f mode.Read).
    behind_pointed h b.static_type f (get_or s.names b.place nothing) s (inl c.0.pointer)
    (named IsOf h.scope.names s.names n o c.0.named).holding (o, long, p))
    (λ (c : IsCutName (where_of params h) n).
    behind_pointed h b.static_type f (get_or s.names b.place nothing) s (inr c.partition)
    (named IsOf h.scope.names s.names n o c.named).holding (o, long, p))
    fine.1
pointing forms params h (access_expr n (at_step e (field_step f no_step))) s fine p a o long =
    let b = bound_to h.scope.names n in
    let field = any_field forms.keeps (where_of params h) n f (element_field (where_of params h) n e f) fine.3 in
    let m = named IsOf h.scope.names s.names n o field.named in
    field_pointed h b.static_type (get_or s.names b.place nothing) e f s field.region m.holding (o, long, p)
pointing forms params h (access_expr n (field_step f (field_step g rest))) s fine p a o long =
    let b = bound_to h.scope.names n in
    behind_further forms params h rest b.static_type f g (get_or s.names b.place nothing) s fine.3 (o, long, p)
pointing forms params h (access_expr n (field_step _ (at_step _ _))) s fine p a o long = absurd p
pointing forms params h (access_expr n (at_step e (field_step f (field_step g rest)))) s fine p a o long =
    let b = bound_to h.scope.names n in
    let field = any_field forms.keeps (where_of params h) n f (element_field (where_of params h) n e f) fine.4 in
    let m = named IsOf h.scope.names s.names n o field.named in
    field_further forms params h rest b.static_type e f g (get_or s.names b.place nothing) s field.region m.holding fine.6 (o, long, p)
pointing forms params h (access_expr n (at_step _ (field_step _ (at_step _ _)))) s fine p a o long = absurd p
pointing forms params h (access_expr n (at_step e (at_step i (field_step f rest)))) s fine p a o long =
    let b = bound_to h.scope.names n in
    part_further forms params h rest b.static_type e i f (get_or s.names b.place nothing) s
    (is_pointer_type _ _ _ (part_pointer (where_of params h) n e i fine.1)) fine.5 (o, long, p)
pointing forms params h (access_expr n (at_step _ (at_step _ no_step))) s fine p a o long = absurd p
pointing forms params h (access_expr n (at_step _ (at_step _ (at_step _ _)))) s fine p a o long = absurd p
pointing forms params h (number_expr _ _) s fine p a o long = absurd p
pointing forms params h (truth_expr _) s fine p a o long = absurd p
pointing forms params h (chain_expr _ _) s fine p a o long = absurd p
pointing forms params h (prefix_expr _ _) s fine p a o long = absurd p
pointing forms params h (call_expr _ _) s fine p a o long = absurd p
pointing forms params h (convert_expr _ _) s fine p a o long = absurd p
pointing forms params h (is_null_expr _) s fine p a o long = absurd p
pointing forms params h (space_expr _ _) s fine p a o long = absurd p

-- a pointer that is put into a variable of a written type goes to the regions of that type
pub declared_pointed : (h : Here) (from u : StaticType) (e : Expression) (s : State) → IsWritten h.scope.names u →
    AreOf IsOf h.scope.names s.names → length s.names ≡ length h.scope.names →
    GivesOnly (λ v s1. IsPointed h.scope.names s1.names u v)
    (and_then (value h e s) (λ v. λ s1. converted h from u (regions_reached h.scope s1.names (reaches_of u)) v s1))
declared_pointed h from u e s wr o long = by (value h e s) (expressions_keep_names h e s)
  where
    by_type : (u : StaticType) → IsPointer u → IsWritten h.scope.names u → (v : Value) (s1 : State) → s1.names ≡ s.names →
        GivesOnly (λ v s1. IsPointed h.scope.names s1.names u v) (converted h from u (regions_reached h.scope s1.names (reaches_of u)) v s1)
    by_type _ (a_pointer_type k sp args rs ns) w v s1 same = written_reached h (pointer_type k sp args rs) s s1 w o long same

    by : (r : Result Value) → Leaves SameNames s r → GivesOnly (λ v s1. IsPointed h.scope.names s1.names u v)
        (and_then r (λ v. λ s1. converted h from u (regions_reached h.scope s1.names (reaches_of u)) v s1))
    by (gives v s1) same = by_type u wr.0 wr v s1 same
    by (fails f s1) same = tt
