-- Values of the kinds that static types say, and scopes whose types speak of what is in scope.
use Rattle.std.specs.Prelude.{List, [], ◌∷◌, Bool, None, Some, false, get_or, pos, true, ℕ, ℤ, ◌<◌, ◌≡◌}
use Rattle.lane_kernels.specs.declared.numbers.Width.{Width}
use Rattle.regent_tree.specs.Scopes.{Scope, bound_as}
use Rattle.regent_tree.specs.StaticTypes.{Reach}
use Rattle.regent_tree.specs.Values.{Partition, Region, Target, Value, a_number, a_partition, a_pointer, a_region, a_space, a_truth, an_index, null_target, number_of, point_target}
use Rattle.regent_tree.specs.declared.facts.Colour.{Colour}
use Rattle.regent_tree.specs.declared.facts.Colour.TheVariants.{Loop}
use Rattle.regent_tree.specs.declared.facts.Term.{Term}
use Rattle.regent_tree.specs.declared.facts.Term.TheVariants.{Child, Name}
use Rattle.regent_tree.specs.declared.types.Kind.{Kind}
use Rattle.regent_tree.specs.declared.typing.Bound.{Bound}
use Rattle.regent_tree.specs.declared.typing.StaticType.{StaticType}
use Rattle.regent_tree.specs.declared.typing.StaticType.TheVariants.{Index as index_type, Integer as integer_type, Ispace as ispace_type, Nothing as no_type, Partition as partition_type, Pointer as pointer_type, Region as region_type, Truth as truth_type, Unknown as unknown_type}
use Rattle.check_rules.specs.types.Sorts.{is_region}
use Rattle.fact_laws.specs.Regions.{Interpretation, StandsFor}

-- ---- values

-- the regions that a pointer goes with are those that its type names; a converted pointer that isn't put
-- anywhere yet goes with none, and of `wild` nothing is said
abbrev pub GoInto : Interpretation → List Reach → List Region → Type 0
GoInto m terms [] = Unit {0}
GoInto m [] (r ∷ rs) = ⊥
GoInto m (None ∷ terms) (r ∷ rs) = GoInto m terms rs
GoInto m (Some t ∷ terms) (r ∷ rs) = StandsFor m t r × GoInto m terms rs

-- A value is of the kind that a type says. A call without a result gives a truth, which nothing uses.
pub data IsOfType (m : Interpretation) : StaticType → Value → Type 0 where
  is_number : {w : Width} {z : ℤ} → IsOfType m (integer_type w) (a_number w z)
  is_truth : {b : Bool} → IsOfType m truth_type (a_truth b)
  is_index : {k : Kind} {z : ℤ} → IsOfType m (index_type k) (an_index z)
  is_pointer : {k : Kind} {s : ℕ} {args terms : List Reach} {t : Target} {rs : List Region} →
      GoInto m terms rs → IsOfType m (pointer_type k s args terms) (a_pointer t rs)
  is_space : {k : Kind} {n : ℕ} → IsOfType m (ispace_type k) (a_space n)
  is_region_of : {k : Kind} {s : ℕ} {args : List Reach} {t : Term} {r : Region} →
      StandsFor m t r → IsOfType m (region_type k s args t) (a_region r)
  is_partition_of : {d : Bool} {r p : ℕ} {q : Partition} → m.partition p ≡ q → IsOfType m (partition_type d r p) (a_partition q)
  is_nothing : {b : Bool} → IsOfType m no_type (a_truth b)
  is_unknown : {v : Value} → IsOfType m unknown_type v

-- the number that a value stands for in `x[e]`: of a pointer its point's
abbrev pub number_of_target : Target → ℤ
number_of_target null_target = pos 0
number_of_target (point_target n i) = pos n

abbrev pub number_stood_for : Value → ℤ
number_stood_for (a_pointer t rs) = number_of_target t
number_stood_for v = number_of v

-- ---- static types

-- an argument of a field space is `wild`, or a region in scope
abbrev pub IsArgument : Scope → Reach → Type 0
IsArgument s None = Unit {0}
IsArgument s (Some (Name i)) = is_region (bound_as s.names i).static_type ≡ true
IsArgument s (Some (Child p c)) = ⊥

abbrev pub AreArguments : Scope → List Reach → Type 0
AreArguments s [] = Unit {0}
AreArguments s (a ∷ args) = IsArgument s a × AreArguments s args

abbrev pub ArgumentsInScope : Scope → StaticType → Type 0
ArgumentsInScope s (pointer_type k sp args terms) = AreArguments s args
ArgumentsInScope s (region_type k sp args t) = AreArguments s args
ArgumentsInScope s t = Unit {0}

-- a type speaks of bindings below a number
abbrev pub ColourBelow : ℕ → Colour → Type 0
ColourBelow n (Loop i) = i < n
ColourBelow n c = Unit {0}

abbrev pub TermBelow : ℕ → Term → Type 0
TermBelow n (Name i) = i < n
TermBelow n (Child p c) = (p < n) × ColourBelow n c

abbrev pub TermsBelow : ℕ → List Reach → Type 0
TermsBelow n [] = Unit {0}
TermsBelow n (None ∷ terms) = TermsBelow n terms
TermsBelow n (Some t ∷ terms) = TermBelow n t × TermsBelow n terms

abbrev pub TypeBelow : ℕ → StaticType → Type 0
TypeBelow n (pointer_type k s args terms) = TermsBelow n terms
TypeBelow n (region_type k s args t) = TermBelow n t
TypeBelow n (partition_type d r p) = p < n
TypeBelow n t = Unit {0}

-- a region or partition that is bound is named by its own number
abbrev pub IsNamedByOwnNumber : ℕ → StaticType → Type 0
IsNamedByOwnNumber i (region_type k sp args t) = t ≡ Name i
IsNamedByOwnNumber i (partition_type d r p) = p ≡ i
IsNamedByOwnNumber i t = Unit {0}

pub record IsWellScopedBinding (s : Scope) (i : ℕ) (b : Bound) : Type 0 where
  pub args : ArgumentsInScope s b.static_type
  pub own : IsNamedByOwnNumber i b.static_type
  pub below : TypeBelow s.next b.static_type

abbrev pub IsWellScoped : Scope → Type 0
IsWellScoped s = (i : ℕ) → IsWellScopedBinding s i (bound_as s.names i)

-- ---- names

-- the value of a binding is of its type; a loop's variable has the number that its colour stands for
pub record IsBoundTo (m : Interpretation) (i : ℕ) (b : Bound) (v : Value) : Type 0 where
  pub is_of : IsOfType m b.static_type v
  pub colour : b.by_loop ≡ true → m.number i ≡ number_stood_for v

abbrev pub NamesFit : Interpretation → Scope → List Value → Type 0
NamesFit m s names = (i : ℕ) → IsBoundTo m i (bound_as s.names i) (get_or names (bound_as s.names i).place (a_truth false))
