-- What holds at each place of a running task of a program without a breach.
--
-- What is fixed at a place of the text: the facts hold, the roots that were made are the task's own, the
-- regions of parameters are those of the arguments, and partitions are of their parents' roots. What a state keeps: names have values of their
-- kinds, and each touch so far is covered.
use Rattle.std.specs.Prelude.{Contains, List, [], ◌∷◌, false, get_or, length, pos, true, ℕ, ℤ, ◌<◌, ◌≡◌, ◌≤◌}
use Rattle.regent_tree.specs.Cover.{is_covered}
use Rattle.regent_tree.specs.Evaluation.{first_type, other_types}
use Rattle.regent_tree.specs.Lookup.{has_task}
use Rattle.regent_tree.specs.Running.{Calls, Called, Result, State, broke, came_back, fails, gives}
use Rattle.std.specs.List.Sorted.{IsStrictlyIncreasing}
use Rattle.regent_tree.specs.Scopes.{Scope, bound_as, scope_of}
use Rattle.regent_tree.specs.StaticTypes.{task_named}
use Rattle.regent_tree.specs.Store.{Store, Touch}
use Rattle.regent_tree.specs.Syntax.{Expression, Expressions, Name, TaskTree, Tree, an_expr, no_expr}
use Rattle.regent_tree.specs.Typing.{colour_of, param_types, result_type, type_of}
use Rattle.regent_tree.specs.Values.{Partition, Region, Target, Value, a_number, a_pointer, a_truth, an_index, no_region, partition_of, region_of}
use Rattle.regent_tree.specs.declared.outcome.Fault.{Fault}
use Rattle.regent_tree.specs.declared.outcome.FaultKind.TheVariants.{Depth}
use Rattle.regent_tree.specs.declared.facts.Known.{Known}
use Rattle.regent_tree.specs.declared.facts.Known.TheVariants.{Made, PartOf}
use Rattle.check_rules.specs.types.Sorts.{is_region, type_at}
use Rattle.regent_tree.specs.declared.typing.StaticType.{StaticType}
use Rattle.regent_tree.specs.declared.typing.StaticType.TheVariants.{Index as index_type, Integer as integer_type, Partition as partition_type, Pointer as pointer_type}
pub use Rattle.expression_laws.specs.Instances.{Instance}
use Rattle.expression_laws.specs.Needs.{IsCallWithin}
use Rattle.expression_laws.specs.Kinds.{IsOfType, NamesFit, number_stood_for}
use Rattle.fact_laws.specs.Regions.{AllHold, IsColour, IsIn, Interpretation, child_at}

-- each point of what the task made is of a root that wasn't there before
abbrev pub AreOwnRoots : ℕ → Interpretation → List Known → Type 0
AreOwnRoots roots m known = (i : ℕ) → Contains known (Made i) → (root n : ℕ) → IsIn (m.region i) root n → roots ≤ root

-- the regions of parameters are those of the arguments
abbrev pub AreGivenRegions : Instance → Interpretation → Type 0
AreGivenRegions x m = (i : ℕ) → is_region (type_at (param_types x.tree x.task) i) ≡ true →
    m.region i ≡ region_of (get_or x.args i (a_truth false))

-- a partition in scope is known as one of its parent, and is of its parent's root
abbrev pub IsOfParent : Interpretation → List Known → StaticType → Type 0
IsOfParent m known (partition_type d r p) = Contains known (PartOf p r d) × ((m.partition p).root ≡ (m.region r).root)
IsOfParent m known t = Unit {0}

pub record IsSoundPlace (x : Instance) (m : Interpretation) (s : Scope) : Type 0 where
  pub holds : AllHold m s.known
  pub own : AreOwnRoots x.roots m s.known
  pub params : AreGivenRegions x m
  pub parents : (i : ℕ) → IsOfParent m s.known (bound_as s.names i).static_type

abbrev pub AreCovered : Instance → List Touch → Type 0
AreCovered x touches = (t : Touch) → Contains touches t → is_covered x.tree x.roots x.task x.args t ≡ true

-- each point of a region is of a root that is there, and the points rise
pub record IsInStore (count : ℕ) (r : Region) : Type 0 where
  pub below : (root point : ℕ) → IsIn r root point → root < count
  pub rising : IsStrictlyIncreasing r.points

-- so it is with the regions of names, and with the children of partitions
pub record AreInStore (m : Interpretation) (count : ℕ) : Type 0 where
  pub regions : (i : ℕ) → IsInStore count (m.region i)
  pub children : (i : ℕ) (colour : ℤ) → IsInStore count (child_at (m.partition i) colour)

-- a partition of no colours
abbrev pub no_partition : Partition
no_partition = record { root = 0; disjoint = false; sets = [] }

-- a value that is no region and no partition
abbrev pub IsNoCollection : Value → Type 0
IsNoCollection v = (region_of v ≡ no_region) × (partition_of v ≡ no_partition)

pub record IsSoundState (x : Instance) (m : Interpretation) (s : Scope) (u : State) : Type 0 where
  pub names : NamesFit m s u.names
  pub counted : length u.names ≡ length s.names
  pub rooted : AreInStore m (length u.store)
  pub grown : x.roots ≤ length u.store
  pub covered : AreCovered x u.touches

-- ---- calls

-- what a task's parameters stand for where it begins: its arguments
abbrev pub of_arguments : List Value → Interpretation
of_arguments vs = record {
  region = λ i. region_of (get_or vs i (a_truth false));
  partition = λ i. partition_of (get_or vs i (a_truth false));
  number = λ i. pos 0;
}

-- Arguments fit a task: each is of its parameter's type; what the task asks of its parameters holds of them,
-- as do the facts that partition types tell; and they lie in the store.
pub record AreFitting (tree : Tree) (task : TaskTree) (vs : List Value) (count : ℕ) : Type 0 where
  pub counted : length vs ≡ length task.params
  pub types : (i : ℕ) → IsOfType (of_arguments vs) (type_at (param_types tree task) i) (get_or vs i (a_truth false))
  pub holds : AllHold (of_arguments vs) (scope_of tree task).known
  pub stored : AreInStore (of_arguments vs) count
  pub parents : (i : ℕ) → IsOfParent (of_arguments vs) (scope_of tree task).known (type_at (param_types tree task) i)

-- what a call gives is of the kind that the called task's result type says, and leaves as many roots
abbrev pub IsSoundAnswer : Interpretation → Tree → Name → Store → Called → Type 0
IsSoundAnswer m tree task before (came_back v store text) =
    IsOfType m (result_type tree (task_named tree task).result) v × (length store ≡ length before)
IsSoundAnswer m tree task before (broke f text) = Unit {0}

abbrev pub AreSoundAnswers : Interpretation → Tree → Calls → Type 0
AreSoundAnswers m tree calls = (line : ℕ) (task : Name) (vs : List Value) (store : Store) → has_task tree task ≡ true →
    AreFitting tree (task_named tree task) vs (length store) → IsSoundAnswer m tree task store (calls line task vs store)

-- a fault that was given by a call whose arguments fit, and whose needs lie within the caller's
pub record IsGivenFault (x : Instance) (f : Fault) : Type 0 where
  pub line : ℕ
  pub task : Name
  pub args : List Value
  pub store : Store
  pub text : List ℕ
  pub there : has_task x.tree task ≡ true
  pub fits : AreFitting x.tree (task_named x.tree task) args (length store)
  pub within : IsCallWithin x (task_named x.tree task) args
  pub gave : x.calls line task args store ≡ broke f text

-- where an instance faults, each touch up to there is covered; and that calls nest too deep is told by calls
-- alone
pub record IsSoundFault (x : Instance) (f : Fault) (u : State) : Type 0 where
  pub covered : AreCovered x u.touches
  pub depth : f.kind ≡ Depth → IsGivenFault x f

-- a step gives something of which a claim holds in the state after it, or faults as another says
abbrev pub EndsIn : {A : Type 0} → (A → State → Type 0) → (Fault → State → Type 0) → Result A → Type 0
EndsIn good bad (gives a u) = good a u
EndsIn good bad (fails f u) = bad f u

-- what evaluation keeps: the state's names and touches, and what it gives is so
abbrev pub KeepsSound : {A : Type 0} → Instance → Interpretation → Scope → (A → Type 0) → Result A → Type 0
KeepsSound x m s Is r = EndsIn (λ a u. IsSoundState x m s u × Is a) (λ f u. IsSoundFault x f u) r

-- the value of an expression is of its type, and a colour that is written so stands for it
pub record IsValueOf (m : Interpretation) (tree : Tree) (s : Scope) (e : Expression) (v : Value) : Type 0 where
  pub is_of : IsOfType m (type_of tree s e) v
  pub colour : IsColour m (colour_of s e) (number_stood_for v)

-- What a parameter is given: the argument's value, which is converted where the parameter is of a number or
-- a pointer. A converted pointer isn't put anywhere yet.
abbrev pub IsPassed : Interpretation → StaticType → StaticType → Value → Type 0
IsPassed m from (integer_type w) v = (z : ℤ) × (a_number w z ≡ v)
IsPassed m from (index_type k) v = (z : ℤ) × (an_index z ≡ v)
IsPassed m from (pointer_type k s args terms) v = (t : Target) × (a_pointer t [] ≡ v)
IsPassed m from wanted v = IsOfType m from v

-- so it is with all arguments
abbrev pub ArePassed : Interpretation → Tree → Scope → List StaticType → Expressions → List Value → Type 0
ArePassed m tree s types no_expr [] = Unit {0}
ArePassed m tree s types no_expr (v ∷ vs) = ⊥
ArePassed m tree s types (an_expr e es) [] = ⊥
ArePassed m tree s types (an_expr e es) (v ∷ vs) =
    IsPassed m (type_of tree s e) (first_type types) v × ArePassed m tree s (other_types types) es vs
