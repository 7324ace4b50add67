-- What statements keep: all that is known of bindings below the next number stays, and new facts are on
-- new bindings.
use Rattle.std.specs.Prelude.{Contains, List, [], ◌∷◌, ◌++◌, length, true, ℕ, ◌<◌, ◌≡◌, ◌≤◌}
use Rattle.regent_tree.specs.Running.{State}
use Rattle.regent_tree.specs.Scopes.{Scope}
use Rattle.regent_tree.specs.Typing.{param_types, result_type}
use Rattle.regent_tree.specs.Values.{Value}
use Rattle.regent_tree.specs.declared.facts.Known.{Known}
use Rattle.regent_tree.specs.declared.facts.Known.TheVariants.{Within, Apart, PartOf, Made}
use Rattle.regent_tree.specs.declared.facts.Term.TheVariants.{Name}
use Rattle.regent_tree.specs.declared.typing.Bound.{Bound}
use Rattle.check_rules.specs.types.Sorts.{is_region, type_at}
use Rattle.regent_tree.specs.declared.typing.StaticType.{StaticType}
use Rattle.regent_tree.specs.Execution.{Going, goes_on, returned}
use Rattle.regent_tree.specs.Running.{Result, fails, gives}
use Rattle.expression_laws.specs.Kinds.{ArgumentsInScope, IsOfType, IsWellScoped, TermBelow, TypeBelow}
use Rattle.fact_laws.specs.Regions.{Interpretation}
use Rattle.expression_laws.specs.Sound.{AreCovered, Instance, IsSoundFault, IsSoundPlace, IsSoundState}

-- ---- numbers of bindings

-- bindings below a number stand for the same
pub record AgreeBelow (n : ℕ) (a b : Interpretation) : Type 0 where
  pub regions : (i : ℕ) → i < n → a.region i ≡ b.region i
  pub partitions : (i : ℕ) → i < n → a.partition i ≡ b.partition i
  pub numbers : (i : ℕ) → i < n → a.number i ≡ b.number i

-- a fact speaks of bindings below a number
abbrev pub FactBelow : ℕ → Known → Type 0
FactBelow n (Within a b) = TermBelow n a × TermBelow n b
FactBelow n (Apart a b) = TermBelow n a × TermBelow n b
FactBelow n (PartOf p r disjoint) = (p < n) × (r < n)
FactBelow n (Made s) = s < n

-- and is on a binding that isn't below another
abbrev pub IsFresh : ℕ → Known → Type 0
IsFresh n (Within (Name i) b) = n ≤ i
IsFresh n (PartOf p r disjoint) = n ≤ p
IsFresh n (Made s) = n ≤ s
IsFresh n k = ⊥

abbrev pub FactsBelow : ℕ → List Known → Type 0
FactsBelow n known = (k : Known) → Contains known k → FactBelow n k

-- more is known behind a statement: of new bindings
pub record KnowsMore (s t : Scope) : Type 0 where
  pub more : List Known
  pub known : t.known ≡ s.known ++ more
  pub next : s.next ≤ t.next
  pub fresh : (k : Known) → Contains more k → IsFresh s.next k
  pub below : FactsBelow t.next more

-- ---- states

-- a name's place is the number of names behind it
abbrev pub ArePlaced : List Bound → Type 0
ArePlaced [] = Unit {0}
ArePlaced (b ∷ bs) = (b.place ≡ length bs) × ArePlaced bs

-- what is so at a place of the text whatever runs
pub record IsStaticPlace (x : Instance) (s : Scope) : Type 0 where
  pub well_scoped : IsWellScoped s
  pub below : FactsBelow s.next s.known
  pub placed : ArePlaced s.names
  pub params : (i : ℕ) → is_region (type_at (param_types x.tree x.task) i) ≡ true → i < s.next

-- behind a statement that goes on, from a place with so many bindings: more bindings stand for something
pub record IsSoundAfter (x : Instance) (m : Interpretation) (n : ℕ) (t : Scope) (u : State) : Type 0 where
  pub meant : Interpretation
  pub agree : AgreeBelow n m meant
  pub place : IsSoundPlace x meant t
  pub state : IsSoundState x meant t u

-- where a body returns, its value is of the task's result type, whatever bindings stand for
pub record IsSoundReturn (x : Instance) (v : Value) (u : State) : Type 0 where
  pub is_of : (m : Interpretation) → IsOfType m (result_type x.tree x.task.result) v
  pub grown : x.roots ≤ length u.store
  pub covered : AreCovered x u.touches

abbrev pub GoesOnSound : Instance → Interpretation → ℕ → Scope → Result Going → Type 0
GoesOnSound x m n t (gives goes_on u) = IsSoundAfter x m n t u
GoesOnSound x m n t (gives (returned v) u) = IsSoundReturn x v u
GoesOnSound x m n t (fails f u) = IsSoundFault x f u

-- ---- types

pub record IsTypeInScope (s : Scope) (t : StaticType) : Type 0 where
  pub args : ArgumentsInScope s t
  pub below : TypeBelow s.next t
