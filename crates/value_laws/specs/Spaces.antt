-- Static types whose field space arguments are as the field space declares its parameters.
use Rattle.std.specs.Prelude.{List, None, Option, Some, get_or, length, true, ℕ, ◌≡◌, ◌≤◌}
use Rattle.regent_tree.specs.Accesses.{args_in, space_in}
use Rattle.regent_tree.specs.Limits.{most}
use Rattle.regent_tree.specs.Lookup.{has_field, has_space}
use Rattle.regent_tree.specs.Scopes.{bound_as, scope_of}
use Rattle.regent_tree.specs.StaticTypes.{Reach, field_place, field_term, place_in, place_of_space, space_at, task_named}
use Rattle.regent_tree.specs.Syntax.{Name as Word, Tree}
use Rattle.regent_tree.specs.Typing.{param_types, reaches_of}
use Rattle.regent_tree.specs.declared.facts.Term.TheVariants.{Child, Name}
use Rattle.regent_tree.specs.declared.limits.Counted.TheVariants.{Regions}
use Rattle.regent_tree.specs.declared.types.PointerTerm.{PointerTerm}
use Rattle.regent_tree.specs.declared.types.Ref.TheVariants.{Named, Wild}
use Rattle.regent_tree.specs.declared.types.SpaceUse.{SpaceUse}
use Rattle.regent_tree.specs.declared.types.TypeTerm.{TypeTerm}
use Rattle.regent_tree.specs.declared.types.TypeTerm.TheVariants as typed
use Rattle.regent_tree.specs.declared.typing.Bound.{Bound}
use Rattle.regent_tree.specs.declared.typing.StaticType.{StaticType}
use Rattle.regent_tree.specs.declared.typing.StaticType.TheVariants.{Partition as partition_type, Region as region_type}
use Rattle.check_rules.specs.rules.Spaces.{space_params}
use Rattle.check_rules.specs.types.Params.{term_at}
use Rattle.check_rules.specs.types.Sorts.{is_region, type_at}
use Rattle.check_laws.specs.SoundScopes.{IsPlaced}

-- ---- types in a body

-- a type is of a region with a field space
pub record IsRegionTypeOf (space : ℕ) (t : StaticType) : Type 0 where
  pub region : is_region t ≡ true
  pub of_space : space_in t ≡ space

-- `wild`, or the name of a region with a field space
abbrev pub NamesRegionOf : List Bound → ℕ → Reach → Type 0
NamesRegionOf names space None = Unit {0}
NamesRegionOf names space (Some (Name i)) = IsRegionTypeOf space (bound_as names i).static_type
NamesRegionOf names space (Some (Child p c)) = ⊥

-- the field space of a region that is declared
abbrev pub space_declared : Tree → TypeTerm → Option ℕ
space_declared tree (typed.Region k u) = Some (place_of_space tree u.name)
space_declared tree t = None

-- the field space of a field space's parameter
abbrev pub space_of_param : Tree → ℕ → ℕ → Option ℕ
space_of_param tree space i = space_declared tree (term_at (space_at tree space).params i)

-- arguments are regions of the field spaces that the parameters have
abbrev pub AreArgumentsOf : Tree → List Bound → ℕ → List Reach → Type 0
AreArgumentsOf tree names space args = (i k : ℕ) → space_of_param tree space i ≡ Some k →
    NamesRegionOf names k (get_or args i None)

-- a region that is named by a number has the field space of the binding with the number
abbrev pub HasSpaceOfName : List Bound → StaticType → Type 0
HasSpaceOfName names (region_type k space args (Name i)) = IsRegionTypeOf space (bound_as names i).static_type
HasSpaceOfName names t = Unit {0}

-- a partition's parent is a region in scope
abbrev pub HasParent : List Bound → StaticType → Type 0
HasParent names (partition_type d r p) = is_region (bound_as names r).static_type ≡ true
HasParent names t = Unit {0}

-- A type's arguments are so, a region has its name's field space, a partition a parent, and a pointer's list
-- is no longer than the limits allow.
pub record IsSpaced (tree : Tree) (names : List Bound) (t : StaticType) : Type 0 where
  pub args : AreArgumentsOf tree names (space_in t) (args_in t)
  pub named : HasSpaceOfName names t
  pub parent : HasParent names t
  pub few : length (reaches_of t) ≤ most Regions

abbrev pub AreSpaced : Tree → List Bound → Type 0
AreSpaced tree names = (i : ℕ) → IsSpaced tree names (bound_as names i).static_type

-- ---- declarations

-- The pointers of a field: the regions of the list are of its field space, and the arguments are as its field
-- space declares its parameters.
pub record IsSpacedField (tree : Tree) (space : ℕ) (p : PointerTerm) : Type 0 where
  pub regions : (i : ℕ) (n : Word) → get_or p.regions i Wild ≡ Named n →
      space_of_param tree space (place_in (space_at tree space).params n) ≡ Some (place_of_space tree p.space.name)
  pub args : (i k : ℕ) (n : Word) → get_or p.space.args i Wild ≡ Named n →
      space_of_param tree (place_of_space tree p.space.name) i ≡ Some k →
      space_of_param tree space (place_in (space_at tree space).params n) ≡ Some k
  pub few : length p.regions ≤ most Regions

-- The types of the parameters of a field space, where it is used, say what is written.
abbrev pub AreParamsSaid : Tree → Type 0
AreParamsSaid tree = (u : SpaceUse) (i k : ℕ) → has_space tree u.name ≡ true →
    space_of_param tree (place_of_space tree u.name) i ≡ Some k → IsRegionTypeOf k (type_at (space_params tree u) i)

-- The fields of a program's field spaces are so, and the types of their parameters; and the parent of a task's parameter that is a partition is a parameter that is a region.
pub record HasSpacedDeclarations (tree : Tree) : Type 0 where
  pub fields : (space : ℕ) (f : Word) (p : PointerTerm) → has_field tree space f ≡ true →
      field_term tree space (field_place tree space f) ≡ typed.Pointer p → IsSpacedField tree space p
  pub params : AreParamsSaid tree
  pub tasks : (n : Word) (i : ℕ) →
      IsPlaced (scope_of tree (task_named tree n)) (type_at (param_types tree (task_named tree n)) i)
