-- Scopes of which all is known: what each name is bound to has a type, and the parent of each partition
-- is a region in scope.
use Rattle.std.specs.Prelude.{List, [], false, true, ℕ, ◌<◌, ◌∷◌, ◌≡◌}
use Rattle.regent_tree.specs.Lookup.{is_bound, type_named}
use Rattle.regent_tree.specs.Scopes.{Scope, bound_as}
use Rattle.regent_tree.specs.Syntax.{Name}
use Rattle.regent_tree.specs.declared.typing.Bound.{Bound}
use Rattle.regent_tree.specs.declared.typing.StaticType.{StaticType}
use Rattle.regent_tree.specs.declared.typing.StaticType.TheVariants.{Partition as partition_type}
use Rattle.check_rules.specs.types.Sorts.{is_region, is_unknown_type}

-- a partition's parent is a region that is bound with its number
abbrev pub IsPlaced : Scope → StaticType → Type 0
IsPlaced s (partition_type d r p) =
    (is_region (bound_as s.names r).static_type ≡ true) × (r < s.next)
IsPlaced s t = Unit {0}

pub record IsKnown (s : Scope) (t : StaticType) : Type 0 where
  pub known : is_unknown_type t ≡ false
  pub placed : IsPlaced s t

-- the numbers of bindings fall, from the innermost outwards
abbrev pub Falls : ℕ → List Bound → Type 0
Falls next [] = Unit {0}
Falls next (b ∷ bs) = (b.number < next) × Falls b.number bs

pub record IsSoundScope (s : Scope) : Type 0 where
  pub numbers : Falls s.next s.names
  pub types : (n : Name) → is_bound s.names n ≡ true → IsKnown s (type_named s.names n)
