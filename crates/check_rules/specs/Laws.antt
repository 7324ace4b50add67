-- Laws of the definition.
use Rattle.std.specs.Prelude.{◌≡◌, ◌↔◌, ◌⊎◌, List, Contains, Some, None, []}
use Rattle.regent_tree.specs.Syntax.{Expression, Tree}
use Rattle.regent_tree.specs.declared.typing.StaticType.TheVariants.{Unknown as unknown_type}
use Rattle.regent_tree.specs.Scopes.{Scope}
use Rattle.regent_tree.specs.Typing.{type_of}
use Rattle.check_rules.specs.Breaches.{Breach, breaches, each_once}
use Rattle.check_rules.specs.first.FirstInItems.{first_breach}
use Rattle.check_rules.specs.types.KnownTypes.{known_type}

-- An expression has the type that the meaning of programs gives it, or an unknown one.
abbrev pub TypesAsMeant : Type 0
TypesAsMeant = (tree : Tree) (s : Scope) (e : Expression) →
    (known_type tree s e ≡ type_of tree s e) ⊎ (known_type tree s e ≡ unknown_type)

-- Listing each pair once leaves no pair out and brings none in.
abbrev pub PairsKept : Type 0
PairsKept = (bs : List Breach) (b : Breach) → Contains (each_once bs) b ↔ Contains bs b

-- The first breach is one of them, and there is none exactly where there are none.
abbrev pub FirstIsOne : Type 0
FirstIsOne = (tree : Tree) (b : Breach) → first_breach tree ≡ Some b → Contains (breaches tree) b

abbrev pub NoneWithoutFirst : Type 0
NoneWithoutFirst = (tree : Tree) → (first_breach tree ≡ None) ↔ (breaches tree ≡ [])
