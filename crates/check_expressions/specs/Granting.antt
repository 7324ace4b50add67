-- Where privileges are declared.
use Rattle.std.specs.Prelude.{List, map, ℕ, ◌≡◌}
use Rattle.regent_tree.specs.PlainProgram.{tree_of}
use Rattle.regent_tree.specs.declared.program.Grant.{Grant}
use Rattle.regent_tree.specs.declared.rights.Right.{Right}
use Rattle.check_rules.specs.types.Declarations.{params_bound}
use Rattle.check_rules.specs.rules.Privileges.{a_right, access_of_grant}
use Rattle.check_rules.specs.types.Params.{types_in_order}
use Rattle.check_expressions.specs.declared.rights.Declaring.{Declaring}

-- the types are those of the parameters
abbrev pub AreTyped : Declaring → Type 0
AreTyped d = d.types.now ≡ types_in_order (params_bound (tree_of d.tables.now) d.params.now)

-- what a grant gives on these fields of a region
abbrev pub granted_on : ℕ → List ℕ → Grant → List Right
granted_on region fields g = map (λ f. a_right region f (access_of_grant g)) fields
