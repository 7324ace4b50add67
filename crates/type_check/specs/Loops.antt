-- Loops: the demands on them, and the shapes that are found in a part of a text.
use Rattle.std.specs.Prelude.{Bool, List, Option, Some, [], flat_map, ◌&&◌, ◌∷◌}
use Rattle.std.specs.Option.{option_or}
use Rattle.regent_tree.specs.PlainProgram.{form_of}
use Rattle.regent_tree.specs.Scopes.{Scope}
use Rattle.regent_tree.specs.Syntax.{Block, Name, TaskTree, Tree}
use Rattle.regent_tree.specs.declared.statement.Stmt.{Stmt}
use Rattle.index_launch.specs.Shapes.{shape}
use Rattle.index_launch.specs.declared.view.LaunchShape.{LaunchShape}
use Rattle.check_rules.specs.Breaches.{Breach}
use Rattle.check_rules.specs.declared.loop_shape.LoopShape.{LoopShape}
use Rattle.check_rules.specs.declared.rule.Rule.{Rule}
use Rattle.check_rules.specs.declared.rule.Rule.TheVariants as rule
use Rattle.check_rules.specs.first.FirstInStatements.{first_of_demand, first_of_form, first_within, told_on}
use Rattle.check_rules.specs.first.Rules.{first_of, rule_if}
use Rattle.check_rules.specs.launches.Shapes.{interferes, is_no_launch, loop_at}
use Rattle.check_rules.specs.launches.Views.{loop_view}
use Rattle.check_rules.specs.scopes.Visits.{Visit, visits_in, visits_in_arms, visits_in_else, visits_within}

-- ---- shapes

-- of a loop, in the scope in which its block begins
abbrev pub shape_in : Tree → Scope → Name → Bool → Block → LaunchShape
shape_in tree own i over_space body = shape (loop_view tree own i over_space body)

-- a demand on a loop of a shape
abbrev pub first_of_shape : Bool → LaunchShape → Option Rule
first_of_shape demanded s = first_of (rule_if (demanded && is_no_launch (Some s)) rule.NotLaunch
    ∷ rule_if (demanded && interferes (Some s)) rule.Interferes
    ∷ [])

-- ---- a statement, with all that stands in it

abbrev pub first_of_statement : Tree → TaskTree → Scope → Stmt → Option Breach
first_of_statement tree task s x = option_or (told_on x.line (first_of_form tree task s (form_of x.what)))
    (option_or (first_within tree task s (form_of x.what)) (told_on x.line (first_of_demand tree s (form_of x.what))))

-- the shapes of loops at some statements
abbrev pub loops_of : Tree → List Visit → List LoopShape
loops_of tree vs = flat_map (loop_at tree) vs

abbrev pub visits_of : Tree → TaskTree → Scope → Stmt → List Visit
visits_of tree task s x = record { task = task; scope = s; line = x.line; form = form_of x.what }
    ∷ visits_within tree task s (form_of x.what)
