-- Rule 4, Count: a call or a field space use has the wrong number of arguments.
use Rattle.std.specs.List.{list_any}
use Rattle.std.specs.Prelude.{Bool, List, [], length, not, ◌&&◌, ◌==◌, ◌∷◌}
use Rattle.regent_tree.specs.StaticTypes.{task_named}
use Rattle.regent_tree.specs.Syntax.{Tree}
use Rattle.regent_tree.specs.declared.types.SpaceUse.{SpaceUse}
use Rattle.regent_tree.specs.declared.types.TypeTerm.{TypeTerm}
use Rattle.regent_tree.specs.declared.types.TypeTerm.TheVariants as typed
use Rattle.regent_tree.specs.Lookup.{has_space, has_task, space_used}
use Rattle.check_rules.specs.types.TypedForms.{Calling, TypedForm, call_in}

-- what a written type names
abbrev pub uses_of : TypeTerm → List SpaceUse
uses_of (typed.Pointer t) = t.space ∷ []
uses_of (typed.Region k u) = u ∷ []
uses_of t = []

-- the field space is used with another number of arguments than it has parameters
abbrev pub miscounts_use : Tree → SpaceUse → Bool
miscounts_use tree u =
    has_space tree u.name && not (length u.args == length (space_used tree u).params)

abbrev pub miscounts_in_type : Tree → TypeTerm → Bool
miscounts_in_type tree t = list_any (miscounts_use tree) (uses_of t)

abbrev pub miscounts_call : Tree → Calling → Bool
miscounts_call tree c = has_task tree c.task
    && not (length c.args == length (task_named tree c.task).params)

abbrev pub miscounts : Tree → TypedForm → Bool
miscounts tree typed_form = list_any (miscounts_call tree) (call_in typed_form)
