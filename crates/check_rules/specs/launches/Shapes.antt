-- Rules 19, NotLaunch, and 20, Interferes: a loop under a demand is no index launch. It isn't over an index space, its
-- body isn't one call, or an argument has none of the forms; or else it is of the form, but its calls may interfere.
use Rattle.std.specs.Prelude.{Bool, true, false, List, Option, [], ◌∷◌, Some, None, ◌==◌, ◌&&◌, filter, flat_map, map, slice_get, ℕ}
use Rattle.regent_tree.specs.Scopes.{Scope}
use Rattle.regent_tree.specs.Syntax.{Form, Tree, for_in_form, for_to_form}
use Rattle.index_launch.specs.Shapes.{shape}
use Rattle.index_launch.specs.declared.view.LaunchShape.{LaunchShape}
use Rattle.index_launch.specs.declared.view.LaunchShape.TheVariants.{Plain}
use Rattle.index_launch.specs.declared.view.Reason.TheVariants.{Interferes}
use Rattle.check_rules.specs.declared.loop_shape.LoopShape.{LoopShape}
use Rattle.check_rules.specs.launches.Views.{loop_view}
use Rattle.check_rules.specs.scopes.Variables.{scope_in_count, scope_in_loop}
use Rattle.check_rules.specs.scopes.Visits.{Visit, visits}
use Rattle.check_rules.specs.types.KnownTypes.{known_type}
use Rattle.check_rules.specs.types.Sorts.{is_space, may_be}

-- The shape of a loop, and None of what is no loop. What isn't known to be no index space is taken for one.
abbrev pub shape_of : Tree → Scope → Form → Option LaunchShape
shape_of tree s (for_in_form demanded i domain body) = Some (shape
    (loop_view tree (scope_in_loop tree s i domain) i (may_be is_space (known_type tree s domain)) body))
shape_of tree s (for_to_form demanded i from to body) =
    Some (shape (loop_view tree (scope_in_count tree s i from to) i false body))
shape_of tree s form = None

-- ---- demands

abbrev pub is_demanded : Form → Bool
is_demanded (for_in_form demanded i domain body) = demanded
is_demanded (for_to_form demanded i from to body) = demanded
is_demanded form = false

-- plain for another reason than interference, and plain for that one
abbrev pub is_no_launch : Option LaunchShape → Bool
is_no_launch (Some (Plain (Interferes a b))) = false
is_no_launch (Some (Plain reason)) = true
is_no_launch shape = false

abbrev pub interferes : Option LaunchShape → Bool
interferes (Some (Plain (Interferes a b))) = true
interferes shape = false

abbrev pub demands_no_launch : Tree → Scope → Form → Bool
demands_no_launch tree s form = is_demanded form && is_no_launch (shape_of tree s form)

abbrev pub demands_interference : Tree → Scope → Form → Bool
demands_interference tree s form = is_demanded form && interferes (shape_of tree s form)

-- ---- the shapes of loops, by their lines

abbrev pub loop_on : ℕ → Option LaunchShape → List LoopShape
loop_on line None = []
loop_on line (Some s) = record { line = line; shape = s } ∷ []

abbrev pub loop_at : Tree → Visit → List LoopShape
loop_at tree v = loop_on v.line (shape_of tree v.scope v.form)

-- of all loops, in the order of the text
abbrev pub loops : Tree → List LoopShape
loops tree = flat_map (loop_at tree) (visits tree)

-- of the loop that is the nth to begin on a line
abbrev pub nth_on : List LoopShape → ℕ → ℕ → Option LaunchShape
nth_on all line nth = slice_get (map (λ (l : LoopShape). l.shape) (filter (λ (l : LoopShape). l.line == line) all)) nth

abbrev pub shape_on : Tree → ℕ → ℕ → Option LaunchShape
shape_on tree line nth = nth_on (loops tree) line nth
