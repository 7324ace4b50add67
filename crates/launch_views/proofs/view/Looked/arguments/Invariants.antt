use Rattle.std.proofs.Common.{◌≡◌, drop}
use Rattle.std.specs.Prelude.{◌++◌}
use Rattle.regent_tree.specs.Plain.{expressions_in}
use Rattle.check_rules.specs.launches.Views.{argument_views}
use Rattle.launch_views.proofs.view.Looked.arguments.Given as goal

abbrev pub invariant-loop-place : goal.invariant-loop-place
invariant-loop-place l =
    l.views ++ argument_views l.self.scope.now.names l.self.variable.now l.self.params.now l.self.rights.now l.self.types.now l.place (expressions_in (drop l.place l.args))
    ≡ argument_views l.self.scope.now.names l.self.variable.now l.self.params.now l.self.rights.now l.self.types.now 0 (expressions_in l.args)
