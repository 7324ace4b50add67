use Rattle.std.proofs.Common.{◌≡◌, ◌++◌}
use Rattle.machine_terms.specs.Makes.{root_requirements}
use Rattle.plain_store.proofs.requiring.add_root_requirements.Given as goal

abbrev pub invariant-loop-field : goal.invariant-loop-field
invariant-loop-field l =
    l.needs ≡ l.initial.needs ++ root_requirements l.root.0 l.points l.field
