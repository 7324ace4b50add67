use Rattle.std.proofs.Common.{rules, ◌≡◌, true, refl}
use Rattle.code_rules.specs.Slots.{stays}
use Rattle.compile_types.specs.Here.{where_of}
use Rattle.compile_expressions.proofs.Steps.{load_with_steps}
use Rattle.compile_expressions.proofs.single.load.Goals as goal

pub returns-then-stays : goal.returns-then-stays
returns-then-stays c =
    let yes : stays c.args.t.now ≡ true = search rules in
    rw (
      load_with_steps (where_of c.args.here.now) c.args.t.now c.args.slot c.args.steps.now (search rules),
      yes,
    )
    refl
