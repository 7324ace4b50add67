use Rattle.regent_tree.specs.Plain.{expressions_in}
use Rattle.code_rules.specs.Emitted.{emitted}
use Rattle.code_rules.specs.Launches.{kept_code}
use Rattle.compile_types.specs.Here.{where_of}
use Rattle.compile_statements.proofs.Calls.{kept_on}
use Rattle.compile_statements.proofs.launches.all_kept.Goals as goal

pub loop-place-preserved : goal.loop-place-preserved
loop-place-preserved c =
    let w = where_of c.args.here.now in
    kept_on w c.args.variable.now c.args.types.now c.args.args.now c.loop-place.place c.index-args-place.result
    c.loop-place.body c.kept.new.body
    (emitted c.args.body.now (kept_code w c.args.variable.now 0 c.args.types.now (expressions_in c.args.args.now)))
    c.loop-place-test.true c.index-args-place.is c.in_ok-kept.ensures c.loop-place.invariant
