use Rattle.compile_tables.proofs.Adding.{counted_on}
use Rattle.compile_tables.proofs.needs.all_fields.Goals as goal

pub loop-place-preserved : goal.loop-place-preserved
loop-place-preserved c =
    counted_on c.loop-place.place c.args.count c.in_ok-narrow.field-0 c.loop-place.fields c.push.new.self _
    c.loop-place-test.true c.in_ok-narrow.ensures c.in_ok-push.ensures.ok c.loop-place.invariant
