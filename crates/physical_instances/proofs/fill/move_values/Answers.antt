use Rattle.std.proofs.Common.{rules, ◌≡◌, ◌∙◌, ◌≤◌, ◌+◌, ◌-◌, ap, arith, length, sym, ℕ}
use Rattle.std.specs.Option.{option_copied}
use Rattle.logical_map.specs.Fills.{moved_beside, number_for}
use Rattle.logical_map.proofs.Moving.{moved_nothing}
use Rattle.physical_instances.specs.Fields.{column_if}
use Rattle.physical_instances.specs.Instances.{ArePut}
use Rattle.physical_instances.proofs.Stretches.{length_put, more_moved}
use Rattle.physical_instances.proofs.fill.move_values.Goals as goal

pub loop-place-init : goal.loop-place-init
loop-place-init c =
    let f = number_for (column_if (option_copied c.args.field)) c.args.mode in
    let none : c.args.first - c.args.first ≡ 0 = omega arith in
    record {
      above = omega arith;
      within = c.requires.order;
      count = c.requires.beside;
      done = sym (ap (λ (k : ℕ). moved_beside f c.args.first k c.args.points.now c.args.values.now) none ∙ moved_nothing f c.args.first c.args.points.now c.args.values.now);
    }

pub loop-place-preserved : goal.loop-place-preserved
loop-place-preserved c =
    let f = number_for (column_if (option_copied c.args.field)) c.args.mode in
    let ps = c.args.points.now in
    let place = c.loop-place.place in
    let n = c.move_run-place.result in
    let most : n ≤ c.args.end - place = search (rules) in
    let put : ArePut f ps place n c.loop-place.values c.move_run-place.new.values = c.move_run-place.ensures.values in
    let fits : place + n ≤ length ps = omega (arith, most, c.requires.end, c.loop-place.invariant.within) in
    record {
      above = omega (arith, c.loop-place.invariant.above);
      within = omega (arith, most, c.loop-place.invariant.within);
      count = ap length put ∙ length_put f ps place n c.loop-place.values ∙ c.loop-place.invariant.count;
      done = put ∙ more_moved f ps c.args.first place n c.args.values.now c.loop-place.values c.loop-place.invariant.above fits (sym c.requires.beside)
          c.loop-place.invariant.done;
    }

pub returns : goal.returns
returns c =
    let f = number_for (column_if (option_copied c.args.field)) c.args.mode in
    let last : c.loop-place.place ≡ c.args.end = search (rules) in
    c.loop-place.invariant.done ∙ ap (λ (k : ℕ). moved_beside f c.args.first (k - c.args.first) c.args.points.now c.args.values.now) last
