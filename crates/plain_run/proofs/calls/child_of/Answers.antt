use Rattle.std.proofs.Common.{rules, ◌≡◌, Some, refl, true, slice_get, length, nat_le, sym, ap, ◌∙◌}
use Rattle.std.proofs.lemmas.Option.{slice_get_read}
use Rattle.machine_terms.specs.declared.order.Contents.{Contents}
use Rattle.machine_terms.specs.declared.order.Instance.{Instance}
use Rattle.machine_terms.specs.Orders.{after_call, begun}
use Rattle.plain_store.specs.declared.holder.Holder.{Holder}
use Rattle.plain_run.proofs.Calling.{call_begins}
use Rattle.plain_run.proofs.calls.child_of.Goals as goal

pub returns-clause-called : goal.returns-clause-called
returns-clause-called c run =
    let i = c.args.caller.now in
    let frame = c.in_ok-frame.frame in
    let needs = c.in-Some-2.needs in
    let few : nat_le (length c.args.call.args) c.in-Some.task.now.slots ≡ true = search (rules) in
    let tasks = c.args.code.now.tasks in
    let is : Some c.in-Some.task.now ≡ slice_get tasks c.args.call.task =
    sym (slice_get_read tasks (length tasks) c.args.call.task c.in-Some.task.now refl (search rules) (search rules)) in
    let begins : c.begun.result.instance ≡ begun frame needs i.contents =
    ap (λ (h : Holder). h.instance) c.begun.ensures
    ∙ ap (λ (k : Contents). begun frame needs k) c.replace-contents.ensures.value in
    ap (λ (j : Instance). after_call (run j) (record i { contents = c.replace-contents.new.dest })) begins
    ∙ call_begins c.args.code.now c.args.turns run c.args.call i c.in-Some.task.now is frame needs c.replace-contents.new.dest
    few c.in_ok-frame.ensures (sym c.in-Some-2.is ∙ c.in_ok-needs.ensures)
