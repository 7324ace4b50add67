use Rattle.std.proofs.Common.{rules, ◌≡◌, ◌<◌, Option, refl, subst, ap}
use Rattle.std.proofs.lemmas.Result.{IfOk-weaker}
use Rattle.machine_terms.specs.declared.order.Ended.{Ended}
use Rattle.machine_terms.specs.declared.order.Instance.{Instance}
use Rattle.machine_terms.specs.Orders.{before_of, runs}
use Rattle.machine_terms.specs.Segments.{segment}
use Rattle.plain_store.specs.declared.holder.Holder.{Holder}
use Rattle.plain_store.specs.Loans.{Follows, whole}
use Rattle.plain_run.specs.Answers.{resume_after_by}
use Rattle.plain_run.proofs.Calling.{level_below}
use Rattle.plain_run.proofs.Resuming.{await_follows, calls_follow, goes_on_behind, holder_first, holder_last, holder_next, make_follows}
use Rattle.plain_run.proofs.order.+run.Goals as goal

pub next_segment-returns-then-goes_on : goal.next_segment-returns-then-goes_on
next_segment-returns-then-goes_on t c =
    let h = c.args.holder.now in
    IfOk-weaker c.resume.result _ _ (λ over f k st.
    goes_on_behind c.args.answers.now.kept c.args.code.now c.args.turns (runs c.args.code.now c.args.turns c.args.below) k h
    (record h { instance = c.run_one.new.instance }) (segment (before_of c.args.code.now h.instance))
    c.in_ok-goes_on.goes_on c.in_ok-goes_on.ends c.in_ok-goes_on.ensures refl over c.resume.new.holder c.if-goes_on.true st f) c.resume.ensures

pub resume-returns-in_ok-give_all-in-Calls : goal.resume-returns-in_ok-give_all-in-Calls
resume-returns-in_ok-give_all-in-Calls t c =
    let gave = c.in_ok-give_all-in-Calls.ensures in
    IfOk-weaker c.call_all.result _ _ (λ over made k st.
    calls_follow c.args.answers.now.kept c.args.code.now c.args.turns (runs c.args.code.now c.args.turns c.args.below) k
    c.args.holder.now c.args.ends c.in-Calls.calls c.give_all.new.holder c.call_all.new.instance over
    c.in-Calls.is gave.loans (gave.instance k st) made) c.call_all.ensures

pub resume-returns-in_ok-await_child-in-Await : goal.resume-returns-in_ok-await_child-in-Await
resume-returns-in_ok-await_child-in-Await t c k st =
    await_follows c.args.answers.now.kept c.args.code.now c.args.turns (runs c.args.code.now c.args.turns c.args.below) k
    c.args.holder.now c.args.ends c.in-Await.child c.await_child.new.instance st c.in-Await.is c.in_ok-await_child-in-Await.ensures

pub resume-returns-in-Make : goal.resume-returns-in-Make
resume-returns-in-Make t c =
    IfOk-weaker c.make.result _ _ (λ over made k st.
    make_follows c.args.answers.now.kept c.args.code.now c.args.turns (runs c.args.code.now c.args.turns c.args.below) k
    c.args.holder.now c.args.ends c.in-Make.made over c.make.new.instance st c.in-Make.is made) c.make.ensures

pub run_segments-loop-left-init : goal.run_segments-loop-left-init
run_segments-loop-left-init t c =
    holder_first c.args.code.now c.args.turns (runs c.args.code.now c.args.turns c.args.below) c.args.count
    c.args.holder.now c.new-answers.result c.requires c.new-answers.ensures

pub run_segments-returns-in-Some : goal.run_segments-returns-in-Some
run_segments-returns-in-Some t c =
    let positive : 0 < c.loop-left.left = search (rules) in
    let now = c.loop-left.holder in
    let kept : Holder = record now { instance = c.keep_answers.new.instance } in
    let child = runs c.args.code.now c.args.turns c.args.below in
    holder_last c.args.code.now c.args.turns child c.loop-left.left now kept c.next_segment.new.holder
    c.loop-left.answers c.keep_answers.new.answers _ positive c.loop-left.invariant
    (ap (λ (i : Instance). record now { instance = i }) c.in_ok-keep_answers.ensures.instance) c.in_ok-keep_answers.ensures.answers
    c.in-Some.ended (λ k st. subst (λ (o : Option Ended). Follows o c.next_segment.new.holder
    (resume_after_by c.keep_answers.new.answers.kept c.args.code.now c.args.turns child
    (segment (before_of c.args.code.now kept.instance)) (whole k kept))) c.in-Some.is (c.in_ok-ended.ensures k st))

pub run_segments-loop-left-preserved : goal.run_segments-loop-left-preserved
run_segments-loop-left-preserved t c =
    let positive : 0 < c.loop-left.left = search (rules) in
    let now = c.loop-left.holder in
    let kept : Holder = record now { instance = c.keep_answers.new.instance } in
    let child = runs c.args.code.now c.args.turns c.args.below in
    holder_next c.args.code.now c.args.turns child c.loop-left.left now kept c.next_segment.new.holder
    c.loop-left.answers c.keep_answers.new.answers _ positive c.loop-left.invariant
    (ap (λ (i : Instance). record now { instance = i }) c.in_ok-keep_answers.ensures.instance) c.in_ok-keep_answers.ensures.answers
    (λ k st. subst (λ (o : Option Ended). Follows o c.next_segment.new.holder
    (resume_after_by c.keep_answers.new.answers.kept c.args.code.now c.args.turns child
    (segment (before_of c.args.code.now kept.instance)) (whole k kept))) c.in_default.is (c.in_ok-ended.ensures k st))

pub runs-returns : goal.runs-returns
runs-returns t c =
    let positive : 0 < c.args.levels = search (rules) in
    IfOk-weaker c.run_segments.result _ _ (λ e is.
    level_below c.args.code.now c.args.turns c.args.levels c.in_ok-count.count c.args.holder.now.instance e
    positive c.in_ok-count.ensures is) c.run_segments.ensures
