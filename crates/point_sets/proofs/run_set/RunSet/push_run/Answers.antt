use Rattle.std.proofs.Common.{ℕ, ◌-◌, ◌<◌, List, ◌++◌, length, All, subst, sym, ap, ◌∙◌, arith}
use Rattle.plain_values.specs.Points.{counted_from}
use Rattle.point_sets.specs.Runs.{IsJoined}
use Rattle.point_sets.specs.declared.runs.Run.{Run}
use Rattle.point_sets.proofs.RunLists.{points_of_runs}
use Rattle.point_sets.proofs.RunPush.{IsMore, added_fits, added_is_more, grown_fits, grown_is_more}
use Rattle.point_sets.proofs.run_set.RunSet.push_run.Goals as goal

pub overflow_add-run : goal.overflow_add-run
overflow_add-run c =
    let rs = c.self.inside.runs.items in
    let j = subst (λ (l : List Run). IsJoined l c.args.first) c.as_slice.ensures.value (c.ends_before.ensures.joined c.if-ends_before.true) in
    let above = subst (All (λ x. x < c.args.first)) (sym c.self.view_is) c.requires.above in
    grown_fits rs _ c.args.first c.args.end _ c.self.invariant (omega (arith, j.some, c.len-place.ensures, c.self.inside.runs.ok.0)) c.index_mut-run.ensures.value c.requires.order c.requires.below j above

pub invariant_of-self : goal.invariant_of-self
invariant_of-self c =
    let rs = c.self.inside.runs.items in
    let j = subst (λ (l : List Run). IsJoined l c.args.first) c.as_slice.ensures.value (c.ends_before.ensures.joined c.if-ends_before.true) in
    (grown_is_more rs _ c.args.first c.args.end _ c.self.invariant (omega (arith, j.some, c.len-place.ensures, c.self.inside.runs.ok.0)) c.index_mut-run.ensures.value c.requires.order c.requires.below j).runs

pub returns-then-ends_before-clause-ok : goal.returns-then-ends_before-clause-ok
returns-then-ends_before-clause-ok c =
    let rs = c.self.inside.runs.items in
    let j = subst (λ (l : List Run). IsJoined l c.args.first) c.as_slice.ensures.value (c.ends_before.ensures.joined c.if-ends_before.true) in
    let more = grown_is_more rs _ c.args.first c.args.end _ c.self.invariant (omega (arith, j.some, c.len-place.ensures, c.self.inside.runs.ok.0)) c.index_mut-run.ensures.value c.requires.order c.requires.below j in
    more.points ∙ ap (λ (l : List ℕ). l ++ counted_from c.args.first (c.args.end - c.args.first)) c.self.view_is

pub returns-then-ends_before-clause-points : goal.returns-then-ends_before-clause-points
returns-then-ends_before-clause-points c =
    let rs = c.self.inside.runs.items in
    let j = subst (λ (l : List Run). IsJoined l c.args.first) c.as_slice.ensures.value (c.ends_before.ensures.joined c.if-ends_before.true) in
    points_of_runs _ (grown_is_more rs _ c.args.first c.args.end _ c.self.invariant (omega (arith, j.some, c.len-place.ensures, c.self.inside.runs.ok.0)) c.index_mut-run.ensures.value c.requires.order c.requires.below j).runs

pub overflow_add-total : goal.overflow_add-total
overflow_add-total c =
    let rs = c.self.inside.runs.items in
    let above = subst (All (λ x. x < c.args.first)) (sym c.self.view_is) c.requires.above in
    added_fits rs c.args.first c.args.end _ c.self.invariant c.requires.order c.requires.below above (c.len.ensures.value ∙ ap length (sym c.self.view_is))

pub invariant_of-self-in-Continue-1 : goal.invariant_of-self-in-Continue-1
invariant_of-self-in-Continue-1 c =
    let rs = c.self.inside.runs.items in
    let above = subst (All (λ x. x < c.args.first)) (sym c.self.view_is) c.requires.above in
    let more = subst (λ (l : List Run). IsMore rs l c.args.first c.args.end) (sym c.in_ok-push.ensures.items) (added_is_more rs c.args.first c.args.end _ c.self.invariant c.requires.order c.requires.below above (c.len.ensures.value ∙ ap length (sym c.self.view_is)) (λ j. c.ends_before.ensures.apart c.if-ends_before.false (subst (λ (l : List Run). IsJoined l c.args.first) (sym c.as_slice.ensures.value) j))) in
    more.runs

pub returns-in_ok-push-clause-ok : goal.returns-in_ok-push-clause-ok
returns-in_ok-push-clause-ok c =
    let rs = c.self.inside.runs.items in
    let above = subst (All (λ x. x < c.args.first)) (sym c.self.view_is) c.requires.above in
    let more = subst (λ (l : List Run). IsMore rs l c.args.first c.args.end) (sym c.in_ok-push.ensures.items) (added_is_more rs c.args.first c.args.end _ c.self.invariant c.requires.order c.requires.below above (c.len.ensures.value ∙ ap length (sym c.self.view_is)) (λ j. c.ends_before.ensures.apart c.if-ends_before.false (subst (λ (l : List Run). IsJoined l c.args.first) (sym c.as_slice.ensures.value) j))) in
    more.points ∙ ap (λ (l : List ℕ). l ++ counted_from c.args.first (c.args.end - c.args.first)) c.self.view_is

pub returns-in_ok-push-clause-points : goal.returns-in_ok-push-clause-points
returns-in_ok-push-clause-points c =
    let rs = c.self.inside.runs.items in
    let above = subst (All (λ x. x < c.args.first)) (sym c.self.view_is) c.requires.above in
    let more = subst (λ (l : List Run). IsMore rs l c.args.first c.args.end) (sym c.in_ok-push.ensures.items) (added_is_more rs c.args.first c.args.end _ c.self.invariant c.requires.order c.requires.below above (c.len.ensures.value ∙ ap length (sym c.self.view_is)) (λ j. c.ends_before.ensures.apart c.if-ends_before.false (subst (λ (l : List Run). IsJoined l c.args.first) (sym c.as_slice.ensures.value) j))) in
    points_of_runs _ more.runs
