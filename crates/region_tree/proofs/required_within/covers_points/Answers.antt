use Rattle.std.proofs.Common.{◌≡◌, ◌&&◌, ap, sym, ◌∙◌, ◌+◌, drop}
use Rattle.std.specs.List.{list_all}
use Rattle.region_tree.specs.Requirements.{is_subsumed, mode_at}
use Rattle.region_tree.proofs.Covering.{all_more, covered_at}
use Rattle.region_tree.proofs.required_within.covers_points.Goals as goal

pub returns-then-not-is_subsumed : goal.returns-then-not-is_subsumed
returns-then-not-is_subsumed c =
    let ours = c.args.ours.now in
    let theirs = c.args.theirs.now in
    let f = covered_at ours theirs c.args.root.0 c.args.field in
    let xs = c.args.points.now in
    let i = c.loop-place.place in
    let p = c.in-Some.point in
    let more = all_more f xs i p (sym c.in-Some.ensures.value) in
    let same : c.is_subsumed.result ≡ f p = c.is_subsumed.ensures ∙
    ap (λ o. is_subsumed o c.mode_at-other.result) c.mode_at-one.ensures ∙
    ap (is_subsumed (mode_at ours c.args.root.0 c.args.field p)) c.mode_at-other.ensures in
    sym (sym c.loop-place.invariant ∙ more ∙ ap (λ b. b && list_all f (drop (i + 1) xs))
    (sym same ∙ c.if-not-is_subsumed.true))

pub loop-place-preserved : goal.loop-place-preserved
loop-place-preserved c =
    let ours = c.args.ours.now in
    let theirs = c.args.theirs.now in
    let f = covered_at ours theirs c.args.root.0 c.args.field in
    let xs = c.args.points.now in
    let i = c.loop-place.place in
    let p = c.in-Some.point in
    let more = all_more f xs i p (sym c.in-Some.ensures.value) in
    let same : c.is_subsumed.result ≡ f p = c.is_subsumed.ensures ∙
    ap (λ o. is_subsumed o c.mode_at-other.result) c.mode_at-one.ensures ∙
    ap (is_subsumed (mode_at ours c.args.root.0 c.args.field p)) c.mode_at-other.ensures in
    sym (ap (λ b. b && list_all f (drop (i + 1) xs)) (sym same ∙ c.if-not-is_subsumed.false)) ∙
    sym more ∙ c.loop-place.invariant
