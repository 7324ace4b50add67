use Rattle.std.proofs.Common.{List, [], ℕ, subst, sym, arith}
use Rattle.std.proofs.lemmas.List.{get_or_read}
use Rattle.point_sets.specs.Stretches.{IsStretchFrom}
use Rattle.region_tree.proofs.Spanning.{IsAdding, adding_more}
use Rattle.region_tree.proofs.sweep.add_spans.Goals as goal

pub loop-stretch-preserved : goal.loop-stretch-preserved
loop-stretch-preserved c =
    let set = get_or_read c.args.sets.now c.args.colour c.index-sets-colour.result (omega arith)
    c.index-sets-colour.is [] in
    let stretch = subst (λ (xs : List ℕ). IsStretchFrom xs c.loop-stretch.from
    c.in-Some.stretch.start c.in-Some.stretch.end) set c.in-Some.ensures.stretch in
    subst (IsAdding c.args.sets.now c.args.colour c.in-Some.stretch.end c.args.spans.now.items)
    (sym c.in_ok-push.ensures.items)
    (adding_more c.args.sets.now c.args.colour c.loop-stretch.from c.in-Some.stretch.start
    c.in-Some.stretch.end c.args.spans.now.items c.loop-stretch.spans.items c.requires.colours
    c.loop-stretch.invariant stretch c.in-Some.ensures.limit)
