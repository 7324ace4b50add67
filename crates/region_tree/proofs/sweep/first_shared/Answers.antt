use Rattle.std.proofs.Common.{◌+◌, ◌∙◌, subst, sym, refl, arith}
use Rattle.std.proofs.lemmas.Bool.{false≢true}
use Rattle.region_tree.proofs.Sweeping.{IsSwept, shared_here, swept_more, swept_all, none_before}
use Rattle.region_tree.proofs.sweep.first_shared.Goals as goal

pub returns-then-begins_inside-clause-shared : goal.returns-then-begins_inside-clause-shared
returns-then-begins_inside-clause-shared c =
    let parts = c.begins_inside.ensures.0 c.if-begins_inside.true in
    shared_here c.args.spans.now c.requires.rising c.loop-span.span-index c.loop-span.reach _
    (omega arith) refl c.loop-span.invariant
    (c.requires.some c.loop-span.span-index _ c.loop-span-test.true) parts.0 parts.1

pub returns-then-begins_inside-clause-least : goal.returns-then-begins_inside-clause-least
returns-then-begins_inside-clause-least c =
    none_before c.args.spans.now c.requires.rising c.loop-span.span-index c.loop-span.reach _
    (omega arith) refl c.loop-span.invariant

pub loop-span-preserved : goal.loop-span-preserved
loop-span-preserved c =
    subst (IsSwept c.args.spans.now (c.loop-span.span-index + 1)) (sym c.further-reach.ensures)
    (swept_more c.args.spans.now c.requires.rising c.loop-span.span-index c.loop-span.reach _
    (omega arith) refl c.loop-span.invariant
    (λ over ne. false≢true (sym c.if-begins_inside.false ∙ c.begins_inside.ensures.1 (over, ne))))

pub returns-clause-none : goal.returns-clause-none
returns-clause-none c _ z =
    swept_all c.args.spans.now c.loop-span.span-index c.loop-span.reach (omega arith)
    c.loop-span.invariant z
