use Rattle.std.specs.BinaryHeap.{heap_capacity, heap_items}
use Rattle.least_set.proofs.Marking.{none_on_top, top_is_least}
use Rattle.least_set.proofs.least_set.LeastSet.first.Goals as goal

pub returns-clause-some : goal.returns-clause-some
returns-clause-some c =
    top_is_least c.self.inside.marks.items (heap_items c.self.inside.heap) (heap_capacity c.self.inside.heap) c.args.self.now c.top.result c.self.view_is c.self.invariant.0 c.self.invariant.1
    c.top.ensures.some c.top.ensures.value c.top.ensures.least

pub returns-clause-none : goal.returns-clause-none
returns-clause-none c =
    none_on_top c.self.inside.marks.items (heap_items c.self.inside.heap) (heap_capacity c.self.inside.heap) c.args.self.now c.top.result c.self.view_is c.self.invariant.0 c.top.ensures.none
