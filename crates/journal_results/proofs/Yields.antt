-- Whatever a segment yields, it leaves an open board.
use Rattle.std.proofs.Common.{◌≡◌, refl}
use Rattle.machine_terms.specs.declared.outcome.Made.TheVariants as made
use Rattle.machine_terms.specs.declared.outcome.Yield.{Yield}
use Rattle.machine_terms.specs.declared.outcome.Yield.TheVariants as yield
use Rattle.machine_terms.specs.Segments.{segment}
use Rattle.changed_trees.specs.Given.{Opens}
use Rattle.yielded_trees.proofs.Awaited.{awaits_open}
use Rattle.yielded_trees.proofs.Wanted.{wants_open}
use Rattle.ended_trees.proofs.Ends.{ends_open, faults_open, machine_faults_open}
use Rattle.called_trees.proofs.Calls.{calls_open}
use Rattle.made_trees.proofs.Parted.{partitions_open}
use Rattle.made_trees.proofs.Rooted.{roots_open}
use Rattle.journal_results.specs.Gives.{YieldsAllOpen}

pub yields_open : YieldsAllOpen
yields_open job s b h k v at claim before act = by_yield (segment before).ends refl
  where
    by_yield : (y : Yield) → (segment before).ends ≡ y → Opens job b k v s before
    by_yield (yield.Calls cs) e = calls_open job s b h k v at claim before act (cs, e)
    by_yield (yield.Want root field) e = wants_open job s b h k v at claim before act (root, field, e)
    by_yield (yield.Await n) e = awaits_open job s b h k v at claim before act (n, e)
    by_yield (yield.Make (made.Root size space)) e = roots_open job s b h k v at claim before act (size, space, e)
    by_yield (yield.Make (made.Partition region sets disjoint)) e = partitions_open job s b h k v at claim before act (region, sets, disjoint, e)
    by_yield (yield.End x) e = ends_open job s b h k v at claim before act (x, e)
    by_yield (yield.Fault x) e = faults_open job s b h k v at claim before act (x, e)
    by_yield yield.MachineFault e = machine_faults_open job s b h k v at claim before act e
