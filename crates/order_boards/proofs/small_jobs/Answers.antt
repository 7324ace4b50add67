use Rattle.order_boards.proofs.Example.{both_are_broken, first_root_holds}
use Rattle.order_boards.proofs.small_jobs.Goals as goal

pub returns-clause-root : goal.returns-clause-root
returns-clause-root c = first_root_holds

pub returns-clause-empty_need : goal.returns-clause-empty_need
returns-clause-empty_need c = both_are_broken
