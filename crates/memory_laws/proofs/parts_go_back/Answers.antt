use Rattle.memory_laws.proofs.Closed.{alone_is_the_store}
use Rattle.memory_laws.proofs.Given.{given_is_seen, given_keeps_numbers, given_stands, given_holds}
use Rattle.memory_laws.proofs.parts_go_back.Goals as goal

pub returns-clause-seen : goal.returns-clause-seen
returns-clause-seen c = given_is_seen

pub returns-clause-numbers : goal.returns-clause-numbers
returns-clause-numbers c = given_keeps_numbers

pub returns-clause-alone : goal.returns-clause-alone
returns-clause-alone c = given_stands

pub returns-clause-holds : goal.returns-clause-holds
returns-clause-holds c = given_holds

pub returns-clause-exact : goal.returns-clause-exact
returns-clause-exact c = alone_is_the_store
