use Rattle.board_facts.proofs.Families.{text_grows_by_what_is_printed}
use Rattle.board_facts.proofs.Giving.{segments_are_given}
use Rattle.board_facts.proofs.segments_are_given.Goals as goal

pub returns-clause-said : goal.returns-clause-said
returns-clause-said c = text_grows_by_what_is_printed

pub returns-clause-given : goal.returns-clause-given
returns-clause-given c = segments_are_given
