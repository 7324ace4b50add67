use Rattle.code_boards.proofs.Elements.{elements_are_parts}
use Rattle.code_boards.proofs.Regrouping.{pieces_regroup}
use Rattle.code_boards.proofs.elements_are_parts.Goals as goal

pub returns-clause-elements : goal.returns-clause-elements
returns-clause-elements c = elements_are_parts

pub returns-clause-pieces : goal.returns-clause-pieces
returns-clause-pieces c = pieces_regroup
