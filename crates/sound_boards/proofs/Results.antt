-- Boards of texts come to what the texts mean: a board comes to the run in order of its job, and that is the meaning.
use Rattle.std.proofs.Common.{◌∙◌, ap, None, Some}
use Rattle.std.specs.Prelude.{cond}
use Rattle.board_terms.specs.Stages.{has_finished}
use Rattle.fit_boards.proofs.Results.{results_are_ordered}
use Rattle.code_laws.specs.Programs.{job_of}
use Rattle.code_laws.proofs.LocalRuns.{accepted_programs_end_well, accepted_programs_run_as_meant}
use Rattle.sound_boards.specs.Results.{BoardsComeToTheMeaning, TextsEndWell}
use Rattle.sound_boards.proofs.Texts.{program_run}

pub boards_come_to_the_meaning : BoardsComeToTheMeaning
boards_come_to_the_meaning text tree inputs p turns few journal s e =
    results_are_ordered (job_of tree inputs turns) journal s e
    ∙ ap (λ o. cond (has_finished s) (Some o) None) (accepted_programs_run_as_meant tree inputs turns few (program_run text tree inputs p))

pub texts_end_well : TextsEndWell
texts_end_well text tree inputs p turns few = accepted_programs_end_well tree inputs turns few (program_run text tree inputs p)
