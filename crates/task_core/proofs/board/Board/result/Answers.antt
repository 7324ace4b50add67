use Rattle.std.proofs.Common.{◌≡◌, ◌∙◌, None, Some, cond, subst}
use Rattle.std.specs.Option.{option_copied}
use Rattle.machine_terms.specs.Jobs.{order_run}
use Rattle.board_terms.specs.Outcomes.{result as result_of}
use Rattle.board_terms.specs.Stages.{has_finished}
use Rattle.journal_results.proofs.Journals.{results_are_ordered}
use Rattle.task_core.specs.Boards.{Standing}
use Rattle.task_core.proofs.board.Board.result.Goals as goal

pub returns : goal.returns
returns c =
    let board = c.self.invariant.0 in
    let told = c.as_ref.ensures.value ∙ board.told in
    record {
      told = subst (λ (x : Standing). option_copied c.as_ref.result ≡ result_of x.state) c.self.view_is told;
      ordered = subst (λ (x : Standing). option_copied c.as_ref.result ≡ cond (has_finished x.state) (Some (order_run x.job)) None) c.self.view_is
          (told ∙ results_are_ordered c.self.inside.job c.self.inside.journal.items c.self.inside.state board.replayed);
    }
