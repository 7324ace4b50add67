use Rattle.regent_run.proofs.Meant.{faulted_told, finished_told, ok_on}
use Rattle.regent_run.proofs.running.ended.Goals as goal

pub returns-in-Finished : goal.returns-in-Finished
returns-in-Finished c =
    ok_on c.finished.result
    (λ v h. finished_told c.args.outcome.now _ c.args.dump.now c.args.trace.items v c.in-Finished.is (h _)) c.finished.ensures

pub returns-in-Faulted : goal.returns-in-Faulted
returns-in-Faulted c =
    ok_on c.faulted.result
    (λ v h. faulted_told c.args.outcome.now c.in-Faulted.fault c.args.dump.now c.args.trace.items v c.in-Faulted.is (h c.args.dump.now)) c.faulted.ensures
