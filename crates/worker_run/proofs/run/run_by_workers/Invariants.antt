use Rattle.worker_run.proofs.run.run_by_workers.Given as goal

abbrev pub ghosts-run_counted-L-Ledger : goal.ghosts-run_counted-L-Ledger
ghosts-run_counted-L-Ledger g a = record { name = a.steps.name; parts = a.steps.parts }

abbrev pub ghosts-run_counted-O-Ledger : goal.ghosts-run_counted-O-Ledger
ghosts-run_counted-O-Ledger g a = record { name = a.overs.name; parts = a.overs.parts }
