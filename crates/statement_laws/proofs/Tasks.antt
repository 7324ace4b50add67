-- The body of a task in a program without a breach: each touch that it makes is covered.
use Rattle.std.proofs.Common.{List, [], refl, ℕ, ◌≡◌}
use Rattle.regent_tree.specs.Syntax.{TaskTree, Tree}
use Rattle.regent_tree.specs.Values.{Value}
use Rattle.check_rules.specs.Breaches.{breaches}
use Rattle.check_rules.specs.scopes.Sound.{StandsIn}
use Rattle.expression_laws.specs.WrittenStatements.{IsWrittenBlock}
use Rattle.regent_tree.specs.Execution.{Going, exec_block, goes_on, returned}
use Rattle.regent_tree.specs.Meaning.{body_of}
use Rattle.regent_tree.specs.Running.{Calls, Result, State, fails, gives}
use Rattle.regent_tree.specs.Scopes.{Scope, scope_of}
use Rattle.regent_tree.specs.Typing.{scope_after_block}
use Rattle.fact_laws.specs.Regions.{Interpretation}
use Rattle.expression_laws.specs.Sound.{AreCovered, AreSoundAnswers, Instance}
use Rattle.statement_laws.specs.Steady.{GoesOnSound}
use Rattle.check_laws.proofs.Bodies.{body_told}
use Rattle.statement_laws.proofs.Leaves.{leaves_go}
use Rattle.statement_laws.proofs.Starts.{variables_go}
use Rattle.statement_laws.proofs.Statements.{block_goes, form_goes}
use Rattle.statement_laws.specs.Laws.{BodiesAreCovered, IsSoundOpening, StatementsKeep, state_of}

pub covered_there : (x : Instance) (m : Interpretation) (n : ℕ) (t : Scope) (r : Result Going) → GoesOnSound x m n t r → AreCovered x (state_of r).touches
covered_there x m n t (gives goes_on u) goes = goes.state.covered
covered_there x m n t (gives (returned v) u) goes = goes.covered
covered_there x m n t (fails f u) goes = goes.covered

pub statements_keep : StatementsKeep
statements_keep task args roots form h = form_goes task args roots (leaves_go task args roots (variables_go task args roots)) form h

pub body_goes : (tree : Tree) (calls : Calls) (task : TaskTree) (args : List Value) (roots : ℕ) (m : Interpretation) → breaches tree ≡ [] → StandsIn tree task → IsWrittenBlock task.body →
    AreSoundAnswers m tree calls → (u : State) → IsSoundOpening (record { tree = tree; calls = calls; task = task; args = args; roots = roots }) m u →
    GoesOnSound (record { tree = tree; calls = calls; task = task; args = args; roots = roots }) m (scope_of tree task).next (scope_after_block tree (scope_of tree task) task.body)
    (exec_block (body_of tree calls task) task.body u)
body_goes tree calls task args roots m none stands written answers u opening =
    let told = body_told tree task none stands in
    block_goes task args roots (leaves_go task args roots (variables_go task args roots)) task.body (body_of tree calls task) m
    (record { sound = told.sound; sound_task = told.sound_task; scope = told.scope; static = opening.static; place = opening.place; answers = answers; result = refl })
    told.told written u opening.state

pub bodies_are_covered : BodiesAreCovered
bodies_are_covered tree calls task args roots m none stands written answers u opening =
    covered_there (record { tree = tree; calls = calls; task = task; args = args; roots = roots }) m (scope_of tree task).next (scope_after_block tree (scope_of tree task) task.body)
    (exec_block (body_of tree calls task) task.body u) (body_goes tree calls task args roots m none stands written answers u opening)
