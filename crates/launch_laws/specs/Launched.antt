-- The launches in the code of a whole program.
use Rattle.std.specs.Prelude.{Bool, List, Some, [], false, filter, flat_map, map, true, ◌≡◌, ℕ}
use Rattle.regent_tree.specs.Syntax.{Tree}
use Rattle.task_code.specs.declared.code.Line.{Line}
use Rattle.task_code.specs.declared.code.TaskCode.{TaskCode}
use Rattle.task_code.specs.declared.instr.Instr.{Instr}
use Rattle.task_code.specs.declared.instr.Instr.TheVariants as instr
use Rattle.check_rules.specs.Breaches.{breaches}
use Rattle.check_rules.specs.declared.loop_shape.LoopShape.{LoopShape}
use Rattle.check_rules.specs.launches.Shapes.{loops}
use Rattle.code_rules.specs.Launches.{is_launch}
use Rattle.code_rules.specs.Programs.{code_of}

abbrev pub issues_calls : Instr → Bool
issues_calls (instr.Launch task space call_line args) = true
issues_calls _ = false

-- the lines of the launches in a body, in order
abbrev pub launches_in : List Line → List ℕ
launches_in body = map (λ (l : Line). l.line) (filter (λ (l : Line). issues_calls l.instr) body)

-- and of the loops whose shape is Launch
abbrev pub launchable : List LoopShape → List ℕ
launchable all = map (λ (l : LoopShape). l.line) (filter (λ (l : LoopShape). is_launch (Some l.shape)) all)

-- In a program without a breach the code of its tasks has one launch for each loop whose shape is Launch, on the loop's
-- line, in the order of the text, and no other.
abbrev pub LaunchesAreThoseOfLoops : Type 0
LaunchesAreThoseOfLoops = (tree : Tree) → breaches tree ≡ [] →
    flat_map (λ (t : TaskCode). launches_in t.body) (code_of tree).tasks ≡ launchable (loops tree)
