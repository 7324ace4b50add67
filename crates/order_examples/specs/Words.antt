-- Shorthand for the jobs of the examples, and for what is said of them.
use Rattle.std.specs.Prelude.{◌≡◌, ℕ, ℤ, List, [], ◌∷◌, false, codes}
use Rattle.lane_kernels.specs.declared.numbers.FieldKind.TheVariants.{Int64}
use Rattle.lane_kernels.specs.declared.numbers.Mode.{Mode}
use Rattle.regent_tree.specs.declared.outcome.Ending.{Ending}
use Rattle.regent_tree.specs.declared.outcome.Ending.TheVariants.{Finished}
use Rattle.regent_tree.specs.declared.outcome.RootImage.{RootImage}
use Rattle.task_code.specs.declared.code.NeedCode.{NeedCode}
use Rattle.task_code.specs.declared.code.TaskCode.{TaskCode}
use Rattle.task_code.specs.declared.job.Job.{Job}
use Rattle.task_code.specs.declared.instr.Instr.{Instr}
use Rattle.task_code.specs.declared.instr.Instr.TheVariants as instr
use Rattle.task_code.specs.declared.instr.PrintPart.TheVariants as print_part
use Rattle.machine_terms.specs.Jobs.{order_run}
use Rattle.machine_laws.specs.Words.{lines_from, num}

-- ---- code

-- a task with so many parameters and slots
abbrev pub task : ℕ → ℕ → List NeedCode → List Instr → TaskCode
task params slots needs body = record {
  params = params;
  result = false;
  needs = needs;
  slots = slots;
  body = lines_from 1 body;
}

-- a task alone with its slots
abbrev pub plain : ℕ → List Instr → TaskCode
plain slots body = task 0 slots [] body

-- a need of a parameter in field 0
abbrev pub need : ℕ → Mode → NeedCode
need param mode = record { param = param; field = 0; mode = mode }

abbrev pub say : List ℕ → Instr
say text = instr.Print (print_part.Text text ∷ [])

abbrev pub say_number : Instr
say_number = instr.Print (print_part.Number ∷ [])

-- a root of so many points of the field space, in a slot
abbrev pub root_in : ℕ → ℕ → List Instr → List Instr
root_in slot size body = num size ∷ instr.Space ∷ instr.NewRoot 0 ∷ instr.Store slot ∷ body

-- ---- jobs

-- a job whose code has one field space with one field, and whose turns are two
abbrev pub job : ℕ → List ℤ → List TaskCode → Job
job start inputs tasks = record {
  code = record {
    tasks = tasks;
    spaces = record { name = codes "f"; fields = record { name = codes "x"; kind = Int64 } ∷ [] } ∷ [];
    start = start;
  };
  inputs = inputs;
  turns = 2;
}

-- a job that starts with its first task, and has no inputs
abbrev pub started : List TaskCode → Job
started tasks = job 0 [] tasks

-- it has this text and ending
abbrev pub gives : Job → List ℕ → Ending → Type 0
gives j text ending = order_run j ≡ record { text = text; ending = ending }

-- a root with these numbers in its field
abbrev pub root_of : ℕ → List ℤ → RootImage
root_of count numbers = record { space = 0; count = count; fields = numbers ∷ [] }

-- it finishes with one root
abbrev pub leaves : Job → List ℕ → RootImage → Type 0
leaves j text root = gives j text (Finished (root ∷ []))
