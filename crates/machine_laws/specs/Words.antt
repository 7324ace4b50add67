-- Shorthand for the code of the examples, and for what is said of it.
use Rattle.std.specs.Prelude.{◌≡◌, ℕ, suc, length, ℤ, pos, neg_ℤ, List, [], ◌∷◌, Some, None, false, ◌+◌, ◌*◌, ◌^◌}
use Rattle.lane_kernels.specs.declared.numbers.FieldKind.{FieldKind}
use Rattle.lane_kernels.specs.declared.numbers.Mode.{Mode}
use Rattle.region_tree.specs.declared.needs.Need.{Need}
use Rattle.region_tree.specs.declared.piece.Part.{Part}
use Rattle.region_tree.specs.Pieces.{Held}
use Rattle.regent_tree.specs.declared.outcome.FaultKind.{FaultKind}
use Rattle.task_code.specs.declared.code.Code.{Code}
use Rattle.task_code.specs.declared.code.Line.{Line}
use Rattle.task_code.specs.declared.code.SpaceCode.{SpaceCode}
use Rattle.task_code.specs.declared.code.TaskCode.{TaskCode}
use Rattle.task_code.specs.declared.instr.Instr.{Instr}
use Rattle.task_code.specs.declared.instr.Instr.TheVariants as instr
use Rattle.machine_terms.specs.declared.frame.Before.{Before}
use Rattle.machine_terms.specs.declared.frame.Frame.{Frame}
use Rattle.machine_terms.specs.declared.outcome.Yield.{Yield}
use Rattle.machine_terms.specs.declared.outcome.Yield.TheVariants as yield
use Rattle.machine_terms.specs.declared.value.RegionValue.{RegionValue}
use Rattle.machine_terms.specs.declared.value.Value.{Value}
use Rattle.machine_terms.specs.declared.value.Value.TheVariants as value
use Rattle.machine_terms.specs.Segments.{segment}

-- ---- code

-- the instructions of a body, the first on line 1, the next on line 2, and so on
abbrev pub lines_from : ℕ → List Instr → List Line
lines_from n [] = []
lines_from n (i ∷ is) = record { instr = i; line = n } ∷ lines_from (suc n) is

abbrev pub task : ℕ → ℕ → List Instr → TaskCode
task params slots body = record {
  params = params;
  result = false;
  needs = [];
  slots = slots;
  body = lines_from 1 body;
}

abbrev pub code_of : List TaskCode → List SpaceCode → Code
code_of tasks spaces = record { tasks = tasks; spaces = spaces; start = 0 }

abbrev pub num : ℕ → Instr
num n = instr.Num (pos n)

-- null, and a pointer with a position, as they are kept
abbrev pub null : ℤ
null = neg_ℤ (pos 1)

abbrev pub pointer : ℕ → ℕ → ℤ
pointer position n = pos (position * 2 ^ 32 + n)

-- ---- values, needs and parts

abbrev pub number : ℕ → Value
number n = value.Number (pos n)

abbrev pub region_of : ℕ → List ℕ → RegionValue
region_of root ps = record { root = record { 0 = root }; node = record { 0 = 0 }; points = ps }

abbrev pub region : ℕ → List ℕ → Value
region root ps = value.Region (region_of root ps)

abbrev pub need : ℕ → ℕ → Mode → Need
need root field mode =
    record { root = record { 0 = root }; node = record { 0 = 0 }; field = field; mode = mode }

abbrev pub held : List ℕ → Mode → List ℤ → Held
held ps mode zs = record { points = ps; mode = mode; values = zs }

abbrev pub part : ℕ → ℕ → FieldKind → List Held → Part
part root field kind pieces =
    record { root = record { 0 = root }; field = field; kind = kind; pieces = pieces }

-- ---- frames

-- the frame of a task at its first instruction, with nothing on the stack, three turns, and no child
abbrev pub frame : ℕ → List Value → List Need → Frame
frame task slots needs = record {
  task = task;
  pc = 0;
  slots = slots;
  stack = [];
  turns = 3;
  depth = 1;
  needs = record { items = needs };
  own = [];
  children = 0;
  later = None;
}

-- a task alone, with values in its slots, needs and parts
abbrev pub alone : List Value → List Need → List Part → List Instr → Before
alone slots needs parts body = record {
  code = code_of (task 0 (length slots) body ∷ []) [];
  frame = frame 0 slots needs;
  parts = parts;
}

-- ---- what a segment gives

abbrev pub ends : Before → Yield → Type 0
ends b y = (segment b).ends ≡ y

abbrev pub breaks : Before → Type 0
breaks b = ends b yield.MachineFault

abbrev pub faults : Before → FaultKind → ℕ → Type 0
faults b kind line = ends b (yield.Fault (record { kind = kind; line = line }))

-- it ends with a number
abbrev pub gives : Before → ℤ → Type 0
gives b z = ends b (yield.End (Some z))
