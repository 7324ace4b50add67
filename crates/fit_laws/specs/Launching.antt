-- Code with a launch is sound, so that the laws are laws of launches too.
--
-- A task takes a region, a disjoint partition of it and a number, and writes a field of the region. Over two colours it
-- launches a task that writes the field of the child by the colour, and takes the number, 5 and the colour.
use Rattle.std.specs.Prelude.{◌≡◌, ℕ, pos, List, [], ◌∷◌, None, Some, true, false, cond, get_or, ◌==◌}
use Rattle.index_launch.specs.declared.points.LaunchArg.{LaunchArg}
use Rattle.index_launch.specs.declared.points.LaunchArg.TheVariants as launch_arg
use Rattle.lane_kernels.specs.declared.numbers.FieldKind.TheVariants.{Int32}
use Rattle.lane_kernels.specs.declared.numbers.Mode.TheVariants.{Write}
use Rattle.lane_kernels.specs.declared.numbers.Width.TheVariants.{W32}
use Rattle.task_code.specs.declared.code.Line.{Line}
use Rattle.task_code.specs.declared.code.NeedCode.{NeedCode}
use Rattle.task_code.specs.declared.code.TaskCode.{TaskCode}
use Rattle.task_code.specs.declared.instr.Instr.TheVariants as instr
use Rattle.machine_terms.specs.declared.frame.Before.{Before}
use Rattle.machine_terms.specs.declared.outcome.CallOut.{CallOut}
use Rattle.machine_terms.specs.declared.outcome.Yield.TheVariants as yield
use Rattle.machine_terms.specs.declared.value.Value.TheVariants as value
use Rattle.machine_terms.specs.Makes.{region_with}
use Rattle.machine_terms.specs.Segments.{segment}
use Rattle.fit_rules.specs.Example.{halves, line_of, whole}
use Rattle.fit_rules.specs.Shapes.{Shape, anything, argument, index, integer, partition, region, space}
use Rattle.fit_rules.specs.Marks.{Mark, parted}
use Rattle.fit_rules.specs.Fits.{Program}
use Rattle.fit_rules.specs.Sound.{IsSound}

-- ---- the code

abbrev pub others : List LaunchArg
others = launch_arg.Keep 2 ∷ launch_arg.Number (pos 5) ∷ launch_arg.Point ∷ []

abbrev pub body : List Line
body = line_of (instr.Num (pos 2)) ∷ line_of instr.Space ∷ line_of (instr.Store 3)
    ∷ line_of (instr.Launch 1 3 2 (launch_arg.Child 1 ∷ others)) ∷ line_of instr.Return ∷ []

abbrev pub need : NeedCode
need = record { param = 0; field = 0; mode = Write }

abbrev pub caller : TaskCode
caller = record { params = 3; result = false; needs = need ∷ []; slots = 4; body = body }

abbrev pub callee : TaskCode
callee = record { params = 4; result = false; needs = need ∷ []; slots = 4; body = line_of instr.Return ∷ [] }

-- ---- the marks

-- before the space is in its slot, and behind that
abbrev pub mark : Shape → List Shape → Mark
mark kept stack = record {
  slots = region (Some 0) (argument 0) ∷ partition (Some 0) true ∷ integer W32 ∷ kept ∷ [];
  facts = parted 1 0 ∷ [];
  stack = stack;
  top = [];
  fixed = 0;
}

abbrev pub marks : List Mark
marks = mark anything [] ∷ mark anything (index ∷ []) ∷ mark anything (space ∷ []) ∷ mark space [] ∷ mark space [] ∷ []

abbrev pub begun : Mark
begun = record {
  slots = region (Some 0) (argument 0) ∷ integer W32 ∷ integer W32 ∷ integer W32 ∷ [];
  facts = [];
  stack = [];
  top = [];
  fixed = 0;
}

-- one field space, of one narrow field
abbrev pub program : Program
program = record {
  code = record {
    tasks = caller ∷ callee ∷ [];
    spaces = record { name = []; fields = record { name = []; kind = Int32 } ∷ [] } ∷ [];
    start = 0;
  };
  positions = λ sp f. 0;
  results = λ k. anything;
  begins = λ k. cond (k == 0) (mark anything []) begun;
  marks = λ k pc. cond (k == 0) (get_or marks pc (mark space [])) begun;
}

abbrev pub LaunchIsSound : Type 0
LaunchIsSound = IsSound program caller 0 × IsSound program callee 1

-- ---- a state at the launch

abbrev pub before : Before
before = record {
  code = program.code;
  frame = record {
    task = 0;
    pc = 3;
    slots = value.Region whole ∷ halves ∷ value.Number (pos 7) ∷ value.Space 2 ∷ [];
    stack = [];
    turns = 9;
    depth = 1;
    needs = record { items = [] };
    own = [];
    children = 0;
    later = None;
  };
  parts = [];
}

abbrev pub call_with : ℕ → CallOut
call_with c = record {
  task = 1;
  args = value.Region (region_with 3 (c ∷ [])) ∷ value.Number (pos 7) ∷ value.Number (pos 5) ∷ value.Number (pos c) ∷ [];
}

abbrev pub LaunchCalls : Type 0
LaunchCalls = (segment before).ends ≡ yield.Calls (call_with 0 ∷ call_with 1 ∷ [])
