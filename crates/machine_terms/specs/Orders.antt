-- A run in order: a task instance runs from segment to segment, and each call runs whole where it is
-- made.
use Rattle.std.specs.Prelude.{ℕ, zero, suc, ℤ, pos, List, [], ◌∷◌, ◌++◌, false, cond, Option, Some, None, slice_get, get_or, length, map, ◌+◌, ◌*◌, ◌==◌, nat_le}
use Rattle.region_tree.specs.Requirements.{Requirement, is_within}
use Rattle.task_code.specs.declared.code.Code.{Code}
use Rattle.task_code.specs.declared.code.TaskCode.{TaskCode}
use Rattle.machine_terms.specs.declared.frame.Before.{Before}
use Rattle.machine_terms.specs.declared.frame.Frame.{Frame}
use Rattle.machine_terms.specs.declared.order.Contents.{Contents}
use Rattle.machine_terms.specs.declared.order.Ended.{Ended}
use Rattle.machine_terms.specs.declared.order.Ended.TheVariants.{CameBack, Broke}
use Rattle.machine_terms.specs.declared.order.Instance.{Instance}
use Rattle.machine_terms.specs.declared.order.Resumed.{Resumed}
use Rattle.machine_terms.specs.declared.order.Resumed.TheVariants.{GoesOn, IsOver}
use Rattle.machine_terms.specs.declared.outcome.After.{After}
use Rattle.machine_terms.specs.declared.outcome.CallOut.{CallOut}
use Rattle.machine_terms.specs.declared.outcome.Made.{Made}
use Rattle.machine_terms.specs.declared.outcome.Made.TheVariants as made
use Rattle.machine_terms.specs.declared.outcome.Yield.{Yield}
use Rattle.machine_terms.specs.declared.outcome.Yield.TheVariants as yield
use Rattle.machine_terms.specs.declared.value.Value.{Value}
use Rattle.machine_terms.specs.declared.value.Value.TheVariants as value
use Rattle.machine_terms.specs.Segments.{segment, enough}
use Rattle.machine_terms.specs.Contents.{closed}
use Rattle.machine_terms.specs.Copies.{part_from, give_parts}
use Rattle.machine_terms.specs.Opening.{requirements_on, opening}
use Rattle.machine_terms.specs.Makes.{make_root, make_partition, is_sound}

-- how an instance ends that is run from here
abbrev pub Runner : Type 0
Runner = Instance → Ended

-- the run breaks, with the text up to here
abbrev pub breaks : Instance → Resumed
breaks i = IsOver (Broke None i.text)

-- ---- parts and children's values that were waited for

-- the part that is wanted
abbrev pub fetch_part : Code → ℕ → ℕ → Instance → Instance
fetch_part code root field i = record i {
  parts = i.parts ++ part_from code i.contents i.needs root field ∷ [];
}

-- the value of a child, in every slot that holds it; a child that isn't there counts as 0
abbrev pub settled : ℕ → ℤ → Value → Value
settled n z (value.Pending j) = cond (n == j) (value.Number z) (value.Pending j)
settled n z v = v

abbrev pub await : ℕ → Instance → Instance
await n i = record i {
  frame = record i.frame {
    slots = map (settled n (get_or i.results n (pos 0))) i.frame.slots;
  };
}

-- what is made; sets that leave their region or break their flag break the run
abbrev pub make : Code → Made → Instance → Resumed
make code (made.Root size space) i = GoesOn (make_root code size space i)
make code (made.Partition r sets disjoint) i = cond (is_sound r.points sets disjoint)
    (GoesOn (make_partition r sets disjoint i)) (breaks i)

-- ---- calls

-- what was written and folded goes back, and no part is held
abbrev pub give_all : Instance → Instance
give_all i = record i { parts = []; contents = give_parts i.parts i.contents }

-- a result that isn't there counts as 0
abbrev pub result_of : Option ℤ → ℤ
result_of (Some z) = z
result_of None = pos 0

-- A child that came back has its roots closed, and its value and text are added; any other ends the run.
abbrev pub after_call : Ended → Instance → Resumed
after_call (CameBack v own contents text) i = GoesOn (record i {
  contents = closed own contents;
  results = i.results ++ result_of v ∷ [];
  text = i.text ++ text;
})
after_call (Broke fault text) i = IsOver (Broke fault (i.text ++ text))

-- an instance that begins in a frame
abbrev pub begun : Frame → List Requirement → Contents → Instance
begun f needs contents = record {
  frame = f;
  parts = [];
  contents = contents;
  results = [];
  needs = needs;
  text = [];
}

abbrev pub call_within : Runner → Frame → Option (List Requirement) → Instance → Resumed
call_within child f None i = breaks i
call_within child f (Some needs) i = cond (is_within needs i.needs)
    (after_call (child (begun f needs i.contents)) i) (breaks i)

abbrev pub call_task : Code → ℕ → Runner → CallOut → Option TaskCode → Instance → Resumed
call_task code turns child c None i = breaks i
call_task code turns child c (Some t) i = cond (nat_le (length c.args) t.slots)
    (call_within child (opening turns (suc i.frame.depth) c.task t c.args)
    (requirements_on code i.contents t.needs c.args) i)
    (breaks i)

abbrev pub on_resumed : Resumed → (Instance → Resumed) → Resumed
on_resumed (GoesOn i) more = more i
on_resumed (IsOver e) more = IsOver e

-- each call runs whole before the next one
abbrev pub call_all : Code → ℕ → Runner → List CallOut → Instance → Resumed
call_all code turns child [] i = GoesOn i
call_all code turns child (c ∷ cs) i =
    on_resumed (call_task code turns child c (slice_get code.tasks c.task) i)
    (call_all code turns child cs)

-- ---- from segment to segment

-- behind a segment that left a frame
abbrev pub resume : Code → ℕ → Runner → Yield → Instance → Resumed
resume code turns child (yield.Calls cs) i = call_all code turns child cs (give_all i)
resume code turns child (yield.Want root field) i = GoesOn (fetch_part code root.0 field i)
resume code turns child (yield.Await n) i = GoesOn (await n i)
resume code turns child (yield.Make m) i = make code m i
resume code turns child _ i = breaks i

-- Behind one that left none: at the end the parts go back, and a fault ends the run, as does code that
-- no program is compiled to.
abbrev pub conclude : Yield → Instance → Ended
conclude (yield.End v) i = CameBack v i.frame.own (give_parts i.parts i.contents) i.text
conclude (yield.Fault f) i = Broke (Some f) i.text
conclude _ i = Broke None i.text

abbrev pub before_of : Code → Instance → Before
before_of code i = record { code = code; frame = i.frame; parts = i.parts }

-- the instance with what a segment left
abbrev pub with_parts : After → Instance → Instance
with_parts a i = record i { parts = a.parts; text = i.text ++ a.text }

abbrev pub resume_in : Code → ℕ → Runner → Option Frame → Yield → Instance → Resumed
resume_in code turns child (Some f) y i = resume code turns child y (record i { frame = f })
resume_in code turns child None y i = IsOver (conclude y i)

abbrev pub resume_after : Code → ℕ → Runner → After → Instance → Resumed
resume_after code turns child a i =
    resume_in code turns child a.frame a.ends (with_parts a i)

abbrev pub until_over : Resumed → (Instance → Ended) → Ended
until_over (GoesOn i) more = more i
until_over (IsOver e) more = e

-- at most so many segments
abbrev pub run_segments : Code → ℕ → Runner → ℕ → Instance → Ended
run_segments code turns child zero i = Broke None i.text
run_segments code turns child (suc k) i =
    until_over (resume_after code turns child (segment (before_of code i)) i)
    (run_segments code turns child k)

-- More segments than any instance has: behind each that stops for a part or a child's value an
-- instruction is run.
abbrev pub no_task : TaskCode
no_task = record { params = 0; result = false; needs = []; slots = 0; body = [] }

abbrev pub enough_segments : Code → Frame → ℕ
enough_segments code f = 2 * enough (get_or code.tasks f.task no_task).body f + 2

-- Instances below which so many calls may nest; a call deeper than 64 is a fault of its caller.
abbrev pub runs : Code → ℕ → ℕ → Runner
runs code turns zero i = Broke None i.text
runs code turns (suc more) i =
    run_segments code turns (runs code turns more) (enough_segments code i.frame) i
