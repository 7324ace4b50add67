-- What is said of boards over the segments of a code.
use Rattle.std.specs.Prelude.{◌≡◌, ◌++◌, ◌+◌, ◌*◌, ◌-◌, ℕ, ℤ, List, [], ◌∷◌, None, Some, length, map, pos, refl, replicate, slice_get, true}
use Rattle.task_code.specs.declared.code.Code.{Code}
use Rattle.task_code.specs.declared.job.Job.{Job}
use Rattle.task_code.specs.declared.code.TaskCode.{TaskCode}
use Rattle.machine_terms.specs.Segments.{segment}
use Rattle.board_rules.specs.Boards.{is_over, stage_of}
use Rattle.board_rules.specs.ByNumber.{Agrees, in_order, on_board}
use Rattle.board_rules.specs.Journals.{Job as BoardJob, Outcome, answered, faulted, told, unfinished}
use Rattle.board_rules.specs.Known.{known, stops_at}
use Rattle.board_rules.specs.NumberedBoards.{Board, Step, board_of, entries, start}
use Rattle.board_rules.specs.NumberedRuns.{numbered_order_run}
use Rattle.board_rules.specs.Running.{Element, Machine}
use Rattle.regent_boards.specs.Frames as board
use Rattle.regent_boards.specs.Laws.{FinishedInOrder, KeepsOrder, SettledInOrder, by_maker, by_number, to_makers}
use Rattle.regent_boards.specs.RegentMachine.{base, regent_ground, regent_roots}
use Rattle.code_boards.specs.Views.{before_in, board_segment, numbers_in_parts, parts_in, spaces_of}

-- Of each code and whatever each instance may spend of turns, a board keeps the order of the program.
abbrev pub BoardsKeepOrder : Type 0
BoardsKeepOrder = (code : Code) (turns : ℕ) → KeepsOrder (spaces_of code) (board_segment code turns)

-- With operations, seats and roots by numbers, a finished board has the outcome of the run in order, where that
-- ends.
abbrev pub BoardsFinishInOrder : Type 0
BoardsFinishInOrder = (code : Code) (turns : ℕ) → FinishedInOrder (spaces_of code) (board_segment code turns)

-- And one on which a fault comes before all that isn't over tells how that run ends.
abbrev pub BoardsSettleInOrder : Type 0
BoardsSettleInOrder = (code : Code) (turns : ℕ) → SettledInOrder (spaces_of code) (board_segment code turns)

-- ---- jobs

-- the frame in which the start begins: the inputs in the first slots, 0 in the others
abbrev pub main_frame : Job → TaskCode → board.Frame
main_frame job t = record {
  task = job.code.start;
  pc = 0;
  slots = map board.a_number job.inputs ++ replicate (t.slots - length job.inputs) (board.a_number (pos 0));
  stack = [];
  turns = job.turns;
  depth = 1;
  needs = [];
  own = [];
  makings = [];
  children = 0;
  later = None;
}

-- the start of a board
abbrev pub main_of : (job : Job) → TaskCode → BoardJob (regent_ground (spaces_of job.code))
main_of job t = record { frame = main_frame job t; needs = []; map = λ l. pos 0; needs_nothing = λ l. refl }

-- the machine, with roots by numbers
abbrev pub machine_of : (job : Job) → ℕ → Machine (regent_ground (spaces_of job.code))
machine_of job = by_number (spaces_of job.code) (board_segment job.code job.turns)

-- the run of a job in order, for at most so many segments one within or behind another
abbrev pub ordered : ℕ → (job : Job) → TaskCode → Outcome (regent_ground (spaces_of job.code))
ordered k job t = numbered_order_run (regent_ground (spaces_of job.code)) (machine_of job) k (main_of job t)

-- More segments than an instance of a task has, with so many turns: between two turns each place is met at
-- most twice, and at each meeting it waits at most once.
abbrev pub segments_of : ℕ → TaskCode → ℕ
segments_of turns t = 4 * (turns + 1) * (length t.body + 1)

abbrev pub segments_of_all : ℕ → List TaskCode → ℕ
segments_of_all turns [] = 0
segments_of_all turns (t ∷ ts) = segments_of turns t + segments_of_all turns ts

-- and more than follow one another in a job, where calls nest 64 deep
abbrev pub room : Job → ℕ
room job = 65 * segments_of_all job.turns job.code.tasks

-- the run of a job in order ends
abbrev pub OrderRunsEnd : Type 0
OrderRunsEnd = (job : Job) (t : TaskCode) → slice_get job.code.tasks job.code.start ≡ Some t →
    ¬ (ordered (room job) job t ≡ unfinished)

-- what a finished board of a job agrees on with the run in order: the text, the fault, the first task's answer, and the numbers at places
-- whose roots have one maker and one making
abbrev pub AgreesWithOrder : (job : Job) → TaskCode → List Step → Board (regent_ground (spaces_of job.code)) → Type 0
AgreesWithOrder job t steps b =
    let G = regent_ground (spaces_of job.code) in
    let R = regent_roots (spaces_of job.code) in
    let M = machine_of job in
    let K = by_maker (spaces_of job.code) (board_segment job.code job.turns) in
    let to = to_makers (spaces_of job.code) (board_segment job.code job.turns) in
    Agrees base R R M K to (told G (M 0) b.state.tree).fault (told G (M 0) b.state.tree).text (answered G (M 0) b.state.tree) b.state.map
    (on_board base R R M K to (main_of job t) (entries G M (Some (start G M (main_of job t))) steps) b.state)
    (in_order base R R M K to (room job) (main_of job t)) (ordered (room job) job t)

-- whatever steps the seats make, a finished board of a job has the outcome of its run in order
abbrev pub JobsFinishInOrder : Type 0
JobsFinishInOrder = (job : Job) (t : TaskCode) (steps : List Step) (b : Board (regent_ground (spaces_of job.code))) →
    slice_get job.code.tasks job.code.start ≡ Some t →
    board_of (regent_ground (spaces_of job.code)) (machine_of job) (main_of job t) steps ≡ Some b →
    is_over (regent_ground (spaces_of job.code)) (stage_of (regent_ground (spaces_of job.code)) b.state.tree) ≡ true →
    AgreesWithOrder job t steps b

-- and where a fault comes before all that isn't over, the run in order ends at it
abbrev pub JobsSettleInOrder : Type 0
JobsSettleInOrder = (job : Job) (t : TaskCode) (steps : List Step) (b : Board (regent_ground (spaces_of job.code))) (x : board.Stop) (text : List ℕ) →
    slice_get job.code.tasks job.code.start ≡ Some t →
    board_of (regent_ground (spaces_of job.code)) (machine_of job) (main_of job t) steps ≡ Some b →
    known (regent_ground (spaces_of job.code)) b.state.tree ≡ stops_at x text → ordered (room job) job t ≡ faulted text x

-- ---- what the board sees of parts

-- the numbers of elements
abbrev pub numbers_of : (code : Code) → List (Element (regent_ground (spaces_of code))) → List ℤ
numbers_of code [] = []
numbers_of code (x ∷ xs) = x.number ∷ numbers_of code xs

-- The parts that the machine gets have the numbers of the elements, in order, and those that it gives back
-- have as many.
abbrev pub ElementsAreParts : Type 0
ElementsAreParts = (code : Code) (f : board.Frame) (ps : List (Element (regent_ground (spaces_of code)))) →
    (numbers_in_parts code (parts_in code ps) ≡ numbers_of code ps)
    × (length (numbers_in_parts code (segment (before_in code f ps)).parts) ≡ length ps)
