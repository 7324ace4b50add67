-- A state in the middle of compiled code that fits, with parts held, and states that fail each point of what fits: by every choice of
-- marks of which the law on compiled code tells.
use Rattle.std.specs.Prelude.{◌==◌, ◌^◌, ◌+◌, ◌*◌, ℕ, ℤ, [], ◌∷◌, ◌++◌, pos, codes, List, None, true}
use Rattle.lane_kernels.specs.declared.numbers.FieldKind.{FieldKind}
use Rattle.lane_kernels.specs.declared.numbers.FieldKind.TheVariants.{Int32 as Narrow, Int64 as Wide}
use Rattle.lane_kernels.specs.declared.numbers.Mode.{Mode}
use Rattle.lane_kernels.specs.declared.numbers.Mode.TheVariants.{Read, Reduce, Write}
use Rattle.lane_kernels.specs.declared.numbers.Op.TheVariants.{Sum}
use Rattle.lane_kernels.specs.declared.numbers.Width.TheVariants.{W64}
use Rattle.regent_tree.specs.StaticTypes.{task_named}
use Rattle.regent_tree.specs.Syntax.{TaskTree, Tree}
use Rattle.regent_tree.specs.declared.expression.Arithmetic.TheVariants.{Add}
use Rattle.regent_tree.specs.declared.program.Clause.TheVariants as clause
use Rattle.regent_tree.specs.declared.program.Grant.TheVariants.{Reads, Reduces, Writes}
use Rattle.regent_tree.specs.declared.types.NumberTerm.TheVariants.{Int32}
use Rattle.region_tree.specs.declared.needs.Need.{Need}
use Rattle.region_tree.specs.declared.piece.Part.{Part}
use Rattle.task_code.specs.declared.code.TaskCode.{TaskCode}
use Rattle.machine_terms.specs.declared.frame.Before.{Before}
use Rattle.machine_terms.specs.declared.value.PartitionValue.{PartitionValue}
use Rattle.machine_terms.specs.declared.value.RegionValue.{RegionValue}
use Rattle.machine_terms.specs.declared.value.Value.{Value}
use Rattle.machine_terms.specs.declared.value.Value.TheVariants as value
use Rattle.machine_terms.specs.Makes.{region_with}
use Rattle.code_rules.specs.Programs.{code_of, task_code}
use Rattle.worked_examples.specs.Words.{access, at, calc, call, dot, each, equal, field_space, fields, fill, get, grants, int, item, line, new_region, number, param, reduce, region, set, space, space_of, task, var_from}
use Rattle.fit_rules.specs.Shapes.{anything, integer, World}
use Rattle.fit_rules.specs.Fits.{BeforeFits, called, Program}
use Rattle.fit_rules.specs.Ends.{grown, rooted}
use Rattle.code_laws.specs.AcceptedPrograms.{IsProgramRun}
use Rattle.sound_code.specs.Programs.{ProgramRunsSoundly, TasksKeepRules}

--     fspace f { x : int32, y : int32 }
--     task two(a : region(ispace(int1d), f), b : region(ispace(int1d), f), c : region(ispace(int1d), f), n : int32, d : region(ispace(int1d), f), e : region(ispace(int1d), f))
--     where reads writes(a.x), a * b, a <= c, d <= e do
--       a[0].x = n
--     end
--     task work(r : region(ispace(int1d), f), s : region(ispace(int1d), f), n : int32) where reads writes(r.x), reduces +(r.y), s <= r do
--       var o = region(ispace(int1d, 2), f)
--       var p = partition(equal, o, ispace(int1d, 2))
--       var q = partition(equal, r, ispace(int1d, 2))
--       s[1].y += 2
--       for i in r do
--         s[1].x = s[1].x + n
--       end
--       two(p[0], p[1], o, n, q[0], r)
--     end
--     task main()
--       var r = region(ispace(int1d, 2), f)
--       fill(r.x, 7)
--       work(r, r, 3)
--     end
abbrev pub middle_program : Tree
middle_program =
    item 1 (field_space "f" [] (param 1 "x" (number Int32) ∷ param 1 "y" (number Int32) ∷ []))
    ∷ item 2
    (task "two" (param 2 "a" (region (space_of "f" [])) ∷ param 2 "b" (region (space_of "f" [])) ∷ param 2 "c" (region (space_of "f" []))
    ∷ param 2 "n" (number Int32) ∷ param 2 "d" (region (space_of "f" [])) ∷ param 2 "e" (region (space_of "f" [])) ∷ [])
    (grants (Reads ∷ Writes ∷ []) (fields "a" ("x" ∷ []) ∷ []) ∷ clause.Apart (codes "a") (codes "b") ∷ clause.Within (codes "a") (codes "c")
    ∷ clause.Within (codes "d") (codes "e") ∷ [])
    (line 4 (set "a" (at (int 0) ∷ dot "x" ∷ []) (get "n")) ∷ []))
    ∷ item 6
    (task "work" (param 6 "r" (region (space_of "f" [])) ∷ param 6 "s" (region (space_of "f" [])) ∷ param 6 "n" (number Int32) ∷ [])
    (grants (Reads ∷ Writes ∷ []) (fields "r" ("x" ∷ []) ∷ []) ∷ grants (Reduces Sum ∷ []) (fields "r" ("y" ∷ []) ∷ []) ∷ clause.Within (codes "s") (codes "r") ∷ [])
    (line 7 (var_from "o" (new_region (space (int 2)) (space_of "f" [])))
    ∷ line 8 (var_from "p" (equal "o" (space (int 2))))
    ∷ line 9 (var_from "q" (equal "r" (space (int 2))))
    ∷ line 10 (reduce "s" (at (int 1) ∷ dot "y" ∷ []) Sum (int 2))
    ∷ line 11 (each "i" (get "r")
    (line 12 (set "s" (at (int 1) ∷ dot "x" ∷ []) (calc (access "s" (at (int 1) ∷ dot "x" ∷ [])) Add (get "n"))) ∷ []))
    ∷ line 14
    (call "two" (access "p" (at (int 0) ∷ []) ∷ access "p" (at (int 1) ∷ []) ∷ get "o" ∷ get "n" ∷ access "q" (at (int 0) ∷ []) ∷ get "r" ∷ []))
    ∷ []))
    ∷ item 16
    (task "main" [] []
    (line 17 (var_from "r" (new_region (space (int 2)) (space_of "f" [])))
    ∷ line 18 (fill "r" ("x" ∷ []) (int 7))
    ∷ line 19 (call "work" (get "r" ∷ get "r" ∷ int 3 ∷ []))
    ∷ []))
    ∷ []

abbrev pub work : TaskTree
work = task_named middle_program (codes "work")

abbrev pub work_code : TaskCode
work_code = task_code middle_program work

-- ---- the state

-- a root of three points, and the region of the first two, which the task is given
abbrev pub one_root : World
one_root = record {
  there = λ r. r == 3;
  spaces = λ r. 0;
  points = λ r. 0 ∷ 1 ∷ 2 ∷ [];
  results = λ i. anything;
  children = 0;
  own = [];
  last = λ i. None;
  args = [];
  held = [];
}

abbrev pub whole : RegionValue
whole = region_with 3 (0 ∷ 1 ∷ [])

-- and a region within it
abbrev pub part : RegionValue
part = region_with 3 (1 ∷ [])

abbrev pub args_of : RegionValue → List Value
args_of s = value.Region whole ∷ value.Region s ∷ value.Number (pos 5) ∷ []

-- it has made a root of two points, the root 5, under a number
abbrev pub world_of : ℕ → List Value → World
world_of i args = rooted (called one_root args) i 5 0 2

abbrev pub made : RegionValue
made = region_with 5 (0 ∷ 1 ∷ [])

-- It has cut it, and the region that it was given, which isn't the whole of its root: a disjoint partition of a root, of these sets.
abbrev pub cut : ℕ → List ℕ → List ℕ → PartitionValue
cut root xs ys = record {
  root = record { 0 = root };
  disjoint = true;
  children = region_with root xs ∷ region_with root ys ∷ [];
}

abbrev pub halves : PartitionValue
halves = cut 5 (0 ∷ []) (1 ∷ [])

abbrev pub given_halves : PartitionValue
given_halves = cut 3 (0 ∷ []) (1 ∷ [])

abbrev pub need : ℕ → ℕ → Mode → Need
need root field mode = record { root = record { 0 = root }; node = record { 0 = 0 }; field = field; mode = mode }

abbrev pub given_needs : List Need
given_needs = need 3 0 Read ∷ need 3 0 Write ∷ need 3 1 (Reduce Sum) ∷ []

abbrev pub own_needs : List Need
own_needs = need 5 0 Write ∷ need 5 1 Write ∷ []

abbrev pub needs : List Need
needs = given_needs ++ own_needs

-- the part of a field of root 3, of a kind and a mode, with a number at each of some points
abbrev pub part_as : ℕ → FieldKind → Mode → List ℕ → List ℤ → Part
part_as field kind mode points values =
    record { root = record { 0 = 3 }; field = field; kind = kind; pieces = record { points = points; mode = mode; values = values } ∷ [] }

abbrev pub held_as : FieldKind → Mode → List ℕ → List ℤ → Part
held_as kind mode points values = part_as 0 kind mode points values

abbrev pub held : Part
held = held_as Narrow Write (0 ∷ 1 ∷ []) (pos 0 ∷ pos 41 ∷ [])

-- that of the other field, with a number that is to be added at point 1
abbrev pub folded : ℕ → Part
folded n = part_as 1 Narrow (Reduce Sum) (0 ∷ 1 ∷ []) (pos 0 ∷ pos n ∷ [])

abbrev pub parts : List Part
parts = folded 7 ∷ held ∷ []

-- the slots, where these are those of s, n, o, p and q, and the counter of the loop, of which the variable goes into r
abbrev pub slots_of : RegionValue → Value → RegionValue → PartitionValue → PartitionValue → ℕ → List Value
slots_of s n o p q c =
    value.Region whole ∷ value.Region s ∷ n ∷ value.Region o ∷ value.Number (pos 0) ∷ value.Number (pos 0)
    ∷ value.Partition p ∷ value.Number (pos 0) ∷ value.Number (pos 0) ∷ value.Partition q ∷ value.Number (pos 0) ∷ value.Number (pos 0)
    ∷ value.Number (pos (2 ^ 32)) ∷ value.Number (pos c) ∷ value.Region whole ∷ []

-- What stands at a place, with these slots, and so on.
abbrev pub state : ℕ → List Value → List Value → List Need → ℕ → ℕ → List Part → Before
state pc slots stack needs turns children parts = record {
  code = code_of middle_program;
  frame = record {
    task = 1;
    pc = pc;
    slots = slots;
    stack = stack;
    turns = turns;
    depth = 2;
    needs = record { items = needs };
    own = record { 0 = 5 } ∷ [];
    children = children;
    later = None;
  };
  parts = parts;
}

abbrev pub five : Value
five = value.Number (pos 5)

-- the pointer to point 1 of a region, by its position among those of its type
abbrev pub pointer_at : ℕ → Value
pointer_at position = value.Number (pos (position * 2 ^ 32 + 1))

-- At the read in the sum, of line 12, in the first round, with a pointer to point 1 of s on the stack.
abbrev pub standing : List Value → List Need → ℕ → ℕ → List Part → Before
standing slots needs turns children parts = state 23 slots (pointer_at 1 ∷ []) needs turns children parts

abbrev pub slots_here : List Value
slots_here = slots_of part five made halves given_halves 1

abbrev pub middle : Before
middle = standing slots_here needs 8 0 parts

-- it fits, for some number under which the root was made
abbrev pub FitsInside : Program → Type 0
FitsInside g = (i : ℕ) × BeforeFits g (world_of i (args_of part)) work_code 1 middle

-- ---- states that fail a point each

-- it doesn't fit, whatever that number is
abbrev pub Misfits : Program → RegionValue → Before → Type 0
Misfits g s b = (i : ℕ) → BeforeFits g (world_of i (args_of s)) work_code 1 b → ⊥

-- so it is of another state, with other slots, needs or parts
abbrev pub MisfitsHere : Program → Before → Type 0
MisfitsHere g b = Misfits g part b

abbrev pub MisfitsWith : Program → List Value → Type 0
MisfitsWith g slots = MisfitsHere g (standing slots needs 8 0 parts)

abbrev pub MisfitsNeeding : Program → List Need → Type 0
MisfitsNeeding g ns = MisfitsHere g (standing slots_here ns 8 0 parts)

abbrev pub MisfitsHolding : Program → Part → Part → Type 0
MisfitsHolding g p q = MisfitsHere g (standing slots_here needs 8 0 (p ∷ q ∷ []))

abbrev pub MisfitsOn : Program → List Value → Type 0
MisfitsOn g stack = MisfitsHere g (state 23 slots_here stack needs 8 0 parts)

-- nor where a child was called whose result may be any number of 64 bits
abbrev pub MisfitsBeside : Program → Before → Type 0
MisfitsBeside g b = (i : ℕ) → BeforeFits g (grown (world_of i (args_of part)) (integer W64)) work_code 1 b → ⊥

-- nor where each root is of another field space
abbrev pub MisfitsSpaced : Program → Before → Type 0
MisfitsSpaced g b = (i : ℕ) → BeforeFits g (record (world_of i (args_of part)) { spaces = λ r. 1 }) work_code 1 b → ⊥

abbrev pub far : RegionValue
far = region_with 4 (1 ∷ [])

abbrev pub outside : RegionValue
outside = region_with 3 (2 ∷ [])

pub record FailsEach (g : Program) : Type 0 where
  -- the place is past the body
  pub place : MisfitsHere g (state 42 slots_here (pointer_at 1 ∷ []) needs 8 0 parts)
  -- a space stands where a number is wanted, in a slot and on the stack
  pub kind : MisfitsWith g (slots_of part (value.Space 3) made halves given_halves 1)
  pub stack : MisfitsOn g (value.Space 3 ∷ [])
  -- a part's kind isn't that of its field
  pub part_kind : MisfitsHolding g (folded 7) (held_as Wide Write (0 ∷ 1 ∷ []) (pos 0 ∷ pos 41 ∷ []))
  -- a region's root isn't there, or is of another field space
  pub root : Misfits g far (standing (slots_of far five made halves given_halves 1) needs 8 0 parts)
  pub space : MisfitsSpaced g middle
  -- a result is pending of a child that wasn't called, or that may give what is too great
  pub child : MisfitsWith g (slots_of part (value.Pending 0) made halves given_halves 1)
  pub result : MisfitsBeside g (standing (slots_of part (value.Pending 0) made halves given_halves 1) needs 8 1 parts)
  -- a number is too great for its type, in a slot and in a part, also where it is to be added
  pub number : MisfitsWith g (slots_of part (value.Number (pos (2 ^ 31))) made halves given_halves 1)
  pub part_number : MisfitsHolding g (folded 7) (held_as Narrow Write (0 ∷ 1 ∷ []) (pos 0 ∷ pos (2 ^ 31) ∷ []))
  pub reduced : MisfitsHolding g (folded (2 ^ 31)) held
  -- a pointer's position is past those of its type, which names one region
  pub position : MisfitsOn g (pointer_at 2 ∷ [])
  -- the loop's counter is past its domain, of two points
  pub count : MisfitsWith g (slots_of part five made halves given_halves 3)
  -- a partition isn't disjoint, as its flag says, or a child leaves the root
  pub flag : MisfitsWith g (slots_of part five made (cut 5 (0 ∷ 1 ∷ []) (1 ∷ [])) given_halves 1)
  pub points : MisfitsWith g (slots_of part five made (cut 5 (2 ∷ []) (1 ∷ [])) given_halves 1)
  -- a child leaves the region that was cut, within that one's root, or the partition is of another root
  pub parent : MisfitsWith g (slots_of part five made halves (cut 3 (2 ∷ []) (1 ∷ [])) 1)
  pub partition_root : MisfitsWith g (slots_of part five made halves halves 1)
  -- a constraint isn't true of the regions that the task was given, and a slot has another region than the argument
  pub constraint : Misfits g outside (standing (slots_of outside five made halves given_halves 1) needs 8 0 parts)
  pub argument : MisfitsWith g (slots_of outside five made halves given_halves 1)
  -- the region that the task made isn't the whole of its root, or is of another one
  pub own : MisfitsWith g (slots_of part five (region_with 5 (1 ∷ [])) halves given_halves 1)
  pub other : MisfitsWith g (slots_of part five whole halves given_halves 1)
  -- a declared need isn't there, or one on a field of the root that the task made
  pub declared_need : MisfitsNeeding g (need 3 0 Read ∷ need 3 1 (Reduce Sum) ∷ own_needs)
  pub own_need : MisfitsNeeding g (given_needs ++ need 5 0 Write ∷ [])
  -- a part is held in another mode than that of the needs, at a point that isn't needed, or not at one that is
  pub mode : MisfitsHolding g (folded 7) (held_as Narrow Read (0 ∷ 1 ∷ []) (pos 0 ∷ pos 41 ∷ []))
  pub more : MisfitsHolding g (folded 7) (held_as Narrow Write (0 ∷ 1 ∷ 2 ∷ []) (pos 0 ∷ pos 41 ∷ pos 0 ∷ []))
  pub fewer : MisfitsHolding g (folded 7) (held_as Narrow Write (1 ∷ []) (pos 41 ∷ []))
  -- with its turns the count of children would pass 64 bits
  pub turns : MisfitsHere g (standing slots_here needs (2 ^ 64) 0 parts)

-- ---- the law's own marks

-- The program is accepted, so that there are marks by which its code is sound. Whichever these are, the state in
-- the middle fits, and each of the others doesn't.
pub record MiddleExampleHolds : Type 0 where
  pub run : IsProgramRun middle_program []
  pub sound : ProgramRunsSoundly middle_program []
  pub fits : (law : TasksKeepRules middle_program) → FitsInside law.program
  pub fails : (law : TasksKeepRules middle_program) → FailsEach law.program
