-- A state in the middle of a body that fits, with parts held; and one that fails each point of what fits.
--
-- The task takes a region, a region within it and a disjoint partition of it, reads and writes a field
-- of the first, and reduces another one. It has made a root of its own, and adds 1 to the first field at an element of the second region.
use Rattle.std.specs.Prelude.{ℕ, ◌^◌, ◌+◌, ◌*◌, pos, List, [], ◌∷◌, Bool, true, false, None, Some, get_or, cond, ◌==◌, ◌||◌, ℤ}
use Rattle.lane_kernels.specs.declared.numbers.FieldKind.TheVariants.{Int32, Int64}
use Rattle.lane_kernels.specs.declared.numbers.Mode.{Mode}
use Rattle.lane_kernels.specs.declared.numbers.Mode.TheVariants.{Read, Reduce, Write}
use Rattle.lane_kernels.specs.declared.numbers.Op.TheVariants.{Sum}
use Rattle.lane_kernels.specs.declared.numbers.Width.TheVariants.{W32}
use Rattle.region_tree.specs.declared.needs.Need.{Need}
use Rattle.region_tree.specs.declared.piece.Part.{Part}
use Rattle.task_code.specs.declared.code.Line.{Line}
use Rattle.task_code.specs.declared.code.TaskCode.{TaskCode}
use Rattle.task_code.specs.declared.instr.Instr.{Instr}
use Rattle.task_code.specs.declared.instr.Instr.TheVariants as instr
use Rattle.machine_terms.specs.declared.frame.Before.{Before}
use Rattle.machine_terms.specs.declared.value.RegionValue.{RegionValue}
use Rattle.machine_terms.specs.declared.value.Value.{Value}
use Rattle.machine_terms.specs.declared.value.Value.TheVariants as value
use Rattle.machine_terms.specs.Machine.{Machine}
use Rattle.machine_terms.specs.Makes.{region_with}
use Rattle.fit_rules.specs.Shapes.{Shape, anything, integer, index, pointer, space, region, partition, argument, own_as, World, child_at, held_at, the_colour}
use Rattle.fit_rules.specs.Marks.{Fact, lies, in_slot, parted, counts, Mark, Suits}
use Rattle.fit_rules.specs.Fits.{Program, Fits, BeforeFits}

-- ---- the code

abbrev pub line_of : Instr → Line
line_of i = record { instr = i; line = 1 }

-- a root of two points is made; the pointer to point 1 of the second region is put aside; and the field
-- there is read, raised and written
abbrev pub body : List Line
body = line_of (instr.Num (pos 2)) ∷ line_of instr.Space ∷ line_of (instr.NewRoot 0)
    ∷ line_of (instr.Store 3) ∷ line_of (instr.Num (pos 1)) ∷ line_of (instr.At 1)
    ∷ line_of (instr.Store 4) ∷ line_of (instr.Load 4) ∷ line_of (instr.Read (1 ∷ []) 0)
    ∷ line_of (instr.Num (pos 1)) ∷ line_of (instr.Add W32) ∷ line_of (instr.Load 4)
    ∷ line_of (instr.Write (1 ∷ []) 0 W32) ∷ line_of instr.Return ∷ []

abbrev pub task : TaskCode
task = record {
  params = 3;
  result = false;
  needs = record { param = 0; field = 0; mode = Read } ∷ record { param = 0; field = 0; mode = Write }
      ∷ record { param = 0; field = 1; mode = Reduce Sum } ∷ [];
  slots = 5;
  body = body;
}

-- ---- the marks

abbrev pub known : List Fact
known = lies (in_slot 1) (in_slot 0) ∷ parted 2 0 ∷ []

abbrev pub mark : Shape → Shape → List Shape → Mark
mark own element stack = record {
  slots = region (Some 0) (argument 0) ∷ region (Some 0) (argument 1) ∷ partition (Some 0) true ∷ own ∷ element ∷ [];
  facts = known;
  stack = stack;
  top = [];
  fixed = 0;
}

-- before the root is in its slot, before the pointer is, and behind both
abbrev pub first : List Shape → Mark
first stack = mark anything anything stack

abbrev pub rooted : List Shape → Mark
rooted stack = mark (region (Some 0) (own_as 3)) anything stack

abbrev pub later : List Shape → Mark
later stack = mark (region (Some 0) (own_as 3)) (pointer 1) stack

abbrev pub marks : List Mark
marks = first [] ∷ first (index ∷ []) ∷ first (space ∷ []) ∷ first (region (Some 0) (own_as 3) ∷ [])
    ∷ rooted [] ∷ rooted (index ∷ []) ∷ rooted (pointer 1 ∷ [])
    ∷ later [] ∷ later (pointer 1 ∷ []) ∷ later (integer W32 ∷ [])
    ∷ later (integer W32 ∷ integer W32 ∷ []) ∷ later (integer W32 ∷ [])
    ∷ later (pointer 1 ∷ integer W32 ∷ []) ∷ later [] ∷ []

-- one field space, of two narrow fields
abbrev pub program : Program
program = record {
  code = record {
    tasks = task ∷ [];
    spaces = record { name = []; fields = record { name = []; kind = Int32 } ∷ record { name = []; kind = Int32 } ∷ [] } ∷ [];
    start = 0;
  };
  positions = λ sp f. 0;
  results = λ k. anything;
  begins = λ k. first [];
  marks = λ k pc. get_or marks pc (later []);
}

-- ---- the state

abbrev pub whole : RegionValue
whole = region_with 3 (0 ∷ 1 ∷ [])

abbrev pub part : RegionValue
part = region_with 3 (1 ∷ [])

abbrev pub parted_value : Bool → List ℕ → List ℕ → Value
parted_value flag xs ys = value.Partition (record {
  root = record { 0 = 3 };
  disjoint = flag;
  children = region_with 3 xs ∷ region_with 3 ys ∷ [];
})

abbrev pub args_of : RegionValue → Value → List Value
args_of s p = value.Region whole ∷ value.Region s ∷ p ∷ []

-- the root 3 was made elsewhere, with a point more than the region has that the task takes, and the root 5 by the task
abbrev pub world_of : List Value → World
world_of args = record {
  there = λ r. (r == 3) || (r == 5);
  spaces = λ r. 0;
  points = λ r. cond (r == 3) (0 ∷ 1 ∷ 2 ∷ []) (0 ∷ 1 ∷ []);
  results = λ i. anything;
  children = 0;
  own = 5 ∷ [];
  last = λ i. cond (i == 3) (Some 5) None;
  args = args;
  held = [];
}

abbrev pub need : ℕ → ℕ → Mode → Need
need root field mode =
    record { root = record { 0 = root }; node = record { 0 = 0 }; field = field; mode = mode }

-- the part of the field of root 3, of a mode, with the number at point 1
abbrev pub held : Mode → ℕ → Part
held mode n = record {
  root = record { 0 = 3 };
  field = 0;
  kind = Int32;
  pieces = record { points = 0 ∷ 1 ∷ []; mode = mode; values = pos 0 ∷ pos n ∷ [] } ∷ [];
}

-- the part of its other field, with a number at point 1 that is to be added
abbrev pub folded : ℕ → Part
folded n = record {
  root = record { 0 = 3 };
  field = 1;
  kind = Int32;
  pieces = record { points = 0 ∷ 1 ∷ []; mode = Reduce Sum; values = pos 0 ∷ pos n ∷ [] } ∷ [];
}

-- what stands at the sum, with these values
abbrev pub standing : RegionValue → Value → RegionValue → List Value → List Need → ℕ → List Part → Machine
standing s p own stack needs turns parts = record {
  frame = record {
    task = 0;
    pc = 10;
    slots = value.Region whole ∷ value.Region s ∷ p ∷ value.Region own
        ∷ value.Number (pos (2 ^ 32 + 1)) ∷ [];
    stack = stack;
    turns = turns;
    depth = 1;
    needs = record { items = needs };
    own = record { 0 = 5 } ∷ [];
    children = 0;
    later = None;
  };
  parts = parts;
}

abbrev pub halves : Value
halves = parted_value true (0 ∷ []) (1 ∷ [])

abbrev pub numbers : List Value
numbers = value.Number (pos 1) ∷ value.Number (pos 41) ∷ []

abbrev pub needs : List Need
needs = need 3 0 Read ∷ need 3 0 Write ∷ need 3 1 (Reduce Sum) ∷ need 5 0 Write ∷ need 5 1 Write ∷ []

abbrev pub parts : List Part
parts = held Write 41 ∷ folded 7 ∷ []

abbrev pub made : RegionValue
made = region_with 5 (0 ∷ 1 ∷ [])

abbrev pub machine : Machine
machine = standing part halves made numbers needs 9 parts

abbrev pub before : Before
before = record { code = program.code; frame = machine.frame; parts = machine.parts }

-- it fits
abbrev pub ExampleFits : Type 0
ExampleFits = BeforeFits program (world_of (args_of part halves)) task 0 before

-- ---- states that fail a point each

abbrev pub MisfitsIn : World → Machine → Type 0
MisfitsIn x m = Fits program x task 0 m → ⊥

abbrev pub Misfits : List Value → Machine → Type 0
Misfits args m = MisfitsIn (world_of args) m

-- where the arguments are those of the state that fits, and where the partition is another one
abbrev pub MisfitsHere : Machine → Type 0
MisfitsHere m = Misfits (args_of part halves) m

abbrev pub MisfitsParted : Value → Type 0
MisfitsParted p = Misfits (args_of part p) (standing part p made numbers needs 9 parts)

-- the one of other numbers on the stack, and of other parts
abbrev pub with_stack : List Value → Machine
with_stack stack = standing part halves made stack needs 9 parts

abbrev pub with_parts : List Part → Machine
with_parts ps = standing part halves made numbers needs 9 ps

abbrev pub with_needs : List Need → Machine
with_needs ns = standing part halves made numbers ns 9 parts

-- a pointer to point 1 of a second region, where its type names one
abbrev pub second_region : Value
second_region = value.Number (pos (2 * 2 ^ 32 + 1))

-- halves of a root that are said to be of another one
abbrev pub misplaced : Value
misplaced = value.Partition (record {
  root = record { 0 = 5 };
  disjoint = true;
  children = region_with 3 (0 ∷ []) ∷ region_with 3 (1 ∷ []) ∷ [];
})

-- the halves of the root that the task made
abbrev pub of_other : Value
of_other = value.Partition (record {
  root = record { 0 = 5 };
  disjoint = true;
  children = region_with 5 (0 ∷ []) ∷ region_with 5 (1 ∷ []) ∷ [];
})

pub record FailsEachPoint : Type 0 where
  -- the place is past the body
  pub place : MisfitsHere (record machine { frame = record machine.frame { pc = 14 } })
  -- a space stands where a number is wanted, or nothing
  pub stack : MisfitsHere (with_stack (value.Space 3 ∷ value.Number (pos 41) ∷ []))
  pub fewer : MisfitsHere (with_stack (value.Number (pos 1) ∷ []))
  -- a part's kind isn't that of its field
  pub part_kind : MisfitsHere (with_parts (record (held Write 41) { kind = Int64 } ∷ folded 7 ∷ []))
  -- a region's root isn't there, or has another field space
  pub root : Misfits (args_of (region_with 4 (1 ∷ [])) halves) (standing (region_with 4 (1 ∷ [])) halves made numbers needs 9 parts)
  pub space : MisfitsIn (record (world_of (args_of part halves)) { spaces = λ r. 1 }) machine
  -- a number is too great for its type, on the stack and in a part, of one that is read and of one that is to be added
  pub number : MisfitsHere (with_stack (value.Number (pos (2 ^ 31)) ∷ value.Number (pos 41) ∷ []))
  pub part_number : MisfitsHere (with_parts (held Write (2 ^ 31) ∷ folded 7 ∷ []))
  pub reduced : MisfitsHere (with_parts (held Write 41 ∷ folded (2 ^ 31) ∷ []))
  -- a pointer's position is past those of its type
  pub position : MisfitsHere (record machine {
    frame = record machine.frame {
      slots = value.Region whole ∷ value.Region part ∷ halves ∷ value.Region made ∷ second_region ∷ [];
    };
  })
  -- a partition isn't disjoint, as its flag says
  pub flag : MisfitsParted (parted_value true (0 ∷ 1 ∷ []) (1 ∷ []))
  -- it leaves the region that it is of, within that one's root; its children are of another root, or it is
  pub parent : MisfitsParted (parted_value true (0 ∷ []) (2 ∷ []))
  pub children_root : MisfitsParted misplaced
  pub partition_root : MisfitsParted of_other
  -- the second region doesn't lie within the first, in its slot, or as the argument with which the frame began
  pub constraint : Misfits (args_of (region_with 5 (1 ∷ [])) halves) (standing (region_with 5 (1 ∷ [])) halves made numbers needs 9 parts)
  pub begun : Misfits (args_of (region_with 5 (1 ∷ [])) halves) machine
  -- a slot has another region than the argument with which the frame began
  pub argument : MisfitsHere (standing (region_with 3 (0 ∷ [])) halves made numbers needs 9 parts)
  -- the region that the task made isn't the whole of its root
  pub own : MisfitsHere (standing part halves (region_with 5 (1 ∷ [])) numbers needs 9 parts)
  -- a declared need isn't there, or the one on a field of the root that it made
  pub declared_need : MisfitsHere (with_needs (need 3 0 Read ∷ need 3 1 (Reduce Sum) ∷ need 5 0 Write ∷ need 5 1 Write ∷ []))
  pub own_need : MisfitsHere (with_needs (need 3 0 Read ∷ need 3 0 Write ∷ need 3 1 (Reduce Sum) ∷ need 5 0 Write ∷ []))
  -- a part is held in another mode than that of the needs
  pub mode : MisfitsHere (with_parts (held Read 41 ∷ folded 7 ∷ []))
  -- with its turns the count of children would pass 64 bits
  pub turns : MisfitsHere (standing part halves made numbers needs (2 ^ 64) parts)

-- ---- a child on the stack

-- the region on the stack is known as the child by a colour of the partition in slot 2
abbrev pub handing : ℤ → Mark
handing z = record (later (region (Some 0) (child_at 2 (the_colour z) (argument 0)) ∷ [])) { fixed = 3 }

abbrev pub Hands : ℤ → Type 0
Hands z = Suits (world_of (args_of part halves)) 3 (handing z) machine.frame.slots (value.Region part ∷ [])

-- it is the one by the colour 1, and not that by the colour 0
abbrev pub ChildIsKnown : Type 0
ChildIsKnown = Hands (pos 1) × (Hands (pos 0) → ⊥)

-- ---- a slot's region on the stack

-- the region on the stack is known as the one in a slot, and as that of the second argument
abbrev pub keeping : ℕ → Mark
keeping s = record (later (region (Some 0) (held_at s (argument 1)) ∷ [])) { fixed = 3 }

abbrev pub Keeps : ℕ → Type 0
Keeps s = Suits (world_of (args_of part halves)) 3 (keeping s) machine.frame.slots (value.Region part ∷ [])

-- it is the one in slot 1, and not that in slot 0
abbrev pub HeldIsKnown : Type 0
HeldIsKnown = Keeps 1 × (Keeps 0 → ⊥)

-- ---- a loop's counter

-- a counter, and the domain of its loop
abbrev pub counting : Mark
counting = record { slots = index ∷ space ∷ []; facts = counts 0 1 ∷ []; stack = []; top = []; fixed = 0 }

abbrev pub Counts : ℕ → Type 0
Counts n = Suits (world_of []) 0 counting (value.Number (pos n) ∷ value.Space 2 ∷ []) []

-- it is at most the number of the domain's points, and not past it
abbrev pub CountIsKnown : Type 0
CountIsKnown = Counts 2 × (Counts 3 → ⊥)
