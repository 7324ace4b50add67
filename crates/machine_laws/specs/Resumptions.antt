-- Examples: segments that go on behind a yield, and reductions.
use Rattle.std.specs.Prelude.{◌≡◌, ℕ, pos, neg_ℤ, List, [], ◌∷◌, Option, Some, None, codes, ◌^◌, ◌-◌}
use Rattle.lane_kernels.specs.declared.numbers.FieldKind.TheVariants.{Int32, Int64}
use Rattle.lane_kernels.specs.declared.numbers.Mode.TheVariants as mode
use Rattle.lane_kernels.specs.declared.numbers.Op.TheVariants.{Least}
use Rattle.lane_kernels.specs.declared.numbers.Width.TheVariants.{W32}
use Rattle.region_tree.specs.declared.piece.Part.{Part}
use Rattle.task_code.specs.declared.instr.Instr.TheVariants as instr
use Rattle.task_code.specs.declared.instr.PrintPart.TheVariants as print_part
use Rattle.machine_terms.specs.declared.frame.Before.{Before}
use Rattle.machine_terms.specs.declared.frame.Frame.{Frame}
use Rattle.machine_terms.specs.declared.outcome.Made.TheVariants as made
use Rattle.machine_terms.specs.declared.outcome.Yield.{Yield}
use Rattle.machine_terms.specs.declared.outcome.Yield.TheVariants as yield
use Rattle.machine_terms.specs.declared.value.Value.{Value}
use Rattle.machine_terms.specs.declared.value.Value.TheVariants as value
use Rattle.machine_terms.specs.Segments.{segment}
use Rattle.machine_laws.specs.Words.{task, code_of, num, pointer, number, region, need, held, part, frame, alone, ends, gives}

-- a segment yields and prints a text, and what it leaves goes on so
abbrev pub goes_on : Option Frame → (Frame → Before) → (Before → Type 0) → Type 0
goes_on (Some f) next so = so (next f)
goes_on None next so = ⊥

abbrev pub yields_and_goes_on : Before → Yield → List ℕ → (Frame → Before) → (Before → Type 0) → Type 0
yields_and_goes_on b y text next so =
    ends b y × ((segment b).text ≡ text) × goes_on (segment b).frame next so

-- with the frame as it is and other parts, with a value pushed, and with another value in slot 0
abbrev pub with_parts : Before → List Part → Frame → Before
with_parts b parts f = record { code = b.code; frame = f; parts = parts }

abbrev pub with_pushed : Before → Value → Frame → Before
with_pushed b v f =
    record { code = b.code; frame = record f { stack = v ∷ f.stack }; parts = (segment b).parts }

abbrev pub with_slot : Before → Value → Frame → Before
with_slot b v f =
    record { code = b.code; frame = record f { slots = v ∷ [] }; parts = (segment b).parts }

-- ---- wants

-- a text is printed once, and the number of point 3 is read when its part is there
abbrev pub wanting : Before
wanting = alone (region 0 (3 ∷ []) ∷ []) (need 0 0 mode.Read ∷ []) []
    (instr.Print (print_part.Text (codes "a") ∷ []) ∷ instr.Num (pointer 1 3)
    ∷ instr.Read (0 ∷ []) 0 ∷ instr.ReturnValue ∷ [])

abbrev pub want_is_met : Type 0
want_is_met = yields_and_goes_on wanting (yield.Want (record { 0 = 0 }) 0) (codes "a")
    (with_parts wanting (part 0 0 Int64 (held (3 ∷ []) mode.Read (pos 8 ∷ []) ∷ []) ∷ []))
    (λ b. gives b (pos 8) × ((segment b).text ≡ []))

-- ---- made roots

-- the root's region is pushed, and its points are counted
abbrev pub making : Before
making = alone (number 0 ∷ []) [] []
    (num 2 ∷ instr.Space ∷ instr.NewRoot 0 ∷ instr.Store 0 ∷ num 1 ∷ instr.At 0 ∷ instr.ReturnValue ∷ [])

abbrev pub rooted : Before
rooted = record making {
  code = record making.code { spaces = record { name = codes "f"; fields = [] } ∷ [] };
}

abbrev pub made_root_is_pushed : Type 0
made_root_is_pushed = yields_and_goes_on rooted (yield.Make (made.Root 2 0)) []
    (with_pushed rooted (region 5 (0 ∷ 1 ∷ []))) (λ b. gives b (pointer 1 1))

-- ---- children

-- a task that calls itself and prints the result
abbrev pub calling : Before
calling = record {
  code = code_of (task 1 1 (instr.Load 0 ∷ instr.Call 0 1 ∷ instr.Store 0 ∷ instr.Load 0
      ∷ instr.Print (print_part.Number ∷ print_part.Text (codes ".") ∷ []) ∷ instr.Return ∷ []) ∷ []) [];
  frame = record (frame 0 (number 6 ∷ []) []) { children = 2 };
  parts = [];
}

-- the call is yielded; then the child is awaited, by its place; its value then stands in the slot
abbrev pub child_is_awaited : Type 0
child_is_awaited = yields_and_goes_on calling
    (yield.Calls (record { task = 0; args = number 6 ∷ [] } ∷ [])) []
    (with_parts calling [])
    (λ b. yields_and_goes_on b (yield.Await 2) [] (with_slot b (value.Number (neg_ℤ (pos 4))))
    (λ c. ends c (yield.End None) × ((segment c).text ≡ codes "-4.")))

-- ---- reductions

-- two numbers are folded into a piece that starts at the identity, the greatest number
abbrev pub reducing : Before
reducing = alone (region 0 (3 ∷ []) ∷ []) (need 0 0 (mode.Reduce Least) ∷ [])
    (part 0 0 Int32 (held (3 ∷ []) (mode.Reduce Least) (pos (2 ^ 31 - 1) ∷ []) ∷ []) ∷ [])
    (num 9 ∷ instr.Num (pointer 1 3) ∷ instr.Reduce (0 ∷ []) 0 Least W32
    ∷ num 12 ∷ instr.Num (pointer 1 3) ∷ instr.Reduce (0 ∷ []) 0 Least W32 ∷ instr.Return ∷ [])

abbrev pub reduction_starts_at_identity : Type 0
reduction_starts_at_identity = ends reducing (yield.End None)
    × ((segment reducing).parts
    ≡ part 0 0 Int32 (held (3 ∷ []) (mode.Reduce Least) (pos 9 ∷ []) ∷ []) ∷ [])
