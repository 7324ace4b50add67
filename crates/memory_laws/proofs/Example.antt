-- The example, by computing and by the laws.
use Rattle.std.proofs.Common.{inr, ℕ, ◌<◌, pos, [], ◌∷◌, refl, arith}
use Rattle.std.specs.Int.{int_wrap}
use Rattle.std.proofs.lemmas.Int.{ints}
use Rattle.lane_kernels.specs.declared.numbers.FieldKind.TheVariants.{Int32}
use Rattle.lane_kernels.specs.declared.numbers.Mode.TheVariants as mode
use Rattle.lane_kernels.specs.declared.numbers.Op.TheVariants.{Sum}
use Rattle.regent_tree.specs.Store.{new_root, write_at}
use Rattle.machine_terms.specs.Contents.{closed, no_contents}
use Rattle.machine_terms.specs.Makes.{make_root}
use Rattle.machine_terms.specs.Opening.{needs_on}
use Rattle.machine_terms.specs.Orders.{begun}
use Rattle.memory_laws.specs.Example.{ExampleHolds, code, kinds, frame, first, between, second, wanted, caller, declared, args, needs, child, fetched, writing, adding, made, before, after}
use Rattle.memory_laws.specs.Memory.{IsKept, memory_of, Holds}
use Rattle.memory_laws.proofs.Beginning.{begun_holds, first_holds}
use Rattle.memory_laws.proofs.Fetched.{fetched_holds}
use Rattle.memory_laws.proofs.Making.{made_holds}
use Rattle.memory_laws.proofs.Returning.{returned_holds}
use Rattle.memory_laws.proofs.Touching.{set_cells_hold}

-- small numbers are kept as they are
small : (n : ℕ) → n < 100 → IsKept Int32 (pos n)
small n l = (omega (arith, ints, l), refl)

first_made : Holds code (new_root 0 4 kinds ∷ []) (memory_of first)
first_made = made_holds code [] (begun frame [] no_contents) 4 0 (first_holds code frame)

-- a child that makes a root, and comes back
child_made : Holds code (new_root 0 4 kinds ∷ new_root 0 1 kinds ∷ []) (memory_of (make_root code 1 0 (begun frame [] first.contents)))
child_made = made_holds code (new_root 0 4 kinds ∷ []) (begun frame [] first.contents) 1 0
    (begun_holds code (new_root 0 4 kinds ∷ []) first frame [] [] [] first_made refl refl refl)

second_made : Holds code made (memory_of second)
second_made = made_holds code (new_root 0 4 kinds ∷ []) (record first { contents = closed (record { 0 = 1 } ∷ []) between }) 3 0
    (returned_holds code (new_root 0 4 kinds ∷ []) (new_root 0 4 kinds ∷ new_root 0 1 kinds ∷ []) first between
    (record { 0 = 1 } ∷ []) first_made refl child_made.stands refl refl)

caller_holds : Holds code before (memory_of caller)
unfolding int_wrap
caller_holds = set_cells_hold code made (memory_of wanted) mode.Write 1 0 2 Int32
    (record { mode = mode.Write; value = pos 0 }) (pos 3) (pos 3)
    (fetched_holds code made second 1 0 second_made (omega arith) refl) refl refl (small 3 (omega arith))

child_begins : Holds code before (memory_of child)
child_begins = begun_holds code before caller (record frame { needs = record { items = needs_on declared args } })
    declared args needs caller_holds refl refl refl

written_holds : Holds code (write_at before 1 0 1 (pos 7)) (memory_of writing)
unfolding int_wrap
written_holds = set_cells_hold code before (memory_of fetched) mode.Write 1 0 1 Int32
    (record { mode = mode.Write; value = pos 0 }) (pos 7) (pos 7)
    (fetched_holds code before child 1 0 child_begins (omega arith) refl) refl refl (small 7 (omega arith))

added_holds : Holds code after (memory_of adding)
unfolding int_wrap
added_holds = set_cells_hold code (write_at before 1 0 1 (pos 7)) (memory_of writing) (mode.Reduce Sum) 1 0 2 Int32
    (record { mode = mode.Reduce Sum; value = pos 0 }) (pos 5) (pos 5) written_holds refl refl (small 8 (omega arith))

pub example_holds : ExampleHolds
unfolding int_wrap
example_holds = record {
  numbers_are = refl;
  required = refl;
  covers_write = refl;
  covers_reduction = inr refl;
  is_missing = refl;
  writes = refl;
  written_is = refl;
  reduces = refl;
  reduced_is = refl;
  sees_written = refl;
  sees_reduced = refl;
  given = refl;
  begins = child_begins;
  holds = added_holds;
}
