-- Numbers and text.
use Rattle.std.specs.Prelude.{◌≡◌, [], ◌∷◌}
use Rattle.regent_tree.specs.declared.expression.Arithmetic.TheVariants.{Add, Subtract, Multiply, Divide, Remainder}
use Rattle.regent_tree.specs.declared.types.NumberTerm.TheVariants.{Int64}
use Rattle.regent_tree.specs.Syntax.{Tree, import_item}
use Rattle.regent_tree.specs.Meaning.{meaning}
use Rattle.worked_examples.specs.Words.{int, int64, get, calc, minus, number, param, line, var, var_as, set, print, item, start, task, prints, below_zero}

-- An assignment, and a number printed:
--     import "regent"
--     task main()
--       var x : int64 = 3
--       x = x * 2 + 1
--       regentlib.c.printf("%lld\n", x)
--     end
--     regentlib.start(main)
abbrev pub assignment_program : Tree
assignment_program =
    item 1 import_item
    ∷ item 2
    (task "main" [] []
    (line 3 (var_as "x" (number Int64) (int 3))
    ∷ line 4 (set "x" [] (calc (calc (get "x") Multiply (int 2)) Add (int 1)))
    ∷ line 5 (print "%lld\n" (get "x" ∷ []))
    ∷ []))
    ∷ item 7 (start "main")
    ∷ []

abbrev pub assignment_means : Type 0
assignment_means =
    meaning assignment_program [] 1000000 ≡ prints "7\n" []

-- A product of two numbers of 32 bits wraps before it is widened:
--     task main() var x : int64 = 2147483647 * 2 regentlib.c.printf("%d", x) end
abbrev pub narrow_product_program : Tree
narrow_product_program =
    item 1
    (task "main" [] []
    (line 1 (var_as "x" (number Int64) (calc (int 2147483647) Multiply (int 2)))
    ∷ line 1 (print "%d" (get "x" ∷ []))
    ∷ []))
    ∷ []

abbrev pub narrow_product_means : Type 0
narrow_product_means =
    meaning narrow_product_program [] 1000000 ≡ prints "-2" []

-- A task with no statement:
--     task main() end
abbrev pub empty_task_program : Tree
empty_task_program =
    item 1 (task "main" [] [] []) ∷ []

abbrev pub empty_task_means : Type 0
empty_task_means =
    meaning empty_task_program [] 1000000 ≡ prints "" []

-- The least number divided by -1, and quotients towards zero:
--     task main()
--       var m = -9223372036854775807 - 1
--       regentlib.c.printf("%lld %lld %d", m / -1, m % -1, -7 / 2)
--     end
abbrev pub signed_division_program : Tree
signed_division_program =
    item 1
    (task "main" [] []
    (line 2 (var "m" (calc (minus (int64 9223372036854775807)) Subtract (int 1)))
    ∷ line 3
    (print "%lld %lld %d"
    (calc (get "m") Divide (minus (int 1))
    ∷ calc (get "m") Remainder (minus (int 1))
    ∷ calc (minus (int 7)) Divide (int 2)
    ∷ []))
    ∷ []))
    ∷ []

abbrev pub signed_division_means : Type 0
signed_division_means =
    meaning signed_division_program [] 1000000 ≡ prints "-9223372036854775808 0 -3" []

-- An argument of the program:
--     task main(n : int64) regentlib.c.printf("%lld", n) end
abbrev pub input_printed_program : Tree
input_printed_program =
    item 1
    (task "main" (param 1 "n" (number Int64) ∷ []) []
    (line 1 (print "%lld" (get "n" ∷ [])) ∷ []))
    ∷ []

abbrev pub input_printed_means : Type 0
input_printed_means =
    meaning input_printed_program (below_zero 3 ∷ []) 1000000 ≡ prints "-3" []
