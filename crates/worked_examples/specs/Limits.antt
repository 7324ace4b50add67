-- Turns, depth and sizes.
use Rattle.std.specs.Prelude.{◌≡◌, [], ◌∷◌}
use Rattle.regent_tree.specs.declared.outcome.FaultKind.TheVariants.{Turns, Depth, BadSize}
use Rattle.regent_tree.specs.declared.types.NumberTerm.TheVariants.{Int64}
use Rattle.regent_tree.specs.Syntax.{Tree}
use Rattle.regent_tree.specs.Meaning.{meaning}
use Rattle.worked_examples.specs.Words.{int, space, call_of, number, param, line, var, print, call, give, count, item, task, task_giving, prints, faults}

-- Exactly as many turns as a loop takes:
--     task main()
--       for i = 0, 5 do end
--     end
abbrev pub turns_enough_program : Tree
turns_enough_program =
    item 1 (task "main" [] [] (line 2 (count "i" (int 0) (int 5) []) ∷ [])) ∷ []

abbrev pub turns_enough_means : Type 0
turns_enough_means =
    meaning turns_enough_program [] 5 ≡ prints "" []

-- One turn fewer than a loop takes:
--     task main()
--       for i = 0, 5 do end
--     end
abbrev pub turns_spent_program : Tree
turns_spent_program =
    item 1 (task "main" [] [] (line 2 (count "i" (int 0) (int 5) []) ∷ [])) ∷ []

abbrev pub turns_spent_means : Type 0
turns_spent_means =
    meaning turns_spent_program [] 4 ≡ faults "" Turns 2

-- A call whose argument takes the last turn:
--     task u() : int64
--       regentlib.c.printf("u")
--       return 1
--     end
--     task t(k : int64)
--       regentlib.c.printf("t")
--     end
--     task main()
--       t(u())
--     end
abbrev pub arguments_first_program : Tree
arguments_first_program =
    item 1
    (task_giving (number Int64) "u" [] [] (line 2 (print "u" []) ∷ line 3 (give (int 1)) ∷ []))
    ∷ item 5 (task "t" (param 5 "k" (number Int64) ∷ []) [] (line 6 (print "t" []) ∷ []))
    ∷ item 8 (task "main" [] [] (line 9 (call "t" (call_of "u" [] ∷ [])) ∷ []))
    ∷ []

abbrev pub arguments_first_means : Type 0
arguments_first_means =
    meaning arguments_first_program [] 1 ≡ faults "u" Turns 9

-- A task that calls itself forever:
--     task d()
--       regentlib.c.printf("x")
--       d()
--     end
--     task main() d() end
abbrev pub calls_too_deep_program : Tree
calls_too_deep_program =
    item 1 (task "d" [] [] (line 2 (print "x" []) ∷ line 3 (call "d" []) ∷ []))
    ∷ item 5 (task "main" [] [] (line 5 (call "d" []) ∷ []))
    ∷ []

abbrev pub calls_too_deep_means : Type 0
calls_too_deep_means =
    meaning calls_too_deep_program [] 1000000 ≡ faults
    "xxxxxxxxxxxxxxxxxxxxxxxxxxxxxxxxxxxxxxxxxxxxxxxxxxxxxxxxxxxxxxx"
    Depth
    3

-- The greatest size of an index space:
--     task main() var s = ispace(int1d, 4194304) end
abbrev pub greatest_space_program : Tree
greatest_space_program =
    item 1 (task "main" [] [] (line 1 (var "s" (space (int 4194304))) ∷ [])) ∷ []

abbrev pub greatest_space_means : Type 0
greatest_space_means =
    meaning greatest_space_program [] 1000000 ≡ prints "" []

-- A size above the greatest:
--     task main() var s = ispace(int1d, 4194305) end
abbrev pub space_too_large_program : Tree
space_too_large_program =
    item 1 (task "main" [] [] (line 1 (var "s" (space (int 4194305))) ∷ [])) ∷ []

abbrev pub space_too_large_means : Type 0
space_too_large_means =
    meaning space_too_large_program [] 1000000 ≡ faults "" BadSize 1
