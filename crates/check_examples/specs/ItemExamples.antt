-- Breaches of the rules on tasks, starts and demanded loops: 16 to 19.
use Rattle.std.specs.Prelude.{None, [], ◌∷◌, ◌≡◌}
use Rattle.regent_tree.specs.Syntax.{Tree, return_form}
use Rattle.regent_tree.specs.declared.program.Grant.TheVariants.{Reads}
use Rattle.regent_tree.specs.declared.types.Kind.TheVariants.{Int1d}
use Rattle.regent_tree.specs.declared.types.NumberTerm.TheVariants.{Int64}
use Rattle.regent_tree.specs.declared.types.TypeTerm.TheVariants.{Ispace, Truth}
use Rattle.worked_examples.specs.SampleProgram.{sample_program}
use Rattle.worked_examples.specs.Words.{apart, call, field_space, fields, get, give, grants, int, item, line, number, param, region, space_of, start, task, task_giving, whole}
use Rattle.check_rules.specs.Breaches.{breaches, breaks}

-- A clause on a number, and on a field that isn't there.
--     fspace f { x : int64 }
--     task t(r : region(ispace(int1d), f), k : int64)
--     where reads(k) do end
--     task u(r : region(ispace(int1d), f)) where reads(r.y) do end
--     task main() end
abbrev pub wrong_clauses_program : Tree
wrong_clauses_program =
    item 1 (field_space "f" [] (param 1 "x" (number Int64) ∷ []))
    ∷ item 2
    (task "t" (param 2 "r" (region (space_of "f" [])) ∷ param 2 "k" (number Int64) ∷ [])
    (grants (Reads ∷ []) (whole "k" ∷ []) ∷ []) [])
    ∷ item 4
    (task "u" (param 4 "r" (region (space_of "f" [])) ∷ [])
    (grants (Reads ∷ []) (fields "r" ("y" ∷ []) ∷ []) ∷ []) [])
    ∷ item 5 (task "main" [] [] [])
    ∷ []

abbrev pub wrong_clauses_breaks : Type 0
wrong_clauses_breaks =
    breaches wrong_clauses_program ≡ breaks 16 2 ∷ breaks 16 4 ∷ []

-- Clauses with a breach ask nothing of a call: of a number, and of a field that isn't there beside one
-- that is.
--     fspace f { x : int64 }
--     task t(r : region(ispace(int1d), f), k : int64)
--     where r * k, reads(r.{x, y}) do end
--     task u(s : region(ispace(int1d), f)) t(s, s) end
--     task main() end
abbrev pub calls_by_wrong_clauses_program : Tree
calls_by_wrong_clauses_program =
    item 1 (field_space "f" [] (param 1 "x" (number Int64) ∷ []))
    ∷ item 2
    (task "t" (param 2 "r" (region (space_of "f" [])) ∷ param 2 "k" (number Int64) ∷ [])
    (apart "r" "k" ∷ grants (Reads ∷ []) (fields "r" ("x" ∷ "y" ∷ []) ∷ []) ∷ [])
    [])
    ∷ item 4
    (task "u" (param 4 "s" (region (space_of "f" [])) ∷ []) []
    (line 4 (call "t" (get "s" ∷ get "s" ∷ [])) ∷ []))
    ∷ item 5 (task "main" [] [] [])
    ∷ []

abbrev pub calls_by_wrong_clauses_breaks : Type 0
calls_by_wrong_clauses_breaks =
    breaches calls_by_wrong_clauses_program ≡ breaks 3 4 ∷ breaks 5 4 ∷ breaks 16 2 ∷ []

-- A value without a result type, none with one, and a result that is an index space.
--     task a() return 1 end
--     task b() : int64 return end
--     task c() : ispace(int1d) end
--     task main() end
abbrev pub wrong_returns_program : Tree
wrong_returns_program =
    item 1 (task "a" [] [] (line 1 (give (int 1)) ∷ []))
    ∷ item 2 (task_giving (number Int64) "b" [] [] (line 2 (return_form None) ∷ []))
    ∷ item 3 (task_giving (Ispace Int1d) "c" [] [] [])
    ∷ item 4 (task "main" [] [] [])
    ∷ []

abbrev pub wrong_returns_breaks : Type 0
wrong_returns_breaks =
    breaches wrong_returns_program ≡ breaks 17 3 ∷ breaks 17 1 ∷ breaks 17 2 ∷ []

-- A program without a start and without a task `main`.
--     fspace f { x : int64 }
abbrev pub nothing_to_start_program : Tree
nothing_to_start_program =
    item 1 (field_space "f" [] (param 1 "x" (number Int64) ∷ []))
    ∷ []

abbrev pub nothing_to_start_breaks : Type 0
nothing_to_start_breaks =
    breaches nothing_to_start_program ≡ breaks 18 1 ∷ []

-- Two starts, one of a task that isn't there; and a entry task with a truth as its parameter.
--     task go(b : bool) end
--     regentlib.start(go)
--     regentlib.start(come)
abbrev pub wrong_starts_program : Tree
wrong_starts_program =
    item 1 (task "go" (param 1 "b" Truth ∷ []) [] [])
    ∷ item 2 (start "go")
    ∷ item 3 (start "come")
    ∷ []

abbrev pub wrong_starts_breaks : Type 0
wrong_starts_breaks =
    breaches wrong_starts_program ≡ breaks 18 3 ∷ breaks 18 1 ∷ []

-- The sample program: its loops under `__demand` are index launches.
abbrev pub demanded_loops_breaks : Type 0
demanded_loops_breaks = breaches sample_program ≡ []
