-- The touches of a task that its declaration covers.
use Rattle.std.specs.Prelude.{◌≡◌, List, [], ◌∷◌, map, Bool, true, false, codes}
use Rattle.lane_kernels.specs.declared.numbers.Op.TheVariants.{Sum}
use Rattle.regent_tree.specs.declared.program.Clause.{Clause}
use Rattle.regent_tree.specs.declared.program.Grant.TheVariants.{Reads, Writes, Reduces}
use Rattle.regent_tree.specs.declared.types.NumberTerm.TheVariants.{Int64}
use Rattle.regent_tree.specs.Syntax.{Tree, Statement}
use Rattle.regent_tree.specs.Values.{a_region}
use Rattle.regent_tree.specs.Store.{Touch}
use Rattle.regent_tree.specs.StaticTypes.{task_named}
use Rattle.regent_tree.specs.Running.{Result, gives, fails}
use Rattle.regent_tree.specs.Execution.{Going}
use Rattle.regent_tree.specs.Meaning.{run_task, calls_at}
use Rattle.regent_tree.specs.Cover.{is_covered}
use Rattle.worked_examples.specs.Words.{int, dot, at, access, number, space_of, region, param, fields, grants, line, var_from, new_region, space, set, reduce, item, field_space, task, root, naturals}

abbrev pub touches_of : Result Going → List Touch
touches_of (gives g s) = s.touches
touches_of (fails f s) = s.touches

-- task t(r : region(ispace(int1d), f)) where CLAUSES do STATEMENTS end
abbrev pub task_with : List Clause → List Statement → Tree
task_with clauses statements =
    item 1 (field_space "f" [] (param 1 "x" (number Int64) ∷ []))
    ∷ item 2 (task "t" (param 2 "r" (region (space_of "f" [])) ∷ []) clauses statements)
    ∷ []

-- for each touch of t, on a region of two points, whether it is covered
abbrev pub covered : List Clause → List Statement → List Bool
covered clauses statements =
    let tree = task_with clauses statements in
    let t = task_named tree (codes "t") in
    let args = a_region (record { root = 0; points = 0 ∷ 1 ∷ [] }) ∷ [] in
    map (is_covered tree 1 t args) (touches_of (run_task tree 10 (calls_at tree 10 63) t args
    (root 0 2 (naturals (0 ∷ 0 ∷ []) ∷ []) ∷ [])))

-- r[0].x += r[1].x: a read at 1, and then a reduction at 0
abbrev pub sum_of_two : List Statement
sum_of_two =
    line 2 (reduce "r" (at (int 0) ∷ dot "x" ∷ []) Sum
    (access "r" (at (int 1) ∷ dot "x" ∷ []))) ∷ []

-- Under reads and the reduction both touches are covered, and under reads and writes; under writes
-- alone neither is, and under reads alone only the read is.
abbrev pub declared_access_means : Type 0
declared_access_means =
    covered (grants (Reads ∷ Reduces Sum ∷ []) (fields "r" ("x" ∷ []) ∷ []) ∷ []) sum_of_two
    ∷ covered (grants (Reads ∷ Writes ∷ []) (fields "r" ("x" ∷ []) ∷ []) ∷ []) sum_of_two
    ∷ covered (grants (Writes ∷ []) (fields "r" ("x" ∷ []) ∷ []) ∷ []) sum_of_two
    ∷ covered (grants (Reads ∷ []) (fields "r" ("x" ∷ []) ∷ []) ∷ []) sum_of_two
    ∷ [] ≡ (true ∷ true ∷ []) ∷ (true ∷ true ∷ []) ∷ (false ∷ false ∷ []) ∷ (true ∷ false ∷ []) ∷ []

-- A task without privileges may write in the region that it made.
abbrev pub own_root_means : Type 0
own_root_means =
    covered [] (line 2 (var_from "s" (new_region (space (int 1)) (space_of "f" [])))
    ∷ line 3 (set "s" (at (int 0) ∷ dot "x" ∷ []) (int 5))
    ∷ []) ≡ true ∷ []
