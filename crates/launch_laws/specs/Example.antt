-- A program with three loops over points: a demanded launch, one that isn't demanded, and one whose body is two calls.
use Rattle.std.specs.Prelude.{List, Some, [], false, flat_map, map, pos, ◌∷◌, ◌≡◌, ℕ}
use Rattle.index_launch.specs.declared.points.LaunchArg.TheVariants as arg
use Rattle.index_launch.specs.declared.view.LaunchShape.TheVariants.{Launch, Plain}
use Rattle.index_launch.specs.declared.view.Reason.TheVariants.{NotOneCall}
use Rattle.regent_tree.specs.Syntax.{Tree}
use Rattle.regent_tree.specs.declared.types.Kind.TheVariants.{Int1d}
use Rattle.regent_tree.specs.declared.types.NumberTerm.TheVariants.{Index, Int64}
use Rattle.task_code.specs.declared.code.Line.{Line}
use Rattle.task_code.specs.declared.code.TaskCode.{TaskCode}
use Rattle.task_code.specs.declared.instr.Instr.{Instr}
use Rattle.task_code.specs.declared.instr.Instr.TheVariants as instr
use Rattle.worked_examples.specs.Words.{call, each, get, int, item, launch, line, number, param, space, task}
use Rattle.check_rules.specs.Breaches.{breaches}
use Rattle.check_rules.specs.launches.Shapes.{shape_on}
use Rattle.code_rules.specs.Programs.{code_of}
use Rattle.launch_laws.specs.Launched.{launches_in}

--     task v(k : int1d, n : int64) end
--     task main(n : int64)
--       __demand(__index_launch)
--       for i in ispace(int1d, 3) do
--         v(i, n)
--       end
--       for i in ispace(int1d, 3) do
--         v(i, n)
--       end
--       for i in ispace(int1d, 3) do
--         v(i, n)
--         v(i, n)
--       end
--     end
abbrev pub three_loops : Tree
three_loops =
    item 1 (task "v" (param 1 "k" (number (Index Int1d)) ∷ param 1 "n" (number Int64) ∷ []) [] [])
    ∷ item 2
    (task "main" (param 2 "n" (number Int64) ∷ []) []
    (line 4 (launch "i" (space (int 3)) (line 5 (call "v" (get "i" ∷ get "n" ∷ [])) ∷ []))
    ∷ line 7 (each "i" (space (int 3)) (line 8 (call "v" (get "i" ∷ get "n" ∷ [])) ∷ []))
    ∷ line 10
    (each "i" (space (int 3)) (line 11 (call "v" (get "i" ∷ get "n" ∷ [])) ∷ line 12 (call "v" (get "i" ∷ get "n" ∷ [])) ∷ []))
    ∷ []))
    ∷ []

abbrev pub on : ℕ → Instr → Line
on n i = record { instr = i; line = n }

abbrev pub bodies : Tree → List (List Line)
bodies tree = map (λ (t : TaskCode). t.body) (code_of tree).tasks

-- the domain, the argument that is the same at each colour, and the launch, whose other argument is the colour
abbrev pub launched : ℕ → ℕ → List Line → List Line
launched loop called rest =
    on loop (instr.Num (pos 3)) ∷ on loop instr.Space ∷ on loop (instr.Store 3)
    ∷ on called (instr.Load 0) ∷ on called (instr.Store 9)
    ∷ on loop (instr.Launch 0 3 called (arg.Point ∷ arg.Keep 9 ∷ [])) ∷ rest

abbrev pub called_once : ℕ → List Line → List Line
called_once n rest =
    on n (instr.Load 1) ∷ on n (instr.Load 0) ∷ on n (instr.Call 0 2) ∷ on n instr.Drop ∷ rest

-- The first two loops are launches, the third goes point by point.
pub record ThreeLoopsHold : Type 0 where
  pub sound : breaches three_loops ≡ []
  pub demanded : shape_on three_loops 4 0 ≡ Some Launch
  pub undemanded : shape_on three_loops 7 0 ≡ Some Launch
  pub twice : shape_on three_loops 10 0 ≡ Some (Plain NotOneCall)
  pub code : bodies three_loops ≡
      (on 0 instr.Return ∷ [])
      ∷ launched 4 5 (launched 7 8 (
      on 10 (instr.Num (pos 3)) ∷ on 10 instr.Space ∷ on 10 (instr.Store 3)
      ∷ on 10 (instr.Num (pos 0)) ∷ on 10 (instr.Store 2) ∷ on 10 (instr.NextPoint 3 2 1 false 27)
      ∷ called_once 11 (called_once 12 (on 10 (instr.Jump 17) ∷ on 0 instr.Return ∷ []))
      ))
      ∷ []
  pub lines : flat_map launches_in (bodies three_loops) ≡ 4 ∷ 7 ∷ []
