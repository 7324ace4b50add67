-- A program whose one task loops over its region, and keeps pointers and indices.
use Rattle.std.specs.Prelude.{◌≡◌, pos, [], ◌∷◌}
use Rattle.lane_kernels.specs.declared.numbers.Op.TheVariants.{Sum}
use Rattle.regent_tree.specs.Meaning.{meaning}
use Rattle.regent_tree.specs.Syntax.{Tree, cast_expr, convert_expr, is_null_expr, null_expr}
use Rattle.regent_tree.specs.declared.expression.Arithmetic.TheVariants.{Add, Remainder}
use Rattle.regent_tree.specs.declared.outcome.FaultKind.TheVariants.{OutOfRegion}
use Rattle.regent_tree.specs.declared.types.Kind.TheVariants.{Int1d}
use Rattle.regent_tree.specs.declared.expression.Comparison.TheVariants.{NotEqual}
use Rattle.regent_tree.specs.declared.types.NumberTerm.TheVariants.{Index, Int32}
use Rattle.regent_tree.specs.declared.types.PointerTerm.{PointerTerm}
use Rattle.worked_examples.specs.Words.{access, at, below_zero, calc, compare, dot, each, faults, field_space, get, int, item, line, naturals, new_region, number, param, pointer, points_into, print, prints, reduce, ref, root, set, space, space_of, task, var, var_as, var_from, when}
use Rattle.code_laws.specs.Programs.{IsTypedRun, pointer_forms}

--     fspace f { x : int, next : int1d }
--     task main(n : int)
--       var r = region(ispace(int1d, 3), f)
--       var k : int1d = 1
--       k = n
--       for p in r do
--         var q = p
--         q.next = (p + k) % 3
--         p.x = int(q)
--       end
--       for p in r do r[p.next].x += p.x end
--       var a : int1d(f, r) = null(int1d(f, r))
--       var b = r[1]
--       a = dynamic_cast(int1d(f, r), 2)
--       if a ~= b then b.x = 7 end
--       if isnull(a) then b.x = 8 end
--       regentlib.c.printf("%d\n", r[0].x)
--     end
abbrev into_r : PointerTerm
into_r = pointer (space_of "f" []) (ref "r" ∷ [])

abbrev pub pointers_program : Tree
pointers_program =
    item 1 (field_space "f" [] (param 1 "x" (number Int32) ∷ param 1 "next" (number (Index Int1d)) ∷ []))
    ∷ item 2
    (task "main" (param 2 "n" (number Int32) ∷ []) []
    (line 3 (var_from "r" (new_region (space (int 3)) (space_of "f" [])))
    ∷ line 4 (var_as "k" (number (Index Int1d)) (int 1))
    ∷ line 5 (set "k" [] (get "n"))
    ∷ line 6 (each "p" (get "r")
    (line 7 (var "q" (get "p"))
    ∷ line 8 (set "q" (dot "next" ∷ []) (calc (calc (get "p") Add (get "k")) Remainder (int 3)))
    ∷ line 9 (set "p" (dot "x" ∷ []) (convert_expr Int32 (get "q"))) ∷ []))
    ∷ line 11 (each "p" (get "r")
    (line 11 (reduce "r" (at (access "p" (dot "next" ∷ [])) ∷ dot "x" ∷ []) Sum (access "p" (dot "x" ∷ []))) ∷ []))
    ∷ line 12 (var_as "a" (points_into into_r) (null_expr into_r))
    ∷ line 13 (var "b" (access "r" (at (int 1) ∷ [])))
    ∷ line 14 (set "a" [] (cast_expr into_r (int 2)))
    ∷ line 15 (when (compare (get "a") NotEqual (get "b")) (line 15 (set "b" (dot "x" ∷ []) (int 7)) ∷ []))
    ∷ line 16 (when (is_null_expr (get "a")) (line 16 (set "b" (dot "x" ∷ []) (int 8)) ∷ []))
    ∷ line 17 (print "%d\n" (access "r" (at (int 0) ∷ dot "x" ∷ []) ∷ []))
    ∷ []))
    ∷ []

-- The premises of the law hold of it. With 1 for its number it ends with its root, with -2 there is an index that
-- its region lacks.
pub record PointerExampleHolds : Type 0 where
  pub ends : IsTypedRun pointer_forms pointers_program (pos 1 ∷ [])
  pub faults_too : IsTypedRun pointer_forms pointers_program (below_zero 2 ∷ [])
  pub end_is : meaning pointers_program (pos 1 ∷ []) 100 ≡ prints "3\n"
      (root 0 3 (naturals (3 ∷ 7 ∷ 3 ∷ []) ∷ naturals (1 ∷ 2 ∷ 0 ∷ []) ∷ []) ∷ [])
  pub fault_is : meaning pointers_program (below_zero 2 ∷ []) 100 ≡ faults "" OutOfRegion 11
