-- Breaches of the rules on privileges: 8 to 11.
use Rattle.std.specs.Prelude.{[], codes, true, ◌∷◌, ◌≡◌}
use Rattle.lane_kernels.specs.declared.numbers.Op.TheVariants.{Product, Sum}
use Rattle.regent_tree.specs.Syntax.{Tree, null_expr}
use Rattle.regent_tree.specs.declared.program.Clause.TheVariants.{Within}
use Rattle.regent_tree.specs.declared.program.Grant.TheVariants.{Reads, Reduces, Writes}
use Rattle.regent_tree.specs.declared.types.NumberTerm.TheVariants.{Int64}
use Rattle.worked_examples.specs.Words.{access, at, by_field, call, dot, field_space, fields, fill, get, grants, int, item, line, number, param, partition, pointer, reduce, ref, region, set, space, space_of, task, var, var_from, whole}
use Rattle.check_rules.specs.Breaches.{breaches, breaks}

-- A field written under `reads`.
--     fspace f { x : int64 }
--     task t(r : region(ispace(int1d), f))
--     where reads(r.x) do
--       r[0].x = 1
--     end
--     task main() end
abbrev pub write_under_reads_program : Tree
write_under_reads_program =
    item 1 (field_space "f" [] (param 1 "x" (number Int64) ∷ []))
    ∷ item 2
    (task "t" (param 2 "r" (region (space_of "f" [])) ∷ [])
    (grants (Reads ∷ []) (fields "r" ("x" ∷ []) ∷ []) ∷ [])
    (line 4 (set "r" (at (int 0) ∷ dot "x" ∷ []) (int 1)) ∷ []))
    ∷ item 6 (task "main" [] [] [])
    ∷ []

abbrev pub write_under_reads_breaks : Type 0
write_under_reads_breaks =
    breaches write_under_reads_program ≡ breaks 9 4 ∷ []

-- A field read, and reduced, under `writes` alone.
--     fspace f { x : int64 }
--     task t(r : region(ispace(int1d), f))
--     where writes(r.x) do
--       var n = r[0].x
--       r[0].x += n
--     end
--     task main() end
abbrev pub read_under_writes_program : Tree
read_under_writes_program =
    item 1 (field_space "f" [] (param 1 "x" (number Int64) ∷ []))
    ∷ item 2
    (task "t" (param 2 "r" (region (space_of "f" [])) ∷ [])
    (grants (Writes ∷ []) (fields "r" ("x" ∷ []) ∷ []) ∷ [])
    (line 4 (var "n" (access "r" (at (int 0) ∷ dot "x" ∷ [])))
    ∷ line 5 (reduce "r" (at (int 0) ∷ dot "x" ∷ []) Sum (get "n")) ∷ []))
    ∷ item 7 (task "main" [] [] [])
    ∷ []

abbrev pub read_under_writes_breaks : Type 0
read_under_writes_breaks =
    breaches read_under_writes_program ≡ breaks 8 4 ∷ breaks 10 5 ∷ []

-- A reduction under that of another operator; both reading and writing allow it.
--     fspace f { x : int64 }
--     task t(r : region(ispace(int1d), f), s : region(ispace(int1d), f))
--     where reduces *(r.x), reads writes(s.x) do
--       r[0].x += 1
--       s[0].x += 1
--     end
--     task main() end
abbrev pub other_reduction_program : Tree
other_reduction_program =
    item 1 (field_space "f" [] (param 1 "x" (number Int64) ∷ []))
    ∷ item 2
    (task "t"
    (param 2 "r" (region (space_of "f" [])) ∷ param 2 "s" (region (space_of "f" [])) ∷ [])
    (grants (Reduces Product ∷ []) (fields "r" ("x" ∷ []) ∷ [])
    ∷ grants (Reads ∷ Writes ∷ []) (fields "s" ("x" ∷ []) ∷ []) ∷ [])
    (line 4 (reduce "r" (at (int 0) ∷ dot "x" ∷ []) Sum (int 1))
    ∷ line 5 (reduce "s" (at (int 0) ∷ dot "x" ∷ []) Sum (int 1)) ∷ []))
    ∷ item 7 (task "main" [] [] [])
    ∷ []

abbrev pub other_reduction_breaks : Type 0
other_reduction_breaks =
    breaches other_reduction_program ≡ breaks 10 4 ∷ []

-- A pointer into two regions, one of which may not be written.
--     fspace f { x : int64 }
--     task t(r : region(ispace(int1d), f), s : region(ispace(int1d), f))
--     where writes(r.x), reads(s.x) do
--       var p = null(int1d(f, r, s))
--       p.x = 1
--     end
--     task main() end
abbrev pub two_regions_program : Tree
two_regions_program =
    item 1 (field_space "f" [] (param 1 "x" (number Int64) ∷ []))
    ∷ item 2
    (task "t"
    (param 2 "r" (region (space_of "f" [])) ∷ param 2 "s" (region (space_of "f" [])) ∷ [])
    (grants (Writes ∷ []) (fields "r" ("x" ∷ []) ∷ [])
    ∷ grants (Reads ∷ []) (fields "s" ("x" ∷ []) ∷ []) ∷ [])
    (line 4 (var "p" (null_expr (pointer (space_of "f" []) (ref "r" ∷ ref "s" ∷ []))))
    ∷ line 5 (set "p" (dot "x" ∷ []) (int 1)) ∷ []))
    ∷ item 7 (task "main" [] [] [])
    ∷ []

abbrev pub two_regions_breaks : Type 0
two_regions_breaks =
    breaches two_regions_program ≡ breaks 9 5 ∷ []

-- A call whose privilege the caller lacks.
--     fspace f { x : int64 }
--     task w(r : region(ispace(int1d), f)) where writes(r.x) do end
--     task t(r : region(ispace(int1d), f)) where reads(r) do
--       w(r)
--     end
--     task main() end
abbrev pub call_without_privilege_program : Tree
call_without_privilege_program =
    item 1 (field_space "f" [] (param 1 "x" (number Int64) ∷ []))
    ∷ item 2
    (task "w" (param 2 "r" (region (space_of "f" [])) ∷ [])
    (grants (Writes ∷ []) (fields "r" ("x" ∷ []) ∷ []) ∷ []) [])
    ∷ item 3
    (task "t" (param 3 "r" (region (space_of "f" [])) ∷ [])
    (grants (Reads ∷ []) (whole "r" ∷ []) ∷ []) (line 4 (call "w" (get "r" ∷ [])) ∷ []))
    ∷ item 6 (task "main" [] [] [])
    ∷ []

abbrev pub call_without_privilege_breaks : Type 0
call_without_privilege_breaks =
    breaches call_without_privilege_program ≡ breaks 11 4 ∷ []

-- A partition by a field that may not be read, and a `fill` of one that may not be written.
--     fspace f { x : int64 }
--     task t(r : region(ispace(int1d), f))
--     where reduces +(r.x) do
--       var p = partition(r.x, ispace(int1d, 2))
--       fill(r.x, 0)
--     end
--     task main() end
abbrev pub partition_by_field_program : Tree
partition_by_field_program =
    item 1 (field_space "f" [] (param 1 "x" (number Int64) ∷ []))
    ∷ item 2
    (task "t" (param 2 "r" (region (space_of "f" [])) ∷ [])
    (grants (Reduces Sum ∷ []) (fields "r" ("x" ∷ []) ∷ []) ∷ [])
    (line 4 (var_from "p" (by_field "r" "x" (space (int 2))))
    ∷ line 5 (fill "r" ("x" ∷ []) (int 0)) ∷ []))
    ∷ item 7 (task "main" [] [] [])
    ∷ []

abbrev pub partition_by_field_breaks : Type 0
partition_by_field_breaks =
    breaches partition_by_field_program ≡ breaks 8 4 ∷ breaks 9 5 ∷ []

-- Privileges on a region hold on its children; those on a child don't hold on the region.
--     fspace f { x : int64 }
--     task w(r : region(ispace(int1d), f)) where writes(r.x) do end
--     task t(r : region(ispace(int1d), f), s : region(ispace(int1d), f),
--            p : partition(disjoint, r)) where writes(r.x), s <= r do
--       w(r) w(p[1]) w(s)
--     end
--     task u(r : region(ispace(int1d), f), s : region(ispace(int1d), f))
--     where writes(s.x), s <= r do
--       w(r)
--     end
--     task main() end
abbrev pub privileges_of_parts_program : Tree
privileges_of_parts_program =
    item 1 (field_space "f" [] (param 1 "x" (number Int64) ∷ []))
    ∷ item 2
    (task "w" (param 2 "r" (region (space_of "f" [])) ∷ [])
    (grants (Writes ∷ []) (fields "r" ("x" ∷ []) ∷ []) ∷ []) [])
    ∷ item 3
    (task "t"
    (param 3 "r" (region (space_of "f" []))
    ∷ param 3 "s" (region (space_of "f" []))
    ∷ param 3 "p" (partition true "r") ∷ [])
    (grants (Writes ∷ []) (fields "r" ("x" ∷ []) ∷ []) ∷ Within (codes "s") (codes "r") ∷ [])
    (line 5 (call "w" (get "r" ∷ []))
    ∷ line 5 (call "w" (access "p" (at (int 1) ∷ []) ∷ []))
    ∷ line 5 (call "w" (get "s" ∷ [])) ∷ []))
    ∷ item 7
    (task "u"
    (param 7 "r" (region (space_of "f" [])) ∷ param 7 "s" (region (space_of "f" [])) ∷ [])
    (grants (Writes ∷ []) (fields "s" ("x" ∷ []) ∷ []) ∷ Within (codes "s") (codes "r") ∷ [])
    (line 9 (call "w" (get "r" ∷ [])) ∷ []))
    ∷ item 11 (task "main" [] [] [])
    ∷ []

abbrev pub privileges_of_parts_breaks : Type 0
privileges_of_parts_breaks =
    breaches privileges_of_parts_program ≡ breaks 11 9 ∷ []
