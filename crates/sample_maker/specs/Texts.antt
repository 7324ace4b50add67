-- The sample program with a number of colours, and 4096 cells for each.
use Rattle.std.specs.Prelude.{ℕ, ◌*◌, List, ◌++◌, codes}
use Rattle.std.specs.Fmt.{decimal}

-- the tasks, and the beginning of the main task up to the number of cells
unfoldable pub tasks_text : List ℕ
tasks_text =
    codes "import \"regent\"\n"
    ++ codes "fspace cell { v : int64, w : int64, nbr : int1d }\n"
    ++ codes "fspace sum { s : int64 }\n"
    ++ codes "task setup(r : region(ispace(int1d), cell), n : int64)\n"
    ++ codes "where writes(r.{v, nbr}) do\n"
    ++ codes "  for x in r do\n"
    ++ codes "    x.v = int64(x)\n"
    ++ codes "    x.nbr = (x + 1) % n\n"
    ++ codes "  end\n"
    ++ codes "end\n"
    ++ codes "task step(r : region(ispace(int1d), cell), g : region(ispace(int1d), cell))\n"
    ++ codes "where reads(r.{v, nbr}, g.v), writes(r.w) do\n"
    ++ codes "  for x in r do x.w = x.v + g[x.nbr].v end\n"
    ++ codes "end\n"
    ++ codes "task back(r : region(ispace(int1d), cell))\n"
    ++ codes "where reads(r.w), writes(r.v) do\n"
    ++ codes "  for x in r do x.v = x.w end\n"
    ++ codes "end\n"
    ++ codes "task add(r : region(ispace(int1d), cell), t : region(ispace(int1d), sum))\n"
    ++ codes "where reads(r.v), reduces +(t.s) do\n"
    ++ codes "  for x in r do t[0].s += x.v end\n"
    ++ codes "end\n"
    ++ codes "task main()\n"
    ++ codes "  var r = region(ispace(int1d, "

-- up to the number of colours
unfoldable pub sums_text : List ℕ
sums_text =
    codes "), cell)\n"
    ++ codes "  var t = region(ispace(int1d, 1), sum)\n"
    ++ codes "  var c = ispace(int1d, "

-- up to the number that determines neighbours
unfoldable pub setup_text : List ℕ
setup_text =
    codes ")\n"
    ++ codes "  var p = partition(equal, r, c)\n"
    ++ codes "  __demand(__index_launch)\n"
    ++ codes "  for k in c do setup(p[k], "

-- up to the printed number of cells
unfoldable pub rounds_text : List ℕ
rounds_text =
    codes ") end\n"
    ++ codes "  var g = image(r, p, r.nbr)\n"
    ++ codes "  for i = 0, 4 do\n"
    ++ codes "    __demand(__index_launch)\n"
    ++ codes "    for k in c do step(p[k], g[k]) end\n"
    ++ codes "    __demand(__index_launch)\n"
    ++ codes "    for k in c do back(p[k]) end\n"
    ++ codes "  end\n"
    ++ codes "  __demand(__index_launch)\n"
    ++ codes "  for k in c do add(p[k], t) end\n"
    ++ codes "  regentlib.c.printf(\"%lld cells, total %lld\\n\", "

-- to the end
unfoldable pub end_text : List ℕ
end_text =
    codes ", t[0].s)\n"
    ++ codes "end\n"
    ++ codes "regentlib.start(main)\n"

-- up to the loop that sets the cells up, and from there
abbrev pub front_text : ℕ → ℕ → List ℕ
front_text cells colours = tasks_text ++ decimal cells ++ sums_text ++ decimal colours

abbrev pub rest_text : ℕ → List ℕ
rest_text cells = setup_text ++ decimal cells ++ rounds_text ++ decimal cells ++ end_text

abbrev pub sample_text : ℕ → List ℕ
sample_text n = front_text (4096 * n) n ++ rest_text (4096 * n)
