use Rattle.std.proofs.Common.{◌≡◌, ◌++◌, drop, true}
use Rattle.std.specs.List.{list_all}
use Rattle.run_report.specs.Dumps.{is_of_space, roots_from}
use Rattle.run_report.proofs.dump.push_roots.Given as goal

abbrev pub invariant-loop-place : goal.invariant-loop-place
invariant-loop-place l = record {
  text : l.text.items ++ roots_from l.place l.spaces (drop l.place l.roots)
      ≡ l.fn.text.items ++ roots_from 0 l.spaces l.roots;
  fit : list_all (is_of_space l.spaces) (drop l.place l.roots) ≡ true;
}
