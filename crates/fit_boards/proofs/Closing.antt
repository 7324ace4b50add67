-- What follows when an operation's own work has ended keeps that a state fits: roots go, and no operation changes.
use Rattle.std.proofs.Common.{ℕ, zero, suc, Bool, true, false, cond, List}
use Rattle.logical_map.specs.Maps.{LogicalMap}
use Rattle.dependence_graph.specs.Graphs.{Waits}
use Rattle.machine_terms.specs.declared.outcome.CallOut.{CallOut}
use Rattle.board_terms.specs.Closings.{closed_up, followed, map_behind, may_close, over, up_from}
use Rattle.board_terms.specs.States.{State, operation_at}
use Rattle.fit_rules.specs.Fits.{Program}
use Rattle.fit_boards.specs.Fitting.{MapFits, StateFits}
use Rattle.fit_boards.proofs.Columns.{all_closed}
use Rattle.fit_boards.proofs.Staying.{calls_same, fits_stay, nodes_same, roots_same}

-- the graph and the roots alone change
rest_fits : (g : Program) (log : List CallOut) (s : State) (w : Waits) (m : LogicalMap) → StateFits g log s → MapFits g s.roots m → StateFits g log (record s { waits = w; map = m })
rest_fits g log s w m fits map = record {
  issued = fits.issued;
  counted = fits.counted;
  map = map;
  operations = λ j l. fits_stay g log log s (record s { waits = w; map = m })
      (record { calls = calls_same log; nodes = nodes_same s.tree; roots = roots_same s.roots; gives = λ c n. (n, λ sh a. a) }) j (operation_at s j) (operation_at s j).activity (fits.operations j l);
}

over_fits : (g : Program) (log : List CallOut) (s : State) (k : ℕ) → StateFits g log s → StateFits g log (over s k)
over_fits g log s k fits = rest_fits g log s (over s k).waits (map_behind s k) fits (of k)
  where
    of : (k : ℕ) → MapFits g s.roots (map_behind s k)
    of zero = fits.map
    of (suc k) = all_closed g s.roots (operation_at s (suc k)).frame.own s.map fits.map

closed_fits : (g : Program) (log : List CallOut) (n : ℕ) (s : State) (k : ℕ) → StateFits g log s → StateFits g log (closed_up n s k)
closed_fits g log zero s k fits = fits
closed_fits g log (suc n) s k fits = of (may_close s k) (by_caller k (over s k) (over_fits g log s k fits) (λ v j f. closed_fits g log n v j f))
  where
    by_caller : (k : ℕ) (v : State) → StateFits g log v → ((v : State) (j : ℕ) → StateFits g log v → StateFits g log (closed_up n v j)) → StateFits g log (up_from k (closed_up n) v)
    by_caller zero v f more = f
    by_caller (suc k) v f more = more v (operation_at v (suc k)).parent.0 f

    of : (b : Bool) → StateFits g log (up_from k (closed_up n) (over s k)) → StateFits g log (cond b (up_from k (closed_up n) (over s k)) s)
    of true more = more
    of false more = fits

pub followed_fits : (g : Program) (log : List CallOut) (s : State) (k : ℕ) → StateFits g log s → StateFits g log (followed s k)
followed_fits g log s k fits = closed_fits g log _ s k fits
