-- The table behind a yield of calls is that on which they are issued one after the other, then cover, and then the caller
-- goes on or is broken.
use Rattle.std.proofs.Common.{◌≡◌, ◌<◌, ◌++◌, ◌∙◌, ◌==◌, ℕ, Bool, List, Some, [], ap, arith, false, length, map, sym, true}
use Rattle.std.specs.Prelude.{set}
use Rattle.std.proofs.lemmas.List.{get_or_append_left, get_or-set_same, length-map, length-set, set-append_left, set-get_or}
use Rattle.plain_values.specs.Points.{counted_from}
use Rattle.region_finder.specs.Listings.{Listed}
use Rattle.region_tree.specs.declared.needs.Needs.{Needs}
use Rattle.dependence_graph.specs.Entries.{Knot}
use Rattle.dependence_graph.specs.Graphs.{Waits, covered_each, issued_each, knot_on, parked_on}
use Rattle.dependence_graph.specs.Knots.{has_failed, knot_at, no_knot, number}
use Rattle.dependence_graph.specs.declared.stage.Stage.TheVariants as knot
use Rattle.task_code.specs.declared.job.Job.{Job}
use Rattle.machine_terms.specs.declared.frame.Before.{Before}
use Rattle.machine_terms.specs.declared.frame.Frame.{Frame}
use Rattle.machine_terms.specs.declared.outcome.CallOut.{CallOut}
use Rattle.machine_terms.specs.declared.outcome.Yield.TheVariants as yield
use Rattle.machine_terms.specs.Segments.{segment}
use Rattle.board_terms.specs.declared.operation.Activity.{Activity}
use Rattle.board_terms.specs.declared.operation.Activity.TheVariants as activity
use Rattle.board_terms.specs.declared.operation.Ending.TheVariants.{Broken}
use Rattle.board_terms.specs.declared.operation.Operation.{Operation}
use Rattle.board_terms.specs.declared.operation.Wait.TheVariants as wait
use Rattle.board_terms.specs.Calls.{called_in, caller_of, needs_of}
use Rattle.board_terms.specs.Gives.{with_parts}
use Rattle.board_terms.specs.States.{State, called_by, no_operation, operation_at}
use Rattle.board_facts.proofs.Lists.{set_twice}
use Rattle.changed_trees.specs.Given.{yielded_by}
use Rattle.changed_trees.proofs.One.{one_changed}
use Rattle.called_trees.proofs.Covering.{all_covered}
use Rattle.called_trees.proofs.Graph.{covered_knots, issued_set, knot_stays}
use Rattle.called_trees.proofs.Issuing.{all_issued, children_from}
use Rattle.called_trees.proofs.Last.{knot_last, row_last}
use Rattle.called_trees.proofs.Calling.{NewCall, frame_of}
use Rattle.called_trees.proofs.Table as table

module _ (job : Job) (s : State) (k : ℕ) (v : List ℕ) (name : ℕ → ℕ) (depth : ℕ) (within : k < length s.operations) (there : k < length s.waits.knots)
    (known : length s.waits.knots ≡ length s.operations) (unfailed : has_failed (Some (knot_at s.waits.knots k).stage) ≡ false) (before : Before)
    (cs : List CallOut) (calls : (segment before).ends ≡ yield.Calls cs) where
  abbrev left : Operation
  left = table.left job s k within before

  abbrev given : State
  given = table.given job s k within before

  abbrev pub news : List NewCall
  news = table.new_calls job s k within before cs

  abbrev fs : List Frame
  fs = table.begin job k v name depth news

  abbrev ns : List Needs
  ns = needs_of fs

  abbrev was : Knot
  was = knot_at s.waits.knots k

  -- ---- the table before the calls, and behind them

  abbrev row : Operation
  row = record left { wait = wait.Nothing }

  abbrev parked : Knot
  parked = knot_on s.waits.knots was.parent [] knot.Parked knot.Stopped

  abbrev pub base : State
  base = one_changed s s.tree s.roots (with_parts (segment before).parts s.map) k row parked

  abbrev pub behind : State
  behind = all_covered job k v name depth (all_issued job k v name depth base news) (children_from (length base.operations) news)

  abbrev then : State
  then = record base {
    operations = table.issued_rows job k v name depth base news;
    waits = covered_each k ns (issued_each s.tree base.waits (number k) ns) (length base.operations);
  }

  base_long : length base.operations ≡ length s.operations
  base_long = length-set s.operations k row

  behind_is : behind ≡ then
  behind_is =
      ap (λ z. all_covered job k v name depth z (children_from (length base.operations) news))
      (table.issued_at_once job k v name depth news base (omega (arith, within, base_long)))
      ∙ table.covered_at_once job k v name depth news (length base.operations)
      (record base { operations = table.issued_rows job k v name depth base news; waits = issued_each s.tree base.waits (number k) ns })

  abbrev last_of : State → Bool → State
  last_of z q = one_changed z z.tree z.roots z.map k (row_last z k q) (knot_last z k was q)

  -- ---- the rows

  abbrev tail : List Operation
  tail = map (called_by (number k)) fs

  abbrev caller : ℕ → ℕ → Activity → Operation
  caller n m st = record left { children = left.children ++ map number (counted_from n m); wait = wait.Nothing; activity = st }

  abbrev issuing : Operation
  issuing = record (operation_at base k) { children = (operation_at base k).children ++ map number (counted_from (length base.operations) (length news)) }

  base_row : operation_at base k ≡ row
  base_row = get_or-set_same s.operations k row no_operation within

  then_row : operation_at then k ≡ issuing
  then_row =
      get_or_append_left (set base.operations k issuing) tail no_operation k (let e = length-set base.operations k issuing in omega (arith, e, base_long, within))
      ∙ get_or-set_same base.operations k issuing no_operation (omega (arith, base_long, within))

  table_rows : (st : Activity) → set given.operations k (caller_of given (operation_at given k) fs st) ++ tail ≡ set s.operations k (caller (length s.operations) (length news) st) ++ tail
  table_rows st =
      (λ i. set given.operations k (caller_of given (table.given_row job s k within before i) fs st) ++ tail)
      ∙ (λ i. set given.operations k (caller (length-set s.operations k left i) (length-map news (frame_of job depth) i) st) ++ tail)
      ∙ ap (λ xs. xs ++ tail) (set_twice s.operations k left (caller (length s.operations) (length news) st))

  last_rows : (st : Activity) → set then.operations k (record (operation_at then k) { activity = st }) ≡ set s.operations k (caller (length s.operations) (length news) st) ++ tail
  last_rows st =
      (λ i. set then.operations k (record (then_row i) { activity = st }))
      ∙ set-append_left (set base.operations k issuing) tail k (record issuing { activity = st }) (let e = length-set base.operations k issuing in omega (arith, e, base_long, within))
      ∙ ap (λ xs. xs ++ tail) (set_twice base.operations k issuing (record issuing { activity = st }) ∙ set_twice s.operations k row (record issuing { activity = st }))
      ∙ (λ i. set s.operations k (record (base_row i) { children = (base_row i).children ++ map number (counted_from (base_long i) (length news)); activity = st }) ++ tail)

  -- ---- the graph

  abbrev issued : Waits
  issued = issued_each s.tree s.waits (number k) ns

  abbrev listing : List Listed
  listing = (covered_each k ns issued (length s.waits.knots)).listing

  table_waits : covered_each k ns issued (length s.waits.knots) ≡ record { knots = issued.knots; listing = listing }
  table_waits = covered_knots k ns issued.knots issued.knots issued.listing (length s.waits.knots)

  then_waits : then.waits ≡ record { knots = set issued.knots k parked; listing = listing }
  then_waits =
      ap (λ w. covered_each k ns w (length base.operations)) (issued_set s.tree (number k) k ns s.waits.knots s.waits.listing parked there (sym unfailed))
      ∙ covered_knots k ns (set issued.knots k parked) issued.knots issued.listing (length base.operations)
      ∙ ap (λ m. record { knots = set issued.knots k parked; listing = (covered_each k ns issued m).listing }) (base_long ∙ sym known)

  stays : knot_at issued.knots k ≡ was
  stays = knot_stays s.tree (number k) k ns s.waits.knots s.waits.listing there

  by_all : (q : Bool) → called_in given k fs q ≡ last_of then q
  by_all true =
      (λ i. record given {
        operations = (table_rows activity.Idle ∙ sym (last_rows activity.Idle)) i;
        waits = parked_on (table_waits i) k [];
      })
      ∙ (λ i. record (last_of then true) { waits = record { knots = set issued.knots k (record { parent = (stays i).parent; on = []; stage = knot.Parked }); listing = listing } })
      ∙ (λ i. record (last_of then true) { waits = sym then_waits i })
      ∙ (λ i. record (last_of then true) { waits = record { knots = sym (set-get_or then.waits.knots k no_knot) i; listing = then.waits.listing } })
  by_all false =
      (λ i. record given {
        operations = (table_rows (activity.Closing Broken) ∙ sym (last_rows (activity.Closing Broken))) i;
        waits = table_waits i;
      })
      ∙ (λ i. record (last_of then false) { waits = record { knots = sym (set-get_or issued.knots k no_knot) i; listing = listing } })
      ∙ (λ i. record (last_of then false) { waits = record { knots = set issued.knots k (stays i); listing = listing } })
      ∙ (λ i. record (last_of then false) { waits = record { knots = sym (set_twice issued.knots k parked was) i; listing = listing } })
      ∙ (λ i. record (last_of then false) { waits = record { knots = set (sym then_waits i).knots k was; listing = (sym then_waits i).listing } })

  module _ (frames_are : table.frames job s k within before cs calls ≡ fs) where
    pub finished : yielded_by job s k before ≡ last_of behind (length news == length cs)
    finished =
        table.called_is job s k within before cs calls
        ∙ ap (λ xs. called_in given k xs (length xs == length cs)) frames_are
        ∙ ap (λ n. called_in given k fs (n == length cs)) (length-map news (frame_of job depth))
        ∙ by_all (length news == length cs)
        ∙ sym (ap (λ z. last_of z (length news == length cs)) behind_is)
