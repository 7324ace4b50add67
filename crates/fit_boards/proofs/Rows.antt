-- A board where one operation is another: it fits where that one does.
use Rattle.std.proofs.Common.{◌≡◌, ⊎_elim, ℕ, ◌<◌, List, sym, ap, ◌∙◌, subst, arith, length}
use Rattle.std.specs.Prelude.{set, get_or}
use Rattle.std.proofs.lemmas.Bool.{cases_eq, cases_lt}
use Rattle.std.proofs.lemmas.List.{get_or-set_other, get_or-set_same, get_or_past, length-set}
use Rattle.machine_terms.specs.declared.outcome.CallOut.{CallOut}
use Rattle.board_terms.specs.declared.operation.Activity.{Activity}
use Rattle.board_terms.specs.declared.operation.Activity.TheVariants as activity
use Rattle.board_terms.specs.declared.operation.Operation.{Operation}
use Rattle.board_terms.specs.States.{State, no_operation, operation_at}
use Rattle.fit_rules.specs.Shapes.{Shape}
use Rattle.fit_rules.specs.Fits.{Program}
use Rattle.fit_boards.specs.Fitting.{DoesFit, fits_by, Gives, gives_by, Going, MapFits, OperationFits, StateFits}
use Rattle.fit_boards.proofs.Staying.{calls_same, known_stay, needs_stay, NodesStay, results_stay, RootsStay, state_fits, Stays}

-- ---- one row

-- an operation that does something is there
abbrev pub IsBusy : Activity → Type 0
IsBusy activity.Idle = ⊥
IsBusy a = Unit {0}

pub within_by : (s : State) (k : ℕ) → IsBusy (operation_at s k).activity → k < length s.operations
within_by s k busy = ⊎_elim (λ l. l)
    (λ m. absurd (subst (λ (o : Operation). IsBusy o.activity) (get_or_past s.operations k no_operation m) busy)) (cases_lt k (length s.operations))

module _ (g : Program) (log : List CallOut) (s u : State) (k : ℕ) (o : Operation) (within : k < length s.operations) (rows : u.operations ≡ set s.operations k o)
    (nodes : NodesStay s.tree u.tree) (roots : RootsStay s.roots u.roots) (gives : (sh : Shape) → Gives g sh (operation_at s k) → Gives g sh o) where
  row_is : operation_at u k ≡ o
  row_is = ap (λ os. get_or os k no_operation) rows ∙ get_or-set_same s.operations k o no_operation within

  row_old : (j : ℕ) → ¬ (j ≡ k) → operation_at u j ≡ operation_at s j
  row_old j n = ap (λ os. get_or os j no_operation) rows ∙ get_or-set_other s.operations k j o no_operation n

  long_as : length u.operations ≡ length s.operations
  long_as = ap length rows ∙ length-set s.operations k o

  pub one_stays : Stays g log log s u
  one_stays = record {
    calls = calls_same log;
    nodes = nodes;
    roots = roots;
    gives = λ j l. (
      omega (arith, long_as, l),
      λ sh h. ⊎_elim
          (λ e. subst (λ n. Gives g sh (operation_at u n)) (sym e)
          (subst (λ (q : Operation). Gives g sh q) (sym row_is) (gives sh (subst (λ n. Gives g sh (operation_at s n)) e h))))
          (λ n. subst (λ (q : Operation). Gives g sh q) (sym (row_old j n)) h) (cases_eq j k),
    );
  }

  pub one_fits : StateFits g log s → u.tree.roots ≡ length u.roots → MapFits g u.roots u.map → OperationFits g log u k o → StateFits g log u
  one_fits fits counted map here = state_fits g log log s u one_stays fits (fits.issued ∙ sym long_as) k counted map (λ j l n. row_old j n)
      (subst (λ (q : Operation). OperationFits g log u k q) (sym row_is) here)
      (λ j l m. absurd (omega (arith, long_as, l, m)))

-- ---- what it gives

-- as long as its own work hasn't ended
abbrev pub IsOpen : Activity → Type 0
IsOpen (activity.Closing e) = ⊥
IsOpen a = Unit {0}

by_results : (g : Program) (sh : Shape) (k : ℕ) (a : Activity) → IsOpen a → gives_by g sh k a → sh ≡ g.results k
by_results g sh k activity.Idle o h = h
by_results g sh k (activity.Filling c fill) o h = h
by_results g sh k (activity.Out c b) o h = h
by_results g sh k (activity.Closing e) o h = absurd o

results_by : (g : Program) (sh : Shape) (k : ℕ) (a : Activity) → IsOpen a → sh ≡ g.results k → gives_by g sh k a
results_by g sh k activity.Idle o h = h
results_by g sh k (activity.Filling c fill) o h = h
results_by g sh k (activity.Out c b) o h = h
results_by g sh k (activity.Closing e) o h = absurd o

pub results_of : (g : Program) (sh : Shape) (o : Operation) → IsOpen o.activity → Gives g sh o → sh ≡ g.results o.frame.task
results_of g sh o a h = by_results g sh o.frame.task o.activity a h.1

-- one that goes on gives what it gave
pub open_gives : (g : Program) (sh : Shape) (o q : Operation) → IsOpen o.activity → IsOpen q.activity → q.frame.task ≡ o.frame.task → Gives g sh o → Gives g sh q
open_gives g sh o q a b e h = (h.0, results_by g sh q.frame.task q.activity b (results_of g sh o a h ∙ ap g.results (sym e)))

-- ---- what it does

pub going_open : (g : Program) (log : List CallOut) (s : State) (k : ℕ) (o : Operation) (a : Activity) → IsOpen a → fits_by g log s k o a → Going g log s k o
going_open g log s k o activity.Idle b h = h
going_open g log s k o (activity.Filling c fill) b h = h
going_open g log s k o (activity.Out c before) b h = h
going_open g log s k o (activity.Closing e) b h = absurd b

pub open_fits : (g : Program) (log : List CallOut) (s : State) (k : ℕ) (o : Operation) (a : Activity) → Going g log s k o → fits_by g log s k o a
open_fits g log s k o activity.Idle h = h
open_fits g log s k o (activity.Filling c fill) h = h
open_fits g log s k o (activity.Out c before) h = h
open_fits g log s k o (activity.Closing e) h = tt

-- one that does something else, and is as it was
pub now_does : (g : Program) (log : List CallOut) (s u : State) → Stays g log log s u → (k : ℕ) (o : Operation) (a : Activity) (h : Going g log s k o) →
    DoesFit g h.world h.task (record o { activity = a }) a → Going g log u k (record o { activity = a })
now_does g log s u stays k o a h does =
    let needs = needs_stay s.tree u.tree stays.nodes o.frame.needs.items h.nodes in record {
      world = h.world;
      task = h.task;
      there = h.there;
      call = h.call;
      issued = h.issued;
      named = h.named;
      args = h.args;
      roots = known_stay g log log s u stays h.world h.roots;
      nodes = needs.0;
      required = needs.1 ∙ h.required;
      once = h.once;
      count = h.count;
      results = results_stay g log log s u stays o.children h.world.children h.world.results h.results;
      waits = h.waits;
      does = does;
    }
