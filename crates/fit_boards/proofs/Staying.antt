-- What an operation is that fits stays so where others change.
use Rattle.std.proofs.Common.{◌≡◌, ⊎_elim, ℕ, zero, suc, ◌<◌, ◌≤◌, List, [], ◌∷◌, ◌++◌, None, Option, Some, length, map, refl, subst, sym, true, ◌∙◌}
use Rattle.std.specs.Prelude.{slice_get}
use Rattle.std.proofs.lemmas.Bool.{cases_eq, cases_lt}
use Rattle.std.proofs.lemmas.Option.{none-some}
use Rattle.region_tree.specs.Needs.{requirements_of}
use Rattle.region_tree.specs.Trees.{RegionTree, set_at}
use Rattle.region_tree.specs.declared.needs.Need.{Need}
use Rattle.region_tree.specs.declared.tree.OpNumber.{OpNumber}
use Rattle.machine_terms.specs.declared.outcome.CallOut.{CallOut}
use Rattle.board_terms.specs.declared.extent.Extent.{Extent}
use Rattle.board_terms.specs.declared.operation.Activity.{Activity}
use Rattle.board_terms.specs.declared.operation.Activity.TheVariants as activity
use Rattle.board_terms.specs.declared.operation.Operation.{Operation}
use Rattle.board_terms.specs.States.{State, operation_at}
use Rattle.fit_rules.specs.Shapes.{Each, Shape, World}
use Rattle.fit_rules.specs.Fits.{Program}
use Rattle.fit_boards.specs.Fitting.{ChildGives, fits_by, Gives, Going, IsRootOf, MapFits, OperationFits, points_at, space_at, StateFits}

-- the regions that were there are, with their points
abbrev pub NodesStay : RegionTree → RegionTree → Type 0
NodesStay t v = (n : ℕ) → n < length t.nodes → (n < length v.nodes) × (set_at v n ≡ set_at t n)

-- the roots that were made are, of their field spaces and with their points
abbrev pub RootsStay : List Extent → List Extent → Type 0
RootsStay es fs = (r : ℕ) → r < length es → (r < length fs) × (space_at fs r ≡ space_at es r) × (points_at fs r ≡ points_at es r)

-- the calls by which operations were issued stay
abbrev pub CallsStay : List CallOut → List CallOut → Type 0
CallsStay log more = (n : ℕ) (c : CallOut) → slice_get log n ≡ Some c → slice_get more n ≡ Some c

pub calls_same : (log : List CallOut) → CallsStay log log
calls_same log n c e = e

pub calls_more : (log more : List CallOut) → CallsStay log (log ++ more)
calls_more [] more n c e = absurd (none-some c e)
calls_more (d ∷ log) more zero c e = e
calls_more (d ∷ log) more (suc n) c e = calls_more log more n c e

pub record Stays (g : Program) (log more : List CallOut) (s u : State) : Type 0 where
  pub calls : CallsStay log more
  pub nodes : NodesStay s.tree u.tree
  pub roots : RootsStay s.roots u.roots
  pub gives : (k : ℕ) → k < length s.operations → (k < length u.operations) × ((sh : Shape) → Gives g sh (operation_at s k) → Gives g sh (operation_at u k))

pub nodes_same : (t : RegionTree) → NodesStay t t
nodes_same t n l = (l, refl)

pub roots_same : (es : List Extent) → RootsStay es es
roots_same es r l = (l, refl, refl)

-- ---- needs

pub needs_stay : (t v : RegionTree) → NodesStay t v → (ns : List Need) → Each (λ (n : Need). n.node.0 < length t.nodes) ns →
    Each (λ (n : Need). n.node.0 < length v.nodes) ns × (requirements_of v ns ≡ requirements_of t ns)
needs_stay t v h [] a = (tt, refl)
needs_stay t v h (n ∷ ns) a =
    let one = h n.node.0 a.0 in
    let more = needs_stay t v h ns a.1 in (
      (one.0, more.0),
      (λ i. record { root = n.root.0; points = one.1 i; field = n.field; mode = n.mode } ∷ more.1 i),
    )

-- ---- one operation

module _ (g : Program) (log more : List CallOut) (s u : State) (stays : Stays g log more s u) where
  child_stays : (sh : Shape) (c : Option OpNumber) → ChildGives g log s sh c → ChildGives g more u sh c
  child_stays sh None h = h
  child_stays sh (Some c) (low, gives, (d, issued, same)) = let new = stays.gives c.0 low in (new.0, new.1 sh gives, (d, stays.calls c.0 d issued, same))

  pub results_stay : (cs : List OpNumber) (many : ℕ) (shapes : ℕ → Shape) → ((n : ℕ) → n < many → ChildGives g log s (shapes n) (slice_get cs n)) →
      (n : ℕ) → n < many → ChildGives g more u (shapes n) (slice_get cs n)
  results_stay cs many shapes h n l = child_stays (shapes n) (slice_get cs n) (h n l)

  pub known_stay : (x : World) → ((r : ℕ) → x.there r ≡ true → IsRootOf s.roots x r) → (r : ℕ) → x.there r ≡ true → IsRootOf u.roots x r
  known_stay x h r e =
      let old = h r e in
      let new = stays.roots r old.0 in (new.0, old.1 ∙ sym new.1, old.2 ∙ sym new.2)

  pub going_stays : (k : ℕ) (o : Operation) → Going g log s k o → Going g more u k o
  going_stays k o a =
      let needs = needs_stay s.tree u.tree stays.nodes o.frame.needs.items a.nodes in record {
        world = a.world;
        task = a.task;
        there = a.there;
        call = a.call;
        issued = stays.calls k a.call a.issued;
        named = a.named;
        args = a.args;
        roots = known_stay a.world a.roots;
        nodes = needs.0;
        required = needs.1 ∙ a.required;
        once = a.once;
        count = a.count;
        results = results_stay o.children a.world.children a.world.results a.results;
        waits = a.waits;
        does = a.does;
      }

  pub fits_stay : (k : ℕ) (o : Operation) (a : Activity) → fits_by g log s k o a → fits_by g more u k o a
  fits_stay k o activity.Idle h = going_stays k o h
  fits_stay k o (activity.Filling c fill) h = going_stays k o h
  fits_stay k o (activity.Out c b) h = going_stays k o h
  fits_stay k o (activity.Closing e) h = h

  -- ---- a board where one operation changes, and others come behind all

  pub state_fits : StateFits g log s → length more ≡ length u.operations → (k : ℕ) → u.tree.roots ≡ length u.roots → MapFits g u.roots u.map →
      ((j : ℕ) → j < length s.operations → ¬ (j ≡ k) → operation_at u j ≡ operation_at s j) →
      OperationFits g more u k (operation_at u k) →
      ((j : ℕ) → length s.operations ≤ j → j < length u.operations → OperationFits g more u j (operation_at u j)) → StateFits g more u
  state_fits fits issued k counted map others here behind = record { issued = issued; counted = counted; map = map; operations = one }
    where
      one : (j : ℕ) → j < length u.operations → OperationFits g more u j (operation_at u j)
      one j l = ⊎_elim
          (λ old. ⊎_elim
          (λ e. subst (λ n. OperationFits g more u n (operation_at u n)) (sym e) here)
          (λ n. subst (λ (o : Operation). OperationFits g more u j o) (sym (others j old n)) (fits_stay j (operation_at s j) (operation_at s j).activity (fits.operations j old)))
          (cases_eq j k))
          (λ new. behind j new l) (cases_lt j (length s.operations))
