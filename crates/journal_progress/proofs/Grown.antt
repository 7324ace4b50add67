-- What an operation needs while its own work goes on: what it was issued with, and what it made; step by step.
use Rattle.std.proofs.Common.{◌≡◌, ◌<◌, ◌+◌, ◌++◌, ◌∷◌, ◌∙◌, ⊎_elim, ℕ, zero, suc, List, Some, [], ap, append-nil, append_assoc, arith, inl, inr, length, map, refl, set, subst, sym, true}
use Rattle.std.specs.Prelude.{get_or, slice_get}
use Rattle.std.specs.List.{Contains}
use Rattle.std.proofs.lemmas.Bool.{false≢true}
use Rattle.std.proofs.lemmas.List.{get_or-append-add, get_or-set_other, get_or-set_same, get_or_append_left, length-set}
use Rattle.std.proofs.lemmas.List.Elements.{All-append, All-nil, All-weaker}
use Rattle.std.proofs.lemmas.Option.{none-some, same_Some}
use Rattle.region_finder.specs.Listings.{Listed}
use Rattle.region_tree.specs.declared.needs.Need.{Need}
use Rattle.region_tree.specs.declared.tree.OpNumber.{OpNumber}
use Rattle.dependence_graph.specs.Knots.{is_idle, knot_at, number}
use Rattle.dependence_graph.specs.declared.stage.Stage.{Stage as Knotted}
use Rattle.dependence_graph.specs.declared.stage.Stage.TheVariants as knot
use Rattle.task_code.specs.declared.job.Job.{Job}
use Rattle.machine_terms.specs.declared.frame.Frame.{Frame}
use Rattle.board_rules.specs.NumberedBoards.{Board}
use Rattle.regent_boards.specs.RegentMachine.{regent_ground}
use Rattle.code_boards.specs.Views.{spaces_of}
use Rattle.board_terms.specs.declared.operation.Activity.{Activity}
use Rattle.board_terms.specs.declared.operation.Activity.TheVariants as activity
use Rattle.board_terms.specs.declared.operation.Operation.{Operation}
use Rattle.board_terms.specs.declared.operation.Wait.{Wait}
use Rattle.board_terms.specs.Stages.{stage_at, stage_of}
use Rattle.board_terms.specs.States.{State, called_by, no_operation, operation_at}
use Rattle.board_trees.specs.Shows.{ShowsBoard}
use Rattle.board_trees.proofs.Kept.{by_number}
use Rattle.claimed_trees.proofs.Claim.{idle_told}
use Rattle.journal_progress.specs.Laws.{NeedsBeside, WasIssued, is_working}
use Rattle.journal_progress.proofs.Frames.{IsNew, Leaves, NeedsGrow, NeedsLeft, OwnGrow, has_work}
use Rattle.journal_progress.proofs.Places.{Placed, placed}
use Rattle.journal_progress.proofs.Siblings.{is_open}
use Rattle.journal_progress.proofs.Stepped.{Stepped}

-- ---- lists in which one is set, and more stand behind

module _ (os : List Operation) (k : ℕ) (n : Operation) (more : List Operation) where
  pub now_there : k < length os → get_or (set os k n ++ more) k no_operation ≡ n
  now_there l = get_or_append_left (set os k n) more no_operation k (subst (λ m. k < m) (sym (length-set os k n)) l) ∙ get_or-set_same os k n no_operation l

  pub other_there : (j : ℕ) → ¬ (j ≡ k) → j < length os → get_or (set os k n ++ more) j no_operation ≡ get_or os j no_operation
  other_there j d l = get_or_append_left (set os k n) more no_operation j (subst (λ m. j < m) (sym (length-set os k n)) l) ∙ get_or-set_other os k j n no_operation d

  pub new_there : (i : ℕ) → get_or (set os k n ++ more) (length os + i) no_operation ≡ get_or more i no_operation
  new_there i = ap (λ m. get_or (set os k n ++ more) (m + i) no_operation) (sym (length-set os k n)) ∙ get_or-append-add (set os k n) more i no_operation

called_there : (p : OpNumber) (fs : List Frame) (i : ℕ) (f : Frame) → slice_get fs i ≡ Some f → get_or (map (called_by p) fs) i no_operation ≡ called_by p f
called_there p [] i f e = absurd (none-some f e)
called_there p (x ∷ fs) zero f e = ap (called_by p) (same_Some x f e)
called_there p (x ∷ fs) (suc i) f e = called_there p fs i f e

-- ---- what is so of a state

abbrev pub IsGrown : List Need → Operation → Type 0
IsGrown ns o = NeedsLeft ns o.activity o.frame

abbrev pub AllGrown : State → Type 0
AllGrown s = (k : ℕ) (ns : List Need) → WasIssued s k ns → IsGrown ns (operation_at s k)

-- one whose own work goes on needs what it was issued with
still_grown : (ns : List Need) (o : Operation) → has_work o.activity ≡ true → IsGrown ns o → NeedsGrow ns o.frame
still_grown ns o e g = ⊎_elim (λ q. q) (λ q. absurd (false≢true (sym q.0 ∙ e))) g

grown_on : (ns : List Need) (f g : Frame) → NeedsGrow ns f → OwnGrow f.own g → NeedsGrow f.needs.items g → NeedsGrow ns g
grown_on ns f g (a, e, p) own (c, q, r) = (
  a ++ c,
  q ∙ ap (λ ms. ms ++ c) e ∙ append_assoc ns a c,
  All-append (λ (m : Need). Contains g.own m.root) a c (All-weaker (λ (m : Need). Contains f.own m.root) (λ (m : Need). Contains g.own m.root) (λ m d. own m.root d) a p) r,
)

module _ (job : Job) (s : State) (b : Board (regent_ground (spaces_of job.code))) (h : ShowsBoard job s b) where
  module _ (k : ℕ) (all : AllGrown s) (u : State) (step : Stepped job s b h k u) where
    abbrev leaves : Leaves job s k step.within u
    leaves = step.leaves

    abbrev more : List Operation
    more = map (called_by (number k)) leaves.calls

    at : (j : ℕ) → operation_at u j ≡ get_or (set s.operations k leaves.now ++ more) j no_operation
    at j = ap (λ os. get_or os j no_operation) leaves.operations

    old : (j : ℕ) → j < length s.operations → (ns : List Need) → WasIssued s j ns → IsGrown ns (operation_at u j)
    old = by_number k (λ j. j < length s.operations → (ns : List Need) → WasIssued s j ns → IsGrown ns (operation_at u j))
        (λ l ns was. subst (IsGrown ns) (sym (at k ∙ now_there s.operations k leaves.now more l)) (⊎_elim
        (λ g. inl (grown_on ns (operation_at s k).frame leaves.now.frame (still_grown ns (operation_at s k) step.works (all k ns was)) leaves.own g)) inr leaves.needs))
        (λ j d l ns was. subst (IsGrown ns) (sym (at j ∙ other_there s.operations k leaves.now more j d l)) (all j ns was))

    new : (x : Listed) → IsNew (length s.waits.knots) leaves.calls x → IsGrown x.issued (operation_at u x.op.0)
    new x (i, e, f, q, p) =
        let here : operation_at u x.op.0 ≡ called_by (number k) f = ap (operation_at u) (e ∙ ap (λ m. m + i) h.knots) ∙ at (length s.operations + i)
        ∙ new_there s.operations k leaves.now more i ∙ called_there (number k) leaves.calls i f q in
        subst (IsGrown x.issued) (sym here) (inl ([], p ∙ sym (append-nil x.issued), All-nil (λ (m : Need). Contains f.own m.root)))

    pub grown_behind : AllGrown u
    grown_behind j ns (inl (z, e)) = old j (subst (λ m. m < length s.operations) (sym z) (below step.within)) ns (inl (z, e))
      where
        below : k < length s.operations → 0 < length s.operations
        below l = omega (arith, l)
    grown_behind j ns (inr (x, c, is, e)) = subst (λ ms. IsGrown ms (operation_at u j)) e (subst (λ (o : OpNumber). IsGrown x.issued (operation_at u o.0)) is (⊎_elim
        (λ from. let there = is_open job s b h from.one from.there in
        old x.op.0 (subst (λ (o : OpNumber). o.0 < length s.operations) (sym from.op_is) there.within) x.issued
        (inr (from.one, from.there, sym from.op_is, sym from.issued)))
        (λ r. new x r) (leaves.entries x c)))

  -- ---- one whose own work goes on

  works_by : (kn : Knotted) (w : Wait) (a : Activity) → (is_idle kn ≡ true → a ≡ activity.Idle) → is_working (stage_of kn w a) ≡ true → has_work a ≡ true
  works_by knot.Waiting w a idle e = ap has_work (idle refl)
  works_by knot.Begun w activity.Idle idle e = refl
  works_by knot.Begun w (activity.Filling c f) idle e = refl
  works_by knot.Begun w (activity.Out c f) idle e = refl
  works_by knot.Begun w (activity.Closing x) idle e = absurd (false≢true e)
  works_by knot.Parked w a idle e = ap has_work (idle refl)
  works_by knot.Stopped w a idle e = absurd (false≢true e)
  works_by knot.Done w a idle e = absurd (false≢true e)
  works_by knot.Failed w a idle e = absurd (false≢true e)
  works_by knot.Dropped w a idle e = absurd (false≢true e)

  pub works : (k : ℕ) → k < length s.operations → is_working (stage_at s k) ≡ true → has_work (operation_at s k).activity ≡ true
  works k l e =
      let g : Placed job s b h k = placed job s b h k l in
      works_by (knot_at s.waits.knots k).stage (operation_at s k).wait (operation_at s k).activity
      (λ t. (idle_told job s k 0 h.who b.ways g.there.at g.there.earlier g.there.above g.there.node g.there.shows t).activity_is) e

-- ---- as said in the laws

pub beside : (s : State) (k : ℕ) (ns : List Need) → has_work (operation_at s k).activity ≡ true → IsGrown ns (operation_at s k) → NeedsBeside s k ns
beside s k ns e q = let g = still_grown ns (operation_at s k) e q in record { more = g.0; needs = g.1; of_own = g.2 }
