-- A board on which an operation isn't over has no outcome.
use Rattle.std.proofs.Common.{◌≡◌, ◌<◌, ◌≤◌, ◌∙◌, ◌+◌, ◌&&◌, ◌==◌, ℕ, zero, suc, Bool, true, false, [], None, Some, ap, arith, cond, inl, inr, length, refl, sym}
use Rattle.std.specs.List.{list_all}
use Rattle.std.proofs.lemmas.Bool.{cases_lt, false≢true}
use Rattle.std.proofs.lemmas.Bool.Decides.{eqb_tells}
use Rattle.std.proofs.lemmas.List.{get_or-set_same, length-set}
use Rattle.logical_map.specs.Fills.{chunk_moved, elements_of}
use Rattle.plain_values.specs.Points.{counted_from}
use Rattle.dependence_graph.specs.Entries.{Knot}
use Rattle.dependence_graph.specs.Graphs.{knot_on}
use Rattle.dependence_graph.specs.Knots.{all_done, is_idle, knot_at, no_knot}
use Rattle.dependence_graph.specs.declared.stage.Stage.{Stage as Knotted}
use Rattle.dependence_graph.specs.declared.stage.Stage.TheVariants as knot
use Rattle.board_terms.specs.declared.operation.Activity.{Activity}
use Rattle.board_terms.specs.declared.operation.Activity.TheVariants as activity
use Rattle.board_terms.specs.declared.operation.Wait.{Wait}
use Rattle.board_terms.specs.declared.operation.Wait.TheVariants as wait
use Rattle.board_terms.specs.declared.operation.Operation.{Operation}
use Rattle.board_terms.specs.Claims.{before_of, claim_made, taken_back}
use Rattle.board_terms.specs.Outcomes.{outcome, result}
use Rattle.board_terms.specs.Stages.{is_over, may_be_claimed, stage_at, stage_of}
use Rattle.board_terms.specs.States.{State, no_operation, operation_at}
use Rattle.board_state.specs.Kept.{IsKept, is_claimed}
use Rattle.board_state.specs.Steps.{copied_activity, copy_made, is_filling}
use Rattle.task_code.specs.declared.code.Code.{Code}
use Rattle.board_state.proofs.Claims.{claim_kept, claimed_there, ready_there}
use Rattle.board_state.proofs.Copies.{copy_kept, filling_claimed}

-- ---- all of some numbers

fails_at_head : (b c : Bool) → b ≡ false → (b && c) ≡ false
fails_at_head false c e = refl
fails_at_head true c e = absurd (false≢true (sym e))

fails_behind : (b c : Bool) → c ≡ false → (b && c) ≡ false
fails_behind false c e = refl
fails_behind true c e = e

not_all_from : (p : ℕ → Bool) (k first n : ℕ) → first ≤ k → k < first + n → p k ≡ false → list_all p (counted_from first n) ≡ false
not_all_from p k first zero a b f = absurd (omega (arith, a, b))
not_all_from p k first (suc n) a b f = elim (eqb_tells first k) [
  | inl h ↦ fails_at_head (p first) (list_all p (counted_from (suc first) n)) (ap p h.1 ∙ f)
  | inr h ↦ fails_behind (p first) (list_all p (counted_from (suc first) n))
      (not_all_from p k (suc first) n (above first k a h.1) (omega (arith, b)) f)
]
  where
    above : (m j : ℕ) → m ≤ j → (m ≡ j → ⊥) → suc m ≤ j
    above m j l other = elim (cases_lt m j) [ inl b ↦ omega (arith, b) | inr g ↦ absurd (other (omega (arith, l, g))) ]

-- an operation isn't over
pub unfinished : (s : State) (k : ℕ) → k < length s.operations → is_over (stage_at s k) ≡ false → result s ≡ None
unfinished s k b e =
    ap (λ (x : Bool). cond x (Some (outcome s)) None)
    (not_all_from (λ j. is_over (stage_at s j)) k 0 (length s.operations) (omega arith) (omega (arith, b)) e)

-- ---- operations that aren't over

begun_open : (x : Knotted) (w : Wait) (a : Activity) → x ≡ knot.Begun → is_over (stage_of x w a) ≡ false
begun_open x w a e = ap (λ (y : Knotted). is_over (stage_of y w a)) e ∙ by a
  where
    by : (b : Activity) → is_over (stage_of knot.Begun w b) ≡ false
    by (activity.Filling c f) = refl
    by (activity.Out c d) = refl
    by activity.Idle = refl
    by (activity.Closing d) = refl

parked_open : (w : Wait) (a : Activity) → is_over (stage_of knot.Parked w a) ≡ false
parked_open wait.Beginning a = refl
parked_open wait.Nothing a = refl
parked_open (wait.Part root field) a = refl
parked_open (wait.Child n) a = refl

idle_open : (x : Knotted) (w : Wait) (a : Activity) → is_idle x ≡ true → is_over (stage_of x w a) ≡ false
idle_open knot.Waiting w a e = refl
idle_open knot.Parked w a e = parked_open w a
idle_open knot.Begun w a e = absurd (false≢true e)
idle_open knot.Stopped w a e = absurd (false≢true e)
idle_open knot.Done w a e = absurd (false≢true e)
idle_open knot.Failed w a e = absurd (false≢true e)
idle_open knot.Dropped w a e = absurd (false≢true e)

and_first : (a b : Bool) → (a && b) ≡ true → a ≡ true
and_first true b e = refl
and_first false b e = e

-- one that is ready
pub ready_open : (s : State) (k : ℕ) → IsKept s → may_be_claimed s k ≡ true → result s ≡ None
ready_open s k kept r = unfinished s k (ready_there s k kept r)
    (idle_open (knot_at s.waits.knots k).stage (operation_at s k).wait (operation_at s k).activity
    (and_first (is_idle (knot_at s.waits.knots k).stage) (all_done s.waits.knots (knot_at s.waits.knots k).on) r))

-- one that a seat has
pub claimed_open : (s : State) (k : ℕ) → IsKept s → is_claimed (operation_at s k).activity ≡ true → result s ≡ None
claimed_open s k kept c = unfinished s k (claimed_there s k c)
    (begun_open (knot_at s.waits.knots k).stage (operation_at s k).wait (operation_at s k).activity (kept.begun k c))

-- ---- behind steps

pub claim_open : (s : State) (k seat : ℕ) → IsKept s → may_be_claimed s k ≡ true → result (claim_made s k seat) ≡ None
claim_open s k seat kept r = claimed_open (claim_made s k seat) k (claim_kept s k seat kept r)
    (ap (λ (o : Operation). is_claimed o.activity) (get_or-set_same s.operations k _ no_operation (ready_there s k kept r)))

copied_claimed : (code : Code) (s : State) (o : Operation) (a : Activity) → is_filling a ≡ true → is_claimed (copied_activity code s o a) ≡ true
copied_claimed code s o (activity.Filling c None) h = refl
copied_claimed code s o (activity.Filling c (Some f)) h = either ((chunk_moved s.map f).moved == elements_of (chunk_moved s.map f).pieces)
  where
    either : (b : Bool) → is_claimed (cond b (activity.Out c (before_of code s o (Some (chunk_moved s.map f)))) (activity.Filling c (Some (chunk_moved s.map f)))) ≡ true
    either true = refl
    either false = refl
copied_claimed code s o (activity.Out c d) h = refl
copied_claimed code s o activity.Idle h = h
copied_claimed code s o (activity.Closing e) h = h

pub copy_open : (code : Code) (s : State) (k : ℕ) → IsKept s → is_filling (operation_at s k).activity ≡ true → result (copy_made code s k) ≡ None
copy_open code s k kept h = claimed_open (copy_made code s k) k (copy_kept code s k kept h)
    (ap (λ (o : Operation). is_claimed o.activity)
    (get_or-set_same s.operations k _ no_operation (claimed_there s k (filling_claimed (operation_at s k).activity h)))
    ∙ copied_claimed code s (operation_at s k) (operation_at s k).activity h)

pub back_open : (s : State) (k : ℕ) → IsKept s → is_claimed (operation_at s k).activity ≡ true → result (taken_back s k) ≡ None
back_open s k kept c =
    let here = claimed_there s k c in
    let o = operation_at (taken_back s k) k in
    let there : k < length s.waits.knots = omega (arith, here, kept.counted) in
    let counted : length (taken_back s k).operations ≡ length s.operations = length-set s.operations k _ in
    unfinished (taken_back s k) k (omega (arith, here, counted))
    (ap (λ (x : Knot). is_over (stage_of x.stage o.wait o.activity))
    (get_or-set_same s.waits.knots k (knot_on s.waits.knots (knot_at s.waits.knots k).parent [] knot.Parked knot.Stopped) no_knot there)
    ∙ parked_open o.wait o.activity)
