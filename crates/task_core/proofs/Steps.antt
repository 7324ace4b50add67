-- What a board keeps behind each step.
use Rattle.std.specs.Prelude.{◌||◌}
use Rattle.std.proofs.Common.{◌≡◌, ◌<◌, ◌≤◌, ◌∙◌, ◌+◌, ◌&&◌, ◌==◌, ◌++◌, ℕ, Bool, true, false, List, [], ◌∷◌, None, Option, Some, ap, arith, cond, inl, inr, refl, subst, suc, sym, ◌-◌}
use Rattle.std.proofs.lemmas.Bool.{false≢true}
use Rattle.std.proofs.lemmas.Bool.Decides.{eqb_tells}
use Rattle.regent_tree.specs.declared.outcome.Outcome.{Outcome}
use Rattle.region_tree.specs.declared.tree.OpNumber.{OpNumber}
use Rattle.task_code.specs.declared.code.Code.{Code}
use Rattle.task_code.specs.declared.job.Job.{Job}
use Rattle.run_journal.specs.declared.entry.Entry.{Entry}
use Rattle.run_journal.specs.declared.entry.StepKind.TheVariants as step
use Rattle.board_terms.specs.declared.claim.Claim.{Claim}
use Rattle.board_terms.specs.declared.operation.Activity.{Activity}
use Rattle.board_terms.specs.declared.operation.Activity.TheVariants as activity
use Rattle.board_terms.specs.Claims.{back_in, claim_made, copied_in, fill_for, taken_back}
use Rattle.board_terms.specs.Outcomes.{result}
use Rattle.board_terms.specs.Replays.{on_state, replay, replay_from, stepped}
use Rattle.board_terms.specs.Stages.{may_be_claimed}
use Rattle.board_terms.specs.States.{State, doing, operation_at}
use Rattle.board_state.specs.Kept.{IsKept, is_claimed}
use Rattle.board_state.specs.Owed.{copies_left, owed_by, owed_of}
use Rattle.board_state.specs.Steps.{copied_activity, copy_made, is_filled_by, is_filling, is_out_by, same_claim}
use Rattle.board_state.proofs.OwedSteps.{back_owed, claim_owed, copy_owed}
use Rattle.task_core.proofs.Finished.{back_open, claim_open, claimed_open, copy_open, ready_open}
use Rattle.task_core.specs.Boards.{HasMade, IsBoard, Standing, step_by}

-- ---- one step more

replay_behind : (job : Job) (o : Option State) (es : List Entry) (e : Entry) →
    replay_from job o (es ++ e ∷ []) ≡ on_state (replay_from job o es) (λ s. stepped job s e)
replay_behind job o [] e = refl
replay_behind job o (x ∷ xs) e = replay_behind job (on_state o (λ s. stepped job s x)) xs e

pub replay_more : (job : Job) (es : List Entry) (e : Entry) (s t : State) → replay job es ≡ Some s → stepped job s e ≡ Some t →
    replay job (es ++ e ∷ []) ≡ Some t
replay_more job es e s t r m =
    replay_behind job _ es e ∙ ap (λ (o : Option State). on_state o (λ u. stepped job u e)) r ∙ m

pub board_behind : (job : Job) (es : List Entry) (s t : State) (outcome : Option Outcome) (owed left : ℕ) (e : Entry) →
    IsBoard job es s outcome owed → stepped job s e ≡ Some t → result s ≡ None → result t ≡ None → left ≡ owed_by t.operations →
    IsBoard job (es ++ e ∷ []) t outcome left
board_behind job es s t outcome owed left e b m u v l = record {
  replayed = replay_more job es e s t b.replayed m;
  told = b.told ∙ u ∙ sym v;
  owes = l;
}

-- ---- each step

pub claim_stepped : (job : Job) (s : State) (op : OpNumber) (seat : ℕ) → may_be_claimed s op.0 ≡ true →
    stepped job s (step_by step.Claim op seat) ≡ Some (claim_made s op.0 seat)
claim_stepped job s op seat r = ap (λ (b : Bool). cond b (Some (claim_made s op.0 seat)) None) r

and_second : (a b : Bool) → (a && b) ≡ true → b ≡ true
and_second true b e = e
and_second false b e = absurd (false≢true e)

and_first : (a b : Bool) → (a && b) ≡ true → a ≡ true
and_first true b e = refl
and_first false b e = e

turned : (m n : ℕ) → (m == n) ≡ true → (n == m) ≡ true
turned m n e = elim (eqb_tells m n) [
  | inl h ↦ ap (λ (x : ℕ). x == m) (sym h.1) ∙ ap (λ (x : ℕ). m == x) h.1 ∙ e
  | inr h ↦ absurd (false≢true (sym h.0 ∙ e))
]

pub seat_of : (c d : Claim) → same_claim c d ≡ true → (d.seat == c.seat) ≡ true
seat_of c d e = turned c.seat d.seat
    (and_first (c.seat == d.seat) (c.turn == d.turn) (and_second (c.op.0 == d.op.0) ((c.seat == d.seat) && (c.turn == d.turn)) e))

copied_by : (code : Code) (s : State) (k : ℕ) (c : Claim) (a : Activity) → is_filled_by c a ≡ true →
    copied_in code s k c.seat a ≡ Some (doing s k (copied_activity code s (operation_at s k) a))
copied_by code s k c (activity.Filling d f) h =
    ap (λ (b : Bool). cond b (Some (doing s k (copied_activity code s (operation_at s k) (activity.Filling d f)))) None) (seat_of c d h)
copied_by code s k c (activity.Out d b) h = absurd (false≢true h)
copied_by code s k c activity.Idle h = absurd (false≢true h)
copied_by code s k c (activity.Closing e) h = absurd (false≢true h)

pub copy_stepped : (job : Job) (s : State) (c : Claim) → is_filled_by c (operation_at s c.op.0).activity ≡ true →
    stepped job s (step_by step.Copy c.op c.seat) ≡ Some (copy_made job.code s c.op.0)
copy_stepped job s c h = copied_by job.code s c.op.0 c (operation_at s c.op.0).activity h

back_by : (s : State) (k : ℕ) (c : Claim) (a : Activity) → (is_filled_by c a || is_out_by c a) ≡ true →
    back_in s k c.seat a ≡ Some (taken_back s k)
back_by s k c (activity.Filling d f) h = ap (λ (b : Bool). cond b (Some (taken_back s k)) None) (seat_of c d (one_of (same_claim c d) h))
  where
    one_of : (x : Bool) → (x || false) ≡ true → x ≡ true
    one_of true e = refl
    one_of false e = e
back_by s k c (activity.Out d b) h = ap (λ (x : Bool). cond x (Some (taken_back s k)) None) (seat_of c d h)
back_by s k c activity.Idle h = absurd (false≢true h)
back_by s k c (activity.Closing e) h = absurd (false≢true h)

pub back_stepped : (job : Job) (s : State) (c : Claim) →
    (is_filled_by c (operation_at s c.op.0).activity || is_out_by c (operation_at s c.op.0).activity) ≡ true →
    stepped job s (step_by step.Back c.op c.seat) ≡ Some (taken_back s c.op.0)
back_stepped job s c h = back_by s c.op.0 c (operation_at s c.op.0).activity h

-- ---- what that tells of the operation

pub filled_filling : (c : Claim) (a : Activity) → is_filled_by c a ≡ true → is_filling a ≡ true
filled_filling c (activity.Filling d f) h = refl
filled_filling c (activity.Out d b) h = h
filled_filling c activity.Idle h = h
filled_filling c (activity.Closing e) h = h

pub held_claimed : (c : Claim) (a : Activity) → (is_filled_by c a || is_out_by c a) ≡ true → is_claimed a ≡ true
held_claimed c (activity.Filling d f) h = refl
held_claimed c (activity.Out d b) h = refl
held_claimed c activity.Idle h = h
held_claimed c (activity.Closing e) h = h

-- ---- boards behind steps

held_owes : (c : Claim) (a : Activity) → is_filling a ≡ true → is_claimed a ≡ true
held_owes c (activity.Filling d f) h = refl
held_owes c (activity.Out d b) h = refl
held_owes c activity.Idle h = h
held_owes c (activity.Closing e) h = h

pub claim_board : (job : Job) (es new : List Entry) (s t : State) (outcome : Option Outcome) (owed left : ℕ) (op : OpNumber) (seat : ℕ) →
    IsBoard job es s outcome owed → IsKept s → may_be_claimed s op.0 ≡ true → t ≡ claim_made s op.0 seat →
    new ≡ es ++ step_by step.Claim op seat ∷ [] → left ≡ owed + suc (copies_left (fill_for s (operation_at s op.0) (operation_at s op.0).wait)) →
    IsBoard job new t outcome left
claim_board job es new s t outcome owed left op seat b kept r m n l =
    let behind = board_behind job es s (claim_made s op.0 seat) outcome owed left (step_by step.Claim op seat) b (claim_stepped job s op seat r)
    (ready_open s op.0 kept r) (claim_open s op.0 seat kept r) (omega (arith, l, b.owes, claim_owed s op.0 seat kept r)) in
    subst (λ (fs : List Entry). IsBoard job fs t outcome left) (sym n)
    (subst (λ (u : State). IsBoard job (es ++ step_by step.Claim op seat ∷ []) u outcome left) (sym m) behind)

pub copy_board : (job : Job) (es new : List Entry) (s t : State) (outcome : Option Outcome) (owed : ℕ) (c : Claim) →
    IsBoard job es s outcome owed → IsKept s → is_filled_by c (operation_at s c.op.0).activity ≡ true → t ≡ copy_made job.code s c.op.0 →
    new ≡ es ++ step_by step.Copy c.op c.seat ∷ [] → IsBoard job new t outcome (owed - 1) × (0 < owed)
copy_board job es new s t outcome owed c b kept h m n =
    let a = (operation_at s c.op.0).activity in
    let filling = filled_filling c a h in
    let less = copy_owed job.code s c.op.0 filling in
    let behind = board_behind job es s (copy_made job.code s c.op.0) outcome owed (owed - 1) (step_by step.Copy c.op c.seat) b (copy_stepped job s c h)
    (claimed_open s c.op.0 kept (held_owes c a filling)) (copy_open job.code s c.op.0 kept filling) (omega (arith, b.owes, less)) in (
      subst (λ (fs : List Entry). IsBoard job fs t outcome (owed - 1)) (sym n)
          (subst (λ (u : State). IsBoard job (es ++ step_by step.Copy c.op c.seat ∷ []) u outcome (owed - 1)) (sym m) behind),
      omega (arith, b.owes, less),
    )

owes_some : (a : Activity) → is_claimed a ≡ true → 0 < owed_of a
owes_some (activity.Filling d f) h = omega arith
owes_some (activity.Out d b) h = omega arith
owes_some activity.Idle h = absurd (false≢true h)
owes_some (activity.Closing e) h = absurd (false≢true h)

pub back_board : (job : Job) (es new : List Entry) (s t : State) (outcome : Option Outcome) (owed less : ℕ) (c : Claim) →
    IsBoard job es s outcome owed → IsKept s →
    (is_filled_by c (operation_at s c.op.0).activity || is_out_by c (operation_at s c.op.0).activity) ≡ true →
    less ≡ owed_of (operation_at s c.op.0).activity → t ≡ taken_back s c.op.0 → new ≡ es ++ step_by step.Back c.op c.seat ∷ [] →
    IsBoard job new t outcome (owed - less) × ((0 < less) × (less ≤ owed))
back_board job es new s t outcome owed less c b kept h l m n =
    let a = (operation_at s c.op.0).activity in
    let claimed = held_claimed c a h in
    let left = back_owed s c.op.0 claimed in
    let behind = board_behind job es s (taken_back s c.op.0) outcome owed (owed - less) (step_by step.Back c.op c.seat) b (back_stepped job s c h)
    (claimed_open s c.op.0 kept claimed) (back_open s c.op.0 kept claimed) (omega (arith, b.owes, left, l)) in (
      subst (λ (fs : List Entry). IsBoard job fs t outcome (owed - less)) (sym n)
          (subst (λ (u : State). IsBoard job (es ++ step_by step.Back c.op c.seat ∷ []) u outcome (owed - less)) (sym m) behind),
      (omega (arith, l, owes_some a claimed), omega (arith, b.owes, left, l)),
    )

-- ---- what was made

abbrev standing : Job → List Entry → State → Standing
standing job journal s = record { job = job; journal = journal; state = s }

pub claim_has_made : (job : Job) (es new : List Entry) (s t : State) (op : OpNumber) (seat : ℕ) → IsKept s → may_be_claimed s op.0 ≡ true →
    t ≡ claim_made s op.0 seat → new ≡ es ++ step_by step.Claim op seat ∷ [] →
    HasMade (standing job es s) (step_by step.Claim op seat) (standing job new t)
claim_has_made job es new s t op seat kept r m n = record {
  job = refl;
  journal = n;
  state = claim_stepped job s op seat r ∙ ap (λ (x : State). Some x) (sym m);
  unfinished = ready_open s op.0 kept r;
}

pub copy_has_made : (job : Job) (es new : List Entry) (s t : State) (c : Claim) → IsKept s → is_filled_by c (operation_at s c.op.0).activity ≡ true →
    t ≡ copy_made job.code s c.op.0 → new ≡ es ++ step_by step.Copy c.op c.seat ∷ [] →
    HasMade (standing job es s) (step_by step.Copy c.op c.seat) (standing job new t)
copy_has_made job es new s t c kept h m n = record {
  job = refl;
  journal = n;
  state = copy_stepped job s c h ∙ ap (λ (x : State). Some x) (sym m);
  unfinished = claimed_open s c.op.0 kept
      (held_owes c (operation_at s c.op.0).activity (filled_filling c (operation_at s c.op.0).activity h));
}

pub back_has_made : (job : Job) (es new : List Entry) (s t : State) (c : Claim) → IsKept s →
    (is_filled_by c (operation_at s c.op.0).activity || is_out_by c (operation_at s c.op.0).activity) ≡ true →
    t ≡ taken_back s c.op.0 → new ≡ es ++ step_by step.Back c.op c.seat ∷ [] →
    HasMade (standing job es s) (step_by step.Back c.op c.seat) (standing job new t)
back_has_made job es new s t c kept h m n = record {
  job = refl;
  journal = n;
  state = back_stepped job s c h ∙ ap (λ (x : State). Some x) (sym m);
  unfinished = claimed_open s c.op.0 kept (held_claimed c (operation_at s c.op.0).activity h);
}
