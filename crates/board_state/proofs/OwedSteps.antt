-- What steps make of how many steps are owed.
use Rattle.std.specs.Prelude.{◌/◌}
use Rattle.std.proofs.Common.{◌≡◌, ◌<◌, ◌≤◌, ◌∙◌, ◌+◌, ◌-◌, ℕ, Bool, true, false, None, Some, ap, arith, length, min, refl, suc, sym}
use Rattle.std.proofs.Math.Nat.{add-div_right, div-eq_of_lt}
use Rattle.std.proofs.lemmas.Bool.{false≢true, ltb-false, ltb-true}
use Rattle.std.proofs.lemmas.List.Sums.{sum_by-set}
use Rattle.logical_map.specs.Fills.{chunk, chunk_moved, elements_of}
use Rattle.task_code.specs.declared.code.Code.{Code}
use Rattle.machine_terms.specs.declared.frame.Before.{Before}
use Rattle.board_terms.specs.declared.operation.Activity.{Activity}
use Rattle.board_terms.specs.declared.operation.Activity.TheVariants as activity
use Rattle.board_terms.specs.declared.operation.Operation.{Operation}
use Rattle.board_terms.specs.Claims.{before_of, claim_made, claim_on, fill_for, moved_on, taken_back}
use Rattle.board_terms.specs.Stages.{may_be_claimed}
use Rattle.board_terms.specs.States.{State, doing, no_operation, operation_at}
use Rattle.board_state.specs.Kept.{IsKept, is_claimed}
use Rattle.board_state.specs.Owed.{copies_for, copies_left, owed_by, owed_of}
use Rattle.board_state.specs.Steps.{copied_activity, copy_made, fill_in, has_more, is_filling, more_moved, sent_out}
use Rattle.board_state.proofs.Claims.{claimed_there, ready_idle, ready_there}
use Rattle.board_state.proofs.Copies.{elements_stay, filling_claimed, last_is_copied, more_is_copied}

-- ---- one operation

-- what is owed where one operation does something else
pub owed_doing : (s : State) (k : ℕ) (a : Activity) → k < length s.operations →
    owed_by (doing s k a).operations + owed_of (operation_at s k).activity ≡ owed_by s.operations + owed_of a
owed_doing s k a b = sum_by-set (λ (o : Operation). owed_of o.activity) s.operations k (record (operation_at s k) { activity = a }) no_operation b

-- ---- copies

one_less : (n : ℕ) → chunk < n → copies_for (n - chunk) + 1 ≡ copies_for n
one_less n b =
    let e : (n - chunk - 1) + chunk ≡ n - 1 = omega (arith, b) in
    let d : ((n - chunk - 1) + chunk) / chunk ≡ (n - chunk - 1) / chunk + 1 = add-div_right (n - chunk - 1) (omega arith) in
    let f : (n - 1) / chunk ≡ (n - chunk - 1) / chunk + 1 = ap (λ (m : ℕ). m / chunk) (sym e) ∙ d in
    omega (arith, f)

last_one : (n : ℕ) → n ≤ chunk → copies_for n ≡ 1
last_one n b = ap suc (div-eq_of_lt {n = n - 1} {m = chunk} (omega (arith, b)))

left_behind : (moved n : ℕ) → chunk < n - moved → n - min (moved + chunk) n ≡ n - moved - chunk
left_behind moved n b = omega (arith, b)

-- a copy takes one step
more_owed : (s : State) (a : Activity) → has_more a ≡ true → owed_of (more_moved s.map a) + 1 ≡ owed_of a
more_owed s (activity.Filling c (Some f)) h =
    let b = ltb-true _ _ h in
    let left : elements_of (chunk_moved s.map f).pieces - (chunk_moved s.map f).moved ≡ elements_of f.pieces - f.moved - chunk =
    ap (λ (n : ℕ). n - (chunk_moved s.map f).moved) (elements_stay s.map f) ∙ left_behind f.moved (elements_of f.pieces) b in
    let less : suc (copies_for (elements_of f.pieces - f.moved - chunk)) + 1 ≡ suc (copies_for (elements_of f.pieces - f.moved)) =
    omega (arith, one_less (elements_of f.pieces - f.moved) b) in
    ap (λ (n : ℕ). suc (copies_for n) + 1) left ∙ less
more_owed s (activity.Filling c None) h = absurd (false≢true h)
more_owed s (activity.Out c b) h = absurd (false≢true h)
more_owed s activity.Idle h = absurd (false≢true h)
more_owed s (activity.Closing e) h = absurd (false≢true h)

last_owed : (a : Activity) (b : Before) → is_filling a ≡ true → has_more a ≡ false → owed_of (sent_out b a) + 1 ≡ owed_of a
last_owed (activity.Filling c (Some f)) b i h = ap suc (sym (last_one (elements_of f.pieces - f.moved) (ltb-false _ _ h)))
last_owed (activity.Filling c None) b i h = refl
last_owed (activity.Out c d) b i h = absurd (false≢true i)
last_owed activity.Idle b i h = absurd (false≢true i)
last_owed (activity.Closing e) b i h = absurd (false≢true i)

copied_owed : (code : Code) (s : State) (o : Operation) (a : Activity) (more : Bool) → has_more a ≡ more → is_filling a ≡ true →
    owed_of (copied_activity code s o a) + 1 ≡ owed_of a
copied_owed code s o a true h i = ap (λ (x : Activity). owed_of x + 1) (more_is_copied code s o a h) ∙ more_owed s a h
copied_owed code s o a false h i =
    ap (λ (x : Activity). owed_of x + 1) (last_is_copied code s o a h) ∙ last_owed a (before_of code s o (moved_on s (fill_in a))) i h

pub copy_owed : (code : Code) (s : State) (k : ℕ) → is_filling (operation_at s k).activity ≡ true →
    owed_by (copy_made code s k).operations + 1 ≡ owed_by s.operations
copy_owed code s k h =
    let a = (operation_at s k).activity in
    omega (
      arith,
      owed_doing s k (copied_activity code s (operation_at s k) a) (claimed_there s k (filling_claimed a h)),
      copied_owed code s (operation_at s k) a (has_more a) refl h,
    )

-- ---- claims

unclaimed_owes : (a : Activity) → is_claimed a ≡ false → owed_of a ≡ 0
unclaimed_owes (activity.Filling c f) h = absurd (false≢true (sym h))
unclaimed_owes (activity.Out c d) h = absurd (false≢true (sym h))
unclaimed_owes activity.Idle h = refl
unclaimed_owes (activity.Closing e) h = refl

pub claim_owed : (s : State) (k seat : ℕ) → IsKept s → may_be_claimed s k ≡ true →
    owed_by (claim_made s k seat).operations ≡ owed_by s.operations + suc (copies_left (fill_for s (operation_at s k) (operation_at s k).wait))
claim_owed s k seat kept r =
    let o = operation_at s k in
    omega (
      arith,
      owed_doing s k (activity.Filling (claim_on s k seat) (fill_for s o o.wait)) (ready_there s k kept r),
      unclaimed_owes o.activity (ready_idle s k kept r),
    )

pub back_owed : (s : State) (k : ℕ) → is_claimed (operation_at s k).activity ≡ true →
    owed_by (taken_back s k).operations + owed_of (operation_at s k).activity ≡ owed_by s.operations
back_owed s k h = omega (arith, owed_doing s k activity.Idle (claimed_there s k h))
