-- Tables in which no operation is broken.
use Rattle.std.proofs.Common.{◌≡◌, ℕ, zero, suc, List, [], ◌∷◌, ◌++◌, Bool, true, false, cond, sym, subst, length, map}
use Rattle.std.specs.Prelude.{get_or, set}
use Rattle.region_tree.specs.declared.tree.OpNumber.{OpNumber}
use Rattle.machine_terms.specs.declared.frame.Frame.{Frame}
use Rattle.board_terms.specs.declared.operation.Activity.{Activity}
use Rattle.board_terms.specs.declared.operation.Activity.TheVariants as activity
use Rattle.board_terms.specs.declared.operation.Ending.TheVariants as ending
use Rattle.board_terms.specs.declared.operation.Operation.{Operation}
use Rattle.board_terms.specs.Closings.{closed_up, followed, may_close, over, up_from}
use Rattle.board_terms.specs.States.{State, called_by, no_operation, operation_at, with_operation}

abbrev pub IsWhole : Activity → Type 0
IsWhole (activity.Closing ending.Broken) = ⊥
IsWhole a = Unit {0}

-- none of these operations is broken
abbrev pub AreWhole : List Operation → Type 0
AreWhole os = (j : ℕ) → IsWhole (get_or os j no_operation).activity

pub set_whole : (os : List Operation) (k : ℕ) (o : Operation) → IsWhole o.activity → AreWhole os → AreWhole (set os k o)
set_whole [] k o w h j = h j
set_whole (x ∷ os) zero o w h zero = w
set_whole (x ∷ os) zero o w h (suc j) = h (suc j)
set_whole (x ∷ os) (suc k) o w h zero = h 0
set_whole (x ∷ os) (suc k) o w h (suc j) = set_whole os k o w (λ i. h (suc i)) j

pub both_whole : (os us : List Operation) → AreWhole os → AreWhole us → AreWhole (os ++ us)
both_whole [] us h m j = m j
both_whole (x ∷ os) us h m zero = h 0
both_whole (x ∷ os) us h m (suc j) = both_whole os us (λ i. h (suc i)) m j

pub called_whole : (k : OpNumber) (fs : List Frame) → AreWhole (map (called_by k) fs)
called_whole k [] j = tt
called_whole k (f ∷ fs) zero = tt
called_whole k (f ∷ fs) (suc j) = called_whole k fs j

-- a row that changes but for what it does
pub row_whole : (v : State) (k : ℕ) (o : Operation) → o.activity ≡ (operation_at v k).activity → AreWhole v.operations → AreWhole (with_operation v k o).operations
row_whole v k o e h = set_whole v.operations k o (subst IsWhole (sym e) (h k)) h

closed_whole : (n : ℕ) (s : State) (k : ℕ) → AreWhole s.operations → AreWhole (closed_up n s k).operations
closed_whole zero s k h = h
closed_whole (suc n) s k h = of (may_close s k) (by_caller k (over s k) h (λ v j f. closed_whole n v j f))
  where
    by_caller : (k : ℕ) (v : State) → AreWhole v.operations → ((v : State) (j : ℕ) → AreWhole v.operations → AreWhole (closed_up n v j).operations) →
        AreWhole (up_from k (closed_up n) v).operations
    by_caller zero v f more = f
    by_caller (suc k) v f more = more v (operation_at v (suc k)).parent.0 f

    of : (b : Bool) → AreWhole (up_from k (closed_up n) (over s k)).operations → AreWhole (cond b (up_from k (closed_up n) (over s k)) s).operations
    of true more = more
    of false more = h

pub followed_whole : (s : State) (k : ℕ) → AreWhole s.operations → AreWhole (followed s k).operations
followed_whole s k h = closed_whole (length s.operations) s k h
