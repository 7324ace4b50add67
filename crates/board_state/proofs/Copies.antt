-- What a state keeps behind a copy, and what the operation does then.
use Rattle.std.proofs.Common.{◌≡◌, ◌<◌, ◌≤◌, ◌∙◌, ◌+◌, ◌-◌, ◌==◌, ℕ, Bool, true, false, None, Option, Some, ap, arith, cond, get_or, inl, inr, length, min, refl, set, subst, sym}
use Rattle.std.proofs.lemmas.Bool.{false≢true, ltb-false, ltb-true, ne_eqb}
use Rattle.std.proofs.lemmas.Bool.Decides.{eqb_tells}
use Rattle.logical_map.specs.Fills.{Filling, chunk, chunk_moved, elements_of}
use Rattle.logical_map.specs.Maps.{LogicalMap, column_of}
use Rattle.physical_instances.proofs.Filling.{same_elements}
use Rattle.region_tree.specs.declared.needs.Needs.{Needs}
use Rattle.task_code.specs.declared.code.Code.{Code}
use Rattle.machine_terms.specs.declared.frame.Before.{Before}
use Rattle.board_terms.specs.declared.claim.Claim.{Claim}
use Rattle.board_terms.specs.declared.operation.Activity.{Activity}
use Rattle.board_terms.specs.declared.operation.Activity.TheVariants as activity
use Rattle.board_terms.specs.declared.operation.Operation.{Operation}
use Rattle.board_terms.specs.declared.operation.Wait.{Wait}
use Rattle.board_terms.specs.declared.operation.Wait.TheVariants as wait
use Rattle.board_terms.specs.Claims.{before_of, frame_behind, moved_on}
use Rattle.board_terms.specs.States.{State, doing, operation_at}
use Rattle.board_state.specs.Kept.{IsKept, IsLentWith, is_claimed, state_of}
use Rattle.board_state.specs.Steps.{copied_activity, copy_made, fill_in, has_more, is_filling, more_moved, sent_out}
use Rattle.board_state.proofs.Claims.{claimed_there, same_operation}
use Rattle.board_state.proofs.Keeping.{kept_with}

-- ---- what is kept

-- an operation that a seat has does something else
pub doing_kept : (s : State) (k : ℕ) (a : Activity) → IsKept s → is_claimed (operation_at s k).activity ≡ true →
    IsLentWith (operation_at s k).frame.needs a → IsKept (doing s k a)
doing_kept s k a kept h lent =
    kept_with s k _ s.waits s.map s.turns kept (claimed_there s k h) refl refl refl
    (record { counted = refl; parents = λ j. refl; begun = λ j other e. e })
    (λ _. kept.begun k h) lent kept.live

-- a frame goes on with its needs
pub needs_behind : (s : State) (o : Operation) (w : Wait) → (frame_behind s o w).needs ≡ o.frame.needs
needs_behind s o wait.Beginning = refl
needs_behind s o wait.Nothing = refl
needs_behind s o (wait.Part root field) = refl
needs_behind s o (wait.Child n) = refl

pub filling_claimed : (a : Activity) → is_filling a ≡ true → is_claimed a ≡ true
filling_claimed (activity.Filling c f) h = refl
filling_claimed (activity.Out c b) h = refl
filling_claimed activity.Idle h = h
filling_claimed (activity.Closing e) h = h

lent_behind : (code : Code) (s : State) (o : Operation) (c : Claim) (f : Filling) (b : Bool) →
    IsLentWith o.frame.needs (cond b (activity.Out c (before_of code s o (Some f))) (activity.Filling c (Some f)))
lent_behind code s o c f true = needs_behind s o o.wait
lent_behind code s o c f false = tt

copied_lent : (code : Code) (s : State) (o : Operation) (a : Activity) → is_filling a ≡ true → IsLentWith o.frame.needs (copied_activity code s o a)
copied_lent code s o (activity.Filling c None) h = needs_behind s o o.wait
copied_lent code s o (activity.Filling c (Some f)) h =
    lent_behind code s o c (chunk_moved s.map f) ((chunk_moved s.map f).moved == elements_of (chunk_moved s.map f).pieces)
copied_lent code s o (activity.Out c b) h = absurd (false≢true h)
copied_lent code s o activity.Idle h = absurd (false≢true h)
copied_lent code s o (activity.Closing e) h = absurd (false≢true h)

pub copy_kept : (code : Code) (s : State) (k : ℕ) → IsKept s → is_filling (operation_at s k).activity ≡ true → IsKept (copy_made code s k)
copy_kept code s k kept h = doing_kept s k _ kept (filling_claimed (operation_at s k).activity h)
    (copied_lent code s (operation_at s k) (operation_at s k).activity h)

-- ---- elements

-- the same pieces have so many elements behind a chunk
pub elements_stay : (map : LogicalMap) (f : Filling) → elements_of (chunk_moved map f).pieces ≡ elements_of f.pieces
elements_stay map f = same_elements (column_of map f.root f.field) f.moved chunk f.pieces

not_all : (moved n : ℕ) → chunk < n - moved → (min (moved + chunk) n == n) ≡ false
not_all moved n b = ne_eqb (min (moved + chunk) n) n (λ e. omega (arith, e, b))

all_moved : (moved n : ℕ) → n - moved ≤ chunk → min (moved + chunk) n ≡ n
all_moved moved n b = omega (arith, b)

same_true : (m n : ℕ) → m ≡ n → (m == n) ≡ true
same_true m n e = elim (eqb_tells m n) [ inl h ↦ h.0 | inr h ↦ absurd (h.1 e) ]

behind_chunk : (map : LogicalMap) (f : Filling) → ((chunk_moved map f).moved == elements_of (chunk_moved map f).pieces)
    ≡ (min (f.moved + chunk) (elements_of f.pieces) == elements_of f.pieces)
behind_chunk map f = ap (λ (n : ℕ). min (f.moved + chunk) (elements_of f.pieces) == n) (elements_stay map f)

-- ---- what the operation does

-- elements are left
pub more_is_copied : (code : Code) (s : State) (o : Operation) (a : Activity) → has_more a ≡ true →
    copied_activity code s o a ≡ more_moved s.map a
more_is_copied code s o (activity.Filling c (Some f)) h =
    ap (λ (b : Bool). cond b (activity.Out c (before_of code s o (Some (chunk_moved s.map f)))) (activity.Filling c (Some (chunk_moved s.map f))))
    (behind_chunk s.map f ∙ not_all f.moved (elements_of f.pieces) (ltb-true _ _ h))
more_is_copied code s o (activity.Filling c None) h = absurd (false≢true h)
more_is_copied code s o (activity.Out c b) h = refl
more_is_copied code s o activity.Idle h = refl
more_is_copied code s o (activity.Closing e) h = refl

-- none is left
pub last_is_copied : (code : Code) (s : State) (o : Operation) (a : Activity) → has_more a ≡ false →
    copied_activity code s o a ≡ sent_out (before_of code s o (moved_on s (fill_in a))) a
last_is_copied code s o (activity.Filling c (Some f)) h =
    ap (λ (b : Bool). cond b (activity.Out c (before_of code s o (Some (chunk_moved s.map f)))) (activity.Filling c (Some (chunk_moved s.map f))))
    (behind_chunk s.map f ∙ same_true _ _ (all_moved f.moved (elements_of f.pieces) (ltb-false _ _ h)))
last_is_copied code s o (activity.Filling c None) h = refl
last_is_copied code s o (activity.Out c b) h = refl
last_is_copied code s o activity.Idle h = refl
last_is_copied code s o (activity.Closing e) h = refl

-- ---- the state

pub filling_there : (s : State) (k : ℕ) → is_filling (operation_at s k).activity ≡ true → k < length s.operations
filling_there s k h = claimed_there s k (filling_claimed (operation_at s k).activity h)

more_filling : (a : Activity) → has_more a ≡ true → is_filling a ≡ true
more_filling (activity.Filling c f) h = refl
more_filling (activity.Out c b) h = absurd (false≢true h)
more_filling activity.Idle h = absurd (false≢true h)
more_filling (activity.Closing e) h = absurd (false≢true h)

pub more_there : (s : State) (k : ℕ) → has_more (operation_at s k).activity ≡ true → k < length s.operations
more_there s k h = filling_there s k (more_filling (operation_at s k).activity h)

more_lent : (needs : Needs) (map : LogicalMap) (a : Activity) → has_more a ≡ true → IsLentWith needs (more_moved map a)
more_lent needs map (activity.Filling c (Some f)) h = tt
more_lent needs map (activity.Filling c None) h = tt
more_lent needs map (activity.Out c b) h = absurd (false≢true h)
more_lent needs map activity.Idle h = tt
more_lent needs map (activity.Closing e) h = tt

pub more_kept : (s : State) (k : ℕ) → IsKept s → has_more (operation_at s k).activity ≡ true →
    IsKept (doing s k (more_moved s.map (operation_at s k).activity))
more_kept s k kept h = doing_kept s k (more_moved s.map (operation_at s k).activity) kept
    (filling_claimed (operation_at s k).activity (more_filling (operation_at s k).activity h))
    (more_lent (operation_at s k).frame.needs s.map (operation_at s k).activity h)

out_lent : (needs : Needs) (before : Before) (a : Activity) → is_filling a ≡ true → before.frame.needs ≡ needs → IsLentWith needs (sent_out before a)
out_lent needs before (activity.Filling c f) h e = e
out_lent needs before (activity.Out c b) h e = absurd (false≢true h)
out_lent needs before activity.Idle h e = tt
out_lent needs before (activity.Closing d) h e = tt

pub out_kept : (s : State) (k : ℕ) (before : Before) → IsKept s → is_filling (operation_at s k).activity ≡ true →
    before.frame.needs ≡ (operation_at s k).frame.needs → IsKept (doing s k (sent_out before (operation_at s k).activity))
out_kept s k before kept h e = doing_kept s k (sent_out before (operation_at s k).activity) kept
    (filling_claimed (operation_at s k).activity h) (out_lent (operation_at s k).frame.needs before (operation_at s k).activity h e)

pub before_needs : (code : Code) (s : State) (o : Operation) (f : Option Filling) (before : Before) → before ≡ before_of code s o f →
    before.frame.needs ≡ o.frame.needs
before_needs code s o f before e = ap (λ (b : Before). b.frame.needs) e ∙ needs_behind s o o.wait

pub copy_more : (code : Code) (s t : State) (k : ℕ) → has_more (operation_at s k).activity ≡ true →
    t ≡ doing s k (more_moved s.map (operation_at s k).activity) → t ≡ copy_made code s k
copy_more code s t k h e = e ∙ ap (doing s k) (sym (more_is_copied code s (operation_at s k) (operation_at s k).activity h))

pub copy_last : (code : Code) (s t : State) (k : ℕ) (f : Option Filling) (before : Before) → has_more (operation_at s k).activity ≡ false →
    f ≡ moved_on s (fill_in (operation_at s k).activity) → before ≡ before_of code s (operation_at s k) f →
    t ≡ doing s k (sent_out before (operation_at s k).activity) → t ≡ copy_made code s k
copy_last code s t k f before h e b d =
    let a = (operation_at s k).activity in
    d ∙ ap (λ (x : Before). doing s k (sent_out x a)) (b ∙ ap (before_of code s (operation_at s k)) e)
    ∙ ap (doing s k) (sym (last_is_copied code s (operation_at s k) a h))

pub more_stays : (s : State) (k : ℕ) (x : Operation) (a : Activity) (map : LogicalMap) → IsKept s → has_more (operation_at s k).activity ≡ true →
    x ≡ get_or s.operations k x → a ≡ more_moved s.map x.activity → map ≡ s.map →
    IsKept (state_of s.tree s.roots map (set s.operations k (record x { activity = a })) s.waits s.turns)
more_stays s k x a map kept h ex ea em =
    let here = same_operation s.operations k x (more_there s k h) ex in
    subst IsKept
    (ap (λ (y : Operation). state_of s.tree s.roots s.map (set s.operations k (record y { activity = more_moved s.map y.activity })) s.waits s.turns) (sym here)
    ∙ ap (λ (b : Activity). state_of s.tree s.roots s.map (set s.operations k (record x { activity = b })) s.waits s.turns) (sym ea)
    ∙ ap (λ (m : LogicalMap). state_of s.tree s.roots m (set s.operations k (record x { activity = a })) s.waits s.turns) (sym em))
    (more_kept s k kept h)
