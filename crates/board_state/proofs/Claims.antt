-- What a state keeps behind a claim, and behind one that is taken back.
use Rattle.std.proofs.Common.{◌≡◌, ◌<◌, ◌∙◌, ◌&&◌, ℕ, Bool, true, false, List, [], Option, ap, arith, get_or, length, set, refl, subst, suc, sym, ⊎_elim}
use Rattle.std.proofs.lemmas.Bool.{cases_lt, false≢true}
use Rattle.std.proofs.lemmas.List.{get_or-set_same, get_or_default, get_or_past}
use Rattle.logical_map.specs.Fills.{Filling}
use Rattle.dependence_graph.specs.Entries.{Knot}
use Rattle.dependence_graph.specs.Graphs.{Waits, begun, knot_on, parked_on}
use Rattle.dependence_graph.specs.Knots.{all_done, is_idle, knot_at, no_knot}
use Rattle.dependence_graph.specs.declared.stage.Stage.{Stage}
use Rattle.dependence_graph.specs.declared.stage.Stage.TheVariants.{Begun, Parked, Stopped}
use Rattle.board_terms.specs.declared.operation.Activity.TheVariants as activity
use Rattle.board_terms.specs.declared.operation.Operation.{Operation}
use Rattle.board_terms.specs.Claims.{claim_made, claim_on, fill_for, taken_back}
use Rattle.board_terms.specs.Stages.{may_be_claimed}
use Rattle.board_terms.specs.States.{State, no_operation, operation_at}
use Rattle.board_state.specs.Kept.{IsKept, is_claimed, state_of}
use Rattle.board_state.proofs.Keeping.{kept_with, stays_set}

-- ---- which operations are there

and_first : (a b : Bool) → (a && b) ≡ true → a ≡ true
and_first true b e = refl
and_first false b e = e

-- one that is ready was issued
pub ready_there : (s : State) (k : ℕ) → IsKept s → may_be_claimed s k ≡ true → k < length s.operations
ready_there s k kept r = ⊎_elim
    (λ b. omega (arith, b, kept.counted))
    (λ g. absurd (false≢true (sym (ap (λ (x : Knot). is_idle x.stage) (get_or_past s.waits.knots k no_knot g))
    ∙ and_first (is_idle (knot_at s.waits.knots k).stage) (all_done s.waits.knots (knot_at s.waits.knots k).on) r)))
    (cases_lt k (length s.waits.knots))

-- and so was one that a seat has
pub claimed_there : (s : State) (k : ℕ) → is_claimed (operation_at s k).activity ≡ true → k < length s.operations
claimed_there s k c = ⊎_elim
    (λ b. b)
    (λ g. absurd (false≢true (sym (ap (λ (x : Operation). is_claimed x.activity) (get_or_past s.operations k no_operation g)) ∙ c)))
    (cases_lt k (length s.operations))

-- no seat has one that is ready
idle_not_begun : (x : Stage) → x ≡ Begun → is_idle x ≡ false
idle_not_begun x e = ap is_idle e

no_other : (b : Bool) → (b ≡ true → false ≡ true) → b ≡ false
no_other true f = absurd (false≢true (f refl))
no_other false f = refl

pub ready_idle : (s : State) (k : ℕ) → IsKept s → may_be_claimed s k ≡ true → is_claimed (operation_at s k).activity ≡ false
ready_idle s k kept r = no_other (is_claimed (operation_at s k).activity)
    (λ c. sym (idle_not_begun _ (kept.begun k c))
    ∙ and_first (is_idle (knot_at s.waits.knots k).stage) (all_done s.waits.knots (knot_at s.waits.knots k).on) r)

-- ---- claims

pub claim_kept : (s : State) (k seat : ℕ) → IsKept s → may_be_claimed s k ≡ true → IsKept (claim_made s k seat)
claim_kept s k seat kept r =
    let here = ready_there s k kept r in
    let there : k < length s.waits.knots = omega (arith, here, kept.counted) in
    let x : Knot = record { parent = (knot_at s.waits.knots k).parent; on = (knot_at s.waits.knots k).on; stage = Begun } in
    kept_with s k _ (begun s.waits k) s.map (suc s.turns) kept here refl refl refl
    (stays_set s.waits.knots k x there refl)
    (λ _. ap (λ (y : Knot). y.stage) (get_or-set_same s.waits.knots k x no_knot there)) tt kept.live

pub back_kept : (s : State) (k : ℕ) → IsKept s → k < length s.operations → IsKept (taken_back s k)
back_kept s k kept here =
    let there : k < length s.waits.knots = omega (arith, here, kept.counted) in
    kept_with s k _ (parked_on s.waits k []) s.map s.turns kept here refl refl refl
    (stays_set s.waits.knots k (knot_on s.waits.knots (knot_at s.waits.knots k).parent [] Parked Stopped) there refl)
    (λ c. absurd (false≢true c)) tt kept.live

-- ---- the same by its parts

pub same_operation : (os : List Operation) (k : ℕ) (x : Operation) → k < length os → x ≡ get_or os k x → x ≡ get_or os k no_operation
same_operation os k x b e = e ∙ get_or_default os k x no_operation b

pub claim_stays : (s : State) (k seat : ℕ) (x : Operation) (f : Option Filling) (w : Waits) (turns : ℕ) → IsKept s → may_be_claimed s k ≡ true →
    x ≡ get_or s.operations k x → f ≡ fill_for s (operation_at s k) (operation_at s k).wait → w ≡ begun s.waits k → turns ≡ suc s.turns →
    IsKept (state_of s.tree s.roots s.map (set s.operations k (record x { activity = activity.Filling (claim_on s k seat) f })) w turns)
claim_stays s k seat x f w turns kept r ex ef ew et =
    let o = operation_at s k in
    let here = same_operation s.operations k x (ready_there s k kept r) ex in
    subst IsKept
    (ap (λ (y : Operation). state_of s.tree s.roots s.map
    (set s.operations k (record y { activity = activity.Filling (claim_on s k seat) (fill_for s o o.wait) })) (begun s.waits k) (suc s.turns)) (sym here)
    ∙ ap (λ (g : Option Filling). state_of s.tree s.roots s.map
    (set s.operations k (record x { activity = activity.Filling (claim_on s k seat) g })) (begun s.waits k) (suc s.turns)) (sym ef)
    ∙ ap (λ (v : Waits). state_of s.tree s.roots s.map
    (set s.operations k (record x { activity = activity.Filling (claim_on s k seat) f })) v (suc s.turns)) (sym ew)
    ∙ ap (λ (n : ℕ). state_of s.tree s.roots s.map
    (set s.operations k (record x { activity = activity.Filling (claim_on s k seat) f })) w n) (sym et))
    (claim_kept s k seat kept r)

pub back_stays : (s : State) (k : ℕ) (x : Operation) (w : Waits) → IsKept s → k < length s.operations →
    x ≡ get_or s.operations k x → w ≡ parked_on s.waits k [] →
    IsKept (state_of s.tree s.roots s.map (set s.operations k (record x { activity = activity.Idle })) w s.turns)
back_stays s k x w kept b ex ew =
    subst IsKept
    (ap (λ (y : Operation). state_of s.tree s.roots s.map (set s.operations k (record y { activity = activity.Idle })) (parked_on s.waits k []) s.turns)
    (sym (same_operation s.operations k x b ex))
    ∙ ap (λ (v : Waits). state_of s.tree s.roots s.map (set s.operations k (record x { activity = activity.Idle })) v s.turns) (sym ew))
    (back_kept s k kept b)
