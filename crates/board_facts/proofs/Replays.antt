-- What a journal leads to is sound.
use Rattle.std.proofs.Common.{◌≡◌, ◌<◌, ◌≤◌, ◌∙◌, ◌+◌, ◌==◌, ℕ, Bool, true, false, List, [], ◌∷◌, Option, None, Some, All, ap, arith, cond, length, refl, slice_get, subst, sum_by, sym, ⊎_elim}
use Rattle.std.proofs.lemmas.Bool.{cases_lt, false≢true}
use Rattle.std.proofs.lemmas.Option.{none-some, same_Some}
use Rattle.std.proofs.lemmas.List.{get_or_past, length-set}
use Rattle.std.proofs.lemmas.List.Sums.{sum_by-cons}
use Rattle.std.proofs.lemmas.List.Elements.{All-cons, All-get_or, All-nil, All-set}
use Rattle.plain_values.specs.Points.{points}
use Rattle.region_tree.specs.Trees.{RegionTree}
use Rattle.region_tree.specs.declared.tree.OpNumber.{OpNumber}
use Rattle.region_tree.specs.declared.tree.RootId.{RootId}
use Rattle.logical_map.specs.Fills.{Filling, elements_of}
use Rattle.logical_map.specs.Maps.{LogicalMap, columns_of}
use Rattle.task_code.specs.declared.code.Code.{Code}
use Rattle.task_code.specs.declared.code.TaskCode.{TaskCode}
use Rattle.task_code.specs.declared.job.Job.{Job}
use Rattle.machine_terms.specs.Jobs.{first_frame, may_start}
use Rattle.machine_terms.specs.Segments.{segment}
use Rattle.machine_terms.specs.declared.frame.Frame.{Frame}
use Rattle.run_journal.specs.declared.entry.Entry.{Entry}
use Rattle.run_journal.specs.declared.entry.StepKind.{StepKind}
use Rattle.run_journal.specs.declared.entry.StepKind.TheVariants as step
use Rattle.board_terms.specs.declared.claim.Claim.{Claim}
use Rattle.board_terms.specs.declared.operation.Activity.{Activity}
use Rattle.board_terms.specs.declared.operation.Activity.TheVariants as activity
use Rattle.board_terms.specs.declared.operation.Operation.{Operation}
use Rattle.board_terms.specs.declared.operation.Wait.{Wait}
use Rattle.board_terms.specs.declared.operation.Wait.TheVariants as wait
use Rattle.board_terms.specs.Claims.{activity_behind, back_in, before_of, claim_made, claim_on, claimed, copied_in, fill_for, frame_behind, moved_on, taken_back}
use Rattle.board_terms.specs.Gives.{given_after, given_in}
use Rattle.board_terms.specs.Replays.{replay_from, step_of, stepped}
use Rattle.board_terms.specs.Stages.{may_be_claimed}
use Rattle.board_terms.specs.States.{State, doing, no_operation, opened, opened_with, operation_at, void_state, with_main}
use Rattle.board_facts.proofs.Families.{given_sound}
use Rattle.board_facts.proofs.Lists.{sum_set_same}
use Rattle.board_facts.specs.Families.{AreMade, HasMadeOwn, IsLentOwn, IsLentOwnBy, IsSound, of_children}
use Rattle.board_facts.specs.Laws.{ReplaysAreSound}

-- ---- the beginning

alone_sound : (s : State) (o : Operation) → s.operations ≡ o ∷ [] → o.children ≡ [] → o.frame.own ≡ [] → IsLentOwn o → s.map ≡ [] → length s.roots ≡ s.tree.roots → IsSound s
alone_sound s o e c f l m x = record {
  family = λ w. family w;
  lent = subst (All IsLentOwn) (sym e) (All-cons IsLentOwn o [] l (All-nil IsLentOwn));
  own = subst (All (HasMadeOwn s.tree.roots)) (sym e) (All-cons (HasMadeOwn s.tree.roots) o []
      (subst (AreMade s.tree.roots) (sym f) (All-nil (λ (r : RootId). r.0 < s.tree.roots))) (All-nil (HasMadeOwn s.tree.roots)));
  extents = x;
  live = λ root b. ap (λ (y : LogicalMap). columns_of y root) m;
}
  where
    family : (w : ℕ → ℕ) → w 0 + sum_by (of_children w) s.operations ≡ sum_by w (points (length s.operations))
    family w =
        let childless : of_children w o ≡ 0 = ap (sum_by (λ (x : OpNumber). w x.0)) c in
        let none : sum_by (of_children w) (o ∷ []) ≡ 0 = omega (arith, sum_by-cons (of_children w) o [], childless) in
        let children : sum_by (of_children w) s.operations ≡ 0 =
        ap (sum_by (of_children w)) e ∙ none in
        let here : sum_by w (points (length s.operations)) ≡ sum_by w (0 ∷ []) = ap (λ (os : List Operation). sum_by w (points (length os))) e in
        let one : sum_by w (points (length s.operations)) ≡ w 0 = omega (arith, here, sum_by-cons w 0 []) in
        omega (arith, children, one)

void_sound : IsSound void_state
void_sound = alone_sound void_state (operation_at void_state 0) refl refl refl tt refl refl

main_sound : (f : Frame) → f.own ≡ [] → IsSound (with_main f)
main_sound f e = alone_sound (with_main f) (operation_at (with_main f) 0) refl refl e tt refl refl

opened_sound : (job : Job) (o : Option TaskCode) → IsSound (opened_with job o)
opened_sound job None = void_sound
opened_sound job (Some t) = by_case (may_start job t)
  where
    by_case : (b : Bool) → IsSound (cond b (with_main (first_frame job t)) void_state)
    by_case true = main_sound (first_frame job t) refl
    by_case false = void_sound

-- ---- an operation that does something else

own_at : (s : State) (k : ℕ) → IsSound s → AreMade s.tree.roots (operation_at s k).frame.own
own_at s k sound = ⊎_elim
    (λ b. All-get_or (HasMadeOwn s.tree.roots) s.operations k no_operation b sound.own)
    (λ g. subst (HasMadeOwn s.tree.roots) (sym (get_or_past s.operations k no_operation g)) (All-nil (λ (r : RootId). r.0 < s.tree.roots)))
    (cases_lt k (length s.operations))

doing_sound : (s t : State) (k : ℕ) (a : Activity) → IsSound s → IsLentOwnBy (operation_at s k).frame.own a → t.tree ≡ s.tree → t.roots ≡ s.roots → t.map ≡ s.map →
    t.operations ≡ (doing s k a).operations → IsSound t
doing_sound s t k a sound lent tree extents map e = record {
  family = family;
  lent = subst (All IsLentOwn) (sym e) (All-set IsLentOwn s.operations k o lent sound.lent);
  own = subst (λ (n : ℕ). All (HasMadeOwn n) t.operations) (sym roots) (subst (All (HasMadeOwn s.tree.roots)) (sym e)
      (All-set (HasMadeOwn s.tree.roots) s.operations k o (own_at s k sound) sound.own));
  extents = ap length extents ∙ sound.extents ∙ sym roots;
  live = λ root b. ap (λ (x : LogicalMap). columns_of x root) map ∙ sound.live root (subst (λ (n : ℕ). n ≤ root) roots b);
}
  where
    o : Operation
    o = record (operation_at s k) { activity = a }

    roots : t.tree.roots ≡ s.tree.roots
    roots = ap (λ (x : RegionTree). x.roots) tree

    family : (w : ℕ → ℕ) → w 0 + sum_by (of_children w) t.operations ≡ sum_by w (points (length t.operations))
    family w =
        let children : sum_by (of_children w) t.operations ≡ sum_by (of_children w) s.operations =
        ap (sum_by (of_children w)) e ∙ sum_set_same (of_children w) s.operations k o no_operation refl in
        let all : sum_by w (points (length t.operations)) ≡ sum_by w (points (length s.operations)) =
        ap (λ (n : ℕ). sum_by w (points n)) (ap length e ∙ length-set s.operations k o) in
        omega (arith, children, all, sound.family w)

-- ---- steps

claim_sound : (s t : State) (k seat : ℕ) → IsSound s → claimed s k seat ≡ Some t → IsSound t
claim_sound s t k seat sound e = by_case (may_be_claimed s k) e
  where
    by_case : (b : Bool) → cond b (Some (claim_made s k seat)) None ≡ Some t → IsSound t
    by_case true h = subst IsSound (same_Some (claim_made s k seat) t h)
        (doing_sound s (claim_made s k seat) k (activity.Filling (claim_on s k seat) (fill_for s (operation_at s k) (operation_at s k).wait)) sound tt refl refl refl refl)
    by_case false h = absurd (none-some t h)

kept_own : (s : State) (o : Operation) (w : Wait) → (frame_behind s o w).own ≡ o.frame.own
kept_own s o (wait.Child n) = refl
kept_own s o wait.Beginning = refl
kept_own s o wait.Nothing = refl
kept_own s o (wait.Part root field) = refl

behind_lent : (code : Code) (s : State) (o : Operation) (c : Claim) (f : Option Filling) → IsLentOwnBy o.frame.own (activity_behind code s o c f)
behind_lent code s o c None = kept_own s o o.wait
behind_lent code s o c (Some f) = by_case (f.moved == elements_of f.pieces)
  where
    by_case : (b : Bool) → IsLentOwnBy o.frame.own (cond b (activity.Out c (before_of code s o (Some f))) (activity.Filling c (Some f)))
    by_case true = kept_own s o o.wait
    by_case false = tt

copy_sound : (code : Code) (s t : State) (k seat : ℕ) (a : Activity) → IsSound s → copied_in code s k seat a ≡ Some t → IsSound t
copy_sound code s t k seat (activity.Filling c f) sound e = by_case (c.seat == seat) e
  where
    a : Activity
    a = activity_behind code s (operation_at s k) c (moved_on s f)

    by_case : (b : Bool) → cond b (Some (doing s k a)) None ≡ Some t → IsSound t
    by_case true h = subst IsSound (same_Some (doing s k a) t h)
        (doing_sound s (doing s k a) k a sound (behind_lent code s (operation_at s k) c (moved_on s f)) refl refl refl refl)
    by_case false h = absurd (none-some t h)
copy_sound code s t k seat (activity.Out c b) sound e = absurd (none-some t e)
copy_sound code s t k seat activity.Idle sound e = absurd (none-some t e)
copy_sound code s t k seat (activity.Closing x) sound e = absurd (none-some t e)

back_sound : (s t : State) (k seat : ℕ) (a : Activity) → IsSound s → back_in s k seat a ≡ Some t → IsSound t
back_sound s t k seat a sound e = by a e
  where
    by_case : (b : Bool) → cond b (Some (taken_back s k)) None ≡ Some t → IsSound t
    by_case true h = subst IsSound (same_Some (taken_back s k) t h)
        (doing_sound s (taken_back s k) k activity.Idle sound tt refl refl refl refl)
    by_case false h = absurd (none-some t h)

    by : (x : Activity) → back_in s k seat x ≡ Some t → IsSound t
    by (activity.Filling c f) h = by_case (c.seat == seat) h
    by (activity.Out c b) h = by_case (c.seat == seat) h
    by activity.Idle h = absurd (none-some t h)
    by (activity.Closing x) h = absurd (none-some t h)

pub out_there : (s : State) (k : ℕ) (a : Activity) → (operation_at s k).activity ≡ a → (a ≡ activity.Idle → ⊥) → k < length s.operations
out_there s k a e not_idle = ⊎_elim (λ b. b)
    (λ g. absurd (not_idle (sym e ∙ ap (λ (o : Operation). o.activity) (get_or_past s.operations k no_operation g))))
    (cases_lt k (length s.operations))

abbrev is_idle : Activity → Bool
is_idle activity.Idle = true
is_idle _ = false

give_sound : (code : Code) (turns : ℕ) (s t : State) (k seat : ℕ) (a : Activity) → IsSound s → (operation_at s k).activity ≡ a →
    given_in code turns s k seat a ≡ Some t → IsSound t
give_sound code turns s t k seat (activity.Out c b) sound here e = by_case (c.seat == seat) e
  where
    by_case : (x : Bool) → cond x (Some (given_after code turns s k (segment b))) None ≡ Some t → IsSound t
    by_case true h = subst IsSound (same_Some (given_after code turns s k (segment b)) t h)
        (given_sound code turns s k c b sound (out_there s k (activity.Out c b) here (λ i. false≢true (ap is_idle i))) here)
    by_case false h = absurd (none-some t h)
give_sound code turns s t k seat (activity.Filling c f) sound here e = absurd (none-some t e)
give_sound code turns s t k seat activity.Idle sound here e = absurd (none-some t e)
give_sound code turns s t k seat (activity.Closing x) sound here e = absurd (none-some t e)

step_sound : (job : Job) (s t : State) (k seat : ℕ) (kind : StepKind) → IsSound s → step_of job s k seat kind ≡ Some t → IsSound t
step_sound job s t k seat step.Claim sound e = claim_sound s t k seat sound e
step_sound job s t k seat step.Copy sound e = copy_sound job.code s t k seat (operation_at s k).activity sound e
step_sound job s t k seat step.Give sound e = give_sound job.code job.turns s t k seat (operation_at s k).activity sound refl e
step_sound job s t k seat step.Back sound e = back_sound s t k seat (operation_at s k).activity sound e

-- ---- one step after the other

nothing_from : (job : Job) (es : List Entry) (t : State) → replay_from job None es ≡ Some t → ⊥
nothing_from job [] t e = none-some t e
nothing_from job (x ∷ xs) t e = nothing_from job xs t e

steps_sound : (job : Job) (es : List Entry) (s t : State) → IsSound s → replay_from job (Some s) es ≡ Some t → IsSound t
steps_sound job [] s t sound e = subst IsSound (same_Some s t e) sound
steps_sound job (x ∷ xs) s t sound e = by (stepped job s x) refl e (λ u. steps_sound job xs u t)
  where
    by : (o : Option State) → stepped job s x ≡ o → replay_from job o xs ≡ Some t →
        ((u : State) → IsSound u → replay_from job (Some u) xs ≡ Some t → IsSound t) → IsSound t
    by None h r more = absurd (nothing_from job xs t r)
    by (Some u) h r more = more u (step_sound job s u x.op.0 x.seat x.kind sound h) r

pub replays_are_sound : ReplaysAreSound
replays_are_sound job journal s e = steps_sound job journal (opened job) s (opened_sound job (slice_get job.code.tasks job.code.start)) e
