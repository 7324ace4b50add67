-- What a state keeps when an operation is over.
use Rattle.std.specs.Prelude.{◌≢◌, ◌⊎◌}
use Rattle.std.proofs.Common.{◌≡◌, ◌<◌, ◌-◌, ◌∙◌, ◌&&◌, ℕ, zero, suc, Bool, true, false, List, All, ap, arith, cond, inl, inr, length, refl, subst, sym, ⊎_elim}
use Rattle.std.proofs.lemmas.Bool.{cases_lt, false≢true}
use Rattle.std.proofs.lemmas.Bool.Decides.{eqb_tells}
use Rattle.std.proofs.lemmas.List.{get_or_past}
use Rattle.std.proofs.lemmas.List.Elements.{All-filter, All-weaker}
use Rattle.region_finder.specs.Listings.{ArePlaced, IsListingOf}
use Rattle.logical_map.specs.Maps.{LogicalMap}
use Rattle.dependence_graph.proofs.Following.{all_give_up}
use Rattle.dependence_graph.proofs.Spreading.{all_spread}
use Rattle.dependence_graph.specs.Entries.{Knot}
use Rattle.dependence_graph.specs.Graphs.{Waits, ended}
use Rattle.dependence_graph.specs.Knots.{given_up, is_in_progress, knot_at, no_knot, with_stage}
use Rattle.dependence_graph.specs.declared.stage.How.{How}
use Rattle.dependence_graph.specs.declared.stage.How.TheVariants as how
use Rattle.dependence_graph.specs.declared.stage.Stage.{Stage}
use Rattle.dependence_graph.specs.declared.stage.Stage.TheVariants as knot
use Rattle.board_terms.specs.declared.operation.Activity.{Activity}
use Rattle.board_terms.specs.declared.operation.Activity.TheVariants as activity
use Rattle.board_terms.specs.declared.operation.Wait.{Wait}
use Rattle.board_terms.specs.declared.operation.Wait.TheVariants as wait
use Rattle.board_terms.specs.Closings.{all_good, all_over, came_to_end, closed_up, how_closed, may_close, not_stopped, over, up_from}
use Rattle.board_terms.specs.Stages.{is_closing, stage_at, stage_of}
use Rattle.board_terms.specs.States.{State, operation_at}
use Rattle.board_state.specs.Kept.{IsKept, is_claimed, state_of}
use Rattle.board_gives.specs.Gives.{IsIssuedBy}
use Rattle.board_gives.specs.Makes.{IsRootBelow}
use Rattle.board_state.proofs.Keeping.{StaysBut, issued_stays, stays_set}
use Rattle.board_state.proofs.Roots.{live_behind}

-- ---- knots

stays_on : (k : ℕ) (ks us ws : List Knot) → StaysBut k ks us → StaysBut k us ws → StaysBut k ks ws
stays_on k ks us ws a b = record {
  counted = b.counted ∙ a.counted;
  parents = λ j. b.parents j ∙ a.parents j;
  begun = λ j other e. b.begun j other (a.begun j other e);
}

not_begun : (x : Stage) (A : Type 0) → (x ≡ knot.Waiting) ⊎ (x ≡ knot.Parked) → x ≡ knot.Begun → A
not_begun x A c e = ⊎_elim
    (λ w. absurd (false≢true (ap is_in_progress (sym w) ∙ ap is_in_progress e)))
    (λ p. absurd (false≢true (ap has_begun (sym p) ∙ ap has_begun e))) c
  where
    has_begun : Stage → Bool
    has_begun knot.Begun = true
    has_begun _ = false

stays_spread : (k : ℕ) (ks : List Knot) → StaysBut k ks (given_up ks)
stays_spread k ks = record {
  counted = (all_give_up ks).follows.size;
  parents = λ j. ⊎_elim (λ e. ap (λ (x : Knot). x.parent) e) (λ g. g.parent) ((all_spread ks).others j);
  begun = λ j other b. ⊎_elim
      (λ e. ap (λ (x : Knot). x.stage) e ∙ b)
      (λ g. not_begun (knot_at ks j).stage ((knot_at (given_up ks) j).stage ≡ knot.Begun)
      (⊎_elim (λ w. inl w.0) (λ p. inr p.0) g.stages) b)
      ((all_spread ks).others j);
}

stays_ended : (k : ℕ) (w : Waits) (h : How) → k < length w.knots → StaysBut k w.knots (ended w k h).knots
stays_ended k w how.Done b = stays_set w.knots k (record { parent = (knot_at w.knots k).parent; on = (knot_at w.knots k).on; stage = knot.Done }) b refl
stays_ended k w how.Failed b =
    stays_on k w.knots (with_stage w.knots k knot.Failed) (given_up (with_stage w.knots k knot.Failed))
    (stays_set w.knots k (record { parent = (knot_at w.knots k).parent; on = (knot_at w.knots k).on; stage = knot.Failed }) b refl)
    (stays_spread k (with_stage w.knots k knot.Failed))

listing_ended : (s : State) (k : ℕ) (h : How) → IsListingOf s.tree s.waits.listing → IsListingOf s.tree (ended s.waits k h).listing
listing_ended s k how.Done l = All-filter _ (ArePlaced s.tree) s.waits.listing l
listing_ended s k how.Failed l = l

-- ---- what may close

and_first : (a b : Bool) → (a && b) ≡ true → a ≡ true
and_first true b e = refl
and_first false b e = e

closing_unclaimed : (x : Stage) (w : Wait) (a : Activity) → is_closing (stage_of x w a) ≡ true → is_claimed a ≡ true → x ≡ knot.Begun →
    false ≡ true
closing_unclaimed x w (activity.Filling c f) h i e = ap (λ (y : Stage). is_closing (stage_of y w (activity.Filling c f))) (sym e) ∙ h
closing_unclaimed x w (activity.Out c b) h i e = ap (λ (y : Stage). is_closing (stage_of y w (activity.Out c b))) (sym e) ∙ h
closing_unclaimed x w activity.Idle h i e = i
closing_unclaimed x w (activity.Closing d) h i e = i

closing_progress : (x : Stage) (w : Wait) (a : Activity) → is_closing (stage_of x w a) ≡ true → is_in_progress x ≡ true
closing_progress knot.Waiting w a h = absurd (false≢true h)
closing_progress knot.Begun w a h = refl
closing_progress knot.Parked wait.Beginning a h = absurd (false≢true h)
closing_progress knot.Parked wait.Nothing a h = absurd (false≢true h)
closing_progress knot.Parked (wait.Part root field) a h = absurd (false≢true h)
closing_progress knot.Parked (wait.Child n) a h = absurd (false≢true h)
closing_progress knot.Stopped w a h = refl
closing_progress knot.Done w a h = absurd (false≢true h)
closing_progress knot.Failed w a h = absurd (false≢true h)
closing_progress knot.Dropped w a h = absurd (false≢true h)

closes : (s : State) (k : ℕ) → may_close s k ≡ true → is_closing (stage_at s k) ≡ true
closes s k m = and_first (is_closing (stage_at s k)) (all_over s (operation_at s k).children) m

-- it is in progress
pub close_progress : (s : State) (k : ℕ) → may_close s k ≡ true → is_in_progress (knot_at s.waits.knots k).stage ≡ true
close_progress s k m = closing_progress (knot_at s.waits.knots k).stage (operation_at s k).wait (operation_at s k).activity (closes s k m)

-- it was issued
pub close_knot : (s : State) (k : ℕ) → may_close s k ≡ true → k < length s.waits.knots
close_knot s k m = ⊎_elim
    (λ b. b)
    (λ g. absurd (false≢true (sym (ap (λ (x : Knot). is_in_progress x.stage) (get_or_past s.waits.knots k no_knot g)) ∙ close_progress s k m)))
    (cases_lt k (length s.waits.knots))

pub close_there : (s : State) (k : ℕ) → IsKept s → may_close s k ≡ true → k < length s.operations
close_there s k kept m = omega (arith, close_knot s k m, kept.counted)

-- one that is stopped has failed
pub close_stopped : (s : State) (k : ℕ) → (knot_at s.waits.knots k).stage ≡ knot.Stopped → how_closed s k ≡ how.Failed
close_stopped s k e = ap (λ (x : Stage). cond
    (not_stopped x && (came_to_end (operation_at s k).activity && all_good s (operation_at s k).children)) how.Done how.Failed) e

-- ---- what is kept

pub over_kept : (s : State) (k : ℕ) → IsKept s → may_close s k ≡ true → IsKept (over s k)
over_kept s k kept m =
    let stays = stays_ended k s.waits (how_closed s k) (close_knot s k m) in
    record {
      counted = kept.counted ∙ sym stays.counted;
      listing = listing_ended s k (how_closed s k) kept.listing;
      needs = kept.needs;
      begun = λ j claimed. elim (eqb_tells j k) [
        | inl h ↦ absurd (false≢true (closing_unclaimed (knot_at s.waits.knots k).stage (operation_at s k).wait (operation_at s k).activity
            (closes s k m)
            (subst (λ (i : ℕ). is_claimed (operation_at s i).activity ≡ true) h.1 claimed)
            (subst (λ (i : ℕ). (knot_at s.waits.knots i).stage ≡ knot.Begun) h.1 (kept.begun j claimed))))
        | inr h ↦ stays.begun j h.1 (kept.begun j claimed)
      ];
      lent = kept.lent;
      own = λ j. All-weaker (IsIssuedBy s.waits.knots j) (IsIssuedBy (ended s.waits k (how_closed s k)).knots j)
          (issued_stays k j s.waits.knots (ended s.waits k (how_closed s k)).knots stays) _ (kept.own j);
      live = live_behind s k kept.live;
    }

-- whatever the map is
pub over_stays : (s : State) (k : ℕ) (h : How) (w : Waits) (map : LogicalMap) → IsKept s → may_close s k ≡ true → h ≡ how_closed s k →
    w ≡ ended s.waits k h → All (IsRootBelow s.tree.roots) map → IsKept (state_of s.tree s.roots map s.operations w s.turns)
over_stays s k h w map kept m eh ew live =
    let over = over_kept s k kept m in
    subst (λ (v : Waits). IsKept (state_of s.tree s.roots map s.operations v s.turns))
    (ap (ended s.waits k) (sym eh) ∙ sym ew)
    (record {
      counted = over.counted;
      listing = over.listing;
      needs = over.needs;
      begun = over.begun;
      lent = over.lent;
      own = over.own;
      live = live;
    })

-- ---- one level after the other

pub last_level : (n k : ℕ) (s u : State) → may_close s k ≡ false → 0 < n → closed_up n s k ≡ u → s ≡ u
last_level zero k s u m b e = absurd (omega (arith, b))
last_level (suc n) k s u m b e = sym (ap (λ (c : Bool). cond c (up_from k (closed_up n) (over s k)) s) m) ∙ e

one_level : (n k : ℕ) (s u : State) → may_close s k ≡ true → 0 < n → closed_up n s k ≡ u → up_from k (closed_up (n - 1)) (over s k) ≡ u
one_level zero k s u m b e = absurd (omega (arith, b))
one_level (suc n) k s u m b e =
    let less : suc n - 1 ≡ n = omega arith in
    ap (λ (j : ℕ). up_from k (closed_up j) (over s k)) less ∙ sym (ap (λ (c : Bool). cond c (up_from k (closed_up n) (over s k)) s) m) ∙ e

pub last_up : (n k : ℕ) (s t u : State) → may_close s k ≡ true → 0 < n → closed_up n s k ≡ u → t ≡ over s k → k ≡ 0 → t ≡ u
last_up n k s t u m b e o z = o ∙ ap (λ (j : ℕ). up_from j (closed_up (n - 1)) (over s k)) (sym z) ∙ one_level n k s u m b e

pub next_up : (n k p : ℕ) (s t u : State) → may_close s k ≡ true → 0 < n → closed_up n s k ≡ u → t ≡ over s k → k ≢ 0 →
    p ≡ (operation_at t k).parent.0 → closed_up (n - 1) t p ≡ u
next_up n zero p s t u m b e o z q = absurd (z refl)
next_up n (suc k) p s t u m b e o z q =
    ap (λ (j : ℕ). closed_up (n - 1) t j) q
    ∙ ap (λ (x : State). closed_up (n - 1) x (operation_at x (suc k)).parent.0) o
    ∙ one_level n (suc k) s u m b e
