-- What waits for what where one operation has ended: it is Done, or it has failed and those that wait for it give up.
use Rattle.std.proofs.Common.{◌≡◌, ◌<◌, ◌⊎◌, ◌∷◌, ◌∙◌, ◌==◌, ◌&&◌, ◌||◌, ℕ, Bool, List, Some, [], ap, cond, false, filter, inl, inr, length, map, not, refl, subst, sym, true, eq-eqb, eqb-true, ⊎_elim}
use Rattle.std.specs.List.{Contains}
use Rattle.std.proofs.lemmas.Bool.{cases_eq, false≢true, ne_eqb}
use Rattle.std.proofs.lemmas.List.{length-set}
use Rattle.region_finder.specs.Listings.{Listed, is_op, listed_ops, without}
use Rattle.region_tree.specs.declared.tree.OpNumber.{OpNumber}
use Rattle.dependence_graph.specs.Entries.{Knot}
use Rattle.dependence_graph.specs.Graphs.{Waits, ended}
use Rattle.dependence_graph.specs.Knots.{given_up, has_failed, is_done, is_idle, knot_at, number, some_failed, stage_at, with_stage}
use Rattle.dependence_graph.specs.Laws.{GaveUp, NoneWaitsInVain, ReachesAll, WaitsForEarlier}
use Rattle.dependence_graph.specs.declared.stage.How.{How}
use Rattle.dependence_graph.specs.declared.stage.How.TheVariants as how
use Rattle.dependence_graph.specs.declared.stage.Stage.{Stage}
use Rattle.dependence_graph.specs.declared.stage.Stage.TheVariants.{Waiting, Parked, Stopped, Done, Failed, Dropped}
use Rattle.dependence_graph.proofs.Following.{all_give_up, done_other, done_same, stage_in, stage_other, stage_same}
use Rattle.dependence_graph.proofs.Vain.{failures_reach_all}
use Rattle.board_trees.specs.Waits.{has_ended}
use Rattle.changed_trees.proofs.Contained.{contains_cases, contains_first, contains_later, none_in}

abbrev pub ended_as : How → Stage
ended_as how.Done = Done
ended_as how.Failed = Failed

abbrev at_stage : Knot → Stage → Knot
at_stage x s = record { parent = x.parent; on = x.on; stage = s }

-- one has ended, others are as they were or gave up, and nothing waits in vain
pub record Ends (ks us : List Knot) (k : ℕ) (to : Stage) : Type 0 where
  pub size : length us ≡ length ks
  pub own : knot_at us k ≡ at_stage (knot_at ks k) to
  pub reached : NoneWaitsInVain us
  pub others : (x : ℕ) → ¬ (x ≡ k) → (knot_at us x ≡ knot_at ks x) ⊎ GaveUp ks us x
  pub done : (x : ℕ) → ¬ (x ≡ k) → is_done (stage_at us x) ≡ is_done (stage_at ks x)

some_failed_same : (ks us : List Knot) → ((j : ℕ) → has_failed (stage_at us j) ≡ has_failed (stage_at ks j)) → (on : List OpNumber) → some_failed us on ≡ some_failed ks on
some_failed_same ks us h [] = refl
some_failed_same ks us h (o ∷ on) = λ i. h o.0 i || some_failed_same ks us h on i

module _ (ks : List Knot) (k : ℕ) (there : k < length ks) (busy : is_idle (knot_at ks k).stage ≡ false) where
  not_own : (to : Stage) → is_idle to ≡ false → (x : ℕ) → is_idle (knot_at (with_stage ks k to) x).stage ≡ true → ¬ (x ≡ k)
  not_own to b x e q =
      false≢true (sym b ∙ sym (ap (λ (y : Knot). is_idle y.stage) (stage_same ks k to there)) ∙ ap (λ n. is_idle (knot_at (with_stage ks k to) n).stage) (sym q) ∙ e)

  -- ---- Done

  module _ (unfailed : has_failed (Some (knot_at ks k).stage) ≡ false) (vain : NoneWaitsInVain ks) where
    failed_same : (j : ℕ) → has_failed (stage_at (with_stage ks k Done) j) ≡ has_failed (stage_at ks j)
    failed_same j = ⊎_elim
        (λ e. ap (λ n. has_failed (stage_at (with_stage ks k Done) n)) e ∙ ap has_failed (done_same ks k Done there)
        ∙ sym (ap has_failed (stage_in ks k there) ∙ unfailed) ∙ ap (λ n. has_failed (stage_at ks n)) (sym e))
        (λ n. ap has_failed (done_other ks k j Done n)) (cases_eq j k)

    done_ends : Ends ks (with_stage ks k Done) k Done
    done_ends = record {
      size = length-set ks k _;
      own = stage_same ks k Done there;
      reached = λ x e.
          let same = stage_other ks k x Done (not_own Done refl x e) in
          some_failed_same ks (with_stage ks k Done) failed_same (knot_at (with_stage ks k Done) x).on
          ∙ ap (λ (y : Knot). some_failed ks y.on) same
          ∙ vain x (ap (λ (y : Knot). is_idle y.stage) (sym same) ∙ e);
      others = λ x n. inl (stage_other ks k x Done n);
      done = λ x n. ap is_done (done_other ks k x Done n);
    }

  -- ---- Failed

  module _ (order : WaitsForEarlier ks) where
    abbrev fs : List Knot
    fs = with_stage ks k Failed

    still_order : WaitsForEarlier fs
    still_order x j e c =
        let same = stage_other ks k x Failed (not_own Failed refl x (ap is_idle e)) in
        order x j (ap (λ (y : Knot). y.stage) (sym same) ∙ e) (subst (λ (y : Knot). Contains y.on (number j)) same c)

    all : ReachesAll fs (given_up fs)
    all = failures_reach_all fs still_order

    gave_up : (x : ℕ) → ¬ (x ≡ k) → GaveUp fs (given_up fs) x → GaveUp ks (given_up fs) x
    gave_up x n g =
        let same = stage_other ks k x Failed n in
        record {
          stages = subst (λ (y : Knot). ((y.stage ≡ Waiting) × ((knot_at (given_up fs) x).stage ≡ Dropped)) ⊎ ((y.stage ≡ Parked) × ((knot_at (given_up fs) x).stage ≡ Stopped))) same g.stages;
          parent = g.parent ∙ ap (λ (y : Knot). y.parent) same;
          on = g.on ∙ ap (λ (y : Knot). y.on) same;
          vain = g.vain;
        }

    own_failed : knot_at (given_up fs) k ≡ at_stage (knot_at ks k) Failed
    own_failed = ⊎_elim
        (λ e. e ∙ stage_same ks k Failed there)
        (λ g. ⊎_elim
        (λ w. let e : Failed ≡ Waiting = sym (ap (λ (y : Knot). y.stage) (stage_same ks k Failed there)) ∙ w.0 in absurd cc)
        (λ w. let e : Failed ≡ Parked = sym (ap (λ (y : Knot). y.stage) (stage_same ks k Failed there)) ∙ w.0 in absurd cc) g.stages)
        (all.others k)

    failed_ends : Ends ks (given_up fs) k Failed
    failed_ends = record {
      size = all.size ∙ length-set ks k _;
      own = own_failed;
      reached = all.reached;
      others = λ x n. ⊎_elim (λ e. inl (e ∙ stage_other ks k x Failed n)) (λ g. inr (gave_up x n g)) (all.others x);
      done = λ x n. (all_give_up fs).follows.done x ∙ ap is_done (done_other ks k x Failed n);
    }

  pub ends : (g : Waits) (h : How) → g.knots ≡ ks → has_failed (Some (knot_at ks k).stage) ≡ false → NoneWaitsInVain ks → WaitsForEarlier ks →
      Ends ks (ended g k h).knots k (ended_as h)
  ends g how.Done e unfailed vain order = subst (λ xs. Ends ks (with_stage xs k Done) k Done) (sym e) (done_ends unfailed vain)
  ends g how.Failed e unfailed vain order = subst (λ xs. Ends ks (given_up (with_stage xs k Failed)) k Failed) (sym e) (failed_ends order)

-- ---- what is listed

contains_filter : (p : Listed → Bool) (ls : List Listed) (e : Listed) → p e ≡ true → Contains ls e → Contains (filter p ls) e
contains_filter p [] e t c = absurd (none_in e c)
contains_filter p (l ∷ ls) e t c = chosen (p l) refl (contains_cases l ls e c) (contains_filter p ls e t)
  where
    chosen : (b : Bool) → p l ≡ b → (l ≡ e) ⊎ Contains ls e → (Contains ls e → Contains (filter p ls) e) → Contains (cond b (l ∷ filter p ls) (filter p ls)) e
    chosen true q (inl s) more = subst (λ z. Contains (z ∷ filter p ls) e) (sym s) (contains_first e (filter p ls))
    chosen true q (inr m) more = contains_later l (filter p ls) e (more m)
    chosen false q (inl s) more = absurd (false≢true (sym q ∙ ap p s ∙ t))
    chosen false q (inr m) more = more m

ops_without : (ls : List Listed) (k : ℕ) → listed_ops (without ls k) ≡ filter (λ (o : OpNumber). not (o.0 == k)) (listed_ops ls)
ops_without [] k = refl
ops_without (l ∷ ls) k = chosen (l.op.0 == k) (ops_without ls k)
  where
    chosen : (b : Bool) → listed_ops (without ls k) ≡ filter (λ (o : OpNumber). not (o.0 == k)) (listed_ops ls) →
        listed_ops (cond (not b) (l ∷ without ls k) (without ls k)) ≡ cond (not b) (l.op ∷ filter (λ (o : OpNumber). not (o.0 == k)) (listed_ops ls)) (filter (λ (o : OpNumber). not (o.0 == k)) (listed_ops ls))
    chosen true e = e
    chosen false e = ap (λ os. l.op ∷ os) e

module _ (p q : ℕ → Bool) where
  filter_same : ((j : ℕ) → q j ≡ p j) → (js : List ℕ) → filter p js ≡ filter q js
  filter_same h [] = refl
  filter_same h (j ∷ js) = λ i. cond (sym (h j) i) (j ∷ filter_same h js i) (filter_same h js i)

  filter_but : (k : ℕ) → ((j : ℕ) → q j ≡ (not (j == k) && p j)) → (js : List ℕ) →
      filter (λ (o : OpNumber). not (o.0 == k)) (map number (filter p js)) ≡ map number (filter q js)
  filter_but k h [] = refl
  filter_but k h (j ∷ js) =
      chosen (p j) (j == k) refl (filter_but k h js) ∙ ap (λ b. map number (cond b (j ∷ filter q js) (filter q js))) (sym (h j))
    where
      chosen : (b d : Bool) → (j == k) ≡ d → filter (λ (o : OpNumber). not (o.0 == k)) (map number (filter p js)) ≡ map number (filter q js) →
          filter (λ (o : OpNumber). not (o.0 == k)) (map number (cond b (j ∷ filter p js) (filter p js))) ≡ map number (cond (not d && b) (j ∷ filter q js) (filter q js))
      chosen true true e r = ap (λ d. cond (not d) (number j ∷ filter (λ (o : OpNumber). not (o.0 == k)) (map number (filter p js))) (filter (λ (o : OpNumber). not (o.0 == k)) (map number (filter p js)))) e ∙ r
      chosen true false e r = ap (λ d. cond (not d) (number j ∷ filter (λ (o : OpNumber). not (o.0 == k)) (map number (filter p js))) (filter (λ (o : OpNumber). not (o.0 == k)) (map number (filter p js)))) e ∙ ap (λ os. number j ∷ os) r
      chosen false true e r = r
      chosen false false e r = r

module _ (g : Waits) (k : ℕ) where
  pub entries_stay : (h : How) → (h ≡ how.Done → is_done (stage_at (ended g k h).knots k) ≡ true) → (e : Listed) → has_ended (ended g k h).knots e.op.0 ≡ false →
      Contains g.listing e → Contains (ended g k h).listing e
  entries_stay how.Failed own e f c = c
  entries_stay how.Done own e f c = contains_filter (λ l. not (is_op k l)) g.listing e (chosen (e.op.0 == k) refl) c
    where
      chosen : (b : Bool) → (e.op.0 == k) ≡ b → not b ≡ true
      chosen false w = refl
      chosen true w = absurd (false≢true (sym f ∙ ap (λ n. is_done (stage_at (ended g k how.Done).knots n)) (eqb-true e.op.0 k w) ∙ own refl))

  pub listed_stays : (h : How) (js : List ℕ) → ((x : ℕ) → ¬ (x ≡ k) → has_ended (ended g k h).knots x ≡ has_ended g.knots x) → has_ended g.knots k ≡ false →
      has_ended (ended g k h).knots k ≡ is_done (Some (ended_as h)) →
      listed_ops g.listing ≡ map number (filter (λ j. not (has_ended g.knots j)) js) →
      listed_ops (ended g k h).listing ≡ map number (filter (λ j. not (has_ended (ended g k h).knots j)) js)
  listed_stays how.Failed js others was own e =
      e ∙ ap (map number) (filter_same (λ j. not (has_ended g.knots j)) (λ j. not (has_ended (ended g k how.Failed).knots j)) (λ j. ap not (⊎_elim
      (λ q. ap (has_ended (ended g k how.Failed).knots) q ∙ own ∙ sym was ∙ ap (has_ended g.knots) (sym q)) (λ n. others j n) (cases_eq j k))) js)
  listed_stays how.Done js others was own e =
      ops_without g.listing k
      ∙ ap (filter (λ (o : OpNumber). not (o.0 == k))) e
      ∙ filter_but (λ j. not (has_ended g.knots j)) (λ j. not (has_ended (ended g k how.Done).knots j)) k (λ j. ⊎_elim
      (λ q. ap (λ n. not (has_ended (ended g k how.Done).knots n)) q ∙ ap not own ∙ ap (λ b. not b && not (has_ended g.knots j)) (sym (eq-eqb j k q)))
      (λ n. ap not (others j n) ∙ ap (λ b. not b && not (has_ended g.knots j)) (sym (ne_eqb j k n))) (cases_eq j k)) js
