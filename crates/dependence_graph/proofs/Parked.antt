-- What is so behind an operation that begins to wait for children.
use Rattle.std.specs.Prelude.{Contains, None, Some, nat_lt}
use Rattle.std.proofs.Common.{◌≡◌, ◌≢◌, ◌<◌, ◌&&◌, [], ◌∙◌, ℕ, Bool, true, false, cond, List, All, ⊎_elim, ap, sym, refl, subst, arith, length, set, take}
use Rattle.std.proofs.lemmas.Bool.{cases_Bool, cases_eq, false≢true}
use Rattle.std.proofs.lemmas.List.{get_or-set_other, get_or-set_same, length-set}
use Rattle.std.proofs.lemmas.List.Elements.{All-cons, All-contains, All-nil, All-weaker}
use Rattle.region_finder.specs.Listings.{Listed}
use Rattle.region_tree.specs.Trees.{RegionTree}
use Rattle.region_tree.specs.declared.tree.OpNumber.{OpNumber}
use Rattle.least_set.specs.Members.{has}
use Rattle.dependence_graph.specs.Entries.{Knot}
use Rattle.dependence_graph.specs.Graphs.{knot_on, waited}
use Rattle.dependence_graph.specs.Issues.{IsOwn}
use Rattle.dependence_graph.specs.Knots.{all_done, is_done, is_idle, is_ready, knot_at, no_knot, number, some_failed, stage_at}
use Rattle.dependence_graph.specs.Links.{AreReady, HasAll, IsIssued, IsLinked, WaitsFor, link_at, no_link, restarted, waiters_at}
use Rattle.dependence_graph.specs.declared.link.Link.{Link}
use Rattle.dependence_graph.specs.declared.stage.Stage.{Stage}
use Rattle.dependence_graph.specs.declared.stage.Stage.TheVariants.{Begun, Parked, Stopped, Waiting}
use Rattle.dependence_graph.specs.declared.stage.Waiting.{Waiting as Wait}
use Rattle.dependence_graph.specs.declared.stage.Waiting.TheVariants.{Child, Nothing, Part}
use Rattle.dependence_graph.proofs.Extending.{IsChild, found_children}
use Rattle.dependence_graph.proofs.Following.{all_done_same, stage_in}
use Rattle.dependence_graph.proofs.Linked.{same_bools}
use Rattle.dependence_graph.proofs.Refreshing.{waiters_set}

-- what an operation waits for are children of its own
pub own_children : (t : RegionTree) (ks : List Knot) (ls : List Listed) (op : ℕ) (on : Wait) →
    All (IsIssued ks) ls → IsOwn ks op on → All (IsChild ks op) (waited t ls op on)
own_children t ks ls op Nothing a o = All-nil (IsChild ks op)
own_children t ks ls op (Part needs) a o = found_children t ks op needs.items ls a
own_children t ks ls op (Child c) a o =
    All-cons (IsChild ks op) c [] (record { there = o.0; parent = o.1 }) (All-nil (IsChild ks op))

parked_stage : (ks : List Knot) (on : List OpNumber) (P : Stage → Type 0) → P Parked → P Stopped →
    P (cond (some_failed ks on) Stopped Parked)
parked_stage ks on P p s = ⊎_elim
    (λ e. subst (λ (b : Bool). P (cond b Stopped Parked)) (sym e) s)
    (λ e. subst (λ (b : Bool). P (cond b Stopped Parked)) (sym e) p)
    (cases_Bool (some_failed ks on))

module _ (ks : List Knot) (op : ℕ) (on : List OpNumber) (begun : (knot_at ks op).stage ≡ Begun)
    (children : All (IsChild ks op) on) (here : op < length ks) where
  abbrev waits : Knot
  waits = knot_on ks (knot_at ks op).parent on Parked Stopped

  abbrev pub parked_knots : List Knot
  parked_knots = set ks op (knot_on ks (knot_at ks op).parent on Parked Stopped)

  own : knot_at parked_knots op ≡ waits
  own = get_or-set_same ks op waits no_knot here

  other : (k : ℕ) → k ≢ op → knot_at parked_knots k ≡ knot_at ks k
  other k n = get_or-set_other ks op k waits no_knot n

  parent_kept : (k : ℕ) → (knot_at parked_knots k).parent ≡ (knot_at ks k).parent
  parent_kept k = ⊎_elim
      (λ e. ap (λ (n : ℕ). (knot_at parked_knots n).parent) e ∙ ap (λ (x : Knot). x.parent) own
      ∙ ap (λ (n : ℕ). (knot_at ks n).parent) (sym e))
      (λ n. ap (λ (x : Knot). x.parent) (other k n)) (cases_eq k op)

  size_kept : length parked_knots ≡ length ks
  size_kept = length-set ks op waits

  done_kept : (k : ℕ) → is_done (stage_at parked_knots k) ≡ is_done (stage_at ks k)
  done_kept k = ⊎_elim
      (λ e. ap (λ (n : ℕ). is_done (stage_at parked_knots n)) e
      ∙ ap is_done (stage_in parked_knots op (omega (arith, here, size_kept)) ∙ ap (λ (x : Knot). Some x.stage) own)
      ∙ parked_stage ks on (λ (s : Stage). is_done (Some s) ≡ false) refl refl
      ∙ sym (ap is_done (stage_in ks op here ∙ ap (λ (s : Stage). Some s) begun))
      ∙ ap (λ (n : ℕ). is_done (stage_at ks n)) (sym e))
      (λ n. ap (λ (m : ℕ). is_done (cond (nat_lt k m) (Some (knot_at parked_knots k).stage) None)) size_kept
      ∙ ap (λ (x : Knot). is_done (cond (nat_lt k (length ks)) (Some x.stage) None)) (other k n))
      (cases_eq k op)

  still : (k j : ℕ) → k ≢ op → WaitsFor parked_knots k j → WaitsFor ks k j
  still k j n w = record {
    on = subst (λ (x : Knot). Contains x.on (number j)) (other k n) w.on;
    undone = sym (done_kept j) ∙ w.undone;
  }

  child : (j : ℕ) → Contains (knot_at parked_knots op).on (number j) → IsChild ks op (number j)
  child j c = All-contains (IsChild ks op) on (number j) children (subst (λ (x : Knot). Contains x.on (number j)) own c)

  pub linked_parked : (ls : List Link) → IsLinked ks ls → IsLinked parked_knots (restarted ls op)
  linked_parked ls l = record {
    size = length-set ls op _ ∙ l.size ∙ sym size_kept;
    known = λ k j c. ⊎_elim
        (λ e. omega (arith, size_kept, (child j (subst (λ (n : ℕ). Contains (knot_at parked_knots n).on (number j)) e c)).there))
        (λ n. omega (arith, size_kept, l.known k j (subst (λ (x : Knot). Contains x.on (number j)) (other k n) c)))
        (cases_eq k op);
    waiters = λ k j s w. ⊎_elim
        (λ e. absurd (no_waiting (sym (ap (λ (x : Knot). x.stage) own) ∙ ap (λ (n : ℕ). (knot_at parked_knots n).stage) (sym e) ∙ s)))
        (λ n. subst (λ (ns : List ℕ). Contains ns k) (sym (waiters_set ls op 0 j))
        (l.waiters k j (sym (ap (λ (x : Knot). x.stage) (other k n)) ∙ s) (still k j n w)))
        (cases_eq k op);
    children = λ k j s w. ⊎_elim
        (λ e. ap (λ (o : OpNumber). o.0) (parent_kept j)
        ∙ (child j (subst (λ (n : ℕ). Contains (knot_at parked_knots n).on (number j)) e w.on)).parent ∙ sym e)
        (λ n. ap (λ (o : OpNumber). o.0) (parent_kept j)
        ∙ l.children k j (sym (ap (λ (x : Knot). x.stage) (other k n)) ∙ s) (still k j n w))
        (cases_eq k op);
    passed = λ k. ⊎_elim
        (λ e. ap (λ (n : ℕ). all_done parked_knots (take (link_at (restarted ls op) n).passed (knot_at parked_knots n).on)) e
        ∙ ap (λ (m : Link). all_done parked_knots (take m.passed (knot_at parked_knots op).on))
        (get_or-set_same ls op (record { waiters = waiters_at ls op; passed = 0 }) no_link (omega (arith, here, l.size))))
        (λ n. ap (λ (m : Link). all_done parked_knots (take m.passed (knot_at parked_knots k).on))
        (get_or-set_other ls op k (record { waiters = waiters_at ls op; passed = 0 }) no_link n)
        ∙ all_done_same ks parked_knots done_kept (take (link_at ls k).passed (knot_at parked_knots k).on)
        ∙ ap (λ (x : Knot). all_done ks (take (link_at ls k).passed x.on)) (other k n) ∙ l.passed k)
        (cases_eq k op);
  }
    where
      no_waiting : waits.stage ≡ Waiting → ⊥
      no_waiting = parked_stage ks on (λ (s : Stage). s ≡ Waiting → ⊥) (λ e. absurd cc) (λ e. absurd cc)

  not_op : (k : ℕ) → is_ready ks k ≡ true → k ≢ op
  not_op k r e = absurd (false≢true (sym (ap (λ (s : Stage). is_idle s && all_done ks (knot_at ks op).on) begun)
      ∙ ap (is_ready ks) (sym e) ∙ r))

  ready_other : (k : ℕ) → k ≢ op → is_ready parked_knots k ≡ is_ready ks k
  ready_other k n =
      ap (λ (x : Knot). is_idle x.stage && all_done parked_knots x.on) (other k n)
      ∙ ap (λ (b : Bool). is_idle (knot_at ks k).stage && b) (all_done_same ks parked_knots done_kept (knot_at ks k).on)

  pub ready_parked : (flags : List Bool) → ((k : ℕ) → has flags k ≡ is_ready ks k) → AreReady parked_knots flags
  ready_parked flags r k h =
      let was = sym (r k) ∙ h in
      ready_other k (not_op k was) ∙ was

  pub all_parked : (flags new : List Bool) → ((k : ℕ) → has flags k ≡ is_ready ks k) → AreReady parked_knots new →
      HasAll flags new → (is_ready parked_knots op ≡ true → has new op ≡ true) →
      (k : ℕ) → has new k ≡ is_ready parked_knots k
  all_parked flags new r a h f k = same_bools (has new k) (is_ready parked_knots k) (a k)
      (λ now. ⊎_elim
      (λ e. ap (has new) e ∙ f (ap (is_ready parked_knots) (sym e) ∙ now))
      (λ n. h k (r k ∙ sym (ready_other k n) ∙ now))
      (cases_eq k op))

  pub issued_parked : (listing : List Listed) → All (IsIssued ks) listing → All (IsIssued parked_knots) listing
  issued_parked listing a = All-weaker (IsIssued ks) (IsIssued parked_knots) (λ l i. record {
    there = omega (arith, i.there, size_kept);
    parent = parent_kept l.op.0 ∙ i.parent;
  }) listing a
