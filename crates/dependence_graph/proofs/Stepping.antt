-- What a graph keeps behind each of its steps.
use Rattle.std.specs.Prelude.{Contains}
use Rattle.std.proofs.Common.{◌≡◌, ◌<◌, ◌≤◌, ◌+◌, ◌∷◌, [], ◌∙◌, ℕ, Bool, true, false, List, All, ⊎_elim, ap, sym, refl, subst, arith, length, set, suc, take, zero}
use Rattle.std.proofs.lemmas.Bool.{cases_lt, false≢true}
use Rattle.std.proofs.lemmas.List.{get_or_past, length-set}
use Rattle.std.proofs.lemmas.List.Elements.{All-nil}
use Rattle.region_finder.specs.Listings.{Listed, without}
use Rattle.region_tree.specs.Trees.{RegionTree}
use Rattle.region_tree.specs.declared.needs.Needs.{Needs}
use Rattle.region_tree.specs.declared.tree.OpNumber.{OpNumber}
use Rattle.least_set.specs.Members.{IsLeast, has}
use Rattle.dependence_graph.specs.Entries.{Knot}
use Rattle.dependence_graph.specs.Graphs.{Waits, issued, knot_on, new_graph, waited}
use Rattle.dependence_graph.specs.Issues.{IsFirstReady, IsOwn, state}
use Rattle.dependence_graph.specs.Knots.{all_done, is_done, is_idle, is_in_progress, is_ready, knot_at, no_knot, stage_at, with_stage}
use Rattle.dependence_graph.specs.Links.{AreReady, HasAll, HasReady, IsIssued, IsKept, IsLinked, link_at, no_link, restarted, waiters_at}
use Rattle.dependence_graph.specs.declared.link.Link.{Link}
use Rattle.dependence_graph.specs.declared.stage.Stage.TheVariants.{Begun, Done, Parked, Stopped}
use Rattle.dependence_graph.specs.declared.stage.Waiting.{Waiting as Wait}
use Rattle.dependence_graph.proofs.Covering.{extends_covered, size_covered}
use Rattle.dependence_graph.proofs.Extending.{Extends, IsChild, ready_extends}
use Rattle.dependence_graph.proofs.Following.{not_ready, progress_there, stage_in}
use Rattle.dependence_graph.proofs.Linked.{all_ready, issued_done, linked_done, progress_not_done, ready_done, same_bools}
use Rattle.dependence_graph.proofs.Parked.{all_parked, issued_parked, linked_parked, own_children, ready_parked}

open_in : (ks : List Knot) (op : ℕ) → is_in_progress (knot_at ks op).stage ≡ true → is_done (stage_at ks op) ≡ false
open_in ks op p =
    ap is_done (stage_in ks op (progress_there ks op p)) ∙ progress_not_done (knot_at ks op).stage p

-- one in progress ends as Done
pub done_linked : (ks : List Knot) (ls : List Link) (flags : List Bool) (listing : List Listed) (op : ℕ) →
    IsKept ks ls flags listing → is_in_progress (knot_at ks op).stage ≡ true → IsLinked (with_stage ks op Done) ls
done_linked ks ls flags listing op k p = linked_done ks op (progress_there ks op p) ls k.linked

pub done_ready : (ks : List Knot) (ls : List Link) (flags : List Bool) (listing : List Listed) (op : ℕ) →
    IsKept ks ls flags listing → is_in_progress (knot_at ks op).stage ≡ true →
    AreReady (with_stage ks op Done) (set flags op false)
done_ready ks ls flags listing op k p =
    let here = progress_there ks op p in
    ready_done ks op here flags k.ready (omega (arith, here, k.room))

pub kept_done : (ks : List Knot) (ls us : List Link) (flags f new : List Bool) (listing : List Listed) (op : ℕ) →
    IsKept ks ls flags listing → is_in_progress (knot_at ks op).stage ≡ true →
    IsLinked (with_stage ks op Done) us → AreReady (with_stage ks op Done) new → length new ≡ length flags →
    HasAll (set flags op false) f → HasReady (with_stage ks op Done) (waiters_at ls op) f → HasAll f new →
    (is_ready (with_stage ks op Done) (knot_at ks op).parent.0 ≡ true → has new (knot_at ks op).parent.0 ≡ true) →
    IsKept (with_stage ks op Done) us new (without listing op)
kept_done ks ls us flags f new listing op k p l a room h w g q =
    let here = progress_there ks op p in
    record {
      main = omega (arith, k.main, length-set ks op (record { parent = (knot_at ks op).parent; on = (knot_at ks op).on; stage = Done }));
      linked = l;
      ready = all_ready ks op here ls flags new (open_in ks op p) k.linked k.ready a
          (λ j b. g j (h j b)) (λ j c r. g j (w j c r)) q;
      room = omega (arith, k.room, room, length-set ks op (record { parent = (knot_at ks op).parent; on = (knot_at ks op).on; stage = Done }));
      listed = issued_done ks op here listing k.listed;
    }

-- one that has begun waits
begun_there : (ks : List Knot) (op : ℕ) → (knot_at ks op).stage ≡ Begun → op < length ks
begun_there ks op b = progress_there ks op (ap is_in_progress b)

module _ (t : RegionTree) (ks : List Knot) (ls : List Link) (flags : List Bool) (listing : List Listed) (op : ℕ) (on : Wait)
    (k : IsKept ks ls flags listing) (b : (knot_at ks op).stage ≡ Begun) (own : IsOwn ks op on) where
  children : All (IsChild ks op) (waited t listing op on)
  children = own_children t ks listing op on k.listed own

  here : op < length ks
  here = begun_there ks op b

  pub waits_linked : IsLinked (set ks op (knot_on ks (knot_at ks op).parent (waited t listing op on) Parked Stopped)) (restarted ls op)
  waits_linked = linked_parked ks op (waited t listing op on) b children here ls k.linked

  pub waits_ready : AreReady (set ks op (knot_on ks (knot_at ks op).parent (waited t listing op on) Parked Stopped)) flags
  waits_ready = ready_parked ks op (waited t listing op on) b children here flags k.ready

  pub kept_parked : (us : List Link) (new : List Bool) →
      IsLinked (set ks op (knot_on ks (knot_at ks op).parent (waited t listing op on) Parked Stopped)) us →
      AreReady (set ks op (knot_on ks (knot_at ks op).parent (waited t listing op on) Parked Stopped)) new →
      length new ≡ length flags → HasAll flags new →
      (is_ready (set ks op (knot_on ks (knot_at ks op).parent (waited t listing op on) Parked Stopped)) op ≡ true → has new op ≡ true) →
      IsKept (set ks op (knot_on ks (knot_at ks op).parent (waited t listing op on) Parked Stopped)) us new listing
  kept_parked us new l a room h f = record {
    main = omega (arith, k.main, length-set ks op (knot_on ks (knot_at ks op).parent (waited t listing op on) Parked Stopped));
    linked = l;
    ready = all_parked ks op (waited t listing op on) b children here flags new k.ready a h f;
    room = omega (arith, k.room, room, length-set ks op (knot_on ks (knot_at ks op).parent (waited t listing op on) Parked Stopped));
    listed = issued_parked ks op (waited t listing op on) b children here listing k.listed;
  }

-- operations are issued
module _ (t : RegionTree) (ks us : List Knot) (ls : List Link) (flags : List Bool) (listing more : List Listed) (parent : OpNumber) (needs : List Needs)
    (k : IsKept ks ls flags listing) (e : state us more ≡ issued t (state ks listing) parent needs) where
  extends : Extends ks us
  extends = subst (λ (w : Waits). Extends ks w.knots) (sym e) (extends_covered t parent needs (state ks listing))

  pub issued_size : length us ≡ length ks + length needs
  issued_size = ap (λ (w : Waits). length w.knots) e ∙ size_covered t parent needs (state ks listing)

  was_there : (j : ℕ) → is_ready ks j ≡ true → j < length ks
  was_there j r = ⊎_elim (λ l. l)
      (λ g. absurd (false≢true (sym (not_ready ks j (ap (λ (x : Knot). is_idle x.stage) (get_or_past ks j no_knot g))) ∙ r)))
      (cases_lt j (length ks))

  pub issued_ready : (f : List Bool) → ((j : ℕ) → has f j ≡ has flags j) → AreReady us f
  issued_ready f h j r =
      let was = sym (k.ready j) ∙ sym (h j) ∙ r in
      ready_extends ks us j extends (was_there j was) ∙ was

  pub kept_issued : (ms : List Link) (f new : List Bool) → ((j : ℕ) → has f j ≡ has flags j) → length ks + length needs ≤ length f →
      IsLinked us ms → AreReady us new → length new ≡ length f → HasAll f new →
      ((j : ℕ) → length ks ≤ j → is_ready us j ≡ true → has new j ≡ true) → All (IsIssued us) more →
      IsKept us ms new more
  kept_issued ms f new h room l a same all found listed = record {
    main = omega (arith, k.main, issued_size);
    linked = l;
    ready = λ j. same_bools (has new j) (is_ready us j) (a j)
        (λ r. ⊎_elim
        (λ b. all j (h j ∙ k.ready j ∙ sym (ready_extends ks us j extends b) ∙ r))
        (λ g. found j g r)
        (cases_lt j (length ks)));
    room = omega (arith, issued_size, same, room);
    listed = listed;
  }

-- ---- the first

pub first_is_ready : (ks : List Knot) (flags : List Bool) (k : ℕ) → ((j : ℕ) → has flags j ≡ is_ready ks j) →
    IsLeast flags k → IsFirstReady ks k
first_is_ready ks flags k h l = record {
  ready = sym (h k) ∙ l.member;
  least = λ j b. sym (h j) ∙ l.least j b;
}

pub new_kept : (flags : List Bool) → ((j : ℕ) → has flags j ≡ has [] j) → 1 ≤ length flags →
    IsKept new_graph.knots (no_link ∷ []) flags []
new_kept flags h l = record {
  main = omega arith;
  linked = record {
    size = refl;
    known = λ k j c. absurd (nothing k c);
    waiters = λ k j s w. absurd (nothing k w.on);
    children = λ k j s w. absurd (nothing k w.on);
    passed = λ k. all_of k;
  };
  ready = λ j. h j ∙ sym (not_ready new_graph.knots j (main_alone j));
  room = l;
  listed = All-nil (IsIssued new_graph.knots);
}
  where
    on_nothing : (k : ℕ) → (knot_at new_graph.knots k).on ≡ []
    on_nothing zero = refl
    on_nothing (suc k) = refl

    nothing : {o : OpNumber} (k : ℕ) → Contains (knot_at new_graph.knots k).on o → ⊥
    nothing k c = omega (arith, c.1, ap {B = ℕ} (λ (os : List OpNumber). length os) (on_nothing k))

    all_of : (k : ℕ) → all_done new_graph.knots (take (link_at (no_link ∷ []) k).passed (knot_at new_graph.knots k).on) ≡ true
    all_of zero = refl
    all_of (suc k) = refl

    main_alone : (k : ℕ) → is_idle (knot_at new_graph.knots k).stage ≡ false
    main_alone zero = refl
    main_alone (suc k) = refl
