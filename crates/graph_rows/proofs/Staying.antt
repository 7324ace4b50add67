-- What a play keeps behind each call.
use Rattle.std.proofs.Common.{◌≡◌, ◌<◌, ◌≤◌, ◌++◌, ◌∷◌, [], ◌∙◌, ℕ, true, List, ⊎_elim, ap, arith, length, refl, set, sym}
use Rattle.std.proofs.lemmas.Bool.{and_parts, cases_eq}
use Rattle.std.proofs.lemmas.List.{get_or-set_other, get_or-set_same, length-set}
use Rattle.std.proofs.lemmas.List.Elements.{All-append, All-cons, All-filter, All-nil, All-weaker}
use Rattle.dependence_graph.specs.Entries.{Knot}
use Rattle.dependence_graph.specs.Graphs.{Waits, begun, ended, issued, parked}
use Rattle.dependence_graph.specs.Issues.{AreAllNeeds}
use Rattle.dependence_graph.specs.Knots.{all_done, given_up, is_idle, is_ready, knot_at, no_knot, with_stage}
use Rattle.dependence_graph.specs.declared.stage.How.{How}
use Rattle.dependence_graph.specs.declared.stage.How.TheVariants as how
use Rattle.dependence_graph.specs.declared.stage.Stage.TheVariants as stage
use Rattle.dependence_graph.specs.declared.stage.Waiting.{Waiting}
use Rattle.dependence_graph.proofs.Covering.{children_issued, extends_covered, listing_issued, size_covered}
use Rattle.dependence_graph.proofs.Following.{all_give_up, idle_there}
use Rattle.region_finder.specs.Listings.{ArePlaced, IsListingOf}
use Rattle.region_tree.specs.Trees.{RegionTree}
use Rattle.region_tree.specs.declared.needs.Needs.{Needs}
use Rattle.region_tree.specs.declared.tree.OpNumber.{OpNumber}
use Rattle.graph_rows.specs.Plays.{AreIssued, IsIssuedBy, IsOf, IsPlay}
use Rattle.graph_rows.specs.declared.family.Family.{Family}

-- ---- all that were issued keep their parents

record Keeps (ks us : List Knot) : Type 0 where
  size : length ks ≤ length us
  parent : (k : ℕ) → k < length ks → (knot_at us k).parent ≡ (knot_at ks k).parent

keeps_set : (ks : List Knot) (k : ℕ) (x : Knot) → k < length ks → x.parent ≡ (knot_at ks k).parent → Keeps ks (set ks k x)
keeps_set ks k x b p = record {
  size = omega (arith, length-set ks k x);
  parent = λ j l. ⊎_elim
      (λ e. ap (λ (n : ℕ). (knot_at (set ks k x) n).parent) e ∙ ap (λ (y : Knot). y.parent) (get_or-set_same ks k x no_knot b) ∙ p
      ∙ ap (λ (n : ℕ). (knot_at ks n).parent) (sym e))
      (λ n. ap (λ (y : Knot). y.parent) (get_or-set_other ks k j x no_knot n)) (cases_eq j k);
}

keeps_failed : (ks us : List Knot) → Keeps ks us → Keeps ks (given_up us)
keeps_failed ks us kept =
    let follows = (all_give_up us).follows in
    record {
      size = omega (arith, kept.size, follows.size);
      parent = λ k l. follows.parent k ∙ kept.parent k l;
    }

still_issued : (ks us : List Knot) (fs : List Family) → Keeps ks us → AreIssued ks fs → AreIssued us fs
still_issued ks us fs kept a = All-weaker (IsIssuedBy ks) (IsIssuedBy us)
    (λ f i child h. let own = i child h in
    (omega (arith, own.0, kept.size), ap (λ (p : OpNumber). p.0) (kept.parent child own.0) ∙ own.1)) fs a

-- one of those that a parent was given is its own
pub own_child : (ks : List Knot) (f : Family) (parent child : ℕ) → IsIssuedBy ks f → IsOf f parent child →
    (child < length ks) × ((knot_at ks child).parent.0 ≡ parent)
own_child ks f parent child i o =
    let own = i child (record { issuer = refl; from = o.from; below = o.below }) in (own.0, own.1 ∙ o.issuer)

-- ---- issues

pub play_issued : (t : RegionTree) (g : Waits) (fs : List Family) (parent : OpNumber) (ns : List Needs) → AreAllNeeds t ns →
    IsPlay t g fs → IsPlay t (issued t g parent ns) fs
play_issued t g fs parent ns a p =
    let more = extends_covered t parent ns g in
    record {
      listing = listing_issued t parent ns g a p.listing;
      issued = still_issued g.knots (issued t g parent ns).knots fs
          (record { size = more.size; parent = λ k l. ap (λ (y : Knot). y.parent) (more.same k l) }) p.issued;
    }

pub play_noted : (t : RegionTree) (g : Waits) (fs : List Family) (f : Family) (ns : List Needs) → AreAllNeeds t ns →
    f.children.first.0 ≡ length g.knots → f.children.count ≡ length ns → IsPlay t g fs →
    IsPlay t (issued t g f.parent ns) (fs ++ f ∷ [])
play_noted t g fs f ns a first count p =
    let behind = play_issued t g fs f.parent ns a p in
    let us = (issued t g f.parent ns).knots in
    record {
      listing = behind.listing;
      issued = All-append (IsIssuedBy us) fs (f ∷ []) behind.issued
          (All-cons (IsIssuedBy us) f []
          (λ child h. (
            omega (arith, h.below, first, count, size_covered t f.parent ns g),
            ap (λ (o : OpNumber). o.0) (children_issued t f.parent ns g child (omega (arith, h.from, first)) (omega (arith, h.below, first, count))),
          ))
          (All-nil (IsIssuedBy us)));
    }

-- ---- the other calls

play_with : (t : RegionTree) (g u : Waits) (fs : List Family) → IsListingOf t u.listing → Keeps g.knots u.knots →
    IsPlay t g fs → IsPlay t u fs
play_with t g u fs listing kept p = record { listing = listing; issued = still_issued g.knots u.knots fs kept p.issued }

-- one that is ready was issued
pub ready_there : (ks : List Knot) (k : ℕ) → is_ready ks k ≡ true → k < length ks
ready_there ks k r = idle_there ks k (and_parts (is_idle (knot_at ks k).stage) (all_done ks (knot_at ks k).on) r).0

pub play_begun : (t : RegionTree) (g : Waits) (fs : List Family) (op : ℕ) → op < length g.knots → IsPlay t g fs →
    IsPlay t (begun g op) fs
play_begun t g fs op b p = play_with t g (begun g op) fs p.listing (keeps_set g.knots op _ b refl) p

pub play_parked : (t : RegionTree) (g : Waits) (fs : List Family) (op : ℕ) (on : Waiting) → op < length g.knots → IsPlay t g fs →
    IsPlay t (parked t g op on) fs
play_parked t g fs op on b p = play_with t g (parked t g op on) fs p.listing (keeps_set g.knots op _ b refl) p

pub play_ended : (t : RegionTree) (g : Waits) (fs : List Family) (op : ℕ) (h : How) → op < length g.knots → IsPlay t g fs →
    IsPlay t (ended g op h) fs
play_ended t g fs op how.Done b p =
    play_with t g (ended g op how.Done) fs (All-filter _ (ArePlaced t) g.listing p.listing) (keeps_set g.knots op _ b refl) p
play_ended t g fs op how.Failed b p =
    play_with t g (ended g op how.Failed) fs p.listing (keeps_failed g.knots (with_stage g.knots op stage.Failed) (keeps_set g.knots op _ b refl)) p
