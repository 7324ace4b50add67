-- What a state keeps behind a step that changes one operation.
use Rattle.std.specs.Prelude.{◌≢◌}
use Rattle.std.proofs.Common.{◌≡◌, ◌<◌, ◌∙◌, ℕ, true, List, All, ap, get_or, inl, inr, length, set, subst, sym}
use Rattle.std.proofs.lemmas.Bool.Decides.{eqb_tells}
use Rattle.std.proofs.lemmas.List.{get_or-set_other, get_or-set_same, length-set}
use Rattle.std.proofs.lemmas.List.Elements.{All-get_or, All-set, All-weaker}
use Rattle.region_tree.specs.Needs.{AreNeeds}
use Rattle.region_tree.specs.declared.needs.Needs.{Needs}
use Rattle.region_tree.specs.declared.tree.OpNumber.{OpNumber}
use Rattle.logical_map.specs.Maps.{LogicalMap}
use Rattle.dependence_graph.specs.Entries.{Knot}
use Rattle.dependence_graph.specs.Graphs.{Waits}
use Rattle.dependence_graph.specs.Knots.{knot_at, no_knot}
use Rattle.dependence_graph.specs.declared.stage.Stage.TheVariants.{Begun}
use Rattle.board_terms.specs.declared.operation.Operation.{Operation}
use Rattle.board_terms.specs.States.{State, no_operation, operation_at}
use Rattle.board_state.specs.Kept.{HasNeeds, IsKept, IsLent, is_claimed, state_of}
use Rattle.board_gives.specs.Gives.{IsIssuedBy}
use Rattle.board_gives.specs.Makes.{IsRootBelow}

-- ---- knots

-- all keep their parents, and all but one have begun if they had
pub record StaysBut (k : ℕ) (ks us : List Knot) : Type 0 where
  pub counted : length us ≡ length ks
  pub parents : (j : ℕ) → (knot_at us j).parent ≡ (knot_at ks j).parent
  pub begun : (j : ℕ) → j ≢ k → (knot_at ks j).stage ≡ Begun → (knot_at us j).stage ≡ Begun

pub stays_set : (ks : List Knot) (k : ℕ) (x : Knot) → k < length ks → x.parent ≡ (knot_at ks k).parent → StaysBut k ks (set ks k x)
stays_set ks k x b p = record {
  counted = length-set ks k x;
  parents = λ j. elim (eqb_tells j k) [
    | inl h ↦ ap (λ (i : ℕ). (knot_at (set ks k x) i).parent) h.1
        ∙ ap (λ (y : Knot). y.parent) (get_or-set_same ks k x no_knot b) ∙ p
        ∙ ap (λ (i : ℕ). (knot_at ks i).parent) (sym h.1)
    | inr h ↦ ap (λ (y : Knot). y.parent) (get_or-set_other ks k j x no_knot h.1)
  ];
  begun = λ j other e. ap (λ (y : Knot). y.stage) (get_or-set_other ks k j x no_knot other) ∙ e;
}

pub issued_stays : (k i : ℕ) (ks us : List Knot) → StaysBut k ks us → (c : OpNumber) → IsIssuedBy ks i c → IsIssuedBy us i c
issued_stays k i ks us s c h = (
  subst (λ (n : ℕ). c.0 < n) (sym s.counted) h.0,
  ap (λ (p : OpNumber). p.0) (s.parents c.0) ∙ h.1,
)

-- ---- one operation with its knot

pub kept_by : (s : State) (k : ℕ) (o : Operation) (w : Waits) (map : LogicalMap) (turns : ℕ) → IsKept s → k < length s.operations →
    HasNeeds s.tree o → o.children ≡ (operation_at s k).children →
    w.listing ≡ s.waits.listing → StaysBut k s.waits.knots w.knots →
    (is_claimed o.activity ≡ true → (knot_at w.knots k).stage ≡ Begun) → IsLent o → All (IsRootBelow s.tree.roots) map →
    IsKept (state_of s.tree s.roots map (set s.operations k o) w turns)
kept_by s k o w map turns kept b f c l stays begun lent live = record {
  counted = length-set s.operations k o ∙ kept.counted ∙ sym stays.counted;
  listing = subst (λ ls. Rattle.region_finder.specs.Listings.IsListingOf s.tree ls) (sym l) kept.listing;
  needs = All-set (HasNeeds s.tree) s.operations k o f kept.needs;
  begun = λ j claimed. elim (eqb_tells j k) [
    | inl h ↦ subst (λ (i : ℕ). (knot_at w.knots i).stage ≡ Begun) (sym h.1)
        (begun (ap (λ (x : Operation). is_claimed x.activity) (sym (here j h.1)) ∙ claimed))
    | inr h ↦ stays.begun j h.1
        (kept.begun j (ap (λ (x : Operation). is_claimed x.activity) (sym (get_or-set_other s.operations k j o no_operation h.1)) ∙ claimed))
  ];
  lent = All-set IsLent s.operations k o lent kept.lent;
  own = λ j. All-weaker (IsIssuedBy s.waits.knots j) (IsIssuedBy w.knots j) (issued_stays k j s.waits.knots w.knots stays) _
      (subst (All (IsIssuedBy s.waits.knots j)) (sym (children_at j)) (kept.own j));
  live = live;
}
  where
    here : (j : ℕ) → j ≡ k → get_or (set s.operations k o) j no_operation ≡ o
    here j e = ap (λ (i : ℕ). get_or (set s.operations k o) i no_operation) e ∙ get_or-set_same s.operations k o no_operation b

    children_at : (j : ℕ) → (get_or (set s.operations k o) j no_operation).children ≡ (operation_at s j).children
    children_at j = elim (eqb_tells j k) [
      | inl h ↦ ap (λ (x : Operation). x.children) (here j h.1) ∙ c ∙ ap (λ (i : ℕ). (operation_at s i).children) (sym h.1)
      | inr h ↦ ap (λ (x : Operation). x.children) (get_or-set_other s.operations k j o no_operation h.1)
    ]

-- one that needs what it needed
pub kept_with : (s : State) (k : ℕ) (o : Operation) (w : Waits) (map : LogicalMap) (turns : ℕ) → IsKept s → k < length s.operations →
    o.frame.needs ≡ (operation_at s k).frame.needs → o.children ≡ (operation_at s k).children →
    w.listing ≡ s.waits.listing → StaysBut k s.waits.knots w.knots →
    (is_claimed o.activity ≡ true → (knot_at w.knots k).stage ≡ Begun) → IsLent o → All (IsRootBelow s.tree.roots) map →
    IsKept (state_of s.tree s.roots map (set s.operations k o) w turns)
kept_with s k o w map turns kept b f = kept_by s k o w map turns kept b
    (subst (λ (n : Needs). AreNeeds s.tree n.items) (sym f) (All-get_or (HasNeeds s.tree) s.operations k no_operation b kept.needs))
