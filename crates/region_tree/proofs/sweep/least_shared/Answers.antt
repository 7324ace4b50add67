use Rattle.std.proofs.Common.{ℕ, ◌<◌, List, All, sym, subst, rules}
use Rattle.std.specs.List.Sorted.{IsNonDecreasingBy}
use Rattle.std.proofs.lemmas.List.Elements.{All-weaker}
use Rattle.std.proofs.lemmas.List.Sorted.{IsNonDecreasingBy-from_sort_by_key, All-permutation}
use Rattle.std.proofs.lemmas.Option.{IfSome_then}
use Rattle.region_tree.specs.Sharing.{IsShared, IsSpan}
use Rattle.region_tree.specs.declared.sweep.Span.{Span}
use Rattle.region_tree.proofs.Spanning.{sharing_from_spans, disjoint_from_spans, least_from_spans}
use Rattle.region_tree.proofs.Spanning.{found-permutation}
use Rattle.region_tree.proofs.sweep.least_shared.Goals as goal

pub first_shared-requires-clause-rising : goal.first_shared-requires-clause-rising
first_shared-requires-clause-rising c =
    subst (IsNonDecreasingBy (λ (s : Span). s.first)) (sym c.deref.ensures.value)
    (IsNonDecreasingBy-from_sort_by_key (λ (s : Span). s.first) _
    c.sort_unstable_by_key.ensures.sorted (λ a r q k. search rules))

pub first_shared-requires-clause-some : goal.first_shared-requires-clause-some
first_shared-requires-clause-some c =
    subst (All (λ (s : Span). s.first < s.end)) (sym c.deref.ensures.value)
    (All-weaker (IsSpan c.args.sets.now) (λ (s : Span). s.first < s.end) (λ s h. h.some) _
    (All-permutation (IsSpan c.args.sets.now) _ _ c.sort_unstable_by_key.ensures.permutation
    c.in_ok-spans.ensures.spans))

pub returns-clause-none : goal.returns-clause-none
returns-clause-none c e =
    let sorted = c.sort_unstable_by_key.new.self.items in
    disjoint_from_spans c.args.sets.now sorted
    (found-permutation c.args.sets.now c.in_ok-spans.spans.items sorted
    c.sort_unstable_by_key.ensures.permutation c.in_ok-spans.ensures.found) (subst
    (λ (l : List Span). (z : ℕ) → ¬ IsShared l z) c.deref.ensures.value
    (c.first_shared.ensures.none e))

pub returns-clause-some : goal.returns-clause-some
returns-clause-some c =
    let sorted = c.sort_unstable_by_key.new.self.items in
    IfSome_then c.first_shared.result c.first_shared.ensures.shared
    (λ z s. sharing_from_spans c.args.sets.now sorted
    (All-permutation (IsSpan c.args.sets.now) _ _ c.sort_unstable_by_key.ensures.permutation
    c.in_ok-spans.ensures.spans) z (subst (λ (l : List Span). IsShared l z)
    c.deref.ensures.value s))

pub returns-clause-least : goal.returns-clause-least
returns-clause-least c =
    let sorted = c.sort_unstable_by_key.new.self.items in
    IfSome_then c.first_shared.result c.first_shared.ensures.least
    (λ x none. least_from_spans c.args.sets.now sorted
    (found-permutation c.args.sets.now c.in_ok-spans.spans.items sorted
    c.sort_unstable_by_key.ensures.permutation c.in_ok-spans.ensures.found) x
    (subst (λ (l : List Span). (z : ℕ) → z < x → ¬ IsShared l z) c.deref.ensures.value none))
