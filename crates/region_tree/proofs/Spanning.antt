-- Spans that are collected from sets.
use Rattle.std.proofs.Common.{◌≡◌, ℕ, ◌<◌, ◌≤◌, true, false, ⊎_elim, List, [], ◌∷◌, ◌++◌, length}
use Rattle.std.proofs.Common.{All, refl, sym, ◌∙◌, arith}
use Rattle.std.proofs.lemmas.Bool.{cases_lt, false≢true, false_from_ne_true, and_parts, cases_order}
use Rattle.std.proofs.lemmas.List.Elements.{All-push, All-contains, Contains-push}
use Rattle.std.proofs.lemmas.List.Elements.{Contains-append_left}
use Rattle.std.proofs.lemmas.List.Sorted.{Contains-permutation}
use Rattle.std.specs.List.Sorted.{IsPermutation}
use Rattle.plain_values.specs.Points.{has, meets}
use Rattle.point_sets.specs.Stretches.{IsStretchFrom}
use Rattle.point_sets.proofs.Rising.{meets_where}
use Rattle.point_sets.specs.declared.TheConstants.{POINT_LIMIT}
use Rattle.region_tree.specs.Sharing.{IsShared, IsSpan, IsFound, AreFound, AreDisjoint, AreSharing}
use Rattle.region_tree.specs.Sharing.{IsLeastShared, set_of_colour}
use Rattle.region_tree.specs.declared.sweep.Span.{Span}

-- the spans of a colour's set up to a point were added to a list
pub record IsAdding (sets : List (List ℕ)) (colour from : ℕ) (before spans : List Span) : Type 0
  where
    pub limit : from ≤ POINT_LIMIT
    pub sound : All (IsSpan sets) spans
    pub found : (z : ℕ) → z < from → has (set_of_colour sets colour) z ≡ true → IsFound spans colour z
    pub kept : (other z : ℕ) → IsFound before other z → IsFound spans other z

pub adding_none : (sets : List (List ℕ)) (colour : ℕ) (before : List Span) →
    All (IsSpan sets) before → IsAdding sets colour 0 before before
adding_none sets colour before sound = record {
  limit = omega arith;
  sound = sound;
  found = λ z l. absurd (omega arith);
  kept = λ other z f. f;
}

found_left : (spans : List Span) (s : Span) (colour z : ℕ) → IsFound spans colour z →
    IsFound (spans ++ s ∷ []) colour z
found_left spans s colour z f = record {
  span = f.span;
  listed = Contains-append_left spans (s ∷ []) f.span f.listed;
  of_colour = f.of_colour;
  holds = f.holds;
}

pub adding_more : (sets : List (List ℕ)) (colour from start end : ℕ) (before spans : List Span) →
    colour < length sets → IsAdding sets colour from before spans →
    IsStretchFrom (set_of_colour sets colour) from start end → end ≤ POINT_LIMIT →
    IsAdding sets colour end before (spans ++ record { first = start; end = end; colour = colour } ∷
    [])
adding_more sets colour from start end before spans l h stretch limit = record {
  limit = limit;
  sound = All-push (IsSpan sets) spans (record { first = start; end = end; colour = colour })
      h.sound (record { colour = l; some = stretch.some; points = λ z p. stretch.full z p.0 p.1 });
  found = λ z under there. ⊎_elim (λ old. found_left spans
      (record { first = start; end = end; colour = colour }) colour z (h.found z old there))
      (λ new. here z new under there) (cases_lt z from);
  kept = λ other z f. found_left spans (record { first = start; end = end; colour = colour }) other
      z (h.kept other z f);
}
  where
    here : (z : ℕ) → from ≤ z → z < end → has (set_of_colour sets colour) z ≡ true →
        IsFound (spans ++ record { first = start; end = end; colour = colour } ∷ []) colour z
    here z over under there = record {
      span = record { first = start; end = end; colour = colour };
      listed = Contains-push spans (record { first = start; end = end; colour = colour });
      of_colour = refl;
      holds = (
        ⊎_elim (λ gap. absurd (false≢true (sym (stretch.gap z over gap) ∙ there))) (λ o. o)
            (cases_lt z start),
        under,
      );
    }

-- nothing of the set is left
pub adding_all : (sets : List (List ℕ)) (colour from : ℕ) (before spans : List Span) →
    IsAdding sets colour from before spans → ((z : ℕ) → from ≤ z →
    has (set_of_colour sets colour) z ≡ false) → AreFound sets spans colour
adding_all sets colour from before spans h none z there =
    ⊎_elim (λ under. h.found z under there)
    (λ over. absurd (false≢true (sym (none z over) ∙ there))) (cases_lt z from)

-- ---- what is known of spans, in any order

module _ (sets : List (List ℕ)) (spans : List Span) where
  pub sharing_from_spans : All (IsSpan sets) spans → (z : ℕ) → IsShared spans z → (a : ℕ) ×
      (b : ℕ) × AreSharing sets a b z
  sharing_from_spans sound z s =
      ⊎_elim (λ e. absurd (s.colours e))
      (λ o. ⊎_elim (λ l. (
        s.one.colour,
        s.other.colour,
        record {
          order = l;
          below = other.colour;
          in_first = one.points z s.one_holds;
          in_second = other.points z s.other_holds;
        },
      ))
      (λ l. (
        s.other.colour,
        s.one.colour,
        record {
          order = l;
          below = one.colour;
          in_first = other.points z s.other_holds;
          in_second = one.points z s.one_holds;
        },
      )) o)
      (cases_order s.one.colour s.other.colour)
    where
      one : IsSpan sets s.one
      one = All-contains (IsSpan sets) spans s.one sound s.one_listed

      other : IsSpan sets s.other
      other = All-contains (IsSpan sets) spans s.other sound s.other_listed

  module _ (found : (colour : ℕ) → colour < length sets → AreFound sets spans colour) where
    spans_from_sharing : (a b z : ℕ) → AreSharing sets a b z → IsShared spans z
    spans_from_sharing a b z h =
        let first = found a (omega (arith, h.order, h.below)) z h.in_first in
        let second = found b h.below z h.in_second in
        record {
          one = first.span;
          other = second.span;
          one_listed = first.listed;
          other_listed = second.listed;
          colours = λ e. absurd (omega (arith, h.order, first.of_colour, second.of_colour));
          one_holds = first.holds;
          other_holds = second.holds;
        }

    pub disjoint_from_spans : ((z : ℕ) → ¬ IsShared spans z) → AreDisjoint sets
    disjoint_from_spans none i j l m =
        false_from_ne_true (meets (set_of_colour sets i) (set_of_colour sets j))
        (λ e. let at = meets_where (set_of_colour sets i) (set_of_colour sets j) e in
        let parts = and_parts (has (set_of_colour sets i) at.0) (has (set_of_colour sets j) at.0) at.1 in
        none at.0 (spans_from_sharing i j at.0 (record
        { order = l; below = m; in_first = parts.0; in_second = parts.1 })))

    pub least_from_spans : (x : ℕ) → ((z : ℕ) → z < x → ¬ IsShared spans z) → IsLeastShared sets x
    least_from_spans x none q a b l h = none q l (spans_from_sharing a b q h)

-- another order of the spans finds the same
pub found-permutation : (sets : List (List ℕ)) (spans sorted : List Span) →
    IsPermutation spans sorted → ((colour : ℕ) → colour < length sets →
    AreFound sets spans colour) → (colour : ℕ) → colour < length sets → AreFound sets sorted colour
found-permutation sets spans sorted p found colour l z there =
    let f = found colour l z there in
    record {
      span = f.span;
      listed = Contains-permutation spans sorted f.span p f.listed;
      of_colour = f.of_colour;
      holds = f.holds;
    }
