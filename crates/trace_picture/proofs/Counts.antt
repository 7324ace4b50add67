-- How many boxes and marks stand at a place, and in which order.
use Rattle.std.proofs.Common.{All, Bool, List, [], ap, arith, cond, false, inl, inr, refl, sym, take, true, zero, suc, ℕ, ◌+◌, ◌<◌, ◌≤◌, ◌∙◌, ◌∷◌, ◌≡◌}
use Rattle.std.specs.Prelude.{count_by, map, slice_get, ◌==◌}
use Rattle.std.proofs.lemmas.Bool.{eq-eqb}
use Rattle.std.proofs.lemmas.Bool.Decides.{eqb_tells}
use Rattle.std.proofs.lemmas.List.Elements.{All-cons, All-nil}
use Rattle.std.proofs.lemmas.List.Sums.{sum_by-cons}
use Rattle.run_journal.specs.declared.entry.Entry.{Entry}
use Rattle.run_journal.specs.declared.entry.StepKind.{StepKind}
use Rattle.run_journal.specs.declared.entry.StepKind.TheVariants.{Back, Claim, Copy, Give}
use Rattle.trace_picture.specs.declared.boxes.Ending.{Ending}
use Rattle.trace_picture.specs.declared.marks.MarkKind.{MarkKind}
use Rattle.trace_picture.specs.declared.marks.MarkKind.TheVariants as mark
use Rattle.trace_picture.specs.Laws.{BoxesAreInOrder, EachBoxHasALane, EachClaimHasOneBox, EachMarkedEntryHasOneMark, LineTellsProgress, begins_at, claims_from, count_at, is_claim, is_ending, is_fall, is_marked, is_rise, stands_at, with_place}
use Rattle.trace_picture.specs.Pictures.{Box, Mark, Step, boxes_from, ending_of, lanes_of, mark_kind, marks_from, segment_ending, step_of, steps_of, with_box, with_mark}

count-cons : {X : Type 0} (p : X → Bool) (x : X) (xs : List X) → count_by p (x ∷ xs) ≡ cond (p x) 1 0 + count_by p xs
count-cons p x xs = sum_by-cons (λ y. cond (p y) 1 0) x xs

-- one more at this place, and none more at another
count_here : {X : Type 0} (p : X → Bool) (x : X) (xs : List X) (n : ℕ) → p x ≡ true → count_by p xs ≡ n → count_by p (x ∷ xs) ≡ 1 + n
count_here p x xs n t h = count-cons p x xs ∙ (λ i. cond (t i) 1 0 + h i)

count_other : {X : Type 0} (p : X → Bool) (x : X) (xs : List X) (n : ℕ) → p x ≡ false → count_by p xs ≡ n → count_by p (x ∷ xs) ≡ n
count_other p x xs n f h = let e : count_by p (x ∷ xs) ≡ 0 + n = count-cons p x xs ∙ (λ i. cond (f i) 1 0 + h i) in omega (arith, e)

is_other : (k p : ℕ) → (k ≡ p → ⊥) → (k == p) ≡ false
is_other k p h = elim (eqb_tells k p) [ inl t ↦ absurd (h t.1) | inr f ↦ f.0 ]

-- ---- boxes

module _ (p k : ℕ) (e : Entry) (x : Ending) (bs : List Box) where
  abbrev own : Box
  own = record { op = e.op.0; seat = e.seat; begin = k; ending = x }

  box_other : (kind : StepKind) (n : ℕ) → (k ≡ p → ⊥) → begins_at p bs ≡ n → begins_at p (with_box (segment_ending kind x) k e bs) ≡ n
  box_other Claim n d h = count_other (λ (b : Box). b.begin == p) own bs n (is_other k p d) h
  box_other Copy n d h = h
  box_other Give n d h = h
  box_other Back n d h = h

  box_here : (kind : StepKind) → k ≡ p → begins_at p bs ≡ 0 → begins_at p (with_box (segment_ending kind x) k e bs) ≡ cond (is_claim kind) 1 0
  box_here Claim s h = count_here (λ (b : Box). b.begin == p) own bs 0 (eq-eqb k p s) h
  box_here Copy s h = h
  box_here Give s h = h
  box_here Back s h = h

no_box : (es : List Entry) (k p : ℕ) → p < k → begins_at p (boxes_from k es) ≡ 0
no_box [] k p l = refl
no_box (e ∷ es) k p l = box_other p k e (ending_of e (k + 1) es) (boxes_from (k + 1) es) e.kind 0 (λ s. omega (arith, s, l)) (no_box es (k + 1) p (omega arith))

one_box : (es : List Entry) (k n p : ℕ) → k + n ≡ p → begins_at p (boxes_from k es) ≡ count_at is_claim (slice_get es n)
one_box [] k n p s = refl
one_box (e ∷ es) k zero p s =
    box_here p k e (ending_of e (k + 1) es) (boxes_from (k + 1) es) e.kind (omega (arith, s)) (no_box es (k + 1) p (omega (arith, s)))
one_box (e ∷ es) k (suc n) p s =
    box_other p k e (ending_of e (k + 1) es) (boxes_from (k + 1) es) e.kind (count_at is_claim (slice_get es n)) (λ d. omega (arith, s, d))
    (one_box es (k + 1) n p (omega (arith, s)))

pub each_claim_has_one_box : EachClaimHasOneBox
each_claim_has_one_box es p = one_box es 0 p p (omega arith)

in_order : (es : List Entry) (k : ℕ) → map (λ (b : Box). b.begin) (boxes_from k es) ≡ claims_from k es
in_order [] k = refl
in_order (e ∷ es) k = by e.kind (in_order es (k + 1))
  where
    by : (kind : StepKind) → map (λ (b : Box). b.begin) (boxes_from (k + 1) es) ≡ claims_from (k + 1) es →
        map (λ (b : Box). b.begin) (with_box (segment_ending kind (ending_of e (k + 1) es)) k e (boxes_from (k + 1) es))
        ≡ with_place (is_claim kind) k (claims_from (k + 1) es)
    by Claim h = ap (λ ps. k ∷ ps) h
    by Copy h = h
    by Give h = h
    by Back h = h

pub boxes_are_in_order : BoxesAreInOrder
boxes_are_in_order es = in_order es 0

has_lane : (m : ℕ) (es : List Entry) (k : ℕ) → lanes_of es ≤ m → All (λ (b : Box). b.seat < m) (boxes_from k es)
has_lane m [] k l = All-nil (λ (b : Box). b.seat < m)
has_lane m (e ∷ es) k l = by e.kind (has_lane m es (k + 1) (omega (arith, l)))
  where
    by : (kind : StepKind) → All (λ (b : Box). b.seat < m) (boxes_from (k + 1) es) →
        All (λ (b : Box). b.seat < m) (with_box (segment_ending kind (ending_of e (k + 1) es)) k e (boxes_from (k + 1) es))
    by Claim h = All-cons (λ (b : Box). b.seat < m) (record { op = e.op.0; seat = e.seat; begin = k; ending = ending_of e (k + 1) es })
        (boxes_from (k + 1) es) (omega (arith, l)) h
    by Copy h = h
    by Give h = h
    by Back h = h

pub each_box_has_a_lane : EachBoxHasALane
each_box_has_a_lane es = has_lane (lanes_of es) es 0 (omega arith)

-- ---- marks

module _ (p k : ℕ) (e : Entry) (ms : List Mark) where
  abbrev of_kind : MarkKind → Mark
  of_kind kind = record { kind = kind; op = e.op.0; seat = e.seat; place = k }

  mark_other : (kind : StepKind) (n : ℕ) → (k ≡ p → ⊥) → stands_at p ms ≡ n → stands_at p (with_mark (mark_kind kind) k e ms) ≡ n
  mark_other Claim n d h = h
  mark_other Copy n d h = count_other (λ (m : Mark). m.place == p) (of_kind mark.Copy) ms n (is_other k p d) h
  mark_other Give n d h = h
  mark_other Back n d h = count_other (λ (m : Mark). m.place == p) (of_kind mark.Back) ms n (is_other k p d) h

  mark_here : (kind : StepKind) → k ≡ p → stands_at p ms ≡ 0 → stands_at p (with_mark (mark_kind kind) k e ms) ≡ cond (is_marked kind) 1 0
  mark_here Claim s h = h
  mark_here Copy s h = count_here (λ (m : Mark). m.place == p) (of_kind mark.Copy) ms 0 (eq-eqb k p s) h
  mark_here Give s h = h
  mark_here Back s h = count_here (λ (m : Mark). m.place == p) (of_kind mark.Back) ms 0 (eq-eqb k p s) h

no_mark : (es : List Entry) (k p : ℕ) → p < k → stands_at p (marks_from k es) ≡ 0
no_mark [] k p l = refl
no_mark (e ∷ es) k p l = mark_other p k e (marks_from (k + 1) es) e.kind 0 (λ s. omega (arith, s, l)) (no_mark es (k + 1) p (omega arith))

one_mark : (es : List Entry) (k n p : ℕ) → k + n ≡ p → stands_at p (marks_from k es) ≡ count_at is_marked (slice_get es n)
one_mark [] k n p s = refl
one_mark (e ∷ es) k zero p s =
    mark_here p k e (marks_from (k + 1) es) e.kind (omega (arith, s)) (no_mark es (k + 1) p (omega (arith, s)))
one_mark (e ∷ es) k (suc n) p s =
    mark_other p k e (marks_from (k + 1) es) e.kind (count_at is_marked (slice_get es n)) (λ d. omega (arith, s, d))
    (one_mark es (k + 1) n p (omega (arith, s)))

pub each_marked_entry_has_one_mark : EachMarkedEntryHasOneMark
each_marked_entry_has_one_mark es p = one_mark es 0 p p (omega arith)

-- ---- the line

rise_is : (kind : StepKind) → is_rise (step_of kind) ≡ is_claim kind
rise_is Claim = refl
rise_is Copy = refl
rise_is Give = refl
rise_is Back = refl

fall_is : (kind : StepKind) → is_fall (step_of kind) ≡ is_ending kind
fall_is Claim = refl
fall_is Copy = refl
fall_is Give = refl
fall_is Back = refl

module _ (p : Step → Bool) (q : StepKind → Bool) (same : (kind : StepKind) → p (step_of kind) ≡ q kind) where
  as_often : (es : List Entry) (n : ℕ) → count_by p (take n (steps_of es)) ≡ count_by (λ (e : Entry). q e.kind) (take n es)
  as_often [] zero = refl
  as_often [] (suc n) = refl
  as_often (e ∷ es) zero = refl
  as_often (e ∷ es) (suc n) =
      count-cons p (step_of e.kind) (take n (steps_of es)) ∙ (λ i. cond (same e.kind i) 1 0 + as_often es n i)
      ∙ sym (count-cons (λ (x : Entry). q x.kind) e (take n es))

pub line_tells_progress : LineTellsProgress
line_tells_progress = record { up = as_often is_rise is_claim rise_is; down = as_often is_fall is_ending fall_is }
