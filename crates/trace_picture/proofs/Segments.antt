-- Boxes tell segments.
use Rattle.std.proofs.Common.{All, Bool, List, None, Option, Some, [], ap, append_assoc, arith, false, inl, inr, length, length-append, refl, subst, sym, true, ℕ, ◌+◌, ◌++◌, ◌<◌, ◌≤◌, ◌∙◌, ◌∷◌, ◌≡◌}
use Rattle.std.specs.Prelude.{slice_get, ◌==◌, if◌then◌else◌}
use Rattle.std.proofs.lemmas.Bool.{and_from, and_parts, cases_lt, eq-eqb, eqb-true, false≢true}
use Rattle.std.proofs.lemmas.List.Elements.{All-cons, All-nil}
use Rattle.std.proofs.lemmas.Option.{same_Some, slice_get_past}
use Rattle.run_journal.specs.declared.entry.Entry.{Entry}
use Rattle.run_journal.specs.declared.entry.StepKind.{StepKind}
use Rattle.run_journal.specs.declared.entry.StepKind.TheVariants.{Back, Claim, Copy, Give}
use Rattle.trace_picture.specs.declared.boxes.Ending.{Ending}
use Rattle.trace_picture.specs.Laws.{BoxesTellSegments, EndsSo, IsBoxOf, IsEndAt, IsMarkOf, MarksTellEntries, entry_of, is_ending}
use Rattle.trace_picture.specs.Pictures.{Box, boxes_from, ending_at, ending_of, is_same, mark_kind, marks_from, or_else, segment_ending, with_box, with_mark}

seam : (pre : List Entry) (e : Entry) (es : List Entry) → slice_get (pre ++ e ∷ es) (length pre) ≡ Some e
seam [] e es = refl
seam (x ∷ pre) e es = seam pre e es

-- what stands at the place of the next entry
pub there : (all pre : List Entry) (e : Entry) (es : List Entry) (k : ℕ) → all ≡ pre ++ e ∷ es → k ≡ length pre → slice_get all k ≡ Some e
there all pre e es k is at = (λ i. slice_get (is i) (at i)) ∙ seam pre e es

-- the entries go on behind the next one
pub go_on : (all pre : List Entry) (e : Entry) (es : List Entry) → all ≡ pre ++ e ∷ es → all ≡ (pre ++ e ∷ []) ++ es
go_on all pre e es is = is ∙ sym (append_assoc pre (e ∷ []) es)

pub next_place : (pre : List Entry) (e : Entry) (k : ℕ) → k ≡ length pre → k + 1 ≡ length (pre ++ e ∷ [])
next_place pre e k at = omega (arith, at, length-append pre (e ∷ []))

nothing : {A : Type 0} {x : A} {o : Option A} → o ≡ None → o ≡ Some x → ⊥
nothing none some = cc

self_same : (b : Box) (kind : StepKind) → is_same (entry_of Claim b) (entry_of kind b) ≡ true
self_same b kind = and_from (b.op == b.op) (b.seat == b.seat) (eq-eqb b.op b.op refl) (eq-eqb b.seat b.seat refl)

-- an entry of the box's operation and seat, by its kind
of_box : (b : Box) (e : Entry) (kind : StepKind) → is_same (entry_of Claim b) e ≡ true → e.kind ≡ kind → e ≡ entry_of kind b
of_box b e kind same q =
    let p = and_parts (e.op.0 == b.op) (e.seat == b.seat) same in
    let ops : e.op.0 ≡ b.op = eqb-true e.op.0 b.op p.0 in
    let seats : e.seat ≡ b.seat = eqb-true e.seat b.seat p.1 in
    λ i. record { kind = q i; op = record { 0 = ops i }; seat = seats i }

module _ (b : Box) (e : Entry) (all : List Entry) (k : ℕ) (here : slice_get all k ≡ Some e) where
  entry_is : (kind : StepKind) → slice_get all k ≡ Some (entry_of kind b) → e ≡ entry_of kind b
  entry_is kind h = same_Some e (entry_of kind b) (sym here ∙ h)

  -- another operation or seat ends nothing
  not_other : is_same (entry_of Claim b) e ≡ false → ¬ IsEndAt all b k
  not_other other (inl h) = false≢true (sym other ∙ ap (is_same (entry_of Claim b)) (entry_is Give h) ∙ self_same b Give)
  not_other other (inr h) = false≢true (sym other ∙ ap (is_same (entry_of Claim b)) (entry_is Back h) ∙ self_same b Back)

  -- a claim or a copy neither
  not_kind : is_ending e.kind ≡ false → ¬ IsEndAt all b k
  not_kind other (inl h) = false≢true (sym other ∙ ap (λ (x : Entry). is_ending x.kind) (entry_is Give h))
  not_kind other (inr h) = false≢true (sym other ∙ ap (λ (x : Entry). is_ending x.kind) (entry_is Back h))

  -- the next entry ends the segment, or it goes on
  by_entry : (later : Ending) → b.begin < k → ((n : ℕ) → b.begin < n → n < k → ¬ IsEndAt all b n) → (¬ IsEndAt all b k → EndsSo all b later) →
      (s : Bool) → is_same (entry_of Claim b) e ≡ s → (kind : StepKind) → e.kind ≡ kind →
      EndsSo all b (or_else (if s then ending_at k kind else None) later)
  by_entry later behind none more false d kind q = more (not_other d)
  by_entry later behind none more true d Claim q = more (not_kind (ap is_ending q))
  by_entry later behind none more true d Copy q = more (not_kind (ap is_ending q))
  by_entry later behind none more true d Give q = record { behind = behind; there = here ∙ ap Some (of_box b e Give d q); first = none }
  by_entry later behind none more true d Back q = record { behind = behind; there = here ∙ ap Some (of_box b e Back d q); first = none }

-- where nothing ends a segment before a place, it ends as the entries from there on say
ends : (b : Box) (all pre es : List Entry) (k : ℕ) → all ≡ pre ++ es → k ≡ length pre → b.begin < k →
    ((n : ℕ) → b.begin < n → n < k → ¬ IsEndAt all b n) → EndsSo all b (ending_of (entry_of Claim b) k es)
ends b all pre [] k is at behind none = λ n l h. elim (cases_lt n k) [
  | inl below ↦ none n l below h
  | inr above ↦ past n above h
]
  where
    past : (n : ℕ) → k ≤ n → ¬ IsEndAt all b n
    past n above (inl h) = nothing (slice_get_past all n (omega (arith, at, above, ap length is, length-append pre []))) h
    past n above (inr h) = nothing (slice_get_past all n (omega (arith, at, above, ap length is, length-append pre []))) h
ends b all pre (e ∷ es) k is at behind none =
    by_entry b e all k (there all pre e es k is at) (ending_of (entry_of Claim b) (k + 1) es) behind none
    (λ no. ends b all (pre ++ e ∷ []) es (k + 1) (go_on all pre e es is) (next_place pre e k at) (omega arith)
    (λ n l below h. elim (cases_lt n k) [
      | inl less ↦ none n l less h
      | inr more ↦ no (subst (λ (m : ℕ). IsEndAt all b m) (omega (arith, below, more)) h)
    ]))
    (is_same (entry_of Claim b) e) refl e.kind refl

-- a claim's box, and those of the entries behind it
by_kind : (all pre : List Entry) (e : Entry) (es : List Entry) (k : ℕ) → all ≡ pre ++ e ∷ es → k ≡ length pre → (kind : StepKind) → e.kind ≡ kind →
    All (IsBoxOf all) (boxes_from (k + 1) es) →
    All (IsBoxOf all) (with_box (segment_ending kind (ending_of e (k + 1) es)) k e (boxes_from (k + 1) es))
by_kind all pre e es k is at Claim q rest = All-cons (IsBoxOf all) b (boxes_from (k + 1) es) (record {
  claim = there all pre e es k is at ∙ ap Some e_is;
  ending = subst (λ (c : Entry). EndsSo all b (ending_of c (k + 1) es)) (sym e_is)
      (ends b all (pre ++ e ∷ []) es (k + 1) (go_on all pre e es is) (next_place pre e k at) (omega arith) (λ n l below h. absurd (omega (arith, l, below))));
}) rest
  where
    b : Box
    b = record { op = e.op.0; seat = e.seat; begin = k; ending = ending_of e (k + 1) es }

    e_is : e ≡ entry_of Claim b
    e_is = λ i. record { kind = q i; op = e.op; seat = e.seat }
by_kind all pre e es k is at Copy q rest = rest
by_kind all pre e es k is at Give q rest = rest
by_kind all pre e es k is at Back q rest = rest

boxes : (all pre es : List Entry) (k : ℕ) → all ≡ pre ++ es → k ≡ length pre → All (IsBoxOf all) (boxes_from k es)
boxes all pre [] k is at = All-nil (IsBoxOf all)
boxes all pre (e ∷ es) k is at = by_kind all pre e es k is at e.kind refl
    (boxes all (pre ++ e ∷ []) es (k + 1) (go_on all pre e es is) (next_place pre e k at))

pub boxes_tell_segments : BoxesTellSegments
boxes_tell_segments es = boxes es [] es 0 refl refl

-- ---- marks

marks_by : (all pre : List Entry) (e : Entry) (es : List Entry) (k : ℕ) → all ≡ pre ++ e ∷ es → k ≡ length pre → (kind : StepKind) → e.kind ≡ kind →
    All (IsMarkOf all) (marks_from (k + 1) es) → All (IsMarkOf all) (with_mark (mark_kind kind) k e (marks_from (k + 1) es))
marks_by all pre e es k is at Claim q rest = rest
marks_by all pre e es k is at Copy q rest = All-cons (IsMarkOf all) _ (marks_from (k + 1) es)
    (there all pre e es k is at ∙ ap Some (λ i. record { kind = q i; op = e.op; seat = e.seat })) rest
marks_by all pre e es k is at Give q rest = rest
marks_by all pre e es k is at Back q rest = All-cons (IsMarkOf all) _ (marks_from (k + 1) es)
    (there all pre e es k is at ∙ ap Some (λ i. record { kind = q i; op = e.op; seat = e.seat })) rest

marks : (all pre es : List Entry) (k : ℕ) → all ≡ pre ++ es → k ≡ length pre → All (IsMarkOf all) (marks_from k es)
marks all pre [] k is at = All-nil (IsMarkOf all)
marks all pre (e ∷ es) k is at = marks_by all pre e es k is at e.kind refl
    (marks all (pre ++ e ∷ []) es (k + 1) (go_on all pre e es is) (next_place pre e k at))

pub marks_tell_entries : MarksTellEntries
marks_tell_entries es = marks es [] es 0 refl refl
