-- A segment leaves no pending child but those that it had and those that it calls.
use Rattle.std.proofs.Common.{◌≡◌, ◌≤◌, arith, ℕ, inl, inr, refl, subst}
use Rattle.std.specs.List.{Contains}
use Rattle.std.proofs.lemmas.List.Elements.{All-contains, All-contains_itself, All-weaker}
use Rattle.machine_terms.specs.declared.frame.Frame.{Frame}
use Rattle.machine_terms.specs.declared.value.Value.{Value}
use Rattle.machine_terms.specs.declared.value.Value.TheVariants as value
use Rattle.segment_regions.specs.Pendings.{MayAsk, SegmentsAskNoOther}
use Rattle.segment_regions.proofs.Values.{frame_kept_from}
use Rattle.segment_regions.proofs.Words.{FrameFrom, IsKeptFrom}

-- where a value is pending, the frame may ask for it
abbrev MayStand : Frame → Value → Type 0
MayStand f v = (n : ℕ) → v ≡ value.Pending n → MayAsk f n

stand_kept : (f : Frame) → IsKeptFrom (MayStand f) f.children
stand_kept f = record {
  number = λ z n e. absurd cc;
  space = λ s n e. absurd cc;
  pending = λ i l n e. inr (let same : i ≡ n = cc in subst (λ (m : ℕ). f.children ≤ m) same l);
  child = λ p r h c n e. absurd cc;
}

its_own : (f : Frame) → FrameFrom (MayStand f) f.children f
its_own f = record {
  slots = All-weaker (Contains f.slots) (MayStand f)
      (λ v c n e. inl (inl (subst (Contains f.slots) e c))) f.slots (All-contains_itself f.slots);
  stack = All-weaker (Contains f.stack) (MayStand f)
      (λ v c n e. inl (inr (subst (Contains f.stack) e c))) f.stack (All-contains_itself f.stack);
  children = omega arith;
}

pub segments_ask_no_other : SegmentsAskNoOther
segments_ask_no_other b g n e a = by a (frame_kept_from (MayStand b.frame) b.frame.children (stand_kept b.frame) b (its_own b.frame) g e)
  where
    by : MayAsk g n → FrameFrom (MayStand b.frame) b.frame.children g → MayAsk b.frame n
    by (inl (inl c)) h = All-contains (MayStand b.frame) g.slots (value.Pending n) h.slots c n refl
    by (inl (inr c)) h = All-contains (MayStand b.frame) g.stack (value.Pending n) h.stack c n refl
    by (inr l) h = inr (omega (arith, l, h.children))
