-- Which children a frame may ask for.
use Rattle.std.specs.Prelude.{◌≡◌, ◌≤◌, ◌⊎◌, ℕ, Some}
use Rattle.std.specs.List.{Contains}
use Rattle.machine_terms.specs.declared.frame.Before.{Before}
use Rattle.machine_terms.specs.declared.frame.Frame.{Frame}
use Rattle.machine_terms.specs.declared.value.Value.TheVariants.{Pending}
use Rattle.machine_terms.specs.Segments.{segment}

-- one whose value the frame holds as pending, or that it hasn't called yet
abbrev pub MayAsk : Frame → ℕ → Type 0
MayAsk f n = (Contains f.slots (Pending n) ⊎ Contains f.stack (Pending n)) ⊎ (f.children ≤ n)

-- the frame that a segment leaves asks for no other child than the one from which it ran
abbrev pub SegmentsAskNoOther : Type 0
SegmentsAskNoOther = (b : Before) (g : Frame) (n : ℕ) → (segment b).frame ≡ Some g → MayAsk g n → MayAsk b.frame n
