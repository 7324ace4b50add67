-- What a segment leaves of a frame and parts, and of the same with roots by names that may be any of many: the same again.
use Rattle.std.proofs.Common.{◌≡◌, ◌++◌, ◌∷◌, ◌∙◌, ℕ, ℤ, List, Option, None, Some, [], ap, map, option_map, refl, subst, sym}
use Rattle.std.specs.Prelude.{All}
use Rattle.std.proofs.lemmas.List.Elements.{All-cons, All-head, All-tail}
use Rattle.std.proofs.lemmas.Option.{none-some, same_Some}
use Rattle.region_tree.specs.declared.piece.Part.{Part}
use Rattle.task_code.specs.declared.code.Code.{Code}
use Rattle.machine_terms.specs.declared.frame.Before.{Before}
use Rattle.machine_terms.specs.declared.frame.Frame.{Frame}
use Rattle.machine_terms.specs.declared.outcome.After.{After}
use Rattle.machine_terms.specs.declared.outcome.Yield.{Yield}
use Rattle.machine_terms.specs.declared.outcome.Yield.TheVariants as yield
use Rattle.machine_terms.specs.Machine.{Machine}
use Rattle.machine_terms.specs.Segments.{Stopped, frame_after, opened, segment, stop_of}
use Rattle.machine_terms.proofs.Kept.{stop_fixed}
use Rattle.machine_terms.proofs.KeptParts.{bare, bare_part}
use Rattle.machine_terms.proofs.StepKinds.{Fixed}
use Rattle.board_rules.specs.Ground.{Ground}
use Rattle.board_rules.specs.Running.{After as BoardAfter, Element}
use Rattle.regent_boards.specs.Frames as board
use Rattle.regent_boards.specs.RegentMachine.{regent_ground}
use Rattle.segment_renaming.specs.Renaming.{after_to, frame_to, part_to, yield_to}
use Rattle.segment_renaming.proofs.Segments.{segment_same}
use Rattle.code_boards.specs.Views.{after_out, before_in, board_segment, frame_in, last_frame, numbers_in_parts, numbers_in_pieces, parts_in, spaces_of, with_numbers, yield_out}
use Rattle.order_boards.proofs.Frames.{frame_seen}
use Rattle.order_boards.proofs.Parts.{regained}
use Rattle.board_trees.specs.Frames.{IsHeld}
use Rattle.board_trees.specs.Names.{named}

bare_to : (s : ℕ → ℕ) (qs : List Part) → bare (map (part_to (named s)) qs) ≡ map (part_to (named s)) (bare qs)
bare_to s [] = refl
bare_to s (q ∷ qs) = ap (λ rs. part_to (named s) (bare_part q) ∷ rs) (bare_to s qs)

module _ (code : Code) where
  abbrev G : Ground
  G = regent_ground (spaces_of code)

  numbers_to : (s : ℕ → ℕ) (qs : List Part) → numbers_in_parts code (map (part_to (named s)) qs) ≡ numbers_in_parts code qs
  numbers_to s [] = refl
  numbers_to s (q ∷ qs) = ap (λ zs. numbers_in_pieces code q.pieces ++ zs) (numbers_to s qs)

  held_again : (ps : List (Element G)) (zs : List ℤ) → All (IsHeld code) ps → All (IsHeld code) (with_numbers code ps zs)
  held_again [] zs h = h
  held_again (x ∷ ps) [] h = h
  held_again (x ∷ ps) (z ∷ zs) h = All-cons (IsHeld code) (record x { number = z }) (with_numbers code ps zs) (All-head (IsHeld code) x ps h)
      (held_again ps zs (All-tail (IsHeld code) x ps h))

  -- names that may be these, no two roots alike under any, and some of them
  module _ (turns : ℕ) (Naming : (ℕ → ℕ) → Type 0) (one : (s : ℕ → ℕ) → Naming s → (a b : ℕ) → s a ≡ s b → a ≡ b) (other : ℕ → ℕ) (is : Naming other)
      (g : Frame) (qs : List Part) (f : board.Frame) (ps : List (Element G))
      (frames : (s : ℕ → ℕ) → Naming s → frame_in f ≡ frame_to (named s) g)
      (alike : (s : ℕ → ℕ) → Naming s → parts_in code ps ≡ map (part_to (named s)) qs) where
    abbrev pub before : Before
    before = record { code = code; frame = g; parts = qs }

    abbrev stop : Stopped
    stop = stop_of before

    abbrev x : Machine
    x = stop.machine

    fixed : Fixed (opened before) x
    fixed = stop_fixed before

    abbrev seen : BoardAfter G
    seen = after_out code turns f ps (after_to (named other) (segment before))

    segment_is : (s : ℕ → ℕ) → Naming s → segment (before_in code f ps) ≡ after_to (named s) (segment before)
    segment_is s h = ap segment (λ i. record { code = code; frame = frames s h i; parts = alike s h i }) ∙ segment_same (named s) (one s h) before

    same : (s : ℕ → ℕ) → Naming s → after_to (named s) (segment before) ≡ after_to (named other) (segment before)
    same s h = sym (segment_is s h) ∙ segment_is other is

    -- what the tree's segment leaves, by what the table's leaves
    pub record Left (a : BoardAfter G) : Type 0 where
      pub text : a.text ≡ (segment before).text
      pub own : a.frame.own ≡ f.own
      pub needs : a.frame.needs ≡ f.needs
      pub frame : (h : Frame) → (segment before).frame ≡ Some h → (s : ℕ → ℕ) → Naming s → frame_in a.frame ≡ frame_to (named s) h
      pub parts : (s : ℕ → ℕ) → Naming s → parts_in code a.parts ≡ map (part_to (named s)) (segment before).parts
      pub held : All (IsHeld code) ps → All (IsHeld code) a.parts
      pub yields : (s : ℕ → ℕ) → Naming s → a.yields ≡ yield_out code turns f (yield_to (named s) (segment before).ends)
      pub ends_alike : (s t : ℕ → ℕ) → Naming s → Naming t → yield_to (named s) (segment before).ends ≡ yield_to (named t) (segment before).ends

    own_kept : (o : Option Frame) → (last_frame f o).own ≡ f.own
    own_kept None = refl
    own_kept (Some h) = refl

    needs_kept : (o : Option Frame) → (last_frame f o).needs ≡ f.needs
    needs_kept None = refl
    needs_kept (Some h) = refl

    -- where an instance goes on, the frame is the machine's
    goes_on : (y : Yield) (h : Frame) → frame_after y x.frame ≡ Some h → frame_after y x.frame ≡ Some x.frame
    goes_on (yield.Calls cs) h e = refl
    goes_on (yield.Want r field) h e = refl
    goes_on (yield.Await n) h e = refl
    goes_on (yield.Make d) h e = refl
    goes_on (yield.End v) h e = absurd (none-some h e)
    goes_on (yield.Fault k) h e = absurd (none-some h e)
    goes_on yield.MachineFault h e = absurd (none-some h e)

    frame_left : (h : Frame) → (segment before).frame ≡ Some h → (s : ℕ → ℕ) → Naming s → frame_in seen.frame ≡ frame_to (named s) h
    frame_left h e s n =
        let on = goes_on stop.ends h e in
        let machine : x.frame ≡ h = same_Some x.frame h (sym on ∙ e) in
        let alike : frame_to (named other) x.frame ≡ frame_to (named s) x.frame =
        same_Some (frame_to (named other) x.frame) (frame_to (named s) x.frame)
        (ap (option_map (frame_to (named other))) (sym on) ∙ ap (λ (a : After). a.frame) (sym (same s n)) ∙ ap (option_map (frame_to (named s))) on) in
        ap (λ o. frame_in (last_frame f (option_map (frame_to (named other)) o))) on
        ∙ frame_seen other f (opened before) x (frames other is) fixed ∙ alike ∙ ap (frame_to (named s)) machine

    parts_left : (s : ℕ → ℕ) → Naming s → parts_in code seen.parts ≡ map (part_to (named s)) (segment before).parts
    parts_left s h = ap (λ zs. parts_in code (with_numbers code ps zs)) (numbers_to other x.parts ∙ sym (numbers_to s x.parts))
        ∙ regained code ps (map (part_to (named s)) x.parts)
        (bare_to s x.parts ∙ ap (map (part_to (named s))) fixed.parts ∙ sym (bare_to s qs) ∙ ap bare (sym (alike s h)))

    seen_left : Left seen
    seen_left = record {
      text = refl;
      own = own_kept (option_map (frame_to (named other)) (segment before).frame);
      needs = needs_kept (option_map (frame_to (named other)) (segment before).frame);
      frame = frame_left;
      parts = parts_left;
      held = held_again ps (numbers_in_parts code (map (part_to (named other)) x.parts));
      yields = λ s h. ap (λ (a : After). yield_out code turns f a.ends) (sym (same s h));
      ends_alike = λ s t h k. ap (λ (a : After). a.ends) (same s h ∙ sym (same t k));
    }

    pub segment_left : Left (board_segment code turns f ps)
    segment_left = subst Left (ap (after_out code turns f ps) (sym (segment_is other is))) seen_left
