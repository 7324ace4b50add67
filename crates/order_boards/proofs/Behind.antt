-- What a segment leaves of an instance and of its operation: they are one again.
use Rattle.std.proofs.Common.{◌≡◌, ℕ, ℤ, List, [], ◌∷◌, ◌++◌, true, Some, refl, sym, ap, ◌∙◌, subst, map, option_map, arith}
use Rattle.std.proofs.lemmas.Option.{same_Some}
use Rattle.plain_values.specs.Points.{has}
use Rattle.region_tree.specs.declared.piece.Part.{Part}
use Rattle.region_tree.specs.declared.tree.RootId.{RootId}
use Rattle.region_tree.specs.Requirements.{Requirement}
use Rattle.task_code.specs.declared.code.Code.{Code}
use Rattle.machine_terms.specs.declared.frame.Frame.{Frame}
use Rattle.machine_terms.specs.declared.order.Instance.{Instance}
use Rattle.machine_terms.specs.declared.outcome.Yield.{Yield}
use Rattle.machine_terms.specs.Copies.{give_parts}
use Rattle.machine_terms.specs.Machine.{Machine}
use Rattle.machine_terms.specs.Orders.{before_of}
use Rattle.machine_terms.specs.Segments.{frame_after, opened}
use Rattle.machine_terms.proofs.FitParts.{PartsFit}
use Rattle.machine_terms.proofs.KeptParts.{bare, bare_part}
use Rattle.machine_terms.proofs.StepKinds.{Fixed}
use Rattle.memory_laws.specs.Closing.{AreOwn}
use Rattle.memory_laws.proofs.Shapes.{alike_parts}
use Rattle.board_rules.specs.Ground.{Ground}
use Rattle.board_rules.specs.Processes.{Map, run_all}
use Rattle.board_rules.specs.Running.{Element, Machine as BoardMachine, puts}
use Rattle.regent_boards.specs.Frames as board
use Rattle.regent_boards.specs.Laws.{by_number}
use Rattle.regent_boards.specs.RegentMachine.{regent_ground}
use Rattle.segment_renaming.specs.Renaming.{frame_to, part_to, yield_to}
use Rattle.order_laws.proofs.Resuming.{left_by}
use Rattle.code_boards.specs.Views.{board_segment, frame_in, frame_out, numbers_in_parts, numbers_in_pieces, parts_in, spaces_of, with_numbers}
use Rattle.order_boards.proofs.Alike.{Alike, Grown}
use Rattle.order_boards.proofs.Frames.{frame_seen}
use Rattle.order_boards.proofs.Given.{AreAsHeld, stands_given}
use Rattle.order_boards.proofs.Parts.{regained}
use Rattle.order_boards.proofs.Renumbering.{names}
use Rattle.order_boards.proofs.Stands.{Naming, Stands, board_root_same, named, some_naming}

-- ---- parts with other numbers of roots

bare_to : (s : ℕ → ℕ) (qs : List Part) → bare (map (part_to (names s)) qs) ≡ map (part_to (names s)) (bare qs)
bare_to s [] = refl
bare_to s (q ∷ qs) = ap (λ rs. part_to (names s) (bare_part q) ∷ rs) (bare_to s qs)

module _ (code : Code) where
  numbers_to : (s : ℕ → ℕ) (qs : List Part) → numbers_in_parts code (map (part_to (names s)) qs) ≡ numbers_in_parts code qs
  numbers_to s [] = refl
  numbers_to s (q ∷ qs) = ap (λ zs. numbers_in_pieces code q.pieces ++ zs) (numbers_to s qs)

  held_again : (ps : List (Element (regent_ground (spaces_of code)))) (zs : List ℤ) → AreAsHeld code ps → AreAsHeld code (with_numbers code ps zs)
  held_again [] zs h = tt
  held_again (x ∷ ps) [] h = h
  held_again (x ∷ ps) (z ∷ zs) h = (h.0, held_again ps zs h.1)

module _ (code : Code) (turns : ℕ) where
  abbrev pub G : Ground
  G = regent_ground (spaces_of code)

  abbrev pub M : ℕ → BoardMachine G
  M = by_number (spaces_of code) (board_segment code turns)

  -- an instance with its operation, before a segment
  module _ (before : List ℕ) (who : ℕ → ℕ) (n : ℕ) (i : Instance) (N : List Requirement) (f : board.Frame) (ps : List (Element G))
      (vs : List board.Answer) (m : Map G) (a : Alike code before who n i N f ps vs m) where
    -- some other numbers of its roots
    abbrev pub other : ℕ → ℕ
    other = named code who n i.contents m a.stands 0

    pub other_names : Naming code i.contents who other
    other_names = some_naming code who n i.contents m a.stands 0

    -- what is left, and how the segment ends, is the same with all numbers that the roots may have
    abbrev pub LeftAlike : Yield → Frame → Type 0
    LeftAlike y g = (s : ℕ → ℕ) → Naming code i.contents who s →
        (option_map (frame_to (names s)) (frame_after y g) ≡ option_map (frame_to (names other)) (frame_after y g))
        × (yield_to (names s) y ≡ yield_to (names other) y)

    -- behind the segment
    module _ (x : Machine) (t : List ℕ) (fixed : Fixed (opened (before_of code i)) x) where
      abbrev pub left : List (Element G)
      left = with_numbers code ps (numbers_in_parts code (map (part_to (names other)) x.parts))

      abbrev pub seen : board.Frame
      seen = frame_out f (frame_to (names other) x.frame)

      pub left_parts : (s : ℕ → ℕ) → Naming code i.contents who s → parts_in code left ≡ map (part_to (names s)) x.parts
      left_parts s is = ap (λ zs. parts_in code (with_numbers code ps zs)) (numbers_to code other x.parts ∙ sym (numbers_to code s x.parts))
          ∙ regained code ps (map (part_to (names s)) x.parts)
          (bare_to s x.parts ∙ ap (map (part_to (names s))) fixed.parts ∙ sym (bare_to s i.parts) ∙ ap bare (sym (a.parts s is)))

      pub left_held : AreAsHeld code left
      left_held = held_again code ps (numbers_in_parts code (map (part_to (names other)) x.parts)) a.held

      pub left_fits : PartsFit x.parts
      left_fits = fixed.fits a.fit

      -- the instance with what the segment left
      abbrev pub gone_on : Instance
      gone_on = record (left_by x t i) { frame = x.frame }

      pub gone_own : AreOwn before x.frame.own i.contents
      gone_own = subst (λ (own : List RootId). AreOwn before own i.contents) (sym fixed.own) a.own

      pub seen_frame : ((s : ℕ → ℕ) → Naming code i.contents who s → Some (frame_to (names s) x.frame) ≡ Some (frame_to (names other) x.frame)) →
          (s : ℕ → ℕ) → Naming code i.contents who s → frame_in seen ≡ frame_to (names s) x.frame
      seen_frame frames s is = frame_seen other f (opened (before_of code i)) x (a.frame other other_names) fixed ∙ sym (same_Some _ _ (frames s is))

      pub gone_alike : ((s : ℕ → ℕ) → Naming code i.contents who s → Some (frame_to (names s) x.frame) ≡ Some (frame_to (names other) x.frame)) →
          Alike code before who n gone_on N seen left vs m
      gone_alike frames = record {
        stands = a.stands;
        own = gone_own;
        frame = seen_frame frames;
        board_needs = a.board_needs;
        parts = left_parts;
        needs = a.needs;
        covered = a.covered;
        results = a.results;
        fit = left_fits;
        held = left_held;
      }

      pub given_stands : Stands code who n (give_parts x.parts i.contents) (run_all G (puts G (M n) left) m)
      given_stands = stands_given code (M n) who n i.contents m other other_names a.stands left x.parts (left_parts other other_names) left_held left_fits

      pub given_grown : Grown i.contents who (give_parts x.parts i.contents) who
      given_grown =
          let alike = alike_parts x.parts i.contents in record {
            made = omega (arith, alike.1);
            same = λ r l. refl;
            live = λ r l. ap (λ ns. has ns r) alike.0 ∙ l;
            shapes = λ r l. alike.2 r;
          }

      -- other numbers of the roots are so behind that as well
      pub given_names : (s : ℕ → ℕ) → Naming code i.contents who s → Naming code (give_parts x.parts i.contents) who s
      given_names s is = record {
        one = is.one;
        live = λ r l. is.live r (subst (λ ns. has ns r ≡ true) (alike_parts x.parts i.contents).0 l)
            ∙ sym (board_root_same i.contents (give_parts x.parts i.contents) who r ((alike_parts x.parts i.contents).2 r));
      }
