-- What a segment leaves of an operation that is out is the same on the table and in the tree.
use Rattle.std.proofs.Common.{◌≡◌, ◌<◌, ◌++◌, ◌∷◌, ◌∙◌, ℕ, ℤ, List, Option, Some, [], ap, length, map, refl, subst, sym}
use Rattle.std.specs.Prelude.{All, slice_get, unwrap_or}
use Rattle.std.proofs.lemmas.List.Elements.{All-append, All-cons, All-head, All-nil, All-tail}
use Rattle.std.proofs.lemmas.Option.{none-some, same_Some}
use Rattle.region_tree.specs.Pieces.{Held}
use Rattle.region_tree.specs.Requirements.{PartsAreApart, Requirement}
use Rattle.region_tree.specs.declared.piece.Part.{Part}
use Rattle.region_tree.specs.declared.tree.RootId.{RootId}
use Rattle.logical_map.specs.Fills.{Filling}
use Rattle.dependence_graph.specs.Knots.{knot_at}
use Rattle.task_code.specs.declared.job.Job.{Job}
use Rattle.machine_terms.specs.declared.frame.Before.{Before}
use Rattle.machine_terms.specs.declared.frame.Frame.{Frame}
use Rattle.machine_terms.specs.declared.outcome.Yield.{Yield}
use Rattle.machine_terms.specs.declared.outcome.Yield.TheVariants as yield
use Rattle.machine_terms.specs.Orders.{result_of}
use Rattle.machine_terms.specs.Segments.{frame_after, opened, segment, stop_of}
use Rattle.machine_terms.proofs.FitParts.{AllFit, PartsFit, PiecesFit}
use Rattle.machine_terms.proofs.Kept.{stop_fixed}
use Rattle.machine_terms.proofs.KeptParts.{bare, bare_part, bare_pieces}
use Rattle.machine_terms.proofs.StepKinds.{Fixed}
use Rattle.lane_kernels.specs.Numbers.{FitsWidth, width_of}
use Rattle.lane_kernels.specs.declared.numbers.Width.{Width}
use Rattle.std.specs.List.Sorted.{IsStrictlyIncreasing}
use Rattle.board_rules.specs.Boards.{Items, Wait as BoardWait, child, first, nothing, op, out, part}
use Rattle.board_rules.specs.Boards as tree
use Rattle.board_rules.specs.Ground.{Ground}
use Rattle.board_rules.specs.NumberedBoards.{Board}
use Rattle.board_rules.specs.RootNumbers.{made_in}
use Rattle.board_rules.specs.Running.{Element, Machine}
use Rattle.regent_boards.specs.Frames as board
use Rattle.regent_boards.specs.RegentMachine.{regent_ground}
use Rattle.code_boards.specs.Laws.{machine_of}
use Rattle.code_boards.specs.Views.{spaces_of}
use Rattle.board_terms.specs.declared.operation.Activity.{Activity}
use Rattle.board_terms.specs.declared.operation.Activity.TheVariants as activity
use Rattle.board_terms.specs.declared.operation.Operation.{Operation}
use Rattle.board_terms.specs.declared.operation.Wait.{Wait}
use Rattle.board_terms.specs.declared.operation.Wait.TheVariants as wait
use Rattle.board_terms.specs.Claims.{before_of, frame_behind, value_at}
use Rattle.board_terms.specs.States.{State, operation_at}
use Rattle.board_trees.specs.Frames.{HasEachOnce, HasFitting}
use Rattle.board_trees.specs.Names.{IsNaming}
use Rattle.board_trees.specs.Shows.{Shows, ShowsBoard, siblings}
use Rattle.board_trees.specs.Stages.{IsOut, WaitsWell}
use Rattle.board_trees.specs.Waits.{Sibling}
use Rattle.board_trees.proofs.Named.{is_naming, named_all}
use Rattle.given_trees.proofs.Behind.{Left, segment_left}
use Rattle.given_trees.proofs.Resumed.{Holds, answered, holds_out, met_alike}
use Rattle.given_trees.proofs.Values.{held_as}
use Rattle.given_trees.specs.Segments.{AreLeft, SegmentsShow}

-- ---- numbers that fit

numbers_fit : (w : Width) (zs : List ℤ) → All (FitsWidth w) zs → AllFit w zs
numbers_fit w [] a = tt
numbers_fit w (z ∷ zs) a = (All-head (FitsWidth w) z zs a, numbers_fit w zs (All-tail (FitsWidth w) z zs a))

fit_numbers : (w : Width) (zs : List ℤ) → AllFit w zs → All (FitsWidth w) zs
fit_numbers w [] a = All-nil (FitsWidth w)
fit_numbers w (z ∷ zs) a = All-cons (FitsWidth w) z zs a.0 (fit_numbers w zs a.1)

abbrev Fit : Width → Held → Type 0
Fit w h = All (FitsWidth w) h.values

pieces_fit : (w : Width) (hs : List Held) → All (Fit w) hs → PiecesFit w hs
pieces_fit w [] a = tt
pieces_fit w (h ∷ hs) a = (numbers_fit w h.values (All-head (Fit w) h hs a), pieces_fit w hs (All-tail (Fit w) h hs a))

fit_pieces : (w : Width) (hs : List Held) → PiecesFit w hs → All (Fit w) hs
fit_pieces w [] a = All-nil (Fit w)
fit_pieces w (h ∷ hs) a = All-cons (Fit w) h hs (fit_numbers w h.values a.0) (fit_pieces w hs a.1)

pub parts_fit : (qs : List Part) → All HasFitting qs → PartsFit qs
parts_fit [] a = tt
parts_fit (q ∷ qs) a = (pieces_fit (width_of q.kind) q.pieces (All-head HasFitting q qs a), parts_fit qs (All-tail HasFitting q qs a))

pub fit_parts : (qs : List Part) → PartsFit qs → All HasFitting qs
fit_parts [] a = All-nil HasFitting
fit_parts (q ∷ qs) a = All-cons HasFitting q qs (fit_pieces (width_of q.kind) q.pieces a.0) (fit_parts qs a.1)

-- ---- where parts stand and how they are held

held_bare : (hs : List Held) → map held_as (bare_pieces hs) ≡ map held_as hs
held_bare [] = refl
held_bare (h ∷ hs) = ap (λ ps. held_as h ∷ ps) (held_bare hs)

abbrev Rises : Held → Type 0
Rises h = IsStrictlyIncreasing h.points

rise_bare : (hs : List Held) → All Rises hs → All Rises (bare_pieces hs)
rise_bare [] a = a
rise_bare (h ∷ hs) a = All-cons Rises _ (bare_pieces hs) (All-head Rises h hs a) (rise_bare hs (All-tail Rises h hs a))

bare_rise : (hs : List Held) → All Rises (bare_pieces hs) → All Rises hs
bare_rise [] a = a
bare_rise (h ∷ hs) a = All-cons Rises h hs (All-head Rises _ (bare_pieces hs) a) (bare_rise hs (All-tail Rises _ (bare_pieces hs) a))

once_bare : (qs : List Part) → All HasEachOnce qs → All HasEachOnce (bare qs)
once_bare [] a = a
once_bare (q ∷ qs) a =
    let h = All-head HasEachOnce q qs a in
    All-cons HasEachOnce (bare_part q) (bare qs) (record { apart = subst PartsAreApart (sym (held_bare q.pieces)) h.apart; rising = rise_bare q.pieces h.rising })
    (once_bare qs (All-tail HasEachOnce q qs a))

bare_once : (qs : List Part) → All HasEachOnce (bare qs) → All HasEachOnce qs
bare_once [] a = a
bare_once (q ∷ qs) a =
    let h = All-head HasEachOnce (bare_part q) (bare qs) a in
    All-cons HasEachOnce q qs (record { apart = subst PartsAreApart (held_bare q.pieces) h.apart; rising = bare_rise q.pieces h.rising })
    (bare_once qs (All-tail HasEachOnce (bare_part q) (bare qs) a))

-- ---- the segment

module _ (b : Before) where
  fixed : Fixed (opened b) (stop_of b).machine
  fixed = stop_fixed b

  pub left_fitting : All HasFitting b.parts → All HasFitting (segment b).parts
  left_fitting a = fit_parts (segment b).parts (fixed.fits (parts_fit b.parts a))

  pub left_once : All HasEachOnce b.parts → All HasEachOnce (segment b).parts
  left_once a = bare_once (segment b).parts (subst (All HasEachOnce) (sym fixed.parts) (once_bare b.parts a))

  pub left_kept : (f : Frame) → (segment b).frame ≡ Some f → (f.needs ≡ b.frame.needs) × (f.own ≡ b.frame.own)
  left_kept f e = by_yield (stop_of b).ends e
    where
      goes : Some (stop_of b).machine.frame ≡ Some f → (f.needs ≡ b.frame.needs) × (f.own ≡ b.frame.own)
      goes e =
          let same = same_Some (stop_of b).machine.frame f e in (
            ap (λ (g : Frame). g.needs) (sym same) ∙ fixed.needs,
            ap (λ (g : Frame). g.own) (sym same) ∙ fixed.own,
          )

      by_yield : (y : Yield) → frame_after y (stop_of b).machine.frame ≡ Some f → (f.needs ≡ b.frame.needs) × (f.own ≡ b.frame.own)
      by_yield (yield.Calls cs) e = goes e
      by_yield (yield.Want r field) e = goes e
      by_yield (yield.Await n) e = goes e
      by_yield (yield.Make d) e = goes e
      by_yield (yield.End v) e = absurd (none-some f e)
      by_yield (yield.Fault k) e = absurd (none-some f e)
      by_yield yield.MachineFault e = absurd (none-some f e)

-- ---- the law

abbrev out_before : Before → Activity → Before
out_before z (activity.Out c b) = b
out_before z _ = z

module _ (job : Job) (s : State) (b : Board (regent_ground (spaces_of job.code))) (h : ShowsBoard job s b) (way : List ℕ) (k : ℕ) (earlier : List Sibling) (above : List RootId)
    (D N : List Requirement) (i : ℕ) (f : board.Frame) (ps d : List (Element (regent_ground (spaces_of job.code)))) (w : BoardWait (regent_ground (spaces_of job.code)))
    (is : Items (regent_ground (spaces_of job.code))) (shown : Shows job s h.who b.ways way k earlier above (op D N i f ps (out w d) is))
    (below : All (λ (r : RootId). r.0 < length s.roots) above) (makings : ℕ) where
  abbrev G : Ground
  G = regent_ground (spaces_of job.code)

  abbrev M : Machine G
  M = machine_of job makings

  abbrev o : Operation
  o = operation_at s k

  abbrev roots : List RootId
  roots = above ++ o.frame.own

  roots_below : All (λ (r : RootId). r.0 < length s.roots) roots
  roots_below = All-append (λ (r : RootId). r.0 < length s.roots) above o.frame.own below (h.own_made k)

  abbrev first_makings : ℕ
  first_makings = made_in G (machine_of job) b.state.tree

  abbrev other : ℕ → ℕ
  other = named_all s.roots h.who first_makings h.made 0

  naming : IsNaming s.roots h.who roots other
  naming = is_naming s.roots h.who first_makings h.made 0 roots roots_below

  abbrev met : board.Frame
  met = tree.met_by G M w f (tree.awaited G M w is)

  is_out : IsOut job.code s.roots h.who roots s N o w d
  is_out = shown.0.stands.1

  answers : (c : ℕ) → w ≡ child c → result_of (unwrap_or (tree.answer_of G M is c) M.no_answer).value ≡ value_at s (slice_get o.children c)
  answers c e = by_wait w e shown.0.waits
    where
      by_wait : (w : BoardWait G) → w ≡ child c → WaitsWell job.code s.waits.knots D N earlier (siblings job o.children is) (knot_at s.waits.knots k).on (out w d) →
          result_of (unwrap_or (tree.answer_of G M is c) M.no_answer).value ≡ value_at s (slice_get o.children c)
      by_wait first e x = absurd cc
      by_wait nothing e x = absurd cc
      by_wait (part q) e x = absurd cc
      by_wait (child n) e x =
          let same : n ≡ c = cc in
          subst (λ n. result_of (unwrap_or (tree.answer_of G M is n) M.no_answer).value ≡ value_at s (slice_get o.children n)) same
          (answered job s h.who b.ways makings n (knot_at s.waits.knots k).on way k 0 [] roots o.children is shown.1 x.0 x.1)

  -- the frame, the needs and the own roots are those from before what was waited for
  met_own : (w : BoardWait G) → (tree.met_by G M w f (tree.awaited G M w is)).own ≡ f.own
  met_own first = refl
  met_own nothing = refl
  met_own (part q) = refl
  met_own (child c) = refl

  met_needs : (w : BoardWait G) → (tree.met_by G M w f (tree.awaited G M w is)).needs ≡ f.needs
  met_needs first = refl
  met_needs nothing = refl
  met_needs (part q) = refl
  met_needs (child c) = refl

  behind_kept : (v : Wait) → ((frame_behind s o v).needs ≡ o.frame.needs) × ((frame_behind s o v).own ≡ o.frame.own)
  behind_kept wait.Beginning = (refl, refl)
  behind_kept wait.Nothing = (refl, refl)
  behind_kept (wait.Part root field) = (refl, refl)
  behind_kept (wait.Child n) = (refl, refl)

  module _ (fill : Option Filling) (holds : Holds job s h.who roots M o N f ps shown.0.seen d fill) where
    abbrev Start : Before
    Start = before_of job.code s o fill

    left : Left job.code job.turns (IsNaming s.roots h.who roots) (λ name n. n.one) other naming Start.frame Start.parts met (ps ++ d)
        (λ name n. met_alike job s h.who b.ways makings roots o f is name (shown.0.seen.frame name n) o.wait w is_out.waits answers) holds.parts
        (M.segment met (ps ++ d))
    left = segment_left job.code job.turns (IsNaming s.roots h.who roots) (λ name n. n.one) other naming Start.frame Start.parts met (ps ++ d)
        (λ name n. met_alike job s h.who b.ways makings roots o f is name (shown.0.seen.frame name n) o.wait w is_out.waits answers) holds.parts

    are_left : AreLeft job s h.who roots o N met (segment Start) (M.segment met (ps ++ d))
    are_left = record {
      text = left.text;
      own = λ name n. left.own ∙ met_own w ∙ shown.0.own name n;
      needs = left.needs ∙ met_needs w ∙ shown.0.seen.needs;
      frame = left.frame;
      kept = λ g e.
          let same = left_kept Start g e in
          let before = behind_kept o.wait in (same.0 ∙ before.0, same.1 ∙ before.1);
      parts = left.parts;
      held = left.held holds.held;
      fitting = left_fitting Start holds.fitting;
      once = left_once Start holds.once;
      yields = left.yields;
      alike = left.ends_alike;
    }

pub segments_show : SegmentsShow
segments_show job s b h way k earlier above D N i f ps d w is shown below claim before e makings =
    let n = is_out job s b h way k earlier above D N i f ps d w is shown below makings in
    let o = operation_at s k in
    subst (λ z. AreLeft job s h.who (above ++ o.frame.own) o N (met job s b h way k earlier above D N i f ps d w is shown below makings) (segment z)
    ((machine_of job makings).segment (met job s b h way k earlier above D N i f ps d w is shown below makings) (ps ++ d)))
    (ap (out_before before) (sym n.activity_is ∙ e))
    (are_left job s b h way k earlier above D N i f ps d w is shown below makings n.fill
    (holds_out job s h.who (above ++ o.frame.own) (machine_of job makings) o N f ps shown.0.seen d w n.fill n.waits n.fills))
