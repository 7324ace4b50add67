-- The fill of a part begins with the spots that are wanted.
use Rattle.std.proofs.Common.{◌≡◌, ◌<◌, ◌++◌, ◌∷◌, ◌∙◌, ℕ, List, [], ap, arith, length, map, pos, refl, sym, true}
use Rattle.std.specs.Prelude.{All, replicate}
use Rattle.std.proofs.lemmas.List.{length-replicate}
use Rattle.std.proofs.lemmas.List.Elements.{All-cons, All-nil, All-replicate}
use Rattle.lane_kernels.specs.Numbers.{FitsWidth, width_of}
use Rattle.lane_kernels.specs.declared.numbers.FieldKind.{FieldKind}
use Rattle.lane_kernels.specs.declared.numbers.Mode.{Mode as FieldMode}
use Rattle.lane_kernels.specs.declared.numbers.Op.TheVariants.{Sum}
use Rattle.lane_kernels.proofs.Operators.{identity}
use Rattle.region_tree.specs.Pieces.{Held}
use Rattle.region_tree.specs.Requirements.{Requirement, part_of}
use Rattle.region_tree.specs.declared.tree.RootId.{RootId}
use Rattle.logical_map.specs.Fills.{blank, started}
use Rattle.logical_map.specs.Maps.{is_live}
use Rattle.task_code.specs.declared.job.Job.{Job}
use Rattle.machine_terms.specs.Parts.{is_needed}
use Rattle.board_rules.specs.Boards.{Wait as BoardWait, child, first, nothing, part, wants}
use Rattle.board_rules.specs.Ground.{Ground}
use Rattle.board_rules.specs.Processes.{Map}
use Rattle.board_rules.specs.Running.{Element, Machine, spots}
use Rattle.regent_boards.specs.Frames as board
use Rattle.regent_boards.specs.Frames.{Key}
use Rattle.regent_boards.specs.RegentMachine.{as_held, regent_ground, spots_of}
use Rattle.code_boards.specs.Laws.{machine_of}
use Rattle.code_boards.specs.Pieces.{all_elements, elements}
use Rattle.code_boards.specs.Views.{spaces_of}
use Rattle.board_terms.specs.declared.operation.Operation.{Operation}
use Rattle.board_terms.specs.declared.operation.Wait.{Wait}
use Rattle.board_terms.specs.declared.operation.Wait.TheVariants as wait
use Rattle.board_terms.specs.Claims.{fill_for, requirements_at}
use Rattle.board_terms.specs.States.{State}
use Rattle.board_trees.specs.Frames.{IsSeen}
use Rattle.board_trees.specs.Names.{AreMade}
use Rattle.board_trees.specs.Shows.{HoldsMap, IsWithinRoot}
use Rattle.board_trees.specs.Stages.{Fills, IsFilled, IsKey, IsWait}
use Rattle.claimed_trees.proofs.Moved.{outline, spots_both}
use Rattle.claimed_trees.proofs.Wanted.{kind_is, same_part}

-- ---- pieces before anything is moved

outline_blank : (ws : List (List ℕ × FieldMode)) → map outline (map blank ws) ≡ ws
outline_blank [] = refl
outline_blank (w ∷ ws) = ap (λ r. w ∷ r) (outline_blank ws)

blank_sized : (ws : List (List ℕ × FieldMode)) → All (λ (h : Held). length h.values ≡ length h.points) (map blank ws)
blank_sized [] = All-nil (λ (h : Held). length h.values ≡ length h.points)
blank_sized (w ∷ ws) = All-cons (λ (h : Held). length h.values ≡ length h.points) (blank w) (map blank ws) (length-replicate (length w.0) (pos 0)) (blank_sized ws)

blank_fits : (k : FieldKind) (ws : List (List ℕ × FieldMode)) → All (λ (h : Held). All (FitsWidth (width_of k)) h.values) (map blank ws)
blank_fits k [] = All-nil (λ (h : Held). All (FitsWidth (width_of k)) h.values)
blank_fits k (w ∷ ws) = All-cons (λ (h : Held). All (FitsWidth (width_of k)) h.values) (blank w) (map blank ws)
    (All-replicate (FitsWidth (width_of k)) (length w.0) (pos 0) (identity Sum (width_of k)).0) (blank_fits k ws)

module _ (job : Job) (s : State) (who : ℕ → ℕ) (makings : ℕ) (m : Map (regent_ground (spaces_of job.code))) (made : AreMade (length s.roots) who makings)
    (regions : (node : ℕ) → node < length s.tree.nodes → IsWithinRoot job s.tree s.roots node)
    (held : (root : ℕ) → is_live s.map root ≡ true → HoldsMap job s.map s.roots who m root) where
  abbrev G : Ground
  G = regent_ground (spaces_of job.code)

  abbrev M : Machine G
  M = machine_of job makings

  piece_spots : (root field : ℕ) (md : FieldMode) (ps : List ℕ) → spots G (elements job.code root field md ps (replicate (length ps) (pos 0)))
      ≡ map (λ p. record { location = record { root = root; field = field; point = p }; mode = as_held (spaces_of job.code) root field md }) ps
  piece_spots root field md [] = refl
  piece_spots root field md (p ∷ ps) = ap (λ r. record { location = record { root = root; field = field; point = p }; mode = as_held (spaces_of job.code) root field md } ∷ r) (piece_spots root field md ps)

  blank_spots : (root field : ℕ) (ws : List (List ℕ × FieldMode)) → spots G (all_elements job.code root field (map blank ws)) ≡ spots_of (spaces_of job.code) root field ws
  blank_spots root field [] = refl
  blank_spots root field (w ∷ ws) =
      spots_both job.code M m (elements job.code root field w.1 w.0 (replicate (length w.0) (pos 0))) (all_elements job.code root field (map blank ws))
      ∙ (λ i. piece_spots root field w.1 w.0 i ++ blank_spots root field ws i)

  module _ (roots : List RootId) (were : All (λ (r : RootId). r.0 < length s.roots) roots) (o : Operation) (N : List Requirement) (f : board.Frame) (ps : List (Element G))
      (seen : IsSeen job.code s.tree s.map s.roots who roots o N f ps) where
    part_started : (root : RootId) (field : ℕ) (key : Key) → is_needed o.frame.needs.items root.0 field ≡ true → IsKey job.code s.roots who roots root.0 field key →
        IsFilled job.code s.roots who roots N key (started root.0 field (part_of (requirements_at s o) root.0 field) s.map) [] (M.wanted N key)
    part_started root field key needed is_key =
        let same = same_part job s who makings m made regions held roots were o N f ps seen root.0 field key needed is_key in
        record {
          key = is_key;
          kind = kind_is job s who makings m made regions held roots were o N f ps seen root.0 field key needed is_key;
          wanted = outline_blank (part_of (requirements_at s o) root.0 field) ∙ sym same;
          sized = blank_sized (part_of (requirements_at s o) root.0 field);
          fitting = blank_fits (started root.0 field (part_of (requirements_at s o) root.0 field) s.map).kind (part_of (requirements_at s o) root.0 field);
          moved = omega arith;
          filled = refl;
          left = ap (spots_of (spaces_of job.code) key.root key.field) same ∙ sym (blank_spots key.root key.field (part_of (requirements_at s o) root.0 field));
        }

    -- of one that has been claimed nothing is filled yet
    pub fill_starts : (wt : Wait) (w : BoardWait G) → IsWait job.code s.roots who roots o.frame.needs.items o.parts o.children wt w →
        Fills job.code s.roots who roots N w (fill_for s o wt) [] (wants G M N w)
    fill_starts wait.Beginning first h = (refl, refl)
    fill_starts wait.Nothing nothing h = (refl, refl)
    fill_starts (wait.Child n) (child c) h = (refl, refl)
    fill_starts (wait.Part root field) (part key) h = part_started root field key h.0 h.2
    fill_starts wait.Beginning nothing h = absurd h
    fill_starts wait.Beginning (part key) h = absurd h
    fill_starts wait.Beginning (child c) h = absurd h
    fill_starts wait.Nothing first h = absurd h
    fill_starts wait.Nothing (part key) h = absurd h
    fill_starts wait.Nothing (child c) h = absurd h
    fill_starts (wait.Child n) first h = absurd h
    fill_starts (wait.Child n) nothing h = absurd h
    fill_starts (wait.Child n) (part key) h = absurd h
    fill_starts (wait.Part root field) first h = absurd h
    fill_starts (wait.Part root field) nothing h = absurd h
    fill_starts (wait.Part root field) (child c) h = absurd h
