-- The next elements of a part that is filled.
use Rattle.std.proofs.Common.{◌≡◌, ◌<◌, ◌≤◌, ◌+◌, ◌++◌, ◌∷◌, ◌∙◌, ◌==◌, ℕ, List, [], ap, arith, eqb-true, false, length, map, refl, subst, sym, true}
use Rattle.std.specs.Prelude.{All, drop, min, take}
use Rattle.std.proofs.lemmas.Bool.{eqb-false}
use Rattle.std.proofs.lemmas.List.{drop_all, length-drop}
use Rattle.std.proofs.lemmas.List.Elements.{All-cons, All-head, All-nil, All-tail}
use Rattle.std.proofs.Math.Nat.{min-le_right}
use Rattle.lane_kernels.specs.Numbers.{FitsWidth, width_of}
use Rattle.lane_kernels.specs.declared.numbers.Mode.{Mode as FieldMode}
use Rattle.region_tree.specs.Pieces.{Held}
use Rattle.region_tree.specs.Requirements.{Requirement}
use Rattle.region_tree.specs.declared.needs.Need.{Need}
use Rattle.region_tree.specs.declared.piece.Part.{Part}
use Rattle.region_tree.specs.declared.tree.OpNumber.{OpNumber}
use Rattle.region_tree.specs.declared.tree.RootId.{RootId}
use Rattle.logical_map.specs.Fills.{Filling, chunk, chunk_moved, elements_of}
use Rattle.logical_map.specs.Maps.{column_of, is_live}
use Rattle.task_code.specs.declared.job.Job.{Job}
use Rattle.machine_terms.specs.Parts.{is_needed}
use Rattle.board_rules.specs.Boards.{part}
use Rattle.board_rules.specs.Ground.{Ground}
use Rattle.board_rules.specs.Processes.{Map}
use Rattle.board_rules.specs.Running.{Element, Machine, Spot, filled, spots}
use Rattle.regent_boards.specs.Frames as board
use Rattle.regent_boards.specs.Frames.{Key}
use Rattle.regent_boards.specs.RegentMachine.{regent_ground}
use Rattle.code_boards.specs.Laws.{machine_of}
use Rattle.code_boards.specs.Pieces.{all_elements}
use Rattle.code_boards.specs.Views.{spaces_of}
use Rattle.board_terms.specs.declared.operation.Operation.{Operation}
use Rattle.board_terms.specs.declared.operation.Wait.{Wait}
use Rattle.board_terms.specs.declared.operation.Wait.TheVariants as wait
use Rattle.board_terms.specs.States.{State}
use Rattle.board_trees.specs.Frames.{IsSeen}
use Rattle.board_trees.specs.Names.{AreMade, IsNaming}
use Rattle.board_trees.specs.Shows.{HoldsMap, IsWithinRoot}
use Rattle.board_trees.specs.Stages.{IsFilled, IsKey, IsWait}
use Rattle.board_trees.proofs.Named.{is_naming, named_all}
use Rattle.claimed_trees.proofs.Moved.{all_length, drop_min, elements_kept, fill_dropped, fill_from, fill_length, fill_taken, fits_kept, outline, outline_kept, pieces_moved, sized_kept, take_min}
use Rattle.claimed_trees.proofs.Wanted.{kind_is, number_fits, number_is, parts_below, size}

module _ (job : Job) (s : State) (who : ℕ → ℕ) (makings : ℕ) (m : Map (regent_ground (spaces_of job.code))) (made : AreMade (length s.roots) who makings)
    (regions : (node : ℕ) → node < length s.tree.nodes → IsWithinRoot job s.tree s.roots node)
    (held : (root : ℕ) → is_live s.map root ≡ true → HoldsMap job s.map s.roots who m root) where
  abbrev G : Ground
  G = regent_ground (spaces_of job.code)

  abbrev M : Machine G
  M = machine_of job makings

  module _ (roots : List RootId) (were : All (λ (r : RootId). r.0 < length s.roots) roots) (o : Operation) (N : List Requirement) (f : board.Frame) (ps : List (Element G))
      (seen : IsSeen job.code s.tree s.map s.roots who roots o N f ps) where
    -- ---- what is filled is what is waited for

    record Wants (needs : List Need) (key : Key) : Type 0 where
      root : ℕ
      field : ℕ
      needed : is_needed needs root field ≡ true
      is_key : IsKey job.code s.roots who roots root field key

    wants_of : (needs : List Need) (parts : List Part) (children : List OpNumber) (wt : Wait) (key : Key) → IsWait job.code s.roots who roots needs parts children wt (part key) → Wants needs key
    wants_of needs parts children (wait.Part root field) key h = record { root = root.0; field = field; needed = h.0; is_key = h.2 }
    wants_of needs parts children wait.Beginning key h = absurd h
    wants_of needs parts children wait.Nothing key h = absurd h
    wants_of needs parts children (wait.Child n) key h = absurd h

    -- one key has one root and field
    pub fills_needed : (wt : Wait) (key : Key) (root field : ℕ) → IsWait job.code s.roots who roots o.frame.needs.items o.parts o.children wt (part key) → IsKey job.code s.roots who roots root field key →
        is_needed o.frame.needs.items root field ≡ true
    fills_needed wt key root field h is_key =
        let w = wants_of o.frame.needs.items o.parts o.children wt key h in
        let name = named_all s.roots who makings made 0 in
        let is : IsNaming s.roots who roots name = is_naming s.roots who makings made 0 roots were in
        let same : w.root ≡ root = is.one w.root root (w.is_key.1 name is ∙ sym (is_key.1 name is)) in
        (λ i. is_needed o.frame.needs.items (sym same i) ((is_key.0 ∙ sym w.is_key.0) i)) ∙ w.needed

    -- ---- some elements more

    module _ (key : Key) (fill : Filling) (d : List (Element G)) (l : List (Spot G)) (needed : is_needed o.frame.needs.items fill.root fill.field ≡ true)
        (h : IsFilled job.code s.roots who roots N key fill d l) where
      abbrev later : Filling
      later = chunk_moved s.map fill

      abbrev below : ℕ → Type 0
      below p = p < size job s who makings m made regions held roots were o N f ps seen fill.root fill.field key needed h.key

      -- the points of the pieces are points of the root
      points_below : All (λ (x : Held). All below x.points) fill.pieces
      points_below =
          let all = subst (λ qs. All (λ (q : List ℕ × FieldMode). All below q.0) qs) (sym h.wanted)
          (parts_below job s who makings m made regions held roots were o N f ps seen fill.root fill.field key needed h.key) in
          of_map fill.pieces all
        where
          of_map : (hs : List Held) → All (λ (q : List ℕ × FieldMode). All below q.0) (map outline hs) → All (λ (x : Held). All below x.points) hs
          of_map [] a = All-nil (λ (x : Held). All below x.points)
          of_map (x ∷ hs) a = All-cons (λ (x : Held). All below x.points) x hs
              (All-head (λ (q : List ℕ × FieldMode). All below q.0) (outline x) (map outline hs) a)
              (of_map hs (All-tail (λ (q : List ℕ × FieldMode). All below q.0) (outline x) (map outline hs) a))

      abbrev xs : List (Element G)
      xs = all_elements job.code key.root key.field fill.pieces

      elements_moved : all_elements job.code key.root key.field later.pieces ≡ fill_from job.code M m fill.moved chunk xs
      elements_moved = pieces_moved job.code M m key.root key.field (column_of s.map fill.root fill.field) below
          (number_is job s who makings m made regions held roots were o N f ps seen fill.root fill.field key needed h.key M)
          fill.moved chunk fill.pieces points_below h.sized

      long : length (fill_from job.code M m fill.moved chunk xs) ≡ elements_of fill.pieces
      long = fill_length job.code M m fill.moved chunk xs ∙ all_length job.code M m key.root key.field (column_of s.map fill.root fill.field) fill.pieces h.sized

      pub some_more : IsFilled job.code s.roots who roots N key later (d ++ filled G M (take M.chunk l) m) (drop M.chunk l)
      some_more = record {
        key = h.key;
        kind = h.kind;
        wanted = outline_kept (column_of s.map fill.root fill.field) fill.moved chunk fill.pieces ∙ h.wanted;
        sized = sized_kept (column_of s.map fill.root fill.field) fill.moved chunk fill.pieces h.sized;
        fitting = subst (λ k. All (λ (x : Held). All (FitsWidth (width_of k)) x.values) later.pieces) kind_same
            (fits_kept (column_of s.map fill.root fill.field) (FitsWidth (width_of (column_of s.map fill.root fill.field).kind))
            (number_fits job s who makings m made regions held roots were o N f ps seen fill.root fill.field key needed h.key) fill.moved chunk fill.pieces
            (subst (λ k. All (λ (x : Held). All (FitsWidth (width_of k)) x.values) fill.pieces) (sym kind_same) h.fitting));
        moved = subst (λ n. min (fill.moved + chunk) (elements_of fill.pieces) ≤ n) (sym (elements_kept (column_of s.map fill.root fill.field) fill.moved chunk fill.pieces))
            (min-le_right (fill.moved + chunk) (elements_of fill.pieces));
        filled = (λ i. h.filled i ++ filled G M (take M.chunk (h.left i)) m)
            ∙ sym (fill_taken job.code M m fill.moved chunk xs)
            ∙ sym (take_min (fill.moved + chunk) (elements_of fill.pieces) (fill_from job.code M m fill.moved chunk xs) long)
            ∙ ap (take later.moved) (sym elements_moved);
        left = ap (drop M.chunk) h.left
            ∙ sym (fill_dropped job.code M m fill.moved chunk xs)
            ∙ ap (spots G) (sym (drop_min (fill.moved + chunk) (elements_of fill.pieces) (fill_from job.code M m fill.moved chunk xs) long)
            ∙ ap (drop later.moved) (sym elements_moved));
      }
        where
          kind_same : (column_of s.map fill.root fill.field).kind ≡ fill.kind
          kind_same = kind_is job s who makings m made regions held roots were o N f ps seen fill.root fill.field key needed h.key ∙ sym h.kind

    -- ---- whether some are left

    none_left : (n : ℕ) (xs : List (Element G)) → n ≡ length xs → spots G (drop n xs) ≡ []
    none_left n xs e = ap (spots G) (drop_all n xs (omega (arith, e)))

    some_left : (n : ℕ) (xs : List (Element G)) → n ≤ length xs → ¬ (n ≡ length xs) → spots G (drop n xs) ≡ [] → ⊥
    some_left n xs l e q = by_rest (drop n xs) refl q
      where
        by_rest : (ys : List (Element G)) → drop n xs ≡ ys → spots G ys ≡ [] → ⊥
        by_rest [] r q = absurd (e (omega (arith, l, sym (length-drop n xs) ∙ ap length r)))
        by_rest (y ∷ ys) r q = absurd cc

    module _ (key : Key) (fill : Filling) (d : List (Element G)) (l : List (Spot G)) (h : IsFilled job.code s.roots who roots N key fill d l) where
      abbrev all : List (Element G)
      all = all_elements job.code key.root key.field fill.pieces

      size_is : length all ≡ elements_of fill.pieces
      size_is = all_length job.code M m key.root key.field (column_of s.map fill.root fill.field) fill.pieces h.sized

      pub nothing_left : (fill.moved == elements_of fill.pieces) ≡ true → l ≡ []
      nothing_left e = h.left ∙ none_left fill.moved all (eqb-true fill.moved (elements_of fill.pieces) e ∙ sym size_is)

      pub something_left : (fill.moved == elements_of fill.pieces) ≡ false → l ≡ [] → ⊥
      something_left e q = some_left fill.moved all (subst (λ n. fill.moved ≤ n) (sym size_is) h.moved)
          (λ r. eqb-false fill.moved (elements_of fill.pieces) e (r ∙ size_is)) (sym h.left ∙ q)
