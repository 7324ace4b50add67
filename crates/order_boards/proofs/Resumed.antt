-- What an instance waited for, given to it and to its operation.
use Rattle.std.proofs.Common.{◌≡◌, ℕ, zero, suc, ◌+◌, ◌<◌, ℤ, pos, List, [], ◌∷◌, ◌++◌, Bool, true, false, cond, None, refl, sym, ap, ◌∙◌, subst, map, option_map, arith, get_or, ◌==◌, ◌&&◌, eq-eqb, leb, ltb, not, ◌||◌}
use Rattle.std.specs.List.{list_all}
use Rattle.std.specs.Prelude.{length}
use Rattle.std.proofs.lemmas.Bool.{and_from, ltb-true, and_parts}
use Rattle.std.proofs.lemmas.List.{map-append}
use Rattle.plain_values.specs.Points.{has, meets, points, within}
use Rattle.point_sets.proofs.Rising.{has-counted_from, has-append, has_head}
use Rattle.lane_kernels.specs.declared.numbers.Mode.{Mode}
use Rattle.lane_kernels.specs.declared.numbers.Mode.TheVariants.{Write}
use Rattle.lane_kernels.specs.Numbers.{width_of}
use Rattle.region_tree.specs.declared.piece.Part.{Part}
use Rattle.region_tree.specs.Requirements.{Requirement, mode_at, part_of as needed_part}
use Rattle.regent_tree.specs.declared.outcome.RootImage.{RootImage}
use Rattle.regent_tree.specs.Laws.{shape_of}
use Rattle.regent_tree.specs.Store.{new_root}
use Rattle.task_code.specs.declared.code.Code.{Code}
use Rattle.machine_terms.specs.declared.frame.Frame.{Frame}
use Rattle.machine_terms.specs.declared.order.Instance.{Instance}
use Rattle.machine_terms.specs.declared.value.RegionValue.{RegionValue}
use Rattle.machine_terms.specs.Contents.{image_of, kind_of as kept_kind, kinds_of}
use Rattle.machine_terms.specs.Copies.{part_from}
use Rattle.machine_terms.specs.Makes.{are_apart, fields_needed, is_sound, make_partition, make_root, root_requirements}
use Rattle.machine_terms.specs.Orders.{await, fetch_part}
use Rattle.machine_terms.specs.Parts.{is_needed, part_of}
use Rattle.machine_terms.proofs.FitParts.{PartsFit, PiecesFit}
use Rattle.memory_laws.specs.Places.{column_of, numbers}
use Rattle.memory_laws.proofs.Making.{made_is_own}
use Rattle.board_rules.specs.Ground.{Ground}
use Rattle.board_rules.specs.Processes.{Map, run_all}
use Rattle.board_rules.specs.Running.{Element, Machine as BoardMachine, answer_at, filled}
use Rattle.regent_boards.specs.Frames as board
use Rattle.regent_boards.specs.Laws.{by_number}
use Rattle.regent_boards.specs.RegentMachine.{apart_all, fields_of, kind_of, met_frame, needs_of_root, pushed_on, regent_ground, root_of, spots_of}
use Rattle.regent_boards.specs.RegentMachine as regent
use Rattle.regent_boards.proofs.NeedRenaming as renaming
use Rattle.regent_boards.proofs.NeedRenaming.{moved}
use Rattle.segment_renaming.specs.Renaming.{frame_to, part_to, region_to}
use Rattle.segment_renaming.specs.Resuming.{awaited, with_partition, with_root}
use Rattle.segment_renaming.proofs.Alike.{needed_alike, part_of_to, same_root}
use Rattle.segment_renaming.proofs.Openings.{awaited_renamed, partitions_renamed, roots_renamed}
use Rattle.code_boards.specs.Views.{board_segment, needs_in, part_with, parts_in, region_out, spaces_of}
use Rattle.code_boards.proofs.Filled.{want_held}
use Rattle.order_boards.proofs.Alike.{number_in, Alike, Grown, naming_back}
use Rattle.order_boards.proofs.Fetched.{fetched, fetched_fits, filled_held, piece, some_point}
use Rattle.order_boards.proofs.Frames.{met_seen, partition_seen, requirements_made, root_seen}
use Rattle.order_boards.proofs.Given.{AreAsHeld}
use Rattle.order_boards.proofs.Making.{board_root_new, image_new, image_old, live_more, stands_made, who_more, who_old}
use Rattle.order_boards.proofs.Needs.{Covered, covered_append, covered_at, covered_still, part_pointed, pointed_append}
use Rattle.order_boards.proofs.Parts.{part_behind}
use Rattle.order_boards.proofs.Renumbering.{names}
use Rattle.order_boards.proofs.Stands.{IsLive, Naming, Stands, at, column_length, live_below, shown_kind, shown_live, stands_on}
use Rattle.memory_laws.proofs.Made.{numbers_more}

-- ---- lists

fits_behind : (qs : List Part) (q : Part) → PartsFit qs → PiecesFit (width_of q.kind) q.pieces → PartsFit (qs ++ q ∷ [])
fits_behind [] q h f = (f, tt)
fits_behind (x ∷ qs) q h f = (h.0, fits_behind qs q h.1 f)

requirements_moved : (s : ℕ → ℕ) (root : ℕ) (xs : List ℕ) (k : ℕ) → map (moved s) (root_requirements root xs k) ≡ root_requirements (s root) xs k
requirements_moved s root xs zero = refl
requirements_moved s root xs (suc k) = map-append (moved s) (root_requirements root xs k) (record { root = root; points = xs; field = k; mode = Write } ∷ [])
    ∙ ap (λ rs. rs ++ record { root = s root; points = xs; field = k; mode = Write } ∷ []) (requirements_moved s root xs k)

apart_same : (spaces : board.Spaces) (sets : List (List ℕ)) → apart_all spaces sets ≡ are_apart sets
apart_same spaces [] = refl
apart_same spaces (x ∷ sets) = ap (λ b. list_all (λ t. not (meets x t)) sets && b) (apart_same spaces sets)

pub sound_same : (spaces : board.Spaces) (r : RegionValue) (sets : List (List ℕ)) (d : Bool) →
    regent.is_sound spaces (board.new_partition (region_out r) sets d) ≡ is_sound r.points sets d
sound_same spaces r sets true = ap (λ b. list_all (λ s. within s r.points) sets && b) (apart_same spaces sets)
sound_same spaces r sets false = refl

answer_same : (G : Ground) (K : BoardMachine G) (out : G.Answer → ℤ) → out K.no_answer ≡ pos 0 → (vs : List G.Answer) (c : ℕ) →
    out (answer_at G K vs c) ≡ get_or (map out vs) c (pos 0)
answer_same G K out e [] c = e
answer_same G K out e (v ∷ vs) zero = refl
answer_same G K out e (v ∷ vs) (suc c) = answer_same G K out e vs c

module _ (code : Code) (turns : ℕ) where
  abbrev G : Ground
  G = regent_ground (spaces_of code)

  abbrev M : ℕ → BoardMachine G
  M = by_number (spaces_of code) (board_segment code turns)

  module _ (before : List ℕ) (who : ℕ → ℕ) (n : ℕ) (i : Instance) (N : List Requirement) (f : board.Frame) (ps : List (Element G))
      (vs : List board.Answer) (m : Map G) (a : Alike code before who n i N f ps vs m) where
    -- ---- a part that was wanted

    module _ (s : ℕ → ℕ) (is : Naming code i.contents who s) (root field : ℕ) (needed : is_needed i.frame.needs.items root field ≡ true)
        (none : part_of i.parts root field ≡ None) where
      abbrev R : ℕ
      R = s root

      abbrev more : List (Element G)
      more = filled G (M n) (spots_of (spaces_of code) R field (needed_part N R field)) m

      abbrev qs : List (List ℕ × Mode)
      qs = needed_part i.needs root field

      part_same : needed_part N R field ≡ qs
      part_same = sym (part_pointed N R field) ∙ ap (λ rs. needed_part rs R field) (a.needs s is)
          ∙ renaming.part_to s (same_root (names s) is.one) root field i.needs

      more_is : more ≡ filled G (M n) (spots_of (spaces_of code) R field qs) m
      more_is = ap (λ rs. filled G (M n) (spots_of (spaces_of code) R field rs) m) part_same

      needed_there : is_needed (needs_in N) R field ≡ true
      needed_there = ap (λ (rs : List Requirement). is_needed (needs_in rs) R field) (sym a.board_needs)
          ∙ ap (λ (g : Frame). is_needed g.needs.items R field) (a.frame s is)
          ∙ needed_alike (names s) is.one i.frame.needs.items root field ∙ needed

      some_part : qs ≡ [] → ⊥
      some_part e = want_held code (M n) m N R field [] needed_there
          (ap (λ xs. part_of (parts_in code xs) R field) (more_is ∙ ap (λ rs. filled G (M n) (spots_of (spaces_of code) R field rs) m) e))

      shown : (p : ℕ) → (mode_at i.needs root field p ≡ None → ⊥) → p < length (column_of i.contents root field)
      shown p h = covered_at i.contents i.needs root field p a.covered h

      first : (p : ℕ) × (p < length (column_of i.contents root field))
      first = let p = some_point i.needs root field some_part in (p.0, shown p.0 p.1)

      live : IsLive i.contents root
      live = shown_live i.contents root field first.0 first.1

      kinds : kind_of (spaces_of code) R field ≡ kept_kind code i.contents root field
      kinds = ap (λ r. kind_of (spaces_of code) r field) (is.live root live)
          ∙ shown_kind code who n i.contents m a.stands root field first.0 first.1

      abbrev part_there : Part
      part_there = part_with code R field (map (piece code i.contents i.needs root field R) qs)

      filled_part : parts_in code more ≡ part_there ∷ []
      filled_part = ap (parts_in code) more_is
          ∙ fetched code i.contents i.needs root field R (M n) m kinds
          (λ p h. a.stands.same root field p (shown p h) ∙ ap (λ r. m (at r field p)) (sym (is.live root live)))
          (λ e. some_part (no_map qs e))
        where
          no_map : (qs : List (List ℕ × Mode)) → map (piece code i.contents i.needs root field R) qs ≡ [] → qs ≡ []
          no_map [] e = refl
          no_map (q ∷ qs) e = absurd cc

      pub fetched_alike : Alike code before who n (fetch_part code root field i) N f (ps ++ more) vs m
      fetched_alike = record {
        stands = a.stands;
        own = a.own;
        frame = a.frame;
        board_needs = a.board_needs;
        parts = λ t names_of. part_behind code R field part_there (and_from _ _ (eq-eqb R R refl) (eq-eqb field field refl)) ps more filled_part
            (ap (λ xs. part_of xs R field) (a.parts s is) ∙ part_of_to (names s) is.one i.parts root field ∙ ap (option_map (part_to (names s))) none)
            ∙ (λ j. a.parts t names_of j ++ record part_there {
              root = record { 0 = (is.live root live ∙ sym (names_of.live root live)) j };
              kind = kinds j;
            } ∷ [])
            ∙ sym (map-append (part_to (names t)) i.parts (part_from code i.contents i.needs root field ∷ []));
        needs = a.needs;
        covered = a.covered;
        results = a.results;
        fit = fits_behind i.parts (part_from code i.contents i.needs root field) a.fit
            (fetched_fits code i.contents i.needs root field R (λ p h. a.stands.fits root field p (shown p h)));
        held = held_append ps more a.held (subst (AreAsHeld code) (sym more_is)
            (filled_held code i.contents i.needs root field R (M n) m kinds qs));
      }
        where
          held_append : (ps xs : List (Element G)) → AreAsHeld code ps → AreAsHeld code xs → AreAsHeld code (ps ++ xs)
          held_append [] xs h g = g
          held_append (x ∷ ps) xs h g = (h.0, held_append ps xs h.1 g)

    -- ---- the answer of a child

    pub awaited_alike : (c : ℕ) → Alike code before who n (await c i) N (met_frame (spaces_of code) f c (answer_at G (M n) vs c)) ps vs m
    awaited_alike c = record {
      stands = a.stands;
      own = a.own;
      frame = λ s is. met_seen code c (answer_at G (M n) vs c) f
          ∙ (λ j. awaited c (answer_same G (M n) number_in refl vs c j) (a.frame s is j))
          ∙ ap (λ zs. awaited c (get_or zs c (pos 0)) (frame_to (names s) i.frame)) a.results
          ∙ awaited_renamed (names s) c (get_or i.results c (pos 0)) i.frame;
      board_needs = a.board_needs;
      parts = a.parts;
      needs = a.needs;
      covered = a.covered;
      results = a.results;
      fit = a.fit;
      held = a.held;
    }

    -- ---- a partition

    pub partition_alike : (h : ℕ) (s : ℕ → ℕ) → Naming code i.contents who s → (r : RegionValue) (sets : List (List ℕ)) (d : Bool) →
        ((t : ℕ → ℕ) → Naming code i.contents who t → region_to (names t) r ≡ region_to (names s) r) →
        Alike code before who (suc n) (make_partition r sets d i) N (pushed_on (spaces_of code) n h (board.new_partition (region_out (region_to (names s) r)) sets d) f) ps vs m
    partition_alike h s is r sets d same = record {
      stands = stands_on code who n (suc n) i.contents m (omega arith) a.stands;
      own = a.own;
      frame = λ t names_of. partition_seen code n h (region_out (region_to (names s) r)) sets d f
          ∙ (λ j. with_partition (sym (same t names_of) j) sets d (a.frame t names_of j))
          ∙ partitions_renamed (names t) refl r sets d i.frame;
      board_needs = a.board_needs;
      parts = a.parts;
      needs = a.needs;
      covered = a.covered;
      results = a.results;
      fit = a.fit;
      held = a.held;
    }

    -- ---- a root

    module _ (size space : ℕ) where
      abbrev now : ℕ → ℕ
      now = who_more code i.contents who n

      abbrev then : Instance
      then = make_root code size space i

      pub made_grown : Grown i.contents who then.contents now
      made_grown = record {
        made = omega arith;
        same = λ r l. who_old code who n i.contents m a.stands space size r l;
        live = λ r l. live_more code who n i.contents m a.stands space size r l;
        shapes = λ r l. ap shape_of (image_old code who n i.contents m a.stands space size r (live_below i.contents r a.stands.numbered l));
      }

      live_new : IsLive then.contents i.contents.made
      live_new = has_last (numbers i.contents) i.contents.made
          (numbers_more i.contents _ a.stands.numbered)
        where
          has_last : (xs : List ℕ) (x : ℕ) {ys : List ℕ} → ys ≡ xs ++ x ∷ [] → has ys x ≡ true
          has_last xs x e = ap (λ zs. has zs x) e ∙ has-append xs (x ∷ []) x
              ∙ ap (λ b. has xs x || b) (has_head x []) ∙ always (has xs x)
            where
              always : (b : Bool) → (b || true) ≡ true
              always true = refl
              always false = refl

      new_name : (s : ℕ → ℕ) → Naming code then.contents now s → s i.contents.made ≡ root_of space size n
      new_name s is = is.live i.contents.made live_new ∙ board_root_new code who n i.contents m a.stands space size

      new_stands : Stands code now (suc n) then.contents (run_all G (regent.zeros_for (spaces_of code) n (board.new_root space size)) m)
      new_stands = stands_made code who n i.contents m a.stands space size

      -- each field of the new root is needed at its points
      each_covered : (k : ℕ) → ((g : ℕ) → g < k → length (column_of then.contents i.contents.made g) ≡ size) →
          Covered then.contents (root_requirements i.contents.made (points size) k)
      each_covered zero h = tt
      each_covered (suc k) h = covered_append then.contents (root_requirements i.contents.made (points size) k) _ (each_covered k (λ g l. h g (omega (arith, l))))
          (λ p e. below p (sym (has-counted_from 0 size p) ∙ e) (h k (omega arith)), tt)
        where
          below : (p : ℕ) → (leb 0 p && ltb p (0 + size)) ≡ true → length (column_of then.contents i.contents.made k) ≡ size → p < length (column_of then.contents i.contents.made k)
          below p e l = omega (arith, l, ltb-true p (0 + size) (and_parts (leb 0 p) (ltb p (0 + size)) e).1)

      fields_covered : Covered then.contents (root_requirements i.contents.made (points size) (fields_needed code size space))
      fields_covered = each_covered (fields_needed code size space) (λ g l. column_length code then.contents i.contents.made g (new_stands.shaped i.contents.made live_new)
          (subst (λ (r : RootImage). g < length (kinds_of code r.space)) (sym image) (fewer (size == 0) g l))
          ∙ ap (λ (r : RootImage). r.count) image)
        where
          image : image_of then.contents i.contents.made ≡ new_root space size (kinds_of code space)
          image = image_new code who n i.contents m a.stands space size

          fewer : (b : Bool) (g : ℕ) → g < cond b 0 (length (kinds_of code space)) → g < length (kinds_of code space)
          fewer true g l = absurd (omega (arith, l))
          fewer false g l = l

      pub root_alike : (h : ℕ) → Alike code before now (suc n) then (regent.grown_by (spaces_of code) n (board.new_root space size) N)
          (pushed_on (spaces_of code) n h (board.new_root space size) f) ps vs (run_all G (regent.zeros_for (spaces_of code) n (board.new_root space size)) m)
      root_alike h =
          let root = root_of space size n in
          let back = λ (s : ℕ → ℕ) (is : Naming code then.contents now s). naming_back code i.contents then.contents who now n m a.stands made_grown s is in record {
            stands = new_stands;
            own = made_is_own code i size space before a.own;
            frame = λ s is. root_seen code n h space size f
                ∙ (λ j. with_root (sym (new_name s is) j) (points size) (fields_needed code size space) (a.frame s (back s is) j))
                ∙ roots_renamed (names s) refl i.contents.made (points size) (fields_needed code size space) i.frame;
            board_needs = ap (λ rs. rs ++ needs_of_root (spaces_of code) root size (fields_of (spaces_of code) space)) a.board_needs;
            parts = λ s is. a.parts s (back s is);
            needs = λ s is. pointed_append N (needs_of_root (spaces_of code) root size (fields_of (spaces_of code) space))
                ∙ (λ j. a.needs s (back s is) j ++ (requirements_made code root size space
                ∙ ap (λ r. root_requirements r (points size) (fields_needed code size space)) (sym (new_name s is))
                ∙ sym (requirements_moved s i.contents.made (points size) (fields_needed code size space))) j)
                ∙ sym (map-append (moved s) i.needs (root_requirements i.contents.made (points size) (fields_needed code size space)));
            covered = covered_append then.contents i.needs (root_requirements i.contents.made (points size) (fields_needed code size space))
                (covered_still i.contents then.contents (λ r g p l. subst (λ (k : RootImage). p < length (get_or k.fields g []))
                (sym (image_old code who n i.contents m a.stands space size r (live_below i.contents r a.stands.numbered (shown_live i.contents r g p l)))) l) i.needs a.covered)
                fields_covered;
            results = a.results;
            fit = a.fit;
            held = a.held;
          }
