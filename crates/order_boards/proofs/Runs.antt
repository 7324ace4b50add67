-- The run of an instance in order, and of its operation by numbers, come to the same.
use Rattle.std.proofs.Common.{◌≡◌, ℕ, zero, suc, ◌+◌, ◌<◌, ◌≤◌, List, [], ◌∷◌, ◌++◌, Bool, true, false, cond, Some, refl, sym, ap, ◌∙◌, subst, map, option_map, arith, append-nil}
use Rattle.std.specs.Prelude.{length}
use Rattle.region_tree.specs.declared.tree.RootId.{RootId}
use Rattle.region_tree.specs.Requirements.{Requirement}
use Rattle.task_code.specs.declared.code.Code.{Code}
use Rattle.machine_terms.specs.declared.frame.Frame.{Frame}
use Rattle.machine_terms.specs.declared.order.Ended.{Ended}
use Rattle.machine_terms.specs.declared.order.Instance.{Instance}
use Rattle.machine_terms.specs.declared.outcome.After.{After}
use Rattle.machine_terms.specs.declared.outcome.CallOut.{CallOut}
use Rattle.machine_terms.specs.declared.outcome.Made.{Made}
use Rattle.machine_terms.specs.declared.outcome.Made.TheVariants as made
use Rattle.machine_terms.specs.declared.outcome.Yield.{Yield}
use Rattle.machine_terms.specs.declared.outcome.Yield.TheVariants as yield
use Rattle.machine_terms.specs.declared.value.RegionValue.{RegionValue}
use Rattle.machine_terms.specs.Contents.{image_of}
use Rattle.machine_terms.specs.Copies.{give_parts}
use Rattle.machine_terms.specs.Machine.{Machine}
use Rattle.machine_terms.specs.Makes.{is_sound, make_partition, make_root}
use Rattle.machine_terms.specs.Orders.{Runner, before_of, begun, breaks, call_all, give_all, resume_in, until_over}
use Rattle.machine_terms.specs.declared.order.Resumed.TheVariants.{GoesOn}
use Rattle.machine_terms.specs.Segments.{frame_after, opened, segment, stop_of}
use Rattle.machine_terms.proofs.Kept.{stop_fixed}
use Rattle.machine_terms.proofs.StepKinds.{Fixed}
use Rattle.memory_laws.specs.Places.{numbers}
use Rattle.memory_laws.proofs.Shapes.{alike_parts, length_of}
use Rattle.board_rules.specs.Ground.{Ground}
use Rattle.board_rules.specs.NumberedRuns.{Making, RestRun, go_run, makes_then, faulty, numbered_run, says_run}
use Rattle.board_rules.specs.Processes.{Map, prefix, run_all}
use Rattle.board_rules.specs.Running.{Element, Machine as BoardMachine, calls, puts}
use Rattle.regent_boards.specs.Frames as board
use Rattle.regent_boards.specs.Laws.{by_number}
use Rattle.regent_boards.specs.RegentMachine.{regent_ground}
use Rattle.regent_boards.specs.RegentMachine as regent
use Rattle.segment_renaming.specs.Renaming.{after_to, before_to, call_to, frame_to, region_to, yield_to}
use Rattle.segment_renaming.proofs.Segments.{segment_same}
use Rattle.order_laws.specs.Bounds.{Bounds, runs_within, segments_within}
use Rattle.order_laws.proofs.Resuming.{left_by}
use Rattle.code_boards.specs.Views.{after_out, before_in, board_segment, called, last_frame, region_out, spaces_of, yield_out}
use Rattle.segment_regions.proofs.Asked.{IsAsked, segments_ask}
use Rattle.order_boards.proofs.Alike.{Alike, EndsAlike, Grown, RunsAlike, ends_on, grown_self, naming_back, own_below, own_live}
use Rattle.order_boards.proofs.Behind.{LeftAlike, given_grown, given_names, given_stands, gone_alike, gone_on, left, other, other_names, seen}
use Rattle.order_boards.proofs.Called.{any_spent, calls_alike}
use Rattle.order_boards.proofs.OwnRoots.{Owns, owns_same, own_told, told_same}
use Rattle.order_boards.proofs.Making.{who_more, who_new}
use Rattle.order_boards.proofs.Needs.{covered_still}
use Rattle.order_boards.proofs.Renumbering.{names}
use Rattle.order_boards.proofs.Resumed.{awaited_alike, fetched_alike, made_grown, partition_alike, root_alike, sound_same}
use Rattle.order_boards.proofs.Stands.{Naming, Stands}

module _ (code : Code) (turns : ℕ) where
  abbrev G : Ground
  G = regent_ground (spaces_of code)

  abbrev M : ℕ → BoardMachine G
  M = by_number (spaces_of code) (board_segment code turns)

  abbrev calls_in : Yield → List CallOut
  calls_in (yield.Calls cs) = cs
  calls_in _ = []

  abbrev region_in : RegionValue → Yield → RegionValue
  region_in r (yield.Make (made.Partition q sets d)) = q
  region_in r _ = r

  module _ (b : Bounds) (most : ℕ) (large : (f : Frame) → most ≤ b.segments f) where
    -- for at most so many segments, one within or behind another
    abbrev pub Claim : ℕ → Type 0
    Claim k = (before : List ℕ) (who : ℕ → ℕ) (n : ℕ) (i : Instance) (N : List Requirement) (f : board.Frame) (ps : List (Element G)) (vs : List board.Answer)
        (m : Map G) (p : List ℕ) (j q more : ℕ) → Alike code before who n i N f ps vs m → k ≤ q → k ≤ more → k ≤ most →
        RunsAlike code p i.frame.own f.makings before who n i.contents i.text (segments_within code turns b (runs_within code turns b more) q i) (numbered_run G M k p N j f ps vs n m)

    module _ (k : ℕ) (less : Claim k) (before : List ℕ) (who : ℕ → ℕ) (n : ℕ) (i : Instance) (N : List Requirement) (f : board.Frame) (ps : List (Element G))
        (vs : List board.Answer) (m : Map G) (p : List ℕ) (j q more : ℕ) (a : Alike code before who n i N f ps vs m) (room : k ≤ q) (deep : k ≤ more)
        (bounded : k ≤ most) where
      abbrev child : Runner
      child = runs_within code turns b (suc more)

      abbrev next : Instance → Ended
      next = segments_within code turns b child q

      abbrev rest : RestRun G M
      rest = numbered_run G M k

      abbrev s : ℕ → ℕ
      s = other code turns before who n i N f ps vs m a

      is : Naming code i.contents who s
      is = other_names code turns before who n i N f ps vs m a

      -- a segment on, behind a text and with more makings
      goes_on : (t : List ℕ) (xs : List Making) (now : ℕ → ℕ) (l : ℕ) (x : Instance) (O : List Requirement) (g : board.Frame) (qs : List (Element G))
          (ws : List board.Answer) (u : Map G) (h : ℕ) → Grown i.contents who x.contents now → x.text ≡ i.text ++ t → l ≡ n + length xs →
          Owns p i.frame.own f.makings n xs now x.frame.own g.makings → Alike code before now l x O g qs ws u →
          EndsAlike code p i.frame.own f.makings before who n i.contents i.text (next x) (xs ++ (rest p O h g qs ws l u).made) (prefix G t (rest p O h g qs ws l u).result)
      goes_on t xs now l x O g qs ws u h grown text count mine al =
          let r = rest p O h g qs ws l u in
          ends_on code p i.frame.own x.frame.own f.makings g.makings before who now n i.contents x.contents i.text t xs grown
          (own_below code before now l x O g qs ws u al) mine (next x) r.made r.result
          (subst (λ c. EndsAlike code p x.frame.own g.makings before now c x.contents (i.text ++ t) (next x) r.made r.result) count
          (subst (λ y. EndsAlike code p x.frame.own g.makings before now l x.contents y (next x) r.made r.result) text
          (less before now l x O g qs ws u p h q (suc more) al room (omega (arith, deep)) bounded)))

      module _ (x : Machine) (t : List ℕ) (fixed : Fixed (opened (before_of code i)) x) where
        abbrev on : Instance
        on = gone_on code turns before who n i N f ps vs m a x t fixed

        abbrev g : board.Frame
        g = seen code turns before who n i N f ps vs m a x t fixed

        abbrev qs : List (Element G)
        qs = left code turns before who n i N f ps vs m a x t fixed

        abbrev Behind : Yield → Type 0
        Behind y = RunsAlike code p i.frame.own f.makings before who n i.contents i.text (until_over (resume_in code turns child (frame_after y x.frame) y (left_by x t i)) next)
            (says_run G M t (go_run G M rest p N j vs (last_frame f (option_map (frame_to (names s)) (frame_after y x.frame))) qs
            (yield_out code turns f (yield_to (names s) y)) n m))

        abbrev Left : Yield → Type 0
        Left y = LeftAlike code turns before who n i N f ps vs m a y x.frame

        abbrev Frames : Type 0
        Frames = (r : ℕ → ℕ) → Naming code i.contents who r → Some (frame_to (names r) x.frame) ≡ Some (frame_to (names s) x.frame)

        gone : Frames → Alike code before who n on N g qs vs m
        gone frames = gone_alike code turns before who n i N f ps vs m a x t fixed frames

        count : n ≡ n + 0
        count = omega arith

        -- no root was made
        kept : (xs : List Making) → Owns p i.frame.own f.makings n xs who x.frame.own f.makings
        kept xs = owns_same p i.frame.own x.frame.own f.makings n xs who fixed.own

        -- or this one was
        one_more : (size space : ℕ) → Owns p i.frame.own f.makings n (record { maker = p; making = j } ∷ []) (who_more code i.contents who n)
            (make_root code size space on).frame.own (f.makings ++ j ∷ [])
        one_more size space = record {
          more = record { 0 = i.contents.made } ∷ [];
          more_makings = j ∷ [];
          own_is = ap (λ (own : List RootId). own ++ record { 0 = i.contents.made } ∷ []) fixed.own;
          makings_is = refl;
          are_new = ((0, who_new code who n i.contents m a.stands space size ∙ count, (refl, refl)), tt);
        }

        -- ---- by what the segment ends with

        made_behind : (d : Made) → Left (yield.Make d) → Behind (yield.Make d)
        made_behind (made.Root size space) same = goes_on t (record { maker = p; making = j } ∷ [])
            _ (suc n) _ _ _ qs vs _ (suc j)
            (made_grown code turns before who n on N g qs vs m (gone (λ r h. (same r h).0)) size space) refl (omega arith)
            (one_more size space)
            (root_alike code turns before who n on N g qs vs m (gone (λ r h. (same r h).0)) size space j)
        made_behind (made.Partition r sets d) same =
            subst (λ c. RunsAlike code p i.frame.own f.makings before who n i.contents i.text (until_over (cond (is_sound r.points sets d) (GoesOn (make_partition r sets d on)) (breaks on)) next)
            (says_run G M t (cond c (makes_then G M (record { maker = p; making = j })
            (rest p N (suc j) (regent.pushed_on (spaces_of code) n j (board.new_partition (region_out (region_to (names s) r)) sets d) g) qs vs (suc n) m)) (faulty G M board.broken n m))))
            (sym (sound_same (spaces_of code) (region_to (names s) r) sets d)) (chosen (is_sound r.points sets d))
          where
            chosen : (c : Bool) → RunsAlike code p i.frame.own f.makings before who n i.contents i.text (until_over (cond c (GoesOn (make_partition r sets d on)) (breaks on)) next)
                (says_run G M t (cond c (makes_then G M (record { maker = p; making = j })
                (rest p N (suc j) (regent.pushed_on (spaces_of code) n j (board.new_partition (region_out (region_to (names s) r)) sets d) g) qs vs (suc n) m)) (faulty G M board.broken n m)))
            chosen true = goes_on t (record { maker = p; making = j } ∷ []) who (suc n) (make_partition r sets d on) N
                (regent.pushed_on (spaces_of code) n j (board.new_partition (region_out (region_to (names s) r)) sets d) g) qs vs m (suc j)
                (grown_self i.contents who) refl (omega arith) (kept (record { maker = p; making = j } ∷ []))
                (partition_alike code turns before who n on N g qs vs m (gone (λ r h. (same r h).0)) j s is r sets d
                (λ r2 h. ap (region_in r) (same r2 h).1))
            chosen false = (ap (λ y. i.text ++ y) (sym (append-nil t)), refl)

        calls_behind : (cs : List CallOut) → Left (yield.Calls cs) → Behind (yield.Calls cs)
        calls_behind cs same =
            let u = run_all G (puts G (M n) qs) m in
            let held = give_all on in
            let grown = given_grown code turns before who n i N f ps vs m a x t fixed in
            let alike = alike_parts x.parts i.contents in
            let al = gone (λ r h. (same r h).0) in
            let back = λ (r : ℕ → ℕ) (h : Naming code held.contents who r). naming_back code i.contents held.contents who who n m a.stands grown r h in
            let given : Alike code before who n held N g [] vs u = record {
              stands = given_stands code turns before who n i N f ps vs m a x t fixed;
              own = alike.0 ∙ al.own;
              frame = λ r h. al.frame r (back r h);
              board_needs = al.board_needs;
              parts = λ r h. refl;
              needs = λ r h. al.needs r (back r h);
              covered = covered_still i.contents held.contents
                  (λ r h y l. subst (λ e. y < e) (sym (length_of (image_of held.contents r) (image_of i.contents r) h (alike.2 r))) l) i.needs a.covered;
              results = al.results;
              fit = tt;
              held = tt;
            } in
            let e = until_over (call_all code turns child cs held) next in
            let issued = λ (d : ℕ). map (called code turns d) (map (call_to (names s)) cs) in
            let one = calls_alike code turns k before N g p j child next
            (λ ws now l d h needs O frame w al. less (numbers d) now l (begun h needs d) O frame [] [] w (length ws ∷ p) 0 (b.segments h) more al
            (omega (arith, bounded, large h)) deep bounded)
            (λ now l y ws w al. less before now l y N g [] ws w p j q (suc more) al room (omega (arith, deep)) bounded)
            cs who n held vs u given s (given_names code turns before who n i N f ps vs m a x t fixed s is)
            (λ r h. ap calls_in (same r (back r h)).1) in
            let two = subst (λ d. RunsAlike code p held.frame.own g.makings before who n held.contents held.text e (go_run G M rest p N j vs g [] (calls (issued d)) n u))
            (fixed.depth ∙ ap (λ (h : Frame). h.depth) (sym (a.frame s is))) one in
            let r = go_run G M rest p N j vs g qs (calls (issued f.depth)) n m in
            ends_on code p i.frame.own held.frame.own f.makings g.makings before who who n i.contents held.contents i.text t [] grown
            (own_below code before who n held N g [] vs u given) (kept []) e r.made r.result
            (subst (λ l. EndsAlike code p held.frame.own g.makings before who l held.contents held.text e r.made r.result) count two)

        by_yield : (y : Yield) → IsAsked y x → Left y → Behind y
        by_yield (yield.Calls cs) asked same = calls_behind cs same
        by_yield (yield.Want r field) asked same = goes_on t [] who n _ N g _ vs m j (grown_self i.contents who) refl count (kept [])
            (fetched_alike code turns before who n on N g qs vs m (gone (λ r h. (same r h).0)) s is r.0 field asked.needed asked.none)
        by_yield (yield.Await c) asked same = goes_on t [] who n _ N _ qs vs m j (grown_self i.contents who) refl count (kept [])
            (awaited_alike code turns before who n on N g qs vs m (gone (λ r h. (same r h).0)) c)
        by_yield (yield.Make d) asked same = made_behind d same
        by_yield (yield.End v) asked same = record {
          value = refl;
          says = ap (λ y. i.text ++ y) (sym (append-nil t));
          now = who;
          stands = subst (λ l. Stands code who l (give_parts x.parts i.contents) (run_all G (puts G (M n) qs) m)) count
              (given_stands code turns before who n i N f ps vs m a x t fixed);
          makings = f.makings;
          owns = owns_same p i.frame.own i.frame.own f.makings n [] who refl;
          tells = own_told i.contents who s f.own i.frame.own f.makings (ap (λ (h : Frame). h.own) (a.frame s is))
              (λ r h. is.live r (own_live code before who n i N f ps vs m a r h))
              ∙ sym (told_same i.contents (give_parts x.parts i.contents) (alike_parts x.parts i.contents).2 i.frame.own f.makings);
          own = (alike_parts x.parts i.contents).0 ∙ a.own;
          grown = given_grown code turns before who n i N f ps vs m a x t fixed;
        }
        by_yield (yield.Fault h) asked same = (ap (λ y. i.text ++ y) (sym (append-nil t)), refl)
        by_yield yield.MachineFault asked same = (ap (λ y. i.text ++ y) (sym (append-nil t)), refl)

      -- the board's segment is the machine's, with other numbers of the roots
      segment_is : (r : ℕ → ℕ) → Naming code i.contents who r → segment (before_in code f ps) ≡ after_to (names r) (segment (before_of code i))
      segment_is r h = ap segment before_is ∙ segment_same (names r) h.one (before_of code i)
        where
          before_is : before_in code f ps ≡ before_to (names r) (before_of code i)
          before_is = λ l. record { code = code; frame = a.frame r h l; parts = a.parts r h l }

      stepped : RunsAlike code p i.frame.own f.makings before who n i.contents i.text (segments_within code turns b child (suc q) i) (numbered_run G M (suc k) p N j f ps vs n m)
      stepped =
          let stop = stop_of (before_of code i) in
          subst (λ (w : After). RunsAlike code p i.frame.own f.makings before who n i.contents i.text (segments_within code turns b child (suc q) i)
          (says_run G M (after_out code turns f ps w).text
          (go_run G M rest p N j vs (after_out code turns f ps w).frame (after_out code turns f ps w).parts (after_out code turns f ps w).yields n m)))
          (sym (segment_is s is))
          (by_yield stop.machine stop.text (stop_fixed (before_of code i)) stop.ends (segments_ask (before_of code i))
          (λ r h.
          let same = sym (segment_is r h) ∙ segment_is s is in
          (ap (λ (w : After). w.frame) same, ap (λ (w : After). w.ends) same)))

    pub claim : (k : ℕ) → Claim k
    claim zero before who n i N f ps vs m p j q more a room deep bounded = any_spent code p i.frame.own f.makings before who n i.contents i.text _ []
    claim (suc k) before who n i N f ps vs m p j zero more a room deep bounded = absurd (omega (arith, room))
    claim (suc k) before who n i N f ps vs m p j (suc q) zero a room deep bounded = absurd (omega (arith, deep))
    claim (suc k) before who n i N f ps vs m p j (suc q) (suc more) a room deep bounded =
        stepped k (claim k) before who n i N f ps vs m p j q more a (omega (arith, room)) (omega (arith, deep)) (omega (arith, bounded))
