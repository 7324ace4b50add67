-- The run in order of a job, as the machine's definition gives it, is the run by numbers.
use Rattle.std.proofs.Common.{◌≡◌, ℕ, suc, ◌+◌, ◌<◌, pos, List, [], ◌∷◌, true, cond, None, refl, sym, ap, ◌∙◌, ⊎_elim, subst, map, arith}
use Rattle.std.specs.Prelude.{length}
use Rattle.std.specs.List.Sorted.{IsStrictlyIncreasing}
use Rattle.std.proofs.lemmas.Bool.{false≢true}
use Rattle.plain_values.specs.Points.{has}
use Rattle.point_sets.proofs.Rising.{Each, has-cons_cases, has_head, has_tail, rising_cons, rising_head, rising_tail}
use Rattle.region_tree.specs.declared.tree.RootId.{RootId}
use Rattle.regent_tree.specs.declared.outcome.Ending.TheVariants.{Finished}
use Rattle.task_code.specs.declared.code.TaskCode.{TaskCode}
use Rattle.task_code.specs.declared.job.Job.{Job}
use Rattle.machine_terms.specs.declared.order.Contents.{Contents}
use Rattle.machine_terms.specs.declared.order.Ended.{Ended}
use Rattle.machine_terms.specs.declared.order.Ended.TheVariants.{CameBack, Broke}
use Rattle.machine_terms.specs.Contents.{image_of, no_contents}
use Rattle.machine_terms.specs.Jobs.{first_frame, may_start, order_run, outcome, void_outcome, ending_of}
use Rattle.machine_terms.specs.Orders.{begun, enough_segments}
use Rattle.memory_laws.specs.Places.{numbers}
use Rattle.memory_laws.proofs.Closing.{ids_of}
use Rattle.memory_laws.proofs.Placing.{all_below, each_below}
use Rattle.board_rules.specs.Journals.{shown, unfinished}
use Rattle.board_rules.specs.NumberedRuns.{Making, numbered_run}
use Rattle.board_rules.specs.Processes.{Result, done, fails, spent}
use Rattle.regent_boards.specs.Frames as board
use Rattle.regent_boards.specs.RegentMachine.{regent_ground, who_of}
use Rattle.segment_renaming.specs.Renaming.{root_to}
use Rattle.order_laws.specs.Bounds.{AreLarge, Bounds, runs_within, run_first_within}
use Rattle.order_laws.proofs.Whole.{jobs_run_whole}
use Rattle.code_boards.specs.Laws.{machine_of, main_frame, ordered, room}
use Rattle.code_boards.specs.Views.{root_in, spaces_of}
use Rattle.code_boards.proofs.Beginning.{first_seen}
use Rattle.code_boards.proofs.Ends.{order_runs_end}
use Rattle.order_boards.specs.Laws.{AreOfFirstTask, OrderRunsAgree}
use Rattle.order_boards.specs.Outcomes.{AreMadeBy, IsMadeBy, IsOutcome}
use Rattle.order_boards.proofs.Alike.{Alike, EndsAlike}
use Rattle.order_boards.proofs.OwnRoots.{AreNew, own_told}
use Rattle.order_boards.proofs.Images.{images_same, roots_of}
use Rattle.order_boards.proofs.Renumbering.{names}
use Rattle.order_boards.proofs.Runs.{claim}
use Rattle.order_boards.proofs.Stands.{Stands, board_root, root_who, shown_live}

-- ---- at the beginning

module _ (job : Job) (t : TaskCode) (may : may_start job t ≡ true) where
  nothing_stands : Stands job.code (λ r. 0) 0 no_contents (λ l. pos 0)
  nothing_stands = record {
    below = λ r l. absurd (omega (arith, l));
    rising = λ a b l k. absurd (omega (arith, k));
    numbered = record { rising = λ k l. absurd (omega (arith, l)); below = all_below 0 [] (λ x e. absurd (false≢true e)) };
    shaped = λ r l. absurd (false≢true l);
    same = λ r f p l. absurd (false≢true (shown_live no_contents r f p l));
    fits = λ r f p l. absurd (false≢true (shown_live no_contents r f p l));
  }

  first_alike : Alike job.code [] (λ r. 0) 0 (begun (first_frame job t) [] no_contents) [] (main_frame job t) [] [] (λ l. pos 0)
  first_alike = record {
    stands = nothing_stands;
    own = refl;
    frame = λ s is. first_seen job t may (names s);
    board_needs = refl;
    parts = λ s is. refl;
    needs = λ s is. refl;
    covered = tt;
    results = refl;
    fit = tt;
    held = tt;
  }

  -- ---- at the end

  own_live : (own : List RootId) (d : Contents) → numbers d ≡ map (λ (k : RootId). k.0) own → (r : ℕ) → has (map (λ (k : RootId). k.0) own) r ≡ true → has (numbers d) r ≡ true
  own_live own d e r h = subst (λ ns. has ns r ≡ true) (sym e) h

  by_first : (xs : List Making) (now : ℕ → ℕ) (c : Contents) (own : List RootId) (makings : List ℕ) →
      AreNew [] 0 xs now own makings → AreMadeBy [] xs (map (λ (r : RootId). board_root c now r.0) own) makings
  by_first xs now c [] [] h = tt
  by_first xs now c [] (i ∷ makings) h = absurd h
  by_first xs now c (r ∷ own) [] h = absurd h
  by_first xs now c (r ∷ own) (i ∷ makings) h =
      let k = h.0 in (
        subst (IsMadeBy [] i xs) (omega (arith, k.1, root_who (image_of c r.0).space (image_of c r.0).count (now r.0))) k.2,
        by_first xs now c own makings h.1,
      )

  roots_seen : (s : ℕ → ℕ) (own : List RootId) → map root_in (map (λ (r : RootId). s r.0) own) ≡ map (root_to (names s)) own
  roots_seen s [] = refl
  roots_seen s (r ∷ own) = ap (λ ks. root_in (s r.0) ∷ ks) (roots_seen s own)

  names_are : (now : ℕ → ℕ) (c : Contents) (own : List RootId) → map who_of (map (λ (r : RootId). board_root c now r.0) own) ≡ map now (ids_of own)
  names_are now c [] = refl
  names_are now c (r ∷ own) = λ i. root_who (image_of c r.0).space (image_of c r.0).count (now r.0) i ∷ names_are now c own i

  in_turn : (k : ℕ) (now : ℕ → ℕ) → ((a b : ℕ) → a < b → b < k → now a < now b) → (xs : List ℕ) → IsStrictlyIncreasing xs → Each (λ x. x < k) xs →
      IsStrictlyIncreasing (map now xs)
  in_turn k now up [] h low = λ j l. absurd (omega (arith, l))
  in_turn k now up (x ∷ xs) h low = rising_cons (now x) (map now xs)
      (λ y e. let z = of_map xs y e in subst (λ w. now x < w) z.1 (up x z.0 (rising_head x xs h z.0 z.2) (low z.0 (has_tail z.0 x xs z.2))))
      (in_turn k now up xs (rising_tail x xs h) (λ y e. low y (has_tail y x xs e)))
    where
      of_map : (xs : List ℕ) (y : ℕ) → has (map now xs) y ≡ true → (z : ℕ) × (now z ≡ y) × (has xs z ≡ true)
      of_map [] y e = absurd (false≢true e)
      of_map (x ∷ xs) y e = ⊎_elim (λ q. (x, sym q, has_head x xs)) (λ q. let z = of_map xs y q in (z.0, z.1, has_tail z.0 x xs z.2))
          (has-cons_cases y (now x) (map now xs) e)

  by_end : (e : Ended) (xs : List Making) (r : Result (regent_ground (spaces_of job.code)) board.Answer) → EndsAlike job.code [] [] [] [] (λ r. 0) 0 no_contents [] e xs r →
      (shown (regent_ground (spaces_of job.code)) (machine_of job 0) r ≡ unfinished → ⊥) →
      (roots : List ℕ) × (makings : List ℕ) × (IsStrictlyIncreasing (map who_of roots) × AreMadeBy [] xs roots makings)
      × IsOutcome (spaces_of job.code) roots makings (shown (regent_ground (spaces_of job.code)) (machine_of job 0) r) (outcome e)
  by_end (CameBack v own d u) xs (done w y m) h n =
      let new : AreNew [] 0 xs h.now own h.makings =
      subst (λ is. AreNew [] 0 xs h.now own is) (sym h.owns.makings_is) (subst (λ rs. AreNew [] 0 xs h.now rs h.owns.more_makings) (sym h.owns.own_is) h.owns.are_new) in (
        roots_of job.code h.now (0 + length xs) d m h.stands own,
        h.makings,
        (
          subst IsStrictlyIncreasing (sym (names_are h.now d own)) (in_turn d.made h.now h.stands.rising (ids_of own)
              (subst IsStrictlyIncreasing h.own h.stands.numbered.rising)
              (subst (Each (λ x. x < d.made)) h.own (each_below d.made (numbers d) h.stands.numbered.below))),
          by_first xs h.now d own h.makings new,
        ),
        (
          λ i. record {
            text = h.says i;
            ending = Finished (sym (images_same job.code h.now (0 + length xs) d m h.stands own (own_live own d h.own)) i);
          },
          h.tells ∙ sym (own_told d h.now (board_root d h.now) (map (λ (r : RootId). board_root d h.now r.0) own) own h.makings
              (roots_seen (board_root d h.now) own) (λ r e. refl)),
        ),
      )
  by_end (CameBack v own d u) xs (fails x y) h n = absurd h
  by_end (CameBack v own d u) xs spent h n = absurd (n refl)
  by_end (Broke fault u) xs (done w y m) h n = absurd h
  by_end (Broke fault u) xs (fails x y) h n = ([], [], (λ j l. absurd (omega (arith, l)), tt), λ i. record { text = h.0 i; ending = ending_of (h.1 i) })
  by_end (Broke fault u) xs spent h n = absurd (n refl)

  -- bounds that are no less than those of both runs
  abbrev bounds : Bounds
  bounds = record {
    segments = λ f. room job + enough_segments job.code f;
    nested = suc (room job + 64);
    spent = λ i. Broke None i.text;
  }

  are_large : AreLarge job.code bounds
  are_large = record { segments = λ f. omega arith; nested = omega arith }

pub order_runs_agree : OrderRunsAgree
order_runs_agree job t found may =
    let i = begun (first_frame job t) [] no_contents in
    let e = runs_within job.code job.turns (bounds job t may) (suc (room job + 64)) i in
    let r = numbered_run (regent_ground (spaces_of job.code)) (machine_of job) (room job) [] [] 0 (main_frame job t) [] [] 0 (λ l. pos 0) in
    let same : order_run job ≡ outcome e = sym (jobs_run_whole job (bounds job t may) (are_large job t may))
    ∙ ap (run_first_within (bounds job t may) job) found
    ∙ ap (λ b. cond b (outcome e) void_outcome) may in
    subst (λ o. (roots : List ℕ) × (makings : List ℕ) × AreOfFirstTask job t roots makings × IsOutcome (spaces_of job.code) roots makings (ordered (room job) job t) o) (sym same)
    (by_end job t may e r.made r.result
    (claim job.code job.turns (bounds job t may) (room job) (λ f. omega arith) (room job) [] (λ r. 0) 0 i [] (main_frame job t) [] [] (λ l. pos 0)
    [] 0 (room job + enough_segments job.code (first_frame job t)) (room job + 64) (first_alike job t may) (omega arith) (omega arith) (omega arith))
    (order_runs_end job t found))
