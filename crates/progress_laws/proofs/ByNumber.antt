-- What holds of boards in progress by names holds of them by numbers.
use Rattle.std.proofs.Common.{◌≡◌, ◌∷◌, ◌∙◌, List, None, Option, Some, [], ap, arith, is_some, option_map, refl, suc, subst, sym, true, zero, ℕ}
use Rattle.board_rules.specs.Apart.{claimed_by, filled_by, needs_now, parts_of}
use Rattle.board_rules.specs.Boards.{Items, Operation, Stepped, child_op, claim, needs_of, no_item, op, said, stage_of, step_in}
use Rattle.board_rules.specs.ByNumber.{Differ, Renamable, board_maker, board_making}
use Rattle.board_rules.specs.Ground.{Ground, Mode}
use Rattle.board_rules.specs.Journals.{Entry, Job, State, opened, replay, stepped}
use Rattle.board_rules.specs.NumberedBoards.{Board, Step, after_step, board_of, by_way, entries, moved, start}
use Rattle.board_rules.specs.Processes.{Apart, Inside, Map}
use Rattle.board_rules.specs.Renaming.{Base, Renamed, Renames, Roots, effects_to, ground_over, node_to}
use Rattle.board_rules.specs.RootNames.{Name, names}
use Rattle.board_rules.specs.RootNumbers.{made_in, replay_numbered, turned_onto}
use Rattle.board_rules.specs.Running.{Element, Laws, Machine, filled, spots}
use Rattle.board_laws.proofs.Apart.{in_progress_apart}
use Rattle.board_laws.proofs.Held.{filled_from_map, held_apart}
use Rattle.board_laws.proofs.Ready.{some_ready}
use Rattle.number_laws.proofs.ByNumber.{steps_reach}
use Rattle.number_laws.proofs.Counts.{IfLeft}
use Rattle.number_laws.proofs.Naming.{board_renaming, names_differ, reached_by_name, turned_back}
use Rattle.number_laws.proofs.Renamed.{NamedAmong, NamedIn, step_alike}
use Rattle.progress_laws.specs.Progress.{FilledByNumber, FilledIsMap, HeldApartByNumber, HeldIsApart, InProgressApartByNumber, IssuedByNumber, IssuedIsNeeded, NeedsAreRenamed, ProgressIsApart, SomeIsReady, SomeReadyByNumber}
use Rattle.progress_laws.proofs.Found.{claimed_spots_to, claims_to, filled_back, filled_to, found_to, held_back, issued_to, needs_to, over_to, parts_to, progress_to}
use Rattle.progress_laws.proofs.Issued.{still_needs}
use Rattle.progress_laws.proofs.Numbers.{HasNumber, Listed, board_listed, unclaimed}
use Rattle.progress_laws.proofs.Steps.{Leaves, step_leaves}

module _ (B : Base) (X Y : Roots B) (M : ℕ → Machine (ground_over B X)) (K : Machine (ground_over B Y)) (rename : (ℕ → List ℕ) → (ℕ → ℕ) → Renames B X Y)
    (IsJob : Job (ground_over B X) → Type 0) (laws : Laws (ground_over B Y) K)
    (can : (job : Job (ground_over B X)) → IsJob job → (named : Job (ground_over B Y)) × Renamable B X Y M K rename job named) where
  abbrev G : Ground
  G = ground_over B X

  abbrev H : Ground
  H = ground_over B Y

  some_mapped : {A C : Type 0} (f : A → C) (o : Option A) → is_some (option_map f o) ≡ is_some o
  some_mapped f None = refl
  some_mapped f (Some a) = refl

  -- the board of a job that steps lead to, and its names
  module _ (job : Job G) (is : IsJob job) (steps : List Step) (b : Board G) (made : board_of G M job steps ≡ Some b) where
    abbrev named : Job H
    named = (can job is).0

    abbrev renamable : Renamable B X Y M K rename job named
    renamable = (can job is).1

    abbrev journal : List Entry
    journal = entries G M (Some (start G M job)) steps

    led : replay_numbered G M job journal ≡ Some b.state
    led = steps_reach G M steps (start G M job) b made

    abbrev maker : ℕ → List ℕ
    maker = board_maker B X Y M K rename job journal b.state

    abbrev making : ℕ → ℕ
    making = board_making B X Y M K rename job journal b.state

    abbrev R : Renames B X Y
    R = board_renaming B X Y M K rename job named journal b.state

    abbrev name : ℕ → Name
    name n = names G M (suc (made_in G M b.state.tree)) journal (Some (opened G (M 0) job)) n

    same_way : (n m : ℕ) → maker n ≡ maker m → (name n).way ≡ (name m).way
    same_way n m q = sym (turned_back G M (name n).way) ∙ ap (λ w. turned_onto G M w []) q ∙ turned_back G M (name m).way

    differ : Differ maker making
    differ n m l p q = names_differ G M (suc (made_in G M b.state.tree)) journal (opened G (M 0) job) b.state n m led (omega arith) (omega arith) l (λ i. record { way = same_way n m p i; making = q i })

    -- the board by names that the journal leads to
    reached : (v : Map H) × ((l : X.Location) → v (R.loc l) ≡ b.state.map l) × (replay H K named journal ≡ Some (record { tree = node_to B X Y R b.state.tree; map = v }))
    reached = reached_by_name B X Y M K rename job named journal b.state led renamable

    abbrev state : State H
    state = record { tree = node_to B X Y R b.state.tree; map = reached.0 }

    module _ (renamed : NeedsAreRenamed B X Y rename) where
      apart : ProgressIsApart G b
      apart v w a c fa fc vw wv pa pc l =
          subst (λ (o : Option (Mode B.Op)). Apart G (X.at (needs_now G a) l) o) (needs_to B X Y R (renamed maker making differ) c l)
          (subst (λ (o : Option (Mode B.Op)). Apart G o (Y.at (needs_now H (node_to B X Y R c)) (R.loc l))) (needs_to B X Y R (renamed maker making differ) a l)
          (in_progress_apart H K laws named journal state reached.2 v w (node_to B X Y R a) (node_to B X Y R c) (found_to B X Y R v b.state.tree a fa) (found_to B X Y R w b.state.tree c fc) vw wv
          (progress_to B X Y R a ∙ pa) (progress_to B X Y R c ∙ pc) (R.loc l)))

      issued : IssuedIsNeeded G b
      issued way a e l =
          let stays = renamed maker making differ in
          subst (λ (o : Option (Mode B.Op)). Inside G o (X.at (needs_now G a) l)) (issued_to B X Y R stays a l)
          (subst (λ (o : Option (Mode B.Op)). Inside G (Y.at (needs_of H (node_to B X Y R a)) (R.loc l)) o) (needs_to B X Y R stays a l)
          (still_needs H K laws named journal state reached.2 way (node_to B X Y R a) (found_to B X Y R way b.state.tree a e) (R.loc l)))

      held : HeldIsApart G b
      held way a e =
          let stays = renamed maker making differ in
          let there = held_apart H K laws named journal state reached.2 way (node_to B X Y R a) (found_to B X Y R way b.state.tree a e) in (
            held_back B X Y R stays (spots G (parts_of G a)) (spots H (parts_of H (node_to B X Y R a))) a (parts_to B X Y R a) there.0,
            held_back B X Y R stays (claimed_by G (stage_of G a)) (claimed_by H (stage_of H (node_to B X Y R a))) a (claimed_spots_to B X Y R a) there.1,
          )

    from_map : FilledIsMap G M b
    from_map way a e =
        filled_back B X Y R (M 0) K b.state.map reached.0 reached.1 (filled_by G (stage_of G a))
        (subst (λ (xs : List (Element H)). filled H K (spots H xs) reached.0 ≡ xs) (filled_to B X Y R a)
        (filled_from_map H K laws named journal state reached.2 way (node_to B X Y R a) (found_to B X Y R way b.state.tree a e)))

    -- ---- what can be claimed

    abbrev now : Machine G
    now = M (made_in G M b.state.tree)

    abbrev W : Renamed B X Y M K R maker making
    W = renamable.renamed maker making differ

    mutual
      -- a claim makes no root
      claim_named : (way p : List ℕ) (a : Operation G) → NamedIn B X Y M K R maker making W (made_in G M b.state.tree) claim way p a
      claim_named [] p (op D N i f ps st js) = tt
      claim_named (c ∷ way) p (op D N i f ps st js) = claims_named c way p 0 js

      claims_named : (c : ℕ) (way p : List ℕ) (j : ℕ) (js : Items G) → NamedAmong B X Y M K R maker making W (made_in G M b.state.tree) claim c way p j js
      claims_named c way p j no_item = tt
      claims_named c way p j (said t js) = claims_named c way p j js
      claims_named zero way p j (child_op a js) = claim_named way (j ∷ p) a
      claims_named (suc c) way p j (child_op a js) = claims_named c way p (suc j) js

    listed : Listed G M b
    listed = board_listed G M job steps b made

    way_found : (way : List ℕ) (o : Option (Stepped G (Operation G))) → is_some o ≡ true → IfLeft G M now o (Leaves G M now claim way b.state.tree) → HasNumber G M b.ways way
    way_found way None e l = absurd cc
    way_found way (Some x) e l = listed.ways way l.found

    is_next : (s : Step) (way : List ℕ) (o : Option (Stepped G (Operation G))) → is_some o ≡ true → is_some (moved G M b s way (stepped G now b.state.map o)) ≡ true
    is_next s way None e = absurd cc
    is_next s way (Some x) e = refl

    -- a step that claims on a way is one by number, of each seat
    by_any : (way : List ℕ) → is_some (step_in G now claim way [] true b.state.map b.state.tree) ≡ true →
        (n : ℕ) × ((seat : ℕ) → is_some (after_step G M (Some b) (record { kind = claim; number = n; seat = seat })) ≡ true)
    by_any way e =
        let step = step_in G now claim way [] true b.state.map b.state.tree in
        let number = way_found way step e (step_leaves G M now claim way [] true b.state.map b.state.tree) in (
          number.0,
          λ seat. ap (λ o. is_some (by_way G M b (record { kind = claim; number = number.0; seat = seat }) o)) number.1
              ∙ is_next (record { kind = claim; number = number.0; seat = seat }) way step e,
        )

    ready : SomeIsReady G M b
    ready o e =
        let there = some_ready H K laws named journal state reached.2 (over_to B X Y R b.state.tree ∙ o) (claims_to B X Y R b.state.tree ∙ unclaimed G M b listed e) in
        by_any there.0
        (sym (some_mapped (λ (x : Stepped G (Operation G)). record { left = node_to B X Y R x.left; effects = effects_to B X Y R x.effects }) (step_in G now claim there.0 [] true b.state.map b.state.tree))
        ∙ sym (ap is_some (step_alike B X Y M K R maker making W (made_in G M b.state.tree) claim there.0 [] true b.state.map reached.0 reached.1 b.state.tree (claim_named there.0 [] b.state.tree))) ∙ there.1)

  pub in_progress_by_number : NeedsAreRenamed B X Y rename → InProgressApartByNumber G M IsJob
  in_progress_by_number renamed job is steps b made = apart job is steps b made renamed

  pub issued_by_number : NeedsAreRenamed B X Y rename → IssuedByNumber G M IsJob
  issued_by_number renamed job is steps b made = issued job is steps b made renamed

  pub held_by_number : NeedsAreRenamed B X Y rename → HeldApartByNumber G M IsJob
  held_by_number renamed job is steps b made = held job is steps b made renamed

  pub filled_by_number : FilledByNumber G M IsJob
  filled_by_number job is steps b made = from_map job is steps b made

  pub ready_by_number : SomeReadyByNumber G M IsJob
  ready_by_number job is steps b made = ready job is steps b made
