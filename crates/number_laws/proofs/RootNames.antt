-- A finished board with roots by numbers has the outcome of the order run with roots by names.
use Rattle.std.proofs.Common.{◌≡◌, ◌++◌, ◌∷◌, ◌∙◌, List, None, Option, Some, [], ap, option_map, refl, subst, sym, true, ℕ}
use Rattle.std.proofs.lemmas.Option.{none-some, same_Some}
use Rattle.board_rules.specs.Processes.{Map, run_all}
use Rattle.board_rules.specs.Running.{Laws, Machine}
use Rattle.board_rules.specs.Boards.{Items, Operation, Stage, Stepped, at_fault, by, closing, dropped, filling, first, idle, is_over, child_op, no_item, op, out, over, said, stage_of, step_in, stopped}
use Rattle.board_rules.specs.Journals.{Entry, Job, State, Told, after_entries, answered, joined, opened, order_run, outcome_with, own_fault, replay, stepped, told, told_items, unfinished}
use Rattle.board_rules.specs.Renaming.{Base, Renamed, Renames, Roots, effects_to, ground_over, items_to, node_to, stage_to}
use Rattle.board_rules.specs.RootNumbers.{after_numbered, all_numbered, made_in, replay_numbered}
use Rattle.number_laws.proofs.Counts.{none_stays}
use Rattle.number_laws.proofs.Renamed.{Alike, NamedIn, run_all_alike, step_alike}
use Rattle.board_laws.proofs.Outcomes.{finished_as_ordered}

module _ (B : Base) (X Y : Roots B) (M : ℕ → Machine (ground_over B X)) (K : Machine (ground_over B Y)) (R : Renames B X Y) (maker : ℕ → List ℕ) (making : ℕ → ℕ) (W : Renamed B X Y M K R maker making) where
  abbrev Numbered : Type 0
  Numbered = State (ground_over B X)

  abbrev pub state_to : Numbered → Map (ground_over B Y) → State (ground_over B Y)
  state_to s u = record { tree = node_to B X Y R s.tree; map = u }

  -- each root that a journal makes has the name of its maker and making
  abbrev pub NamedJournal : List Entry → Option Numbered → Type 0
  NamedJournal [] o = Unit {0}
  NamedJournal (e ∷ es) None = Unit {0}
  NamedJournal (e ∷ es) (Some s) = NamedIn B X Y M K R maker making W (made_in (ground_over B X) M s.tree) e.kind e.way [] s.tree × NamedJournal es (after_numbered (ground_over B X) M (Some s) e)

  -- the state that is reached, renamed, is reached
  abbrev Follows : Numbered → Map (ground_over B Y) → List Entry → Numbered → Type 0
  Follows s u es t = (v : Map (ground_over B Y)) × Alike B X Y M K R maker making W 0 t.map v × (after_entries (ground_over B Y) K (Some (state_to s u)) es ≡ Some (state_to t v))

  one_more : (s : Numbered) (u : Map (ground_over B Y)) (e : Entry) (es : List Entry) (t : Numbered) (o : Option (Stepped (ground_over B X) (Operation (ground_over B X)))) →
      step_in (ground_over B Y) K e.kind e.way [] true u (node_to B X Y R s.tree) ≡ option_map (λ x. record { left = node_to B X Y R x.left; effects = effects_to B X Y R x.effects }) o →
      Alike B X Y M K R maker making W 0 s.map u → NamedJournal es (stepped (ground_over B X) (M (made_in (ground_over B X) M s.tree)) s.map o) →
      all_numbered (ground_over B X) M (stepped (ground_over B X) (M (made_in (ground_over B X) M s.tree)) s.map o) es ≡ Some t →
      ((x : Numbered) (v : Map (ground_over B Y)) → Alike B X Y M K R maker making W 0 x.map v → NamedJournal es (Some x) → all_numbered (ground_over B X) M (Some x) es ≡ Some t → Follows x v es t) →
      Follows s u (e ∷ es) t
  one_more s u e es t None q a h g k = absurd (none-some t (sym (none_stays (ground_over B X) M es) ∙ g))
  one_more s u e es t (Some x) q a h g k =
      let next = k (record { tree = x.left; map = run_all (ground_over B X) x.effects s.map }) (run_all (ground_over B Y) (effects_to B X Y R x.effects) u) (run_all_alike B X Y M K R maker making W 0 x.effects s.map u a) h g in
      (next.0, next.1, ap (λ o. after_entries (ground_over B Y) K (stepped (ground_over B Y) K u o) es) q ∙ next.2)

  pub journal_alike : (es : List Entry) (s : Numbered) (u : Map (ground_over B Y)) (t : Numbered) → Alike B X Y M K R maker making W 0 s.map u → NamedJournal es (Some s) →
      all_numbered (ground_over B X) M (Some s) es ≡ Some t → Follows s u es t
  journal_alike [] s u t a h g = subst (Follows s u []) (same_Some s t g) (u, a, refl)
  journal_alike (e ∷ es) s u t a h g = one_more s u e es t (step_in (ground_over B X) (M (made_in (ground_over B X) M s.tree)) e.kind e.way [] true s.map s.tree)
      (step_alike B X Y M K R maker making W (made_in (ground_over B X) M s.tree) e.kind e.way [] true s.map u a s.tree h.0) a h.1 g (λ x v b c d. journal_alike es x v t b c d)

  -- ---- outcomes

  abbrev told_to : Told (ground_over B X) → Told (ground_over B Y)
  told_to b = record { text = b.text; fault = b.fault }

  joined_alike : (x : Option B.Fault) (t : List B.Byte) (b : Told (ground_over B X)) → joined (ground_over B Y) K x t (told_to b) ≡ told_to (joined (ground_over B X) (M 0) x t b)
  joined_alike None t b = refl
  joined_alike (Some z) t b = refl

  own_alike : (st : Stage (ground_over B X)) → own_fault (ground_over B Y) K (stage_to B X Y R st) ≡ own_fault (ground_over B X) (M 0) st
  own_alike (idle w) = refl
  own_alike (filling w d l) = refl
  own_alike (out w d) = refl
  own_alike (closing x) = refl
  own_alike (over (by v)) = refl
  own_alike (over (at_fault x)) = refl
  own_alike (over stopped) = refl
  own_alike dropped = refl

  mutual
    told_alike : (a : Operation (ground_over B X)) → told (ground_over B Y) K (node_to B X Y R a) ≡ told_to (told (ground_over B X) (M 0) a)
    told_alike (op D N i f ps st is) =
        (λ r. joined (ground_over B Y) K (items_alike is r).fault (items_alike is r).text (record { text = []; fault = own_alike st r }))
        ∙ joined_alike (told_items (ground_over B X) (M 0) is).fault (told_items (ground_over B X) (M 0) is).text (record { text = []; fault = own_fault (ground_over B X) (M 0) st })

    items_alike : (is : Items (ground_over B X)) → told_items (ground_over B Y) K (items_to B X Y R is) ≡ told_to (told_items (ground_over B X) (M 0) is)
    items_alike no_item = refl
    items_alike (said t is) = λ r. record { text = t ++ (items_alike is r).text; fault = (items_alike is r).fault }
    items_alike (child_op a is) =
        (λ r. joined (ground_over B Y) K (told_alike a r).fault (told_alike a r).text (items_alike is r))
        ∙ joined_alike (told (ground_over B X) (M 0) a).fault (told (ground_over B X) (M 0) a).text (told_items (ground_over B X) (M 0) is)

  over_alike : (a : Operation (ground_over B X)) → is_over (ground_over B Y) (stage_of (ground_over B Y) (node_to B X Y R a)) ≡ is_over (ground_over B X) (stage_of (ground_over B X) a)
  over_alike (op D N i f ps (idle w) is) = refl
  over_alike (op D N i f ps (filling w d l) is) = refl
  over_alike (op D N i f ps (out w d) is) = refl
  over_alike (op D N i f ps (closing x) is) = refl
  over_alike (op D N i f ps (over x) is) = refl
  over_alike (op D N i f ps dropped is) = refl

  answered_alike : (a : Operation (ground_over B X)) → answered (ground_over B Y) K (node_to B X Y R a) ≡ answered (ground_over B X) (M 0) a
  answered_alike (op D N i f ps (idle w) is) = W.no_answer 0
  answered_alike (op D N i f ps (filling w d l) is) = W.no_answer 0
  answered_alike (op D N i f ps (out w d) is) = W.no_answer 0
  answered_alike (op D N i f ps (closing x) is) = W.no_answer 0
  answered_alike (op D N i f ps (over (by v)) is) = refl
  answered_alike (op D N i f ps (over (at_fault x)) is) = W.no_answer 0
  answered_alike (op D N i f ps (over stopped) is) = W.no_answer 0
  answered_alike (op D N i f ps dropped is) = W.no_answer 0

  -- the same journal leads by names to what the board by numbers is, renamed
  pub numbered_is_named : (job : Job (ground_over B X)) (named : Job (ground_over B Y)) (journal : List Entry) (t : Numbered) →
      named.frame ≡ R.frame job.frame → named.needs ≡ R.needs job.needs → Alike B X Y M K R maker making W 0 job.map named.map →
      NamedJournal journal (Some (opened (ground_over B X) (M 0) job)) → replay_numbered (ground_over B X) M job journal ≡ Some t →
      (v : Map (ground_over B Y)) × Alike B X Y M K R maker making W 0 t.map v × (replay (ground_over B Y) K named journal ≡ Some (state_to t v))
  numbered_is_named job named journal t ef en a h g =
      let r = journal_alike journal (opened (ground_over B X) (M 0) job) named.map t a h g in (
        r.0,
        r.1,
        subst (λ (s : State (ground_over B Y)). after_entries (ground_over B Y) K (Some s) journal ≡ Some (state_to t r.0))
            (λ i. record { tree = op (sym en i) (sym en i) 0 (sym ef i) [] (idle first) no_item; map = named.map }) r.2,
      )

  -- the board by numbers ends as the order run by names does, with a map that is alike
  pub numbered_as_ordered : Laws (ground_over B Y) K → (job : Job (ground_over B X)) (named : Job (ground_over B Y)) (journal : List Entry) (t : Numbered) (k : ℕ) →
      named.frame ≡ R.frame job.frame → named.needs ≡ R.needs job.needs → Alike B X Y M K R maker making W 0 job.map named.map →
      NamedJournal journal (Some (opened (ground_over B X) (M 0) job)) → replay_numbered (ground_over B X) M job journal ≡ Some t → is_over (ground_over B X) (stage_of (ground_over B X) t.tree) ≡ true →
      ¬ (order_run (ground_over B Y) K k named ≡ unfinished) →
      (v : Map (ground_over B Y)) × Alike B X Y M K R maker making W 0 t.map v
      × (outcome_with (ground_over B Y) K (told (ground_over B X) (M 0) t.tree).fault (told (ground_over B X) (M 0) t.tree).text (answered (ground_over B X) (M 0) t.tree) v
      ≡ order_run (ground_over B Y) K k named)
  numbered_as_ordered laws job named journal t k ef en a h g o e =
      let r = numbered_is_named job named journal t ef en a h g in (
        r.0,
        r.1,
        (λ i. outcome_with (ground_over B Y) K (sym (told_alike t.tree) i).fault (sym (told_alike t.tree) i).text (sym (answered_alike t.tree) i) r.0)
            ∙ finished_as_ordered (ground_over B Y) K laws named journal (state_to t r.0) k r.2 (over_alike t.tree ∙ o) e,
      )
