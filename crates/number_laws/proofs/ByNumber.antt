-- A board by numbers is a state by places; once it is finished it has the outcome of the order run.
use Rattle.std.proofs.Common.{◌≡◌, ◌∷◌, ◌∙◌, Bool, List, None, Option, Some, [], ap, cond, false, refl, sym, true, ℕ}
use Rattle.std.specs.Prelude.{unwrap_or}
use Rattle.std.proofs.lemmas.Option.{none-some, same_Some}
use Rattle.board_rules.specs.Ground.{Ground}
use Rattle.board_rules.specs.Running.{Laws, Machine}
use Rattle.board_rules.specs.Journals.{Job, State}
use Rattle.board_rules.specs.Renaming.{Base, Renames, Roots, ground_over}
use Rattle.board_rules.specs.RootNumbers.{after_numbered, all_numbered}
use Rattle.board_rules.specs.ByNumber.{FinishedByNumber, Renamable}
use Rattle.board_rules.specs.NumberedBoards.{Board, Step, entries, entry_of, start, after_step, after_steps, by_way, may_step, moved, way_of}
use Rattle.number_laws.proofs.Outcomes.{finished_by_journal}

module _ (G : Ground) (M : ℕ → Machine G) where
  none_stays : (ss : List Step) → after_steps G M None ss ≡ None
  none_stays [] = refl
  none_stays (s ∷ ss) = none_stays ss

  abbrev IfBoard : Option (Board G) → (Board G → Type 0) → Type 0
  IfBoard None P = Unit {0}
  IfBoard (Some b) P = P b

  one_step : (b : Board G) (s : Step) → IfBoard (after_step G M (Some b) s) (λ c. after_numbered G M (Some b.state) (entry_of G M b s) ≡ Some c.state)
  one_step b s = tested (may_step G M s b.claims)
    where
      placed : (way : List ℕ) (o : Option (State G)) → after_numbered G M (Some b.state) (record { kind = s.kind; way = way }) ≡ o →
          IfBoard (moved G M b s way o) (λ c. after_numbered G M (Some b.state) (record { kind = s.kind; way = way }) ≡ Some c.state)
      placed way None e = tt
      placed way (Some t) e = e

      found : (o : Option (List ℕ)) → IfBoard (by_way G M b s o) (λ c. after_numbered G M (Some b.state) (record { kind = s.kind; way = unwrap_or o [] }) ≡ Some c.state)
      found None = tt
      found (Some way) = placed way (after_numbered G M (Some b.state) (record { kind = s.kind; way = way })) refl

      tested : (t : Bool) → IfBoard (cond t (by_way G M b s (way_of G M b.ways s.number)) None) (λ c. after_numbered G M (Some b.state) (entry_of G M b s) ≡ Some c.state)
      tested true = found (way_of G M b.ways s.number)
      tested false = tt

  pub steps_reach : (ss : List Step) (b c : Board G) → after_steps G M (Some b) ss ≡ Some c → all_numbered G M (Some b.state) (entries G M (Some b) ss) ≡ Some c.state
  steps_reach [] b c e = ap (λ (x : Board G). Some x.state) (same_Some b c e)
  steps_reach (s ∷ ss) b c e = first_then (after_step G M (Some b) s) (one_step b s) e (λ d h. steps_reach ss d c h)
    where
      first_then : (o : Option (Board G)) → IfBoard o (λ d. after_numbered G M (Some b.state) (entry_of G M b s) ≡ Some d.state) → after_steps G M o ss ≡ Some c →
          ((d : Board G) → after_steps G M (Some d) ss ≡ Some c → all_numbered G M (Some d.state) (entries G M (Some d) ss) ≡ Some c.state) →
          all_numbered G M (after_numbered G M (Some b.state) (entry_of G M b s)) (entries G M o ss) ≡ Some c.state
      first_then None h a k = absurd (none-some c (sym (none_stays ss) ∙ a))
      first_then (Some d) h a k = ap (λ o. all_numbered G M o (entries G M (Some d) ss)) h ∙ k d a

module _ (B : Base) (X Y : Roots B) (M : ℕ → Machine (ground_over B X)) (K : Machine (ground_over B Y)) (rename : (ℕ → List ℕ) → (ℕ → ℕ) → Renames B X Y) where
  -- whatever steps were made, by whichever seats
  pub finished_by_number : Laws (ground_over B Y) K → (IsJob : Job (ground_over B X) → Type 0) →
      ((job : Job (ground_over B X)) → IsJob job → (named : Job (ground_over B Y)) × Renamable B X Y M K rename job named) → FinishedByNumber B X Y M K rename IsJob
  finished_by_number laws IsJob can job is steps b k e done_all ended =
      let n = can job is in
      finished_by_journal B X Y M K rename job n.0 n.1 laws (entries (ground_over B X) M (Some (start (ground_over B X) M job)) steps) b.state k
      (steps_reach (ground_over B X) M steps (start (ground_over B X) M job) b e) done_all ended
