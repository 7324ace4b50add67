-- What an operation was issued with it still needs.
use Rattle.std.proofs.Common.{◌≡◌, ◌∷◌, List, Some, [], false, inl, inr, subst, suc, sym, zero, ℕ}
use Rattle.board_rules.specs.Apart.{find, find_among, needs_now}
use Rattle.board_rules.specs.Boards.{Items, Operation, child_op, needs_of, no_item, op, said}
use Rattle.board_rules.specs.Ground.{Ground}
use Rattle.board_rules.specs.Journals.{Entry, Job, State, opened, replay}
use Rattle.board_rules.specs.Processes.{Inside}
use Rattle.board_rules.specs.Running.{Laws, Machine, Path}
use Rattle.board_laws.proofs.Apart.{IfFound, at_found}
use Rattle.board_laws.proofs.Good.{Good, GoodItems, OwnOf, Rooted, above, above_self}
use Rattle.board_laws.proofs.Outcomes.{journal_leads, opened_good}
use Rattle.board_laws.proofs.Reaching.{inside_self}

module _ (G : Ground) (M : Machine G) (L : Laws G M) where
  abbrev StillNeeds : Operation G → Type 0
  StillNeeds a = (l : G.Location) → Inside G (G.at (needs_of G a) l) (G.at (needs_now G a) l)

  -- besides it needs only what it made, and was issued with none of that
  own_besides : (p : Path G) (D N : G.Needs) (i : ℕ) → Rooted G p D → OwnOf G p i D N → (l : G.Location) → Inside G (G.at D l) (G.at N l)
  own_besides p D N i rooted own l = elim (own l) [
    | inl e ↦ subst (λ x. Inside G (G.at D l) x) (sym e) (inside_self G (G.at D l))
    | inr h ↦ subst (λ x. Inside G x (G.at N l)) (sym (rooted l (subst (λ q. above G p q ≡ false) (sym h.0) (above_self G p)))) tt
  ]

  mutual
    found_needs : (way : List ℕ) (n : Operation G) (m : G.Location → G.Number) (p : Path G) → Good G M L m p n → IfFound G M L (find G way n) StillNeeds
    found_needs [] (op D N i f ps st is) m p g = own_besides p D N i g.0.rooted g.0.own
    found_needs (c ∷ way) (op D N i f ps st is) m p g = among_needs c way is m p N 0 g.1

    among_needs : (c : ℕ) (way : List ℕ) (is : Items G) (m : G.Location → G.Number) (p : Path G) (N : G.Needs) (j : ℕ) → GoodItems G M L m p N j is → IfFound G M L (find_among G c way is) StillNeeds
    among_needs c way no_item m p N j g = tt
    among_needs c way (said t is) m p N j g = among_needs c way is m p N j g
    among_needs zero way (child_op n is) m p N j g = found_needs way n m (j ∷ p) g.0
    among_needs (suc c) way (child_op n is) m p N j g = among_needs c way is m p N (suc j) g.3

  pub still_needs : (job : Job G) (journal : List Entry) (s : State G) → replay G M job journal ≡ Some s → (way : List ℕ) (a : Operation G) → find G way s.tree ≡ Some a → StillNeeds a
  still_needs job journal s r way a e =
      at_found G M L (find G way s.tree) a StillNeeds (found_needs way s.tree s.map [] (journal_leads G M L journal (opened G M job) s (opened_good G M L job) r).good) e
