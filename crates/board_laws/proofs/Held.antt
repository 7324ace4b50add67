-- What an operation holds is its own while its children run, and what it is filled with stays.
use Rattle.std.proofs.Common.{◌≡◌, ◌∷◌, ◌⊎◌, ◌<◌, ◌≤◌, List, Some, [], arith, inl, inr, length, refl, subst, suc, sym, true, zero, ℕ}
use Rattle.std.specs.Prelude.{All}
use Rattle.std.proofs.lemmas.List.Elements.{All-cons, All-nil}
use Rattle.board_rules.specs.Ground.{Ground, Mode}
use Rattle.board_rules.specs.Processes.{Apart, Inside, Map}
use Rattle.board_rules.specs.Running.{Element, Held, Laws, Machine, Path, Spot, filled, spots, under}
use Rattle.board_rules.specs.Boards.{Items, Operation, Stage, child_op, closing, dropped, filling, idle, no_item, op, out, over, said, stage_of}
use Rattle.board_rules.specs.Journals.{opened}
use Rattle.board_rules.specs.Apart.{ApartWhileOpen, FilledFromMap, HeldApart, children_in, children_of, claimed_by, filled_by, find, find_among, parts_of}
use Rattle.board_laws.proofs.Good.{AllApart, FreeOf, Good, GoodItems, GoodOp, OwnOf, Rooted, needs_above, under_length}
use Rattle.board_laws.proofs.Finishing.{wants_held}
use Rattle.board_laws.proofs.Apart.{IfFound, at_found, weaken}
use Rattle.board_laws.proofs.Outcomes.{journal_leads, opened_good}

module _ (G : Ground) (M : Machine G) (L : Laws G M) where
  mutual
    -- what holds of a tree holds of each operation in it, at its place
    good_found : (way : List ℕ) (n : Operation G) (m : Map G) (p : Path G) → Good G M L m p n → IfFound G M L (find G way n) (λ a. (q : Path G) × Good G M L m q a)
    good_found [] (op D N i f ps st is) m p g = (p, g)
    good_found (c ∷ way) (op D N i f ps st is) m p g = good_among c way is m p N 0 g.1

    good_among : (c : ℕ) (way : List ℕ) (is : Items G) (m : Map G) (p : Path G) (N : G.Needs) (j : ℕ) → GoodItems G M L m p N j is →
        IfFound G M L (find_among G c way is) (λ a. (q : Path G) × Good G M L m q a)
    good_among c way no_item m p N j g = tt
    good_among c way (said t is) m p N j g = good_among c way is m p N j g
    good_among zero way (child_op n is) m p N j g = good_found way n m (j ∷ p) g.0
    good_among (suc c) way (child_op n is) m p N j g = good_among c way is m p N (suc j) g.3

  -- what a child made itself stands in no root that its parent needs
  apart_now : (p : Path G) (i j k : ℕ) (D N C E : G.Needs) (a : Mode G.Op) (l : G.Location) → Rooted G p D → OwnOf G p i D N → OwnOf G (j ∷ p) k C E →
      Inside G (Some a) (G.at N l) → Apart G (Some a) (G.at C l) → Apart G (Some a) (G.at E l)
  apart_now p i j k D N C E a l r o own held h = by_own (own l)
    where
      by_own : (G.at E l ≡ G.at C l) ⊎ ((G.maker l ≡ (j ∷ p)) × (G.making l < k)) → Apart G (Some a) (G.at E l)
      by_own (inl same) = subst (Apart G (Some a)) (sym same) h
      by_own (inr mine) = absurd (too_deep (under_length G (j ∷ p) p (subst (λ q. under G q p ≡ true) mine.0 (needs_above G p i D N l a r o held))))
        where
          too_deep : length (j ∷ p) ≤ length p → ⊥
          too_deep e = omega (arith, e)

  all_apart : (p : Path G) (i j k : ℕ) (D N C E : G.Needs) (xs : List (Spot G)) → Rooted G p D → OwnOf G p i D N → OwnOf G (j ∷ p) k C E →
      Held G (G.at N) xs → AllApart G C xs → All (λ (x : Spot G). Apart G (Some x.mode) (G.at E x.location)) xs
  all_apart p i j k D N C E [] r o own held h = All-nil (λ (y : Spot G). Apart G (Some y.mode) (G.at E y.location))
  all_apart p i j k D N C E (x ∷ xs) r o own held h =
      All-cons (λ (y : Spot G). Apart G (Some y.mode) (G.at E y.location)) x xs (apart_now p i j k D N C E x.mode x.location r o own held.0 h.0) (all_apart p i j k D N C E xs r o own held.1 h.1)

  all_free : (m : Map G) (p : Path G) (i j : ℕ) (D N : G.Needs) (xs : List (Spot G)) (is : Items G) → Rooted G p D → OwnOf G p i D N → Held G (G.at N) xs →
      FreeOf G xs is → GoodItems G M L m p N j is → All (ApartWhileOpen G xs) (children_in G is)
  all_free m p i j D N xs no_item r o held h g = All-nil (ApartWhileOpen G xs)
  all_free m p i j D N xs (said t is) r o held h g = all_free m p i j D N xs is r o held h g
  all_free m p i j D N xs (child_op (op C E k f ps st js) is) r o held h g =
      All-cons (ApartWhileOpen G xs) (op C E k f ps st js) (children_in G is) (λ e. all_apart p i j k D N C E xs r o g.0.0.own held (h.0 e)) (all_free m p i (suc j) D N xs is r o held h.1 g.3)

  claimed_held : (m : Map G) (p : Path G) (D N : G.Needs) (i : ℕ) (ps : List (Element G)) (st : Stage G) (is : Items G) → GoodOp G M L m p D N i ps st is → Held G (G.at N) (claimed_by G st)
  claimed_held m p D N i ps (idle w) is g = tt
  claimed_held m p D N i ps (filling w d l) is g = subst (Held G (G.at N)) (sym g.stage.1) (wants_held G M L N w)
  claimed_held m p D N i ps (out w d) is g = subst (Held G (G.at N)) (sym g.stage.1) (wants_held G M L N w)
  claimed_held m p D N i ps (closing e) is g = tt
  claimed_held m p D N i ps (over e) is g = tt
  claimed_held m p D N i ps dropped is g = tt

  held_free : (m : Map G) (p : Path G) (a : Operation G) → Good G M L m p a →
      All (ApartWhileOpen G (spots G (parts_of G a))) (children_of G a) × All (ApartWhileOpen G (claimed_by G (stage_of G a))) (children_of G a)
  held_free m p (op D N i f ps st is) g = (
    all_free m p i 0 D N (spots G ps) is g.0.rooted g.0.own g.0.held g.0.free g.1,
    all_free m p i 0 D N (claimed_by G st) is g.0.rooted g.0.own (claimed_held m p D N i ps st is g.0) g.0.free_claimed g.1,
  )

  pub held_apart : HeldApart G M
  held_apart job journal s r way a e = at_found G M L (find G way s.tree) a
      (λ x. All (ApartWhileOpen G (spots G (parts_of G x))) (children_of G x) × All (ApartWhileOpen G (claimed_by G (stage_of G x))) (children_of G x))
      (weaken G M L (find G way s.tree) _ _ (good_found way s.tree s.map [] (journal_leads G M L journal (opened G M job) s (opened_good G M L job) r).good)
      (λ x h. held_free s.map h.0 x h.1)) e

  -- ---- what was filled

  still_filled : (m : Map G) (p : Path G) (a : Operation G) → Good G M L m p a → filled G M (spots G (filled_by G (stage_of G a))) m ≡ filled_by G (stage_of G a)
  still_filled m p (op D N i f ps (idle w) is) g = refl
  still_filled m p (op D N i f ps (filling w d l) is) g = g.0.stage.0
  still_filled m p (op D N i f ps (out w d) is) g = g.0.stage.0
  still_filled m p (op D N i f ps (closing e) is) g = refl
  still_filled m p (op D N i f ps (over e) is) g = refl
  still_filled m p (op D N i f ps dropped is) g = refl

  pub filled_from_map : FilledFromMap G M
  filled_from_map job journal s r way a e = at_found G M L (find G way s.tree) a
      (λ x. filled G M (spots G (filled_by G (stage_of G x))) s.map ≡ filled_by G (stage_of G x))
      (weaken G M L (find G way s.tree) _ _ (good_found way s.tree s.map [] (journal_leads G M L journal (opened G M job) s (opened_good G M L job) r).good)
      (λ x h. still_filled s.map h.0 x h.1)) e
