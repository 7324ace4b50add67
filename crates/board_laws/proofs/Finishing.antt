-- How finishing an operation depends on the map and what it changes there.
use Rattle.std.proofs.Common.{◌≡◌, ◌++◌, ◌∷◌, List, None, Option, [], cond, subst, suc, sym, true, ℕ}
use Rattle.std.proofs.lemmas.Bool.{and_parts}
use Rattle.board_rules.specs.Ground.{Ground, Mode}
use Rattle.board_rules.specs.Processes.{Footprint, Inside, Map, Within}
use Rattle.board_rules.specs.Running.{Element, Held, Laws, Machine, Path, Spot, reach, run_on, spots}
use Rattle.board_rules.specs.Boards.{Ending, Items, Operation, Stage, Wait, all_over, at_fault, by, child, closing, dropped, ending, filling, finish, finish_items, first, heard, idle, is_over, child_op, met_by, needs_of, no_item, nothing, op, out, over, part, remaining, resume, said, stage_of, stopped, wants}
use Rattle.board_laws.proofs.Processes.{within_bind, within_faults, within_gives, within_says}
use Rattle.board_laws.proofs.Reaching.{at_reach, by_test, child_reach, held_append, inside_self, run_within, within_filled, within_wider}
use Rattle.board_laws.proofs.Good.{Answered, Good, GoodItems, GoodOp, StageGood, reach_own}

module _ (G : Ground) (M : Machine G) (L : Laws G M) where
  -- what an unfinished operation may reach; what is over reaches nothing
  abbrev pub open_reach : Path G → Operation G → Footprint G
  open_reach p n l = cond (is_over G (stage_of G n)) None (reach G p (needs_of G n) l)

  abbrev pub ChildrenInside : Footprint G → Path G → ℕ → Items G → Type 0
  ChildrenInside g p j no_item = Unit {0}
  ChildrenInside g p j (said t is) = ChildrenInside g p j is
  ChildrenInside g p j (child_op n is) = ((l : G.Location) → Inside G (open_reach (j ∷ p) n l) (g l)) × ChildrenInside g p (suc j) is

  pub children_within : (m : Map G) (p : Path G) (N : G.Needs) (g : Footprint G) → ((l : G.Location) → Inside G (reach G p N l) (g l)) →
      (j : ℕ) (is : Items G) → GoodItems G M L m p N j is → ChildrenInside g p j is
  children_within m p N g h j no_item k = tt
  children_within m p N g h j (said t is) k = children_within m p N g h j is k
  children_within m p N g h j (child_op n is) k = (
    λ l. by_test (is_over G (stage_of G n)) (λ b. Inside G (cond b None (reach G (j ∷ p) (needs_of G n) l)) (g l)) (λ e. tt)
        (λ e. wider (reach G (j ∷ p) (needs_of G n) l) (reach G p N l) (g l) (child_reach G M L p j (needs_of G n) N k.1 l) (h l)),
    children_within m p N g h (suc j) is k.3,
  )
    where
      wider : (a b c : Option (Mode G.Op)) → Inside G a b → Inside G b c → Inside G a c
      wider = Rattle.board_laws.proofs.Reaching.inside_inside G

  children_over : (g : Footprint G) (p : Path G) (j : ℕ) (is : Items G) → all_over G is ≡ true → ChildrenInside g p j is
  children_over g p j no_item e = tt
  children_over g p j (said t is) e = children_over g p j is e
  children_over g p j (child_op n is) e = let parts = and_parts (is_over G (stage_of G n)) (all_over G is) e in (
    λ l. subst (λ b. Inside G (cond b None (reach G (j ∷ p) (needs_of G n) l)) (g l)) (sym parts.0) tt,
    children_over g p (suc j) is parts.1,
  )

  pub reach_inside : (p : Path G) (D N : G.Needs) (i : ℕ) → Rattle.board_laws.proofs.Good.OwnOf G p i D N → (l : G.Location) → Inside G (reach G p N l) (reach G p D l)
  reach_inside p D N i o l = subst (Inside G (reach G p N l)) (reach_own G p i D N o l) (inside_self G (reach G p N l))

  pub inside_own : (p : Path G) (D N : G.Needs) (i : ℕ) → Rattle.board_laws.proofs.Good.OwnOf G p i D N → (l : G.Location) → Inside G (G.at N l) (reach G p D l)
  inside_own p D N i o l = subst (Inside G (G.at N l)) (reach_own G p i D N o l) (at_reach G M L p N l)

  pub wants_held : (N : G.Needs) (w : Wait G) → Held G (G.at N) (wants G M N w)
  wants_held N first = tt
  wants_held N nothing = tt
  wants_held N (part k) = L.wanted_held N k
  wants_held N (child c) = tt

  pub held_parts : (f : Footprint G) (xs ys : List (Spot G)) → Held G f (xs ++ ys) → Held G f xs × Held G f ys
  held_parts f [] ys h = (tt, h)
  held_parts f (x ∷ xs) ys h = let r = held_parts f xs ys h.1 in ((h.0, r.0), r.1)

  resume_within : (K : ℕ) (p : Path G) (D N : G.Needs) (i : ℕ) (f : G.Frame) (ps : List (Element G)) (vs : List G.Answer) (w : Wait G) (d : List (Element G)) (l : List (Spot G)) →
      Rattle.board_laws.proofs.Good.OwnOf G p i D N → Held G (G.at N) (spots G ps) → Held G (G.at N) (spots G d) → Held G (G.at N) l →
      Within G (reach G p D) (resume G M K p N i f ps vs w d l)
  resume_within K p D N i f ps vs w d l o hp hd hl =
      within_filled G M L (reach G p D) (G.at N) l (λ ys. run_on G M K p N i (met_by G M w f (heard G M w vs)) (ps ++ (d ++ ys)) vs) hl (inside_own p D N i o)
      (λ ys e. within_wider G (reach G p N) (reach G p D) _ (reach_inside p D N i o)
      (run_within G M L K p N i _ (ps ++ (d ++ ys)) vs (held_append G _ ps (d ++ ys) hp (held_append G _ d ys hd (subst (Held G (G.at N)) (sym e) hl)))))

  ending_within : (g : Footprint G) (e : Ending G) → Within G g (ending G M e)
  ending_within g (by v) = within_gives G g v
  ending_within g (at_fault x) = within_faults G g x
  ending_within g stopped = within_faults G g G.broken

  remaining_within : (K : ℕ) (m : Map G) (p : Path G) (D N : G.Needs) (i : ℕ) (f : G.Frame) (ps : List (Element G)) (st : Stage G) (is : Items G) (vs : List G.Answer) →
      GoodOp G M L m p D N i ps st is → Within G (open_reach p (op D N i f ps st is)) (remaining G M K p N i f ps st vs)
  remaining_within K m p D N i f ps (idle w) is vs g = resume_within K p D N i f ps vs w [] (wants G M N w) g.own g.held tt (wants_held N w)
  remaining_within K m p D N i f ps (filling w d l) is vs g =
      let h = held_parts (G.at N) (spots G d) l (subst (Held G (G.at N)) (sym g.stage.1) (wants_held N w)) in
      resume_within K p D N i f ps vs w d l g.own g.held h.0 h.1
  remaining_within K m p D N i f ps (out w d) is vs g =
      resume_within K p D N i f ps vs w d [] g.own g.held (subst (Held G (G.at N)) (sym g.stage.1) (wants_held N w)) tt
  remaining_within K m p D N i f ps (closing e) is vs g = ending_within _ e
  remaining_within K m p D N i f ps (over e) is vs g = ending_within _ e
  remaining_within K m p D N i f ps dropped is vs g = within_faults G _ G.broken

  pub inside_open : (m : Map G) (p : Path G) (D N : G.Needs) (i : ℕ) (f : G.Frame) (ps : List (Element G)) (st : Stage G) (is : Items G) →
      GoodOp G M L m p D N i ps st is → GoodItems G M L m p N 0 is → ChildrenInside (open_reach p (op D N i f ps st is)) p 0 is
  inside_open m p D N i f ps (over e) is g h = children_over _ p 0 is g.stage
  inside_open m p D N i f ps dropped is g h = children_over _ p 0 is g.stage
  inside_open m p D N i f ps (idle w) is g h = children_within m p N (reach G p D) (reach_inside p D N i g.own) 0 is h
  inside_open m p D N i f ps (filling w d l) is g h = children_within m p N (reach G p D) (reach_inside p D N i g.own) 0 is h
  inside_open m p D N i f ps (out w d) is g h = children_within m p N (reach G p D) (reach_inside p D N i g.own) 0 is h
  inside_open m p D N i f ps (closing e) is g h = children_within m p N (reach G p D) (reach_inside p D N i g.own) 0 is h

  mutual
    pub finish_within : (K : ℕ) (m : Map G) (p : Path G) (n : Operation G) → Good G M L m p n → Within G (open_reach p n) (finish G M K p n)
    finish_within K m p (op D N i f ps st is) good = within_bind G _ _ _
        (items_within K m p N 0 is (open_reach p (op D N i f ps st is)) good.1 (inside_open m p D N i f ps st is good.0 good.1))
        (λ vs. remaining_within K m p D N i f ps st is vs good.0)

    pub items_within : (K : ℕ) (m : Map G) (p : Path G) (N : G.Needs) (j : ℕ) (is : Items G) (g : Footprint G) →
        GoodItems G M L m p N j is → ChildrenInside g p j is → Within G g (finish_items G M K p j is)
    items_within K m p N j no_item g h k = within_gives G g []
    items_within K m p N j (said t is) g h k = within_says G g t _ (items_within K m p N j is g h k)
    items_within K m p N j (child_op n is) g h k = within_bind G g _ _
        (within_wider G (open_reach (j ∷ p) n) g _ k.0 (finish_within K m (j ∷ p) n h.0))
        (λ v. within_bind G g _ _ (items_within K m p N (suc j) is g h.3 k.1) (λ vs. within_gives G g (v ∷ vs)))
