-- Each journal has names for the roots that it makes, no two alike.
use Rattle.std.proofs.Common.{◌≡◌, ◌++◌, ◌+◌, ◌∷◌, ◌∙◌, ◌&&◌, ◌≤◌, ◌<◌, Bool, List, None, Option, Some, [], ap, append-nil, arith, cond, eq-eqb, eqb-true, false, le_refl, le_trans, nat_eq, refl, subst, suc, sym, true, zero, ℕ}
use Rattle.std.proofs.lemmas.Bool.{and_from}
use Rattle.std.proofs.lemmas.Option.{none-some, same_Some}
use Rattle.board_rules.specs.Ground.{Ground}
use Rattle.board_rules.specs.Processes.{Map}
use Rattle.board_rules.specs.Running.{Element, Laws, Machine, Yield, await, calls, ends, make, stops, want}
use Rattle.board_rules.specs.Boards.{Items, Kind, Operation, Stage, Stepped, back, claim, closing, copy, dropped, filling, give, idle, is_over, child_op, no_item, op, out, over, said, stage_of, step_in}
use Rattle.board_rules.specs.Journals.{Entry, Job, State, answered, opened, order_run, outcome_with, replay, stepped, told, unfinished}
use Rattle.board_rules.specs.Renaming.{Base, Renamed, Renames, Roots, ground_over, node_to}
use Rattle.board_rules.specs.RootNames.{Name, made, makes, makes_among, makes_in, makes_now, makes_own, names}
use Rattle.board_rules.specs.ByNumber.{Differ, Renamable, board_maker, board_making, on_board}
use Rattle.board_rules.specs.RootNumbers.{after_numbered, all_numbered, count_among, count_at, made_among, made_in, replay_numbered, turned_onto}
use Rattle.board_laws.proofs.Reaching.{by_test}
use Rattle.number_laws.proofs.Counts.{none_stays, Counted, one_if, step_counted}
use Rattle.number_laws.proofs.Renamed.{NamedAmong, NamedIn}
use Rattle.number_laws.proofs.RootNames.{NamedJournal, numbered_as_ordered, numbered_is_named}

module _ (G : Ground) (F : ℕ → Machine G) (c : ℕ) where
  mutual
    count_made : (w : List ℕ) (a : Operation G) → count_at G F w a ≤ made_in G F a
    count_made [] (op D N i f ps st is) = omega arith
    count_made (x ∷ w) (op D N i f ps st is) = let h = count_items x w is in omega (arith, h)

    count_items : (x : ℕ) (w : List ℕ) (is : Items G) → count_among G F x w is ≤ made_among G F is
    count_items x w no_item = omega arith
    count_items x w (said t is) = count_items x w is
    count_items zero w (child_op a is) = let h = count_made w a in omega (arith, h)
    count_items (suc x) w (child_op a is) = let h = count_items x w is in omega (arith, h)

  -- what one entry leads to
  record Goes (e : Entry) (es : List Entry) (s t : State G) : Type 0 where
    pub next : State G
    pub is_next : after_numbered G F (Some s) e ≡ Some next
    pub on : all_numbered G F (Some next) es ≡ Some t
    pub counted : Counted G F (F (made G F c s)) (makes G F c e s) e.way s.tree next.tree

  goes : (e : Entry) (es : List Entry) (s t : State G) → all_numbered G F (Some s) (e ∷ es) ≡ Some t → Goes e es s t
  goes e es s t h = by_step (step_in G (F (made G F c s)) e.kind e.way [] true s.map s.tree) refl (step_counted G F (F (made G F c s)) e.kind e.way [] true s.map s.tree) h
    where
      IfLeft : Option (Stepped G (Operation G)) → Type 0
      IfLeft o = Unit {0}

      by_step : (o : Option (Stepped G (Operation G))) → step_in G (F (made G F c s)) e.kind e.way [] true s.map s.tree ≡ o →
          Rattle.number_laws.proofs.Counts.IfLeft G F (F (made G F c s)) o (Counted G F (F (made G F c s)) (makes G F c e s) e.way s.tree) →
          all_numbered G F (stepped G (F (made G F c s)) s.map o) es ≡ Some t → Goes e es s t
      by_step None a b k = absurd (none-some t (sym (none_stays G F es) ∙ k))
      by_step (Some x) a b k = record { next = record { tree = x.left; map = _ }; is_next = ap (stepped G (F (made G F c s)) s.map) a; on = k; counted = b }

  made_grows : (es : List Entry) (s t : State G) → all_numbered G F (Some s) es ≡ Some t → made G F c s ≤ made G F c t
  made_grows [] s t h = le_same (same_Some s t h)
    where
      le_same : s ≡ t → made G F c s ≤ made G F c t
      le_same e = subst (λ x. made G F c s ≤ made G F c x) e (le_refl (made G F c s))
  made_grows (e ∷ es) s t h = let g = goes e es s t h in let r = made_grows es g.next t g.on in let a = g.counted.all in omega (arith, r, a)

  -- a name from here on is of a making that is not yet made
  not_yet : (es : List Entry) (s t : State G) (n : ℕ) → all_numbered G F (Some s) es ≡ Some t → made G F c t < c → count_at G F (names G F c es (Some s) n).way s.tree ≤ (names G F c es (Some s) n).making
  not_yet [] s t n h b = let a = count_made [] s.tree in let g = made_grows [] s t h in omega (arith, a, g, b)
  not_yet (e ∷ es) s t n h b = let g = goes e es s t h in
      by_test (makes G F c e s && nat_eq n (made G F c s)) (λ x. count_at G F (cond x (record { way = e.way; making = count_at G F e.way s.tree }) (names G F c es (after_numbered G F (Some s) e) n)).way s.tree
      ≤ (cond x (record { way = e.way; making = count_at G F e.way s.tree }) (names G F c es (after_numbered G F (Some s) e) n)).making)
      (λ x. le_refl (count_at G F e.way s.tree))
      (λ x. subst (λ o. count_at G F (names G F c es o n).way s.tree ≤ (names G F c es o n).making) (sym g.is_next)
      (le_trans (g.counted.nowhere_fewer (names G F c es (Some g.next) n).way) (not_yet es g.next t n g.on b)))

  here : (e : Entry) (es : List Entry) (s : State G) (n : ℕ) → makes G F c e s ≡ true → n ≡ made G F c s → names G F c (e ∷ es) (Some s) n ≡ record { way = e.way; making = count_at G F e.way s.tree }
  here e es s n h k = ap (λ b. cond b (record { way = e.way; making = count_at G F e.way s.tree }) (names G F c es (after_numbered G F (Some s) e) n)) (and_from _ _ h (eq-eqb n (made G F c s) k))

  later : (e : Entry) (es : List Entry) (s t : State G) (g : Goes e es s t) (n : ℕ) → (makes G F c e s && nat_eq n (made G F c s)) ≡ false → names G F c (e ∷ es) (Some s) n ≡ names G F c es (Some g.next) n
  later e es s t g n h = ap (λ b. cond b (record { way = e.way; making = count_at G F e.way s.tree }) (names G F c es (after_numbered G F (Some s) e) n)) h ∙ ap (λ o. names G F c es o n) g.is_next

  other_number : (b : Bool) (n m : ℕ) → ¬ (n ≡ m) → (b && nat_eq n m) ≡ false
  other_number true n m h = by_test (nat_eq n m) (λ x. nat_eq n m ≡ x → x ≡ false) (λ x k. absurd (h (eqb-true n m k))) (λ x k. refl) refl
  other_number false n m h = refl

  no_making : (b : Bool) (n m : ℕ) → b ≡ false → (b && nat_eq n m) ≡ false
  no_making b n m h = ap (λ x. x && nat_eq n m) h

  pub names_differ : (es : List Entry) (s t : State G) (n m : ℕ) → all_numbered G F (Some s) es ≡ Some t → made G F c t < c → made G F c s ≤ n → n < m → names G F c es (Some s) n ≡ names G F c es (Some s) m → ⊥
  names_differ [] s t n m h b a l e = let k = ap (λ (x : Name). x.making) e in omega (arith, k, l)
  names_differ (e ∷ es) s t n m h b a l q = by_test (makes G F c e s) (λ x. makes G F c e s ≡ x → ⊥)
      (λ x k. by_test (nat_eq n (made G F c s)) (λ y. nat_eq n (made G F c s) ≡ y → ⊥)
      (λ y j. let is = eqb-true n (made G F c s) j in first_one k is (sym (here e es s n k is) ∙ q ∙ later e es s t g m (other_number (makes G F c e s) m (made G F c s) (λ z. omega (arith, z, is, l)))))
      (λ y j. let all = g.counted.all ∙ ap (λ z. made G F c s + one_if G F (F (made G F c s)) z) k in
      names_differ es g.next t n m g.on b (past all j) l
      (sym (later e es s t g n (other_number (makes G F c e s) n (made G F c s) (differs n j))) ∙ q ∙ later e es s t g m (other_number (makes G F c e s) m (made G F c s) (λ z. omega (arith, z, a, l))))) refl)
      (λ x k. let all = g.counted.all ∙ ap (λ z. made G F c s + one_if G F (F (made G F c s)) z) k in
      names_differ es g.next t n m g.on b (omega (arith, all, a)) l (sym (later e es s t g n (no_making (makes G F c e s) n (made G F c s) k)) ∙ q ∙ later e es s t g m (no_making (makes G F c e s) m (made G F c s) k))) refl
    where
      g : Goes e es s t
      g = goes e es s t h

      differs : (x : ℕ) → nat_eq x (made G F c s) ≡ false → ¬ (x ≡ made G F c s)
      differs x j z = absurd (true_false (sym (eq-eqb x (made G F c s) z) ∙ j))
        where
          true_false : true ≡ false → ⊥
          true_false e = cc

      past : made G F c g.next ≡ made G F c s + 1 → nat_eq n (made G F c s) ≡ false → made G F c g.next ≤ n
      past all j = let d = differs n j in omega (arith, all, a, d)

      first_one : makes G F c e s ≡ true → n ≡ made G F c s → record { way = e.way; making = count_at G F e.way s.tree } ≡ names G F c es (Some g.next) m → ⊥
      first_one k is z = let low = not_yet es g.next t m g.on b in
          let there = g.counted.there k in
          let same_way : count_at G F e.way g.next.tree ≤ (names G F c es (Some g.next) m).making = subst (λ w. count_at G F w g.next.tree ≤ (names G F c es (Some g.next) m).making) (sym (ap (λ (x : Name). x.way) z)) low in
          let same_making = ap (λ (x : Name). x.making) z in
          omega (arith, there, same_way, same_making)

module _ (B : Base) (X Y : Roots B) (M : ℕ → Machine (ground_over B X)) (K : Machine (ground_over B Y)) (R : Renames B X Y) (maker : ℕ → List ℕ) (making : ℕ → ℕ) (W : Renamed B X Y M K R maker making) where
  abbrev G : Ground
  G = ground_over B X

  module _ (n : ℕ) where
    named_yield : (p : List ℕ) (i : ℕ) (y : Yield G) → (makes_now G (M n) y ≡ true → (maker n ≡ p) × (making n ≡ i)) → Rattle.number_laws.proofs.Renamed.NamedYield B X Y M K R maker making W n p i y
    named_yield p i (calls xs) h = tt
    named_yield p i (want k) h = tt
    named_yield p i (await c) h = tt
    named_yield p i (make d) h = h
    named_yield p i (ends v) h = tt
    named_yield p i (stops x) h = tt

    named_own : (k : Kind) (p : List ℕ) (D N : X.Needs) (i : ℕ) (f : X.Frame) (ps : List (Element G)) (st : Stage G) (is : Items G) →
        (makes_own G (M n) k (op D N i f ps st is) ≡ true → (maker n ≡ p) × (making n ≡ i)) → Rattle.number_laws.proofs.Renamed.NamedOwn B X Y M K R maker making W n k p (op D N i f ps st is)
    named_own give p D N i f ps (out w d) is h = named_yield p i _ h
    named_own give p D N i f ps (idle w) is h = tt
    named_own give p D N i f ps (filling w d l) is h = tt
    named_own give p D N i f ps (closing x) is h = tt
    named_own give p D N i f ps (over x) is h = tt
    named_own give p D N i f ps dropped is h = tt
    named_own claim p D N i f ps st is h = tt
    named_own copy p D N i f ps st is h = tt
    named_own back p D N i f ps st is h = tt

    mutual
      named_in : (k : Kind) (way : List ℕ) (p : List ℕ) (a : Operation G) → (makes_in G (M n) k way a ≡ true → (maker n ≡ turned_onto G M way p) × (making n ≡ count_at G M way a)) → NamedIn B X Y M K R maker making W n k way p a
      named_in k [] p (op D N i f ps st is) h = named_own k p D N i f ps st is h
      named_in k (c ∷ way) p (op D N i f ps st is) h = named_among k c c way p 0 is (omega arith) h

      named_among : (k : Kind) (x c : ℕ) (way : List ℕ) (p : List ℕ) (j : ℕ) (is : Items G) → x ≡ j + c →
          (makes_among G (M n) k c way is ≡ true → (maker n ≡ turned_onto G M way (x ∷ p)) × (making n ≡ count_among G M c way is)) → NamedAmong B X Y M K R maker making W n k c way p j is
      named_among k x c way p j no_item e h = tt
      named_among k x c way p j (said t is) e h = named_among k x c way p j is e h
      named_among k x zero way p j (child_op a is) e h = named_in k way (j ∷ p) a (λ y. (subst (λ z. maker n ≡ turned_onto G M way (z ∷ p)) (let q = e in omega (arith, q)) (h y).0, (h y).1))
      named_among k x (suc c) way p j (child_op a is) e h = named_among k x c way p (suc j) is (omega (arith, e)) h

  pub journal_named : (c : ℕ) (es : List Entry) (s t : State G) → all_numbered G M (Some s) es ≡ Some t →
      ((n : ℕ) → made G M c s ≤ n → (maker n ≡ turned_onto G M (names G M c es (Some s) n).way []) × (making n ≡ (names G M c es (Some s) n).making)) →
      NamedJournal B X Y M K R maker making W es (Some s)
  journal_named c [] s t h g = tt
  journal_named c (e ∷ es) s t h g = (
    named_in (made G M c s) e.kind e.way [] s.tree
        (λ k. let named = here G M c e es s (made G M c s) k refl in let there = g (made G M c s) (le_refl (made G M c s)) in
        (there.0 ∙ ap (λ (x : Name). turned_onto G M x.way []) named, there.1 ∙ ap (λ (x : Name). x.making) named)),
    subst (NamedJournal B X Y M K R maker making W es) (sym one.is_next) (journal_named c es one.next t one.on (λ n l.
        let named = later G M c e es s t one n (not_this n l (makes G M c e s) refl) in let there = g n (before n l) in
        (there.0 ∙ ap (λ (x : Name). turned_onto G M x.way []) named, there.1 ∙ ap (λ (x : Name). x.making) named))),
  )
    where
      one : Goes G M c e es s t
      one = goes G M c e es s t h

      before : (n : ℕ) → made G M c one.next ≤ n → made G M c s ≤ n
      before n l = let a = one.counted.all in omega (arith, a, l)

      not_this : (n : ℕ) → made G M c one.next ≤ n → (b : Bool) → makes G M c e s ≡ b → (makes G M c e s && nat_eq n (made G M c s)) ≡ false
      not_this n l true k = let all = one.counted.all ∙ ap (λ z. made G M c s + one_if G M (M (made G M c s)) z) k in
          other_number G M c (makes G M c e s) n (made G M c s) (λ z. omega (arith, all, l, z))
      not_this n l false k = no_making G M c (makes G M c e s) n (made G M c s) k

-- ---- ways to makers, innermost place first

module _ (G : Ground) (M : ℕ → Machine G) where
  turned_twice : (p q r : List ℕ) → turned_onto G M (turned_onto G M p q) r ≡ turned_onto G M q (p ++ r)
  turned_twice [] q r = refl
  turned_twice (c ∷ p) q r = turned_twice p (c ∷ q) r

  pub turned_back : (p : List ℕ) → turned_onto G M (turned_onto G M p []) [] ≡ p
  turned_back p = turned_twice p [] [] ∙ append-nil p

module _ (B : Base) (X Y : Roots B) (M : ℕ → Machine (ground_over B X)) (K : Machine (ground_over B Y)) (rename : (ℕ → List ℕ) → (ℕ → ℕ) → Renames B X Y)
    (job : Job (ground_over B X)) (named : Job (ground_over B Y)) where
  -- the renaming by who made the roots of the board that a journal leads to
  abbrev pub board_renaming : List Entry → State (ground_over B X) → Renames B X Y
  board_renaming journal t = rename (board_maker B X Y M K rename job journal t) (board_making B X Y M K rename job journal t)

  module _ (journal : List Entry) (t : State (ground_over B X)) (h : replay_numbered (ground_over B X) M job journal ≡ Some t) (can : Renamable B X Y M K rename job named) where
    abbrev limit : ℕ
    limit = suc (made_in (ground_over B X) M t.tree)

    abbrev start : State (ground_over B X)
    start = opened (ground_over B X) (M 0) job

    abbrev maker : ℕ → List ℕ
    maker = board_maker B X Y M K rename job journal t

    abbrev making : ℕ → ℕ
    making = board_making B X Y M K rename job journal t

    abbrev name : ℕ → Name
    name n = names (ground_over B X) M limit journal (Some start) n

    same_way : (n m : ℕ) → maker n ≡ maker m → (name n).way ≡ (name m).way
    same_way n m q = sym (turned_back (ground_over B X) M (name n).way) ∙ ap (λ w. turned_onto (ground_over B X) M w []) q ∙ turned_back (ground_over B X) M (name m).way

    differ : Differ maker making
    differ n m l a b = names_differ (ground_over B X) M limit journal start t n m h (omega arith) (omega arith) l (λ i. record { way = same_way n m a i; making = b i })

    renamed : Renamed B X Y M K (rename maker making) maker making
    renamed = can.renamed maker making differ

    are_named : NamedJournal B X Y M K (rename maker making) maker making renamed journal (Some start)
    are_named = journal_named B X Y M K (rename maker making) maker making renamed limit journal start t h (λ n l. (refl, refl))

    -- the same journal leads by names to what the board by numbers is, renamed
    pub reached_by_name : (v : Map (ground_over B Y)) × ((l : X.Location) → v (on_board B X Y M K rename job journal t l) ≡ t.map l)
        × (replay (ground_over B Y) K named journal ≡ Some (record { tree = node_to B X Y (board_renaming journal t) t.tree; map = v }))
    reached_by_name = numbered_is_named B X Y M K (rename maker making) maker making renamed job named journal t
        (can.frame maker making) (can.needs maker making) (can.map maker making) are_named h

    -- Over any journal the board by numbers, once it is finished, has told what the order run tells; and
    -- its map is that of the order run, renamed.
    pub numbers_as_ordered : Laws (ground_over B Y) K → (k : ℕ) → is_over (ground_over B X) (stage_of (ground_over B X) t.tree) ≡ true → ¬ (order_run (ground_over B Y) K k named ≡ unfinished) →
        (v : Map (ground_over B Y)) × ((l : X.Location) → v (on_board B X Y M K rename job journal t l) ≡ t.map l)
        × (outcome_with (ground_over B Y) K (told (ground_over B X) (M 0) t.tree).fault (told (ground_over B X) (M 0) t.tree).text (answered (ground_over B X) (M 0) t.tree) v
        ≡ order_run (ground_over B Y) K k named)
    numbers_as_ordered laws k o e = numbered_as_ordered B X Y M K (rename maker making) maker making renamed laws job named journal t k
        (can.frame maker making) (can.needs maker making) (can.map maker making) are_named h o e
