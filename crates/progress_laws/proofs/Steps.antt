-- What a step leaves of the ways and the claims of a board.
use Rattle.std.proofs.Common.{◌&&◌, ◌≡◌, ◌++◌, ◌∷◌, ◌∙◌, ◌≤◌, ◌<◌, ◌⊎◌, Bool, List, None, Option, Some, [], ap, arith, cond, false, inl, inr, refl, subst, suc, sym, true, zero, ℕ}
use Rattle.board_rules.specs.Boards.{◌+++◌, Items, Kind, Operation, Stage, Stepped, all_issued, as_child, at_fault, awaited, back, behind, by, child, child_count, child_op, claim, closing, copy, filling, first, give, given, idle, in_op, is_over, is_ready, issued, met_by, no_item, nothing, op, out, own_step, part, said, settle, step_among, step_in, still_open, unchanged, wants}
use Rattle.board_rules.specs.Ground.{Ground}
use Rattle.board_rules.specs.NumberedBoards.{children_among, children_at}
use Rattle.board_rules.specs.Processes.{Map}
use Rattle.board_rules.specs.Ready.{is_claimed}
use Rattle.board_rules.specs.Running.{After, Call, Element, Machine, Path, Yield, await, calls, ends, make, stops, want}
use Rattle.board_laws.proofs.Reaching.{by_test}
use Rattle.number_laws.proofs.Counts.{IfLeft}
use Rattle.progress_laws.proofs.Settled.{claimed, claimed_among, leads, leads_among, settle_children, settle_claimed, settle_leads}

-- the kind of step that claims, and those that leave a claim
abbrev pub Claims : Kind → Type 0
Claims claim = Unit {0}
Claims _ = ⊥

abbrev pub Keeps : Kind → Type 0
Keeps copy = Unit {0}
Keeps _ = ⊥

module _ (G : Ground) (F : ℕ → Machine G) (M : Machine G) where
  -- the way of a child from place lo on and before hi, of the operation to which another way leads
  abbrev pub NewWay : List ℕ → List ℕ → ℕ → ℕ → Type 0
  NewWay w way lo hi = (d : ℕ) × (w ≡ way ++ d ∷ []) × (lo ≤ d) × (d < hi)

  -- The way of the step leads to an operation. One that leads to an operation behind the step did so before, or is
  -- that of a new child. One that is claimed behind the step was claimed before, or by the step.
  pub record Leaves (k : Kind) (way : List ℕ) (a z : Operation G) : Type 0 where
    pub found : leads G way a ≡ true
    pub ways : (w : List ℕ) → leads G w z ≡ true → (leads G w a ≡ true) ⊎ NewWay w way (children_at G F way a) (children_at G F way z)
    pub claims : (w : List ℕ) → claimed G w z ≡ true → ((w ≡ way) × Claims k) ⊎ ((claimed G w a ≡ true) × (w ≡ way → Keeps k))

  pub record LeavesItems (k : Kind) (c : ℕ) (way : List ℕ) (is zs : Items G) : Type 0 where
    pub found : leads_among G c way is ≡ true
    pub ways : (x : ℕ) (w : List ℕ) → leads_among G x w zs ≡ true → (leads_among G x w is ≡ true) ⊎ ((x ≡ c) × NewWay w way (children_among G F c way is) (children_among G F c way zs))
    pub claims : (x : ℕ) (w : List ℕ) → claimed_among G x w zs ≡ true → ((x ∷ w ≡ c ∷ way) × Claims k) ⊎ ((claimed_among G x w is ≡ true) × (x ∷ w ≡ c ∷ way → Keeps k))

  settled : (k : Kind) (way : List ℕ) (a z : Operation G) → Leaves k way a z → Leaves k way a (settle G M z)
  settled k way a z h = record {
    found = h.found;
    ways = λ w e. elim (h.ways w (sym (settle_leads G F M w z) ∙ e)) [
      | inl j ↦ inl j
      | inr j ↦ inr (j.0, j.1, j.2, subst (λ n. j.0 < n) (sym (settle_children G F M way z)) j.3)
    ];
    claims = λ w e. h.claims w (settle_claimed G F M w z e);
  }

  -- ---- children that are issued

  -- each of the children has none, and none is claimed
  record Fresh (js : Items G) : Type 0 where
    pub ways : (x : ℕ) (w : List ℕ) → leads_among G x w js ≡ true → (w ≡ []) × (x < child_count G js)
    pub claims : (x : ℕ) (w : List ℕ) → claimed_among G x w js ≡ true → ⊥

  no_child : (t : List G.Byte) → Fresh (said t no_item)
  no_child t = record { ways = λ x w e. absurd cc; claims = λ x w e. absurd cc }

  one_more : (N : G.Needs) (f : G.Frame) (js : Items G) → Fresh js → Fresh (child_op (op N N 0 f [] (idle first) no_item) js)
  one_more N f js h = record { ways = ways; claims = claims }
    where
      ways : (x : ℕ) (w : List ℕ) → leads_among G x w (child_op (op N N 0 f [] (idle first) no_item) js) ≡ true → (w ≡ []) × (x < suc (child_count G js))
      ways zero [] e = (refl, omega arith)
      ways zero (c ∷ w) e = absurd cc
      ways (suc x) w e = let k = h.ways x w e in let l = k.1 in (k.0, omega (arith, l))

      claims : (x : ℕ) (w : List ℕ) → claimed_among G x w (child_op (op N N 0 f [] (idle first) no_item) js) ≡ true → ⊥
      claims zero [] e = cc
      claims zero (c ∷ w) e = cc
      claims (suc x) w e = h.claims x w e

  issued_fresh : (N : G.Needs) (xs : List (Call G)) → Fresh (issued G M N xs)
  issued_fresh N [] = record { ways = λ x w e. absurd cc; claims = λ x w e. absurd cc }
  issued_fresh N (y ∷ ys) = by_test (y.may && M.inside y.needs N) (λ b. Fresh (cond b (child_op (op y.needs y.needs 0 y.frame [] (idle first) no_item) (issued G M N ys)) no_item))
      (λ b. one_more y.needs y.frame (issued G M N ys) (issued_fresh N ys)) (λ b. record { ways = λ x w e. absurd cc; claims = λ x w e. absurd cc })

  said_fresh : (t : List G.Byte) (js : Items G) → Fresh js → Fresh (said t js)
  said_fresh t js h = record { ways = h.ways; claims = h.claims }

  append_leads : (is js : Items G) → Fresh js → (x : ℕ) (w : List ℕ) → leads_among G x w (◌+++◌ G is js) ≡ true →
      (leads_among G x w is ≡ true) ⊎ ((w ≡ []) × (child_count G is ≤ x) × (x < child_count G (◌+++◌ G is js)))
  append_leads no_item js h x w e = let k = h.ways x w e in inr (k.0, omega arith, k.1)
  append_leads (said t is) js h x w e = append_leads is js h x w e
  append_leads (child_op a is) js h zero w e = inl e
  append_leads (child_op a is) js h (suc x) w e = elim (append_leads is js h x w e) [
    | inl k ↦ inl k
    | inr k ↦ inr (k.0, (let l = k.1 in omega (arith, l)), (let l = k.2 in omega (arith, l)))
  ]

  append_claims : (is js : Items G) → Fresh js → (x : ℕ) (w : List ℕ) → claimed_among G x w (◌+++◌ G is js) ≡ true → claimed_among G x w is ≡ true
  append_claims no_item js h x w e = absurd (h.claims x w e)
  append_claims (said t is) js h x w e = append_claims is js h x w e
  append_claims (child_op a is) js h zero w e = e
  append_claims (child_op a is) js h (suc x) w e = append_claims is js h x w e

  -- an operation whose claim ends, with fresh children
  ended : (k : Kind) (D N O : G.Needs) (i j : ℕ) (f g : G.Frame) (ps qs : List (Element G)) (st su : Stage G) (is js : Items G) → is_claimed G su ≡ false → Fresh js →
      Leaves k [] (op D N i f ps st is) (op D O j g qs su (◌+++◌ G is js))
  ended k D N O i j f g ps qs st su is js n h = record { found = refl; ways = ways; claims = claims }
    where
      ways : (w : List ℕ) → leads G w (op D O j g qs su (◌+++◌ G is js)) ≡ true →
          (leads G w (op D N i f ps st is) ≡ true) ⊎ NewWay w [] (child_count G is) (child_count G (◌+++◌ G is js))
      ways [] e = inl refl
      ways (c ∷ w) e = elim (append_leads is js h c w e) [
        | inl l ↦ inl l
        | inr l ↦ inr (c, ap (λ v. c ∷ v) l.0, l.1, l.2)
      ]

      claims : (w : List ℕ) → claimed G w (op D O j g qs su (◌+++◌ G is js)) ≡ true → ((w ≡ []) × Claims k) ⊎ ((claimed G w (op D N i f ps st is) ≡ true) × (w ≡ [] → Keeps k))
      claims [] e = absurd cc
      claims (c ∷ w) e = inr (append_claims is js h c w e, λ l. absurd cc)

  -- ---- an operation's own steps

  -- the stage alone changes
  restaged : (k : Kind) (D N : G.Needs) (i : ℕ) (f : G.Frame) (ps : List (Element G)) (st su : Stage G) (is : Items G) → (is_claimed G su ≡ true → Claims k ⊎ ((is_claimed G st ≡ true) × Keeps k)) →
      Leaves k [] (op D N i f ps st is) (op D N i f ps su is)
  restaged k D N i f ps st su is h = record { found = refl; ways = ways; claims = claims }
    where
      ways : (w : List ℕ) → leads G w (op D N i f ps su is) ≡ true → (leads G w (op D N i f ps st is) ≡ true) ⊎ NewWay w [] (child_count G is) (child_count G is)
      ways [] e = inl refl
      ways (c ∷ w) e = inl e

      claims : (w : List ℕ) → claimed G w (op D N i f ps su is) ≡ true → ((w ≡ []) × Claims k) ⊎ ((claimed G w (op D N i f ps st is) ≡ true) × (w ≡ [] → Keeps k))
      claims [] e = elim (h e) [ inl l ↦ inl (refl, l) | inr l ↦ inr (l.0, λ q. l.1) ]
      claims (c ∷ w) e = inr (e, λ l. absurd cc)

  given_leaves : (p : Path G) (D N : G.Needs) (i : ℕ) (is : Items G) (t : List G.Byte) (f g : G.Frame) (ps qs : List (Element G)) (st : Stage G) (y : Yield G) →
      Leaves give [] (op D N i g qs st is) (given G M p D N i is t f ps y).left
  given_leaves p D N i is t f g ps qs st (calls xs) = ended give D N N i i g f qs [] st _ is (said t (issued G M N xs))
      (by_test (all_issued G M N xs) (λ b. is_claimed G (cond b (idle nothing) (closing (at_fault G.broken))) ≡ false) (λ e. refl) (λ e. refl)) (said_fresh t (issued G M N xs) (issued_fresh N xs))
  given_leaves p D N i is t f g ps qs st (want k) = ended give D N N i i g f qs ps st (idle (part k)) is (said t no_item) refl (no_child t)
  given_leaves p D N i is t f g ps qs st (await c) = ended give D N N i i g f qs ps st (idle (child c)) is (said t no_item) refl (no_child t)
  given_leaves p D N i is t f g ps qs st (make d) = by_test (M.sound d) (λ b. Leaves give [] (op D N i g qs st is) (cond {A = Stepped G (Operation G)} b
      (record { left = op D (M.grown p i d N) (suc i) (M.pushed p i d f) ps (idle nothing) (◌+++◌ G is (said t no_item)); effects = M.zeros p i d })
      (record { left = op D N i f [] (closing (at_fault G.broken)) (◌+++◌ G is (said t no_item)); effects = [] })).left)
      (λ e. ended give D N (M.grown p i d N) i (suc i) g (M.pushed p i d f) qs ps st (idle nothing) is (said t no_item) refl (no_child t))
      (λ e. ended give D N N i i g f qs [] st (closing (at_fault G.broken)) is (said t no_item) refl (no_child t))
  given_leaves p D N i is t f g ps qs st (ends v) = ended give D N N i i g f qs [] st (closing (by v)) is (said t no_item) refl (no_child t)
  given_leaves p D N i is t f g ps qs st (stops x) = ended give D N N i i g f qs [] st (closing (at_fault x)) is (said t no_item) refl (no_child t)

  own_leaves : (k : Kind) (p : Path G) (before : Bool) (m : Map G) (a : Operation G) → IfLeft G F M (own_step G M k p before m a) (Leaves k [] a)
  own_leaves claim p before m (op D N i f ps (idle w) is) = by_test (is_ready G M before N w is)
      (λ b. IfLeft G F M (cond b (unchanged G M (op D N i f ps (filling w [] (wants G M N w)) is)) None) (Leaves claim [] (op D N i f ps (idle w) is)))
      (λ e. restaged claim D N i f ps (idle w) (filling w [] (wants G M N w)) is (λ c. inl tt)) (λ e. tt)
  own_leaves copy p before m (op D N i f ps (filling w d l) is) = restaged copy D N i f ps (filling w d l) _ is (λ c. inr (refl, tt))
  own_leaves give p before m (op D N i f ps (out w d) is) = settled give [] (op D N i f ps (out w d) is) _
      (given_leaves p D N i is a.text a.frame f a.parts ps (out w d) a.yields)
    where
      a : After G
      a = M.segment (met_by G M w f (awaited G M w is)) (ps ++ d)
  own_leaves back p before m (op D N i f ps (filling w d l) is) = restaged back D N i f ps (filling w d l) (idle w) is (λ c. absurd cc)
  own_leaves back p before m (op D N i f ps (out w d) is) = restaged back D N i f ps (out w d) (idle w) is (λ c. absurd cc)
  own_leaves _ p before m (op D N i f ps st is) = tt

  -- ---- the walk

  if_behind : (g : Items G → Items G) (o : Option (Stepped G (Items G))) (P Q : Items G → Type 0) → IfLeft G F M o P → ((z : Items G) → P z → Q (g z)) → IfLeft G F M (behind G M g o) Q
  if_behind g None P Q h k = tt
  if_behind g (Some s) P Q h k = k s.left h

  if_child : (is : Items G) (o : Option (Stepped G (Operation G))) (P : Operation G → Type 0) (Q : Items G → Type 0) → IfLeft G F M o P → ((z : Operation G) → P z → Q (child_op z is)) → IfLeft G F M (as_child G M is o) Q
  if_child is None P Q h k = tt
  if_child is (Some s) P Q h k = k s.left h

  if_op : (D N : G.Needs) (i : ℕ) (f : G.Frame) (ps : List (Element G)) (st : Stage G) (o : Option (Stepped G (Items G))) (P : Items G → Type 0) (Q : Operation G → Type 0) → IfLeft G F M o P →
      ((z : Items G) → P z → Q (settle G M (op D N i f ps st z))) → IfLeft G F M (in_op G M D N i f ps st o) Q
  if_op D N i f ps st None P Q h k = tt
  if_op D N i f ps st (Some s) P Q h k = k s.left h

  in_leaves : (k : Kind) (c : ℕ) (way : List ℕ) (D N : G.Needs) (i : ℕ) (f : G.Frame) (ps : List (Element G)) (st : Stage G) (is zs : Items G) → LeavesItems k c way is zs →
      Leaves k (c ∷ way) (op D N i f ps st is) (op D N i f ps st zs)
  in_leaves k c way D N i f ps st is zs h = record { found = h.found; ways = ways; claims = claims }
    where
      ways : (w : List ℕ) → leads G w (op D N i f ps st zs) ≡ true → (leads G w (op D N i f ps st is) ≡ true) ⊎ NewWay w (c ∷ way) (children_among G F c way is) (children_among G F c way zs)
      ways [] e = inl refl
      ways (x ∷ w) e = elim (h.ways x w e) [
        | inl j ↦ inl j
        | inr j ↦ inr (j.1.0, (λ r. j.0 r ∷ j.1.1 r), j.1.2, j.1.3)
      ]

      claims : (w : List ℕ) → claimed G w (op D N i f ps st zs) ≡ true → ((w ≡ c ∷ way) × Claims k) ⊎ ((claimed G w (op D N i f ps st is) ≡ true) × (w ≡ c ∷ way → Keeps k))
      claims [] e = inr (e, λ j. absurd cc)
      claims (x ∷ w) e = h.claims x w e

  child_leaves : (k : Kind) (way : List ℕ) (a z : Operation G) (is : Items G) → Leaves k way a z → LeavesItems k 0 way (child_op a is) (child_op z is)
  child_leaves k way a z is h = record { found = h.found; ways = ways; claims = claims }
    where
      ways : (x : ℕ) (w : List ℕ) → leads_among G x w (child_op z is) ≡ true → (leads_among G x w (child_op a is) ≡ true) ⊎ ((x ≡ 0) × NewWay w way (children_at G F way a) (children_at G F way z))
      ways zero w e = elim (h.ways w e) [ inl j ↦ inl j | inr j ↦ inr (refl, j) ]
      ways (suc x) w e = inl e

      claims : (x : ℕ) (w : List ℕ) → claimed_among G x w (child_op z is) ≡ true → ((x ∷ w ≡ 0 ∷ way) × Claims k) ⊎ ((claimed_among G x w (child_op a is) ≡ true) × (x ∷ w ≡ 0 ∷ way → Keeps k))
      claims zero w e = elim (h.claims w e) [ inl j ↦ inl (ap (λ v. 0 ∷ v) j.0, j.1) | inr j ↦ inr (j.0, λ q. j.1 cc) ]
      claims (suc x) w e = inr (e, λ q. absurd cc)

  behind_leaves : (k : Kind) (c : ℕ) (way : List ℕ) (a : Operation G) (is zs : Items G) → LeavesItems k c way is zs → LeavesItems k (suc c) way (child_op a is) (child_op a zs)
  behind_leaves k c way a is zs h = record { found = h.found; ways = ways; claims = claims }
    where
      ways : (x : ℕ) (w : List ℕ) → leads_among G x w (child_op a zs) ≡ true → (leads_among G x w (child_op a is) ≡ true) ⊎ ((x ≡ suc c) × NewWay w way (children_among G F c way is) (children_among G F c way zs))
      ways zero w e = inl e
      ways (suc x) w e = elim (h.ways x w e) [ inl j ↦ inl j | inr j ↦ inr (ap suc j.0, j.1) ]

      claims : (x : ℕ) (w : List ℕ) → claimed_among G x w (child_op a zs) ≡ true → ((x ∷ w ≡ suc c ∷ way) × Claims k) ⊎ ((claimed_among G x w (child_op a is) ≡ true) × (x ∷ w ≡ suc c ∷ way → Keeps k))
      claims zero w e = inr (e, λ q. absurd cc)
      claims (suc x) w e = elim (h.claims x w e) [ inl j ↦ inl ((let q = j.0 in cc), j.1) | inr j ↦ inr (j.0, λ q. j.1 cc) ]

  mutual
    pub step_leaves : (k : Kind) (way : List ℕ) (p : Path G) (before : Bool) (m : Map G) (a : Operation G) → IfLeft G F M (step_in G M k way p before m a) (Leaves k way a)
    step_leaves k [] p before m (op D N i f ps st is) = own_leaves k p before m (op D N i f ps st is)
    step_leaves k (c ∷ way) p before m (op D N i f ps st is) = by_test (is_over G st)
        (λ b. IfLeft G F M (cond b None (in_op G M D N i f ps st (step_among G M k c way p 0 [] m is))) (Leaves k (c ∷ way) (op D N i f ps st is)))
        (λ e. tt)
        (λ e. if_op D N i f ps st (step_among G M k c way p 0 [] m is) _ _ (among_leaves k c way p 0 [] m is)
        (λ zs h. settled k (c ∷ way) (op D N i f ps st is) (op D N i f ps st zs) (in_leaves k c way D N i f ps st is zs h)))

    among_leaves : (k : Kind) (c : ℕ) (way : List ℕ) (p : Path G) (j : ℕ) (Ns : List G.Needs) (m : Map G) (is : Items G) → IfLeft G F M (step_among G M k c way p j Ns m is) (LeavesItems k c way is)
    among_leaves k c way p j Ns m no_item = tt
    among_leaves k c way p j Ns m (said t is) = if_behind (said t) (step_among G M k c way p j Ns m is) _ _ (among_leaves k c way p j Ns m is) (λ zs h. record { found = h.found; ways = h.ways; claims = h.claims })
    among_leaves k zero way p j Ns m (child_op a is) = if_child is (step_in G M k way (j ∷ p) _ m a) _ _ (step_leaves k way (j ∷ p) _ m a) (λ z h. child_leaves k way a z is h)
    among_leaves k (suc c) way p j Ns m (child_op a is) = if_behind (child_op a) (step_among G M k c way p (suc j) (still_open G M a Ns) m is) _ _ (among_leaves k c way p (suc j) (still_open G M a Ns) m is)
        (λ zs h. behind_leaves k c way a is zs h)
