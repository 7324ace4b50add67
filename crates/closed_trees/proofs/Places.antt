-- Where a failure reaches: at siblings of the one that failed, and at their caller, and at no other place.
use Rattle.std.proofs.Common.{◌≡◌, ◌<◌, ◌⊎◌, ◌++◌, ◌∷◌, ◌∙◌, ℕ, suc, List, [], ap, arith, inl, inr, refl, subst, sym, ⊎_elim, append-nil, append_assoc}
use Rattle.std.proofs.lemmas.List.{append_cancel_left}
use Rattle.region_tree.specs.declared.tree.OpNumber.{OpNumber}
use Rattle.dependence_graph.specs.Entries.{Knot}
use Rattle.dependence_graph.specs.Knots.{knot_at, number}
use Rattle.dependence_graph.specs.Laws.{GaveUp}
use Rattle.dependence_graph.specs.declared.stage.How.{How}
use Rattle.dependence_graph.specs.declared.stage.Stage.TheVariants as knot
use Rattle.task_code.specs.declared.job.Job.{Job}
use Rattle.board_rules.specs.Boards.{Operation as Node}
use Rattle.regent_boards.specs.RegentMachine.{regent_ground}
use Rattle.code_boards.specs.Views.{spaces_of}
use Rattle.board_terms.specs.States.{State, operation_at}
use Rattle.board_trees.specs.Shows.{Leads}
use Rattle.board_trees.proofs.Along.{not_above, some_same}
use Rattle.changed_trees.specs.Changes.{Change, IsAt}
use Rattle.closed_trees.proofs.Reached.{Leaving, Standing, caller_so, changes, one_way, sibling_called, siblings_so}
use Rattle.closed_trees.proofs.Reached as reached

-- a way leads to one operation
leads_one : (job : Job) (s : State) (z : List ℕ) (i x y : ℕ) → Leads job s i z x → Leads job s i z y → x ≡ y
leads_one job s [] i x y l m = sym l ∙ m
leads_one job s (c ∷ z) i x y l m =
    leads_one job s z m.0 x y (subst (λ (o : OpNumber). Leads job s o.0 z x) (some_same (number l.0) (number m.0) (sym l.1 ∙ m.1)) l.2) m.2

module _ (job : Job) (s : State) (who : ℕ → ℕ) (ways : List (List ℕ)) (root : Node (regent_ground (spaces_of job.code))) (stand : Standing job s who ways root)
    (k : ℕ) (v : List ℕ) (it : Leaving job s ways k v) (to : How) where
  abbrev ks : List Knot
  ks = s.waits.knots

  abbrev us : List Knot
  us = reached.us job s who ways root stand k v it to

  abbrev u : State
  u = reached.u job s who ways root stand k v it to

  -- someone else gave up there
  abbrev pub Gave : List ℕ → Type 0
  Gave z = (x : ℕ) × (¬ (x ≡ k)) × IsAt job ways x z × GaveUp ks us x

  same_number : (i j : ℕ) → number i ≡ number j → i ≡ j
  same_number i j e = ap (λ (o : OpNumber). o.0) e

  pub one_number : (x y : ℕ) (z : List ℕ) → IsAt job ways x z → IsAt job ways y z → x ≡ y
  one_number x y z a b = leads_one job s z 0 x y (stand.leads x z a) (stand.leads y z b)

  unlike_knot : (x : ℕ) → knot_at us x ≡ knot_at ks x → ¬ GaveUp ks us x
  unlike_knot x e g = ⊎_elim
      (λ w. let q : knot.Waiting ≡ knot.Dropped = sym w.0 ∙ ap (λ (y : Knot). y.stage) (sym e) ∙ w.1 in absurd cc)
      (λ w. let q : knot.Parked ≡ knot.Stopped = sym w.0 ∙ ap (λ (y : Knot). y.stage) (sym e) ∙ w.1 in absurd cc) g.stages

  -- ---- one that nobody called

  nobody : (z : List ℕ) → Gave z → 0 < k
  nobody z (x, n, a, g) = ⊎_elim
      (λ w. (siblings_so job s who ways root stand k v it to (suc x) x (omega arith) n g w.0).1)
      (λ w. (caller_so job s who ways root stand k v it to x n g w.0).1) g.stages

  -- it alone changes
  abbrev pub Alone : List ℕ → Type 0
  Alone z = (z ≡ v) ⊎ Gave z

  pub alone_changes : ¬ (0 < k) → Change job s u who who ways ways Alone
  alone_changes main = changes job s who ways root stand k v it to Alone (λ n. n (inl refl)) (λ x z a n d g. n (inr (x, d, a, g))) (λ x z a n q l. main l)

  pub alone_at : ¬ (0 < k) → (z : List ℕ) → Alone z → z ≡ v
  alone_at main z (inl e) = e
  alone_at main z (inr g) = absurd (main (nobody z g))

  -- ---- one that was called

  module _ (j : ℕ) (w : List ℕ) (c : ℕ) (v_is : v ≡ w ++ c ∷ []) (at_j : IsAt job ways j w) (parent_is : (operation_at s k).parent ≡ number j) where
    abbrev pub At : List ℕ → Type 0
    At z = (z ≡ w) ⊎ ((z ≡ v) ⊎ Gave z)

    at_caller : (x : ℕ) (z : List ℕ) → IsAt job ways x z → (operation_at s k).parent ≡ number x → z ≡ w
    at_caller x z a e = one_way job ways j z w (subst (λ y. IsAt job ways y z) (same_number x j (sym e ∙ parent_is)) a) at_j

    pub family_changes : Change job s u who who ways ways At
    family_changes = changes job s who ways root stand k v it to At (λ n. n (inr (inl refl))) (λ x z a n d g. n (inr (inr (x, d, a, g)))) (λ x z a n q l. n (inl (at_caller x z a q)))

    -- the caller's, or a child's
    at_ways : (z : List ℕ) → At z → (z ≡ w) ⊎ ((d : ℕ) × (z ≡ w ++ d ∷ []))
    at_ways z (inl e) = inl e
    at_ways z (inr (inl e)) = inr (c, e ∙ v_is)
    at_ways z (inr (inr (x, n, a, g))) = ⊎_elim
        (λ h.
        let called = (sibling_called job s who ways root stand k v it to x z a g h.0).1 in
        let so = siblings_so job s who ways root stand k v it to (suc x) x (omega arith) n g h.0 in
        let same = same_number called.caller j (sym called.parent ∙ so.0 ∙ parent_is) in
        inr (called.place, called.way_is ∙ ap (λ y. y ++ called.place ∷ []) (one_way job ways j called.way w (subst (λ y. IsAt job ways y called.way) same called.at) at_j)))
        (λ h. inl (at_caller x z a (caller_so job s who ways root stand k v it to x n g h.0).0))
        g.stages

    pub only : (z : List ℕ) → At z → (y : List ℕ) × (z ≡ w ++ y)
    only z a = ⊎_elim (λ e. ([], e ∙ sym (append-nil w))) (λ d. (d.0 ∷ [], d.1)) (at_ways z a)

    -- not below a child
    pub deep_apart : (d e : ℕ) (z : List ℕ) → ¬ At (((w ++ d ∷ []) ++ e ∷ []) ++ z)
    deep_apart d e z a =
        let long : ((w ++ d ∷ []) ++ e ∷ []) ++ z ≡ w ++ d ∷ e ∷ z = append_assoc (w ++ d ∷ []) (e ∷ []) z ∙ append_assoc w (d ∷ []) (e ∷ z) in
        ⊎_elim
        (λ q. not_above w d (e ∷ z) (sym q ∙ long))
        (λ q. let same : d ∷ e ∷ z ≡ q.0 ∷ [] = append_cancel_left w (d ∷ e ∷ z) (q.0 ∷ []) (sym long ∙ q.1) in absurd cc)
        (at_ways (((w ++ d ∷ []) ++ e ∷ []) ++ z) a)

    -- and at a child's place it gave up
    pub here_apart : (d x : ℕ) → ¬ (c ≡ d) → IsAt job ways x (w ++ d ∷ []) → knot_at us x ≡ knot_at ks x → (z : List ℕ) → ¬ At ((w ++ d ∷ []) ++ z)
    here_apart d x n b same [] a = at_child (subst At (append-nil (w ++ d ∷ [])) a)
      where
        at_child : At (w ++ d ∷ []) → ⊥
        at_child (inl e) = not_above w d [] (sym e)
        at_child (inr (inl e)) = n (first_same (append_cancel_left w (d ∷ []) (c ∷ []) (e ∙ v_is)))
          where
            first_same : d ∷ [] ≡ c ∷ [] → c ≡ d
            first_same q = cc
        at_child (inr (inr (y, m, b1, g))) = unlike_knot x same (subst (GaveUp ks us) (one_number y x (w ++ d ∷ []) b1 b) g)
    here_apart d x n b same (e ∷ z) a = deep_apart d e z (subst At (sym (append_assoc (w ++ d ∷ []) (e ∷ []) z)) a)
