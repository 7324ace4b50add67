-- What is so where a way ends, and how one comes there.
use Rattle.std.proofs.Common.{◌≡◌, ◌<◌, ◌+◌, ◌⊎◌, ◌++◌, ◌∷◌, ◌∙◌, ℕ, zero, suc, List, [], ap, arith, inl, inr, length, refl, subst, sym, ⊎_elim, append-nil, append_assoc}
use Rattle.std.specs.Prelude.{All}
use Rattle.std.proofs.lemmas.List.Elements.{All-append}
use Rattle.region_tree.specs.declared.tree.OpNumber.{OpNumber}
use Rattle.region_tree.specs.declared.tree.RootId.{RootId}
use Rattle.logical_map.specs.Maps.{LogicalMap}
use Rattle.dependence_graph.specs.Graphs.{Waits}
use Rattle.dependence_graph.specs.Knots.{number}
use Rattle.task_code.specs.declared.job.Job.{Job}
use Rattle.board_rules.specs.Boards.{Items, Operation as Node, child_op, no_item, op, said}
use Rattle.board_rules.specs.Ground.{Ground}
use Rattle.regent_boards.specs.RegentMachine.{regent_ground}
use Rattle.code_boards.specs.Views.{spaces_of}
use Rattle.board_terms.specs.States.{State, operation_at}
use Rattle.board_trees.specs.Shows.{Leads, needs_issued}
use Rattle.board_trees.specs.Waits.{Sibling}
use Rattle.changed_trees.specs.Changes.{IsAt}
use Rattle.changed_trees.specs.Open.{Asked, HasAmong, HasAt}

-- a way is none, or it ends at a child
pub way_ends : (v : List ℕ) → (v ≡ []) ⊎ ((w : List ℕ) × (c : ℕ) × (v ≡ w ++ c ∷ []))
way_ends [] = inl refl
way_ends (d ∷ v) = inr (⊎_elim (λ e. ([], d, ap (λ z. d ∷ z) e)) (λ r. (d ∷ r.0, r.1, ap (λ z. d ∷ z) r.2)) (way_ends v))

module _ (job : Job) where
  abbrev G : Ground
  G = regent_ground (spaces_of job.code)

  -- ways lead as before, whatever waits, and whatever the map holds
  pub leads_still : (s : State) (m : LogicalMap) (g : Waits) (way : List ℕ) (j k : ℕ) → Leads job s j way k → Leads job (record s { map = m; waits = g }) j way k
  leads_still s m g [] j k l = l
  leads_still s m g (c ∷ way) j k l = (l.0, l.1, leads_still s m g way l.0 k l.2)

  module _ (s : State) (who : ℕ → ℕ) (ways : List (List ℕ)) (B : Asked job) where
    -- the operation where the way ends
    pub record Ended (v : List ℕ) : Type 0 where
      pub number_is : ℕ
      pub earlier : List Sibling
      pub above : List RootId
      pub node : Node G
      pub so : B v number_is earlier above node

    mutual
      pub ended_at : (way w : List ℕ) (j : ℕ) (earlier : List Sibling) (above : List RootId) (n : Node G) → HasAt job s who ways B way w j earlier above n → Ended (w ++ way)
      ended_at [] w j earlier above n h = record { number_is = j; earlier = earlier; above = above; node = n; so = subst (λ z. B z j earlier above n) (sym (append-nil w)) h }
      ended_at (c ∷ way) w j earlier above (op D N i f ps st is) h =
          let from : c ≡ 0 + c = omega arith in
          subst Ended (ap (λ z. (w ++ z ∷ []) ++ way) (sym from) ∙ append_assoc w (c ∷ []) way) (ended_among c way w j 0 [] (above ++ (operation_at s j).frame.own) (operation_at s j).children is h.1)

      ended_among : (c : ℕ) (way w : List ℕ) (j d : ℕ) (earlier : List Sibling) (roots : List RootId) (ks : List OpNumber) (is : Items G) → HasAmong job s who ways B c way w j d earlier roots ks is →
          Ended ((w ++ (d + c) ∷ []) ++ way)
      ended_among c way w j d earlier roots ks no_item h = absurd h
      ended_among c way w j d earlier roots ks (said t is) h = ended_among c way w j d earlier roots ks is h
      ended_among c way w j d earlier roots [] (child_op n is) h = absurd h
      ended_among zero way w j d earlier roots (k ∷ ks) (child_op n is) h =
          let here : d ≡ d + 0 = omega arith in
          subst (λ z. Ended ((w ++ z ∷ []) ++ way)) here (ended_at way (w ++ d ∷ []) k.0 earlier roots n h.1)
      ended_among (suc c) way w j d earlier roots (k ∷ ks) (child_op n is) h =
          let there : suc d + c ≡ d + suc c = omega arith in
          subst (λ z. Ended ((w ++ z ∷ []) ++ way)) there (ended_among c way w j (suc d) (earlier ++ record { op = k.0; needs = needs_issued job n } ∷ []) roots ks is h.2)

    -- ---- up to its caller

    module _ (own_made : (j : ℕ) → All (λ (r : RootId). r.0 < length s.roots) (operation_at s j).frame.own) (c : ℕ) where
      abbrev Below : List RootId → Type 0
      Below roots = All (λ (r : RootId). r.0 < length s.roots) roots

      -- the caller's roots were made, and its child at a place is so
      abbrev pub Calls : Asked job
      Calls z i earlier above n = Below above × HasAt job s who ways B (c ∷ []) z i earlier above n

      mutual
        pub at_caller : (way w : List ℕ) (j : ℕ) (earlier : List Sibling) (above : List RootId) (n : Node G) → Below above → HasAt job s who ways B (way ++ c ∷ []) w j earlier above n →
            HasAt job s who ways Calls way w j earlier above n
        at_caller [] w j earlier above n below h = (below, h)
        at_caller (d ∷ way) w j earlier above (op D N i f ps st is) below h = (
          h.0,
          among_caller d way w j 0 [] (above ++ (operation_at s j).frame.own) (operation_at s j).children is
              (All-append (λ (r : RootId). r.0 < length s.roots) above (operation_at s j).frame.own below (own_made j)) h.1,
        )

        among_caller : (d : ℕ) (way w : List ℕ) (j e : ℕ) (earlier : List Sibling) (roots : List RootId) (ks : List OpNumber) (is : Items G) → Below roots →
            HasAmong job s who ways B d (way ++ c ∷ []) w j e earlier roots ks is → HasAmong job s who ways Calls d way w j e earlier roots ks is
        among_caller d way w j e earlier roots ks no_item below h = absurd h
        among_caller d way w j e earlier roots ks (said t is) below h = among_caller d way w j e earlier roots ks is below h
        among_caller d way w j e earlier roots [] (child_op n is) below h = absurd h
        among_caller zero way w j e earlier roots (k ∷ ks) (child_op n is) below h = (h.0, at_caller way (w ++ e ∷ []) k.0 earlier roots n below h.1, h.2)
        among_caller (suc d) way w j e earlier roots (k ∷ ks) (child_op n is) below h =
            (h.0, h.1, among_caller d way w j (suc e) (earlier ++ record { op = k.0; needs = needs_issued job n } ∷ []) roots ks is below h.2)

      -- it was called by this one
      pub record IsCaller (k i : ℕ) (z : List ℕ) : Type 0 where
        pub at : IsAt job ways i z
        pub within : i < length s.operations
        pub parent : (operation_at s k).parent ≡ number i
        pub later : i < k

      module _ (k : ℕ) (it : (z : List ℕ) (i : ℕ) (earlier : List Sibling) (above : List RootId) (n : Node G) → B z i earlier above n → i ≡ k) where
        among_called : (d : ℕ) (w : List ℕ) (j e : ℕ) (earlier : List Sibling) (roots : List RootId) (ks : List OpNumber) (is : Items G) → HasAmong job s who ways B d [] w j e earlier roots ks is →
            ((operation_at s k).parent ≡ number j) × (j < k)
        among_called d w j e earlier roots ks no_item h = absurd h
        among_called d w j e earlier roots ks (said t is) h = among_called d w j e earlier roots ks is h
        among_called d w j e earlier roots [] (child_op n is) h = absurd h
        among_called zero w j e earlier roots (x ∷ ks) (child_op n is) h =
            subst (λ y. ((operation_at s y).parent ≡ number j) × (j < y)) (it (w ++ e ∷ []) x.0 earlier roots n h.1) (h.0.parent, h.0.later)
        among_called (suc d) w j e earlier roots (x ∷ ks) (child_op n is) h =
            among_called d w j (suc e) (earlier ++ record { op = x.0; needs = needs_issued job n } ∷ []) roots ks is h.2

        pub called_by : (z : List ℕ) (i : ℕ) (earlier : List Sibling) (above : List RootId) (n : Node G) → Calls z i earlier above n → IsCaller k i z
        called_by z i earlier above (op D N y f ps st is) h =
            let a = among_called c z i 0 [] (above ++ (operation_at s i).frame.own) (operation_at s i).children is h.1.1 in
            record { at = h.1.0.way_is; within = h.1.0.within; parent = a.0; later = a.1 }
