-- What a state shows speaks of operations that were issued: as children, and as what is waited for.
use Rattle.std.proofs.Common.{◌≡◌, ◌<◌, ◌++◌, ◌∷◌, ◌∙◌, inl, inr, ℕ, zero, suc, List, Some, [], ap, false, length, refl, subst, sym, true}
use Rattle.std.specs.Prelude.{All, filter, slice_get}
use Rattle.std.proofs.lemmas.Bool.{false≢true}
use Rattle.std.proofs.lemmas.List.Elements.{All-append, All-cons, All-head, All-nil, All-tail}
use Rattle.std.proofs.lemmas.Option.{none-some}
use Rattle.region_tree.specs.Requirements.{Requirement, is_of}
use Rattle.region_tree.specs.declared.tree.OpNumber.{OpNumber}
use Rattle.region_tree.specs.declared.tree.RootId.{RootId}
use Rattle.dependence_graph.specs.Entries.{Knot}
use Rattle.dependence_graph.specs.Knots.{is_idle, knot_at, number}
use Rattle.dependence_graph.specs.declared.stage.Stage.{Stage as Knotted}
use Rattle.dependence_graph.specs.declared.stage.Stage.TheVariants as knot
use Rattle.task_code.specs.declared.job.Job.{Job}
use Rattle.board_rules.specs.Boards.{Items, Operation as Node, Stage as BoardStage, Wait as BoardWait, child, child_op, closing, dropped, filling, first, idle, no_item, nothing, op, out, over, part, said}
use Rattle.board_rules.specs.Ground.{Ground}
use Rattle.regent_boards.specs.RegentMachine.{regent_ground}
use Rattle.code_boards.specs.Views.{spaces_of}
use Rattle.board_terms.specs.declared.operation.Operation.{Operation}
use Rattle.board_terms.specs.States.{State, operation_at}
use Rattle.board_trees.specs.Shows.{Leads, Shows, ShowsChildren, needs_issued, siblings}
use Rattle.board_trees.specs.Stages.{AwaitsOn, Stands, WaitsWell}
use Rattle.board_trees.specs.Waits.{Sibling, WaitsFor, WaitsForChild}
use Rattle.board_trees.proofs.Along.{some_same}

module _ (job : Job) (s : State) (who : ℕ → ℕ) (ways : List (List ℕ)) where
  abbrev G : Ground
  G = regent_ground (spaces_of job.code)

  abbrev pub WasIssued : ℕ → Type 0
  WasIssued j = j < length s.operations

  abbrev pub Ops : List OpNumber → Type 0
  Ops ks = All (λ (o : OpNumber). WasIssued o.0) ks

  abbrev pub Siblings : List Sibling → Type 0
  Siblings xs = All (λ (x : Sibling). WasIssued x.op) xs

  -- ---- what is waited for

  pub waits_within : (Q : List Requirement) (xs : List Sibling) (on : List OpNumber) → Siblings xs → WaitsFor s.waits.knots Q xs on → Ops on
  waits_within Q [] on h w = subst Ops (sym w) (All-nil (λ (o : OpNumber). WasIssued o.0))
  waits_within Q (x ∷ xs) on h (inl w) = waits_within Q xs on (All-tail (λ (x : Sibling). WasIssued x.op) x xs h) w.1
  waits_within Q (x ∷ xs) on h (inr w) = subst Ops (sym w.1) (All-cons (λ (o : OpNumber). WasIssued o.0) (number x.op) w.0
      (All-head (λ (x : Sibling). WasIssued x.op) x xs h) (waits_within Q xs w.0 (All-tail (λ (x : Sibling). WasIssued x.op) x xs h) w.3))

  child_within : (c : ℕ) (xs : List Sibling) (on : List OpNumber) → Siblings xs → WaitsForChild s.waits.knots c xs on → Ops on
  child_within c [] on h w = subst Ops (sym w) (All-nil (λ (o : OpNumber). WasIssued o.0))
  child_within zero (x ∷ xs) on h (inl w) = subst Ops (sym w) (All-cons (λ (o : OpNumber). WasIssued o.0) (number x.op) []
      (All-head (λ (x : Sibling). WasIssued x.op) x xs h) (All-nil (λ (o : OpNumber). WasIssued o.0)))
  child_within zero (x ∷ xs) on h (inr w) = subst Ops (sym w.0) (All-nil (λ (o : OpNumber). WasIssued o.0))
  child_within (suc c) (x ∷ xs) on h w = child_within c xs on (All-tail (λ (x : Sibling). WasIssued x.op) x xs h) w

  awaits_within : (D N : List Requirement) (earlier children : List Sibling) (w : BoardWait G) (on : List OpNumber) → Siblings earlier → Siblings children →
      AwaitsOn job.code s.waits.knots D N earlier children w on → Ops on
  awaits_within D N earlier children first on h g a = waits_within D earlier on h a
  awaits_within D N earlier children nothing on h g a = subst Ops (sym a) (All-nil (λ (o : OpNumber). WasIssued o.0))
  awaits_within D N earlier children (part k) on h g a = waits_within (filter (is_of k.root k.field) N) children on g a
  awaits_within D N earlier children (child c) on h g a = child_within c children on g a

  not_idle : (kn km : Knotted) → kn ≡ km → is_idle km ≡ false → is_idle kn ≡ true → ⊥
  not_idle kn km e n t = false≢true (sym n ∙ ap is_idle (sym e) ∙ t)

  on_within : (extents : _) (roots : List RootId) (D N : List Requirement) (earlier children : List Sibling) (x : Knot) (o : Operation) (st : BoardStage G) →
      Stands job.code extents who roots s x.stage o N st → WaitsWell job.code s.waits.knots D N earlier children x.on st → is_idle x.stage ≡ true → Siblings earlier → Siblings children → Ops x.on
  on_within extents roots D N earlier children x o (idle w) h a t e c = awaits_within D N earlier children w x.on e c a.0
  on_within extents roots D N earlier children x o (filling w d l) h a t e c = absurd (not_idle x.stage knot.Begun h.0 refl t)
  on_within extents roots D N earlier children x o (out w d) h a t e c = absurd (not_idle x.stage knot.Begun h.0 refl t)
  on_within extents roots D N earlier children x o (closing y) (inl h) a t e c = absurd (not_idle x.stage knot.Begun h.0 refl t)
  on_within extents roots D N earlier children x o (closing y) (inr h) a t e c = absurd (not_idle x.stage knot.Stopped h.0 refl t)
  on_within extents roots D N earlier children x o (over y) (inl h) a t e c = absurd (not_idle x.stage knot.Done h.0 refl t)
  on_within extents roots D N earlier children x o (over y) (inr h) a t e c = absurd (not_idle x.stage knot.Failed h.0 refl t)
  on_within extents roots D N earlier children x o dropped h a t e c = absurd (not_idle x.stage knot.Dropped h.0 refl t)

  -- ---- children

  node_within : (way : List ℕ) (k : ℕ) (earlier : List Sibling) (above : List RootId) (n : Node G) → Shows job s who ways way k earlier above n → WasIssued k
  node_within way k earlier above (op D N i f ps st is) h = h.0.within

  pub siblings_within : (way : List ℕ) (j c : ℕ) (earlier : List Sibling) (roots : List RootId) (ks : List OpNumber) (is : Items G) → ShowsChildren job s who ways way j c earlier roots ks is →
      Siblings (siblings job ks is)
  siblings_within way j c earlier roots ks no_item h = All-nil (λ (x : Sibling). WasIssued x.op)
  siblings_within way j c earlier roots ks (said t is) h = siblings_within way j c earlier roots ks is h
  siblings_within way j c earlier roots [] (child_op n is) h = absurd h
  siblings_within way j c earlier roots (k ∷ ks) (child_op n is) h =
      All-cons (λ (x : Sibling). WasIssued x.op) (record { op = k.0; needs = needs_issued job n }) (siblings job ks is) (node_within (way ++ c ∷ []) k.0 earlier roots n h.1)
      (siblings_within way j (suc c) (earlier ++ record { op = k.0; needs = needs_issued job n } ∷ []) roots ks is h.2)

  children_within : (way : List ℕ) (j c : ℕ) (earlier : List Sibling) (roots : List RootId) (ks : List OpNumber) (is : Items G) → ShowsChildren job s who ways way j c earlier roots ks is → Ops ks
  children_within way j c earlier roots ks no_item h = subst Ops (sym h) (All-nil (λ (o : OpNumber). WasIssued o.0))
  children_within way j c earlier roots ks (said t is) h = children_within way j c earlier roots ks is h
  children_within way j c earlier roots [] (child_op n is) h = absurd h
  children_within way j c earlier roots (k ∷ ks) (child_op n is) h =
      All-cons (λ (o : OpNumber). WasIssued o.0) k ks (node_within (way ++ c ∷ []) k.0 earlier roots n h.1)
      (children_within way j (suc c) (earlier ++ record { op = k.0; needs = needs_issued job n } ∷ []) roots ks is h.2)

  -- ---- each operation

  pub record SpeaksOfIssued (k : ℕ) : Type 0 where
    pub children : Ops (operation_at s k).children
    pub on : is_idle (knot_at s.waits.knots k).stage ≡ true → Ops (knot_at s.waits.knots k).on

  mutual
    pub speaks : (way w : List ℕ) (j : ℕ) (earlier : List Sibling) (above : List RootId) (n : Node G) → Shows job s who ways w j earlier above n → Siblings earlier → (k : ℕ) → Leads job s j way k →
        SpeaksOfIssued k
    speaks [] w j earlier above (op D N i f ps st is) h e k l = subst SpeaksOfIssued l (record {
      children = children_within w j 0 [] (above ++ (operation_at s j).frame.own) (operation_at s j).children is h.1;
      on = λ t. on_within s.roots (above ++ (operation_at s j).frame.own) D N earlier (siblings job (operation_at s j).children is) (knot_at s.waits.knots j) (operation_at s j) st
          h.0.stands h.0.waits t e (siblings_within w j 0 [] (above ++ (operation_at s j).frame.own) (operation_at s j).children is h.1);
    })
    speaks (c ∷ way) w j earlier above (op D N i f ps st is) h e k l =
        speaks_among c way w j 0 [] (above ++ (operation_at s j).frame.own) (operation_at s j).children is h.1 (All-nil (λ (x : Sibling). WasIssued x.op)) l.0 l.1 k l.2

    speaks_among : (c : ℕ) (way w : List ℕ) (j d : ℕ) (earlier : List Sibling) (roots : List RootId) (ks : List OpNumber) (is : Items G) → ShowsChildren job s who ways w j d earlier roots ks is →
        Siblings earlier → (x : ℕ) → slice_get ks c ≡ Some (number x) → (k : ℕ) → Leads job s x way k → SpeaksOfIssued k
    speaks_among c way w j d earlier roots ks no_item h e x q k l = absurd (none-some (number x) (ap (λ ks. slice_get ks c) (sym h) ∙ q))
    speaks_among c way w j d earlier roots ks (said t is) h e x q k l = speaks_among c way w j d earlier roots ks is h e x q k l
    speaks_among c way w j d earlier roots [] (child_op n is) h e x q k l = absurd h
    speaks_among zero way w j d earlier roots (y ∷ ys) (child_op n is) h e x q k l =
        speaks way (w ++ d ∷ []) y.0 earlier roots n h.1 e k (subst (λ (z : OpNumber). Leads job s z.0 way k) (sym (some_same y (number x) q)) l)
    speaks_among (suc c) way w j d earlier roots (y ∷ ys) (child_op n is) h e x q k l =
        let one : Sibling = record { op = y.0; needs = needs_issued job n } in
        speaks_among c way w j (suc d) (earlier ++ one ∷ []) roots ys is h.2
        (All-append (λ (x : Sibling). WasIssued x.op) earlier (one ∷ []) e
        (All-cons (λ (x : Sibling). WasIssued x.op) one [] (node_within (w ++ d ∷ []) y.0 earlier roots n h.1) (All-nil (λ (x : Sibling). WasIssued x.op)))) x q k l
