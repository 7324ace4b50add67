-- What the rows of a board tell of those that wait, for each operation by its way.
use Rattle.std.proofs.Common.{◌≡◌, ◌<◌, ◌+◌, ◌⊎◌, ◌++◌, ◌∷◌, ◌∙◌, ℕ, zero, suc, List, Some, [], ap, arith, false, inl, inr, refl, subst, sym, true, ⊎_elim, append_assoc}
use Rattle.std.specs.Prelude.{filter, map, slice_get}
use Rattle.std.specs.List.{Contains}
use Rattle.std.proofs.lemmas.Bool.{false≢true}
use Rattle.std.proofs.lemmas.Option.{none-some}
use Rattle.plain_values.specs.Points.{has}
use Rattle.point_sets.proofs.Rising.{has_head, has_tail, rising_head, rising_tail}
use Rattle.region_finder.specs.Listings.{AreRising}
use Rattle.region_tree.specs.Requirements.{Requirement, is_of}
use Rattle.region_tree.specs.declared.tree.OpNumber.{OpNumber}
use Rattle.region_tree.specs.declared.tree.RootId.{RootId}
use Rattle.dependence_graph.specs.Entries.{Knot}
use Rattle.dependence_graph.specs.Knots.{is_idle, knot_at, number, some_failed}
use Rattle.dependence_graph.specs.declared.stage.Stage.{Stage as Knotted}
use Rattle.dependence_graph.specs.declared.stage.Stage.TheVariants as knot
use Rattle.task_code.specs.declared.job.Job.{Job}
use Rattle.board_rules.specs.Boards.{Items, Operation as Node, Stage as BoardStage, child, child_op, closing, dropped, filling, first, idle, no_item, nothing, op, out, over, part, said}
use Rattle.board_rules.specs.Ground.{Ground}
use Rattle.regent_boards.specs.RegentMachine.{regent_ground}
use Rattle.code_boards.specs.Views.{spaces_of}
use Rattle.board_terms.specs.declared.operation.Operation.{Operation}
use Rattle.board_terms.specs.States.{State, operation_at}
use Rattle.board_trees.specs.Shows.{Leads, Shows, ShowsChildren, needs_issued, siblings}
use Rattle.board_trees.specs.Stages.{Stands, WaitsWell}
use Rattle.board_trees.specs.Waits.{Sibling, WaitsFor, WaitsForChild}
use Rattle.board_trees.proofs.Along.{some_same}
use Rattle.changed_trees.specs.Changes.{IsAt}
use Rattle.changed_trees.specs.Open.{Asked, HasAmong, HasAt, IsOpen}
use Rattle.changed_trees.proofs.Contained.{contains_cases, contains_first, contains_later, none_in}

-- ---- among siblings

abbrev pub IsIn : List Sibling → ℕ → Type 0
IsIn [] y = ⊥
IsIn (x ∷ xs) y = (x.op ≡ y) ⊎ IsIn xs y

pub in_more : (xs : List Sibling) (x : Sibling) (y : ℕ) → IsIn (xs ++ x ∷ []) y → IsIn xs y ⊎ (x.op ≡ y)
in_more [] x y (inl e) = inr e
in_more [] x y (inr e) = absurd e
in_more (z ∷ xs) x y (inl e) = inl (inl e)
in_more (z ∷ xs) x y (inr e) = ⊎_elim (λ l. inl (inr l)) (λ r. inr r) (in_more xs x y e)

below_later : (k : OpNumber) (ks : List OpNumber) (e : ℕ) → AreRising (k ∷ ks) → Contains ks (number e) → k.0 < e
below_later k ks e r c = rising_head k.0 (map (λ (o : OpNumber). o.0) ks) r e (has_number ks c)
  where
    has_number : (ks : List OpNumber) → Contains ks (number e) → has (map (λ (o : OpNumber). o.0) ks) e ≡ true
    has_number [] c = absurd (none_in (number e) c)
    has_number (x ∷ xs) c = ⊎_elim
        (λ q. subst (λ (o : OpNumber). has (o.0 ∷ map (λ (o : OpNumber). o.0) xs) e ≡ true) (sym q) (has_head e (map (λ (o : OpNumber). o.0) xs)))
        (λ l. has_tail e x.0 (map (λ (o : OpNumber). o.0) xs) (has_number xs l))
        (contains_cases x xs (number e) c)

waited_in : (knots : List Knot) (Q : List Requirement) (xs : List Sibling) (on : List OpNumber) → WaitsFor knots Q xs on → (y : ℕ) → Contains on (number y) → IsIn xs y
waited_in knots Q [] on h y c = absurd (none_in (number y) (subst (λ on. Contains on (number y)) h c))
waited_in knots Q (x ∷ xs) on (inl h) y c = inr (waited_in knots Q xs on h.1 y c)
waited_in knots Q (x ∷ xs) on (inr h) y c = ⊎_elim (λ e. inl (ap (λ (o : OpNumber). o.0) e)) (λ m. inr (waited_in knots Q xs h.0 h.3 y m))
    (contains_cases (number x.op) h.0 (number y) (subst (λ on. Contains on (number y)) h.1 c))

child_in : (knots : List Knot) (c : ℕ) (xs : List Sibling) (on : List OpNumber) → WaitsForChild knots c xs on → (y : ℕ) → Contains on (number y) → IsIn xs y
child_in knots c [] on h y m = absurd (none_in (number y) (subst (λ on. Contains on (number y)) h m))
child_in knots zero (x ∷ xs) on (inl h) y m = ⊎_elim (λ e. inl (ap (λ (o : OpNumber). o.0) e)) (λ n. absurd (none_in (number y) n))
    (contains_cases (number x.op) [] (number y) (subst (λ on. Contains on (number y)) h m))
child_in knots zero (x ∷ xs) on (inr h) y m = absurd (none_in (number y) (subst (λ on. Contains on (number y)) h.0 m))
child_in knots (suc c) (x ∷ xs) on h y m = inr (child_in knots c xs on h y m)

module _ (job : Job) where
  abbrev G : Ground
  G = regent_ground (spaces_of job.code)

  in_children : (ks : List OpNumber) (is : Items G) (y : ℕ) → IsIn (siblings job ks is) y → Contains ks (number y)
  in_children ks no_item y h = absurd h
  in_children ks (said t is) y h = in_children ks is y h
  in_children [] (child_op n is) y h = absurd h
  in_children (k ∷ ks) (child_op n is) y (inl e) = subst (λ z. Contains (k ∷ ks) (number z)) e (contains_first k ks)
  in_children (k ∷ ks) (child_op n is) y (inr h) = contains_later k ks (number y) (in_children ks is y h)

  module _ (s : State) (who : ℕ → ℕ) (ways : List (List ℕ)) where
    -- ---- what a row tells

    pub record Fact (k : ℕ) (earlier : List Sibling) : Type 0 where
      pub waiting : (knot_at s.waits.knots k).stage ≡ knot.Waiting → (y : ℕ) → Contains (knot_at s.waits.knots k).on (number y) → IsIn earlier y
      pub parked : (knot_at s.waits.knots k).stage ≡ knot.Parked → (y : ℕ) → Contains (knot_at s.waits.knots k).on (number y) → Contains (operation_at s k).children (number y)
      pub vain : is_idle (knot_at s.waits.knots k).stage ≡ true → some_failed s.waits.knots (knot_at s.waits.knots k).on ≡ false

    module _ (roots : List RootId) (kn : Knotted) (on : List OpNumber) (o : Operation) (D N : List Requirement) (earlier : List Sibling) (ks : List OpNumber) (is : Items G) where
      abbrev Stood : BoardStage G → Type 0
      Stood st = Stands job.code s.roots who roots s kn o N st

      abbrev Waited : BoardStage G → Type 0
      Waited st = WaitsWell job.code s.waits.knots D N earlier (siblings job ks is) on st

      waiting_in : (st : BoardStage G) → Stood st → Waited st → kn ≡ knot.Waiting → (y : ℕ) → Contains on (number y) → IsIn earlier y
      waiting_in (idle first) h w e y c = waited_in s.waits.knots D earlier on w.0 y c
      waiting_in (idle nothing) h w e y c = let q : knot.Waiting ≡ knot.Parked = sym e ∙ h.0 in absurd cc
      waiting_in (idle (part x)) h w e y c = let q : knot.Waiting ≡ knot.Parked = sym e ∙ h.0 in absurd cc
      waiting_in (idle (child x)) h w e y c = let q : knot.Waiting ≡ knot.Parked = sym e ∙ h.0 in absurd cc
      waiting_in (filling x d l) h w e y c = let q : knot.Waiting ≡ knot.Begun = sym e ∙ h.0 in absurd cc
      waiting_in (out x d) h w e y c = let q : knot.Waiting ≡ knot.Begun = sym e ∙ h.0 in absurd cc
      waiting_in (closing x) (inl h) w e y c = let q : knot.Waiting ≡ knot.Begun = sym e ∙ h.0 in absurd cc
      waiting_in (closing x) (inr h) w e y c = let q : knot.Waiting ≡ knot.Stopped = sym e ∙ h.0 in absurd cc
      waiting_in (over x) (inl h) w e y c = let q : knot.Waiting ≡ knot.Done = sym e ∙ h.0 in absurd cc
      waiting_in (over x) (inr h) w e y c = let q : knot.Waiting ≡ knot.Failed = sym e ∙ h.0 in absurd cc
      waiting_in dropped h w e y c = let q : knot.Waiting ≡ knot.Dropped = sym e ∙ h.0 in absurd cc

      parked_in : (st : BoardStage G) → Stood st → (kn ≡ knot.Parked → st ≡ idle first → on ≡ []) → Waited st → kn ≡ knot.Parked → (y : ℕ) → Contains on (number y) → Contains ks (number y)
      parked_in (idle first) h free w e y c = absurd (none_in (number y) (subst (λ on. Contains on (number y)) (free e refl) c))
      parked_in (idle nothing) h free w e y c = absurd (none_in (number y) (subst (λ on. Contains on (number y)) w.0 c))
      parked_in (idle (part x)) h free w e y c = in_children ks is y (waited_in s.waits.knots (filter (is_of x.root x.field) N) (siblings job ks is) on w.0 y c)
      parked_in (idle (child x)) h free w e y c = in_children ks is y (child_in s.waits.knots x (siblings job ks is) on w.0 y c)
      parked_in (filling x d l) h free w e y c = let q : knot.Parked ≡ knot.Begun = sym e ∙ h.0 in absurd cc
      parked_in (out x d) h free w e y c = let q : knot.Parked ≡ knot.Begun = sym e ∙ h.0 in absurd cc
      parked_in (closing x) (inl h) free w e y c = let q : knot.Parked ≡ knot.Begun = sym e ∙ h.0 in absurd cc
      parked_in (closing x) (inr h) free w e y c = let q : knot.Parked ≡ knot.Stopped = sym e ∙ h.0 in absurd cc
      parked_in (over x) (inl h) free w e y c = let q : knot.Parked ≡ knot.Done = sym e ∙ h.0 in absurd cc
      parked_in (over x) (inr h) free w e y c = let q : knot.Parked ≡ knot.Failed = sym e ∙ h.0 in absurd cc
      parked_in dropped h free w e y c = let q : knot.Parked ≡ knot.Dropped = sym e ∙ h.0 in absurd cc

      idle_unfailed : (st : BoardStage G) → Stood st → Waited st → is_idle kn ≡ true → some_failed s.waits.knots on ≡ false
      idle_unfailed (idle x) h w e = w.1
      idle_unfailed (filling x d l) h w e = absurd (false≢true (ap is_idle (sym h.0) ∙ e))
      idle_unfailed (out x d) h w e = absurd (false≢true (ap is_idle (sym h.0) ∙ e))
      idle_unfailed (closing x) (inl h) w e = absurd (false≢true (ap is_idle (sym h.0) ∙ e))
      idle_unfailed (closing x) (inr h) w e = absurd (false≢true (ap is_idle (sym h.0) ∙ e))
      idle_unfailed (over x) (inl h) w e = absurd (false≢true (ap is_idle (sym h.0) ∙ e))
      idle_unfailed (over x) (inr h) w e = absurd (false≢true (ap is_idle (sym h.0) ∙ e))
      idle_unfailed dropped h w e = absurd (false≢true (ap is_idle (sym h.0) ∙ e))

    fact_of : (roots : List RootId) (k : ℕ) (D N : List Requirement) (earlier : List Sibling) (st : BoardStage G) (is : Items G) →
        Stands job.code s.roots who roots s (knot_at s.waits.knots k).stage (operation_at s k) N st →
        ((knot_at s.waits.knots k).stage ≡ knot.Parked → st ≡ idle first → (knot_at s.waits.knots k).on ≡ []) →
        WaitsWell job.code s.waits.knots D N earlier (siblings job (operation_at s k).children is) (knot_at s.waits.knots k).on st → Fact k earlier
    fact_of roots k D N earlier st is h free w =
        let kn = (knot_at s.waits.knots k).stage in
        let on = (knot_at s.waits.knots k).on in
        record {
          waiting = waiting_in roots kn on (operation_at s k) D N earlier (operation_at s k).children is st h w;
          parked = parked_in roots kn on (operation_at s k) D N earlier (operation_at s k).children is st h free w;
          vain = idle_unfailed roots kn on (operation_at s k) D N earlier (operation_at s k).children is st h w;
        }

    -- ---- all rows tell it

    abbrev mutual
      pub Known : List ℕ → ℕ → List Sibling → Node G → Type 0
      Known w k earlier (op D N i f ps st is) = IsAt job ways k w × Fact k earlier × KnownAmong w k 0 [] (operation_at s k).children is

      pub KnownAmong : List ℕ → ℕ → ℕ → List Sibling → List OpNumber → Items G → Type 0
      KnownAmong w j c earlier ks no_item = ks ≡ []
      KnownAmong w j c earlier ks (said t is) = KnownAmong w j c earlier ks is
      KnownAmong w j c earlier [] (child_op n is) = ⊥
      KnownAmong w j c earlier (k ∷ ks) (child_op n is) = ((operation_at s k.0).parent ≡ number j) × (j < k.0) × Known (w ++ c ∷ []) k.0 earlier n
          × KnownAmong w j (suc c) (earlier ++ record { op = k.0; needs = needs_issued job n } ∷ []) ks is

    mutual
      pub shows_known : (w : List ℕ) (k : ℕ) (earlier : List Sibling) (above : List RootId) (n : Node G) → Shows job s who ways w k earlier above n → Known w k earlier n
      shows_known w k earlier above (op D N i f ps st is) h = (
        h.0.way_is,
        fact_of (above ++ (operation_at s k).frame.own) k D N earlier st is h.0.stands h.0.free h.0.waits,
        children_known w k 0 [] (above ++ (operation_at s k).frame.own) (operation_at s k).children is h.1,
      )

      pub children_known : (w : List ℕ) (j c : ℕ) (earlier : List Sibling) (roots : List RootId) (ks : List OpNumber) (is : Items G) →
          ShowsChildren job s who ways w j c earlier roots ks is → KnownAmong w j c earlier ks is
      children_known w j c earlier roots ks no_item h = h
      children_known w j c earlier roots ks (said t is) h = children_known w j c earlier roots ks is h
      children_known w j c earlier roots [] (child_op n is) h = absurd h
      children_known w j c earlier roots (k ∷ ks) (child_op n is) h = (
        h.0.parent,
        h.0.later,
        shows_known (w ++ c ∷ []) k.0 earlier roots n h.1,
        children_known w j (suc c) (earlier ++ record { op = k.0; needs = needs_issued job n } ∷ []) roots ks is h.2,
      )

    pub open_known : (w : List ℕ) (k : ℕ) (earlier : List Sibling) (above : List RootId) (n : Node G) → IsOpen job s who ways w k earlier above n → Known w k earlier n
    open_known w k earlier above (op D N i f ps st is) h = (
      h.0.way_is,
      fact_of (above ++ (operation_at s k).frame.own) k D N earlier st is h.0.stands h.0.free h.0.waits,
      children_known w k 0 [] (above ++ (operation_at s k).frame.own) (operation_at s k).children is h.1,
    )

    module _ (B : Asked job) (own : (w : List ℕ) (k : ℕ) (earlier : List Sibling) (above : List RootId) (n : Node G) → B w k earlier above n → Known w k earlier n) where
      mutual
        pub has_known : (way w : List ℕ) (k : ℕ) (earlier : List Sibling) (above : List RootId) (n : Node G) → HasAt job s who ways B way w k earlier above n → Known w k earlier n
        has_known [] w k earlier above n h = own w k earlier above n h
        has_known (c ∷ way) w k earlier above (op D N i f ps st is) h = (
          h.0.way_is,
          fact_of (above ++ (operation_at s k).frame.own) k D N earlier st is h.0.stands h.0.free h.0.waits,
          among_known c way w k 0 [] (above ++ (operation_at s k).frame.own) (operation_at s k).children is h.1,
        )

        among_known : (c : ℕ) (way w : List ℕ) (j d : ℕ) (earlier : List Sibling) (roots : List RootId) (ks : List OpNumber) (is : Items G) →
            HasAmong job s who ways B c way w j d earlier roots ks is → KnownAmong w j d earlier ks is
        among_known c way w j d earlier roots ks no_item h = absurd h
        among_known c way w j d earlier roots ks (said t is) h = among_known c way w j d earlier roots ks is h
        among_known c way w j d earlier roots [] (child_op n is) h = absurd h
        among_known zero way w j d earlier roots (k ∷ ks) (child_op n is) h = (
          h.0.parent,
          h.0.later,
          has_known way (w ++ d ∷ []) k.0 earlier roots n h.1,
          children_known w j (suc d) (earlier ++ record { op = k.0; needs = needs_issued job n } ∷ []) roots ks is h.2,
        )
        among_known (suc c) way w j d earlier roots (k ∷ ks) (child_op n is) h = (
          h.0.parent,
          h.0.later,
          shows_known (w ++ d ∷ []) k.0 earlier roots n h.1,
          among_known c way w j (suc d) (earlier ++ record { op = k.0; needs = needs_issued job n } ∷ []) roots ks is h.2,
        )

    -- ---- each operation by its way

    -- it was called by another one, and its earlier siblings were called before
    pub record Called (x : ℕ) (w : List ℕ) (earlier : List Sibling) : Type 0 where
      pub caller : ℕ
      pub way : List ℕ
      pub place : ℕ
      pub way_is : w ≡ way ++ place ∷ []
      pub at : IsAt job ways caller way
      pub parent : (operation_at s x).parent ≡ number caller
      pub later : caller < x
      pub before : (y : ℕ) → IsIn earlier y → ((operation_at s y).parent ≡ number caller) × (caller < y) × (y < x)

    pub record View (x : ℕ) (w : List ℕ) : Type 0 where
      pub at : IsAt job ways x w
      pub earlier : List Sibling
      pub fact : Fact x earlier
      pub children : (y : ℕ) → Contains (operation_at s x).children (number y) → ((operation_at s y).parent ≡ number x) × (x < y)
      pub place : ((w ≡ []) × (earlier ≡ [])) ⊎ Called x w earlier

    among_children : (w : List ℕ) (j c : ℕ) (earlier : List Sibling) (ks : List OpNumber) (is : Items G) → KnownAmong w j c earlier ks is →
        (y : ℕ) → Contains ks (number y) → ((operation_at s y).parent ≡ number j) × (j < y)
    among_children w j c earlier ks no_item h y m = absurd (none_in (number y) (subst (λ ks. Contains ks (number y)) h m))
    among_children w j c earlier ks (said t is) h y m = among_children w j c earlier ks is h y m
    among_children w j c earlier [] (child_op n is) h y m = absurd h
    among_children w j c earlier (k ∷ ks) (child_op n is) h y m = ⊎_elim
        (λ e. subst (λ (o : OpNumber). ((operation_at s o.0).parent ≡ number j) × (j < o.0)) e (h.0, h.1))
        (λ l. among_children w j (suc c) (earlier ++ record { op = k.0; needs = needs_issued job n } ∷ []) ks is h.3 y l)
        (contains_cases k ks (number y) m)

    module _ (rising : (j : ℕ) → AreRising (operation_at s j).children) where
      mutual
        pub known_at : (z w : List ℕ) (k : ℕ) (earlier : List Sibling) (n : Node G) (x : ℕ) → Known w k earlier n → Leads job s k z x →
            ((w ≡ []) × (earlier ≡ [])) ⊎ Called k w earlier → View x (w ++ z)
        known_at [] w k earlier (op D N i f ps st is) x h l p =
            subst (λ y. View y (w ++ [])) l (subst (View k) (sym (Rattle.std.proofs.lemmas.List.append-nil w)) (record {
              at = h.0;
              earlier = earlier;
              fact = h.1;
              children = among_children w k 0 [] (operation_at s k).children is h.2;
              place = p;
            }))
        known_at (c ∷ z) w k earlier (op D N i f ps st is) x h l p =
            let from : 0 + c ≡ c = omega arith in
            subst (λ e. View x (w ++ e ∷ z)) from (known_among c z w k 0 [] (operation_at s k).children is l.0 x h.0 h.2 (rising k) (λ y m. absurd m) l.1 l.2)

        known_among : (c : ℕ) (z w : List ℕ) (j d : ℕ) (earlier : List Sibling) (ks : List OpNumber) (is : Items G) (y x : ℕ) → IsAt job ways j w → KnownAmong w j d earlier ks is → AreRising ks →
            ((a : ℕ) → IsIn earlier a → ((operation_at s a).parent ≡ number j) × (j < a) × ((b : ℕ) → Contains ks (number b) → a < b)) →
            slice_get ks c ≡ Some (number y) → Leads job s y z x → View x (w ++ (d + c) ∷ z)
        known_among c z w j d earlier ks no_item y x at h r b q l = absurd (none-some (number y) (ap (λ ks. slice_get ks c) (sym h) ∙ q))
        known_among c z w j d earlier ks (said t is) y x at h r b q l = known_among c z w j d earlier ks is y x at h r b q l
        known_among c z w j d earlier [] (child_op n is) y x at h r b q l = absurd h
        known_among zero z w j d earlier (k ∷ ks) (child_op n is) y x at h r b q l =
            let here : d + 0 ≡ d = omega arith in
            subst (View x) (append_assoc w (d ∷ []) z ∙ ap (λ e. w ++ e ∷ z) (sym here))
            (known_at z (w ++ d ∷ []) k.0 earlier n x h.2 (subst (λ (o : OpNumber). Leads job s o.0 z x) (sym (some_same k (number y) q)) l) (inr (record {
              caller = j;
              way = w;
              place = d;
              way_is = refl;
              at = at;
              parent = h.0;
              later = h.1;
              before = λ a m. let f = b a m in (f.0, f.1, f.2 k.0 (contains_first k ks));
            })))
        known_among (suc c) z w j d earlier (k ∷ ks) (child_op n is) y x at h r b q l =
            let there : d + suc c ≡ suc d + c = omega arith in
            subst (λ e. View x (w ++ e ∷ z)) (sym there)
            (known_among c z w j (suc d) (earlier ++ record { op = k.0; needs = needs_issued job n } ∷ []) ks is y x at h.3 (rising_tail k.0 (map (λ (o : OpNumber). o.0) ks) r)
            (λ a m. ⊎_elim
            (λ i. let f = b a i in (f.0, f.1, λ e g. f.2 e (contains_later k ks (number e) g)))
            (λ e. subst (λ a. ((operation_at s a).parent ≡ number j) × (j < a) × ((b : ℕ) → Contains ks (number b) → a < b)) e (h.0, h.1, λ e g. below_later k ks e r g))
            (in_more earlier (record { op = k.0; needs = needs_issued job n }) a m)) q l)
