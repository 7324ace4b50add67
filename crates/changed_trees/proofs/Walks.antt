-- What is known of the operation at a way tells of the tree in which it is changed.
use Rattle.std.proofs.Common.{◌≡◌, ◌+◌, ◌∷◌, ◌++◌, ℕ, suc, zero, List, [], ap, arith}
use Rattle.region_tree.specs.declared.tree.OpNumber.{OpNumber}
use Rattle.region_tree.specs.declared.tree.RootId.{RootId}
use Rattle.task_code.specs.declared.job.Job.{Job}
use Rattle.board_rules.specs.Boards.{Items, Operation as Node, child_op, no_item, op, said, settle}
use Rattle.board_rules.specs.Ground.{Ground}
use Rattle.board_rules.specs.NumberedBoards.{children_among, children_at}
use Rattle.board_rules.specs.Processes.{Effect}
use Rattle.board_rules.specs.RootNumbers.{made_among, made_in}
use Rattle.board_rules.specs.Running.{Machine}
use Rattle.regent_boards.specs.RegentMachine.{regent_ground}
use Rattle.code_boards.specs.Laws.{machine_of}
use Rattle.code_boards.specs.Views.{spaces_of}
use Rattle.board_terms.specs.States.{State, operation_at}
use Rattle.board_trees.specs.Shows.{needs_issued}
use Rattle.board_trees.specs.Waits.{Sibling}
use Rattle.changed_trees.specs.Edits.{edited, edited_among, told_among, told_at, up, up_among}
use Rattle.changed_trees.specs.Open.{Asked, HasAmong, HasAt}

module _ (job : Job) (s : State) (who : ℕ → ℕ) (ways : List (List ℕ)) (B : Asked job) where
  abbrev G : Ground
  G = regent_ground (spaces_of job.code)

  abbrev K : ℕ → Machine G
  K = machine_of job

  -- so of each that has what is asked
  abbrev pub OfAll : (Node G → Type 0) → Type 0
  OfAll P = (w : List ℕ) (k : ℕ) (earlier : List Sibling) (above : List RootId) (n : Node G) → B w k earlier above n → P n

  module _ (g : Node G → Node G) (d : ℕ) where
    -- ---- so many makings more

    module _ (own : OfAll (λ n. made_in G K (g n) ≡ made_in G K n + d)) where
      mutual
        pub made_edited : (way w : List ℕ) (k : ℕ) (earlier : List Sibling) (above : List RootId) (n : Node G) → HasAt job s who ways B way w k earlier above n →
            made_in G K (edited G way g n) ≡ made_in G K n + d
        made_edited [] w k earlier above n h = own w k earlier above n h
        made_edited (c ∷ way) w k earlier above (op D N i f ps st is) h =
            omega (arith, made_beside c way w k 0 [] (above ++ (operation_at s k).frame.own) (operation_at s k).children is h.1)

        made_beside : (c : ℕ) (way w : List ℕ) (j e : ℕ) (earlier : List Sibling) (roots : List RootId) (ks : List OpNumber) (is : Items G) →
            HasAmong job s who ways B c way w j e earlier roots ks is → made_among G K (edited_among G c way g is) ≡ made_among G K is + d
        made_beside c way w j e earlier roots ks no_item h = absurd h
        made_beside c way w j e earlier roots ks (said t is) h = made_beside c way w j e earlier roots ks is h
        made_beside c way w j e earlier roots [] (child_op n is) h = absurd h
        made_beside zero way w j e earlier roots (k ∷ ks) (child_op n is) h = omega (arith, made_edited way (w ++ e ∷ []) k.0 earlier roots n h.1)
        made_beside (suc c) way w j e earlier roots (k ∷ ks) (child_op n is) h =
            omega (arith, made_beside c way w j (suc e) (earlier ++ record { op = k.0; needs = needs_issued job n } ∷ []) roots ks is h.2)

    -- ---- so many children more

    module _ (own : OfAll (λ n. children_at G K [] (g n) ≡ children_at G K [] n + d)) where
      mutual
        pub children_edited : (way w : List ℕ) (k : ℕ) (earlier : List Sibling) (above : List RootId) (n : Node G) → HasAt job s who ways B way w k earlier above n →
            children_at G K way (edited G way g n) ≡ children_at G K way n + d
        children_edited [] w k earlier above n h = own w k earlier above n h
        children_edited (c ∷ way) w k earlier above (op D N i f ps st is) h =
            children_beside c way w k 0 [] (above ++ (operation_at s k).frame.own) (operation_at s k).children is h.1

        children_beside : (c : ℕ) (way w : List ℕ) (j e : ℕ) (earlier : List Sibling) (roots : List RootId) (ks : List OpNumber) (is : Items G) →
            HasAmong job s who ways B c way w j e earlier roots ks is → children_among G K c way (edited_among G c way g is) ≡ children_among G K c way is + d
        children_beside c way w j e earlier roots ks no_item h = absurd h
        children_beside c way w j e earlier roots ks (said t is) h = children_beside c way w j e earlier roots ks is h
        children_beside c way w j e earlier roots [] (child_op n is) h = absurd h
        children_beside zero way w j e earlier roots (k ∷ ks) (child_op n is) h = children_edited way (w ++ e ∷ []) k.0 earlier roots n h.1
        children_beside (suc c) way w j e earlier roots (k ∷ ks) (child_op n is) h =
            children_beside c way w j (suc e) (earlier ++ record { op = k.0; needs = needs_issued job n } ∷ []) roots ks is h.2

  -- ---- how many children it has

  module _ (many : ℕ) (own : OfAll (λ n. children_at G K [] n ≡ many)) where
    mutual
      pub children_are : (way w : List ℕ) (k : ℕ) (earlier : List Sibling) (above : List RootId) (n : Node G) → HasAt job s who ways B way w k earlier above n → children_at G K way n ≡ many
      children_are [] w k earlier above n h = own w k earlier above n h
      children_are (c ∷ way) w k earlier above (op D N i f ps st is) h = children_among_are c way w k 0 [] (above ++ (operation_at s k).frame.own) (operation_at s k).children is h.1

      children_among_are : (c : ℕ) (way w : List ℕ) (j e : ℕ) (earlier : List Sibling) (roots : List RootId) (ks : List OpNumber) (is : Items G) →
          HasAmong job s who ways B c way w j e earlier roots ks is → children_among G K c way is ≡ many
      children_among_are c way w j e earlier roots ks no_item h = absurd h
      children_among_are c way w j e earlier roots ks (said t is) h = children_among_are c way w j e earlier roots ks is h
      children_among_are c way w j e earlier roots [] (child_op n is) h = absurd h
      children_among_are zero way w j e earlier roots (k ∷ ks) (child_op n is) h = children_are way (w ++ e ∷ []) k.0 earlier roots n h.1
      children_among_are (suc c) way w j e earlier roots (k ∷ ks) (child_op n is) h =
          children_among_are c way w j (suc e) (earlier ++ record { op = k.0; needs = needs_issued job n } ∷ []) roots ks is h.2

  -- ---- what is told of it

  module _ (es : Node G → List (Effect G)) (P : List (Effect G) → Type 0) (own : OfAll (λ n. P (es n))) where
    mutual
      pub told_holds : (way w : List ℕ) (k : ℕ) (earlier : List Sibling) (above : List RootId) (n : Node G) → HasAt job s who ways B way w k earlier above n → P (told_at G way es n)
      told_holds [] w k earlier above n h = own w k earlier above n h
      told_holds (c ∷ way) w k earlier above (op D N i f ps st is) h = told_beside c way w k 0 [] (above ++ (operation_at s k).frame.own) (operation_at s k).children is h.1

      told_beside : (c : ℕ) (way w : List ℕ) (j e : ℕ) (earlier : List Sibling) (roots : List RootId) (ks : List OpNumber) (is : Items G) →
          HasAmong job s who ways B c way w j e earlier roots ks is → P (told_among G c way es is)
      told_beside c way w j e earlier roots ks no_item h = absurd h
      told_beside c way w j e earlier roots ks (said t is) h = told_beside c way w j e earlier roots ks is h
      told_beside c way w j e earlier roots [] (child_op n is) h = absurd h
      told_beside zero way w j e earlier roots (k ∷ ks) (child_op n is) h = told_holds way (w ++ e ∷ []) k.0 earlier roots n h.1
      told_beside (suc c) way w j e earlier roots (k ∷ ks) (child_op n is) h =
          told_beside c way w j (suc e) (earlier ++ record { op = k.0; needs = needs_issued job n } ∷ []) roots ks is h.2

  -- ---- changes that come to the same when they are settled

  module _ (g h : Node G → Node G) (makings : ℕ) (own : OfAll (λ n. settle G (K makings) (g n) ≡ settle G (K makings) (h n))) where
    mutual
      pub up_alike : (way w : List ℕ) (k : ℕ) (earlier : List Sibling) (above : List RootId) (n : Node G) → HasAt job s who ways B way w k earlier above n →
          up G (K makings) way (edited G way g n) ≡ up G (K makings) way (edited G way h n)
      up_alike [] w k earlier above n x = own w k earlier above n x
      up_alike (c ∷ way) w k earlier above (op D N i f ps st is) x =
          ap (λ is. settle G (K makings) (op D N i f ps st is)) (beside_alike c way w k 0 [] (above ++ (operation_at s k).frame.own) (operation_at s k).children is x.1)

      beside_alike : (c : ℕ) (way w : List ℕ) (j e : ℕ) (earlier : List Sibling) (roots : List RootId) (ks : List OpNumber) (is : Items G) →
          HasAmong job s who ways B c way w j e earlier roots ks is → up_among G (K makings) c way (edited_among G c way g is) ≡ up_among G (K makings) c way (edited_among G c way h is)
      beside_alike c way w j e earlier roots ks no_item x = absurd x
      beside_alike c way w j e earlier roots ks (said t is) x = ap (λ is. said t is) (beside_alike c way w j e earlier roots ks is x)
      beside_alike c way w j e earlier roots [] (child_op n is) x = absurd x
      beside_alike zero way w j e earlier roots (k ∷ ks) (child_op n is) x = ap (λ n. child_op n is) (up_alike way (w ++ e ∷ []) k.0 earlier roots n x.1)
      beside_alike (suc c) way w j e earlier roots (k ∷ ks) (child_op n is) x =
          ap (λ is. child_op n is) (beside_alike c way w j (suc e) (earlier ++ record { op = k.0; needs = needs_issued job n } ∷ []) roots ks is x.2)
