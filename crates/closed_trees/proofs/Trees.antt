-- Trees that are settled along a way, operation by operation.
use Rattle.std.proofs.Common.{◌≡◌, ◌+◌, ◌++◌, ◌∷◌, ◌∙◌, ◌&&◌, ℕ, zero, suc, Bool, List, [], ap, cond, false, refl, sym, true}
use Rattle.region_tree.specs.declared.tree.OpNumber.{OpNumber}
use Rattle.task_code.specs.declared.job.Job.{Job}
use Rattle.board_rules.specs.Boards.{Items, Operation as Node, child, child_op, dropped, no_item, op, said}
use Rattle.board_rules.specs.Boards as tree
use Rattle.board_rules.specs.Ground.{Ground}
use Rattle.board_rules.specs.RootNumbers.{made_among, made_in}
use Rattle.board_rules.specs.Running.{Machine}
use Rattle.regent_boards.specs.RegentMachine.{regent_ground}
use Rattle.code_boards.specs.Views.{spaces_of}
use Rattle.board_trees.specs.Shows.{needs_issued, printed, said_in, siblings}
use Rattle.board_trees.proofs.Settled.{stop_twice}
use Rattle.changed_trees.specs.Edits.{edited, edited_among, up, up_among}

module _ (G : Ground) (M : Machine G) where
  abbrev worse : Node G → List G.Needs → List G.Needs
  worse n bad = cond (tree.has_failed G (tree.stage_of G n)) (tree.needs_of G n ∷ bad) bad

  -- ---- once is enough

  sweep_twice : (bad : List G.Needs) (is : Items G) → tree.sweep G M bad (tree.sweep G M bad is) ≡ tree.sweep G M bad is
  sweep_twice bad no_item = refl
  sweep_twice bad (said t is) = ap (λ y. said t y) (sweep_twice bad is)
  sweep_twice bad (child_op (op D N i f ps st js) is) =
      chosen (tree.is_waiting G st && tree.meets_any G M bad D) refl (sweep_twice (D ∷ bad) is) (sweep_twice (worse (op D N i f ps st js) bad) is)
    where
      chosen : (b : Bool) → (tree.is_waiting G st && tree.meets_any G M bad D) ≡ b →
          tree.sweep G M (D ∷ bad) (tree.sweep G M (D ∷ bad) is) ≡ tree.sweep G M (D ∷ bad) is →
          tree.sweep G M (worse (op D N i f ps st js) bad) (tree.sweep G M (worse (op D N i f ps st js) bad) is) ≡ tree.sweep G M (worse (op D N i f ps st js) bad) is →
          tree.sweep G M bad (cond b (child_op (op D N i f ps dropped js) (tree.sweep G M (D ∷ bad) is)) (child_op (op D N i f ps st js) (tree.sweep G M (worse (op D N i f ps st js) bad) is)))
          ≡ cond b (child_op (op D N i f ps dropped js) (tree.sweep G M (D ∷ bad) is)) (child_op (op D N i f ps st js) (tree.sweep G M (worse (op D N i f ps st js) bad) is))
      chosen true e r q = ap (λ y. child_op (op D N i f ps dropped js) y) r
      chosen false e r q =
          ap (λ b. cond b (child_op (op D N i f ps dropped js) (tree.sweep G M (D ∷ bad) (tree.sweep G M (worse (op D N i f ps st js) bad) is)))
          (child_op (op D N i f ps st js) (tree.sweep G M (worse (op D N i f ps st js) bad) (tree.sweep G M (worse (op D N i f ps st js) bad) is)))) e
          ∙ ap (λ y. child_op (op D N i f ps st js) y) q

  -- ---- one operation on the way is left open

  -- a child is settled, and what waits for it gives up
  abbrev pub opened_up : ℕ → Node G → Node G
  opened_up c (op D N i f ps st is) =
      let left = tree.sweep G M [] (up_among G M c [] is) in
      op D N i f ps (tree.stop G M N st left) left

  pub up_opened : (c : ℕ) (n : Node G) → tree.settle G M (opened_up c n) ≡ up G M (c ∷ []) n
  up_opened c (op D N i f ps st is) =
      ap (tree.settled G M D N i f ps (tree.stop G M N st (tree.sweep G M [] (up_among G M c [] is)))) (sweep_twice [] (up_among G M c [] is))
      ∙ ap (λ x. op D N i f ps (tree.close G M x (tree.sweep G M [] (up_among G M c [] is))) (tree.sweep G M [] (up_among G M c [] is))) (stop_twice G M N st (tree.sweep G M [] (up_among G M c [] is)))

  mutual
    pub up_step : (c : ℕ) (w : List ℕ) (n : Node G) → up G M (w ++ c ∷ []) n ≡ up G M w (edited G w (opened_up c) n)
    up_step c [] n = sym (up_opened c n)
    up_step c (d ∷ w) (op D N i f ps st is) = ap (λ y. tree.settle G M (op D N i f ps st y)) (among_step c d w is)

    among_step : (c d : ℕ) (w : List ℕ) (is : Items G) → up_among G M d (w ++ c ∷ []) is ≡ up_among G M d w (edited_among G d w (opened_up c) is)
    among_step c d w no_item = refl
    among_step c d w (said t is) = ap (λ y. said t y) (among_step c d w is)
    among_step c zero w (child_op n is) = ap (λ y. child_op y is) (up_step c w n)
    among_step c (suc d) w (child_op n is) = ap (λ y. child_op n y) (among_step c d w is)

  -- ---- makings stay

  module _ (Ms : ℕ → Machine G) where
    sweep_made : (bad : List G.Needs) (is : Items G) → made_among G Ms (tree.sweep G M bad is) ≡ made_among G Ms is
    sweep_made bad no_item = refl
    sweep_made bad (said t is) = sweep_made bad is
    sweep_made bad (child_op (op D N i f ps st js) is) =
        chosen (tree.is_waiting G st && tree.meets_any G M bad D) (sweep_made (D ∷ bad) is) (sweep_made (worse (op D N i f ps st js) bad) is)
      where
        chosen : (b : Bool) → made_among G Ms (tree.sweep G M (D ∷ bad) is) ≡ made_among G Ms is → made_among G Ms (tree.sweep G M (worse (op D N i f ps st js) bad) is) ≡ made_among G Ms is →
            made_among G Ms (cond b (child_op (op D N i f ps dropped js) (tree.sweep G M (D ∷ bad) is)) (child_op (op D N i f ps st js) (tree.sweep G M (worse (op D N i f ps st js) bad) is)))
            ≡ (i + made_among G Ms js) + made_among G Ms is
        chosen true r q = ap (λ y. (i + made_among G Ms js) + y) r
        chosen false r q = ap (λ y. (i + made_among G Ms js) + y) q

    settle_made : (n : Node G) → made_in G Ms (tree.settle G M n) ≡ made_in G Ms n
    settle_made (op D N i f ps st is) = ap (λ y. i + y) (sweep_made [] is)

    mutual
      pub up_made : (way : List ℕ) (n : Node G) → made_in G Ms (up G M way n) ≡ made_in G Ms n
      up_made [] n = settle_made n
      up_made (c ∷ way) (op D N i f ps st is) = ap (λ y. i + y) (sweep_made [] (up_among G M c way is) ∙ up_among_made c way is)

      up_among_made : (c : ℕ) (way : List ℕ) (is : Items G) → made_among G Ms (up_among G M c way is) ≡ made_among G Ms is
      up_among_made c way no_item = refl
      up_among_made c way (said t is) = up_among_made c way is
      up_among_made zero way (child_op n is) = ap (λ y. y + made_among G Ms is) (up_made way n)
      up_among_made (suc c) way (child_op n is) = ap (λ y. made_in G Ms n + y) (up_among_made c way is)

    opened_made : (c : ℕ) (n : Node G) → made_in G Ms (opened_up c n) ≡ made_in G Ms n
    opened_made c (op D N i f ps st is) = ap (λ y. i + y) (sweep_made [] (up_among G M c [] is) ∙ up_among_made c [] is)

    module _ (g : Node G → Node G) (same : (n : Node G) → made_in G Ms (g n) ≡ made_in G Ms n) where
      mutual
        edited_made : (way : List ℕ) (n : Node G) → made_in G Ms (edited G way g n) ≡ made_in G Ms n
        edited_made [] n = same n
        edited_made (c ∷ way) (op D N i f ps st is) = ap (λ y. i + y) (edited_among_made c way is)

        edited_among_made : (c : ℕ) (way : List ℕ) (is : Items G) → made_among G Ms (edited_among G c way g is) ≡ made_among G Ms is
        edited_among_made c way no_item = refl
        edited_among_made c way (said t is) = edited_among_made c way is
        edited_among_made zero way (child_op n is) = ap (λ y. y + made_among G Ms is) (edited_made way n)
        edited_among_made (suc c) way (child_op n is) = ap (λ y. made_in G Ms n + y) (edited_among_made c way is)

    pub step_made : (c : ℕ) (w : List ℕ) (n : Node G) → made_in G Ms (edited G w (opened_up c) n) ≡ made_in G Ms n
    step_made c w n = edited_made (opened_up c) (opened_made c) w n

-- ---- what is said stays, and so do the children's needs

module _ (job : Job) (M : Machine (regent_ground (spaces_of job.code))) where
  abbrev G : Ground
  G = regent_ground (spaces_of job.code)

  sweep_says : (bad : List G.Needs) (is : Items G) (e : ℕ) → said_in job e (tree.sweep G M bad is) ≡ said_in job e is
  sweep_says bad no_item e = refl
  sweep_says bad (said t is) e = ap (printed job e t) (sweep_says bad is e)
  sweep_says bad (child_op n is) e = chosen (tree.is_waiting G (tree.stage_of G n) && tree.meets_any G M bad (tree.needs_of G n)) (sweep_says (tree.needs_of G n ∷ bad) is (suc e)) (sweep_says (worse G M n bad) is (suc e))
    where
      chosen : (b : Bool) → said_in job (suc e) (tree.sweep G M (tree.needs_of G n ∷ bad) is) ≡ said_in job (suc e) is → said_in job (suc e) (tree.sweep G M (worse G M n bad) is) ≡ said_in job (suc e) is →
          said_in job e (cond b (child_op (tree.as_dropped G M n) (tree.sweep G M (tree.needs_of G n ∷ bad) is)) (child_op n (tree.sweep G M (worse G M n bad) is))) ≡ said_in job (suc e) is
      chosen true r q = r
      chosen false r q = q

  up_says : (c : ℕ) (is : Items G) (e : ℕ) → said_in job e (up_among G M c [] is) ≡ said_in job e is
  up_says c no_item e = refl
  up_says c (said t is) e = ap (printed job e t) (up_says c is e)
  up_says zero (child_op n is) e = refl
  up_says (suc c) (child_op n is) e = up_says c is (suc e)

  pub left_says : (c : ℕ) (is : Items G) (e : ℕ) → said_in job e (tree.sweep G M [] (up_among G M c [] is)) ≡ said_in job e is
  left_says c is e = sweep_says [] (up_among G M c [] is) e ∙ up_says c is e

  settle_needs : (n : Node G) → needs_issued job (tree.settle G M n) ≡ needs_issued job n
  settle_needs (op D N i f ps st is) = refl

  dropped_needs : (n : Node G) → needs_issued job (tree.as_dropped G M n) ≡ needs_issued job n
  dropped_needs (op D N i f ps st is) = refl

  sweep_siblings : (bad : List G.Needs) (ks : List OpNumber) (is : Items G) → siblings job ks (tree.sweep G M bad is) ≡ siblings job ks is
  sweep_siblings bad ks no_item = refl
  sweep_siblings bad ks (said t is) = sweep_siblings bad ks is
  sweep_siblings bad [] (child_op n is) = chosen (tree.is_waiting G (tree.stage_of G n) && tree.meets_any G M bad (tree.needs_of G n))
    where
      chosen : (b : Bool) → siblings job [] (cond b (child_op (tree.as_dropped G M n) (tree.sweep G M (tree.needs_of G n ∷ bad) is)) (child_op n (tree.sweep G M (worse G M n bad) is))) ≡ []
      chosen true = refl
      chosen false = refl
  sweep_siblings bad (k ∷ ks) (child_op n is) =
      chosen (tree.is_waiting G (tree.stage_of G n) && tree.meets_any G M bad (tree.needs_of G n)) (sweep_siblings (tree.needs_of G n ∷ bad) ks is) (sweep_siblings (worse G M n bad) ks is)
    where
      chosen : (b : Bool) → siblings job ks (tree.sweep G M (tree.needs_of G n ∷ bad) is) ≡ siblings job ks is → siblings job ks (tree.sweep G M (worse G M n bad) is) ≡ siblings job ks is →
          siblings job (k ∷ ks) (cond b (child_op (tree.as_dropped G M n) (tree.sweep G M (tree.needs_of G n ∷ bad) is)) (child_op n (tree.sweep G M (worse G M n bad) is)))
          ≡ record { op = k.0; needs = needs_issued job n } ∷ siblings job ks is
      chosen true r q = λ i. record { op = k.0; needs = dropped_needs n i } ∷ r i
      chosen false r q = ap (λ y. record { op = k.0; needs = needs_issued job n } ∷ y) q

  up_siblings : (c : ℕ) (ks : List OpNumber) (is : Items G) → siblings job ks (up_among G M c [] is) ≡ siblings job ks is
  up_siblings c ks no_item = refl
  up_siblings c ks (said t is) = up_siblings c ks is
  up_siblings zero [] (child_op n is) = refl
  up_siblings (suc c) [] (child_op n is) = refl
  up_siblings zero (k ∷ ks) (child_op n is) = ap (λ D. record { op = k.0; needs = D } ∷ siblings job ks is) (settle_needs n)
  up_siblings (suc c) (k ∷ ks) (child_op n is) = ap (λ y. record { op = k.0; needs = needs_issued job n } ∷ y) (up_siblings c ks is)

  pub left_siblings : (c : ℕ) (ks : List OpNumber) (is : Items G) → siblings job ks (tree.sweep G M [] (up_among G M c [] is)) ≡ siblings job ks is
  left_siblings c ks is = sweep_siblings [] ks (up_among G M c [] is) ∙ up_siblings c ks is
