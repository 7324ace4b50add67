-- A child that is issued is dropped at once where a sibling that it would wait for has failed; so is it when all is swept.
use Rattle.std.proofs.Common.{◌≡◌, ◌++◌, ◌∷◌, ◌∙◌, ℕ, suc, Bool, List, [], ap, append-nil, append_assoc, cond, false, refl, subst, sym, true}
use Rattle.region_tree.specs.Requirements.{Requirement}
use Rattle.region_tree.specs.declared.tree.OpNumber.{OpNumber}
use Rattle.region_tree.specs.declared.tree.RootId.{RootId}
use Rattle.task_code.specs.declared.job.Job.{Job}
use Rattle.board_rules.specs.Boards.{◌+++◌, Items, child_op, no_item, said}
use Rattle.board_rules.specs.Boards as tree
use Rattle.board_rules.specs.Ground.{Ground}
use Rattle.board_rules.specs.Running.{Machine}
use Rattle.regent_boards.specs.RegentMachine.{regent_ground}
use Rattle.code_boards.specs.Laws.{machine_of}
use Rattle.code_boards.specs.Views.{spaces_of}
use Rattle.board_terms.specs.States.{State}
use Rattle.board_trees.specs.Shows.{ShowsChildren, needs_issued, siblings}
use Rattle.board_trees.specs.Told.{AreOrdered, some_bad}
use Rattle.board_trees.specs.Waits.{Sibling}
use Rattle.board_trees.proofs.Ordered.{node_ordered}
use Rattle.board_trees.proofs.Settled.{node_told, swept_child, unmet, worse, worse_tells}
use Rattle.called_trees.proofs.Calling.{NewCall, needs_of, node_of}

module _ (job : Job) (s : State) (who : ℕ → ℕ) (ways : List (List ℕ)) (makings : ℕ) where
  abbrev G : Ground
  G = regent_ground (spaces_of job.code)

  abbrev M : Machine G
  M = machine_of job makings

  abbrev Tells : List (List Requirement) → List Sibling → Type 0
  Tells bad earlier = (Q : List Requirement) → tree.meets_any G M bad Q ≡ some_bad s.waits.knots Q earlier

  -- what shows stays when it is swept, and what comes behind it is swept by those that failed
  swept_behind : (bad : List (List Requirement)) (way : List ℕ) (j c : ℕ) (earlier : List Sibling) (roots : List RootId) (ks : List OpNumber) (is : Items G) →
      ShowsChildren job s who ways way j c earlier roots ks is → AreOrdered s.waits.knots earlier → Tells bad earlier → (xs ys : Items G) →
      ((worse : List (List Requirement)) → Tells worse (earlier ++ siblings job ks is) → tree.sweep G M worse xs ≡ tree.sweep G M worse ys) →
      tree.sweep G M bad (◌+++◌ G is xs) ≡ tree.sweep G M bad (◌+++◌ G is ys)
  swept_behind bad way j c earlier roots ks no_item h o tells xs ys same = same bad (subst (Tells bad) (sym (append-nil earlier)) tells)
  swept_behind bad way j c earlier roots ks (said u is) h o tells xs ys same = ap (λ y. said u y) (swept_behind bad way j c earlier roots ks is h o tells xs ys same)
  swept_behind bad way j c earlier roots [] (child_op n is) h o tells xs ys same = absurd h
  swept_behind bad way j c earlier roots (k ∷ ks) (child_op n is) h o tells xs ys same =
      let one : Sibling = record { op = k.0; needs = needs_issued job n } in
      let stays = unmet job s who ways makings bad (way ++ c ∷ []) k.0 earlier roots n h.1 o tells in
      swept_child job s who ways makings bad n (◌+++◌ G is xs) _ stays refl
      ∙ ap (λ y. child_op n y) (swept_behind (worse job s who ways makings n bad) way j (suc c) (earlier ++ one ∷ []) roots ks is h.2
      (node_ordered job s who ways (way ++ c ∷ []) k.0 earlier roots n h.1 o)
      (λ Q. worse_tells job s who ways makings bad earlier k.0 n (node_told job s who ways (way ++ c ∷ []) k.0 earlier roots n h.1) Q (tells Q)) xs ys
      (λ worse t. same worse (subst (Tells worse) (append_assoc earlier (one ∷ []) (siblings job ks is)) t)))
      ∙ sym (swept_child job s who ways makings bad n (◌+++◌ G is ys) _ stays refl)

  -- one that waits is dropped, and then stays so
  one_swept : (name : ℕ → ℕ) (depth : ℕ) (c : NewCall) (bad : List (List Requirement)) (q : Bool) → tree.meets_any G M bad (needs_of job name c) ≡ q → (rest : Items G) →
      tree.sweep G M bad (child_op (node_of job name depth false c) rest) ≡ tree.sweep G M bad (child_op (node_of job name depth q c) rest)
  one_swept name depth c bad true e rest = ap (λ b. cond b
      (child_op (tree.as_dropped G M (node_of job name depth false c)) (tree.sweep G M (needs_of job name c ∷ bad) rest))
      (child_op (node_of job name depth false c) (tree.sweep G M bad rest))) e
  one_swept name depth c bad false e rest = refl

  pub child_swept : (name : ℕ → ℕ) (depth : ℕ) (c : NewCall) (way : List ℕ) (j : ℕ) (roots : List RootId) (ks : List OpNumber) (is : Items G) →
      ShowsChildren job s who ways way j 0 [] roots ks is → (q : Bool) → q ≡ some_bad s.waits.knots (needs_of job name c) (siblings job ks is) → (rest : Items G) →
      tree.sweep G M [] (◌+++◌ G is (child_op (node_of job name depth false c) rest)) ≡ tree.sweep G M [] (◌+++◌ G is (child_op (node_of job name depth q c) rest))
  child_swept name depth c way j roots ks is h q e rest =
      swept_behind [] way j 0 [] roots ks is h tt (λ Q. refl) (child_op (node_of job name depth false c) rest) (child_op (node_of job name depth q c) rest)
      (λ bad t. one_swept name depth c bad q (t (needs_of job name c) ∙ sym e) rest)
