-- Items with more behind them: what they say, and that they show.
use Rattle.std.proofs.Common.{◌≡◌, ◌+◌, ◌++◌, ◌∷◌, ◌∙◌, ℕ, suc, List, [], ap, append_assoc, append-nil, arith, map, refl, subst, sym}
use Rattle.region_finder.specs.Listings.{PlacedNeed, placed}
use Rattle.region_tree.specs.Trees.{RegionTree}
use Rattle.region_tree.specs.declared.needs.Need.{Need}
use Rattle.region_tree.specs.declared.tree.OpNumber.{OpNumber}
use Rattle.region_tree.specs.declared.tree.RootId.{RootId}
use Rattle.task_code.specs.declared.job.Job.{Job}
use Rattle.board_rules.specs.Boards.{◌+++◌, Items, child_count, child_op, no_item, said}
use Rattle.board_rules.specs.Ground.{Ground}
use Rattle.regent_boards.specs.RegentMachine.{regent_ground}
use Rattle.code_boards.specs.Views.{spaces_of}
use Rattle.board_terms.specs.declared.operation.Said.{Said}
use Rattle.board_terms.specs.States.{State}
use Rattle.board_trees.specs.Shows.{ShowsChildren, needs_issued, printed, said_in, siblings}
use Rattle.board_trees.specs.Waits.{Sibling}
use Rattle.changed_trees.proofs.Kept.{Matches}

-- a listed need is the need
pub need_listed : (t : RegionTree) (ns : List Need) → map (λ (n : PlacedNeed). n.need) (map (placed t) ns) ≡ ns
need_listed t [] = refl
need_listed t (n ∷ ns) = ap (λ xs. n ∷ xs) (need_listed t ns)

module _ (job : Job) where
  abbrev G : Ground
  G = regent_ground (spaces_of job.code)

  printed_more : (c : ℕ) (t : List ℕ) (ps qs : List Said) → printed job c t (ps ++ qs) ≡ printed job c t ps ++ qs
  printed_more c [] ps qs = refl
  printed_more c (x ∷ xs) ps qs = refl

  pub said_more : (c : ℕ) (is js : Items G) → said_in job c (◌+++◌ G is js) ≡ said_in job c is ++ said_in job (c + child_count G is) js
  said_more c no_item js = ap (λ n. said_in job n js) (omega arith)
  said_more c (said t is) js = ap (printed job c t) (said_more c is js) ∙ printed_more c t (said_in job c is) (said_in job (c + child_count G is) js)
  said_more c (child_op n is) js =
      let e : suc c + child_count G is ≡ c + suc (child_count G is) = omega arith in
      said_more (suc c) is js ∙ ap (λ n. said_in job (suc c) is ++ said_in job n js) e

  pub count_more : (is js : Items G) → child_count G (◌+++◌ G is js) ≡ child_count G is + child_count G js
  count_more no_item js = omega arith
  count_more (said t is) js = count_more is js
  count_more (child_op n is) js = let e = count_more is js in omega (arith, e)

  pub siblings_more : (ks more : List OpNumber) (is js : Items G) → Matches job ks is → siblings job (ks ++ more) (◌+++◌ G is js) ≡ siblings job ks is ++ siblings job more js
  siblings_more ks more no_item js h = ap (λ ks. siblings job (ks ++ more) js) h
  siblings_more ks more (said t is) js h = siblings_more ks more is js h
  siblings_more [] more (child_op n is) js h = absurd h
  siblings_more (k ∷ ks) more (child_op n is) js h = ap (λ xs. record { op = k.0; needs = needs_issued job n } ∷ xs) (siblings_more ks more is js h)

  module _ (s : State) (who : ℕ → ℕ) (ways : List (List ℕ)) where
    pub shows_more : (way : List ℕ) (j c : ℕ) (earlier : List Sibling) (roots : List RootId) (ks more : List OpNumber) (is js : Items G) →
        ShowsChildren job s who ways way j c earlier roots ks is →
        ShowsChildren job s who ways way j (c + child_count G is) (earlier ++ siblings job ks is) roots more js →
        ShowsChildren job s who ways way j c earlier roots (ks ++ more) (◌+++◌ G is js)
    shows_more way j c earlier roots ks more no_item js h g =
        let e : c + 0 ≡ c = omega arith in
        subst (λ ks. ShowsChildren job s who ways way j c earlier roots (ks ++ more) js) (sym h)
        (subst (λ n. ShowsChildren job s who ways way j n earlier roots more js) e
        (subst (λ xs. ShowsChildren job s who ways way j (c + 0) xs roots more js) (append-nil earlier) g))
    shows_more way j c earlier roots ks more (said t is) js h g = shows_more way j c earlier roots ks more is js h g
    shows_more way j c earlier roots [] more (child_op n is) js h g = absurd h
    shows_more way j c earlier roots (k ∷ ks) more (child_op n is) js h g =
        let one : Sibling = record { op = k.0; needs = needs_issued job n } in
        let e : c + suc (child_count G is) ≡ suc c + child_count G is = omega arith in (
          h.0,
          h.1,
          shows_more way j (suc c) (earlier ++ one ∷ []) roots ks more is js h.2
              (subst (λ n. ShowsChildren job s who ways way j n ((earlier ++ one ∷ []) ++ siblings job ks is) roots more js) e
              (subst (λ xs. ShowsChildren job s who ways way j (c + suc (child_count G is)) xs roots more js) (sym (append_assoc earlier (one ∷ []) (siblings job ks is))) g)),
        )
