-- What the graph lists of an operation's children: with one more behind them, and where one of them covers what others need.
use Rattle.std.proofs.Common.{◌≡◌, ◌<◌, ◌≤◌, ◌⊎◌, ◌++◌, ◌∷◌, ◌∙◌, ◌==◌, ◌&&◌, ⊎_elim, inl, inr, ℕ, List, [], ap, arith, false, map, not, subst, sym, true}
use Rattle.std.specs.Prelude.{All, nat_lt}
use Rattle.std.specs.List.{Contains, list_any}
use Rattle.std.proofs.lemmas.Bool.{cases_lt, le-ltb}
use Rattle.std.proofs.lemmas.List.Elements.{All-contains_itself, All-head, All-tail, All-weaker, Contains-append_left, Contains-append_right}
use Rattle.region_tree.specs.Needs.{AreNeeds, requirements_of}
use Rattle.region_tree.specs.Requirements.{Requirement}
use Rattle.region_tree.specs.declared.needs.Need.{Need}
use Rattle.region_tree.specs.declared.tree.OpNumber.{OpNumber}
use Rattle.region_tree.specs.declared.tree.RootId.{RootId}
use Rattle.region_finder.specs.Listings.{Listed, PlacedNeed, all_uncovered, is_covered, needs_in}
use Rattle.dependence_graph.specs.Graphs.{Waits}
use Rattle.dependence_graph.specs.Knots.{number}
use Rattle.task_code.specs.declared.job.Job.{Job}
use Rattle.board_terms.specs.declared.operation.Operation.{Operation}
use Rattle.board_terms.specs.States.{State}
use Rattle.board_trees.specs.Names.{IsNaming, pointed, requirement_named}
use Rattle.board_trees.specs.Shows.{AreListed, IsListed, IsUpward, needs_listed}
use Rattle.board_trees.specs.Waits.{Sibling, has_ended, is_written_over, writes_over}
use Rattle.board_trees.proofs.Told.{and_off}
use Rattle.changed_trees.proofs.Contained.{contains_first}
use Rattle.changed_trees.proofs.Spared.{any_there, passing}
use Rattle.called_trees.proofs.Covered.{filter_alike, filter_all, filter_each, left_or_written, left_over, uncovered_else, uncovered_here, uncovered_there}

-- ---- one more behind them

module _ (job : Job) (s : State) (who : ℕ → ℕ) (roots wide : List RootId) (k n : ℕ) (Q : List Requirement) (entry : Listed) (rows : List Operation) (waits : Waits)
    (back : (name : ℕ → ℕ) → IsNaming s.roots who wide name → IsNaming s.roots who roots name)
    (required : (name : ℕ → ℕ) → IsNaming s.roots who wide name → pointed Q ≡ map (requirement_named name) (requirements_of s.tree entry.issued))
    (are : AreNeeds s.tree entry.issued) (all : needs_in entry ≡ entry.issued) (upward : All (IsUpward job s.tree) entry.needs) (there : Contains waits.listing entry) (op_is : entry.op ≡ number n) (context : entry.context ≡ number k)
    (others : (x : Listed) → Contains s.waits.listing x → Contains waits.listing x)
    (still : (j : ℕ) → j < n → has_ended waits.knots j ≡ has_ended s.waits.knots j) where
  abbrev u : State
  u = record s { operations = rows; waits = waits }

  abbrev new_one : Sibling
  new_one = record { op = n; needs = Q }

  -- it lists all that it needs
  required_all : (name : ℕ → ℕ) → IsNaming s.roots who wide name → pointed Q ≡ needs_listed job u who wide name entry
  required_all name z = required name z ∙ ap (λ ns. map (requirement_named name) (requirements_of s.tree ns)) (sym all)

  new_listed : IsListed job u who wide k n Q []
  new_listed = record {
    entry = entry;
    there = there;
    op_is = op_is;
    context = context;
    issued = required;
    placed = are;
    upward = upward;
    alike = λ name other z y. sym (required_all name z) ∙ required_all other y;
    own = λ name z. subst (All (Contains (pointed Q))) (required_all name z) (All-contains_itself (pointed Q));
    others = λ name z. All-weaker (Contains (pointed Q)) (λ (r : Requirement). Contains (needs_listed job u who wide name entry) r ⊎ (is_written_over [] r ≡ true))
        (λ r d. inl (subst (λ rs. Contains rs r) (required_all name z) d)) (pointed Q) (All-contains_itself (pointed Q));
  }

  later_writes : (ys : List Sibling) (r : Requirement) → is_written_over ys r ≡ true → is_written_over (ys ++ new_one ∷ []) r ≡ true
  later_writes ys r e =
      let y = passing (λ (y : Sibling). list_any (writes_over r) y.needs) ys e in
      any_there (λ (y : Sibling). list_any (writes_over r) y.needs) (ys ++ new_one ∷ []) y.one (Contains-append_left ys (new_one ∷ []) y.one y.there) y.passes

  one_listed : (y : Sibling) (ys : List Sibling) → IsListed job s who roots k y.op y.needs ys → IsListed job u who wide k y.op y.needs (ys ++ new_one ∷ [])
  one_listed y ys l = record {
    entry = l.entry;
    there = others l.entry l.there;
    op_is = l.op_is;
    context = l.context;
    issued = λ name z. l.issued name (back name z);
    placed = l.placed;
    upward = l.upward;
    alike = λ name other z y. l.alike name other (back name z) (back other y);
    own = λ name z. l.own name (back name z);
    others = λ name z. All-weaker
        (λ (r : Requirement). Contains (needs_listed job u who wide name l.entry) r ⊎ (is_written_over ys r ≡ true))
        (λ (r : Requirement). Contains (needs_listed job u who wide name l.entry) r ⊎ (is_written_over (ys ++ new_one ∷ []) r ≡ true))
        (λ r c. ⊎_elim (λ there. inl there) (λ e. inr (later_writes ys r e)) c) (pointed y.needs) (l.others name (back name z));
  }

  pub listed_behind : (ys : List Sibling) → All (λ (y : Sibling). y.op < n) ys → AreListed job s who roots k ys → AreListed job u who wide k (ys ++ new_one ∷ [])
  listed_behind [] below l = (λ z. new_listed, tt)
  listed_behind (y ∷ ys) below l =
      let before = All-head (λ (y : Sibling). y.op < n) y ys below in (
        λ z. one_listed y ys (l.0 (sym (still y.op before) ∙ z)),
        listed_behind ys (All-tail (λ (y : Sibling). y.op < n) y ys below) l.1,
      )

-- ---- one of them covers what earlier ones need

module _ (job : Job) (s : State) (who : ℕ → ℕ) (roots wide : List RootId) (k : ℕ) (x : Sibling) (needs : List Need)
    (back : (name : ℕ → ℕ) → IsNaming s.roots who wide name → IsNaming s.roots who roots name)
    (required : (name : ℕ → ℕ) → IsNaming s.roots who wide name → pointed x.needs ≡ map (requirement_named name) (requirements_of s.tree needs)) (are : AreNeeds s.tree needs) where
  abbrev pub covered : State
  covered = record s { waits = record { knots = s.waits.knots; listing = all_uncovered k x.op needs s.waits.listing } }

  kept_listed : (y : Sibling) (ys : List Sibling) → ¬ (y.op < x.op) → IsListed job s who roots k y.op y.needs ys → IsListed job covered who wide k y.op y.needs ys
  kept_listed y ys late l = record {
    entry = l.entry;
    there = subst (Contains covered.waits.listing)
        (uncovered_else k x.op needs l.entry (ap (λ q. (l.entry.context.0 == k) && q) (not_before (cases_lt l.entry.op.0 x.op)) ∙ and_off (l.entry.context.0 == k)))
        (uncovered_there k x.op needs s.waits.listing l.entry l.there);
    op_is = l.op_is;
    context = l.context;
    issued = λ name z. l.issued name (back name z);
    placed = l.placed;
    upward = l.upward;
    alike = λ name other z y. l.alike name other (back name z) (back other y);
    own = λ name z. l.own name (back name z);
    others = λ name z. l.others name (back name z);
  }
    where
      not_before : (l.entry.op.0 < x.op) ⊎ (x.op ≤ l.entry.op.0) → nat_lt l.entry.op.0 x.op ≡ false
      not_before (inl b) = absurd (late (subst (λ (o : OpNumber). o.0 < x.op) l.op_is b))
      not_before (inr b) = le-ltb l.entry.op.0 x.op b

  before_listed : (y : Sibling) (ys : List Sibling) → Contains ys x → y.op < x.op → IsListed job s who roots k y.op y.needs ys → IsListed job covered who wide k y.op y.needs ys
  before_listed y ys later before l = record {
    entry = left_over needs l.entry;
    there = subst (Contains covered.waits.listing)
        (uncovered_here k x.op needs l.entry (ap (λ (o : OpNumber). o.0) l.context) (omega (arith, before, ap (λ (o : OpNumber). o.0) l.op_is)))
        (uncovered_there k x.op needs s.waits.listing l.entry l.there);
    op_is = l.op_is;
    context = l.context;
    issued = λ name z. l.issued name (back name z);
    placed = l.placed;
    upward = filter_each (IsUpward job s.tree) (λ (m : PlacedNeed). not (is_covered needs m)) l.entry.needs l.upward;
    alike = λ name other z y. filter_alike s.tree name other (λ (m : PlacedNeed). not (is_covered needs m)) l.entry.needs (l.alike name other (back name z) (back other y));
    own = λ name z. filter_all s.tree name (λ (m : PlacedNeed). not (is_covered needs m)) (Contains (pointed y.needs)) l.entry.needs (l.own name (back name z));
    others = λ name z. left_or_written job s.tree needs are x name (required name z) l.entry.needs l.upward ys later (pointed y.needs) (l.others name (back name z));
  }

  all_kept : (ys : List Sibling) → All (λ (y : Sibling). ¬ (y.op < x.op)) ys → AreListed job s who roots k ys → AreListed job covered who wide k ys
  all_kept [] late l = tt
  all_kept (y ∷ ys) late l = (
    λ z. kept_listed y ys (All-head (λ (y : Sibling). ¬ (y.op < x.op)) y ys late) (l.0 z),
    all_kept ys (All-tail (λ (y : Sibling). ¬ (y.op < x.op)) y ys late) l.1,
  )

  pub covered_listed : (before after : List Sibling) → All (λ (y : Sibling). ¬ (y.op < x.op)) after → AreListed job s who roots k (before ++ x ∷ after) → AreListed job covered who wide k (before ++ x ∷ after)
  covered_listed [] after late l = (λ z. kept_listed x after (λ b. omega (arith, b)) (l.0 z), all_kept after late l.1)
  covered_listed (y ∷ ys) after late l = (
    λ z. by_place (cases_lt y.op x.op) (l.0 z),
    covered_listed ys after late l.1,
  )
    where
      by_place : (y.op < x.op) ⊎ (x.op ≤ y.op) → IsListed job s who roots k y.op y.needs (ys ++ x ∷ after) → IsListed job covered who wide k y.op y.needs (ys ++ x ∷ after)
      by_place (inl b) = before_listed y (ys ++ x ∷ after) (Contains-append_right ys (x ∷ after) x (contains_first x after)) b
      by_place (inr b) = kept_listed y (ys ++ x ∷ after) (λ c. omega (arith, b, c))
