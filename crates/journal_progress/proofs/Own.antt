-- Roots that an operation made: none needs them but those that it called, and those that they called.
use Rattle.std.proofs.Common.{◌≡◌, ◌++◌, ◌∷◌, ◌∙◌, ◌==◌, ◌&&◌, ◌||◌, ⊎_elim, ℕ, suc, List, [], ap, eqb-true, false, map, refl, subst, sym, true}
use Rattle.std.specs.Prelude.{All}
use Rattle.std.specs.List.{Contains, list_any}
use Rattle.std.proofs.lemmas.Bool.{cases_eq, false≢true, ne_eqb, or_cases}
use Rattle.std.proofs.lemmas.List.Elements.{All-cons, All-contains, All-head, All-nil, All-tail}
use Rattle.std.proofs.lemmas.List.Folds.{list_any-append}
use Rattle.lane_kernels.specs.Modes.{in_conflict}
use Rattle.plain_values.specs.Points.{meets}
use Rattle.region_finder.specs.Listings.{Listed}
use Rattle.region_tree.specs.Needs.{requirements_of}
use Rattle.region_tree.specs.Requirements.{Requirement, conflict, interfere}
use Rattle.region_tree.specs.declared.tree.RootId.{RootId}
use Rattle.task_code.specs.declared.job.Job.{Job}
use Rattle.board_rules.specs.Ground.{Ground}
use Rattle.board_rules.specs.NumberedBoards.{Board}
use Rattle.board_rules.specs.RootNumbers.{made_in}
use Rattle.regent_boards.specs.RegentMachine.{regent_ground}
use Rattle.code_boards.specs.Laws.{machine_of}
use Rattle.code_boards.specs.Views.{spaces_of}
use Rattle.board_terms.specs.Stages.{is_over, stage_at}
use Rattle.board_terms.specs.States.{State, operation_at}
use Rattle.board_trees.specs.Names.{IsNaming, pointed, requirement_named}
use Rattle.board_trees.specs.Shows.{ShowsBoard, needs_issued}
use Rattle.board_trees.proofs.Named.{one_there}
use Rattle.changed_trees.proofs.Interfere.{interfere_swap}
use Rattle.journal_progress.specs.Laws.{IsAbove, IsOfOwn, caller_up}
use Rattle.journal_progress.proofs.Callers.{IsOwned, WereMade}
use Rattle.journal_progress.proofs.Places.{Placed, entry_here, entry_of, still_listed}

-- ---- needs of other roots don't interfere

module _ (P Q : Requirement → Type 0) (differ : (a t : Requirement) → P a → Q t → a.root ≡ t.root → ⊥) where
  none_meets : (a : Requirement) (ts : List Requirement) → P a → All Q ts → list_any (conflict a) ts ≡ false
  none_meets a [] p h = refl
  none_meets a (t ∷ ts) p h = λ i. ap (λ b. b && (a.field == t.field) && in_conflict a.mode t.mode && meets a.points t.points)
      (ne_eqb a.root t.root (differ a t p (All-head Q t ts h))) i || none_meets a ts p (All-tail Q t ts h) i

  pub none_meet : (list ts : List Requirement) → All P list → All Q ts → interfere list ts ≡ false
  none_meet [] ts g h = refl
  none_meet (a ∷ list) ts g h = λ i. none_meets a ts (All-head P a list g) h i || none_meet list ts (All-tail P a list g) h i

pub more_apart : (ours more theirs : List Requirement) → interfere ours theirs ≡ false → interfere more theirs ≡ false → interfere (ours ++ more) theirs ≡ false
more_apart ours more theirs e f = list_any-append (λ a. list_any (conflict a) theirs) ours more ∙ (λ i. e i || f i)

-- ---- a root that is among some

pub found_root : (P : RootId → Type 0) (root : ℕ) (roots : List RootId) → list_any (λ (r : RootId). r.0 == root) roots ≡ true → All P roots → (r : RootId) × P r × (r.0 ≡ root)
found_root P root [] e h = absurd (false≢true e)
found_root P root (r ∷ roots) e h = ⊎_elim
    (λ q. (r, All-head P r roots h, eqb-true r.0 root q))
    (λ q. found_root P root roots q (All-tail P r roots h)) (or_cases (r.0 == root) (list_any (λ (r : RootId). r.0 == root) roots) e)

abbrev first_root : List Requirement → ℕ
first_root [] = 0
first_root (r ∷ rs) = r.root

abbrev behind_first : List Requirement → List Requirement
behind_first [] = []
behind_first (r ∷ rs) = rs

module _ (job : Job) (s : State) (b : Board (regent_ground (spaces_of job.code))) (h : ShowsBoard job s b) where
  abbrev G : Ground
  G = regent_ground (spaces_of job.code)

  -- needs that have one name by all namings of some roots are of these roots
  module _ (roots : List RootId) (made : WereMade job s h.who b.ways roots) where
    abbrev IsThere : Requirement → Type 0
    IsThere t = list_any (λ (r : RootId). r.0 == t.root) roots ≡ true

    all_there : (ds ts : List Requirement) → ((to : ℕ → ℕ) → IsNaming s.roots h.who roots to → ds ≡ map (requirement_named to) ts) → All IsThere ts
    all_there ds [] e = All-nil IsThere
    all_there ds (t ∷ ts) e = All-cons IsThere t ts
        (one_there s.roots h.who (made_in G (machine_of job) b.state.tree) h.made t.root (first_root ds) roots made (λ to is. sym (ap first_root (e to is))))
        (all_there (behind_first ds) ts (λ to is. ap behind_first (e to is)))

  -- what an operation was issued with is of roots that were made above it
  abbrev IsAboveOf : ℕ → Requirement → Type 0
  IsAboveOf k t = (r : RootId) × IsOwned job s h.who b.ways k r × (r.0 ≡ t.root)

  pub needs_above : (x : Listed) → Contains s.waits.listing x → is_over (stage_at s x.op.0) ≡ false → (g : Placed job s b h x.op.0) → ¬ (x.op.0 ≡ 0) →
      All (IsAboveOf x.op.0) (requirements_of s.tree x.issued)
  needs_above x c e g called = ⊎_elim (λ q. absurd (called q)) (λ q. weaker (requirements_of s.tree x.issued)
      (subst (λ (y : Listed). All (IsThere g.there.above g.there.made) (requirements_of s.tree y.issued)) (entry_here job s b h x c q.0 g.there.above g.there.node q.1 q.2)
      (all_there g.there.above g.there.made (pointed (needs_issued job g.there.node)) (requirements_of s.tree q.2.entry.issued) q.2.issued)))
      (entry_of job s b h x.op.0 (still_listed job s b h x.op.0 e) g)
    where
      weaker : (ts : List Requirement) → All (IsThere g.there.above g.there.made) ts → All (IsAboveOf x.op.0) ts
      weaker [] t = All-nil (IsAboveOf x.op.0)
      weaker (r ∷ ts) t = All-cons (IsAboveOf x.op.0) r ts
          (found_root (IsOwned job s h.who b.ways x.op.0) r.root g.there.above (All-head (IsThere g.there.above g.there.made) r ts t) g.there.owned)
          (weaker ts (All-tail (IsThere g.there.above g.there.made) r ts t))

  -- ---- roots are one operation's own

  pub owner : (j k : ℕ) (r q : RootId) → Contains (operation_at s j).frame.own r → Contains (operation_at s k).frame.own q → r.0 ≡ q.0 → j ≡ k
  owner j k r q c d e = ⊎_elim (λ same. same) (λ other.
      let all = All-contains (λ (o : RootId). All (λ (p : RootId). ¬ (o ≡ p)) (operation_at s k).frame.own) (operation_at s j).frame.own r (h.own_apart j k other) c in
      absurd (All-contains (λ (p : RootId). ¬ (r ≡ p)) (operation_at s k).frame.own q all d (λ i. record { 0 = e i }))) (cases_eq j k)

  own_apart : (j k : ℕ) → ¬ IsAbove s j k → (a t : Requirement) → IsOfOwn s j a → IsAboveOf k t → a.root ≡ t.root → ⊥
  own_apart j k below a t (r, c, e) (q, d, f) same =
      below (suc d.0, sym (owner j (caller_up s (suc d.0) k) r q c d.1 (sym e ∙ same ∙ sym f)))

  both_own : (j k : ℕ) → ¬ IsAbove s j k → (a t : Requirement) → IsOfOwn s j a → IsOfOwn s k t → a.root ≡ t.root → ⊥
  both_own j k below a t (r, c, e) (q, d, f) same = below (0, sym (owner j k r q c d (sym e ∙ same ∙ f)))

  module _ (x y : Listed) (xy : ¬ IsAbove s x.op.0 y.op.0) (yx : ¬ IsAbove s y.op.0 x.op.0)
      (above_x : All (IsAboveOf x.op.0) (requirements_of s.tree x.issued)) (above_y : All (IsAboveOf y.op.0) (requirements_of s.tree y.issued))
      (apart : interfere (requirements_of s.tree x.issued) (requirements_of s.tree y.issued) ≡ false)
      (first second : List Requirement) (of_first : All (IsOfOwn s x.op.0) first) (of_second : All (IsOfOwn s y.op.0) second) where
    abbrev R : List Requirement
    R = requirements_of s.tree x.issued

    abbrev S : List Requirement
    S = requirements_of s.tree y.issued

    pub with_own_apart : interfere (R ++ first) (S ++ second) ≡ false
    with_own_apart = more_apart R first (S ++ second)
        (interfere_swap R (S ++ second) ∙ more_apart S second R (interfere_swap S R ∙ apart)
        (none_meet (IsOfOwn s y.op.0) (IsAboveOf x.op.0) (own_apart y.op.0 x.op.0 yx) second R of_second above_x))
        (interfere_swap first (S ++ second) ∙ more_apart S second first
        (interfere_swap S first ∙ none_meet (IsOfOwn s x.op.0) (IsAboveOf y.op.0) (own_apart x.op.0 y.op.0 xy) first S of_first above_y)
        (none_meet (IsOfOwn s y.op.0) (IsOfOwn s x.op.0) (both_own y.op.0 x.op.0 yx) second first of_second of_first))
