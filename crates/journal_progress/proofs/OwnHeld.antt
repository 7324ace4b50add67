-- What an operation holds is of roots that it made, or that were made before it was issued.
use Rattle.std.proofs.Common.{◌≡◌, ◌<◌, ◌≤◌, ◌+◌, ◌-◌, ◌++◌, ◌∷◌, ◌∙◌, ⊎_elim, ℕ, suc, List, None, Option, Some, [], ap, arith, false, length, map, refl, set, subst, sym, true}
use Rattle.std.specs.Prelude.{All, get_or}
use Rattle.std.specs.List.{Contains}
use Rattle.std.proofs.lemmas.Bool.{cases_lt, false≢true}
use Rattle.std.proofs.lemmas.List.{get_or_past, map-append}
use Rattle.std.proofs.lemmas.List.Elements.{All-append, All-cons, All-contains_itself, All-nil, All-weaker}
use Rattle.region_tree.specs.Requirements.{Requirement}
use Rattle.region_tree.specs.declared.piece.Part.{Part}
use Rattle.region_tree.specs.declared.tree.OpNumber.{OpNumber}
use Rattle.region_tree.specs.declared.tree.RootId.{RootId}
use Rattle.logical_map.specs.Fills.{Filling}
use Rattle.dependence_graph.specs.Knots.{number}
use Rattle.task_code.specs.declared.job.Job.{Job}
use Rattle.machine_terms.specs.declared.frame.Before.{Before}
use Rattle.machine_terms.specs.Segments.{segment}
use Rattle.machine_terms.proofs.Kept.{stop_fixed}
use Rattle.machine_terms.proofs.KeptParts.{bare}
use Rattle.board_rules.specs.Boards.{Operation as Node, Wait as BoardWait, child, closing, dropped, filling, first, idle, nothing, op, out, over, part}
use Rattle.board_rules.specs.Ground.{Ground}
use Rattle.board_rules.specs.NumberedBoards.{Board}
use Rattle.board_rules.specs.RootNumbers.{made_in}
use Rattle.board_rules.specs.Running.{Element, Spot}
use Rattle.regent_boards.specs.RegentMachine.{regent_ground}
use Rattle.code_boards.specs.Laws.{machine_of}
use Rattle.code_boards.specs.Views.{spaces_of}
use Rattle.segment_renaming.specs.Renaming.{part_to}
use Rattle.board_terms.specs.declared.operation.Activity.{Activity}
use Rattle.board_terms.specs.declared.operation.Operation.{Operation}
use Rattle.board_terms.specs.Claims.{filled_parts}
use Rattle.board_terms.specs.Stages.{stage_at, stage_of}
use Rattle.board_terms.specs.States.{State, called_by, no_operation, operation_at}
use Rattle.board_trees.specs.Names.{IsNaming, named}
use Rattle.board_trees.specs.Shows.{Shows, ShowsBoard}
use Rattle.board_trees.specs.Stages.{Fills}
use Rattle.board_trees.proofs.Kept.{by_number}
use Rattle.board_trees.proofs.Named.{one_there}
use Rattle.changed_trees.proofs.Contained.{none_in}
use Rattle.journal_progress.specs.Laws.{caller_up, is_working}
use Rattle.journal_progress.specs.Parts.{parts_held, parts_with}
use Rattle.journal_progress.proofs.Callers.{IsOwned, WereMade}
use Rattle.journal_progress.proofs.Frames.{Leaves}
use Rattle.journal_progress.proofs.Grown.{new_there, now_there, other_there}
use Rattle.journal_progress.proofs.Kept.{called_childless}
use Rattle.journal_progress.proofs.Own.{found_root}
use Rattle.journal_progress.proofs.Places.{Placed, placed}
use Rattle.journal_progress.proofs.Stepped.{Stepped}

abbrev pub roots_in : List Part → List RootId
roots_in qs = map (λ (q : Part). q.root) qs

-- a root that the operation made, or one that was issued before it
abbrev pub IsFromAbove : State → ℕ → RootId → Type 0
IsFromAbove s k r = (a : ℕ) × (a ≤ k) × Contains (operation_at s a).frame.own r

-- of those roots are the parts of one that has children
abbrev pub HoldsFromAbove : State → ℕ → Type 0
HoldsFromAbove s k = (o : OpNumber) → Contains (operation_at s k).children o → All (IsFromAbove s k) (roots_in (parts_held (operation_at s k)))

abbrev pub AllFromAbove : State → Type 0
AllFromAbove s = (k : ℕ) → HoldsFromAbove s k

-- ---- a segment leaves parts of the roots that it was given

bare_roots : (qs : List Part) → roots_in (bare qs) ≡ roots_in qs
bare_roots [] = refl
bare_roots (q ∷ qs) = ap (λ rs. q.root ∷ rs) (bare_roots qs)

pub segment_roots : (b : Before) → roots_in (segment b).parts ≡ roots_in b.parts
segment_roots b = sym (bare_roots (segment b).parts) ∙ ap roots_in (stop_fixed b).parts ∙ bare_roots b.parts

abbrev first_part : List Part → ℕ
first_part [] = 0
first_part (q ∷ qs) = q.root.0

abbrev behind_first : List Part → List Part
behind_first [] = []
behind_first (q ∷ qs) = qs

-- ---- one whose own work goes on, by the tree

module _ (job : Job) (s : State) (b : Board (regent_ground (spaces_of job.code))) (h : ShowsBoard job s b) (k : ℕ) (within : k < length s.operations) (works : is_working (stage_at s k) ≡ true) where
  abbrev G : Ground
  G = regent_ground (spaces_of job.code)

  abbrev g : Placed job s b h k
  g = placed job s b h k within

  abbrev roots : List RootId
  roots = g.there.above ++ (operation_at s k).frame.own

  made : WereMade job s h.who b.ways roots
  made = All-append (λ (r : RootId). r.0 < length s.roots) g.there.above (operation_at s k).frame.own g.there.made (h.own_made k)

  all_from_above : All (IsFromAbove s k) roots
  all_from_above = All-append (IsFromAbove s k) g.there.above (operation_at s k).frame.own
      (All-weaker (IsOwned job s h.who b.ways k) (IsFromAbove s k) (λ r q. let less = q.2 in (caller_up s (suc q.0) k, omega (arith, less), q.1)) g.there.above g.there.owned)
      (All-weaker (Contains (operation_at s k).frame.own) (IsFromAbove s k) (λ r c. (k, omega arith, c)) (operation_at s k).frame.own (All-contains_itself (operation_at s k).frame.own))

  from_above : (root : RootId) (R : ℕ) → ((to : ℕ → ℕ) → IsNaming s.roots h.who roots to → to root.0 ≡ R) → IsFromAbove s k root
  from_above root R says =
      let f = found_root (IsFromAbove s k) root.0 roots (one_there s.roots h.who (made_in G (machine_of job) b.state.tree) h.made root.0 R roots made says) all_from_above in
      subst (IsFromAbove s k) (λ i. record { 0 = f.2 i }) f.1

  parts_from : (ds qs : List Part) → ((to : ℕ → ℕ) → IsNaming s.roots h.who roots to → ds ≡ map (part_to (named to)) qs) → All (IsFromAbove s k) (roots_in qs)
  parts_from ds [] e = All-nil (IsFromAbove s k)
  parts_from ds (q ∷ qs) e = All-cons (IsFromAbove s k) q.root (roots_in qs) (from_above q.root (first_part ds) (λ to is. sym (ap first_part (e to is))))
      (parts_from (behind_first ds) qs (λ to is. ap behind_first (e to is)))

  fill_from : (N : List Requirement) (w : BoardWait G) (o : Option Filling) (d : List (Element G)) (l : List (Spot G)) → Fills job.code s.roots h.who roots N w o d l → All (IsFromAbove s k) (roots_in (filled_parts o))
  fill_from N (part key) (Some f) d l is = All-cons (IsFromAbove s k) (record { 0 = f.root }) [] (from_above (record { 0 = f.root }) key.root is.key.1) (All-nil (IsFromAbove s k))
  fill_from N (part key) None d l is = absurd is
  fill_from N w None d l is = All-nil (IsFromAbove s k)
  fill_from N first (Some f) d l is = absurd is
  fill_from N nothing (Some f) d l is = absurd is
  fill_from N (child c) (Some f) d l is = absurd is

  abbrev GoalBy : Activity → Type 0
  GoalBy a = All (IsFromAbove s k) (roots_in (parts_with (operation_at s k).parts a))

  both_from : (qs rs : List Part) → All (IsFromAbove s k) (roots_in qs) → All (IsFromAbove s k) (roots_in rs) → All (IsFromAbove s k) (roots_in (qs ++ rs))
  both_from qs rs f r = subst (All (IsFromAbove s k)) (sym (map-append (λ (q : Part). q.root) qs rs)) (All-append (IsFromAbove s k) (roots_in qs) (roots_in rs) f r)

  stopped_by : {A : Type 0} → is_working (stage_at s k) ≡ false → A
  stopped_by e = absurd (false≢true (sym e ∙ works))

  by_node : (n : Node G) → Shows job s h.who b.ways g.there.at k g.there.earlier g.there.above n → GoalBy (operation_at s k).activity
  by_node (op D N i f ps (idle w) is) r = subst GoalBy (sym r.0.stands.1.0) (parts_from _ (operation_at s k).parts r.0.seen.parts)
  by_node (op D N i f ps (filling w d l) is) r = subst GoalBy (sym r.0.stands.1.activity_is)
      (both_from (operation_at s k).parts (filled_parts r.0.stands.1.fill) (parts_from _ (operation_at s k).parts r.0.seen.parts) (fill_from N w r.0.stands.1.fill d l r.0.stands.1.fills))
  by_node (op D N i f ps (out w d) is) r = subst GoalBy (sym r.0.stands.1.activity_is)
      (both_from (operation_at s k).parts (filled_parts r.0.stands.1.fill) (parts_from _ (operation_at s k).parts r.0.seen.parts) (fill_from N w r.0.stands.1.fill d [] r.0.stands.1.fills))
  by_node (op D N i f ps (closing e) is) r = stopped_by (⊎_elim (λ c i. is_working (stage_of (c.0 i) (operation_at s k).wait (c.1.activity_is i)))
      (λ c i. is_working (stage_of (c.0 i) (operation_at s k).wait (operation_at s k).activity)) r.0.stands)
  by_node (op D N i f ps (over e) is) r = stopped_by (⊎_elim (λ c i. is_working (stage_of (c.0 i) (operation_at s k).wait (operation_at s k).activity))
      (λ c i. is_working (stage_of (c.0 i) (operation_at s k).wait (operation_at s k).activity)) r.0.stands)
  by_node (op D N i f ps dropped is) r = stopped_by (λ i. is_working (stage_of (r.0.stands.0 i) (operation_at s k).wait (operation_at s k).activity))

  pub open_from_above : HoldsFromAbove s k
  open_from_above o c = by_node g.there.node g.there.shows

-- ---- step by step

module _ (job : Job) (s : State) (b : Board (regent_ground (spaces_of job.code))) (h : ShowsBoard job s b) (k : ℕ) (all : AllFromAbove s) (u : State) (step : Stepped job s b h k u) where
  abbrev leaves : Leaves job s k step.within u
  leaves = step.leaves

  abbrev more : List Operation
  more = map (called_by (number k)) leaves.calls

  at : (j : ℕ) → operation_at u j ≡ get_or (set s.operations k leaves.now ++ more) j no_operation
  at j = ap (λ os. get_or os j no_operation) leaves.operations

  same : (j : ℕ) → ¬ (j ≡ k) → j < length s.operations → operation_at u j ≡ operation_at s j
  same j d l = at j ∙ other_there s.operations k leaves.now more j d l

  -- roots stay those of who made them
  own_stay : (a : ℕ) (r : RootId) → Contains (operation_at s a).frame.own r → Contains (operation_at u a).frame.own r
  own_stay = by_number k (λ a. (r : RootId) → Contains (operation_at s a).frame.own r → Contains (operation_at u a).frame.own r)
      (λ r c. subst (λ (n : Operation). Contains n.frame.own r) (sym (at k ∙ now_there s.operations k leaves.now more step.within)) (leaves.own r c))
      (λ a d r c. ⊎_elim (λ l. subst (λ (n : Operation). Contains n.frame.own r) (sym (same a d l)) c)
      (λ l. absurd (none_in r (subst (λ (n : Operation). Contains n.frame.own r) (get_or_past s.operations a no_operation l) c))) (cases_lt a (length s.operations)))

  pub still_above : (j : ℕ) (rs : List RootId) → All (IsFromAbove s j) rs → All (IsFromAbove u j) rs
  still_above j rs f = All-weaker (IsFromAbove s j) (IsFromAbove u j) (λ r q. (q.0, q.1, own_stay q.0 r q.2)) rs f

  others_from : (j : ℕ) → ¬ (j ≡ k) → HoldsFromAbove u j
  others_from j d o c = ⊎_elim
      (λ l. let e = same j d l in
      subst (λ (n : Operation). All (IsFromAbove u j) (roots_in (parts_held n))) (sym e)
      (still_above j (roots_in (parts_held (operation_at s j))) (all j o (subst (λ (n : Operation). Contains n.children o) e c))))
      (λ l. absurd (none_in o (subst (λ ks. Contains ks o) (childless l) c))) (cases_lt j (length s.operations))
    where
      childless : length s.operations ≤ j → (operation_at u j).children ≡ []
      childless l =
          let i = j - length s.operations in
          let sum : length s.operations + i ≡ j = omega (arith, l) in
          ap (λ (n : Operation). n.children) (at j ∙ ap (λ m. get_or (set s.operations k leaves.now ++ more) m no_operation) (sym sum) ∙ new_there s.operations k leaves.now more i)
          ∙ called_childless (number k) leaves.calls i

  pub with_own : HoldsFromAbove u k → AllFromAbove u
  with_own own = by_number k (HoldsFromAbove u) own others_from
