-- What was moved for an operation that is being filled, of a state that shows a board of the laws: it is what would be moved now.
use Rattle.std.proofs.Common.{◌≡◌, ◌<◌, ◌-◌, ◌++◌, ◌∷◌, ◌∙◌, ⊎_elim, ℕ, zero, suc, ℤ, List, Option, Some, [], ap, arith, length, map, refl, subst, sym}
use Rattle.std.specs.Prelude.{All, drop, get_or, take}
use Rattle.std.proofs.lemmas.List.Elements.{All-append, All-cons, All-head, All-nil, All-tail}
use Rattle.lane_kernels.specs.declared.numbers.Mode.{Mode as FieldMode}
use Rattle.region_tree.specs.Pieces.{Held}
use Rattle.region_tree.specs.Requirements.{Requirement}
use Rattle.region_tree.specs.declared.tree.RootId.{RootId}
use Rattle.logical_map.specs.Fills.{Filling, moved_beside, moved_pieces, number_for}
use Rattle.logical_map.specs.Maps.{Column, column_of}
use Rattle.task_code.specs.declared.job.Job.{Job}
use Rattle.board_rules.specs.Apart.{find}
use Rattle.board_rules.specs.Boards.{Ending as BoardEnding, Items, Operation as Node, Wait as BoardWait, at_fault, by, child, closing, dropped, filling, first, idle, nothing, op, out, over, part, stopped}
use Rattle.board_rules.specs.Ground.{Ground}
use Rattle.board_rules.specs.NumberedBoards.{Board}
use Rattle.board_rules.specs.Processes.{Map}
use Rattle.board_rules.specs.RootNumbers.{made_in}
use Rattle.board_rules.specs.Running.{Element, Machine, Spot, filled, number_of, spots}
use Rattle.progress_laws.specs.Progress.{FilledIsMap}
use Rattle.regent_boards.specs.Frames as board
use Rattle.regent_boards.specs.RegentMachine.{as_held, regent_ground}
use Rattle.code_boards.specs.Laws.{machine_of}
use Rattle.code_boards.specs.Pieces.{all_elements, elements}
use Rattle.code_boards.specs.Views.{spaces_of}
use Rattle.board_terms.specs.declared.claim.Claim.{Claim}
use Rattle.board_terms.specs.declared.operation.Activity.{Activity}
use Rattle.board_terms.specs.declared.operation.Activity.TheVariants as activity
use Rattle.board_terms.specs.declared.operation.Ending.TheVariants as ending
use Rattle.board_terms.specs.States.{State, operation_at}
use Rattle.board_trees.specs.Shows.{Shows, ShowsBoard}
use Rattle.board_trees.specs.Stages.{Fills, HasFailed, HasValue, MayFail, WasStopped}
use Rattle.claimed_trees.proofs.Back.{IsClaimed, claimed_within}
use Rattle.claimed_trees.proofs.Copy.{fills_needed}
use Rattle.claimed_trees.proofs.Moved.{elements_length, outline}
use Rattle.claimed_trees.proofs.Wanted.{number_is, parts_below, size}
use Rattle.journal_progress.proofs.Callers.{WereMade}
use Rattle.journal_progress.proofs.Places.{Placed, placed}

module _ (job : Job) where
  abbrev G : Ground
  G = regent_ground (spaces_of job.code)

  -- ---- elements that are as they would be filled

  module _ (M : Machine G) (m : Map G) where
    -- so are the first so many of these
    abbrev AreFilled : ℕ → List (Element G) → Type 0
    AreFilled zero xs = Unit {0}
    AreFilled (suc n) [] = Unit {0}
    AreFilled (suc n) (x ∷ xs) = (number_of G M x.mode x.location m ≡ x.number) × AreFilled n xs

    taken_filled : (n : ℕ) (xs : List (Element G)) → filled G M (spots G (take n xs)) m ≡ take n xs → AreFilled n xs
    taken_filled zero xs e = tt
    taken_filled (suc n) [] e = tt
    taken_filled (suc n) (x ∷ xs) e = (ap (λ (ys : List (Element G)). (get_or ys 0 x).number) e, taken_filled n xs (ap (drop 1) e))

    filled_both : (n : ℕ) (xs ys : List (Element G)) → AreFilled n (xs ++ ys) → AreFilled n xs × AreFilled (n - length xs) ys
    filled_both zero xs ys h = (tt, subst (λ k. AreFilled k ys) (let same : 0 ≡ 0 - length xs = omega arith in same) tt)
    filled_both (suc n) [] ys h = (tt, subst (λ k. AreFilled k ys) (let same : suc n ≡ suc n - 0 = omega arith in same) h)
    filled_both (suc n) (x ∷ xs) ys h = let rest = filled_both n xs ys h.1 in ((h.0, rest.0), subst (λ k. AreFilled k ys) (let same : n - length xs ≡ suc n - suc (length xs) = omega arith in same) rest.1)

    module _ (root field : ℕ) (c : Column) (P : ℕ → Type 0)
        (numbers : (md : FieldMode) (p : ℕ) → P p → number_for c md p ≡ number_of G M (as_held (spaces_of job.code) root field md) (record { root = root; field = field; point = p }) m) where
      piece_stays : (md : FieldMode) (n : ℕ) (ps : List ℕ) (zs : List ℤ) → All P ps → AreFilled n (elements job.code root field md ps zs) → moved_beside (number_for c md) 0 n ps zs ≡ zs
      piece_stays md zero ps zs g h = refl
      piece_stays md (suc n) [] zs g h = refl
      piece_stays md (suc n) (p ∷ ps) [] g h = refl
      piece_stays md (suc n) (p ∷ ps) (z ∷ zs) g h = λ i. (numbers md p (All-head P p ps g) ∙ h.0) i ∷ piece_stays md n ps zs (All-tail P p ps g) h.1 i

      abbrev Sized : Held → Type 0
      Sized x = length x.values ≡ length x.points

      pub pieces_stay : (n : ℕ) (hs : List Held) → All (λ (x : Held). All P x.points) hs → All Sized hs → AreFilled n (all_elements job.code root field hs) → moved_pieces c 0 n hs ≡ hs
      pieces_stay n [] g z h = refl
      pieces_stay n (x ∷ hs) g z h =
          let xs = elements job.code root field x.mode x.points x.values in
          let both = filled_both n xs (all_elements job.code root field hs) h in
          let long = elements_length job.code M m root field c x.mode x.points x.values (All-head Sized x hs z) in
          let none : 0 - length x.points ≡ 0 = omega arith in
          let rest : n - length xs ≡ n - (length x.points - 0) = omega (arith, long) in
          λ i. (record x { values = piece_stays x.mode n x.points x.values (All-head (λ (y : Held). All P y.points) x hs g) both.0 i })
          ∷ ((λ j. moved_pieces c (none j) (n - (length x.points - 0)) hs)
          ∙ pieces_stay (n - (length x.points - 0)) hs (All-tail (λ (y : Held). All P y.points) x hs g) (All-tail Sized x hs z)
          (subst (λ k. AreFilled k (all_elements job.code root field hs)) rest both.1)) i

  of_outlines : (P : ℕ → Type 0) (hs : List Held) → All (λ (q : List ℕ × FieldMode). All P q.0) (map outline hs) → All (λ (x : Held). All P x.points) hs
  of_outlines P [] a = All-nil (λ (x : Held). All P x.points)
  of_outlines P (x ∷ hs) a = All-cons (λ (x : Held). All P x.points) x hs
      (All-head (λ (q : List ℕ × FieldMode). All P q.0) (outline x) (map outline hs) a)
      (of_outlines P hs (All-tail (λ (q : List ℕ × FieldMode). All P q.0) (outline x) (map outline hs) a))

  module _ (s : State) (b : Board G) (h : ShowsBoard job s b) (from : FilledIsMap G (machine_of job) b) (k : ℕ) (claim : Claim) (fill : Filling)
      (does : (operation_at s k).activity ≡ activity.Filling claim (Some fill)) where
    abbrev g : Placed job s b h k
    g = placed job s b h k (claimed_within s k (subst IsClaimed (sym does) tt))

    abbrev roots : List RootId
    roots = g.there.above ++ (operation_at s k).frame.own

    made : WereMade job s h.who b.ways roots
    made = All-append (λ (r : RootId). r.0 < length s.roots) g.there.above (operation_at s k).frame.own g.there.made (h.own_made k)

    abbrev Goal : Type 0
    Goal = moved_pieces (column_of s.map fill.root fill.field) 0 fill.moved fill.pieces ≡ fill.pieces

    -- one that does something else isn't filled
    other : {A : Type 0} (a : Activity) → (operation_at s k).activity ≡ a → (activity.Filling claim (Some fill) ≡ a → ⊥) → A
    other a e n = absurd (n (sym does ∙ e))

    module _ (D N : List Requirement) (i : ℕ) (f : board.Frame) (ps : List (Element G)) (is : Items G) where
      by_wait : (w : BoardWait G) (d : List (Element G)) (l : List (Spot G)) → Shows job s h.who b.ways g.there.at k g.there.earlier g.there.above (op D N i f ps (filling w d l) is) →
          filled G (machine_of job 0) (spots G d) b.state.map ≡ d → Fills job.code s.roots h.who roots N w (Some fill) d l → Goal
      by_wait (part key) d l r e q =
          let seen = r.0.seen in
          let makings = made_in G (machine_of job) b.state.tree in
          let needed = fills_needed job s h.who makings b.state.map h.made h.regions h.held roots made (operation_at s k) N f ps seen (operation_at s k).wait key fill.root fill.field r.0.stands.1.waits q.key in
          let P : ℕ → Type 0 = λ p. p < size job s h.who makings b.state.map h.made h.regions h.held roots made (operation_at s k) N f ps seen fill.root fill.field key needed q.key in
          let below = of_outlines P fill.pieces (subst (λ qs. All (λ (x : List ℕ × FieldMode). All P x.0) qs) (sym q.wanted)
          (parts_below job s h.who makings b.state.map h.made h.regions h.held roots made (operation_at s k) N f ps seen fill.root fill.field key needed q.key)) in
          pieces_stay (machine_of job 0) b.state.map key.root key.field (column_of s.map fill.root fill.field) P
          (number_is job s h.who makings b.state.map h.made h.regions h.held roots made (operation_at s k) N f ps seen fill.root fill.field key needed q.key (machine_of job 0))
          fill.moved fill.pieces below q.sized
          (taken_filled (machine_of job 0) b.state.map fill.moved (all_elements job.code key.root key.field fill.pieces)
          (subst (λ xs. filled G (machine_of job 0) (spots G xs) b.state.map ≡ xs) q.filled e))
      by_wait first d l r e q = absurd q
      by_wait nothing d l r e q = absurd q
      by_wait (child c) d l r e q = absurd q

    same_fill : (a : Claim) (o : Option Filling) → (operation_at s k).activity ≡ activity.Filling a o → o ≡ Some fill
    same_fill a o e = let same : activity.Filling a o ≡ activity.Filling claim (Some fill) = sym e ∙ does in cc

    closed : {A : Type 0} (e : BoardEnding G) → HasValue job.code (operation_at s k) e → A
    closed (by v) q = other (activity.Closing (ending.Value v.value)) q (λ x. cc)
    closed (at_fault y) q = absurd q
    closed stopped q = absurd q

    may_not_fail : {A : Type 0} (a : Activity) → (operation_at s k).activity ≡ a → MayFail job.code a → A
    may_not_fail activity.Idle e q = other activity.Idle e (λ x. cc)
    may_not_fail (activity.Closing y) e q = other (activity.Closing y) e (λ x. cc)
    may_not_fail (activity.Filling c y) e q = absurd q
    may_not_fail (activity.Out c y) e q = absurd q

    failed : {A : Type 0} (e : BoardEnding G) → HasFailed job.code (operation_at s k) e → A
    failed (by v) q = absurd q
    failed (at_fault y) q = other (activity.Closing q.own) q.activity_is (λ x. cc)
    failed stopped q = may_not_fail (operation_at s k).activity refl q

    was_stopped : {A : Type 0} (e : BoardEnding G) → WasStopped job.code s.roots h.who roots (operation_at s k) e → A
    was_stopped (by v) q = absurd q
    was_stopped (at_fault y) q = absurd q
    was_stopped stopped q = other activity.Idle q (λ x. cc)

    by_node : (n : Node G) → Shows job s h.who b.ways g.there.at k g.there.earlier g.there.above n → find G g.way b.state.tree ≡ Some n → Goal
    by_node (op D N i f ps (filling w d l) is) r found = by_wait D N i f ps is w d l r (from g.way (op D N i f ps (filling w d l) is) found)
        (subst (λ o. Fills job.code s.roots h.who roots N w o d l) (same_fill r.0.stands.1.claim r.0.stands.1.fill r.0.stands.1.activity_is) r.0.stands.1.fills)
    by_node (op D N i f ps (idle w) is) r found = other activity.Idle r.0.stands.1.0 (λ x. cc)
    by_node (op D N i f ps (out w d) is) r found = other (activity.Out r.0.stands.1.claim _) r.0.stands.1.activity_is (λ x. cc)
    by_node (op D N i f ps (closing e) is) r found = ⊎_elim (λ c. other (activity.Closing c.1.own) c.1.activity_is (λ x. cc)) (λ c. was_stopped e c.1) r.0.stands
    by_node (op D N i f ps (over e) is) r found = ⊎_elim (λ c. closed e c.1) (λ c. failed e c.1) r.0.stands
    by_node (op D N i f ps dropped is) r found = other activity.Idle r.0.stands.1.0 (λ x. cc)

    pub filled_from_map : Goal
    filled_from_map = by_node g.there.node g.there.shows g.there.found
