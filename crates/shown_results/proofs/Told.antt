-- What the table tells of an operation that is over is what the tree tells of it.
use Rattle.std.proofs.Common.{◌≡◌, ◌<◌, ◌≤◌, ◌+◌, ◌++◌, ◌∷◌, ◌∙◌, ◌||◌, ℕ, zero, suc, Bool, List, None, Option, Some, [], ap, append_assoc, arith, cond, false, length, ne_eqb, refl, subst, sym, true, eq-eqb, inl, inr}
use Rattle.std.proofs.lemmas.Bool.{and_parts, false≢true}
use Rattle.std.proofs.lemmas.Option.{none-some}
use Rattle.region_tree.specs.declared.tree.OpNumber.{OpNumber}
use Rattle.region_tree.specs.declared.tree.RootId.{RootId}
use Rattle.dependence_graph.specs.declared.stage.Stage.{Stage as Knotted}
use Rattle.task_code.specs.declared.job.Job.{Job}
use Rattle.board_rules.specs.Boards.{Items, Operation as Node, Stage as BoardStage, all_over, at_fault, by, child_op, closing, dropped, filling, has_failed, idle, is_over, no_item, op, out, over, said, stage_of, stopped}
use Rattle.board_rules.specs.Ground.{Ground}
use Rattle.board_rules.specs.Journals.{Told as BoardTold, joined, own_fault, told as told_by_tree, told_items}
use Rattle.board_rules.specs.Running.{Machine}
use Rattle.regent_boards.specs.Frames.{Stop, broken, faults_at}
use Rattle.regent_boards.specs.RegentMachine.{regent_ground}
use Rattle.code_boards.specs.Laws.{machine_of}
use Rattle.code_boards.specs.Views.{spaces_of}
use Rattle.board_terms.specs.declared.operation.Activity.TheVariants as activity
use Rattle.board_terms.specs.declared.operation.Ending.{Ending}
use Rattle.board_terms.specs.declared.operation.Ending.TheVariants as ending
use Rattle.board_terms.specs.declared.operation.Operation.{Operation}
use Rattle.board_terms.specs.declared.operation.Said.{Said}
use Rattle.board_terms.specs.Outcomes.{Told, nothing_told, says_first, stop_of, told_at, told_then, woven}
use Rattle.board_terms.specs.States.{State, operation_at}
use Rattle.failure_laws.specs.Failures.{ChildrenTold, FailuresTold, IsDropped, any_failed}
use Rattle.board_trees.specs.Shows.{Shows, ShowsChildren, printed, said_in}
use Rattle.board_trees.specs.Stages.{HasFailed, HasValue, IsEnding, Stands}
use Rattle.board_trees.specs.Waits.{Sibling}
use Rattle.board_trees.proofs.Settled.{children_over}

module _ (job : Job) where
  abbrev G : Ground
  G = regent_ground (spaces_of job.code)

  abbrev M : Machine G
  M = machine_of job 0

  -- ---- faults

  abbrev pub stop_to : Option Stop → Option Ending
  stop_to None = None
  stop_to (Some (faults_at x)) = Some (ending.Fault x)
  stop_to (Some broken) = Some ending.Broken

  abbrev pub tell_to : BoardTold G → Told
  tell_to b = record { text = b.text; stop = stop_to b.fault }

  -- one fault before another
  told_in_turn : (x : Option Stop) (t : List ℕ) (b : BoardTold G) → told_then (record { text = t; stop = stop_to x }) (tell_to b) ≡ tell_to (joined G M x t b)
  told_in_turn None t b = refl
  told_in_turn (Some (faults_at x)) t b = refl
  told_in_turn (Some broken) t b = refl

  told_in_order : (x : Option Stop) (t : List ℕ) (b : BoardTold G) (last : Told) →
      told_then (record { text = t; stop = stop_to x }) (told_then (tell_to b) last) ≡ told_then (tell_to (joined G M x t b)) last
  told_in_order None t b last = by_fault b.fault
    where
      by_fault : (y : Option Stop) → says_first t (told_then (record { text = b.text; stop = stop_to y }) last) ≡ told_then (record { text = t ++ b.text; stop = stop_to y }) last
      by_fault None = λ i. record { text = sym (append_assoc t b.text last.text) i; stop = last.stop }
      by_fault (Some (faults_at y)) = refl
      by_fault (Some broken) = refl
  told_in_order (Some (faults_at x)) t b last = refl
  told_in_order (Some broken) t b last = refl

  -- nothing is told behind a fault
  told_alone : (x : Option Stop) (y : Stop) (t : List ℕ) (rest : Told) (b : BoardTold G) (last : Told) → x ≡ Some y →
      told_then (record { text = t; stop = stop_to x }) rest ≡ told_then (tell_to (joined G M x t b)) last
  told_alone None y t rest b last e = absurd (none-some y e)
  told_alone (Some (faults_at x)) y t rest b last e = refl
  told_alone (Some broken) y t rest b last e = refl

  text_first : (x : Option Stop) (t u : List ℕ) (last : Told) →
      says_first t (told_then (record { text = u; stop = stop_to x }) last) ≡ told_then (record { text = t ++ u; stop = stop_to x }) last
  text_first None t u last = λ i. record { text = sym (append_assoc t u last.text) i; stop = last.stop }
  text_first (Some (faults_at x)) t u last = refl
  text_first (Some broken) t u last = refl

  -- ---- what has failed tells a fault

  joined_fault : (x : Option Stop) (t : List ℕ) (b : BoardTold G) (y : Stop) → b.fault ≡ Some y → (z : Stop) × ((joined G M x t b).fault ≡ Some z)
  joined_fault None t b y e = (y, e)
  joined_fault (Some x) t b y e = (x, refl)

  first_fault : (x : Option Stop) (t : List ℕ) (b : BoardTold G) (y : Stop) → x ≡ Some y → (z : Stop) × ((joined G M x t b).fault ≡ Some z)
  first_fault None t b y e = absurd (none-some y e)
  first_fault (Some x) t b y e = (x, refl)

  failed_faults : (st : BoardStage G) → has_failed G st ≡ true → (y : Stop) × (own_fault G M st ≡ Some y)
  failed_faults (over (by v)) e = absurd (false≢true e)
  failed_faults (over (at_fault x)) e = (x, refl)
  failed_faults (over stopped) e = (broken, refl)
  failed_faults dropped e = (broken, refl)
  failed_faults (idle w) e = absurd (false≢true e)
  failed_faults (filling w d l) e = absurd (false≢true e)
  failed_faults (out w d) e = absurd (false≢true e)
  failed_faults (closing x) e = absurd (false≢true e)

  node_faults : (n : Node G) → has_failed G (stage_of G n) ≡ true → (y : Stop) × ((told_by_tree G M n).fault ≡ Some y)
  node_faults (op D N i f ps st is) e =
      let own = failed_faults st e in joined_fault (told_items G M is).fault (told_items G M is).text (record { text = []; fault = own_fault G M st }) own.0 own.1

  or_parts : (a b : Bool) {A : Type 0} → (a || b) ≡ true → (a ≡ true → A) → (b ≡ true → A) → A
  or_parts true b e f g = f refl
  or_parts false b e f g = g e

  items_fault : (is : Items G) → any_failed G is ≡ true → (y : Stop) × ((told_items G M is).fault ≡ Some y)
  items_fault no_item e = absurd (false≢true e)
  items_fault (said t is) e = items_fault is e
  items_fault (child_op n is) e = or_parts (has_failed G (stage_of G n)) (any_failed G is) e
      (λ d. let h = node_faults n d in first_fault (told_by_tree G M n).fault (told_by_tree G M n).text (told_items G M is) h.0 h.1)
      (λ d. let h = items_fault is d in joined_fault (told_by_tree G M n).fault (told_by_tree G M n).text (told_items G M is) h.0 h.1)

  -- ---- where text stands among children

  abbrev pub HeadAbove : ℕ → List Said → Type 0
  HeadAbove c [] = Unit {0}
  HeadAbove c (p ∷ ps) = c ≤ p.children

  pub head_lower : (c : ℕ) (ps : List Said) → HeadAbove (suc c) ps → HeadAbove c ps
  head_lower c [] h = tt
  head_lower c (p ∷ ps) h = omega (arith, h)

  pub said_above : (c : ℕ) (is : Items G) → HeadAbove c (said_in job c is)
  said_above c no_item = tt
  said_above c (said [] is) = said_above c is
  said_above c (said (x ∷ xs) is) = omega arith
  said_above c (child_op n is) = head_lower c (said_in job (suc c) is) (said_above (suc c) is)

  woven_child : (child : ℕ → Told) (c : ℕ) (ps : List Said) (k : OpNumber) (ks : List OpNumber) (last : Told) → HeadAbove (suc c) ps →
      woven child c ps (k ∷ ks) last ≡ told_then (child k.0) (woven child (suc c) ps ks last)
  woven_child child c [] k ks last h = refl
  woven_child child c (p ∷ ps) k ks last h =
      ap (λ b. cond b (says_first p.text (woven child c ps (k ∷ ks) last)) (told_then (child k.0) (woven child (suc c) (p ∷ ps) ks last)))
      (ne_eqb p.children c (λ e. omega (arith, h, e)))

  woven_text : (child : ℕ → Told) (c : ℕ) (t : List ℕ) (ps : List Said) (ks : List OpNumber) (last : Told) →
      woven child c (record { children = c; text = t } ∷ ps) ks last ≡ says_first t (woven child c ps ks last)
  woven_text child c t ps [] last = refl
  woven_text child c t ps (k ∷ ks) last =
      ap (λ b. cond b (says_first t (woven child c ps (k ∷ ks) last)) (told_then (child k.0) (woven child (suc c) (record { children = c; text = t } ∷ ps) ks last)))
      (eq-eqb c c refl)

  woven_printed : (child : ℕ → Told) (c : ℕ) (t : List ℕ) (ps : List Said) (ks : List OpNumber) (last : Told) →
      woven child c (printed job c t ps) ks last ≡ says_first t (woven child c ps ks last)
  woven_printed child c [] ps ks last = refl
  woven_printed child c (x ∷ xs) ps ks last = woven_text child c (x ∷ xs) ps ks last

  -- ---- the operation's own end

  own_stop : (s : State) (extents : _) (who : ℕ → ℕ) (roots : List RootId) (kn : Knotted) (o : Operation) (N : _) (st : BoardStage G) →
      Stands job.code extents who roots s kn o N st → is_over G st ≡ true → ¬ IsDropped G st → ¬ (st ≡ over stopped) → stop_of o.activity ≡ stop_to (own_fault G M st)
  own_stop s extents who roots kn o N (over (by v)) (inl h) e d n = ap stop_of h.1
  own_stop s extents who roots kn o N (over (by v)) (inr h) e d n = absurd h.1
  own_stop s extents who roots kn o N (over (at_fault x)) (inl h) e d n = absurd h.1
  own_stop s extents who roots kn o N (over (at_fault x)) (inr h) e d n = ap stop_of h.1.activity_is ∙ by_ending h.1.own x h.1.ends
    where
      by_ending : (u : Ending) (x : Stop) → IsEnding job.code u (at_fault x) → stop_of (activity.Closing u) ≡ stop_to (Some x)
      by_ending (ending.Value v) x h = absurd h
      by_ending (ending.Fault y) (faults_at x) h = ap (λ z. Some (ending.Fault z)) (sym h)
      by_ending (ending.Fault y) broken h = absurd h
      by_ending ending.Broken (faults_at x) h = absurd h
      by_ending ending.Broken broken h = refl
  own_stop s extents who roots kn o N (over stopped) h e d n = absurd (n refl)
  own_stop s extents who roots kn o N dropped h e d n = absurd (d tt)
  own_stop s extents who roots kn o N (idle w) h e d n = absurd (false≢true e)
  own_stop s extents who roots kn o N (filling w g l) h e d n = absurd (false≢true e)
  own_stop s extents who roots kn o N (out w g) h e d n = absurd (false≢true e)
  own_stop s extents who roots kn o N (closing x) h e d n = absurd (false≢true e)

  module _ (s : State) (who : ℕ → ℕ) (ways : List (List ℕ)) where
    -- what is told of each child whose number is above
    abbrev ChildTold : (ℕ → Told) → ℕ → Type 0
    ChildTold child j = (way : List ℕ) (k : ℕ) (earlier : List Sibling) (above : List RootId) (n : Node G) → j < k → Shows job s who ways way k earlier above n →
        FailuresTold G n → is_over G (stage_of G n) ≡ true → ¬ IsDropped G (stage_of G n) → child k ≡ tell_to (told_by_tree G M n)

    children_told : (child : ℕ → Told) (j : ℕ) → ChildTold child j → (way : List ℕ) (c : ℕ) (earlier : List Sibling) (roots : List RootId) (ks : List OpNumber) (is : Items G) (last : Told) →
        ShowsChildren job s who ways way j c earlier roots ks is → ChildrenTold G false is → all_over G is ≡ true →
        woven child c (said_in job c is) ks last ≡ told_then (tell_to (told_items G M is)) last
    children_told child j ih way c earlier roots ks no_item last h f o = ap (λ ks. woven child c [] ks last) h
    children_told child j ih way c earlier roots ks (said t is) last h f o =
        woven_printed child c t (said_in job c is) ks last ∙ ap (says_first t) (children_told child j ih way c earlier roots ks is last h f o)
        ∙ text_first (told_items G M is).fault t (told_items G M is).text last
    children_told child j ih way c earlier roots [] (child_op n is) last h f o = absurd h
    children_told child j ih way c earlier roots (k ∷ ks) (child_op n is) last h f o =
        let parts = and_parts (is_over G (stage_of G n)) (all_over G is) o in
        woven_child child c (said_in job (suc c) is) k ks last (said_above (suc c) is)
        ∙ ap (λ t. told_then t (woven child (suc c) (said_in job (suc c) is) ks last))
        (ih (way ++ c ∷ []) k.0 earlier roots n h.0.later h.1 f.1 parts.0 (λ d. false≢true (f.0 d)))
        ∙ by_failed (has_failed G (stage_of G n)) refl (λ g. children_told child j ih way (suc c) _ roots ks is last h.2 g parts.1)
      where
        by_failed : (b : Bool) → has_failed G (stage_of G n) ≡ b →
            (ChildrenTold G false is → woven child (suc c) (said_in job (suc c) is) ks last ≡ told_then (tell_to (told_items G M is)) last) →
            told_then (tell_to (told_by_tree G M n)) (woven child (suc c) (said_in job (suc c) is) ks last) ≡ told_then (tell_to (told_items G M (child_op n is))) last
        by_failed true e rest =
            let y = node_faults n e in
            told_alone (told_by_tree G M n).fault y.0 (told_by_tree G M n).text (woven child (suc c) (said_in job (suc c) is) ks last) (told_items G M is) last y.1
        by_failed false e rest =
            ap (told_then (tell_to (told_by_tree G M n))) (rest (subst (λ b. ChildrenTold G b is) e f.2))
            ∙ told_in_order (told_by_tree G M n).fault (told_by_tree G M n).text (told_items G M is) last

    -- a child has a larger number, so levels suffice
    pub operation_told : (m : ℕ) (way : List ℕ) (k : ℕ) (earlier : List Sibling) (above : List RootId) (n : Node G) → length s.operations ≤ m + k →
        Shows job s who ways way k earlier above n → FailuresTold G n → is_over G (stage_of G n) ≡ true → ¬ IsDropped G (stage_of G n) →
        told_at m s k ≡ tell_to (told_by_tree G M n)
    operation_told zero way k earlier above (op D N i f ps st is) l h t e d = absurd (omega (arith, l, h.0.within))
    operation_told (suc m) way k earlier above (op D N i f ps st is) l h t e d =
        ap (λ ps. woven (told_at m s) 0 ps (operation_at s k).children (nothing_told (stop_of (operation_at s k).activity))) (sym h.0.said_is)
        ∙ children_told (told_at m s) k
        (λ way q earlier above n more shows fail over whole. operation_told m way q earlier above n (omega (arith, l, more)) shows fail over whole)
        way 0 [] (above ++ (operation_at s k).frame.own) (operation_at s k).children is (nothing_told (stop_of (operation_at s k).activity)) h.1 t.1 (are_over st e d h.0.children_are)
        ∙ by_fault (told_items G M is).fault refl st h.0.stands t.0 e d
      where
        are_over : (st : BoardStage G) → is_over G st ≡ true → ¬ IsDropped G st → Rattle.board_trees.specs.Stages.ChildrenAre job.code s (operation_at s k).children st →
            all_over G is ≡ true
        are_over (over x) e d g = sym (children_over job s who ways way k 0 [] (above ++ (operation_at s k).frame.own) (operation_at s k).children is h.1) ∙ g
        are_over dropped e d g = absurd (d tt)
        are_over (idle w) e d g = absurd (false≢true e)
        are_over (filling w x y) e d g = absurd (false≢true e)
        are_over (out w x) e d g = absurd (false≢true e)
        are_over (closing x) e d g = absurd (false≢true e)

        by_fault : (x : Option Stop) → (told_items G M is).fault ≡ x → (st : BoardStage G) →
            Stands job.code s.roots who (above ++ (operation_at s k).frame.own) s (Rattle.dependence_graph.specs.Knots.knot_at s.waits.knots k).stage (operation_at s k) N st →
            Rattle.failure_laws.specs.Failures.StopIsTold G st is → is_over G st ≡ true → ¬ IsDropped G st →
            told_then (tell_to (told_items G M is)) (nothing_told (stop_of (operation_at s k).activity))
            ≡ tell_to (joined G M (told_items G M is).fault (told_items G M is).text (record { text = []; fault = own_fault G M st }))
        by_fault (Some y) q st g u e d = told_alone (told_items G M is).fault y (told_items G M is).text (nothing_told (stop_of (operation_at s k).activity)) (record { text = []; fault = own_fault G M st })
            (record { text = []; stop = None }) q ∙ alone (told_items G M is).fault q
          where
            alone : (x : Option Stop) → x ≡ Some y →
                told_then (tell_to (joined G M x (told_items G M is).text (record { text = []; fault = own_fault G M st }))) (record { text = []; stop = None })
                ≡ tell_to (joined G M x (told_items G M is).text (record { text = []; fault = own_fault G M st }))
            alone None q = absurd (none-some y q)
            alone (Some (faults_at x)) q = refl
            alone (Some broken) q = refl
        by_fault None q st g u e d =
            ap (told_then (tell_to (told_items G M is))) (ap nothing_told
            (own_stop s s.roots who (above ++ (operation_at s k).frame.own) (Rattle.dependence_graph.specs.Knots.knot_at s.waits.knots k).stage (operation_at s k) N st g e d (unstopped st u)))
            ∙ told_in_turn (told_items G M is).fault (told_items G M is).text (record { text = []; fault = own_fault G M st })
          where
            -- one that was stopped has a child that tells a fault
            unstopped : (st : BoardStage G) → Rattle.failure_laws.specs.Failures.StopIsTold G st is → ¬ (st ≡ over stopped)
            unstopped st u r =
                let y = items_fault is (subst (λ x. Rattle.failure_laws.specs.Failures.StopIsTold G x is) r u) in
                none-some y.0 (sym q ∙ y.1)
