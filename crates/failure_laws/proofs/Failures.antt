-- Each step of a board leaves failures told.
use Rattle.std.proofs.Common.{◌&&◌, ◌≡◌, ◌++◌, ◌∷◌, ◌∙◌, ◌||◌, Bool, List, None, Option, Some, [], cond, false, refl, subst, sym, ap, true, drop, take, suc, zero, ℕ}
use Rattle.std.proofs.lemmas.Bool.{false≢true}
use Rattle.std.proofs.lemmas.Option.{none-some, same_Some}
use Rattle.board_rules.specs.Ground.{Ground}
use Rattle.board_rules.specs.Processes.{Map}
use Rattle.board_rules.specs.Running.{Call, Element, Machine, Path, Spot, Yield, await, calls, ends, filled, make, stops, want}
use Rattle.board_rules.specs.Boards.{◌+++◌, Items, Kind, Operation, Stage, Stepped, all_issued, as_child, at_fault, awaited, back, behind, by, child_op, claim, closing, copied, copy, dropped, filling, first, give, given, has_failed, idle, in_op, is_over, is_ready, issued, meets_any, met_by, needs_of, no_item, nothing, op, out, over, own_step, said, stage_of, step_among, step_in, still_open, stopped, wants}
use Rattle.board_rules.specs.Journals.{Entry, State, stepped}
use Rattle.board_rules.specs.NumberedBoards.{entries, start}
use Rattle.board_rules.specs.RootNumbers.{all_numbered, made_in}
use Rattle.failure_laws.specs.Failures.{ChildrenTold, FailuresAreTold, FailuresTold, IsDropped, StopIsTold, any_failed}
use Rattle.number_laws.proofs.ByNumber.{steps_reach}
use Rattle.failure_laws.proofs.Settled.{Less, fresh_behind, or_less, settle_told, settle_undropped, told_more, waiting_undropped}

module _ (G : Ground) (M : Machine G) where
  -- ---- the steps

  issued_told : (N : G.Needs) (xs : List (Call G)) → ChildrenTold G false (issued G M N xs)
  issued_told N [] = tt
  issued_told N (x ∷ xs) = by_inside (x.may && M.inside x.needs N) (issued_told N xs)
    where
      by_inside : (b : Bool) → ChildrenTold G false (issued G M N xs) →
          ChildrenTold G false (cond b (child_op (op x.needs x.needs 0 x.frame [] (idle first) no_item) (issued G M N xs)) no_item)
      by_inside true h = (λ d. absurd d, (tt, tt), h)
      by_inside false h = tt

  given_told : (p : Path G) (D N : G.Needs) (i : ℕ) (is : Items G) (t : List G.Byte) (f : G.Frame) (ps : List (Element G)) (y : Yield G) →
      ChildrenTold G false is → FailuresTold G (given G M p D N i is t f ps y).left
  given_told p D N i is t f ps (calls xs) h = (by_issued (all_issued G M N xs), fresh_behind G false is (said t (issued G M N xs)) h (issued_told N xs))
    where
      by_issued : (b : Bool) → StopIsTold G (cond b (idle nothing) (closing (at_fault G.broken))) (◌+++◌ G is (said t (issued G M N xs)))
      by_issued true = tt
      by_issued false = tt
  given_told p D N i is t f ps (want k) h = (tt, fresh_behind G false is (said t no_item) h tt)
  given_told p D N i is t f ps (await c) h = (tt, fresh_behind G false is (said t no_item) h tt)
  given_told p D N i is t f ps (make d) h = by_sound (M.sound d)
    where
      by_sound : (b : Bool) → FailuresTold G (cond {A = Stepped G (Operation G)} b
          (record { left = op D (M.grown p i d N) (suc i) (M.pushed p i d f) ps (idle nothing) (◌+++◌ G is (said t no_item)); effects = M.zeros p i d })
          (record { left = op D N i f [] (closing (at_fault G.broken)) (◌+++◌ G is (said t no_item)); effects = [] })).left
      by_sound true = (tt, fresh_behind G false is (said t no_item) h tt)
      by_sound false = (tt, fresh_behind G false is (said t no_item) h tt)
  given_told p D N i is t f ps (ends v) h = (tt, fresh_behind G false is (said t no_item) h tt)
  given_told p D N i is t f ps (stops x) h = (tt, fresh_behind G false is (said t no_item) h tt)

  -- what a step leaves: failures are told, and it isn't dropped
  abbrev IfTold : Option (Stepped G (Operation G)) → Type 0
  IfTold None = Unit {0}
  IfTold (Some s) = FailuresTold G s.left × (IsDropped G (stage_of G s.left) → ⊥)

  given_undropped : (p : Path G) (D N : G.Needs) (i : ℕ) (is : Items G) (t : List G.Byte) (f : G.Frame) (ps : List (Element G)) (y : Yield G) →
      IsDropped G (stage_of G (given G M p D N i is t f ps y).left) → ⊥
  given_undropped p D N i is t f ps (calls xs) = by_issued (all_issued G M N xs)
    where
      by_issued : (b : Bool) → IsDropped G (cond b (idle nothing) (closing (at_fault G.broken))) → ⊥
      by_issued true d = d
      by_issued false d = d
  given_undropped p D N i is t f ps (want k) = λ d. d
  given_undropped p D N i is t f ps (await c) = λ d. d
  given_undropped p D N i is t f ps (make d) = by_sound (M.sound d)
    where
      by_sound : (b : Bool) → IsDropped G (stage_of G (cond {A = Stepped G (Operation G)} b
          (record { left = op D (M.grown p i d N) (suc i) (M.pushed p i d f) ps (idle nothing) (◌+++◌ G is (said t no_item)); effects = M.zeros p i d })
          (record { left = op D N i f [] (closing (at_fault G.broken)) (◌+++◌ G is (said t no_item)); effects = [] })).left) → ⊥
      by_sound true e = e
      by_sound false e = e
  given_undropped p D N i is t f ps (ends v) = λ d. d
  given_undropped p D N i is t f ps (stops x) = λ d. d

  own_told : (k : Kind) (p : Path G) (before : Bool) (m : Map G) (D N : G.Needs) (i : ℕ) (f : G.Frame) (ps : List (Element G)) (st : Stage G) (is : Items G) →
      ChildrenTold G false is → IfTold (own_step G M k p before m (op D N i f ps st is))
  own_told claim p before m D N i f ps (idle w) is h = by_ready (is_ready G M before N w is)
    where
      by_ready : (b : Bool) → IfTold (cond b (Some (record { left = op D N i f ps (filling w [] (wants G M N w)) is; effects = [] })) None)
      by_ready true = ((tt, h), λ d. d)
      by_ready false = tt
  own_told claim p before m D N i f ps (filling w d l) is h = tt
  own_told claim p before m D N i f ps (out w d) is h = tt
  own_told claim p before m D N i f ps (closing x) is h = tt
  own_told claim p before m D N i f ps (over x) is h = tt
  own_told claim p before m D N i f ps dropped is h = tt
  own_told copy p before m D N i f ps (idle w) is h = tt
  own_told copy p before m D N i f ps (filling w d l) is h = by_left (d ++ filled G M (take M.chunk l) m) (drop M.chunk l)
    where
      by_left : (e : List (Element G)) (k : List (Spot G)) →
          IfTold (Some (record { left = op D N i f ps (copied G M w e k) is; effects = [] }))
      by_left e [] = ((tt, h), λ d. d)
      by_left e (x ∷ k) = ((tt, h), λ d. d)
  own_told copy p before m D N i f ps (out w d) is h = tt
  own_told copy p before m D N i f ps (closing x) is h = tt
  own_told copy p before m D N i f ps (over x) is h = tt
  own_told copy p before m D N i f ps dropped is h = tt
  own_told give p before m D N i f ps (idle w) is h = tt
  own_told give p before m D N i f ps (filling w d l) is h = tt
  own_told give p before m D N i f ps (out w d) is h =
      let a = M.segment (met_by G M w f (awaited G M w is)) (ps ++ d) in
      let n = (given G M p D N i is a.text a.frame a.parts a.yields).left in (
        settle_told G M n (given_told p D N i is a.text a.frame a.parts a.yields h),
        settle_undropped G M n (given_undropped p D N i is a.text a.frame a.parts a.yields),
      )
  own_told give p before m D N i f ps (closing x) is h = tt
  own_told give p before m D N i f ps (over x) is h = tt
  own_told give p before m D N i f ps dropped is h = tt
  own_told back p before m D N i f ps (idle w) is h = tt
  own_told back p before m D N i f ps (filling w d l) is h = ((tt, h), λ d. d)
  own_told back p before m D N i f ps (out w d) is h = ((tt, h), λ d. d)
  own_told back p before m D N i f ps (closing x) is h = tt
  own_told back p before m D N i f ps (over x) is h = tt
  own_told back p before m D N i f ps dropped is h = tt

  -- children behind a step of one of them: those before it have failed as before, so the rest is told as before or more
  abbrev IfAllTold : Bool → Items G → Option (Stepped G (Items G)) → Type 0
  IfAllTold a is None = Unit {0}
  IfAllTold a is (Some s) = ChildrenTold G a s.left × Less (any_failed G is) (any_failed G s.left)

  -- one that isn't over hasn't failed
  open_unfailed : (st : Stage G) → is_over G st ≡ false → has_failed G st ≡ false
  open_unfailed (idle w) e = refl
  open_unfailed (filling w d l) e = refl
  open_unfailed (out w d) e = refl
  open_unfailed (closing x) e = refl
  open_unfailed (over x) e = absurd (false≢true (sym e))
  open_unfailed dropped e = absurd (false≢true (sym e))

  -- a step is of one that isn't over, and so hasn't failed
  abbrev IfOpen : Operation G → Option (Stepped G (Operation G)) → Type 0
  IfOpen n None = Unit {0}
  IfOpen n (Some s) = has_failed G (stage_of G n) ≡ false

  own_open : (k : Kind) (p : Path G) (before : Bool) (m : Map G) (D N : G.Needs) (i : ℕ) (f : G.Frame) (ps : List (Element G)) (st : Stage G) (is : Items G) →
      is_over G st ≡ true → own_step G M k p before m (op D N i f ps st is) ≡ None
  own_open k p before m D N i f ps (idle w) is e = absurd (false≢true e)
  own_open k p before m D N i f ps (filling w d l) is e = absurd (false≢true e)
  own_open k p before m D N i f ps (out w d) is e = absurd (false≢true e)
  own_open k p before m D N i f ps (closing x) is e = absurd (false≢true e)
  own_open claim p before m D N i f ps (over x) is e = refl
  own_open copy p before m D N i f ps (over x) is e = refl
  own_open give p before m D N i f ps (over x) is e = refl
  own_open back p before m D N i f ps (over x) is e = refl
  own_open claim p before m D N i f ps dropped is e = refl
  own_open copy p before m D N i f ps dropped is e = refl
  own_open give p before m D N i f ps dropped is e = refl
  own_open back p before m D N i f ps dropped is e = refl

  step_open : (k : Kind) (way : List ℕ) (p : Path G) (before : Bool) (m : Map G) (n : Operation G) → IfOpen n (step_in G M k way p before m n)
  step_open k way p before m (op D N i f ps st is) = by_over (is_over G st) refl
    where
      open_one : (o : Option (Stepped G (Operation G))) → has_failed G st ≡ false → IfOpen (op D N i f ps st is) o
      open_one None e = tt
      open_one (Some s) e = e

      closed_one : (way : List ℕ) → is_over G st ≡ true → step_in G M k way p before m (op D N i f ps st is) ≡ None
      closed_one [] e = own_open k p before m D N i f ps st is e
      closed_one (c ∷ way) e = ap (λ b. cond b None (in_op G M D N i f ps st (step_among G M k c way p 0 [] m is))) e

      by_over : (b : Bool) → is_over G st ≡ b → IfOpen (op D N i f ps st is) (step_in G M k way p before m (op D N i f ps st is))
      by_over true e = subst (IfOpen (op D N i f ps st is)) (sym (closed_one way e)) tt
      by_over false e = open_one (step_in G M k way p before m (op D N i f ps st is)) (open_unfailed st e)

  mutual
    step_told : (k : Kind) (way : List ℕ) (p : Path G) (before : Bool) (m : Map G) (n : Operation G) → FailuresTold G n → IfTold (step_in G M k way p before m n)
    step_told k [] p before m (op D N i f ps st is) h = own_told k p before m D N i f ps st is h.1
    step_told k (c ∷ way) p before m (op D N i f ps st is) h =
        by_over (is_over G st) refl (step_among G M k c way p 0 [] m is) (among_told k c way p 0 [] m false is h.1)
      where
        undropped : (x : Stage G) → is_over G x ≡ false → IsDropped G x → ⊥
        undropped x e d = false≢true (sym e ∙ waiting_undropped G x d)

        stage_more : (x : Stage G) (js : Items G) → Less (any_failed G is) (any_failed G js) → StopIsTold G x is → StopIsTold G x js
        stage_more (idle w) js l g = tt
        stage_more (filling w d y) js l g = tt
        stage_more (out w d) js l g = tt
        stage_more (closing (by v)) js l g = tt
        stage_more (closing (at_fault x)) js l g = tt
        stage_more (closing stopped) js l g = l g
        stage_more (over (by v)) js l g = tt
        stage_more (over (at_fault x)) js l g = tt
        stage_more (over stopped) js l g = l g
        stage_more dropped js l g = tt

        by_items : (o : Option (Stepped G (Items G))) → is_over G st ≡ false → IfAllTold false is o → IfTold (in_op G M D N i f ps st o)
        by_items None e g = tt
        by_items (Some s) e g = (settle_told G M (op D N i f ps st s.left) (stage_more st s.left g.1 h.0, g.0), settle_undropped G M (op D N i f ps st s.left) (undropped st e))

        by_over : (b : Bool) → is_over G st ≡ b → (o : Option (Stepped G (Items G))) → IfAllTold false is o → IfTold (cond b None (in_op G M D N i f ps st o))
        by_over true e o g = tt
        by_over false e o g = by_items o e g

    among_told : (k : Kind) (c : ℕ) (way : List ℕ) (p : Path G) (j : ℕ) (Ns : List G.Needs) (m : Map G) (a : Bool) (is : Items G) → ChildrenTold G a is →
        IfAllTold a is (step_among G M k c way p j Ns m is)
    among_told k c way p j Ns m a no_item h = tt
    among_told k c way p j Ns m a (said t is) h = by_rest (step_among G M k c way p j Ns m is) (among_told k c way p j Ns m a is h)
      where
        by_rest : (o : Option (Stepped G (Items G))) → IfAllTold a is o → IfAllTold a (said t is) (behind G M (said t) o)
        by_rest None g = tt
        by_rest (Some s) g = g
    among_told k zero way p j Ns m a (child_op n is) h =
        by_child (step_in G M k way (j ∷ p) (Rattle.std.specs.Prelude.not (meets_any G M Ns (needs_of G n))) m n)
        (step_told k way (j ∷ p) (Rattle.std.specs.Prelude.not (meets_any G M Ns (needs_of G n))) m n h.1)
        (step_open k way (j ∷ p) (Rattle.std.specs.Prelude.not (meets_any G M Ns (needs_of G n))) m n)
      where
        by_child : (o : Option (Stepped G (Operation G))) → IfTold o → IfOpen n o → IfAllTold a (child_op n is) (as_child G M is o)
        by_child None g e = tt
        by_child (Some s) g e =
            let less : Less (has_failed G (stage_of G n)) (has_failed G (stage_of G s.left)) = λ d. absurd (false≢true (sym e ∙ d)) in (
              (
                λ d. absurd (g.1 d),
                g.0,
                told_more G (a || has_failed G (stage_of G n)) (a || has_failed G (stage_of G s.left)) is
                    (or_less a a (has_failed G (stage_of G n)) (has_failed G (stage_of G s.left)) (λ d. d) less) h.2,
              ),
              or_less (has_failed G (stage_of G n)) (has_failed G (stage_of G s.left)) (any_failed G is) (any_failed G is) less (λ d. d),
            )
    among_told k (suc c) way p j Ns m a (child_op n is) h =
        by_rest (step_among G M k c way p (suc j) (still_open G M n Ns) m is) (among_told k c way p (suc j) (still_open G M n Ns) m (a || has_failed G (stage_of G n)) is h.2)
      where
        by_rest : (o : Option (Stepped G (Items G))) → IfAllTold (a || has_failed G (stage_of G n)) is o → IfAllTold a (child_op n is) (behind G M (child_op n) o)
        by_rest None g = tt
        by_rest (Some s) g = (
          (h.0, h.1, g.0),
          or_less (has_failed G (stage_of G n)) (has_failed G (stage_of G n)) (any_failed G is) (any_failed G s.left) (λ d. d) g.1,
        )

-- ---- boards

module _ (G : Ground) (M : ℕ → Machine G) where
  none_stays : (es : List Entry) → all_numbered G M None es ≡ None
  none_stays [] = refl
  none_stays (e ∷ es) = none_stays es

  abbrev AreTold : State G → Type 0
  AreTold s = FailuresTold G s.tree × ¬ IsDropped G (stage_of G s.tree)

  journal_told : (es : List Entry) (s t : State G) → AreTold s → all_numbered G M (Some s) es ≡ Some t → AreTold t
  journal_told [] s t h e = subst AreTold (same_Some s t e) h
  journal_told (x ∷ es) s t h e =
      by_step (step_in G (M (made_in G M s.tree)) x.kind x.way [] true s.map s.tree) (step_told G (M (made_in G M s.tree)) x.kind x.way [] true s.map s.tree h.0) e
      (λ v g k. journal_told es v t g k)
    where
      by_step : (o : Option (Stepped G (Operation G))) → IfTold G (M (made_in G M s.tree)) o → all_numbered G M (stepped G (M (made_in G M s.tree)) s.map o) es ≡ Some t →
          ((v : State G) → AreTold v → all_numbered G M (Some v) es ≡ Some t → AreTold t) → AreTold t
      by_step None g d more = absurd (none-some t (sym (none_stays es) ∙ d))
      by_step (Some y) g d more = more _ g d

  pub failures_are_told : FailuresAreTold G M
  failures_are_told job steps b e =
      journal_told (entries G M (Some (start G M job)) steps) (start G M job).state b.state ((tt, tt), λ d. d) (steps_reach G M steps (start G M job) b e)
