-- Settling an operation leaves failures told, and drops none that was not dropped.
use Rattle.std.proofs.Common.{◌≡◌, ◌∷◌, ◌∙◌, ◌&&◌, ◌||◌, Bool, List, [], cond, false, refl, sym, ap, true, suc, zero, ℕ}
use Rattle.std.proofs.lemmas.Bool.{and_parts, false≢true}
use Rattle.board_rules.specs.Ground.{Ground}
use Rattle.board_rules.specs.Running.{Machine}
use Rattle.board_rules.specs.Boards.{◌+++◌, Items, Operation, Stage, Wait, all_ended, all_over, as_dropped, at_fault, by, child, child_op, close, closing, dropped, ending_with, failed_at, failed_on, filling, first, has_failed, idle, is_ended, is_over, is_waiting, meets_any, needs_of, no_item, nothing, op, out, over, part, said, settle, stage_of, stop, stopped, sweep, waits_for_failed}
use Rattle.failure_laws.specs.Failures.{ChildrenTold, FailuresTold, IsDropped, StopIsTold, any_failed}

or_true : (a : Bool) → (a || true) ≡ true
or_true true = refl
or_true false = refl

or_more : (a b : Bool) → b ≡ true → (a || b) ≡ true
or_more a b e = ap (λ c. a || c) e ∙ or_true a

or_first : (a b : Bool) → a ≡ true → (a || b) ≡ true
or_first a b e = ap (λ c. c || b) e

-- what is true of one is true of the other
abbrev pub Less : Bool → Bool → Type 0
Less a b = a ≡ true → b ≡ true

pub or_less : (a b c d : Bool) → Less a b → Less c d → Less (a || c) (b || d)
or_less true b c d f g e = or_first b d (f refl)
or_less false b c d f g e = or_more b d (g e)

module _ (G : Ground) where
  -- a sibling more that has failed
  pub told_more : (a b : Bool) (is : Items G) → Less a b → ChildrenTold G a is → ChildrenTold G b is
  told_more a b no_item l h = tt
  told_more a b (said t is) l h = told_more a b is l h
  told_more a b (child_op n is) l h = (
    λ d. l (h.0 d),
    h.1,
    told_more (a || has_failed G (stage_of G n)) (b || has_failed G (stage_of G n)) is
        (or_less a b (has_failed G (stage_of G n)) (has_failed G (stage_of G n)) l (λ e. e)) h.2,
  )

  -- children without a failure of their own behind others
  pub fresh_behind : (a : Bool) (is js : Items G) → ChildrenTold G a is → ChildrenTold G false js → ChildrenTold G a (◌+++◌ G is js)
  fresh_behind a no_item js h g = told_more false a js (λ e. absurd (false≢true e)) g
  fresh_behind a (said t is) js h g = fresh_behind a is js h g
  fresh_behind a (child_op n is) js h g = (h.0, h.1, fresh_behind (a || has_failed G (stage_of G n)) is js h.2 g)

  -- what is over and hasn't ended has failed
  over_fails : (st : Stage G) → is_over G st ≡ true → is_ended G st ≡ false → has_failed G st ≡ true
  over_fails (idle w) o e = absurd (false≢true o)
  over_fails (filling w d l) o e = absurd (false≢true o)
  over_fails (out w d) o e = absurd (false≢true o)
  over_fails (closing x) o e = absurd (false≢true o)
  over_fails (over (by v)) o e = absurd (false≢true (sym e))
  over_fails (over (at_fault x)) o e = refl
  over_fails (over stopped) o e = refl
  over_fails dropped o e = refl

  unended_failed : (is : Items G) → all_over G is ≡ true → all_ended G is ≡ false → any_failed G is ≡ true
  unended_failed no_item o e = absurd (false≢true (sym e))
  unended_failed (said t is) o e = unended_failed is o e
  unended_failed (child_op n is) o e =
      let parts = and_parts (is_over G (stage_of G n)) (all_over G is) o in
      by_ended (is_ended G (stage_of G n)) refl parts.0 e (unended_failed is parts.1)
    where
      by_ended : (b : Bool) → is_ended G (stage_of G n) ≡ b → is_over G (stage_of G n) ≡ true → (b && all_ended G is) ≡ false →
          (all_ended G is ≡ false → any_failed G is ≡ true) → (has_failed G (stage_of G n) || any_failed G is) ≡ true
      by_ended true q o e more = or_more (has_failed G (stage_of G n)) (any_failed G is) (more e)
      by_ended false q o e more = or_first (has_failed G (stage_of G n)) (any_failed G is) (over_fails (stage_of G n) o q)

  pub waiting_undropped : (st : Stage G) → IsDropped G st → is_over G st ≡ true
  waiting_undropped (idle w) d = absurd d
  waiting_undropped (filling w e l) d = absurd d
  waiting_undropped (out w e) d = absurd d
  waiting_undropped (closing x) d = absurd d
  waiting_undropped (over x) d = absurd d
  waiting_undropped dropped d = refl

module _ (G : Ground) (M : Machine G) where
  -- ---- what follows a step

  -- bad are the needs of siblings that have failed
  abbrev Worse : List G.Needs → Bool → Type 0
  Worse [] a = Unit {0}
  Worse (N ∷ bad) a = a ≡ true

  worse_meets : (bad : List G.Needs) (Q : G.Needs) (a : Bool) → Worse bad a → meets_any G M bad Q ≡ true → a ≡ true
  worse_meets [] Q a w e = absurd (false≢true e)
  worse_meets (N ∷ bad) Q a w e = w

  worse_on : (bad : List G.Needs) (a b : Bool) → Worse bad a → Worse bad (a || b)
  worse_on [] a b w = tt
  worse_on (N ∷ bad) a b w = or_first a b w

  told_dropped : (n : Operation G) → FailuresTold G n → FailuresTold G (as_dropped G M n)
  told_dropped (op D N i f ps st is) h = (tt, h.1)

  dropped_failed : (n : Operation G) → has_failed G (stage_of G (as_dropped G M n)) ≡ true
  dropped_failed (op D N i f ps st is) = refl

  swept_told : (bad : List G.Needs) (a : Bool) (is : Items G) → Worse bad a → ChildrenTold G a is → ChildrenTold G a (sweep G M bad is)
  swept_told bad a no_item w h = tt
  swept_told bad a (said t is) w h = swept_told bad a is w h
  swept_told bad a (child_op n is) w h =
      by_waiting (is_waiting G (stage_of G n)) (meets_any G M bad (needs_of G n)) refl (λ worse v. swept_told worse (a || has_failed G (stage_of G n)) is v h.2)
    where
      kept : ((worse : List G.Needs) → Worse worse (a || has_failed G (stage_of G n)) → ChildrenTold G (a || has_failed G (stage_of G n)) (sweep G M worse is)) → (b : Bool) → has_failed G (stage_of G n) ≡ b →
          ChildrenTold G a (child_op n (sweep G M (cond b (needs_of G n ∷ bad) bad) is))
      kept more true e = (h.0, h.1, more (needs_of G n ∷ bad) (or_more a (has_failed G (stage_of G n)) e))
      kept more false e = (h.0, h.1, more bad (worse_on bad a (has_failed G (stage_of G n)) w))

      by_waiting : (b c : Bool) → meets_any G M bad (needs_of G n) ≡ c → ((worse : List G.Needs) → Worse worse (a || has_failed G (stage_of G n)) → ChildrenTold G (a || has_failed G (stage_of G n)) (sweep G M worse is)) →
          ChildrenTold G a (cond (b && c) (child_op (as_dropped G M n) (sweep G M (needs_of G n ∷ bad) is))
          (child_op n (sweep G M (cond (has_failed G (stage_of G n)) (needs_of G n ∷ bad) bad) is)))
      by_waiting true true e more = (
        λ d. worse_meets bad (needs_of G n) a w e,
        told_dropped n h.1,
        told_more G (a || has_failed G (stage_of G n)) (a || has_failed G (stage_of G (as_dropped G M n))) (sweep G M (needs_of G n ∷ bad) is)
            (λ d. or_more a (has_failed G (stage_of G (as_dropped G M n))) (dropped_failed n))
            (more (needs_of G n ∷ bad) (or_first a (has_failed G (stage_of G n)) (worse_meets bad (needs_of G n) a w e))),
      )
      by_waiting true false e more = kept more (has_failed G (stage_of G n)) refl
      by_waiting false c e more = kept more (has_failed G (stage_of G n)) refl

  swept_failed : (bad : List G.Needs) (is : Items G) → Less (any_failed G is) (any_failed G (sweep G M bad is))
  swept_failed bad no_item = λ e. e
  swept_failed bad (said t is) = swept_failed bad is
  swept_failed bad (child_op n is) = by_waiting (is_waiting G (stage_of G n) && meets_any G M bad (needs_of G n)) (λ worse. swept_failed worse is)
    where
      by_waiting : (b : Bool) → ((worse : List G.Needs) → Less (any_failed G is) (any_failed G (sweep G M worse is))) → Less (has_failed G (stage_of G n) || any_failed G is)
          (any_failed G (cond b (child_op (as_dropped G M n) (sweep G M (needs_of G n ∷ bad) is)) (child_op n (sweep G M (cond (has_failed G (stage_of G n)) (needs_of G n ∷ bad) bad) is))))
      by_waiting true more = λ e. or_first (has_failed G (stage_of G (as_dropped G M n))) (any_failed G (sweep G M (needs_of G n ∷ bad) is)) (dropped_failed n)
      by_waiting false more = or_less (has_failed G (stage_of G n)) (has_failed G (stage_of G n)) (any_failed G is) _ (λ e. e)
          (more (cond (has_failed G (stage_of G n)) (needs_of G n ∷ bad) bad))

  on_failed : (Q : G.Needs) (is : Items G) → failed_on G M Q is ≡ true → any_failed G is ≡ true
  on_failed Q no_item e = e
  on_failed Q (said t is) e = on_failed Q is e
  on_failed Q (child_op n is) e = or_less (has_failed G (stage_of G n) && M.meets (needs_of G n) Q) (has_failed G (stage_of G n)) (failed_on G M Q is) (any_failed G is)
      (λ d. (and_parts (has_failed G (stage_of G n)) (M.meets (needs_of G n) Q) d).0) (on_failed Q is) e

  at_failed : (is : Items G) (c : ℕ) → failed_at G M is c ≡ true → any_failed G is ≡ true
  at_failed no_item c e = e
  at_failed (said t is) c e = at_failed is c e
  at_failed (child_op n is) zero e = or_first (has_failed G (stage_of G n)) (any_failed G is) e
  at_failed (child_op n is) (suc c) e = or_more (has_failed G (stage_of G n)) (any_failed G is) (at_failed is c e)

  vain_failed : (N : G.Needs) (w : Wait G) (is : Items G) → waits_for_failed G M N w is ≡ true → any_failed G is ≡ true
  vain_failed N first is e = absurd (false≢true e)
  vain_failed N nothing is e = absurd (false≢true e)
  vain_failed N (part k) is e = on_failed (M.narrowed N k) is e
  vain_failed N (child c) is e = at_failed is c e

  stop_told : (N : G.Needs) (st : Stage G) (is : Items G) → StopIsTold G st is → StopIsTold G (stop G M N st is) is
  stop_told N (idle w) is h = by_failed (waits_for_failed G M N w is) refl
    where
      by_failed : (b : Bool) → waits_for_failed G M N w is ≡ b → StopIsTold G (cond b (closing stopped) (idle w)) is
      by_failed true e = vain_failed N w is e
      by_failed false e = tt
  stop_told N (filling w d l) is h = h
  stop_told N (out w d) is h = h
  stop_told N (closing x) is h = h
  stop_told N (over x) is h = h
  stop_told N dropped is h = h

  close_told : (st : Stage G) (is : Items G) → StopIsTold G st is → StopIsTold G (close G M st is) is
  close_told (idle w) is h = h
  close_told (filling w d l) is h = h
  close_told (out w d) is h = h
  close_told (closing (by v)) is h = by_over (all_over G is) (all_ended G is) refl refl
    where
      by_over : (b c : Bool) → all_over G is ≡ b → all_ended G is ≡ c → StopIsTold G (cond b (over (ending_with G M (by v) c)) (closing (by v))) is
      by_over true true o e = tt
      by_over true false o e = unended_failed G is o e
      by_over false c o e = tt
  close_told (closing (at_fault x)) is h = by_over (all_over G is)
    where
      by_over : (b : Bool) → StopIsTold G (cond b (over (at_fault x)) (closing (at_fault x))) is
      by_over true = tt
      by_over false = tt
  close_told (closing stopped) is h = by_over (all_over G is)
    where
      by_over : (b : Bool) → StopIsTold G (cond b (over stopped) (closing stopped)) is
      by_over true = h
      by_over false = h
  close_told (over x) is h = h
  close_told dropped is h = h

  stage_swept : (st : Stage G) (is : Items G) → StopIsTold G st is → StopIsTold G st (sweep G M [] is)
  stage_swept (idle w) is h = tt
  stage_swept (filling w d l) is h = tt
  stage_swept (out w d) is h = tt
  stage_swept (closing (by v)) is h = tt
  stage_swept (closing (at_fault x)) is h = tt
  stage_swept (closing stopped) is h = swept_failed [] is h
  stage_swept (over (by v)) is h = tt
  stage_swept (over (at_fault x)) is h = tt
  stage_swept (over stopped) is h = swept_failed [] is h
  stage_swept dropped is h = tt

  pub settle_told : (n : Operation G) → FailuresTold G n → FailuresTold G (settle G M n)
  settle_told (op D N i f ps st is) h =
      let js = sweep G M [] is in
      (close_told (stop G M N st js) js (stop_told N st js (stage_swept st is h.0)), swept_told [] false is tt h.1)

  -- ---- what is settled is not dropped by it

  stop_undropped : (N : G.Needs) (st : Stage G) (is : Items G) → (IsDropped G st → ⊥) → IsDropped G (stop G M N st is) → ⊥
  stop_undropped N (idle w) is h = by_failed (waits_for_failed G M N w is)
    where
      by_failed : (b : Bool) → IsDropped G (cond b (closing stopped) (idle w)) → ⊥
      by_failed true d = d
      by_failed false d = d
  stop_undropped N (filling w e l) is h = h
  stop_undropped N (out w e) is h = h
  stop_undropped N (closing x) is h = h
  stop_undropped N (over x) is h = h
  stop_undropped N dropped is h = h

  close_undropped : (st : Stage G) (is : Items G) → (IsDropped G st → ⊥) → IsDropped G (close G M st is) → ⊥
  close_undropped (idle w) is h = h
  close_undropped (filling w e l) is h = h
  close_undropped (out w e) is h = h
  close_undropped (closing x) is h = by_over (all_over G is)
    where
      by_over : (b : Bool) → IsDropped G (cond b (over (ending_with G M x (all_ended G is))) (closing x)) → ⊥
      by_over true d = d
      by_over false d = d
  close_undropped (over x) is h = h
  close_undropped dropped is h = h

  pub settle_undropped : (n : Operation G) → (IsDropped G (stage_of G n) → ⊥) → IsDropped G (stage_of G (settle G M n)) → ⊥
  settle_undropped (op D N i f ps st is) h =
      close_undropped (stop G M N st (sweep G M [] is)) (sweep G M [] is) (stop_undropped N st (sweep G M [] is) h)
