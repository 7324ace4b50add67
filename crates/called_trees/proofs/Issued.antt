-- One operation more is issued: what the graph tells of it and of the others.
use Rattle.std.proofs.Common.{◌≡◌, ◌<◌, ◌≤◌, ◌+◌, ◌-◌, ◌++◌, ◌∷◌, ◌∙◌, ℕ, zero, suc, Bool, List, None, Some, [], ap, arith, cond, false, length, map, not, refl, subst, sym, true}
use Rattle.std.specs.Prelude.{All, filter}
use Rattle.std.proofs.lemmas.Bool.{le-ltb, lt-ltb}
use Rattle.std.proofs.lemmas.List.{get_or_append_left, get_or-append-add, length-append, map-append}
use Rattle.std.proofs.lemmas.List.Elements.{All-cons, All-head, All-nil, All-tail, filter-append}
use Rattle.plain_values.specs.Points.{counted_from}
use Rattle.region_finder.specs.Listings.{Listed, inserted, listed_ops}
use Rattle.region_tree.specs.declared.tree.OpNumber.{OpNumber}
use Rattle.dependence_graph.specs.Entries.{Knot}
use Rattle.dependence_graph.specs.Knots.{is_done, knot_at, no_knot, number, stage_at}
use Rattle.dependence_graph.specs.declared.stage.Stage.TheVariants as knot
use Rattle.board_trees.specs.Stages.{was_begun}
use Rattle.board_trees.specs.Waits.{has_ended}

-- ---- one that is issued waits, or is dropped

pub new_ongoing : (q : Bool) → is_done (Some (cond q knot.Dropped knot.Waiting)) ≡ false
new_ongoing true = refl
new_ongoing false = refl

pub new_unbegun : (q : Bool) → was_begun (cond q knot.Dropped knot.Waiting) ≡ false
new_unbegun true = refl
new_unbegun false = refl

pub not_parked : (q : Bool) → cond q knot.Dropped knot.Waiting ≡ knot.Parked → ⊥
not_parked true e = cc
not_parked false e = cc

-- ---- knots

module _ (ks : List Knot) (new : Knot) where
  -- the new one behind the others
  abbrev pub more : List Knot
  more = ks ++ new ∷ []

  pub length_more : length more ≡ suc (length ks)
  length_more = length-append ks (new ∷ []) ∙ omega arith

  pub knot_old : (j : ℕ) → j < length ks → knot_at more j ≡ knot_at ks j
  knot_old j l = get_or_append_left ks (new ∷ []) no_knot j l

  pub knot_new : knot_at more (length ks) ≡ new
  knot_new =
      let last : length ks + 0 ≡ length ks = omega arith in
      ap (λ j. knot_at more j) (sym last) ∙ get_or-append-add ks (new ∷ []) 0 no_knot

  stage_of : (j : ℕ) → j < suc (length ks) → stage_at more j ≡ Some (knot_at more j).stage
  stage_of j l = ap (λ b. cond b (Some (knot_at more j).stage) None) (lt-ltb j (length more) (subst (λ n. j < n) (sym length_more) l))

  old_stage : (j : ℕ) → j < length ks → stage_at ks j ≡ Some (knot_at ks j).stage
  old_stage j l = ap (λ b. cond b (Some (knot_at ks j).stage) None) (lt-ltb j (length ks) l)

  pub stage_old : (j : ℕ) → j < length ks → stage_at more j ≡ stage_at ks j
  stage_old j l = stage_of j (omega (arith, l)) ∙ ap (λ (x : Knot). Some x.stage) (knot_old j l) ∙ sym (old_stage j l)

  pub stage_new : stage_at more (length ks) ≡ Some new.stage
  stage_new = stage_of (length ks) (omega arith) ∙ ap (λ (x : Knot). Some x.stage) knot_new

-- ---- the listing

pub inserted_last : (e : Listed) (ls : List Listed) → All (λ (l : Listed). l.op.0 < e.op.0) ls → inserted e ls ≡ ls ++ e ∷ []
inserted_last e [] h = refl
inserted_last e (l ∷ ls) h =
    let P = λ (x : Listed). x.op.0 < e.op.0 in
    let first = All-head P l ls h in
    ap (λ b. cond b (e ∷ l ∷ ls) (l ∷ inserted e ls)) (le-ltb e.op.0 l.op.0 (omega (arith, first)))
    ∙ ap (λ xs. l ∷ xs) (inserted_last e ls (All-tail P l ls h))

filtered_below : (p : ℕ → Bool) (a m n : ℕ) → a + m ≤ n → All (λ (o : OpNumber). o.0 < n) (map number (filter p (counted_from a m)))
filtered_below p a zero n l = All-nil (λ (o : OpNumber). o.0 < n)
filtered_below p a (suc m) n l = by_test (p a) (filtered_below p (suc a) m n (omega (arith, l)))
  where
    by_test : (b : Bool) → All (λ (o : OpNumber). o.0 < n) (map number (filter p (counted_from (suc a) m))) →
        All (λ (o : OpNumber). o.0 < n) (map number (cond b (a ∷ filter p (counted_from (suc a) m)) (filter p (counted_from (suc a) m))))
    by_test true h = All-cons (λ (o : OpNumber). o.0 < n) (number a) (map number (filter p (counted_from (suc a) m))) (omega (arith, l)) h
    by_test false h = h

ops_below : (n : ℕ) (ls : List Listed) → All (λ (o : OpNumber). o.0 < n) (listed_ops ls) → All (λ (l : Listed). l.op.0 < n) ls
ops_below n [] h = All-nil (λ (l : Listed). l.op.0 < n)
ops_below n (l ∷ ls) h =
    let P = λ (o : OpNumber). o.0 < n in
    All-cons (λ (l : Listed). l.op.0 < n) l ls (All-head P l.op (listed_ops ls) h) (ops_below n ls (All-tail P l.op (listed_ops ls) h))

pub listed_below : (p : ℕ → Bool) (n : ℕ) (ls : List Listed) → 0 < n → listed_ops ls ≡ map number (filter p (counted_from 1 (n - 1))) → All (λ (l : Listed). l.op.0 < n) ls
listed_below p n ls l e = ops_below n ls (subst (All (λ (o : OpNumber). o.0 < n)) (sym e) (filtered_below p 1 (n - 1) n (omega (arith, l))))

counted_last : (a m : ℕ) → counted_from a (suc m) ≡ counted_from a m ++ (a + m) ∷ []
counted_last a zero = let e : a ≡ a + 0 = omega arith in ap (λ x. x ∷ []) e
counted_last a (suc m) = let e : suc a + m ≡ a + suc m = omega arith in ap (λ xs. a ∷ xs) (counted_last (suc a) m ∙ ap (λ x. counted_from (suc a) m ++ x ∷ []) e)

filter_same : (p q : ℕ → Bool) (a m : ℕ) → ((j : ℕ) → a ≤ j → j < a + m → p j ≡ q j) → filter p (counted_from a m) ≡ filter q (counted_from a m)
filter_same p q a zero h = refl
filter_same p q a (suc m) h =
    (λ i. cond (h a (omega arith) (omega arith) i) (a ∷ filter p (counted_from (suc a) m)) (filter p (counted_from (suc a) m)))
    ∙ ap (λ xs. cond (q a) (a ∷ xs) xs) (filter_same p q (suc a) m (λ j l k. h j (omega (arith, l)) (omega (arith, k))))

module _ (ks : List Knot) (new : Knot) (begins : is_done (Some new.stage) ≡ false) where
  pub ended_old : (j : ℕ) → j < length ks → has_ended (more ks new) j ≡ has_ended ks j
  ended_old j l = ap is_done (stage_old ks new j l)

  pub ended_new : has_ended (more ks new) (length ks) ≡ false
  ended_new = ap is_done (stage_new ks new) ∙ begins

  -- the graph lists one more
  pub listed_more : (e : Listed) (ls : List Listed) → 0 < length ks → e.op ≡ number (length ks) →
      listed_ops ls ≡ map number (filter (λ j. not (has_ended ks j)) (counted_from 1 (length ks - 1))) →
      listed_ops (inserted e ls) ≡ map number (filter (λ j. not (has_ended (more ks new) j)) (counted_from 1 (suc (length ks) - 1)))
  listed_more e ls some op_is listed =
      let p = λ (j : ℕ). not (has_ended ks j) in
      let q = λ (j : ℕ). not (has_ended (more ks new) j) in
      let n = length ks in
      let below = listed_below p n ls some listed in
      let before : 1 + (n - 1) ≡ n = omega (arith, some) in
      let size : suc n - 1 ≡ suc (n - 1) = omega (arith, some) in
      ap listed_ops (inserted_last e ls (subst (λ (o : OpNumber). All (λ (l : Listed). l.op.0 < o.0) ls) (sym op_is) below))
      ∙ map-append (λ (l : Listed). l.op) ls (e ∷ [])
      ∙ (λ i. listed i ++ op_is i ∷ [])
      ∙ sym (ap (λ m. map number (filter q (counted_from 1 m))) size
      ∙ ap (λ xs. map number (filter q xs)) (counted_last 1 (n - 1))
      ∙ ap (map number) (filter-append q (counted_from 1 (n - 1)) ((1 + (n - 1)) ∷ []))
      ∙ map-append number (filter q (counted_from 1 (n - 1))) (filter q ((1 + (n - 1)) ∷ []))
      ∙ (λ i. map number (filter_same q p 1 (n - 1) (λ j l b. ap not (ended_old j (omega (arith, b, before)))) i)
      ++ map number (filter q (before i ∷ [])))
      ∙ ap (λ b. map number (filter p (counted_from 1 (n - 1))) ++ map number (cond (not b) (n ∷ []) [])) ended_new)
