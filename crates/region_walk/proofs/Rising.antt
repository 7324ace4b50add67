-- Operations in rising order.
use Rattle.std.specs.Prelude.{filter, nat_lt}
use Rattle.std.specs.List.{slice_index}
use Rattle.std.proofs.Common.{◌≡◌, ◌≢◌, ◌<◌, ◌≤◌, ◌+◌, ◌++◌, ◌||◌, ◌∷◌, [], ◌∙◌, ℕ, suc, zero, Bool, true, false, cond, List, All, ⊎_elim, ap, sym, refl, subst, arith, drop, get_or, length, map, take}
use Rattle.std.proofs.lemmas.Bool.{cases_Bool, eq-eqb, false≢true, le-ltb, lt-ltb, ltb-false, ltb-true}
use Rattle.std.proofs.lemmas.List.Elements.{All-cons, All-filter, All-get_or, All-head, All-nil, All-tail, All-weaker}
use Rattle.region_tree.specs.declared.tree.OpNumber.{OpNumber}
use Rattle.region_finder.specs.Listings.{AreRising, Listed, has_op, inserted, is_op, listed_ops}
use Rattle.region_walk.specs.Placing.{AreBehind, IsPlace, IsRising}

behind_less : (m n : ℕ) (ls : List Listed) → m < n → AreBehind n ls → AreBehind m ls
behind_less m n ls h a = All-weaker (λ (l : Listed). n < l.op.0) (λ (l : Listed). m < l.op.0) (λ l b. omega (arith, h, b)) ls a

-- ---- a filter

pub rising_filter : (p : Listed → Bool) (ls : List Listed) → IsRising ls → IsRising (filter p ls)
rising_filter p [] r = tt
rising_filter p (l ∷ ls) r = ⊎_elim
    (λ e. subst IsRising (sym (ap (λ (b : Bool). cond b (l ∷ filter p ls) (filter p ls)) e))
    (All-filter p (λ (m : Listed). l.op.0 < m.op.0) ls r.0, rising_filter p ls r.1))
    (λ e. subst IsRising (sym (ap (λ (b : Bool). cond b (l ∷ filter p ls) (filter p ls)) e)) (rising_filter p ls r.1))
    (cases_Bool (p l))

-- ---- one more

all_inserted : (P : Listed → Type 0) (e : Listed) (ls : List Listed) → P e → All P ls → All P (inserted e ls)
all_inserted P e [] h a = All-cons P e [] h (All-nil P)
all_inserted P e (l ∷ ls) h a = ⊎_elim
    (λ b. subst (All P) (sym (ap (λ (c : Bool). cond c (e ∷ l ∷ ls) (l ∷ inserted e ls)) b)) (All-cons P e (l ∷ ls) h a))
    (λ b. subst (All P) (sym (ap (λ (c : Bool). cond c (e ∷ l ∷ ls) (l ∷ inserted e ls)) b))
    (All-cons P l (inserted e ls) (All-head P l ls a) (all_inserted P e ls h (All-tail P l ls a))))
    (cases_Bool (nat_lt e.op.0 l.op.0))

pub or_no : (a b : Bool) → (a || b) ≡ false → (a ≡ false) × (b ≡ false)
or_no true b h = absurd (false≢true (sym h))
or_no false b h = (refl, h)

pub rising_inserted : (e : Listed) (ls : List Listed) → IsRising ls → has_op ls e.op.0 ≡ false → IsRising (inserted e ls)
rising_inserted e [] r h = (All-nil (λ (l : Listed). e.op.0 < l.op.0), tt)
rising_inserted e (l ∷ ls) r h = ⊎_elim
    (λ b. let less = ltb-true e.op.0 l.op.0 b in
    subst IsRising (sym (ap (λ (c : Bool). cond c (e ∷ l ∷ ls) (l ∷ inserted e ls)) b))
    (All-cons (λ (m : Listed). e.op.0 < m.op.0) l ls less (behind_less e.op.0 l.op.0 ls less r.0), r))
    (λ b. let least = ltb-false e.op.0 l.op.0 b in
    let parts = or_no (is_op e.op.0 l) (has_op ls e.op.0) h in
    let other : l.op.0 ≢ e.op.0 = λ s. absurd (false≢true (sym parts.0 ∙ eq-eqb l.op.0 e.op.0 s)) in
    subst IsRising (sym (ap (λ (c : Bool). cond c (e ∷ l ∷ ls) (l ∷ inserted e ls)) b))
    (all_inserted (λ (m : Listed). l.op.0 < m.op.0) e ls (omega (arith, least, other)) r.0, rising_inserted e ls r.1 parts.1))
    (cases_Bool (nat_lt e.op.0 l.op.0))

pub inserted_at : (place : ℕ) (e : Listed) (ls : List Listed) → IsPlace e.op.0 ls place →
    inserted e ls ≡ take place ls ++ e ∷ drop place ls
inserted_at place e [] i = nothing place
  where
    nothing : (place : ℕ) → e ∷ [] ≡ take place [] ++ e ∷ drop place []
    nothing zero = refl
    nothing (suc k) = refl
inserted_at zero e (l ∷ ls) i =
    ap (λ (c : Bool). cond c (e ∷ l ∷ ls) (l ∷ inserted e ls))
    (lt-ltb e.op.0 l.op.0 (All-head (λ (m : Listed). e.op.0 < m.op.0) l ls i.behind))
inserted_at (suc k) e (l ∷ ls) i =
    ap (λ (c : Bool). cond c (e ∷ l ∷ ls) (l ∷ inserted e ls))
    (le-ltb e.op.0 l.op.0 (All-head (λ (m : Listed). m.op.0 ≤ e.op.0) l (take k ls) i.before))
    ∙ ap (λ (ms : List Listed). l ∷ ms) (inserted_at k e ls (record {
      before = All-tail (λ (m : Listed). m.op.0 ≤ e.op.0) l (take k ls) i.before;
      behind = i.behind;
    }))

-- ---- a place

-- all up to an operation are at most a number, where it is
pub up_to : (op k : ℕ) (ls : List Listed) (d : Listed) → IsRising ls → k < length ls → (get_or ls k d).op.0 ≤ op →
    All (λ (l : Listed). l.op.0 ≤ op) (take (suc k) ls)
up_to op k [] d r l h = absurd (omega (arith, l))
up_to op zero (m ∷ ls) d r l h = All-cons (λ (l : Listed). l.op.0 ≤ op) m [] h (All-nil (λ (l : Listed). l.op.0 ≤ op))
up_to op (suc k) (m ∷ ls) d r l h =
    let below : k < length ls = omega (arith, l) in
    let first : m.op.0 < (get_or ls k d).op.0 = All-get_or (λ (l : Listed). m.op.0 < l.op.0) ls k d below r.0 in
    All-cons (λ (l : Listed). l.op.0 ≤ op) m (take (suc k) ls) (omega (arith, first, h)) (up_to op k ls d r.1 below h)

-- ---- the numbers

pub rising_tells : (ls : List Listed) → IsRising ls → AreRising (listed_ops ls)
rising_tells [] r k l = absurd (omega (arith, l))
rising_tells (m ∷ []) r k l = absurd (omega (arith, l))
rising_tells (m ∷ n ∷ ls) r zero l = All-head (λ (l : Listed). m.op.0 < l.op.0) n ls r.0
rising_tells (m ∷ n ∷ ls) r (suc k) l =
    subst (λ (i : ℕ). slice_index (map (λ (o : OpNumber). o.0) (listed_ops (m ∷ n ∷ ls))) (suc k)
    < slice_index (map (λ (o : OpNumber). o.0) (listed_ops (m ∷ n ∷ ls))) i)
    (let e : suc (k + 1) ≡ suc k + 1 = omega arith in e)
    (rising_tells (n ∷ ls) r.1 k (omega (arith, l)))

pub rising_found : (p : Listed → Bool) (ls : List Listed) → IsRising ls → AreRising (listed_ops (filter p ls))
rising_found p ls r = rising_tells (filter p ls) (rising_filter p ls r)
