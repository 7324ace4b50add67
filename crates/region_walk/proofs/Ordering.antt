-- Operations in rising order.
use Rattle.std.specs.Prelude.{nat_lt}
use Rattle.std.specs.List.{list_any}
use Rattle.std.specs.List.Sorted.{IsNonDecreasingBy}
use Rattle.std.proofs.Common.{◌≡◌, ◌<◌, ◌≤◌, ◌==◌, ◌++◌, ◌||◌, ◌&&◌, ◌∷◌, [], ◌∙◌, ℕ, suc, zero, Bool, true, false, cond, List, All, ⊎_elim, ap, sym, refl, subst, arith, drop, get_or, length, take}
use Rattle.std.proofs.lemmas.Bool.{cases_Bool, cases_order, eq-eqb, eqb-true, eqb-false, false≢true, le-ltb, lt-ltb, ltb-false, ltb-true, ne_eqb}
use Rattle.std.proofs.lemmas.List.Elements.{All-cons, All-get_or, All-head, All-nil, All-tail, All-weaker}
use Rattle.region_tree.specs.declared.tree.OpNumber.{OpNumber}
use Rattle.region_walk.specs.Found.{AreOrdered, IsPlaceFor, put, stands_at}

-- ---- places

pub ordered_up : (os : List OpNumber) (i j : ℕ) (d : OpNumber) → AreOrdered os → i < j → j < length os →
    (get_or os i d).0 < (get_or os j d).0
ordered_up [] i j d a l b = absurd (omega (arith, b))
ordered_up (o ∷ os) i zero d a l b = absurd (omega (arith, l))
ordered_up (o ∷ os) zero (suc j) d a l b = All-get_or (λ (p : OpNumber). o.0 < p.0) os j d (omega (arith, b)) a.0
ordered_up (o ∷ os) (suc i) (suc j) d a l b = ordered_up os i j d a.1 (omega (arith, l)) (omega (arith, b))

pub ordered_rises : (os : List OpNumber) → AreOrdered os → IsNonDecreasingBy (λ (o : OpNumber). o.0) os
ordered_rises os a i j d l b = ⊎_elim
    (λ e. subst (λ k. (get_or os i d).0 ≤ (get_or os k d).0) e (omega arith))
    (λ h. ⊎_elim (λ less. let up = ordered_up os i j d a less b in omega (arith, up)) (λ more. absurd (omega (arith, l, more))) h)
    (cases_order i j)

-- the default is of no matter within a list
get_or-alike : (i : ℕ) (os : List OpNumber) (d e : OpNumber) → i < length os → get_or os i d ≡ get_or os i e
get_or-alike i [] d e l = absurd (omega (arith, l))
get_or-alike zero (o ∷ os) d e l = refl
get_or-alike (suc i) (o ∷ os) d e l = get_or-alike i os d e (omega (arith, l))

put_behind : (i : ℕ) (op : OpNumber) (os : List OpNumber) →
    ((k : ℕ) (d : OpNumber) → k < i → (get_or os k d).0 < op.0) →
    ((d : OpNumber) → i < length os → op.0 < (get_or os i d).0) → i ≤ length os →
    put op os ≡ take i os ++ op ∷ drop i os
put_behind zero op [] b h l = refl
put_behind (suc i) op [] b h l = absurd (omega (arith, l))
put_behind zero op (o ∷ os) b h l =
    ap (λ (c : Bool). cond c (op ∷ o ∷ os) (cond (op.0 == o.0) (o ∷ os) (o ∷ put op os))) (lt-ltb op.0 o.0 (h o (omega arith)))
put_behind (suc i) op (o ∷ os) b h l =
    let less = b 0 o (omega arith) in
    ap (λ (c : Bool). cond c (op ∷ o ∷ os) (cond (op.0 == o.0) (o ∷ os) (o ∷ put op os))) (le-ltb op.0 o.0 (omega (arith, less)))
    ∙ ap (λ (c : Bool). cond c (o ∷ os) (o ∷ put op os)) (ne_eqb op.0 o.0 (λ e. omega (arith, less, e)))
    ∙ ap (λ (ps : List OpNumber). o ∷ ps)
    (put_behind i op os (λ k d m. b (suc k) d (omega (arith, m))) (λ d m. h d (omega (arith, m))) (omega (arith, l)))

put_same : (i : ℕ) (op : OpNumber) (os : List OpNumber) →
    ((k : ℕ) (d : OpNumber) → k < i → (get_or os k d).0 < op.0) →
    i < length os → ((d : OpNumber) → (get_or os i d).0 ≡ op.0) → put op os ≡ os
put_same i op [] b l e = absurd (omega (arith, l))
put_same zero op (o ∷ os) b l e =
    let same : op.0 ≡ o.0 = sym (e o) in
    ap (λ (c : Bool). cond c (op ∷ o ∷ os) (cond (op.0 == o.0) (o ∷ os) (o ∷ put op os))) (le-ltb op.0 o.0 (omega (arith, same)))
    ∙ ap (λ (c : Bool). cond c (o ∷ os) (o ∷ put op os)) (eq-eqb op.0 o.0 same)
put_same (suc i) op (o ∷ os) b l e =
    let less = b 0 o (omega arith) in
    ap (λ (c : Bool). cond c (op ∷ o ∷ os) (cond (op.0 == o.0) (o ∷ os) (o ∷ put op os))) (le-ltb op.0 o.0 (omega (arith, less)))
    ∙ ap (λ (c : Bool). cond c (o ∷ os) (o ∷ put op os)) (ne_eqb op.0 o.0 (λ f. omega (arith, less, f)))
    ∙ ap (λ (ps : List OpNumber). o ∷ ps)
    (put_same i op os (λ k d m. b (suc k) d (omega (arith, m))) (omega (arith, l)) (λ d. e d))

and_both : (a b : Bool) → (a && b) ≡ true → (a ≡ true) × (b ≡ true)
and_both true b h = (refl, h)
and_both false b h = absurd (false≢true h)

-- one that doesn't stand at its place comes there
pub put_new : (i : ℕ) (op : OpNumber) (os : List OpNumber) → IsPlaceFor op os i → stands_at i op os ≡ false → i ≤ length os →
    put op os ≡ take i os ++ op ∷ drop i os
put_new i op os p h l =
    put_behind i op os p.before
    (λ d m. let least = p.behind i op (omega arith) m in
    let other = eqb-false (get_or os i op).0 op.0 (sym (ap (λ (b : Bool). b && ((get_or os i op).0 == op.0)) (lt-ltb i (length os) m)) ∙ h) in
    let here : op.0 < (get_or os i op).0 = omega (arith, least, other) in
    subst (λ (o : OpNumber). op.0 < o.0) (get_or-alike i os op d m) here) l

-- the same of a list that was made so
pub put_inserted : (i : ℕ) (op : OpNumber) (os ps items : List OpNumber) → ps ≡ os → IsPlaceFor op ps i → stands_at i op ps ≡ false →
    i ≤ length ps → items ≡ take i os ++ op ∷ drop i os → items ≡ put op os
put_inserted i op os ps items e p h l f =
    f ∙ ap (λ (qs : List OpNumber). take i qs ++ op ∷ drop i qs) (sym e)
    ∙ sym (put_new i op ps p h l) ∙ ap (put op) e

-- one that stands there changes nothing
pub put_there : (i : ℕ) (op : OpNumber) (os : List OpNumber) → IsPlaceFor op os i → stands_at i op os ≡ true → put op os ≡ os
put_there i op os p h =
    let both = and_both (nat_lt i (length os)) ((get_or os i op).0 == op.0) h in
    let below = ltb-true i (length os) both.0 in
    put_same i op os p.before below
    (λ d. ap (λ (o : OpNumber). o.0) (sym (get_or-alike i os op d below)) ∙ eqb-true (get_or os i op).0 op.0 both.1)

-- ---- what is put keeps the order

all_put_by : (P : OpNumber → Type 0) (op o : OpNumber) (os ps : List OpNumber) → P op → All P (o ∷ os) → All P ps → (b c : Bool) →
    All P (cond b (op ∷ o ∷ os) (cond c (o ∷ os) (o ∷ ps)))
all_put_by P op o os ps h a r true c = All-cons P op (o ∷ os) h a
all_put_by P op o os ps h a r false true = a
all_put_by P op o os ps h a r false false = All-cons P o ps (All-head P o os a) r

all_put : (P : OpNumber → Type 0) (op : OpNumber) (os : List OpNumber) → P op → All P os → All P (put op os)
all_put P op [] h a = All-cons P op [] h (All-nil P)
all_put P op (o ∷ os) h a =
    all_put_by P op o os (put op os) h a (all_put P op os h (All-tail P o os a)) (nat_lt op.0 o.0) (op.0 == o.0)

ordered_by : (op o : OpNumber) (os : List OpNumber) → AreOrdered (o ∷ os) → AreOrdered (put op os) →
    (b c : Bool) → nat_lt op.0 o.0 ≡ b → (op.0 == o.0) ≡ c → AreOrdered (cond b (op ∷ o ∷ os) (cond c (o ∷ os) (o ∷ put op os)))
ordered_by op o os a r true c e f =
    let less = ltb-true op.0 o.0 e in (
      All-cons (λ (p : OpNumber). op.0 < p.0) o os less
          (All-weaker (λ (p : OpNumber). o.0 < p.0) (λ (p : OpNumber). op.0 < p.0) (λ p h. omega (arith, less, h)) os a.0),
      a,
    )
ordered_by op o os a r false true e f = a
ordered_by op o os a r false false e f =
    let least = ltb-false op.0 o.0 e in
    let other = eqb-false op.0 o.0 f in
    (all_put (λ (p : OpNumber). o.0 < p.0) op os (omega (arith, least, other)) a.0, r)

pub ordered_put : (op : OpNumber) (os : List OpNumber) → AreOrdered os → AreOrdered (put op os)
ordered_put op [] a = (All-nil (λ (p : OpNumber). op.0 < p.0), tt)
ordered_put op (o ∷ os) a = ordered_by op o os a (ordered_put op os a.1) (nat_lt op.0 o.0) (op.0 == o.0) refl refl

-- ---- membership

abbrev pub has : List OpNumber → ℕ → Bool
has os x = list_any (λ (o : OpNumber). o.0 == x) os

or_swap : (a b c : Bool) → (a || (b || c)) ≡ (b || (a || c))
or_swap true true c = refl
or_swap true false c = refl
or_swap false b c = refl

or_twice : (a b : Bool) → (a || b) ≡ (a || (a || b))
or_twice true b = refl
or_twice false b = refl

has_put_by : (op o : OpNumber) (os ps : List OpNumber) (x : ℕ) → has ps x ≡ ((op.0 == x) || has os x) →
    (b c : Bool) → (op.0 == o.0) ≡ c →
    has (cond b (op ∷ o ∷ os) (cond c (o ∷ os) (o ∷ ps))) x ≡ ((op.0 == x) || ((o.0 == x) || has os x))
has_put_by op o os ps x r true c f = refl
has_put_by op o os ps x r false true f =
    or_twice (o.0 == x) (has os x)
    ∙ ap (λ (k : ℕ). (k == x) || ((o.0 == x) || has os x)) (sym (eqb-true op.0 o.0 f))
has_put_by op o os ps x r false false f =
    ap (λ (b : Bool). (o.0 == x) || b) r ∙ or_swap (o.0 == x) (op.0 == x) (has os x)

pub has_put : (op : OpNumber) (os : List OpNumber) (x : ℕ) → has (put op os) x ≡ ((op.0 == x) || has os x)
has_put op [] x = refl
has_put op (o ∷ os) x = has_put_by op o os (put op os) x (has_put op os x) (nat_lt op.0 o.0) (op.0 == o.0) refl

-- ---- lists with the same members are one

has_none : (x : ℕ) (os : List OpNumber) → All (λ (p : OpNumber). x < p.0) os → has os x ≡ false
has_none x [] a = refl
has_none x (o ∷ os) a =
    let less = All-head (λ (p : OpNumber). x < p.0) o os a in
    ap (λ (b : Bool). b || has os x) (ne_eqb o.0 x (λ e. omega (arith, less, e)))
    ∙ has_none x os (All-tail (λ (p : OpNumber). x < p.0) o os a)

has_head : (o : OpNumber) (os : List OpNumber) → has (o ∷ os) o.0 ≡ true
has_head o os = ap (λ (b : Bool). b || has os o.0) (eq-eqb o.0 o.0 refl)

-- all are greater, where those of an ordered list are
behind_all : (x : ℕ) (o : OpNumber) (os : List OpNumber) → x < o.0 → AreOrdered (o ∷ os) → All (λ (p : OpNumber). x < p.0) (o ∷ os)
behind_all x o os l a = All-cons (λ (p : OpNumber). x < p.0) o os l
    (All-weaker (λ (p : OpNumber). o.0 < p.0) (λ (p : OpNumber). x < p.0) (λ p h. omega (arith, l, h)) os a.0)

-- beside one head the others have the same members
same_rest : (o p : OpNumber) (os ps : List OpNumber) → AreOrdered (o ∷ os) → AreOrdered (p ∷ ps) → o ≡ p →
    ((x : ℕ) → has (o ∷ os) x ≡ has (p ∷ ps) x) → (x : ℕ) → has os x ≡ has ps x
same_rest o p os ps a b e h x = ⊎_elim
    (λ t. has_none x os (subst (λ k. All (λ (q : OpNumber). k < q.0) os) (eqb-true o.0 x t) a.0)
    ∙ sym (has_none x ps (subst (λ k. All (λ (q : OpNumber). k < q.0) ps) (ap (λ (q : OpNumber). q.0) (sym e) ∙ eqb-true o.0 x t) b.0)))
    (λ f. sym (ap (λ (c : Bool). c || has os x) f) ∙ h x
    ∙ ap (λ (c : Bool). c || has ps x) (sym (ap (λ (q : OpNumber). q.0 == x) e) ∙ f))
    (cases_Bool (o.0 == x))

pub ordered_same : (os ps : List OpNumber) → AreOrdered os → AreOrdered ps → ((x : ℕ) → has os x ≡ has ps x) → os ≡ ps
ordered_same [] [] a b h = refl
ordered_same [] (p ∷ ps) a b h = absurd (false≢true (h p.0 ∙ has_head p ps))
ordered_same (o ∷ os) [] a b h = absurd (false≢true (sym (h o.0) ∙ has_head o os))
ordered_same (o ∷ os) (p ∷ ps) a b h = ⊎_elim
    (λ e. let same : o ≡ p = ap (λ (k : ℕ). let r : OpNumber = record { 0 = k } in r) e in
    ap (λ (q : OpNumber). q ∷ os) same
    ∙ ap (λ (qs : List OpNumber). p ∷ qs) (ordered_same os ps a.1 b.1 (same_rest o p os ps a b same h)))
    (λ d. ⊎_elim
    (λ l. absurd (false≢true (sym (has_none o.0 (p ∷ ps) (behind_all o.0 p ps l b)) ∙ sym (h o.0) ∙ has_head o os)))
    (λ g. absurd (false≢true (sym (has_none p.0 (o ∷ os) (behind_all p.0 o os g a)) ∙ h p.0 ∙ has_head p ps))) d)
    (cases_order o.0 p.0)
