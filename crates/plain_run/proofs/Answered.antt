-- Answers that are kept tell what the values of all children tell, xs long xs a frame may ask.
use Rattle.std.proofs.Common.{arith, ◌≡◌, ◌<◌, ◌≤◌, ◌-◌, ◌+◌, ◌==◌, ◌++◌, ◌⊎◌, ◌||◌, ℕ, ℤ, zero, suc, pos, Bool, true, false, cond, List, [], ◌∷◌, append-nil, append_assoc, length-append, inl, inr, refl, sym, ap, subst, ◌∙◌, length, get_or, nat_le}
use Rattle.std.specs.Prelude.{All, filter}
use Rattle.std.specs.List.{Contains, list_any}
use Rattle.std.proofs.lemmas.Bool.{cases_lt, eq-eqb, le-leb, ne_eqb}
use Rattle.std.proofs.lemmas.List.{get_or-append_right, get_or_append_left}
use Rattle.std.proofs.lemmas.List.Elements.{All-append, All-cons, All-filter, All-head, All-nil, All-tail, All-weaker, Contains-append_cases}
use Rattle.machine_terms.specs.declared.frame.Frame.{Frame}
use Rattle.machine_terms.specs.declared.value.Value.{Value}
use Rattle.machine_terms.specs.declared.value.Value.TheVariants as value
use Rattle.segment_regions.specs.Pendings.{MayAsk}
use Rattle.plain_run.specs.Answers.{KeptAnswers, LetGo, Serves, answer_in, answers_from, may_ask, pendings, with_numbers}
use Rattle.plain_run.specs.declared.answers.Answer.{Answer}

abbrev IsBelow : ℕ → Answer → Type 0
IsBelow m x = x.child < m

or_true : (a : Bool) {b : Bool} → b ≡ true → (a || b) ≡ true
or_true true e = refl
or_true false e = e

-- ---- one answer among others

-- an answer of another child
other : (m n : ℕ) (z rest : ℤ) → (m ≡ n → ⊥) → cond (m == n) z rest ≡ rest
other m n z rest differ = ap (λ (b : Bool). cond b z rest) (ne_eqb m n differ)

earlier_unknown : (n m : ℕ) (zs : List ℤ) → n < m → answer_in (answers_from m zs) n ≡ pos 0
earlier_unknown n m [] l = refl
earlier_unknown n m (z ∷ zs) l =
    other m n z (answer_in (answers_from (suc m) zs) n) (λ e. absurd (omega (arith, l, e)))
    ∙ earlier_unknown n (suc m) zs (omega (arith, l))

-- of a child before them, later answers tell nothing
told_before : (n m : ℕ) (xs : List Answer) (zs : List ℤ) → n < m →
    answer_in (xs ++ answers_from m zs) n ≡ answer_in xs n
told_before n m [] zs l = earlier_unknown n m zs l
told_before n m (a ∷ xs) zs l = ap (cond (a.child == n) a.number) (told_before n m xs zs l)

-- of a later child, the answers before tell nothing
told_behind : (n m : ℕ) (xs more : List Answer) → All (IsBelow m) xs → m ≤ n →
    answer_in (xs ++ more) n ≡ answer_in more n
told_behind n m [] more h l = refl
told_behind n m (a ∷ xs) more h l =
    let below : a.child < m = All-head (IsBelow m) a xs h in
    other a.child n a.number (answer_in (xs ++ more) n) (λ e. absurd (omega (arith, l, e, below)))
    ∙ told_behind n m xs more (All-tail (IsBelow m) a xs h) l

told_from : (n m : ℕ) (zs : List ℤ) → m ≤ n →
    answer_in (answers_from m zs) n ≡ get_or zs (n - m) (pos 0)
told_from n m [] l = refl
told_from n m (z ∷ zs) l = by (cases_lt m n) (told_from n (suc m) zs)
  where
    by : (m < n) ⊎ (n ≤ m) →
        (suc m ≤ n → answer_in (answers_from (suc m) zs) n ≡ get_or zs (n - suc m) (pos 0)) →
        cond (m == n) z (answer_in (answers_from (suc m) zs) n) ≡ get_or (z ∷ zs) (n - m) (pos 0)
    by (inl less) rest =
        let down : n - m ≡ suc (n - suc m) = omega (arith, less) in
        other m n z (answer_in (answers_from (suc m) zs) n) (λ e. absurd (omega (arith, less, e)))
        ∙ rest (omega (arith, less)) ∙ ap (λ (k : ℕ). get_or (z ∷ zs) k (pos 0)) (sym down)
    by (inr most) rest =
        let none : n - m ≡ 0 = omega (arith, l, most) in
        ap (λ (b : Bool). cond b z (answer_in (answers_from (suc m) zs) n)) (eq-eqb m n (omega (arith, l, most)))
        ∙ ap (λ (k : ℕ). get_or (z ∷ zs) k (pos 0)) (sym none)

-- ---- more answers

are_below : (m : ℕ) (zs : List ℤ) → All (IsBelow (m + length zs)) (answers_from m zs)
are_below m [] = All-nil (IsBelow (m + 0))
are_below m (z ∷ zs) =
    let same : suc m + length zs ≡ m + suc (length zs) = omega arith in
    All-cons (IsBelow (m + suc (length zs))) (record { child = m; number = z }) (answers_from (suc m) zs) (omega arith)
    (subst (λ (k : ℕ). All (IsBelow k) (answers_from (suc m) zs)) same (are_below (suc m) zs))

-- with the values of more children the answers serve xs all values do
pub serves_more : (a : KeptAnswers) (f : Frame) (rs zs : List ℤ) → Serves a f rs →
    Serves (with_numbers zs a) f (rs ++ zs)
serves_more a f rs zs h = record {
  count = ap (λ (n : ℕ). n + length zs) h.count
      ∙ (let e : length rs + length zs ≡ length (rs ++ zs) = grind (arith, length-append) in e);
  below = All-append (IsBelow (a.count + length zs)) a.kept (answers_from a.count zs)
      (All-weaker (IsBelow a.count) (IsBelow (a.count + length zs)) (λ x l. omega (arith, l)) a.kept h.below) (are_below a.count zs);
  told = λ n may. by n may (cases_lt n a.count);
}
  where
    by : (n : ℕ) → MayAsk f n → (n < a.count) ⊎ (a.count ≤ n) →
        answer_in (a.kept ++ answers_from a.count zs) n ≡ get_or (rs ++ zs) n (pos 0)
    by n may (inr behind) =
        told_behind n a.count a.kept (answers_from a.count zs) h.below behind
        ∙ told_from n a.count zs behind
        ∙ sym (get_or-append_right rs zs a.count n (pos 0) (sym h.count) behind)
    by n may (inl before) =
        let inside : n < length rs = subst (λ (k : ℕ). n < k) h.count before in
        told_before n a.count a.kept zs before ∙ h.told n may
        ∙ sym (get_or_append_left rs zs (pos 0) n inside)

-- ---- answers that are let go

told_still : (n : ℕ) (stays : ℕ → Bool) (xs : List Answer) → stays n ≡ true →
    answer_in (filter (λ (x : Answer). stays x.child) xs) n ≡ answer_in xs n
told_still n stays [] s = refl
told_still n stays (a ∷ xs) s = go (stays a.child) refl (told_still n stays xs s)
  where
    go : (b : Bool) → stays a.child ≡ b →
        answer_in (filter (λ (x : Answer). stays x.child) xs) n ≡ answer_in xs n →
        answer_in (cond b (a ∷ filter (λ (x : Answer). stays x.child) xs) (filter (λ (x : Answer). stays x.child) xs)) n
        ≡ cond (a.child == n) a.number (answer_in xs n)
    go true e rest = ap (cond (a.child == n) a.number) rest
    go false e rest = rest ∙ sym (other a.child n a.number (answer_in xs n)
        (λ same. absurd (let q : true ≡ false = sym s ∙ ap stays (sym same) ∙ e in cc)))

-- those that are pending among values
any_of : (n : ℕ) (vs : List Value) (more : List ℕ) → Contains vs (value.Pending n) →
    list_any (λ m. m == n) (pendings vs ++ more) ≡ true
any_of n [] more (i, l, e) = absurd (omega (arith, l))
any_of n (v ∷ vs) more c =
    by v (Contains-append_cases (v ∷ []) vs (value.Pending n) c) (any_of n vs more)
  where
    one : (w : Value) → w ≡ value.Pending n →
        list_any (λ m. m == n) (pendings (w ∷ vs) ++ more) ≡ true
    one (value.Pending m) e = let same : m ≡ n = cc in
        ap (λ (b : Bool). b || list_any (λ m. m == n) (pendings vs ++ more)) (eq-eqb m n same)
    one (value.Number x) e = absurd cc
    one (value.Space x) e = absurd cc
    one (value.Region r) e = absurd cc
    one (value.Partition p) e = absurd cc

    rest : (w : Value) → list_any (λ m. m == n) (pendings vs ++ more) ≡ true →
        list_any (λ m. m == n) (pendings (w ∷ vs) ++ more) ≡ true
    rest (value.Pending m) e = or_true (m == n) e
    rest (value.Number x) e = e
    rest (value.Space x) e = e
    rest (value.Region r) e = e
    rest (value.Partition p) e = e

    by : (w : Value) → Contains (w ∷ []) (value.Pending n) ⊎ Contains vs (value.Pending n) →
        (Contains vs (value.Pending n) → list_any (λ m. m == n) (pendings vs ++ more) ≡ true) →
        list_any (λ m. m == n) (pendings (w ∷ vs) ++ more) ≡ true
    by w (inl (zero, l, e)) more_of = one w e
    by w (inl (suc k, l, e)) more_of = absurd (omega (arith, l))
    by w (inr d) more_of = rest w (more_of d)

any_behind : (n : ℕ) (ms more : List ℕ) → list_any (λ m. m == n) more ≡ true →
    list_any (λ m. m == n) (ms ++ more) ≡ true
any_behind n [] more e = e
any_behind n (m ∷ ms) more e = or_true (m == n) (any_behind n ms more e)

pub let_go_none : (a : KeptAnswers) (f : Frame) → LetGo a a f
let_go_none a f =
    record { stays = λ n. true; kept = all a.kept; count = refl; asked = λ n may. refl }
  where
    all : (xs : List Answer) → xs ≡ filter (λ (x : Answer). true) xs
    all [] = refl
    all (x ∷ xs) = ap (λ (ys : List Answer). x ∷ ys) (all xs)

pub let_go_some : (a b : KeptAnswers) (f : Frame) (pending : List ℕ) →
    pending ≡ pendings f.slots ++ pendings f.stack →
    b.kept ≡ filter (λ (x : Answer). may_ask f.children pending x.child) a.kept →
    b.count ≡ a.count → LetGo a b f
let_go_some a b f pending is kept count = record {
  stays = may_ask f.children pending;
  kept = kept;
  count = count;
  asked = λ n may. ap (λ (ms : List ℕ). may_ask f.children ms n) is ∙ by n may;
}
  where
    by : (n : ℕ) → MayAsk f n → may_ask f.children (pendings f.slots ++ pendings f.stack) n ≡ true
    by n (inl (inl c)) = or_true (nat_le f.children n) (any_of n f.slots (pendings f.stack) c)
    by n (inl (inr c)) =
        or_true (nat_le f.children n) (any_behind n (pendings f.slots) (pendings f.stack)
        (subst (λ (ms : List ℕ). list_any (λ m. m == n) ms ≡ true) (append-nil (pendings f.stack)) (any_of n f.stack [] c)))
    by n (inr l) = ap (λ (b : Bool). b || list_any (λ m. m == n) (pendings f.slots ++ pendings f.stack)) (le-leb f.children n l)

-- what is left where answers were let go serves xs before
pub serves_still : (a b : KeptAnswers) (f : Frame) (rs : List ℤ) → LetGo a b f → Serves a f rs →
    Serves b f rs
serves_still a b f rs g h = record {
  count = g.count ∙ h.count;
  below = subst (λ (xs : List Answer). All (IsBelow b.count) xs) (sym g.kept)
      (All-filter (λ (x : Answer). g.stays x.child) (IsBelow b.count) a.kept
      (subst (λ (n : ℕ). All (IsBelow n) a.kept) (sym g.count) h.below));
  told = λ n may. ap (λ (xs : List Answer). answer_in xs n) g.kept
      ∙ told_still n g.stays a.kept (g.asked n may) ∙ h.told n may;
}

-- and so do answers for a frame that asks for no more
pub serves_fewer : (a : KeptAnswers) (f g : Frame) (rs : List ℤ) →
    ((n : ℕ) → MayAsk g n → MayAsk f n) → Serves a f rs → Serves a g rs
serves_fewer a f g rs no_more h =
    record { count = h.count; below = h.below; told = λ n may. h.told n (no_more n may) }

-- ---- calls of the code

kept_so : {xs ys : List Answer} {m n : ℕ} → xs ≡ ys → m ≡ n →
    (let a : KeptAnswers = record { kept = xs; count = m } in a) ≡ (let a : KeptAnswers = record { kept = ys; count = n } in a)
kept_so e f = cc

-- one after another
pub number_next : (a : KeptAnswers) (z : ℤ) (zs : List ℤ) →
    with_numbers (z ∷ zs) a ≡ with_numbers zs (record { kept = a.kept ++ record { child = a.count; number = z } ∷ []; count = a.count + 1 })
number_next a z zs =
    let count : a.count + suc (length zs) ≡ a.count + 1 + length zs = omega arith in
    let next : suc a.count ≡ a.count + 1 = omega arith in
    kept_so
    (sym (append_assoc a.kept (record { child = a.count; number = z } ∷ []) (answers_from (suc a.count) zs))
    ∙ ap (λ (k : ℕ). (a.kept ++ record { child = a.count; number = z } ∷ []) ++ answers_from k zs) next) count

pub none_more : (a : KeptAnswers) → with_numbers [] a ≡ a
none_more a =
    let count : a.count + 0 ≡ a.count = omega arith in
    kept_so (append-nil a.kept) count
