-- Entries of which some are of operations that have ended.
use Rattle.std.specs.Prelude.{IfNone, IfSome, None, Option, Some, filter}
use Rattle.std.specs.Option.{is_some}
use Rattle.std.specs.List.Sorted.{IsNonDecreasingBy}
use Rattle.std.proofs.Common.{◌≡◌, ◌≢◌, ◌<◌, ◌≤◌, ◌==◌, ◌++◌, ◌||◌, ◌∷◌, [], ◌∙◌, ℕ, suc, zero, Bool, true, false, cond, not, List, All, ⊎_elim, ap, sym, refl, subst, arith, drop, get_or, length, map, set, take}
use Rattle.std.proofs.lemmas.Bool.{cases_Bool, cases_order, eq-eqb, le-ltb, lt-ltb, ne_eqb}
use Rattle.std.proofs.lemmas.List.{drop-map, get_or-map, length-map, map-append, take-map}
use Rattle.std.proofs.lemmas.List.Elements.{All-cons, All-from_get_or, All-head, All-map, All-nil, All-tail, All-weaker}
use Rattle.std.proofs.lemmas.List.Folds.{list_any_none}
use Rattle.region_finder.specs.Listings.{Listed, has_op, inserted, is_op, without}
use Rattle.region_walk.specs.Keeping.{IsPlaceAmong, StandsAt, end_op, entries_of, is_live, live}
use Rattle.region_walk.specs.Placing.{AreBehind, IsPlace, IsRising}
use Rattle.region_walk.specs.declared.entries.Kept.{Kept}
use Rattle.region_walk.proofs.Rising.{inserted_at, or_no, up_to}

-- ---- places

pub behind_get : (op : ℕ) (ks : List Kept) (i : ℕ) (d : Kept) → AreBehind op (entries_of ks) → i < length ks → op < (get_or ks i d).entry.op.0
behind_get op [] i d a l = absurd (omega (arith, l))
behind_get op (k ∷ ks) zero d a l = All-head (λ (e : Listed). op < e.op.0) k.entry (entries_of ks) a
behind_get op (k ∷ ks) (suc i) d a l = behind_get op ks i d (All-tail (λ (e : Listed). op < e.op.0) k.entry (entries_of ks) a) (omega (arith, l))

entries_up : (ks : List Kept) (i j : ℕ) (d : Kept) → IsRising (entries_of ks) → i < j → j < length ks →
    (get_or ks i d).entry.op.0 < (get_or ks j d).entry.op.0
entries_up [] i j d r l b = absurd (omega (arith, b))
entries_up (k ∷ ks) i zero d r l b = absurd (omega (arith, l))
entries_up (k ∷ ks) zero (suc j) d r l b = behind_get k.entry.op.0 ks j d r.0 (omega (arith, b))
entries_up (k ∷ ks) (suc i) (suc j) d r l b = entries_up ks i j d r.1 (omega (arith, l)) (omega (arith, b))

pub entries_rise : (ks : List Kept) → IsRising (entries_of ks) → IsNonDecreasingBy (λ (k : Kept). k.entry.op.0) ks
entries_rise ks r i j d l b = ⊎_elim
    (λ e. subst (λ n. (get_or ks i d).entry.op.0 ≤ (get_or ks n d).entry.op.0) e (omega arith))
    (λ h. ⊎_elim (λ less. let up = entries_up ks i j d r less b in omega (arith, up)) (λ more. absurd (omega (arith, l, more))) h)
    (cases_order i j)

-- one of those up to an operation stands before all that are greater
pub up_to_kept : (op i : ℕ) (ks : List Kept) (d : Kept) → IsRising (entries_of ks) → i < length ks → (get_or ks i d).entry.op.0 ≤ op →
    All (λ (e : Listed). e.op.0 ≤ op) (take (suc i) (entries_of ks))
up_to_kept op i ks d r l h =
    up_to op i (entries_of ks) d.entry r (omega (arith, l, length-map ks (λ (k : Kept). k.entry)))
    (subst (λ (e : Listed). e.op.0 ≤ op) (sym (get_or-map (λ (k : Kept). k.entry) ks i d d.entry l)) h)

-- one before those that are greater is greater
pub behind_more : (op i : ℕ) (ks : List Kept) (d : Kept) → i < length ks → op < (get_or ks i d).entry.op.0 →
    AreBehind op (drop (suc i) (entries_of ks)) → AreBehind op (drop i (entries_of ks))
behind_more op i [] d l h a = absurd (omega (arith, l))
behind_more op zero (k ∷ ks) d l h a = All-cons (λ (e : Listed). op < e.op.0) k.entry (entries_of ks) h a
behind_more op (suc i) (k ∷ ks) d l h a = behind_more op i ks d (omega (arith, l)) h a

-- ---- an operation among them

pub behind_none : (op : ℕ) (ls : List Listed) → AreBehind op ls → has_op ls op ≡ false
behind_none op ls a =
    list_any_none (is_op op) ls (All-weaker (λ (l : Listed). op < l.op.0) (λ (l : Listed). is_op op l ≡ false) (λ l h. ne_eqb l.op.0 op (λ e. omega (arith, e, h))) ls a)

pub nowhere : (op i : ℕ) (ks : List Kept) → IsRising (entries_of ks) → IsPlaceAmong op ks i →
    ((d : Kept) → i < length ks → (get_or ks i d).entry.op.0 ≢ op) → has_op (entries_of ks) op ≡ false
nowhere op i [] r p h = refl
nowhere op i (k ∷ ks) r p h =
    list_any_none (is_op op) (entries_of (k ∷ ks))
    (All-map (λ (e : Listed). is_op op e ≡ false) (λ (j : Kept). j.entry) (k ∷ ks)
    (All-from_get_or (λ (j : Kept). is_op op j.entry ≡ false) (k ∷ ks) k (λ j l. ne_eqb (get_or (k ∷ ks) j k).entry.op.0 op (other j l))))
  where
    other : (j : ℕ) → j < length (k ∷ ks) → (get_or (k ∷ ks) j k).entry.op.0 ≢ op
    other j l e = ⊎_elim
        (λ same. h k (omega (arith, l, same)) (subst (λ n. (get_or (k ∷ ks) n k).entry.op.0 ≡ op) (sym same) e))
        (λ o. ⊎_elim
        (λ less. let up = entries_up (k ∷ ks) i j k r less l in let low = p.behind i k (omega arith) (omega (arith, less, l)) in absurd (omega (arith, up, low, e)))
        (λ more. let low = p.before j k more in absurd (omega (arith, low, e))) o)
        (cases_order i j)

pub somewhere : (op i : ℕ) (ks : List Kept) → StandsAt op ks i → has_op (entries_of ks) op ≡ true
somewhere op i [] s = absurd (omega (arith, s.below))
somewhere op zero (k ∷ ks) s = ap (λ (b : Bool). b || has_op (entries_of ks) op) (eq-eqb k.entry.op.0 op (s.number k))
somewhere op (suc i) (k ∷ ks) s =
    ap (λ (b : Bool). (k.entry.op.0 == op) || b) (somewhere op i ks (record { below = omega (arith, s.below); number = s.number })) ∙ or_true (k.entry.op.0 == op)
  where
    or_true : (b : Bool) → (b || true) ≡ true
    or_true true = refl
    or_true false = refl

-- what is told of its place tells it
pub told : (op : ℕ) (ks : List Kept) (place : Option ℕ) → IfSome place (StandsAt op ks) → IfNone place (has_op (entries_of ks) op ≡ false) →
    is_some place ≡ has_op (entries_of ks) op
told op ks None h g = sym g
told op ks (Some i) h g = sym (somewhere op i ks h)

-- ---- those that haven't ended

all_live : (P : Listed → Type 0) (ks : List Kept) → All P (entries_of ks) → All P (live ks)
all_live P [] a = All-nil P
all_live P (k ∷ ks) a = by k.ended (all_live P ks (All-tail P k.entry (entries_of ks) a))
  where
    by : (b : Bool) → All P (live ks) → All P (cond b (live ks) (k.entry ∷ live ks))
    by true h = h
    by false h = All-cons P k.entry (live ks) (All-head P k.entry (entries_of ks) a) h

pub live_get : (P : Listed → Type 0) (ks : List Kept) (i : ℕ) (d : Kept) → All P (live ks) → i < length ks →
    (get_or ks i d).ended ≡ false → P (get_or ks i d).entry
live_get P [] i d a l h = absurd (omega (arith, l))
live_get P (k ∷ ks) zero d a l h =
    All-head P k.entry (live ks) (subst (λ (b : Bool). All P (cond b (live ks) (k.entry ∷ live ks))) h a)
live_get P (k ∷ ks) (suc i) d a l h = live_get P ks i d (by k.ended a) (omega (arith, l)) h
  where
    by : (b : Bool) → All P (cond b (live ks) (k.entry ∷ live ks)) → All P (live ks)
    by true g = g
    by false g = All-tail P k.entry (live ks) g

pub rising_live : (ks : List Kept) → IsRising (entries_of ks) → IsRising (live ks)
rising_live [] r = tt
rising_live (k ∷ ks) r = by k.ended (rising_live ks r.1)
  where
    by : (b : Bool) → IsRising (live ks) → IsRising (cond b (live ks) (k.entry ∷ live ks))
    by true h = h
    by false h = (all_live (λ (e : Listed). k.entry.op.0 < e.op.0) ks r.0, h)

pub unlisted : (op : ℕ) (ks : List Kept) → has_op (entries_of ks) op ≡ false → has_op (live ks) op ≡ false
unlisted op [] h = refl
unlisted op (k ∷ ks) h = let parts = or_no (is_op op k.entry) (has_op (entries_of ks) op) h in by k.ended parts.0 (unlisted op ks parts.1)
  where
    by : (b : Bool) → is_op op k.entry ≡ false → has_op (live ks) op ≡ false → has_op (cond b (live ks) (k.entry ∷ live ks)) op ≡ false
    by true h g = g
    by false h g = ap (λ (b : Bool). b || has_op (live ks) op) h ∙ g

-- at an operation's place one sees whether it has ended
pub live_at : (op i : ℕ) (ks : List Kept) (d : Kept) → IsRising (entries_of ks) → StandsAt op ks i →
    not (get_or ks i d).ended ≡ has_op (live ks) op
live_at op i [] d r s = absurd (omega (arith, s.below))
live_at op zero (k ∷ ks) d r s = by k.ended
  where
    none : has_op (live ks) op ≡ false
    none = behind_none op (live ks) (all_live (λ (e : Listed). op < e.op.0) ks (subst (λ (n : ℕ). AreBehind n (entries_of ks)) (s.number k) r.0))

    by : (b : Bool) → not b ≡ has_op (cond b (live ks) (k.entry ∷ live ks)) op
    by true = sym none
    by false = sym (ap (λ (b : Bool). b || has_op (live ks) op) (eq-eqb k.entry.op.0 op (s.number k)))
live_at op (suc i) (k ∷ ks) d r s = live_at op i ks d r.1 rest ∙ by k.ended
  where
    rest : StandsAt op ks i
    rest = record { below = omega (arith, s.below); number = s.number }

    first : k.entry.op.0 < op
    first = subst (λ (n : ℕ). k.entry.op.0 < n) (s.number d) (behind_get k.entry.op.0 ks i d r.0 rest.below)

    by : (b : Bool) → has_op (live ks) op ≡ has_op (cond b (live ks) (k.entry ∷ live ks)) op
    by true = refl
    by false = sym (ap (λ (b : Bool). b || has_op (live ks) op) (ne_eqb k.entry.op.0 op (λ e. omega (arith, e, first))))

-- ---- one ends

or_alike : (b c : Bool) → c ≡ false → (b || c) ≡ b
or_alike true c h = refl
or_alike false c h = h

end_other : (op : ℕ) (k : Kept) → (k.entry.op.0 == op) ≡ false → end_op op k ≡ k
end_other op k h = ap (λ (b : Bool). record { entry = k.entry; ended = b }) (or_alike k.ended (k.entry.op.0 == op) h)

pub ended_nowhere : (op : ℕ) (ks : List Kept) → has_op (entries_of ks) op ≡ false → map (end_op op) ks ≡ ks
ended_nowhere op [] h = refl
ended_nowhere op (k ∷ ks) h =
    let parts = or_no (is_op op k.entry) (has_op (entries_of ks) op) h in
    ap (λ (j : Kept). j ∷ map (end_op op) ks) (end_other op k parts.0) ∙ ap (λ (js : List Kept). k ∷ js) (ended_nowhere op ks parts.1)

pub ended_at : (op i : ℕ) (ks : List Kept) (d : Kept) → IsRising (entries_of ks) → StandsAt op ks i →
    set ks i (record { entry = (get_or ks i d).entry; ended = true }) ≡ map (end_op op) ks
ended_at op i [] d r s = absurd (omega (arith, s.below))
ended_at op zero (k ∷ ks) d r s =
    ap (λ (b : Bool). record { entry = k.entry; ended = b } ∷ ks) (sym (or_alike_true k.ended (k.entry.op.0 == op) (eq-eqb k.entry.op.0 op (s.number k))))
    ∙ ap (λ (js : List Kept). end_op op k ∷ js)
    (sym (ended_nowhere op ks (behind_none op (entries_of ks) (subst (λ (n : ℕ). AreBehind n (entries_of ks)) (s.number k) r.0))))
  where
    or_alike_true : (b c : Bool) → c ≡ true → (b || c) ≡ true
    or_alike_true true c h = refl
    or_alike_true false c h = h
ended_at op (suc i) (k ∷ ks) d r s =
    let rest : StandsAt op ks i = record { below = omega (arith, s.below); number = s.number } in
    let first : k.entry.op.0 < op = subst (λ (n : ℕ). k.entry.op.0 < n) (s.number d) (behind_get k.entry.op.0 ks i d r.0 rest.below) in
    ap (λ (js : List Kept). k ∷ js) (ended_at op i ks d r.1 rest)
    ∙ ap (λ (j : Kept). j ∷ map (end_op op) ks) (sym (end_other op k (ne_eqb k.entry.op.0 op (λ e. omega (arith, e, first)))))

pub entries_ended : (op : ℕ) (ks : List Kept) → entries_of (map (end_op op) ks) ≡ entries_of ks
entries_ended op [] = refl
entries_ended op (k ∷ ks) = ap (λ (ls : List Listed). k.entry ∷ ls) (entries_ended op ks)

pub live_ended : (op : ℕ) (ks : List Kept) → live (map (end_op op) ks) ≡ without (live ks) op
live_ended op [] = refl
live_ended op (k ∷ ks) =
    ap (λ (ls : List Listed). cond (k.ended || (k.entry.op.0 == op)) ls (k.entry ∷ ls)) (live_ended op ks)
    ∙ by k.ended (k.entry.op.0 == op) ∙ out k.ended
  where
    by : (a b : Bool) → cond (a || b) (without (live ks) op) (k.entry ∷ without (live ks) op)
        ≡ cond a (without (live ks) op) (cond (not b) (k.entry ∷ without (live ks) op) (without (live ks) op))
    by true b = refl
    by false true = refl
    by false false = refl

    out : (a : Bool) → cond a (without (live ks) op) (cond (not (k.entry.op.0 == op)) (k.entry ∷ without (live ks) op) (without (live ks) op))
        ≡ without (cond a (live ks) (k.entry ∷ live ks)) op
    out true = refl
    out false = refl

-- ---- those that have ended are taken out

pub entries_tidied : (ks : List Kept) → entries_of (filter is_live ks) ≡ live ks
entries_tidied [] = refl
entries_tidied (k ∷ ks) = by k.ended ∙ ap (λ (ls : List Listed). cond k.ended ls (k.entry ∷ ls)) (entries_tidied ks)
  where
    by : (b : Bool) → entries_of (cond (not b) (k ∷ filter is_live ks) (filter is_live ks)) ≡ cond b (entries_of (filter is_live ks)) (k.entry ∷ entries_of (filter is_live ks))
    by true = refl
    by false = refl

pub live_tidied : (ks : List Kept) → live (filter is_live ks) ≡ live ks
live_tidied [] = refl
live_tidied (k ∷ ks) = ⊎_elim
    (λ h. ap (λ (b : Bool). live (cond (not b) (k ∷ filter is_live ks) (filter is_live ks))) h ∙ live_tidied ks
    ∙ sym (ap (λ (b : Bool). cond b (live ks) (k.entry ∷ live ks)) h))
    (λ h. ap (λ (b : Bool). live (cond (not b) (k ∷ filter is_live ks) (filter is_live ks))) h
    ∙ ap (λ (b : Bool). cond b (live (filter is_live ks)) (k.entry ∷ live (filter is_live ks))) h
    ∙ ap (λ (ls : List Listed). k.entry ∷ ls) (live_tidied ks)
    ∙ sym (ap (λ (b : Bool). cond b (live ks) (k.entry ∷ live ks)) h))
    (cases_Bool k.ended)

pub absent_tidied : (op : ℕ) (ks : List Kept) → has_op (live ks) op ≡ false → has_op (entries_of (filter is_live ks)) op ≡ false
absent_tidied op ks h = ap (λ (ls : List Listed). has_op ls op) (entries_tidied ks) ∙ h

-- ---- one more

pub entries_added : (place : ℕ) (k : Kept) (ks : List Kept) → IsPlace k.entry.op.0 (entries_of ks) place →
    entries_of (take place ks ++ k ∷ drop place ks) ≡ inserted k.entry (entries_of ks)
entries_added place k ks p =
    map-append (λ (j : Kept). j.entry) (take place ks) (k ∷ drop place ks)
    ∙ ap (λ (ls : List Listed). ls ++ k.entry ∷ entries_of (drop place ks)) (sym (take-map (λ (j : Kept). j.entry) place ks))
    ∙ ap (λ (ls : List Listed). take place (entries_of ks) ++ k.entry ∷ ls) (sym (drop-map (λ (j : Kept). j.entry) place ks))
    ∙ sym (inserted_at place k.entry (entries_of ks) p)

first_of : (e : Listed) (ls : List Listed) → AreBehind e.op.0 ls → inserted e ls ≡ e ∷ ls
first_of e [] a = refl
first_of e (l ∷ ls) a = ap (λ (c : Bool). cond c (e ∷ l ∷ ls) (l ∷ inserted e ls)) (lt-ltb e.op.0 l.op.0 (All-head (λ (m : Listed). e.op.0 < m.op.0) l ls a))

pub live_added : (place : ℕ) (e : Listed) (ks : List Kept) → IsPlace e.op.0 (entries_of ks) place →
    live (take place ks ++ record { entry = e; ended = false } ∷ drop place ks) ≡ inserted e (live ks)
live_added zero e ks p = sym (first_of e (live ks) (all_live (λ (m : Listed). e.op.0 < m.op.0) ks p.behind))
live_added (suc i) e [] p = refl
live_added (suc i) e (k ∷ ks) p =
    ap (λ (ls : List Listed). cond k.ended ls (k.entry ∷ ls)) (live_added i e ks rest) ∙ by k.ended
  where
    rest : IsPlace e.op.0 (entries_of ks) i
    rest = record { before = All-tail (λ (m : Listed). m.op.0 ≤ e.op.0) k.entry (take i (entries_of ks)) p.before; behind = p.behind }

    by : (b : Bool) → cond b (inserted e (live ks)) (k.entry ∷ inserted e (live ks)) ≡ inserted e (cond b (live ks) (k.entry ∷ live ks))
    by true = refl
    by false = sym (ap (λ (c : Bool). cond c (e ∷ k.entry ∷ live ks) (k.entry ∷ inserted e (live ks)))
        (le-ltb e.op.0 k.entry.op.0 (All-head (λ (m : Listed). m.op.0 ≤ e.op.0) k.entry (take i (entries_of ks)) p.before)))
