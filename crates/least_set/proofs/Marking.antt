-- What a mark that changes leaves of the heap's order, of its room, and of the set.
use Rattle.std.specs.Prelude.{Err, IfNone, IfSome, IsOk, None, Ok, OnOk, Option, Result, Some}
use Rattle.std.proofs.Common.{◌≡◌, ◌<◌, ◌≤◌, ◌+◌, ◌++◌, ◌∷◌, [], ◌∙◌, ℕ, suc, Bool, true, false, cond, List, All, ⊎_elim, ap, sym, refl, subst, arith, get_or, length, set, count_by}
use Rattle.std.proofs.lemmas.Bool.{cases_Bool, cases_eq, cases_lt, false≢true}
use Rattle.std.proofs.lemmas.List.{get_or-map, get_or-set_same, get_or-set_other, get_or_append_left, get_or_past, length-map, length-set, length_push, map-set, set-get_or, get_or_push}
use Rattle.std.proofs.lemmas.List.Elements.{All-cons, All-contains, All-tail, All-weaker}
use Rattle.std.proofs.lemmas.List.Sorted.{All-permutation, Contains-permutation, length_permutation}
use Rattle.std.proofs.lemmas.List.Sums.{count_by-le-length, sum_by-set}
use Rattle.std.proofs.lemmas.Map.Made.{Contains-tail}
use Rattle.std.specs.BinaryHeap.{IsHeap}
use Rattle.std.specs.List.{Contains}
use Rattle.std.specs.List.Sorted.{IsPermutation}
use Rattle.std.specs.declared.cmp.Reverse.{Reverse}
use Rattle.least_set.specs.Marks.{IsMarked, IsTidy, by_least, flags_of, is_absent, is_present, mark_at}
use Rattle.least_set.specs.Members.{IsLeast, has}
use Rattle.least_set.specs.declared.mark.Mark.{Mark}
use Rattle.least_set.specs.declared.mark.Mark.TheVariants.{Absent, Left, Present}

present_stands : (m : Mark) → is_present m ≡ true → is_absent m ≡ false
present_stands Absent h = absurd (false≢true h)
present_stands Left h = absurd (false≢true h)
present_stands Present h = refl

-- ---- flags

pub has_flag : (marks : List Mark) (k : ℕ) → has (flags_of marks) k ≡ is_present (mark_at marks k)
has_flag marks k = ⊎_elim
    (λ l. get_or-map is_present marks k Absent false l)
    (λ g. get_or_past (flags_of marks) k false (omega (arith, length-map marks is_present))
    ∙ ap is_present (sym (get_or_past marks k Absent g)))
    (cases_lt k (length marks))

-- a mark that says the same of the set
pub same_flags : (marks : List Mark) (k : ℕ) (m : Mark) → is_present m ≡ is_present (mark_at marks k) →
    flags_of (set marks k m) ≡ flags_of marks
same_flags marks k m e =
    map-set is_present marks k m ∙ ap (λ (b : Bool). set (flags_of marks) k b) e
    ∙ ap (λ (b : Bool). set (flags_of marks) k b) (sym (has_flag marks k))
    ∙ set-get_or (flags_of marks) k false

mark_push : (marks : List Mark) (k : ℕ) → mark_at (marks ++ Absent ∷ []) k ≡ mark_at marks k
mark_push marks k = ⊎_elim
    (λ l. get_or_append_left marks (Absent ∷ []) Absent k l)
    (λ g. ⊎_elim
    (λ e. ap (λ (j : ℕ). mark_at (marks ++ Absent ∷ []) j) e ∙ get_or_push marks Absent Absent (length marks) refl
    ∙ sym (get_or_past marks k Absent g))
    (λ ne. get_or_past (marks ++ Absent ∷ []) k Absent (omega (arith, length_push marks Absent))
    ∙ sym (get_or_past marks k Absent g))
    (cases_eq k (length marks)))
    (cases_lt k (length marks))

pub has_push : (marks : List Mark) (k : ℕ) →
    has (flags_of (marks ++ Absent ∷ [])) k ≡ has (flags_of marks) k
has_push marks k =
    has_flag (marks ++ Absent ∷ []) k ∙ ap is_present (mark_push marks k) ∙ sym (has_flag marks k)

-- ---- the heap

wider : (marks : List Mark) (k : ℕ) (m : Mark) (items : List (Reverse ℕ)) →
    All (λ (x : Reverse ℕ). x.0 < length marks) items →
    All (λ (x : Reverse ℕ). x.0 < length (set marks k m)) items
wider marks k m items h =
    All-weaker (λ (x : Reverse ℕ). x.0 < length marks) (λ (x : Reverse ℕ). x.0 < length (set marks k m))
    (λ x b. subst (λ (n : ℕ). x.0 < n) (sym (length-set marks k m)) b) items h

count_set : (marks : List Mark) (k : ℕ) (m : Mark) → k < length marks →
    count_by is_absent (set marks k m) + cond (is_absent (mark_at marks k)) 1 0
    ≡ count_by is_absent marks + cond (is_absent m) 1 0
count_set marks k m l = sum_by-set (λ (x : Mark). cond (is_absent x) 1 0) marks k m Absent l

one_at_most : (b : Bool) → cond b 1 0 ≤ 1
one_at_most true = omega arith
one_at_most false = omega arith

-- the first is taken off the heap
pub taken_off : (marks : List Mark) (items rest : List (Reverse ℕ)) (capacity : ℕ) (x : Reverse ℕ) →
    IsMarked marks items capacity → IsPermutation items (x ∷ rest) → IsHeap by_least rest →
    IsMarked (set marks x.0 Absent) rest capacity
taken_off marks items rest capacity x m p h = record {
  heap = h;
  below = wider marks x.0 Absent rest
      (All-tail (λ (y : Reverse ℕ). y.0 < length marks) x rest all);
  found = λ k a. ⊎_elim
      (λ e. absurd (false≢true (sym a ∙ ap is_absent (ap (λ (j : ℕ). mark_at (set marks x.0 Absent) j) e
      ∙ get_or-set_same marks x.0 Absent Absent here))))
      (λ ne. Contains-tail x rest (record { 0 = k }) (λ (e : x ≡ record { 0 = k }). ne (sym (ap (λ (y : Reverse ℕ). y.0) e)))
      (Contains-permutation items (x ∷ rest) (record { 0 = k }) p
      (m.found k (sym (ap is_absent (get_or-set_other marks x.0 k Absent Absent ne)) ∙ a))))
      (cases_eq k x.0);
  room = omega (arith, m.room, count_set marks x.0 Absent here, length_permutation items (x ∷ rest) p, one_at_most (is_absent (mark_at marks x.0)));
}
  where
    all : All (λ (y : Reverse ℕ). y.0 < length marks) (x ∷ rest)
    all = All-permutation (λ (y : Reverse ℕ). y.0 < length marks) items (x ∷ rest) p m.below

    here : x.0 < length marks
    here = All-contains (λ (y : Reverse ℕ). y.0 < length marks) (x ∷ rest) x all (0, omega arith, refl)

-- a number that doesn't stand in the heap is put there
pub put_in : (marks : List Mark) (items new : List (Reverse ℕ)) (capacity wide k : ℕ) →
    IsMarked marks items capacity → k < length marks → is_absent (mark_at marks k) ≡ true →
    IsPermutation (record { 0 = k } ∷ items) new → IsHeap by_least new → capacity ≤ wide →
    IsMarked (set marks k Present) new wide
put_in marks items new capacity wide k m l a p h w = record {
  heap = h;
  below = wider marks k Present new (All-permutation (λ (y : Reverse ℕ). y.0 < length marks) (record { 0 = k } ∷ items) new p
      (All-cons (λ (y : Reverse ℕ). y.0 < length marks) (record { 0 = k }) items l m.below));
  found = λ j b. ⊎_elim
      (λ e. Contains-permutation (record { 0 = k } ∷ items) new (record { 0 = j }) p
      (subst (λ (i : ℕ). Contains (record { 0 = k } ∷ items) (record { 0 = i })) (sym e) (0, omega arith, refl)))
      (λ ne. Contains-permutation (record { 0 = k } ∷ items) new (record { 0 = j }) p
      (behind j (m.found j (sym (ap is_absent (get_or-set_other marks k j Present Absent ne)) ∙ b))))
      (cases_eq j k);
  room = omega (arith, m.room, w, count_set marks k Present l, length_permutation (record { 0 = k } ∷ items) new p, ap {B = ℕ} (λ (b : Bool). cond b 1 0) a);
}
  where
    behind : (j : ℕ) → Contains items (record { 0 = j }) → Contains (record { 0 = k } ∷ items) (record { 0 = j })
    behind j c = (suc c.0, omega (arith, c.1), c.2)

-- a number that stands in the heap is in the set, or isn't
pub marked_anew : (marks : List Mark) (items : List (Reverse ℕ)) (capacity k : ℕ) (mark : Mark) →
    IsMarked marks items capacity → k < length marks → is_absent (mark_at marks k) ≡ false →
    is_absent mark ≡ false → IsMarked (set marks k mark) items capacity
marked_anew marks items capacity k mark m l a b = record {
  heap = m.heap;
  below = wider marks k mark items m.below;
  found = λ j c. ⊎_elim
      (λ e. m.found j (ap (λ (i : ℕ). is_absent (mark_at marks i)) e ∙ a))
      (λ ne. m.found j (sym (ap is_absent (get_or-set_other marks k j mark Absent ne)) ∙ c))
      (cases_eq j k);
  room = omega (arith, m.room, count_set marks k mark l, ap {B = ℕ} (λ (x : Bool). cond x 1 0) a, ap {B = ℕ} (λ (x : Bool). cond x 1 0) b);
}

-- room is made for one more number
pub more_room : (marks : List Mark) (items : List (Reverse ℕ)) (capacity bound : ℕ) →
    IsMarked marks items capacity → length marks < bound → length items + bound ≤ capacity →
    IsMarked (marks ++ Absent ∷ []) items capacity
more_room marks items capacity bound m l r = record {
  heap = m.heap;
  below = All-weaker (λ (x : Reverse ℕ). x.0 < length marks) (λ (x : Reverse ℕ). x.0 < length (marks ++ Absent ∷ []))
      (λ x b. omega (arith, b, length_push marks Absent)) items m.below;
  found = λ k a. m.found k (sym (ap is_absent (mark_push marks k)) ∙ a);
  room = omega (arith, r, count_by-le-length is_absent (marks ++ Absent ∷ []), length_push marks Absent);
}

pub still_tidy : (marks : List Mark) (items : List (Reverse ℕ)) → IsTidy marks items →
    IsTidy (marks ++ Absent ∷ []) items
still_tidy marks items t = λ x l. ap is_present (mark_push marks (get_or items 0 x).0) ∙ t x l

pub wide_enough : (marks : List Mark) (items : List (Reverse ℕ)) (capacity wide : ℕ) →
    IsMarked marks items capacity → capacity ≤ wide → IsMarked marks items wide
wide_enough marks items capacity wide m w = record {
  heap = m.heap;
  below = m.below;
  found = m.found;
  room = omega (arith, m.room, w);
}

-- ---- the first

pub first_is_least : (marks : List Mark) (items : List (Reverse ℕ)) (capacity k : ℕ) →
    IsMarked marks items capacity → IsTidy marks items → 0 < length items →
    k ≡ (get_or items 0 (record { 0 = k })).0 → All (λ (y : Reverse ℕ). k ≤ y.0) items →
    IsLeast (flags_of marks) k
first_is_least marks items capacity k m t some first least = record {
  member = has_flag marks k ∙ ap (λ (j : ℕ). is_present (mark_at marks j)) first ∙ t (record { 0 = k }) some;
  least = λ j l. ⊎_elim
      (λ e. absurd (omega (
        arith,
        l,
        All-contains (λ (y : Reverse ℕ). k ≤ y.0) items (record { 0 = j }) least
            (m.found j (present_stands (mark_at marks j) (sym (has_flag marks j) ∙ e))),
      )))
      (λ e. e)
      (cases_Bool (has (flags_of marks) j));
}

pub none_is_in : (marks : List Mark) (items : List (Reverse ℕ)) (capacity : ℕ) →
    IsMarked marks items capacity → length items ≡ 0 → (k : ℕ) → has (flags_of marks) k ≡ false
none_is_in marks items capacity m z k = ⊎_elim
    (λ e. absurd (omega (arith, z, (m.found k (present_stands (mark_at marks k) (sym (has_flag marks k) ∙ e))).1)))
    (λ e. e)
    (cases_Bool (has (flags_of marks) k))

-- what the top of the heap tells of the set
pub top_is_least : (marks : List Mark) (items : List (Reverse ℕ)) (capacity : ℕ) (flags : List Bool) (r : Option ℕ) →
    flags_of marks ≡ flags → IsMarked marks items capacity → IsTidy marks items →
    IfSome r (λ x. 0 < length items) →
    IfSome r (λ x. x ≡ (get_or items 0 (record { 0 = x })).0) →
    IfSome r (λ x. All (λ (y : Reverse ℕ). x ≤ y.0) items) →
    IfSome r (IsLeast flags)
top_is_least marks items capacity flags None e m t a b d = tt
top_is_least marks items capacity flags (Some x) e m t a b d =
    subst (λ (fs : List Bool). IsLeast fs x) e (first_is_least marks items capacity x m t a b d)

pub none_on_top : (marks : List Mark) (items : List (Reverse ℕ)) (capacity : ℕ) (flags : List Bool) (r : Option ℕ) →
    flags_of marks ≡ flags → IsMarked marks items capacity →
    IfNone r (length items ≡ 0) → IfNone r ((k : ℕ) → has flags k ≡ false)
none_on_top marks items capacity flags None e m a =
    λ k. ap (λ (fs : List Bool). has fs k) (sym e) ∙ none_is_in marks items capacity m a k
none_on_top marks items capacity flags (Some x) e m a = tt

-- ---- pushes

pub on_ok : {A B : Type 0} {P : Type 0} (r : Result A B) → IsOk r → OnOk r P → P
on_ok (Ok a) i h = h
on_ok (Err e) i h = absurd (false≢true i)

-- there is room for a number that doesn't stand in the heap
pub has_room : (marks : List Mark) (items : List (Reverse ℕ)) (capacity k : ℕ) →
    IsMarked marks items capacity → k < length marks → is_absent (mark_at marks k) ≡ true →
    length items < capacity
has_room marks items capacity k m l a =
    omega (arith, m.room, count_set marks k Present l, ap {B = ℕ} (λ (b : Bool). cond b 1 0) a)

pub unset : (marks : List Mark) (flags : List Bool) (k : ℕ) → flags_of marks ≡ flags →
    is_present (mark_at marks k) ≡ false → flags ≡ set flags k false
unset marks flags k e h =
    sym (set-get_or flags k false)
    ∙ ap (λ (b : Bool). set flags k b) (ap (λ (fs : List Bool). has fs k) (sym e) ∙ has_flag marks k ∙ h)
