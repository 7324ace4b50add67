-- The points of a field, divided by the join of the modes.
use Rattle.std.proofs.Common.{◌≡◌, ◌≢◌, ℕ, Bool, true, false, not, ◌&&◌, ◌||◌, cond}
use Rattle.std.proofs.Common.{⊎_elim, Some, None, List, [], ◌∷◌, ◌++◌, refl, sym}
use Rattle.std.proofs.Common.{ap, ◌∙◌, subst, arith, Result, Ok, Err}
use Rattle.std.proofs.lemmas.Bool.{cases_Bool, cond-true, cond-false, false≢true}
use Rattle.std.specs.List.{list_any, list_all}
use Rattle.std.specs.List.Sorted.{IsStrictlyIncreasing}
use Rattle.lane_kernels.specs.declared.numbers.Mode.{Mode}
use Rattle.lane_kernels.specs.declared.numbers.Mode.TheVariants.{Read, Write, Reduce}
use Rattle.lane_kernels.specs.declared.numbers.Op.TheVariants.{Sum, Product, Least, Greatest}
use Rattle.plain_values.specs.Points.{IsPoints, has, union_of, minus_of}
use Rattle.point_sets.proofs.Rising.{members_decide, has-filter, has-minus_of, has-union_of}
use Rattle.point_sets.proofs.Rising.{rising-filter, rising-union_of}
use Rattle.point_sets.specs.declared.TheConstants.{POINT_LIMIT}
use Rattle.region_tree.specs.Modes.{is_as, is_required}
use Rattle.region_tree.specs.Requirements.{Requirement, is_of, is_at, is_mode, modes_at, mode_at}
use Rattle.region_tree.specs.Requirements.{join_from, same_mode, points_joined, points_required}
use Rattle.region_tree.proofs.Joins.{from_Some, modes_at-here, modes_at-not, same_mode-tells}
use Rattle.region_tree.proofs.Joins.{same_mode-itself}
use Rattle.std.proofs.lemmas.List.Folds.{list_any-append}
use Rattle.std.specs.Result.{IfOk}

-- ---- the test of any mode at a point

any_of_modes : (f : Mode → Bool) (r : Requirement) (rs : List Requirement) (root field p : ℕ) →
    list_any f (modes_at (r ∷ rs) root field p) ≡
    ((is_at root field p r && f r.mode) || list_any f (modes_at rs root field p))
any_of_modes f r rs root field p =
    ⊎_elim (λ e. ap (list_any f) (modes_at-here r rs root field p e) ∙
    ap (λ b. (b && f r.mode) || list_any f (modes_at rs root field p)) (sym e))
    (λ e. ap (list_any f) (modes_at-not r rs root field p e) ∙
    ap (λ b. (b && f r.mode) || list_any f (modes_at rs root field p)) (sym e))
    (cases_Bool (is_at root field p r))

-- one requirement more or less; b: the point was there, o: it is of the field, h: it has the point,
-- f: it is in a wanted mode, z: a later one has the point
wanted_step : (b o h f z : Bool) → (o && f) ≡ true → ((b || h) || z) ≡ (b || (((o && h) && f) || z))
wanted_step b false h f z e = absurd (false≢true e)
wanted_step b true h false z e = absurd (false≢true e)
wanted_step true true h true z e = refl
wanted_step false true true true z e = refl
wanted_step false true false true z e = refl

unwanted_step : (b o h f z : Bool) → (o && f) ≡ false → (b || z) ≡ (b || (((o && h) && f) || z))
unwanted_step b false h f z e = refl
unwanted_step b true true false z e = refl
unwanted_step b true false false z e = refl
unwanted_step b true h true z e = absurd (false≢true (sym e))

-- of all requirements those but the last ones were gathered
pub record IsGathered (root field : ℕ) (mode : Mode) (same : Bool) (all left : List Requirement)
    (points : List ℕ) : Type 0 where
  pub set : IsPoints POINT_LIMIT points
  pub gathered : (p : ℕ) → (has points p || list_any (is_as mode same)
      (modes_at left root field p)) ≡ list_any (is_as mode same) (modes_at all root field p)

pub gathered_wanted : (root field : ℕ) (mode : Mode) (same : Bool) (all : List Requirement)
    (r : Requirement) (rest : List Requirement) (points : List ℕ) →
    IsGathered root field mode same all (r ∷ rest) points →
    (is_of root field r && is_as mode same r.mode) ≡ true →
    IsPoints POINT_LIMIT (union_of points r.points) →
    IsGathered root field mode same all rest (union_of points r.points)
gathered_wanted root field mode same all r rest points h e set = record {
  set = set;
  gathered = λ p. ap (λ b. b || list_any (is_as mode same) (modes_at rest root field p))
      (has-union_of points r.points p) ∙ wanted_step (has points p) (is_of root field r)
      (has r.points p) (is_as mode same r.mode)
      (list_any (is_as mode same) (modes_at rest root field p)) e ∙
      ap (λ b. has points p || b) (sym (any_of_modes (is_as mode same) r rest root field p)) ∙
      h.gathered p;
}

pub gathered_unwanted : (root field : ℕ) (mode : Mode) (same : Bool) (all : List Requirement)
    (r : Requirement) (rest : List Requirement) (points : List ℕ) →
    IsGathered root field mode same all (r ∷ rest) points →
    (is_of root field r && is_as mode same r.mode) ≡ false →
    IsGathered root field mode same all rest points
gathered_unwanted root field mode same all r rest points h e = record {
  set = h.set;
  gathered = λ p. unwanted_step (has points p) (is_of root field r) (has r.points p)
      (is_as mode same r.mode) (list_any (is_as mode same) (modes_at rest root field p)) e ∙
      ap (λ b. has points p || b) (sym (any_of_modes (is_as mode same) r rest root field p)) ∙
      h.gathered p;
}

or-false : (b : Bool) → (b || false) ≡ b
or-false true = refl
or-false false = refl

pub gathered_all : (root field : ℕ) (mode : Mode) (same : Bool) (all left : List Requirement)
    (points : List ℕ) → left ≡ [] → IsGathered root field mode same all left points → (p : ℕ) →
    has points p ≡ list_any (is_as mode same) (modes_at all root field p)
gathered_all root field mode same all left points none h p =
    sym (or-false (has points p)) ∙ ap (λ (l : List Requirement). has points p || list_any
    (is_as mode same) (modes_at l root field p)) (sym none) ∙ h.gathered p

-- ---- what is required

pub rising-points_required : (rs : List Requirement) (root field : ℕ) →
    IsStrictlyIncreasing (points_required rs root field)
rising-points_required [] root field = λ k l. absurd (omega arith)
rising-points_required (r ∷ rs) root field =
    let rest = rising-points_required rs root field in
    ⊎_elim (λ e. subst IsStrictlyIncreasing
    (sym (cond-true (is_of root field r) (union_of r.points (points_required rs root field))
    (points_required rs root field) e))
    (rising-union_of r.points (points_required rs root field) rest))
    (λ e. subst IsStrictlyIncreasing (sym
    (cond-false (is_of root field r) (union_of r.points (points_required rs root field))
    (points_required rs root field) e)) rest) (cases_Bool (is_of root field r))

required_cons : (r : Requirement) (rs : List Requirement) (root field p : ℕ) →
    is_required (modes_at (r ∷ rs) root field p) ≡
    (is_at root field p r || is_required (modes_at rs root field p))
required_cons r rs root field p =
    ⊎_elim (λ e. ap is_required (modes_at-here r rs root field p e) ∙
    ap (λ b. b || is_required (modes_at rs root field p)) (sym e))
    (λ e. ap is_required (modes_at-not r rs root field p e) ∙
    ap (λ b. b || is_required (modes_at rs root field p)) (sym e))
    (cases_Bool (is_at root field p r))

pub has-points_required : (rs : List Requirement) (root field p : ℕ) →
    has (points_required rs root field) p ≡ is_required (modes_at rs root field p)
has-points_required [] root field p = refl
has-points_required (r ∷ rs) root field p =
    let rest = has-points_required rs root field p in
    ⊎_elim (λ e. ap (λ xs. has xs p)
    (cond-true (is_of root field r) (union_of r.points (points_required rs root field))
    (points_required rs root field) e) ∙
    has-union_of r.points (points_required rs root field) p ∙
    ap (λ b. has r.points p || b) rest ∙
    ap (λ b. (b && has r.points p) || is_required (modes_at rs root field p)) (sym e) ∙
    sym (required_cons r rs root field p)) (λ e. ap (λ xs. has xs p)
    (cond-false (is_of root field r) (union_of r.points (points_required rs root field))
    (points_required rs root field) e) ∙ rest ∙
    ap (λ b. (b && has r.points p) || is_required (modes_at rs root field p)) (sym e) ∙
    sym (required_cons r rs root field p)) (cases_Bool (is_of root field r))

mode_is_required : (m : Mode) (ms : List Mode) →
    (is_required ms && is_mode m (join_from None ms)) ≡ is_mode m (join_from None ms)
mode_is_required m [] = refl
mode_is_required m (n ∷ ms) = refl

pub has-points_joined : (rs : List Requirement) (root field : ℕ) (m : Mode) (p : ℕ) →
    has (points_joined rs root field m) p ≡ is_mode m (mode_at rs root field p)
has-points_joined rs root field m p =
    has-filter (λ q. is_mode m (mode_at rs root field q)) (points_required rs root field) p ∙
    ap (λ b. b && is_mode m (mode_at rs root field p)) (has-points_required rs root field p) ∙
    mode_is_required m (modes_at rs root field p)

-- a rising list with these members is the part
pub joined-from_members : (rs : List Requirement) (root field : ℕ) (m : Mode) (xs : List ℕ) →
    IsStrictlyIncreasing xs → ((p : ℕ) → has xs p ≡ is_mode m (mode_at rs root field p)) →
    xs ≡ points_joined rs root field m
joined-from_members rs root field m xs up same =
    members_decide xs (points_joined rs root field m) up
    (rising-filter (λ q. is_mode m (mode_at rs root field q)) (points_required rs root field)
    (rising-points_required rs root field)) (λ p. same p ∙
    sym (has-points_joined rs root field m p))

-- ---- points in one mode alone

abbrev only : Mode → List Mode → Bool
only m ms = list_any (is_as m true) ms && not (list_any (is_as m false) ms)

differ_all : (m : Mode) (ms : List Mode) →
    list_any (is_as m false) ms ≡ not (list_all (same_mode m) ms)
differ_all m [] = refl
differ_all m (n ∷ ms) =
    ap (λ b. not (same_mode m n) || b) (differ_all m ms) ∙
    either (same_mode m n) (list_all (same_mode m) ms)
  where
    either : (a b : Bool) → (not a || not b) ≡ not (a && b)
    either true b = refl
    either false b = refl

not_not : (b : Bool) → not (not b) ≡ b
not_not true = refl
not_not false = refl

same_swap : (m n : Mode) → same_mode m n ≡ true → n ≡ m
same_swap m n e = sym (same_mode-tells m n e)

not_same : (m n : Mode) → m ≢ n → same_mode m n ≡ false
not_same m n ne = ⊎_elim (λ e. absurd (ne (same_mode-tells m n e))) (λ e. e)
    (cases_Bool (same_mode m n))

pub only_is : (m : Mode) (ms : List Mode) → m ≢ Write → only m ms ≡ is_mode m (join_from None ms)
only_is m [] ne = refl
only_is m (n ∷ ms) ne =
    ⊎_elim (λ e. ap (λ b. (b || list_any (is_as m true) ms) && not
    (list_any (is_as m false) (n ∷ ms))) e ∙ ap not (differ_all m (n ∷ ms)) ∙
    not_not (list_all (same_mode m) (n ∷ ms)) ∙ ap (λ b. b && list_all (same_mode m) ms) e ∙
    sym (ap (is_mode m) (from_Some n ms) ∙
    ap (λ k. same_mode m (cond (list_all (same_mode k) ms) k Write)) (same_swap m n e) ∙
    chosen (list_all (same_mode m) ms))) (λ e. last e) (cases_Bool (same_mode m n))
  where
    chosen : (b : Bool) → same_mode m (cond b m Write) ≡ b
    chosen true = same_mode-itself m
    chosen false = not_same m Write ne

    other : (b : Bool) → same_mode m n ≡ false → same_mode m (cond b n Write) ≡ false
    other true e = e
    other false e = not_same m Write ne

    and-false : (a : Bool) → (a && false) ≡ false
    and-false true = refl
    and-false false = refl

    last : same_mode m n ≡ false → only m (n ∷ ms) ≡ is_mode m (join_from None (n ∷ ms))
    last e =
        ap (λ b. list_any (is_as m true) (n ∷ ms) && not (b || list_any (is_as m false) ms))
        (ap not e) ∙ and-false (list_any (is_as m true) (n ∷ ms)) ∙
        sym (ap (is_mode m) (from_Some n ms) ∙ other (list_all (same_mode n) ms) e)

pub only_points : (rs : List Requirement) (root field : ℕ) (m : Mode) (own others : List ℕ) →
    m ≢ Write → ((p : ℕ) → has own p ≡ list_any (is_as m true) (modes_at rs root field p)) →
    ((p : ℕ) → has others p ≡ list_any (is_as m false) (modes_at rs root field p)) →
    IsPoints POINT_LIMIT (minus_of own others) → minus_of own others ≡ points_joined rs root field m
only_points rs root field m own others ne in_own in_others set =
    joined-from_members rs root field m (minus_of own others) set.rising
    (λ p. has-minus_of own others p ∙ ap (λ b. b && not (has others p)) (in_own p) ∙
    ap (λ b. list_any (is_as m true) (modes_at rs root field p) && not b) (in_others p) ∙
    only_is m (modes_at rs root field p) ne)

-- ---- points in any mode

pub any_is_required : (m : Mode) (ms : List Mode) →
    (list_any (is_as m true) ms || list_any (is_as m false) ms) ≡ is_required ms
any_is_required m [] = refl
any_is_required m (n ∷ ms) =
    either (same_mode m n) (list_any (is_as m true) ms) (list_any (is_as m false) ms)
  where
    either : (a b c : Bool) → ((a || b) || (not a || c)) ≡ true
    either true b c = refl
    either false true c = refl
    either false false c = refl

-- ---- points of Write

-- the points that are required, but for those whose modes join to one of these
pub record IsWithout (rs : List Requirement) (root field : ℕ) (modes : List Mode)
    (points : List ℕ) : Type 0 where
  pub set : IsPoints POINT_LIMIT points
  pub members : (p : ℕ) → has points p ≡
      (is_required (modes_at rs root field p) && not
      (list_any (λ m. is_mode m (mode_at rs root field p)) modes))

and-true : (b : Bool) → (b && true) ≡ b
and-true true = refl
and-true false = refl

pub without_none : (rs : List Requirement) (root field : ℕ) (points : List ℕ) →
    IsPoints POINT_LIMIT points → ((p : ℕ) →
    has points p ≡ is_required (modes_at rs root field p)) → IsWithout rs root field [] points
without_none rs root field points set h = record {
  set = set;
  members = λ p. h p ∙ sym (and-true (is_required (modes_at rs root field p)));
}

pub without_more : (rs : List Requirement) (root field : ℕ) (modes : List Mode) (m : Mode)
    (points alone : List ℕ) → IsWithout rs root field modes points →
    alone ≡ points_joined rs root field m → IsPoints POINT_LIMIT (minus_of points alone) →
    IsWithout rs root field (modes ++ m ∷ []) (minus_of points alone)
without_more rs root field modes m points alone h is set = record {
  set = set;
  members = λ p. has-minus_of points alone p ∙ ap (λ b. b && not (has alone p)) (h.members p) ∙
      ap (λ b. (is_required (modes_at rs root field p) && not
      (list_any (λ m. is_mode m (mode_at rs root field p)) modes)) && not b)
      (ap (λ xs. has xs p) is ∙ has-points_joined rs root field m p) ∙
      regroup (is_required (modes_at rs root field p))
      (list_any (λ m. is_mode m (mode_at rs root field p)) modes)
      (is_mode m (mode_at rs root field p)) ∙
      ap (λ b. is_required (modes_at rs root field p) && not b)
      (sym (list_any-append (λ m. is_mode m (mode_at rs root field p)) modes (m ∷ [])));
}
  where
    regroup : (r a b : Bool) → ((r && not a) && not b) ≡ (r && not (a || (b || false)))
    regroup false a b = refl
    regroup true true b = refl
    regroup true false true = refl
    regroup true false false = refl

-- the modes that are no Write
abbrev pub shared_modes : List Mode
shared_modes =
    Read ∷ Reduce Sum ∷ Reduce Product ∷ Reduce Least ∷ Reduce Greatest ∷ []

none_shared : (k : Mode) → not (list_any (λ m. is_mode m (Some k)) shared_modes) ≡ same_mode Write k
none_shared Read = refl
none_shared Write = refl
none_shared (Reduce Sum) = refl
none_shared (Reduce Product) = refl
none_shared (Reduce Least) = refl
none_shared (Reduce Greatest) = refl

written_is : (ms : List Mode) → (is_required ms && not
    (list_any (λ m. is_mode m (join_from None ms)) shared_modes)) ≡ is_mode Write
    (join_from None ms)
written_is [] = refl
written_is (n ∷ ms) =
    ap (λ o. not (list_any (λ m. is_mode m o) shared_modes)) (from_Some n ms) ∙
    none_shared (cond (list_all (same_mode n) ms) n Write) ∙
    sym (ap (is_mode Write) (from_Some n ms))

pub without_shared : (rs : List Requirement) (root field : ℕ) (points : List ℕ) →
    IsWithout rs root field shared_modes points → points ≡ points_joined rs root field Write
without_shared rs root field points h =
    joined-from_members rs root field Write points h.set.rising
    (λ p. h.members p ∙ written_is (modes_at rs root field p))

pub needed_members : (rs : List Requirement) (root field : ℕ) (own others s : List ℕ) →
    s ≡ union_of own others → ((p : ℕ) →
    has own p ≡ list_any (is_as Write true) (modes_at rs root field p)) →
    ((p : ℕ) → has others p ≡ list_any (is_as Write false) (modes_at rs root field p)) → (p : ℕ) →
    has s p ≡ is_required (modes_at rs root field p)
needed_members rs root field own others s e in_own in_others p =
    ap (λ xs. has xs p) e ∙ has-union_of own others p ∙ ap (λ b. b || has others p) (in_own p) ∙
    ap (λ b. list_any (is_as Write true) (modes_at rs root field p) || b) (in_others p) ∙
    any_is_required Write (modes_at rs root field p)

pub only_result : {E : Type 0} (rs : List Requirement) (root field : ℕ) (m : Mode)
    (own others : List ℕ) (r : Result (List ℕ) E) → m ≢ Write →
    ((p : ℕ) → has own p ≡ list_any (is_as m true) (modes_at rs root field p)) →
    ((p : ℕ) → has others p ≡ list_any (is_as m false) (modes_at rs root field p)) →
    IfOk r (λ s. s ≡ minus_of own others) → IfOk r (IsPoints POINT_LIMIT) →
    IfOk r (λ s. s ≡ points_joined rs root field m)
only_result rs root field m own others (Ok s) ne in_own in_others is set =
    is ∙ only_points rs root field m own others ne in_own in_others
    (subst (IsPoints POINT_LIMIT) is set)
only_result rs root field m own others (Err e) ne in_own in_others is set = tt
