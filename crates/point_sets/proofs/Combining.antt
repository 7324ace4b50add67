-- A sweep over two sets: what is made of them so far.
use Rattle.std.proofs.Common.{◌≡◌, ℕ, ◌+◌, ◌-◌, ◌<◌, ◌≤◌, Bool, true, false, not, ◌&&◌, ◌||◌, ltb, leb, List, ◌++◌, get_or, All, refl, sym, ap, ◌∙◌, arith, ⊎_elim}
use Rattle.std.proofs.lemmas.Bool.{cases_Bool, cases_lt, and_right, and_parts, lt-ltb, ltb-true}
use Rattle.std.proofs.lemmas.Bool.Decides.{nat_tests}
use Rattle.std.proofs.lemmas.List.Elements.{All-contains, Contains-get_or}
use Rattle.std.specs.List.Sorted.{IsStrictlyIncreasing}
use Rattle.plain_values.specs.Points.{has, counted_from, IsPoints}
use Rattle.point_sets.specs.Operations.{kept, combined_of}
use Rattle.point_sets.specs.Sweeps.{Sweeping, AllOrNone}
use Rattle.point_sets.specs.declared.TheConstants.{POINT_LIMIT}
use Rattle.point_sets.specs.declared.operation.Operation.{Operation}
use Rattle.point_sets.specs.declared.operation.Operation.TheVariants.{Union, Meet, Minus}
use Rattle.point_sets.proofs.Rising.{has-append, has-counted_from, has-union_of, has-meet_of, has-minus_of, rising-union_of, rising-filter, members_decide, Contains-from_has, has-from_Contains}

-- what is made of two sets up to where the sweep stands
pub record IsSoFar (operation : Operation) (xs ys : List ℕ) (sweep : Sweeping) (out : List ℕ) : Type 0 where
  pub left : sweep.left ≡ xs
  pub right : sweep.right ≡ ys
  pub points : IsPoints POINT_LIMIT out
  pub members : (z : ℕ) → has out z ≡ (ltb z sweep.point && kept operation (has xs z) (has ys z))

-- nothing is kept up to where the sweep stands
pub record IsNoneSoFar (operation : Operation) (xs ys : List ℕ) (sweep : Sweeping) : Type 0 where
  pub left : sweep.left ≡ xs
  pub right : sweep.right ≡ ys
  pub none : (z : ℕ) → z < sweep.point → kept operation (has xs z) (has ys z) ≡ false

-- one piece of the sweep
pub record IsPiece (old new : Sweeping) (first end : ℕ) (in_left in_right : Bool) : Type 0 where
  pub left : new.left ≡ old.left
  pub right : new.right ≡ old.right
  pub starts : first ≡ old.point
  pub ends : end ≡ new.point
  pub ahead : first < end
  pub even_left : AllOrNone old.left first end in_left
  pub even_right : AllOrNone old.right first end in_right

-- ---- points past the end

pub no_point : (xs : List ℕ) → IsPoints POINT_LIMIT xs → (z : ℕ) → POINT_LIMIT ≤ z → has xs z ≡ false
no_point xs p z l =
    ⊎_elim (λ m. let under : z < POINT_LIMIT = All-contains (λ x. x < POINT_LIMIT) xs z p.below (Contains-from_has xs z m) in absurd (omega arith)) (λ e. e) (cases_Bool (has xs z))

pub kept_none : (operation : Operation) → kept operation false false ≡ false
kept_none Union = refl
kept_none Meet = refl
kept_none Minus = refl

kept_past : (operation : Operation) (xs ys : List ℕ) → IsPoints POINT_LIMIT xs → IsPoints POINT_LIMIT ys → (z : ℕ) → POINT_LIMIT ≤ z → kept operation (has xs z) (has ys z) ≡ false
kept_past operation xs ys p q z l =
    ap (λ b. kept operation b (has ys z)) (no_point xs p z l) ∙ ap (kept operation false) (no_point ys q z l) ∙ kept_none operation

-- ---- what an operation makes

pub has-combined_of : (operation : Operation) (xs ys : List ℕ) (z : ℕ) → has (combined_of operation xs ys) z ≡ kept operation (has xs z) (has ys z)
has-combined_of Union xs ys z = has-union_of xs ys z
has-combined_of Meet xs ys z = has-meet_of xs ys z
has-combined_of Minus xs ys z = has-minus_of xs ys z

pub rising-combined_of : (operation : Operation) (xs ys : List ℕ) → IsStrictlyIncreasing xs → IsStrictlyIncreasing ys → IsStrictlyIncreasing (combined_of operation xs ys)
rising-combined_of Union xs ys p q = rising-union_of xs ys q
rising-combined_of Meet xs ys p q = rising-filter (has ys) xs p
rising-combined_of Minus xs ys p q = rising-filter (λ x. not (has ys x)) xs p

joined_tests : (before all after : Bool) (z old new first end : ℕ) → first ≡ old → end ≡ new → first < end → before ≡ (ltb z old && all) → after ≡ (before || (leb first z && ltb z (first + (end - first)))) → (first ≤ z → z < end → all ≡ true) → after ≡ (ltb z new && all)
joined_tests before all after z old new first end starts ends ahead m here inside = grind (arith, nat_tests)

module _ (operation : Operation) (xs ys : List ℕ) where
  module _ (old : Sweeping) (out : List ℕ) (s : IsSoFar operation xs ys old out) where
    pub all_before : (first : ℕ) → first ≡ old.point → All (λ x. x < first) out
    all_before first e k d l =
        let m = has-from_Contains out _ (Contains-get_or out k d l) in
        let parts = and_parts (ltb (get_or out k d) old.point) _ (sym (s.members _) ∙ m) in
        rw e (ltb-true _ _ parts.0)

    module _ (new : Sweeping) (first end : ℕ) (in_left in_right : Bool) (p : IsPiece old new first end in_left in_right) where
      kept_in_piece : (z : ℕ) → first ≤ z → z < end → kept operation (has xs z) (has ys z) ≡ kept operation in_left in_right
      kept_in_piece z low high =
          ap (λ b. kept operation b (has ys z)) (ap (λ l. has l z) (sym s.left) ∙ p.even_left z low high) ∙ ap (kept operation in_left) (ap (λ l. has l z) (sym s.right) ∙ p.even_right z low high)

      kept_members : kept operation in_left in_right ≡ true → (more : List ℕ) → more ≡ out ++ counted_from first (end - first) → (z : ℕ) → has more z ≡ (ltb z new.point && kept operation (has xs z) (has ys z))
      kept_members k more e z =
          let here : has more z ≡ (has out z || (leb first z && ltb z (first + (end - first)))) = ap (λ l. has l z) e ∙ has-append out (counted_from first (end - first)) z ∙ ap (λ b. has out z || b) (has-counted_from first (end - first) z) in
          let m = s.members z in
          let inside : first ≤ z → z < end → kept operation (has xs z) (has ys z) ≡ true = λ low high. kept_in_piece z low high ∙ k in
          let starts = p.starts in
          let ends = p.ends in
          let ahead = p.ahead in
          joined_tests (has out z) (kept operation (has xs z) (has ys z)) (has more z) z old.point new.point first end starts ends ahead m here inside

      pub so_far_kept : kept operation in_left in_right ≡ true → (more : List ℕ) → more ≡ out ++ counted_from first (end - first) → IsPoints POINT_LIMIT more → IsSoFar operation xs ys new more
      so_far_kept k more e points = record {
        left = p.left ∙ s.left;
        right = p.right ∙ s.right;
        points = points;
        members = λ z. kept_members k more e z;
      }

  pub so_far_all : (sweep : Sweeping) (out : List ℕ) → IsSoFar operation xs ys sweep out → sweep.point ≡ POINT_LIMIT → IsPoints POINT_LIMIT xs → IsPoints POINT_LIMIT ys → out ≡ combined_of operation xs ys
  so_far_all sweep out s e p q =
      members_decide out (combined_of operation xs ys) s.points.rising (rising-combined_of operation xs ys p.rising q.rising) (λ z. s.members z ∙ same z ∙ sym (has-combined_of operation xs ys z))
    where
      same : (z : ℕ) → (ltb z sweep.point && kept operation (has xs z) (has ys z)) ≡ kept operation (has xs z) (has ys z)
      same z =
          ⊎_elim (λ l. ap (λ b. b && kept operation (has xs z) (has ys z)) (lt-ltb z sweep.point (omega arith))) (λ g. let k = kept_past operation xs ys p q z g in ap (λ b. ltb z sweep.point && b) k ∙ and_right (ltb z sweep.point) false refl ∙ sym k) (cases_lt z POINT_LIMIT)

  -- once the sweep is at the end, nothing is kept at any point
  pub none_at_all : (sweep : Sweeping) → IsNoneSoFar operation xs ys sweep → sweep.point ≡ POINT_LIMIT → IsPoints POINT_LIMIT xs → IsPoints POINT_LIMIT ys → (z : ℕ) → kept operation (has xs z) (has ys z) ≡ false
  none_at_all sweep s e p q z =
      ⊎_elim (λ l. s.none z (omega arith)) (λ g. kept_past operation xs ys p q z g) (cases_lt z POINT_LIMIT)
