-- The laws of sets of points, over any rising lists.
use Rattle.std.specs.Prelude.{◌≡◌, ◌↔◌, ◌⊎◌, ℕ, List, IsTrue, Contains}
use Rattle.std.specs.List.Sorted.{IsStrictlyIncreasing}
use Rattle.plain_values.specs.Points.{has, union_of, meet_of, minus_of, meets, within}

-- a rising list of the numbers that satisfy a fact, and of no others
abbrev pub IsSetOf : (ℕ → Type 0) → List ℕ → Type 0
IsSetOf P xs = IsStrictlyIncreasing xs × ((x : ℕ) → Contains xs x ↔ P x)

-- two rising lists with the same members are the same list
abbrev pub MembersDecide : Type 0
MembersDecide =
    (xs ys : List ℕ) → IsStrictlyIncreasing xs → IsSetOf (Contains xs) ys → xs ≡ ys

-- the test for a member tells
abbrev pub HasTells : Type 0
HasTells = (xs : List ℕ) (x : ℕ) → IsTrue (has xs x) ↔ Contains xs x

-- a union has the members of either list
abbrev pub UnionIsEither : Type 0
UnionIsEither = (xs ys : List ℕ) → IsStrictlyIncreasing ys →
    IsSetOf (λ x. Contains xs x ⊎ Contains ys x) (union_of xs ys)

-- a meet has the members of both lists
abbrev pub MeetIsBoth : Type 0
MeetIsBoth = (xs ys : List ℕ) → IsStrictlyIncreasing xs →
    IsSetOf (λ x. Contains xs x × Contains ys x) (meet_of xs ys)

-- a difference has the members of the first list that the second lacks
abbrev pub MinusIsRest : Type 0
MinusIsRest = (xs ys : List ℕ) → IsStrictlyIncreasing xs →
    IsSetOf (λ x. Contains xs x × ¬ Contains ys x) (minus_of xs ys)

-- two lists meet where they share a member
abbrev pub MeetsIsShared : Type 0
MeetsIsShared = (xs ys : List ℕ) →
    IsTrue (meets xs ys) ↔ ((x : ℕ) × Contains xs x × Contains ys x)

-- a list is within another that has each of its members
abbrev pub WithinIsEach : Type 0
WithinIsEach = (xs ys : List ℕ) →
    IsTrue (within xs ys) ↔ ((x : ℕ) → Contains xs x → Contains ys x)
