-- Partition operations (Dependent Partitioning, OOPSLA 2016): each is a list of point lists, one
-- for each colour, made by filtering a parent's list. The numbers of a field of a region are a list
-- beside the region's points, one for each.
use Rattle.std.specs.Prelude.{ℕ, suc, ℤ, pos, negsuc, List, [], ◌∷◌, map, filter, length, take, drop, Bool, true, false, cond, ◌||◌, ◌==◌, ◌*◌, ◌/◌, ◌-◌, ◌%◌, ◌^◌, Option, Some, None}
use Rattle.std.specs.List.{list_any}
use Rattle.plain_values.specs.Points.{points, has, union_of, meet_of, minus_of}

-- the point that a field's number names: where the field keeps pointers, the point number without
-- the position; null and other numbers below 0 name none
abbrev pub point_named : Bool → ℤ → Option ℕ
point_named pointers (negsuc n) = None
point_named true (pos n) = Some (n % 2 ^ 32)
point_named false (pos n) = Some n

-- whether what is named is this point, and whether it is one of these
abbrev pub is_point : ℕ → Option ℕ → Bool
is_point x None = false
is_point x (Some y) = x == y

abbrev pub is_among : List ℕ → Option ℕ → Bool
is_among xs None = false
is_among xs (Some y) = has xs y

-- the points of a region whose number passes a test
abbrev pub points_where : (ℤ → Bool) → List ℕ → List ℤ → List ℕ
points_where test [] zs = []
points_where test (x ∷ xs) [] = []
points_where test (x ∷ xs) (z ∷ zs) =
    cond (test z) (x ∷ points_where test xs zs) (points_where test xs zs)

-- the numbers of a region at the points of a set
abbrev pub numbers_at : List ℕ → List ℕ → List ℤ → List ℤ
numbers_at set [] zs = []
numbers_at set (x ∷ xs) [] = []
numbers_at set (x ∷ xs) (z ∷ zs) =
    cond (has set x) (z ∷ numbers_at set xs zs) (numbers_at set xs zs)

-- ---- the operations

-- equal: of m points and n colours, colour c has the places floor(m*c/n) to floor(m*(c+1)/n) - 1
abbrev pub equal_part : List ℕ → ℕ → ℕ → List ℕ
equal_part r n c =
    let m = length r in
    take (m * suc c / n - m * c / n) (drop (m * c / n) r)

abbrev pub equal_sets : List ℕ → ℕ → List (List ℕ)
equal_sets r n = map (equal_part r n) (points n)

-- by field: colour c has the points of the region whose field is c
abbrev pub by_field_sets : List ℕ → List ℤ → ℕ → List (List ℕ)
by_field_sets r zs n =
    map (λ c. points_where (λ z. is_point c (point_named false z)) r zs) (points n)

-- image: colour c has the points of the parent that the field names at some point of the set c
abbrev pub image_sets : List ℕ → List (List ℕ) → List ℕ → List ℤ → Bool → List (List ℕ)
image_sets parent sets r zs pointers = map (λ set. filter (λ x.
    list_any (λ z. is_point x (point_named pointers z)) (numbers_at set r zs)) parent) sets

-- preimage: colour c has the points of the parent whose field names a point of the set c
abbrev pub preimage_sets : List ℕ → List (List ℕ) → List ℕ → List ℤ → Bool → List (List ℕ)
preimage_sets parent sets r zs pointers = map (λ set.
    filter (has (points_where (λ z. is_among set (point_named pointers z)) r zs)) parent) sets

-- a set operation, colour by colour: the colours are those of the first partition, and one that the
-- second lacks counts as empty
abbrev pub each_with :
    (List ℕ → List ℕ → List ℕ) → List (List ℕ) → List (List ℕ) → List (List ℕ)
each_with operation [] qs = []
each_with operation (p ∷ ps) [] = operation p [] ∷ each_with operation ps []
each_with operation (p ∷ ps) (q ∷ qs) = operation p q ∷ each_with operation ps qs

-- `p & q`, `p - q` and `p | q`
abbrev pub both_sets : List (List ℕ) → List (List ℕ) → List (List ℕ)
both_sets = each_with meet_of

abbrev pub minus_sets : List (List ℕ) → List (List ℕ) → List (List ℕ)
minus_sets = each_with minus_of

abbrev pub either_sets : List (List ℕ) → List (List ℕ) → List (List ℕ)
either_sets = each_with union_of

-- ---- whether no two colours share a point, as each operation says; of `p - q` it is that of p

abbrev pub equal_flag : Bool
equal_flag = true

abbrev pub by_field_flag : Bool
by_field_flag = true

abbrev pub image_flag : Bool
image_flag = false

-- of the partition p that is looked back through
abbrev pub preimage_flag : Bool → Bool
preimage_flag p = p

abbrev pub both_flag : Bool → Bool → Bool
both_flag p q = p || q

abbrev pub minus_flag : Bool → Bool
minus_flag p = p

abbrev pub either_flag : Bool
either_flag = false
