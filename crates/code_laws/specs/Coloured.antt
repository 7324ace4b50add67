-- Which part of a partition a region is that began as one: that of its colour, as long as the names stay that stand for them.
use Rattle.std.specs.Prelude.{◌≡◌, ◌⊎◌, ℕ, ◌≤◌, ℤ, pos, true, false, get_or, List, [], ◌∷◌, Some}
use Rattle.regent_tree.specs.Values.{Partition, Region, Value, a_number, a_partition, a_pointer, a_region, a_space, a_truth, an_index, null_target, point_target}
use Rattle.regent_tree.specs.declared.facts.Colour.{Colour}
use Rattle.regent_tree.specs.declared.facts.Colour.TheVariants.{Constant, Loop, Unknown}
use Rattle.regent_tree.specs.declared.facts.Term.TheVariants as term
use Rattle.regent_tree.specs.declared.typing.Bound.{Bound}
use Rattle.regent_tree.specs.declared.typing.StaticType.{StaticType}
use Rattle.code_laws.specs.Simple.{IsRegion, term_in}
use Rattle.code_laws.specs.Steps.{Taking}

-- the number for which a value stands
abbrev pub point_of : Value → ℤ
point_of (a_pointer (point_target n i) rs) = pos n
point_of (a_pointer null_target rs) = pos 0
point_of (a_number w z) = z
point_of (an_index z) = z
point_of (a_truth b) = pos 0
point_of (a_space n) = pos 0
point_of (a_region q) = pos 0
point_of (a_partition q) = pos 0

-- the part of a colour
abbrev pub part_at_colour : Partition → ℕ → Region
part_at_colour q c = record { root = q.root; points = get_or q.sets c [] }

-- a binding stands among others
abbrev pub IsBoundIn : List Bound → Bound → Type 0
IsBoundIn [] b = ⊥
IsBoundIn (c ∷ bs) b = (c ≡ b) ⊎ IsBoundIn bs b

-- the variable of a loop, by its number, stands for a colour
pub record IsLoopColour (bs : List Bound) (names : List Value) (i c : ℕ) : Type 0 where
  pub variable : Bound
  pub there : IsBoundIn bs variable
  pub number : variable.number ≡ i
  pub by_loop : variable.by_loop ≡ true
  pub is : point_of (get_or names variable.place (a_truth false)) ≡ pos c

-- for which colour stands what is written
abbrev pub IsColour : List Bound → List Value → Colour → ℕ → Type 0
IsColour bs names (Constant z) c = z ≡ pos c
IsColour bs names (Loop i) c = IsLoopColour bs names i c
IsColour bs names Unknown c = Unit {0}

-- a region is the part of a colour of the partition with a number
pub record IsPartOf (bs : List Bound) (names : List Value) (p : ℕ) (k : Colour) (q : Region) : Type 0 where
  pub cut : Bound
  pub there : IsBoundIn bs cut
  pub number : cut.number ≡ p
  pub partition : Partition
  pub has_it : get_or names cut.place (a_truth false) ≡ a_partition partition
  pub colour : ℕ
  pub is_colour : IsColour bs names k colour
  pub is : q ≡ part_at_colour partition colour

-- so it is of a value that is a region which began as a part
abbrev pub IsPieced : Taking → List Bound → List Value → StaticType → Value → Type 0
IsPieced y bs names t v = (i : ℕ) (k : ℕ × Colour) (q : Region) → IsRegion t → term_in t ≡ term.Name i → y.params ≤ i → y.piece i ≡ Some k →
    v ≡ a_region q → IsPartOf bs names k.0 k.1 q
