-- Kinds of static types: numbers and truths, index spaces, regions, and what fields keep.
use Rattle.std.specs.Prelude.{Bool, ℕ, List, [], ◌∷◌}
use Rattle.lane_kernels.specs.declared.numbers.FieldKind.{FieldKind}
use Rattle.lane_kernels.specs.declared.numbers.FieldKind.TheVariants.{Int32, Int64, Truth}
use Rattle.lane_kernels.specs.declared.numbers.Width.{Width}
use Rattle.lane_kernels.specs.declared.numbers.Width.TheVariants.{W32, W64}
use Rattle.regent_tree.specs.declared.expression.Sign.{Sign}
use Rattle.regent_tree.specs.declared.expression.Sign.TheVariants.{Minus, Not}
use Rattle.regent_tree.specs.declared.facts.Term.{Term}
use Rattle.regent_tree.specs.declared.facts.Term.TheVariants.{Name}
use Rattle.regent_tree.specs.declared.types.Kind.{Kind}
use Rattle.regent_tree.specs.declared.types.NumberTerm.{NumberTerm}
use Rattle.regent_tree.specs.declared.types.NumberTerm.TheVariants as number
use Rattle.regent_tree.specs.declared.typing.StaticType.{StaticType}
use Rattle.regent_tree.specs.declared.typing.StaticType.TheVariants.{Integer as integer_type, Truth as truth_type, Index as index_type, Ispace as ispace_type, Region as region_type, Partition as partition_type}
use Rattle.regent_tree.specs.StaticTypes.{Reach}

pub data IsInteger : StaticType → Type 0 where
  an_integer : (w : Width) → IsInteger (integer_type w)

pub data IsTruth : StaticType → Type 0 where
  a_truth_type : IsTruth truth_type

-- an integer or a truth
pub data IsScalar : StaticType → Type 0 where
  scalar_integer : (w : Width) → IsScalar (integer_type w)
  scalar_truth : IsScalar truth_type

-- an integer, a truth, an index space, or an index
pub data IsSimple : StaticType → Type 0 where
  simple_integer : (w : Width) → IsSimple (integer_type w)
  simple_truth : IsSimple truth_type
  simple_space : (k : Kind) → IsSimple (ispace_type k)
  simple_index : (k : Kind) → IsSimple (index_type k)

-- an integer or an index, which stands for a number
pub data IsNumber : StaticType → Type 0 where
  number_integer : (w : Width) → IsNumber (integer_type w)
  number_index : (k : Kind) → IsNumber (index_type k)

pub data IsSpace : StaticType → Type 0 where
  a_space_type : (k : Kind) → IsSpace (ispace_type k)

pub data IsRegion : StaticType → Type 0 where
  a_region_type : (k : Kind) (sp : ℕ) (args : List Reach) (r : Term) → IsRegion (region_type k sp args r)

pub data IsPartition : StaticType → Type 0 where
  a_partition_type : (d : Bool) (r p : ℕ) → IsPartition (partition_type d r p)

-- two regions of one field space
pub data AreRegions : StaticType → StaticType → Type 0 where
  two_regions : (k l : Kind) (sp : ℕ) (args brgs : List Reach) (r u : Term) →
      AreRegions (region_type k sp args r) (region_type l sp brgs u)

-- what names a region, by its type
abbrev pub term_in : StaticType → Term
term_in (region_type k sp args r) = r
term_in t = Name 0

-- two integers, or two truths
pub data AreAlike : StaticType → StaticType → Type 0 where
  two_integers : (v w : Width) → AreAlike (integer_type v) (integer_type w)
  two_truths : AreAlike truth_type truth_type

-- two numbers that are compared, integers or indices, or two truths
pub data AreComparable : StaticType → StaticType → Type 0 where
  compare_numbers : (t u : StaticType) → IsNumber t → IsNumber u → AreComparable t u
  compare_truths : AreComparable truth_type truth_type

-- prefixes of a truth, or of an integer
pub data SignsFit : StaticType → List Sign → Type 0 where
  of_a_truth : SignsFit truth_type []
  of_an_integer : (w : Width) → SignsFit (integer_type w) []
  not_before : (ss : List Sign) → SignsFit truth_type ss → SignsFit truth_type (Not ∷ ss)
  minus_before : (w : Width) (ss : List Sign) → SignsFit (integer_type w) ss →
      SignsFit (integer_type w) (Minus ∷ ss)

-- the numbers of a field of a kind are values of a type
pub data FieldFits : FieldKind → StaticType → Type 0 where
  fits_32 : FieldFits Int32 (integer_type W32)
  fits_64 : FieldFits Int64 (integer_type W64)
  fits_truth : FieldFits Truth truth_type

pub data IsIntegerTerm : NumberTerm → Type 0 where
  term_32 : IsIntegerTerm number.Int32
  term_64 : IsIntegerTerm number.Int64
