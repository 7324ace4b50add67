-- Pointers that are kept: the types that have them, and to which regions they go; and of which regions partitions are.
use Rattle.std.specs.Prelude.{◌≡◌, ℕ, ◌<◌, ◌≤◌, Bool, true, false, List, [], ◌∷◌, length, get_or, Some, None}
use Rattle.lane_kernels.specs.declared.numbers.FieldKind.{FieldKind}
use Rattle.lane_kernels.specs.declared.numbers.FieldKind.TheVariants.{Index, Pointer}
use Rattle.regent_tree.specs.declared.expression.Comparison.{Comparison}
use Rattle.regent_tree.specs.declared.expression.Comparison.TheVariants.{Equal, NotEqual}
use Rattle.regent_tree.specs.declared.expression.Sign.{Sign}
use Rattle.regent_tree.specs.declared.expression.Sign.TheVariants.{Minus, Not}
use Rattle.regent_tree.specs.declared.facts.Term.{Term}
use Rattle.regent_tree.specs.declared.facts.Term.TheVariants as term
use Rattle.regent_tree.specs.declared.types.Kind.{Kind}
use Rattle.regent_tree.specs.declared.types.NumberTerm.{NumberTerm}
use Rattle.regent_tree.specs.declared.types.NumberTerm.TheVariants as number
use Rattle.regent_tree.specs.declared.typing.Bound.{Bound}
use Rattle.regent_tree.specs.declared.typing.StaticType.{StaticType}
use Rattle.regent_tree.specs.declared.typing.StaticType.TheVariants.{Index as index_type, Ispace as ispace_type, Partition as partition_type, Pointer as pointer_type, Region as region_type}
use Rattle.partitions.specs.Laws.{ArePartsOf, NoneShared}
use Rattle.plain_values.specs.Points.{has}
use Rattle.regent_tree.specs.Accesses.{space_in}
use Rattle.regent_tree.specs.Scopes.{bound_as}
use Rattle.regent_tree.specs.StaticTypes.{Reach, kind_said}
use Rattle.regent_tree.specs.Typing.{parent_of, reaches_of}
use Rattle.regent_tree.specs.Values.{Partition, Region, Value, a_partition, a_pointer, a_region, a_truth}
use Rattle.regent_tree.specs.declared.types.TypeTerm.{TypeTerm}
use Rattle.value_laws.specs.Shapes.{regions_listed}
use Rattle.code_laws.specs.Simple.{AreAlike, AreComparable, FieldFits, IsIntegerTerm, IsNumber, IsPartition, IsRegion, IsScalar, IsSimple, SignsFit}

-- ---- types

-- each region of a list has a name, or may be any
abbrev pub AreNames : List Reach → Type 0
AreNames [] = Unit {0}
AreNames (Some (term.Name i) ∷ rs) = AreNames rs
AreNames (Some (term.Child p c) ∷ rs) = ⊥
AreNames (None ∷ rs) = AreNames rs

-- or the one region is a part
abbrev pub AreAims : List Reach → Type 0
AreAims (Some (term.Child p c) ∷ rs) = rs ≡ []
AreAims rs = AreNames rs

-- a pointer to elements of regions that have names, to elements of any, or to those of a part
pub data IsPointer : StaticType → Type 0 where
  a_pointer_type : (k : Kind) (sp : ℕ) (args rs : List Reach) → AreAims rs → IsPointer (pointer_type k sp args rs)

-- what counts as a number: an integer, an index, or a pointer, which stands for its point
pub data IsCounting : StaticType → Type 0 where
  counts_number : (t : StaticType) → IsNumber t → IsCounting t
  counts_pointer : (k : Kind) (sp : ℕ) (args rs : List Reach) → IsCounting (pointer_type k sp args rs)

-- what fields of a type are filled with
pub data Fills : StaticType → StaticType → Type 0 where
  fills_alike : (t u : StaticType) → AreAlike t u → Fills t u
  fills_index : (t : StaticType) (k : Kind) → IsNumber t → Fills t (index_type k)

-- what goes into a variable, a parameter or a field of a type
pub data GoesInto : StaticType → StaticType → Type 0 where
  into_plain : (t u : StaticType) → Fills t u → GoesInto t u
  into_index : (k : Kind) (sp : ℕ) (args rs : List Reach) (j : Kind) → GoesInto (pointer_type k sp args rs) (index_type j)
  into_space : (j k : Kind) → GoesInto (ispace_type j) (ispace_type k)

-- a variable's or a result's type that has a value by itself: 0, or false
pub data HasZero : StaticType → Type 0 where
  zero_scalar : (t : StaticType) → IsScalar t → HasZero t
  zero_index : (k : Kind) → HasZero (index_type k)

-- what a task gives back goes into its result's type, which is such
abbrev pub GivesBack : StaticType → StaticType → Type 0
GivesBack t u = GoesInto t u × HasZero u

-- the numbers of a field of a kind, whose pointers go into so many regions, are values of a type
pub data KeepsAs : FieldKind → ℕ → StaticType → Type 0 where
  keeps_plain : (k : FieldKind) (n : ℕ) (t : StaticType) → FieldFits k t → KeepsAs k n t
  keeps_index : (n : ℕ) (k : Kind) → KeepsAs Index n (index_type k)
  keeps_pointer : (k : Kind) (sp : ℕ) (args rs : List Reach) → AreNames rs → length rs ≤ 4 → KeepsAs Pointer (length rs) (pointer_type k sp args rs)

-- so are those of a field that is declared so
abbrev pub FieldKeeps : TypeTerm → StaticType → Type 0
FieldKeeps declared t = KeepsAs (kind_said declared) (regions_listed declared) t

-- a number type to which numbers are converted
pub data IsNumberTerm : NumberTerm → Type 0 where
  term_integer : (t : NumberTerm) → IsIntegerTerm t → IsNumberTerm t
  term_index : (k : Kind) → IsNumberTerm (number.Index k)

-- prefixes of a truth or an integer, and minus alone before what counts as a number
abbrev pub AllMinus : List Sign → Type 0
AllMinus [] = Unit {0}
AllMinus (Minus ∷ ss) = AllMinus ss
AllMinus (Not ∷ ss) = ⊥

pub data HasSigns : StaticType → List Sign → Type 0 where
  signs_plain : (t : StaticType) (ss : List Sign) → SignsFit t ss → HasSigns t ss
  signs_counted : (t : StaticType) (ss : List Sign) → IsCounting t → AllMinus ss → HasSigns t (Minus ∷ ss)

-- a partition's type like another, of the same region and disjoint only where the other one is; or a region's, of the same
-- field space and term
pub data IsLike : StaticType → StaticType → Type 0 where
  like_partition : (d e : Bool) (r p : ℕ) → (d ≡ true → e ≡ true) → IsLike (partition_type d r p) (partition_type e r p)
  like_region : (j k : Kind) (sp : ℕ) (args brgs : List Reach) (r : Term) → IsLike (region_type j sp args r) (region_type k sp brgs r)

-- ---- types that are written

-- the regions of a list are bound in scope, and of a field space, but those that may be any
abbrev pub AreThere : List Bound → ℕ → List Reach → Type 0
AreThere bs sp [] = Unit {0}
AreThere bs sp (Some (term.Name i) ∷ rs) = ((bound_as bs i).number ≡ i) × IsRegion (bound_as bs i).static_type
    × (space_in (bound_as bs i).static_type ≡ sp) × AreThere bs sp rs
AreThere bs sp (Some (term.Child p c) ∷ rs) = ⊥
AreThere bs sp (None ∷ rs) = AreThere bs sp rs

-- Parameters' pointers go into parameters that are regions of their field space, wherever these stand; so is the parent of one
-- that is a partition.
abbrev pub GoesToParams : List Bound → StaticType → Type 0
GoesToParams all (pointer_type k sp args rs) = AreThere all sp rs
GoesToParams all (partition_type d r p) = ((bound_as all r).number ≡ r) × IsRegion (bound_as all r).static_type
GoesToParams all t = Unit {0}

abbrev pub GoToParams : List Bound → List Bound → Type 0
GoToParams all [] = Unit {0}
GoToParams all (b ∷ bs) = GoesToParams all b.static_type × GoToParams all bs

abbrev pub AllGoToParams : List Bound → Type 0
AllGoToParams all = GoToParams all all

-- a pointer's type that is written in a scope
abbrev pub IsWritten : List Bound → StaticType → Type 0
IsWritten bs t = IsPointer t × AreThere bs (space_in t) (reaches_of t)

-- what a variable of a written type begins with, by a value's type or by itself: 0, false or null
pub data Begins (bs : List Bound) : StaticType → StaticType → Type 0 where
  begins_plain : (t u : StaticType) → GoesInto t u → Begins bs t u
  begins_pointer : (t u : StaticType) → IsPointer t → IsWritten bs u → Begins bs t u

pub data BeginsItself (bs : List Bound) : StaticType → Type 0 where
  itself_plain : (t : StaticType) → HasZero t → BeginsItself bs t
  itself_null : (t : StaticType) → IsWritten bs t → BeginsItself bs t

-- what is assigned to a variable
pub data Assigned : StaticType → StaticType → Type 0 where
  assigned_plain : (t u : StaticType) → GoesInto t u → Assigned t u
  assigned_pointer : (t u : StaticType) → IsPointer t → IsPointer u → Assigned t u

-- What is given to a parameter, by its type at the call and by itself: what goes into it, which is one type, or a
-- pointer, whose regions are the arguments at the call.
pub data Passes : StaticType → StaticType → StaticType → Type 0 where
  passes_plain : (t u : StaticType) → GoesInto t u → Passes t u u
  passes_pointer : (t : StaticType) (k : Kind) (sp : ℕ) (args brgs rs qs : List Reach) → IsPointer t → length qs ≡ length rs →
      Passes t (pointer_type k sp brgs qs) (pointer_type k sp args rs)

-- with what fields of a type are filled, also where they are of pointers, or of indices, which take a pointer's point
pub data Filled : StaticType → StaticType → Type 0 where
  filled_plain : (t u : StaticType) → Fills t u → Filled t u
  filled_index : (k : Kind) (sp : ℕ) (args rs : List Reach) (j : Kind) → Filled (pointer_type k sp args rs) (index_type j)
  filled_pointer : (t u : StaticType) → IsPointer t → IsPointer u → Filled t u

-- two values that are compared: pointers with each other, or with numbers by their points
pub data AreCompared : Comparison → StaticType → StaticType → Type 0 where
  compared_plain : (c : Comparison) (t u : StaticType) → AreComparable t u → AreCompared c t u
  compared_left : (c : Comparison) (k : Kind) (sp : ℕ) (args rs : List Reach) (u : StaticType) → IsNumber u →
      AreCompared c (pointer_type k sp args rs) u
  compared_right : (c : Comparison) (t : StaticType) (k : Kind) (sp : ℕ) (args rs : List Reach) → IsNumber t →
      AreCompared c t (pointer_type k sp args rs)
  compared_equal : (t u : StaticType) → IsPointer t → IsPointer u → AreCompared Equal t u
  compared_different : (t u : StaticType) → IsPointer t → IsPointer u → AreCompared NotEqual t u

-- ---- the same where pointers aren't kept

abbrev pub CountsAs : Bool → StaticType → Type 0
CountsAs false t = IsNumber t
CountsAs true t = IsCounting t

abbrev pub SignedAs : Bool → StaticType → List Sign → Type 0
SignedAs false t ss = SignsFit t ss
SignedAs true t ss = HasSigns t ss

abbrev pub PassesInto : Bool → StaticType → StaticType → StaticType → Type 0
PassesInto false t u p = AreAlike t u × (u ≡ p)
PassesInto true t u p = Passes t u p

abbrev pub FillsInto : Bool → StaticType → StaticType → Type 0
FillsInto false t u = AreAlike t u
FillsInto true t u = Filled t u

abbrev pub BeginsAs : Bool → List Bound → StaticType → Type 0
BeginsAs false bs t = IsScalar t
BeginsAs true bs t = BeginsItself bs t

abbrev pub BeginsWith : Bool → List Bound → StaticType → StaticType → Type 0
BeginsWith false bs t u = AreAlike t u
BeginsWith true bs t u = Begins bs t u

abbrev pub IsAssigned : Bool → StaticType → StaticType → Type 0
IsAssigned false t u = AreAlike t u
IsAssigned true t u = Assigned t u

abbrev pub IsCompared : Bool → Comparison → StaticType → StaticType → Type 0
IsCompared false c t u = AreComparable t u
IsCompared true c t u = AreCompared c t u

abbrev pub ConvertsTo : Bool → NumberTerm → Type 0
ConvertsTo false t = IsIntegerTerm t
ConvertsTo true t = IsNumberTerm t

-- what a name has where it is read
abbrev pub IsRead : Bool → StaticType → Type 0
IsRead false t = IsSimple t
IsRead true t = Unit {0}

-- ---- where pointers go

-- a region of a field space is the value of a name that has a number, at a place below another
pub record IsOfName (b : Bound) (upto : ℕ) (names : List Value) (sp i : ℕ) (q : Region) : Type 0 where
  pub numbered : b.number ≡ i
  pub region : IsRegion b.static_type
  pub space : space_in b.static_type ≡ sp
  pub below : b.place < upto
  pub value : get_or names b.place (a_truth false) ≡ a_region q

-- a region lies within that of which a partition is that has a number
pub record IsOfPart (bs : List Bound) (b : Bound) (upto : ℕ) (names : List Value) (sp p : ℕ) (q : Region) : Type 0 where
  pub numbered : b.number ≡ p
  pub partition : IsPartition b.static_type
  pub parent : Region
  pub is : IsOfName (bound_as bs (parent_of b.static_type)) upto names sp (parent_of b.static_type) parent
  pub root : q.root ≡ parent.root
  pub within : (n : ℕ) → has q.points n ≡ true → has parent.points n ≡ true

abbrev pub AreReached : List Bound → List Value → ℕ → List Reach → List Region → Type 0
AreReached bs names sp [] [] = Unit {0}
AreReached bs names sp (Some (term.Name i) ∷ rs) (q ∷ qs) = IsOfName (bound_as bs i) (length bs) names sp i q × AreReached bs names sp rs qs
AreReached bs names sp (Some (term.Child p c) ∷ rs) (q ∷ qs) = IsOfPart bs (bound_as bs p) (length bs) names sp p q × AreReached bs names sp rs qs
AreReached bs names sp (None ∷ rs) (q ∷ qs) = AreReached bs names sp rs qs
AreReached bs names sp _ _ = ⊥

-- a partition of the region of a name that has a number: each set lies within the region, no two share a point where they
-- are said to share none, and there aren't too many
pub record IsCutAs (b : Bound) (upto : ℕ) (names : List Value) (r : ℕ) (q : Partition) : Type 0 where
  pub parent : Region
  pub is : IsOfName b upto names (space_in b.static_type) r parent
  pub root : q.root ≡ parent.root
  pub sets : ArePartsOf parent.points q.sets
  pub apart : q.disjoint ≡ true → NoneShared q.sets
  pub few : length q.sets ≤ 65536

-- so of a region
pub record IsCutIn (parent : Region) (q : Partition) : Type 0 where
  pub root : q.root ≡ parent.root
  pub sets : ArePartsOf parent.points q.sets
  pub apart : q.disjoint ≡ true → NoneShared q.sets
  pub few : length q.sets ≤ 65536

abbrev pub IsCut : List Bound → List Value → ℕ → Partition → Type 0
IsCut bs names r q = IsCutAs (bound_as bs r) (length bs) names r q

-- the regions of a pointer are those that its type names, and a partition is one of the region that its type names
abbrev pub IsPointed : List Bound → List Value → StaticType → Value → Type 0
IsPointed bs names t (a_pointer target qs) = AreReached bs names (space_in t) (reaches_of t) qs
IsPointed bs names t (a_partition q) = IsCut bs names (parent_of t) q
IsPointed bs names t _ = Unit {0}

-- so of the values of some names, among all of these
abbrev pub ArePointedIn : List Bound → List Bound → List Value → Type 0
ArePointedIn all [] names = Unit {0}
ArePointedIn all (b ∷ bs) names = IsPointed all names b.static_type (get_or names b.place (a_truth false)) × ArePointedIn all bs names

-- so of each name's value: a parameter's among all parameters, and any other's among the names that were bound before it
pub data ArePointed (params : ℕ) : List Value → List Bound → Type 0 where
  given_pointed : {names : List Value} (bs : List Bound) → length bs ≡ params → ArePointedIn bs bs names → ArePointed params names bs
  more_pointed : {names : List Value} (b : Bound) (bs : List Bound) → IsPointed bs names b.static_type (get_or names b.place (a_truth false)) →
      ArePointed params names bs → ArePointed params names (b ∷ bs)
