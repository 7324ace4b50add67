-- Types as they are written.
use Rattle.std.specs.Prelude.{ℕ, Bool, true, false, List, [], ◌∷◌, Option, Some, None}
use Rattle.regent_tree.specs.declared.types.Kind.{Kind}
use Rattle.regent_tree.specs.declared.types.Kind.TheVariants.{Int1d, Ptr}
use Rattle.regent_tree.specs.declared.types.NumberTerm.{NumberTerm}
use Rattle.regent_tree.specs.declared.types.NumberTerm.TheVariants.{Int32, Int64, Index}
use Rattle.regent_tree.specs.declared.types.Param.{Param}
use Rattle.regent_tree.specs.declared.types.PointerTerm.{PointerTerm}
use Rattle.regent_tree.specs.declared.types.Ref.{Ref}
use Rattle.regent_tree.specs.declared.types.Ref.TheVariants.{Named, Wild}
use Rattle.regent_tree.specs.declared.types.SpaceUse.{SpaceUse}
use Rattle.regent_tree.specs.declared.types.TypeTerm.{TypeTerm}
use Rattle.regent_tree.specs.declared.types.TypeTerm.TheVariants as term
use Rattle.regent_lex.specs.declared.tables.Mark.TheVariants as mark
use Rattle.regent_grammar.specs.declared.symbol.Symbol.{Symbol}
use Rattle.regent_grammar.specs.declared.symbol.Symbol.TheVariants as symbol
use Rattle.regent_lex.specs.declared.tables.Word.TheVariants as word
use Rattle.regent_grammar.specs.Symbols.{comes, come, is_mark, is_word}
use Rattle.regent_grammar.specs.Rules.{Sort, Rule, gives, here, one, when◌then◌else◌, maybe, ◌⊛◌, ◌⊳◌, ◌⊲◌}
use Rattle.regent_grammar.specs.Singles.{a_mark, a_word, name, separated, in_parentheses, maybe_listed}

-- kind = `int1d` | `ptr`
abbrev pub kind_of : Symbol → Option Kind
kind_of (symbol.Word word.Int1d) = Some Int1d
kind_of (symbol.Word word.Ptr) = Some Ptr
kind_of _ = None

abbrev pub is_kind : Symbol → Bool
is_kind (symbol.Word word.Int1d) = true
is_kind (symbol.Word word.Ptr) = true
is_kind _ = false

unfoldable pub kind : Rule Sort.kind
kind = one kind_of

-- ref = Name | `wild`
abbrev pub reference_of : Symbol → Option Ref
reference_of (symbol.Name bytes) = Some (Named bytes)
reference_of (symbol.Word word.Wild) = Some Wild
reference_of _ = None

unfoldable pub reference : Rule Sort.reference
reference = one reference_of

-- spaceuse = Name [ `(` ref { `,` ref } `)` ]
abbrev pub a_space_use : List ℕ → List Ref → SpaceUse
a_space_use name args = record { name = name; args = args }

unfoldable pub space_use : Rule Sort.space_use
space_use = gives a_space_use ⊛ name ⊛ maybe_listed reference

-- pointer = kind `(` spaceuse `,` ref { `,` ref } `)`
abbrev pub a_pointer : Kind → SpaceUse → List Ref → PointerTerm
a_pointer kind space regions = record { kind = kind; space = space; regions = regions }

unfoldable pub pointer : Rule Sort.pointer
pointer =
    gives a_pointer ⊛ kind ⊛ a_mark mark.Open ⊳ space_use
    ⊛ a_mark mark.Comma ⊳ separated reference ⊲ a_mark mark.Close

-- number = `int` | `int32` | `int64` | kind
abbrev pub number_of : Symbol → Option NumberTerm
number_of (symbol.Word word.Int) = Some Int32
number_of (symbol.Word word.Int32) = Some Int32
number_of (symbol.Word word.Int64) = Some Int64
number_of (symbol.Word word.Int1d) = Some (Index Int1d)
number_of (symbol.Word word.Ptr) = Some (Index Ptr)
number_of _ = None

unfoldable pub number : Rule Sort.number
number = one number_of

-- `ispace` `(` kind `)`
unfoldable pub index_space : Rule Sort.kind
index_space = a_word word.Ispace ⊳ in_parentheses kind

-- `region` `(` [ `ispace` `(` kind `)` `,` ] spaceuse `)`: without a kind it is `ptr`
unfoldable pub region_kind : Rule (Sort.optional Sort.kind)
region_kind = maybe (comes (is_word word.Ispace)) (index_space ⊲ a_mark mark.Comma)

abbrev pub a_region : Option Kind → SpaceUse → TypeTerm
a_region None space = term.Region Ptr space
a_region (Some kind) space = term.Region kind space

unfoldable pub region_type : Rule Sort.type_term
region_type =
    gives a_region ⊛ a_word word.Region ⊳ a_mark mark.Open ⊳ region_kind
    ⊛ space_use ⊲ a_mark mark.Close

-- `partition` `(` ( `disjoint` | `aliased` ) `,` Name [ `,` Name ] `)`
abbrev pub disjointness_of : Symbol → Option Bool
disjointness_of (symbol.Word word.Disjoint) = Some true
disjointness_of (symbol.Word word.Aliased) = Some false
disjointness_of _ = None

unfoldable pub disjointness : Rule Sort.flag
disjointness = one disjointness_of

abbrev pub a_partition : Bool → List ℕ → Option (List ℕ) → TypeTerm
a_partition disjoint region colours = term.Partition disjoint region colours

unfoldable pub partition_type : Rule Sort.type_term
partition_type =
    gives a_partition ⊛ a_word word.Partition ⊳ a_mark mark.Open ⊳ disjointness
    ⊛ a_mark mark.Comma ⊳ name
    ⊛ maybe (comes (is_mark mark.Comma)) (a_mark mark.Comma ⊳ name) ⊲ a_mark mark.Close

-- type = number | `bool` | pointer | `ispace` .. | `region` .. | `partition` ..
-- A kind is a pointer's where a parenthesis follows it.
unfoldable pub type_term : Rule Sort.type_term
type_term =
    when come (is_kind ∷ is_mark mark.Open ∷ []) then gives (λ p. term.Pointer p) ⊛ pointer
    else when comes (is_word word.Bool) then a_word word.Bool ⊳ gives term.Truth
    else when comes (is_word word.Ispace) then gives (λ k. term.Ispace k) ⊛ index_space
    else when comes (is_word word.Region) then region_type
    else when comes (is_word word.Partition) then partition_type
    else gives (λ n. term.Number n) ⊛ number

-- param = Name `:` type
abbrev pub a_parameter : ℕ → List ℕ → TypeTerm → Param
a_parameter line name term = record { line = line; name = name; term = term }

unfoldable pub parameter : Rule Sort.parameter
parameter = gives a_parameter ⊛ here ⊛ name ⊛ a_mark mark.Colon ⊳ type_term
