-- What fields hold: numbers and truths, and where pointers are kept also indices and pointers.
use Rattle.std.proofs.Common.{◌≡◌, ℕ, Bool, List, false, true, subst, ◌<◌, ◌≤◌, refl}
use Rattle.std.specs.Prelude.{length}
use Rattle.std.proofs.lemmas.List.{length-map}
use Rattle.lane_kernels.specs.declared.numbers.FieldKind.TheVariants.{Pointer as pointer_kind}
use Rattle.regent_tree.specs.Accesses.{space_in}
use Rattle.regent_tree.specs.Lookup.{is_bound}
use Rattle.regent_tree.specs.StaticTypes.{Looking, Reach, field_place, field_term, kind_said, looked_up, space_at, type_said}
use Rattle.regent_tree.specs.Syntax.{Name, Tree}
use Rattle.regent_tree.specs.Typing.{reaches_of}
use Rattle.regent_tree.specs.declared.facts.Known.{Known}
use Rattle.regent_tree.specs.declared.types.Kind.{Kind}
use Rattle.regent_tree.specs.declared.types.NumberTerm.TheVariants as number
use Rattle.regent_tree.specs.declared.types.PointerTerm.{PointerTerm}
use Rattle.regent_tree.specs.declared.types.TypeTerm.{TypeTerm}
use Rattle.regent_tree.specs.declared.types.TypeTerm.TheVariants as term
use Rattle.regent_tree.specs.declared.typing.Bound.{Bound}
use Rattle.regent_tree.specs.declared.typing.StaticType.{StaticType}
use Rattle.regent_tree.specs.declared.typing.StaticType.TheVariants.{Index as index_type, Pointer as pointer_type}
use Rattle.check_rules.specs.types.Fitting.{fits}
use Rattle.check_rules.specs.types.Declarations.{is_no_field_type}
use Rattle.check_rules.specs.types.Sorts.{is_integer, may_be}
use Rattle.code_rules.specs.Slots.{Where, bound}
use Rattle.scalar_form.specs.ScalarForm.{is_scalar_term}
use Rattle.code_laws.specs.Pointers.{AreNames, FieldKeeps, FillsInto, IsAssigned, IsPointer, KeepsAs, a_pointer_type, assigned_plain, assigned_pointer, filled_index, filled_plain, filled_pointer, fills_index, into_index, into_plain, keeps_index, keeps_plain, keeps_pointer}
use Rattle.code_laws.specs.Simple.{FieldFits, IsInteger, IsRegion, IsScalar, number_index, number_integer, simple_index, simple_integer, simple_space, simple_truth, scalar_integer, scalar_truth}
use Rattle.code_laws.specs.Typed.{IsFieldOf}
use Rattle.code_laws.proofs.LocalTypes.{simple_as_integer, term_fits, term_scalar}
use Rattle.code_laws.proofs.LocalValues.{AreAmong, IsValue, alike_assigned, alike_filled, pointer_fitting, value_fitting, value_pointer, value_simple, among_goals, names_aims}
use Rattle.code_laws.proofs.Typing.{no_way, no_way_back}
use Rattle.code_laws.proofs.Values.{scalar_simple}
use Rattle.code_laws.proofs.LocalTaken.{IsCollection, collects_partition, collects_region}

-- a field's term is a number, a truth, an index or a pointer
pub data IsFieldTerm : TypeTerm → Type 0 where
  field_scalar : (t : TypeTerm) → is_scalar_term t ≡ true → IsFieldTerm t
  field_index : (k : Kind) → IsFieldTerm (term.Number (number.Index k))
  field_pointer : (p : PointerTerm) → IsFieldTerm (term.Pointer p)

-- so the rules have it
pub field_term_is : (t : TypeTerm) → is_no_field_type t ≡ false → IsFieldTerm t
field_term_is (term.Number number.Int32) e = field_scalar (term.Number number.Int32) refl
field_term_is (term.Number number.Int64) e = field_scalar (term.Number number.Int64) refl
field_term_is (term.Number (number.Index k)) e = field_index k
field_term_is term.Truth e = field_scalar term.Truth refl
field_term_is (term.Pointer p) e = field_pointer p
field_term_is (term.Ispace k) e = absurd (no_way e)
field_term_is (term.Region k u) e = absurd (no_way e)
field_term_is (term.Partition d r c) e = absurd (no_way e)

-- what the field holds is such, by its term and its type
pub data IsHeld (keeping : Bool) : TypeTerm → StaticType → Type 0 where
  held_scalar : (d : TypeTerm) (t : StaticType) → IsScalar t → FieldFits (kind_said d) t → IsHeld keeping d t
  held_index : (k : Kind) → keeping ≡ true → IsHeld keeping (term.Number (number.Index k)) (index_type k)
  held_pointer : (p : PointerTerm) (k : Kind) (sp : ℕ) (args rs : List Reach) → keeping ≡ true →
      length rs ≡ length p.regions → AreNames rs → length rs ≤ 4 → IsHeld keeping (term.Pointer p) (pointer_type k sp args rs)

module _ (keeping : Bool) where
  abbrev Held : TypeTerm → StaticType → Type 0
  Held d t = IsHeld keeping d t

  pub term_held : (t : TypeTerm) → IsFieldTerm t → keeping ≡ true → (tree : Tree) (look : Looking) (own : ℕ) →
      AreNames (reaches_of (type_said tree look own t)) → length (reaches_of (type_said tree look own t)) ≤ 4 → Held t (type_said tree look own t)
  term_held t (field_scalar _ e) q tree look own names few = held_scalar t _ (term_scalar t e tree look own) (term_fits t e tree look own)
  term_held _ (field_index k) q tree look own names few = held_index k q
  term_held _ (field_pointer p) q tree look own names few = held_pointer p _ _ _ _ q (length-map p.regions (looked_up look)) names few

  pub held_value : (bs : List Bound) (d : TypeTerm) (t : StaticType) → Held d t → AreAmong bs (space_in t) (reaches_of t) → IsValue keeping bs t
  held_value bs d t (held_scalar _ _ s fit) among = value_simple t (scalar_simple t s)
  held_value bs _ _ (held_index k q) among = value_simple (index_type k) (simple_index k)
  held_value bs _ _ (held_pointer p k sp args rs q same names few) among = value_pointer k sp args rs q (among_goals bs sp rs among)

  -- an integer is no pointer
  pub held_integer : (d : TypeTerm) (t : StaticType) → Held d t → may_be is_integer t ≡ true → IsInteger t
  held_integer d t (held_scalar _ _ s fit) e = simple_as_integer t (scalar_simple t s) e
  held_integer _ _ (held_index k q) e = absurd (no_way_back e)
  held_integer _ _ (held_pointer p k sp args rs q same names few) e = absurd (no_way_back e)

  pub held_keeps : (d : TypeTerm) (t : StaticType) → Held d t → FieldKeeps d t
  held_keeps d t (held_scalar _ _ s fit) = keeps_plain _ _ t fit
  held_keeps _ _ (held_index k q) = keeps_index _ k
  held_keeps _ _ (held_pointer p k sp args rs q same names few) =
      subst (λ n. KeepsAs pointer_kind n (pointer_type k sp args rs)) same (keeps_pointer k sp args rs names few)

  -- what fits the field goes into it
  index_into : (b : Bool) (bs : List Bound) (known : List Known) (from : StaticType) (k : Kind) → b ≡ true → IsValue b bs from →
      fits known from (index_type k) ≡ true → IsAssigned b from (index_type k)
  index_into false bs known from k q a e = absurd (no_way_back q)
  index_into true bs known _ k q (value_simple _ (simple_integer w)) e = assigned_plain _ _ (into_plain _ _ (fills_index _ k (number_integer w)))
  index_into true bs known _ k q (value_simple _ (simple_index j)) e = assigned_plain _ _ (into_plain _ _ (fills_index _ k (number_index j)))
  index_into true bs known _ k q (value_simple _ simple_truth) e = absurd (no_way_back e)
  index_into true bs known _ k q (value_simple _ (simple_space j)) e = absurd (no_way_back e)
  index_into true bs known _ k q (value_pointer j sp args i h r) e = assigned_plain _ _ (into_index j sp args _ k)

  pointer_into : (b : Bool) (bs : List Bound) (known : List Known) (from u : StaticType) → b ≡ true → IsPointer u → IsValue b bs from →
      fits known from u ≡ true → IsAssigned b from u
  pointer_into false bs known from u q p a e = absurd (no_way_back q)
  pointer_into true bs known from u q p a e = assigned_pointer from u (pointer_fitting true bs known from u a p e) p

  pub held_assigned : (bs : List Bound) (known : List Known) (from : StaticType) (d : TypeTerm) (t : StaticType) → IsValue keeping bs from → Held d t →
      fits known from t ≡ true → IsAssigned keeping from t
  held_assigned bs known from d t a (held_scalar _ _ s fit) e = alike_assigned keeping from t (value_fitting keeping bs known from t a s e)
  held_assigned bs known from _ _ a (held_index k q) e = index_into keeping bs known from k q a e
  held_assigned bs known from _ _ a (held_pointer p k sp args rs q same names few) e =
      pointer_into keeping bs known from (pointer_type k sp args rs) q (a_pointer_type k sp args rs (names_aims rs names)) a e

  -- so does what a fill brings
  index_fills : (b : Bool) (bs : List Bound) (known : List Known) (from : StaticType) (k : Kind) → b ≡ true → IsValue b bs from → fits known from (index_type k) ≡ true →
      FillsInto b from (index_type k)
  index_fills false bs known from k q a e = absurd (no_way_back q)
  index_fills true bs known _ k q (value_simple _ (simple_integer w)) e = filled_plain _ _ (fills_index _ k (number_integer w))
  index_fills true bs known _ k q (value_simple _ (simple_index j)) e = filled_plain _ _ (fills_index _ k (number_index j))
  index_fills true bs known _ k q (value_simple _ simple_truth) e = absurd (no_way_back e)
  index_fills true bs known _ k q (value_simple _ (simple_space j)) e = absurd (no_way_back e)
  index_fills true bs known _ k q (value_pointer j sp args i h r) e = filled_index j sp args _ k

  pointer_fills : (b : Bool) (bs : List Bound) (known : List Known) (from u : StaticType) → b ≡ true → IsPointer u → IsValue b bs from →
      fits known from u ≡ true → FillsInto b from u
  pointer_fills false bs known from u q p a e = absurd (no_way_back q)
  pointer_fills true bs known from u q p a e = filled_pointer from u (pointer_fitting true bs known from u a p e) p

  pub held_fills : (bs : List Bound) (known : List Known) (from : StaticType) (d : TypeTerm) (t : StaticType) → IsValue keeping bs from →
      Held d t → fits known from t ≡ true → FillsInto keeping from t
  held_fills bs known from d t a (held_scalar _ _ s fit) e = alike_filled keeping from t (value_fitting keeping bs known from t a s e)
  held_fills bs known from _ _ a (held_index k q) e = index_fills keeping bs known from k q a e
  held_fills bs known from _ _ a (held_pointer p k sp args rs q same names few) e =
      pointer_fills keeping bs known from (pointer_type k sp args rs) q (a_pointer_type k sp args rs (names_aims rs names)) a e

-- a field of a name's region, where it holds such
pub held_field : (keeping : Bool) (w : Where) (n f : Name) (t : StaticType) → is_bound w.scope.names n ≡ true → IsRegion (bound w n).static_type →
    field_place w.tree (space_in (bound w n).static_type) f < length (space_at w.tree (space_in (bound w n).static_type)).fields →
    IsHeld keeping (field_term w.tree (space_in (bound w n).static_type) (field_place w.tree (space_in (bound w n).static_type) f)) t → IsFieldOf keeping w n f t
held_field false w n f t named region field held = record { named = named; region = region; field = field; keeps = fitting _ t held }
  where
    fitting : (d : TypeTerm) (t : StaticType) → IsHeld false d t → FieldFits (kind_said d) t
    fitting d t (held_scalar _ _ s fit) = fit
    fitting _ _ (held_index k q) = absurd (no_way_back q)
    fitting _ _ (held_pointer p k sp args rs q same names few) = absurd (no_way_back q)
held_field true w n f t named region field held = record { named = named; region = region; field = field; keeps = held_keeps true _ t held }

-- no region and no partition fits a field
pub collected_held : (keeping : Bool) (known : List Known) (t : StaticType) (d : TypeTerm) (u : StaticType) → IsCollection t → IsHeld keeping d u →
    fits known t u ≡ true → ⊥
collected_held keeping known _ d _ (collects_region k sp args r) (held_scalar _ _ (scalar_integer w) fit) e = no_way_back e
collected_held keeping known _ d _ (collects_region k sp args r) (held_scalar _ _ scalar_truth fit) e = no_way_back e
collected_held keeping known _ _ _ (collects_region k sp args r) (held_index j q) e = no_way_back e
collected_held keeping known _ _ _ (collects_region k sp args r) (held_pointer p j sq brgs rs q same names few) e = no_way_back e
collected_held keeping known _ d _ (collects_partition a b c) (held_scalar _ _ (scalar_integer w) fit) e = no_way_back e
collected_held keeping known _ d _ (collects_partition a b c) (held_scalar _ _ scalar_truth fit) e = no_way_back e
collected_held keeping known _ _ _ (collects_partition a b c) (held_index j q) e = no_way_back e
collected_held keeping known _ _ _ (collects_partition a b c) (held_pointer p j sq brgs rs q same names few) e = no_way_back e
