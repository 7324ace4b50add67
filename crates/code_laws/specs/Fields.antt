-- What expressions and loops take: fields of regions and of what pointers go to, elements, parts, and what a variable begins with.
use Rattle.std.specs.Prelude.{◌≡◌, ◌⊎◌, Bool, ℕ, ◌<◌, length, [], ◌∷◌, true, false, Some}
use Rattle.regent_tree.specs.declared.expression.Arithmetic.TheVariants.{Subtract}
use Rattle.regent_tree.specs.declared.expression.Operator.TheVariants.{Compute}
use Rattle.regent_tree.specs.declared.facts.Term.TheVariants as term
use Rattle.regent_tree.specs.declared.typing.Bound.{Bound}
use Rattle.regent_tree.specs.declared.typing.StaticType.{StaticType}
use Rattle.regent_tree.specs.declared.typing.StaticType.TheVariants.{Partition as partition_type}
use Rattle.regent_tree.specs.Accesses.{space_in}
use Rattle.regent_tree.specs.StaticTypes.{field_kind, field_place, field_term, space_at}
use Rattle.regent_tree.specs.Lookup.{is_bound}
use Rattle.regent_tree.specs.Syntax.{Name, Expression, Steps, chain_expr, access_expr, no_link, a_link, no_step, field_step, at_step, null_expr, cast_expr}
use Rattle.regent_tree.specs.Scopes.{bound_as}
use Rattle.regent_tree.specs.Typing.{has_wild, is_disjoint, parent_of, reaches_of, taken_from, type_of_element, type_of_field}
use Rattle.code_laws.specs.Arguments.{ArePaired, IsCutName}
use Rattle.code_laws.specs.Pointers.{AreThere, FieldKeeps, IsPointer}
use Rattle.code_laws.specs.Simple.{IsSimple, IsSpace, IsRegion, FieldFits}
use Rattle.code_rules.specs.Slots.{Where, typed, bound, slot_named, slots_of}
use Rattle.check_laws.specs.SoundScopes.{Falls}

-- A name in scope has a region, and the field is one of its field space, which keeps values of a type.
pub record IsField (w : Where) (n f : Name) (t : StaticType) : Type 0 where
  pub named : is_bound w.scope.names n ≡ true
  pub region : IsRegion (bound w n).static_type
  pub field : field_place w.tree (space_in (bound w n).static_type) f
      < length (space_at w.tree (space_in (bound w n).static_type)).fields
  pub keeps : FieldFits (field_kind w.tree (space_in (bound w n).static_type)
      (field_place w.tree (space_in (bound w n).static_type) f)) t

-- also a field of indices or pointers, where these are kept
pub record IsAnyField (w : Where) (n f : Name) (t : StaticType) : Type 0 where
  pub named : is_bound w.scope.names n ≡ true
  pub region : IsRegion (bound w n).static_type
  pub field : field_place w.tree (space_in (bound w n).static_type) f
      < length (space_at w.tree (space_in (bound w n).static_type)).fields
  pub keeps : FieldKeeps (field_term w.tree (space_in (bound w n).static_type)
      (field_place w.tree (space_in (bound w n).static_type) f)) t

abbrev pub IsFieldOf : Bool → Where → Name → Name → StaticType → Type 0
IsFieldOf false w n f t = IsField w n f t
IsFieldOf true w n f t = IsAnyField w n f t

-- A name in scope has a pointer to elements of regions that have names, and the field is one of its field space.
-- The numbers of names in scope are all different.
pub record IsBehind (w : Where) (n f : Name) (t : StaticType) : Type 0 where
  pub named : is_bound w.scope.names n ≡ true
  pub numbers : Falls w.scope.next w.scope.names
  pub pointer : IsPointer (bound w n).static_type
  pub certain : has_wild (reaches_of (bound w n).static_type) ≡ false
  pub field : field_place w.tree (space_in (bound w n).static_type) f
      < length (space_at w.tree (space_in (bound w n).static_type)).fields
  pub keeps : FieldKeeps (field_term w.tree (space_in (bound w n).static_type)
      (field_place w.tree (space_in (bound w n).static_type) f)) t

-- the type of a field of what a name's pointer goes to
abbrev pub field_behind : Where → Name → Name → StaticType
field_behind w n f = type_of_field w.tree (bound w n).static_type f

-- a region that has a name, with its own term
pub record IsOwnRegion (w : Where) (b : Bound) (t : StaticType) : Type 0 where
  pub number : ℕ
  pub numbered : (bound_as w.scope.names number).number ≡ number
  pub place : (bound_as w.scope.names number).place ≡ b.place
  pub typed : IsRegion (bound_as w.scope.names number).static_type
  pub space : space_in (bound_as w.scope.names number).static_type ≡ space_in t
  pub is : reaches_of (taken_from t) ≡ Some (term.Name number) ∷ []

-- over what a loop goes: an index space, or also a region that has a name
abbrev pub IsNamedRegion : Where → Expression → Type 0
IsNamedRegion w (access_expr n no_step) = IsRegion (bound w n).static_type × IsOwnRegion w (bound w n) (bound w n).static_type
IsNamedRegion w e = ⊥

abbrev pub LoopsOver : Bool → Where → Expression → Type 0
LoopsOver false w e = IsSpace (typed w e)
LoopsOver true w e = IsSpace (typed w e) ⊎ IsNamedRegion w e

-- a name has a partition of its own number
abbrev pub IsOwnCut : Where → Name → Type 0
IsOwnCut w n = (bound w n).static_type ≡ partition_type (is_disjoint (bound w n).static_type) (parent_of (bound w n).static_type) (bound w n).number

-- or a part of a partition that has a name, of whose colour something holds
abbrev pub LoopsOverPart : Where → Expression → Type 0 → Type 0
LoopsOverPart w (access_expr n (at_step e no_step)) Part =
    IsCutName w n × IsOwnCut w n × IsRegion (typed w (access_expr n (at_step e no_step))) × Part
LoopsOverPart w e Part = ⊥

-- a part of a partition that has a name, of which elements are taken
abbrev pub IsPiece : Where → Name → Expression → Type 0
IsPiece w n e = IsCutName w n × IsOwnCut w n × IsRegion (typed w (access_expr n (at_step e no_step)))

-- so a loop goes over something, with a body
abbrev pub IsLooped : Bool → Where → Expression → Type 0 → Type 0 → Type 0 → Type 0
IsLooped false w e Typed Part Body = LoopsOver false w e × Typed × Body
IsLooped true w e Typed Part Body = (LoopsOver true w e × Typed × Body) ⊎ (LoopsOverPart w e Part × Body)

-- the type of a field of an element
abbrev pub element_field : Where → Name → Expression → Name → StaticType
element_field w n e f = type_of_field w.tree (type_of_element w.scope (bound w n).static_type e) f

-- the type of an element of a part
abbrev pub part_element : Where → Name → Expression → Expression → StaticType
part_element w n e i = type_of_element w.scope (type_of_element w.scope (bound w n).static_type e) i

-- the regions that a pointer's type names are in scope
abbrev pub AreReachable : Where → StaticType → Type 0
AreReachable w t = AreThere w.scope.names (space_in t) (reaches_of t)

-- fields alone: each is one of what the field before it goes to
abbrev pub are_fields : Steps → Bool
are_fields no_step = true
are_fields (field_step f rest) = are_fields rest
are_fields (at_step e rest) = false

-- an expression that gives a pointer of which the regions are known: a name, an element, a field, null, or a cast
abbrev pub IsPointing : Where → Expression → Type 0
IsPointing w (access_expr n no_step) = Falls w.scope.next w.scope.names
IsPointing w (access_expr n (at_step e no_step)) = Unit {0}
IsPointing w (access_expr n (at_step e (field_step f no_step))) = AreReachable w (element_field w n e f)
IsPointing w (access_expr n (at_step e (field_step f (field_step g rest)))) = AreReachable w (typed w (access_expr n (at_step e (field_step f (field_step g rest)))))
IsPointing w (access_expr n (at_step e (at_step i (field_step f rest)))) = AreReachable w (typed w (access_expr n (at_step e (at_step i (field_step f rest)))))
IsPointing w (access_expr n (field_step f no_step)) = AreReachable w (field_behind w n f)
IsPointing w (access_expr n (field_step f (field_step g rest))) = AreReachable w (typed w (access_expr n (field_step f (field_step g rest))))
IsPointing w (null_expr t) = Unit {0}
IsPointing w (cast_expr t e) = Unit {0}
IsPointing w e = ⊥

-- or an element of a part that has no name
abbrev pub IsPartElement : Expression → Type 0
IsPartElement (access_expr n (at_step e (at_step i no_step))) = Unit {0}
IsPartElement e = ⊥

-- how a variable begins: as a number, a truth or an index space, or where pointers are kept as such a pointer
abbrev pub IsKeepable : Bool → Where → Expression → Type 0
IsKeepable false w e = IsSimple (typed w e)
IsKeepable true w e = IsSimple (typed w e) ⊎ (IsPointer (typed w e) × (IsPointing w e ⊎ IsPartElement e))

-- the difference of two partitions of one region
abbrev pub IsDifference : Where → Expression → Type 0
IsDifference w (chain_expr (access_expr p no_step) (a_link (Compute Subtract) (access_expr q no_step) no_link)) = ArePaired w p q
IsDifference w e = ⊥

-- so a variable begins, or also with such a difference, or as a part
abbrev pub IsBegun : Bool → Where → Expression → Type 0 → Type 0 → Type 0
IsBegun false w e Begins Part = Begins
IsBegun true w e Begins Part = Begins ⊎ (IsDifference w e ⊎ Part)

-- so one of a written type begins, or also with such a difference or as a part, whose type it is like
abbrev pub IsSaid : Bool → Where → Expression → Type 0 → Type 0 → Type 0 → Type 0
IsSaid false w e Begins Part Like = Begins
IsSaid true w e Begins Part Like = Begins ⊎ ((IsDifference w e ⊎ Part) × Like)

-- a pointer to an element of a region that has a name goes through the name's slot
abbrev pub GoesThrough : Where → Name → Expression → Type 0
GoesThrough w n e = slots_of w (slot_named w n) (type_of_element w.scope (bound w n).static_type e) ≡ slot_named w n ∷ []
