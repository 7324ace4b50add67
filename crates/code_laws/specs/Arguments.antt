-- What stands as an argument of a call where regions are handed over: a name that has a region, or a part of a partition
-- that has a name. What the called task needs of it may be done with it, and its constraints hold of it.
use Rattle.std.specs.Prelude.{◌≡◌, ◌⊎◌, Bool, ℕ, zero, suc, Option, ◌<◌, ◌≤◌, ℤ, length, List, [], ◌∷◌, true, false, not, Some, None}
use Rattle.check_laws.specs.SoundScopes.{Falls}
use Rattle.lane_kernels.specs.declared.numbers.Width.{Width}
use Rattle.regent_tree.specs.Accesses.{space_in}
use Rattle.regent_tree.specs.Lookup.{is_bound}
use Rattle.regent_tree.specs.Scopes.{bound_as}
use Rattle.regent_tree.specs.StaticTypes.{space_at}
use Rattle.regent_tree.specs.Syntax.{Expression, Expressions, Name, access_expr, an_expr, at_step, no_expr, no_step, number_expr}
use Rattle.regent_tree.specs.Facts.{is_unknown}
use Rattle.regent_tree.specs.Typing.{colour_of, parent_of}
use Rattle.regent_tree.specs.declared.facts.Term.{Term}
use Rattle.regent_tree.specs.declared.facts.Term.TheVariants as term
use Rattle.regent_tree.specs.declared.typing.Bound.{Bound}
use Rattle.regent_tree.specs.declared.typing.StaticType.{StaticType}
use Rattle.regent_tree.specs.declared.typing.StaticType.TheVariants.{Partition as partition_type}
use Rattle.task_code.specs.declared.code.NeedCode.{NeedCode}
use Rattle.code_rules.specs.Slots.{Where, bound, typed}
use Rattle.code_laws.specs.Simple.{AreRegions, IsPartition, IsRegion, term_in}
use Rattle.code_laws.specs.Steps.{Taking}
use Rattle.code_laws.specs.Taking.{LiesUp, MayDo, is_part}

-- ---- partitions and their parents

-- a name in scope that has a region; the numbers of names in scope are all different
pub record IsParent (w : Where) (n : Name) : Type 0 where
  pub named : is_bound w.scope.names n ≡ true
  pub numbers : Falls w.scope.next w.scope.names
  pub region : IsRegion (bound w n).static_type

-- a name in scope that has a partition
pub record IsCutName (w : Where) (n : Name) : Type 0 where
  pub named : is_bound w.scope.names n ≡ true
  pub numbers : Falls w.scope.next w.scope.names
  pub partition : IsPartition (bound w n).static_type

-- two of one region
pub record ArePaired (w : Where) (p q : Name) : Type 0 where
  pub first : IsCutName w p
  pub second : IsCutName w q
  pub parents : parent_of (bound w p).static_type ≡ parent_of (bound w q).static_type

-- what a partition's parent is bound to
abbrev pub parent_bound : Where → Name → Bound
parent_bound w n = bound_as w.scope.names (parent_of (bound w n).static_type)

-- ---- what stands as an argument

-- a name that stands as an argument
abbrev pub name_of : Expression → Option Name
name_of (access_expr n no_step) = Some n
name_of e = None

abbrev pub name_at : Expressions → ℕ → Option Name
name_at no_expr k = None
name_at (an_expr e es) zero = name_of e
name_at (an_expr e es) (suc k) = name_at es k

-- a part that stands as an argument: its partition's name, and what stands for the colour
abbrev pub part_of : Expression → Option (Name × Expression)
part_of (access_expr n (at_step e no_step)) = Some (n, e)
part_of e = None

abbrev pub part_at : Expressions → ℕ → Option (Name × Expression)
part_at no_expr k = None
part_at (an_expr e es) zero = part_of e
part_at (an_expr e es) (suc k) = part_at es k

-- a region that has a name is handed over, as one of its field space
abbrev pub IsHanded : Option Taking → Where → StaticType → StaticType → Expression → Type 0
IsHanded (Some y) w t p (access_expr n no_step) =
    (is_bound w.scope.names n ≡ true) × (t ≡ p) × AreRegions (bound w n).static_type p
IsHanded takes w t p e = ⊥

-- so is a part, of which something holds, and a partition that has a name
abbrev pub IsHandedPart : Bool → Option Taking → Where → StaticType → StaticType → Expression → Type 0 → Type 0
IsHandedPart true (Some y) w t p (access_expr n (at_step e no_step)) Part =
    IsCutName w n × (t ≡ p) × AreRegions (typed w (access_expr n (at_step e no_step))) p × Part
IsHandedPart true (Some y) w t p (access_expr n no_step) Part = IsCutName w n × (t ≡ p) × IsPartition p
IsHandedPart keeps takes w t p e Part = ⊥

-- A partition that is handed over is of the region that is handed over for its parent.
abbrev pub IsDividedBy : Where → Option Name → Option Name → Type 0
IsDividedBy w (Some n) (Some m) = IsCutName w n × IsParent w m × ((parent_bound w n).place ≡ (bound w m).place)
IsDividedBy w _ _ = ⊥

abbrev pub IsDivided : Where → Expressions → ℕ → StaticType → Type 0
IsDivided w args k (partition_type d r own) = IsDividedBy w (name_at args k) (name_at args r)
IsDivided w args k t = Unit {0}

-- so of parameters of these types, from a place on
abbrev pub AreDivided : Where → Expressions → ℕ → List StaticType → Type 0
AreDivided w args k [] = Unit {0}
AreDivided w args k (t ∷ ts) = IsDivided w args k t × AreDivided w args (suc k) ts

-- ---- needs

-- what the called task needs of the region with a name may be done with it
abbrev pub IsMet : Option Taking → Where → NeedCode → Option Name → Type 0
IsMet None w need o = ⊥
IsMet (Some y) w need None = ⊥
IsMet (Some y) w need (Some n) = (is_bound w.scope.names n ≡ true) × IsRegion (bound w n).static_type
    × (need.field < length (space_at w.tree (space_in (bound w n).static_type)).fields)
    × MayDo (Some y) (term_in (bound w n).static_type) need.field need.mode

-- what it needs of a part may be done with the whole
abbrev pub IsMetPart : Option Taking → Where → NeedCode → Option (Name × Expression) → Type 0
IsMetPart None w need o = ⊥
IsMetPart (Some y) w need None = ⊥
IsMetPart (Some y) w need (Some p) = IsCutName w p.0
    × (need.field < length (space_at w.tree (space_in (parent_bound w p.0).static_type)).fields)
    × MayDo (Some y) (term_in (parent_bound w p.0).static_type) need.field need.mode

-- by the argument, where partitions are kept or not
abbrev pub IsMetAt : Bool → Option Taking → Where → Expressions → NeedCode → Type 0
IsMetAt false takes w args n = IsMet takes w n (name_at args n.param)
IsMetAt true takes w args n = IsMet takes w n (name_at args n.param) ⊎ IsMetPart takes w n (part_at args n.param)

abbrev pub AreMet : Bool → Option Taking → Where → Expressions → List NeedCode → Type 0
AreMet keeps takes w args [] = Unit {0}
AreMet keeps takes w args (n ∷ ns) = IsMetAt keeps takes w args n × AreMet keeps takes w args ns

-- ---- constraints

-- a region lies within another: they have one name, or are parameters' of which that follows
abbrev pub IsPart : Taking → Term → Term → Type 0
IsPart y (term.Name i) (term.Name j) = (i < y.params) × (j < y.params) × (is_part y i j ≡ true)
IsPart y _ _ = ⊥

-- what a parameter names lies within what another names
abbrev pub IsGivenPart : Option Taking → Term → Term → Type 0
IsGivenPart None r u = ⊥
IsGivenPart (Some y) r u = IsPart y r u

-- A region began as a part of one with a number, which lies within another; that is what a binding has, or a parameter's
-- that lies within it.
pub record BeganWithin (y : Taking) (w : Where) (r : Term) (b : Bound) : Type 0 where
  pub numbers : Falls w.scope.next w.scope.names
  pub number : ℕ
  pub named : r ≡ term.Name number
  pub behind : y.params ≤ number
  pub whole : ℕ
  pub began : y.above number ≡ Some whole
  pub upper : ℕ
  pub up : LiesUp y whole upper
  pub ends : ((bound_as w.scope.names upper).place ≡ b.place) ⊎ IsPart y (term.Name upper) (term_in b.static_type)

abbrev pub HasBegunWithin : Option Taking → Where → Term → Bound → Type 0
HasBegunWithin None w r b = ⊥
HasBegunWithin (Some y) w r b = BeganWithin y w r b

-- so does what a binding has, which may be the same
abbrev pub LiesBelow : Option Taking → Where → Bound → Bound → Type 0
LiesBelow takes w a b = (a.place ≡ b.place)
    ⊎ (IsGivenPart takes (term_in a.static_type) (term_in b.static_type) ⊎ HasBegunWithin takes w (term_in a.static_type) b)

abbrev pub IsParted : Taking → Where → Option Name → Option Name → Type 0
IsParted y w (Some m) (Some n) = (is_bound w.scope.names m ≡ true) × (is_bound w.scope.names n ≡ true)
    × IsRegion (bound w m).static_type × IsRegion (bound w n).static_type
    × ((m ≡ n) ⊎ (IsPart y (term_in (bound w m).static_type) (term_in (bound w n).static_type)
    ⊎ BeganWithin y w (term_in (bound w m).static_type) (bound w n)))
IsParted y w _ _ = ⊥

-- two expressions that stand for one colour: a number, or a name
pub data AreOneColour : Expression → Expression → Type 0 where
  one_number : (z : ℤ) (v w : Width) → AreOneColour (number_expr z v) (number_expr z w)
  one_name : (n : Name) → AreOneColour (access_expr n no_step) (access_expr n no_step)

-- A part lies within a region that has a name: that is the whole, or the whole lies within it. And it lies within the
-- part of the same colour.
abbrev pub IsPartBelow : Taking → Where → Option (Name × Expression) → Option Name → Option (Name × Expression) → Type 0
IsPartBelow y w (Some p) (Some n) o = IsCutName w p.0 × IsParent w n
    × LiesBelow (Some y) w (parent_bound w p.0) (bound w n)
IsPartBelow y w (Some p) None (Some q) = IsCutName w p.0 × (p.0 ≡ q.0) × AreOneColour p.1 q.1
IsPartBelow y w _ _ _ = ⊥

-- the region with a number lies within a part: it began as that one, or as a part of what lies within that
pub record LandsIn (y : Taking) (w : Where) (i : ℕ) (q : Name × Expression) : Type 0 where
  pub cut : IsCutName w q.0
  pub upper : ℕ
  pub up : LiesUp y i upper
  pub behind : y.params ≤ upper
  pub piece : y.piece upper ≡ Some ((bound w q.0).number, colour_of w.scope q.1)
  pub certain : not (is_unknown (colour_of w.scope q.1)) ≡ true

-- so does one that has a name, and a part of what does
abbrev pub IsPieceBelow : Taking → Where → Option Name → Option (Name × Expression) → Option (Name × Expression) → Type 0
IsPieceBelow y w (Some m) o (Some q) = IsParent w m × (term_in (bound w m).static_type ≡ term.Name (bound w m).number)
    × LandsIn y w (bound w m).number q
IsPieceBelow y w None (Some p) (Some q) = IsCutName w p.0
    × (term_in (parent_bound w p.0).static_type ≡ term.Name (parent_of (bound w p.0).static_type))
    × LandsIn y w (parent_of (bound w p.0).static_type) q
IsPieceBelow y w _ _ _ = ⊥

-- by the arguments, where partitions are kept or not
abbrev pub IsPartedAt : Bool → Taking → Where → Expressions → ℕ × ℕ → Type 0
IsPartedAt false y w args p = IsParted y w (name_at args p.0) (name_at args p.1)
IsPartedAt true y w args p =
    IsParted y w (name_at args p.0) (name_at args p.1)
    ⊎ (IsPartBelow y w (part_at args p.0) (name_at args p.1) (part_at args p.1) ⊎ IsPieceBelow y w (name_at args p.0) (part_at args p.0) (part_at args p.1))

-- the called task's constraints hold of the regions that are handed over
abbrev pub AreParted : Bool → Option Taking → Where → Expressions → List (ℕ × ℕ) → Type 0
AreParted keeps None w args ps = Unit {0}
AreParted keeps (Some y) w args [] = Unit {0}
AreParted keeps (Some y) w args (p ∷ ps) = IsPartedAt keeps y w args p × AreParted keeps (Some y) w args ps
