-- Well-typed expressions and statements of numbers, truths and indices, of fields of regions that have names, and of loops. Roots are
-- made, tasks called, regions handed over, and pointers and partitions kept, where the forms allow it.
use Rattle.std.specs.Prelude.{◌≡◌, ◌⊎◌, Bool, ℕ, ◌<◌, ◌≤◌, length, slice_get, List, Option, [], ◌∷◌, true, false, Some, None}
use Rattle.lane_kernels.specs.Numbers.{FitsWidth}
use Rattle.lane_kernels.specs.declared.numbers.Mode.{Mode}
use Rattle.lane_kernels.specs.declared.numbers.Mode.TheVariants as mode
use Rattle.lane_kernels.specs.declared.numbers.Op.{Op}
use Rattle.regent_tree.specs.declared.expression.Operator.TheVariants.{Or, And, Compare, Compute}
use Rattle.regent_tree.specs.declared.statement.How.TheVariants as how
use Rattle.regent_tree.specs.declared.facts.Term.TheVariants as term
use Rattle.regent_tree.specs.declared.typing.StaticType.{StaticType}
use Rattle.regent_tree.specs.declared.typing.StaticType.TheVariants.{Truth as truth_type}
use Rattle.regent_tree.specs.Accesses.{args_in, space_in}
use Rattle.regent_tree.specs.StaticTypes.{Reach, field_place, field_term, field_type, place_of_space, space_at, spaces_of, task_named}
use Rattle.regent_tree.specs.Lookup.{is_bound}
use Rattle.regent_tree.specs.Execution.{before_last, last_field}
use Rattle.regent_tree.specs.Syntax.{a_statement, Form, var_form, if_form, while_form, for_in_form, for_to_form, do_form, assert_form, print_form, assign_form, return_form, Block, no_statement, then_statement, Arms, no_arm, an_arm, Otherwise, no_else, else_block, both_initializer, by_field_initializer, either_initializer, equal_initializer, image_initializer, preimage_initializer, plain_initializer, region_initializer, Name, Tree, fill_form, call_form, call_expr, Expression, number_expr, truth_expr, chain_expr, prefix_expr, access_expr, convert_expr, Expressions, no_expr, an_expr, Links, no_link, a_link, Steps, no_step, field_step, at_step, space_expr, is_null_expr, null_expr, cast_expr, Initializer}
use Rattle.regent_tree.specs.Scopes.{bound_as, scope_of}
use Rattle.regent_tree.specs.Typing.{arithmetic_type, colour_of, has_wild, initializer_type, operated, param_types, params_at, parent_of, reaches_of, result_type, taken_from, type_of_field, var_type}
use Rattle.code_laws.specs.Arguments.{AreDivided, AreMet, ArePaired, AreParted, IsCutName, IsHanded, IsHandedPart, IsParent, LiesBelow, parent_bound}
use Rattle.code_laws.specs.Pointers.{Assigned, BeginsAs, BeginsWith, ConvertsTo, CountsAs, FieldKeeps, FillsInto, GivesBack, HasZero, IsAssigned, IsCompared, IsCounting, IsLike, IsPointer, IsRead, IsWritten, PassesInto, SignedAs, AllGoToParams}
use Rattle.code_laws.specs.Simple.{IsInteger, IsTruth, IsSpace, IsRegion, term_in}
use Rattle.code_rules.specs.Instructions.{place_of_task, tasks_of}
use Rattle.code_rules.specs.Programs.{task_code}
use Rattle.code_laws.specs.Steps.{Forms, Taking}
use Rattle.code_laws.specs.Taking.{BeginsAt, BeginsWhole, BeginsWithin, MayChange, MayDo, pairs_in}
use Rattle.code_rules.specs.Slots.{Where, typed, bound}
use Rattle.code_rules.specs.Expressions.{count}
use Rattle.code_rules.specs.Statements.{on_line, after_form, after_arm, after_arms, looping}
use Rattle.check_rules.specs.rules.Formats.{numbers_in}
pub use Rattle.code_laws.specs.Counting.{CountsDown}
pub use Rattle.code_laws.specs.Fields.{are_fields, IsPartElement, IsField, IsAnyField, IsFieldOf, IsBehind, field_behind, IsOwnRegion, IsNamedRegion, LoopsOver, IsOwnCut, LoopsOverPart, IsPiece, IsLooped, element_field, part_element, AreReachable, IsPointing, IsKeepable, IsDifference, IsBegun, IsSaid, GoesThrough}

-- ---- expressions

-- a task of the program that needs nothing
abbrev pub IsCalled : Tree → Name → Type 0
IsCalled tree task = (slice_get (tasks_of tree) (place_of_task tree task) ≡ Some (task_named tree task))
    × ((task_code tree (task_named tree task)).needs ≡ [])

-- a part of a partition that has a name, of a region that has one, with which a variable begins
abbrev pub BeginsAsPart : Option Taking → Where → Expression → Type 0 → Type 0
BeginsAsPart takes w (access_expr n (at_step e no_step)) Part =
    LoopsOverPart w (access_expr n (at_step e no_step)) Part
    × (term_in (parent_bound w n).static_type ≡ term.Name (parent_of (bound w n).static_type))
    × BeginsWithin takes w.scope.next (parent_of (bound w n).static_type)
    × BeginsAt takes w.scope.next (bound w n).number (colour_of w.scope e)
BeginsAsPart takes w e Part = ⊥

-- the access may be made to a field of a name's region
abbrev pub MayTouch : Forms → Where → Name → ℕ → Mode → Type 0
MayTouch forms w n field a = MayDo forms.takes (term_in (bound w n).static_type) field a

-- a field of a name's region that is read at each of its points
pub record IsScanned (forms : Forms) (w : Where) (n f : Name) : Type 0 where
  pub parent : IsParent w n
  pub field : field_place w.tree (space_in (bound w n).static_type) f
      < length (space_at w.tree (space_in (bound w n).static_type)).fields
  pub may : MayTouch forms w n (field_place w.tree (space_in (bound w n).static_type) f) mode.Read

-- so it may to each of these fields, for writing
abbrev pub MayFill : Forms → Where → Name → List Name → Type 0
MayFill forms w n [] = Unit {0}
MayFill forms w n (f ∷ fs) =
    MayTouch forms w n (field_place w.tree (space_in (bound w n).static_type) f) mode.Write × MayFill forms w n fs

-- so it may of each region that a pointer's type names, of a part as of the whole
abbrev pub MayReach : Forms → Where → List Reach → ℕ → Mode → Type 0
MayReach forms w [] field a = Unit {0}
MayReach forms w (Some (term.Name i) ∷ rs) field a =
    MayDo forms.takes (term_in (bound_as w.scope.names i).static_type) field a × MayReach forms w rs field a
MayReach forms w (Some (term.Child p c) ∷ rs) field a =
    MayDo forms.takes (term_in (bound_as w.scope.names (parent_of (bound_as w.scope.names p).static_type)).static_type) field a
    × MayReach forms w rs field a
MayReach forms w (None ∷ rs) field a = MayReach forms w rs field a

-- the access may be made to a field of what a pointer of a type goes to, whose regions are in scope
pub record IsFurther (forms : Forms) (w : Where) (t : StaticType) (f : Name) (a : Mode) : Type 0 where
  pub pointer : IsPointer t
  pub reachable : AreReachable w t
  pub certain : has_wild (reaches_of t) ≡ false
  pub field : field_place w.tree (space_in t) f < length (space_at w.tree (space_in t)).fields
  pub keeps : FieldKeeps (field_term w.tree (space_in t) (field_place w.tree (space_in t) f)) (type_of_field w.tree t f)
  pub may : MayReach forms w (reaches_of t) (field_place w.tree (space_in t) f) a

-- one field is read after the other, each of what the field before it goes to
abbrev pub AreFurther : Forms → Where → StaticType → Steps → Type 0
AreFurther forms w t no_step = Unit {0}
AreFurther forms w t (field_step f rest) = IsFurther forms w t f mode.Read × AreFurther forms w (type_of_field w.tree t f) rest
AreFurther forms w t (at_step e rest) = ⊥

-- the access may be made to a field of what a pointer of a type goes to
pub record MayUse (forms : Forms) (w : Where) (t : StaticType) (f : Name) (a : Mode) : Type 0 where
  pub field : field_place w.tree (space_in t) f < length (space_at w.tree (space_in t)).fields
  pub keeps : FieldKeeps (field_term w.tree (space_in t) (field_place w.tree (space_in t) f)) (type_of_field w.tree t f)
  pub may : MayReach forms w (reaches_of t) (field_place w.tree (space_in t) f) a

-- so it may to a field through a name's pointer
abbrev pub MayGo : Forms → Where → Name → Name → Mode → Type 0
MayGo forms w n f a = MayReach forms w (reaches_of (bound w n).static_type) (field_place w.tree (space_in (bound w n).static_type) f) a

-- a task of the program, whose needs are met, of whose parameters the constraints hold, whose pointers go to parameters,
-- and whose partitions are of the regions that it is given
abbrev pub IsCallable : Forms → Where → Name → Expressions → Type 0
IsCallable forms w task args =
    (slice_get (tasks_of w.tree) (place_of_task w.tree task) ≡ Some (task_named w.tree task))
    × AreMet forms.keeps forms.takes w args (task_code w.tree (task_named w.tree task)).needs
    × AreParted forms.keeps forms.takes w args (pairs_in (scope_of w.tree (task_named w.tree task)).known)
    × AllGoToParams (scope_of w.tree (task_named w.tree task)).names
    × AreDivided w args 0 (param_types w.tree (task_named w.tree task))

-- a number or truth, an index or a pointer where these are kept, a region or partition that has a name, or a part of one that has is given to a parameter
abbrev pub IsPassed : Forms → Where → StaticType → StaticType → Expression → Type 0 → Type 0 → Type 0
IsPassed forms w t p e Typed Part =
    (PassesInto forms.keeps (typed w e) t p × Typed) ⊎ (IsHanded forms.takes w t p e ⊎ IsHandedPart forms.keeps forms.takes w t p e Part)

abbrev mutual
  pub IsTyped : Forms → Where → Expression → Type 0
  IsTyped forms w (number_expr z v) = FitsWidth v z
  IsTyped forms w (truth_expr b) = Unit {0}
  IsTyped forms w (chain_expr first rest) = IsTyped forms w first × AreTypedLinks forms w (typed w first) rest
  IsTyped forms w (prefix_expr signs e) = IsTyped forms w e × SignedAs forms.keeps (typed w e) signs
  IsTyped forms w (access_expr n no_step) =
      (is_bound w.scope.names n ≡ true) × IsRead forms.keeps (bound w n).static_type
  IsTyped forms w (access_expr n (field_step f no_step)) = (forms.keeps ≡ true)
      × ((IsBehind w n f (field_behind w n f) × MayGo forms w n f mode.Read) ⊎ IsCutName w n)
  IsTyped forms w (access_expr n (field_step f (field_step g rest))) = (forms.keeps ≡ true)
      × IsBehind w n f (field_behind w n f) × MayGo forms w n f mode.Read × AreFurther forms w (field_behind w n f) (field_step g rest)
  IsTyped forms w (access_expr n (at_step e no_step)) = (forms.keeps ≡ true) × IsTyped forms w e × IsCounting (typed w e)
      × (is_bound w.scope.names n ≡ true) × IsRegion (bound w n).static_type
      × IsOwnRegion w (bound w n) (bound w n).static_type
  IsTyped forms w (is_null_expr e) = (forms.keeps ≡ true) × IsPointer (typed w e) × IsTyped forms w e
  IsTyped forms w (null_expr t) = (forms.keeps ≡ true) × IsWritten w.scope.names (typed w (null_expr t))
  IsTyped forms w (cast_expr t e) = (forms.keeps ≡ true) × IsWritten w.scope.names (typed w (cast_expr t e))
      × IsCounting (typed w e) × IsTyped forms w e × (has_wild (reaches_of (typed w (cast_expr t e))) ≡ false)
  IsTyped forms w (access_expr n (at_step e (field_step f no_step))) = IsTyped forms w e × CountsAs forms.keeps (typed w e)
      × GoesThrough w n e × IsFieldOf forms.keeps w n f (element_field w n e f)
      × MayTouch forms w n (field_place w.tree (space_in (bound w n).static_type) f) mode.Read
  IsTyped forms w (access_expr n (at_step e (field_step f (field_step g rest)))) = (forms.keeps ≡ true) × IsTyped forms w e
      × CountsAs forms.keeps (typed w e) × GoesThrough w n e × IsFieldOf forms.keeps w n f (element_field w n e f)
      × MayTouch forms w n (field_place w.tree (space_in (bound w n).static_type) f) mode.Read
      × AreFurther forms w (element_field w n e f) (field_step g rest)
  IsTyped forms w (call_expr task args) = (forms.calls ≡ true)
      × HasZero (result_type w.tree (task_named w.tree task).result) × IsCallable forms w task args
      × ArePassed forms w (params_at w.tree w.scope (task_named w.tree task) args)
      (param_types w.tree (task_named w.tree task)) args
  IsTyped forms w (access_expr n (at_step e (at_step i no_step))) = (forms.keeps ≡ true) × IsPiece w n e
      × (IsTyped forms w e × IsCounting (typed w e)) × (IsTyped forms w i × IsCounting (typed w i))
  IsTyped forms w (access_expr n (at_step e (at_step i (field_step f rest)))) = (forms.keeps ≡ true) × IsPiece w n e
      × (IsTyped forms w e × IsCounting (typed w e)) × (IsTyped forms w i × IsCounting (typed w i))
      × MayUse forms w (part_element w n e i) f mode.Read
      × AreFurther forms w (type_of_field w.tree (part_element w n e i) f) rest
  IsTyped forms w (space_expr k e) = IsTyped forms w e × IsInteger (typed w e)
  IsTyped forms w (convert_expr t e) = IsTyped forms w e × CountsAs forms.keeps (typed w e) × ConvertsTo forms.keeps t
  IsTyped forms w _ = ⊥

  pub AreTypedLinks : Forms → Where → StaticType → Links → Type 0
  AreTypedLinks forms w t no_link = Unit {0}
  AreTypedLinks forms w t (a_link Or e rest) =
      IsTruth t × IsTruth (typed w e) × IsTyped forms w e × AreTypedLinks forms w truth_type rest
  AreTypedLinks forms w t (a_link And e rest) =
      IsTruth t × IsTruth (typed w e) × IsTyped forms w e × AreTypedLinks forms w truth_type rest
  AreTypedLinks forms w t (a_link (Compare c) e rest) = IsCompared forms.keeps c t (typed w e) × IsTyped forms w e
      × AreTypedLinks forms w (operated (Compare c) t (typed w e)) rest
  AreTypedLinks forms w t (a_link (Compute o) e rest) = CountsAs forms.keeps t × CountsAs forms.keeps (typed w e) × IsTyped forms w e
      × AreTypedLinks forms w (operated (Compute o) t (typed w e)) rest

  -- what stands for the colour of a part
  pub IsIndexed : Forms → Where → Expression → Type 0
  IsIndexed forms w (access_expr n (at_step e no_step)) = IsTyped forms w e × IsCounting (typed w e)
  IsIndexed forms w _ = ⊥

  -- what is given to parameters of these types
  pub ArePassed : Forms → Where → List StaticType → List StaticType → Expressions → Type 0
  ArePassed forms w [] [] no_expr = Unit {0}
  ArePassed forms w (t ∷ ts) (p ∷ ps) (an_expr e es) =
      IsPassed forms w t p e (IsTyped forms w e) (IsIndexed forms w e) × ArePassed forms w ts ps es
  ArePassed forms w _ _ _ = ⊥

-- numbers that are printed
abbrev pub AreNumbers : Forms → Where → Expressions → Type 0
AreNumbers forms w no_expr = Unit {0}
AreNumbers forms w (an_expr e es) = IsInteger (typed w e) × IsTyped forms w e × AreNumbers forms w es

-- ---- statements

-- fields of a region that are filled with a value of a type
abbrev pub AreFilled : Bool → Where → Name → StaticType → List Name → Type 0
AreFilled keeps w r from [] = Unit {0}
AreFilled keeps w r from (f ∷ fs) =
    let out = field_type w.tree (space_in (bound w r).static_type) (args_in (bound w r).static_type) f in
    FillsInto keeps from out × IsFieldOf keeps w r f out × AreFilled keeps w r from fs

-- the last field of an access is one of what the fields before it go to, of which these stand behind the first two
abbrev pub IsThrough : Forms → Where → Name → Steps → Steps → Mode → Type 0
IsThrough forms w n steps rest a = (are_fields rest ≡ true) × IsTyped forms w (access_expr n (before_last steps))
    × IsFurther forms w (typed w (access_expr n (before_last steps))) (last_field steps) a

-- so it is assigned, or reduced
abbrev pub IsSetThrough : Forms → Where → Name → Steps → Steps → Expression → Type 0
IsSetThrough forms w n steps rest y = (forms.keeps ≡ true) × Assigned (typed w y) (typed w (access_expr n steps)) × IsTyped forms w y
    × IsThrough forms w n steps rest mode.Write

abbrev pub IsReducedThrough : Forms → Where → Name → Steps → Steps → Op → Expression → Type 0
IsReducedThrough forms w n steps rest o y = (forms.keeps ≡ true) × IsInteger (typed w y) × IsInteger (typed w (access_expr n steps))
    × IsTyped forms w y × IsThrough forms w n steps rest (mode.Reduce o)

-- so is a field of an element of a part that has no name
abbrev pub IsSetInPart : Forms → Where → Name → Expression → Expression → Name → Expression → Type 0
IsSetInPart forms w n e i f y = (forms.keeps ≡ true) × Assigned (typed w y) (type_of_field w.tree (part_element w n e i) f) × IsTyped forms w y
    × IsPiece w n e × (IsTyped forms w e × IsCounting (typed w e)) × (IsTyped forms w i × IsCounting (typed w i))
    × MayUse forms w (part_element w n e i) f mode.Write

abbrev pub IsReducedInPart : Forms → Where → Name → Expression → Expression → Name → Op → Expression → Type 0
IsReducedInPart forms w n e i f o y = (forms.keeps ≡ true) × IsInteger (typed w y) × IsInteger (type_of_field w.tree (part_element w n e i) f)
    × IsTyped forms w y × IsPiece w n e × (IsTyped forms w e × IsCounting (typed w e)) × (IsTyped forms w i × IsCounting (typed w i))
    × MayUse forms w (part_element w n e i) f (mode.Reduce o)

-- a field space that is there and has no more fields than a root may have
pub record IsMakable (tree : Tree) (space : ℕ) : Type 0 where
  pub there : space < length (spaces_of tree)
  pub few : length (space_at tree space).fields ≤ 256

-- how a variable begins that is a region or a partition
abbrev pub IsBegunBy : Forms → Where → Initializer → Type 0
IsBegunBy forms w (region_initializer e u) = (forms.makes ≡ true) × IsSpace (typed w e)
    × IsTyped forms w e × IsMakable w.tree (place_of_space w.tree u.name) × BeginsWhole forms.takes w.scope.next
IsBegunBy forms w (equal_initializer r e) = (forms.keeps ≡ true) × IsSpace (typed w e) × IsTyped forms w e × IsParent w r
IsBegunBy forms w (by_field_initializer r f e) = (forms.keeps ≡ true) × IsSpace (typed w e) × IsTyped forms w e × IsScanned forms w r f
IsBegunBy forms w (image_initializer s p r f) = (forms.keeps ≡ true) × IsParent w s × IsCutName w p
    × IsScanned forms w r f × LiesBelow forms.takes w (parent_bound w p) (bound w r)
IsBegunBy forms w (preimage_initializer s p r f) = (forms.keeps ≡ true) × IsParent w s × IsCutName w p
    × IsScanned forms w r f × LiesBelow forms.takes w (bound w s) (bound w r)
IsBegunBy forms w (both_initializer p q) = (forms.keeps ≡ true) × ArePaired w p q
IsBegunBy forms w (either_initializer p q) = (forms.keeps ≡ true) × ArePaired w p q
IsBegunBy forms w (plain_initializer e) = ⊥

abbrev mutual
  pub IsTypedForm : Forms → Where → Form → Type 0
  IsTypedForm forms w (var_form n None (Some (plain_initializer e))) =
      IsBegun forms.keeps w e (IsKeepable forms.keeps w e × IsTyped forms w e) (BeginsAsPart forms.takes w e (IsIndexed forms w e))
  IsTypedForm forms w (var_form n None (Some start)) = IsBegunBy forms w start
  IsTypedForm forms w (var_form n (Some t) (Some (plain_initializer e))) = IsSaid forms.keeps w e
      (BeginsWith forms.keeps w.scope.names (typed w e) (var_type w.tree w.scope (Some t) (Some (plain_initializer e))) × IsTyped forms w e)
      (BeginsAsPart forms.takes w e (IsIndexed forms w e))
      (IsLike (var_type w.tree w.scope (Some t) (Some (plain_initializer e))) (initializer_type w.tree w.scope w.scope.next (plain_initializer e)))
  IsTypedForm forms w (var_form n (Some t) (Some start)) = (forms.keeps ≡ true)
      × IsLike (var_type w.tree w.scope (Some t) (Some start)) (initializer_type w.tree w.scope w.scope.next start) × IsBegunBy forms w start
  IsTypedForm forms w (var_form n (Some t) None) = BeginsAs forms.keeps w.scope.names (var_type w.tree w.scope (Some t) None)
  IsTypedForm forms w (if_form arms other) = AreTypedArms forms w w arms × IsTypedElse forms (after_arms w arms) other
  IsTypedForm forms w (while_form test body) = IsTruth (typed w test) × IsTyped forms w test × IsTypedBlock forms w body
  IsTypedForm forms w (do_form body) = IsTypedBlock forms w body
  IsTypedForm forms w (assert_form e) = IsTruth (typed w e) × IsTyped forms w e
  IsTypedForm forms w (print_form alias format args) =
      AreNumbers forms w args × (numbers_in format ≡ Some (count args))
  IsTypedForm forms w (return_form None) = forms.calls ≡ true → HasZero w.result → ⊥
  IsTypedForm forms w (return_form (Some e)) = GivesBack (typed w e) w.result × IsTyped forms w e
  IsTypedForm forms w (for_to_form demanded n from to body) =
      IsInteger (typed w from) × IsInteger (typed w to) × IsTyped forms w from × IsTyped forms w to
      × IsTypedBlock forms (looping w n (arithmetic_type (typed w from) (typed w to))) body
  IsTypedForm forms w (for_in_form demanded n domain body) =
      IsLooped forms.keeps w domain (IsTyped forms w domain) (IsIndexed forms w domain)
      (IsTypedBlock forms (looping w n (taken_from (typed w domain))) body)
  IsTypedForm forms w (assign_form n no_step how.Set e) =
      IsAssigned forms.keeps (typed w e) (bound w n).static_type × IsTyped forms w e × (is_bound w.scope.names n ≡ true) × MayChange forms.takes (bound w n).by_loop
  IsTypedForm forms w (assign_form n no_step (how.Reduce o) e) = IsInteger (typed w e)
      × IsInteger (bound w n).static_type × IsTyped forms w e × (is_bound w.scope.names n ≡ true) × MayChange forms.takes (bound w n).by_loop
  IsTypedForm forms w (assign_form n (at_step e (field_step f no_step)) how.Set y) =
      IsAssigned forms.keeps (typed w y) (element_field w n e f) × IsTyped forms w y × IsTyped forms w e
      × CountsAs forms.keeps (typed w e) × GoesThrough w n e × IsFieldOf forms.keeps w n f (element_field w n e f)
      × MayTouch forms w n (field_place w.tree (space_in (bound w n).static_type) f) mode.Write
  IsTypedForm forms w (assign_form n (field_step f no_step) how.Set y) = (forms.keeps ≡ true)
      × Assigned (typed w y) (field_behind w n f) × IsTyped forms w y × IsBehind w n f (field_behind w n f) × MayGo forms w n f mode.Write
  IsTypedForm forms w (assign_form n (field_step f no_step) (how.Reduce o) y) = (forms.keeps ≡ true)
      × IsInteger (typed w y) × IsInteger (field_behind w n f) × IsTyped forms w y × IsBehind w n f (field_behind w n f)
      × MayGo forms w n f (mode.Reduce o)
  IsTypedForm forms w (assign_form n (field_step f (field_step g rest)) how.Set y) = IsSetThrough forms w n (field_step f (field_step g rest)) rest y
  IsTypedForm forms w (assign_form n (field_step f (field_step g rest)) (how.Reduce o) y) = IsReducedThrough forms w n (field_step f (field_step g rest)) rest o y
  IsTypedForm forms w (assign_form n (at_step e (field_step f (field_step g rest))) how.Set y) = IsSetThrough forms w n (at_step e (field_step f (field_step g rest))) rest y
  IsTypedForm forms w (assign_form n (at_step e (field_step f (field_step g rest))) (how.Reduce o) y) = IsReducedThrough forms w n (at_step e (field_step f (field_step g rest))) rest o y
  IsTypedForm forms w (assign_form n (at_step e (field_step f no_step)) (how.Reduce o) y) =
      IsInteger (typed w y) × IsInteger (element_field w n e f) × IsTyped forms w y × IsTyped forms w e
      × CountsAs forms.keeps (typed w e) × GoesThrough w n e × IsFieldOf forms.keeps w n f (element_field w n e f)
      × MayTouch forms w n (field_place w.tree (space_in (bound w n).static_type) f) (mode.Reduce o)
  IsTypedForm forms w (assign_form n (at_step e (at_step i (field_step f no_step))) how.Set y) = IsSetInPart forms w n e i f y
  IsTypedForm forms w (assign_form n (at_step e (at_step i (field_step f no_step))) (how.Reduce o) y) = IsReducedInPart forms w n e i f o y
  IsTypedForm forms w (assign_form n (at_step e (at_step i (field_step f (field_step g rest)))) how.Set y) =
      IsSetThrough forms w n (at_step e (at_step i (field_step f (field_step g rest)))) rest y
  IsTypedForm forms w (assign_form n (at_step e (at_step i (field_step f (field_step g rest)))) (how.Reduce o) y) =
      IsReducedThrough forms w n (at_step e (at_step i (field_step f (field_step g rest)))) rest o y
  IsTypedForm forms w (call_form task args) = (forms.calls ≡ true) × IsCallable forms w task args
      × ArePassed forms w (params_at w.tree w.scope (task_named w.tree task) args)
      (param_types w.tree (task_named w.tree task)) args
  IsTypedForm forms w (fill_form r fields e) = IsTyped forms w e × (is_bound w.scope.names r ≡ true)
      × IsRegion (bound w r).static_type × AreFilled forms.keeps w r (typed w e) fields × MayFill forms w r fields
  IsTypedForm forms w _ = ⊥

  -- tests stand in the scope of the `if` itself
  pub AreTypedArms : Forms → Where → Where → Arms → Type 0
  AreTypedArms forms own w no_arm = Unit {0}
  AreTypedArms forms own w (an_arm test body rest) = IsTruth (typed own test) × IsTyped forms own test
      × IsTypedBlock forms w body × AreTypedArms forms own (after_arm w body) rest

  pub IsTypedElse : Forms → Where → Otherwise → Type 0
  IsTypedElse forms w no_else = Unit {0}
  IsTypedElse forms w (else_block body) = IsTypedBlock forms w body

  pub IsTypedBlock : Forms → Where → Block → Type 0
  IsTypedBlock forms w no_statement = Unit {0}
  IsTypedBlock forms w (then_statement (a_statement line form) rest) =
      IsTypedForm forms (on_line w line) form × IsTypedBlock forms (after_form w form) rest
