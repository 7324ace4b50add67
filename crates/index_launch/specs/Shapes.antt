-- Which loops are index launches: those in which nothing speaks against issuing all calls in one step.
use Rattle.std.specs.Prelude.{◌&&◌, ◌||◌, Bool, true, false, not, ◌==◌, List, [], ◌∷◌, ◌++◌, Option, None, Some, ℕ, suc}
use Rattle.std.specs.List.{list_any}
use Rattle.lane_kernels.specs.Modes.{in_conflict}
use Rattle.lane_kernels.specs.declared.numbers.Mode.{Mode}
use Rattle.index_launch.specs.declared.view.ArgKind.{ArgKind}
use Rattle.index_launch.specs.declared.view.ArgKind.TheVariants.{Child, Other}
use Rattle.index_launch.specs.declared.view.ArgView.{ArgView}
use Rattle.index_launch.specs.declared.view.LaunchShape.{LaunchShape}
use Rattle.index_launch.specs.declared.view.LaunchShape.TheVariants.{Launch, Plain}
use Rattle.index_launch.specs.declared.view.LoopView.{LoopView}
use Rattle.index_launch.specs.declared.view.Reason.{Reason}
use Rattle.index_launch.specs.declared.view.Reason.TheVariants.{NotOverSpace, NotOneCall, Argument, Interferes}

-- ---- two arguments

-- a use of a field depends on the order with another use of it
abbrev pub conflicts : ℕ → Mode → ℕ × Mode → Bool
conflicts field mode other = (other.0 == field) && in_conflict mode other.1

abbrev pub uses_conflict : List (ℕ × Mode) → List (ℕ × Mode) → Bool
uses_conflict uses others = list_any (λ one. list_any (conflicts one.0 one.1) others) uses

-- a pair is listed, in either order
abbrev pub are_apart : List (ℕ × ℕ) → ℕ → ℕ → Bool
are_apart apart a b = list_any (λ pair. ((pair.0 == a) && (pair.1 == b)) || ((pair.0 == b) && (pair.1 == a))) apart

-- both are children of one disjoint partition, so at different colours they share no point
abbrev pub have_one_partition : ArgKind → ArgKind → Bool
have_one_partition (Child p true) (Child q true) = p == q
have_one_partition _ _ = false

-- Two arguments interfere across different colours: they may share points of fields that are used in
-- conflict.
abbrev pub interfere : List (ℕ × ℕ) → ℕ → ArgView → ℕ → ArgView → Bool
interfere apart a one b other = (one.space == other.space) && uses_conflict one.uses other.uses
    && not (are_apart apart a b) && not (have_one_partition one.kind other.kind)

-- ---- what speaks against a launch

abbrev pub is_other : ArgKind → Bool
is_other Other = true
is_other _ = false

-- a reason, where a test says so
abbrev pub where_so : Bool → Reason → List Reason
where_so true reason = reason ∷ []
where_so false reason = []

-- what the forms of arguments tell, from a place on
abbrev pub of_arguments : ℕ → List ArgView → List Reason
of_arguments a [] = []
of_arguments a (one ∷ args) = where_so (is_other one.kind) (Argument a) ++ of_arguments (suc a) args

-- what the pairs of an argument with others tell, from a place on
abbrev pub against : List (ℕ × ℕ) → ℕ → ArgView → ℕ → List ArgView → List Reason
against apart a one b [] = []
against apart a one b (other ∷ args) =
    where_so (interfere apart a one b other) (Interferes a b) ++ against apart a one (suc b) args

-- what all pairs tell: of each argument with itself and those behind it
abbrev pub of_pairs : List (ℕ × ℕ) → ℕ → List ArgView → List Reason
of_pairs apart a [] = []
of_pairs apart a (one ∷ args) = against apart a one a (one ∷ args) ++ of_pairs apart (suc a) args

-- all reasons against a launch, in order
abbrev pub reasons : LoopView → List Reason
reasons view = where_so (not view.over_space) NotOverSpace ++ where_so (not view.one_call) NotOneCall
    ++ of_arguments 0 view.args ++ of_pairs view.apart 0 view.args

-- ---- the shape

abbrev pub first : List Reason → Option Reason
first [] = None
first (reason ∷ more) = Some reason

abbrev pub shape_for : Option Reason → LaunchShape
shape_for None = Launch
shape_for (Some reason) = Plain reason

-- A loop is a launch where no reason is against it, and else plain for the first one.
abbrev pub shape : LoopView → LaunchShape
shape view = shape_for (first (reasons view))
