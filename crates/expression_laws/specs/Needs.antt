-- The needs of a call, and when they lie within what the caller has.
use Rattle.std.specs.Prelude.{Bool, List, None, Option, Some, [], cond, false, flat_map, get_or, nat_le, ℕ, ◌&&◌, ◌==◌, ◌≡◌, ◌∷◌, ◌⊎◌}
use Rattle.lane_kernels.specs.Modes.{joined}
use Rattle.lane_kernels.specs.declared.numbers.Mode.{Mode}
use Rattle.lane_kernels.specs.declared.numbers.Mode.TheVariants as mode
use Rattle.plain_values.specs.Points.{has}
use Rattle.regent_tree.specs.Syntax.{TaskTree, Tree}
use Rattle.regent_tree.specs.Values.{Region, Value, a_truth, region_of}
use Rattle.regent_tree.specs.declared.rights.Access.{Access}
use Rattle.regent_tree.specs.declared.rights.Access.TheVariants.{Read, Write, Reduce}
use Rattle.regent_tree.specs.declared.rights.Right.{Right}
use Rattle.check_rules.specs.rules.Privileges.{rights_declared}
use Rattle.expression_laws.specs.Instances.{Instance}

-- the mode of an access
abbrev pub mode_of : Access → Mode
mode_of Read = mode.Read
mode_of Write = mode.Write
mode_of (Reduce o) = mode.Reduce o

-- a privilege on an argument, as a mode at a field of a point of a root
abbrev pub argument_at : List Value → ℕ → Region
argument_at args i = region_of (get_or args i (a_truth false))

abbrev pub is_needed_at : List Value → ℕ → ℕ → ℕ → Right → Bool
is_needed_at args root field point right =
    (right.field == field) && (((argument_at args right.region).root == root) && has (argument_at args right.region).points point)

abbrev pub mode_at : List Value → ℕ → ℕ → ℕ → Right → List Mode
mode_at args root field point right = cond (is_needed_at args root field point right) (mode_of right.access ∷ []) []

-- the modes in which a call of a task with these arguments needs a field at a point
abbrev pub modes_needed : Tree → TaskTree → List Value → ℕ → ℕ → ℕ → List Mode
modes_needed tree task args root field point = flat_map (mode_at args root field point) (rights_declared tree task)

-- those that an instance has: what it made it has whole
abbrev pub modes_had : Instance → ℕ → ℕ → ℕ → List Mode
modes_had x root field point =
    cond (nat_le x.roots root) (mode.Write ∷ []) (modes_needed x.tree x.task x.args root field point)

-- the join of modes
abbrev pub joined_with : Mode → Option Mode → Option Mode
joined_with a None = Some a
joined_with a (Some b) = Some (joined a b)

abbrev pub joined_all : List Mode → Option Mode
joined_all [] = None
joined_all (a ∷ modes) = joined_with a (joined_all modes)

-- a join that is there is this mode, or Write
abbrev pub IsMet : Option Mode → Mode → Type 0
IsMet None a = ⊥
IsMet (Some c) a = (c ≡ a) ⊎ (c ≡ mode.Write)

-- the join of what is needed, where it is there, equals that of what is had, or that is Write
abbrev pub AreWithin : List Mode → List Mode → Type 0
AreWithin needed had = (a : Mode) → joined_all needed ≡ Some a → IsMet (joined_all had) a

-- the needs of a call of a task are within what an instance has
abbrev pub IsCallWithin : Instance → TaskTree → List Value → Type 0
IsCallWithin x task args = (root field point : ℕ) →
    AreWithin (modes_needed x.tree task args root field point) (modes_had x root field point)
