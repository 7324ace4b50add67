-- What the privileges that a task holds allow it.
use Rattle.std.specs.Prelude.{ℕ, Bool, true, false, List, ◌==◌, ◌&&◌, ◌||◌}
use Rattle.std.specs.List.{list_any}
use Rattle.lane_kernels.specs.Modes.{same_op}
use Rattle.regent_tree.specs.declared.facts.Known.{Known}
use Rattle.regent_tree.specs.declared.facts.Term.{Term}
use Rattle.regent_tree.specs.declared.facts.Term.TheVariants.{Name}
use Rattle.regent_tree.specs.declared.rights.Access.{Access}
use Rattle.regent_tree.specs.declared.rights.Access.TheVariants.{Read, Write, Reduce}
use Rattle.regent_tree.specs.declared.rights.Right.{Right}
use Rattle.regent_tree.specs.declared.rights.Wanted.{Wanted}
use Rattle.regent_tree.specs.Facts.{is_subregion}

abbrev pub same_access : Access → Access → Bool
same_access Read Read = true
same_access Write Write = true
same_access (Reduce p) (Reduce q) = same_op p q
same_access _ _ = false

-- whether a privilege is for the field and the access, on a region within which the term lies
abbrev pub gives : List Known → Term → ℕ → Access → Right → Bool
gives known t f a right =
    (right.field == f) && same_access right.access a && is_subregion known t (Name right.region)

abbrev pub is_held : List Right → List Known → Term → ℕ → Access → Bool
is_held rights known t f a = list_any (gives known t f a) rights

-- a reduction is allowed too where reading and writing are both held, be it on two regions
abbrev pub allows : List Right → List Known → Term → ℕ → Access → Bool
allows rights known t f Read = is_held rights known t f Read
allows rights known t f Write = is_held rights known t f Write
allows rights known t f (Reduce o) = is_held rights known t f (Reduce o)
    || (is_held rights known t f Read && is_held rights known t f Write)

-- whether what is wanted at one place is allowed
abbrev pub is_granted : List Right → List Known → Wanted → Bool
is_granted rights known w = allows rights known w.term w.field w.access
