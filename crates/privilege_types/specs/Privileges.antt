-- Which accesses the held privileges allow.
use Rattle.std.specs.Prelude.{◌≡◌, ◌⊎◌, ℕ, List, Contains, All, take, slice_get, Some}
use Rattle.constraint_check.specs.Derivations.{IsSubregion}
use Rattle.regent_tree.specs.declared.facts.Known.{Known}
use Rattle.regent_tree.specs.declared.facts.Term.{Term}
use Rattle.regent_tree.specs.declared.facts.Term.TheVariants.{Name}
use Rattle.regent_tree.specs.declared.rights.Access.{Access}
use Rattle.regent_tree.specs.declared.rights.Access.TheVariants.{Read, Write, Reduce}
use Rattle.regent_tree.specs.declared.rights.Right.{Right}
use Rattle.regent_tree.specs.declared.rights.Wanted.{Wanted}

-- the access to the field is held on a region within which the term derivably lies
pub record IsHeld (rights : List Right) (facts : List Known) (term : Term) (field : ℕ) (access : Access) : Type 0 where
  pub region : ℕ
  pub held : Contains rights (record { region = region; field = field; access = access })
  pub inside : IsSubregion facts term (Name region)

-- An access is allowed where it is held. A reduction is allowed too where reading and writing are
-- both held, be it on two regions.
abbrev pub IsAllowed : List Right → List Known → Term → ℕ → Access → Type 0
IsAllowed rights facts term field Read = IsHeld rights facts term field Read
IsAllowed rights facts term field Write = IsHeld rights facts term field Write
IsAllowed rights facts term field (Reduce op) =
    IsHeld rights facts term field (Reduce op)
    ⊎ (IsHeld rights facts term field Read × IsHeld rights facts term field Write)

-- what a call wants at one place is allowed
abbrev pub IsGranted : List Right → List Known → Wanted → Type 0
IsGranted rights facts w = IsAllowed rights facts w.term w.field w.access

-- the first place at which a call wants what isn't allowed
pub record IsFirstBreach (rights : List Right) (facts : List Known) (wanted : List Wanted) (at : ℕ) : Type 0 where
  pub refused : Wanted
  pub stands : slice_get wanted at ≡ Some refused
  pub not_granted : ¬ IsGranted rights facts refused
  pub earlier : All (IsGranted rights facts) (take at wanted)
