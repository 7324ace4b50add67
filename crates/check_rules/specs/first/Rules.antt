-- The numbers of the rules, and the first of several that are breached.
use Rattle.std.specs.Option.{option_or}
use Rattle.std.specs.Prelude.{Bool, List, None, Option, Some, [], cond, ℕ, ◌∷◌}
use Rattle.check_rules.specs.declared.rule.Rule.{Rule}
use Rattle.check_rules.specs.declared.rule.Rule.TheVariants as rule

abbrev pub number_of : Rule → ℕ
number_of rule.Name = 1
number_of rule.Twice = 2
number_of rule.Type = 3
number_of rule.Count = 4
number_of rule.Place = 5
number_of rule.Target = 6
number_of rule.Format = 7
number_of rule.Read = 8
number_of rule.Write = 9
number_of rule.Reduce = 10
number_of rule.CallPrivilege = 11
number_of rule.CallConstraint = 12
number_of rule.Pointer = 13
number_of rule.Spaces = 14
number_of rule.Partition = 15
number_of rule.Declared = 16
number_of rule.Return = 17
number_of rule.Start = 18
number_of rule.NotLaunch = 19
number_of rule.Interferes = 20

-- a rule, where it is breached
abbrev pub rule_if : Bool → Rule → Option Rule
rule_if broken r = cond broken (Some r) None

-- the first that there is
abbrev pub first_of : {A : Type 0} → List (Option A) → Option A
first_of [] = None
first_of (r ∷ rs) = option_or r (first_of rs)

-- the first that there is for the elements of a list, in order
abbrev pub first_in : {A B : Type 0} → (A → Option B) → List A → Option B
first_in f [] = None
first_in f (x ∷ xs) = option_or (f x) (first_in f xs)
