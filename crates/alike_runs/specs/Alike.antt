-- Runs alike: where nesting too deep has another fault, or where a run ended early with the fault Depth.
use Rattle.std.specs.Prelude.{List, ℕ, ◌≡◌, ◌⊎◌}
use Rattle.regent_tree.specs.Running.{Called, Calls, Result, broke, came_back, fails, gives}
use Rattle.regent_tree.specs.Store.{Store}
use Rattle.regent_tree.specs.Syntax.{Name}
use Rattle.regent_tree.specs.Values.{Value}
use Rattle.regent_tree.specs.declared.outcome.Fault.{Fault}
use Rattle.regent_tree.specs.declared.outcome.FaultKind.{FaultKind}
use Rattle.regent_tree.specs.declared.outcome.FaultKind.TheVariants.{Depth}

-- another kind of fault in place of Depth
abbrev pub instead : FaultKind → FaultKind → FaultKind
instead other Depth = other
instead other kind = kind

abbrev pub renamed_fault : FaultKind → Fault → Fault
renamed_fault other f = record { kind = instead other f.kind; line = f.line }

abbrev pub renamed : {A : Type 0} → FaultKind → Result A → Result A
renamed other (gives a s) = gives a s
renamed other (fails f s) = fails (renamed_fault other f) s

abbrev pub renamed_answer : FaultKind → Called → Called
renamed_answer other (came_back v store text) = came_back v store text
renamed_answer other (broke f text) = broke (renamed_fault other f) text

-- a run, and a call, that ended with Depth
abbrev pub EndsEarly : {A : Type 0} → Result A → Type 0
EndsEarly (gives a s) = ⊥
EndsEarly (fails f s) = f.kind ≡ Depth

abbrev pub BreaksEarly : Called → Type 0
BreaksEarly (came_back v store text) = ⊥
BreaksEarly (broke f text) = f.kind ≡ Depth

-- the first ended early, or is the second with the other kind of fault in place of Depth
abbrev pub IsAlike : {A : Type 0} → FaultKind → Result A → Result A → Type 0
IsAlike other r t = EndsEarly r ⊎ (r ≡ renamed other t)

abbrev pub AnswersAlike : FaultKind → Called → Called → Type 0
AnswersAlike other c d = BreaksEarly c ⊎ (c ≡ renamed_answer other d)

abbrev pub AreAlike : FaultKind → Calls → Calls → Type 0
AreAlike other a b = (line : ℕ) (task : Name) (vs : List Value) (store : Store) →
    AnswersAlike other (a line task vs store) (b line task vs store)
