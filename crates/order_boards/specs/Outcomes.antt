-- Outcomes of jobs: as boards have them, and as the machine's run in order gives them.
use Rattle.std.specs.Prelude.{◌≡◌, ℕ, zero, suc, List, [], ◌∷◌, Option, Some, None, map}
use Rattle.plain_values.specs.Points.{points}
use Rattle.regent_tree.specs.declared.outcome.Ending.TheVariants.{Finished}
use Rattle.regent_tree.specs.declared.outcome.Fault.{Fault}
use Rattle.regent_tree.specs.declared.outcome.Outcome.{Outcome}
use Rattle.regent_tree.specs.declared.outcome.RootImage.{RootImage}
use Rattle.board_rules.specs.Journals.{Outcome as BoardOutcome, faulted, finished, unfinished}
use Rattle.board_rules.specs.NumberedRuns.{Making}
use Rattle.board_rules.specs.Processes.{Map}
use Rattle.machine_terms.specs.Jobs.{ending_of}
use Rattle.regent_boards.specs.Frames.{Spaces, Stop, broken, faults_at}
use Rattle.regent_boards.specs.RegentMachine.{fields_of, own_roots, regent_ground, size_of, space_of, who_of}

-- the fault of a run that breaks off; none where it is Broken
abbrev pub fault_of : Stop → Option Fault
fault_of (faults_at f) = Some f
fault_of broken = None

-- the making with this number, counted from 0, is this one of the operation at a place
abbrev pub IsMadeBy : List ℕ → ℕ → List Making → ℕ → Type 0
IsMadeBy p i [] k = ⊥
IsMadeBy p i (x ∷ xs) zero = (x.maker ≡ p) × (x.making ≡ i)
IsMadeBy p i (x ∷ xs) (suc k) = IsMadeBy p i xs k

-- that operation made each of these roots, as these of its makings
abbrev pub AreMadeBy : List ℕ → List Making → List ℕ → List ℕ → Type 0
AreMadeBy p xs [] [] = Unit {0}
AreMadeBy p xs (root ∷ roots) (i ∷ makings) = IsMadeBy p i xs (who_of root) × AreMadeBy p xs roots makings
AreMadeBy p xs _ _ = ⊥

module _ (spaces : Spaces) where
  -- what a root holds on a map
  abbrev pub image_on : Map (regent_ground spaces) → ℕ → RootImage
  image_on m root = record {
    space = space_of root;
    count = size_of root;
    fields = map (λ f. map (λ p. m (record { root = root; field = f; point = p })) (points (size_of root))) (fields_of spaces (space_of root));
  }

  -- a job's outcome is this one, whose first task answers these roots as these of its makings
  abbrev pub IsOutcome : List ℕ → List ℕ → BoardOutcome (regent_ground spaces) → Outcome → Type 0
  IsOutcome roots makings (finished t a m) o = (o ≡ record { text = t; ending = Finished (map (image_on m) roots) }) × (a.roots ≡ own_roots roots makings)
  IsOutcome roots makings (faulted t x) o = o ≡ record { text = t; ending = ending_of (fault_of x) }
  IsOutcome roots makings unfinished o = ⊥
