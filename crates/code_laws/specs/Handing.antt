-- Programs whose tasks hand regions over, and what is to be shown of them.
use Rattle.std.specs.Prelude.{◌≡◌, Bool, true, false, ℕ, ◌^◌, ◌<◌, ◌≤◌, ℤ, List, length, Option, Some, None, slice_get}
use Rattle.regent_tree.specs.Scopes.{scope_of}
use Rattle.regent_tree.specs.StaticTypes.{entry_name, task_named}
use Rattle.regent_tree.specs.Syntax.{TaskTree, Tree}
use Rattle.regent_tree.specs.Typing.{result_type, scope_after_block}
use Rattle.regent_tree.specs.declared.facts.Known.{Known}
use Rattle.code_rules.specs.Instructions.{tasks_of}
use Rattle.code_rules.specs.Pieces.{lines}
use Rattle.code_rules.specs.Programs.{body_piece, place_of, task_code}
use Rattle.code_laws.specs.AcceptedPrograms.{EndsWell}
use Rattle.code_laws.specs.Programs.{IsGiven, IsTypedRun, RunsAsMeant}
use Rattle.code_laws.specs.Steps.{Forms, Taking}
use Rattle.code_laws.specs.Above.{above_in, piece_in}
use Rattle.code_laws.specs.Taking.{pairs_in}
use Rattle.code_laws.specs.Typed.{IsTypedBlock}

-- what is told of regions by the end of a task's body
abbrev pub told_in : Tree → TaskTree → List Known
told_in tree t = (scope_after_block tree (scope_of tree t) t.body).known

-- what a task takes, by what it declares and tells
abbrev pub taking_of : Tree → TaskTree → Taking
taking_of tree t = record {
  params = length t.params;
  needs = (task_code tree t).needs;
  within = pairs_in (scope_of tree t).known;
  above = above_in (told_in tree t);
  piece = piece_in (told_in tree t);
}

-- whether regions are handed over; a task may do with those that it takes what it declares, by its constraints
abbrev pub takes_by : Bool → Tree → TaskTree → Option Taking
takes_by false tree t = None
takes_by true tree t = Some (taking_of tree t)

-- also whether pointers are kept
abbrev pub forms_by : Bool → Bool → Tree → TaskTree → Forms
forms_by handing keeping tree t = record { makes = true; calls = true; takes = takes_by handing tree t; keeps = keeping }

-- a task gives a number, a truth or an index, or nothing, is typed and not too long
pub record IsTypedBy (handing keeping : Bool) (tree : Tree) (t : TaskTree) : Type 0 where
  pub given : IsGiven (result_type tree t.result)
  pub typed : IsTypedBlock (forms_by handing keeping tree t) (place_of tree t) t.body
  pub small : length (lines (body_piece tree t) 0) ≤ 2 ^ 32

abbrev pub AreTypedBy : Bool → Bool → Tree → Type 0
AreTypedBy handing keeping tree =
    (k : ℕ) (t : TaskTree) → slice_get (tasks_of tree) k ≡ Some t → IsTypedBy handing keeping tree t

-- The run in order is what the program means where tasks call others that also take regions, which have names: roots
-- that the caller made, and regions that it took itself. What the called task declares to need, the caller made or
-- declares too; that its regions lie within one another as it declares, the caller declares too, where the two aren't one;
-- and each access to a region that was taken is declared, of that region or of one within which it lies. The tasks may
-- keep pointers or not.
abbrev pub RegionsAreHandedAsMeant : Type 0
RegionsAreHandedAsMeant = (keeping : Bool) (tree : Tree) (inputs : List ℤ) (turns : ℕ) → turns < 2 ^ 64 →
    AreTypedBy true keeping tree →
    IsTypedRun (forms_by true keeping tree (task_named tree (entry_name tree))) tree inputs → RunsAsMeant tree inputs turns

-- So what it means is never broken, and the roots at the end are of the code's field spaces.
abbrev pub HandingProgramsEndWell : Type 0
HandingProgramsEndWell = (keeping : Bool) (tree : Tree) (inputs : List ℤ) (turns : ℕ) → turns < 2 ^ 64 →
    AreTypedBy true keeping tree →
    IsTypedRun (forms_by true keeping tree (task_named tree (entry_name tree))) tree inputs → EndsWell tree inputs turns
