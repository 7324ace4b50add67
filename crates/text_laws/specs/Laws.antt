-- Laws of the programs that texts spell.
use Rattle.std.specs.Prelude.{List, Ok, [], length, true, ℕ, ℤ, ◌≡◌}
use Rattle.regent_tree.specs.StaticTypes.{entry_name, task_named}
use Rattle.regent_tree.specs.Syntax.{Tree}
use Rattle.check_rules.specs.Breaches.{breaches}
use Rattle.regent_reader.specs.Texts.{Reads}
use Rattle.expression_laws.specs.Needs.{IsCallWithin}
use Rattle.regent_tree.specs.Meaning.{calls_at}
use Rattle.statement_laws.specs.Opened.{Call, Makes, Opened, Opens, run_of_opened}
use Rattle.statement_laws.specs.Watching.{IsWithinPrivileges, keeps_privileges}

-- In a program that a text spells and that has no breach, no task of a run touches an element outside its declared
-- privileges, whatever the numbers that the entry task is given and the turns.
abbrev pub TextsKeepPrivileges : Type 0
TextsKeepPrivileges = (text : List ℕ) (tree : Tree) (inputs : List ℤ) (turns : ℕ) → Reads text (Ok tree) → breaches tree ≡ [] →
    length inputs ≡ length (task_named tree (entry_name tree)).params → IsWithinPrivileges tree inputs turns

-- And each touch of each task instance that the run opens is covered by what its task declares.
abbrev pub OpenedByTextsAreCovered : Type 0
OpenedByTextsAreCovered = (text : List ℕ) (tree : Tree) (inputs : List ℤ) (turns : ℕ) → Reads text (Ok tree) → breaches tree ≡ [] →
    length inputs ≡ length (task_named tree (entry_name tree)).params →
    (i : Opened) → Opens tree inputs turns i → keeps_privileges tree (length i.store) i.task i.args (run_of_opened tree turns i) ≡ true

-- And what each call of such an instance needs lies within what the instance has.
abbrev pub CallsOfTextsLieWithin : Type 0
CallsOfTextsLieWithin = (text : List ℕ) (tree : Tree) (inputs : List ℤ) (turns : ℕ) → Reads text (Ok tree) → breaches tree ≡ [] →
    length inputs ≡ length (task_named tree (entry_name tree)).params →
    (i : Opened) (c : Call) → Opens tree inputs turns i → Makes tree turns i c →
    IsCallWithin (record { tree = tree; calls = calls_at tree turns i.more; task = i.task; args = i.args; roots = length i.store }) (task_named tree c.task) c.args
