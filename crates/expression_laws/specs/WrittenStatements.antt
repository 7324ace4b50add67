-- Statements as the reader gives them: so is each of their expressions, and each fill names a field.
use Rattle.std.specs.Prelude.{Bool, false, List, [], ◌∷◌, None, Some, true, ◌≡◌}
use Rattle.check_rules.specs.scopes.Sound.{StandsIn}
use Rattle.regent_tree.specs.Syntax.{Arms, Block, Form, Otherwise, Initializer, TaskTree, Tree, a_statement, an_arm, assert_form, assign_form, by_field_initializer, call_form, do_form, else_block, equal_initializer, fill_form, for_in_form, for_to_form, if_form, Name, no_arm, no_else, no_statement, plain_initializer, print_form, region_initializer, return_form, then_statement, var_form, while_form}
use Rattle.expression_laws.specs.Writing.{AreStepped, AreWritten, IsWritten}

-- whether a field is named
abbrev pub names_field : List Name → Bool
names_field [] = false
names_field (f ∷ fs) = true

abbrev pub IsWrittenInitializer : Initializer → Type 0
IsWrittenInitializer (region_initializer e u) = IsWritten e
IsWrittenInitializer (equal_initializer r e) = IsWritten e
IsWrittenInitializer (by_field_initializer r f e) = IsWritten e
IsWrittenInitializer (plain_initializer e) = IsWritten e
IsWrittenInitializer initializer = Unit {0}

abbrev mutual
  pub IsWrittenForm : Form → Type 0
  IsWrittenForm (var_form n t (Some initializer)) = IsWrittenInitializer initializer
  IsWrittenForm (var_form n t None) = Unit {0}
  IsWrittenForm (if_form arms other) = AreWrittenArms arms × IsWrittenElse other
  IsWrittenForm (while_form test body) = IsWritten test × IsWrittenBlock body
  IsWrittenForm (for_in_form demanded n domain body) = IsWritten domain × IsWrittenBlock body
  IsWrittenForm (for_to_form demanded n from to body) = IsWritten from × IsWritten to × IsWrittenBlock body
  IsWrittenForm (do_form body) = IsWrittenBlock body
  IsWrittenForm (fill_form r fields e) = IsWritten e × (names_field fields ≡ true)
  IsWrittenForm (assert_form e) = IsWritten e
  IsWrittenForm (print_form alias format args) = AreWritten args
  IsWrittenForm (call_form task args) = AreWritten args
  IsWrittenForm (assign_form n steps how e) = IsWritten e × AreStepped steps
  IsWrittenForm (return_form (Some e)) = IsWritten e
  IsWrittenForm (return_form None) = Unit {0}

  pub IsWrittenBlock : Block → Type 0
  IsWrittenBlock no_statement = Unit {0}
  IsWrittenBlock (then_statement (a_statement line form) rest) = IsWrittenForm form × IsWrittenBlock rest

  pub AreWrittenArms : Arms → Type 0
  AreWrittenArms no_arm = Unit {0}
  AreWrittenArms (an_arm test body rest) = IsWritten test × IsWrittenBlock body × AreWrittenArms rest

  pub IsWrittenElse : Otherwise → Type 0
  IsWrittenElse no_else = Unit {0}
  IsWrittenElse (else_block body) = IsWrittenBlock body

-- so are the bodies of all tasks
abbrev pub AreWrittenTasks : Tree → Type 0
AreWrittenTasks tree = (t : TaskTree) → StandsIn tree t → IsWrittenBlock t.body
