-- A statement that binds no name and in which no block stands leaves the scope as it is, and takes no shape of a loop.
use Rattle.std.proofs.Common.{◌≡◌, List, true, refl}
use Rattle.regent_tree.specs.Scopes.{Scope}
use Rattle.regent_tree.specs.Syntax.{Form, Tree, assert_form, assign_form, call_form, do_form, fill_form, for_in_form, for_to_form, if_form, print_form, return_form, var_form, while_form}
use Rattle.regent_tree.specs.Typing.{scope_after}
use Rattle.check_rules.specs.declared.loop_shape.LoopShape.{LoopShape}
use Rattle.code_rules.specs.Slots.{Where}
use Rattle.code_rules.specs.Statements.{form_code}
use Rattle.compile_forms.specs.Forms.{is_plain}
use Rattle.compile_statements.specs.Shaped.{form_by, shapes_after_form}

pub plain_stays : (tree : Tree) (s : Scope) (form : Form) → is_plain form ≡ true → scope_after tree s form ≡ s
plain_stays tree s (var_form n term initializer) h = absurd cc
plain_stays tree s (if_form arms other) h = absurd cc
plain_stays tree s (while_form test body) h = absurd cc
plain_stays tree s (for_in_form demanded n domain body) h = absurd cc
plain_stays tree s (for_to_form demanded n from to body) h = absurd cc
plain_stays tree s (do_form body) h = absurd cc
plain_stays tree s (fill_form r fields e) h = refl
plain_stays tree s (assert_form e) h = refl
plain_stays tree s (print_form alias format args) h = refl
plain_stays tree s (call_form task args) h = refl
plain_stays tree s (assign_form n steps how e) h = refl
plain_stays tree s (return_form e) h = refl

pub plain_leaves : (ls : List LoopShape) (form : Form) → is_plain form ≡ true → shapes_after_form ls form ≡ ls
plain_leaves ls (var_form n term initializer) h = absurd cc
plain_leaves ls (if_form arms other) h = absurd cc
plain_leaves ls (while_form test body) h = absurd cc
plain_leaves ls (for_in_form demanded n domain body) h = absurd cc
plain_leaves ls (for_to_form demanded n from to body) h = absurd cc
plain_leaves ls (do_form body) h = absurd cc
plain_leaves ls (fill_form r fields e) h = refl
plain_leaves ls (assert_form e) h = refl
plain_leaves ls (print_form alias format args) h = refl
plain_leaves ls (call_form task args) h = refl
plain_leaves ls (assign_form n steps how e) h = refl
plain_leaves ls (return_form e) h = refl

pub plain_by : (ls : List LoopShape) (w : Where) (form : Form) → is_plain form ≡ true → form_by ls w form ≡ form_code w form
plain_by ls w (var_form n term initializer) h = absurd cc
plain_by ls w (if_form arms other) h = absurd cc
plain_by ls w (while_form test body) h = absurd cc
plain_by ls w (for_in_form demanded n domain body) h = absurd cc
plain_by ls w (for_to_form demanded n from to body) h = absurd cc
plain_by ls w (do_form body) h = absurd cc
plain_by ls w (fill_form r fields e) h = refl
plain_by ls w (assert_form e) h = refl
plain_by ls w (print_form alias format args) h = refl
plain_by ls w (call_form task args) h = refl
plain_by ls w (assign_form n steps how e) h = refl
plain_by ls w (return_form e) h = refl
