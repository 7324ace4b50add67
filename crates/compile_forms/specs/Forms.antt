-- Statements that bind no name and in which no block stands.
use Rattle.std.specs.Prelude.{Bool, false, true}
use Rattle.regent_tree.specs.Syntax.{Form, do_form, for_in_form, for_to_form, if_form, var_form, while_form}

abbrev pub is_plain : Form → Bool
is_plain (var_form n term initializer) = false
is_plain (if_form arms other) = false
is_plain (while_form test body) = false
is_plain (for_in_form demanded n domain body) = false
is_plain (for_to_form demanded n from to body) = false
is_plain (do_form body) = false
is_plain form = true
