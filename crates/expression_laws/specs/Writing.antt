-- Expressions as the reader gives them: a prefix has a sign, and a chain a link. (A hand-made prefix without one would make an
-- index of a pointer whose type stays a pointer's.)
use Rattle.std.specs.Prelude.{Bool, [], false, true, ◌∷◌, ◌≡◌}
use Rattle.regent_tree.specs.Syntax.{Expression, Expressions, Links, Steps, a_link, access_expr, an_expr, at_step, call_expr, cast_expr, chain_expr, convert_expr, field_step, is_null_expr, no_expr, no_link, no_step, null_expr, number_expr, prefix_expr, space_expr, truth_expr}

-- whether something stands behind the first part of a chain
abbrev pub has_link : Links → Bool
has_link no_link = false
has_link (a_link o e rest) = true

abbrev mutual
  pub IsWritten : Expression → Type 0
  IsWritten (number_expr z w) = Unit {0}
  IsWritten (truth_expr b) = Unit {0}
  IsWritten (chain_expr first rest) = IsWritten first × AreLinked rest × (has_link rest ≡ true)
  IsWritten (prefix_expr [] e) = ⊥
  IsWritten (prefix_expr (sign ∷ signs) e) = IsWritten e
  IsWritten (call_expr task args) = AreWritten args
  IsWritten (access_expr n steps) = AreStepped steps
  IsWritten (convert_expr t e) = IsWritten e
  IsWritten (is_null_expr e) = IsWritten e
  IsWritten (null_expr p) = Unit {0}
  IsWritten (cast_expr p e) = IsWritten e
  IsWritten (space_expr k e) = IsWritten e

  pub AreLinked : Links → Type 0
  AreLinked no_link = Unit {0}
  AreLinked (a_link o e rest) = IsWritten e × AreLinked rest

  pub AreWritten : Expressions → Type 0
  AreWritten no_expr = Unit {0}
  AreWritten (an_expr e es) = IsWritten e × AreWritten es

  pub AreStepped : Steps → Type 0
  AreStepped no_step = Unit {0}
  AreStepped (field_step f rest) = AreStepped rest
  AreStepped (at_step e rest) = IsWritten e × AreStepped rest
