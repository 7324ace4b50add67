-- What is looked for above a term, and in which rows.
use Rattle.std.specs.Prelude.{Bool, List, false, ◌&&◌, ◌≡◌}
use Rattle.regent_tree.specs.Facts.{Row, alike, any_above, has_sibling_above, is_below, is_earlier, is_other_child}
use Rattle.regent_tree.specs.declared.facts.Known.{Known}
use Rattle.regent_tree.specs.declared.facts.Known.TheVariants.{Apart, Made, PartOf, Within}
use Rattle.regent_tree.specs.declared.facts.Term.{Term}
use Rattle.regent_tree.specs.declared.facts.Term.TheVariants.{Name}
use Rattle.constraint_check.specs.declared.question.Sought.{Sought}
use Rattle.constraint_check.specs.declared.question.Sought.TheVariants.{This, Earlier, OtherChild}

-- whether a term is what is looked for
abbrev pub is_met_by : Sought → Term → Bool
is_met_by (This wanted) t = alike wanted t
is_met_by (Earlier name) t = is_earlier name t
is_met_by (OtherChild p c) t = is_other_child p c t

-- few rows say the same of what a term lies within as all rows do
abbrev pub StandFor : List Row → List Row → Term → Type 0
StandFor few rows t = (test : Term → Bool) → any_above few test t ≡ any_above rows test t

-- whether a fact parts a from b, in this order, where one list of rows is asked of a and another of b
abbrev pub parts_over : List Row → List Row → Term → Term → Known → Bool
parts_over over_a over_b a b (Within x y) = false
parts_over over_a over_b a b (Apart x y) = is_below over_a a x && is_below over_b b y
parts_over over_a over_b a b (PartOf p r disjoint) =
    disjoint && any_above over_a (has_sibling_above over_b p b) a
parts_over over_a over_b a b (Made s) =
    is_below over_a a (Name s) && any_above over_b (is_earlier s) b
