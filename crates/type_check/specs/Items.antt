-- What the whole text shares, as the checker goes through it: names given twice, the entry task, and
-- what the items declare.
use Rattle.std.specs.Prelude.{Option, [], ◌∷◌}
use Rattle.regent_tree.specs.Syntax.{Tree}
use Rattle.check_rules.specs.Breaches.{Breach}
use Rattle.check_rules.specs.rules.Entries.{wrong_entry_lines}
use Rattle.check_rules.specs.first.FirstInItems.{first_declared, first_line, first_repeated}
use Rattle.check_rules.specs.first.Rules.{first_in, first_of}
use Rattle.check_rules.specs.declared.rule.Rule.TheVariants as rule

abbrev pub first_in_items : Tree → Option Breach
first_in_items tree = first_of (first_repeated tree
    ∷ first_line rule.Start (wrong_entry_lines tree)
    ∷ first_in (first_declared tree) tree
    ∷ [])
