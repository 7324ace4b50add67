use Rattle.std.proofs.Common.{◌≡◌, drop}
use Rattle.check_rules.specs.first.FirstInItems.{first_of_field}
use Rattle.check_rules.specs.first.Rules.{first_in}
use Rattle.check_items.proofs.declarations.check_fields.Given as goal

abbrev pub invariant-loop-field : goal.invariant-loop-field
invariant-loop-field l = first_in first_of_field (drop l.field-index l.fields) ≡ first_in first_of_field l.fields
