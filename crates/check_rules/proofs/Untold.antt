-- Where nothing is told, no rule is breached.
use Rattle.std.proofs.Common.{◌≡◌, ℕ, Bool, true, false, ◌||◌, List, [], ◌∷◌, Option, Some, None, refl}
use Rattle.std.specs.List.{list_any}
use Rattle.regent_tree.specs.declared.facts.Known.{Known}
use Rattle.plain_values.proofs.Plain.{option_or_parts}
use Rattle.check_rules.specs.first.FirstInExpressions.{first_of_standing}
use Rattle.check_rules.specs.first.FirstInStatements.{told_on}
use Rattle.check_rules.specs.rules.Places.{misplaces}
use Rattle.check_rules.specs.first.Rules.{first_in, rule_if}
use Rattle.check_rules.specs.rules.Standing.{Standing}
use Rattle.check_rules.specs.rules.Types.{is_ill_typed_at_place}
use Rattle.check_rules.specs.declared.rule.Rule.{Rule}
use Rattle.check_rules.specs.declared.rule.Rule.TheVariants as rule

pub told_none : (line : ℕ) (r : Option Rule) → told_on line r ≡ None → r ≡ None
told_none line None e = refl
told_none line (Some r) e = absurd cc

pub rule_none : (b : Bool) (r : Rule) → rule_if b r ≡ None → b ≡ false
rule_none true r e = absurd cc
rule_none false r e = refl

-- what stands where it may
pub standing_none : (known : List Known) (s : Standing) → first_of_standing known s ≡ None →
    (misplaces s ≡ false) × (is_ill_typed_at_place known s ≡ false)
standing_none known s e =
    let told = option_or_parts _ _ e in
    (rule_none (misplaces s) rule.Place told.0, rule_none (is_ill_typed_at_place known s) rule.Type (option_or_parts _ _ told.1).0)

pub stand_none : (known : List Known) (ss : List Standing) → first_in (first_of_standing known) ss ≡ None →
    list_any (is_ill_typed_at_place known) ss ≡ false
stand_none known [] e = refl
stand_none known (s ∷ ss) e =
    let told = option_or_parts (first_of_standing known s) _ e in
    λ j. (standing_none known s told.0).1 j || stand_none known ss told.1 j
