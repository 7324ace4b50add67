-- A call in which no rule is breached, but that its type is unknown where an argument's is.
use Rattle.std.proofs.Common.{◌≡◌, [], ◌∷◌, true, false, Bool, ◌||◌, ◌&&◌, None, Some, Option, refl, ap, sym, ◌∙◌}
use Rattle.std.specs.Prelude.{is_none}
use Rattle.std.specs.List.{list_any}
use Rattle.std.specs.Option.{option_or}
use Rattle.std.proofs.Math.Bool.{or-false}
use Rattle.std.proofs.lemmas.Bool.{and_right}
use Rattle.regent_tree.specs.Scopes.{Scope}
use Rattle.regent_tree.specs.StaticTypes.{task_named}
use Rattle.regent_tree.specs.Syntax.{TaskTree, Tree}
use Rattle.regent_tree.specs.Lookup.{has_task}
use Rattle.regent_tree.specs.Typing.{result_type}
use Rattle.regent_tree.specs.declared.types.TypeTerm.{TypeTerm}
use Rattle.regent_tree.specs.declared.typing.StaticType.{StaticType}
use Rattle.check_rules.specs.rules.Constraints.{breaks_constraint}
use Rattle.check_rules.specs.rules.Counts.{miscounts_call}
use Rattle.check_rules.specs.types.Declarations.{is_no_result_type, params_of}
use Rattle.check_rules.specs.types.Params.{type_unless}
use Rattle.check_rules.specs.first.FirstInExpressions.{first_of_call, first_of_standing}
use Rattle.check_rules.specs.types.KnownTypes.{is_flawed_call, type_of_call}
use Rattle.check_rules.specs.rules.Names.{is_unknown_task}
use Rattle.check_rules.specs.rules.Partitions.{mispartitions_call}
use Rattle.check_rules.specs.rules.Privileges.{lacks, wanted_by_call}
use Rattle.check_rules.specs.first.Rules.{first_in, first_of, rule_if}
use Rattle.check_rules.specs.types.TypedForms.{Calling}
use Rattle.check_rules.specs.types.Sorts.{is_unknown_type}
use Rattle.check_rules.specs.rules.Spaces.{misfits_call}
use Rattle.check_rules.specs.rules.Standing.{standing_in_call}
use Rattle.check_rules.specs.rules.Types.{has_no_result, is_ill_typed_at_place}
use Rattle.check_rules.specs.declared.rule.Rule.{Rule}
use Rattle.check_rules.specs.declared.rule.Rule.TheVariants as rule
use Rattle.check_rules.proofs.Untold.{stand_none}

sound : (n h m st f p u r : Bool) (told rest : Option Rule) → (told ≡ None → st ≡ false) →
    option_or (rule_if n rule.Name) (option_or (rule_if m rule.Count) (option_or told
    (option_or (rule_if f rule.Spaces) (option_or (rule_if p rule.Partition) rest)))) ≡ None →
    h ≡ false → r ≡ false → (n || h || m || st || f || p || u || r) ≡ u
sound true h m st f p u r told rest k e no_h no_r = absurd cc
sound false h true st f p u r told rest k e no_h no_r = absurd cc
sound false h false st f p u r (Some x) rest k e no_h no_r = absurd cc
sound false h false st true p u r None rest k e no_h no_r = absurd cc
sound false h false st false true u r None rest k e no_h no_r = absurd cc
sound false h false st false false u r None rest k e no_h no_r =
    let no_st : st ≡ false = k refl in rw (no_h, no_st, no_r) (or-false u)

pub sound_call : (tree : Tree) (task : TaskTree) (s : Scope) (c : Calling) →
    first_of_call tree task s c ≡ None → has_no_result tree c ≡ false →
    is_no_result_type (task_named tree c.task).result ≡ false →
    is_flawed_call tree s.known c ≡ list_any is_unknown_type c.args
sound_call tree task s c e no_h no_r = sound (is_unknown_task tree c) (has_no_result tree c)
    (miscounts_call tree c) (list_any (is_ill_typed_at_place s.known) (standing_in_call tree c))
    (misfits_call (params_of tree c.task) c) (mispartitions_call (params_of tree c.task) c)
    (list_any is_unknown_type c.args) (is_no_result_type (task_named tree c.task).result)
    (first_in (first_of_standing s.known) (standing_in_call tree c))
    (first_of (rule_if (lacks tree task s (wanted_by_call tree c)) rule.CallPrivilege
    ∷ rule_if (breaks_constraint tree s.known c) rule.CallConstraint ∷ []))
    (stand_none s.known (standing_in_call tree c)) e no_h no_r

has_result : (b : Bool) (r : Option TypeTerm) (term : TypeTerm) → r ≡ Some term → (b && is_none r) ≡ false
has_result b r term e = rw e (and_right b false refl)

typed : (tree : Tree) (flawed : Bool) (r : Option TypeTerm) (term : TypeTerm) (found : StaticType) →
    flawed ≡ false → r ≡ Some term → is_no_result_type r ≡ false →
    (is_no_result_type (Some term) ≡ false → found ≡ result_type tree (Some term)) →
    found ≡ type_unless flawed (result_type tree r)
typed tree flawed r term found e q n h =
    let n_term : is_no_result_type (Some term) ≡ false = ap is_no_result_type (sym q) ∙ n in
    rw (e, q) (h n_term)

-- the type of a call in which no rule is breached, of a task with a result, where the types of the
-- arguments are known
pub valued : (tree : Tree) (task : TaskTree) (s : Scope) (c : Calling) (term : TypeTerm) (found : StaticType) →
    first_of_call tree task s c ≡ None → (task_named tree c.task).result ≡ Some term →
    is_no_result_type (task_named tree c.task).result ≡ false →
    list_any is_unknown_type c.args ≡ false →
    (is_no_result_type (Some term) ≡ false → found ≡ result_type tree (Some term)) →
    found ≡ type_of_call tree s.known c
valued tree task s c term found e q n known h =
    let no_h = has_result (has_task tree c.task) (task_named tree c.task).result term q in
    typed tree (is_flawed_call tree s.known c) (task_named tree c.task).result term found
    (sound_call tree task s c e no_h n ∙ known) q n h

-- where a task has a result, nothing more is told of a call in an expression
pub told_no_more : (tree : Tree) (c : Calling) (first : Option Rule) (term : TypeTerm) → first ≡ None →
    (task_named tree c.task).result ≡ Some term →
    option_or first (rule_if (has_no_result tree c) rule.Type) ≡ None
told_no_more tree c first term e q =
    let no_h = has_result (has_task tree c.task) (task_named tree c.task).result term q in
    rw (e, no_h) refl
