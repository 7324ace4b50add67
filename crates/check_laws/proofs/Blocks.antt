-- Statements of which nothing is told.
use Rattle.std.proofs.Common.{◌≡◌, ◌∙◌, ◌++◌, ◌&&◌, ◌||◌, Bool, None, ap, arith, false, not, refl, subst, sym, true}
use Rattle.std.proofs.lemmas.Bool.{or_parts}
use Rattle.regent_tree.specs.Scopes.{Scope, knowing, known_of_type, past, with_name}
use Rattle.regent_tree.specs.Syntax.{Arms, Block, Expression, Form, Name, Otherwise, TaskTree, Tree, a_statement, an_arm, assert_form, assign_form, call_form, do_form, else_block, fill_form, for_in_form, for_to_form, if_form, no_arm, no_else, no_statement, print_form, return_form, then_statement, var_form, while_form}
use Rattle.regent_tree.specs.Typing.{arithmetic_type, scope_after, scope_after_arms, scope_after_block, scope_after_else, taken_from, type_of}
use Rattle.regent_tree.specs.declared.typing.StaticType.{StaticType}
use Rattle.regent_tree.specs.declared.typing.StaticType.TheVariants.{Integer as integer_type, Truth as truth_type, Index as index_type, Pointer as pointer_type, Ispace as ispace_type, Region as region_type, Partition as partition_type, Nothing as no_type, Unknown as unknown_type}
use Rattle.check_rules.specs.first.FirstInExpressions.{first_in_expression}
use Rattle.check_rules.specs.first.FirstInStatements.{first_in_arms, first_in_block, first_in_else, first_of_demand, first_of_form, first_within, told_on}
use Rattle.check_rules.specs.types.KnownTypes.{known_type}
use Rattle.check_rules.specs.types.Sorts.{is_integer, is_region, is_space}
use Rattle.check_rules.specs.scopes.Sound.{IsSound}
use Rattle.check_rules.specs.scopes.Variables.{counted_type, known_scope_after, known_scope_after_arms, known_scope_after_block, known_scope_after_else, scope_in_count, scope_in_loop}
use Rattle.check_rules.proofs.Laws.{types_as_meant}
use Rattle.check_laws.specs.SoundScopes.{IsKnown, IsSoundScope}
use Rattle.check_laws.proofs.Expressions.{known_expression, meant}
use Rattle.check_laws.proofs.Parts.{contrary, surely, unless_false, value_known}
use Rattle.check_laws.proofs.Scopes.{next_block, one_more, past_sound}
use Rattle.check_laws.proofs.Variables.{parts_of_form, variable_known}
use Rattle.plain_values.proofs.Plain.{option_or_parts}
use Rattle.check_rules.proofs.Untold.{told_none}
use Rattle.std.proofs.lemmas.Bool.{not-false}

-- ---- what loops take

taken_known : (s : Scope) (t : StaticType) → (is_region t || is_space t) ≡ true → IsKnown s (taken_from t)
taken_known s (region_type k sp args r) e = value_known s _ refl tt
taken_known s (ispace_type k) e = value_known s _ refl tt
taken_known s (integer_type w) e = absurd (contrary (sym e))
taken_known s truth_type e = absurd (contrary (sym e))
taken_known s (index_type k) e = absurd (contrary (sym e))
taken_known s (pointer_type k sp args regions) e = absurd (contrary (sym e))
taken_known s (partition_type d r p) e = absurd (contrary (sym e))
taken_known s no_type e = absurd (contrary (sym e))
taken_known s unknown_type e = absurd (contrary (sym e))

counted_known : (s : Scope) (t u : StaticType) → is_integer t ≡ true → is_integer u ≡ true → IsKnown s (arithmetic_type t u)
counted_known s (integer_type v) (integer_type w) e f = value_known s _ refl tt
counted_known s (integer_type v) truth_type e f = absurd (contrary (sym f))
counted_known s (integer_type v) (index_type k) e f = absurd (contrary (sym f))
counted_known s (integer_type v) (pointer_type k sp args regions) e f = absurd (contrary (sym f))
counted_known s (integer_type v) (ispace_type k) e f = absurd (contrary (sym f))
counted_known s (integer_type v) (region_type k sp args r) e f = absurd (contrary (sym f))
counted_known s (integer_type v) (partition_type d r p) e f = absurd (contrary (sym f))
counted_known s (integer_type v) no_type e f = absurd (contrary (sym f))
counted_known s (integer_type v) unknown_type e f = absurd (contrary (sym f))
counted_known s truth_type u e f = absurd (contrary (sym e))
counted_known s (index_type k) u e f = absurd (contrary (sym e))
counted_known s (pointer_type k sp args regions) u e f = absurd (contrary (sym e))
counted_known s (ispace_type k) u e f = absurd (contrary (sym e))
counted_known s (region_type k sp args r) u e f = absurd (contrary (sym e))
counted_known s (partition_type d r p) u e f = absurd (contrary (sym e))
counted_known s no_type u e f = absurd (contrary (sym e))
counted_known s unknown_type u e f = absurd (contrary (sym e))

module _ (tree : Tree) (task : TaskTree) (sound : IsSound tree) where
  -- an expression in the head of a loop
  pub head_known : (s : Scope) → IsSoundScope s → (e : Expression) → first_in_expression tree task s e ≡ None →
      IsKnown s (known_type tree s e) × (known_type tree s e ≡ type_of tree s e)
  head_known s scope e none =
      let known = known_expression tree task s sound scope e none in
      (known, meant (known_type tree s e) (type_of tree s e) known.known (types_as_meant tree s e))

  -- the scope in which a loop's block begins is the one of the meaning
  pub loop_scope : (s : Scope) (demanded : Bool) (n : Name) (domain : Expression) (body : Block) → IsSoundScope s →
      first_of_form tree task s (for_in_form demanded n domain body) ≡ None →
      (scope_in_loop tree s n domain ≡ with_name s n (taken_from (type_of tree s domain)) true) × IsSoundScope (scope_in_loop tree s n domain)
  loop_scope s demanded n domain body scope e =
      let parts = parts_of_form tree task s sound scope (for_in_form demanded n domain body) e in
      let head = head_known s scope domain (option_or_parts (first_in_expression tree task s domain) _ parts.2).0 in
      let is = surely (λ u. is_region u || is_space u) (known_type tree s domain) head.0.known (not-false _ (or_parts _ false parts.4).0) in (
        ap (λ t. with_name s n (taken_from t) true) head.1,
        one_more s n (taken_from (known_type tree s domain)) true s.known scope (taken_known s (known_type tree s domain) is),
      )

  pub count_scope : (s : Scope) (demanded : Bool) (n : Name) (from to : Expression) (body : Block) → IsSoundScope s →
      first_of_form tree task s (for_to_form demanded n from to body) ≡ None →
      (scope_in_count tree s n from to ≡ with_name s n (arithmetic_type (type_of tree s from) (type_of tree s to)) true)
      × IsSoundScope (scope_in_count tree s n from to)
  count_scope s demanded n from to body scope e =
      let parts = parts_of_form tree task s sound scope (for_to_form demanded n from to body) e in
      let heads = option_or_parts (first_in_expression tree task s from) _ parts.2 in
      let first = head_known s scope from heads.0 in
      let last = head_known s scope to (option_or_parts (first_in_expression tree task s to) _ heads.1).0 in
      let stand = or_parts _ _ parts.4 in
      let a = surely is_integer (known_type tree s from) first.0.known (not-false _ stand.0) in
      let b = surely is_integer (known_type tree s to) last.0.known (not-false _ (or_parts _ false stand.1).0) in
      let whole : not (is_integer (known_type tree s from) && is_integer (known_type tree s to)) ≡ false = λ j. not (a j && b j) in
      let counted = unless_false _ (arithmetic_type (known_type tree s from) (known_type tree s to)) whole in (
        ap (λ t. with_name s n t true) (counted ∙ (λ j. arithmetic_type (first.1 j) (last.1 j))),
        one_more s n (counted_type (known_type tree s from) (known_type tree s to)) true s.known scope
            (subst (IsKnown s) (sym counted) (counted_known s (known_type tree s from) (known_type tree s to) a b)),
      )

  -- after a block within a block
  pub nested : (s : Scope) (b : Block) → IsSoundScope s →
      (known_scope_after_block tree s b ≡ scope_after_block tree s b) × IsSoundScope (known_scope_after_block tree s b) →
      (past s (known_scope_after_block tree s b) ≡ past s (scope_after_block tree s b)) × IsSoundScope (past s (known_scope_after_block tree s b))
  nested s b scope inner = (ap (past s) inner.0, past_sound s (known_scope_after_block tree s b) (next_block tree s b) scope)

  -- the scope after is that of the meaning, and all is known in it
  mutual
    pub form_known : (s : Scope) (form : Form) → IsSoundScope s → first_of_form tree task s form ≡ None → first_within tree task s form ≡ None →
        (known_scope_after tree s form ≡ scope_after tree s form) × IsSoundScope (known_scope_after tree s form)
    form_known s (var_form n t initializer) scope e w =
        let v = variable_known tree task s sound scope n t initializer e in (
          λ j. knowing (with_name s n (v.0 j) false) (v.2 j ++ known_of_type (v.0 j)),
          one_more s n _ false _ scope (subst (IsKnown s) (sym v.0) v.1),
        )
    form_known s (if_form arms other) scope e w =
        let parts = option_or_parts (first_in_arms tree task s arms) _ w in
        let a = arms_known s arms scope parts.0 in
        let b = else_known (known_scope_after_arms tree s arms) other a.1 parts.1 in
        (b.0 ∙ ap (λ x. scope_after_else tree x other) a.0, b.1)
    form_known s (while_form test body) scope e w = nested s body scope (block_known s body scope w)
    form_known s (for_in_form demanded n domain body) scope e w =
        let here = loop_scope s demanded n domain body scope e in
        let inner = block_known (scope_in_loop tree s n domain) body here.1 w in
        let more = next_block tree (scope_in_loop tree s n domain) body in (
          ap (past s) (inner.0 ∙ ap (λ x. scope_after_block tree x body) here.0),
          past_sound s (known_scope_after_block tree (scope_in_loop tree s n domain) body) (omega (arith, more)) scope,
        )
    form_known s (for_to_form demanded n from to body) scope e w =
        let here = count_scope s demanded n from to body scope e in
        let inner = block_known (scope_in_count tree s n from to) body here.1 w in
        let more = next_block tree (scope_in_count tree s n from to) body in (
          ap (past s) (inner.0 ∙ ap (λ x. scope_after_block tree x body) here.0),
          past_sound s (known_scope_after_block tree (scope_in_count tree s n from to) body) (omega (arith, more)) scope,
        )
    form_known s (do_form body) scope e w = nested s body scope (block_known s body scope w)
    form_known s (fill_form r fields x) scope e w = (refl, scope)
    form_known s (assert_form x) scope e w = (refl, scope)
    form_known s (print_form alias format args) scope e w = (refl, scope)
    form_known s (call_form t args) scope e w = (refl, scope)
    form_known s (assign_form n steps how x) scope e w = (refl, scope)
    form_known s (return_form x) scope e w = (refl, scope)

    pub block_known : (s : Scope) (b : Block) → IsSoundScope s → first_in_block tree task s b ≡ None →
        (known_scope_after_block tree s b ≡ scope_after_block tree s b) × IsSoundScope (known_scope_after_block tree s b)
    block_known s no_statement scope e = (refl, scope)
    block_known s (then_statement (a_statement line form) rest) scope e =
        let parts = option_or_parts (told_on line (first_of_form tree task s form)) _ e in
        let more = option_or_parts (first_within tree task s form) _ parts.1 in
        let behind = option_or_parts (told_on line (first_of_demand tree s form)) _ more.1 in
        let here = form_known s form scope (told_none line _ parts.0) more.0 in
        let after = block_known (known_scope_after tree s form) rest here.1 behind.1 in
        (after.0 ∙ ap (λ x. scope_after_block tree x rest) here.0, after.1)

    pub arms_known : (s : Scope) (arms : Arms) → IsSoundScope s → first_in_arms tree task s arms ≡ None →
        (known_scope_after_arms tree s arms ≡ scope_after_arms tree s arms) × IsSoundScope (known_scope_after_arms tree s arms)
    arms_known s no_arm scope e = (refl, scope)
    arms_known s (an_arm test body rest) scope e =
        let parts = option_or_parts (first_in_block tree task s body) _ e in
        let inner = nested s body scope (block_known s body scope parts.0) in
        let after = arms_known (past s (known_scope_after_block tree s body)) rest inner.1 parts.1 in
        (after.0 ∙ ap (λ x. scope_after_arms tree x rest) inner.0, after.1)

    pub else_known : (s : Scope) (other : Otherwise) → IsSoundScope s → first_in_else tree task s other ≡ None →
        (known_scope_after_else tree s other ≡ scope_after_else tree s other) × IsSoundScope (known_scope_after_else tree s other)
    else_known s no_else scope e = (refl, scope)
    else_known s (else_block body) scope e = nested s body scope (block_known s body scope e)
