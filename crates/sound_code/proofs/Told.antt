-- What is told of expressions and statements of a task that is looked at by the rules: nothing, and so of their parts.
use Rattle.std.proofs.Common.{◌≡◌, inl, inr, ℕ, List, [], ◌∷◌, ◌++◌, Bool, true, false, None, refl, sym, subst, ◌∙◌, cond}
use Rattle.std.proofs.lemmas.Bool.{and_parts}
use Rattle.plain_values.proofs.Plain.{option_or_parts}
use Rattle.regent_tree.specs.Lookup.{type_named}
use Rattle.regent_tree.specs.Scopes.{Scope}
use Rattle.regent_tree.specs.Syntax.{Tree, TaskTree, Name, Arms, call_form, cast_expr, is_null_expr, Block, Expression, Expressions, Form, Links, a_link, a_statement, access_expr, an_arm, an_expr, at_step, call_expr, chain_expr, convert_expr, field_step, no_link, no_step, prefix_expr, space_expr, then_statement}
use Rattle.regent_tree.specs.Typing.{scope_after, scope_after_block}
use Rattle.regent_tree.specs.Scopes.{past}
use Rattle.regent_tree.specs.declared.expression.Arithmetic.TheVariants.{Subtract}
use Rattle.regent_tree.specs.declared.expression.Operator.{Operator}
use Rattle.regent_tree.specs.declared.expression.Operator.TheVariants.{Compute}
use Rattle.regent_tree.specs.declared.expression.Sign.{Sign}
use Rattle.regent_tree.specs.declared.types.Kind.{Kind}
use Rattle.regent_tree.specs.declared.types.NumberTerm.{NumberTerm}
use Rattle.regent_tree.specs.declared.types.PointerTerm.{PointerTerm}
use Rattle.regent_tree.specs.declared.typing.StaticType.{StaticType}
use Rattle.regent_tree.proofs.Members.{Has, Has-append_left, Has-append_right}
use Rattle.check_rules.specs.first.FirstInExpressions.{first_in_args, first_in_expression, first_in_links, first_in_type, first_of_call}
use Rattle.check_rules.specs.first.FirstInStatements.{first_in_targets, first_of_initializer}
use Rattle.check_rules.specs.rules.Names.{unbound_name_in_form}
use Rattle.check_rules.specs.types.KnownTypes.{known_types}
use Rattle.check_rules.specs.types.TypedForms.{calling}
use Rattle.check_rules.specs.first.Rules.{first_in, rule_if}
use Rattle.check_rules.specs.scopes.Visits.{Visit, call_of_form, heads_of, initializer_at}
use Rattle.check_rules.specs.types.Parts.{listed}
use Rattle.check_rules.specs.scopes.Variables.{members_of}
use Rattle.check_laws.specs.Laws.{IsWithoutBreach}
use Rattle.check_laws.specs.MeantVisits.{meant_in, meant_in_arms, meant_within}
use Rattle.check_laws.specs.SoundScopes.{IsSoundScope}
use Rattle.code_rules.specs.Slots.{Where}
use Rattle.code_laws.specs.Steps.{Forms}
use Rattle.code_laws.specs.Typed.{IsTyped}
use Rattle.code_laws.proofs.LocalTypes.{simple_no_partition}
use Rattle.code_laws.proofs.TypedStatements.{listed_told}
use Rattle.code_laws.proofs.Typing.{no_way}
use Rattle.check_rules.specs.rules.Partitions.{is_difference}
use Rattle.check_rules.specs.types.Sorts.{is_partition, may_be}
use Rattle.check_rules.specs.Breaches.{has_no_type}
use Rattle.check_rules.specs.scopes.Visits.{declared_at}
use Rattle.check_rules.specs.declared.rule.Rule.TheVariants as rule
use Rattle.sound_code.proofs.WholeTasks.{is_whole_expression}
use Rattle.sound_code.specs.Ways.{Way, all_made, by_rules}
use Rattle.sound_code.proofs.Wholes.{Asks, IsWorth, read_worth, worth_pointer, worth_simple}

-- ---- expressions

abbrev pub Told : Way → Tree → Scope → Expression → Type 0
Told all_made tree s e = Unit {0}
Told (by_rules tops task) tree s e = IsSoundScope s × (first_in_expression tree task s e ≡ None)

-- behind something of some type
abbrev pub ToldLinks : Way → Tree → Scope → Links → Type 0
ToldLinks all_made tree s ls = Unit {0}
ToldLinks (by_rules tops task) tree s ls = IsSoundScope s × ((t : StaticType) × (first_in_links tree task s t ls ≡ None))

abbrev pub ToldArgs : Way → Tree → Scope → Expressions → Type 0
ToldArgs all_made tree s es = Unit {0}
ToldArgs (by_rules tops task) tree s es = IsSoundScope s × (first_in_args tree task s es ≡ None)

-- a call, wherever it stands
abbrev pub ToldCall : Way → Tree → Scope → Name → Expressions → Type 0
ToldCall all_made tree s n es = Unit {0}
ToldCall (by_rules tops task) tree s n es =
    IsSoundScope s × (first_in_args tree task s es ≡ None) × (first_of_call tree task s (calling n (known_types tree s es)) ≡ None)

module _ (tree : Tree) (s : Scope) where
  pub told_chain : (way : Way) (first : Expression) (rest : Links) → Told way tree s (chain_expr first rest) →
      Told way tree s first × ToldLinks way tree s rest
  told_chain all_made first rest h = (tt, tt)
  told_chain (by_rules tops task) first rest h =
      let p = option_or_parts (first_in_expression tree task s first) _ h.1 in ((h.0, p.0), (h.0, (_, p.1)))

  pub told_link : (way : Way) (o : Operator) (e : Expression) (rest : Links) → ToldLinks way tree s (a_link o e rest) →
      Told way tree s e × ToldLinks way tree s rest
  told_link all_made o e rest h = (tt, tt)
  told_link (by_rules tops task) o e rest h =
      let p = option_or_parts (first_in_expression tree task s e) _ h.1.1 in
      let q = option_or_parts _ _ p.1 in ((h.0, p.0), (h.0, (_, q.1)))

  pub told_prefix : (way : Way) (signs : List Sign) (e : Expression) → Told way tree s (prefix_expr signs e) → Told way tree s e
  told_prefix all_made signs e h = tt
  told_prefix (by_rules tops task) signs e h = (h.0, (option_or_parts (first_in_expression tree task s e) _ h.1).0)

  pub told_convert : (way : Way) (c : NumberTerm) (e : Expression) → Told way tree s (convert_expr c e) → Told way tree s e
  told_convert all_made c e h = tt
  told_convert (by_rules tops task) c e h = (h.0, (option_or_parts (first_in_expression tree task s e) _ h.1).0)

  pub told_space : (way : Way) (k : Kind) (e : Expression) → Told way tree s (space_expr k e) → Told way tree s e
  told_space all_made k e h = tt
  told_space (by_rules tops task) k e h = (h.0, (option_or_parts (first_in_expression tree task s e) _ h.1).0)

  pub told_call : (way : Way) (n : Name) (es : Expressions) → Told way tree s (call_expr n es) → ToldArgs way tree s es
  told_call all_made n es h = tt
  told_call (by_rules tops task) n es h = (h.0, (option_or_parts (first_in_args tree task s es) _ h.1).0)

  pub told_called : (way : Way) (n : Name) (es : Expressions) → Told way tree s (call_expr n es) → ToldCall way tree s n es
  told_called all_made n es h = tt
  told_called (by_rules tops task) n es h =
      let p = option_or_parts (first_in_args tree task s es) _ h.1 in
      (h.0, p.0, (option_or_parts (first_of_call tree task s (calling n (known_types tree s es))) _ p.1).0)

  pub told_arg : (way : Way) (e : Expression) (es : Expressions) → ToldArgs way tree s (an_expr e es) → Told way tree s e × ToldArgs way tree s es
  told_arg all_made e es h = (tt, tt)
  told_arg (by_rules tops task) e es h =
      let p = option_or_parts (first_in_expression tree task s e) _ h.1 in ((h.0, p.0), (h.0, p.1))

  pub told_element : (way : Way) (n : Name) (e : Expression) (f : Name) → Told way tree s (access_expr n (at_step e (field_step f no_step))) →
      Told way tree s e
  told_element all_made n e f h = tt
  told_element (by_rules tops task) n e f h =
      let p = option_or_parts _ _ h.1 in (h.0, (option_or_parts (first_in_expression tree task s e) _ p.1).0)

  pub told_at : (way : Way) (n : Name) (e : Expression) → Told way tree s (access_expr n (at_step e no_step)) → Told way tree s e
  told_at all_made n e h = tt
  told_at (by_rules tops task) n e h =
      let p = option_or_parts _ _ h.1 in (h.0, (option_or_parts (first_in_expression tree task s e) _ p.1).0)

  pub told_is_null : (way : Way) (e : Expression) → Told way tree s (is_null_expr e) → Told way tree s e
  told_is_null all_made e h = tt
  told_is_null (by_rules tops task) e h = (h.0, (option_or_parts (first_in_expression tree task s e) _ h.1).0)

  pub told_cast : (way : Way) (c : PointerTerm) (e : Expression) → Told way tree s (cast_expr c e) → Told way tree s e
  told_cast all_made c e h = tt
  told_cast (by_rules tops task) c e h = (h.0, (option_or_parts (first_in_expression tree task s e) _ h.1).0)

-- ---- statements

abbrev pub ToldForm : Way → Tree → Scope → Form → Type 0
ToldForm all_made tree s form = Unit {0}
ToldForm (by_rules tops task) tree s form = (line : ℕ) × IsWithoutBreach tree (record { task = task; scope = s; line = line; form = form })

-- the statements that a task has somewhere
abbrev pub ToldAll : Way → Tree → (TaskTree → List Visit) → Type 0
ToldAll all_made tree visits = Unit {0}
ToldAll (by_rules tops task) tree visits = (v : Visit) → Has (visits task) v → IsWithoutBreach tree v

abbrev pub ToldBlock : Way → Tree → Scope → Block → Type 0
ToldBlock way tree s b = ToldAll way tree (λ task. meant_in tree task s b)

-- expressions that stand beside each other
abbrev pub ToldList : Way → Tree → Scope → List Expression → Type 0
ToldList all_made tree s es = Unit {0}
ToldList (by_rules tops task) tree s es = IsSoundScope s × (first_in (first_in_expression tree task s) es ≡ None)

module _ (tree : Tree) where
  pub told_both : (way : Way) (one two : TaskTree → List Visit) → ToldAll way tree (λ task. one task ++ two task) →
      ToldAll way tree one × ToldAll way tree two
  told_both all_made one two h = (tt, tt)
  told_both (by_rules tops task) one two h = (
    λ v i. h v (Has-append_left (one task) (two task) v i),
    λ v i. h v (Has-append_right (one task) (two task) v i),
  )

  pub told_statement : (way : Way) (s : Scope) (line : ℕ) (form : Form) (rest : Block) →
      ToldBlock way tree s (then_statement (a_statement line form) rest) →
      ToldForm way tree s form × ToldAll way tree (λ task. meant_within tree task s form) × ToldBlock way tree (scope_after tree s form) rest
  told_statement all_made s line form rest h = (tt, tt, tt)
  told_statement (by_rules tops task) s line form rest h =
      let here : Visit = record { task = task; scope = s; line = line; form = form } in (
        (line, h here (inl refl)),
        λ v i. h v (inr (Has-append_left (meant_within tree task s form) (meant_in tree task (scope_after tree s form) rest) v i)),
        λ v i. h v (inr (Has-append_right (meant_within tree task s form) (meant_in tree task (scope_after tree s form) rest) v i)),
      )

  pub told_arms : (way : Way) (s : Scope) (test : Expression) (body : Block) (rest : Arms) →
      ToldAll way tree (λ task. meant_in_arms tree task s (an_arm test body rest)) →
      ToldBlock way tree s body × ToldAll way tree (λ task. meant_in_arms tree task (past s (scope_after_block tree s body)) rest)
  told_arms way s test body rest h = told_both way (λ task. meant_in tree task s body)
      (λ task. meant_in_arms tree task (past s (scope_after_block tree s body)) rest) h

  module _ (s : Scope) where
    pub told_first : (way : Way) (e : Expression) (es : List Expression) → ToldList way tree s (e ∷ es) →
        Told way tree s e × ToldList way tree s es
    told_first all_made e es h = (tt, tt)
    told_first (by_rules tops task) e es h =
        let p = option_or_parts (first_in_expression tree task s e) _ h.1 in ((h.0, p.0), (h.0, p.1))

    -- the expressions that stand in a statement itself
    pub told_heads : (way : Way) (form : Form) → ToldForm way tree s form → ToldList way tree s (heads_of s.names form)
    told_heads all_made form h = tt
    told_heads (by_rules tops task) form h =
        let a = option_or_parts (first_in (first_in_type tree s.names) (declared_at form)) _ h.1.form in
        let b = option_or_parts (rule_if (has_no_type form) rule.Type) _ a.1 in
        (h.1.scope, (option_or_parts (first_in (first_in_expression tree task s) (heads_of s.names form)) _ b.1).0)

    pub told_head : (way : Way) (form : Form) (e : Expression) → heads_of s.names form ≡ e ∷ [] → ToldForm way tree s form → Told way tree s e
    told_head way form e same h = (told_first way e [] (subst (ToldList way tree s) same (told_heads way form h))).0

    pub told_call_form : (way : Way) (n : Name) (es : Expressions) → ToldForm way tree s (call_form n es) → ToldCall way tree s n es
    told_call_form all_made n es h = tt
    told_call_form (by_rules tops task) n es h =
        let form = call_form n es in
        let a = option_or_parts (first_in (first_in_type tree s.names) (declared_at form)) _ h.1.form in
        let b = option_or_parts (rule_if (has_no_type form) rule.Type) _ a.1 in
        let c = option_or_parts (first_in (first_in_expression tree task s) (heads_of s.names form)) _ b.1 in
        let d = option_or_parts (first_in_targets tree task s form) _ c.1 in
        let f = option_or_parts (rule_if (unbound_name_in_form tree s.names form) rule.Name) _ d.1 in
        let g = option_or_parts (first_in (first_of_initializer tree task s) (initializer_at form)) _ f.1 in
        let i = option_or_parts (first_in (first_of_call tree task s) (call_of_form tree s form)) _ g.1 in
        (h.1.scope, listed_told tree task s es c.0, (option_or_parts (first_of_call tree task s (calling n (known_types tree s es))) _ i.0).0)

    pub told_listed : (way : Way) (es : Expressions) → ToldList way tree s (listed es) → ToldArgs way tree s es
    told_listed all_made es h = tt
    told_listed (by_rules tops task) es h = (h.0, listed_told tree task s es h.1)

worth_no_partition : (t : StaticType) → IsWorth t → may_be is_partition t ≡ false
worth_no_partition t (worth_simple _ s) = simple_no_partition t s
worth_no_partition _ (worth_pointer k sp args rs few) = refl

-- the value of a variable is no difference of partitions
no_difference : (forms : Forms) (w : Where) (e : Expression) → IsTyped forms w e → Asks forms.keeps (is_whole_expression true w e) → is_difference w.scope.names e ≡ true → ⊥
no_difference forms w (chain_expr (access_expr p no_step) (a_link (Compute Subtract) (access_expr q no_step) no_link)) f whole d =
    no_way (sym (and_parts (may_be is_partition (type_named w.scope.names p)) (may_be is_partition (type_named w.scope.names q)) d).0
    ∙ worth_no_partition _ (read_worth forms.keeps _ f.0.1 (λ k. (and_parts _ _ (whole k)).0)))
no_difference forms w _ f whole d = absurd cc

pub told_plain : (way : Way) (forms : Forms) (w : Where) (e : Expression) → IsTyped forms w e → Asks forms.keeps (is_whole_expression true w e) →
    ToldList way w.tree w.scope (cond (is_difference w.scope.names e) (members_of e) (e ∷ [])) → Told way w.tree w.scope e
told_plain way forms w e f whole h = chosen (is_difference w.scope.names e) refl h
  where
    chosen : (b : Bool) → is_difference w.scope.names e ≡ b → ToldList way w.tree w.scope (cond b (members_of e) (e ∷ [])) → Told way w.tree w.scope e
    chosen true q h = absurd (no_difference forms w e f whole q)
    chosen false q h = (told_first w.tree w.scope way e [] h).0
