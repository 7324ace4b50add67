use Rattle.std.proofs.Common.{◌≡◌, None, false, sym, true, ◌∙◌}
use Rattle.regent_tree.specs.Scopes.{in_scope}
use Rattle.regent_tree.specs.StaticTypes.{type_said}
use Rattle.check_rules.specs.types.Declarations.{names_unknown}
use Rattle.check_rules.specs.first.FirstInExpressions.{first_in_type}
use Rattle.check_rules.specs.types.Params.{type_unless}
use Rattle.check_expressions.specs.Seen.{seen}
use Rattle.check_expressions.specs.Sites.{tree_at}
use Rattle.check_variables.proofs.Varied.{said_soundly}
use Rattle.check_variables.proofs.variables.declared_type.Goals as goal

pub returns-then-names_unknown : goal.returns-then-names_unknown
returns-then-names_unknown c =
    let tree = tree_at c.args.site.now in
    let s = seen c.args.scope.now in
    let none : first_in_type tree s.names c.args.term.now ≡ None =
    rw (← c.tables-tables.ensures, ← c.names-names.ensures) c.in_ok-check_type.ensures.0 in
    let lost : names_unknown s.names c.args.term.now ≡ true =
    rw (← c.names-names.ensures) (sym c.names_unknown.ensures ∙ c.if-names_unknown.true) in
    (none, (λ j. type_unless (sym lost j) (type_said tree (in_scope s) s.next c.args.term.now)) ∙ said_soundly tree s c.args.term.now none)

pub returns : goal.returns
returns c =
    let tree = tree_at c.args.site.now in
    let s = seen c.args.scope.now in
    let none : first_in_type tree s.names c.args.term.now ≡ None =
    rw (← c.tables-tables.ensures, ← c.names-names.ensures) c.in_ok-check_type.ensures.0 in
    let told : names_unknown s.names c.args.term.now ≡ false =
    rw (← c.names-names.ensures) (sym c.names_unknown.ensures ∙ c.if-names_unknown.false) in (
      none,
      rw (← c.tables-tables.ensures, ← c.names-names.ensures, ← c.next.ensures) c.in_ok-said.ensures
          ∙ (λ j. type_unless (sym told j) (type_said tree (in_scope s) s.next c.args.term.now))
          ∙ said_soundly tree s c.args.term.now none,
    )
