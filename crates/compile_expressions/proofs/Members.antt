-- Arguments, one after the other.
use Rattle.std.proofs.Common.{◌≡◌, ◌<◌, ◌+◌, ℕ, zero, suc, List, [], ◌∷◌, drop, length, get_or, refl, sym, ap, ◌∙◌}
use Rattle.std.proofs.Math.Numerals.{suc-eq-add-one}
use Rattle.std.proofs.lemmas.List.{drop_more}
use Rattle.regent_tree.specs.Evaluation.{other_types}
use Rattle.regent_tree.specs.Plain.{expression_of, expressions_in}
use Rattle.regent_tree.specs.Syntax.{an_expr, no_expr}
use Rattle.regent_tree.specs.declared.expression.Expr.{Expr}
use Rattle.regent_tree.specs.declared.typing.StaticType.{StaticType}
use Rattle.task_code.specs.declared.code.Line.{Line}
use Rattle.code_rules.specs.Emitted.{emitted}
use Rattle.code_rules.specs.Expressions.{count, exprs_code}
use Rattle.code_rules.specs.Slots.{Where}

others_after : (types : List StaticType) (i : ℕ) → other_types (drop i types) ≡ drop (suc i) types
others_after [] zero = refl
others_after [] (suc i) = refl
others_after (t ∷ types) zero = refl
others_after (t ∷ types) (suc i) = others_after types i

pub others_dropped : (types : List StaticType) (i : ℕ) → other_types (drop i types) ≡ drop (i + 1) types
others_dropped types i = others_after types i ∙ ap (λ n. drop n types) (suc-eq-add-one i)

pub args_on : (w : Where) (d : ℕ) (types : List StaticType) (args : List Expr) (i : ℕ) (a : Expr) (now after total : List Line) →
    i < length args → a ≡ get_or args i a →
    after ≡ emitted now (exprs_code w d (drop i types) (an_expr (expression_of a) no_expr)) →
    emitted now (exprs_code w d (drop i types) (expressions_in (drop i args))) ≡ total →
    emitted after (exprs_code w d (drop (i + 1) types) (expressions_in (drop (i + 1) args))) ≡ total
args_on w d types args i a now after total lt is e so_far =
    let rest = expressions_in (drop (i + 1) args) in
    let first : emitted now (exprs_code w d (drop i types) (an_expr (expression_of a) rest))
    ≡ emitted after (exprs_code w d (other_types (drop i types)) rest) =
    ap (λ (b : List Line). emitted b (exprs_code w d (other_types (drop i types)) rest)) (sym e) in
    let here : emitted now (exprs_code w d (drop i types) (expressions_in (drop i args)))
    ≡ emitted after (exprs_code w d (drop (i + 1) types) rest) =
    rw (drop_more args i a lt, ← is)
    (first ∙ ap (λ (ts : List StaticType). emitted after (exprs_code w d ts rest)) (others_dropped types i)) in
    sym here ∙ so_far

pub counted : (args : List Expr) → count (expressions_in args) ≡ length args
counted [] = refl
counted (a ∷ args) = ap suc (counted args)
