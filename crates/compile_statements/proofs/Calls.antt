-- Bodies that are one call, and the arguments of it, one after the other.
use Rattle.std.proofs.Common.{◌≡◌, ◌<◌, ◌≤◌, ◌+◌, ◌∙◌, ℕ, suc, Bool, true, false, List, [], ◌∷◌, None, Option, Some, ap, arith, cond, drop, get_or, length, refl, sym}
use Rattle.std.proofs.Math.Numerals.{suc-eq-add-one}
use Rattle.std.proofs.lemmas.List.{drop_more}
use Rattle.regent_tree.specs.Evaluation.{first_type, other_types}
use Rattle.regent_tree.specs.Plain.{expression_of, expressions_in}
use Rattle.regent_tree.specs.PlainProgram.{block_in}
use Rattle.regent_tree.specs.Scopes.{Scope}
use Rattle.regent_tree.specs.Syntax.{Block, Name, Tree, a_statement, assert_form, assign_form, call_form, do_form, fill_form, for_in_form, for_to_form, if_form, no_statement, print_form, return_form, then_statement, var_form, while_form}
use Rattle.regent_tree.specs.Typing.{scope_after_block}
use Rattle.regent_tree.specs.declared.expression.Expr.{Expr}
use Rattle.regent_tree.specs.declared.statement.Stmt.{Stmt}
use Rattle.regent_tree.specs.declared.typing.StaticType.{StaticType}
use Rattle.task_code.specs.declared.code.Line.{Line}
use Rattle.check_rules.specs.declared.loop_shape.LoopShape.{LoopShape}
use Rattle.code_rules.specs.Emitted.{emitted}
use Rattle.code_rules.specs.Launches.{LaunchedCall, fixed_code, is_fixed, kept_code, one_call}
use Rattle.code_rules.specs.Pieces.{empty}
use Rattle.code_rules.specs.Slots.{Where}
use Rattle.compile_expressions.proofs.Members.{others_dropped}
use Rattle.compile_statements.specs.Shaped.{shapes_after_block}

-- a body of more than one statement isn't one call
pub longer_is_none : (stmts : List Stmt) → 2 ≤ length stmts → one_call (block_in stmts) ≡ None
longer_is_none [] h = absurd (omega (arith, h))
longer_is_none (a ∷ []) h = absurd (omega (arith, h))
longer_is_none (a ∷ b ∷ rest) h = refl

abbrev alone : LaunchedCall → Block
alone c = then_statement (a_statement c.line (call_form c.task c.args)) no_statement

abbrev body_of : Option LaunchedCall → Block
body_of None = no_statement
body_of (Some c) = alone c

is_one_call : (body : Block) (c : LaunchedCall) → one_call body ≡ Some c → body ≡ alone c
is_one_call no_statement c e = absurd cc
is_one_call (then_statement (a_statement line form) (then_statement s rest)) c e = absurd cc
is_one_call (then_statement (a_statement line (call_form task args)) no_statement) c e = ap body_of e
is_one_call (then_statement (a_statement line (var_form n term initializer)) no_statement) c e = absurd cc
is_one_call (then_statement (a_statement line (if_form arms other)) no_statement) c e = absurd cc
is_one_call (then_statement (a_statement line (while_form test body)) no_statement) c e = absurd cc
is_one_call (then_statement (a_statement line (for_in_form demanded n domain body)) no_statement) c e = absurd cc
is_one_call (then_statement (a_statement line (for_to_form demanded n from to body)) no_statement) c e = absurd cc
is_one_call (then_statement (a_statement line (do_form body)) no_statement) c e = absurd cc
is_one_call (then_statement (a_statement line (fill_form r fields x)) no_statement) c e = absurd cc
is_one_call (then_statement (a_statement line (assert_form x)) no_statement) c e = absurd cc
is_one_call (then_statement (a_statement line (print_form alias format args)) no_statement) c e = absurd cc
is_one_call (then_statement (a_statement line (assign_form n steps how x)) no_statement) c e = absurd cc
is_one_call (then_statement (a_statement line (return_form x)) no_statement) c e = absurd cc

is_launched : (b : Bool) (body : Block) (c : LaunchedCall) → cond b (one_call body) None ≡ Some c → body ≡ alone c
is_launched true body c e = is_one_call body c e
is_launched false body c e = absurd cc

-- a call binds no name, and no loop stands in it
pub launched_scope : (tree : Tree) (s : Scope) (b : Bool) (body : Block) (c : LaunchedCall) →
    cond b (one_call body) None ≡ Some c → scope_after_block tree s body ≡ s
launched_scope tree s b body c e = ap (scope_after_block tree s) (is_launched b body c e)

pub launched_shapes : (ls : List LoopShape) (b : Bool) (body : Block) (c : LaunchedCall) →
    cond b (one_call body) None ≡ Some c → shapes_after_block ls body ≡ ls
launched_shapes ls b body c e = ap (shapes_after_block ls) (is_launched b body c e)

-- ---- arguments that are the same at each colour

pub kept_on : (w : Where) (v : Name) (types : List StaticType) (args : List Expr) (i : ℕ) (a : Expr) (now after total : List Line) →
    i < length args → a ≡ get_or args i a →
    after ≡ emitted now (cond (is_fixed v (expression_of a)) (fixed_code w i (first_type (drop i types)) (expression_of a)) empty) →
    emitted now (kept_code w v i (drop i types) (expressions_in (drop i args))) ≡ total →
    emitted after (kept_code w v (i + 1) (drop (i + 1) types) (expressions_in (drop (i + 1) args))) ≡ total
kept_on w v types args i a now after total lt is e so_far =
    let rest = expressions_in (drop (i + 1) args) in
    let here : emitted now (kept_code w v i (drop i types) (expressions_in (drop i args)))
    ≡ emitted after (kept_code w v (i + 1) (drop (i + 1) types) rest) =
    rw (drop_more args i a lt, ← is)
    (ap (λ (b : List Line). emitted b (kept_code w v (suc i) (other_types (drop i types)) rest)) (sym e)
    ∙ ap (λ (ts : List StaticType). emitted after (kept_code w v (suc i) ts rest)) (others_dropped types i)
    ∙ ap (λ (n : ℕ). emitted after (kept_code w v n (drop (i + 1) types) rest)) (suc-eq-add-one i)) in
    sym here ∙ so_far
