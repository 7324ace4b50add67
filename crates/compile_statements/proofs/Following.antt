-- Statements, one after the other.
use Rattle.std.proofs.Common.{◌≡◌, ◌<◌, ◌+◌, ℕ, List, drop, get_or, length, refl, sym, ◌∙◌}
use Rattle.std.proofs.lemmas.List.{drop_more}
use Rattle.regent_tree.specs.PlainProgram.{block_in, form_of, tree_of}
use Rattle.regent_tree.specs.Scopes.{Scope}
use Rattle.regent_tree.specs.Syntax.{Tree}
use Rattle.regent_tree.specs.Typing.{scope_after, scope_after_block}
use Rattle.regent_tree.specs.declared.statement.Stmt.{Stmt}
use Rattle.task_code.specs.declared.code.Line.{Line}
use Rattle.code_rules.specs.Emitted.{emitted}
use Rattle.check_rules.specs.declared.loop_shape.LoopShape.{LoopShape}
use Rattle.compile_types.specs.Here.{where_at}
use Rattle.compile_types.specs.declared.here.Site.{Site}
use Rattle.compile_statements.specs.Shaped.{block_by, form_by, shapes_after_block, shapes_after_form}

pub after_on : (tree : Tree) (stmts : List Stmt) (i : ℕ) (x : Stmt) (s u total : Scope) →
    i < length stmts → x ≡ get_or stmts i x → u ≡ scope_after tree s (form_of x.what) →
    scope_after_block tree s (block_in (drop i stmts)) ≡ total →
    scope_after_block tree u (block_in (drop (i + 1) stmts)) ≡ total
after_on tree stmts i x s u total lt is e so_far =
    let here : scope_after_block tree s (block_in (drop i stmts)) ≡ scope_after_block tree u (block_in (drop (i + 1) stmts)) =
    rw (drop_more stmts i x lt, ← is, e) refl in
    sym here ∙ so_far

pub shapes_on : (stmts : List Stmt) (i : ℕ) (x : Stmt) (ls us total : List LoopShape) →
    i < length stmts → x ≡ get_or stmts i x → us ≡ shapes_after_form ls (form_of x.what) →
    shapes_after_block ls (block_in (drop i stmts)) ≡ total →
    shapes_after_block us (block_in (drop (i + 1) stmts)) ≡ total
shapes_on stmts i x ls us total lt is e so_far =
    let here : shapes_after_block ls (block_in (drop i stmts)) ≡ shapes_after_block us (block_in (drop (i + 1) stmts)) =
    rw (drop_more stmts i x lt, ← is, e) refl in
    sym here ∙ so_far

pub code_on : (site : Site) (line : ℕ) (stmts : List Stmt) (i : ℕ) (x : Stmt) (s u : Scope) (ls us : List LoopShape)
    (now after total : List Line) →
    i < length stmts → x ≡ get_or stmts i x → u ≡ scope_after (tree_of site.symbols.now) s (form_of x.what) →
    us ≡ shapes_after_form ls (form_of x.what) →
    after ≡ emitted now (form_by ls (where_at site s x.line) (form_of x.what)) →
    emitted now (block_by ls (where_at site s line) (block_in (drop i stmts))) ≡ total →
    emitted after (block_by us (where_at site u line) (block_in (drop (i + 1) stmts))) ≡ total
code_on site line stmts i x s u ls us now after total lt is e g f so_far =
    let here : emitted now (block_by ls (where_at site s line) (block_in (drop i stmts)))
    ≡ emitted after (block_by us (where_at site u line) (block_in (drop (i + 1) stmts))) =
    rw (drop_more stmts i x lt, ← is, e, g, f) refl in
    sym here ∙ so_far
