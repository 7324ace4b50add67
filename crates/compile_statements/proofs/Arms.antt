-- The tests of an `if` with their blocks, one after the other.
use Rattle.std.specs.Prelude.{Err, Ok, OnOk, Result}
use Rattle.std.proofs.Common.{◌≡◌, ◌<◌, ◌+◌, ℕ, List, [], ◌∷◌, ◌++◌, drop, get_or, length, refl, sym, ap, ◌∙◌}
use Rattle.std.proofs.lemmas.List.{drop_more}
use Rattle.regent_tree.specs.Plain.{expression_of}
use Rattle.regent_tree.specs.PlainProgram.{arms_in, block_in, tree_of}
use Rattle.regent_tree.specs.Scopes.{Scope, past}
use Rattle.regent_tree.specs.Syntax.{Block, Expression, Tree}
use Rattle.regent_tree.specs.Typing.{scope_after_arms, scope_after_block}
use Rattle.regent_tree.specs.declared.statement.Arm.{Arm, out-Arm}
use Rattle.regent_tree.proofs.Rows.{arm_read}
use Rattle.task_code.specs.declared.code.Line.{Line}
use Rattle.code_rules.specs.Emitted.{emitted}
use Rattle.code_rules.specs.Pieces.{Piece}
use Rattle.check_rules.specs.declared.loop_shape.LoopShape.{LoopShape}
use Rattle.compile_types.specs.Here.{where_at}
use Rattle.compile_types.specs.declared.here.Site.{Site}
use Rattle.compile_statements.specs.Branches.{behind_block, joined, parted_by}
use Rattle.compile_statements.specs.Shaped.{arms_by, block_by, shapes_after_arms, shapes_after_block}
use Rattle.compile_statements.proofs.Joined.{joined_more}

-- what holds holds where a call came back with Ok
pub on_ok : {A E : Type 0} (r : Result A E) (P : Type 0) → P → OnOk r P
on_ok (Ok x) P h = h
on_ok (Err e) P h = tt

abbrev pub body_in : Arm → Block
body_in a = block_in (out-Arm a).body.items

abbrev pub test_in : Arm → Expression
test_in a = expression_of (out-Arm a).test

pub after_arms_on : (tree : Tree) (arms : List Arm) (i : ℕ) (a : Arm) (s u total : Scope) →
    i < length arms → a ≡ get_or arms i a → u ≡ past s (scope_after_block tree s (body_in a)) →
    scope_after_arms tree s (arms_in (drop i arms)) ≡ total →
    scope_after_arms tree u (arms_in (drop (i + 1) arms)) ≡ total
after_arms_on tree arms i a s u total lt is e so_far =
    let here : scope_after_arms tree s (arms_in (drop i arms)) ≡ scope_after_arms tree u (arms_in (drop (i + 1) arms)) =
    rw (drop_more arms i a lt, ← is, arm_read a (arms_in (drop (i + 1) arms)), e) refl in
    sym here ∙ so_far

pub arm_shapes_on : (arms : List Arm) (i : ℕ) (a : Arm) (ls us total : List LoopShape) →
    i < length arms → a ≡ get_or arms i a → us ≡ shapes_after_block ls (body_in a) →
    shapes_after_arms ls (arms_in (drop i arms)) ≡ total →
    shapes_after_arms us (arms_in (drop (i + 1) arms)) ≡ total
arm_shapes_on arms i a ls us total lt is e so_far =
    let here : shapes_after_arms ls (arms_in (drop i arms)) ≡ shapes_after_arms us (arms_in (drop (i + 1) arms)) =
    rw (drop_more arms i a lt, ← is, arm_read a (arms_in (drop (i + 1) arms)), e) refl in
    sym here ∙ so_far

-- the place of the jump behind the block of an arm is the last that is joined
pub arms_on : (site : Site) (line : ℕ) (own : Scope) (arms : List Arm) (i : ℕ) (a : Arm) (s u : Scope) (ls us : List LoopShape)
    (skips : List ℕ) (p : ℕ) (now after total : List Line) (other : Piece) →
    let inner = block_by ls (where_at site s line) (body_in a) in
    i < length arms → a ≡ get_or arms i a →
    u ≡ past s (scope_after_block (tree_of site.symbols.now) s (body_in a)) →
    us ≡ shapes_after_block ls (body_in a) →
    p ≡ length (behind_block (where_at site own line) (where_at site s line) (test_in a) inner now) →
    after ≡ parted_by (where_at site own line) (where_at site s line) (test_in a) inner now →
    total ≡ joined line skips (emitted now (arms_by ls (where_at site own line) (where_at site s line) (arms_in (drop i arms)) other)) →
    total ≡ joined line (skips ++ p ∷ [])
    (emitted after (arms_by us (where_at site own line) (where_at site u line) (arms_in (drop (i + 1) arms)) other))
arms_on site line own arms i a s u ls us skips p now after total other lt is e g place f so_far =
    let here : emitted now (arms_by ls (where_at site own line) (where_at site s line) (arms_in (drop i arms)) other)
    ≡ joined line (p ∷ []) (emitted after (arms_by us (where_at site own line) (where_at site u line) (arms_in (drop (i + 1) arms)) other)) =
    rw (drop_more arms i a lt, ← is, arm_read a (arms_in (drop (i + 1) arms)), e, g, f, place) refl in
    so_far ∙ ap (joined line skips) here ∙ sym (joined_more line skips (p ∷ [])
    (emitted after (arms_by us (where_at site own line) (where_at site u line) (arms_in (drop (i + 1) arms)) other)))
