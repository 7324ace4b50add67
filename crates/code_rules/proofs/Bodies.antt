-- In a program within the limits each body has fewer than 2^32 instructions.
use Rattle.std.proofs.Common.{◌≡◌, ◌≤◌, ◌<◌, ◌+◌, ℕ, suc, List, [], ◌∷◌, ◌++◌, length, arith}
use Rattle.std.specs.Prelude.{All}
use Rattle.std.proofs.lemmas.List.Elements.{All-cons}
use Rattle.regent_tree.specs.Limits.{number_of_nodes, parts_of_block, parts_of_item, parts_of_items, parts_of_params, parts_of_type}
use Rattle.regent_tree.specs.Syntax.{ItemForm, TaskTree, Tree, alias_item, import_item, space_item, start_item, task_item}
use Rattle.code_rules.specs.Instructions.{tasks_of}
use Rattle.code_rules.specs.Laws.{BodiesAreShort}
use Rattle.code_rules.specs.Pieces.{Piece, empty, op, ◌⨟◌, over, branch, loop, rounds, past}
use Rattle.code_rules.specs.Programs.{body_piece, place_of, task_code}
use Rattle.code_rules.proofs.Sizes.{size}
use Rattle.code_rules.proofs.ExpressionSizes.{both_nodes}
use Rattle.code_rules.proofs.Laid.{reaches}
use Rattle.code_rules.proofs.StatementSizes.{block_size}

passes : (p : Piece) (pc : ℕ) → past p pc ≡ pc + size p
passes empty pc = omega arith
passes (op i line) pc = omega arith
passes (a ⨟ b) pc =
    let first = passes a pc in
    let second = passes b (past a pc) in
    omega (arith, first, second)
passes (over k line a) pc = let inner = passes a (suc pc) in omega (arith, inner)
passes (branch line a b) pc =
    let first = passes a (suc pc) in
    let second = passes b (suc (past a (suc pc))) in
    omega (arith, first, second)
passes (loop line test body) pc =
    let first = passes body (suc (suc pc)) in
    let second = passes test (past body (suc (suc pc))) in
    omega (arith, first, second)
passes (rounds k line a) pc = let inner = passes a (suc pc) in omega (arith, inner)

short : (tree : Tree) (t : TaskTree) → number_of_nodes (parts_of_block t.body) ≤ 4194304 →
    length (task_code tree t).body < 4294967296
short tree t few =
    let p = body_piece tree t in
    let a = block_size (place_of tree t) t.body in
    let b = passes p 0 in
    let c = reaches p 0 in
    omega (arith, few, a, b, c)

abbrev AreShort : Tree → List TaskTree → Type 0
AreShort tree ts = All (λ (t : TaskTree). length (task_code tree t).body < 4294967296) ts

after_item : (tree : Tree) (i : ItemForm) (items : Tree) (line : ℕ) →
    number_of_nodes (parts_of_item i) ≤ 4194304 → AreShort tree (tasks_of items) →
    AreShort tree (tasks_of (record { line = line; form = i } ∷ items))
after_item tree import_item items line few h = h
after_item tree (alias_item n) items line few h = h
after_item tree (space_item s) items line few h = h
after_item tree (start_item n) items line few h = h
after_item tree (task_item t) items line few h =
    let a = both_nodes (parts_of_params t.params) (parts_of_type t.result ++ parts_of_block t.body) in
    let b = both_nodes (parts_of_type t.result) (parts_of_block t.body) in
    All-cons (λ (u : TaskTree). length (task_code tree u).body < 4294967296) t (tasks_of items)
    (short tree t (omega (arith, few, a, b))) h

all_short : (tree items : Tree) → number_of_nodes (parts_of_items items) ≤ 4194304 → AreShort tree (tasks_of items)
all_short tree [] few = λ k d l. absurd (omega (arith, l))
all_short tree (i ∷ items) few =
    let a = both_nodes (parts_of_item i.form) (parts_of_items items) in
    after_item tree i.form items i.line (omega (arith, few, a)) (all_short tree items (omega (arith, few, a)))

pub bodies_are_short : BodiesAreShort
bodies_are_short tree within =
    let few = within.nodes in
    all_short tree tree (omega (arith, few))
