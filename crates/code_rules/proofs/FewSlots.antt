-- In a program within the limits each task uses fewer than 2^32 slots.
use Rattle.std.proofs.Common.{◌≡◌, ◌≤◌, ◌<◌, ◌+◌, ◌*◌, ℕ, suc, List, [], ◌∷◌, ◌++◌, length, refl, arith}
use Rattle.std.specs.Prelude.{All}
use Rattle.std.proofs.lemmas.List.{length-append}
use Rattle.std.proofs.lemmas.List.Elements.{All-cons, All-head, All-tail}
use Rattle.regent_tree.specs.Limits.{KeepsLimit, Part, counted, number_of_nodes, parts_of_block, parts_of_item, parts_of_items, parts_of_params, parts_of_type, spaces_in, tasks_in}
use Rattle.regent_tree.specs.Scopes.{bound_params}
use Rattle.regent_tree.specs.Syntax.{ItemForm, TaskTree, Tree, alias_item, import_item, space_item, start_item, task_item}
use Rattle.regent_tree.specs.declared.limits.Counted.TheVariants.{Parameters, Spaces, Tasks}
use Rattle.regent_tree.specs.declared.types.Param.{Param}
use Rattle.regent_tree.specs.declared.typing.Bound.{Bound}
use Rattle.code_rules.specs.Instructions.{tasks_of}
use Rattle.code_rules.specs.Laws.{SlotsAreFew}
use Rattle.code_rules.specs.Pieces.{lines}
use Rattle.code_rules.specs.Programs.{body_piece, place_of, task_code}
use Rattle.code_rules.proofs.ExpressionSizes.{both_nodes}
use Rattle.code_rules.proofs.LowSlots.{Placed, few_slots, free, lines_low}
use Rattle.code_rules.proofs.SlotsOfStatements.{block_fits}

-- ---- parameters

append_placed : (m : ℕ) (xs ys : List Bound) → Placed m xs → Placed m ys → Placed m (xs ++ ys)
append_placed m [] ys p q = q
append_placed m (x ∷ xs) ys p q = (p.0, append_placed m xs ys p.1 q)

params_placed : (m : ℕ) (tree : Tree) (all : List Param) (i : ℕ) (ps : List Param) → i + length ps ≤ m →
    Placed m (bound_params tree all i ps)
params_placed m tree all i [] h = tt
params_placed m tree all i (p ∷ ps) h =
    append_placed m (bound_params tree all (suc i) ps) (bound_params tree all i (p ∷ []))
    (params_placed m tree all (suc i) ps (omega (arith, h))) (omega (arith, h), tt)

params_length : (tree : Tree) (all : List Param) (i : ℕ) (ps : List Param) →
    length (bound_params tree all i ps) ≡ length ps
params_length tree all i [] = refl
params_length tree all i (p ∷ ps) =
    let more = params_length tree all (suc i) ps in
    let whole = length-append (bound_params tree all (suc i) ps) (bound_params tree all i (p ∷ [])) in
    omega (arith, more, whole)

-- ---- tasks

at_most : (tree : Tree) (t : TaskTree) →
    (task_code tree t).slots ≤ 3 * (length t.params + number_of_nodes (parts_of_block t.body)) + 3
at_most tree t =
    let m : ℕ = length t.params + number_of_nodes (parts_of_block t.body) in
    let names = params_length tree t.params 0 t.params in
    let placed = params_placed m tree t.params 0 t.params (omega arith) in
    let body = block_fits m (place_of tree t) t.body placed (omega (arith, names)) in
    let low = lines_low m (body_piece tree t) 0 (body, free m) in
    few_slots m (length t.params) (lines (body_piece tree t) 0) low (omega arith)

few : (tree : Tree) (t : TaskTree) → number_of_nodes (parts_of_block t.body) ≤ 4194304 → length t.params ≤ 16 →
    (task_code tree t).slots < 4294967296
few tree t short narrow =
    let most = at_most tree t in
    omega (arith, most, short, narrow)

abbrev AreFew : Tree → List TaskTree → Type 0
AreFew tree ts = All (λ (t : TaskTree). (task_code tree t).slots < 4294967296) ts

kept_left : (ps qs : List Part) → All KeepsLimit (ps ++ qs) → All KeepsLimit ps
kept_left [] qs h = λ k d l. absurd (omega (arith, l))
kept_left (p ∷ ps) qs h =
    All-cons KeepsLimit p ps (All-head KeepsLimit p (ps ++ qs) h) (kept_left ps qs (All-tail KeepsLimit p (ps ++ qs) h))

kept_right : (ps qs : List Part) → All KeepsLimit (ps ++ qs) → All KeepsLimit qs
kept_right [] qs h = h
kept_right (p ∷ ps) qs h = kept_right ps qs (All-tail KeepsLimit p (ps ++ qs) h)

after_item : (tree : Tree) (i : ItemForm) (items : Tree) (line : ℕ) →
    number_of_nodes (parts_of_item i) ≤ 4194304 → All KeepsLimit (parts_of_item i) →
    AreFew tree (tasks_of items) → AreFew tree (tasks_of (record { line = line; form = i } ∷ items))
after_item tree import_item items line short kept h = h
after_item tree (alias_item n) items line short kept h = h
after_item tree (space_item s) items line short kept h = h
after_item tree (start_item n) items line short kept h = h
after_item tree (task_item t) items line short kept h =
    let rest = parts_of_params t.params ++ (parts_of_type t.result ++ parts_of_block t.body) in
    let a = both_nodes (parts_of_params t.params) (parts_of_type t.result ++ parts_of_block t.body) in
    let b = both_nodes (parts_of_type t.result) (parts_of_block t.body) in
    All-cons (λ (u : TaskTree). (task_code tree u).slots < 4294967296) t (tasks_of items)
    (few tree t (omega (arith, short, a, b)) (All-head KeepsLimit (counted Parameters (length t.params)) rest kept)) h

all_few : (tree items : Tree) → number_of_nodes (parts_of_items items) ≤ 4194304 →
    All KeepsLimit (parts_of_items items) → AreFew tree (tasks_of items)
all_few tree [] short kept = λ k d l. absurd (omega (arith, l))
all_few tree (i ∷ items) short kept =
    let a = both_nodes (parts_of_item i.form) (parts_of_items items) in
    after_item tree i.form items i.line (omega (arith, short, a))
    (kept_left (parts_of_item i.form) (parts_of_items items) kept)
    (all_few tree items (omega (arith, short, a)) (kept_right (parts_of_item i.form) (parts_of_items items) kept))

pub slots_are_few : SlotsAreFew
slots_are_few tree within =
    let short = within.nodes in
    let spaces = counted Spaces (spaces_in tree) ∷ parts_of_items tree in
    all_few tree tree (omega (arith, short))
    (All-tail KeepsLimit (counted Spaces (spaces_in tree)) (parts_of_items tree)
    (All-tail KeepsLimit (counted Tasks (tasks_in tree)) spaces within.each))
