-- How many nodes a value has by the terminals that it was read of: each terminal pays for two.
use Rattle.std.proofs.Common.{◌≡◌, ℕ, suc, ◌+◌, ◌≤◌, List, [], ◌∷◌, ◌++◌}
use Rattle.std.proofs.Common.{Option, Some, None, length, append_assoc, subst}
use Rattle.std.proofs.Common.{arith}
use Rattle.regent_tree.specs.declared.expression.Sign.{Sign}
use Rattle.regent_tree.specs.declared.types.Param.{Param}
use Rattle.regent_tree.specs.declared.types.Ref.{Ref}
use Rattle.regent_tree.specs.Syntax.{ItemForm, import_item, alias_item, space_item, task_item, start_item}
use Rattle.regent_tree.specs.Limits.{tasks_in, task_before, spaces_in, space_before}
use Rattle.regent_tree.specs.declared.types.TypeTerm.{TypeTerm}
use Rattle.regent_tree.specs.Syntax.{Expression, Statement, a_statement, Block, ItemTree}
use Rattle.regent_tree.specs.Limits.{Part, node, literal, counted, nodes, number_of_nodes}
use Rattle.regent_tree.specs.Limits.{parts_of_term, parts_of_type, parts_of_params}
use Rattle.regent_tree.specs.Limits.{parts_of_expression, parts_of_links, parts_of_expressions}
use Rattle.regent_tree.specs.Limits.{parts_of_steps, parts_of_initializer, parts_of_form, parts_of_block}
use Rattle.regent_tree.specs.Limits.{parts_of_arms, parts_of_otherwise, parts_of_item}
use Rattle.regent_tree.specs.Limits.{parts_of_items}
use Rattle.regent_grammar.specs.Nodes.{Joined, links_from, expressions_from, Stepped, by_field}
use Rattle.regent_grammar.specs.Nodes.{by_place, steps_from, block_from, returning_from}
use Rattle.regent_grammar.specs.Nodes.{Armed, arms_from, otherwise_from}
use Rattle.regent_grammar.specs.Rules.{Sort, ◌⇒◌, Value}
use Rattle.regent_grammar.specs.Laws.{LiteralFits}

abbrev pub AllFit : List Part → Type 0
AllFit [] = Unit {0}
AllFit (p ∷ ps) = LiteralFits p × AllFit ps

-- no more than n of what is counted
abbrev pub Counts : List Part → ℕ → Type 0
Counts [] n = Unit {0}
Counts (node ∷ ps) n = Counts ps n
Counts (literal v w ∷ ps) n = Counts ps n
Counts (counted w c ∷ ps) n = (c ≤ n) × Counts ps n

pub counts_more : (ps : List Part) (n m : ℕ) → Counts ps n → n ≤ m → Counts ps m
counts_more [] n m k h = tt
counts_more (node ∷ ps) n m k h = counts_more ps n m k h
counts_more (literal v w ∷ ps) n m k h = counts_more ps n m k h
counts_more (counted w c ∷ ps) n m k h = let l = k.0 in (omega arith, counts_more ps n m k.1 h)

counts_append : (xs ys : List Part) (n : ℕ) → Counts xs n → Counts ys n → Counts (xs ++ ys) n
counts_append [] ys n h k = k
counts_append (node ∷ xs) ys n h k = counts_append xs ys n h k
counts_append (literal v w ∷ xs) ys n h k = counts_append xs ys n h k
counts_append (counted w c ∷ xs) ys n h k = (h.0, counts_append xs ys n h.1 k)

fit_append : (xs ys : List Part) → AllFit xs → AllFit ys → AllFit (xs ++ ys)
fit_append [] ys h k = k
fit_append (x ∷ xs) ys h k = (h.0, fit_append xs ys h.1 k)

-- with `extra` nodes besides there are no more than n, and the literals fit
abbrev pub Keeps : ℕ → List Part → ℕ → Type 0
Keeps extra ps n = (extra + number_of_nodes ps ≤ n) × AllFit ps × Counts ps n

abbrev pub parts_of_stepped : Stepped → List Part
parts_of_stepped (by_field name) = node ∷ []
parts_of_stepped (by_place e) = node ∷ parts_of_expression e

abbrev pub parts_of_statement : Statement → List Part
parts_of_statement (a_statement line form) = node ∷ parts_of_form form

-- what a value of each sort costs
abbrev pub Size : (s : Sort) → Value s → ℕ → Type 0
Size Sort.unit x n = 2 ≤ n
Size Sort.line x n = Unit {0}
Size Sort.flag x n = Unit {0}
Size Sort.bytes x n = 2 ≤ n
Size Sort.names x n = Keeps 0 (nodes x) n
Size Sort.kind x n = 2 ≤ n
Size Sort.number x n = 2 ≤ n
Size Sort.reference x n = 2 ≤ n
Size Sort.space_use x n = Unit {0}
Size Sort.pointer x n = (2 ≤ n) × (length x.regions ≤ n)
Size Sort.type_term x n = Keeps 0 (parts_of_term x) n
Size Sort.parameter x n = (2 ≤ n) × Keeps 0 (parts_of_term x.term) n
Size Sort.operation x n = Unit {0}
Size Sort.grant x n = Unit {0}
Size Sort.place x n = Unit {0}
Size Sort.clause x n = Unit {0}
Size Sort.operator x n = Unit {0}
Size Sort.sign x n = 2 ≤ n
Size Sort.joined x n = Keeps 1 (parts_of_expression x.operand) n
Size Sort.step x n = Keeps 0 (parts_of_stepped x) n
Size Sort.accessed x n = Keeps 2 (parts_of_steps x.steps) n
Size Sort.expression x n = Keeps 1 (parts_of_expression x) n
Size Sort.initializer x n = Keeps 0 (parts_of_initializer x) n
Size Sort.how x n = Unit {0}
Size Sort.arm x n = Keeps 1 (parts_of_expression x.test ++ parts_of_block x.body) n
Size Sort.form x n = Keeps 1 (parts_of_form x) n
Size Sort.statement x n = Keeps 0 (parts_of_statement x) n
Size Sort.block x n = Keeps 0 (parts_of_block x) n
Size Sort.item_form x n = (2 ≤ n) × Keeps 0 (parts_of_item x) n
Size Sort.item x n = (2 ≤ n) × Keeps 0 (parts_of_item x.form) n
Size (Sort.optional s) None n = Unit {0}
Size (Sort.optional s) (Some x) n = Size s x n
Size (Sort.listed s) [] n = Unit {0}
Size (Sort.listed s) (x ∷ xs) n =
    (m : ℕ) × (k : ℕ) × Size s x m × Size (Sort.listed s) xs k × (m + k ≤ n)
Size (s ⇒ t) f n = (x : Value s) (m : ℕ) → Size s x m → Size t (f x) (n + m)

-- ---- lists of parts

pub nodes_append : (xs ys : List Part) → number_of_nodes (xs ++ ys)
    ≡ number_of_nodes xs + number_of_nodes ys
nodes_append [] ys = omega arith
nodes_append (node ∷ xs) ys = let e = nodes_append xs ys in omega arith
nodes_append (literal v w ∷ xs) ys = nodes_append xs ys
nodes_append (counted c n ∷ xs) ys = nodes_append xs ys

pub keeps_more : (e : ℕ) (ps : List Part) (n m : ℕ) → Keeps e ps n → n ≤ m → Keeps e ps m
keeps_more e ps n m k h = let l = k.0 in (omega arith, k.1, counts_more ps n m k.2 h)

-- two lists with as many extra nodes as both have
pub keeps_append : (a b c : ℕ) (xs ys : List Part) (n m k : ℕ) → Keeps a xs n → Keeps b ys m →
    c ≤ a + b → n + m ≤ k → Keeps c (xs ++ ys) k
keeps_append a b c xs ys n m k p q h l =
    let e = nodes_append xs ys in let x = p.0 in let y = q.0 in (
      omega arith,
      fit_append xs ys p.1 q.1,
      counts_append xs ys k (counts_more xs n k p.2 (omega arith)) (counts_more ys m k q.2 (omega arith)),
    )

-- one node in front
pub keeps_node : (a c : ℕ) (ps : List Part) (n k : ℕ) → Keeps a ps n → c + 1 + n ≤ a + k → n ≤ k →
    Keeps c (node ∷ ps) k
keeps_node a c ps n k p h l = let x = p.0 in (omega arith, (tt, p.1), counts_more ps n k p.2 l)

-- ---- a larger bound

pub more : (s : Sort) (x : Value s) (n m : ℕ) → Size s x n → n ≤ m → Size s x m
more Sort.unit x n m k h = omega arith
more Sort.line x n m k h = tt
more Sort.flag x n m k h = tt
more Sort.bytes x n m k h = omega arith
more Sort.names x n m k h = keeps_more 0 (nodes x) n m k h
more Sort.kind x n m k h = omega arith
more Sort.number x n m k h = omega arith
more Sort.reference x n m k h = omega arith
more Sort.space_use x n m k h = tt
more Sort.pointer x n m k h = let a = k.0 in let b = k.1 in (omega arith, omega arith)
more Sort.type_term x n m k h = keeps_more 0 (parts_of_term x) n m k h
more Sort.parameter x n m k h = let a = k.0 in (omega arith, keeps_more 0 (parts_of_term x.term) n m k.1 h)
more Sort.operation x n m k h = tt
more Sort.grant x n m k h = tt
more Sort.place x n m k h = tt
more Sort.clause x n m k h = tt
more Sort.operator x n m k h = tt
more Sort.sign x n m k h = omega arith
more Sort.joined x n m k h = keeps_more 1 (parts_of_expression x.operand) n m k h
more Sort.step x n m k h = keeps_more 0 (parts_of_stepped x) n m k h
more Sort.accessed x n m k h = keeps_more 2 (parts_of_steps x.steps) n m k h
more Sort.expression x n m k h = keeps_more 1 (parts_of_expression x) n m k h
more Sort.initializer x n m k h = keeps_more 0 (parts_of_initializer x) n m k h
more Sort.how x n m k h = tt
more Sort.arm x n m k h = keeps_more 1 (parts_of_expression x.test ++ parts_of_block x.body) n m k h
more Sort.form x n m k h = keeps_more 1 (parts_of_form x) n m k h
more Sort.statement x n m k h = keeps_more 0 (parts_of_statement x) n m k h
more Sort.block x n m k h = keeps_more 0 (parts_of_block x) n m k h
more Sort.item_form x n m k h = let a = k.0 in (omega arith, keeps_more 0 (parts_of_item x) n m k.1 h)
more Sort.item x n m k h = let a = k.0 in (omega arith, keeps_more 0 (parts_of_item x.form) n m k.1 h)
more (Sort.optional s) None n m k h = tt
more (Sort.optional s) (Some x) n m k h = more s x n m k h
more (Sort.listed s) [] n m k h = tt
more (Sort.listed s) (x ∷ xs) n m k h = let l : k.0 + k.1 ≤ n = k.4 in
    (k.0, k.1, k.2, k.3, omega arith)
more (s ⇒ t) f n m k h = λ x j p. more t (f x) (n + j) (m + j) (k x j p) (omega arith)

-- ---- lists of values

pub expressions_kept : (es : List Expression) (n : ℕ) → Size (Sort.listed Sort.expression) es n →
    Keeps 0 (parts_of_expressions (expressions_from es)) n
expressions_kept [] n h = (omega arith, tt, tt)
expressions_kept (e ∷ es) n h =
    keeps_append 1 0 0 (parts_of_expression e)
    (parts_of_expressions (expressions_from es)) h.0 h.1 n h.2
    (expressions_kept es h.1 h.3) (omega arith) h.4

pub links_kept : (js : List Joined) (n : ℕ) → Size (Sort.listed Sort.joined) js n →
    Keeps (length js) (parts_of_links (links_from js)) n
links_kept [] n h = (omega arith, tt, tt)
links_kept (j ∷ js) n h =
    keeps_append 1 (length js) (suc (length js)) (parts_of_expression j.operand)
    (parts_of_links (links_from js)) h.0 h.1 n h.2
    (links_kept js h.1 h.3) (omega arith) h.4

pub steps_kept : (ss : List Stepped) (n : ℕ) → Size (Sort.listed Sort.step) ss n →
    Keeps 0 (parts_of_steps (steps_from ss)) n
steps_kept [] n h = (omega arith, tt, tt)
steps_kept (by_field name ∷ ss) n h =
    keeps_append 0 0 0 (node ∷ []) (parts_of_steps (steps_from ss)) h.0 h.1 n h.2
    (steps_kept ss h.1 h.3) (omega arith) h.4
steps_kept (by_place e ∷ ss) n h =
    keeps_append 0 0 0 (node ∷ parts_of_expression e) (parts_of_steps (steps_from ss)) h.0 h.1 n h.2
    (steps_kept ss h.1 h.3) (omega arith) h.4

pub block_kept : (ss : List Statement) (n : ℕ) → Size (Sort.listed Sort.statement) ss n →
    Keeps 0 (parts_of_block (block_from ss)) n
block_kept [] n h = (omega arith, tt, tt)
block_kept (a_statement line f ∷ ss) n h =
    keeps_append 0 0 0 (node ∷ parts_of_form f) (parts_of_block (block_from ss)) h.0 h.1 n h.2
    (block_kept ss h.1 h.3) (omega arith) h.4

-- one more behind
pub listed_behind : (s : Sort) (xs : List (Value s)) (y : Value s) (n m : ℕ) →
    Size (Sort.listed s) xs n → Size s y m → Size (Sort.listed s) (xs ++ y ∷ []) (n + m)
listed_behind s [] y n m h k = (m, 0, k, tt, omega arith)
listed_behind s (x ∷ xs) y n m h k =
    let l : h.0 + h.1 ≤ n
    = h.4 in (h.0, h.1 + m, h.2, listed_behind s xs y h.1 m h.3 k, omega arith)

pub returning_kept : (ss : List Statement) (o : Option Statement) (n m : ℕ) →
    Size (Sort.listed Sort.statement) ss n → Size (Sort.optional Sort.statement) o m →
    Keeps 0 (parts_of_block (returning_from ss o)) (n + m)
returning_kept ss None n m h k = keeps_more 0 (parts_of_block (block_from ss)) n (n + m)
    (block_kept ss n h) (omega arith)
returning_kept ss (Some s) n m h k = block_kept (ss ++ s ∷ []) (n + m)
    (listed_behind Sort.statement ss s n m h k)

pub arms_kept : (as' : List Armed) (n : ℕ) → Size (Sort.listed Sort.arm) as' n →
    Keeps (length as') (parts_of_arms (arms_from as')) n
arms_kept [] n h = (omega arith, tt, tt)
arms_kept (a ∷ as') n h =
    let p = keeps_append 1 (length as') (suc (length as'))
    (parts_of_expression a.test ++ parts_of_block a.body)
    (parts_of_arms (arms_from as')) h.0 h.1 n h.2
    (arms_kept as' h.1 h.3) (omega arith) h.4 in
    subst (λ ps. Keeps (suc (length as')) ps n)
    (append_assoc (parts_of_expression a.test) (parts_of_block a.body)
    (parts_of_arms (arms_from as'))) p

pub otherwise_kept : (o : Option Block) (n : ℕ) → Size (Sort.optional Sort.block) o n →
    Keeps 0 (parts_of_otherwise (otherwise_from o)) n
otherwise_kept None n h = (omega arith, tt, tt)
otherwise_kept (Some b) n h = h

pub names_kept : (fs : List (List ℕ)) (n : ℕ) → Size (Sort.listed Sort.bytes) fs n →
    Keeps 0 (nodes fs) n
names_kept [] n h = (omega arith, tt, tt)
names_kept (f ∷ fs) n h =
    let p = names_kept fs h.1 h.3 in let two = h.2 in let l = h.4 in
    keeps_node 0 0 (nodes fs) h.1 n p (omega arith) (omega arith)

pub signs_kept : (ss : List Sign) (n : ℕ) → Size (Sort.listed Sort.sign) ss n →
    Keeps (length ss) (nodes ss) n
signs_kept [] n h = (omega arith, tt, tt)
signs_kept (s ∷ ss) n h =
    let p = signs_kept ss h.1 h.3 in let two = h.2 in let l = h.4 in
    keeps_node (length ss) (suc (length ss)) (nodes ss) h.1 n p (omega arith) (omega arith)

pub items_kept : (is : List ItemTree) (n : ℕ) → Size (Sort.listed Sort.item) is n →
    Keeps 0 (parts_of_items is) n
items_kept [] n h = (omega arith, tt, tt)
items_kept (i ∷ is) n h =
    keeps_append 0 0 0 (parts_of_item i.form) (parts_of_items is) h.0 h.1 n h.2.1
    (items_kept is h.1 h.3) (omega arith) h.4

-- there are no more tasks and no more field spaces than items
tasks_before : (f : ItemForm) (n m : ℕ) → n + 1 ≤ m → task_before f n ≤ m
tasks_before import_item n m h = omega arith
tasks_before (alias_item name) n m h = omega arith
tasks_before (space_item s) n m h = omega arith
tasks_before (task_item t) n m h = omega arith
tasks_before (start_item name) n m h = omega arith

pub tasks_counted : (is : List ItemTree) (n : ℕ) → Size (Sort.listed Sort.item) is n → tasks_in is ≤ n
tasks_counted [] n h = omega arith
tasks_counted (i ∷ is) n h =
    let k = tasks_counted is h.1 h.3 in let l = h.4 in let two = h.2.0 in
    tasks_before i.form (tasks_in is) n (omega arith)

spaces_before : (f : ItemForm) (n m : ℕ) → n + 1 ≤ m → space_before f n ≤ m
spaces_before import_item n m h = omega arith
spaces_before (alias_item name) n m h = omega arith
spaces_before (space_item s) n m h = omega arith
spaces_before (task_item t) n m h = omega arith
spaces_before (start_item name) n m h = omega arith

pub spaces_counted : (is : List ItemTree) (n : ℕ) → Size (Sort.listed Sort.item) is n → spaces_in is ≤ n
spaces_counted [] n h = omega arith
spaces_counted (i ∷ is) n h =
    let k = spaces_counted is h.1 h.3 in let l = h.4 in let two = h.2.0 in
    spaces_before i.form (spaces_in is) n (omega arith)

-- ---- types and parameters

pub references_counted : (rs : List Ref) (n : ℕ) → Size (Sort.listed Sort.reference) rs n → length rs ≤ n
references_counted [] n h = omega arith
references_counted (r ∷ rs) n h =
    let k = references_counted rs h.1 h.3 in let l = h.4 in let two = h.2 in omega arith

pub type_kept : (t : Option TypeTerm) (n : ℕ) → Size (Sort.optional Sort.type_term) t n →
    Keeps 0 (parts_of_type t) n
type_kept None n h = (omega arith, tt, tt)
type_kept (Some t) n h = h

pub params_kept : (ps : List Param) (n : ℕ) → Size (Sort.listed Sort.parameter) ps n →
    Keeps 0 (parts_of_params ps) n
params_kept [] n h = (omega arith, tt, tt)
params_kept (p ∷ ps) n h =
    keeps_append 0 0 0 (parts_of_term p.term) (parts_of_params ps) h.0 h.1 n h.2.1
    (params_kept ps h.1 h.3) (omega arith) h.4

pub params_counted : (ps : List Param) (n : ℕ) → Size (Sort.listed Sort.parameter) ps n → length ps ≤ n
params_counted [] n h = omega arith
params_counted (p ∷ ps) n h =
    let k = params_counted ps h.1 h.3 in let l = h.4 in let two = h.2.0 in omega arith
