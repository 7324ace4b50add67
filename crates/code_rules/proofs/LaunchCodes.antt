-- The code of launches: how long it gets, and that it names low slots.
use Rattle.std.proofs.Common.{◌≡◌, ◌≤◌, ◌+◌, ◌*◌, ℕ, suc, List, [], ◌∷◌, ◌++◌, length, refl, subst, arith, Bool, true, false, cond, flat_map, None, Some}
use Rattle.index_launch.specs.declared.points.LaunchArg.TheVariants as launch_arg
use Rattle.regent_tree.specs.Evaluation.{first_type, other_types}
use Rattle.regent_tree.specs.Limits.{number_of_nodes, parts_of_block, parts_of_expression, parts_of_expressions}
use Rattle.regent_tree.specs.StaticTypes.{task_named}
use Rattle.regent_tree.specs.Syntax.{Block, Expression, Expressions, Name, a_statement, access_expr, an_expr, assert_form, assign_form, at_step, call_expr, call_form, cast_expr, chain_expr, convert_expr, do_form, field_step, fill_form, for_in_form, for_to_form, if_form, is_null_expr, no_expr, no_statement, no_step, null_expr, number_expr, prefix_expr, print_form, return_form, space_expr, then_statement, truth_expr, var_form, while_form}
use Rattle.regent_tree.specs.Typing.{params_at}
use Rattle.regent_tree.specs.declared.typing.StaticType.{StaticType}
use Rattle.code_rules.specs.Initializers.{new_place}
use Rattle.code_rules.specs.Launches.{LaunchedCall, arg_of, args_of, fixed_code, is_fixed, kept, kept_code, one_call, varying_arg}
use Rattle.code_rules.specs.Pieces.{Piece, empty}
use Rattle.code_rules.specs.Slots.{Where, beside, typed}
use Rattle.code_rules.specs.Statements.{in_one_step, on_line}
use Rattle.code_rules.specs.Used.{above_all, slots_named}
use Rattle.code_rules.proofs.ExpressionSizes.{both_nodes, converted_size, expr_size}
use Rattle.code_rules.proofs.LowSlots.{Fits, IsLow, Placed, either_fits, free, named_low, no_greater, spare_low}
use Rattle.code_rules.proofs.Sizes.{size}
use Rattle.code_rules.proofs.SlotsOfExpressions.{converted_fits, expr_fits}

-- ---- a loop that may be a launch

-- what holds of the loop as it stands, and of a launch where its body is one call, holds of its code
pub either_way : (P : Piece → Type 0) (w inner : Where) (i : Name) (b : Bool) (body : Block) (points : Piece) → P points →
    ((c : LaunchedCall) → body ≡ then_statement (a_statement c.line (call_form c.task c.args)) no_statement →
    P (in_one_step w inner i (Some c) points)) →
    P (in_one_step w inner i (cond b (one_call body) None) points)
either_way P w inner i false body points h k = h
either_way P w inner i true no_statement points h k = h
either_way P w inner i true (then_statement (a_statement line form) (then_statement s rest)) points h k = h
either_way P w inner i true (then_statement (a_statement line (call_form task args)) no_statement) points h k =
    k (record { line = line; task = task; args = args }) refl
either_way P w inner i true (then_statement (a_statement line (var_form n term initializer)) no_statement) points h k = h
either_way P w inner i true (then_statement (a_statement line (if_form arms other)) no_statement) points h k = h
either_way P w inner i true (then_statement (a_statement line (while_form test body)) no_statement) points h k = h
either_way P w inner i true (then_statement (a_statement line (for_in_form demanded n domain body)) no_statement) points h k = h
either_way P w inner i true (then_statement (a_statement line (for_to_form demanded n from to body)) no_statement) points h k = h
either_way P w inner i true (then_statement (a_statement line (do_form body)) no_statement) points h k = h
either_way P w inner i true (then_statement (a_statement line (fill_form r fields e)) no_statement) points h k = h
either_way P w inner i true (then_statement (a_statement line (assert_form e)) no_statement) points h k = h
either_way P w inner i true (then_statement (a_statement line (print_form alias format args)) no_statement) points h k = h
either_way P w inner i true (then_statement (a_statement line (assign_form n steps how e)) no_statement) points h k = h
either_way P w inner i true (then_statement (a_statement line (return_form e)) no_statement) points h k = h

-- ---- sizes

either_size : (b : Bool) (p : Piece) (n : ℕ) → size p ≤ n → size (cond b p empty) ≤ n
either_size true p n h = h
either_size false p n h = omega arith

kept_size : (w : Where) (i : Name) (place : ℕ) (types : List StaticType) (es : Expressions) →
    size (kept_code w i place types es) ≤ 16 * number_of_nodes (parts_of_expressions es)
kept_size w i place types no_expr = omega arith
kept_size w i place types (an_expr e es) =
    let a = expr_size w 0 e in
    let b = converted_size w (typed w e) (first_type types) in
    let here = either_size (is_fixed i e) (fixed_code w place (first_type types) e)
    (16 * number_of_nodes (parts_of_expression e)) (omega (arith, a, b)) in
    let more = kept_size w i (suc place) (other_types types) es in
    let n = both_nodes (parts_of_expression e) (parts_of_expressions es) in
    omega (arith, here, more, n)

pub launch_size : (w inner : Where) (i : Name) (b : Bool) (body : Block) (points : Piece) (n : ℕ) → size points ≤ n →
    16 * number_of_nodes (parts_of_block body) ≤ n →
    size (in_one_step w inner i (cond b (one_call body) None) points) ≤ n
launch_size w inner i b body points n h k = either_way (λ (p : Piece). size p ≤ n) w inner i b body points h
    (λ c is. let types = params_at inner.tree inner.scope (task_named inner.tree c.task) c.args in
    let a = kept_size (on_line inner c.line) i 0 types c.args in
    let m = both_nodes (parts_of_expressions c.args) [] in
    let whole = subst (λ (x : Block). 16 * number_of_nodes (parts_of_block x) ≤ n) is k in
    omega (arith, a, m, whole))

-- ---- slots

abbrev AllLow : ℕ → List ℕ → Type 0
AllLow m [] = Unit {0}
AllLow m (s ∷ ss) = IsLow m s × AllLow m ss

all_low : (m : ℕ) (ss : List ℕ) → AllLow m ss → above_all ss ≤ 3 * m + 3
all_low m [] l = free m
all_low m (s ∷ ss) l = no_greater (suc s) (above_all ss) (3 * m + 3) l.0 (all_low m ss l.1)

both_low : (m : ℕ) (ss ts : List ℕ) → AllLow m ss → AllLow m ts → AllLow m (ss ++ ts)
both_low m [] ts l k = k
both_low m (s ∷ ss) ts l k = (l.0, both_low m ss ts l.1 k)

-- the slot that an argument waits in is one behind those of the names, by its place
kept_low : (m : ℕ) (w : Where) (i : Name) (place : ℕ) (e : Expression) → Placed m w.scope.names →
    length w.scope.names + place ≤ m → AllLow m (slots_named (arg_of w i place e))
kept_low m w i place e p h = chosen (is_fixed i e)
  where
    varying : (x : Expression) → AllLow m (slots_named (varying_arg w x))
    varying (access_expr n (at_step x rest)) = (named_low m w n p, tt)
    varying (access_expr n no_step) = tt
    varying (access_expr n (field_step f rest)) = tt
    varying (number_expr z v) = tt
    varying (truth_expr b) = tt
    varying (chain_expr first rest) = tt
    varying (prefix_expr signs x) = tt
    varying (call_expr task args) = tt
    varying (convert_expr t x) = tt
    varying (is_null_expr x) = tt
    varying (null_expr t) = tt
    varying (cast_expr t x) = tt
    varying (space_expr k x) = tt

    chosen : (b : Bool) → AllLow m (slots_named (cond b (launch_arg.Keep (kept w place)) (varying_arg w e)))
    chosen true = (spare_low m w place h, tt)
    chosen false = varying e

args_low : (m : ℕ) (w : Where) (i : Name) (place : ℕ) (es : Expressions) → Placed m w.scope.names →
    length w.scope.names + place + number_of_nodes (parts_of_expressions es) ≤ m →
    AllLow m (flat_map slots_named (args_of w i place es))
args_low m w i place no_expr p h = tt
args_low m w i place (an_expr e es) p h =
    let n = both_nodes (parts_of_expression e) (parts_of_expressions es) in
    let a = expr_size w 0 e in
    both_low m (slots_named (arg_of w i place e)) (flat_map slots_named (args_of w i (suc place) es))
    (kept_low m w i place e p (omega (arith, h)))
    (args_low m w i (suc place) es p (omega (arith, h, n, a)))

kept_fits : (m : ℕ) (w : Where) (i : Name) (place : ℕ) (types : List StaticType) (es : Expressions) → Placed m w.scope.names →
    length w.scope.names + place + number_of_nodes (parts_of_expressions es) ≤ m →
    Fits m (kept_code w i place types es)
kept_fits m w i place types no_expr p h = tt
kept_fits m w i place types (an_expr e es) p h =
    let n = both_nodes (parts_of_expression e) (parts_of_expressions es) in
    let a = expr_size w 0 e in
    let low = spare_low m w place (omega (arith, h)) in
    let code = expr_fits m w 0 e p (omega (arith, h, n)) in
    let here = either_fits m (is_fixed i e) (fixed_code w place (first_type types) e) empty
    (code, (converted_fits m w (typed w e) (first_type types), low)) tt in
    (here, kept_fits m w i (suc place) (other_types types) es p (omega (arith, h, n, a)))

pub launch_fits : (m : ℕ) (w inner : Where) (i : Name) (b : Bool) (body : Block) (points : Piece) → Fits m points →
    Placed m inner.scope.names → length inner.scope.names + number_of_nodes (parts_of_block body) ≤ m →
    IsLow m (beside w (new_place w)) → Fits m (in_one_step w inner i (cond b (one_call body) None) points)
launch_fits m w inner i b body points h p few s = either_way (Fits m) w inner i b body points h
    (λ c is. let own = on_line inner c.line in
    let types = params_at inner.tree inner.scope (task_named inner.tree c.task) c.args in
    let n = both_nodes (parts_of_expressions c.args) [] in
    let whole = subst (λ (x : Block). length inner.scope.names + number_of_nodes (parts_of_block x) ≤ m) is few in
    let args = args_low m own i 0 c.args p (omega (arith, whole, n)) in
    let named = beside w (new_place w) ∷ flat_map slots_named (args_of own i 0 c.args) in
    (kept_fits m own i 0 types c.args p (omega (arith, whole, n)), all_low m named (s, args)))
