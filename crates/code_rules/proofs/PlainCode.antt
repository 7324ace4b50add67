-- The code of a variable's value is a difference of partitions, or else that of its expression, with a written type converted.
use Rattle.std.proofs.Common.{ℕ, Bool}
use Rattle.regent_tree.specs.Syntax.{Name, Expression, number_expr, truth_expr, chain_expr, prefix_expr, call_expr, access_expr, convert_expr, is_null_expr, null_expr, cast_expr, space_expr, Links, no_link, a_link, no_step, field_step, at_step}
use Rattle.regent_tree.specs.declared.expression.Arithmetic.TheVariants.{Add, Subtract, Multiply, Divide, Remainder}
use Rattle.regent_tree.specs.declared.expression.Operator.TheVariants.{And, Or, Compare, Compute}
use Rattle.regent_tree.specs.declared.typing.StaticType.{StaticType}
use Rattle.regent_tree.specs.declared.typing.StaticType.TheVariants as type
use Rattle.task_code.specs.declared.instr.Instr.TheVariants as instr
use Rattle.code_rules.specs.Expressions.{expr_code}
use Rattle.code_rules.specs.Initializers.{beside_code, plain_code, written_code}
use Rattle.code_rules.specs.Instructions.{converted_code, one}
use Rattle.code_rules.specs.Pieces.{Piece, ◌⨟◌}
use Rattle.code_rules.specs.Slots.{Where, slot_bound, slot_named, typed}

-- what holds of both codes holds of the value's
abbrev IsEither : Where → StaticType → Expression → Type 1
IsEither w t e = (P : Piece → Type 0) → P (expr_code w 0 e ⨟ beside_code w t e) →
    ((p q : Name) (i : ℕ) → P (one w (instr.Minus (slot_named w p) (slot_named w q) (slot_bound w i)))) →
    P (plain_code w t e)

-- a difference, or what only begins as one
taken_either : (w : Where) (d : Bool) (r own : ℕ) (p : Name) (e : Expression) (more : Links) →
    IsEither w (type.Partition d r own) (chain_expr (access_expr p no_step) (a_link (Compute Subtract) e more))
taken_either w d r own p (number_expr z v) more P g h = g
taken_either w d r own p (truth_expr b) more P g h = g
taken_either w d r own p (chain_expr first others) more P g h = g
taken_either w d r own p (prefix_expr signs e) more P g h = g
taken_either w d r own p (call_expr task args) more P g h = g
taken_either w d r own p (convert_expr k e) more P g h = g
taken_either w d r own p (is_null_expr e) more P g h = g
taken_either w d r own p (null_expr k) more P g h = g
taken_either w d r own p (cast_expr k e) more P g h = g
taken_either w d r own p (space_expr k e) more P g h = g
taken_either w d r own p (access_expr q (field_step f rest)) more P g h = g
taken_either w d r own p (access_expr q (at_step e rest)) more P g h = g
taken_either w d r own p (access_expr q no_step) no_link P g h = h p q r
taken_either w d r own p (access_expr q no_step) (a_link o e more) P g h = g

linked_either : (w : Where) (d : Bool) (r own : ℕ) (p : Name) (rest : Links) →
    IsEither w (type.Partition d r own) (chain_expr (access_expr p no_step) rest)
linked_either w d r own p no_link P g h = g
linked_either w d r own p (a_link Or e more) P g h = g
linked_either w d r own p (a_link And e more) P g h = g
linked_either w d r own p (a_link (Compare c) e more) P g h = g
linked_either w d r own p (a_link (Compute Add) e more) P g h = g
linked_either w d r own p (a_link (Compute Multiply) e more) P g h = g
linked_either w d r own p (a_link (Compute Divide) e more) P g h = g
linked_either w d r own p (a_link (Compute Remainder) e more) P g h = g
linked_either w d r own p (a_link (Compute Subtract) e more) P g h = taken_either w d r own p e more P g h

chained_either : (w : Where) (d : Bool) (r own : ℕ) (first : Expression) (rest : Links) →
    IsEither w (type.Partition d r own) (chain_expr first rest)
chained_either w d r own (number_expr z v) rest P g h = g
chained_either w d r own (truth_expr b) rest P g h = g
chained_either w d r own (chain_expr before others) rest P g h = g
chained_either w d r own (prefix_expr signs e) rest P g h = g
chained_either w d r own (call_expr task args) rest P g h = g
chained_either w d r own (convert_expr k e) rest P g h = g
chained_either w d r own (is_null_expr e) rest P g h = g
chained_either w d r own (null_expr k) rest P g h = g
chained_either w d r own (cast_expr k e) rest P g h = g
chained_either w d r own (space_expr k e) rest P g h = g
chained_either w d r own (access_expr p no_step) rest P g h = linked_either w d r own p rest P g h
chained_either w d r own (access_expr p (field_step f steps)) rest P g h = g
chained_either w d r own (access_expr p (at_step e steps)) rest P g h = g

partition_either : (w : Where) (d : Bool) (r own : ℕ) (e : Expression) → IsEither w (type.Partition d r own) e
partition_either w d r own (number_expr z v) P g h = g
partition_either w d r own (truth_expr b) P g h = g
partition_either w d r own (chain_expr first rest) P g h = chained_either w d r own first rest P g h
partition_either w d r own (prefix_expr signs e) P g h = g
partition_either w d r own (call_expr task args) P g h = g
partition_either w d r own (convert_expr k e) P g h = g
partition_either w d r own (is_null_expr e) P g h = g
partition_either w d r own (null_expr k) P g h = g
partition_either w d r own (cast_expr k e) P g h = g
partition_either w d r own (space_expr k e) P g h = g
partition_either w d r own (access_expr n steps) P g h = g

pub plain_either : (w : Where) (t : StaticType) (e : Expression) → IsEither w t e
plain_either w (type.Integer v) e P g h = g
plain_either w type.Truth e P g h = g
plain_either w (type.Index k) e P g h = g
plain_either w (type.Pointer k sp args rs) e P g h = g
plain_either w (type.Ispace k) e P g h = g
plain_either w (type.Region k sp args r) e P g h = g
plain_either w type.Nothing e P g h = g
plain_either w type.Unknown e P g h = g
plain_either w (type.Partition d r own) e P g h = partition_either w d r own e P g h

-- so of one of a written type
pub written_either : (w : Where) (t : StaticType) (e : Expression) (P : Piece → Type 0) → P (plain_code w t e) →
    P (expr_code w 0 e ⨟ converted_code w (typed w e) t) → P (written_code w t e)
written_either w (type.Integer v) e P g h = h
written_either w type.Truth e P g h = h
written_either w (type.Index k) e P g h = h
written_either w (type.Pointer k sp args rs) e P g h = h
written_either w (type.Ispace k) e P g h = h
written_either w (type.Region k sp args r) e P g h = h
written_either w type.Nothing e P g h = h
written_either w type.Unknown e P g h = h
written_either w (type.Partition d r own) e P g h = g
