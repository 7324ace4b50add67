use Rattle.std.proofs.Common.{refl}
use Rattle.regent_tree.proofs.Rows.{expressions_of_vec}
use Rattle.compile_statements.proofs.variables.begin_plain.Goals as goal

pub begin_call-requires : goal.begin_call-requires
begin_call-requires c = rw (c.requires, c.in-Call.is, expressions_of_vec c.in-Call.args, ← c.as_slice.ensures.value) refl

pub returns-in-Call : goal.returns-in-Call
returns-in-Call c =
    rw (c.in-Call.is, expressions_of_vec c.in-Call.args, ← c.as_slice.ensures.value) c.begin_call.ensures
