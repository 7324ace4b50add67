use Rattle.std.proofs.Common.{refl}
use Rattle.regent_tree.proofs.Rows.{expressions_of_vec}
use Rattle.compile_forms.proofs.forms.assign_name.Goals as goal

pub assign_call-requires : goal.assign_call-requires
assign_call-requires c = rw (c.in-Call.is, expressions_of_vec c.in-Call.args, ← c.as_slice.ensures.value) refl

pub returns-in-Call : goal.returns-in-Call
returns-in-Call c =
    rw (c.in-Call.is, expressions_of_vec c.in-Call.args, ← c.as_slice.ensures.value) c.assign_call.ensures
