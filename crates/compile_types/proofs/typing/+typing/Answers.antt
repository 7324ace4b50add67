use Rattle.regent_tree.proofs.Rows.{links_of_vec, steps_of_vec}
use Rattle.compile_types.proofs.typing.+typing.Goals as goal

pub type_of-returns-in_ok-left-in-Chain : goal.type_of-returns-in_ok-left-in-Chain
type_of-returns-in_ok-left-in-Chain t c =
    rw (
      c.in-Chain.is,
      links_of_vec c.in-Chain.rest,
      ← c.deref.ensures,
      ← c.as_slice.ensures.value,
      ← c.in_ok-left-in-Chain.ensures,
    )
    c.linked_type.ensures

pub type_of-returns-in-Access : goal.type_of-returns-in-Access
type_of-returns-in-Access t c =
    rw (c.in-Access.is, steps_of_vec c.in-Access.steps, ← c.as_slice-in-Access.ensures.value)
    c.access_type.ensures
