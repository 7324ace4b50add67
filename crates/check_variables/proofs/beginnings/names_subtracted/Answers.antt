use Rattle.regent_tree.proofs.Rows.{links_of_vec}
use Rattle.check_variables.proofs.beginnings.names_subtracted.Goals as goal

pub returns-in-Chain-clause-found : goal.returns-in-Chain-clause-found
returns-in-Chain-clause-found c =
    rw (
      c.in-Chain.is,
      links_of_vec c.in-Chain.rest,
      ← c.deref.ensures,
      ← c.as_slice.ensures.value,
      ← c.name_alone.ensures,
      ← c.name_taken_off.ensures,
    )
    c.two_names.ensures.found

pub returns-in-Chain-clause-missing : goal.returns-in-Chain-clause-missing
returns-in-Chain-clause-missing c =
    rw (
      c.in-Chain.is,
      links_of_vec c.in-Chain.rest,
      ← c.deref.ensures,
      ← c.as_slice.ensures.value,
      ← c.name_alone.ensures,
      ← c.name_taken_off.ensures,
    )
    c.two_names.ensures.missing
