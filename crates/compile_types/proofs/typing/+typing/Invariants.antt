use Rattle.std.proofs.Common.{◌≡◌, drop}
use Rattle.regent_tree.specs.Plain.{links_in}
use Rattle.regent_tree.specs.Typing.{linked_type}
use Rattle.compile_types.specs.Here.{where_of}
use Rattle.compile_types.proofs.typing.+typing.Given as goal

abbrev pub invariant-linked_type-loop-link : goal.invariant-linked_type-loop-link
invariant-linked_type-loop-link l =
    linked_type (where_of l.here).tree (where_of l.here).scope l.left (links_in (drop l.link-index l.rest))
    ≡ linked_type (where_of l.here).tree (where_of l.here).scope l.fn.first (links_in l.rest)
