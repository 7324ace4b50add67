-- Parts that go back, of all roots that are there.
use Rattle.std.proofs.Common.{◌∙◌, sym}
use Rattle.code_boards.specs.Laws.{machine_of}
use Rattle.given_trees.proofs.Maps.{parts_live}
use Rattle.given_trees.proofs.PutBack.{holds_behind}
use Rattle.given_trees.specs.Parts.{PartsShow}

pub parts_show : PartsShow
parts_show job extents who makings live m roots ps qs made below held parts held_ps fitting once root e =
    holds_behind job extents who makings made live m roots below (machine_of job makings) ps qs parts held_ps fitting once root
    (held root (sym (parts_live qs live root) ∙ e))
