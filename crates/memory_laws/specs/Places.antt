-- Roots by their places in a store, and by their numbers in a run in order.
use Rattle.std.specs.Prelude.{ℕ, ℤ, List, [], Bool, get_or, map, ◌==◌, ◌&&◌}
use Rattle.machine_terms.specs.declared.order.Contents.{Contents}
use Rattle.machine_terms.specs.declared.order.Root.{Root}
use Rattle.machine_terms.specs.Contents.{image_of}

-- the numbers of the roots that are there, in their order: the place of a root in a store is its
-- place among them
abbrev pub numbers : Contents → List ℕ
numbers contents = map (λ (r : Root). r.id.0) contents.roots

-- the number of the root at a place; at a place without one, the number of the next root
abbrev pub number_at : Contents → ℕ → ℕ
number_at contents place = get_or (numbers contents) place contents.made

-- the numbers that a field of a root keeps
abbrev pub column_of : Contents → ℕ → ℕ → List ℤ
column_of contents root field = get_or (image_of contents root).fields field []

-- whether two are one, each a root, a field and a point
abbrev pub is_same : ℕ → ℕ → ℕ → ℕ → ℕ → ℕ → Bool
is_same root field point r f p = (root == r) && (field == f) && (point == p)
