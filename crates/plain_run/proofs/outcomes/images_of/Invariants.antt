use Rattle.std.proofs.Common.{◌≡◌, ◌++◌, drop, map}
use Rattle.region_tree.specs.declared.tree.RootId.{RootId}
use Rattle.machine_terms.specs.Contents.{image_of}
use Rattle.plain_run.proofs.outcomes.images_of.Given as goal

abbrev pub invariant-loop-id : goal.invariant-loop-id
invariant-loop-id l =
    l.images.items ++ map (λ (r : RootId). image_of l.contents r.0) (drop l.id-index l.own)
    ≡ map (λ (r : RootId). image_of l.contents r.0) l.own
