use Rattle.std.proofs.Common.{◌≡◌, ◌++◌, drop}
use Rattle.plain_run.proofs.copies.copy_images.Given as goal

abbrev pub invariant-loop-image : goal.invariant-loop-image
invariant-loop-image l = l.copy ++ drop l.image-index l.images ≡ l.images
