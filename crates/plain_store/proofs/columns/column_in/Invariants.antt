use Rattle.std.proofs.Common.{◌≡◌, drop}
use Rattle.machine_terms.specs.Contents.{image_in}
use Rattle.plain_store.proofs.columns.column_in.Given as goal

abbrev pub invariant-loop-held : goal.invariant-loop-held
invariant-loop-held l = image_in (drop l.held-index l.roots) l.root.0 ≡ image_in l.roots l.root.0
