-- The nodes of region trees.
use Rattle.std.specs.Prelude.{ℕ, List}
use Rattle.region_tree.specs.declared.content.Content.{Content}
use Rattle.region_tree.specs.declared.path.Step.{Step}

-- a node of a region tree: the number of its root, the steps of the path from there to it, and what
-- it is. The path of a partition is that of the region which it divides
pub record TreeNode : Type 0 where
  pub root : ℕ
  pub path : List Step
  pub content : Content
