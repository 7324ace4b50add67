-- Paths from a root down to a node.
use Rattle.std.specs.Prelude.{ℕ, Bool, ◌+◌, ◌≡◌, ◌≢◌, ◌++◌, ◌==◌, List, [], ◌∷◌, Option, Some}
use Rattle.std.specs.Prelude.{None, cond}
use Rattle.region_tree.specs.declared.content.Node.{Node}
use Rattle.region_tree.specs.declared.path.Step.{Step}

-- the child of a partition by a colour: the children come right behind the partition, by colour
abbrev pub child_number : ℕ → ℕ → ℕ
child_number p colour = p + 1 + colour

-- whether a step leads to a node
abbrev pub steps_to : ℕ → Step → Bool
steps_to n s = child_number s.partition.0 s.colour == n

-- the partition at different colours of which two paths first part
abbrev pub parting : List Step → List Step → Option Node
parting [] ts = None
parting (s ∷ ss) [] = None
parting (s ∷ ss) (t ∷ ts) =
    cond (s.partition.0 == t.partition.0)
    (cond (s.colour == t.colour) (parting ss ts) (Some s.partition))
    None

-- that two paths are the same up to there, and then go on by different colours of the partition
pub record PartAt (p : Node) (ss ts : List Step) : Type 0 where
  pub shared : List Step
  pub one : Step
  pub other : Step
  pub rest : List Step
  pub other_rest : List Step
  pub first_path : ss ≡ shared ++ one ∷ rest
  pub second_path : ts ≡ shared ++ other ∷ other_rest
  pub of_one : one.partition ≡ p
  pub of_other : other.partition ≡ p
  pub colours : one.colour ≢ other.colour
