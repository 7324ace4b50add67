-- What stands above a node, by how it stands.
use Rattle.std.specs.Prelude.{None, Option, Some}
use Rattle.std.proofs.Common.{◌≡◌, ◌+◌, ◌++◌, ◌∷◌, [], ◌∙◌, ℕ, suc, zero, List, ap, refl, arith, length, map}
use Rattle.region_tree.specs.Entries.{TreeNode}
use Rattle.region_tree.specs.Trees.{child_of, children, is_region}
use Rattle.region_tree.specs.declared.content.Content.{Content}
use Rattle.region_tree.specs.declared.content.Content.TheVariants.{Region, Partition}
use Rattle.region_tree.specs.declared.content.Node.{Node}
use Rattle.region_tree.specs.declared.path.Step.{Step}
use Rattle.region_finder.specs.Forests.{Upward, above_content, last_step}
use Rattle.region_forest.specs.Standings.{above_by, child_standings, is_region_by, standing_by, standing_of}
use Rattle.region_forest.specs.declared.standing.Standing.{Standing}
use Rattle.region_forest.specs.declared.standing.Standing.TheVariants.{Child}

pub last_push : (ss : List Step) (s : Step) → last_step (ss ++ s ∷ []) ≡ Some (s.partition, s.colour)
last_push [] s = refl
last_push (x ∷ []) s = refl
last_push (x ∷ y ∷ ss) s = last_push (y ∷ ss) s

above_region : (points : List ℕ) (o : Option Upward) → above_by (standing_by (Region points) o) ≡ o
above_region points None = refl
above_region points (Some s) = refl

above_tells : (c : Content) (path : List Step) → above_by (standing_by c (last_step path)) ≡ above_content c path
above_tells (Region points) path = above_region points (last_step path)
above_tells (Partition region disjoint colours) path = refl

pub above_stands : (x : TreeNode) → above_by (standing_of x) ≡ above_content x.content x.path
above_stands x = above_tells x.content x.path

-- the children of a partition
pub children_stand : (d : TreeNode) (p : ℕ) (colour : ℕ) (sets : List (List ℕ)) →
    map standing_of (children d p colour sets) ≡ child_standings (record { 0 = p }) colour (length sets)
children_stand d p colour [] = refl
children_stand d p colour (set ∷ sets) =
    ap (λ (s : Standing). s ∷ map standing_of (children d p (colour + 1) sets)) first
    ∙ ap (λ (ss : List Standing). Child (record { 0 = p }) colour ∷ ss) (children_stand d p (colour + 1) sets)
  where
    first : standing_of (child_of d p colour set) ≡ Child (record { 0 = p }) colour
    first = ap (standing_by (Region set)) (last_push d.path (record { partition = record { 0 = p }; colour = colour }))

pub children_push : (p : Node) (colour k : ℕ) →
    child_standings p colour (k + 1) ≡ child_standings p colour k ++ Child p (colour + k) ∷ []
children_push p colour zero =
    ap (λ (n : ℕ). Child p n ∷ []) (let e : colour ≡ colour + 0 = omega arith in e)
children_push p colour (suc k) =
    ap (child_standings p colour) (let e : suc k + 1 ≡ suc (k + 1) = omega arith in e)
    ∙ ap (λ (ss : List Standing). Child p colour ∷ ss) (children_push p (colour + 1) k)
    ∙ ap (λ (n : ℕ). Child p colour ∷ child_standings p (colour + 1) k ++ Child p n ∷ [])
    (let e : colour + 1 + k ≡ colour + suc k = omega arith in e)

-- ---- whether a node is a region

region_by : (c : Content) (o : Option Upward) → is_region_by (standing_by c o) ≡ is_region c
region_by (Region points) None = refl
region_by (Region points) (Some s) = refl
region_by (Partition region disjoint colours) o = refl

pub region_stands : (x : TreeNode) → is_region_by (standing_of x) ≡ is_region x.content
region_stands x = region_by x.content (last_step x.path)
