-- A forest stays one where roots and partitions are added.
use Rattle.std.specs.Prelude.{None, Some}
use Rattle.std.proofs.Common.{◌≡◌, ◌<◌, ◌≤◌, ◌+◌, ◌-◌, ◌++◌, ◌∷◌, [], ◌∙◌, ◌⊎◌, ℕ, suc, zero, Bool, true, List, inl, inr, ⊎_elim, ap, sym, refl, subst, arith, get_or, length, length-append, map, not}
use Rattle.std.proofs.lemmas.Bool.{cases_eq, cases_lt}
use Rattle.std.proofs.lemmas.List.{get_or-append-add, map-append}
use Rattle.plain_values.specs.Points.{within}
use Rattle.region_tree.proofs.Apart.{apart_from_separated}
use Rattle.region_tree.proofs.Growth.{points_of_region, tree-with_partition, tree-with_root, tree_empty, within_itself}
use Rattle.region_tree.specs.Entries.{TreeNode}
use Rattle.region_tree.specs.Kept.{DividesRegion, Grows, IsTree}
use Rattle.region_tree.specs.Paths.{child_number}
use Rattle.region_tree.specs.Refusals.{AreWithin}
use Rattle.region_tree.specs.Sharing.{AreDisjoint, set_of_colour}
use Rattle.region_tree.specs.Trees.{RegionTree, IsRegion, child_of, children, colours_in, empty_tree, is_region, no_node, node_at, partition_nodes, partition_of, path_at, points_at, points_by, points_of_content, root_at, set_at, with_partition, with_root}
use Rattle.region_tree.specs.declared.content.Content.{Content}
use Rattle.region_tree.specs.declared.content.Content.TheVariants.{Region, Partition}
use Rattle.region_tree.specs.declared.content.Node.{Node}
use Rattle.region_tree.specs.declared.path.Step.{Step}
use Rattle.region_finder.specs.Forests.{IsForest, StandsAbove, Upward, above, above_content, path_from}
use Rattle.region_forest.proofs.Above.{children_stand, last_push}
use Rattle.region_forest.specs.Standings.{IsKept, partition_standings, standing_of}
use Rattle.region_forest.specs.declared.standing.Standing.{Standing}
use Rattle.region_forest.specs.declared.standing.Standing.TheVariants as standing

-- ---- what was there stays

points_by_stays : (t u : RegionTree) → Grows t u → (c : Content) → DividesRegion t c → points_by u c ≡ points_by t c
points_by_stays t u g (Region points) d = refl
points_by_stays t u g (Partition region disjoint colours) d =
    ap (λ (x : TreeNode). points_of_content x.content) (g.same region.0 d.there)

points_stay : (t u : RegionTree) → Grows t u → IsTree t → (n : ℕ) → n < length t.nodes → points_at u n ≡ points_at t n
points_stay t u g tree n l =
    ap (λ (x : TreeNode). points_by u x.content) (g.same n l)
    ∙ points_by_stays t u g (node_at t n).content (tree.nodes n l).divides

stands_stay : (t u : RegionTree) → Grows t u → IsTree t → (n : ℕ) (s : Upward) → n < length t.nodes →
    StandsAbove t n s → StandsAbove u n s
stands_stay t u g tree n s l a =
    let m : s.0.0 < length t.nodes = omega (arith, l, a.smaller) in
    record {
      smaller = a.smaller;
      root = ap (λ (x : TreeNode). x.root) (g.same s.0.0 m) ∙ a.root ∙ ap (λ (x : TreeNode). x.root) (sym (g.same n l));
      points = ap (λ (ps : List ℕ). within ps (points_at u s.0.0)) (points_stay t u g tree n l)
          ∙ ap (within (points_at t n)) (points_stay t u g tree s.0.0 m) ∙ a.points;
      path = ap (λ (x : TreeNode). x.path) (g.same n l) ∙ a.path
          ∙ ap (λ (x : TreeNode). path_from x.content (path_at t s.0.0) s) (sym (g.same n l))
          ∙ ap (λ (x : TreeNode). path_from (node_at u n).content x.path s) (sym (g.same s.0.0 m));
      kind = ap (λ (x : TreeNode). is_region x.content) (g.same s.0.0 m) ∙ a.kind
          ∙ ap (λ (x : TreeNode). not (is_region x.content)) (sym (g.same n l));
    }

above_stays : (t u : RegionTree) → Grows t u → (n : ℕ) → n < length t.nodes → above u n ≡ above t n
above_stays t u g n l = ap (λ (x : TreeNode). above_content x.content x.path) (g.same n l)

-- ---- what is new

pub record IsNew (t u : RegionTree) (n : ℕ) : Type 0 where
  pub behind : length t.nodes ≤ n
  pub there : n < length u.nodes

-- what is so of the new nodes of a tree: they stand as asked, and of one new root at most
pub record BringsForest (t u : RegionTree) : Type 0 where
  pub upward : (n : ℕ) (s : Upward) → IsNew t u n → above u n ≡ Some s → StandsAbove u n s
  pub one_root : (a b : ℕ) → IsNew t u a → IsNew t u b → above u a ≡ None → above u b ≡ None → a ≡ b
  pub own_root : (n : ℕ) → IsNew t u n → above u n ≡ None → root_at u n ≡ t.roots
  pub rooted : (n : ℕ) → IsNew t u n → root_at u n < u.roots

module _ (t u : RegionTree) (standings : List Standing) (k : IsKept t standings) (g : Grows t u) (tree : IsTree u) (b : BringsForest t u) where
  old_or_new : (n : ℕ) → n < length u.nodes → (n < length t.nodes) ⊎ IsNew t u n
  old_or_new n l = ⊎_elim (λ o. inl o) (λ o. inr (record { behind = o; there = l })) (cases_lt n (length t.nodes))

  old_root : (n : ℕ) → n < length t.nodes → root_at u n < t.roots
  old_root n l = subst (λ (x : TreeNode). x.root < t.roots) (sym (g.same n l)) (k.rooted n l)

  not_both : {A : Type 0} (m n : ℕ) → m < length t.nodes → IsNew t u n → above u n ≡ None → root_at u m ≡ root_at u n → A
  not_both m n l new e same = absurd (omega (arith, old_root m l, b.own_root n new e, same))

  forest_grown : IsForest u
  forest_grown = record {
    upward = λ n s l e. ⊎_elim
        (λ o. stands_stay t u g k.tree n s o (k.forest.upward n s o (sym (above_stays t u g n o) ∙ e)))
        (λ o. b.upward n s o e) (old_or_new n l);
    roots = λ x y l m e f same. ⊎_elim
        (λ o. ⊎_elim
        (λ p. k.forest.roots x y o p (sym (above_stays t u g x o) ∙ e) (sym (above_stays t u g y p) ∙ f)
        (ap (λ (x : TreeNode). x.root) (sym (g.same x o)) ∙ same ∙ ap (λ (x : TreeNode). x.root) (g.same y p)))
        (λ p. not_both x y o p f same) (old_or_new y m))
        (λ o. ⊎_elim
        (λ p. not_both y x p o e (sym same))
        (λ p. b.one_root x y o p e f) (old_or_new y m))
        (old_or_new x l);
    apart = λ x y l m e. apart_from_separated u tree x y l m e;
  }

  pub kept_grown : (more : List Standing) → standings ++ more ≡ map standing_of u.nodes → IsKept u (standings ++ more)
  kept_grown more e = record {
    tree = tree;
    forest = forest_grown;
    rooted = λ n l. ⊎_elim (λ o. omega (arith, old_root n o, g.roots)) (λ o. b.rooted n o) (old_or_new n l);
    listed = e;
  }

pub kept_empty : IsKept empty_tree []
kept_empty = record {
  tree = tree_empty;
  forest = record {
    upward = λ n s l e. absurd (omega (arith, l));
    roots = λ a b l m e f same. absurd (omega (arith, l));
    apart = λ a b l m e. absurd (omega (arith, l));
  };
  rooted = λ n l. absurd (omega (arith, l));
  listed = refl;
}

-- ---- a root

module _ (t : RegionTree) (points : List ℕ) where
  abbrev entry : TreeNode
  entry = record { root = t.roots; path = []; content = Region points }

  last_node : (n : ℕ) → IsNew t (with_root t points) n → n ≡ length t.nodes
  last_node n i = omega (arith, i.behind, i.there, length-append t.nodes (entry ∷ []))

  root_node : (n : ℕ) → IsNew t (with_root t points) n → node_at (with_root t points) n ≡ entry
  root_node n i =
      ap (node_at (with_root t points)) (let e : n ≡ length t.nodes + 0 = omega (arith, last_node n i) in e)
      ∙ get_or-append-add t.nodes (entry ∷ []) 0 no_node

  no_other : (n : ℕ) → IsNew t (with_root t points) n → above (with_root t points) n ≡ None
  no_other n i = ap (λ (x : TreeNode). above_content x.content x.path) (root_node n i)

  root_brings : BringsForest t (with_root t points)
  root_brings = record {
    upward = λ n s i e. absurd (none_some s (sym (no_other n i) ∙ e));
    one_root = λ a b i j e f. last_node a i ∙ sym (last_node b j);
    own_root = λ n i e. ap (λ (x : TreeNode). x.root) (root_node n i);
    rooted = λ n i. omega (arith, ap (λ (x : TreeNode). x.root) (root_node n i));
  }
    where
      none_some : (s : Upward) → None ≡ Some s → ⊥
      none_some s e = cc

  pub kept_root : (standings : List Standing) → IsKept t standings → Grows t (with_root t points) →
      IsKept (with_root t points) (standings ++ standing.Root ∷ [])
  kept_root standings k g =
      kept_grown t (with_root t points) standings k g (tree-with_root t points k.tree) root_brings (standing.Root ∷ [])
      (ap (λ (ss : List Standing). ss ++ standing.Root ∷ []) k.listed ∙ sym (map-append standing_of t.nodes (entry ∷ [])))

-- ---- a partition

length_children : (d : TreeNode) (p colour : ℕ) (sets : List (List ℕ)) → length (children d p colour sets) ≡ length sets
length_children d p colour [] = refl
length_children d p colour (set ∷ sets) = ap suc (length_children d p (colour + 1) sets)

child_read : (d : TreeNode) (p colour : ℕ) (sets : List (List ℕ)) (i : ℕ) → i < length sets →
    get_or (children d p colour sets) i no_node ≡ child_of d p (colour + i) (set_of_colour sets i)
child_read d p colour [] i l = absurd (omega (arith, l))
child_read d p colour (set ∷ sets) zero l =
    ap (λ (n : ℕ). child_of d p n set) (let e : colour ≡ colour + 0 = omega arith in e)
child_read d p colour (set ∷ sets) (suc i) l =
    child_read d p (colour + 1) sets i (omega (arith, l))
    ∙ ap (λ (n : ℕ). child_of d p n (set_of_colour sets i)) (let e : colour + 1 + i ≡ colour + suc i = omega arith in e)

module _ (t : RegionTree) (region : Node) (sets : List (List ℕ)) (disjoint : Bool) (tree : IsTree t)
    (divided : IsRegion t region.0) (inside : AreWithin (set_at t region.0) sets) (apart : disjoint ≡ true → AreDisjoint sets)
    (g : Grows t (with_partition t region.0 sets disjoint)) where
  abbrev d : TreeNode
  d = node_at t region.0

  abbrev p : ℕ
  p = length t.nodes

  abbrev u : RegionTree
  u = with_partition t region.0 sets disjoint

  abbrev new : List TreeNode
  new = partition_nodes d region.0 p sets disjoint

  size : length u.nodes ≡ p + 1 + length sets
  size = omega (arith, length-append t.nodes new, length_children d p 0 sets)

  grown : IsTree u
  grown = tree-with_partition t region.0 sets disjoint tree divided inside apart

  node_own : node_at u p ≡ partition_of d region.0 disjoint (length sets)
  node_own =
      ap (node_at u) (let e : p ≡ p + 0 = omega arith in e) ∙ get_or-append-add t.nodes new 0 no_node

  node_child : (i : ℕ) → i < length sets → node_at u (child_number p i) ≡ child_of d p i (set_of_colour sets i)
  node_child i l =
      ap (node_at u) (let e : p + 1 + i ≡ p + suc i = omega arith in e)
      ∙ get_or-append-add t.nodes new (suc i) no_node ∙ child_read d p 0 sets i l
      ∙ ap (λ (n : ℕ). child_of d p n (set_of_colour sets i)) (let e : 0 + i ≡ i = omega arith in e)

  is_new : (n : ℕ) → IsNew t u n → (n ≡ p) ⊎ ((i : ℕ) × (i < length sets) × (n ≡ child_number p i))
  is_new n i = ⊎_elim (λ e. inl e)
      (λ e. inr (n - p - 1, omega (arith, size, i.there, i.behind, e), omega (arith, i.behind, e)))
      (cases_eq n p)

  node_divided : node_at u region.0 ≡ d
  node_divided = g.same region.0 divided.there

  stands_own : StandsAbove u p (region, 0)
  stands_own = record {
    smaller = divided.there;
    root = ap (λ (x : TreeNode). x.root) node_divided ∙ sym (ap (λ (x : TreeNode). x.root) node_own);
    points = ap (λ (ps : List ℕ). within ps (points_at u region.0)) (ap (λ (x : TreeNode). points_by u x.content) node_own)
        ∙ ap (within (set_at u region.0)) (points_of_region u (node_at u region.0).content
        (ap (λ (x : TreeNode). is_region x.content) node_divided ∙ divided.kind))
        ∙ within_itself (set_at u region.0);
    path = ap (λ (x : TreeNode). x.path) node_own ∙ ap (λ (x : TreeNode). x.path) (sym node_divided)
        ∙ sym (ap (λ (x : TreeNode). path_from x.content (path_at u region.0) (region, 0)) node_own);
    kind = ap (λ (x : TreeNode). is_region x.content) node_divided ∙ divided.kind
        ∙ sym (ap (λ (x : TreeNode). not (is_region x.content)) node_own);
  }

  stands_child : (i : ℕ) → i < length sets → StandsAbove u (child_number p i) (record { 0 = p }, i)
  stands_child i l = record {
    smaller = omega arith;
    root = ap (λ (x : TreeNode). x.root) node_own ∙ sym (ap (λ (x : TreeNode). x.root) (node_child i l));
    points = ap (λ (ps : List ℕ). within ps (points_at u p))
        (ap (λ (x : TreeNode). points_by u x.content) (node_child i l)
        ∙ sym (ap (λ (x : TreeNode). points_of_content x.content) (node_child i l)))
        ∙ ((grown.nodes p (omega (arith, size))).children i
        (subst (λ (n : ℕ). i < n) (sym (ap (λ (x : TreeNode). colours_in x.content) node_own)) l)).inside;
    path = ap (λ (x : TreeNode). x.path) (node_child i l)
        ∙ ap (λ (ss : List Step). ss ++ record { partition = record { 0 = p }; colour = i } ∷ [])
        (sym (ap (λ (x : TreeNode). x.path) node_own))
        ∙ sym (ap (λ (x : TreeNode). path_from x.content (path_at u p) (record { 0 = p }, i)) (node_child i l));
    kind = ap (λ (x : TreeNode). is_region x.content) node_own
        ∙ sym (ap (λ (x : TreeNode). not (is_region x.content)) (node_child i l));
  }

  above_own : above u p ≡ Some (region, 0)
  above_own = ap (λ (x : TreeNode). above_content x.content x.path) node_own

  above_child : (i : ℕ) → i < length sets → above u (child_number p i) ≡ Some (record { 0 = p }, i)
  above_child i l = ap (λ (x : TreeNode). above_content x.content x.path) (node_child i l)
      ∙ last_push d.path (record { partition = record { 0 = p }; colour = i })

  -- what stands above a new node
  above_new : (n : ℕ) → IsNew t u n → (s : Upward) × (above u n ≡ Some s) × StandsAbove u n s
  above_new n i = ⊎_elim
      (λ e. ((region, 0), ap (above u) e ∙ above_own, subst (λ (m : ℕ). StandsAbove u m (region, 0)) (sym e) stands_own))
      (λ c. (
        (record { 0 = p }, c.0),
        ap (above u) c.2 ∙ above_child c.0 c.1,
        subst (λ (m : ℕ). StandsAbove u m (record { 0 = p }, c.0)) (sym c.2) (stands_child c.0 c.1),
      ))
      (is_new n i)

  never_none : {A : Type 0} (n : ℕ) → IsNew t u n → above u n ≡ None → A
  never_none n i e = let at = above_new n i in absurd (some_none at.0 (sym at.1 ∙ e))
    where
      some_none : (s : Upward) → Some s ≡ None → ⊥
      some_none s e = cc

  root_new : (n : ℕ) → IsNew t u n → root_at u n ≡ d.root
  root_new n i = ⊎_elim
      (λ e. ap (root_at u) e ∙ ap (λ (x : TreeNode). x.root) node_own)
      (λ c. ap (root_at u) c.2 ∙ ap (λ (x : TreeNode). x.root) (node_child c.0 c.1))
      (is_new n i)

  partition_brings : d.root < t.roots → BringsForest t u
  partition_brings r = record {
    upward = λ n s i e. let at = above_new n i in
        subst (StandsAbove u n) (same at.0 s (sym at.1 ∙ e)) at.2;
    one_root = λ a b i j e f. never_none a i e;
    own_root = λ n i e. never_none n i e;
    rooted = λ n i. omega (arith, r, root_new n i);
  }
    where
      same : (s r : Upward) → Some s ≡ Some r → s ≡ r
      same s r e = cc

  pub kept_partition : (standings : List Standing) → IsKept t standings →
      IsKept (with_partition t region.0 sets disjoint) (standings ++ partition_standings region (record { 0 = length t.nodes }) (length sets))
  kept_partition standings k =
      kept_grown t u standings k g grown (partition_brings (k.rooted region.0 divided.there))
      (partition_standings region (record { 0 = p }) (length sets))
      (ap (λ (ss : List Standing). ss ++ partition_standings region (record { 0 = p }) (length sets)) k.listed
      ∙ ap (λ (ss : List Standing). map standing_of t.nodes ++ standing.Partition region ∷ ss) (sym (children_stand d p 0 sets))
      ∙ sym (map-append standing_of t.nodes new))
