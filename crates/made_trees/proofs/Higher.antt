-- What stands above the nodes of a tree that has grown: it has a smaller number, and all of a node's points.
use Rattle.std.proofs.Common.{◌≡◌, ◌<◌, ◌+◌, ◌-◌, ◌++◌, ◌∷◌, ◌∙◌, ⊎_elim, ℕ, suc, Bool, List, Some, [], ap, arith, length, refl, subst, sym, true}
use Rattle.std.specs.Prelude.{All, get_or}
use Rattle.std.specs.List.{list_all}
use Rattle.std.proofs.Math.Seq.{get_or-append_seam}
use Rattle.std.proofs.lemmas.Bool.{and_parts, cases_eq, cases_lt}
use Rattle.std.proofs.lemmas.List.{get_or-append_right, get_or_append_left, length-append}
use Rattle.std.proofs.lemmas.List.Elements.{All-cons, All-get_or, All-nil}
use Rattle.std.proofs.lemmas.Option.{none-some, same_Some}
use Rattle.plain_values.specs.Points.{within}
use Rattle.region_finder.specs.Forests.{Upward, above, above_content, last_step}
use Rattle.region_tree.specs.Entries.{TreeNode}
use Rattle.region_tree.specs.Trees.{RegionTree, child_of, children, no_node, node_at, partition_nodes, partition_of, points_at, points_by, points_of_content, set_at, with_partition, with_root}
use Rattle.region_tree.specs.declared.content.Content.{Content}
use Rattle.region_tree.specs.declared.content.Content.TheVariants.{Partition, Region}
use Rattle.region_tree.specs.declared.path.Step.{Step}
use Rattle.region_tree.proofs.Growth.{within_itself}

abbrev pub StandsWell : RegionTree → ℕ → Type 0
StandsWell t n = (u : Upward) → above t n ≡ Some u → (u.0.0 < n) × (within (points_at t n) (points_at t u.0.0) ≡ true)

-- ---- nodes that were there

module _ (t v : RegionTree) (same : (n : ℕ) → n < length t.nodes → node_at v n ≡ node_at t n) (all : (n : ℕ) → n < length t.nodes → StandsWell t n) where
  points_same : (n : ℕ) → n < length t.nodes → points_at v n ≡ points_at t n
  points_same n l = ap (λ (x : TreeNode). points_by v x.content) (same n l) ∙ by_content (node_at t n).content refl
    where
      by_content : (c : Content) → (node_at t n).content ≡ c → points_by v c ≡ points_by t c
      by_content (Region xs) e = refl
      by_content (Partition region disjoint colours) e =
          let less = (all n l (region, 0) (ap (λ c. above_content c (node_at t n).path) e)).0 in
          ap (λ (x : TreeNode). points_of_content x.content) (same region.0 (omega (arith, l, less)))

  pub stands_still : (n : ℕ) → n < length t.nodes → StandsWell v n
  stands_still n l u e =
      let q = all n l u (sym (ap (λ (x : TreeNode). above_content x.content x.path) (same n l)) ∙ e) in
      (q.0, (λ i. within (points_same n l i) (points_same u.0.0 (omega (arith, l, q.0)) i)) ∙ q.1)

-- ---- a root

pub stands_with_root : (t : RegionTree) (points : List ℕ) → ((n : ℕ) → n < length t.nodes → StandsWell t n) → (n : ℕ) → n < length (with_root t points).nodes → StandsWell (with_root t points) n
stands_with_root t points all n l = ⊎_elim
    (λ o. stands_still t (with_root t points) (λ n l. get_or_append_left t.nodes (record { root = t.roots; path = []; content = Region points } ∷ []) no_node n l) all n o)
    (λ o u e.
    let here : n ≡ length t.nodes = omega (arith, l, o, length-append t.nodes (record { root = t.roots; path = []; content = Region points } ∷ [])) in
    absurd (none-some u (sym (ap (above (with_root t points)) here ∙ ap (λ (x : TreeNode). above_content x.content x.path) (get_or-append_seam t.nodes (record { root = t.roots; path = []; content = Region points }) [] no_node)) ∙ e)))
    (cases_lt n (length t.nodes))

-- ---- a partition

last_of : (ss : List Step) (s : Step) → last_step (ss ++ s ∷ []) ≡ Some (s.partition, s.colour)
last_of [] s = refl
last_of (x ∷ []) s = refl
last_of (x ∷ y ∷ ss) s = last_of (y ∷ ss) s

module _ (t : RegionTree) (region : ℕ) (sets : List (List ℕ)) (disjoint : Bool) (all : (n : ℕ) → n < length t.nodes → StandsWell t n) (there : region < length t.nodes)
    (xs : List ℕ) (content_is : (node_at t region).content ≡ Region xs) (inside : list_all (λ ys. within ys (set_at t region)) sets ≡ true) where
  abbrev v : RegionTree
  v = with_partition t region sets disjoint

  abbrev p : ℕ
  p = length t.nodes

  abbrev divided : TreeNode
  divided = node_at t region

  abbrev own_node : TreeNode
  own_node = partition_of divided region disjoint (length sets)

  same : (n : ℕ) → n < p → node_at v n ≡ node_at t n
  same n l = get_or_append_left t.nodes (partition_nodes divided region p sets disjoint) no_node n l

  node_own : node_at v p ≡ own_node
  node_own = get_or-append_seam t.nodes own_node (children divided p 0 sets) no_node

  points_region : points_at v region ≡ set_at t region
  points_region = ap (λ (x : TreeNode). points_by v x.content) (same region there) ∙ ap (points_by v) content_is ∙ sym (ap points_of_content content_is)

  points_own : points_at v p ≡ set_at t region
  points_own = ap (λ (x : TreeNode). points_by v x.content) node_own ∙ ap (λ (x : TreeNode). points_of_content x.content) (same region there)

  own_stands : StandsWell v p
  own_stands u e = subst (λ (u : Upward). (u.0.0 < p) × (within (points_at v p) (points_at v u.0.0) ≡ true))
      (same_Some (record { 0 = region }, 0) u (sym (ap (λ (x : TreeNode). above_content x.content x.path) node_own) ∙ e))
      (there, (λ i. within (points_own i) (points_region i)) ∙ within_itself (set_at t region))

  -- a child is below the partition
  abbrev IsPart : TreeNode → Type 0
  IsPart x = (u : Upward) → above_content x.content x.path ≡ Some u → (u.0.0 ≡ p) × (within (points_by v x.content) (set_at t region) ≡ true)

  all_parts : (c : ℕ) (rest : List (List ℕ)) → list_all (λ ys. within ys (set_at t region)) rest ≡ true → All IsPart (children divided p c rest)
  all_parts c [] e = All-nil IsPart
  all_parts c (ys ∷ rest) e =
      let parts = and_parts (within ys (set_at t region)) (list_all (λ ys. within ys (set_at t region)) rest) e in
      All-cons IsPart (child_of divided p c ys) (children divided p (c + 1) rest)
      (λ u q. (ap (λ (x : Upward). x.0.0) (same_Some u (record { 0 = p }, c) (sym q ∙ last_of divided.path (record { partition = record { 0 = p }; colour = c }))), parts.0))
      (all_parts (c + 1) rest parts.1)

  child_stands : (n : ℕ) → p < n → n < length v.nodes → StandsWell v n
  child_stands n b l u e =
      let long = length-append t.nodes (partition_nodes divided region p sets disjoint) in
      let at : n - p ≡ suc (n - p - 1) = omega (arith, b) in
      let found : node_at v n ≡ get_or (children divided p 0 sets) (n - p - 1) no_node =
      get_or-append_right t.nodes (partition_nodes divided region p sets disjoint) p n no_node refl (omega (arith, b))
      ∙ ap (λ i. get_or (partition_nodes divided region p sets disjoint) i no_node) at in
      let q = All-get_or IsPart (children divided p 0 sets) (n - p - 1) no_node (omega (arith, l, long, b)) (all_parts 0 sets inside) u
      (sym (ap (λ (x : TreeNode). above_content x.content x.path) found) ∙ e) in (
        omega (arith, q.0, b),
        (λ i. within (ap (λ (x : TreeNode). points_by v x.content) found i) ((ap (points_at v) q.0 ∙ points_own) i)) ∙ q.1,
      )

  pub stands_with_partition : (n : ℕ) → n < length v.nodes → StandsWell v n
  stands_with_partition n l = ⊎_elim
      (λ o. stands_still t v same all n o)
      (λ o. ⊎_elim
      (λ e. subst (StandsWell v) (sym e) own_stands)
      (λ d. child_stands n (omega (arith, o, d)) l)
      (cases_eq n p))
      (cases_lt n p)
