-- The tree of regions where nodes come behind all: those that were there stay.
use Rattle.std.proofs.Common.{◌≡◌, ℕ, zero, suc, ◌<◌, ◌+◌, List, [], ◌∷◌, ◌++◌, refl, sym, ap, ◌∙◌, subst, arith, length, get_or, Bool}
use Rattle.std.proofs.lemmas.List.{get_or_append_left, get_or-append-add, length-append, map-append}
use Rattle.lane_kernels.specs.declared.numbers.Mode.TheVariants.{Write}
use Rattle.region_tree.specs.Entries.{TreeNode}
use Rattle.region_tree.specs.Needs.{requirement_of, requirements_of}
use Rattle.region_tree.specs.declared.content.Content.TheVariants.{Region}
use Rattle.region_tree.specs.Trees.{RegionTree, no_node, points_of_content, set_at, with_partition, with_root}
use Rattle.region_tree.specs.declared.needs.Need.{Need}
use Rattle.region_tree.specs.declared.tree.RootId.{RootId}
use Rattle.machine_terms.specs.Makes.{root_requirements}
use Rattle.board_terms.specs.Makes.{needs_of_root}
use Rattle.fit_rules.specs.Shapes.{Each}
use Rattle.fit_boards.proofs.Staying.{NodesStay}

pub nodes_more : (t v : RegionTree) (more : List TreeNode) → v.nodes ≡ t.nodes ++ more → NodesStay t v
nodes_more t v more e n l = (
  subst (λ ns. n < length ns) (sym e) (let m = length-append t.nodes more in omega (arith, l, m)),
  (λ i. points_of_content (get e i).content) ∙ ap (λ (x : TreeNode). points_of_content x.content) (get_or_append_left t.nodes more no_node n l),
)
  where
    get : (e : v.nodes ≡ t.nodes ++ more) → get_or v.nodes n no_node ≡ get_or (t.nodes ++ more) n no_node
    get e = ap (λ ns. get_or ns n no_node) e

pub each_both : {A : Type 0} (P : A → Type 0) (xs ys : List A) → Each P xs → Each P ys → Each P (xs ++ ys)
each_both P [] ys h m = m
each_both P (x ∷ xs) ys h m = (h.0, each_both P xs ys h.1 m)

-- ---- a new root

module _ (t : RegionTree) (xs : List ℕ) where
  abbrev pub behind : RegionTree
  behind = with_root t xs

  pub root_stays : NodesStay t behind
  root_stays = nodes_more t behind _ refl

  set_new : set_at behind (length t.nodes) ≡ xs
  set_new =
      let last : length t.nodes ≡ length t.nodes + 0 = omega arith in
      ap (set_at behind) last ∙ ap (λ (x : TreeNode). points_of_content x.content) (get_or-append-add t.nodes _ 0 no_node)

  node_new : length t.nodes < length behind.nodes
  node_new = let m = length-append t.nodes (record { root = t.roots; path = []; content = Region xs } ∷ []) in omega (arith, m)

  -- its needs are those of its points
  pub root_needs_there : (root : RootId) (n : ℕ) → Each (λ (m : Need). m.node.0 < length behind.nodes) (needs_of_root root (length t.nodes) n)
      × (requirements_of behind (needs_of_root root (length t.nodes) n) ≡ root_requirements root.0 xs n)
  root_needs_there root zero = (tt, refl)
  root_needs_there root (suc n) =
      let more = root_needs_there root n in
      let new : Need = record { root = root; node = record { 0 = length t.nodes }; field = n; mode = Write } in
      let one : requirement_of behind new ≡ record { root = root.0; points = xs; field = n; mode = Write } =
      ap (λ ps. record { root = root.0; points = ps; field = n; mode = Write }) set_new in (
        each_both (λ (m : Need). m.node.0 < length behind.nodes) (needs_of_root root (length t.nodes) n) (new ∷ []) more.0 (node_new, tt),
        map-append (requirement_of behind) (needs_of_root root (length t.nodes) n) (new ∷ [])
            ∙ (λ i. more.1 i ++ one i ∷ []),
      )

-- ---- a new partition

pub partition_stays : (t : RegionTree) (region : ℕ) (sets : List (List ℕ)) (disjoint : Bool) → NodesStay t (with_partition t region sets disjoint)
partition_stays t region sets disjoint = nodes_more t (with_partition t region sets disjoint) _ refl
