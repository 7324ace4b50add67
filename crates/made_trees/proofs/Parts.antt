-- The nodes of a partition: each is a region of the tree, on points of the region that was divided.
use Rattle.std.proofs.Common.{◌≡◌, ◌<◌, ◌+◌, ◌++◌, ◌∷◌, ◌∙◌, ℕ, suc, List, [], ap, append_assoc, arith, length, subst, sym, true}
use Rattle.std.specs.Prelude.{All, get_or}
use Rattle.std.specs.List.{list_all}
use Rattle.std.proofs.lemmas.Bool.{and_parts}
use Rattle.std.proofs.lemmas.List.{length-append}
use Rattle.std.proofs.lemmas.List.Elements.{All-contains, All-cons, All-nil}
use Rattle.std.proofs.Math.Seq.{get_or-append_seam}
use Rattle.plain_values.specs.Points.{has}
use Rattle.point_sets.proofs.Rising.{Contains-from_has}
use Rattle.region_tree.specs.Entries.{TreeNode}
use Rattle.region_tree.specs.Paths.{child_number}
use Rattle.region_tree.specs.Trees.{child_of, children, no_node, points_of_content}
use Rattle.region_tree.specs.declared.tree.RootId.{RootId}
use Rattle.board_terms.specs.declared.extent.Extent.{Extent}
use Rattle.board_terms.specs.Makes.{children_from, region_at}
use Rattle.board_terms.specs.States.{no_extent}
use Rattle.board_trees.specs.Frames.{IsPlaced}

points_below : (n : ℕ) (ys : List ℕ) → All (λ q. q < n) ys → (xs : List ℕ) → list_all (has ys) xs ≡ true → All (λ q. q < n) xs
points_below n ys b [] e = All-nil (λ q. q < n)
points_below n ys b (x ∷ xs) e =
    let parts = and_parts (has ys x) (list_all (has ys) xs) e in
    All-cons (λ q. q < n) x xs (All-contains (λ q. q < n) ys x b (Contains-from_has ys x parts.0)) (points_below n ys b xs parts.1)

pub record IsWithinExtents (extents : List Extent) (x : TreeNode) : Type 0 where
  pub made : x.root < length extents
  pub below : All (λ p. p < (get_or extents x.root no_extent).count) (points_of_content x.content)

module _ (root : RootId) (divided : TreeNode) (p : ℕ) (same : divided.root ≡ root.0) where
  -- behind so many nodes the children stand where their numbers say
  pub children_placed : (roots : ℕ) (behind : List TreeNode) (c : ℕ) (sets : List (List ℕ)) → length behind ≡ child_number p c →
      All (IsPlaced (record { roots = roots; nodes = behind ++ children divided p c sets })) (children_from root p c sets)
  children_placed roots behind c [] e = All-nil (IsPlaced (record { roots = roots; nodes = behind ++ children divided p c [] }))
  children_placed roots behind c (xs ∷ sets) e =
      let child = child_of divided p c xs in
      let more : c + 1 ≡ suc c = omega arith in
      let longer : length (behind ++ child ∷ []) ≡ child_number p (suc c) = omega (arith, length-append behind (child ∷ []), e) in
      let found : get_or (behind ++ child ∷ children divided p (c + 1) sets) (child_number p c) no_node ≡ child = ap (λ n. get_or (behind ++ child ∷ children divided p (c + 1) sets) n no_node) (sym e)
      ∙ get_or-append_seam behind child (children divided p (c + 1) sets) no_node in
      All-cons (IsPlaced (record { roots = roots; nodes = behind ++ child ∷ children divided p (c + 1) sets })) (region_at root (child_number p c) xs) (children_from root p (suc c) sets)
      (record {
        there = omega (arith, e, length-append behind (child ∷ children divided p (c + 1) sets));
        points = ap (λ (x : TreeNode). x.content) found;
        root = ap (λ (x : TreeNode). x.root) found ∙ same;
      })
      (subst (λ ns. All (IsPlaced (record { roots = roots; nodes = ns })) (children_from root p (suc c) sets))
      (append_assoc behind (child ∷ []) (children divided p (suc c) sets) ∙ ap (λ n. behind ++ child ∷ children divided p n sets) (sym more))
      (children_placed roots (behind ++ child ∷ []) (suc c) sets longer))

  pub children_within : (extents : List Extent) → divided.root < length extents → (ys : List ℕ) → All (λ q. q < (get_or extents divided.root no_extent).count) ys → (c : ℕ) (sets : List (List ℕ)) →
      list_all (λ xs. list_all (has ys) xs) sets ≡ true → All (IsWithinExtents extents) (children divided p c sets)
  children_within extents l ys b c [] e = All-nil (IsWithinExtents extents)
  children_within extents l ys b c (xs ∷ sets) e =
      let parts = and_parts (list_all (has ys) xs) (list_all (λ xs. list_all (has ys) xs) sets) e in
      All-cons (IsWithinExtents extents) (child_of divided p c xs) (children divided p (c + 1) sets)
      (record { made = l; below = points_below (get_or extents divided.root no_extent).count ys b xs parts.0 }) (children_within extents l ys b (c + 1) sets parts.1)
