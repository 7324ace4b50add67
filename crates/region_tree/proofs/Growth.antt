-- A region tree stays one where nodes are added.
use Rattle.std.proofs.Common.{◌≡◌, ℕ, ◌+◌, ◌<◌, ◌≤◌, true, false, ⊎_elim, List, [], ◌∷◌, ◌++◌}
use Rattle.std.proofs.Common.{length, get_or, All, refl, sym, ap, ◌∙◌, subst, arith, length-append}
use Rattle.std.proofs.Common.{Bool, zero, suc, ◌-◌}
use Rattle.std.proofs.lemmas.Bool.{cases_eq, false≢true, cases_lt}
use Rattle.std.proofs.lemmas.List.{get_or_append_left, get_or-append-add}
use Rattle.std.proofs.lemmas.List.Elements.{All-push, All-nil, All-weaker}
use Rattle.plain_values.specs.Points.{meets, within}
use Rattle.point_sets.proofs.Rising.{within_each, within_from_each}
use Rattle.region_tree.specs.Entries.{TreeNode}
use Rattle.region_tree.specs.Kept.{IsTree, IsKept, IsChild, LeadsTo, DividesRegion}
use Rattle.region_tree.specs.Refusals.{AreWithin}
use Rattle.region_tree.specs.Sharing.{AreDisjoint, set_of_colour}
use Rattle.region_tree.specs.Paths.{child_number}
use Rattle.region_tree.specs.Trees.{RegionTree, IsRegion, node_at, no_node, set_at, points_at}
use Rattle.region_tree.specs.Trees.{points_by, points_of_content, path_at, colours_at, colours_in}
use Rattle.region_tree.specs.Trees.{is_disjoint, disjoint_in, is_region, with_root, empty_tree}
use Rattle.region_tree.specs.Trees.{children, child_of, partition_of, partition_nodes}
use Rattle.region_tree.specs.Trees.{with_partition}
use Rattle.region_tree.specs.declared.content.Content.{Content}
use Rattle.region_tree.specs.declared.content.Content.TheVariants.{Region, Partition}
use Rattle.region_tree.specs.declared.path.Step.{Step}

pub within_trans : (xs ys zs : List ℕ) → within xs ys ≡ true → within ys zs ≡ true →
    within xs zs ≡ true
within_trans xs ys zs h g =
    within_from_each xs zs (λ x m. within_each ys zs g x (within_each xs ys h x m))

pub within_itself : (xs : List ℕ) → within xs xs ≡ true
within_itself xs = within_from_each xs xs (λ x m. m)

-- a tree with more roots and nodes
abbrev pub grown : RegionTree → ℕ → List TreeNode → RegionTree
grown t roots xs = record { roots = roots; nodes = t.nodes ++ xs }

-- ---- what was there stays

pub node_old : (t : RegionTree) (k : ℕ) (xs : List TreeNode) (n : ℕ) → n < length t.nodes →
    node_at (grown t k xs) n ≡ node_at t n
node_old t k xs n l = get_or_append_left t.nodes xs no_node n l

set_old : (t : RegionTree) (k : ℕ) (xs : List TreeNode) (n : ℕ) → n < length t.nodes →
    set_at (grown t k xs) n ≡ set_at t n
set_old t k xs n l = ap (λ (x : TreeNode). points_of_content x.content) (node_old t k xs n l)

colours_old : (t : RegionTree) (k : ℕ) (xs : List TreeNode) (n : ℕ) → n < length t.nodes →
    colours_at (grown t k xs) n ≡ colours_at t n
colours_old t k xs n l = ap (λ (x : TreeNode). colours_in x.content) (node_old t k xs n l)

there_old : (t : RegionTree) (k : ℕ) (xs : List TreeNode) (n : ℕ) → n < length t.nodes →
    n < length (grown t k xs).nodes
there_old t k xs n l = omega (arith, length-append t.nodes xs)

region_old : (t : RegionTree) (k : ℕ) (xs : List TreeNode) (n : ℕ) → IsRegion t n →
    IsRegion (grown t k xs) n
region_old t k xs n r = record {
  there = there_old t k xs n r.there;
  kind = ap (λ (x : TreeNode). is_region x.content) (node_old t k xs n r.there) ∙ r.kind;
}

divides_old : (t : RegionTree) (k : ℕ) (xs : List TreeNode) (c : Content) → DividesRegion t c →
    DividesRegion (grown t k xs) c
divides_old t k xs (Region ps) h = tt
divides_old t k xs (Partition region disjoint colours) h = region_old t k xs region.0 h

points_by_old : (t : RegionTree) (k : ℕ) (xs : List TreeNode) (c : Content) → DividesRegion t c →
    points_by (grown t k xs) c ≡ points_by t c
points_by_old t k xs (Region ps) h = refl
points_by_old t k xs (Partition region disjoint colours) h = set_old t k xs region.0 h.there

points_old : (t : RegionTree) (k : ℕ) (xs : List TreeNode) (n : ℕ) → n < length t.nodes →
    DividesRegion t (node_at t n).content → points_at (grown t k xs) n ≡ points_at t n
points_old t k xs n l h =
    ap (λ (x : TreeNode). points_by (grown t k xs) x.content) (node_old t k xs n l) ∙
    points_by_old t k xs (node_at t n).content h

child_old : (t : RegionTree) (k : ℕ) (xs : List TreeNode) (n colour : ℕ) → n < length t.nodes →
    DividesRegion t (node_at t n).content → IsChild t n colour → IsChild (grown t k xs) n colour
child_old t k xs n colour l h c = record {
  region = region_old t k xs (child_number n colour) c.region;
  inside = ap (λ (ps : List ℕ). within ps (points_at (grown t k xs) n))
      (set_old t k xs (child_number n colour) c.region.there) ∙
      ap (λ (ps : List ℕ). within (set_at t (child_number n colour)) ps) (points_old t k xs n l h) ∙
      c.inside;
}

-- a step that leads to a child with all these points still does
leads_old : (t : RegionTree) (k : ℕ) (xs : List TreeNode) → IsTree t →
    (points : List ℕ) (s : Step) → LeadsTo t points s → LeadsTo (grown t k xs) points s
leads_old t k xs tree points s h =
    let child = (tree.nodes s.partition.0 h.there).children s.colour h.colour in
    record {
      there = there_old t k xs s.partition.0 h.there;
      colour = subst (λ (c : ℕ). s.colour < c) (sym (colours_old t k xs s.partition.0 h.there))
          h.colour;
      inside = ap (λ (ps : List ℕ). within points ps)
          (set_old t k xs (child_number s.partition.0 s.colour) child.region.there) ∙ h.inside;
    }

pub kept_old : (t : RegionTree) (k : ℕ) (xs : List TreeNode) → IsTree t → (n : ℕ) →
    n < length t.nodes → IsKept (grown t k xs) n
kept_old t k xs tree n l =
    let kept = tree.nodes n l in
    let same = node_old t k xs n l in
    let points = points_old t k xs n l kept.divides in
    record {
      divides = subst (λ (x : TreeNode). DividesRegion (grown t k xs) x.content) (sym same)
          (divides_old t k xs (node_at t n).content kept.divides);
      children = λ colour c. child_old t k xs n colour l kept.divides
          (kept.children colour (subst (λ (m : ℕ). colour < m) (colours_old t k xs n l) c));
      apart = λ i j d o c. apart_old i j
          (sym (ap (λ (x : TreeNode). disjoint_in x.content) same) ∙ d) o
          (subst (λ (m : ℕ). j < m) (colours_old t k xs n l) c);
      path = subst (λ (x : TreeNode). All (LeadsTo (grown t k xs) (points_at (grown t k xs) n))
          x.path) (sym same) (subst (λ (ps : List ℕ). All (LeadsTo (grown t k xs) ps) (path_at t n))
          (sym points) (All-weaker (LeadsTo t (points_at t n))
          (LeadsTo (grown t k xs) (points_at t n)) (leads_old t k xs tree (points_at t n))
          (path_at t n) kept.path));
    }
  where
    apart_old : (i j : ℕ) → is_disjoint t n ≡ true → i < j → j < colours_at t n →
        meets (set_at (grown t k xs) (child_number n i))
        (set_at (grown t k xs) (child_number n j)) ≡ false
    apart_old i j d o c =
        let kept = tree.nodes n l in
        let one = set_old t k xs (child_number n i) (kept.children i (omega arith)).region.there in
        let other = set_old t k xs (child_number n j) (kept.children j c).region.there in
        ap (λ (ps : List ℕ). meets ps (set_at (grown t k xs) (child_number n j))) one ∙
        ap (λ (ps : List ℕ). meets (set_at t (child_number n i)) ps) other ∙
        kept.apart i j d o c

pub tree_empty : IsTree empty_tree
tree_empty = record { counted = omega arith; nodes = λ n l. absurd (omega arith) }

-- ---- a root

root_kept : (t : RegionTree) (k : ℕ) (root : ℕ) (points : List ℕ) (n : ℕ) →
    node_at (grown t k (record { root = root; path = []; content = Region points } ∷ [])) n ≡ record
    { root = root; path = []; content = Region points } →
    IsKept (grown t k (record { root = root; path = []; content = Region points } ∷ [])) n
root_kept t k root points n is =
    let u = grown t k (record { root = root; path = []; content = Region points } ∷ []) in
    record {
      divides = subst (λ (x : TreeNode). DividesRegion u x.content) (sym is) tt;
      children = λ colour c. absurd (omega (arith, ap (λ (x : TreeNode). colours_in x.content) is));
      apart = λ i j d o c. absurd
          (false≢true (sym (ap (λ (x : TreeNode). disjoint_in x.content) is) ∙ d));
      path = subst (λ (x : TreeNode). All (LeadsTo u (points_at u n)) x.path) (sym is)
          (All-nil (LeadsTo u (points_at u n)));
    }

pub tree-with_root : (t : RegionTree) (points : List ℕ) → IsTree t → IsTree (with_root t points)
tree-with_root t points tree = record {
  counted = omega (arith, tree.counted, length-append t.nodes new);
  nodes = λ n l. ⊎_elim (λ o. kept_old t (t.roots + 1) new tree n o)
      (λ o. root_kept t (t.roots + 1) t.roots points n (at_end n o l))
      (cases_lt n (length t.nodes));
}
  where
    new : List TreeNode
    new = record { root = t.roots; path = []; content = Region points } ∷ []

    at_end : (n : ℕ) → length t.nodes ≤ n →
        n < length (t.nodes ++ (record { root = t.roots; path = []; content = Region points } ∷
        [])) → get_or (t.nodes ++ (record { root = t.roots; path = []; content = Region points } ∷
        [])) n no_node ≡ record { root = t.roots; path = []; content = Region points }
    at_end n o l =
        let e : n ≡ length t.nodes + 0 = omega (
          arith,
          length-append t.nodes (record {
            root = t.roots;
            path = [];
            content = Region points;
          } ∷ []),
        ) in
        ap (λ i. get_or (t.nodes ++ (record { root = t.roots; path = []; content = Region points } ∷
        [])) i no_node) e ∙ get_or-append-add t.nodes
        (record { root = t.roots; path = []; content = Region points } ∷ []) 0 no_node

-- ---- a partition

length-children : (d : TreeNode) (p c : ℕ) (sets : List (List ℕ)) →
    length (children d p c sets) ≡ length sets
length-children d p c [] = refl
length-children d p c (set ∷ sets) = ap suc (length-children d p (c + 1) sets)

child_read : (d : TreeNode) (p c : ℕ) (sets : List (List ℕ)) (i : ℕ) → i < length sets →
    get_or (children d p c sets) i no_node ≡ child_of d p (c + i) (set_of_colour sets i)
child_read d p c [] i l = absurd (omega arith)
child_read d p c (set ∷ sets) zero l =
    ap (λ n. child_of d p n set) (let e : c ≡ c + 0 = omega arith in e)
child_read d p c (set ∷ sets) (suc i) l =
    child_read d p (c + 1) sets i (omega arith) ∙
    ap (λ n. child_of d p n (set_of_colour sets i)) (let e : c + 1 + i ≡ c + suc i = omega arith in e)

pub points_of_region : (t : RegionTree) (c : Content) → is_region c ≡ true →
    points_by t c ≡ points_of_content c
points_of_region t (Region ps) h = refl
points_of_region t (Partition region disjoint colours) h = absurd (false≢true h)

module _ (t : RegionTree) (region : ℕ) (sets : List (List ℕ)) (disjoint : Bool) (tree : IsTree t)
    (divided : IsRegion t region) (inside : AreWithin (set_at t region) sets)
    (apart : disjoint ≡ true → AreDisjoint sets) where
  abbrev p : ℕ
  p = length t.nodes

  abbrev new : List TreeNode
  new = partition_nodes (node_at t region) region (length t.nodes) sets disjoint

  abbrev u : RegionTree
  u = grown t t.roots (partition_nodes (node_at t region) region (length t.nodes) sets disjoint)

  size : length u.nodes ≡ p + 1 + length sets
  size = omega (arith, length-append t.nodes new, length-children (node_at t region) p 0 sets)

  node_own : node_at u p ≡ partition_of (node_at t region) region disjoint (length sets)
  node_own =
      ap (λ i. get_or (t.nodes ++ new) i no_node) (let e : p ≡ p + 0 = omega arith in e) ∙
      get_or-append-add t.nodes new 0 no_node

  node_child : (i : ℕ) → i < length sets →
      node_at u (child_number p i) ≡ child_of (node_at t region) p i (set_of_colour sets i)
  node_child i l =
      ap (λ k. get_or (t.nodes ++ new) k no_node) (let e : p + 1 + i ≡ p + suc i = omega arith in
      e) ∙ get_or-append-add t.nodes new (suc i) no_node ∙
      child_read (node_at t region) p 0 sets i l ∙
      ap (λ n. child_of (node_at t region) p n (set_of_colour sets i))
      (let e : 0 + i ≡ i = omega arith in e)

  colours_own : colours_at u p ≡ length sets
  colours_own = ap (λ (x : TreeNode). colours_in x.content) node_own

  set_child : (i : ℕ) → i < length sets → set_at u (child_number p i) ≡ set_of_colour sets i
  set_child i l = ap (λ (x : TreeNode). points_of_content x.content) (node_child i l)

  points_own : points_at u p ≡ set_at t region
  points_own =
      ap (λ (x : TreeNode). points_by u x.content) node_own ∙
      set_old t t.roots new region divided.there

  -- the steps to the region lead to children that have its points
  above : All (LeadsTo t (set_at t region)) (path_at t region)
  above =
      subst (λ (ps : List ℕ). All (LeadsTo t ps) (path_at t region))
      (points_of_region t (node_at t region).content divided.kind)
      (tree.nodes region divided.there).path

  kept_own : IsKept u p
  kept_own = record {
    divides = subst (λ (x : TreeNode). DividesRegion u x.content) (sym node_own)
        (region_old t t.roots new region divided);
    children = λ colour c. child_kept colour (subst (λ (m : ℕ). colour < m) colours_own c);
    apart = λ i j d o c. apart_own i j
        (sym (ap (λ (x : TreeNode). disjoint_in x.content) node_own) ∙ d) o
        (subst (λ (m : ℕ). j < m) colours_own c);
    path = subst (λ (x : TreeNode). All (LeadsTo u (points_at u p)) x.path) (sym node_own)
        (subst (λ (ps : List ℕ). All (LeadsTo u ps) (path_at t region)) (sym points_own)
        (All-weaker (LeadsTo t (set_at t region)) (LeadsTo u (set_at t region))
        (leads_old t t.roots new tree (set_at t region)) (path_at t region) above));
  }
    where
      child_kept : (i : ℕ) → i < length sets → IsChild u p i
      child_kept i l = record {
        region = record {
          there = omega (arith, size);
          kind = ap (λ (x : TreeNode). is_region x.content) (node_child i l);
        };
        inside = ap (λ (ps : List ℕ). within ps (points_at u p)) (set_child i l) ∙
            ap (λ (ps : List ℕ). within (set_of_colour sets i) ps) points_own ∙ inside i l;
      }

      apart_own : (i j : ℕ) → disjoint ≡ true → i < j → j < length sets →
          meets (set_at u (child_number p i)) (set_at u (child_number p j)) ≡ false
      apart_own i j d o l =
          ap (λ (ps : List ℕ). meets ps (set_at u (child_number p j))) (set_child i (omega arith)) ∙
          ap (λ (ps : List ℕ). meets (set_of_colour sets i) ps) (set_child j l) ∙ apart d i j o l

  kept_child : (i : ℕ) → i < length sets → IsKept u (child_number p i)
  kept_child i l = record {
    divides = subst (λ (x : TreeNode). DividesRegion u x.content) (sym (node_child i l)) tt;
    children = λ colour c. absurd
        (omega (arith, ap (λ (x : TreeNode). colours_in x.content) (node_child i l)));
    apart = λ a b d o c. absurd
        (false≢true (sym (ap (λ (x : TreeNode). disjoint_in x.content) (node_child i l)) ∙ d));
    path = subst (λ (x : TreeNode). All (LeadsTo u (points_by u x.content)) x.path)
        (sym (node_child i l)) (All-push (LeadsTo u (set_of_colour sets i)) (path_at t region)
        (record { partition = record { 0 = p }; colour = i })
        (All-weaker (LeadsTo t (set_at t region)) (LeadsTo u (set_of_colour sets i))
        (λ s h. leads_old t t.roots new tree (set_of_colour sets i) s
        (record {
          there = h.there;
          colour = h.colour;
          inside = within_trans (set_of_colour sets i) (set_at t region)
              (set_at t (child_number s.partition.0 s.colour)) (inside i l) h.inside;
        }))
        (path_at t region) above) last);
  }
    where
      last : LeadsTo u (set_of_colour sets i) (record { partition = record { 0 = p }; colour = i })
      last = record {
        there = omega (arith, size);
        colour = subst (λ (m : ℕ). i < m) (sym colours_own) l;
        inside = ap (λ (ps : List ℕ). within (set_of_colour sets i) ps) (set_child i l) ∙
            within_itself (set_of_colour sets i);
      }

  pub tree-with_partition : IsTree (with_partition t region sets disjoint)
  tree-with_partition = record {
    counted = omega (arith, tree.counted, size);
    nodes = λ n l. ⊎_elim (λ o. kept_old t t.roots new tree n o)
        (λ o. ⊎_elim (λ e. subst (IsKept u) (sym e) kept_own)
        (λ ne. subst (IsKept u) (let e : child_number p (n - p - 1) ≡ n = omega arith in e)
        (kept_child (n - p - 1) (omega (arith, size)))) (cases_eq n p)) (cases_lt n p);
  }
