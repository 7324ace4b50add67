-- Whether partitions may be made.
use Rattle.std.specs.Prelude.{◌==◌, ◌&&◌, ◌||◌, nat_lt, not}
use Rattle.std.specs.List.{list_all}
use Rattle.std.proofs.Common.{◌≡◌, ◌<◌, ◌+◌, ◌++◌, ◌∙◌, ℕ, zero, suc, Bool, true, false, List, [], ◌∷◌, ap, arith, drop, get_or, length, refl, sym}
use Rattle.std.proofs.lemmas.Bool.{and_from, and_parts, and_right, both_ways, false_from_ne_true, lt-ltb, ltb-true}
use Rattle.std.proofs.Math.Numerals.{add-one}
use Rattle.std.proofs.Math.Seq.{drop-cons}
use Rattle.std.proofs.lemmas.List.{append_assoc}
use Rattle.std.proofs.lemmas.List.Folds.{list_all_at}
use Rattle.plain_values.specs.Points.{has, within}
use Rattle.point_sets.proofs.Rising.{within_each}
use Rattle.region_tree.specs.Refusals.{AreWithin, FirstOutside, FirstShared}
use Rattle.region_tree.specs.Sharing.{AreDisjoint, set_of_colour}
use Rattle.region_tree.specs.Trees.{RegionTree, IsRegion, is_region, node_at, root_at}
use Rattle.machine_terms.specs.Makes.{are_apart, is_sound}
use Rattle.machine_terms.proofs.ApartSets.{all_by, apart_by, sharing_not_apart}
use Rattle.machine_terms.specs.declared.value.RegionValue.{RegionValue}
use Rattle.region_tree.specs.declared.tree.RootId.{RootId}
use Rattle.board_terms.specs.Makes.{children_from, is_here, region_at}

-- ---- regions that are there

pub here_is : (t : RegionTree) (r : RegionValue) → IsRegion t r.node.0 → is_here t r ≡ (root_at t r.node.0 == r.root.0)
here_is t r i =
    ap (λ (b : Bool). b && (is_region (node_at t r.node.0).content && (root_at t r.node.0 == r.root.0))) (lt-ltb r.node.0 (length t.nodes) i.there)
    ∙ ap (λ (b : Bool). b && (root_at t r.node.0 == r.root.0)) i.kind

pub not_here : (t : RegionTree) (r : RegionValue) → (IsRegion t r.node.0 → ⊥) → is_here t r ≡ false
not_here t r n = false_from_ne_true (is_here t r) (λ e. n (there e))
  where
    there : is_here t r ≡ true → IsRegion t r.node.0
    there e =
        let parts = and_parts (nat_lt r.node.0 (length t.nodes)) (is_region (node_at t r.node.0).content && (root_at t r.node.0 == r.root.0)) e in
        record {
          there = ltb-true r.node.0 (length t.nodes) parts.0;
          kind = (and_parts (is_region (node_at t r.node.0).content) (root_at t r.node.0 == r.root.0) parts.1).0;
        }

-- ---- sets that are sound

where_disjoint : (disjoint apart : Bool) → (disjoint ≡ true → apart ≡ true) → (not disjoint || apart) ≡ true
where_disjoint true apart f = f refl
where_disjoint false apart f = refl

pub made_sound : (points : List ℕ) (sets : List (List ℕ)) (disjoint : Bool) → AreWithin points sets → (disjoint ≡ true → AreDisjoint sets) →
    is_sound points sets disjoint ≡ true
made_sound points sets disjoint w d = and_from (list_all (λ s. within s points) sets) (not disjoint || are_apart sets)
    (all_by (λ s. within s points) sets w) (where_disjoint disjoint (are_apart sets) (λ e. apart_by sets (d e)))

-- ---- sets that are not

pub leaving_unsound : (points : List ℕ) (sets : List (List ℕ)) (disjoint : Bool) (colour point : ℕ) → FirstOutside points sets colour point →
    is_sound points sets disjoint ≡ false
leaving_unsound points sets disjoint colour point f =
    let out : within (set_of_colour sets colour) points ≡ false = false_from_ne_true (within (set_of_colour sets colour) points)
    (λ e. both_ways (has points point) f.leaves.outside
    (within_each (set_of_colour sets colour) points e point f.leaves.in_set)) in
    ap (λ (b : Bool). b && (not disjoint || are_apart sets)) (list_all_at (λ s. within s points) sets colour [] f.below out)

neither : (disjoint apart : Bool) → disjoint ≡ true → apart ≡ false → (not disjoint || apart) ≡ false
neither true apart e f = f
neither false apart e f = sym e

pub sharing_unsound : (points : List ℕ) (sets : List (List ℕ)) (disjoint : Bool) (a b point : ℕ) → disjoint ≡ true →
    FirstShared sets a b point → is_sound points sets disjoint ≡ false
sharing_unsound points sets disjoint a b point d f =
    and_right (list_all (λ s. within s points) sets) (not disjoint || are_apart sets)
    (neither disjoint (are_apart sets) d (sharing_not_apart sets a b point f.shared))

-- ---- regions by colour

pub one_more_child : (root : RootId) (partition c node : ℕ) (set : List ℕ) (sets : List (List ℕ)) (done all : List RegionValue) →
    c < length sets → set ≡ get_or sets c [] → node ≡ partition + (c + 1) → done ++ children_from root partition c (drop c sets) ≡ all →
    (done ++ region_at root node set ∷ []) ++ children_from root partition (c + 1) (drop (c + 1) sets) ≡ all
one_more_child root partition c node set sets done all b e n h =
    let place : node ≡ partition + 1 + c = omega (arith, n) in
    append_assoc done (region_at root node set ∷ []) (children_from root partition (c + 1) (drop (c + 1) sets))
    ∙ ap (λ (k : ℕ). done ++ region_at root node set ∷ children_from root partition k (drop k sets)) (add-one c)
    ∙ ap (λ (k : ℕ). done ++ region_at root k set ∷ children_from root partition (suc c) (drop (suc c) sets)) place
    ∙ ap (λ (xs : List ℕ). done ++ region_at root (partition + 1 + c) xs ∷ children_from root partition (suc c) (drop (suc c) sets)) e
    ∙ ap (λ (xs : List (List ℕ)). done ++ children_from root partition c xs) (sym (drop-cons sets c [] b))
    ∙ h
