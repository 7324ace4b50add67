-- A way turned round.
use Rattle.std.specs.Prelude.{◌==◌, ◌&&◌, ◌||◌, Bool, reverse}
use Rattle.std.proofs.Common.{◌≡◌, List, ap, sym}
use Rattle.std.proofs.lemmas.List.{reverse-reverse}
use Rattle.std.proofs.lemmas.List.Sorted.{IsPermutation-reverse, list_any-IsPermutation}
use Rattle.lane_kernels.specs.declared.numbers.Mode.TheVariants.{Write}
use Rattle.region_finder.specs.Forests.{Upward}
use Rattle.region_finder.specs.Listings.{covers}
use Rattle.region_tree.specs.Requirements.{same_mode}
use Rattle.region_tree.specs.declared.needs.Need.{Need}

-- twice
pub turned_back : (ss : List Upward) → reverse (reverse ss) ≡ ss
turned_back ss = reverse-reverse ss

-- a need is covered alike, whether its way leads up or down
pub covers_turned : (n m : Need) (way : List Upward) →
    covers (record { need = m; way = reverse way }) n ≡ covers (record { need = m; way = way }) n
covers_turned n m way =
    ap (λ (b : Bool). same_mode n.mode Write && (n.root.0 == m.root.0) && (n.field == m.field) && ((n.node.0 == m.node.0) || b))
    (sym (list_any-IsPermutation (λ (u : Upward). u.0.0 == n.node.0) way (reverse way) (IsPermutation-reverse way)))
