-- Ways down to nodes, the paths of a tree, and where two of them part.
use Rattle.std.specs.Prelude.{None, Option, Some, reverse}
use Rattle.std.proofs.Common.{◌≡◌, ◌≢◌, ◌<◌, ◌==◌, ◌++◌, ◌&&◌, ◌∷◌, [], ◌∙◌, ℕ, suc, zero, Bool, true, false, cond, not, List, All, ap, sym, refl, subst, arith}
use Rattle.std.proofs.lemmas.Bool.{eq-eqb, eqb-true, false≢true, ltb-true, ne_eqb}
use Rattle.std.proofs.lemmas.List.{append-nil, reverse-append}
use Rattle.std.proofs.lemmas.List.Elements.{All-cons, All-head, All-nil, All-tail}
use Rattle.std.proofs.lemmas.List.Sorted.{All-permutation, IsPermutation-reverse}
use Rattle.region_finder.specs.Forests.{IsForest, StandsAbove, Upward, above, above_content, last_step, path_from, way_up}
use Rattle.region_tree.specs.Needs.{IsNeed}
use Rattle.region_tree.specs.Paths.{parting}
use Rattle.region_tree.specs.Trees.{RegionTree, IsNode, is_disjoint, is_region, node_at, parts_disjoint, path_at, root_at, separated}
use Rattle.region_tree.specs.declared.content.Content.{Content}
use Rattle.region_tree.specs.declared.content.Content.TheVariants.{Region, Partition}
use Rattle.region_tree.specs.declared.content.Node.{Node}
use Rattle.region_tree.specs.declared.needs.Need.{Need}
use Rattle.region_tree.specs.declared.path.Step.{Step}
use Rattle.region_walk.specs.Near.{is_near}
use Rattle.region_walk.specs.Sides.{is_beside, is_of, is_on_side, leaves, way_down}
use Rattle.region_walk.specs.Users.{IsUser, ListedNeed}
use Rattle.region_walk.proofs.Climbing.{way_ends, way_step}
use Rattle.region_walk.proofs.Keys.{and_both, has_of}

-- ---- the steps of a way

abbrev step_of : Upward → Step
step_of s = record { partition = s.0; colour = s.1 }

-- a path goes on at partitions alone
abbrev steps_in : RegionTree → List Upward → List Step
steps_in t [] = []
steps_in t (s ∷ ss) = cond (is_region (node_at t s.0.0).content) (steps_in t ss) (step_of s ∷ steps_in t ss)

append_by : (b : Bool) (x : Step) (xs ys zs : List Step) → ys ≡ xs ++ zs → cond b ys (x ∷ ys) ≡ cond b xs (x ∷ xs) ++ zs
append_by true x xs ys zs e = e
append_by false x xs ys zs e = ap (λ (ws : List Step). x ∷ ws) e

steps_append : (t : RegionTree) (xs : List Upward) (s : Upward) →
    steps_in t (xs ++ s ∷ []) ≡ steps_in t xs ++ steps_in t (s ∷ [])
steps_append t [] s = refl
steps_append t (x ∷ xs) s =
    append_by (is_region (node_at t x.0.0).content) (step_of x) (steps_in t xs) (steps_in t (xs ++ s ∷ [])) (steps_in t (s ∷ [])) (steps_append t xs s)

abbrev is_some : Option Upward → Bool
is_some None = false
is_some (Some u) = true

last_some : (s : Step) (ss : List Step) → is_some (last_step (s ∷ ss)) ≡ true
last_some s [] = refl
last_some s (r ∷ ss) = last_some r ss

last_none : (path : List Step) → last_step path ≡ None → path ≡ []
last_none [] h = refl
last_none (s ∷ ss) h = absurd (false≢true (sym (ap is_some h) ∙ last_some s ss))

none_above : (c : Content) (path : List Step) → above_content c path ≡ None → path ≡ []
none_above (Region points) path h = last_none path h
none_above (Partition region disjoint colours) path h = absurd (false≢true (sym (ap is_some h)))

-- below what stands above a node, by what both are
goes_on : (t : RegionTree) (c : Content) (path : List Step) (s : Upward) → is_region (node_at t s.0.0).content ≡ not (is_region c) →
    path_from c path s ≡ path ++ steps_in t (s ∷ [])
goes_on t (Region points) path s k =
    sym (ap (λ (b : Bool). path ++ cond b [] (step_of s ∷ [])) k)
goes_on t (Partition region disjoint colours) path s k =
    sym (append-nil path) ∙ sym (ap (λ (b : Bool). path ++ cond b [] (step_of s ∷ [])) k)

reverse_step : (s : Upward) (ss : List Upward) → reverse (s ∷ ss) ≡ reverse ss ++ s ∷ []
reverse_step s ss = reverse-append (s ∷ []) ss

-- ---- the path of a node is the way down to it

path_of : (t : RegionTree) (n : ℕ) → IsForest t → IsNode t n →
    ((s : Upward) → StandsAbove t n s → path_at t s.0.0 ≡ steps_in t (reverse (way_up t s.0.0))) →
    (o : Option Upward) → above t n ≡ o → path_at t n ≡ steps_in t (reverse (way_up t n))
path_of t n f i h None e =
    none_above (node_at t n).content (path_at t n) e ∙ sym (ap (λ (w : List Upward). steps_in t (reverse w)) (way_ends t n e))
path_of t n f i h (Some s) e =
    let up = f.upward n s i e in
    up.path ∙ goes_on t (node_at t n).content (path_at t s.0.0) s up.kind
    ∙ ap (λ (ss : List Step). ss ++ steps_in t (s ∷ [])) (h s up)
    ∙ sym (steps_append t (reverse (way_up t s.0.0)) s)
    ∙ ap (steps_in t) (sym (reverse_step s (way_up t s.0.0)))
    ∙ sym (ap (λ (w : List Upward). steps_in t (reverse w)) (way_step t n s f i e))

path_by : (t : RegionTree) (k n : ℕ) → IsForest t → IsNode t n → n < k → path_at t n ≡ steps_in t (reverse (way_up t n))
path_by t zero n f i l = absurd (omega (arith, l))
path_by t (suc k) n f i l =
    path_of t n f i (λ s up. path_by t k s.0.0 f (omega (arith, i, up.smaller)) (omega (arith, l, up.smaller))) (above t n) refl

pub path_is : (t : RegionTree) (n : ℕ) → IsForest t → IsNode t n → path_at t n ≡ steps_in t (reverse (way_up t n))
path_is t n f i = path_by t (suc n) n f i (omega arith)

-- ---- a region above a node is entered with colour 0

abbrev Plain : RegionTree → Upward → Type 0
Plain t s = is_region (node_at t s.0.0).content ≡ true → s.1 ≡ 0

abbrev colour_in : Option Upward → ℕ
colour_in None = 0
colour_in (Some r) = r.1

plain_by : (t : RegionTree) (c : Content) (path : List Step) (s : Upward) → above_content c path ≡ Some s →
    is_region (node_at t s.0.0).content ≡ not (is_region c) → Plain t s
plain_by t (Region points) path s e k h = absurd (false≢true (sym k ∙ h))
plain_by t (Partition region disjoint colours) path s e k h = sym (ap colour_in e)

plain_of : (t : RegionTree) (n : ℕ) → IsForest t → IsNode t n →
    ((s : Upward) → StandsAbove t n s → All (Plain t) (way_up t s.0.0)) →
    (o : Option Upward) → above t n ≡ o → All (Plain t) (way_up t n)
plain_of t n f i h None e = subst (All (Plain t)) (sym (way_ends t n e)) (All-nil (Plain t))
plain_of t n f i h (Some s) e =
    let up = f.upward n s i e in
    subst (All (Plain t)) (sym (way_step t n s f i e))
    (All-cons (Plain t) s (way_up t s.0.0) (plain_by t (node_at t n).content (path_at t n) s e up.kind) (h s up))

plain_ways : (t : RegionTree) (k n : ℕ) → IsForest t → IsNode t n → n < k → All (Plain t) (way_up t n)
plain_ways t zero n f i l = absurd (omega (arith, l))
plain_ways t (suc k) n f i l =
    plain_of t n f i (λ s up. plain_ways t k s.0.0 f (omega (arith, i, up.smaller)) (omega (arith, l, up.smaller))) (above t n) refl

plain_down : (t : RegionTree) (n : ℕ) → IsForest t → IsNode t n → All (Plain t) (reverse (way_up t n))
plain_down t n f i = All-permutation (Plain t) (way_up t n) (reverse (way_up t n)) (IsPermutation-reverse (way_up t n))
    (plain_ways t (suc n) n f i (omega arith))

-- ---- where one way leaves another

-- the partition at which a way is left after so many steps
abbrev left_at : ℕ → List Upward → Node
left_at k [] = record { 0 = 0 }
left_at zero (s ∷ ss) = s.0
left_at (suc k) (s ∷ ss) = left_at k ss

other_side : (side : Bool) (c d : ℕ) → is_on_side side c d ≡ true → c ≢ d
other_side true c d h e = omega (arith, ltb-true d c h, e)
other_side false c d h e = omega (arith, ltb-true c d h, e)

-- at the step where they part
parts_here : (t : RegionTree) (s r : Upward) (ss rs : List Step) → s.0.0 ≡ r.0.0 → s.1 ≢ r.1 → Plain t s → Plain t r →
    (x y : Bool) → is_region (node_at t s.0.0).content ≡ x → is_region (node_at t r.0.0).content ≡ y → x ≡ y →
    parting (cond x ss (step_of s ∷ ss)) (cond y rs (step_of r ∷ rs)) ≡ Some s.0
parts_here t s r ss rs same differ a b true true e f g = absurd (differ (a e ∙ sym (b f)))
parts_here t s r ss rs same differ a b true false e f g = absurd (false≢true (sym g))
parts_here t s r ss rs same differ a b false true e f g = absurd (false≢true g)
parts_here t s r ss rs same differ a b false false e f g =
    ap (λ (c : Bool). cond c (cond (s.1 == r.1) (parting ss rs) (Some s.0)) None) (eq-eqb s.0.0 r.0.0 same)
    ∙ ap (λ (c : Bool). cond c (parting ss rs) (Some s.0)) (ne_eqb s.1 r.1 differ)

-- at a step that they share
parts_on : (s r : Upward) (ss rs : List Step) (o : Option Node) → (s.0.0 == r.0.0) ≡ true → (s.1 == r.1) ≡ true →
    parting ss rs ≡ o → (x y : Bool) → x ≡ y → parting (cond x ss (step_of s ∷ ss)) (cond y rs (step_of r ∷ rs)) ≡ o
parts_on s r ss rs o e f h true true g = h
parts_on s r ss rs o e f h true false g = absurd (false≢true (sym g))
parts_on s r ss rs o e f h false true g = absurd (false≢true g)
parts_on s r ss rs o e f h false false g =
    ap (λ (c : Bool). cond c (cond (s.1 == r.1) (parting ss rs) (Some s.0)) None) e
    ∙ ap (λ (c : Bool). cond c (parting ss rs) (Some s.0)) f ∙ h

parts_at : (t : RegionTree) (k : ℕ) (side : Bool) (ss rs : List Upward) → All (Plain t) ss → All (Plain t) rs →
    leaves k side ss rs ≡ true → parting (steps_in t ss) (steps_in t rs) ≡ Some (left_at k ss)
parts_at t k side [] rs a b h = absurd (false≢true h)
parts_at t k side (s ∷ ss) [] a b h = absurd (false≢true h)
parts_at t zero side (s ∷ ss) (r ∷ rs) a b h =
    let both = and_both (s.0.0 == r.0.0) (is_on_side side s.1 r.1) h in
    let same = eqb-true s.0.0 r.0.0 both.0 in
    parts_here t s r (steps_in t ss) (steps_in t rs) same (other_side side s.1 r.1 both.1)
    (All-head (Plain t) s ss a) (All-head (Plain t) r rs b)
    (is_region (node_at t s.0.0).content) (is_region (node_at t r.0.0).content) refl refl
    (ap (λ (m : ℕ). is_region (node_at t m).content) same)
parts_at t (suc k) side (s ∷ ss) (r ∷ rs) a b h =
    let first = and_both (s.0.0 == r.0.0) ((s.1 == r.1) && leaves k side ss rs) h in
    let second = and_both (s.1 == r.1) (leaves k side ss rs) first.1 in
    parts_on s r (steps_in t ss) (steps_in t rs) (Some (left_at k ss)) first.0 second.0
    (parts_at t k side ss rs (All-tail (Plain t) s ss a) (All-tail (Plain t) r rs b) second.1)
    (is_region (node_at t s.0.0).content) (is_region (node_at t r.0.0).content)
    (ap (λ (m : ℕ). is_region (node_at t m).content) (eqb-true s.0.0 r.0.0 first.0))

-- ---- separated needs

-- where a user's way leaves that of a need's node, the two are separated exactly if the partition is disjoint
separated_at : (t : RegionTree) (c : ℕ) (n : Need) (k : ℕ) (side : Bool) (u : ListedNeed) → IsForest t → IsNeed t n → IsUser t u →
    is_beside c n (reverse (way_up t n.node.0)) k side u ≡ true →
    separated t n.node.0 u.placed.need.node.0 ≡ is_disjoint t (left_at k (reverse (way_up t n.node.0))).0
separated_at t c n k side u f a b h =
    let m = u.placed.need.node.0 in
    let way = reverse (way_up t n.node.0) in
    let both = and_both (is_of c n u) (leaves k side way (way_down u)) h in
    let roots : root_at t n.node.0 ≡ root_at t m = sym a.root ∙ (has_of c n u both.0).root ∙ b.there.root in
    ap (λ (x : Bool). x && parts_disjoint t (parting (path_at t n.node.0) (path_at t m))) (eq-eqb (root_at t n.node.0) (root_at t m) roots)
    ∙ ap (λ (ss : List Step). parts_disjoint t (parting ss (path_at t m))) (path_is t n.node.0 f a.region.there)
    ∙ ap (λ (ss : List Step). parts_disjoint t (parting (steps_in t way) ss)) (path_is t m f b.there.region.there)
    ∙ ap (parts_disjoint t) (parts_at t k side way (reverse (way_up t m))
    (plain_down t n.node.0 f a.region.there) (plain_down t m f b.there.region.there)
    (subst (λ w. leaves k side way (reverse w) ≡ true) b.way both.1))

-- a user of the root and field that isn't near is separated
far_by : (k r d s : Bool) → (k && (r && d)) ≡ true → (k && ((r && d) && not s)) ≡ false → s ≡ true
far_by k r d true h e = refl
far_by true true true false h e = absurd (false≢true (sym e))
far_by true true false false h e = absurd (false≢true h)
far_by true false d false h e = absurd (false≢true h)
far_by false r d false h e = absurd (false≢true h)

far_separated : (t : RegionTree) (c : ℕ) (n : Need) (u : ListedNeed) → is_of c n u ≡ true → is_near t c n u ≡ false →
    separated t n.node.0 u.placed.need.node.0 ≡ true
far_separated t c n u h e =
    far_by (u.context.0 == c) (n.root.0 == u.placed.need.root.0) (n.field == u.placed.need.field) (separated t n.node.0 u.placed.need.node.0) h e

-- one that is separated isn't near
apart_by : (k r d s : Bool) → s ≡ true → (k && ((r && d) && not s)) ≡ false
apart_by k r d false h = absurd (false≢true h)
apart_by true true true true h = refl
apart_by true true false true h = refl
apart_by true false d true h = refl
apart_by false r d true h = refl

separated_far : (t : RegionTree) (c : ℕ) (n : Need) (u : ListedNeed) → separated t n.node.0 u.placed.need.node.0 ≡ true → is_near t c n u ≡ false
separated_far t c n u h =
    apart_by (u.context.0 == c) (n.root.0 == u.placed.need.root.0) (n.field == u.placed.need.field) (separated t n.node.0 u.placed.need.node.0) h

-- nor is one of another root or field
other_by : (k r d s : Bool) → (k && (r && d)) ≡ false → (k && ((r && d) && not s)) ≡ false
other_by true true true s h = absurd (false≢true (sym h))
other_by true true false s h = refl
other_by true false d s h = refl
other_by false r d s h = refl

pub not_of_far : (t : RegionTree) (c : ℕ) (n : Need) (u : ListedNeed) → is_of c n u ≡ false → is_near t c n u ≡ false
not_of_far t c n u h =
    other_by (u.context.0 == c) (n.root.0 == u.placed.need.root.0) (n.field == u.placed.need.field) (separated t n.node.0 u.placed.need.node.0) h

-- All whose ways leave that of a need's node as one does that isn't near aren't near either.
pub beside_far : (t : RegionTree) (c : ℕ) (n : Need) (k : ℕ) (side : Bool) (u v : ListedNeed) → IsForest t → IsNeed t n →
    IsUser t u → IsUser t v → is_near t c n u ≡ false → is_beside c n (reverse (way_up t n.node.0)) k side u ≡ true →
    is_beside c n (reverse (way_up t n.node.0)) k side v ≡ true → is_near t c n v ≡ false
beside_far t c n k side u v f a b d e h g =
    separated_far t c n v
    (separated_at t c n k side v f a d g ∙ sym (separated_at t c n k side u f a b h)
    ∙ far_separated t c n u (and_both (is_of c n u) (leaves k side (reverse (way_up t n.node.0)) (way_down u)) h).0 e)
