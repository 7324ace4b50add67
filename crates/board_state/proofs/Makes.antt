-- What a state keeps behind a root or a partition that is made.
use Rattle.std.proofs.Common.{◌≡◌, ◌<◌, ◌∙◌, ℕ, zero, suc, Bool, false, List, [], ◌∷◌, All, ap, arith, get_or, length, set, refl, subst, sym}
use Rattle.std.proofs.lemmas.Bool.{false≢true}
use Rattle.std.proofs.lemmas.List.{get_or_push, length_push}
use Rattle.std.proofs.lemmas.List.Elements.{All-append, All-cons, All-nil, All-weaker}
use Rattle.plain_values.specs.Points.{points as points_of}
use Rattle.lane_kernels.specs.declared.numbers.Mode.TheVariants.{Write}
use Rattle.region_finder.proofs.Staying.{listings_stay, need_stays}
use Rattle.region_finder.specs.Forests.{IsForest}
use Rattle.region_tree.specs.Entries.{TreeNode}
use Rattle.region_tree.specs.Kept.{Grows}
use Rattle.region_tree.specs.Needs.{AreNeeds, IsNeed}
use Rattle.region_tree.specs.Trees.{RegionTree, is_region, no_node, with_root}
use Rattle.region_tree.specs.declared.content.Content.TheVariants.{Region}
use Rattle.region_tree.specs.declared.needs.Need.{Need}
use Rattle.logical_map.specs.Maps.{LogicalMap, opened}
use Rattle.dependence_graph.specs.Graphs.{Waits, knot_on, parked_on}
use Rattle.dependence_graph.specs.Knots.{knot_at}
use Rattle.dependence_graph.specs.declared.stage.Stage.TheVariants.{Parked, Stopped}
use Rattle.task_code.specs.declared.code.Code.{Code}
use Rattle.machine_terms.specs.declared.outcome.After.{After}
use Rattle.machine_terms.specs.declared.value.RegionValue.{RegionValue}
use Rattle.machine_terms.specs.Contents.{kinds_of}
use Rattle.machine_terms.specs.Makes.{fields_needed}
use Rattle.board_terms.specs.declared.extent.Extent.{Extent}
use Rattle.board_terms.specs.declared.operation.Ending.TheVariants.{Broken}
use Rattle.board_terms.specs.declared.operation.Operation.{Operation}
use Rattle.board_terms.specs.Gives.{frame_left}
use Rattle.board_terms.specs.Makes.{needs_of_root}
use Rattle.board_terms.specs.States.{State, operation_at}
use Rattle.board_gives.specs.Gives.{ended_with}
use Rattle.board_gives.specs.Makes.{IsRootBelow, parted_with, rooted_with}
use Rattle.board_state.specs.Kept.{HasNeeds, IsKept, IsLent, is_claimed, state_of}
use Rattle.board_state.specs.Steps.{HasLeft}
use Rattle.board_state.proofs.Claims.{same_operation}
use Rattle.board_state.proofs.Gives.{ended_kept, left_needs, left_there, same_kept}
use Rattle.board_state.proofs.Keeping.{kept_by, stays_set}
use Rattle.board_state.proofs.Roots.{live_later, live_opened}

-- ---- a tree that has grown

needs_stay : (t u : RegionTree) (ns : List Need) → Grows t u → AreNeeds t ns → AreNeeds u ns
needs_stay t u ns g a = All-weaker (IsNeed t) (IsNeed u) (λ n i. need_stays t u n g i) ns a

grown_kept : (s : State) (t : RegionTree) (roots : List Extent) → IsKept s → IsForest s.tree → Grows s.tree t →
    IsKept (state_of t roots s.map s.operations s.waits s.turns)
grown_kept s t roots kept f g = record {
  counted = kept.counted;
  listing = listings_stay s.tree t s.waits.listing f g kept.listing;
  needs = All-weaker (HasNeeds s.tree) (HasNeeds t) (λ o a. needs_stay s.tree t o.frame.needs.items g a) s.operations kept.needs;
  begun = kept.begun;
  lent = kept.lent;
  own = kept.own;
  live = live_later s.tree.roots t.roots s.map g.roots kept.live;
}

-- ---- needs of a new root

root_need : (t : RegionTree) (xs : List ℕ) (field : ℕ) →
    IsNeed (with_root t xs) (record { root = record { 0 = t.roots }; node = record { 0 = length t.nodes }; field = field; mode = Write })
root_need t xs field =
    let node : TreeNode = record { root = t.roots; path = []; content = Region xs } in
    let here = get_or_push t.nodes node no_node (length t.nodes) refl in
    record {
      region = record {
        there = omega (arith, length_push t.nodes node);
        kind = ap (λ (x : TreeNode). is_region x.content) here;
      };
      root = sym (ap (λ (x : TreeNode). x.root) here);
    }

root_needs : (t : RegionTree) (xs : List ℕ) (fields : ℕ) →
    AreNeeds (with_root t xs) (needs_of_root (record { 0 = t.roots }) (length t.nodes) fields)
root_needs t xs zero = All-nil (IsNeed (with_root t xs))
root_needs t xs (suc field) =
    let need : Need = record { root = record { 0 = t.roots }; node = record { 0 = length t.nodes }; field = field; mode = Write } in
    All-append (IsNeed (with_root t xs)) (needs_of_root (record { 0 = t.roots }) (length t.nodes) field) (need ∷ [])
    (root_needs t xs field)
    (All-cons (IsNeed (with_root t xs)) need [] (root_need t xs field) (All-nil (IsNeed (with_root t xs))))

-- ---- what is kept

made_kept : (s : State) (t : RegionTree) (roots : List Extent) (k : ℕ) (a : After) (o : Operation) (map : LogicalMap) →
    IsKept s → HasLeft (operation_at s k).activity a → IsForest s.tree → Grows s.tree t →
    HasNeeds t o → o.children ≡ (operation_at s k).children → is_claimed o.activity ≡ false → IsLent o → All (IsRootBelow t.roots) map →
    IsKept (state_of t roots map (set s.operations k o) (parked_on s.waits k []) s.turns)
made_kept s t roots k a o map kept h f g needs c idle lent live =
    let here = left_there s k a h in
    let there : k < length s.waits.knots = subst (λ (n : ℕ). k < n) kept.counted here in
    kept_by (state_of t roots s.map s.operations s.waits s.turns) k o (parked_on s.waits k []) map s.turns
    (grown_kept s t roots kept f g) here needs c refl
    (stays_set s.waits.knots k (knot_on s.waits.knots (knot_at s.waits.knots k).parent [] Parked Stopped) there refl)
    (λ claimed. absurd (false≢true (sym idle ∙ claimed))) lent live

rooted_kept : (s : State) (t : RegionTree) (roots : List Extent) (k : ℕ) (a : After) (code : Code) (size space : ℕ) →
    IsKept s → HasLeft (operation_at s k).activity a → IsForest s.tree → Grows s.tree t → t ≡ with_root s.tree (points_of size) →
    IsKept (state_of t roots (opened s.tree.roots (points_of size) (kinds_of code space) s.map)
    (set s.operations k (rooted_with code s.tree size space (operation_at s k) a)) (parked_on s.waits k []) s.turns)
rooted_kept s t roots k a code size space kept l f g h =
    let left = (frame_left (operation_at s k).frame a.frame).needs.items in
    let new = needs_of_root (record { 0 = s.tree.roots }) (length s.tree.nodes) (fields_needed code size space) in
    made_kept s t roots k a (rooted_with code s.tree size space (operation_at s k) a)
    (opened s.tree.roots (points_of size) (kinds_of code space) s.map) kept l f g
    (All-append (IsNeed t) left new (needs_stay s.tree t left g (left_needs s k a kept l))
    (subst (λ (u : RegionTree). AreNeeds u new) (sym h) (root_needs s.tree (points_of size) (fields_needed code size space))))
    refl refl tt
    (subst (λ (u : RegionTree). All (IsRootBelow u.roots) (opened s.tree.roots (points_of size) (kinds_of code space) s.map)) (sym h)
    (live_opened s.tree.roots (points_of size) (kinds_of code space) s.map kept.live))

parted_kept : (s : State) (t : RegionTree) (k : ℕ) (a : After) (r : RegionValue) (sets : List (List ℕ)) (disjoint : Bool) →
    IsKept s → HasLeft (operation_at s k).activity a → IsForest s.tree → Grows s.tree t →
    IsKept (state_of t s.roots s.map (set s.operations k (parted_with s.tree r sets disjoint (operation_at s k) a))
    (parked_on s.waits k []) s.turns)
parted_kept s t k a r sets disjoint kept l f g =
    let left = (frame_left (operation_at s k).frame a.frame).needs.items in
    made_kept s t s.roots k a (parted_with s.tree r sets disjoint (operation_at s k) a) s.map kept l f g
    (needs_stay s.tree t left g (left_needs s k a kept l)) refl refl tt
    (live_later s.tree.roots t.roots s.map g.roots kept.live)

-- ---- the same by its parts

module _ (s : State) (k : ℕ) (after : After) (x o : Operation) (kept : IsKept s)
    (left : HasLeft (operation_at s k).activity after) (here : x ≡ get_or s.operations k x) where
  at : x ≡ operation_at s k
  at = same_operation s.operations k x (left_there s k after left) here

  pub rooted_stays : (t : RegionTree) (roots : List Extent) (map : LogicalMap) (w : Waits) (code : Code) (size space : ℕ) → IsForest s.tree → Grows s.tree t →
      t ≡ with_root s.tree (points_of size) → map ≡ opened s.tree.roots (points_of size) (kinds_of code space) s.map →
      o ≡ rooted_with code s.tree size space x after → w ≡ parked_on s.waits k [] →
      IsKept (state_of t roots map (set s.operations k o) w s.turns)
  rooted_stays t roots map w code size space f g et em eo ew =
      subst IsKept
      (ap (λ (m : LogicalMap). state_of t roots m
      (set s.operations k (rooted_with code s.tree size space (operation_at s k) after)) (parked_on s.waits k []) s.turns) (sym em)
      ∙ ap (λ (y : Operation). state_of t roots map (set s.operations k y) (parked_on s.waits k []) s.turns)
      (sym (eo ∙ ap (λ (y : Operation). rooted_with code s.tree size space y after) at))
      ∙ ap (λ (v : Waits). state_of t roots map (set s.operations k o) v s.turns) (sym ew))
      (rooted_kept s t roots k after code size space kept left f g et)

  pub parted_stays : (t : RegionTree) (w : Waits) (r : RegionValue) (sets : List (List ℕ)) (disjoint : Bool) → IsForest s.tree → Grows s.tree t →
      o ≡ parted_with s.tree r sets disjoint x after → w ≡ parked_on s.waits k [] →
      IsKept (state_of t s.roots s.map (set s.operations k o) w s.turns)
  parted_stays t w r sets disjoint f g eo ew =
      subst IsKept
      (ap (λ (y : Operation). state_of t s.roots s.map (set s.operations k y) (parked_on s.waits k []) s.turns)
      (sym (eo ∙ ap (λ (y : Operation). parted_with s.tree r sets disjoint y after) at))
      ∙ ap (λ (v : Waits). state_of t s.roots s.map (set s.operations k o) v s.turns) (sym ew))
      (parted_kept s t k after r sets disjoint kept left f g)

  pub broken_stays : (t : RegionTree) → t ≡ s.tree → o ≡ ended_with x after Broken →
      IsKept (state_of t s.roots s.map (set s.operations k o) s.waits s.turns)
  broken_stays t et eo =
      subst IsKept
      (ap (λ (y : Operation). state_of s.tree s.roots s.map (set s.operations k y) s.waits s.turns)
      (sym (eo ∙ ap (λ (y : Operation). ended_with y after Broken) at))
      ∙ ap (λ (u : RegionTree). state_of u s.roots s.map (set s.operations k o) s.waits s.turns) (sym et))
      (ended_kept s k after Broken s.map kept left kept.live)

  -- nothing changed
  pub refused_stays : (t : RegionTree) (roots : List Extent) (map : LogicalMap) → t ≡ s.tree → roots ≡ s.roots → map ≡ s.map → o ≡ x →
      IsKept (state_of t roots map (set s.operations k o) s.waits s.turns)
  refused_stays t roots map et er em eo =
      subst IsKept
      (ap (λ (y : Operation). state_of s.tree s.roots s.map (set s.operations k y) s.waits s.turns) (sym (eo ∙ at))
      ∙ ap (λ (u : RegionTree). state_of u s.roots s.map (set s.operations k o) s.waits s.turns) (sym et)
      ∙ ap (λ (rs : List Extent). state_of t rs s.map (set s.operations k o) s.waits s.turns) (sym er)
      ∙ ap (λ (m : LogicalMap). state_of t roots m (set s.operations k o) s.waits s.turns) (sym em))
      (same_kept s k s.map kept (left_there s k after left) kept.live)
