-- What a task instance is given between its segments, with other numbers of roots and nodes.
use Rattle.std.proofs.Common.{◌≡◌, ℕ, zero, suc, ℤ, pos, List, [], ◌∷◌, ◌++◌, Bool, true, false, cond, Option, Some, None, refl, sym, ap, ◌∙◌, map, option_map, ◌==◌}
use Rattle.std.specs.Prelude.{length, replicate, slice_get, ◌-◌}
use Rattle.std.proofs.lemmas.List.{length-map, map-append}
use Rattle.lane_kernels.specs.declared.numbers.Mode.TheVariants.{Write}
use Rattle.region_tree.specs.declared.needs.Need.{Need}
use Rattle.task_code.specs.declared.code.NeedCode.{NeedCode}
use Rattle.task_code.specs.declared.code.TaskCode.{TaskCode}
use Rattle.machine_terms.specs.declared.frame.Frame.{Frame}
use Rattle.machine_terms.specs.declared.value.RegionValue.{RegionValue}
use Rattle.machine_terms.specs.declared.value.Value.{Value}
use Rattle.machine_terms.specs.declared.value.Value.TheVariants.{Number, Space, Region, Partition, Pending}
use Rattle.machine_terms.specs.Pointers.{region_in}
use Rattle.machine_terms.specs.Opening.{need_on, needs_on, opening, with_points}
use Rattle.machine_terms.specs.Makes.{pushed, region_with, root_needs}
use Rattle.machine_terms.specs.Orders.{settled}
use Rattle.segment_renaming.specs.Resuming.{AwaitedRenamed, OpeningsRenamed, PartitionsRenamed, RootsRenamed, with_root}
use Rattle.segment_renaming.specs.Renaming.{Names, frame_to, need_to, region_to, root_to, value_to}
use Rattle.segment_renaming.proofs.Alike.{region_in_to, slot_to}

module _ (n : Names) where
  pub settled_to : (i : ℕ) (z : ℤ) (v : Value) → settled i z (value_to n v) ≡ value_to n (settled i z v)
  settled_to i z (Number y) = refl
  settled_to i z (Space s) = refl
  settled_to i z (Region r) = refl
  settled_to i z (Partition p) = refl
  settled_to i z (Pending j) = choice (i == j)
    where
      choice : (b : Bool) → cond b (Number z) (Pending j) ≡ value_to n (cond b (Number z) (Pending j))
      choice true = refl
      choice false = refl

  all_settled_to : (i : ℕ) (z : ℤ) (vs : List Value) → map (settled i z) (map (value_to n) vs) ≡ map (value_to n) (map (settled i z) vs)
  all_settled_to i z [] = refl
  all_settled_to i z (v ∷ vs) = λ k. settled_to i z v k ∷ all_settled_to i z vs k

  -- the value of a child that was awaited
  pub awaited_to : (i : ℕ) (z : ℤ) (f : Frame) →
      record (frame_to n f) { slots = map (settled i z) (map (value_to n) f.slots) } ≡ frame_to n (record f { slots = map (settled i z) f.slots })
  awaited_to i z f = λ k. record (frame_to n f) { slots = all_settled_to i z f.slots k }

  -- a value that was made
  pub pushed_to : (v : Value) (f : Frame) → pushed (value_to n v) (frame_to n f) ≡ frame_to n (pushed v f)
  pushed_to v f = refl

  with_points_to : (xs : List ℕ) (d : Need) (rest : List Need) → with_points xs (need_to n d) (map (need_to n) rest) ≡ map (need_to n) (with_points xs d rest)
  with_points_to [] d rest = refl
  with_points_to (x ∷ xs) d rest = refl

  need_on_to : (d : NeedCode) (o : Option RegionValue) (rest : List Need) →
      need_on d (option_map (region_to n) o) (map (need_to n) rest) ≡ map (need_to n) (need_on d o rest)
  need_on_to d None rest = refl
  need_on_to d (Some r) rest = with_points_to r.points (record { root = r.root; node = r.node; field = d.field; mode = d.mode }) rest

  needs_on_to : (ds : List NeedCode) (vs : List Value) → needs_on ds (map (value_to n) vs) ≡ map (need_to n) (needs_on ds vs)
  needs_on_to [] vs = refl
  needs_on_to (d ∷ ds) vs =
      (λ i. need_on d ((ap region_in (slot_to n vs d.param) ∙ region_in_to n (slice_get vs d.param)) i) (needs_on_to ds vs i))
      ∙ need_on_to d (region_in (slice_get vs d.param)) (needs_on ds vs)

  zeros_to : (k : ℕ) → replicate k (Number (pos 0)) ≡ map (value_to n) (replicate k (Number (pos 0)))
  zeros_to zero = refl
  zeros_to (suc k) = ap (λ vs. Number (pos 0) ∷ vs) (zeros_to k)

  -- the frame in which a task begins
  pub opening_to : (turns depth task : ℕ) (t : TaskCode) (vs : List Value) →
      opening turns depth task t (map (value_to n) vs) ≡ frame_to n (opening turns depth task t vs)
  opening_to turns depth task t vs = λ i. record {
    task = task;
    pc = 0;
    slots = ((λ j. map (value_to n) vs ++ replicate (t.slots - length-map vs (value_to n) j) (Number (pos 0)))
        ∙ (λ j. map (value_to n) vs ++ zeros_to (t.slots - length vs) j)
        ∙ sym (map-append (value_to n) vs (replicate (t.slots - length vs) (Number (pos 0))))) i;
    stack = [];
    turns = turns;
    depth = depth;
    needs = record { items = needs_on_to t.needs vs i };
    own = [];
    children = 0;
    later = None;
  }

  -- what is pushed for a new root, whose node is 0
  module _ (zero_stays : n.node 0 ≡ 0) where
    abbrev need_of : ℕ → ℕ → Need
    need_of root field = record { root = record { 0 = root }; node = record { 0 = 0 }; field = field; mode = Write }

    root_needs_to : (root k : ℕ) → root_needs (n.root root) k ≡ map (need_to n) (root_needs root k)
    root_needs_to root zero = refl
    root_needs_to root (suc k) =
        (λ i. root_needs_to root k i ++ record (need_of (n.root root) k) { node = record { 0 = sym zero_stays i } } ∷ [])
        ∙ sym (map-append (need_to n) (root_needs root k) (need_of root k ∷ []))

    pub with_root_to : (root : ℕ) (xs : List ℕ) (kinds : ℕ) (f : Frame) →
        with_root (n.root root) xs kinds (frame_to n f) ≡ frame_to n (with_root root xs kinds f)
    with_root_to root xs kinds f = λ i. record (frame_to n f) {
      stack = Region (record (region_with (n.root root) xs) { node = record { 0 = sym zero_stays i } }) ∷ map (value_to n) f.stack;
      needs = record {
        items = ((λ j. map (need_to n) f.needs.items ++ root_needs_to root kinds j)
            ∙ sym (map-append (need_to n) f.needs.items (root_needs root kinds))) i;
      };
      own = sym (map-append (root_to n) f.own (record { 0 = root } ∷ [])) i;
    }

pub awaited_renamed : AwaitedRenamed
awaited_renamed n i z f = awaited_to n i z f

pub openings_renamed : OpeningsRenamed
openings_renamed n turns depth task t vs = opening_to n turns depth task t vs

pub roots_renamed : RootsRenamed
roots_renamed n zero_stays root xs kinds f = with_root_to n zero_stays root xs kinds f

regions_to : (n : Names) (root : ℕ) → n.node 0 ≡ 0 → (sets : List (List ℕ)) → map (region_with (n.root root)) sets ≡ map (region_to n) (map (region_with root) sets)
regions_to n root zero_stays [] = refl
regions_to n root zero_stays (s ∷ ss) = λ i. record (region_with (n.root root) s) { node = record { 0 = sym zero_stays i } } ∷ regions_to n root zero_stays ss i

pub partitions_renamed : PartitionsRenamed
partitions_renamed n zero_stays r sets disjoint f = λ i. pushed
    (Partition (record { root = root_to n r.root; disjoint = disjoint; children = regions_to n r.root.0 zero_stays sets i })) (frame_to n f)
