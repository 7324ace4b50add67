-- A child that is called begins in a frame of the table and in one of the tree that are one.
use Rattle.std.proofs.Common.{◌≡◌, ◌<◌, ◌-◌, ◌∷◌, ◌∙◌, ℕ, suc, zero, List, None, Option, Some, [], ap, cond, length, map, refl, replicate, sym, true, pos}
use Rattle.std.specs.Prelude.{All, nat_lt, slice_get}
use Rattle.std.proofs.lemmas.Bool.{and_parts, false≢true, ltb-true}
use Rattle.std.proofs.lemmas.List.Elements.{All-append, All-cons, All-nil}
use Rattle.region_tree.specs.Needs.{AreNeeds, IsNeed}
use Rattle.region_tree.specs.Requirements.{Requirement}
use Rattle.region_tree.specs.Trees.{RegionTree, is_region}
use Rattle.region_tree.specs.declared.needs.Need.{Need}
use Rattle.region_tree.specs.declared.tree.OpNumber.{OpNumber}
use Rattle.region_tree.specs.declared.tree.RootId.{RootId}
use Rattle.logical_map.specs.Maps.{LogicalMap, columns_of, is_live}
use Rattle.task_code.specs.declared.code.NeedCode.{NeedCode}
use Rattle.task_code.specs.declared.code.TaskCode.{TaskCode}
use Rattle.task_code.specs.declared.job.Job.{Job}
use Rattle.machine_terms.specs.declared.value.RegionValue.{RegionValue}
use Rattle.machine_terms.specs.declared.value.Value.{Value}
use Rattle.machine_terms.specs.declared.value.Value.TheVariants as value
use Rattle.machine_terms.specs.Opening.{need_on, needs_on, opening, with_points}
use Rattle.machine_terms.specs.Pointers.{region_in as region_of}
use Rattle.board_rules.specs.Processes.{Map}
use Rattle.regent_boards.specs.Frames as board
use Rattle.regent_boards.specs.RegentMachine.{regent_ground}
use Rattle.segment_renaming.specs.Renaming.{frame_to, value_to}
use Rattle.segment_renaming.proofs.Openings.{openings_renamed}
use Rattle.code_boards.specs.Views.{frame_in, opening_with, required_all, spaces_of, value_out}
use Rattle.order_boards.proofs.Calls.{opening_seen, values}
use Rattle.board_terms.specs.declared.extent.Extent.{Extent}
use Rattle.board_terms.specs.declared.operation.Operation.{Operation}
use Rattle.board_terms.specs.States.{called_by}
use Rattle.board_trees.specs.Frames.{HasEachOnce, HasFitting, HasPlaces, IsHeld, IsPlaced, IsSeen}
use Rattle.board_trees.specs.Names.{AreMade, IsNaming, named, pointed, requirement_named}
use Rattle.board_trees.specs.Shows.{HoldsMap}
use Rattle.called_trees.proofs.Opens.{all_declared, all_required, declared_on, found_all, needs_required, pointed_named, requires}

-- ---- places

zeros_placed : (t : RegionTree) (n : ℕ) → All (HasPlaces t) (replicate n (value.Number (pos 0)))
zeros_placed t zero = All-nil (HasPlaces t)
zeros_placed t (suc n) = All-cons (HasPlaces t) (value.Number (pos 0)) (replicate n (value.Number (pos 0))) tt (zeros_placed t n)

needs_placed : (t : RegionTree) (args : List Value) → All (HasPlaces t) args → (ds : List NeedCode) → AreNeeds t (needs_on ds args)
needs_placed t args placed [] = All-nil (IsNeed t)
needs_placed t args placed (d ∷ ds) = by_value (slice_get args d.param) refl (needs_placed t args placed ds)
  where
    by_value : (o : Option Value) → slice_get args d.param ≡ o → AreNeeds t (needs_on ds args) → AreNeeds t (need_on d (region_of o) (needs_on ds args))
    by_value None e more = more
    by_value (Some (value.Number z)) e more = more
    by_value (Some (value.Space k)) e more = more
    by_value (Some (value.Partition p)) e more = more
    by_value (Some (value.Pending i)) e more = more
    by_value (Some (value.Region r)) e more = by_points r.points
      where
        place : IsPlaced t r
        place = found_all (HasPlaces t) args d.param (value.Region r) e placed

        need : Need
        need = record { root = r.root; node = r.node; field = d.field; mode = d.mode }

        by_points : (xs : List ℕ) → AreNeeds t (with_points xs (record { root = r.root; node = r.node; field = d.field; mode = d.mode }) (needs_on ds args))
        by_points [] = more
        by_points (x ∷ xs) = All-cons (IsNeed t) (record { root = r.root; node = r.node; field = d.field; mode = d.mode }) (needs_on ds args)
            (record { region = record { there = place.there; kind = ap is_region place.points }; root = sym place.root }) more

abbrev HasField : LogicalMap → Need → Type 0
HasField live n = n.field < length (columns_of live n.root.0)

needs_have_fields : (t : RegionTree) (live : LogicalMap) (args : List Value) (ds : List NeedCode) → all_declared t live ds args ≡ true → All (HasField live) (needs_on ds args)
needs_have_fields t live args [] e = All-nil (HasField live)
needs_have_fields t live args (d ∷ ds) e =
    let parts = and_parts (declared_on t live d (region_of (slice_get args d.param))) (all_declared t live ds args) e in
    by_region (region_of (slice_get args d.param)) parts.0 (needs_have_fields t live args ds parts.1)
  where
    by_region : (o : Option RegionValue) → declared_on t live d o ≡ true → All (HasField live) (needs_on ds args) → All (HasField live) (need_on d o (needs_on ds args))
    by_region None f more = absurd (false≢true f)
    by_region (Some r) f more = by_points r.points
      where
        by_points : (xs : List ℕ) → All (HasField live) (with_points xs (record { root = r.root; node = r.node; field = d.field; mode = d.mode }) (needs_on ds args))
        by_points [] = more
        by_points (x ∷ xs) = All-cons (HasField live) (record { root = r.root; node = r.node; field = d.field; mode = d.mode }) (needs_on ds args)
            (ltb-true d.field (length (columns_of live r.root.0)) (and_parts (Rattle.board_terms.specs.Makes.is_here t r) (nat_lt d.field (length (columns_of live r.root.0))) f).1) more

-- ---- the child

module _ (job : Job) (t : RegionTree) (live : LogicalMap) (extents : List Extent) (who : ℕ → ℕ) (makings : ℕ) (made : AreMade (length extents) who makings)
    (m : Map (regent_ground (spaces_of job.code))) (held : (root : ℕ) → is_live live root ≡ true → HoldsMap job live extents who m root)
    (roots : List RootId) (below : All (λ (r : RootId). r.0 < length extents) roots) (there : All (λ (r : RootId). is_live live r.0 ≡ true) roots)
    (args : List Value) (placed : All (HasPlaces t) args) (turns depth task : ℕ) (code : TaskCode) (declared : all_declared t live code.needs args ≡ true)
    (seen : List board.Value) (seen_is : (name : ℕ → ℕ) → IsNaming extents who roots name → map value_out (values job.code name args) ≡ seen)
    (needs : List Requirement) (needs_are : required_all job.code code.needs seen ≡ Some needs) where
  abbrev child : OpNumber → Operation
  child parent = called_by parent (opening turns (suc depth) task code args)

  abbrev same_values : (name : ℕ → ℕ) → IsNaming extents who roots name → Type 0
  same_values name is = (other : ℕ → ℕ) → IsNaming extents who roots other → map (value_to (named other)) args ≡ map (value_to (named name)) args

  module _ (same : (name : ℕ → ℕ) (is : IsNaming extents who roots name) → same_values name is) where
    -- what it needs, under each naming
    pub needs_named : (name : ℕ → ℕ) → IsNaming extents who roots name → needs ≡ map (requirement_named name) (requires code.needs args)
    needs_named name is = Rattle.std.proofs.lemmas.Option.same_Some needs (map (requirement_named name) (requires code.needs args)) (
        sym needs_are ∙ ap (required_all job.code code.needs) (sym (seen_is name is))
        ∙ all_required job t live extents who makings made m held roots below there args placed name is (same name is) code.needs
        ∙ ap (λ b. cond b (Some (map (requirement_named name) (requires code.needs args))) None) declared)

    frame_seen : (name : ℕ → ℕ) → IsNaming extents who roots name →
        frame_in (opening_with job.code turns depth task code.slots seen needs).frame ≡ frame_to (named name) (opening turns (suc depth) task code args)
    frame_seen name is =
        ap (λ vs. frame_in (opening_with job.code turns depth task code.slots vs needs).frame) (sym (seen_is name is))
        ∙ opening_seen job.code name args turns depth task code needs (ap (required_all job.code code.needs) (seen_is name is) ∙ needs_are)
        ∙ openings_renamed (named name) turns (suc depth) task code args

    pub child_seen : (parent : OpNumber) → IsSeen job.code t live extents who roots (child parent) needs (opening_with job.code turns depth task code.slots seen needs).frame []
    child_seen parent = record {
      frame = frame_seen;
      needs = refl;
      required = λ name is. ap pointed (needs_named name is) ∙ pointed_named name (requires code.needs args)
          ∙ ap (map (requirement_named name)) (sym (needs_required job t live extents who makings made m held roots below there args placed name is (same name is) code.needs));
      parts = λ name is. refl;
      held = All-nil (IsHeld job.code);
      fitting = All-nil HasFitting;
      once = All-nil HasEachOnce;
      placed = record {
        slots = All-append (HasPlaces t) args (replicate (code.slots - length args) (value.Number (pos 0))) placed (zeros_placed t (code.slots - length args));
        stack = All-nil (HasPlaces t);
        needs = needs_placed t args placed code.needs;
      };
      there = there;
      fields = needs_have_fields t live args code.needs declared;
    }
