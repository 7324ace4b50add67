-- A call may be issued on the table exactly where it may be in the tree, and the child begins in one frame on both.
use Rattle.std.proofs.Common.{◌≡◌, ◌<◌, ◌∷◌, ◌∙◌, ◌==◌, ◌&&◌, ⊎_elim, ℕ, zero, suc, Bool, List, None, Option, Some, [], ap, cond, eqb-true, false, get_or, length, map, option_map, refl, subst, sym, true, pos}
use Rattle.std.specs.Prelude.{All, nat_lt, slice_get}
use Rattle.std.specs.List.{list_all, list_any}
use Rattle.std.proofs.lemmas.Bool.{or_cases}
use Rattle.std.proofs.lemmas.List.{length-map}
use Rattle.std.proofs.lemmas.List.Elements.{All-head, All-tail}
use Rattle.std.proofs.lemmas.Option.{none-some, same_Some}
use Rattle.region_tree.specs.Needs.{requirements_of}
use Rattle.region_tree.specs.Requirements.{Requirement, is_within}
use Rattle.region_tree.specs.Trees.{RegionTree, set_at}
use Rattle.region_tree.specs.declared.needs.Need.{Need}
use Rattle.region_tree.specs.declared.tree.RootId.{RootId}
use Rattle.logical_map.specs.Maps.{Column, LogicalMap, columns_of, is_live}
use Rattle.task_code.specs.declared.code.NeedCode.{NeedCode}
use Rattle.task_code.specs.declared.job.Job.{Job}
use Rattle.machine_terms.specs.declared.value.RegionValue.{RegionValue}
use Rattle.machine_terms.specs.declared.value.Value.{Value}
use Rattle.machine_terms.specs.declared.value.Value.TheVariants as value
use Rattle.machine_terms.specs.Opening.{need_on, needs_on, with_points}
use Rattle.machine_terms.specs.Pointers.{region_in as region_of}
use Rattle.board_rules.specs.Processes.{Map}
use Rattle.regent_boards.specs.Frames as board
use Rattle.regent_boards.specs.RegentMachine.{kinds_of, regent_ground, space_of}
use Rattle.regent_boards.proofs.NeedRenaming.{within_to}
use Rattle.segment_renaming.specs.Renaming.{region_to, value_to}
use Rattle.segment_renaming.proofs.Alike.{same_root}
use Rattle.code_boards.specs.Views.{and_all, required, required_all, spaces_of, value_out}
use Rattle.order_boards.proofs.Calls.{argument_at, value_or, values}
use Rattle.order_boards.proofs.Needs.{pointed as order_pointed, within_pointed}
use Rattle.order_boards.proofs.Stands.{kinds_same, root_space}
use Rattle.board_terms.specs.declared.extent.Extent.{Extent}
use Rattle.board_terms.specs.Calls.{is_there}
use Rattle.board_terms.specs.Makes.{is_here}
use Rattle.board_terms.specs.States.{no_extent}
use Rattle.board_trees.specs.Frames.{HasPlaces, IsPlaced}
use Rattle.board_trees.specs.Names.{AreMade, IsNaming, name_of, named, pointed, requirement_named}
use Rattle.board_trees.specs.Shows.{HoldsMap}
use Rattle.board_trees.proofs.Named.{one_name, one_there}
use Rattle.board_trees.proofs.Places.{placed_is_here}

pub found_all : {A : Type 0} (P : A → Type 0) (xs : List A) (k : ℕ) (x : A) → slice_get xs k ≡ Some x → All P xs → P x
found_all P [] k x e h = absurd (none-some x e)
found_all P (y ∷ xs) zero x e h = subst P (same_Some y x e) (All-head P y xs h)
found_all P (y ∷ xs) (suc k) x e h = found_all P xs k x e (All-tail P y xs h)

-- ---- requirements of no points

pointed_is : (N : List Requirement) → pointed N ≡ order_pointed N
pointed_is [] = refl
pointed_is (r ∷ rs) = ap (with_points r.points r) (pointed_is rs)

pub pointed_named : (name : ℕ → ℕ) (N : List Requirement) → pointed (map (requirement_named name) N) ≡ map (requirement_named name) (pointed N)
pointed_named name [] = refl
pointed_named name (r ∷ rs) = ap (with_points r.points (requirement_named name r)) (pointed_named name rs) ∙ behind r.points
  where
    behind : (xs : List ℕ) → with_points xs (requirement_named name r) (map (requirement_named name) (pointed rs)) ≡ map (requirement_named name) (with_points xs r (pointed rs))
    behind [] = refl
    behind (x ∷ xs) = refl

-- ---- declared needs, on arguments

abbrev pub require : NeedCode → RegionValue → Requirement
require d r = record { root = r.root.0; points = r.points; field = d.field; mode = d.mode }

abbrev pub declared_on : RegionTree → LogicalMap → NeedCode → Option RegionValue → Bool
declared_on t live d None = false
declared_on t live d (Some r) = is_here t r && is_there live r.root.0 d.field

abbrev pub require_more : NeedCode → Option RegionValue → List Requirement → List Requirement
require_more d None rest = rest
require_more d (Some r) rest = require d r ∷ rest

abbrev pub requires : List NeedCode → List Value → List Requirement
requires [] vs = []
requires (d ∷ ds) vs = require_more d (region_of (slice_get vs d.param)) (requires ds vs)

abbrev pub all_declared : RegionTree → LogicalMap → List NeedCode → List Value → Bool
all_declared t live ds vs = list_all (λ (d : NeedCode). declared_on t live d (region_of (slice_get vs d.param))) ds

module _ (job : Job) (t : RegionTree) (live : LogicalMap) (extents : List Extent) (who : ℕ → ℕ) (makings : ℕ) (made : AreMade (length extents) who makings)
    (m : Map (regent_ground (spaces_of job.code))) (held : (root : ℕ) → is_live live root ≡ true → HoldsMap job live extents who m root)
    (roots : List RootId) (below : All (λ (r : RootId). r.0 < length extents) roots) (there : All (λ (r : RootId). is_live live r.0 ≡ true) roots)
    (args : List Value) (placed : All (HasPlaces t) args) (name : ℕ → ℕ) (is : IsNaming extents who roots name)
    (same : (other : ℕ → ℕ) → IsNaming extents who roots other → map (value_to (named other)) args ≡ map (value_to (named name)) args) where
  -- ---- regions among the arguments

  abbrev root_in_value : Option board.Value → ℕ
  root_in_value (Some (board.a_region r)) = r.root
  root_in_value _ = 0

  abbrev out_at : (ℕ → ℕ) → ℕ → board.Value
  out_at other k = get_or (map value_out (values job.code other args)) k (board.a_number (pos 0))

  same_out : (other : ℕ → ℕ) → IsNaming extents who roots other → (k : ℕ) (r : RegionValue) → slice_get args k ≡ Some (value.Region r) → other r.root.0 ≡ name r.root.0
  same_out other names_of k r e =
      ap (λ v. root_in_value (Some v)) (sym (argument_at job.code other args k (Some (value.Region r)) e)
      ∙ ap (λ vs. get_or (map value_out vs) k (board.a_number (pos 0))) (same other names_of)
      ∙ argument_at job.code name args k (Some (value.Region r)) e)

  region_name : (k : ℕ) (r : RegionValue) → slice_get args k ≡ Some (value.Region r) → name r.root.0 ≡ name_of extents who r.root.0
  region_name k r e = one_name extents who makings made r.root.0 (name r.root.0) roots below (λ other names_of. same_out other names_of k r e)

  live_among : (rs : List RootId) → All (λ (r : RootId). is_live live r.0 ≡ true) rs → (one : ℕ) → list_any (λ (r : RootId). r.0 == one) rs ≡ true → is_live live one ≡ true
  live_among [] h one e = absurd cc
  live_among (r ∷ rs) h one e = ⊎_elim (λ q. ap (is_live live) (sym (eqb-true r.0 one q)) ∙ All-head (λ (r : RootId). is_live live r.0 ≡ true) r rs h)
      (λ q. live_among rs (All-tail (λ (r : RootId). is_live live r.0 ≡ true) r rs h) one q) (or_cases (r.0 == one) (list_any (λ (r : RootId). r.0 == one) rs) e)

  region_live : (k : ℕ) (r : RegionValue) → slice_get args k ≡ Some (value.Region r) → is_live live r.root.0 ≡ true
  region_live k r e = live_among roots there r.root.0 (one_there extents who makings made r.root.0 (name r.root.0) roots below (λ other names_of. same_out other names_of k r e))

  region_placed : (k : ℕ) (r : RegionValue) → slice_get args k ≡ Some (value.Region r) → IsPlaced t r
  region_placed k r e = found_all (HasPlaces t) args k (value.Region r) e placed

  -- ---- one need

  required_region : (d : NeedCode) (k : ℕ) (r : RegionValue) → slice_get args k ≡ Some (value.Region r) →
      required job.code d (value_out (value.Region (region_to (named name) r)))
      ≡ cond (declared_on t live d (Some r)) (Some (requirement_named name (require d r))) None
  required_region d k r e =
      let h = held r.root.0 (region_live k r e) in
      let extent = get_or extents r.root.0 no_extent in
      let many : length (kinds_of (spaces_of job.code) (name r.root.0)) ≡ length (columns_of live r.root.0) =
      ap (λ R. length (get_or (spaces_of job.code) (space_of R) [])) (region_name k r e)
      ∙ ap (λ s. length (get_or (spaces_of job.code) s [])) (root_space extent.space extent.count (who r.root.0))
      ∙ ap length (kinds_same job.code extent.space) ∙ sym (ap length h.kinds) ∙ length-map (columns_of live r.root.0) (λ (c : Column). c.kind) in
      ap (λ n. cond (nat_lt d.field n) (Some (requirement_named name (require d r))) None) many
      ∙ ap (λ b. cond (b && is_there live r.root.0 d.field) (Some (requirement_named name (require d r))) None) (sym (placed_is_here t r (region_placed k r e)).0)

  abbrev wanted_of : NeedCode → Option RegionValue → Option Requirement
  wanted_of d None = None
  wanted_of d (Some r) = Some (requirement_named name (require d r))

  required_same : (d : NeedCode) → required job.code d (out_at name d.param)
      ≡ cond (declared_on t live d (region_of (slice_get args d.param))) (wanted_of d (region_of (slice_get args d.param))) None
  required_same d = ap (required job.code d) (argument_at job.code name args d.param (slice_get args d.param) refl) ∙ by_value (slice_get args d.param) refl
    where
      by_value : (o : Option Value) → slice_get args d.param ≡ o →
          required job.code d (value_or (option_map (value_to (named name)) o)) ≡ cond (declared_on t live d (region_of o)) (wanted_of d (region_of o)) None
      by_value None e = refl
      by_value (Some (value.Number z)) e = refl
      by_value (Some (value.Space k)) e = refl
      by_value (Some (value.Partition p)) e = refl
      by_value (Some (value.Pending i)) e = refl
      by_value (Some (value.Region r)) e = required_region d d.param r e

  -- ---- all needs

  pub all_required : (ds : List NeedCode) → required_all job.code ds (map value_out (values job.code name args))
      ≡ cond (all_declared t live ds args) (Some (map (requirement_named name) (requires ds args))) None
  all_required [] = refl
  all_required (d ∷ ds) =
      (λ i. and_all job.code (required_same d i) (all_required ds i)) ∙ by_region (region_of (slice_get args d.param)) (all_declared t live ds args)
    where
      by_region : (o : Option RegionValue) (b : Bool) →
          and_all job.code (cond (declared_on t live d o) (wanted_of d o) None) (cond b (Some (map (requirement_named name) (requires ds args))) None)
          ≡ cond (declared_on t live d o && b) (Some (map (requirement_named name) (require_more d o (requires ds args)))) None
      by_region None b = refl
      by_region (Some r) b = by_both (declared_on t live d (Some r)) b
        where
          by_both : (a b : Bool) → and_all job.code (cond a (Some (requirement_named name (require d r))) None) (cond b (Some (map (requirement_named name) (requires ds args))) None)
              ≡ cond (a && b) (Some (map (requirement_named name) (require d r ∷ requires ds args))) None
          by_both true true = refl
          by_both true false = refl
          by_both false b = refl

  -- the needs of the opening frame are what is required
  pub needs_required : (ds : List NeedCode) → requirements_of t (needs_on ds args) ≡ pointed (requires ds args)
  needs_required [] = refl
  needs_required (d ∷ ds) = by_value (slice_get args d.param) refl (needs_required ds)
    where
      by_value : (o : Option Value) → slice_get args d.param ≡ o → requirements_of t (needs_on ds args) ≡ pointed (requires ds args) →
          requirements_of t (need_on d (region_of o) (needs_on ds args)) ≡ pointed (require_more d (region_of o) (requires ds args))
      by_value None e more = more
      by_value (Some (value.Number z)) e more = more
      by_value (Some (value.Space k)) e more = more
      by_value (Some (value.Partition p)) e more = more
      by_value (Some (value.Pending i)) e more = more
      by_value (Some (value.Region r)) e more = by_points r.points refl
        where
          need : Need
          need = record { root = r.root; node = r.node; field = d.field; mode = d.mode }

          set_is : set_at t r.node.0 ≡ r.points
          set_is = (placed_is_here t r (region_placed d.param r e)).1

          by_points : (xs : List ℕ) → r.points ≡ xs →
              requirements_of t (with_points xs (record { root = r.root; node = r.node; field = d.field; mode = d.mode }) (needs_on ds args))
              ≡ with_points xs (require d r) (pointed (requires ds args))
          by_points [] q = more
          by_points (x ∷ xs) q = λ i. record { root = r.root.0; points = set_is i; field = d.field; mode = d.mode } ∷ more i

  -- what is required lies within what the caller needs, on both or on neither
  pub within_same : (ds : List NeedCode) (N : List Requirement) (ns : List Need) → pointed N ≡ map (requirement_named name) (requirements_of t ns) →
      is_within (map (requirement_named name) (requires ds args)) N ≡ is_within (requirements_of t (needs_on ds args)) (requirements_of t ns)
  within_same ds N ns e =
      sym (within_pointed (map (requirement_named name) (requires ds args)) N)
      ∙ (λ i. is_within (sym (pointed_is (map (requirement_named name) (requires ds args))) i) (sym (pointed_is N) i))
      ∙ (λ i. is_within (pointed_named name (requires ds args) i) (e i))
      ∙ within_to name (same_root (named name) is.one) (pointed (requires ds args)) (requirements_of t ns)
      ∙ ap (λ rs. is_within rs (requirements_of t ns)) (sym (needs_required ds))
