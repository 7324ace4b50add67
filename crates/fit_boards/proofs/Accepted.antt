-- Calls that a segment hands over are issued, all of them: what they need is there.
use Rattle.std.proofs.Common.{◌≡◌, ⊎_elim, ℕ, ◌<◌, ◌++◌, ◌==◌, List, [], ◌∷◌, true, Some, None, Option, option_map, sym, ap, ◌∙◌, subst, length, map, eqb-true}
use Rattle.std.specs.Prelude.{All, slice_get}
use Rattle.std.specs.List.{list_any}
use Rattle.std.proofs.lemmas.Bool.{or_cases}
use Rattle.std.proofs.lemmas.List.Elements.{All-append, All-head, All-tail}
use Rattle.std.proofs.lemmas.Option.{none-some, same_Some, slice_get-map}
use Rattle.region_tree.specs.declared.tree.RootId.{RootId}
use Rattle.logical_map.specs.Maps.{LogicalMap, is_live}
use Rattle.task_code.specs.declared.job.Job.{Job}
use Rattle.machine_terms.specs.declared.frame.Before.{Before}
use Rattle.machine_terms.specs.declared.outcome.CallOut.{CallOut}
use Rattle.machine_terms.specs.declared.outcome.Yield.{Yield}
use Rattle.machine_terms.specs.declared.outcome.Yield.TheVariants as yield
use Rattle.machine_terms.specs.declared.value.RegionValue.{RegionValue}
use Rattle.machine_terms.specs.declared.value.Value.{Value}
use Rattle.machine_terms.specs.declared.value.Value.TheVariants as value
use Rattle.machine_terms.specs.Pointers.{region_in}
use Rattle.machine_terms.specs.Segments.{segment}
use Rattle.board_rules.specs.Ground.{Ground}
use Rattle.board_rules.specs.NumberedBoards.{Board}
use Rattle.board_rules.specs.RootNumbers.{made_in}
use Rattle.regent_boards.specs.RegentMachine.{regent_ground}
use Rattle.segment_renaming.specs.Renaming.{call_to, value_to, yield_to}
use Rattle.code_boards.specs.Laws.{machine_of}
use Rattle.code_boards.specs.Views.{spaces_of}
use Rattle.board_terms.specs.declared.claim.Claim.{Claim}
use Rattle.board_terms.specs.declared.operation.Activity.TheVariants as activity
use Rattle.board_terms.specs.declared.extent.Extent.{Extent}
use Rattle.board_terms.specs.States.{State, operation_at}
use Rattle.board_trees.specs.Names.{AreMade, IsNaming, named}
use Rattle.board_trees.specs.Shows.{ShowsBoard}
use Rattle.board_trees.proofs.Named.{is_naming, named_all, one_there}
use Rattle.changed_trees.proofs.Listed.{way_found}
use Rattle.given_trees.proofs.Segments.{segments_show}
use Rattle.yielded_trees.proofs.Found.{known_out}
use Rattle.fit_rules.specs.Shapes.{Each}
use Rattle.fit_boards.proofs.Rows.{IsBusy, within_by}

-- ---- roots of what is handed on

-- the roots of regions among some arguments are there
abbrev pub AreLive : LogicalMap → List Value → Type 0
AreLive live vs = (i : ℕ) (r : RegionValue) → region_in (slice_get vs i) ≡ Some r → is_live live r.root.0 ≡ true

abbrev root_in : Option Value → ℕ
root_in (Some (value.Region r)) = r.root.0
root_in _ = 0

pub region_is : (o : Option Value) (r : RegionValue) → region_in o ≡ Some r → o ≡ Some (value.Region r)
region_is None r e = absurd (none-some r e)
region_is (Some (value.Region q)) r e = ap (λ z. Some (value.Region z)) (same_Some q r e)
region_is (Some (value.Number z)) r e = absurd (none-some r e)
region_is (Some (value.Space n)) r e = absurd (none-some r e)
region_is (Some (value.Partition q)) r e = absurd (none-some r e)
region_is (Some (value.Pending n)) r e = absurd (none-some r e)

live_among : (live : LogicalMap) (rs : List RootId) → All (λ (r : RootId). is_live live r.0 ≡ true) rs → (one : ℕ) → list_any (λ (r : RootId). r.0 == one) rs ≡ true → is_live live one ≡ true
live_among live [] h one e = absurd cc
live_among live (r ∷ rs) h one e = ⊎_elim
    (λ q. ap (is_live live) (sym (eqb-true r.0 one q)) ∙ All-head (λ (r : RootId). is_live live r.0 ≡ true) r rs h)
    (λ q. live_among live rs (All-tail (λ (r : RootId). is_live live r.0 ≡ true) r rs h) one q) (or_cases (r.0 == one) (list_any (λ (r : RootId). r.0 == one) rs) e)

module _ (extents : List Extent) (who : ℕ → ℕ) (makings : ℕ) (made : AreMade (length extents) who makings) (live : LogicalMap)
    (roots : List RootId) (were : All (λ (r : RootId). r.0 < length extents) roots) (there : All (λ (r : RootId). is_live live r.0 ≡ true) roots) where
  -- what is the same under all names of these roots speaks of no other
  args_live : (vs : List Value) → ((name other : ℕ → ℕ) → IsNaming extents who roots name → IsNaming extents who roots other → map (value_to (named name)) vs ≡ map (value_to (named other)) vs) →
      AreLive live vs
  args_live vs alike i r e = live_among live roots there r.root.0 (one_there extents who makings made r.root.0 (first r.root.0) roots were (λ name n. one name n))
    where
      first : ℕ → ℕ
      first = named_all extents who makings made 0

      at : (name : ℕ → ℕ) → root_in (slice_get (map (value_to (named name)) vs) i) ≡ name r.root.0
      at name = ap root_in (slice_get-map (value_to (named name)) vs i ∙ ap (option_map (value_to (named name))) (region_is (slice_get vs i) r e))

      one : (name : ℕ → ℕ) → IsNaming extents who roots name → name r.root.0 ≡ named_all extents who makings made 0 r.root.0
      one name n = sym (at name) ∙ ap (λ us. root_in (slice_get us i)) (alike name (named_all extents who makings made 0) n (is_naming extents who makings made 0 roots were))
          ∙ at (named_all extents who makings made 0)

  abbrev first_args : List CallOut → List Value
  first_args [] = []
  first_args (c ∷ cs) = c.args

  abbrev others : List CallOut → List CallOut
  others [] = []
  others (c ∷ cs) = cs

  calls_live : (cs : List CallOut) → ((name other : ℕ → ℕ) → IsNaming extents who roots name → IsNaming extents who roots other → map (call_to (named name)) cs ≡ map (call_to (named other)) cs) →
      Each (λ (c : CallOut). AreLive live c.args) cs
  calls_live [] alike = tt
  calls_live (c ∷ cs) alike = (
    args_live c.args (λ name other n m. ap first_args (alike name other n m)),
    calls_live cs (λ name other n m. ap others (alike name other n m)),
  )

abbrev calls_in : Yield → List CallOut
calls_in (yield.Calls cs) = cs
calls_in y = []

module _ (job : Job) (s : State) (b : Board (regent_ground (spaces_of job.code))) (h : ShowsBoard job s b) (k : ℕ) (c : Claim) (before : Before)
    (act : (operation_at s k).activity ≡ activity.Out c before) where
  abbrev G : Ground
  G = regent_ground (spaces_of job.code)

  abbrev makings : ℕ
  makings = made_in G (machine_of job) b.state.tree

  pub out_live : (cs : List CallOut) → (segment before).ends ≡ yield.Calls cs → Each (λ (q : CallOut). AreLive s.map q.args) cs
  out_live cs e =
      let w = way_found job b.ways k (subst (λ n. k < n) (sym h.ways) (within_by s k (subst IsBusy (sym act) tt))) in
      known_out job s b h k w.0 w.1 c before act (λ earlier above D N i f ps x d is below g.
      let left = segments_show job s b h w.0 k earlier above D N i f ps d x is g below c before act makings in
      calls_live s.roots h.who makings h.made s.map (above ++ (operation_at s k).frame.own)
      (All-append (λ (r : RootId). r.0 < length s.roots) above (operation_at s k).frame.own below (h.own_made k)) g.0.seen.there cs
      (λ name other n m. ap (λ y. calls_in (yield_to (named name) y)) (sym e) ∙ ap calls_in (left.alike name other n m) ∙ ap (λ y. calls_in (yield_to (named other) y)) e))
