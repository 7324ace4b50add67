-- An operation makes a root or a partition and goes on.
use Rattle.std.proofs.Common.{◌≡◌, inl, inr, ⊎_elim, ℕ, zero, suc, ◌<◌, ◌+◌, List, [], ◌∷◌, ◌++◌, Bool, true, false, ◌&&◌, ◌||◌, cond, Some, refl, sym, ap, ◌∙◌, subst, arith, length, map, eqb-true}
use Rattle.std.specs.Prelude.{set, slice_get, ◌==◌}
use Rattle.std.proofs.lemmas.Bool.{cases_Bool, ne_eqb}
use Rattle.std.proofs.lemmas.List.{length-append, map-append}
use Rattle.partitions.proofs.Colours.{colours_more}
use Rattle.plain_values.specs.Points.{points}
use Rattle.lane_kernels.specs.declared.numbers.Mode.TheVariants as mode
use Rattle.region_tree.specs.Needs.{requirement_of, requirements_of}
use Rattle.region_tree.specs.Trees.{set_at}
use Rattle.region_tree.specs.declared.needs.Need.{Need}
use Rattle.region_tree.specs.declared.needs.Needs.{Needs}
use Rattle.region_tree.specs.declared.piece.Part.{Part}
use Rattle.region_tree.specs.declared.tree.RootId.{RootId}
use Rattle.logical_map.specs.Maps.{opened}
use Rattle.dependence_graph.specs.declared.stage.Waiting.TheVariants as graph
use Rattle.machine_terms.specs.declared.frame.Frame.{Frame}
use Rattle.machine_terms.specs.declared.outcome.CallOut.{CallOut}
use Rattle.machine_terms.specs.declared.outcome.Made.TheVariants as made
use Rattle.machine_terms.specs.declared.value.PartitionValue.{PartitionValue}
use Rattle.machine_terms.specs.declared.value.RegionValue.{RegionValue}
use Rattle.machine_terms.specs.declared.value.Value.TheVariants as value
use Rattle.machine_terms.specs.Contents.{kinds_of}
use Rattle.machine_terms.specs.Makes.{fields_needed, is_sound, pushed}
use Rattle.board_terms.specs.declared.extent.Extent.{Extent}
use Rattle.board_terms.specs.declared.operation.Ending.TheVariants as ending
use Rattle.board_terms.specs.declared.operation.Operation.{Operation}
use Rattle.board_terms.specs.declared.operation.Said.{Said}
use Rattle.board_terms.specs.declared.operation.Wait.TheVariants as wait
use Rattle.board_terms.specs.Gives.{ended_by, making, parked_for}
use Rattle.board_terms.specs.Makes.{children_from, frame_with_root, is_here, needs_of_root, next_node, next_root, partition_made, region_at, root_made}
use Rattle.board_terms.specs.States.{State, operation_at}
use Rattle.fit_rules.specs.Shapes.{Among, Each, Shape, World}
use Rattle.fit_rules.specs.Fits.{a_claim, AreClaims, claims, Fits, no_claims, Program, requires, root_claims}
use Rattle.fit_rules.specs.Ends.{IsMadeOf, rooted, with_root, with_value}
use Rattle.fit_laws.proofs.Rooting.{claims_both, claims_rooted}
use Rattle.fit_runs.proofs.Rooted.{root_required}
use Rattle.fit_boards.specs.Fitting.{Gives, Going, IsRootOf, MapFits, points_at, space_at, StateFits}
use Rattle.fit_boards.proofs.Columns.{extents_stay, new_points, new_root_there, new_space, opened_fits}
use Rattle.fit_boards.proofs.Given.{behind_of, ends_fit, goes_on, HasRun, IsLike, left_of, row_again}
use Rattle.fit_boards.proofs.Nodes.{each_both, partition_stays, root_needs_there, root_stays}
use Rattle.fit_boards.proofs.Rows.{IsOpen, one_fits, one_stays, open_gives}
use Rattle.fit_boards.proofs.Staying.{known_stay, needs_stay, results_stay, roots_same, Stays}

-- ---- what is made is what is asked

fields_claimed : (root : RootId) (node : ℕ) (xs : List ℕ) (n : ℕ) → AreClaims (needs_of_root root node n) (map (requires root.0 xs mode.Write) (points n))
fields_claimed root node xs zero = no_claims
fields_claimed root node xs (suc n) =
    let same : n + 1 ≡ suc n = omega arith in
    subst (λ k. AreClaims (needs_of_root root node (suc n)) (map (requires root.0 xs mode.Write) (points k))) same
    (subst (AreClaims (needs_of_root root node (suc n))) (sym (colours_more (requires root.0 xs mode.Write) n))
    (claims_both _ _ _ _ (fields_claimed root node xs n) (a_claim _ _ _ _ refl refl refl no_claims)))

-- the needs on a new root are Write on each of its fields
roots_are_claimed : (g : Program) (root : RootId) (node sp n : ℕ) → AreClaims (needs_of_root root node (fields_needed g.code n sp)) (root_claims g root.0 sp (points n))
roots_are_claimed g root node sp zero = no_claims
roots_are_claimed g root node sp (suc n) =
    subst (λ b. AreClaims (needs_of_root root node (cond b 0 (length (kinds_of g.code sp)))) (root_claims g root.0 sp (points (suc n))))
    (sym (ne_eqb (suc n) 0 (λ e. omega (arith, e)))) (fields_claimed root node (points (suc n)) (length (kinds_of g.code sp)))

points_kept : (root : RootId) (p c : ℕ) (sets : List (List ℕ)) → map (λ (r : RegionValue). r.points) (children_from root p c sets) ≡ sets
points_kept root p c [] = refl
points_kept root p c (s ∷ sets) = ap (λ l. s ∷ l) (points_kept root p (suc c) sets)

roots_kept : (root : RootId) (p c : ℕ) (sets : List (List ℕ)) (r : RegionValue) → Among (children_from root p c sets) r → r.root.0 ≡ root.0
roots_kept root p c [] r h = absurd h
roots_kept root p c (s ∷ sets) r (inl e) = ap (λ (y : RegionValue). y.root.0) (sym e)
roots_kept root p c (s ∷ sets) r (inr h) = roots_kept root p (suc c) sets r h

partitions_are_made : (r : RegionValue) (p : ℕ) (sets : List (List ℕ)) (flag : Bool) →
    IsMadeOf r.root.0 flag sets (record { root = r.root; disjoint = flag; children = children_from r.root p 0 sets })
partitions_are_made r p sets flag = record { of_root = refl; flagged = refl; made = points_kept r.root p 0 sets; roots = roots_kept r.root p 0 sets }

module _ (g : Program) (log : List CallOut) (s : State) (k : ℕ) (ps : List Part) (run : HasRun g log s k ps) (said : List Said) (f : Frame) (like : IsLike (operation_at s k) f) where
  abbrev o : Operation
  o = operation_at s k

  abbrev stopped : Operation
  stopped = left_of o ps said (Some f)

  abbrev now : State
  now = behind_of s k ps said (Some f)

  -- it gives what it gave, in such a frame
  gives_on : (q : Operation) → q.frame.task ≡ f.task → IsOpen q.activity → (sh : Shape) → Gives g sh o → Gives g sh q
  gives_on q e b sh a = open_gives g sh o q run.was b (e ∙ like.1) a

  -- ---- a root

  module _ (size sp number : ℕ) (met : (r : RegionValue) (ns : List Need) → run.going.world.there r.root.0 ≡ false → r.points ≡ points size →
      AreClaims ns (root_claims g r.root.0 sp (points size)) → Fits g (rooted run.going.world number r.root.0 sp size) run.going.task o.frame.task (with_root r ns r.root (record { frame = f; parts = ps }))) where
    abbrev root : RootId
    root = next_root s

    abbrev node : ℕ
    node = next_node s

    abbrev extent : Extent
    extent = record { space = sp; count = size }

    abbrev framed : Frame
    framed = frame_with_root g.code root node size sp f

    abbrev made_now : State
    made_now = root_made g.code size sp now k

    abbrev u : State
    u = making g.code (made.Root size sp) now k

    abbrev y : World
    y = rooted run.going.world number root.0 sp size

    abbrev q : Operation
    q = record stopped { frame = framed; wait = wait.Nothing }

    first_rows : made_now.operations ≡ set s.operations k (record stopped { frame = framed })
    first_rows = row_again s now k stopped run.within refl (λ z. record z { frame = frame_with_root g.code root node size sp z.frame })

    rows : u.operations ≡ set s.operations k q
    rows = row_again s made_now k (record stopped { frame = framed }) run.within first_rows (λ z. record z { wait = wait.Nothing })

    stays : Stays g log log s u
    stays = one_stays g log s u k q run.within rows (root_stays s.tree (points size)) (extents_stay g s.roots extent) (gives_on q refl tt)

    fresh : run.going.world.there root.0 ≡ false
    fresh = ⊎_elim (λ e. let l = (run.going.roots root.0 e).0 in absurd (omega (arith, l, run.fits.counted))) (λ e. e) (cases_Bool (run.going.world.there root.0))

    known : (r : ℕ) → y.there r ≡ true → IsRootOf u.roots y r
    known r e = of (r == root.0) refl e
      where
        of : (b : Bool) → r == root.0 ≡ b → b || run.going.world.there r ≡ true →
            (r < length u.roots) × (cond b sp (run.going.world.spaces r) ≡ space_at u.roots r) × (cond b (points size) (run.going.world.points r) ≡ points_at u.roots r)
        of true i a =
            let same : r ≡ length s.roots = eqb-true r root.0 i ∙ run.fits.counted in (
              subst (λ n. n < length u.roots) (sym same) (new_root_there g s.roots extent),
              sym (ap (space_at u.roots) same ∙ new_space g s.roots extent),
              sym (ap (points_at u.roots) same ∙ new_points g s.roots extent),
            )
        of false i a = known_stay g log log s u stays run.going.world run.going.roots r a

    needed : Each (λ (n : Need). n.node.0 < length u.tree.nodes) framed.needs.items × (requirements_of u.tree framed.needs.items ≡ claims g y run.going.task)
    needed =
        let fields = fields_needed g.code size sp in
        let old = needs_stay s.tree u.tree stays.nodes o.frame.needs.items run.going.nodes in
        let new = root_needs_there s.tree (points size) root fields in
        let is_old : f.needs.items ≡ o.frame.needs.items = ap (λ (n : Needs). n.items) like.0 in (
          each_both (λ (n : Need). n.node.0 < length u.tree.nodes) f.needs.items (needs_of_root root node fields)
              (subst (Each (λ (n : Need). n.node.0 < length u.tree.nodes)) (sym is_old) old.0) new.0,
          map-append (requirement_of u.tree) f.needs.items (needs_of_root root node fields)
              ∙ (λ i. requirements_of u.tree (is_old i) ++ new.1 i)
              ∙ (λ i. (old.1 ∙ run.going.required) i ++ root_required g root.0 sp size i)
              ∙ sym (claims_rooted run.going.world number root.0 sp size fresh g run.going.task run.knows.own_there),
        )

    root_going : Going g log u k q
    root_going = record {
      world = y;
      task = run.going.task;
      there = ap (slice_get g.code.tasks) like.1 ∙ run.going.there;
      call = run.going.call;
      issued = run.going.issued;
      named = like.1 ∙ run.going.named;
      args = run.going.args;
      roots = known;
      nodes = needed.0;
      required = needed.1;
      once = run.once;
      count = run.going.count;
      results = results_stay g log log s u stays o.children run.going.world.children run.going.world.results run.going.results;
      waits = subst (λ n. Fits g y run.going.task n (record { frame = framed; parts = ps })) (sym like.1)
          (met (region_at root node (points size)) (needs_of_root root node (fields_needed g.code size sp)) fresh refl (roots_are_claimed g root node sp size));
      does = tt;
    }

    pub root_fits : StateFits g log u
    root_fits = one_fits g log s u k q run.within rows (root_stays s.tree (points size)) (extents_stay g s.roots extent) (gives_on q refl tt) run.fits counted
        (subst (λ n. MapFits g (s.roots ++ extent ∷ []) (opened n (points size) (kinds_of g.code sp) s.map)) (sym run.fits.counted) (opened_fits g s.roots extent (points size) s.map run.fits.map))
        root_going
      where
        counted : s.tree.roots + 1 ≡ length (s.roots ++ extent ∷ [])
        counted = let e = length-append s.roots (extent ∷ []) in omega (arith, e, run.fits.counted)

  -- ---- a partition

  module _ (r : RegionValue) (sets : List (List ℕ)) (flag : Bool)
      (met : (p : PartitionValue) → IsMadeOf r.root.0 flag sets p → Fits g run.going.world run.going.task o.frame.task (with_value (value.Partition p) (record { frame = f; parts = ps }))) where
    abbrev parts : PartitionValue
    parts = record { root = r.root; disjoint = flag; children = children_from r.root (next_node s) 0 sets }

    abbrev parted : State
    parted = partition_made r sets flag now k

    abbrev v : State
    v = parked_for parted k wait.Nothing graph.Nothing

    abbrev z : Operation
    z = record stopped { frame = pushed (value.Partition parts) f; wait = wait.Nothing }

    parted_rows : parted.operations ≡ set s.operations k (record stopped { frame = pushed (value.Partition parts) f })
    parted_rows = row_again s now k stopped run.within refl (λ n. record n { frame = pushed (value.Partition parts) n.frame })

    still_rows : v.operations ≡ set s.operations k z
    still_rows = row_again s parted k (record stopped { frame = pushed (value.Partition parts) f }) run.within parted_rows (λ n. record n { wait = wait.Nothing })

    still : Stays g log log s v
    still = one_stays g log s v k z run.within still_rows (partition_stays s.tree r.node.0 sets flag) (roots_same s.roots) (gives_on z refl tt)

    partition_going : Going g log v k z
    partition_going = goes_on g log s k ps run said (pushed (value.Partition parts) f) like v still wait.Nothing (met parts (partitions_are_made r (next_node s) sets flag))

    pub partition_fits : StateFits g log (making g.code (made.Partition r sets flag) now k)
    partition_fits = of (is_here s.tree r && is_sound (set_at s.tree r.node.0) sets flag)
      where
        of : (b : Bool) → StateFits g log (cond b v (ended_by now k ending.Broken))
        of true = one_fits g log s v k z run.within still_rows (partition_stays s.tree r.node.0 sets flag) (roots_same s.roots) (gives_on z refl tt) run.fits run.fits.counted run.fits.map partition_going
        of false = ends_fit g log s k ps run said ending.Broken (λ y e. absurd cc) (Some f)
