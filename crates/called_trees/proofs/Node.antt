-- What a give that yields calls makes of the operation in the tree: it has a child more for each call up to the first that
-- can't be made, as on the table; where there is such a one, it is broken.
use Rattle.std.proofs.Common.{◌≡◌, ◌<◌, ◌++◌, ◌∷◌, ◌∙◌, ◌==◌, ◌&&◌, ◌⊎◌, ⊎_elim, inl, inr, ℕ, suc, Bool, List, None, Option, Some, [], ap, arith, cond, eq-eqb, false, length, map, refl, subst, sym, true}
use Rattle.std.specs.Prelude.{All, nat_le, slice_get}
use Rattle.std.proofs.lemmas.Bool.{cases_eq, ne_eqb}
use Rattle.std.proofs.lemmas.List.Elements.{All-append, All-cons, All-head, All-nil, All-tail, All-weaker}
use Rattle.region_tree.specs.Needs.{requirements_of}
use Rattle.region_tree.specs.Requirements.{Requirement, is_within}
use Rattle.region_tree.specs.declared.needs.Needs.{Needs}
use Rattle.region_tree.specs.declared.tree.RootId.{RootId}
use Rattle.logical_map.specs.Maps.{LogicalMap, is_live}
use Rattle.task_code.specs.declared.code.TaskCode.{TaskCode}
use Rattle.task_code.specs.declared.job.Job.{Job}
use Rattle.machine_terms.specs.declared.frame.Before.{Before}
use Rattle.machine_terms.specs.declared.frame.Frame.{Frame}
use Rattle.machine_terms.specs.declared.outcome.After.{After}
use Rattle.machine_terms.specs.declared.outcome.CallOut.{CallOut}
use Rattle.machine_terms.specs.declared.outcome.Yield.{Yield}
use Rattle.machine_terms.specs.declared.outcome.Yield.TheVariants as yield
use Rattle.machine_terms.specs.declared.value.Value.{Value}
use Rattle.machine_terms.specs.Opening.{needs_on, opening}
use Rattle.machine_terms.specs.Segments.{frame_after, segment, stop_of}
use Rattle.board_rules.specs.Boards.{◌+++◌, Items, Wait, all_issued, at_fault, awaited, child, child_op, closing, first, given, idle, issued, met_by, no_item, nothing, op, out, part, said}
use Rattle.board_rules.specs.Ground.{Ground}
use Rattle.board_rules.specs.NumberedBoards.{Board}
use Rattle.board_rules.specs.Processes.{Map, run_all}
use Rattle.board_rules.specs.Running.{After as BoardAfter, Call, Element, Machine, calls as called_by_tree, puts}
use Rattle.regent_boards.specs.Frames as board
use Rattle.regent_boards.specs.RegentMachine.{regent_ground}
use Rattle.segment_renaming.specs.Renaming.{call_to, value_to, yield_to}
use Rattle.segment_regions.specs.Values.{YieldHas}
use Rattle.segment_regions.proofs.Frames.{segments_keep_frames}
use Rattle.code_boards.specs.Laws.{machine_of}
use Rattle.code_boards.specs.Views.{called, called_with, opened_with, opening_with, refused, spaces_of, value_out, yield_out}
use Rattle.order_boards.proofs.Calls.{as_many_values, values}
use Rattle.board_terms.specs.declared.claim.Claim.{Claim}
use Rattle.board_terms.specs.declared.operation.Activity.{Activity}
use Rattle.board_terms.specs.declared.operation.Activity.TheVariants as activity
use Rattle.board_terms.specs.declared.operation.Operation.{Operation}
use Rattle.board_terms.specs.declared.operation.Wait.TheVariants as waits
use Rattle.board_terms.specs.Calls.{first_opens, frames_before, opens}
use Rattle.board_terms.specs.Claims.{before_of, frame_behind}
use Rattle.board_terms.specs.Gives.{frame_left, with_parts}
use Rattle.board_terms.specs.States.{State, operation_at}
use Rattle.board_trees.specs.Frames.{HasPlaces, IsSeen}
use Rattle.board_trees.specs.Names.{IsNaming, named, requirement_named}
use Rattle.board_trees.specs.Shows.{Shows, ShowsBoard}
use Rattle.board_trees.specs.Waits.{Sibling}
use Rattle.board_trees.proofs.Named.{named_all}
use Rattle.given_trees.specs.Parts.{MapShows}
use Rattle.given_trees.specs.Segments.{AreLeft}
use Rattle.given_trees.proofs.Maps.{parts_live}
use Rattle.given_trees.proofs.Parts.{parts_show}
use Rattle.given_trees.proofs.Segments.{segments_show}
use Rattle.changed_trees.specs.Changes.{IsAt}
use Rattle.changed_trees.specs.Given.{given_of, makings_before}
use Rattle.yielded_trees.proofs.Out.{leaves_places, names_below}
use Rattle.yielded_trees.proofs.Trees.{with_text}
use Rattle.called_trees.proofs.Edits.{in_row}
use Rattle.called_trees.proofs.Issuing.{MayBegin}
use Rattle.called_trees.proofs.Last.{stage_last}
use Rattle.called_trees.proofs.Opens.{all_declared, all_required, requires, within_same}
use Rattle.called_trees.proofs.Calling.{IsAlike, NewCall, frame_of, node_of}
use Rattle.called_trees.proofs.Stepped.{kids, kids_more}
use Rattle.called_trees.proofs.Table as table

both_more : (a b : ℕ) → (a == b) ≡ (suc a == suc b)
both_more a b = elim (cases_eq a b) [
  | inl e ↦ eq-eqb a b e ∙ sym (eq-eqb (suc a) (suc b) (ap (λ n. suc n) e))
  | inr n ↦ ne_eqb a b n ∙ sym (ne_eqb (suc a) (suc b) (λ e. n (omega (arith, e))))
]

module _ (job : Job) (s : State) (b : Board (regent_ground (spaces_of job.code))) (h : ShowsBoard job s b) (k : ℕ) (v : List ℕ) (at : IsAt job b.ways k v)
    (within : k < length s.operations) (claim : Claim) (before : Before) (act : (operation_at s k).activity ≡ activity.Out claim before)
    (cs : List CallOut) (calls : (segment before).ends ≡ yield.Calls cs) where
  abbrev pub G : Ground
  G = regent_ground (spaces_of job.code)

  abbrev pub makings : ℕ
  makings = makings_before job b k v

  abbrev pub M : Machine G
  M = machine_of job makings

  abbrev pub o : Operation
  o = operation_at s k

  abbrev pub a : After
  a = segment before

  -- the frame with which it goes on
  abbrev pub g : Frame
  g = (stop_of before).machine.frame

  pub goes : a.frame ≡ Some g
  goes = ap (λ y. frame_after y g) calls

  abbrev pub live : LogicalMap
  live = with_parts a.parts s.map

  abbrev pub name : ℕ → ℕ
  name = named_all s.roots h.who makings h.made 0

  handed_out : Before → Activity → Before
  handed_out d (activity.Out c b) = b
  handed_out d _ = d

  module _ (earlier : List Sibling) (above : List RootId) (D N : List Requirement) (i : ℕ) (f : board.Frame) (ps : List (Element G)) (wt : Wait G) (d : List (Element G)) (is : Items G)
      (below : All (λ (r : RootId). r.0 < length s.roots) above) (shown : Shows job s h.who b.ways v k earlier above (op D N i f ps (out wt d) is)) where
    abbrev pub roots : List RootId
    roots = above ++ o.frame.own

    abbrev pub met : board.Frame
    met = met_by G M wt f (awaited G M wt is)

    abbrev pub m : BoardAfter G
    m = M.segment met (ps ++ d)

    left : AreLeft job s h.who roots o N met a m
    left = segments_show job s b h v k earlier above D N i f ps d wt is shown below claim before act makings

    seen : IsSeen job.code s.tree s.map s.roots h.who roots o N f ps
    seen = shown.0.seen

    under : All (λ (r : RootId). r.0 < length s.roots) roots
    under = All-append (λ (r : RootId). r.0 < length s.roots) above o.frame.own below (h.own_made k)

    before_is : before ≡ before_of job.code s o shown.0.stands.1.fill
    unfolding handed_out
    before_is = ap (handed_out before) (sym act ∙ shown.0.stands.1.activity_is)

    all_placed : All (λ (x : CallOut). All (HasPlaces s.tree) x.args) cs
    all_placed = subst (YieldHas (HasPlaces s.tree)) calls (leaves_places job s b h k v at claim before act earlier above D N i f ps wt d is below shown).yields

    -- ---- the map

    abbrev now : Map G
    now = run_all G (puts G M m.parts) b.state.map

    held : MapShows job live s.roots h.who now
    held = parts_show job s.roots h.who makings s.map b.state.map roots m.parts a.parts h.made under h.held left.parts left.held left.fitting left.once

    there : All (λ (r : RootId). is_live live r.0 ≡ true) roots
    there = All-weaker (λ (r : RootId). is_live s.map r.0 ≡ true) (λ (r : RootId). is_live live r.0 ≡ true) (λ r l. parts_live a.parts s.map r.0 ∙ l) roots seen.there

    -- ---- the arguments

    naming : IsNaming s.roots h.who roots name
    naming = names_below job s b h k v at claim before act above below

    -- the arguments of a call speak of none but these roots
    abbrev IsOne : CallOut → Type 0
    IsOne c = (one other : ℕ → ℕ) → IsNaming s.roots h.who roots one → IsNaming s.roots h.who roots other → map (value_to (named other)) c.args ≡ map (value_to (named one)) c.args

    args_in : Yield → List (List Value)
    args_in (yield.Calls xs) = map (λ (x : CallOut). x.args) xs
    args_in _ = []

    same_all : (one other : ℕ → ℕ) → IsNaming s.roots h.who roots one → IsNaming s.roots h.who roots other →
        map (λ (x : CallOut). x.args) (map (call_to (named other)) cs) ≡ map (λ (x : CallOut). x.args) (map (call_to (named one)) cs)
    unfolding args_in
    same_all one other z y = ap (λ y. args_in (yield_to (named other) y)) (sym calls) ∙ ap args_in (left.alike other one y z) ∙ ap (λ y. args_in (yield_to (named one) y)) calls

    all_one : All IsOne cs
    all_one = each cs same_all
      where
        first : List Value → List (List Value) → List Value
        first vs [] = vs
        first vs (x ∷ xs) = x

        others : List (List Value) → List (List Value)
        others [] = []
        others (x ∷ xs) = xs

        each : (xs : List CallOut) → ((one other : ℕ → ℕ) → IsNaming s.roots h.who roots one → IsNaming s.roots h.who roots other →
            map (λ (x : CallOut). x.args) (map (call_to (named other)) xs) ≡ map (λ (x : CallOut). x.args) (map (call_to (named one)) xs)) → All IsOne xs
        each [] e = All-nil IsOne
        each (x ∷ xs) e = All-cons IsOne x xs (λ one other z y. ap (first x.args) (e one other z y)) (each xs (λ one other z y. ap others (e one other z y)))

    -- ---- the depth

    met_depth : (w : Wait G) → (met_by G M w f (awaited G M w is)).depth ≡ f.depth
    met_depth first = refl
    met_depth nothing = refl
    met_depth (part q) = refl
    met_depth (child q) = refl

    behind_depth : (w : _) → (frame_behind s o w).depth ≡ o.frame.depth
    behind_depth waits.Beginning = refl
    behind_depth waits.Nothing = refl
    behind_depth (waits.Part root field) = refl
    behind_depth (waits.Child n) = refl

    depth_is : met.depth ≡ g.depth
    depth_is = met_depth wt ∙ ap (λ (x : Frame). x.depth) (seen.frame name naming)
        ∙ sym ((segments_keep_frames before g goes).depth ∙ ap (λ (z : Before). z.frame.depth) before_is ∙ behind_depth o.wait)

    -- ---- a call

    abbrev tree_call : CallOut → Call G
    tree_call c = called_with job.code job.turns met.depth c.task (map value_out (values job.code name c.args)) (slice_get job.code.tasks c.task)

    module _ (c : CallOut) (placed : All (HasPlaces s.tree) c.args) (one : IsOne c) where
      abbrev arguments : List board.Value
      arguments = map value_out (values job.code name c.args)

      same : (other : ℕ → ℕ) → IsNaming s.roots h.who roots other → map (value_to (named other)) c.args ≡ map (value_to (named name)) c.args
      same other z = one name other naming z

      module _ (t : TaskCode) where
        abbrev fits : Bool
        fits = nat_le (length c.args) t.slots

        abbrev declared : Bool
        declared = all_declared s.tree live t.needs c.args

        -- what the child needs
        abbrev needs : List Requirement
        needs = map (requirement_named name) (requires t.needs c.args)

        abbrev covered : Bool
        covered = is_within (requirements_of s.tree (needs_on t.needs c.args)) (requirements_of s.tree o.frame.needs.items)

        abbrev call : Call G
        call = opening_with job.code job.turns g.depth c.task t.slots arguments needs

        abbrev frame : Frame
        frame = opening job.turns (suc g.depth) c.task t c.args

        inside : M.inside needs N ≡ covered
        inside = within_same job s.tree live s.roots h.who makings h.made now held roots under there c.args placed name naming same t.needs N o.frame.needs.items (seen.required name naming)

        -- in the tree
        tree_calls : called_with job.code job.turns met.depth c.task arguments (Some t) ≡ cond (fits && declared) call (refused job.code)
        tree_calls =
            (λ j. cond (nat_le (as_many_values job.code name c.args j) t.slots)
            (opened_with job.code job.turns (depth_is j) c.task t.slots arguments
            (all_required job s.tree live s.roots h.who makings h.made now held roots under there c.args placed name naming same t.needs j)) (refused job.code))
            ∙ by_both fits declared
          where
            by_both : (x y : Bool) → cond x (opened_with job.code job.turns g.depth c.task t.slots arguments (cond y (Some needs) None)) (refused job.code) ≡ cond (x && y) call (refused job.code)
            by_both true true = refl
            by_both true false = refl
            by_both false y = refl

        -- on the table
        table_opens : opens job.code job.turns (table.given job s k within before) (table.left job s k within before) c (Some t) ≡ cond (fits && (declared && covered)) (Some frame) None
        table_opens =
            let F = λ (x : Option Frame). frame_left o.frame x in
            (λ j. cond (fits && (table.declared_is (table.given job s k within before) t.needs c.args j
            && is_within (requirements_of s.tree (needs_on t.needs c.args)) (requirements_of s.tree (F (goes j)).needs.items)))
            (Some (opening job.turns (suc (F (goes j)).depth) c.task t c.args)) None)
            ∙ ap (λ (ns : Needs). cond (fits && (declared && is_within (requirements_of s.tree (needs_on t.needs c.args)) (requirements_of s.tree ns.items))) (Some frame) None) (left.kept g goes).0

      -- it is issued on both, or on neither
      record Issues : Type 0 where
        task : TaskCode
        found : slice_get job.code.tasks c.task ≡ Some task
        opens_so : table.opened job s k within before c ≡ Some (frame task)
        are_declared : declared task ≡ true
        call_is : tree_call c ≡ call task
        is_inside : M.inside (needs task) N ≡ true

      record Refuses : Type 0 where
        opens_not : table.opened job s k within before c ≡ None
        call_not : ((tree_call c).may && M.inside (tree_call c).needs N) ≡ false

      told : Issues ⊎ Refuses
      told = by_task (slice_get job.code.tasks c.task) refl
        where
          opened_is : (t : TaskCode) → slice_get job.code.tasks c.task ≡ Some t → table.opened job s k within before c ≡ cond (fits t && (declared t && covered t)) (Some (frame t)) None
          opened_is t found = ap (opens job.code job.turns (table.given job s k within before) (table.left job s k within before) c) found ∙ table_opens t

          called_is : (t : TaskCode) → slice_get job.code.tasks c.task ≡ Some t → tree_call c ≡ cond (fits t && declared t) (call t) (refused job.code)
          called_is t found = ap (called_with job.code job.turns met.depth c.task arguments) found ∙ tree_calls t

          by_test : (t : TaskCode) → slice_get job.code.tasks c.task ≡ Some t → (p q r : Bool) → fits t ≡ p → declared t ≡ q → covered t ≡ r → Issues ⊎ Refuses
          by_test t found true true true e1 e2 e3 = inl (record {
            task = t;
            found = found;
            opens_so = opened_is t found ∙ (λ j. cond (e1 j && (e2 j && e3 j)) (Some (frame t)) None);
            are_declared = e2;
            call_is = called_is t found ∙ (λ j. cond (e1 j && e2 j) (call t) (refused job.code));
            is_inside = inside t ∙ e3;
          })
          by_test t found true true false e1 e2 e3 = inr (record {
            opens_not = opened_is t found ∙ (λ j. cond (e1 j && (e2 j && e3 j)) (Some (frame t)) None);
            call_not = ap (λ (x : Call G). x.may && M.inside x.needs N) (called_is t found ∙ (λ j. cond (e1 j && e2 j) (call t) (refused job.code))) ∙ inside t ∙ e3;
          })
          by_test t found true false r e1 e2 e3 = inr (record {
            opens_not = opened_is t found ∙ (λ j. cond (e1 j && (e2 j && covered t)) (Some (frame t)) None);
            call_not = ap (λ (x : Call G). x.may && M.inside x.needs N) (called_is t found ∙ (λ j. cond (e1 j && e2 j) (call t) (refused job.code)));
          })
          by_test t found false q r e1 e2 e3 = inr (record {
            opens_not = opened_is t found ∙ (λ j. cond (e1 j && (declared t && covered t)) (Some (frame t)) None);
            call_not = ap (λ (x : Call G). x.may && M.inside x.needs N) (called_is t found ∙ (λ j. cond (e1 j && declared t) (call t) (refused job.code)));
          })

          by_task : (q : Option TaskCode) → slice_get job.code.tasks c.task ≡ q → Issues ⊎ Refuses
          by_task None found = inr (record {
            opens_not = ap (opens job.code job.turns (table.given job s k within before) (table.left job s k within before) c) found;
            call_not = ap (λ (x : Call G). x.may && M.inside x.needs N) (ap (called_with job.code job.turns met.depth c.task arguments) found);
          })
          by_task (Some t) found = by_test t found (fits t) (declared t) (covered t) refl refl refl

    -- ---- all calls

    abbrev news : List CallOut → List NewCall
    news xs = table.new_calls job s k within before xs

    pub record AreTold (xs : List CallOut) : Type 0 where
      pub may : All (MayBegin s.tree live) (news xs)
      pub alike : All (IsAlike job s h.who b.ways k v name g.depth roots) (news xs)
      pub frames : frames_before job.code job.turns (table.given job s k within before) (table.left job s k within before) xs ≡ map (frame_of job g.depth) (news xs)
      pub issued_is : issued G M N (map tree_call xs) ≡ kids job name g.depth (news xs)
      pub all_is : all_issued G M N (map tree_call xs) ≡ (length (news xs) == length xs)

    first_refused : (c : CallOut) (xs : List CallOut) (placed : All (HasPlaces s.tree) c.args) (one : IsOne c) → Refuses c placed one → AreTold (c ∷ xs)
    first_refused c xs placed one r =
        let task = slice_get job.code.tasks c.task in
        let none : news (c ∷ xs) ≡ [] = ap (λ q. table.add_call q task c (news xs)) r.opens_not in
        record {
          may = subst (All (MayBegin s.tree live)) (sym none) (All-nil (MayBegin s.tree live));
          alike = subst (All (IsAlike job s h.who b.ways k v name g.depth roots)) (sym none) (All-nil (IsAlike job s h.who b.ways k v name g.depth roots));
          frames = ap (λ q. first_opens q (frames_before job.code job.turns (table.given job s k within before) (table.left job s k within before) xs)) r.opens_not
              ∙ ap (map (frame_of job g.depth)) (sym none);
          issued_is = ap (λ q. cond q (child_op (op (tree_call c).needs (tree_call c).needs 0 (tree_call c).frame [] (idle first) no_item) (issued G M N (map tree_call xs))) no_item) r.call_not
              ∙ ap (kids job name g.depth) (sym none);
          all_is = ap (λ q. q && all_issued G M N (map tree_call xs)) r.call_not ∙ sym (ne_eqb 0 (suc (length xs)) (λ e. omega (arith, e))) ∙ ap (λ ys. length ys == suc (length xs)) (sym none);
        }

    first_issued : (c : CallOut) (xs : List CallOut) (placed : All (HasPlaces s.tree) c.args) (one : IsOne c) → Issues c placed one → AreTold xs → AreTold (c ∷ xs)
    first_issued c xs placed one r t =
        let new : NewCall = record { out = c; task = r.task } in
        let some : news (c ∷ xs) ≡ new ∷ news xs = λ j. table.add_call (r.opens_so j) (r.found j) c (news xs) in
        record {
          may = subst (All (MayBegin s.tree live)) (sym some) (All-cons (MayBegin s.tree live) new (news xs) (placed, r.are_declared) t.may);
          alike = subst (All (IsAlike job s h.who b.ways k v name g.depth roots)) (sym some) (All-cons (IsAlike job s h.who b.ways k v name g.depth roots) new (news xs) one t.alike);
          frames = (λ j. first_opens (r.opens_so j) (t.frames j)) ∙ ap (map (frame_of job g.depth)) (sym some);
          issued_is = ap (λ (x : Call G). cond (x.may && M.inside x.needs N) (child_op (op x.needs x.needs 0 x.frame [] (idle first) no_item) (issued G M N (map tree_call xs))) no_item) r.call_is
              ∙ ap (λ q. cond q (child_op (node_of job name g.depth false new) (issued G M N (map tree_call xs))) no_item) r.is_inside
              ∙ ap (λ js. child_op (node_of job name g.depth false new) js) t.issued_is ∙ ap (kids job name g.depth) (sym some);
          all_is = ap (λ (x : Call G). (x.may && M.inside x.needs N) && all_issued G M N (map tree_call xs)) r.call_is
              ∙ ap (λ q. q && all_issued G M N (map tree_call xs)) r.is_inside ∙ t.all_is ∙ both_more (length (news xs)) (length xs) ∙ ap (λ ys. length ys == suc (length xs)) (sym some);
        }

    are_told : (xs : List CallOut) → All (λ (x : CallOut). All (HasPlaces s.tree) x.args) xs → All IsOne xs → AreTold xs
    are_told [] p q = record { may = All-nil (MayBegin s.tree live); alike = All-nil (IsAlike job s h.who b.ways k v name g.depth roots); frames = refl; issued_is = refl; all_is = refl }
    are_told (c ∷ xs) p q =
        let placed = All-head (λ (x : CallOut). All (HasPlaces s.tree) x.args) c xs p in
        let one = All-head IsOne c xs q in
        ⊎_elim (λ r. first_issued c xs placed one r (are_told xs (All-tail (λ (x : CallOut). All (HasPlaces s.tree) x.args) c xs p) (All-tail IsOne c xs q)))
        (λ r. first_refused c xs placed one r) (told c placed one)

    pub all_told : AreTold cs
    all_told = are_told cs all_placed all_one

    -- ---- the operation behind it

    abbrev pub goes_on : Bool
    goes_on = length (news cs) == length cs

    yields_are : m.yields ≡ called_by_tree (map tree_call cs)
    yields_are = left.yields name naming ∙ ap (λ y. yield_out job.code job.turns met (yield_to (named name) y)) calls ∙ ap called_by_tree (mapped cs)
      where
        mapped : (xs : List CallOut) → map (called job.code job.turns met.depth) (map (call_to (named name)) xs) ≡ map tree_call xs
        mapped [] = refl
        mapped (x ∷ xs) = ap (λ ys. tree_call x ∷ ys) (mapped xs)

    pub behind_is : given_of job makings (op D N i f ps (out wt d) is)
        ≡ record { left = kids_more job name g.depth (stage_last job goes_on) (news cs) (op D N i m.frame [] (idle nothing) (with_text job is m.text)); effects = puts G M m.parts }
    behind_is =
        ap (given G M [] D N i is m.text m.frame m.parts) yields_are
        ∙ (λ j. record { left = op D N i m.frame [] (cond (all_told.all_is j) (idle nothing) (closing (at_fault board.broken))) (◌+++◌ G is (said m.text (all_told.issued_is j))); effects = puts G M m.parts })
        ∙ (λ j. record { left = op D N i m.frame [] (stage_last job goes_on) (sym (in_row G is (said m.text no_item) (kids job name g.depth (news cs))) j); effects = puts G M m.parts })
