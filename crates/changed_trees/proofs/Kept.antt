-- What shows goes on to be shown where a state changes elsewhere.
use Rattle.std.proofs.Common.{◌≡◌, ◌<◌, ◌⊎◌, ◌++◌, ◌∷◌, ◌∙◌, ◌||◌, ⊎_elim, inl, inr, ℕ, zero, suc, Bool, List, None, Option, Some, [], ap, false, length, map, not, refl, subst, sym, true}
use Rattle.std.specs.Prelude.{All, filter, slice_get}
use Rattle.std.specs.List.{Contains}
use Rattle.std.proofs.lemmas.Bool.{and_from, and_parts, cases_Bool, false≢true, false_from_ne_true}
use Rattle.std.proofs.lemmas.List.Elements.{All-append, All-contains, All-contains_itself, All-cons, All-head, All-nil, All-tail, All-weaker, Contains-append_left, Contains-append_right}
use Rattle.plain_values.specs.Points.{within}
use Rattle.region_finder.specs.Forests.{Upward}
use Rattle.region_finder.specs.Listings.{Listed, PlacedNeed, needs_in}
use Rattle.region_tree.specs.Needs.{AreNeeds, IsNeed, requirements_of}
use Rattle.region_tree.specs.Requirements.{Requirement, interfere, is_of}
use Rattle.region_tree.specs.Trees.{is_region, node_at, points_of_content, set_at}
use Rattle.region_tree.specs.Entries.{TreeNode}
use Rattle.region_tree.specs.declared.needs.Need.{Need}
use Rattle.region_tree.specs.declared.tree.OpNumber.{OpNumber}
use Rattle.region_tree.specs.declared.tree.RootId.{RootId}
use Rattle.logical_map.specs.Fills.{Filling}
use Rattle.logical_map.specs.Maps.{columns_of, is_live}
use Rattle.dependence_graph.specs.Knots.{all_done, is_done, is_idle, number, some_failed, stage_at}
use Rattle.dependence_graph.specs.declared.stage.Stage.{Stage as Knotted}
use Rattle.task_code.specs.declared.job.Job.{Job}
use Rattle.machine_terms.specs.Orders.{settled}
use Rattle.machine_terms.specs.declared.value.RegionValue.{RegionValue}
use Rattle.machine_terms.specs.declared.value.Value.{Value}
use Rattle.machine_terms.specs.declared.value.Value.TheVariants as value
use Rattle.board_rules.specs.Boards.{Items, Stage as BoardStage, Wait as BoardWait, child, child_op, closing, dropped, filling, first, idle, no_item, nothing, out, over, part, said}
use Rattle.board_rules.specs.Ground.{Ground}
use Rattle.board_rules.specs.Running.{Element, Spot}
use Rattle.regent_boards.specs.Frames as board
use Rattle.regent_boards.specs.RegentMachine.{regent_ground}
use Rattle.code_boards.specs.Views.{spaces_of}
use Rattle.board_terms.specs.declared.operation.Activity.TheVariants as activity
use Rattle.board_terms.specs.declared.operation.Operation.{Operation}
use Rattle.board_terms.specs.declared.operation.Wait.{Wait}
use Rattle.board_terms.specs.declared.operation.Wait.TheVariants as wait
use Rattle.board_terms.specs.Claims.{before_of, frame_behind, value_at, value_of}
use Rattle.board_terms.specs.Closings.{all_over}
use Rattle.board_terms.specs.States.{State}
use Rattle.board_trees.specs.Frames.{HasPlaces, IsPlaced, IsSeen}
use Rattle.board_trees.specs.Names.{IsNaming, name_of, pointed, requirement_named}
use Rattle.board_trees.specs.Shows.{AreListed, IfRuns, IsUpward, ShowsChildren, needs_issued, siblings}
use Rattle.board_trees.specs.Stages.{AwaitsOn, ChildrenAre, Fills, HasWait, IsFilled, IsWait, Stands, WaitsWell}
use Rattle.board_trees.specs.Waits.{Sibling, WaitsFor, WaitsForChild, all_clear, has_ended, is_spared, is_written_over}
use Rattle.changed_trees.specs.Changes.{Change, IsWider}

-- ---- roots

pub wider_on : (u : State) (roots more own : List RootId) → IsWider u roots more → IsWider u (roots ++ own) (more ++ own)
wider_on u roots more own h = record {
  kept = All-append (Contains (more ++ own)) roots own
      (All-weaker (Contains more) (Contains (more ++ own)) (λ r c. Contains-append_left more own r c) roots h.kept)
      (λ i d l. Contains-append_right more own _ (All-contains_itself own i d l));
  added = All-append (λ (r : RootId). Contains (roots ++ own) r ⊎ (is_live u.map r.0 ≡ true)) more own
      (All-weaker (λ (r : RootId). Contains roots r ⊎ (is_live u.map r.0 ≡ true)) (λ (r : RootId). Contains (roots ++ own) r ⊎ (is_live u.map r.0 ≡ true))
      (λ r c. ⊎_elim (λ x. inl (Contains-append_left roots own r x)) (λ x. inr x) c) more h.added)
      (λ i d l. inl (Contains-append_right roots own _ (All-contains_itself own i d l)));
}

pub wider_itself : (u : State) (roots : List RootId) → IsWider u roots roots
wider_itself u roots = record {
  kept = All-contains_itself roots;
  added = λ i d l. inl (All-contains_itself roots i d l);
}

-- ---- as many numbers as children

module _ (job : Job) where
  abbrev pub Matches : List OpNumber → Items (regent_ground (spaces_of job.code)) → Type 0
  Matches ks no_item = ks ≡ []
  Matches ks (said t is) = Matches ks is
  Matches [] (child_op n is) = ⊥
  Matches (k ∷ ks) (child_op n is) = Matches ks is

  pub shown_match : (s : State) (who : ℕ → ℕ) (ways : List (List ℕ)) (way : List ℕ) (j c : ℕ) (earlier : List Sibling) (roots : List RootId) (ks : List OpNumber) (is : Items (regent_ground (spaces_of job.code))) →
      ShowsChildren job s who ways way j c earlier roots ks is → Matches ks is
  shown_match s who ways way j c earlier roots ks no_item h = h
  shown_match s who ways way j c earlier roots ks (said t is) h = shown_match s who ways way j c earlier roots ks is h
  shown_match s who ways way j c earlier roots [] (child_op n is) h = absurd h
  shown_match s who ways way j c earlier roots (k ∷ ks) (child_op n is) h =
      shown_match s who ways way j (suc c) (earlier ++ record { op = k.0; needs = needs_issued job n } ∷ []) roots ks is h.2

-- ---- needs of regions that are there

module _ (s : State) where
  abbrev pub IsThere : Need → Type 0
  IsThere n = n.node.0 < length s.tree.nodes

  pub entry_there : (job : Job) (ms : List PlacedNeed) → All (IsUpward job s.tree) ms → All IsThere (map (λ (m : PlacedNeed). m.need) ms)
  entry_there job [] h = All-nil IsThere
  entry_there job (m ∷ ms) h = All-cons IsThere m.need (map (λ (m : PlacedNeed). m.need) ms) (All-head (IsUpward job s.tree) m ms h).there
      (entry_there job ms (All-tail (IsUpward job s.tree) m ms h))

module _ (job : Job) (s u : State) (who now : ℕ → ℕ) (ways later : List (List ℕ)) (At : List ℕ → Type 0) (change : Change job s u who now ways later At) where
  abbrev G : Ground
  G = regent_ground (spaces_of job.code)

  -- ---- regions

  set_kept : (n : ℕ) → n < length s.tree.nodes → set_at s.tree n ≡ set_at u.tree n
  set_kept n l = ap (λ (x : TreeNode). points_of_content x.content) (sym (change.nodes n l).1)

  pub requirements_kept : (ns : List Need) → All (IsThere s) ns → requirements_of s.tree ns ≡ requirements_of u.tree ns
  requirements_kept [] h = refl
  requirements_kept (n ∷ ns) h =
      let e = set_kept n.node.0 (All-head (IsThere s) n ns h) in
      λ i. record { root = n.root.0; points = e i; field = n.field; mode = n.mode } ∷ requirements_kept ns (All-tail (IsThere s) n ns h) i

  needs_are : (ns : List Need) → AreNeeds s.tree ns → All (IsThere s) ns
  needs_are ns h = All-weaker (IsNeed s.tree) (IsThere s) (λ n x. x.region.there) ns h

  placed_kept : (r : RegionValue) → IsPlaced s.tree r → IsPlaced u.tree r
  placed_kept r h =
      let e = change.nodes r.node.0 h.there in record {
        there = e.0;
        points = ap (λ (x : TreeNode). x.content) e.1 ∙ h.points;
        root = ap (λ (x : TreeNode). x.root) e.1 ∙ h.root;
      }

  pub value_placed : (v : Value) → HasPlaces s.tree v → HasPlaces u.tree v
  value_placed (value.Number z) h = tt
  value_placed (value.Space n) h = tt
  value_placed (value.Region r) h = placed_kept r h
  value_placed (value.Partition p) h = All-weaker (IsPlaced s.tree) (IsPlaced u.tree) placed_kept p.children h
  value_placed (value.Pending i) h = tt

  need_kept : (n : Need) → IsNeed s.tree n → IsNeed u.tree n
  need_kept n h =
      let e = change.nodes n.node.0 h.region.there in record {
        region = record { there = e.0; kind = ap (λ (x : TreeNode). is_region x.content) e.1 ∙ h.region.kind };
        root = h.root ∙ ap (λ (x : TreeNode). x.root) (sym e.1);
      }

  upward_kept : (m : PlacedNeed) → IsUpward job s.tree m → IsUpward job u.tree m
  upward_kept m h = record {
    there = (change.nodes m.need.node.0 h.there).0;
    way = All-weaker
        (λ (x : Upward). (x.0.0 < length s.tree.nodes) × (is_region (node_at s.tree x.0.0).content ≡ true → within (set_at s.tree m.need.node.0) (set_at s.tree x.0.0) ≡ true))
        (λ (x : Upward). (x.0.0 < length u.tree.nodes) × (is_region (node_at u.tree x.0.0).content ≡ true → within (set_at u.tree m.need.node.0) (set_at u.tree x.0.0) ≡ true))
        (λ x q.
        let same = (change.nodes x.0.0 q.0).1 in (
          (change.nodes x.0.0 q.0).0,
          λ e. (λ i. within (sym (set_kept m.need.node.0 h.there) i) (sym (set_kept x.0.0 q.0) i)) ∙ q.1 (ap (λ (y : TreeNode). is_region y.content) (sym same) ∙ e),
        )) m.way h.way;
  }

  -- ---- names

  module _ (roots more : List RootId) (wider : IsWider u roots more) (below : All (λ (r : RootId). r.0 < length s.roots) roots) where
    pub back : (name : ℕ → ℕ) → IsNaming u.roots now more name → IsNaming s.roots who roots name
    back name is = record {
      one = is.one;
      known = λ i d l.
          All-contains (λ (r : RootId). name r.0 ≡ name_of u.roots now r.0) more _ is.known (wider.kept i d l)
          ∙ change.names _ (below i d l);
    }

    pub seen_kept : (o : Operation) (N : List Requirement) (f : board.Frame) (ps : List (Element G)) →
        IsSeen job.code s.tree s.map s.roots who roots o N f ps → IsSeen job.code u.tree u.map u.roots now more o N f ps
    seen_kept o N f ps h = record {
      frame = λ name is. h.frame name (back name is);
      needs = h.needs;
      required = λ name is. h.required name (back name is) ∙ ap (map (requirement_named name)) (requirements_kept o.frame.needs.items (needs_are o.frame.needs.items h.placed.needs));
      parts = λ name is. h.parts name (back name is);
      held = h.held;
      fitting = h.fitting;
      once = h.once;
      placed = record {
        slots = All-weaker (HasPlaces s.tree) (HasPlaces u.tree) value_placed o.frame.slots h.placed.slots;
        stack = All-weaker (HasPlaces s.tree) (HasPlaces u.tree) value_placed o.frame.stack h.placed.stack;
        needs = All-weaker (IsNeed s.tree) (IsNeed u.tree) need_kept o.frame.needs.items h.placed.needs;
      };
      there = λ i d l. ⊎_elim
          (λ c. change.there _ (All-contains (λ (r : RootId). is_live s.map r.0 ≡ true) roots _ h.there c)) (λ e. e) (wider.added i d l);
      fields = All-weaker (λ (n : Need). n.field < length (columns_of s.map n.root.0)) (λ (n : Need). n.field < length (columns_of u.map n.root.0))
          (λ n l. change.fields n.root.0 n.field l) o.frame.needs.items h.fields;
    }

    -- ---- what is listed

    module _ (j : ℕ) (stays : (e : Listed) → e.context ≡ number j → has_ended u.waits.knots e.op.0 ≡ false → Contains s.waits.listing e → Contains u.waits.listing e) where
      pub listed_kept : (xs : List Sibling) → AreListed job s who roots j xs → AreListed job u now more j xs
      listed_kept [] h = tt
      listed_kept (x ∷ xs) h = (
        λ e.
            let l = h.0 (false_from_ne_true (has_ended s.waits.knots x.op) (λ t. false≢true (sym e ∙ change.ended x.op t))) in
            let same = requirements_kept (needs_in l.entry) (entry_there s job l.entry.needs l.upward) in
            let all_same = requirements_kept l.entry.issued (needs_are l.entry.issued l.placed) in
            record {
              entry = l.entry;
              there = stays l.entry l.context (subst (λ (o : OpNumber). has_ended u.waits.knots o.0 ≡ false) (sym l.op_is) e) l.there;
              op_is = l.op_is;
              context = l.context;
              issued = λ name is. l.issued name (back name is) ∙ ap (map (requirement_named name)) all_same;
              placed = All-weaker (IsNeed s.tree) (IsNeed u.tree) need_kept l.entry.issued l.placed;
              upward = All-weaker (IsUpward job s.tree) (IsUpward job u.tree) upward_kept l.entry.needs l.upward;
              alike = λ name other is too. subst (λ rs. map (requirement_named name) rs ≡ map (requirement_named other) rs) same (l.alike name other (back name is) (back other too));
              own = λ name is. subst (λ rs. All (Contains (pointed x.needs)) (map (requirement_named name) rs)) same (l.own name (back name is));
              others = λ name is. subst (λ rs. All (λ (r : Requirement). Contains (map (requirement_named name) rs) r ⊎ (is_written_over xs r ≡ true)) (pointed x.needs)) same
                  (l.others name (back name is));
            },
        listed_kept xs h.1,
      )

    -- ---- stages

    wait_kept : (needs : _) (parts : _) (children : List OpNumber) (v : Wait) (w : BoardWait G) → IsWait job.code s.roots who roots needs parts children v w → IsWait job.code u.roots now more needs parts children v w
    wait_kept needs parts children wait.Beginning first h = h
    wait_kept needs parts children wait.Beginning nothing h = absurd h
    wait_kept needs parts children wait.Beginning (part k) h = absurd h
    wait_kept needs parts children wait.Beginning (child c) h = absurd h
    wait_kept needs parts children wait.Nothing first h = absurd h
    wait_kept needs parts children wait.Nothing nothing h = h
    wait_kept needs parts children wait.Nothing (part k) h = absurd h
    wait_kept needs parts children wait.Nothing (child c) h = absurd h
    wait_kept needs parts children (wait.Part root field) first h = absurd h
    wait_kept needs parts children (wait.Part root field) nothing h = absurd h
    wait_kept needs parts children (wait.Part root field) (part k) h = (h.0, h.1, (h.2.0, λ name is. h.2.1 name (back name is)))
    wait_kept needs parts children (wait.Part root field) (child c) h = absurd h
    wait_kept needs parts children (wait.Child n) first h = absurd h
    wait_kept needs parts children (wait.Child n) nothing h = absurd h
    wait_kept needs parts children (wait.Child n) (part k) h = absurd h
    wait_kept needs parts children (wait.Child n) (child c) h = h

    pub has_wait_kept : (o : Operation) (w : BoardWait G) → HasWait job.code s.roots who roots o w → HasWait job.code u.roots now more o w
    has_wait_kept o w h = wait_kept o.frame.needs.items o.parts o.children o.wait w h

    filled_kept : (N : List Requirement) (k : board.Key) (g : Filling) (d : List (Element G)) (l : List (Spot G)) →
        IsFilled job.code s.roots who roots N k g d l → IsFilled job.code u.roots now more N k g d l
    filled_kept N k g d l h = record {
      key = (h.key.0, λ name is. h.key.1 name (back name is));
      kind = h.kind;
      wanted = h.wanted;
      sized = h.sized;
      fitting = h.fitting;
      moved = h.moved;
      filled = h.filled;
      left = h.left;
    }

    fills_kept : (N : List Requirement) (w : BoardWait G) (o : Option Filling) (d : List (Element G)) (l : List (Spot G)) →
        Fills job.code s.roots who roots N w o d l → Fills job.code u.roots now more N w o d l
    fills_kept N first None d l h = h
    fills_kept N first (Some g) d l h = absurd h
    fills_kept N nothing None d l h = h
    fills_kept N nothing (Some g) d l h = absurd h
    fills_kept N (part k) None d l h = absurd h
    fills_kept N (part k) (Some g) d l h = filled_kept N k g d l h
    fills_kept N (child c) None d l h = h
    fills_kept N (child c) (Some g) d l h = absurd h

    -- the answer that is waited for is that of one that has ended
    frame_kept : (o : Operation) (v : Wait) (w : BoardWait G) (xs : List Sibling) (on : List OpNumber) → IsWait job.code s.roots who roots o.frame.needs.items o.parts o.children v w →
        ((c : ℕ) → w ≡ child c → value_at u (slice_get o.children c) ≡ value_at s (slice_get o.children c)) → frame_behind u o v ≡ frame_behind s o v
    frame_kept o wait.Beginning w xs on h a = refl
    frame_kept o wait.Nothing w xs on h a = refl
    frame_kept o (wait.Part root field) w xs on h a = refl
    frame_kept o (wait.Child n) first xs on h a = absurd h
    frame_kept o (wait.Child n) nothing xs on h a = absurd h
    frame_kept o (wait.Child n) (part k) xs on h a = absurd h
    frame_kept o (wait.Child n) (child c) xs on h a =
        ap (λ z. record o.frame { slots = map (settled n z) o.frame.slots })
        (ap (λ m. value_at u (slice_get o.children m)) h ∙ a c refl ∙ ap (λ m. value_at s (slice_get o.children m)) (sym h))

    pub stands_kept : (kn : Knotted) (o : Operation) (N : List Requirement) (st : BoardStage G) →
        ((w : BoardWait G) (d : List (Element G)) (c : ℕ) → st ≡ out w d → w ≡ child c → value_at u (slice_get o.children c) ≡ value_at s (slice_get o.children c)) →
        Stands job.code s.roots who roots s kn o N st → Stands job.code u.roots now more u kn o N st
    stands_kept kn o N (idle first) a h = (h.0, (h.1.0, has_wait_kept o first h.1.1))
    stands_kept kn o N (idle nothing) a h = (h.0, (h.1.0, has_wait_kept o nothing h.1.1))
    stands_kept kn o N (idle (part k)) a h = (h.0, (h.1.0, has_wait_kept o (part k) h.1.1))
    stands_kept kn o N (idle (child c)) a h = (h.0, (h.1.0, has_wait_kept o (child c) h.1.1))
    stands_kept kn o N (filling w d l) a h = (
      h.0,
      record {
        waits = has_wait_kept o w h.1.waits;
        claim = h.1.claim;
        fill = h.1.fill;
        activity_is = h.1.activity_is;
        fills = fills_kept N w h.1.fill d l h.1.fills;
      },
    )
    stands_kept kn o N (out w d) a h = (
      h.0,
      record {
        waits = has_wait_kept o w h.1.waits;
        claim = h.1.claim;
        fill = h.1.fill;
        activity_is = h.1.activity_is
            ∙ (λ i. activity.Out h.1.claim (record (before_of job.code s o h.1.fill) { frame = sym (frame_kept o o.wait w [] [] h.1.waits (λ c e. a w d c refl e)) i }));
        fills = fills_kept N w h.1.fill d [] h.1.fills;
      },
    )
    stands_kept kn o N (closing e) a h = h
    stands_kept kn o N (over e) a h = h
    stands_kept kn o N dropped a h = (h.0, (h.1.0, has_wait_kept o first h.1.1))

  -- ---- what is waited for

  pub all_done_kept : (on : List OpNumber) → all_done s.waits.knots on ≡ true → all_done u.waits.knots on ≡ true
  all_done_kept [] e = refl
  all_done_kept (o ∷ on) e =
      let parts = and_parts (is_done (stage_at s.waits.knots o.0)) (all_done s.waits.knots on) e in
      and_from (is_done (stage_at u.waits.knots o.0)) (all_done u.waits.knots on) (change.ended o.0 parts.0) (all_done_kept on parts.1)

  either_ended : (k : ℕ) (b : Bool) → (has_ended s.waits.knots k || b) ≡ true → (has_ended u.waits.knots k || b) ≡ true
  either_ended k b e = ⊎_elim (λ t. ap (λ c. c || b) (change.ended k t)) (λ f. other b (ap (λ c. c || b) (sym f) ∙ e)) (cases_Bool (has_ended s.waits.knots k))
    where
      other : (b : Bool) → b ≡ true → (has_ended u.waits.knots k || b) ≡ true
      other b t = ap (λ c. has_ended u.waits.knots k || c) t ∙ always (has_ended u.waits.knots k)
        where
          always : (c : Bool) → (c || true) ≡ true
          always true = refl
          always false = refl

  pub waits_for_kept : (Q : List Requirement) (xs : List Sibling) (on : List OpNumber) → WaitsFor s.waits.knots Q xs on → WaitsFor u.waits.knots Q xs on
  waits_for_kept Q [] on h = h
  waits_for_kept Q (x ∷ xs) on (inl h) = inl (either_ended x.op (is_spared Q x xs) h.0, waits_for_kept Q xs on h.1)
  waits_for_kept Q (x ∷ xs) on (inr h) = inr (h.0, h.1, h.2, waits_for_kept Q xs h.0 h.3)

  pub clear_kept : (Q : List Requirement) (xs : List Sibling) → all_clear s.waits.knots Q xs ≡ true → all_clear u.waits.knots Q xs ≡ true
  clear_kept Q [] e = refl
  clear_kept Q (x ∷ xs) e =
      let parts = and_parts (has_ended s.waits.knots x.op || not (interfere x.needs Q)) (all_clear s.waits.knots Q xs) e in
      and_from (has_ended u.waits.knots x.op || not (interfere x.needs Q)) (all_clear u.waits.knots Q xs) (either_ended x.op (not (interfere x.needs Q)) parts.0) (clear_kept Q xs parts.1)

  waits_for_child_kept : (c : ℕ) (xs : List Sibling) (on : List OpNumber) → WaitsForChild s.waits.knots c xs on → WaitsForChild u.waits.knots c xs on
  waits_for_child_kept c [] on h = h
  waits_for_child_kept zero (x ∷ xs) on (inl h) = inl h
  waits_for_child_kept zero (x ∷ xs) on (inr h) = inr (h.0, change.ended x.op h.1)
  waits_for_child_kept (suc c) (x ∷ xs) on h = waits_for_child_kept c xs on h

  pub awaits_kept : (D N : List Requirement) (earlier children : List Sibling) (w : BoardWait G) (on : List OpNumber) →
      AwaitsOn job.code s.waits.knots D N earlier children w on → AwaitsOn job.code u.waits.knots D N earlier children w on
  awaits_kept D N earlier children first on h = waits_for_kept D earlier on h
  awaits_kept D N earlier children nothing on h = h
  awaits_kept D N earlier children (part x) on h = waits_for_kept (filter (is_of x.root x.field) N) children on h
  awaits_kept D N earlier children (child c) on h = waits_for_child_kept c children on h

  idle_is : (roots : List RootId) (kn : Knotted) (o : Operation) (N : List Requirement) (w : BoardWait G) → Stands job.code s.roots who roots s kn o N (idle w) → is_idle kn ≡ true
  idle_is roots kn o N first h = ⊎_elim (λ e. ap is_idle e) (λ e. ap is_idle e) h.0
  idle_is roots kn o N nothing h = ap is_idle h.0
  idle_is roots kn o N (part k) h = ap is_idle h.0
  idle_is roots kn o N (child c) h = ap is_idle h.0

  pub waits_well_kept : (roots : List RootId) (kn : Knotted) (o : Operation) (D N : List Requirement) (earlier children : List Sibling) (on : List OpNumber) (st : BoardStage G) →
      (is_idle kn ≡ true → some_failed s.waits.knots on ≡ false → some_failed u.waits.knots on ≡ false) →
      Stands job.code s.roots who roots s kn o N st → WaitsWell job.code s.waits.knots D N earlier children on st → WaitsWell job.code u.waits.knots D N earlier children on st
  waits_well_kept roots kn o D N earlier children on (idle w) failed q h = (awaits_kept D N earlier children w on h.0, failed (idle_is roots kn o N w q) h.1)
  waits_well_kept roots kn o D N earlier children on (filling w d l) failed q h = (awaits_kept D N earlier children w on h.0, all_done_kept on h.1)
  waits_well_kept roots kn o D N earlier children on (out w d) failed q h = (awaits_kept D N earlier children w on h.0, all_done_kept on h.1)
  waits_well_kept roots kn o D N earlier children on (closing e) failed q h = tt
  waits_well_kept roots kn o D N earlier children on (over e) failed q h = tt
  waits_well_kept roots kn o D N earlier children on dropped failed q h = tt

  pub children_are_kept : (on : List OpNumber) (st : BoardStage G) → all_over u on ≡ all_over s on → ChildrenAre job.code s on st → ChildrenAre job.code u on st
  children_are_kept on (idle w) e h = tt
  children_are_kept on (filling w d l) e h = tt
  children_are_kept on (out w d) e h = tt
  children_are_kept on (closing x) e h = e ∙ h
  children_are_kept on (over x) e h = e ∙ h
  children_are_kept on dropped e h = h

  pub if_runs : {A B : Type 0} (st : BoardStage G) → (A → B) → IfRuns job st A → IfRuns job st B
  if_runs (idle w) f h = f h
  if_runs (filling w d l) f h = f h
  if_runs (out w d) f h = f h
  if_runs (closing e) f h = tt
  if_runs (over e) f h = tt
  if_runs dropped f h = tt

  -- ---- answers that are waited for

  pub answer_kept : (c : ℕ) (on ks : List OpNumber) (is : Items G) → Matches job ks is → WaitsForChild s.waits.knots c (siblings job ks is) on → all_done s.waits.knots on ≡ true →
      value_at u (slice_get ks c) ≡ value_at s (slice_get ks c)
  answer_kept c on ks no_item h w e = ap (λ ks. value_at u (slice_get ks c)) h ∙ ap (λ ks. value_at s (slice_get ks c)) (sym h)
  answer_kept c on ks (said t is) h w e = answer_kept c on ks is h w e
  answer_kept c on [] (child_op n is) h w e = absurd h
  answer_kept zero on (k ∷ ks) (child_op n is) h w e = ap value_of (change.answers k.0
      (⊎_elim (λ q. (and_parts (is_done (stage_at s.waits.knots k.0)) true (ap (all_done s.waits.knots) (sym q) ∙ e)).0) (λ q. q.1) w))
  answer_kept (suc c) on (k ∷ ks) (child_op n is) h w e = answer_kept c on ks is h w e

  pub out_answers : (D N : List Requirement) (earlier : List Sibling) (o : Operation) (on : List OpNumber) (is : Items G) (st : BoardStage G) →
      Matches job o.children is → WaitsWell job.code s.waits.knots D N earlier (siblings job o.children is) on st →
      (w : BoardWait G) (d : List (Element G)) (c : ℕ) → st ≡ out w d → w ≡ child c → value_at u (slice_get o.children c) ≡ value_at s (slice_get o.children c)
  out_answers D N earlier o on is st h q w d c e f =
      let x = subst (λ st. WaitsWell job.code s.waits.knots D N earlier (siblings job o.children is) on st) (e ∙ ap (λ w. out w d) f) q in
      answer_kept c on o.children is h x.0 x.1
