-- A part that is wanted: what the tree takes for it is what the table fills.
use Rattle.std.proofs.Common.{◌≡◌, ◌<◌, ◌∷◌, ◌∙◌, ◌&&◌, ◌||◌, ◌==◌, ℕ, Bool, List, [], ap, arith, cond, eqb-true, false, length, map, refl, subst, sym, true}
use Rattle.std.specs.Prelude.{All, get_or, if◌then◌else◌, nat_lt}
use Rattle.std.proofs.lemmas.Bool.{and_parts}
use Rattle.std.proofs.lemmas.List.{length-map}
use Rattle.std.proofs.lemmas.List.Elements.{All-cons, All-filter, All-head, All-nil, All-tail}
use Rattle.std.proofs.Math.ListN.{get_or-map}
use Rattle.lane_kernels.specs.Numbers.{FitsWidth, identity_of, width_of}
use Rattle.lane_kernels.specs.declared.numbers.FieldKind.TheVariants.{Truth}
use Rattle.lane_kernels.specs.declared.numbers.Mode.{Mode as FieldMode}
use Rattle.lane_kernels.specs.declared.numbers.Mode.TheVariants as mode
use Rattle.lane_kernels.proofs.Operators.{identity}
use Rattle.plain_values.specs.Points.{union_of, with_point}
use Rattle.region_tree.specs.Needs.{AreNeeds, IsNeed, requirement_of, requirements_of}
use Rattle.region_tree.specs.Requirements.{Requirement, all_modes, is_mode, is_of, mode_at, part_of, part_of_mode, parts_of_modes, points_joined, points_required}
use Rattle.region_tree.specs.Trees.{set_at}
use Rattle.region_tree.specs.declared.needs.Need.{Need}
use Rattle.region_tree.specs.declared.tree.RootId.{RootId}
use Rattle.logical_map.specs.Fills.{number_for}
use Rattle.logical_map.specs.Maps.{Column, LogicalMap, column_of, columns_of, is_live, is_root, no_column}
use Rattle.task_code.specs.declared.job.Job.{Job}
use Rattle.machine_terms.specs.Contents.{kinds_of}
use Rattle.machine_terms.specs.Opening.{with_points}
use Rattle.machine_terms.specs.Parts.{is_needed}
use Rattle.board_rules.specs.Ground.{Ground}
use Rattle.board_rules.specs.Processes.{Map}
use Rattle.board_rules.specs.Running.{Element, Machine, number_of}
use Rattle.regent_boards.specs.Frames as board
use Rattle.regent_boards.specs.Frames.{Key, Location}
use Rattle.regent_boards.specs.RegentMachine.{as_held, kind_of, regent_ground}
use Rattle.regent_boards.proofs.NeedRenaming.{part_to}
use Rattle.segment_renaming.proofs.Alike.{same_root}
use Rattle.code_boards.specs.Views.{spaces_of}
use Rattle.order_boards.proofs.Needs as orders
use Rattle.order_boards.proofs.Needs.{part_pointed}
use Rattle.order_boards.proofs.Stands.{kind_same}
use Rattle.board_terms.specs.declared.operation.Operation.{Operation}
use Rattle.board_terms.specs.Claims.{requirements_at}
use Rattle.board_terms.specs.States.{State, no_extent}
use Rattle.board_trees.specs.Frames.{IsSeen}
use Rattle.board_trees.specs.Names.{AreMade, IsNaming, name_of, named, pointed, requirement_named}
use Rattle.board_trees.specs.Shows.{HoldsMap, IsWithinRoot}
use Rattle.board_trees.specs.Stages.{IsKey}
use Rattle.board_trees.proofs.Named.{is_naming, named_all, one_name}

-- ---- lists of points

module _ (P : ℕ → Type 0) where
  all_with : (x : ℕ) (ys : List ℕ) → P x → All P ys → All P (with_point x ys)
  all_with x [] h g = All-cons P x [] h g
  all_with x (y ∷ ys) h g = chosen (all_with x ys h (All-tail P y ys g)) (nat_lt x y) (x == y)
    where
      chosen : All P (with_point x ys) → (b c : Bool) → All P (if b then (x ∷ y ∷ ys) else (if c then (y ∷ ys) else (y ∷ with_point x ys)))
      chosen more true c = All-cons P x (y ∷ ys) h g
      chosen more false true = g
      chosen more false false = All-cons P y (with_point x ys) (All-head P y ys g) more

  all_union : (xs ys : List ℕ) → All P xs → All P ys → All P (union_of xs ys)
  all_union [] ys h g = g
  all_union (x ∷ xs) ys h g = all_with x (union_of xs ys) (All-head P x xs h) (all_union xs ys (All-tail P x xs h) g)

  -- what holds of all points that are required holds of those of each piece
  all_parts : (rs : List Requirement) (root field : ℕ) → All P (points_required rs root field) → (ms : List FieldMode) → All (λ (q : List ℕ × FieldMode). All P q.0) (parts_of_modes rs root field ms)
  all_parts rs root field h [] = All-nil (λ (q : List ℕ × FieldMode). All P q.0)
  all_parts rs root field h (m ∷ ms) = split (points_joined rs root field m) (All-filter (λ p. is_mode m (mode_at rs root field p)) P (points_required rs root field) h) (all_parts rs root field h ms)
    where
      split : (xs : List ℕ) → All P xs → All (λ (q : List ℕ × FieldMode). All P q.0) (parts_of_modes rs root field ms) → All (λ (q : List ℕ × FieldMode). All P q.0) (part_of_mode xs m (parts_of_modes rs root field ms))
      split [] g more = more
      split (x ∷ xs) g more = All-cons (λ (q : List ℕ × FieldMode). All P q.0) (x ∷ xs, m) (parts_of_modes rs root field ms) g more

-- ---- fields that are there

columns_live : (rs : LogicalMap) (root : ℕ) → 0 < length (columns_of rs root) → is_live rs root ≡ true
columns_live [] root l = absurd (omega (arith, l))
columns_live (r ∷ rs) root l = chosen (is_root root r) (columns_live rs root) l
  where
    chosen : (b : Bool) → (0 < length (columns_of rs root) → is_live rs root ≡ true) → 0 < length (cond b r.columns (columns_of rs root)) → (b || is_live rs root) ≡ true
    chosen true more l = refl
    chosen false more l = more l

need_there : (live : LogicalMap) (root field : ℕ) (ns : List Need) → All (λ (n : Need). n.field < length (columns_of live n.root.0)) ns → is_needed ns root field ≡ true →
    field < length (columns_of live root)
need_there live root field [] h e = absurd cc
need_there live root field (n ∷ ns) h e = chosen ((n.root.0 == root) && (n.field == field)) refl
    (need_there live root field ns (All-tail (λ (n : Need). n.field < length (columns_of live n.root.0)) n ns h)) e
  where
    chosen : (b : Bool) → ((n.root.0 == root) && (n.field == field)) ≡ b → (is_needed ns root field ≡ true → field < length (columns_of live root)) →
        (b || is_needed ns root field) ≡ true → field < length (columns_of live root)
    chosen true q more e =
        let both = and_parts (n.root.0 == root) (n.field == field) q in
        subst (λ f. f < length (columns_of live root)) (eqb-true n.field field both.1)
        (subst (λ r. n.field < length (columns_of live r)) (eqb-true n.root.0 root both.0) (All-head (λ (n : Need). n.field < length (columns_of live n.root.0)) n ns h))
    chosen false q more e = more e

pointed_same : (N : List Requirement) → orders.pointed N ≡ pointed N
pointed_same [] = refl
pointed_same (r ∷ N) = ap (with_points r.points r) (pointed_same N)

-- ---- the part

module _ (job : Job) (s : State) (who : ℕ → ℕ) (makings : ℕ) (m : Map (regent_ground (spaces_of job.code))) (made : AreMade (length s.roots) who makings)
    (regions : (node : ℕ) → node < length s.tree.nodes → IsWithinRoot job s.tree s.roots node)
    (held : (root : ℕ) → is_live s.map root ≡ true → HoldsMap job s.map s.roots who m root) where
  abbrev G : Ground
  G = regent_ground (spaces_of job.code)

  module _ (roots : List RootId) (were : All (λ (r : RootId). r.0 < length s.roots) roots) (o : Operation) (N : List Requirement) (f : board.Frame) (ps : List (Element G))
      (seen : IsSeen job.code s.tree s.map s.roots who roots o N f ps) (root field : ℕ) (key : Key) (needed : is_needed o.frame.needs.items root field ≡ true)
      (is_key : IsKey job.code s.roots who roots root field key) where
    root_is : key.root ≡ name_of s.roots who root
    root_is = one_name s.roots who makings made root key.root roots were is_key.1

    there : field < length (columns_of s.map root)
    there = need_there s.map root field o.frame.needs.items seen.fields needed

    holds : HoldsMap job s.map s.roots who m root
    holds = held root (columns_live s.map root (omega (arith, there)))

    abbrev pub column : Column
    column = column_of s.map root field

    abbrev pub size : ℕ
    size = (get_or s.roots root no_extent).count

    pub kind_is : column.kind ≡ kind_of (spaces_of job.code) key.root key.field
    kind_is =
        let space = (get_or s.roots root no_extent).space in
        let here : field < length (kinds_of job.code space) = subst (λ n. field < n) (sym (length-map (columns_of s.map root) (λ (c : Column). c.kind)) ∙ ap length holds.kinds) there in
        sym (get_or-map (λ (c : Column). c.kind) (columns_of s.map root) field no_column)
        ∙ ap (λ ks. get_or ks field Truth) holds.kinds
        ∙ sym (kind_same job.code space size (who root) field here)
        ∙ (λ i. kind_of (spaces_of job.code) (sym root_is i) (is_key.0 i))

    -- the pieces are the same
    pub same_part : part_of N key.root key.field ≡ part_of (requirements_at s o) root field
    same_part =
        let name = named_all s.roots who makings made 0 in
        let is : IsNaming s.roots who roots name = is_naming s.roots who makings made 0 roots were in
        sym (part_pointed N key.root key.field)
        ∙ ap (λ rs. part_of rs key.root key.field) (pointed_same N ∙ seen.required name is)
        ∙ (λ i. part_of (map (requirement_named name) (requirements_at s o)) (sym (is_key.1 name is) i) (sym is_key.0 i))
        ∙ part_to name (same_root (named name) is.one) root field (requirements_at s o)

    -- and their points are points of the root
    needs_below : (ns : List Need) → AreNeeds s.tree ns → All (λ p. p < size) (points_required (requirements_of s.tree ns) root field)
    needs_below [] h = All-nil (λ p. p < size)
    needs_below (n ∷ ns) h = chosen (needs_below ns (All-tail (IsNeed s.tree) n ns h)) (is_of root field (requirement_of s.tree n)) refl
      where
        first : IsNeed s.tree n
        first = All-head (IsNeed s.tree) n ns h

        chosen : All (λ p. p < size) (points_required (requirements_of s.tree ns) root field) → (b : Bool) → is_of root field (requirement_of s.tree n) ≡ b →
            All (λ p. p < size) (cond b (union_of (set_at s.tree n.node.0) (points_required (requirements_of s.tree ns) root field)) (points_required (requirements_of s.tree ns) root field))
        chosen rest true q =
            let same = sym first.root ∙ eqb-true n.root.0 root (and_parts (n.root.0 == root) (n.field == field) q).0 in
            all_union (λ p. p < size) (set_at s.tree n.node.0) (points_required (requirements_of s.tree ns) root field)
            (subst (λ r. All (λ p. p < (get_or s.roots r no_extent).count) (set_at s.tree n.node.0)) same (regions n.node.0 first.region.there).below) rest
        chosen rest false q = rest

    pub parts_below : All (λ (q : List ℕ × FieldMode). All (λ p. p < size) q.0) (part_of N key.root key.field)
    parts_below = subst (λ qs. All (λ (q : List ℕ × FieldMode). All (λ p. p < size) q.0) qs) (sym same_part)
        (all_parts (λ p. p < size) (requirements_at s o) root field (needs_below o.frame.needs.items seen.placed.needs) all_modes)

    -- the numbers too
    pub number_is : (M : Machine G) (md : FieldMode) (p : ℕ) → p < size →
        number_for column md p ≡ number_of G M (as_held (spaces_of job.code) key.root key.field md) (record { root = key.root; field = key.field; point = p }) m
    number_is M mode.Read p l = holds.numbers field p there l ∙ (λ i. m (record { root = sym root_is i; field = is_key.0 i; point = p }))
    number_is M mode.Write p l = holds.numbers field p there l ∙ (λ i. m (record { root = sym root_is i; field = is_key.0 i; point = p }))
    number_is M (mode.Reduce op) p l = ap (λ k. identity_of op (width_of k)) kind_is

    pub number_fits : (md : FieldMode) (p : ℕ) → FitsWidth (width_of column.kind) (number_for column md p)
    number_fits mode.Read p = holds.fit field p
    number_fits mode.Write p = holds.fit field p
    number_fits (mode.Reduce op) p = (identity op (width_of column.kind)).0
