-- What the graph lists tells which children interfere: those that needs wait for.
use Rattle.std.proofs.Common.{◌≡◌, ◌<◌, ◌+◌, ◌-◌, ◌⊎◌, ◌++◌, ◌∷◌, ◌∙◌, ◌&&◌, ◌||◌, ◌==◌, ⊎_elim, inl, inr, ℕ, suc, zero, Bool, List, Some, [], ap, arith, cond, eq-eqb, eqb-true, false, filter, leb, length, ltb, map, not, refl, subst, sym, true}
use Rattle.std.specs.Prelude.{All, slice_get}
use Rattle.std.specs.List.{Contains, list_any}
use Rattle.std.specs.List.Sorted.{IsStrictlyIncreasing}
use Rattle.std.proofs.lemmas.Bool.{and_from, and_parts, false≢true, leb-true, ltb-true, not-true, or_left, or_right}
use Rattle.std.proofs.lemmas.List.Elements.{All-append, All-contains, All-contains_itself, All-cons, All-head, All-nil, All-weaker, Contains-append_cases, Contains-append_left, Contains-append_right}
use Rattle.std.proofs.lemmas.Option.{none-some}
use Rattle.plain_values.specs.Points.{counted_from, has}
use Rattle.point_sets.proofs.Rising.{Each, has-filter, has-counted_from, has_head, has_tail, has-cons_cases, members_decide, rising-counted_from, rising-filter, rising_cons, rising_head, rising_tail}
use Rattle.region_finder.specs.Listings.{AreRising, Listed, earlier, interferes_in, listed_ops, needs_in}
use Rattle.region_tree.specs.Needs.{requirements_of}
use Rattle.region_tree.specs.Requirements.{Requirement, conflict, interfere}
use Rattle.region_tree.specs.declared.needs.Need.{Need}
use Rattle.region_tree.specs.declared.tree.OpNumber.{OpNumber}
use Rattle.region_tree.specs.declared.tree.RootId.{RootId}
use Rattle.dependence_graph.specs.Knots.{number}
use Rattle.task_code.specs.declared.job.Job.{Job}
use Rattle.board_rules.specs.Boards.{Items, Operation as Node, child_op, no_item, op, said}
use Rattle.board_rules.specs.Ground.{Ground}
use Rattle.board_rules.specs.RootNumbers.{made_in}
use Rattle.regent_boards.specs.RegentMachine.{regent_ground}
use Rattle.regent_boards.proofs.NeedRenaming.{interfere_to}
use Rattle.segment_renaming.proofs.Alike.{same_root}
use Rattle.code_boards.specs.Laws.{machine_of}
use Rattle.code_boards.specs.Views.{spaces_of}
use Rattle.board_terms.specs.States.{State, operation_at}
use Rattle.board_trees.specs.Names.{AreMade, IsNaming, named, pointed, requirement_named}
use Rattle.board_trees.specs.Shows.{AreListed, IsListed, Leads, Shows, ShowsChildren, needs_issued, needs_listed, siblings}
use Rattle.board_trees.specs.Waits.{Sibling, WaitsFor, has_ended, is_spared, is_written_over}
use Rattle.board_trees.proofs.Along.{some_same}
use Rattle.board_trees.proofs.Named.{is_naming, named_all}
use Rattle.changed_trees.specs.Changes.{IsAt}
use Rattle.changed_trees.specs.Listed.{WaitsAreListed}
use Rattle.changed_trees.proofs.Interfere.{interfere_swap, pointed_left}
use Rattle.changed_trees.proofs.Spared.{any_there, more_interferes, passing, pointed_in, written_spares}
use Rattle.changed_trees.proofs.Kept.{Matches, shown_match}

-- ---- what is kept of a list

module _ {A : Type 0} (f : A → ℕ) (p : A → Bool) where
  kept_has : (list : List A) (y : ℕ) → has (map f (filter p list)) y ≡ true → has (map f list) y ≡ true
  kept_has [] y e = e
  kept_has (a ∷ list) y e = chosen (p a) e (kept_has list y)
    where
      chosen : (b : Bool) → has (map f (cond b (a ∷ filter p list) (filter p list))) y ≡ true → (has (map f (filter p list)) y ≡ true → has (map f list) y ≡ true) → has (map f (a ∷ list)) y ≡ true
      chosen true e more = ⊎_elim (λ q. ap (has (map f (a ∷ list))) q ∙ has_head (f a) (map f list)) (λ r. has_tail y (f a) (map f list) (more r))
          (has-cons_cases y (f a) (map f (filter p list)) e)
      chosen false e more = has_tail y (f a) (map f list) (more e)

  rising_kept : (list : List A) → IsStrictlyIncreasing (map f list) → IsStrictlyIncreasing (map f (filter p list))
  rising_kept [] h = h
  rising_kept (a ∷ list) h = chosen (p a) (rising_kept list (rising_tail (f a) (map f list) h))
    where
      chosen : (b : Bool) → IsStrictlyIncreasing (map f (filter p list)) → IsStrictlyIncreasing (map f (cond b (a ∷ filter p list) (filter p list)))
      chosen true more = rising_cons (f a) (map f (filter p list)) (λ y e. rising_head (f a) (map f list) h y (kept_has list y e)) more
      chosen false more = more

  pub record Found (list : List A) (z : ℕ) : Type 0 where
    pub one : A
    pub there : Contains list one
    pub passes : p one ≡ true
    pub is : f one ≡ z

  later : (a : A) (list : List A) (z : ℕ) → Found list z → Found (a ∷ list) z
  later a list z h = record { one = h.one; there = Contains-append_right (a ∷ []) list h.one h.there; passes = h.passes; is = h.is }

  first_of : (a : A) (list : List A) → Contains (a ∷ list) a
  first_of a list = Contains-append_left (a ∷ []) list a (All-head (Contains (a ∷ [])) a [] (All-contains_itself (a ∷ [])))

  found : (list : List A) (z : ℕ) → has (map f (filter p list)) z ≡ true → Found list z
  found [] z e = absurd (false≢true e)
  found (a ∷ list) z e = chosen (p a) refl e (found list z)
    where
      chosen : (b : Bool) → p a ≡ b → has (map f (cond b (a ∷ filter p list) (filter p list))) z ≡ true → (has (map f (filter p list)) z ≡ true → Found list z) → Found (a ∷ list) z
      chosen true q e more = ⊎_elim (λ s. record { one = a; there = first_of a list; passes = q; is = sym s }) (λ r. later a list z (more r))
          (has-cons_cases z (f a) (map f (filter p list)) e)
      chosen false q e more = later a list z (more e)

  kept : (list : List A) (a : A) → Contains list a → p a ≡ true → has (map f (filter p list)) (f a) ≡ true
  kept list a c q = All-contains (λ x. p x ≡ true → has (map f (filter p list)) (f x) ≡ true) list a (each list) c q
    where
      each : (list : List A) → All (λ x. p x ≡ true → has (map f (filter p list)) (f x) ≡ true) list
      each [] = All-nil (λ x. p x ≡ true → has [] (f x) ≡ true)
      each (a ∷ list) = All-cons (λ x. p x ≡ true → has (map f (filter p (a ∷ list))) (f x) ≡ true) a list
          (λ q. ap (λ b. has (map f (cond b (a ∷ filter p list) (filter p list))) (f a)) q ∙ has_head (f a) (map f (filter p list)))
          (All-weaker (λ x. p x ≡ true → has (map f (filter p list)) (f x) ≡ true) (λ x. p x ≡ true → has (map f (filter p (a ∷ list))) (f x) ≡ true)
          (λ x h q. more (p a) x (h q)) list (each list))
        where
          more : (b : Bool) (x : A) → has (map f (filter p list)) (f x) ≡ true → has (map f (cond b (a ∷ filter p list) (filter p list))) (f x) ≡ true
          more true x h = has_tail (f x) (f a) (map f (filter p list)) h
          more false x h = h

-- elements whose numbers rise are told by their numbers
one_entry : (ls : List Listed) → IsStrictlyIncreasing (map (λ (l : Listed). l.op.0) ls) → (l m : Listed) → Contains ls l → Contains ls m → l.op.0 ≡ m.op.0 → l ≡ m
one_entry [] r l m c d e = absurd (All-contains (λ (x : Listed). ⊥) [] l (All-nil (λ (x : Listed). ⊥)) c)
one_entry (x ∷ xs) r l m c d e = by_cases (Contains-append_cases (x ∷ []) xs l c) (Contains-append_cases (x ∷ []) xs m d)
    (one_entry xs (rising_tail x.op.0 (map (λ (l : Listed). l.op.0) xs) r) l m)
  where
    only : (y : Listed) → Contains (x ∷ []) y → y ≡ x
    only y c = All-contains (λ (z : Listed). z ≡ x) (x ∷ []) y (All-cons (λ (z : Listed). z ≡ x) x [] refl (All-nil (λ (z : Listed). z ≡ x))) c

    above : (ys : List Listed) → Each (λ z. x.op.0 < z) (map (λ (l : Listed). l.op.0) ys) → All (λ (y : Listed). x.op.0 < y.op.0) ys
    above [] h = All-nil (λ (y : Listed). x.op.0 < y.op.0)
    above (y ∷ ys) h = All-cons (λ (y : Listed). x.op.0 < y.op.0) y ys (h y.op.0 (has_head y.op.0 (map (λ (l : Listed). l.op.0) ys)))
        (above ys (λ z e. h z (has_tail z y.op.0 (map (λ (l : Listed). l.op.0) ys) e)))

    less : (y : Listed) → Contains xs y → x.op.0 < y.op.0
    less y c = All-contains (λ (y : Listed). x.op.0 < y.op.0) xs y (above xs (rising_head x.op.0 (map (λ (l : Listed). l.op.0) xs) r)) c

    by_cases : (Contains (x ∷ []) l) ⊎ (Contains xs l) → (Contains (x ∷ []) m) ⊎ (Contains xs m) → (Contains xs l → Contains xs m → l.op.0 ≡ m.op.0 → l ≡ m) → l ≡ m
    by_cases (inl a) (inl b) more = only l a ∙ sym (only m b)
    by_cases (inl a) (inr b) more = absurd (omega (arith, less m b, ap (λ (y : Listed). y.op.0) (only l a), e))
    by_cases (inr a) (inl b) more = absurd (omega (arith, less l a, ap (λ (y : Listed). y.op.0) (only m b), e))
    by_cases (inr a) (inr b) more = more a b e

module _ (job : Job) (s : State) (who : ℕ → ℕ) (ways : List (List ℕ)) where
  abbrev G : Ground
  G = regent_ground (spaces_of job.code)

  -- ---- an operation but main is a child

  record IsBelow (z : ℕ) : Type 0 where
    caller : ℕ
    place : ℕ
    roots : List RootId
    needs : List Requirement
    there : slice_get (operation_at s caller).children place ≡ Some (number z)
    later : List Sibling
    listed : has_ended s.waits.knots z ≡ false → IsListed job s who roots caller z needs later

  record ChildAt (j x : ℕ) (roots : List RootId) : Type 0 where
    needs : List Requirement
    later : List Sibling
    listed : has_ended s.waits.knots x ≡ false → IsListed job s who roots j x needs later
    way : List ℕ
    earlier_ones : List Sibling
    node : Node G
    shows : Shows job s who ways way x earlier_ones roots node

  child_at : (c : ℕ) (w : List ℕ) (j d : ℕ) (earlier : List Sibling) (roots : List RootId) (ks : List OpNumber) (is : Items G) (x : ℕ) → slice_get ks c ≡ Some (number x) →
      ShowsChildren job s who ways w j d earlier roots ks is → AreListed job s who roots j (siblings job ks is) → ChildAt j x roots
  child_at c w j d earlier roots ks no_item x q h l = absurd (none-some (number x) (ap (λ ks. slice_get ks c) (sym h) ∙ q))
  child_at c w j d earlier roots ks (said t is) x q h l = child_at c w j d earlier roots ks is x q h l
  child_at c w j d earlier roots [] (child_op n is) x q h l = absurd h
  child_at zero w j d earlier roots (k ∷ ks) (child_op n is) x q h l =
      subst (λ (y : OpNumber). ChildAt j y.0 roots) (some_same k (number x) q)
      (record { needs = needs_issued job n; later = siblings job ks is; listed = l.0; way = w ++ d ∷ []; earlier_ones = earlier; node = n; shows = h.1 })
  child_at (suc c) w j d earlier roots (k ∷ ks) (child_op n is) x q h l =
      child_at c w j (suc d) (earlier ++ record { op = k.0; needs = needs_issued job n } ∷ []) roots ks is x q h.2 l.1

  is_below : (c : ℕ) (way w : List ℕ) (j : ℕ) (earlier : List Sibling) (above : List RootId) (n : Node G) (z : ℕ) → Leads job s j (c ∷ way) z → Shows job s who ways w j earlier above n → IsBelow z
  is_below c [] w j earlier above (op D N i f ps st is) z l h =
      let x = child_at c w j 0 [] (above ++ (operation_at s j).frame.own) (operation_at s j).children is l.0 l.1 h.1 h.0.listed in
      subst IsBelow l.2 (record { caller = j; place = c; roots = above ++ (operation_at s j).frame.own; needs = x.needs; there = l.1; later = x.later; listed = x.listed })
  is_below c (d ∷ way) w j earlier above (op D N i f ps st is) z l h =
      let x = child_at c w j 0 [] (above ++ (operation_at s j).frame.own) (operation_at s j).children is l.0 l.1 h.1 h.0.listed in
      is_below d way x.way l.0 x.earlier_ones (above ++ (operation_at s j).frame.own) x.node z l.2 x.shows

  -- ---- children

  ops_are : (ks : List OpNumber) (is : Items G) → Matches job ks is → map (λ (x : Sibling). x.op) (siblings job ks is) ≡ map (λ (k : OpNumber). k.0) ks
  ops_are ks no_item h = ap (map (λ (k : OpNumber). k.0)) (sym h)
  ops_are ks (said t is) h = ops_are ks is h
  ops_are [] (child_op n is) h = absurd h
  ops_are (k ∷ ks) (child_op n is) h = ap (λ zs. k.0 ∷ zs) (ops_are ks is h)

  has_place : (ks : List OpNumber) (c z : ℕ) → slice_get ks c ≡ Some (number z) → has (map (λ (k : OpNumber). k.0) ks) z ≡ true
  has_place [] c z q = absurd (none-some (number z) q)
  has_place (k ∷ ks) zero z q = ap (λ (y : OpNumber). has (y.0 ∷ map (λ (k : OpNumber). k.0) ks) z) (some_same k (number z) q) ∙ has_head z (map (λ (k : OpNumber). k.0) ks)
  has_place (k ∷ ks) (suc c) z q = has_tail z k.0 (map (λ (k : OpNumber). k.0) ks) (has_place ks c z q)

  module _ (T : Node G) (shows : Shows job s who ways [] 0 [] [] T) (leads : (k : ℕ) (way : List ℕ) → IsAt job ways k way → Leads job s 0 way k) (there : (k : ℕ) → k < length s.operations → (w : List ℕ) × IsAt job ways k w)
      (listed : listed_ops s.waits.listing ≡ map number (filter (λ k. not (has_ended s.waits.knots k)) (counted_from 1 (length s.operations - 1))))
      (rising : (k : ℕ) → AreRising (operation_at s k).children) (makings : ℕ) (made : AreMade (length s.roots) who makings)
      (own_made : (k : ℕ) → All (λ (r : RootId). r.0 < length s.roots) (operation_at s k).frame.own) where
    abbrev entry_op : Listed → ℕ
    entry_op l = l.op.0

    abbrev open_numbers : List ℕ
    open_numbers = filter (λ k. not (has_ended s.waits.knots k)) (counted_from 1 (length s.operations - 1))

    numbers_are : map entry_op s.waits.listing ≡ open_numbers
    numbers_are = sym (by_op s.waits.listing) ∙ ap (map (λ (k : OpNumber). k.0)) listed ∙ of_numbers open_numbers
      where
        by_op : (ls : List Listed) → map (λ (k : OpNumber). k.0) (listed_ops ls) ≡ map entry_op ls
        by_op [] = refl
        by_op (l ∷ ls) = ap (λ zs. l.op.0 ∷ zs) (by_op ls)

        of_numbers : (zs : List ℕ) → map (λ (k : OpNumber). k.0) (map number zs) ≡ zs
        of_numbers [] = refl
        of_numbers (z ∷ zs) = ap (λ ys. z ∷ ys) (of_numbers zs)

    entries_rise : IsStrictlyIncreasing (map entry_op s.waits.listing)
    entries_rise = subst IsStrictlyIncreasing (sym numbers_are) (rising-filter (λ k. not (has_ended s.waits.knots k)) (counted_from 1 (length s.operations - 1)) (rising-counted_from 1 (length s.operations - 1)))

    -- what is listed hasn't ended, and isn't main
    entry_is : (l : Listed) → Contains s.waits.listing l → (has_ended s.waits.knots l.op.0 ≡ false) × (0 < l.op.0) × (l.op.0 < length s.operations)
    entry_is l c =
        let h : has open_numbers l.op.0 ≡ true = ap (λ zs. has zs l.op.0) (sym numbers_are) ∙ in_list s.waits.listing l c in
        let parts = and_parts (has (counted_from 1 (length s.operations - 1)) l.op.0) (not (has_ended s.waits.knots l.op.0))
        (sym (has-filter (λ k. not (has_ended s.waits.knots k)) (counted_from 1 (length s.operations - 1)) l.op.0) ∙ h) in
        let bounds = and_parts (leb 1 l.op.0) (ltb l.op.0 (1 + (length s.operations - 1))) (sym (has-counted_from 1 (length s.operations - 1) l.op.0) ∙ parts.0) in (
          not-true (has_ended s.waits.knots l.op.0) parts.1,
          omega (arith, leb-true 1 l.op.0 bounds.0),
          omega (arith, leb-true 1 l.op.0 bounds.0, ltb-true l.op.0 (1 + (length s.operations - 1)) bounds.1),
        )
      where
        in_list : (ls : List Listed) (l : Listed) → Contains ls l → has (map entry_op ls) l.op.0 ≡ true
        in_list ls l c = All-contains (λ (x : Listed). has (map entry_op ls) x.op.0 ≡ true) ls l (each ls) c
          where
            each : (ls : List Listed) → All (λ (x : Listed). has (map entry_op ls) x.op.0 ≡ true) ls
            each [] = All-nil (λ (x : Listed). has [] x.op.0 ≡ true)
            each (x ∷ xs) = All-cons (λ (y : Listed). has (map entry_op (x ∷ xs)) y.op.0 ≡ true) x xs (has_head x.op.0 (map entry_op xs))
                (All-weaker (λ (y : Listed). has (map entry_op xs) y.op.0 ≡ true) (λ (y : Listed). has (map entry_op (x ∷ xs)) y.op.0 ≡ true)
                (λ y h. has_tail y.op.0 x.op.0 (map entry_op xs) h) xs (each xs))

    -- it is the child of its context
    entry_below : (l : Listed) → Contains s.waits.listing l → (c : ℕ) × (slice_get (operation_at s l.context.0).children c ≡ Some (number l.op.0))
    entry_below l c =
        let is = entry_is l c in
        let w = there l.op.0 is.2 in
        by_way w.0 (leads l.op.0 w.0 w.1) is.0 is.1
      where
        by_way : (w : List ℕ) → Leads job s 0 w l.op.0 → has_ended s.waits.knots l.op.0 ≡ false → 0 < l.op.0 → (c : ℕ) × (slice_get (operation_at s l.context.0).children c ≡ Some (number l.op.0))
        by_way [] q unended pos = absurd (omega (arith, q, pos))
        by_way (d ∷ way) q unended pos =
            let b = is_below d way [] 0 [] [] T l.op.0 q shows in
            let e = b.listed unended in
            let same : l ≡ e.entry = one_entry s.waits.listing entries_rise l e.entry c e.there (ap (λ (k : OpNumber). k.0) (sym e.op_is)) in
            let caller : l.context.0 ≡ b.caller = ap (λ (x : Listed). x.context.0) same ∙ ap (λ (k : OpNumber). k.0) e.context in
            (b.place, ap (λ j. slice_get (operation_at s j).children b.place) caller ∙ b.there)

    module _ (w : List ℕ) (k : ℕ) (roots : List RootId) (is : Items G) (below : All (λ (r : RootId). r.0 < length s.roots) roots)
        (children : ShowsChildren job s who ways w k 0 [] roots (operation_at s k).children is) (entered : AreListed job s who roots k (siblings job (operation_at s k).children is))
        (needs : List Need) (Q : List Requirement)
        (required : (name : ℕ → ℕ) → IsNaming s.roots who roots name → pointed Q ≡ map (requirement_named name) (requirements_of s.tree needs)) where
      abbrev xs : List Sibling
      xs = siblings job (operation_at s k).children is

      abbrev name : ℕ → ℕ
      name = named_all s.roots who makings made 0

      naming : IsNaming s.roots who roots name
      naming = is_naming s.roots who makings made 0 roots below

      abbrev needs_of : Listed → List Requirement
      needs_of l = needs_listed job s who roots name l

      -- interference is told alike
      alike : (l : Listed) → interfere (requirements_of s.tree needs) (requirements_of s.tree (needs_in l)) ≡ interfere (needs_of l) Q
      alike l = sym (interfere_to name (same_root (named name) naming.one) (requirements_of s.tree needs) (requirements_of s.tree (needs_in l)))
          ∙ ap (λ rs. interfere rs (needs_of l)) (sym (required name naming)) ∙ pointed_left Q (needs_of l) ∙ interfere_swap Q (needs_of l)

      ops_here : map (λ (x : Sibling). x.op) xs ≡ map (λ (k : OpNumber). k.0) (operation_at s k).children
      ops_here = ops_are (operation_at s k).children is (shown_match job s who ways w k 0 [] roots (operation_at s k).children is children)

      abbrev told_by_graph : List ℕ
      told_by_graph = map entry_op (filter (interferes_in s.tree k needs) s.waits.listing)

      -- the listed operations that interfere are these children
      abbrev heard : Sibling → Bool
      heard x = has told_by_graph x.op

      abbrev told_by_tree : List ℕ
      told_by_tree = map (λ (x : Sibling). x.op) (filter heard xs)

      to_tree : (z : ℕ) → has told_by_graph z ≡ true → has told_by_tree z ≡ true
      to_tree z e =
          let h = found entry_op (interferes_in s.tree k needs) s.waits.listing z e in
          let passes = and_parts (h.one.context.0 == k) (interfere (requirements_of s.tree needs) (requirements_of s.tree (needs_in h.one))) h.passes in
          let context : h.one.context.0 ≡ k = eqb-true h.one.context.0 k passes.0 in
          let b = entry_below h.one h.there in
          let in_children : has (map (λ (x : Sibling). x.op) xs) h.one.op.0 ≡ true = ap (λ zs. has zs h.one.op.0) ops_here
          ∙ has_place (operation_at s k).children b.0 h.one.op.0 (ap (λ j. slice_get (operation_at s j).children b.0) (sym context) ∙ b.1) in
          let x = found (λ (x : Sibling). x.op) (λ (x : Sibling). true) xs h.one.op.0 (ap (λ ys. has (map (λ (x : Sibling). x.op) ys) h.one.op.0) (all_kept xs) ∙ in_children) in
          let same : x.one.op ≡ z = x.is ∙ h.is in
          ap (has told_by_tree) (sym same) ∙ kept (λ (x : Sibling). x.op) heard xs x.one x.there (ap (has told_by_graph) same ∙ e)
        where
          all_kept : (ys : List Sibling) → filter (λ (x : Sibling). true) ys ≡ ys
          all_kept [] = refl
          all_kept (y ∷ ys) = ap (λ zs. y ∷ zs) (all_kept ys)

      to_graph : (z : ℕ) → has told_by_tree z ≡ true → has told_by_graph z ≡ true
      to_graph z e =
          let x = found (λ (x : Sibling). x.op) heard xs z e in
          ap (has told_by_graph) (sym x.is) ∙ x.passes

      numbers_same : told_by_graph ≡ told_by_tree
      numbers_same = members_decide told_by_graph told_by_tree (rising_kept entry_op (interferes_in s.tree k needs) s.waits.listing entries_rise)
          (rising_kept (λ (x : Sibling). x.op) heard xs (subst IsStrictlyIncreasing (sym ops_here) (rising k)))
          (λ z. iff (has told_by_graph z) (has told_by_tree z) (to_tree z) (to_graph z))
        where
          iff : (a b : Bool) → (a ≡ true → b ≡ true) → (b ≡ true → a ≡ true) → a ≡ b
          iff true b f g = sym (f refl)
          iff false true f g = g refl
          iff false false f g = refl

      module _ (x : Sibling) (later : List Sibling) (listed_if : has_ended s.waits.knots x.op ≡ false → IsListed job s who roots k x.op x.needs later) where
        -- one of these interferes
        heard_interferes : heard x ≡ true → interfere x.needs Q ≡ true
        heard_interferes e =
            let h = found entry_op (interferes_in s.tree k needs) s.waits.listing x.op e in
            let passes = and_parts (h.one.context.0 == k) (interfere (requirements_of s.tree needs) (requirements_of s.tree (needs_in h.one))) h.passes in
            let l = listed_if (ap (has_ended s.waits.knots) (sym h.is) ∙ (entry_is h.one h.there).0) in
            let same : h.one ≡ l.entry = one_entry s.waits.listing entries_rise h.one l.entry h.there l.there (h.is ∙ ap (λ (k : OpNumber). k.0) (sym l.op_is)) in
            let meets : interfere (needs_of l.entry) Q ≡ true = sym (alike l.entry)
            ∙ ap (λ (y : Listed). interfere (requirements_of s.tree needs) (requirements_of s.tree (needs_in y))) (sym same) ∙ passes.1 in
            sym (pointed_left x.needs Q) ∙ more_interferes (pointed x.needs) (needs_of l.entry) Q (l.own name naming) meets

        -- one that isn't needn't be waited for
        unheard_entry : heard x ≡ false → (n : has_ended s.waits.knots x.op ≡ false) → interfere (needs_of (listed_if n).entry) Q ≡ true → ⊥
        unheard_entry e n t =
            let l = listed_if n in
            false≢true (sym e ∙ ap (has told_by_graph) (ap (λ (k : OpNumber). k.0) (sym l.op_is))
            ∙ kept entry_op (interferes_in s.tree k needs) s.waits.listing l.entry l.there
            (and_from (l.entry.context.0 == k) (interfere (requirements_of s.tree needs) (requirements_of s.tree (needs_in l.entry)))
            (eq-eqb l.entry.context.0 k (ap (λ (j : OpNumber). j.0) l.context)) (alike l.entry ∙ t)))

        unheard_spared : heard x ≡ false → has_ended s.waits.knots x.op ≡ false → is_spared Q x later ≡ true
        unheard_spared e n = by_test (interfere x.needs Q) refl
          where
            by_test : (b : Bool) → interfere x.needs Q ≡ b → is_spared Q x later ≡ true
            by_test false q = or_left (not (interfere x.needs Q)) (list_any (λ (y : Sibling). interfere y.needs Q && interfere x.needs y.needs) later) (ap not q)
            by_test true q =
                let l = listed_if n in
                let r = passing (λ (r : Requirement). list_any (conflict r) Q) (pointed x.needs) (pointed_left x.needs Q ∙ q) in
                or_right (not (interfere x.needs Q)) (list_any (λ (y : Sibling). interfere y.needs Q && interfere x.needs y.needs) later)
                (⊎_elim
                (λ c. absurd (unheard_entry e n (any_there (λ (r : Requirement). list_any (conflict r) Q) (needs_of l.entry) r.one c r.passes)))
                (λ o. written_spares x.needs Q later r.one (All-contains (Contains x.needs) (pointed x.needs) r.one (pointed_in x.needs) r.there) r.passes o)
                (All-contains (λ (r : Requirement). Contains (needs_of l.entry) r ⊎ (is_written_over later r ≡ true)) (pointed x.needs) r.one (l.others name naming) r.there))

        unheard_passed : heard x ≡ false → (has_ended s.waits.knots x.op || is_spared Q x later) ≡ true
        unheard_passed e = by_test (has_ended s.waits.knots x.op) refl
          where
            by_test : (b : Bool) → has_ended s.waits.knots x.op ≡ b → (has_ended s.waits.knots x.op || is_spared Q x later) ≡ true
            by_test true q = or_left (has_ended s.waits.knots x.op) (is_spared Q x later) q
            by_test false q = or_right (has_ended s.waits.knots x.op) (is_spared Q x later) (unheard_spared e q)

      waits_heard : (ys : List Sibling) → AreListed job s who roots k ys → WaitsFor s.waits.knots Q ys (map (λ (x : Sibling). number x.op) (filter heard ys))
      waits_heard [] l = refl
      waits_heard (y ∷ ys) l = by_test (heard y) refl (waits_heard ys l.1)
        where
          by_test : (b : Bool) → heard y ≡ b → WaitsFor s.waits.knots Q ys (map (λ (x : Sibling). number x.op) (filter heard ys)) →
              WaitsFor s.waits.knots Q (y ∷ ys) (map (λ (x : Sibling). number x.op) (cond b (y ∷ filter heard ys) (filter heard ys)))
          by_test true e more = inr (map (λ (x : Sibling). number x.op) (filter heard ys), refl, heard_interferes y ys l.0 e, more)
          by_test false e more = inl (unheard_passed y ys l.0 e, more)

      -- needs wait for the children that interfere, by what the graph lists
      pub waits_for_listed : WaitsFor s.waits.knots Q xs (earlier s.tree s.waits.listing k needs)
      waits_for_listed = subst (WaitsFor s.waits.knots Q xs)
          (of_siblings (filter heard xs) ∙ ap (map number) (sym numbers_same) ∙ sym (of_entries (filter (interferes_in s.tree k needs) s.waits.listing)))
          (waits_heard xs entered)
        where
          of_siblings : (ys : List Sibling) → map (λ (x : Sibling). number x.op) ys ≡ map number (map (λ (x : Sibling). x.op) ys)
          of_siblings [] = refl
          of_siblings (y ∷ ys) = ap (λ zs. number y.op ∷ zs) (of_siblings ys)

          of_entries : (ls : List Listed) → listed_ops ls ≡ map number (map entry_op ls)
          of_entries [] = refl
          of_entries (l ∷ ls) = ap (λ zs. l.op ∷ zs) (of_entries ls)

-- ---- of a board

pub way_found : (job : Job) (ways : List (List ℕ)) (k : ℕ) → k < length ways → (w : List ℕ) × IsAt job ways k w
way_found job [] k l = absurd (omega (arith, l))
way_found job (w ∷ ws) zero l = (w, refl)
way_found job (w ∷ ws) (suc k) l = way_found job ws k (omega (arith, l))

pub waits_are_listed : WaitsAreListed
waits_are_listed job s b h way k before above D N i f ps st is shown below needs Q required =
    waits_for_listed job s h.who b.ways b.state.tree h.shows h.leads (λ k l. way_found job b.ways k (subst (λ n. k < n) (sym h.ways) l)) h.listed h.rising
    (made_in (regent_ground (spaces_of job.code)) (machine_of job) b.state.tree) h.made h.own_made
    way k (above ++ (operation_at s k).frame.own) is (All-append (λ (r : RootId). r.0 < length s.roots) above (operation_at s k).frame.own below (h.own_made k)) shown.1 shown.0.listed needs Q required
