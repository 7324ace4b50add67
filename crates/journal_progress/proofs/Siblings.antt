-- The earlier siblings of an operation, of a state that shows a board of the laws: who they are, and their entries in the
-- graph's list.
use Rattle.std.proofs.Common.{◌≡◌, ◌<◌, ◌⊎◌, ◌++◌, ◌∷◌, ◌∙◌, ◌-◌, ◌+◌, ⊎_elim, ℕ, zero, suc, Bool, List, Some, [], ap, arith, false, inl, inr, leb, length, ltb, map, not, subst, sym, true}
use Rattle.std.specs.Prelude.{All, filter, slice_get}
use Rattle.std.specs.List.{Contains}
use Rattle.std.proofs.lemmas.Bool.{and_parts, leb-true, ltb-true, not-true}
use Rattle.std.proofs.lemmas.List.Elements.{All-append, All-cons, All-nil, Contains-append_left, Contains-push}
use Rattle.std.proofs.lemmas.Option.{none-some}
use Rattle.plain_values.specs.Points.{counted_from, has}
use Rattle.point_sets.proofs.Rising.{has-counted_from, has-filter, rising_head, rising_tail}
use Rattle.region_finder.specs.Listings.{AreRising, Listed}
use Rattle.region_tree.specs.Needs.{requirements_of}
use Rattle.region_tree.specs.Requirements.{Requirement}
use Rattle.region_tree.specs.declared.tree.OpNumber.{OpNumber}
use Rattle.region_tree.specs.declared.tree.RootId.{RootId}
use Rattle.dependence_graph.specs.Knots.{number}
use Rattle.task_code.specs.declared.job.Job.{Job}
use Rattle.board_rules.specs.Boards.{Items, Operation as Node, child_op, no_item, op, said}
use Rattle.board_rules.specs.Ground.{Ground}
use Rattle.board_rules.specs.NumberedBoards.{Board}
use Rattle.regent_boards.specs.RegentMachine.{regent_ground}
use Rattle.code_boards.specs.Views.{spaces_of}
use Rattle.board_terms.specs.States.{State, operation_at}
use Rattle.board_trees.specs.Names.{pointed, requirement_named}
use Rattle.board_trees.specs.Shows.{AreListed, IsChild, IsListed, Leads, Shows, ShowsBoard, ShowsChildren, needs_issued, siblings}
use Rattle.board_trees.specs.Told.{AreOrdered}
use Rattle.board_trees.specs.Waits.{Sibling, has_ended}
use Rattle.board_trees.proofs.Along.{some_same}
use Rattle.board_trees.proofs.Ordered.{node_ordered}
use Rattle.changed_trees.specs.Changes.{IsAt}
use Rattle.changed_trees.proofs.Contained.{contains_cases, contains_first, contains_later, none_in}
use Rattle.changed_trees.proofs.Listed.{way_found}
use Rattle.journal_progress.proofs.Callers.{WereMade}
use Rattle.journal_progress.proofs.Listings.{numbers_in, number_there, one_entry, op_there, of_numbers}
use Rattle.journal_progress.proofs.Places.{Placed, has_children, name, naming, placed}

pub got : (ks : List OpNumber) (c : ℕ) (k : OpNumber) → slice_get ks c ≡ Some k → Contains ks k
got [] c k e = absurd (none-some k e)
got (x ∷ ks) zero k e = subst (λ y. Contains (x ∷ ks) y) (some_same x k e) (contains_first x ks)
got (x ∷ ks) (suc c) k e = contains_later x ks k (got ks c k e)

module _ (job : Job) (s : State) (b : Board (regent_ground (spaces_of job.code))) (h : ShowsBoard job s b) where
  abbrev G : Ground
  G = regent_ground (spaces_of job.code)

  abbrev sibling : ℕ → List Requirement → Sibling
  sibling k D = record { op = k; needs = D }

  -- ---- entries

  pub one : (x y : Listed) → Contains s.waits.listing x → Contains s.waits.listing y → x.op ≡ y.op → x ≡ y
  one x y c d e = one_entry s.waits.listing (λ k. not (has_ended s.waits.knots k)) (length s.operations - 1) h.listed x y c d (ap (λ (k : OpNumber). k.0) e)

  -- what is listed isn't main, and hasn't ended
  pub record IsOpen (k : ℕ) : Type 0 where
    pub later : 0 < k
    pub within : k < length s.operations
    pub unended : has_ended s.waits.knots k ≡ false

  pub is_open : (x : Listed) → Contains s.waits.listing x → IsOpen x.op.0
  is_open x c =
      let p : ℕ → Bool = λ k. not (has_ended s.waits.knots k) in
      let n = length s.operations - 1 in
      let there : has (filter p (counted_from 1 n)) x.op.0 ≡ true = ap (λ zs. has zs x.op.0) (sym (ap numbers_in h.listed ∙ of_numbers (filter p (counted_from 1 n)))) ∙ op_there s.waits.listing x c in
      let parts = and_parts (has (counted_from 1 n) x.op.0) (p x.op.0) (sym (has-filter p (counted_from 1 n) x.op.0) ∙ there) in
      let bounds = and_parts (leb 1 x.op.0) (ltb x.op.0 (1 + n)) (sym (has-counted_from 1 n x.op.0) ∙ parts.0) in
      let low = leb-true 1 x.op.0 bounds.0 in
      let high = ltb-true x.op.0 (1 + n) bounds.1 in
      record { later = omega (arith, low); within = omega (arith, low, high); unended = not-true (has_ended s.waits.knots x.op.0) parts.1 }

  -- the entry of a child of operation j
  pub record IsOf (j : ℕ) (z : Sibling) (y : Listed) : Type 0 where
    pub there : Contains s.waits.listing y
    pub op_is : y.op ≡ number z.op
    pub context : y.context ≡ number j
    pub needs : pointed z.needs ≡ map (requirement_named (name job s b h)) (requirements_of s.tree y.issued)

  -- a child of operation j, which has its entry while it hasn't ended
  pub record IsKnown (j : ℕ) (z : Sibling) : Type 0 where
    pub child : Contains (operation_at s j).children (number z.op)
    pub entry : has_ended s.waits.knots z.op ≡ false → (y : Listed) × IsOf j z y

  module _ (roots : List RootId) (made : WereMade job s h.who b.ways roots) (j : ℕ) where
    entered : (k : ℕ) (D : List Requirement) (later : List Sibling) → IsListed job s h.who roots j k D later → (y : Listed) × IsOf j (sibling k D) y
    entered k D later l = (l.entry, record { there = l.there; op_is = l.op_is; context = l.context; needs = l.issued (name job s b h) (naming job s b h roots made) })

    -- ---- all children

    pub kids_known : (ks : List OpNumber) (is : Items G) → AreListed job s h.who roots j (siblings job ks is) → ((o : OpNumber) → Contains ks o → Contains (operation_at s j).children o) →
        All (IsKnown j) (siblings job ks is)
    kids_known ks no_item a sub = All-nil (IsKnown j)
    kids_known ks (said t is) a sub = kids_known ks is a sub
    kids_known [] (child_op n is) a sub = All-nil (IsKnown j)
    kids_known (k ∷ ks) (child_op n is) a sub = All-cons (IsKnown j) (sibling k.0 (needs_issued job n)) (siblings job ks is)
        (record { child = sub k (contains_first k ks); entry = λ e. entered k.0 (needs_issued job n) (siblings job ks is) (a.0 e) })
        (kids_known ks is a.1 (λ o c. sub o (contains_later k ks o c)))

    pub kids_all : (w : List ℕ) (d : ℕ) (earlier : List Sibling) (ks : List OpNumber) (is : Items G) → ShowsChildren job s h.who b.ways w j d earlier roots ks is →
        (m : ℕ) → Contains ks (number m) → (D : List Requirement) × Contains (siblings job ks is) (sibling m D)
    kids_all w d earlier ks no_item g m c = absurd (none_in (number m) (subst (λ os. Contains os (number m)) g c))
    kids_all w d earlier ks (said t is) g m c = kids_all w d earlier ks is g m c
    kids_all w d earlier [] (child_op n is) g m c = absurd g
    kids_all w d earlier (k ∷ ks) (child_op n is) g m c = ⊎_elim
        (λ q. (
          needs_issued job n,
          subst (λ (o : OpNumber). Contains (sibling k.0 (needs_issued job n) ∷ siblings job ks is) (sibling o.0 (needs_issued job n))) q
              (contains_first (sibling k.0 (needs_issued job n)) (siblings job ks is)),
        ))
        (λ r. let f = kids_all w (suc d) (earlier ++ sibling k.0 (needs_issued job n) ∷ []) ks is g.2 m r in
        (f.0, contains_later (sibling k.0 (needs_issued job n)) (siblings job ks is) (sibling m f.0) f.1))
        (contains_cases k ks (number m) c)

    -- ---- one child, behind the earlier ones

    pub record Among (k : ℕ) : Type 0 where
      pub at : List ℕ
      pub earlier : List Sibling
      pub node : Node G
      pub shows : Shows job s h.who b.ways at k earlier roots node
      pub known : All (IsKnown j) earlier
      pub before : All (λ (z : Sibling). z.op < k) earlier
      pub all : (m : ℕ) → Contains (operation_at s j).children (number m) → m < k → (D : List Requirement) × Contains earlier (sibling m D)
      pub ordered : AreOrdered s.waits.knots earlier
      pub child : IsChild job s h.who b.ways j k
      pub entry : has_ended s.waits.knots k ≡ false → (y : Listed) × IsOf j (sibling k (needs_issued job node)) y

    -- what is told of earlier children on the way to a later one
    record Passed (earlier : List Sibling) (ks : List OpNumber) : Type 0 where
      known : All (IsKnown j) earlier
      before : (o : OpNumber) → Contains ks o → All (λ (z : Sibling). z.op < o.0) earlier
      all : (m : ℕ) → Contains (operation_at s j).children (number m) → ((D : List Requirement) × Contains earlier (sibling m D)) ⊎ Contains ks (number m)
      ordered : AreOrdered s.waits.knots earlier
      sub : (o : OpNumber) → Contains ks o → Contains (operation_at s j).children o

    higher : (k : OpNumber) (ks : List OpNumber) → AreRising (k ∷ ks) → (o : OpNumber) → Contains ks o → k.0 < o.0
    higher k ks r o c = rising_head k.0 (numbers_in ks) r o.0 (number_there ks o c)

    one_more : (w : List ℕ) (d : ℕ) (earlier : List Sibling) (k : OpNumber) (ks : List OpNumber) (n : Node G) (later : List Sibling) → Shows job s h.who b.ways (w ++ d ∷ []) k.0 earlier roots n →
        (has_ended s.waits.knots k.0 ≡ false → IsListed job s h.who roots j k.0 (needs_issued job n) later) → AreRising (k ∷ ks) → Passed earlier (k ∷ ks) →
        Passed (earlier ++ sibling k.0 (needs_issued job n) ∷ []) ks
    one_more w d earlier k ks n later g a r p =
        let z : Sibling = sibling k.0 (needs_issued job n) in
        record {
          known = All-append (IsKnown j) earlier (z ∷ []) p.known
              (All-cons (IsKnown j) z [] (record { child = p.sub k (contains_first k ks); entry = λ e. entered k.0 (needs_issued job n) later (a e) }) (All-nil (IsKnown j)));
          before = λ o c. All-append (λ (x : Sibling). x.op < o.0) earlier (z ∷ []) (p.before o (contains_later k ks o c))
              (All-cons (λ (x : Sibling). x.op < o.0) z [] (higher k ks r o c) (All-nil (λ (x : Sibling). x.op < o.0)));
          all = λ m c. ⊎_elim (λ f. inl (f.0, Contains-append_left earlier (z ∷ []) (sibling m f.0) f.1))
              (λ f. ⊎_elim
              (λ q. inl (needs_issued job n, subst (λ (o : OpNumber). Contains (earlier ++ z ∷ []) (sibling o.0 (needs_issued job n))) q (Contains-push earlier z)))
              (λ e. inr e) (contains_cases k ks (number m) f)) (p.all m c);
          ordered = node_ordered job s h.who b.ways (w ++ d ∷ []) k.0 earlier roots n g p.ordered;
          sub = λ o c. p.sub o (contains_later k ks o c);
        }

    passed : (c : ℕ) (w : List ℕ) (d : ℕ) (earlier : List Sibling) (ks : List OpNumber) (is : Items G) (k : ℕ) → ShowsChildren job s h.who b.ways w j d earlier roots ks is →
        AreListed job s h.who roots j (siblings job ks is) → AreRising ks → Passed earlier ks → slice_get ks c ≡ Some (number k) → Among k
    passed c w d earlier ks no_item k g a r p e = absurd (none-some (number k) (ap (λ os. slice_get os c) (sym g) ∙ e))
    passed c w d earlier ks (said t is) k g a r p e = passed c w d earlier ks is k g a r p e
    passed c w d earlier [] (child_op n is) k g a r p e = absurd g
    passed zero w d earlier (x ∷ ks) (child_op n is) k g a r p e = subst (λ (o : OpNumber). Among o.0) (some_same x (number k) e) (record {
      at = w ++ d ∷ [];
      earlier = earlier;
      node = n;
      shows = g.1;
      known = p.known;
      before = p.before x (contains_first x ks);
      all = λ m c l. ⊎_elim (λ f. f)
          (λ f. ⊎_elim (λ q. absurd (omega (arith, l, ap (λ (o : OpNumber). o.0) q))) (λ q. absurd (omega (arith, l, higher x ks r (number m) q))) (contains_cases x ks (number m) f))
          (p.all m c);
      ordered = p.ordered;
      child = g.0;
      entry = λ q. entered x.0 (needs_issued job n) (siblings job ks is) (a.0 q);
    })
    passed (suc c) w d earlier (x ∷ ks) (child_op n is) k g a r p e =
        passed c w (suc d) (earlier ++ sibling x.0 (needs_issued job n) ∷ []) ks is k g.2 a.1 (rising_tail x.0 (numbers_in ks) r)
        (one_more w d earlier x ks n (siblings job ks is) g.1 a.0 r p) e

    pub among : (c : ℕ) (w : List ℕ) (is : Items G) (k : ℕ) → ShowsChildren job s h.who b.ways w j 0 [] roots (operation_at s j).children is →
        AreListed job s h.who roots j (siblings job (operation_at s j).children is) → slice_get (operation_at s j).children c ≡ Some (number k) → Among k
    among c w is k g a e = passed c w 0 [] (operation_at s j).children is k g a (h.rising j) (record {
      known = All-nil (IsKnown j);
      before = λ o q. All-nil (λ (z : Sibling). z.op < o.0);
      all = λ m q. inr q;
      ordered = tt;
      sub = λ o q. q;
    }) e

  -- ---- an operation but main is a child

  last_of : (way : List ℕ) (i k : ℕ) → Leads job s i way k → (i ≡ k) ⊎ ((j : ℕ) × (c : ℕ) × (slice_get (operation_at s j).children c ≡ Some (number k)))
  last_of [] i k l = inl l
  last_of (c ∷ way) i k l = ⊎_elim (λ q. inr (i, c, subst (λ x. slice_get (operation_at s i).children c ≡ Some (number x)) q l.1)) inr (last_of way l.0 k l.2)

  pub record Called (k : ℕ) : Type 0 where
    pub caller : ℕ
    pub roots : List RootId
    pub made : WereMade job s h.who b.ways roots
    pub among : Among roots made caller k
    pub is_child : Contains (operation_at s caller).children (number k)

  pub called : (k : ℕ) → k < length s.operations → 0 < k → Called k
  called k l pos = ⊎_elim (λ q. absurd (omega (arith, q, pos))) (λ q. by_caller q.0 q.1 q.2) (last_of w.0 0 k (h.leads k w.0 w.1))
    where
      w : (way : List ℕ) × IsAt job b.ways k way
      w = way_found job b.ways k (subst (λ n. k < n) (sym h.ways) l)

      by_caller : (j c : ℕ) → slice_get (operation_at s j).children c ≡ Some (number k) → Called k
      by_caller j c e =
          let there = got (operation_at s j).children c (number k) e in
          let g : Placed job s b h j = placed job s b h j (has_children job s b h j (number k) there) in
          by_node g g.there.node g.there.shows there
        where
          by_node : (g : Placed job s b h j) (n : Node G) → Shows job s h.who b.ways g.there.at j g.there.earlier g.there.above n → Contains (operation_at s j).children (number k) → Called k
          by_node g (op D N i f ps st is) r there =
              let roots = g.there.above ++ (operation_at s j).frame.own in
              let made = All-append (λ (r : RootId). r.0 < length s.roots) g.there.above (operation_at s j).frame.own g.there.made (h.own_made j) in
              record { caller = j; roots = roots; made = made; among = among roots made j c g.there.at is k r.1 r.0.listed e; is_child = there }
