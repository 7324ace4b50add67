-- Up from an operation by its callers, and down its way in the tree, to its children.
use Rattle.std.proofs.Common.{◌≡◌, ◌<◌, ◌≤◌, ◌⊎◌, ◌++◌, ◌∷◌, ◌∙◌, ℕ, zero, suc, List, Option, Some, [], ap, arith, eqb-true, false, inr, length, refl, subst, sym, true}
use Rattle.std.specs.Prelude.{All, nat_eq, slice_get}
use Rattle.std.specs.List.{Contains}
use Rattle.std.proofs.lemmas.Bool.{and_parts}
use Rattle.std.proofs.lemmas.List.Elements.{All-append, All-contains_itself, All-weaker}
use Rattle.std.proofs.lemmas.Option.{none-some, same_Some}
use Rattle.region_tree.specs.declared.tree.OpNumber.{OpNumber}
use Rattle.region_tree.specs.declared.tree.RootId.{RootId}
use Rattle.dependence_graph.specs.Knots.{number}
use Rattle.task_code.specs.declared.job.Job.{Job}
use Rattle.board_rules.specs.Apart.{begins, children_in, find, find_among}
use Rattle.board_rules.specs.Boards.{Items, Operation as Node, child_op, no_item, op, said}
use Rattle.board_rules.specs.Ground.{Ground}
use Rattle.regent_boards.specs.RegentMachine.{regent_ground}
use Rattle.code_boards.specs.Views.{spaces_of}
use Rattle.board_terms.specs.States.{State, operation_at}
use Rattle.board_trees.specs.Shows.{AreListed, IsChild, IsListed, Leads, Shows, ShowsChildren, needs_issued, siblings}
use Rattle.board_trees.specs.Waits.{Sibling, has_ended}
use Rattle.board_trees.proofs.Along.{some_same}
use Rattle.journal_progress.specs.Laws.{IsAbove, caller_up}

module _ (job : Job) (s : State) (who : ℕ → ℕ) (ways : List (List ℕ)) where
  abbrev G : Ground
  G = regent_ground (spaces_of job.code)

  -- ---- callers

  mutual
    pub climbs : (way w : List ℕ) (j k : ℕ) (earlier : List Sibling) (above : List RootId) (n : Node G) → Shows job s who ways w j earlier above n → Leads job s j way k → caller_up s (length way) k ≡ j
    climbs [] w j k earlier above n h l = sym l
    climbs (c ∷ way) w j k earlier above (op D N i f ps st is) h l =
        climbs_among c way w j k 0 [] (above ++ (operation_at s j).frame.own) (operation_at s j).children is l.0 h.1 l.1 l.2

    climbs_among : (c : ℕ) (way w : List ℕ) (j k d : ℕ) (earlier : List Sibling) (roots : List RootId) (ks : List OpNumber) (is : Items G) (x : ℕ) → ShowsChildren job s who ways w j d earlier roots ks is →
        slice_get ks c ≡ Some (number x) → Leads job s x way k → caller_up s (suc (length way)) k ≡ j
    climbs_among c way w j k d earlier roots ks no_item x h e l = absurd (none-some (number x) (ap (λ ks. slice_get ks c) (sym h) ∙ e))
    climbs_among c way w j k d earlier roots ks (said t is) x h e l = climbs_among c way w j k d earlier roots ks is x h e l
    climbs_among c way w j k d earlier roots [] (child_op n is) x h e l = absurd h
    climbs_among zero way w j k d earlier roots (y ∷ ys) (child_op n is) x h e l =
        ap (λ z. (operation_at s z).parent.0)
        (climbs way (w ++ d ∷ []) y.0 k earlier roots n h.1 (subst (λ (z : OpNumber). Leads job s z.0 way k) (sym (some_same y (number x) e)) l))
        ∙ ap (λ (p : OpNumber). p.0) h.0.parent
    climbs_among (suc c) way w j k d earlier roots (y ∷ ys) (child_op n is) x h e l =
        climbs_among c way w j k (suc d) (earlier ++ record { op = y.0; needs = needs_issued job n } ∷ []) roots ys is x h.2 e l

  -- where a way begins another, the operation there is above the other
  mutual
    pub begins_above : (v w z : List ℕ) (j a b : ℕ) (earlier : List Sibling) (above : List RootId) (n : Node G) → Shows job s who ways z j earlier above n → Leads job s j v a → Leads job s j w b →
        begins G v w ≡ true → IsAbove s a b
    begins_above [] w z j a b earlier above n h la lb e = (length w, climbs w z j b earlier above n h lb ∙ la)
    begins_above (c ∷ v) [] z j a b earlier above n h la lb e = absurd cc
    begins_above (c ∷ v) (d ∷ w) z j a b earlier above (op D N i f ps st is) h la lb e =
        let parts = and_parts (nat_eq c d) (begins G v w) e in
        begins_among c v w z j a b 0 [] (above ++ (operation_at s j).frame.own) (operation_at s j).children is la.0 lb.0 h.1 la.1 la.2
        (ap (slice_get (operation_at s j).children) (eqb-true c d parts.0) ∙ lb.1) lb.2 parts.1

    begins_among : (c : ℕ) (v w z : List ℕ) (j a b d : ℕ) (earlier : List Sibling) (roots : List RootId) (ks : List OpNumber) (is : Items G) (x y : ℕ) → ShowsChildren job s who ways z j d earlier roots ks is →
        slice_get ks c ≡ Some (number x) → Leads job s x v a → slice_get ks c ≡ Some (number y) → Leads job s y w b → begins G v w ≡ true → IsAbove s a b
    begins_among c v w z j a b d earlier roots ks no_item x y h p la q lb e = absurd (none-some (number x) (ap (λ ks. slice_get ks c) (sym h) ∙ p))
    begins_among c v w z j a b d earlier roots ks (said t is) x y h p la q lb e = begins_among c v w z j a b d earlier roots ks is x y h p la q lb e
    begins_among c v w z j a b d earlier roots [] (child_op n is) x y h p la q lb e = absurd h
    begins_among zero v w z j a b d earlier roots (k ∷ ks) (child_op n is) x y h p la q lb e =
        begins_above v w (z ++ d ∷ []) k.0 a b earlier roots n h.1
        (subst (λ (o : OpNumber). Leads job s o.0 v a) (sym (some_same k (number x) p)) la)
        (subst (λ (o : OpNumber). Leads job s o.0 w b) (sym (some_same k (number y) q)) lb) e
    begins_among (suc c) v w z j a b d earlier roots (k ∷ ks) (child_op n is) x y h p la q lb e =
        begins_among c v w z j a b (suc d) (earlier ++ record { op = k.0; needs = needs_issued job n } ∷ []) roots ks is x y h.2 p la q lb e

  -- ---- the operation itself

  abbrev pub WereMade : List RootId → Type 0
  WereMade roots = All (λ (r : RootId). r.0 < length s.roots) roots

  -- it is main, or another's child
  abbrev pub IsCalled : ℕ → List RootId → Node G → Type 0
  IsCalled k above n = (k ≡ 0) ⊎ ((j : ℕ) × (later : List Sibling) × IsChild job s who ways j k × (has_ended s.waits.knots k ≡ false → IsListed job s who above j k (needs_issued job n) later))

  -- a root that its caller made, or another above, which was issued before it
  abbrev pub IsOwned : ℕ → RootId → Type 0
  IsOwned k r = (n : ℕ) × Contains (operation_at s (caller_up s (suc n) k)).frame.own r × (caller_up s (suc n) k < k)

  -- callers are issued before those that they call
  mutual
    below : (way w : List ℕ) (j k : ℕ) (earlier : List Sibling) (above : List RootId) (n : Node G) → Shows job s who ways w j earlier above n → Leads job s j way k → j ≤ k
    below [] w j k earlier above n h l = omega (arith, l)
    below (c ∷ way) w j k earlier above (op D N i f ps st is) h l =
        let less = below_among c way w j k 0 [] (above ++ (operation_at s j).frame.own) (operation_at s j).children is l.0 h.1 l.1 l.2 in
        omega (arith, less)

    below_among : (c : ℕ) (way w : List ℕ) (j k d : ℕ) (earlier : List Sibling) (roots : List RootId) (ks : List OpNumber) (is : Items G) (x : ℕ) → ShowsChildren job s who ways w j d earlier roots ks is →
        slice_get ks c ≡ Some (number x) → Leads job s x way k → j < k
    below_among c way w j k d earlier roots ks no_item x h e l = absurd (none-some (number x) (ap (λ ks. slice_get ks c) (sym h) ∙ e))
    below_among c way w j k d earlier roots ks (said t is) x h e l = below_among c way w j k d earlier roots ks is x h e l
    below_among c way w j k d earlier roots [] (child_op n is) x h e l = absurd h
    below_among zero way w j k d earlier roots (y ∷ ys) (child_op n is) x h e l =
        let later = h.0.later in
        let at_least = below way (w ++ d ∷ []) y.0 k earlier roots n h.1 (subst (λ (z : OpNumber). Leads job s z.0 way k) (sym (some_same y (number x) e)) l) in
        omega (arith, later, at_least)
    below_among (suc c) way w j k d earlier roots (y ∷ ys) (child_op n is) x h e l =
        below_among c way w j k (suc d) (earlier ++ record { op = y.0; needs = needs_issued job n } ∷ []) roots ys is x h.2 e l

  -- a way leads to it
  pub record Reached (k : ℕ) (o : Option (Node G)) : Type 0 where
    pub at : List ℕ
    pub earlier : List Sibling
    pub above : List RootId
    pub node : Node G
    pub found : o ≡ Some node
    pub shows : Shows job s who ways at k earlier above node
    pub made : WereMade above
    pub owned : All (IsOwned k) above
    pub called : IsCalled k above node

  module _ (own_made : (j : ℕ) → WereMade (operation_at s j).frame.own) where
    mutual
      pub reached : (way w : List ℕ) (j k : ℕ) (earlier : List Sibling) (above : List RootId) (n : Node G) → Shows job s who ways w j earlier above n → WereMade above → All (IsOwned k) above →
          IsCalled j above n → Leads job s j way k → Reached k (find G way n)
      reached [] w j k earlier above (op D N i f ps st is) h m o r l = subst (λ x. Reached x (Some (op D N i f ps st is))) l (record {
        at = w;
        earlier = earlier;
        above = above;
        node = op D N i f ps st is;
        found = refl;
        shows = h;
        made = m;
        owned = subst (λ x. All (IsOwned x) above) (sym l) o;
        called = r;
      })
      reached (c ∷ way) w j k earlier above (op D N i f ps st is) h m o r l =
          let own = (operation_at s j).frame.own in
          let up = climbs_among c way w j k 0 [] (above ++ own) (operation_at s j).children is l.0 h.1 l.1 l.2 in
          let less = below_among c way w j k 0 [] (above ++ own) (operation_at s j).children is l.0 h.1 l.1 l.2 in
          reached_among c way w j k 0 [] (above ++ own) (operation_at s j).children is l.0 h.1 h.0.listed
          (All-append (λ (r : RootId). r.0 < length s.roots) above own m (own_made j))
          (All-append (IsOwned k) above own o (All-weaker (Contains own) (IsOwned k)
          (λ r q. (length way, subst (λ z. Contains (operation_at s z).frame.own r) (sym up) q, subst (λ z. z < k) (sym up) less)) own (All-contains_itself own))) l.1 l.2

      reached_among : (c : ℕ) (way w : List ℕ) (j k d : ℕ) (earlier : List Sibling) (roots : List RootId) (ks : List OpNumber) (is : Items G) (x : ℕ) → ShowsChildren job s who ways w j d earlier roots ks is →
          AreListed job s who roots j (siblings job ks is) → WereMade roots → All (IsOwned k) roots → slice_get ks c ≡ Some (number x) → Leads job s x way k → Reached k (find_among G c way is)
      reached_among c way w j k d earlier roots ks no_item x h a m o e l = absurd (none-some (number x) (ap (λ ks. slice_get ks c) (sym h) ∙ e))
      reached_among c way w j k d earlier roots ks (said t is) x h a m o e l = reached_among c way w j k d earlier roots ks is x h a m o e l
      reached_among c way w j k d earlier roots [] (child_op n is) x h a m o e l = absurd h
      reached_among zero way w j k d earlier roots (y ∷ ys) (child_op n is) x h a m o e l =
          reached way (w ++ d ∷ []) y.0 k earlier roots n h.1 m o (inr (j, siblings job ys is, h.0, a.0)) (subst (λ (z : OpNumber). Leads job s z.0 way k) (sym (some_same y (number x) e)) l)
      reached_among (suc c) way w j k d earlier roots (y ∷ ys) (child_op n is) x h a m o e l =
          reached_among c way w j k (suc d) (earlier ++ record { op = y.0; needs = needs_issued job n } ∷ []) roots ys is x h.2 a.1 m o e l

  -- ---- a child

  -- one more place behind a way
  mutual
    pub find_behind : (w : List ℕ) (c : ℕ) (t a : Node G) → find G w t ≡ Some a → find G (w ++ c ∷ []) t ≡ find G (c ∷ []) a
    find_behind [] c (op D N i f ps st is) a e = ap (find G (c ∷ [])) (same_Some (op D N i f ps st is) a e)
    find_behind (x ∷ w) c (op D N i f ps st is) a e = find_behind_among x w c is a e

    find_behind_among : (x : ℕ) (w : List ℕ) (c : ℕ) (is : Items G) (a : Node G) → find_among G x w is ≡ Some a → find_among G x (w ++ c ∷ []) is ≡ find G (c ∷ []) a
    find_behind_among x w c no_item a e = absurd (none-some a e)
    find_behind_among x w c (said t is) a e = find_behind_among x w c is a e
    find_behind_among zero w c (child_op n is) a e = find_behind w c n a e
    find_behind_among (suc x) w c (child_op n is) a e = find_behind_among x w c is a e

  -- operation x is the child at a place, and shows
  pub record ChildAt (j c x : ℕ) (roots : List RootId) (is : Items G) : Type 0 where
    pub at : List ℕ
    pub earlier : List Sibling
    pub node : Node G
    pub found : find_among G c [] is ≡ Some node
    pub among : Contains (children_in G is) node
    pub shows : Shows job s who ways at x earlier roots node
    pub child : IsChild job s who ways j x
    pub later : List Sibling
    pub listed : has_ended s.waits.knots x ≡ false → IsListed job s who roots j x (needs_issued job node) later

  whole : (n : Node G) → find G [] n ≡ Some n
  whole (op D N i f ps st is) = refl

  further : (n y : Node G) (is : Items G) → Contains (children_in G is) y → Contains (n ∷ children_in G is) y
  further n y is c = let l = c.1 in (suc c.0, omega (arith, l), c.2)

  pub child_at : (c : ℕ) (w : List ℕ) (j d : ℕ) (earlier : List Sibling) (roots : List RootId) (ks : List OpNumber) (is : Items G) (x : ℕ) → ShowsChildren job s who ways w j d earlier roots ks is →
      AreListed job s who roots j (siblings job ks is) → slice_get ks c ≡ Some (number x) → ChildAt j c x roots is
  child_at c w j d earlier roots ks no_item x h a e = absurd (none-some (number x) (ap (λ ks. slice_get ks c) (sym h) ∙ e))
  child_at c w j d earlier roots ks (said t is) x h a e =
      let r = child_at c w j d earlier roots ks is x h a e in
      record { at = r.at; earlier = r.earlier; node = r.node; found = r.found; among = r.among; shows = r.shows; child = r.child; later = r.later; listed = r.listed }
  child_at c w j d earlier roots [] (child_op n is) x h a e = absurd h
  child_at zero w j d earlier roots (k ∷ ks) (child_op n is) x h a e =
      let same : k.0 ≡ x = ap (λ (o : OpNumber). o.0) (some_same k (number x) e) in
      record {
        at = w ++ d ∷ [];
        earlier = earlier;
        node = n;
        found = whole n;
        among = (zero, omega arith, refl);
        shows = subst (λ y. Shows job s who ways (w ++ d ∷ []) y earlier roots n) same h.1;
        child = subst (λ y. IsChild job s who ways j y) same h.0;
        later = siblings job ks is;
        listed = subst (λ y. has_ended s.waits.knots y ≡ false → IsListed job s who roots j y (needs_issued job n) (siblings job ks is)) same a.0;
      }
  child_at (suc c) w j d earlier roots (k ∷ ks) (child_op n is) x h a e =
      let r = child_at c w j (suc d) (earlier ++ record { op = k.0; needs = needs_issued job n } ∷ []) roots ks is x h.2 a.1 e in
      record { at = r.at; earlier = r.earlier; node = r.node; found = r.found; among = further n r.node is r.among; shows = r.shows; child = r.child; later = r.later; listed = r.listed }

  pub place_of : (ks : List OpNumber) (k : OpNumber) → Contains ks k → (c : ℕ) × (slice_get ks c ≡ Some k)
  place_of [] k h = absurd (omega (arith, h.1))
  place_of (x ∷ ks) k (zero, l, e) = (zero, ap Some e)
  place_of (x ∷ ks) k (suc c, l, e) = let r = place_of ks k (c, omega (arith, l), e) in (suc r.0, r.1)
