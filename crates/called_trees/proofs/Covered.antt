-- What one operation covers is listed no more of earlier ones: what is left of an entry, and what was taken out of it.
use Rattle.std.proofs.Common.{◌≡◌, ◌<◌, ◌⊎◌, ◌∷◌, ◌∙◌, ◌==◌, ◌&&◌, ◌||◌, ⊎_elim, inl, inr, ℕ, zero, suc, Bool, List, None, Option, Some, [], ap, arith, cond, eq-eqb, eqb-true, false, length, map, not, refl, subst, sym, true}
use Rattle.std.specs.Prelude.{All, filter, nat_lt}
use Rattle.std.specs.List.{Contains, list_any}
use Rattle.std.proofs.lemmas.Bool.{and_from, and_parts, lt-ltb, not-false, or_cases}
use Rattle.std.proofs.lemmas.List.Elements.{All-cons, All-contains, All-head, All-nil, All-tail, All-weaker}
use Rattle.lane_kernels.specs.declared.numbers.Mode.TheVariants.{Write}
use Rattle.plain_values.specs.Points.{within}
use Rattle.region_tree.specs.Needs.{AreNeeds, IsNeed, requirement_of, requirements_of}
use Rattle.region_tree.specs.Requirements.{Requirement, same_mode}
use Rattle.region_tree.specs.Trees.{RegionTree, is_region, node_at, points_at, points_by, points_of_content, set_at}
use Rattle.region_tree.specs.declared.content.Content.{Content}
use Rattle.region_tree.specs.declared.content.Content.TheVariants.{Partition, Region}
use Rattle.region_tree.specs.declared.needs.Need.{Need}
use Rattle.region_tree.proofs.Growth.{within_itself, within_trans}
use Rattle.region_finder.specs.Forests.{Upward, above, and_on, climbed}
use Rattle.region_finder.specs.Listings.{Listed, PlacedNeed, all_uncovered, covers, is_covered, listed_ops, placed, uncovered}
use Rattle.task_code.specs.declared.job.Job.{Job}
use Rattle.board_trees.specs.Names.{pointed, requirement_named}
use Rattle.board_trees.specs.Shows.{IsUpward}
use Rattle.board_trees.specs.Waits.{Sibling, is_written_over, writes_over}
use Rattle.changed_trees.proofs.Spared.{any_there, passing, pointed_in}
use Rattle.changed_trees.proofs.Contained.{contains_cases, contains_first, contains_later, none_in}

-- ---- the way up from a region

points_of_region : (t : RegionTree) (c : Content) → is_region c ≡ true → points_by t c ≡ points_of_content c
points_of_region t (Region xs) e = refl
points_of_region t (Partition region disjoint colours) e = absurd cc

-- what stands above a node has a smaller number and all its points
abbrev pub IsHigher : RegionTree → Type 0
IsHigher t = (node : ℕ) → node < length t.nodes → (u : Upward) → above t node ≡ Some u → (u.0.0 < node) × (within (points_at t node) (points_at t u.0.0) ≡ true)

module _ (t : RegionTree) (higher : IsHigher t) (xs : List ℕ) where
  abbrev HasThem : Upward → Type 0
  HasThem u = (u.0.0 < length t.nodes) × (is_region (node_at t u.0.0).content ≡ true → within xs (set_at t u.0.0) ≡ true)

  climbs : (k node : ℕ) → node < length t.nodes → within xs (points_at t node) ≡ true → All HasThem (climbed k t node)
  climbs zero node l w = All-nil HasThem
  climbs (suc k) node l w = by_step (above t node) refl (climbs k)
    where
      by_step : (o : Option Upward) → above t node ≡ o → ((n : ℕ) → n < length t.nodes → within xs (points_at t n) ≡ true → All HasThem (climbed k t n)) → All HasThem (and_on o (climbed k t))
      by_step None e more = All-nil HasThem
      by_step (Some u) e more =
          let up = higher node l u e in
          let there : u.0.0 < length t.nodes = omega (arith, l, up.0) in
          let inside = within_trans xs (points_at t node) (points_at t u.0.0) w up.1 in
          All-cons HasThem u (climbed k t u.0.0)
          (there, λ r. ap (within xs) (sym (points_of_region t (node_at t u.0.0).content r)) ∙ inside)
          (more u.0.0 there inside)

pub placed_upward : (job : Job) (t : RegionTree) → IsHigher t → (ns : List Need) → AreNeeds t ns → All (IsUpward job t) (map (placed t) ns)
placed_upward job t higher [] h = All-nil (IsUpward job t)
placed_upward job t higher (n ∷ ns) h =
    let first = All-head (IsNeed t) n ns h in
    All-cons (IsUpward job t) (placed t n) (map (placed t) ns)
    (record {
      there = first.region.there;
      way = climbs t higher (set_at t n.node.0) (suc n.node.0) n.node.0 first.region.there
          (ap (within (set_at t n.node.0)) (points_of_region t (node_at t n.node.0).content first.region.kind) ∙ within_itself (set_at t n.node.0));
    })
    (placed_upward job t higher ns (All-tail (IsNeed t) n ns h))

-- ---- entries

pub ops_uncovered : (context n : ℕ) (needs : List Need) (ls : List Listed) → listed_ops (all_uncovered context n needs ls) ≡ listed_ops ls
ops_uncovered context n needs [] = refl
ops_uncovered context n needs (l ∷ ls) = λ i. by_test ((l.context.0 == context) && nat_lt l.op.0 n) i ∷ ops_uncovered context n needs ls i
  where
    by_test : (b : Bool) → (cond b (record l { needs = filter (λ (m : PlacedNeed). not (is_covered needs m)) l.needs }) l).op ≡ l.op
    by_test true = refl
    by_test false = refl

pub uncovered_there : (context n : ℕ) (needs : List Need) (ls : List Listed) (l : Listed) → Contains ls l → Contains (all_uncovered context n needs ls) (uncovered context n needs l)
uncovered_there context n needs [] l c = absurd (none_in l c)
uncovered_there context n needs (x ∷ ls) l c = ⊎_elim
    (λ e. subst (λ y. Contains (uncovered context n needs x ∷ all_uncovered context n needs ls) (uncovered context n needs y)) e
    (contains_first (uncovered context n needs x) (all_uncovered context n needs ls)))
    (λ m. contains_later (uncovered context n needs x) (all_uncovered context n needs ls) (uncovered context n needs l) (uncovered_there context n needs ls l m))
    (contains_cases x ls l c)

-- what is left of an earlier one of the context
abbrev pub left_over : List Need → Listed → Listed
left_over needs l = record l { needs = filter (λ (m : PlacedNeed). not (is_covered needs m)) l.needs }

pub uncovered_here : (context n : ℕ) (needs : List Need) (l : Listed) → l.context.0 ≡ context → l.op.0 < n → uncovered context n needs l ≡ left_over needs l
uncovered_here context n needs l e b =
    ap (λ q. cond q (left_over needs l) l) (and_from (l.context.0 == context) (nat_lt l.op.0 n) (eq-eqb l.context.0 context e) (lt-ltb l.op.0 n b))

-- others stay
pub uncovered_else : (context n : ℕ) (needs : List Need) (l : Listed) → ((l.context.0 == context) && nat_lt l.op.0 n) ≡ false → uncovered context n needs l ≡ l
uncovered_else context n needs l e = ap (λ q. cond q (left_over needs l) l) e

module _ (t : RegionTree) (name : ℕ → ℕ) where
  -- a listed need as a requirement
  abbrev pub as_required : PlacedNeed → Requirement
  as_required m = requirement_named name (requirement_of t m.need)

  abbrev pub all_required_of : List PlacedNeed → List Requirement
  all_required_of ms = map (requirement_named name) (requirements_of t (map (λ (m : PlacedNeed). m.need) ms))

  module _ (p : PlacedNeed → Bool) where
    pub filter_all : (P : Requirement → Type 0) (ms : List PlacedNeed) → All P (all_required_of ms) → All P (all_required_of (filter p ms))
    filter_all P [] h = All-nil P
    filter_all P (m ∷ ms) h = by_test (p m) (filter_all P ms (All-tail P (as_required m) (all_required_of ms) h))
      where
        by_test : (b : Bool) → All P (all_required_of (filter p ms)) → All P (all_required_of (cond b (m ∷ filter p ms) (filter p ms)))
        by_test true more = All-cons P (as_required m) (all_required_of (filter p ms)) (All-head P (as_required m) (all_required_of ms) h) more
        by_test false more = more

    -- it is still there, or was taken out
    pub record TakenOut (ms : List PlacedNeed) (r : Requirement) : Type 0 where
      pub one : PlacedNeed
      pub there : Contains ms one
      pub fails : p one ≡ false
      pub is : as_required one ≡ r

    pub left_or_taken : (ms : List PlacedNeed) (r : Requirement) → Contains (all_required_of ms) r → Contains (all_required_of (filter p ms)) r ⊎ TakenOut ms r
    left_or_taken [] r c = absurd (none_in r c)
    left_or_taken (m ∷ ms) r c = by_test (p m) refl (contains_cases (as_required m) (all_required_of ms) r c) (left_or_taken ms r)
      where
        later : TakenOut ms r → TakenOut (m ∷ ms) r
        later x = record { one = x.one; there = contains_later m ms x.one x.there; fails = x.fails; is = x.is }

        by_test : (b : Bool) → p m ≡ b → (as_required m ≡ r) ⊎ Contains (all_required_of ms) r → (Contains (all_required_of ms) r → Contains (all_required_of (filter p ms)) r ⊎ TakenOut ms r) →
            Contains (all_required_of (cond b (m ∷ filter p ms) (filter p ms))) r ⊎ TakenOut (m ∷ ms) r
        by_test true e (inl q) more = inl (subst (λ z. Contains (z ∷ all_required_of (filter p ms)) r) (sym q) (contains_first r (all_required_of (filter p ms))))
        by_test true e (inr q) more = ⊎_elim (λ d. inl (contains_later (as_required m) (all_required_of (filter p ms)) r d)) (λ d. inr (later d)) (more q)
        by_test false e (inl q) more = inr (record { one = m; there = contains_first m ms; fails = e; is = q })
        by_test false e (inr q) more = ⊎_elim (λ d. inl d) (λ d. inr (later d)) (more q)

-- what is alike by two namings stays so
pub filter_alike : (t : RegionTree) (name other : ℕ → ℕ) (p : PlacedNeed → Bool) (ms : List PlacedNeed) → all_required_of t name ms ≡ all_required_of t other ms →
    all_required_of t name (filter p ms) ≡ all_required_of t other (filter p ms)
filter_alike t name other p [] e = refl
filter_alike t name other p (m ∷ ms) e = by_test (p m) (filter_alike t name other p ms (ap behind e))
  where
    behind : List Requirement → List Requirement
    behind [] = []
    behind (r ∷ rs) = rs

    first : List Requirement → Requirement
    first [] = as_required t name m
    first (r ∷ rs) = r

    by_test : (b : Bool) → all_required_of t name (filter p ms) ≡ all_required_of t other (filter p ms) →
        all_required_of t name (cond b (m ∷ filter p ms) (filter p ms)) ≡ all_required_of t other (cond b (m ∷ filter p ms) (filter p ms))
    by_test true more = λ i. first (e i) ∷ more i
    by_test false more = more

module _ (t : RegionTree) (name : ℕ → ℕ) where
  -- what covers a need writes over it
  pub covering_writes : (job : Job) (m : PlacedNeed) (n : Need) → IsUpward job t m → IsNeed t n → covers m n ≡ true →
      writes_over (as_required t name m) (requirement_named name (requirement_of t n)) ≡ true
  covering_writes job m n up is c =
      let d = and_parts (same_mode n.mode Write && (n.root.0 == m.need.root.0) && (n.field == m.need.field)) ((n.node.0 == m.need.node.0) || list_any (λ (u : Upward). u.0.0 == n.node.0) m.way) c in
      let b = and_parts (same_mode n.mode Write && (n.root.0 == m.need.root.0)) (n.field == m.need.field) d.0 in
      let a = and_parts (same_mode n.mode Write) (n.root.0 == m.need.root.0) b.0 in
      let xs = set_at t m.need.node.0 in
      and_from (same_mode n.mode Write && (name n.root.0 == name m.need.root.0) && (n.field == m.need.field)) (within xs (set_at t n.node.0))
      (and_from (same_mode n.mode Write && (name n.root.0 == name m.need.root.0)) (n.field == m.need.field)
      (and_from (same_mode n.mode Write) (name n.root.0 == name m.need.root.0) a.0 (eq-eqb (name n.root.0) (name m.need.root.0) (ap name (eqb-true n.root.0 m.need.root.0 a.1))))
      b.1)
      (⊎_elim
      (λ e. ap (λ z. within xs (set_at t z)) (eqb-true n.node.0 m.need.node.0 e) ∙ within_itself xs)
      (λ e.
      let u = passing (λ (u : Upward). u.0.0 == n.node.0) m.way e in
      let same : u.one.0.0 ≡ n.node.0 = eqb-true u.one.0.0 n.node.0 u.passes in
      let has = All-contains (λ (u : Upward). (u.0.0 < length t.nodes) × (is_region (node_at t u.0.0).content ≡ true → within xs (set_at t u.0.0) ≡ true)) m.way u.one up.way u.there in
      ap (λ z. within xs (set_at t z)) (sym same) ∙ has.1 (ap (λ z. is_region (node_at t z).content) same ∙ is.region.kind))
      (or_cases (n.node.0 == m.need.node.0) (list_any (λ (u : Upward). u.0.0 == n.node.0) m.way) d.1))

contains_map : {A B : Type 0} (f : A → B) (xs : List A) (x : A) → Contains xs x → Contains (map f xs) (f x)
contains_map f [] x c = absurd (none_in x c)
contains_map f (y ∷ xs) x c = ⊎_elim
    (λ e. subst (λ z. Contains (f y ∷ map f xs) (f z)) e (contains_first (f y) (map f xs)))
    (λ m. contains_later (f y) (map f xs) (f x) (contains_map f xs x m))
    (contains_cases y xs x c)

pub filter_each : {A : Type 0} (P : A → Type 0) (p : A → Bool) (xs : List A) → All P xs → All P (filter p xs)
filter_each P p [] h = h
filter_each P p (x ∷ xs) h = by_test (p x) (filter_each P p xs (All-tail P x xs h))
  where
    by_test : (b : Bool) → All P (filter p xs) → All P (cond b (x ∷ filter p xs) (filter p xs))
    by_test true more = All-cons P x (filter p xs) (All-head P x xs h) more
    by_test false more = more

-- ---- a later sibling writes over what was taken out

module _ (job : Job) (t : RegionTree) (needs : List Need) (are : AreNeeds t needs) (new : Sibling) (name : ℕ → ℕ)
    (required : pointed new.needs ≡ map (requirement_named name) (requirements_of t needs)) where
  abbrev uncovers : PlacedNeed → Bool
  uncovers m = not (is_covered needs m)

  new_writes : (ms : List PlacedNeed) → All (IsUpward job t) ms → (ys : List Sibling) → Contains ys new → (r : Requirement) → TakenOut t name uncovers ms r → is_written_over ys r ≡ true
  new_writes ms up ys later r d =
      let n = passing (covers d.one) needs (not-false (is_covered needs d.one) d.fails) in
      let q = requirement_named name (requirement_of t n.one) in
      let writes = covering_writes t name job d.one n.one (All-contains (IsUpward job t) ms d.one up d.there) (All-contains (IsNeed t) needs n.one are n.there) n.passes in
      let listed = contains_map (requirement_named name) (requirements_of t needs) (requirement_of t n.one) (contains_map (requirement_of t) needs n.one n.there) in
      let there = All-contains (Contains new.needs) (pointed new.needs) q (pointed_in new.needs) (subst (λ rs. Contains rs q) (sym required) listed) in
      any_there (λ (y : Sibling). list_any (writes_over r) y.needs) ys new later
      (any_there (writes_over r) new.needs q there (subst (λ z. writes_over z q ≡ true) d.is writes))

  pub left_or_written : (ms : List PlacedNeed) → All (IsUpward job t) ms → (ys : List Sibling) → Contains ys new → (D : List Requirement) →
      All (λ (r : Requirement). Contains (all_required_of t name ms) r ⊎ (is_written_over ys r ≡ true)) D →
      All (λ (r : Requirement). Contains (all_required_of t name (filter uncovers ms)) r ⊎ (is_written_over ys r ≡ true)) D
  left_or_written ms up ys later D h = All-weaker
      (λ (r : Requirement). Contains (all_required_of t name ms) r ⊎ (is_written_over ys r ≡ true))
      (λ (r : Requirement). Contains (all_required_of t name (filter uncovers ms)) r ⊎ (is_written_over ys r ≡ true))
      (λ r c. ⊎_elim
      (λ there. ⊎_elim (λ d. inl d) (λ d. inr (new_writes ms up ys later r d)) (left_or_taken t name uncovers ms r there))
      (λ e. inr e) c) D h
