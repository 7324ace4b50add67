-- Lists of links: made point by point, and searched by the point from which they go.
use Rattle.std.proofs.Common.{◌≡◌, ℕ, ℤ, ◌+◌, ◌<◌, ◌≤◌, Bool, true, false, ltb, leb, cond, List, []}
use Rattle.std.proofs.Common.{◌∷◌, ◌++◌, length, length-drop, get_or, take, drop, filter, All}
use Rattle.std.proofs.Common.{Option, Some, None, refl, sym, ap, ◌∙◌, arith, ⊎_elim, get_or-take}
use Rattle.std.proofs.Common.{get_or-drop}
use Rattle.std.specs.List.{flat_map}
use Rattle.std.specs.List.Sorted.{IsPartitionPoint}
use Rattle.std.proofs.lemmas.Bool.{cases_Bool, ltb-true, ltb-false, leb-true, leb-false, eq-eqb}
use Rattle.std.proofs.lemmas.Bool.{ne_eqb, cond-true, cond-false}
use Rattle.std.proofs.lemmas.List.{append-nil, length-take-le, take-append-drop}
use Rattle.std.proofs.lemmas.List.Elements.{All-nil, All-cons, All-head, All-tail, All-append}
use Rattle.std.proofs.lemmas.List.Elements.{All-map, All-filter, filter-append}
use Rattle.plain_values.specs.Points.{has}
use Rattle.point_sets.specs.declared.TheConstants.{POINT_LIMIT}
use Rattle.regent_tree.specs.Partitions.{point_named}
use Rattle.partitions.specs.Links.{in_range, link, links_at, links_of, leads_from, targets_at}
use Rattle.partitions.specs.Links.{AreLinks}
use Rattle.partitions.specs.declared.links.Link.{Link}
use Rattle.partitions.specs.declared.links.Direction.{Direction}
use Rattle.partitions.specs.declared.links.Direction.TheVariants.{Forward, Backward}

-- ---- where links lead

abbrev pub LeadsBelow : Link → Type 0
LeadsBelow l = l.to < POINT_LIMIT

at_below : (d : Direction) (parent : List ℕ) (x : ℕ) (o : Option ℕ) → x < POINT_LIMIT →
    All LeadsBelow (links_at d parent x (in_range o))
at_below d parent x None l = All-nil LeadsBelow
at_below d parent x (Some n) l =
    ⊎_elim
    (λ e. rw (cond-true (ltb n POINT_LIMIT) (Some n) None e) (each d (ltb-true n POINT_LIMIT e)))
    (λ e. rw (cond-false (ltb n POINT_LIMIT) (Some n) None e) (All-nil LeadsBelow))
    (cases_Bool (ltb n POINT_LIMIT))
  where
    one : (b : Bool) (k : Link) → k.to < POINT_LIMIT → All LeadsBelow (cond b (k ∷ []) [])
    one true k m = All-cons LeadsBelow k [] m (All-nil LeadsBelow)
    one false k m = All-nil LeadsBelow

    each : (d : Direction) → n < POINT_LIMIT → All LeadsBelow (links_at d parent x (Some n))
    each Forward m = one (has parent n) (link Forward x n) m
    each Backward m = one (has parent x) (link Backward x n) l

pub links_below : (d : Direction) (parent : List ℕ) (p : Bool) (xs : List ℕ) (zs : List ℤ) →
    All (λ x. x < POINT_LIMIT) xs → All LeadsBelow (links_of d parent p xs zs)
links_below d parent p [] zs below = All-nil LeadsBelow
links_below d parent p (x ∷ xs) [] below = All-nil LeadsBelow
links_below d parent p (x ∷ xs) (z ∷ zs) below =
    All-append LeadsBelow
    (links_at d parent x (in_range (point_named p z))) (links_of d parent p xs zs)
    (at_below d parent x (point_named p z) (All-head (λ y. y < POINT_LIMIT) x xs below))
    (links_below d parent p xs zs (All-tail (λ y. y < POINT_LIMIT) x xs below))

pub targets_below : (links : List Link) (ys : List ℕ) → AreLinks links →
    All (λ x. x < POINT_LIMIT) (flat_map (targets_at links) ys)
targets_below links [] h = All-nil (λ x. x < POINT_LIMIT)
targets_below links (y ∷ ys) h =
    All-append (λ x. x < POINT_LIMIT) (targets_at links y) (flat_map (targets_at links) ys)
    (All-map (λ x. x < POINT_LIMIT) (λ (l : Link). l.to) (filter (leads_from y) links)
    (All-filter (leads_from y) LeadsBelow links h.below)) (targets_below links ys h)

-- ---- searched

module _ {X : Type 0} (p : X → Bool) where
  filter_none : (xs : List X) → All (λ x. p x ≡ false) xs → filter p xs ≡ []
  filter_none [] h = refl
  filter_none (x ∷ xs) h =
      cond-false (p x) (x ∷ filter p xs) (filter p xs) (All-head (λ y. p y ≡ false) x xs h)
      ∙ filter_none xs (All-tail (λ y. p y ≡ false) x xs h)

  filter_whole : (xs : List X) → All (λ x. p x ≡ true) xs → filter p xs ≡ xs
  filter_whole [] h = refl
  filter_whole (x ∷ xs) h =
      cond-true (p x) (x ∷ filter p xs) (filter p xs) (All-head (λ y. p y ≡ true) x xs h)
      ∙ ap (λ t. x ∷ t) (filter_whole xs (All-tail (λ y. p y ≡ true) x xs h))

  -- what a test keeps of a list that passes it in the middle alone
  filter_middle : (xs ys zs : List X) → All (λ x. p x ≡ false) xs → All (λ x. p x ≡ true) ys →
      All (λ x. p x ≡ false) zs → filter p (xs ++ (ys ++ zs)) ≡ ys
  filter_middle xs ys zs a b c =
      filter-append p xs (ys ++ zs) ∙ ap (λ t. t ++ filter p (ys ++ zs)) (filter_none xs a)
      ∙ filter-append p ys zs ∙ ap (λ t. filter p ys ++ t) (filter_none zs c)
      ∙ append-nil (filter p ys) ∙ filter_whole ys b

-- the links from a point, between those from lower ones and those from higher ones
module _ (links : List Link) (point first count : ℕ)
    (some : IsPartitionPoint (λ (l : Link). ltb l.from point ≡ true)
    (λ (l : Link). ltb l.from point ≡ false) links first)
    (more : IsPartitionPoint (λ (l : Link). leb l.from point ≡ true)
    (λ (l : Link). leb l.from point ≡ false) (drop first links) count)
    (in_first : first ≤ length links) (in_count : count ≤ length (drop first links)) where
  parted : links
      ≡ take first links ++ (take count (drop first links) ++ drop count (drop first links))
  parted =
      sym (ap (λ t. take first links ++ t) (take-append-drop count (drop first links))
      ∙ take-append-drop first links)

  before : All (λ (l : Link). leads_from point l ≡ false) (take first links)
  before k d m =
      let under : k < first = omega (arith, length-take-le first links in_first) in
      let low = ltb-true (get_or links k d).from point (some.0 k d (omega arith) under) in
      rw (get_or-take first links k d under) (ne_eqb _ point (λ e. absurd (omega arith)))

  within : All (λ (l : Link). leads_from point l ≡ true) (take count (drop first links))
  within k d m =
      let under : k < count = omega (arith, length-take-le count (drop first links) in_count) in
      let there : first + k < length links = omega (arith, length-drop first links) in
      let low = ltb-false (get_or links (first + k) d).from point
      (some.1 (first + k) d (omega arith) there) in
      let high = leb-true (get_or (drop first links) k d).from point
      (more.0 k d (omega arith) under) in
      let same = get_or-drop first links k d in
      let from = ap (λ (l : Link). l.from) same in
      rw (get_or-take count (drop first links) k d under) (eq-eqb _ point (omega arith))

  after : All (λ (l : Link). leads_from point l ≡ false) (drop count (drop first links))
  after k d m =
      let rest = drop first links in
      let there : count + k < length rest = omega (arith, length-drop count rest) in
      let behind = more.1 (count + k) d (omega arith) there in
      let high = leb-false (get_or rest (count + k) d).from point behind in
      rw (get_or-drop count rest k d) (ne_eqb _ point (λ e. absurd (omega arith)))

  links_between : take count (drop first links) ≡ filter (leads_from point) links
  links_between =
      sym (ap (filter (leads_from point)) parted
      ∙ filter_middle (leads_from point) (take first links) (take count (drop first links))
      (drop count (drop first links)) before within after)

-- the same, where what is left behind the first place is known by another name
pub links_found : (links rest : List Link) (point first count : ℕ) → rest ≡ drop first links →
    first ≤ length links → count ≤ length rest →
    IsPartitionPoint (λ (l : Link). ltb l.from point ≡ true)
    (λ (l : Link). ltb l.from point ≡ false) links first →
    IsPartitionPoint (λ (l : Link). leb l.from point ≡ true)
    (λ (l : Link). leb l.from point ≡ false) rest count →
    take count rest ≡ filter (leads_from point) links
links_found links rest point first count e in_first in_count some more =
    let n = ap length e in
    let more' = rw e at more in
    rw e (links_between links point first count some more' in_first (omega arith))
