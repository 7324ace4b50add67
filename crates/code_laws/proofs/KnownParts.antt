-- What is derived of a part at a place of a task's body is derived of its whole: so what the rules allow of it may be done. And
-- within what a region with a name lies.
use Rattle.std.proofs.Common.{◌≡◌, ℕ, ◌<◌, ◌≤◌, Bool, List, [], ◌∷◌, Some, true, ◌⊎◌, inl, inr, refl, ap, sym, subst, ◌∙◌, ⊎_elim, arith}
use Rattle.std.specs.Prelude.{length, ◌&&◌, ◌||◌, ◌==◌}
use Rattle.std.specs.List.{Contains, list_any}
use Rattle.std.proofs.lemmas.Bool.{and_from, and_parts, or_cases, or_left, or_right}
use Rattle.constraint_check.proofs.Table.{is_subregion-derivable}
use Rattle.constraint_check.specs.Derivations.{IsBelow, child, same, through, told_within, variable}
use Rattle.regent_tree.proofs.Members.{Contains-from_Has, Has, Has-from_Contains, Has-map}
use Rattle.regent_tree.specs.Facts.{is_subregion}
use Rattle.regent_tree.specs.Rights.{gives, is_held, same_access}
use Rattle.regent_tree.specs.Scopes.{Scope, scope_of}
use Rattle.regent_tree.specs.Syntax.{TaskTree, Tree}
use Rattle.regent_tree.specs.Typing.{parent_of}
use Rattle.regent_tree.specs.declared.facts.Colour.{Colour}
use Rattle.regent_tree.specs.declared.facts.Colour.TheVariants.{Unknown}
use Rattle.regent_tree.specs.declared.facts.Known.{Known}
use Rattle.regent_tree.specs.declared.facts.Known.TheVariants.{Apart, Made, PartOf, Within}
use Rattle.regent_tree.specs.declared.facts.Term.{Term}
use Rattle.regent_tree.specs.declared.facts.Term.TheVariants as place
use Rattle.regent_tree.specs.declared.rights.Access.{Access}
use Rattle.regent_tree.specs.declared.rights.Access.TheVariants as access
use Rattle.regent_tree.specs.declared.rights.Right.{Right}
use Rattle.regent_tree.specs.declared.typing.Bound.{Bound}
use Rattle.regent_tree.specs.declared.typing.StaticType.TheVariants.{Partition as partition_type}
use Rattle.check_rules.specs.rules.Privileges.{made_above, may_do, wanting}
use Rattle.code_laws.specs.Above.{cut_told, first_told, piece_told}
use Rattle.code_laws.specs.Handing.{taking_of, told_in}
use Rattle.code_laws.specs.Steps.{Taking}
use Rattle.code_laws.specs.Taking.{LiesUp, known_of_pairs, pairs_in, up_itself, up_part}
use Rattle.code_laws.proofs.KnownHeads.{IsPair, IsPiece, KnowsHead, above_told, told_here}

any_more : {A : Type 0} (p q : A → Bool) (xs : List A) → ((x : A) → p x ≡ true → q x ≡ true) → list_any p xs ≡ true → list_any q xs ≡ true
any_more p q [] more e = e
any_more p q (x ∷ xs) more e =
    ⊎_elim (λ h. or_left (q x) (list_any q xs) (more x h)) (λ h. or_right (q x) (list_any q xs) (any_more p q xs more h)) (or_cases (p x) (list_any p xs) e)

abbrev IsName : Term → Type 0
IsName (place.Name i) = Unit {0}
IsName (place.Child p c) = ⊥

abbrev number_in : Term → ℕ
number_in (place.Name i) = i
number_in (place.Child p c) = 0

abbrev partition_in : Term → ℕ
partition_in (place.Name i) = 0
partition_in (place.Child p c) = p

abbrev colour_in : Term → Colour
colour_in (place.Name i) = Unknown
colour_in (place.Child p c) = c

module _ (tree : Tree) (task : TaskTree) (s : Scope) (head : KnowsHead tree task s) where
  abbrev y : Taking
  y = taking_of tree task

  not_child : (a b : Term) (p : ℕ) (c : Colour) → IsPair tree task a b ⊎ IsPiece task s a b → a ≡ place.Child p c → ⊥
  not_child a b p c (inl d) e = subst IsName (sym d.is_lower ∙ e) tt
  not_child a b p c (inr d) e = subst IsName (sym d.is_lower ∙ e) tt

  -- parameters of which it follows that the one lies within the other
  abbrev pub IsPaired : ℕ → ℕ → Type 0
  IsPaired i j = (i < length task.params) × (j < length task.params)
      × (is_subregion (known_of_pairs (pairs_in (scope_of tree task).known)) (place.Name i) (place.Name j) ≡ true)

  -- within what a region with a name lies: within one within which it began, or a parameter's within which that lies, or a part
  data Lands (i : ℕ) : Term → Type 0 where
    lands_name : (k : ℕ) → LiesUp y i k → Lands i (place.Name k)
    lands_pair : (k j : ℕ) → LiesUp y i k → IsPaired k j → Lands i (place.Name j)
    lands_part : (k p : ℕ) (c : Colour) → LiesUp y i k → length task.params ≤ k → first_told (cut_told k) s.known ≡ Some p → first_told (piece_told k) s.known ≡ Some (p, c) → Lands i (place.Child p c)

  -- and a part: within itself, or within what its whole lies within
  data Over (p : ℕ) (c : Colour) : Term → Type 0 where
    over_itself : Over p c (place.Child p c)
    over_whole : (r : ℕ) (d : Bool) (b : Term) → Contains s.known (PartOf p r d) → Lands r b → Over p c b

  abbrev Reach : Term → Term → Type 0
  Reach (place.Name i) b = Lands i b
  Reach (place.Child p c) b = Over p c b

  up_then : (i j k : ℕ) → LiesUp y i j → LiesUp y j k → LiesUp y i k
  up_then i _ k (up_itself _) u = u
  up_then i j k (up_part _ r _ high above more) u = up_part i r k high above (up_then r j k more u)

  -- a parameter's region began as none
  low_itself : (i j : ℕ) → LiesUp y i j → i < length task.params → j ≡ i
  low_itself i _ (up_itself _) low = refl
  low_itself i j (up_part _ r _ high above more) low = absurd (omega (arith, high, low))

  lands_up : (i j : ℕ) (b : Term) → LiesUp y i j → Lands j b → Lands i b
  lands_up i j _ u (lands_name k v) = lands_name k (up_then i j k u v)
  lands_up i j _ u (lands_pair k l v pair) = lands_pair k l (up_then i j k u v) pair
  lands_up i j _ u (lands_part k p c v high told piece) = lands_part k p c (up_then i j k u v) high told piece

  paired_through : (i j k : ℕ) → IsPaired i j → IsPaired j k → IsPaired i k
  paired_through i j k a b =
      let ps = known_of_pairs (pairs_in (scope_of tree task).known) in
      let p = (is_subregion-derivable ps (place.Name i) (place.Name j)).0 a.2 in
      let q = (is_subregion-derivable ps (place.Name j) (place.Name k)).0 b.2 in
      (a.0, b.1, (is_subregion-derivable ps (place.Name i) (place.Name k)).1 (record { below = through p.below q.below; certain = q.certain }))

  lands_paired : (i k j : ℕ) (b : Term) → LiesUp y i k → IsPaired k j → Lands j b → Lands i b
  lands_paired i k j _ u pair (lands_name l v) = subst (λ n. Lands i (place.Name n)) (sym (low_itself j l v pair.1)) (lands_pair k j u pair)
  lands_paired i k j _ u pair (lands_pair l n v other) =
      lands_pair k n u (paired_through k j n pair (subst (λ d. IsPaired d n) (low_itself j l v pair.1) other))
  lands_paired i k j _ u pair (lands_part l p c v high told piece) =
      let low = pair.1 in let one = low_itself j l v low in absurd (omega (arith, low, high, one))

  lands_over : (i k p : ℕ) (c : Colour) (b : Term) → LiesUp y i k → length task.params ≤ k → first_told (cut_told k) s.known ≡ Some p → first_told (piece_told k) s.known ≡ Some (p, c) → Over p c b → Lands i b
  lands_over i k p c _ u high told piece over_itself = lands_part k p c u high told piece
  lands_over i k p c b u high told piece (over_whole r d _ known lands) =
      lands_up i r b (up_then i k r u (up_part k r r high (above_told head k p r d told known) (up_itself r))) lands

  name_reach : (i : ℕ) (o b : Term) → Lands i o → Reach o b → Lands i b
  name_reach i _ b (lands_name k u) more = lands_up i k b u more
  name_reach i _ b (lands_pair k j u pair) more = lands_paired i k j b u pair more
  name_reach i _ b (lands_part k p c u high told piece) more = lands_over i k p c b u high told piece more

  part_reach : (p : ℕ) (c : Colour) (o b : Term) → Over p c o → Reach o b → Over p c b
  part_reach p c _ b over_itself more = more
  part_reach p c o b (over_whole r d _ known lands) more = over_whole r d b known (name_reach r o b lands more)

  joined : (a o b : Term) → Reach a o → Reach o b → Reach a b
  joined (place.Name i) o b first more = name_reach i o b first more
  joined (place.Child p c) o b first more = part_reach p c o b first more

  itself : (a : Term) → Reach a a
  itself (place.Name i) = lands_name i (up_itself i)
  itself (place.Child p c) = over_itself

  over_told : (p r : ℕ) (c : Colour) (d : Bool) → Contains s.known (PartOf p r d) → Over p c (place.Name r)
  over_told p r c d k = over_whole r d (place.Name r) k (lands_name r (up_itself r))

  told_reach : (a b : Term) → IsPair tree task a b ⊎ IsPiece task s a b → Reach a b
  told_reach a b (inl p) =
      let ps = pairs_in (scope_of tree task).known in
      subst (λ a. Reach a b) (sym p.is_lower) (subst (Lands p.lower) (sym p.is_upper) (lands_pair p.lower p.upper (up_itself p.lower) (
        p.low,
        p.high,
        (is_subregion-derivable (known_of_pairs ps) (place.Name p.lower) (place.Name p.upper)).1 (record {
          below = told_within (Contains-from_Has (known_of_pairs ps) (Within (place.Name p.lower) (place.Name p.upper))
              (Has-map (λ (q : ℕ × ℕ). Within (place.Name q.0) (place.Name q.1)) ps (p.lower, p.upper) (Has-from_Contains ps (p.lower, p.upper) p.among)));
          certain = refl;
        }),
      )))
  told_reach a b (inr p) =
      subst (λ a. Reach a b) (sym p.is_lower) (subst (Lands p.own) (sym p.is_upper) (lands_part p.own p.cut p.colour (up_itself p.own) p.high p.told p.piece))

  reach : (a b : Term) → IsBelow s.known a b → Reach a b
  reach a _ same = itself a
  reach a b (told_within c) = told_reach a b (head.facts.within a b c)
  reach a b (through p q) = joined a _ b (reach a _ p) (reach _ b q)
  reach _ _ (child k) = over_told _ _ _ _ k
  reach a b (variable c) = told_reach a b (head.facts.within a b c)

  -- a region began within what lies within another, or is that
  pub record Began (i j : ℕ) : Type 0 where
    pub high : length task.params ≤ i
    pub whole : ℕ
    pub above : y.above i ≡ Some whole
    pub upper : ℕ
    pub up : LiesUp y whole upper
    pub ends : (upper ≡ j) ⊎ IsPaired upper j

  -- a region lies within itself, both are parameters' of which it follows, or it began within such
  abbrev pub IsWithin : ℕ → ℕ → Type 0
  IsWithin i j = (j ≡ i) ⊎ (IsPaired i j ⊎ Began i j)

  by_name : (i j : ℕ) → LiesUp y i j → IsWithin i j
  by_name i _ (up_itself _) = inl refl
  by_name i j (up_part _ r _ high above up) = inr (inr (record { high = high; whole = r; above = above; upper = j; up = up; ends = inl refl }))

  by_pair : (i k j : ℕ) → LiesUp y i k → IsPaired k j → IsWithin i j
  by_pair i _ j (up_itself _) pair = inr (inl pair)
  by_pair i k j (up_part _ r _ high above up) pair = inr (inr (record { high = high; whole = r; above = above; upper = k; up = up; ends = inr pair }))

  landed : (i : ℕ) (b : Term) → Lands i b → (j : ℕ) → b ≡ place.Name j → IsWithin i j
  landed i _ (lands_name k u) j e = subst (IsWithin i) (ap number_in e) (by_name i k u)
  landed i _ (lands_pair k l u pair) j e = subst (IsWithin i) (ap number_in e) (by_pair i k l u pair)
  landed i _ (lands_part k p c u high told piece) j e = absurd (subst IsName (sym e) tt)

  pub name_within : (i j : ℕ) → is_subregion s.known (place.Name i) (place.Name j) ≡ true → IsWithin i j
  name_within i j e =
      landed i (place.Name j) (reach (place.Name i) (place.Name j) ((is_subregion-derivable s.known (place.Name i) (place.Name j)).0 e).below) j refl

  -- a region lies within the part of a colour: it began as that one, or as a part of what lies within that
  pub record IsLanded (i p : ℕ) (c : Colour) : Type 0 where
    pub upper : ℕ
    pub up : LiesUp y i upper
    pub high : length task.params ≤ upper
    pub piece : y.piece upper ≡ Some (p, c)

  on_part : (i : ℕ) (b : Term) → Lands i b → (p : ℕ) (c : Colour) → b ≡ place.Child p c → IsLanded i p c
  on_part i _ (lands_name k u) p c e = absurd (subst IsName e tt)
  on_part i _ (lands_pair k l u pair) p c e = absurd (subst IsName e tt)
  on_part i _ (lands_part k q d u high told piece) p c e = record {
    upper = k;
    up = u;
    high = high;
    piece = told_here (told_in tree task) head.told (piece_told k) (p, c)
        (subst (λ b. first_told (piece_told k) s.known ≡ Some (partition_in b, colour_in b)) e piece);
  }

  pub part_landed : (i p : ℕ) (c : Colour) → IsBelow s.known (place.Name i) (place.Child p c) → IsLanded i p c
  part_landed i p c below = on_part i (place.Child p c) (reach (place.Name i) (place.Child p c) below) p c refl

  -- a part lies within itself, and within what a region lies within of which the partition is
  pub data IsAbove (p : ℕ) (c : Colour) (b : Term) : Type 0 where
    is_same : b ≡ place.Child p c → IsAbove p c b
    is_over : (r : ℕ) (d : Bool) → Contains s.known (PartOf p r d) → IsBelow s.known (place.Name r) b → IsAbove p c b

  above_child : (q r : ℕ) (f : Colour) (d : Bool) → Contains s.known (PartOf q r d) → (p : ℕ) (c : Colour) → place.Child q f ≡ place.Child p c →
      IsAbove p c (place.Name r)
  above_child q r f d k p c e = is_over r d (subst (λ n. Contains s.known (PartOf n r d)) (ap partition_in e) k) same

  pub part_below : (a b : Term) → IsBelow s.known a b → (p : ℕ) (c : Colour) → a ≡ place.Child p c → IsAbove p c b
  part_below a _ same p c e = is_same e
  part_below a b (told_within k) p c e = absurd (not_child a b p c (head.facts.within a b k) e)
  part_below a b (through x y) p c e = onward (part_below a _ x p c e) y (λ d. part_below _ b y p c d)
    where
      onward : {m : Term} → IsAbove p c m → IsBelow s.known m b → (m ≡ place.Child p c → IsAbove p c b) → IsAbove p c b
      onward (is_same d) y more = more d
      onward (is_over r d k below) y more = is_over r d k (through below y)
  part_below _ _ (child k) p c e = above_child _ _ _ _ k p c e
  part_below _ b (variable k) p c e = absurd (subst IsName e tt)

  module _ (p r : ℕ) (c : Colour) (d : Bool) (b : Bound) (there : Has s.names b) (number : b.number ≡ p) (is : b.static_type ≡ partition_type d r p) where
    -- there is one region of which the partition is
    pub part_over : (u : Term) → IsAbove p c u → (u ≡ place.Child p c) ⊎ IsBelow s.known (place.Name r) u
    part_over u (is_same e) = inl e
    part_over u (is_over q f k below) =
        let told = (head.facts.parts (PartOf p q f) (Has-from_Contains s.known (PartOf p q f) k)).one b there number in
        inr (subst (λ n. IsBelow s.known (place.Name n) u) (ap parent_of (sym told ∙ is)) below)

    pub whole_within : (j : ℕ) → is_subregion s.known (place.Child p c) (place.Name j) ≡ true → is_subregion s.known (place.Name r) (place.Name j) ≡ true
    whole_within j e =
        let q = (is_subregion-derivable s.known (place.Child p c) (place.Name j)).0 e in
        ⊎_elim (λ alike. absurd (subst IsName alike tt))
        (λ below. (is_subregion-derivable s.known (place.Name r) (place.Name j)).1 (record { below = below; certain = q.certain }))
        (part_over (place.Name j) (part_below (place.Child p c) (place.Name j) q.below p c refl))

    held : (rights : List Right) (field : ℕ) (a : Access) → is_held rights s.known (place.Child p c) field a ≡ true → is_held rights s.known (place.Name r) field a ≡ true
    held rights field a e =
        any_more (gives s.known (place.Child p c) field a) (gives s.known (place.Name r) field a) rights (λ right g.
        let both = and_parts ((right.field == field) && same_access right.access a) (is_subregion s.known (place.Child p c) (place.Name right.region)) g in
        and_from ((right.field == field) && same_access right.access a) (is_subregion s.known (place.Name r) (place.Name right.region)) both.0
        (whole_within right.region both.1)) e

    made : (k : Known) → made_above s.known (place.Child p c) k ≡ true → made_above s.known (place.Name r) k ≡ true
    made (Made i) e = whole_within i e
    made (Within x y) e = e
    made (Apart x y) e = e
    made (PartOf x y z) e = e

    more : (x y u v : Bool) → (x ≡ true → u ≡ true) → (y ≡ true → v ≡ true) → (x || y) ≡ true → (u || v) ≡ true
    more x y u v f g e = ⊎_elim (λ h. or_left u v (f h)) (λ h. or_right u v (g h)) (or_cases x y e)

    any_made : list_any (made_above s.known (place.Child p c)) s.known ≡ true → list_any (made_above s.known (place.Name r)) s.known ≡ true
    any_made e = any_more (made_above s.known (place.Child p c)) (made_above s.known (place.Name r)) s.known made e

    -- what may be done with a part may be done with the whole
    pub whole_may : (rights : List Right) (field : ℕ) (a : Access) → may_do rights s.known (wanting field a (place.Child p c)) ≡ true →
        may_do rights s.known (wanting field a (place.Name r)) ≡ true
    whole_may rights field access.Read e = more _ _ _ _ (held rights field access.Read) any_made e
    whole_may rights field access.Write e = more _ _ _ _ (held rights field access.Write) any_made e
    whole_may rights field (access.Reduce o) e = more _ _ _ _
        (λ h. more _ _ _ _ (held rights field (access.Reduce o))
        (λ g. let both = and_parts (is_held rights s.known (place.Child p c) field access.Read) (is_held rights s.known (place.Child p c) field access.Write) g in
        and_from (is_held rights s.known (place.Name r) field access.Read) (is_held rights s.known (place.Name r) field access.Write)
        (held rights field access.Read both.0) (held rights field access.Write both.1)) h)
        any_made e
