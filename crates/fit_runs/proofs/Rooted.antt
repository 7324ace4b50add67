-- A root that is made in a run in order: what the roots hold is as the world with it says.
use Rattle.std.proofs.Common.{◌≡◌, ◌≢◌, inl, inr, ⊎_elim, ℕ, zero, suc, ◌<◌, ◌≤◌, ◌+◌, pos, List, [], ◌∷◌, ◌++◌, map, Bool, true, false, cond, ◌||◌, refl, sym, ap, ◌∙◌, subst, arith}
use Rattle.std.specs.Prelude.{get_or, length, ◌==◌}
use Rattle.std.proofs.lemmas.Bool.{cases_lt, eq-eqb, eqb-false, eqb-true, false≢true, ne_eqb, or_cases}
use Rattle.std.proofs.lemmas.Int.{ints}
use Rattle.std.proofs.lemmas.List.{map-append}
use Rattle.std.proofs.Math.ListN.{get_or-eq_default}
use Rattle.lane_kernels.specs.declared.numbers.FieldKind.{FieldKind}
use Rattle.lane_kernels.specs.declared.numbers.FieldKind.TheVariants as kind
use Rattle.lane_kernels.specs.declared.numbers.Mode.TheVariants as mode
use Rattle.plain_values.specs.Points.{counted_from, has, points}
use Rattle.region_tree.specs.declared.piece.Part.{Part}
use Rattle.region_tree.specs.Pieces.{Held}
use Rattle.region_tree.specs.Requirements.{Requirement}
use Rattle.regent_tree.specs.declared.outcome.RootImage.{RootImage}
use Rattle.regent_tree.specs.Store.{new_root, no_root}
use Rattle.regent_tree.specs.Values.{kept_zero}
use Rattle.task_code.specs.declared.code.TaskCode.{TaskCode}
use Rattle.machine_terms.specs.declared.order.Contents.{Contents}
use Rattle.machine_terms.specs.declared.order.Root.{Root}
use Rattle.machine_terms.specs.Contents.{image_in, image_of, kept_at, kinds_of, with_root}
use Rattle.machine_terms.specs.Makes.{fields_needed, root_requirements}
use Rattle.partitions.proofs.Colours.{colours_more}
use Rattle.memory_laws.specs.Places.{column_of, numbers}
use Rattle.memory_laws.proofs.Giving.{AllBelow, CanGive, PiecesBelow}
use Rattle.memory_laws.proofs.Made.{size_of, zero_at, zeros}
use Rattle.fit_rules.specs.Shapes.{Among, KnowsRoots, NumberIs, World}
use Rattle.fit_rules.specs.Fits.{claims, count_at, kept_as, Program, requires, root_claims, shape_at}
use Rattle.fit_rules.specs.Ends.{rooted}
use Rattle.fit_laws.proofs.Begun.{same_points, same_space, still_there}
use Rattle.fit_laws.proofs.Rooting.{claims_rooted, own_new_or_old}
use Rattle.fit_runs.proofs.Standing.{Agrees, AreReached, Grew}
use Rattle.fit_runs.proofs.Claiming.{claim_there, among_both, among_map}

-- ---- zeros

zero_is : (k : FieldKind) (n : ℕ) → NumberIs (kept_as k n) (kept_zero k)
zero_is kind.Int32 n = omega (arith, ints)
zero_is kind.Int64 n = omega (arith, ints)
zero_is kind.Truth n = inl refl
zero_is kind.Index n = omega (arith, ints)
zero_is kind.Pointer n = (omega (arith, ints), omega arith)

nothing_is : (k : FieldKind) (n : ℕ) → NumberIs (kept_as k n) (pos 0)
nothing_is kind.Int32 n = omega (arith, ints)
nothing_is kind.Int64 n = omega (arith, ints)
nothing_is kind.Truth n = inl refl
nothing_is kind.Index n = omega (arith, ints)
nothing_is kind.Pointer n = (omega (arith, ints), omega arith)

among_left : (ms ns : List ℕ) (r : ℕ) → Among ms r → Among (ms ++ ns) r
among_left [] ns r a = absurd a
among_left (m ∷ ms) ns r (inl e) = inl e
among_left (m ∷ ms) ns r (inr a) = inr (among_left ms ns r a)

among_right : (ms ns : List ℕ) (r : ℕ) → Among ns r → Among (ms ++ ns) r
among_right [] ns r a = a
among_right (m ∷ ms) ns r a = inr (among_right ms ns r a)

-- ---- the roots with one more

module _ (rs : List Root) (k : Root) where
  image_others : (n : ℕ) → k.id.0 == n ≡ false → image_in (rs ++ k ∷ []) n ≡ image_in rs n
  image_others n e = over rs
    where
      over : (us : List Root) → image_in (us ++ k ∷ []) n ≡ image_in us n
      over [] = ap (λ b. cond b k.image no_root) e
      over (u ∷ us) = ap (cond (u.id.0 == n) u.image) (over us)

image_none : (rs : List Root) (n : ℕ) → ((m : ℕ) → Among (map (λ (r : Root). r.id.0) rs) m → m ≢ n) → image_in rs n ≡ no_root
image_none [] n h = refl
image_none (u ∷ rs) n h = ap (λ b. cond b u.image (image_in rs n)) (ne_eqb u.id.0 n (h u.id.0 (inl refl))) ∙ image_none rs n (λ m a. h m (inr a))

image_last : (rs : List Root) (k : Root) (n : ℕ) → k.id.0 == n ≡ true → ((m : ℕ) → Among (map (λ (r : Root). r.id.0) rs) m → m ≢ n) →
    image_in (rs ++ k ∷ []) n ≡ k.image
image_last [] k n e h = ap (λ b. cond b k.image no_root) e
image_last (u ∷ rs) k n e h = ap (λ b. cond b u.image (image_in (rs ++ k ∷ []) n)) (ne_eqb u.id.0 n (h u.id.0 (inl refl))) ∙ image_last rs k n e (λ m a. h m (inr a))

module _ (g : Program) (x : World) (c : Contents) (agrees : Agrees g x c) (i sp n : ℕ) where
  abbrev root : ℕ
  root = c.made

  abbrev image : RootImage
  image = new_root sp n (kinds_of g.code sp)

  abbrev d : Contents
  d = with_root image c

  abbrev y : World
  y = rooted x i root sp n

  pub fresh_root : x.there root ≡ false
  fresh_root = of (x.there root) refl
    where
      of : (b : Bool) → x.there root ≡ b → x.there root ≡ false
      of true e = absurd (let l = agrees.given root e in omega (arith, l))
      of false e = e

  not_made : (r : ℕ) → x.there r ≡ true → r ≢ root
  not_made r h e = let l = agrees.given r h in omega (arith, l, e)

  others_differ : (m : ℕ) → Among (numbers c) m → m ≢ root
  others_differ m a e = let l = agrees.below m a in omega (arith, l, e)

  old_image : (r : ℕ) → r ≢ root → image_of d r ≡ image_of c r
  old_image r ne = image_others c.roots _ r (ne_eqb root r (λ e. ne (sym e)))

  new_image : image_of d root ≡ image
  new_image = image_last c.roots _ root (eq-eqb root root refl) others_differ

  new_kept : (f p : ℕ) → NumberIs (shape_at g sp f) (kept_at d root f p)
  new_kept f p =
      let kinds = kinds_of g.code sp in
      let k = get_or kinds f kind.Truth in
      let column = get_or (zeros n kinds) f [] in
      subst (λ (m : RootImage). NumberIs (shape_at g sp f) (get_or (get_or m.fields f []) p (pos 0))) (sym new_image)
      (⊎_elim (λ l. subst (NumberIs (shape_at g sp f)) (sym (zero_at kinds n f p l)) (zero_is k (g.positions sp f)))
      (λ l. subst (NumberIs (shape_at g sp f)) (sym (get_or-eq_default column (pos 0) l)) (nothing_is k (g.positions sp f)))
      (cases_lt p (length column)))

  pub agrees_rooted : Agrees g y d
  agrees_rooted = record {
    given = λ r h. of_there r (r == root) refl h;
    below = λ r h. ⊎_elim (λ a. let l = agrees.below r a in omega (arith, l)) (λ a. ⊎_elim (λ e. omega (arith, e)) (λ b. absurd b) a)
        (among_both (numbers c) (root ∷ []) r (subst (λ ns. Among ns r) (map-append (λ (q : Root). q.id.0) c.roots _) h));
    present = λ r h. subst (λ ns. Among ns r) (sym (map-append (λ (q : Root). q.id.0) c.roots _)) (of_present r (r == root) refl h);
    spaces = λ r h. of_space r (r == root) refl h;
    points = λ r h. of_points r (r == root) refl h;
    kept = λ r f p h. of_kept r f p (r == root) refl h;
  }
    where
      of_there : (r : ℕ) (b : Bool) → r == root ≡ b → b || x.there r ≡ true → r < suc root
      of_there r true e h = omega (arith, eqb-true r root e)
      of_there r false e h = let l = agrees.given r h in omega (arith, l)

      of_present : (r : ℕ) (b : Bool) → r == root ≡ b → b || x.there r ≡ true → Among (numbers c ++ root ∷ []) r
      of_present r true e h = among_right (numbers c) (root ∷ []) r (inl (sym (eqb-true r root e)))
      of_present r false e h = among_left (numbers c) (root ∷ []) r (agrees.present r h)

      of_points : (r : ℕ) (b : Bool) → r == root ≡ b → b || x.there r ≡ true → cond b (points n) (x.points r) ≡ points (image_of d r).count
      of_points r true e h = ap (λ (m : RootImage). points m.count) (sym new_image) ∙ ap (λ k. points (image_of d k).count) (sym (eqb-true r root e))
      of_points r false e h = agrees.points r h ∙ ap (λ (m : RootImage). points m.count) (sym (old_image r (eqb-false r root e)))

      of_space : (r : ℕ) (b : Bool) → r == root ≡ b → b || x.there r ≡ true → (image_of d r).space ≡ cond b sp (x.spaces r)
      of_space r true e h = ap (λ k. (image_of d k).space) (eqb-true r root e) ∙ ap (λ (m : RootImage). m.space) new_image
      of_space r false e h = ap (λ (m : RootImage). m.space) (old_image r (eqb-false r root e)) ∙ agrees.spaces r h

      of_kept : (r f p : ℕ) (b : Bool) → r == root ≡ b → b || x.there r ≡ true → NumberIs (shape_at g (cond b sp (x.spaces r)) f) (kept_at d r f p)
      of_kept r f p true e h = subst (λ k. NumberIs (shape_at g sp f) (kept_at d k f p)) (sym (eqb-true r root e)) (new_kept f p)
      of_kept r f p false e h = subst (λ (m : RootImage). NumberIs (shape_at g (x.spaces r) f) (get_or (get_or m.fields f []) p (pos 0)))
          (sym (old_image r (eqb-false r root e))) (agrees.kept r f p h)

  -- ---- columns

  old_columns : (r f : ℕ) → x.there r ≡ true → length (column_of d r f) ≡ length (column_of c r f)
  old_columns r f h = ap (λ (m : RootImage). length (get_or m.fields f [])) (old_image r (not_made r h))

  pub grew_rooted : Grew x c y d
  grew_rooted = record {
    there = still_there x i root sp n fresh_root;
    spaces = same_space x i root sp n fresh_root;
    points = same_points x i root sp n fresh_root;
    own = λ r h q. ⊎_elim (λ a. a) (λ e. absurd (not_made r q (sym e))) (own_new_or_old x i root sp n fresh_root x.own r h);
    columns = old_columns;
  }

  counted_has : (first m p : ℕ) → has (counted_from first m) p ≡ true → p < first + m
  counted_has first zero p h = absurd (false≢true h)
  counted_has first (suc m) p h = elim (or_cases (p == first) _ h) [
    | inl e ↦ omega (arith, eqb-true p first e)
    | inr q ↦ let l = counted_has (suc first) m p q in omega (arith, l)
  ]

  counted_among : (first m f : ℕ) → Among (counted_from first m) f → f < first + m
  counted_among first zero f h = absurd h
  counted_among first (suc m) f (inl e) = omega (arith, e)
  counted_among first (suc m) f (inr h) = let l = counted_among (suc first) m f h in omega (arith, l)

  -- the points that are claimed of the new root
  new_reached : (xs : List ℕ) → xs ≡ points n → AreReached d (root_claims g root sp xs)
  new_reached [] e r a p h = absurd a
  new_reached (q ∷ qs) e r a p h =
      let f = among_map (requires root (q ∷ qs) mode.Write) (points (count_at g sp)) r a in
      let low : p < 0 + n = counted_has 0 n p (subst (λ ps. has ps p ≡ true) (ap (λ (k : Requirement). k.points) (sym f.2) ∙ e) h) in
      let few : f.0 < 0 + count_at g sp = counted_among 0 (count_at g sp) f.0 f.1 in
      let long : length (column_of d root f.0) ≡ n = ap (λ (m : RootImage). length (get_or m.fields f.0 [])) new_image ∙ size_of (kinds_of g.code sp) n f.0 (omega (arith, few)) in
      subst (λ (k : Requirement). p < length (column_of d k.root k.field)) f.2 (omega (arith, long, low))

  pub reached_rooted : (t : TaskCode) → KnowsRoots x → AreReached c (claims g x t) → AreReached d (claims g y t)
  reached_rooted t knows h r a p q = ⊎_elim
      (λ old. subst (λ m. p < m) (sym (old_columns r.root r.field (claim_there g x t knows r old))) (h r old p q))
      (λ new. new_reached (points n) refl r new p q)
      (among_both (claims g x t) (root_claims g root sp (points n)) r
      (subst (λ rs. Among rs r) (claims_rooted x i root sp n fresh_root g t knows.own_there) a))

  -- ---- parts

  below_more : (l m : ℕ) (xs : List ℕ) → l ≤ m → AllBelow l xs → AllBelow m xs
  below_more l m [] e h = tt
  below_more l m (p ∷ xs) e h = (omega (arith, h.0, e), below_more l m xs e h.1)

  pieces_more : (l m : ℕ) (hs : List Held) → l ≤ m → PiecesBelow l hs → PiecesBelow m hs
  pieces_more l m [] e h = tt
  pieces_more l m (k ∷ hs) e h = (below_more l m k.points e h.0, pieces_more l m hs e h.1)

  columns_more : (r f : ℕ) → length (column_of c r f) ≤ length (column_of d r f)
  columns_more r f = of (r == root) refl
    where
      of : (b : Bool) → r == root ≡ b → length (column_of c r f) ≤ length (column_of d r f)
      of true e =
          let none : length (column_of c r f) ≡ 0 = ap (λ k. length (column_of c k f)) (eqb-true r root e)
          ∙ ap (λ (m : RootImage). length (get_or m.fields f [])) (image_none c.roots root others_differ)
          ∙ ap length (get_or-eq_default no_root.fields [] {n = f} (omega arith)) in omega (arith, none)
      of false e =
          let same : length (column_of d r f) ≡ length (column_of c r f) =
          ap (λ (m : RootImage). length (get_or m.fields f [])) (old_image r (eqb-false r root e)) in omega (arith, same)

  pub given_rooted : (ps : List Part) → CanGive c ps → CanGive d ps
  given_rooted [] h = tt
  given_rooted (q ∷ ps) h = (
    h.0,
    pieces_more (length (column_of c q.root.0 q.field)) (length (column_of d q.root.0 q.field)) q.pieces (columns_more q.root.0 q.field) h.1,
    h.2,
    given_rooted ps h.3,
  )

-- ---- what is needed of the new root

fields_required : (root : ℕ) (xs : List ℕ) (n : ℕ) → root_requirements root xs n ≡ map (requires root xs mode.Write) (points n)
fields_required root xs zero = refl
fields_required root xs (suc n) =
    let same : n + 1 ≡ suc n = omega arith in
    ap (λ rs. rs ++ requires root xs mode.Write n ∷ []) (fields_required root xs n)
    ∙ sym (colours_more (requires root xs mode.Write) n) ∙ ap (λ k. map (requires root xs mode.Write) (points k)) same

pub root_required : (g : Program) (root sp n : ℕ) → root_requirements root (points n) (fields_needed g.code n sp) ≡ root_claims g root sp (points n)
root_required g root sp zero = refl
root_required g root sp (suc n) =
    ap (λ b. root_requirements root (points (suc n)) (cond b 0 (length (kinds_of g.code sp)))) (ne_eqb (suc n) 0 (λ e. omega (arith, e)))
    ∙ fields_required root (points (suc n)) (length (kinds_of g.code sp))
