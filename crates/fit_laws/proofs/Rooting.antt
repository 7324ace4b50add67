-- Roots that are made: the frame fits beside a world with one root more, all of which it may write.
use Rattle.std.proofs.Common.{◌≡◌, ◌≢◌, ◌⊎◌, inl, inr, ⊎_elim, ℕ, suc, ◌≤◌, ◌^◌, List, [], ◌∷◌, ◌++◌, map, Bool, true, false, cond, ◌&&◌, ◌||◌, Option, Some, None, refl, sym, ap, ◌∙◌, subst, arith, append_assoc, eqb-true}
use Rattle.std.specs.Prelude.{slice_get, length, nat_lt, ◌==◌}
use Rattle.std.proofs.lemmas.List.{append-nil}
use Rattle.std.proofs.lemmas.Bool.{lt-ltb, le-leb, eq-eqb, ne_eqb, eqb-false, cases_Bool, false≢true}
use Rattle.lane_kernels.specs.declared.numbers.Mode.TheVariants as mode
use Rattle.plain_values.specs.Points.{IsPoints, has, points}
use Rattle.region_tree.proofs.Joins.{modes_at-here, modes_at-not}
use Rattle.region_tree.specs.declared.needs.Need.{Need}
use Rattle.region_tree.specs.declared.piece.Part.{Part}
use Rattle.region_tree.specs.declared.tree.RootId.{RootId}
use Rattle.region_tree.specs.Requirements.{Requirement, is_at, modes_at, mode_at, join_from}
use Rattle.task_code.specs.declared.code.SpaceCode.{SpaceCode}
use Rattle.task_code.specs.declared.code.TaskCode.{TaskCode}
use Rattle.machine_terms.specs.declared.outcome.Made.TheVariants as made
use Rattle.machine_terms.specs.declared.outcome.Yield.TheVariants as yield
use Rattle.machine_terms.specs.declared.value.PartitionValue.{PartitionValue}
use Rattle.machine_terms.specs.declared.value.RegionValue.{RegionValue}
use Rattle.machine_terms.specs.declared.value.Value.{Value}
use Rattle.machine_terms.specs.declared.value.Value.TheVariants as value
use Rattle.machine_terms.specs.Machine.{Machine, stops, when, at, broken}
use Rattle.machine_terms.specs.Parts.{cell_at}
use Rattle.machine_terms.specs.Regions.{on_space, root_of_space, new_root}
use Rattle.fit_rules.specs.Shapes.{Among, OfSpace, Shape, space, region, World, IsRegion, Is, is_anything, is_number, is_space, is_region, is_partition, is_cut, is_pending, IsPartition, Are, are_none, are_more, IsWhole, Origin, Each, KnowsRoots, ComesFrom, unknown, own_as, argument, own_root, part, child_at, held_at}
use Rattle.fit_rules.specs.Marks.{stacked}
use Rattle.fit_rules.specs.Fits.{Program, count_at, kind_at, shape_at, root_claims, requires, declared_claims, own_claims, claims, AreClaims, no_claims, a_claim, CellFits, PartsFit, Fits}
use Rattle.fit_rules.specs.Sound.{To, IsOther}
use Rattle.fit_rules.specs.Ends.{rooted, with_root, Safe, safe_stops}
use Rattle.fit_rules.proofs.Points.{counted_points}
use Rattle.fit_laws.proofs.Begun.{begins_rooted, old_root, same_points, same_space, still_there}
use Rattle.fit_laws.proofs.Held.{over}
use Rattle.fit_laws.proofs.Cover.{in_front, in_back}
use Rattle.std.proofs.lemmas.Option.{same_Some}

-- ---- a world with one more root

module _ (x : World) (i root sp n : ℕ) (fresh : x.there root ≡ false) where
  -- what was made last under another number
  same_last : (j : ℕ) → j ≢ i → (rooted x i root sp n).last j ≡ x.last j
  same_last j h = ap (λ b. cond b (Some root) (x.last j)) (ne_eqb j i h)

  whole_rooted : (r : RegionValue) → x.there r.root.0 ≡ true → IsWhole x r → IsWhole (rooted x i root sp n) r
  whole_rooted r there w = (in_front x.own (root ∷ []) r.root.0 w.0, w.1 ∙ sym (same_points x i root sp n fresh r.root.0 there))

  origin_rooted : (s : Option ℕ) (o : Origin) (r : RegionValue) → IsOther i (region s o) → x.there r.root.0 ≡ true → ComesFrom x o r →
      ComesFrom (rooted x i root sp n) o r
  origin_rooted s unknown r h there c = tt
  origin_rooted s (argument j) r h there c = c
  origin_rooted s own_root r h there c = whole_rooted r there c
  origin_rooted s (own_as j) r h there c = (whole_rooted r there c.0, same_last j (λ e. h (sym e)) ∙ c.1)
  origin_rooted s (part o) r h there c = (c.0, origin_rooted s o c.0 h (ap x.there (sym c.2.0) ∙ there) c.1, c.2)
  origin_rooted s (child_at p d o) r h there c = (c.0, origin_rooted s o c.0 h (ap x.there (sym c.2.0) ∙ there) c.1, c.2, c.3)
  origin_rooted s (held_at p o) r h there c = (origin_rooted s o r h there c.0, c.1)

  region_rooted : (s : Option ℕ) (o : Origin) (r : RegionValue) → IsOther i (region s o) → IsRegion x s o r →
      IsRegion (rooted x i root sp n) s o r
  region_rooted s o r h q = record {
    there = still_there x i root sp n fresh r.root.0 q.there;
    space = subst (OfSpace s) (sym (same_space x i root sp n fresh r.root.0 q.there)) q.space;
    points = λ p e. subst (λ xs. has xs p ≡ true) (sym (same_points x i root sp n fresh r.root.0 q.there)) (q.points p e);
    set = q.set;
    origin = origin_rooted s o r h q.there q.origin;
  }

  partition_rooted : (s : Option ℕ) (d : Bool) (p : PartitionValue) → IsPartition x s d p → IsPartition (rooted x i root sp n) s d p
  partition_rooted s d p q = record {
    flag = q.flag;
    apart = q.apart;
    there = still_there x i root sp n fresh p.root.0 q.there;
    space = subst (OfSpace s) (sym (same_space x i root sp n fresh p.root.0 q.there)) q.space;
    count = q.count;
    regions = λ r l. ((q.regions r l).0, region_rooted s unknown r tt (q.regions r l).1);
  }

  value_rooted : (u : Shape) (v : Value) → IsOther i u → Is x u v → Is (rooted x i root sp n) u v
  value_rooted _ _ h (is_anything v) = is_anything v
  value_rooted _ _ h (is_number u z q) = is_number u z q
  value_rooted _ _ h (is_space l q) = is_space l q
  value_rooted _ _ h (is_region s o r q) = is_region s o r (region_rooted s o r h q)
  value_rooted _ _ h (is_partition s d p q) = is_partition s d p (partition_rooted s d p q)
  value_rooted _ _ h (is_cut s d o p q c) = is_cut s d o p (partition_rooted s d p q) (record {
    parent = c.parent;
    origin = origin_rooted s o c.parent h (ap x.there (sym c.root) ∙ q.there) c.origin;
    root = c.root;
    inside = c.inside;
  })
  value_rooted _ _ h (is_pending u j l q) = is_pending u j l q

  are_rooted : (ss : List Shape) (vs : List Value) → Each (IsOther i) ss → Are x ss vs → Are (rooted x i root sp n) ss vs
  are_rooted _ _ d are_none = are_none
  are_rooted _ _ d (are_more u v ss vs h a) = are_more u v ss vs (value_rooted u v d.0 h) (are_rooted ss vs d.1 a)

  -- ---- what is known of roots

  -- a root is the new one, under its number, or was known under another one
  last_is : (j r : ℕ) → (rooted x i root sp n).last j ≡ Some r → ((j ≡ i) × (root ≡ r)) ⊎ ((j ≢ i) × (x.last j ≡ Some r))
  last_is j r e = of (j == i) refl e
    where
      of : (b : Bool) → j == i ≡ b → cond b (Some root) (x.last j) ≡ Some r → ((j ≡ i) × (root ≡ r)) ⊎ ((j ≢ i) × (x.last j ≡ Some r))
      of true q e = inl (eqb-true j i q, same_Some root r e)
      of false q e = inr (eqb-false j i q, e)

  not_new : (r : ℕ) → x.there r ≡ true → root ≢ r
  not_new r h e = false≢true (sym fresh ∙ ap x.there e ∙ h)

  pub own_new_or_old : (xs : List ℕ) (q : ℕ) → Among (xs ++ root ∷ []) q → Among xs q ⊎ (root ≡ q)
  own_new_or_old [] q (inl e) = inr e
  own_new_or_old [] q (inr h) = absurd h
  own_new_or_old (y ∷ xs) q (inl e) = inl (inl e)
  own_new_or_old (y ∷ xs) q (inr h) = ⊎_elim (λ l. inl (inr l)) (λ e. inr e) (own_new_or_old xs q h)

  -- a root that was there has the points that it had
  old_point : (r p : ℕ) → x.there r ≡ true → has ((rooted x i root sp n).points r) p ≡ true → has (x.points r) p ≡ true
  old_point r p h q = subst (λ ps. has ps p ≡ true) (same_points x i root sp n fresh r h) q

  roots_rooted : KnowsRoots x → KnowsRoots (rooted x i root sp n)
  roots_rooted k = record {
    own_there = λ r h. ⊎_elim (λ l. still_there x i root sp n fresh r (k.own_there r l))
        (λ e. subst (λ q. (rooted x i root sp n).there q ≡ true) e (ap (λ b. b || x.there root) (eq-eqb root root refl))) (own_new_or_old x.own r h);
    args_there = λ j r e. still_there x i root sp n fresh r.root.0 (k.args_there j r e);
    last_own = λ j r e. ⊎_elim (λ p. in_back x.own (root ∷ []) r (inl p.1)) (λ p. in_front x.own (root ∷ []) r (k.last_own j r p.1)) (last_is j r e);
    one_number = λ a b r q e f h. ⊎_elim
        (λ p. ⊎_elim (λ d. p.0 ∙ sym d.0) (λ d. absurd (not_new r (k.own_there r (k.last_own b r d.1)) p.1)) (last_is b r f))
        (λ p. ⊎_elim (λ d. absurd (not_new r (k.own_there r (k.last_own a r p.1)) d.1)) (λ d. k.one_number a b r q p.1 d.1 (old_point r q (k.own_there r (k.last_own a r p.1)) h)) (last_is b r f))
        (last_is a r e);
    args_other = λ a b q r e h f. ⊎_elim (λ p. not_new r.root.0 (k.args_there a r e) p.1) (λ p. k.args_other a b q r e h p.1) (last_is b r.root.0 f);
  }

  -- ---- claims

  own_both : (g : Program) (y : World) (rs us : List ℕ) → own_claims g y (rs ++ us) ≡ own_claims g y rs ++ own_claims g y us
  own_both g y [] us = refl
  own_both g y (r ∷ rs) us =
      ap (λ l. root_claims g r (y.spaces r) (y.points r) ++ l) (own_both g y rs us)
      ∙ sym (append_assoc (root_claims g r (y.spaces r) (y.points r)) (own_claims g y rs) (own_claims g y us))

  own_old : (g : Program) (rs : List ℕ) → ((r : ℕ) → Among rs r → x.there r ≡ true) →
      own_claims g (rooted x i root sp n) rs ≡ own_claims g x rs
  own_old g [] h = refl
  own_old g (r ∷ rs) h =
      ap (λ l. root_claims g r ((rooted x i root sp n).spaces r) ((rooted x i root sp n).points r) ++ l)
      (own_old g rs (λ q l. h q (inr l)))
      ∙ ap (λ xs. root_claims g r ((rooted x i root sp n).spaces r) xs ++ own_claims g x rs)
      (same_points x i root sp n fresh r (h r (inl refl)))
      ∙ ap (λ s. root_claims g r s (x.points r) ++ own_claims g x rs) (same_space x i root sp n fresh r (h r (inl refl)))

  own_new : (g : Program) → own_claims g (rooted x i root sp n) (root ∷ []) ≡ root_claims g root sp (points n)
  own_new g = append-nil _
      ∙ ap (λ b. root_claims g root (cond b sp (x.spaces root)) (cond b (points n) (x.points root)))
      (eq-eqb root root refl)

  pub claims_rooted : (g : Program) (t : TaskCode) → ((r : ℕ) → Among x.own r → x.there r ≡ true) →
      claims g (rooted x i root sp n) t ≡ claims g x t ++ root_claims g root sp (points n)
  claims_rooted g t h =
      ap (λ l. declared_claims t.needs x.args ++ l) (own_both g (rooted x i root sp n) x.own (root ∷ [])
      ∙ ap (λ l. l ++ own_claims g (rooted x i root sp n) (root ∷ [])) (own_old g x.own h)
      ∙ ap (λ l. own_claims g x x.own ++ l) (own_new g))
      ∙ sym (append_assoc (declared_claims t.needs x.args) (own_claims g x x.own) (root_claims g root sp (points n)))

  -- ---- modes at a point of another root

  none_at : (xs : List ℕ) (r f p : ℕ) (fs : List ℕ) → root == r ≡ false →
      modes_at (map (requires root xs mode.Write) fs) r f p ≡ []
  none_at xs r f p [] e = refl
  none_at xs r f p (y ∷ fs) e =
      modes_at-not (requires root xs mode.Write y) (map (requires root xs mode.Write) fs) r f p
      (ap (λ b. (b && (y == f)) && has xs p) e) ∙ none_at xs r f p fs e

  none_in_root : (g : Program) (xs : List ℕ) (r f p : ℕ) → root == r ≡ false →
      modes_at (root_claims g root sp xs) r f p ≡ []
  none_in_root g [] r f p e = refl
  none_in_root g (y ∷ xs) r f p e = none_at (y ∷ xs) r f p (points (count_at g sp)) e

  modes_both : (rs us : List Requirement) (r f p : ℕ) → modes_at us r f p ≡ [] → modes_at (rs ++ us) r f p ≡ modes_at rs r f p
  modes_both [] us r f p e = e
  modes_both (c ∷ rs) us r f p e = ⊎_elim
      (λ y. modes_at-here c (rs ++ us) r f p y ∙ ap (λ l. c.mode ∷ l) (modes_both rs us r f p e) ∙ sym (modes_at-here c rs r f p y))
      (λ y. modes_at-not c (rs ++ us) r f p y ∙ modes_both rs us r f p e ∙ sym (modes_at-not c rs r f p y))
      (cases_Bool (is_at r f p c))

  parts_rooted : (g : Program) (t : TaskCode) (parts : List Part) →
      ((r : ℕ) → Among x.own r → x.there r ≡ true) → PartsFit g x t parts → PartsFit g (rooted x i root sp n) t parts
  parts_rooted g t parts h fits r f q e =
      let old = fits r f q e in
      let space = same_space x i root sp n fresh r old.there in
      let other : root == r ≡ false = ne_eqb root r (λ w. eqb-false r root (old_root x i root sp n fresh r old.there) (sym w)) in
      let y = rooted x i root sp n in
      record {
        there = still_there x i root sp n fresh r old.there;
        kind = old.kind ∙ ap (λ s. kind_at g s f) (sym space);
        cells = λ p. subst (λ s. CellFits (kind_at g s f) (shape_at g s f) (cell_at q.pieces p) (mode_at (claims g y t) r f p)) (sym space)
            (subst (CellFits (kind_at g (x.spaces r) f) (shape_at g (x.spaces r) f) (cell_at q.pieces p))
            (ap (join_from None) (sym (modes_both (claims g x t) (root_claims g root sp (points n)) r f p (none_in_root g (points n) r f p other)))
            ∙ ap (λ cs. mode_at cs r f p) (sym (claims_rooted g t h))) (old.cells p));
      }

pub claims_both : (ns ms : List Need) (rs us : List Requirement) → AreClaims ns rs → AreClaims ms us → AreClaims (ns ++ ms) (rs ++ us)
claims_both _ ms _ us no_claims b = b
claims_both _ ms _ us (a_claim n r ns rs e f g a) b = a_claim n r _ _ e f g (claims_both ns ms rs us a b)

numbers_both : (xs : List RootId) (i : RootId) → map (λ (r : RootId). r.0) (xs ++ i ∷ []) ≡ map (λ (r : RootId). r.0) xs ++ i.0 ∷ []
numbers_both [] i = refl
numbers_both (y ∷ xs) i = ap (λ l. y.0 ∷ l) (numbers_both xs i)

module _ (g : Program) (x : World) (t : TaskCode) (k : ℕ) (m : Machine) (fit : Fits g x t k m) where
  root_fits : (i sp n : ℕ) (ss : List Shape) (st : List Value) → n ≤ 4194304 → Each (IsOther i) (g.marks k m.frame.pc).slots →
      Each (IsOther i) ss → To g t k (stacked (g.marks k m.frame.pc) (region (Some sp) (own_as i) ∷ ss)) (suc m.frame.pc) → Are (over g x k m) ss st →
      (r : RegionValue) (ns : List Need) → x.there r.root.0 ≡ false → r.points ≡ points n →
      IsPoints 4194304 (points n) →
      AreClaims ns (root_claims g r.root.0 sp (points n)) →
      Fits g (rooted x i r.root.0 sp n) t k (with_root r ns r.root (at (suc m.frame.pc) st m))
  root_fits i sp n ss st h os oss to a r ns fresh ep long c =
      let y = rooted x i r.root.0 sp n in
      let here : r.root.0 == r.root.0 ≡ true = eq-eqb r.root.0 r.root.0 refl in
      record {
        inside = to.0;
        suits = to.1 y m.frame.slots (value.Region r ∷ st) (record {
          slots = are_rooted x i r.root.0 sp n fresh _ m.frame.slots os fit.suits.slots;
          stack = are_more _ _ ss st (is_region (Some sp) (own_as i) r (record {
            there = ap (λ b. b || x.there r.root.0) here;
            space = ap (λ b. cond b sp (x.spaces r.root.0)) here;
            points = λ p e. subst (λ b. has (cond b (points n) (x.points r.root.0)) p ≡ true) (sym here)
                (subst (λ xs. has xs p ≡ true) ep e);
            set = subst (IsPoints 4194304) (sym ep) long;
            origin = (
              (
                in_back x.own (r.root.0 ∷ []) r.root.0 (inl refl),
                ep ∙ sym (ap (λ b. cond b (points n) (x.points r.root.0)) here),
              ),
              ap (λ b. cond b (Some r.root.0) (x.last i)) (eq-eqb i i refl),
            );
          })) (are_rooted (over g x k m) i r.root.0 sp n fresh ss st oss a);
          facts = fit.suits.facts;
          top = tt;
          args = fit.suits.args;
        });
        beside = record {
          task = fit.beside.task;
          needs = subst (AreClaims (m.frame.needs.items ++ ns)) (sym (claims_rooted x i r.root.0 sp n fresh g t fit.beside.roots.own_there))
              (claims_both m.frame.needs.items ns (claims g x t) _ fit.beside.needs c);
          parts = parts_rooted x i r.root.0 sp n fresh g t m.parts fit.beside.roots.own_there fit.beside.parts;
          children = fit.beside.children;
          calls = fit.beside.calls;
          own = numbers_both m.frame.own r.root ∙ ap (λ l. l ++ r.root.0 ∷ []) fit.beside.own;
          roots = roots_rooted x i r.root.0 sp n fresh fit.beside.roots;
          begins = begins_rooted x i r.root.0 sp n fresh x.args g t k fit.beside.begins;
        };
      }

  pub new_root_safe : length t.body ≤ 2 ^ 32 → (sp i : ℕ) (c : SpaceCode) (ss : List Shape) →
      Are (over g x k m) (space ∷ ss) m.frame.stack → slice_get g.code.spaces sp ≡ Some c → length c.fields ≤ 256 →
      Each (IsOther i) (g.marks k m.frame.pc).slots → Each (IsOther i) ss →
      To g t k (stacked (g.marks k m.frame.pc) (region (Some sp) (own_as i) ∷ ss)) (suc m.frame.pc) →
      Safe g x t k (new_root g.code sp m)
  new_root_safe short sp i c ss a e l os oss to = of_stack m.frame.stack a
    where
      of_stack : (st : List Value) → Are (over g x k m) (space ∷ ss) st →
          Safe g x t k (on_space st m (λ size st. root_of_space (slice_get g.code.spaces sp) sp size st m))
      of_stack _ (are_more _ _ _ st (is_number _ z h) b) = absurd h
      of_stack _ (are_more _ _ _ st (is_space n h) b) =
          subst (λ o. Safe g x t k (root_of_space o sp n st m)) (sym e)
          (subst (λ y. Safe g x t k (when y (when (nat_lt (suc m.frame.pc) (2 ^ 32))
          (stops (yield.Make (made.Root n sp)) (at (suc m.frame.pc) st m)) (broken (at (suc m.frame.pc) st m))) (broken m)))
          (sym (le-leb _ 256 l))
          (subst (λ y. Safe g x t k (when y (stops (yield.Make (made.Root n sp)) (at (suc m.frame.pc) st m))
          (broken (at (suc m.frame.pc) st m)))) (sym (lt-ltb (suc m.frame.pc) (2 ^ 32) (omega (arith, to.0, short))))
          (safe_stops _ _ (fit.beside.parts, (h, (i, λ r ns fresh ep claimed. root_fits i sp n ss st h os oss to b r ns fresh ep (counted_points 4194304 0 n (omega (arith, h))) claimed))))))
