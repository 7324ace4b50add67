-- A root that is made, in the run in order and on the map.
use Rattle.std.proofs.Common.{◌≡◌, ◌⊎◌, ℕ, suc, ◌+◌, ◌<◌, ◌≤◌, ℤ, pos, List, [], ◌∷◌, ◌++◌, Bool, true, false, cond, refl, sym, ap, ◌∙◌, subst, map, arith, ◌==◌, ◌&&◌, get_or, ⊎_elim, inl, inr, eq-eqb, eqb-true, ne_eqb, ◌||◌}
use Rattle.std.specs.Prelude.{length, replicate}
use Rattle.std.proofs.lemmas.Bool.{and_from, and_parts, cases_lt, le-leb, lt-ltb}
use Rattle.std.proofs.lemmas.List.{length-map, length-replicate}
use Rattle.plain_values.specs.Points.{has, points}
use Rattle.point_sets.proofs.Rising.{has-append, has-cons_cases, has-counted_from}
use Rattle.std.proofs.lemmas.Bool.{or_cases, false≢true}
use Rattle.lane_kernels.specs.declared.numbers.FieldKind.{FieldKind}
use Rattle.lane_kernels.specs.declared.numbers.FieldKind.TheVariants.{Index, Int32, Int64, Pointer, Truth}
use Rattle.lane_kernels.specs.Numbers.{FitsWidth, width_of}
use Rattle.regent_tree.specs.declared.outcome.RootImage.{RootImage}
use Rattle.regent_tree.specs.Laws.{shape_of}
use Rattle.regent_tree.specs.Store.{new_root}
use Rattle.regent_tree.specs.Values.{kept_zero}
use Rattle.task_code.specs.declared.code.Code.{Code}
use Rattle.machine_terms.specs.declared.order.Contents.{Contents}
use Rattle.machine_terms.specs.Contents.{image_of, kept_at, kind_of as kept_kind, kinds_of, with_root}
use Rattle.memory_laws.specs.Places.{column_of, numbers}
use Rattle.memory_laws.proofs.Made as made
use Rattle.board_rules.specs.Ground.{Ground}
use Rattle.board_rules.specs.Processes.{Effect, Map, put, run_all}
use Rattle.regent_boards.specs.Frames.{Location}
use Rattle.regent_boards.specs.RegentMachine.{fields_of, kind_of, regent_ground, root_of, who_of, zero_of, zeros_of}
use Rattle.code_boards.specs.Views.{spaces_of}
use Rattle.order_boards.proofs.Stands.{IsLive, IsShaped, Stands, at, board_root, kind_same, kinds_same, live_below, root_who, shown_live}
use Rattle.std.proofs.Math.ListN.{get_or-eq_default}

pub has_point : (size p : ℕ) → p < size → has (points size) p ≡ true
has_point size p l = has-counted_from 0 size p ∙ and_from _ _ (le-leb 0 p (omega arith)) (lt-ltb p (0 + size) (omega (arith, l)))

module _ (code : Code) where
  abbrev G : Ground
  G = regent_ground (spaces_of code)

  module _ (root size : ℕ) where
    abbrev put_at : ℕ → ℕ → Effect G
    put_at f p = put (at root f p) (zero_of (spaces_of code) (kind_of (spaces_of code) root f))

    -- ---- elsewhere nothing changes

    points_other : (l : Location) → (root ≡ l.root → ⊥) → (f : ℕ) (ps : List ℕ) (es : List (Effect G)) →
        ((u : Map G) → run_all G es u l ≡ u l) → (m : Map G) → run_all G (map (put_at f) ps ++ es) m l ≡ m l
    points_other l ne f [] es h m = h m
    points_other l ne f (p ∷ ps) es h m = points_other l ne f ps es h _
        ∙ ap (λ b. cond (b && ((f == l.field) && (p == l.point))) (zero_of (spaces_of code) (kind_of (spaces_of code) root f)) (m l)) (ne_eqb root l.root ne)

    pub zeros_other : (l : Location) → (root ≡ l.root → ⊥) → (fs : List ℕ) (m : Map G) → run_all G (zeros_of (spaces_of code) root size fs) m l ≡ m l
    zeros_other l ne [] m = refl
    zeros_other l ne (f ∷ fs) m = points_other l ne f (points size) (zeros_of (spaces_of code) root size fs) (zeros_other l ne fs) m

    -- ---- and there the zeros stand

    module _ (g q : ℕ) where
      abbrev z : ℤ
      z = zero_of (spaces_of code) (kind_of (spaces_of code) root g)

      points_done : (f : ℕ) (ps : List ℕ) (es : List (Effect G)) (B : Type 0) →
          ((u : Map G) → (u (at root g q) ≡ z) ⊎ B → run_all G es u (at root g q) ≡ z) →
          (m : Map G) → (m (at root g q) ≡ z) ⊎ (((g ≡ f) × (has ps q ≡ true)) ⊎ B) → run_all G (map (put_at f) ps ++ es) m (at root g q) ≡ z
      points_done f [] es B later m h = later m (⊎_elim (λ e. inl e) (λ k. ⊎_elim (λ a. absurd (false≢true a.1)) (λ b. inr b) k) h)
      points_done f (p ∷ ps) es B later m h = points_done f ps es B later _ (chosen (G.same (at root f p) (at root g q)) refl h)
        where
          chosen : (b : Bool) → G.same (at root f p) (at root g q) ≡ b → (m (at root g q) ≡ z) ⊎ (((g ≡ f) × (has (p ∷ ps) q ≡ true)) ⊎ B) →
              (cond b (zero_of (spaces_of code) (kind_of (spaces_of code) root f)) (m (at root g q)) ≡ z) ⊎ (((g ≡ f) × (has ps q ≡ true)) ⊎ B)
          chosen true e k =
              let same = and_parts (root == root) ((f == g) && (p == q)) e in
              inl (ap (λ x. zero_of (spaces_of code) (kind_of (spaces_of code) root x)) (eqb-true f g (and_parts (f == g) (p == q) same.1).0))
          chosen false e k = ⊎_elim (λ d. inl d) (λ j. ⊎_elim (λ a. ⊎_elim
              (λ d. absurd (false≢true (sym e ∙ and_from _ _ (eq-eqb root root refl) (and_from _ _ (eq-eqb f g (sym a.0)) (eq-eqb p q (sym d))))))
              (λ d. inr (inl (a.0, d))) (has-cons_cases q p ps a.1)) (λ b. inr (inr b)) j) k

      pub zeros_done : (fs : List ℕ) (m : Map G) → (m (at root g q) ≡ z) ⊎ ((has fs g ≡ true) × (has (points size) q ≡ true)) →
          run_all G (zeros_of (spaces_of code) root size fs) m (at root g q) ≡ z
      zeros_done [] m h = ⊎_elim (λ e. e) (λ k. absurd (false≢true k.0)) h
      zeros_done (f ∷ fs) m h = points_done f (points size) (zeros_of (spaces_of code) root size fs) ((has fs g ≡ true) × (has (points size) q ≡ true))
          (zeros_done fs) m (⊎_elim (λ e. inl e) (λ k. ⊎_elim (λ e. inr (inl (e, k.1))) (λ e. inr (inr (e, k.1))) (has-cons_cases g f fs k.0)) h)

  zero_same : (k : FieldKind) → zero_of (spaces_of code) k ≡ kept_zero k
  zero_same Int32 = refl
  zero_same Int64 = refl
  zero_same Truth = refl
  zero_same Index = refl
  zero_same Pointer = refl

  new_shaped : (space size : ℕ) → IsShaped code (shape_of (new_root space size (kinds_of code space)))
  new_shaped space size = each (kinds_of code space)
    where
      each : (ks : List FieldKind) → map length (map (λ k. replicate size (kept_zero k)) ks) ≡ replicate (length ks) size
      each [] = refl
      each (k ∷ ks) = λ i. length-replicate size (kept_zero k) i ∷ each ks i

  -- ---- who the roots are, with one more

  abbrev pub who_more : Contents → (ℕ → ℕ) → ℕ → ℕ → ℕ
  who_more c who n r = cond (r == c.made) n (who r)

  module _ (who : ℕ → ℕ) (n : ℕ) (c : Contents) (m : Map G) (s : Stands code who n c m) (space size : ℕ) where
    abbrev pub d : Contents
    d = with_root (new_root space size (kinds_of code space)) c

    pub who_old : (r : ℕ) → r < c.made → who_more c who n r ≡ who r
    who_old r l = ap (λ b. cond b n (who r)) (ne_eqb r c.made (λ e. omega (arith, l, e)))

    pub who_new : who_more c who n c.made ≡ n
    who_new = ap (λ b. cond b n (who c.made)) (eq-eqb c.made c.made refl)

    pub image_old : (r : ℕ) → r < c.made → image_of d r ≡ image_of c r
    image_old r l = made.image_old c (new_root space size (kinds_of code space)) s.numbered r (λ e. omega (arith, l, e))

    pub image_new : image_of d c.made ≡ new_root space size (kinds_of code space)
    image_new = made.image_made c (new_root space size (kinds_of code space)) s.numbered

    pub live_more : (r : ℕ) → IsLive c r → IsLive d r
    live_more r l = ap (λ ns. has ns r) (made.numbers_more c (new_root space size (kinds_of code space)) s.numbered)
        ∙ has-append (numbers c) (c.made ∷ []) r ∙ ap (λ b. b || has (c.made ∷ []) r) l

    old_or_new : (r : ℕ) → IsLive d r → IsLive c r ⊎ (r ≡ c.made)
    old_or_new r l = ⊎_elim (λ e. inl e) (λ e. ⊎_elim (λ k. inr k) (λ k. absurd (false≢true k)) (has-cons_cases r c.made [] e))
        (or_cases (has (numbers c) r) (has (c.made ∷ []) r) (sym (has-append (numbers c) (c.made ∷ []) r)
        ∙ ap (λ ns. has ns r) (sym (made.numbers_more c (new_root space size (kinds_of code space)) s.numbered)) ∙ l))

    pub board_root_old : (r : ℕ) → r < c.made → board_root d (who_more c who n) r ≡ board_root c who r
    board_root_old r l = λ i. root_of (image_old r l i).space (image_old r l i).count (who_old r l i)

    pub board_root_new : board_root d (who_more c who n) c.made ≡ root_of space size n
    board_root_new = λ i. root_of (image_new i).space (image_new i).count (who_new i)

    abbrev after : Map G
    after = run_all G (zeros_of (spaces_of code) (root_of space size n) size (fields_of (spaces_of code) space)) m

    differs : (r : ℕ) → r < c.made → root_of space size n ≡ board_root c who r → ⊥
    differs r l e = omega (
      arith,
      s.below r l,
      sym (root_who space size n) ∙ ap who_of e ∙ root_who (image_of c r).space (image_of c r).count (who r),
    )

    Holds : ℕ → ℕ → ℕ → Type 0
    Holds r f p = (kept_at d r f p ≡ after (at (board_root d (who_more c who n) r) f p)) × FitsWidth (width_of (kept_kind code d r f)) (kept_at d r f p)

    holds_old : (r f p : ℕ) → r < c.made → p < length (column_of d r f) → Holds r f p
    unfolding Holds
    holds_old r f p l q =
        let e = image_old r l in
        let shown : p < length (column_of c r f) = subst (λ (i : RootImage). p < length (get_or i.fields f [])) e q in
        let number : kept_at d r f p ≡ kept_at c r f p = ap (λ (i : RootImage). get_or (get_or i.fields f []) p (pos 0)) e in (
          number ∙ s.same r f p shown
              ∙ sym (zeros_other (root_of space size n) size (at (board_root c who r) f p) (differs r l) (fields_of (spaces_of code) space) m)
              ∙ ap (λ R. after (at R f p)) (sym (board_root_old r l)),
          subst (λ (i : RootImage). FitsWidth (width_of (get_or (kinds_of code i.space) f Truth)) (get_or (get_or i.fields f []) p (pos 0))) (sym e) (s.fits r f p shown),
        )

    holds_new : (f p : ℕ) → p < length (column_of d c.made f) → Holds c.made f p
    unfolding Holds
    holds_new f p q =
        let kinds = kinds_of code space in
        let shown : p < length (get_or (made.zeros size kinds) f []) = subst (λ (i : RootImage). p < length (get_or i.fields f [])) image_new q in
        let field : f < length kinds = ⊎_elim (λ e. e) (λ e. absurd (omega (arith, shown, none f e))) (cases_lt f (length kinds)) in
        let point : p < size = subst (λ k. p < k) (made.size_of kinds size f field) shown in (
          ap (λ (i : RootImage). get_or (get_or i.fields f []) p (pos 0)) image_new ∙ made.zero_at kinds size f p shown
              ∙ sym (zero_same (get_or kinds f Truth)) ∙ ap (λ k. zero_of (spaces_of code) k) (sym (kind_same code space size n f field))
              ∙ sym (zeros_done (root_of space size n) size f p (fields_of (spaces_of code) space) m
              (inr (has_point _ f (subst (λ k. f < k) (ap length (sym (kinds_same code space))) field), has_point size p point)))
              ∙ ap (λ R. after (at R f p)) (sym board_root_new),
          subst (λ (i : RootImage). FitsWidth (width_of (get_or (kinds_of code i.space) f Truth)) (get_or (get_or i.fields f []) p (pos 0))) (sym image_new)
              (made.zeros_fit code space size f p),
        )
      where
        none : (f : ℕ) → length (kinds_of code space) ≤ f → length (get_or (made.zeros size (kinds_of code space)) f []) ≡ 0
        none f l = ap length (get_or-eq_default (made.zeros size (kinds_of code space)) []
            (subst (λ k. k ≤ f) (sym (length-map (kinds_of code space) (λ k. replicate size (kept_zero k)))) l))

    holds : (r f p : ℕ) → p < length (column_of d r f) → Holds r f p
    holds r f p q = ⊎_elim (λ l. holds_old r f p (live_below c r s.numbered l) q)
        (λ e. subst (λ k. Holds k f p) (sym e) (holds_new f p (subst (λ k. p < length (column_of d k f)) e q)))
        (old_or_new r (shown_live d r f p q))

    old_of : (r : ℕ) → r < suc c.made → (r < c.made) ⊎ (r ≡ c.made)
    old_of r l = ⊎_elim (λ e. inl e) (λ e. inr (omega (arith, l, e))) (cases_lt r c.made)

    pub stands_made : Stands code (who_more c who n) (suc n) d after
    unfolding Holds
    stands_made = record {
      below = λ r l. ⊎_elim (λ e. omega (arith, who_old r e, s.below r e)) (λ e. omega (arith, ap (who_more c who n) e ∙ who_new)) (old_of r l);
      rising = λ a b l k. ⊎_elim
          (λ x. omega (arith, who_old a (omega (arith, l, x)), who_old b x, s.rising a b l x))
          (λ e. let old : a < c.made = omega (arith, l, e) in omega (arith, who_old a old, s.below a old, ap (who_more c who n) e ∙ who_new)) (old_of b k);
      numbered = made.numbered_more c (new_root space size (kinds_of code space)) s.numbered;
      shaped = λ r l. ⊎_elim
          (λ k. subst (λ i. IsShaped code (shape_of i)) (sym (image_old r (live_below c r s.numbered k))) (s.shaped r k))
          (λ e. subst (λ i. IsShaped code (shape_of i)) (sym (ap (image_of d) e ∙ image_new)) (new_shaped space size)) (old_or_new r l);
      same = λ r f p q. (holds r f p q).0;
      fits = λ r f p q. (holds r f p q).1;
    }
