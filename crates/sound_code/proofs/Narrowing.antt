-- Shapes of slots: another one in a slot, and what tells less.
use Rattle.std.proofs.Common.{◌≡◌, ◌⊎◌, inl, inr, ℕ, zero, suc, ◌<◌, ◌≤◌, List, [], ◌∷◌, Some, refl, sym, ap, ◌∙◌, subst, arith}
use Rattle.std.specs.Prelude.{slice_get, slice_set, length, take}
use Rattle.std.proofs.lemmas.Option.{same_Some}
use Rattle.regent_tree.specs.declared.typing.Bound.{Bound}
use Rattle.machine_terms.specs.declared.value.Value.{Value}
use Rattle.fit_rules.specs.Shapes.{Among, Each, Shape, anything, holding, World, Is, is_anything, Are, are_none, are_more}
use Rattle.fit_rules.specs.Marks.{Fact, Holds, Mark, Into, stacked}
use Rattle.fit_laws.proofs.Held.{none_held}
use Rattle.fit_laws.proofs.Keeping.{get_other}
use Rattle.fit_laws.proofs.Lookup.{each_among}
use Rattle.sound_code.specs.Ways.{Way}
use Rattle.sound_code.specs.Named.{slot_at, AreNamed, Narrower, narrow_none, narrow_same, narrow_any}

-- ---- slots that are set

-- a value of the shape that its slot has
pub set_kept : (x : World) (ss : List Shape) (vs : List Value) (i : ℕ) (s : Shape) (v : Value) → Are x ss vs →
    slice_get ss i ≡ Some s → Is x s v → Are x ss (slice_set vs i v)
set_kept x _ _ i s v are_none e h = are_none
set_kept x _ _ zero s v (are_more u w ss vs g a) e h = are_more u v ss vs (subst (λ y. Is x y v) (sym (same_Some u s e)) h) a
set_kept x _ _ (suc i) s v (are_more u w ss vs g a) e h = are_more u w _ _ g (set_kept x ss vs i s v a e h)

-- ---- narrower shapes

pub narrow_are : (x : World) (ss us : List Shape) (vs : List Value) → Narrower ss us → Are x ss vs → Are x us vs
narrow_are x _ _ _ narrow_none are_none = are_none
narrow_are x _ _ _ (narrow_same s ss us n) (are_more _ v _ vs h a) = are_more s v us vs h (narrow_are x ss us vs n a)
narrow_are x _ _ _ (narrow_any s ss us n) (are_more _ v _ vs h a) =
    are_more anything v us vs (is_anything v) (narrow_are x ss us vs n a)

pub narrow_itself : (ss : List Shape) → Narrower ss ss
narrow_itself [] = narrow_none
narrow_itself (s ∷ ss) = narrow_same s ss ss (narrow_itself ss)

pub narrow_then : (ss us ws : List Shape) → Narrower ss us → Narrower us ws → Narrower ss ws
narrow_then _ _ _ narrow_none narrow_none = narrow_none
narrow_then _ _ _ (narrow_same s ss us n) (narrow_same _ _ ws p) = narrow_same s ss ws (narrow_then ss us ws n p)
narrow_then _ _ _ (narrow_same s ss us n) (narrow_any _ _ ws p) = narrow_any s ss ws (narrow_then ss us ws n p)
narrow_then _ _ _ (narrow_any s ss us n) (narrow_same _ _ ws p) = narrow_any s ss ws (narrow_then ss us ws n p)
narrow_then _ _ _ (narrow_any s ss us n) (narrow_any _ _ ws p) = narrow_any s ss ws (narrow_then ss us ws n p)

-- where nothing or the same was told of a slot
pub narrow_set : (ss us : List Shape) (i : ℕ) (s : Shape) → Narrower ss us →
    (slice_get us i ≡ Some anything) ⊎ (slice_get us i ≡ Some s) → Narrower (slice_set ss i s) us
narrow_set _ _ i s narrow_none e = narrow_none
narrow_set _ _ zero s (narrow_same u ss us n) (inl e) =
    subst (λ y. Narrower (s ∷ ss) (y ∷ us)) (sym (same_Some _ _ e)) (narrow_any s ss us n)
narrow_set _ _ zero s (narrow_same u ss us n) (inr e) =
    subst (λ y. Narrower (s ∷ ss) (y ∷ us)) (sym (same_Some _ _ e)) (narrow_same s ss us n)
narrow_set _ _ zero s (narrow_any u ss us n) e = narrow_any s ss us n
narrow_set _ _ (suc i) s (narrow_same u ss us n) e = narrow_same u _ us (narrow_set ss us i s n e)
narrow_set _ _ (suc i) s (narrow_any u ss us n) e = narrow_any u _ us (narrow_set ss us i s n e)

pub narrow_long : (ss us : List Shape) → Narrower ss us → length ss ≡ length us
narrow_long _ _ narrow_none = refl
narrow_long _ _ (narrow_same s ss us n) = ap suc (narrow_long ss us n)
narrow_long _ _ (narrow_any s ss us n) = ap suc (narrow_long ss us n)

-- a mark of narrower slots, with the other's facts, leads into the other where nothing stands on the stack
pub narrow_into : (params : ℕ) (m n : Mark) → Narrower m.slots n.slots →
    ((vs : List Value) → Each (λ k. Holds k vs) m.facts → Each (λ k. Holds k vs) n.facts) → Into params (stacked m []) (stacked n [])
narrow_into params m n h more x vs st s = record {
  slots = narrow_are x _ _ vs h s.slots;
  stack = none_held _ _ st s.stack;
  facts = more vs s.facts;
  top = tt;
  args = s.args;
}

-- and whatever stands there, where the same slots stay
pub narrow_over : (params : ℕ) (m n : Mark) (us : List Shape) → n.fixed ≡ m.fixed → Narrower m.slots n.slots →
    ((vs : List Value) → Each (λ k. Holds k vs) m.facts → Each (λ k. Holds k vs) n.facts) → Into params (stacked m us) (stacked n us)
narrow_over params m n us same h more x vs st s = record {
  slots = narrow_are x _ _ vs h s.slots;
  stack = subst (λ l. Are (holding x (take l vs)) us st) (sym same) s.stack;
  facts = more vs s.facts;
  top = tt;
  args = s.args;
}

-- facts are among others
abbrev pub AtLeast : List Fact → List Fact → Type 0
AtLeast ks ls = (k : Fact) → Among ks k → Among ls k

pub fewer_facts : (ks ls : List Fact) → AtLeast ks ls → (vs : List Value) → Each (λ k. Holds k vs) ls → Each (λ k. Holds k vs) ks
fewer_facts [] ls more vs h = tt
fewer_facts (k ∷ ks) ls more vs h =
    (each_among (λ f. Holds f vs) ls k (more k (inl refl)) h, fewer_facts ks ls (λ f a. more f (inr a)) vs h)

pub same_facts : (ks ls : List Fact) → ks ≡ ls → (vs : List Value) → Each (λ k. Holds k vs) ks → Each (λ k. Holds k vs) ls
same_facts ks ls e vs h = subst (λ y. Each (λ k. Holds k vs) y) e h

-- ---- names

slot_below : (params p q : ℕ) → p < q → slot_at params p < slot_at params q
slot_below params p q h = omega (arith, h)

-- names keep their shapes where a slot behind theirs is set
pub named_behind : (way : Way) (params : ℕ) (ss : List Shape) (bs : List Bound) (i : ℕ) (s : Shape) → AreNamed way params ss bs →
    slot_at params (length bs) ≤ i → AreNamed way params (slice_set ss i s) bs
named_behind way params ss [] i s a l = tt
named_behind way params ss (b ∷ bs) i s a l =
    let low : slot_at params b.place < i = omega (arith, l, a.0, slot_below params b.place (length (b ∷ bs)) (omega (arith, a.0))) in (
      a.0,
      get_other ss i (slot_at params b.place) s (λ e. omega (arith, e, low)) ∙ a.1,
      named_behind way params ss bs i s a.2 (omega (arith, low, a.0)),
    )
