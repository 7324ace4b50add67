-- Values of shapes: the one at a place, and one put there.
use Rattle.std.proofs.Common.{◌≡◌, inl, inr, ℕ, zero, suc, List, [], ◌∷◌, Option, Some, refl, ap, subst}
use Rattle.std.proofs.lemmas.Option.{none-some, same_Some}
use Rattle.std.specs.Prelude.{slice_get, slice_set, length}
use Rattle.machine_terms.specs.declared.value.RegionValue.{RegionValue}
use Rattle.machine_terms.specs.declared.value.Value.{Value}
use Rattle.fit_rules.specs.Shapes.{Among, Each, Shape, World, Is, IsRegion, Are, are_none, are_more, Origin, unknown, ComesFrom, IsWhole, own_as, argument, own_root, part, child_at, held_at}

-- each of some holds of one of them
pub each_among : {A : Type 0} (P : A → Type 0) (xs : List A) (a : A) → Among xs a → Each P xs → P a
each_among P [] a h e = absurd h
each_among P (x ∷ xs) a (inl q) e = subst P q e.0
each_among P (x ∷ xs) a (inr h) e = each_among P xs a h e.1

-- a region is one, wherever it comes from
pub any_region : (x : World) (sp : Option ℕ) (o : Origin) (r : RegionValue) → IsRegion x sp o r → IsRegion x sp unknown r
any_region x sp o r i = record { there = i.there; space = i.space; set = i.set; points = i.points; origin = tt }

-- what the task made, under a number or not, is a whole root of its own
abbrev pub IsOwn : Origin → Type 0
IsOwn own_root = Unit {0}
IsOwn (own_as i) = Unit {0}
IsOwn o = ⊥

pub whole_of : (x : World) (o : Origin) (r : RegionValue) → IsOwn o → ComesFrom x o r → IsWhole x r
whole_of x own_root r h c = c
whole_of x (own_as i) r h c = c.0
whole_of x unknown r h c = absurd h
whole_of x (argument i) r h c = absurd h
whole_of x (part o) r h c = absurd h
whole_of x (child_at p d o) r h c = absurd h
whole_of x (held_at s o) r h c = absurd h

pub record Found (x : World) (s : Shape) (vs : List Value) (i : ℕ) : Type 0 where
  pub value : Value
  pub at : slice_get vs i ≡ Some value
  pub of : Is x s value

module _ (x : World) where
  pub value_at : (ss : List Shape) (vs : List Value) (i : ℕ) (s : Shape) → Are x ss vs →
      slice_get ss i ≡ Some s → Found x s vs i
  value_at _ _ i s are_none e = absurd (none-some s e)
  value_at _ _ zero s (are_more u v ss vs h a) e = record {
    value = v;
    at = refl;
    of = subst (λ y. Is x y v) (same_Some _ _ e) h;
  }
  value_at _ _ (suc i) s (are_more u v ss vs h a) e =
      let f = value_at ss vs i s a e in record { value = f.value; at = f.at; of = f.of }

  pub as_long : (ss : List Shape) (vs : List Value) → Are x ss vs → length vs ≡ length ss
  as_long _ _ are_none = refl
  as_long _ _ (are_more s v ss vs h a) = ap suc (as_long ss vs a)

  pub set_at : (ss : List Shape) (vs : List Value) (i : ℕ) (s : Shape) (v : Value) → Are x ss vs →
      Is x s v → Are x (slice_set ss i s) (slice_set vs i v)
  set_at _ _ i s v are_none h = are_none
  set_at _ _ zero s v (are_more u w ss vs g a) h = are_more s v ss vs h a
  set_at _ _ (suc i) s v (are_more u w ss vs g a) h =
      are_more u w _ _ g (set_at ss vs i s v a h)
