-- Terms that are written alike are the same terms, and the lists of terms that are united by it.
use Rattle.std.proofs.Common.{◌≡◌, true, List, [], ◌∷◌, ◌++◌, refl, ap, sym, subst, ◌⊎◌, inl, inr}
use Rattle.std.specs.List.{list_any}
use Rattle.std.proofs.lemmas.Bool.{and_parts, and_from, eqb-true, eq-eqb, cond-true, cond-false, cases_Bool}
use Rattle.std.proofs.lemmas.Bool.Decides.{Decides-int_eq}
use Rattle.regent_tree.specs.Facts.{alike, alike_colours, with_term, united}
use Rattle.regent_tree.specs.declared.facts.Colour.{Colour}
use Rattle.regent_tree.specs.declared.facts.Colour.TheVariants.{Constant, Loop, Unknown}
use Rattle.regent_tree.specs.declared.facts.Term.{Term}
use Rattle.regent_tree.specs.declared.facts.Term.TheVariants.{Name, Child}
use Rattle.regent_tree.proofs.Members.{Has, Has-append_left, Has-append_right, Has-append_cases, Has-from_list_any}

pub alike_colours-refl : (c : Colour) → alike_colours c c ≡ true
alike_colours-refl (Constant i) = (Decides-int_eq i i).1 refl
alike_colours-refl (Loop n) = eq-eqb n n refl
alike_colours-refl Unknown = refl

pub same-colours : (c d : Colour) → alike_colours c d ≡ true → c ≡ d
same-colours (Constant i) (Constant j) e = ap Constant ((Decides-int_eq i j).0 e)
same-colours (Constant i) (Loop m) e = absurd cc
same-colours (Constant i) Unknown e = absurd cc
same-colours (Loop n) (Constant j) e = absurd cc
same-colours (Loop n) (Loop m) e = ap Loop (eqb-true n m e)
same-colours (Loop n) Unknown e = absurd cc
same-colours Unknown (Constant j) e = absurd cc
same-colours Unknown (Loop m) e = absurd cc
same-colours Unknown Unknown e = refl

pub alike-refl : (a : Term) → alike a a ≡ true
alike-refl (Name a) = eq-eqb a a refl
alike-refl (Child p c) = and_from _ _ (eq-eqb p p refl) (alike_colours-refl c)

pub same-terms : (a b : Term) → alike a b ≡ true → a ≡ b
same-terms (Name a) (Name b) e = ap Name (eqb-true a b e)
same-terms (Name a) (Child q d) e = absurd cc
same-terms (Child p c) (Name b) e = absurd cc
same-terms (Child p c) (Child q d) e =
    let both = and_parts _ _ e in
    let same_partition : p ≡ q = eqb-true p q both.0 in
    let same_colour : c ≡ d = same-colours c d both.1 in
    cc

-- ---- united lists

pub with_term-kept : (ts : List Term) (t y : Term) → Has ts y → Has (with_term ts t) y
with_term-kept ts t y h = elim (cases_Bool (list_any (alike t) ts)) [
  | inl e ↦ rw (cond-true (list_any (alike t) ts) ts (ts ++ t ∷ []) e) h
  | inr e ↦ rw (cond-false (list_any (alike t) ts) ts (ts ++ t ∷ []) e) (Has-append_left ts (t ∷ []) y h)
]

pub with_term-added : (ts : List Term) (t : Term) → Has (with_term ts t) t
with_term-added ts t = elim (cases_Bool (list_any (alike t) ts)) [
  | inl e ↦ rw (cond-true (list_any (alike t) ts) ts (ts ++ t ∷ []) e) (found (Has-from_list_any (alike t) ts e))
  | inr e ↦ rw (cond-false (list_any (alike t) ts) ts (ts ++ t ∷ []) e) (Has-append_right ts (t ∷ []) t (inl refl))
]
  where
    found : ((x : Term) × Has ts x × (alike t x ≡ true)) → Has ts t
    found w = subst (λ x. Has ts x) (sym (same-terms t w.0 w.2)) w.1

pub with_term-cases : (ts : List Term) (t y : Term) → Has (with_term ts t) y → Has ts y ⊎ (t ≡ y)
with_term-cases ts t y h = elim (cases_Bool (list_any (alike t) ts)) [
  | inl e ↦ inl (rw (cond-true (list_any (alike t) ts) ts (ts ++ t ∷ []) e) at h)
  | inr e ↦ pushed (Has-append_cases ts (t ∷ []) y (rw (cond-false (list_any (alike t) ts) ts (ts ++ t ∷ []) e) at h))
]
  where
    pushed : Has ts y ⊎ Has (t ∷ []) y → Has ts y ⊎ (t ≡ y)
    pushed (inl g) = inl g
    pushed (inr (inl g)) = inr g
    pushed (inr (inr g)) = absurd g

pub united-kept : (ts more : List Term) (y : Term) → Has ts y → Has (united ts more) y
united-kept ts [] y h = h
united-kept ts (t ∷ more) y h = united-kept (with_term ts t) more y (with_term-kept ts t y h)

pub united-added : (ts more : List Term) (y : Term) → Has more y → Has (united ts more) y
united-added ts [] y h = absurd h
united-added ts (t ∷ more) y (inl e) =
    united-kept (with_term ts t) more y (subst (λ x. Has (with_term ts t) x) e (with_term-added ts t))
united-added ts (t ∷ more) y (inr h) = united-added (with_term ts t) more y h

pub united-cases : (ts more : List Term) (y : Term) → Has (united ts more) y → Has ts y ⊎ Has more y
united-cases ts [] y h = inl h
united-cases ts (t ∷ more) y h = elim (united-cases (with_term ts t) more y h) [
  | inl g ↦ elim (with_term-cases ts t y g) [ inl k ↦ inl k | inr e ↦ inr (inl e) ]
  | inr g ↦ inr (inr g)
]
