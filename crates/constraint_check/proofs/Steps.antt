-- What `a <= b` means step by step, and what one more fact adds to it.
use Rattle.std.proofs.Common.{◌≡◌, ℕ, Bool, true, List, [], ◌∷◌, ◌++◌, refl, sym, subst, ◌⊎◌, inl, inr}
use Rattle.std.specs.List.{Contains}
use Rattle.std.proofs.lemmas.Bool.{eqb-true, eq-eqb}
use Rattle.std.proofs.lemmas.List.Elements.{Contains-append_left, Contains-append_cases}
use Rattle.regent_tree.specs.Facts.{raises, is_child_of}
use Rattle.regent_tree.specs.declared.facts.Known.{Known}
use Rattle.regent_tree.specs.declared.facts.Known.TheVariants.{Within, Apart, PartOf, Made}
use Rattle.regent_tree.specs.declared.facts.Term.{Term}
use Rattle.regent_tree.specs.declared.facts.Term.TheVariants.{Name, Child}
use Rattle.constraint_check.specs.Derivations.{IsBelow, same, told_within, through, child, variable}
use Rattle.regent_tree.proofs.Members.{Has, Has-from_Contains}
use Rattle.constraint_check.proofs.Alike.{alike-refl, same-terms}

-- t is the upper end of a fact
abbrev pub HasEnd : Known → Term → Type 0
HasEnd (Within a b) t = b ≡ t
HasEnd (Apart a b) t = ⊥
HasEnd (PartOf p r disjoint) t = Name r ≡ t
HasEnd (Made s) t = ⊥

-- the upper end of a fact lies within y
pub record EndsBelow (facts : List Known) (k : Known) (y : Term) : Type 0 where
  pub end : Term
  pub is_end : HasEnd k end
  pub below : IsBelow facts end y

pub is_child_of-child : (p : ℕ) (x : Term) → is_child_of p x ≡ true → (facts : List Known) (r : ℕ) (d : Bool) →
    Contains facts (PartOf p r d) → IsBelow facts x (Name r)
is_child_of-child p (Name a) e facts r d h = absurd cc
is_child_of-child p (Child q c) e facts r d h =
    let same_partition : q ≡ p = sym (eqb-true p q e) in
    subst (λ m. IsBelow facts (Child m c) (Name r)) (sym same_partition) (child h)

-- what a fact raises lies within its upper end
pub one_step : (facts : List Known) (k : Known) (x t : Term) → Contains facts k → raises k x ≡ true → HasEnd k t → IsBelow facts x t
one_step facts (Within a b) x t h e u =
    subst (λ y. IsBelow facts y t) (same-terms a x e) (subst (λ y. IsBelow facts a y) u (told_within h))
one_step facts (Apart a b) x t h e u = absurd u
one_step facts (PartOf p r d) x t h e u =
    subst (λ y. IsBelow facts x y) u (is_child_of-child p x e facts r d h)
one_step facts (Made s) x t h e u = absurd u

pub by_way_of : (facts : List Known) (k : Known) (x y : Term) → Contains facts k → raises k x ≡ true → EndsBelow facts k y → IsBelow facts x y
by_way_of facts k x y h e w = through (one_step facts k x w.end h e w.is_end) w.below

-- the first step of a derivation
pub record FirstStep (facts : List Known) (a b : Term) : Type 0 where
  pub fact : Known
  pub known : Contains facts fact
  pub raised : raises fact a ≡ true
  pub rest : EndsBelow facts fact b

pub first_step : {facts : List Known} {a b : Term} → IsBelow facts a b → (a ≡ b) ⊎ FirstStep facts a b
first_step same = inl refl
first_step {a = a} {b = b} (told_within h) = inr (record {
  fact = Within a b;
  known = h;
  raised = alike-refl a;
  rest = record { end = b; is_end = refl; below = same };
})
first_step {facts = facts} {b = c} (through {a = a} {b = b} d e) = elim (first_step d) [
  | inl q ↦ subst (λ x. (x ≡ c) ⊎ FirstStep facts x c) (sym q) (first_step e)
  | inr s ↦ inr (record {
    fact = s.fact;
    known = s.known;
    raised = s.raised;
    rest = record { end = s.rest.end; is_end = s.rest.is_end; below = through s.rest.below e };
  })
]
first_step (child {p = p} {r = r} {c = c} {disjoint = d} h) = inr (record {
  fact = PartOf p r d;
  known = h;
  raised = eq-eqb p p refl;
  rest = record { end = Name r; is_end = refl; below = same };
})
first_step (variable {s = s} {p = p} {c = c} h) = inr (record {
  fact = Within (Name s) (Child p c);
  known = h;
  raised = alike-refl (Name s);
  rest = record { end = Child p c; is_end = refl; below = same };
})

-- more facts, and more is derivable
pub more_facts : {facts : List Known} (more : List Known) {a b : Term} → IsBelow facts a b → IsBelow (facts ++ more) a b
more_facts more same = same
more_facts {facts} more (told_within h) = told_within (Contains-append_left facts more _ h)
more_facts more (through d e) = through (more_facts more d) (more_facts more e)
more_facts {facts} more (child h) = child (Contains-append_left facts more _ h)
more_facts {facts} more (variable h) = variable (Contains-append_left facts more _ h)

-- a derivation that uses a new fact: up to what it raises, and on from its upper end
pub record ByNewFact (facts : List Known) (k : Known) (x y : Term) : Type 0 where
  pub raised : Term
  pub before : IsBelow facts x raised
  pub is_raised : raises k raised ≡ true
  pub after : EndsBelow facts k y

old_or_new : (facts : List Known) (k j : Known) → Contains (facts ++ k ∷ []) j → Contains facts j ⊎ (k ≡ j)
old_or_new facts k j h = elim (Contains-append_cases facts (k ∷ []) j h) [
  | inl g ↦ inl g
  | inr g ↦ inr (only (Has-from_Contains (k ∷ []) j g))
]
  where
    only : Has (k ∷ []) j → k ≡ j
    only (inl e) = e
    only (inr f) = absurd f

new_step : (facts : List Known) (k j : Known) (x y : Term) → k ≡ j → raises j x ≡ true → HasEnd j y → ByNewFact facts k x y
new_step facts k j x y e r u = record {
  raised = x;
  before = same;
  is_raised = subst (λ i. raises i x ≡ true) (sym e) r;
  after = record { end = y; is_end = subst (λ i. HasEnd i y) (sym e) u; below = same };
}

pub without_new_fact : (facts : List Known) (k : Known) {x y : Term} → IsBelow (facts ++ k ∷ []) x y → IsBelow facts x y ⊎ ByNewFact facts k x y
without_new_fact facts k same = inl same
without_new_fact facts k {x} {y} (told_within h) = elim (old_or_new facts k _ h) [
  | inl g ↦ inl (told_within g)
  | inr e ↦ inr (new_step facts k (Within x y) x y e (alike-refl x) refl)
]
without_new_fact facts k (through {a = a} {b = b} {c = c} d e) = joined (without_new_fact facts k d) (without_new_fact facts k e)
  where
    joined : IsBelow facts a b ⊎ ByNewFact facts k a b → IsBelow facts b c ⊎ ByNewFact facts k b c → IsBelow facts a c ⊎ ByNewFact facts k a c
    joined (inl f) (inl g) = inl (through f g)
    joined (inl f) (inr g) = inr (record {
      raised = g.raised;
      before = through f g.before;
      is_raised = g.is_raised;
      after = g.after;
    })
    joined (inr f) (inl g) = inr (record {
      raised = f.raised;
      before = f.before;
      is_raised = f.is_raised;
      after = record { end = f.after.end; is_end = f.after.is_end; below = through f.after.below g };
    })
    joined (inr f) (inr g) = inr (record {
      raised = f.raised;
      before = f.before;
      is_raised = f.is_raised;
      after = g.after;
    })
without_new_fact facts k (child {p = p} {r = r} {c = c} {disjoint = d} h) = elim (old_or_new facts k _ h) [
  | inl g ↦ inl (child g)
  | inr e ↦ inr (new_step facts k (PartOf p r d) (Child p c) (Name r) e (eq-eqb p p refl) refl)
]
without_new_fact facts k (variable {s = s} {p = p} {c = c} h) = elim (old_or_new facts k _ h) [
  | inl g ↦ inl (variable g)
  | inr e ↦ inr (new_step facts k (Within (Name s) (Child p c)) (Name s) (Child p c) e (alike-refl (Name s)) refl)
]

-- what a new fact's upper end lies within was so before
pub EndsBelow-new : (facts : List Known) (k : Known) (y : Term) → EndsBelow (facts ++ k ∷ []) k y → EndsBelow facts k y
EndsBelow-new facts k y w = elim (without_new_fact facts k w.below) [
  | inl d ↦ record { end = w.end; is_end = w.is_end; below = d }
  | inr n ↦ n.after
]

pub EndsBelow-more : (facts more : List Known) (k : Known) (y : Term) → EndsBelow facts k y → EndsBelow (facts ++ more) k y
EndsBelow-more facts more k y w = record { end = w.end; is_end = w.is_end; below = more_facts more w.below }
