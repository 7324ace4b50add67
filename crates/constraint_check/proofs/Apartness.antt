-- What `a * b` means fact by fact.
use Rattle.std.proofs.Common.{◌≡◌, ◌≢◌, ℕ, ℤ, ◌<◌, true, false, ◌==◌, List, refl, ap, sym, subst, ◌⊎◌, inl, inr, ◌↔◌}
use Rattle.std.specs.List.{Contains}
use Rattle.std.specs.Ordering.{int_eq}
use Rattle.std.proofs.lemmas.Bool.{false≢true, and_parts, and_from, or_cases, or_left, or_right, eqb-true, eq-eqb, ltb-true, lt-ltb, not-true, not_from_false, false_from_ne_true}
use Rattle.std.proofs.lemmas.Bool.Decides.{Decides-int_eq}
use Rattle.regent_tree.specs.Facts.{closed, any_above, is_below, is_other_constant, differ, is_other_child, is_earlier, has_sibling_above, parts, parts_either, are_disjoint}
use Rattle.regent_tree.specs.declared.facts.Colour.{Colour}
use Rattle.regent_tree.specs.declared.facts.Colour.TheVariants.{Constant, Loop, Unknown}
use Rattle.regent_tree.specs.declared.facts.Known.{Known}
use Rattle.regent_tree.specs.declared.facts.Known.TheVariants.{Within, Apart, PartOf, Made}
use Rattle.regent_tree.specs.declared.facts.Term.{Term}
use Rattle.regent_tree.specs.declared.facts.Term.TheVariants.{Name, Child}
use Rattle.constraint_check.specs.Derivations.{IsBelow, same, through, IsApart, told_apart, turned, children, inside, made, IsDisjoint}
use Rattle.regent_tree.proofs.Members.{Has, Has-from_Contains, Contains-from_Has, list_any-from_Has, Has-from_list_any}
use Rattle.constraint_check.proofs.Table.{any_above-sound, any_above-complete, is_below-sound, is_below-complete}

-- a fact tells that x and y share no point, in this order
abbrev pub Tells : Known → Term → Term → Type 0
Tells (Within a b) x y = ⊥
Tells (Apart a b) x y = (a ≡ x) × (b ≡ y)
Tells (PartOf p r disjoint) x y = record {
  is_disjoint : disjoint ≡ true;
  first : ℤ;
  second : ℤ;
  differ : first ≢ second;
  first_is : Child p (Constant first) ≡ x;
  second_is : Child p (Constant second) ≡ y;
}
Tells (Made s) x y = record { earlier : ℕ; below : earlier < s; first_is : Name s ≡ x; second_is : Name earlier ≡ y }

-- a fact tells of what a and b lie within
pub record PartedBy (facts : List Known) (a b : Term) (k : Known) : Type 0 where
  pub first : Term
  pub second : Term
  pub first_above : IsBelow facts a first
  pub second_above : IsBelow facts b second
  pub tells : Tells k first second

tells-apart : (facts : List Known) (k : Known) (x y : Term) → Contains facts k → Tells k x y → IsApart facts x y
tells-apart facts (Within a b) x y h t = absurd t
tells-apart facts (Apart a b) x y h t =
    subst (λ v. IsApart facts v y) t.0 (subst (λ v. IsApart facts a v) t.1 (told_apart h))
tells-apart facts (PartOf p r d) x y h t =
    subst (λ v. IsApart facts v y) t.first_is (subst (λ v. IsApart facts (Child p (Constant t.first)) v) t.second_is
    (children (subst (λ e. Contains facts (PartOf p r e)) t.is_disjoint h) t.differ))
tells-apart facts (Made s) x y h t =
    subst (λ v. IsApart facts v y) t.first_is (subst (λ v. IsApart facts (Name s) v) t.second_is (made h t.below))

parted-apart : (facts : List Known) (a b : Term) (k : Known) → Contains facts k → PartedBy facts a b k → IsApart facts a b
parted-apart facts a b k h w =
    inside w.first_above (turned (inside w.second_above (turned (tells-apart facts k w.first w.second h w.tells))))

-- some fact parts a and b, in one order or the other
record IsParted (facts : List Known) (a b : Term) : Type 0 where
  fact : Known
  known : Contains facts fact
  either : PartedBy facts a b fact ⊎ PartedBy facts b a fact

told-parted : (facts : List Known) (k : Known) (x y : Term) → Contains facts k → Tells k x y → IsParted facts x y
told-parted facts k x y h t = record {
  fact = k;
  known = h;
  either = inl (record { first = x; second = y; first_above = same; second_above = same; tells = t });
}

apart-parted : {facts : List Known} {a b : Term} → IsApart facts a b → IsParted facts a b
apart-parted {facts = facts} (told_apart {a = a} {b = b} h) = told-parted facts (Apart a b) a b h (refl, refl)
apart-parted {facts = facts} {a = a} {b = b} (turned d) = let w = apart-parted d in record {
  fact = w.fact;
  known = w.known;
  either = elim w.either [ inl p ↦ inr p | inr p ↦ inl p ];
}
apart-parted {facts = facts} (children {p = p} {r = r} {i = i} {j = j} h ne) =
    told-parted facts (PartOf p r true) (Child p (Constant i)) (Child p (Constant j)) h
    (record { is_disjoint = refl; first = i; second = j; differ = ne; first_is = refl; second_is = refl })
apart-parted {facts = facts} (inside {a = a} {b = b} {c = c} d e) = let w = apart-parted e in record {
  fact = w.fact;
  known = w.known;
  either = elim w.either [
    | inl p ↦ inl (record {
      first = p.first;
      second = p.second;
      first_above = through d p.first_above;
      second_above = p.second_above;
      tells = p.tells;
    })
    | inr p ↦ inr (record {
      first = p.first;
      second = p.second;
      first_above = p.first_above;
      second_above = through d p.second_above;
      tells = p.tells;
    })
  ];
}
apart-parted {facts = facts} (made {s = s} {r = r} h l) =
    told-parted facts (Made s) (Name s) (Name r) h (record { earlier = r; below = l; first_is = refl; second_is = refl })

-- ---- the tests that compute

record IsNumber (c : Colour) (i : ℤ) : Type 0 where
  number : ℤ
  differs : i ≢ number
  is_number : Constant number ≡ c

other_constant-sound : (i : ℤ) (c : Colour) → is_other_constant i c ≡ true → IsNumber c i
other_constant-sound i (Constant j) e = record {
  number = j;
  is_number = refl;
  differs = λ q. absurd (elim_false (not-true (int_eq i j) e) ((Decides-int_eq i j).1 q));
}
  where
    elim_false : int_eq i j ≡ false → int_eq i j ≡ true → ⊥
    elim_false f t = cc
other_constant-sound i (Loop n) e = absurd cc
other_constant-sound i Unknown e = absurd cc

other_constant-complete : (i j : ℤ) → i ≢ j → is_other_constant i (Constant j) ≡ true
other_constant-complete i j ne =
    not_from_false (int_eq i j) (false_from_ne_true (int_eq i j) (λ e. ne ((Decides-int_eq i j).0 e)))

-- two terms are children of a partition by different numbers
record AreOthers (p : ℕ) (x y : Term) : Type 0 where
  first : ℤ
  second : ℤ
  differ : first ≢ second
  first_is : Child p (Constant first) ≡ x
  second_is : Child p (Constant second) ≡ y

other_child-sound : (p : ℕ) (c : Colour) (y : Term) → is_other_child p c y ≡ true → AreOthers p (Child p c) y
other_child-sound p c (Name b) e = absurd cc
other_child-sound p (Constant i) (Child q d) e =
    let both = and_parts (p == q) (differ (Constant i) d) e in
    let w = other_constant-sound i d both.1 in
    record {
      first = i;
      second = w.number;
      differ = w.differs;
      first_is = refl;
      second_is = subst (λ m. Child p (Constant w.number) ≡ Child m d) (eqb-true p q both.0) (ap (Child p) w.is_number);
    }
other_child-sound p (Loop n) (Child q d) e = absurd (false≢true (and_parts (p == q) false e).1)
other_child-sound p Unknown (Child q d) e = absurd (false≢true (and_parts (p == q) false e).1)

-- ---- one fact parts a from b

parts-sound : (facts : List Known) (a b : Term) (k : Known) → parts (closed facts) a b k ≡ true → PartedBy facts a b k
parts-sound facts a b (Within x y) e = absurd cc
parts-sound facts a b (Apart x y) e =
    let both = and_parts (is_below (closed facts) a x) (is_below (closed facts) b y) e in
    record {
      first = x;
      second = y;
      tells = (refl, refl);
      first_above = is_below-sound facts a x both.0;
      second_above = is_below-sound facts b y both.1;
    }
parts-sound facts a b (PartOf p r d) e =
    let both = and_parts d (any_above (closed facts) (has_sibling_above (closed facts) p b) a) e in
    let w = any_above-sound facts (has_sibling_above (closed facts) p b) a both.1 in
    siblings w.term w.below w.passes both.0
  where
    siblings : (x : Term) → IsBelow facts a x → has_sibling_above (closed facts) p b x ≡ true → d ≡ true → PartedBy facts a b (PartOf p r d)
    siblings (Name n) below q t = absurd cc
    siblings (Child m c) below q t =
        let parts_of = and_parts (p == m) (any_above (closed facts) (is_other_child p c) b) q in
        let v = any_above-sound facts (is_other_child p c) b parts_of.1 in
        let o = other_child-sound p c v.term v.passes in
        record {
          first = Child m c;
          second = v.term;
          first_above = below;
          second_above = v.below;
          tells = record {
            is_disjoint = t;
            first = o.first;
            second = o.second;
            differ = o.differ;
            second_is = o.second_is;
            first_is = subst (λ n. Child p (Constant o.first) ≡ Child n c) (eqb-true p m parts_of.0) o.first_is;
          };
        }
parts-sound facts a b (Made s) e =
    let both = and_parts (is_below (closed facts) a (Name s)) (any_above (closed facts) (is_earlier s) b) e in
    let w = any_above-sound facts (is_earlier s) b both.1 in
    earlier w.term w.below w.passes (is_below-sound facts a (Name s) both.0)
  where
    earlier : (y : Term) → IsBelow facts b y → is_earlier s y ≡ true → IsBelow facts a (Name s) → PartedBy facts a b (Made s)
    earlier (Name r) below q up = record {
      first = Name s;
      second = Name r;
      first_above = up;
      second_above = below;
      tells = record { earlier = r; below = ltb-true r s q; first_is = refl; second_is = refl };
    }
    earlier (Child m c) below q up = absurd cc

parts-complete : (facts : List Known) (a b : Term) (k : Known) → PartedBy facts a b k → parts (closed facts) a b k ≡ true
parts-complete facts a b (Within x y) w = absurd w.tells
parts-complete facts a b (Apart x y) w =
    and_from (is_below (closed facts) a x) (is_below (closed facts) b y)
    (is_below-complete facts a x (subst (λ v. IsBelow facts a v) (sym w.tells.0) w.first_above))
    (is_below-complete facts b y (subst (λ v. IsBelow facts b v) (sym w.tells.1) w.second_above))
parts-complete facts a b (PartOf p r d) w =
    and_from d (any_above (closed facts) (has_sibling_above (closed facts) p b) a) w.tells.is_disjoint
    (any_above-complete facts (has_sibling_above (closed facts) p b) a (Child p (Constant w.tells.first))
    (subst (λ v. IsBelow facts a v) (sym w.tells.first_is) w.first_above)
    (and_from (p == p) (any_above (closed facts) (is_other_child p (Constant w.tells.first)) b) (eq-eqb p p refl)
    (any_above-complete facts (is_other_child p (Constant w.tells.first)) b (Child p (Constant w.tells.second))
    (subst (λ v. IsBelow facts b v) (sym w.tells.second_is) w.second_above)
    (and_from (p == p) (is_other_constant w.tells.first (Constant w.tells.second)) (eq-eqb p p refl)
    (other_constant-complete w.tells.first w.tells.second w.tells.differ)))))
parts-complete facts a b (Made s) w =
    and_from (is_below (closed facts) a (Name s)) (any_above (closed facts) (is_earlier s) b)
    (is_below-complete facts a (Name s) (subst (λ v. IsBelow facts a v) (sym w.tells.first_is) w.first_above))
    (any_above-complete facts (is_earlier s) b (Name w.tells.earlier)
    (subst (λ v. IsBelow facts b v) (sym w.tells.second_is) w.second_above)
    (lt-ltb w.tells.earlier s w.tells.below))

-- the form that computes answers exactly what is derivable
pub are_disjoint-derivable : (facts : List Known) (a b : Term) → (are_disjoint facts a b ≡ true) ↔ IsDisjoint facts a b
are_disjoint-derivable facts a b = (sound, complete)
  where
    by_fact : ((k : Known) × Has facts k × (parts_either (closed facts) a b k ≡ true)) → IsApart facts a b
    by_fact w = elim (or_cases (parts (closed facts) a b w.0) (parts (closed facts) b a w.0) w.2) [
      | inl e ↦ parted-apart facts a b w.0 (Contains-from_Has facts w.0 w.1) (parts-sound facts a b w.0 e)
      | inr e ↦ turned (parted-apart facts b a w.0 (Contains-from_Has facts w.0 w.1) (parts-sound facts b a w.0 e))
    ]

    sound : are_disjoint facts a b ≡ true → IsApart facts a b
    sound e = by_fact (Has-from_list_any (parts_either (closed facts) a b) facts e)

    parted : (k : Known) → PartedBy facts a b k ⊎ PartedBy facts b a k → parts_either (closed facts) a b k ≡ true
    parted k (inl p) = or_left (parts (closed facts) a b k) (parts (closed facts) b a k) (parts-complete facts a b k p)
    parted k (inr p) = or_right (parts (closed facts) a b k) (parts (closed facts) b a k) (parts-complete facts b a k p)

    complete : IsApart facts a b → are_disjoint facts a b ≡ true
    complete d = let w = apart-parted d in
        list_any-from_Has (parts_either (closed facts) a b) facts w.fact (Has-from_Contains facts w.fact w.known) (parted w.fact w.either)
