-- Roots can be named, and what has one name under all namings was made by the operation or its callers.
use Rattle.std.proofs.Common.{◌≡◌, ◌<◌, ◌≤◌, ◌+◌, ◌∷◌, ◌∙◌, ◌==◌, ◌||◌, ℕ, Bool, List, [], ap, cond, eqb-true, eq-eqb, false, length, refl, sym, true, arith, ⊎_elim}
use Rattle.std.specs.Prelude.{All, nat_lt}
use Rattle.std.specs.List.{list_any}
use Rattle.std.proofs.lemmas.Bool.{cases_lt, cases_order, le-ltb, lt-ltb, or_parts}
use Rattle.std.proofs.lemmas.List.Elements.{All-cons, All-head, All-nil, All-tail, All-weaker}
use Rattle.region_tree.specs.declared.tree.RootId.{RootId}
use Rattle.number_codes.specs.Pairs.{pair_code, second_of}
use Rattle.number_codes.proofs.Pairs.{pairs_tell}
use Rattle.regent_boards.specs.RegentMachine.{root_of, space_of, who_of}
use Rattle.board_terms.specs.declared.extent.Extent.{Extent}
use Rattle.board_trees.specs.Names.{AreMade, IsNaming, name_of}

pub root_space : (space size who : ℕ) → space_of (root_of space size who) ≡ space
root_space space size who = (pairs_tell space (pair_code size who)).0

pub root_who : (space size who : ℕ) → who_of (root_of space size who) ≡ who
root_who space size who = ap second_of (pairs_tell space (pair_code size who)).1 ∙ (pairs_tell size who).1

module _ (extents : List Extent) (who : ℕ → ℕ) (makings : ℕ) (made : AreMade (length extents) who makings) where
  abbrev WereMade : List RootId → Type 0
  WereMade roots = All (λ (r : RootId). r.0 < length extents) roots

  -- ---- each root that was made by its name, and others by names that no root has

  abbrev who_named : ℕ → ℕ → ℕ
  who_named a r = cond (nat_lt r (length extents)) (who r) (makings + a + r)

  abbrev pub named_all : ℕ → ℕ → ℕ
  named_all a r = cond (nat_lt r (length extents)) (name_of extents who r) (root_of 0 0 (makings + a + r))

  made_is : {A : Type 0} (r : ℕ) (x y : A) → r < length extents → cond (nat_lt r (length extents)) x y ≡ x
  made_is r x y l = ap (λ b. cond b x y) (lt-ltb r (length extents) l)

  unmade_is : {A : Type 0} (r : ℕ) (x y : A) → length extents ≤ r → cond (nat_lt r (length extents)) x y ≡ y
  unmade_is r x y l = ap (λ b. cond b x y) (le-ltb r (length extents) l)

  who_is : (a r : ℕ) → who_of (named_all a r) ≡ who_named a r
  who_is a r = chosen (nat_lt r (length extents))
    where
      chosen : (b : Bool) → who_of (cond b (name_of extents who r) (root_of 0 0 (makings + a + r))) ≡ cond b (who r) (makings + a + r)
      chosen true = root_who _ _ (who r)
      chosen false = root_who 0 0 (makings + a + r)

  one_made : (x y : ℕ) → x < length extents → y < length extents → who x ≡ who y → x ≡ y
  one_made x y l k e = ⊎_elim (λ q. q) (λ more. ⊎_elim (λ q. absurd (omega (arith, e, made.rising x y q k))) (λ q. absurd (omega (arith, e, made.rising y x q l))) more) (cases_order x y)

  one_who : (a x y : ℕ) → who_named a x ≡ who_named a y → x ≡ y
  one_who a x y e = ⊎_elim
      (λ l. ⊎_elim (λ k. one_made x y l k (sym (made_is x (who x) (makings + a + x) l) ∙ e ∙ made_is y (who y) (makings + a + y) k))
      (λ k. absurd (omega (arith, sym (made_is x (who x) (makings + a + x) l) ∙ e ∙ unmade_is y (who y) (makings + a + y) k, made.below x l))) (cases_lt y (length extents)))
      (λ l. ⊎_elim (λ k. absurd (omega (arith, sym (unmade_is x (who x) (makings + a + x) l) ∙ e ∙ made_is y (who y) (makings + a + y) k, made.below y k)))
      (λ k. let q : makings + a + x ≡ makings + a + y = sym (unmade_is x (who x) (makings + a + x) l) ∙ e ∙ unmade_is y (who y) (makings + a + y) k in omega (arith, q)) (cases_lt y (length extents)))
      (cases_lt x (length extents))

  pub is_naming : (a : ℕ) (roots : List RootId) → WereMade roots → IsNaming extents who roots (named_all a)
  is_naming a roots h = record {
    one = λ x y e. one_who a x y (sym (who_is a x) ∙ ap who_of e ∙ who_is a y);
    known = All-weaker (λ (r : RootId). r.0 < length extents) (λ (r : RootId). named_all a r.0 ≡ name_of extents who r.0)
        (λ r l. made_is r.0 (name_of extents who r.0) (root_of 0 0 (makings + a + r.0)) l) roots h;
  }

  -- ---- and one root by another name

  module _ (one : ℕ) where
    abbrev who_but : ℕ → ℕ
    who_but r = cond (r == one) makings (who_named 1 r)

    abbrev named_but : ℕ → ℕ
    named_but r = cond (r == one) (root_of 0 0 makings) (named_all 1 r)

    but_is : (r : ℕ) → who_of (named_but r) ≡ who_but r
    but_is r = chosen (r == one)
      where
        chosen : (b : Bool) → who_of (cond b (root_of 0 0 makings) (named_all 1 r)) ≡ cond b makings (who_named 1 r)
        chosen true = root_who 0 0 makings
        chosen false = who_is 1 r

    other_who : (r : ℕ) → who_named 1 r ≡ makings → ⊥
    other_who r e = ⊎_elim (λ l. omega (arith, sym (made_is r (who r) (makings + 1 + r) l) ∙ e, made.below r l))
        (λ l. omega (arith, sym (unmade_is r (who r) (makings + 1 + r) l) ∙ e)) (cases_lt r (length extents))

    one_but : (x y : ℕ) (b d : Bool) → (x == one) ≡ b → (y == one) ≡ d → cond b makings (who_named 1 x) ≡ cond d makings (who_named 1 y) → x ≡ y
    one_but x y true true e f q = eqb-true x one e ∙ sym (eqb-true y one f)
    one_but x y true false e f q = absurd (other_who y (sym q))
    one_but x y false true e f q = absurd (other_who x q)
    one_but x y false false e f q = one_who 1 x y q

    but_known : (roots : List RootId) → WereMade roots → list_any (λ (r : RootId). r.0 == one) roots ≡ false → All (λ (r : RootId). named_but r.0 ≡ name_of extents who r.0) roots
    but_known [] h e = All-nil (λ (r : RootId). named_but r.0 ≡ name_of extents who r.0)
    but_known (r ∷ roots) h e =
        let parts = or_parts (r.0 == one) (list_any (λ (r : RootId). r.0 == one) roots) e in
        All-cons (λ (r : RootId). named_but r.0 ≡ name_of extents who r.0) r roots
        (ap (λ b. cond b (root_of 0 0 makings) (named_all 1 r.0)) parts.0
        ∙ made_is r.0 (name_of extents who r.0) (root_of 0 0 (makings + 1 + r.0)) (All-head (λ (r : RootId). r.0 < length extents) r roots h))
        (but_known roots (All-tail (λ (r : RootId). r.0 < length extents) r roots h) parts.1)

    but_naming : (roots : List RootId) → WereMade roots → list_any (λ (r : RootId). r.0 == one) roots ≡ false → IsNaming extents who roots named_but
    but_naming roots h e = record {
      one = λ x y q. one_but x y (x == one) (y == one) refl refl (sym (but_is x) ∙ ap who_of q ∙ but_is y);
      known = but_known roots h e;
    }

    -- ---- what has one name under all namings

    known_there : (name : ℕ → ℕ) (roots : List RootId) → All (λ (r : RootId). name r.0 ≡ name_of extents who r.0) roots → list_any (λ (r : RootId). r.0 == one) roots ≡ true →
        name one ≡ name_of extents who one
    known_there name [] h e = absurd cc
    known_there name (r ∷ roots) h e = chosen (r.0 == one) refl (known_there name roots (All-tail (λ (r : RootId). name r.0 ≡ name_of extents who r.0) r roots h)) e
      where
        chosen : (b : Bool) → (r.0 == one) ≡ b → (list_any (λ (r : RootId). r.0 == one) roots ≡ true → name one ≡ name_of extents who one) →
            (b || list_any (λ (r : RootId). r.0 == one) roots) ≡ true → name one ≡ name_of extents who one
        chosen true q more e =
            let same = eqb-true r.0 one q in
            ap name (sym same) ∙ All-head (λ (r : RootId). name r.0 ≡ name_of extents who r.0) r roots h ∙ ap (name_of extents who) same
        chosen false q more e = more e

    -- the operation or its callers made it
    pub one_there : (R : ℕ) (roots : List RootId) → WereMade roots → ((name : ℕ → ℕ) → IsNaming extents who roots name → name one ≡ R) →
        list_any (λ (r : RootId). r.0 == one) roots ≡ true
    one_there R roots h says = chosen (list_any (λ (r : RootId). r.0 == one) roots) refl
      where
        chosen : (b : Bool) → list_any (λ (r : RootId). r.0 == one) roots ≡ b → list_any (λ (r : RootId). r.0 == one) roots ≡ true
        chosen true e = e
        chosen false e = absurd (other_who one (sym (who_is 1 one) ∙ ap who_of (says (named_all 1) (is_naming 1 roots h) ∙ sym (says named_but (but_naming roots h e)))
            ∙ but_is one ∙ ap (λ b. cond b makings (who_named 1 one)) (eq-eqb one one refl)))

    pub one_name : (R : ℕ) (roots : List RootId) → WereMade roots → ((name : ℕ → ℕ) → IsNaming extents who roots name → name one ≡ R) → R ≡ name_of extents who one
    one_name R roots h says =
        sym (says (named_all 1) (is_naming 1 roots h)) ∙ known_there (named_all 1) roots (is_naming 1 roots h).known (one_there R roots h says)
