-- Which regions of a task began as parts, read from what its text tells: with each goes the region that it is a part of, and the one
-- above all these, which began as none.
use Rattle.std.proofs.Common.{◌≡◌, ℕ, zero, suc, ◌<◌, ◌≤◌, Bool, true, false, cond, None, Option, Some, refl, sym, ap, ◌∙◌, subst, arith}
use Rattle.std.specs.Prelude.{length, nat_le, nat_lt}
use Rattle.std.proofs.lemmas.Bool.{leb-true, lt-ltb}
use Rattle.std.proofs.lemmas.Option.{none-some, same_Some}
use Rattle.regent_tree.specs.Syntax.{TaskTree, Tree}
use Rattle.code_laws.specs.Handing.{taking_of}
use Rattle.code_laws.specs.Steps.{Taking}
use Rattle.code_laws.specs.Taking.{LiesUp, up_itself, up_part}
use Rattle.sound_code.specs.Ways.{none_begun, Tops}
use Rattle.sound_code.proofs.Asked.{AreTops}
use Rattle.sound_code.proofs.Grounds.{top_behind, top_in}
use Rattle.sound_code.proofs.Lying.{top_none}

-- one step upwards, and on
abbrev next_up : (ℕ → ℕ) → ℕ → Option ℕ → ℕ
next_up up i None = i
next_up up i (Some r) = cond (nat_lt r i) (up r) i

below_of : (a b : ℕ) → nat_lt a b ≡ true → a < b
below_of a b e = let l = leb-true (suc a) b e in omega (arith, l)

next_same : (f g : ℕ → ℕ) (i : ℕ) (o : Option ℕ) → ((r : ℕ) → r < i → f r ≡ g r) → next_up f i o ≡ next_up g i o
next_same f g i None h = refl
next_same f g i (Some r) h = chosen (nat_lt r i) refl
  where
    chosen : (b : Bool) → nat_lt r i ≡ b → cond b (f r) i ≡ cond b (g r) i
    chosen true e = h r (below_of r i e)
    chosen false e = refl

next_low : (f : ℕ → ℕ) (i : ℕ) (o : Option ℕ) → ((r : ℕ) → f r ≤ r) → next_up f i o ≤ i
next_low f i None h = omega arith
next_low f i (Some r) h = chosen (nat_lt r i) refl
  where
    chosen : (b : Bool) → nat_lt r i ≡ b → cond b (f r) i ≤ i
    chosen true e = let low = below_of r i e in let more = h r in omega (arith, low, more)
    chosen false e = omega arith

module _ (above : ℕ → Option ℕ) (params : ℕ) where
  -- from a region upwards, so many steps at most
  abbrev top_up : ℕ → ℕ → ℕ
  top_up zero i = i
  top_up (suc n) i = cond (nat_le params i) (next_up (λ r. top_up n r) i (above i)) i

  abbrev top_told : ℕ → Option ℕ → Option (ℕ × ℕ)
  top_told i None = None
  top_told i (Some r) = Some (r, cond (nat_lt r i) (top_up i r) i)

  abbrev pub begun_by : ℕ → Option (ℕ × ℕ)
  begun_by i = top_told i (above i)

  -- more steps lead no further
  steady : (n m i : ℕ) → i < n → i < m → top_up n i ≡ top_up m i
  steady zero m i l h = absurd (omega (arith, l))
  steady (suc n) zero i l h = absurd (omega (arith, h))
  steady (suc n) (suc m) i l h = ap (λ k. cond (nat_le params i) k i)
      (next_same (λ r. top_up n r) (λ r. top_up m r) i (above i) (λ r low. steady n m r (omega (arith, low, l)) (omega (arith, low, h))))

  top_is : (n r : ℕ) → r < n → top_in params begun_by r ≡ top_up n r
  top_is zero r l = absurd (omega (arith, l))
  top_is (suc n) r l = ap (λ k. cond (nat_le params r) k r) (told_next (above r)
      ∙ next_same (λ q. top_up r q) (λ q. top_up n q) r (above r) (λ q low. steady r n q low (omega (arith, low, l))))
    where
      told_next : (o : Option ℕ) → top_behind r (top_told r o) ≡ next_up (λ q. top_up r q) r o
      told_next None = refl
      told_next (Some q) = refl

  top_below : (n i : ℕ) → top_up n i ≤ i
  top_below zero i = omega arith
  top_below (suc n) i = chosen (nat_le params i) (next_low (λ r. top_up n r) i (above i) (λ r. top_below n r))
    where
      chosen : (b : Bool) → next_up (λ r. top_up n r) i (above i) ≤ i → cond b (next_up (λ r. top_up n r) i (above i)) i ≤ i
      chosen true l = l
      chosen false l = omega arith

  told_none : (i : ℕ) (o : Option ℕ) → top_told i o ≡ None → o ≡ None
  told_none i None e = refl
  told_none i (Some r) e = absurd (none-some _ (sym e))

  told_same : (i : ℕ) (o : Option ℕ) (k : ℕ × ℕ) → top_told i o ≡ Some k → o ≡ Some k.0
  told_same i None k e = absurd (none-some k e)
  told_same i (Some r) k e = ap (λ (q : ℕ × ℕ). Some q.0) (same_Some _ k e)

  told_low : (i : ℕ) (o : Option ℕ) (k : ℕ × ℕ) → top_told i o ≡ Some k → k.1 ≤ i
  told_low i None k e = absurd (none-some k e)
  told_low i (Some r) k e = subst (λ (q : ℕ × ℕ). q.1 ≤ i) (same_Some _ k e) (next_low (λ q. top_up i q) i (Some r) (λ q. top_below i q))

  told_under : (i r : ℕ) → above i ≡ Some r → r < i → begun_by i ≡ Some (r, top_in params begun_by r)
  told_under i r e l =
      ap (top_told i) e ∙ ap (λ b. Some (r, cond b (top_up i r) i)) (lt-ltb r i l) ∙ ap (λ k. Some (r, k)) (sym (top_is i r l))

up_to : (y : Taking) (n i : ℕ) → LiesUp y i (top_up y.above y.params n i)
up_to y zero i = up_itself i
up_to y (suc n) i = chosen (nat_le y.params i) refl (y.above i) refl (λ r. up_to y n r)
  where
    inner : (r : ℕ) → y.params ≤ i → y.above i ≡ Some r → LiesUp y r (top_up y.above y.params n r) → (b : Bool) →
        LiesUp y i (cond b (top_up y.above y.params n r) i)
    inner r high e more true = up_part i r _ high e more
    inner r high e more false = up_itself i

    chosen : (b : Bool) → nat_le y.params i ≡ b → (o : Option ℕ) → y.above i ≡ o → ((r : ℕ) → LiesUp y r (top_up y.above y.params n r)) →
        LiesUp y i (cond b (next_up (λ r. top_up y.above y.params n r) i o) i)
    chosen true e None q more = up_itself i
    chosen true e (Some r) q more = inner r (leb-true y.params i e) q (more r) (nat_lt r i)
    chosen false e o q more = up_itself i

-- of each task
abbrev pub tops_of : Tree → Tops
tops_of tree t = begun_by (taking_of tree t).above (length t.params)

pub are_tops : (tree : Tree) (t : TaskTree) → AreTops (taking_of tree t) (length t.params) (tops_of tree t)
are_tops tree t =
    let y = taking_of tree t in record {
      wholly = λ i e. ap (top_told y.above y.params i) e;
      none = λ i e. told_none y.above y.params i (y.above i) e;
      under = told_under y.above y.params;
      same = λ i k e. told_same y.above y.params i (y.above i) k e;
      falls = λ i k e. told_low y.above y.params i (y.above i) k e;
      upwards = λ i. subst (LiesUp y i) (sym (top_is y.above y.params (suc i) i (omega arith))) (up_to y (suc i) i);
    }

-- where none began as a part
pub no_tops : (y : Taking) (t : TaskTree) → ((i : ℕ) → y.above i ≡ None) → AreTops y y.params (none_begun t)
no_tops y t none = record {
  wholly = λ i e. refl;
  none = λ i e. none i;
  under = λ i r e l. absurd (none-some r (sym (none i) ∙ e));
  same = λ i k e. absurd (none-some k e);
  falls = λ i k e. absurd (none-some k e);
  upwards = λ i. subst (LiesUp y i) (sym (top_none y.params i)) (up_itself i);
}
