-- A region that was made shares no point with one that was bound before it: so it is derived of the regions within which they lie, and
-- which began as no parts.
use Rattle.std.proofs.Common.{◌≡◌, ℕ, ◌<◌, ◌≤◌, List, Bool, true, false, None, Option, Some, refl, sym, ◌∙◌, subst, arith}
use Rattle.std.specs.Prelude.{cond, nat_le}
use Rattle.regent_tree.proofs.Members.{Contains-from_Has, Has}
use Rattle.regent_tree.specs.declared.facts.Colour.{Colour}
use Rattle.regent_tree.specs.declared.facts.Known.{Known}
use Rattle.regent_tree.specs.declared.facts.Known.TheVariants.{Made, PartOf, Within}
use Rattle.regent_tree.specs.declared.facts.Term.TheVariants.{Name, Child}
use Rattle.constraint_check.specs.Derivations.{IsApart, made}
use Rattle.fit_rules.specs.Shapes.{Among}
use Rattle.fit_rules.specs.Marks.{Fact, Mark}
use Rattle.sound_code.proofs.Grounds.{high_top, IsTold, tells_made, top_behind, top_in}

module _ (n params : ℕ) (up : ℕ → Option (ℕ × ℕ)) (ks : List Fact) (m : Mark) (known : List Known)
    (facts : (k : Fact) → Among ks k → Among m.facts k) (told : (k : Known) → Has known k → IsTold params up ks k)
    (begins : (i p : ℕ) (c : Colour) → Has known (Within (Name i) (Child p c)) → (r : ℕ) (d : Bool) → Has known (PartOf p r d) →
    up i ≡ Some (r, top_in params up r)) (falls : (i : ℕ) (k : ℕ × ℕ) → up i ≡ Some k → k.1 ≤ i) where
  top_low : (r : ℕ) → top_in params up r ≤ r
  top_low r = of (nat_le params r) (up r) refl
    where
      of : (b : Bool) (o : Option (ℕ × ℕ)) → up r ≡ o → cond b (top_behind r o) r ≤ r
      of true None e = omega arith
      of true (Some k) e = falls r k e
      of false o e = omega arith

  pub of_made : (s r : ℕ) → IsTold params up ks (Made s) → Has known (Made s) → r < s → (i j : ℕ) → top_in params up s ≡ i → top_in params up r ≡ j →
      IsApart known (Name i) (Name j)
  of_made _ r (tells_made s high e) h l i j si sj =
      let low = top_low r in
      subst (λ n. IsApart known (Name n) (Name j)) (sym (high_top params up s None high e) ∙ si)
      (made (Contains-from_Has known (Made s) h) (omega (arith, l, low, sj)))
