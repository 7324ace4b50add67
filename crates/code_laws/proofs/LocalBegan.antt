-- Where it is derived of two regions that the one lies within the other, its binding lies below the other's.
use Rattle.std.proofs.Common.{◌≡◌, ℕ, true, inl, inr, Some, sym, ap, ◌∙◌, subst, ⊎_elim}
use Rattle.check_laws.specs.SoundScopes.{Falls}
use Rattle.regent_tree.specs.Facts.{is_subregion}
use Rattle.regent_tree.specs.Scopes.{bound_as}
use Rattle.regent_tree.specs.Syntax.{TaskTree}
use Rattle.regent_tree.specs.declared.facts.Term.{Term}
use Rattle.regent_tree.specs.declared.facts.Term.TheVariants as term
use Rattle.regent_tree.specs.declared.typing.Bound.{Bound}
use Rattle.code_rules.specs.Slots.{Where}
use Rattle.code_laws.specs.Arguments.{BeganWithin, IsPart, LiesBelow}
use Rattle.code_laws.specs.Handing.{taking_of}
use Rattle.code_laws.specs.Simple.{term_in}
use Rattle.code_laws.specs.Steps.{Taking}
use Rattle.code_laws.proofs.KnownHeads.{KnowsHead}
use Rattle.code_laws.proofs.KnownParts.{Began, IsWithin, name_within}

module _ (task : TaskTree) (w : Where) (head : KnowsHead w.tree task w.scope) (falls : Falls w.scope.next w.scope.names) where
  abbrev y : Taking
  y = taking_of w.tree task

  pub began_within : (i j : ℕ) (r : Term) (b : Bound) → r ≡ term.Name i → bound_as w.scope.names j ≡ b → term_in b.static_type ≡ term.Name j →
      Began w.tree task w.scope head i j → BeganWithin y w r b
  began_within i j r b ra fb tb is = record {
    numbers = falls;
    number = i;
    named = ra;
    behind = is.high;
    whole = is.whole;
    began = is.above;
    upper = is.upper;
    up = is.up;
    ends = ⊎_elim
        (λ same. inl (ap (λ k. (bound_as w.scope.names k).place) same ∙ ap (λ (c : Bound). c.place) fb))
        (λ part. inr (subst (IsPart y (term.Name is.upper)) (sym tb) part)) is.ends;
  }

  pub below_told : (i j : ℕ) (a b : Bound) → bound_as w.scope.names i ≡ a → bound_as w.scope.names j ≡ b →
      term_in a.static_type ≡ term.Name i → term_in b.static_type ≡ term.Name j → is_subregion w.scope.known (term.Name i) (term.Name j) ≡ true →
      LiesBelow (Some y) w a b
  below_told i j a b fa fb ta tb e = by (name_within w.tree task w.scope head i j e)
    where
      by : IsWithin w.tree task w.scope head i j → LiesBelow (Some y) w a b
      by (inl number) = inl (sym (ap (λ (c : Bound). c.place) fa) ∙ ap (λ k. (bound_as w.scope.names k).place) (sym number) ∙ ap (λ (c : Bound). c.place) fb)
      by (inr (inl part)) = inr (inl (subst (λ u. IsPart y u (term_in b.static_type)) (sym ta) (subst (IsPart y (term.Name i)) (sym tb) part)))
      by (inr (inr began)) = inr (inr (began_within i j (term_in a.static_type) b ta fb tb began))
