-- Members of chains, and steps of accesses, one after the other.
use Rattle.std.proofs.Common.{◌≡◌, ◌<◌, ◌+◌, ℕ, List, ◌∷◌, drop, length, get_or, None, Option, refl, sym, ◌∙◌}
use Rattle.std.specs.Option.{option_or}
use Rattle.std.proofs.lemmas.List.{drop_more}
use Rattle.regent_tree.specs.Plain.{expression_of, links_in, steps_in}
use Rattle.regent_tree.specs.Scopes.{Scope}
use Rattle.regent_tree.specs.Syntax.{TaskTree, Tree}
use Rattle.regent_tree.specs.declared.expression.Link.{Link}
use Rattle.regent_tree.specs.declared.expression.Step.{At, Field, Step}
use Rattle.regent_tree.specs.declared.typing.StaticType.{StaticType}
use Rattle.check_rules.specs.first.FirstInExpressions.{first_in_expression, first_in_links, first_in_steps, first_of_operator, first_of_step}
use Rattle.check_rules.specs.types.KnownTypes.{known_type, known_type_after_links, known_type_after_operator, known_type_after_steps}
use Rattle.check_rules.specs.types.TypedForms.{element_of}
use Rattle.check_rules.specs.declared.rule.Rule.{Rule}
use Rattle.static_types.specs.declared.stop.Stop.{Stop}
use Rattle.static_types.specs.Telling.{IsTold}
use Rattle.static_types.proofs.Telling.{told_here}
use Rattle.check_expressions.specs.Steps.{computing_at, first_at_link, first_at_step, known_type_after}
use Rattle.plain_values.proofs.Plain.{option_or_assoc_left}

module _ (tree : Tree) (task : TaskTree) (s : Scope) where
  link_parts : (t : StaticType) (l : Link) (ls : List Link) →
      first_in_links tree task s t (links_in (l ∷ ls)) ≡ option_or (first_at_link tree task s t l)
      (first_in_links tree task s (known_type_after_operator (computing_at tree s t l)) (links_in ls))
  link_parts t l ls = option_or_assoc_left (first_in_expression tree task s (expression_of l.operand))
      (first_of_operator (computing_at tree s t l))
      (first_in_links tree task s (known_type_after_operator (computing_at tree s t l)) (links_in ls))

  pub links_on : (rest : List Link) (i : ℕ) (l : Link) (t u : StaticType) (total : Option Rule) →
      i < length rest → l ≡ get_or rest i l → first_at_link tree task s t l ≡ None →
      u ≡ known_type_after_operator (computing_at tree s t l) →
      first_in_links tree task s t (links_in (drop i rest)) ≡ total →
      first_in_links tree task s u (links_in (drop (i + 1) rest)) ≡ total
  links_on rest i l t u total lt is none known so_far =
      let here : first_in_links tree task s t (links_in (drop i rest))
      ≡ first_in_links tree task s u (links_in (drop (i + 1) rest)) =
      rw (drop_more rest i l lt, ← is, link_parts t l (drop (i + 1) rest), none, known) refl in
      sym here ∙ so_far

  pub after_links_on : (rest : List Link) (i : ℕ) (l : Link) (t u total : StaticType) →
      i < length rest → l ≡ get_or rest i l →
      u ≡ known_type_after_operator (computing_at tree s t l) →
      known_type_after_links tree s t (links_in (drop i rest)) ≡ total →
      known_type_after_links tree s u (links_in (drop (i + 1) rest)) ≡ total
  after_links_on rest i l t u total lt is known so_far =
      let here : known_type_after_links tree s t (links_in (drop i rest))
      ≡ known_type_after_links tree s u (links_in (drop (i + 1) rest)) =
      rw (drop_more rest i l lt, ← is, known) refl in
      sym here ∙ so_far

  pub links_stop : (rest : List Link) (i : ℕ) (l : Link) (t : StaticType) (stop : Stop) (total : Option Rule) →
      i < length rest → l ≡ get_or rest i l → IsTold stop (first_at_link tree task s t l) →
      first_in_links tree task s t (links_in (drop i rest)) ≡ total → IsTold stop total
  links_stop rest i l t stop total lt is told so_far =
      let here : first_in_links tree task s t (links_in (drop i rest)) ≡ option_or (first_at_link tree task s t l)
      (first_in_links tree task s (known_type_after_operator (computing_at tree s t l)) (links_in (drop (i + 1) rest))) =
      rw (drop_more rest i l lt, ← is) (link_parts t l (drop (i + 1) rest)) in
      rw (← so_far, here) (told_here stop (first_at_link tree task s t l) _ told)

  step_parts : (t : StaticType) (x : Step) (xs : List Step) →
      first_in_steps tree task s t (steps_in (x ∷ xs)) ≡ option_or (first_at_step tree task s t x)
      (first_in_steps tree task s (known_type_after tree s t x) (steps_in xs))
  step_parts t (Field f) xs = refl
  step_parts t (At e) xs = option_or_assoc_left (first_in_expression tree task s (expression_of e))
      (first_of_step tree task s (element_of t (known_type tree s (expression_of e))))
      (first_in_steps tree task s (known_type_after tree s t (At e)) (steps_in xs))

  after_step : (t : StaticType) (x : Step) (xs : List Step) →
      known_type_after_steps tree s t (steps_in (x ∷ xs))
      ≡ known_type_after_steps tree s (known_type_after tree s t x) (steps_in xs)
  after_step t (Field f) xs = refl
  after_step t (At e) xs = refl

  pub steps_on : (rest : List Step) (i : ℕ) (x : Step) (t u : StaticType) (total : Option Rule) →
      i < length rest → x ≡ get_or rest i x → first_at_step tree task s t x ≡ None →
      u ≡ known_type_after tree s t x →
      first_in_steps tree task s t (steps_in (drop i rest)) ≡ total →
      first_in_steps tree task s u (steps_in (drop (i + 1) rest)) ≡ total
  steps_on rest i x t u total lt is none known so_far =
      let here : first_in_steps tree task s t (steps_in (drop i rest))
      ≡ first_in_steps tree task s u (steps_in (drop (i + 1) rest)) =
      rw (drop_more rest i x lt, ← is, step_parts t x (drop (i + 1) rest), none, known) refl in
      sym here ∙ so_far

  pub after_steps_on : (rest : List Step) (i : ℕ) (x : Step) (t u total : StaticType) →
      i < length rest → x ≡ get_or rest i x → u ≡ known_type_after tree s t x →
      known_type_after_steps tree s t (steps_in (drop i rest)) ≡ total →
      known_type_after_steps tree s u (steps_in (drop (i + 1) rest)) ≡ total
  after_steps_on rest i x t u total lt is known so_far =
      let here : known_type_after_steps tree s t (steps_in (drop i rest))
      ≡ known_type_after_steps tree s u (steps_in (drop (i + 1) rest)) =
      rw (drop_more rest i x lt, ← is, after_step t x (drop (i + 1) rest), known) refl in
      sym here ∙ so_far

  pub steps_stop : (rest : List Step) (i : ℕ) (x : Step) (t : StaticType) (stop : Stop) (total : Option Rule) →
      i < length rest → x ≡ get_or rest i x → IsTold stop (first_at_step tree task s t x) →
      first_in_steps tree task s t (steps_in (drop i rest)) ≡ total → IsTold stop total
  steps_stop rest i x t stop total lt is told so_far =
      let here : first_in_steps tree task s t (steps_in (drop i rest)) ≡ option_or (first_at_step tree task s t x)
      (first_in_steps tree task s (known_type_after tree s t x) (steps_in (drop (i + 1) rest))) =
      rw (drop_more rest i x lt, ← is) (step_parts t x (drop (i + 1) rest)) in
      rw (← so_far, here) (told_here stop (first_at_step tree task s t x) _ told)
