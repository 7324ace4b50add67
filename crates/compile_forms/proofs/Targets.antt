-- A target is what its last step takes of what stands before.
use Rattle.std.proofs.Common.{◌≡◌, List, [], ◌∷◌, ◌++◌, refl, ap, ◌∙◌}
use Rattle.regent_tree.specs.Execution.{before_last, last_field}
use Rattle.regent_tree.specs.Plain.{step_before, steps_in}
use Rattle.regent_tree.specs.Syntax.{Name}
use Rattle.regent_tree.specs.declared.expression.Step.{At, Field, Step}
use Rattle.regent_tree.specs.declared.statement.How.{How}
use Rattle.code_rules.specs.Assignments.{target_code}
use Rattle.code_rules.specs.Slots.{Where}
use Rattle.compile_forms.specs.Targets.{field_in, held_code}

abbrev Ends : List Step → Step → Type 0
Ends front last = (before_last (steps_in (front ++ last ∷ [])) ≡ steps_in front)
    × (last_field (steps_in (front ++ last ∷ [])) ≡ field_in last)

-- a step before others that aren't none
before_some : (s : Step) (rest : List Step) (x : Step) (more : List Step) → rest ≡ x ∷ more →
    (before_last (step_before s (steps_in rest)) ≡ step_before s (before_last (steps_in rest)))
    × (last_field (step_before s (steps_in rest)) ≡ last_field (steps_in rest))
before_some (Field f) rest (Field g) more e = rw e (refl, refl)
before_some (Field f) rest (At d) more e = rw e (refl, refl)
before_some (At c) rest (Field g) more e = rw e (refl, refl)
before_some (At c) rest (At d) more e = rw e (refl, refl)

ends : (front : List Step) (last : Step) → Ends front last
ends [] (Field f) = (refl, refl)
ends [] (At e) = (refl, refl)
ends (s ∷ []) last = let inner = ends [] last in let step = before_some s (last ∷ []) last [] refl in
    (step.0 ∙ ap (step_before s) inner.0, step.1 ∙ inner.1)
ends (s ∷ t ∷ front) last = let inner = ends (t ∷ front) last in
    let step = before_some s (t ∷ front ++ last ∷ []) t (front ++ last ∷ []) refl in
    (step.0 ∙ ap (step_before s) inner.0, step.1 ∙ inner.1)

target_ends : (w : Where) (n : Name) (front : List Step) (last : Step) (h : How) →
    target_code w n (steps_in (front ++ last ∷ [])) h
    ≡ held_code w n (before_last (steps_in (front ++ last ∷ []))) (last_field (steps_in (front ++ last ∷ []))) h
target_ends w n [] (Field f) h = refl
target_ends w n [] (At e) h = refl
target_ends w n (Field g ∷ front) last h = refl
target_ends w n (At d ∷ front) last h = refl

pub held : (w : Where) (n : Name) (steps front : List Step) (last : Step) (h : How) → steps ≡ front ++ last ∷ [] →
    target_code w n (steps_in steps) h ≡ held_code w n (steps_in front) (field_in last) h
held w n steps front last h e = let end = ends front last in
    rw (e, target_ends w n front last h, end.0, end.1) refl
