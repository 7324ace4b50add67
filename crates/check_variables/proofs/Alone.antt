-- What stands behind a name, and behind the first member of a chain.
use Rattle.std.proofs.Common.{◌≡◌, false, List, [], ◌∷◌, None, Some, get_or, length, refl, ap, sym}
use Rattle.regent_tree.specs.Plain.{expression_of, links_in, steps_in}
use Rattle.regent_tree.specs.Syntax.{Name, Steps, a_link, access_expr, at_step, field_step, no_link, no_step, plain_initializer}
use Rattle.regent_tree.specs.declared.expression.Arithmetic.TheVariants.{Add, Divide, Multiply, Remainder, Subtract}
use Rattle.regent_tree.specs.declared.expression.Link.{Link}
use Rattle.regent_tree.specs.declared.expression.Operator.{Operator}
use Rattle.regent_tree.specs.declared.expression.Operator.TheVariants.{And, Compare, Compute, Or}
use Rattle.regent_tree.specs.declared.expression.Step.{At, Field, Step}
use Rattle.check_rules.specs.rules.Places.{begins_region}
use Rattle.check_variables.specs.Differences.{is_one_place, is_place, name_alone, name_taken_off}

pub alone_without : (n : Name) (steps : List Step) → length steps ≡ 0 →
    name_alone (access_expr n (steps_in steps)) ≡ Some n
alone_without n [] h = refl
alone_without n (x ∷ rest) h = absurd cc

pub alone_with : (n : Name) (steps : List Step) → (length steps ≡ 0 → ⊥) →
    name_alone (access_expr n (steps_in steps)) ≡ None
alone_with n [] h = absurd (h refl)
alone_with n (Field f ∷ rest) h = refl
alone_with n (At e ∷ rest) h = refl

pub one_place : (n : Name) (steps : Steps) →
    is_one_place steps ≡ begins_region (plain_initializer (access_expr n steps))
one_place n no_step = refl
one_place n (field_step f rest) = refl
one_place n (at_step e no_step) = refl
one_place n (at_step e (field_step f rest)) = refl
one_place n (at_step e (at_step d rest)) = refl

pub other_steps : (steps : List Step) → (length steps ≡ 1 → ⊥) → is_one_place (steps_in steps) ≡ false
other_steps [] h = refl
other_steps (Field f ∷ rest) h = refl
other_steps (At e ∷ []) h = absurd (h refl)
other_steps (At e ∷ Field f ∷ rest) h = refl
other_steps (At e ∷ At d ∷ rest) h = refl

pub one_step : (steps : List Step) (x : Step) → length steps ≡ 1 → x ≡ get_or steps 0 x →
    is_one_place (steps_in steps) ≡ is_place x
one_step [] x h e = absurd cc
one_step (Field f ∷ []) x h e = rw e refl
one_step (At d ∷ []) x h e = rw e refl
one_step (y ∷ z ∷ rest) x h e = absurd cc

pub other_links : (links : List Link) → (length links ≡ 1 → ⊥) → name_taken_off (links_in links) ≡ None
other_links [] h = refl
other_links (l ∷ []) h = absurd (h refl)
other_links (l ∷ m ∷ rest) h = after l.operator
  where
    after : (o : Operator) → name_taken_off (a_link o (expression_of l.operand)
        (a_link m.operator (expression_of m.operand) (links_in rest))) ≡ None
    after Or = refl
    after And = refl
    after (Compare c) = refl
    after (Compute Add) = refl
    after (Compute Subtract) = refl
    after (Compute Multiply) = refl
    after (Compute Divide) = refl
    after (Compute Remainder) = refl

pub one_link : (links : List Link) (l : Link) → length links ≡ 1 → l ≡ get_or links 0 l →
    name_taken_off (links_in links) ≡ name_taken_off (a_link l.operator (expression_of l.operand) no_link)
one_link [] l h e = absurd cc
one_link (k ∷ []) l h e = ap (λ (m : Link). name_taken_off (a_link m.operator (expression_of m.operand) no_link)) (sym e)
one_link (k ∷ m ∷ rest) l h e = absurd cc
