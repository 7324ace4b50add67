-- What is told of declarations, list after list.
use Rattle.std.proofs.Common.{List, None, Option, Result, [], ◌++◌, ◌∷◌, ◌≡◌, ap, map, refl, subst, sym, ◌∙◌}
use Rattle.std.specs.Option.{option_or}
use Rattle.std.proofs.lemmas.List.{append-nil}
use Rattle.regent_tree.specs.Scopes.{bound_params}
use Rattle.regent_tree.specs.Syntax.{Tree}
use Rattle.regent_tree.specs.declared.types.Param.{Param}
use Rattle.regent_tree.specs.declared.typing.Bound.{Bound}
use Rattle.check_rules.specs.Breaches.{Breach}
use Rattle.check_rules.specs.types.Declarations.{params_bound}
use Rattle.check_rules.specs.types.Params.{params_beside}
use Rattle.check_rules.specs.first.FirstInItems.{first_of_said, first_of_saying}
use Rattle.check_rules.specs.first.Rules.{first_in}
use Rattle.check_rules.specs.scopes.Visits.{Declaration, declarations_in}
use Rattle.check_items.specs.Declaring.{declared_with}
use Rattle.check_items.specs.Halting.{IsToldAt, TellsAt}
use Rattle.check_items.specs.declared.halt.Halt.{Halt}
use Rattle.check_items.specs.declared.halt.Halt.TheVariants.{Breach as at_line, Memory}
use Rattle.check_rules.proofs.Written.{bound_written}
use Rattle.plain_values.proofs.Plain.{option_or_assoc}

-- the same of the one and of the other names
module _ (written beside names : List Bound) (f : Declaration → Option Breach) (same : (p : Param) → f (record { written = names; names = names; param = p }) ≡ f (record { written = written; names = beside; param = p })) where
  alike : (all : List Param) → first_in f (declared_with names all)
      ≡ first_in f (map (λ (p : Param). record { written = written; names = beside; param = p }) all)
  alike [] = refl
  alike (p ∷ ps) = λ j. option_or (same p j) (alike ps j)

  split : (xs ys : List Param) →
      option_or (first_in f (declared_with names xs)) (first_in f (declared_with names ys))
      ≡ first_in f (map (λ (p : Param). record { written = written; names = beside; param = p }) (xs ++ ys))
  split [] ys = alike ys
  split (p ∷ ps) ys = option_or_assoc (f (record { written = names; names = names; param = p })) (first_in f (declared_with names ps)) (first_in f (declared_with names ys))
      ∙ (λ j. option_or (same p j) (split ps ys j))

pub saying_split : (tree : Tree) (names : List Bound) (params more : List Param) →
    names ≡ bound_params tree params 0 params →
    option_or (first_in (first_of_saying tree) (declared_with names params)) (first_in (first_of_saying tree) (declared_with names more))
    ≡ first_in (first_of_saying tree) (declarations_in tree params (params ++ more))
saying_split tree names params more e =
    ap (λ ns. option_or (first_in (first_of_saying tree) (declared_with ns params)) (first_in (first_of_saying tree) (declared_with ns more))) e
    ∙ (let written = bound_params tree params 0 params in
    split written (params_beside tree params) written (first_of_saying tree) (λ p. refl) params more)

pub said_split : (tree : Tree) (params more : List Param) →
    option_or (first_in (first_of_said tree) (declared_with (params_beside tree params) params))
    (first_in (first_of_said tree) (declared_with (params_beside tree params) more))
    ≡ first_in (first_of_said tree) (declarations_in tree params (params ++ more))
said_split tree params more = let names = params_beside tree params in
    split (bound_params tree params 0 params) names names (first_of_said tree) (λ p. refl) params more

-- what is told of the first of two is told of both
pub told_here : (h : Halt) (a b c : Option Breach) → option_or a b ≡ c → IsToldAt h a → IsToldAt h c
told_here (at_line r line) a b c e told = sym e ∙ ap (λ o. option_or o b) told
told_here (Memory error) a b c e told = tt

-- what is told where nothing is told before
pub told_after : {A : Type 0} (Found : A → Type 0) (r : Result A Halt) (a b : Option Breach) (rest : List Bound → Option Breach)
    (names bound : List Bound) → option_or a b ≡ None → names ≡ bound → TellsAt Found r (rest names) →
    TellsAt Found r (option_or a (option_or b (rest bound)))
told_after Found r a b rest names bound none same h =
    subst (TellsAt Found r)
    (ap rest same ∙ sym (ap (λ o. option_or o (rest bound)) none) ∙ option_or_assoc a b (rest bound)) h

-- parameters with nothing more
pub params_alone : (tree : Tree) (params : List Param) →
    declarations_in tree params (params ++ []) ≡ declarations_in tree params params
params_alone tree params = ap (declarations_in tree params) (append-nil params)

pub params_written : (tree : Tree) (params : List Param) →
    first_in (first_of_saying tree) (declarations_in tree params params) ≡ None →
    first_in (first_of_said tree) (declarations_in tree params params) ≡ None →
    params_bound tree params ≡ bound_params tree params 0 params
params_written tree params e f = bound_written tree params []
    (ap (first_in (first_of_saying tree)) (params_alone tree params) ∙ e)
    (ap (first_in (first_of_said tree)) (params_alone tree params) ∙ f)
