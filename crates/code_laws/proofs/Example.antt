-- The premises of the law hold of a program.
use Rattle.std.proofs.Common.{◌≤◌, [], ◌∷◌, refl, arith}
use Rattle.std.proofs.lemmas.Int.{ints}
use Rattle.std.proofs.lemmas.List.Elements.{All-cons, All-nil}
use Rattle.regent_tree.specs.declared.limits.Counted.TheVariants.{Parameters, Spaces, Tasks}
use Rattle.regent_tree.specs.Limits.{KeepsLimit, counted, node}
use Rattle.code_laws.specs.Example.{ExampleHolds}

one_task : 1 ≤ 256
one_task = omega (arith)

no_space : 0 ≤ 256
no_space = omega (arith)

one_parameter : 1 ≤ 16
one_parameter = omega (arith)

pub example_holds : ExampleHolds
example_holds = record {
  within = record {
    each = All-cons KeepsLimit (counted Tasks 1) (counted Spaces 0 ∷ counted Parameters 1 ∷ node ∷ node ∷ []) one_task (All-cons KeepsLimit (counted Spaces 0) (counted Parameters 1 ∷ node ∷ node ∷ []) no_space
        (All-cons KeepsLimit (counted Parameters 1) (node ∷ node ∷ []) one_parameter
        (All-cons KeepsLimit node (node ∷ []) tt (All-cons KeepsLimit node [] tt (All-nil KeepsLimit)))));
    nodes = omega (arith);
  };
  accepted = refl;
  scalar = refl;
  numbers = (omega (arith, ints), tt);
}
