-- What names in scope are, from place to place of a body: the arguments of their types are as their field spaces declare.
use Rattle.std.proofs.Common.{◌≡◌, List, [], ◌∷◌, None, Option, true, inl, refl, arith}
use Rattle.std.specs.Prelude.{length}
use Rattle.std.specs.List.{All}
use Rattle.std.proofs.lemmas.List.Elements.{All-cons, All-nil}
use Rattle.regent_tree.specs.Limits.{KeepsLimit, Part, parts_of_expression, parts_of_form}
use Rattle.regent_tree.specs.Running.{Here, broke}
use Rattle.regent_tree.specs.Scopes.{Scope, scope_of, with_name}
use Rattle.regent_tree.specs.Syntax.{Expression, Initializer, Name, TaskTree, Tree, var_form}
use Rattle.regent_tree.specs.Typing.{result_type, scope_after, taken_from, type_of}
use Rattle.regent_tree.specs.declared.outcome.FaultKind.TheVariants.{Depth}
use Rattle.regent_tree.specs.declared.types.TypeTerm.{TypeTerm}
use Rattle.regent_tree.specs.declared.typing.Bound.{Bound}
use Rattle.regent_tree.specs.declared.typing.StaticType.{StaticType}
use Rattle.check_laws.specs.SoundScopes.{IsSoundScope}
use Rattle.check_rules.specs.first.FirstInExpressions.{first_in_expression}
use Rattle.check_rules.specs.first.FirstInStatements.{first_of_form}
use Rattle.check_rules.specs.scopes.Sound.{IsSound, IsSoundTask}
use Rattle.statement_laws.specs.Steady.{ArePlaced}
use Rattle.value_laws.specs.Shapes.{IsRootOfSpace}
use Rattle.value_laws.specs.Spaces.{HasSpacedDeclarations, IsSpaced}
use Rattle.value_laws.proofs.Spaced.{no_arguments}
use Rattle.value_laws.proofs.Types.{type_spaced}
use Rattle.state_laws.specs.Going.{IsPlaceOfRun}
use Rattle.state_laws.proofs.Growing.{spaced_new, spaced_stays, stays_bound}
use Rattle.state_laws.proofs.Items.{taken_spaced}
use Rattle.state_laws.proofs.VariableTypes.{variable_spaced}
use Rattle.code_laws.specs.Handing.{told_in}
use Rattle.code_laws.proofs.Told.{ToldUpTo}
use Rattle.code_laws.specs.Simple.{IsScalar, scalar_integer, scalar_truth}
use Rattle.code_laws.proofs.KnownHeads.{KnowsFacts, KnowsHead}
use Rattle.code_laws.proofs.Openings.{AreFrom, params_from}
use Rattle.code_laws.proofs.Typing.{AreKept, kept_behind}

-- ---- where a body begins

from_placed : (bs : List Bound) → AreFrom 0 bs → ArePlaced bs
from_placed [] f = tt
from_placed (b ∷ bs) f = (omega (arith, f.0), from_placed bs f.1)

pub params_placed : (tree : Tree) (t : TaskTree) → ArePlaced (scope_of tree t).names
params_placed tree t = from_placed (scope_of tree t).names (params_from tree t.params 0 t.params)

-- ---- behind a statement

all_kept : (ps : List Part) → AreKept ps → All KeepsLimit ps
all_kept [] k = All-nil KeepsLimit
all_kept (p ∷ ps) k = All-cons KeepsLimit p ps (k p (inl refl)) (all_kept ps (kept_behind p ps k))

module _ (tree : Tree) (task : TaskTree) (sound : IsSound tree) (sound_task : IsSoundTask tree task) (declared : HasSpacedDeclarations tree) where
  -- a place of the text, for laws on what stands there; nothing runs
  abbrev here : Scope → Here
  here s = record {
    tree = tree;
    calls = λ line name vs store. broke (record { kind = Depth; line = line }) [];
    scope = s;
    result = result_type tree task.result;
    line = 0;
  }

  place_here : (s : Scope) → IsSoundScope s → KnowsHead tree task s → IsPlaceOfRun task [] (here s)
  place_here s scope head = record {
    place = record {
      sound = sound;
      declared = declared;
      scope = scope;
      spaced = head.spaced;
      rooted = All-nil (IsRootOfSpace tree);
      answers = λ roots line name vs store rooted fits are. tt;
    };
    placed = head.placed;
    result = refl;
    sound_result = sound_task.result;
  }

  -- what an expression gives
  pub expression_spaced : (s : Scope) (e : Expression) → IsSoundScope s → KnowsHead tree task s → AreKept (parts_of_expression e) →
      first_in_expression tree task s e ≡ None → IsSpaced tree s.names (type_of tree s e)
  expression_spaced s e scope head k none = type_spaced task [] (here s) (place_here s scope head).place e (all_kept (parts_of_expression e) k) none

  -- behind a variable
  pub head_after : (s : Scope) (n : Name) (t : Option TypeTerm) (i : Option Initializer) → IsSoundScope s → KnowsHead tree task s →
      first_of_form tree task s (var_form n t i) ≡ None → AreKept (parts_of_form (var_form n t i)) → KnowsFacts tree task (scope_after tree s (var_form n t i)) →
      ToldUpTo (told_in tree task) (scope_after tree s (var_form n t i)) → KnowsHead tree task (scope_after tree s (var_form n t i))
  head_after s n t i scope head none k facts told = record {
    facts = facts;
    spaced = variable_spaced task [] (here s) (place_here s scope head) n t i none (all_kept (parts_of_form (var_form n t i)) k);
    placed = (refl, head.placed);
    told = told;
  }

  -- where the body of a loop begins, of which the variable's type is so
  loop_begins : (s : Scope) (n : Name) (t : StaticType) → IsSoundScope s → KnowsHead tree task s → IsSpaced tree s.names t →
      KnowsFacts tree task (with_name s n t true) → ToldUpTo (told_in tree task) (with_name s n t true) → KnowsHead tree task (with_name s n t true)
  loop_begins s n t scope head spaced facts told =
      let b : Bound = record { name = n; number = s.next; place = length s.names; static_type = t; by_loop = true } in record {
        facts = facts;
        spaced = spaced_new tree s.next s.names b scope.numbers refl head.spaced
            (spaced_stays s.names (b ∷ s.names) (stays_bound s.next s.names b scope.numbers refl) tree t spaced);
        placed = (refl, head.placed);
        told = told;
      }

  -- of one over a region or an index space
  pub head_in_loop : (s : Scope) (n : Name) (domain : Expression) → IsSoundScope s → KnowsHead tree task s →
      first_in_expression tree task s domain ≡ None → AreKept (parts_of_expression domain) →
      KnowsFacts tree task (with_name s n (taken_from (type_of tree s domain)) true) →
      ToldUpTo (told_in tree task) (with_name s n (taken_from (type_of tree s domain)) true) → KnowsHead tree task (with_name s n (taken_from (type_of tree s domain)) true)
  head_in_loop s n domain scope head none k facts told = loop_begins s n (taken_from (type_of tree s domain)) scope head
      (taken_spaced tree s.names (type_of tree s domain) (expression_spaced s domain scope head k none)) facts told

  scalar_spaced : (s : Scope) (t : StaticType) → IsScalar t → IsSpaced tree s.names t
  scalar_spaced s _ (scalar_integer w) = no_arguments tree s.names _ tt
  scalar_spaced s _ scalar_truth = no_arguments tree s.names _ tt

  -- and of one over numbers
  pub head_in_count : (s : Scope) (n : Name) (t : StaticType) → IsSoundScope s → KnowsHead tree task s → IsScalar t →
      KnowsFacts tree task (with_name s n t true) → ToldUpTo (told_in tree task) (with_name s n t true) → KnowsHead tree task (with_name s n t true)
  head_in_count s n t scope head scalar facts told = loop_begins s n t scope head (scalar_spaced s t scalar) facts told
