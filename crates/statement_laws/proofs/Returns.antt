-- What a body returns is of the task's result type.
use Rattle.std.proofs.Common.{List, [], None, Option, Some, false, true, ◌≡◌}
use Rattle.std.specs.Prelude.{is_none, is_some}
use Rattle.regent_tree.specs.Accesses.{converted, standing}
use Rattle.regent_tree.specs.Running.{Here, State}
use Rattle.regent_tree.specs.Scopes.{Scope}
use Rattle.regent_tree.specs.Syntax.{Tree}
use Rattle.regent_tree.specs.Typing.{result_type}
use Rattle.regent_tree.specs.Values.{Value, a_truth}
use Rattle.regent_tree.specs.declared.facts.Known.{Known}
use Rattle.regent_tree.specs.declared.types.NumberTerm.TheVariants as number
use Rattle.regent_tree.specs.declared.types.TypeTerm.{TypeTerm}
use Rattle.regent_tree.specs.declared.types.TypeTerm.TheVariants as typed_as
use Rattle.regent_tree.specs.declared.typing.StaticType.{StaticType}
use Rattle.regent_tree.specs.declared.typing.StaticType.TheVariants.{Index as index_type, Integer as integer_type, Ispace as ispace_type, Nothing as no_type, Partition as partition_type, Pointer as pointer_type, Region as region_type, Truth as truth_type, Unknown as unknown_type}
use Rattle.check_rules.specs.rules.Statements.{known_result}
use Rattle.check_rules.specs.types.Declarations.{is_no_result_type}
use Rattle.check_rules.specs.types.Fitting.{fits}
use Rattle.check_rules.specs.types.Sorts.{is_unknown_type}
use Rattle.check_laws.proofs.Parts.{contrary}
use Rattle.fact_laws.specs.Regions.{Interpretation}
use Rattle.expression_laws.proofs.Operators.{after, standing_any}
use Rattle.expression_laws.specs.Kinds.{IsOfType, is_index, is_nothing, is_number, is_truth}
use Rattle.expression_laws.specs.Sound.{Instance, IsSoundState, KeepsSound}

pub truth_from : (m : Interpretation) (known : List Known) (from : StaticType) (v : Value) → is_unknown_type from ≡ false → fits known from truth_type ≡ true →
    IsOfType m from v → IsOfType m truth_type v
truth_from m known truth_type v k e is = is
truth_from m known (integer_type w) v k e is = absurd cc
truth_from m known (index_type j) v k e is = absurd cc
truth_from m known (pointer_type j s args terms) v k e is = absurd cc
truth_from m known (ispace_type j) v k e is = absurd cc
truth_from m known (region_type j s args t) v k e is = absurd cc
truth_from m known (partition_type d r p) v k e is = absurd cc
truth_from m known no_type v k e is = absurd cc
truth_from m known unknown_type v k e is = absurd cc

pub nothing_returned : (tree : Tree) (r : Option TypeTerm) → is_some r ≡ false → (m : Interpretation) → IsOfType m (result_type tree r) (a_truth false)
nothing_returned tree None e m = is_nothing
nothing_returned tree (Some t) e m = absurd cc

truth_anywhere : (m : Interpretation) (v : Value) → IsOfType m truth_type v → (b : Interpretation) → IsOfType b truth_type v
truth_anywhere m v is_truth b = is_truth

-- a value that is converted to the type of a result, which it fits, is of that type
pub returned_is : (x : Instance) (m : Interpretation) (s : Scope) (h : Here) (r : Option TypeTerm) (from : StaticType) (v : Value) (u : State) → is_no_result_type r ≡ false → is_none r ≡ false → is_unknown_type from ≡ false →
    fits h.scope.known from (known_result h.tree r) ≡ true → IsOfType m from v → IsSoundState x m s u →
    KeepsSound x m s (λ a. (b : Interpretation) → IsOfType b (result_type h.tree r) a) (converted h from (result_type h.tree r) [] v u)
returned_is x m s h None from v u e some l fit is st = absurd (contrary some)
returned_is x m s h (Some (typed_as.Number number.Int32)) from v u e some l fit is st = (st, λ b. is_number)
returned_is x m s h (Some (typed_as.Number number.Int64)) from v u e some l fit is st = (st, λ b. is_number)
returned_is x m s h (Some (typed_as.Number (number.Index k))) from v u e some l fit is st =
    after (λ a. (b : Interpretation) → IsOfType b (index_type k) a) (standing h v u) _ (standing_any x m s h v u st) (λ a w st is. (st, λ b. is_index))
returned_is x m s h (Some typed_as.Truth) from v u e some l fit is st = (st, truth_anywhere m v (truth_from m h.scope.known from v l fit is))
returned_is x m s h (Some (typed_as.Pointer p)) from v u e some l fit is st = absurd (contrary e)
returned_is x m s h (Some (typed_as.Ispace k)) from v u e some l fit is st = absurd (contrary e)
returned_is x m s h (Some (typed_as.Region k q)) from v u e some l fit is st = absurd (contrary e)
returned_is x m s h (Some (typed_as.Partition d q c)) from v u e some l fit is st = absurd (contrary e)
