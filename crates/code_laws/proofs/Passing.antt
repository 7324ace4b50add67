-- What is given to a parameter is converted to its type at the call: a pointer's positions become those of the arguments.
use Rattle.std.proofs.Common.{ℕ, List, [], subst}
use Rattle.std.specs.Prelude.{length}
use Rattle.regent_tree.specs.Accesses.{converted}
use Rattle.regent_tree.specs.Running.{Here, State}
use Rattle.regent_tree.specs.Store.{Store}
use Rattle.regent_tree.specs.Typing.{positions}
use Rattle.regent_tree.specs.Values.{Value}
use Rattle.regent_tree.specs.declared.typing.StaticType.{StaticType}
use Rattle.machine_terms.specs.declared.order.Instance.{Instance}
use Rattle.machine_terms.specs.declared.value.Value.{Value as MachineValue}
use Rattle.code_rules.specs.Instructions.{converted_code}
use Rattle.code_rules.specs.Pieces.{past}
use Rattle.value_laws.specs.Shapes.{IsPosition}
use Rattle.code_laws.specs.Pointers.{Passes, a_pointer_type, passes_plain, passes_pointer}
use Rattle.code_laws.specs.Standing.{Agrees, Aside, Comes, IsInside, IsOf, SlotsFit, Stands, of_pointer, where_of}
use Rattle.code_laws.specs.Steps.{Setting}
use Rattle.code_laws.proofs.Counting.{into_runs}
use Rattle.code_laws.proofs.Good.{Good, valued}
use Rattle.code_laws.proofs.Moving.{move_runs, positions_many, positions_small}
use Rattle.code_laws.proofs.Values.{simple_inside}
use Rattle.code_laws.proofs.Wider.{into_simple}

-- it is of the parameter's own type
pub passed_typed : (t u p : StaticType) (v : Value) → Passes t u p → IsOf u v → IsOf p v
passed_typed t _ _ v (passes_plain _ u goes) o = o
passed_typed _ _ _ _ (passes_pointer _ k sp args brgs rs qs n e) (of_pointer _ _ _ _ tg regions o) =
    of_pointer k sp args rs tg regions (subst (λ m. IsPosition m tg) e o)

pub passed_inside : (x : Setting) (store : Store) (t u p : StaticType) (v : Value) → Passes t u p → IsOf u v → IsInside x store u v
passed_inside x store t _ _ v (passes_plain _ u goes) o = simple_inside x store u v (into_simple t u goes)
passed_inside x store _ _ _ _ (passes_pointer _ k sp args brgs rs qs n e) (of_pointer _ _ _ _ tg regions o) = tt

module _ (x : Setting) (params slots : ℕ) (fit : SlotsFit x slots) {deep : ℕ} (aside : Aside deep) where
  pub passed_runs : (h : Here) (t u p : StaticType) (v : Value) (s : State) (pc : ℕ) (st : List MachineValue) (i : Instance) → Passes t u p → IsOf t v →
      Agrees x params slots aside h s i → Stands x.body pc (converted_code (where_of params h) t u) →
      Comes x (valued pc st v i) (valued (past (converted_code (where_of params h) t u) pc) st)
      (Good x params slots fit aside h u) (converted h t u [] v s)
  passed_runs h t _ _ v s pc st i (passes_plain _ u goes) o g f = into_runs x params slots fit aside h t u [] v s pc st i goes o g f
  passed_runs h _ _ _ _ s pc st i (passes_pointer _ k sp args brgs rs qs (a_pointer_type j sq crgs us n) e) (of_pointer _ _ _ _ tg regions o) g f =
      move_runs x params slots fit aside h (positions h.scope.known us qs) (length us) k sp brgs qs tg [] s pc st i (positions_many h.scope.known us qs)
      (positions_small h.scope.known us qs) o g f
