-- The code of `printf` writes what the statement writes.
use Rattle.std.proofs.Common.{subst}
use Rattle.machine_terms.specs.declared.order.Contents.{Contents}
use Rattle.machine_terms.specs.Contents.{no_contents}
use Rattle.std.proofs.Common.{◌≡◌, ℕ, suc, ◌≤◌, List, [], ◌∷◌, ◌++◌, Some, refl, sym, ap, ◌∙◌}
use Rattle.std.specs.Prelude.{length, map}
use Rattle.check_rules.specs.rules.Formats.{numbers_in}
use Rattle.regent_tree.specs.Evaluation.{value, values}
use Rattle.regent_tree.specs.Execution.{changing}
use Rattle.regent_tree.specs.Printing.{printed}
use Rattle.regent_tree.specs.Running.{Here, State}
use Rattle.regent_tree.specs.Syntax.{Expressions, an_expr, no_expr}
use Rattle.regent_tree.specs.Values.{Value, number_of}
use Rattle.regent_tree.specs.declared.typing.StaticType.{StaticType}
use Rattle.task_code.specs.declared.instr.Instr.TheVariants as instr
use Rattle.machine_terms.specs.declared.order.Instance.{Instance}
use Rattle.machine_terms.specs.declared.value.Value.{Value as MachineValue}
use Rattle.machine_terms.specs.declared.value.Value.TheVariants as machine
use Rattle.machine_terms.specs.Calls.{printing, take_values, writing}
use Rattle.code_rules.specs.Expressions.{count, expr_code, exprs_code}
use Rattle.code_rules.specs.Pieces.{op, past}
use Rattle.code_rules.specs.Prints.{parts_of}
use Rattle.code_rules.specs.Slots.{typed}
use Rattle.code_laws.specs.Simple.{IsInteger, an_integer}
use Rattle.code_laws.specs.Typed.{AreNumbers}
use Rattle.code_laws.specs.Standing.{Agrees, Aside, Comes, Does, IsOf, SlotsFit, Stands, machine_value, of_integer, where_of}
use Rattle.code_laws.specs.Steps.{Setting, machine_of, on_step, placed}
use Rattle.code_laws.proofs.Expressions.{value_runs}
use Rattle.code_laws.proofs.Prints.{format_written, pushed_all, takes_all}
use Rattle.code_laws.proofs.Runs.{comes_said, leads_by, leads_none, then}

-- an integer's value is the number that stands on the stack
number_value : (c : Contents) (t : StaticType) (v : Value) → IsInteger t → IsOf t v → machine_value c v ≡ machine.Number (number_of v)
number_value c _ _ (an_integer w) (of_integer _ z _) = refl

module _ (x : Setting) (params slots : ℕ) (fit : SlotsFit x slots) (aside : Aside 0) where
  -- so many values, each a number
  abbrev pub AreGood : Here → ℕ → List Value → State → Instance → Type 0
  AreGood h n vs s j = (map (machine_value no_contents) vs ≡ map machine.Number (map number_of vs)) × (length vs ≡ n)
      × Agrees x params slots aside h s j

  pub values_run : (h : Here) → params ≤ length h.scope.names → (args : Expressions) (s : State) (pc : ℕ)
      (st : List MachineValue) (i : Instance) → AreNumbers x.forms (where_of params h) args →
      Agrees x params slots aside h s i → Stands x.body pc (exprs_code (where_of params h) 0 [] args) →
      Comes x (placed pc st i) (λ vs j. placed (past (exprs_code (where_of params h) 0 [] args) pc) (pushed_all no_contents vs st) j)
      (AreGood h (count args)) (values h [] args s)
  values_run h low no_expr s pc st i fine g f = (i, leads_none x _, (refl, refl, g))
  values_run h low (an_expr e es) s pc st i fine g f =
      let w = where_of params h in
      let t = typed w e in
      let a = past (expr_code w 0 e) pc in
      let said = comes_said x (λ vs j. placed (past (exprs_code w 0 [] (an_expr e es)) pc) (pushed_all no_contents vs st) j)
      (AreGood h (count (an_expr e es))) in
      then x said _ _ _ (value h e s) _ (value_runs x params slots fit aside h 0 low e s pc st i fine.1 g f.0)
      (λ v s1 j k. then x said _ _ _ (values h [] es s1) _
      (subst (λ m. Comes x (placed a (m ∷ st) j)
      (λ vs j. placed (past (exprs_code w 0 [] es) a) (pushed_all no_contents vs (machine_value no_contents v ∷ st)) j)
      (AreGood h (count es)) (values h [] es s1))
      (number_value no_contents t v fine.0 k.0 ∙ sym (number_value j.contents t v fine.0 k.0))
      (values_run h low es s1 a (machine_value no_contents v ∷ st) j fine.2 k.1 f.1.1))
      (λ us s2 j2 k2. (
        j2,
        leads_none x _,
        (
          ap (λ m. m ∷ map (machine_value no_contents) us) (number_value no_contents t v fine.0 k.0) ∙ ap (λ ms. machine.Number (number_of v) ∷ ms) k2.0,
          ap suc k2.1,
          k2.2,
        ),
      )))

  pub prints : (h : Here) (format : List ℕ) (n : ℕ) (vs : List Value) (s : State) (pc : ℕ) (i : Instance) →
      AreGood h n vs s i → numbers_in format ≡ Some n → Stands x.body pc (op (instr.Print (parts_of [] format)) h.line) →
      Does x params slots aside (placed pc (pushed_all no_contents vs []) i) (suc pc) h
      (changing (λ s. record s { text = s.text ++ printed format (map number_of vs) }) s)
  prints h format n vs s pc i good e f =
      let g = good.2 in
      let ps = parts_of [] format in
      let m = machine_of (placed pc (pushed_all no_contents vs []) i) in
      let w = format_written no_contents format vs good.0 (e ∙ ap Some (sym good.1)) in
      let text = printed format (map number_of vs) in (
        record i { text = i.text ++ text },
        leads_by x _ _ (instr.Print ps) h.line f
            (ap (λ k. on_step x (placed pc (pushed_all no_contents vs []) i) (printing ps (take_values k (pushed_all no_contents vs []) []) m)) w.0
            ∙ ap (λ u. on_step x (placed pc (pushed_all no_contents vs []) i) (printing ps u m)) (takes_all no_contents vs [])
            ∙ ap (λ o. on_step x (placed pc (pushed_all no_contents vs []) i) (writing o [] m)) w.1),
        record {
          names = g.names;
          hidden = g.hidden;
          held = g.held;
          typed = g.typed;
          inside_store = g.inside_store;
          pointed = g.pointed;
          steady = g.steady;
          under = g.under;
          besides = g.besides;
          count = g.count;
          inside = g.inside;
          slots_are = g.slots_are;
          turns = g.turns;
          bound = g.bound;
          text = ap (λ t. t ++ text) g.text;
          ready = g.ready;
          calls = g.calls;
          result_is = g.result_is;
          answers = g.answers;
          spaces = g.spaces;
          memory = g.memory;
          tree_is = g.tree_is;
          framed = g.framed;
        },
      )
