-- A value on the stack, of its type, at an instance that agrees.
use Rattle.std.proofs.Common.{◌≡◌, ℕ, suc, List, ◌∷◌}
use Rattle.regent_tree.specs.declared.typing.StaticType.{StaticType}
use Rattle.regent_tree.specs.Values.{Value}
use Rattle.regent_tree.specs.Running.{State, Here, Result, gives}
use Rattle.task_code.specs.declared.instr.Instr.{Instr}
use Rattle.machine_terms.specs.declared.value.Value.{Value as MachineValue}
use Rattle.machine_terms.specs.Segments.{act}
use Rattle.machine_terms.specs.declared.order.Instance.{Instance}
use Rattle.machine_terms.specs.declared.order.Resumed.TheVariants.{GoesOn}
use Rattle.code_rules.specs.Pieces.{Piece, op, past}
use Rattle.code_laws.specs.Steps.{Setting, behind, machine_of, placed, on_step}
use Rattle.code_laws.specs.Standing.{Stands, machine_value, IsOf, Aside, SlotsFit, Agrees, Comes}
use Rattle.code_laws.proofs.Runs.{leads_by}

-- the value on the stack, at a place
abbrev pub valued : ℕ → List MachineValue → Value → Instance → Instance
valued pc st v j = placed pc (machine_value j.contents v ∷ st) j

module _ (x : Setting) (params slots : ℕ) (fit : SlotsFit x slots) {deep : ℕ} (aside : Aside deep) where
  -- the value is of its type, and the instance agrees with the state
  abbrev pub Good : Here → StaticType → Value → State → Instance → Type 0
  Good h t v s j = IsOf t v × Agrees x params slots aside h s j

  -- from a place with a stack to a value of a type behind a piece
  abbrev pub Gives : Here → StaticType → Piece → ℕ → List MachineValue → List MachineValue →
      Instance → Result Value → Type 0
  Gives h t p pc before st i r = Comes x (placed pc before i) (valued (past p pc) st) (Good h t) r

  -- an instruction that takes values and leaves one
  pub pushes : (h : Here) (t : StaticType) (v : Value) (s : State) (pc : ℕ)
      (before st : List MachineValue) (i : Instance) (ins : Instr) (line : ℕ) →
      Stands x.body pc (op ins line) → IsOf t v → Agrees x params slots aside h s i →
      behind ins (on_step x (placed pc before i) (act x.code x.body ins line (machine_of (placed pc before i))))
      ≡ GoesOn (valued (suc pc) st v i) →
      Gives h t (op ins line) pc before st i (gives v s)
  pushes h t v s pc before st i ins line f o a e = (i, leads_by x _ _ ins line f e, (o, a))
