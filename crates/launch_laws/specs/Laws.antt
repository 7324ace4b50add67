-- Which loops are launched: those whose shape is Launch, demanded or not (index launches: Regent, SC 2015).
use Rattle.std.specs.Prelude.{Bool, Contains, Some, [], ◌≡◌, ℕ}
use Rattle.index_launch.specs.declared.view.LaunchShape.TheVariants.{Launch}
use Rattle.regent_tree.specs.Syntax.{Block, Expression, Form, Name, TaskTree, a_statement, call_form, for_in_form, no_statement, then_statement}
use Rattle.regent_tree.specs.Typing.{is_pointer, taken_from}
use Rattle.task_code.specs.declared.instr.Instr.TheVariants as instr
use Rattle.check_rules.specs.Breaches.{breaches}
use Rattle.check_rules.specs.launches.Shapes.{shape_of}
use Rattle.check_laws.specs.MeantVisits.{meant_visits}
use Rattle.code_rules.specs.Expressions.{expr_code}
use Rattle.code_rules.specs.Initializers.{new_place}
use Rattle.code_rules.specs.Instructions.{one}
use Rattle.code_rules.specs.Launches.{LaunchedCall, launch_code}
use Rattle.code_rules.specs.Pieces.{Piece, ◌⨟◌}
use Rattle.code_rules.specs.Slots.{Where, beside, typed}
use Rattle.code_rules.specs.Statements.{block_code, form_code, looping, on_line, points_code}

-- ---- the code of a loop over points

-- where its body stands
abbrev pub inside : Where → Name → Expression → Where
inside w i domain = looping w i (taken_from (typed w domain))

-- its domain goes into a slot, and then its code is this
abbrev pub CodeIs : Where → Bool → Name → Expression → Block → Piece → Type 0
CodeIs w demanded i domain body rest =
    form_code w (for_in_form demanded i domain body)
    ≡ expr_code w 0 domain ⨟ one w (instr.Store (beside w (new_place w))) ⨟ rest

-- It is launched: its body is one call, and its code is the launch of that call.
pub record IsLaunched (w : Where) (demanded : Bool) (i : Name) (domain : Expression) (body : Block) : Type 0 where
  pub call : LaunchedCall
  pub body_is : body ≡ then_statement (a_statement call.line (call_form call.task call.args)) no_statement
  pub code_is : CodeIs w demanded i domain body
      (launch_code w (on_line (inside w i domain) call.line) i (beside w (new_place w)) call)

-- It goes point by point: its code takes the next point, has the code of its body, and goes back.
abbrev pub GoesPointByPoint : Where → Bool → Name → Expression → Block → Type 0
GoesPointByPoint w demanded i domain body = CodeIs w demanded i domain body
    (points_code w (is_pointer (taken_from (typed w domain))) (block_code (inside w i domain) body))

-- ---- where it is which

-- a statement stands there, as the meaning of programs goes through the tree
abbrev pub StandsThere : Where → TaskTree → ℕ → Form → Type 0
StandsThere w t line form =
    Contains (meant_visits w.tree) (record { task = t; scope = w.scope; line = line; form = form })

abbrev pub Not : Type 0 → Type 0
Not A = A → ⊥

-- the one holds exactly where the other does
abbrev pub Exactly : Type 0 → Type 0 → Type 0
Exactly A B = (A → B) × (B → A)

-- In a program without a breach each loop over points, demanded or not, is launched exactly where its shape is
-- Launch, and goes point by point exactly where it isn't.
abbrev pub LoopsAreLaunchedByShape : Type 0
LoopsAreLaunchedByShape = (w : Where) (t : TaskTree) (line : ℕ) (demanded : Bool) (i : Name) (domain : Expression) (body : Block) →
    breaches w.tree ≡ [] → StandsThere w t line (for_in_form demanded i domain body) →
    let of_shape = shape_of w.tree w.scope (for_in_form demanded i domain body) ≡ Some Launch in
    Exactly of_shape (IsLaunched w demanded i domain body)
    × Exactly (Not of_shape) (GoesPointByPoint w demanded i domain body)
