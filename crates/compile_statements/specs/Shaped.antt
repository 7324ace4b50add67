-- The code of statements by given shapes of loops, which are taken one by one in the order of the text. Where they are
-- those of the loops in a block, it is the code of the block.
use Rattle.std.specs.Prelude.{◌∷◌, Bool, false, List, None, Option, Some, [], cond, drop, ◌&&◌}
use Rattle.regent_tree.specs.Plain.{expressions_in}
use Rattle.regent_tree.specs.Syntax.{Arms, Block, Expression, Form, Otherwise, a_statement, an_arm, do_form, else_block, for_in_form, for_to_form, if_form, no_arm, no_else, no_statement, then_statement, while_form}
use Rattle.regent_tree.specs.Typing.{arithmetic_type, is_pointer, taken_from}
use Rattle.task_code.specs.declared.instr.Instr.TheVariants as instr
use Rattle.check_rules.specs.declared.loop_shape.LoopShape.{LoopShape}
use Rattle.check_rules.specs.types.Sorts.{is_space}
use Rattle.code_rules.specs.Expressions.{expr_code}
use Rattle.code_rules.specs.Initializers.{new_place}
use Rattle.code_rules.specs.Instructions.{one}
use Rattle.code_rules.specs.Launches.{LaunchedCall, is_launch, one_call}
use Rattle.code_rules.specs.Pieces.{Piece, branch, empty, loop, rounds, ◌⨟◌}
use Rattle.code_rules.specs.Slots.{Where, beside, counter, slot, typed}
use Rattle.code_rules.specs.Statements.{after_arm, after_arms, after_form, form_code, in_one_step, looping, on_line, points_code}
use Rattle.compile_statements.specs.declared.launches.Launched.{Launched}

abbrev pub call_of : Launched → LaunchedCall
call_of c = record { line = c.line; task = c.task.now; args = expressions_in c.args.now }

-- ---- the shapes behind a construct

abbrev mutual
  pub shapes_after_form : List LoopShape → Form → List LoopShape
  shapes_after_form ls (if_form arms other) = shapes_after_else (shapes_after_arms ls arms) other
  shapes_after_form ls (while_form test body) = shapes_after_block ls body
  shapes_after_form ls (for_in_form demanded n domain body) = shapes_after_block (drop 1 ls) body
  shapes_after_form ls (for_to_form demanded n from to body) = shapes_after_block (drop 1 ls) body
  shapes_after_form ls (do_form body) = shapes_after_block ls body
  shapes_after_form ls form = ls

  pub shapes_after_block : List LoopShape → Block → List LoopShape
  shapes_after_block ls no_statement = ls
  shapes_after_block ls (then_statement (a_statement line form) rest) = shapes_after_block (shapes_after_form ls form) rest

  pub shapes_after_arms : List LoopShape → Arms → List LoopShape
  shapes_after_arms ls no_arm = ls
  shapes_after_arms ls (an_arm test body rest) = shapes_after_arms (shapes_after_block ls body) rest

  pub shapes_after_else : List LoopShape → Otherwise → List LoopShape
  shapes_after_else ls no_else = ls
  shapes_after_else ls (else_block body) = shapes_after_block ls body

-- ---- the code

abbrev pub first_is_launch : List LoopShape → Bool
first_is_launch [] = false
first_is_launch (l ∷ ls) = is_launch (Some l.shape)

-- the call of a loop over a domain, with this body, by its shape
abbrev pub given_call : List LoopShape → Where → Expression → Block → Option LaunchedCall
given_call ls w domain body = cond (is_space (typed w domain) && first_is_launch ls) (one_call body) None

abbrev mutual
  pub form_by : List LoopShape → Where → Form → Piece
  form_by ls w (if_form arms other) = arms_by ls w w arms (else_by (shapes_after_arms ls arms) (after_arms w arms) other)
  form_by ls w (while_form test body) = loop w.line (expr_code w 0 test) (block_by ls w body)
  form_by ls w (for_in_form demanded n domain body) =
      expr_code w 0 domain ⨟ one w (instr.Store (beside w (new_place w)))
      ⨟ in_one_step w (looping w n (taken_from (typed w domain))) n (given_call ls w domain body)
      (points_code w (is_pointer (taken_from (typed w domain)))
      (block_by (drop 1 ls) (looping w n (taken_from (typed w domain))) body))
  form_by ls w (for_to_form demanded n from to body) =
      expr_code w 0 from ⨟ expr_code w 0 to
      ⨟ one w (instr.Store (beside w (new_place w))) ⨟ one w (instr.Store (counter w (new_place w)))
      ⨟ rounds (instr.NextNumber (counter w (new_place w)) (beside w (new_place w)) (slot w (new_place w))) w.line
      (block_by (drop 1 ls) (looping w n (arithmetic_type (typed w from) (typed w to))) body)
  form_by ls w (do_form body) = block_by ls w body
  form_by ls w form = form_code w form

  pub arms_by : List LoopShape → Where → Where → Arms → Piece → Piece
  arms_by ls own w no_arm other = other
  arms_by ls own w (an_arm test body rest) other = expr_code own 0 test
      ⨟ branch w.line (block_by ls w body) (arms_by (shapes_after_block ls body) own (after_arm w body) rest other)

  pub else_by : List LoopShape → Where → Otherwise → Piece
  else_by ls w no_else = empty
  else_by ls w (else_block body) = block_by ls w body

  pub block_by : List LoopShape → Where → Block → Piece
  block_by ls w no_statement = empty
  block_by ls w (then_statement (a_statement line form) rest) =
      form_by ls (on_line w line) form ⨟ block_by (shapes_after_form ls form) (after_form w form) rest
