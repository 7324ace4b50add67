-- The code's statements in lists.
use Rattle.std.proofs.Common.{◌≡◌, List, [], ◌∷◌, ◌++◌, Option, Some, None, map, refl, ap, ◌∙◌}
use Rattle.std.proofs.lemmas.List.{map_push}
use Rattle.std.specs.Option.{option_map}
use Rattle.std.specs.declared.alloc.Global.{Global}
use Rattle.std.specs.declared.vec.Vec.{Vec}
use Rattle.regent_tree.specs.declared.statement.Arm.{Arm, Arm'}
use Rattle.regent_tree.specs.declared.statement.Stmt.{Stmt}
use Rattle.regent_tree.specs.Syntax.{Expression, Block, then_statement, Arms, no_arm, an_arm, if_form}
use Rattle.regent_tree.specs.Plain.{expression_of}
use Rattle.regent_tree.specs.PlainProgram.{block_of, block_in, arm_before, arms_in, otherwise_in}
use Rattle.regent_grammar.specs.Statements.{a_conditional}
use Rattle.regent_grammar.specs.Nodes.{block_from, Armed, arms_from}
use Rattle.read_statements.specs.Blocks.{statement_of, armed_of}

pub block_of_map : (ss : List Stmt) → block_in ss ≡ block_from (map statement_of ss)
block_of_map [] = refl
block_of_map (s ∷ ss) = ap (then_statement (statement_of s)) (block_of_map ss)

pub ended_block : (ss : List Stmt) (s : Stmt) → block_in (ss ++ s ∷ []) ≡ block_from (map statement_of ss ++ statement_of s ∷ [])
ended_block ss s = block_of_map (ss ++ s ∷ []) ∙ ap block_from (map_push statement_of ss s)

-- the first arm
first_arm : Arms → Armed → Armed
first_arm no_arm otherwise = otherwise
first_arm (an_arm test body rest) otherwise = record { test = test; body = body }

armed_before : (a : Arm) → armed_of a ≡ first_arm (arm_before a no_arm) (armed_of a)
unfolding first_arm
armed_before (Arm' test shape body) = refl

pub armed_is : (a : Arm) (test : Expression) (body : Block) → ((rest : Arms) → arm_before a rest ≡ an_arm test body rest) → armed_of a ≡ record { test = test; body = body }
unfolding first_arm
armed_is a test body h = armed_before a ∙ ap (λ arms. first_arm arms (armed_of a)) (h no_arm)

pub arms_of_map : (arms : List Arm) → arms_in arms ≡ arms_from (map armed_of arms)
arms_of_map [] = refl
arms_of_map (Arm' test shape body ∷ rest) = ap (an_arm (expression_of test) (block_of body)) (arms_of_map rest)

pub chosen_is : (first : Arm) (further all : List Arm) (other : Option (Vec Stmt Global)) → all ≡ first ∷ further →
    if_form (arms_in all) (otherwise_in other) ≡ a_conditional (armed_of first) (map armed_of further) (option_map (λ b. block_in b.items) other)
chosen_is first further all None h = rw (h, arms_of_map (first ∷ further)) refl
chosen_is first further all (Some body) h = rw (h, arms_of_map (first ∷ further)) refl
