-- Behind each launch of a body something stands, since a body ends with a return.
use Rattle.std.proofs.Common.{◌≡◌, ◌⊎◌, inl, inr, ℕ, suc, ◌^◌, ◌<◌, ◌≤◌, List, [], ◌∷◌, Bool, true, false, Option, Some, None, sym, ap, ◌∙◌, arith, length-append}
use Rattle.std.specs.Prelude.{length, slice_get}
use Rattle.std.proofs.lemmas.Bool.{cases_lt, false≢true, lt-ltb}
use Rattle.std.proofs.lemmas.Option.{slice_get_within}
use Rattle.index_launch.specs.declared.points.LaunchArg.{LaunchArg}
use Rattle.regent_tree.specs.Syntax.{TaskTree, Tree}
use Rattle.task_code.specs.declared.code.Line.{Line}
use Rattle.task_code.specs.declared.instr.Instr.TheVariants as instr
use Rattle.machine_terms.specs.Jumps.{fetch}
use Rattle.machine_terms.proofs.StepKinds.{is_launch}
use Rattle.code_rules.proofs.Laid.{reaches}
use Rattle.code_rules.specs.Pieces.{Piece, line_of, lines, past}
use Rattle.code_rules.specs.Programs.{body_piece, place_of, task_code}
use Rattle.code_rules.specs.Statements.{block_code}
use Rattle.code_laws.specs.Standing.{AreFollowed}
use Rattle.code_laws.proofs.Operations.{fetch_small}
use Rattle.code_laws.proofs.Places.{stands_alone}

abbrev launches : Option Line → Bool
launches None = false
launches (Some l) = is_launch l.instr

no_return : (task s line loop_line : ℕ) (args : List LaunchArg) → Some (line_of (instr.Launch task s line args) loop_line) ≡ Some (line_of instr.Return 0) → ⊥
no_return task s line loop_line args e = false≢true (sym (ap launches e))

pub launches_followed : (tree : Tree) (t : TaskTree) → length (lines (body_piece tree t) 0) ≤ 2 ^ 32 → AreFollowed (task_code tree t).body
launches_followed tree t small pc task s line loop_line args e = by (cases_lt pc (past block 0))
  where
    block : Piece
    block = block_code (place_of tree t) t.body

    body : List Line
    body = lines (body_piece tree t) 0

    last : fetch body (past block 0) ≡ Some (line_of instr.Return 0)
    last = (stands_alone (body_piece tree t) small).1

    long : length body ≡ suc (past block 0)
    long = omega (arith, length-append (lines block 0) (line_of instr.Return 0 ∷ []), reaches block 0)

    there : slice_get body pc ≡ Some (line_of (instr.Launch task s line args) loop_line)
    there = sym (ap (λ b. elim b [ true ↦ slice_get body pc | false ↦ None ]) (lt-ltb pc (2 ^ 32) (fetch_small body pc _ e))) ∙ e

    by : (pc < past block 0) ⊎ (past block 0 ≤ pc) → suc pc < 2 ^ 32
    by (inl before) = omega (arith, before, fetch_small body (past block 0) _ last)
    by (inr behind) =
        let same : pc ≡ past block 0 = omega (arith, behind, slice_get_within body pc _ there, long) in
        absurd (no_return task s line loop_line args (sym e ∙ ap (fetch body) same ∙ last))
