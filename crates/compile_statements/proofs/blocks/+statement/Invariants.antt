use Rattle.std.proofs.Common.{◌≡◌, drop}
use Rattle.regent_tree.specs.PlainProgram.{arms_in, block_in}
use Rattle.regent_tree.specs.Typing.{scope_after_arms, scope_after_block}
use Rattle.code_rules.specs.Emitted.{emitted}
use Rattle.code_rules.specs.Pieces.{Piece}
use Rattle.compile_statements.specs.Branches.{joined}
use Rattle.compile_statements.specs.Scopes.{mark_of, seen, tree_at, where_in}
use Rattle.compile_statements.specs.Shaped.{arms_by, block_by, shapes_after_arms, shapes_after_block}
use Rattle.compile_statements.proofs.Grows.{IsPast}
use Rattle.compile_statements.proofs.blocks.+statement.Given as goal

abbrev pub invariant-block-loop-stmt : goal.invariant-block-loop-stmt
invariant-block-loop-stmt l = record {
  scope : scope_after_block (tree_at l.at) (seen l.scope) (block_in (drop l.stmt-index l.stmts))
      ≡ scope_after_block (tree_at l.at) (seen l.fn.scope) (block_in l.stmts);
  shapes : shapes_after_block l.shapes (block_in (drop l.stmt-index l.stmts)) ≡ shapes_after_block l.fn.shapes (block_in l.stmts);
  code : emitted l.body (block_by l.shapes (where_in l.at l.scope) (block_in (drop l.stmt-index l.stmts)))
      ≡ emitted l.fn.body (block_by l.fn.shapes (where_in l.at l.fn.scope) (block_in l.stmts));
}

abbrev pub invariant-all_arms-loop-each : goal.invariant-all_arms-loop-each
invariant-all_arms-loop-each l = record {
  mark : l.mark ≡ mark_of (seen l.fn.scope);
  past : IsPast (seen l.fn.scope) (seen l.scope);
  scope : scope_after_arms (tree_at l.at) (seen l.scope) (arms_in (drop l.each-index l.arms))
      ≡ scope_after_arms (tree_at l.at) (seen l.fn.scope) (arms_in l.arms);
  shapes : shapes_after_arms l.shapes (arms_in (drop l.each-index l.arms)) ≡ shapes_after_arms l.fn.shapes (arms_in l.arms);
  code : (other : Piece) →
      emitted l.fn.body (arms_by l.fn.shapes (where_in l.at l.fn.scope) (where_in l.at l.fn.scope) (arms_in l.arms) other)
      ≡ joined l.at.line l.skips.items
      (emitted l.body (arms_by l.shapes (where_in l.at l.fn.scope) (where_in l.at l.scope) (arms_in (drop l.each-index l.arms)) other));
}
