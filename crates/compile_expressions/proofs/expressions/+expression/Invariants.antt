use Rattle.std.proofs.Common.{◌≡◌, drop}
use Rattle.regent_tree.specs.Plain.{expressions_in, links_in, steps_in}
use Rattle.regent_tree.specs.Typing.{linked_type}
use Rattle.code_rules.specs.Emitted.{emitted}
use Rattle.code_rules.specs.Expressions.{exprs_code, links_code}
use Rattle.compile_types.specs.Here.{where_of}
use Rattle.compile_expressions.specs.Leads.{Leads}
use Rattle.compile_expressions.proofs.expressions.+expression.Given as goal

abbrev pub invariant-arguments-loop-place : goal.invariant-arguments-loop-place
invariant-arguments-loop-place l =
    emitted l.body (exprs_code (where_of l.here) l.depth (drop l.place l.types) (expressions_in (drop l.place l.args)))
    ≡ emitted l.fn.body (exprs_code (where_of l.here) l.depth l.types (expressions_in l.args))

abbrev pub invariant-links-loop-link : goal.invariant-links-loop-link
invariant-links-loop-link l = record {
  typed : linked_type (where_of l.here).tree (where_of l.here).scope l.left (links_in (drop l.link-index l.rest))
      ≡ linked_type (where_of l.here).tree (where_of l.here).scope l.fn.first (links_in l.rest);
  code : emitted l.body (links_code (where_of l.here) l.depth l.left (links_in (drop l.link-index l.rest)))
      ≡ emitted l.fn.body (links_code (where_of l.here) l.depth l.fn.first (links_in l.rest));
}

abbrev pub invariant-walk-loop-place : goal.invariant-walk-loop-place
invariant-walk-loop-place l = Leads (where_of l.here) l.fn.body l.body l.fn.from l.reached
    (steps_in l.steps) (steps_in (drop l.place l.steps))
