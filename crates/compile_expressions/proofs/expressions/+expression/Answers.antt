use Rattle.regent_tree.proofs.Rows.{expressions_of_vec, links_of_vec, steps_of_vec}
use Rattle.regent_tree.specs.Plain.{expressions_in}
use Rattle.code_rules.specs.Emitted.{emitted}
use Rattle.code_rules.specs.Expressions.{exprs_code}
use Rattle.compile_types.specs.Here.{where_of}
use Rattle.compile_expressions.proofs.Members.{args_on}
use Rattle.compile_expressions.proofs.expressions.+expression.Goals as goal

pub expression-returns-in_ok-left-in-Chain-clause-typed : goal.expression-returns-in_ok-left-in-Chain-clause-typed
expression-returns-in_ok-left-in-Chain-clause-typed t c =
    rw (
      c.in-Chain.is,
      links_of_vec c.in-Chain.rest,
      ← c.deref.ensures,
      ← c.as_slice.ensures.value,
      ← c.in_ok-left-in-Chain.ensures.typed,
    )
    c.links.ensures.typed

pub expression-returns-in_ok-left-in-Chain-clause-code : goal.expression-returns-in_ok-left-in-Chain-clause-code
expression-returns-in_ok-left-in-Chain-clause-code t c =
    rw (
      c.in-Chain.is,
      links_of_vec c.in-Chain.rest,
      ← c.deref.ensures,
      ← c.as_slice.ensures.value,
      ← c.in_ok-left-in-Chain.ensures.code,
      ← c.in_ok-left-in-Chain.ensures.typed,
    )
    c.links.ensures.code

pub expression-returns-in-Call-clause-code : goal.expression-returns-in-Call-clause-code
expression-returns-in-Call-clause-code t c =
    rw (c.in-Call.is, expressions_of_vec c.in-Call.args, ← c.as_slice-in-Call.ensures.value)
    c.call.ensures.code

pub expression-returns-in-Access-clause-typed : goal.expression-returns-in-Access-clause-typed
expression-returns-in-Access-clause-typed t c =
    rw (c.in-Access.is, steps_of_vec c.in-Access.steps, ← c.as_slice-in-Access.ensures.value)
    c.accessed.ensures.typed

pub expression-returns-in-Access-clause-code : goal.expression-returns-in-Access-clause-code
expression-returns-in-Access-clause-code t c =
    rw (c.in-Access.is, steps_of_vec c.in-Access.steps, ← c.as_slice-in-Access.ensures.value)
    c.accessed.ensures.code

pub arguments-loop-place-preserved : goal.arguments-loop-place-preserved
arguments-loop-place-preserved t c =
    let w = where_of c.args.here.now in
    args_on w c.args.depth c.args.types.now c.args.args.now c.loop-place.place c.index-args-place.result
    c.loop-place.body c.argument.new.body
    (emitted c.args.body.now (exprs_code w c.args.depth c.args.types.now (expressions_in c.args.args.now)))
    c.loop-place-test.true c.index-args-place.is c.in_ok-argument.ensures c.loop-place.invariant
