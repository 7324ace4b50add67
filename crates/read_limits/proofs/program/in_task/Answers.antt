use Rattle.std.proofs.Common.{◌≡◌, ◌∙◌, [], ◌∷◌, ◌++◌, length, ap}
use Rattle.regent_tree.specs.declared.limits.Counted.TheVariants.{Parameters}
use Rattle.regent_tree.specs.Limits.{counted, first_excess, parts_of_params, parts_of_type, parts_of_block}
use Rattle.regent_tree.specs.PlainProgram.{block_in}
use Rattle.read_limits.proofs.Laws.{both}
use Rattle.read_limits.proofs.program.in_task.Goals as goal

pub returns : goal.returns
returns c =
    let params : c.in_params-types.result ≡ first_excess (parts_of_params c.args.task.now.params) =
    c.in_params-types.ensures ∙ ap (λ ps. first_excess (parts_of_params ps)) c.as_slice.ensures in
    let body : c.in_statements.result ≡ first_excess (parts_of_block (block_in c.args.task.now.body.items)) =
    c.in_statements.ensures ∙ ap (λ ss. first_excess (parts_of_block (block_in ss))) c.as_slice-2.ensures.value in
    let inside : c.or-inside.result ≡ first_excess (parts_of_type c.args.task.now.result ++ parts_of_block (block_in c.args.task.now.body.items)) =
    both (parts_of_type c.args.task.now.result) (parts_of_block (block_in c.args.task.now.body.items)) _ _ _ c.or-inside.ensures c.in_type.ensures body in
    let types : c.or.result ≡ first_excess (parts_of_params c.args.task.now.params ++ (parts_of_type c.args.task.now.result ++ parts_of_block (block_in c.args.task.now.body.items))) =
    both (parts_of_params c.args.task.now.params) (parts_of_type c.args.task.now.result ++ parts_of_block (block_in c.args.task.now.body.items)) _ _ _ c.or.ensures params inside in
    let many : c.excess-params.result ≡ first_excess (counted Parameters (length c.args.task.now.params) ∷ []) =
    c.excess-params.ensures ∙ ap (λ n. first_excess (counted Parameters n ∷ [])) c.len.ensures in
    both (counted Parameters (length c.args.task.now.params) ∷ [])
    (parts_of_params c.args.task.now.params ++ (parts_of_type c.args.task.now.result ++ parts_of_block (block_in c.args.task.now.body.items))) _ _ _ c.or-2.ensures many types
