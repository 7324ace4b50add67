use Rattle.std.proofs.Common.{◌≡◌, ◌∙◌, [], ◌∷◌, ◌++◌, length, ap}
use Rattle.regent_tree.specs.declared.limits.Counted.TheVariants.{Fields, Parameters}
use Rattle.regent_tree.specs.Limits.{counted, first_excess, parts_of_params}
use Rattle.read_limits.proofs.Laws.{both}
use Rattle.read_limits.proofs.program.in_space.Goals as goal

pub returns : goal.returns
returns c =
    let params : c.in_params.result ≡ first_excess (parts_of_params c.args.space.now.params) =
    c.in_params.ensures ∙ ap (λ ps. first_excess (parts_of_params ps)) c.as_slice.ensures in
    let fields : c.in_params-2.result ≡ first_excess (parts_of_params c.args.space.now.fields) =
    c.in_params-2.ensures ∙ ap (λ ps. first_excess (parts_of_params ps)) c.as_slice-2.ensures in
    let types : c.or-types.result ≡ first_excess (parts_of_params c.args.space.now.params ++ parts_of_params c.args.space.now.fields) =
    both (parts_of_params c.args.space.now.params) (parts_of_params c.args.space.now.fields) _ _ _ c.or-types.ensures params fields in
    let many : c.excess-params.result ≡ first_excess (counted Parameters (length c.args.space.now.params) ∷ []) =
    c.excess-params.ensures ∙ ap (λ n. first_excess (counted Parameters n ∷ [])) c.len-2.ensures in
    let inner : c.or.result ≡ first_excess ((counted Parameters (length c.args.space.now.params) ∷ []) ++ (parts_of_params c.args.space.now.params ++ parts_of_params c.args.space.now.fields)) =
    both (counted Parameters (length c.args.space.now.params) ∷ []) (parts_of_params c.args.space.now.params ++ parts_of_params c.args.space.now.fields) _ _ _ c.or.ensures many types in
    let all : c.excess-fields.result ≡ first_excess (counted Fields (length c.args.space.now.fields) ∷ []) =
    c.excess-fields.ensures ∙ ap (λ n. first_excess (counted Fields n ∷ [])) c.len.ensures in
    both (counted Fields (length c.args.space.now.fields) ∷ [])
    (counted Parameters (length c.args.space.now.params) ∷ (parts_of_params c.args.space.now.params ++ parts_of_params c.args.space.now.fields)) _ _ _ c.or-2.ensures all inner
