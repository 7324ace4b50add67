use Rattle.std.proofs.Common.{rules, ◌≡◌, ◌<◌, ℕ, List, length, map, get_or, ap, ◌∙◌}
use Rattle.regent_tree.specs.declared.types.Param.{Param}
use Rattle.regent_tree.specs.declared.types.TypeTerm.TheVariants as typed
use Rattle.regent_tree.specs.PlainProgram.{tree_of}
use Rattle.regent_tree.specs.StaticTypes.{field_place, space_at}
use Rattle.check_expressions.proofs.Places.{place_within, term_at_place}
use Rattle.check_expressions.proofs.declared.Declared.field.Goals as goal

pub returns-clause-term : goal.returns-clause-term
returns-clause-term c =
    let tree = tree_of c.args.self.now in
    let s = c.args.space in
    let fields = c.as_slice-fields.result.now in
    let inside : c.in_ok-place.place < length fields = search (rules, place_within) in
    let place : c.in_ok-place.place ≡ field_place tree s c.args.name.now = search rules in
    let same : fields ≡ (space_at tree s).fields = search rules in
    term_at_place fields c.in_ok-place.place c.index-fields-place.result typed.Truth inside
    c.index-fields-place.is
    ∙ ap (λ (ps : List Param). get_or (map (λ (q : Param). q.term) ps) c.in_ok-place.place typed.Truth)
    same
    ∙ ap (λ (i : ℕ). get_or (map (λ (q : Param). q.term) (space_at tree s).fields) i typed.Truth)
    place
