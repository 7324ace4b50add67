use Rattle.std.proofs.Common.{◌≡◌, ap, ◌∙◌, unwrap_or, length, rules}
use Rattle.regent_tree.specs.StaticTypes.{place_in}
use Rattle.regent_tree.specs.declared.types.Param.{Param}
use Rattle.program_tables.specs.Lookups.{is_named}
use Rattle.program_tables.proofs.ByKind.{place_or_len}
use Rattle.program_tables.proofs.params.place_or_len.Goals as goal

pub returns : goal.returns
returns c =
    let at : c.unwrap_or-place.result ≡ place_in c.args.params.now c.args.name.now = c.unwrap_or-place.ensures ∙ ap (λ o. unwrap_or o (length c.args.params.now)) c.first_place.ensures
    ∙ place_or_len (is_named (λ (p : Param). p.name) c.args.name.now) c.args.params.now in
    search rules
