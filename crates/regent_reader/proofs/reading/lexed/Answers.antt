use Rattle.std.proofs.Common.{◌∙◌, ap}
use Rattle.regent_grammar.specs.Terminals.{terminals}
use Rattle.regent_reader.proofs.LimitLaws.{terminals_within}
use Rattle.regent_reader.proofs.reading.lexed.Goals as goal

pub returns-in_ok-terminals-in-Ok-clause-within : goal.returns-in_ok-terminals-in-Ok-clause-within
returns-in_ok-terminals-in-Ok-clause-within c =
    terminals_within c.args.text.now c.in-Ok.tokens.items c.in_ok-terminals-in-Ok.field-0.items
    (c.in_ok-terminals-in-Ok.ensures ∙ ap (terminals c.args.text.now) c.as_slice.ensures.value)
    c.requires c.in-Ok.ensures.told c.in-Ok.ensures.kinds
