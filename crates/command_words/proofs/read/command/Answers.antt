use Rattle.std.proofs.Common.{◌∙◌, ap, sym, option_map, option_and_then}
use Rattle.clap.specs.Words.{app_of, found_of, rows_of}
use Rattle.command_words.specs.Commands.{command_of}
use Rattle.command_words.specs.Given.{command_given, texts}
use Rattle.command_words.specs.Settings.{command_named}
use Rattle.command_words.proofs.Reading.{are_texts, entered_is, refused_is, taken_is}
use Rattle.command_words.proofs.Whole.{command_by}
use Rattle.command_words.proofs.read.command.Goals as goal

pub returns-in-Err-clause-refused : goal.returns-in-Err-clause-refused
returns-in-Err-clause-refused c = λ refused.
    refused_is (texts c.args.words.now) (app_of c.in_ok-parser.parser) c.in-Err.error (are_texts c.args.words.now) c.in_ok-parser.ensures c.in-Err.ensures.kinds (c.fault_of.ensures refused)

pub returns-in-Some-2-clause-taken : goal.returns-in-Some-2-clause-taken
returns-in-Some-2-clause-taken c =
    let rows = rows_of (found_of c.in-Some.found.now) in
    taken_is (texts c.args.words.now) (app_of c.in_ok-parser.parser) c.in-Ok.matches (are_texts c.args.words.now) c.in_ok-parser.ensures c.in-Ok.ensures.kinds c.in-Ok.ensures.matches
    ∙ ap (option_and_then command_by) (entered_is c.in-Ok.matches c.in-Some.name.now rows (sym c.in-Some.ensures.name) (sym c.in-Some.ensures.rows))
    ∙ ap (λ s. option_and_then (λ k. command_of k s) (command_named c.in-Some.name.now)) (sym c.said_in.ensures)
    ∙ sym c.in_ok-made.ensures
    ∙ ap (option_map command_given) c.in-Some-2.is

pub returns-clause-refused : goal.returns-clause-refused
returns-clause-refused c = λ same.
    let rows = rows_of (found_of c.in-Some.found.now) in
    taken_is (texts c.args.words.now) (app_of c.in_ok-parser.parser) c.in-Ok.matches (are_texts c.args.words.now) c.in_ok-parser.ensures c.in-Ok.ensures.kinds c.in-Ok.ensures.matches
    ∙ ap (option_and_then command_by) (entered_is c.in-Ok.matches c.in-Some.name.now rows (sym c.in-Some.ensures.name) (sym c.in-Some.ensures.rows))
    ∙ ap (λ s. option_and_then (λ k. command_of k s) (command_named c.in-Some.name.now)) (sym c.said_in.ensures)
    ∙ sym c.in_ok-made.ensures
    ∙ ap (option_map command_given) c.in-None.is
