use Rattle.std.proofs.lemmas.List.Sums.{AllPass-from_list_all}
use Rattle.regent_lex.specs.Bytes.{is_digit}
use Rattle.regent_lex.proofs.Runs.{run_all}
use Rattle.regent_lex.proofs.numbers.number.Goals as goal

pub value-requires : goal.value-requires
value-requires c =
    rw c.digits-n.ensures.run (AllPass-from_list_all is_digit _ (run_all is_digit c.args.text.now))
