use Rattle.std.proofs.Common.{◌≡◌, ◌∙◌, Bool, true, false, not, ◌&&◌, ap, ap₂, codes, refl}
use Rattle.std.proofs.lemmas.Result.{IfOk-weaker}
use Rattle.clap.specs.Words.{App, app_of, with_subcommand}
use Rattle.clap.specs.Simple.{app_of_fields}
use Rattle.command_words.specs.Parser.{check_app, named_app, run_app, sample_app, wants_command}
use Rattle.command_words.proofs.parser.regent.Goals as goal

-- a plain command has no global argument
no_globals : (a b g more : Bool) → (a && (b && (not g && more))) ≡ true → g ≡ false
no_globals true true false more e = refl
no_globals true true true more e = cc
no_globals true false g more e = cc
no_globals false b g more e = cc

pub returns : goal.returns
returns c =
    let run_is : app_of c.in_ok-run.run' ≡ run_app = c.in_ok-run.ensures in
    let check_is : app_of c.in_ok-check.check ≡ check_app = c.in_ok-check.ensures in
    let sample_is : app_of c.in_ok-sample.sample ≡ sample_app = c.in_ok-sample.ensures in
    let top_is : app_of c.subcommand_required.result ≡ wants_command (named_app (codes "regent")) =
    ap app_of_fields c.subcommand_required.ensures ∙ ap wants_command c.named.ensures in
    let one = c.in_ok-subcommand.ensures.shape (no_globals _ _ _ _ (ap (λ (a : App). a.top.is_plain) run_is))
    ∙ ap₂ with_subcommand top_is (ap (λ (a : App). a.top) run_is) in
    let two = c.in_ok-subcommand-2.ensures.shape (no_globals _ _ _ _ (ap (λ (a : App). a.top.is_plain) check_is))
    ∙ ap₂ with_subcommand one (ap (λ (a : App). a.top) check_is) in
    IfOk-weaker c.subcommand-3.result _ _ (λ r h. h.shape (no_globals _ _ _ _ (ap (λ (a : App). a.top.is_plain) sample_is))
    ∙ ap₂ with_subcommand two (ap (λ (a : App). a.top) sample_is)) c.subcommand-3.ensures
