use Rattle.std.proofs.Common.{◌≡◌, ◌∙◌, ap₂, codes}
use Rattle.std.proofs.lemmas.Result.{IfOk-weaker}
use Rattle.clap.specs.Words.{app_of, with_rule}
use Rattle.command_words.specs.Parser.{named_app, with_setting}
use Rattle.command_words.specs.Settings.{dump, trace, turns, workers}
use Rattle.command_words.proofs.parser.run.Goals as goal

pub returns : goal.returns
returns c =
    let one : app_of c.in_ok-arg.field-0 ≡ with_setting (named_app (codes "run")) workers =
    c.in_ok-arg.ensures.shape c.setting.ensures.local ∙ ap₂ with_rule c.named.ensures c.setting.ensures.rule in
    let two : app_of c.in_ok-arg-2.field-0 ≡ with_setting (with_setting (named_app (codes "run")) workers) turns =
    c.in_ok-arg-2.ensures.shape c.setting-2.ensures.local ∙ ap₂ with_rule one c.setting-2.ensures.rule in
    let three : app_of c.in_ok-arg-3.field-0 ≡ with_setting (with_setting (with_setting (named_app (codes "run")) workers) turns) dump =
    c.in_ok-arg-3.ensures.shape c.setting-3.ensures.local ∙ ap₂ with_rule two c.setting-3.ensures.rule in
    let four : app_of c.in_ok-arg-4.field-0 ≡ with_setting (with_setting (with_setting (with_setting (named_app (codes "run")) workers) turns) dump) trace =
    c.in_ok-arg-4.ensures.shape c.setting-4.ensures.local ∙ ap₂ with_rule three c.setting-4.ensures.rule in
    IfOk-weaker c.arg-5.result _ _ (λ r h. h.shape c.words.ensures.local ∙ ap₂ with_rule four c.words.ensures.rule) c.arg-5.ensures
