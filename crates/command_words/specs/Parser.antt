-- The command definition for clap: one simple command, with a subcommand for each command.
use Rattle.std.specs.Prelude.{true, Some, codes, cond}
use Rattle.clap.specs.Walk.{Rule}
use Rattle.clap.specs.Simple.{App, new_app, new_rule, with_rule, with_subcommand}
use Rattle.clap.specs.declared.builder.action.ArgAction.TheVariants.{Set, SetTrue, Append}
use Rattle.command_words.specs.Settings.{Setting, Text, dump, name_of, takes_value, trace, turns, workers}

-- ---- arguments

-- an option or a flag, by its long name
abbrev pub setting_rule : Setting → Rule
setting_rule s = record (new_rule (name_of s)) {
  long = Some (name_of s);
  action = Some (cond (takes_value s) Set SetTrue);
}

-- the positional words
abbrev pub word_rule : Rule
word_rule = record (new_rule (codes "words")) { action = Some Append }

-- ---- commands

-- without the flags and the subcommand that ask for help
abbrev pub without_help : App → App
without_help a = record a {
  top = record a.top {
    disable_help_flag = true;
    disable_help_subcommand = true;
    disable_version_flag = true;
  };
}

abbrev pub named_app : Text → App
named_app name = without_help (new_app name)

abbrev pub with_setting : App → Setting → App
with_setting a s = with_rule a (setting_rule s)

abbrev pub with_words : App → App
with_words a = with_rule a word_rule

abbrev pub run_app : App
run_app = with_words (with_setting (with_setting (with_setting (with_setting
    (named_app (codes "run")) workers) turns) dump) trace)

abbrev pub check_app : App
check_app = with_words (named_app (codes "check"))

abbrev pub sample_app : App
sample_app = with_words (with_setting (named_app (codes "sample")) workers)

abbrev pub wants_command : App → App
wants_command a = record a { top = record a.top { subcommand_required = true } }

abbrev pub regent : App
regent = with_subcommand (with_subcommand (with_subcommand
    (wants_command (named_app (codes "regent"))) run_app.top) check_app.top) sample_app.top
