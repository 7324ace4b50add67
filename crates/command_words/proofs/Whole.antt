-- The command that the words say is what is read from clap's answer, and a refusal is one of clap's.
use Rattle.std.proofs.Common.{◌≡◌, ◌∙◌, Bool, cond, true, false, List, [], ◌∷◌, map, Option, Some, None, refl, ap, sym, is_some, option_and_then}
use Rattle.clap.specs.Walk.{Row, rows_after}
use Rattle.clap.specs.Simple.{subcommand_of}
use Rattle.clap.specs.Kinds.{Kinds}
use Rattle.clap.specs.Faults.{fault_of}
use Rattle.command_words.specs.Commands.{Command, command, command_if_single, command_of, named_command, said_by}
use Rattle.command_words.specs.Matched.{said_in}
use Rattle.command_words.specs.Settings.{CommandName, Setting, Text, check, command_named, run, sample, setting_named, settings_of, takes_value}
use Rattle.command_words.specs.Uses.{Form, Use, Uses, at_flag, at_option, at_setting, at_word, dashed, flag, form_of, is_plain, is_single, option, plain, positional, separator, setting, uses, with_use}
use Rattle.command_words.specs.Parser.{regent}
use Rattle.command_words.proofs.Rules.{rules}
use Rattle.command_words.proofs.Rows.{AllFit, Fits}
use Rattle.command_words.proofs.Lookups.{said_is, single}
use Rattle.command_words.proofs.Defaults.{defaults_say}
use Rattle.command_words.proofs.Walking.{clean, guard, rows_of_all, rows_of_uses}
use Rattle.command_words.proofs.Steps.{AreTexts}
use Rattle.command_words.proofs.Levels.{start_rows, uses_decide, words_fault}
use Rattle.command_words.proofs.Top.{entered_found, fault_empty, fault_found, fault_lone, fault_unnamed, text_of}

-- ---- flags have no value, and options have one

abbrev UsesFit : Uses → Type 0
UsesFit None = Unit {0}
UsesFit (Some us) = AllFit us

with_fit : (u : Use) (o : Uses) → Fits u → UsesFit o → UsesFit (with_use u o)
with_fit u None here more = tt
with_fit u (Some us) here more = (here, more)

words_fit : (words : List Text) → AllFit (map positional words)
words_fit [] = tt
words_fit (w ∷ words) = (tt, words_fit words)

module _ (known : List Setting) where
  abbrev Fitting : List Text → Type 0
  Fitting words = UsesFit (uses known None words) × ((t : Setting) → takes_value t ≡ true → UsesFit (uses known (Some t) words))

  setting_fit : (words : List Text) → Fitting words → (o : Option Setting) (v : Option Text) → UsesFit (at_setting o v (λ w. uses known w words))
  setting_fit words more None v = tt
  setting_fit words more (Some t) v = go (takes_value t) refl v
    where
      go : (b : Bool) → takes_value t ≡ b → (u : Option Text) → UsesFit (cond b (at_option t u (λ w. uses known w words)) (at_flag t u (λ w. uses known w words)))
      go true takes (Some x) = with_fit (option t x) (uses known None words) takes more.0
      go true takes None = more.1 t takes
      go false takes (Some x) = tt
      go false takes None = with_fit (flag t) (uses known None words) takes more.0

  word_fit : (f : Form) (w : Text) (words : List Text) → Fitting words → UsesFit (at_word known f w words (λ o. uses known o words))
  word_fit separator w words more = words_fit words
  word_fit (setting n v) w words more = setting_fit words more (setting_named known n) v
  word_fit dashed w words more = tt
  word_fit plain w words more = with_fit (positional w) (uses known None words) tt more.0

  value_fit : (b : Bool) (t : Setting) (w : Text) (words : List Text) → takes_value t ≡ true → UsesFit (uses known None words)
      → UsesFit (cond b (with_use (option t w) (uses known None words)) None)
  value_fit true t w words takes more = with_fit (option t w) (uses known None words) takes more
  value_fit false t w words takes more = tt

  fitting : (words : List Text) → Fitting words
  fitting [] = (tt, λ t takes. tt)
  fitting (w ∷ words) =
      let more = fitting words in
      (word_fit (form_of w) w words more, λ t takes. value_fit (is_plain (form_of w)) t w words takes more.0)

-- ---- the command

-- what is made of the command that clap entered
abbrev pub command_by : Text × List Row → Option Command
command_by p = option_and_then (λ name. command_of name (said_in p.1)) (command_named p.0)

named_back : (k : CommandName) → command_named (text_of k) ≡ Some k
named_back run = refl
named_back check = refl
named_back sample = refl

some_none : (rows : List Row) → Some rows ≡ None → ⊥
some_none rows e = cc

-- by what the uses decide
module _ (k : CommandName) (start : List Row) where
  taken : (us : List Use) → AllFit us → Some start ≡ rows_of_all [] us → command_if_single k us ≡ command_of k (said_in start)
  taken us fit e =
      let once : true ≡ is_single us = ap is_some e ∙ single us fit in
      ap (λ b. cond b (command_of k (said_by us)) None) (sym once)
      ∙ ap (command_of k) (sym (said_is us start fit (sym e)))

  pub taken_by : (o : Uses) → UsesFit o → guard true (Some start) ≡ rows_of_uses [] o → option_and_then (command_if_single k) o ≡ command_of k (said_in start)
  taken_by None fit e = absurd (some_none start e)
  taken_by (Some us) fit e = taken us fit e

  pub refused_by : (o : Uses) → UsesFit o → guard false (Some start) ≡ rows_of_uses [] o → option_and_then (command_if_single k) o ≡ None
  refused_by None fit e = refl
  refused_by (Some us) fit e =
      let twice : false ≡ is_single us = ap is_some e ∙ single us fit in
      ap (λ b. cond b (command_of k (said_by us)) None) (sym twice)

decided : (b : Bool) (k : CommandName) (words : List Text) → AreTexts words → clean (words_fault (text_of k) (settings_of k) words) ≡ b
    → guard b (Some (start_rows (text_of k) (settings_of k) words)) ≡ rows_of_uses [] (uses (settings_of k) None words)
decided b k words texts e =
    ap (λ c. guard c (Some (start_rows (text_of k) (settings_of k) words))) (sym e) ∙ uses_decide (text_of k) (settings_of k) words texts

no_clean : (k : Kinds) → clean k ≡ false → clean k ≡ true → ⊥
no_clean k unclean taken = cc

pub command_taken : (words : List Text) → AreTexts words → clean (fault_of regent words) ≡ true
    → command words ≡ option_and_then command_by (subcommand_of regent words)
command_taken [] texts e = absurd (no_clean (fault_of regent []) fault_empty e)
command_taken (p ∷ []) texts e = absurd (no_clean (fault_of regent (p ∷ [])) (fault_lone p) e)
command_taken (p ∷ w ∷ words) texts e = go (command_named w) refl
  where
    go : (o : Option CommandName) → command_named w ≡ o → command (p ∷ w ∷ words) ≡ option_and_then command_by (subcommand_of regent (p ∷ w ∷ words))
    go None none = absurd (no_clean (fault_of regent (p ∷ w ∷ words)) (fault_unnamed p w words texts.1.0 none) e)
    go (Some k) is =
        ap (option_and_then (λ name. named_command name words)) is
        ∙ taken_by k (start_rows (text_of k) (settings_of k) words) (uses (settings_of k) None words) (fitting (settings_of k) words).0
        (decided true k words texts.1.1 (ap clean (sym (fault_found k p w words is)) ∙ e))
        ∙ ap (command_of k) (sym (defaults_say (settings_of k) (start_rows (text_of k) (settings_of k) words)))
        ∙ ap (option_and_then (λ name. command_of name (said_in (rows_after (rules (settings_of k)) [] words)))) (sym (named_back k))
        ∙ ap (option_and_then command_by) (sym (entered_found k p w words is))

pub command_refused : (words : List Text) → AreTexts words → clean (fault_of regent words) ≡ false → command words ≡ None
command_refused [] texts e = refl
command_refused (p ∷ []) texts e = refl
command_refused (p ∷ w ∷ words) texts e = go (command_named w) refl
  where
    go : (o : Option CommandName) → command_named w ≡ o → command (p ∷ w ∷ words) ≡ None
    go None none = ap (option_and_then (λ name. named_command name words)) none
    go (Some k) is =
        ap (option_and_then (λ name. named_command name words)) is
        ∙ refused_by k (start_rows (text_of k) (settings_of k) words) (uses (settings_of k) None words) (fitting (settings_of k) words).0
        (decided false k words texts.1.1 (ap clean (sym (fault_found k p w words is)) ∙ e))
