-- What the code makes of clap's answer is what the words say.
use Rattle.std.proofs.Common.{◌≡◌, ◌∙◌, ◌≢◌, true, false, List, [], ◌∷◌, Option, Some, None, refl, ap, sym, subst, ⊎_elim, option_map, option_and_then}
use Rattle.std.specs.Prelude.{String}
use Rattle.std.proofs.lemmas.Str.{IsUtf8-string_bytes}
use Rattle.clap.specs.Words.{App, HasKind, HasMatchesOf, IsAmong, Kinds, Row, fault_of, is_simple, is_simple_and_free, kind_of, subcommand_name_of, subcommand_of, subcommand_rows_of}
use Rattle.clap.specs.declared.error.Error.{Error}
use Rattle.clap.specs.declared.error.kind.ErrorKind.{ErrorKind}
use Rattle.clap.specs.declared.error.kind.ErrorKind.TheVariants.{OutOfMemory}
use Rattle.clap.specs.declared.parser.matches.ArgMatches.{ArgMatches}
use Rattle.command_words.specs.Commands.{command}
use Rattle.command_words.specs.Given.{texts}
use Rattle.command_words.specs.Parser.{regent}
use Rattle.command_words.specs.Settings.{Text}
use Rattle.command_words.proofs.Rules.{is_free}
use Rattle.command_words.proofs.Steps.{AreTexts}
use Rattle.command_words.proofs.Walking.{clean}
use Rattle.command_words.proofs.Whole.{command_by, command_refused, command_taken}

pub are_texts : {Z : Type 0} (words : List (String Z)) → AreTexts (texts words)
are_texts [] = tt
are_texts (w ∷ words) = (IsUtf8-string_bytes w, are_texts words)

unclean : (k : ErrorKind) (kinds : Kinds) → IsAmong k kinds → clean kinds ≡ false
unclean k [] among = absurd among
unclean k (x ∷ xs) among = refl

-- an error that isn't want of memory is a refusal
pub refused_is : (words : List Text) (a : App) (e : Error) → AreTexts words → a ≡ regent → (is_simple_and_free a ≡ true → HasKind (fault_of a words) e)
    → kind_of e ≢ OutOfMemory → command words ≡ None
refused_is words a e texts same fails other =
    ⊎_elim (λ memory. absurd (other memory))
    (λ among. command_refused words texts (unclean (kind_of e) (fault_of regent words) (subst (λ (b : App). IsAmong (kind_of e) (fault_of b words)) same among)))
    (fails (ap is_simple_and_free same ∙ is_free))

-- a parse that passes gives the command
pub taken_is : (words : List Text) (a : App) (m : ArgMatches) → AreTexts words → a ≡ regent → (is_simple_and_free a ≡ true → fault_of a words ≡ [])
    → HasMatchesOf a words m → command words ≡ option_and_then command_by (subcommand_rows_of m)
taken_is words a m texts same passes matches =
    command_taken words texts (ap clean (ap (λ b. fault_of b words) (sym same) ∙ passes (ap is_simple_and_free same ∙ is_free)))
    ∙ ap (option_and_then command_by) (ap (λ b. subcommand_of b words) (sym same) ∙ sym (matches (ap is_simple same)).1)

-- ---- the command that clap entered

name_apart : {X : Type 0} (f : X → Text) (g : X → List Row) (o : Option X) → option_map f o ≡ option_map (λ (p : Text × List Row). p.0) (option_map (λ x. (f x, g x)) o)
name_apart f g None = refl
name_apart f g (Some x) = refl

name_of_rows : (m : ArgMatches) → subcommand_name_of m ≡ option_map (λ (p : Text × List Row). p.0) (subcommand_rows_of m)
name_of_rows m = name_apart _ _ _

both_halves : (o : Option (Text × List Row)) (n : Text) (rows : List Row) → option_map (λ (p : Text × List Row). p.0) o ≡ Some n → option_map (λ (p : Text × List Row). p.1) o ≡ Some rows → o ≡ Some (n, rows)
both_halves None n rows name here = cc
both_halves (Some p) n rows name here = λ i. Some (some_is p.0 n name i, some_is p.1 rows here i)
  where
    some_is : {X : Type 0} (x y : X) → Some x ≡ Some y → x ≡ y
    some_is x y e = cc

pub entered_is : (m : ArgMatches) (n : Text) (rows : List Row) → subcommand_name_of m ≡ Some n → option_map (λ (p : Text × List Row). p.1) (subcommand_rows_of m) ≡ Some rows
    → subcommand_rows_of m ≡ Some (n, rows)
entered_is m n rows name here = both_halves (subcommand_rows_of m) n rows (sym (name_of_rows m) ∙ name) here
