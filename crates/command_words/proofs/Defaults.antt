-- The defaults of flags say nothing new, and no last check of a command fails.
use Rattle.std.proofs.Common.{◌≡◌, ◌∙◌, Bool, cond, true, false, not, List, [], ◌∷◌, ◌++◌, Option, Some, refl, ap, sym, codes, bytes_eq, ◌&&◌, ◌||◌, option_and_then, slice_get, fold}
use Rattle.std.specs.Prelude.{unwrap_or}
use Rattle.std.specs.List.{list_any}
use Rattle.clap.specs.Walk.{Row, Text, all_of, first_of, has_row, reading_by, with_default, with_values}
use Rattle.clap.specs.Takes.{is_given}
use Rattle.clap.specs.Kinds.{Kinds, or_else}
use Rattle.clap.specs.Faults.{check_fault, default_fault, defaults_fault}
use Rattle.clap.specs.declared.error.kind.ErrorKind.TheVariants as kind
use Rattle.clap.specs.declared.parser.matches.ValueSource.TheVariants.{DefaultValue}
use Rattle.command_words.specs.Matched.{is_set, said_in}
use Rattle.command_words.specs.Settings.{Setting, dump, name_of, same_setting, takes_value, trace, turns, workers}
use Rattle.command_words.proofs.Rules.{level, rule, rules, words_rule}
use Rattle.command_words.proofs.Rows.{first_is, flag_apart, none_found, not_words, other_row, own_name, same_is, same_row}

-- ---- the rows

-- an argument without a default leaves the rows
kept : (b : Bool) (rows : List Row) → cond b rows rows ≡ rows
kept true rows = refl
kept false rows = refl

words_kept : (rows : List Row) → with_default rows words_rule ≡ rows
words_kept rows = kept (has_row (codes "words") rows) rows

option_kept : (t : Setting) (rows : List Row) → takes_value t ≡ true → with_default rows (rule t) ≡ rows
option_kept workers rows e = kept (has_row (codes "workers") rows) rows
option_kept turns rows e = kept (has_row (codes "turns") rows) rows
option_kept dump rows e = cc
option_kept trace rows e = cc

abbrev with_false : Setting → List Row → List Row
with_false t rows = with_values (name_of t) (reading_by (rule t)) DefaultValue (codes "false" ∷ []) rows

flag_default : (t : Setting) (rows : List Row) → takes_value t ≡ false → with_default rows (rule t) ≡ cond (has_row (name_of t) rows) rows (with_false t rows)
flag_default workers rows e = cc
flag_default turns rows e = cc
flag_default dump rows e = refl
flag_default trace rows e = refl

-- another id than that of a flag is found as before
other_kept : (t : Setting) (q : Text) (rows : List Row) → (takes_value t ≡ false → bytes_eq (name_of t) q ≡ false) → all_of q (with_default rows (rule t)) ≡ all_of q rows
other_kept t q rows other = go (takes_value t) refl
  where
    chosen : (b : Bool) → bytes_eq (name_of t) q ≡ false → all_of q (cond b rows (with_false t rows)) ≡ all_of q rows
    chosen true e = refl
    chosen false e = other_row (name_of t) (reading_by (rule t)) DefaultValue (codes "false" ∷ []) q e rows

    go : (b : Bool) → takes_value t ≡ b → all_of q (with_default rows (rule t)) ≡ all_of q rows
    go true e = ap (all_of q) (option_kept t rows e)
    go false e = ap (all_of q) (flag_default t rows e) ∙ chosen (has_row (name_of t) rows) (other e)

abbrev flag_of : Setting → List Row → Bool
flag_of s rows = is_set (first_of (name_of s) rows)

abbrev set_by : Option (List Text) → Bool
set_by o = is_set (option_and_then (λ vs. slice_get vs 0) o)

-- a flag that isn't used says false, as one that is not found
flag_kept : (t s : Setting) (rows : List Row) → flag_of s (with_default rows (rule t)) ≡ flag_of s rows
flag_kept t s rows = go (takes_value t) refl
  where
    here : (b : Bool) → same_setting t s ≡ b → has_row (name_of t) rows ≡ false → set_by (all_of (name_of s) (with_false t rows)) ≡ set_by (all_of (name_of s) rows)
    here true e none =
        ap (λ u. set_by (all_of (name_of u) (with_false t rows))) (sym (same_is t s e))
        ∙ ap set_by (same_row (name_of t) (reading_by (rule t)) DefaultValue (codes "false" ∷ []) (own_name t) rows
        ∙ ap (λ o. Some (unwrap_or o [] ++ codes "false" ∷ [])) (none_found (name_of t) rows none))
        ∙ ap set_by (sym (none_found (name_of t) rows none))
        ∙ ap (λ u. set_by (all_of (name_of u) rows)) (same_is t s e)
    here false e none = ap set_by (other_row (name_of t) (reading_by (rule t)) DefaultValue (codes "false" ∷ []) (name_of s) e rows)

    chosen : (b : Bool) → has_row (name_of t) rows ≡ b → flag_of s (cond b rows (with_false t rows)) ≡ flag_of s rows
    chosen true e = refl
    chosen false e =
        ap is_set (first_is (name_of s) (with_false t rows)) ∙ here (same_setting t s) refl e ∙ ap is_set (sym (first_is (name_of s) rows))

    go : (b : Bool) → takes_value t ≡ b → flag_of s (with_default rows (rule t)) ≡ flag_of s rows
    go true e = ap (flag_of s) (option_kept t rows e)
    go false e = ap (flag_of s) (flag_default t rows e) ∙ chosen (has_row (name_of t) rows) refl

option_first : (t s : Setting) (rows : List Row) → takes_value s ≡ true → first_of (name_of s) (with_default rows (rule t)) ≡ first_of (name_of s) rows
option_first t s rows takes =
    first_is (name_of s) (with_default rows (rule t))
    ∙ ap (option_and_then (λ vs. slice_get vs 0)) (other_kept t (name_of s) rows (λ flag_t. flag_apart t s flag_t takes))
    ∙ sym (first_is (name_of s) rows)

one_default : (t : Setting) (rows : List Row) → said_in (with_default rows (rule t)) ≡ said_in rows
one_default t rows = λ i. record {
  words = unwrap_or (other_kept t (codes "words") rows (λ e. not_words t) i) [];
  workers_text = option_first t workers rows refl i;
  turns_text = option_first t turns rows refl i;
  dumps = flag_kept t dump rows i;
  traces = flag_kept t trace rows i;
}

pub defaults_say : (known : List Setting) (rows : List Row) → said_in (fold with_default rows (rules known)) ≡ said_in rows
defaults_say [] rows = ap said_in (words_kept rows)
defaults_say (t ∷ known) rows = defaults_say known (with_default rows (rule t)) ∙ one_default t rows

-- ---- the last checks

pub none_either : (b : Bool) → ◌≡◌ {A = Kinds} (cond b [] []) []
none_either true = refl
none_either false = refl

default_none : (t : Setting) (rows : List Row) → default_fault rows (rule t) ≡ []
default_none workers rows = none_either (has_row (codes "workers") rows || true)
default_none turns rows = none_either (has_row (codes "turns") rows || true)
default_none dump rows = none_either (has_row (codes "dump") rows || false)
default_none trace rows = none_either (has_row (codes "trace") rows || false)

pub defaults_none : (known : List Setting) (rows : List Row) → defaults_fault rows (rules known) ≡ []
unfolding defaults_fault
defaults_none [] rows = ap (λ k. or_else k []) (none_either (has_row (codes "words") rows || true))
defaults_none (t ∷ known) rows =
    ap (λ k. or_else k (defaults_fault (with_default rows (rule t)) (rules known))) (default_none t rows) ∙ defaults_none known (with_default rows (rule t))

none_required : (known : List Setting) (rows : List Row) → list_any (λ a. a.required && not (is_given a.id rows)) (rules known) ≡ false
none_required [] rows = refl
none_required (t ∷ known) rows = none_required known rows

pub checks_none : (name : Text) (known : List Setting) (rows : List Row) → check_fault (level name known) rows false ≡ []
checks_none name known rows = ap (λ b. cond b (kind.MissingRequiredArgument ∷ []) []) (none_required known rows)
