-- The commands as clap builds them, and what it finds in their rules.
use Rattle.std.proofs.Common.{◌≡◌, ◌∙◌, ℕ, Bool, cond, true, false, List, [], ◌∷◌, ◌++◌, map, Option, Some, None, refl, ap, codes, option_map, bytes_eq, ◌||◌, ◌&&◌}
use Rattle.std.proofs.lemmas.Slice.Eq.{bytes_eq-Decides}
use Rattle.clap.specs.Walk.{Rule, arg_by_id, arg_by_index, arg_by_long, arg_by_short}
use Rattle.clap.specs.Simple.{Shape, built, filled, new_shape, with_index}
use Rattle.clap.specs.Faults.{is_simple_and_free}
use Rattle.command_words.specs.Parser.{regent, setting_rule, word_rule}
use Rattle.command_words.specs.Settings.{Setting, Text, check, dump, name_of, run, sample, setting_named, settings_of, trace, turns, workers}

-- the command that is given to clap is one of which its contract tells all
pub is_free : is_simple_and_free regent ≡ true
is_free = refl

-- ---- the same, built

abbrev pub rule : Setting → Rule
rule s = filled (setting_rule s)

abbrev pub words_rule : Rule
words_rule = with_index 1 (filled word_rule)

abbrev pub rules : List Setting → List Rule
rules known = map rule known ++ words_rule ∷ []

abbrev pub level : Text → List Setting → Shape
level name known = record (new_shape name) { rules = rules known; disable_help_flag = true; disable_help_subcommand = true; disable_version_flag = true; is_built = true }

abbrev pub levels : List Shape
levels = level (codes "run") (settings_of run) ∷ level (codes "check") (settings_of check) ∷ level (codes "sample") (settings_of sample) ∷ []

abbrev pub top : Shape
top = record (new_shape (codes "regent")) { is_leaf = false; disable_help_flag = true; disable_help_subcommand = true; disable_version_flag = true; subcommand_required = true; is_built = true }

pub built_is : built regent ≡ record { top = top; subs = levels }
built_is = refl

-- ---- what is found

first_long : (b : Bool) (s : Setting) (r : Option Rule) (o : Option Setting) → r ≡ option_map rule o
    → cond (true && (b || false)) (Some (rule s)) r ≡ option_map rule (cond b (Some s) o)
first_long true s r o e = refl
first_long false s r o e = e

pub by_long : (known : List Setting) (name : Text) → arg_by_long (rules known) name ≡ option_map rule (setting_named known name)
by_long [] name = refl
by_long (s ∷ known) name = first_long (bytes_eq (name_of s) name) s _ _ (by_long known name)

pub by_short : (known : List Setting) (x : ℕ) → arg_by_short (rules known) x ≡ None
by_short [] x = refl
by_short (s ∷ known) x = by_short known x

pub by_index : (known : List Setting) → arg_by_index (rules known) 1 ≡ Some words_rule
by_index [] = refl
by_index (s ∷ known) = by_index known

pub by_words : (known : List Setting) → arg_by_id (rules known) (codes "words") ≡ Some words_rule
by_words [] = refl
by_words (workers ∷ known) = by_words known
by_words (turns ∷ known) = by_words known
by_words (dump ∷ known) = by_words known
by_words (trace ∷ known) = by_words known

first_id : (b : Bool) (s t : Setting) (r : Option Rule) (o : Option Setting) → (o ≡ Some t → r ≡ Some (rule t))
    → cond b (Some s) o ≡ Some t → cond b (Some (rule s)) r ≡ Some (rule t)
first_id true s t r o more e = ap (option_map rule) e
first_id false s t r o more e = more e

pub by_id : (known : List Setting) (id : Text) (t : Setting) → setting_named known id ≡ Some t → arg_by_id (rules known) id ≡ Some (rule t)
by_id [] id t e = absurd (none_some e)
  where
    none_some : None ≡ Some t → ⊥
    none_some h = cc
by_id (s ∷ known) id t e = first_id (bytes_eq (name_of s) id) s t _ _ (by_id known id t) e

first_name : (b : Bool) (s t : Setting) (id : Text) (o : Option Setting) → bytes_eq (name_of s) id ≡ b → (o ≡ Some t → name_of t ≡ id)
    → cond b (Some s) o ≡ Some t → name_of t ≡ id
first_name true s t id o same more e = ap name_of (some_is s t e) ∙ (bytes_eq-Decides (name_of s) id).0 same
  where
    some_is : (u v : Setting) → Some u ≡ Some v → v ≡ u
    some_is u v h = cc
first_name false s t id o same more e = more e

-- the setting that is found has the name that was looked for
pub found_name : (known : List Setting) (id : Text) (t : Setting) → setting_named known id ≡ Some t → name_of t ≡ id
found_name [] id t e = absurd (none_some e)
  where
    none_some : None ≡ Some t → ⊥
    none_some h = cc
found_name (s ∷ known) id t e = first_name (bytes_eq (name_of s) id) s t id _ refl (found_name known id t) e

pub known_by_name : (known : List Setting) (id : Text) (t : Setting) → setting_named known id ≡ Some t → setting_named known (name_of t) ≡ Some t
known_by_name known id t e = ap (setting_named known) (found_name known id t e) ∙ e
