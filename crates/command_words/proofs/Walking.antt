-- What clap's walk over the words behind a command comes to.
use Rattle.std.proofs.Common.{◌≡◌, ◌∙◌, ℕ, Bool, cond, true, false, not, List, [], ◌∷◌, map, Option, Some, None, refl, ap, ap₂, sym, codes, bytes_eq, slice_get, length, ◌&&◌, ◌++◌}
use Rattle.std.specs.Prelude.{drop, is_some, unwrap_or}
use Rattle.std.specs.Char.{encode_utf8}
use Rattle.std.specs.Option.{option_map_or}
use Rattle.std.specs.Str.{chars}
use Rattle.clap.specs.Lexer.{long_of, short_of}
use Rattle.clap.specs.Walk.{Held, Row, Rule, Step, Waiting, Walk, after_step, arg_by_long, has_row, idle, is_pending, long_or_other, long_word, option, positional, settled, short_or_plain, subcommand_met, subcommand_or_other, takes_values, to_positional, trailing, used, used_by_id, value, walked}
use Rattle.clap.specs.Simple.{Shape}
use Rattle.clap.specs.Kinds.{Kinds, or_else}
use Rattle.clap.specs.Faults.{bundle_fault, bundle_step_fault, flag_word_fault, flags_fault, long_fault, option_fault, other_fault, positional_fault, react_fault, settle_fault, short_fault, step_fault, stray_fault, turn_fault, use_fault}
use Rattle.clap.specs.declared.error.kind.ErrorKind.TheVariants as kind
use Rattle.command_words.specs.Settings.{Setting, Text, dump, name_of, takes_value, trace, turns, workers}
use Rattle.command_words.specs.Uses.{Form, Use, Uses, at_setting, at_word, flag, form_of, is_plain, uses, with_use}
use Rattle.command_words.specs.Uses as say
use Rattle.command_words.proofs.Rules.{by_index, by_short, by_words, level, rule, rules, words_rule}
use Rattle.command_words.proofs.Forms.{dashes}

-- ---- what a list of uses leaves

abbrev pub clean : Kinds → Bool
clean [] = true
clean (k ∷ ks) = false

-- the rows after one more use, and whether clap takes it
abbrev pub after : List Row → Use → List Row
after rows (say.flag s) = used (rule s) [] rows
after rows (say.option s v) = used (rule s) (v ∷ []) rows
after rows (say.positional w) = used words_rule (w ∷ []) rows

abbrev pub is_new : List Row → Use → Bool
is_new rows (say.flag s) = not (has_row (name_of s) rows)
is_new rows (say.option s v) = not (has_row (name_of s) rows)
is_new rows (say.positional w) = true

abbrev pub guard : Bool → Option (List Row) → Option (List Row)
guard b o = cond b o None

abbrev pub rows_of_all : List Row → List Use → Option (List Row)
rows_of_all rows [] = Some rows
rows_of_all rows (u ∷ us) = guard (is_new rows u) (rows_of_all (after rows u) us)

abbrev pub rows_of_uses : List Row → Uses → Option (List Row)
rows_of_uses rows None = None
rows_of_uses rows (Some us) = rows_of_all rows us

pub guard_none : (b : Bool) → guard b None ≡ None
guard_none true = refl
guard_none false = refl

pub guard_both : (a b : Kinds) (o : Option (List Row)) → guard (clean (or_else a b)) o ≡ guard (clean a) (guard (clean b) o)
guard_both [] b o = refl
guard_both (k ∷ ks) b o = refl

pub with_use_rows : (rows : List Row) (u : Use) (o : Uses) → rows_of_uses rows (with_use u o) ≡ guard (is_new rows u) (rows_of_uses (after rows u) o)
with_use_rows rows u None = sym (guard_none (is_new rows u))
with_use_rows rows u (Some us) = refl

-- ---- one use

once : (b : Bool) → clean (or_else (cond (b && true) (kind.ArgumentConflict ∷ []) []) []) ≡ not b
once true = refl
once false = refl

-- a setting is used with the values that it takes
abbrev pub values_for : Bool → Text → List Text
values_for true v = v ∷ []
values_for false v = []

pub use_clean : (s : Setting) (v : Text) (rows : List Row) → clean (use_fault false (rule s) (values_for (takes_value s) v) rows) ≡ not (has_row (name_of s) rows)
use_clean workers v rows = once (has_row (codes "workers") rows)
use_clean turns v rows = once (has_row (codes "turns") rows)
use_clean dump v rows = once (has_row (codes "dump") rows)
use_clean trace v rows = once (has_row (codes "trace") rows)

pub option_clean : (s : Setting) (v : Text) (rows : List Row) → takes_value s ≡ true → clean (use_fault false (rule s) (v ∷ []) rows) ≡ not (has_row (name_of s) rows)
option_clean s v rows takes = ap (λ b. clean (use_fault false (rule s) (values_for b v) rows)) (sym takes) ∙ use_clean s v rows

pub flag_clean : (s : Setting) (rows : List Row) → takes_value s ≡ false → clean (use_fault false (rule s) [] rows) ≡ not (has_row (name_of s) rows)
flag_clean s rows takes = ap (λ b. clean (use_fault false (rule s) (values_for b []) rows)) (sym takes) ∙ use_clean s [] rows

-- an option without a value
pub no_value : (s : Setting) (rows : List Row) → takes_value s ≡ true → clean (use_fault false (rule s) [] rows) ≡ false
no_value workers rows takes = refl
no_value turns rows takes = refl
no_value dump rows takes = cc
no_value trace rows takes = cc

pub takes_is : (s : Setting) → takes_values (rule s) ≡ takes_value s
takes_is workers = refl
takes_is turns = refl
takes_is dump = refl
takes_is trace = refl

-- ---- the walk

abbrev pub held : List Row → Option (Text × List Text) → Held
held rows pending = record { rows = rows; pending = pending; skip = 0 }

abbrev pub at : Held → Waiting → Bool → Walk
at h waiting is_trailing = record { held = h; waiting = waiting; position = 1; is_trailing = is_trailing; stopped = None }

module _ (name : Text) (known : List Setting) where
  abbrev pub c : List Rule
  c = rules known

  abbrev pub s : Shape
  s = level name known

  abbrev pub fault_at : Held → Kinds
  fault_at h = settle_fault c false h

  abbrev pub rows_at : Held → List Row
  rows_at h = (settled c h).rows

  -- the rows that a walk leaves, where no step of it is at fault
  abbrev pub walk_rows : Walk → List Text → Option (List Row)
  walk_rows w [] = guard (clean (settle_fault (rules known) false w.held)) (Some (settled (rules known) w.held).rows)
  walk_rows w (x ∷ xs) = guard (clean (turn_fault (level name known) [] w x)) (walk_rows (walked (rules known) [] w x) xs)

  abbrev pub took : List Row → Option (Text × List Text) → Text → Held
  took rows p x = held (rows_at (held rows p)) (Some (codes "words", x ∷ []))

  -- ---- a positional word

  settles : (b : Bool) (ks : Kinds) → cond (b && false) [] ks ≡ ks
  settles true ks = refl
  settles false ks = refl

  held_on : (b : Bool) (h : Held) (x : Text) → record (cond (b && false) h (settled c h)) {
    pending = Some (
      (unwrap_or (cond (b && false) h (settled c h)).pending (codes "words", [])).0,
      (unwrap_or (cond (b && false) h (settled c h)).pending (codes "words", [])).1 ++ x ∷ [],
    );
  } ≡ record (settled c h) { pending = Some (codes "words", x ∷ []) }
  held_on true h x = refl
  held_on false h x = refl

  pub positional_step : (h : Held) → step_fault s 1 h value ≡ fault_at h
  positional_step h =
      ap (λ o. option_map_or (λ a. positional_fault c false a h) o (stray_fault s)) (by_index known)
      ∙ settles (is_pending words_rule h.pending) (fault_at h)

  pub positional_after : (rows : List Row) (p : Option (Text × List Text)) (x : Text) (waiting : Waiting) (t : Bool)
      → after_step c x (at (held rows p) waiting t) (held rows p) value ≡ at (took rows p x) positional t
  positional_after rows p x waiting true =
      ap (λ o. to_positional c o x (at (held rows p) waiting true) (held rows p)) (by_index known)
      ∙ ap (λ h. at h positional true) (held_on (is_pending words_rule p) (held rows p) x)
  positional_after rows p x waiting false =
      ap (λ o. to_positional c o x (at (held rows p) waiting false) (held rows p)) (by_index known)
      ∙ ap (λ h. at h positional false) (held_on (is_pending words_rule p) (held rows p) x)

  pub took_fault : (rows : List Row) (p : Option (Text × List Text)) (x : Text) → fault_at (took rows p x) ≡ []
  took_fault rows p x = ap (λ o. option_map_or (λ a. use_fault false a (x ∷ []) (rows_at (held rows p))) o []) (by_words known)

  pub took_rows : (rows : List Row) (p : Option (Text × List Text)) (x : Text) → rows_at (took rows p x) ≡ used words_rule (x ∷ []) (rows_at (held rows p))
  took_rows rows p x = ap (λ o. used_by_id o (x ∷ []) (rows_at (held rows p))) (by_words known)

  -- ---- behind `--`

  trailing_walked : (rows : List Row) (p : Option (Text × List Text)) (waiting : Waiting) (x : Text)
      → walked c [] (at (held rows p) waiting true) x ≡ at (took rows p x) positional true
  unfolding walked
  trailing_walked rows p waiting x = positional_after rows p x waiting true

  pub trailing_rows : (xs : List Text) (rows : List Row) (p : Option (Text × List Text)) (waiting : Waiting)
      → walk_rows (at (held rows p) waiting true) xs ≡ guard (clean (fault_at (held rows p))) (rows_of_all (rows_at (held rows p)) (map say.positional xs))
  trailing_rows [] rows p waiting = refl
  trailing_rows (x ∷ xs) rows p waiting =
      ap₂ (λ k w. guard (clean k) (walk_rows w xs)) (positional_step (held rows p)) (trailing_walked rows p waiting x)
      ∙ ap (guard (clean (fault_at (held rows p))))
      (trailing_rows xs (rows_at (held rows p)) (Some (codes "words", x ∷ [])) positional
      ∙ ap₂ (λ k r. guard (clean k) (rows_of_all r (map say.positional xs))) (took_fault rows p x) (took_rows rows p x))

  -- ---- before `--`

  none_met : (waiting : Waiting) (x : Text) → subcommand_met [] waiting x ≡ None
  none_met idle x = refl
  none_met (option id) x = refl
  none_met positional x = refl

  abbrev pub flagged : Option (Text × Option Text) → Option Text → Held → Kinds
  flagged (Some p) short h = long_fault (rules known) false (arg_by_long (rules known) p.0) p.1 h
  flagged None short h = option_map_or (λ flags. bundle_fault (rules known) false flags h) short []

  abbrev pub stepped : Waiting → Text → Option (Text × Option Text) → Option Text → Held → Held × Step
  stepped waiting x (Some p) short h = long_word (rules known) waiting x p.0 p.1 h
  stepped waiting x None short h = short_or_plain (rules known) waiting x short h

  abbrev pub met_of : Held → Waiting → Text → Bool → Option (Text × Option Text) → Option Text → Held × Step
  met_of h waiting x b l sh = cond b (h, trailing 1) (stepped waiting x l sh h)

  abbrev pub turn_of : Held → Waiting → Text → Bool → Option (Text × Option Text) → Option Text → Kinds
  turn_of h waiting x b l sh = or_else (cond b [] (flagged l sh h)) (step_fault s 1 (met_of h waiting x b l sh).0 (met_of h waiting x b l sh).1)

  abbrev pub walk_of : Held → Waiting → Text → Bool → Option (Text × Option Text) → Option Text → Walk
  walk_of h waiting x b l sh = after_step c x (at h waiting false) (met_of h waiting x b l sh).0 (met_of h waiting x b l sh).1

  module _ (h : Held) (waiting : Waiting) (x : Text) (b : Bool) (l : Option (Text × Option Text)) (sh : Option Text)
      (b-is : bytes_eq x dashes ≡ b) (l-is : long_of x ≡ l) (sh-is : short_of x ≡ sh) where
    turn_cases : (o : Option (Text × Option Text)) → or_else (cond b [] (flag_word_fault c false o x h))
        (step_fault s 1 (cond b (h, trailing 1) (long_or_other c waiting x o h)).0 (cond b (h, trailing 1) (long_or_other c waiting x o h)).1)
        ≡ turn_of h waiting x b o sh
    turn_cases (Some p) = refl
    turn_cases None = λ i. turn_of h waiting x b None (sh-is i)

    walk_cases : (o : Option (Text × Option Text))
        → after_step c x (at h waiting false) (cond b (h, trailing 1) (long_or_other c waiting x o h)).0 (cond b (h, trailing 1) (long_or_other c waiting x o h)).1
        ≡ walk_of h waiting x b o sh
    walk_cases (Some p) = refl
    walk_cases None = λ i. walk_of h waiting x b None (sh-is i)

    turn_seen : turn_fault s [] (at h waiting false) x ≡ turn_of h waiting x b l sh
    turn_seen =
        ap (λ o. or_else (other_fault s o x h)
        (step_fault s 1 (subcommand_or_other c o waiting 1 x h).0 (subcommand_or_other c o waiting 1 x h).1)) (none_met waiting x)
        ∙ (λ i. or_else (cond (b-is i) [] (flag_word_fault c false (l-is i) x h))
        (step_fault s 1 (cond (b-is i) (h, trailing 1) (long_or_other c waiting x (l-is i) h)).0
        (cond (b-is i) (h, trailing 1) (long_or_other c waiting x (l-is i) h)).1))
        ∙ turn_cases l

    walked_seen : walked c [] (at h waiting false) x ≡ walk_of h waiting x b l sh
    unfolding walked
    walked_seen =
        ap (λ o. after_step c x (at h waiting false) (subcommand_or_other c o waiting 1 x h).0 (subcommand_or_other c o waiting 1 x h).1) (none_met waiting x)
        ∙ (λ i. after_step c x (at h waiting false) (cond (b-is i) (h, trailing 1) (long_or_other c waiting x (l-is i) h)).0
        (cond (b-is i) (h, trailing 1) (long_or_other c waiting x (l-is i) h)).1)
        ∙ walk_cases l

    pub seen : (xs : List Text) → walk_rows (at h waiting false) (x ∷ xs) ≡ guard (clean (turn_of h waiting x b l sh)) (walk_rows (walk_of h waiting x b l sh) xs)
    seen xs = ap₂ (λ k w. guard (clean k) (walk_rows w xs)) turn_seen walked_seen

  -- ---- refusals

  pub at_fault : (a b : Kinds) (o : Option (List Row)) → clean a ≡ false → guard (clean (or_else a b)) o ≡ None
  at_fault a b o e = guard_both a b o ∙ ap (λ t. guard t (guard (clean b) o)) e

  pub dashed_fault : (h : Held) (f y : ℕ) (fs : Text) → slice_get (chars (f ∷ fs)) 0 ≡ Some y → h.skip ≡ 0 → clean (bundle_fault c false (f ∷ fs) h) ≡ false
  unfolding flags_fault
  dashed_fault h f y fs first none =
      ap (λ k. clean (flags_fault c false (length (f ∷ fs)) (f ∷ fs) k (record h { skip = 0 }))) none
      ∙ ap (λ o. clean (bundle_step_fault c false o (f ∷ fs) 0 (record h { skip = 0 }) (flags_fault c false (length fs)))) first
      ∙ ap (λ o. clean (short_fault c false o (drop (length (encode_utf8 y)) (f ∷ fs)) (record h { skip = 0 }) (flags_fault c false (length fs) (drop (length (encode_utf8 y)) (f ∷ fs)) 0))) (by_short known y)

  pub unclean_first : (a b : Kinds) → clean a ≡ false → clean (or_else a b) ≡ false
  unclean_first [] b e = cc
  unclean_first (k ∷ ks) b e = refl

  pub long_unclean : (h : Held) (o : Option Rule) (v : Option Text) → clean (fault_at h) ≡ false → clean (long_fault c false o v h) ≡ false
  long_unclean h None v e = refl
  long_unclean h (Some a) v e = go (takes_values a) v
    where
      go : (k : Bool) (u : Option Text) → clean (cond k (option_fault c false a u h) (cond (is_some u) (kind.TooManyValues ∷ []) (react_fault c false a [] h))) ≡ false
      go true (Some y) = unclean_first (fault_at h) _ e
      go true None = e
      go false (Some y) = refl
      go false None = unclean_first (fault_at h) _ e
