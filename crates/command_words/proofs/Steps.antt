-- Clap's walk over the words behind a command leaves the rows of the uses that the words say, and is
-- at fault where they say none.
use Rattle.std.proofs.Common.{◌≡◌, ◌∙◌, Bool, cond, true, false, List, [], ◌∷◌, map, Option, Some, None, refl, ap, ap₂, sym, codes, option_map, bytes_eq, IsUtf8, is_some}
use Rattle.std.specs.Option.{option_map_or}
use Rattle.clap.specs.Lexer.{long_of, short_of}
use Rattle.clap.specs.Walk.{Held, Row, Rule, Step, Waiting, after_flag, after_step, arg_by_long, flag_met, idle, long_met, next, option, option_met, option_word, plain_word, positional, takes_values, used, used_by_id, value}
use Rattle.clap.specs.Kinds.{Kinds, or_else}
use Rattle.clap.specs.Faults.{long_fault, option_fault, react_fault, step_fault, use_fault}
use Rattle.clap.specs.declared.error.kind.ErrorKind.TheVariants as kind
use Rattle.command_words.specs.Settings.{Setting, Text, dump, name_of, setting_named, takes_value, trace, turns, workers}
use Rattle.command_words.specs.Uses.{Form, Use, Uses, at_option, at_flag, at_setting, at_word, dashed, form_of, is_plain, plain, separator, setting, uses, with_use}
use Rattle.command_words.specs.Uses as say
use Rattle.command_words.proofs.Rules.{by_id, by_long, known_by_name, level, rule, rules}
use Rattle.command_words.proofs.Forms.{dashes, first_char, looks, looks_dashed, looks_plain, looks_separate, looks_set}
use Rattle.command_words.proofs.Walking.{after, at, at_fault, clean, dashed_fault, fault_at, flag_clean, guard, guard_both, guard_none, held, is_new, long_unclean, no_value, option_clean, positional_after, positional_step, rows_at, rows_of_all, rows_of_uses, seen, takes_is, took_fault, took_rows, trailing_rows, walk_rows, with_use_rows}

-- nothing waits for a value
pub data Ready : Waiting → Type 0 where
  ready_idle : Ready idle
  ready_positional : Ready positional

-- the words are text
abbrev pub AreTexts : List Text → Type 0
AreTexts [] = Unit {0}
AreTexts (x ∷ xs) = IsUtf8 x × AreTexts xs

module _ (name : Text) (known : List Setting) where
  -- where nothing waits for a value
  abbrev pub Free : List Text → Type 0
  Free xs = (rows : List Row) (p : Option (Text × List Text)) (waiting : Waiting) → Ready waiting
      → walk_rows name known (at (held rows p) waiting false) xs
      ≡ guard (clean (fault_at name known (held rows p))) (rows_of_uses (rows_at name known (held rows p)) (uses known None xs))

  -- where an option does
  abbrev pub Waits : List Text → Type 0
  Waits xs = (rows : List Row) (t : Setting) → takes_value t ≡ true → setting_named known (name_of t) ≡ Some t
      → walk_rows name known (at (held rows (Some (name_of t, []))) (option (name_of t)) false) xs
      ≡ rows_of_uses rows (uses known (Some t) xs)

  -- ---- a word that names a setting, where nothing waits

  module _ (xs : List Text) (free : Free xs) (waits : Waits xs) (rows : List Row) (p : Option (Text × List Text)) (waiting : Waiting) (x : Text) where
    abbrev h : Held
    h = held rows p

    abbrev R : List Row
    R = rows_at name known (held rows p)

    abbrev F : Kinds
    F = fault_at name known (held rows p)

    abbrev rest : Option Setting → Uses
    rest w = uses known w xs

    -- clap's turn, by what is met
    abbrev goes : Kinds → Held × Step → Option (List Row)
    goes k m = guard (clean (or_else k (step_fault (level name known) 1 m.0 m.1))) (walk_rows name known (after_step (rules known) x (at (held rows p) waiting false) m.0 m.1) xs)

    used_once : (t : Setting) (vs : List Text) (u : Use) → clean (use_fault false (rule t) vs R) ≡ is_new R u → used (rule t) vs R ≡ after R u
        → guard (clean (or_else (or_else F (use_fault false (rule t) vs R)) []))
        (walk_rows name known (at (held (used (rule t) vs R) None) idle false) xs)
        ≡ guard (clean F) (rows_of_uses R (with_use u (uses known None xs)))
    used_once t vs u new same =
        guard_both (or_else F (use_fault false (rule t) vs R)) [] _
        ∙ guard_both F (use_fault false (rule t) vs R) _
        ∙ ap (λ o. guard (clean F) (guard (clean (use_fault false (rule t) vs R)) o)) (free (used (rule t) vs R) None idle ready_idle)
        ∙ ap₂ (λ b r. guard (clean F) (guard b (rows_of_uses r (uses known None xs)))) new same
        ∙ ap (guard (clean F)) (sym (with_use_rows R u (uses known None xs)))

    option_step : (t : Setting) (v : Option Text) → takes_value t ≡ true → setting_named known (name_of t) ≡ Some t
        → goes (option_fault (rules known) false (rule t) v (held rows p))
        (after_flag (rules known) waiting x (option_met (rules known) (rule t) v (held rows p)).0 (option_met (rules known) (rule t) v (held rows p)).1)
        ≡ guard (clean F) (rows_of_uses R (at_option t v (λ w. uses known w xs)))
    option_step t (Some y) takes is = used_once t (y ∷ []) (say.option t y) (option_clean t y R takes) refl
    option_step t None takes is = guard_both F [] _ ∙ ap (guard (clean F)) (waits R t takes is)

    flag_step : (t : Setting) (v : Option Text) → takes_value t ≡ false
        → goes (cond (is_some v) (kind.TooManyValues ∷ []) (react_fault (rules known) false (rule t) [] (held rows p)))
        (after_flag (rules known) waiting x (flag_met (rules known) (rule t) v (held rows p)).0 (flag_met (rules known) (rule t) v (held rows p)).1)
        ≡ guard (clean F) (rows_of_uses R (at_flag t v (λ w. uses known w xs)))
    flag_step t (Some y) takes = sym (guard_none (clean F))
    flag_step t None takes = used_once t [] (say.flag t) (flag_clean t R takes) refl

    known_step : (t : Setting) (v : Option Text) (k j : Bool) → k ≡ j → takes_value t ≡ j → setting_named known (name_of t) ≡ Some t
        → goes (cond k (option_fault (rules known) false (rule t) v (held rows p)) (cond (is_some v) (kind.TooManyValues ∷ []) (react_fault (rules known) false (rule t) [] (held rows p))))
        (after_flag (rules known) waiting x (cond k (option_met (rules known) (rule t) v (held rows p)) (flag_met (rules known) (rule t) v (held rows p))).0
        (cond k (option_met (rules known) (rule t) v (held rows p)) (flag_met (rules known) (rule t) v (held rows p))).1)
        ≡ guard (clean F) (rows_of_uses R (cond j (at_option t v (λ w. uses known w xs)) (at_flag t v (λ w. uses known w xs))))
    known_step t v true true same takes is = option_step t v takes is
    known_step t v false false same takes is = flag_step t v takes
    known_step t v true false same takes is = cc
    known_step t v false true same takes is = cc

    set_step : (n : Text) (v : Option Text) (o : Option Setting) → setting_named known n ≡ o
        → goes (long_fault (rules known) false (option_map rule o) v (held rows p))
        (after_flag (rules known) waiting x (long_met (rules known) (option_map rule o) v (held rows p)).0 (long_met (rules known) (option_map rule o) v (held rows p)).1)
        ≡ guard (clean F) (rows_of_uses R (at_setting o v (λ w. uses known w xs)))
    set_step n v None is = sym (guard_none (clean F))
    set_step n v (Some t) is =
        known_step t v (takes_values (rule t)) (takes_value t) (takes_is t) refl (known_by_name known n t is)

    pub long_step : (n : Text) (v : Option Text)
        → goes (long_fault (rules known) false (arg_by_long (rules known) n) v (held rows p))
        (after_flag (rules known) waiting x (long_met (rules known) (arg_by_long (rules known) n) v (held rows p)).0 (long_met (rules known) (arg_by_long (rules known) n) v (held rows p)).1)
        ≡ guard (clean F) (rows_of_uses R (at_setting (setting_named known n) v (λ w. uses known w xs)))
    long_step n v =
        ap (λ r. goes (long_fault (rules known) false r v (held rows p))
        (after_flag (rules known) waiting x (long_met (rules known) r v (held rows p)).0 (long_met (rules known) r v (held rows p)).1)) (by_long known n)
        ∙ set_step n v (setting_named known n) refl

  -- ---- any word

  positional_free : (xs : List Text) → Free xs → (rows : List Row) (p : Option (Text × List Text)) (waiting : Waiting) (x : Text)
      → guard (clean (or_else [] (step_fault (level name known) 1 (held rows p) value)))
      (walk_rows name known (after_step (rules known) x (at (held rows p) waiting false) (held rows p) value) xs)
      ≡ guard (clean (fault_at name known (held rows p))) (rows_of_uses (rows_at name known (held rows p)) (with_use (say.positional x) (uses known None xs)))
  positional_free xs free rows p waiting x =
      let R = rows_at name known (held rows p) in
      let F = fault_at name known (held rows p) in
      ap₂ (λ k w. guard (clean k) (walk_rows name known w xs)) (positional_step name known (held rows p)) (positional_after name known rows p x waiting false)
      ∙ ap (guard (clean F))
      (free R (Some (codes "words", x ∷ [])) positional ready_positional
      ∙ ap₂ (λ k r. guard (clean k) (rows_of_uses r (uses known None xs))) (took_fault name known rows p x) (took_rows name known rows p x)
      ∙ sym (with_use_rows R (say.positional x) (uses known None xs)))

  said : (rows : List Row) (p : Option (Text × List Text)) (x : Text) (xs : List Text) (f : Form) → form_of x ≡ f
      → guard (clean (fault_at name known (held rows p))) (rows_of_uses (rows_at name known (held rows p)) (at_word known f x xs (λ w. uses known w xs)))
      ≡ guard (clean (fault_at name known (held rows p))) (rows_of_uses (rows_at name known (held rows p)) (uses known None (x ∷ xs)))
  said rows p x xs f is = ap (λ g. guard (clean (fault_at name known (held rows p))) (rows_of_uses (rows_at name known (held rows p)) (at_word known g x xs (λ w. uses known w xs)))) (sym is)

  free_step : (x : Text) (xs : List Text) → IsUtf8 x → Free xs → Waits xs → Free (x ∷ xs)
  free_step x xs text free waits rows p waiting ready = elim (looks x) [
    | looks_plain form b l sh ↦ plain_case ready form b l sh
    | looks_separate form b ↦
        seen name known (held rows p) waiting x true (long_of x) (short_of x) b refl refl xs
        ∙ trailing_rows name known xs rows p waiting
        ∙ said rows p x xs separator form
    | looks_set n v form b l ↦
        seen name known (held rows p) waiting x false (Some (n, v)) (short_of x) b l refl xs
        ∙ long_step xs free waits rows p waiting x n v
        ∙ said rows p x xs (setting n v) form
    | looks_dashed f fs form b l sh is ↦
        let first = first_char x f fs text is in
        seen name known (held rows p) waiting x false None (Some (f ∷ fs)) b l sh xs
        ∙ at_fault name known _ _ _ (dashed_fault name known (held rows p) f first.0 fs first.1 refl)
        ∙ sym (guard_none (clean (fault_at name known (held rows p))))
        ∙ said rows p x xs dashed form
  ]
    where
      plain_case : {w : Waiting} → Ready w → form_of x ≡ plain → bytes_eq x dashes ≡ false → long_of x ≡ None → short_of x ≡ None
          → walk_rows name known (at (held rows p) w false) (x ∷ xs)
          ≡ guard (clean (fault_at name known (held rows p))) (rows_of_uses (rows_at name known (held rows p)) (uses known None (x ∷ xs)))
      plain_case ready_idle form b l sh =
          seen name known (held rows p) idle x false None None b l sh xs
          ∙ positional_free xs free rows p idle x ∙ said rows p x xs plain form
      plain_case ready_positional form b l sh =
          seen name known (held rows p) positional x false None None b l sh xs
          ∙ positional_free xs free rows p positional x ∙ said rows p x xs plain form

  -- an option that got no value is at fault
  waiting_fault : (rows : List Row) (t : Setting) → takes_value t ≡ true → setting_named known (name_of t) ≡ Some t
      → clean (fault_at name known (held rows (Some (name_of t, [])))) ≡ false
  waiting_fault rows t takes is =
      ap (λ o. clean (option_map_or (λ a. use_fault false a [] rows) o [])) (by_id known (name_of t) t is) ∙ no_value t rows takes

  own_name : (t : Setting) → bytes_eq (name_of t) (name_of t) ≡ true
  own_name workers = refl
  own_name turns = refl
  own_name dump = refl
  own_name trace = refl

  value_said : (rows : List Row) (t : Setting) (x : Text) (xs : List Text) (f : Form) → form_of x ≡ f
      → rows_of_uses rows (cond (is_plain f) (with_use (say.option t x) (uses known None xs)) None) ≡ rows_of_uses rows (uses known (Some t) (x ∷ xs))
  value_said rows t x xs f is = ap (λ g. rows_of_uses rows (cond (is_plain g) (with_use (say.option t x) (uses known None xs)) None)) (sym is)

  value_taken : (xs : List Text) → Free xs → (rows : List Row) (t : Setting) (x : Text) → takes_value t ≡ true → setting_named known (name_of t) ≡ Some t
      → walk_rows name known (at (held rows (Some (name_of t, x ∷ []))) idle false) xs ≡ rows_of_uses rows (with_use (say.option t x) (uses known None xs))
  value_taken xs free rows t x takes is =
      free rows (Some (name_of t, x ∷ [])) idle ready_idle
      ∙ ap (λ o. guard (clean (option_map_or (λ a. use_fault false a (x ∷ []) rows) o [])) (rows_of_uses (used_by_id o (x ∷ []) rows) (uses known None xs))) (by_id known (name_of t) t is)
      ∙ ap (λ b. guard b (rows_of_uses (used (rule t) (x ∷ []) rows) (uses known None xs))) (option_clean t x rows takes)
      ∙ sym (with_use_rows rows (say.option t x) (uses known None xs))

  -- what clap makes of the value
  abbrev taken : List Row → Setting → Text → Held × Step
  taken rows t x = (held rows (Some (name_of t, x ∷ [])), next idle)

  abbrev met_by : Option Rule → List Row → Setting → Text → Held × Step
  met_by o rows t x = (
    (option_word o (name_of t) x (held rows (Some (name_of t, [])))).0,
    next (option_word o (name_of t) x (held rows (Some (name_of t, [])))).1,
  )

  waits_step : (x : Text) (xs : List Text) → IsUtf8 x → Free xs → Waits (x ∷ xs)
  waits_step x xs text free rows t takes is =
      let h = held rows (Some (name_of t, [])) in
      let no = waiting_fault rows t takes is in
      elim (looks x) [
        | looks_plain form b l sh ↦
            seen name known h (option (name_of t)) x false None None b l sh xs
            ∙ ap (λ m. walk_rows name known (after_step (rules known) x (at h (option (name_of t)) false) m.0 m.1) xs) (plain_met rows t x takes is)
            ∙ value_taken xs free rows t x takes is
            ∙ value_said rows t x xs plain form
        | looks_separate form b ↦
            seen name known h (option (name_of t)) x true (long_of x) (short_of x) b refl refl xs
            ∙ trailing_rows name known xs rows (Some (name_of t, [])) (option (name_of t))
            ∙ ap (λ b. guard b (rows_of_all (rows_at name known h) (map say.positional xs))) no
            ∙ value_said rows t x xs separator form
        | looks_set n v form b l ↦
            seen name known h (option (name_of t)) x false (Some (n, v)) (short_of x) b l refl xs
            ∙ at_fault name known _ _ _ (long_unclean name known h (arg_by_long (rules known) n) v no)
            ∙ value_said rows t x xs (setting n v) form
        | looks_dashed f fs form b l sh is-x ↦
            let first = first_char x f fs text is-x in
            seen name known h (option (name_of t)) x false None (Some (f ∷ fs)) b l sh xs
            ∙ at_fault name known _ _ _ (dashed_fault name known h f first.0 fs first.1 refl)
            ∙ value_said rows t x xs dashed form
      ]
    where
      plain_met : (rows : List Row) (t : Setting) (x : Text) → takes_value t ≡ true → setting_named known (name_of t) ≡ Some t
          → plain_word (rules known) (option (name_of t)) x (held rows (Some (name_of t, []))) ≡ taken rows t x
      plain_met rows t x takes is =
          ap (λ o. met_by o rows t x) (by_id known (name_of t) t is)
          ∙ full t takes
        where
          full : (u : Setting) → takes_value u ≡ true
              → met_by (Some (rule u)) rows u x ≡ taken rows u x
          full workers e = refl
          full turns e = refl
          full dump e = cc
          full trace e = cc

  -- ---- all words

  pub walk_is : (xs : List Text) → AreTexts xs → Free xs × Waits xs
  walk_is [] texts = (λ rows p waiting ready. refl, λ rows t takes is. ap (λ b. guard b (Some (rows_at name known (held rows (Some (name_of t, [])))))) (waiting_fault rows t takes is))
  walk_is (x ∷ xs) texts =
      let more = walk_is xs texts.1 in
      (free_step x xs texts.0 more.0 more.1, waits_step x xs texts.0 more.0)
