-- What the rows of all uses say is what the uses say.
use Rattle.std.proofs.Common.{◌≡◌, ◌∙◌, Bool, cond, true, false, not, List, [], ◌∷◌, ◌++◌, Option, Some, None, refl, ap, ap₂, sym, codes, ◌&&◌, ◌||◌, is_some, append_assoc, option_and_then, slice_get, append-nil}
use Rattle.std.specs.List.{list_all, list_any}
use Rattle.clap.specs.Walk.{Row, Text, all_of, first_of, has_row}
use Rattle.command_words.specs.Matched.{is_set, said_in}
use Rattle.command_words.specs.Commands.{said_by}
use Rattle.command_words.specs.Settings.{Setting, dump, name_of, same_setting, takes_value, trace, turns, workers}
use Rattle.command_words.specs.Uses.{Use, flag, has_flag, is_of, is_repeated, is_single, option, positional, positional_words, value_of}
use Rattle.command_words.proofs.Rows.{AllFit, Fits, first_is, found_after, has_is, same_is, same_turned, setting_after, flag_apart, words_after, words_in, words_next}
use Rattle.command_words.proofs.Walking.{after, guard, is_new, rows_of_all}

-- a step that passes, and what comes after it
passed : (b : Bool) (o : Option (List Row)) (rows : List Row) → guard b o ≡ Some rows → (b ≡ true) × (o ≡ Some rows)
passed true o rows e = (refl, e)
passed false o rows e = absurd (none_some e)
  where
    none_some : None ≡ Some rows → ⊥
    none_some h = cc

-- ---- positional words

append_more : (u : Use) (us : List Use) (ws : List Text) → words_after u ws ++ positional_words us ≡ ws ++ positional_words (u ∷ us)
append_more (flag t) us ws = refl
append_more (option t v) us ws = refl
append_more (positional w) us ws = append_assoc ws (w ∷ []) (positional_words us)

words_found : (us : List Use) (rows end : List Row) → AllFit us → rows_of_all rows us ≡ Some end → words_in end ≡ words_in rows ++ positional_words us
words_found [] rows end fit e = ap words_in (same rows end e) ∙ sym (append-nil (words_in rows))
  where
    same : (a b : List Row) → Some a ≡ Some b → b ≡ a
    same a b h = cc
words_found (u ∷ us) rows end fit e =
    let step = passed (is_new rows u) (rows_of_all (after rows u) us) end e in
    words_found us (after rows u) end fit.1 step.1
    ∙ ap (λ ws. ws ++ positional_words us) (words_next u rows fit.0 step.0)
    ∙ append_more u us (words_in rows)

-- ---- settings

-- what is found first is kept
abbrev or_first : Option (List Text) → Option (List Text) → Option (List Text)
or_first (Some vs) o = Some vs
or_first None o = o

abbrev told : Setting → List Use → Option (List Text)
told s [] = None
told s (u ∷ us) = found_after s u (told s us)

or_none : (o : Option (List Text)) → o ≡ or_first o None
or_none None = refl
or_none (Some vs) = refl

new_none : (s : Setting) (rows : List Row) → not (has_row (name_of s) rows) ≡ true → all_of (name_of s) rows ≡ None
new_none s rows new = go (all_of (name_of s) rows) (ap not (sym (has_is (name_of s) rows)) ∙ new)
  where
    go : (o : Option (List Text)) → not (is_some o) ≡ true → o ≡ None
    go None e = refl
    go (Some vs) e = cc

first_kept : (t s : Setting) (b : Bool) (vs : List Text) (o later : Option (List Text)) → (b ≡ true → o ≡ None)
    → or_first (cond b (Some vs) o) later ≡ or_first o (cond b (Some vs) later)
first_kept t s true vs o later none = ap (λ p. or_first p (Some vs)) (sym (none refl))
first_kept t s false vs o later none = refl

found_first : (s : Setting) (u : Use) (rows : List Row) (later : Option (List Text)) → is_new rows u ≡ true
    → or_first (found_after s u (all_of (name_of s) rows)) later ≡ or_first (all_of (name_of s) rows) (found_after s u later)
found_first s (flag t) rows later new =
    first_kept t s (same_setting t s) (codes "true" ∷ []) (all_of (name_of s) rows) later
    (λ e. ap (λ q. all_of (name_of q) rows) (sym (same_is t s e)) ∙ new_none t rows new)
found_first s (option t v) rows later new =
    first_kept t s (same_setting t s) (v ∷ []) (all_of (name_of s) rows) later
    (λ e. ap (λ q. all_of (name_of q) rows) (sym (same_is t s e)) ∙ new_none t rows new)
found_first s (positional w) rows later new = refl

setting_found : (s : Setting) (us : List Use) (rows end : List Row) → AllFit us → rows_of_all rows us ≡ Some end
    → all_of (name_of s) end ≡ or_first (all_of (name_of s) rows) (told s us)
setting_found s [] rows end fit e = ap (all_of (name_of s)) (same rows end e) ∙ or_none (all_of (name_of s) rows)
  where
    same : (a b : List Row) → Some a ≡ Some b → b ≡ a
    same a b h = cc
setting_found s (u ∷ us) rows end fit e =
    let step = passed (is_new rows u) (rows_of_all (after rows u) us) end e in
    setting_found s us (after rows u) end fit.1 step.1
    ∙ ap (λ o. or_first o (told s us)) (setting_after s u rows fit.0 step.0)
    ∙ found_first s u rows (told s us) step.0

-- the option's value, by what is told
abbrev first_text : Option (List Text) → Option Text
first_text = option_and_then (λ vs. slice_get vs 0)

value_told : (s : Setting) (us : List Use) → takes_value s ≡ true → AllFit us → first_text (told s us) ≡ value_of s us
value_told s [] takes fit = refl
value_told s (flag t ∷ us) takes fit =
    ap (λ b. first_text (cond b (Some (codes "true" ∷ [])) (told s us))) (flag_apart t s fit.0 takes) ∙ value_told s us takes fit.1
value_told s (option t v ∷ us) takes fit = go (same_setting t s) (value_told s us takes fit.1)
  where
    go : (b : Bool) → first_text (told s us) ≡ value_of s us → first_text (cond b (Some (v ∷ [])) (told s us)) ≡ cond b (Some v) (value_of s us)
    go true e = refl
    go false e = e
value_told s (positional w ∷ us) takes fit = value_told s us takes fit.1

flag_told : (s : Setting) (us : List Use) → takes_value s ≡ false → AllFit us → is_set (first_text (told s us)) ≡ has_flag s us
flag_told s [] takes fit = refl
flag_told s (flag t ∷ us) takes fit = go (same_setting t s) (flag_told s us takes fit.1)
  where
    go : (b : Bool) → is_set (first_text (told s us)) ≡ has_flag s us → is_set (first_text (cond b (Some (codes "true" ∷ [])) (told s us))) ≡ (b || has_flag s us)
    go true e = refl
    go false e = e
flag_told s (option t v ∷ us) takes fit =
    let apart : same_setting t s ≡ false = same_turned t s ∙ flag_apart s t takes fit.0 in
    ap (λ b. is_set (first_text (cond b (Some (v ∷ [])) (told s us)))) apart
    ∙ flag_told s us takes fit.1
    ∙ ap (λ b. b || has_flag s us) (sym apart)
flag_told s (positional w ∷ us) takes fit = flag_told s us takes fit.1

-- ---- no setting twice

abbrev all_new : List Row → List Use → Bool
all_new rows us = list_all (is_new rows) us

none_new : (us : List Use) → all_new [] us ≡ true
none_new [] = refl
none_new (flag t ∷ us) = none_new us
none_new (option t v ∷ us) = none_new us
none_new (positional w ∷ us) = none_new us

repeats : Use → Use → Bool
repeats (flag s) w = is_of s w
repeats (option s v) w = is_of s w
repeats (positional x) w = false

repeated_is : (u : Use) (us : List Use) → is_repeated u us ≡ list_any (repeats u) us
unfolding repeats
repeated_is (flag s) us = refl
repeated_is (option s v) us = refl
repeated_is (positional x) [] = refl
repeated_is (positional x) (w ∷ us) = repeated_is (positional x) us

has_found : (b : Bool) (vs : List Text) (o : Option (List Text)) → not (is_some (cond b (Some vs) o)) ≡ (not b && not (is_some o))
has_found true vs o = refl
has_found false vs o = refl

-- whether a setting is new after a use of another
new_setting : (s t : Setting) (vs : List Text) (rows next : List Row) → all_of (name_of t) next ≡ cond (same_setting s t) (Some vs) (all_of (name_of t) rows)
    → not (has_row (name_of t) next) ≡ (not (same_setting t s) && not (has_row (name_of t) rows))
new_setting s t vs rows next found =
    ap not (has_is (name_of t) next ∙ ap is_some found)
    ∙ has_found (same_setting s t) vs (all_of (name_of t) rows)
    ∙ ap₂ (λ a b. not a && not b) (same_turned s t) (sym (has_is (name_of t) rows))

new_after : (u w : Use) (rows : List Row) → Fits u → is_new rows u ≡ true → is_new (after rows u) w ≡ (not (repeats u w) && is_new rows w)
unfolding repeats
new_after (flag s) (flag t) rows fit new = new_setting s t (codes "true" ∷ []) rows (after rows (flag s)) (setting_after t (flag s) rows fit new)
new_after (flag s) (option t v) rows fit new = new_setting s t (codes "true" ∷ []) rows (after rows (flag s)) (setting_after t (flag s) rows fit new)
new_after (flag s) (positional w) rows fit new = refl
new_after (option s x) (flag t) rows fit new = new_setting s t (x ∷ []) rows (after rows (option s x)) (setting_after t (option s x) rows fit new)
new_after (option s x) (option t v) rows fit new = new_setting s t (x ∷ []) rows (after rows (option s x)) (setting_after t (option s x) rows fit new)
new_after (option s x) (positional w) rows fit new = refl
new_after (positional x) (flag t) rows fit new =
    ap not (has_is (name_of t) (after rows (positional x)) ∙ ap is_some (setting_after t (positional x) rows fit new) ∙ sym (has_is (name_of t) rows))
new_after (positional x) (option t v) rows fit new =
    ap not (has_is (name_of t) (after rows (positional x)) ∙ ap is_some (setting_after t (positional x) rows fit new) ∙ sym (has_is (name_of t) rows))
new_after (positional x) (positional w) rows fit new = refl

both_new : (a x b y : Bool) → ((not a && x) && (not b && y)) ≡ (not (a || b) && (x && y))
both_new true x b y = refl
both_new false true b y = refl
both_new false false true y = refl
both_new false false false y = refl

all_new_after : (u : Use) (us : List Use) (rows : List Row) → Fits u → is_new rows u ≡ true → all_new (after rows u) us ≡ (not (list_any (repeats u) us) && all_new rows us)
unfolding repeats
all_new_after u [] rows fit new = refl
all_new_after u (w ∷ us) rows fit new =
    ap₂ (λ a b. a && b) (new_after u w rows fit new) (all_new_after u us rows fit new)
    ∙ both_new (repeats u w) (is_new rows w) (list_any (repeats u) us) (all_new rows us)

moved : (a r y : Bool) → (a && (r && y)) ≡ ((r && a) && (true && y))
moved true true y = refl
moved true false y = refl
moved false true y = refl
moved false false y = refl

none_left : (x y : Bool) → false ≡ (x && (false && y))
none_left true y = refl
none_left false y = refl

single_is : (us : List Use) (rows : List Row) → AllFit us → is_some (rows_of_all rows us) ≡ (is_single us && all_new rows us)
single_is [] rows fit = refl
single_is (u ∷ us) rows fit = go (is_new rows u) refl (single_is us (after rows u) fit.1)
  where
    go : (n : Bool) → is_new rows u ≡ n → is_some (rows_of_all (after rows u) us) ≡ (is_single us && all_new (after rows u) us)
        → is_some (guard n (rows_of_all (after rows u) us)) ≡ ((not (is_repeated u us) && is_single us) && (n && all_new rows us))
    go true new more =
        more ∙ ap (λ b. is_single us && b) (all_new_after u us rows fit.0 new ∙ ap (λ b. not b && all_new rows us) (sym (repeated_is u us)))
        ∙ moved (is_single us) (not (is_repeated u us)) (all_new rows us)
    go false new more = none_left (not (is_repeated u us) && is_single us) (all_new rows us)

pub single : (us : List Use) → AllFit us → is_some (rows_of_all [] us) ≡ is_single us
single us fit = single_is us [] fit ∙ ap (λ b. is_single us && b) (none_new us) ∙ and_true (is_single us)
  where
    and_true : (b : Bool) → (b && true) ≡ b
    and_true true = refl
    and_true false = refl

-- ---- all of it

option_said : (s : Setting) (us : List Use) (end : List Row) → takes_value s ≡ true → AllFit us → rows_of_all [] us ≡ Some end → first_of (name_of s) end ≡ value_of s us
option_said s us end takes fit e = first_is (name_of s) end ∙ ap first_text (setting_found s us [] end fit e) ∙ value_told s us takes fit

flag_said : (s : Setting) (us : List Use) (end : List Row) → takes_value s ≡ false → AllFit us → rows_of_all [] us ≡ Some end → is_set (first_of (name_of s) end) ≡ has_flag s us
flag_said s us end takes fit e = ap is_set (first_is (name_of s) end ∙ ap first_text (setting_found s us [] end fit e)) ∙ flag_told s us takes fit

pub said_is : (us : List Use) (end : List Row) → AllFit us → rows_of_all [] us ≡ Some end → said_in end ≡ said_by us
said_is us end fit e = λ i. record {
  words = words_found us [] end fit e i;
  workers_text = option_said workers us end refl fit e i;
  turns_text = option_said turns us end refl fit e i;
  dumps = flag_said dump us end refl fit e i;
  traces = flag_said trace us end refl fit e i;
}
