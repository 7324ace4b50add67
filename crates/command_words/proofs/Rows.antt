-- What is found in the rows that uses leave.
use Rattle.std.proofs.Common.{◌≡◌, ◌∙◌, Bool, cond, true, false, not, List, [], ◌∷◌, ◌++◌, Option, Some, None, refl, ap, sym, codes, option_map, bytes_eq, find, ◌||◌, is_some, option_and_then, slice_get}
use Rattle.std.specs.Prelude.{unwrap_or}
use Rattle.std.proofs.lemmas.Slice.Eq.{bytes_eq-Decides}
use Rattle.clap.specs.Walk.{Row, Text, all_of, first_of, has_row, reading_by, more_values, stronger, with_values, without}
use Rattle.clap.specs.declared.builder.value_parser.Reading.{Reading}
use Rattle.clap.specs.declared.parser.matches.ValueSource.{ValueSource}
use Rattle.clap.specs.declared.parser.matches.ValueSource.TheVariants.{CommandLine}
use Rattle.command_words.specs.Settings.{Setting, dump, name_of, same_setting, takes_value, trace, turns, workers}
use Rattle.command_words.specs.Uses.{Use, flag, option, positional}
use Rattle.command_words.proofs.Rules.{rule, words_rule}
use Rattle.command_words.proofs.Walking.{after, is_new}

-- ---- rows of one id

pub has_is : (q : Text) (rows : List Row) → has_row q rows ≡ is_some (all_of q rows)
has_is q [] = refl
has_is q (r ∷ rs) = go (bytes_eq r.id q) (has_is q rs)
  where
    go : (b : Bool) → has_row q rs ≡ is_some (all_of q rs) → (b || has_row q rs) ≡ is_some (option_map (λ x. x.values) (cond b (Some r) (find (λ x. bytes_eq x.id q) rs)))
    go true more = refl
    go false more = more

pub none_kept : (id : Text) (rows : List Row) → has_row id rows ≡ false → without id rows ≡ rows
none_kept id [] none = refl
none_kept id (r ∷ rs) none = go (bytes_eq r.id id) none (none_kept id rs)
  where
    go : (b : Bool) → (b || has_row id rs) ≡ false → (has_row id rs ≡ false → without id rs ≡ rs) → cond b ([] ++ rs) (r ∷ without id rs) ≡ r ∷ rs
    go true e more = cc
    go false e more = ap (λ x. r ∷ x) (more e)

module _ (id : Text) (how : Reading) (src : ValueSource) (vs : List Text) where
  -- the row of the id, with these values too
  abbrev changed : Row → Row
  changed r = record r { values = r.values ++ vs; source = Some (stronger r.source src) }

  pub same_row : bytes_eq id id ≡ true → (rows : List Row) → all_of id (with_values id how src vs rows) ≡ Some (unwrap_or (all_of id rows) [] ++ vs)
  same_row own [] = ap (λ b. option_map (λ (x : Row). x.values) (cond b (Some (record { id = id; values = vs; count = None; source = Some src; reading = how })) None)) own
  same_row own (r ∷ rs) = go (bytes_eq r.id id) refl (same_row own rs)
    where
      go : (b : Bool) → bytes_eq r.id id ≡ b → all_of id (with_values id how src vs rs) ≡ Some (unwrap_or (all_of id rs) [] ++ vs)
          → all_of id (cond b (more_values src vs r ++ rs) (r ∷ with_values id how src vs rs))
          ≡ Some (unwrap_or (option_map (λ x. x.values) (cond b (Some r) (find (λ x. bytes_eq x.id id) rs))) [] ++ vs)
      go true e more = ap (λ b. option_map (λ (x : Row). x.values) (cond b (Some (changed r)) (find (λ x. bytes_eq x.id id) rs))) e
      go false e more =
          ap (λ b. option_map (λ (x : Row). x.values) (cond b (Some r) (find (λ x. bytes_eq x.id id) (with_values id how src vs rs)))) e
          ∙ more

  pub other_row : (q : Text) → bytes_eq id q ≡ false → (rows : List Row) → all_of q (with_values id how src vs rows) ≡ all_of q rows
  other_row q other [] = ap (λ b. option_map (λ (x : Row). x.values) (cond b (Some (record { id = id; values = vs; count = None; source = Some src; reading = how })) None)) other
  other_row q other (r ∷ rs) = go (bytes_eq r.id id) refl (other_row q other rs)
    where
      passed : bytes_eq r.id id ≡ true → bytes_eq r.id q ≡ false
      passed e = ap (λ t. bytes_eq t q) ((bytes_eq-Decides r.id id).0 e) ∙ other

      go : (b : Bool) → bytes_eq r.id id ≡ b → all_of q (with_values id how src vs rs) ≡ all_of q rs → all_of q (cond b (more_values src vs r ++ rs) (r ∷ with_values id how src vs rs)) ≡ all_of q (r ∷ rs)
      go true e more =
          ap (λ b. option_map (λ (x : Row). x.values) (cond b (Some (changed r)) (find (λ x. bytes_eq x.id q) rs))) (passed e)
          ∙ ap (λ b. option_map (λ (x : Row). x.values) (cond b (Some r) (find (λ x. bytes_eq x.id q) rs))) (sym (passed e))
      go false e more = keep (bytes_eq r.id q) more
        where
          keep : (k : Bool) → all_of q (with_values id how src vs rs) ≡ all_of q rs → option_map (λ (x : Row). x.values) (cond k (Some r) (find (λ x. bytes_eq x.id q) (with_values id how src vs rs)))
              ≡ option_map (λ (x : Row). x.values) (cond k (Some r) (find (λ x. bytes_eq x.id q) rs))
          keep true e = refl
          keep false e = e

pub first_is : (q : Text) (rows : List Row) → first_of q rows ≡ option_and_then (λ vs. slice_get vs 0) (all_of q rows)
first_is q rows = go (find (λ x. bytes_eq x.id q) rows)
  where
    go : (o : Option Row) → option_and_then (λ r. slice_get r.values 0) o ≡ option_and_then (λ vs. slice_get vs 0) (option_map (λ x. x.values) o)
    go None = refl
    go (Some r) = refl

-- ---- settings apart

pub same_is : (t s : Setting) → same_setting t s ≡ true → t ≡ s
same_is workers workers e = refl
same_is workers turns e = cc
same_is workers dump e = cc
same_is workers trace e = cc
same_is turns workers e = cc
same_is turns turns e = refl
same_is turns dump e = cc
same_is turns trace e = cc
same_is dump workers e = cc
same_is dump turns e = cc
same_is dump dump e = refl
same_is dump trace e = cc
same_is trace workers e = cc
same_is trace turns e = cc
same_is trace dump e = cc
same_is trace trace e = refl

pub same_turned : (t s : Setting) → same_setting t s ≡ same_setting s t
same_turned workers workers = refl
same_turned workers turns = refl
same_turned workers dump = refl
same_turned workers trace = refl
same_turned turns workers = refl
same_turned turns turns = refl
same_turned turns dump = refl
same_turned turns trace = refl
same_turned dump workers = refl
same_turned dump turns = refl
same_turned dump dump = refl
same_turned dump trace = refl
same_turned trace workers = refl
same_turned trace turns = refl
same_turned trace dump = refl
same_turned trace trace = refl

-- a flag is no option
pub flag_apart : (t s : Setting) → takes_value t ≡ false → takes_value s ≡ true → same_setting t s ≡ false
flag_apart t s flag_t option_s = go (same_setting t s) refl
  where
    go : (b : Bool) → same_setting t s ≡ b → b ≡ false
    go false e = refl
    go true e = let is : takes_value t ≡ takes_value s = ap takes_value (same_is t s e) in cc

pub own_name : (t : Setting) → bytes_eq (name_of t) (name_of t) ≡ true
own_name workers = refl
own_name turns = refl
own_name dump = refl
own_name trace = refl

pub not_words : (t : Setting) → bytes_eq (name_of t) (codes "words") ≡ false
not_words workers = refl
not_words turns = refl
not_words dump = refl
not_words trace = refl

pub words_not : (t : Setting) → bytes_eq (codes "words") (name_of t) ≡ false
words_not workers = refl
words_not turns = refl
words_not dump = refl
words_not trace = refl

-- ---- after a use

-- a flag has no value, and an option has one
abbrev pub Fits : Use → Type 0
Fits (flag t) = takes_value t ≡ false
Fits (option t v) = takes_value t ≡ true
Fits (positional w) = Unit {0}

abbrev pub AllFit : List Use → Type 0
AllFit [] = Unit {0}
AllFit (u ∷ us) = Fits u × AllFit us

not_true : (b : Bool) → not b ≡ true → b ≡ false
not_true true e = cc
not_true false e = refl

abbrev set_with : Setting → List Text → List Row → List Row
set_with t vs rows = with_values (name_of t) (reading_by (rule t)) CommandLine vs rows

flag_after : (t : Setting) (rows : List Row) → takes_value t ≡ false → has_row (name_of t) rows ≡ false → after rows (flag t) ≡ set_with t (codes "true" ∷ []) rows
flag_after workers rows takes none = cc
flag_after turns rows takes none = cc
flag_after dump rows takes none = ap (set_with dump (codes "true" ∷ [])) (none_kept (codes "dump") rows none)
flag_after trace rows takes none = ap (set_with trace (codes "true" ∷ [])) (none_kept (codes "trace") rows none)

option_after : (t : Setting) (v : Text) (rows : List Row) → takes_value t ≡ true → has_row (name_of t) rows ≡ false → after rows (option t v) ≡ set_with t (v ∷ []) rows
option_after workers v rows takes none = ap (set_with workers (v ∷ [])) (none_kept (codes "workers") rows none)
option_after turns v rows takes none = ap (set_with turns (v ∷ [])) (none_kept (codes "turns") rows none)
option_after dump v rows takes none = cc
option_after trace v rows takes none = cc

pub none_found : (q : Text) (rows : List Row) → has_row q rows ≡ false → all_of q rows ≡ None
none_found q rows none = go (all_of q rows) (sym (has_is q rows) ∙ none)
  where
    go : (o : Option (List Text)) → is_some o ≡ false → o ≡ None
    go None e = refl
    go (Some vs) e = cc

set_found : (t s : Setting) (vs : List Text) (rows : List Row) → has_row (name_of t) rows ≡ false
    → all_of (name_of s) (set_with t vs rows) ≡ cond (same_setting t s) (Some vs) (all_of (name_of s) rows)
set_found t s vs rows none = go (same_setting t s) refl
  where
    go : (b : Bool) → same_setting t s ≡ b → all_of (name_of s) (set_with t vs rows) ≡ cond b (Some vs) (all_of (name_of s) rows)
    go true e =
        ap (λ u. all_of (name_of u) (set_with t vs rows)) (sym (same_is t s e))
        ∙ same_row (name_of t) (reading_by (rule t)) CommandLine vs (own_name t) rows
        ∙ ap (λ o. Some (unwrap_or o [] ++ vs)) (none_found (name_of t) rows none)
    go false e = other_row (name_of t) (reading_by (rule t)) CommandLine vs (name_of s) e rows

set_words : (t : Setting) (vs : List Text) (rows : List Row) → all_of (codes "words") (set_with t vs rows) ≡ all_of (codes "words") rows
set_words t vs rows = other_row (name_of t) (reading_by (rule t)) CommandLine vs (codes "words") (not_words t) rows

-- what is found of a setting after a use
abbrev pub found_after : Setting → Use → Option (List Text) → Option (List Text)
found_after s (flag t) o = cond (same_setting t s) (Some (codes "true" ∷ [])) o
found_after s (option t v) o = cond (same_setting t s) (Some (v ∷ [])) o
found_after s (positional w) o = o

pub setting_after : (s : Setting) (u : Use) (rows : List Row) → Fits u → is_new rows u ≡ true → all_of (name_of s) (after rows u) ≡ found_after s u (all_of (name_of s) rows)
setting_after s (flag t) rows fits new =
    let none = not_true (has_row (name_of t) rows) new in
    ap (all_of (name_of s)) (flag_after t rows fits none) ∙ set_found t s (codes "true" ∷ []) rows none
setting_after s (option t v) rows fits new =
    let none = not_true (has_row (name_of t) rows) new in
    ap (all_of (name_of s)) (option_after t v rows fits none) ∙ set_found t s (v ∷ []) rows none
setting_after s (positional w) rows fits new = other_row (codes "words") (reading_by words_rule) CommandLine (w ∷ []) (name_of s) (words_not s) rows

-- what is found of the positional words
abbrev pub words_in : List Row → List Text
words_in rows = unwrap_or (all_of (codes "words") rows) []

abbrev pub words_after : Use → List Text → List Text
words_after (flag t) ws = ws
words_after (option t v) ws = ws
words_after (positional w) ws = ws ++ w ∷ []

pub words_next : (u : Use) (rows : List Row) → Fits u → is_new rows u ≡ true → words_in (after rows u) ≡ words_after u (words_in rows)
words_next (flag t) rows fits new =
    let none = not_true (has_row (name_of t) rows) new in
    ap words_in (flag_after t rows fits none) ∙ ap (λ o. unwrap_or o []) (set_words t (codes "true" ∷ []) rows)
words_next (option t v) rows fits new =
    let none = not_true (has_row (name_of t) rows) new in
    ap words_in (option_after t v rows fits none) ∙ ap (λ o. unwrap_or o []) (set_words t (v ∷ []) rows)
words_next (positional w) rows fits new = ap (λ o. unwrap_or o []) (same_row (codes "words") (reading_by words_rule) CommandLine (w ∷ []) refl rows)
