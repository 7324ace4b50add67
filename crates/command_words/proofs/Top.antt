-- What a parse makes of all the words: it finds the command that the second word names, or it fails.
use Rattle.std.proofs.Common.{◌≡◌, ◌∙◌, ℕ, Bool, cond, true, false, List, [], ◌∷◌, ◌++◌, length, Option, Some, None, refl, ap, ap₂, sym, codes, option_map, bytes_eq, ◌||◌, is_some, fold, append_assoc, slice_get, IsUtf8, append-nil}
use Rattle.std.specs.Str.{chars}
use Rattle.std.specs.Option.{option_map_or}
use Rattle.clap.specs.Lexer.{long_of, short_of}
use Rattle.clap.specs.Walk.{Names, Walk, after_step, finished, idle, long_or_other, nothing_held, rows_after, settled, short_or_plain, subcommand_met, subcommand_or_other, trailing, walk_from, walked}
use Rattle.clap.specs.Simple.{App, entered, names_of, subcommand_of}
use Rattle.clap.specs.Kinds.{Kinds, or_else}
use Rattle.clap.specs.Faults.{bundle_fault, bundle_step_fault, check_fault, defaults_fault, entered_fault, fault_of, flag_word_fault, flags_fault, other_fault, settle_fault, step_fault, turn_fault, walk_fault}
use Rattle.clap.proofs.OnLiterals.{clap_on_literals}
use Rattle.command_words.specs.Settings.{CommandName, Text, check, command_named, run, sample, settings_of}
use Rattle.command_words.proofs.Forms.{dashes, first_char, looks, looks_dashed, looks_plain, looks_separate, looks_set}
use Rattle.command_words.specs.Parser.{regent}
use Rattle.command_words.proofs.Rules.{levels, rules, top}
use Rattle.command_words.proofs.Walking.{at, clean, unclean_first}
use Rattle.command_words.proofs.Levels.{or_else_none, words_fault}

abbrev pub text_of : CommandName → Text
text_of run = codes "run"
text_of check = codes "check"
text_of sample = codes "sample"

abbrev app : App
app = record { top = top; subs = levels }

abbrev names : Names
names = names_of (record { top = top; subs = levels })

-- ---- the second word

met_is : (w : Text) → subcommand_met names idle w ≡ option_map text_of (command_named w)
met_is w = go (bytes_eq (codes "run") w) (bytes_eq (codes "check") w) (bytes_eq (codes "sample") w)
  where
    go : (r c s : Bool) → option_map (λ (p : Text × List Text). p.0)
        (cond (r || false) (Some (codes "run", [])) (cond (c || false) (Some (codes "check", [])) (cond (s || false) (Some (codes "sample", [])) None)))
        ≡ option_map text_of (cond r (Some run) (cond c (Some check) (cond s (Some sample) None)))
    go true c s = refl
    go false true s = refl
    go false false true = refl
    go false false false = refl

abbrev first : Walk
first = walk_from nothing_held

abbrev stopped_at : Text → List Text → Walk
stopped_at name words = record (walk_from nothing_held) { stopped = Some (name, words) }

-- the walk is past the word
abbrev walked_by : Text → Option Text → Walk
walked_by w o = after_step [] w first (subcommand_or_other [] o idle 1 w nothing_held).0 (subcommand_or_other [] o idle 1 w nothing_held).1

abbrev turn_by : Text → Option Text → Kinds
turn_by w o = or_else (other_fault top o w nothing_held)
    (step_fault top 1 (subcommand_or_other [] o idle 1 w nothing_held).0 (subcommand_or_other [] o idle 1 w nothing_held).1)

walked_first : (w : Text) (o : Option Text) → subcommand_met names idle w ≡ o → walked [] names first w ≡ walked_by w o
unfolding walked
walked_first w o e = ap (walked_by w) e

turn_first : (w : Text) (o : Option Text) → subcommand_met names idle w ≡ o → turn_fault top names first w ≡ turn_by w o
turn_first w o e = ap (turn_by w) e

-- ---- the words behind it

past_stop : (name : Text) (before words : List Text) → fold (walked [] names) (stopped_at name before) words ≡ stopped_at name (before ++ words)
unfolding walked
past_stop name before [] = ap (stopped_at name) (sym (append-nil before))
past_stop name before (w ∷ words) = past_stop name (before ++ w ∷ []) words ∙ ap (stopped_at name) (append_assoc before (w ∷ []) words)

no_fault_past : (name : Text) (before words : List Text) → walk_fault top names (stopped_at name before) words ≡ []
unfolding walked walk_fault
no_fault_past name before [] = refl
no_fault_past name before (w ∷ words) = no_fault_past name (before ++ w ∷ []) words

-- ---- the parse as a whole

abbrev last_fault : Walk → Kinds
last_fault end = or_else (entered_fault app end.stopped) (or_else (settle_fault [] false end.held)
    (or_else (defaults_fault (settled [] end.held).rows []) (check_fault top (finished [] end.held) (is_some (entered app end.stopped)))))

abbrev all_fault : Kinds → Walk → List Text → Kinds
all_fault turn next words = or_else (or_else turn (walk_fault top names next words)) (last_fault (fold (walked [] names) next words))

fault_parts : (p w : Text) (words : List Text) → fault_of regent (p ∷ w ∷ words) ≡ all_fault (turn_fault top names first w) (walked [] names first w) words
unfolding walk_fault
fault_parts p w words = refl

last_at : (k : CommandName) (words : List Text) → last_fault (stopped_at (text_of k) words) ≡ words_fault (text_of k) (settings_of k) words
unfolding defaults_fault
last_at run words = or_else_none (words_fault (codes "run") (settings_of run) words)
last_at check words = or_else_none (words_fault (codes "check") (settings_of check) words)
last_at sample words = or_else_none (words_fault (codes "sample") (settings_of sample) words)

turn_none : (k : CommandName) (w : Text) → turn_by w (Some (text_of k)) ≡ []
turn_none run w = refl
turn_none check w = refl
turn_none sample w = refl

pub fault_found : (k : CommandName) (p w : Text) (words : List Text) → command_named w ≡ Some k
    → fault_of regent (p ∷ w ∷ words) ≡ words_fault (text_of k) (settings_of k) words
fault_found k p w words e =
    let met = met_is w ∙ ap (option_map text_of) e in
    fault_parts p w words
    ∙ ap₂ (λ t n. all_fault t n words) (turn_first w (Some (text_of k)) met ∙ turn_none k w) (walked_first w (Some (text_of k)) met)
    ∙ ap₂ (λ a b. or_else a (last_fault b)) (no_fault_past (text_of k) [] words) (past_stop (text_of k) [] words)
    ∙ last_at k words

pub entered_found : (k : CommandName) (p w : Text) (words : List Text) → command_named w ≡ Some k
    → subcommand_of regent (p ∷ w ∷ words) ≡ Some (text_of k, rows_after (rules (settings_of k)) [] words)
entered_found k p w words e =
    let met = met_is w ∙ ap (option_map text_of) e in
    ap (λ n. entered app (fold (walked [] names) n words).stopped) (walked_first w (Some (text_of k)) met)
    ∙ ap (λ n. entered app n.stopped) (past_stop (text_of k) [] words)
    ∙ here k
  where
    here : (j : CommandName) → entered app (Some (text_of j, words)) ≡ Some (text_of j, rows_after (rules (settings_of j)) [] words)
    here run = refl
    here check = refl
    here sample = refl

-- ---- no command

-- what is met where the word names no command
abbrev turn_seen : Text → Bool → Option (Text × Option Text) → Kinds
turn_seen w b l = or_else (cond b [] (flag_word_fault [] false l w nothing_held))
    (step_fault top 1 (cond b (nothing_held, trailing 1) (long_or_other [] idle w l nothing_held)).0
    (cond b (nothing_held, trailing 1) (long_or_other [] idle w l nothing_held)).1)

plain_turn : (w : Text) (sh : Option Text) → short_of w ≡ sh → sh ≡ None → clean (turn_seen w false None) ≡ false
plain_turn w sh is none =
    ap (λ (o : Option Text). clean (or_else (option_map_or (λ flags. bundle_fault [] false flags nothing_held) o [])
    (step_fault top 1 (short_or_plain [] idle w o nothing_held).0 (short_or_plain [] idle w o nothing_held).1))) (is ∙ none)

dashed_turn : (w fs : Text) (f c : ℕ) → short_of w ≡ Some (f ∷ fs) → slice_get (chars (f ∷ fs)) 0 ≡ Some c → clean (turn_seen w false None) ≡ false
unfolding flags_fault
dashed_turn w fs f c is some =
    ap (λ (o : Option Text). clean (or_else (option_map_or (λ flags. bundle_fault [] false flags nothing_held) o [])
    (step_fault top 1 (short_or_plain [] idle w o nothing_held).0 (short_or_plain [] idle w o nothing_held).1))) is
    ∙ unclean_first [] [] (bundle_fault [] false (f ∷ fs) nothing_held) _
    (ap (λ o. clean (bundle_step_fault [] false o (f ∷ fs) 0 nothing_held (flags_fault [] false (length fs)))) some)

trailing_fault : (w : Text) (words : List Text) → clean (or_else (walk_fault top names (at nothing_held idle true) words) (last_fault (fold (walked [] names) (at nothing_held idle true) words))) ≡ false
unfolding walk_fault defaults_fault
trailing_fault w [] = refl
trailing_fault w (x ∷ xs) = refl

separate_step : (w : Text) (b : Bool) → bytes_eq w dashes ≡ b → walked_by w None ≡ after_step [] w first (cond b (nothing_held, trailing 1) (long_or_other [] idle w (long_of w) nothing_held)).0
    (cond b (nothing_held, trailing 1) (long_or_other [] idle w (long_of w) nothing_held)).1
separate_step w b e = ap (λ c. after_step [] w first (cond c (nothing_held, trailing 1) (long_or_other [] idle w (long_of w) nothing_held)).0
    (cond c (nothing_held, trailing 1) (long_or_other [] idle w (long_of w) nothing_held)).1) e

seen_turn : (w : Text) (b : Bool) (l : Option (Text × Option Text)) → bytes_eq w dashes ≡ b → long_of w ≡ l → turn_by w None ≡ turn_seen w b l
seen_turn w b l b-is l-is = λ i. turn_seen w (b-is i) (l-is i)

first_fails : (turn : Kinds) (next : Walk) (words : List Text) → clean turn ≡ false → clean (all_fault turn next words) ≡ false
first_fails turn next words e = unclean_first [] [] (or_else turn (walk_fault top names next words)) _ (unclean_first [] [] turn _ e)

pub fault_unnamed : (p w : Text) (words : List Text) → IsUtf8 w → command_named w ≡ None → clean (fault_of regent (p ∷ w ∷ words)) ≡ false
fault_unnamed p w words text e =
    ap clean (fault_parts p w words)
    ∙ ap₂ (λ t n. clean (all_fault t n words)) (turn_first w None met) (walked_first w None met)
    ∙ (elim (looks w) [
      | looks_plain form b l sh ↦
          first_fails (turn_by w None) (walked_by w None) words (ap clean (seen_turn w false None b l) ∙ plain_turn w None sh refl)
      | looks_separate form b ↦
          ap₂ (λ t n. clean (all_fault t n words)) (seen_turn w true (long_of w) b refl) (separate_step w true b)
          ∙ trailing_fault w words
      | looks_set n v form b l ↦
          first_fails (turn_by w None) (walked_by w None) words (ap clean (seen_turn w false (Some (n, v)) b l))
      | looks_dashed f fs form b l sh is ↦
          let c = first_char w f fs text is in
          first_fails (turn_by w None) (walked_by w None) words (ap clean (seen_turn w false None b l) ∙ dashed_turn w fs f c.0 sh c.1)
    ])
  where
    met : subcommand_met names idle w ≡ None
    met = met_is w ∙ ap (option_map text_of) e

pub fault_empty : clean (fault_of regent []) ≡ false
unfolding clap_on_literals
fault_empty = refl

pub fault_lone : (p : Text) → clean (fault_of regent (p ∷ [])) ≡ false
unfolding clap_on_literals
fault_lone p = refl
