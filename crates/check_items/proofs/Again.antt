-- A name is given again where it is among the names that were given before.
use Rattle.std.proofs.Common.{Bool, List, [], ◌++◌, ◌∷◌, ◌||◌, ◌≡◌, ap, bytes_eq, cond, false, flat_map, map, refl, sym, true, ◌∙◌}
use Rattle.std.specs.List.{list_any}
use Rattle.std.specs.Option.{option_or}
use Rattle.std.specs.Prelude.{Option, ℕ}
use Rattle.check_rules.specs.declared.rule.Rule.{Rule}
use Rattle.std.proofs.lemmas.List.Folds.{list_any-append}
use Rattle.regent_tree.specs.PlainProgram.{item_tree_of}
use Rattle.regent_tree.specs.Syntax.{Name}
use Rattle.regent_tree.specs.declared.program.Item.{Item}
use Rattle.regent_tree.specs.declared.program.ItemKind.{ItemKind}
use Rattle.regent_tree.specs.declared.program.ItemKind.TheVariants as kind
use Rattle.check_rules.specs.Breaches.{Breach}
use Rattle.check_rules.specs.first.FirstInItems.{first_line}
use Rattle.check_rules.specs.first.FirstInStatements.{told_on}
use Rattle.check_rules.specs.rules.Repeats.{Given, repeats, repeats_after}
use Rattle.check_rules.specs.first.Rules.{rule_if}
use Rattle.check_rules.specs.declared.rule.Rule.TheVariants as rule
use Rattle.check_items.specs.Given.{first_again, given_as, given_in}
use Rattle.check_items.specs.declared.repeats.Sort.{Sort}
use Rattle.check_items.specs.declared.repeats.Sort.TheVariants as sort
use Rattle.plain_values.proofs.Plain.{bytes_eq_sym}

either_end : (a b c d : Bool) → a ≡ d → b ≡ c → (a || b) ≡ (c || (d || false))
either_end true b true d e f = refl
either_end true b false true e f = refl
either_end true b false false e f = e
either_end false true true d e f = refl
either_end false true false d e f = absurd cc
either_end false false true d e f = absurd cc
either_end false false false true e f = e
either_end false false false false e f = refl

told_again : (a b : Bool) (g : Given) (rest : List ℕ) (first : Option Breach) → a ≡ b →
    first_line rule.Twice rest ≡ first →
    first_line rule.Twice (cond a (g.line ∷ []) [] ++ rest) ≡ option_or (told_on g.line (rule_if b rule.Twice)) first
told_again true true g rest first e h = refl
told_again true false g rest first e h = absurd cc
told_again false true g rest first e h = absurd cc
told_again false false g rest first e h = h

again_after : (earlier : List Given) (names : List Name) (gs : List Given) →
    ((n : Name) → list_any (λ (e : Given). bytes_eq e.name n) earlier ≡ list_any (bytes_eq n) names) →
    first_line rule.Twice (repeats_after earlier gs) ≡ first_again names gs
again_after earlier names [] same = refl
again_after earlier names (g ∷ gs) same =
    told_again (list_any (λ (e : Given). bytes_eq e.name g.name) earlier) (list_any (bytes_eq g.name) names) g
    (repeats_after (g ∷ earlier) gs) (first_again (names ++ g.name ∷ []) gs) (same g.name)
    (again_after (g ∷ earlier) (names ++ g.name ∷ []) gs next)
  where
    next : (n : Name) → (bytes_eq g.name n || list_any (λ (e : Given). bytes_eq e.name n) earlier)
        ≡ list_any (bytes_eq n) (names ++ g.name ∷ [])
    next n = either_end (bytes_eq g.name n) (list_any (λ (e : Given). bytes_eq e.name n) earlier)
        (list_any (bytes_eq n) names) (bytes_eq n g.name) (bytes_eq_sym g.name n) (same n)
        ∙ sym (list_any-append (bytes_eq n) names (g.name ∷ []))

pub first_repeat : (gs : List Given) → first_again [] gs ≡ first_line rule.Twice (repeats gs)
first_repeat gs = sym (again_after [] [] gs (λ n. refl))

-- what items give
given_by_item : (s : Sort) (line : ℕ) (what : ItemKind) →
    given_in s (record { line = line; what = what }) ≡ given_as s (item_tree_of (record { line = line; what = what }))
given_by_item sort.Task line (kind.Task t) = refl
given_by_item sort.Task line kind.Import = refl
given_by_item sort.Task line (kind.Alias n) = refl
given_by_item sort.Task line (kind.Space f) = refl
given_by_item sort.Task line (kind.Start n) = refl
given_by_item sort.Space line (kind.Task t) = refl
given_by_item sort.Space line kind.Import = refl
given_by_item sort.Space line (kind.Alias n) = refl
given_by_item sort.Space line (kind.Space f) = refl
given_by_item sort.Space line (kind.Start n) = refl
given_by_item sort.Alias line (kind.Task t) = refl
given_by_item sort.Alias line kind.Import = refl
given_by_item sort.Alias line (kind.Alias n) = refl
given_by_item sort.Alias line (kind.Space f) = refl
given_by_item sort.Alias line (kind.Start n) = refl

pub given_by_items : (s : Sort) (items : List Item) →
    flat_map (given_in s) items ≡ flat_map (given_as s) (map item_tree_of items)
given_by_items s [] = refl
given_by_items s (i ∷ items) =
    (λ j. given_by_item s i.line i.what j ++ given_by_items s items j)

pub first_repeat_in : (s : Sort) (items : List Item) →
    first_again [] (flat_map (given_in s) items)
    ≡ first_line rule.Twice (repeats (flat_map (given_as s) (map item_tree_of items)))
first_repeat_in s items = first_repeat (flat_map (given_in s) items)
    ∙ ap (λ gs. first_line rule.Twice (repeats gs)) (given_by_items s items)

-- the first line of two lists
pub first_line_append : (r : Rule) (xs ys : List ℕ) →
    option_or (first_line r xs) (first_line r ys) ≡ first_line r (xs ++ ys)
first_line_append r [] ys = refl
first_line_append r (x ∷ xs) ys = refl
