-- The first breach of a program: that of its items, or else that of its bodies.
use Rattle.std.proofs.Common.{None, Option, ◌≡◌, ap, refl, subst, sym, ◌∙◌}
use Rattle.std.specs.Option.{option_or}
use Rattle.std.specs.Prelude.{Some}
use Rattle.regent_tree.specs.PlainProgram.{tree_of}
use Rattle.regent_tree.specs.Syntax.{ItemTree, Tree}
use Rattle.regent_tree.specs.declared.program.Program.{Program}
use Rattle.check_rules.specs.Breaches.{Breach}
use Rattle.check_rules.specs.rules.Entries.{wrong_entry_lines}
use Rattle.check_rules.specs.first.FirstInItems.{first_breach, first_declared, first_in_body, first_line, first_repeated}
use Rattle.check_rules.specs.first.Rules.{first_in}
use Rattle.check_rules.specs.scopes.Sound.{IsSound}
use Rattle.check_rules.specs.declared.rule.Rule.TheVariants as rule
use Rattle.check_rules.proofs.Written.{all_is_sound}
use Rattle.check_items.specs.Halting.{IsToldAt}
use Rattle.check_items.specs.declared.halt.Halt.{Halt}
use Rattle.check_items.specs.declared.halt.Halt.TheVariants as halt
use Rattle.type_check.specs.Items.{first_in_items}

abbrev bodies : Tree → Option Breach
bodies tree = first_in (λ (i : ItemTree). first_in_body tree i.form) tree

or_last : {A : Type 0} (a b c x : Option A) → option_or a (option_or b (option_or c None)) ≡ None →
    option_or a (option_or b (option_or c (option_or x None))) ≡ x
or_last None None None None h = refl
or_last None None None (Some y) h = refl
or_last (Some y) b c x h = absurd cc
or_last None (Some y) c x h = absurd cc
or_last None None (Some y) x h = absurd cc

or_front : {A : Type 0} (a b c x : Option A) (y : A) → option_or a (option_or b (option_or c None)) ≡ Some y →
    option_or a (option_or b (option_or c x)) ≡ Some y
or_front (Some z) b c x y h = h
or_front None (Some z) c x y h = h
or_front None None (Some z) x y h = h
or_front None None None x y h = absurd cc

-- where the items have no breach, the first one is that of the bodies
last_part : (p tables declared : Program) → tables ≡ p → declared ≡ tables →
    first_in_items (tree_of tables) ≡ None → bodies (tree_of declared) ≡ first_breach (tree_of p)
last_part p tables declared t d none =
    let tree = tree_of tables in
    ap (λ (q : Program). bodies (tree_of q)) d
    ∙ sym (or_last (first_repeated tree) (first_line rule.Start (wrong_entry_lines tree))
    (first_in (first_declared tree) tree) (bodies tree) none)
    ∙ ap (λ (q : Program). first_breach (tree_of q)) t

pub items_stop : (h : Halt) (p tables : Program) → tables ≡ p →
    IsToldAt h (first_in_items (tree_of tables)) → IsToldAt h (first_breach (tree_of p))
items_stop (halt.Breach r line) p tables t told =
    let tree = tree_of tables in
    sym (ap (λ (q : Program). first_breach (tree_of q)) t)
    ∙ or_front (first_repeated tree) (first_line rule.Start (wrong_entry_lines tree))
    (first_in (first_declared tree) tree) (option_or (bodies tree) None) _ told
items_stop (halt.Memory error) p tables t told = told

pub bodies_stop : (h : Halt) (p tables declared : Program) → tables ≡ p → declared ≡ tables →
    first_in_items (tree_of tables) ≡ None →
    IsToldAt h (bodies (tree_of declared)) → IsToldAt h (first_breach (tree_of p))
bodies_stop h p tables declared t d none told = subst (IsToldAt h) (last_part p tables declared t d none) told

pub bodies_none : (p tables declared : Program) → tables ≡ p → declared ≡ tables →
    first_in_items (tree_of tables) ≡ None →
    bodies (tree_of declared) ≡ None → first_breach (tree_of p) ≡ None
bodies_none p tables declared t d none told = sym (last_part p tables declared t d none) ∙ told

none_last : {A : Type 0} (a b c : Option A) → option_or a (option_or b (option_or c None)) ≡ None → c ≡ None
none_last None None None h = refl
none_last None None (Some z) h = absurd cc
none_last None (Some y) c h = absurd cc
none_last (Some x) b c h = absurd cc

-- where the items have no breach, no declaration has one
pub items_sound : (tree : Tree) → first_in_items tree ≡ None → IsSound tree
items_sound tree none =
    all_is_sound tree (none_last (first_repeated tree) (first_line rule.Start (wrong_entry_lines tree))
    (first_in (first_declared tree) tree) none)
