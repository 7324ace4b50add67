-- Rule 7, Format: in the text of a `printf` a `%` leads to something else than `d`, `ld`, `lld` or
-- another `%`; it prints more or fewer numbers than there are arguments; or one of these is no integer.
use Rattle.std.specs.List.{list_any}
use Rattle.std.specs.Prelude.{Bool, List, None, Option, Some, [], false, length, not, option_map, suc, true, ℕ, ◌==◌, ◌||◌, ◌∷◌}
use Rattle.regent_tree.specs.Scopes.{Scope}
use Rattle.regent_tree.specs.declared.typing.StaticType.{StaticType}
use Rattle.regent_tree.specs.Syntax.{Form, Tree, print_form}
use Rattle.check_rules.specs.types.KnownTypes.{known_types}
use Rattle.check_rules.specs.types.Sorts.{is_integer, may_be}

-- How many numbers a text prints, or None where a `%` (37) isn't followed as it must be. `d` is 100
-- and `l` 108.
abbrev pub one_more : Option ℕ → Option ℕ
one_more n = option_map suc n

abbrev mutual
  pub numbers_in : List ℕ → Option ℕ
  numbers_in [] = Some 0
  numbers_in (c ∷ cs) =
      elim (c == 37) [ true ↦ after_percent cs | false ↦ numbers_in cs ]

  pub after_percent : List ℕ → Option ℕ
  after_percent [] = None
  after_percent (c ∷ cs) = elim (c == 37) [
    | true ↦ numbers_in cs
    | false ↦ elim (c == 108) [
      | true ↦ after_l cs
      | false ↦ elim (c == 100) [ true ↦ one_more (numbers_in cs) | false ↦ None ]
    ]
  ]

  pub after_l : List ℕ → Option ℕ
  after_l [] = None
  after_l (c ∷ cs) = elim (c == 108) [
    | true ↦ after_two_l cs
    | false ↦ elim (c == 100) [ true ↦ one_more (numbers_in cs) | false ↦ None ]
  ]

  pub after_two_l : List ℕ → Option ℕ
  after_two_l [] = None
  after_two_l (c ∷ cs) =
      elim (c == 100) [ true ↦ one_more (numbers_in cs) | false ↦ None ]

abbrev pub is_count : ℕ → Option ℕ → Bool
is_count n None = false
is_count n (Some m) = n == m

-- a text with arguments of these types
abbrev pub misprints : List ℕ → List StaticType → Bool
misprints format types = not (is_count (length types) (numbers_in format))
    || list_any (λ t. not (may_be is_integer t)) types

abbrev pub misprints_form : Tree → Scope → Form → Bool
misprints_form tree s (print_form alias format args) =
    misprints format (known_types tree s args)
misprints_form tree s form = false
