-- The parameters of a task of which nothing is told.
use Rattle.std.proofs.Common.{Bool, List, [], ◌++◌, ◌+◌, ◌<◌, ◌≤◌, ◌∷◌, ◌||◌, ◌≡◌, ap, arith, bytes_eq, cond, false, inl, inr, length, not, refl, subst, suc, sym, true, ◌∙◌, ℕ}
use Rattle.std.proofs.lemmas.Bool.{and_parts, or_parts}
use Rattle.std.specs.List.{list_any}
use Rattle.std.proofs.lemmas.Bool.Decides.{same_from_decides}
use Rattle.std.proofs.lemmas.Slice.Eq.{bytes_eq-Decides}
use Rattle.regent_tree.specs.Lookup.{is_bound, type_named}
use Rattle.regent_tree.specs.Scopes.{Scope, bound_as, bound_params, bound_to}
use Rattle.regent_tree.specs.StaticTypes.{among_params, place_in, type_said}
use Rattle.regent_tree.specs.Syntax.{Name, Tree}
use Rattle.regent_tree.specs.declared.types.Param.{Param}
use Rattle.regent_tree.specs.declared.types.TypeTerm.{TypeTerm}
use Rattle.regent_tree.specs.declared.types.TypeTerm.TheVariants as typed
use Rattle.regent_tree.specs.declared.typing.Bound.{Bound}
use Rattle.check_rules.specs.types.Lookup.{names_a}
use Rattle.check_rules.specs.rules.Names.{unbound_name_in_type, misses_space}
use Rattle.check_rules.specs.rules.Repeats.{Given, given_by, repeats_after, was_given}
use Rattle.check_rules.specs.types.Sorts.{is_region, may_be}
use Rattle.check_rules.proofs.Written.{bound_after, written_known}
use Rattle.check_laws.specs.SoundScopes.{Falls, IsKnown, IsSoundScope}
use Rattle.check_laws.proofs.Parts.{contrary, number_known, surely, value_known}
use Rattle.check_laws.proofs.Scopes.{found_by_number}
use Rattle.std.proofs.lemmas.Bool.{not-false}

-- ---- names of bindings

equal_back : (a b : Name) → bytes_eq a b ≡ bytes_eq b a
equal_back a b = same_from_decides (bytes_eq a b) (bytes_eq b a) (bytes_eq-Decides a b)
    (λ h. sym ((bytes_eq-Decides b a).0 h), λ e. (bytes_eq-Decides b a).1 (sym e))

abbrev pub bound : Tree → List Param → ℕ → Param → Bound
bound tree all i p = record { name = p.name; number = i; place = i; static_type = type_said tree (among_params all) i p.term; by_loop = false }

-- ---- numbers

-- the numbers fall, and none is below a least one
abbrev FallsTo : ℕ → ℕ → List Bound → Type 0
FallsTo next least [] = least ≤ next
FallsTo next least (b ∷ bs) = (b.number < next) × FallsTo b.number least bs

falls_on : (next i : ℕ) (names : List Bound) (b : Bound) → b.number ≡ i → FallsTo next (suc i) names → FallsTo next i (names ++ b ∷ [])
falls_on next i [] b is h = (omega (arith, is, h), omega (arith, is))
falls_on next i (x ∷ xs) b is h = (h.0, falls_on x.number i xs b is h.1)

falls_params : (tree : Tree) (all : List Param) (i : ℕ) (ps : List Param) → FallsTo (i + length ps) i (bound_params tree all i ps)
falls_params tree all i [] = omega (arith)
falls_params tree all i (p ∷ ps) =
    let rest = falls_params tree all (suc i) ps in
    let more : (suc i + length ps) ≡ (i + suc (length ps)) = omega (arith) in
    subst (λ next. FallsTo next i (bound_params tree all i (p ∷ ps))) more
    (falls_on (suc i + length ps) i (bound_params tree all (suc i) ps) (bound tree all i p) refl rest)

falls_simply : (next least : ℕ) (names : List Bound) → FallsTo next least names → Falls next names
falls_simply next least [] h = tt
falls_simply next least (b ∷ bs) h = (h.0, falls_simply b.number least bs h.1)

-- ---- places

not_again : (x : Name) (earlier gs : List Given) → ((m : Name) → bytes_eq x m ≡ true → list_any (λ (e : Given). bytes_eq e.name m) earlier ≡ true) →
    repeats_after earlier gs ≡ [] → list_any (λ (g : Given). bytes_eq x g.name) gs ≡ false
not_again x earlier [] was e = refl
not_again x earlier (g ∷ gs) was e =
    here (was_given earlier g) refl (bytes_eq x g.name) refl
    (not_again x (g ∷ earlier) gs (λ m is. ap (λ b. bytes_eq g.name m || b) (was m is) ∙ or_true (bytes_eq g.name m))) e
  where
    or_true : (b : Bool) → (b || true) ≡ true
    or_true true = refl
    or_true false = refl

    here : (w : Bool) → was_given earlier g ≡ w → (b : Bool) → bytes_eq x g.name ≡ b →
        (repeats_after (g ∷ earlier) gs ≡ [] → list_any (λ (h : Given). bytes_eq x h.name) gs ≡ false) →
        (cond w (g.line ∷ []) [] ++ repeats_after (g ∷ earlier) gs) ≡ [] →
        (bytes_eq x g.name || list_any (λ (h : Given). bytes_eq x h.name) gs) ≡ false
    here true wis b is rest e = absurd cc
    here false wis true is rest e = absurd (contrary (sym (was g.name is) ∙ wis))
    here false wis false is rest e = λ j. is j || rest e j

-- a name that is bound is one of those given
or_right : (a b : Bool) → b ≡ true → (a || b) ≡ true
or_right true b e = refl
or_right false b e = e

bound_given : (tree : Tree) (all : List Param) (i : ℕ) (ps : List Param) (n : Name) → is_bound (bound_params tree all i ps) n ≡ true →
    list_any (λ (g : Given). bytes_eq n g.name) (given_by ps) ≡ true
bound_given tree all i [] n e = absurd cc
bound_given tree all i (p ∷ ps) n e = elim (bound_after (bound_params tree all (suc i) ps) (bound tree all i p) n e) [
  | inl h ↦ or_right (bytes_eq n p.name) _ (bound_given tree all (suc i) ps n h.0)
  | inr h ↦ ap (λ b. b || list_any (λ (g : Given). bytes_eq n g.name) (given_by ps)) (equal_back n p.name ∙ h.0)
]

tail_none : (w : Bool) (line : ℕ) (rest : List ℕ) → (cond w (line ∷ []) [] ++ rest) ≡ [] → rest ≡ []
tail_none true line rest e = absurd cc
tail_none false line rest e = e

pub place_step : (p : Param) (ps : List Param) (n : Name) (b : Bool) → bytes_eq p.name n ≡ b → place_in (p ∷ ps) n ≡ cond b 0 (1 + place_in ps n)
place_step p ps n true e = ap (λ b. cond (not b) (1 + place_in ps n) 0) e
place_step p ps n false e = ap (λ b. cond (not b) (1 + place_in ps n) 0) e

-- a parameter's number is its place
pub number_is_place : (tree : Tree) (all : List Param) (i : ℕ) (ps : List Param) (earlier : List Given) → repeats_after earlier (given_by ps) ≡ [] →
    (n : Name) → is_bound (bound_params tree all i ps) n ≡ true → (bound_to (bound_params tree all i ps) n).number ≡ i + place_in ps n
number_is_place tree all i [] earlier none n e = absurd cc
number_is_place tree all i (p ∷ ps) earlier none n e = elim (bound_after (bound_params tree all (suc i) ps) (bound tree all i p) n e) [
  | inl h ↦ ap (λ (b : Bound). b.number) h.1 ∙ number_is_place tree all (suc i) ps (given ∷ earlier) rest n h.0
      ∙ further (place_step p ps n false (other (bytes_eq p.name n) refl h.0))
  | inr h ↦ ap (λ (b : Bound). b.number) h.1 ∙ first (place_step p ps n true h.0)
]
  where
    given : Given
    given = record { name = p.name; line = p.line }

    rest : repeats_after (given ∷ earlier) (given_by ps) ≡ []
    rest = tail_none (was_given earlier given) p.line _ none

    or_left : (a b : Bool) → a ≡ true → (a || b) ≡ true
    or_left true b e = refl
    or_left false b e = absurd cc

    none_later : list_any (λ (g : Given). bytes_eq p.name g.name) (given_by ps) ≡ false
    none_later = not_again p.name (given ∷ earlier) (given_by ps) (λ m is. or_left (bytes_eq p.name m) _ is) rest

    other : (b : Bool) → bytes_eq p.name n ≡ b → is_bound (bound_params tree all (suc i) ps) n ≡ true → bytes_eq p.name n ≡ false
    other true is later =
        let same = (bytes_eq-Decides p.name n).0 is in
        absurd (contrary (sym (bound_given tree all (suc i) ps n later)
        ∙ ap (λ m. list_any (λ (g : Given). bytes_eq m g.name) (given_by ps)) (sym same) ∙ none_later))
    other false is later = is

    further : place_in (p ∷ ps) n ≡ 1 + place_in ps n → (suc i + place_in ps n) ≡ (i + place_in (p ∷ ps) n)
    further h = omega (arith, h)

    first : place_in (p ∷ ps) n ≡ 0 → i ≡ (i + place_in (p ∷ ps) n)
    first h = omega (arith, h)

-- ---- scopes

-- no two parameters share a name, and each name in a type is bound to what its place needs
pub record AreWrittenParams (tree : Tree) (all : List Param) : Type 0 where
  pub once : repeats_after [] (given_by all) ≡ []
  pub named : list_any (λ (p : Param). unbound_name_in_type tree (bound_params tree all 0 all) p.term) all ≡ false

from_zero : (n : ℕ) → (0 + n) ≡ n
from_zero n = omega (arith)

module _ (tree : Tree) (all : List Param) (s : Scope) (names_are : s.names ≡ bound_params tree all 0 all) (next_is : s.next ≡ length all)
    (once : repeats_after [] (given_by all) ≡ [])
    (named : list_any (λ (p : Param). unbound_name_in_type tree (bound_params tree all 0 all) p.term) all ≡ false) where
  abbrev names : List Bound
  names = bound_params tree all 0 all

  falls : Falls (length all) names
  falls = falls_simply (length all) 0 names (subst (λ next. FallsTo next 0 names) (from_zero (length all)) (falls_params tree all 0 all))

  pub region_placed : (r : Name) → not (names_a is_region names r) ≡ false →
      (is_region (bound_as names (place_in all r)).static_type ≡ true) × (place_in all r < length all)
  region_placed r e =
      let both = and_parts (is_bound names r) (may_be is_region (type_named names r)) (not-false _ e) in
      let is = surely is_region (type_named names r) (written_known tree all 0 all r both.0) both.1 in
      let found = found_by_number (length all) names r falls both.0 in
      let place : (bound_to names r).number ≡ place_in all r = number_is_place tree all 0 all [] once r both.0 ∙ from_zero (place_in all r) in
      subst (λ k. (is_region (bound_as names k).static_type ≡ true) × (k < length all)) place
      (ap (λ (b : Bound). is_region b.static_type) found.0 ∙ is, found.1)

  said_placed : (own : ℕ) (t : TypeTerm) → unbound_name_in_type tree names t ≡ false → IsKnown s (type_said tree (among_params all) own t)
  said_placed own (typed.Number n) e = number_known s n
  said_placed own typed.Truth e = value_known s _ refl tt
  said_placed own (typed.Pointer p) e = value_known s _ refl tt
  said_placed own (typed.Ispace k) e = value_known s _ refl tt
  said_placed own (typed.Region k u) e = value_known s _ refl tt
  said_placed own (typed.Partition d r c) e = record {
    known = refl;
    placed = subst (λ (p : List Bound × ℕ). (is_region (bound_as p.0 (place_in all r)).static_type ≡ true) × (place_in all r < p.1))
        (λ j. (sym names_are j, sym next_is j)) (region_placed r (or_parts (not (names_a is_region names r)) (misses_space names c) e).0);
  }

  params_known : (i : ℕ) (ps : List Param) → list_any (λ (p : Param). unbound_name_in_type tree names p.term) ps ≡ false → (n : Name) →
      is_bound (bound_params tree all i ps) n ≡ true → IsKnown s (type_named (bound_params tree all i ps) n)
  params_known i [] e n b = absurd cc
  params_known i (p ∷ ps) e n b =
      let parts = or_parts (unbound_name_in_type tree names p.term) (list_any (λ (q : Param). unbound_name_in_type tree names q.term) ps) e in
      elim (bound_after (bound_params tree all (suc i) ps) (bound tree all i p) n b) [
        | inl h ↦ subst (λ (x : Bound). IsKnown s x.static_type) (sym h.1) (params_known (suc i) ps parts.1 n h.0)
        | inr h ↦ subst (λ (x : Bound). IsKnown s x.static_type) (sym h.1) (said_placed i p.term parts.0)
      ]

  -- in the scope in which a body begins, all is known
  pub begins_soundly : IsSoundScope s
  begins_soundly = record {
    numbers = subst (λ (p : List Bound × ℕ). Falls p.1 p.0) (λ j. (sym names_are j, sym next_is j)) falls;
    types = λ n b. subst (λ (ns : List Bound). IsKnown s (type_named ns n)) (sym names_are)
        (params_known 0 all named n (subst (λ (ns : List Bound). is_bound ns n ≡ true) names_are b));
  }
