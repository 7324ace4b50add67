-- The first rule that is breached at a place, against the test of each rule there.
use Rattle.std.proofs.Common.{◌≡◌, Bool, true, false, ◌||◌, ◌&&◌, not, cond, List, [], ◌∷◌, map, refl, ap, sym, ◌∙◌, subst}
use Rattle.std.specs.List.{list_all, list_any, flat_map}
use Rattle.std.specs.Option.{option_or}
use Rattle.std.specs.Prelude.{Option, Some, None, ◌==◌}
use Rattle.std.proofs.lemmas.Bool.{eq-eqb}
use Rattle.std.proofs.lemmas.List.Folds.{list_any-append}
use Rattle.check_rules.specs.first.Rules.{first_in, first_of, number_of, rule_if}
use Rattle.check_rules.specs.declared.rule.Rule.{Rule}

-- ---- tests

pub or_nothing : (a : Bool) → (a || false) ≡ a
or_nothing true = refl
or_nothing false = refl

pub or_regrouped : (a b c : Bool) → (a || b || c) ≡ (a || (b || c))
or_regrouped true b c = refl
or_regrouped false b c = refl

pub or_swapped : (a b : Bool) → (a || b) ≡ (b || a)
or_swapped true true = refl
or_swapped true false = refl
or_swapped false true = refl
or_swapped false false = refl

pub or_turned : (a b c : Bool) → (a || (b || c)) ≡ (b || (a || c))
or_turned true true c = refl
or_turned true false c = refl
or_turned false b c = refl

pub or_crossed : (a b c d : Bool) → (a || b || (c || d)) ≡ (a || c || (b || d))
or_crossed true b c d = refl
or_crossed false true true d = refl
or_crossed false true false d = refl
or_crossed false false c d = refl

pub or_placed : (a b c d : Bool) → (a || (b || (c || d))) ≡ (b || c || (a || d))
or_placed true true c d = refl
or_placed true false true d = refl
or_placed true false false d = refl
or_placed false true c d = refl
or_placed false false c d = refl

pub or_same : (a b c d : Bool) → a ≡ c → b ≡ d → (a || b) ≡ (c || d)
or_same a b c d e f = ap (λ x. x || b) e ∙ ap (λ x. c || x) f

-- ---- tests of lists

pub list_any_never : {A : Type 0} (xs : List A) → list_any (λ x. false) xs ≡ false
list_any_never [] = refl
list_any_never (x ∷ xs) = list_any_never xs

pub list_any_either : {A : Type 0} (p q : A → Bool) (xs : List A) →
    list_any (λ x. p x || q x) xs ≡ (list_any p xs || list_any q xs)
list_any_either p q [] = refl
list_any_either p q (x ∷ xs) = ap (λ b. p x || q x || b) (list_any_either p q xs)
    ∙ or_crossed (p x) (q x) (list_any p xs) (list_any q xs)

pub list_any_mapped : {A B : Type 0} (p : B → Bool) (f : A → B) (xs : List A) →
    list_any p (map f xs) ≡ list_any (λ x. p (f x)) xs
list_any_mapped p f [] = refl
list_any_mapped p f (x ∷ xs) = ap (λ b. p (f x) || b) (list_any_mapped p f xs)

pub list_any_flat : {A B : Type 0} (p : B → Bool) (f : A → List B) (xs : List A) →
    list_any p (flat_map f xs) ≡ list_any (λ x. list_any p (f x)) xs
list_any_flat p f [] = refl
list_any_flat p f (x ∷ xs) = list_any-append p (f x) (flat_map f xs)
    ∙ ap (λ b. list_any p (f x) || b) (list_any_flat p f xs)

pub list_any_same : {A : Type 0} (p q : A → Bool) → ((x : A) → p x ≡ q x) → (xs : List A) →
    list_any p xs ≡ list_any q xs
list_any_same p q h [] = refl
list_any_same p q h (x ∷ xs) = ap (λ b. b || list_any p xs) (h x)
    ∙ ap (λ b. q x || b) (list_any_same p q h xs)

not_and : (a b : Bool) → not (a && b) ≡ (not a || not b)
not_and true b = refl
not_and false b = refl

-- not all pass where one doesn't
pub not_all : {A : Type 0} (p : A → Bool) (xs : List A) →
    not (list_all p xs) ≡ list_any (λ x. not (p x)) xs
not_all p [] = refl
not_all p (x ∷ xs) = not_and (p x) (list_all p xs) ∙ ap (λ b. not (p x) || b) (not_all p xs)

-- ---- the first rule

-- a test of one rule alone
abbrev pub only : Rule → Bool → Rule → Bool
only r broken q = cond (number_of r == number_of q) broken false

-- a rule that is breached is told, and none is where none is
abbrev pub Tells : Option Rule → (Rule → Bool) → Type 0
Tells None test = (q : Rule) → test q ≡ false
Tells (Some q) test = test q ≡ true

pub tells_same : (r : Option Rule) (test other : Rule → Bool) → ((q : Rule) → test q ≡ other q) →
    Tells r test → Tells r other
tells_same None test other h t = λ q. sym (h q) ∙ t q
tells_same (Some q) test other h t = sym (h q) ∙ t

pub tells_or : (r s : Option Rule) (test other : Rule → Bool) → Tells r test → Tells s other →
    Tells (option_or r s) (λ q. test q || other q)
tells_or (Some q) s test other t u = ap (λ b. b || other q) t
tells_or None (Some q) test other t u = ap (λ b. b || other q) (t q) ∙ u
tells_or None None test other t u = λ q. ap (λ b. b || other q) (t q) ∙ u q

-- two places, by other words of their tests
pub tells_two : (r s : Option Rule) (test other whole : Rule → Bool) →
    ((q : Rule) → (test q || other q) ≡ whole q) → Tells r test → Tells s other →
    Tells (option_or r s) whole
tells_two r s test other whole h t u = tells_same (option_or r s) (λ q. test q || other q) whole h
    (tells_or r s test other t u)

pub cond_same : {A : Type 0} (b : Bool) (x : A) → cond b x x ≡ x
cond_same true x = refl
cond_same false x = refl

pub tells_if : (broken : Bool) (r : Rule) → Tells (rule_if broken r) (only r broken)
tells_if true r = ap (λ b. cond b true false) (eq-eqb (number_of r) (number_of r) refl)
tells_if false r = λ q. cond_same (number_of r == number_of q) false

pub tells_in : {A : Type 0} (f : A → Option Rule) (test : A → Rule → Bool) →
    ((x : A) → Tells (f x) (test x)) → (xs : List A) →
    Tells (first_in f xs) (λ q. list_any (λ x. test x q) xs)
tells_in f test h [] = λ q. refl
tells_in f test h (x ∷ xs) = tells_or (f x) (first_in f xs) (test x)
    (λ q. list_any (λ y. test y q) xs) (h x) (tells_in f test h xs)

-- ---- the first of several

-- what is told at a place, with the test of each rule there
pub record Finding : Type 0 where
  pub told : Option Rule
  pub test : Rule → Bool
  pub tells : Tells told test

abbrev pub asked : Bool → Rule → Finding
asked broken r = record { told = rule_if broken r; test = only r broken; tells = tells_if broken r }

abbrev pub asked_of_all : {A : Type 0} → (A → Finding) → List A → Finding
asked_of_all f xs = record {
  told = first_in (λ x. (f x).told) xs;
  test = λ q. list_any (λ x. (f x).test q) xs;
  tells = tells_in (λ x. (f x).told) (λ x. (f x).test) (λ x. (f x).tells) xs;
}

abbrev pub first_finding : List Finding → Option Rule
first_finding fs = first_of (map (λ (f : Finding). f.told) fs)

abbrev pub any_finding : List Finding → Rule → Bool
any_finding fs q = list_any (λ (f : Finding). f.test q) fs

pub tells_all : (fs : List Finding) → Tells (first_finding fs) (any_finding fs)
tells_all [] = λ q. refl
tells_all (f ∷ fs) = tells_or f.told _ f.test _ f.tells (tells_all fs)

-- a finding by other words of its test
abbrev pub by_test : (r : Option Rule) (test : Rule → Bool) (fs : List Finding) →
    r ≡ first_finding fs → ((q : Rule) → any_finding fs q ≡ test q) → Finding
by_test r test fs e h = record {
  told = r;
  test = test;
  tells = subst (λ o. Tells o test) (sym e)
      (tells_same (first_finding fs) (any_finding fs) test h (tells_all fs));
}
