-- The first breach in a part of a text, against the lines on which each rule is breached there.
use Rattle.std.proofs.Common.{◌≡◌, ℕ, Bool, true, false, cond, List, [], ◌∷◌, ◌++◌, ◌||◌, map, refl, ap, sym, ◌∙◌, subst, inl, inr}
use Rattle.std.specs.List.{filter, flat_map}
use Rattle.std.specs.Option.{option_or}
use Rattle.std.specs.Prelude.{Option, Some, None, ◌==◌}
use Rattle.std.proofs.lemmas.Bool.{eq-eqb}
use Rattle.std.proofs.lemmas.List.{map-append}
use Rattle.std.proofs.lemmas.List.Elements.{filter-append}
use Rattle.regent_tree.proofs.Members.{Has, Has-append_cases, Has-append_left, Has-append_right}
use Rattle.check_rules.specs.Breaches.{Breach, breaks}
use Rattle.check_rules.specs.first.FirstInItems.{first_line}
use Rattle.check_rules.specs.first.FirstInStatements.{told_on}
use Rattle.check_rules.specs.first.Rules.{first_in, first_of, number_of}
use Rattle.check_rules.specs.declared.rule.Rule.{Rule}
use Rattle.check_rules.proofs.Exchange.{Finding, Tells, cond_same}

-- a breach on one of these lines is told, and none is where there are none
abbrev pub TellsLine : Option Breach → (Rule → List ℕ) → Type 0
TellsLine None lines = (q : Rule) → lines q ≡ []
TellsLine (Some b) lines =
    (q : Rule) × (line : ℕ) × Has (lines q) line × (breaks (number_of q) line ≡ b)

pub line_same : (r : Option Breach) (lines others : Rule → List ℕ) →
    ((q : Rule) → lines q ≡ others q) → TellsLine r lines → TellsLine r others
line_same None lines others h t = λ q. sym (h q) ∙ t q
line_same (Some b) lines others h t =
    (t.0, t.1, subst (λ ls. Has ls t.1) (h t.0) t.2, t.3)

pub line_or : (r s : Option Breach) (lines others : Rule → List ℕ) → TellsLine r lines →
    TellsLine s others → TellsLine (option_or r s) (λ q. lines q ++ others q)
line_or (Some b) s lines others t u =
    (t.0, t.1, Has-append_left (lines t.0) (others t.0) t.1 t.2, t.3)
line_or None (Some b) lines others t u =
    (u.0, u.1, Has-append_right (lines u.0) (others u.0) u.1 u.2, u.3)
line_or None None lines others t u = λ q. ap (λ ls. ls ++ others q) (t q) ∙ u q

-- two parts, whose lines are said otherwise
pub line_two : (r s : Option Breach) (lines others whole : Rule → List ℕ) →
    ((q : Rule) → lines q ++ others q ≡ whole q) → TellsLine r lines → TellsLine s others →
    TellsLine (option_or r s) whole
line_two r s lines others whole h t u = line_same (option_or r s) (λ q. lines q ++ others q) whole
    h (line_or r s lines others t u)

pub line_in : {A : Type 0} (f : A → Option Breach) (lines : A → Rule → List ℕ) →
    ((x : A) → TellsLine (f x) (lines x)) → (xs : List A) →
    TellsLine (first_in f xs) (λ q. flat_map (λ x. lines x q) xs)
line_in f lines h [] = λ q. refl
line_in f lines h (x ∷ xs) = line_or (f x) (first_in f xs) (lines x)
    (λ q. flat_map (λ y. lines y q) xs) (h x) (line_in f lines h xs)

-- a line, where something holds
abbrev pub line_if : Bool → ℕ → List ℕ
line_if holds line = cond holds (line ∷ []) []

pub line_told : (line : ℕ) (r : Option Rule) (test : Rule → Bool) → Tells r test →
    TellsLine (told_on line r) (λ q. line_if (test q) line)
line_told line None test t = λ q. ap (λ b. line_if b line) (t q)
line_told line (Some q) test t =
    (q, line, subst (λ b. Has (line_if b line) line) (sym t) (inl refl), refl)

-- ---- the same lines in another order

either_line : (a b : Bool) (line : ℕ) (within rest : List ℕ) (x : ℕ) → Has (line_if a line ++ (within ++ (line_if b line ++ rest))) x →
    Has (line_if (a || b) line ++ (within ++ rest)) x
either_line true true line within rest x (inl e) = inl e
either_line true true line within rest x (inr h) = elim (Has-append_cases within (line ∷ rest) x h) [
  | inl g ↦ inr (Has-append_left within rest x g)
  | inr g ↦ elim g [ inl e ↦ inl e | inr k ↦ inr (Has-append_right within rest x k) ]
]
either_line true false line within rest x h = h
either_line false true line within rest x h = elim (Has-append_cases within (line ∷ rest) x h) [
  | inl g ↦ inr (Has-append_left within rest x g)
  | inr g ↦ elim g [ inl e ↦ inl e | inr k ↦ inr (Has-append_right within rest x k) ]
]
either_line false false line within rest x h = h

neither_line : (a b : Bool) (line : ℕ) (within rest : List ℕ) → line_if a line ++ (within ++ (line_if b line ++ rest)) ≡ [] →
    line_if (a || b) line ++ (within ++ rest) ≡ []
neither_line true b line within rest e = absurd cc
neither_line false true line [] rest e = absurd cc
neither_line false true line (w ∷ within) rest e = absurd cc
neither_line false false line within rest e = e

-- of two tests on one line, one is asked behind what stands within
pub line_behind : (r : Option Breach) (line : ℕ) (test later : Rule → Bool) (within rest : Rule → List ℕ) →
    TellsLine r (λ q. line_if (test q) line ++ (within q ++ (line_if (later q) line ++ rest q))) →
    TellsLine r (λ q. line_if (test q || later q) line ++ (within q ++ rest q))
line_behind None line test later within rest t = λ q. neither_line (test q) (later q) line (within q) (rest q) (t q)
line_behind (Some b) line test later within rest t =
    (t.0, t.1, either_line (test t.0) (later t.0) line (within t.0) (rest t.0) t.1 t.2, t.3)

-- ---- lines of elements that pass a test

module _ {A : Type 0} (line : A → ℕ) (test : A → Bool) where
  abbrev pub lines_passing : List A → List ℕ
  lines_passing xs = map line (filter test xs)

  pub lines_passing-append : (xs ys : List A) →
      lines_passing (xs ++ ys) ≡ lines_passing xs ++ lines_passing ys
  lines_passing-append xs ys = ap (map line) (filter-append test xs ys)
      ∙ map-append line (filter test xs) (filter test ys)

  line_before : (b : Bool) (x : A) (xs : List A) →
      line_if b (line x) ++ map line xs ≡ map line (cond b (x ∷ xs) xs)
  line_before true x xs = refl
  line_before false x xs = refl

  pub lines_passing-cons : (x : A) (xs : List A) →
      line_if (test x) (line x) ++ lines_passing xs ≡ lines_passing (x ∷ xs)
  lines_passing-cons x xs = line_before (test x) x (filter test xs)

  pub lines_passing-flat : {B : Type 0} (f : B → List A) (ys : List B) →
      lines_passing (flat_map f ys) ≡ flat_map (λ y. lines_passing (f y)) ys
  lines_passing-flat f [] = refl
  lines_passing-flat f (y ∷ ys) = lines_passing-append (f y) (flat_map f ys)
      ∙ ap (λ ls. lines_passing (f y) ++ ls) (lines_passing-flat f ys)

  -- element by element
  pub lines_passing-each : (xs : List A) →
      flat_map (λ x. line_if (test x) (line x)) xs ≡ lines_passing xs
  lines_passing-each [] = refl
  lines_passing-each (x ∷ xs) = ap (λ ls. line_if (test x) (line x) ++ ls) (lines_passing-each xs)
      ∙ lines_passing-cons x xs

pub lines_of_none : {A : Type 0} (xs : List A) → flat_map {A = ℕ} (λ x. []) xs ≡ []
lines_of_none [] = refl
lines_of_none (x ∷ xs) = lines_of_none xs

-- none passes a test that none passes
pub lines_passing_none : {A : Type 0} (line : A → ℕ) (xs : List A) →
    lines_passing line (λ x. false) xs ≡ []
lines_passing_none line [] = refl
lines_passing_none line (x ∷ xs) = lines_passing_none line xs

-- ---- the first of several

-- what is told in a part of a text, with the lines of each rule there
pub record Part : Type 0 where
  pub told : Option Breach
  pub lines : Rule → List ℕ
  pub tells : TellsLine told lines

abbrev pub first_part : List Part → Option Breach
first_part ps = first_of (map (λ (p : Part). p.told) ps)

abbrev pub part_lines : List Part → Rule → List ℕ
part_lines ps q = flat_map (λ (p : Part). p.lines q) ps

pub line_all : (ps : List Part) → TellsLine (first_part ps) (part_lines ps)
line_all [] = λ q. refl
line_all (p ∷ ps) = line_or p.told (first_part ps) p.lines (part_lines ps) p.tells (line_all ps)

-- the lines of one rule alone
abbrev pub lines_of_rule : Rule → List ℕ → Rule → List ℕ
lines_of_rule r lines q = cond (number_of r == number_of q) lines []

pub tells_lines : (r : Rule) (lines : List ℕ) →
    TellsLine (first_line r lines) (lines_of_rule r lines)
tells_lines r [] = λ q. cond_same (number_of r == number_of q) []
tells_lines r (line ∷ lines) = (
  r,
  line,
  subst (λ b. Has (cond b (line ∷ lines) []) line)
      (sym (eq-eqb (number_of r) (number_of r) refl)) (inl refl),
  refl,
)

abbrev pub part_of_lines : Rule → List ℕ → Part
part_of_lines r lines = record {
  told = first_line r lines;
  lines = lines_of_rule r lines;
  tells = tells_lines r lines;
}

-- a rule on one line
abbrev pub part_on : ℕ → Finding → Part
part_on line f = record {
  told = told_on line f.told;
  lines = λ q. line_if (f.test q) line;
  tells = line_told line f.told f.test f.tells;
}

abbrev pub part_of_all : {A : Type 0} → (A → Part) → List A → Part
part_of_all f xs = record {
  told = first_in (λ x. (f x).told) xs;
  lines = λ q. flat_map (λ x. (f x).lines q) xs;
  tells = line_in (λ x. (f x).told) (λ x. (f x).lines) (λ x. (f x).tells) xs;
}
