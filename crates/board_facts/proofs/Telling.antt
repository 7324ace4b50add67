-- How much is told of a board: level by level, no more than operations said.
use Rattle.std.proofs.Common.{◌≡◌, ◌≤◌, ◌∙◌, ◌+◌, ◌==◌, ℕ, zero, suc, Bool, true, false, List, [], ◌∷◌, Option, None, Some, arith, cond, length, sum_by}
use Rattle.std.proofs.lemmas.List.{length-append}
use Rattle.std.proofs.lemmas.List.Sums.{sum_by-cons, sum_by-le-sum_by}
use Rattle.plain_values.specs.Points.{points}
use Rattle.region_tree.specs.declared.tree.OpNumber.{OpNumber}
use Rattle.board_terms.specs.declared.operation.Ending.{Ending}
use Rattle.board_terms.specs.declared.operation.Operation.{Operation}
use Rattle.board_terms.specs.declared.operation.Said.{Said}
use Rattle.board_terms.specs.Outcomes.{Told, nothing_told, says_first, stop_of, told_at, told_then, woven}
use Rattle.board_terms.specs.States.{State, no_operation, operation_at}
use Rattle.board_facts.proofs.Lists.{sum_both, sum_seen}
use Rattle.board_facts.specs.Families.{of_children}
use Rattle.board_facts.specs.Laws.{TextIsWhatWasSaid}
use Rattle.board_facts.specs.Texts.{said_by, said_in}

-- ---- of one operation

abbrev pub size_of : Said → ℕ
size_of p = length p.text

first_long : (text : List ℕ) (t : Told) (n : ℕ) → length t.text ≤ n → length (says_first text t).text ≤ length text + n
first_long text t n b = omega (arith, b, length-append text t.text)

then_long : (t rest : Told) (n : ℕ) → length rest.text ≤ n → length (told_then t rest).text ≤ length t.text + n
then_long t rest n b = by t.text t.stop
  where
    by : (text : List ℕ) (o : Option Ending) → length (told_then (record { text = text; stop = o }) rest).text ≤ length text + n
    by text None = first_long text rest n b
    by text (Some e) = omega arith

module _ (child : ℕ → Told) where
  abbrev weighs : OpNumber → ℕ
  weighs c = length (child c.0).text

  woven_long : (i : ℕ) (ps : List Said) (cs : List OpNumber) (last : Told) →
      length (woven child i ps cs last).text ≤ sum_by size_of ps + sum_by weighs cs + length last.text
  woven_long i [] [] last = omega arith
  woven_long i (p ∷ ps) [] last =
      omega (arith, first_long p.text (woven child i ps [] last) (sum_by size_of ps + 0 + length last.text) (woven_long i ps [] last), sum_by-cons size_of p ps)
  woven_long i [] (c ∷ cs) last =
      omega (arith, then_long (child c.0) (woven child (suc i) [] cs last) (0 + sum_by weighs cs + length last.text) (woven_long (suc i) [] cs last), sum_by-cons weighs c cs)
  woven_long i (p ∷ ps) (c ∷ cs) last = by_case (p.children == i) (woven_long i ps (c ∷ cs) last) (woven_long (suc i) (p ∷ ps) cs last)
    where
      by_case : (b : Bool) →
          length (woven child i ps (c ∷ cs) last).text ≤ sum_by size_of ps + sum_by weighs (c ∷ cs) + length last.text →
          length (woven child (suc i) (p ∷ ps) cs last).text ≤ sum_by size_of (p ∷ ps) + sum_by weighs cs + length last.text →
          length (cond b (says_first p.text (woven child i ps (c ∷ cs) last)) (told_then (child c.0) (woven child (suc i) (p ∷ ps) cs last))).text
          ≤ sum_by size_of (p ∷ ps) + sum_by weighs (c ∷ cs) + length last.text
      by_case true f g =
          omega (arith, first_long p.text (woven child i ps (c ∷ cs) last) (sum_by size_of ps + sum_by weighs (c ∷ cs) + length last.text) f, sum_by-cons size_of p ps)
      by_case false f g =
          omega (arith, then_long (child c.0) (woven child (suc i) (p ∷ ps) cs last) (sum_by size_of (p ∷ ps) + sum_by weighs cs + length last.text) g, sum_by-cons weighs c cs)

-- ---- level by level

-- what an operation said with its children of so many levels
abbrev total : ℕ → State → ℕ → ℕ
total zero s k = 0
total (suc n) s k = said_by (operation_at s k) + of_children (total n s) (operation_at s k)

told_long : (n : ℕ) (s : State) (k : ℕ) → length (told_at n s k).text ≤ total n s k
told_long zero s k = omega arith
told_long (suc n) s k =
    let o = operation_at s k in
    let last = nothing_told (stop_of o.activity) in
    let more : sum_by (weighs (told_at n s)) o.children ≤ of_children (total n s) o =
    sum_by-le-sum_by (weighs (told_at n s)) (λ (c : OpNumber). total n s c.0) o.children (λ c. told_long n s c.0) in
    omega (arith, woven_long (told_at n s) 0 o.said o.children last, more)

level_more : (n : ℕ) (s : State) (k : ℕ) → total n s k ≤ total (suc n) s k
level_more zero s k = omega arith
level_more (suc n) s k =
    let more : of_children (total n s) (operation_at s k) ≤ of_children (total (suc n) s) (operation_at s k) =
    sum_by-le-sum_by (λ (c : OpNumber). total n s c.0) (λ (c : OpNumber). total (suc n) s c.0) (operation_at s k).children (λ c. level_more n s c.0) in
    omega (arith, more)

-- all operations with one level more
all_levels : (n : ℕ) (s : State) →
    sum_by (total (suc n) s) (points (length s.operations)) ≡ said_in s.operations + sum_by (of_children (total n s)) s.operations
all_levels n s =
    sum_seen (λ (o : Operation). said_by o + of_children (total n s) o) s.operations no_operation
    ∙ sum_both said_by (of_children (total n s)) s.operations

pub text_is_what_was_said : TextIsWhatWasSaid
text_is_what_was_said s family =
    let n = length s.operations in
    let more : sum_by (total n s) (points n) ≤ sum_by (total (suc n) s) (points n) =
    sum_by-le-sum_by (total n s) (total (suc n) s) (points n) (level_more n s) in
    omega (arith, told_long n s 0, family (total n s), more, all_levels n s)
