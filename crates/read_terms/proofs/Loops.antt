-- A loop that reads item by item, as often as a test passes.
use Rattle.std.proofs.Common.{◌≡◌, ◌<◌, true, false, cond, List, [], ◌∷◌, ◌++◌, length, refl, ap, sym, ◌∙◌, append_assoc}
use Rattle.std.proofs.lemmas.List.{append-nil}
use Rattle.regent_grammar.specs.declared.symbol.Terminal.{Terminal}
use Rattle.regent_grammar.specs.Symbols.{Test}
use Rattle.regent_grammar.specs.Rules.{Sort, Value, Rule, many}
use Rattle.regent_grammar.specs.Reading.{Read, stuck, read, then_read, ◌>>=◌, reading}
use Rattle.regent_grammar.specs.Guards.{takes, is_sound}
use Rattle.regent_grammar.proofs.ReadingLaws.{many_is, shorter}
use Rattle.read_terms.specs.declared.stop.Stop.{Stop}
use Rattle.read_terms.specs.declared.stop.Stop.TheVariants.{At, Memory}
use Rattle.read_terms.specs.Gives.{Stopped, with_front}

-- one item and then further ones, and an item takes a terminal at least
pub record Repeats {s : Sort} (test : Test) (r : Rule s) : Type 0 where
  pub one_more : (ts : List Terminal) → reading (many test r) ts
      ≡ cond (test ts) (reading r ts >>= λ x mid. reading (many test r) mid >>= λ xs rest. read (x ∷ xs) rest) (read [] ts)
  pub shorter : (ts : List Terminal) (x : Value s) (rest : List Terminal) → reading r ts ≡ read x rest → length rest < length ts

pub repeats : {s : Sort} (test : Test) (r : Rule s) → is_sound r ≡ true → takes r ≡ true → Repeats test r
repeats test r h k = record { one_more = many_is test r h k; shorter = shorter r h k }

front_on : {A : Type 0} (xs : List A) (x : A) (r : Read (List A)) → with_front xs (then_read r (λ ys rest. read (x ∷ ys) rest)) ≡ with_front (xs ++ x ∷ []) r
unfolding then_read
front_on xs x (stuck at) = refl
front_on xs x (read ys rest) = ap (λ zs. read zs rest) (sym (append_assoc xs (x ∷ []) ys))

pub front_none : {A : Type 0} (r : Read (List A)) → with_front [] r ≡ r
unfolding then_read
front_none (stuck at) = refl
front_none (read ys rest) = refl

pub goes_on : {s : Sort} {test : Test} {r : Rule s} → Repeats test r → (xs : List (Value s)) (ts mid : List Terminal) (x : Value s) (total : Read (List (Value s))) →
    test ts ≡ true → reading r ts ≡ read x mid → with_front xs (reading (many test r) ts) ≡ total → with_front (xs ++ x ∷ []) (reading (many test r) mid) ≡ total
unfolding then_read
goes_on {test = test} {r = r} p xs ts mid x total passes h so_far =
    let this : with_front xs (reading (many test r) ts) ≡ with_front (xs ++ x ∷ []) (reading (many test r) mid) =
    rw (p.one_more ts, passes, h) (front_on xs x (reading (many test r) mid)) in
    sym this ∙ so_far

pub ends : {s : Sort} {test : Test} {r : Rule s} → Repeats test r → (xs : List (Value s)) (ts : List Terminal) (total : Read (List (Value s))) →
    test ts ≡ false → with_front xs (reading (many test r) ts) ≡ total → total ≡ read xs ts
unfolding then_read
ends {test = test} {r = r} p xs ts total fails so_far =
    let this : with_front xs (reading (many test r) ts) ≡ read xs ts = rw (p.one_more ts, fails) (ap (λ zs. read zs ts) (append-nil xs)) in
    sym so_far ∙ this

at_item : {s : Sort} {test : Test} {r : Rule s} → Repeats test r → (xs : List (Value s)) (ts at : List Terminal) (total : Read (List (Value s))) →
    test ts ≡ true → reading r ts ≡ stuck at → with_front xs (reading (many test r) ts) ≡ total → total ≡ stuck at
unfolding then_read
at_item {test = test} {r = r} p xs ts at total passes h so_far =
    let this : with_front xs (reading (many test r) ts) ≡ stuck at = rw (p.one_more ts, passes, h) refl in
    sym so_far ∙ this

pub stops : {s : Sort} {test : Test} {r : Rule s} → Repeats test r → (xs : List (Value s)) (ts : List Terminal) (total : Read (List (Value s))) (stop : Stop) →
    test ts ≡ true → with_front xs (reading (many test r) ts) ≡ total → Stopped stop (reading r ts) → Stopped stop total
stops p xs ts total (At terminals) passes so_far h = at_item p xs ts terminals.now total passes h so_far
stops p xs ts total (Memory error) passes so_far h = tt
