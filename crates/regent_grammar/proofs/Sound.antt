-- What reading tells is so: what is read is spelt, and where reading stops the rule does.
use Rattle.std.proofs.Common.{◌≡◌, ℕ, zero, suc, ◌≤◌, ◌<◌, Bool, true, false, cond, ◌&&◌, ◌||◌, not, List, [], ◌∷◌, Option, Some, None, length, refl, sym, subst, arith}
use Rattle.regent_grammar.specs.declared.symbol.Terminal.{Terminal}
use Rattle.regent_grammar.specs.declared.symbol.Symbol.{Symbol}
use Rattle.regent_grammar.specs.Symbols.{Test}
use Rattle.regent_grammar.specs.Rules.{Sort, Value, Nonterminal, spelt_by, Rule, gives, here, one, both, when◌then◌else◌, many, use'}
use Rattle.regent_grammar.specs.Grammar.{rule_of}
use Rattle.regent_grammar.specs.Guards.{takes, leads, is_sound}
use Rattle.regent_grammar.specs.Derivations.{Spells, is_given, is_here, is_one, is_both, is_first, is_second, is_many, is_used, SpellsMany, no_more, one_more, Stops, stops_at_end, stops_at, stops_before, stops_behind, stops_in_first, stops_in_second, stops_in_many, stops_in_use, ManyStop, this_stops, later_stops}
use Rattle.regent_grammar.specs.Reading.{Read, stuck, read, then_read, read_as, taking, many_upto, Later, reading_with, later_upto, now, reading}
use Rattle.regent_grammar.proofs.Rulings.{named_leads, named_sound}
use Rattle.regent_grammar.proofs.Lengths.{Less, shrinks}
use Rattle.plain_values.proofs.Plain.{and_first, and_second}

-- what the rule spells, or where it stops
abbrev pub Tells : {s : Sort} → Rule s → List Terminal → Read (Value s) → Type 0
Tells {s} r ts (stuck at) = Stops s r ts at
Tells {s} r ts (read x rest) = Spells s r ts x rest

abbrev pub ManyTells : {s : Sort} → Test → Rule s → List Terminal → Read (List (Value s)) → Type 0
ManyTells {s} test r ts (stuck at) = ManyStop s test r ts at
ManyTells {s} test r ts (read xs rest) = SpellsMany s test r ts xs rest

-- short enough, for a rule that does or doesn't come to a named production at once
abbrev pub Within : Bool → ℕ → List Terminal → Type 0
Within true n ts = length ts < n
Within false n ts = length ts ≤ n

pub within_most : (b : Bool) (n : ℕ) (ts : List Terminal) → Within b n ts → length ts ≤ n
within_most true n ts h = omega arith
within_most false n ts h = h

pub within_any : (b : Bool) (n : ℕ) (ts : List Terminal) → length ts < n → Within b n ts
within_any true n ts h = h
within_any false n ts h = omega arith

pub within_first : (a b : Bool) (n : ℕ) (ts : List Terminal) → Within (a || b) n ts → Within a n ts
within_first true b n ts h = h
within_first false b n ts h = within_most b n ts h

pub within_second : (a b : Bool) (n : ℕ) (ts : List Terminal) → Within (a || b) n ts → Within b n ts
within_second true true n ts h = h
within_second true false n ts h = omega arith
within_second false b n ts h = h

pub within_rest : (b : Bool) (n : ℕ) (ts mid : List Terminal) → Within b n ts →
    length mid ≤ length ts → Within b n mid
within_rest true n ts mid h k = omega arith
within_rest false n ts mid h k = omega arith

-- behind a first part
pub within_behind : (a t b : Bool) (n : ℕ) (ts mid : List Terminal) →
    Within (a || (not t && b)) n ts → Less t mid ts → Within b n mid
within_behind a true false n ts mid h k =
    let e : length ts ≤ n = within_most (a || false) n ts h in omega arith
within_behind a true true n ts mid h k =
    let e : length ts ≤ n = within_most (a || false) n ts h in omega arith
within_behind a false b n ts mid h k = within_rest b n ts mid (within_second a b n ts h) k

-- what the named productions read is told of all texts that are short enough
abbrev pub Exact : Later → ℕ → Type 0
Exact later n =
    (m : Nonterminal) (ts : List Terminal) → length ts < n → Tells (use' m) ts (later m ts)

-- ---- each form of a rule

as_told : (s : Sort) (table : Symbol →
    Option (Value s)) (t : Terminal) (ts : List Terminal) (o : Option (Value s)) →
    table t.symbol ≡ o → Tells (one {s = s} table) (t ∷ ts) (read_as o ts (t ∷ ts))
as_told s table t ts None h = stops_at h
as_told s table t ts (Some x) h = is_one h

taking_tells : (s : Sort) (table : Symbol → Option (Value s)) (ts : List Terminal) →
    Tells (one {s = s} table) ts (taking table ts)
taking_tells s table [] = stops_at_end
taking_tells s table (t ∷ ts) = as_told s table t ts (table t.symbol) refl

second_tells : {a b : Sort} (s : Sort) (f : Value a → Value b →
    Value s) (r : Rule a) (q : Rule b) (ts mid : List Terminal) (x : Value a) → Spells a r ts x mid →
    (o : Read (Value b)) → Tells q mid o →
    Tells (both {t = s} f r q) ts (then_read o (λ y rest. read (f x y) rest))
unfolding then_read
second_tells s f r q ts mid x p (stuck at) k = stops_behind p k
second_tells s f r q ts mid x p (read y rest) k = is_both p k

both_tells : {a b : Sort} (s : Sort) (f : Value a → Value b →
    Value s) (r : Rule a) (q : Rule b) (ts : List Terminal) (more : List Terminal → Read (Value b)) →
    (o : Read (Value a)) → Tells r ts o → ((x : Value a) (mid : List Terminal) →
    Spells a r ts x mid → Tells q mid (more mid)) →
    Tells (both {t =
    s} f r q) ts (then_read o (λ x mid. then_read (more mid) (λ y rest. read (f x y) rest)))
unfolding then_read
both_tells s f r q ts more (stuck at) p k = stops_before p
both_tells s f r q ts more (read x mid) p k = second_tells s f r q ts mid x p (more mid) (k x mid p)

first_tells : {s : Sort} (test : Test) (r q : Rule s) (ts : List Terminal) (o : Read (Value s)) →
    test ts ≡ true → Tells r ts o → Tells (when test then r else q) ts o
first_tells test r q ts (stuck at) h p = stops_in_first h p
first_tells test r q ts (read x rest) h p = is_first h p

other_tells : {s : Sort} (test : Test) (r q : Rule s) (ts : List Terminal) (o : Read (Value s)) →
    test ts ≡ false → Tells q ts o → Tells (when test then r else q) ts o
other_tells test r q ts (stuck at) h p = stops_in_second h p
other_tells test r q ts (read x rest) h p = is_second h p

when_tells : {s : Sort} (test : Test) (r q : Rule s) (ts : List Terminal) (o o' : Read (Value s)) →
    Tells r ts o → Tells q ts o' →
    (b : Bool) → test ts ≡ b → Tells (when test then r else q) ts (cond b o o')
when_tells test r q ts o o' p k true h = first_tells test r q ts o h p
when_tells test r q ts o o' p k false h = other_tells test r q ts o' h k

further_tells : {s : Sort} (test : Test) (r : Rule s) (ts mid : List Terminal) (x : Value s) →
    test ts ≡ true → Spells s r ts x mid →
    (o : Read (List (Value s))) → ManyTells test r mid o →
    ManyTells test r ts (then_read o (λ xs rest. read (x ∷ xs) rest))
unfolding then_read
further_tells test r ts mid x h p (stuck at) k = later_stops h p k
further_tells test r ts mid x h p (read xs rest) k = one_more h p k

item_tells : {s : Sort} (test : Test) (r : Rule s) (ts : List Terminal) (more : List Terminal →
    Read (List (Value s))) → test ts ≡ true →
    (o : Read (Value s)) → Tells r ts o → ((x : Value s) (mid : List Terminal) →
    Spells s r ts x mid → ManyTells test r mid (more mid)) →
    ManyTells test r ts (then_read o (λ x mid. then_read (more mid) (λ xs rest. read (x ∷ xs) rest)))
unfolding then_read
item_tells test r ts more h (stuck at) p k = this_stops h p
item_tells test r ts more h (read x mid) p k =
    further_tells test r ts mid x h p (more mid) (k x mid p)

pub round_tells : {s : Sort} (test : Test) (r : Rule s) (ts : List Terminal) (more : List Terminal →
    Read (List (Value s))) (o : Read (Value s)) → Tells r ts o →
    ((x : Value s) (mid : List Terminal) → Spells s r ts x mid → ManyTells test r mid (more mid)) →
    (b : Bool) → test ts ≡ b →
    ManyTells test r ts (cond b (then_read o (λ x mid. then_read (more mid) (λ xs rest. read (x ∷ xs) rest))) (read [] ts))
round_tells test r ts more o p k true h = item_tells test r ts more h o p k
round_tells test r ts more o p k false h = no_more h

upto_tells : {s : Sort} (test : Test) (r : Rule s) (item : List Terminal → Read (Value s)) (n : ℕ) →
    ((ts : List Terminal) → Within (leads r) n ts → Tells r ts (item ts)) →
    takes r ≡ true → (c : ℕ) (ts : List Terminal) → length ts < c → Within (leads r) n ts →
    ManyTells test r ts (many_upto test item c ts)
unfolding many_upto
upto_tells test r item n told h zero ts lt w = absurd (omega arith)
upto_tells test r item n told h (suc c) ts lt w =
    round_tells test r ts (many_upto test item c) (item ts) (told ts w)
    (λ x mid p. let less : length mid < length ts = subst (λ b. Less b mid ts) h (shrinks p) in
    upto_tells test r item n told h c mid (omega arith) (within_rest (leads r) n ts mid w (omega arith)))
    (test ts) refl

pub many_tells : {s : Sort} (test : Test) (r : Rule s) (ts : List Terminal) (o : Read (List (Value s))) → ManyTells test r ts o → Tells (many test r) ts o
many_tells test r ts (stuck at) p = stops_in_many p
many_tells test r ts (read xs rest) p = is_many p

-- ---- every rule

pub tells_with : {s : Sort} (later : Later) (n : ℕ) → Exact later n → (r : Rule s) →
    is_sound r ≡ true → (ts : List Terminal) → Within (leads r) n ts →
    Tells r ts (reading_with later r ts)
unfolding reading_with is_sound leads
tells_with later n exact (gives x) h ts w = is_given
tells_with later n exact here h ts w = is_here
tells_with later n exact (one table) h ts w = taking_tells _ table ts
tells_with later n exact (both f r q) h ts w =
    both_tells _ f r q ts (reading_with later q) (reading_with later r ts)
    (tells_with later n exact r (and_first (is_sound r) (is_sound q) h) ts (within_first (leads r) (not (takes r) && leads q) n ts w))
    (λ x mid p. tells_with later n exact q (and_second (is_sound r) (is_sound q) h) mid (within_behind (leads r) (takes r) (leads q) n ts mid w (shrinks p)))
tells_with later n exact (when test then r else q) h ts w =
    when_tells test r q ts (reading_with later r ts) (reading_with later q ts)
    (tells_with later n exact r (and_first (is_sound r) (is_sound q) h) ts (within_first (leads r) (leads q) n ts w))
    (tells_with later n exact q (and_second (is_sound r) (is_sound q) h) ts (within_second (leads r) (leads q) n ts w)) (test ts) refl
tells_with later n exact (many test r) h ts w =
    many_tells test r ts (many_upto test (reading_with later r) (suc (length ts)) ts)
    (upto_tells test r (reading_with later r) n (λ us v. tells_with later n exact r (and_second (takes r) (is_sound r) h) us v) (and_first (takes r) (is_sound r) h) (suc (length ts)) ts
    (omega arith) w)
tells_with later n exact (use' m) h ts w = exact m ts w

-- ---- within enough terminals

pub use_tells : (m : Nonterminal) (ts : List Terminal) (o : Read (Value (spelt_by m))) →
    Tells (rule_of m) ts o → Tells (use' m) ts o
use_tells m ts (stuck at) p = stops_in_use p
use_tells m ts (read x rest) p = is_used p

pub exact_upto : (k : ℕ) → Exact (later_upto k) k
unfolding later_upto
exact_upto zero m ts lt = absurd (omega arith)
exact_upto (suc k) m ts lt =
    use_tells m ts (reading_with (later_upto k) (rule_of m) ts)
    (tells_with (later_upto k) k (exact_upto k) (rule_of m) (named_sound m) ts
    (let short : length ts ≤ k =
    omega arith in subst (λ b. Within b k ts) (sym (named_leads m)) short))

pub exact_now : (n : ℕ) → Exact now n
unfolding now
exact_now n m ts lt = exact_upto (suc (length ts)) m ts (omega arith)

pub tells : {s : Sort} (r : Rule s) → is_sound r ≡ true → (ts : List Terminal) →
    Tells r ts (reading r ts)
unfolding reading
tells r h ts = let lt : length ts < suc (length ts) = omega arith in
    tells_with now (suc (length ts)) (exact_now (suc (length ts))) r h ts (within_any (leads r) (suc (length ts)) ts lt)
