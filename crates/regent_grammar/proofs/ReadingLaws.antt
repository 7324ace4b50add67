-- Laws of reading by a rule, without a bound: what the proofs of code use.
use Rattle.std.proofs.Common.{◌≡◌, ◌≤◌, ◌<◌, true, false, cond, List, [], ◌∷◌, ◌++◌, length, refl, sym, ap, ◌∙◌, subst, append_assoc}
use Rattle.std.proofs.lemmas.List.{append-nil}
use Rattle.regent_grammar.specs.declared.symbol.Terminal.{Terminal}
use Rattle.regent_grammar.specs.Symbols.{Test}
use Rattle.regent_grammar.specs.Rules.{Sort, Value, Nonterminal, Rule, gives, here, one, both, when◌then◌else◌, many, use'}
use Rattle.regent_grammar.specs.Grammar.{rule_of}
use Rattle.regent_grammar.specs.Guards.{takes, is_sound}
use Rattle.regent_grammar.specs.Derivations.{Spells, is_given, is_here, is_one, is_both, is_first, is_second, is_many, is_used, SpellsMany, Stops, stops_at_end, stops_at, stops_before, stops_behind, stops_in_first, stops_in_second, stops_in_many, stops_in_use, ManyStop}
use Rattle.regent_grammar.specs.Reading.{Read, stuck, read, then_read, ◌>>=◌, reading}
use Rattle.regent_grammar.proofs.Rulings.{named_sound}
use Rattle.regent_grammar.proofs.Lengths.{Less, at_most, shrinks}
use Rattle.regent_grammar.proofs.Sound.{Tells, ManyTells, tells, use_tells, many_tells, round_tells}
use Rattle.regent_grammar.proofs.Complete.{reads, sticks}

-- what tells of a text is what is read of it
pub the_reading : {s : Sort} (r : Rule s) → is_sound r ≡ true →
    (ts : List Terminal) (o : Read (Value s)) → Tells r ts o → reading r ts ≡ o
the_reading r h ts (stuck at) p = sticks p h
the_reading r h ts (read x rest) p = reads p h

-- ---- single parts

pub read_is : {A : Type 0} {x y : A} {ts us : List Terminal} → read x ts ≡ read y us →
    (x ≡ y) × (ts ≡ us)
read_is {A} {x} {y} {ts} {us} h = (ap (value_in x) h, ap rest_in h)
  where
    value_in : A → Read A → A
    value_in x (stuck at) = x
    value_in x (read y rest) = y

    rest_in : Read A → List Terminal
    rest_in (stuck at) = []
    rest_in (read y rest) = rest

pub stuck_is : {A : Type 0} {ts us : List Terminal} → (◌≡◌ {A = Read A} (stuck ts) (stuck us)) →
    ts ≡ us
stuck_is {A} h = ap place_in h
  where
    place_in : Read A → List Terminal
    place_in (stuck at) = at
    place_in (read y rest) = rest

-- ---- a text has one tree at most, or one place at which it stops

pub one_value : {s : Sort} {r : Rule s} {ts : List Terminal} {x y : Value s} {rest rest' : List Terminal} → is_sound r ≡ true →
    Spells s r ts x rest → Spells s r ts y rest' → (x ≡ y) × (rest ≡ rest')
one_value h p q = read_is (sym (reads p h) ∙ reads q h)

pub one_place : {s : Sort} {r : Rule s} {ts at at' : List Terminal} → is_sound r ≡ true →
    Stops s r ts at → Stops s r ts at' → at ≡ at'
one_place {s} h p q = stuck_is {A = Value s} (sym (sticks p h) ∙ sticks q h)

pub not_both : {s : Sort} {r : Rule s} {ts at : List Terminal} {x : Value s} {rest : List Terminal} →
    is_sound r ≡ true → Spells s r ts x rest → Stops s r ts at → ⊥
not_both {s} {r} {ts} {at} {x} {rest} h p q =
    let e : read x rest ≡ stuck at = sym (reads p h) ∙ sticks q h in absurd cc

-- ---- lengths of what is left

pub told : {s : Sort} (r : Rule s) → is_sound r ≡ true →
    (ts : List Terminal) (x : Value s) (rest : List Terminal) → reading r ts ≡ read x rest →
    Spells s r ts x rest
told r h ts x rest e = subst (λ o. Tells r ts o) e (tells r h ts)

pub told_stuck : {s : Sort} (r : Rule s) → is_sound r ≡ true → (ts at : List Terminal) →
    reading r ts ≡ stuck at → Stops s r ts at
told_stuck r h ts at e = subst (λ o. Tells r ts o) e (tells r h ts)

pub no_longer : {s : Sort} (r : Rule s) → is_sound r ≡ true →
    (ts : List Terminal) (x : Value s) (rest : List Terminal) → reading r ts ≡ read x rest →
    length rest ≤ length ts
no_longer r h ts x rest e = at_most (takes r) rest ts (shrinks (told r h ts x rest e))

pub shorter : {s : Sort} (r : Rule s) → is_sound r ≡ true → takes r ≡ true →
    (ts : List Terminal) (x : Value s) (rest : List Terminal) → reading r ts ≡ read x rest →
    length rest < length ts
shorter r h k ts x rest e = subst (λ b. Less b rest ts) k (shrinks (told r h ts x rest e))

-- ---- equations without a bound

-- a production inside itself is read by its rule
pub used : (n : Nonterminal) (ts : List Terminal) → reading (use' n) ts ≡ reading (rule_of n) ts
unfolding is_sound
used n ts =
    the_reading (use' n) refl ts (reading (rule_of n) ts) (use_tells n ts (reading (rule_of n) ts) (tells (rule_of n) (named_sound n) ts))

-- what a text of a repeated rule consists of
abbrev MadeOf : {s : Sort} → Rule s → List Terminal → Value s → List Terminal → Type 0
MadeOf (gives x) ts y rest = Unit {0}
MadeOf here ts y rest = Unit {0}
MadeOf (one table) ts y rest = Unit {0}
MadeOf (both f r q) ts y rest = Unit {0}
MadeOf (when test then r else q) ts y rest = Unit {0}
MadeOf (many {s = s} test r) ts xs rest = SpellsMany s test r ts xs rest
MadeOf (use' n) ts y rest = Unit {0}

made_of : {s : Sort} {r : Rule s} {ts : List Terminal} {x : Value s} {rest : List Terminal} →
    Spells s r ts x rest → MadeOf r ts x rest
made_of is_given = tt
made_of is_here = tt
made_of (is_one h) = tt
made_of (is_both p q) = tt
made_of (is_first h p) = tt
made_of (is_second h p) = tt
made_of (is_many p) = p
made_of (is_used p) = tt

abbrev StopsIn : {s : Sort} → Rule s → List Terminal → List Terminal → Type 0
StopsIn (gives x) ts at = Unit {0}
StopsIn here ts at = Unit {0}
StopsIn (one table) ts at = Unit {0}
StopsIn (both f r q) ts at = Unit {0}
StopsIn (when test then r else q) ts at = Unit {0}
StopsIn (many {s = s} test r) ts at = ManyStop s test r ts at
StopsIn (use' n) ts at = Unit {0}

stops_in : {s : Sort} {r : Rule s} {ts at : List Terminal} → Stops s r ts at → StopsIn r ts at
stops_in stops_at_end = tt
stops_in (stops_at h) = tt
stops_in (stops_before p) = tt
stops_in (stops_behind p q) = tt
stops_in (stops_in_first h p) = tt
stops_in (stops_in_second h p) = tt
stops_in (stops_in_many p) = p
stops_in (stops_in_use p) = tt

many_told : {s : Sort} (test : Test) (r : Rule s) (ts : List Terminal) (o : Read (List (Value s))) → Tells (many test r) ts o → ManyTells test r ts o
many_told test r ts (stuck at) p = stops_in p
many_told test r ts (read xs rest) p = made_of p

-- the first of many, and the others
pub many_is : {s : Sort} (test : Test) (r : Rule s) → is_sound r ≡ true → takes r ≡ true →
    (ts : List Terminal) →
    reading (many test r) ts ≡ cond (test ts) (reading r ts >>= λ x mid. reading (many test r) mid >>= λ xs rest. read (x ∷ xs) rest) (read [] ts)
unfolding is_sound
many_is test r h k ts =
    let sound : is_sound (many test r) ≡ true = rw (h, k) refl in
    the_reading (many test r) sound ts _
    (many_tells test r ts _
    (round_tells test r ts (λ mid. reading (many test r) mid) (reading r ts) (tells r h ts) (λ x mid p. many_told test r mid (reading (many test r) mid) (tells (many test r) sound mid))
    (test ts) refl))

-- binds are associative
pub then_assoc : {A B C : Type 0} (o : Read A) (f : A → List Terminal → Read B) (g : B →
    List Terminal → Read C) →
    ((o >>= f) >>= g) ≡ (o >>= λ x mid. f x mid >>= g)
unfolding then_read
then_assoc (stuck at) f g = refl
then_assoc (read x ts) f g = refl

-- ---- a loop that reads item by item

-- what is read, behind what was read before
abbrev pub with_front : {A : Type 0} → List A → Read (List A) → Read (List A)
with_front xs r = r >>= λ ys rest. read (xs ++ ys) rest

pub front_none : {A : Type 0} (o : Read (List A)) → with_front [] o ≡ o
unfolding then_read
front_none (stuck at) = refl
front_none (read ys rest) = refl

front_on : {A : Type 0} (xs : List A) (x : A) (o : Read (List A)) →
    with_front xs (o >>= λ ys rest. read (x ∷ ys) rest) ≡ with_front (xs ++ x ∷ []) o
unfolding then_read
front_on xs x (stuck at) = refl
front_on xs x (read ys rest) = ap (λ zs. read zs rest) (sym (append_assoc xs (x ∷ []) ys))

-- one more item
pub many_goes_on : {s : Sort} (test : Test) (r : Rule s) → is_sound r ≡ true → takes r ≡ true →
    (xs : List (Value s)) (ts mid : List Terminal) (x : Value s) →
    test ts ≡ true → reading r ts ≡ read x mid →
    with_front xs (reading (many test r) ts) ≡ with_front (xs ++ x ∷ []) (reading (many test r) mid)
unfolding then_read
many_goes_on test r h k xs ts mid x t e =
    let first : reading (many test r) ts ≡ (reading (many test r) mid >>= λ ys rest. read (x ∷ ys) rest) = many_is test r h k ts ∙ rw (t, e) refl in
    ap (λ o. with_front xs o) first ∙ front_on xs x (reading (many test r) mid)

-- no more
pub many_ends : {s : Sort} (test : Test) (r : Rule s) → is_sound r ≡ true → takes r ≡ true →
    (xs : List (Value s)) (ts : List Terminal) →
    test ts ≡ false → with_front xs (reading (many test r) ts) ≡ read xs ts
unfolding then_read
many_ends test r h k xs ts t =
    let none : reading (many test r) ts ≡ read [] ts = many_is test r h k ts ∙ rw t refl in
    ap (λ o. with_front xs o) none ∙ ap (λ zs. read zs ts) (append-nil xs)

-- an item that can't be read
pub many_stuck : {s : Sort} (test : Test) (r : Rule s) → is_sound r ≡ true → takes r ≡ true →
    (xs : List (Value s)) (ts at : List Terminal) →
    test ts ≡ true → reading r ts ≡ stuck at → with_front xs (reading (many test r) ts) ≡ stuck at
unfolding then_read
many_stuck test r h k xs ts at t e =
    let first : reading (many test r) ts ≡ stuck at = many_is test r h k ts ∙ rw (t, e) refl in
    ap (λ o. with_front xs o) first
