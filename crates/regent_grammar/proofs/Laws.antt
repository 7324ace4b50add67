-- The laws of the grammar.
use Rattle.std.proofs.Common.{◌≡◌, false, List, [], ◌∷◌, ◌++◌, refl, sym, ap, ◌∙◌, append_assoc}
use Rattle.regent_grammar.specs.declared.symbol.Terminal.{Terminal}
use Rattle.regent_grammar.specs.Symbols.{Test, goes_on}
use Rattle.regent_grammar.specs.Rules.{Sort, Value, Rule, gives, here, one, both, when◌then◌else◌, many, use'}
use Rattle.regent_grammar.specs.Items.{program}
use Rattle.regent_grammar.specs.Derivations.{Spells, is_given, is_here, is_one, is_both, is_first, is_second, is_many, is_used, SpellsMany, no_more, one_more, Stops, stops_at_end, stops_at, stops_before, stops_behind, stops_in_first, stops_in_second, stops_in_many, stops_in_use, ManyStop, this_stops, later_stops}
use Rattle.regent_grammar.specs.Reading.{Read, stuck, read, reading}
use Rattle.regent_grammar.specs.Laws as law
use Rattle.regent_grammar.proofs.Sound.{Tells, tells}
use Rattle.regent_grammar.proofs.Complete.{reads, sticks}
use Rattle.regent_grammar.proofs.ReadingLaws.{one_value, one_place, not_both, told, told_stuck}
use Rattle.regent_grammar.proofs.Facts.{program_sound}

pub one_tree : law.OneTree
one_tree ts tree other p q = (one_value program_sound p q).0

pub never_both : law.NeverBoth
never_both ts at tree p q = not_both program_sound p q

pub one_place_each : law.OnePlace
one_place_each ts at other p q = one_place program_sound p q

pub reading_is_exact : law.ReadingIsExact
reading_is_exact s r h ts =
    (λ x rest. (told r h ts x rest, λ p. reads p h), λ at. (told_stuck r h ts at, λ p. sticks p h))

-- ---- where a rule ends

-- what holds of the terminals behind a rule
abbrev Ends : {s : Sort} → Rule s → List Terminal → Type 0
Ends (gives x) rest = Unit {0}
Ends here rest = Unit {0}
Ends (one table) rest = Unit {0}
Ends (both f r q) rest = Ends q rest
Ends (when test then r else q) rest = Unit {0}
Ends (many test r) rest = test rest ≡ false
Ends (use' n) rest = Unit {0}

mutual
  ends : {s : Sort} {r : Rule s} {ts : List Terminal} {x : Value s} {rest : List Terminal} →
      Spells s r ts x rest → Ends r rest
  ends is_given = tt
  ends is_here = tt
  ends (is_one h) = tt
  ends (is_both p q) = ends q
  ends (is_first h p) = tt
  ends (is_second h p) = tt
  ends (is_many p) = many_ends p
  ends (is_used p) = tt

  many_ends : {s : Sort} {test : Test} {r : Rule s} {ts : List Terminal} {xs : List (Value s)} {rest : List Terminal} → SpellsMany s test r ts xs rest → test rest ≡ false
  many_ends (no_more h) = h
  many_ends (one_more h p q) = many_ends q

none_left : (rest : List Terminal) → goes_on rest ≡ false → rest ≡ []
none_left [] h = refl
none_left (t ∷ ts) h = absurd cc

program_ends : {s : Sort} {r : Rule s} {ts : List Terminal} {x : Value s} {rest : List Terminal} →
    Spells s r ts x rest → Ends r rest
program_ends p = ends p

pub none_behind : law.NoneBehind
none_behind ts rest tree p =
    let h : goes_on rest ≡ false = unfold program in ends p in none_left rest h

decided_by : (ts : List Terminal) (o : Read (List _)) → Tells program ts o → law.Decided ts
decided_by ts (stuck at) p = law.no_program at p
decided_by ts (read tree []) p = law.a_program tree p
decided_by ts (read tree (t ∷ rest)) p =
    let h : (t ∷ rest) ≡ [] = none_behind ts (t ∷ rest) tree p in absurd cc

pub all_decided : law.AllDecided
all_decided ts = decided_by ts (reading program ts) (tells program program_sound ts)

-- ---- what is left is the end of the text

abbrev Behind : List Terminal → List Terminal → Type 0
Behind ts rest = (front : List Terminal) × (ts ≡ front ++ rest)

all_behind : (ts : List Terminal) → Behind ts ts
all_behind ts = ([], refl)

further_behind : {ts mid rest : List Terminal} → Behind ts mid → Behind mid rest → Behind ts rest
further_behind {ts} {mid} {rest} p q =
    (p.0 ++ q.0, p.1 ∙ ap (λ us. p.0 ++ us) q.1 ∙ sym (append_assoc p.0 q.0 rest))

mutual
  behind : {s : Sort} {r : Rule s} {ts : List Terminal} {x : Value s} {rest : List Terminal} →
      Spells s r ts x rest → Behind ts rest
  behind (is_given {ts = ts}) = all_behind ts
  behind (is_here {ts = ts}) = all_behind ts
  behind (is_one {t = t} h) = (t ∷ [], refl)
  behind (is_both p q) = further_behind (behind p) (behind q)
  behind (is_first h p) = behind p
  behind (is_second h p) = behind p
  behind (is_many p) = many_behind p
  behind (is_used p) = behind p

  many_behind : {s : Sort} {test : Test} {r : Rule s} {ts : List Terminal} {xs : List (Value s)} {rest : List Terminal} → SpellsMany s test r ts xs rest → Behind ts rest
  many_behind (no_more {ts = ts} h) = all_behind ts
  many_behind (one_more h p q) = further_behind (behind p) (many_behind q)

mutual
  place_behind : {s : Sort} {r : Rule s} {ts at : List Terminal} → Stops s r ts at → Behind ts at
  place_behind stops_at_end = all_behind []
  place_behind (stops_at {t = t} {ts = ts} h) = all_behind (t ∷ ts)
  place_behind (stops_before p) = place_behind p
  place_behind (stops_behind p q) = further_behind (behind p) (place_behind q)
  place_behind (stops_in_first h p) = place_behind p
  place_behind (stops_in_second h p) = place_behind p
  place_behind (stops_in_many p) = many_place_behind p
  place_behind (stops_in_use p) = place_behind p

  many_place_behind : {s : Sort} {test : Test} {r : Rule s} {ts at : List Terminal} →
      ManyStop s test r ts at → Behind ts at
  many_place_behind (this_stops h p) = place_behind p
  many_place_behind (later_stops h p q) = further_behind (behind p) (many_place_behind q)

pub place_in_text : law.PlaceInText
place_in_text ts at p = place_behind p
