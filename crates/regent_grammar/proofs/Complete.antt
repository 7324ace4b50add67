-- What a rule spells is read, and where the rule stops reading does.
use Rattle.std.proofs.Common.{◌≡◌, ℕ, zero, suc, ◌≤◌, ◌<◌, true, ◌&&◌, not, List, length, refl, sym, subst, arith}
use Rattle.regent_grammar.specs.declared.symbol.Terminal.{Terminal}
use Rattle.regent_grammar.specs.Symbols.{Test}
use Rattle.regent_grammar.specs.Rules.{Sort, Value, Nonterminal, spelt_by, Rule}
use Rattle.regent_grammar.specs.Grammar.{rule_of}
use Rattle.regent_grammar.specs.Guards.{takes, leads, is_sound}
use Rattle.regent_grammar.specs.Derivations.{Spells, is_given, is_here, is_one, is_both, is_first, is_second, is_many, is_used, SpellsMany, no_more, one_more, Stops, stops_at_end, stops_at, stops_before, stops_behind, stops_in_first, stops_in_second, stops_in_many, stops_in_use, ManyStop, this_stops, later_stops}
use Rattle.regent_grammar.specs.Reading.{stuck, read, then_read, many_upto, Later, reading_with, later_upto, now, reading}
use Rattle.regent_grammar.proofs.Rulings.{named_leads, named_sound}
use Rattle.regent_grammar.proofs.Lengths.{Less, shrinks}
use Rattle.regent_grammar.proofs.Sound.{Within, within_any, within_first, within_second, within_rest, within_behind}
use Rattle.plain_values.proofs.Plain.{and_first, and_second}

-- the named productions read all that they spell in texts that are short enough, and stop as they
-- do
pub record Full (later : Later) (n : ℕ) : Type 0 where
  pub reads : (m : Nonterminal) (ts : List Terminal) (x : Value (spelt_by m)) (rest : List Terminal) →
      Spells (spelt_by m) (rule_of m) ts x rest → length ts < n → later m ts ≡ read x rest
  pub sticks : (m : Nonterminal) (ts at : List Terminal) → Stops (spelt_by m) (rule_of m) ts at →
      length ts < n → later m ts ≡ stuck at

mutual
  unfolding reading_with many_upto then_read leads is_sound

  pub reads_with : {s : Sort} {r : Rule s} {ts : List Terminal} {x : Value s} {rest : List Terminal} → Spells s r ts x rest →
      (later : Later) (n : ℕ) → Full later n → is_sound r ≡ true → Within (leads r) n ts →
      reading_with later r ts ≡ read x rest
  reads_with is_given later n full h w = refl
  reads_with is_here later n full h w = refl
  reads_with (is_one {ts = ts} k) later n full h w = rw k refl
  reads_with (is_both {r = r} {q = q} {ts = ts} {mid = mid} p k) later n full h w =
      let e = reads_with p later n full (and_first (is_sound r) (is_sound q) h) (within_first (leads r) (not (takes r) && leads q) n ts w) in
      let d = reads_with k later n full (and_second (is_sound r) (is_sound q) h) (within_behind (leads r) (takes r) (leads q) n ts mid w (shrinks p)) in
      rw (e, d) refl
  reads_with (is_first {r = r} {q = q} {ts = ts} t p) later n full h w =
      let e = reads_with p later n full (and_first (is_sound r) (is_sound q) h) (within_first (leads r) (leads q) n ts w) in
      rw (t, e) refl
  reads_with (is_second {r = r} {q = q} {ts = ts} t p) later n full h w =
      let e = reads_with p later n full (and_second (is_sound r) (is_sound q) h) (within_second (leads r) (leads q) n ts w) in
      rw (t, e) refl
  reads_with (is_many {r = r} {ts = ts} p) later n full h w =
      many_reads_with p later n full (and_first (takes r) (is_sound r) h) (and_second (takes r) (is_sound r) h) w (suc (length ts)) (omega arith)
  reads_with (is_used {n =
      m} {ts = ts} {rest = rest} {x = x} p) later n full h w = full.reads m ts x rest p w

  pub many_reads_with : {s : Sort} {test : Test} {r : Rule s} {ts : List Terminal} {xs : List (Value s)} {rest : List Terminal} → SpellsMany s test r ts xs rest →
      (later : Later) (n : ℕ) → Full later n → takes r ≡ true → is_sound r ≡ true →
      Within (leads r) n ts →
      (c : ℕ) → length ts < c → many_upto test (reading_with later r) c ts ≡ read xs rest
  many_reads_with (no_more t) later n full g h w zero lt = absurd (omega arith)
  many_reads_with (no_more t) later n full g h w (suc c) lt = rw t refl
  many_reads_with (one_more t p k) later n full g h w zero lt = absurd (omega arith)
  many_reads_with (one_more {r = r} {ts = ts} {mid = mid} t p k) later n full g h w (suc c) lt =
      let less : length mid < length ts = subst (λ b. Less b mid ts) g (shrinks p) in
      let most : length mid ≤ length ts = omega arith in
      let e = reads_with p later n full h w in
      let d = many_reads_with k later n full g h (within_rest (leads r) n ts mid w most) c (omega arith) in
      rw (t, e, d) refl

mutual
  unfolding reading_with many_upto then_read leads is_sound

  pub sticks_with : {s : Sort} {r : Rule s} {ts at : List Terminal} → Stops s r ts at →
      (later : Later) (n : ℕ) → Full later n → is_sound r ≡ true → Within (leads r) n ts →
      reading_with later r ts ≡ stuck at
  sticks_with stops_at_end later n full h w = refl
  sticks_with (stops_at k) later n full h w = rw k refl
  sticks_with (stops_before {r = r} {q = q} {ts = ts} p) later n full h w =
      let e = sticks_with p later n full (and_first (is_sound r) (is_sound q) h) (within_first (leads r) (not (takes r) && leads q) n ts w) in
      rw e refl
  sticks_with (stops_behind {r = r} {q = q} {ts = ts} {mid = mid} p k) later n full h w =
      let e = reads_with p later n full (and_first (is_sound r) (is_sound q) h) (within_first (leads r) (not (takes r) && leads q) n ts w) in
      let d = sticks_with k later n full (and_second (is_sound r) (is_sound q) h) (within_behind (leads r) (takes r) (leads q) n ts mid w (shrinks p)) in
      rw (e, d) refl
  sticks_with (stops_in_first {r = r} {q = q} {ts = ts} t p) later n full h w =
      let e = sticks_with p later n full (and_first (is_sound r) (is_sound q) h) (within_first (leads r) (leads q) n ts w) in
      rw (t, e) refl
  sticks_with (stops_in_second {r = r} {q = q} {ts = ts} t p) later n full h w =
      let e = sticks_with p later n full (and_second (is_sound r) (is_sound q) h) (within_second (leads r) (leads q) n ts w) in
      rw (t, e) refl
  sticks_with (stops_in_many {r = r} {ts = ts} p) later n full h w =
      many_sticks_with p later n full (and_first (takes r) (is_sound r) h) (and_second (takes r) (is_sound r) h) w (suc (length ts)) (omega arith)
  sticks_with (stops_in_use {n =
      m} {ts = ts} {at = at} p) later n full h w = full.sticks m ts at p w

  pub many_sticks_with : {s : Sort} {test : Test} {r : Rule s} {ts at : List Terminal} →
      ManyStop s test r ts at →
      (later : Later) (n : ℕ) → Full later n → takes r ≡ true → is_sound r ≡ true →
      Within (leads r) n ts →
      (c : ℕ) → length ts < c → many_upto test (reading_with later r) c ts ≡ stuck at
  many_sticks_with (this_stops t p) later n full g h w zero lt = absurd (omega arith)
  many_sticks_with (this_stops t p) later n full g h w (suc c) lt =
      let e = sticks_with p later n full h w in rw (t, e) refl
  many_sticks_with (later_stops t p k) later n full g h w zero lt = absurd (omega arith)
  many_sticks_with (later_stops {r = r} {ts = ts} {mid = mid} t p k) later n full g h w (suc c) lt =
      let less : length mid < length ts = subst (λ b. Less b mid ts) g (shrinks p) in
      let most : length mid ≤ length ts = omega arith in
      let e = reads_with p later n full h w in
      let d = many_sticks_with k later n full g h (within_rest (leads r) n ts mid w most) c (omega arith) in
      rw (t, e, d) refl

pub full_upto : (k : ℕ) → Full (later_upto k) k
unfolding later_upto
full_upto zero =
    record { reads = λ m ts x rest p lt. absurd (omega arith); sticks = λ m ts at p lt. absurd (omega arith) }
full_upto (suc k) = record {
  reads = λ m ts x rest p lt. let short : length ts ≤ k = omega arith in
      reads_with p (later_upto k) k (full_upto k) (named_sound m) (subst (λ b. Within b k ts) (sym (named_leads m)) short);
  sticks = λ m ts at p lt. let short : length ts ≤ k = omega arith in
      sticks_with p (later_upto k) k (full_upto k) (named_sound m) (subst (λ b. Within b k ts) (sym (named_leads m)) short);
}

pub full_now : (n : ℕ) → Full now n
unfolding now
full_now n = record {
  reads = λ m ts x rest p lt. (full_upto (suc (length ts))).reads m ts x rest p (omega arith);
  sticks = λ m ts at p lt. (full_upto (suc (length ts))).sticks m ts at p (omega arith);
}

pub reads : {s : Sort} {r : Rule s} {ts : List Terminal} {x : Value s} {rest : List Terminal} →
    Spells s r ts x rest → is_sound r ≡ true → reading r ts ≡ read x rest
unfolding reading
reads {r = r} {ts = ts} p h = let lt : length ts < suc (length ts) = omega arith in
    reads_with p now (suc (length ts)) (full_now (suc (length ts))) h (within_any (leads r) (suc (length ts)) ts lt)

pub sticks : {s : Sort} {r : Rule s} {ts at : List Terminal} → Stops s r ts at →
    is_sound r ≡ true → reading r ts ≡ stuck at
unfolding reading
sticks {r = r} {ts = ts} p h = let lt : length ts < suc (length ts) = omega arith in
    sticks_with p now (suc (length ts)) (full_now (suc (length ts))) h (within_any (leads r) (suc (length ts)) ts lt)
