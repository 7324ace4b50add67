-- What a function of the code returned is what reading gives, unless memory ran out.
use Rattle.std.specs.Prelude.{◌≡◌, List, ◌++◌, Result, Ok, Err}
use Rattle.read_terms.specs.declared.stop.Stop.{Stop}
use Rattle.read_terms.specs.declared.stop.Stop.TheVariants.{At, Memory}
use Rattle.regent_grammar.specs.Reading.{Read, stuck, read, ◌>>=◌}

abbrev pub Stopped : {A : Type 0} → Stop → Read A → Type 0
Stopped (At terminals) r = r ≡ stuck terminals.now
Stopped (Memory error) r = Unit {0}

abbrev pub Gives : {X A : Type 0} → (X → Read A) → Result X Stop → Read A → Type 0
Gives means (Ok x) r = r ≡ means x
Gives means (Err stop) r = Stopped stop r

-- what is read, behind what was read before
abbrev pub with_front : {A : Type 0} → List A → Read (List A) → Read (List A)
with_front xs r = r >>= λ ys rest. read (xs ++ ys) rest
