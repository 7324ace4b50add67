-- Runs of bytes that pass a test.
use Rattle.std.proofs.Common.{◌≡◌, ℕ, suc, ◌+◌, ◌<◌, Bool, true, false, cond, List, [], ◌∷◌}
use Rattle.std.proofs.Common.{◌++◌, length, take, drop, refl, arith}
use Rattle.std.specs.List.{prefix_len, list_all}
use Rattle.std.proofs.lemmas.Bool.{and_parts}
use Rattle.regent_lex.specs.Bytes.{next_is}

run_all_on : (p : ℕ → Bool) (x : ℕ) (xs : List ℕ) (b : Bool) → p x ≡ b →
    list_all p (take (prefix_len p xs) xs) ≡ true →
    list_all p (take (cond b (1 + prefix_len p xs) 0) (x ∷ xs)) ≡ true
run_all_on p x xs false is h = refl
run_all_on p x xs true is h =
    let e : 1 + prefix_len p xs ≡ suc (prefix_len p xs) = omega arith in rw (e, is) h

-- all of a run passes
pub run_all : (p : ℕ → Bool) (xs : List ℕ) → list_all p (take (prefix_len p xs) xs) ≡ true
run_all p [] = refl
run_all p (x ∷ xs) = run_all_on p x xs (p x) refl (run_all p xs)

run_ends_on : (p : ℕ → Bool) (x : ℕ) (xs : List ℕ) (b : Bool) → p x ≡ b →
    next_is p (drop (prefix_len p xs) xs) ≡ false →
    next_is p (drop (cond b (1 + prefix_len p xs) 0) (x ∷ xs)) ≡ false
run_ends_on p x xs false is h = is
run_ends_on p x xs true is h =
    let e : 1 + prefix_len p xs ≡ suc (prefix_len p xs) = omega arith in rw e h

-- what comes after a run doesn't pass
pub run_ends : (p : ℕ → Bool) (xs : List ℕ) → next_is p (drop (prefix_len p xs) xs) ≡ false
run_ends p [] = refl
run_ends p (x ∷ xs) = run_ends_on p x xs (p x) refl (run_ends p xs)

-- a run that doesn't begin is empty
run_stops : (p : ℕ → Bool) (after : List ℕ) → next_is p after ≡ false → prefix_len p after ≡ 0
run_stops p [] h = refl
run_stops p (x ∷ xs) h = rw h refl

-- bytes that pass, with one behind them that doesn't, are the run
pub run_is : (p : ℕ → Bool) (s after : List ℕ) → list_all p s ≡ true → next_is p after ≡ false →
    prefix_len p (s ++ after) ≡ length s
run_is p [] after h stops = run_stops p after stops
run_is p (x ∷ xs) after h stops =
    let both = and_parts (p x) (list_all p xs) h in
    let first : p x ≡ true = both.0 in
    let rest = run_is p xs after both.1 stops in
    rw (first, rest) (omega arith)

-- a run that begins is not empty
pub run_begins : (p : ℕ → Bool) (xs : List ℕ) → next_is p xs ≡ true → 0 < prefix_len p xs
run_begins p [] h = absurd cc
run_begins p (x ∷ xs) h = rw h (omega arith)
