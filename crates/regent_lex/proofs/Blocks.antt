-- Block comments: the search for the first ]].
use Rattle.std.proofs.Common.{◌≡◌, ℕ, ◌+◌, Bool, true, false, List, []}
use Rattle.std.proofs.Common.{◌∷◌, ◌++◌, length, Option, Some, None, refl, ap, ◌∙◌, arith}
use Rattle.std.specs.Prelude.{◌==◌, ◌&&◌, codes}
use Rattle.std.proofs.lemmas.Bool.{eqb-true, or_parts, and_parts}
use Rattle.regent_lex.specs.declared.search.Wanted.TheVariants.{Brackets}
use Rattle.regent_lex.specs.Bytes.{next_are}
use Rattle.regent_lex.specs.Trivia.{has_brackets}
use Rattle.regent_lex.specs.Search.{further, search}

-- what may stand behind --[[
pub data Block : List ℕ → Type 0 where
  ended : (bytes after : List ℕ) → has_brackets (bytes ++ codes "]") ≡ false →
      Block (bytes ++ 93 ∷ 93 ∷ after)
  endless : {bytes : List ℕ} → has_brackets bytes ≡ false → Block bytes

-- what comes after a bracket changes nothing before it
no_pair_before : (b : ℕ) (bytes after : List ℕ) →
    next_are 93 93 (b ∷ bytes ++ 93 ∷ 93 ∷ after) ≡ false →
    next_are 93 93 (b ∷ bytes ++ codes "]") ≡ false
no_pair_before b [] after h = h
no_pair_before b (c ∷ bytes) after h = h

-- one more byte before a block, which begins no ]]
behind_byte : (b : ℕ) (bytes : List ℕ) → next_are 93 93 (b ∷ bytes) ≡ false → Block bytes →
    Block (b ∷ bytes)
behind_byte b text no_pair (ended bytes after h) =
    ended (b ∷ bytes) after (rw (no_pair_before b bytes after no_pair) h)
behind_byte b text no_pair (endless h) = endless (rw no_pair h)

-- a list that begins with two bytes is these and a rest
pub next_are_is : (x y : ℕ) (bytes : List ℕ) → next_are x y bytes ≡ true →
    (after : List ℕ) × (bytes ≡ x ∷ y ∷ after)
next_are_is x y [] h = absurd cc
next_are_is x y (a ∷ []) h = absurd (let e = (and_parts (a == x) false h).1 in cc)
next_are_is x y (a ∷ b ∷ after) h =
    let both = and_parts (a == x) (b == y) h in
    let p : a ≡ x = eqb-true a x both.0 in
    let q : b ≡ y = eqb-true b y both.1 in
    (after, rw (p, q) refl)

block_on : (b : ℕ) (bytes : List ℕ) (t : Bool) → next_are 93 93 (b ∷ bytes) ≡ t → Block bytes →
    Block (b ∷ bytes)
block_on b bytes false is later = behind_byte b bytes is later
block_on b bytes true is later =
    let found = next_are_is 93 93 (b ∷ bytes) is in rw found.1 (ended [] found.0 refl)

-- each list of bytes is one or the other
pub block : (bytes : List ℕ) → Block bytes
block [] = endless refl
block (b ∷ bytes) = block_on b bytes _ refl (block bytes)

-- ---- the search

-- with a bracket before the bytes, or without
abbrev has_behind : Bool → List ℕ → Bool
has_behind true bytes = has_brackets (93 ∷ bytes)
has_behind false bytes = has_brackets bytes

-- where no ]] stands in bytes, with a bracket before them or without, none stands in those behind
-- the first
goes_on : (b : ℕ) (bytes : List ℕ) (behind is_bracket : Bool) → (b == 93) ≡ is_bracket →
    has_behind behind (b ∷ bytes) ≡ false →
    ((behind && is_bracket) ≡ false) × (has_behind is_bracket bytes ≡ false)
goes_on b bytes false false is h =
    (refl, (or_parts (next_are 93 93 (b ∷ bytes)) (has_brackets bytes) h).1)
goes_on b bytes false true is h = (refl, let e : b ≡ 93 = eqb-true b 93 is in rw e at h)
goes_on b bytes true false is h =
    let later = (or_parts (next_are 93 93 (93 ∷ b ∷ bytes)) (has_brackets (b ∷ bytes)) h).1 in
    (refl, (or_parts (next_are 93 93 (b ∷ bytes)) (has_brackets bytes) later).1)
goes_on b bytes true true is h = absurd (let e = rw is at h in cc)

-- the search goes on behind a byte that ends no ]]
found_on : (b n : ℕ) (bytes : List ℕ) (behind is_bracket : Bool) (o : Option ℕ) →
    (b == 93) ≡ is_bracket →
    (behind && is_bracket) ≡ false → search Brackets is_bracket bytes ≡ o →
    search Brackets behind (b ∷ bytes) ≡ further 1 o
found_on b n bytes behind is_bracket o is no_pair h = rw (is, no_pair, h) refl

-- the search finds the first ]]
ended_behind : (bytes after : List ℕ) (behind : Bool) →
    has_behind behind (bytes ++ codes "]") ≡ false →
    search Brackets behind (bytes ++ 93 ∷ 93 ∷ after) ≡ Some (length bytes + 1)
ended_behind [] after false h = refl
ended_behind [] after true h = absurd cc
ended_behind (b ∷ bytes) after behind h =
    let on = goes_on b (bytes ++ codes "]") behind (b == 93) refl h in
    found_on b 0 (bytes ++ 93 ∷ 93 ∷ after) behind (b == 93) _ refl on.0
    (ended_behind bytes after (b == 93) on.1)
    ∙ ap (λ n. Some n) (omega arith)

-- where no ]] stands, the search finds none
endless_behind : (bytes : List ℕ) (behind : Bool) → has_behind behind bytes ≡ false →
    search Brackets behind bytes ≡ None
endless_behind [] behind h = refl
endless_behind (b ∷ bytes) behind h =
    let on = goes_on b bytes behind (b == 93) refl h in
    found_on b 0 bytes behind (b == 93) _ refl on.0 (endless_behind bytes (b == 93) on.1)

-- the search finds the first ]]
pub ended_found : (bytes after : List ℕ) → has_brackets (bytes ++ codes "]") ≡ false →
    search Brackets false (bytes ++ 93 ∷ 93 ∷ after) ≡ Some (length bytes + 1)
ended_found bytes after h = ended_behind bytes after false h

-- the search finds no ]] where none stands
pub endless_missing : (bytes : List ℕ) → has_brackets bytes ≡ false →
    search Brackets false bytes ≡ None
endless_missing bytes h = endless_behind bytes false h
