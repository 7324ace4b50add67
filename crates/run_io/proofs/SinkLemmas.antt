-- What several writes in a row add.
use Rattle.std.proofs.Common.{◌≡◌, ◌+◌, ◌-◌, ◌++◌, ℕ, List, Option, Some, None, length, take, drop, option_map, arith, ◌∙◌, ap, sym, append_assoc}
use Rattle.std.proofs.Math.Seq.{take-add}
use Rattle.std.proofs.lemmas.Grind.{common_steps}
use Rattle.run_io.specs.Sink.{Adds}

-- what was added first, and what was added then
pub adds_both : (before between now : Option (List ℕ)) (first second both : List ℕ) → Adds before first between → Adds between second now → both ≡ first ++ second → Adds before both now
adds_both None between now first second both one two same = two ∙ ap (option_map (λ held. held ++ second)) one
adds_both (Some held) between now first second both one two same =
    two
    ∙ ap (option_map (λ rest. rest ++ second)) one
    ∙ ap Some (append_assoc held first second)
    ∙ ap (λ added. Some (held ++ added)) (sym same)

-- the first i + n elements: the first i, and then n of the rest
first_two_parts : (xs : List ℕ) (i n : ℕ) → take (i + n) xs ≡ take i xs ++ take n (take (length xs - i) (drop i xs))
first_two_parts xs i n = grind (arith, common_steps, take-add)

-- what was added up to i, and then n bytes from i on, is what stands before i + n
pub adds_next : (before between now : Option (List ℕ)) (bytes : List ℕ) (i n : ℕ) → Adds before (take i bytes) between → Adds between (take n (take (length bytes - i) (drop i bytes))) now → Adds before (take (i + n) bytes) now
adds_next before between now bytes i n one two = adds_both before between now _ _ _ one two (first_two_parts bytes i n)
