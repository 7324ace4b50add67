-- What the spelling of a token says of its bytes.
use Rattle.std.proofs.Common.{◌≡◌, ℕ, ◌≤◌, ◌<◌, ◌^◌, false, List, [], ◌∷◌}
use Rattle.std.proofs.Common.{length, take, refl, arith, inl, inr, ◌⊎◌}
use Rattle.std.specs.Prelude.{codes, All, slice_index_or}
use Rattle.std.specs.List.{prefix_len, AllPass}
use Rattle.std.proofs.lemmas.List.{take_at, length-append}
use Rattle.std.proofs.lemmas.List.Sums.{AllPass-from_list_all}
use Rattle.regent_lex.specs.declared.token.Token.{Token}
use Rattle.regent_lex.specs.declared.token.TokenKind.{TokenKind}
use Rattle.regent_lex.specs.declared.token.TokenKind.TheVariants.{Number, Quoted}
use Rattle.regent_lex.specs.Bytes.{is_digit, next_is}
use Rattle.regent_lex.specs.Numbers.{HasNoSuffix}
use Rattle.regent_lex.specs.Tokens.{IsToken, number, quoted}
use Rattle.regent_lex.specs.Places.{Spells, spelling}
use Rattle.regent_lex.specs.Values.{number_value}
use Rattle.regent_lex.proofs.Runs.{run_all, run_is}

-- a suffix doesn't begin with a digit
suffix_no_digit : (suffix after : List ℕ) →
    HasNoSuffix suffix after ⊎ (suffix ≡ codes "LL") → next_is is_digit suffix ≡ false
suffix_no_digit suffix after (inl p) = rw p.0 refl
suffix_no_digit suffix after (inr p) = rw p refl

number_on : (spelling after : List ℕ) → IsToken Number spelling after →
    number_value spelling < 2 ^ 63
number_on spelling after (number {digits} {suffix} is small l f) =
    rw (
      run_is is_digit digits suffix is.all (suffix_no_digit suffix after is.ends),
      take_at digits suffix (length digits) refl,
    ) small

-- a number's value is below 2 ^ 63
pub number_small : (spelling : List ℕ) → Spells Number spelling → number_value spelling < 2 ^ 63
number_small spelling is = number_on spelling is.0 is.1

quoted_on : (spelling after : List ℕ) → IsToken Quoted spelling after → 2 ≤ length spelling
quoted_on spelling after (quoted {bytes} is) = omega (arith, length-append bytes (34 ∷ []))

-- a string has two quotes
pub quoted_long : (spelling : List ℕ) → Spells Quoted spelling → 2 ≤ length spelling
quoted_long spelling is = quoted_on spelling is.0 is.1

-- the digits at the front are digits
pub front_digits : (spelling : List ℕ) →
    AllPass is_digit (take (prefix_len is_digit spelling) spelling)
front_digits spelling = AllPass-from_list_all is_digit _ (run_all is_digit spelling)

-- the bytes of a token whose kind is known spell that kind
pub spells_at : (text bytes : List ℕ) (ts us : List Token) (i : ℕ) (d : Token) (kind : TokenKind) →
    ts ≡ us → All (λ t. Spells t.kind (spelling text t)) us → i < length ts →
    bytes ≡ spelling text (slice_index_or ts i d) → (slice_index_or ts i d).kind ≡ kind →
    Spells kind bytes
spells_at text bytes ts us i d kind same all lt spelt is =
    let here : All (λ t. Spells t.kind (spelling text t)) ts = rw same all in
    rw (spelt, ← is) (here i d lt)
