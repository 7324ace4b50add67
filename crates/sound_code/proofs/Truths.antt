-- What follows of two truths, from what follows of each.
use Rattle.std.proofs.Common.{◌≡◌, Bool, true, false, ◌&&◌, ◌||◌, refl, sym, ap, ◌∙◌}
use Rattle.std.proofs.lemmas.Bool.{and_parts}

pub both_true : (a b : Bool) → a ≡ true → b ≡ true → (a && b) ≡ true
both_true a b ea eb = ap (λ y. y && b) ea ∙ eb

pub and_map : (a b c d : Bool) → (a ≡ true → c ≡ true) → (b ≡ true → d ≡ true) → (a && b) ≡ true → (c && d) ≡ true
and_map a b c d f g h = let parts = and_parts a b h in both_true c d (f parts.0) (g parts.1)

pub or_map : (a b c : Bool) → (b ≡ true → c ≡ true) → (a || b) ≡ true → (a || c) ≡ true
or_map true b c f h = refl
or_map false b c f h = f h

pub or_maps : (a b c d : Bool) → (a ≡ true → b ≡ true) → (c ≡ true → d ≡ true) → (a || c) ≡ true → (b || d) ≡ true
or_maps true b c d f g h = ap (λ y. y || d) (f refl)
or_maps false true c d f g h = refl
or_maps false false c d f g h = g h

-- two tests that follow from each other
pub same_truths : (a b : Bool) → (a ≡ true → b ≡ true) → (b ≡ true → a ≡ true) → a ≡ b
same_truths true b f h = sym (f refl)
same_truths false true f h = h refl
same_truths false false f h = refl
