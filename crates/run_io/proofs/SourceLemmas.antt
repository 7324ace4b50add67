-- What several reads in a row move, for a caller's loop.
use Rattle.std.proofs.Common.{◌≡◌, ◌++◌, ℕ, List, [], Option, Some, None, IfSome, option_map, ◌∙◌, ap, sym, subst, append_assoc, append-nil}
use Rattle.run_io.specs.Source.{Moves}

-- what was moved first, and what was moved then
pub moves_both : (before between now : Option (List ℕ)) (first second both : List ℕ) → Moves before first between → Moves between second now → both ≡ first ++ second → Moves before both now
moves_both before between None first second both one two same = one ∙ ap (option_map (λ left. first ++ left)) two
moves_both before between (Some left) first second both one two same =
    one
    ∙ ap (option_map (λ rest. first ++ rest)) two
    ∙ ap Some (sym (append_assoc first second left))
    ∙ ap (λ moved. Some (moved ++ left)) (sym same)

-- where nothing is left, all was moved
pub all_moved : (before now : Option (List ℕ)) (moved : List ℕ) → Moves before moved now → IfSome now (λ left. left ≡ []) → IfSome before (λ bytes. bytes ≡ moved)
all_moved before None moved one none_left =
    subst (λ (told : Option (List ℕ)). IfSome told (λ bytes. bytes ≡ moved)) (sym one) tt
all_moved before (Some left) moved one none_left =
    subst (λ (told : Option (List ℕ)). IfSome told (λ bytes. bytes ≡ moved)) (sym one)
    (ap (λ rest. moved ++ rest) none_left ∙ append-nil moved)
