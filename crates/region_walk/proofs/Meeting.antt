-- A user that is near a need is tested.
use Rattle.std.specs.Prelude.{filter}
use Rattle.std.proofs.Common.{◌≡◌, ◌<◌, ◌==◌, ◌+◌, ◌&&◌, ◌∷◌, ◌∙◌, ℕ, suc, Bool, true, false, cond, List, ap, sym, refl, drop, get_or, length}
use Rattle.std.proofs.lemmas.Bool.{false≢true}
use Rattle.region_tree.specs.Needs.{requirement_of}
use Rattle.region_tree.specs.Requirements.{conflict}
use Rattle.region_tree.specs.Trees.{RegionTree}
use Rattle.region_tree.specs.declared.needs.Need.{Need}
use Rattle.region_tree.specs.declared.tree.OpNumber.{OpNumber}
use Rattle.region_walk.specs.Found.{put_all, put_where}
use Rattle.region_walk.specs.Near.{are_near, is_met, is_near}
use Rattle.region_walk.specs.Users.{ListedNeed}
use Rattle.region_walk.proofs.Passing.{pass_live}

first_true : (a b c : Bool) → (a && b) ≡ true → (a && c) ≡ c
first_true true b c h = refl
first_true false b c h = absurd (false≢true h)

met_is : (t : RegionTree) (c : ℕ) (n : Need) (u : ListedNeed) → is_near t c n u ≡ true →
    is_met t c n u ≡ conflict (requirement_of t n) (requirement_of t u.placed.need)
met_is t c n u h = first_true (u.context.0 == c) (are_near t n u.placed.need) _ h

put_cond : (b : Bool) (u : ListedNeed) (us : List ListedNeed) (found : List OpNumber) →
    put_all us (put_where b u.op found) ≡ put_all (cond b (u ∷ us) us) found
put_cond true u us found = refl
put_cond false u us found = refl

pub meet_step : (t : RegionTree) (c : ℕ) (n : Need) (p : ListedNeed → Bool) (place : ℕ) (us : List ListedNeed) (d : ListedNeed) (found more : List OpNumber) →
    place < length us → p (get_or us place d) ≡ true → is_near t c n (get_or us place d) ≡ true →
    more ≡ put_where (conflict (requirement_of t n) (requirement_of t (get_or us place d).placed.need)) (get_or us place d).op found →
    put_all (filter (is_met t c n) (filter p (drop (place + 1) us))) more ≡ put_all (filter (is_met t c n) (filter p (drop place us))) found
meet_step t c n p place us d found more l live h e =
    let u = get_or us place d in
    let rest = filter (is_met t c n) (filter p (drop (place + 1) us)) in
    ap (put_all rest) (e ∙ ap (λ (b : Bool). put_where b u.op found) (sym (met_is t c n u h)))
    ∙ put_cond (is_met t c n u) u rest found
    ∙ sym (ap (λ (vs : List ListedNeed). put_all (filter (is_met t c n) vs) found) (pass_live p place us d l live))

pub near_step : (t : RegionTree) (c : ℕ) (n : Need) (p : ListedNeed → Bool) (place : ℕ) (us : List ListedNeed) (d : ListedNeed) →
    place < length us → p (get_or us place d) ≡ true → is_near t c n (get_or us place d) ≡ true →
    length (filter (is_near t c n) (filter p (drop place us))) ≡ suc (length (filter (is_near t c n) (filter p (drop (place + 1) us))))
near_step t c n p place us d l live h =
    let rest = filter (is_near t c n) (filter p (drop (place + 1) us)) in
    ap (λ (vs : List ListedNeed). length (filter (is_near t c n) vs)) (pass_live p place us d l live)
    ∙ ap (λ (b : Bool). length (cond b (get_or us place d ∷ rest) rest)) h
