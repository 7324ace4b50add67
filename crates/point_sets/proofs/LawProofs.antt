-- The laws of sets of points.
use Rattle.std.proofs.Common.{not, sym, ◌∙◌, ⊎_elim, inl, inr}
use Rattle.std.proofs.lemmas.Bool.{and_parts, and_from, or_cases, or_left, or_right, not_from_false, not-true, both_ways, false_from_ne_true}
use Rattle.std.proofs.lemmas.Bool.Decides.{same_from_decides}
use Rattle.plain_values.specs.Points.{has, union_of, meet_of, minus_of}
use Rattle.point_sets.specs.Laws.{MembersDecide, HasTells, UnionIsEither, MeetIsBoth, MinusIsRest, MeetsIsShared, WithinIsEach}
use Rattle.point_sets.proofs.Rising.{has_decides, members_decide, Contains-from_has, has-from_Contains, has-union_of, rising-union_of, has-meet_of, has-minus_of, rising-filter, meets_at, meets_where, within_each, within_from_each}

pub decided : MembersDecide
decided xs ys up set =
    members_decide xs ys up set.0 (λ x. same_from_decides (has xs x) (has ys x) (has_decides xs x) (λ h. (set.1 x).0 (Contains-from_has ys x h), λ m. has-from_Contains ys x ((set.1 x).1 m)))

pub tells : HasTells
tells xs x = has_decides xs x

pub either : UnionIsEither
either xs ys up =
    (rising-union_of xs ys up, λ x. (λ m. ⊎_elim (λ h. inl (Contains-from_has xs x h)) (λ h. inr (Contains-from_has ys x h)) (or_cases (has xs x) (has ys x) (sym (has-union_of xs ys x) ∙ has-from_Contains (union_of xs ys) x m)), λ m. Contains-from_has (union_of xs ys) x (has-union_of xs ys x ∙ ⊎_elim (λ h. or_left (has xs x) (has ys x) (has-from_Contains xs x h)) (λ h. or_right (has xs x) (has ys x) (has-from_Contains ys x h)) m)))

pub both : MeetIsBoth
both xs ys up =
    (rising-filter (has ys) xs up, λ x. (λ m. let parts = and_parts (has xs x) (has ys x) (sym (has-meet_of xs ys x) ∙ has-from_Contains (meet_of xs ys) x m) in (Contains-from_has xs x parts.0, Contains-from_has ys x parts.1), λ m. Contains-from_has (meet_of xs ys) x (has-meet_of xs ys x ∙ and_from (has xs x) (has ys x) (has-from_Contains xs x m.0) (has-from_Contains ys x m.1))))

pub rest : MinusIsRest
rest xs ys up =
    (rising-filter (λ x. not (has ys x)) xs up, λ x. (λ m. let parts = and_parts (has xs x) (not (has ys x)) (sym (has-minus_of xs ys x) ∙ has-from_Contains (minus_of xs ys) x m) in (Contains-from_has xs x parts.0, λ h. both_ways (has ys x) (not-true (has ys x) parts.1) (has-from_Contains ys x h)), λ m. Contains-from_has (minus_of xs ys) x (has-minus_of xs ys x ∙ and_from (has xs x) (not (has ys x)) (has-from_Contains xs x m.0) (not_from_false (has ys x) (false_from_ne_true (has ys x) (λ h. m.1 (Contains-from_has ys x h)))))))

pub shared : MeetsIsShared
shared xs ys =
    (λ h. let z = meets_where xs ys h in let parts = and_parts (has xs z.0) (has ys z.0) z.1 in (z.0, Contains-from_has xs z.0 parts.0, Contains-from_has ys z.0 parts.1), λ z. meets_at xs ys z.0 (and_from (has xs z.0) (has ys z.0) (has-from_Contains xs z.0 z.1) (has-from_Contains ys z.0 z.2)))

pub each : WithinIsEach
each xs ys =
    (λ h x m. Contains-from_has ys x (within_each xs ys h x (has-from_Contains xs x m)), λ all. within_from_each xs ys (λ x m. has-from_Contains ys x (all x (Contains-from_has xs x m))))
