-- What the graph waits for tells what interferes.
use Rattle.std.proofs.Common.{◌≡◌, ◌<◌, ◌∷◌, ◌∙◌, ◌&&◌, ◌||◌, ⊎_elim, Bool, List, None, Option, Some, [], ap, cond, false, inl, inr, length, not, refl, sym, true, ℕ}
use Rattle.std.specs.Prelude.{All}
use Rattle.std.specs.List.{list_any}
use Rattle.std.proofs.lemmas.Bool.{and_from, and_parts, false≢true, lt-ltb, or_cases, or_left, or_right}
use Rattle.std.proofs.lemmas.List.Elements.{All-head, All-tail}
use Rattle.region_tree.specs.Requirements.{Requirement, interfere}
use Rattle.dependence_graph.specs.Entries.{Knot}
use Rattle.dependence_graph.specs.Knots.{all_done, has_failed, is_done, knot_at, some_failed, stage_at}
use Rattle.dependence_graph.specs.declared.stage.Stage.{Stage}
use Rattle.dependence_graph.specs.declared.stage.Stage.TheVariants.{Waiting, Begun, Parked, Stopped, Done, Failed, Dropped}
use Rattle.board_trees.specs.Told.{IsBehind, WaitsAreTold, some_bad}
use Rattle.board_trees.specs.Waits.{Sibling, all_clear, has_ended, is_spared}

pub stage_there : (ks : List Knot) (k : ℕ) → k < length ks → stage_at ks k ≡ Some (knot_at ks k).stage
stage_there ks k l = ap (λ b. cond b (Some (knot_at ks k).stage) None) (lt-ltb k (length ks) l)

pub done_unfailed : (o : Option Stage) → is_done o ≡ true → has_failed o ≡ false
done_unfailed None e = refl
done_unfailed (Some Waiting) e = refl
done_unfailed (Some Begun) e = refl
done_unfailed (Some Parked) e = refl
done_unfailed (Some Stopped) e = refl
done_unfailed (Some Done) e = refl
done_unfailed (Some Failed) e = absurd cc
done_unfailed (Some Dropped) e = absurd cc

pub or_off : (a : Bool) → (a || false) ≡ a
or_off true = refl
or_off false = refl

pub and_off : (a : Bool) → (a && false) ≡ false
and_off true = refl
and_off false = refl

pub and_on : (a : Bool) → (a && true) ≡ a
and_on true = refl
and_on false = refl

-- one that interferes has ended, if whatever interferes has
pub clear_ended : (e m : Bool) → (e || not m) ≡ true → m ≡ true → e ≡ true
clear_ended true m h t = refl
clear_ended false true h t = h
clear_ended false false h t = t

both_or : (a b : Bool) → (a ≡ true → b ≡ true) → b ≡ (a || b)
both_or true b h = h refl
both_or false b h = refl

both_and : (a b : Bool) → (b ≡ true → a ≡ true) → b ≡ (a && b)
both_and true b h = refl
both_and false true h = sym (h refl)
both_and false false h = refl

-- ---- one that a later one waits for

module _ (knots : List Knot) (Q : List Requirement) (x : Sibling) where
  abbrev waits_for_it : Sibling → Bool
  waits_for_it y = interfere y.needs Q && interfere x.needs y.needs

  passed_ended : (xs : List Sibling) → All (IsBehind knots x) xs → list_any waits_for_it xs ≡ true → all_clear knots Q xs ≡ true → has_ended knots x.op ≡ true
  passed_ended [] b h c = absurd (false≢true h)
  passed_ended (y ∷ ys) b h c =
      let clear = and_parts (has_ended knots y.op || not (interfere y.needs Q)) (all_clear knots Q ys) c in
      ⊎_elim
      (λ t. let both = and_parts (interfere y.needs Q) (interfere x.needs y.needs) t in
      (All-head (IsBehind knots x) y ys b both.1).0 (clear_ended (has_ended knots y.op) (interfere y.needs Q) clear.0 both.0))
      (λ t. passed_ended ys (All-tail (IsBehind knots x) y ys b) t clear.1)
      (or_cases (waits_for_it y) (list_any waits_for_it ys) h)

  passed_bad : (xs : List Sibling) → All (IsBehind knots x) xs → list_any waits_for_it xs ≡ true → has_failed (stage_at knots x.op) ≡ true → some_bad knots Q xs ≡ true
  passed_bad [] b h f = h
  passed_bad (y ∷ ys) b h f = ⊎_elim
      (λ t. let both = and_parts (interfere y.needs Q) (interfere x.needs y.needs) t in
      or_left (has_failed (stage_at knots y.op) && interfere y.needs Q) (some_bad knots Q ys)
      (and_from (has_failed (stage_at knots y.op)) (interfere y.needs Q) ((All-head (IsBehind knots x) y ys b both.1).1 f) both.0))
      (λ t. or_right (has_failed (stage_at knots y.op) && interfere y.needs Q) (some_bad knots Q ys) (passed_bad ys (All-tail (IsBehind knots x) y ys b) t f))
      (or_cases (waits_for_it y) (list_any waits_for_it ys) h)

  module _ (xs : List Sibling) (b : All (IsBehind knots x) xs) (h : (has_ended knots x.op || is_spared Q x xs) ≡ true) where
    spared_ended : all_clear knots Q xs ≡ true → (has_ended knots x.op || not (interfere x.needs Q)) ≡ true
    spared_ended c = ⊎_elim
        (λ t. or_left (has_ended knots x.op) (not (interfere x.needs Q)) t)
        (λ t. ⊎_elim
        (λ n. or_right (has_ended knots x.op) (not (interfere x.needs Q)) n)
        (λ p. or_left (has_ended knots x.op) (not (interfere x.needs Q)) (passed_ended xs b p c))
        (or_cases (not (interfere x.needs Q)) (list_any waits_for_it xs) t))
        (or_cases (has_ended knots x.op) (is_spared Q x xs) h)

    spared_bad : (has_failed (stage_at knots x.op) && interfere x.needs Q) ≡ true → some_bad knots Q xs ≡ true
    spared_bad f =
        let both = and_parts (has_failed (stage_at knots x.op)) (interfere x.needs Q) f in
        ⊎_elim
        (λ t. absurd (false≢true (sym (done_unfailed (stage_at knots x.op) t) ∙ both.0)))
        (λ t. ⊎_elim
        (λ n. absurd (false≢true (ap not (sym both.1) ∙ n)))
        (λ p. passed_bad xs b p both.0)
        (or_cases (not (interfere x.needs Q)) (list_any waits_for_it xs) t))
        (or_cases (has_ended knots x.op) (is_spared Q x xs) h)

-- ---- what is waited for

pub waits_are_told : WaitsAreTold
waits_are_told knots Q [] on o h = record { ready = ap (all_done knots) h; failed = ap (some_failed knots) h }
waits_are_told knots Q (x ∷ xs) on o (inl h) =
    let r = waits_are_told knots Q xs on o.1 h.1 in
    record {
      ready = r.ready ∙ both_and (has_ended knots x.op || not (interfere x.needs Q)) (all_clear knots Q xs) (spared_ended knots Q x xs o.0 h.0);
      failed = r.failed ∙ both_or (has_failed (stage_at knots x.op) && interfere x.needs Q) (some_bad knots Q xs) (spared_bad knots Q x xs o.0 h.0);
    }
waits_are_told knots Q (x ∷ xs) on o (inr h) =
    let r = waits_are_told knots Q xs h.0 o.1 h.3 in
    record {
      ready = ap (all_done knots) h.1
          ∙ (λ i. sym (or_off (is_done (stage_at knots x.op))) i && r.ready i)
          ∙ ap (λ b. (is_done (stage_at knots x.op) || not b) && all_clear knots Q xs) (sym h.2);
      failed = ap (some_failed knots) h.1
          ∙ (λ i. sym (and_on (has_failed (stage_at knots x.op))) i || r.failed i)
          ∙ ap (λ b. has_failed (stage_at knots x.op) && b || some_bad knots Q xs) (sym h.2);
    }
