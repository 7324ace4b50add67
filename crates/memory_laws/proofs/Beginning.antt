-- A child that begins within its caller's needs, and the first task.
use Rattle.std.proofs.Common.{◌≡◌, ⊎_elim, ℕ, List, [], ◌∷◌, Bool, true, false, Option, Some, None, refl, sym, ap, ◌∙◌, arith}
use Rattle.std.specs.Prelude.{cond, filter, length, map, nat_lt, slice_get, ◌==◌, ◌&&◌, ◌||◌}
use Rattle.std.specs.List.{list_any}
use Rattle.std.proofs.lemmas.Bool.{cases_Bool, true≢false}
use Rattle.std.proofs.lemmas.Option.{none-some, same_Some}
use Rattle.plain_values.specs.Points.{has}
use Rattle.lane_kernels.specs.declared.numbers.Mode.{Mode}
use Rattle.lane_kernels.specs.declared.numbers.Mode.TheVariants.{Write}
use Rattle.region_tree.specs.declared.needs.Need.{Need}
use Rattle.region_tree.specs.Requirements.{Requirement, is_at, is_of, join_from, mode_at}
use Rattle.region_tree.proofs.Covering.{within_at}
use Rattle.task_code.specs.declared.code.Code.{Code}
use Rattle.task_code.specs.declared.code.NeedCode.{NeedCode}
use Rattle.machine_terms.specs.declared.order.Contents.{Contents}
use Rattle.machine_terms.specs.declared.value.RegionValue.{RegionValue}
use Rattle.machine_terms.specs.declared.value.Value.{Value}
use Rattle.machine_terms.specs.Contents.{image_of, kinds_of}
use Rattle.machine_terms.specs.Opening.{need_on, needs_on, required_before, required_on, requirements_on, with_points}
use Rattle.machine_terms.specs.Orders.{give_all}
use Rattle.machine_terms.specs.Parts.{is_needed}
use Rattle.machine_terms.specs.Pointers.{region_in}
use Rattle.memory_laws.specs.Beginning.{BegunHolds, FirstHolds}
use Rattle.memory_laws.proofs.Closed.{no_root_fits}
use Rattle.memory_laws.proofs.Given.{given_holds}

-- ---- the needs of a frame are those with the points

abbrev of : ℕ → ℕ → List Requirement → Bool
of root f rs = list_any (is_of root f) rs

one_more : (code : Code) (c : Contents) (n : NeedCode) (o : Option RegionValue) (more : Option (List Requirement))
    (items : List Need) (rs : List Requirement) (root f : ℕ) →
    required_before (required_on code c n o) more ≡ Some rs →
    ((ss : List Requirement) → more ≡ Some ss → is_needed items root f ≡ of root f ss) →
    is_needed (need_on n o items) root f ≡ of root f rs
one_more code c n None more items rs root f e later = absurd (none-some rs e)
one_more code c n (Some r) more items rs root f e later =
    there (nat_lt n.field (length (kinds_of code (image_of c r.root.0).space))) more e later
  where
    pointed : (xs : List ℕ) (ss : List Requirement) → is_needed items root f ≡ of root f ss →
        is_needed (with_points xs (record { root = r.root; node = r.node; field = n.field; mode = n.mode }) items) root f
        ≡ of root f (with_points xs (record { root = r.root.0; points = r.points; field = n.field; mode = n.mode }) ss)
    pointed [] ss h = h
    pointed (x ∷ xs) ss h = ap (λ b. ((r.root.0 == root) && (n.field == f)) || b) h

    there : (b : Bool) (more : Option (List Requirement)) →
        required_before (cond b (Some (record { root = r.root.0; points = r.points; field = n.field; mode = n.mode })) None) more ≡ Some rs →
        ((ss : List Requirement) → more ≡ Some ss → is_needed items root f ≡ of root f ss) →
        is_needed (need_on n (Some r) items) root f ≡ of root f rs
    there true (Some ss) e later = pointed r.points ss (later ss refl) ∙ ap (of root f) (same_Some _ rs e)
    there true None e later = absurd (none-some rs e)
    there false more e later = absurd (none-some rs e)

needed_is : (code : Code) (c : Contents) (ns : List NeedCode) (vs : List Value) (rs : List Requirement) (root f : ℕ) →
    requirements_on code c ns vs ≡ Some rs → is_needed (needs_on ns vs) root f ≡ of root f rs
needed_is code c [] vs rs root f e = ap (of root f) (same_Some _ rs e)
needed_is code c (n ∷ ns) vs rs root f e =
    one_more code c n (region_in (slice_get vs n.param)) (requirements_on code c ns vs) (needs_on ns vs) rs root f e
    (λ ss q. needed_is code c ns vs ss root f q)

-- ---- where a mode is needed, so is the field

none_at : (rs : List Requirement) (root f p : ℕ) → of root f rs ≡ false → filter (is_at root f p) rs ≡ []
none_at [] root f p e = refl
none_at (r ∷ rs) root f p e = chosen (is_of root f r) refl e (none_at rs root f p)
  where
    chosen : (b : Bool) → is_of root f r ≡ b → (b || of root f rs) ≡ false →
        (of root f rs ≡ false → filter (is_at root f p) rs ≡ []) → filter (is_at root f p) (r ∷ rs) ≡ []
    chosen true q e more = absurd (true≢false e)
    chosen false q e more =
        ap (λ b. cond (b && has r.points p) (r ∷ filter (is_at root f p) rs) (filter (is_at root f p) rs)) q ∙ more e

some_of : (rs : List Requirement) (root f p : ℕ) (m : Mode) → mode_at rs root f p ≡ Some m → of root f rs ≡ true
some_of rs root f p m e = ⊎_elim (λ t. t)
    (λ t. absurd (none-some m (sym (ap (λ qs. join_from None (map (λ (r : Requirement). r.mode) qs)) (none_at rs root f p t)) ∙ e)))
    (cases_Bool (of root f rs))

pub begun_holds : BegunHolds
begun_holds code store i frame declared args needs h items required within =
    let g = given_holds code store i h in
    record {
      stands = g.stands;
      held = tt;
      needed = λ root f p m e. (
        ⊎_elim (λ none. absurd (none-some m (sym none ∙ e)))
            (λ some. ⊎_elim (λ same. (g.needed root f p m (sym same ∙ e)).0)
            (λ write. (g.needed root f p Write write).0) some)
            (within_at needs i.needs within root f p),
        ap (λ is. is_needed is root f) items ∙ needed_is code (give_all i).contents declared args needs root f required
            ∙ some_of needs root f p m e,
      );
    }

pub first_holds : FirstHolds
first_holds code frame = record {
  stands = record {
    count = refl;
    numbered = record { rising = λ k l. absurd (omega (arith, l)); below = λ k d l. absurd (omega (arith, l)) };
    shape = λ place. refl;
    same = λ place f p l. absurd (omega (arith, l));
    kept = λ place f p l. absurd (omega (arith, l));
    fits = λ root. no_root_fits code;
  };
  held = tt;
  needed = λ root f p m e. absurd (none-some m e);
}
