-- The state of a board at the start of a job.
use Rattle.std.specs.Prelude.{◌==◌, ◌&&◌, nat_le}
use Rattle.std.proofs.Common.{◌≡◌, ◌∙◌, ℕ, zero, suc, Bool, true, false, List, [], ◌∷◌, All, ap, arith, inl, inr, length, map, refl, subst, sym}
use Rattle.std.proofs.lemmas.Bool.{false≢true}
use Rattle.std.proofs.lemmas.Bool.Decides.{eqb_tells}
use Rattle.std.proofs.lemmas.List.Elements.{All-cons, All-nil}
use Rattle.region_finder.specs.Listings.{ArePlaced}
use Rattle.region_tree.specs.Needs.{AreNeeds, IsNeed}
use Rattle.region_tree.specs.Trees.{empty_tree}
use Rattle.dependence_graph.specs.Graphs.{Waits}
use Rattle.dependence_graph.specs.Knots.{knot_at}
use Rattle.dependence_graph.specs.declared.stage.Stage.TheVariants.{Begun}
use Rattle.board_terms.specs.declared.operation.Operation.{Operation}
use Rattle.board_terms.specs.States.{begun_with, operation_at}
use Rattle.machine_terms.specs.Jobs.{first_frame, may_start}
use Rattle.machine_terms.specs.Opening.{needs_on}
use Rattle.machine_terms.specs.declared.value.Value.TheVariants.{Number}
use Rattle.task_code.specs.declared.code.NeedCode.{NeedCode}
use Rattle.task_code.specs.declared.code.TaskCode.{TaskCode}
use Rattle.task_code.specs.declared.job.Job.{Job}
use Rattle.board_state.specs.Kept.{HasNeeds, IsKept, IsLent, is_claimed}
use Rattle.board_gives.specs.Gives.{IsIssuedBy}
use Rattle.board_gives.specs.Makes.{IsRootBelow}

-- one operation that needs nothing, has called nobody, and that no seat has
pub alone_kept : (main : Operation) (w : Waits) → main.frame.needs.items ≡ [] → main.children ≡ [] → is_claimed main.activity ≡ false → IsLent main →
    length w.knots ≡ 1 → w.listing ≡ [] → IsKept (begun_with main w)
alone_kept main w n c a lent l e = record {
  counted = sym l;
  listing = subst (All (ArePlaced empty_tree)) (sym e) (All-nil (ArePlaced empty_tree));
  needs = All-cons (HasNeeds empty_tree) main []
      (subst (AreNeeds empty_tree) (sym n) (All-nil (IsNeed empty_tree))) (All-nil (HasNeeds empty_tree));
  lent = All-cons IsLent main [] lent (All-nil IsLent);
  begun = none;
  own = own;
  live = All-nil (IsRootBelow 0);
}
  where
    none : (k : ℕ) → is_claimed (operation_at (begun_with main w) k).activity ≡ true → (knot_at w.knots k).stage ≡ Begun
    none zero h = absurd (false≢true (sym a ∙ h))
    none (suc k) h = absurd (false≢true h)

    own : (k : ℕ) → All (IsIssuedBy w.knots k) (operation_at (begun_with main w) k).children
    own zero = subst (All (IsIssuedBy w.knots 0)) (sym c) (All-nil (IsIssuedBy w.knots 0))
    own (suc k) = All-nil (IsIssuedBy w.knots (suc k))

none_by : (ns : List NeedCode) → length ns ≡ 0 → ns ≡ []
none_by [] e = refl
none_by (n ∷ ns) e = absurd (omega (arith, e))

zero_by : (m : ℕ) → (m == 0) ≡ true → m ≡ 0
zero_by m e = elim (eqb_tells m 0) [ inl h ↦ h.1 | inr h ↦ absurd (false≢true (sym h.0 ∙ e)) ]

and_first : (a b : Bool) → (a && b) ≡ true → a ≡ true
and_first true b e = refl
and_first false b e = e

-- the first task of a job needs nothing
pub needs_nothing : (job : Job) (t : TaskCode) → may_start job t ≡ true → (first_frame job t).needs.items ≡ []
needs_nothing job t m =
    let empty : t.needs ≡ [] = none_by t.needs (zero_by (length t.needs)
    (and_first (length t.needs == 0) (length job.inputs == t.params)
    (and_first ((length t.needs == 0) && (length job.inputs == t.params)) (nat_le t.params t.slots) m))) in
    ap (λ (ns : List NeedCode). needs_on ns (map Number job.inputs)) empty
