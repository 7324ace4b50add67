-- A call that may be made passes the tests of the run in order.
use Rattle.std.proofs.Common.{◌≡◌, List, [], ◌∷◌, Some, None, refl, sym, ap, ◌∙◌}
use Rattle.std.specs.Prelude.{cond, length, nat_lt, slice_get}
use Rattle.std.proofs.lemmas.Bool.{lt-ltb}
use Rattle.region_tree.proofs.Covering.{within_tells}
use Rattle.task_code.specs.declared.code.NeedCode.{NeedCode}
use Rattle.task_code.specs.declared.code.TaskCode.{TaskCode}
use Rattle.machine_terms.specs.declared.order.Contents.{Contents}
use Rattle.machine_terms.specs.declared.outcome.CallOut.{CallOut}
use Rattle.machine_terms.specs.declared.value.Value.{Value}
use Rattle.machine_terms.specs.Contents.{kinds_of}
use Rattle.machine_terms.specs.Opening.{required_before, required_on, requirements_on}
use Rattle.machine_terms.specs.Pointers.{region_in}
use Rattle.fit_rules.specs.Shapes.{Each, World}
use Rattle.fit_rules.specs.Fits.{Program, requires, claim_on, claims, declared_claims}
use Rattle.fit_rules.specs.Ends.{IsNeeded, CallsWell}
use Rattle.fit_laws.specs.Segments.{AgreesWith, PassesTest, ChildrenPass}
use Rattle.fit_laws.proofs.Segments.{children_are_within}

module _ (g : Program) (x : World) (contents : Contents) (agrees : AgreesWith x contents) where
  told : (n : NeedCode) (args : List Value) (h : IsNeeded g x args n) →
      required_on g.code contents n (region_in (slice_get args n.param))
      ≡ Some (requires h.region.root.0 h.region.points n.mode n.field)
  told n args h = ap (required_on g.code contents n) h.argument
      ∙ ap (λ s. cond (nat_lt n.field (length (kinds_of g.code s)))
      (Some (requires h.region.root.0 h.region.points n.mode n.field)) None) (agrees h.region.root.0 h.there)
      ∙ ap (λ b. cond b (Some (requires h.region.root.0 h.region.points n.mode n.field)) None)
      (lt-ltb n.field (length (kinds_of g.code (x.spaces h.region.root.0))) h.field)

  all_told : (ns : List NeedCode) (args : List Value) → Each (IsNeeded g x args) ns →
      requirements_on g.code contents ns args ≡ Some (declared_claims ns args)
  all_told [] args h = refl
  all_told (n ∷ ns) args h =
      ap (λ o. required_before o (requirements_on g.code contents ns args)) (told n args h.0)
      ∙ ap (required_before (Some (requires h.0.region.root.0 h.0.region.points n.mode n.field))) (all_told ns args h.1)
      ∙ ap (λ o. Some (claim_on n o (declared_claims ns args))) (sym h.0.argument)

pub passes : (g : Program) (x : World) (t : TaskCode) (c : CallOut) → CallsWell g x t c → PassesTest g x t c
passes g x t c w = record {
  callee = w.callee;
  there = w.there;
  required = λ contents agrees. all_told g x contents agrees w.callee.needs c.args w.needed;
  within = (within_tells (declared_claims w.callee.needs c.args) (claims g x t)).1 w.within;
}

each_passes : (g : Program) (x : World) (t : TaskCode) (cs : List CallOut) → Each (CallsWell g x t) cs → Each (PassesTest g x t) cs
each_passes g x t [] h = tt
each_passes g x t (c ∷ cs) h = (passes g x t c h.0, each_passes g x t cs h.1)

pub children_pass : ChildrenPass
children_pass g x t k b sound fit cs e = each_passes g x t cs (children_are_within g x t k b sound fit cs e)
