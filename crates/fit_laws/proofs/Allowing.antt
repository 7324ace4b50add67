-- What makes an access allowed at a mark: a fact that the region lies within a parameter's, for which
-- the task declares the access; or that the task made the region.
use Rattle.std.proofs.Common.{◌≡◌, ℕ, ◌<◌, List, true, Option, Some, None, sym, ap, ◌∙◌, subst}
use Rattle.std.specs.Prelude.{slice_get}
use Rattle.lane_kernels.specs.declared.numbers.Mode.{Mode}
use Rattle.lane_kernels.specs.declared.numbers.Mode.TheVariants as mode
use Rattle.lane_kernels.specs.declared.numbers.Op.{Op}
use Rattle.plain_values.specs.Points.{has}
use Rattle.task_code.specs.declared.code.NeedCode.{NeedCode}
use Rattle.task_code.specs.declared.code.TaskCode.{TaskCode}
use Rattle.machine_terms.specs.declared.value.RegionValue.{RegionValue}
use Rattle.machine_terms.specs.declared.value.Value.{Value}
use Rattle.machine_terms.specs.Pointers.{region_in}
use Rattle.fit_rules.specs.Shapes.{Among, region, World, IsRegion, Is, is_number, is_region, Origin}
use Rattle.fit_rules.specs.Marks.{lies, in_slot, Holds, Mark, Suits}
use Rattle.fit_rules.specs.Fits.{Program, count_at, Declares, made_it, declares_it, reads_and_writes}
use Rattle.fit_rules.specs.Sound.{Allowed}
use Rattle.fit_laws.proofs.Lookup.{each_among, value_at, IsOwn, whole_of}

-- the slot's region is known to lie within a parameter's, for which there is a need
pub record Under (t : TaskCode) (m : Mark) (s f : ℕ) (a : Mode) : Type 0 where
  pub need : NeedCode
  pub among : Among t.needs need
  pub its_field : need.field ≡ f
  pub its_mode : need.mode ≡ a
  pub param : need.param < t.params
  pub fact : Among m.facts (lies (in_slot s) (in_slot need.param))

module _ (g : Program) (t : TaskCode) (m : Mark) where
  declared_under : (s f : ℕ) (a : Mode) (u : Under t m s f a) (x : World) (vs st : List Value) → Suits x t.params m vs st →
      (r : RegionValue) → region_in (slice_get vs s) ≡ Some r → (p : ℕ) → has r.points p ≡ true →
      Declares x t r.root.0 f p a
  declared_under s f a u x vs st h r er p ep =
      let w = each_among (λ y. Holds y vs) m.facts (lies (in_slot s) (in_slot u.need.param)) u.fact h.facts r er in
      record {
        need = u.need;
        is_there = u.among;
        its_field = u.its_field;
        its_mode = u.its_mode;
        region = w.other;
        argument = sym (h.args u.need.param u.param) ∙ w.at;
        its_root = sym w.inside.0;
        its_point = w.inside.1 p ep;
      }

  pub allowed_under : (sp f s : ℕ) (a : Mode) (w : Origin) →
      slice_get m.slots s ≡ Some (region (Some sp) w) → Under t m s f a → Allowed g t m sp f a s
  allowed_under sp f s a w e u = record {
    origin = w;
    shape = e;
    covers = λ x vs st h r er p ep. declares_it a (declared_under s f a u x vs st h r er p ep);
  }

  -- a reduction is allowed also where reading and writing both are
  pub allowed_both : (sp f s : ℕ) (o : Op) (w : Origin) →
      slice_get m.slots s ≡ Some (region (Some sp) w) → Under t m s f mode.Read → Under t m s f mode.Write →
      Allowed g t m sp f (mode.Reduce o) s
  allowed_both sp f s o w e u v = record {
    origin = w;
    shape = e;
    covers = λ x vs st h r er p ep. reads_and_writes o (declared_under s f mode.Read u x vs st h r er p ep)
        (declared_under s f mode.Write v x vs st h r er p ep);
  }

  region_there : (x : World) (sp : Option ℕ) (w : Origin) (v : Value) (r : RegionValue) → Is x (region sp w) v →
      region_in (Some v) ≡ Some r → IsRegion x sp w r
  region_there x sp w _ r (is_region _ _ q i) e = subst (IsRegion x sp w) (ap (λ o. elim o [ None ↦ q | Some y ↦ y ]) e) i
  region_there x sp w _ r (is_number _ z h) e = absurd h

  -- any access is allowed to what the task made
  pub allowed_made : (sp f s : ℕ) (a : Mode) (o : Origin) → IsOwn o → slice_get m.slots s ≡ Some (region (Some sp) o) → f < count_at g sp →
      Allowed g t m sp f a s
  allowed_made sp f s a o own e l = record {
    origin = o;
    shape = e;
    covers = λ x vs st h r er p ep.
        let v = value_at x m.slots vs s (region (Some sp) o) h.slots e in
        let i = region_there x (Some sp) o v.value r v.of (ap region_in (sym v.at) ∙ er) in
        let w = whole_of x o r own i.origin in
        made_it a w.0 (subst (λ xs. has xs p ≡ true) w.1 ep) (subst (λ n. f < count_at g n) (sym i.space) l);
  }
