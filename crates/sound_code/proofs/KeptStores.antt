-- What a launch hands over at each colour goes into a slot of its own: of a region is known there that it is the one of its name, of a
-- partition of which region it is.
use Rattle.std.proofs.Common.{◌≡◌, ℕ, ◌<◌, ◌≤◌, List, [], ◌∷◌, ◌++◌, Bool, None, Some, refl, sym, ap, ◌∙◌, subst, arith}
use Rattle.std.specs.Prelude.{length, slice_get, slice_set, take}
use Rattle.std.proofs.lemmas.List.{length-set}
use Rattle.std.proofs.lemmas.Option.{same_Some}
use Rattle.task_code.specs.declared.code.TaskCode.{TaskCode}
use Rattle.task_code.specs.declared.instr.Instr.TheVariants as instr
use Rattle.machine_terms.specs.declared.value.RegionValue.{RegionValue}
use Rattle.machine_terms.specs.declared.value.Value.{Value}
use Rattle.machine_terms.specs.declared.value.Value.TheVariants as value
use Rattle.machine_terms.specs.Pointers.{region_in}
use Rattle.machine_terms.specs.Regions.{partition_in}
use Rattle.code_rules.specs.Pieces.{op}
use Rattle.fit_rules.specs.Shapes.{cut_from, held_at, Is, is_cut, is_number, is_partition, is_region, IsPlainOrigin, Each, IsPlain, Origin, partition, region, Shape, World}
use Rattle.fit_rules.specs.Marks.{around, Fact, Holds, in_slot, IsParted, lies, LiesIn, Mark, parted, stacked, Stores}
use Rattle.fit_rules.specs.Fits.{Program}
use Rattle.fit_laws.proofs.Held.{none_held, plain_held}
use Rattle.fit_laws.proofs.Keeping.{are_first, are_others, get_other, get_set}
use Rattle.fit_laws.proofs.Lookup.{as_long, set_at}
use Rattle.marked_code.specs.Marked.{leads_storing, typed_op}
use Rattle.sound_code.proofs.Colours.{stays_at}
use Rattle.sound_code.proofs.Combining.{Keeps, Marked}
use Rattle.sound_code.proofs.Cutting.{each_onto}
use Rattle.sound_code.proofs.Handed.{unheld}

-- a mark with another shape in a slot, and more that is known
abbrev pub put : Mark → ℕ → Shape → List Fact → Mark
put o s a fs = record { slots = slice_set o.slots s a; facts = fs ++ o.facts; stack = []; top = []; fixed = o.fixed }

-- two slots with one region
pub lie_in : (vs : List Value) (a b : ℕ) (r : RegionValue) → region_in (slice_get vs a) ≡ Some r → region_in (slice_get vs b) ≡ Some r →
    Holds (lies (in_slot a) (in_slot b)) vs
lie_in vs a b r ea eb d ed = record { other = r; at = eb; inside = subst (λ q. LiesIn q r) (same_Some r d (sym ea ∙ ed)) (refl, λ p h. h) }

-- what is put into a slot is the region in another one, or a partition of that
module _ (g : Program) (t : TaskCode) (k line : ℕ) (o : Mark) (s q : ℕ) (c : Origin) (kept : Keeps o s) (lo : t.params ≤ s) (behind : o.fixed ≤ s)
    (low : q < o.fixed) (hi : s < length o.slots) (plain : IsPlainOrigin c) where
  abbrev known_region : List Fact
  known_region = lies (in_slot s) (in_slot q) ∷ lies (in_slot q) (in_slot s) ∷ []

  abbrev known_cut : List Fact
  known_cut = parted s q ∷ []

  -- that one stays
  stays : (vs : List Value) (v : Value) (r : RegionValue) → region_in (slice_get (take o.fixed vs) q) ≡ Some r → region_in (slice_get (slice_set vs s v) q) ≡ Some r
  stays vs v r e = ap region_in (get_other vs s q v (λ e. omega (arith, e, low, behind)) ∙ sym (stays_at o.fixed vs q low)) ∙ e

  -- what is known of the slot, by the value that goes there
  abbrev TellsOf : Shape → List Fact → Type 0
  TellsOf a fs = (x : World) (vs : List Value) (v : Value) → Is (around x o vs) a v → slice_get (slice_set vs s v) s ≡ Some v → Each (λ f. Holds f (slice_set vs s v)) fs

  puts : (a b : Shape) (fs : List Fact) → IsPlain b → ((x : World) (v : Value) → Is x a v → Is x b v) → TellsOf a fs →
      Marked g t k (stacked o (a ∷ [])) (op (instr.Store s) line) (put o s b fs)
  puts a b fs plain_shape less tells = record {
    marks = _;
    is = typed_op _ _ _ line (leads_storing (stacked o (a ∷ [])) (put o s b fs) s a [] refl hi stores (length-set o.slots s b));
  }
    where
      stores : Stores t.params (stacked o (a ∷ [])) s (put o s b fs)
      stores x vs st v w =
          let z = around x o vs in
          let first = are_first z a [] v st w.stack in
          record {
            slots = set_at x o.slots vs s b v w.slots (plain_held z x.held b v plain_shape (less z v first));
            stack = none_held _ _ st (are_others z a [] v st w.stack);
            facts = each_onto (λ f. Holds f (slice_set vs s v)) fs o.facts
                (tells x vs v first (get_set vs s v (omega (arith, hi, as_long x o.slots vs w.slots)))) (kept vs v w.facts);
            top = tt;
            args = λ i l. ap region_in (get_other vs s i v (λ e. omega (arith, e, l, lo))) ∙ w.args i l;
          }

  -- a region
  region_tells : (sp : ℕ) → TellsOf (region (Some sp) (held_at q c)) known_region
  region_tells sp x vs _ (is_number _ z h) at = absurd h
  region_tells sp x vs _ (is_region _ _ r i) at =
      let us = slice_set vs s (value.Region r) in
      let there = stays vs (value.Region r) r i.origin.1 in
      (lie_in us s q r (ap region_in at) there, (lie_in us q s r there (ap region_in at), tt))

  pub puts_region : (sp : ℕ) → Marked g t k (stacked o (region (Some sp) (held_at q c) ∷ [])) (op (instr.Store s) line) (put o s (region (Some sp) c) known_region)
  puts_region sp = puts (region (Some sp) (held_at q c)) (region (Some sp) c) known_region plain (λ x v i. unheld x q (region (Some sp) c) v i) (region_tells sp)

  -- a partition
  uncut : (d : Bool) (x : World) (v : Value) → Is x (cut_from None d (held_at q c)) v → Is x (partition None d) v
  uncut d x _ (is_number _ z h) = absurd h
  uncut d x _ (is_cut _ _ _ p i f) = is_partition None d p i

  cut_tells : (d : Bool) → TellsOf (cut_from None d (held_at q c)) known_cut
  cut_tells d x vs _ (is_number _ z h) at = absurd h
  cut_tells d x vs _ (is_cut _ _ _ p i f) at = (
    λ y e.
        subst (λ y. IsParted (slice_set vs s (value.Partition p)) y q) (same_Some p y (sym (ap partition_in at) ∙ e))
        (record { parent = f.parent; at = stays vs (value.Partition p) f.parent f.origin.1; root = f.root; inside = f.inside }),
    tt,
  )

  pub puts_cut : (d : Bool) → Marked g t k (stacked o (cut_from None d (held_at q c) ∷ [])) (op (instr.Store s) line) (put o s (partition None d) known_cut)
  puts_cut d = puts (cut_from None d (held_at q c)) (partition None d) known_cut tt (uncut d) (cut_tells d)
