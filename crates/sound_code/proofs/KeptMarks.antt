-- What the mark of a launch knows of the arguments that are the same at each colour, each in a slot of its own: of what shape it is; that
-- a region is the one of its name; and of which region a partition is.
use Rattle.std.proofs.Common.{◌≡◌, inl, inr, ℕ, suc, ◌<◌, ◌≤◌, List, [], ◌∷◌, ◌++◌, Bool, true, false, cond, None, Some, refl, sym, ◌∙◌, subst, arith}
use Rattle.std.specs.Prelude.{length, slice_get, slice_set}
use Rattle.std.proofs.lemmas.List.{length-set}
use Rattle.regent_tree.specs.Syntax.{access_expr, an_expr, Expression, Expressions, Name, no_expr, no_step}
use Rattle.regent_tree.specs.Typing.{is_disjoint, parent_of}
use Rattle.regent_tree.specs.declared.typing.StaticType.{StaticType}
use Rattle.regent_tree.specs.declared.typing.StaticType.TheVariants.{Partition as partition_type, Region as region_type}
use Rattle.code_rules.specs.Slots.{bound, slot_bound, slot_named, Where}
use Rattle.code_rules.specs.Launches.{is_fixed, kept}
use Rattle.code_laws.specs.Simple.{a_partition_type, AreRegions, IsPartition, simple_index, simple_integer, simple_space, simple_truth, two_regions}
use Rattle.fit_rules.specs.Shapes.{Among, partition, Shape}
use Rattle.fit_rules.specs.Marks.{Fact, in_slot, lies, Mark, parted}
use Rattle.fit_laws.proofs.Keeping.{get_other, get_set}
use Rattle.sound_code.specs.Ways.{shape_in, shape_of, Way}
use Rattle.sound_code.proofs.Wholes.{IsWorth, worth_pointer, worth_simple}

module _ (way : Way) (w : Where) where
  -- the shape of what is kept for a parameter of a type
  abbrev pub kept_shape : StaticType → Expression → Shape
  kept_shape (region_type k sp args r) (access_expr n no_step) = shape_in way w.params (bound w n).static_type
  kept_shape (partition_type d r p) (access_expr n no_step) = partition None (is_disjoint (bound w n).static_type)
  kept_shape p e = shape_of p

  -- what is known of it, in its slot
  abbrev pub kept_facts : ℕ → StaticType → Expression → List Fact
  kept_facts s (region_type k sp args r) (access_expr n no_step) =
      lies (in_slot s) (in_slot (slot_named w n)) ∷ lies (in_slot (slot_named w n)) (in_slot s) ∷ []
  kept_facts s (partition_type d r p) (access_expr n no_step) = parted s (slot_bound w (parent_of (bound w n).static_type)) ∷ []
  kept_facts s p e = []

  abbrev pub keeping : ℕ → StaticType → Expression → Mark → Mark
  keeping s p e o =
      record { slots = slice_set o.slots s (kept_shape p e); facts = kept_facts s p e ++ o.facts; stack = []; top = []; fixed = o.fixed }

  abbrev pub kept_one : Name → ℕ → StaticType → Expression → Mark → Mark
  kept_one i place p e o = cond (is_fixed i e) (keeping (kept w place) p e o) o

  abbrev pub all_kept : Name → ℕ → List StaticType → Expressions → Mark → Mark
  all_kept i place [] es o = o
  all_kept i place (p ∷ ps) no_expr o = o
  all_kept i place (p ∷ ps) (an_expr e es) o = all_kept i (suc place) ps es (kept_one i place p e o)

  -- ---- by the types of parameters

  pub worth_kept : (p : StaticType) (e : Expression) → IsWorth p → kept_shape p e ≡ shape_of p
  worth_kept _ e (worth_simple _ (simple_integer v)) = refl
  worth_kept _ e (worth_simple _ simple_truth) = refl
  worth_kept _ e (worth_simple _ (simple_index k)) = refl
  worth_kept _ e (worth_simple _ (simple_space k)) = refl
  worth_kept _ e (worth_pointer k sp args rs few) = refl

  pub worth_facts : (s : ℕ) (p : StaticType) (e : Expression) → IsWorth p → kept_facts s p e ≡ []
  worth_facts s _ e (worth_simple _ (simple_integer v)) = refl
  worth_facts s _ e (worth_simple _ simple_truth) = refl
  worth_facts s _ e (worth_simple _ (simple_index k)) = refl
  worth_facts s _ e (worth_simple _ (simple_space k)) = refl
  worth_facts s _ e (worth_pointer k sp args rs few) = refl

  pub region_kept : (n : Name) (u p : StaticType) → AreRegions u p → kept_shape p (access_expr n no_step) ≡ shape_in way w.params (bound w n).static_type
  region_kept n _ _ (two_regions c d sp args brgs r q) = refl

  pub region_facts : (s : ℕ) (n : Name) (u p : StaticType) → AreRegions u p →
      kept_facts s p (access_expr n no_step) ≡ lies (in_slot s) (in_slot (slot_named w n)) ∷ lies (in_slot (slot_named w n)) (in_slot s) ∷ []
  region_facts s n _ _ (two_regions c d sp args brgs r q) = refl

  pub cut_kept : (n : Name) (p : StaticType) → IsPartition p → kept_shape p (access_expr n no_step) ≡ partition None (is_disjoint (bound w n).static_type)
  cut_kept n _ (a_partition_type d r q) = refl

  pub cut_facts : (s : ℕ) (n : Name) (p : StaticType) → IsPartition p → kept_facts s p (access_expr n no_step) ≡ parted s (slot_bound w (parent_of (bound w n).static_type)) ∷ []
  cut_facts s n _ (a_partition_type d r q) = refl

  -- ---- what is kept is still known where more is

  pub among_more : (fs ks : List Fact) (f : Fact) → Among ks f → Among (fs ++ ks) f
  among_more [] ks f a = a
  among_more (x ∷ fs) ks f a = inr (among_more fs ks f a)

  pub among_these : (fs ks : List Fact) (f : Fact) → Among fs f → Among (fs ++ ks) f
  among_these [] ks f a = absurd a
  among_these (x ∷ fs) ks f (inl e) = inl e
  among_these (x ∷ fs) ks f (inr a) = inr (among_these fs ks f a)

  -- a mark that knows as much of the slots below one, and all facts
  pub record Knows (low : ℕ) (o n : Mark) : Type 0 where
    pub slots : (s : ℕ) → s < low → slice_get n.slots s ≡ slice_get o.slots s
    pub long : length n.slots ≡ length o.slots
    pub facts : (f : Fact) → Among o.facts f → Among n.facts f
    pub fixed : n.fixed ≡ o.fixed

  pub knows_itself : (low : ℕ) (o : Mark) → Knows low o o
  knows_itself low o = record { slots = λ s l. refl; long = refl; facts = λ f a. a; fixed = refl }

  pub knows_then : (low high : ℕ) (o n m : Mark) → low ≤ high → Knows low o n → Knows high n m → Knows low o m
  knows_then low high o n m l a b = record {
    slots = λ s h. b.slots s (omega (arith, h, l)) ∙ a.slots s h;
    long = b.long ∙ a.long;
    facts = λ f h. b.facts f (a.facts f h);
    fixed = b.fixed ∙ a.fixed;
  }

  module _ (i : Name) where
    pub one_knows : (place : ℕ) (p : StaticType) (e : Expression) (o : Mark) → Knows (kept w place) o (kept_one i place p e o)
    one_knows place p e o = of (is_fixed i e)
      where
        of : (b : Bool) → Knows (kept w place) o (cond b (keeping (kept w place) p e o) o)
        of true = record {
          slots = λ s l. get_other o.slots (kept w place) s (kept_shape p e) (λ e. omega (arith, e, l));
          long = length-set o.slots (kept w place) (kept_shape p e);
          facts = λ f a. among_more (kept_facts (kept w place) p e) o.facts f a;
          fixed = refl;
        }
        of false = knows_itself (kept w place) o

    pub all_knows : (place : ℕ) (ps : List StaticType) (es : Expressions) (o : Mark) → Knows (kept w place) o (all_kept i place ps es o)
    all_knows place [] es o = knows_itself (kept w place) o
    all_knows place (p ∷ ps) no_expr o = knows_itself (kept w place) o
    all_knows place (p ∷ ps) (an_expr e es) o =
        knows_then (kept w place) (kept w (suc place)) o (kept_one i place p e o) (all_kept i (suc place) ps es (kept_one i place p e o)) (omega arith)
        (one_knows place p e o) (all_knows (suc place) ps es (kept_one i place p e o))

    -- ---- each argument that is kept

    pub record IsKept (place : ℕ) (p : StaticType) (e : Expression) (o : Mark) : Type 0 where
      pub shape : slice_get o.slots (kept w place) ≡ Some (kept_shape p e)
      pub facts : (f : Fact) → Among (kept_facts (kept w place) p e) f → Among o.facts f

    abbrev pub AreKept : ℕ → List StaticType → Expressions → Mark → Type 0
    AreKept place [] es o = Unit {0}
    AreKept place (p ∷ ps) no_expr o = Unit {0}
    AreKept place (p ∷ ps) (an_expr e es) o = (is_fixed i e ≡ true → IsKept place p e o) × AreKept (suc place) ps es o

    one_kept : (place : ℕ) (p : StaticType) (e : Expression) (o : Mark) → kept w place < length o.slots → is_fixed i e ≡ true → IsKept place p e (kept_one i place p e o)
    one_kept place p e o l f = subst (λ b. IsKept place p e (cond b (keeping (kept w place) p e o) o)) (sym f) (record {
      shape = get_set o.slots (kept w place) (kept_shape p e) l;
      facts = λ q a. among_these (kept_facts (kept w place) p e) o.facts q a;
    })

    still_kept : (place : ℕ) (p : StaticType) (e : Expression) (o n : Mark) → Knows (kept w (suc place)) o n → IsKept place p e o → IsKept place p e n
    still_kept place p e o n k h = record { shape = k.slots (kept w place) (omega arith) ∙ h.shape; facts = λ f a. k.facts f (h.facts f a) }

    -- the slots that are used are there
    abbrev pub HaveRoom : ℕ → List StaticType → Expressions → ℕ → Type 0
    HaveRoom place [] es n = Unit {0}
    HaveRoom place (p ∷ ps) no_expr n = Unit {0}
    HaveRoom place (p ∷ ps) (an_expr e es) n = (is_fixed i e ≡ true → kept w place < n) × HaveRoom (suc place) ps es n

    pub are_kept : (place : ℕ) (ps : List StaticType) (es : Expressions) (o : Mark) → HaveRoom place ps es (length o.slots) → AreKept place ps es (all_kept i place ps es o)
    are_kept place [] es o room = tt
    are_kept place (p ∷ ps) no_expr o room = tt
    are_kept place (p ∷ ps) (an_expr e es) o room =
        let n = kept_one i place p e o in (
          λ f. still_kept place p e n (all_kept i (suc place) ps es n) (all_knows (suc place) ps es n) (one_kept place p e o (room.0 f) f),
          are_kept (suc place) ps es n (subst (HaveRoom (suc place) ps es) (sym (one_knows place p e o).long) room.1),
        )
