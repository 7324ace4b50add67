-- States that differ from the example in one thing don't fit.
use Rattle.std.proofs.Common.{◌≡◌, inl, inr, ℕ, ℤ, suc, ◌≤◌, List, [], ◌∷◌, Bool, Option, refl, sym, ap, ◌∙◌, arith, length}
use Rattle.std.proofs.lemmas.Bool.{false≢true}
use Rattle.std.proofs.lemmas.Int.{ints}
use Rattle.std.proofs.lemmas.Option.{same_Some}
use Rattle.lane_kernels.specs.Numbers.{FitsWidth}
use Rattle.lane_kernels.specs.declared.numbers.FieldKind.TheVariants.{Int32, Int64}
use Rattle.lane_kernels.specs.declared.numbers.Mode.TheVariants.{Read, Write}
use Rattle.lane_kernels.specs.declared.numbers.Width.TheVariants.{W32}
use Rattle.plain_values.specs.Points.{has}
use Rattle.region_tree.specs.declared.needs.Need.{Need}
use Rattle.region_tree.specs.Requirements.{Requirement}
use Rattle.machine_terms.specs.declared.value.PartitionValue.{PartitionValue}
use Rattle.machine_terms.specs.declared.value.RegionValue.{RegionValue}
use Rattle.machine_terms.specs.declared.value.Value.{Value}
use Rattle.machine_terms.specs.declared.value.Value.TheVariants as value
use Rattle.machine_terms.specs.Makes.{region_with}
use Rattle.fit_rules.specs.Shapes.{Shape, NumberIs, integer, pointer, region, partition, World, IsRegion, IsPartition, Is, is_number, is_region, is_partition, Are, are_none, are_more, Origin}
use Rattle.fit_rules.specs.Fits.{AreClaims, a_claim, no_claims}
use Rattle.fit_rules.specs.Example.{FailsEachPoint}

abbrev IsNumber : Value → Type 0
IsNumber (value.Number z) = FitsWidth W32 z
IsNumber _ = ⊥

top_number : (x : World) (ss : List Shape) (v : Value) (vs : List Value) → Are x (integer W32 ∷ ss) (v ∷ vs) → IsNumber v
top_number x ss _ vs (are_more _ _ _ _ (is_number _ z h) a) = h

region_is : (x : World) (sp : Option ℕ) (c : Origin) (r : RegionValue) → Is x (region sp c) (value.Region r) → IsRegion x sp c r
region_is x sp c _ (is_region _ _ r i) = i

partition_is : (x : World) (sp : Option ℕ) (d : Bool) (q : PartitionValue) → Is x (partition sp d) (value.Partition q) →
    IsPartition x sp d q
partition_is x sp d _ (is_partition _ _ q i) = i

second : (x : World) (a b : Shape) (ss : List Shape) (u v : Value) (vs : List Value) → Are x (a ∷ b ∷ ss) (u ∷ v ∷ vs) → Is x b v
second x a b ss u v vs (are_more _ _ _ _ h (are_more _ _ _ _ i more)) = i

third : (x : World) (a b c : Shape) (ss : List Shape) (u v w : Value) (vs : List Value) →
    Are x (a ∷ b ∷ c ∷ ss) (u ∷ v ∷ w ∷ vs) → Is x c w
third x a b c ss u v w vs (are_more _ _ _ _ h more) = second x b c ss v w vs more

fourth : (x : World) (a b c d : Shape) (ss : List Shape) (u v w y : Value) (vs : List Value) →
    Are x (a ∷ b ∷ c ∷ d ∷ ss) (u ∷ v ∷ w ∷ y ∷ vs) → Is x d y
fourth x a b c d ss u v w y vs (are_more _ _ _ _ h more) = third x b c d ss v w y vs more

second_claim : (a b : Need) (ns : List Need) (c d : Requirement) (rs : List Requirement) →
    AreClaims (a ∷ b ∷ ns) (c ∷ d ∷ rs) → b.field ≡ d.field
second_claim a b ns c d rs (a_claim _ _ _ _ e f g (a_claim _ _ _ _ h i j more)) = i

-- as many needs as claims
as_many : (ns : List Need) (rs : List Requirement) → AreClaims ns rs → length ns ≡ length rs
as_many _ _ no_claims = refl
as_many _ _ (a_claim n r ns rs e f g more) = ap suc (as_many ns rs more)

fifth : (x : World) (a b c d e : Shape) (ss : List Shape) (u v w y z : Value) (vs : List Value) →
    Are x (a ∷ b ∷ c ∷ d ∷ e ∷ ss) (u ∷ v ∷ w ∷ y ∷ z ∷ vs) → Is x e z
fifth x a b c d e ss u v w y z vs (are_more _ _ _ _ h more) = fourth x b c d e ss v w y z vs more

pointer_is : (x : World) (n : ℕ) (z : ℤ) → Is x (pointer n) (value.Number z) → NumberIs (pointer n) z
pointer_is x n z (is_number _ _ h) = h

no_more : (x : World) (s : Shape) (ss : List Shape) → Are x (s ∷ ss) [] → ⊥
no_more x s ss a = let e = lengths x (s ∷ ss) [] a in absurd (omega (arith, e))
  where
    lengths : (x : World) (ss : List Shape) (vs : List Value) → Are x ss vs → length ss ≡ length vs
    lengths x _ _ are_none = refl
    lengths x _ _ (are_more s v ss vs h more) = ap suc (lengths x ss vs more)

second_stack : (x : World) (a b : Shape) (u : Value) → Are x (a ∷ b ∷ []) (u ∷ []) → ⊥
second_stack x a b u (are_more _ _ _ _ h more) = no_more x b [] more

pub fails_each_point : FailsEachPoint
fails_each_point = record {
  place = λ f. absurd (omega (arith, f.inside));
  stack = λ f. top_number _ _ _ _ f.suits.stack;
  fewer = λ f. second_stack _ _ _ _ f.suits.stack;
  part_kind = λ f. let e : Int64 ≡ Int32 = (f.beside.parts 3 0 _ refl).kind in absurd cc;
  root = λ f. false≢true (region_is _ _ _ _ (second _ _ _ _ _ _ _ f.suits.slots)).there;
  space = λ f. let e : 1 ≡ 0 = (region_is _ _ _ _ (second _ _ _ _ _ _ _ f.suits.slots)).space in absurd (omega (arith, e));
  number = λ f. let h = top_number _ _ _ _ f.suits.stack in absurd (omega (arith, ints, h));
  part_number = λ f. let h = ((f.beside.parts 3 0 _ refl).cells 1).1 in absurd (omega (arith, ints, h));
  reduced = λ f. let h = ((f.beside.parts 3 1 _ refl).cells 1).1.0 in absurd (omega (arith, ints, h));
  position = λ f. let h : 2 ≤ 1 = (pointer_is _ _ _ (fifth _ _ _ _ _ _ _ _ _ _ _ _ _ f.suits.slots)).1 in absurd (omega (arith, h));
  flag = λ f. false≢true (sym ((partition_is _ _ _ _ (third _ _ _ _ _ _ _ _ _ f.suits.slots)).apart refl 0 1 (omega arith) (omega arith)));
  parent = λ f.
      let w = f.suits.facts.1.0 _ refl in
      let h = (w.inside (region_with 3 (2 ∷ [])) (inr (inl refl))).1 2 refl in
      false≢true (ap (λ (y : RegionValue). has y.points 2) (same_Some _ _ w.at) ∙ h);
  children_root = λ f.
      let e : 3 ≡ 5 = ((partition_is _ _ _ _ (third _ _ _ _ _ _ _ _ _ f.suits.slots)).regions (region_with 3 (0 ∷ [])) (inl refl)).0 in
      absurd (omega (arith, e));
  partition_root = λ f.
      let w = f.suits.facts.1.0 _ refl in
      let h : 5 ≡ 3 = w.root ∙ sym (ap (λ (y : RegionValue). y.root.0) (same_Some _ _ w.at)) in absurd (omega (arith, h));
  constraint = λ f.
      let w = f.suits.facts.0 (region_with 5 (1 ∷ [])) refl in
      let h : 5 ≡ 3 = w.inside.0 ∙ sym (ap (λ (y : RegionValue). y.root.0) (same_Some _ _ w.at)) in absurd (omega (arith, h));
  begun = λ f.
      let w = f.beside.begins.1.facts.0 (region_with 5 (1 ∷ [])) refl in
      let h : 5 ≡ 3 = w.inside.0 ∙ sym (ap (λ (y : RegionValue). y.root.0) (same_Some _ _ w.at)) in absurd (omega (arith, h));
  argument = λ f. false≢true (ap (λ (y : RegionValue). has y.points 1) (same_Some _ _ (f.suits.args 1 (omega arith))));
  own = λ f. let h = ap length ((region_is _ _ _ _ (fourth _ _ _ _ _ _ _ _ _ _ _ f.suits.slots)).origin.0).1 in absurd (omega (arith, h));
  declared_need = λ f. let h : 1 ≡ 0 = second_claim _ _ _ _ _ _ f.beside.needs in absurd (omega (arith, h));
  own_need = λ f. let h : 4 ≡ 5 = as_many _ _ f.beside.needs in absurd (omega (arith, h));
  mode = λ f. let h : Read ≡ Write = ((f.beside.parts 3 0 _ refl).cells 1).0 in absurd cc;
  turns = λ f. absurd (omega (arith, f.beside.calls));
}
