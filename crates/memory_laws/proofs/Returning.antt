-- A call that came back: its caller has the store that the call leaves.
use Rattle.std.proofs.Common.{◌≡◌, ℕ, ◌<◌, List, [], ◌∷◌, Bool, true, false, refl, sym, ap, ◌∙◌, subst, arith}
use Rattle.std.specs.Prelude.{cond, drop, get_or, length, map, take, ◌==◌}
use Rattle.std.proofs.lemmas.List.{ext_get_or, length-map}
use Rattle.std.proofs.Math.ListN.{get_or-map}
use Rattle.region_tree.specs.declared.piece.Part.{Part}
use Rattle.regent_tree.specs.Laws.{shape_of, shapes}
use Rattle.regent_tree.specs.Store.{Store, no_root}
use Rattle.task_code.specs.declared.code.Code.{Code}
use Rattle.machine_terms.specs.declared.order.Contents.{Contents}
use Rattle.machine_terms.specs.declared.order.Root.{Root}
use Rattle.machine_terms.specs.Contents.{image_in, image_of, closed}
use Rattle.memory_laws.specs.Closing.{ReturnedHolds}
use Rattle.memory_laws.specs.Memory.{StandFor}
use Rattle.memory_laws.specs.Parts.{AreHeld}
use Rattle.memory_laws.specs.Places.{numbers}
use Rattle.memory_laws.proofs.Closed.{closed_stands}
use Rattle.memory_laws.proofs.Closing.{numbers_of}
use Rattle.memory_laws.proofs.Placing.{images, image_at}
use Rattle.memory_laws.proofs.Shapes.{length_of}

-- the shapes of what the roots hold are those of the store
shapes_alone : (code : Code) (c : Contents) (ps : List Part) (store : Store) → StandFor code c ps store →
    map shape_of (images c) ≡ shapes store
shapes_alone code c ps store s = ext_get_or (shape_of no_root) (map shape_of (images c)) (shapes store)
    (length-map (images c) shape_of ∙ length-map c.roots (λ (r : Root). r.image) ∙ s.count
    ∙ sym (length-map store shape_of))
    (λ r l. get_or-map shape_of (images c) r no_root ∙ ap shape_of (sym (image_at c r s.numbered))
    ∙ s.shape r ∙ sym (get_or-map shape_of store r no_root))

-- roots of the same numbers and shapes
same_shape : (rs ss : List Root) → numbers_of rs ≡ numbers_of ss →
    map shape_of (map (λ (r : Root). r.image) rs) ≡ map shape_of (map (λ (r : Root). r.image) ss) →
    (root : ℕ) → shape_of (image_in rs root) ≡ shape_of (image_in ss root)
same_shape [] [] n e root = refl
same_shape [] (s ∷ ss) n e root = absurd (omega (arith, ap length n))
same_shape (r ∷ rs) [] n e root = absurd (omega (arith, ap length n))
same_shape (r ∷ rs) (s ∷ ss) n e root =
    ap (λ k. shape_of (cond (k == root) r.image (image_in rs root))) (ap (λ ns. get_or ns 0 0) n)
    ∙ chosen (s.id.0 == root) (same_shape rs ss (ap (λ ns. drop 1 ns) n) (ap (λ ns. drop 1 ns) e) root)
  where
    chosen : (b : Bool) → shape_of (image_in rs root) ≡ shape_of (image_in ss root) →
        shape_of (cond b r.image (image_in rs root)) ≡ shape_of (cond b s.image (image_in ss root))
    chosen true more = ap (λ ns. get_or ns 0 (shape_of r.image)) e
    chosen false more = more

pub returned_holds : ReturnedHolds
returned_holds code store after i c own h none s is same =
    let n = length store in
    let count : length (numbers i.contents) ≡ n = length-map i.contents.roots (λ (r : Root). r.id.0) ∙ h.stands.count in
    let d = closed own c in
    let closing = closed_stands code after c (numbers i.contents) own s is in
    let stands : StandFor code d [] (take n after) = subst (λ k. StandFor code d [] (take k after)) count closing.0 in
    let shaped = same_shape i.contents.roots d.roots (sym closing.1)
    (shapes_alone code i.contents i.parts store h.stands ∙ sym same
    ∙ sym (shapes_alone code d [] (take n after) stands)) in
    record {
      stands = subst (λ ps. StandFor code d ps (take n after)) (sym none) stands;
      held = subst (AreHeld code d i.needs) (sym none) tt;
      needed = λ root f p m e. (
        subst (λ k. p < k) (length_of (image_of i.contents root) (image_of d root) f (shaped root)) (h.needed root f p m e).0,
        (h.needed root f p m e).1,
      );
    }
