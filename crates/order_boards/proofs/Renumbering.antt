-- What roots hold, where they have other numbers.
use Rattle.std.proofs.Common.{◌≡◌, ℕ, ℤ, pos, List, [], ◌∷◌, Bool, true, false, cond, refl, ap, ◌∙◌, map, get_or, ◌==◌}
use Rattle.lane_kernels.specs.declared.numbers.FieldKind.{FieldKind}
use Rattle.lane_kernels.specs.declared.numbers.Mode.{Mode}
use Rattle.lane_kernels.specs.declared.numbers.Mode.TheVariants as mode
use Rattle.lane_kernels.specs.Numbers.{applied, width_of}
use Rattle.region_tree.specs.declared.piece.Part.{Part}
use Rattle.region_tree.specs.Pieces.{Held}
use Rattle.regent_tree.specs.declared.outcome.RootImage.{RootImage}
use Rattle.machine_terms.specs.declared.order.Contents.{Contents}
use Rattle.machine_terms.specs.declared.order.Root.{Root}
use Rattle.machine_terms.specs.Contents.{image_in, image_of, keep, kept_at, kept_in, with_number}
use Rattle.machine_terms.specs.Copies.{give_back, give_parts, give_pieces, give_points}
use Rattle.segment_renaming.specs.Renaming.{IsOneToOne, Names, part_to}
use Rattle.segment_renaming.proofs.Alike.{same_root}

-- roots by other numbers, and nodes as in a run in order
abbrev pub names : (ℕ → ℕ) → Names
names s = record { root = s; node = λ k. 0 }

module _ (s : ℕ → ℕ) (one : IsOneToOne (names s)) where
  abbrev renumbered : Root → Root
  renumbered r = record { id = record { 0 = s r.id.0 }; image = r.image }

  abbrev pub contents_to : Contents → Contents
  contents_to c = record { made = c.made; roots = map renumbered c.roots }

  image_in_to : (rs : List Root) (r : ℕ) → image_in (map renumbered rs) (s r) ≡ image_in rs r
  image_in_to [] r = refl
  image_in_to (k ∷ rs) r = λ i. cond (same_root (names s) one k.id.0 r i) k.image (image_in_to rs r i)

  pub image_to : (c : Contents) (r : ℕ) → image_of (contents_to c) (s r) ≡ image_of c r
  image_to c r = image_in_to c.roots r

  pub kept_to : (c : Contents) (r f p : ℕ) → kept_at (contents_to c) (s r) f p ≡ kept_at c r f p
  kept_to c r f p = ap (λ (i : RootImage). get_or (get_or i.fields f []) p (pos 0)) (image_to c r)

  roots_kept : (rs : List Root) (root f p : ℕ) (z : ℤ) → map (kept_in (s root) f p z) (map renumbered rs) ≡ map renumbered (map (kept_in root f p z) rs)
  roots_kept [] root f p z = refl
  roots_kept (k ∷ rs) root f p z =
      λ i. (ap (λ b. cond b (record (renumbered k) { image = with_number k.image f p z }) (renumbered k)) (same_root (names s) one k.id.0 root)
      ∙ chosen (k.id.0 == root)) i ∷ roots_kept rs root f p z i
    where
      chosen : (b : Bool) → cond b (record (renumbered k) { image = with_number k.image f p z }) (renumbered k)
          ≡ renumbered (cond b (record k { image = with_number k.image f p z }) k)
      chosen true = refl
      chosen false = refl

  keep_to : (c : Contents) (root f p : ℕ) (z : ℤ) → keep (contents_to c) (s root) f p z ≡ contents_to (keep c root f p z)
  keep_to c root f p z = λ i. record { made = c.made; roots = roots_kept c.roots root f p z i }

  back_to : (kind : FieldKind) (m : Mode) (root f p : ℕ) (z : ℤ) (c : Contents) →
      give_back kind m (s root) f p z (contents_to c) ≡ contents_to (give_back kind m root f p z c)
  back_to kind mode.Read root f p z c = refl
  back_to kind mode.Write root f p z c = keep_to c root f p z
  back_to kind (mode.Reduce o) root f p z c =
      ap (λ y. keep (contents_to c) (s root) f p (applied o (width_of kind) y z)) (kept_to c root f p)
      ∙ keep_to c root f p (applied o (width_of kind) (kept_at c root f p) z)

  points_to : (kind : FieldKind) (m : Mode) (root f : ℕ) (xs : List ℕ) (zs : List ℤ) (c : Contents) →
      give_points kind m (s root) f xs zs (contents_to c) ≡ contents_to (give_points kind m root f xs zs c)
  points_to kind m root f [] zs c = refl
  points_to kind m root f (x ∷ xs) [] c = refl
  points_to kind m root f (x ∷ xs) (z ∷ zs) c =
      ap (give_points kind m (s root) f xs zs) (back_to kind m root f x z c) ∙ points_to kind m root f xs zs (give_back kind m root f x z c)

  pieces_to : (kind : FieldKind) (root f : ℕ) (hs : List Held) (c : Contents) →
      give_pieces kind (s root) f hs (contents_to c) ≡ contents_to (give_pieces kind root f hs c)
  pieces_to kind root f [] c = refl
  pieces_to kind root f (h ∷ hs) c = ap (give_pieces kind (s root) f hs) (points_to kind h.mode root f h.points h.values c)
      ∙ pieces_to kind root f hs (give_points kind h.mode root f h.points h.values c)

  pub parts_given_to : (qs : List Part) (c : Contents) → give_parts (map (part_to (names s)) qs) (contents_to c) ≡ contents_to (give_parts qs c)
  parts_given_to [] c = refl
  parts_given_to (q ∷ qs) c = ap (give_parts (map (part_to (names s)) qs)) (pieces_to q.kind q.root.0 q.field q.pieces c)
      ∙ parts_given_to qs (give_pieces q.kind q.root.0 q.field q.pieces c)
