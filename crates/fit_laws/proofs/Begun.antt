-- A world with one root more: the others are as they were, and with what a frame may begin it may begin there too.
use Rattle.std.proofs.Common.{◌≡◌, ℕ, List, [], Bool, true, false, cond, ◌||◌, Option, refl, sym, ap, ◌∙◌, subst}
use Rattle.std.specs.Prelude.{◌==◌}
use Rattle.std.proofs.lemmas.Bool.{false≢true, ne_eqb}
use Rattle.plain_values.specs.Points.{has, points}
use Rattle.task_code.specs.declared.code.TaskCode.{TaskCode}
use Rattle.machine_terms.specs.declared.value.PartitionValue.{PartitionValue}
use Rattle.machine_terms.specs.declared.value.RegionValue.{RegionValue}
use Rattle.machine_terms.specs.declared.value.Value.{Value}
use Rattle.fit_rules.specs.Shapes.{Are, are_more, are_none, argument, child_at, ComesFrom, held_at, holding, Is, is_anything, is_cut, is_number, is_partition, is_pending, is_region, is_space, IsPartition, IsRegion, OfSpace, Origin, own_as, own_root, part, Shape, unknown, World}
use Rattle.fit_rules.specs.Fits.{Begins, called, Program}
use Rattle.fit_rules.specs.Ends.{rooted}

-- ---- a world with one more root

module _ (x : World) (i root sp n : ℕ) (fresh : x.there root ≡ false) where
  pub old_root : (r : ℕ) → x.there r ≡ true → r == root ≡ false
  old_root r h = ne_eqb r root (λ e. false≢true (sym fresh ∙ ap x.there (sym e) ∙ h))

  right_true : (b : Bool) → b || true ≡ true
  right_true true = refl
  right_true false = refl

  pub still_there : (r : ℕ) → x.there r ≡ true → (rooted x i root sp n).there r ≡ true
  still_there r h = ap (λ b. (r == root) || b) h ∙ right_true (r == root)

  pub same_points : (r : ℕ) → x.there r ≡ true → (rooted x i root sp n).points r ≡ x.points r
  same_points r h = ap (λ b. cond b (points n) (x.points r)) (old_root r h)

  pub same_space : (r : ℕ) → x.there r ≡ true → (rooted x i root sp n).spaces r ≡ x.spaces r
  same_space r h = ap (λ b. cond b sp (x.spaces r)) (old_root r h)

-- ---- what a frame begins with

module _ (x : World) (i root sp n : ℕ) (fresh : x.there root ≡ false) (vs : List Value) where
  abbrev before : World
  before = called x vs

  abbrev after : World
  after = called (rooted x i root sp n) vs

  module _ (us : List Value) where
    -- the task has made no root yet
    origin_begun : (o : Origin) (r : RegionValue) → ComesFrom (holding before us) o r → ComesFrom (holding after us) o r
    origin_begun unknown r c = c
    origin_begun (argument j) r c = c
    origin_begun own_root r c = absurd c.0
    origin_begun (own_as j) r c = absurd c.0.0
    origin_begun (part o) r c = (c.0, origin_begun o c.0 c.1, c.2)
    origin_begun (child_at p d o) r c = (c.0, origin_begun o c.0 c.1, c.2, c.3)
    origin_begun (held_at p o) r c = (origin_begun o r c.0, c.1)

    region_begun : (s : Option ℕ) (o : Origin) (r : RegionValue) → IsRegion (holding before us) s o r → IsRegion (holding after us) s o r
    region_begun s o r q = record {
      there = still_there x i root sp n fresh r.root.0 q.there;
      space = subst (OfSpace s) (sym (same_space x i root sp n fresh r.root.0 q.there)) q.space;
      set = q.set;
      points = λ p e. subst (λ xs. has xs p ≡ true) (sym (same_points x i root sp n fresh r.root.0 q.there)) (q.points p e);
      origin = origin_begun o r q.origin;
    }

    partition_begun : (s : Option ℕ) (d : Bool) (p : PartitionValue) → IsPartition (holding before us) s d p → IsPartition (holding after us) s d p
    partition_begun s d p q = record {
      flag = q.flag;
      apart = q.apart;
      there = still_there x i root sp n fresh p.root.0 q.there;
      space = subst (OfSpace s) (sym (same_space x i root sp n fresh p.root.0 q.there)) q.space;
      count = q.count;
      regions = λ r l. ((q.regions r l).0, region_begun s unknown r (q.regions r l).1);
    }

    value_begun : (u : Shape) (v : Value) → Is (holding before us) u v → Is (holding after us) u v
    value_begun _ _ (is_anything v) = is_anything v
    value_begun _ _ (is_number u z q) = is_number u z q
    value_begun _ _ (is_space l q) = is_space l q
    value_begun _ _ (is_region s o r q) = is_region s o r (region_begun s o r q)
    value_begun _ _ (is_partition s d p q) = is_partition s d p (partition_begun s d p q)
    value_begun _ _ (is_cut s d o p q c) = is_cut s d o p (partition_begun s d p q)
        (record { parent = c.parent; origin = origin_begun o c.parent c.origin; root = c.root; inside = c.inside })
    value_begun _ _ (is_pending u j l q) = is_pending u j l q

    are_begun : (ss : List Shape) (ws : List Value) → Are (holding before us) ss ws → Are (holding after us) ss ws
    are_begun _ _ are_none = are_none
    are_begun _ _ (are_more u v ss ws h a) = are_more u v ss ws (value_begun u v h) (are_begun ss ws a)

  pub begins_rooted : (g : Program) (t : TaskCode) (k : ℕ) → Begins g x t k vs → Begins g (rooted x i root sp n) t k vs
  begins_rooted g t k (count, s) =
      (count, record { slots = are_begun [] _ _ s.slots; stack = are_begun _ _ _ s.stack; facts = s.facts; top = s.top; args = s.args })
