-- When an instance of a run in order fits, with what the roots hold.
use Rattle.std.proofs.Common.{◌≡◌, ℕ, ◌<◌, pos, List, true, ◌∙◌, refl}
use Rattle.std.specs.Prelude.{get_or, length}
use Rattle.plain_values.specs.Points.{has, points}
use Rattle.region_tree.specs.Requirements.{Requirement}
use Rattle.task_code.specs.declared.code.TaskCode.{TaskCode}
use Rattle.machine_terms.specs.declared.order.Contents.{Contents}
use Rattle.machine_terms.specs.declared.order.Instance.{Instance}
use Rattle.machine_terms.specs.declared.value.Value.{Value}
use Rattle.machine_terms.specs.Contents.{image_of, kept_at}
use Rattle.fit_rules.specs.Shapes.{Among, NumberIs, Shape, World}
use Rattle.fit_rules.specs.Fits.{claims, Fits, Program, shape_at}
use Rattle.fit_rules.specs.Ends.{called, grown}
use Rattle.fit_laws.specs.Segments.{AgreesWith}
use Rattle.memory_laws.specs.Places.{column_of, numbers}
use Rattle.memory_laws.proofs.Giving.{CanGive}

-- What the roots hold is as a world says: its roots are among them, each is of its field space and has its points, and what is
-- kept is of the fields' shapes. No root has a number that is still to be given.
pub record Agrees (g : Program) (x : World) (c : Contents) : Type 0 where
  pub given : (r : ℕ) → x.there r ≡ true → r < c.made
  pub below : (r : ℕ) → Among (numbers c) r → r < c.made
  pub present : (r : ℕ) → x.there r ≡ true → Among (numbers c) r
  pub spaces : AgreesWith x c
  pub points : (r : ℕ) → x.there r ≡ true → x.points r ≡ points (image_of c r).count
  pub kept : (r f p : ℕ) → x.there r ≡ true → NumberIs (shape_at g (x.spaces r) f) (kept_at c r f p)

-- each point of some claims is one of the roots'
abbrev pub AreReached : Contents → List Requirement → Type 0
AreReached c rs = (r : Requirement) → Among rs r → (p : ℕ) → has r.points p ≡ true → p < length (column_of c r.root r.field)

-- An instance fits: its frame and parts do, beside what the roots hold, it knows its claims, its parts may go back, and its
-- children's results are of their shapes.
pub record InstanceFits (g : Program) (x : World) (t : TaskCode) (k : ℕ) (i : Instance) : Type 0 where
  pub machine : Fits g x t k (record { frame = i.frame; parts = i.parts })
  pub contents : Agrees g x i.contents
  pub needs : i.needs ≡ claims g x t
  pub reached : AreReached i.contents (claims g x t)
  pub parts : CanGive i.contents i.parts
  pub count : length i.results ≡ x.children
  pub results : (n : ℕ) → n < x.children → NumberIs (x.results n) (get_or i.results n (pos 0))

-- A world and what the roots hold have grown: roots that were there are still, as they were, and the instance's own are those
-- that it had, or new.
pub record Grew (x : World) (c : Contents) (y : World) (d : Contents) : Type 0 where
  pub there : (r : ℕ) → x.there r ≡ true → y.there r ≡ true
  pub spaces : (r : ℕ) → x.there r ≡ true → y.spaces r ≡ x.spaces r
  pub points : (r : ℕ) → x.there r ≡ true → y.points r ≡ x.points r
  pub own : (r : ℕ) → Among y.own r → x.there r ≡ true → Among x.own r
  pub columns : (r f : ℕ) → x.there r ≡ true → length (column_of d r f) ≡ length (column_of c r f)

pub grew_itself : (x : World) (c : Contents) → Grew x c x c
grew_itself x c = record { there = λ r h. h; spaces = λ r h. refl; points = λ r h. refl; own = λ r h i. h; columns = λ r f h. refl }

pub grew_then : (x y z : World) (c d e : Contents) → Grew x c y d → Grew y d z e → Grew x c z e
grew_then x y z c d e a b = record {
  there = λ r h. b.there r (a.there r h);
  spaces = λ r h. b.spaces r (a.there r h) ∙ a.spaces r h;
  points = λ r h. b.points r (a.there r h) ∙ a.points r h;
  own = λ r h i. a.own r (b.own r h (a.there r i)) i;
  columns = λ r f h. b.columns r f (a.there r h) ∙ a.columns r f h;
}

-- so it is of the world of a call, and with one more child
pub agrees_called : (g : Program) (x : World) (c : Contents) (vs : List Value) → Agrees g x c → Agrees g (called x vs) c
agrees_called g x c vs a = record { given = a.given; below = a.below; present = a.present; spaces = a.spaces; points = a.points; kept = a.kept }

pub agrees_grown : (g : Program) (x : World) (c : Contents) (s : Shape) → Agrees g x c → Agrees g (grown x s) c
agrees_grown g x c s a = record { given = a.given; below = a.below; present = a.present; spaces = a.spaces; points = a.points; kept = a.kept }
