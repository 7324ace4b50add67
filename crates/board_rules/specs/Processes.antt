-- Maps, effects on them, and processes: what takes a map and gives text, a value and a map, or a fault.
--
-- A fault carries no map, so that nothing has to be said of what stands behind one. A process within a
-- footprint lets each effect pass that doesn't conflict with the footprint.
use Rattle.std.specs.Prelude.{◌≡◌, ◌⊎◌, ◌++◌, ◌∷◌, List, None, Option, Some, [], cond}
use Rattle.board_rules.specs.Ground.{Ground, Mode, reads, reduces, writes}

-- a number is written at a location, or folded into the number that stands there
pub data Effect (G : Ground) : Type 0 where
  put : G.Location → G.Number → Effect G
  fold_in : G.Op → G.Location → G.Number → Effect G

-- how a process ends: with a value, its text and the map that it leaves; at a fault, with the text
-- before it; or not within the turns that it was given
pub data Result (G : Ground) (A : Type 0) : Type 0 where
  done : A → List G.Byte → (G.Location → G.Number) → Result G A
  fails : G.Fault → List G.Byte → Result G A
  spent : Result G A

module _ (G : Ground) where
  abbrev pub Map : Type 0
  Map = G.Location → G.Number

  abbrev pub mode_of : Effect G → Mode G.Op
  mode_of (put a v) = writes
  mode_of (fold_in o a v) = reduces o

  abbrev pub location_of : Effect G → G.Location
  location_of (put a v) = a
  location_of (fold_in o a v) = a

  -- what an effect makes of the number at its location
  abbrev pub act : Effect G → G.Number → G.Number
  act (put a v) x = v
  act (fold_in o a v) x = G.applied o x v

  abbrev pub run : Effect G → Map → Map
  run e m l = cond (G.same (location_of e) l) (act e (m l)) (m l)

  abbrev pub run_all : List (Effect G) → Map → Map
  run_all [] m = m
  run_all (e ∷ es) m = run_all es (run e m)

  abbrev pub Process : Type 0 → Type 0
  Process A = Map → Result G A

  abbrev pub prefix : {A : Type 0} → List G.Byte → Result G A → Result G A
  prefix t (done a u m) = done a (t ++ u) m
  prefix t (fails f u) = fails f (t ++ u)
  prefix t spent = spent

  abbrev pub on_map : {A : Type 0} → (Map → Map) → Result G A → Result G A
  on_map g (done a u m) = done a u (g m)
  on_map g (fails f u) = fails f u
  on_map g spent = spent

  abbrev pub and_then : {A B : Type 0} → Result G A → (A → Process B) → Result G B
  and_then (done a t m) k = prefix t (k a m)
  and_then (fails f t) k = fails f t
  and_then spent k = spent

  abbrev pub gives : {A : Type 0} → A → Process A
  gives a m = done a [] m

  abbrev pub faults : {A : Type 0} → G.Fault → Process A
  faults f m = fails f []

  abbrev pub bind : {A B : Type 0} → Process A → (A → Process B) → Process B
  bind F k m = and_then (F m) k

  -- text first, then the process
  abbrev pub says : {A : Type 0} → List G.Byte → Process A → Process A
  says t F m = prefix t (F m)

  -- effects first, then the process
  abbrev pub after : {A : Type 0} → List (Effect G) → Process A → Process A
  after es F m = F (run_all es m)

  -- ---- footprints

  abbrev pub Footprint : Type 0
  Footprint = G.Location → Option (Mode G.Op)

  -- uses in these two modes at one location don't conflict
  abbrev pub Together : Mode G.Op → Mode G.Op → Type 0
  Together reads reads = Unit {0}
  Together (reduces p) (reduces q) = p ≡ q
  Together _ _ = ⊥

  abbrev pub Apart : Option (Mode G.Op) → Option (Mode G.Op) → Type 0
  Apart (Some a) (Some b) = Together a b
  Apart _ _ = Unit {0}

  -- nothing is changed where nothing or a read is needed
  abbrev pub Quiet : Option (Mode G.Op) → Type 0
  Quiet None = Unit {0}
  Quiet (Some reads) = Unit {0}
  Quiet _ = ⊥

  abbrev pub Foreign : Footprint → Effect G → Type 0
  Foreign f e = Apart (Some (mode_of e)) (f (location_of e))

  -- what is needed there is needed in b as well, or b writes there
  abbrev pub Inside : Option (Mode G.Op) → Option (Mode G.Op) → Type 0
  Inside None b = Unit {0}
  Inside (Some a) b = (b ≡ Some a) ⊎ (b ≡ Some writes)

  abbrev pub AllForeign : Footprint → List (Effect G) → Type 0
  AllForeign f [] = Unit {0}
  AllForeign f (e ∷ es) = Foreign f e × AllForeign f es

  -- the map that a process leaves has the same number there
  abbrev pub Keeps : {A : Type 0} → G.Location → Map → Result G A → Type 0
  Keeps l m (done a t n) = n l ≡ m l
  Keeps l m (fails f t) = Unit {0}
  Keeps l m spent = Unit {0}

  -- A process is within a footprint where it passes each effect that doesn't conflict with it, and
  -- leaves the numbers at which the footprint changes nothing.
  pub record Within {A : Type 0} (f : Footprint) (F : Process A) : Type 0 where
    pub passes : (e : Effect G) → Foreign f e → (m : Map) → F (run e m) ≡ on_map (run e) (F m)
    pub steady : (l : G.Location) → Quiet (f l) → (m : Map) → Keeps l m (F m)
