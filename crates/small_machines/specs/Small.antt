-- A small machine: a program of few instructions over numbers at places, with one number at hand.
use Rattle.std.specs.Prelude.{◌++◌, ◌+◌, ◌∷◌, ◌&&◌, ◌||◌, Bool, List, None, Option, Some, [], cond, false, max, nat_eq, nat_lt, not, suc, true, zero, ℕ}
use Rattle.board_rules.specs.Ground.{Ground, Mode, reads, reduces, writes}
use Rattle.board_rules.specs.Processes.{Effect, put}
use Rattle.board_rules.specs.Running.{After, Element, Machine, Spot, Yield, await, calls, ends, make, stops, want}

pub data Op : Type 0 where
  sum : Op
  greatest : Op

-- a point of the root that an operation made
pub record Location : Type 0 where
  pub maker : List ℕ
  pub making : ℕ
  pub point : ℕ

pub data Needs : Type 0 where
  nothing : Needs
  need : Location → Mode Op → Needs → Needs

-- what is left to be run
pub data Code : Type 0 where
  ended : Code
  failed : ℕ → Code
  print : Code → Code
  set : ℕ → Code → Code
  load : Location → Code → Code
  store : Location → Code → Code
  call : Needs → Code → Code → Code
  hear : ℕ → Code → Code
  new_root : ℕ → Code → Code

-- with the number at hand
pub record Frame : Type 0 where
  pub code : Code
  pub number : ℕ

abbrev pub same_list : List ℕ → List ℕ → Bool
same_list [] [] = true
same_list (a ∷ p) (b ∷ q) = nat_eq a b && same_list p q
same_list _ _ = false

abbrev pub same_loc : Location → Location → Bool
same_loc a b = nat_eq a.point b.point && (nat_eq a.making b.making && same_list a.maker b.maker)

abbrev pub applied : Op → ℕ → ℕ → ℕ
applied sum a b = a + b
applied greatest a b = max a b

abbrev pub same_op : Op → Op → Bool
same_op sum sum = true
same_op greatest greatest = true
same_op _ _ = false

abbrev pub joined : Mode Op → Mode Op → Mode Op
joined reads reads = reads
joined (reduces p) (reduces q) = cond (same_op p q) (reduces p) writes
joined _ _ = writes

abbrev pub join : Mode Op → Option (Mode Op) → Option (Mode Op)
join a None = Some a
join a (Some b) = Some (joined a b)

abbrev pub needed : Needs → Location → Option (Mode Op)
needed nothing l = None
needed (need k a N) l = cond (same_loc k l) (join a (needed N l)) (needed N l)

abbrev pub small_ground : Ground
small_ground = record {
  Location = Location;
  Number = ℕ;
  Op = Op;
  Byte = ℕ;
  Fault = ℕ;
  Answer = ℕ;
  Needs = Needs;
  Frame = Frame;
  Key = Location;
  Made = ℕ;
  same = same_loc;
  applied = applied;
  identity = λ o. 0;
  broken = 0;
  at = needed;
  maker = λ l. l.maker;
  making = λ l. l.making;
}

abbrev pub in_conflict : Mode Op → Mode Op → Bool
in_conflict reads reads = false
in_conflict (reduces p) (reduces q) = not (same_op p q)
in_conflict _ _ = true

abbrev pub clash : Option (Mode Op) → Option (Mode Op) → Bool
clash (Some a) (Some b) = in_conflict a b
clash _ _ = false

abbrev pub same_mode : Mode Op → Mode Op → Bool
same_mode reads reads = true
same_mode writes writes = true
same_mode (reduces p) (reduces q) = same_op p q
same_mode _ _ = false

abbrev pub covered : Option (Mode Op) → Option (Mode Op) → Bool
covered None b = true
covered (Some a) (Some b) = same_mode a b || same_mode writes b
covered (Some a) None = false

-- a test at each place that is needed
abbrev pub each : (Location → Bool) → Needs → Bool
each f nothing = true
each f (need l a N) = f l && each f N

abbrev pub meets : Needs → Needs → Bool
meets a b = not (each (λ l. not (clash (needed a l) (needed b l))) a)

abbrev pub inside : Needs → Needs → Bool
inside a b = each (λ l. covered (needed a l) (needed b l)) a

abbrev pub one_spot : Location → Option (Mode Op) → List (Spot small_ground)
one_spot l None = []
one_spot l (Some a) = record { location = l; mode = a } ∷ []

abbrev pub one_need : Location → Option (Mode Op) → Needs
one_need l None = nothing
one_need l (Some a) = need l a nothing

-- the points of a new root
abbrev pub new_needs : List ℕ → ℕ → ℕ → Needs → Needs
new_needs p i zero N = N
new_needs p i (suc n) N = need (record { maker = p; making = i; point = n }) writes (new_needs p i n N)

abbrev pub new_zeros : List ℕ → ℕ → ℕ → List (Effect small_ground)
new_zeros p i zero = []
new_zeros p i (suc n) = put (record { maker = p; making = i; point = n }) 0 ∷ new_zeros p i n

abbrev pub number_at : Location → List (Element small_ground) → Option ℕ
number_at l [] = None
number_at l (x ∷ xs) = cond (same_loc x.location l) (Some x.number) (number_at l xs)

abbrev pub stored : Mode Op → ℕ → ℕ → ℕ
stored reads v n = v
stored writes v n = n
stored (reduces o) v n = applied o v n

abbrev pub store_at : Location → ℕ → List (Element small_ground) → List (Element small_ground)
store_at l n [] = []
store_at l n (x ∷ xs) = record { location = x.location; mode = x.mode; number = cond (same_loc x.location l) (stored x.mode x.number n) x.number } ∷ store_at l n xs

abbrev pub yields : List ℕ → Code → ℕ → List (Element small_ground) → Yield small_ground → After small_ground
yields t c n ps y = record { text = t; frame = record { code = c; number = n }; parts = ps; yields = y }

-- the first touch of a place for which no part is held asks for it
abbrev pub segment : Code → List ℕ → ℕ → List (Element small_ground) → After small_ground
segment ended t n ps = yields t ended n ps (ends n)
segment (failed x) t n ps = yields t ended n ps (stops x)
segment (print k) t n ps = segment k (t ++ n ∷ []) n ps
segment (set v k) t n ps = segment k t v ps
segment (load l k) t n ps = elim (number_at l ps) [ Some v ↦ segment k t v ps | None ↦ yields t (load l k) n ps (want l) ]
segment (store l k) t n ps = elim (number_at l ps) [ Some v ↦ segment k t n (store_at l n ps) | None ↦ yields t (store l k) n ps (want l) ]
segment (call N c k) t n ps = yields t k n ps (calls (record { may = true; needs = N; frame = record { code = c; number = n } } ∷ []))
segment (hear c k) t n ps = yields t k n ps (await c)
segment (new_root size k) t n ps = yields t k n ps (make size)

abbrev pub small_machine : Machine small_ground
small_machine = record {
  segment = λ f ps. segment f.code [] f.number ps;
  met = λ f c v. record { code = f.code; number = v };
  no_answer = 0;
  meets = meets;
  inside = inside;
  wanted = λ N l. one_spot l (needed N l);
  narrowed = λ N l. one_need l (needed N l);
  chunk = 1;
  sound = λ n. nat_lt n 5;
  pushed = λ p i d f. f;
  grown = new_needs;
  zeros = new_zeros;
}
