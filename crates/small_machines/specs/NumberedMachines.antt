-- A small machine over any names of roots: programs name roots by their places among those at hand.
use Rattle.std.specs.Prelude.{◌≡◌, ◌++◌, ◌∷◌, ◌&&◌, Bool, List, None, Option, Some, [], cond, false, nat_eq, nat_lt, not, refl, suc, true, zero, ℕ}
use Rattle.board_rules.specs.Ground.{Ground, Mode, writes}
use Rattle.board_rules.specs.Processes.{Effect, put}
use Rattle.board_rules.specs.Running.{After, Element, Machine, Spot, Yield, await, calls, ends, make, stops, want}
use Rattle.board_rules.specs.Renaming.{Base, Renames, Roots, ground_over}
use Rattle.board_rules.specs.Journals.{Job}
use Rattle.board_rules.specs.NumberedRuns.{Making}
use Rattle.small_machines.specs.Small.{Op, applied, clash, covered, join, stored}

abbrev pub base : Base
base = record { Number = ℕ; Op = Op; Byte = ℕ; Fault = ℕ; Answer = ℕ; applied = applied; identity = λ o. 0; broken = 0 }

-- a point of the root that stands at a place of the list at hand, with the access
pub data Wants : Type 0 where
  none : Wants
  some_of : ℕ → ℕ → Mode Op → Wants → Wants

pub data Code : Type 0 where
  ended : Code
  failed : ℕ → Code
  print : Code → Code
  set : ℕ → Code → Code
  load : ℕ → ℕ → Code → Code
  store : ℕ → ℕ → Code → Code
  call : Wants → Code → Code → Code
  hear : ℕ → Code → Code
  new_root : ℕ → Code → Code

pub record Location (A : Type 0) : Type 0 where
  pub root : A
  pub point : ℕ

pub data Needs (A : Type 0) : Type 0 where
  nothing : Needs A
  need : Location A → Mode Op → Needs A → Needs A

pub record Frame (A : Type 0) : Type 0 where
  pub code : Code
  pub number : ℕ
  pub roots : List A

-- what a touch meets: no root, no part, or a number
pub data Touch (A : Type 0) : Type 0 where
  no_root : Touch A
  no_part : Location A → Touch A
  meets_number : Location A → ℕ → Touch A

module _ (A : Type 0) (same_root : A → A → Bool) where
  abbrev pub same_loc : Location A → Location A → Bool
  same_loc a b = nat_eq a.point b.point && same_root a.root b.root

  abbrev pub needed : Needs A → Location A → Option (Mode Op)
  needed nothing l = None
  needed (need k a N) l = cond (same_loc k l) (join a (needed N l)) (needed N l)

module _ (A : Type 0) (same_root : A → A → Bool) (maker : A → List ℕ) (making : A → ℕ) where
  abbrev pub roots : Roots base
  roots = record {
    Location = Location A;
    Needs = Needs A;
    Frame = Frame A;
    Key = Location A;
    Made = ℕ;
    same = same_loc A same_root;
    at = needed A same_root;
    maker = λ l. maker l.root;
    making = λ l. making l.root;
  }

-- the machine over names of roots, where a new root at a place gets a name
module _ (A : Type 0) (same_root : A → A → Bool) (maker : A → List ℕ) (making : A → ℕ) (name : List ℕ → ℕ → A) where
  abbrev pub G : Ground
  G = ground_over base (roots A same_root maker making)

  abbrev pub each : (Location A → Bool) → Needs A → Bool
  each f nothing = true
  each f (need l a N) = f l && each f N

  abbrev pub meets : Needs A → Needs A → Bool
  meets a b = not (each (λ l. not (clash (needed A same_root a l) (needed A same_root b l))) a)

  abbrev pub inside : Needs A → Needs A → Bool
  inside a b = each (λ l. covered (needed A same_root a l) (needed A same_root b l)) a

  abbrev pub one_spot : Location A → Option (Mode Op) → List (Spot G)
  one_spot l None = []
  one_spot l (Some a) = record { location = l; mode = a } ∷ []

  abbrev pub one_need : Location A → Option (Mode Op) → Needs A
  one_need l None = nothing
  one_need l (Some a) = need l a nothing

  abbrev pub new_needs : A → ℕ → Needs A → Needs A
  new_needs r zero N = N
  new_needs r (suc n) N = need (record { root = r; point = n }) writes (new_needs r n N)

  abbrev pub new_zeros : A → ℕ → List (Effect G)
  new_zeros r zero = []
  new_zeros r (suc n) = put (record { root = r; point = n }) 0 ∷ new_zeros r n

  abbrev pub number_at : Location A → List (Element G) → Option ℕ
  number_at l [] = None
  number_at l (x ∷ xs) = cond (same_loc A same_root x.location l) (Some x.number) (number_at l xs)

  abbrev pub store_at : Location A → ℕ → List (Element G) → List (Element G)
  store_at l n [] = []
  store_at l n (x ∷ xs) = record { location = x.location; mode = x.mode; number = cond (same_loc A same_root x.location l) (stored x.mode x.number n) x.number } ∷ store_at l n xs

  abbrev pub root_at : List A → ℕ → Option A
  root_at [] c = None
  root_at (r ∷ rs) zero = Some r
  root_at (r ∷ rs) (suc c) = root_at rs c

  abbrev pub touch_part : Location A → Option ℕ → Touch A
  touch_part l None = no_part l
  touch_part l (Some v) = meets_number l v

  abbrev pub touch_root : List (Element G) → ℕ → Option A → Touch A
  touch_root ps x None = no_root
  touch_root ps x (Some r) = touch_part (record { root = r; point = x }) (number_at (record { root = r; point = x }) ps)

  abbrev pub touch : List A → List (Element G) → ℕ → ℕ → Touch A
  touch rs ps c x = touch_root ps x (root_at rs c)

  -- what a call needs of the roots at hand
  abbrev pub needs_of : List A → Wants → Needs A
  needs_of rs none = nothing
  needs_of rs (some_of c x a w) = elim (root_at rs c) [ Some r ↦ need (record { root = r; point = x }) a (needs_of rs w) | None ↦ needs_of rs w ]

  abbrev pub yields : List ℕ → Code → ℕ → List A → List (Element G) → Yield G → After G
  yields t c n rs ps y = record { text = t; frame = record { code = c; number = n; roots = rs }; parts = ps; yields = y }

  abbrev pub segment : Code → List ℕ → ℕ → List A → List (Element G) → After G
  segment ended t n rs ps = yields t ended n rs ps (ends n)
  segment (failed x) t n rs ps = yields t ended n rs ps (stops x)
  segment (print k) t n rs ps = segment k (t ++ n ∷ []) n rs ps
  segment (set v k) t n rs ps = segment k t v rs ps
  segment (load c x k) t n rs ps = elim (touch rs ps c x) [
    | no_root ↦ yields t ended n rs ps (stops 0)
    | no_part l ↦ yields t (load c x k) n rs ps (want l)
    | meets_number l v ↦ segment k t v rs ps
  ]
  segment (store c x k) t n rs ps = elim (touch rs ps c x) [
    | no_root ↦ yields t ended n rs ps (stops 0)
    | no_part l ↦ yields t (store c x k) n rs ps (want l)
    | meets_number l v ↦ segment k t n rs (store_at l n ps)
  ]
  segment (call w c k) t n rs ps = yields t k n rs ps (calls (record { may = true; needs = needs_of rs w; frame = record { code = c; number = n; roots = rs } } ∷ []))
  segment (hear c k) t n rs ps = yields t k n rs ps (await c)
  segment (new_root size k) t n rs ps = yields t k n rs ps (make size)

  abbrev pub machine : Machine G
  machine = record {
    segment = λ f ps. segment f.code [] f.number f.roots ps;
    met = λ f c v. record { code = f.code; number = v; roots = f.roots };
    no_answer = 0;
    meets = meets;
    inside = inside;
    wanted = λ N l. one_spot l (needed A same_root N l);
    narrowed = λ N l. one_need l (needed A same_root N l);
    chunk = 1;
    sound = λ n. nat_lt n 5;
    pushed = λ p i d f. record { code = f.code; number = f.number; roots = f.roots ++ name p i ∷ [] };
    grown = λ p i d N. new_needs (name p i) d N;
    zeros = λ p i d. new_zeros (name p i) d;
  }

-- ---- roots by numbers, and roots by names

abbrev pub same_list : List ℕ → List ℕ → Bool
same_list [] [] = true
same_list (a ∷ p) (b ∷ q) = nat_eq a b && same_list p q
same_list _ _ = false

abbrev pub same_making : Making → Making → Bool
same_making a b = nat_eq a.making b.making && same_list a.maker b.maker

abbrev pub by_number : Roots base
by_number = roots ℕ nat_eq (λ n. []) (λ n. n)

abbrev pub by_name : Roots base
by_name = roots Making same_making (λ x. x.maker) (λ x. x.making)

-- a new root is number n
abbrev pub numbering : ℕ → Machine (ground_over base by_number)
numbering n = machine ℕ nat_eq (λ n. []) (λ n. n) (λ p i. n)

-- a new root is that of its maker
abbrev pub naming : Machine (ground_over base by_name)
naming = machine Making same_making (λ x. x.maker) (λ x. x.making) (λ p i. record { maker = p; making = i })

-- a main task with this program
abbrev pub job : Code → Job (ground_over base by_number)
job c = record { frame = record { code = c; number = 0; roots = [] }; needs = nothing; map = λ l. 0; needs_nothing = λ l. refl }

-- ---- renaming

module _ (A : Type 0) (sa : A → A → Bool) (am : A → List ℕ) (an : A → ℕ)
    (C : Type 0) (sc : C → C → Bool) (cm : C → List ℕ) (cn : C → ℕ) (to : A → C) where
  abbrev pub XA : Roots base
  XA = roots A sa am an

  abbrev pub YC : Roots base
  YC = roots C sc cm cn

  abbrev pub loc_to : Location A → Location C
  loc_to l = record { root = to l.root; point = l.point }

  abbrev pub needs_to : Needs A → Needs C
  needs_to nothing = nothing
  needs_to (need l a N) = need (loc_to l) a (needs_to N)

  abbrev pub roots_to : List A → List C
  roots_to [] = []
  roots_to (r ∷ rs) = to r ∷ roots_to rs

  abbrev pub frame_to : Frame A → Frame C
  frame_to f = record { code = f.code; number = f.number; roots = roots_to f.roots }

  abbrev pub renames : Renames base XA YC
  renames = record { loc = loc_to; needs = needs_to; frame = frame_to; key = loc_to; made = λ n. n }

abbrev pub called : (ℕ → List ℕ) → (ℕ → ℕ) → ℕ → Making
called maker making n = record { maker = maker n; making = making n }

-- numbers are renamed to their makers and makings
abbrev pub rename : (ℕ → List ℕ) → (ℕ → ℕ) → Renames base by_number by_name
rename maker making = renames ℕ nat_eq (λ n. []) (λ n. n) Making same_making (λ x. x.maker) (λ x. x.making) (called maker making)

-- the jobs of programs
abbrev pub IsJob : Job (ground_over base by_number) → Type 0
IsJob j = (c : Code) × (j ≡ job c)
