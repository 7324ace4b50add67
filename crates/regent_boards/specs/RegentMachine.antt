-- The terms and the machine of a Regent board, over the segment of a code.
use Rattle.std.specs.Prelude.{◌≡◌, ◌++◌, ◌+◌, ◌∷◌, ◌&&◌, Bool, List, None, Option, Some, [], cond, false, filter, flat_map, get_or, length, map, nat_eq, not, option_map, pos, replicate, suc, true, zero, ℕ, ℤ}
use Rattle.std.specs.List.{list_all}
use Rattle.plain_values.specs.Points.{has, meets, points}
use Rattle.lane_kernels.specs.Numbers.{identity_of, width_of}
use Rattle.lane_kernels.specs.declared.numbers.FieldKind.{FieldKind}
use Rattle.lane_kernels.specs.declared.numbers.FieldKind.TheVariants.{Int64, Pointer}
use Rattle.lane_kernels.specs.declared.numbers.Mode.{Mode as FieldMode}
use Rattle.lane_kernels.specs.declared.numbers.Mode.TheVariants.{Read, Reduce, Write}
use Rattle.region_tree.specs.Requirements.{Requirement, interfere, is_of, is_within, mode_at, part_of}
use Rattle.regent_boards.specs.Folds.{folded}
use Rattle.number_codes.specs.Lists.{list_code, decoded_list}
use Rattle.number_codes.specs.Pairs.{first_of, pair_code, second_of}
use Rattle.board_rules.specs.Ground.{Ground, Mode, reads, reduces, writes}
use Rattle.board_rules.specs.Processes.{Effect, put}
use Rattle.board_rules.specs.Running.{After, Element, Machine, Spot}
use Rattle.board_rules.specs.Renaming.{Base, Roots, ground_over}
use Rattle.regent_boards.specs.Frames.{Answer, Frame, Key, Location, Made, OpAt, OwnRoot, Spaces, Stop, Value, a_number, a_partition, a_region, broken, new_partition, new_root, pending}

abbrev pub base : Base
base = record {
  Number = ℤ;
  Op = OpAt;
  Byte = ℕ;
  Fault = Stop;
  Answer = Answer;
  applied = λ o. folded o.op o.width;
  identity = λ o. identity_of o.op o.width;
  broken = broken;
}

-- A root is a number that tells its field space, its size, and who it is: by names its maker's place and
-- which of its makings it is, by numbers how many roots were made before it. So what the board asks of a
-- root is a function of its number.
abbrev pub root_of : ℕ → ℕ → ℕ → ℕ
root_of space size who = pair_code space (pair_code size who)

abbrev pub space_of : ℕ → ℕ
space_of root = first_of root

abbrev pub size_of : ℕ → ℕ
size_of root = first_of (second_of root)

abbrev pub who_of : ℕ → ℕ
who_of root = second_of (second_of root)

abbrev pub behind_first : List ℕ → List ℕ
behind_first [] = []
behind_first (x ∷ xs) = xs

-- the name of a making of the operation at a place
abbrev pub name_of : List ℕ → ℕ → ℕ
name_of p i = list_code (i ∷ p)

abbrev pub making_of : ℕ → ℕ
making_of root = get_or (decoded_list (who_of root)) 0 0

abbrev pub maker_of : ℕ → List ℕ
maker_of root = behind_first (decoded_list (who_of root))

-- the roots that a task made, with their numbers and makings
abbrev pub own_roots : List ℕ → List ℕ → List OwnRoot
own_roots (r ∷ rs) (i ∷ is) = record { making = i; space = space_of r; size = size_of r } ∷ own_roots rs is
own_roots _ _ = []

-- what a task answers behind a frame
abbrev pub answer_with : Frame → Option ℤ → Answer
answer_with f v = record { value = v; roots = own_roots f.own f.makings }

module _ (spaces : Spaces) where
  abbrev pub kinds_of : ℕ → List FieldKind
  kinds_of root = get_or spaces (space_of root) []

  abbrev pub kind_of : ℕ → ℕ → FieldKind
  kind_of root field = get_or (kinds_of root) field Int64

  abbrev pub as_held : ℕ → ℕ → FieldMode → Mode OpAt
  as_held root field Read = reads
  as_held root field Write = writes
  as_held root field (Reduce o) = reduces (record { op = o; width = width_of (kind_of root field) })

  abbrev pub regent_roots : Roots base
  regent_roots = record {
    Location = Location;
    Needs = List Requirement;
    Frame = Frame;
    Key = Key;
    Made = Made;
    same = λ a b. nat_eq a.root b.root && (nat_eq a.field b.field && nat_eq a.point b.point);
    at = λ N l. option_map (as_held l.root l.field) (mode_at N l.root l.field l.point);
    maker = λ l. maker_of l.root;
    making = λ l. making_of l.root;
  }

  abbrev pub regent_ground : Ground
  regent_ground = ground_over base regent_roots

  -- the elements of a part, piece by piece and by rising point
  abbrev pub spots_of : ℕ → ℕ → List (List ℕ × FieldMode) → List (Spot regent_ground)
  spots_of root field [] = []
  spots_of root field (q ∷ qs) = map (λ p. record { location = record { root = root; field = field; point = p }; mode = as_held root field q.1 }) q.0 ++ spots_of root field qs

  -- an awaited answer stands in every slot that held the child
  abbrev pub met_value : ℕ → Option ℤ → Value → Value
  met_value c (Some z) (pending d) = cond (nat_eq c d) (a_number z) (pending d)
  met_value c None (pending d) = cond (nat_eq c d) (a_number (pos 0)) (pending d)
  met_value c o v = v

  abbrev pub met_frame : Frame → ℕ → Answer → Frame
  met_frame f c a = record f { slots = map (met_value c a.value) f.slots }

  -- ---- what is made

  abbrev pub needs_of_root : ℕ → ℕ → List ℕ → List Requirement
  needs_of_root root size [] = []
  needs_of_root root size (f ∷ fs) = record { root = root; points = points size; field = f; mode = Write } ∷ needs_of_root root size fs

  abbrev pub fields_of : ℕ → List ℕ
  fields_of space = points (length (get_or spaces space []))

  abbrev pub zero_of : FieldKind → ℤ
  zero_of Pointer = Rattle.std.specs.Prelude.negsuc 0
  zero_of _ = pos 0

  abbrev pub zeros_of : ℕ → ℕ → List ℕ → List (Effect regent_ground)
  zeros_of root size [] = []
  zeros_of root size (f ∷ fs) = map (λ p. put (record { root = root; field = f; point = p }) (zero_of (kind_of root f))) (points size) ++ zeros_of root size fs

  abbrev pub apart_all : List (List ℕ) → Bool
  apart_all [] = true
  apart_all (s ∷ ss) = list_all (λ t. not (meets s t)) ss && apart_all ss

  abbrev pub is_sound : Made → Bool
  is_sound (new_root space size) = true
  is_sound (new_partition r sets disjoint) = list_all (λ s. list_all (has r.points) s) sets && cond disjoint (apart_all sets) true

  abbrev pub pushed_on : ℕ → ℕ → Made → Frame → Frame
  pushed_on who making (new_root space size) f = record f {
    stack = a_region (record { root = root_of space size who; points = points size }) ∷ f.stack;
    needs = f.needs ++ needs_of_root (root_of space size who) size (fields_of space);
    own = f.own ++ root_of space size who ∷ [];
    makings = f.makings ++ making ∷ [];
  }
  pushed_on who making (new_partition r sets disjoint) f = record f {
    stack = a_partition (record { root = r.root; disjoint = disjoint; children = map (λ xs. record { root = r.root; points = xs }) sets }) ∷ f.stack;
  }

  abbrev pub grown_by : ℕ → Made → List Requirement → List Requirement
  grown_by who (new_root space size) N = N ++ needs_of_root (root_of space size who) size (fields_of space)
  grown_by who (new_partition r sets disjoint) N = N

  abbrev pub zeros_for : ℕ → Made → List (Effect regent_ground)
  zeros_for who (new_root space size) = zeros_of (root_of space size who) size (fields_of space)
  zeros_for who (new_partition r sets disjoint) = []

  -- the machine over a naming of roots; its segment is that of the code
  abbrev pub regent_machine : (List ℕ → ℕ → ℕ) → (Frame → List (Element regent_ground) → After regent_ground) → Machine regent_ground
  regent_machine who segment = record {
    segment = segment;
    met = met_frame;
    no_answer = record { value = None; roots = [] };
    meets = interfere;
    inside = is_within;
    wanted = λ N k. spots_of k.root k.field (part_of N k.root k.field);
    narrowed = λ N k. filter (is_of k.root k.field) N;
    chunk = 4096;
    sound = is_sound;
    pushed = λ p i d f. pushed_on (who p i) i d f;
    grown = λ p i d N. grown_by (who p i) d N;
    zeros = λ p i d. zeros_for (who p i) d;
  }
