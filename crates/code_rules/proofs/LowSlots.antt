-- Which code names only slots below a bound, and that the slots of names in scope are below it.
use Rattle.std.proofs.Common.{◌≤◌, ◌+◌, ◌*◌, ℕ, suc, List, [], ◌∷◌, ◌++◌, length, arith, Bool, true, false, cond, Some, None}
use Rattle.std.specs.Prelude.{map, nat_lt, bytes_eq, ◌==◌}
use Rattle.regent_tree.specs.Scopes.{bound_as, bound_to}
use Rattle.regent_tree.specs.StaticTypes.{Reach}
use Rattle.regent_tree.specs.Syntax.{Name}
use Rattle.regent_tree.specs.declared.facts.Term.TheVariants as term
use Rattle.regent_tree.specs.declared.typing.Bound.{Bound}
use Rattle.regent_tree.specs.declared.typing.StaticType.{StaticType}
use Rattle.task_code.specs.declared.code.Line.{Line}
use Rattle.task_code.specs.declared.instr.Instr.TheVariants as instr
use Rattle.code_rules.specs.Pieces.{Piece, empty, op, ◌⨟◌, over, branch, loop, rounds, past, lines}
use Rattle.code_rules.specs.Slots.{Where, beside, bound, counter, own_slot, slot, slot_bound, slot_named, slot_of_reach, result, spare, stays}
use Rattle.code_rules.specs.Used.{above_all, greatest, slots_of_lines, slots_used}

-- a slot for a place of at most m: each place has three
abbrev pub IsLow : ℕ → ℕ → Type 0
IsLow m s = suc s ≤ 3 * m + 3

-- each instruction of a piece names such slots alone, wherever its jumps go
abbrev pub Fits : ℕ → Piece → Type 0
Fits m empty = Unit {0}
Fits m (op i line) = slots_used i ≤ 3 * m + 3
Fits m (a ⨟ b) = Fits m a × Fits m b
Fits m (over k line a) = ((to : ℕ) → slots_used (k to) ≤ 3 * m + 3) × Fits m a
Fits m (branch line a b) = Fits m a × Fits m b
Fits m (loop line test body) = Fits m test × Fits m body
Fits m (rounds k line a) = ((to : ℕ) → slots_used (k to) ≤ 3 * m + 3) × Fits m a

-- an instruction that names no slot
pub free : (m : ℕ) → 0 ≤ 3 * m + 3
free m = omega arith

pub either_fits : (m : ℕ) (b : Bool) (p q : Piece) → Fits m p → Fits m q → Fits m (cond b p q)
either_fits m true p q h k = h
either_fits m false p q h k = k

-- ---- several slots

pub no_greater : (a b n : ℕ) → a ≤ n → b ≤ n → greatest a b ≤ n
no_greater a b n h k = chosen (nat_lt a b)
  where
    chosen : (c : Bool) → cond c b a ≤ n
    chosen true = k
    chosen false = h

pub three_low : (m a b c : ℕ) → IsLow m a → IsLow m b → IsLow m c → above_all (a ∷ b ∷ c ∷ []) ≤ 3 * m + 3
three_low m a b c g h k =
    no_greater (suc a) (above_all (b ∷ c ∷ [])) (3 * m + 3) g
    (no_greater (suc b) (above_all (c ∷ [])) (3 * m + 3) h (no_greater (suc c) 0 (3 * m + 3) k (free m)))

-- ---- names in scope

-- each binding has a place of at most m
abbrev pub Placed : ℕ → List Bound → Type 0
Placed m [] = Unit {0}
Placed m (b ∷ bs) = (b.place ≤ m) × Placed m bs

one_placed : (m : ℕ) (c : Bool) (a b : Bound) → a.place ≤ m → b.place ≤ m → (cond c a b).place ≤ m
one_placed m true a b h k = h
one_placed m false a b h k = k

pub place_named : (m : ℕ) (bs : List Bound) (n : Name) → Placed m bs → (bound_to bs n).place ≤ m
place_named m [] n p = omega arith
place_named m (b ∷ bs) n p =
    one_placed m (bytes_eq b.name n) b (bound_to bs n) p.0 (place_named m bs n p.1)

pub place_bound : (m : ℕ) (bs : List Bound) (i : ℕ) → Placed m bs → (bound_as bs i).place ≤ m
place_bound m [] i p = omega arith
place_bound m (b ∷ bs) i p =
    one_placed m (b.number == i) b (bound_as bs i) p.0 (place_bound m bs i p.1)

pub slot_low : (m : ℕ) (w : Where) (place : ℕ) → place ≤ m → IsLow m (slot w place)
slot_low m w place h = omega (arith, h)

pub counter_low : (m : ℕ) (w : Where) (place : ℕ) → place ≤ m → IsLow m (counter w place)
counter_low m w place h = omega (arith, h)

pub beside_low : (m : ℕ) (w : Where) (place : ℕ) → place ≤ m → IsLow m (beside w place)
beside_low m w place h = omega (arith, h)

pub spare_low : (m : ℕ) (w : Where) (d : ℕ) → length w.scope.names + d ≤ m → IsLow m (spare w d)
spare_low m w d h = beside_low m w (length w.scope.names + d) h

pub result_low : (m : ℕ) (w : Where) (d : ℕ) → length w.scope.names + d ≤ m → IsLow m (result w d)
result_low m w d h = slot_low m w (length w.scope.names + d) h

pub named_low : (m : ℕ) (w : Where) (n : Name) → Placed m w.scope.names → IsLow m (slot_named w n)
named_low m w n p = slot_low m w (bound w n).place (place_named m w.scope.names n p)

pub bound_low : (m : ℕ) (w : Where) (i : ℕ) → Placed m w.scope.names → IsLow m (slot_bound w i)
bound_low m w i p = slot_low m w (bound_as w.scope.names i).place (place_bound m w.scope.names i p)

pub own_low : (m : ℕ) (w : Where) (t : StaticType) (place : ℕ) → place ≤ m → IsLow m (own_slot w t place)
own_low m w t place h = chosen (stays t)
  where
    chosen : (c : Bool) → IsLow m (cond c (slot w place) (beside w place))
    chosen true = slot_low m w place h
    chosen false = beside_low m w place h

pub reach_low : (m : ℕ) (w : Where) (own : ℕ) (r : Reach) → Placed m w.scope.names → IsLow m own →
    IsLow m (slot_of_reach w own r)
reach_low m w own (Some (term.Name i)) p h = bound_low m w i p
reach_low m w own (Some (term.Child q c)) p h = h
reach_low m w own None p h = omega arith

pub reaches_low : (m : ℕ) (w : Where) (own : ℕ) (rs : List Reach) → Placed m w.scope.names → IsLow m own →
    above_all (map (slot_of_reach w own) rs) ≤ 3 * m + 3
reaches_low m w own [] p h = free m
reaches_low m w own (r ∷ rs) p h =
    no_greater (suc (slot_of_reach w own r)) (above_all (map (slot_of_reach w own) rs)) (3 * m + 3)
    (reach_low m w own r p h) (reaches_low m w own rs p h)

-- ---- the instructions of a piece

abbrev pub AreLow : ℕ → List Line → Type 0
AreLow m [] = Unit {0}
AreLow m (l ∷ ls) = (slots_used l.instr ≤ 3 * m + 3) × AreLow m ls

append_low : (m : ℕ) (xs ys : List Line) → AreLow m xs → AreLow m ys → AreLow m (xs ++ ys)
append_low m [] ys h k = k
append_low m (x ∷ xs) ys h k = (h.0, append_low m xs ys h.1 k)

pub lines_low : (m : ℕ) (p : Piece) (pc : ℕ) → Fits m p → AreLow m (lines p pc)
lines_low m empty pc h = tt
lines_low m (op i line) pc h = (h, tt)
lines_low m (a ⨟ b) pc h =
    append_low m (lines a pc) (lines b (past a pc)) (lines_low m a pc h.0) (lines_low m b (past a pc) h.1)
lines_low m (over k line a) pc h = (h.0 (past a (suc pc)), lines_low m a (suc pc) h.1)
lines_low m (branch line a b) pc h =
    let after = suc (past a (suc pc)) in (
      free m,
      append_low m (lines a (suc pc))
          (record { instr = instr.Jump (past (branch line a b) pc); line = line } ∷ lines b after)
          (lines_low m a (suc pc) h.0) (free m, lines_low m b after h.1),
    )
lines_low m (loop line test body) pc h =
    let inner = suc (suc pc) in
    let jumps : List Line = record { instr = instr.JumpIfNot (past (loop line test body) pc); line = line }
    ∷ record { instr = instr.Jump (suc pc); line = line } ∷ [] in
    let after = append_low m (lines test (past body inner)) jumps
    (lines_low m test (past body inner) h.0) (free m, (free m, tt)) in
    let all = append_low m (lines body inner) (lines test (past body inner) ++ jumps)
    (lines_low m body inner h.1) after in
    (free m, (free m, all))
lines_low m (rounds k line a) pc h = (
  h.0 (past (rounds k line a) pc),
  append_low m (lines a (suc pc)) (record { instr = instr.Jump pc; line = line } ∷ [])
      (lines_low m a (suc pc) h.1) (free m, tt),
)

pub few_slots : (m least : ℕ) (ls : List Line) → AreLow m ls → least ≤ 3 * m + 3 →
    slots_of_lines least ls ≤ 3 * m + 3
few_slots m least [] h k = k
few_slots m least (l ∷ ls) h k =
    no_greater (slots_used l.instr) (slots_of_lines least ls) (3 * m + 3) h.0 (few_slots m least ls h.1 k)
