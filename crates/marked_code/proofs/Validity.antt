-- A body that has marks is valid.
use Rattle.std.proofs.Common.{◌≡◌, ⊎_elim, ℕ, zero, suc, ◌<◌, ◌≤◌, ◌+◌, ◌^◌, List, [], ◌∷◌, ◌++◌, Bool, true, false, Some, None, sym, ap, subst, arith}
use Rattle.std.specs.Prelude.{slice_get, length, nat_lt}
use Rattle.std.proofs.lemmas.Option.{none-some}
use Rattle.task_code.specs.declared.code.Line.{Line}
use Rattle.task_code.specs.declared.code.TaskCode.{TaskCode}
use Rattle.task_code.specs.declared.instr.Instr.TheVariants as instr
use Rattle.machine_terms.specs.Jumps.{fetch}
use Rattle.code_rules.specs.Pieces.{Piece, op, ◌⨟◌, past, lines}
use Rattle.code_laws.specs.Standing.{Stands}
use Rattle.code_laws.proofs.Places.{after, past_after, stands_alone}
use Rattle.fit_rules.specs.Marks.{Mark}
use Rattle.fit_rules.specs.Fits.{Program}
use Rattle.fit_rules.specs.Sound.{To, Sound, returns, Valid}
use Rattle.marked_code.specs.Bodies.{MarksAt, MarkedBodiesAreValid}
use Rattle.marked_code.specs.Marked.{Typed}
use Rattle.marked_code.proofs.Placed.{marks_front, back_at, into_same, below, are_sound, at_line}

-- as many lines as places
pub after_long : (ls : List Line) (pc : ℕ) → after ls pc ≡ pc + length ls
after_long [] pc = omega arith
after_long (l ∷ ls) pc = let e = after_long ls (suc pc) in omega (arith, e)

get_within : {A : Type 0} (xs : List A) (i : ℕ) (a : A) → slice_get xs i ≡ Some a → i < length xs
get_within [] i a e = absurd (none-some a e)
get_within (x ∷ xs) zero a e = omega arith
get_within (x ∷ xs) (suc i) a e = let l = get_within xs i a e in omega (arith, l)

fetched_within : (body : List Line) (pc : ℕ) (l : Line) → fetch body pc ≡ Some l → pc < length body
fetched_within body pc l e = of_test (nat_lt pc (2 ^ 32)) e
  where
    of_test : (b : Bool) → elim b [ true ↦ slice_get body pc | false ↦ None ] ≡ Some l → pc < length body
    of_test true e = get_within body pc l e
    of_test false e = absurd (none-some l e)

module _ (g : Program) (t : TaskCode) (k : ℕ) where
  body_valid : (m n : Mark) (p : Piece) (line : ℕ) (ms : List Mark) → Typed g t k m p ms n →
      t.body ≡ lines (p ⨟ op instr.Return line) 0 → length t.body ≤ 2 ^ 32 → MarksAt g k 0 (ms ++ n ∷ []) →
      Valid g t k
  body_valid m n p line ms f eb small h pc l e =
      let whole = p ⨟ op instr.Return line in
      let stands : Stands t.body 0 whole = subst (λ b. Stands b 0 whole) (sym eb)
      (stands_alone whole (subst (λ b. length b ≤ 2 ^ 32) eb small)) in
      let a = after_long (lines whole 0) 0 in
      let b = past_after whole 0 in
      let long : length t.body ≡ suc (past p 0) = omega (arith, ap length eb, a, b) in
      let last = back_at g t k m p ms (n ∷ []) n 0 f h in
      let to : To g t k n (past p 0) = (omega (arith, long), into_same g t k n _ last.0) in
      ⊎_elim (λ y. are_sound g t k m p ms n 0 f stands.0 (marks_front g t k ms (n ∷ []) 0 h) to pc (omega arith) y l e)
      (λ y.
      let inside = fetched_within t.body pc l e in
      let same : past p 0 ≡ pc = omega (arith, y, inside, long) in
      subst (λ q. fetch t.body q ≡ Some l → Sound g t k q l.instr) same
      (λ d. at_line g t k (past p 0) instr.Return line stands.1 returns l d) e)
      (below pc (past p 0))

pub valid_of : MarkedBodiesAreValid
valid_of g t k m n p line ms f eb small h = body_valid g t k m n p line ms f eb small h
