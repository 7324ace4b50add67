-- The lines of a tidy piece are tidy code.
use Rattle.std.proofs.Common.{◌≡◌, ◌⊎◌, inl, inr, ℕ, zero, suc, ◌<◌, ◌≤◌, ◌^◌, List, [], ◌∷◌, ◌++◌, Bool, true, false, Option, Some, None, refl, sym, ap, ◌∙◌, subst, arith, ⊎_elim}
use Rattle.std.specs.Prelude.{slice_get, length}
use Rattle.std.proofs.lemmas.Bool.{cases_lt, lt-ltb, le-ltb}
use Rattle.std.proofs.lemmas.Option.{none-some, slice_get_within, slice_get_past, same_Some}
use Rattle.task_code.specs.declared.code.Line.{Line}
use Rattle.task_code.specs.declared.instr.Instr.{Instr}
use Rattle.task_code.specs.declared.instr.Instr.TheVariants as instr
use Rattle.machine_terms.specs.Jumps.{fetch}
use Rattle.code_rules.specs.Pieces.{Piece, empty, op, ◌⨟◌, over, branch, loop, rounds, line_of, lines, past}
use Rattle.eager_laws.specs.Pendings.{IsPut, IsTidy, IsTidyAt, PutsAway}
use Rattle.tidy_code.specs.Laws.{PiecesAreTidy}
use Rattle.tidy_code.specs.Pieces.{IsAlone, PutsFirst, Tidy, tidy_empty, tidy_op, tidy_both, tidy_call, tidy_over, tidy_branch, tidy_loop, tidy_rounds}

module _ (for_results : ℕ → Bool) where
  abbrev head : List Line → Option Line
  head [] = None
  head (l ∷ ls) = Some l

  abbrev AreTidy : List Line → Type 0
  AreTidy [] = Unit {0}
  AreTidy (l ∷ ls) = IsTidyAt for_results l.instr (head ls) × AreTidy ls

  -- what is tidy alone is tidy before anything
  before_any : (i : Instr) (o : Option Line) → IsAlone for_results i → IsTidyAt for_results i o
  before_any (instr.Call task n) o h = absurd h
  before_any (instr.Launch task s line args) o h = h
  before_any (instr.NextNumber c l v to) o h = h
  before_any (instr.NextPoint s c v ptr to) o h = h
  before_any _ o h = tt

  one_line : (i : Instr) (line : ℕ) (ls : List Line) → IsAlone for_results i → AreTidy ls → AreTidy (line_of i line ∷ ls)
  one_line i line ls h t = (before_any i (head ls) h, t)

  both_tidy : (ls ms : List Line) → AreTidy ls → AreTidy ms → AreTidy (ls ++ ms)
  both_tidy [] ms h k = k
  both_tidy (l ∷ []) ms h k = (before_any l.instr (head ms) h.0, k)
  both_tidy (l ∷ m ∷ ls) ms h k = (h.0, both_tidy (m ∷ ls) ms h.1 k)

  head_stays : (ls ms : List Line) → PutsAway for_results (head ls) → PutsAway for_results (head (ls ++ ms))
  head_stays [] ms h = absurd h
  head_stays (l ∷ ls) ms h = h

  puts_first : (p : Piece) (pc : ℕ) → PutsFirst for_results p → PutsAway for_results (head (lines p pc))
  puts_first empty pc h = absurd h
  puts_first (op i line) pc h = h
  puts_first (a ⨟ b) pc h = head_stays (lines a pc) (lines b (past a pc)) (puts_first a pc h)
  puts_first (over k line a) pc h = absurd h
  puts_first (branch line a b) pc h = absurd h
  puts_first (loop line test a) pc h = absurd h
  puts_first (rounds k line a) pc h = absurd h

  tidy_lines : (p : Piece) (pc : ℕ) → Tidy for_results p → AreTidy (lines p pc)
  tidy_lines _ pc tidy_empty = tt
  tidy_lines _ pc (tidy_op i line h) = (h, tt)
  tidy_lines _ pc (tidy_both a b h k) = both_tidy (lines a pc) (lines b (past a pc)) (tidy_lines a pc h) (tidy_lines b (past a pc) k)
  tidy_lines _ pc (tidy_call task n line b h k) = (puts_first b (suc pc) h, tidy_lines b (suc pc) k)
  tidy_lines _ pc (tidy_over k line a h t) =
      one_line (k (past a (suc pc))) line (lines a (suc pc)) (h (past a (suc pc))) (tidy_lines a (suc pc) t)
  tidy_lines _ pc (tidy_branch line a b h k) =
      let to = past (branch line a b) pc in
      let rest = lines b (suc (past a (suc pc))) in
      one_line (instr.JumpIfNot (suc (past a (suc pc)))) line (lines a (suc pc) ++ line_of (instr.Jump to) line ∷ rest) tt
      (both_tidy (lines a (suc pc)) (line_of (instr.Jump to) line ∷ rest) (tidy_lines a (suc pc) h)
      (one_line (instr.Jump to) line rest tt (tidy_lines b (suc (past a (suc pc))) k)))
  tidy_lines _ pc (tidy_loop line test a h k) =
      let body = lines a (suc (suc pc)) in
      let tests = lines test (past a (suc (suc pc))) in
      let ends : List Line = line_of (instr.JumpIfNot (past (loop line test a) pc)) line ∷ line_of (instr.Jump (suc pc)) line ∷ [] in
      one_line (instr.Jump (past a (suc (suc pc)))) line (line_of instr.Turn line ∷ (body ++ (tests ++ ends))) tt
      (one_line instr.Turn line (body ++ (tests ++ ends)) tt
      (both_tidy body (tests ++ ends) (tidy_lines a (suc (suc pc)) k)
      (both_tidy tests ends (tidy_lines test (past a (suc (suc pc))) h) (tt, (tt, tt)))))
  tidy_lines _ pc (tidy_rounds k line a h t) =
      let back : List Line = line_of (instr.Jump pc) line ∷ [] in
      one_line (k (past (rounds k line a) pc)) line (lines a (suc pc) ++ back) (h (past (rounds k line a) pc))
      (both_tidy (lines a (suc pc)) back (tidy_lines a (suc pc) t) (tt, tt))

  -- ---- by places

  head_is : (ls : List Line) → head ls ≡ slice_get ls 0
  head_is [] = refl
  head_is (l ∷ ls) = refl

  at_place : (ls : List Line) (pc : ℕ) (l : Line) → AreTidy ls → slice_get ls pc ≡ Some l → IsTidyAt for_results l.instr (slice_get ls (suc pc))
  at_place [] pc l h e = absurd (none-some l e)
  at_place (m ∷ ls) zero l h e = subst (λ (l : Line). IsTidyAt for_results l.instr (slice_get ls 0)) (same_Some m l e)
      (subst (IsTidyAt for_results m.instr) (head_is ls) h.0)
  at_place (m ∷ ls) (suc pc) l h e = at_place ls pc l h.1 e

  small : (body : List Line) (pc : ℕ) → length body ≤ 2 ^ 32 → fetch body pc ≡ slice_get body pc
  small body pc few = ⊎_elim
      (λ h. ap (λ b. elim b [ true ↦ slice_get body pc | false ↦ None ]) (lt-ltb pc (2 ^ 32) h))
      (λ h. ap (λ b. elim b [ true ↦ slice_get body pc | false ↦ None ]) (le-ltb pc (2 ^ 32) h)
      ∙ sym (slice_get_past body pc (omega (arith, h, few))))
      (cases_lt pc (2 ^ 32))

  pub lines_tidy : (body : List Line) → AreTidy body → length body ≤ 2 ^ 32 → IsTidy for_results body
  lines_tidy body h few pc l e = subst (IsTidyAt for_results l.instr) (sym (small body (suc pc) few))
      (at_place body pc l h (sym (small body pc few) ∙ e))

pub pieces_tidy : PiecesAreTidy
pieces_tidy for_results p h few = lines_tidy for_results (lines p 0) (tidy_lines for_results p 0 h) few
