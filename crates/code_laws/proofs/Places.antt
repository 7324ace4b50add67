-- The lines of a piece, where they are in a body, stand there as the piece.
use Rattle.std.proofs.Common.{◌≡◌, ℕ, suc, ◌<◌, ◌≤◌, ◌^◌, List, [], ◌∷◌, ◌++◌, true, false, Some, None, refl, sym, ap, ◌∙◌, subst, arith, append_assoc, length-append}
use Rattle.std.specs.Prelude.{slice_get, length}
use Rattle.std.proofs.Math.Seq.{get_or-append_seam}
use Rattle.std.proofs.lemmas.Bool.{lt-ltb}
use Rattle.std.proofs.lemmas.Option.{slice_get-get_or}
use Rattle.task_code.specs.declared.code.Line.{Line}
use Rattle.machine_terms.specs.Jumps.{fetch}
use Rattle.code_rules.specs.Pieces.{Piece, empty, op, ◌⨟◌, over, branch, loop, rounds, past, lines, line_of}
use Rattle.task_code.specs.declared.instr.Instr.TheVariants as instr
use Rattle.code_laws.specs.Standing.{Stands}

-- these lines are in the body from a place on
abbrev pub HasAt : List Line → ℕ → List Line → Type 0
HasAt body pc [] = Unit {0}
HasAt body pc (l ∷ ls) = (fetch body pc ≡ Some l) × HasAt body (suc pc) ls

-- the place behind them
abbrev pub after : List Line → ℕ → ℕ
after [] pc = pc
after (l ∷ ls) pc = after ls (suc pc)

module _ (body : List Line) where
  has_front : (xs ys : List Line) (pc : ℕ) → HasAt body pc (xs ++ ys) → HasAt body pc xs
  has_front [] ys pc h = tt
  has_front (l ∷ xs) ys pc h = (h.0, has_front xs ys (suc pc) h.1)

  has_back : (xs ys : List Line) (pc : ℕ) → HasAt body pc (xs ++ ys) → HasAt body (after xs pc) ys
  has_back [] ys pc h = h
  has_back (l ∷ xs) ys pc h = has_back xs ys (suc pc) h.1

after_both : (xs ys : List Line) (pc : ℕ) → after (xs ++ ys) pc ≡ after ys (after xs pc)
after_both [] ys pc = refl
after_both (l ∷ xs) ys pc = after_both xs ys (suc pc)

-- behind the lines of a piece is behind the piece
pub past_after : (p : Piece) (pc : ℕ) → after (lines p pc) pc ≡ past p pc
past_after empty pc = refl
past_after (op i line) pc = refl
past_after (a ⨟ b) pc = after_both (lines a pc) (lines b (past a pc)) pc
    ∙ ap (after (lines b (past a pc))) (past_after a pc) ∙ past_after b (past a pc)
past_after (over k line a) pc = past_after a (suc pc)
past_after (branch line a b) pc = after_both (lines a (suc pc)) _ (suc pc)
    ∙ ap (λ p. after (lines b (suc (past a (suc pc)))) (suc p)) (past_after a (suc pc))
    ∙ past_after b (suc (past a (suc pc)))
past_after (loop line test a) pc =
    let q = suc (suc pc) in
    let two : List Line = line_of (instr.JumpIfNot (past (loop line test a) pc)) line
    ∷ line_of (instr.Jump (suc pc)) line ∷ [] in
    after_both (lines a q) (lines test (past a q) ++ two) q
    ∙ ap (after (lines test (past a q) ++ two)) (past_after a q)
    ∙ after_both (lines test (past a q)) two (past a q)
    ∙ ap (λ p. suc (suc p)) (past_after test (past a q))
past_after (rounds k line a) pc = after_both (lines a (suc pc)) _ (suc pc)
    ∙ ap suc (past_after a (suc pc))

module _ (body : List Line) where
  behind : (a : Piece) (ys : List Line) (pc : ℕ) → HasAt body pc (lines a pc ++ ys) →
      HasAt body (past a pc) ys
  behind a ys pc h = subst (λ p. HasAt body p ys) (past_after a pc) (has_back body (lines a pc) ys pc h)

  pub stands_of : (p : Piece) (pc : ℕ) → HasAt body pc (lines p pc) → Stands body pc p
  stands_of empty pc h = tt
  stands_of (op i line) pc h = h.0
  stands_of (a ⨟ b) pc h = (
    stands_of a pc (has_front body (lines a pc) _ pc h),
    stands_of b (past a pc) (behind a _ pc h),
  )
  stands_of (over k line a) pc h = (h.0, stands_of a (suc pc) h.1)
  stands_of (branch line a b) pc h =
      let g = behind a _ (suc pc) h.1 in (
        h.0,
        stands_of a (suc pc) (has_front body (lines a (suc pc)) _ (suc pc) h.1),
        g.0,
        stands_of b (suc (past a (suc pc))) g.1,
      )
  stands_of (loop line test a) pc h =
      let q = suc (suc pc) in
      let g = behind a _ q h.1.1 in
      let e = behind test _ (past a q) g in (
        h.0,
        h.1.0,
        stands_of a q (has_front body (lines a q) _ q h.1.1),
        stands_of test (past a q) (has_front body (lines test (past a q)) _ (past a q) g),
        e.0,
        e.1.0,
      )
  stands_of (rounds k line a) pc h =
      let g = behind a _ (suc pc) h.1 in
      (h.0, stands_of a (suc pc) (has_front body (lines a (suc pc)) _ (suc pc) h.1), g.0)

-- a body has its own lines
has_all : (ls pre : List Line) → length (pre ++ ls) ≤ 2 ^ 32 → HasAt (pre ++ ls) (length pre) ls
has_all [] pre small = tt
has_all (l ∷ ls) pre small =
    let body = pre ++ l ∷ ls in
    let more = length-append pre (l ∷ ls) in
    let within : length pre < length body = omega (arith, more) in
    let low : length pre < 2 ^ 32 = omega (arith, more, small) in
    let here = ap (λ b. elim b [ true ↦ slice_get body (length pre) | false ↦ None ]) (lt-ltb (length pre) (2 ^ 32) low)
    ∙ slice_get-get_or body (length pre) l within ∙ ap Some (get_or-append_seam pre l ls l) in
    let same = append_assoc pre (l ∷ []) ls in
    let n : length (pre ++ l ∷ []) ≡ suc (length pre) = omega (arith, length-append pre (l ∷ [])) in
    let rest = has_all ls (pre ++ l ∷ []) (subst (λ b. length b ≤ 2 ^ 32) (sym same) small) in
    (here, subst (λ m. HasAt body m ls) n (subst (λ b. HasAt b (length (pre ++ l ∷ [])) ls) same rest))

-- so each piece stands where its lines are the body
pub stands_alone : (p : Piece) → length (lines p 0) ≤ 2 ^ 32 → Stands (lines p 0) 0 p
stands_alone p small = stands_of (lines p 0) p 0 (has_all (lines p 0) [] small)
