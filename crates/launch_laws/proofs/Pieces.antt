-- The launches in the lines of a piece, wherever it begins.
use Rattle.std.proofs.Common.{◌≡◌, ◌∙◌, ℕ, suc, List, [], ◌∷◌, ◌++◌, Bool, false, cond, refl, ap, append-nil, map}
use Rattle.std.specs.Prelude.{filter}
use Rattle.std.proofs.lemmas.List.{map-append}
use Rattle.std.proofs.lemmas.List.Elements.{filter-append}
use Rattle.task_code.specs.declared.code.Line.{Line}
use Rattle.task_code.specs.declared.instr.Instr.{Instr}
use Rattle.task_code.specs.declared.instr.Instr.TheVariants as instr
use Rattle.code_rules.specs.Pieces.{Piece, branch, empty, line_of, lines, loop, op, over, past, rounds, ◌⨟◌}
use Rattle.launch_laws.specs.Launched.{issues_calls, launches_in}

-- no instruction of a piece is a launch, wherever its jumps go
abbrev pub Quiet : Piece → Type 0
Quiet empty = Unit {0}
Quiet (op i line) = issues_calls i ≡ false
Quiet (a ⨟ b) = Quiet a × Quiet b
Quiet (over k line a) = ((to : ℕ) → issues_calls (k to) ≡ false) × Quiet a
Quiet (branch line a b) = Quiet a × Quiet b
Quiet (loop line test body) = Quiet test × Quiet body
Quiet (rounds k line a) = ((to : ℕ) → issues_calls (k to) ≡ false) × Quiet a

-- the launches of a piece stand on these lines, wherever it begins
abbrev pub Makes : Piece → List ℕ → Type 0
Makes p ls = (pc : ℕ) → launches_in (lines p pc) ≡ ls

pub launches_append : (xs ys : List Line) → launches_in (xs ++ ys) ≡ launches_in xs ++ launches_in ys
launches_append xs ys =
    let is : Line → Bool = λ l. issues_calls l.instr in
    ap (map (λ (l : Line). l.line)) (filter-append is xs ys) ∙ map-append (λ (l : Line). l.line) (filter is xs) (filter is ys)

two_parts : (xs ys : List Line) (ms ns : List ℕ) → launches_in xs ≡ ms → launches_in ys ≡ ns → launches_in (xs ++ ys) ≡ ms ++ ns
two_parts xs ys ms ns h k =
    launches_append xs ys ∙ ap (λ zs. zs ++ launches_in ys) h ∙ ap (λ zs. ms ++ zs) k

skipped : (l : Line) (ls : List Line) → issues_calls l.instr ≡ false → launches_in (l ∷ ls) ≡ launches_in ls
skipped l ls h =
    let rest = filter (λ (x : Line). issues_calls x.instr) ls in
    ap (λ b. map (λ (x : Line). x.line) (cond b (l ∷ rest) rest)) h

pub makes_both : (a b : Piece) (xs ys : List ℕ) → Makes a xs → Makes b ys → Makes (a ⨟ b) (xs ++ ys)
makes_both a b xs ys h k pc = two_parts (lines a pc) (lines b (past a pc)) xs ys (h pc) (k (past a pc))

pub makes_branch : (line : ℕ) (a b : Piece) (xs ys : List ℕ) → Makes a xs → Makes b ys → Makes (branch line a b) (xs ++ ys)
makes_branch line a b xs ys h k pc =
    let behind = suc (past a (suc pc)) in
    two_parts (lines a (suc pc)) (line_of (instr.Jump (past (branch line a b) pc)) line ∷ lines b behind) xs ys
    (h (suc pc)) (k behind)

pub makes_loop : (line : ℕ) (test body : Piece) (xs ys : List ℕ) → Makes body xs → Makes test ys →
    Makes (loop line test body) (xs ++ ys)
makes_loop line test body xs ys h k pc =
    let place = past body (suc (suc pc)) in
    let ends = line_of (instr.JumpIfNot (past (loop line test body) pc)) line ∷ line_of (instr.Jump (suc pc)) line ∷ [] in
    two_parts (lines body (suc (suc pc))) (lines test place ++ ends) xs ys (h (suc (suc pc)))
    (two_parts (lines test place) ends ys [] (k place) refl ∙ append-nil ys)

pub makes_rounds : (k : ℕ → Instr) (line : ℕ) (a : Piece) (xs : List ℕ) → ((to : ℕ) → issues_calls (k to) ≡ false) →
    Makes a xs → Makes (rounds k line a) xs
makes_rounds k line a xs head h pc =
    let whole = lines a (suc pc) ++ line_of (instr.Jump pc) line ∷ [] in
    skipped (line_of (k (past (rounds k line a) pc)) line) whole (head (past (rounds k line a) pc))
    ∙ two_parts (lines a (suc pc)) (line_of (instr.Jump pc) line ∷ []) xs [] (h (suc pc)) refl ∙ append-nil xs

pub quiet_makes : (p : Piece) → Quiet p → Makes p []
quiet_makes empty q pc = refl
quiet_makes (op i line) q pc = skipped (line_of i line) [] q
quiet_makes (a ⨟ b) q pc = makes_both a b [] [] (quiet_makes a q.0) (quiet_makes b q.1) pc
quiet_makes (over k line a) q pc =
    skipped (line_of (k (past a (suc pc))) line) (lines a (suc pc)) (q.0 (past a (suc pc))) ∙ quiet_makes a q.1 (suc pc)
quiet_makes (branch line a b) q pc = makes_branch line a b [] [] (quiet_makes a q.0) (quiet_makes b q.1) pc
quiet_makes (loop line test body) q pc = makes_loop line test body [] [] (quiet_makes body q.1) (quiet_makes test q.0) pc
quiet_makes (rounds k line a) q pc = makes_rounds k line a [] q.0 (quiet_makes a q.1) pc

pub behind : (a b : Piece) (ys : List ℕ) → Quiet a → Makes b ys → Makes (a ⨟ b) ys
behind a b ys q h = makes_both a b [] ys (quiet_makes a q) h
