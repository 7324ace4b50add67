-- The code that is put at the end of a body is that of the piece, laid out from there.
use Rattle.std.proofs.Common.{◌≡◌, ◌+◌, ℕ, suc, List, [], ◌∷◌, ◌++◌, length, slice_set, refl, sym, ap, ◌∙◌, arith}
use Rattle.std.proofs.lemmas.List.{length-append}
use Rattle.task_code.specs.declared.code.Line.{Line}
use Rattle.task_code.specs.declared.instr.Instr.{Instr}
use Rattle.task_code.specs.declared.instr.Instr.TheVariants as instr
use Rattle.code_rules.specs.Emitted.{added, opened, put_in, parted, turned, tested, emitted}
use Rattle.code_rules.specs.Pieces.{Piece, empty, op, ◌⨟◌, over, branch, loop, rounds, past, lines, line_of}

grouped : (xs ys zs : List Line) → (xs ++ ys) ++ zs ≡ xs ++ (ys ++ zs)
grouped [] ys zs = refl
grouped (x ∷ xs) ys zs = ap (λ (ls : List Line). x ∷ ls) (grouped xs ys zs)

alone : (xs : List Line) → xs ++ [] ≡ xs
alone [] = refl
alone (x ∷ xs) = ap (λ (ls : List Line). x ∷ ls) (alone xs)

-- an instruction is put where a place was kept free
replaced : (b : List Line) (x y : Line) (rest : List Line) → slice_set (b ++ x ∷ rest) (length b) y ≡ b ++ y ∷ rest
replaced [] x y rest = refl
replaced (z ∷ b) x y rest = ap (λ (ls : List Line). z ∷ ls) (replaced b x y rest)

-- the place behind a piece is as many places further as it has instructions
pub reaches : (p : Piece) (pc : ℕ) → past p pc ≡ pc + length (lines p pc)
reaches empty pc = omega arith
reaches (op i line) pc = omega arith
reaches (a ⨟ b) pc =
    let first = reaches a pc in
    let second = reaches b (past a pc) in
    let whole = length-append (lines a pc) (lines b (past a pc)) in
    omega (arith, first, second, whole)
reaches (over k line a) pc = let inner = reaches a (suc pc) in omega (arith, inner)
reaches (branch line a b) pc =
    let first = reaches a (suc pc) in
    let second = reaches b (suc (past a (suc pc))) in
    let whole = length-append (lines a (suc pc))
    (line_of (instr.Jump (past (branch line a b) pc)) line ∷ lines b (suc (past a (suc pc)))) in
    omega (arith, first, second, whole)
reaches (loop line test body) pc =
    let first = reaches body (suc (suc pc)) in
    let second = reaches test (past body (suc (suc pc))) in
    let jumps : List Line = line_of (instr.JumpIfNot (past (loop line test body) pc)) line
    ∷ line_of (instr.Jump (suc pc)) line ∷ [] in
    let inner = length-append (lines test (past body (suc (suc pc)))) jumps in
    let whole = length-append (lines body (suc (suc pc))) (lines test (past body (suc (suc pc))) ++ jumps) in
    omega (arith, first, second, inner, whole)
reaches (rounds k line a) pc =
    let inner = reaches a (suc pc) in
    let whole = length-append (lines a (suc pc)) (line_of (instr.Jump pc) line ∷ []) in
    omega (arith, inner, whole)

-- the length of a body with a piece at its end
behind : (b : List Line) (p : Piece) → length (b ++ lines p (length b)) ≡ past p (length b)
behind b p = length-append b (lines p (length b)) ∙ sym (reaches p (length b))

one_more : (b : List Line) (x : Line) → length (b ++ x ∷ []) ≡ suc (length b)
one_more b x = let whole = length-append b (x ∷ []) in omega (arith, whole)

-- what is put at the end of a body with one more instruction
behind_one : (b : List Line) (x : Line) (p : Piece) →
    (b ++ x ∷ []) ++ lines p (length (b ++ x ∷ [])) ≡ b ++ x ∷ lines p (suc (length b))
behind_one b x p = rw (one_more b x) (grouped b (x ∷ []) (lines p (suc (length b))))

length_one : (b : List Line) (x : Line) (p : Piece) →
    length (b ++ x ∷ lines p (suc (length b))) ≡ past p (suc (length b))
length_one b x p =
    let whole = length-append b (x ∷ lines p (suc (length b))) in
    let far = reaches p (suc (length b)) in
    omega (arith, whole, far)

abbrev Lies : Piece → Type 0
Lies p = (b : List Line) → emitted b p ≡ b ++ lines p (length b)

-- what stands behind a place that was kept free
opened_laid : (p : Piece) → Lies p → (b : List Line) (line : ℕ) →
    emitted (opened b line) p ≡ b ++ line_of (instr.Jump 0) line ∷ lines p (suc (length b))
opened_laid p lies b line = lies (opened b line) ∙ behind_one b (line_of (instr.Jump 0) line) p

over_laid : (k : ℕ → Instr) (line : ℕ) (a : Piece) (b after : List Line) →
    after ≡ b ++ line_of (instr.Jump 0) line ∷ lines a (suc (length b)) →
    put_in after (length b) (k (length after)) line ≡ b ++ lines (over k line a) (length b)
over_laid k line a b after e =
    let kept = line_of (instr.Jump 0) line in
    rw (e, length_one b kept a)
    (replaced b kept (line_of (k (past a (suc (length b)))) line) (lines a (suc (length b))))

parted_laid : (line : ℕ) (a : Piece) (b first : List Line) →
    first ≡ b ++ line_of (instr.Jump 0) line ∷ lines a (suc (length b)) →
    parted line (length b) first
    ≡ (b ++ line_of (instr.JumpIfNot (suc (past a (suc (length b))))) line ∷ lines a (suc (length b)))
    ++ line_of (instr.Jump 0) line ∷ []
parted_laid line a b first e =
    let kept = line_of (instr.Jump 0) line in
    let head = line_of (instr.JumpIfNot (suc (past a (suc (length b))))) line in
    let here = lines a (suc (length b)) in
    rw (e, one_more (b ++ kept ∷ here) kept, length_one b kept a, grouped b (kept ∷ here) (kept ∷ []))
    (replaced b kept head (here ++ kept ∷ []) ∙ sym (grouped b (head ∷ here) (kept ∷ [])))

-- behind both pieces of a branch
both_laid : (line : ℕ) (c : Piece) → Lies c → (x first : List Line) → length first ≡ length x →
    put_in (emitted (opened x line) c) (length first) (instr.Jump (length (emitted (opened x line) c))) line
    ≡ x ++ line_of (instr.Jump (past c (suc (length x)))) line ∷ lines c (suc (length x))
both_laid line c lies x first e =
    let kept = line_of (instr.Jump 0) line in
    rw (opened_laid c lies x line, e, length_one x kept c)
    (replaced x kept (line_of (instr.Jump (past c (suc (length x)))) line) (lines c (suc (length x))))

branch_laid : (line : ℕ) (a c : Piece) → Lies c → (b first : List Line) →
    first ≡ b ++ line_of (instr.Jump 0) line ∷ lines a (suc (length b)) →
    put_in (emitted (parted line (length b) first) c) (length first)
    (instr.Jump (length (emitted (parted line (length b) first) c))) line
    ≡ b ++ lines (branch line a c) (length b)
branch_laid line a c lies b first e =
    let kept = line_of (instr.Jump 0) line in
    let head = line_of (instr.JumpIfNot (suc (past a (suc (length b))))) line in
    let here = lines a (suc (length b)) in
    let x : List Line = b ++ head ∷ here in
    let same : length first ≡ length x =
    ap length e ∙ length_one b kept a ∙ sym (length_one b head a) in
    rw (parted_laid line a b first e) (
    both_laid line c lies x first same
    ∙ rw (length_one b head a) (grouped b (head ∷ here)
    (line_of (instr.Jump (past c (suc (past a (suc (length b)))))) line ∷ lines c (suc (past a (suc (length b))))))
    )

-- the body of a loop, behind its head
inner_laid : (line : ℕ) (a : Piece) → Lies a → (b : List Line) →
    emitted (added (opened b line) instr.Turn line) a
    ≡ b ++ line_of (instr.Jump 0) line ∷ line_of instr.Turn line ∷ lines a (suc (suc (length b)))
inner_laid line a lies b =
    let kept = line_of (instr.Jump 0) line in
    let turn = line_of instr.Turn line in
    lies (added (opened b line) instr.Turn line) ∙ behind_one (opened b line) turn a
    ∙ rw (one_more b kept) (grouped b (kept ∷ []) (turn ∷ lines a (suc (suc (length b)))))

length_two : (b : List Line) (x y : Line) (p : Piece) →
    length (b ++ x ∷ y ∷ lines p (suc (suc (length b)))) ≡ past p (suc (suc (length b)))
length_two b x y p =
    let whole = length-append b (x ∷ y ∷ lines p (suc (suc (length b)))) in
    let far = reaches p (suc (suc (length b))) in
    omega (arith, whole, far)

turned_laid : (line : ℕ) (a : Piece) (b inner : List Line) →
    inner ≡ b ++ line_of (instr.Jump 0) line ∷ line_of instr.Turn line ∷ lines a (suc (suc (length b))) →
    turned line (length b) inner ≡ b ++ line_of (instr.Jump (past a (suc (suc (length b))))) line
    ∷ line_of instr.Turn line ∷ lines a (suc (suc (length b)))
turned_laid line a b inner e =
    let kept = line_of (instr.Jump 0) line in
    let turn = line_of instr.Turn line in
    rw (e, length_two b kept turn a)
    (replaced b kept (line_of (instr.Jump (past a (suc (suc (length b))))) line)
    (turn ∷ lines a (suc (suc (length b)))))

ends_grouped : (y u : List Line) (v w : Line) → ((y ++ u) ++ v ∷ []) ++ w ∷ [] ≡ y ++ (u ++ v ∷ w ∷ [])
ends_grouped y u v w =
    grouped (y ++ u) (v ∷ []) (w ∷ []) ∙ grouped y u (v ∷ w ∷ [])

loop_laid : (line : ℕ) (test a : Piece) → Lies test → (b now : List Line) →
    now ≡ b ++ line_of (instr.Jump (past a (suc (suc (length b))))) line
    ∷ line_of instr.Turn line ∷ lines a (suc (suc (length b))) →
    tested line (length b) (emitted now test) ≡ b ++ lines (loop line test a) (length b)
loop_laid line test a lies b now e =
    let jump = line_of (instr.Jump (past a (suc (suc (length b))))) line in
    let turn = line_of instr.Turn line in
    let here = lines a (suc (suc (length b))) in
    let far : length now ≡ past a (suc (suc (length b))) = ap length e ∙ length_two b jump turn a in
    let m = past a (suc (suc (length b))) in
    let leave = line_of (instr.JumpIfNot (suc (suc (past test m)))) line in
    let back = line_of (instr.Jump (suc (length b))) line in
    rw (lies now, behind now test, far) (
    ends_grouped now (lines test m) leave back
    ∙ rw e (grouped b (jump ∷ turn ∷ here) (lines test m ++ leave ∷ back ∷ []))
    )

rounds_laid : (k : ℕ → Instr) (line : ℕ) (a : Piece) (b inner : List Line) →
    inner ≡ b ++ line_of (instr.Jump 0) line ∷ lines a (suc (length b)) →
    put_in (added inner (instr.Jump (length b)) line) (length b)
    (k (length (added inner (instr.Jump (length b)) line))) line
    ≡ b ++ lines (rounds k line a) (length b)
rounds_laid k line a b inner e =
    let kept = line_of (instr.Jump 0) line in
    let back = line_of (instr.Jump (length b)) line in
    let here = lines a (suc (length b)) in
    rw (e, one_more (b ++ kept ∷ here) back, length_one b kept a, grouped b (kept ∷ here) (back ∷ []))
    (replaced b kept (line_of (k (suc (past a (suc (length b))))) line) (here ++ back ∷ []))

pub laid : (p : Piece) (b : List Line) → emitted b p ≡ b ++ lines p (length b)
laid empty b = sym (alone b)
laid (op i line) b = refl
laid (a ⨟ c) b =
    rw (laid a b, laid c (b ++ lines a (length b)), behind b a)
    (grouped b (lines a (length b)) (lines c (past a (length b))))
laid (over k line a) b =
    over_laid k line a b (emitted (opened b line) a) (opened_laid a (laid a) b line)
laid (branch line a c) b =
    branch_laid line a c (laid c) b (emitted (opened b line) a) (opened_laid a (laid a) b line)
laid (loop line test a) b = loop_laid line test a (laid test) b
    (turned line (length b) (emitted (added (opened b line) instr.Turn line) a))
    (turned_laid line a b (emitted (added (opened b line) instr.Turn line) a) (inner_laid line a (laid a) b))
laid (rounds k line a) b =
    rounds_laid k line a b (emitted (opened b line) a) (opened_laid a (laid a) b line)
