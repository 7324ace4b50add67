-- A text begins with the line of one entry at most.
use Rattle.std.proofs.Common.{All, ◌≡◌, ◌≢◌, ◌∙◌, ◌<◌, ◌^◌, ◌++◌, ◌∷◌, ℕ, List, [], Err, None, Ok, Result, ap, append_assoc, arith, codes, drop, get_or, length, refl, subst, sym}
use Rattle.std.specs.Fmt.{decimal}
use Rattle.std.proofs.lemmas.List.{length-append}
use Rattle.std.proofs.lemmas.List.Elements.{All-append, All-cons, All-head, All-nil, All-tail}
use Rattle.std.specs.Result.{OkIff, result_ok}
use Rattle.run_journal.specs.Journals.{IsEntry, TextsHaveNoBadLine, TextsTell, line_of, text_of, word_of}
use Rattle.run_journal.specs.Numbers.{IsNumbered}
use Rattle.run_journal.specs.declared.entry.Entry.{Entry}
use Rattle.run_journal.specs.declared.entry.StepKind.{StepKind}
use Rattle.run_journal.specs.declared.entry.StepKind.TheVariants.{Back, Claim, Copy, Give}
use Rattle.run_journal.proofs.Fronts.{one_number, one_rest}

-- the second byte tells the words apart
abbrev second : List ℕ → ℕ
second xs = get_or xs 1 0

one_kind : (k j : StepKind) (r s : List ℕ) → word_of k ++ r ≡ word_of j ++ s → (k ≡ j) × (r ≡ s)
one_kind Claim Claim r s e = (refl, ap (drop 6) e)
one_kind Copy Copy r s e = (refl, ap (drop 5) e)
one_kind Give Give r s e = (refl, ap (drop 5) e)
one_kind Back Back r s e = (refl, ap (drop 5) e)
one_kind Claim Copy r s e = let d : 108 ≡ 111 = ap second e in absurd (omega (arith, d))
one_kind Claim Give r s e = let d : 108 ≡ 105 = ap second e in absurd (omega (arith, d))
one_kind Claim Back r s e = let d : 108 ≡ 97 = ap second e in absurd (omega (arith, d))
one_kind Copy Claim r s e = let d : 111 ≡ 108 = ap second e in absurd (omega (arith, d))
one_kind Copy Give r s e = let d : 111 ≡ 105 = ap second e in absurd (omega (arith, d))
one_kind Copy Back r s e = let d : 111 ≡ 97 = ap second e in absurd (omega (arith, d))
one_kind Give Claim r s e = let d : 105 ≡ 108 = ap second e in absurd (omega (arith, d))
one_kind Give Copy r s e = let d : 105 ≡ 111 = ap second e in absurd (omega (arith, d))
one_kind Give Back r s e = let d : 105 ≡ 97 = ap second e in absurd (omega (arith, d))
one_kind Back Claim r s e = let d : 97 ≡ 108 = ap second e in absurd (omega (arith, d))
one_kind Back Copy r s e = let d : 97 ≡ 111 = ap second e in absurd (omega (arith, d))
one_kind Back Give r s e = let d : 97 ≡ 105 = ap second e in absurd (omega (arith, d))

module _ (text : List ℕ) (e : Entry) (rest : List ℕ) (is : IsEntry e) (h : text ≡ line_of e ++ rest) where
  -- what stands behind the seat, behind the operation, and behind the kind
  abbrev pub at_end : List ℕ
  at_end = 10 ∷ rest

  abbrev pub at_seat : List ℕ
  at_seat = decimal e.seat ++ at_end

  abbrev pub at_by : List ℕ
  at_by = codes " by " ++ at_seat

  abbrev pub at_op : List ℕ
  at_op = decimal e.op.0 ++ at_by

  grouped : line_of e ++ rest ≡ word_of e.kind ++ at_op
  grouped = append_assoc (word_of e.kind) (decimal e.op.0 ++ (codes " by " ++ (decimal e.seat ++ 10 ∷ []))) rest
      ∙ ap (λ xs. word_of e.kind ++ xs) (append_assoc (decimal e.op.0) (codes " by " ++ (decimal e.seat ++ 10 ∷ [])) rest
      ∙ ap (λ xs. decimal e.op.0 ++ xs) (append_assoc (codes " by ") (decimal e.seat ++ 10 ∷ []) rest
      ∙ ap (λ xs. codes " by " ++ xs) (append_assoc (decimal e.seat) (10 ∷ []) rest)))

  op_numbered : IsNumbered at_op e.op.0 at_by
  op_numbered = record { splits = refl; small = is.op; ends = refl }

  seat_numbered : IsNumbered at_seat e.seat at_end
  seat_numbered = record { splits = refl; small = omega (arith, is.seat); ends = refl }

  module _ (kind : StepKind) (behind : List ℕ) (begins : text ≡ word_of kind ++ behind) where
    kind_is : (kind ≡ e.kind) × (behind ≡ at_op)
    kind_is = one_kind kind e.kind behind at_op (sym begins ∙ h ∙ grouped)

    pub op_there : IsNumbered behind e.op.0 at_by
    op_there = subst (λ xs. IsNumbered xs e.op.0 at_by) (sym kind_is.1) op_numbered

    module _ (op : ℕ) (after : List ℕ) (numbered : IsNumbered behind op after) where
      pub by_there : after ≡ at_by
      by_there = one_rest behind op e.op.0 after at_by numbered op_there

      module _ (past : List ℕ) (said : after ≡ codes " by " ++ past) where
        past_is : past ≡ at_seat
        past_is = ap (drop 4) (sym said ∙ by_there)

        pub seat_there : IsNumbered past e.seat at_end
        seat_there = subst (λ xs. IsNumbered xs e.seat at_end) (sym past_is) seat_numbered

        module _ (seat : ℕ) (last : List ℕ) (seated : IsNumbered past seat last) where
          pub seat_small : seat < 2 ^ 16
          seat_small = omega (arith, one_number past seat e.seat last at_end seated seat_there, is.seat)

          pub end_there : last ≡ 10 ∷ rest
          end_there = one_rest past seat e.seat last at_end seated seat_there

-- what was read is the line of an entry
pub line_read : (text : List ℕ) (kind : StepKind) (behind : List ℕ) (op : ℕ) (after past : List ℕ) (seat : ℕ) (last rest : List ℕ) →
    text ≡ word_of kind ++ behind → IsNumbered behind op after → after ≡ codes " by " ++ past → IsNumbered past seat last → last ≡ 10 ∷ rest →
    text ≡ line_of (record { kind = kind; op = record { 0 = op }; seat = seat }) ++ rest
line_read text kind behind op after past seat last rest a b c d e =
    a ∙ ap (λ xs. word_of kind ++ xs) (b.splits ∙ ap (λ xs. decimal op ++ xs) (c ∙ ap (λ xs. codes " by " ++ xs) (d.splits ∙ ap (λ xs. decimal seat ++ xs) e)))
    ∙ sym (append_assoc (word_of kind) (decimal op ++ (codes " by " ++ (decimal seat ++ 10 ∷ []))) rest
    ∙ ap (λ xs. word_of kind ++ xs) (append_assoc (decimal op) (codes " by " ++ (decimal seat ++ 10 ∷ [])) rest
    ∙ ap (λ xs. decimal op ++ xs) (append_assoc (codes " by ") (decimal seat ++ 10 ∷ []) rest
    ∙ ap (λ xs. codes " by " ++ xs) (append_assoc (decimal seat) (10 ∷ []) rest))))

-- a number of 16 bits is never refused
pub never_large : {E : Type 0} (r : Result ℕ E) (n : ℕ) → OkIff r (n < 2 ^ 16) n → n < 2 ^ 16 → result_ok r ≡ None → ⊥
never_large (Ok x) n q l e = cc
never_large (Err x) n q l e = q l

-- ---- texts

pub text_behind : (es : List Entry) (e : Entry) (rest : List ℕ) → text_of (es ++ e ∷ []) ++ rest ≡ text_of es ++ (line_of e ++ rest)
text_behind [] e rest = append_assoc (line_of e) [] rest
text_behind (d ∷ es) e rest =
    append_assoc (line_of d) (text_of (es ++ e ∷ [])) rest ∙ ap (λ xs. line_of d ++ xs) (text_behind es e rest)
    ∙ sym (append_assoc (line_of d) (text_of es) (line_of e ++ rest))

-- a line has a byte at least
pub line_shortens : (e : Entry) (rest : List ℕ) → length rest < length (line_of e ++ rest)
line_shortens e rest = omega (arith, length-append (line_of e) rest, some e)
  where
    some : (e : Entry) → 0 < length (line_of e)
    some e = omega (arith, length-append (word_of e.kind) (decimal e.op.0 ++ (codes " by " ++ (decimal e.seat ++ 10 ∷ []))), words e.kind)
      where
        words : (k : StepKind) → 0 < length (word_of k)
        words Claim = omega arith
        words Copy = omega arith
        words Give = omega arith
        words Back = omega arith

pub read_more : (es ds : List Entry) (e : Entry) → All IsEntry es → IsEntry e → ds ≡ es ++ e ∷ [] → All IsEntry ds
read_more es ds e all is same = subst (All IsEntry) (sym same) (All-append IsEntry es (e ∷ []) all (All-cons IsEntry e [] is (All-nil IsEntry)))

-- two lines in front of one text are the same
one_line : (e d : Entry) (r s : List ℕ) → IsEntry e → IsEntry d → line_of e ++ r ≡ line_of d ++ s → (e ≡ d) × (r ≡ s)
one_line e d r s is of h = (λ i. record { kind = kinds i; op = record { 0 = ops i }; seat = seats i }, ap (drop 1) ends)
  where
    t : List ℕ
    t = line_of e ++ r

    begins : line_of e ++ r ≡ word_of e.kind ++ at_op (line_of e ++ r) e r is refl
    begins = grouped (line_of e ++ r) e r is refl

    numbered : IsNumbered (at_op (line_of e ++ r) e r is refl) e.op.0 (at_by (line_of e ++ r) e r is refl)
    numbered = op_numbered (line_of e ++ r) e r is refl

    seated : IsNumbered (at_seat (line_of e ++ r) e r is refl) e.seat (at_end (line_of e ++ r) e r is refl)
    seated = seat_numbered (line_of e ++ r) e r is refl

    kinds : e.kind ≡ d.kind
    kinds = (kind_is (line_of e ++ r) d s of h e.kind (at_op (line_of e ++ r) e r is refl) begins).0

    ops : e.op.0 ≡ d.op.0
    ops = one_number (at_op (line_of e ++ r) e r is refl) e.op.0 d.op.0 _ _ numbered
        (op_there (line_of e ++ r) d s of h e.kind (at_op (line_of e ++ r) e r is refl) begins)

    seats : e.seat ≡ d.seat
    seats = one_number (at_seat (line_of e ++ r) e r is refl) e.seat d.seat _ _ seated
        (seat_there (line_of e ++ r) d s of h e.kind (at_op (line_of e ++ r) e r is refl) begins e.op.0 (at_by (line_of e ++ r) e r is refl) numbered
        (at_seat (line_of e ++ r) e r is refl) refl)

    ends : 10 ∷ r ≡ 10 ∷ s
    ends = end_there (line_of e ++ r) d s of h e.kind (at_op (line_of e ++ r) e r is refl) begins e.op.0 (at_by (line_of e ++ r) e r is refl) numbered
        (at_seat (line_of e ++ r) e r is refl) refl e.seat (10 ∷ r) seated

no_line : (e : Entry) (r : List ℕ) → [] ≡ line_of e ++ r → ⊥
no_line e r h = omega (arith, line_shortens e r, ap length h)

pub texts_tell : TextsTell
texts_tell [] [] a b h = refl
texts_tell [] (d ∷ ds) a b h = absurd (no_line d (text_of ds) h)
texts_tell (e ∷ es) [] a b h = absurd (no_line e (text_of es) (sym h))
texts_tell (e ∷ es) (d ∷ ds) a b h =
    let one = one_line e d (text_of es) (text_of ds) (All-head IsEntry e es a) (All-head IsEntry d ds b) h in
    λ i. one.0 i ∷ texts_tell es ds (All-tail IsEntry e es a) (All-tail IsEntry d ds b) one.1 i

no_bad : (es before : List Entry) (rest : List ℕ) → All IsEntry es → All IsEntry before → text_of es ≡ text_of before ++ rest → rest ≢ [] →
    ((e : Entry) (tail : List ℕ) → IsEntry e → rest ≢ line_of e ++ tail) → ⊥
no_bad [] [] rest a b h some bad = some (sym h)
no_bad [] (d ∷ ds) rest a b h some bad = no_line d (text_of ds ++ rest) (h ∙ append_assoc (line_of d) (text_of ds) rest)
no_bad (e ∷ es) [] rest a b h some bad = bad e (text_of es) (All-head IsEntry e es a) (sym h)
no_bad (e ∷ es) (d ∷ ds) rest a b h some bad =
    let one = one_line e d (text_of es) (text_of ds ++ rest) (All-head IsEntry e es a) (All-head IsEntry d ds b) (h ∙ append_assoc (line_of d) (text_of ds) rest) in
    no_bad es ds rest (All-tail IsEntry e es a) (All-tail IsEntry d ds b) one.1 some bad

pub texts_have_no_bad_line : TextsHaveNoBadLine
texts_have_no_bad_line es number a b = no_bad es b.before b.rest a b.entries b.splits b.more b.bad
