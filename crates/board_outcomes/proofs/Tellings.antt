-- What is told, piece by piece.
use Rattle.std.proofs.Common.{◌≡◌, ◌<◌, ◌≤◌, ◌∙◌, ◌+◌, ◌++◌, ◌==◌, ℕ, zero, suc, Bool, true, false, List, [], ◌∷◌, Option, None, Some, ap, arith, cond, drop, get_or, length, refl, sym}
use Rattle.std.proofs.Math.Path.{fun_ext}
use Rattle.std.specs.Option.{is_some}
use Rattle.std.proofs.lemmas.Bool.{false≢true}
use Rattle.std.proofs.Math.ListN.{drop_of_length-le}
use Rattle.std.proofs.Math.Seq.{drop-cons}
use Rattle.std.proofs.lemmas.List.{append-nil, append_assoc, length-append}
use Rattle.region_tree.specs.declared.tree.OpNumber.{OpNumber}
use Rattle.board_terms.specs.declared.operation.Ending.{Ending}
use Rattle.board_terms.specs.declared.operation.Said.{Said}
use Rattle.board_terms.specs.Outcomes.{Told, nothing_told, says_first, stop_of, told_at, told_then, woven}
use Rattle.board_terms.specs.States.{State, operation_at}
use Rattle.board_outcomes.specs.Tellings.{said_before, said_behind, said_whole, told_among}

first_then : (a b : List ℕ) (t : Told) → says_first a (says_first b t) ≡ says_first (a ++ b) t
first_then a b t = ap (λ (text : List ℕ). record t { text = text }) (sym (append_assoc a b t.text))

-- ---- pieces

pub next_child : (child : ℕ → Told) (i : ℕ) (ps : List Said) (c : OpNumber) (cs : List OpNumber) (last : Told) →
    woven child i ps (c ∷ cs) last
    ≡ says_first (said_before i ps) (told_then (child c.0) (woven child (suc i) (said_behind i ps) cs last))
next_child child i [] c cs last = refl
next_child child i (p ∷ ps) c cs last = by_case (p.children == i) (next_child child i ps c cs last)
  where
    by_case : (b : Bool) → woven child i ps (c ∷ cs) last
        ≡ says_first (said_before i ps) (told_then (child c.0) (woven child (suc i) (said_behind i ps) cs last)) →
        cond b (says_first p.text (woven child i ps (c ∷ cs) last)) (told_then (child c.0) (woven child (suc i) (p ∷ ps) cs last))
        ≡ says_first (cond b (p.text ++ said_before i ps) [])
        (told_then (child c.0) (woven child (suc i) (cond b (said_behind i ps) (p ∷ ps)) cs last))
    by_case true rest = ap (says_first p.text) rest
        ∙ first_then p.text (said_before i ps) (told_then (child c.0) (woven child (suc i) (said_behind i ps) cs last))
    by_case false rest = refl

pub no_child : (child : ℕ → Told) (i : ℕ) (ps : List Said) (last : Told) → woven child i ps [] last ≡ says_first (said_whole ps) last
no_child child i [] last = refl
no_child child i (p ∷ ps) last = ap (says_first p.text) (no_child child i ps last) ∙ first_then p.text (said_whole ps) last

-- behind a child that stopped nothing is told, and else what follows
pub stops_there : (t rest : Told) (e : Ending) → t.stop ≡ Some e → told_then t rest ≡ t
stops_there t rest e h = ap (λ (o : Option Ending). elim o [ None ↦ says_first t.text rest | Some x ↦ t ]) h

pub goes_on : (t rest : Told) → t.stop ≡ None → told_then t rest ≡ says_first t.text rest
goes_on t rest h = ap (λ (o : Option Ending). elim o [ None ↦ says_first t.text rest | Some x ↦ t ]) h

-- ---- by the list of operations

pub told_by_list : (n : ℕ) (s : State) (k : ℕ) → told_at n s k ≡ told_among n s.operations k
told_by_list zero s k = refl
told_by_list (suc n) s k =
    let o = operation_at s k in
    ap (λ (child : ℕ → Told). woven child 0 o.said o.children (nothing_told (stop_of o.activity))) (fun_ext (told_by_list n s))

-- ---- one child after the other

child_first : (t rest : Told) → length t.text ≤ length (told_then t rest).text
child_first t rest = by t.text t.stop
  where
    by : (text : List ℕ) (o : Option Ending) → length text ≤ length (told_then (record { text = text; stop = o }) rest).text
    by text None = omega (arith, length-append text rest.text)
    by text (Some e) = omega arith

module _ (child : ℕ → Told) (place : ℕ) (said : List Said) (children : List OpNumber) (d : OpNumber) (last w : Told) (text before : List ℕ)
    (there : place < length children) (whole : says_first text (woven child place said (drop place children) last) ≡ says_first before w) where
  abbrev this : Told
  this = child (get_or children place d).0

  abbrev others : Told
  others = woven child (place + 1) (said_behind place said) (drop (place + 1) children) last

  abbrev written : List ℕ
  written = text ++ said_before place said

  all : says_first written (told_then this others) ≡ says_first before w
  all =
      let next : suc place ≡ place + 1 = omega arith in
      sym (first_then text (said_before place said) (told_then this others))
      ∙ ap (λ (n : ℕ). says_first text (says_first (said_before place said) (told_then this (woven child n (said_behind place said) (drop n children) last)))) (sym next)
      ∙ ap (says_first text) (sym (next_child child place said (get_or children place d) (drop (suc place) children) last))
      ∙ ap (λ (cs : List OpNumber). says_first text (woven child place said cs last)) (sym (drop-cons children place d there))
      ∙ whole

  long : length text + length (said_before place said) + length (told_then this others).text ≡ length before + length w.text
  long =
      let same : length (written ++ (told_then this others).text) ≡ length (before ++ w.text) = ap (λ (t : Told). length t.text) all in
      omega (arith, same, length-append written (told_then this others).text, length-append text (said_before place said), length-append before w.text)

  pub room_to_say : (cap : ℕ) → length before + length w.text ≤ cap → length text + length (said_before place said) ≤ cap
  room_to_say cap b = omega (arith, b, long)

  pub room_for_child : (cap : ℕ) → length before + length w.text ≤ cap → length text + length (said_before place said) + length this.text ≤ cap
  room_for_child cap b = omega (arith, b, long, child_first this others)

  pub stopped : (r : Option Ending) → r ≡ this.stop → is_some r ≡ true → (written ++ this.text ≡ before ++ w.text) × (r ≡ w.stop)
  stopped None h i = absurd (false≢true i)
  stopped (Some e) h i =
      let same : says_first written this ≡ says_first before w = ap (says_first written) (sym (stops_there this others e (sym h))) ∙ all in (
        ap (λ (t : Told). t.text) same,
        h ∙ ap (λ (t : Told). t.stop) same,
      )

  pub went_on : (r : Option Ending) → r ≡ this.stop → is_some r ≡ false → says_first (written ++ this.text) others ≡ says_first before w
  went_on None h i = sym (first_then written this.text others) ∙ ap (says_first written) (sym (goes_on this others (sym h))) ∙ all
  went_on (Some e) h i = absurd (false≢true (sym i))

-- ---- behind all children

module _ (child : ℕ → Told) (place : ℕ) (said : List Said) (children : List OpNumber) (stop : Option Ending) (w : Told) (text before : List ℕ)
    (past : length children ≤ place) (whole : says_first text (woven child place said (drop place children) (nothing_told stop)) ≡ says_first before w) where
  at_last : says_first (text ++ said_whole said) (nothing_told stop) ≡ says_first before w
  at_last =
      sym (first_then text (said_whole said) (nothing_told stop))
      ∙ ap (says_first text) (sym (no_child child place said (nothing_told stop)))
      ∙ ap (λ (cs : List OpNumber). says_first text (woven child place said cs (nothing_told stop))) (sym (drop_of_length-le children past))
      ∙ whole

  pub told_text : text ++ said_whole said ≡ before ++ w.text
  told_text = sym (append-nil (text ++ said_whole said)) ∙ ap (λ (t : Told). t.text) at_last

  pub told_stop : stop ≡ w.stop
  told_stop = ap (λ (t : Told). t.stop) at_last

  pub room_at_last : (cap : ℕ) → length before + length w.text ≤ cap → length text + length (said_whole said) ≤ cap
  room_at_last cap b = omega (arith, b, ap length told_text, length-append text (said_whole said), length-append before w.text)
