-- What is printed: the parts of a format's text write what the format means.
use Rattle.std.proofs.Common.{◌≡◌, ℕ, suc, ◌+◌, ℤ, List, [], ◌∷◌, ◌++◌, Bool, true, false, Option, Some, None, refl, sym, ap, ◌∙◌, arith, append_assoc, subst}
use Rattle.std.specs.Prelude.{length, map, option_map, ◌==◌}
use Rattle.std.specs.Fmt.{signed_decimal}
use Rattle.std.proofs.lemmas.Bool.{eqb-true}
use Rattle.std.proofs.lemmas.List.{append-nil, length-map}
use Rattle.std.proofs.lemmas.Option.{none-some}
use Rattle.check_rules.specs.rules.Formats as formats
use Rattle.check_rules.specs.rules.Formats.{numbers_in}
use Rattle.regent_tree.specs.Printing.{printed}
use Rattle.regent_tree.specs.Printing as printing
use Rattle.regent_tree.specs.Values.{Value, number_of}
use Rattle.task_code.specs.declared.instr.PrintPart.{PrintPart}
use Rattle.task_code.specs.declared.instr.PrintPart.TheVariants as part
use Rattle.machine_terms.specs.declared.order.Contents.{Contents}
use Rattle.machine_terms.specs.declared.value.Value.{Value as MachineValue}
use Rattle.machine_terms.specs.declared.value.Value.TheVariants as machine
use Rattle.machine_terms.specs.Calls.{before_text, count_numbers, few, take_values, taken, text_of}
use Rattle.code_rules.specs.Prints.{parts_after, parts_of, text_part}
use Rattle.code_laws.proofs.States.{ready_value}
use Rattle.code_laws.specs.Standing.{machine_value}

-- ---- values in a row on the stack, the last on top

abbrev pub pushed_all : Contents → List Value → List MachineValue → List MachineValue
pushed_all c [] st = st
pushed_all c (v ∷ vs) st = pushed_all c vs (machine_value c v ∷ st)

taken_all : (c : Contents) (vs : List Value) (k : ℕ) (st acc : List MachineValue) (n : ℕ) → n ≡ length vs + k →
    take_values n (pushed_all c vs st) acc ≡ take_values k st (map (machine_value c) vs ++ acc)
taken_all c [] k st acc n e =
    let d : n ≡ k = omega (arith, e) in ap (λ n. take_values n st acc) d
taken_all c (v ∷ vs) k st acc n e =
    taken_all c vs (suc k) (machine_value c v ∷ st) acc n (omega (arith, e))
    ∙ ap (λ b. elim b [
      | true ↦ few
      | false ↦ take_values k st (machine_value c v ∷ (map (machine_value c) vs ++ acc))
    ]) (ready_value c v)

pub takes_all : (c : Contents) (vs : List Value) (st : List MachineValue) →
    take_values (length vs) (pushed_all c vs st) [] ≡ taken (map (machine_value c) vs) st
takes_all c vs st = taken_all c vs 0 st [] (length vs) (omega arith)
    ∙ ap (λ us. taken us st) (append-nil (map (machine_value c) vs))

-- ---- the parts of a text

-- what parts write of numbers
abbrev pub written : List PrintPart → List ℤ → Option (List ℕ)
written ps zs = text_of ps (map machine.Number zs)

pub record Written (ps : List PrintPart) (zs : List ℤ) (text : List ℕ) : Type 0 where
  pub count : count_numbers ps ≡ length zs
  pub writes : written ps zs ≡ Some text

-- behind bytes
behind : (bytes : List ℕ) (ps : List PrintPart) (zs : List ℤ) (text : List ℕ) → Written ps zs text →
    Written (text_part bytes ps) zs (bytes ++ text)
behind [] ps zs text w = record { count = w.count; writes = w.writes }
behind (b ∷ bs) ps zs text w = record { count = w.count; writes = ap (before_text (b ∷ bs)) w.writes }

-- a number before the others
number_before : (ps : List PrintPart) (z : ℤ) (zs : List ℤ) (text : List ℕ) → Written ps zs text →
    Written (part.Number ∷ ps) (z ∷ zs) (signed_decimal z ++ text)
number_before ps z zs text w = record { count = ap suc w.count; writes = ap (before_text (signed_decimal z)) w.writes }

-- how many numbers come behind one
abbrev one_less : Option ℕ → ℕ
one_less (Some (suc n)) = n
one_less _ = 0

fewer : (o : Option ℕ) (n : ℕ) → option_map suc o ≡ Some (suc n) → o ≡ Some n
fewer (Some m) n e = ap (λ k. Some (one_less k)) e
fewer None n e = absurd (none-some (suc n) e)

none_fewer : (o : Option ℕ) → option_map suc o ≡ Some 0 → ⊥
none_fewer (Some m) e = absurd cc
none_fewer None e = absurd (none-some 0 e)

as_text : {ps : List PrintPart} {zs : List ℤ} (a b : List ℕ) → a ≡ b → Written ps zs a → Written ps zs b
as_text a b e w = record { count = w.count; writes = w.writes ∙ ap Some e }

-- a number that is printed, where the rest of the text is known
numbered : (so_far cs : List ℕ) (zs : List ℤ) → option_map suc (numbers_in cs) ≡ Some (length zs) →
    ((ys : List ℤ) → numbers_in cs ≡ Some (length ys) → Written (parts_of [] cs) ys (printed cs ys)) →
    Written (text_part so_far (part.Number ∷ parts_of [] cs)) zs
    (so_far ++ (printing.first_number zs ++ printed cs (printing.other_numbers zs)))
numbered so_far cs [] e rest = absurd (none_fewer (numbers_in cs) e)
numbered so_far cs (z ∷ zs) e rest = behind so_far (part.Number ∷ parts_of [] cs) (z ∷ zs) (signed_decimal z ++ printed cs zs)
    (number_before (parts_of [] cs) z zs (printed cs zs) (rest zs (fewer (numbers_in cs) (length zs) e)))

-- what is to be shown behind `%`
abbrev pub AfterPercent : List ℕ → List ℕ → List ℤ → Type 0
AfterPercent so_far cs zs = Written (parts_after so_far cs) zs (so_far ++ printing.after_percent cs zs)

-- `%ld` and `%lld`, where the rest of the text is known
abbrev pub Rest : List ℕ → Type 0
Rest cs = (ys : List ℤ) → numbers_in cs ≡ Some (length ys) → Written (parts_of [] cs) ys (printed cs ys)

d_written : (so_far : List ℕ) (c : ℕ) (cs : List ℕ) (zs : List ℤ) → Rest cs →
    elim (c == 100) [ true ↦ option_map suc (numbers_in cs) | false ↦ None ] ≡ Some (length zs) →
    AfterPercent so_far (c ∷ cs) zs
d_written so_far c cs zs rest e = chosen (c == 100) refl e
  where
    chosen : (b : Bool) → (c == 100) ≡ b → elim b [ true ↦ option_map suc (numbers_in cs) | false ↦ None ] ≡ Some (length zs) →
        AfterPercent so_far (c ∷ cs) zs
    chosen true q e = subst (λ c. AfterPercent so_far (c ∷ cs) zs) (sym (eqb-true c 100 q)) (numbered so_far cs zs e rest)
    chosen false q e = absurd (none-some (length zs) e)

mutual
  pub writes_format : (so_far cs : List ℕ) (zs : List ℤ) → numbers_in cs ≡ Some (length zs) →
      Written (parts_of so_far cs) zs (so_far ++ printed cs zs)
  writes_format so_far [] [] e = behind so_far [] [] [] (record { count = refl; writes = refl })
  writes_format so_far [] (z ∷ zs) e = absurd cc
  writes_format so_far (c ∷ cs) zs e = chosen (c == 37) e (λ d. writes_percent so_far cs zs d)
      (λ d. writes_format (so_far ++ c ∷ []) cs zs d)
    where
      chosen : (b : Bool) → elim b [ true ↦ formats.after_percent cs | false ↦ numbers_in cs ] ≡ Some (length zs) →
          (formats.after_percent cs ≡ Some (length zs) → AfterPercent so_far cs zs) →
          (numbers_in cs ≡ Some (length zs) → Written (parts_of (so_far ++ c ∷ []) cs) zs ((so_far ++ c ∷ []) ++ printed cs zs)) →
          Written (elim b [ true ↦ parts_after so_far cs | false ↦ parts_of (so_far ++ c ∷ []) cs ]) zs
          (so_far ++ elim b [ true ↦ printing.after_percent cs zs | false ↦ c ∷ printed cs zs ])
      chosen true e this that = this e
      chosen false e this that =
          as_text ((so_far ++ c ∷ []) ++ printed cs zs) (so_far ++ c ∷ printed cs zs) (append_assoc so_far (c ∷ []) (printed cs zs)) (that e)

  -- behind `%`
  writes_percent : (so_far cs : List ℕ) (zs : List ℤ) → formats.after_percent cs ≡ Some (length zs) → AfterPercent so_far cs zs
  writes_percent so_far [] zs e = absurd (none-some (length zs) e)
  writes_percent so_far (c ∷ cs) zs e = chosen (c == 37) (c == 108) e
      (λ d. writes_format (so_far ++ 37 ∷ []) cs zs d) (λ d. writes_l so_far cs zs d) (λ ys d. writes_format [] cs ys d)
    where
      chosen : (b d : Bool) → elim b [
        | true ↦ numbers_in cs
        | false ↦ elim d [
          | true ↦ formats.after_l cs
          | false ↦ elim (c == 100) [ true ↦ option_map suc (numbers_in cs) | false ↦ None ]
        ]
      ] ≡ Some (length zs) →
          (numbers_in cs ≡ Some (length zs) → Written (parts_of (so_far ++ 37 ∷ []) cs) zs ((so_far ++ 37 ∷ []) ++ printed cs zs)) →
          (formats.after_l cs ≡ Some (length zs) → AfterPercent so_far cs zs) → Rest cs →
          Written (elim b [
            | true ↦ parts_of (so_far ++ 37 ∷ []) cs
            | false ↦ elim d [
              | true ↦ parts_after so_far cs
              | false ↦ text_part so_far (part.Number ∷ parts_of [] cs)
            ]
          ]) zs (so_far ++ elim b [
            | true ↦ 37 ∷ printed cs zs
            | false ↦ elim d [
              | true ↦ printing.after_percent cs zs
              | false ↦ printing.first_number zs ++ printed cs (printing.other_numbers zs)
            ]
          ])
      chosen true d e this that rest =
          as_text ((so_far ++ 37 ∷ []) ++ printed cs zs) (so_far ++ 37 ∷ printed cs zs) (append_assoc so_far (37 ∷ []) (printed cs zs)) (this e)
      chosen false true e this that rest = that e
      chosen false false e this that rest = by_d (c == 100) e rest
        where
          by_d : (q : Bool) → elim q [ true ↦ option_map suc (numbers_in cs) | false ↦ None ] ≡ Some (length zs) → Rest cs →
              Written (text_part so_far (part.Number ∷ parts_of [] cs)) zs
              (so_far ++ (printing.first_number zs ++ printed cs (printing.other_numbers zs)))
          by_d true e rest = numbered so_far cs zs e rest
          by_d false e rest = absurd (none-some (length zs) e)

  -- behind `%l`
  writes_l : (so_far cs : List ℕ) (zs : List ℤ) → formats.after_l cs ≡ Some (length zs) → AfterPercent so_far cs zs
  writes_l so_far [] zs e = absurd (none-some (length zs) e)
  writes_l so_far (c ∷ cs) zs e = chosen (c == 108) refl e (λ ys d. writes_format [] cs ys d) (λ d. writes_two so_far cs zs d)
    where
      chosen : (b : Bool) → (c == 108) ≡ b → elim b [
        | true ↦ formats.after_two_l cs
        | false ↦ elim (c == 100) [ true ↦ option_map suc (numbers_in cs) | false ↦ None ]
      ] ≡ Some (length zs) → Rest cs → (formats.after_two_l cs ≡ Some (length zs) → AfterPercent so_far cs zs) →
          AfterPercent so_far (c ∷ cs) zs
      chosen true q e rest two = subst (λ c. AfterPercent so_far (c ∷ cs) zs) (sym (eqb-true c 108 q)) (two e)
      chosen false q e rest two = d_written so_far c cs zs rest e

  writes_two : (so_far cs : List ℕ) (zs : List ℤ) → formats.after_two_l cs ≡ Some (length zs) → AfterPercent so_far cs zs
  writes_two so_far [] zs e = absurd (none-some (length zs) e)
  writes_two so_far (c ∷ cs) zs e = d_written so_far c cs zs (λ ys d. writes_format [] cs ys d) e

-- a format with as many numbers writes its text
pub format_written : (c : Contents) (format : List ℕ) (vs : List Value) → map (machine_value c) vs ≡ map machine.Number (map number_of vs) →
    numbers_in format ≡ Some (length vs) →
    (count_numbers (parts_of [] format) ≡ length vs)
    × (text_of (parts_of [] format) (map (machine_value c) vs) ≡ Some (printed format (map number_of vs)))
format_written c format vs same e =
    let many = length-map vs number_of in
    let w = writes_format [] format (map number_of vs) (e ∙ ap Some (sym many)) in
    (w.count ∙ many, ap (text_of (parts_of [] format)) same ∙ w.writes)
