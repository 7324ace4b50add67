-- The example's code is sound.
use Rattle.std.proofs.Common.{◌≡◌, inl, inr, ℕ, zero, suc, ◌+◌, ◌<◌, ◌^◌, pos, List, [], ◌∷◌, true, false, Bool, Some, None, refl, subst, arith}
use Rattle.std.specs.Int.{int_wrap}
use Rattle.std.specs.Prelude.{slice_get, length, get_or, nat_lt}
use Rattle.std.proofs.lemmas.Int.{ints}
use Rattle.std.proofs.lemmas.Option.{none-some, same_Some}
use Rattle.lane_kernels.specs.declared.numbers.Mode.{Mode}
use Rattle.lane_kernels.specs.declared.numbers.Mode.TheVariants.{Read, Write}
use Rattle.lane_kernels.specs.declared.numbers.Width.TheVariants.{W32}
use Rattle.regent_tree.specs.declared.expression.Arithmetic.TheVariants.{Add}
use Rattle.task_code.specs.declared.code.Line.{Line}
use Rattle.task_code.specs.declared.instr.Instr.{Instr}
use Rattle.machine_terms.specs.Jumps.{fetch}
use Rattle.fit_rules.specs.Example.{program, task, body, known, mark, marks, later}
use Rattle.fit_rules.specs.Shapes.{IsPlain, Each, Shape, anything, integer, index, pointer, region, numeric_integer, numeric_index, numeric_pointer, argument, own_as}
use Rattle.fit_rules.specs.Marks.{Mark, Stores}
use Rattle.fit_rules.specs.Sound.{Through, settled_number, does_num, does_load, does_compute, does_element, does_read, does_write, does_space, Sound, straight, stored, makes_root, returns}
use Rattle.fit_laws.specs.Example.{ExampleIsSound, ExampleEnds}
use Rattle.fit_laws.proofs.Allowing.{Under, allowed_under}
use Rattle.fit_laws.proofs.Keeping.{OfSlots, set_each, stores_behind}

-- ---- lines

abbrev pub EachAt : (ℕ → Instr → Type 0) → ℕ → List Line → Type 0
EachAt P pc [] = Unit {0}
EachAt P pc (l ∷ ls) = P pc l.instr × EachAt P (suc pc) ls

at_place : (P : ℕ → Instr → Type 0) (ls : List Line) (first i : ℕ) (l : Line) → EachAt P first ls → slice_get ls i ≡ Some l →
    P (first + i) l.instr
at_place P [] first i l h e = absurd (none-some l e)
at_place P (m ∷ ls) first zero l h e =
    let same : first ≡ first + 0 = omega arith in
    subst (λ pc. P pc l.instr) same (subst (λ (y : Line). P first y.instr) (same_Some m l e) h.0)
at_place P (m ∷ ls) first (suc i) l h e =
    let same : suc first + i ≡ first + suc i = omega arith in
    subst (λ pc. P pc l.instr) same (at_place P ls (suc first) i l h.1 e)

pub fetched : (P : ℕ → Instr → Type 0) (ls : List Line) → EachAt P 0 ls → (pc : ℕ) (l : Line) → fetch ls pc ≡ Some l → P pc l.instr
fetched P ls h pc l e = of_test (nat_lt pc (2 ^ 32)) e
  where
    of_test : (b : Bool) → elim b [ true ↦ slice_get ls pc | false ↦ None ] ≡ Some l → P pc l.instr
    of_test true e =
        let same : 0 + pc ≡ pc = omega arith in subst (λ q. P q l.instr) same (at_place P ls 0 pc l h e)
    of_test false e = absurd (none-some l e)

-- ---- marks

five : (ms : List Mark) (pc : ℕ) → Each (λ m. length m.slots ≡ 5) ms → length (get_or ms pc (later [])).slots ≡ 5
five [] pc h = refl
five (m ∷ ms) zero h = h.0
five (m ∷ ms) (suc pc) h = five ms pc h.1

-- what is known of the first three slots is so whatever stands behind them
known_before : (s : ℕ) → 2 < s → Each (OfSlots (λ i. s ≡ i → ⊥)) known
known_before s l = ((λ e. omega (arith, e, l), λ e. omega (arith, e, l)), ((λ e. omega (arith, e, l), λ e. omega (arith, e, l)), tt))

-- the fourth of five slots is another one, or the fifth
stores_fourth : (element : Shape) (s : Shape) → IsPlain s → Stores 3 (mark anything element (s ∷ [])) 3 (mark s element [])
stores_fourth element s p = stores_behind 3 (mark anything element (s ∷ [])) 3 s s [] refl (omega arith) (omega arith) p
    (λ vs v h. set_each vs 3 v known (known_before 3 (omega arith)) h) (λ x v h. h)

stores_fifth : (own : Shape) (s : Shape) → IsPlain s → Stores 3 (mark own anything (s ∷ [])) 4 (mark own s [])
stores_fifth own s p = stores_behind 3 (mark own anything (s ∷ [])) 4 s s [] refl (omega arith) (omega arith) p
    (λ vs v h. set_each vs 4 v known (known_before 4 (omega arith)) h) (λ x v h. h)

-- ---- accesses

-- through the second region, by the need on the first
reads_there : (m : List Shape) → Under task (later m) 1 0 Read
reads_there m = record {
  need = record { param = 0; field = 0; mode = Read };
  among = inl refl;
  its_field = refl;
  its_mode = refl;
  param = omega arith;
  fact = inl refl;
}

writes_there : (m : List Shape) → Under task (later m) 1 0 Write
writes_there m = record {
  need = record { param = 0; field = 0; mode = Write };
  among = inr (inl refl);
  its_field = refl;
  its_mode = refl;
  param = omega arith;
  fact = inl refl;
}

through : (m : List Shape) (a : Mode) → Under task (later m) 1 0 a → Through program task (later m) 0 0 a 1 (1 ∷ [])
through m a u = (omega arith, (allowed_under program task (later m) 0 0 1 a (argument 1) refl u, tt))

-- ---- the code

pub example_is_sound : ExampleIsSound
example_is_sound = record {
  there = refl;
  short = omega arith;
  valid = fetched (Sound program task 0) body (
    straight _ _ (does_num (pos 2) index [] (omega (arith, ints))) (omega arith, λ x vs st s. s),
    (
      straight _ _ (does_space index [] numeric_index) (omega arith, λ x vs st s. s),
      (
        makes_root 0 3 _ [] refl refl (omega arith) (tt, (tt, (tt, (tt, (tt, tt))))) tt (omega arith, λ x vs st s. s),
        (
          stored 3 _ [] refl (omega arith) (omega arith, stores_fourth anything (region (Some 0) (own_as 3)) tt),
          (
            straight _ _ (does_num (pos 1) index [] (omega (arith, ints))) (omega arith, λ x vs st s. s),
            (
              straight _ _ (does_element 1 (Some 0) index [] (record { origin = argument 1; shape = refl }) numeric_index) (omega arith, λ x vs st s. s),
              (
                stored 4 _ [] refl (omega arith) (omega arith, stores_fifth (region (Some 0) (own_as 3)) (pointer 1) tt),
                (
                  straight _ _ (does_load 4 (pointer 1) [] refl (settled_number _ (numeric_pointer 1)) tt) (omega arith, λ x vs st s. s),
                  (
                    straight _ _ (does_read (1 ∷ []) 0 0 1 [] (through (pointer 1 ∷ []) Read (reads_there _))) (omega arith, λ x vs st s. s),
                    (
                      straight _ _ (does_num (pos 1) (integer W32) (integer W32 ∷ []) (omega (arith, ints))) (omega arith, λ x vs st s. s),
                      (
                        straight _ _ (does_compute Add W32 (integer W32) (integer W32) [] (numeric_integer W32) (numeric_integer W32)) (omega arith, λ x vs st s. s),
                        (
                          straight _ _ (does_load 4 (pointer 1) (integer W32 ∷ []) refl (settled_number _ (numeric_pointer 1)) tt) (omega arith, λ x vs st s. s),
                          (
                            straight _ _ (does_write (1 ∷ []) 0 0 1 [] (through (pointer 1 ∷ integer W32 ∷ []) Write (writes_there _))) (omega arith, λ x vs st s. s),
                            (returns, tt),
                          ),
                        ),
                      ),
                    ),
                  ),
                ),
              ),
            ),
          ),
        ),
      ),
    ),
  );
  slots = λ pc. five marks pc (refl, (refl, (refl, (refl, (refl, (refl, (refl, (refl, (refl, (refl, (refl, (refl, (refl, (refl, tt))))))))))))));
}

pub example_ends : ExampleEnds
unfolding int_wrap
example_ends = refl
