-- The touches of valid code are covered.
use Rattle.std.proofs.Common.{◌≡◌, inl, inr, ℕ, zero, suc, ◌≤◌, ◌^◌, List, [], ◌∷◌, ◌++◌, false, Option, Some, None, refl, sym, subst}
use Rattle.std.specs.Prelude.{length}
use Rattle.lane_kernels.specs.declared.numbers.Mode.{Mode}
use Rattle.lane_kernels.specs.declared.numbers.Mode.TheVariants as mode
use Rattle.lane_kernels.specs.declared.numbers.Width.{Width}
use Rattle.regent_tree.specs.declared.expression.Arithmetic.{Arithmetic}
use Rattle.regent_tree.specs.declared.expression.Arithmetic.TheVariants as arithmetic
use Rattle.regent_tree.specs.declared.expression.Comparison.{Comparison}
use Rattle.regent_tree.specs.declared.expression.Comparison.TheVariants as comparison
use Rattle.regent_tree.specs.Store.{Touch, touch_all}
use Rattle.regent_tree.specs.Values.{target_kept}
use Rattle.task_code.specs.declared.code.Line.{Line}
use Rattle.task_code.specs.declared.code.TaskCode.{TaskCode}
use Rattle.task_code.specs.declared.instr.Instr.{Instr}
use Rattle.machine_terms.specs.declared.outcome.Yield.{Yield}
use Rattle.machine_terms.specs.declared.outcome.Yield.TheVariants as yield
use Rattle.machine_terms.specs.declared.value.Value.{Value}
use Rattle.machine_terms.specs.Jumps.{fetch}
use Rattle.machine_terms.specs.Machine.{Machine, Stepped}
use Rattle.machine_terms.specs.Pointers.{Aimed, region_slot}
use Rattle.machine_terms.specs.Segments.{step}
use Rattle.machine_terms.specs.Touches.{touch_of, touch_through, touch_region, touched_by, touched_at, made_in, touches_after, run_touches}
use Rattle.code_rules.specs.Instructions.{computing, comparing}
use Rattle.fit_rules.specs.Shapes.{Among, Each, Shape, pointer, World, is_number, Are, are_more}
use Rattle.fit_rules.specs.Fits.{Program, Covers, Fits}
use Rattle.fit_rules.specs.Sound.{Allowed, Through, Effect, does_num, does_load, does_load_as, does_drop, does_compute, does_compare, does_pointers_equal, does_pointers_differ, does_negate, does_wrap, does_invert, does_point, does_is_null, does_assert, does_move, does_element, does_read, does_write, does_reduce, does_fill, does_cast, does_cast_pointer, does_space, does_colors, does_child, does_print, Sound, straight, colours, colours_by, colours_point, takes_child, awaits, stored, jumps, jumps_if_not, jumps_and, jumps_or, counts_numbers, counts_points, makes_root, makes_equal, makes_by_field, makes_minus, makes_meet, makes_join, makes_image, makes_preimage, makes_call, makes_launch, takes_turn, returns, returns_value, Valid}
use Rattle.fit_rules.specs.Ends.{Safe, safe_goes, safe_prints, safe_stops}
use Rattle.fit_laws.proofs.Held.{over}
use Rattle.fit_laws.proofs.Access.{AimedWell, aims_well, fails_well, aim_well, region_at}
use Rattle.fit_laws.proofs.Fills.{points_had}
use Rattle.fit_laws.proofs.Steps.{step_safe}

no_touch_computing : (o : Arithmetic) (w : Width) (m : Machine) → touched_by (computing o w) m ≡ []
no_touch_computing arithmetic.Add w m = refl
no_touch_computing arithmetic.Subtract w m = refl
no_touch_computing arithmetic.Multiply w m = refl
no_touch_computing arithmetic.Divide w m = refl
no_touch_computing arithmetic.Remainder w m = refl

no_touch_comparing : (c : Comparison) (m : Machine) → touched_by (comparing c false) m ≡ []
no_touch_comparing comparison.Equal m = refl
no_touch_comparing comparison.NotEqual m = refl
no_touch_comparing comparison.Less m = refl
no_touch_comparing comparison.AtMost m = refl
no_touch_comparing comparison.Greater m = refl
no_touch_comparing comparison.AtLeast m = refl

both : {A : Type 0} (P : A → Type 0) (xs ys : List A) → Each P xs → Each P ys → Each P (xs ++ ys)
both P [] ys a b = b
both P (x ∷ xs) ys a b = (a.0, both P xs ys a.1 b)

module _ (g : Program) (x : World) (t : TaskCode) (k : ℕ) where
  -- a touch is covered by what the task declares, or of a root that it made
  abbrev pub IsCovered : Touch → Type 0
  IsCovered u = Covers g x t u.root u.field u.point u.access

  abbrev pub AreCovered : List Touch → Type 0
  AreCovered us = Each IsCovered us

  all_covered : (root f : ℕ) (a : Mode) (xs : List ℕ) → ((p : ℕ) → Among xs p → Covers g x t root f p a) →
      AreCovered (touch_all root f a xs)
  all_covered root f a [] h = tt
  all_covered root f a (p ∷ xs) h = (h p (inl refl), all_covered root f a xs (λ q l. h q (inr l)))

  module _ (m : Machine) (fit : Fits g x t k m) where
    of_aim : (sp f : ℕ) (a : Mode) (o : Aimed) → AimedWell g x t k m fit sp f a o → AreCovered (touch_of a f o)
    of_aim sp f a _ (aims_well root p c e) = (c, tt)
    of_aim sp f a _ (fails_well y) = tt

    through : (sp f : ℕ) (a : Mode) (n : ℕ) (rs : List ℕ) (ss : List Shape) (st : List Value) →
        Through g t (g.marks k m.frame.pc) sp f a n rs → Are (over g x k m) (pointer n ∷ ss) st →
        AreCovered (touch_through a rs f m st)
    through sp f a n rs ss _ r (are_more _ _ _ st (is_number _ z i) b) =
        of_aim sp f a _ (aim_well g x t k m fit sp f a n rs (target_kept z) r i.1)

    of_region : (sp f : ℕ) (a : Mode) (s : ℕ) → Allowed g t (g.marks k m.frame.pc) sp f a s →
        AreCovered (touch_region a f (region_slot m s))
    of_region sp f a s h =
        let r = region_at g x t k m fit (Some sp) h.origin s h.shape in
        subst (λ o. AreCovered (touch_region a f o)) (sym r.there)
        (all_covered r.region_there.root.0 f a r.region_there.points
        (λ p l. h.covers x _ _ fit.suits r.region_there r.there p (points_had r.region_there.points p l)))

    of_effect : (i : Instr) (ss us : List Shape) → Effect g t (g.marks k m.frame.pc) i ss us →
        Are (over g x k m) ss m.frame.stack → AreCovered (touched_by i m)
    of_effect _ _ _ (does_num z s ss h) a = tt
    of_effect _ _ _ (does_load i s ss e l p) a = tt
    of_effect _ _ _ (does_load_as i b s ss e l h) a = tt
    of_effect _ _ _ (does_drop s ss) a = tt
    of_effect _ _ _ (does_compute o w c d ss nc nd) a = subst AreCovered (sym (no_touch_computing o w m)) tt
    of_effect _ _ _ (does_compare o c d ss nc nd) a = subst AreCovered (sym (no_touch_comparing o m)) tt
    of_effect _ _ _ (does_pointers_equal c d ss nc nd) a = tt
    of_effect _ _ _ (does_pointers_differ c d ss nc nd) a = tt
    of_effect _ _ _ (does_negate w c ss n) a = tt
    of_effect _ _ _ (does_wrap w c ss n) a = tt
    of_effect _ _ _ (does_invert c ss n) a = tt
    of_effect _ _ _ (does_point c ss n) a = tt
    of_effect _ _ _ (does_is_null c ss n) a = tt
    of_effect _ _ _ (does_assert c ss n) a = tt
    of_effect _ _ _ (does_move js n l ss h e s) a = tt
    of_effect _ _ _ (does_element i sp c ss h n) a = tt
    of_effect _ _ _ (does_read rs f sp n ss r) a = through sp f mode.Read n rs ss m.frame.stack r a
    of_effect _ _ _ (does_write rs f sp n ss r) a = through sp f mode.Write n rs _ m.frame.stack r a
    of_effect _ _ _ (does_reduce rs f sp n o w s ss e ns r) a = through sp f (mode.Reduce o) n rs _ m.frame.stack r a
    of_effect _ _ _ (does_fill i f sp ss h) a = of_region sp f mode.Write i h
    of_effect _ _ _ (does_cast rs sp c ss n h l) a = tt
    of_effect _ _ _ (does_cast_pointer rs sp c ss n h l) a = tt
    of_effect _ _ _ (does_space c ss n) a = tt
    of_effect _ _ _ (does_colors i sp ss h) a = tt
    of_effect _ _ _ (does_child i sp c ss h n) a = tt
    of_effect _ _ _ (does_print ps ss args rest h n e) a = tt

    of_sound : (i : Instr) → Sound g t k m.frame.pc i → AreCovered (touched_by i m)
    of_sound _ (straight i ss e to) = of_effect i _ ss e fit.suits.stack
    of_sound _ (colours z s h to) = tt
    of_sound _ (colours_by i s e n to) = tt
    of_sound _ (colours_point i a ss e n q to) = tt
    of_sound _ (takes_child i sp a ss c e n h q to) = tt
    of_sound _ (awaits i s e n h to) = tt
    of_sound _ (stored s a ss e l to) = tt
    of_sound _ (jumps to e h) = tt
    of_sound _ (jumps_if_not to a ss e n j h i) = tt
    of_sound _ (jumps_and to a ss e n j h i) = tt
    of_sound _ (jumps_or to a ss e n j h i) = tt
    of_sound _ (counts_numbers c l v to a b ea na eb nb hv ht h hs r) = tt
    of_sound _ (counts_points s c v ptr to q hv ht h hs r) = tt
    of_sound _ (makes_root sp i c ss e h l os oss to) = tt
    of_sound _ (makes_equal s sp ss e h to) = tt
    of_sound _ (makes_by_field s f sp ss e h to) = of_region sp f mode.Read s h
    of_sound _ (makes_minus p q s sp sq so hp hq hs f to) = tt
    of_sound _ (makes_meet p q s sp sq so hp hq hs f to) = tt
    of_sound _ (makes_join p q s sp sq so hp hq hs f h to) = tt
    of_sound _ (makes_image s p r f sp sq so hs hp h q to) = of_region sp f mode.Read r h
    of_sound _ (makes_preimage s p r f sp sq so hs hp h q to) = of_region sp f mode.Read r h
    of_sound _ (makes_call task n callee args rest e p l tk o to) = tt
    of_sound _ (makes_launch task s call_line args callee e p l es h o to) = tt
    of_sound _ (takes_turn to) = tt
    of_sound _ returns = tt
    of_sound _ (returns_value a ss e n h) = tt

    -- the touches of the instruction at the machine's place
    pub step_covered : Valid g t k → AreCovered (touched_at (fetch t.body m.frame.pc) m)
    step_covered valid = at_line (fetch t.body m.frame.pc) refl
      where
        at_line : (o : Option Line) → fetch t.body m.frame.pc ≡ o → AreCovered (touched_at o m)
        at_line None e = tt
        at_line (Some l) e = of_sound l.instr (valid m.frame.pc l e)

  pub made_covered : (y : Yield) (us : List Touch) → AreCovered us → AreCovered (made_in y us)
  made_covered (yield.Calls cs) us h = tt
  made_covered (yield.Want r f) us h = tt
  made_covered (yield.Await i) us h = tt
  made_covered (yield.Make o) us h = h
  made_covered (yield.End v) us h = tt
  made_covered (yield.Fault f) us h = tt
  made_covered yield.MachineFault us h = tt

  after_covered : (s : Stepped) (us : List Touch) (more : Machine → List Touch) → Safe g x t k s → AreCovered us →
      ((n : Machine) → Fits g x t k n → AreCovered (more n)) → AreCovered (touches_after s us more)
  after_covered _ us more (safe_goes n f) h k = both IsCovered us (more n) h (k n f)
  after_covered _ us more (safe_prints text n f) h k = both IsCovered us (more n) h (k n f)
  after_covered _ us more (safe_stops y n f) h k = made_covered y us h

  -- those of any number of steps
  pub run_covered : length t.body ≤ 2 ^ 32 → Valid g t k → (n : ℕ) (m : Machine) →
      Fits g x t k m → AreCovered (run_touches g.code t.body n m)
  run_covered short valid zero m fit = tt
  run_covered short valid (suc n) m fit = after_covered (step g.code t.body m) _ _
      (step_safe g x t k m fit short valid) (step_covered m fit valid)
      (λ r f. run_covered short valid n r f)
