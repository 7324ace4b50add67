-- Each mark of a piece has as many slots as the first.
use Rattle.std.proofs.Common.{◌≡◌, ℕ, List, [], ◌∷◌, ◌++◌, refl, ◌∙◌}
use Rattle.std.specs.Prelude.{length}
use Rattle.task_code.specs.declared.code.TaskCode.{TaskCode}
use Rattle.task_code.specs.declared.instr.Instr.{Instr}
use Rattle.code_rules.specs.Pieces.{Piece}
use Rattle.fit_rules.specs.Shapes.{Each}
use Rattle.fit_rules.specs.Marks.{Mark, stacked}
use Rattle.fit_rules.specs.Fits.{Program}
use Rattle.marked_code.specs.Marked.{Leads, leads_on, leads_storing, leads_nowhere, leads_back, leads_coloured, leads_loaded, leads_pointed, leads_child, leads_launching, leads_calling, leads_waiting, leads_making, leads_cutting, leads_colouring, leads_minus, leads_meet, leads_join, leads_image, leads_preimage, Typed, typed_empty, typed_op, typed_both, typed_into, typed_from, typed_and, typed_or, typed_if, typed_branch, typed_loop, typed_rounds, typed_points}

module _ (g : Program) (t : TaskCode) (k : ℕ) where
  long_both : (n : ℕ) (ms ns : List Mark) → Each (λ y. length y.slots ≡ n) ms → Each (λ y. length y.slots ≡ n) ns →
      Each (λ y. length y.slots ≡ n) (ms ++ ns)
  long_both n [] ns a b = b
  long_both n (m ∷ ms) ns a b = (a.0, long_both n ms ns a.1 b)

  -- each mark of a piece has as many slots as the first
  pub record Long (n : ℕ) (ms : List Mark) (m : Mark) : Type 0 where
    pub each : Each (λ y. length y.slots ≡ n) ms
    pub last : length m.slots ≡ n

  led_long : (m n : Mark) (i : Instr) → Leads g t k m i n → length n.slots ≡ length m.slots
  led_long _ _ _ (leads_on m i us e) = refl
  led_long _ _ _ (leads_storing m n s a ss e l h lg) = lg
  led_long _ _ _ (leads_nowhere m n lg) = lg
  led_long _ _ _ (leads_back m n a ss e q h lg) = lg
  led_long _ _ _ (leads_coloured m z s h) = refl
  led_long _ _ _ (leads_loaded m i s e h) = refl
  led_long _ _ _ (leads_pointed m i a ss e n q) = refl
  led_long _ _ _ (leads_child m i sp a ss c e n h q) = refl
  led_long _ _ _ (leads_launching m task s line args callee e p b es h o) = refl
  led_long _ _ _ (leads_calling m task n callee args rest e p b tk o) = refl
  led_long _ _ _ (leads_waiting m i s e n h) = refl
  led_long _ _ _ (leads_making m sp i c ss e q l os oss) = refl
  led_long _ _ _ (leads_cutting m s sp ss e h) = refl
  led_long _ _ _ (leads_colouring m s f sp ss e h) = refl
  led_long _ _ _ (leads_minus m p q s sp sq so d hp hq hs f) = refl
  led_long _ _ _ (leads_meet m p q s sp sq so d e hp hq hs f) = refl
  led_long _ _ _ (leads_join m p q s sp sq so hp hq hs f h) = refl
  led_long _ _ _ (leads_image m s p r f sp sq so hs hp h k) = refl
  led_long _ _ _ (leads_preimage m s p r f sp sq so d hs hp h k) = refl

  pub long_marks : (c : ℕ) (m : Mark) (p : Piece) (ms : List Mark) (n : Mark) → Typed g t k m p ms n →
      length m.slots ≡ c → Long c ms n
  long_marks c _ _ _ _ (typed_empty m) e = record { each = tt; last = e }
  long_marks c _ _ _ _ (typed_op m n i line l) e = record { each = (e, tt); last = led_long m n i l ∙ e }
  long_marks c _ _ _ _ (typed_both m n o a b ms ns f h) e =
      let one = long_marks c m a ms n f e in
      let two = long_marks c n b ns o h one.last in
      record { each = long_both c ms ns one.each two.each; last = two.last }
  long_marks c _ _ _ _ (typed_into m n o a ms f i lg) e =
      let one = long_marks c m a ms n f e in record { each = one.each; last = lg ∙ one.last }
  long_marks c _ _ _ _ (typed_from l m n a ms i f lg) e = long_marks c m a ms n f (lg ∙ e)
  long_marks c _ _ _ _ (typed_and m a ss line p ms q n f) e =
      record { each = (e, (long_marks c _ p ms _ f e).each); last = e }
  long_marks c _ _ _ _ (typed_or m a ss line p ms q n f) e =
      record { each = (e, (long_marks c _ p ms _ f e).each); last = e }
  long_marks c _ _ _ _ (typed_if m a ss line p ms q n f) e =
      record { each = (e, (long_marks c _ p ms _ f e).each); last = e }
  long_marks c _ _ _ _ (typed_branch m n a ss line p q ms ns y nm f h) e =
      let one = long_marks c _ p ms n f e in
      let two = long_marks c _ q ns _ h e in
      record { each = (e, long_both c ms (n ∷ ns) one.each (one.last, two.each)); last = one.last }
  long_marks c _ _ _ _ (typed_loop m n a line test body ms ns f h y nm i) e =
      let one = long_marks c _ body ms _ f e in
      let two = long_marks c _ test ns n h e in
      record {
        each = (
          e,
          (
            e,
            long_both c ms (ns ++ n ∷ stacked m m.stack ∷ []) one.each
                (long_both c ns (n ∷ stacked m m.stack ∷ []) two.each (two.last, (e, tt))),
          ),
        );
        last = e;
      }
  long_marks c _ _ _ _ (typed_rounds m n q l v a b line body ms ec nc el nl hv r lg f) e =
      let one = long_marks c n body ms _ f (lg ∙ e) in
      record { each = (e, long_both c ms (stacked m m.stack ∷ []) one.each (e, tt)); last = e }
  long_marks c _ _ _ _ (typed_points m n s q v ptr line body ms ef hv r lg f) e =
      let one = long_marks c n body ms _ f (lg ∙ e) in
      record { each = (e, long_both c ms (stacked m m.stack ∷ []) one.each (e, tt)); last = e }
