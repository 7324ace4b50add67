-- What leads from mark to mark doesn't depend on a program's marks, so that these may be chosen when the code
-- has been looked at.
use Rattle.std.proofs.Common.{◌≡◌, ℕ, suc, List, [], ◌∷◌, ◌++◌, Some, refl, sym, ap, ◌∙◌, subst, arith, append_assoc, length-append}
use Rattle.std.specs.Prelude.{length, get_or, slice_get}
use Rattle.std.proofs.Math.Seq.{get_or-append_seam}
use Rattle.lane_kernels.specs.declared.numbers.Mode.{Mode}
use Rattle.lane_kernels.specs.declared.numbers.Mode.TheVariants as mode
use Rattle.task_code.specs.declared.code.TaskCode.{TaskCode}
use Rattle.task_code.specs.declared.instr.Instr.{Instr}
use Rattle.code_rules.specs.Pieces.{Piece}
use Rattle.fit_rules.specs.Shapes.{Each, Shape, World}
use Rattle.fit_rules.specs.Marks.{Into, Mark}
use Rattle.fit_rules.specs.Ends.{IsNeeded}
use Rattle.task_code.specs.declared.code.NeedCode.{NeedCode}
use Rattle.region_tree.specs.Requirements.{IsWithin}
use Rattle.machine_terms.specs.declared.value.Value.{Value}
use Rattle.fit_rules.specs.Fits.{declared_claims, own_claims, root_claims, Program, Covers, made_it, declares_it, reads_and_writes}
use Rattle.fit_rules.specs.Sound.{Allowed, OpensWith, Through, Effect, does_num, does_load, does_load_as, does_drop, does_compute, does_compare, does_pointers_equal, does_pointers_differ, does_negate, does_wrap, does_invert, does_point, does_is_null, does_assert, does_move, does_element, does_read, does_write, does_reduce, does_fill, does_cast, does_cast_pointer, does_space, does_colors, does_child, does_print}
use Rattle.marked_code.specs.Marked.{Leads, leads_on, leads_storing, leads_nowhere, leads_back, leads_coloured, leads_loaded, leads_pointed, leads_child, leads_launching, leads_calling, leads_waiting, leads_making, leads_cutting, leads_colouring, leads_minus, leads_meet, leads_join, leads_image, leads_preimage, Typed, typed_empty, typed_op, typed_both, typed_into, typed_from, typed_and, typed_or, typed_if, typed_branch, typed_loop, typed_rounds, typed_points}
use Rattle.marked_code.specs.Bodies.{MarksAt}

-- the marks of a list are those of the places from the front
pub marks_listed : (g : Program) (t : TaskCode) (k : ℕ) (d : Mark) (pre ms : List Mark) →
    ((pc : ℕ) → g.marks k pc ≡ get_or (pre ++ ms) pc d) → MarksAt g k (length pre) ms
marks_listed g t k d pre [] h = tt
marks_listed g t k d pre (m ∷ ms) h =
    let n : length (pre ++ m ∷ []) ≡ suc (length pre) = omega (arith, length-append pre (m ∷ [])) in (
      h (length pre) ∙ get_or-append_seam pre m ms d,
      subst (λ y. MarksAt g k y ms) n (marks_listed g t k d (pre ++ m ∷ []) ms
          (λ pc. h pc ∙ ap (λ l. get_or l pc d) (sym (append_assoc pre (m ∷ []) ms)))),
    )

-- the program with other marks
abbrev pub remarked : Program → (ℕ → ℕ → Mark) → Program
remarked g ms = record g { marks = ms }

-- what a frame of a task may begin with suits its new first mark
abbrev pub Begins : Program → (ℕ → ℕ → Mark) → Type 0
Begins g ms = (task : ℕ) (callee : TaskCode) → slice_get g.code.tasks task ≡ Some callee →
    Into callee.params (g.begins task) (ms task 0)

covers_remarked : (g : Program) (x : World) (t : TaskCode) (ms : ℕ → ℕ → Mark) (root f p : ℕ) (a : Mode) →
    Covers g x t root f p a → Covers (remarked g ms) x t root f p a
covers_remarked g x t ms root f p _ (made_it a h e l) = made_it a h e l
covers_remarked g x t ms root f p _ (declares_it a h) = declares_it a h
covers_remarked g x t ms root f p _ (reads_and_writes o r w) = reads_and_writes o r w

allowed_remarked : (g : Program) (t : TaskCode) (ms : ℕ → ℕ → Mark) (m : Mark) (sp f : ℕ) (a : Mode) (s : ℕ) →
    Allowed g t m sp f a s → Allowed (remarked g ms) t m sp f a s
allowed_remarked g t ms m sp f a s h = record {
  origin = h.origin;
  shape = h.shape;
  covers = λ x vs st q r e p i. covers_remarked g x t ms r.root.0 f p a (h.covers x vs st q r e p i);
}

each_remarked : (g : Program) (t : TaskCode) (ms : ℕ → ℕ → Mark) (m : Mark) (sp f : ℕ) (a : Mode) (rs : List ℕ) →
    Each (Allowed g t m sp f a) rs → Each (Allowed (remarked g ms) t m sp f a) rs
each_remarked g t ms m sp f a [] h = tt
each_remarked g t ms m sp f a (s ∷ rs) h =
    (allowed_remarked g t ms m sp f a s h.0, each_remarked g t ms m sp f a rs h.1)

through_remarked : (g : Program) (t : TaskCode) (ms : ℕ → ℕ → Mark) (m : Mark) (sp f : ℕ) (a : Mode) (n : ℕ) (rs : List ℕ) →
    Through g t m sp f a n rs → Through (remarked g ms) t m sp f a n rs
through_remarked g t ms m sp f a n rs h = (h.0, each_remarked g t ms m sp f a rs h.1)

effect_remarked : (g : Program) (t : TaskCode) (ms : ℕ → ℕ → Mark) (m : Mark) (i : Instr) (ss us : List Shape) →
    Effect g t m i ss us → Effect (remarked g ms) t m i ss us
effect_remarked g t ms m _ _ _ (does_num z s ss h3) = does_num z s ss h3
effect_remarked g t ms m _ _ _ (does_load i s ss h3 h4 h5) = does_load i s ss h3 h4 h5
effect_remarked g t ms m _ _ _ (does_load_as i a s ss h3 h4 h5) = does_load_as i a s ss h3 h4 h5
effect_remarked g t ms m _ _ _ (does_drop s ss) = does_drop s ss
effect_remarked g t ms m _ _ _ (does_compute o w a b ss h5 h6) = does_compute o w a b ss h5 h6
effect_remarked g t ms m _ _ _ (does_compare c a b ss h4 h5) = does_compare c a b ss h4 h5
effect_remarked g t ms m _ _ _ (does_pointers_equal a b ss h3 h4) = does_pointers_equal a b ss h3 h4
effect_remarked g t ms m _ _ _ (does_pointers_differ a b ss h3 h4) = does_pointers_differ a b ss h3 h4
effect_remarked g t ms m _ _ _ (does_negate w a ss h3) = does_negate w a ss h3
effect_remarked g t ms m _ _ _ (does_wrap w a ss h3) = does_wrap w a ss h3
effect_remarked g t ms m _ _ _ (does_invert a ss h2) = does_invert a ss h2
effect_remarked g t ms m _ _ _ (does_point a ss h2) = does_point a ss h2
effect_remarked g t ms m _ _ _ (does_is_null a ss h2) = does_is_null a ss h2
effect_remarked g t ms m _ _ _ (does_assert a ss h2) = does_assert a ss h2
effect_remarked g t ms m _ _ _ (does_move js n k ss h4 h5 h6) = does_move js n k ss h4 h5 h6
effect_remarked g t ms m _ _ _ (does_element i sp a ss h4 h5) = does_element i sp a ss h4 h5
effect_remarked g t ms m _ _ _ (does_read rs f sp n ss h5) = does_read rs f sp n ss (through_remarked g t ms m sp f mode.Read n rs h5)
effect_remarked g t ms m _ _ _ (does_write rs f sp n ss h5) = does_write rs f sp n ss (through_remarked g t ms m sp f mode.Write n rs h5)
effect_remarked g t ms m _ _ _ (does_reduce rs f sp n o w a ss h8 h9 h10) = does_reduce rs f sp n o w a ss h8 h9 (through_remarked g t ms m sp f (mode.Reduce o) n rs h10)
effect_remarked g t ms m _ _ _ (does_fill i f sp ss h4) = does_fill i f sp ss (allowed_remarked g t ms m sp f mode.Write i h4)
effect_remarked g t ms m _ _ _ (does_cast rs sp a ss h4 h5 h6) = does_cast rs sp a ss h4 h5 h6
effect_remarked g t ms m _ _ _ (does_cast_pointer rs sp a ss h4 h5 h6) = does_cast_pointer rs sp a ss h4 h5 h6
effect_remarked g t ms m _ _ _ (does_space a ss h2) = does_space a ss h2
effect_remarked g t ms m _ _ _ (does_colors i sp ss h3) = does_colors i sp ss h3
effect_remarked g t ms m _ _ _ (does_child i sp a ss h4 h5) = does_child i sp a ss h4 h5
effect_remarked g t ms m _ _ _ (does_print ps ss args rest h n e) = does_print ps ss args rest h n e

-- what a call needs and what its caller may is the same
needed_remarked : (g : Program) (ms : ℕ → ℕ → Mark) (x : World) (ws : List Value) (ns : List NeedCode) →
    Each (IsNeeded g x ws) ns → Each (IsNeeded (remarked g ms) x ws) ns
needed_remarked g ms x ws [] h = tt
needed_remarked g ms x ws (n ∷ ns) h = (
  record { region = h.0.region; argument = h.0.argument; there = h.0.there; field = h.0.field },
  needed_remarked g ms x ws ns h.1,
)

root_remarked : (g : Program) (ms : ℕ → ℕ → Mark) (root sp : ℕ) (ps : List ℕ) →
    root_claims (remarked g ms) root sp ps ≡ root_claims g root sp ps
root_remarked g ms root sp [] = refl
root_remarked g ms root sp (p ∷ ps) = refl

own_remarked : (g : Program) (ms : ℕ → ℕ → Mark) (x : World) (rs : List ℕ) →
    own_claims (remarked g ms) x rs ≡ own_claims g x rs
own_remarked g ms x [] = refl
own_remarked g ms x (r ∷ rs) = ap (λ y. y ++ own_claims (remarked g ms) x rs) (root_remarked g ms r (x.spaces r) (x.points r))
    ∙ ap (λ y. root_claims g r (x.spaces r) (x.points r) ++ y) (own_remarked g ms x rs)

opens_remarked : (g : Program) (ms : ℕ → ℕ → Mark) (x : World) (t : TaskCode) (task : ℕ) (callee : TaskCode) (ws : List Value) →
    OpensWith g t x task callee ws → OpensWith (remarked g ms) t x task callee ws
opens_remarked g ms x t task callee ws o = (
  o.0,
  needed_remarked g ms x ws callee.needs o.1,
  subst (λ z. IsWithin (declared_claims callee.needs ws) (declared_claims t.needs x.args ++ z)) (sym (own_remarked g ms x x.own)) o.2,
)

module _ (g : Program) (t : TaskCode) (k : ℕ) (ms : ℕ → ℕ → Mark) (begins : Begins g ms) where
  leads_remarked : (m : Mark) (i : Instr) (n : Mark) → Leads g t k m i n → Leads (remarked g ms) t k m i n
  leads_remarked _ _ _ (leads_on m i us e) = leads_on m i us (effect_remarked g t ms m i _ us e)
  leads_remarked _ _ _ (leads_storing m n s a ss e l h lg) = leads_storing m n s a ss e l h lg
  leads_remarked _ _ _ (leads_nowhere m n lg) = leads_nowhere m n lg
  leads_remarked _ _ _ (leads_back m n a ss e q h lg) = leads_back m n a ss e q h lg
  leads_remarked _ _ _ (leads_coloured m z s h) = leads_coloured m z s h
  leads_remarked _ _ _ (leads_loaded m i s e h) = leads_loaded m i s e h
  leads_remarked _ _ _ (leads_pointed m i a ss e n q) = leads_pointed m i a ss e n q
  leads_remarked _ _ _ (leads_child m i sp a ss c e n h q) = leads_child m i sp a ss c e n h q
  leads_remarked _ _ _ (leads_launching m task s line args callee there p b es h o) =
      leads_launching m task s line args callee there p b es h
      (begins task callee there, λ x vs st ws c r q l e. opens_remarked g ms x t task callee ws (o.1 x vs st ws c r q l e))
  leads_remarked _ _ _ (leads_calling m task n callee args rest there p b tk o) =
      leads_calling m task n callee args rest there p b tk
      (begins task callee there, λ x vs st ws r h a. opens_remarked g ms x t task callee ws (o.1 x vs st ws r h a))
  leads_remarked _ _ _ (leads_waiting m i s e n h) = leads_waiting m i s e n h
  leads_remarked _ _ _ (leads_making m sp i c ss e there l os oss) = leads_making m sp i c ss e there l os oss
  leads_remarked _ _ _ (leads_cutting m s sp ss e h) = leads_cutting m s sp ss e h
  leads_remarked _ _ _ (leads_colouring m s f sp ss e h) = leads_colouring m s f sp ss e (allowed_remarked g t ms m sp f _ s h)
  leads_remarked _ _ _ (leads_minus m p q s sp sq so d hp hq hs f) = leads_minus m p q s sp sq so d hp hq hs f
  leads_remarked _ _ _ (leads_meet m p q s sp sq so d e hp hq hs f) = leads_meet m p q s sp sq so d e hp hq hs f
  leads_remarked _ _ _ (leads_join m p q s sp sq so hp hq hs f h) = leads_join m p q s sp sq so hp hq hs f h
  leads_remarked _ _ _ (leads_image m s p r f sp sq so hs hp h i) =
      leads_image m s p r f sp sq so hs hp (allowed_remarked g t ms m sp f _ r h) i
  leads_remarked _ _ _ (leads_preimage m s p r f sp sq so d hs hp h i) =
      leads_preimage m s p r f sp sq so d hs hp (allowed_remarked g t ms m sp f _ r h) i

  pub typed_remarked : (m : Mark) (p : Piece) (ns : List Mark) (n : Mark) → Typed g t k m p ns n →
      Typed (remarked g ms) t k m p ns n
  typed_remarked _ _ _ _ (typed_empty m) = typed_empty m
  typed_remarked _ _ _ _ (typed_op m n i line l) = typed_op m n i line (leads_remarked m i n l)
  typed_remarked _ _ _ _ (typed_both m n o a b us ns f h) =
      typed_both m n o a b us ns (typed_remarked m a us n f) (typed_remarked n b ns o h)
  typed_remarked _ _ _ _ (typed_into m n o a us f i lg) = typed_into m n o a us (typed_remarked m a us n f) i lg
  typed_remarked _ _ _ _ (typed_from l m n a us i f lg) = typed_from l m n a us i (typed_remarked m a us n f) lg
  typed_remarked _ _ _ _ (typed_and m a ss line p us e n f) = typed_and m a ss line p us e n (typed_remarked _ p us _ f)
  typed_remarked _ _ _ _ (typed_or m a ss line p us e n f) = typed_or m a ss line p us e n (typed_remarked _ p us _ f)
  typed_remarked _ _ _ _ (typed_if m a ss line p us e n f) = typed_if m a ss line p us e n (typed_remarked _ p us _ f)
  typed_remarked _ _ _ _ (typed_branch m n a ss line p q us ns e nm f h) =
      typed_branch m n a ss line p q us ns e nm (typed_remarked _ p us n f) (typed_remarked _ q ns _ h)
  typed_remarked _ _ _ _ (typed_loop m n a line test body us ns f h e nm i) =
      typed_loop m n a line test body us ns (typed_remarked _ body us _ f) (typed_remarked _ test ns n h) e nm i
  typed_remarked _ _ _ _ (typed_rounds m n c l v a b line body us ec nc el nl hv r lg f) =
      typed_rounds m n c l v a b line body us ec nc el nl hv r lg (typed_remarked n body us _ f)
  typed_remarked _ _ _ _ (typed_points m n s c v ptr line body us ef hv r lg f) =
      typed_points m n s c v ptr line body us ef hv r lg (typed_remarked n body us _ f)
