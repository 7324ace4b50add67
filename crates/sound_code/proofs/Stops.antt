-- Where statements of a block begin, the marks are those of their scopes.
use Rattle.std.proofs.Common.{◌≡◌, inr, ⊎_elim, ℕ, [], ◌∷◌, sym, ap, ◌∙◌, subst, arith, suc}
use Rattle.std.specs.Prelude.{length}
use Rattle.regent_tree.specs.declared.typing.Bound.{Bound}
use Rattle.regent_tree.specs.Syntax.{a_statement, Form, Block, then_statement}
use Rattle.task_code.specs.declared.code.TaskCode.{TaskCode}
use Rattle.code_rules.specs.Pieces.{Piece}
use Rattle.code_rules.specs.Slots.{Where}
use Rattle.code_rules.specs.Statements.{on_line, after_form, form_code, block_code}
use Rattle.fit_rules.specs.Marks.{Mark, stacked}
use Rattle.fit_rules.specs.Fits.{Program}
use Rattle.code_laws.specs.Steps.{Forms}
use Rattle.regent_tree.specs.Scopes.{Scope}
use Rattle.sound_code.specs.Ways.{Way}
use Rattle.sound_code.proofs.Scoped.{Scoped}
use Rattle.sound_code.proofs.Cuts.{cut_same}
use Rattle.sound_code.proofs.Grounds.{Ground}
use Rattle.sound_code.proofs.Asked.{Asked, same_names, UpTo}
use Rattle.sound_code.proofs.Combining.{Marked}
use Rattle.sound_code.proofs.Statements.{Followed}
use Rattle.std.proofs.Common.{◌≡◌, inl, ◌+◌, List, ◌++◌, Bool, append_assoc}
use Rattle.std.specs.Prelude.{get_or}
use Rattle.regent_tree.specs.Syntax.{Tree}
use Rattle.fit_rules.specs.Marks.{Into}
use Rattle.code_rules.specs.Pieces.{◌⨟◌}
use Rattle.marked_code.specs.Marked.{typed_both}
use Rattle.marked_code.proofs.Firsts.{begins_with}
use Rattle.marked_code.proofs.Placed.{behind, past_marks}
use Rattle.code_rules.specs.Pieces.{past as behind_piece}
use Rattle.sound_code.specs.Named.{Ready}
use Rattle.sound_code.specs.Places.{AreMore, BeginsAt}
use Rattle.fit_rules.specs.Marks.{Fact}
use Rattle.sound_code.proofs.Grounds.{HasFacts}

-- known facts, and more of what was bound behind
pub more_then : (params : ℕ) (ks ls ns : List Fact) → AreMore params ks ls → AreMore params ls ns → AreMore params ks ns
more_then params ks ls ns h i f a = ⊎_elim (λ b. h f b) (λ b. inr b) (i f a)

-- a place among marks behind others
get_later : (ms ns : List Mark) (i : ℕ) (d : Mark) → get_or (ms ++ ns) (length ms + i) d ≡ get_or ns i d
get_later [] ns i d = let same : 0 + i ≡ i = omega arith in ap (λ j. get_or ns j d) same
get_later (m ∷ ms) ns i d =
    let same : suc (length ms) + i ≡ suc (length ms + i) = omega arith in ap (λ j. get_or (m ∷ (ms ++ ns)) j d) same ∙ get_later ms ns i d

module _ (g : Program) (t : TaskCode) (k : ℕ) where
  behind_long : (ms : List Mark) (pc : ℕ) → behind g t k ms pc ≡ pc + length ms
  behind_long [] pc = omega arith
  behind_long (m ∷ ms) pc = let e = behind_long ms (suc pc) in omega (arith, e)

module _ (g : Program) (t : TaskCode) (k : ℕ) (way : Way) (tree : Tree) (params : ℕ) where
  -- one piece behind the other, with the marks of both
  abbrev pub joined : {m n o : Mark} {a b : Piece} → Marked g t k m a n → Marked g t k n b o → Marked g t k m (a ⨟ b) o
  joined f h = record { marks = f.marks ++ h.marks; is = typed_both _ _ _ _ _ _ _ f.is h.is }

  -- what suits a mark of a scope suits the one that is there
  pub record StopAt (base : List Fact) (v : Where) (there : Mark) : Type 0 where
    pub mark : Mark
    pub ready : Ready way params v.scope.names mark
    pub facts : HasFacts way tree mark.facts
    pub only : AreMore params base mark.facts
    pub suits : Into t.params (stacked mark []) there

  -- so it is wherever a statement of a block begins, by the marks of its code
  abbrev pub Stops : List Fact → Where → Block → ℕ → List Mark → Mark → Type 0
  Stops base w b pc ms last = (d : Mark) (v : Where) (q : ℕ) → BeginsAt w b pc v q →
      (i : ℕ) × (q ≡ pc + i) × StopAt base v (get_or (ms ++ last ∷ []) i d)

  pub stops_both : (w : Where) (line : ℕ) (form : Form) (rest : Block) (pc : ℕ) (m n o : Mark) → Ready way params w.scope.names m → HasFacts way tree m.facts → AreMore params m.facts n.facts →
      (one : Marked g t k (stacked m []) (form_code (on_line w line) form) (stacked n [])) →
      (two : Marked g t k (stacked n []) (block_code (after_form w form) rest) (stacked o [])) →
      Stops n.facts (after_form w form) rest (behind_piece (form_code (on_line w line) form) pc) two.marks (stacked o []) →
      Stops m.facts w (then_statement (a_statement line form) rest) pc (one.marks ++ two.marks) (stacked o [])
  stops_both w line form rest pc m n o ready facts new one two later d v q h = ⊎_elim
      (λ e. (
        0,
        omega (arith, e.1),
        subst (λ u. StopAt m.facts u (get_or ((one.marks ++ two.marks) ++ stacked o [] ∷ []) 0 d)) (sym e.0) (record {
          mark = m;
          ready = ready;
          facts = facts;
          only = λ f a. inl a;
          suits = begins_with g t k d (stacked m []) _ (one.marks ++ two.marks) (stacked o []) (joined one two).is;
        }),
      ))
      (λ b.
      let s = later d v q b in
      let p = form_code (on_line w line) form in
      let long : behind_piece p pc ≡ pc + length one.marks = sym (past_marks g t k _ p one.marks _ pc one.is) ∙ behind_long g t k one.marks pc in
      let same = ap (λ l. get_or l (length one.marks + s.0) d) (append_assoc one.marks two.marks (stacked o [] ∷ [])) ∙ get_later one.marks (two.marks ++ stacked o [] ∷ []) s.0 d in (
        length one.marks + s.0,
        omega (arith, s.1, long),
        subst (StopAt m.facts v) (sym same) (record {
          mark = s.2.mark;
          ready = s.2.ready;
          facts = s.2.facts;
          only = more_then params m.facts n.facts s.2.mark.facts new s.2.only;
          suits = s.2.suits;
        }),
      )) h

module _ (g : Program) (t : TaskCode) (k : ℕ) (keeps : Bool) (way : Way) (tree : Tree) (params : ℕ) where
  -- what stands behind a block, and where its statements begin
  pub record FollowedBlock (bs : List Bound) (m : Mark) (w : Where) (b : Block) (pc : ℕ) : Type 0 where
    pub done : Followed g t k keeps way tree params bs m (block_code w b)
    pub stops : Stops g t k way tree params m.facts w b pc done.is.marks (stacked done.next [])

module _ (g : Program) (t : TaskCode) (k slots : ℕ) (forms : Forms) (way : Way) where
  abbrev At : Where → Mark → Type 0
  At w m = Asked g t k slots forms way w m

  pub on_the_line : (w : Where) (m : Mark) (line : ℕ) → At w m → At (on_line w line) m
  on_the_line w m line a = record {
    hands = a.hands;
    ready = a.ready;
    params = a.params;
    result = a.result;
    room = a.room;
    known = a.known;
    ground = a.ground;
    facts = a.facts;
    ruled = a.ruled;
    scoped = a.scoped;
    cut = a.cut;
    upto = a.upto;
  }

  -- in a scope of the same names where no less is known
  pub asked_in : (w : Where) (m : Mark) (s : Scope) → s.names ≡ w.scope.names → Ground t way w.tree w.params s → UpTo way w.tree s → At w m →
      At (record w { scope = s }) m
  asked_in w m s e h up a = record {
    hands = a.hands;
    ready = same_names way w.params _ _ m (sym e) a.ready;
    params = a.params;
    result = a.result;
    room = a.room;
    known = a.known;
    ground = h;
    facts = a.facts;
    ruled = a.ruled;
    scoped = subst (Scoped forms.keeps way) (sym e) a.scoped;
    cut = cut_same forms.keeps way w.tree w.params m.facts _ _ (sym e) a.cut;
    upto = up;
  }
