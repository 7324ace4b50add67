-- Code that goes to a field of an element of a region that a name has, and reads, writes or reduces it, and code
-- that fills fields, has marks: the task made the region.
use Rattle.std.proofs.Common.{◌≡◌, ℕ, suc, ◌<◌, List, [], ◌∷◌, map, Some, refl, sym, ap, ◌∙◌, subst, arith}
use Rattle.std.specs.Prelude.{get_or, length}
use Rattle.std.proofs.lemmas.List.{length-map}
use Rattle.std.proofs.lemmas.Simd.{map-map}
use Rattle.std.proofs.Math.ListN.{get_or-map}
use Rattle.lane_kernels.specs.declared.numbers.FieldKind.{FieldKind}
use Rattle.lane_kernels.specs.declared.numbers.FieldKind.TheVariants as kind
use Rattle.lane_kernels.specs.declared.numbers.Mode.{Mode}
use Rattle.lane_kernels.specs.declared.numbers.Mode.TheVariants as mode
use Rattle.lane_kernels.specs.declared.numbers.Op.{Op}
use Rattle.lane_kernels.specs.Numbers.{width_of}
use Rattle.regent_tree.specs.declared.statement.How.{How}
use Rattle.regent_tree.specs.declared.statement.How.TheVariants as how
use Rattle.regent_tree.specs.declared.types.Param.{Param}
use Rattle.regent_tree.specs.declared.types.TypeTerm.TheVariants as term
use Rattle.regent_tree.specs.declared.typing.StaticType.{StaticType}
use Rattle.regent_tree.specs.Accesses.{space_in}
use Rattle.regent_tree.specs.StaticTypes.{field_kind, field_kinds, field_place, field_term, kind_said, space_at}
use Rattle.value_laws.specs.Shapes.{regions_listed}
use Rattle.regent_tree.specs.Syntax.{Name, Tree, Expression, Steps, no_step, field_step, at_step}
use Rattle.regent_tree.specs.Typing.{type_of_element, type_of_field}
use Rattle.task_code.specs.declared.code.TaskCode.{TaskCode}
use Rattle.task_code.specs.declared.instr.Instr.TheVariants as instr
use Rattle.machine_terms.specs.Contents.{kinds_of}
use Rattle.code_rules.specs.Assignments.{put_code, slot_behind}
use Rattle.code_rules.specs.Expressions.{expr_code, steps_code}
use Rattle.code_rules.specs.Instructions.{load_code, one}
use Rattle.code_rules.specs.Pieces.{Piece, ◌⨟◌}
use Rattle.code_rules.specs.Programs.{code_of}
use Rattle.code_rules.specs.Slots.{Where, own_slot, slot, slots_of, typed}
use Rattle.code_laws.specs.Pointers.{FieldKeeps, IsCounting, KeepsAs, keeps_index, keeps_plain, keeps_pointer}
use Rattle.code_laws.specs.Simple.{fits_32, fits_64, fits_truth, IsInteger, an_integer, IsRegion, a_region_type}
use Rattle.code_laws.specs.Standing.{Stands}
use Rattle.code_laws.proofs.Reaching.{kinds_are}
use Rattle.fit_rules.specs.Shapes.{Shape, pointer, Numeric}
use Rattle.fit_rules.specs.Marks.{Mark, stacked}
use Rattle.fit_rules.specs.Fits.{Program, count_at, kept_as, kind_at, shape_at}
use Rattle.fit_rules.specs.Sound.{HasRegion, Allowed, Through, does_element, does_read, does_write, does_reduce, does_fill}
use Rattle.sound_code.specs.Ways.{Way, shape_of}
use Rattle.sound_code.proofs.Asked.{Known}
use Rattle.sound_code.proofs.Combining.{Marked, nothing_done, both, does}
use Rattle.sound_code.proofs.Counting.{counted_numeric, standing_counted}

-- ---- fields

kind_in : (tree : Tree) (sp place : ℕ) → get_or (field_kinds tree sp) place kind.Truth ≡ field_kind tree sp place
kind_in tree sp place =
    let ps = (space_at tree sp).fields in
    ap (λ ks. get_or ks place kind.Truth) (sym (map-map kind_said (λ (p : Param). p.term) ps))
    ∙ get_or-map kind_said (map (λ (p : Param). p.term) ps) place term.Truth

kept_fits : (q : FieldKind) (n : ℕ) (out : StaticType) → KeepsAs q n out → kept_as q n ≡ shape_of out
kept_fits _ n _ (keeps_plain _ _ _ fits_32) = refl
kept_fits _ n _ (keeps_plain _ _ _ fits_64) = refl
kept_fits _ n _ (keeps_plain _ _ _ fits_truth) = refl
kept_fits _ n _ (keeps_index _ k) = refl
kept_fits _ _ _ (keeps_pointer k sp args rs names few) = refl

module _ (g : Program) (tree : Tree) (way : Way) (known : Known way g tree) where
  pub kind_same : (sp place : ℕ) → kind_at g sp place ≡ field_kind tree sp place
  kind_same sp place = ap (λ c. get_or (kinds_of c sp) place kind.Truth) known.code
      ∙ ap (λ ks. get_or ks place kind.Truth) (kinds_are (code_of tree) tree sp refl) ∙ kind_in tree sp place

  pub field_there : (sp place : ℕ) → place < length (space_at tree sp).fields → place < count_at g sp
  field_there sp place l =
      let e = ap (λ c. length (kinds_of c sp)) known.code ∙ ap length (kinds_are (code_of tree) tree sp refl)
      ∙ length-map (space_at tree sp).fields (λ (p : Param). kind_said p.term) in
      omega (arith, l, e)

  pub field_shape : (sp place : ℕ) (out : StaticType) → FieldKeeps (field_term tree sp place) out → shape_at g sp place ≡ shape_of out
  field_shape sp place out h = ap (λ q. kept_as q (g.positions sp place)) (kind_same sp place)
      ∙ ap (kept_as (field_kind tree sp place)) (known.positions sp place)
      ∙ kept_fits (field_kind tree sp place) (regions_listed (field_term tree sp place)) out h

-- ---- elements

module _ (g : Program) (t : TaskCode) (k : ℕ) (way : Way) (w : Where) (m : Mark) (known : Known way g w.tree) where
  -- through the one slot of a pointer
  through : (sp f s : ℕ) (a : Mode) (us : List Shape) → Allowed g t (stacked m us) sp f a s → Through g t (stacked m us) sp f a 1 (s ∷ [])
  through sp f s a us h = (omega arith, (h, tt))

  abbrev pub MayTouch : StaticType → ℕ → Name → Mode → Type 0
  MayTouch u s f a = (us : List Shape) → Allowed g t (stacked m us) (space_in u) (field_place w.tree (space_in u) f) a s

  -- it is read, and what stands behind goes on with it
  pub reads : (u : StaticType) (place : ℕ) (e : Expression) (f : Name) (rest : Steps) (out : StaticType) (d : ℕ) (us vs : List Shape) → IsRegion u →
      HasRegion m (Some (space_in u)) (slot w place) → IsCounting (typed w e) →
      slots_of w (slot w place) (type_of_element w.scope u e) ≡ slot w place ∷ [] → MayTouch u (slot w place) f mode.Read →
      FieldKeeps (field_term w.tree (space_in u) (field_place w.tree (space_in u) f)) out →
      ((pc : ℕ) → Stands t.body pc (expr_code w d e) →
      Marked g t k (stacked m us) (expr_code w d e) (stacked m (shape_of (typed w e) ∷ us))) →
      Marked g t k (stacked m (shape_of out ∷ us)) (steps_code w (suc d) (type_of_field w.tree (type_of_element w.scope u e) f) 0 rest) (stacked m vs) → (pc : ℕ) →
      Stands t.body pc (load_code w u (slot w place) (at_step e (field_step f rest))
      ⨟ steps_code w d u (own_slot w u place) (at_step e (field_step f rest))) →
      Marked g t k (stacked m us)
      (load_code w u (slot w place) (at_step e (field_step f rest))
      ⨟ steps_code w d u (own_slot w u place) (at_step e (field_step f rest)))
      (stacked m vs)
  reads _ place e f rest out d us vs (a_region_type q sp args r) there h goes may fits marked more pc st =
      let s = slot w place in
      let fp = field_place w.tree sp f in
      both g t k (nothing_done g t k _)
      (both g t k (marked pc st.1.0) (both g t k (standing_counted g t k w m (typed w e) _ h)
      (both g t k (does g t k _ (instr.At s) w.line (pointer 1 ∷ us)
      (does_element s (Some sp) _ us (record { origin = there.origin; shape = there.shape }) (counted_numeric _ h)))
      (both g t k (nothing_done g t k _)
      (both g t k
      (subst (λ y. Marked g t k (stacked m (pointer 1 ∷ us)) (one w (instr.Read y fp)) (stacked m (shape_of out ∷ us))) (sym goes)
      (subst (λ y. Marked g t k (stacked m (pointer 1 ∷ us)) (one w (instr.Read (s ∷ []) fp)) (stacked m (y ∷ us)))
      (field_shape g w.tree way known sp fp out fits)
      (does g t k (stacked m (pointer 1 ∷ us)) (instr.Read (s ∷ []) fp) w.line _
      (does_read (s ∷ []) fp sp 1 us (through sp fp s mode.Read (pointer 1 ∷ us) (may (pointer 1 ∷ us)))))))
      more)))))

  -- a value goes into the field
  module _ (u : StaticType) (place : ℕ) (e : Expression) (f : Name) (out : StaticType) (us : List Shape) (is : IsRegion u)
      (there : HasRegion m (Some (space_in u)) (slot w place)) (h : IsCounting (typed w e))
      (goes : slots_of w (slot w place) (type_of_element w.scope u e) ≡ slot w place ∷ [])
      (fits : FieldKeeps (field_term w.tree (space_in u) (field_place w.tree (space_in u) f)) out) where
    -- the code of a target
    abbrev pub aimed : StaticType → How → Piece
    aimed v o = (load_code w v (slot w place) (at_step e no_step)
        ⨟ steps_code w 0 v (own_slot w v place) (at_step e no_step))
        ⨟ put_code w (type_of_element w.scope v e) (slot_behind w 0 v (own_slot w v place) (at_step e no_step)) f o

    pub writes : MayTouch u (slot w place) f mode.Write → ((pc : ℕ) → Stands t.body pc (expr_code w 0 e) →
        Marked g t k (stacked m (shape_of out ∷ us)) (expr_code w 0 e) (stacked m (shape_of (typed w e) ∷ shape_of out ∷ us))) →
        (pc : ℕ) → Stands t.body pc (aimed u how.Set) → Marked g t k (stacked m (shape_of out ∷ us)) (aimed u how.Set) (stacked m us)
    writes may marked pc st = of_region u is there goes may fits st
      where
        of_region : (v : StaticType) → IsRegion v → HasRegion m (Some (space_in v)) (slot w place) →
            slots_of w (slot w place) (type_of_element w.scope v e) ≡ slot w place ∷ [] → MayTouch v (slot w place) f mode.Write →
            FieldKeeps (field_term w.tree (space_in v) (field_place w.tree (space_in v) f)) out →
            Stands t.body pc (aimed v how.Set) → Marked g t k (stacked m (shape_of out ∷ us)) (aimed v how.Set) (stacked m us)
        of_region _ (a_region_type q sp args r) there goes may fits st =
            let s = slot w place in
            let fp = field_place w.tree sp f in
            let us1 : List Shape = pointer 1 ∷ shape_of out ∷ us in
            both g t k
            (both g t k (nothing_done g t k _) (both g t k (marked _ st.0.1.0) (both g t k (standing_counted g t k w m (typed w e) _ h)
            (both g t k (does g t k _ (instr.At s) w.line us1
            (does_element s (Some sp) _ _ (record { origin = there.origin; shape = there.shape }) (counted_numeric _ h)))
            (both g t k (nothing_done g t k _) (nothing_done g t k _))))))
            (subst (λ y. Marked g t k (stacked m us1) (one w (instr.Write y fp (width_of (field_kind w.tree sp fp)))) (stacked m us)) (sym goes)
            (subst (λ y. Marked g t k (stacked m us1) (one w (instr.Write (s ∷ []) fp (width_of y))) (stacked m us)) (kind_same g w.tree way known sp fp)
            (subst (λ y. Marked g t k (stacked m (pointer 1 ∷ y ∷ us)) (one w (instr.Write (s ∷ []) fp (width_of (kind_at g sp fp)))) (stacked m us))
            (field_shape g w.tree way known sp fp out fits)
            (does g t k (stacked m (pointer 1 ∷ shape_at g sp fp ∷ us)) (instr.Write (s ∷ []) fp (width_of (kind_at g sp fp))) w.line us
            (does_write (s ∷ []) fp sp 1 us (through sp fp s mode.Write (pointer 1 ∷ shape_at g sp fp ∷ us) (may (pointer 1 ∷ shape_at g sp fp ∷ us))))))))

    pub reduces : (o : Op) (a : Shape) → Numeric a → IsInteger out → MayTouch u (slot w place) f (mode.Reduce o) →
        ((pc : ℕ) → Stands t.body pc (expr_code w 0 e) →
        Marked g t k (stacked m (a ∷ us)) (expr_code w 0 e) (stacked m (shape_of (typed w e) ∷ a ∷ us))) →
        (pc : ℕ) → Stands t.body pc (aimed u (how.Reduce o)) → Marked g t k (stacked m (a ∷ us)) (aimed u (how.Reduce o)) (stacked m us)
    reduces o a na io may marked pc st = of_region u is there goes may out io fits st
      where
        of_region : (v : StaticType) → IsRegion v → HasRegion m (Some (space_in v)) (slot w place) →
            slots_of w (slot w place) (type_of_element w.scope v e) ≡ slot w place ∷ [] → MayTouch v (slot w place) f (mode.Reduce o) →
            (out : StaticType) → IsInteger out →
            FieldKeeps (field_term w.tree (space_in v) (field_place w.tree (space_in v) f)) out →
            Stands t.body pc (aimed v (how.Reduce o)) → Marked g t k (stacked m (a ∷ us)) (aimed v (how.Reduce o)) (stacked m us)
        of_region _ (a_region_type q sp args r) there goes may _ (an_integer wd) fits st =
            let s = slot w place in
            let fp = field_place w.tree sp f in
            let us1 : List Shape = pointer 1 ∷ a ∷ us in
            both g t k
            (both g t k (nothing_done g t k _) (both g t k (marked _ st.0.1.0) (both g t k (standing_counted g t k w m (typed w e) _ h)
            (both g t k (does g t k _ (instr.At s) w.line us1
            (does_element s (Some sp) _ _ (record { origin = there.origin; shape = there.shape }) (counted_numeric _ h)))
            (both g t k (nothing_done g t k _) (nothing_done g t k _))))))
            (subst (λ y. Marked g t k (stacked m us1) (one w (instr.Reduce y fp o (width_of (field_kind w.tree sp fp)))) (stacked m us)) (sym goes)
            (subst (λ y. Marked g t k (stacked m us1) (one w (instr.Reduce (s ∷ []) fp o (width_of y))) (stacked m us)) (kind_same g w.tree way known sp fp)
            (does g t k (stacked m us1) (instr.Reduce (s ∷ []) fp o (width_of (kind_at g sp fp))) w.line us
            (does_reduce (s ∷ []) fp sp 1 o wd a us (field_shape g w.tree way known sp fp _ fits) na
            (through sp fp s (mode.Reduce o) us1 (may us1))))))

  -- a field of a whole region is filled
  pub fills : (u : StaticType) (s : ℕ) (f : Name) (out : StaticType) (us : List Shape) → IsRegion u → MayTouch u s f mode.Write →
      FieldKeeps (field_term w.tree (space_in u) (field_place w.tree (space_in u) f)) out →
      Marked g t k (stacked m (shape_of out ∷ us))
      (one w (instr.Fill s (field_place w.tree (space_in u) f) (width_of (field_kind w.tree (space_in u) (field_place w.tree (space_in u) f)))))
      (stacked m us)
  fills _ s f out us (a_region_type q sp args r) may fits =
      let fp = field_place w.tree sp f in
      subst (λ y. Marked g t k (stacked m (shape_of out ∷ us)) (one w (instr.Fill s fp (width_of y))) (stacked m us)) (kind_same g w.tree way known sp fp)
      (subst (λ y. Marked g t k (stacked m (y ∷ us)) (one w (instr.Fill s fp (width_of (kind_at g sp fp)))) (stacked m us))
      (field_shape g w.tree way known sp fp out fits)
      (does g t k (stacked m (shape_at g sp fp ∷ us)) (instr.Fill s fp (width_of (kind_at g sp fp))) w.line us
      (does_fill s fp sp us (may (shape_at g sp fp ∷ us)))))
