-- A variable that begins as a part of a partition, of a written type or not, has marks: its region lies within the one of which the
-- partition is, as a fact tells.
use Rattle.std.proofs.Common.{◌≡◌, inl, inr, ⊎_elim, ℕ, suc, ◌<◌, ◌≤◌, List, [], ◌∷◌, ◌++◌, Bool, true, false, cond, None, Option, Some, refl, sym, ap, ◌∙◌, subst, arith}
use Rattle.std.specs.Prelude.{length, nat_le}
use Rattle.std.proofs.lemmas.Bool.{and_parts, le-leb}
use Rattle.std.proofs.lemmas.Option.{same_Some}
use Rattle.regent_tree.proofs.Members.{Contains-from_Has, Has, Has-append_cases}
use Rattle.regent_tree.specs.Lookup.{is_bound}
use Rattle.regent_tree.specs.Scopes.{bound_as, known_of_type}
use Rattle.regent_tree.specs.StaticTypes.{Reach}
use Rattle.regent_tree.specs.Syntax.{access_expr, at_step, Expression, Form, Name, no_step, plain_initializer, TaskTree, var_form}
use Rattle.regent_tree.specs.Typing.{known_of_child, owned, parent_of, scope_after, var_type}
use Rattle.regent_tree.specs.declared.facts.Colour.{Colour as WrittenColour}
use Rattle.regent_tree.specs.declared.facts.Colour.TheVariants.{Unknown}
use Rattle.regent_tree.specs.declared.facts.Known.{Known}
use Rattle.regent_tree.specs.declared.facts.Known.TheVariants.{Within}
use Rattle.regent_tree.specs.declared.facts.Term.{Term}
use Rattle.regent_tree.specs.declared.facts.Term.TheVariants as term
use Rattle.regent_tree.specs.declared.types.Kind.{Kind}
use Rattle.regent_tree.specs.declared.types.TypeTerm.{TypeTerm}
use Rattle.regent_tree.specs.declared.typing.Bound.{Bound}
use Rattle.regent_tree.specs.declared.typing.StaticType.{StaticType}
use Rattle.regent_tree.specs.declared.typing.StaticType.TheVariants.{Region as region_type}
use Rattle.task_code.specs.declared.code.TaskCode.{TaskCode}
use Rattle.task_code.specs.declared.instr.Instr.TheVariants as instr
use Rattle.machine_terms.specs.declared.value.Value.{Value}
use Rattle.machine_terms.specs.declared.value.Value.TheVariants as value
use Rattle.code_rules.specs.Expressions.{expr_code}
use Rattle.code_rules.specs.Initializers.{initializer_code, plain_code, written_code}
use Rattle.code_rules.specs.Pieces.{empty, op, Piece, ◌⨟◌}
use Rattle.code_rules.specs.Slots.{bound, slot_bound, slot_named, typed, Where}
use Rattle.code_rules.specs.Statements.{begun_form, after_form, form_code}
use Rattle.check_laws.proofs.Scopes.{found_by_number}
use Rattle.code_laws.specs.Arguments.{IsCutName}
use Rattle.code_laws.specs.Handing.{told_in}
use Rattle.code_laws.specs.Pointers.{IsLike}
use Rattle.code_laws.specs.Simple.{a_region_type, IsPartition, IsRegion, term_in}
use Rattle.code_laws.specs.Standing.{Stands}
use Rattle.code_laws.specs.Steps.{Forms}
use Rattle.code_laws.specs.Typed.{BeginsAsPart, IsIndexed}
use Rattle.code_laws.proofs.Domains.{part_is}
use Rattle.code_laws.proofs.LocalGoals.{found_among}
use Rattle.fit_laws.proofs.Keeping.{set_mark}
use Rattle.fit_rules.specs.Shapes.{Among, argument, Is, is_number, is_region, own_as, part, region, World}
use Rattle.fit_rules.specs.Marks.{child_in, Colour, in_slot, lies, Mark, parted, stacked, top_at, topped}
use Rattle.fit_rules.specs.Fits.{Program}
use Rattle.std.proofs.Common.{nat_lt, suc}
use Rattle.sound_code.specs.Named.{Ready}
use Rattle.sound_code.proofs.Combining.{fixed_to}
use Rattle.sound_code.proofs.SlotShapes.{slot_numbered, slot_plain}
use Rattle.sound_code.specs.Places.{IsBehind}
use Rattle.sound_code.specs.Named.{HasSlots, is_begun, IsOfNumber, is_piece, IsSteadyColour, slot_at, loops_in}
use Rattle.sound_code.specs.Ways.{by_rules, origin_behind, origin_in, shape_in, Tops, Way, whole_origin}
use Rattle.sound_code.proofs.ArgumentTypes.{part_parent, part_term}
use Rattle.sound_code.proofs.Asked.{Asked, begins_under, ruled, UpTo}
use Rattle.sound_code.proofs.Colours.{colour_at, colour_held, colour_steady, held_of, IsLoopIn, named_low, steady_under}
use Rattle.sound_code.proofs.Combining.{behind_kept, both, fixed_to, fixing, Marked, nothing_done, slot_high}
use Rattle.sound_code.proofs.Cuts.{cut_bound, place_as}
use Rattle.sound_code.proofs.Cutting.{knowing, storing_piece}
use Rattle.sound_code.proofs.Grounds.{BeginsUnder, Ground, Kept, top_behind, top_in}
use Rattle.sound_code.proofs.Liking.{like_root}
use Rattle.sound_code.proofs.Narrowing.{narrow_itself, narrow_set}
use Rattle.sound_code.proofs.Numbering.{numbered_at, numbered_more}
use Rattle.sound_code.proofs.Parts.{coloured, cut_of, parent_there, piece_taken}
use Rattle.sound_code.proofs.Plain.{plain_in}
use Rattle.sound_code.proofs.Scoped.{region_found, ScopedBy, scoped_named}
use Rattle.sound_code.proofs.ScopedNames.{scoped_bound}
use Rattle.sound_code.proofs.Statements.{Followed, named_more, new_name, value_marked}
use Rattle.sound_code.proofs.Told.{told_at, told_head, ToldForm}
use Rattle.sound_code.proofs.Under.{from_under, under_part}
use Rattle.sound_code.proofs.WholeTasks.{takes_part}
use Rattle.sound_code.proofs.Looping.{place_low}
use Rattle.sound_code.proofs.Steady.{colour_below}

-- a part of a region that may have begun as one lies within the one that began as none
part_becomes : (tops : Tops) (task : TaskTree) (params i r sp : ℕ) → params ≤ i → tops task i ≡ Some (r, top_in params (tops task) r) → (x : World) (v : Value) →
    Is x (region (Some sp) (part (origin_in (by_rules tops task) params (term.Name r)))) v → Is x (region (Some sp) (origin_in (by_rules tops task) params (term.Name i))) v
part_becomes tops task params i r sp high e x _ (is_region _ _ q h) =
    let same : origin_in (by_rules tops task) params (term.Name i) ≡ part (whole_origin params (top_in params (tops task) r)) =
    ap (λ b. cond b (origin_behind params i (tops task i)) (argument i)) (le-leb params i high) ∙ ap (origin_behind params i) e in
    subst (λ o. Is x (region (Some sp) o) (value.Region q)) (sym same) (is_region (Some sp) (part (whole_origin params (top_in params (tops task) r))) q (record {
      there = h.there;
      space = h.space;
      set = h.set;
      points = h.points;
      origin = from_under x params (top_in params (tops task) r) q (under_part tops task params r x q h.origin);
    }))
part_becomes tops task params i r sp high e x _ (is_number _ z h) = absurd h

-- it is of a number where the other is
part_numbered : (tops : Tops) (task : TaskTree) (params i r : ℕ) (bs : List Bound) → params ≤ i → tops task i ≡ Some (r, top_in params (tops task) r) →
    IsOfNumber bs (origin_in (by_rules tops task) params (term.Name r)) → IsOfNumber bs (origin_in (by_rules tops task) params (term.Name i))
part_numbered tops task params i r bs high e h =
    let same : origin_in (by_rules tops task) params (term.Name i) ≡ part (whole_origin params (top_in params (tops task) r)) =
    ap (λ b. cond b (origin_behind params i (tops task i)) (argument i)) (le-leb params i high) ∙ ap (origin_behind params i) e in
    subst (IsOfNumber bs) (sym same) (of (nat_le params r) refl (tops task r) h)
  where
    of : (b : Bool) → nat_le params r ≡ b → (o : Option (ℕ × ℕ)) → IsOfNumber bs (cond b (origin_behind params r o) (argument r)) →
        IsOfNumber bs (whole_origin params (cond b (top_behind r o) r))
    of true q None h = subst (λ d. IsOfNumber bs (cond d (own_as r) (argument r))) (sym q) h
    of true q (Some k) h = h
    of false q o h = subst (λ d. IsOfNumber bs (cond d (own_as r) (argument r))) (sym q) tt

abbrev number_in : Term → ℕ
number_in (term.Name i) = i
number_in (term.Child p c) = 0

abbrev cut_in : Term → ℕ
cut_in (term.Name i) = 0
cut_in (term.Child p c) = p

abbrev colour_in : Term → WrittenColour
colour_in (term.Name i) = Unknown
colour_in (term.Child p c) = c

abbrev IsChildTerm : Term → Type 0
IsChildTerm (term.Name i) = ⊥
IsChildTerm (term.Child p c) = Unit {0}

abbrev upper_in : Known → Term
upper_in (Within a b) = b
upper_in k = term.Name 0

-- a region's type tells of a part alone
own_told : (next p : ℕ) (z : WrittenColour) (u : StaticType) → IsRegion u → Has (known_of_child next u) (Within (term.Name next) (term.Child p z)) →
    term_in u ≡ term.Child p z
own_told next p z _ (a_region_type k sp args (term.Child q c)) (inl e) = ap upper_in e
own_told next p z _ (a_region_type k sp args (term.Child q c)) (inr h) = absurd h
own_told next p z _ (a_region_type k sp args (term.Name i)) h = absurd h

no_type_told : (u : StaticType) → IsRegion u → (k : Known) → Has (known_of_type u) k → ⊥
no_type_told _ (a_region_type k sp args r) d h = absurd h

module _ (g : Program) (t : TaskCode) (k slots : ℕ) (have : HasSlots t slots) (forms : Forms) (way : Way) (w : Where) (m : Mark)
    (asked : Asked g t k slots forms way w m) where
  -- what is told of the next region is told of the partition in a slot, by the colour
  abbrev IsSaidPiece : Name → Colour → Type 0
  IsSaidPiece q c = (tops : Tops) (task : TaskTree) → way ≡ by_rules tops task → (p : ℕ) (z : WrittenColour) →
      Has (told_in w.tree task) (Within (term.Name w.scope.next) (term.Child p z)) →
      IsPartition (bound_as w.scope.names p).static_type × (slot_bound w p ≡ slot_named w q) × IsLoopIn w.scope.names z × (c ≡ held_of w.params w.scope.names z)

  -- a part is kept by a new name, of the region with a number
  bind_part : (n q : Name) (c : Colour) → IsSteadyColour w.params w.scope.names c → is_bound w.scope.names q ≡ true → IsSaidPiece q c → (kind : Kind) (sp : ℕ) (args : List Reach) (r : ℕ) (form : Form) (p : Piece) → forms.keeps ≡ true → ToldForm way w.tree w.scope form →
      IsRegion (bound_as w.scope.names r).static_type → Among m.facts (parted (slot_named w q) (slot_bound w r)) → BeginsUnder way w.params w.scope.next r → w.params ≤ w.scope.next →
      IsOfNumber w.scope.names (origin_in way w.params (term.Name r)) →
      Marked g t k (stacked m []) p (topped m (region (Some sp) (part (origin_in way w.params (term.Name r))) ∷ []) (top_at (child_in (slot_named w q) c))) →
      slot_at w.params (length w.scope.names) < length m.slots →
      Followed g t k forms.keeps way w.tree w.params (new_name g t k slots have forms way w m asked n (region_type kind sp args (term.Name w.scope.next)) ∷ w.scope.names) m
      (p ⨟ op (instr.Store (slot_at w.params (length w.scope.names))) w.line)
  bind_part n q c steady bound_q said kind sp args r form p keeps told there fact under high number f hi =
      let ready = asked.ready in
      let names = w.scope.names in
      let slot = slot_at w.params (length names) in
      let u = region_type kind sp args (term.Name w.scope.next) in
      let b = new_name g t k slots have forms way w m asked n u in
      let by = (ruled g t k slots forms way w m asked keeps) in
      let begins = subst (λ v. BeginsUnder v w.params w.scope.next r) by.by under in
      let low = place_as way w.params m.slots names r ready.named there in
      let lower : slot_bound w r < slot = omega (arith, low) in
      let low_q = named_low way w.params m.slots names q ready.named bound_q in
      let lower_q : slot_named w q < slot = omega (arith, low_q) in
      let fs = lies (in_slot slot) (child_in (slot_named w q) c) ∷ lies (in_slot slot) (in_slot (slot_bound w r)) ∷ m.facts in
      let c1 = nat_lt (length names) w.params in
      let plain = subst (λ y. Ready way w.params (b ∷ names) (fixed_to (slot_at w.params (suc (length names))) (set_mark m slot y []))) (slot_plain c1 (shape_in way w.params u) refl)
      (named_more way w.params names m b ready hi refl (slot_numbered (b ∷ names) c1 (shape_in way w.params u)
      (numbered_more names b (shape_in way w.params u) (subst (λ v. IsOfNumber names (origin_in v w.params (term.Name w.scope.next))) (sym by.by)
      (part_numbered by.tops by.task w.params w.scope.next r names high begins (subst (λ v. IsOfNumber names (origin_in v w.params (term.Name r))) by.by number))))) refl) in
      record {
        next = fixed_to (slot_at w.params (suc (length names))) (knowing (lies (in_slot slot) (child_in (slot_named w q) c)) (knowing (lies (in_slot slot) (in_slot (slot_bound w r))) (set_mark m slot (shape_in way w.params u) [])));
        is = fixing g t k _ (knowing (lies (in_slot slot) (child_in (slot_named w q) c)) (knowing (lies (in_slot slot) (in_slot (slot_bound w r))) (set_mark m slot (shape_in way w.params u) []))) _ _
            (both g t k f (storing_piece g t k w.line m (slot_bound w r) (slot_named w q) slot c _ (shape_in way w.params u)
            (behind_kept way w.params names m slot ready (omega arith)) (omega (arith, slot_high w.params (length names) ready.low, asked.params)) hi
            (λ e. omega (arith, e, lower)) (λ e. omega (arith, e, lower_q))
            (steady_under w.params names c (place_low way w.params m.slots names ready.named) steady) (plain_in way w.params u) fact
            (λ x v i. subst (λ y. Is x (shape_in y w.params u) v) (sym by.by) (part_becomes by.tops by.task w.params w.scope.next r sp high begins x v
            (subst (λ y. Is x (region (Some sp) (part (origin_in y w.params (term.Name r)))) v) by.by i)))));
        ready = record {
          named = plain.named;
          beside = plain.beside;
          free = plain.free;
          numbered = plain.numbered;
          facts = (is_piece (length names) (bound w q).place c (omega arith) (omega (arith, low_q)) (subst (λ v. IsSteadyColour w.params (loops_in v (b ∷ names)) c) (sym by.by) (colour_below w.params names (b ∷ names) c (λ d h. inr h) steady)), (is_begun (length names) (bound_as names r).place (omega arith) (omega (arith, low)), plain.facts));
          low = plain.low;
          fixed = refl;
        };
        narrower = narrow_set m.slots m.slots slot _ (narrow_itself m.slots) (inl (ready.free slot (omega arith) hi));
        facts = λ l a. inr (inr a);
        new = λ l a. ⊎_elim (λ e. inr (subst (IsBehind w.params) e (slot_high w.params (length names) ready.low)))
            (⊎_elim (λ e. inr (subst (IsBehind w.params) e (slot_high w.params (length names) ready.low))) (λ h. inl h)) a;
        scoped = scoped_bound forms.keeps way w.tree w.scope form b refl told asked.scoped (λ all. refl);
        cut = cut_bound forms.keeps way w.tree w.scope form b w.params m.facts fs refl told (λ l a. inr (inr a)) asked.cut
            (λ tops task same d l e.
            let one : r ≡ d.0 = ap (λ (y : ℕ × ℕ). y.0) (same_Some _ d (sym (subst (λ v. BeginsUnder v w.params w.scope.next r) same under) ∙ e)) in (
              subst (λ n. IsRegion (bound_as names n).static_type) one there,
              subst (λ n. Among fs (lies (in_slot slot) (in_slot (slot_at w.params (bound_as names n).place)))) one (inr (inl refl)),
              λ p z a.
                  let f = said tops task same p z a in (
                    f.0,
                    f.2,
                    subst (λ s. Among fs (lies (in_slot slot) (child_in s (held_of w.params names z)))) (sym f.1)
                        (subst (λ y. Among fs (lies (in_slot slot) (child_in (slot_named w q) y))) f.3 (inl refl)),
                  ),
            ));
      }

  -- what is told of the next region, where it is the part by an index
  said_piece : (x q : Name) (i : Expression) (cut : IsCutName w q) (is : IsRegion (typed w (access_expr q (at_step i no_step)))) (said : Option TypeTerm) →
      IsRegion (var_type w.tree w.scope said (Some (plain_initializer (access_expr q (at_step i no_step))))) → forms.keeps ≡ true →
      UpTo way w.tree (scope_after w.tree w.scope (var_form x said (Some (plain_initializer (access_expr q (at_step i no_step)))))) → IsSaidPiece q (colour_at w i)
  said_piece x q i cut is said new_is keeps up tops task by p z h =
      let k = Within (term.Name w.scope.next) (term.Child p z) in
      let y = access_expr q (at_step i no_step) in
      let kept = subst (λ v. Ground t v w.tree w.params w.scope) by asked.ground in
      let scoped = subst (λ v. ScopedBy v w.scope.names) by (asked.scoped keeps) in
      let upto = subst (λ v. UpTo v w.tree (scope_after w.tree w.scope (var_form x said (Some (plain_initializer y))))) by up in
      let kc = known_of_child w.scope.next (typed w y) in
      let u = var_type w.tree w.scope said (Some (plain_initializer y)) in
      let kt = known_of_type u in
      let own : term_in (typed w y) ≡ term.Child p z = ⊎_elim
      (λ g. ⊎_elim
      (λ old. absurd (none_old kept old))
      (λ new. ⊎_elim (own_told w.scope.next p z (typed w y) is) (λ d. absurd (no_type_told u new_is k d)) (Has-append_cases kc kt k new))
      (Has-append_cases w.scope.known (kc ++ kt) k g))
      (λ more. absurd (behind_it (upto.behind k more)))
      (Has-append_cases (w.scope.known ++ (kc ++ kt)) upto.more k (subst (λ ks. Has ks k) upto.known h)) in
      let same = sym (part_term w q i cut.partition (scoped_named w.scope.names w.scope.names q scoped cut.named) is) ∙ own in
      let at = (found_by_number w.scope.next w.scope.names q cut.numbers cut.named).0 in
      let number : (bound w q).number ≡ p = ap cut_in same in
      let held = colour_held w i cut.numbers in (
        subst (λ n. IsPartition (bound_as w.scope.names n).static_type) number (subst (λ (b : Bound). IsPartition b.static_type) (sym at) cut.partition),
        sym (ap (λ n. slot_bound w n) number) ∙ ap (λ (b : Bound). slot_at w.params b.place) at,
        subst (IsLoopIn w.scope.names) (ap colour_in same) held.0,
        held.1 ∙ ap (held_of w.params w.scope.names) (ap colour_in same),
      )
    where
      behind_it : suc w.scope.next ≤ w.scope.next → ⊥
      behind_it l = omega (arith, l)

      none_old : {tops : Tops} {task : TaskTree} → Kept t tops task w.tree w.params w.scope → Has w.scope.known (Within (term.Name w.scope.next) (term.Child p z)) → ⊥
      none_old kept old = ⊎_elim
          (λ d. absurd (subst IsChildTerm d.is_upper tt))
          (λ d. let same : w.scope.next ≡ d.own = ap number_in d.is_lower in omega (arith, same, d.low))
          (kept.head.within (term.Name w.scope.next) (term.Child p z) (Contains-from_Has w.scope.known _ old))

  -- a part that a variable of a region's type keeps
  part_kept : (x q : Name) (i : Expression) (said : Option TypeTerm) → ToldForm way w.tree w.scope (var_form x said (Some (plain_initializer (access_expr q (at_step i no_step))))) →
      UpTo way w.tree (scope_after w.tree w.scope (var_form x said (Some (plain_initializer (access_expr q (at_step i no_step)))))) → forms.keeps ≡ true →
      (b : BeginsAsPart forms.takes w (access_expr q (at_step i no_step)) (IsIndexed forms w (access_expr q (at_step i no_step)))) →
      takes_part true w (access_expr q (at_step i no_step)) ≡ true → (j : Kind) (args : List Reach) →
      var_type w.tree w.scope said (Some (plain_initializer (access_expr q (at_step i no_step))))
      ≡ region_type j (part_is w q i b.0.1 b.0.2).space args (term.Name w.scope.next) →
      initializer_code w said (var_type w.tree w.scope said (Some (plain_initializer (access_expr q (at_step i no_step)))))
      (Some (plain_initializer (access_expr q (at_step i no_step)))) ≡ expr_code w 0 (access_expr q (at_step i no_step)) ⨟ empty → (pc : ℕ) →
      Stands t.body pc (form_code w (var_form x said (Some (plain_initializer (access_expr q (at_step i no_step)))))) → slot_at w.params (length w.scope.names) < length m.slots →
      Followed g t k forms.keeps way w.tree w.params (after_form w (var_form x said (Some (plain_initializer (access_expr q (at_step i no_step)))))).scope.names m
      (form_code w (var_form x said (Some (plain_initializer (access_expr q (at_step i no_step))))))
  part_kept x q i said told up keeps b whole j args type code pc st hi =
      let y = access_expr q (at_step i no_step) in
      let form = var_form x said (Some (plain_initializer y)) in
      let names = w.scope.names in
      let own = var_type w.tree w.scope said (Some (plain_initializer y)) in
      let kind = part_is w q i b.0.1 b.0.2 in
      let r = parent_of (bound w q).static_type in
      let cut = b.0.0 in
      let is = part_parent w q i cut.partition b.0.2 in
      let found = region_found names r is in
      let low : r < w.scope.next = subst (λ n. n < w.scope.next) found.1 (found_among w.scope.next names (bound_as names r) cut.numbers found.0).1 in
      let there = parent_there g t k slots forms way w m asked q keeps cut in
      let stands = subst (Stands t.body pc) code st.0 in
      let taken = both g t k (piece_taken g t k slots forms way w m asked q keeps cut 0 [] (bound w q).static_type i (colour_at w i) cut.partition b.0.3.1
      (λ p s. coloured g t k slots forms way w m asked 0 [] i b.0.3.0 b.0.3.1 (value_marked g t k slots have forms way w m asked i [] b.0.3.0 (λ a. (and_parts _ _ whole).1)
      (told_at w.tree w.scope way q i (told_head w.tree w.scope way form y refl told)) p s)) pc stands.0) (nothing_done g t k _) in
      let new_is = subst IsRegion (sym type) (a_region_type j kind.space args (term.Name w.scope.next)) in
      let store = op (instr.Store (slot_at w.params (length names))) w.line in
      subst (λ (c : Piece). Followed g t k forms.keeps way w.tree w.params (new_name g t k slots have forms way w m asked x own ∷ names) m (c ⨟ store)) (sym code)
      (subst (λ u. Followed g t k forms.keeps way w.tree w.params (new_name g t k slots have forms way w m asked x u ∷ names) m ((expr_code w 0 y ⨟ empty) ⨟ store)) (sym type)
      (bind_part x q (colour_at w i) (colour_steady w i) cut.named (said_piece x q i cut b.0.2 said new_is keeps up) j kind.space args r form (expr_code w 0 y ⨟ empty) keeps told is
      (cut_of g t k slots forms way w m asked q keeps cut).fact (begins_under forms t way w.tree w.params w.scope.next r asked.params keeps asked.hands b.2 low) (ruled g t k slots forms way w m asked keeps).kept.next
      (numbered_at names m.slots _ _ asked.ready.numbered there)
      (subst (λ sp. Marked g t k (stacked m []) (expr_code w 0 y ⨟ empty)
      (topped m (region (Some sp) (part (origin_in way w.params (term.Name r))) ∷ []) (top_at (child_in (slot_named w q) (colour_at w i))))) (sym kind.of_space) taken) hi))

  -- `var x = q[i]`
  pub piece_marked : (x : Name) (e : Expression) → ToldForm way w.tree w.scope (var_form x None (Some (plain_initializer e))) →
      UpTo way w.tree (scope_after w.tree w.scope (var_form x None (Some (plain_initializer e)))) → forms.keeps ≡ true →
      BeginsAsPart forms.takes w e (IsIndexed forms w e) → takes_part true w e ≡ true → (pc : ℕ) →
      Stands t.body pc (begun_form w None (Some (plain_initializer e))) → slot_at w.params (length w.scope.names) < length m.slots →
      Followed g t k forms.keeps way w.tree w.params (after_form w (var_form x None (Some (plain_initializer e)))).scope.names m
      (begun_form w None (Some (plain_initializer e)))
  piece_marked x (access_expr q (at_step i no_step)) told up keeps b whole pc st hi =
      let kind = part_is w q i b.0.1 b.0.2 in
      part_kept x q i None told up keeps b whole kind.kind kind.args (ap (owned w.scope.next) kind.is)
      (ap (λ u. plain_code w (owned w.scope.next u) (access_expr q (at_step i no_step))) kind.is) pc st hi
  piece_marked x _ told up keeps b whole pc st hi = absurd b

  -- `var x : t = q[i]`
  pub piece_said : (x : Name) (said : TypeTerm) (e : Expression) → ToldForm way w.tree w.scope (var_form x (Some said) (Some (plain_initializer e))) →
      UpTo way w.tree (scope_after w.tree w.scope (var_form x (Some said) (Some (plain_initializer e)))) → forms.keeps ≡ true →
      BeginsAsPart forms.takes w e (IsIndexed forms w e) → takes_part true w e ≡ true →
      IsLike (var_type w.tree w.scope (Some said) (Some (plain_initializer e))) (owned w.scope.next (typed w e)) → (pc : ℕ) →
      Stands t.body pc (begun_form w (Some said) (Some (plain_initializer e))) → slot_at w.params (length w.scope.names) < length m.slots →
      Followed g t k forms.keeps way w.tree w.params (after_form w (var_form x (Some said) (Some (plain_initializer e)))).scope.names m
      (begun_form w (Some said) (Some (plain_initializer e)))
  piece_said x said (access_expr q (at_step i no_step)) told up keeps b whole like pc st hi =
      let kind = part_is w q i b.0.1 b.0.2 in
      let u = var_type w.tree w.scope (Some said) (Some (plain_initializer (access_expr q (at_step i no_step)))) in
      let is = like_root u kind.kind kind.space kind.args (term.Name w.scope.next) (subst (IsLike u) (ap (owned w.scope.next) kind.is) like) in
      part_kept x q i (Some said) told up keeps b whole is.kind is.args is.is (ap (λ v. written_code w v (access_expr q (at_step i no_step))) is.is) pc st hi
  piece_said x said _ told up keeps b whole like pc st hi = absurd b
