-- Statements that make partitions and keep them have marks. What is known of a new one is of which region it is.
use Rattle.std.proofs.Common.{⊎_elim, ◌≡◌, inl, inr, ℕ, suc, ◌<◌, List, [], ◌∷◌, Bool, true, false, ◌||◌, None, Option, Some, refl, sym, ap, ◌∙◌, subst, arith}
use Rattle.std.specs.Prelude.{length}
use Rattle.regent_tree.specs.Accesses.{space_in}
use Rattle.regent_tree.specs.Scopes.{bound_as}
use Rattle.regent_tree.specs.StaticTypes.{field_place}
use Rattle.regent_tree.specs.Syntax.{a_link, access_expr, both_initializer, Initializer, by_field_initializer, chain_expr, either_initializer, equal_initializer, Expression, Form, image_initializer, Name, no_link, no_step, plain_initializer, preimage_initializer, var_form}
use Rattle.regent_tree.specs.Partitions.{both_flag, by_field_flag, either_flag, equal_flag, image_flag, preimage_flag}
use Rattle.regent_tree.specs.Typing.{initializer_type, is_disjoint, operated, owned, parent_of, var_type}
use Rattle.regent_tree.specs.declared.expression.Arithmetic.TheVariants.{Subtract}
use Rattle.regent_tree.specs.declared.expression.Operator.TheVariants.{Compute}
use Rattle.regent_tree.specs.declared.rights.Access.TheVariants as access
use Rattle.regent_tree.specs.declared.types.TypeTerm.{TypeTerm}
use Rattle.regent_tree.specs.declared.typing.Bound.{Bound}
use Rattle.regent_tree.specs.declared.typing.StaticType.{StaticType}
use Rattle.regent_tree.specs.declared.typing.StaticType.TheVariants.{Partition as partition_type}
use Rattle.task_code.specs.declared.code.TaskCode.{TaskCode}
use Rattle.task_code.specs.declared.instr.Instr.TheVariants as instr
use Rattle.check_laws.proofs.Scopes.{found_by_number}
use Rattle.code_rules.specs.Expressions.{expr_code}
use Rattle.code_rules.specs.Initializers.{plain_code, written_code}
use Rattle.code_rules.specs.Pieces.{op, Piece, ◌⨟◌}
use Rattle.code_rules.specs.Slots.{bound, slot_bound, slot_named, typed, Where}
use Rattle.code_rules.specs.Statements.{after_form, form_code}
use Rattle.code_laws.specs.Arguments.{ArePaired, IsCutName, IsParent, LiesBelow, parent_bound}
use Rattle.code_laws.specs.Pointers.{IsLike}
use Rattle.code_laws.specs.Simple.{a_partition_type, IsPartition, IsRegion, IsSpace}
use Rattle.code_laws.specs.Standing.{Stands}
use Rattle.code_laws.specs.Steps.{Forms}
use Rattle.code_laws.specs.Typed.{IsDifference, IsScanned, IsTyped}
use Rattle.fit_laws.proofs.Keeping.{set_mark}
use Rattle.fit_laws.proofs.Lookup.{each_among}
use Rattle.lane_kernels.specs.declared.numbers.Mode.TheVariants as mode
use Rattle.std.proofs.Common.{nat_lt, suc}
use Rattle.code_rules.specs.Statements.{begun_form}
use Rattle.sound_code.specs.Named.{Ready}
use Rattle.sound_code.proofs.Combining.{fixed_to}
use Rattle.sound_code.proofs.Placing.{named_as}
use Rattle.sound_code.proofs.SlotShapes.{partition_plain, pointer_plain, region_plain, slot_bare, slot_is, slot_numbered, slot_plain}
use Rattle.sound_code.specs.Named.{name_shape, slot_shape}
use Rattle.sound_code.proofs.Grounds.{Ground, OfType}
use Rattle.fit_rules.specs.Shapes.{Among, partition, Shape, space}
use Rattle.fit_rules.specs.Marks.{Holds, Mark, parted, stacked, topped, top_parted}
use Rattle.fit_rules.specs.Fits.{Program}
use Rattle.fit_rules.specs.Sound.{Allowed, HasRegion}
use Rattle.sound_code.specs.Places.{IsBehind}
use Rattle.sound_code.specs.Named.{HasSlots, is_parted, IsSteady, slot_at, loops_in}
use Rattle.sound_code.proofs.WholeTasks.{is_whole_expression}
use Rattle.sound_code.specs.Ways.{Way}
use Rattle.sound_code.proofs.Asked.{Asked}
use Rattle.sound_code.proofs.Below.{lies_below, parted_above}
use Rattle.sound_code.proofs.Combining.{behind_kept, both, Marked, slot_high, fixed_to, fixing}
use Rattle.sound_code.proofs.Cuts.{cut_bound, place_as}
use Rattle.sound_code.proofs.Parts.{cut_of as partition_of, IsCutOf}
use Rattle.sound_code.proofs.Cutting.{any_partition, cut_by_field, cut_equal, cut_image, cut_join, cut_meet, cut_minus, cut_preimage, knowing, storing_cut}
use Rattle.sound_code.proofs.Granting.{allowed, InPlace, May}
use Rattle.sound_code.proofs.Liking.{like_cut}
use Rattle.sound_code.proofs.Narrowing.{narrow_itself, narrow_set}
use Rattle.sound_code.proofs.Placing.{named_at, placed_at, region_named}
use Rattle.sound_code.proofs.Scoped.{is_by_rules, IsByRules, placed_as, region_as, region_found}
use Rattle.code_laws.proofs.LocalGoals.{bound_among}
use Rattle.sound_code.proofs.ScopedNames.{scoped_bound}
use Rattle.sound_code.proofs.Statements.{Followed, named_more, new_name, space_marked}
use Rattle.sound_code.proofs.Told.{told_head, ToldForm}
use Rattle.sound_code.proofs.Wanting.{may_scan}
use Rattle.sound_code.proofs.Wholes.{Asks}

abbrev difference : Name → Name → Expression
difference p q = chain_expr (access_expr p no_step) (a_link (Compute Subtract) (access_expr q no_step) no_link)

module _ (g : Program) (t : TaskCode) (k slots : ℕ) (have : HasSlots t slots) (forms : Forms) (way : Way) (w : Where) (m : Mark)
    (asked : Asked g t k slots forms way w m) where
  -- a partition is kept by a new name, of the region with a number
  bind_cut : (n : Name) (sp : Option ℕ) (d e : Bool) (r s : ℕ) (form : Form) (p : Piece) → ToldForm way w.tree w.scope form → (e ≡ true → d ≡ true) →
      IsRegion (bound_as w.scope.names r).static_type → s ≡ slot_bound w r →
      Marked g t k (stacked m []) p (topped m (partition sp d ∷ []) (top_parted s)) → slot_at w.params (length w.scope.names) < length m.slots →
      Followed g t k forms.keeps way w.tree w.params (new_name g t k slots have forms way w m asked n (partition_type e r w.scope.next) ∷ w.scope.names) m
      (p ⨟ op (instr.Store (slot_at w.params (length w.scope.names))) w.line)
  bind_cut n sp d e r s form p told flag region same f hi =
      let ready = asked.ready in
      let names = w.scope.names in
      let slot = slot_at w.params (length names) in
      let u = partition_type e r w.scope.next in
      let b = new_name g t k slots have forms way w m asked n u in
      let low = place_as way w.params m.slots names r ready.named region in
      let lower : slot_bound w r < slot = omega (arith, low) in
      let c = nat_lt (length names) w.params in
      let plain = subst (λ y. Ready way w.params (b ∷ names) (fixed_to (slot_at w.params (suc (length names))) (set_mark m slot y []))) (slot_plain c (partition None e) refl)
      (named_more way w.params names m b ready hi refl (slot_numbered (b ∷ names) c (partition None e) tt) refl) in
      record {
        next = fixed_to (slot_at w.params (suc (length names))) (knowing (parted slot s) (set_mark m slot (partition None e) []));
        is = fixing g t k _ (knowing (parted slot s) (set_mark m slot (partition None e) [])) _ _ (both g t k f (storing_cut g t k w.line m s slot (partition sp d) (partition None e) (behind_kept way w.params names m slot ready (omega arith))
            (omega (arith, slot_high w.params (length names) ready.low, asked.params)) hi (λ q. omega (arith, q, same, lower)) tt
            (λ x v i. any_partition x sp d e v flag i)));
        ready = record {
          named = plain.named;
          beside = plain.beside;
          free = plain.free;
          numbered = plain.numbered;
          facts = (
            subst (λ y. IsSteady w.params (suc (length names)) (loops_in way (b ∷ names)) (parted slot y)) (sym same) (is_parted (length names) (bound_as names r).place (omega arith) (omega (arith, low))),
            plain.facts,
          );
          low = plain.low;
          fixed = refl;
        };
        narrower = narrow_set m.slots m.slots slot _ (narrow_itself m.slots) (inl (ready.free slot (omega arith) hi));
        facts = λ l a. inr a;
        new = λ l a. ⊎_elim (λ e. inr (subst (IsBehind w.params) e (slot_high w.params (length names) ready.low))) (λ h. inl h) a;
        scoped = scoped_bound forms.keeps way w.tree w.scope form b refl told asked.scoped (λ all. refl);
        cut = cut_bound forms.keeps way w.tree w.scope form b w.params m.facts (parted slot s ∷ m.facts) refl told (λ l a. inr a) asked.cut
            (λ tops task by. (region, inl (ap (parted slot) same)));
      }

  -- ---- what is known of partitions that names have

  abbrev IsOf : Name → ℕ → Type 0
  IsOf n r = IsCutOf w m n r

  cut_of : (n : Name) → forms.keeps ≡ true → IsCutName w n → IsOf n (parent_of (bound w n).static_type)
  cut_of n q c = partition_of g t k slots forms way w m asked n q c

  -- the region with a number, in its slot
  region_there : (r : ℕ) → IsRegion (bound_as w.scope.names r).static_type → HasRegion m (Some (space_in (bound_as w.scope.names r).static_type)) (slot_bound w r)
  region_there r is = region_named way w.params m (slot_bound w r) (bound_as w.scope.names r).static_type is
      (region_as way w.params m.slots w.scope.names r asked.ready.named is)

  found : (n : Name) → IsParent w n → bound_as w.scope.names (bound w n).number ≡ bound w n
  found n p = (found_by_number w.scope.next w.scope.names n p.numbers p.named).0

  parent_region : (n : Name) → IsParent w n → IsRegion (bound_as w.scope.names (bound w n).number).static_type
  parent_region n p = subst (λ (b : Bound). IsRegion b.static_type) (sym (found n p)) p.region

  parent_slot : (n : Name) → IsParent w n → slot_named w n ≡ slot_bound w (bound w n).number
  parent_slot n p = ap (λ (b : Bound). slot_at w.params b.place) (sym (found n p))

  parent_there : (n : Name) → IsParent w n → HasRegion m (Some (space_in (bound w n).static_type)) (slot_named w n)
  parent_there n p = region_named way w.params m (slot_named w n) (bound w n).static_type p.region
      (named_as way w.params m.slots w.scope.names n asked.ready.named p.named (region_plain way w.params _ p.region))

  -- a name's region that has a parameter's number stands in its place
  placed_of : (v : Way) → IsByRules v → (r : Name) → InPlace v w.params (bound w r).place (bound w r).static_type →
      OfType w.params (bound w r).place (bound w r).static_type
  placed_of _ (is_by_rules tops task) r h = h

  placed_name : forms.keeps ≡ true → (r : Name) → IsParent w r → OfType w.params (bound w r).place (bound w r).static_type
  placed_name q r p = placed_of way (asked.ruled q) r (placed_at t way w.tree w.params w.scope r asked.ground p.named)

  placed_by : (v : Way) → IsByRules v → Ground t v w.tree w.params w.scope → (r : ℕ) → IsRegion (bound_as w.scope.names r).static_type →
      OfType w.params (bound_as w.scope.names r).place (bound_as w.scope.names r).static_type
  placed_by _ (is_by_rules tops task) kept r is = placed_as w.params w.scope.names r kept.placed is

  -- ---- statements

  abbrev Binds : Form → Type 0
  Binds form = Followed g t k forms.keeps way w.tree w.params (after_form w form).scope.names m (form_code w form)

  -- a name that begins so is bound to a partition of the region with a number, said to be disjoint or not
  abbrev Makes : Name → Bool → ℕ → Form → Type 0
  Makes x c r form = Followed g t k forms.keeps way w.tree w.params
      (new_name g t k slots have forms way w m asked x (partition_type c r w.scope.next) ∷ w.scope.names) m (form_code w form)

  -- so it is where its type is written
  pub said_cut : (x : Name) (st : TypeTerm) (start : Initializer) (d : Bool) (r : ℕ) →
      IsLike (var_type w.tree w.scope (Some st) (Some start)) (partition_type d r w.scope.next) →
      ((c : Bool) → (c ≡ true → d ≡ true) → Makes x c r (var_form x (Some st) (Some start))) → Binds (var_form x (Some st) (Some start))
  said_cut x st start d r like made =
      let is = like_cut _ d r w.scope.next like in
      subst (λ u. Followed g t k forms.keeps way w.tree w.params (new_name g t k slots have forms way w m asked x u ∷ w.scope.names) m
      (form_code w (var_form x (Some st) (Some start)))) (sym is.is) (made is.flag is.disjoint)

  abbrev HasRoom : Type 0
  HasRoom = slot_at w.params (length w.scope.names) < length m.slots

  pub equal_marked : (x : Name) (said : Option TypeTerm) (c : Bool) (r : Name) (e : Expression) →
      ToldForm way w.tree w.scope (var_form x said (Some (equal_initializer r e))) → (c ≡ true → equal_flag ≡ true) → IsSpace (typed w e) →
      IsTyped forms w e → Asks forms.keeps (is_whole_expression true w e) → IsParent w r → (pc : ℕ) → Stands t.body pc (expr_code w 0 e) → HasRoom →
      Makes x c (bound w r).number (var_form x said (Some (equal_initializer r e)))
  equal_marked x said c r e told flag is_space is whole parent pc st room =
      let form = var_form x said (Some (equal_initializer r e)) in
      bind_cut x _ true c (bound w r).number (slot_named w r) form _ told flag (parent_region r parent) (parent_slot r parent)
      (both g t k (space_marked g t k slots have forms way w m asked e is_space is whole (told_head w.tree w.scope way form e refl told) pc st)
      (cut_equal g t k w.line m (slot_named w r) _ (parent_there r parent))) room

  -- the field by which one is made
  scanned : (x r l : Name) (init : Initializer) (us : List Shape) → IsScanned forms w r l →
      May way w.tree w.scope (bound w r).static_type (field_place w.tree (space_in (bound w r).static_type) l) access.Read →
      Allowed g t (stacked m us) (space_in (bound w r).static_type) (field_place w.tree (space_in (bound w r).static_type) l) mode.Read (slot_named w r)
  scanned x r l init us h may = allowed g t w.tree w.params w.scope m asked.params way asked.known asked.ground asked.facts (bound w r).static_type (bound w r).place
      (field_place w.tree (space_in (bound w r).static_type) l) access.Read us h.parent.region
      (named_as way w.params m.slots w.scope.names r asked.ready.named h.parent.named (region_plain way w.params _ h.parent.region))
      (placed_at t way w.tree w.params w.scope r asked.ground h.parent.named) h.field may

  pub by_field_marked : (x : Name) (said : Option TypeTerm) (c : Bool) (r l : Name) (e : Expression) →
      ToldForm way w.tree w.scope (var_form x said (Some (by_field_initializer r l e))) → (c ≡ true → by_field_flag ≡ true) → IsSpace (typed w e) →
      IsTyped forms w e → Asks forms.keeps (is_whole_expression true w e) → IsScanned forms w r l → (pc : ℕ) → Stands t.body pc (expr_code w 0 e) → HasRoom →
      Makes x c (bound w r).number (var_form x said (Some (by_field_initializer r l e)))
  by_field_marked x said c r l e told flag is_space is whole scan pc st room =
      let init = by_field_initializer r l e in
      let form = var_form x said (Some init) in
      bind_cut x _ true c (bound w r).number (slot_named w r) form _ told flag (parent_region r scan.parent) (parent_slot r scan.parent)
      (both g t k (space_marked g t k slots have forms way w m asked e is_space is whole (told_head w.tree w.scope way form e refl told) pc st)
      (cut_by_field g t k w.line m (slot_named w r) _ _
      (scanned x r l init (space ∷ []) scan (may_scan way w x said r l init scan.parent.region scan.field refl told)))) room

  pub image_marked : (x : Name) (said : Option TypeTerm) (c : Bool) (s p r l : Name) →
      ToldForm way w.tree w.scope (var_form x said (Some (image_initializer s p r l))) → (c ≡ true → image_flag ≡ true) → forms.keeps ≡ true → IsParent w s →
      IsCutName w p → IsScanned forms w r l → LiesBelow forms.takes w (parent_bound w p) (bound w r) → HasRoom →
      Makes x c (bound w s).number (var_form x said (Some (image_initializer s p r l)))
  image_marked x said c s p r l told flag keeps parent cut scan below room =
      let init = image_initializer s p r l in
      let of = cut_of p keeps cut in
      let number = parent_of (bound w p).static_type in
      bind_cut x _ false c (bound w s).number (slot_named w s) (var_form x said (Some init)) _ told flag (parent_region s parent) (parent_slot s parent)
      (cut_image g t k w.line m (slot_named w s) (slot_named w p) (slot_named w r) _ _ None _ (parent_there s parent)
      (record { disjoint = of.disjoint; shape = of.shape })
      (scanned x r l init [] scan (may_scan way w x said r l init scan.parent.region scan.field refl told))
      (λ y vs st q. parted_above vs (slot_named w p) (slot_bound w number) (slot_named w r)
      (each_among (λ f. Holds f vs) m.facts (parted (slot_named w p) (slot_bound w number)) of.fact q.facts)
      (lies_below g t k slots forms way w m asked keeps (parent_bound w p) (bound w r) (region_found w.scope.names number of.region).0 of.region scan.parent.region (placed_by way (asked.ruled keeps) asked.ground number of.region)
      (placed_name keeps r scan.parent) below y vs st q))) room

  pub preimage_marked : (x : Name) (said : Option TypeTerm) (c : Bool) (s p r l : Name) →
      ToldForm way w.tree w.scope (var_form x said (Some (preimage_initializer s p r l))) → (c ≡ true → preimage_flag (is_disjoint (bound w p).static_type) ≡ true) →
      forms.keeps ≡ true → IsParent w s → IsCutName w p → IsScanned forms w r l → LiesBelow forms.takes w (bound w s) (bound w r) → HasRoom →
      Makes x c (bound w s).number (var_form x said (Some (preimage_initializer s p r l)))
  preimage_marked x said c s p r l told flag keeps parent cut scan below room =
      let init = preimage_initializer s p r l in
      let of = cut_of p keeps cut in
      bind_cut x _ of.disjoint c (bound w s).number (slot_named w s) (var_form x said (Some init)) _ told (λ y. sym of.is ∙ flag y)
      (parent_region s parent) (parent_slot s parent)
      (cut_preimage g t k w.line m (slot_named w s) (slot_named w p) (slot_named w r) _ _ None _ of.disjoint (parent_there s parent) of.shape
      (scanned x r l init [] scan (may_scan way w x said r l init scan.parent.region scan.field refl told))
      (lies_below g t k slots forms way w m asked keeps (bound w s) (bound w r) (bound_among w.scope.names s parent.named) parent.region scan.parent.region (placed_name keeps s parent)
      (placed_name keeps r scan.parent) below)) room

  pub meet_marked : (x : Name) (said : Option TypeTerm) (c : Bool) (p q : Name) → ToldForm way w.tree w.scope (var_form x said (Some (both_initializer p q))) →
      (c ≡ true → both_flag (is_disjoint (bound w p).static_type) (is_disjoint (bound w q).static_type) ≡ true) → forms.keeps ≡ true → ArePaired w p q → HasRoom →
      Makes x c (parent_of (bound w p).static_type) (var_form x said (Some (both_initializer p q)))
  meet_marked x said c p q told flag keeps pair room =
      let one = cut_of p keeps pair.first in
      let two = cut_of q keeps pair.second in
      let number = parent_of (bound w p).static_type in
      bind_cut x _ (one.disjoint || two.disjoint) c number (slot_bound w number) (var_form x said (Some (both_initializer p q))) _ told
      (λ y. ap (λ b. b || two.disjoint) (sym one.is) ∙ ap (λ b. is_disjoint (bound w p).static_type || b) (sym two.is) ∙ flag y) one.region refl
      (cut_meet g t k w.line m (slot_named w p) (slot_named w q) (slot_bound w number) None None _ one.disjoint two.disjoint one.shape two.shape
      (region_there number one.region) one.fact) room

  pub join_marked : (x : Name) (said : Option TypeTerm) (c : Bool) (p q : Name) → ToldForm way w.tree w.scope (var_form x said (Some (either_initializer p q))) →
      (c ≡ true → either_flag ≡ true) → forms.keeps ≡ true → ArePaired w p q → HasRoom →
      Makes x c (parent_of (bound w p).static_type) (var_form x said (Some (either_initializer p q)))
  join_marked x said c p q told flag keeps pair room =
      let one = cut_of p keeps pair.first in
      let two = cut_of q keeps pair.second in
      let number = parent_of (bound w p).static_type in
      bind_cut x _ false c number (slot_bound w number) (var_form x said (Some (either_initializer p q))) _ told flag one.region refl
      (cut_join g t k w.line m (slot_named w p) (slot_named w q) (slot_bound w number) None None _ (record { disjoint = one.disjoint; shape = one.shape })
      (record { disjoint = two.disjoint; shape = two.shape }) (region_there number one.region) one.fact
      (subst (λ i. Among m.facts (parted (slot_named w q) (slot_bound w i))) (sym pair.parents) two.fact)) room

  -- a difference of two, by the types of both
  minus_by : (x : Name) (p q : Name) (u v : StaticType) → ToldForm way w.tree w.scope (var_form x None (Some (plain_initializer (difference p q)))) →
      IsPartition u → IsOf p (parent_of u) → is_disjoint (bound w p).static_type ≡ is_disjoint u → IsOf q (parent_of u) → HasRoom →
      Followed g t k forms.keeps way w.tree w.params
      (new_name g t k slots have forms way w m asked x (owned w.scope.next (operated (Compute Subtract) u v)) ∷ w.scope.names) m
      (plain_code w (owned w.scope.next (operated (Compute Subtract) u v)) (difference p q) ⨟ op (instr.Store (slot_at w.params (length w.scope.names))) w.line)
  minus_by x p q _ v told (a_partition_type d r i) one same two room =
      bind_cut x _ one.disjoint d r (slot_bound w r) (var_form x None (Some (plain_initializer (difference p q)))) _ told (λ y. sym one.is ∙ same ∙ y) one.region refl
      (cut_minus g t k w.line m (slot_named w p) (slot_named w q) (slot_bound w r) None None _ one.disjoint one.shape
      (record { disjoint = two.disjoint; shape = two.shape }) (region_there r one.region) one.fact) room

  -- so where its type is written, which is like that of the first
  minus_like : (x : Name) (st : TypeTerm) (p q : Name) (u v : StaticType) → ToldForm way w.tree w.scope (var_form x (Some st) (Some (plain_initializer (difference p q)))) →
      IsPartition u → IsOf p (parent_of u) → is_disjoint (bound w p).static_type ≡ is_disjoint u → IsOf q (parent_of u) → HasRoom →
      IsLike (var_type w.tree w.scope (Some st) (Some (plain_initializer (difference p q)))) (owned w.scope.next (operated (Compute Subtract) u v)) →
      Binds (var_form x (Some st) (Some (plain_initializer (difference p q))))
  minus_like x st p q _ v told (a_partition_type d r i) one same two room like =
      let form = var_form x (Some st) (Some (plain_initializer (difference p q))) in
      let is = like_cut _ d r w.scope.next like in
      subst (λ u. Followed g t k forms.keeps way w.tree w.params (new_name g t k slots have forms way w m asked x u ∷ w.scope.names) m
      (written_code w u (difference p q) ⨟ op (instr.Store (slot_at w.params (length w.scope.names))) w.line)) (sym is.is)
      (bind_cut x _ one.disjoint is.flag r (slot_bound w r) form _ told (λ y. sym one.is ∙ same ∙ is.disjoint y) one.region refl
      (cut_minus g t k w.line m (slot_named w p) (slot_named w q) (slot_bound w r) None None _ one.disjoint one.shape
      (record { disjoint = two.disjoint; shape = two.shape }) (region_there r one.region) one.fact) room)

  pub minus_said : (x : Name) (st : TypeTerm) (e : Expression) → ToldForm way w.tree w.scope (var_form x (Some st) (Some (plain_initializer e))) → forms.keeps ≡ true →
      IsDifference w e → IsLike (var_type w.tree w.scope (Some st) (Some (plain_initializer e))) (initializer_type w.tree w.scope w.scope.next (plain_initializer e)) →
      HasRoom →
      Followed g t k forms.keeps way w.tree w.params (after_form w (var_form x (Some st) (Some (plain_initializer e)))).scope.names m (begun_form w (Some st) (Some (plain_initializer e)))
  minus_said x st (chain_expr (access_expr p no_step) (a_link (Compute Subtract) (access_expr q no_step) no_link)) told keeps pair like room =
      minus_like x st p q (bound w p).static_type (bound w q).static_type told pair.first.partition (cut_of p keeps pair.first) refl
      (subst (IsOf q) (sym pair.parents) (cut_of q keeps pair.second)) room like
  minus_said x st _ told keeps d like room = absurd d

  pub minus_marked : (x : Name) (e : Expression) → ToldForm way w.tree w.scope (var_form x None (Some (plain_initializer e))) → forms.keeps ≡ true →
      IsDifference w e → HasRoom →
      Followed g t k forms.keeps way w.tree w.params (after_form w (var_form x None (Some (plain_initializer e)))).scope.names m (begun_form w None (Some (plain_initializer e)))
  minus_marked x (chain_expr (access_expr p no_step) (a_link (Compute Subtract) (access_expr q no_step) no_link)) told keeps pair room =
      minus_by x p q (bound w p).static_type (bound w q).static_type told pair.first.partition (cut_of p keeps pair.first) refl
      (subst (IsOf q) (sym pair.parents) (cut_of q keeps pair.second)) room
  minus_marked x _ told keeps d room = absurd d
