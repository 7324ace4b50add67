-- What is known behind a statement where a task is looked at by the rules: of each name that it binds, and what was known before.
use Rattle.std.proofs.Common.{◌≡◌, inl, inr, ⊎_elim, ℕ, List, [], ◌∷◌, ◌++◌, Bool, true, false, refl, sym, ap, ◌∙◌, subst, arith}
use Rattle.std.specs.Prelude.{length, Option}
use Rattle.regent_tree.specs.declared.facts.Colour.{Colour}
use Rattle.regent_tree.specs.declared.facts.Known.{Known}
use Rattle.regent_tree.specs.declared.facts.Known.TheVariants.{Within, Apart, PartOf, Made}
use Rattle.regent_tree.specs.declared.facts.Term.TheVariants.{Name, Child}
use Rattle.regent_tree.specs.declared.typing.Bound.{Bound}
use Rattle.regent_tree.specs.declared.typing.StaticType.{StaticType}
use Rattle.regent_tree.specs.declared.typing.StaticType.TheVariants.{Integer as integer_type, Truth as truth_type, Index as index_type, Pointer as pointer_type, Ispace as ispace_type, Region as region_type, Partition as partition_type, Nothing as no_type, Unknown as unknown_type}
use Rattle.regent_tree.specs.Scopes.{Scope, knowing, known_of_type, past, with_name}
use Rattle.regent_tree.specs.Syntax.{Block, Tree, TaskTree, Name as Named}
use Rattle.regent_tree.specs.Typing.{known_of_child, owned, scope_after_block}
use Rattle.check_laws.specs.SoundScopes.{Falls}
use Rattle.code_laws.proofs.KnownHeads.{KnowsFacts}
use Rattle.code_laws.proofs.KnownPlaces.{head_cut, head_looping, head_made, head_named, head_past, head_piece}
use Rattle.code_laws.proofs.Names.{block_grown, Grown}
use Rattle.regent_tree.proofs.Members.{Has, Has-append_cases, Has-append_left, Has-append_right}
use Rattle.task_code.specs.declared.code.TaskCode.{TaskCode}
use Rattle.code_laws.specs.Simple.{IsRegion, term_in, simple_integer, simple_truth, simple_index, simple_space}
use Rattle.fit_rules.specs.Marks.{Fact}
use Rattle.sound_code.specs.Ways.{Tops, Way, all_made, by_rules, opening_facts}
use Rattle.sound_code.proofs.Wholes.{IsWorth, worth_pointer, worth_simple}
use Rattle.sound_code.proofs.Grounds.{BeginsUnder, BeginsWholly, Ground, HasSaid, IsBegun, IsSaid, IsTold, Kept, OfType, said_begun, said_made, said_of, tells_begun, tells_made, tells_part, top_whole}

-- names that were bound before others are among these
grown_has : {before after : List Bound} → Grown before after → (b : Bound) → Has before b → Has after b
grown_has {before = before} g b h = subst (λ bs. Has bs b) (sym g.are) (Has-append_right g.more before b h)

worth_placed : (params place i : ℕ) (u : StaticType) → IsWorth u → OfType params place (owned i u)
worth_placed params place i _ (worth_simple _ (simple_integer w)) = tt
worth_placed params place i _ (worth_simple _ simple_truth) = tt
worth_placed params place i _ (worth_simple _ (simple_index k)) = tt
worth_placed params place i _ (worth_simple _ (simple_space k)) = tt
worth_placed params place i _ (worth_pointer k sp args rs few) = tt

worth_itself : (params place : ℕ) (u : StaticType) → IsWorth u → OfType params place u
worth_itself params place _ (worth_simple _ (simple_integer w)) = tt
worth_itself params place _ (worth_simple _ simple_truth) = tt
worth_itself params place _ (worth_simple _ (simple_index k)) = tt
worth_itself params place _ (worth_simple _ (simple_space k)) = tt
worth_itself params place _ (worth_pointer k sp args rs few) = tt

worth_tells : (i : ℕ) (u : StaticType) → IsWorth u → (known_of_child i u ≡ []) × (known_of_type (owned i u) ≡ []) × (known_of_type u ≡ [])
worth_tells i _ (worth_simple _ (simple_integer w)) = (refl, refl, refl)
worth_tells i _ (worth_simple _ simple_truth) = (refl, refl, refl)
worth_tells i _ (worth_simple _ (simple_index k)) = (refl, refl, refl)
worth_tells i _ (worth_simple _ (simple_space k)) = (refl, refl, refl)
worth_tells i _ (worth_pointer k sp args rs few) = (refl, refl, refl)

worth_said : (params i : ℕ) (known : List Known) (u : StaticType) → IsWorth u → HasSaid params known (owned i u)
worth_said params i known _ (worth_simple _ (simple_integer w)) = tt
worth_said params i known _ (worth_simple _ simple_truth) = tt
worth_said params i known _ (worth_simple _ (simple_index k)) = tt
worth_said params i known _ (worth_simple _ (simple_space k)) = tt
worth_said params i known _ (worth_pointer k sp args rs few) = tt

itself_said : (params : ℕ) (known : List Known) (u : StaticType) → IsWorth u → HasSaid params known u
itself_said params known _ (worth_simple _ (simple_integer w)) = tt
itself_said params known _ (worth_simple _ simple_truth) = tt
itself_said params known _ (worth_simple _ (simple_index k)) = tt
itself_said params known _ (worth_simple _ (simple_space k)) = tt
itself_said params known _ (worth_pointer k sp args rs few) = tt

-- more is known
said_more : (params : ℕ) (known more : List Known) (u : StaticType) → HasSaid params known u → HasSaid params (known ++ more) u
said_more params known more (region_type k sp args (Name i)) h = λ l. of (h l)
  where
    of : IsSaid known i → IsSaid (known ++ more) i
    of (said_made a) = said_made (Has-append_left known more (Made i) a)
    of (said_begun p c a) = said_begun p c (Has-append_left known more (Within (Name i) (Child p c)) a)
said_more params known more (region_type k sp args (Child p c)) h = tt
said_more params known more (integer_type w) h = tt
said_more params known more truth_type h = tt
said_more params known more (index_type k) h = tt
said_more params known more (pointer_type k sp args rs) h = tt
said_more params known more (ispace_type k) h = tt
said_more params known more (partition_type d r p) h = tt
said_more params known more no_type h = tt
said_more params known more unknown_type h = tt

begun_more : (params : ℕ) (up : ℕ → Option (ℕ × ℕ)) (known more : List Known) (i p : ℕ) → IsBegun params up known i p → IsBegun params up (known ++ more) i p
begun_more params up known more i p h =
    record { parent = h.parent; flag = h.flag; of = Has-append_left known more (PartOf p h.parent h.flag) h.of; top = h.top; whole = h.whole }

-- facts of which none is that a region lies within another
abbrev IsOther : Known → Type 0
IsOther (Within a b) = ⊥
IsOther (Apart a b) = Unit {0}
IsOther (PartOf p r d) = Unit {0}
IsOther (Made i) = Unit {0}

module _ (t : TaskCode) (tops : Tops) (task : TaskTree) (tree : Tree) (params : ℕ) where
  abbrev ks : List Fact
  ks = opening_facts (by_rules tops task) tree task

  abbrev up : ℕ → Option (ℕ × ℕ)
  up = tops task

  -- one more name, and what is known with it
  kept_named : (s : Scope) (n : Named) (u : StaticType) (by_loop : Bool) (more : List Known) → Kept t tops task tree params s →
      OfType params (length s.names) u → HasSaid params (s.known ++ more) u → ((k : Known) → Has more k → IsTold params up ks k) →
      ((i p : ℕ) (c : Colour) → Has more (Within (Name i) (Child p c)) → IsBegun params up (s.known ++ more) i p) →
      KnowsFacts tree task (knowing (with_name s n u by_loop) more) → Kept t tops task tree params (knowing (with_name s n u by_loop) more)
  kept_named s n u by_loop more h o said tells begins head = record {
    sound = h.sound;
    sound_task = h.sound_task;
    needs = h.needs;
    many = h.many;
    known = λ k i. ⊎_elim (h.known k) (tells k) (Has-append_cases s.known more k i);
    begins = λ i p c a. ⊎_elim (λ old. begun_more params up s.known more i p (h.begins i p c old)) (begins i p c)
        (Has-append_cases s.known more (Within (Name i) (Child p c)) a);
    said = λ b a. ⊎_elim (λ same. subst (λ (d : Bound). HasSaid params (s.known ++ more) d.static_type) same said)
        (λ old. said_more params s.known more b.static_type (h.said b old)) a;
    falls = h.falls;
    next = let l = h.next in omega (arith, l);
    placed = (o, h.placed);
    begun = h.begun;
    head = head;
  }

  kept_past : (s inner : Scope) → ((b : Bound) → Has s.names b → Has inner.names b) → Kept t tops task tree params s → Kept t tops task tree params inner → Kept t tops task tree params (past s inner)
  kept_past s inner names h i = record {
    sound = h.sound;
    sound_task = h.sound_task;
    needs = h.needs;
    many = h.many;
    known = i.known;
    begins = i.begins;
    said = λ b a. i.said b (names b a);
    falls = h.falls;
    next = i.next;
    placed = h.placed;
    begun = h.begun;
    head = head_past tree task s inner names i.head;
  }

  none_told : (more : List Known) → more ≡ [] → (k : Known) → Has more k → IsTold params up ks k
  none_told more e k i = absurd (subst (λ l. Has l k) e i)

  none_begins : (known more : List Known) → ((k : Known) → Has more k → IsOther k) → (i p : ℕ) (c : Colour) → Has more (Within (Name i) (Child p c)) →
      IsBegun params up (known ++ more) i p
  none_begins known more other i p c a = absurd (other (Within (Name i) (Child p c)) a)

  kept_looping : (s : Scope) (n : Named) (u : StaticType) → known_of_type u ≡ [] → Kept t tops task tree params s → OfType params (length s.names) u →
      HasSaid params s.known u → Kept t tops task tree params (with_name s n u true)
  kept_looping s n u none h o said = record {
    sound = h.sound;
    sound_task = h.sound_task;
    needs = h.needs;
    many = h.many;
    known = h.known;
    begins = h.begins;
    said = λ b a. ⊎_elim (λ same. subst (λ (d : Bound). HasSaid params s.known d.static_type) same said) (h.said b) a;
    falls = h.falls;
    next = let l = h.next in omega (arith, l);
    placed = (o, h.placed);
    begun = h.begun;
    head = head_looping tree task s n u none h.head;
  }

  no_more : (more : List Known) → more ≡ [] → (k : Known) → Has more k → IsOther k
  no_more more e k i = absurd (subst (λ l. Has l k) e i)

module _ (t : TaskCode) (tree : Tree) (params : ℕ) where
  -- a loop's variable
  pub ground_looping : (way : Way) (s : Scope) (n : Named) (u : StaticType) → IsWorth u → Ground t way tree params s →
      Ground t way tree params (with_name s n u true)
  ground_looping all_made s n u h g = tt
  ground_looping (by_rules tops task) s n u h g = kept_looping t tops task tree params s n u (worth_tells s.next u h).2 g (worth_itself params _ u h) (itself_said params s.known u h)

  pub ground_past : (way : Way) (s inner : Scope) → ((b : Bound) → Has s.names b → Has inner.names b) → Ground t way tree params s → Ground t way tree params inner →
      Ground t way tree params (past s inner)
  ground_past all_made s inner names g h = tt
  ground_past (by_rules tops task) s inner names g h = kept_past t tops task tree params s inner names g h

  -- behind a block, of a loop or not
  pub ground_block : (way : Way) (s : Scope) (b : Block) → Ground t way tree params s → Ground t way tree params (scope_after_block tree s b) →
      Ground t way tree params (past s (scope_after_block tree s b))
  ground_block way s b g h = ground_past way s (scope_after_block tree s b) (grown_has (block_grown tree s b)) g h

  pub ground_rounds : (way : Way) (s : Scope) (n : Named) (u : StaticType) (b : Block) → Ground t way tree params s →
      Ground t way tree params (scope_after_block tree (with_name s n u true) b) → Ground t way tree params (past s (scope_after_block tree (with_name s n u true) b))
  ground_rounds way s n u b g h = ground_past way s (scope_after_block tree (with_name s n u true) b)
      (λ c a. grown_has (block_grown tree (with_name s n u true) b) c (inr a)) g h

  -- a variable of such a type, as its value's type is or as it is written
  pub ground_plain : (way : Way) (s : Scope) (n : Named) (u : StaticType) → IsWorth u → Ground t way tree params s →
      Ground t way tree params (knowing (with_name s n (owned s.next u) false) (known_of_child s.next u ++ known_of_type (owned s.next u)))
  ground_plain all_made s n u h g = tt
  ground_plain (by_rules tops task) s n u h g =
      let told = worth_tells s.next u h in
      let none = ap (λ l. l ++ known_of_type (owned s.next u)) told.0 ∙ told.1 in
      kept_named t tops task tree params s n (owned s.next u) false _ g (worth_placed params _ s.next u h) (worth_said params s.next _ u h)
      (none_told t tops task tree params _ none) (none_begins t tops task tree params s.known _ (no_more t tops task tree params _ none)) (head_named tree task s n (owned s.next u) _ told.1 g.head none)

  pub ground_said : (way : Way) (s : Scope) (n : Named) (from u : StaticType) → known_of_child s.next from ≡ [] → IsWorth u → Ground t way tree params s →
      Ground t way tree params (knowing (with_name s n u false) (known_of_child s.next from ++ known_of_type u))
  ground_said all_made s n from u f h g = tt
  ground_said (by_rules tops task) s n from u f h g =
      let none = ap (λ l. l ++ known_of_type u) f ∙ (worth_tells s.next u h).2 in
      kept_named t tops task tree params s n u false _ g (worth_itself params _ u h) (itself_said params _ u h)
      (none_told t tops task tree params _ none) (none_begins t tops task tree params s.known _ (no_more t tops task tree params _ none)) (head_named tree task s n u _ (worth_tells s.next u h).2 g.head none)

  pub ground_declared : (way : Way) (s : Scope) (n : Named) (u : StaticType) → IsWorth u → Ground t way tree params s →
      Ground t way tree params (knowing (with_name s n u false) (known_of_type u))
  ground_declared all_made s n u h g = tt
  ground_declared (by_rules tops task) s n u h g =
      let none = (worth_tells s.next u h).2 in
      kept_named t tops task tree params s n u false _ g (worth_itself params _ u h) (itself_said params _ u h)
      (none_told t tops task tree params _ none) (none_begins t tops task tree params s.known _ (no_more t tops task tree params _ none)) (head_named tree task s n u _ (worth_tells s.next u h).2 g.head none)

  -- a root, which began as no part
  pub ground_root : (way : Way) (s : Scope) (n : Named) (k : _) (sp : ℕ) (args : _) → BeginsWholly way s.next → Ground t way tree params s →
      Ground t way tree params (knowing (with_name s n (region_type k sp args (Name s.next)) false) (Made s.next ∷ []))
  ground_root all_made s n k sp args wholly g = tt
  ground_root (by_rules tops task) s n k sp args wholly g =
      let low = g.next in
      let more = Made s.next ∷ [] in
      kept_named t tops task tree params s n (region_type k sp args (Name s.next)) false _ g (λ l. absurd (omega (arith, l, low)))
      (λ l. said_made (Has-append_right s.known more (Made s.next) (inl refl)))
      (λ y i. ⊎_elim (λ e. subst (IsTold params (tops task) _) e (tells_made s.next low wholly)) (λ b. absurd b) i)
      (none_begins t tops task tree params s.known more (λ y i. ⊎_elim (λ e. subst IsOther e tt) (λ b. absurd b) i))
      (head_made tree task s n (region_type k sp args (Name s.next)) refl g.head)

  -- a partition
  pub ground_cut : (way : Way) (s : Scope) (n : Named) (d : Bool) (r : ℕ) → Falls s.next s.names → Ground t way tree params s →
      Ground t way tree params (knowing (with_name s n (partition_type d r s.next) false) (PartOf s.next r d ∷ []))
  ground_cut all_made s n d r falls g = tt
  ground_cut (by_rules tops task) s n d r falls g =
      kept_named t tops task tree params s n (partition_type d r s.next) false _ g tt tt
      (λ y i. ⊎_elim (λ e. subst (IsTold params (tops task) _) e (tells_part s.next r d)) (λ b. absurd b) i)
      (none_begins t tops task tree params s.known (PartOf s.next r d ∷ []) (λ y i. ⊎_elim (λ e. subst IsOther e tt) (λ b. absurd b) i))
      (head_cut tree task s n d r falls g.head)

  -- a region that begins as a part of a partition, of the region with a number
  pub ground_piece : (way : Way) (s : Scope) (n : Named) (k : _) (sp : ℕ) (args : _) (p r : ℕ) (d : Bool) (c : Colour) → BeginsUnder way params s.next r →
      (u : StaticType) → IsRegion u → term_in u ≡ Name r → (b : Bound) → Has s.names b → b.static_type ≡ u →
      (q : Bound) → Has s.names q → q.static_type ≡ partition_type d r p → Ground t way tree params s → Ground t way tree params (knowing (with_name s n (region_type k sp args (Name s.next)) false) (Within (Name s.next) (Child p c) ∷ []))
  ground_piece all_made s n k sp args p r d c under u is named b has same q there cut g = tt
  ground_piece (by_rules tops task) s n k sp args p r d c under u is named b has same q there cut g =
      let low = g.next in
      let more = Within (Name s.next) (Child p c) ∷ [] in
      let part = g.head.cuts q there (PartOf p r d) (subst (λ u. Has (known_of_type u) (PartOf p r d)) (sym cut) (inl refl)) in
      let whole = top_whole t tops task tree params s g r (said_of params s.known u r is named (subst (HasSaid params s.known) same (g.said b has))) in
      let begun : IsBegun params (tops task) (s.known ++ more) s.next p =
      record { parent = r; flag = d; of = Has-append_left s.known more (PartOf p r d) part; top = under; whole = whole } in
      kept_named t tops task tree params s n (region_type k sp args (Name s.next)) false _ g (λ l. absurd (omega (arith, l, low)))
      (λ l. said_begun p c (Has-append_right s.known more (Within (Name s.next) (Child p c)) (inl refl)))
      (λ y i. ⊎_elim (λ e. subst (IsTold params (tops task) _) e (tells_begun s.next p _ c low under)) (λ b. absurd b) i)
      (λ i q f a. ⊎_elim (λ e. subst (λ k. IsBegun params (tops task) (s.known ++ more) k q) (ap lower_in e)
      (subst (IsBegun params (tops task) (s.known ++ more) s.next) (ap cut_in e) begun)) (λ b. absurd b) a)
      (head_piece tree task s n (region_type k sp args (Name s.next)) p c refl g.head)
    where
      lower_in : Known → ℕ
      lower_in (Within (Name i) b) = i
      lower_in (Within (Child p c) b) = 0
      lower_in (Apart a b) = 0
      lower_in (PartOf p r d) = 0
      lower_in (Made i) = 0

      cut_in : Known → ℕ
      cut_in (Within a (Child p c)) = p
      cut_in (Within a (Name i)) = 0
      cut_in (Apart a b) = 0
      cut_in (PartOf p r d) = 0
      cut_in (Made i) = 0
