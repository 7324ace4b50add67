-- Where a name's region lies within another name's: it is the same, both are parameters of which that follows, or it began as a part
-- of one that does.
use Rattle.std.proofs.Common.{◌≡◌, inl, inr, ⊎_elim, ℕ, ◌<◌, ◌≤◌, List, [], true, None, Option, Some, refl, sym, ap, ◌∙◌, subst, arith}
use Rattle.std.specs.Prelude.{slice_get}
use Rattle.regent_tree.specs.Facts.{is_subregion}
use Rattle.regent_tree.proofs.Members.{Has}
use Rattle.regent_tree.specs.Scopes.{bound_as, scope_of}
use Rattle.regent_tree.specs.Syntax.{TaskTree}
use Rattle.regent_tree.specs.declared.facts.Term.{Term}
use Rattle.regent_tree.specs.declared.facts.Term.TheVariants as term
use Rattle.regent_tree.specs.declared.typing.Bound.{Bound}
use Rattle.regent_tree.specs.declared.typing.StaticType.{StaticType}
use Rattle.task_code.specs.declared.code.TaskCode.{TaskCode}
use Rattle.machine_terms.specs.declared.value.Value.{Value}
use Rattle.machine_terms.specs.Pointers.{region_in}
use Rattle.code_rules.specs.Slots.{Where}
use Rattle.code_laws.specs.Arguments.{BeganWithin, HasBegunWithin, IsGivenPart, IsPart, LiesBelow}
use Rattle.code_laws.specs.Simple.{a_region_type, IsRegion, term_in}
use Rattle.code_laws.specs.Handing.{told_in}
use Rattle.code_laws.specs.Steps.{Forms, Taking}
use Rattle.code_laws.specs.Taking.{known_of_pairs, LiesUp, pairs_in, up_itself, up_part}
use Rattle.fit_rules.specs.Shapes.{World}
use Rattle.fit_rules.specs.Marks.{Holds, in_slot, lies, Mark, parted, stacked, Suits}
use Rattle.std.proofs.lemmas.Option.{none-some, same_Some}
use Rattle.fit_rules.specs.Fits.{Program}
use Rattle.sound_code.specs.Named.{slot_at}
use Rattle.sound_code.specs.Ways.{by_rules, none_begun, opening_facts, Tops, Way}
use Rattle.fit_laws.proofs.Lookup.{each_among}
use Rattle.sound_code.proofs.Asked.{AreTops, AskedAt, Hands, hands_none, hands_taken}
use Rattle.sound_code.proofs.Cuts.{AreCut, cut_has, CutBy, IsCut}
use Rattle.sound_code.proofs.Pairs.{paired, pairs_over}
use Rattle.sound_code.proofs.Parts.{own_named}
use Rattle.sound_code.proofs.Scoped.{AreScoped, placed_as, region_found, scoped_as, ScopedBy}
use Rattle.sound_code.proofs.Grounds.{Ground, HasFacts, Kept, OfType}
use Rattle.sound_code.proofs.Lying.{above}

abbrev number_in : Term → ℕ
number_in (term.Name i) = i
number_in (term.Child p c) = 0

abbrev IsNamed : Term → Type 0
IsNamed (term.Name i) = Unit {0}
IsNamed (term.Child p c) = ⊥

-- a partition of a region that lies within another one is of that one too
pub parted_above : (vs : List Value) (p s t : ℕ) → Holds (parted p s) vs → Holds (lies (in_slot s) (in_slot t)) vs → Holds (parted p t) vs
parted_above vs p s t h l q e =
    let w = h q e in
    let o = l w.parent w.at in record {
      parent = o.other;
      at = o.at;
      root = w.root ∙ o.inside.0;
      inside = λ r a.
          let i = w.inside r a in (i.0 ∙ o.inside.0, λ n y. o.inside.1 n (i.1 n y));
    }

-- a region lies within itself
lies_itself : (vs : List Value) (s : ℕ) → Holds (lies (in_slot s) (in_slot s)) vs
lies_itself vs s r e = record { other = r; at = e; inside = (refl, λ p y. y) }

module _ (g : Program) (t : TaskCode) (k slots : ℕ) (forms : Forms) (way : Way) (w : Where) (m : Mark) {deep : ℕ} (asked : AskedAt g t k slots deep forms way w m) where
  module _ (tops : Tops) (task : TaskTree) (y : Taking) (by : way ≡ by_rules tops task) (params : y.params ≡ t.params)
      (within : y.within ≡ pairs_in (scope_of w.tree task).known) (tells : AreTops y t.params (tops task)) (keeps : forms.keeps ≡ true)
      (x : World) (vs st : List Value) (s : Suits x t.params (stacked m []) vs st) where
    abbrev names : List Bound
    names = w.scope.names

    -- one place's region lies within another's
    abbrev Lies : ℕ → ℕ → Type 0
    Lies a b = Holds (lies (in_slot (slot_at w.params a)) (in_slot (slot_at w.params b))) vs

    kept : Kept t tops task w.tree w.params w.scope
    kept = subst (λ v. Ground t v w.tree w.params w.scope) by asked.ground

    facts : HasFacts (by_rules tops task) w.tree m.facts
    facts = subst (λ v. HasFacts v w.tree m.facts) by asked.facts

    scoped : AreScoped names names
    scoped = subst (λ v. ScopedBy v names) by (asked.scoped keeps)

    cuts : AreCut w.params (tops task) (told_in w.tree task) m.facts names names
    cuts = subst (λ v. CutBy v w.tree w.params m.facts names) by (asked.cut keeps)

    -- by a part of what is taken
    of_part : (a b : ℕ) (u v : StaticType) → IsRegion u → IsRegion v → OfType w.params a u → OfType w.params b v → IsPart y (term_in u) (term_in v) → Lies a b
    of_part a b _ _ (a_region_type c sp args (term.Name i)) (a_region_type d sq brgs (term.Name j)) pa pb part r e =
        let li : i < w.params = omega (arith, part.0, params, asked.params) in
        let lj : j < w.params = omega (arith, part.1, params, asked.params) in
        let at : slot_at w.params a ≡ i = omega (arith, pa li, li) in
        let to : slot_at w.params b ≡ j = omega (arith, pb lj, lj) in
        let over = pairs_over t tops task w.tree w.params w.scope kept (stacked m []) facts i j
        (subst (λ ps. is_subregion (known_of_pairs ps) (term.Name i) (term.Name j) ≡ true) within part.2) in
        let o = above t.params w.params (none_begun task) (opening_facts (by_rules tops task) w.tree task) (stacked m [])
        (paired t tops task w.tree w.params w.scope kept (stacked m []) facts) asked.params i j li over x vs st s r
        (sym (s.args i (omega (arith, li, asked.params))) ∙ subst (λ y. region_in (slice_get vs y) ≡ Some r) at e) in record {
          other = o.other;
          at = subst (λ y. region_in (slice_get vs y) ≡ Some o.other) (sym to) (s.args j (omega (arith, lj, asked.params)) ∙ o.at);
          inside = o.inside;
        }
    of_part a b _ v (a_region_type c sp args (term.Child p f)) rv pa pb part r e = absurd pa
    of_part a b _ _ (a_region_type c sp args (term.Name i)) (a_region_type d sq brgs (term.Child p f)) pa pb part r e = absurd pb

    lies_through_it : (a b c : ℕ) → Lies a b → Lies b c → Lies a c
    lies_through_it a b c h l r e =
        let one = h r e in
        let two = l one.other one.at in
        record { other = two.other; at = two.at; inside = (one.inside.0 ∙ two.inside.0, λ p q. two.inside.1 p (one.inside.1 p q)) }

    -- a region that began as a part lies within the one of which it is told
    record IsStepped (b : Bound) (r : ℕ) : Type 0 where
      region : IsRegion (bound_as names r).static_type
      lies : Lies b.place (bound_as names r).place

    step : (b : Bound) (i r : ℕ) → Has names b → IsRegion b.static_type → term_in b.static_type ≡ term.Name i → y.params ≤ i → y.above i ≡ Some r → IsStepped b r
    step b i r has region named high above =
        of b.static_type region named (cut_has w.params (tops task) (told_in w.tree task) m.facts names names b cuts has) (tops task i) refl
      where
        of : (u : StaticType) → IsRegion u → term_in u ≡ term.Name i → IsCut w.params (tops task) (told_in w.tree task) m.facts names b.place u → (o : Option (ℕ × ℕ)) →
            tops task i ≡ o → IsStepped b r
        of _ (a_region_type k sp args (term.Name j)) e cut None o = absurd (none-some r (sym (tells.none i o) ∙ above))
        of _ (a_region_type k sp args (term.Name j)) e cut (Some q) o =
            let same : j ≡ i = ap number_in e in
            let there = cut q (omega (arith, high, params, asked.params, same)) (ap (tops task) same ∙ o) in
            let to : q.0 ≡ r = same_Some q.0 r (sym (tells.same i q o) ∙ above) in record {
              region = subst (λ n. IsRegion (bound_as names n).static_type) to there.0;
              lies = subst (λ n. Lies b.place (bound_as names n).place) to
                  (each_among (λ f. Holds f vs) m.facts (lies (in_slot (slot_at w.params b.place)) (in_slot (slot_at w.params (bound_as names q.0).place))) there.1 s.facts);
            }
        of _ (a_region_type k sp args (term.Child p c)) e cut o q = absurd (subst IsNamed (sym e) tt)

    own_term : (i : ℕ) → IsRegion (bound_as names i).static_type → term_in (bound_as names i).static_type ≡ term.Name i
    own_term i is = own_named names (bound_as names i).static_type (bound_as names i).number i is (scoped_as names names i scoped is) (region_found names i is).1

    -- and so on
    record IsUpwards (i j : ℕ) : Type 0 where
      region : IsRegion (bound_as names j).static_type
      lies : Lies (bound_as names i).place (bound_as names j).place

    upwards : (i j : ℕ) → LiesUp y i j → IsRegion (bound_as names i).static_type → IsUpwards i j
    upwards i _ (up_itself _) is = record { region = is; lies = lies_itself vs (slot_at w.params (bound_as names i).place) }
    upwards i j (up_part _ r _ high above rest) is =
        let one = step (bound_as names i) i r (region_found names i is).0 is (own_term i is) high above in
        let more = upwards r j rest one.region in
        record { region = more.region; lies = lies_through_it (bound_as names i).place (bound_as names r).place (bound_as names j).place one.lies more.lies }

    of_begun : (a b : Bound) → Has names a → IsRegion a.static_type → IsRegion b.static_type → OfType w.params b.place b.static_type →
        BeganWithin y w (term_in a.static_type) b → Lies a.place b.place
    of_begun a b has ra rb pb h =
        let one = step a h.number h.whole has ra h.named h.behind h.began in
        let more = upwards h.whole h.upper h.up one.region in
        let to = bound_as names h.upper in
        lies_through_it a.place (bound_as names h.whole).place b.place one.lies (lies_through_it (bound_as names h.whole).place to.place b.place more.lies (⊎_elim
        (λ same. subst (λ p. Lies to.place p) same (lies_itself vs (slot_at w.params to.place)))
        (λ part. of_part to.place b.place to.static_type b.static_type more.region rb (placed_as w.params names h.upper kept.placed more.region) pb
        (subst (λ u. IsPart y u (term_in b.static_type)) (sym (own_term h.upper more.region)) part)) h.ends))

  pub lies_below : forms.keeps ≡ true → (a b : Bound) → Has w.scope.names a → IsRegion a.static_type → IsRegion b.static_type →
      OfType w.params a.place a.static_type → OfType w.params b.place b.static_type →
      LiesBelow forms.takes w a b → (x : World) (vs st : List Value) → Suits x t.params (stacked m []) vs st →
      Holds (lies (in_slot (slot_at w.params a.place)) (in_slot (slot_at w.params b.place))) vs
  lies_below keeps a b has ra rb pa pb (inl same) x vs st s =
      subst (λ y. Holds (lies (in_slot (slot_at w.params a.place)) (in_slot (slot_at w.params y))) vs) same (lies_itself vs (slot_at w.params a.place))
  lies_below keeps a b has ra rb pa pb (inr (inl part)) x vs st s = of asked.hands
    where
      of : Hands forms t way w.tree → Holds (lies (in_slot (slot_at w.params a.place)) (in_slot (slot_at w.params b.place))) vs
      of (hands_none none unkept wholly) = absurd (subst (λ o. IsGivenPart o (term_in a.static_type) (term_in b.static_type)) none part)
      of (hands_taken tops task y by takes params needs within tells none) = of_part tops task y by params within tells keeps x vs st s
          a.place b.place a.static_type b.static_type ra rb pa pb (subst (λ o. IsGivenPart o (term_in a.static_type) (term_in b.static_type)) takes part)
  lies_below keeps a b has ra rb pa pb (inr (inr began)) x vs st s = of asked.hands
    where
      of : Hands forms t way w.tree → Holds (lies (in_slot (slot_at w.params a.place)) (in_slot (slot_at w.params b.place))) vs
      of (hands_none none unkept wholly) = absurd (subst (λ o. HasBegunWithin o w (term_in a.static_type) b) none began)
      of (hands_taken tops task y by takes params needs within tells none) = of_begun tops task y by params within tells keeps x vs st s a b has ra rb pb
          (subst (λ o. HasBegunWithin o w (term_in a.static_type) b) takes began)
