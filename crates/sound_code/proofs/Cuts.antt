-- Of which region a partition is that a name in scope has: its type names the region, which is another name's, and a fact tells
-- that the partition is of that one. So it is told of a region that began as a part within which other name's it lies.
use Rattle.std.proofs.Common.{◌≡◌, inl, inr, ℕ, ◌<◌, ◌≤◌, List, [], ◌∷◌, Bool, true, false, cond, Option, Some, refl, subst, arith}
use Rattle.std.specs.Prelude.{bytes_eq, length, suc, ◌==◌, ◌||◌}
use Rattle.std.proofs.lemmas.Bool.{false≢true}
use Rattle.regent_tree.specs.Lookup.{is_bound}
use Rattle.regent_tree.specs.Scopes.{bound_as, bound_to, Scope}
use Rattle.regent_tree.specs.Syntax.{Form, Name, TaskTree, Tree}
use Rattle.regent_tree.specs.declared.typing.Bound.{Bound}
use Rattle.regent_tree.specs.declared.typing.StaticType.{StaticType}
use Rattle.regent_tree.proofs.Members.{Has}
use Rattle.regent_tree.specs.declared.facts.Colour.{Colour as WrittenColour}
use Rattle.regent_tree.specs.declared.facts.Known.{Known}
use Rattle.regent_tree.specs.declared.facts.Known.TheVariants.{Within}
use Rattle.regent_tree.specs.declared.facts.Term.TheVariants as term
use Rattle.regent_tree.specs.declared.typing.StaticType.TheVariants.{Integer as integer_type, Truth as truth_type, Index as index_type, Pointer as pointer_type, Ispace as ispace_type, Region as region_type, Partition as partition_type, Nothing as no_type, Unknown as unknown_type}
use Rattle.check_laws.specs.SoundScopes.{Falls}
use Rattle.code_laws.specs.Handing.{told_in}
use Rattle.code_laws.specs.Simple.{IsPartition, IsRegion}
use Rattle.fit_rules.specs.Shapes.{Among, Shape}
use Rattle.fit_rules.specs.Marks.{child_in, Fact, in_slot, lies, parted}
use Rattle.sound_code.specs.Named.{AreNamed, slot_at}
use Rattle.sound_code.specs.Ways.{all_made, by_rules, Tops, Way}
use Rattle.sound_code.proofs.Narrowing.{AtLeast}
use Rattle.sound_code.proofs.NoCuts.{IsNoCut}
use Rattle.sound_code.proofs.Scoped.{same_as, same_cut_as}
use Rattle.sound_code.proofs.Told.{ToldForm}
use Rattle.sound_code.proofs.Colours.{held_more, held_of, IsLoopIn}

-- of a region it is told which child it is of the partition with a number: then a fact says so
abbrev pub IsPieceOf : ℕ → List Known → List Fact → List Bound → ℕ → ℕ → Type 0
IsPieceOf params total ks all place i = (p : ℕ) (c : WrittenColour) → Has total (Within (term.Name i) (term.Child p c)) →
    IsPartition (bound_as all p).static_type × IsLoopIn all c
    × Among ks (lies (in_slot (slot_at params place)) (child_in (slot_at params (bound_as all p).place) (held_of params all c)))

abbrev pub IsCut : ℕ → (ℕ → Option (ℕ × ℕ)) → List Known → List Fact → List Bound → ℕ → StaticType → Type 0
IsCut params up total ks all place (partition_type d r p) =
    IsRegion (bound_as all r).static_type × Among ks (parted (slot_at params place) (slot_at params (bound_as all r).place))
IsCut params up total ks all place (region_type k sp args (term.Name i)) = (q : ℕ × ℕ) → params ≤ i → up i ≡ Some q →
    IsRegion (bound_as all q.0).static_type × Among ks (lies (in_slot (slot_at params place)) (in_slot (slot_at params (bound_as all q.0).place)))
    × IsPieceOf params total ks all place i
IsCut params up total ks all place t = Unit {0}

abbrev pub AreCut : ℕ → (ℕ → Option (ℕ × ℕ)) → List Known → List Fact → List Bound → List Bound → Type 0
AreCut params up total ks all [] = Unit {0}
AreCut params up total ks all (b ∷ bs) = IsCut params up total ks all b.place b.static_type × AreCut params up total ks all bs

-- where a task is looked at by the rules
abbrev pub CutBy : Way → Tree → ℕ → List Fact → List Bound → Type 0
CutBy all_made tree params ks bs = Unit {0}
CutBy (by_rules tops task) tree params ks bs = AreCut params (tops task) (told_in tree task) ks bs bs

-- and partitions may be kept
abbrev pub Cut : Bool → Way → Tree → ℕ → List Fact → List Bound → Type 0
Cut keeps way tree params ks bs = keeps ≡ true → CutBy way tree params ks bs

pub uncut : (params : ℕ) (up : ℕ → Option (ℕ × ℕ)) (total : List Known) (ks : List Fact) (all : List Bound) (place : ℕ) (t : StaticType) → IsNoCut t → IsCut params up total ks all place t
uncut params up total ks all place (partition_type d r p) n = absurd n
uncut params up total ks all place (region_type k sp args r) n = absurd n
uncut params up total ks all place (integer_type w) n = tt
uncut params up total ks all place truth_type n = tt
uncut params up total ks all place (index_type k) n = tt
uncut params up total ks all place (pointer_type k sp args rs) n = tt
uncut params up total ks all place (ispace_type k) n = tt
uncut params up total ks all place no_type n = tt
uncut params up total ks all place unknown_type n = tt

pub cut_named : (params : ℕ) (up : ℕ → Option (ℕ × ℕ)) (total : List Known) (ks : List Fact) (all bs : List Bound) (n : Name) → AreCut params up total ks all bs → is_bound bs n ≡ true →
    IsCut params up total ks all (bound_to bs n).place (bound_to bs n).static_type
cut_named params up total ks all [] n a h = absurd (false≢true h)
cut_named params up total ks all (b ∷ bs) n a h = chosen (bytes_eq b.name n) (cut_named params up total ks all bs n a.1) h
  where
    chosen : (c : Bool) → (is_bound bs n ≡ true → IsCut params up total ks all (bound_to bs n).place (bound_to bs n).static_type) → (c || is_bound bs n) ≡ true →
        IsCut params up total ks all (cond c b (bound_to bs n)).place (cond c b (bound_to bs n)).static_type
    chosen true more e = a.0
    chosen false more e = more e

-- of each name
pub cut_has : (params : ℕ) (up : ℕ → Option (ℕ × ℕ)) (total : List Known) (ks : List Fact) (all bs : List Bound) (b : Bound) → AreCut params up total ks all bs → Has bs b →
    IsCut params up total ks all b.place b.static_type
cut_has params up total ks all [] b a h = absurd h
cut_has params up total ks all (c ∷ bs) b a (inl e) = subst (λ (d : Bound). IsCut params up total ks all d.place d.static_type) e a.0
cut_has params up total ks all (c ∷ bs) b a (inr h) = cut_has params up total ks all bs b a.1 h

-- a region that is found by its number stands below the next name
pub place_as : (way : Way) (params : ℕ) (ss : List Shape) (bs : List Bound) (i : ℕ) → AreNamed way params ss bs → IsRegion (bound_as bs i).static_type →
    (bound_as bs i).place < length bs
place_as way params ss [] i a r = elim r [ ]
place_as way params ss (b ∷ bs) i a r = chosen (b.number == i) (place_as way params ss bs i a.2) r
  where
    chosen : (c : Bool) → (IsRegion (bound_as bs i).static_type → (bound_as bs i).place < length bs) → IsRegion (cond c b (bound_as bs i)).static_type →
        (cond c b (bound_as bs i)).place < suc (length bs)
    chosen true more r = omega (arith, a.0)
    chosen false more r = let l = more r in omega (arith, l)

-- ---- more facts

module _ (params : ℕ) (up : ℕ → Option (ℕ × ℕ)) (total : List Known) (ks ls : List Fact) (more : AtLeast ks ls) (all : List Bound) where
  is_cut_more : (place : ℕ) (t : StaticType) → IsCut params up total ks all place t → IsCut params up total ls all place t
  is_cut_more place (partition_type d r p) h = (h.0, more _ h.1)
  is_cut_more place (region_type k sp args (term.Name i)) h = λ q l e. let d = h q l e in (d.0, more _ d.1, λ p c a. let f = d.2 p c a in (f.0, f.1, more _ f.2))
  is_cut_more place (region_type k sp args (term.Child p c)) h = tt
  is_cut_more place (integer_type w) h = tt
  is_cut_more place truth_type h = tt
  is_cut_more place (index_type k) h = tt
  is_cut_more place (pointer_type k sp args rs) h = tt
  is_cut_more place (ispace_type k) h = tt
  is_cut_more place no_type h = tt
  is_cut_more place unknown_type h = tt

  are_cut_more : (bs : List Bound) → AreCut params up total ks all bs → AreCut params up total ls all bs
  are_cut_more [] h = tt
  are_cut_more (b ∷ bs) h = (is_cut_more b.place b.static_type h.0, are_cut_more bs h.1)

pub cut_more : (keeps : Bool) (way : Way) (tree : Tree) (params : ℕ) (ks ls : List Fact) (bs : List Bound) → AtLeast ks ls → Cut keeps way tree params ks bs →
    Cut keeps way tree params ls bs
cut_more keeps all_made tree params ks ls bs more h q = tt
cut_more keeps (by_rules tops task) tree params ks ls bs more h q = are_cut_more params (tops task) (told_in tree task) ks ls more bs bs (h q)

-- in a scope of the same names
pub cut_same : (keeps : Bool) (way : Way) (tree : Tree) (params : ℕ) (ks : List Fact) (bs cs : List Bound) → bs ≡ cs → Cut keeps way tree params ks bs →
    Cut keeps way tree params ks cs
cut_same keeps way tree params ks bs cs e h = subst (Cut keeps way tree params ks) e h

-- ---- one more name

module _ (next : ℕ) (bs : List Bound) (b : Bound) (falls : Falls next bs) (new : next ≤ b.number) (params : ℕ) (up : ℕ → Option (ℕ × ℕ)) (total : List Known) (ks : List Fact) where
  is_cut_with : (place : ℕ) (t : StaticType) → IsCut params up total ks bs place t → IsCut params up total ks (b ∷ bs) place t
  is_cut_with place (partition_type d r p) h =
      let same = same_as next bs b falls new r h.0 in (
        subst (λ (c : Bound). IsRegion c.static_type) same h.0,
        subst (λ (c : Bound). Among ks (parted (slot_at params place) (slot_at params c.place))) same h.1,
      )
  is_cut_with place (region_type k sp args (term.Name i)) h = λ q l e.
      let d = h q l e in
      let same = same_as next bs b falls new q.0 d.0 in (
        subst (λ (c : Bound). IsRegion c.static_type) same d.0,
        subst (λ (c : Bound). Among ks (lies (in_slot (slot_at params place)) (in_slot (slot_at params c.place)))) same d.1,
        λ p z a.
            let f = d.2 p z a in
            let cut = same_cut_as next bs b falls new p f.0 in
            let held = held_more params next bs b z falls new f.1 in (
              subst (λ (c : Bound). IsPartition c.static_type) cut f.0,
              held.0,
              subst (λ y. Among ks (lies (in_slot (slot_at params place)) (child_in (slot_at params (bound_as (b ∷ bs) p).place) y))) held.1
                  (subst (λ (c : Bound). Among ks (lies (in_slot (slot_at params place)) (child_in (slot_at params c.place) (held_of params bs z)))) cut f.2),
            ),
      )
  is_cut_with place (region_type k sp args (term.Child p c)) h = tt
  is_cut_with place (integer_type w) h = tt
  is_cut_with place truth_type h = tt
  is_cut_with place (index_type k) h = tt
  is_cut_with place (pointer_type k sp args rs) h = tt
  is_cut_with place (ispace_type k) h = tt
  is_cut_with place no_type h = tt
  is_cut_with place unknown_type h = tt

  are_cut_with : (cs : List Bound) → AreCut params up total ks bs cs → AreCut params up total ks (b ∷ bs) cs
  are_cut_with [] h = tt
  are_cut_with (c ∷ cs) h = (is_cut_with c.place c.static_type h.0, are_cut_with cs h.1)

-- it tells more where it has a partition, or began as a part
pub cut_bound : (keeps : Bool) (way : Way) (tree : Tree) (s : Scope) (form : Form) (b : Bound) (params : ℕ) (ks ls : List Fact) → b.number ≡ s.next →
    ToldForm way tree s form → AtLeast ks ls → Cut keeps way tree params ks s.names →
    ((tops : Tops) (task : TaskTree) → way ≡ by_rules tops task → IsCut params (tops task) (told_in tree task) ls s.names b.place b.static_type) → Cut keeps way tree params ls (b ∷ s.names)
cut_bound keeps all_made tree s form b params ks ls e told more o h q = tt
cut_bound keeps (by_rules tops task) tree s form b params ks ls e told more o h q =
    let scope = told.1.scope in (
      is_cut_with s.next s.names b scope.numbers (omega (arith, e)) params (tops task) (told_in tree task) ls b.place b.static_type (h tops task refl),
      are_cut_with s.next s.names b scope.numbers (omega (arith, e)) params (tops task) (told_in tree task) ls s.names (are_cut_more params (tops task) (told_in tree task) ks ls more s.names s.names (o q)),
    )

-- and nothing else tells any
pub cut_plain : (keeps : Bool) (way : Way) (tree : Tree) (s : Scope) (form : Form) (b : Bound) (params : ℕ) (ks ls : List Fact) → b.number ≡ s.next →
    ToldForm way tree s form → AtLeast ks ls → Cut keeps way tree params ks s.names → IsNoCut b.static_type → Cut keeps way tree params ls (b ∷ s.names)
cut_plain keeps way tree s form b params ks ls e told more o none =
    cut_bound keeps way tree s form b params ks ls e told more o (λ tops task by. uncut params (tops task) (told_in tree task) ls s.names b.place b.static_type none)
