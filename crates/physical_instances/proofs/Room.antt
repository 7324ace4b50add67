-- Room for the reductions of parts.
use Rattle.std.proofs.Common.{◌≡◌, ◌⊎◌, ◌∙◌, ◌≤◌, ◌<◌, ◌==◌, ◌&&◌, inl, inr, true, false, cond, List, [], ◌∷◌, ap, arith, filter, get_or, length, refl, subst, suc, sym, take, zero, ℕ}
use Rattle.std.proofs.lemmas.Bool.{cases_Bool, eqb-true}
use Rattle.std.proofs.lemmas.List.Sums.{sum_by-cons}
use Rattle.region_tree.specs.declared.piece.Part.{Part}
use Rattle.logical_map.specs.Gives.{is_reduction, reductions_in, reductions_on}
use Rattle.logical_map.specs.Maps.{IsThere}
use Rattle.physical_instances.specs.Kept.{KeepsSpare, RootContents, map_of, spare_of}

-- the field of a part has room for the reductions of all
abbrev pub HasRoom : List Part → List RootContents → List RootContents → Part → Type 0
HasRoom all before now p = IsThere (map_of before) p.root.0 p.field →
    reductions_on all p.root.0 p.field ≤ spare_of now p.root.0 p.field

abbrev pub HaveRoom : List Part → List RootContents → List RootContents → List Part → Type 0
HaveRoom all before now [] = Unit {0}
HaveRoom all before now (p ∷ ps) = HasRoom all before now p × HaveRoom all before now ps

room_stays : (all : List Part) (before now after : List RootContents) (p : Part) → KeepsSpare now after →
    HasRoom all before now p → HasRoom all before after p
room_stays all before now after p keeps room there =
    let old : reductions_on all p.root.0 p.field ≤ spare_of now p.root.0 p.field = room there in
    let more : spare_of now p.root.0 p.field ≤ spare_of after p.root.0 p.field = keeps p.root.0 p.field in
    omega (arith, old, more)

-- one part more has room
pub more_room : (all : List Part) (before now after : List RootContents) (ps : List Part) (i : ℕ) (p : Part) →
    i < length ps → p ≡ get_or ps i p → KeepsSpare now after → HasRoom all before after p →
    HaveRoom all before now (take i ps) → HaveRoom all before after (take (suc i) ps)
more_room all before now after [] i p l e keeps room rooms = absurd (omega (arith, l))
more_room all before now after (q ∷ ps) zero p l e keeps room rooms = (subst (HasRoom all before after) e room, tt)
more_room all before now after (q ∷ ps) (suc i) p l e keeps room rooms =
    (room_stays all before now after q keeps rooms.0, more_room all before now after ps i p (omega (arith, l)) e keeps room rooms.1)

none_or_room : (all : List Part) (before now : List RootContents) (root field : ℕ) (ps : List Part) →
    IsThere (map_of before) root field → HaveRoom all before now ps →
    (reductions_on ps root field ≡ 0) ⊎ (reductions_on all root field ≤ spare_of now root field)
none_or_room all before now root field [] there rooms = inl refl
none_or_room all before now root field (p ∷ ps) there rooms =
    by_case (cases_Bool (p.root.0 == root)) (cases_Bool (p.field == field))
    (none_or_room all before now root field ps there rooms.1)
  where
    other : ((p.root.0 == root) && (p.field == field)) ≡ false →
        (reductions_on ps root field ≡ 0) ⊎ (reductions_on all root field ≤ spare_of now root field) →
        (reductions_on (p ∷ ps) root field ≡ 0) ⊎ (reductions_on all root field ≤ spare_of now root field)
    other e (inl none) =
        let first : reductions_in root field p ≡ 0 = ap (λ b. cond b (length (filter is_reduction p.pieces)) 0) e in
        inl (omega (arith, first, none, sum_by-cons (reductions_in root field) p ps))
    other e (inr room) = inr room

    by_case : ((p.root.0 == root) ≡ true) ⊎ ((p.root.0 == root) ≡ false) → ((p.field == field) ≡ true) ⊎ ((p.field == field) ≡ false) →
        (reductions_on ps root field ≡ 0) ⊎ (reductions_on all root field ≤ spare_of now root field) →
        (reductions_on (p ∷ ps) root field ≡ 0) ⊎ (reductions_on all root field ≤ spare_of now root field)
    by_case (inr e) f rest = other (ap (λ b. b && (p.field == field)) e) rest
    by_case (inl e) (inr f) rest = other (ap (λ b. b && (p.field == field)) e ∙ f) rest
    by_case (inl e) (inl f) rest =
        let r = eqb-true p.root.0 root e in
        let k = eqb-true p.field field f in
        inr (subst (λ (n : ℕ). reductions_on all n field ≤ spare_of now n field) r
        (subst (λ (n : ℕ). reductions_on all p.root.0 n ≤ spare_of now p.root.0 n) k
        (rooms.0 (subst (λ (n : ℕ). IsThere (map_of before) n p.field) (sym r)
        (subst (λ (n : ℕ). IsThere (map_of before) root n) (sym k) there)))))

-- all parts have room
pub all_room : (all : List Part) (before now : List RootContents) (root field : ℕ) → HaveRoom all before now all →
    IsThere (map_of before) root field → reductions_on all root field ≤ spare_of now root field
all_room all before now root field rooms there = by_case (none_or_room all before now root field all there rooms)
  where
    by_case : (reductions_on all root field ≡ 0) ⊎ (reductions_on all root field ≤ spare_of now root field) →
        reductions_on all root field ≤ spare_of now root field
    by_case (inl none) = omega (arith, none)
    by_case (inr room) = room
