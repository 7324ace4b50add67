-- No field has two parts: so it stays where one comes that wasn't held, and behind a segment.
use Rattle.std.proofs.Common.{◌≡◌, List, [], ◌∷◌, ◌++◌, ℕ, Bool, true, false, ◌&&◌, cond, Some, None, refl, sym, ap, ◌∙◌, subst, map, eq-eqb, eqb-true}
use Rattle.std.specs.Prelude.{◌==◌}
use Rattle.std.proofs.lemmas.Bool.{and_parts}
use Rattle.std.proofs.lemmas.Option.{none-some}
use Rattle.region_tree.specs.Pieces.{Held}
use Rattle.region_tree.specs.Requirements.{PartsAreApart}
use Rattle.region_tree.specs.declared.piece.Part.{Part}
use Rattle.machine_terms.specs.declared.frame.Before.{Before}
use Rattle.machine_terms.specs.Parts.{is_part_of, part_of}
use Rattle.machine_terms.specs.Segments.{segment}
use Rattle.machine_terms.proofs.Kept.{stop_fixed}
use Rattle.machine_terms.proofs.KeptParts.{bare, bare_part, bare_pieces}
use Rattle.fit_boards.specs.Fitting.{AreOnce, held_as}

-- ---- one part more

none_more : (ps : List Part) (n : Part) (r f : ℕ) → part_of ps r f ≡ None → is_part_of r f n ≡ false → part_of (ps ++ n ∷ []) r f ≡ None
none_more [] n r f none e = ap (λ b. cond b (Some n) None) e
none_more (q ∷ ps) n r f none e = of (is_part_of r f q) none (λ d. none_more ps n r f d e)
  where
    of : (b : Bool) → cond b (Some q) (part_of ps r f) ≡ None → (part_of ps r f ≡ None → part_of (ps ++ n ∷ []) r f ≡ None) →
        cond b (Some q) (part_of (ps ++ n ∷ []) r f) ≡ None
    of true d more = absurd (none-some q (sym d))
    of false d more = more d

pub once_more : (ps : List Part) (n : Part) → AreOnce ps → PartsAreApart (map held_as n.pieces) → part_of ps n.root.0 n.field ≡ None → AreOnce (ps ++ n ∷ [])
once_more [] n h apart none = (apart, refl, tt)
once_more (q ∷ ps) n h apart none = (
  h.0,
  none_more ps n q.root.0 q.field h.1 (other (is_part_of q.root.0 q.field n) refl),
  once_more ps n h.2 apart (behind (is_part_of n.root.0 n.field q) none),
)
  where
    behind : (b : Bool) → cond b (Some q) (part_of ps n.root.0 n.field) ≡ None → part_of ps n.root.0 n.field ≡ None
    behind true e = absurd (none-some q (sym e))
    behind false e = e

    itself : is_part_of q.root.0 q.field q ≡ true
    itself = ap (λ b. b && (q.field == q.field)) (eq-eqb q.root.0 q.root.0 refl) ∙ eq-eqb q.field q.field refl

    other : (b : Bool) → is_part_of q.root.0 q.field n ≡ b → b ≡ false
    other false e = refl
    other true e =
        let a = and_parts (n.root.0 == q.root.0) (n.field == q.field) e in
        absurd (none-some q (sym none
        ∙ (λ i. part_of (q ∷ ps) (eqb-true n.root.0 q.root.0 a.0 i) (eqb-true n.field q.field a.1 i))
        ∙ ap (λ b. cond b (Some q) (part_of ps q.root.0 q.field)) itself))

-- ---- behind a segment

held_bare : (hs : List Held) → map held_as (bare_pieces hs) ≡ map held_as hs
held_bare [] = refl
held_bare (h ∷ hs) = ap (λ ps. held_as h ∷ ps) (held_bare hs)

none_bare : (ps : List Part) (r f : ℕ) → part_of ps r f ≡ None → part_of (bare ps) r f ≡ None
none_bare [] r f e = refl
none_bare (q ∷ ps) r f e = of (is_part_of r f q) e (none_bare ps r f)
  where
    of : (b : Bool) → cond b (Some q) (part_of ps r f) ≡ None → (part_of ps r f ≡ None → part_of (bare ps) r f ≡ None) →
        cond b (Some (bare_part q)) (part_of (bare ps) r f) ≡ None
    of true d more = absurd (none-some q (sym d))
    of false d more = more d

bare_none : (ps : List Part) (r f : ℕ) → part_of (bare ps) r f ≡ None → part_of ps r f ≡ None
bare_none [] r f e = refl
bare_none (q ∷ ps) r f e = of (is_part_of r f q) e (bare_none ps r f)
  where
    of : (b : Bool) → cond b (Some (bare_part q)) (part_of (bare ps) r f) ≡ None → (part_of (bare ps) r f ≡ None → part_of ps r f ≡ None) →
        cond b (Some q) (part_of ps r f) ≡ None
    of true d more = absurd (none-some (bare_part q) (sym d))
    of false d more = more d

once_bare : (ps : List Part) → AreOnce ps → AreOnce (bare ps)
once_bare [] h = tt
once_bare (q ∷ ps) h = (subst PartsAreApart (sym (held_bare q.pieces)) h.0, none_bare ps q.root.0 q.field h.1, once_bare ps h.2)

bare_once : (ps : List Part) → AreOnce (bare ps) → AreOnce ps
bare_once [] h = tt
bare_once (q ∷ ps) h = (subst PartsAreApart (held_bare q.pieces) h.0, bare_none ps q.root.0 q.field h.1, bare_once ps h.2)

pub left_once : (b : Before) → AreOnce b.parts → AreOnce (segment b).parts
left_once b h = bare_once (segment b).parts (subst AreOnce (sym (stop_fixed b).parts) (once_bare b.parts h))
