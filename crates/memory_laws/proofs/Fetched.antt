-- A part that was fetched is one that may be held, and changes nothing that is seen.
use Rattle.std.proofs.Common.{◌≡◌, ℕ, ◌<◌, ℤ, List, [], ◌∷◌, ◌++◌, Bool, true, false, Option, Some, None, refl, sym, ap, ◌∙◌, subst}
use Rattle.std.specs.Prelude.{cond, map, replicate, length, ◌==◌, ◌&&◌}
use Rattle.std.proofs.lemmas.Bool.{eqb-true, eqb-false, and_parts}
use Rattle.std.proofs.lemmas.List.{length-map, length-replicate}
use Rattle.std.proofs.lemmas.Option.{none-some, same_Some}
use Rattle.lane_kernels.specs.declared.numbers.FieldKind.{FieldKind}
use Rattle.lane_kernels.specs.declared.numbers.Mode.{Mode}
use Rattle.lane_kernels.specs.declared.numbers.Mode.TheVariants as mode
use Rattle.lane_kernels.specs.declared.numbers.Op.{Op}
use Rattle.lane_kernels.specs.Numbers.{FitsWidth, identity_of, width_of}
use Rattle.lane_kernels.proofs.Operators.{commutative, identity}
use Rattle.region_tree.specs.declared.piece.Part.{Part}
use Rattle.region_tree.specs.Requirements as required
use Rattle.region_tree.specs.Requirements.{Requirement}
use Rattle.task_code.specs.declared.code.Code.{Code}
use Rattle.machine_terms.specs.declared.order.Contents.{Contents}
use Rattle.machine_terms.specs.Contents.{kept_at, kind_of}
use Rattle.machine_terms.specs.Copies.{piece_of, part_from}
use Rattle.machine_terms.specs.Parts.{Cell, cell_of, cell_at, value_beside, is_part_of, part_of}
use Rattle.memory_laws.specs.Fetching.{FetchedChangesNothing, FetchedHolds}
use Rattle.memory_laws.specs.Parts.{outline_of, outline_in, IsHeld, AreHeld}
use Rattle.memory_laws.specs.Places.{number_at}
use Rattle.memory_laws.proofs.Cells.{IdentityLeaves, or_part, fetched_seen, part_more}
use Rattle.memory_laws.proofs.Placing.{number_below}

identity_leaves : IdentityLeaves
identity_leaves o w a fits =
    commutative o w a (identity_of o w) fits (identity o w).0 ∙ (identity o w).1 a fits

fresh_outline : (kind : FieldKind) (c : Contents) (root f : ℕ) (qs : List (List ℕ × Mode)) →
    map outline_of (map (λ q. piece_of kind c root f q.1 q.0) qs) ≡ map outline_in qs
fresh_outline kind c root f [] = refl
fresh_outline kind c root f ((xs, mode.Read) ∷ qs) =
    ap (λ n. record { points = xs; mode = mode.Read; count = n } ∷ map outline_of (map (λ q. piece_of kind c root f q.1 q.0) qs))
    (length-map xs (kept_at c root f))
    ∙ ap (λ us. outline_in (xs, mode.Read) ∷ us) (fresh_outline kind c root f qs)
fresh_outline kind c root f ((xs, mode.Write) ∷ qs) =
    ap (λ n. record { points = xs; mode = mode.Write; count = n } ∷ map outline_of (map (λ q. piece_of kind c root f q.1 q.0) qs))
    (length-map xs (kept_at c root f))
    ∙ ap (λ us. outline_in (xs, mode.Write) ∷ us) (fresh_outline kind c root f qs)
fresh_outline kind c root f ((xs, mode.Reduce o) ∷ qs) =
    ap (λ n. record { points = xs; mode = mode.Reduce o; count = n } ∷ map outline_of (map (λ q. piece_of kind c root f q.1 q.0) qs))
    (length-replicate (length xs) (identity_of o (width_of kind)))
    ∙ ap (λ us. outline_in (xs, mode.Reduce o) ∷ us) (fresh_outline kind c root f qs)

-- a fresh cell has the roots' number, or the identity
abbrev IsFresh : FieldKind → Contents → ℕ → ℕ → ℕ → Cell → Type 0
IsFresh kind c root f p b =
    (b.mode ≡ mode.Read → b.value ≡ kept_at c root f p) × FitsWidth (width_of kind) b.value

value_map : (g : ℕ → ℤ) (xs : List ℕ) (p : ℕ) (z : ℤ) → value_beside xs (map g xs) p ≡ Some z → z ≡ g p
value_map g [] p z e = absurd (none-some z e)
value_map g (x ∷ xs) p z e = chosen (x == p) refl e (value_map g xs p z)
  where
    chosen : (b : Bool) → (x == p) ≡ b → cond b (Some (g x)) (value_beside xs (map g xs) p) ≡ Some z →
        (value_beside xs (map g xs) p ≡ Some z → z ≡ g p) → z ≡ g p
    chosen true d e more = sym (same_Some (g x) z e) ∙ ap g (eqb-true x p d)
    chosen false d e more = more e

value_same : (y : ℤ) (xs : List ℕ) (p : ℕ) (z : ℤ) → value_beside xs (replicate (length xs) y) p ≡ Some z → z ≡ y
value_same y [] p z e = absurd (none-some z e)
value_same y (x ∷ xs) p z e = chosen (x == p) e (value_same y xs p z)
  where
    chosen : (b : Bool) → cond b (Some y) (value_beside xs (replicate (length xs) y) p) ≡ Some z →
        (value_beside xs (replicate (length xs) y) p ≡ Some z → z ≡ y) → z ≡ y
    chosen true e more = sym (same_Some y z e)
    chosen false e more = more e

module _ (kind : FieldKind) (c : Contents) (root f : ℕ)
    (fits : (p : ℕ) → FitsWidth (width_of kind) (kept_at c root f p)) where
  fresh_first : (m : Mode) (o : Option ℤ) (rest : Option Cell) (p : ℕ) (b : Cell) →
      ((z : ℤ) → o ≡ Some z → IsFresh kind c root f p (record { mode = m; value = z })) →
      (rest ≡ Some b → IsFresh kind c root f p b) → cell_of m o rest ≡ Some b → IsFresh kind c root f p b
  fresh_first m (Some z) rest p b this that e =
      subst (IsFresh kind c root f p) (same_Some (record { mode = m; value = z }) b e) (this z refl)
  fresh_first m None rest p b this that e = that e

  by_map : (m : Mode) (xs : List ℕ) (p : ℕ) (z : ℤ) → value_beside xs (map (kept_at c root f) xs) p ≡ Some z →
      IsFresh kind c root f p (record { mode = m; value = z })
  by_map m xs p z e =
      let v = value_map (kept_at c root f) xs p z e in
      (λ r. v, subst (FitsWidth (width_of kind)) (sym v) (fits p))

  fresh_is : (qs : List (List ℕ × Mode)) (p : ℕ) (b : Cell) →
      cell_at (map (λ q. piece_of kind c root f q.1 q.0) qs) p ≡ Some b → IsFresh kind c root f p b
  fresh_is [] p b e = absurd (none-some b e)
  fresh_is ((xs, mode.Read) ∷ qs) p b e = fresh_first mode.Read _ _ p b (by_map mode.Read xs p) (fresh_is qs p b) e
  fresh_is ((xs, mode.Write) ∷ qs) p b e = fresh_first mode.Write _ _ p b (by_map mode.Write xs p) (fresh_is qs p b) e
  fresh_is ((xs, mode.Reduce o) ∷ qs) p b e = fresh_first (mode.Reduce o) _ _ p b
      (λ z q. (
        λ r. absurd (no_read o r),
        subst (FitsWidth (width_of kind)) (sym (value_same (identity_of o (width_of kind)) xs p z q)) (identity o (width_of kind)).0,
      )) (fresh_is qs p b) e
    where
      IsReduce : Mode → Type 0
      IsReduce (mode.Reduce o) = Unit {0}
      IsReduce _ = ⊥

      no_read : (o : Op) → mode.Reduce o ≡ mode.Read → ⊥
      no_read o r = subst IsReduce r tt

fresh_held : (code : Code) (c : Contents) (needs : List Requirement) (root f : ℕ) →
    root < c.made → ((p : ℕ) → FitsWidth (width_of (kind_of code c root f)) (kept_at c root f p)) →
    IsHeld code c needs (part_from code c needs root f)
fresh_held code c needs root f made fits =
    let kind = kind_of code c root f in
    let qs = required.part_of needs root f in
    record {
      made = made;
      kind = refl;
      outline = fresh_outline kind c root f qs;
      reads = λ p b e. (fresh_is kind c root f fits qs p b e).0;
      fits = λ p b e. (fresh_is kind c root f fits qs p b e).1;
    }

held_more : (code : Code) (c : Contents) (needs : List Requirement) (ps : List Part) (n : Part) →
    part_of ps n.root.0 n.field ≡ None → IsHeld code c needs n → AreHeld code c needs ps →
    AreHeld code c needs (ps ++ n ∷ [])
held_more code c needs [] n none one h = (one, refl, tt)
held_more code c needs (q ∷ ps) n none one h = (
  h.0,
  part_more ps n q.root.0 q.field
      ∙ ap (λ o. or_part o (cond (is_part_of q.root.0 q.field n) (Some n) None)) h.1
      ∙ chosen (is_part_of q.root.0 q.field n) refl,
  held_more code c needs ps n (later (is_part_of n.root.0 n.field q) none) one h.2,
)
  where
    later : (b : Bool) → cond b (Some q) (part_of ps n.root.0 n.field) ≡ None → part_of ps n.root.0 n.field ≡ None
    later true e = absurd (none-some q (sym e))
    later false e = e

    itself : is_part_of q.root.0 q.field q ≡ true
    itself = both (q.root.0 == q.root.0) (q.field == q.field) refl refl
      where
        both : (a b : Bool) → (q.root.0 == q.root.0) ≡ a → (q.field == q.field) ≡ b → (a && b) ≡ true
        both true true a b = refl
        both true false a b = absurd (eqb-false q.field q.field b refl)
        both false b a _ = absurd (eqb-false q.root.0 q.root.0 a refl)

    chosen : (b : Bool) → is_part_of q.root.0 q.field n ≡ b → or_part None (cond b (Some n) None) ≡ None
    chosen false e = refl
    chosen true e =
        let a = and_parts (n.root.0 == q.root.0) (n.field == q.field) e in
        absurd (none-some q (sym (sym (ap (λ b. cond b (Some q) (part_of ps n.root.0 n.field))
        (ap (λ k. (q.root.0 == k) && (q.field == n.field)) (eqb-true n.root.0 q.root.0 a.0)
        ∙ ap (λ k. (q.root.0 == q.root.0) && (q.field == k)) (eqb-true n.field q.field a.1) ∙ itself)) ∙ none)))

pub fetched_changes_nothing : FetchedChangesNothing
fetched_changes_nothing code store i root f h r g p =
    fetched_seen identity_leaves code i.contents i.parts i.needs root f r g p (h.stands.fits root f p)

pub fetched_holds : FetchedHolds
fetched_holds code store i place f h low none =
    let c = i.contents in
    let root = number_at c place in
    let s = h.stands in
    let made = number_below c place s.numbered (subst (λ n. place < n) (sym s.count) low) in
    record {
      stands = record {
        count = s.count;
        numbered = s.numbered;
        shape = s.shape;
        same = λ r g p l. s.same r g p l ∙ sym (fetched_changes_nothing code store i root f h (number_at c r) g p);
        kept = s.kept;
        fits = s.fits;
      };
      held = held_more code c i.needs i.parts (part_from code c i.needs root f) none
          (fresh_held code c i.needs root f made (s.fits root f)) h.held;
      needed = h.needed;
    }
