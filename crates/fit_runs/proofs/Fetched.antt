-- A part that is fetched may go back.
use Rattle.std.proofs.Common.{◌≡◌, inl, inr, ℕ, ℤ, List, [], ◌∷◌, ◌++◌, map, Bool, true, false, cond, ◌&&◌, Some, None, refl, sym, ap, ◌∙◌, subst, get_or}
use Rattle.std.specs.Prelude.{length, ◌==◌}
use Rattle.std.proofs.lemmas.Bool.{and_parts, eq-eqb, eqb-true}
use Rattle.std.proofs.lemmas.List.{length-map, length-replicate}
use Rattle.std.proofs.lemmas.Option.{none-some, same_Some}
use Rattle.lane_kernels.proofs.Operators.{identity}
use Rattle.lane_kernels.specs.declared.numbers.FieldKind.{FieldKind}
use Rattle.lane_kernels.specs.declared.numbers.FieldKind.TheVariants as kind
use Rattle.lane_kernels.specs.declared.numbers.Mode.{Mode}
use Rattle.lane_kernels.specs.declared.numbers.Mode.TheVariants as mode
use Rattle.lane_kernels.specs.Numbers.{FitsWidth, identity_of, width_of}
use Rattle.region_tree.specs.declared.piece.Part.{Part}
use Rattle.region_tree.specs.Requirements.{all_modes, mode_at, Requirement}
use Rattle.region_tree.specs.Requirements as required
use Rattle.task_code.specs.declared.code.TaskCode.{TaskCode}
use Rattle.machine_terms.specs.declared.order.Contents.{Contents}
use Rattle.machine_terms.specs.Contents.{kept_at, kind_of, kinds_of}
use Rattle.machine_terms.specs.Copies.{part_from, piece_of}
use Rattle.machine_terms.specs.Parts.{Cell, cell_at, is_part_of, part_of}
use Rattle.memory_laws.specs.Parts.{IsHeld, outline_in, outline_of}
use Rattle.memory_laws.proofs.Cells.{or_part, part_more}
use Rattle.memory_laws.proofs.Giving.{CanGive}
use Rattle.memory_laws.proofs.Holding.{can_give}
use Rattle.fit_rules.specs.Shapes.{World}
use Rattle.fit_rules.specs.Fits.{claims, kind_at, Program}
use Rattle.fit_laws.proofs.Fetching.{IsFetched, IsSeen, kept_narrow, seen}
use Rattle.fit_runs.proofs.Standing.{Agrees, AreReached}
use Rattle.fit_runs.proofs.Claiming.{reached_modes}

fresh_outline : (kind : FieldKind) (c : Contents) (root f : ℕ) (qs : List (List ℕ × Mode)) →
    map outline_of (map (λ (q : List ℕ × Mode). piece_of kind c root f q.1 q.0) qs) ≡ map outline_in qs
fresh_outline kind c root f [] = refl
fresh_outline kind c root f ((xs, mode.Read) ∷ qs) =
    ap (λ n. record { points = xs; mode = mode.Read; count = n } ∷ map outline_of (map (λ (q : List ℕ × Mode). piece_of kind c root f q.1 q.0) qs))
    (length-map xs (kept_at c root f)) ∙ ap (λ us. outline_in (xs, mode.Read) ∷ us) (fresh_outline kind c root f qs)
fresh_outline kind c root f ((xs, mode.Write) ∷ qs) =
    ap (λ n. record { points = xs; mode = mode.Write; count = n } ∷ map outline_of (map (λ (q : List ℕ × Mode). piece_of kind c root f q.1 q.0) qs))
    (length-map xs (kept_at c root f)) ∙ ap (λ us. outline_in (xs, mode.Write) ∷ us) (fresh_outline kind c root f qs)
fresh_outline kind c root f ((xs, mode.Reduce o) ∷ qs) =
    ap (λ n. record { points = xs; mode = mode.Reduce o; count = n } ∷ map outline_of (map (λ (q : List ℕ × Mode). piece_of kind c root f q.1 q.0) qs))
    (length-replicate (length xs) (identity_of o (width_of kind))) ∙ ap (λ us. outline_in (xs, mode.Reduce o) ∷ us) (fresh_outline kind c root f qs)

module _ (g : Program) (x : World) (t : TaskCode) (c : Contents) (root f : ℕ) (agrees : Agrees g x c) (there : x.there root ≡ true) where
  abbrev of_field : FieldKind
  of_field = kind_of g.code c root f

  same_kind : of_field ≡ kind_at g (x.spaces root) f
  same_kind = ap (λ s. get_or (kinds_of g.code s) f kind.Truth) (agrees.spaces root there)

  width_fits : (p : ℕ) → FitsWidth (width_of of_field) (kept_at c root f p)
  width_fits p = subst (λ k. FitsWidth (width_of k) (kept_at c root f p)) (sym same_kind)
      (kept_narrow (kind_at g (x.spaces root) f) (g.positions (x.spaces root) f) (kept_at c root f p) (agrees.kept root f p there))

  -- what a cell has that was fetched
  abbrev IsFresh : ℕ → Cell → Type 0
  IsFresh p b = (b.mode ≡ mode.Read → b.value ≡ kept_at c root f p) × FitsWidth (width_of of_field) b.value

  abbrev IsReduce : Mode → Type 0
  IsReduce (mode.Reduce o) = Unit {0}
  IsReduce m = ⊥

  by_mode : (p : ℕ) (m : Mode) (z : ℤ) → IsFetched of_field c root f m p z → IsFresh p (record { mode = m; value = z })
  by_mode p mode.Read z e = (λ q. e, subst (FitsWidth (width_of of_field)) (sym e) (width_fits p))
  by_mode p mode.Write z e = (λ q. e, subst (FitsWidth (width_of of_field)) (sym e) (width_fits p))
  by_mode p (mode.Reduce o) z e =
      (λ q. absurd (subst IsReduce q tt), subst (FitsWidth (width_of of_field)) (sym e) (identity o (width_of of_field)).0)

  fresh : (p : ℕ) (b : Cell) → cell_at (part_from g.code c (claims g x t) root f).pieces p ≡ Some b → IsFresh p b
  fresh p b e = of (seen of_field c root f (claims g x t) p all_modes)
    where
      of : IsSeen of_field c root f (claims g x t) p all_modes (cell_at (part_from g.code c (claims g x t) root f).pieces p) → IsFresh p b
      of (inl h) = absurd (none-some b (sym h.1 ∙ e))
      of (inr h) = subst (IsFresh p) (same_Some _ b (sym h.3 ∙ e)) (by_mode p h.0 h.1 h.4)

  one_held : IsHeld g.code c (claims g x t) (part_from g.code c (claims g x t) root f)
  one_held = record {
    made = agrees.given root there;
    kind = refl;
    outline = fresh_outline of_field c root f (required.part_of (claims g x t) root f);
    reads = λ p b e. (fresh p b e).0;
    fits = λ p b e. (fresh p b e).1;
  }

-- a part of another field behind others
give_more : (c : Contents) (ps : List Part) (n : Part) → part_of ps n.root.0 n.field ≡ None → CanGive c (n ∷ []) → CanGive c ps → CanGive c (ps ++ n ∷ [])
give_more c [] n none one h = one
give_more c (q ∷ ps) n none one h = (
  h.0,
  h.1,
  part_more ps n q.root.0 q.field
      ∙ ap (λ o. or_part o (cond (is_part_of q.root.0 q.field n) (Some n) None)) h.2
      ∙ chosen (is_part_of q.root.0 q.field n) refl,
  give_more c ps n (later (is_part_of n.root.0 n.field q) none) one h.3,
)
  where
    later : (b : Bool) → cond b (Some q) (part_of ps n.root.0 n.field) ≡ None → part_of ps n.root.0 n.field ≡ None
    later true e = absurd (none-some q (sym e))
    later false e = e

    itself : is_part_of q.root.0 q.field q ≡ true
    itself = ap (λ b. b && (q.field == q.field)) (eq-eqb q.root.0 q.root.0 refl) ∙ eq-eqb q.field q.field refl

    chosen : (b : Bool) → is_part_of q.root.0 q.field n ≡ b → or_part None (cond b (Some n) None) ≡ None
    chosen false e = refl
    chosen true e =
        let a = and_parts (n.root.0 == q.root.0) (n.field == q.field) e in
        absurd (none-some q (sym (sym (ap (λ b. cond b (Some q) (part_of ps n.root.0 n.field))
        (ap (λ k. (q.root.0 == k) && (q.field == n.field)) (eqb-true n.root.0 q.root.0 a.0)
        ∙ ap (λ k. (q.root.0 == q.root.0) && (q.field == k)) (eqb-true n.field q.field a.1) ∙ itself)) ∙ none)))

pub fetched_given : (g : Program) (x : World) (t : TaskCode) (c : Contents) (ps : List Part) (root f : ℕ) → Agrees g x c → x.there root ≡ true →
    AreReached c (claims g x t) → part_of ps root f ≡ None → CanGive c ps → CanGive c (ps ++ part_from g.code c (claims g x t) root f ∷ [])
fetched_given g x t c ps root f agrees there reached none h =
    let q = part_from g.code c (claims g x t) root f in
    give_more c ps q none (can_give g.code c (claims g x t) (q ∷ []) (reached_modes c (claims g x t) reached) (one_held g x t c root f agrees there, refl, tt)) h
