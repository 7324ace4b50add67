-- Parts that go back on the table and in the tree leave the map that shows the other.
use Rattle.std.proofs.Common.{◌≡◌, ◌<◌, ◌==◌, ◌∷◌, ◌∙◌, ⊎_elim, ℕ, ℤ, List, [], ap, eqb-true, length, map, subst, sym}
use Rattle.std.specs.Prelude.{All, get_or}
use Rattle.std.proofs.lemmas.Bool.{and_parts, cases_Bool, cases_lt}
use Rattle.std.proofs.Math.ListN.{get_or-map}
use Rattle.std.proofs.lemmas.List.{length-map}
use Rattle.std.proofs.lemmas.List.Elements.{All-cons, All-get_or, All-head, All-map, All-nil}
use Rattle.plain_values.specs.Points.{has, points}
use Rattle.lane_kernels.specs.Numbers.{FitsWidth, width_of}
use Rattle.lane_kernels.specs.declared.numbers.FieldKind.TheVariants.{Truth}
use Rattle.region_tree.specs.declared.piece.Part.{Part}
use Rattle.region_tree.specs.declared.tree.RootId.{RootId}
use Rattle.logical_map.specs.Maps.{Column, LogicalMap, column_of, columns_of, no_column, number_at}
use Rattle.task_code.specs.declared.job.Job.{Job}
use Rattle.machine_terms.specs.Contents.{kinds_of}
use Rattle.board_rules.specs.Ground.{Ground}
use Rattle.board_rules.specs.Processes.{Map, run_all}
use Rattle.board_rules.specs.Running.{Element, Machine, puts}
use Rattle.regent_boards.specs.Frames.{Location}
use Rattle.regent_boards.specs.RegentMachine.{kind_of, regent_ground}
use Rattle.segment_renaming.specs.Renaming.{part_to}
use Rattle.code_boards.specs.Views.{parts_in, spaces_of}
use Rattle.order_boards.proofs.Making.{has_point}
use Rattle.order_boards.proofs.Stands as order
use Rattle.board_terms.specs.declared.extent.Extent.{Extent}
use Rattle.board_terms.specs.Gives.{with_parts}
use Rattle.board_terms.specs.States.{no_extent}
use Rattle.board_trees.specs.Frames.{HasEachOnce, HasFitting, IsHeld}
use Rattle.board_trees.specs.Names.{AreMade, IsNaming, name_of, named}
use Rattle.board_trees.specs.Shows.{HoldsMap}
use Rattle.board_trees.proofs.Named.{is_naming, named_all}
use Rattle.given_trees.proofs.Maps.{HasKind, IsPlace, Shape, all_same, fields_same, given_renamed, kind_same, kinds_same, parts_beside, parts_past, parts_read, parts_shapes}
use Rattle.given_trees.proofs.Values.{AreKinds, acts, acts_given, are_kinds, parts_given, puts_act}

module _ (job : Job) (extents : List Extent) (who : ℕ → ℕ) (makings : ℕ) (made : AreMade (length extents) who makings) (live : LogicalMap) (m : Map (regent_ground (spaces_of job.code)))
    (roots : List RootId) (below : All (λ (r : RootId). r.0 < length extents) roots) (M : Machine (regent_ground (spaces_of job.code)))
    (ps : List (Element (regent_ground (spaces_of job.code)))) (qs : List Part)
    (parts : (name : ℕ → ℕ) → IsNaming extents who roots name → parts_in job.code ps ≡ map (part_to (named name)) qs)
    (held_ps : All (IsHeld job.code) ps) (fitting : All HasFitting qs) (once : All HasEachOnce qs)
    (root : ℕ) (H : HoldsMap job live extents who m root) where
  abbrev G : Ground
  G = regent_ground (spaces_of job.code)

  abbrev name : ℕ → ℕ
  name = named_all extents who makings made 0

  is : IsNaming extents who roots name
  is = is_naming extents who makings made 0 roots below

  abbrev R : ℕ
  R = name root

  named_root : R ≡ name_of extents who root
  named_root = All-head (λ (r : RootId). name r.0 ≡ name_of extents who r.0) (record { 0 = root }) []
      (is_naming extents who makings made 0 (record { 0 = root } ∷ []) (All-cons (λ (r : RootId). r.0 < length extents) (record { 0 = root }) [] H.made (All-nil (λ (r : RootId). r.0 < length extents)))).known

  abbrev space : ℕ
  space = (get_or extents root no_extent).space

  abbrev size : ℕ
  size = (get_or extents root no_extent).count

  abbrev behind : LogicalMap
  behind = with_parts qs live

  fitting_seen : All HasFitting (parts_in job.code ps)
  fitting_seen = subst (All HasFitting) (sym (parts name is)) (All-map HasFitting (part_to (named name)) qs fitting)

  -- ---- kinds

  kinds_length : length (columns_of live root) ≡ length (kinds_of job.code space)
  kinds_length = sym (length-map (columns_of live root) (λ (c : Column). c.kind)) ∙ ap length H.kinds

  kind_is : (f : ℕ) → f < length (columns_of live root) → kind_of (spaces_of job.code) R f ≡ (column_of live root f).kind
  kind_is f l = ap (λ r. kind_of (spaces_of job.code) r f) named_root
      ∙ order.kind_same job.code space size (who root) f (subst (λ n. f < n) kinds_length l)
      ∙ ap (λ ks. get_or ks f Truth) (sym H.kinds)
      ∙ get_or-map (λ (c : Column). c.kind) (columns_of live root) f no_column

  kinds_in : (f : ℕ) → f < length (columns_of live root) → (xs : List Part) → AreKinds job.code (map (part_to (named name)) xs) → All (HasKind live root f) xs
  kinds_in f l [] h = All-nil (HasKind live root f)
  kinds_in f l (q ∷ xs) h = All-cons (HasKind live root f) q xs
      (λ b. let same = and_parts (q.root.0 == root) (q.field == f) b in
      h.0 ∙ (λ i. kind_of (spaces_of job.code) (name (eqb-true q.root.0 root same.0 i)) (eqb-true q.field f same.1 i)) ∙ kind_is f l)
      (kinds_in f l xs h.1)

  have_kinds : (f : ℕ) → f < length (columns_of live root) → All (HasKind live root f) qs
  have_kinds f l = kinds_in f l qs (subst (AreKinds job.code) (parts name is) (are_kinds job.code ps))

  -- ---- one number

  module _ (f p : ℕ) (place : IsPlace live root f p) where
    abbrev z : ℤ
    z = number_at live root f p

    abbrev at : Location
    at = record { root = R; field = f; point = p }

    fits : FitsWidth (width_of (kind_of (spaces_of job.code) R f)) z
    fits = subst (λ k. FitsWidth (width_of k) z) (sym (kind_is f place.field)) (H.fit f p)

    read : number_at behind root f p ≡ parts_given (parts_in job.code ps) R f p z
    read = parts_read qs live root f p place once (have_kinds f place.field)
        ∙ sym (given_renamed name is.one qs root f p z)
        ∙ ap (λ xs. parts_given xs R f p z) (sym (parts name is))

    fits_behind : FitsWidth (width_of (column_of behind root f).kind) (number_at behind root f p)
    fits_behind = subst (λ y. FitsWidth (width_of (column_of behind root f).kind) y) (sym read)
        (subst (λ k. FitsWidth (width_of k) (parts_given (parts_in job.code ps) R f p z))
        (kind_is f place.field ∙ sym (kind_same behind live root f (parts_shapes qs live root)))
        (acts_given job.code R f p ps held_ps fitting_seen z fits).1)

    number_is : z ≡ m at → number_at behind root f p ≡ run_all G (puts G M ps) m at
    number_is e = read ∙ sym (acts_given job.code R f p ps held_ps fitting_seen z fits).0
        ∙ ap (acts job.code ps at) e ∙ sym (puts_act job.code M ps m at)

  -- ---- the root

  points_of : (f : ℕ) → f < length (columns_of live root) → (column_of live root f).points ≡ points size
  points_of f l = All-get_or (λ (c : Column). c.points ≡ points size) (columns_of live root) f no_column l H.points_are

  place_at : (f p : ℕ) → f < length (columns_of live root) → p < size → IsPlace live root f p
  place_at f p l k = record {
    field = l;
    whole = H.whole;
    point = ap (λ xs. has xs p) (points_of f l) ∙ has_point size p k;
  }

  fields_are : length (columns_of behind root) ≡ length (columns_of live root)
  fields_are = fields_same behind live root (parts_shapes qs live root)

  pub holds_behind : HoldsMap job behind extents who (run_all G (puts G M ps) m) root
  holds_behind = record {
    made = H.made;
    kinds = kinds_same behind live root (parts_shapes qs live root) ∙ H.kinds;
    points_are = all_same (λ (s : Shape). s.points ≡ points size) behind live root (parts_shapes qs live root) H.points_are;
    whole = all_same (λ (s : Shape). s.count ≡ length s.points) behind live root (parts_shapes qs live root) H.whole;
    numbers = λ f p l k.
        let here = subst (λ n. f < n) fields_are l in
        number_is f p (place_at f p here k) (H.numbers f p here k ∙ ap (λ r. m (record { root = r; field = f; point = p })) (sym named_root))
        ∙ ap (λ r. run_all G (puts G M ps) m (record { root = r; field = f; point = p })) named_root;
    fit = λ f p. ⊎_elim
        (λ l. ⊎_elim (λ h. fits_behind f p (record { field = l; whole = H.whole; point = h }))
        (λ h. as_before f p (parts_beside qs live root f p h)) (cases_Bool (has (column_of live root f).points p)))
        (λ l. as_before f p (parts_past qs live root f p l)) (cases_lt f (length (columns_of live root)));
  }
    where
      as_before : (f p : ℕ) → number_at behind root f p ≡ number_at live root f p → FitsWidth (width_of (column_of behind root f).kind) (number_at behind root f p)
      as_before f p e = subst (λ y. FitsWidth (width_of (column_of behind root f).kind) y) (sym e)
          (subst (λ k. FitsWidth (width_of k) (number_at live root f p)) (sym (kind_same behind live root f (parts_shapes qs live root))) (H.fit f p))
