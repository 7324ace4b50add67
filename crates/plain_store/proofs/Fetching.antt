-- Parts that are copied or lent out, by what is kept of the roots.
use Rattle.std.proofs.Common.{◌≡◌, ◌<◌, ◌++◌, ℕ, ℤ, false, List, [], ◌∷◌, refl, sym, ap, subst, ◌∙◌, map, length, get_or}
use Rattle.std.specs.Prelude.{IfOk, Result, Ok, Err}
use Rattle.lane_kernels.specs.declared.numbers.FieldKind.{FieldKind}
use Rattle.lane_kernels.specs.declared.numbers.FieldKind.TheVariants.{Truth}
use Rattle.lane_kernels.specs.declared.numbers.Mode.{Mode}
use Rattle.lane_kernels.specs.declared.numbers.Mode.TheVariants.{Write}
use Rattle.plain_values.specs.Points.{points}
use Rattle.region_tree.specs.declared.piece.Part.{Part}
use Rattle.region_tree.specs.Pieces.{Held}
use Rattle.region_tree.specs.Requirements.{Requirement, part_of}
use Rattle.task_code.specs.declared.code.Code.{Code}
use Rattle.machine_terms.specs.declared.order.Contents.{Contents}
use Rattle.machine_terms.specs.Contents.{image_of, kind_of, kinds_of}
use Rattle.machine_terms.specs.Copies.{part_from, piece_of}
use Rattle.machine_terms.specs.Orders.{fetch_part}
use Rattle.plain_store.specs.declared.holder.Holder.{Holder}
use Rattle.plain_store.specs.declared.loan.Loan.{Loan}
use Rattle.plain_store.specs.Columns.{IsThere, column_of, piece_on}
use Rattle.plain_store.specs.Keys.{is_lent}
use Rattle.plain_store.specs.Loans.{Stands, copied_out, lent_out, whole}
use Rattle.plain_store.proofs.ColumnLaws.{shape}
use Rattle.plain_store.proofs.Giving.{all_read, piece_is}
use Rattle.plain_store.proofs.Lending.{all_of, kept_column, kept_shape, lent_next}

map_same : {A B : Type 0} (f g : A → B) → ((x : A) → f x ≡ g x) → (xs : List A) → map f xs ≡ map g xs
map_same f g e [] = refl
map_same f g e (x ∷ xs) = ap (λ y. y ∷ map f xs) (e x) ∙ ap (λ ys. g x ∷ ys) (map_same f g e xs)

abbrev part_with : ℕ → ℕ → FieldKind → List Held → Part
part_with root f kind hs = record { root = record { 0 = root }; field = f; kind = kind; pieces = hs }

module _ (code : Code) (c k : Contents) (needs : List Requirement) (root f : ℕ)
    (shapes : shape (image_of k root) ≡ shape (image_of c root))
    (columns : column_of k root f ≡ column_of c root f) where
  kinds : kind_of code c root f ≡ kind_of code k root f
  kinds = ap (λ (s : ℕ × ℕ). get_or (kinds_of code s.0) f Truth) (sym shapes)

  piece_kept : (q : List ℕ × Mode) → piece_of (kind_of code c root f) c root f q.1 q.0
      ≡ piece_on (kind_of code k root f) (column_of k root f) q.1 q.0
  piece_kept q = piece_is (kind_of code c root f) c root f q.1 q.0 ∙
      ap (λ (d : FieldKind). piece_on d (column_of c root f) q.1 q.0) kinds ∙
      ap (λ (zs : List ℤ). piece_on (kind_of code k root f) zs q.1 q.0) (sym columns)

  copied_is : part_from code c needs root f ≡ part_with root f (kind_of code k root f)
      (map (λ (q : List ℕ × Mode). piece_on (kind_of code k root f) (column_of k root f) q.1 q.0)
      (part_of needs root f))
  copied_is = ap (λ (d : FieldKind). part_with root f d
      (map (λ (q : List ℕ × Mode). piece_of (kind_of code c root f) c root f q.1 q.0) (part_of needs root f)))
      kinds ∙ ap (part_with root f (kind_of code k root f))
      (map_same (λ (q : List ℕ × Mode). piece_of (kind_of code c root f) c root f q.1 q.0)
      (λ (q : List ℕ × Mode). piece_on (kind_of code k root f) (column_of k root f) q.1 q.0)
      piece_kept (part_of needs root f))

  lent_is : part_of needs root f ≡ (points (length (column_of k root f)), Write) ∷ [] →
      part_from code c needs root f
      ≡ part_with root f (kind_of code k root f) (all_of (column_of k root f) ∷ [])
  lent_is e = copied_is ∙
      ap (λ (qs : List (List ℕ × Mode)). part_with root f (kind_of code k root f)
      (map (λ (q : List ℕ × Mode). piece_on (kind_of code k root f) (column_of k root f) q.1 q.0) qs)) e ∙
      ap (λ (zs : List ℤ). part_with root f (kind_of code k root f)
      (record { points = points (length (column_of k root f)); mode = Write; values = zs } ∷ []))
      (all_read (column_of k root f))

pub copied_fetched : (code : Code) (root f : ℕ) (c : Contents) (h : Holder) (found : List (List ℕ × Mode)) →
    Stands c h → is_lent h.loans root f ≡ false → found ≡ part_of h.instance.needs root f →
    (new : Holder) → new ≡ copied_out (kind_of code h.instance.contents root f) root f found h →
    Stands c new × (whole c new ≡ fetch_part code root f (whole c h))
copied_fetched code root f c h found st n e new is = let k = h.instance.contents in subst
    (λ (x : Holder). Stands c x × (whole c x ≡ fetch_part code root f (whole c h))) (sym is) (
      st,
      ap (λ (qs : List (List ℕ × Mode)). whole c (copied_out (kind_of code k root f) root f qs h)) e ∙
          ap (λ (q : Part). record (whole c h) { parts = h.instance.parts ++ q ∷ [] })
          (sym (copied_is code c k h.instance.needs root f (kept_shape h.loans c k root st)
          (kept_column h.loans c k root f st n))),
    )

pub lent_fetched : (code : Code) (root f : ℕ) (c : Contents) (h : Holder) → Stands c h →
    is_lent h.loans root f ≡ false → IsThere h.instance.contents root f → root < h.instance.contents.made →
    (points (length (column_of h.instance.contents root f)), Write) ∷ [] ≡ part_of h.instance.needs root f →
    (new : Holder) → new ≡ lent_out (kind_of code h.instance.contents root f) root f h →
    Stands c new × (whole c new ≡ fetch_part code root f (whole c h))
lent_fetched code root f c h st n there made e new is =
    let k = h.instance.contents in
    let loan : Loan =
    record { root = record { 0 = root }; field = f; count = length (column_of k root f) } in subst
    (λ (x : Holder). Stands c x × (whole c x ≡ fetch_part code root f (whole c h))) (sym is) (
      lent_next h.loans loan c k st (record { there = there; count = refl; made = made }) n,
      ap (λ (q : Part). record (whole c h) { parts = h.instance.parts ++ q ∷ [] })
          (sym (lent_is code c k h.instance.needs root f (kept_shape h.loans c k root st)
          (kept_column h.loans c k root f st n) (sym e))),
    )

-- a part is all points of a field's numbers
abbrev all_in : List ℤ → List (List ℕ × Mode)
all_in zs = (points (length zs), Write) ∷ []

pub whole_found : (zs column : List ℤ) (found all : List (List ℕ × Mode)) →
    found ≡ (points (length zs), Write) ∷ [] → zs ≡ column → found ≡ all →
    (points (length column), Write) ∷ [] ≡ all
whole_found zs column found all one same is = ap all_in (sym same) ∙ sym one ∙ is

-- both facts of a value, if there is one
pub if_both : {T E : Type 0} (r : Result T E) (P Q R : T → Type 0) → ((x : T) → P x → Q x → R x) →
    IfOk r P → IfOk r Q → IfOk r R
if_both (Ok x) P Q R f p q = f x p q
if_both (Err e) P Q R f p q = tt
