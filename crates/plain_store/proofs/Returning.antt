-- Parts that go back one after another.
use Rattle.std.proofs.Common.{◌≡◌, ◌<◌, ◌≤◌, ◌+◌, ◌-◌, ◌==◌, ◌++◌, ℕ, ℤ, true, false, List, [], ◌∷◌, refl, sym, ap, subst, ◌∙◌, length, length-drop, get_or, take, drop, arith}
use Rattle.std.proofs.lemmas.Bool.{eqb-true}
use Rattle.std.proofs.lemmas.List.{drop_all, drop_more, take_all}
use Rattle.lane_kernels.specs.declared.numbers.Mode.TheVariants.{Write}
use Rattle.plain_values.specs.Points.{points}
use Rattle.region_tree.specs.declared.piece.Part.{Part}
use Rattle.region_tree.specs.Pieces.{Held}
use Rattle.machine_terms.specs.declared.order.Contents.{Contents}
use Rattle.machine_terms.specs.Copies.{give_parts, give_pieces}
use Rattle.plain_store.specs.declared.loan.Loan.{Loan}
use Rattle.plain_store.specs.Columns.{IsThere, column_of, pieces_given, put_column}
use Rattle.plain_store.specs.Keys.{is_lent, is_loan_of}
use Rattle.plain_store.specs.Loans.{AreLent}
use Rattle.plain_store.proofs.Lending.{loan_back, pieces_back}
use Rattle.plain_store.proofs.Placing.{and_first, and_second}

abbrev pub given_part : Part → Contents → Contents
given_part q c = give_pieces q.kind q.root.0 q.field q.pieces c

-- one part more
pub give_next : (qs : List Part) (q : Part) (c : Contents) →
    give_parts (qs ++ q ∷ []) c ≡ given_part q (give_parts qs c)
give_next [] q c = refl
give_next (p ∷ ps) q c = give_next ps q (given_part p c)

-- a part that holds a lent field
pub lent_part_goes : (q : Part) (zs : List ℤ) (l : Loan) (ls : List Loan) (c k given : Contents) →
    is_loan_of q.root.0 q.field l ≡ true → AreLent (l ∷ ls) c k → length zs ≡ l.count →
    q.pieces ≡ record { points = points l.count; mode = Write; values = zs } ∷ [] →
    given ≡ put_column q.root.0 q.field zs k → AreLent ls (given_part q c) given
lent_part_goes q zs l ls c k given same h e is to =
    let root = eqb-true l.root.0 q.root.0 (and_first (l.root.0 == q.root.0) (l.field == q.field) same) in
    let field = eqb-true l.field q.field (and_second (l.root.0 == q.root.0) (l.field == q.field) same) in
    let pieces = ap (λ (n : ℕ). record { points = points n; mode = Write; values = zs } ∷ []) e ∙ sym is in
    subst (λ (x : Contents). AreLent ls (given_part q c) x) (sym to)
    (subst (λ (n : ℕ). AreLent ls (give_pieces q.kind q.root.0 n q.pieces c) (put_column q.root.0 n zs k)) field
    (subst (λ (n : ℕ). AreLent ls (give_pieces q.kind n l.field q.pieces c) (put_column n l.field zs k)) root
    (subst (λ (hs : List Held). AreLent ls (give_pieces q.kind l.root.0 l.field hs c) (put_column l.root.0 l.field zs k))
    pieces (loan_back q.kind zs l ls c k h e))))

-- a part that was copied
pub copied_part_goes : (q : Part) (ls : List Loan) (c k given : Contents) → is_lent ls q.root.0 q.field ≡ false →
    IsThere k q.root.0 q.field → AreLent ls c k →
    given ≡ put_column q.root.0 q.field (pieces_given q.kind q.pieces (column_of k q.root.0 q.field)) k →
    AreLent ls (given_part q c) given
copied_part_goes q ls c k given n there h to =
    subst (λ (x : Contents). AreLent ls (given_part q c) x) (sym to)
    (pieces_back q.kind q.pieces ls c k q.root.0 q.field h n there)

-- the part that holds the next lent field
pub next_part_goes : (q : Part) (ls : List Loan) (next : ℕ) (d : Loan) (k given : Contents) → next < length ls →
    is_loan_of q.root.0 q.field (get_or ls next d) ≡ true →
    (zs : List ℤ) × (length zs ≡ (get_or ls next d).count)
    × (q.pieces ≡ record { points = points (get_or ls next d).count; mode = Write; values = zs } ∷ [])
    × (given ≡ put_column q.root.0 q.field zs k) →
    (c : Contents) → AreLent (drop next ls) c k → AreLent (drop (next + 1) ls) (given_part q c) given
next_part_goes q ls next d k given l same g c h =
    lent_part_goes q g.0 (get_or ls next d) (drop (next + 1) ls) c k given same
    (subst (λ (xs : List Loan). AreLent xs c k) (drop_more ls next d l) h) g.1 g.2 g.3

-- a part that was copied, by the loans that are left
pub other_part_goes : (q : Part) (ls : List Loan) (next : ℕ) (k given : Contents) →
    is_lent (take (length ls - next) (drop next ls)) q.root.0 q.field ≡ false →
    IsThere k q.root.0 q.field →
    given ≡ put_column q.root.0 q.field (pieces_given q.kind q.pieces (column_of k q.root.0 q.field)) k →
    (c : Contents) → AreLent (drop next ls) c k → AreLent (drop next ls) (given_part q c) given
other_part_goes q ls next k given n there to c h =
    let rest = take_all (length ls - next) (drop next ls) (grind (arith, length-drop)) in
    copied_part_goes q (drop next ls) c k given
    (ap (λ (xs : List Loan). is_lent xs q.root.0 q.field) (sym rest) ∙ n) there h to

-- nothing is lent any more
pub none_left : (ls : List Loan) (next : ℕ) (c k : Contents) → length ls ≤ next → AreLent (drop next ls) c k → k ≡ c
none_left ls next c k l h = subst (λ (xs : List Loan). AreLent xs c k) (drop_all next ls l) h
