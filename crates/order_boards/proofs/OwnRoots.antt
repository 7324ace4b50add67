-- The roots that a task instance made, one by one, and which of its makings each is.
use Rattle.std.proofs.Common.{◌≡◌, ◌||◌, ℕ, zero, suc, ◌+◌, List, [], ◌∷◌, ◌++◌, Bool, true, false, refl, sym, ap, ◌∙◌, subst, map, arith, append_assoc, append-nil, drop, get_or}
use Rattle.std.specs.Prelude.{length}
use Rattle.std.proofs.lemmas.List.{length-append}
use Rattle.plain_values.specs.Points.{has}
use Rattle.point_sets.proofs.Rising.{has-append, has_head, has_tail}
use Rattle.region_tree.specs.declared.tree.RootId.{RootId}
use Rattle.regent_tree.specs.Laws.{Shape, shape_of}
use Rattle.machine_terms.specs.declared.order.Contents.{Contents}
use Rattle.machine_terms.specs.Contents.{image_of}
use Rattle.memory_laws.proofs.Closing.{ids_of}
use Rattle.board_rules.specs.NumberedRuns.{Making}
use Rattle.regent_boards.specs.Frames as board
use Rattle.regent_boards.specs.RegentMachine.{own_roots, root_of, size_of, space_of}
use Rattle.segment_renaming.specs.Renaming.{root_to}
use Rattle.code_boards.specs.Views.{root_in}
use Rattle.order_boards.specs.Outcomes.{IsMadeBy}
use Rattle.order_boards.proofs.Renumbering.{names}
use Rattle.order_boards.proofs.Stands.{root_size, root_space}

-- ---- makings one behind another

made_before : (p : List ℕ) (i : ℕ) (xs ys : List Making) (k : ℕ) → IsMadeBy p i xs k → IsMadeBy p i (xs ++ ys) k
made_before p i [] ys k h = absurd h
made_before p i (x ∷ xs) ys zero h = h
made_before p i (x ∷ xs) ys (suc k) h = made_before p i xs ys k h

made_behind : (p : List ℕ) (i : ℕ) (xs ys : List Making) (k : ℕ) → IsMadeBy p i ys k → IsMadeBy p i (xs ++ ys) (length xs + k)
made_behind p i [] ys k h = subst (IsMadeBy p i ys) (omega arith) h
made_behind p i (x ∷ xs) ys k h =
    let e : suc (length xs + k) ≡ length (x ∷ xs) + k = omega arith in
    subst (IsMadeBy p i (x ∷ xs ++ ys)) e (made_behind p i xs ys k h)

-- Each of these roots is one of the makings from a number on, made by the operation at a place as this making of its.
abbrev pub AreNew : List ℕ → ℕ → List Making → (ℕ → ℕ) → List RootId → List ℕ → Type 0
AreNew p n xs now [] [] = Unit {0}
AreNew p n xs now (r ∷ rs) (i ∷ is) = ((k : ℕ) × (now r.0 ≡ n + k) × IsMadeBy p i xs k) × AreNew p n xs now rs is
AreNew p n xs now _ _ = ⊥

new_before : (p : List ℕ) (n : ℕ) (xs ys : List Making) (now later : ℕ → ℕ) (rs : List RootId) (is : List ℕ) →
    ((r : ℕ) → has (ids_of rs) r ≡ true → later r ≡ now r) → AreNew p n xs now rs is → AreNew p n (xs ++ ys) later rs is
new_before p n xs ys now later [] [] same h = tt
new_before p n xs ys now later [] (i ∷ is) same h = absurd h
new_before p n xs ys now later (r ∷ rs) [] same h = absurd h
new_before p n xs ys now later (r ∷ rs) (i ∷ is) same h = (
  (h.0.0, same r.0 (has_head r.0 (ids_of rs)) ∙ h.0.1, made_before p i xs ys h.0.0 h.0.2),
  new_before p n xs ys now later rs is (λ q e. same q (has_tail q r.0 (ids_of rs) e)) h.1,
)

new_behind : (p : List ℕ) (n : ℕ) (xs ys : List Making) (now : ℕ → ℕ) (rs : List RootId) (is : List ℕ) →
    AreNew p (n + length xs) ys now rs is → AreNew p n (xs ++ ys) now rs is
new_behind p n xs ys now [] [] h = tt
new_behind p n xs ys now [] (i ∷ is) h = absurd h
new_behind p n xs ys now (r ∷ rs) [] h = absurd h
new_behind p n xs ys now (r ∷ rs) (i ∷ is) h =
    ((length xs + h.0.0, h.0.1 ∙ omega arith, made_behind p i xs ys h.0.0 h.0.2), new_behind p n xs ys now rs is h.1)

new_append : (p : List ℕ) (n : ℕ) (xs : List Making) (now : ℕ → ℕ) (rs qs : List RootId) (is js : List ℕ) →
    AreNew p n xs now rs is → AreNew p n xs now qs js → AreNew p n xs now (rs ++ qs) (is ++ js)
new_append p n xs now [] qs [] js h g = g
new_append p n xs now [] qs (i ∷ is) js h g = absurd h
new_append p n xs now (r ∷ rs) qs [] js h g = absurd h
new_append p n xs now (r ∷ rs) qs (i ∷ is) js h g = (h.0, new_append p n xs now rs qs is js h.1 g)

-- Own roots with their makings: those that were there at first, and new ones behind them.
pub record Owns (p : List ℕ) (first : List RootId) (first_makings : List ℕ) (n : ℕ) (xs : List Making) (now : ℕ → ℕ) (own : List RootId)
    (makings : List ℕ) : Type 0 where
  pub more : List RootId
  pub more_makings : List ℕ
  pub own_is : own ≡ first ++ more
  pub makings_is : makings ≡ first_makings ++ more_makings
  pub are_new : AreNew p n xs now more more_makings

-- none is new
pub owns_same : (p : List ℕ) (first own : List RootId) (makings : List ℕ) (n : ℕ) (xs : List Making) (now : ℕ → ℕ) → own ≡ first →
    Owns p first makings n xs now own makings
owns_same p first own makings n xs now e = record {
  more = [];
  more_makings = [];
  own_is = e ∙ sym (append-nil first);
  makings_is = sym (append-nil makings);
  are_new = tt;
}

-- with more makings behind those
pub owns_on : (p : List ℕ) (first own last : List RootId) (first_makings makings last_makings : List ℕ) (n : ℕ) (xs ys : List Making) (now later : ℕ → ℕ) →
    ((r : ℕ) → has (ids_of own) r ≡ true → later r ≡ now r) → Owns p first first_makings n xs now own makings →
    Owns p own makings (n + length xs) ys later last last_makings → Owns p first first_makings n (xs ++ ys) later last last_makings
owns_on p first own last first_makings makings last_makings n xs ys now later same a b = record {
  more = a.more ++ b.more;
  more_makings = a.more_makings ++ b.more_makings;
  own_is = b.own_is ∙ ap (λ rs. rs ++ b.more) a.own_is ∙ append_assoc first a.more b.more;
  makings_is = b.makings_is ∙ ap (λ is. is ++ b.more_makings) a.makings_is ∙ append_assoc first_makings a.more_makings b.more_makings;
  are_new = new_append p n (xs ++ ys) later a.more b.more a.more_makings b.more_makings
      (new_before p n xs ys now later a.more a.more_makings (λ r e. same r (among r e)) a.are_new)
      (new_behind p n xs ys later b.more b.more_makings b.are_new);
}
  where
    always : (b : Bool) → (b || true) ≡ true
    always true = refl
    always false = refl

    among : (r : ℕ) → has (ids_of a.more) r ≡ true → has (ids_of own) r ≡ true
    among r e =
        ap (λ rs. has (ids_of rs) r) a.own_is
        ∙ ap (λ ns. has ns r) (Rattle.std.proofs.lemmas.List.map-append (λ (k : RootId). k.0) first a.more)
        ∙ has-append (ids_of first) (ids_of a.more) r ∙ ap (λ b. has (ids_of first) r || b) e ∙ always (has (ids_of first) r)

-- ---- what is told of own roots

-- read from the contents: making, field space and size
abbrev pub told_roots : Contents → List RootId → List ℕ → List board.OwnRoot
told_roots c (r ∷ rs) (i ∷ is) = record { making = i; space = (image_of c r.0).space; size = (image_of c r.0).count } ∷ told_roots c rs is
told_roots c _ _ = []

pub told_same : (c d : Contents) → ((r : ℕ) → shape_of (image_of d r) ≡ shape_of (image_of c r)) → (rs : List RootId) (is : List ℕ) →
    told_roots d rs is ≡ told_roots c rs is
told_same c d h [] is = refl
told_same c d h (r ∷ rs) [] = refl
told_same c d h (r ∷ rs) (i ∷ is) = λ l. record {
  making = i;
  space = ap (λ (s : Shape). s.space) (h r.0) l;
  size = ap (λ (s : Shape). s.count) (h r.0) l;
} ∷ told_same c d h rs is l

-- the numbers of own roots tell it, whatever numbers they have
pub own_told : (c : Contents) (who s : ℕ → ℕ) (rs : List ℕ) (own : List RootId) (is : List ℕ) → map root_in rs ≡ map (root_to (names s)) own →
    ((r : ℕ) → has (ids_of own) r ≡ true → s r ≡ root_of (image_of c r).space (image_of c r).count (who r)) → own_roots rs is ≡ told_roots c own is
own_told c who s [] [] is e h = refl
own_told c who s [] (r ∷ own) is e h = absurd (omega (arith, ap length e))
own_told c who s (r ∷ rs) [] is e h = absurd (omega (arith, ap length e))
own_told c who s (r ∷ rs) (q ∷ own) [] e h = refl
own_told c who s (r ∷ rs) (q ∷ own) (i ∷ is) e h =
    let here : r ≡ root_of (image_of c q.0).space (image_of c q.0).count (who q.0) =
    ap (λ (ks : List RootId). (get_or ks 0 (record { 0 = r })).0) e ∙ h q.0 (has_head q.0 (ids_of own)) in
    λ l. record {
      making = i;
      space = (ap space_of here ∙ root_space (image_of c q.0).space (image_of c q.0).count (who q.0)) l;
      size = (ap size_of here ∙ root_size (image_of c q.0).space (image_of c q.0).count (who q.0)) l;
    } ∷ own_told c who s rs own is (ap (λ (ks : List RootId). drop 1 ks) e) (λ k d. h k (has_tail k q.0 (ids_of own) d)) l
