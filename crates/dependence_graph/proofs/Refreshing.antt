-- How ready operations are found.
use Rattle.std.specs.Prelude.{Contains}
use Rattle.std.proofs.Common.{◌≡◌, ◌<◌, ◌+◌, ◌&&◌, ◌++◌, ◌∷◌, [], ◌∙◌, ℕ, Bool, true, false, List, ⊎_elim, ap, sym, refl, subst, arith, get_or, length, set, take, leb}
use Rattle.std.proofs.lemmas.Bool.{and_parts, cases_eq, cases_lt, le-leb, lt-leb}
use Rattle.std.proofs.lemmas.List.{get_or-set_other, get_or-set_same, get_or_past, length-set, take_all, take_more}
use Rattle.std.proofs.lemmas.List.Elements.{Contains-append_left, Contains-push, Contains-push_cases}
use Rattle.std.proofs.lemmas.List.Folds.{list_all_at}
use Rattle.region_tree.specs.declared.tree.OpNumber.{OpNumber}
use Rattle.least_set.specs.Members.{has}
use Rattle.dependence_graph.specs.Entries.{Knot}
use Rattle.dependence_graph.specs.Knots.{all_done, is_done, is_ready, knot_at, number, stage_at}
use Rattle.dependence_graph.specs.Links.{AreGrown, AreReady, AreTold, HasAll, HasReady, IsLinked, link_at, no_link, waiters_at}
use Rattle.dependence_graph.specs.declared.link.Link.{Link}
use Rattle.dependence_graph.proofs.Linked.{has_set_other, has_set_same}

-- ---- what is clear

all_done_push : (ks : List Knot) (ops : List OpNumber) (o : OpNumber) → all_done ks ops ≡ true →
    is_done (stage_at ks o.0) ≡ true → all_done ks (ops ++ o ∷ []) ≡ true
all_done_push ks [] o h d = ap (λ (b : Bool). b && true) d
all_done_push ks (p ∷ ops) o h d =
    let parts = and_parts (is_done (stage_at ks p.0)) (all_done ks ops) h in
    ap (λ (b : Bool). b && all_done ks (ops ++ o ∷ [])) parts.0 ∙ all_done_push ks ops o parts.1 d

pub all_done_more : (ks : List Knot) (ops : List OpNumber) (i : ℕ) (d : OpNumber) → i < length ops →
    all_done ks (take i ops) ≡ true → is_done (stage_at ks (get_or ops i d).0) ≡ true →
    all_done ks (take (i + 1) ops) ≡ true
all_done_more ks ops i d l h e =
    ap (all_done ks) (take_more ops i d l) ∙ all_done_push ks (take i ops) (get_or ops i d) h e

pub clear_tells : (ks : List Knot) (ops : List OpNumber) (passed : ℕ) → all_done ks (take passed ops) ≡ true →
    (passed < length ops → is_done (stage_at ks (get_or ops passed (number 0)).0) ≡ false) →
    leb (length ops) passed ≡ all_done ks ops
clear_tells ks ops passed h undone = ⊎_elim
    (λ l. lt-leb (length ops) passed l
    ∙ sym (list_all_at (λ (o : OpNumber). is_done (stage_at ks o.0)) ops passed (number 0) l (undone l)))
    (λ g. le-leb (length ops) passed g ∙ sym h ∙ ap (all_done ks) (take_all passed ops g))
    (cases_lt passed (length ops))

-- ---- links

pub waiters_set : (ls : List Link) (place p k : ℕ) →
    waiters_at (set ls place (record { waiters = waiters_at ls place; passed = p })) k ≡ waiters_at ls k
waiters_set ls place p k = ⊎_elim
    (λ e. ⊎_elim
    (λ l. ap (λ (n : ℕ). waiters_at (set ls place (record { waiters = waiters_at ls place; passed = p })) n) e
    ∙ ap (λ (m : Link). m.waiters) (get_or-set_same ls place _ no_link l) ∙ ap (waiters_at ls) (sym e))
    (λ g. ap (λ (m : Link). m.waiters) (get_or_past (set ls place _) k no_link
    (omega (arith, e, g, length-set ls place (record { waiters = waiters_at ls place; passed = p })))
    ∙ sym (get_or_past ls k no_link (omega (arith, e, g)))))
    (cases_lt place (length ls)))
    (λ n. ap (λ (m : Link). m.waiters) (get_or-set_other ls place k _ no_link n))
    (cases_eq k place)

pub linked_passed : (ks : List Knot) (ls : List Link) (place p : ℕ) → IsLinked ks ls → place < length ls →
    all_done ks (take p (knot_at ks place).on) ≡ true →
    IsLinked ks (set ls place (record { waiters = waiters_at ls place; passed = p }))
linked_passed ks ls place p l b h = record {
  size = length-set ls place (record { waiters = waiters_at ls place; passed = p }) ∙ l.size;
  known = l.known;
  waiters = λ k j s w. subst (λ (ns : List ℕ). Contains ns k) (sym (waiters_set ls place p j)) (l.waiters k j s w);
  children = l.children;
  passed = λ k. ⊎_elim
      (λ e. ap (λ (n : ℕ). all_done ks (take (link_at (set ls place (record { waiters = waiters_at ls place; passed = p })) n).passed (knot_at ks n).on)) e
      ∙ ap (λ (m : Link). all_done ks (take m.passed (knot_at ks place).on)) (get_or-set_same ls place (record { waiters = waiters_at ls place; passed = p }) no_link b) ∙ h)
      (λ n. ap (λ (m : Link). all_done ks (take m.passed (knot_at ks k).on)) (get_or-set_other ls place k (record { waiters = waiters_at ls place; passed = p }) no_link n) ∙ l.passed k)
      (cases_eq k place);
}

-- ---- the set

pub ready_more : (ks : List Knot) (flags : List Bool) (k : ℕ) → AreReady ks flags → is_ready ks k ≡ true →
    k < length flags → AreReady ks (set flags k true)
ready_more ks flags k a r l j h = ⊎_elim
    (λ e. ap (is_ready ks) e ∙ r)
    (λ n. a j (sym (has_set_other flags k j true n) ∙ h))
    (cases_eq j k)

pub has_more : (flags : List Bool) (k : ℕ) → k < length flags → HasAll flags (set flags k true)
has_more flags k l j h = ⊎_elim
    (λ e. ap (has (set flags k true)) e ∙ has_set_same flags k true l)
    (λ n. has_set_other flags k j true n ∙ h)
    (cases_eq j k)

pub found_more : (ks : List Knot) (ns : List ℕ) (i n : ℕ) (old new : List Bool) → i < length ns → n ≡ get_or ns i 0 →
    HasReady ks (take i ns) old → HasAll old new → (is_ready ks n ≡ true → has new n ≡ true) →
    HasReady ks (take (i + 1) ns) new
found_more ks ns i n old new l e h a f k c r = ⊎_elim
    (λ was. a k (h k was r))
    (λ (now : get_or ns i 0 ≡ k). let own = e ∙ now in ap (has new) (sym own) ∙ f (ap (is_ready ks) own ∙ r))
    (Contains-push_cases (take i ns) (get_or ns i 0) k (subst (λ (ms : List ℕ). Contains ms k) (take_more ns i 0 l) c))

-- ---- who is told

pub grown_itself : (ls : List Link) → AreGrown ls ls
grown_itself ls = record { size = refl; passed = λ k. refl; waiters = λ k n c. c }

pub grown_on : (ls us ws : List Link) → AreGrown ls us → AreGrown us ws → AreGrown ls ws
grown_on ls us ws f g = record {
  size = g.size ∙ f.size;
  passed = λ k. g.passed k ∙ f.passed k;
  waiters = λ k n c. g.waiters k n (f.waiters k n c);
}

pub grown_waiter : (ls : List Link) (place waiter : ℕ) → place < length ls →
    AreGrown ls (set ls place (record { waiters = waiters_at ls place ++ waiter ∷ []; passed = (link_at ls place).passed }))
grown_waiter ls place waiter l = record {
  size = length-set ls place (record { waiters = waiters_at ls place ++ waiter ∷ []; passed = (link_at ls place).passed });
  passed = λ k. ⊎_elim
      (λ e. ap (λ (n : ℕ). (link_at (set ls place (record { waiters = waiters_at ls place ++ waiter ∷ []; passed = (link_at ls place).passed })) n).passed) e
      ∙ ap (λ (m : Link). m.passed) (get_or-set_same ls place (record { waiters = waiters_at ls place ++ waiter ∷ []; passed = (link_at ls place).passed }) no_link l)
      ∙ ap (λ (n : ℕ). (link_at ls n).passed) (sym e))
      (λ n. ap (λ (m : Link). m.passed) (get_or-set_other ls place k (record { waiters = waiters_at ls place ++ waiter ∷ []; passed = (link_at ls place).passed }) no_link n)) (cases_eq k place);
  waiters = λ k n c. ⊎_elim
      (λ e. subst (λ (i : ℕ). Contains (waiters_at (set ls place (record { waiters = waiters_at ls place ++ waiter ∷ []; passed = (link_at ls place).passed })) i) n) (sym e)
      (subst (λ (m : Link). Contains m.waiters n) (sym (get_or-set_same ls place (record { waiters = waiters_at ls place ++ waiter ∷ []; passed = (link_at ls place).passed }) no_link l))
      (Contains-append_left (waiters_at ls place) (waiter ∷ []) n (subst (λ (i : ℕ). Contains (waiters_at ls i) n) e c))))
      (λ d. subst (λ (m : Link). Contains m.waiters n) (sym (get_or-set_other ls place k (record { waiters = waiters_at ls place ++ waiter ∷ []; passed = (link_at ls place).passed }) no_link d)) c)
      (cases_eq k place);
}

pub told_waiter : (ls : List Link) (place waiter : ℕ) → place < length ls →
    Contains (waiters_at (set ls place (record { waiters = waiters_at ls place ++ waiter ∷ []; passed = (link_at ls place).passed })) place) waiter
told_waiter ls place waiter l =
    subst (λ (m : Link). Contains m.waiters waiter) (sym (get_or-set_same ls place (record { waiters = waiters_at ls place ++ waiter ∷ []; passed = (link_at ls place).passed }) no_link l))
    (Contains-push (waiters_at ls place) waiter)

pub told_more : (ls us : List Link) (ops : List OpNumber) (i waiter : ℕ) (d : OpNumber) → i < length ops →
    AreTold ls (take i ops) waiter → AreGrown ls us →
    ((get_or ops i d).0 < length ls → Contains (waiters_at us (get_or ops i d).0) waiter) → AreTold us (take (i + 1) ops) waiter
told_more ls us ops i waiter d l t g f k b c = ⊎_elim
    (λ was. g.waiters k waiter (t k (omega (arith, b, g.size)) was))
    (λ (now : get_or ops i d ≡ number k). let own = ap (λ (p : OpNumber). p.0) now in
    subst (λ (n : ℕ). Contains (waiters_at us n) waiter) own (f (omega (arith, own, b, g.size))))
    (Contains-push_cases (take i ops) (get_or ops i d) (number k) (subst (λ (os : List OpNumber). Contains os (number k)) (take_more ops i d l) c))
