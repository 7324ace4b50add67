-- Users of which those are left behind a place that pass a test.
use Rattle.std.specs.Prelude.{filter}
use Rattle.std.proofs.Common.{◌≡◌, ◌<◌, ◌≤◌, ◌+◌, ◌++◌, ◌⊎◌, ◌∷◌, [], ◌∙◌, ℕ, suc, zero, Bool, true, false, cond, List, All, inl, inr, ⊎_elim, ap, sym, refl, arith, drop, get_or, length, take}
use Rattle.std.proofs.lemmas.Bool.{cases_Bool}
use Rattle.std.proofs.lemmas.List.Elements.{All-cons, All-head, All-nil, All-tail}
use Rattle.region_walk.specs.Ranges.{sifted}
use Rattle.region_walk.specs.Sides.{AreByKey, AtMost, key}
use Rattle.region_walk.specs.Users.{ListedNeed}

module _ (p : ListedNeed → Bool) where
  all_by : (P : ListedNeed → Type 0) (b : Bool) (u : ListedNeed) (us : List ListedNeed) → P u → All P us → All P (cond b (u ∷ us) us)
  all_by P true u us h a = All-cons P u us h a
  all_by P false u us h a = a

  pub sifted_all : (P : ListedNeed → Type 0) (k n : ℕ) (us : List ListedNeed) → All P us → All P (sifted p k n us)
  sifted_all P zero zero us a = a
  sifted_all P zero (suc n) [] a = All-nil P
  sifted_all P zero (suc n) (u ∷ us) a =
      all_by P (p u) u (sifted p zero n us) (All-head P u us a) (sifted_all P zero n us (All-tail P u us a))
  sifted_all P (suc k) n [] a = All-nil P
  sifted_all P (suc k) n (u ∷ us) a = All-cons P u (sifted p k n us) (All-head P u us a) (sifted_all P k n us (All-tail P u us a))

  keyed_by : (b : Bool) (u : ListedNeed) (us : List ListedNeed) → All (λ (v : ListedNeed). AtMost (key u) (key v)) us → AreByKey us →
      AreByKey (cond b (u ∷ us) us)
  keyed_by true u us a k = (a, k)
  keyed_by false u us a k = k

  pub sifted_keyed : (k n : ℕ) (us : List ListedNeed) → AreByKey us → AreByKey (sifted p k n us)
  sifted_keyed zero zero us a = a
  sifted_keyed zero (suc n) [] a = tt
  sifted_keyed zero (suc n) (u ∷ us) a =
      keyed_by (p u) u (sifted p zero n us) (sifted_all (λ (v : ListedNeed). AtMost (key u) (key v)) zero n us a.0)
      (sifted_keyed zero n us a.1)
  sifted_keyed (suc k) n [] a = tt
  sifted_keyed (suc k) n (u ∷ us) a = (
    sifted_all (λ (v : ListedNeed). AtMost (key u) (key v)) k n us a.0,
    sifted_keyed k n us a.1,
  )

  -- ---- a loop that takes one out after the other

  sifted_none : (k : ℕ) (us : List ListedNeed) → sifted p k zero us ≡ us
  sifted_none zero us = refl
  sifted_none (suc k) [] = refl
  sifted_none (suc k) (u ∷ us) = ap (λ (vs : List ListedNeed). u ∷ vs) (sifted_none k us)

  pub sifted_end : (k n : ℕ) (us : List ListedNeed) → n ≡ zero → sifted p k n us ≡ us
  sifted_end k n us e = ap (λ (m : ℕ). sifted p k m us) e ∙ sifted_none k us

  kept_at : (k n : ℕ) (us : List ListedNeed) (d : ListedNeed) → k < length us → p (get_or us k d) ≡ true →
      sifted p (suc k) n us ≡ sifted p k (suc n) us
  kept_at k n [] d l h = absurd (omega (arith, l))
  kept_at zero n (u ∷ us) d l h = sym (ap (λ (b : Bool). cond b (u ∷ sifted p zero n us) (sifted p zero n us)) h)
  kept_at (suc k) n (u ∷ us) d l h = ap (λ (vs : List ListedNeed). u ∷ vs) (kept_at k n us d (omega (arith, l)) h)

  -- one stays
  pub sifted_kept : (k j n m : ℕ) (us : List ListedNeed) (d : ListedNeed) → j ≡ suc k → m ≡ suc n → k < length us → p (get_or us k d) ≡ true →
      sifted p j n us ≡ sifted p k m us
  sifted_kept k j n m us d e f l h =
      ap (λ (i : ℕ). sifted p i n us) e ∙ kept_at k n us d l h ∙ ap (λ (i : ℕ). sifted p k i us) (sym f)

  out_at : (k n : ℕ) (us : List ListedNeed) (d : ListedNeed) → k < length us → p (get_or us k d) ≡ false →
      sifted p k n (take k us ++ drop (suc k) us) ≡ sifted p k (suc n) us
  out_at k n [] d l h = absurd (omega (arith, l))
  out_at zero n (u ∷ us) d l h = sym (ap (λ (b : Bool). cond b (u ∷ sifted p zero n us) (sifted p zero n us)) h)
  out_at (suc k) n (u ∷ us) d l h = ap (λ (vs : List ListedNeed). u ∷ vs) (out_at k n us d (omega (arith, l)) h)

  -- one is taken out
  pub sifted_out : (k n m : ℕ) (us vs : List ListedNeed) (d : ListedNeed) → m ≡ suc n → vs ≡ take k us ++ drop (k + 1) us →
      k < length us → p (get_or us k d) ≡ false → sifted p k n vs ≡ sifted p k m us
  sifted_out k n m us vs d f e l h =
      ap (sifted p k n) e
      ∙ ap (λ (j : ℕ). sifted p k n (take k us ++ drop j us)) (let g : k + 1 ≡ suc k = omega arith in g)
      ∙ out_at k n us d l h ∙ ap (λ (i : ℕ). sifted p k i us) (sym f)

  shorter : (k : ℕ) (us : List ListedNeed) → k < length us → suc (length (take k us ++ drop (suc k) us)) ≡ length us
  shorter k [] l = absurd (omega (arith, l))
  shorter zero (u ∷ us) l = refl
  shorter (suc k) (u ∷ us) l = ap (λ (n : ℕ). suc n) (shorter k us (omega (arith, l)))

  pub one_less : (k : ℕ) (us vs : List ListedNeed) → vs ≡ take k us ++ drop (k + 1) us → k < length us → suc (length vs) ≡ length us
  one_less k us vs e l =
      ap {B = ℕ} (λ (ws : List ListedNeed). suc (length ws)) e
      ∙ ap (λ (j : ℕ). suc (length (take k us ++ drop j us))) (let g : k + 1 ≡ suc k = omega arith in g) ∙ shorter k us l

  -- ---- where all others that count pass too

  -- each that counts and stands elsewhere passes
  abbrev pub PassElsewhere : (ListedNeed → Bool) → ℕ → ℕ → List ListedNeed → Type 0
  PassElsewhere q k n us =
      (i : ℕ) (d : ListedNeed) → i < length us → (i < k) ⊎ (k + n ≤ i) → q (get_or us i d) ≡ true → p (get_or us i d) ≡ true

  -- one at the head
  count_head : (q : ListedNeed → Bool) (u : ListedNeed) (us vs : List ListedNeed) → filter q vs ≡ filter p (filter q us) →
      (q u ≡ true → p u ≡ true) → filter q (u ∷ vs) ≡ filter p (filter q (u ∷ us))
  count_head q u us vs e h = ⊎_elim
      (λ t. ap (λ (b : Bool). cond b (u ∷ filter q vs) (filter q vs)) t
      ∙ ap (λ (ws : List ListedNeed). u ∷ ws) e
      ∙ sym (ap (λ (b : Bool). cond b (u ∷ filter p (filter q us)) (filter p (filter q us))) (h t))
      ∙ sym (ap (λ (b : Bool). filter p (cond b (u ∷ filter q us) (filter q us))) t))
      (λ f. ap (λ (b : Bool). cond b (u ∷ filter q vs) (filter q vs)) f ∙ e
      ∙ sym (ap (λ (b : Bool). filter p (cond b (u ∷ filter q us) (filter q us))) f))
      (cases_Bool (q u))

  -- one that is left if it passes
  count_by : (q : ListedNeed → Bool) (u : ListedNeed) (us vs : List ListedNeed) → filter q vs ≡ filter p (filter q us) →
      filter q (cond (p u) (u ∷ vs) vs) ≡ filter p (filter q (u ∷ us))
  count_by q u us vs e = ⊎_elim
      (λ t. ap (λ (b : Bool). filter q (cond b (u ∷ vs) vs)) t ∙ count_head q u us vs e (λ g. t))
      (λ f. ap (λ (b : Bool). filter q (cond b (u ∷ vs) vs)) f ∙ e ∙ sym (out (q u) f))
      (cases_Bool (p u))
    where
      out : (b : Bool) → p u ≡ false → filter p (cond b (u ∷ filter q us) (filter q us)) ≡ filter p (filter q us)
      out true f = ap (λ (c : Bool). cond c (u ∷ filter p (filter q us)) (filter p (filter q us))) f
      out false f = refl

  pub sifted_counts : (q : ListedNeed → Bool) (k n : ℕ) (us : List ListedNeed) → PassElsewhere q k n us →
      filter q (sifted p k n us) ≡ filter p (filter q us)
  sifted_counts q zero zero [] h = refl
  sifted_counts q zero zero (u ∷ us) h =
      count_head q u us us
      (sifted_counts q zero zero us (λ i d l o g. h (suc i) d (omega (arith, l)) (inr (omega arith)) g))
      (λ t. h 0 u (omega arith) (inr (omega arith)) t)
  sifted_counts q zero (suc n) [] h = refl
  sifted_counts q zero (suc n) (u ∷ us) h =
      count_by q u us (sifted p zero n us)
      (sifted_counts q zero n us (λ i d l o g. h (suc i) d (omega (arith, l)) (⊎_elim (λ a. absurd (omega (arith, a))) (λ b. inr (omega (arith, b))) o) g))
  sifted_counts q (suc k) n [] h = refl
  sifted_counts q (suc k) n (u ∷ us) h =
      count_head q u us (sifted p k n us)
      (sifted_counts q k n us
      (λ i d l o g. h (suc i) d (omega (arith, l)) (⊎_elim (λ a. inl (omega (arith, a))) (λ b. inr (omega (arith, b))) o) g))
      (λ t. h 0 u (omega arith) (inl (omega arith)) t)
