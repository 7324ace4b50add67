-- Pieces that are added one behind another.
use Rattle.std.proofs.Common.{Err, Ok, OnOk, Result, ◌≡◌, ◌∙◌, ◌++◌, ◌∷◌, ℕ, List, [], ap, append-nil, append_assoc, sym}
use Rattle.trace_picture.specs.Drawings.{joined}

-- all pieces behind a text
after : (t : List ℕ) (ps : List (List ℕ)) → List ℕ
after t [] = t
after t (p ∷ ps) = after (t ++ p) ps

after_joined : (t : List ℕ) (ps : List (List ℕ)) → after t ps ≡ t ++ joined ps
unfolding after
after_joined t [] = sym (append-nil t)
after_joined t (p ∷ ps) = after_joined (t ++ p) ps ∙ append_assoc t p (joined ps)

module _ {T E : Type 0} (r : Result T E) (t0 t1 t2 t3 a b d : List ℕ) where
  pub three : t1 ≡ t0 ++ a → t2 ≡ t1 ++ b → OnOk r (t3 ≡ t2 ++ d) → OnOk r (t3 ≡ t0 ++ joined (a ∷ b ∷ d ∷ []))
  unfolding after
  three one two last = by r last
    where
      by : (r : Result T E) → OnOk r (t3 ≡ t2 ++ d) → OnOk r (t3 ≡ t0 ++ joined (a ∷ b ∷ d ∷ []))
      by (Ok x) h = h ∙ ap (λ t. t ++ d) (two ∙ ap (λ t. t ++ b) one) ∙ after_joined t0 (a ∷ b ∷ d ∷ [])
      by (Err x) h = tt

  pub four : (t4 e : List ℕ) → t1 ≡ t0 ++ a → t2 ≡ t1 ++ b → t3 ≡ t2 ++ d → OnOk r (t4 ≡ t3 ++ e) →
      OnOk r (t4 ≡ t0 ++ joined (a ∷ b ∷ d ∷ e ∷ []))
  unfolding after
  four t4 e one two more last = by r last
    where
      by : (r : Result T E) → OnOk r (t4 ≡ t3 ++ e) → OnOk r (t4 ≡ t0 ++ joined (a ∷ b ∷ d ∷ e ∷ []))
      by (Ok x) h = h ∙ ap (λ t. t ++ e) (more ∙ ap (λ t. t ++ d) (two ∙ ap (λ t. t ++ b) one)) ∙ after_joined t0 (a ∷ b ∷ d ∷ e ∷ [])
      by (Err x) h = tt
