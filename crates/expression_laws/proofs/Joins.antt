-- The join of modes.
use Rattle.lane_kernels.proofs.SameOps.{same_op-tells}
use Rattle.std.proofs.Common.{List, [], ◌∷◌, Bool, None, Option, Some, false, true, refl, ap, sym, subst, ◌≡◌, ◌∙◌, ◌⊎◌, inl, inr, cond}
use Rattle.lane_kernels.specs.Modes.{joined, same_op}
use Rattle.lane_kernels.specs.declared.numbers.Mode.{Mode}
use Rattle.lane_kernels.specs.declared.numbers.Mode.TheVariants.{Read, Write, Reduce}
use Rattle.lane_kernels.specs.declared.numbers.Op.{Op}
use Rattle.lane_kernels.specs.declared.numbers.Op.TheVariants.{Sum, Product, Least, Greatest}
use Rattle.regent_tree.proofs.Members.{Has}
use Rattle.expression_laws.specs.Needs.{IsMet, joined_all, joined_with}

joined_same : (a : Mode) → joined a a ≡ a
joined_same Read = refl
joined_same Write = refl
joined_same (Reduce Sum) = refl
joined_same (Reduce Product) = refl
joined_same (Reduce Least) = refl
joined_same (Reduce Greatest) = refl

one_or_write : (b : Bool) (p q : Op) → same_op p q ≡ b →
    ((cond b (Reduce p) Write ≡ Reduce p) ⊎ (cond b (Reduce p) Write ≡ Write)) × ((cond b (Reduce p) Write ≡ Reduce q) ⊎ (cond b (Reduce p) Write ≡ Write))
one_or_write true p q e = (inl refl, inl (ap Reduce (same_op-tells p q e)))
one_or_write false p q e = (inr refl, inr refl)

joined_either : (a b : Mode) → ((joined a b ≡ a) ⊎ (joined a b ≡ Write)) × ((joined a b ≡ b) ⊎ (joined a b ≡ Write))
joined_either Read Read = (inl refl, inl refl)
joined_either Read Write = (inr refl, inr refl)
joined_either Read (Reduce q) = (inr refl, inr refl)
joined_either Write Read = (inr refl, inr refl)
joined_either Write Write = (inr refl, inr refl)
joined_either Write (Reduce q) = (inr refl, inr refl)
joined_either (Reduce p) Read = (inr refl, inr refl)
joined_either (Reduce p) Write = (inr refl, inr refl)
joined_either (Reduce p) (Reduce q) = one_or_write (same_op p q) p q refl

-- a mode is met by the join of modes among which it is
pub met_among : (modes : List Mode) (b : Mode) → Has modes b → IsMet (joined_all modes) b
met_among [] b h = absurd h
met_among (a ∷ modes) b (inl e) = head (joined_all modes)
  where
    head : (o : Option Mode) → IsMet (joined_with a o) b
    head None = inl e
    head (Some d) = elim (joined_either a d).0 [ inl g ↦ inl (g ∙ e) | inr g ↦ inr g ]
met_among (a ∷ modes) b (inr h) = rest (joined_all modes) (met_among modes b h)
  where
    rest : (o : Option Mode) → IsMet o b → IsMet (joined_with a o) b
    rest None g = absurd g
    rest (Some d) (inl g) = elim (joined_either a d).1 [ inl k ↦ inl (k ∙ g) | inr k ↦ inr k ]
    rest (Some d) (inr g) = elim (joined_either a d).1 [ inl k ↦ inr (k ∙ g) | inr k ↦ inr k ]

abbrev got : Option Mode → Mode
got None = Read
got (Some a) = a

-- what meets each mode meets their join
met_two : (c a b : Mode) → (c ≡ a) ⊎ (c ≡ Write) → (c ≡ b) ⊎ (c ≡ Write) → (c ≡ joined a b) ⊎ (c ≡ Write)
met_two c a b (inr e) y = inr e
met_two c a b (inl e) (inr f) = inr f
met_two c a b (inl e) (inl f) = inl (sym (joined_same c) ∙ (λ j. joined (e j) (f j)))

pub met_joined : (o : Option Mode) (modes : List Mode) (a : Mode) → ((b : Mode) → Has modes b → IsMet o b) → joined_all modes ≡ Some a → IsMet o a
met_joined o [] a all e = absurd cc
met_joined None (b ∷ modes) a all e = absurd (all b (inl refl))
met_joined (Some c) (b ∷ modes) a all e = here (joined_all modes) (λ d q. met_joined (Some c) modes d (λ x h. all x (inr h)) q) e
  where
    here : (o : Option Mode) → ((d : Mode) → o ≡ Some d → IsMet (Some c) d) → joined_with b o ≡ Some a → IsMet (Some c) a
    here None rest e = subst (IsMet (Some c)) (ap got e) (all b (inl refl))
    here (Some d) rest e = subst (IsMet (Some c)) (ap got e) (met_two c b d (all b (inl refl)) (rest d refl))
