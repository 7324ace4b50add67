-- Ways that are there, and claims that are taken away.
use Rattle.std.proofs.Common.{◌≡◌, ◌<◌, ◌∷◌, ◌∙◌, ◌&&◌, ◌||◌, ℕ, zero, suc, Bool, List, None, [], ap, arith, cond, false, length, refl, sym, true, eqb-true}
use Rattle.std.specs.Prelude.{nat_eq}
use Rattle.std.proofs.lemmas.Bool.{ne_eqb}
use Rattle.task_code.specs.declared.job.Job.{Job}
use Rattle.board_rules.specs.Ground.{Ground}
use Rattle.board_rules.specs.NumberedBoards.{Claim, holds_claim, way_of, without}
use Rattle.regent_boards.specs.RegentMachine.{regent_ground}
use Rattle.code_boards.specs.Laws.{machine_of}
use Rattle.code_boards.specs.Views.{spaces_of}

module _ (job : Job) where
  abbrev G : Ground
  G = regent_ground (spaces_of job.code)

  pub way_there : (ws : List (List ℕ)) (k : ℕ) → k < length ws → way_of G (machine_of job) ws k ≡ None → ⊥
  way_there [] k l e = omega (arith, l)
  way_there (w ∷ ws) zero l e = cc
  way_there (w ∷ ws) (suc k) l e = way_there ws k (omega (arith, l)) e

  -- ---- claims

  kept_or : (j k : ℕ) (b : Bool) (c : Claim) (cs : List Claim) (x : ℕ) → ¬ (j ≡ k) → nat_eq c.number k ≡ b → holds_claim G (machine_of job) j x (without G (machine_of job) k cs) ≡ holds_claim G (machine_of job) j x cs →
      holds_claim G (machine_of job) j x (cond b (without G (machine_of job) k cs) (c ∷ without G (machine_of job) k cs)) ≡ holds_claim G (machine_of job) j x (c ∷ cs)
  kept_or j k true c cs x n e r = r ∙ ap (λ b. b && nat_eq c.seat x || holds_claim G (machine_of job) j x cs) (sym (ne_eqb c.number j (λ q. n (sym q ∙ eqb-true c.number k e))))
  kept_or j k false c cs x n e r = ap (λ b. nat_eq c.number j && nat_eq c.seat x || b) r

  pub claim_elsewhere : (j k : ℕ) (cs : List Claim) (x : ℕ) → ¬ (j ≡ k) → holds_claim G (machine_of job) j x (without G (machine_of job) k cs) ≡ holds_claim G (machine_of job) j x cs
  claim_elsewhere j k [] x n = refl
  claim_elsewhere j k (c ∷ cs) x n = kept_or j k (nat_eq c.number k) c cs x n refl (claim_elsewhere j k cs x n)

  gone_or : (k : ℕ) (b : Bool) (c : Claim) (cs : List Claim) (x : ℕ) → nat_eq c.number k ≡ b → holds_claim G (machine_of job) k x (without G (machine_of job) k cs) ≡ false →
      holds_claim G (machine_of job) k x (cond b (without G (machine_of job) k cs) (c ∷ without G (machine_of job) k cs)) ≡ false
  gone_or k true c cs x e r = r
  gone_or k false c cs x e r = ap (λ b. b && nat_eq c.seat x || holds_claim G (machine_of job) k x (without G (machine_of job) k cs)) e ∙ r

  pub claim_gone : (k : ℕ) (cs : List Claim) (x : ℕ) → holds_claim G (machine_of job) k x (without G (machine_of job) k cs) ≡ false
  claim_gone k [] x = refl
  claim_gone k (c ∷ cs) x = gone_or k (nat_eq c.number k) c cs x refl (claim_gone k cs x)
