-- What a journal leads to: which operations the graph lists, and which are ready.
use Rattle.std.proofs.Common.{◌≡◌, ⊎_elim, ℕ, zero, suc, arith, inl, subst, true}
use Rattle.board_terms.specs.Stages.{may_be_claimed, stage_at}
use Rattle.board_terms.specs.States.{operation_at, void_state}
use Rattle.changed_trees.proofs.Contained.{none_in}
use Rattle.journal_progress.specs.Ready.{IsReady, ListsUnended, NoneWaitForFailed, ReadyAreClaimed, UnendedAreListed, WaitsForOpen}
use Rattle.journal_progress.proofs.Journals.{is_pictured, void_children, void_ready}
use Rattle.journal_progress.proofs.Readiness.{lists_unended, told}

-- ---- void jobs

void_lists : ListsUnended void_state
void_lists = record { entries = λ x c. absurd (none_in x c); listed = λ k l e. inl (omega (arith, l)); children = λ j c q. absurd (void_children j c q) }

void_unready : (k : ℕ) → IsReady void_state k (stage_at void_state k) (operation_at void_state k).wait → ⊥
void_unready zero r = r
void_unready (suc k) r = r

void_waits : (k : ℕ) → WaitsForOpen void_state k (stage_at void_state k) (operation_at void_state k).wait
void_waits zero = tt
void_waits (suc k) = tt

-- ---- the laws

pub unended_are_listed : UnendedAreListed
unended_are_listed job journal s e = ⊎_elim (λ p. lists_unended job s p.1.board p.1.shows) (λ q. subst ListsUnended q void_lists) (is_pictured job journal s e)

pub ready_are_claimed : ReadyAreClaimed
ready_are_claimed job journal s e k = ⊎_elim (λ p. (told job s p.1.board p.1.shows k).ready)
    (λ q. subst (λ z. (may_be_claimed z k ≡ true → IsReady z k (stage_at z k) (operation_at z k).wait) × (IsReady z k (stage_at z k) (operation_at z k).wait → may_be_claimed z k ≡ true)) q
    (λ r. absurd (void_ready k r), λ r. absurd (void_unready k r))) (is_pictured job journal s e)

pub none_wait_for_failed : NoneWaitForFailed
none_wait_for_failed job journal s e k = ⊎_elim (λ p. (told job s p.1.board p.1.shows k).waits)
    (λ q. subst (λ z. WaitsForOpen z k (stage_at z k) (operation_at z k).wait) q (void_waits k)) (is_pictured job journal s e)
