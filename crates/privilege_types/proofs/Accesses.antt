-- Accesses that are told to be the same are the same.
use Rattle.std.proofs.Common.{◌≡◌, true, refl, ap}
use Rattle.lane_kernels.proofs.SameOps.{same_op-itself, same_op-tells}
use Rattle.regent_tree.specs.Rights.{same_access}
use Rattle.regent_tree.specs.declared.rights.Access.{Access}
use Rattle.regent_tree.specs.declared.rights.Access.TheVariants.{Read, Write, Reduce}

pub same_access-refl : (a : Access) → same_access a a ≡ true
same_access-refl Read = refl
same_access-refl Write = refl
same_access-refl (Reduce p) = same_op-itself p

pub same-accesses : (a b : Access) → same_access a b ≡ true → a ≡ b
same-accesses Read Read e = refl
same-accesses Write Write e = refl
same-accesses (Reduce p) (Reduce q) e = ap Reduce (same_op-tells p q e)
same-accesses _ _ e = cc
