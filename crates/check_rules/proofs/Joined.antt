-- Tests that are joined in another order: what a rule is told by at a statement, in the order in
-- which the checker goes, and as the rule says it. `d` is of declared types, `f` of expressions,
-- `st` of initializers, `c` of a call that is the statement, `s` of what stands in the statement.
use Rattle.std.proofs.Common.{◌≡◌, Bool, false, ◌||◌, ap, sym, ◌∙◌}
use Rattle.check_rules.proofs.Exchange.{or_nothing, or_regrouped, or_swapped, or_turned}

-- what is in another test already
absorbed : (c m x : Bool) → (c || m) ≡ m → (m || (c || x)) ≡ (m || x)
absorbed c m x e = sym (or_regrouped m c x) ∙ ap (λ b. b || x) (or_swapped m c ∙ e)

pub join_names : (d f m st c n a b e g w : Bool) → f ≡ (a || b) → st ≡ (e || g) →
    (c || m) ≡ m → n ≡ false → w ≡ (d || (e || b)) →
    (d || (f || (m || (st || (c || (n || false)))))) ≡ (w || a || g || m)
join_names d f m st c n a b e g w ef es em en ew =
    simp (ef, es, en, ew, or_nothing, or_regrouped, or_swapped, or_turned)
    (ap (λ x. d || x) (absorbed c m (a || (b || (e || g))) em))

pub join_types : (d nt f st c s : Bool) → d ≡ false → st ≡ false → (c || s) ≡ s →
    (d || (nt || (f || (st || (c || (s || false)))))) ≡ (nt || s || f)
join_types d nt f st c s ed es ec = simp (ed, es, or_nothing, ec, or_regrouped, or_swapped)

pub join_places : (d f st c s m : Bool) → d ≡ false → st ≡ false → (c || s) ≡ s →
    (d || (f || (st || (c || (s || (m || false)))))) ≡ (s || f || m)
join_places d f st c s m ed es ec = simp (ed, es, or_nothing, or_regrouped, or_turned)
    (ap (λ x. f || x) (sym (or_regrouped c s m) ∙ ap (λ x. x || m) ec))

-- a rule that is asked of the statement alone
pub join_alone : (d f st c s m : Bool) → d ≡ false → f ≡ false → st ≡ false → c ≡ false →
    s ≡ false → (d || (f || (st || (c || (s || (m || false)))))) ≡ m
join_alone d f st c s m ed ef et ec es = simp (ed, ef, et, ec, es, or_nothing)

pub join_reads : (d f st c s r : Bool) → d ≡ false → c ≡ false → s ≡ false → r ≡ (f || st) →
    (d || (f || (st || (c || (s || false))))) ≡ r
join_reads d f st c s r ed ec es er = simp (ed, ec, es, er, or_nothing)

pub join_calls : (d f st c s k : Bool) → d ≡ false → st ≡ false → s ≡ false → k ≡ (c || f) →
    (d || (f || (st || (c || (s || false))))) ≡ k
join_calls d f st c s k ed et es ek = simp (ed, et, es, ek, or_nothing, or_swapped)

-- rules on written types, and on calls or expressions
pub join_written : (d f st c s a b w k : Bool) → f ≡ (a || b) → s ≡ false →
    w ≡ (d || (st || b)) → k ≡ (c || a) →
    (d || (f || (st || (c || (s || false))))) ≡ (w || k)
join_written d f st c s a b w k ef es ew ek =
    simp (ef, es, ew, ek, or_nothing, or_regrouped, or_swapped, or_turned)

pub join_partitions : (d f st c s a b e g h w k : Bool) → f ≡ (a || b) → st ≡ (e || g || h) →
    s ≡ false → w ≡ (d || (e || b)) → k ≡ (c || a) →
    (d || (f || (st || (c || (s || false))))) ≡ (w || k || g || h)
join_partitions d f st c s a b e g h w k ef et es ew ek =
    simp (ef, et, es, ew, ek, or_nothing, or_regrouped, or_swapped, or_turned)
