-- Roots keep their numbers while the run of an instance goes on.
use Rattle.std.proofs.Common.{◌≡◌, ℕ, ◌<◌, List, ◌++◌, sym, ap, ◌∙◌, arith}
use Rattle.std.specs.Prelude.{get_or, length, map}
use Rattle.std.proofs.lemmas.List.{append_assoc, get_or_default, length-append, length-map, map-append}
use Rattle.std.proofs.Math.ListN.{get_or-append}
use Rattle.region_tree.specs.declared.tree.RootId.{RootId}
use Rattle.regent_tree.specs.Running.{Here, State}
use Rattle.regent_tree.specs.Values.{Region, a_region}
use Rattle.machine_terms.specs.Makes.{region_with}
use Rattle.machine_terms.specs.declared.order.Instance.{Instance}
use Rattle.machine_terms.specs.declared.order.Root.{Root}
use Rattle.machine_terms.specs.declared.value.Value.TheVariants as machine
use Rattle.memory_laws.specs.Places.{number_at, numbers}
use Rattle.code_laws.specs.Standing.{Agrees, Aside, machine_value}
use Rattle.code_laws.specs.Steps.{HasMore, Setting}

module _ (x : Setting) (params slots : ℕ) {deep : ℕ} (aside aside2 : Aside deep) (h h2 : Here) (s t : State) (i j : Instance) (g : Agrees x params slots aside h s i)
    (k : Agrees x params slots aside2 h2 t j) (more : HasMore i.frame.own j.frame.own) where
  -- those that are there come first among what is there later
  numbers_are : numbers j.contents ≡ numbers i.contents ++ map (λ (id : RootId). id.0) more.more
  numbers_are =
      let ids : List RootId → List ℕ = map (λ (id : RootId). id.0) in
      k.framed.own_are ∙ ap (λ own. x.before ++ ids own) more.are
      ∙ ap (λ ns. x.before ++ ns) (map-append (λ (id : RootId). id.0) i.frame.own more.more)
      ∙ sym (append_assoc x.before (ids i.frame.own) (ids more.more))
      ∙ ap (λ ns. ns ++ ids more.more) (sym g.framed.own_are)

  pub numbers_stay : (r : ℕ) → r < length s.store → number_at j.contents r ≡ number_at i.contents r
  numbers_stay r low =
      let there : r < length (numbers i.contents) = omega (arith, low, g.memory.stands.count, length-map i.contents.roots (λ (r : Root). r.id.0)) in
      ap (λ ns. get_or ns r j.contents.made) numbers_are
      ∙ get_or-append (numbers i.contents) (map (λ (id : RootId). id.0) more.more) j.contents.made r there
      ∙ get_or_default (numbers i.contents) r j.contents.made i.contents.made there

  -- and are there still
  pub roots_stay : (r : ℕ) → r < length s.store → r < length t.store
  roots_stay r low = omega (
    arith,
    low,
    g.memory.stands.count,
    k.memory.stands.count,
    length-map i.contents.roots (λ (r : Root). r.id.0),
    length-map j.contents.roots (λ (r : Root). r.id.0),
    ap length numbers_are,
    length-append (numbers i.contents) (map (λ (id : RootId). id.0) more.more),
  )

  -- so a region is the same for the machine
  pub region_same : (q : Region) → q.root < length s.store → machine_value j.contents (a_region q) ≡ machine_value i.contents (a_region q)
  region_same q low = ap (λ n. machine.Region (region_with n q.points)) (numbers_stay q.root low)
