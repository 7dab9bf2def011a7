use Rattle.std.proofs.Common.{◌≡◌, ◌∙◌, true, false, refl, sym, arith, eq-eqb, ne_eqb, inl, inr}
use Rattle.std.proofs.lemmas.Bool.{cases_eq}
use Rattle.raw_pool.specs.Searches.{IsStore}
use Rattle.raw_pool.proofs.Regions.{fresh_of, fresh_empty, store_of, whole_empty, empty_whole, head_set}
use Rattle.raw_pool.proofs.store.Store.is_empty.Goals as goal

both : false ≡ true → ⊥
both e = cc

pub returns-then-len-eq0 : goal.returns-then-len-eq0
returns-then-len-eq0 g c =
    (λ t. fresh_empty c.args.self.now.region.bytes c.args.self.now.region.marks c.args.self.now.cells (fresh_of c.args.self.now.region.bytes c.args.self.now.region.marks c.args.self.now.cells c.args.self.now.head c.requires.0 (sym c.len.ensures.len ∙ c.if-len-eq0.true)), λ e. refl)

pub run_cells-requires-clause-set : goal.run_cells-requires-clause-set
run_cells-requires-clause-set g c =
    let s : IsStore c.args.self.now.region.bytes c.args.self.now.region.marks c.args.self.now.cells c.args.self.now.head = store_of c.args.self.now.region.bytes c.args.self.now.region.marks c.args.self.now.cells c.args.self.now.head c.requires.0 (λ e. c.if-len-eq0.false (c.len.ensures.len ∙ e)) in
    let n = head_set c.args.self.now.region.bytes c.args.self.now.region.marks c.args.self.now.cells c.args.self.now.head s (omega (arith, s.some, c.if-self-eq0.true)) in
    omega (arith, n, c.if-self-eq0.true)

pub returns-then-self-eq0 : goal.returns-then-self-eq0
returns-then-self-eq0 g c =
    let s : IsStore c.args.self.now.region.bytes c.args.self.now.region.marks c.args.self.now.cells c.args.self.now.head = store_of c.args.self.now.region.bytes c.args.self.now.region.marks c.args.self.now.cells c.args.self.now.head c.requires.0 (λ e. c.if-len-eq0.false (c.len.ensures.len ∙ e)) in
    elim (cases_eq c.run_cells.result c.args.self.now.cells) [
      | inl e ↦ rw (eq-eqb c.run_cells.result c.args.self.now.cells e) (λ t. whole_empty c.args.self.now.region.bytes c.args.self.now.region.marks c.args.self.now.cells c.args.self.now.head s c.if-self-eq0.true (sym c.run_cells.ensures ∙ e), λ x. refl)
      | inr n ↦ rw (ne_eqb c.run_cells.result c.args.self.now.cells n) (λ t. absurd (both t), λ x. absurd (n (c.run_cells.ensures ∙ (empty_whole c.args.self.now.region.bytes c.args.self.now.region.marks c.args.self.now.cells c.args.self.now.head s x).1)))
    ]

pub returns-else-self-eq0 : goal.returns-else-self-eq0
returns-else-self-eq0 g c =
    let s : IsStore c.args.self.now.region.bytes c.args.self.now.region.marks c.args.self.now.cells c.args.self.now.head = store_of c.args.self.now.region.bytes c.args.self.now.region.marks c.args.self.now.cells c.args.self.now.head c.requires.0 (λ e. c.if-len-eq0.false (c.len.ensures.len ∙ e)) in
    rw (ne_eqb c.args.self.now.head 0 c.if-self-eq0.false) (λ t. absurd (both t), λ x. absurd (c.if-self-eq0.false (empty_whole c.args.self.now.region.bytes c.args.self.now.region.marks c.args.self.now.cells c.args.self.now.head s x).0))
