-- A block as room for a type with the right to give it back, and what `take` answers. Assumes `Logic`.
use Rattle.std.proofs.Common.{◌≡◌, ℕ, ◌+◌, ◌*◌, ◌^◌, ◌<◌, ◌≤◌, List, [], ◌∷◌, ◌++◌, IfSome, None, Some, refl, sym, ap, subst, ◌∙◌, arith}
use seplogic.Ra.Ura.{Ura}
use mir.Syntax.{Ty, Width, w8, w16, w32, w64, w128}
use mir.Val.{Val, vcons, vnil, of_list, bytes}
use base.Logic.{ent, sep, apply∗}
use base.Fml.{Fml, fsep, fex, fwand, froom}
use prog.Memory.{size, align, capped}
use prog.Align.{Dv, align_w, align-bytes}
use prog.Capped.{capped_is, capped_small}
use types.Logic.{Logic, sem}
use types.Kit.{Item, Goal, Seq, ‵, ◌⊛◌, ◌$◌, ◌∵◌, !, qed, move, drop, use1, use2, split, frame, assume, fsplit, fjoin, rewrite, fpick, fpack, feq_l, done}
use types.Match.{live}
use denote.RattleType.{RattleType}
use denote.Shadow.{pure_l}
use denote.Steps.{only}
use Rattle.core.specs.contracts.option.Option as option
use Rattle.linked_list_allocator.specs.Ownership.{units_of}
use Rattle.linked_list_allocator.proofs.Nodes.{retypes}
use Rattle.linked_list_allocator.proofs.Values.{list_val, list_own, list_told}
use Rattle.region_heap.specs.Places.{Place, IsBlock, unit_ptr, units_for}
use Rattle.region_heap.specs.Ownership.{numbered, block_owned, block_token}
use Rattle.region_heap.specs.contracts.memory.Block as block

-- what `take` answers, and what it says of it
abbrev pub Taken : RattleType
Taken = option.the_row block.the_row

abbrev pub Known : Place → ℕ → ℕ → Taken.Denot → Type 0
Known p n a x = IfSome x (λ b. (b.place ≡ p) × (b.units ≡ units_for n) × (n < 2 ^ 63) × (a ≤ 16))

divides : (w : Width) → Dv (bytes w) 16
divides w8 = tt
divides w16 = tt
divides w32 = tt
divides w64 = tt
divides w128 = tt

module _ {M : Type 1} {𝓤 : Ura M} (𝓛 : Logic 𝓤) where
  open 𝓛 use {H}

  with_more : (P Q N : Fml) → ent 𝓤 (sep 𝓤 (sem 𝓛 (fwand P Q)) (sem 𝓛 N)) (sem 𝓛 (fwand P (fsep Q N)))
  with_more P Q N = qed 𝓛 (‵ (fwand P Q) ∷ ‵ N ∷ []) ∵ assume ! (‵ P) $ use2 𝓛 (‵ Q) (apply∗ 𝓤 (sem 𝓛 P) (sem 𝓛 Q)) $ fjoin ! $ done !

  pub hands_out : (p : Place) (τ : Ty) (at n a : ℕ) → capped (size τ) ≡ n → capped (align τ) ≡ a → IsBlock p (unit_ptr p at) at (units_for n) → n < 2 ^ 63
      → ent 𝓤 (sem 𝓛 (block_owned p at (units_for n))) (sep 𝓤 (H.room τ p.object (p.start + 16 * at)) (sem 𝓛 (block_token p τ (unit_ptr p at))))
  hands_out p τ at n a sized aligned placed small =
      let short : size τ < 2 ^ 63 = capped_small (size τ) (omega arith) in
      let same : n ≡ size τ = sym sized ∙ capped_is (size τ) (omega arith) in
      let u : ℕ = units_for (size τ) in let b = p.object in let x : ℕ = p.start + 16 * at in
      let is : IsBlock p (unit_ptr p at) at u = subst (λ (k : ℕ). IsBlock p (unit_ptr p at) at (units_for k)) same placed in
      let behind : Fml = numbered b (p.start + 16 * (at + u)) at in
      qed 𝓛 (‵ (block_owned p at (units_for n)) ∷ []) ∵ rewrite ! 0 (λ (k : ℕ). ‵ (block_owned p at (units_for k))) same refl $ fsplit ! $
      use1 𝓛 (‵ (froom τ b x) ⊛ ‵ (fwand (froom τ b x) (froom (units_of (16 * u)) b x)))
      (retypes 𝓛 b τ x (16 * u) (omega arith) (omega arith) (subst (λ (k : ℕ). Dv k 16) (sym (align-bytes τ)) (divides (align_w τ)))) $ split ! $ move ! (1 ∷ 2 ∷ []) $
      use2 𝓛 (‵ (fwand (froom τ b x) (block_owned p at u))) (with_more (froom τ b x) (froom (units_of (16 * u)) b x) behind) $ move ! (1 ∷ []) $ frame ! $
      fpack ! (IsBlock p (unit_ptr p at) at u) (λ _. fwand (froom τ b x) (block_owned p at u)) is $ fpack ! ℕ (λ j. fex (IsBlock p (unit_ptr p at) j u) (λ _. fwand (froom τ b x) (block_owned p j u))) at $ done !

module _ {M : Type 1} {𝓤 : Ura M} {𝓛 : Logic 𝓤} {K : Type 0} {Γ : List (Item 𝓤)} {G : Goal 𝓤 𝓛.H} where
  pub taken : K → (p : Place) (n a : ℕ) (x : Taken.Denot) (v : Val) → Known p n a x
      → ((at : ℕ) → IsBlock p (unit_ptr p at) at (units_for n) → n < 2 ^ 63 → v ≡ live 1 (vcons (list_val (unit_ptr p at)) vnil) → Seq K 𝓛 (‵ (block_owned p at (units_for n)) ∷ Γ) G)
      → (v ≡ live 0 vnil → Seq K 𝓛 Γ G) → Seq K 𝓛 (‵ (Taken.own_val x (v ∷ [])) ∷ Γ) G
  taken t p n a None v known some none =
      fpick t (λ us. fsplit t $ feq_l t (λ is. fpick t (λ vss. fsplit t $ feq_l t (λ is'. drop t $ none (ap only is ∙ ap (λ (ws : List Val). live 0 (of_list ws)) is')))))
  taken t p n a (Some w) v known some none =
      fpick t (λ us. fsplit t $ feq_l t (λ is. fpick t (λ vss. fsplit t $ feq_l t (λ is'. fsplit t $ move t (1 ∷ []) $ drop t $ fsplit t $ pure_l t (list_own w.ptr vss.0) (λ s.
      let placed : IsBlock p w.ptr w.at (units_for n) = subst (λ (u : Place × ℕ). IsBlock u.0 w.ptr w.at u.1) (λ i. (known.0 i, known.1 i)) w.placed in
      let lies : w.ptr ≡ unit_ptr p w.at = placed.0 in
      rewrite t 0 (λ (u : Place × ℕ). ‵ (block_owned u.0 w.at u.1)) (λ i. (known.0 i, known.1 i)) refl $
      some w.at (refl, placed.1, placed.2) known.2
      (ap only is ∙ ap (λ (xs : List Val). live 1 (of_list xs)) (is' ∙ ap (λ (xs : List Val). xs ++ []) (list_told w.ptr vss.0 s).0) ∙ (λ i. live 1 (vcons (list_val (lies i)) vnil))))))))
