-- What a lease owns is taken apart and made, and a `Result` is made of what it holds. Assumes `Logic`.
use mathlib.Core.Path.{◌≡◌, refl, ◌∙◌}
use Prim.Native.Nat.{ℕ, ◌<◌, ◌^◌}
use mathlib.Core.List.{List, [], ◌∷◌, ◌++◌}
use seplogic.Ra.Ura.{Ura}
use mir.Syntax.{w64}
use mir.Val.{Val, vint, vstruct, vcons, vnil, of_list}
use base.Logic.{ent}
use types.Logic.{Logic, sem}
use types.Kit.{Goal, Step, step, Seq, Item, ‵, ◌$◌, ◌∵◌, !, qed, move, drop, fsplit, fjoin, fpick, fpack, feq_l, feq_i, flt_l, done}
use types.Match.{live}
use denote.RattleType.{RattleType, Valss, owns}
use denote.Param.{param}
use denote.RawPtr.{Ptr}
use denote.Shadow.{pure_i}
use denote.Steps.{nothing}
use denote.Struct.Struct.{Struct}
use denote.Struct.Owning as owning
use denote.Enum.Row.{tagged_with}
use denote.Enum.Enum.{form_of, in_a_row}
use denote.Enum.Declared.{shape}
use Rattle.core.proofs.alloc.Calls.{Al, token}
use Rattle.core.specs.declared.result.Result.TheVariants.{Ok, Err}
use Rattle.core.specs.contracts.result.Result as result
use Rattle.raw_pool.specs.Ownership.{byte_row}
use Rattle.raw_pool.specs.contracts.raw_bytes.Lease as L

abbrev pub lease_val : ℕ → Val
lease_val n = vstruct (vcons (vint w64 n) (vcons (vstruct vnil) vnil))

module _ (Z : Al) where
  abbrev pub P : RattleType
  P = param 0 Z.row

  abbrev pub Lr : RattleType
  Lr = L.the_row P Z.g

  abbrev pub made : Z.row.Denot → Ptr → ℕ → Lr.Denot
  made a p n = record { size = n; by = record {}; alloc = a; ptr = p }

module _ (Z : Al) {M : Type 1} {𝓤 : Ura M} {𝓛 : Logic 𝓤} {K : Type 0} {Γ : List (Item 𝓤)} {G : Goal 𝓤 𝓛.H} where
  pub lease_had : K → (d : (Lr Z).Denot) (vs : List Val)
      → (d.size < 2 ^ 64 → vs ≡ lease_val d.size ∷ [] → Seq K 𝓛 (‵ (token Z d.alloc (byte_row d.size) d.ptr) ∷ Γ) G) → Seq K 𝓛 (‵ ((Lr Z).own_val d vs) ∷ Γ) G
  lease_had t d vs k =
      fsplit t $ fpick t (λ vss. fsplit t $ feq_l t (λ all. fsplit t $ fsplit t $ feq_l t (λ e₀. flt_l t (λ fits. fsplit t $ fpick t (λ none. fsplit t $ feq_l t (λ e₁. drop t $ drop t $
      k fits (all ∙ (λ i. vstruct (of_list (e₀ i ++ (e₁ i ++ []))) ∷ []))))))))

  pub lease_made : K → (a : Z.row.Denot) (p : Ptr) (n : ℕ) → n < 2 ^ 64 → Step K 𝓛 (‵ ((Lr Z).own_val (made Z a p n) (lease_val n ∷ [])) ∷ Γ) G (‵ (token Z a (byte_row n) p) ∷ Γ) G
  lease_made t a p n fits = step (λ s.
      pure_i t ((Struct (owning.shape (L.the_type (P Z) Z.g))).own_val (n, (tt, tt)) (lease_val n ∷ [])) (λ vss. (tt, ((tt, tt), ((λ uss. (tt, tt)), tt))))
      ((vint w64 n ∷ [], (vstruct vnil ∷ [], tt)), (refl, ((refl, fits), ((tt, (refl, tt)), tt)))) $ fjoin t $ s)

module _ {M : Type 1} {𝓤 : Ura M} (𝓛 : Logic 𝓤) (R S : RattleType) where
  pub ok_of : (x : R.Denot) (v : Val) → ent 𝓤 (sem 𝓛 (R.own_val x (v ∷ []))) (sem 𝓛 ((result.the_row R S).own_val (Ok x) (live 0 (of_list (v ∷ [])) ∷ [])))
  ok_of x v =
      let u : Val = live 0 (of_list (v ∷ [])) in let form = form_of (shape (result.the_type R S)) in
      qed 𝓛 (‵ (R.own_val x (v ∷ [])) ∷ []) ∵ nothing ! $ move ! (1 ∷ 0 ∷ []) $ fjoin ! $ feq_i ! (List Val) (v ∷ []) (v ∷ []) refl $ fjoin ! $
      fpack ! (Valss (R ∷ [])) (in_a_row (R ∷ []) (owns (R ∷ []) (x, tt)) (v ∷ [])) (v ∷ [], tt) $ feq_i ! (List Val) (u ∷ []) (u ∷ []) refl $ fjoin ! $
      fpack ! (List Val) (tagged_with form form.payload ((result.the_type R S).to (Ok x)) (u ∷ [])) (v ∷ []) $ done !

  pub err_of : (x : S.Denot) (v : Val) → ent 𝓤 (sem 𝓛 (S.own_val x (v ∷ []))) (sem 𝓛 ((result.the_row R S).own_val (Err x) (live 1 (of_list (v ∷ [])) ∷ [])))
  err_of x v =
      let u : Val = live 1 (of_list (v ∷ [])) in let form = form_of (shape (result.the_type R S)) in
      qed 𝓛 (‵ (S.own_val x (v ∷ [])) ∷ []) ∵ nothing ! $ move ! (1 ∷ 0 ∷ []) $ fjoin ! $ feq_i ! (List Val) (v ∷ []) (v ∷ []) refl $ fjoin ! $
      fpack ! (Valss (S ∷ [])) (in_a_row (S ∷ []) (owns (S ∷ []) (x, tt)) (v ∷ [])) (v ∷ [], tt) $ feq_i ! (List Val) (u ∷ []) (u ∷ []) refl $ fjoin ! $
      fpack ! (List Val) (tagged_with form form.payload ((result.the_type R S).to (Err x)) (u ∷ [])) (v ∷ []) $ done !
