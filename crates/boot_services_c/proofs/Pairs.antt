-- A struct of a pointer and a handle of a heap, by value. Assumes `Logic`.
--     pair, pair_fits      its machine value, which is of its type
--     parted, paired       what it owns is that value and what the handle owns;  and back
use Rattle.std.proofs.Common.{◌≡◌, List, [], ◌∷◌, ◌++◌, refl, ◌∙◌, ap, lit<, subst}
use seplogic.Ra.Ura.{Ura}
use mir.Syntax.{Ty, ty_ptr, ty_struct, tcons, tnil}
use mir.Val.{Val, vstruct, vcons, vnil, of_list}
use denote.Builtin.{RawPtr}
use denote.Laws.{Is, Typed, shows}
use denote.Param.{layout}
use denote.Param.Laws.{Laws}
use denote.RattleType.{RattleType, Valss}
use denote.RawPtr.{Ptr, block_ptr, null_ptr, ptr_val}
use denote.Steps.{nothing, peeks}
use denote.Struct.Struct.{Shape, Struct, within, as_fields}
use Rattle.std.proofs.cell.Inside.{Good, one}
use types.Kit.{Goal, Item, Seq, Step, step, ‵, ◌$◌, drop, feq_i, feq_l, fjoin, fpack, fpick, fsplit, move, rewrite}
use types.Logic.{Logic}

abbrev pub pair : Ptr → Val → Val
pair p h = vstruct (vcons (ptr_val p) (vcons h vnil))

pub ptr_fits : (p : Ptr) → Good ty_ptr (ptr_val p)
ptr_fits (block_ptr b o) = (tt, tt)
ptr_fits null_ptr = (tt, record { fits = lit< tt })

pub pair_fits : (τ : Ty) (p : Ptr) (h : Val) → Good τ h → Good (ty_struct [] (tcons ty_ptr (tcons τ tnil))) (pair p h)
pair_fits τ p h fits = as_fields (ty_ptr ∷ τ ∷ []) (ptr_val p ∷ h ∷ []) (ptr_fits p, (fits, tt))

-- the struct, whose name plays no part in what it owns
abbrev pub of_two : RattleType → Shape
of_two Z = record { name = []; args = []; types = []; fields = RawPtr ∷ Z ∷ [] }

module _ (Z : RattleType) (L : Laws Z) where
  module _ {M : Type 1} {𝓤 : Ura M} {𝓛 : Logic 𝓤} {K : Type 0} {Γ : List (Item 𝓤)} {G : Goal 𝓤 𝓛.H} where
    pub parted : K → (p : Ptr) (a : Z.Denot) (vs : List Val)
        → ((h : Val) → vs ≡ pair p h ∷ [] → Good (layout Z) h → Seq K 𝓛 (‵ (Z.own_val a (h ∷ [])) ∷ Γ) G)
        → Seq K 𝓛 (‵ ((Struct (of_two Z)).own_val (p, (a, tt)) vs) ∷ Γ) G
    parted t p a vs go =
        fpick t (λ parts. fsplit t $ feq_l t (λ whole. fsplit t $ feq_l t (λ start. fsplit t $ move t (1 ∷ []) $ drop t $
        peeks t Z (Is Z) (shows 𝓛 Z) a parts.1.0 (λ is.
        let found = one (layout Z) parts.1.0 (subst (λ (τs : List Ty). Typed τs parts.1.0) L.one ((L.lawful 𝓛).typed a parts.1.0 is)) in
        rewrite t 0 (λ (us : List Val). ‵ (Z.own_val a us)) found.1 refl $
        go found.0 (whole ∙ ap (λ (us : List Val). vstruct (of_list us) ∷ []) (λ i. start i ++ (found.1 i ++ []))) found.2))))

    pub paired : K → (p : Ptr) (a : Z.Denot) (h : Val)
        → Step K 𝓛 (‵ ((Struct (of_two Z)).own_val (p, (a, tt)) (pair p h ∷ [])) ∷ Γ) G (‵ (Z.own_val a (h ∷ [])) ∷ Γ) G
    paired t p a h = step (λ s.
        nothing t $ move t (1 ∷ 0 ∷ []) $ fjoin t $ feq_i t (List Val) (ptr_val p ∷ []) _ refl $ fjoin t $ feq_i t (List Val) (pair p h ∷ []) _ refl $ fjoin t $
        fpack t (Valss (RawPtr ∷ Z ∷ [])) (within (of_two Z) (p, (a, tt)) (pair p h ∷ [])) (ptr_val p ∷ [], (h ∷ [], tt)) $ s)
