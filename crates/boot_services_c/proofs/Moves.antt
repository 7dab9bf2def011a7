-- A function that takes a struct of a pointer and the C library's heap apart, and makes another of them. Assumes `Logic`.
--     word, is_word      the machine value of each, which what it owns gives
--     moves           the function, by the names of what it makes and of what it takes
--     moved           it returns the value that it is handed
use Rattle.std.proofs.Common.{◌≡◌, [], ◌∷◌, List, refl}
use seplogic.Ra.Ura.{Ura}
use mir.Syntax.{Fn, Sym, Ty, assign, aggregate, copy, field, local, place, rv_opd, return, seq, tcons, tnil, ty_ptr, ty_struct, value_local}
use mir.Val.{Val}
use base.Fml.{Fml}
use base.Logic.{SProp, ent}
use prog.Wp.{Calls, Loops, WpFn}
use types.ByLocal.{alloc_all, pass_all, free_all, look_at, get, get_in, sets}
use types.Kit.{‵, ◌$◌, ◌∵◌, !, qed, by}
use types.Logic.{Logic, sem}
use types.Part.{agg, sub, whole}
use types.Run.{stop, fld, of_opd, no_more, and_then, returns, enter}
use denote.Param.{layout}
use denote.Laws.{Is}
use denote.RawPtr.{Ptr, ptr_val, rawptr_Tells}
use denote.Struct.Struct.{Struct, Struct-Tells}
use Rattle.std.proofs.alloc.Global.TheLaws as heap
use Rattle.std.specs.contracts.alloc.Global.{the_row as Heap}
use Rattle.std.specs.declared.alloc.Global.{Global}
use Rattle.boot_services_c.proofs.Pairs.{of_two, pair, pair_fits, ptr_fits}

abbrev pub word : Ptr → Global → Val
word p a = pair p (heap.lowered a)

-- what such a struct owns besides its block gives its machine value
pub is_word : (p : Ptr) (a : Global) (vs : List Val) → Is (Struct (of_two Heap)) (p, (a, tt)) vs → vs ≡ word p a ∷ []
is_word p a vs is = Struct-Tells (of_two Heap) ((λ q. ptr_val q ∷ []), ((λ h. heap.lowered h ∷ []), tt)) (rawptr_Tells, (heap.lowers.val_is, tt)) (p, (a, tt)) vs is

abbrev Of : Sym → Ty
Of ν = ty_struct ν (tcons ty_ptr (tcons (layout Heap) tnil))

abbrev pub moves : Sym → Sym → Fn
moves made taken = record {
  lifetimes = 0;
  outlives = [];
  ty_params = [];
  givens = 0;
  params = 1;
  locals = local (Of made) value_local ∷ local (Of taken) value_local ∷ local ty_ptr value_local ∷ local (layout Heap) value_local ∷ local ty_ptr value_local ∷ [];
  body = seq (assign (place 2 []) (rv_opd (copy (place 1 (field 0 ∷ []))))) (seq (assign (place 3 []) (rv_opd (copy (place 1 (field 1 ∷ [])))))
      (seq (assign (place 4 []) (rv_opd (copy (place 2 [])))) (seq (assign (place 0 []) (aggregate (copy (place 4 []) ∷ copy (place 3 []) ∷ []))) return)));
}

module _ {M : Type 1} {𝓤 : Ura M} (𝓛 : Logic 𝓤) (C : Calls 𝓤 𝓛.H) (Λ : Loops 𝓤 𝓛.H) (made taken : Sym) (p : Ptr) (a : Global) where
  pub moved : (F : Fml) (Post : Val → SProp 𝓤) → ent 𝓤 (sem 𝓛 F) (Post (word p a)) → ent 𝓤 (sem 𝓛 F) (WpFn 𝓤 𝓛.H C Λ (moves made taken) (word p a ∷ []) Post)
  moved F Post ends =
      let start = ptr_fits p in let fits = pair_fits (layout Heap) p (heap.lowered a) (tt, ((tt, tt), tt)) in
      qed 𝓛 (‵ F ∷ []) ∵ enter ! C Λ (moves made taken) (word p a ∷ []) Post $ alloc_all ! (λ l. pass_all ! refl (fits, tt) $
      sets ! (of_opd ! (get_in ! (fld ! refl (stop !)) (sub ! 0 refl (whole !)))) refl start $
      sets ! (of_opd ! (get_in ! (fld ! refl (stop !)) (sub ! 1 refl (whole !)))) refl (tt, ((tt, tt), tt)) $
      sets ! (of_opd ! (get ! refl)) refl start $
      sets ! (agg ! (and_then ! (get ! refl) (and_then ! (get ! refl) (no_more !)))) refl fits $
      returns ! (look_at ! 0 refl) $ free_all ! refl $ by ! ends)
