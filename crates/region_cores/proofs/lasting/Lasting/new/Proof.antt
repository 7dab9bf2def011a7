-- The value stays where the box has it; the right to give its memory back is dropped. Assumes `Logic`.
use Rattle.std.proofs.Common.{List, [], ◌∷◌, ◌++◌, refl, sym, ap, subst}
use mir.MapTy.{inst_fn}
use mir.Syntax.{Args, Dict, a_type, dcons, dnil}
use mir.Val.{Val}
use base.Logic.{SProp, ent, id⊢}
use contract.Running.{tables}
use denote.Builtin.{RawPtr}
use denote.Exit.{no}
use denote.Param.{param, layout, bounded}
use denote.Param.Laws.{Laws, param_laws}
use denote.RattleType.{RattleType}
use denote.RawPtr.{Ptr}
use denote.Signature.{Slot, plain}
use denote.Steps.{nothing, only}
use denote.Triple.Call.{calls_at}
use denote.Triple.Clauses.{Ended, Lasts, lasts}
use denote.Triple.Entry.{alive}
use denote.Triple.Spec.{triple_of}
use denote.Triple.Table.{framed}
use denote.Triple.Walked.{Stays, stay_dropped, walk_of, says, ends_at}
use prog.Wp.{WpFn}
use types.ByLocal.{alloc_all, pass_all, free_all, look_at, get, sets, lands_as}
use types.Kit.{‵, raw, ◌⊛◌, some, later, ◌$◌, ◌∵◌, !, qed, await, done, drop, feq_l, fjoin, fsplit, group, join, move, pick, split, suffices, use0, use1}
use types.Part.{agg}
use types.Run.{of_opd, no_more, and_then, returns, enter}
use Rattle.std.proofs.alloc.Calls.{Goes-blank}
use Rattle.std.proofs.cell.Inside.{one}
use Rattle.std.proofs.raw_atomic.Walks.{proved_at}
use Rattle.std.specs.declared.alloc.Allocator.{Ghosts}
use Rattle.std_alloc.proofs.boxed.Box.TheLaws as box_laws
use Rattle.std_alloc.proofs.boxed.Box.into_raw.Met.{met}
use Rattle.std_alloc.specs.contracts.boxed.Box as box
use Rattle.std_alloc.specs.contracts.boxed.Box.into_raw as g
use Rattle.std.specs.Box.Ownership.{box_owns}
use Rattle.linked_list_allocator.proofs.Values.{ptr_typed, list_val, list_own, list_made, list_typed}
use Rattle.region_cores.specs.contracts.lasting.Lasting.new as f
use Rattle.region_cores.proofs.lasting.Lasting.new.Statement.{statement}
use Rattle.region_cores.proofs.lasting.Lasting.new.Code as code

module _ (T A : RattleType) (LT : Laws T) (LA : Laws A) (gs : Ghosts A.Denot) (d heap_drop drop_dict : Dict) where
  abbrev taken : Slot 2
  taken = plain (λ _. box.the_row (param 0 T) (param 1 A) gs)

  abbrev En : Ended
  En = f.ended T A gs d heap_drop drop_dict

  abbrev stayed : Stays En.signature.params En.kept
  stayed = (stay_dropped taken no, tt)

  abbrev args : Args
  args = bounded (a_type ∷ a_type ∷ []) (T, (A, tt)) (dcons d (dcons heap_drop (dcons drop_dict dnil)))

pub new_spec : {M : Type 1} → statement M
new_spec 𝓤 𝓛 𝓜 𝓡 wired T A LT LA gs d dd dx allocator heap_drops drops =
    let En = En T A LT LA gs d dd dx in let hs = stayed T A LT LA gs d dd dx in let slot = taken T A LT LA gs d dd dx in let ρ = args T A LT LA gs d dd dx in let fn = inst_fn ρ code.function in
    let c = f.clauses T A gs d dd dx 𝓛 𝓜.mem 𝓡.returns in let G = triple_of 𝓛 (g.signature T A gs d dd dx) (g.spec T A gs d dd dx 𝓛 𝓜.mem 𝓡.returns) in
    let 𝓣 = tables 𝓤 𝓛.H 𝓜 𝓡 𝓡.env in
    let Boxes = box.the_row (param 0 T) (param 1 A) gs in let laws = box_laws.the_row_laws (param 0 T) (param 1 A) gs (param_laws 0 T LT) (param_laws 1 A LA) in
    proved_at 𝓛 En hs c 𝓜 𝓡 (Goes-blank 𝓛 2 slot no (λ κs x w. tt), tt) (f.Key.name ρ) fn (code.unfolded 𝓤 𝓛.H 𝓜 𝓡 wired (T, (A, tt)) d dd dx) (λ z are.
    let x = z.0.3.0 in let word = one (layout Boxes) z.0.4.0 ((laws.lawful 𝓛).typed x z.0.4.0 are.0) in let w = word.0 in
    let y : List Val → G.Ghost = λ us. ((z.0.0, z.0.1, tt, z.0.3, (us, tt)), tt) in let Post : List Val → Val → SProp 𝓤 = λ us. (walk_of 𝓛 En hs c).post (y us) in
    let Toks = alive 𝓛 En.signature z.0.0 z.0.1 in
    subst (λ (us : List Val). ent 𝓤 (G.pre (y us)) (WpFn 𝓤 𝓛.H 𝓣.C 𝓣.Λ fn (us ++ []) (Post us))) (sym word.1) (
    qed 𝓛 (raw (G.pre (y (w ∷ []))) ∷ []) ∵ enter ! 𝓣.C 𝓣.Λ fn (w ∷ []) _ $ alloc_all ! (λ l. pass_all ! refl (word.2, tt) $
    sets ! (of_opd ! (get ! refl)) refl word.2 $
    calls_at ! (framed 𝓤 𝓛.H 𝓜 𝓣) G (met 𝓤 𝓛 𝓜 𝓡 (code.calls-std_alloc::boxed::Box::into_raw 𝓡.env wired) T A LT LA gs d dx dd allocator drops heap_drops) (y (w ∷ []))
    (and_then ! (get ! refl) (no_more !)) (λ u.
    use1 𝓛 (later (some (λ (r : Ptr). (raw Toks ⊛ ‵ (RawPtr.own_val r (u ∷ []))) ⊛ some (λ (ls : Lasts (g.ended T A gs d dd dx) z.0.0 z.0.3).
    ‵ (lasts (g.ended T A gs d dd dx) z.0.0 z.0.3 ls) ⊛ ‵ (box_owns (gs.dealloc_token x.alloc) (param 0 T) r x.value))))) (id⊢ 𝓤 _) $
    await ! tt $ pick ! (λ r. split ! $ split ! $ move ! (1 ∷ []) $ feq_l ! (λ is.
    -- [the tokens; what the callee ensures; the locals]
    move ! (1 ∷ []) $ pick ! (λ ls. split ! $ drop ! $ fsplit ! $ move ! (1 ∷ []) $ drop ! $
    lands_as ! (ap only is) refl (ptr_typed r) $
    sets ! (agg ! (and_then ! (get ! refl) (no_more !))) refl (list_typed r tt) $
    use0 𝓛 (‵ (list_own r (list_val r ∷ []))) (list_made 𝓛 r tt) $ fjoin ! $
    returns ! (look_at ! 0 refl) $ free_all ! refl $
    suffices ! _ (ends_at 𝓛 En hs c (y (w ∷ [])) (list_val r) (record { start = r; value = x.value }) ((tt, (tt, tt)), tt) (tt, tt)) $
    says ! refl $ nothing ! $ nothing ! $ join ! $ move ! (2 ∷ []) $ group ! 3 $ done !)))))))
