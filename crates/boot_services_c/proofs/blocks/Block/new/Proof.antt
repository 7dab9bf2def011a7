-- The block owns what the box owns.
use Rattle.std.proofs.Common.{◌≡◌, List, [], ◌∷◌, ◌++◌, refl, sym, ap, subst}
use mir.MapTy.{inst_fn}
use mir.Syntax.{Args, Dict, a_type, dcons, dnil}
use mir.Val.{Val}
use base.Logic.{SProp, ent, id⊢}
use contract.Monad.{fact}
use contract.Running.{tables}
use denote.Builtin.{RawPtr}
use denote.Exit.{no}
use denote.Param.{param, layout, bounded}
use denote.Param.Laws.{Laws, param_laws}
use denote.RattleType.{RattleType}
use denote.RawPtr.{Ptr}
use denote.Signature.{Slot, plain}
use denote.Steps.{nothing, heard, only}
use denote.Struct.Tuple.{Tuple}
use denote.Triple.Call.{calls_at}
use denote.Triple.Clauses.{Ended, Lasts, lasts}
use denote.Triple.Entry.{alive}
use denote.Triple.Spec.{triple_of}
use denote.Triple.Table.{framed}
use denote.Triple.Walked.{Stays, stay_dropped, walk_of, says, ends_at}
use prog.Wp.{WpFn}
use types.ByLocal.{alloc_all, pass_all, free_all, look_at, get, get_in, sets, lands_as}
use types.Kit.{‵, raw, ◌⊛◌, some, later, ◌$◌, ◌∵◌, !, qed, await, done, drop, fjoin, group, join, move, pick, rewrite, split, suffices, use1}
use types.Part.{agg, sub, whole}
use types.Run.{stop, fld, of_opd, no_more, and_then, returns, enter}
use Rattle.std.proofs.alloc.Calls.{Goes-blank}
use Rattle.std.proofs.cell.Inside.{one}
use Rattle.std.proofs.raw_atomic.Walks.{proved_at}
use Rattle.std.specs.declared.alloc.Allocator.{Ghosts}
use Rattle.std_alloc.proofs.boxed.Box.TheLaws as box_laws
use Rattle.std_alloc.proofs.boxed.Box.into_raw_with_allocator.Met.{met}
use Rattle.std_alloc.specs.contracts.boxed.Box as box
use Rattle.std_alloc.specs.contracts.boxed.Box.into_raw_with_allocator as g
use Rattle.std.specs.Box.Ownership.{box_owns}
use Rattle.boot_services_c.proofs.Pairs.{pair, pair_fits, ptr_fits, parted, paired}
use Rattle.boot_services_c.specs.contracts.blocks.Block.new as f
use Rattle.boot_services_c.proofs.blocks.Block.new.Statement.{statement}
use Rattle.boot_services_c.proofs.blocks.Block.new.Code as code

module _ (T A : RattleType) (LT : Laws T) (LA : Laws A) (gs : Ghosts A.Denot) (d heap_drop drop_dict : Dict) where
  abbrev taken : Slot 2
  taken = plain (λ _. box.the_row (param 0 T) (param 1 A) gs)

  abbrev En : Ended
  En = f.ended T A gs d heap_drop drop_dict

  abbrev stayed : Stays En.signature.params En.kept
  stayed = (stay_dropped taken no, tt)

  abbrev args : Args
  args = bounded (a_type ∷ a_type ∷ []) (T, (A, tt)) (dcons d (dcons heap_drop (dcons drop_dict dnil)))

pub new_spec : {M : Type 1} → statement M
new_spec 𝓤 𝓛 𝓜 𝓡 wired T A LT LA gs d dd dx allocator heap_drops drops =
    let En = En T A LT LA gs d dd dx in let hs = stayed T A LT LA gs d dd dx in let slot = taken T A LT LA gs d dd dx in let ρ = args T A LT LA gs d dd dx in let fn = inst_fn ρ code.function in
    let c = f.clauses T A gs d dd dx 𝓛 𝓜.mem 𝓡.returns in let G = triple_of 𝓛 (g.signature T A gs d dd dx) (g.spec T A gs d dd dx 𝓛 𝓜.mem 𝓡.returns) in
    let 𝓣 = tables 𝓤 𝓛.H 𝓜 𝓡 𝓡.env in
    let Boxes = box.the_row (param 0 T) (param 1 A) gs in let laws = box_laws.the_row_laws (param 0 T) (param 1 A) gs (param_laws 0 T LT) (param_laws 1 A LA) in
    proved_at 𝓛 En hs c 𝓜 𝓡 (Goes-blank 𝓛 2 slot no (λ κs x w. tt), tt) (f.Key.name ρ) fn (code.unfolded 𝓤 𝓛.H 𝓜 𝓡 wired (T, (A, tt)) d dd dx) (λ z are.
    let x = z.0.3.0 in let word = one (layout Boxes) z.0.4.0 ((laws.lawful 𝓛).typed x z.0.4.0 are.0) in let w = word.0 in
    let y : List Val → G.Ghost = λ us. ((z.0.0, z.0.1, tt, z.0.3, (us, tt)), tt) in let Post : List Val → Val → SProp 𝓤 = λ us. (walk_of 𝓛 En hs c).post (y us) in
    let Toks = alive 𝓛 En.signature z.0.0 z.0.1 in let Pair = Tuple (RawPtr ∷ param 1 A ∷ []) in
    subst (λ (us : List Val). ent 𝓤 (G.pre (y us)) (WpFn 𝓤 𝓛.H 𝓣.C 𝓣.Λ fn (us ++ []) (Post us))) (sym word.1) (
    qed 𝓛 (raw (G.pre (y (w ∷ []))) ∷ []) ∵ enter ! 𝓣.C 𝓣.Λ fn (w ∷ []) _ $ alloc_all ! (λ l. pass_all ! refl (word.2, tt) $
    sets ! (of_opd ! (get ! refl)) refl word.2 $
    calls_at ! (framed 𝓤 𝓛.H 𝓜 𝓣) G (met 𝓤 𝓛 𝓜 𝓡 (code.calls-std_alloc::boxed::Box::into_raw_with_allocator 𝓡.env wired) T A LT LA gs d dd dx allocator heap_drops drops) (y (w ∷ []))
    (and_then ! (get ! refl) (no_more !)) (λ u.
    use1 𝓛 (later (some (λ (r : Ptr × A.Denot). (raw Toks ⊛ ‵ (Pair.own_val r (u ∷ []))) ⊛ some (λ (ls : Lasts (g.ended T A gs d dd dx) z.0.0 z.0.3).
    ‵ (lasts (g.ended T A gs d dd dx) z.0.0 z.0.3 ls) ⊛ (raw (fact 𝓤 (r.1 ≡ x.alloc)) ⊛ ‵ (box_owns (gs.dealloc_token x.alloc) (param 0 T) r.0 x.value)))))) (id⊢ 𝓤 _) $
    await ! tt $ pick ! (λ r. split ! $ split ! $ move ! (1 ∷ []) $
    parted (param 1 A) (param_laws 1 A LA) ! r.0 r.1 (u ∷ []) (λ h is fits. let start = ptr_fits r.0 in let both = pair_fits (layout A) r.0 h fits in
    -- [the handle; the tokens; what the callee ensures; the locals]
    move ! (2 ∷ []) $ pick ! (λ ls. split ! $ drop ! $ split ! $ heard ! (r.1 ≡ x.alloc) (λ same.
    rewrite ! 0 (λ (a : A.Denot). ‵ (box_owns (gs.dealloc_token a) (param 0 T) r.0 x.value)) (sym same) refl $
    lands_as ! (ap only is) refl both $
    sets ! (of_opd ! (get_in ! (fld ! refl (stop !)) (sub ! 0 refl (whole !)))) refl start $
    sets ! (of_opd ! (get_in ! (fld ! refl (stop !)) (sub ! 1 refl (whole !)))) refl fits $
    sets ! (of_opd ! (get ! refl)) refl fits $
    sets ! (agg ! (and_then ! (get ! refl) (and_then ! (get ! refl) (no_more !)))) refl both $
    move ! (1 ∷ []) $ paired (param 1 A) (param_laws 1 A LA) ! r.0 r.1 h $ fjoin ! $
    returns ! (look_at ! 0 refl) $ free_all ! refl $
    suffices ! _ (ends_at 𝓛 En hs c (y (w ∷ [])) (pair r.0 h) (record { start = r.0; heap = r.1; value = x.value }) ((tt, (tt, tt)), tt) (tt, tt)) $
    says ! refl $ nothing ! $ nothing ! $ join ! $ move ! (2 ∷ []) $ group ! 3 $ done !))))))))
