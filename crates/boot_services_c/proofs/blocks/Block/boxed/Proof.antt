-- The box owns what the block owns.
use Rattle.std.proofs.Common.{◌≡◌, List, [], ◌∷◌, ◌++◌, refl}
use mir.MapTy.{inst_fn}
use mir.Syntax.{Args, Dict, a_type, dcons, dnil}
use mir.Val.{Val}
use base.Logic.{id⊢}
use base.Fml.{ftrue}
use contract.BorrowLft.{◌⊑◌}
use contract.Monad.{fact}
use contract.Running.{tables}
use denote.Exit.{no}
use denote.Param.{param, layout, bounded}
use denote.Param.Laws.{param_laws}
use denote.Laws.{Is, shows}
use denote.RattleType.{RattleType, owns}
use denote.RawPtr.{ptr_val}
use denote.Signature.{Slot, plain, types_at}
use denote.Steps.{nothing, heard, peeks}
use denote.Triple.Call.{calls_at_last}
use denote.Triple.Clauses.{Ended, Lasts, lasts}
use denote.Triple.Entry.{alive}
use denote.Triple.Spec.{triple_of}
use denote.Triple.Table.{framed}
use denote.Triple.Walked.{Stays, stay_dropped, walk_of, says, ends_at}
use prog.Wp.{WpFn}
use types.ByLocal.{alloc_all, pass_all, free_all, look_at, get, get_in, sets, lands_last, env}
use types.Kit.{‵, raw, ◌⊛◌, some, later, prop, at_ret, ◌$◌, ◌∵◌, !, qed, await, done, drop, feq_i, fjoin, fsplit, group, join, keep, move, pick, regoal, split, split3, suffices, use1}
use types.Part.{sub, whole}
use types.Run.{stop, fld, of_opd, no_more, and_then, first, blocks, exec, returns, enter}
use Rattle.std.proofs.alloc.Calls.{Goes-blank}
use Rattle.std.proofs.VecSteps.Shapes.{after}
use Rattle.std.proofs.raw_atomic.Walks.{proved_at}
use Rattle.std.specs.declared.alloc.Allocator.{Ghosts}
use Rattle.std_alloc.proofs.boxed.Box.TheLaws as box_laws
use Rattle.std_alloc.proofs.boxed.Box.from_raw.Met.{met}
use Rattle.std_alloc.specs.contracts.boxed.Box as box
use Rattle.std_alloc.specs.contracts.boxed.Box.from_raw as g
use Rattle.boot_services_c.proofs.Pairs.{pair, pair_fits, ptr_fits, parted}
use Rattle.boot_services_c.specs.contracts.blocks.Block as block
use Rattle.boot_services_c.specs.contracts.blocks.Block.boxed as f
use Rattle.boot_services_c.proofs.blocks.Block.boxed.Statement.{statement}
use Rattle.boot_services_c.proofs.blocks.Block.boxed.Code as code

module _ (T A : RattleType) (gs : Ghosts A.Denot) (d heap_drop : Dict) where
  abbrev taken : Slot 2
  taken = plain (λ _. block.the_row (param 0 T) (param 1 A) gs)

  abbrev En : Ended
  En = f.ended T A gs d heap_drop

  abbrev stayed : Stays En.signature.params En.kept
  stayed = (stay_dropped taken no, tt)

  abbrev args : Args
  args = bounded (a_type ∷ a_type ∷ []) (T, (A, tt)) (dcons d (dcons heap_drop dnil))

pub boxed_spec : {M : Type 1} → statement M
boxed_spec 𝓤 𝓛 𝓜 𝓡 wired T A LT LA gs d dd allocator heap_drops =
    let En = En T A gs d dd in let hs = stayed T A gs d dd in let slot = taken T A gs d dd in let ρ = args T A gs d dd in let fn = inst_fn ρ code.function in
    let c = f.clauses T A gs d dd 𝓛 𝓜.mem 𝓡.returns in let G = triple_of 𝓛 (g.signature T A gs d dd) (g.spec T A gs d dd 𝓛 𝓜.mem 𝓡.returns) in
    let 𝓣 = tables 𝓤 𝓛.H 𝓜 𝓡 𝓡.env in
    let Boxes = box.the_row (param 0 T) (param 1 A) gs in let laws = box_laws.the_row_laws (param 0 T) (param 1 A) gs (param_laws 0 T LT) (param_laws 1 A LA) in
    proved_at 𝓛 En hs c 𝓜 𝓡 (Goes-blank 𝓛 2 slot no (λ κs x w. tt), tt) (f.Key.name ρ) fn (code.unfolded 𝓤 𝓛.H 𝓜 𝓡 wired (T, (A, tt)) d dd) (λ z are.
    let x = z.0.3.0 in let κs = z.0.0 in let Toks = alive 𝓛 En.signature κs z.0.1 in let Post = (walk_of 𝓛 En hs c).post z in
    qed 𝓛 ((raw Toks ⊛ ‵ (owns (types_at En.signature.params κs) z.0.3 z.0.4)) ∷ raw ((c κs z.0.3).requires z.1) ∷ []) ∵
    split ! $ move ! (1 ∷ []) $ fsplit ! $ fsplit ! $
    parted (param 1 A) (param_laws 1 A LA) ! x.start x.heap z.0.4.0 (λ h is fits.
    regoal ! (λ (us : List Val). prop (WpFn 𝓤 𝓛.H 𝓣.C 𝓣.Λ fn (us ++ []) Post)) is refl $
    -- [the handle; the block; nothing; the tokens; what is asked]
    move ! (4 ∷ []) $ use1 𝓛 (raw (fact 𝓤 (κs.0 ⊑ T.lives)) ⊛ raw (fact 𝓤 (κs.1.0 ⊑ A.lives)) ⊛ ‵ ftrue) (id⊢ 𝓤 _) $ split3 ! $
    move ! (1 ∷ 4 ∷ []) $ join ! $ move ! (1 ∷ 0 ∷ []) $ join ! $
    feq_i ! (List Val) (ptr_val x.start ∷ []) (ptr_val x.start ∷ []) refl $ move ! (0 ∷ 2 ∷ []) $ fjoin ! $ move ! (2 ∷ 0 ∷ []) $ fjoin ! $
    move ! (3 ∷ 0 ∷ []) $ join ! $ join ! $
    let y : G.Ghost = ((κs, z.0.1, tt, (x.heap, (x.start, tt)), (h ∷ [], (ptr_val x.start ∷ [], tt))), x.value) in let start = ptr_fits x.start in
    use1 𝓛 (raw (G.pre y)) (id⊢ 𝓤 _) $
    enter ! 𝓣.C 𝓣.Λ fn (pair x.start h ∷ []) Post $ alloc_all ! (λ l. pass_all ! refl (pair_fits (layout A) x.start h fits, tt) $
    let E = env fn.locals l in
    sets ! (of_opd ! (get_in ! (fld ! refl (stop !)) (sub ! 0 refl (whole !)))) refl start $
    sets ! (of_opd ! (get_in ! (fld ! refl (stop !)) (sub ! 1 refl (whole !)))) refl fits $
    first ! $ blocks ! $ sets ! (of_opd ! (get ! refl)) refl fits $
    calls_at_last ! (framed 𝓤 𝓛.H 𝓜 𝓣) G (met 𝓤 𝓛 𝓜 𝓡 (code.calls-std_alloc::boxed::Box::from_raw 𝓡.env wired) T A LT LA gs d dd allocator heap_drops) y
    (and_then ! (get ! refl) (and_then ! (get ! refl) (no_more !))) (λ u.
    use1 𝓛 (later (some (λ (r : Boxes.Denot). (raw Toks ⊛ ‵ (Boxes.own_val r (u ∷ []))) ⊛ some (λ (ls : Lasts (g.ended T A gs d dd) κs y.0.3).
    ‵ (lasts (g.ended T A gs d dd) κs y.0.3 ls) ⊛ (raw (fact 𝓤 (r.value ≡ x.value)) ⊛ raw (fact 𝓤 (r.alloc ≡ x.heap))))))) (id⊢ 𝓤 _) $
    await ! tt $ pick ! (λ r. split ! $ split ! $ move ! (2 ∷ []) $ pick ! (λ ls. split ! $ drop ! $ split ! $ heard ! (r.value ≡ x.value) (λ same. drop ! $ move ! (1 ∷ []) $
    peeks ! Boxes (Is Boxes) (shows 𝓛 Boxes) r (u ∷ []) (λ shown. let typed = ((laws.lawful 𝓛).typed r (u ∷ []) shown).0 in
    lands_last ! refl typed $ exec ! 𝓣.C 𝓣.Λ E (after 3 fn.body) (at_ret E Post) $
    sets ! (of_opd ! (get ! refl)) refl typed $ returns ! (look_at ! 0 refl) $ free_all ! refl $
    suffices ! _ (ends_at 𝓛 En hs c z u r ((tt, (tt, tt)), tt) (tt, tt)) $
    says ! same $ nothing ! $ nothing ! $ join ! $ move ! (2 ∷ []) $ keep ! (0 ∷ 1 ∷ 2 ∷ []) $ group ! 3 $ done !))))))))
