-- `RafkudinFree` hands the block on, unless the pointer is null.
use Rattle.std.proofs.Common.{ℕ, [], ◌∷◌, refl, sym, ap, subst, lit<}
use seplogic.Ra.Ura.{Ura}
use mir.Raw.{raw as bare}
use mir.Syntax.{ty_unit}
use mir.Val.{Val, vunit}
use base.Fraction.{full_share}
use base.Fml.{ftrue}
use base.Logic.{SProp, ent, guard, guard_i, id⊢, sep, snd∗, via}
use contract.Monad.{fact_use}
use contract.Running.{MachineTables, Running, tables}
use prog.Model.{Model}
use prog.Wired.{Wired}
use prog.Wp.{WpFn}
use denote.Builtin.{RawPtr, unit}
use denote.Exit.{yes}
use denote.Memory.{lone}
use denote.RawPtr.{Ptr, Testable, block_ptr, lies_at, null_ptr, ptr_val, rawptr_Tells, rawptr_vals, tests_null}
use denote.Param.{layout}
use denote.Signature.{plain}
use denote.Steps.{nothing, only}
use denote.Triple.Call.{calls_at_last}
use denote.Triple.Clauses.{Clauses, Lasts, lasts}
use denote.Triple.Spec.{triple_of}
use denote.Triple.Table.{framed}
use denote.Triple.Walked.{Goes-dropped, Stays, ends_at, stay_dropped, walk_of}
use types.ByLocal.{alloc_all, env, free_all, get, lands_last, look_at, pass_all, sets}
use types.Kit.{Sq, prop, ‵, raw, ◌⊛◌, at_ret, given, later, some, ◌$◌, ◌∵◌, !, qed, await, by, done, drop, feq_i, feq_l, fjoin, fpick, group, join, keep, learn, move, pick, split, suffices, use1}
use types.Logic.{Logic, sem}
use types.Part.{agg}
use types.Run.{and_then, bin, branches, enter, exec, first, lit, no_more, of_opd, returns, skips, un, unit_lit}
use Rattle.std.proofs.GlobalToken.{dealloc_token-Testable}
use Rattle.std.proofs.alloc.Global.TheLaws as heap
use Rattle.std.proofs.cell.Inside.{Good}
use Rattle.std.proofs.raw_atomic.Walks.{proved}
use Rattle.std.specs.contracts.alloc.Global.{the_row as Heap}
use Rattle.std.specs.contracts.impls.GlobalAllocator.TheImpl.{ghosts}
use Rattle.std.specs.declared.alloc.Global.{Global}
use Rattle.boot_services_c.proofs.Moves.{word}
use Rattle.boot_services_c.proofs.Pairs.{pair_fits, paired}
use Rattle.boot_services_c.specs.Blocks.{block_of}
use Rattle.boot_services_c.specs.Places.{freed_at}
use Rattle.boot_services_c.specs.declared.blocks.Block.{Block}
use Rattle.boot_services_c.specs.declared.handle.Rafkudin.{Rafkudin}
use Rattle.boot_services_c.specs.contracts.handle.Rafkudin.{the_row as R}
use Rattle.boot_services_c.specs.contracts.making.free as g
use Rattle.boot_services_c.proofs.making.free.Met.{met}
use Rattle.boot_services_c.specs.contracts.making.RafkudinFree as f
use Rattle.boot_services_c.proofs.making.RafkudinFree.Statement.{statement}
use Rattle.boot_services_c.proofs.making.RafkudinFree.Code as code

abbrev stayed : Stays f.ended.signature.params f.ended.kept
stayed = (stay_dropped (plain (λ _. Heap)) yes, (stay_dropped (plain (λ _. RawPtr)) yes, tt))

module _ {M : Type 1} {𝓤 : Ura M} (𝓛 : Logic 𝓤) (𝓜 : Model 𝓤 𝓛.H) (𝓡 : Running 𝓤 𝓛.H 𝓜) (wired : Wired 𝓡.env code.code) (a : Global) where
  abbrev 𝓣 : MachineTables 𝓤 𝓛.H 𝓜
  𝓣 = tables 𝓤 𝓛.H 𝓜 𝓡 𝓡.env

  abbrev h : Val
  h = heap.lowered a

  abbrev c : Clauses 𝓤 f.ended
  c = f.clauses 𝓛 𝓜.mem 𝓡.returns

  abbrev y : Ptr → (walk_of 𝓛 f.ended stayed c).Ghost
  y p = ((tt, tt, tt, (a, (p, tt)), (h ∷ [], (ptr_val p ∷ [], tt))), tt)

  abbrev Post : Ptr → Val → SProp 𝓤
  Post p = (walk_of 𝓛 f.ended stayed c).post (y p)

  ends : (p : Ptr) → Sq 𝓛 [] (prop (Post p vunit))
  ends p =
      suffices ! _ (ends_at 𝓛 f.ended stayed c (y p) vunit tt (tt, (tt, tt)) (tt, (tt, tt))) $
      feq_i ! _ (vunit ∷ []) _ refl $ nothing ! $ nothing ! $ join ! $ nothing ! $ join ! $ nothing ! $ group ! 3 $ nothing ! $ move ! (1 ∷ 0 ∷ []) $ done !

  -- a pointer that is given up with its block may be compared with null
  testable : (b o : ℕ) (r : Rafkudin) → ent 𝓤 (sem 𝓛 (block_of R a (block_ptr b o) r)) (guard 𝓤 (Testable (block_ptr b o)) (sem 𝓛 (block_of R a (block_ptr b o) r)))
  testable b o r =
      let p = block_ptr b o in let Mine = sem 𝓛 (block_of R a p r) in let Right = sem 𝓛 (ghosts.dealloc_token a (bare (lone R.mir)) p) in
      fact_use 𝓤 (Testable p) (via 𝓤 Right (snd∗ 𝓤 (sem 𝓛 (lies_at R full_share p r)) Right) (dealloc_token-Testable 𝓛 a (bare (lone R.mir)) p)) (guard_i 𝓤 (Testable p) Mine)

  walk : (p : Ptr) → ent 𝓤 (sep 𝓤 (sem 𝓛 (freed_at a p)) (sem 𝓛 (Heap.own_val a (h ∷ [])))) (WpFn 𝓤 𝓛.H 𝓣.C 𝓣.Λ code.function (h ∷ ptr_val p ∷ []) (Post p))
  walk null_ptr =
      qed 𝓛 (‵ ftrue ∷ ‵ (Heap.own_val a (h ∷ [])) ∷ []) ∵ drop ! $ drop ! $ enter ! _ _ _ _ _ $
      alloc_all ! (λ l. pass_all ! refl ((tt, ((tt, tt), tt)), ((tt, record { fits = lit< tt }), tt)) $
      sets ! (bin ! (get ! refl) (lit ! tt) tt) refl (tt, tt) $ sets ! (un ! (get ! refl) tt) refl (tt, tt) $
      first ! $ branches ! (get ! refl) (λ wrong. absurd wrong) (λ _. skips ! $
      exec ! 𝓣.C 𝓣.Λ (env code.Mir.locals l) code.Mir.t-4 (at_ret _ (Post null_ptr)) $
      sets ! (of_opd ! (unit_lit !)) refl (tt, tt) $ returns ! (look_at ! 0 refl) $ free_all ! refl $ ends null_ptr))
  walk (block_ptr b o) =
      let p = block_ptr b o in let G = triple_of 𝓛 g.signature (g.spec 𝓛 𝓜.mem 𝓡.returns) in
      qed 𝓛 (‵ (freed_at a p) ∷ ‵ (Heap.own_val a (h ∷ [])) ∷ []) ∵ fpick ! (λ r.
      use1 𝓛 (given (Testable p) (‵ (block_of R a p r))) (testable b o r) $ learn ! (λ test.
      let freed : Block Rafkudin Global = record { start = p; heap = a; value = r } in let z : G.Ghost = ((tt, tt, tt, (freed, tt), (word p a ∷ [], tt)), tt) in
      move ! (1 ∷ []) $ paired Heap heap.the_row_laws ! p a h $ fjoin ! $
      nothing ! $ move ! (1 ∷ 0 ∷ []) $ fjoin ! $ nothing ! $ join ! $ nothing ! $ move ! (1 ∷ 0 ∷ []) $ join ! $ use1 𝓛 (raw (G.pre z)) (id⊢ 𝓤 _) $
      enter ! _ _ _ _ _ $ alloc_all ! (λ l. pass_all ! refl ((tt, ((tt, tt), tt)), ((tt, tt), tt)) $
      sets ! (bin ! (get ! refl) (lit ! tt) (tests_null p test)) refl (tt, tt) $ sets ! (un ! (get ! refl) tt) refl (tt, tt) $
      first ! $ branches ! (get ! refl) (λ _.
      sets ! (agg ! (and_then ! (get ! refl) (and_then ! (get ! refl) (no_more !)))) refl (pair_fits (layout Heap) p h (tt, ((tt, tt), tt))) $
      calls_at_last ! (framed 𝓤 𝓛.H 𝓜 𝓣) G (met 𝓤 𝓛 𝓜 𝓡 (code.calls-boot_services_c::making::free 𝓡.env wired)) z (and_then ! (get ! refl) (no_more !)) (λ u.
      use1 𝓛 (later (some (λ (r : Unit {0}). (‵ ftrue ⊛ ‵ (unit.own_val r (u ∷ []))) ⊛ some (λ (ls : Lasts g.ended tt z.0.3). ‵ (lasts g.ended tt z.0.3 ls) ⊛ ‵ ftrue)))) (id⊢ 𝓤 _) $
      await ! tt $ pick ! (λ r. split ! $ split ! $ drop ! $ feq_l ! (λ is_unit. pick ! (λ ls. split ! $ drop ! $ drop ! $
      lands_last ! refl (subst (Good ty_unit) (sym (ap only is_unit)) (tt, tt)) $
      exec ! 𝓣.C 𝓣.Λ (env code.Mir.locals l) code.Mir.t-4 (at_ret _ (Post p)) $
      sets ! (of_opd ! (unit_lit !)) refl (tt, tt) $ returns ! (look_at ! 0 refl) $ free_all ! refl $ ends p))))) (λ wrong. absurd wrong))))

pub RafkudinFree_spec : {M : Type 1} → statement M
RafkudinFree_spec 𝓤 𝓛 𝓜 𝓡 wired =
    proved 𝓛 f.ended stayed (f.clauses 𝓛 𝓜.mem 𝓡.returns) 𝓜 𝓡 (Goes-dropped 𝓛 0 (plain (λ _. Heap)) yes (λ κs x w. refl), (Goes-dropped 𝓛 0 (plain (λ _. RawPtr)) yes (λ κs x w. refl), tt))
    f.Key.name code.function (code.unfolded 𝓤 𝓛.H 𝓜 𝓡 wired) (λ κs. ((λ a. heap.lowered a ∷ []), (rawptr_vals, tt))) (λ κs. (heap.lowers.val_is, (rawptr_Tells, tt))) (λ κs qs bounds args _ are.
    let a = args.0 in let p = args.1.0 in
    qed 𝓛 ((‵ ftrue ⊛ ‵ (Heap.own_val a (heap.lowered a ∷ [])) ⊛ ‵ (RawPtr.own_val p (ptr_val p ∷ [])) ⊛ ‵ ftrue) ∷ ‵ (freed_at a p) ∷ []) ∵
    split ! $ drop ! $ split ! $ move ! (2 ∷ 0 ∷ []) $ keep ! (0 ∷ 1 ∷ []) $ by ! (walk 𝓛 𝓜 𝓡 wired a p))
