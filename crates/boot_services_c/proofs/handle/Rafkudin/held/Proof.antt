-- `held` lends what lies in the block. What is left of the handle waits for its last value.
use Rattle.std.proofs.Common.{◌≡◌, ℕ, List, [], ◌∷◌, refl, sym, ap, ◌∙◌}
use seplogic.Ra.Ura.{Ura}
use mir.Raw.{raw as bare}
use mir.Syntax.{named}
use mir.Val.{Val, vptr}
use base.Fraction.{full_share}
use base.Fml.{Fml, GName, flft, fsep, ftrue}
use base.Logic.{ent, fst∗, id⊢, never, sep}
use contract.Running.{tables}
use denote.Exit.{no}
use denote.Follow.{Part, follows, lends_Part}
use denote.Laws.{Is, shows}
use denote.Memory.{cell_at, lone, mem, part_at, part_of}
use denote.RawPtr.{Ptr, block_ptr, in_a_block, null_ptr}
use denote.Ref.{MutBor, MutRef, mut_Tells, mut_vals}
use denote.Signature.{Slot, mut_ref_to, plain}
use denote.Steps.{nothing, opens, peeks}
use denote.Struct.Struct.{Struct}
use denote.Triple.Walked.{Goes-spent_ref, Stays, ends_at, says, stay_dropped, walk_of}
use types.ByLocal.{alloc_all, env, free_all, get, look_at, pass_all, sets, sets_last, through}
use types.Kit.{‵, raw, ◌⊛◌, at_ret, later, some, ◌$◌, ◌∵◌, !, qed, await, done, fjoin, fpack, frame, fsplit, fsplit3, group, join, keep, move, pick, rewrite, split, split3, suffices, use1}
use types.Logic.{Logic, sem}
use types.Part.{look_in, sub, whole}
use types.Run.{addr, blocks, enter, exec, first, fld, load, of_opd, returns, stop}
use Rattle.std.proofs.VecSteps.Shapes.{after}
use Rattle.std.proofs.raw_atomic.Walks.{proved}
use Rattle.std.specs.contracts.alloc.Global.{the_row as Heap}
use Rattle.std.specs.contracts.impls.GlobalAllocator.TheImpl.{ghosts}
use Rattle.boot_services_c.proofs.Moves.{is_word, word}
use Rattle.boot_services_c.proofs.Pairs.{of_two}
use Rattle.boot_services_c.specs.Blocks.{block_of}
use Rattle.boot_services_c.specs.Cores.{Core, CoreRow}
use Rattle.boot_services_c.specs.Lending.{with_core}
use Rattle.boot_services_c.specs.contracts.handle.Rafkudin.{the_row as R}
use Rattle.boot_services_c.specs.contracts.handle.Rafkudin.held as f
use Rattle.boot_services_c.specs.declared.handle.Rafkudin.{Rafkudin}
use Rattle.boot_services_c.proofs.handle.Rafkudin.held.Statement.{statement}
use Rattle.boot_services_c.proofs.handle.Rafkudin.held.Code as code

abbrev lent : Slot 1
lent = mut_ref_to (0 ∷ []) tt (plain (λ _. R))

abbrev stayed : Stays f.ended.signature.params f.ended.kept
stayed = (stay_dropped lent no, tt)

module _ (h : Rafkudin) (us : List Val) (b o rb ro : ℕ) where
  -- the right to give the core's block back
  abbrev token : Ptr → Fml
  token p = ghosts.dealloc_token h.heap (bare (lone CoreRow.mir)) p

  -- all that the handle is made of but its core: where it lies, its fields and the token
  abbrev Left : Fml
  Left = fsep (cell_at full_share R.mir us rb ro) (fsep ((Struct (of_two Heap)).own_val (h.start, (h.heap, tt)) us) (token (block_ptr b o)))

  returned : {M : Type 1} {𝓤 : Ura M} (𝓛 : Logic 𝓤) → h.start ≡ block_ptr b o → (w : Core)
      → ent 𝓤 (sep 𝓤 (sem 𝓛 ((mem CoreRow).own_at w b o)) (sem 𝓛 Left)) (sem 𝓛 ((mem R).own_at (with_core h w) rb ro))
  unfolding part_of
  returned 𝓛 lies w =
      qed 𝓛 (‵ (part_at CoreRow full_share w b o) ∷ ‵ Left ∷ []) ∵ move ! (1 ∷ []) $ fsplit3 ! $ move ! (3 ∷ 2 ∷ []) $ fjoin ! $
      rewrite ! 0 (λ (p : Ptr). ‵ (block_of CoreRow h.heap p w)) (sym lies) refl $ move ! (2 ∷ 0 ∷ []) $ fjoin ! $ move ! (1 ∷ 0 ∷ []) $ fjoin ! $
      fpack ! (List Val) (λ vs. fsep (cell_at full_share R.mir vs rb ro) (R.own_val (with_core h w) vs)) us $ done !

pub held_spec : {M : Type 1} → statement M
held_spec 𝓤 𝓛 𝓜 𝓡 wired =
    let c = f.clauses 𝓛 𝓜.mem 𝓡.returns in let 𝓣 = tables 𝓤 𝓛.H 𝓜 𝓡 𝓡.env in
    proved 𝓛 f.ended stayed c 𝓜 𝓡 (Goes-spent_ref 𝓛 1 (0 ∷ []) tt (plain (λ _. R)), tt) f.Key.name code.function (code.unfolded 𝓤 𝓛.H 𝓜 𝓡 wired)
    (λ κs. (mut_vals, tt)) (λ κs. (mut_Tells (named 0) κs.0 R, tt)) (λ κs qs bounds a _ are.
    let κ = κs.0 in let q = qs.0 in let s = a.0 in let h = s.now in let rb = s.ref_ptr.0 in let ro = s.ref_ptr.1 in let vs = mut_vals s in let F = with_core h in
    let y : (walk_of 𝓛 f.ended stayed c).Ghost = ((κs, qs, bounds, a, (vs, tt)), tt) in
    qed 𝓛 (((‵ (flft κ q) ⊛ ‵ ftrue) ⊛ ‵ ((MutRef (named 0) κ R).own_val s vs) ⊛ ‵ ftrue) ∷ ‵ ftrue ∷ []) ∵
    split ! $ split ! $ move ! (2 ∷ []) $ split ! $ keep ! (0 ∷ 2 ∷ []) $ enter ! _ _ _ _ _ $ alloc_all ! (λ l. pass_all ! refl ((tt, tt), tt) $
    fsplit3 ! $ move ! (1 ∷ 2 ∷ 3 ∷ []) $ opens ! tt R rb ro (λ us. move ! (1 ∷ []) $ peeks ! R (Is R) (shows 𝓛 R) h us (λ is. fsplit ! $ move ! (1 ∷ []) $
    in_a_block ! h.start (λ p. block_of CoreRow h.heap p h.core) (fst∗ 𝓤 (never 𝓤) (sem 𝓛 (token h us 0 0 rb ro null_ptr))) (λ b o lies. fsplit ! $
    -- [the core; the token; the fields; where the handle lies; the open borrow, in three entries]
    let us-are = is_word h.start h.heap us is.0 ∙ ap (λ (p : Ptr). word p h.heap ∷ []) lies in let E = env (code.function).locals l in
    rewrite ! 3 (λ (ws : List Val). ‵ (cell_at full_share R.mir ws rb ro)) us-are refl $
    first ! $ blocks ! $ sets ! (of_opd ! (load ! (through ! refl (fld ! refl (stop !))) (look_in ! 3 (sub ! 0 refl (whole !))))) refl (tt, tt) $
    sets ! (of_opd ! (get ! refl)) refl (tt, tt) $ sets_last ! (addr ! (through ! refl (stop !))) refl (tt, tt) $
    exec ! 𝓣.C 𝓣.Λ E (after 1 (code.function).body) (at_ret E ((walk_of 𝓛 f.ended stayed c).post y)) $ sets ! (of_opd ! (get ! refl)) refl (tt, tt) $
    rewrite ! 3 (λ (ws : List Val). ‵ (cell_at full_share R.mir ws rb ro)) (sym us-are) refl $
    move ! (2 ∷ 1 ∷ []) $ fjoin ! $ move ! (2 ∷ 0 ∷ []) $ fjoin ! $ move ! (2 ∷ 3 ∷ 4 ∷ 1 ∷ 0 ∷ []) $ group ! 5 $
    let left = sem 𝓛 (Left h us b o rb ro) in let back = returned h us b o rb ro 𝓛 lies in
    use1 𝓛 (later (some (λ (δ : GName). raw (Part 𝓛 R CoreRow F (named 0) κ q rb ro b o s.ghost_name left back h.core δ))))
    (lends_Part 𝓛 R CoreRow F (named 0) κ q rb ro b o s.ghost_name left back (R.coded.code h) (R.coded.code h) h.core) $ await ! tt $ pick ! (λ δ.
    let loan : MutBor Core = record { ref_ptr = (b, o); ghost_name = δ; now = h.core } in
    returns ! (look_at ! 0 refl) $ free_all ! refl $ keep ! (0 ∷ []) $
    use1 𝓛 (‵ ((MutRef (named 0) κ CoreRow).own_val loan (vptr b o ∷ [])) ⊛ ‵ (flft κ q) ⊛ ‵ (follows R CoreRow s.ghost_name δ F)) (id⊢ 𝓤 _) $ split3 ! $
    suffices ! _ (ends_at 𝓛 f.ended stayed c y (vptr b o) loan (tt, tt) (tt, tt)) $
    nothing ! $ move ! (2 ∷ 0 ∷ []) $ join ! $ nothing ! $ nothing ! $ join ! $ move ! (1 ∷ 0 ∷ []) $ group ! 3 $ frame ! $ says ! refl $ done !))))))
