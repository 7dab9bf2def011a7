-- `bytes_mut` lends the bytes that are set, and the row follows them. Assumes `Logic`.
use mathlib.Core.Path.{◌≡◌, refl, sym, ◌∙◌}
use Prim.Native.Nat.{ℕ, ◌+◌, ◌-◌, ◌*◌, ◌<◌, ◌^◌}
use native.Mathlib.Omega.{arith}
use mathlib.Core.List.{List, [], ◌∷◌}
use lib.ListN.{length, drop as drop_l}
use seplogic.Ra.Ura.{Ura}
use base.Fraction.{full_share}
use mir.Syntax.{named}
use mir.Val.{Val}
use base.Logic.{ent, sep}
use base.Fml.{GName, Fml, ftrue, fsep, froom, feq, flft}
use contract.Running.{tables}
use types.Logic.{Logic, sem}
use types.Kit.{at_ret, ‵, ◌⊛◌, some, later, ◌$◌, ◌∵◌, !, qed, move, keep, drop, use1, split, split3, join, pick, rewrite, fsplit, fsplit3, fjoin, fpack, feq_i, suffices, frame, await, group, done}
use types.Part.{whole, sub, look_in, agg}
use types.Run.{stop, fld, load, no_more, and_then, of_opd, first, blocks, exec, returns, enter}
use types.ByLocal.{alloc_all, pass_all, free_all, look_at, get, through, sets, sets_last, env}
use types.SemTy.{cells}
use denote.Array.{Array}
use denote.Builtin.{u8}
use denote.Exit.{no}
use denote.Follow.{follows}
use denote.FollowSlice.{lends_Elements}
use denote.Index.{row, whole_in, whole_out}
use denote.Memory.{cell_at, part_at, part_of, mem}
use denote.RattleType.{owns}
use denote.RawPtr.{block_ptr}
use denote.RawPtr.Bytes.{bytes, bytes_apart, bytes_whole}
use denote.Ref.{mut_vals, mut_Tells}
use denote.Signature.{plain, types_at, mut_ref_to}
use denote.Slice.{MutSlice, slice_val}
use denote.Steps.{nothing}
use denote.Triple.Walked.{says, Stays, stay_dropped, walk_of, ends_at, Goes-spent_ref}
use Rattle.std.proofs.raw_atomic.Walks.{proved}
use Rattle.core.proofs.alloc.Shapes.{after}
use Rattle.std.proofs.lemmas.List.{take_at}
use Rattle.raw_pool.specs.Ownership.{byte_row}
use Rattle.raw_pool.specs.RawRows.{with_set}
use Rattle.raw_pool.specs.declared.raw_bytes.RawBytes.{RawBytes}
use Rattle.raw_pool.specs.contracts.raw_bytes.RawBytes.{the_row}
use Rattle.raw_pool.specs.contracts.raw_bytes.RawBytes.bytes_mut as f
use Rattle.raw_pool.proofs.RawSteps.{row_val, row_made, row_opens}
use Rattle.raw_pool.proofs.raw_bytes.RawBytes.bytes_mut.Statement.{statement}
use Rattle.raw_pool.proofs.raw_bytes.RawBytes.bytes_mut.Code as code

abbrev stayed : Stays f.ended.signature.params f.ended.kept
stayed = (stay_dropped (mut_ref_to (0 ∷ []) tt (plain (λ _. the_row))) no, tt)

module _ {M : Type 1} {𝓤 : Ura M} (𝓛 : Logic 𝓤) (rb ro b o : ℕ) (d : RawBytes) where
  -- all of the row but its bytes
  abbrev Rest : Fml
  Rest = fsep (froom (byte_row (d.room - d.len)) b (o + d.len)) (cell_at full_share the_row.mir (row_val b o d.len ∷ []) rb ro)

  back : d.ptr ≡ block_ptr b o → d.len < 2 ^ 64 → (ws : List ℕ) → length ws ≡ length d.set
      → ent 𝓤 (sep 𝓤 (sem 𝓛 (cells (mem u8) ws b o)) (sem 𝓛 Rest)) (sem 𝓛 ((mem the_row).own_at (with_set d ws) rb ro))
  unfolding part_of
  back at fits ws e =
      let long : length ws ≡ d.len = e ∙ sym d.ok.0 in
      qed 𝓛 (‵ (cells (mem u8) ws b o) ∷ ‵ Rest ∷ []) ∵ use1 𝓛 (‵ (row u8 full_share ws b o)) (whole_out 𝓛 u8 ws b o) $
      feq_i ! ℕ (length ws) d.len long $ fjoin ! $ use1 𝓛 (‵ (part_at (Array u8 d.len) full_share ws b o)) (bytes_whole 𝓛 full_share d.len ws b o) $
      move ! (1 ∷ []) $ fsplit ! $ move ! (2 ∷ 0 ∷ []) $ fjoin ! $
      rewrite ! 0 (λ (zs : List ℕ). ‵ (fsep (part_at (Array u8 d.len) full_share zs b o) (froom (byte_row (d.room - d.len)) b (o + d.len)))) (sym (take_at ws (drop_l (length ws) d.set) d.len long)) refl $
      row_made ! (with_set d ws) b o at fits $ move ! (1 ∷ 0 ∷ []) $ fjoin ! $
      fpack ! (List Val) (λ us. fsep (cell_at full_share the_row.mir us rb ro) (the_row.own_val (with_set d ws) us)) (row_val b o d.len ∷ []) $ done !

pub bytes_mut_spec : {M : Type 1} → statement M
bytes_mut_spec 𝓤 𝓛 𝓜 𝓡 wired =
    let c = f.clauses 𝓛 𝓜.mem 𝓡.returns in let W = walk_of 𝓛 f.ended stayed c in let 𝓣 = tables 𝓤 𝓛.H 𝓜 𝓡 𝓡.env in
    proved 𝓛 f.ended stayed c 𝓜 𝓡 (Goes-spent_ref 𝓛 1 (0 ∷ []) tt (plain (λ _. the_row)), tt)
    f.Key.name code.function (code.unfolded 𝓤 𝓛.H 𝓜 𝓡 wired)
    (λ κs. (mut_vals, tt)) (λ κs. (mut_Tells (named 0) κs.0 the_row, tt)) (λ κs qs bounds a g are.
    let κ = κs.0 in let q = qs.0 in let rb : ℕ = a.0.ref_ptr.0 in let ro : ℕ = a.0.ref_ptr.1 in let γ : GName = a.0.ghost_name in let d : RawBytes = a.0.now in
    let y : W.Ghost = ((κs, qs, bounds, a, (mut_vals a.0, tt)), tt) in
    let same : d.len ≡ length d.set = d.ok.0 in let le = d.ok.1 in let small = d.ok.2 in
    qed 𝓛 (((‵ (flft κ q) ⊛ ‵ ftrue) ⊛ ‵ (owns (types_at f.ended.signature.params κs) a (mut_vals a.0, tt))) ∷ ‵ ftrue ∷ []) ∵
    split ! $ split ! $ move ! (2 ∷ []) $ fsplit ! $ keep ! (0 ∷ 2 ∷ []) $
    enter ! _ _ _ _ _ $ alloc_all ! (λ l. pass_all ! refl ((tt, tt), tt) $ let En = env (code.function).locals l in
    fsplit3 ! $ move ! (1 ∷ 2 ∷ 3 ∷ []) $ row_opens ! tt d rb ro (λ b o at fits.
    let roomy : length d.set < 2 ^ 64 = omega arith in let fitting : length d.set * 1 < 2 ^ 63 = omega arith in
    -- [the memory; the two words; the open borrow; obs; auth]
    first ! $ blocks ! $ sets ! (of_opd ! (load ! (through ! refl (fld ! refl (stop !))) (look_in ! 1 (sub ! 0 refl (whole !))))) refl (tt, tt) $
    sets ! (of_opd ! (load ! (through ! refl (fld ! refl (stop !))) (look_in ! 1 (sub ! 1 refl (whole !))))) refl (tt, record { fits = fits }) $
    sets_last ! (agg ! (and_then ! (get ! refl) (and_then ! (get ! refl) (no_more !)))) refl (tt, (tt, (record { fits = fits }, tt))) $
    exec ! 𝓣.C 𝓣.Λ En (after 1 (code.function).body) (at_ret En (W.post y)) $ sets ! (of_opd ! (get ! refl)) refl (tt, (tt, (record { fits = fits }, tt))) $
    fsplit ! $ use1 𝓛 (‵ (fsep (feq ℕ (length d.set) d.len) (bytes full_share d.set b o))) (bytes_apart 𝓛 full_share d.len d.set b o) $ fsplit ! $ drop ! $
    use1 𝓛 (‵ (cells (mem u8) d.set b o)) (whole_in 𝓛 u8 d.set b o) $ move ! (1 ∷ 2 ∷ []) $ fjoin ! $ move ! (2 ∷ 3 ∷ 4 ∷ 1 ∷ 0 ∷ []) $ group ! 5 $
    use1 𝓛 (later (some (λ (γ' : GName). ‵ ((MutSlice (named 0) κ u8).own_val (record { ref_ptr = (b, o); ghost_name = γ'; now = d.set }) (slice_val (b, o) (length d.set) ∷ [])) ⊛ ‵ (flft κ q) ⊛ ‵ (follows the_row (Array u8 0) γ γ' (with_set d)))))
    (lends_Elements 𝓛 the_row u8 (with_set d) (named 0) κ q rb ro b o γ d.set (roomy, fitting) (sem 𝓛 (Rest 𝓛 rb ro b o d)) (back 𝓛 rb ro b o d at fits) (the_row.coded.code d) (the_row.coded.code d)) $ await ! tt $ pick ! (λ γ'. split3 ! $
    returns ! (look_at ! 0 refl) $ free_all ! refl $ keep ! (0 ∷ 1 ∷ 2 ∷ []) $
    rewrite ! 0 (λ (n : ℕ). ‵ ((MutSlice (named 0) κ u8).own_val (record { ref_ptr = (b, o); ghost_name = γ'; now = d.set }) (slice_val (b, o) n ∷ []))) (sym same) refl $
    suffices ! _ (ends_at 𝓛 f.ended stayed c y (slice_val (b, o) d.len) (record { ref_ptr = (b, o); ghost_name = γ'; now = d.set }) (tt, tt) (tt, tt)) $
    nothing ! $ nothing ! $ fjoin ! $ join ! $ nothing ! $ move ! (2 ∷ 0 ∷ []) $ join ! $ join ! $ frame ! $ says ! refl $ done !))))
