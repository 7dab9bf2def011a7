-- `bytes` hands on the `&` to each byte that is set, which a `&` to the row holds. Assumes `Logic`.
use mathlib.Core.Path.{◌≡◌, refl, ap}
use Prim.Native.Nat.{ℕ, ◌+◌, ◌*◌, ◌<◌, ◌^◌}
use native.Mathlib.Omega.{arith}
use mathlib.Core.List.{List, [], ◌∷◌}
use lib.ListN.{length}
use mir.Syntax.{named}
use mir.Val.{Val}
use base.Fml.{ftrue, flft}
use contract.Running.{tables}
use types.Kit.{at_ret, ‵, ◌⊛◌, ◌$◌, ◌∵◌, !, qed, move, keep, drop, use1, split, split3, join, fsplit, fjoin, feq_i, flt_i, suffices, done}
use types.Part.{agg}
use types.Run.{look, stop, fld, load, no_more, and_then, of_opd, first, blocks, exec, returns, enter}
use types.ByLocal.{alloc_all, pass_all, free_all, look_at, get, through, sets, sets_last, env}
use denote.Builtin.{usize, RefOf}
use denote.Exit.{yes}
use denote.Memory.{hidden_shr}
use denote.Opens.{hide}
use denote.RattleType.{owns}
use denote.RawPtr.{RawPtr, in_a_block}
use denote.Ref.{shr_vals, shr_Tells}
use denote.Signature.{plain, types_at}
use denote.Slice.{slice_val}
use denote.Steps.{nothing}
use denote.Triple.Walked.{says, Stays, stay_dropped, walk_of, ends_at, Goes-dropped}
use Rattle.std.proofs.raw_atomic.Walks.{proved}
use Rattle.core.proofs.alloc.Shapes.{after}
use Rattle.core.proofs.slots.Lent.{word_in, word_out, pointer_in, pointer_out}
use Rattle.raw_pool.specs.Ownership.{row_lent}
use Rattle.raw_pool.specs.declared.raw_bytes.RawBytes.{RawBytes}
use Rattle.raw_pool.specs.contracts.raw_bytes.RawBytes.{the_row}
use Rattle.raw_pool.specs.contracts.raw_bytes.RawBytes.bytes as f
use Rattle.raw_pool.proofs.RawSteps.{seen, none_at_null}
use Rattle.raw_pool.proofs.raw_bytes.RawBytes.bytes.Statement.{statement}
use Rattle.raw_pool.proofs.raw_bytes.RawBytes.bytes.Code as code

abbrev stayed : Stays f.ended.signature.params f.ended.kept
stayed = (stay_dropped (RefOf (0 ∷ []) tt (plain (λ _. the_row)) (λ _. tt)) yes, tt)

pub bytes_spec : {M : Type 1} → statement M
bytes_spec 𝓤 𝓛 𝓜 𝓡 wired =
    let c = f.clauses 𝓛 𝓜.mem 𝓡.returns in let W = walk_of 𝓛 f.ended stayed c in let 𝓣 = tables 𝓤 𝓛.H 𝓜 𝓡 𝓡.env in
    proved 𝓛 f.ended stayed c 𝓜 𝓡 (Goes-dropped 𝓛 1 (RefOf (0 ∷ []) tt (plain (λ _. the_row)) (λ _. tt)) yes (λ κs x w. refl), tt)
    f.Key.name code.function (code.unfolded 𝓤 𝓛.H 𝓜 𝓡 wired)
    (λ κs. (shr_vals, tt)) (λ κs. (shr_Tells (named 0) κs.0 the_row, tt)) (λ κs qs bounds a g are.
    let κ = κs.0 in let q = qs.0 in let rb : ℕ = a.0.ref_ptr.0 in let ro : ℕ = a.0.ref_ptr.1 in let d : RawBytes = a.0.now in
    let y : W.Ghost = ((κs, qs, bounds, a, (shr_vals a.0, tt)), tt) in
    let same : d.len ≡ length d.set = d.ok.0 in let low : d.len < 2 ^ 63 = (let le = d.ok.1 in let small = d.ok.2 in omega arith) in
    qed 𝓛 (((‵ (flft κ q) ⊛ ‵ ftrue) ⊛ ‵ (owns (types_at f.ended.signature.params κs) a (shr_vals a.0, tt))) ∷ ‵ ftrue ∷ []) ∵
    split ! $ split ! $ move ! (2 ∷ []) $ fsplit ! $ fsplit ! $ drop ! $
    use1 𝓛 (‵ (hidden_shr RawPtr κ d.ptr rb (ro + 0)) ⊛ ‵ (hidden_shr usize κ d.len rb (ro + 8)) ⊛ ‵ (row_lent d.ptr d.len d.set κ)) (seen 𝓛 κ d rb ro) $ split3 ! $ move ! (2 ∷ []) $
    in_a_block ! d.ptr (λ p. row_lent p d.len d.set κ) (none_at_null 𝓛 κ d.len d.set) (λ b o at. fsplit ! $ drop ! $ fsplit ! $ drop ! $ hide ! $ keep ! (1 ∷ 4 ∷ 2 ∷ 0 ∷ []) $
    -- [a `&` to the pointer; the token; a `&` to the length; a `&` to each byte]
    enter ! _ _ _ _ _ $ alloc_all ! (λ l. pass_all ! refl ((tt, tt), tt) $ let En = env (code.function).locals l in
    first ! $ blocks ! $ pointer_in ! tt d.ptr b o at rb (ro + 0) (λ q₀. sets ! (of_opd ! (load ! (through ! refl (fld ! refl (stop !))) (look ! 0 refl))) refl (tt, tt) $
    pointer_out ! tt d.ptr b o at rb (ro + 0) $ move ! (1 ∷ 0 ∷ []) $
    word_in ! tt d.len rb (ro + 8) (λ q₁ fits. sets ! (of_opd ! (load ! (through ! refl (fld ! refl (stop !))) (look ! 0 refl))) refl (tt, record { fits = fits }) $
    word_out ! tt d.len rb (ro + 8) fits $
    sets_last ! (agg ! (and_then ! (get ! refl) (and_then ! (get ! refl) (no_more !)))) refl (tt, (tt, (record { fits = fits }, tt))) $
    exec ! 𝓣.C 𝓣.Λ En (after 1 (code.function).body) (at_ret En (W.post y)) $ sets ! (of_opd ! (get ! refl)) refl (tt, (tt, (record { fits = fits }, tt))) $
    returns ! (look_at ! 0 refl) $ free_all ! refl $
    suffices ! _ (ends_at 𝓛 f.ended stayed c y (slice_val (b, o) d.len) (record { ref_ptr = (b, o); now = d.set }) (tt, tt) (tt, tt)) $ says ! refl $ move ! (1 ∷ []) $
    flt_i ! (length d.set * 1) (2 ^ 63) (omega arith) $ flt_i ! (length d.set) (2 ^ 64) (omega arith) $ fjoin ! $
    feq_i ! (List Val) (slice_val (b, o) d.len ∷ []) (slice_val (b, o) (length d.set) ∷ []) (ap (λ (n : ℕ). slice_val (b, o) n ∷ []) same) $ fjoin ! $ fjoin ! $
    nothing ! $ nothing ! $ fjoin ! $ nothing ! $ move ! (3 ∷ 0 ∷ []) $ join ! $ done !)))))
