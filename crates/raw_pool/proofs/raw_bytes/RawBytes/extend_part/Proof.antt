-- `extend_part` copies an array of zeros into memory behind the bytes that are set, and puts it to them. Assumes `Logic`.
use mathlib.Core.Path.{◌≡◌, refl}
use Prim.Native.Nat.{ℕ, ◌+◌, ◌-◌, ◌≤◌, ◌<◌, ◌^◌}
use native.Mathlib.Omega.{arith}
use mathlib.Core.List.{List, [], ◌∷◌, ◌++◌}
use lib.ListN.{length, replicate, length-append}
use base.Fraction.{full_share}
use mir.Syntax.{named}
use mir.Val.{Val, vunit, vptr}
use base.Fml.{ftrue, froom, flft}
use contract.Monad.{fact}
use contract.Running.{tables}
use types.Kit.{at_ret, ‵, raw, ◌⊛◌, ◌$◌, ◌∵◌, !, qed, move, keep, use1, use2, split, join, fsplit, fsplit3, fjoin, fjoin3, feq_i, suffices, done}
use types.Part.{whole, sub, look_in, store_in}
use types.Run.{stop, fld, load, look, statics, lit, unit_lit, bin, of_opd, init, assigns, assigns_last, first, blocks, exec, returns, enter}
use types.ByLocal.{alloc_all, pass_all, free_all, look_at, get, through, sets, lands_as, env}
use denote.Array.{Array}
use denote.Builtin.{u8}
use denote.Memory.{part_at}
use denote.RattleType.{owns}
use denote.Ref.{mut_vals, mut_Tells}
use denote.Signature.{plain, types_at}
use denote.Steps.{heard, nothing}
use denote.Triple.Walked.{Stays, stay_ref, walk_of, ends_at, Goes-ref}
use Rattle.std.proofs.raw_atomic.Walks.{proved}
use Rattle.core.proofs.alloc.Shapes.{after}
use Rattle.core.proofs.mem.Facts.{says_two}
use Rattle.raw_pool.specs.Ownership.{byte_row}
use Rattle.raw_pool.specs.declared.raw_bytes.RawBytes.{RawBytes}
use Rattle.raw_pool.specs.contracts.raw_bytes.RawBytes.{the_row}
use Rattle.raw_pool.specs.contracts.raw_bytes.RawBytes.extend_part as f
use Rattle.raw_pool.proofs.RawSteps.{row_opens, row_closes}
use Rattle.raw_pool.proofs.PageRows.{behind_bytes}
use Rattle.raw_pool.proofs.Zeros.{zeros_typed, zeros_joined}
use Rattle.raw_pool.proofs.raw_bytes.RawBytes.extend_part.Statement.{statement}
use Rattle.raw_pool.proofs.raw_bytes.RawBytes.extend_part.Code as code

abbrev stayed : Stays f.ended.signature.params f.ended.kept
stayed = (stay_ref (0 ∷ []) tt (plain (λ _. the_row)), tt)

pub extend_part_spec : {M : Type 1} → statement M
extend_part_spec 𝓤 𝓛 𝓜 𝓡 wired =
    let c = f.clauses 𝓛 𝓜.mem 𝓡.returns in let W = walk_of 𝓛 f.ended stayed c in let 𝓣 = tables 𝓤 𝓛.H 𝓜 𝓡 𝓡.env in
    proved 𝓛 f.ended stayed c 𝓜 𝓡 (Goes-ref 𝓛 1 0 tt (plain (λ _. the_row)), tt)
    f.Key.name code.function (code.unfolded 𝓤 𝓛.H 𝓜 𝓡 wired)
    (λ κs. (mut_vals, tt)) (λ κs. (mut_Tells (named 0) κs.0 the_row, tt)) (λ κs qs bounds a g are.
    let κ = κs.0 in let q = qs.0 in let rb : ℕ = a.0.ref_ptr.0 in let ro : ℕ = a.0.ref_ptr.1 in let d : RawBytes = a.0.now in
    let y : W.Ghost = ((κs, qs, bounds, a, (mut_vals a.0, tt)), tt) in
    let same : d.len ≡ length d.set = d.ok.0 in let le = d.ok.1 in let small : d.room < 2 ^ 63 = d.ok.2 in
    qed 𝓛 (((‵ (flft κ q) ⊛ ‵ ftrue) ⊛ ‵ (owns (types_at f.ended.signature.params κs) a y.0.4)) ∷ raw (fact 𝓤 (length d.set + 32 ≤ d.room)) ∷ []) ∵
    move ! (1 ∷ []) $ heard ! (length d.set + 32 ≤ d.room) (λ ask. let fits : d.len + 32 ≤ d.room = omega arith in zeros_typed ! (λ typed.
    split ! $ split ! $ move ! (2 ∷ []) $ fsplit ! $ keep ! (0 ∷ 2 ∷ []) $
    enter ! _ _ _ _ _ $ alloc_all ! (λ l. pass_all ! refl ((tt, tt), tt) $ let En = env (code.function).locals l in
    statics ! (λ z. typed) (λ z lent. lands_as ! refl refl (tt, tt) $ move ! (1 ∷ 2 ∷ []) $
    fsplit3 ! $ move ! (1 ∷ 2 ∷ 3 ∷ []) $ row_opens ! tt d rb ro (λ b o at low.
    let n : ℕ = d.len in let more : List ℕ = replicate 32 0 in let both = length-append d.set more in let long : length more ≡ 32 = refl in
    let new : RawBytes = record { ptr = d.ptr; len = n + 32; room = d.room; set = d.set ++ more; ok = (omega arith, omega arith, small) } in
    let sum : n + 32 < 2 ^ 64 = omega arith in
    -- [the memory; the two words; the open borrow; obs; auth]
    sets ! (of_opd ! (load ! (through ! refl (fld ! refl (stop !))) (look_in ! 1 (sub ! 1 refl (whole !))))) refl (tt, record { fits = low }) $
    first ! $ blocks ! $ sets ! (of_opd ! (load ! (through ! refl (fld ! refl (stop !))) (look_in ! 1 (sub ! 0 refl (whole !))))) refl (tt, tt) $
    sets ! (bin ! (get ! refl) (get ! refl) tt) refl (tt, tt) $
    sets ! (of_opd ! (get ! refl)) refl (tt, tt) $ sets ! (of_opd ! (load ! (through ! refl (stop !)) (look ! 6 refl))) refl typed $
    fsplit ! $ move ! (1 ∷ []) $ use1 𝓛 (‵ (froom (byte_row 32) b (n + o)) ⊛ ‵ (froom (byte_row (d.room - (n + 32))) b (o + (n + 32)))) (behind_bytes 𝓛 b o n 32 d.room fits) $ split ! $
    assigns_last ! (of_opd ! (get ! refl)) (through ! refl (stop !)) (init ! 0 refl typed) $
    exec ! 𝓣.C 𝓣.Λ En (after 3 (code.function).body) (at_ret En (W.post y)) $
    -- [the zeros; the memory behind them; the bytes before them; the two words; ..]
    move ! (2 ∷ 0 ∷ []) $ use2 𝓛 (‵ (part_at (Array u8 (n + 32)) full_share new.set b o)) (zeros_joined 𝓛 b o n d.set) $ fjoin ! $
    sets ! (bin ! (get ! refl) (lit ! tt) (record { fits = sum })) refl (tt, record { fits = sum }) $
    assigns ! (of_opd ! (get ! refl)) (through ! refl (fld ! refl (stop !))) (store_in ! 1 (sub ! 1 refl (whole !)) (tt, record { fits = sum })) $
    sets ! (of_opd ! (unit_lit !)) refl (tt, tt) $ row_closes ! tt new b o rb ro at sum $
    returns ! (look_at ! 0 refl) $ free_all ! refl $ keep ! (0 ∷ 1 ∷ 2 ∷ []) $
    suffices ! _ (ends_at 𝓛 f.ended stayed c y vunit tt (new, tt) (tt, tt)) $ says_two ! (refl, (refl, refl)) $
    feq_i ! (List Val) (vptr rb ro ∷ []) (vptr rb ro ∷ []) refl $ fjoin3 ! $ nothing ! $ move ! (1 ∷ 0 ∷ []) $ fjoin ! $
    nothing ! $ move ! (2 ∷ 0 ∷ []) $ join ! $ feq_i ! (List Val) (vunit ∷ []) (vunit ∷ []) refl $ keep ! (1 ∷ 2 ∷ 0 ∷ []) $ done !))))))
