-- `extend_by` takes memory from behind the bytes that are set, has `zero` set it, and puts it to them. Assumes `Logic`.
use mathlib.Core.Path.{◌≡◌, refl, sym, ap, subst}
use Prim.Native.Nat.{ℕ, ◌+◌, ◌-◌, ◌≤◌, ◌<◌, ◌^◌}
use native.Mathlib.Omega.{arith}
use mathlib.Core.List.{List, [], ◌∷◌, ◌++◌}
use lib.ListN.{length, replicate, length-replicate, length-append}
use base.Fraction.{full_share}
use mir.Syntax.{named, w64, ty_unit}
use lib.Dec.{T}
use mir.Val.{Val, vunit, vint, vptr, has_ty, WT}
use base.Logic.{emp, id⊢}
use base.Fml.{ftrue, froom, flft}
use contract.Monad.{fact, fact_i}
use contract.Running.{tables}
use types.Kit.{at_ret, ‵, raw, ◌⊛◌, some, later, ◌$◌, ◌∵◌, !, qed, move, keep, drop, use0, use1, use2, split, join, pick, fsplit, fsplit3, fjoin, fjoin3, feq_i, feq_l, flt_i, suffices, await, done}
use types.Part.{whole, sub, look_in, store_in}
use types.Run.{stop, fld, load, unit_lit, bin, no_more, and_then, of_opd, assigns, first, blocks, exec, returns, enter}
use types.ByLocal.{alloc_all, pass_all, free_all, look_at, get, through, sets, lands_last, env}
use denote.Array.{Array}
use denote.Builtin.{u8, usize, unit}
use denote.Exit.{yes}
use denote.Memory.{part_at}
use denote.Plain.{uint_vals, uint_Tells}
use denote.RattleType.{owns}
use denote.RawPtr.{Ptr, block_ptr, rawptr_vals}
use denote.Ref.{mut_vals, mut_Tells}
use denote.Signature.{plain, types_at}
use denote.Steps.{heard, nothing, only}
use denote.Triple.Call.{calls_at_last}
use denote.Triple.Clauses.{lasts}
use denote.Triple.Spec.{triple_of}
use denote.Triple.Table.{framed}
use denote.Triple.Walked.{Stays, stay_ref, stay_dropped, walk_of, ends_at, Goes-ref, Goes-dropped}
use Rattle.std.proofs.raw_atomic.Walks.{proved}
use Rattle.core.proofs.alloc.Shapes.{after}
use Rattle.core.proofs.mem.Facts.{says_two}
use Rattle.raw_pool.specs.Ownership.{byte_row}
use Rattle.raw_pool.specs.declared.raw_bytes.RawBytes.{RawBytes}
use Rattle.raw_pool.specs.contracts.raw_bytes.RawBytes.{the_row}
use Rattle.raw_pool.specs.contracts.raw_bytes.RawBytes.extend_by as f
use Rattle.raw_pool.proofs.RawSteps.{row_opens, row_closes}
use Rattle.raw_pool.proofs.PageRows.{behind_bytes, bytes_joined}
use Rattle.raw_pool.proofs.raw_bytes.RawBytes.extend_by.Statement.{statement}
use Rattle.raw_pool.proofs.raw_bytes.RawBytes.extend_by.Code as code
use Rattle.raw_pool.specs.contracts.raw_bytes.zero as z
use Rattle.raw_pool.proofs.raw_bytes.zero.Met.{met}

abbrev stayed : Stays f.ended.signature.params f.ended.kept
stayed = (stay_ref (0 ∷ []) tt (plain (λ _. the_row)), (stay_dropped (plain (λ _. usize)) yes, tt))

pub extend_by_spec : {M : Type 1} → statement M
extend_by_spec 𝓤 𝓛 𝓜 𝓡 wired =
    let c = f.clauses 𝓛 𝓜.mem 𝓡.returns in let W = walk_of 𝓛 f.ended stayed c in let 𝓣 = tables 𝓤 𝓛.H 𝓜 𝓡 𝓡.env in
    proved 𝓛 f.ended stayed c 𝓜 𝓡 (Goes-ref 𝓛 1 0 tt (plain (λ _. the_row)), (Goes-dropped 𝓛 1 (plain (λ _. usize)) yes (λ κs x w. refl), tt))
    f.Key.name code.function (code.unfolded 𝓤 𝓛.H 𝓜 𝓡 wired)
    (λ κs. (mut_vals, (uint_vals w64, tt))) (λ κs. (mut_Tells (named 0) κs.0 the_row, (uint_Tells w64, tt))) (λ κs qs bounds a g are.
    let κ = κs.0 in let q = qs.0 in let rb : ℕ = a.0.ref_ptr.0 in let ro : ℕ = a.0.ref_ptr.1 in let d : RawBytes = a.0.now in let k : ℕ = a.1.0 in
    let y : W.Ghost = ((κs, qs, bounds, a, (mut_vals a.0, (uint_vals w64 k, tt))), tt) in
    let same : d.len ≡ length d.set = d.ok.0 in let le = d.ok.1 in let small : d.room < 2 ^ 63 = d.ok.2 in
    qed 𝓛 (((‵ (flft κ q) ⊛ ‵ ftrue) ⊛ ‵ (owns (types_at f.ended.signature.params κs) a y.0.4)) ∷ raw (fact 𝓤 (length d.set + k ≤ d.room)) ∷ []) ∵
    move ! (1 ∷ []) $ heard ! (length d.set + k ≤ d.room) (λ ask. let fits : d.len + k ≤ d.room = omega arith in
    split ! $ split ! $ move ! (2 ∷ []) $ fsplit ! $ keep ! (0 ∷ 2 ∷ []) $
    enter ! _ _ _ _ _ $ alloc_all ! (λ l. pass_all ! refl ((tt, tt), ((tt, record { fits = are.1.0.1 }), tt)) $ let En = env (code.function).locals l in
    fsplit3 ! $ move ! (1 ∷ 2 ∷ 3 ∷ []) $ row_opens ! tt d rb ro (λ b o at low.
    let zeros : List ℕ = replicate k 0 in let n : ℕ = d.len in let both = length-append d.set zeros in let kk : length zeros ≡ k = length-replicate {A = ℕ} k 0 in
    let new : RawBytes = record { ptr = d.ptr; len = n + k; room = d.room; set = d.set ++ zeros; ok = (omega arith, fits, small) } in
    let sum : n + k < 2 ^ 64 = omega arith in
    -- [the memory; the two words; the open borrow; obs; auth]
    sets ! (of_opd ! (load ! (through ! refl (fld ! refl (stop !))) (look_in ! 1 (sub ! 1 refl (whole !))))) refl (tt, record { fits = low }) $
    first ! $ blocks ! $ sets ! (of_opd ! (load ! (through ! refl (fld ! refl (stop !))) (look_in ! 1 (sub ! 0 refl (whole !))))) refl (tt, tt) $
    sets ! (bin ! (get ! refl) (get ! refl) tt) refl (tt, tt) $
    fsplit ! $ move ! (1 ∷ []) $ use1 𝓛 (‵ (froom (byte_row k) b (n + o)) ⊛ ‵ (froom (byte_row (d.room - (n + k))) b (o + (n + k)))) (behind_bytes 𝓛 b o n k d.room fits) $ split ! $
    let G = triple_of 𝓛 z.signature (z.spec 𝓛 𝓜.mem 𝓡.returns) in
    let args : Ptr × (ℕ × Unit {0}) = (block_ptr b (n + o), (k, tt)) in
    let w : G.Ghost = ((tt, tt, tt, args, (rawptr_vals (block_ptr b (n + o)), (uint_vals w64 k, tt))), tt) in
    use0 𝓛 (raw (fact 𝓤 (k < 2 ^ 63))) (fact_i 𝓤 (k < 2 ^ 63) (emp 𝓤) (omega arith)) $ join ! $
    nothing ! $ flt_i ! k (2 ^ 64) are.1.0.1 $ feq_i ! (List Val) (vint w64 k ∷ []) (vint w64 k ∷ []) refl $ fjoin ! $ fjoin ! $
    feq_i ! (List Val) (vptr b (n + o) ∷ []) (vptr b (n + o) ∷ []) refl $ fjoin ! $ nothing ! $ join ! $ use2 𝓛 (raw (G.pre w)) (id⊢ 𝓤 _) $
    calls_at_last ! (framed 𝓤 𝓛.H 𝓜 𝓣) G (met 𝓤 𝓛 𝓜 𝓡 (code.calls-raw_pool::raw_bytes::zero 𝓡.env wired)) w (and_then ! (get ! refl) (and_then ! (get ! refl) (no_more !))) (λ v.
    use1 𝓛 (later (some (λ (r : Unit {0}). (‵ ftrue ⊛ ‵ (unit.own_val r (v ∷ []))) ⊛ some (λ (ws : Unit {0} × (Unit {0} × Unit {0})). ‵ (lasts z.ended tt args ws) ⊛ ‵ (part_at (Array u8 k) full_share zeros b (n + o)))))) (id⊢ 𝓤 _) $
    await ! tt $ pick ! (λ r. split ! $ split ! $ drop ! $ feq_l ! (λ is_unit. pick ! (λ ws. split ! $ drop ! $ lands_last ! refl (subst (λ (u : Val). T (has_ty ty_unit u) × WT u) (sym (ap only is_unit)) (tt, tt)) $
    exec ! 𝓣.C 𝓣.Λ En (after 2 (code.function).body) (at_ret En (W.post y)) $
    -- [the zeros; the memory behind them; the bytes before them; the two words; ..]
    move ! (2 ∷ 0 ∷ []) $ use2 𝓛 (‵ (part_at (Array u8 (n + k)) full_share new.set b o)) (bytes_joined 𝓛 b o n k d.set zeros) $ fjoin ! $
    sets ! (bin ! (get ! refl) (get ! refl) (record { fits = sum })) refl (tt, record { fits = sum }) $
    assigns ! (of_opd ! (get ! refl)) (through ! refl (fld ! refl (stop !))) (store_in ! 1 (sub ! 1 refl (whole !)) (tt, record { fits = sum })) $
    sets ! (of_opd ! (unit_lit !)) refl (tt, tt) $ row_closes ! tt new b o rb ro at sum $
    returns ! (look_at ! 0 refl) $ free_all ! refl $ keep ! (0 ∷ 1 ∷ 2 ∷ []) $
    suffices ! _ (ends_at 𝓛 f.ended stayed c y vunit tt (new, (tt, tt)) (tt, (tt, tt))) $ says_two ! (refl, (refl, refl)) $
    feq_i ! (List Val) (vptr rb ro ∷ []) (vptr rb ro ∷ []) refl $ fjoin3 ! $ nothing ! $ nothing ! $ fjoin ! $ move ! (1 ∷ 0 ∷ []) $ fjoin ! $
    nothing ! $ move ! (2 ∷ 0 ∷ []) $ join ! $ feq_i ! (List Val) (vunit ∷ []) (vunit ∷ []) refl $ keep ! (1 ∷ 2 ∷ 0 ∷ []) $ done !))))))))
