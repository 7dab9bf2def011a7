-- `reserve` asks the allocator for a block of bytes and makes two rows of it and a lease of the right to free it. Assumes `Logic`.
use mathlib.Core.Path.{◌≡◌, refl, ap, ◌∙◌}
use Prim.Native.Nat.{ℕ, ◌+◌, ◌-◌, ◌*◌, ◌<◌, ◌^◌}
use native.Mathlib.Omega.{arith}
use mathlib.Core.Bool.{true, false}
use mathlib.Core.List.{List, [], ◌∷◌, ◌++◌}
use lib.Dec.{lit<}
use seplogic.Ra.Ura.{Ura}
use base.Fraction.{full_share}
use mir.MapTy.{inst_fn}
use mir.Syntax.{Fn, Args, a_type, dcons, dnil, w8, w64, ty_int}
use mir.Val.{Val, WT, vint, vptr, vstruct, vcons, vnil}
use base.Logic.{SProp, ent, sep, emp, id⊢}
use base.Fml.{Lft, Share, ftrue, froom, flft}
use contract.BorrowLft.{◌⊑◌, ⊑_trans}
use contract.Monad.{fact, fact_i}
use contract.Running.{tables}
use prog.Capped.{capped_is}
use prog.Memory.{size, capped}
use prog.Wp.{Env, Wp, WpFn, after_seq, at_return}
use types.Logic.{Logic, sem}
use types.Kit.{any_q, ‵, raw, ◌⊛◌, later, prop, at_ret, ◌$◌, ◌∵◌, !, qed, by, move, drop, use0, use1, use2, split, join, rewrite, regoal, fsplit, fjoin, fpack, feq_i, await, done}
use types.Part.{whole, agg}
use types.Match.{live, vrt, in_variant}
use types.Run.{stop, fld, lit, bin, of_opd, no_more, and_then, first, blocks, switches_on, exec, returns, enter}
use types.ByLocal.{alloc_all, pass_all, free_all, look_at, get, get_in, get_tag, sets, sets_last, lands_as, env}
use denote.Array.{Array}
use denote.Builtin.{u8, usize, RefOf}
use denote.Exit.{yes}
use denote.Memory.{part_at}
use denote.Param.{bounded}
use denote.RattleType.{RattleType, Valss, owns}
use denote.RawPtr.{Ptr, block_ptr}
use denote.RawPtr.Bytes.{bytes_whole}
use denote.RawPtr.Room.{past, past_bytes, room_cut}
use denote.Signature.{plain, types_at, type_at}
use denote.Laws.{Is}
use denote.Steps.{nothing, heard, owned}
use denote.Struct.Declared as Declared
use denote.Struct.Struct.{Struct, Struct-Makes, within}
use denote.Struct.Tuple.{Tuple, tuple_type}
use denote.Triple.Call.{calls_at}
use denote.Triple.Entry.{alive}
use denote.Triple.Walked.{Stays, stay_dropped, walk_of, Goes-dropped}
use Rattle.std.proofs.raw_atomic.Walks.{proved_at, leaves}
use Rattle.core.proofs.alloc.Calls.{Al, Answer-typed, seen, Takes, at_takes, Answered, Takes-goes, Takes-gives, answers}
use Rattle.core.proofs.atomic.Steps.{fm}
use Rattle.core.proofs.slots.Bodies.{after, head, arm_body}
use Rattle.core.specs.declared.result.Result.TheVariants.{Ok, Err}
use Rattle.core.specs.contracts.alloc.AllocError as AE
use Rattle.raw_pool.specs.Ownership.{AreBlock, byte_row}
use Rattle.raw_pool.specs.declared.raw_bytes.RawBytes.{RawBytes}
use Rattle.raw_pool.specs.contracts.raw_bytes.RawBytes as row
use Rattle.raw_pool.specs.contracts.raw_bytes.Lease.reserve.{ended, clauses}
use Rattle.raw_pool.specs.contracts.raw_bytes.Lease.reserve.Key.{name as #self}
use Rattle.raw_pool.proofs.RawSteps.{row_val, memory, row_made}
use Rattle.raw_pool.proofs.Leases.{lease_val, P, Lr, made, lease_made, ok_of, err_of}
use Rattle.raw_pool.proofs.raw_bytes.Lease.reserve.Statement.{statement}
use Rattle.raw_pool.proofs.raw_bytes.Lease.reserve.Code as code

-- a row of n bytes of which none is set
abbrev bare : Ptr → (n : ℕ) → n < 2 ^ 63 → RawBytes
bare p n low = record { ptr = p; len = 0; room = n; set = []; ok = (refl, omega arith, low) }

module _ {M : Type 1} {𝓤 : Ura M} (𝓛 : Logic 𝓤) (b o : ℕ) where
  open 𝓛 use {H}

  halves : (m k : ℕ) → ent 𝓤 (H.room (byte_row (m + k)) b o) (sep 𝓤 (H.room (byte_row m) b o) (H.room (byte_row k) b (m + o)))
  halves m k =
      let here : past (ty_int w8) m o ≡ m + o = past_bytes m o ∙ (let e : o + m ≡ m + o = omega arith in e) in
      qed 𝓛 (‵ (froom (byte_row (m + k)) b o) ∷ []) ∵
      use1 𝓛 (‵ (froom (byte_row m) b o) ⊛ ‵ (froom (byte_row k) b (past (ty_int w8) m o))) (room_cut 𝓛 (ty_int w8) m k b o) $ split ! $
      rewrite ! 1 (λ (j : ℕ). ‵ (froom (byte_row k) b j)) here refl $ done !

  none_set : (n : ℕ) (low : n < 2 ^ 63) → ent 𝓤 (H.room (byte_row n) b o) (sem 𝓛 (memory (bare (block_ptr b o) n low) b o))
  none_set n low =
      let all : n ≡ n - 0 = omega arith in let here : o ≡ o + 0 = omega arith in
      qed 𝓛 (‵ (froom (byte_row n) b o) ∷ []) ∵ rewrite ! 0 (λ (j : ℕ). ‵ (froom (byte_row j) b o)) all refl $ rewrite ! 0 (λ (j : ℕ). ‵ (froom (byte_row (n - 0)) b j)) here refl $
      nothing ! $ feq_i ! ℕ 0 0 refl $ fjoin ! $ use1 𝓛 (‵ (part_at (Array u8 0) full_share [] b o)) (bytes_whole 𝓛 full_share 0 [] b o) $ fjoin ! $ done !

pub reserve_spec : {M : Type 1} → statement M
reserve_spec 𝓤 𝓛 𝓜 𝓡 wired A L g d dd met md =
    let H = 𝓛.H in let T = ended A g d dd in let c = clauses A g d dd 𝓛 𝓜.mem 𝓡.returns in
    let Y : Al = record { row = A; laws = L; g = g; d = d; drops = dd } in
    let args : Args = bounded (a_type ∷ []) (A, tt) (dcons d (dcons dd dnil)) in let fn : Fn = inst_fn args code.function in
    let self = RefOf (0 ∷ []) tt (plain (λ _. P Y)) (λ _. tt) in let number = plain (λ _. usize) in
    let stays : Stays T.signature.params T.kept = (stay_dropped self yes, (stay_dropped number yes, (stay_dropped number yes, tt))) in
    let C = (tables 𝓤 H 𝓜 𝓡 𝓡.env).C in let Λ = (tables 𝓤 H 𝓜 𝓡 𝓡.env).Λ in
    proved_at 𝓛 T stays c 𝓜 𝓡 (Goes-dropped 𝓛 2 self yes (λ κs x f. refl), (Goes-dropped 𝓛 2 number yes (λ κs x f. refl), (Goes-dropped 𝓛 2 number yes (λ κs x f. refl), tt)))
    (#self args) fn (code.unfolded 𝓤 H 𝓜 𝓡 wired (A, tt) d dd) (λ z are.
    let Post : Val → SProp 𝓤 = (walk_of 𝓛 T stays c).post z in
    let a = z.0.3 in let vss = z.0.4 in let κ : Lft = z.0.0.0 in let κ₁ : Lft = z.0.0.1.0 in let q : Share = z.0.1.0 in let q₁ : Share = z.0.1.1.0 in
    let h = a.0.now in let at = a.0.ref_ptr in let m : ℕ = a.1.0 in let k : ℕ = a.1.1.0 in let n : ℕ = m + k in let τ = byte_row n in
    let y = at_takes Y 𝓛 𝓜.mem 𝓡.returns κ q at h n 1 τ in
    let Three : RattleType = Tuple (row.the_row ∷ row.the_row ∷ Lr Y ∷ []) in
    let Out : RattleType = type_at T.signature.result z.0.0 in
    qed 𝓛 ((raw (alive 𝓛 T.signature z.0.0 z.0.1) ⊛ ‵ (owns (types_at T.signature.params z.0.0) a vss)) ∷ (raw (fact 𝓤 (κ₁ ⊑ A.lives)) ⊛ raw (fact 𝓤 (m + k < 2 ^ 63))) ∷ []) ∵
    move ! (1 ∷ []) $ split ! $ heard ! (κ₁ ⊑ A.lives) (λ inA. heard ! (m + k < 2 ^ 63) (λ low. split ! $ move ! (1 ∷ []) $
    fsplit ! $ fsplit ! $ drop ! $ move ! (1 ∷ []) $ drop ! $ use1 𝓛 (‵ (seen Y κ at h)) (id⊢ 𝓤 _) $ move ! (1 ∷ []) $ use1 𝓛 (‵ (flft κ q) ⊛ ‵ (flft κ₁ q₁) ⊛ ‵ ftrue) (id⊢ 𝓤 _) $ split ! $ move ! (2 ∷ 0 ∷ []) $
    regoal ! (λ (us : List Val). prop (WpFn 𝓤 H C Λ fn us Post)) (λ i. are.0.0 i ++ (are.1.0.0 i ++ (are.1.1.0.0 i ++ []))) refl $
    enter ! C Λ fn (vptr at.0 at.1 ∷ vint w64 m ∷ vint w64 k ∷ []) Post $
    alloc_all ! (λ l. pass_all ! refl ((tt, tt), ((tt, record { fits = are.1.0.1 }), ((tt, record { fits = are.1.1.0.1 }), tt))) $ let En : Env 𝓤 H = env fn.locals l in
    let Then = any_q (after_seq 𝓤 H (Wp 𝓤 H C Λ En (after 3 fn.body) (at_return 𝓤 H En Post)) (at_return 𝓤 H En Post)) in
    let fits : n < 2 ^ 64 = omega arith in let size_is : capped (size τ) ≡ n = capped_is (n * 1) (omega arith) ∙ omega arith in
    let low₁ : m < 2 ^ 63 = omega arith in let low₂ : k < 2 ^ 63 = omega arith in
    sets ! (bin ! (get ! refl) (get ! refl) (record { fits = fits })) refl (tt, record { fits = fits }) $
    use2 𝓛 (raw ((Takes Y 𝓛 𝓜.mem 𝓡.returns).pre y)) (Takes-goes Y 𝓛 𝓜.mem 𝓡.returns κ q at h (⊑_trans κ κ₁ A.lives z.0.2.0 inA) n 1 τ size_is refl fits (lit< tt)) $
    calls_at ! (fm 𝓛 𝓜 𝓡) (Takes Y 𝓛 𝓜.mem 𝓡.returns) (met.allocate dd) y (and_then ! (get ! refl) (and_then ! (get ! refl) (and_then ! (lit ! tt) (no_more !)))) (λ v.
    use1 𝓛 (later (raw (Answered Y 𝓛 𝓜.mem 𝓡.returns h τ v) ⊛ ‵ (flft κ q))) (Takes-gives Y 𝓛 𝓜.mem 𝓡.returns κ q at h n 1 τ v) $ await ! tt $ split ! $
    answers Y ! 𝓜.mem 𝓡.returns h τ v
    (λ b o e.
    let p : Ptr = block_ptr b o in let p' : Ptr = block_ptr b (m + o) in let behind : p' ≡ block_ptr b (o + m) = ap (λ (j : ℕ). block_ptr b j) (let e' : m + o ≡ o + m = omega arith in e') in
    let r₁ : RawBytes = bare p m low₁ in let r₂ : RawBytes = bare p' k low₂ in let r₃ : (Lr Y).Denot = made Y h p n in
    let u₁ : Val = row_val b o 0 in let u₂ : Val = row_val b (m + o) 0 in let u₃ : Val = lease_val n in let u : Val = vstruct (vcons u₁ (vcons u₂ (vcons u₃ vnil))) in
    let w₁ : WT u₁ = (tt, (record { fits = lit< tt }, tt)) in let w₂ : WT u₂ = (tt, (record { fits = lit< tt }, tt)) in let w₃ : WT u₃ = (record { fits = fits }, (tt, tt)) in
    let w : WT u = (w₁, (w₂, (w₃, tt))) in
    move ! (2 ∷ 3 ∷ []) $ join ! $ move ! (1 ∷ 2 ∷ []) $ lands_as ! e refl (Answer-typed true b o) $
    -- [the block; the right to free it; the tokens]
    first ! $ switches_on ! (get_tag ! (vrt ! refl (fld ! refl (stop !))) (whole !)) $ exec ! C Λ En (arm_body 0 (head (after 2 fn.body))) Then $
    sets ! (of_opd ! (get_in ! (vrt ! refl (fld ! refl (stop !))) (in_variant ! 0 0 refl refl (whole !)))) refl (tt, tt) $
    first ! $ blocks ! $ sets_last ! (bin ! (get ! refl) (get ! refl) tt) refl (tt, tt) $
    exec ! C Λ En (after 2 (arm_body 0 (head (after 2 fn.body)))) Then $ sets ! (of_opd ! (get ! refl)) refl (tt, tt) $
    sets ! (agg ! (no_more !)) refl (tt, tt) $
    sets ! (agg ! (and_then ! (get ! refl) (and_then ! (lit ! tt) (no_more !)))) refl (tt, w₁) $ sets ! (agg ! (and_then ! (get ! refl) (and_then ! (lit ! tt) (no_more !)))) refl (tt, w₂) $
    sets ! (agg ! (and_then ! (get ! refl) (and_then ! (get ! refl) (no_more !)))) refl (tt, w₃) $
    sets ! (agg ! (and_then ! (get ! refl) (and_then ! (get ! refl) (and_then ! (get ! refl) (no_more !))))) refl (tt, w) $
    sets_last ! (agg ! (and_then ! (lit ! tt) (and_then ! (get ! refl) (no_more !)))) refl (tt, (record { fits = lit< tt }, (w, tt))) $
    exec ! C Λ En (after 3 fn.body) (at_ret En Post) $ sets ! (of_opd ! (get ! refl)) refl (tt, (record { fits = lit< tt }, (w, tt))) $
    returns ! (look_at ! 0 refl) $ free_all ! refl $
    use1 𝓛 (‵ (froom (byte_row m) b o) ⊛ ‵ (froom (byte_row k) b (m + o))) (halves 𝓛 b o m k) $ split ! $
    use1 𝓛 (‵ (memory r₁ b o)) (none_set 𝓛 b o m low₁) $ row_made ! r₁ b o refl (lit< tt) $ move ! (1 ∷ []) $
    use1 𝓛 (‵ (memory r₂ b (m + o))) (none_set 𝓛 b (m + o) k low₂) $ row_made ! r₂ b (m + o) refl (lit< tt) $ move ! (2 ∷ []) $ lease_made Y ! h p n fits $
    -- [the lease; the second row; the first; the tokens]
    nothing ! $ move ! (1 ∷ 0 ∷ []) $ fjoin ! $ move ! (1 ∷ 0 ∷ []) $ fjoin ! $ move ! (1 ∷ 0 ∷ []) $ fjoin ! $ feq_i ! (List Val) (u ∷ []) (u ∷ []) refl $ fjoin ! $
    fpack ! (Valss (row.the_row ∷ row.the_row ∷ Lr Y ∷ [])) (within (Declared.shape (tuple_type (row.the_row ∷ row.the_row ∷ Lr Y ∷ []))) (r₁, (r₂, (r₃, tt))) (u ∷ [])) (u₁ ∷ [], (u₂ ∷ [], (u₃ ∷ [], tt))) $
    use1 𝓛 (‵ (Out.own_val (Ok (r₁, r₂, r₃)) (live 0 (vcons u vnil) ∷ []))) (ok_of 𝓛 Three AE.the_row (r₁, r₂, r₃) u) $
    let Rows : Type 0 = (r₁.set ≡ []) × (r₁.room ≡ m) × (r₂.set ≡ []) × (r₂.room ≡ k) in let Block : Type 0 = AreBlock p m p' k p n × (h ≡ h) in
    use0 𝓛 (raw (fact 𝓤 Block)) (fact_i 𝓤 Block (emp 𝓤) (record { start = refl; behind = behind; whole = refl }, refl)) $ use0 𝓛 (raw (fact 𝓤 Rows)) (fact_i 𝓤 Rows (emp 𝓤) (refl, refl, refl, refl)) $ join ! $
    nothing ! $ nothing ! $ fjoin ! $ nothing ! $ fjoin ! $ nothing ! $ fjoin ! $ move ! (3 ∷ 0 ∷ 2 ∷ 1 ∷ []) $
    by ! (leaves 𝓛 T stays c z (live 0 (vcons u vnil)) (Ok (r₁, r₂, r₃)) (tt, (tt, (tt, tt))) (tt, (tt, (tt, tt)))))
    (λ e.
    let none : WT (live 1 (vcons (vstruct vnil) vnil)) = (record { fits = lit< tt }, (tt, tt)) in
    join ! $ lands_as ! e refl (Answer-typed false 0 0) $
    first ! $ switches_on ! (get_tag ! (vrt ! refl (fld ! refl (stop !))) (whole !)) $ exec ! C Λ En (arm_body 1 (head (after 2 fn.body))) Then $
    sets ! (of_opd ! (get_in ! (vrt ! refl (fld ! refl (stop !))) (in_variant ! 1 0 refl refl (whole !)))) refl (tt, tt) $
    sets_last ! (agg ! (and_then ! (lit ! tt) (and_then ! (get ! refl) (no_more !)))) refl (tt, none) $
    exec ! C Λ En (after 3 fn.body) (at_ret En Post) $ sets ! (of_opd ! (get ! refl)) refl (tt, none) $ returns ! (look_at ! 0 refl) $ free_all ! refl $
    owned ! (Struct (Declared.shape AE.the_type)) (Is (Struct (Declared.shape AE.the_type))) (Struct-Makes 𝓛 (Declared.shape AE.the_type) tt) tt (vstruct vnil ∷ []) (tt, (refl, tt)) $
    use1 𝓛 (‵ (Out.own_val (Err (record {})) (live 1 (vcons (vstruct vnil) vnil) ∷ []))) (err_of 𝓛 Three AE.the_row (record {}) (vstruct vnil)) $
    use0 𝓛 (raw (fact 𝓤 (Unit {0}))) (fact_i 𝓤 (Unit {0}) (emp 𝓤) tt) $ use0 𝓛 (raw (fact 𝓤 (Unit {0}))) (fact_i 𝓤 (Unit {0}) (emp 𝓤) tt) $ join ! $
    nothing ! $ nothing ! $ fjoin ! $ nothing ! $ fjoin ! $ nothing ! $ fjoin ! $ move ! (3 ∷ 0 ∷ 2 ∷ 1 ∷ []) $
    by ! (leaves 𝓛 T stays c z (live 1 (vcons (vstruct vnil) vnil)) (Err (record {})) (tt, (tt, (tt, tt))) (tt, (tt, (tt, tt))))))))))
