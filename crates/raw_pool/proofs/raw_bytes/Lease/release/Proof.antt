-- `release` makes memory of both rows and hands the block back with the lease. Assumes `Logic`.
use mathlib.Core.Path.{◌≡◌, refl, sym, ap, subst, ◌∙◌}
use Prim.Native.Nat.{ℕ, ◌+◌, ◌-◌, ◌*◌}
use native.Mathlib.Omega.{arith}
use mathlib.Core.List.{List, [], ◌∷◌, ◌++◌}
use lib.Dec.{T as Holds, lit<}
use lib.ListN.{length}
use seplogic.Ra.Ura.{Ura}
use base.Fraction.{full_share}
use mir.MapTy.{inst_fn}
use mir.Syntax.{Fn, Args, a_type, dcons, dnil, w8, ty_int, ty_unit}
use mir.Val.{Val, WT, has_ty, vunit, vptr}
use base.Logic.{SProp, ent, sep, id⊢}
use base.Fml.{Lft, Share, ftrue, fsep, feq, froom, flft}
use contract.BorrowLft.{◌⊑◌, ⊑_trans}
use contract.Monad.{fact}
use contract.Running.{tables}
use prog.Capped.{capped_is}
use prog.Memory.{size, capped}
use prog.Wp.{Env, WpFn}
use types.Logic.{Logic, sem}
use types.Kit.{‵, raw, ◌⊛◌, given, later, prop, at_ret, ◌$◌, ◌∵◌, !, qed, by, move, drop, use1, use2, use3, split, join, learn, rewrite, regoal, fsplit, fjoin, feq_i, await, done}
use types.Part.{whole, sub}
use types.Run.{stop, fld, lit, unit_lit, of_opd, no_more, and_then, first, blocks, exec, returns, enter}
use types.ByLocal.{alloc_all, pass_all, free_all, look_at, get, get_in, sets, lands_last, env}
use denote.Builtin.{RefOf}
use denote.Exit.{yes, no}
use denote.Param.{bounded}
use denote.RattleType.{owns}
use denote.RawPtr.{Ptr, block_ptr, ◌+ₚ◌}
use denote.RawPtr.Bytes.{bytes, bytes_apart, bytes-room}
use denote.RawPtr.Room.{past_bytes, room_glue}
use denote.Signature.{plain, types_at}
use denote.Steps.{nothing, heard}
use denote.Triple.Call.{calls_at_last}
use denote.Triple.Entry.{alive}
use denote.Triple.Walked.{Stays, stay_dropped, walk_of, Goes-dropped}
use Rattle.std.proofs.raw_atomic.Walks.{proved_at, leaves}
use Rattle.core.proofs.alloc.Calls.{Al, Goes-blank, token, seen, Gives, at_gives, Gives-goes, Gives-Gives}
use Rattle.core.proofs.alloc.Shapes.{after}
use Rattle.core.proofs.atomic.Steps.{fm}
use Rattle.raw_pool.specs.Ownership.{AreBlock, byte_row, row_owned}
use Rattle.raw_pool.specs.declared.raw_bytes.RawBytes.{RawBytes}
use Rattle.raw_pool.specs.contracts.raw_bytes.RawBytes as row
use Rattle.raw_pool.specs.contracts.raw_bytes.Lease.release.{ended, clauses}
use Rattle.raw_pool.specs.contracts.raw_bytes.Lease.release.Key.{name as #self}
use Rattle.raw_pool.proofs.RawSteps.{row_val, memory, row_had}
use Rattle.raw_pool.proofs.Leases.{lease_val, P, Lr, lease_had}
use Rattle.raw_pool.proofs.raw_bytes.Lease.release.Statement.{statement}
use Rattle.raw_pool.proofs.raw_bytes.Lease.release.Code as code

module _ {M : Type 1} {𝓤 : Ura M} (𝓛 : Logic 𝓤) (b o : ℕ) where
  open 𝓛 use {H}

  glued : (m k : ℕ) → ent 𝓤 (sep 𝓤 (H.room (byte_row m) b o) (H.room (byte_row k) b (o + m))) (H.room (byte_row (m + k)) b o)
  glued m k = qed 𝓛 (‵ (froom (byte_row m) b o) ∷ ‵ (froom (byte_row k) b (o + m)) ∷ []) ∵ rewrite ! 1 (λ (j : ℕ). ‵ (froom (byte_row k) b j)) (sym (past_bytes m o)) refl $ by ! (room_glue 𝓛 (ty_int w8) m k b o)

  -- the bytes that are set are memory like what lies behind them
  unset : (d : RawBytes) → ent 𝓤 (sem 𝓛 (memory d b o)) (H.room (byte_row d.room) b o)
  unset d =
      let le = d.ok.1 in let all : d.len + (d.room - d.len) ≡ d.room = omega arith in
      qed 𝓛 (‵ (memory d b o) ∷ []) ∵ fsplit ! $ use1 𝓛 (‵ (fsep (feq ℕ (length d.set) d.len) (bytes full_share d.set b o))) (bytes_apart 𝓛 full_share d.len d.set b o) $ fsplit ! $ drop ! $
      use1 𝓛 (‵ (froom (byte_row (length d.set)) b o)) (bytes-room 𝓛 d.set b o) $ rewrite ! 0 (λ (j : ℕ). ‵ (froom (byte_row j) b o)) (sym d.ok.0) refl $
      use2 𝓛 (‵ (froom (byte_row (d.len + (d.room - d.len))) b o)) (glued d.len (d.room - d.len)) $ rewrite ! 0 (λ (j : ℕ). ‵ (froom (byte_row j) b o)) all refl $ done !

pub release_spec : {M : Type 1} → statement M
release_spec 𝓤 𝓛 𝓜 𝓡 wired A L g d dd met md =
    let H = 𝓛.H in let T = ended A g d dd in let c = clauses A g d dd 𝓛 𝓜.mem 𝓡.returns in
    let Y : Al = record { row = A; laws = L; g = g; d = d; drops = dd } in
    let args : Args = bounded (a_type ∷ []) (A, tt) (dcons d (dcons dd dnil)) in let fn : Fn = inst_fn args code.function in
    let lease = plain (λ _. Lr Y) in let bytes' = plain (λ _. row.the_row) in let alloc = RefOf (0 ∷ []) tt (plain (λ _. P Y)) (λ _. tt) in
    let stays : Stays T.signature.params T.kept = (stay_dropped lease no, (stay_dropped bytes' yes, (stay_dropped bytes' yes, (stay_dropped alloc yes, tt)))) in
    let C = (tables 𝓤 H 𝓜 𝓡 𝓡.env).C in let Λ = (tables 𝓤 H 𝓜 𝓡 𝓡.env).Λ in
    proved_at 𝓛 T stays c 𝓜 𝓡 (Goes-dropped 𝓛 2 lease no (λ κs x f. refl), (Goes-blank 𝓛 2 bytes' yes (λ κs x f. tt), (Goes-blank 𝓛 2 bytes' yes (λ κs x f. tt), (Goes-dropped 𝓛 2 alloc yes (λ κs x f. refl), tt))))
    (#self args) fn (code.unfolded 𝓤 H 𝓜 𝓡 wired (A, tt) d dd) (λ z are.
    let Post : Val → SProp 𝓤 = (walk_of 𝓛 T stays c).post z in
    let a = z.0.3 in let vss = z.0.4 in let κ : Lft = z.0.0.0 in let κ₁ : Lft = z.0.0.1.0 in let q : Share = z.0.1.0 in let q₁ : Share = z.0.1.1.0 in
    let e : (Lr Y).Denot = a.0 in let r₁ : RawBytes = a.1.0 in let r₂ : RawBytes = a.1.1.0 in let h = a.1.1.1.0.now in let at = a.1.1.1.0.ref_ptr in let n : ℕ = e.size in let τ = byte_row n in
    let Asked : Type 0 = AreBlock r₁.ptr r₁.room r₂.ptr r₂.room e.ptr n × (e.alloc ≡ h) in
    qed 𝓛 ((raw (alive 𝓛 T.signature z.0.0 z.0.1) ⊛ ‵ (owns (types_at T.signature.params z.0.0) a vss)) ∷ (raw (fact 𝓤 (κ₁ ⊑ A.lives)) ⊛ raw (fact 𝓤 Asked)) ∷ []) ∵
    move ! (1 ∷ []) $ split ! $ heard ! (κ₁ ⊑ A.lives) (λ inA. heard ! Asked (λ asked. split ! $ move ! (1 ∷ []) $
    fsplit ! $ lease_had Y ! e vss.0 (λ fits e₀. move ! (1 ∷ []) $ fsplit ! $ row_had ! r₁ vss.1.0 (λ b o at₁ e₁ fits₁. move ! (1 ∷ []) $ fsplit ! $ row_had ! r₂ vss.1.1.0 (λ b' o' at₂ e₂ fits₂.
    move ! (1 ∷ []) $ fsplit ! $ fsplit ! $ drop ! $ move ! (1 ∷ []) $ drop ! $ use1 𝓛 (‵ (seen Y κ at h)) (id⊢ 𝓤 _) $
    -- [the allocator; the second row; the first; the right to free; the tokens]
    let next : block_ptr b' o' ≡ block_ptr b (o + r₁.room) = sym at₂ ∙ asked.0.behind ∙ ap (λ (p : Ptr). p +ₚ r₁.room) at₁ in
    move ! (1 ∷ []) $ rewrite ! 0 (λ (p : Ptr). ‵ (row_owned p r₂.len r₂.room r₂.set)) next refl $ use1 𝓛 (‵ (froom (byte_row r₂.room) b (o + r₁.room))) (unset 𝓛 b (o + r₁.room) r₂) $
    move ! (2 ∷ []) $ use1 𝓛 (‵ (froom (byte_row r₁.room) b o)) (unset 𝓛 b o r₁) $ use2 𝓛 (‵ (froom (byte_row (r₁.room + r₂.room)) b o)) (glued 𝓛 b o r₁.room r₂.room) $
    rewrite ! 0 (λ (j : ℕ). ‵ (froom (byte_row j) b o)) (sym asked.0.whole) refl $
    move ! (2 ∷ []) $ rewrite ! 0 (λ (u : A.Denot × Ptr). ‵ (token Y u.0 τ u.1)) (λ i. (asked.1 i, (asked.0.start ∙ at₁) i)) refl $
    move ! (3 ∷ []) $ use1 𝓛 (‵ (flft κ q) ⊛ ‵ (flft κ₁ q₁) ⊛ ‵ ftrue) (id⊢ 𝓤 _) $ split ! $ move ! (4 ∷ 0 ∷ []) $ join ! $ move ! (3 ∷ 2 ∷ 0 ∷ []) $
    -- [the block; the right to free it; the allocator with its token; the other tokens]
    let y = at_gives Y 𝓛 𝓜.mem 𝓡.returns κ q at h b o n 1 τ in let size_is : capped (size τ) ≡ n = capped_is (n * 1) (omega arith) ∙ omega arith in
    regoal ! (λ (us : List Val). prop (WpFn 𝓤 H C Λ fn us Post)) (λ i. e₀ i ++ (e₁ i ++ (e₂ i ++ (are.1.1.1.0.0 i ++ [])))) refl $
    enter ! C Λ fn (lease_val n ∷ row_val b o r₁.len ∷ row_val b' o' r₂.len ∷ vptr at.0 at.1 ∷ []) Post $
    alloc_all ! (λ l. pass_all ! refl ((tt, (record { fits = fits }, (tt, tt))), ((tt, (tt, (record { fits = fits₁ }, tt))), ((tt, (tt, (record { fits = fits₂ }, tt))), ((tt, tt), tt)))) $ let En : Env 𝓤 H = env fn.locals l in
    sets ! (of_opd ! (get_in ! (fld ! refl (stop !)) (sub ! 0 refl (whole !)))) refl (tt, record { fits = fits }) $
    sets ! (of_opd ! (get_in ! (fld ! refl (stop !)) (sub ! 0 refl (whole !)))) refl (tt, tt) $
    first ! $ blocks ! $ use3 𝓛 (raw ((Gives Y 𝓛 𝓜.mem 𝓡.returns).pre y)) (Gives-goes Y 𝓛 𝓜.mem 𝓡.returns κ q at h (⊑_trans κ κ₁ A.lives z.0.2.0 inA) b o n 1 τ size_is refl fits (lit< tt)) $
    calls_at_last ! (fm 𝓛 𝓜 𝓡) (Gives Y 𝓛 𝓜.mem 𝓡.returns) (met.deallocate dd) y (and_then ! (get ! refl) (and_then ! (get ! refl) (and_then ! (get ! refl) (and_then ! (lit ! tt) (no_more !))))) (λ v.
    use1 𝓛 (later (given (v ≡ vunit) (‵ (flft κ q)))) (Gives-Gives Y 𝓛 𝓜.mem 𝓡.returns κ q at h b o n 1 τ v) $ await ! tt $ learn ! (λ is. join ! $
    lands_last ! refl (subst (λ (u : Val). Holds (has_ty ty_unit u) × WT u) (sym is) (tt, tt)) $ exec ! C Λ En (after 3 fn.body) (at_ret En Post) $
    sets ! (of_opd ! (unit_lit !)) refl (tt, tt) $ returns ! (look_at ! 0 refl) $ free_all ! refl $
    feq_i ! (List Val) (vunit ∷ []) (vunit ∷ []) refl $ nothing ! $ nothing ! $ nothing ! $ fjoin ! $ nothing ! $ fjoin ! $ nothing ! $ fjoin ! $ nothing ! $ fjoin ! $ move ! (3 ∷ 0 ∷ 2 ∷ 1 ∷ []) $
    by ! (leaves 𝓛 T stays c z vunit tt (tt, (tt, (tt, (tt, tt)))) (tt, (tt, (tt, (tt, tt))))))))))))))
