-- `zero` goes along memory of which no byte is set: it writes an array of 32 bytes at a time, then single bytes. Assumes `Logic`.
use mathlib.Core.Path.{◌≡◌, refl}
use mathlib.Core.List.{List, [], ◌∷◌, ◌++◌}
use mathlib.Core.WellFounded.InvImage
use Prim.Native.Nat.{ℕ, ◌+◌, ◌-◌, ◌≤◌, ◌<◌, ◌^◌}
use native.Mathlib.Omega.{arith}
use seplogic.Ra.Ura.{Ura}
use lib.Dec.{lit<, ltb→lt, nltb→le, leb→le}
use lib.ListN.{length, replicate, length-replicate}
use lib.WfN.{lt-wf_rel}
use base.Fraction.{full_share}
use mir.Syntax.{Body, w8, w64, ty_int}
use mir.Val.{Val, vunit, vint, vptr}
use base.Logic.{SProp, ent, sep, id⊢}
use base.Fml.{Share, fat, froom, fsep, feq}
use contract.Monad.{fact}
use contract.Running.{tables, tables_of}
use prog.Wp.{Env, Out, Wp, WpFn, Tables, at_return, after_seq, after_block, after_turn}
use types.Logic.{Logic, sem}
use types.Kit.{Item, Sq, any_q, runs, ‵, raw, ◌⊛◌, prop, at_ret, ◌$◌, ◌∵◌, !, qed, by, move, drop, use0, use1, use2, join, split, rewrite, regoal, fsplit, fjoin, feq_i, suffices, group, done}
use types.Run.{stop, load, look, statics, lit, bin, unit_lit, of_opd, init, assigns_last, first, blocks, skips, jumps, branches, exec, returns, enter, loops, again, Below}
use types.ByLocal.{alloc_all, pass_all, free_all, look_at, get, through, sets, sets_last, lands_as, env, holding, forget_but}
use denote.Array.{Array}
use denote.Builtin.{u8, usize}
use denote.Exit.{yes}
use denote.Memory.{part_at}
use denote.Plain.{uint_vals, uint_Tells, uint_in}
use denote.RawPtr.{Ptr, RawPtr, block_ptr, ptr_val, room_for, in_a_block, rawptr_vals, rawptr_Tells}
use denote.RawPtr.Bytes.{bytes, bytes_apart, bytes_glue, bytes_whole}
use denote.Signature.{plain}
use denote.Steps.{heard, nothing}
use denote.Triple.Entry.{on_entry}
use denote.Triple.Walked.{Stays, stay_dropped, walk_of, ends_at, Goes-dropped}
use Rattle.std.proofs.raw_atomic.Walks.{proved}
use Rattle.core.proofs.alloc.Shapes.{after, head}
use Rattle.std.proofs.lemmas.List.{replicate-append-replicate}
use Rattle.raw_pool.specs.Ownership.{byte_row}
use Rattle.raw_pool.proofs.PageRows.{behind_bytes, behind_byte}
use Rattle.raw_pool.proofs.Zeros.{Typed, zeros, zeros_in, zeros_typed}
use Rattle.raw_pool.specs.contracts.raw_bytes.zero as f
use Rattle.raw_pool.proofs.raw_bytes.zero.Statement.{statement}
use Rattle.raw_pool.proofs.raw_bytes.zero.Code as code

abbrev stayed : Stays f.ended.signature.params f.ended.kept
stayed = (stay_dropped (plain (λ _. RawPtr)) yes, (stay_dropped (plain (λ _. usize)) yes, tt))

-- the loops' bodies
abbrev part_turn : Body
part_turn = head (head (head (after 2 (code.function).body)))

abbrev byte_turn : Body
byte_turn = head (head (head (after 3 (code.function).body)))

module _ {M : Type 1} {𝓤 : Ura M} (𝓛 : Logic 𝓤) where
  open 𝓛 use {H}

  -- zeros behind zeros
  joined : (b o i k : ℕ) → ent 𝓤 (sep 𝓤 (sem 𝓛 (bytes full_share (replicate i 0) b o)) (sem 𝓛 (bytes full_share (replicate k 0) b (i + o)))) (sem 𝓛 (bytes full_share (replicate (i + k) 0) b o))
  joined b o i k =
      let long : length (replicate {A = ℕ} i 0) ≡ i = length-replicate {A = ℕ} i 0 in let here : i + o ≡ o + length (replicate {A = ℕ} i 0) = omega (arith, long) in
      qed 𝓛 (‵ (bytes full_share (replicate i 0) b o) ∷ ‵ (bytes full_share (replicate k 0) b (i + o)) ∷ []) ∵
      rewrite ! 1 (λ (j : ℕ). ‵ (bytes full_share (replicate k 0) b j)) here refl $
      use2 𝓛 (‵ (bytes full_share (replicate i 0 ++ replicate k 0) b o)) (bytes_glue 𝓛 full_share (replicate i 0) (replicate k 0) b o) $
      rewrite ! 0 (λ (xs : List ℕ). ‵ (bytes full_share xs b o)) (replicate-append-replicate i k 0) refl $ done !

  one_more : (b o i : ℕ) → ent 𝓤 (sep 𝓤 (sem 𝓛 (bytes full_share (replicate i 0) b o)) (H.at full_share (ty_int w8) b (i + o) (vint w8 0))) (sem 𝓛 (bytes full_share (replicate (i + 1) 0) b o))
  one_more b o i =
      qed 𝓛 (‵ (bytes full_share (replicate i 0) b o) ∷ ‵ (fat full_share (ty_int w8) b (i + o) (vint w8 0)) ∷ []) ∵ move ! (1 ∷ []) $
      use1 𝓛 (‵ (part_at u8 full_share 0 b (i + o))) (uint_in 𝓛 full_share w8 0 b (i + o)) $
      nothing ! $ move ! (1 ∷ 0 ∷ []) $ fjoin ! $ move ! (1 ∷ 0 ∷ []) $ by ! (joined b o i 1)

  part_more : (b o i : ℕ) → ent 𝓤 (sep 𝓤 (sem 𝓛 (bytes full_share (replicate i 0) b o)) (H.at full_share (byte_row 32) b (i + o) zeros)) (sem 𝓛 (bytes full_share (replicate (i + 32) 0) b o))
  part_more b o i =
      qed 𝓛 (‵ (bytes full_share (replicate i 0) b o) ∷ ‵ (fat full_share (byte_row 32) b (i + o) zeros) ∷ []) ∵
      move ! (1 ∷ []) $ use1 𝓛 (‵ (part_at (Array u8 32) full_share (replicate 32 0) b (i + o))) (zeros_in 𝓛 b (i + o)) $
      use1 𝓛 (‵ (fsep (feq ℕ (length (replicate {A = ℕ} 32 0)) 32) (bytes full_share (replicate 32 0) b (i + o)))) (bytes_apart 𝓛 full_share 32 (replicate 32 0) b (i + o)) $
      fsplit ! $ drop ! $ move ! (1 ∷ 0 ∷ []) $ by ! (joined b o i 32)

  module _ (𝓣 : Tables 𝓤 H) (b o n : ℕ) (few : n < 2 ^ 63) (typed : Typed) (z : ℕ) (lent : Share) (Post : Val → SProp 𝓤) (exits : ent 𝓤 (sem 𝓛 (bytes full_share (replicate n 0) b o)) (Post vunit)) (l : ℕ → ℕ) where
    abbrev En : Env 𝓤 H
    En = env (code.function).locals l

    -- how many are set
    abbrev Count : Type 0
    Count = (i : ℕ) × (i ≤ n)

    abbrev Nearer : Count → Count → Type 0
    Nearer t u = n - t.0 < n - u.0

    abbrev Now : Count → List (Item 𝓤)
    Now t = ‵ (bytes full_share (replicate t.0 0) b o) ∷ ‵ (froom (byte_row (n - t.0)) b (o + t.0)) ∷ ‵ (fat lent (byte_row 32) z 0 zeros) ∷ holding 𝓛 En ((1, vptr b o) ∷ (2, vint w64 n) ∷ (3, vptr z 0) ∷ (4, vint w64 t.0) ∷ [])

    -- a loop with the given number of statements before what follows on it
    abbrev Turned : ℕ → Count → Out → SProp 𝓤
    Turned k t = after_turn 𝓤 H (Below 𝓛 Nearer Now t) (after_block 𝓤 H (after_seq 𝓤 H (Wp 𝓤 H 𝓣.C 𝓣.Λ En (after k (code.function).body) (at_return 𝓤 H En Post)) (at_return 𝓤 H En Post)))

    byte_turns : (t : Count) → Sq 𝓛 (Now t) (runs 𝓣.C 𝓣.Λ En byte_turn (any_q (Turned 4 t)))
    unfolding after_turn
    byte_turns t =
        let i : ℕ = t.0 in let le = t.1 in
        sets ! (bin ! (get ! refl) (get ! refl) tt) refl (tt, tt) $ first ! $ branches ! (get ! refl)
        (λ less. let h : i < n = ltb→lt i n less in let more : i + 1 < 2 ^ 64 = omega arith in
        skips ! $ exec ! 𝓣.C 𝓣.Λ En (after 2 byte_turn) (any_q (Turned 4 t)) $ first ! $ blocks ! $
        sets ! (bin ! (get ! refl) (get ! refl) tt) refl (tt, tt) $
        move ! (1 ∷ []) $ use1 𝓛 (‵ (froom (ty_int w8) b (i + o)) ⊛ ‵ (froom (byte_row (n - (i + 1))) b (o + (i + 1)))) (behind_byte 𝓛 b o i n h) $ split ! $
        assigns_last ! (of_opd ! (lit ! tt)) (through ! refl (stop !)) (init ! 0 refl (tt, record { fits = lit< tt })) $
        exec ! 𝓣.C 𝓣.Λ En (after 3 byte_turn) (any_q (Turned 4 t)) $ sets_last ! (bin ! (get ! refl) (lit ! tt) (record { fits = more })) refl (tt, record { fits = more }) $
        move ! (2 ∷ 0 ∷ []) $ use2 𝓛 (‵ (bytes full_share (replicate (i + 1) 0) b o)) (one_more b o i) $
        forget_but ! En (1 ∷ 2 ∷ 3 ∷ 4 ∷ []) refl $ again ! Nearer Now t (i + 1, omega arith) (omega arith))
        (λ over. let ge : n ≤ i = nltb→le i n over in let all : i ≡ n = omega arith in
        jumps ! $ exec ! 𝓣.C 𝓣.Λ En (after 4 (code.function).body) (at_ret En Post) $ rewrite ! 0 (λ (k : ℕ). ‵ (bytes full_share (replicate k 0) b o)) all refl $ move ! (1 ∷ 2 ∷ []) $ drop ! $ drop ! $
        sets ! (of_opd ! (unit_lit !)) refl (tt, tt) $ returns ! (look_at ! 0 refl) $ free_all ! refl $ by ! exits)

    part_turns : (t : Count) → Sq 𝓛 (Now t) (runs 𝓣.C 𝓣.Λ En part_turn (any_q (Turned 3 t)))
    unfolding after_turn
    part_turns t =
        let i : ℕ = t.0 in let le = t.1 in let more : i + 32 < 2 ^ 64 = omega arith in
        sets ! (bin ! (get ! refl) (lit ! tt) (record { fits = more })) refl (tt, record { fits = more }) $
        sets ! (bin ! (get ! refl) (get ! refl) tt) refl (tt, tt) $ first ! $ branches ! (get ! refl)
        (λ some. let within : i + 32 ≤ n = leb→le (i + 32) n some in
        skips ! $ exec ! 𝓣.C 𝓣.Λ En (after 3 part_turn) (any_q (Turned 3 t)) $ first ! $ blocks ! $
        sets ! (bin ! (get ! refl) (get ! refl) tt) refl (tt, tt) $ sets ! (of_opd ! (get ! refl)) refl (tt, tt) $
        sets ! (of_opd ! (load ! (through ! refl (stop !)) (look ! 2 refl))) refl typed $
        move ! (1 ∷ []) $ use1 𝓛 (‵ (froom (byte_row 32) b (i + o)) ⊛ ‵ (froom (byte_row (n - (i + 32))) b (o + (i + 32)))) (behind_bytes 𝓛 b o i 32 n within) $ split ! $
        assigns_last ! (of_opd ! (get ! refl)) (through ! refl (stop !)) (init ! 0 refl typed) $
        exec ! 𝓣.C 𝓣.Λ En (after 4 part_turn) (any_q (Turned 3 t)) $ sets_last ! (bin ! (get ! refl) (lit ! tt) (record { fits = more })) refl (tt, record { fits = more }) $
        move ! (2 ∷ 0 ∷ []) $ use2 𝓛 (‵ (bytes full_share (replicate (i + 32) 0) b o)) (part_more b o i) $
        forget_but ! En (1 ∷ 2 ∷ 3 ∷ 4 ∷ []) refl $ again ! Nearer Now t (i + 32, within) (omega arith))
        (λ few_left. jumps ! $ exec ! 𝓣.C 𝓣.Λ En (after 3 (code.function).body) (at_ret En Post) $ forget_but ! En (1 ∷ 2 ∷ 3 ∷ 4 ∷ []) refl $
        first ! $ blocks ! $ loops ! 𝓣 Nearer (InvImage.wf (λ (u : Count). n - u.0) lt-wf_rel.wf) Now byte_turns t)

pub zero_spec : {M : Type 1} → statement M
unfolding tables_of
zero_spec 𝓤 𝓛 𝓜 𝓡 wired =
    let c = f.clauses 𝓛 𝓜.mem 𝓡.returns in let W = walk_of 𝓛 f.ended stayed c in let 𝓣 : Tables 𝓤 𝓛.H = tables_of 𝓤 𝓛.H 𝓜 (tables 𝓤 𝓛.H 𝓜 𝓡 𝓡.env) in
    proved 𝓛 f.ended stayed c 𝓜 𝓡 (Goes-dropped 𝓛 0 (plain (λ _. RawPtr)) yes (λ κs x w. refl), (Goes-dropped 𝓛 0 (plain (λ _. usize)) yes (λ κs x w. refl), tt))
    f.Key.name code.function (code.unfolded 𝓤 𝓛.H 𝓜 𝓡 wired)
    (λ κs. (rawptr_vals, (uint_vals w64, tt))) (λ κs. (rawptr_Tells, (uint_Tells w64, tt))) (λ κs qs bounds a g are.
    let n : ℕ = a.1.0 in
    let y : Ptr → W.Ghost = λ p. ((κs, qs, bounds, (p, (n, tt)), (rawptr_vals p, (uint_vals w64 n, tt))), tt) in
    qed 𝓛 (raw (on_entry 𝓛 f.signature κs qs a (y a.0).0.4) ∷ (raw (fact 𝓤 (n < 2 ^ 63)) ⊛ ‵ (room_for (byte_row n) a.0)) ∷ []) ∵ drop ! $ split ! $ heard ! (n < 2 ^ 63) (λ few.
    in_a_block ! a.0 (λ p. room_for (byte_row n) p) (id⊢ 𝓤 _) (λ b o e.
    regoal ! (λ p. prop (WpFn 𝓤 𝓛.H 𝓣.C 𝓣.Λ code.function (ptr_val p ∷ vint w64 n ∷ []) (W.post (y p)))) e refl $
    let Post : Val → SProp 𝓤 = W.post (y (block_ptr b o)) in
    let exits : ent 𝓤 (sem 𝓛 (bytes full_share (replicate n 0) b o)) (Post vunit) =
    (qed 𝓛 (‵ (bytes full_share (replicate n 0) b o) ∷ []) ∵ feq_i ! ℕ (length (replicate n 0)) n (length-replicate n 0) $ fjoin ! $
    use1 𝓛 (‵ (part_at (Array u8 n) full_share (replicate n 0) b o)) (bytes_whole 𝓛 full_share n (replicate n 0) b o) $
    suffices ! _ (ends_at 𝓛 f.ended stayed c (y (block_ptr b o)) vunit tt (tt, (tt, tt)) (tt, (tt, tt))) $
    feq_i ! _ (vunit ∷ []) _ refl $ nothing ! $ nothing ! $ join ! $ nothing ! $ join ! $ nothing ! $ group ! 3 $ done !) in
    let start : o ≡ o + 0 = omega arith in let all : n ≡ n - 0 = omega arith in
    rewrite ! 0 (λ (k : ℕ). ‵ (froom (byte_row k) b o)) all refl $ rewrite ! 0 (λ (k : ℕ). ‵ (froom (byte_row (n - 0)) b k)) start refl $
    use0 𝓛 (‵ (bytes full_share (replicate 0 0) b o)) (id⊢ 𝓤 _) $
    zeros_typed ! (λ typed.
    enter ! _ _ _ _ _ $ alloc_all ! (λ l. pass_all ! refl ((tt, tt), ((tt, record { fits = are.1.0.1 }), tt)) $
    statics ! (λ z. typed) (λ z lent. lands_as ! refl refl (tt, tt) $ move ! (1 ∷ 2 ∷ 0 ∷ []) $
    sets ! (of_opd ! (lit ! tt)) refl (tt, record { fits = lit< tt }) $ forget_but ! (En 𝓛 𝓣 b o n few typed z lent Post exits l) (1 ∷ 2 ∷ 3 ∷ 4 ∷ []) refl $
    first ! $ blocks ! $ loops ! 𝓣 (Nearer 𝓛 𝓣 b o n few typed z lent Post exits l) (InvImage.wf (λ (t : Count 𝓛 𝓣 b o n few typed z lent Post exits l). n - t.0) lt-wf_rel.wf) (Now 𝓛 𝓣 b o n few typed z lent Post exits l) (part_turns 𝓛 𝓣 b o n few typed z lent Post exits l) (0, omega arith)))))))
