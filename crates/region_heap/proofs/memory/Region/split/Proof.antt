-- `split` cuts the memory in two: units that are all free, and bytes of which none is set. Assumes `Logic`.
use Rattle.std.proofs.Common.{◌≡◌, ℕ, ◌+◌, ◌-◌, ◌*◌, ◌/◌, ◌%◌, ◌^◌, ◌<◌, ◌≤◌, List, [], ◌∷◌, ◌++◌, replicate, refl, ap, ◌∙◌, arith, lit<, w64}
use mir.Syntax.{Fn}
use mir.Val.{Val, vint, vptr}
use base.Logic.{SProp, ent, emp, never, id⊢}
use types.Logic.{Logic, sem}
use seplogic.Ra.Ura.{Ura}
use base.Fraction.{full_share}
use prog.Memory.{size}
use prog.Align.{dv_one}
use denote.Array.{Array}
use denote.Builtin.{u8}
use denote.Memory.{part_at}
use denote.RawPtr.Bytes.{bytes_whole}
use base.Fml.{froom, fwand}
use prog.Wp.{Env, WpFn}
use contract.Monad.{fact, fact_i}
use contract.Running.{tables}
use types.Kit.{‵, raw, ◌⊛◌, prop, at_ret, ◌$◌, ◌∵◌, !, qed, by, move, drop, use0, use1, use2, split, regoal, rewrite, fsplit, fjoin, join, feq_i, done}
use types.Part.{whole, sub, agg}
use types.Run.{stop, fld, lit, bin, of_opd, no_more, and_then, first, blocks, exec, returns, enter}
use types.ByLocal.{alloc_all, pass_all, free_all, look_at, get, get_in, sets, sets_last, is, env}
use denote.RattleType.{owns}
use denote.RawPtr.{Ptr, block_ptr, in_a_block}
use denote.Signature.{types_at}
use denote.Steps.{nothing, heard}
use denote.Struct.Tuple.{Tuple}
use denote.Triple.Entry.{alive}
use denote.Triple.Walked.{Stays, stay_dropped, walk_of, Goes-dropped}
use Rattle.core.proofs.alloc.Calls.{Goes-blank}
use Rattle.core.proofs.alloc.Shapes.{after}
use Rattle.std_alloc.proofs.Pairs.{pair_of, pair_val}
use Rattle.std.proofs.raw_atomic.Walks.{proved_at, leaves}
use Rattle.linked_list_allocator.proofs.Walks.{slot_at}
use Rattle.linked_list_allocator.proofs.Values.{list_val, list_own, list_made, sized_val, sized_told}
use Rattle.linked_list_allocator.specs.Ownership.{bytes_at, units_of}
use Rattle.raw_pool.specs.Ownership.{byte_row}
use Rattle.raw_pool.specs.declared.raw_bytes.RawBytes.{RawBytes}
use Rattle.raw_pool.specs.contracts.raw_bytes.RawBytes as row
use Rattle.raw_pool.proofs.RawSteps.{row_val, memory, row_made}
use Rattle.linked_list_allocator.proofs.Nodes.{cuts, resized}
use Rattle.std.proofs.lemmas.List.{length-replicate}
use Rattle.region_heap.specs.Places.{Place}
use Rattle.region_heap.specs.Ownership.{free_from}
use Rattle.region_heap.proofs.Units.{run_in}
use Rattle.region_heap.specs.contracts.memory.Free as free
use Rattle.region_heap.specs.contracts.memory.Region.split.{ended, clauses}
use Rattle.region_heap.specs.contracts.memory.Region.split.Key.{name as #self}
use Rattle.region_heap.proofs.memory.Region.split.Statement.{statement}
use Rattle.region_heap.proofs.memory.Region.split.Code as compiled

-- a number of bytes of which none is set
abbrev bare : Ptr → (n : ℕ) → n < 2 ^ 63 → RawBytes
bare p n low = record { ptr = p; len = 0; room = n; set = []; ok = (refl, omega arith, low) }

module _ {M : Type 1} {𝓤 : Ura M} (𝓛 : Logic 𝓤) (b o : ℕ) where
  open 𝓛 use {H}

  none_set : (n : ℕ) (low : n < 2 ^ 63) → n % 16 ≡ 0 → ent 𝓤 (H.room (units_of n) b o) (sem 𝓛 (memory (bare (block_ptr b o) n low) b o))
  none_set n low even =
      let same : size (byte_row n) ≡ n / 16 * 16 = omega arith in
      let all : n ≡ n - 0 = omega arith in let here : o ≡ o + 0 = omega arith in
      qed 𝓛 (‵ (froom (units_of n) b o) ∷ []) ∵ use1 𝓛 (‵ (froom (byte_row n) b o) ⊛ ‵ (fwand (froom (byte_row n) b o) (froom (units_of n) b o))) (𝓛.laws.room_as (units_of n) (byte_row n) b o same (dv_one 16)) $ split ! $ move ! (1 ∷ []) $ drop ! $
      rewrite ! 0 (λ (j : ℕ). ‵ (froom (byte_row j) b o)) all refl $ rewrite ! 0 (λ (j : ℕ). ‵ (froom (byte_row (n - 0)) b j)) here refl $
      nothing ! $ feq_i ! ℕ 0 0 refl $ fjoin ! $ use1 𝓛 (‵ (part_at (Array u8 0) full_share [] b o)) (bytes_whole 𝓛 full_share 0 [] b o) $ fjoin ! $ done !

pub split_spec : {M : Type 1} → statement M
split_spec 𝓤 𝓛 𝓜 𝓡 wired =
    let H = 𝓛.H in let T = ended in let c = clauses 𝓛 𝓜.mem 𝓡.returns in let fn : Fn = compiled.function in
    let stays : Stays T.signature.params T.kept = (stay_dropped (slot_at 0 T.signature.params) T.kept.0, (stay_dropped (slot_at 1 T.signature.params) T.kept.1.0, tt)) in
    let C = (tables 𝓤 H 𝓜 𝓡 𝓡.env).C in let Λ = (tables 𝓤 H 𝓜 𝓡 𝓡.env).Λ in
    proved_at 𝓛 T stays c 𝓜 𝓡 (Goes-blank 𝓛 0 (slot_at 0 T.signature.params) T.kept.0 (λ κs x f. tt), (Goes-dropped 𝓛 0 (slot_at 1 T.signature.params) T.kept.1.0 (λ κs x f. refl), tt)) #self fn (compiled.unfolded 𝓤 H 𝓜 𝓡 wired) (λ z are.
    let Post : Val → SProp 𝓤 = (walk_of 𝓛 T stays c).post z in
    let a = z.0.3 in let vss = z.0.4 in
    let x = a.0 in let m : ℕ = a.1.0 in let n : ℕ = x.units in
    let known = sized_told x.start n vss.0 are.0.0 in let fits = known.1 in
    let Asked : Type 0 = m ≤ n in
    qed 𝓛 ((raw (alive 𝓛 T.signature z.0.0 z.0.1) ⊛ ‵ (owns (types_at T.signature.params z.0.0) a vss)) ∷ raw (fact 𝓤 Asked) ∷ []) ∵ move ! (1 ∷ []) $ heard ! Asked (λ asked. split ! $ move ! (1 ∷ []) $
    fsplit ! $ fsplit ! $ drop ! $ move ! (1 ∷ []) $ drop ! $ in_a_block ! x.start (λ p. bytes_at p (16 * n)) (id⊢ 𝓤 (never 𝓤)) (λ b o at.
    let few : 16 * n < 2 ^ 63 = x.few in let start : Ptr = block_ptr b o in let end : ℕ = o + 16 * m in let k : ℕ = 16 * (n - m) in let low : k < 2 ^ 63 = omega arith in
    let behind : Ptr = block_ptr b end in let r : RawBytes = bare behind k low in
    use1 𝓛 (‵ (froom (units_of (16 * m + k)) b o)) (resized 𝓛 b o (16 * n) (16 * m + k) (omega arith)) $
    use1 𝓛 (‵ (froom (units_of (16 * m)) b o) ⊛ ‵ (froom (units_of k) b end)) (cuts 𝓛 b o (16 * m) k (omega arith)) $ split ! $
    use1 𝓛 (‵ (free_from b o (replicate m 0))) (run_in 𝓛 b o m) $ move ! (1 ∷ []) $ use1 𝓛 (‵ (memory r b end)) (none_set 𝓛 b end k low (omega arith)) $
    regoal ! (λ (us : List Val). prop (WpFn 𝓤 H C Λ fn us Post)) (λ i. (known.0 ∙ ap (λ (q : Ptr). sized_val q n ∷ []) at) i ++ (are.1.0.0 i ++ [])) refl $
    enter ! C Λ fn (sized_val start n ∷ vint w64 m ∷ []) Post $
    alloc_all ! (λ l. pass_all ! refl ((tt, (tt, (record { fits = fits }, tt))), ((tt, record { fits = are.1.0.1 }), tt)) $ let En : Env 𝓤 𝓛.H = env fn.locals l in
    sets ! (of_opd ! (get_in ! (fld ! refl (stop !)) (sub ! 0 refl (whole !)))) refl (tt, tt) $
    first ! $ blocks ! $
    sets ! (bin ! (lit ! tt) (get ! refl) (record { fits = omega arith })) refl (tt, record { fits = omega arith }) $
    sets_last ! (is ! (bin ! (get ! refl) (get ! refl) tt) (ap (vptr b) (omega arith))) refl (tt, tt) $
    exec ! C Λ En (after 2 fn.body) (at_ret En Post) $
    sets ! (of_opd ! (get ! refl)) refl (tt, tt) $
    sets ! (agg ! (and_then ! (get ! refl) (no_more !))) refl (tt, (tt, tt)) $
    sets ! (agg ! (and_then ! (get ! refl) (and_then ! (lit ! tt) (no_more !)))) refl (tt, (tt, (record { fits = lit< tt }, tt))) $
    sets ! (agg ! (and_then ! (get ! refl) (and_then ! (get ! refl) (no_more !)))) refl (tt, ((tt, tt), ((tt, (record { fits = lit< tt }, tt)), tt))) $
    returns ! (look_at ! 0 refl) $ free_all ! refl $
    -- [the marks' memory; the free units; the tokens]
    let p : Place = record { object = b; start = o; units = m } in
    let y : (free.the_row).Denot = record { start = start; place = p; marks = replicate m 0; placed = ((refl, omega arith), length-replicate {A = ℕ} m 0) } in
    row_made ! r b end refl (lit< tt) $ move ! (1 ∷ []) $ use0 𝓛 (‵ (list_own start (list_val start ∷ []))) (list_made 𝓛 start tt) $ fjoin ! $
    use2 𝓛 (‵ ((Tuple (free.the_row ∷ row.the_row ∷ [])).own_val (y, r) (pair_val (list_val start) (row_val b end 0) ∷ []))) (pair_of 𝓛 free.the_row row.the_row y r (list_val start) (row_val b end 0)) $
    let Units : Type 0 = (m ≡ m) × (replicate {A = ℕ} m 0 ≡ replicate m 0) in let Marks : Type 0 = (r.set ≡ []) × (k ≡ k) in
    use0 𝓛 (raw (fact 𝓤 Marks)) (fact_i 𝓤 Marks (emp 𝓤) (refl, refl)) $ use0 𝓛 (raw (fact 𝓤 Units)) (fact_i 𝓤 Units (emp 𝓤) (refl, refl)) $ join ! $
    nothing ! $ nothing ! $ fjoin ! $ nothing ! $ fjoin ! $ move ! (3 ∷ 0 ∷ 2 ∷ 1 ∷ []) $
    by ! (leaves 𝓛 T stays c z (pair_val (list_val start) (row_val b end 0)) (y, r) (tt, (tt, tt)) (tt, (tt, tt)))))))
