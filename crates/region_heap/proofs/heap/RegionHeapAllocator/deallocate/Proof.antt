-- `deallocate` makes the room a block again, and gives it to the heap. Assumes `Logic`.
use Rattle.std.proofs.Common.{◌≡◌, ℕ, ◌+◌, ◌*◌, ◌^◌, ◌<◌, List, [], ◌∷◌, ◌++◌, refl, sym, ap, ◌∙◌, arith, w64}
use mir.Syntax.{Ty, Fn}
use mir.Val.{Val, vint, vptr, vunit}
use base.Logic.{SProp, emp, id⊢, apply∗}
use base.Fml.{ftrue}
use prog.Memory.{size, align, capped}
use prog.Capped.{capped_is}
use prog.Wp.{Env, WpFn}
use contract.Monad.{fact, fact_i}
use contract.Running.{tables}
use types.Logic.{sem}
use types.Kit.{‵, raw, ◌⊛◌, some, later, prop, ◌$◌, ◌∵◌, !, qed, by, move, keep, drop, use0, use1, use2, split, split3, join, pick, regoal, fsplit, fjoin, fpick, feq_l, feq_i, flt_i, await}
use types.Part.{agg}
use types.Run.{unit_lit, of_opd, no_more, and_then, returns, enter}
use types.ByLocal.{alloc_all, pass_all, free_all, look_at, get, sets, lands_as, env}
use denote.RattleType.{owns}
use denote.Builtin.{usize, unit}
use denote.RawPtr.{Ptr, ptr_val, room_for}
use denote.Signature.{types_at}
use denote.Steps.{nothing, only, heard}
use denote.Triple.Entry.{alive}
use denote.Triple.Spec.{triple_of}
use denote.Triple.Call.{calls_at}
use denote.Triple.Clauses.{Lasts, lasts}
use denote.Triple.Walked.{Stays, stay_dropped, walk_of, Goes-dropped}
use Rattle.core.proofs.atomic.Steps.{fm}
use Rattle.std.proofs.raw_atomic.Walks.{proved_at, leaves}
use Rattle.linked_list_allocator.proofs.Values.{list_val, list_own, list_made}
use Rattle.linked_list_allocator.proofs.Walks.{slot_at}
use Rattle.region_heap.specs.Places.{Place, unit_ptr, units_for}
use Rattle.region_heap.specs.Ownership.{block_owned, block_token}
use Rattle.region_heap.specs.contracts.heap.units_for as sizer
use Rattle.region_heap.proofs.heap.units_for.Met.{met as counts}
use Rattle.region_heap.specs.contracts.heap.RegionHeap.give as callee
use Rattle.region_heap.proofs.heap.RegionHeap.give.Met.{met as gives}
use Rattle.region_heap.specs.contracts.memory.Block as block
use Rattle.region_heap.specs.contracts.heap.RegionHeapAllocator.deallocate.{ended, clauses}
use Rattle.region_heap.specs.contracts.heap.RegionHeapAllocator.deallocate.Key.{name as #self}
use Rattle.region_heap.proofs.heap.RegionHeapAllocator.deallocate.Statement.{statement}
use Rattle.region_heap.proofs.heap.RegionHeapAllocator.deallocate.Code as compiled

pub deallocate_spec : {M : Type 1} → statement M
deallocate_spec 𝓤 𝓛 𝓜 𝓡 wired =
    let H = 𝓛.H in let T = ended in let c = clauses 𝓛 𝓜.mem 𝓡.returns in let fn : Fn = compiled.function in
    let stays : Stays T.signature.params T.kept = (stay_dropped (slot_at 0 T.signature.params) T.kept.0, (stay_dropped (slot_at 1 T.signature.params) T.kept.1.0, (stay_dropped (slot_at 2 T.signature.params) T.kept.1.1.0, (stay_dropped (slot_at 3 T.signature.params) T.kept.1.1.1.0, tt)))) in
    let C = (tables 𝓤 H 𝓜 𝓡 𝓡.env).C in let Λ = (tables 𝓤 H 𝓜 𝓡 𝓡.env).Λ in
    proved_at 𝓛 T stays c 𝓜 𝓡 (Goes-dropped 𝓛 1 (slot_at 0 T.signature.params) T.kept.0 (λ κs x f. refl), (Goes-dropped 𝓛 1 (slot_at 1 T.signature.params) T.kept.1.0 (λ κs x f. refl), (Goes-dropped 𝓛 1 (slot_at 2 T.signature.params) T.kept.1.1.0 (λ κs x f. refl), (Goes-dropped 𝓛 1 (slot_at 3 T.signature.params) T.kept.1.1.1.0 (λ κs x f. refl), tt)))) #self fn (compiled.unfolded 𝓤 H 𝓜 𝓡 wired) (λ z are.
    let Post : Val → SProp 𝓤 = (walk_of 𝓛 T stays c).post z in
    let a = z.0.3 in let vss = z.0.4 in let p : Place = a.0.now.slot in let τ : Ty = z.1 in
    let from : Ptr = a.1.0 in let n : ℕ = a.1.1.0 in let al : ℕ = a.1.1.1.0 in let m : ℕ = units_for (size τ) in
    let me : Val = vptr a.0.ref_ptr.0 a.0.ref_ptr.1 in
    let k₀ = triple_of 𝓛 sizer.signature (sizer.spec 𝓛 𝓜.mem 𝓡.returns) in
    let y₀ : k₀.Ghost = ((tt, tt, tt, (n, tt), (vint w64 n ∷ [], tt)), tt) in
    let k = triple_of 𝓛 callee.signature (callee.spec 𝓛 𝓜.mem 𝓡.returns) in
    let Asked : Type 0 = (capped (size τ) ≡ n) × (capped (align τ) ≡ al) in
    qed 𝓛 ((raw (alive 𝓛 T.signature z.0.0 z.0.1) ⊛ ‵ (owns (types_at T.signature.params z.0.0) a vss)) ∷ (raw (fact 𝓤 Asked) ⊛ ‵ (room_for τ from) ⊛ ‵ (block_token p τ from)) ∷ []) ∵
    move ! (1 ∷ []) $ split3 ! $ heard ! Asked (λ asked. move ! (1 ∷ []) $ fpick ! (λ at. fpick ! (λ placed. move ! (1 ∷ 0 ∷ []) $
    use2 𝓛 (‵ (block_owned p at m)) (apply∗ 𝓤 (sem 𝓛 (room_for τ from)) (sem 𝓛 (block_owned p at m))) $
    let ptr : Ptr = unit_ptr p at in let inside : at + m < p.units = placed.1 in let low : 16 * p.units < 2 ^ 63 = placed.2 in let short : size τ < 2 ^ 63 = omega arith in let same : size τ ≡ n = sym (capped_is (size τ) (omega arith)) ∙ asked.0 in
    move ! (1 ∷ []) $ split ! $ move ! (1 ∷ []) $ fsplit ! $ fsplit ! $ keep ! (4 ∷ 1 ∷ 3 ∷ []) $
    regoal ! (λ (us : List Val). prop (WpFn 𝓤 H C Λ fn us Post)) (λ i. are.0.0 i ++ ((are.1.0 ∙ ap (λ (u : Ptr). ptr_val u ∷ []) placed.0) i ++ (are.1.1.0.0 i ++ (are.1.1.1.0.0 i ++ [])))) refl $
    enter ! C Λ fn (me ∷ vptr p.object (p.start + 16 * at) ∷ vint w64 n ∷ vint w64 al ∷ []) Post $
    alloc_all ! (λ l. pass_all ! refl ((tt, tt), ((tt, tt), ((tt, record { fits = are.1.1.0.1 }), ((tt, record { fits = are.1.1.1.0.1 }), tt)))) $ let En : Env 𝓤 𝓛.H = env fn.locals l in
    use0 𝓛 (raw (fact 𝓤 (n < 2 ^ 63))) (fact_i 𝓤 (n < 2 ^ 63) (emp 𝓤) (omega arith)) $ nothing ! $ flt_i ! n (2 ^ 64) are.1.1.0.1 $ feq_i ! (List Val) (vint w64 n ∷ []) (vint w64 n ∷ []) refl $ fjoin ! $ fjoin ! $ nothing ! $ join ! $ join ! $ use1 𝓛 (raw (k₀.pre y₀)) (id⊢ 𝓤 _) $
    calls_at ! (fm 𝓛 𝓜 𝓡) k₀ (counts 𝓤 𝓛 𝓜 𝓡 (compiled.calls-region_heap::heap::units_for 𝓡.env wired)) y₀ (and_then ! (get ! refl) (no_more !)) (λ v.
    use1 𝓛 (later (some (λ (j : ℕ). (‵ ftrue ⊛ ‵ (usize.own_val j (v ∷ []))) ⊛ some (λ (ls : Lasts sizer.ended tt y₀.0.3). ‵ (lasts sizer.ended tt y₀.0.3 ls) ⊛ raw (fact 𝓤 (j ≡ units_for n)))))) (id⊢ 𝓤 (k₀.post y₀ v)) $
    await ! tt $ pick ! (λ j. split ! $ move ! (1 ∷ []) $ pick ! (λ _. split ! $ drop ! $ heard ! (j ≡ units_for n) (λ said. split ! $ drop ! $ fsplit ! $ feq_l ! (λ e. drop ! $ let fits : m < 2 ^ 64 = omega arith in
    lands_as ! (ap only e ∙ ap (vint w64) (said ∙ ap units_for (sym same))) refl (tt, record { fits = fits }) $
    sets ! (agg ! (and_then ! (get ! refl) (no_more !))) refl (tt, (tt, tt)) $
    -- [the block's memory; the heap; the tokens]
    let x : (block.the_row).Denot = record { ptr = ptr; place = p; at = at; units = m; placed = (refl, inside, low) } in
    let y : k.Ghost = ((z.0.0, z.0.1, z.0.2, (a.0, (x, (m, tt))), (me ∷ [], (list_val ptr ∷ [], (vint w64 m ∷ [], tt)))), tt) in
    use0 𝓛 (‵ (list_own ptr (list_val ptr ∷ []))) (list_made 𝓛 ptr tt) $ fjoin ! $
    nothing ! $ flt_i ! m (2 ^ 64) fits $ feq_i ! (List Val) (vint w64 m ∷ []) (vint w64 m ∷ []) refl $ fjoin ! $ fjoin ! $ move ! (1 ∷ 0 ∷ []) $ fjoin ! $
    move ! (1 ∷ []) $ feq_i ! (List Val) (me ∷ []) (me ∷ []) refl $ fjoin ! $ fjoin ! $ move ! (1 ∷ 0 ∷ []) $ join ! $
    let Given : Type 0 = (p ≡ p) × (m ≡ m) in
    use0 𝓛 (raw (fact 𝓤 Given)) (fact_i 𝓤 Given (emp 𝓤) (refl, refl)) $ move ! (1 ∷ 0 ∷ []) $ join ! $ use1 𝓛 (raw (k.pre y)) (id⊢ 𝓤 _) $
    calls_at ! (fm 𝓛 𝓜 𝓡) k (gives 𝓤 𝓛 𝓜 𝓡 (compiled.calls-region_heap::heap::RegionHeap::give 𝓡.env wired)) y (and_then ! (get ! refl) (and_then ! (get ! refl) (and_then ! (get ! refl) (no_more !)))) (λ u.
    use1 𝓛 (later (some (λ (t : Unit {0}). (raw (alive 𝓛 T.signature z.0.0 z.0.1) ⊛ ‵ (unit.own_val t (u ∷ []))) ⊛ some (λ (ls : Lasts callee.ended z.0.0 y.0.3). ‵ (lasts callee.ended z.0.0 y.0.3 ls) ⊛ ‵ ftrue)))) (id⊢ 𝓤 (k.post y u)) $
    await ! tt $ pick ! (λ t. split ! $ move ! (1 ∷ []) $ drop ! $ split ! $ move ! (1 ∷ []) $ feq_l ! (λ e'. lands_as ! (ap only e') refl (tt, tt) $
    sets ! (of_opd ! (unit_lit !)) refl (tt, tt) $
    returns ! (look_at ! 0 refl) $ free_all ! refl $
    feq_i ! (List Val) (vunit ∷ []) (vunit ∷ []) refl $ nothing ! $ nothing ! $ nothing ! $ fjoin ! $ nothing ! $ fjoin ! $ nothing ! $ fjoin ! $ nothing ! $ fjoin ! $ move ! (3 ∷ 0 ∷ 2 ∷ 1 ∷ []) $
    by ! (leaves 𝓛 T stays c z (vunit) (tt) (tt, (tt, (tt, (tt, tt)))) (tt, (tt, (tt, (tt, tt))))))))))))))))))
