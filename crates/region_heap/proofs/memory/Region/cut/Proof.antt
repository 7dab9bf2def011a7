-- `cut` hands out the memory in two parts. Assumes `Logic`.
use Rattle.std.proofs.Common.{◌≡◌, ℕ, ◌+◌, ◌*◌, ◌^◌, ◌<◌, List, [], ◌∷◌, ◌++◌, refl, ap, ◌∙◌, arith, w64}
use mir.Syntax.{Fn}
use mir.Val.{Val, vint, vptr}
use base.Logic.{SProp, emp, never, id⊢}
use base.Fml.{froom}
use prog.Wp.{Env, WpFn}
use contract.Monad.{fact, fact_i}
use contract.Running.{tables}
use types.Kit.{‵, raw, ◌⊛◌, prop, at_ret, ◌$◌, ◌∵◌, !, qed, by, move, drop, use0, use1, use2, split, regoal, fsplit, fjoin}
use types.Part.{whole, sub, agg}
use types.Run.{stop, fld, lit, bin, of_opd, no_more, and_then, first, blocks, exec, returns, enter}
use types.ByLocal.{alloc_all, pass_all, free_all, look_at, get, get_in, sets, sets_last, is, env}
use denote.RattleType.{owns}
use denote.RawPtr.{Ptr, block_ptr, in_a_block}
use denote.Signature.{types_at}
use denote.Steps.{nothing, heard}
use denote.Struct.Tuple.{Tuple}
use denote.Triple.Entry.{alive}
use denote.Triple.Walked.{Stays, stay_dropped, walk_of, Goes-dropped}
use Rattle.core.proofs.alloc.Calls.{Goes-blank}
use Rattle.core.proofs.alloc.Shapes.{after}
use Rattle.std_alloc.proofs.Pairs.{pair_of, pair_val}
use Rattle.std.proofs.raw_atomic.Walks.{proved_at, leaves}
use Rattle.linked_list_allocator.proofs.Walks.{slot_at}
use Rattle.linked_list_allocator.proofs.Values.{sized_val, sized_own, sized_made, sized_told}
use Rattle.linked_list_allocator.proofs.Nodes.{cuts, resized}
use Rattle.linked_list_allocator.specs.Ownership.{bytes_at, units_of}
use Rattle.region_heap.specs.contracts.memory.Region as region
use Rattle.region_heap.specs.contracts.memory.Region.cut.{ended, clauses}
use Rattle.region_heap.specs.contracts.memory.Region.cut.Key.{name as #self}
use Rattle.region_heap.proofs.memory.Region.cut.Statement.{statement}
use Rattle.region_heap.proofs.memory.Region.cut.Code as compiled

pub cut_spec : {M : Type 1} → statement M
cut_spec 𝓤 𝓛 𝓜 𝓡 wired =
    let H = 𝓛.H in let T = ended in let c = clauses 𝓛 𝓜.mem 𝓡.returns in let fn : Fn = compiled.function in
    let stays : Stays T.signature.params T.kept = (stay_dropped (slot_at 0 T.signature.params) T.kept.0, (stay_dropped (slot_at 1 T.signature.params) T.kept.1.0, (stay_dropped (slot_at 2 T.signature.params) T.kept.1.1.0, tt))) in
    let C = (tables 𝓤 H 𝓜 𝓡 𝓡.env).C in let Λ = (tables 𝓤 H 𝓜 𝓡 𝓡.env).Λ in
    proved_at 𝓛 T stays c 𝓜 𝓡 (Goes-blank 𝓛 0 (slot_at 0 T.signature.params) T.kept.0 (λ κs x f. tt), (Goes-dropped 𝓛 0 (slot_at 1 T.signature.params) T.kept.1.0 (λ κs x f. refl), (Goes-dropped 𝓛 0 (slot_at 2 T.signature.params) T.kept.1.1.0 (λ κs x f. refl), tt))) #self fn (compiled.unfolded 𝓤 H 𝓜 𝓡 wired) (λ z are.
    let Post : Val → SProp 𝓤 = (walk_of 𝓛 T stays c).post z in
    let a = z.0.3 in let vss = z.0.4 in
    let x = a.0 in let m : ℕ = a.1.0 in let k : ℕ = a.1.1.0 in let n : ℕ = x.units in
    let known = sized_told x.start n vss.0 are.0.0 in let fits = known.1 in
    let Asked : Type 0 = m + k ≡ n in
    qed 𝓛 ((raw (alive 𝓛 T.signature z.0.0 z.0.1) ⊛ ‵ (owns (types_at T.signature.params z.0.0) a vss)) ∷ raw (fact 𝓤 Asked) ∷ []) ∵ move ! (1 ∷ []) $ heard ! Asked (λ asked. split ! $ move ! (1 ∷ []) $
    fsplit ! $ fsplit ! $ drop ! $ move ! (1 ∷ []) $ drop ! $ in_a_block ! x.start (λ p. bytes_at p (16 * n)) (id⊢ 𝓤 (never 𝓤)) (λ b o at.
    let few : 16 * n < 2 ^ 63 = x.few in let start : Ptr = block_ptr b o in let end : ℕ = o + 16 * m in let behind : Ptr = block_ptr b end in
    use1 𝓛 (‵ (froom (units_of (16 * m + 16 * k)) b o)) (resized 𝓛 b o (16 * n) (16 * m + 16 * k) (omega (arith, asked))) $
    use1 𝓛 (‵ (froom (units_of (16 * m)) b o) ⊛ ‵ (froom (units_of (16 * k)) b end)) (cuts 𝓛 b o (16 * m) (16 * k) (omega arith)) $ split ! $
    regoal ! (λ (us : List Val). prop (WpFn 𝓤 H C Λ fn us Post)) (λ i. (known.0 ∙ ap (λ (q : Ptr). sized_val q n ∷ []) at) i ++ (are.1.0.0 i ++ (are.1.1.0.0 i ++ []))) refl $
    enter ! C Λ fn (sized_val start n ∷ vint w64 m ∷ vint w64 k ∷ []) Post $
    alloc_all ! (λ l. pass_all ! refl ((tt, (tt, (record { fits = fits }, tt))), ((tt, record { fits = are.1.0.1 }), ((tt, record { fits = are.1.1.0.1 }), tt))) $ let En : Env 𝓤 𝓛.H = env fn.locals l in
    sets ! (of_opd ! (get_in ! (fld ! refl (stop !)) (sub ! 0 refl (whole !)))) refl (tt, tt) $
    first ! $ blocks ! $
    sets ! (bin ! (lit ! tt) (get ! refl) (record { fits = omega (arith, asked) })) refl (tt, record { fits = omega (arith, asked) }) $
    sets_last ! (is ! (bin ! (get ! refl) (get ! refl) tt) (ap (vptr b) (omega arith))) refl (tt, tt) $
    exec ! C Λ En (after 2 fn.body) (at_ret En Post) $
    sets ! (of_opd ! (get ! refl)) refl (tt, tt) $
    sets ! (agg ! (and_then ! (get ! refl) (and_then ! (get ! refl) (no_more !)))) refl (tt, (tt, (record { fits = are.1.0.1 }, tt))) $
    sets ! (agg ! (and_then ! (get ! refl) (and_then ! (get ! refl) (no_more !)))) refl (tt, (tt, (record { fits = are.1.1.0.1 }, tt))) $
    sets ! (agg ! (and_then ! (get ! refl) (and_then ! (get ! refl) (no_more !)))) refl (tt, ((tt, (record { fits = are.1.0.1 }, tt)), ((tt, (record { fits = are.1.1.0.1 }, tt)), tt))) $
    returns ! (look_at ! 0 refl) $ free_all ! refl $
    -- [the first part's memory; the second's; the tokens]
    let y : (region.the_row).Denot = record { start = start; units = m; few = omega (arith, asked, few) } in
    let w : (region.the_row).Denot = record { start = behind; units = k; few = omega (arith, asked, few) } in
    use0 𝓛 (‵ (sized_own start m (sized_val start m ∷ []))) (sized_made 𝓛 start m are.1.0.1) $ fjoin ! $ move ! (1 ∷ []) $
    use0 𝓛 (‵ (sized_own behind k (sized_val behind k ∷ []))) (sized_made 𝓛 behind k are.1.1.0.1) $ fjoin ! $ move ! (1 ∷ []) $
    use2 𝓛 (‵ ((Tuple (region.the_row ∷ region.the_row ∷ [])).own_val (y, w) (pair_val (sized_val start m) (sized_val behind k) ∷ []))) (pair_of 𝓛 region.the_row region.the_row y w (sized_val start m) (sized_val behind k)) $
    let Said : Type 0 = (m ≡ m) × (k ≡ k) in
    use0 𝓛 (raw (fact 𝓤 Said)) (fact_i 𝓤 Said (emp 𝓤) (refl, refl)) $ nothing ! $ nothing ! $ fjoin ! $ nothing ! $ fjoin ! $ nothing ! $ fjoin ! $ move ! (3 ∷ 0 ∷ 2 ∷ 1 ∷ []) $
    by ! (leaves 𝓛 T stays c z (pair_val (sized_val start m) (sized_val behind k)) (y, w) (tt, (tt, (tt, tt))) (tt, (tt, (tt, tt))))))))
