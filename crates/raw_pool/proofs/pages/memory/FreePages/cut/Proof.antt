-- `cut` takes pages out of those that are free, as bytes of which none is set. Assumes `Logic`.
use Rattle.std.proofs.Common.{◌≡◌, ℕ, ◌+◌, ◌*◌, ◌^◌, ◌<◌, ◌≤◌, List, [], ◌∷◌, ◌++◌, length, refl, ap, ◌∙◌, arith, lit<, w64}
use mir.Syntax.{Fn}
use mir.Val.{Val, vint, vptr}
use base.Logic.{SProp, emp}
use base.Fml.{froom}
use prog.Wp.{Env, WpFn}
use contract.Monad.{fact, fact_i}
use contract.Running.{tables}
use types.Kit.{‵, raw, ◌⊛◌, prop, at_ret, ◌$◌, ◌∵◌, !, qed, by, move, drop, use0, use1, use2, split, regoal, fsplit, fjoin, join}
use types.Part.{whole, sub, agg}
use types.Run.{stop, fld, lit, bin, of_opd, no_more, and_then, first, blocks, exec, returns, enter}
use types.ByLocal.{alloc_all, pass_all, free_all, look_at, get, get_in, sets, sets_last, is, env}
use denote.RattleType.{owns}
use denote.RawPtr.{Ptr, block_ptr}
use denote.Signature.{types_at}
use denote.Steps.{nothing, heard}
use denote.Struct.Tuple.{Tuple}
use denote.Triple.Entry.{alive}
use denote.Triple.Walked.{Stays, stay_dropped, walk_of, Goes-dropped}
use Rattle.core.proofs.alloc.Calls.{Goes-blank}
use Rattle.core.proofs.alloc.Shapes.{after}
use Rattle.std_alloc.proofs.Pairs.{pair_of, pair_val}
use Rattle.std.proofs.raw_atomic.Walks.{proved_at, leaves}
use Rattle.linked_list_allocator.proofs.Walks.{slot_at}
use Rattle.linked_list_allocator.proofs.Values.{list_val, list_own, list_told, list_made}
use Rattle.raw_pool.specs.Ownership.{byte_row}
use Rattle.raw_pool.specs.declared.raw_bytes.RawBytes.{RawBytes}
use Rattle.raw_pool.specs.contracts.raw_bytes.RawBytes as row
use Rattle.raw_pool.proofs.RawSteps.{row_val, memory, row_made}
use Rattle.raw_pool.specs.PageMarks.{AreFree, remarked}
use Rattle.raw_pool.specs.PagePlaces.{ArePages, Place, page_ptr}
use Rattle.raw_pool.specs.PageOwnership.{free_from}
use Rattle.raw_pool.proofs.PageUnits.{takes, length-remarked}
use Rattle.raw_pool.proofs.PageRows.{bare, none_set}
use Rattle.raw_pool.specs.contracts.pages.memory.FreePages as free
use Rattle.raw_pool.specs.contracts.pages.memory.FreePages.cut.{ended, clauses}
use Rattle.raw_pool.specs.contracts.pages.memory.FreePages.cut.Key.{name as #self}
use Rattle.raw_pool.proofs.pages.memory.FreePages.cut.Statement.{statement}
use Rattle.raw_pool.proofs.pages.memory.FreePages.cut.Code as compiled

pub cut_spec : {M : Type 1} → statement M
cut_spec 𝓤 𝓛 𝓜 𝓡 wired =
    let H = 𝓛.H in let T = ended in let c = clauses 𝓛 𝓜.mem 𝓡.returns in let fn : Fn = compiled.function in
    let stays : Stays T.signature.params T.kept = (stay_dropped (slot_at 0 T.signature.params) T.kept.0, (stay_dropped (slot_at 1 T.signature.params) T.kept.1.0, (stay_dropped (slot_at 2 T.signature.params) T.kept.1.1.0, (stay_dropped (slot_at 3 T.signature.params) T.kept.1.1.1.0, tt)))) in
    let C = (tables 𝓤 H 𝓜 𝓡 𝓡.env).C in let Λ = (tables 𝓤 H 𝓜 𝓡 𝓡.env).Λ in
    proved_at 𝓛 T stays c 𝓜 𝓡 (Goes-blank 𝓛 0 (slot_at 0 T.signature.params) T.kept.0 (λ κs x f. tt), (Goes-dropped 𝓛 0 (slot_at 1 T.signature.params) T.kept.1.0 (λ κs x f. refl), (Goes-dropped 𝓛 0 (slot_at 2 T.signature.params) T.kept.1.1.0 (λ κs x f. refl), (Goes-dropped 𝓛 0 (slot_at 3 T.signature.params) T.kept.1.1.1.0 (λ κs x f. refl), tt)))) #self fn (compiled.unfolded 𝓤 H 𝓜 𝓡 wired) (λ z are.
    let Post : Val → SProp 𝓤 = (walk_of 𝓛 T stays c).post z in
    let a = z.0.3 in let vss = z.0.4 in let f = a.0 in let at : ℕ = a.1.0 in let pages : ℕ = a.1.1.0 in let offset : ℕ = a.1.1.1.0 in
    let p : Place = f.place in let b = p.object in let o = p.start in
    let Inside : Type 0 = (0 < pages) × (at + pages ≤ p.pages) × (offset ≡ 4096 * at) in let Are : Type 0 = AreFree f.marks at pages in
    qed 𝓛 ((raw (alive 𝓛 T.signature z.0.0 z.0.1) ⊛ ‵ (owns (types_at T.signature.params z.0.0) a vss)) ∷ (raw (fact 𝓤 Inside) ⊛ raw (fact 𝓤 Are)) ∷ []) ∵
    move ! (1 ∷ []) $ split ! $ heard ! Inside (λ inside. heard ! Are (λ are_free. split ! $ move ! (1 ∷ []) $
    fsplit ! $ fsplit ! $ drop ! $ move ! (1 ∷ []) $ drop ! $
    let small : 4096 * p.pages < 2 ^ 63 = f.placed.0.1 in let many : length f.marks ≡ p.pages = f.placed.1 in let within : at + pages ≤ p.pages = inside.1 in let there : offset ≡ 4096 * at = inside.2 in
    let start : Ptr = block_ptr b o in let ptr : Ptr = page_ptr p at in let x : ℕ = o + 4096 * at in let k : ℕ = 4096 * pages in let low : k < 2 ^ 63 = omega arith in
    let r : RawBytes = bare ptr k low in let new = remarked f.marks at pages 1 in
    use1 𝓛 (‵ (free_from b o new) ⊛ ‵ (froom (byte_row k) b x)) (takes 𝓛 b o at pages f.marks inside.0 (omega arith) are_free) $ split ! $ move ! (1 ∷ []) $
    use1 𝓛 (‵ (memory r b x)) (none_set 𝓛 b x k low) $
    regoal ! (λ (us : List Val). prop (WpFn 𝓤 H C Λ fn us Post)) (λ i. ((list_told f.start vss.0 are.0.0).0 ∙ ap (λ (q : Ptr). list_val q ∷ []) f.placed.0.0) i ++ (are.1.0.0 i ++ (are.1.1.0.0 i ++ (are.1.1.1.0.0 i ++ [])))) refl $
    enter ! C Λ fn (list_val start ∷ vint w64 at ∷ vint w64 pages ∷ vint w64 offset ∷ []) Post $
    alloc_all ! (λ l. pass_all ! refl ((tt, (tt, tt)), ((tt, record { fits = are.1.0.1 }), ((tt, record { fits = are.1.1.0.1 }), ((tt, record { fits = are.1.1.1.0.1 }), tt)))) $ let En : Env 𝓤 𝓛.H = env fn.locals l in
    sets ! (of_opd ! (get_in ! (fld ! refl (stop !)) (sub ! 0 refl (whole !)))) refl (tt, tt) $
    first ! $ blocks ! $
    sets_last ! (is ! (bin ! (get ! refl) (get ! refl) tt) (ap (vptr b) (omega arith))) refl (tt, tt) $
    exec ! C Λ En (after 2 fn.body) (at_ret En Post) $
    sets ! (of_opd ! (get ! refl)) refl (tt, tt) $
    sets ! (agg ! (and_then ! (get ! refl) (no_more !))) refl (tt, (tt, tt)) $
    sets ! (agg ! (and_then ! (get ! refl) (and_then ! (lit ! tt) (no_more !)))) refl (tt, (tt, (record { fits = lit< tt }, tt))) $
    sets ! (agg ! (and_then ! (get ! refl) (and_then ! (get ! refl) (no_more !)))) refl (tt, ((tt, tt), ((tt, (record { fits = lit< tt }, tt)), tt))) $
    returns ! (look_at ! 0 refl) $ free_all ! refl $
    -- [the bytes' memory; the free pages; the tokens]
    let y : (free.the_row).Denot = record { start = start; place = p; marks = new; placed = ((refl, small), length-remarked f.marks at pages 1 (omega arith) ∙ many) } in
    row_made ! r b x refl (lit< tt) $ move ! (1 ∷ []) $ use0 𝓛 (‵ (list_own start (list_val start ∷ []))) (list_made 𝓛 start tt) $ fjoin ! $
    use2 𝓛 (‵ ((Tuple (free.the_row ∷ row.the_row ∷ [])).own_val (y, r) (pair_val (list_val start) (row_val b x 0) ∷ []))) (pair_of 𝓛 free.the_row row.the_row y r (list_val start) (row_val b x 0)) $
    let Left : Type 0 = (p ≡ p) × (new ≡ new) in let Cut : Type 0 = (r.set ≡ []) × ArePages p at pages r in
    use0 𝓛 (raw (fact 𝓤 Cut)) (fact_i 𝓤 Cut (emp 𝓤) (refl, (within, refl, refl))) $ use0 𝓛 (raw (fact 𝓤 Left)) (fact_i 𝓤 Left (emp 𝓤) (refl, refl)) $ join ! $
    nothing ! $ nothing ! $ fjoin ! $ nothing ! $ fjoin ! $ nothing ! $ fjoin ! $ nothing ! $ fjoin ! $ move ! (3 ∷ 0 ∷ 2 ∷ 1 ∷ []) $
    by ! (leaves 𝓛 T stays c z (pair_val (list_val start) (row_val b x 0)) (y, r) (tt, (tt, (tt, (tt, tt)))) (tt, (tt, (tt, (tt, tt)))))))))
