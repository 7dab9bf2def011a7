-- `put` makes memory of a row and puts it back to the free pages. Assumes `Logic`.
use Rattle.std.proofs.Common.{◌≡◌, ℕ, ◌+◌, ◌*◌, ◌^◌, ◌<◌, ◌≤◌, List, [], ◌∷◌, ◌++◌, length, refl, sym, ap, ◌∙◌, arith, w64}
use mir.Syntax.{Fn}
use mir.Val.{Val, vint}
use base.Logic.{SProp, emp}
use base.Fml.{froom}
use prog.Wp.{Env, WpFn}
use contract.Monad.{fact, fact_i}
use contract.Running.{tables}
use types.Kit.{‵, raw, ◌⊛◌, prop, ◌$◌, ◌∵◌, !, qed, by, move, drop, use0, use1, use2, split, regoal, rewrite, fsplit, fjoin}
use types.Part.{whole, sub, agg}
use types.Run.{stop, fld, of_opd, no_more, and_then, returns, enter}
use types.ByLocal.{alloc_all, pass_all, free_all, look_at, get, get_in, sets, env}
use denote.RattleType.{owns}
use denote.RawPtr.{Ptr, block_ptr}
use denote.Signature.{types_at}
use denote.Steps.{nothing, heard}
use denote.Triple.Entry.{alive}
use denote.Triple.Walked.{Stays, stay_dropped, walk_of, Goes-dropped}
use Rattle.core.proofs.alloc.Calls.{Goes-blank}
use Rattle.std.proofs.raw_atomic.Walks.{proved_at, leaves}
use Rattle.linked_list_allocator.proofs.Walks.{slot_at}
use Rattle.linked_list_allocator.proofs.Values.{list_val, list_own, list_told, list_made}
use Rattle.raw_pool.specs.Ownership.{byte_row, row_owned}
use Rattle.raw_pool.specs.declared.raw_bytes.RawBytes.{RawBytes}
use Rattle.raw_pool.proofs.RawSteps.{row_val, row_had}
use Rattle.raw_pool.specs.PageMarks.{remarked}
use Rattle.raw_pool.specs.PagePlaces.{Place, page_ptr}
use Rattle.raw_pool.specs.PageOwnership.{free_from}
use Rattle.raw_pool.proofs.PageUnits.{puts_in, length-remarked}
use Rattle.raw_pool.proofs.PageRows.{unset}
use Rattle.raw_pool.specs.contracts.pages.memory.FreePages as free
use Rattle.raw_pool.specs.contracts.pages.memory.FreePages.put.{ended, clauses}
use Rattle.raw_pool.specs.contracts.pages.memory.FreePages.put.Key.{name as #self}
use Rattle.raw_pool.proofs.pages.memory.FreePages.put.Statement.{statement}
use Rattle.raw_pool.proofs.pages.memory.FreePages.put.Code as compiled

pub put_spec : {M : Type 1} → statement M
put_spec 𝓤 𝓛 𝓜 𝓡 wired =
    let H = 𝓛.H in let T = ended in let c = clauses 𝓛 𝓜.mem 𝓡.returns in let fn : Fn = compiled.function in
    let stays : Stays T.signature.params T.kept = (stay_dropped (slot_at 0 T.signature.params) T.kept.0, (stay_dropped (slot_at 1 T.signature.params) T.kept.1.0, (stay_dropped (slot_at 2 T.signature.params) T.kept.1.1.0, (stay_dropped (slot_at 3 T.signature.params) T.kept.1.1.1.0, tt)))) in
    let C = (tables 𝓤 H 𝓜 𝓡 𝓡.env).C in let Λ = (tables 𝓤 H 𝓜 𝓡 𝓡.env).Λ in
    proved_at 𝓛 T stays c 𝓜 𝓡 (Goes-blank 𝓛 0 (slot_at 0 T.signature.params) T.kept.0 (λ κs x f. tt), (Goes-blank 𝓛 0 (slot_at 1 T.signature.params) T.kept.1.0 (λ κs x f. tt), (Goes-dropped 𝓛 0 (slot_at 2 T.signature.params) T.kept.1.1.0 (λ κs x f. refl), (Goes-dropped 𝓛 0 (slot_at 3 T.signature.params) T.kept.1.1.1.0 (λ κs x f. refl), tt)))) #self fn (compiled.unfolded 𝓤 H 𝓜 𝓡 wired) (λ z are.
    let Post : Val → SProp 𝓤 = (walk_of 𝓛 T stays c).post z in
    let a = z.0.3 in let vss = z.0.4 in let f = a.0 in let r : RawBytes = a.1.0 in let at : ℕ = a.1.1.0 in let pages : ℕ = a.1.1.1.0 in
    let p : Place = f.place in let b = p.object in let o = p.start in
    let Asked : Type 0 = (at + pages ≤ p.pages) × (r.room ≡ 4096 * pages) × (r.ptr ≡ page_ptr p at) in
    qed 𝓛 ((raw (alive 𝓛 T.signature z.0.0 z.0.1) ⊛ ‵ (owns (types_at T.signature.params z.0.0) a vss)) ∷ raw (fact 𝓤 Asked) ∷ []) ∵
    move ! (1 ∷ []) $ heard ! Asked (λ asked. split ! $ move ! (1 ∷ []) $
    fsplit ! $ fsplit ! $ drop ! $ move ! (1 ∷ []) $ fsplit ! $ row_had ! r vss.1.0 (λ b' o' at₁ e₁ fits₁. move ! (1 ∷ []) $ drop ! $
    let small : 4096 * p.pages < 2 ^ 63 = f.placed.0.1 in let inside : at + pages ≤ p.pages = asked.0 in let many : length f.marks ≡ p.pages = f.placed.1 in
    let start : Ptr = block_ptr b o in let x : ℕ = o + 4096 * at in let new = remarked f.marks at pages 0 in
    let here : block_ptr b' o' ≡ block_ptr b x = sym at₁ ∙ asked.2 in
    rewrite ! 0 (λ (q : Ptr). ‵ (row_owned q r.len r.room r.set)) here refl $ use1 𝓛 (‵ (froom (byte_row r.room) b x)) (unset 𝓛 b x r) $
    rewrite ! 0 (λ (j : ℕ). ‵ (froom (byte_row j) b x)) asked.1 refl $ move ! (1 ∷ 0 ∷ []) $
    use2 𝓛 (‵ (free_from b o new)) (puts_in 𝓛 b o at pages f.marks (omega arith)) $
    regoal ! (λ (us : List Val). prop (WpFn 𝓤 H C Λ fn us Post)) (λ i. ((list_told f.start vss.0 are.0.0).0 ∙ ap (λ (q : Ptr). list_val q ∷ []) f.placed.0.0) i ++ (e₁ i ++ (are.1.1.0.0 i ++ (are.1.1.1.0.0 i ++ [])))) refl $
    enter ! C Λ fn (list_val start ∷ row_val b' o' r.len ∷ vint w64 at ∷ vint w64 pages ∷ []) Post $
    alloc_all ! (λ l. pass_all ! refl ((tt, (tt, tt)), ((tt, (tt, (record { fits = fits₁ }, tt))), ((tt, record { fits = are.1.1.0.1 }), ((tt, record { fits = are.1.1.1.0.1 }), tt)))) $ let En : Env 𝓤 𝓛.H = env fn.locals l in
    sets ! (of_opd ! (get_in ! (fld ! refl (stop !)) (sub ! 0 refl (whole !)))) refl (tt, tt) $
    sets ! (agg ! (and_then ! (get ! refl) (no_more !))) refl (tt, (tt, tt)) $
    returns ! (look_at ! 0 refl) $ free_all ! refl $
    -- [the free pages; the tokens]
    let y : (free.the_row).Denot = record { start = start; place = p; marks = new; placed = ((refl, small), length-remarked f.marks at pages 0 (omega arith) ∙ many) } in
    use0 𝓛 (‵ (list_own start (list_val start ∷ []))) (list_made 𝓛 start tt) $ fjoin ! $
    let Left : Type 0 = (p ≡ p) × (new ≡ new) in use0 𝓛 (raw (fact 𝓤 Left)) (fact_i 𝓤 Left (emp 𝓤) (refl, refl)) $
    nothing ! $ nothing ! $ fjoin ! $ nothing ! $ fjoin ! $ nothing ! $ fjoin ! $ nothing ! $ fjoin ! $ move ! (3 ∷ 0 ∷ 2 ∷ 1 ∷ []) $
    by ! (leaves 𝓛 T stays c z (list_val start) y (tt, (tt, (tt, (tt, tt)))) (tt, (tt, (tt, (tt, tt)))))))))
